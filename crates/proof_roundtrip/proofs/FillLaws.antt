-- WHAT A READER STORES: where it passes, the words of its region, which were 0, are within the limits, and the others are as they were. Assumes nothing.
use Prim.Native.Nat.{ℕ, ◌+◌, ◌≤◌, ◌<◌}
use mathlib.Core.Path.{◌≡◌, ◌∙◌, refl, sym, ap, subst}
use mathlib.Core.Bool.{true, false, false≢true}
use mathlib.Core.List.{List}
use mathlib.Core.Logic.{◌⊎◌, inl, inr, ⊎_elim}
use native.Mathlib.Decide.{ℕ_discrete, dec_le, dec_lt}
use native.Mathlib.Omega.{arith}
use lib.ListN.{length, set, length-set}
use lib.Seq.{get_or-set_same, get_or-set_other}
use Rattle.base_words.specs.Words.{at, greatest}
use Rattle.base_table.specs.Places.{element_words}
use Rattle.std.specs.declared.result.Result.TheVariants.{Ok, Err}
use Rattle.text_readers.specs.Reading.{Read, Parsed, Reader, passed_to, refused_at, if_at, onward, ◌then◌, sign, assign}
use Rattle.text_parts.specs.Parts.{store}
use Rattle.proof_roundtrip.proofs.ReadsLaws.{Both}
use Rattle.proof_roundtrip.proofs.NumberReads.{Span}

-- a refusal does not pass
pub refused_passed : (n p q : ℕ) (x y : List ℕ) → refused_at n p x ≡ passed_to q y → ⊥
unfolding if_at
refused_passed n p q x y e = false≢true (ap (λ (r : Parsed). if_at r.end (λ k. true) false) e)

pub same_words : (p q : ℕ) (x y : List ℕ) → passed_to p x ≡ passed_to q y → x ≡ y
same_words p q x y e = ap (λ (r : Parsed). r.words) e

-- what was read before, where reading went on
pub record Before (r : Parsed) (go : ℕ → List ℕ → Parsed) (z : Parsed) : Type 0 where
  pub place : ℕ
  pub words : List ℕ
  pub first : r ≡ passed_to place words
  pub further : go place words ≡ z

pub onward_passed : (r : Parsed) (go : ℕ → List ℕ → Parsed) (q : ℕ) (z : List ℕ) → onward r go ≡ passed_to q z → Before r go (passed_to q z)
onward_passed r go q z e = by r.end refl
  where
    by : (s : Read) → r.end ≡ s → Before r go (passed_to q z)
    by (Ok a) h = record { place = a; words = r.words; first = ap (λ (k : Read). record { end = k; words = r.words }) h; further = sym (on a h) ∙ e }
      where
        on : (a : ℕ) → r.end ≡ Ok a → onward r go ≡ go a r.words
        on a h = unfold onward if_at in rw h
    by (Err d) h = absurd (refused_passed d.number d.place q r.words z (ap (λ (k : Read). record { end = k; words = r.words }) (sym h) ∙ sym stays ∙ e))
      where
        stays : onward r go ≡ r
        stays = unfold onward if_at in rw h

-- WORDS FILLED
pub record Filled (x y : List ℕ) (R : ℕ → Type 0) (Q : List ℕ → Type 0) : Type 0 where
  pub same_length : length y ≡ length x
  pub others : (i : ℕ) → (R i → ⊥) → at y i ≡ at x i
  pub small : (i : ℕ) → R i → at y i ≤ greatest
  pub good : Q y

pub record Fills (f : Reader) (R : ℕ → Type 0) (Q : List ℕ → Type 0) : Type 0 where
  pub decide : (i : ℕ) → Dec (R i)
  pub local : (y z : List ℕ) → ((i : ℕ) → R i → at z i ≡ at y i) → Q y → Q z
  pub fills : (text x : List ℕ) (from q : ℕ) (y : List ℕ) → f text from x ≡ passed_to q y → length x ≡ element_words → ((i : ℕ) → R i → at x i ≡ 0) → Filled x y R Q

-- one region or another
pub either_region : (R S : ℕ → Type 0) (i : ℕ) → Dec (R i) → Dec (S i) → Dec (Both R S i)
either_region R S i (yes r) d = yes (inl r)
either_region R S i (no r) (yes s) = yes (inr s)
either_region R S i (no r) (no s) = no (⊎_elim r s)

pub span_region : (a n i : ℕ) → Dec (Span a n i)
span_region a n i = go (dec_le a i) (dec_lt i (a + n))
  where
    go : Dec (a ≤ i) → Dec (i < a + n) → Dec (Span a n i)
    go (yes l) (yes u) = yes (l, u)
    go (yes l) (no u) = no (λ s. u s.1)
    go (no l) d = no (λ s. l s.0)

-- one reader after the other
pub fills_then : {f g : Reader} {R S : ℕ → Type 0} {Q P : List ℕ → Type 0} → Fills f R Q → Fills g S P → ((i : ℕ) → R i → S i → ⊥) → Fills (f then g) (Both R S) (λ y. Q y × P y)
fills_then {f} {g} {R} {S} {Q} {P} a b apart =
    record {
      decide = λ i. either_region R S i (a.decide i) (b.decide i);
      local = λ y z s h. (a.local y z (λ i r. s i (inl r)) h.0, b.local y z (λ i r. s i (inr r)) h.1);
      fills = λ text x from q z e l o. both text x from q z (onward_passed (f text from x) (g text) q z (unfold ◌then◌ in e)) l o;
    }
  where
    both : (text x : List ℕ) (from q : ℕ) (z : List ℕ) → Before (f text from x) (g text) (passed_to q z) → length x ≡ element_words → ((i : ℕ) → Both R S i → at x i ≡ 0) → Filled x z (Both R S) (λ y. Q y × P y)
    both text x from q z m l o =
        let y = m.words in
        let u = a.fills text x from m.place y m.first l (λ i r. o i (inl r)) in
        let v = b.fills text y m.place q z m.further (u.same_length ∙ l) (λ i s. u.others i (λ r. apart i r s) ∙ o i (inr s)) in
        record {
          same_length = v.same_length ∙ u.same_length;
          others = λ i n. v.others i (λ s. n (inr s)) ∙ u.others i (λ r. n (inl r));
          small = λ i. ⊎_elim (λ r. subst (λ (k : ℕ). k ≤ greatest) (sym (v.others i (λ s. apart i r s))) (u.small i r)) (v.small i);
          good = (a.local y z (λ i r. v.others i (λ s. apart i r s)) u.good, v.good);
        }

-- readers that store nothing
abbrev pub Idle : Reader → Type 0
Idle f = (text x : List ℕ) (from q : ℕ) (y : List ℕ) → f text from x ≡ passed_to q y → y ≡ x

pub idle_sign : (s : ℕ) → Idle (sign s)
idle_sign s text x from q y e = sym (ap (λ (r : Parsed). r.words) e)

pub idle_assign : Idle assign
idle_assign text x from q y e = sym (ap (λ (r : Parsed). r.words) e)

pub fills_behind : {f g : Reader} {R : ℕ → Type 0} {Q : List ℕ → Type 0} → Idle f → Fills g R Q → Fills (f then g) R Q
fills_behind {f} {g} {R} {Q} k b =
    record {
      decide = b.decide;
      local = b.local;
      fills = λ text x from q z e l o. go text x from q z (onward_passed (f text from x) (g text) q z (unfold ◌then◌ in e)) l o;
    }
  where
    go : (text x : List ℕ) (from q : ℕ) (z : List ℕ) → Before (f text from x) (g text) (passed_to q z) → length x ≡ element_words → ((i : ℕ) → R i → at x i ≡ 0) → Filled x z R Q
    go text x from q z m l o =
        b.fills text x m.place q z (ap (g text m.place) (sym (k text x from m.place m.words m.first)) ∙ m.further) l o

pub fills_before : {f g : Reader} {R : ℕ → Type 0} {Q : List ℕ → Type 0} → Fills f R Q → Idle g → Fills (f then g) R Q
fills_before {f} {g} {R} {Q} a k =
    record {
      decide = a.decide;
      local = a.local;
      fills = λ text x from q z e l o. go text x from q z (onward_passed (f text from x) (g text) q z (unfold ◌then◌ in e)) l o;
    }
  where
    go : (text x : List ℕ) (from q : ℕ) (z : List ℕ) → Before (f text from x) (g text) (passed_to q z) → length x ≡ element_words → ((i : ℕ) → R i → at x i ≡ 0) → Filled x z R Q
    go text x from q z m l o =
        subst (λ (y : List ℕ). Filled x y R Q) (sym (k text m.words m.place q z m.further)) (a.fills text x from m.place m.words m.first l o)

-- a larger region, whose further words stay 0; another reader that passes only as this one does
pub fills_wider : {f : Reader} {R S : ℕ → Type 0} {Q P : List ℕ → Type 0} → ((i : ℕ) → Dec (S i)) → ((i : ℕ) → R i → S i)
    → ((y z : List ℕ) → ((i : ℕ) → S i → at z i ≡ at y i) → P y → P z)
    → ((y : List ℕ) → Q y → ((i : ℕ) → S i → (R i → ⊥) → at y i ≡ 0) → P y)
    → Fills f R Q → Fills f S P
fills_wider {f} {R} {S} {Q} {P} d w p h a =
    record {
      decide = d;
      local = p;
      fills = λ text x from q y e l o.
          let u = a.fills text x from q y e l (λ i r. o i (w i r)) in
          let z : (i : ℕ) → S i → (R i → ⊥) → at y i ≡ 0 = λ i s n. u.others i n ∙ o i s in
          record {
            same_length = u.same_length;
            others = λ i n. u.others i (λ r. n (w i r));
            small = λ i s. tiny i s (at y i) (a.decide i) (u.small i) (z i s);
            good = h y u.good z;
          };
    }
  where
    tiny : (i : ℕ) → S i → (v : ℕ) → Dec (R i) → (R i → v ≤ greatest) → ((R i → ⊥) → v ≡ 0) → v ≤ greatest
    tiny i s v (yes r) f g = f r
    tiny i s v (no r) f g = let e = g r in omega (arith, e)

pub fills_region : {f : Reader} {R S : ℕ → Type 0} {Q : List ℕ → Type 0} → ((i : ℕ) → Dec (S i)) → ((i : ℕ) → R i → S i) → Fills f R Q → Fills f S Q
fills_region d w a = fills_wider d w (λ y z s. a.local y z (λ i r. s i (w i r))) (λ y q z. q) a

pub fills_as : {f h : Reader} {R : ℕ → Type 0} {Q : List ℕ → Type 0} → ((text x : List ℕ) (from q : ℕ) (y : List ℕ) → h text from x ≡ passed_to q y → (a : ℕ) × (f text a x ≡ passed_to q y)) → Fills f R Q → Fills h R Q
fills_as k a =
    record { decide = a.decide; local = a.local; fills = λ text x from q y e l o. let m = k text x from q y e in a.fills text x m.0 q y m.1 l o }

pub fills_either : {f g h : Reader} {R : ℕ → Type 0} {Q : List ℕ → Type 0}
    → ((text x : List ℕ) (from q : ℕ) (y : List ℕ) → h text from x ≡ passed_to q y → ((a : ℕ) × (f text a x ≡ passed_to q y)) ⊎ ((a : ℕ) × (g text a x ≡ passed_to q y)))
    → Fills f R Q → Fills g R Q → Fills h R Q
fills_either k a b =
    record {
      decide = a.decide;
      local = a.local;
      fills = λ text x from q y e l o. ⊎_elim (λ m. a.fills text x m.0 q y m.1 l o) (λ m. b.fills text x m.0 q y m.1 l o) (k text x from q y e);
    }

-- a word stored
pub filled_set : (x : List ℕ) (p v : ℕ) → length x ≡ element_words → p < element_words → v ≤ greatest → Filled x (set x p v) (λ i. i ≡ p) (λ y. at y p ≡ v)
filled_set x p v l h g =
    record {
      same_length = length-set x p v;
      others = λ i n. get_or-set_other x p i v 0 n;
      small = λ i e. subst (λ (k : ℕ). k ≤ greatest) (sym (ap (at (set x p v)) e ∙ get_or-set_same x p v 0 (omega (arith, l, h)))) g;
      good = get_or-set_same x p v 0 (omega (arith, l, h));
    }

pub fills_store : (p v : ℕ) → p < element_words → v ≤ greatest → Fills (store p v) (λ i. i ≡ p) (λ y. at y p ≡ v)
fills_store p v h g =
    record {
      decide = λ i. ℕ_discrete i p;
      local = λ y z s e. s p refl ∙ e;
      fills = λ text x from q y e l o. subst (λ (z : List ℕ). Filled x z (λ i. i ≡ p) (λ y. at y p ≡ v)) (same_words from q (set x p v) y e) (filled_set x p v l h g);
    }
