-- READING BACK, with the region as a proposition: what a reader stores of an element's words el, and what a reader after a reader reads. Assumes nothing.
use mathlib.Core.Path.{◌≡◌, ◌∙◌, refl, sym, ap, subst}
use mathlib.Core.Bool.{Bool, true}
use mathlib.Core.List.{List, [], ◌++◌, append_assoc}
use mathlib.Core.Logic.{◌⊎◌, inr, ⊎_elim}
use Prim.Native.Nat.{ℕ, ◌+◌, ◌<◌}
use native.Mathlib.Decide.{ℕ_discrete}
use native.Mathlib.Nat.{add-zero}
use native.Mathlib.Omega.{arith}
use lib.ListN.{length, drop, set, length-set, length-append}
use lib.Seq.{get_or-set_same, get_or-set_other}
use Rattle.base_words.specs.Words.{at}
use Rattle.base_table.specs.Places.{element_words}
use Rattle.text_lexer.proofs.TokenLaws.{left_at}
use Rattle.text_readers.specs.Reading.{Reader, passed_to, nothing, if_at, onward, ◌then◌}
use Rattle.text_parts.specs.Parts.{store}
use Rattle.proof_roundtrip.specs.Trip.{Below, Trip}

-- from x to y: the words of R become el's, and no word of el is lost
pub record Onto (el x y : List ℕ) (R : ℕ → Type 0) : Type 0 where
  pub same_length : length y ≡ length x
  pub below : Below el y
  pub keeps : (i : ℕ) → at x i ≡ at el i → at y i ≡ at el i
  pub reaches : (i : ℕ) → R i → at y i ≡ at el i

pub record Reads (el : List ℕ) (f : Reader) (w : List ℕ) (follows : List ℕ → Bool) (R : ℕ → Type 0) : Type 0 where
  pub reads : (text rest x : List ℕ) (from : ℕ) → drop from text ≡ w ++ rest → follows rest ≡ true → length x ≡ element_words → Below el x → (y : List ℕ) × (f text from x ≡ passed_to (from + length w) y) × Onto el x y R

-- any text may follow; no word is read
abbrev pub anything : List ℕ → Bool
anything rest = true

abbrev pub Nowhere : ℕ → Type 0
Nowhere i = ⊥

abbrev pub Both : (ℕ → Type 0) → (ℕ → Type 0) → ℕ → Type 0
Both R S i = R i ⊎ S i

-- WORDS. Nothing stored; a word of el stored; the one after the other
module _ {el : List ℕ} where
  pub onto_same : (x : List ℕ) → Below el x → Onto el x x Nowhere
  onto_same x b = record { same_length = refl; below = b; keeps = λ i e. e; reaches = λ i e. absurd e }

  pub onto_set : (x : List ℕ) (p v : ℕ) → Below el x → p < length x → v ≡ at el p → Onto el x (set x p v) (λ i. i ≡ p)
  onto_set x p v b h e =
      record {
        same_length = length-set x p v;
        below = record { each = λ i. go (λ z. (z ≡ 0) ⊎ (z ≡ at el i)) i (ℕ_discrete i p) (λ q. inr (e ∙ ap (at el) (sym q))) (b.each i) };
        keeps = λ i k. go (λ z. z ≡ at el i) i (ℕ_discrete i p) (λ q. e ∙ ap (at el) (sym q)) k;
        reaches = λ i q. ap (at (set x p v)) q ∙ get_or-set_same x p v 0 h ∙ e ∙ ap (at el) (sym q);
      }
    where
      go : (P : ℕ → Type 0) (i : ℕ) → Dec (i ≡ p) → (i ≡ p → P v) → P (at x i) → P (at (set x p v) i)
      go P i (yes q) f g = subst P (sym (ap (at (set x p v)) q ∙ get_or-set_same x p v 0 h)) (f q)
      go P i (no n) f g = subst P (sym (get_or-set_other x p i v 0 n)) g

  pub onto_then : {R S : ℕ → Type 0} {x y z : List ℕ} → Onto el x y R → Onto el y z S → Onto el x z (Both R S)
  onto_then a b =
      record {
        same_length = b.same_length ∙ a.same_length;
        below = b.below;
        keeps = λ i e. b.keeps i (a.keeps i e);
        reaches = λ i. ⊎_elim (λ r. b.keeps i (a.reaches i r)) (b.reaches i);
      }

  -- a region whose further words are 0
  pub onto_wider : {R S : ℕ → Type 0} {x y : List ℕ} → Onto el x y R → ((i : ℕ) → S i → R i ⊎ (at el i ≡ 0)) → Onto el x y S
  onto_wider {R} {S} {x} {y} a h =
      record {
        same_length = a.same_length;
        below = a.below;
        keeps = a.keeps;
        reaches = λ i s. ⊎_elim (a.reaches i) (λ z. ⊎_elim (λ e. e ∙ sym z) (λ e. e) (a.below.each i)) (h i s);
      }

-- READERS
module _ {el : List ℕ} where
  -- the same text, otherwise written; less may follow; further words of el that are 0; a reader that does the same here
  pub reads_text : {f : Reader} {w v : List ℕ} {F : List ℕ → Bool} {R : ℕ → Type 0} → w ≡ v → Reads el f w F R → Reads el f v F R
  reads_text {f} {w} {v} {F} {R} e r = subst (λ (u : List ℕ). Reads el f u F R) e r

  pub reads_before : {f : Reader} {w : List ℕ} {F G : List ℕ → Bool} {R : ℕ → Type 0} → ((rest : List ℕ) → G rest ≡ true → F rest ≡ true) → Reads el f w F R → Reads el f w G R
  reads_before h r = record { reads = λ text rest x from d g l b. r.reads text rest x from d (h rest g) l b }

  pub reads_wider : {f : Reader} {w : List ℕ} {F : List ℕ → Bool} {R S : ℕ → Type 0} → ((i : ℕ) → S i → R i ⊎ (at el i ≡ 0)) → Reads el f w F R → Reads el f w F S
  reads_wider h r =
      record { reads = λ text rest x from d g l b. let z = r.reads text rest x from d g l b in (z.0, z.1, onto_wider z.2 h) }

  pub reads_as : {f g : Reader} {w : List ℕ} {F : List ℕ → Bool} {R : ℕ → Type 0}
      → ((text rest x : List ℕ) (from : ℕ) → drop from text ≡ w ++ rest → F rest ≡ true → g text from x ≡ f text from x)
      → Reads el f w F R → Reads el g w F R
  reads_as h r =
      record { reads = λ text rest x from d k l b. let z = r.reads text rest x from d k l b in (z.0, h text rest x from d k ∙ z.1, z.2) }

  -- one reader after the other
  pub reads_then : {f g : Reader} {w v : List ℕ} {F G : List ℕ → Bool} {R S : ℕ → Type 0}
      → Reads el f w F R → Reads el g v G S → ((rest : List ℕ) → G rest ≡ true → F (v ++ rest) ≡ true) → Reads el (f then g) (w ++ v) G (Both R S)
  reads_then {f} {g} {w} {v} {F} {G} {R} {S} a b h =
      record {
        reads = λ text rest x from d k l u.
            let d₁ : drop from text ≡ w ++ (v ++ rest) = d ∙ append_assoc w v rest in
            let y = a.reads text (v ++ rest) x from d₁ (h rest k) l u in
            let z = b.reads text rest y.0 (from + length w) (left_at text from w (v ++ rest) d₁) k (y.2.same_length ∙ l) y.2.below in
            (z.0, behind text x from y.0 z.0 y.1 z.1, onto_then y.2 z.2);
      }
    where
      behind : (text x : List ℕ) (from : ℕ) (y z : List ℕ) → f text from x ≡ passed_to (from + length w) y → g text (from + length w) y ≡ passed_to (from + length w + length v) z
          → (f then g) text from x ≡ passed_to (from + length (w ++ v)) z
      behind text x from y z e k =
          unfold ◌then◌ onward if_at in
          rw e (k ∙ ap (λ (n : ℕ). passed_to n z) (let q : from + length w + length v ≡ from + length (w ++ v) = omega (arith, length-append w v) in q))

  -- nothing; a word stored, nothing read
  pub reads_nothing : Reads el nothing [] anything Nowhere
  reads_nothing = record { reads = λ text rest x from d k l b. (x, ap (λ (n : ℕ). passed_to n x) (sym (add-zero from)), onto_same x b) }

  pub reads_store : (p v : ℕ) → p < element_words → v ≡ at el p → Reads el (store p v) [] anything (λ i. i ≡ p)
  reads_store p v h e =
      record {
        reads = λ text rest x from d k l b. (set x p v, ap (λ (n : ℕ). passed_to n (set x p v)) (sym (add-zero from)), onto_set x p v b (omega (arith, h, l)) e);
      }

-- THE SAME AS TRIPS, with a test for the region
module _ {el : List ℕ} where
  pub trip_of : {f : Reader} {w : List ℕ} {F : List ℕ → Bool} {region : ℕ → Bool} {R : ℕ → Type 0} → ((i : ℕ) → region i ≡ true → R i ⊎ (at el i ≡ 0)) → Reads el f w F R → Trip el f w F region
  trip_of h r =
      record {
        trip = λ text rest x from d k l b.
            let z = r.reads text rest x from d k l b in
            let o = onto_wider z.2 h in
            (z.0, z.1, record { same_length = o.same_length; below = o.below; keeps = o.keeps; reaches = o.reaches });
      }

  pub reads_of : {f : Reader} {w : List ℕ} {F : List ℕ → Bool} {region : ℕ → Bool} → Trip el f w F region → Reads el f w F (λ i. region i ≡ true)
  reads_of t =
      record {
        reads = λ text rest x from d k l b.
            let z = t.trip text rest x from d k l b in
            let o = z.2 in
            (z.0, z.1, record { same_length = o.same_length; below = o.below; keeps = o.keeps; reaches = o.reaches });
      }
