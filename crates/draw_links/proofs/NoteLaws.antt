-- An id compared where its note says that it stands, and what is named by the notes. Assumes nothing.
use Rattle.std.specs.Prelude.{Option, Some, None}
use Prim.Native.Nat.{ℕ, suc, ◌+◌, ◌*◌, ◌-◌, ◌≤◌, ◌<◌}
use mathlib.Core.Path.{◌≡◌, refl, sym, ◌∙◌, ap}
use mathlib.Core.Bool.{Bool, true, false, ◌&&◌, ◌||◌}
use mathlib.Core.List.{List, [], ◌∷◌}
use native.Mathlib.Numerals.{add-one}
use native.Mathlib.Omega.{arith}
use lib.Dec.{eqb, ltb}
use lib.ListN.{length, take, drop, length-drop, drop_of_length-le, get_or-eq_default}
use lib.Seq.{drop-cons, take_all}
use borrow.Author.Tests.{eq-eqb, ne_eqb, lt-ltb, le-ltb}
use Rattle.base_words.specs.Pick.{if◌then◌or_else◌}
use Rattle.base_words.specs.Seek.{seek}
use Rattle.base_words.specs.Text.{bytes}
use Rattle.base_words.specs.Words.{at, part}
use Rattle.base_words.proofs.PickLaws.{and_false_right}
use Rattle.base_bytes.specs.Bytes.{past}
use Rattle.base_bytes.proofs.PastLaws.{past_from}
use Rattle.base_bytes.proofs.PieceLaws.{by_order}
use Rattle.base_bytes.specs.Bytes.{same_bytes}
use Rattle.xml_markup.specs.declared.Class.TheVariants.{Value}
use Rattle.xml_markup.specs.Tokens.{found}
use Rattle.xml_markup.specs.Spans.{is_of, run, after, quote_at, value_at, value_of, attribute}
use Rattle.draw_things.specs.Things.{sort, place, within, target, is_node, thing_words, target_place, participant, message_flow, process, sequence_flow}
use Rattle.draw_links.specs.Links.{if_is, has_id, may_name, or_none, meant}
use Rattle.draw_links.specs.Notes.{far, behind_quote, note_by, note_of, IdNoted, is_up_to}

-- BYTES UP TO A QUOTE, at the place i of both
module _ (q : ℕ) (v s : List ℕ) (i : ℕ) (r : Bool) (k : is_up_to q (drop i v) (drop i s) ≡ r) where
  pub up_cut : i < length v → length s ≤ i → false ≡ r
  up_cut h l = sym step ∙ k
    where
      step : is_up_to q (drop i v) (drop i s) ≡ false
      step = unfold is_up_to in rw (drop-cons v i 0 h, drop_of_length-le s l)

  pub up_other : i < length v → i < length s → (at s i ≡ at v i → ⊥) → false ≡ r
  up_other h l n = sym step ∙ k
    where
      step : is_up_to q (drop i v) (drop i s) ≡ false
      step = unfold is_up_to in rw (drop-cons v i 0 h, drop-cons s i 0 l, ne_eqb (at s i) (at v i) n)

  pub up_quote : i < length v → i < length s → at s i ≡ at v i → at s i ≡ q → false ≡ r
  up_quote h l e f = sym step ∙ k
    where
      step : is_up_to q (drop i v) (drop i s) ≡ false
      step = unfold is_up_to in rw (drop-cons v i 0 h, drop-cons s i 0 l, eq-eqb (at s i) (at v i) e, eq-eqb (at s i) q f)

  pub up_more : i < length v → i < length s → at s i ≡ at v i → (at s i ≡ q → ⊥) → is_up_to q (drop (i + 1) v) (drop (i + 1) s) ≡ r
  up_more h l e n = sym step ∙ k
    where
      step : is_up_to q (drop i v) (drop i s) ≡ is_up_to q (drop (i + 1) v) (drop (i + 1) s)
      step = unfold is_up_to in rw (drop-cons v i 0 h, drop-cons s i 0 l, eq-eqb (at s i) (at v i) e, ne_eqb (at s i) q n, add-one i)

  pub up_end : length v ≤ i → length s ≤ i → true ≡ r
  up_end h l = sym step ∙ k
    where
      step : is_up_to q (drop i v) (drop i s) ≡ true
      step = unfold is_up_to in rw (drop_of_length-le v h, drop_of_length-le s l)

  pub up_last : length v ≤ i → i < length s → eqb (at s i) q ≡ r
  up_last h l = sym step ∙ k
    where
      step : is_up_to q (drop i v) (drop i s) ≡ eqb (at s i) q
      step = unfold is_up_to in rw (drop_of_length-le v h, drop-cons s i 0 l)

  -- the same where i is the end of v
  pub up_end_at : length v ≤ i → i ≤ length v → length s ≤ length v → true ≡ r
  up_end_at h e l = up_end h (omega arith)

  pub up_last_at : length v ≤ i → i ≤ length v → length v < length s → eqb (at s (length v)) q ≡ r
  up_last_at h e l = ap (λ (m : ℕ). eqb (at s m) q) (let z : length v ≡ i = omega arith in z) ∙ up_last h (omega arith)

pub up_otherwise : (t v : List ℕ) (a q : ℕ) → 0 < length v → a < length t → (at t a ≡ at v 0 → ⊥) → false ≡ is_up_to q v (drop a t)
up_otherwise t v a q h l n = sym step
  where
    step : is_up_to q (drop 0 v) (drop a t) ≡ false
    step = unfold is_up_to in rw (drop-cons v 0 0 h, drop-cons t a 0 l, ne_eqb (at t a) (at v 0) n)

none_taken : (n : ℕ) (s : List ℕ) → n ≡ 0 → take n s ≡ []
none_taken n s e = rw e

-- what stands up to a quote is these bytes exactly when they stand there up to it
module _ (c a b : ℕ) (s : List ℕ) where
  up_here : (v : List ℕ) → eqb b c ≡ true → same_bytes (take (past (is_of (Value c)) (b ∷ s) a - a) (b ∷ s)) v ≡ is_up_to c v (b ∷ s)
  unfolding past is_of is_up_to same_bytes if◌then◌or_else◌
  up_here [] e = rw (e, none_taken (a - a) (b ∷ s) (omega arith))
  up_here (x ∷ v) e = rw (e, none_taken (a - a) (b ∷ s) (omega arith)) (sym (and_false_right (eqb b x) false refl))

  further_on : (p : ℕ) → a + 1 ≤ p → take (p - a) (b ∷ s) ≡ b ∷ take (p - (a + 1)) s
  further_on p h = let e : p - a ≡ suc (p - (a + 1)) = omega arith in rw e

  up_on : (v : List ℕ) → eqb b c ≡ false → ((u : List ℕ) → same_bytes (take (past (is_of (Value c)) s (a + 1) - (a + 1)) s) u ≡ is_up_to c u s) → same_bytes (take (past (is_of (Value c)) (b ∷ s) a - a) (b ∷ s)) v ≡ is_up_to c v (b ∷ s)
  unfolding past is_up_to same_bytes if◌then◌or_else◌
  up_on [] e ih = let f : is_of (Value c) b ≡ true = unfold is_of in rw e in rw (f, further_on _ (past_from (is_of (Value c)) s (a + 1)), e)
  up_on (x ∷ v) e ih = let f : is_of (Value c) b ≡ true = unfold is_of in rw e in rw (f, further_on _ (past_from (is_of (Value c)) s (a + 1)), e, ih v)

up_to_run : (c a : ℕ) (s v : List ℕ) → same_bytes (take (past (is_of (Value c)) s a - a) s) v ≡ is_up_to c v s
up_to_run c a [] [] = unfold past is_up_to same_bytes in rw (none_taken (a - a) [] (omega arith))
up_to_run c a [] (x ∷ v) = unfold past is_up_to same_bytes in rw (none_taken (a - a) [] (omega arith))
up_to_run c a (b ∷ s) v = go (eqb b c) refl (up_to_run c (a + 1) s)
  where
    go : (x : Bool) → eqb b c ≡ x → ((u : List ℕ) → same_bytes (take (past (is_of (Value c)) s (a + 1) - (a + 1)) s) u ≡ is_up_to c u s) → same_bytes (take (past (is_of (Value c)) (b ∷ s) a - a) (b ∷ s)) v ≡ is_up_to c v (b ∷ s)
    go true e ih = up_here c a b s v e
    go false e ih = up_on c a b s v e ih

value_up_to : (t v : List ℕ) (q : ℕ) → same_bytes (part t (after t q) (run (Value (at t q)) t (after t q))) v ≡ is_up_to (at t q) v (drop (q + 1) t)
unfolding run after if◌then◌or_else◌
value_up_to t v q =
    by_order (length t) q
    (λ h. rw (le-ltb q (length t) h) (up_to_run (at t q) (length t) (drop (length t) t) v ∙ ap (is_up_to (at t q) v) (drop_of_length-le t (let z : length t ≤ length t = omega arith in z) ∙ sym (drop_of_length-le t (let z : length t ≤ q + 1 = omega arith in z)))))
    (λ h. rw (lt-ltb q (length t) h) (up_to_run (at t q) (q + 1) (drop (q + 1) t) v))

pub to_the_end : (t : List ℕ) (a : ℕ) → part t a (length t) ≡ drop a t
to_the_end t a = take_all (length t - a) (drop a t) (omega (arith, length-drop a t))

pub stands_by : (t v s : List ℕ) (a b : ℕ) (r : Bool) → b ≡ at t (a - 1) → s ≡ part t a (length t) → r ≡ is_up_to b v s → r ≡ is_up_to (at t (a - 1)) v (drop a t)
stands_by t v s a b r e f g = rw (← e, ← to_the_end t a, ← f) g

-- what has a note is held by the block
in_block : (w : List ℕ) (j a : ℕ) → a ≡ target w j → (a ≡ 0 → ⊥) → thing_words * (j + 1) ≤ length w
in_block w j a e n = by_order (length w) (target_place j) (λ h. absurd (n (e ∙ get_or-eq_default w 0 h))) (λ h. omega (arith, h))

-- WHAT A NOTE SAYS
module _ (t v w : List ℕ) (j : ℕ) (is : IdNoted t w j) where
  abbrev f₀ : Option ℕ
  f₀ = found t (bytes "id") (place w j)

  quote_some : (q : ℕ) → behind_quote q ≡ 0 → ⊥
  unfolding behind_quote
  quote_some q = go (ltb q 65534)
    where
      go : (b : Bool) → (if b then q + 1 or_else far) ≡ 0 → ⊥
      go true e = let z : q + 1 ≡ 0 = unfold if◌then◌or_else◌ in e in omega (arith, z)
      go false e = let z : ◌≡◌ {A = ℕ} far 0 = unfold if◌then◌or_else◌ in e in omega (arith, z)

  quote_told : (q a : ℕ) → behind_quote q ≡ a → (a ≡ far → ⊥) → a ≡ q + 1
  unfolding behind_quote
  quote_told q a = go (ltb q 65534)
    where
      go : (b : Bool) → (if b then q + 1 or_else far) ≡ a → (a ≡ far → ⊥) → a ≡ q + 1
      go true e n = sym (unfold if◌then◌or_else◌ in e)
      go false e n = absurd (n (sym (unfold if◌then◌or_else◌ in e)))

  noted_none : (f : Option ℕ) → f₀ ≡ f → note_by t f ≡ 0 → false ≡ has_id t v w j
  unfolding note_by has_id attribute value_of if_is
  noted_none None e z = rw e
  noted_none (Some i) e z = absurd (quote_some (quote_at t i) z)

  noted_some : (f : Option ℕ) (a : ℕ) (r : Bool) → f₀ ≡ f → note_by t f ≡ a → (a ≡ 0 → ⊥) → (a ≡ far → ⊥) → r ≡ is_up_to (at t (a - 1)) v (drop a t) → r ≡ has_id t v w j
  unfolding note_by has_id attribute value_of value_at if_is
  noted_some None a r e z n m h = absurd (n (sym z))
  noted_some (Some i) a r e z n m h =
      let p : a ≡ quote_at t i + 1 = quote_told (quote_at t i) a z m in
      let o : a - 1 ≡ quote_at t i = omega (arith, p) in
      rw e (h ∙ rw (o, p) refl ∙ sym (value_up_to t v (quote_at t i)))

  pub has_none : thing_words * (j + 1) ≤ length w → (a : ℕ) → a ≡ target w j → a ≡ 0 → false ≡ has_id t v w j
  unfolding note_of
  has_none l a e z = noted_none f₀ refl (sym (is l) ∙ sym e ∙ z)

  pub has_told : (a : ℕ) (r : Bool) → a ≡ target w j → (a ≡ 0 → ⊥) → (a ≡ far → ⊥) → r ≡ is_up_to (at t (a - 1)) v (drop a t) → r ≡ has_id t v w j
  unfolding note_of
  has_told a r e n m h = noted_some f₀ a r refl (sym (is (in_block w j a e n)) ∙ sym e) n m h

-- WHAT IS NAMED, by the sort of the thing that names it
module _ (t w : List ℕ) (n k : ℕ) (v : List ℕ) (r s : ℕ) (es : s ≡ sort w k) where
  pub node_meant : (p : ℕ) → s ≡ sequence_flow → p ≡ within w k → r ≡ or_none n (seek (λ j. (is_node (sort w j) && eqb (within w j) p) && has_id t v w j) n) → r ≡ meant t w n k v
  unfolding meant may_name if◌then◌or_else◌
  node_meant p f g h = rw (eq-eqb (sort w k) sequence_flow (sym es ∙ f), ← g) h

  pub end_meant : (s ≡ sequence_flow → ⊥) → s ≡ message_flow → r ≡ or_none n (seek (λ j. (is_node (sort w j) || eqb (sort w j) participant) && has_id t v w j) n) → r ≡ meant t w n k v
  unfolding meant may_name if◌then◌or_else◌
  end_meant a f h = rw (ne_eqb (sort w k) sequence_flow (λ q. a (es ∙ q)), eq-eqb (sort w k) message_flow (sym es ∙ f)) h

  pub process-meant : (s ≡ sequence_flow → ⊥) → (s ≡ message_flow → ⊥) → s ≡ participant → r ≡ or_none n (seek (λ j. eqb (sort w j) process && has_id t v w j) n) → r ≡ meant t w n k v
  unfolding meant may_name if◌then◌or_else◌
  process-meant a b f h = rw (ne_eqb (sort w k) sequence_flow (λ q. a (es ∙ q)), ne_eqb (sort w k) message_flow (λ q. b (es ∙ q)), eq-eqb (sort w k) participant (sym es ∙ f)) h

-- the note of a thing, as it is found
module _ (t w : List ℕ) (j p : ℕ) (f : Option ℕ) (ep : p ≡ place w j) (ef : f ≡ found t (bytes "id") p) where
  pub note_nowhere : f ≡ None → 0 ≡ note_of t w j
  unfolding note_of note_by
  note_nowhere e = rw (← ep, ← ef, e)

  pub note_behind : (i x r : ℕ) → f ≡ Some i → x ≡ quote_at t i → r ≡ behind_quote x → r ≡ note_of t w j
  unfolding note_of note_by
  note_behind i x r e g h = rw (← ep, ← ef, e, ← g) h
