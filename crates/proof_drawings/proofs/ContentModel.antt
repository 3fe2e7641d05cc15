-- The content of a drawing in which nothing is amiss or beyond the limits, and no check broken, is a model within its limits, as one that was read. Assumes nothing.
use Prim.Native.Nat.{ℕ, zero, suc, ◌+◌, ◌≤◌, ◌<◌}
use mathlib.Core.Path.{◌≡◌, refl, sym, ap, subst}
use mathlib.Core.Bool.{Bool, true, false, not, ◌&&◌, ◌||◌, false≢true}
use mathlib.Core.List.{List, [], ◌∷◌, ◌++◌}
use native.Mathlib.Decide.{dec_lt}
use native.Mathlib.Omega.{arith}
use lib.Dec.{eqb, leb, ltb}
use lib.ListN.{length, length-append}
use borrow.Author.Tests.{eqb-true, leb-true, leb-false, ltb-true, ltb-false}
use Rattle.std.proofs.lemmas.Bool.{not-false}
use Rattle.base_words.specs.All.{all}
use Rattle.base_words.specs.Counts.{pools, elements, pool_numbers, instances}
use Rattle.base_words.specs.Each.{each, total, joined}
use Rattle.base_words.specs.Pick.{if◌then◌or_else◌}
use Rattle.base_words.specs.Seek.{seek}
use Rattle.base_words.specs.Words.{greatest}
use Rattle.base_words.proofs.AllLaws.{and_left, and_right}
use Rattle.base_words.proofs.SeekLaws.{sought}
use Rattle.base_kinds.specs.Kinds.{start, start_rcv}
use Rattle.check_limits.specs.Limits.{element_fits}
use Rattle.check_occurrences.specs.Occurrences.{of_kind}
use Rattle.check_model.specs.Checks.{Pool, check1, check2, lowest}
use Rattle.text_passes.proofs.FillLaws.{AtMost, none, some, Block, Fits}
use Rattle.draw_things.specs.Things.{room, is_node, sort, within, source, participant, participant_multiplicity, process, greatest_note, one_more}
use Rattle.draw_kinds.specs.Counting.{within_in, is_with, first_with, of_sort}
use Rattle.draw_faults.specs.Amiss.{is_right, is_drawing}
use Rattle.draw_numbers.specs.Who.{has_participants, is_pool, has_pool}
use Rattle.draw_numbers.specs.Numbers.{count_before, is_element, maximum_of}
use Rattle.draw_limits.specs.Excess.{is_limit, is_fifth_pool, is_node_beyond, is_flow_beyond, is_message_beyond, is_maximum_beyond, is_beyond, first_beyond}
use Rattle.draw_model.specs.Drawn.{element_drawn}
use Rattle.draw_model.specs.Content.{element_if, elements_of, limit_of, process_of, number_of, pool_drawn, pool_if, content}
use Rattle.draw_read.proofs.RoomLaws.{content_fits}
use Rattle.proof_roundtrip.proofs.EndModels.{Every, Right, Fit, Model}
use Rattle.proof_drawings.proofs.TestLaws.{and_then, or_left, or_right, more_low, more_high}
use Rattle.proof_drawings.proofs.SmallLaws.{element_right}
use Rattle.proof_drawings.proofs.SettledLaws.{Settled}
use Rattle.proof_drawings.proofs.Fitting.{drawing_few, never_unfit}

none_more : (k : ℕ) → suc k ≡ 0 → ⊥
none_more k e = omega (arith, e)

-- LISTS
every_append : {A : Type 0} (P : A → Type 0) (xs ys : List A) → Every P xs → Every P ys → Every P (xs ++ ys)
every_append P [] ys d e = e
every_append P (x ∷ xs) ys d e = (d.0, every_append P xs ys d.1 e)

pub every_joined : {A : Type 0} (P : A → Type 0) (f : ℕ → List A) (n : ℕ) → ((k : ℕ) → k < n → Every P (f k)) → Every P (joined f n)
unfolding joined
every_joined P f zero h = omega arith
every_joined P f (suc n) h = every_append P (joined f n) (f n) (every_joined P f n (λ k l. h k (omega (arith, l)))) (h n (omega arith))

pub every_one : {A : Type 0} (P : A → Type 0) (b : Bool) (x : A) → (b ≡ true → P x) → Every P (if b then x ∷ [] or_else [])
unfolding if◌then◌or_else◌
every_one P true x p = (p refl, omega arith)
every_one P false x p = omega arith

every_both : {A : Type 0} (P Q R : A → Type 0) (xs : List A) → ((x : A) → P x → Q x → R x) → Every P xs → Every Q xs → Every R xs
every_both P Q R [] h d e = d
every_both P Q R (x ∷ xs) h d e = (h x d.0 e.0, every_both P Q R xs h d.1 e.1)

every_each : {A : Type 0} (f : A → Bool) (xs : List A) → each f xs ≡ true → Every (λ x. f x ≡ true) xs
unfolding each
every_each f [] e = omega arith
every_each f (x ∷ xs) e = (and_left (f x) (each f xs) e, every_each f xs (and_right (f x) (each f xs) e))

most_every : {A : Type 0} (P : A → Type 0) (m : ℕ) (xs : List A) → AtMost P m xs → Every P xs
most_every P m [] none = omega arith
most_every P (suc m) (x ∷ xs) (some p d) = (p, most_every P m xs d)
most_every P zero (x ∷ xs) x3 = elim x3 [ ]

most_length : {A : Type 0} (P : A → Type 0) (m : ℕ) (xs : List A) → AtMost P m xs → length xs ≤ m
most_length P m [] none = omega arith
most_length P (suc m) (x ∷ xs) (some p d) = let l = most_length P m xs d in omega (arith, l)
most_length P zero (x ∷ xs) x3 = elim x3 [ ]

joined-some : {A : Type 0} (f : ℕ → List A) (n j : ℕ) → j < n → 0 < length (f j) → 0 < length (joined f n)
unfolding joined
joined-some f zero j l h = absurd (omega (arith, l))
joined-some f (suc n) j l h = go (dec_lt j n) (joined-some f n j)
  where
    go : Dec (j < n) → (j < n → 0 < length (f j) → 0 < length (joined f n)) → 0 < length (joined f n ++ f n)
    go (yes m) before = let p = before m h in omega (arith, p, length-append (joined f n) (f n))
    go (no m) before =
        let e : j ≡ n = omega (arith, l, m) in
        let p : 0 < length (f n) = subst (λ (k : ℕ). 0 < length (f k)) e h in
        omega (arith, p, length-append (joined f n) (f n))

one_some : {A : Type 0} (b : Bool) (x : A) → b ≡ true → 0 < length (if b then x ∷ [] or_else [])
unfolding if◌then◌or_else◌
one_some true x e = omega arith
one_some false x e = absurd (false≢true e)

-- CHECK 2: a pool has a start
starts_hold : (ps : List Pool) → lowest ps ≡ 0 → each check2 ps ≡ true
unfolding lowest
starts_hold ps e = go (check1 ps) (each check2 ps) _ e
  where
    go : (a b : Bool) (rest : ℕ) → (if not a then 1 or_else if not b then 2 or_else rest) ≡ 0 → b ≡ true
    go true true rest e = refl
    go true false rest e = absurd (none_more 1 (unfold if◌then◌or_else◌ in e))
    go false b rest e = absurd (none_more 0 (unfold if◌then◌or_else◌ in e))

none_less : 0 + 0 ≡ 1 → ⊥
none_less e = omega (arith, e)

has_element : (p : Pool) → check2 p ≡ true → 0 < length p.elements
unfolding check2
has_element p h = go p.elements (eqb-true (total (of_kind start) p.elements + total (of_kind start_rcv) p.elements) 1 h)
  where
    go : (xs : List (List ℕ)) → total (of_kind start) xs + total (of_kind start_rcv) xs ≡ 1 → 0 < length xs
    go [] e = absurd (none_less (unfold total in e))
    go (x ∷ xs) e = omega arith

-- NUMBERS
limit_high : (v : ℕ) → is_limit v ≡ true → v ≤ instances
unfolding is_limit
limit_high v e = leb-true v instances (and_right (leb 1 v) (leb v instances) e)

limit_low : (v : ℕ) → is_limit v ≡ true → 1 ≤ v
unfolding is_limit
limit_low v e = leb-true 1 v (and_left (leb 1 v) (leb v instances) e)

-- what is known of a pool by itself
pub record Near (p : Pool) : Type 0 where
  pub number_low : 1 ≤ p.number
  pub number_high : p.number ≤ pool_numbers
  pub limit_high : p.limit ≤ instances
  pub every : Every Right p.elements

near_fit : (p : Pool) → Near p → Fits p × (check2 p ≡ true) → Fit p
near_fit p a b =
    record {
      number_low = a.number_low;
      number_high = a.number_high;
      limit_high = a.limit_high;
      low = has_element p b.1;
      high = most_length Block elements p.elements b.0;
      every = a.every;
    }

-- "participant (participantMultiplicity)" (R12): a multiplicity stands in a participant
pub record Placed (w : List ℕ) : Type 0 where
  pub inside : (k : ℕ) → sort w k ≡ participant_multiplicity → sort w (within w k) ≡ participant

module _ (t w : List ℕ) (n : ℕ) (drawn : is_drawing t w n ≡ true) (beyond : ltb (first_beyond t w n) n ≡ false) (settled : Settled w n) (placed : Placed w) where
  few_things : n ≤ greatest
  few_things = let l = drawing_few t w n drawn in omega (arith, l)

  abbrev pub owned : Bool
  owned = has_participants w n

  some_pool : has_pool owned w n ≡ true
  unfolding is_drawing
  some_pool = and_left (has_pool owned w n) (all (is_right t w n) n) (and_right (leb n room) _ drawn)

  none_beyond : (k : ℕ) → k < n → is_beyond owned t w n k ≡ false
  unfolding first_beyond
  none_beyond k l = let s = sought (is_beyond owned t w n) n in s.2 k (omega (arith, l, ltb-false (seek (is_beyond owned t w n) n) n beyond))

  its_process : (p k : ℕ) → is_element p w k ≡ true → within w k ≡ p
  unfolding is_element
  its_process p k e = eqb-true (within w k) p (and_left (eqb (within w k) p) _ (and_right (is_node (sort w k)) _ e))

  element_fits_lem : (p k : ℕ) → k < n → is_element p w k ≡ true → element_fits (element_drawn t w n k) ≡ true
  element_fits_lem p k l e = never_unfit t w n drawn beyond settled k l (subst (λ (q : ℕ). is_element q w k ≡ true) (sym (its_process p k e)) e)

  elements_right : (p : ℕ) → Every Right (elements_of t w n p)
  unfolding elements_of element_if
  elements_right p =
      every_joined Right (λ k. if is_element p w k then element_drawn t w n k ∷ [] or_else []) n
      (λ k l. every_one Right (is_element p w k) (element_drawn t w n k) (λ e. element_right t w n few_things k (element_fits_lem p k l e)))

  -- the first multiplicity of a pool is within its limits
  not_maximum : (k : ℕ) → k < n → is_maximum_beyond t w k ≡ false
  unfolding is_beyond
  not_maximum k l =
      or_left (is_maximum_beyond t w k) _
      (or_right (is_message_beyond w k) _ (or_right (is_flow_beyond w k) _ (or_right (is_node_beyond w n k) _ (or_right (is_fifth_pool owned w k) _ (none_beyond k l)))))

  maximum_right : (m : ℕ) → m < n → of_sort participant_multiplicity w m ≡ true → not (eqb (source w (within w m)) 0) ≡ true → is_limit (maximum_of t w m) ≡ true
  unfolding is_maximum_beyond
  maximum_right m l s h =
      not-false (is_limit (maximum_of t w m)) (and_then (not (eqb (source w (within w m)) 0)) _ h (and_then (of_sort participant_multiplicity w m) _ s (not_maximum m l)))

  has_process : (b : Bool) (k m : ℕ) → is_pool b w k ≡ true → sort w m ≡ participant_multiplicity → within w m ≡ k → not (eqb (source w k) 0) ≡ true
  unfolding is_pool if◌then◌or_else◌ of_sort
  has_process true k m h s e = and_right (eqb (sort w k) participant) (not (eqb (source w k) 0)) h
  has_process false k m h s e =
      let a : sort w k ≡ process = eqb-true (sort w k) process h in
      let b : sort w k ≡ participant = subst (λ (j : ℕ). sort w j ≡ participant) e (placed.inside m s) in
      absurd (omega (arith, a, b))

  module _ (k : ℕ) where
    abbrev pub its : ℕ
    its = first_with participant_multiplicity within_in k w n

    found : its < n → (sort w its ≡ participant_multiplicity) × (within w its ≡ k)
    unfolding first_with is_with
    found l =
        let b = (sought (is_with participant_multiplicity within_in k w) n).1 l in (
          eqb-true (sort w its) participant_multiplicity (and_left (eqb (sort w its) participant_multiplicity) (eqb (within w its) k) b),
          eqb-true (within w its) k (and_right (eqb (sort w its) participant_multiplicity) (eqb (within w its) k) b),
        )

    its_right : is_pool owned w k ≡ true → its < n → is_limit (maximum_of t w its) ≡ true
    unfolding of_sort
    its_right h l =
        let f = found l in
        maximum_right its l (ap (λ (s : ℕ). eqb s participant_multiplicity) f.0)
        (subst (λ (j : ℕ). not (eqb (source w j) 0) ≡ true) (sym f.1) (has_process owned k its h f.0 f.1))

    pub its_limit : is_pool owned w k ≡ true → its < n → maximum_of t w its ≤ instances
    its_limit h l = limit_high (maximum_of t w its) (its_right h l)

    pub its_low : is_pool owned w k ≡ true → its < n → 1 ≤ maximum_of t w its
    its_low h l = limit_low (maximum_of t w its) (its_right h l)

    limit_most : is_pool owned w k ≡ true → limit_of t w n k ≤ instances
    unfolding limit_of
    limit_most h = go (ltb its n) refl
      where
        go : (b : Bool) → ltb its n ≡ b → (if b then maximum_of t w its or_else 0) ≤ instances
        go true e = unfold if◌then◌or_else◌ in its_limit h (ltb-true its n e)
        go false e = unfold if◌then◌or_else◌ in omega arith

  not_fifth : (k : ℕ) → k < n → is_fifth_pool owned w k ≡ false
  unfolding is_beyond
  not_fifth k l = or_left (is_fifth_pool owned w k) _ (none_beyond k l)

  number_most : (k : ℕ) → k < n → is_pool owned w k ≡ true → number_of owned w k ≤ pool_numbers
  unfolding number_of is_fifth_pool
  number_most k l h =
      let c = leb-false pools (count_before (is_pool owned w) k) (and_then (is_pool owned w k) _ h (not_fifth k l)) in
      omega (arith, c, more_high (count_before (is_pool owned w) k))

  number_least : (k : ℕ) → 1 ≤ number_of owned w k
  unfolding number_of
  number_least k = more_low _

  pub pool_near : (k : ℕ) → k < n → is_pool owned w k ≡ true → Near (pool_drawn owned t w n k)
  unfolding pool_drawn
  pool_near k l h =
      record { number_low = number_least k; number_high = number_most k l h; limit_high = limit_most k h; every = elements_right (process_of owned w k) }

  content_near : Every Near (content t w n)
  unfolding content pool_if
  content_near =
      every_joined Near (λ k. if is_pool owned w k then pool_drawn owned t w n k ∷ [] or_else []) n
      (λ k l. every_one Near (is_pool owned w k) (pool_drawn owned t w n k) (λ h. pool_near k l h))

  pub content-some : 0 < length (content t w n)
  unfolding content pool_if has_pool
  content-some =
      let l = ltb-true (seek (is_pool owned w) n) n some_pool in
      let j = seek (is_pool owned w) n in
      joined-some (λ k. if is_pool owned w k then pool_drawn owned t w n k ∷ [] or_else []) n j l (one_some (is_pool owned w j) (pool_drawn owned t w n j) ((sought (is_pool owned w) n).1 l))

  -- THE LAW
  pub content_model : lowest (content t w n) ≡ 0 → Model (content t w n)
  content_model sound =
      let m = content_fits t w n beyond in
      record {
        low = content-some;
        high = most_length Fits pools (content t w n) m;
        every =
            every_both Near (λ (p : Pool). Fits p × (check2 p ≡ true)) Fit (content t w n) near_fit content_near
            (every_both Fits (λ (p : Pool). check2 p ≡ true) (λ (p : Pool). Fits p × (check2 p ≡ true)) (content t w n) (λ p a b. (a, b)) (most_every Fits pools (content t w n) m)
            (every_each check2 (content t w n) (starts_hold (content t w n) sound)));
      }
