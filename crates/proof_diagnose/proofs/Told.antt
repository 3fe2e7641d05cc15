-- WITH 4 THE THING TOLD BREAKS THE CHECK: for 2, 3 and 7 there is such a thing, and it is the leftmost. Assumes nothing.
use Rattle.std.proofs.lemmas.Bool.{not-false}
use Rattle.xml_skip.specs.Skipping.{Reached}
use Rattle.std.specs.Prelude.{Ok, Err}
use Prim.Native.Nat.{ℕ, zero, suc, ◌<◌}
use mathlib.Core.Path.{◌≡◌, refl, sym, ◌∙◌, ap}
use mathlib.Core.Bool.{Bool, true, false, not, ◌&&◌, false≢true}
use mathlib.Core.List.{List, [], ◌∷◌}
use native.Mathlib.Omega.{arith}
use lib.Dec.{eqb, ltb}
use lib.ListN.{length}
use borrow.Author.Tests.{ltb-true, ltb-false, eq-eqb, ne_eqb}
use Rattle.base_words.specs.All.{all}
use Rattle.base_words.specs.Each.{each}
use Rattle.base_words.specs.Pick.{if◌then◌or_else◌}
use Rattle.base_words.specs.Seek.{seek}
use Rattle.base_words.proofs.AllLaws.{and_left}
use Rattle.base_words.proofs.PickLaws.{and_true}
use Rattle.base_words.proofs.SeekLaws.{sought}
use Rattle.check_model.specs.Checks.{Pool, check1, check2, check3, check4, check5, check6, check7, check8, one_start, start_receives, one_default, lowest}
use Rattle.text_readers.specs.Reading.{excessive}
use Rattle.text_read.specs.declared.Reading.{Reading}
use Rattle.text_read.specs.Notation.{answer_for}
use Rattle.draw_things.specs.Things.{place, within}
use Rattle.draw_walk.specs.Walk.{Walk}
use Rattle.draw_numbers.specs.Who.{has_participants, is_pool}
use Rattle.draw_model.specs.Content.{process_of, pool_drawn, pool_if, content}
use Rattle.draw_read.specs.Drawings.{not_run, checked_as, meant_by, walked_text, things_of, unless_fault, answered}
use Rattle.draw_diagnose.specs.declared.Diagnosis.{Diagnosis}
use Rattle.draw_diagnose.specs.Seats.{is_misstarted, is_unasked, has_defaults, is_pool_seat, is_seat, first_seat, seat_at}
use Rattle.draw_diagnose.specs.Diagnosis.{check_broken, told, diagnosed_by, diagnosed}
use Rattle.proof_diagnose.proofs.Choices.{choice}
use Rattle.proof_diagnose.proofs.Diagnosed.{diagnosed_number}
use Rattle.proof_diagnose.proofs.Seats.{start_told, many_told}
use Rattle.proof_diagnose.proofs.Gateways.{each-joined, gateway_told}

-- a test that does not pass at every number fails at one
all_some : (f : ℕ → Bool) (n : ℕ) → all f n ≡ false → (k : ℕ) × (k < n) × (f k ≡ false)
unfolding all
all_some f zero e = absurd (false≢true (sym e))
all_some f (suc n) e = go (f n) refl (all_some f n)
  where
    before : (a b : Bool) → b ≡ true → a && b ≡ false → a ≡ false
    before true b q h = absurd (false≢true (sym h ∙ q))
    before false b q h = refl

    go : (b : Bool) → f n ≡ b → (all f n ≡ false → (k : ℕ) × (k < n) × (f k ≡ false)) → (k : ℕ) × (k < suc n) × (f k ≡ false)
    go false q s = (n, omega arith, q)
    go true q s = let r = s (before (all f n) (f n) q e) in (r.0, omega (arith, r.1), r.2)

-- the lowest check broken is broken
past : (b : Bool) (c rest x : ℕ) → (c ≡ x → ⊥) → (if not b then c or_else rest) ≡ x → rest ≡ x
unfolding if◌then◌or_else◌
past true c rest x d e = e
past false c rest x d e = absurd (d e)

fails : (b : Bool) (x rest : ℕ) → (rest ≡ x → ⊥) → (if not b then x or_else rest) ≡ x → b ≡ false
unfolding if◌then◌or_else◌
fails true x rest d e = absurd (d e)
fails false x rest d e = refl

abbrev Never : ℕ → ℕ → Type 0
Never x m = m ≡ x → ⊥

module _ (ps : List Pool) where
  abbrev from8 : ℕ
  from8 = if not (each check8 ps) then 8 or_else 0

  abbrev from7 : ℕ
  from7 = if not (each check7 ps) then 7 or_else from8

  abbrev from4 : ℕ
  from4 = if not (each check4 ps) then 4 or_else if not (each check5 ps) then 5 or_else if not (check6 ps) then 6 or_else from7

  never_8 : (x : ℕ) → Never x 8 → Never x 0 → Never x from8
  never_8 x a b = choice (Never x) _ 8 0 a b

  never_4 : (x : ℕ) → x < 4 → 0 < x → Never x from4
  never_4 x l g =
      choice (Never x) _ 4 _ (λ e. omega (arith, e, l))
      (choice (Never x) _ 5 _ (λ e. omega (arith, e, l))
      (choice (Never x) _ 6 _ (λ e. omega (arith, e, l))
      (choice (Never x) _ 7 _ (λ e. omega (arith, e, l)) (never_8 x (λ e. omega (arith, e, l)) (λ e. omega (arith, e, g))))))

  lowest_2 : lowest ps ≡ 2 → each check2 ps ≡ false
  unfolding lowest
  lowest_2 e =
      fails (each check2 ps) 2 _ (choice (Never 2) _ 3 _ (λ q. omega (arith, q)) (never_4 2 (omega arith) (omega arith)))
      (past (check1 ps) 1 _ 2 (λ q. omega (arith, q)) e)

  lowest_3 : lowest ps ≡ 3 → each check3 ps ≡ false
  unfolding lowest
  lowest_3 e =
      fails (each check3 ps) 3 _ (never_4 3 (omega arith) (omega arith))
      (past (each check2 ps) 2 _ 3 (λ q. omega (arith, q)) (past (check1 ps) 1 _ 3 (λ q. omega (arith, q)) e))

  lowest_7 : lowest ps ≡ 7 → each check7 ps ≡ false
  unfolding lowest
  lowest_7 e =
      fails (each check7 ps) 7 _ (never_8 7 (λ q. omega (arith, q)) (λ q. omega (arith, q)))
      (past (check6 ps) 6 _ 7 (λ q. omega (arith, q))
      (past (each check5 ps) 5 _ 7 (λ q. omega (arith, q))
      (past (each check4 ps) 4 _ 7 (λ q. omega (arith, q))
      (past (each check3 ps) 3 _ 7 (λ q. omega (arith, q))
      (past (each check2 ps) 2 _ 7 (λ q. omega (arith, q)) (past (check1 ps) 1 _ 7 (λ q. omega (arith, q)) e))))))

module _ (t w : List ℕ) (n : ℕ) where
  abbrev owned : Bool
  owned = has_participants w n

  -- the thing that is told for a check, and where
  pub record Seated (check at : ℕ) : Type 0 where
    pub thing : ℕ
    pub inside : thing < n
    pub there : at ≡ place w thing
    pub broken : is_seat check owned t w n thing ≡ true
    pub leftmost : (j : ℕ) → j < thing → is_seat check owned t w n j ≡ false

  -- where something breaks it, the first of them is told
  seated : (check k : ℕ) → k < n → is_seat check owned t w n k ≡ true → Seated check (seat_at check t w n)
  unfolding seat_at first_seat if◌then◌or_else◌
  seated check k l e = go (ltb (seek (is_seat check owned t w n) n) n) refl
    where
      found : ltb (seek (is_seat check owned t w n) n) n ≡ false → ⊥
      found q = false≢true (sym ((sought (is_seat check owned t w n) n).2 k (omega (arith, ltb-false (seek (is_seat check owned t w n) n) n q, l))) ∙ e)

      go : (b : Bool) → ltb (seek (is_seat check owned t w n) n) n ≡ b → Seated check (if b then place w (seek (is_seat check owned t w n) n) or_else 0)
      go false q = absurd (found q)
      go true q =
          let s = sought (is_seat check owned t w n) n in
          let i = ltb-true (seek (is_seat check owned t w n) n) n q in
          record { thing = seek (is_seat check owned t w n) n; inside = i; there = refl; broken = s.1 i; leftmost = s.2 }

  -- a pool of the model that fails a test
  one_pool : (f : Pool → Bool) (k : ℕ) → each f (pool_if owned t w n k) ≡ false → (is_pool owned w k ≡ true) × (f (pool_drawn owned t w n k) ≡ false)
  unfolding pool_if each if◌then◌or_else◌
  one_pool f k = go (is_pool owned w k) refl
    where
      alone : (b : Bool) → b && true ≡ false → b ≡ false
      alone true q = q
      alone false q = refl

      go : (b : Bool) → is_pool owned w k ≡ b → each f (if b then pool_drawn owned t w n k ∷ [] or_else []) ≡ false → (is_pool owned w k ≡ true) × (f (pool_drawn owned t w n k) ≡ false)
      go true p q = (p, alone _ q)
      go false p q = absurd (false≢true (sym q))

  some_pool : (f : Pool → Bool) → each f (content t w n) ≡ false → (k : ℕ) × (k < n) × (is_pool owned w k ≡ true) × (f (pool_drawn owned t w n k) ≡ false)
  unfolding content
  some_pool f e =
      let r = all_some (λ k. each f (pool_if owned t w n k)) n (sym (each-joined f (pool_if owned t w n) n) ∙ e) in
      let h = one_pool f r.0 r.2 in (r.0, r.1, h.0, h.1)

  start_seat : each check2 (content t w n) ≡ false → Seated one_start (seat_at one_start t w n)
  unfolding is_seat is_pool_seat if◌then◌or_else◌
  start_seat e =
      let r = some_pool check2 e in
      seated one_start r.0 r.1 (broken r.0 r.2 (not-false _ (sym (start_told owned t w n r.0) ∙ r.3)))
    where
      broken : (k : ℕ) → is_pool owned w k ≡ true → is_misstarted w n (process_of owned w k) ≡ true → is_seat one_start owned t w n k ≡ true
      broken k p q = and_true _ _ p q

  many_seat : each check3 (content t w n) ≡ false → Seated start_receives (seat_at start_receives t w n)
  unfolding is_seat is_pool_seat if◌then◌or_else◌
  many_seat e =
      let r = some_pool check3 e in
      seated start_receives r.0 r.1 (broken r.0 r.2 (many_told owned t w n r.0 r.3))
    where
      broken : (k : ℕ) → is_pool owned w k ≡ true → is_unasked w n (process_of owned w k) k ≡ true → is_seat start_receives owned t w n k ≡ true
      broken k p q = and_true _ _ p q

  gateway_seat : each check7 (content t w n) ≡ false → Seated one_default (seat_at one_default t w n)
  unfolding is_seat if◌then◌or_else◌
  gateway_seat e =
      let r = some_pool check7 e in
      let j = all_some _ n (sym (gateway_told owned t w n r.0) ∙ r.3) in
      seated one_default j.0 j.1 (broken j.0 (and_left (has_defaults t w n j.0) _ (not-false _ j.2)))
    where
      broken : (k : ℕ) → has_defaults t w n k ≡ true → is_seat one_default owned t w n k ≡ true
      broken k q = q

-- A TEXT: beside 4 is the lowest check that its model breaks
module _ (a : Reading) (t w : List ℕ) (n : ℕ) (e : a.number ≡ check_broken) where
  rule_of_4 : (diagnosed_by a t w n).rule ≡ a.beside
  unfolding diagnosed_by if◌then◌or_else◌
  rule_of_4 = rw (ne_eqb a.number not_run (λ q. omega (arith, e, q)), eq-eqb a.number check_broken e) refl

  place_of_4 : (diagnosed_by a t w n).place ≡ seat_at a.beside t w n
  unfolding diagnosed_by if◌then◌or_else◌
  place_of_4 = rw (ne_eqb a.number not_run (λ q. omega (arith, e, q)), eq-eqb a.number check_broken e) refl

module _ (text : List ℕ) where
  abbrev things : List ℕ
  things = things_of text

  abbrev n : ℕ
  n = (walked_text text).count

  abbrev Beside : Reading → Type 0
  Beside r = r.number ≡ check_broken → r.beside ≡ lowest (content text things n)

  checked : Beside (checked_as (content text things n))
  unfolding checked_as answer_for
  checked e = refl

  meant : Beside (meant_by text things n)
  unfolding meant_by
  meant = choice Beside _ _ _ (λ e. absurd (omega (arith, e))) (choice Beside _ _ _ (λ e. absurd (omega (arith, e))) checked)

  beside_4 : Beside (answered text)
  unfolding answered unless_fault
  beside_4 = choice Beside _ _ _ (λ e. absurd (omega (arith, e))) (go (walked_text text).end)
    where
      go : (s : Reached) → Beside (unless_fault s (meant_by text things n))
      go (Ok q) = meant
      go (Err q) = λ e. absurd (omega (arith, e))

  module _ (four : (diagnosed text).number ≡ check_broken) where
    answer_4 : (answered text).number ≡ check_broken
    answer_4 = sym (diagnosed_number text) ∙ four

    rule_is : (diagnosed text).rule ≡ (answered text).beside
    unfolding diagnosed
    rule_is = rule_of_4 (answered text) text things n answer_4

    pub check_told : (diagnosed text).rule ≡ lowest (content text things n)
    check_told = rule_is ∙ beside_4 answer_4

    place_is : (diagnosed text).place ≡ seat_at (diagnosed text).rule text things n
    unfolding diagnosed
    place_is = place_of_4 (answered text) text things n answer_4 ∙ ap (λ (c : ℕ). seat_at c text things n) (sym rule_is)

    moved : (check : ℕ) → (diagnosed text).rule ≡ check → Seated text things n check (seat_at check text things n) → Seated text things n check (diagnosed text).place
    moved check r s = rw (place_is, r) s

    pub start_place : (diagnosed text).rule ≡ one_start → Seated text things n one_start (diagnosed text).place
    start_place r = moved one_start r (start_seat text things n (lowest_2 (content text things n) (sym check_told ∙ r)))

    pub many_place : (diagnosed text).rule ≡ start_receives → Seated text things n start_receives (diagnosed text).place
    many_place r = moved start_receives r (many_seat text things n (lowest_3 (content text things n) (sym check_told ∙ r)))

    pub gateway_place : (diagnosed text).rule ≡ one_default → Seated text things n one_default (diagnosed text).place
    gateway_place r = moved one_default r (gateway_seat text things n (lowest_7 (content text things n) (sym check_told ∙ r)))
