-- What the calls on the desk's list leave in it, once the four records are put back. Assumes nothing.
use Prim.Native.Nat.{ℕ, ◌≤◌}
use mathlib.Core.Path.{◌≡◌, refl, sym, ◌∙◌, ap}
use mathlib.Core.Bool.{Bool, true, false}
use mathlib.Core.List.{List}
use native.Mathlib.Omega.{arith}
use borrow.Author.Tests.{eqb-true}
use lib.Dec.{eqb, ltb}
use lib.ListN.{length}
use Rattle.base_words.specs.Pick.{if◌then◌or_else◌}
use Rattle.base_table.specs.Table.{pool_count}
use Rattle.base_state.specs.Instances.{instances_of}
use Rattle.meaning.specs.declared.Name.{Name}
use Rattle.meaning.specs.declared.Traffic.TheVariants.{Nothing}
use Rattle.meaning.specs.Tuples.{empty}
use Rattle.state_figures.specs.Figures.{counted, Figured, figured}
use Rattle.state_records.specs.declared.Record.{Record}
use Rattle.state_records.specs.declared.Four.{Four}
use Rattle.state_records.specs.Records.{triples, four_of, put_back, lent_words, four_left}
use Rattle.state_records.proofs.FourLaws.{number_same, number_counts, put_counted, put_same, count_same, triples_long}
use Rattle.step_poll.specs.Items.{items_most}
use Rattle.step_poll.specs.Poll.{Polling}
use Rattle.proof_steps.proofs.Elements.{pools_few}
use Rattle.engine.specs.Engine.{lent_number, Stepped, stepped, RanTo, ran_to}
use Rattle.engine.specs.Calls.{polled_to}
use Rattle.engine.specs.Desk.{AtDesk, records_number, at_desk, stepped_at, ran_at, poll_number, polled_at, figured_to}
use Rattle.engine.proofs.CallLaws.{table_fits_lem, lent_good}
use Rattle.desk.specs.declared.StepLeft.{StepLeft}
use Rattle.desk.specs.declared.RunLeft.{RunLeft}
use Rattle.desk.specs.declared.PollLeft.{PollLeft}
use Rattle.desk.specs.declared.CountLeft.{CountLeft}
use Rattle.desk.specs.Lent.{AtFour, in_four, stepped_four, ran_four, polled_four, figured_four}

-- a table that is not refused has four pools at most
few : (t z : List ℕ) → lent_number t z ≡ 0 → pool_count t ≤ 4
few t z h = pools_few t (table_fits_lem t z (lent_good t z 0 (sym h) refl))

-- RECORDS ys that a call is lent, and what their number k tells
abbrev Fit : List ℕ → List Record → Type 0
Fit t ys = (pool_count t ≤ 4) × (length ys ≡ pool_count t)

module _ (t z : List ℕ) (ys : List Record) where
  number_lent : records_number t z (lent_words (four_of ys)) ≡ records_number t z (triples ys)
  unfolding records_number
  number_lent = number_same (lent_number t z) ys t (instances_of z) (few t z)

  fits : records_number t z (triples ys) ≡ 0 → Fit t ys
  unfolding records_number
  fits h =
      let w = number_counts (lent_number t z) (triples ys) t (instances_of z) h in
      (few t z w.0, sym (triples_long ys) ∙ w.1)

  poll_lent : (count : ℕ) → poll_number t z (lent_words (four_of ys)) count ≡ poll_number t z (triples ys) count
  unfolding poll_number
  poll_lent count = ap (λ (k : ℕ). if ltb items_most count then 22 or_else k) number_lent

  within : (b : Bool) (k : ℕ) → (if b then 22 or_else k) ≡ 0 → k ≡ 0
  unfolding if◌then◌or_else◌
  within true k h = absurd (omega (arith, h))
  within false k h = h

  poll_fits : (count : ℕ) → poll_number t z (triples ys) count ≡ 0 → Fit t ys
  unfolding poll_number
  poll_fits count h = fits (within (ltb items_most count) (records_number t z (triples ys)) h)

-- A CALL that returns x and leaves the state y, or is refused with R of its number
module _ {A : Type 0} (t : List ℕ) (ys : List Record) (x : A) (y : List ℕ) where
  abbrev called : Bool → A → List (List ℕ) → AtDesk A
  called b r rs = if b then record { done = x; records = counted t (instances_of y) } or_else record { done = r; records = rs }

  -- with the records put back
  abbrev back : AtDesk A → AtDesk A
  back a = record { done = a.done; records = triples (put_back ys (four_left (four_of ys) a.records)) }

  by_number : (b : Bool) (r : A) → (b ≡ true → Fit t ys) → back (called b r (lent_words (four_of ys))) ≡ called b r (triples ys)
  unfolding if◌then◌or_else◌
  by_number true r h = λ i. record { done = x; records = put_counted ys t (instances_of y) (h refl).0 (h refl).1 i }
  by_number false r h = λ i. record { done = r; records = triples (put_same ys i) }

  put : (k : ℕ) (r : A) → (k ≡ 0 → Fit t ys) → back (at_desk k t x y r (lent_words (four_of ys))) ≡ at_desk k t x y r (triples ys)
  unfolding at_desk
  put k r h = by_number (eqb k 0) r (λ e. h (eqb-true k 0 e))

  desk_put : (R : ℕ → A) (j k : ℕ) → j ≡ k → (k ≡ 0 → Fit t ys) → (f d : Four) (w : A) (zs : List Record) → f ≡ four_of ys
      → ◌≡◌ {A = AtFour A} (record { done = w; four = d }) (in_four f (at_desk j t x y (R j) (lent_words f))) → zs ≡ put_back ys d
      → ◌≡◌ {A = AtDesk A} (record { done = w; records = triples zs }) (at_desk k t x y (R k) (triples ys))
  desk_put R j k same h f d w zs e o p =
      let o' : ◌≡◌ {A = AtFour A} (record { done = w; four = d }) (in_four (four_of ys) (at_desk k t x y (R k) (lent_words (four_of ys)))) = o ∙ (λ i. in_four (e i) (at_desk (same i) t x y (R (same i)) (lent_words (e i)))) in
      (λ i. record { done = (o' i).done; records = triples ((p ∙ ap (λ (a : AtFour A). put_back ys a.four) o') i) }) ∙ put k (R k) h

module _ (t z : List ℕ) (ys : List Record) (f : Four) (zs : List Record) (e : f ≡ four_of ys) where
  pub step_put : (n : Name) (d : StepLeft) (y : List ℕ) → ◌≡◌ {A = AtFour Stepped} (record { done = record { answer = d.answer; state = y }; four = d.four }) (stepped_four t z f n) → zs ≡ put_back ys d.four
      → ◌≡◌ {A = AtDesk Stepped} (record { done = record { answer = d.answer; state = y }; records = triples zs }) (stepped_at t z (triples ys) n)
  unfolding stepped_four stepped_at
  step_put n d y o p =
      desk_put t ys (stepped t z n) (stepped t z n).state (λ k. record { answer = record { number = k; traffic = Nothing; name = 0; tuple = empty }; state = z }) (records_number t z (lent_words f)) (records_number t z (triples ys))
      (ap (λ (u : Four). records_number t z (lent_words u)) e ∙ number_lent t z ys) (fits t z ys) f d.four (record { answer = d.answer; state = y }) zs e o p

  pub run_put : (limit : ℕ) (d : RunLeft) (y : List ℕ)
      → ◌≡◌ {A = AtFour RanTo} (record { done = record { number = d.ran.number; steps = d.ran.steps; left = d.ran.left; state = y }; four = d.four }) (ran_four t z f limit) → zs ≡ put_back ys d.four
      → ◌≡◌ {A = AtDesk RanTo} (record { done = record { number = d.ran.number; steps = d.ran.steps; left = d.ran.left; state = y }; records = triples zs }) (ran_at t z (triples ys) limit)
  unfolding ran_four ran_at
  run_put limit d y o p =
      desk_put t ys (ran_to t z limit) (ran_to t z limit).state (λ k. record { number = k; steps = 0; left = 0; state = z }) (records_number t z (lent_words f)) (records_number t z (triples ys))
      (ap (λ (u : Four). records_number t z (lent_words u)) e ∙ number_lent t z ys) (fits t z ys) f d.four (record { number = d.ran.number; steps = d.ran.steps; left = d.ran.left; state = y }) zs e o p

  pub poll_put : (w : List ℕ) (count : ℕ) (d : PollLeft) (y : List ℕ)
      → ◌≡◌ {A = AtFour Polling} (record { done = record { number = d.polled.number; accepted = d.polled.accepted; state = y }; four = d.four }) (polled_four t z f w count) → zs ≡ put_back ys d.four
      → ◌≡◌ {A = AtDesk Polling} (record { done = record { number = d.polled.number; accepted = d.polled.accepted; state = y }; records = triples zs }) (polled_at t z (triples ys) w count)
  unfolding polled_four polled_at
  poll_put w count d y o p =
      desk_put t ys (polled_to t z w count) (polled_to t z w count).state (λ k. record { number = k; accepted = 0; state = z }) (poll_number t z (lent_words f) count) (poll_number t z (triples ys) count)
      (ap (λ (u : Four). poll_number t z (lent_words u) count) e ∙ poll_lent t z ys count) (poll_fits t z ys count) f d.four (record { number = d.polled.number; accepted = d.polled.accepted; state = y }) zs e o p

-- THE COUNT ITSELF
module _ (t s : List ℕ) (ys : List Record) where
  abbrev counting : Bool → List (List ℕ) → Figured
  counting b rs = if b then record { number = 0; records = counted t s } or_else record { number = 26; records = rs }

  abbrev asked : Bool → Bool → ℕ → List (List ℕ) → Figured
  asked a b k rs = if a then counting b rs or_else record { number = k; records = rs }

  abbrev set_back : Figured → Figured
  set_back a = record { number = a.number; records = triples (put_back ys (four_left (four_of ys) a.records)) }

  by_count : (b : Bool) → (b ≡ true → Fit t ys) → set_back (counting b (lent_words (four_of ys))) ≡ counting b (triples ys)
  unfolding if◌then◌or_else◌
  by_count true h = λ i. record { number = 0; records = put_counted ys t s (h refl).0 (h refl).1 i }
  by_count false h = λ i. record { number = 26; records = triples (put_same ys i) }

  by_lent : (a : Bool) (k : ℕ) → (a ≡ true → pool_count t ≤ 4)
      → set_back (asked a (eqb (length (lent_words (four_of ys))) (pool_count t)) k (lent_words (four_of ys))) ≡ asked a (eqb (length (triples ys)) (pool_count t)) k (triples ys)
  unfolding if◌then◌or_else◌
  by_lent true k h =
      ap (λ (b : Bool). set_back (counting b (lent_words (four_of ys)))) (count_same ys t (h refl))
      ∙ by_count (eqb (length ys) (pool_count t)) (λ e. (h refl, eqb-true (length ys) (pool_count t) e))
      ∙ ap (λ (n : ℕ). counting (eqb n (pool_count t)) (triples ys)) (sym (triples_long ys))
  by_lent false k h = λ i. record { number = k; records = triples (put_same ys i) }

pub figures_put : (t z : List ℕ) (ys : List Record) (f : Four) (zs : List Record) → f ≡ four_of ys → (d : CountLeft) → ◌≡◌ {A = AtFour ℕ} (record { done = d.number; four = d.four }) (figured_four t z f) → zs ≡ put_back ys d.four
    → ◌≡◌ {A = Figured} (record { number = d.number; records = triples zs }) (figured_to t z (triples ys))
unfolding figured_four figured_to figured
figures_put t z ys f zs e d o p =
    let o' : ◌≡◌ {A = AtFour ℕ} (record { done = d.number; four = d.four }) (figured_four t z (four_of ys)) = o ∙ ap (λ (u : Four). figured_four t z u) e in
    (λ i. record { number = (o' i).done; records = triples ((p ∙ ap (λ (a : AtFour ℕ). put_back ys a.four) o') i) })
    ∙ by_lent t (instances_of z) ys (eqb (lent_number t z) 0) (lent_number t z) (λ b. few t z (eqb-true (lent_number t z) 0 b))
