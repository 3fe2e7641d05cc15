-- The engine's calls on a part of the words of four records. Assumes nothing.
use Prim.Native.Nat.{ℕ, ◌≤◌}
use mathlib.Core.Path.{◌≡◌, ◌∙◌, ap}
use mathlib.Core.List.{List, ◌++◌}
use native.Mathlib.Omega.{arith}
use lib.ListN.{length, take, drop}
use lib.Seq.{length-take-le}
use Rattle.meaning.specs.declared.Name.{Name}
use Rattle.meaning.specs.declared.Answer.{Answer}
use Rattle.state_figures.specs.Figures.{Figured}
use Rattle.state_records.specs.declared.Four.{Four}
use Rattle.state_records.specs.Records.{words_of, lent_count, lent_words, four_from, four_left}
use Rattle.state_records.proofs.FourLaws.{count_most_lem, words_long}
use Rattle.step_poll.specs.Poll.{Polling}
use Rattle.engine.specs.Engine.{Stepped, RanTo}
use Rattle.engine.specs.Desk.{AtDesk, stepped_at, ran_at, polled_at, figured_to}
use Rattle.desk.specs.Lent.{AtFour, in_four, stepped_four, ran_four, polled_four, figured_four}

module _ (f : Four) (n' : ℕ) (ws : List (List ℕ)) (e : ws ≡ words_of f) (c : n' ≡ lent_count f) where
  pub part_fits : n' ≤ length ws
  part_fits = rw (e, c) (omega (arith, count_most_lem f, words_long f))

  pub part_long : n' ≡ length (take n' ws)
  part_long = omega (arith, part_fits, length-take-le n' ws part_fits)

  module _ (zs : List (List ℕ)) (r : Four) (l : r ≡ four_from (zs ++ drop n' ws) f.count) where
    left_is : r ≡ four_left f zs
    left_is = l ∙ (λ i. four_from (zs ++ drop (c i) (e i)) f.count)

    in_four_lem : {A : Type 0} (x : A) (G : List (List ℕ) → AtDesk A) → ◌≡◌ {A = AtDesk A} (record { done = x; records = zs }) (G (take n' ws))
        → ◌≡◌ {A = AtFour A} (record { done = x; four = r }) (in_four f (G (lent_words f)))
    in_four_lem {A} x G d =
        let w : ◌≡◌ {A = AtDesk A} (record { done = x; records = zs }) (G (lent_words f)) = d ∙ (λ i. G (take (c i) (e i))) in
        λ i. record { done = (w i).done; four = (left_is ∙ ap (λ (a : AtDesk A). four_left f a.records) w) i }

    count_four : (x : ℕ) (G : List (List ℕ) → Figured) → ◌≡◌ {A = Figured} (record { number = x; records = zs }) (G (take n' ws))
        → ◌≡◌ {A = AtFour ℕ} (record { done = x; four = r }) (record { done = (G (lent_words f)).number; four = four_left f (G (lent_words f)).records })
    count_four x G d =
        let w : ◌≡◌ {A = Figured} (record { number = x; records = zs }) (G (lent_words f)) = d ∙ (λ i. G (take (c i) (e i))) in
        λ i. record { done = (w i).number; four = (left_is ∙ ap (λ (a : Figured). four_left f a.records) w) i }

    pub step_done : (t z : List ℕ) (n : Name) (a : Answer) (y : List ℕ) → ◌≡◌ {A = AtDesk Stepped} (record { done = record { answer = a; state = y }; records = zs }) (stepped_at t z (take n' ws) n)
        → ◌≡◌ {A = AtFour Stepped} (record { done = record { answer = a; state = y }; four = r }) (stepped_four t z f n)
    unfolding stepped_four
    step_done t z n a y d = in_four_lem (record { answer = a; state = y }) (λ rs. stepped_at t z rs n) d

    pub run_done : (t z : List ℕ) (limit number steps left : ℕ) (y : List ℕ) → ◌≡◌ {A = AtDesk RanTo} (record { done = record { number = number; steps = steps; left = left; state = y }; records = zs }) (ran_at t z (take n' ws) limit)
        → ◌≡◌ {A = AtFour RanTo} (record { done = record { number = number; steps = steps; left = left; state = y }; four = r }) (ran_four t z f limit)
    unfolding ran_four
    run_done t z limit number steps left y d = in_four_lem (record { number = number; steps = steps; left = left; state = y }) (λ rs. ran_at t z rs limit) d

    pub poll_done : (t z w : List ℕ) (count number accepted : ℕ) (y : List ℕ) → ◌≡◌ {A = AtDesk Polling} (record { done = record { number = number; accepted = accepted; state = y }; records = zs }) (polled_at t z (take n' ws) w count)
        → ◌≡◌ {A = AtFour Polling} (record { done = record { number = number; accepted = accepted; state = y }; four = r }) (polled_four t z f w count)
    unfolding polled_four
    poll_done t z w count number accepted y d = in_four_lem (record { number = number; accepted = accepted; state = y }) (λ rs. polled_at t z rs w count) d

    pub figures_done : (t z : List ℕ) (number : ℕ) → ◌≡◌ {A = Figured} (record { number = number; records = zs }) (figured_to t z (take n' ws)) → ◌≡◌ {A = AtFour ℕ} (record { done = number; four = r }) (figured_four t z f)
    unfolding figured_four
    figures_done t z number d = count_four number (λ rs. figured_to t z rs) d
