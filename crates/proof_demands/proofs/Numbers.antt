-- The number that each public call gives back: as one equation, what stands beside it, and which numbers can come. Assumes nothing.
use Prim.Native.Nat.{ℕ}
use mathlib.Core.Path.{◌≡◌, refl, sym}
use mathlib.Core.Bool.{Bool, true, false}
use mathlib.Core.List.{List, [], ◌∷◌}
use native.Mathlib.Omega.{arith}
use lib.Dec.{eqb}
use borrow.Author.Tests.{eqb-true, eqb-false}
use Rattle.base_words.specs.Each.{each}
use Rattle.base_words.specs.Pick.{if◌then◌or_else◌}
use Rattle.base_words.proofs.AllLaws.{and_left, and_right}
use Rattle.base_state.specs.Instances.{instances_of, queues_of}
use Rattle.meaning.specs.declared.Name.{Name}
use Rattle.meaning.specs.declared.Answer.{Answer}
use Rattle.meaning.specs.declared.Tuple.{Tuple}
use Rattle.meaning.specs.declared.Traffic.TheVariants.{Nothing}
use Rattle.meaning.specs.Tuples.{empty}
use Rattle.meaning.specs.Refusals.{Refusal, first_refusal}
use Rattle.meaning.specs.Post.{post_refusals}
use Rattle.meaning.specs.Step.{Outcome, site_of, instances_after, queues_after, traffic, refusals_at, refusals, refused, step}
use Rattle.proof_steps.proofs.Choices.{by_choice}
use Rattle.check_model.specs.Checks.{lowest}
use Rattle.check_lowest.specs.Model.{model_of}
use Rattle.check_limits.specs.Limits.{table_fits}
use Rattle.state_fits.specs.Fresh.{fresh}
use Rattle.engine.specs.declared.Verdict.{Verdict}
use Rattle.engine.specs.Engine.{Left, asked_number, lent_number, verdict_of, freshened, fitting, Stepped, leaving, stepped, posted_to}
use Rattle.engine.specs.Profile.{nested_of}
use Rattle.engine.proofs.CallLaws.{by_lent, by_asked}
use Rattle.engine.proofs.ProfileLaws.{by_nested}
use Rattle.proof_figures.proofs.EveryStep.{traffic_zero}
use Rattle.proof_valid.proofs.NumberGiven.{stepped_number, posted_number}
use Rattle.proof_demands.specs.Demands.{is_one_of, check_numbers, nested_numbers, fresh_numbers, step_numbers, post_numbers}

-- a refused step says its number and nothing else
abbrev pub Plain : Answer → Type 0
Plain a = (a.number ≡ 0 → ⊥) → a ≡ record { number = a.number; traffic = Nothing; name = 0; tuple = empty }

step_plain : (t s q : List ℕ) (n : Name) → Plain (step t s q n).answer
unfolding step
step_plain t s q n =
    by_choice (λ (o : Outcome). Plain o.answer) (eqb (first_refusal (refusals t s q n)) 0)
    (record { answer = traffic (site_of t s n); instances = instances_after t s n; queues = queues_after (site_of t s n) q })
    (refused (first_refusal (refusals t s q n)) s q)
    (λ e k. absurd (k (traffic_zero (site_of t s n))))
    (λ e k. refl)

pub stepped_plain : (t z : List ℕ) (n : Name) → Plain (stepped t z n).answer
unfolding stepped leaving
stepped_plain t z n =
    by_choice (λ (o : Stepped). Plain o.answer) (fitting t z) (leaving (step t (instances_of z) (queues_of z) n))
    (record { answer = record { number = lent_number t z; traffic = Nothing; name = 0; tuple = empty }; state = z })
    (λ e. step_plain t (instances_of z) (queues_of z) n)
    (λ e k. refl)

-- the number of what does not fit is not 0
pub unfit_number : (t z : List ℕ) → fitting t z ≡ false → lent_number t z ≡ 0 → ⊥
unfolding fitting
unfit_number t z e = eqb-false (lent_number t z) 0 e

-- an accepted one says what was consumed or sent
step-traffic : (t s q : List ℕ) (n : Name) → (step t s q n).answer.number ≡ 0 → (step t s q n).answer ≡ traffic (site_of t s n)
unfolding step
step-traffic t s q n =
    by_choice (λ (o : Outcome). o.answer.number ≡ 0 → o.answer ≡ traffic (site_of t s n)) (eqb (first_refusal (refusals t s q n)) 0)
    (record { answer = traffic (site_of t s n); instances = instances_after t s n; queues = queues_after (site_of t s n) q })
    (refused (first_refusal (refusals t s q n)) s q)
    (λ e k. refl)
    (λ e k. absurd (eqb-false (first_refusal (refusals t s q n)) 0 e k))

pub stepped-traffic : (t z : List ℕ) (n : Name) → (stepped t z n).answer.number ≡ 0 → (stepped t z n).answer ≡ traffic (site_of t (instances_of z) n)
unfolding stepped leaving
stepped-traffic t z n =
    by_choice (λ (o : Stepped). o.answer.number ≡ 0 → o.answer ≡ traffic (site_of t (instances_of z) n)) (fitting t z)
    (leaving (step t (instances_of z) (queues_of z) n))
    (record { answer = record { number = lent_number t z; traffic = Nothing; name = 0; tuple = empty }; state = z })
    (λ e. step-traffic t (instances_of z) (queues_of z) n)
    (λ e k. absurd (unfit_number t z e k))

pub fresh_number : (t : List ℕ) (v : ℕ) (z : List ℕ) → (freshened t v z).number ≡ asked_number t v
unfolding freshened
fresh_number t v z =
    by_choice (λ (o : Left). o.number ≡ asked_number t v) (eqb (asked_number t v) 0) (record { number = 0; state = fresh t v })
    (record { number = asked_number t v; state = z }) (λ e. sym (eqb-true (asked_number t v) 0 e)) (λ e. refl)

-- a number of one of the refusals, or 0
pub first_among : (f : ℕ → Bool) (rs : List Refusal) → f 0 ≡ true → each (λ (r : Refusal). f r.number) rs ≡ true → f (first_refusal rs) ≡ true
unfolding each first_refusal
first_among f [] z h = z
first_among f (r ∷ rs) z h =
    by_choice (λ (k : ℕ). f k ≡ true) r.holds (first_refusal rs) r.number
    (λ e. first_among f rs z (and_right (f r.number) (each (λ (r : Refusal). f r.number) rs) h))
    (λ e. and_left (f r.number) (each (λ (r : Refusal). f r.number) rs) h)

-- WHICH NUMBERS CAN COME
pub check_numbers_lem : (t : List ℕ) → is_one_of check_numbers (verdict_of t).number ≡ true
unfolding verdict_of is_one_of if◌then◌or_else◌
check_numbers_lem t =
    by_choice (λ (v : Verdict). is_one_of check_numbers v.number ≡ true) (table_fits t) _ (record { number = 10; beside = 0 })
    (λ e.
    by_choice (λ (v : Verdict). is_one_of check_numbers v.number ≡ true) (eqb (lowest (model_of t)) 0) (record { number = 0; beside = 0 })
    (record { number = 4; beside = lowest (model_of t) }) (λ f. refl) (λ f. refl))
    (λ e. refl)

pub nested_numbers_lem : (t : List ℕ) → is_one_of nested_numbers (nested_of t).number ≡ true
unfolding is_one_of if◌then◌or_else◌
nested_numbers_lem t = by_nested (λ (v : Verdict). is_one_of nested_numbers v.number ≡ true) t (λ v l. refl) (λ v l. refl) (λ v. refl)

pub fresh_numbers_lem : (t : List ℕ) (v : ℕ) (z : List ℕ) → is_one_of fresh_numbers (freshened t v z).number ≡ true
unfolding is_one_of if◌then◌or_else◌
fresh_numbers_lem t v z = rw (fresh_number t v z) (by_asked (λ k. is_one_of fresh_numbers k ≡ true) t v refl refl refl)

pub step_numbers_lem : (t z : List ℕ) (n : Name) → is_one_of step_numbers (stepped t z n).answer.number ≡ true
unfolding is_one_of refusals refusals_at each if◌then◌or_else◌
step_numbers_lem t z n =
    rw (stepped_number t z n)
    (by_choice (λ (k : ℕ). is_one_of step_numbers k ≡ true) (fitting t z) (first_refusal (refusals t (instances_of z) (queues_of z) n)) (lent_number t z)
    (λ e. first_among (is_one_of step_numbers) (refusals t (instances_of z) (queues_of z) n) refl refl)
    (λ e. by_lent (λ k. is_one_of step_numbers k ≡ true) t z refl refl refl))

pub post_numbers_lem : (t z : List ℕ) (name : ℕ) (g : Tuple) → is_one_of post_numbers (posted_to t z name g).number ≡ true
unfolding is_one_of post_refusals each if◌then◌or_else◌
post_numbers_lem t z name g =
    rw (posted_number t z name g)
    (by_choice (λ (k : ℕ). is_one_of post_numbers k ≡ true) (fitting t z) (first_refusal (post_refusals (queues_of z) name g)) (lent_number t z)
    (λ e. first_among (is_one_of post_numbers) (post_refusals (queues_of z) name g) refl refl)
    (λ e. by_lent (λ k. is_one_of post_numbers k ≡ true) t z refl refl refl))
