-- One call, a step or a post: its number is 0 exactly when the rules permit it, and its state is the one that they give. Assumes nothing.
use Prim.Native.Nat.{ℕ}
use mathlib.Core.Path.{◌≡◌, refl, sym, ◌∙◌, ap}
use mathlib.Core.Bool.{Bool, true, false, ◌&&◌}
use mathlib.Core.List.{List, [], ◌∷◌, ◌++◌}
use native.Mathlib.Omega.{arith}
use lib.Dec.{eqb, ltb}
use lib.ListN.{take-append-drop}
use borrow.Author.Tests.{eq-eqb, ne_eqb, ltb-true}
use Rattle.base_words.specs.Each.{each}
use Rattle.base_words.specs.Pick.{if◌then◌or_else◌}
use Rattle.base_words.proofs.AllLaws.{and_left, and_right}
use Rattle.base_state.specs.Places.{instances_words}
use Rattle.base_state.specs.Instances.{instances_of, queues_of}
use Rattle.meaning.specs.declared.Name.{Name}
use Rattle.meaning.specs.declared.Tuple.{Tuple}
use Rattle.meaning.specs.declared.Traffic.TheVariants.{Nothing}
use Rattle.meaning.specs.Tuples.{empty}
use Rattle.meaning.specs.Queues.{sending}
use Rattle.meaning.specs.Refusals.{Refusal, first_refusal}
use Rattle.meaning.specs.Post.{Posted, post_refusals, post}
use Rattle.meaning.specs.Step.{Outcome, site_of, traffic, instances_after, queues_after, refusals_at, refusals, refused, step}
use Rattle.proof_steps.proofs.Choices.{chosen}
use Rattle.engine.specs.Engine.{Left, lent_number, fitting, Stepped, leaving, stepped, posted_to}
use Rattle.engine.specs.Calls.{Act, a_step, a_post, did}
use Rattle.proof_demands.specs.Demands.{number_given, all_hold, permitted, after_act, state_given}
use Rattle.proof_valid.proofs.NumberGiven.{stepped_number, posted_number}
use Rattle.proof_demands.proofs.Numbers.{unfit_number}

-- no refusal is given just where all conditions hold
abbrev Numbered : List Refusal → Bool
Numbered rs = each (λ (r : Refusal). ltb 0 r.number) rs

none_exactly : (rs : List Refusal) → Numbered rs ≡ true → eqb (first_refusal rs) 0 ≡ all_hold rs
unfolding each first_refusal all_hold if◌then◌or_else◌
none_exactly [] h = refl
none_exactly (r ∷ rs) h = go r.holds (none_exactly rs (and_right (ltb 0 r.number) (Numbered rs) h))
  where
    go : (b : Bool) → eqb (first_refusal rs) 0 ≡ all_hold rs → eqb (if b then first_refusal rs or_else r.number) 0 ≡ b && all_hold rs
    go true rest = rest
    go false rest = ne_eqb r.number 0 (λ e. omega (arith, ltb-true 0 r.number (and_left (ltb 0 r.number) (Numbered rs) h)))

step_none : (t s q : List ℕ) (n : Name) → eqb (first_refusal (refusals t s q n)) 0 ≡ all_hold (refusals t s q n)
unfolding refusals refusals_at each
step_none t s q n = none_exactly (refusals t s q n) refl

post_none : (q : List ℕ) (name : ℕ) (g : Tuple) → eqb (first_refusal (post_refusals q name g)) 0 ≡ all_hold (post_refusals q name g)
unfolding post_refusals each
post_none q name g = none_exactly (post_refusals q name g) refl

-- a number that is j where table or state are bad
bad_exactly : (b c : Bool) (j k : ℕ) → (b ≡ false → j ≡ 0 → ⊥) → eqb k 0 ≡ c → eqb (if b then k or_else j) 0 ≡ b && c
unfolding if◌then◌or_else◌
bad_exactly true c j k bad e = e
bad_exactly false c j k bad e = ne_eqb j 0 (bad refl)

whole : (z : List ℕ) → instances_of z ++ queues_of z ≡ z
whole z = take-append-drop instances_words z

-- the state of a step and of a post
step_state : (t s q : List ℕ) (n : Name) → (step t s q n).instances ++ (step t s q n).queues ≡ (if all_hold (refusals t s q n) then instances_after t s n ++ queues_after (site_of t s n) q or_else s ++ q)
unfolding step if◌then◌or_else◌
step_state t s q n = rw (step_none t s q n) (go (all_hold (refusals t s q n)))
  where
    o : Bool → Outcome
    o b = if b then record { answer = traffic (site_of t s n); instances = instances_after t s n; queues = queues_after (site_of t s n) q } or_else refused (first_refusal (refusals t s q n)) s q

    go : (b : Bool) → (o b).instances ++ (o b).queues ≡ (if b then instances_after t s n ++ queues_after (site_of t s n) q or_else s ++ q)
    go true = refl
    go false = refl

post_state : (s q : List ℕ) (name : ℕ) (g : Tuple) → s ++ (post q name g).queues ≡ (if all_hold (post_refusals q name g) then s ++ sending q name g or_else s ++ q)
unfolding post if◌then◌or_else◌
post_state s q name g = rw (post_none q name g) (go (all_hold (post_refusals q name g)))
  where
    o : Bool → Posted
    o b = if b then record { number = 0; queues = sending q name g } or_else record { number = first_refusal (post_refusals q name g); queues = q }

    go : (b : Bool) → s ++ (o b).queues ≡ (if b then s ++ sending q name g or_else s ++ q)
    go true = refl
    go false = refl

module _ (t : List ℕ) where
  -- accepted exactly when permitted
  pub accepted_exactly : (a : Act) (z : List ℕ) → eqb (did t a z).number 0 ≡ permitted t a z
  unfolding did permitted
  accepted_exactly (a_step n) z =
      ap (λ (k : ℕ). eqb k 0) (stepped_number t z n)
      ∙ bad_exactly (fitting t z) (all_hold (refusals t (instances_of z) (queues_of z) n)) (lent_number t z) (first_refusal (refusals t (instances_of z) (queues_of z) n)) (unfit_number t z) (step_none t (instances_of z) (queues_of z) n)
  accepted_exactly (a_post name g) z =
      ap (λ (k : ℕ). eqb k 0) (posted_number t z name g)
      ∙ bad_exactly (fitting t z) (all_hold (post_refusals (queues_of z) name g)) (lent_number t z) (first_refusal (post_refusals (queues_of z) name g)) (unfit_number t z) (post_none (queues_of z) name g)

  -- the state is the one that the rules give, and as it was where it is not permitted
  pub state_exactly : (a : Act) (z : List ℕ) → (did t a z).state ≡ state_given t a z
  unfolding did state_given permitted after_act stepped leaving posted_to if◌then◌or_else◌
  state_exactly (a_step n) z = go (fitting t z)
    where
      o : Bool → Stepped
      o b = if b then leaving (step t (instances_of z) (queues_of z) n) or_else record { answer = record { number = lent_number t z; traffic = Nothing; name = 0; tuple = empty }; state = z }

      go : (b : Bool) → (o b).state ≡ (if b && all_hold (refusals t (instances_of z) (queues_of z) n) then instances_after t (instances_of z) n ++ queues_after (site_of t (instances_of z) n) (queues_of z) or_else z)
      go true =
          step_state t (instances_of z) (queues_of z) n
          ∙ ap (λ (y : List ℕ). if all_hold (refusals t (instances_of z) (queues_of z) n) then instances_after t (instances_of z) n ++ queues_after (site_of t (instances_of z) n) (queues_of z) or_else y) (whole z)
      go false = refl
  state_exactly (a_post name g) z = go (fitting t z)
    where
      o : Bool → Left
      o b = if b then record { number = (post (queues_of z) name g).number; state = instances_of z ++ (post (queues_of z) name g).queues } or_else record { number = lent_number t z; state = z }

      go : (b : Bool) → (o b).state ≡ (if b && all_hold (post_refusals (queues_of z) name g) then instances_of z ++ sending (queues_of z) name g or_else z)
      go true =
          post_state (instances_of z) (queues_of z) name g
          ∙ ap (λ (y : List ℕ). if all_hold (post_refusals (queues_of z) name g) then instances_of z ++ sending (queues_of z) name g or_else y) (whole z)
      go false = refl

  -- the number is the one given
  pub number_exactly : (a : Act) (z : List ℕ) → (did t a z).number ≡ number_given t a z
  unfolding did number_given
  number_exactly (a_step n) z = stepped_number t z n
  number_exactly (a_post name g) z = posted_number t z name g

  -- the state of an accepted one
  pub accepted_gives : (a : Act) (z : List ℕ) → (did t a z).number ≡ 0 → (did t a z).state ≡ after_act t a z
  unfolding state_given
  accepted_gives a z e = state_exactly a z ∙ chosen (permitted t a z) (after_act t a z) z (sym (accepted_exactly a z) ∙ eq-eqb (did t a z).number 0 e)
