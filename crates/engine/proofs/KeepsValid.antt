-- A fresh state of a valid table, for a version that there is, is valid, and a valid state still is after every step and every post, accepted or not. Assumes nothing.
use Prim.Native.Nat.{ℕ, ◌+◌}
use mathlib.Core.Path.{◌≡◌, ◌∙◌, ap, ap₂}
use mathlib.Core.Bool.{true}
use mathlib.Core.List.{List, [], ◌∷◌, ◌++◌}
use native.Mathlib.Omega.{arith}
use lib.Dec.{eqb}
use lib.ListN.{length, length-append}
use lib.Seq.{take_at, drop_at, get_or-take}
use Rattle.base_words.proofs.AllLaws.{and_left}
use Rattle.base_state.specs.Places.{version_at, instances_words}
use Rattle.base_state.specs.Instances.{instances_of, queues_of, version_of}
use Rattle.meaning.specs.declared.Name.{Name}
use Rattle.meaning.specs.declared.Tuple.{Tuple}
use Rattle.meaning.specs.Step.{Outcome, step}
use Rattle.meaning.specs.Post.{post}
use Rattle.check_limits.specs.Limits.{table_fits}
use Rattle.check_model.specs.Checks.{lowest}
use Rattle.check_lowest.specs.Model.{model_of}
use Rattle.state_fits.specs.Fresh.{fresh}
use Rattle.state_fits.proofs.FreshLaws.{Startable}
use Rattle.state_fits.proofs.FreshFits.{startable, fresh_long, fresh_version, fresh_fits}
use Rattle.proof_steps.proofs.Choices.{chosen}
use Rattle.proof_steps.proofs.EveryStep.{Fitting, step_keeps_fits, step_keeps_version, post_keeps_state}
use Rattle.proof_steps.proofs.MadeAfter.{StartsOnce}
use Rattle.proof_listing.proofs.StartUnique.{starts_once}
use Rattle.engine.specs.Engine.{valid, Left, asked_number, fitting, leaving, stepped, posted_to}
use Rattle.engine.specs.Calls.{Act, a_step, a_post, did, after, Valid}
use Rattle.engine.proofs.CallLaws.{fitting_table, table_fits_lem, checks_hold, fitting_of, lent_fits, asked_valid, asked_known}

module _ (t : List ℕ) where
  -- a valid table, and two parts that fit it
  pub joined : (s q : List ℕ) → valid t ≡ true → Fitting t s q → Valid t (s ++ q)
  joined s q v f =
      let i : instances_of (s ++ q) ≡ s = take_at s q instances_words f.long in
      let k : queues_of (s ++ q) ≡ q = drop_at s q instances_words f.long in
      record {
        long = length-append s q ∙ ap₂ ◌+◌ f.long f.wide;
        fits = fitting_of t (s ++ q) v (rw (i, k) f.fits) (rw i f.known);
      }

  module _ (z : List ℕ) (valid-state : Valid t z) where
    pub table_valid : valid t ≡ true
    table_valid = fitting_table t z valid-state.fits

    pub parts : Fitting t (instances_of z) (queues_of z)
    parts = lent_fits t z valid-state.long valid-state.fits

    once : StartsOnce t
    once = starts_once t (checks_hold t z valid-state.fits)

    -- AFTER A STEP
    pub step-valid : (n : Name) → Valid t (stepped t z n).state
    unfolding stepped leaving
    step-valid n =
        rw (chosen (fitting t z) (leaving (step t (instances_of z) (queues_of z) n)) _ valid-state.fits)
        (joined (step t (instances_of z) (queues_of z) n).instances (step t (instances_of z) (queues_of z) n).queues table_valid
        (step_keeps_fits t (instances_of z) (queues_of z) (table_fits_lem t z valid-state.fits) parts once n))

    step_version : (n : Name) → version_of (instances_of (stepped t z n).state) ≡ version_of (instances_of z)
    unfolding stepped leaving
    step_version n =
        let o : Outcome = step t (instances_of z) (queues_of z) n in
        let fits : table_fits t ≡ true = table_fits_lem t z valid-state.fits in
        let long : length o.instances ≡ instances_words = (step_keeps_fits t (instances_of z) (queues_of z) fits parts once n).long in
        rw (chosen (fitting t z) (leaving o) _ valid-state.fits)
        (ap version_of (take_at o.instances o.queues instances_words long) ∙ step_keeps_version t (instances_of z) (queues_of z) fits parts once n)

    post_version : (name : ℕ) (g : Tuple) → version_of (instances_of (posted_to t z name g).state) ≡ version_of (instances_of z)
    unfolding posted_to
    post_version name g =
        rw (chosen {A = Left} (fitting t z) (record { number = (post (queues_of z) name g).number; state = instances_of z ++ (post (queues_of z) name g).queues }) _ valid-state.fits)
        (ap version_of (take_at (instances_of z) (post (queues_of z) name g).queues instances_words parts.long))

    -- AFTER A POST
    pub post-valid : (name : ℕ) (g : Tuple) → Valid t (posted_to t z name g).state
    unfolding posted_to
    post-valid name g =
        rw (chosen {A = Left} (fitting t z) (record { number = (post (queues_of z) name g).number; state = instances_of z ++ (post (queues_of z) name g).queues }) _ valid-state.fits)
        (joined (instances_of z) (post (queues_of z) name g).queues table_valid
        (post_keeps_state t (instances_of z) (queues_of z) parts name g))

  -- AFTER EVERY CALL, accepted or not
  pub did-valid : (a : Act) (z : List ℕ) → Valid t z → Valid t (did t a z).state
  unfolding did
  did-valid (a_step n) z v = step-valid z v n
  did-valid (a_post name g) z v = post-valid z v name g

  -- "and keeps it": the version
  pub did_version : (a : Act) (z : List ℕ) → Valid t z → version_of (instances_of (did t a z).state) ≡ version_of (instances_of z)
  unfolding did
  did_version (a_step n) z v = step_version z v n
  did_version (a_post name g) z v = post_version z v name g

  pub after-valid : (acts : List Act) (z : List ℕ) → Valid t z → Valid t (after t acts z)
  unfolding after
  after-valid [] z v = v
  after-valid (a ∷ rest) z v = after-valid rest (did t a z).state (did-valid a z v)

  -- A FRESH STATE, for a version that there is
  pub fresh-valid : (v : ℕ) → asked_number t v ≡ 0 → Valid t (fresh t v)
  unfolding valid
  fresh-valid v asked =
      let good : valid t ≡ true = asked_valid t v asked in
      let fits : table_fits t ≡ true = and_left (table_fits t) (eqb (lowest (model_of t)) 0) good in
      let ask : Startable t = startable t fits in
      let kept : version_of (instances_of (fresh t v)) ≡ v = get_or-take instances_words (fresh t v) version_at 0 (omega arith) ∙ fresh_version t v ask in
      record {
        long = fresh_long t v ask;
        fits = fitting_of t (fresh t v) good (fresh_fits t fits v) (rw kept (asked_known t v asked));
      }
