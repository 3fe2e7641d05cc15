-- What the layer below does on a state that fits is what `meaning` says; on any other nothing is done. Assumes nothing.
use Prim.Native.Nat.{ℕ, ◌+◌, ◌*◌, ◌≤◌, ◌<◌}
use mathlib.Core.Path.{◌≡◌, refl, sym, ◌∙◌, ap, ap₂, subst}
use mathlib.Core.Bool.{Bool, true, false, ◌&&◌}
use mathlib.Core.List.{List, ◌++◌}
use native.Mathlib.Omega.{arith}
use borrow.Author.Tests.{eqb-true, eq-eqb, ne_eqb, leb-true, leb-false, le-leb, lt-ltb, le-ltb}
use lib.Dec.{eqb, leb}
use lib.ListN.{length, drop, length-drop, take-append-drop}
use lib.Seq.{length-take-le, get_or-take}
use Rattle.base_words.specs.Pick.{if◌then◌or_else◌}
use Rattle.base_words.specs.Counts.{text_most, names}
use Rattle.base_words.proofs.AllLaws.{and_left, and_right}
use Rattle.base_words.proofs.PickLaws.{pick_no, and_false_right}
use Rattle.base_state.specs.Places.{version_at, instances_words, queue_words, state_words}
use Rattle.base_state.specs.Instances.{instances_of, queues_of, version_of}
use Rattle.base_state.specs.Versions.{is_version}
use Rattle.meaning.specs.declared.Name.{Name}
use Rattle.meaning.specs.declared.Answer.{Answer}
use Rattle.meaning.specs.declared.Traffic.TheVariants.{Nothing}
use Rattle.meaning.specs.declared.Tuple.{Tuple}
use Rattle.meaning.specs.Tuples.{empty}
use Rattle.meaning.specs.Step.{Outcome, step}
use Rattle.meaning.specs.Post.{Posted, post}
use Rattle.check_limits.specs.Limits.{table_fits}
use Rattle.check_model.specs.Checks.{lowest}
use Rattle.check_lowest.specs.Model.{model_of}
use Rattle.state_fits.specs.Fits.{state_fits}
use Rattle.state_fits.proofs.FitsLaws.{queue_tidy}
use Rattle.step_take.specs.Settled.{Done, settled, posted}
use Rattle.step_take.proofs.StepLaws.{posted_is}
use Rattle.proof_steps.proofs.Choices.{by_choice}
use Rattle.proof_steps.proofs.EveryStep.{Fitting}
use Rattle.proof_steps.proofs.Traffic.{state_queues}
use Rattle.step_list.specs.declared.Listed.{Listed}
use Rattle.step_names.specs.Names.{blank_name}
use Rattle.step_list.specs.Listing.{chosen}
use Rattle.step_list.specs.Scanned.{scanned}
use Rattle.step_run.specs.Run.{Run, ran_by, ran}
use Rattle.proof_listing.proofs.ScannedIs.{scanned_is}
use Rattle.proof_listing.proofs.RunIs.{settled-step, run_is}
use Rattle.proof_lengths.proofs.Short.{short}
use Rattle.engine.specs.Engine.{valid, version_number, asked_number, fitting, lent_number, Stepped, leaving, stepped, Left, posted_to, listed_at, RanTo, ended, ran_to, WrittenTo, written, written_to}
use Rattle.write_shown.specs.Shown.{shown_table}
use Rattle.write_buffer.specs.Buffers.{over, lesser, last_place}
use Rattle.write_buffer.proofs.OverLaws.{over_all, lesser_is}

-- a choice between a number and 10 that comes to 0
passed_both : (b : Bool) (x : ℕ) → (if b then x or_else 10) ≡ 0 → (b ≡ true) × (x ≡ 0)
unfolding if◌then◌or_else◌
passed_both true x e = (refl, e)
passed_both false x e = absurd (omega arith)

pub version_known : (v : ℕ) → version_number v ≡ 0 → is_version v ≡ true
unfolding version_number if◌then◌or_else◌
version_known v e = go (is_version v) e
  where
    go : (b : Bool) → ◌≡◌ {A = ℕ} (if b then 0 or_else 25) 0 → b ≡ true
    go true d = refl
    go false d = absurd (omega (arith, d))

pub version_right : (v : ℕ) → is_version v ≡ true → version_number v ≡ 0
unfolding version_number if◌then◌or_else◌
version_right v e = rw e

-- 0, 25 or 10: what holds of each holds of the number of a lent table and state, and of that of a version asked for
pub by_version : (P : ℕ → Type 0) (v : ℕ) → P 0 → P 25 → P (version_number v)
unfolding version_number
by_version P v right other = by_choice P (is_version v) 0 25 (λ e. right) (λ e. other)

pub by_lent : (P : ℕ → Type 0) (t z : List ℕ) → P 0 → P 25 → P 10 → P (lent_number t z)
unfolding lent_number
by_lent P t z right other bad =
    by_choice P (valid t && state_fits t (instances_of z) (queues_of z)) (version_number (version_of (instances_of z))) 10
    (λ e. by_version P (version_of (instances_of z)) right other) (λ e. bad)

pub by_asked : (P : ℕ → Type 0) (t : List ℕ) (v : ℕ) → P 0 → P 25 → P 10 → P (asked_number t v)
unfolding asked_number
by_asked P t v right other bad = by_choice P (valid t) (version_number v) 10 (λ e. by_version P v right other) (λ e. bad)

-- what a fitting table and state are
module _ (t z : List ℕ) (h : fitting t z ≡ true) where
  pub lent_zero : lent_number t z ≡ 0
  unfolding fitting
  lent_zero = eqb-true (lent_number t z) 0 h

  lent_parts : (valid t && state_fits t (instances_of z) (queues_of z) ≡ true) × (version_number (version_of (instances_of z)) ≡ 0)
  unfolding lent_number
  lent_parts = passed_both (valid t && state_fits t (instances_of z) (queues_of z)) (version_number (version_of (instances_of z))) lent_zero

  pub fitting_table : valid t ≡ true
  fitting_table = and_left (valid t) (state_fits t (instances_of z) (queues_of z)) lent_parts.0

  pub table_fits_lem : table_fits t ≡ true
  unfolding valid
  table_fits_lem = and_left (table_fits t) (eqb (lowest (model_of t)) 0) fitting_table

  pub checks_hold : lowest (model_of t) ≡ 0
  unfolding valid
  checks_hold = eqb-true (lowest (model_of t)) 0 (and_right (table_fits t) (eqb (lowest (model_of t)) 0) fitting_table)

  pub state_fits_lem : state_fits t (instances_of z) (queues_of z) ≡ true
  state_fits_lem = and_right (valid t) (state_fits t (instances_of z) (queues_of z)) lent_parts.0

  pub state_known : is_version (version_of (instances_of z)) ≡ true
  state_known = version_known (version_of (instances_of z)) lent_parts.1

module _ (z : List ℕ) (l : length z ≡ state_words) where
  pub long_instances : length (instances_of z) ≡ instances_words
  long_instances = length-take-le instances_words z (omega arith)

  pub long_queues : length (queues_of z) ≡ queue_words * names
  long_queues = simp length-drop (omega arith)

module _ (t z : List ℕ) (l : length z ≡ state_words) (h : fitting t z ≡ true) where
  pub lent_fits : Fitting t (instances_of z) (queues_of z)
  lent_fits = record { long = long_instances z l; wide = long_queues z l; fits = state_fits_lem t z h; known = state_known t z h }

  pub settled_post_lem : (name : ℕ) (g : Tuple) → posted (queues_of z) name g ≡ post (queues_of z) name g
  settled_post_lem name g =
      posted_is (queues_of z) (long_queues z l) (λ m k. queue_tidy (queues_of z) m (state_queues t (instances_of z) (queues_of z) (state_fits_lem t z h) m k)) name g

  pub step_done : (n : Name) (r : Answer) (y : List ℕ) → Done (settled t (instances_of z) (queues_of z) n) r y → ◌≡◌ {A = Stepped} (record { answer = r; state = y }) (stepped t z n)
  unfolding stepped leaving if◌then◌or_else◌
  step_done n r y d =
      let o : Done (step t (instances_of z) (queues_of z) n) r y = subst (λ (o : Outcome). Done o r y) (settled-step t (table_fits_lem t z h) (instances_of z) (queues_of z) lent_fits n) d in
      rw h (λ i. record { answer = o.answer i; state = o.state i })

  pub post_done : (name : ℕ) (g : Tuple) (r : ℕ) (y : List ℕ)
      → (◌≡◌ {A = Posted} (record { number = r; queues = queues_of y }) (posted (queues_of z) name g)) × (instances_of y ≡ instances_of z)
      → ◌≡◌ {A = Left} (record { number = r; state = y }) (posted_to t z name g)
  unfolding posted_to if◌then◌or_else◌
  post_done name g r y d =
      let e : ◌≡◌ {A = Posted} (record { number = r; queues = queues_of y }) (post (queues_of z) name g) = d.0 ∙ settled_post_lem name g in
      let n : r ≡ (post (queues_of z) name g).number = ap (λ (o : Posted). o.number) e in
      let w : queues_of y ≡ (post (queues_of z) name g).queues = ap (λ (o : Posted). o.queues) e in
      let k : y ≡ instances_of z ++ (post (queues_of z) name g).queues = sym (take-append-drop instances_words y) ∙ ap₂ ◌++◌ d.1 w in
      rw h (λ i. record { number = n i; state = k i })

  pub list_done : (k : ℕ) (r : Listed) → r ≡ chosen (scanned t (instances_of z) (queues_of z)) k → r ≡ listed_at t z k
  unfolding listed_at if◌then◌or_else◌
  list_done k r e = rw h (e ∙ ap (λ (ns : List Name). chosen ns k) (scanned_is t (instances_of z) (queues_of z) (table_fits_lem t z h) (checks_hold t z h)))

  pub run_done : (limit steps left : ℕ) (y : List ℕ)
      → ◌≡◌ {A = Run} (record { steps = steps; left = left; instances = instances_of y; queues = queues_of y }) (ran_by (scanned t) (settled t) limit (instances_of z) (queues_of z))
      → ◌≡◌ {A = RanTo} (record { number = 0; steps = steps; left = left; state = y }) (ran_to t z limit)
  unfolding ran_to ended if◌then◌or_else◌
  run_done limit steps left y e =
      let d : ◌≡◌ {A = Run} (record { steps = steps; left = left; instances = instances_of y; queues = queues_of y }) (ran t limit (instances_of z) (queues_of z))
      = e ∙ run_is t (table_fits_lem t z h) (checks_hold t z h) limit (instances_of z) (queues_of z) lent_fits in
      rw h ((λ i. record { number = 0; steps = steps; left = left; state = sym (take-append-drop instances_words y) i }) ∙ ap ended d)

-- the number of a lent table and state
module _ (t z : List ℕ) where
  pub lent_invalid : valid t ≡ false → 10 ≡ lent_number t z
  unfolding lent_number if◌then◌or_else◌
  lent_invalid h = rw h

  pub lent_unfit : state_fits t (instances_of z) (queues_of z) ≡ false → 10 ≡ lent_number t z
  unfolding lent_number
  lent_unfit h = pick_no _ 10 _ 10 (and_false_right (valid t) (state_fits t (instances_of z) (queues_of z)) h) refl

  -- v and k as the code has them
  pub lent_right : valid t ≡ true → state_fits t (instances_of z) (queues_of z) ≡ true → (v k : ℕ) → v ≡ version_of z → k ≡ version_number v → k ≡ lent_number t z
  unfolding lent_number if◌then◌or_else◌
  lent_right f h v k e d = rw (f, h) (d ∙ ap version_number (e ∙ sym (get_or-take instances_words z version_at 0 (omega arith))))

  pub fitting_of : valid t ≡ true → state_fits t (instances_of z) (queues_of z) ≡ true → is_version (version_of (instances_of z)) ≡ true → fitting t z ≡ true
  unfolding fitting lent_number if◌then◌or_else◌
  fitting_of f h k = rw (f, h, version_right (version_of (instances_of z)) k)

-- the number of a lent table and a version asked for
module _ (t : List ℕ) (v : ℕ) where
  pub asked_invalid : valid t ≡ false → 10 ≡ asked_number t v
  unfolding asked_number if◌then◌or_else◌
  asked_invalid h = rw h

  pub asked_right : valid t ≡ true → (k : ℕ) → k ≡ version_number v → k ≡ asked_number t v
  unfolding asked_number if◌then◌or_else◌
  asked_right h k e = rw h e

  pub asked_good : valid t ≡ true → is_version v ≡ true → asked_number t v ≡ 0
  asked_good h k = sym (asked_right h 0 (sym (version_right v k)))

  module _ (h : asked_number t v ≡ 0) where
    pub asked_valid : valid t ≡ true
    unfolding asked_number
    asked_valid = (passed_both (valid t) (version_number v) h).0

    pub asked_known : is_version v ≡ true
    unfolding asked_number
    asked_known = version_known v (passed_both (valid t) (version_number v) h).1

-- what the number k says
module _ (t z : List ℕ) (k : ℕ) (e : k ≡ lent_number t z) where
  pub lent_good : k ≡ 0 → fitting t z ≡ true
  unfolding fitting
  lent_good h = eq-eqb (lent_number t z) 0 (sym e ∙ h)

  module _ (h : k ≡ 0 → ⊥) where
    lent_bad : fitting t z ≡ false
    unfolding fitting
    lent_bad = ne_eqb (lent_number t z) 0 (λ d. h (e ∙ d))

    -- a table or a state that does not fit, or another version
    pub step_bad : (n : Name) (r : Answer) → r ≡ record { number = k; traffic = Nothing; name = 0; tuple = empty } → ◌≡◌ {A = Stepped} (record { answer = r; state = z }) (stepped t z n)
    unfolding stepped if◌then◌or_else◌
    step_bad n r d = rw (lent_bad, d, e)

    pub post_bad : (name : ℕ) (g : Tuple) → ◌≡◌ {A = Left} (record { number = k; state = z }) (posted_to t z name g)
    unfolding posted_to if◌then◌or_else◌
    post_bad name g = rw (lent_bad, e)

    pub list_bad : (j : ℕ) (r : Listed) → r ≡ record { number = k; name = blank_name } → r ≡ listed_at t z j
    unfolding listed_at if◌then◌or_else◌
    list_bad j r d = rw (lent_bad, d, e)

    pub run_bad : (limit : ℕ) → ◌≡◌ {A = RanTo} (record { number = k; steps = 0; left = 0; state = z }) (ran_to t z limit)
    unfolding ran_to if◌then◌or_else◌
    run_bad limit = rw (lent_bad, e)

-- a writing, by the length that was measured
module _ (t out : List ℕ) where
  pub write_bad : valid t ≡ false → ◌≡◌ {A = WrittenTo} (record { number = 10; length = 0; buffer = out }) (written_to t out)
  unfolding written_to if◌then◌or_else◌
  write_bad h = rw h

  pub write_short : valid t ≡ true → leb (length (shown_table t)) (length out) ≡ false → ◌≡◌ {A = WrittenTo} (record { number = 5; length = 0; buffer = out }) (written_to t out)
  unfolding written_to written if◌then◌or_else◌
  write_short h e = rw (h, lt-ltb (length out) (length (shown_table t)) (leb-false (length (shown_table t)) (length out) e))

  pub write_done : (r : ℕ) (y : List ℕ) → valid t ≡ true → leb (length (shown_table t)) (length out) ≡ true → r ≡ length (shown_table t) → y ≡ over (shown_table t) out
      → ◌≡◌ {A = WrittenTo} (record { number = 0; length = r; buffer = y }) (written_to t out)
  unfolding written_to written if◌then◌or_else◌
  write_done r y h e l w =
      let k : length (shown_table t) ≤ length out = leb-true (length (shown_table t)) (length out) e in
      let v : y ≡ shown_table t ++ drop (length (shown_table t)) out = w ∙ over_all (shown_table t) out k in
      rw (h, le-ltb (length out) (length (shown_table t)) k) (λ i. record { number = 0; length = l i; buffer = v i })

-- the text of a valid table is short
valid-short : (t : List ℕ) → valid t ≡ true → length (shown_table t) ≤ text_most
unfolding valid
valid-short t v =
    let fits = and_left (table_fits t) (eqb (lowest (model_of t)) 0) v in
    let sound = eqb-true (lowest (model_of t)) 0 (and_right (table_fits t) (eqb (lowest (model_of t)) 0) v) in
    short t fits sound

-- so that its length is what the writer returns
pub measured : (t : List ℕ) (r : ℕ) → valid t ≡ true → r ≡ lesser (length (shown_table t)) last_place → r ≡ length (shown_table t)
measured t r v e = lesser_is r (length (shown_table t)) text_most e (valid-short t v) (omega arith)

-- and a buffer of 65,536 bytes has room for it
pub room_always : (t : List ℕ) (n : ℕ) → valid t ≡ true → text_most ≤ n → true ≡ leb (length (shown_table t)) n
room_always t n v l = sym (le-leb (length (shown_table t)) n (omega (arith, valid-short t v)))
