-- WHAT AN ACCEPTED STEP SAYS can stand in a line, and the line names the step: its numbers are within the limits of its table, and the values that it was given are those that it consumed. t is a table, s the
-- instances and q the queues of a state. Assumes nothing.
use Prim.Native.Nat.{ℕ, ◌<◌, ◌≤◌}
use mathlib.Core.Path.{◌≡◌, ◌∙◌, sym, subst}
use mathlib.Core.Bool.{Bool, true, false, ◌&&◌, ◌||◌}
use mathlib.Core.List.{List}
use native.Mathlib.Omega.{arith}
use lib.Dec.{eqb, leb, ltb}
use borrow.Author.Tests.{eqb-true, leb-true}
use Rattle.std.proofs.lemmas.Bool.{or_left}
use Rattle.base_words.specs.All.{all}
use Rattle.base_words.specs.Counts.{pools, pool_numbers, branches, instances, values}
use Rattle.base_words.specs.Pick.{if◌then◌or_else◌}
use Rattle.base_words.specs.Words.{at}
use Rattle.base_words.proofs.AllLaws.{and_left, and_right, all_at}
use Rattle.base_words.proofs.SeekLaws.{sought}
use Rattle.base_kinds.specs.declared.moves.Move.{Move}
use Rattle.base_kinds.specs.Moves.{on, making, branch, phases}
use Rattle.base_table.specs.Places.{pool_place}
use Rattle.base_table.specs.Table.{pool_count, has_number, pool_of, kind_in, mode_in, entry_count, exit_count}
use Rattle.base_state.specs.Instances.{made_count}
use Rattle.check_limits.specs.Limits.{within, pool_fits, table_fits, element_fits}
use Rattle.state_fits.specs.Fits.{state_fits}
use Rattle.meaning.specs.declared.Answer.{Answer}
use Rattle.meaning.specs.declared.Evaluated.{Evaluated}
use Rattle.meaning.specs.declared.Name.{Name}
use Rattle.meaning.specs.declared.Traffic.TheVariants.{Nothing, Consumed, Sent}
use Rattle.meaning.specs.Tuples.{empty, same_tuple}
use Rattle.meaning.specs.Queues.{tidied}
use Rattle.meaning.specs.Requirements.{branch_count, instance_named}
use Rattle.meaning.specs.Templates.{gathered, evaluated}
use Rattle.meaning.specs.Changes.{expected}
use Rattle.meaning.specs.Refusals.{first_refusal}
use Rattle.meaning.specs.Step.{Site, site_of, pool_named, element_named, move_named, receives, sends, message_named, template, sent, matches, traffic, refusals}
use Rattle.step_values.proofs.TupleLaws.{same_length}
use Rattle.proof_steps.proofs.Choices.{by_test, by_choice, passed, chosen_true}
use Rattle.proof_steps.proofs.Elements.{pools_few, elements_few}
use Rattle.proof_steps.proofs.Found.{Found, element_named_lem, length_few}
use Rattle.proof_steps.proofs.MadeAfter.{named_made}
use Rattle.proof_steps.proofs.PoolFits.{pool_parts, made_few}
use Rattle.proof_steps.proofs.Traffic.{here, site, state_instances, received_name, sent_name, sent_short}
use Rattle.proof_listing.proofs.ListedAll.{tidied_equal, tidied-empty}
use Rattle.proof_listing.proofs.MoveRows.{phase_few}
use Rattle.proof_lengths.proofs.FewParts.{entries_few, entries_all, exits_few, exits_all}
use Rattle.log_lines.specs.Entries.{number_most}
use Rattle.proof_logs.proofs.StepEntries.{Small, given_by}

module _ (t s q : List ℕ) (n : Name) (fits : table_fits t ≡ true) (allowed : first_refusal (refusals t s q n) ≡ 0) where
  abbrev p : ℕ
  p = pool_named t n

  abbrev el : List ℕ
  el = element_named t n

  abbrev m : Move
  m = move_named t n

  abbrev x : Site
  x = site_of t s n

  f : Found t s n
  f = here t s q n fits allowed

  -- ITS NUMBERS
  pool_is : at t (pool_place p) ≡ n.pool
  unfolding pool_of has_number
  pool_is = eqb-true (at t (pool_place p)) n.pool ((sought (has_number t n.pool) (pool_count t)).1 f.pool)

  pool_fits_lem : pool_fits t p ≡ true
  unfolding table_fits
  pool_fits_lem = all_at (pool_fits t) (pool_count t) (and_right (within 1 pools (pool_count t)) (all (pool_fits t) (pool_count t)) (and_left (within 1 pools (pool_count t) && all (pool_fits t) (pool_count t)) _ fits)) p f.pool

  number_few : at t (pool_place p) ≤ pool_numbers
  unfolding pool_fits
  number_few =
      let h : within 1 pool_numbers (at t (pool_place p)) ≡ true = and_left (within 1 pool_numbers (at t (pool_place p))) _ (and_left _ _ (and_left _ _ pool_fits_lem)) in
      leb-true (at t (pool_place p)) pool_numbers (and_right (leb 1 (at t (pool_place p))) _ h)

  phase_there : n.phase < phases
  unfolding move_named
  phase_there = phase_few (kind_in el) (mode_in el) n.phase f.move

  element_right : element_fits el ≡ true
  element_right = element_named_lem t s n fits f

  branches_few : branch_count el m ≤ branches
  unfolding branch_count
  branches_few =
      by_choice (λ (k : ℕ). k ≤ branches) (eqb m.takes branch) (entry_count el) _
      (λ e. omega (arith, entries_all el element_right, entries_few el element_right))
      (λ e.
      by_choice (λ (k : ℕ). k ≤ branches) (eqb m.puts branch) (exit_count el) 1
      (λ e. omega (arith, exits_all el element_right, exits_few el element_right))
      (λ e. omega arith))

  module _ (state : state_fits t s q ≡ true) where
    made_most : made_count s p ≤ instances
    made_most = made_few t fits p (made_count s p) (pool_parts t s p (state_instances t s q state p (omega (arith, f.pool, pools_few t fits)))).made

    instance_few : n.instance ≤ instances
    unfolding instance_named
    instance_few =
        by_test (eqb m.also making)
        (λ e. omega (arith, made_most, eqb-true n.instance (made_count s p) (chosen_true (eqb m.also making) (eqb n.instance (made_count s p)) (ltb n.instance (made_count s p)) f.instance e)))
        (λ e. omega (arith, made_most, named_made t s n f e))

    pub step_small : Small n
    step_small = record {
      pool = omega (arith, pool_is, number_few);
      instance = omega (arith, instance_few);
      element = omega (arith, f.element, elements_few t fits p f.pool);
      phase = omega (arith, phase_there);
      branch = omega (arith, f.branch, branches_few);
    }

  -- WHAT IT SAYS: the name and the length of its message
  pub says_name : (traffic x).name ≤ number_most
  unfolding traffic
  says_name =
      by_choice (λ (a : Answer). a.name ≤ number_most) (receives x) (record { number = 0; traffic = Consumed; name = message_named x; tuple = (template x).tuple }) _
      (λ e. omega (arith, received_name t s q n fits allowed e))
      (λ e.
      by_choice (λ (a : Answer). a.name ≤ number_most) (sends x) (record { number = 0; traffic = Sent; name = message_named x; tuple = (sent x).tuple })
      (record { number = 0; traffic = Nothing; name = 0; tuple = empty })
      (λ d. omega (arith, sent_name t s q n fits allowed d))
      (λ d. omega arith))

  template_few : receives x ≡ true → (template x).tuple.length ≤ values
  unfolding template expected evaluated gathered site_of if◌then◌or_else◌
  template_few e = rw e (length_few t s n fits f (or_left (receives x) (sends x) e))

  pub says_few : (traffic x).tuple.length ≤ values
  unfolding traffic
  says_few =
      by_choice (λ (a : Answer). a.tuple.length ≤ values) (receives x) (record { number = 0; traffic = Consumed; name = message_named x; tuple = (template x).tuple }) _
      template_few
      (λ e.
      by_choice (λ (a : Answer). a.tuple.length ≤ values) (sends x) (record { number = 0; traffic = Sent; name = message_named x; tuple = (sent x).tuple })
      (record { number = 0; traffic = Nothing; name = 0; tuple = empty })
      (λ d. sent_short t s q n fits allowed d)
      (λ d. omega arith))

  -- THE VALUES that it was given: those consumed, or none
  consumed_same : same_tuple (template x).tuple n.given ≡ true
  unfolding matches site_of
  consumed_same = (site t s q n fits allowed).matched

  none_same : receives x ≡ false → same_tuple empty n.given ≡ true
  unfolding template expected site_of
  none_same e = subst (λ (v : Evaluated). same_tuple v.tuple n.given ≡ true) (passed (eqb m.receives on) _ (record { defined = true; tuple = empty }) e) consumed_same

  pub given_few : n.given.length ≤ values
  given_few =
      by_test (receives x)
      (λ e. omega (arith, template_few e, same_length (template x).tuple n.given consumed_same))
      (λ e. omega (arith, same_length empty n.given (none_same e)))

  none_is : receives x ≡ false → empty ≡ tidied n.given
  none_is e = sym tidied-empty ∙ tidied_equal empty n.given (none_same e)

  pub given_is : given_by (traffic x).traffic (traffic x).tuple ≡ tidied n.given
  unfolding traffic given_by
  given_is =
      by_choice (λ (a : Answer). given_by a.traffic a.tuple ≡ tidied n.given) (receives x) (record { number = 0; traffic = Consumed; name = message_named x; tuple = (template x).tuple }) _
      (λ e. tidied_equal (template x).tuple n.given consumed_same)
      (λ e.
      by_choice (λ (a : Answer). given_by a.traffic a.tuple ≡ tidied n.given) (sends x) (record { number = 0; traffic = Sent; name = message_named x; tuple = (sent x).tuple })
      (record { number = 0; traffic = Nothing; name = 0; tuple = empty })
      (λ d. none_is e)
      (λ d. none_is e))
