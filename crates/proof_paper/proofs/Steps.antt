-- THE COLLABORATION: a step is accepted exactly where the paper's rules have a transition of that pool, instance, element, phase, branch and message,
-- and the state afterwards is the transition's. Assumes nothing.
use Prim.Native.Nat.{ℕ, ◌+◌, ◌<◌, ◌≤◌}
use mathlib.Core.Path.{◌≡◌, refl, sym, ◌∙◌, ap, subst}
use mathlib.Core.Bool.{true, false, not, ◌&&◌, ◌||◌, false≢true}
use mathlib.Core.List.{List, [], ◌++◌}
use native.Mathlib.Omega.{arith}
use lib.Dec.{eqb, ltb}
use lib.ListN.{length, replicate, length-replicate}
use borrow.Author.Tests.{eqb-true, eq-eqb, ne_eqb, not-true, ltb-true, lt-ltb}
use Rattle.std.proofs.lemmas.Bool.{or_right}
use Rattle.base_words.specs.Each.{each}
use Rattle.base_words.specs.Pick.{if◌then◌or_else◌}
use Rattle.base_words.specs.Words.{at}
use Rattle.base_words.specs.Counts.{pools, names, values, instances, messages}
use Rattle.base_words.proofs.AllLaws.{and_left, and_right}
use Rattle.base_words.proofs.PickLaws.{and_true}
use Rattle.base_words.proofs.ListLaws.{each_at}
use Rattle.base_kinds.specs.declared.moves.Move.{Move}
use Rattle.base_kinds.specs.Moves.{on, making, clearing, moves, no_move, rule_of, move_of}
use Rattle.base_table.specs.Places.{pool_place}
use Rattle.base_table.specs.Table.{pool_count, element_count, element_at, pool_of, limit_of, kind_in, mode_in, message_name, message_length}
use Rattle.base_state.specs.Places.{instance_words, copy_words}
use Rattle.base_state.specs.Instances.{made_count, version_of}
use Rattle.check_limits.specs.Limits.{table_fits, element_fits}
use Rattle.meaning.specs.Values.{Value}
use Rattle.meaning.specs.declared.Tuple.{Tuple}
use Rattle.meaning.specs.declared.Name.{Name}
use Rattle.meaning.specs.declared.Traffic.TheVariants.{Consumed, Sent}
use Rattle.meaning.specs.declared.Evaluated.{Evaluated as Gathered}
use Rattle.meaning.specs.Tuples.{empty, same_tuple}
use Rattle.meaning.specs.Templates.{evaluated, bound}
use Rattle.meaning.specs.Assignments.{Assigned}
use Rattle.meaning.specs.Messages.{has, times}
use Rattle.meaning.specs.Queues.{message_count as count, messages_of, sending}
use Rattle.meaning.specs.Refusals.{first_refusal}
use Rattle.meaning.specs.Requirements.{branch_count, instance_named, below_limit}
use Rattle.meaning.specs.Changes.{expected, received, worked, message_sent, more}
use Rattle.meaning.specs.Step.{Site, site_of, before, instance_of, shared_of, pool_named, element_named, move_named, exists, receives, sends, template, work, sent, defined, matches, after_taking, instance_after, made_after, instances_after, queued, space, queues_after, refusals, traffic}
use Rattle.engine.specs.Engine.{valid}
use Rattle.proof_steps.proofs.Choices.{by_test, by_choice, chosen, passed, chosen_true}
use Rattle.proof_steps.proofs.Elements.{pools_few, limit_few, element_fits_lem}
use Rattle.proof_steps.proofs.Found.{Found, found, name_few}
use Rattle.proof_steps.proofs.AcceptedParts.{Accepted, accepted_parts, parts_accepted}
use Rattle.proof_steps.proofs.QueuesAfter.{after_receiving, after_sending}
use Rattle.proof_steps.proofs.QueueFits.{fits_tidy}
use Rattle.proof_steps.proofs.Traffic.{state_queues, state_instances}
use Rattle.proof_steps.proofs.PoolFits.{pool_parts, made_few}
use Rattle.proof_steps.proofs.MadeAfter.{Makes, more_one, makes_none, makes_one_lem, named_made}
use Rattle.proof_steps.proofs.EveryStep.{Fitting}
use Rattle.proof_listing.proofs.PoolFound.{pool_found}
use Rattle.proof_valid.proofs.ChecksHold.{valid_fits, valid_sound, starts_once}
use Rattle.paper.specs.Syntax.{Evaluated, Assignments, ε, ◌&◌, Element, Pool, Stands}
use Rattle.paper.specs.States.{Local, blank, ◌fields:◌, put, inc, Multiset, Configuration, ◌beside◌, own_of, stores_of, seen, upd_inst, add_inst, add, rm, ◌without◌}
use Rattle.paper.specs.Evaluation.{Evals, Matches, Updates, both}
use Rattle.paper.specs.Processes.{Internal, kill, Label, waits as Waits, Moves}
use Rattle.paper.specs.Collaborations.{Seen, Runs, Steps, C-Create, C-Internal, C-Receive, C-Deliver}
use Rattle.proof_paper.specs.Decoders.{span, chain, message_of, assignments_of, mode_at, element_of, process_at, pool_at, collaboration_of, local_of, is_pool, configuration_of, named_of, values_of, seen_as, told_of}
use Rattle.proof_paper.proofs.Stores.{put_is}
use Rattle.proof_paper.proofs.Spans.{stands_from_zero, zero_stands}
use Rattle.proof_paper.proofs.Fields.{FieldsOnly, fields_start, fields_then, none_only, binding_of}
use Rattle.proof_paper.proofs.Rows.{Parts, Fires, assigning, Says, effect, Goes, says_new, says_receives, says_sends, says_internal, means_new, means_receives, means_sends, means_internal}
use Rattle.proof_paper.proofs.EachKind.{parts_at, Grants}
use Rattle.proof_paper.proofs.Transitions.{process_sound, process_complete}
use Rattle.proof_paper.proofs.Process as Process
use Rattle.proof_paper.proofs.Mail.{mail_of, mail_consumed, mail_sent, has-times, times-has, times-values, equal_values, none_given, given_none}
use Rattle.proof_paper.proofs.Pools.{instance_long, board, seen_local, blank_is, pool_number, instances_after_lem, stores_after, made_after_lem}
use Rattle.proof_paper.proofs.Sites as Sites

module _ (t s q : List ℕ) (v : valid t ≡ true) (state : Fitting t s q) (n : Name) where
  abbrev κ : Configuration
  κ = configuration_of t s q

  abbrev version : ℕ
  version = version_of s

  abbrev p₀ : ℕ
  p₀ = pool_named t n

  abbrev el : List ℕ
  el = element_named t n

  abbrev m : Move
  m = move_named t n

  abbrev b : ℕ
  b = n.branch

  abbrev g : Tuple
  g = n.given

  abbrev x : Site
  x = site_of t s n

  abbrev name : ℕ
  name = message_name el b

  abbrev fits : table_fits t ≡ true
  fits = valid_fits t v

  -- WHERE: the pool and the element stand in the collaboration
  runs_there : p₀ < pool_count t → n.element < element_count t p₀ → Runs (collaboration_of t) (named_of n) (pool_at t p₀) (element_of el)
  unfolding collaboration_of pool_at process_at element_named is_pool
  runs_there l r = record {
    place = p₀;
    pool_stands = stands_from_zero (pool_at t) (pool_count t) p₀ l;
    pool_named = pool_number t n.pool (lt-ltb p₀ (pool_count t) l);
    element_stands = stands_from_zero (λ e. element_of (element_at t p₀ e)) (element_count t p₀) n.element r;
  }

  runs_found : {P : Pool} {e : Element} → Runs (collaboration_of t) (named_of n) P e
      → (p₀ < pool_count t) × (n.element < element_count t p₀) × (e ≡ element_of el) × (P.limit ≡ limit_of t p₀)
  unfolding collaboration_of pool_at process_at element_named
  runs_found {P} {e} r =
      let (l, i) = zero_stands (pool_at t) P (pool_count t) r.place r.pool_stands in
      let k : at t (pool_place r.place) ≡ n.pool = sym (ap (λ (y : Pool). y.name) i) ∙ r.pool_named in
      let z : r.place ≡ p₀ = sym (pool_found t fits (valid_sound t v) r.place l) ∙ ap (pool_of t) k in
      let j : P ≡ pool_at t p₀ = i ∙ ap (pool_at t) z in
      let (w, d) = zero_stands (λ y. element_of (element_at t p₀ y)) e (element_count t p₀) n.element (subst (λ (y : Pool). Stands e n.element y.process) j r.element_stands) in
      (subst (λ y. y < pool_count t) z l, w, d, ap (λ (y : Pool). y.limit) j)

  -- THE STATE THAT THE STEP FINDS
  made_is : p₀ < pool_count t → κ.made n.pool ≡ made_count s p₀
  unfolding is_pool
  made_is l = chosen (is_pool t n.pool) _ 0 (lt-ltb p₀ (pool_count t) l)

  held_is : p₀ < pool_count t → n.instance < made_count s p₀ → κ.σi n.pool n.instance ≡ own_of (local_of (instance_of s p₀ n.instance))
  unfolding is_pool
  held_is l r =
      chosen (is_pool t n.pool && ltb n.instance (made_count s p₀)) _ blank
      (and_true (is_pool t n.pool) (ltb n.instance (made_count s p₀)) (lt-ltb p₀ (pool_count t) l) (lt-ltb n.instance (made_count s p₀) r))

  abbrev h : List ℕ
  h = before m (instance_of s p₀ n.instance) (shared_of s)

  found_is : eqb m.also making ≡ false → p₀ < pool_count t → n.instance < made_count s p₀ → seen κ n.pool n.instance ≡ local_of h
  unfolding before
  found_is e l r =
      ap (λ (K : Local). K beside board s) (held_is l r)
      ∙ seen_local s (instance_of s p₀ n.instance) (instance_long s p₀ n.instance)
      ∙ ap (λ (y : List ℕ). local_of (y ++ shared_of s)) (sym (passed (eqb m.also making) (replicate instance_words 0) (instance_of s p₀ n.instance) e))

  begun_is : eqb m.also making ≡ true → (blank beside κ.σds) ≡ local_of h
  unfolding before
  begun_is e =
      ap (λ (K : Local). K beside board s) (sym (blank_is instance_words))
      ∙ seen_local s (replicate instance_words 0) (length-replicate {A = ℕ} instance_words 0)
      ∙ ap (λ (y : List ℕ). local_of (y ++ shared_of s)) (sym (chosen (eqb m.also making) (replicate instance_words 0) (instance_of s p₀ n.instance) e))

  others_few : (o : ℕ) → o < pools → made_count s o ≤ instances
  others_few o l = made_few t fits o (made_count s o) (pool_parts t s o (state_instances t s q state.fits o l)).made

  -- what makes an instance receives, and assigns nothing
  begins_hears : eqb m.also making ≡ true → eqb m.receives on ≡ true
  unfolding move_named move_of each if◌then◌or_else◌
  begins_hears e = chosen_true _ _ true (each_at (λ (r : Move). if eqb r.also making then eqb r.receives on or_else true) moves no_move refl refl (rule_of (kind_in el) (mode_in el) n.phase)) e

  begins_plain : eqb m.also making ≡ true → eqb m.assigns on ≡ false
  unfolding move_named move_of each if◌then◌or_else◌
  begins_plain e = not-true _ (chosen_true _ _ true (each_at (λ (r : Move). if eqb r.also making then not (eqb r.assigns on) or_else true) moves no_move refl refl (rule_of (kind_in el) (mode_in el) n.phase)) e)

  deaf_makes_none : eqb m.receives on ≡ false → eqb m.also making ≡ false
  deaf_makes_none e = by_test (eqb m.also making) (λ z. absurd (false≢true (sym e ∙ begins_hears z))) (λ z. z)

  -- the label of the step, by what its row says, and the configuration after it
  abbrev quiet : Internal
  quiet = if eqb m.also clearing then kill or_else Internal.ε

  abbrev pub label : Seen
  label =
      if eqb m.receives on then if eqb m.also making then Seen.new name (values_of g) or_else Seen.receives name (values_of g)
      or_else if eqb m.sends on then Seen.sends name (values_of (sent x).tuple)
      or_else Seen.τ quiet

  abbrev after : Configuration
  after = configuration_of t (instances_after t s n) (queues_after x q)

  abbrev Result : Type 0
  Result = Steps version (collaboration_of t) (named_of n) κ label after × (seen_as label ≡ told_of (traffic x))

  -- A STEP THAT FOUND ITS PLACE
  module _ (f : Found t s n) where
    abbrev L : Local
    L = local_of h

    abbrev P : Parts
    P = parts_at version el m b

    abbrev W : List ℕ
    W = (worked el (received el h m b g) m).instance

    abbrev F : ℕ → Value
    F = (local_of W).σd

    pool_low : p₀ < pools
    pool_low = let a = pools_few t fits in let c = f.pool in omega arith

    received_fields : FieldsOnly h (received el h m b g)
    unfolding received
    received_fields =
        by_choice (FieldsOnly h) (eqb m.receives on) (bound el b g h) h (λ e. Sites.bound_only_fields t s v n f e) (λ e. fields_start h (Sites.h_long t s v n f))

    own : FieldsOnly h W
    own = fields_then h (received el h m b g) W received_fields (Sites.work_fields t s v n f (received el h m b g) received_fields.long)

    hears_bound : eqb m.receives on ≡ true → received el h m b g ≡ bound el b g h
    unfolding received
    hears_bound e = chosen (eqb m.receives on) _ h e

    deaf_same : eqb m.receives on ≡ false → received el h m b g ≡ h
    unfolding received
    deaf_same e = passed (eqb m.receives on) _ h e

    abbrev S : Process.Site el m b
    S = Sites.site t s v n f

    abbrev long : length h ≡ copy_words
    long = Sites.h_long t s v n f

    abbrev W₀ : List ℕ
    W₀ = received el h m b g

    -- the fields that the step leaves, from those that it reads
    work_updates : (worked el W₀ m).defined ≡ true → Updates (local_of W₀).σd (assigning m P) F
    work_updates d = Sites.work_sound t s v n f W₀ received_fields.long d

    work_only : {τ : ℕ → Value} → Updates (local_of W₀).σd (assigning m P) τ → ((worked el W₀ m).defined ≡ true) × (τ ≡ F)
    work_only u = Sites.work_complete t s v n f W₀ received_fields.long u

    deaf_updates : eqb m.receives on ≡ false → (worked el W₀ m).defined ≡ true → Updates L.σd (assigning m P) F
    deaf_updates e d = subst (λ y. Updates (local_of y).σd (assigning m P) F) (deaf_same e) (work_updates d)

    deaf_only : {τ : ℕ → Value} → eqb m.receives on ≡ false → Updates L.σd (assigning m P) τ → ((worked el W₀ m).defined ≡ true) × (τ ≡ F)
    deaf_only {τ} e u = work_only (subst (λ y. Updates (local_of y).σd (assigning m P) τ) (sym (deaf_same e)) u)

    hears_mute : eqb m.receives on ≡ true → eqb m.sends on ≡ false
    hears_mute e = by_test (eqb m.sends on) (λ z. absurd (false≢true (sym (Sites.sends_alone t s v n f z) ∙ e))) (λ z. z)

    -- what is expected, what is sent
    hears_template : eqb m.receives on ≡ true → template x ≡ evaluated el b h g
    unfolding template expected site_of
    hears_template e = chosen (eqb m.receives on) _ _ e

    deaf_template : eqb m.receives on ≡ false → template x ≡ record { defined = true; tuple = empty }
    unfolding template expected site_of
    deaf_template e = passed (eqb m.receives on) _ _ e

    work_is : work x ≡ worked el W₀ m
    unfolding work site_of
    work_is = refl

    speaks_sent : eqb m.sends on ≡ true → sent x ≡ evaluated el b W empty
    unfolding sent message_sent work site_of
    speaks_sent e = chosen (eqb m.sends on) _ _ e

    mute_sent : eqb m.sends on ≡ false → sent x ≡ record { defined = true; tuple = empty }
    unfolding sent message_sent site_of
    mute_sent e = passed (eqb m.sends on) _ _ e

    work-defined : Accepted x q → (worked el W₀ m).defined ≡ true
    unfolding defined
    work-defined a = ap (λ (w : Assigned). w.defined) (sym work_is) ∙ and_left (work x).defined (sent x).defined a.worked_out

    sent-defined : Accepted x q → (sent x).defined ≡ true
    unfolding defined
    sent-defined a = and_right (work x).defined (sent x).defined a.worked_out

    -- WHAT AN ACCEPTED STEP FIRES AND GIVES
    fires_by : Accepted x q → Fires m P (Grants el b L) L
    unfolding site_of after_taking work
    fires_by a = record {
      taking = Process.takes_there el m b S h long a.permits;
      lowers_active = Process.active_there el m b S h long a.permits;
      lowers_ready = Process.ready_there el m b S h long a.permits;
      alone = λ e w. Process.alone_there el m b S h long a.permits (Sites.alone_tasked t s v n f) e (subst (λ y. Waits y (mode_at el)) (sym (Sites.version_is t s v n f)) w);
      grants = Process.grants_there el m b S h long a.grants;
      putting = Process.puts-room el m b S h long W own a.roomed;
      raises_active = Process.active_up el m b S h long W own a.roomed;
      raises_ready = Process.ready_up el m b S h long W own a.roomed;
    }

    result_is : Accepted x q → local_of (instance_after x) ≡ effect m P L F
    unfolding site_of instance_after after_taking work
    result_is a = Process.moved_is el m b S h long W own a.roomed

    move_by : {l : Label} {τ : ℕ → Value} → Fires m P (Grants el b L) L → Says m P L.σd l τ → Moves version (element_of el) n.phase b L l (effect m P L τ)
    unfolding move_named
    move_by {l} {τ} y z = process_sound el (Sites.fits t s v n f) n.phase f.move version L b f.branch (record { left = τ; fires = y; says = z; gives = refl })

    -- AND WHAT IS ACCEPTED
    accept_by : Fires m P (Grants el b L) L → (template x).defined ≡ true → matches x ≡ true → (worked el W₀ m).defined ≡ true → (sent x).defined ≡ true → queued x q ≡ true
        → below_limit m (made_count s p₀) (limit_of t p₀) ≡ true → space x q ≡ true → Accepted x q
    unfolding site_of after_taking work defined
    accept_by y d c w e k l r =
        let z : defined x ≡ true = and_true (work x).defined (sent x).defined w e in
        record {
          permits = Process.permits_back el m b S h long (Sites.alone_tasked t s v n f) y.taking y.lowers_active y.lowers_ready (λ e w. y.alone e (subst (λ y. Waits y (mode_at el)) (Sites.version_is t s v n f) w));
          grants = Process.grants_back el m b S h long y.grants;
          templated = d;
          outright = or_right (receives x) (defined x) z;
          matched = c;
          worked_out = z;
          waiting = k;
          limited = l;
          spacious = r;
          roomed = Process.rooms_back el m b S h long W own y.putting y.raises_active y.raises_ready;
        }

    -- THE CONFIGURATION AFTERWARDS
    makes_by : Accepted x q → Makes t p₀ n.instance (made_count s p₀) (made_after x)
    makes_by a =
        by_test (eqb m.also making)
        (λ e. makes_one_lem t s n f e (starts_once t v) (limit_few t fits p₀ f.pool) a.limited)
        (λ e. makes_none t s n f e (pool_parts t s p₀ (state_instances t s q state.fits p₀ pool_low)).made)

    after_is : Accepted x q → (r : List ℕ) → configuration_of t (instances_after t s n) r
        ≡ record { σi = put κ.σi n.pool (put (κ.σi n.pool) n.instance (own_of (effect m P L F))); made = put κ.made n.pool (made_after x); σm = mail_of r; σds = stores_of (effect m P L F) }
    after_is a r =
        let makes = makes_by a in
        let room : made_after x ≤ instances = made_few t fits p₀ (made_after x) makes.fits in
        let few : (o : ℕ) → o < pool_count t → made_count s o ≤ instances = λ o l. others_few o (let w = pools_few t fits in omega arith) in
        let e = instances_after_lem t s n fits state.long f.pool makes room few ∙ ap (λ K. put κ.σi n.pool (put (κ.σi n.pool) n.instance (own_of K))) (result_is a) in
        let d = stores_after t s n fits state.long f.pool makes room few ∙ ap stores_of (result_is a) in
        λ i. record { σi = e i; made = made_after_lem t s n fits state.long f.pool makes room few i; σm = mail_of r; σds = d i }

    made_kept : eqb m.also making ≡ false → put κ.made n.pool (made_after x) ≡ κ.made
    unfolding made_after site_of
    made_kept e =
        ap (put κ.made n.pool) (passed (eqb m.also making) (more (made_count s p₀)) (made_count s p₀) e ∙ sym (made_is f.pool))
        ∙ sym (put_is κ.made κ.made n.pool (κ.made n.pool) refl (λ j ne. refl))

    made_next : eqb m.also making ≡ true → put κ.made n.pool (made_after x) ≡ inc κ.made n.pool
    unfolding made_after site_of
    made_next e =
        let w = others_few p₀ pool_low in
        ap (put κ.made n.pool) (chosen (eqb m.also making) (more (made_count s p₀)) (made_count s p₀) e ∙ more_one (made_count s p₀) (omega arith) ∙ ap (λ y. y + 1) (sym (made_is f.pool)))

    rooms : (k : ℕ) → k < names → count q k ≤ messages
    rooms k l = (fits_tidy q k (state_queues t s q state.fits k l)).room

    name_low : receives x || sends x ≡ true → name < names
    unfolding site_of
    name_low e = name_few t s n fits f e

    -- INTERNAL
    module _ (er : eqb m.receives on ≡ false) (es : eqb m.sends on ≡ false) (em : eqb m.also making ≡ false) (a : Accepted x q) where
      internal_path : configuration_of t (instances_after t s n) (queues_after x q) ≡ upd_inst κ n.pool n.instance (effect m P L F)
      unfolding upd_inst queues_after site_of
      internal_path =
          let z : queues_after x q ≡ q = passed (receives x) _ _ er ∙ passed (sends x) _ _ es in
          after_is a (queues_after x q)
          ∙ (λ i. record { σi = put κ.σi n.pool (put (κ.σi n.pool) n.instance (own_of (effect m P L F))); made = made_kept em i; σm = mail_of (z i); σds = stores_of (effect m P L F) })

      internal_told : (l : Internal) → seen_as (Seen.τ l) ≡ told_of (traffic x)
      unfolding traffic site_of values_of span
      internal_told l = sym (ap told_of (passed (receives x) _ _ er ∙ passed (sends x) _ _ es))

    -- DELIVER
    module _ (er : eqb m.receives on ≡ false) (es : eqb m.sends on ≡ true) (em : eqb m.also making ≡ false) (a : Accepted x q) where
      abbrev out : Gathered
      out = evaluated el b W empty

      speaking : receives x || sends x ≡ true
      unfolding site_of
      speaking = rw (er, es)

      has-space : length (messages_of q name) < messages
      unfolding space site_of
      has-space = ltb-true (length (messages_of q name)) messages (chosen_true (sends x) _ true a.spacious es)

      deliver_path : configuration_of t (instances_after t s n) (queues_after x q) ≡ add (upd_inst κ n.pool n.instance (effect m P L F)) name (values_of out.tuple)
      unfolding upd_inst add site_of
      deliver_path =
          let l = name_low speaking in
          let z : queues_after x q ≡ sending q name out.tuple = after_sending x q er es ∙ ap (λ (y : Gathered). sending q name y.tuple) (speaks_sent es) in
          let w = mail_sent q name state.wide l (fits_tidy q name (state_queues t s q state.fits name l)) rooms out.tuple has-space (Sites.send_short t s v n f es W) in
          after_is a (queues_after x q)
          ∙ (λ i. record { σi = put κ.σi n.pool (put (κ.σi n.pool) n.instance (own_of (effect m P L F))); made = made_kept em i; σm = (ap mail_of z ∙ w) i; σds = stores_of (effect m P L F) })

      deliver_told : seen_as (Seen.sends name (values_of out.tuple)) ≡ told_of (traffic x)
      unfolding traffic site_of
      deliver_told = sym (ap told_of (passed (receives x) _ _ er ∙ chosen (sends x) _ _ es) ∙ ap (λ (y : Gathered). record { traffic = Sent; name = name; values = values_of y.tuple }) (speaks_sent es))

    -- RECEIVE AND CREATE
    module _ (er : eqb m.receives on ≡ true) where
      hearing : receives x || sends x ≡ true
      unfolding site_of
      hearing = rw er

      there_is : (κ.σm name).times (values_of g) ≡ times g (messages_of q name)
      there_is = ap (λ (M : Multiset). M.times (values_of g)) (chosen (ltb name names) _ _ (lt-ltb name names (name_low hearing))) ∙ times-values g (messages_of q name)

      module _ (a : Accepted x q) where
        is_queued : has g (messages_of q name) ≡ true
        unfolding queued site_of
        is_queued = chosen_true (receives x) _ true a.waiting er

        consumed_mail : mail_of (queues_after x q) ≡ put (mail_of q) name (mail_of q name without values_of g)
        unfolding site_of
        consumed_mail =
            let l = name_low hearing in
            ap mail_of (after_receiving x q er) ∙ mail_consumed q name state.wide l (fits_tidy q name (state_queues t s q state.fits name l)) rooms g is_queued

        consumed_told : seen_as (Seen.receives name (values_of g)) ≡ told_of (traffic x)
        unfolding traffic matches site_of
        consumed_told = sym (ap told_of (chosen (receives x) _ _ er) ∙ ap (λ vs. record { traffic = Consumed; name = name; values = vs }) (equal_values (template x).tuple g a.matched))

        receive_path : eqb m.also making ≡ false → configuration_of t (instances_after t s n) (queues_after x q) ≡ rm (upd_inst κ n.pool n.instance (effect m P L F)) name (values_of g)
        unfolding upd_inst rm
        receive_path em =
            after_is a (queues_after x q)
            ∙ (λ i. record { σi = put κ.σi n.pool (put (κ.σi n.pool) n.instance (own_of (effect m P L F))); made = made_kept em i; σm = consumed_mail i; σds = stores_of (effect m P L F) })

        create_path : eqb m.also making ≡ true → n.instance ≡ κ.made n.pool → configuration_of t (instances_after t s n) (queues_after x q) ≡ rm (add_inst κ n.pool (effect m P L F)) name (values_of g)
        unfolding add_inst rm
        create_path em e =
            after_is a (queues_after x q)
            ∙ (λ i. record { σi = put κ.σi n.pool (put (κ.σi n.pool) (e i) (own_of (effect m P L F))); made = made_next em i; σm = consumed_mail i; σds = stores_of (effect m P L F) })

    -- THE ENGINE'S STEP IS A TRANSITION, and its label is this
    label_internal : eqb m.receives on ≡ false → eqb m.sends on ≡ false → label ≡ Seen.τ quiet
    label_internal er es = passed (eqb m.receives on) _ _ er ∙ passed (eqb m.sends on) _ _ es

    label_deliver : eqb m.receives on ≡ false → eqb m.sends on ≡ true → label ≡ Seen.sends name (values_of (evaluated el b W empty).tuple)
    label_deliver er es =
        passed (eqb m.receives on) _ _ er ∙ chosen (eqb m.sends on) _ _ es ∙ ap (λ (y : Gathered). Seen.sends name (values_of y.tuple)) (speaks_sent es)

    label_receive : eqb m.receives on ≡ true → eqb m.also making ≡ false → label ≡ Seen.receives name (values_of g)
    label_receive er em = chosen (eqb m.receives on) _ _ er ∙ passed (eqb m.also making) _ _ em

    label_create : eqb m.receives on ≡ true → eqb m.also making ≡ true → label ≡ Seen.new name (values_of g)
    label_create er em = chosen (eqb m.receives on) _ _ er ∙ chosen (eqb m.also making) _ _ em

    told_by : (l : Seen) → label ≡ l → Steps version (collaboration_of t) (named_of n) κ l after → seen_as l ≡ told_of (traffic x) → Result
    told_by l e y z = subst (λ k. Steps version (collaboration_of t) (named_of n) κ k after × (seen_as k ≡ told_of (traffic x))) (sym e) (y, z)

    module _ (a : Accepted x q) (em : eqb m.also making ≡ false) where
      made_below : n.instance < κ.made n.pool
      made_below = subst (λ y. n.instance < y) (sym (made_is f.pool)) (named_made t s n f em)

      from_held : {l : Label} {σ : Local} → Moves version (element_of el) n.phase b L l σ → Moves version (element_of el) n.phase b (seen κ n.pool n.instance) l σ
      from_held {l} {σ} y = subst (λ K. Moves version (element_of el) n.phase b K l σ) (sym (found_is em f.pool (named_made t s n f em))) y

      no_values : eqb m.receives on ≡ false → values_of g ≡ []
      unfolding matches site_of
      no_values er = none_given g (subst (λ (y : Gathered). same_tuple y.tuple g ≡ true) (deaf_template er) a.matched)

      internal_sound : eqb m.receives on ≡ false → eqb m.sends on ≡ false → Result
      internal_sound er es =
          told_by (Seen.τ quiet) (label_internal er es)
          (subst (Steps version (collaboration_of t) (named_of n) κ (Seen.τ quiet)) (sym (internal_path er es em a))
          (C-Internal (runs_there f.pool f.element) made_below (no_values er) (from_held (move_by (fires_by a) (says_internal m P L.σd er es (refl, deaf_updates er (work-defined a)))))))
          (internal_told er es em a quiet)

      deliver_sound : eqb m.receives on ≡ false → eqb m.sends on ≡ true → Result
      deliver_sound er es =
          let vs : List ℕ = values_of (evaluated el b W empty).tuple in
          let e = Sites.send_sound t s v n f es W (ap (λ (y : Gathered). y.defined) (sym (speaks_sent es)) ∙ sent-defined a) in
          let z : (κ.σm name).size ≡ length (messages_of q name) = ap (λ (M : Multiset). M.size) (chosen (ltb name names) _ _ (lt-ltb name names (name_low (speaking er es em a)))) in
          told_by (Seen.sends name vs) (label_deliver er es)
          (subst (Steps version (collaboration_of t) (named_of n) κ (Seen.sends name vs)) (sym (deliver_path er es em a))
          (C-Deliver (runs_there f.pool f.element) made_below (no_values er) (from_held (move_by (fires_by a) (says_sends m P L.σd er es (vs, refl, deaf_updates er (work-defined a), e))))
          (subst (λ y. y < 64) (sym z) (has-space er es em a))))
          (deliver_told er es em a)

    module _ (a : Accepted x q) (er : eqb m.receives on ≡ true) where
      hears_defined : (evaluated el b h g).defined ≡ true
      hears_defined = ap (λ (y : Gathered). y.defined) (sym (hears_template er)) ∙ a.templated

      hears_same : same_tuple (evaluated el b h g).tuple g ≡ true
      unfolding matches site_of
      hears_same = subst (λ (y : Gathered). same_tuple y.tuple g ≡ true) (hears_template er) a.matched

      bound-work : Updates (local_of (bound el b g h)).σd (assigning m P) F
      bound-work = subst (λ y. Updates (local_of y).σd (assigning m P) F) (hears_bound er) (work_updates (work-defined a))

      waits : 0 < (κ.σm name).times (values_of g)
      waits = subst (λ y. 0 < y) (sym (there_is er)) (has-times g (messages_of q name) (is_queued er a))

      receive_sound : eqb m.also making ≡ false → Result
      receive_sound em =
          let (us, i, c) = Sites.receive_sound t s v n f er hears_defined hears_same in
          let w = Sites.receive_complete t s v n f er i c in
          told_by (Seen.receives name (values_of g)) (label_receive er em)
          (subst (Steps version (collaboration_of t) (named_of n) κ (Seen.receives name (values_of g))) (sym (receive_path er a em))
          (C-Receive (runs_there f.pool f.element) (made_below a em) (from_held a em (move_by (fires_by a) (says_receives m P L.σd er em (us, refl, i, refl)))) waits c
          (both (Sites.bind_sound t s v n f er w.2) bound-work)))
          (consumed_told er a)

      create_sound : eqb m.also making ≡ true → Result
      unfolding pool_at below_limit instance_named site_of
      create_sound em =
          let (us, i, c) = Sites.receive_sound t s v n f er hears_defined hears_same in
          let w = Sites.receive_complete t s v n f er i c in
          let z : F ≡ (local_of (bound el b g h)).σd = none_only (subst (λ A. Updates (local_of (bound el b g h)).σd A F) (passed (eqb m.assigns on) _ ε (begins_plain em)) bound-work) in
          let e : n.instance ≡ κ.made n.pool = eqb-true n.instance (made_count s p₀) (chosen_true (eqb m.also making) _ _ f.instance em) ∙ sym (made_is f.pool) in
          let l : made_count s p₀ < limit_of t p₀ = ltb-true (made_count s p₀) (limit_of t p₀) (chosen_true (eqb m.also making) _ true a.limited em) in
          told_by (Seen.new name (values_of g)) (label_create er em)
          (subst (Steps version (collaboration_of t) (named_of n) κ (Seen.new name (values_of g))) (sym (create_path er a em e))
          (C-Create (runs_there f.pool f.element) e (subst (λ y. y < limit_of t p₀) (sym (made_is f.pool)) l)
          (subst (λ K. Moves version (element_of el) n.phase b K (Label.new name us) (effect m P L L.σd)) (sym (begun_is em)) (move_by (fires_by a) (says_new m P L.σd er em (us, refl, i, refl)))) waits c
          (subst (Updates L.σd (chain (binding_of el b g) 0 (message_length el b))) (sym z) (Sites.bind_sound t s v n f er w.2))))
          (consumed_told er a)

  -- SOUNDNESS: what the engine accepts is a transition of the paper's rules, and its state and traffic afterwards are the transition's
  pub sound : first_refusal (refusals t s q n) ≡ 0 → Steps version (collaboration_of t) (named_of n) κ label after × (seen_as label ≡ told_of (traffic x))
  sound e =
      let r = accepted_parts t s q n e in
      let f = found t s n r.0 in
      let a = r.1 in
      by_test (eqb m.receives on)
      (λ er. by_test (eqb m.also making) (λ em. create_sound f a er em) (λ em. receive_sound f a er em))
      (λ er.
      let em = deaf_makes_none er in
      by_test (eqb m.sends on) (λ es. deliver_sound f a em er es) (λ es. internal_sound f a em er es))

  -- A TRANSITION IS THE ENGINE'S STEP
  abbrev Forced : Seen → Configuration → Type 0
  Forced l κ' = (first_refusal (refusals t s q n) ≡ 0) × (κ' ≡ after) × (l ≡ label)

  exists_by : Found t s n → exists t s n ≡ true
  unfolding exists
  exists_by f =
      and_true _ (instance_named m n.instance (made_count s p₀))
      (and_true _ (ltb b (branch_count el m))
      (and_true _ (not (eqb m.kind 0))
      (and_true (ltb p₀ (pool_count t)) (ltb n.element (element_count t p₀)) (lt-ltb p₀ (pool_count t) f.pool) (lt-ltb n.element (element_count t p₀) f.element))
      (ap not (ne_eqb m.kind 0 f.move)))
      (lt-ltb b (branch_count el m) f.branch))
      f.instance

  element_right : p₀ < pool_count t → n.element < element_count t p₀ → element_fits el ≡ true
  unfolding element_named
  element_right l r = element_fits_lem t fits p₀ l n.element r

  abbrev Gone : Local → Label → Local → Type 0
  Gone K l σ = (m.kind ≡ 0 → ⊥) × (b < branch_count el m) × Goes m (parts_at version el m b) (Grants el b K) K l σ

  gone : {e : Element} {K : Local} {l : Label} {σ : Local} → p₀ < pool_count t → n.element < element_count t p₀ → e ≡ element_of el → Moves version e n.phase b K l σ → Gone K l σ
  unfolding move_named
  gone {e} {K} {l} {σ} i j z y = process_complete el (element_right i j) (subst (λ d. Moves version d n.phase b K l σ) z y)

  split : {σ τ : ℕ → Value} {A B : Assignments} → Updates σ (A & B) τ → (ρ : ℕ → Value) × Updates σ A ρ × Updates ρ B τ
  split (both {σ' = ρ} u w) = (ρ, u, w)

  -- of an instance that is made
  module _ {Q : Pool} {e : Element} (r : Runs (collaboration_of t) (named_of n) Q e) (lt : n.instance < κ.made n.pool) {l : Label} {σ : Local}
      (mv : Moves version e n.phase b (seen κ n.pool n.instance) l σ) where
    abbrev at_pool : p₀ < pool_count t
    at_pool = (runs_found r).0

    abbrev at_element : n.element < element_count t p₀
    at_element = (runs_found r).1

    went : Gone (seen κ n.pool n.instance) l σ
    went = gone at_pool at_element (runs_found r).2 mv

    is_made : n.instance < made_count s p₀
    is_made = subst (λ y. n.instance < y) (made_is at_pool) lt

    module _ (em : eqb m.also making ≡ false) where
      at_site : Found t s n
      unfolding instance_named
      at_site = record {
        pool = at_pool;
        element = at_element;
        move = went.0;
        branch = went.1;
        instance = passed (eqb m.also making) _ _ em ∙ lt-ltb n.instance (made_count s p₀) is_made;
      }

      held_there : seen κ n.pool n.instance ≡ local_of h
      held_there = found_is em at_pool is_made

      goes : Goes m (parts_at version el m b) (Grants el b (local_of h)) (local_of h) l σ
      goes = subst (λ K. Goes m (parts_at version el m b) (Grants el b K) K l σ) held_there went.2

      no_limit : below_limit m (made_count s p₀) (limit_of t p₀) ≡ true
      unfolding below_limit
      no_limit = passed (eqb m.also making) _ true em

  none_waits : eqb m.receives on ≡ false → queued x q ≡ true
  unfolding queued site_of
  none_waits er = passed (receives x) _ true er

  none_sent : eqb m.sends on ≡ false → space x q ≡ true
  unfolding space site_of
  none_sent es = passed (sends x) _ true es

  none_matches : (f : Found t s n) → eqb m.receives on ≡ false → values_of g ≡ [] → matches x ≡ true
  unfolding matches site_of
  none_matches f er e = subst (λ (y : Gathered). same_tuple y.tuple g ≡ true) (sym (deaf_template f er)) (given_none g e)

  internal_back : {Q : Pool} {e : Element} {i : Internal} {σ : Local} → Runs (collaboration_of t) (named_of n) Q e → n.instance < κ.made n.pool → values_of g ≡ []
      → Moves version e n.phase b (seen κ n.pool n.instance) (Label.τ i) σ → Forced (Seen.τ i) (upd_inst κ n.pool n.instance σ)
  internal_back {i = i} r lt val mv =
      let y = means_internal m (parts_at version el m b) (seen κ n.pool n.instance).σd (went r lt mv).2.left i (went r lt mv).2.says in
      let er = y.0 in
      let es = y.1 in
      let em = deaf_makes_none er in
      let f = at_site r lt mv em in
      let go = goes r lt mv em in
      let u = (means_internal m (parts_at version el m b) (local_of h).σd go.left i go.says).2 in
      let w = deaf_only f er u in
      let a = accept_by f go.fires (ap (λ (y : Gathered). y.defined) (deaf_template f er)) (none_matches f er val) w.0 (ap (λ (y : Gathered). y.defined) (mute_sent f es)) (none_waits er) (no_limit r lt mv em) (none_sent es) in (
        parts_accepted t s q n (exists_by f) a,
        ap (upd_inst κ n.pool n.instance) (go.gives ∙ ap (effect m (parts_at version el m b) (local_of h)) w.1) ∙ sym (internal_path f er es em a),
        ap Seen.τ y.3 ∙ sym (label_internal f er es),
      )

  deliver_back : {Q : Pool} {e : Element} {k : ℕ} {vs : List ℕ} {σ : Local} → Runs (collaboration_of t) (named_of n) Q e → n.instance < κ.made n.pool → values_of g ≡ []
      → Moves version e n.phase b (seen κ n.pool n.instance) (Label.sends k vs) σ → (κ.σm k).size < 64 → Forced (Seen.sends k vs) (add (upd_inst κ n.pool n.instance σ) k vs)
  unfolding space site_of
  deliver_back {k = k} {vs = vs} r lt val mv room =
      let y = means_sends m (parts_at version el m b) (seen κ n.pool n.instance).σd (went r lt mv).2.left k vs (went r lt mv).2.says in
      let er = y.0 in
      let es = y.1 in
      let em = deaf_makes_none er in
      let f = at_site r lt mv em in
      let go = goes r lt mv em in
      let (er', es', nm, u, ev) = means_sends m (parts_at version el m b) (local_of h).σd go.left k vs go.says in
      let w = deaf_only f er u in
      let c = Sites.send_complete t s v n f es (W f) (subst (λ τ. Evals τ (message_of el b) vs) w.1 ev) in
      let low : name < names = name_low f (or_right (receives x) (sends x) es) in
      let z : (κ.σm name).size ≡ length (messages_of q name) = ap (λ (M : Multiset). M.size) (chosen (ltb name names) _ _ (lt-ltb name names low)) in
      let full : length (messages_of q name) < messages = subst (λ j. j < 64) z (subst (λ j. (κ.σm j).size < 64) (sym nm) room) in
      let sp : space x q ≡ true = chosen (sends x) _ true es ∙ lt-ltb (length (messages_of q name)) messages full in
      let a = accept_by f go.fires (ap (λ (y : Gathered). y.defined) (deaf_template f er)) (none_matches f er val) w.0 (ap (λ (y : Gathered). y.defined) (speaks_sent f es) ∙ c.0) (none_waits er) (no_limit r lt mv em) sp in
      let sp = go.gives ∙ ap (effect m (parts_at version el m b) (local_of h)) w.1 in (
        parts_accepted t s q n (exists_by f) a,
        (λ i. add (upd_inst κ n.pool n.instance (sp i)) (sym nm i) (c.1 i)) ∙ sym (deliver_path f er es em a),
        (λ i. Seen.sends (sym nm i) (c.1 i)) ∙ sym (label_deliver f er es),
      )

  receive_back : {Q : Pool} {e : Element} {k : ℕ} {us : List Evaluated} {A A' : Assignments} {σ : Local} {τ : ℕ → Value} → Runs (collaboration_of t) (named_of n) Q e → n.instance < κ.made n.pool
      → Moves version e n.phase b (seen κ n.pool n.instance) (Label.receives k us A) σ → 0 < (κ.σm k).times (values_of g) → Matches us (values_of g) A' → Updates σ.σd (A' & A) τ
      → Forced (Seen.receives k (values_of g)) (rm (upd_inst κ n.pool n.instance (σ fields: τ)) k (values_of g))
  unfolding queued matches site_of
  receive_back {k = k} {us = us} {A = A} {A' = A'} {σ = σ} {τ = τ} r lt mv waits c u =
      let y = means_receives m (parts_at version el m b) (seen κ n.pool n.instance).σd (went r lt mv).2.left k us A (went r lt mv).2.says in
      let er = y.0 in
      let em = y.1 in
      let f = at_site r lt mv em in
      let go = goes r lt mv em in
      let (er', em', nm, tt, aw, fs) = means_receives m (parts_at version el m b) (local_of h).σd go.left k us A go.says in
      let w = Sites.receive_complete t s v n f er tt c in
      let d : σ.σd ≡ (local_of h).σd = ap (λ (K : Local). K.σd) go.gives ∙ fs in
      let (ρ, u₁, u₂) = split (subst (λ K. Updates K (A' & A) τ) d u) in
      let z : ρ ≡ (local_of (W₀ f)).σd = Sites.bind_complete t s v n f er w.2 (subst (λ B. Updates (local_of h).σd B ρ) w.3 u₁) ∙ ap (λ y. (local_of y).σd) (sym (hears_bound f er)) in
      let o = work_only f (subst (λ B. Updates (local_of (W₀ f)).σd B τ) (sym aw) (subst (λ K. Updates K A τ) z u₂)) in
      let qd : queued x q ≡ true = chosen (receives x) _ true er ∙ times-has g (messages_of q name) (subst (λ j. 0 < j) (there_is f er) (subst (λ j. 0 < (κ.σm j).times (values_of g)) (sym nm) waits)) in
      let nosend : eqb m.sends on ≡ false = hears_mute f er in
      let a = accept_by f go.fires (ap (λ (y : Gathered). y.defined) (hears_template f er) ∙ w.0) (subst (λ (y : Gathered). same_tuple y.tuple g ≡ true) (sym (hears_template f er)) w.1) o.0 (ap (λ (y : Gathered). y.defined) (mute_sent f nosend)) qd (no_limit r lt mv em) (none_sent nosend) in
      let e = ap (λ (K : Local). K fields: τ) go.gives ∙ ap (effect m (parts_at version el m b) (local_of h)) o.1 in (
        parts_accepted t s q n (exists_by f) a,
        (λ i. rm (upd_inst κ n.pool n.instance (e i)) (sym nm i) (values_of g)) ∙ sym (receive_path f er a em),
        (λ i. Seen.receives (sym nm i) (values_of g)) ∙ sym (label_receive f er em),
      )

  create_back : {Q : Pool} {e : Element} {k : ℕ} {us : List Evaluated} {A : Assignments} {σ : Local} {τ : ℕ → Value} → Runs (collaboration_of t) (named_of n) Q e → n.instance ≡ κ.made n.pool → κ.made n.pool < Q.limit
      → Moves version e n.phase b (blank beside κ.σds) (Label.new k us) σ → 0 < (κ.σm k).times (values_of g) → Matches us (values_of g) A → Updates σ.σd A τ
      → Forced (Seen.new k (values_of g)) (rm (add_inst κ n.pool (σ fields: τ)) k (values_of g))
  unfolding queued matches site_of instance_named below_limit
  create_back {k = k} {us = us} {A = A} {σ = σ} {τ = τ} r next lim mv waits c u =
      let (pl, ep, ee, ll) = runs_found r in
      let went₀ = gone pl ep ee mv in
      let y = means_new m (parts_at version el m b) (blank beside κ.σds).σd went₀.2.left k us went₀.2.says in
      let er = y.0 in
      let em = y.1 in
      let nx : n.instance ≡ made_count s p₀ = next ∙ made_is pl in
      let f : Found t s n = record {
        pool = pl;
        element = ep;
        move = went₀.0;
        branch = went₀.1;
        instance = chosen (eqb m.also making) _ _ em ∙ eq-eqb n.instance (made_count s p₀) nx;
      } in
      let go = subst (λ K. Goes m (parts_at version el m b) (Grants el b K) K (Label.new k us) σ) (begun_is em) went₀.2 in
      let (er', em', nm, tt, fs) = means_new m (parts_at version el m b) (local_of h).σd go.left k us go.says in
      let w = Sites.receive_complete t s v n f er tt c in
      let d : σ.σd ≡ (local_of h).σd = ap (λ (K : Local). K.σd) go.gives ∙ fs in
      let z : τ ≡ (local_of (W₀ f)).σd = Sites.bind_complete t s v n f er w.2 (subst (λ B. Updates (local_of h).σd B τ) w.3 (subst (λ K. Updates K A τ) d u)) ∙ ap (λ y. (local_of y).σd) (sym (hears_bound f er)) in
      let o = work_only f (subst (λ B. Updates (local_of (W₀ f)).σd B (local_of (W₀ f)).σd) (sym (passed (eqb m.assigns on) (assignments_of el) ε (begins_plain em))) Updates.none) in
      let qd : queued x q ≡ true = chosen (receives x) _ true er ∙ times-has g (messages_of q name) (subst (λ j. 0 < j) (there_is f er) (subst (λ j. 0 < (κ.σm j).times (values_of g)) (sym nm) waits)) in
      let nosend : eqb m.sends on ≡ false = hears_mute f er in
      let below : below_limit m (made_count s p₀) (limit_of t p₀) ≡ true = chosen (eqb m.also making) _ true em ∙ lt-ltb (made_count s p₀) (limit_of t p₀) (subst (λ j. j < limit_of t p₀) (made_is pl) (subst (λ j. κ.made n.pool < j) ll lim)) in
      let a = accept_by f go.fires (ap (λ (y : Gathered). y.defined) (hears_template f er) ∙ w.0) (subst (λ (y : Gathered). same_tuple y.tuple g ≡ true) (sym (hears_template f er)) w.1) o.0 (ap (λ (y : Gathered). y.defined) (mute_sent f nosend)) qd below (none_sent nosend) in
      let e = ap (λ (K : Local). K fields: τ) go.gives ∙ ap (effect m (parts_at version el m b) (local_of h)) (z ∙ o.1) in (
        parts_accepted t s q n (exists_by f) a,
        (λ i. rm (add_inst κ n.pool (e i)) (sym nm i) (values_of g)) ∙ sym (create_path f er a em next),
        (λ i. Seen.new (sym nm i) (values_of g)) ∙ sym (label_create f er em),
      )

  -- COMPLETENESS: every transition of the paper's rules is accepted by the engine, and the state and the label are what the engine gives
  pub complete : {l : Seen} {κ' : Configuration} → Steps version (collaboration_of t) (named_of n) κ l κ' → (first_refusal (refusals t s q n) ≡ 0) × (κ' ≡ after) × (l ≡ label)
  complete (C-Create r next lim mv waits c u) = create_back r next lim mv waits c u
  complete (C-Internal r lt val mv) = internal_back r lt val mv
  complete (C-Receive r lt mv waits c u) = receive_back r lt mv waits c u
  complete (C-Deliver r lt val mv room) = deliver_back r lt val mv room
