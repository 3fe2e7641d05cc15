-- THE LINES OF ACCEPTED CALLS ARE LAWFUL: each is read as the call it was, is accepted again and says what is true. t is a table, z a state. Assumes nothing.
use Prim.Native.Nat.{ℕ, ◌+◌, ◌≤◌}
use mathlib.Core.Path.{◌≡◌, ◌∙◌, refl, sym, ap, subst}
use mathlib.Core.Bool.{true, ◌&&◌}
use mathlib.Core.List.{List, [], ◌∷◌, ◌++◌}
use native.Mathlib.Omega.{arith}
use lib.Dec.{eqb, leb, ltb}
use borrow.Author.Tests.{eqb-true, ltb-true, leb-true}
use Rattle.base_words.specs.Counts.{names, values}
use Rattle.base_words.specs.Pick.{if◌then◌or_else◌}
use Rattle.base_words.specs.Words.{at, greatest}
use Rattle.base_words.proofs.AllLaws.{and_left, and_right}
use Rattle.base_bytes.specs.Bytes.{same_bytes}
use Rattle.base_state.specs.Instances.{instances_of, queues_of}
use Rattle.check_limits.specs.Limits.{table_fits}
use Rattle.write_lines.specs.Lines.{place_line, step_line}
use Rattle.meaning.specs.declared.Answer.{Answer}
use Rattle.meaning.specs.declared.Name.{Name}
use Rattle.meaning.specs.declared.Tuple.{Tuple}
use Rattle.meaning.specs.declared.Traffic.TheVariants.{Nothing}
use Rattle.meaning.specs.Tuples.{empty, same_tuple}
use Rattle.meaning.specs.Queues.{tidied}
use Rattle.meaning.specs.Refusals.{first_refusal}
use Rattle.meaning.specs.Post.{Posted, post_refusals}
use Rattle.meaning.specs.Step.{Outcome, site_of, traffic, refusals}
use Rattle.step_values.proofs.TupleLaws.{same_sym}
use Rattle.step_queues.proofs.ChangeLaws.{tidied_same}
use Rattle.proof_listing.proofs.SameValues.{with_given}
use Rattle.proof_steps.proofs.AcceptedParts.{first_holds}
use Rattle.log_lines.specs.declared.Entry.{Entry}
use Rattle.log_lines.specs.Entries.{number_most, entry_of}
use Rattle.log_judge.specs.Judge.{taken_by, line_taken, lawful, judged_by}
use Rattle.engine.specs.Engine.{Left, Stepped, lent_number, fitting, leaving, stepped, posted_to}
use Rattle.engine.specs.Calls.{Act, a_step, a_post, did, all_accepted, Valid}
use Rattle.engine.proofs.CallLaws.{table_fits_lem, state_fits_lem}
use Rattle.engine.proofs.KeepsValid.{did-valid}
use Rattle.proof_demands.proofs.Numbers.{stepped-traffic}
use Rattle.proof_demands.proofs.StatesLeft.{step_number, post_number}
use Rattle.log_pieces.specs.Pieces.{post_line}
use Rattle.proof_logs.specs.Told.{line_told, told, message, AllWords}
use Rattle.proof_logs.proofs.StepEntries.{step_of, given_by}
use Rattle.proof_logs.proofs.LineEntries.{same_self, step_entry_lem, post_entry_lem}
use Rattle.proof_logs.proofs.TakenSteps.{step_small, says_name, says_few, given_few, given_is}
use Rattle.proof_logs.proofs.SameSteps.{step_same, post_same}

module _ (t : List ℕ) where
  -- a call as its line is taken
  abbrev pub Retaken : Act → List ℕ → Type 0
  Retaken a z = line_taken (stepped t) (posted_to t) (line_told t a z) z ≡ record { number = 0; right = true; state = (did t a z).state }

  module _ (z : List ℕ) (v : Valid t z) where
    fits : table_fits t ≡ true
    fits = table_fits_lem t z v.fits

    -- A STEP
    module _ (n : Name) (accepted : (did t (a_step n) z).number ≡ 0) where
      abbrev a : Answer
      a = (stepped t z n).answer

      -- as a line names it
      abbrev k : Name
      k = with_given n (tidied n.given)

      allowed : first_refusal (refusals t (instances_of z) (queues_of z) n) ≡ 0
      allowed = sym (step_number t z v n) ∙ accepted

      number_none : a.number ≡ 0
      unfolding did
      number_none = accepted

      says : a ≡ traffic (site_of t (instances_of z) n)
      says = stepped-traffic t z n number_none

      name_few : a.name ≤ number_most
      name_few = subst (λ (b : Answer). b.name ≤ number_most) (sym says) (says_name t (instances_of z) (queues_of z) n fits allowed)

      length_few : a.tuple.length ≤ values
      length_few = subst (λ (b : Answer). b.tuple.length ≤ values) (sym says) (says_few t (instances_of z) (queues_of z) n fits allowed)

      consumed : given_by a.traffic a.tuple ≡ tidied n.given
      consumed = ap (λ (b : Answer). given_by b.traffic b.tuple) says ∙ given_is t (instances_of z) (queues_of z) n fits allowed

      step_named : ((j : ℕ) → at a.tuple.values j ≤ greatest) → entry_of (step_line n a) ≡ step_of n (tidied n.given)
      step_named words =
          step_entry_lem n a (step_small t (instances_of z) (queues_of z) n fits allowed (state_fits_lem t z v.fits)) name_few (record { few = length_few; small = words })
          ∙ ap (step_of n) consumed

      same : same_tuple n.given (tidied n.given) ≡ true
      same = same_sym n.given (tidied n.given) ∙ tidied_same n.given (given_few t (instances_of z) (queues_of z) n fits allowed)

      named_again : stepped t z k ≡ stepped t z n
      unfolding stepped
      named_again =
          ap (λ (o : Outcome). if fitting t z then leaving o or_else record { answer = record { number = lent_number t z; traffic = Nothing; name = 0; tuple = empty }; state = z })
          (step_same t (instances_of z) (queues_of z) n (tidied n.given) same allowed)

      line_again : step_line k a ≡ step_line n a
      unfolding step_line place_line
      line_again = refl

      true_again : same_bytes (step_line k a) (step_line n a) ≡ true
      true_again = ap (λ (w : List ℕ). same_bytes w (step_line n a)) line_again ∙ same_self (step_line n a)

      step_again : ((j : ℕ) → at a.tuple.values j ≤ greatest) → Retaken (a_step n) z
      unfolding line_told line_taken taken_by did if◌then◌or_else◌
      step_again words =
          ap (λ (e : Entry). taken_by (stepped t) (posted_to t) e (step_line n a) z) (step_named words)
          ∙ ap (λ (o : Stepped). record { number = o.answer.number; right = same_bytes (step_line k o.answer) (step_line n a); state = o.state }) named_again
          ∙ (λ i. record { number = number_none i; right = true_again i; state = (stepped t z n).state })

    -- A POST
    module _ (name : ℕ) (g : Tuple) (accepted : (did t (a_post name g) z).number ≡ 0) where
      right : ltb name names && leb g.length values ≡ true
      unfolding post_refusals
      right = (first_holds 19 (ltb name names && leb g.length values) _ (λ e. omega (arith, e)) (sym (post_number t z v name g) ∙ accepted)).0

      few : name ≤ number_most
      few = omega (arith, ltb-true name names (and_left (ltb name names) (leb g.length values) right))

      short : g.length ≤ values
      short = leb-true g.length values (and_right (ltb name names) (leb g.length values) right)

      posted_again : posted_to t z name (tidied g) ≡ posted_to t z name g
      unfolding posted_to
      posted_again =
          ap (λ (o : Posted). if fitting t z then record { number = o.number; state = instances_of z ++ o.queues } or_else record { number = lent_number t z; state = z })
          (post_same g short (queues_of z) name)

      post_again : ((j : ℕ) → at g.values j ≤ greatest) → Retaken (a_post name g) z
      unfolding line_told line_taken taken_by did if◌then◌or_else◌
      post_again words =
          ap (λ (e : Entry). taken_by (stepped t) (posted_to t) e (post_line name g) z) (post_entry_lem name g few (record { few = short; small = words }))
          ∙ ap (λ (o : Left). record { number = o.number; right = true; state = o.state }) posted_again
          ∙ (λ i. record { number = accepted i; right = true; state = (posted_to t z name g).state })

    -- so each line names a step or a post
    pub act_right : (a : Act) → (did t a z).number ≡ 0 → ((j : ℕ) → at (message t a z).values j ≤ greatest) → (entry_of (line_told t a z)).right ≡ true
    unfolding line_told message
    act_right (a_step n) e words = ap (λ (x : Entry). x.right) (step_named n e words)
    act_right (a_post name g) e words = ap (λ (x : Entry). x.right) (post_entry_lem name g (few name g e) (record { few = short name g e; small = words }))

    pub act_again : (a : Act) → (did t a z).number ≡ 0 → ((j : ℕ) → at (message t a z).values j ≤ greatest) → Retaken a z
    unfolding message
    act_again (a_step n) e words = step_again n e words
    act_again (a_post name g) e words = post_again name g e words

  -- ALL OF THEM, k events before these
  pub told-lawful : (acts : List Act) (k : ℕ) (z : List ℕ) → Valid t z → all_accepted t acts z ≡ true → AllWords t acts z
      → judged_by (line_taken (stepped t) (posted_to t)) (told t acts z) k z ≡ lawful
  unfolding told all_accepted AllWords judged_by if◌then◌or_else◌
  told-lawful [] k z v h words = refl
  told-lawful (a ∷ rest) k z v h words =
      let e : (did t a z).number ≡ 0 = eqb-true (did t a z).number 0 (and_left (eqb (did t a z).number 0) (all_accepted t rest (did t a z).state) h) in
      rw (act_again z v a e words.0)
      (told-lawful rest (k + 1) (did t a z).state (did-valid t a z v) (and_right (eqb (did t a z).number 0) (all_accepted t rest (did t a z).state) h) words.1)
