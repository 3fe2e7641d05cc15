-- WHAT A STEP COMES TO at a site x is the same under another version, and leaves that version; where it is accepted it is accepted under a version that is not the former. Assumes nothing.
use Prim.Native.Nat.{ℕ, ◌+◌, ◌<◌}
use mathlib.Core.Path.{◌≡◌, refl, ◌∙◌, ap}
use mathlib.Core.Bool.{true, ◌&&◌, ◌||◌}
use mathlib.Core.List.{List}
use lib.Dec.{eqb}
use lib.ListN.{length}
use Rattle.std.proofs.lemmas.Bool.{or_left, or_right}
use Rattle.base_words.specs.Pick.{if◌then◌or_else◌}
use Rattle.base_words.specs.Words.{at}
use Rattle.base_kinds.specs.declared.moves.Move.{Move}
use Rattle.base_kinds.specs.Kinds.{kind_of, used}
use Rattle.base_kinds.specs.Moves.{on}
use Rattle.base_table.specs.Places.{exits_place}
use Rattle.base_table.specs.Table.{kind_in}
use Rattle.base_state.specs.Places.{copy_words}
use Rattle.base_state.specs.Versions.{former}
use Rattle.meaning.specs.declared.Tuple.{Tuple}
use Rattle.meaning.specs.declared.Evaluated.{Evaluated}
use Rattle.meaning.specs.declared.Traffic.TheVariants.{Nothing, Consumed, Sent}
use Rattle.meaning.specs.Tuples.{empty, same_tuple}
use Rattle.meaning.specs.Queues.{sending, consuming}
use Rattle.meaning.specs.Assignments.{Assigned}
use Rattle.meaning.specs.Requirements.{roomy}
use Rattle.meaning.specs.Changes.{expected, received, worked, message_sent, taken, moved}
use Rattle.meaning.specs.Step.{Site, receives, sends, template, work, sent, defined, matches, after_taking, message_named, queued, space, instance_after, made_after, queues_after, traffic}
use Rattle.proof_steps.proofs.AcceptedParts.{Accepted}
use Rattle.proof_paper.proofs.Process as Process
use Rattle.proof_versions.proofs.Laws.{choice_along, choice_same}
use Rattle.proof_versions.proofs.Elements.{seen, seen_after, assigned_along, evaluated_same, bound_along, permits_along, granted_same, roomy_same, taken_along, moved_along}

-- the site with version v in the words that the step sees
abbrev pub sited : ℕ → Site → Site
sited v x = record {
  element = x.element;
  move = x.move;
  branch = x.branch;
  given = x.given;
  made = x.made;
  limit = x.limit;
  instance = seen v x.instance;
}

module _ (v : ℕ) (x : Site) (row : Process.Site x.element x.move x.branch)
    (there : receives x || sends x ≡ true → x.branch < used ((kind_of (kind_in x.element)).receives + (kind_of (kind_in x.element)).sends) (at x.element exits_place)) where
  abbrev el : List ℕ
  el = x.element

  abbrev m : Move
  m = x.move

  abbrev b : ℕ
  b = x.branch

  abbrev g : Tuple
  g = x.given

  abbrev h : List ℕ
  h = x.instance

  template_same : template (sited v x) ≡ template x
  unfolding template expected
  template_same = choice_same (receives x) _ _ _ _ (λ e. evaluated_same v el row.fits b (there (or_left (receives x) (sends x) e)) g h) (λ e. refl)

  received_along : received el (seen v h) m b g ≡ seen v (received el h m b g)
  unfolding received
  received_along = choice_along (seen v) (receives x) _ _ _ _ (λ e. bound_along v el row.fits b (there (or_left (receives x) (sends x) e)) g h) (λ e. refl)

  worked_along : (k : List ℕ) → worked el (seen v k) m ≡ seen_after v (worked el k m)
  unfolding worked
  worked_along k = choice_along (seen_after v) (eqb m.assigns on) _ (record { defined = true; instance = k }) _ _ (λ e. assigned_along v el row.fits k) (λ e. refl)

  work_along : work (sited v x) ≡ seen_after v (work x)
  unfolding work
  work_along = ap (λ y. worked el y m) received_along ∙ worked_along (received el h m b g)

  sent_same : sent (sited v x) ≡ sent x
  unfolding sent message_sent
  sent_same =
      ap (λ (w : Assigned). message_sent el w.instance m b) work_along
      ∙ choice_same (sends x) _ _ _ _ (λ e. evaluated_same v el row.fits b (there (or_right (receives x) (sends x) e)) empty (work x).instance) (λ e. refl)

  defined_same : defined (sited v x) ≡ defined x
  unfolding defined
  defined_same = λ i. (work_along i).defined && (sent_same i).defined

  taking_along : after_taking (sited v x) ≡ seen v (after_taking x)
  unfolding after_taking
  taking_along = ap (λ (w : Assigned). taken el m b w.instance) work_along ∙ taken_along v el m b row (work x).instance

  pub after_along : instance_after (sited v x) ≡ seen v (instance_after x)
  unfolding instance_after
  after_along = ap (moved el m b) taking_along ∙ moved_along v el m b row (after_taking x)

  pub made_same : made_after (sited v x) ≡ made_after x
  unfolding made_after
  made_same = refl

  pub queues_same : (q : List ℕ) → queues_after (sited v x) q ≡ queues_after x q
  unfolding queues_after
  queues_same q = λ i. if receives x then consuming q (message_named x) g or_else if sends x then sending q (message_named x) (sent_same i).tuple or_else q

  pub traffic_same : traffic (sited v x) ≡ traffic x
  unfolding traffic
  traffic_same = λ i.
      if receives x then record { number = 0; traffic = Consumed; name = message_named x; tuple = (template_same i).tuple }
      or_else if sends x then record { number = 0; traffic = Sent; name = message_named x; tuple = (sent_same i).tuple }
      or_else record { number = 0; traffic = Nothing; name = 0; tuple = empty }

  pub accepted_along : length h ≡ copy_words → (v ≡ former → ⊥) → (q : List ℕ) → Accepted x q → Accepted (sited v x) q
  unfolding matches queued space
  accepted_along long later q a = record {
    permits = permits_along v el m b row h long later a.permits;
    grants = granted_same v el m b row h ∙ a.grants;
    templated = ap (λ (e : Evaluated). e.defined) template_same ∙ a.templated;
    outright = ap (λ d. receives x || d) defined_same ∙ a.outright;
    matched = ap (λ (e : Evaluated). same_tuple e.tuple g) template_same ∙ a.matched;
    worked_out = defined_same ∙ a.worked_out;
    waiting = a.waiting;
    limited = a.limited;
    spacious = a.spacious;
    roomed = ap (λ y. roomy el y m b) taking_along ∙ roomy_same v el m b row (after_taking x) ∙ a.roomed;
  }
