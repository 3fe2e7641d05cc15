-- WHAT A STEP COMES TO at the two elements: where it is accepted at x it is accepted at y if there is room on the exits, tells the same, leaves the same queues, and words that are alike. Assumes nothing.
use Prim.Native.Nat.{ℕ, ◌≤◌}
use mathlib.Core.Path.{◌≡◌, refl, ◌∙◌, ap}
use mathlib.Core.Bool.{true, ◌&&◌, ◌||◌}
use mathlib.Core.List.{List}
use lib.Dec.{eqb, ltb}
use lib.ListN.{length}
use Rattle.base_words.specs.Counts.{messages}
use Rattle.base_words.specs.Pick.{if◌then◌or_else◌}
use Rattle.base_kinds.specs.declared.moves.Move.{Move}
use Rattle.base_kinds.specs.Moves.{on, making}
use Rattle.meaning.specs.declared.Tuple.{Tuple}
use Rattle.meaning.specs.declared.Evaluated.{Evaluated}
use Rattle.meaning.specs.declared.Traffic.TheVariants.{Nothing, Consumed, Sent}
use Rattle.meaning.specs.Tuples.{empty, same_tuple}
use Rattle.meaning.specs.Messages.{has}
use Rattle.meaning.specs.Queues.{messages_of, sending, consuming}
use Rattle.meaning.specs.Requirements.{below_limit, has_rooms}
use Rattle.meaning.specs.Changes.{expected, received, worked, message_sent, more, puts}
use Rattle.meaning.specs.Step.{Site, receives, sends, template, work, sent, defined, matches, after_taking, message_named, queued, space, instance_after, made_after, queues_after, traffic}
use Rattle.proof_steps.proofs.AcceptedParts.{Accepted}
use Rattle.proof_oldlogs.proofs.Alike.{Alike, choice_both}
use Rattle.proof_oldlogs.proofs.Elements.{Pairing, B, name_same, evaluated_same, permits_same, granted_same, roomy_alike, bound_alike, assigned_alike, taken_alike, moved_alike}

abbrev pub placed : List ℕ → Move → ℕ → Tuple → ℕ → ℕ → List ℕ → Site
placed el m b g made limit h = record { element = el; move = m; branch = b; given = g; made = made; limit = limit; instance = h }

module _ (K U : ℕ → Type 0) (c : ℕ → ℕ) (x y : List ℕ) (m m' : Move) (b : ℕ) (P : Pairing K U x y m m' b) (g : Tuple) (made limit : ℕ) (h h' : List ℕ) (r : Alike K U c h h') where
  abbrev X : Site
  X = placed x m b g made limit h

  abbrev Y : Site
  Y = placed y m' b g made limit h'

  receives_same : receives Y ≡ receives X
  receives_same = ap (λ k. eqb k on) P.deeds.receives

  sends_same : sends Y ≡ sends X
  sends_same = ap (λ k. eqb k on) P.deeds.sends

  named_same : message_named Y ≡ message_named X
  named_same = name_same K U c x y m m' b P

  template_same : template Y ≡ template X
  unfolding template expected
  template_same = choice_both (λ (p q : Evaluated). q ≡ p) (receives X) (receives Y) _ _ _ _ receives_same (λ e. evaluated_same K U c x y m m' b P h h' r g) (λ e. refl)

  received_alike : Alike K U c (received x h m b g) (received y h' m' b g)
  unfolding received
  received_alike = choice_both (Alike K U c) (receives X) (receives Y) _ h _ h' receives_same (λ e. bound_alike K U c x y m m' b P g h h' r) (λ e. r)

  work_alike : B K U c x y m m' b P (work X) (work Y)
  unfolding work worked
  work_alike =
      choice_both (B K U c x y m m' b P) (eqb m.assigns on) (eqb m'.assigns on) _ _ _ _ (ap (λ k. eqb k on) P.deeds.assigns)
      (λ e. assigned_alike K U c x y m m' b P (received x h m b g) (received y h' m' b g) received_alike)
      (λ e. (refl, received_alike))

  sent_same : sent Y ≡ sent X
  unfolding sent message_sent
  sent_same =
      choice_both (λ (p q : Evaluated). q ≡ p) (sends X) (sends Y) _ _ _ _ sends_same (λ e. evaluated_same K U c x y m m' b P (work X).instance (work Y).instance work_alike.1 empty) (λ e. refl)

  defined_same : defined Y ≡ defined X
  unfolding defined
  defined_same = λ i. work_alike.0 i && (sent_same i).defined

  pub taking_alike : Alike K U c (after_taking X) (after_taking Y)
  unfolding after_taking
  taking_alike = taken_alike K U c x y m m' b P (work X).instance (work Y).instance work_alike.1

  pub after_alike : (c' : ℕ → ℕ) → ((w : ℕ) → c w ≤ c' w) → ((k k' : List ℕ) → Alike K U c k k' → Alike K U c' (puts x m b k) (puts y m' b k')) → Alike K U c' (instance_after X) (instance_after Y)
  unfolding instance_after
  after_alike c' wider putting = moved_alike K U c x y m m' b P c' wider putting (after_taking X) (after_taking Y) taking_alike

  pub made_same : made_after Y ≡ made_after X
  unfolding made_after
  made_same = λ i. if eqb (P.deeds.also i) making then more made or_else made

  pub queues_same : (q : List ℕ) → queues_after Y q ≡ queues_after X q
  unfolding queues_after
  queues_same q = λ i. if receives_same i then consuming q (named_same i) g or_else if sends_same i then sending q (named_same i) (sent_same i).tuple or_else q

  pub traffic_same : traffic Y ≡ traffic X
  unfolding traffic
  traffic_same = λ i.
      if receives_same i then record { number = 0; traffic = Consumed; name = named_same i; tuple = (template_same i).tuple }
      or_else if sends_same i then record { number = 0; traffic = Sent; name = named_same i; tuple = (sent_same i).tuple }
      or_else record { number = 0; traffic = Nothing; name = 0; tuple = empty }

  pub accepted_alike : (has_rooms x (after_taking X) m b ≡ true → has_rooms y (after_taking Y) m' b ≡ true) → (q : List ℕ) → Accepted X q → Accepted Y q
  unfolding matches queued space below_limit
  accepted_alike rooms q a = record {
    permits = permits_same K U c x y m m' b P h h' r ∙ a.permits;
    grants = granted_same K U c x y m m' b P h h' r ∙ a.grants;
    templated = ap (λ (e : Evaluated). e.defined) template_same ∙ a.templated;
    outright = (λ i. receives_same i || defined_same i) ∙ a.outright;
    matched = ap (λ (e : Evaluated). same_tuple e.tuple g) template_same ∙ a.matched;
    worked_out = defined_same ∙ a.worked_out;
    waiting = (λ i. if receives_same i then has g (messages_of q (named_same i)) or_else true) ∙ a.waiting;
    limited = (λ i. if eqb (P.deeds.also i) making then ltb made limit or_else true) ∙ a.limited;
    spacious = (λ i. if sends_same i then ltb (length (messages_of q (named_same i))) messages or_else true) ∙ a.spacious;
    roomed = roomy_alike K U c x y m m' b P (after_taking X) (after_taking Y) taking_alike rooms a.roomed;
  }
