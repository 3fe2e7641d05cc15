-- What an accepted step that receives or sends knows of its queue: the name is one of the 16, the message is there or has space, it has at most 4
-- values. Assumes nothing.
use Prim.Native.Nat.{ℕ, ◌≤◌, ◌<◌}
use mathlib.Core.Path.{◌≡◌}
use mathlib.Core.Bool.{true, false, ◌&&◌}
use mathlib.Core.List.{List}
use lib.Dec.{ltb}
use lib.ListN.{length, drop}
use borrow.Author.Tests.{ltb-true, eqb-true, ne_eqb}
use Rattle.std.proofs.lemmas.Bool.{or_left, or_right}
use Rattle.base_words.specs.All.{all}
use Rattle.base_words.specs.Pick.{if◌then◌or_else◌}
use Rattle.base_words.specs.Counts.{pools, names, fields, values, messages}
use Rattle.base_words.proofs.AllLaws.{and_left, and_right, all_at}
use Rattle.base_kinds.specs.Moves.{on}
use Rattle.base_table.specs.Table.{kind_in, mode_in}
use Rattle.base_state.specs.Places.{shared_place}
use Rattle.check_limits.specs.Limits.{table_fits}
use Rattle.meaning.specs.declared.Name.{Name}
use Rattle.meaning.specs.Messages.{has}
use Rattle.meaning.specs.Queues.{messages_of}
use Rattle.meaning.specs.Templates.{gathered, evaluated}
use Rattle.meaning.specs.Changes.{message_sent}
use Rattle.meaning.specs.Refusals.{first_refusal}
use Rattle.meaning.specs.Step.{Site, site_of, element_named, move_named, receives, sends, message_named, sent, queued, space, refusals}
use Rattle.state_fits.specs.Fits.{field_fits, fields_fit, instances_fit, shared_fits, queue_fits, state_fits}
use Rattle.proof_steps.proofs.AcceptedParts.{Accepted, accepted_parts}
use Rattle.proof_steps.proofs.Choices.{chosen_true}
use Rattle.proof_steps.proofs.Found.{Found, found, name_few, length_few}
use Rattle.proof_steps.proofs.Rows.{row_one_way}

-- the parts of a state that fits
module _ (t s q : List ℕ) (h : state_fits t s q ≡ true) where
  pub state_queues : (m : ℕ) → m < names → queue_fits q m ≡ true
  unfolding state_fits
  state_queues = all_at (queue_fits q) names (and_right (all (instances_fit t s) pools && shared_fits s) (all (queue_fits q) names) h)

  pub state_own : all (instances_fit t s) pools && shared_fits s ≡ true
  unfolding state_fits
  state_own = and_left (all (instances_fit t s) pools && shared_fits s) (all (queue_fits q) names) h

  pub state_instances : (p : ℕ) → p < pools → instances_fit t s p ≡ true
  state_instances = all_at (instances_fit t s) pools (and_left (all (instances_fit t s) pools) (shared_fits s) state_own)

  pub state_stores : (d : ℕ) → d < fields → field_fits (drop shared_place s) d ≡ true
  unfolding shared_fits fields_fit
  state_stores = all_at (field_fits (drop shared_place s)) fields (and_right (all (instances_fit t s) pools) (shared_fits s) state_own)

module _ (t s q : List ℕ) (n : Name) (fits : table_fits t ≡ true) (accepted : first_refusal (refusals t s q n) ≡ 0) where
  abbrev x : Site
  x = site_of t s n

  pub here : Found t s n
  here = found t s n (accepted_parts t s q n accepted).0

  pub site : Accepted x q
  site = (accepted_parts t s q n accepted).1

  -- it receives
  pub received_name : receives x ≡ true → message_named x < names
  received_name e = name_few t s n fits here (or_left (receives x) (sends x) e)

  pub received_there : receives x ≡ true → has x.given (messages_of q (message_named x)) ≡ true
  unfolding queued
  received_there e = chosen_true (receives x) (has x.given (messages_of q (message_named x))) true site.waiting e

  -- it sends
  module _ (e : sends x ≡ true) where
    pub sent_alone : receives x ≡ false
    unfolding site_of move_named
    sent_alone = ne_eqb x.move.receives on (λ f. row_one_way (kind_in (element_named t n)) (mode_in (element_named t n)) n.phase f (eqb-true x.move.sends on e))

    pub sent_name : message_named x < names
    sent_name = name_few t s n fits here (or_right (receives x) (sends x) e)

    pub sent-space : length (messages_of q (message_named x)) < messages
    unfolding space
    sent-space = ltb-true (length (messages_of q (message_named x))) messages (chosen_true (sends x) (ltb (length (messages_of q (message_named x))) messages) true site.spacious e)

    pub sent_short : (sent x).tuple.length ≤ values
    unfolding sent message_sent evaluated gathered site_of if◌then◌or_else◌
    sent_short = rw e (length_few t s n fits here (or_right (receives x) (sends x) e))
