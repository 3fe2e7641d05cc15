use Rattle.write_buffer.proofs.OverLaws.{put_as, put_within}
use Rattle.write_decimals.specs.Decimals.{shown}
use Rattle.write_shown.specs.Shown.{shown_part}
use Rattle.base_words.specs.Pick.{if◌then◌or_else◌}
use Rattle.write_table.proofs.PartLaws.{entries_is, exits_is, receiving_is, other_part}
use borrow.Author.Tests.{leb-true}
use mathlib.Core.Path.{refl, ap, ◌∙◌}
use native.Mathlib.Omega.{arith}
use Rattle.write_table.proofs.put_part.Goals as goal

pub returns-in-69 : goal.returns-in-69
unfolding shown_part if◌then◌or_else◌
returns-in-69 c = put_within (put_as _ (rw c.in-69.is (ap shown c.edge_at.ensures)) c.put_number.ensures) (leb-true _ _ refl)

pub returns-in-88 : goal.returns-in-88
unfolding shown_part if◌then◌or_else◌
returns-in-88 c = put_within (put_as _ (rw c.in-88.is (ap shown c.edge_at-in-88.ensures)) c.put_number-in-88.ensures) (leb-true _ _ refl)

pub returns-in-70 : goal.returns-in-70
unfolding shown_part if◌then◌or_else◌
returns-in-70 c = put_within (put_as _ (rw c.in-70.is (entries_is _)) c.put_edge_list.ensures) (leb-true _ _ refl)

pub returns-in-89 : goal.returns-in-89
unfolding shown_part if◌then◌or_else◌
returns-in-89 c = put_within (put_as _ (rw c.in-89.is (exits_is _)) c.put_edge_list-in-89.ensures) (leb-true _ _ refl)

pub returns-in-78 : goal.returns-in-78
unfolding shown_part if◌then◌or_else◌
returns-in-78 c = put_within (put_as _ (rw c.in-78.is (refl)) c.put_task.ensures) (leb-true _ _ refl)

pub returns-in-84 : goal.returns-in-84
unfolding shown_part if◌then◌or_else◌
returns-in-84 c = put_within (put_as _ (rw c.in-84.is (refl)) c.put_message.ensures) (leb-true _ _ refl)

pub returns-in-83 : goal.returns-in-83
unfolding shown_part if◌then◌or_else◌
returns-in-83 c = put_within (put_as _ (rw c.in-83.is (refl)) c.put_message-in-83.ensures) (leb-true _ _ refl)

pub returns-in-71 : goal.returns-in-71
unfolding shown_part if◌then◌or_else◌
returns-in-71 c = put_within (put_as _ (rw c.in-71.is (refl)) c.put_guarded_list.ensures) (leb-true _ _ refl)

pub returns-in_default : goal.returns-in_default
returns-in_default c = put_within (put_as _ (receiving_is _ ∙ other_part _ _ (λ q. omega arith) (λ q. omega arith) (λ q. omega arith) (λ q. omega arith) (λ q. omega arith) (λ q. omega arith) (λ q. omega arith) (λ q. omega arith)) c.put_branches.ensures) (leb-true _ _ refl)
