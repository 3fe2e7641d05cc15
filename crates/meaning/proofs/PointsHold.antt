-- Every point holds of the definitions: one claim, computed. Assumes nothing.
use mathlib.Core.Path.{◌≡◌, refl}
use Rattle.base_words.specs.All.{all}
use Rattle.base_words.specs.Each.{tab}
use Rattle.base_words.specs.Iter.{iter}
use Rattle.base_words.specs.Pick.{if◌then◌or_else◌}
use Rattle.base_words.specs.Seek.{seek}
use Rattle.base_words.specs.Writes.{writes}
use Rattle.base_kinds.specs.Kinds.{kind_of, used}
use Rattle.base_kinds.specs.Moves.{mode_of, is_rule, rule_of, move_of}
use Rattle.base_table.specs.Table.{has_number, pool_of, limit_of, entry_count, exit_count}
use Rattle.meaning.specs.Values.{sum_of, difference_of, equal_of, less_of, is_true, is_false, is_defined, number_in}
use Rattle.meaning.specs.Tuples.{value_of, same_tuple}
use Rattle.meaning.specs.Messages.{has, without, times}
use Rattle.meaning.specs.Queues.{messages_of, message_word, messages_word, queue_word, with_messages}
use Rattle.meaning.specs.Expressions.{field_of, operand_of, expression_of}
use Rattle.meaning.specs.Conditions.{condition_of, default_at, left_out, other_false, holds}
use Rattle.meaning.specs.Templates.{binds, item_value, gathered, evaluated, bind_one, bound}
use Rattle.meaning.specs.Assignments.{assigned_value, assign_one, assigned}
use Rattle.meaning.specs.Requirements.{touched, first_touched, branch_count, instance_named, has_token, has_tokens, can_lower, waits, is_alone, counts_permit, granted, below_limit, edge_has_room, has_rooms, can_raise, roomy}
use Rattle.meaning.specs.Changes.{expected, received, worked, message_sent, take_one, taken, more, count_changed, active_changed, ready_changed, put_one, puts, cleared, moved}
use Rattle.meaning.specs.Refusals.{first_refusal}
use Rattle.meaning.specs.Step.{element_named, move_named, instance_of, shared_of, before, site_of, exists, template, work, sent, defined, matches, after_taking, queued, space, refusals_at, refusals, instance_after, made_after, instances_after, queues_after, traffic, step}
use Rattle.meaning.specs.Post.{post_refusals, post}
use Rattle.meaning.specs.Points.{points, Hold, choices, Chosen, versions, Waited, stores}

pub points_hold : Hold points
unfolding all tab iter if◌then◌or_else◌ seek writes kind_of used mode_of is_rule rule_of move_of has_number pool_of limit_of entry_count exit_count sum_of difference_of equal_of less_of is_true is_false is_defined number_in value_of same_tuple has without times messages_of message_word messages_word queue_word with_messages field_of operand_of expression_of condition_of default_at left_out other_false holds binds item_value gathered evaluated bind_one bound assigned_value assign_one assigned touched first_touched branch_count instance_named has_token has_tokens can_lower waits is_alone counts_permit granted below_limit edge_has_room has_rooms can_raise roomy expected received worked message_sent take_one taken more count_changed active_changed ready_changed put_one puts cleared moved first_refusal element_named move_named instance_of shared_of before site_of exists template work sent defined matches after_taking queued space refusals_at refusals instance_after made_after instances_after queues_after traffic step post_refusals post
points_hold = (refl, (refl, (refl, (refl, (refl, (refl, (refl, (refl, (refl, (refl, (refl, (refl, (refl, (refl, (refl, (refl, (refl, (refl, (refl, (refl, (refl, (refl, (refl, (refl, (refl, (refl, (refl, (refl, (refl, (refl, (refl, tt)))))))))))))))))))))))))))))))

pub choices_hold : Chosen choices
unfolding all tab if◌then◌or_else◌ used kind_of exit_count equal_of less_of is_true is_false field_of operand_of condition_of default_at left_out other_false holds
choices_hold = (refl, (refl, (refl, (refl, (refl, (refl, (refl, (refl, (refl, tt)))))))))

pub versions_hold : Waited versions
unfolding if◌then◌or_else◌ waits is_alone
versions_hold = (refl, (refl, (refl, (refl, (refl, (refl, (refl, tt)))))))

pub stores_hold : Hold stores
unfolding all tab iter if◌then◌or_else◌ seek writes kind_of used mode_of is_rule rule_of move_of has_number pool_of limit_of entry_count exit_count sum_of difference_of equal_of less_of is_true is_false is_defined number_in value_of same_tuple has without times messages_of message_word messages_word queue_word with_messages field_of operand_of expression_of condition_of default_at left_out other_false holds binds item_value gathered evaluated bind_one bound assigned_value assign_one assigned touched first_touched branch_count instance_named has_token has_tokens can_lower waits is_alone counts_permit granted below_limit edge_has_room has_rooms can_raise roomy expected received worked message_sent take_one taken more count_changed active_changed ready_changed put_one puts cleared moved first_refusal element_named move_named instance_of shared_of before site_of exists template work sent defined matches after_taking queued space refusals_at refusals instance_after made_after instances_after queues_after traffic step post_refusals post
stores_hold = (refl, (refl, (refl, (refl, (refl, (refl, (refl, (refl, (refl, (refl, (refl, (refl, (refl, (refl, (refl, (refl, (refl, (refl, tt))))))))))))))))))
