-- The session of specs/Session is what the public calls give, its four numbers are those of the example, and histories and queues that differ from it do not add up: computed. Assumes nothing.
use Prim.Native.Nat.{ℕ}
use mathlib.Core.Path.{◌≡◌, refl, sym, ◌∙◌, ap, subst}
use mathlib.Core.Bool.{true, false, false≢true}
use mathlib.Core.List.{List, [], ◌∷◌}
use Rattle.base_words.specs.All.{all}
use Rattle.base_words.specs.Sum.{sum}
use Rattle.base_words.specs.Each.{total, each, tab, joined, those}
use Rattle.base_words.specs.Iter.{iter}
use Rattle.base_words.specs.Seek.{seek}
use Rattle.base_words.specs.Pick.{if◌then◌or_else◌}
use Rattle.base_words.specs.Writes.{writes}
use Rattle.base_kinds.specs.Kinds.{kind_of, used}
use Rattle.base_kinds.specs.Moves.{mode_of, is_rule, rule_of, move_of}
use Rattle.base_table.specs.Table.{has_number, pool_of, limit_of, entry_count, exit_count}
use Rattle.base_state.specs.Instances.{instances_of, queues_of}
use Rattle.base_state.specs.Versions.{present, is_version}
use Rattle.meaning.specs.declared.Name.{Name}
use Rattle.meaning.specs.declared.Tuple.{Tuple}
use Rattle.meaning.specs.Values.{sum_of, difference_of, equal_of, less_of, is_true, is_false, is_defined, number_in}
use Rattle.meaning.specs.Tuples.{value_of, same_tuple}
use Rattle.meaning.specs.Messages.{has, without, times}
use Rattle.meaning.specs.Queues.{messages_of, message_word, messages_word, queue_word, with_messages, tidied}
use Rattle.meaning.specs.Expressions.{field_of, operand_of, expression_of}
use Rattle.meaning.specs.Conditions.{condition_of, default_at, left_out, other_false, holds}
use Rattle.meaning.specs.Templates.{binds, item_value, gathered, evaluated, bind_one, bound}
use Rattle.meaning.specs.Assignments.{assigned_value, assign_one, assigned}
use Rattle.meaning.specs.Requirements.{touched, first_touched, branch_count, instance_named, has_token, has_tokens, can_lower, waits, is_alone, counts_permit, granted, below_limit, edge_has_room, has_rooms, can_raise, roomy}
use Rattle.meaning.specs.Changes.{expected, received, worked, message_sent, take_one, taken, more, count_changed, active_changed, ready_changed, put_one, puts, cleared, moved}
use Rattle.meaning.specs.Refusals.{first_refusal}
use Rattle.meaning.specs.Post.{post_refusals, post}
use Rattle.meaning.specs.Step.{element_named, move_named, instance_of, shared_of, before, site_of, exists, template, work, sent, defined, matches, after_taking, queued as queuedThere, space, refusals_at, refusals, instance_after, made_after, instances_after, queues_after, traffic, step}
use Rattle.check_occurrences.specs.Occurrences.{condition_count, received_count, sent_count, of_kind, as_exit, as_entry, as_first, as_task, as_received, as_sent as asSentThere, is_default, defaults, default_once, binds_field, times_bound, template_once, bound_once}
use Rattle.check_model.specs.Checks.{check1, check2, check3, edge_right, check4, check5, pool_receives, pool_sends, not_sent_there, check6, check7, check8, lowest}
use Rattle.text_lexer.specs.Lexer.{is_blank, is_sign, is_word, token_of, token_here, token_at, if_word, if_sign, if_assign, if_end}
use Rattle.base_bytes.specs.Bytes.{among, between, is_digit, is_letter, past}
use Rattle.text_numerals.specs.Numerals.{value_from, leading_zero, number_of, is_field_letter, field_behind, field_from, field_of as fieldOf-of-numerals, as_number, as_field, operand_of as operandOf-of-numerals, if_value, if_too_large, if_number, if_field, if_out_of_range}
use Rattle.base_bytes.specs.Bytes.{same_bytes}
use Rattle.text_readers.specs.Reading.{if_at, onward, ◌then◌, sign_at, assign_at, end_at, keep_number, number, field, keep_operand, operand, mode_named, keep_mode, mode, is_spelled, starts_number, starts_field, starts_sign}
use Rattle.text_terms.specs.Terms.{joint, expression, bind, template_item, comparison, condition, assignment, guarded}
use Rattle.text_bounds.specs.Bounds.{starts, one_too_many, too_many, counted as countedThere}
use Rattle.text_parts.specs.Parts.{item_of, items_from, items, inside, series, message, receiving, receiving_branches, one_edge, task_part, part_of}
use Rattle.text_elements.specs.Elements.{is_keyword, kind_named, blank, parts_from, parts_of, element_of, element, starts_element}
use Rattle.text_passes.specs.Model.{put_before, barred, element_alone, elements_at, pool_word, opening, closing, closed, inside_pool, pool_of_word, pool, starts_pool, pools_at, model, flat, filled, pool_table, table_of}
use Rattle.text_read.specs.Notation.{checked, judged, read_into}
use Rattle.state_fits.specs.Fits.{is_start, start_place, has_start}
use Rattle.state_fits.specs.Fresh.{start_edge, pool_begun, fresh}
use Rattle.step_history.specs.History.{Entry, GivenBy, entry_by, state_by, told_by, left_by, is_message, is_consumed, is_sent, is_accepted, as_posted, as_sent, as_consumed, posts, sends, consumes, how_many, queued, accounts_of, balances}
use Rattle.step_history.proofs.HistoryLaws.{told_given, given_same}
use Rattle.engine.specs.Engine.{valid, fitting, leaving, stepped, posted_to}
use Rattle.engine.specs.Calls.{Valid}
use Rattle.engine.proofs.CallLaws.{asked_good}
use Rattle.engine.proofs.KeepsValid.{step-valid, post-valid, fresh-valid}
use Rattle.proof_steps.proofs.Choices.{chosen}
use Rattle.proof_demands.proofs.TextsAndTables.{read_valid}
use Rattle.text_ends.specs.Rewriting.{is_end_snd, times_in, mentioned, is_unused, end_sends, all_treated, rewritten, unused_count, room_for, has_room as hasRoom-of-ends}
use Rattle.proof_accounts.specs.Accounts.{FromFresh}
use Rattle.proof_accounts.specs.Session.{model as session-model, table, step_on, post_on, seven, sevens, calls, history, last, send_left_out, post_twice}
use Rattle.proof_accounts.proofs.Histories.{accounted}

read_well : (read_into session-model []).number ≡ 0
unfolding all sum total each tab joined those iter if◌then◌or_else◌ seek writes kind_of used mode_of is_rule rule_of move_of has_number pool_of limit_of entry_count exit_count sum_of difference_of equal_of less_of is_true is_false is_defined number_in condition_count received_count sent_count of_kind as_exit as_entry as_first as_task as_received asSentThere is_default defaults default_once binds_field times_bound template_once bound_once check1 check2 check3 edge_right check4 check5 pool_receives pool_sends not_sent_there check6 check7 check8 lowest among between is_blank is_sign is_digit is_letter is_word past token_of token_here token_at if_word if_sign if_assign if_end value_from leading_zero number_of same_bytes as_number is_field_letter field_behind field_from fieldOf-of-numerals as_field operandOf-of-numerals if_value if_too_large if_number if_field if_out_of_range if_at onward ◌then◌ sign_at assign_at end_at keep_number number field keep_operand operand mode_named keep_mode mode is_spelled starts_number starts_field starts_sign joint expression bind template_item comparison condition assignment guarded starts one_too_many too_many countedThere item_of items_from items inside series message receiving receiving_branches one_edge task_part part_of is_keyword kind_named blank parts_from parts_of element_of element starts_element put_before barred element_alone elements_at pool_word opening closing closed inside_pool pool_of_word pool starts_pool pools_at model flat filled pool_table table_of is_end_snd times_in mentioned is_unused end_sends all_treated rewritten unused_count room_for hasRoom-of-ends checked judged read_into
read_well = refl

-- what they tell
told_is : told_by (step_on table) post_on calls (fresh table present) ≡ history
unfolding all sum total each tab joined those iter if◌then◌or_else◌ seek writes kind_of used mode_of is_rule rule_of move_of has_number pool_of limit_of entry_count exit_count sum_of difference_of equal_of less_of is_true is_false is_defined number_in condition_count received_count sent_count of_kind as_exit as_entry as_first as_task as_received asSentThere is_default defaults default_once binds_field times_bound template_once bound_once check1 check2 check3 edge_right check4 check5 pool_receives pool_sends not_sent_there check6 check7 check8 lowest among between is_blank is_sign is_digit is_letter is_word past token_of token_here token_at if_word if_sign if_assign if_end value_from leading_zero number_of same_bytes as_number is_field_letter field_behind field_from fieldOf-of-numerals as_field operandOf-of-numerals if_value if_too_large if_number if_field if_out_of_range if_at onward ◌then◌ sign_at assign_at end_at keep_number number field keep_operand operand mode_named keep_mode mode is_spelled starts_number starts_field starts_sign joint expression bind template_item comparison condition assignment guarded starts one_too_many too_many countedThere item_of items_from items inside series message receiving receiving_branches one_edge task_part part_of is_keyword kind_named blank parts_from parts_of element_of element starts_element put_before barred element_alone elements_at pool_word opening closing closed inside_pool pool_of_word pool starts_pool pools_at model flat filled pool_table table_of is_end_snd times_in mentioned is_unused end_sends all_treated rewritten unused_count room_for hasRoom-of-ends checked judged read_into value_of same_tuple has without times messages_of message_word messages_word queue_word with_messages tidied field_of operand_of expression_of condition_of default_at left_out other_false holds binds item_value gathered evaluated bind_one bound assigned_value assign_one assigned touched first_touched branch_count instance_named has_token has_tokens can_lower waits is_alone counts_permit granted below_limit edge_has_room has_rooms can_raise roomy expected received worked message_sent take_one taken more count_changed active_changed ready_changed put_one puts cleared moved first_refusal post_refusals post element_named move_named instance_of shared_of before site_of exists template work sent defined matches after_taking queuedThere space refusals_at refusals instance_after made_after instances_after queues_after traffic step is_start start_place has_start start_edge pool_begun fresh told_by entry_by state_by leaving step_on post_on
told_is = refl

-- and what is queued then
waiting : messages_of (queues_of last) 3 ≡ sevens ∷ seven ∷ []
unfolding all sum total each tab joined those iter if◌then◌or_else◌ seek writes kind_of used mode_of is_rule rule_of move_of has_number pool_of limit_of entry_count exit_count sum_of difference_of equal_of less_of is_true is_false is_defined number_in condition_count received_count sent_count of_kind as_exit as_entry as_first as_task as_received asSentThere is_default defaults default_once binds_field times_bound template_once bound_once check1 check2 check3 edge_right check4 check5 pool_receives pool_sends not_sent_there check6 check7 check8 lowest among between is_blank is_sign is_digit is_letter is_word past token_of token_here token_at if_word if_sign if_assign if_end value_from leading_zero number_of same_bytes as_number is_field_letter field_behind field_from fieldOf-of-numerals as_field operandOf-of-numerals if_value if_too_large if_number if_field if_out_of_range if_at onward ◌then◌ sign_at assign_at end_at keep_number number field keep_operand operand mode_named keep_mode mode is_spelled starts_number starts_field starts_sign joint expression bind template_item comparison condition assignment guarded starts one_too_many too_many countedThere item_of items_from items inside series message receiving receiving_branches one_edge task_part part_of is_keyword kind_named blank parts_from parts_of element_of element starts_element put_before barred element_alone elements_at pool_word opening closing closed inside_pool pool_of_word pool starts_pool pools_at model flat filled pool_table table_of is_end_snd times_in mentioned is_unused end_sends all_treated rewritten unused_count room_for hasRoom-of-ends checked judged read_into value_of same_tuple has without times messages_of message_word messages_word queue_word with_messages tidied field_of operand_of expression_of condition_of default_at left_out other_false holds binds item_value gathered evaluated bind_one bound assigned_value assign_one assigned touched first_touched branch_count instance_named has_token has_tokens can_lower waits is_alone counts_permit granted below_limit edge_has_room has_rooms can_raise roomy expected received worked message_sent take_one taken more count_changed active_changed ready_changed put_one puts cleared moved first_refusal post_refusals post element_named move_named instance_of shared_of before site_of exists template work sent defined matches after_taking queuedThere space refusals_at refusals instance_after made_after instances_after queues_after traffic step is_start start_place has_start start_edge pool_begun fresh leaving step_on post_on left_by state_by
waiting = refl

queued-seven : queued 3 seven last ≡ 1
unfolding queued times same_tuple all
queued-seven = ap (times seven) waiting

queued-sevens : queued 3 sevens last ≡ 1
unfolding queued times same_tuple all
queued-sevens = ap (times sevens) waiting

-- THE PUBLIC CALLS gave it
right : valid table ≡ true
right = (read_valid session-model [] read_well).0

known : is_version present ≡ true
unfolding is_version
known = refl

begins : Valid table (fresh table present)
begins = fresh-valid table present (asked_good table present right known)

module _ (t z : List ℕ) (v : Valid t z) where
  plain_step_lem : (n : Name) → step_on t z n ≡ stepped t z n
  unfolding step_on stepped
  plain_step_lem n = sym (chosen (fitting t z) (leaving (step t (instances_of z) (queues_of z) n)) _ v.fits)

  plain_post : (m : ℕ) (g : Tuple) → post_on z m g ≡ posted_to t z m g
  unfolding post_on posted_to
  plain_post m g = sym (chosen (fitting t z) _ _ v.fits)

pub session_given : FromFresh table present history last
session_given = record {
  table = right;
  version = known;
  given =
      given_same (step_on table) (stepped table) post_on (posted_to table) (Valid table)
      (λ z n v. plain_step_lem table z v n) (λ z m g v. plain_post table z v m g)
      (λ z n v. rw (plain_step_lem table z v n) (step-valid table z v n)) (λ z m g v. rw (plain_post table z v m g) (post-valid table z v m g))
      history (fresh table present) last begins
      (subst (λ (h : List Entry). GivenBy (step_on table) post_on (fresh table present) h last) told_is (told_given (step_on table) post_on calls (fresh table present)));
}

-- ITS NUMBERS: "For (3, 7): 2 + 1 = 1 + 2. For (3, 7,7): 1 + 0 = 1 + 0."
numbers : (h : List Entry) (g : Tuple) (z : List ℕ) (q : ℕ) → queued 3 g z ≡ q → accounts_of 3 g h z ≡ record { posted = how_many (posts 3 g) h; sent = how_many (sends 3 g) h; consumed = how_many (consumes 3 g) h; queued = q }
unfolding accounts_of
numbers h g z q e = λ i. record { posted = how_many (posts 3 g) h; sent = how_many (sends 3 g) h; consumed = how_many (consumes 3 g) h; queued = e i }

pub of_seven : accounts_of 3 seven history last ≡ record { posted = 2; sent = 1; consumed = 2; queued = 1 }
unfolding how_many total posts sends consumes is_accepted as_posted as_sent as_consumed is_sent is_consumed is_message same_tuple all
of_seven = numbers history seven last 1 queued-seven

pub of_sevens : accounts_of 3 sevens history last ≡ record { posted = 1; sent = 0; consumed = 0; queued = 1 }
unfolding how_many total posts sends consumes is_accepted as_posted as_sent as_consumed is_sent is_consumed is_message same_tuple all
of_sevens = numbers history sevens last 1 queued-sevens

-- "A history with the send left out, a post told twice or a queue with one message fewer doesn't add up"
pub without_send : balances (accounts_of 3 seven send_left_out last) ≡ false
unfolding balances how_many total posts sends consumes is_accepted as_posted as_sent as_consumed is_sent is_consumed is_message same_tuple all
without_send = ap balances (numbers send_left_out seven last 1 queued-seven)

pub with_post_twice : balances (accounts_of 3 seven post_twice last) ≡ false
unfolding balances how_many total posts sends consumes is_accepted as_posted as_sent as_consumed is_sent is_consumed is_message same_tuple all
with_post_twice = ap balances (numbers post_twice seven last 1 queued-seven)

pub with_one_fewer : (z : List ℕ) → queued 3 seven z ≡ 0 → balances (accounts_of 3 seven history z) ≡ false
unfolding balances how_many total posts sends consumes is_accepted as_posted as_sent as_consumed is_sent is_consumed is_message same_tuple all
with_one_fewer z e = ap balances (numbers history seven z 0 e)

-- so that no calls give them
pub no_such_history : (t : List ℕ) (v : ℕ) (h : List Entry) (y : List ℕ) (m : ℕ) (g : Tuple) → balances (accounts_of m g h y) ≡ false → FromFresh t v h y → ⊥
no_such_history t v h y m g e f = false≢true (sym e ∙ (accounted t v h y f).balanced m g)
