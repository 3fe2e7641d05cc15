-- The words of an element that is drawn are as many as a table keeps for one. Assumes nothing.
use Prim.Native.Nat.{ℕ, ◌<◌}
use mathlib.Core.Path.{◌≡◌, ◌∙◌}
use mathlib.Core.Bool.{Bool, true, false}
use mathlib.Core.List.{List}
use lib.ListN.{length, set, replicate, length-set, length-replicate}
use Rattle.base_words.specs.Pick.{if◌then◌or_else◌}
use Rattle.base_words.proofs.IterLaws.{iter_keeps}
use Rattle.base_table.specs.Places.{element_words, kind_place}
use Rattle.draw_things.specs.Things.{kind}
use Rattle.text_passes.proofs.FillLaws.{Block}
use Rattle.draw_conditions.specs.declared.Condition.{Condition}
use Rattle.draw_conditions.specs.declared.Term.{Term}
use Rattle.draw_model.specs.Drawn.{with_edge, with_message, with_form, with_task, with_first, head_of, with_term, with_condition, said_or_true, guarded_by, with_guard, with_branch, exit_by, entering_by, leaving_by, by_flow, element_drawn}

-- the length by its name, so that the words are told by it
record Long (x : List ℕ) : Type 0 where
  is : length x ≡ element_words

put_long : (x : List ℕ) (i v : ℕ) → Long x → Long (set x i v)
put_long x i v l = record { is = length-set x i v ∙ l.is }

either_long : (b : Bool) (x y : List ℕ) → Long x → Long y → Long (if b then x or_else y)
unfolding if◌then◌or_else◌
either_long true x y l m = l
either_long false x y l m = m

edge_long : (list e : ℕ) (x : List ℕ) → Long x → Long (with_edge list e x)
unfolding with_edge
edge_long list e x l = put_long _ _ _ (put_long _ _ _ l)

form_long : (b form : ℕ) (x : List ℕ) → Long x → Long (with_form b form x)
unfolding with_form
form_long b form x l = put_long _ _ _ l

message_long : (w : List ℕ) (n k : ℕ) (x : List ℕ) → Long x → Long (with_message w n k x)
unfolding with_message
message_long w n k x l = either_long _ _ _ (put_long _ _ _ l) (either_long _ _ _ (put_long _ _ _ l) l)

task_long : (w : List ℕ) (k : ℕ) (x : List ℕ) → Long x → Long (with_task w k x)
unfolding with_task
task_long w k x l = form_long _ _ _ (put_long _ _ _ (put_long _ _ _ l))

first_long : (w : List ℕ) (n k : ℕ) (x : List ℕ) → Long x → Long (with_first w n k x)
unfolding with_first
first_long w n k x l = either_long _ _ _ (task_long w k x l) (either_long _ _ _ (edge_long _ _ _ l) l)

head_long : (w : List ℕ) (n k : ℕ) → Long (head_of w n k)
unfolding head_of
head_long w n k = message_long w n k _ (first_long w n k _ (put_long (replicate element_words 0) kind_place (kind w k) (record { is = length-replicate {A = ℕ} element_words 0 })))

term_long : (o : Term) (b side : ℕ) (x : List ℕ) → Long x → Long (with_term o b side x)
unfolding with_term
term_long o b side x l = put_long _ _ _ (put_long _ _ _ l)

condition_long : (c : Condition) (b : ℕ) (x : List ℕ) → Long x → Long (with_condition c b x)
unfolding with_condition
condition_long c b x l = term_long _ _ _ _ (term_long _ _ _ _ (form_long _ _ _ l))

guarded_long : (t w : List ℕ) (n j b : ℕ) (x : List ℕ) → Long x → Long (guarded_by t w n j b x)
unfolding guarded_by said_or_true
guarded_long t w n j b x l = either_long _ _ _ (either_long _ _ _ (form_long _ _ _ l) (condition_long _ b x l)) (form_long _ _ _ l)

guard_long : (t w : List ℕ) (n k j b : ℕ) (x : List ℕ) → Long x → Long (with_guard t w n k j b x)
unfolding with_guard
guard_long t w n k j b x l = either_long _ _ _ (form_long _ _ _ l) (guarded_long t w n j b x l)

exit_long : (t w : List ℕ) (n k j : ℕ) (x : List ℕ) → Long x → Long (exit_by t w n k j x)
unfolding exit_by with_branch
exit_long t w n k j x l =
    either_long _ _ _ (edge_long _ _ _ (put_long _ _ _ l)) (either_long _ _ _ (edge_long _ _ _ (guard_long t w n k j _ x l)) (edge_long _ _ _ l))

flow_long : (t w : List ℕ) (n k j : ℕ) (x : List ℕ) → Long x → Long (by_flow t w n k j x)
unfolding by_flow leaving_by entering_by
flow_long t w n k j x l = either_long _ _ _ (either_long _ _ _ (exit_long t w n k j _ entered) entered) l
  where
    entered : Long (entering_by w k j x)
    entered = either_long _ _ _ (edge_long _ _ _ l) l

pub element_long : (t w : List ℕ) (n k : ℕ) → Block (element_drawn t w n k)
unfolding element_drawn
element_long t w n k = (iter_keeps (by_flow t w n k) (head_of w n k) Long n (λ j x h l. flow_long t w n k j x l) (head_long w n k)).is
