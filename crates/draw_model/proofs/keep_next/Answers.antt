use Rattle.draw_model.proofs.KeptLaws.{element_kept, kept_none, kept_one, none_counted, one_counted}
use Rattle.draw_model.specs.Content.{element_if}
use Rattle.base_words.proofs.PickLaws.{flag_no, flag_yes}
use Rattle.base_words.specs.Words.{at}
use borrow.Author.Rules.{rules}
use mathlib.Core.Path.{ap}
use mathlib.Core.Bool.{not}
use Rattle.draw_model.proofs.keep_next.Goals as goal

pub is_element-requires : goal.is_element-requires
unfolding element_if
is_element-requires c = search rules

pub returns-then-not-is_element : goal.returns-then-not-is_element
unfolding element_if
returns-then-not-is_element c = record { value = none_counted _ _ _ (flag_no _ _ c.is_element.ensures (ap not c.if-not-is_element.true)); v_after = kept_none _ _ _ _ _ (flag_no _ _ c.is_element.ensures (ap not c.if-not-is_element.true)) }

pub element_drawn-requires : goal.element_drawn-requires
unfolding element_if
element_drawn-requires c = search rules

pub keep_counted-requires : goal.keep_counted-requires
unfolding element_if
keep_counted-requires c = search rules

pub returns : goal.returns
unfolding element_if
returns c = record { value = one_counted _ _ _ (flag_yes _ _ c.is_element.ensures (ap not c.if-not-is_element.false)); v_after = kept_one _ _ _ _ _ _ (flag_yes _ _ c.is_element.ensures (ap not c.if-not-is_element.false)) (element_kept _ _ _ _ _ _ (rw c.element_drawn.ensures at c.keep_counted.ensures)) }
