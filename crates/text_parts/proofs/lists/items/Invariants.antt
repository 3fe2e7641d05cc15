use Rattle.text_parts.specs.Parts.{item_of, starts}
use Rattle.text_parts.proofs.ListLaws.{Rest}
use Rattle.text_parts.proofs.lists.items.Given as goal

abbrev pub invariant-loop-k : goal.invariant-loop-k
invariant-loop-k l = Rest (item_of l.s) (starts l.s.item) l.s.least l.s.count l.s.most l.text l.start l.initial.x l.k l.at l.x
