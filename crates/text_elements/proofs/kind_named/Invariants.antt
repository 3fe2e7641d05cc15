use mathlib.Core.Path.{◌≡◌}
use Rattle.base_words.specs.Seek.{seek}
use Rattle.text_elements.specs.Elements.{is_keyword}
use Rattle.text_elements.proofs.kind_named.Given as goal

abbrev pub invariant-loop-j : goal.invariant-loop-j
invariant-loop-j l = seek (is_keyword l.word) l.j ≡ l.j
