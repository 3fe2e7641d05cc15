use Rattle.base_words.proofs.SeekLaws.{seek_more, seek_found, seek_done, seek_none}
use Rattle.base_words.proofs.PickLaws.{flag_is}
use Rattle.text_elements.proofs.ElementLaws.{named, unnamed}
use Rattle.text_elements.specs.Elements.{is_keyword}
use Rattle.text_elements.proofs.kind_named.Goals as goal

pub loop-j-init : goal.loop-j-init
loop-j-init c = seek_none _

pub returns-then-is_keyword : goal.returns-then-is_keyword
unfolding is_keyword
returns-then-is_keyword c = named _ _ (seek_found _ _ _ c.loop-j-test.true c.loop-j.invariant (flag_is _ _ _ c.is_keyword.ensures c.if-is_keyword.true)) c.loop-j-test.true

pub loop-j-preserved : goal.loop-j-preserved
unfolding is_keyword
loop-j-preserved c = seek_more _ _ c.loop-j.invariant (flag_is _ _ _ c.is_keyword.ensures c.if-is_keyword.false)

pub returns : goal.returns
returns c = unnamed _ _ (seek_done _ _ _ c.loop-j-test.false c.loop-j.auto.j-end c.loop-j.invariant) c.loop-j-test.false
