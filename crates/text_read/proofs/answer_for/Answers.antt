use Rattle.base_words.specs.Words.{at}
use Rattle.text_ends.specs.Room.{room_in}
use native.Mathlib.Omega.{arith}
use Rattle.text_read.proofs.ReadLaws.{check_failed, all_passed, none_free}
use Rattle.text_read.proofs.answer_for.Goals as goal

pub returns-then-broken-ne0 : goal.returns-then-broken-ne0
returns-then-broken-ne0 c = check_failed _ _ c.lowest_kept-broken.ensures (at c.args.m.now room_in) (λ z. omega (arith, c.if-broken-ne0.true))

pub returns-then-word-eq0 : goal.returns-then-word-eq0
returns-then-word-eq0 c = all_passed _ _ c.lowest_kept-broken.ensures _ _ c.word.ensures (omega (arith, c.if-broken-ne0.false)) c.if-word-eq0.true

pub returns : goal.returns
returns c = none_free _ _ c.lowest_kept-broken.ensures _ _ c.word.ensures (omega (arith, c.if-broken-ne0.false)) c.if-word-eq0.false
