use Rattle.std.proofs.Common.{◌≡◌, ℕ, ◌+◌, ◌<◌, Bool, true, false, ltb, min, refl, arith}
use borrow.Author.Tests.{ltb-true, ltb-false}
use Rattle.base_words.specs.Pick.{if◌then◌or_else◌}
use Rattle.base_words.specs.Words.{one_more}
use Rattle.base_words.proofs.PickLaws.{pick_yes, pick_no}
use Rattle.base_words.proofs.one_more.Goals as goal

saturates : (n r m : ℕ) → n < m + 1 → r ≡ min (n + 1) m → r ≡ (if ltb n m then n + 1 or_else n)
saturates n r m l e = go (ltb n m) refl
  where
    go : (b : Bool) → ltb n m ≡ b → r ≡ (if ltb n m then n + 1 or_else n)
    go true q = pick_yes _ _ _ _ q (let h = ltb-true n m q in omega arith)
    go false q = pick_no _ _ _ _ q (let h = ltb-false n m q in omega arith)

pub returns : goal.returns
unfolding one_more
returns c = saturates c.args.n _ 4294967295 c.ranges.n.fits c.saturating_add.ensures
