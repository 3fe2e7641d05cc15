use Prim.Native.Nat.{ℕ, ◌<◌}
use Rattle.std.proofs.Common.{rules}
use Rattle.base_words.specs.Words.{at}
use Rattle.xml_markup.proofs.ShelfLaws.{name_other}
use Rattle.xml_markup.proofs.shelf.stands_at.Goals as goal

pub returns-then-r-n : goal.returns-then-r-n
returns-then-r-n c f l q =
    let of_text : (i : ℕ) → at c.args.text.now i < 256 = λ i. search rules in
    let of_name : (i : ℕ) → at c.args.name.now i < 256 = λ i. search rules in
    name_other c.args.text.now _ _ _ _ c.kept_name.ensures of_text of_name c.eq.ensures f q
