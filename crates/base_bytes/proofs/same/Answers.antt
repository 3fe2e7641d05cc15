use Rattle.std.proofs.Common.{rules, refl, sym, ◌∙◌, eqb}
use borrow.Author.Tests.{ne_eqb, tests}
use Rattle.base_words.specs.Words.{at}
use Rattle.base_words.proofs.RangeLaws.{all_of_range}
use Rattle.base_bytes.proofs.SameLaws.{same_by_places, same_lengths}
use Rattle.base_bytes.proofs.same.Goals as goal

pub returns-then-a-b : goal.returns-then-a-b
returns-then-a-b c =
    all_of_range _ _ _ (λ i. eqb (at c.args.a.now i) (at c.args.b.now i)) _ c.all.ensures.ran refl (λ x q k. search (rules, tests)) (λ x q k. search (rules, tests))
    ∙ same_by_places _ _ c.if-a-b.true

pub returns-else-a-b : goal.returns-else-a-b
returns-else-a-b c = ne_eqb _ _ c.if-a-b.false ∙ sym (same_lengths _ _ c.if-a-b.false)
