use mathlib.Core.Path.{◌≡◌, ◌∙◌, ap}
use Prim.Native.Nat.{ℕ, ◌+◌}
use native.Mathlib.Omega.{arith}
use borrow.Author.Tests.{tests}
use lib.ListN.{length, drop}
use mathlib.Core.List.{List}
use Rattle.std.proofs.Common.{rules}
use Rattle.std.proofs.lemmas.Grind.{common_steps}
use Rattle.std.proofs.lemmas.Iterator.{YieldsList-from_slice}
use Rattle.std.specs.Option.{unwrap_or}
use Rattle.xml_markup.specs.Staying.{is_plain}
use Rattle.xml_markup.proofs.StayLaws.{past_of_position}
use Rattle.xml_markup.proofs.staying.plain_from.Goals as goal

pub returns : goal.returns
returns c =
    let e : c.unwrap_or-rest.result.now ≡ drop c.args.from c.args.text.now = grind (arith, common_steps) in
    let k = past_of_position (is_plain c.args.q) (drop c.args.from c.args.text.now) c.args.from _ _ c.position.result c.position.ensures.ran (YieldsList-from_slice _ cc) (λ x q k. search (rules, tests)) (λ x q k. search (rules, tests)) in
    ap (λ (n : ℕ). c.args.from + n) (c.unwrap_or.ensures ∙ ap (λ (s : List ℕ). unwrap_or c.position.result (length s)) e) ∙ k
