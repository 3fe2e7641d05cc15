-- The root of a document, and what stands behind it. "The root's name is .., else 20 at its `<`" (R9); without a root the text breaks off; behind the root there is no element. (RULES: xml)
use Rattle.xml_skip.specs.Skipping.{Reached, fault_at}
use Rattle.std.specs.Prelude.{ℕ, length, Ok}
use Rattle.base_words.specs.Blocks.{Bytes}
use Rattle.base_words.specs.Pick.{if◌then◌or_else◌}
use Rattle.xml_markup.specs.Spans.{is_called}
use Rattle.xml_markup.specs.Tokens.{first}
use Rattle.xml_document.specs.declared.Outside.{Outside}
use Rattle.xml_document.specs.declared.Outside.TheVariants.{Element, On, Nothing, Fault as OutsideFault}
use Rattle.xml_document.specs.Document.{outside}

unfoldable pub root_by : Outside → Bytes → Bytes → Reached
root_by (Element p) name t = if is_called t p name then Ok p or_else fault_at p
root_by (On q) name t = fault_at q
root_by Nothing name t = fault_at (length t)
root_by (OutsideFault q) name t = fault_at q

unfoldable pub root_at : Bytes → Bytes → Reached
root_at name t = root_by (outside t (first t)) name t

unfoldable pub last_by : Outside → Bytes → Reached
last_by (Element p) t = fault_at p
last_by (On q) t = fault_at q
last_by Nothing t = Ok (length t)
last_by (OutsideFault q) t = fault_at q

unfoldable pub last_from : Bytes → ℕ → Reached
last_from t q = last_by (outside t q) t
