-- What R3 to R8 say, tried at the boundary of each sentence: one table. A row says what is tried, and names a text, a place in it and the markup there. (RULES: xml)
use Rattle.std.specs.Prelude.{ℕ, List, [], ◌∷◌, ◌++◌}
use Prim.Native.String.{String}
use Rattle.base_words.specs.Text.{bytes}
use Rattle.xml_scanner.specs.declared.Sort.{Sort}
use Rattle.xml_scanner.specs.declared.Sort.TheVariants.{StartTag, EmptyTag, EndTag, Text, Reference, Comment, Data, Instruction, End, Fault}
use Rattle.xml_markup.specs.declared.Markup.{Markup}
use Rattle.xml_markup.specs.Markup.{marked}

pub record Point : Type 0 where
  pub says : String
  pub text : List ℕ
  pub place : ℕ
  pub is : Markup

infix 70 ◌at◌gives◌
abbrev ◌at◌gives◌ : List ℕ → ℕ → Markup → String → Point
(t at p gives m) s = record { says = s; text = t; place = p; is = m }

-- a text from its first byte on
abbrev whole : String → String → Sort → ℕ → Point
whole s t sort q = (bytes t at 0 gives marked sort q) s

abbrev fault : String → String → ℕ → Point
fault s t q = whole s t Fault q

abbrev bom : List ℕ
bom = 239 ∷ 187 ∷ 191 ∷ []

abbrev pub points : List Point
points =
    whole "a start tag" "<a:b c = '>' d=\"&lt;\" >" StartTag 23 ∷
    whole "an empty tag" "<a/>" EmptyTag 4 ∷
    whole "an end tag" "</a >" EndTag 5 ∷
    whole "character data up to markup" "a]]b<" Text 4 ∷
    whole "a reference" "&apos;" Reference 6 ∷
    whole "a comment" "<!--a-b-->" Comment 10 ∷
    whole "a CDATA section" "<![CDATA[<&]]]>" Data 15 ∷
    whole "an instruction" "<?a b??>" Instruction 8 ∷
    whole "the end" "" End 0 ∷
    fault "`< a`: at the `<`" "< a" 0 ∷
    fault "`<1`" "<1" 0 ∷
    fault "`<!x`" "<!x" 0 ∷
    fault "`<?1`" "<?1" 0 ∷
    fault "`</ a`" "</ a" 0 ∷
    fault "`<!DOCTYPE`" "<!DOCTYPE a>" 0 ∷
    fault "`<![CDATA` and no `[`" "<![CDATA >" 0 ∷
    fault "an unknown reference: at the `&`" "&foo;" 0 ∷
    fault "a bad reference in a value" "<a b='x&y'>" 7 ∷
    fault "a forbidden character number" "&#0;" 0 ∷
    fault "a surrogate" "&#xD800;" 0 ∷
    whole "the greatest character" "&#x10ffff;" Reference 10 ∷
    fault "one above it" "&#1114112;" 0 ∷
    fault "no digit" "&#x;" 0 ∷
    fault "missing blank before an attribute: at that byte" "<a b='1'c='2'>" 8 ∷
    fault "missing `=`" "<a b c>" 5 ∷
    fault "missing quote" "<a b=c>" 5 ∷
    fault "stray byte in a tag" "<a =>" 3 ∷
    fault "stray byte in an end tag" "</a b>" 4 ∷
    fault "`/` without `>`: at the `/`" "<a/ >" 2 ∷
    fault "a second attribute of the same name: at its name" "<a b='1' b='2'>" 9 ∷
    fault "whatever stands behind that name" "<a b='1' b>" 9 ∷
    whole "compared whole, with prefix" "<a b='1' c:b='2'>" StartTag 17 ∷
    fault "`<` in a value: there" "<a b='<'>" 6 ∷
    fault "`--` in a comment not followed by `>`: at the first `-`" "<!--a--b-->" 5 ∷
    fault "`]]>` in character data: at the first `]`" "a]]]>" 2 ∷
    ((bytes "<a " ++ (1 ∷ [])) at 0 gives marked Fault 3) "a byte below 32: there" ∷
    ((bytes "<" ++ (0 ∷ [])) at 0 gives marked Fault 1) "wherever it is" ∷
    whole "`<?xml` at the first byte" "<?xml x?>" Instruction 9 ∷
    ((bom ++ bytes "<?xml?>") at 3 gives marked Instruction 10) "or behind the BOM" ∷
    (bytes " <?xml?>" at 1 gives marked Fault 1) "nowhere else" ∷
    fault "xml in any letter case: at its `<`" "<?xMl?>" 0 ∷
    whole "a longer target" "<?xmls?>" Instruction 8 ∷
    fault "behind a target comes a blank or `?>`" "<?a=" 3 ∷
    fault "and no `?` alone" "<?a?b" 3 ∷
    fault "a name that runs up to the end" "<a" 2 ∷
    fault "an end tag's too" "</a" 3 ∷
    fault "an attribute's, judged or not" "<a b='1' b" 10 ∷
    fault "a target" "<?xMl" 5 ∷
    fault "a reference" "&foo" 4 ∷
    fault "an opening" "<!-" 3 ∷
    fault "a value" "<a b='x" 7 ∷
    fault "a comment cut off" "<!--a--" 7 ∷
    fault "a CDATA section cut off" "<![CDATA[a]]" 12 ∷
    fault "a `/` cut off" "<a/" 3 ∷
    whole "character data goes up to the end" "a]]" Text 3 ∷ []
