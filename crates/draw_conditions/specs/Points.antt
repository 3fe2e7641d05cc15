-- What R21 and R28 say, tried at the boundary of each sentence: one table. A row says what is tried, and names a text, the place of a tag in it and the condition there. (RULES: flows)
use Rattle.std.specs.Prelude.{ℕ, List, [], ◌∷◌, ◌++◌}
use Prim.Native.String.{String}
use Rattle.base_words.specs.Text.{bytes}
use Rattle.base_table.specs.Places.{always, default, equals, below, a_field}
use Rattle.draw_conditions.specs.declared.Term.{Term}
use Rattle.draw_conditions.specs.declared.Condition.{Condition}
use Rattle.draw_conditions.specs.Words.{term, nothing}
use Rattle.draw_conditions.specs.Conditions.{absent, foreign, bare}

pub record Point : Type 0 where
  pub says : String
  pub text : List ℕ
  pub place : ℕ
  pub is : Condition

abbrev number : ℕ → Term
number n = term 0 n

abbrev field : ℕ → Term
field n = term a_field n

abbrev two : ℕ → Term → Term → ℕ → Condition
two form l r beyond = record { form = form; left = l; right = r; beyond = beyond }

-- an element from the first byte of a text on
abbrev whole : String → String → Condition → Point
whole s t c = record { says = s; text = bytes t; place = 0; is = c }

-- what stands between `<c>` and `</c>`, from the place 3 on
abbrev within : String → String → Condition → Point
within s t c = record { says = s; text = bytes "<c>" ++ bytes t ++ bytes "</c>"; place = 0; is = c }

abbrev strange : String → String → Point
strange s t = within s t (bare foreign)

-- d0=1
abbrev plain : Condition
plain = two equals (field 0) (number 1) 0

abbrev pub points : List Point
points =
    within "blank text is no condition" "" (bare absent) ∷
    within "nor are blanks, a CR among them, and comments" " \t\r\n<!--true-->" (bare absent) ∷
    whole "an empty tag" "<c/>" (bare absent) ∷
    whole "no tag" "true" (bare absent) ∷
    within "`true`" " true\n" (bare always) ∷
    within "`default`" "default" (bare default) ∷
    whole "with a prefix and attributes" "<b:c a='1'>true</b:c>" (bare always) ∷
    record { says = "in another element"; text = bytes "<a><c>true</c></a>"; place = 3; is = bare always } ∷
    strange "letter case included" "True" ∷
    strange "words are compared whole" "defaults" ∷
    strange "nothing behind them" "true 1" ∷
    within "two operands joined by `=`" "d0=1" plain ∷
    within "or by `<`" "\t4294967295 &lt; d15 " (two below (number 4294967295) (field 15) 0) ∷
    within "stores" "s0=s15" (two equals (field 16) (field 31) 0) ∷
    strange "no other sign" "d0>1" ∷
    strange "no sign" "d0 1" ∷
    strange "`==`" "d0==1" ∷
    strange "`<=`" "d0&lt;=1" ∷
    strange "`:=`" "d0:=1" ∷
    strange "one operand" "d0" ∷
    strange "no first one" "=1" ∷
    strange "no second one" "d0=" ∷
    strange "three" "d0=1=1" ∷
    strange "no leading zero" "d0=01" ∷
    strange "in a field neither" "d00=1" ∷
    strange "in a store neither" "s01=1" ∷
    strange "no letter case" "D0=1" ∷
    strange "no number" "d=1" ∷
    strange "no sign before it" "d0=-1" ∷
    strange "a word is the longest run" "d0=1_" ∷
    within "without ranges: `d16` at its first byte" "d16=1" (two equals nothing (number 1) 3) ∷
    within "`s16` too" "d0=s16" (two equals (field 0) nothing 6) ∷
    within "4,294,967,296" "d0 = 4294967296" (two equals (field 0) nothing 8) ∷
    within "65,536 is within" "d0 = 65536" (two equals (field 0) (number 65536) 0) ∷
    within "the leftmost" "d99=7000000000" (two equals nothing nothing 3) ∷
    within "a number of any length" "d0=11111111111111111111111111111111" (two equals (field 0) nothing 6) ∷
    strange "but in our notation first" "d16=7000000000 x" ∷
    strange "however long" "d0=1111111111111111111111111111111x" ∷
    within "references together with character data" "d&#48;=&#x31;" plain ∷
    within "CDATA too" "d<![CDATA[0]]>=1" plain ∷
    within "a section whole" "<![CDATA[d0<1]]>" (two below (field 0) (number 1) 0) ∷
    strange "no reference in it" "<![CDATA[d0&lt;1]]>" ∷
    within "an empty one" "d0<![CDATA[]]>=1" plain ∷
    strange "it goes up to the first `]]>`" "d0=<![CDATA[1]]]>" ∷
    within "comments left out" "d<!--1-->0=1<!-- -->" plain ∷
    within "instructions left out" "d0=<?a 1?>1" plain ∷
    within "a reference's `&`" "&#100;16=1" (two equals nothing (number 1) 3) ∷
    within "behind `<![CDATA[`" "<![CDATA[d16]]>=1" (two equals nothing (number 1) 12) ∷
    within "a CR is a line end" "d0\r=\r\n1" plain ∷
    strange "`&#13;` is not blank" "d0&#13;=1" ∷
    within "`&#9;`, `&#10;` and `&#32;` are" "d0&#9;=&#10;1&#32;" plain ∷
    strange "nothing above ASCII" "d0=1&#233;" ∷
    within "documentation in it is skipped whole: before the text" "<documentation>why</documentation>d0=1" plain ∷
    within "between its tokens" "d0 <documentation>= 2</documentation> = 1" plain ∷
    within "inside a word too, as a comment" "d<documentation/>0=1" plain ∷
    within "behind it" "d0=1 <documentation/>" plain ∷
    within "with a prefix" "<bpmn:documentation a='>'>=</bpmn:documentation>d0=1" plain ∷
    within "extensionElements, with markup inside" "<extensionElements><a:b c='1'>x<d/>&lt;<!--</a:b>--><![CDATA[</a:b>]]><?e </a:b>?></a:b></extensionElements>d0=1" plain ∷
    within "both" "d0=<documentation>a</documentation><extensionElements/>1" plain ∷
    within "one in the other" "<extensionElements><documentation>2</documentation></extensionElements>d0=1" plain ∷
    within "alone they are no condition" " <documentation>true</documentation> " (bare absent) ∷
    within "a place behind them" "<documentation/>d16=1" (two equals nothing (number 1) 19) ∷
    strange "letter case included, in names too" "<Documentation/>true" ∷
    strange "another element behind them" "<documentation/><a/>true" ∷
    strange "compared whole" "<documentations/>true" ∷
    strange "an element in it" "true<a/>" ∷
    strange "its text is not ours" "<a>true</a>" ∷
    strange "an element alone" "<a/>" ∷ []
