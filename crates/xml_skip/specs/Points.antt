-- Elements skipped, tried at the boundary of each sentence: one table. A row says what is tried, and names a text that begins with an element, and what skipping it gives.
use Rattle.xml_skip.specs.Skipping.{Reached, fault_at}
use Rattle.std.specs.Prelude.{ℕ, zero, suc, List, [], ◌∷◌, ◌++◌, Ok}
use Prim.Native.String.{String}
use Rattle.base_words.specs.Text.{bytes}

pub record Point : Type 0 where
  pub says : String
  pub text : List ℕ
  pub is : Reached

abbrev point : String → List ℕ → Reached → Point
point s t r = record { says = s; text = t; is = r }

-- a text n times
unfoldable pub times : ℕ → List ℕ → List ℕ
times zero w = []
times (suc n) w = w ++ times n w

-- sixteen elements deep, with this inside
abbrev sixteen : String → List ℕ
sixteen inside = times 16 (bytes "<a>") ++ (bytes inside ++ times 16 (bytes "</a>"))

abbrev pub points : List Point
points =
    point "an empty element" (bytes "<a b='>'/><c/>") (Ok 10) ∷
    point "whatever stands in it" (bytes "<a>x<b/>&lt;<!--</a>--><![CDATA[</a>]]><?b </a>?></a >y") (Ok 54) ∷
    point "16 deep" (sixteen "") (Ok 112) ∷
    point "the 17th: at its `<`" (sixteen "<a></a>") (fault_at 48) ∷
    point "an empty tag too" (sixteen "<a/>") (fault_at 48) ∷
    point "whatever follows its name" (sixteen "<a =") (fault_at 48) ∷
    point "an end tag with another name: at the `<`" (bytes "<a><b></a></b>") (fault_at 6) ∷
    point "byte for byte, with prefix" (bytes "<a:b></b>") (fault_at 5) ∷
    point "whatever follows it" (bytes "<a></b =") (fault_at 3) ∷
    point "a longer name" (bytes "<a></ab>") (fault_at 3) ∷
    point "cut off: the end" (bytes "<a></ab") (fault_at 7) ∷
    point "cut off at the 17th" (times 16 (bytes "<a>") ++ bytes "<a") (fault_at 50) ∷
    point "no end tag" (bytes "<a><b></b>") (fault_at 10) ∷
    point "a fault inside" (bytes "<a><b>]]></b></a>") (fault_at 6) ∷ []
