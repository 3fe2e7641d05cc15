-- Documents around their root, and bytes decoded, tried at the boundary of each sentence: two tables.
use Rattle.std.specs.Prelude.{ℕ, List, [], ◌∷◌}
use Prim.Native.String.{String}
use Rattle.base_words.specs.Text.{bytes}
use Rattle.xml_document.specs.declared.Outside.{Outside}
use Rattle.xml_document.specs.declared.Outside.TheVariants.{Element, Nothing, Fault}
use Rattle.xml_document.specs.declared.decoding.Decoded.{Decoded}
use Rattle.xml_document.specs.Decoding.{decoded}

pub record Around : Type 0 where
  pub says : String
  pub text : List ℕ
  pub is : Outside

abbrev around : String → String → Outside → Around
around s t r = record { says = s; text = bytes t; is = r }

abbrev pub arounds : List Around
arounds =
    around "blanks, comments and instructions" "<?xml a?> \t\r\n<!--<a>--><?b?><a>" (Element 28) ∷
    around "nothing else: text, at its first byte" " a]]>" (Fault 1) ∷
    around "a reference" "&lt;<a>" (Fault 0) ∷
    around "a CDATA section, whatever follows" " <![CDATA[" (Fault 1) ∷
    around "an end tag, whatever follows" "</a =" (Fault 0) ∷
    around "a second declaration" "<?xml?><?xml?>" (Fault 7) ∷
    around "an opening cut off" " <!-" (Fault 4) ∷
    around "a reference cut off" "&l" (Fault 2) ∷
    around "no element" " <!----> " Nothing ∷ []

pub record Byte : Type 0 where
  pub of : String
  pub text : List ℕ
  pub gives : Decoded

abbrev byte : String → List ℕ → Decoded → Byte
byte s t r = record { of = s; text = t; gives = r }

abbrev pub decodings : List Byte
decodings =
    byte "a byte" (bytes "a") (decoded 97 1) ∷
    byte "a reference: the byte that it says" (bytes "&#x3C;b") (decoded 60 6) ∷
    byte "`&#13;` is not a line end" (bytes "&#13;") (decoded 13 5) ∷
    byte "above 127" (bytes "&#255;") (decoded 128 6) ∷
    byte "a CR is a line end" (bytes "\ra") (decoded 10 1) ∷
    byte "with the LF behind it" (bytes "\r\n") (decoded 10 2) ∷
    byte "the end" [] (decoded 0 0) ∷ []
