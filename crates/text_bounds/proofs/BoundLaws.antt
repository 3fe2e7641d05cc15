-- An item too many: 3 where it is one, else 2; too few items, and enough of them. Assumes nothing.
use Prim.Native.Nat.{ℕ, ◌<◌, ◌≤◌}
use mathlib.Core.Path.{◌≡◌}
use mathlib.Core.Bool.{Bool, true, false}
use mathlib.Core.List.{List}
use lib.ListN.{set}
use borrow.Author.Tests.{lt-ltb, le-ltb}
use Rattle.base_words.specs.Pick.{if◌then◌or_else◌}
use Rattle.text_lexer.specs.declared.Token.{Token}
use Rattle.text_lexer.specs.Lexer.{token_at}
use Rattle.text_readers.specs.Reading.{Refused, misplaced, excessive, passed_to, refused_at, place_of}
use Rattle.text_readers.proofs.KeepLaws.{stored}
use Rattle.text_readers.proofs.WordLaws.{place_known}
use Rattle.text_bounds.specs.Bounds.{one_too_many, counted}

module _ (token : Token) (text : List ℕ) (at : ℕ) (e : token ≡ token_at text at) where
  pub many_yes : (b : Bool) → b ≡ true → Refused excessive token.at ≡ one_too_many b (place_of text at)
  unfolding one_too_many if◌then◌or_else◌
  many_yes b h = rw (e, h)

  pub many_no : (b : Bool) → b ≡ false → Refused misplaced token.at ≡ one_too_many b (place_of text at)
  unfolding one_too_many if◌then◌or_else◌
  many_no b h = rw (e, h)

  pub too_few : (least count k : ℕ) (x : List ℕ) → k < least → refused_at misplaced token.at x ≡ counted least count k text at x
  unfolding counted if◌then◌or_else◌
  too_few least count k x h = rw (lt-ltb k least h) (place_known text at token e misplaced x)

pub enough : (least count k : ℕ) (text : List ℕ) (at : ℕ) (x y : List ℕ) → least ≤ k → y ≡ set x count k → passed_to at y ≡ counted least count k text at x
unfolding counted if◌then◌or_else◌
enough least count k text at x y h e = rw (le-ltb k least h) (stored at y (set x count k) e)
