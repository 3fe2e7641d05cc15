-- THE PLACE OF A REFUSAL. "A place is the byte offset, from 0, of a token's first byte; the end's is the length." And what it is for another text to agree
-- with this one up to and including the token at a place.
use Rattle.std.specs.Prelude.{ℕ, zero, suc, ◌≤◌, ◌≡◌, List, length, take}
use Rattle.text_lexer.specs.declared.Form.TheVariants.{End}
use Rattle.text_lexer.specs.declared.Token.{Token}
use Rattle.text_lexer.specs.Lexer.{token_at}
use Rattle.std.specs.declared.result.Result.TheVariants.{Ok}
use Rattle.text_read.specs.Notation.{Got}
use Rattle.text_readers.specs.Reading.{Read, Refused}

-- u has at p the token that t has there, and the bytes of t up to that token's end; what is behind it is any
pub record Agree (t u : List ℕ) (p : ℕ) : Type 0 where
  pub token : token_at u p ≡ token_at t p
  pub bytes : take (token_at t p).next t ≡ take (token_at t p).next u

-- the place behind the first k tokens of a text; its k-th token, from 0, with the end behind the last
unfoldable pub behind_first : List ℕ → ℕ → ℕ
behind_first t zero = 0
behind_first t (suc k) = (token_at t (behind_first t k)).next

abbrev pub kth_token : List ℕ → ℕ → Token
kth_token t k = token_at t (behind_first t k)

-- p is the place of a token of the text, or of its end
pub record TokenPlace (t : List ℕ) (p : ℕ) : Type 0 where
  pub ordinal : ℕ
  pub token : token_at t p ≡ kth_token t ordinal
  pub first_byte : (token_at t p).at ≡ p
  pub within : p ≤ length t
  pub end : (token_at t p).form ≡ End → p ≡ length t

-- two texts are both read up to a token with the same ordinal, or both refused at one, with the same number; and the same was got of them
pub data EndAlike (t u : List ℕ) (r s : Read) : Type 0 where
  both_read : (k : ℕ) → r ≡ Ok (behind_first t k) → s ≡ Ok (behind_first u k) → EndAlike t u r s
  both_refused : (n k : ℕ) → r ≡ Refused n (kth_token t k).at → s ≡ Refused n (kth_token u k).at → EndAlike t u r s

pub record ReadAlike {A : Type 0} (t u : List ℕ) (a b : Got A) : Type 0 where
  pub value : a.value ≡ b.value
  pub end : EndAlike t u a.end b.end
