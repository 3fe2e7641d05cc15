-- NUMBERS OF AN ENTRY READ BACK: w is a line, whose bytes from p on are a number's, a mark and the rest. Assumes nothing.
use Prim.Native.Nat.{ℕ, ◌+◌, ◌-◌, ◌<◌, ◌≤◌}
use mathlib.Core.Path.{◌≡◌, ◌∙◌, refl, sym, ap, subst}
use mathlib.Core.Bool.{Bool, true, false, not, false≢true}
use mathlib.Core.List.{List, [], ◌∷◌, ◌++◌, append_assoc}
use native.Mathlib.Omega.{arith}
use lib.Dec.{eqb}
use lib.ListN.{length, length-append, length-drop, take, drop}
use lib.Seq.{take-append_seam, drop-append_seam, drop-drop}
use borrow.Author.Tests.{le-leb, lt-ltb, eq-eqb, eqb-true}
use Rattle.base_words.specs.Each.{each}
use Rattle.base_words.specs.Pick.{if◌then◌or_else◌}
use Rattle.base_words.specs.Words.{greatest}
use Rattle.base_words.proofs.AllLaws.{and_left, and_right}
use Rattle.base_words.proofs.PickLaws.{and_true}
use Rattle.text_lexer.specs.Lexer.{is_word}
use Rattle.base_bytes.specs.Bytes.{past}
use Rattle.base_bytes.proofs.PastLaws.{past_run, past_whole}
use Rattle.text_numerals.specs.declared.Number.TheVariants.{Value}
use Rattle.text_numerals.specs.Numerals.{number_of}
use Rattle.text_numerals.proofs.Spelled.{spelled_word, number_spelled}
use Rattle.write_decimals.specs.Decimals.{shown}
use Rattle.proof_roundtrip.proofs.NumberReads.{shown_spelled}
use Rattle.xml_markup.specs.declared.Class.TheVariants.{Value as NotByte}
use Rattle.xml_markup.specs.Spans.{is_of, run, after}
use Rattle.log_lines.specs.Entries.{number_most, number_up_to, is_small, value_in, number_before}

-- a byte of a word is no mark
apart : (b c : ℕ) → is_word c ≡ false → is_word b ≡ true → is_of (NotByte c) b ≡ true
unfolding is_of
apart b c m w = go (eqb b c) refl
  where
    go : (e : Bool) → eqb b c ≡ e → not e ≡ true
    go true e = absurd (false≢true (sym m ∙ subst (λ (x : ℕ). is_word x ≡ true) (eqb-true b c e) w))
    go false e = refl

each_apart : (c : ℕ) (w : List ℕ) → is_word c ≡ false → each is_word w ≡ true → each (is_of (NotByte c)) w ≡ true
unfolding each
each_apart c [] m h = refl
each_apart c (b ∷ w) m h = and_true _ _ (apart b c m (and_left (is_word b) (each is_word w) h)) (each_apart c w m (and_right (is_word b) (each is_word w) h))

-- THE NUMBER v at p
module _ (c : ℕ) (m : is_word c ≡ false) (w : List ℕ) (p v : ℕ) (small : v ≤ greatest) where
  word : each (is_of (NotByte c)) (shown v) ≡ true
  word = each_apart c (shown v) m (spelled_word (shown_spelled v small))

  stop : is_of (NotByte c) c ≡ false
  stop = unfold is_of in rw (eq-eqb c c refl)

  -- with the mark behind it
  pub run_marked : (rest : List ℕ) → drop p w ≡ shown v ++ c ∷ rest → run (NotByte c) w p ≡ p + length (shown v)
  unfolding run
  run_marked rest e = ap (λ (s : List ℕ). past (is_of (NotByte c)) s p) e ∙ past_run (is_of (NotByte c)) (shown v) (c ∷ rest) p word stop

  -- or the end
  pub run_last : drop p w ≡ shown v → run (NotByte c) w p ≡ p + length (shown v)
  unfolding run
  run_last e = ap (λ (s : List ℕ). past (is_of (NotByte c)) s p) e ∙ past_whole (is_of (NotByte c)) (shown v) p word

  pub piece : (rest : List ℕ) → drop p w ≡ shown v ++ rest → run (NotByte c) w p ≡ p + length (shown v) → number_up_to c w p ≡ Value v
  unfolding number_up_to
  piece rest e r =
      ap (λ (k : ℕ). number_of (take (k - p) (drop p w))) r
      ∙ (ap (λ (k : ℕ). number_of (take k (drop p w))) (let d : p + length (shown v) - p ≡ length (shown v) = omega arith in d)
      ∙ (ap (λ (s : List ℕ). number_of (take (length (shown v)) s)) e
      ∙ (ap number_of (take-append_seam (shown v) rest) ∙ number_spelled (shown_spelled v small) small)))

  -- the place behind the number is within the line where a mark stands there
  pub inside : (rest : List ℕ) → drop p w ≡ shown v ++ c ∷ rest → p + length (shown v) < length w
  inside rest e = omega (arith, ap length e, length-drop p w, length-append (shown v) (c ∷ rest), some)
    where
      some : 0 < length (c ∷ rest)
      some = omega arith

  -- THE LAW for a number with its mark
  pub number_read : v ≤ number_most → (rest : List ℕ) → drop p w ≡ shown v ++ c ∷ rest → number_before c w p ≡ record { right = true; value = v; next = p + length (shown v) + 1 }
  unfolding number_before is_small value_in after if◌then◌or_else◌
  number_read few rest e =
      rw (piece (c ∷ rest) e (run_marked rest e), run_marked rest e, le-leb v number_most few, lt-ltb (p + length (shown v)) (length w) (inside rest e)) refl

-- what stands behind a text and a mark
pub behind_mark : (a rest w : List ℕ) (c p : ℕ) → drop p w ≡ a ++ c ∷ rest → drop (p + length a + 1) w ≡ rest
behind_mark a rest w c p e =
    ap (λ (k : ℕ). drop k w) (let d : p + length a + 1 ≡ p + length (a ++ c ∷ []) = omega (arith, length-append a (c ∷ [])) in d)
    ∙ (sym (drop-drop (length (a ++ c ∷ [])) p w)
    ∙ (ap (drop (length (a ++ c ∷ []))) (e ∙ sym (append_assoc a (c ∷ []) rest)) ∙ drop-append_seam (a ++ c ∷ []) rest))
