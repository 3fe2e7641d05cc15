-- THE OPENING OF A CDATA SECTION that is cut off by the end of the text: the markup there is a fault at the end; and no name stands there. Assumes nothing.
use mathlib.Core.Path.{◌≡◌, ◌∙◌, refl, sym, ap}
use mathlib.Core.Bool.{true, false}
use mathlib.Core.List.{List}
use Prim.Native.Nat.{ℕ, zero, suc, ◌+◌, ◌-◌, ◌<◌, ◌≤◌}
use native.Mathlib.Omega.{arith}
use lib.ListN.{length, take, drop}
use lib.Seq.{get_or-take, get_or-drop}
use Rattle.base_words.specs.Pick.{if◌then◌or_else◌}
use Rattle.base_words.specs.Text.{bytes}
use Rattle.base_words.specs.Words.{at, part}
use Rattle.base_bytes.specs.Bytes.{is_letter, is_digit, between}
use Rattle.base_bytes.proofs.PastLaws.{past_stop}
use Rattle.xml_characters.specs.Names.{is_control, is_name, begins_name}
use Rattle.xml_scanner.specs.declared.InOpening.TheVariants.{Less, Bang, Bracket}
use Rattle.xml_scanner.specs.declared.State.{State}
use Rattle.xml_scanner.specs.declared.State.TheVariants.{Begin, Opening}
use Rattle.xml_scanner.specs.declared.Move.TheVariants.{On as Onward}
use Rattle.xml_scanner.specs.declared.Sort.TheVariants.{Fault as AFault}
use Rattle.xml_scanner.specs.Moves.{step, at_begin}
use Rattle.xml_scanner.specs.Openings.{in_opening, behind_less, behind_bracket}
use Rattle.xml_markup.specs.declared.Class.TheVariants.{Name as NameBytes}
use Rattle.xml_markup.specs.declared.Scan.TheVariants.{Fault}
use Rattle.xml_markup.specs.declared.Whole.TheVariants.{Nothing}
use Rattle.xml_markup.specs.Tokens.{whole}
use Rattle.xml_markup.specs.Markup.{begins_at, scan_from, scan, opens_markup, marked, placed, markup}
use Rattle.xml_markup.specs.Spans.{is_of, run, has_second, name_from, name_at}
use Rattle.xml_document.specs.Document.{opens_data}
use Rattle.proof_local.proofs.Beginnings.{long, byte, next_is}
use Rattle.proof_local.proofs.Texts.{same_true}
use Rattle.proof_local.proofs.Markups.{opened_in}
use Rattle.proof_local.proofs.BrokenNames.{here, goes, at_end}

abbrev word : List ℕ
word = bytes "<![CDATA["

-- its bytes
pub data_byte : (t : List ℕ) (p j : ℕ) → p + j < length t → j < 9 → opens_data t p ≡ true → at t (p + j) ≡ at word j
unfolding opens_data begins_at
data_byte t p j h l e =
    sym (get_or-drop p t j 0)
    ∙ sym (get_or-take (length t - p) (drop p t) j 0 (omega arith))
    ∙ sym (get_or-take 9 (take (length t - p) (drop p t)) j 0 l)
    ∙ ap (λ (w : List ℕ). at w j) (same_true (part (part t p (length t)) 0 9) word e)

-- the state behind j of them
abbrev state : ℕ → State
state zero = Begin
state (suc zero) = Opening Less
state (suc (suc zero)) = Opening Bang
state (suc (suc (suc k))) = Opening (Bracket (suc k))

record Steps (j : ℕ) : Type 0 where
  moves : step (state j) (at word j) ≡ Onward (state (j + 1))
  plain : is_control (at word j) ≡ false
  nothing : whole (state j) (at word j) ≡ Nothing

steps : (j : ℕ) → j < 8 → Steps j
unfolding step at_begin in_opening behind_less behind_bracket is_control whole if◌then◌or_else◌
steps zero h = record { moves = refl; plain = refl; nothing = refl }
steps (suc zero) h = record { moves = refl; plain = refl; nothing = refl }
steps (suc (suc zero)) h = record { moves = refl; plain = refl; nothing = refl }
steps (suc (suc (suc zero))) h = record { moves = refl; plain = refl; nothing = refl }
steps (suc (suc (suc (suc zero)))) h = record { moves = refl; plain = refl; nothing = refl }
steps (suc (suc (suc (suc (suc zero))))) h = record { moves = refl; plain = refl; nothing = refl }
steps (suc (suc (suc (suc (suc (suc zero)))))) h = record { moves = refl; plain = refl; nothing = refl }
steps (suc (suc (suc (suc (suc (suc (suc zero))))))) h = record { moves = refl; plain = refl; nothing = refl }
steps (suc (suc (suc (suc (suc (suc (suc (suc k)))))))) h = absurd (omega (arith, h))

module _ (t : List ℕ) (n : ℕ) (inside : n ≤ length t) (p : ℕ) (h : p < n) (opened : opens_data t p ≡ true) where
  letter : (j : ℕ) → p + j < n → j < 9 → at (take n t) (p + j) ≡ at word j
  letter j k l = byte t n inside (p + j) k ∙ data_byte t p j (omega arith) l opened

  read_on : n < p + 9 → (k j : ℕ) → p + j + k ≡ n → scan_from (take n t) p (here (state j) p) (drop (p + j) (take n t)) (p + j) ≡ Fault n
  read_on c zero j e = at_end (take n t) p p (state j) (p + j) (omega (arith, e, long t n inside)) ∙ ap Fault (long t n inside)
  read_on c (suc k) j e =
      goes (take n t) p p (p + j) (state j) (state (j + 1)) (omega (arith, e, long t n inside)) (rw (letter j (omega arith) (omega arith)) s.nothing) (rw (letter j (omega arith) (omega arith)) s.plain) (rw (letter j (omega arith) (omega arith)) s.moves)
      ∙ ap (λ (i : ℕ). scan_from (take n t) p (here (state (j + 1)) p) (drop i (take n t)) i) (let z : p + j + 1 ≡ p + (j + 1) = omega arith in z)
      ∙ read_on c k (j + 1) (omega arith)
    where
      s : Steps j
      s = steps j (omega arith)

  less : at t p ≡ 60
  less = ap (at t) (let z : p ≡ p + 0 = omega arith in z) ∙ data_byte t p 0 (omega arith) (omega arith) opened

  -- THE LAW
  broken_scan : n < p + 9 → scan (take n t) p ≡ Fault n
  unfolding scan
  broken_scan c = ap (λ (i : ℕ). scan_from (take n t) p (here Begin p) (drop i (take n t)) i) (let z : p ≡ p + 0 = omega arith in z) ∙ read_on c (n - p) 0 (omega arith)

  pub broken_data : n < p + 9 → markup (take n t) p ≡ marked AFault n
  unfolding placed
  broken_data c = opened_in t n inside p h (unfold opens_markup in rw less refl) ∙ ap placed (broken_scan c)

  -- no name behind the `<`
  bang : p + 1 < n → at t (p + 1) ≡ 33
  bang k = data_byte t p 1 (omega arith) (omega arith) opened

  pub no_name : p + 1 < n → (name_at t p).to ≡ p + 1
  unfolding name_at name_from run is_of is_name begins_name is_letter is_digit between has_second if◌then◌or_else◌
  no_name k = rw (next_is t n inside p (omega arith), bang k) (past_stop (is_of NameBytes) t (p + 1) (omega arith) (rw (bang k) refl))
