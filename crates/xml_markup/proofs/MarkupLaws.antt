-- The place behind a markup is behind its start; no place, a fault's neither, is beyond the text. Assumes nothing.
use mathlib.Core.Path.{◌≡◌, refl}
use mathlib.Core.Bool.{Bool, true, false}
use mathlib.Core.List.{List, [], ◌∷◌}
use Prim.Native.Nat.{ℕ, suc, ◌+◌, ◌<◌, ◌≤◌}
use native.Mathlib.Omega.{arith}
use lib.ListN.{length, drop, length-drop}
use lib.Seq.{drop-cons}
use borrow.Author.Tests.{le-leb, lt-leb}
use Rattle.base_words.specs.Pick.{if◌then◌or_else◌}
use Rattle.base_words.specs.Words.{at}
use Rattle.base_bytes.proofs.PieceLaws.{by_order}
use Rattle.xml_characters.specs.Names.{is_control}
use Rattle.xml_scanner.specs.declared.Sort.{Sort}
use Rattle.xml_scanner.specs.declared.Sort.TheVariants.{StartTag, EmptyTag, EndTag, Text, Reference, Comment, Data, Instruction, End, Fault as AFault}
use Rattle.xml_markup.specs.declared.Scan.{Scan}
use Rattle.xml_markup.specs.declared.Scan.TheVariants.{On, Past, Fault}
use Rattle.xml_markup.specs.declared.Markup.{Markup}
use Rattle.xml_markup.specs.Tokens.{begun}
use Rattle.xml_markup.specs.Markup.{scan, closes_data, opens_markup, text_from, placed, markup}
use Rattle.xml_markup.proofs.ScanLaws.{Ended, ended_from}

-- what is neither the end nor a fault is behind its start
abbrev pub Ahead : Sort → ℕ → ℕ → Type 0
Ahead StartTag p q = p < q
Ahead EmptyTag p q = p < q
Ahead EndTag p q = p < q
Ahead Text p q = p < q
Ahead Reference p q = p < q
Ahead Comment p q = p < q
Ahead Data p q = p < q
Ahead Instruction p q = p < q
Ahead End p q = Unit {0}
Ahead AFault p q = Unit {0}

ahead : (s : Sort) (p q : ℕ) → p < q → Ahead s p q
ahead StartTag p q h = h
ahead EmptyTag p q h = h
ahead EndTag p q h = h
ahead Text p q h = h
ahead Reference p q h = h
ahead Comment p q h = h
ahead Data p q h = h
ahead Instruction p q h = h
ahead End p q h = tt
ahead AFault p q h = tt

abbrev Right : ℕ → ℕ → Markup → Type 0
Right p e m = Ahead m.sort p m.next × (m.next ≤ e)

placed_right : (p e : ℕ) (r : Scan) → Ended p e r → Right p e (placed r)
unfolding placed
placed_right p e (On c) h = absurd h
placed_right p e (Past s q) h = (ahead s p q h.0, h.1)
placed_right p e (Fault q) h = (tt, h)

-- character data: from i on it goes up to a place from i on
abbrev Up : ℕ → ℕ → Scan → Type 0
Up i e (On c) = ⊥
Up i e (Past s q) = (i ≤ q) × (q ≤ e)
Up i e (Fault q) = q ≤ e

up_on : (i e : ℕ) (r : Scan) → Up (i + 1) e r → Ended i e r
up_on i e (On c) h = h
up_on i e (Past s q) h = (omega (arith, h.0), h.1)
up_on i e (Fault q) h = h

up_from : (i e : ℕ) (r : Scan) → Ended i e r → Up i e r
up_from i e (On c) h = h
up_from i e (Past s q) h = (omega (arith, h.0), h.1)
up_from i e (Fault q) h = h

-- a byte that opens no markup
passed : (i e : ℕ) (a b : Bool) (r : Scan) → i ≤ e → Up (i + 1) e r → Ended i e (if a then Fault i or_else if b then Fault i or_else r)
unfolding if◌then◌or_else◌
passed i e true b r h k = h
passed i e false true r h k = h
passed i e false false r h k = up_on i e r k

text_up : (t s : List ℕ) (i : ℕ) → i + length s ≡ length t → Up i (length t) (text_from t s i)
unfolding text_from if◌then◌or_else◌
text_up t [] i h = (omega arith, omega arith)
text_up t (b ∷ s) i h = go (opens_markup (at t i)) (text_up t s (i + 1) (omega arith))
  where
    go : (o : Bool) → Up (i + 1) (length t) (text_from t s (i + 1)) → Up i (length t) (if o then Past Text i or_else if is_control (at t i) then Fault i or_else if closes_data t i then Fault i or_else text_from t s (i + 1))
    go true k = (omega arith, omega arith)
    go false k = up_from i (length t) (if is_control (at t i) then Fault i or_else if closes_data t i then Fault i or_else text_from t s (i + 1)) (passed i (length t) (is_control (at t i)) (closes_data t i) (text_from t s (i + 1)) (omega arith) k)

module _ (t : List ℕ) (p : ℕ) where
  text_ended : p < length t → opens_markup (at t p) ≡ false → Ended p (length t) (text_from t (drop p t) p)
  unfolding text_from if◌then◌or_else◌
  text_ended h o = rw (drop-cons t p 0 h, o) (passed p (length t) (is_control (at t p)) (closes_data t p) _ (omega arith) (text_up t (drop (suc p) t) (p + 1) (omega (arith, length-drop (suc p) t))))

  opened : p < length t → (o : Bool) → opens_markup (at t p) ≡ o → Right p (length t) (if o then placed (scan t p) or_else placed (text_from t (drop p t) p))
  unfolding scan if◌then◌or_else◌
  opened h true e = placed_right p (length t) (scan t p) (ended_from t p (drop p t) (begun p) p (omega arith) (omega (arith, length-drop p t)))
  opened h false e = placed_right p (length t) (text_from t (drop p t) p) (text_ended h e)

  right : Right p (length t) (markup t p)
  unfolding markup if◌then◌or_else◌
  right =
      by_order (length t) p
      (λ h. rw (le-leb (length t) p h) (tt, omega arith))
      (λ h. rw (lt-leb (length t) p h) (opened h (opens_markup (at t p)) refl))

  pub markup_ahead : Ahead (markup t p).sort p (markup t p).next
  markup_ahead = right.0

  pub markup_within : (markup t p).next ≤ length t
  markup_within = right.1
