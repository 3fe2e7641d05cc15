-- A BEGINNING OF A TEXT: its first n bytes. The bytes, the parts and the runs in it are those of the text; a run goes no further than its end. Assumes nothing.
use mathlib.Core.Path.{◌≡◌, ◌∙◌, refl, sym, ap}
use mathlib.Core.Bool.{Bool, true, false}
use mathlib.Core.List.{List, [], ◌∷◌}
use Prim.Native.Nat.{ℕ, zero, suc, ◌+◌, ◌-◌, ◌<◌, ◌≤◌}
use native.Mathlib.Omega.{arith}
use lib.ListN.{length, take, drop, length-drop}
use lib.Seq.{get_or-take, take-take, take-add, drop_at, length-take-le}
use borrow.Author.Tests.{lt-ltb}
use Rattle.base_words.specs.Pick.{if◌then◌or_else◌}
use Rattle.base_words.specs.Words.{at, part}
use Rattle.base_bytes.specs.Bytes.{past}
use Rattle.base_bytes.proofs.PastLaws.{past_from, past_within}
use Rattle.base_bytes.proofs.PieceLaws.{by_order}
use Rattle.xml_markup.specs.declared.Class.{Class}
use Rattle.xml_markup.specs.Spans.{is_of, run, after}

none : (m : ℕ) (l : List ℕ) → m ≡ 0 → take m l ≡ []
none m l e = rw e

-- where a run ends, if it may go k bytes only
pub record Passed (x y e : ℕ) : Type 0 where
  pub same : x ≤ e → y ≡ x
  pub cut : e ≤ x → y ≡ e

passed : (f : ℕ → Bool) (s : List ℕ) (i k e : ℕ) → i + k ≡ e → k ≤ length s → Passed (past f s i) (past f (take k s) i) e
unfolding past
passed f s i zero e h l = record { same = λ q. omega (arith, q, h, past_from f s i); cut = λ q. omega (arith, h) }
passed f [] i (suc k) e h l = absurd (omega (arith, l))
passed f (b ∷ s) i (suc k) e h l = go (f b) (passed f s (i + 1) k e (omega arith) (omega arith))
  where
    go : (x : Bool) → Passed (past f s (i + 1)) (past f (take k s) (i + 1)) e → Passed (if x then past f s (i + 1) or_else i) (if x then past f (take k s) (i + 1) or_else i) e
    go true r = unfold if◌then◌or_else◌ in r
    go false r = unfold if◌then◌or_else◌ in record { same = λ q. refl; cut = λ q. absurd (omega (arith, q, h)) }

module _ (t : List ℕ) (n : ℕ) (inside : n ≤ length t) where
  pub long : length (take n t) ≡ n
  long = length-take-le n t inside

  pub byte : (i : ℕ) → i < n → at (take n t) i ≡ at t i
  byte i h = get_or-take n t i 0 h

  pub rest : (p : ℕ) → p ≤ n → drop p (take n t) ≡ take (n - p) (drop p t)
  rest p h =
      ap (λ (m : ℕ). drop p (take m t)) (let e : n ≡ p + (n - p) = omega arith in e)
      ∙ ap (drop p) (take-add p (n - p) t)
      ∙ drop_at (take p t) (take (n - p) (drop p t)) p (length-take-le p t (omega arith))

  pub piece : (a b : ℕ) → b ≤ n → part (take n t) a b ≡ part t a b
  piece a b h =
      by_order a b
      (λ l. ap (take (b - a)) (rest a (omega arith)) ∙ take-take (b - a) (n - a) (drop a t) (omega arith))
      (λ l. none (b - a) (drop a (take n t)) (omega arith) ∙ sym (none (b - a) (drop a t) (omega arith)))

  pub next_is : (i : ℕ) → i < length t → after t i ≡ i + 1
  unfolding after if◌then◌or_else◌
  next_is i h = rw (lt-ltb i (length t) h)

  pub next_in : (i : ℕ) → i < n → after (take n t) i ≡ i + 1
  unfolding after if◌then◌or_else◌
  next_in i h = rw (lt-ltb i (length (take n t)) (omega (arith, h, long)))

  pub ran : (c : Class) (p : ℕ) → p ≤ n → Passed (run c t p) (run c (take n t) p) n
  unfolding run
  ran c p h = rw (rest p h) (passed (is_of c) (drop p t) p (n - p) n (omega arith) (omega (arith, length-drop p t)))

  pub run_in : (c : Class) (p : ℕ) → p ≤ n → run c (take n t) p ≤ n
  unfolding run
  run_in c p h = omega (arith, past_within (is_of c) (drop p (take n t)) p, length-drop p (take n t), long)
