-- The lines that are left of a log, by the reader's next move: for whoever goes through its events. Assumes nothing.
use Prim.Native.Nat.{ℕ, suc, ◌-◌, ◌≤◌, ◌<◌}
use mathlib.Core.Path.{◌≡◌, refl, ap, ◌∙◌}
use mathlib.Core.Bool.{Bool, true, false, not}
use mathlib.Core.List.{List, [], ◌∷◌}
use native.Mathlib.Omega.{arith}
use denote.Enum.Declared.{tag_of}
use Rattle.base_words.specs.Pick.{if◌then◌or_else◌}
use Rattle.base_words.specs.Words.{part}
use Rattle.base_words.proofs.PickLaws.{flag_yes, flag_no}
use Rattle.log_text.specs.declared.Cursor.{Cursor}
use Rattle.log_text.specs.declared.Move.{Move}
use Rattle.log_text.specs.declared.Move.TheVariants.{On, Done as AtEnd, Fault}
use Rattle.log_text.specs.contracts.Move.{the_type}
use Rattle.log_text.specs.Logs.{start, advance, by_move, closes_event, line_of, lines_in, lines_from, lines_of}

-- a move that is none to go on from
not_on : {A : Type 0} (m : Move) (f : Cursor → A) (x : A) → ((v : Cursor) → m ≡ On v → ⊥) → by_move m f (λ d. x) (λ q. x) ≡ x
unfolding by_move
not_on (On d) f x o = absurd (o d refl)
not_on (AtEnd d) f x o = refl
not_on (Fault q) f x o = refl

pub lines_end : (t : List ℕ) (c : Cursor) (left : ℕ) → left ≤ 0 → lines_in left t c ≡ []
unfolding lines_in
lines_end t c left h = let e : left ≡ 0 = omega (arith, h) in rw e

-- from the start on
module _ (t : List ℕ) (m : Move) (first : m ≡ start t) where
  pub lines_begin : (c : Cursor) → m ≡ On c → lines_from t c ≡ lines_of t
  unfolding lines_of by_move
  lines_begin c h = rw (← first, h)

  pub lines_unbegun : ((v : Cursor) → m ≡ On v → ⊥) → [] ≡ lines_of t
  unfolding lines_of
  lines_unbegun o = rw (← first, not_on m (lines_from t) [] o)

-- m is the reader's next move
module _ (t : List ℕ) (c : Cursor) (left : ℕ) (some : 0 < left) (m : Move) (next : m ≡ advance t c) where
  lines_by : lines_in left t c ≡ by_move m (λ d. if closes_event c.level d.level then line_of t d ∷ lines_in (left - 1) t d or_else lines_in (left - 1) t d) (λ d. []) (λ q. [])
  unfolding lines_in
  lines_by =
      let e : left ≡ suc (left - 1) = omega (arith, some) in
      ap (λ (n : ℕ). lines_in n t c) e ∙ rw (← next)

  pub lines_stop : ((v : Cursor) → m ≡ On v → ⊥) → lines_in left t c ≡ []
  lines_stop o = lines_by ∙ not_on m _ [] o

  module _ (d : Cursor) (on : m ≡ On d) (closed : Bool) (closes : closed ≡ closes_event c.level d.level) where
    pub lines_pass : not closed ≡ true → lines_in left t c ≡ lines_in (left - 1) t d
    unfolding by_move if◌then◌or_else◌
    lines_pass h = lines_by ∙ rw (on, flag_no closed (closes_event c.level d.level) closes h)

    pub lines_next : not closed ≡ false → (w : List ℕ) → w ≡ part t d.from d.to → lines_in left t c ≡ w ∷ lines_in (left - 1) t d
    unfolding by_move if◌then◌or_else◌ line_of
    lines_next h w here = lines_by ∙ rw (on, flag_yes closed (closes_event c.level d.level) closes h, here)
