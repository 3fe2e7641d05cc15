-- WHAT IS ASKED ONCE of all things, and not for each pair of them. t is the text, w the things drawn, n their count.
use Rattle.std.specs.Prelude.{ℕ, ◌<◌, ◌≤◌, ◌≡◌, Bool, true, false, not, ◌&&◌, List, eqb, Some}
use Rattle.base_words.specs.Blocks.{Bytes, Drawing}
use Rattle.base_words.specs.Pick.{if◌then◌or_else◌}
use Rattle.base_words.specs.Text.{bytes}
use Rattle.base_words.specs.Words.{part}
use Rattle.xml_markup.specs.Ahead.{key_of, key_at, Rising, Kept}
use Rattle.xml_markup.specs.Spans.{attribute}
use Rattle.draw_things.specs.Things.{place, source, participant}
use Rattle.draw_kinds.specs.Counting.{of_sort}
use Rattle.draw_faults.specs.Amiss.{has, is_read}

-- thing k is one that is read, and has the id v
abbrev pub IdIs : Bytes → Drawing → ℕ → Bytes → Type 0
IdIs t w k v = (from : ℕ) × (to : ℕ) × (is_read w k ≡ true) × (attribute t (place w k) (bytes "id") ≡ Some (from, to)) × (part t from to ≡ v)

-- the ids of the things from b up to k stand in order in the first m words of v, and no two are equal
pub record Shelved (t w : List ℕ) (b k : ℕ) (v : List ℕ) (m : ℕ) : Type 0 where
  pub rising : Rising (key_at t) v m
  pub kept : (x : ℕ) → b ≤ x → x < k → (u : List ℕ) → IdIs t w x u → Kept (key_at t) v m (key_of u)
  pub apart : (x y : ℕ) → b ≤ y → y < x → x < k → (u : List ℕ) → IdIs t w x u → IdIs t w y u → ⊥

-- a participant whose source does not say whether it is outside
unfoldable pub is_odd : Bytes → Drawing → ℕ → Bool
is_odd t w j = of_sort participant w j && (if has t (bytes "processRef") w j then eqb (source w j) 0 or_else not (eqb (source w j) 0))

abbrev pub Plain : Bytes → Drawing → ℕ → Type 0
Plain t w n = (j : ℕ) → j < n → is_odd t w j ≡ false
