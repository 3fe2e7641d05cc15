-- READING TWICE. Both passes go over a text in the same way, and so they end alike. They differ in what they keep: the first marks elements and pools in
-- tallies, from which the model checks are answered, and notes behind them whether there is room for what endSnds become; the second stores them in a table of zeros.
use Rattle.std.specs.Prelude.{ℕ, zero, suc, ◌+◌, ◌≡◌, Bool, true, false, List, [], ◌∷◌, set, take, replicate}
use Rattle.base_words.specs.Blocks.{Block, Table, Element, Tally}
use Rattle.base_words.specs.Pick.{if◌then◌or_else◌}
use Rattle.base_words.specs.Words.{at}
use Rattle.base_words.specs.Writes.{writes}
use Rattle.base_table.specs.Places.{element_words, pools_place, pool_place, limit_place, elements_place, element_place}
use Rattle.check_tally.specs.Tally.{tally, marks_of}
use Rattle.check_summary.specs.Summary.{regions, summary_words}
use Rattle.check_model.specs.Checks.{Pool}
use Rattle.check_verdict.specs.Verdict.{summary_regions}
use Rattle.text_ends.specs.Room.{noted_words, element_noted, room_noted}
use Rattle.std.specs.declared.result.Result.TheVariants.{Ok}
use Rattle.text_passes.specs.Model.{Got}
use Rattle.text_readers.specs.Reading.{Read}

-- element n of pool i, stored in a table t, and counted
abbrev pub stored_as : ℕ → ℕ → ℕ → Element → Table → Table
stored_as i n count x t = set (writes (λ j. at x j) t (element_place i n) element_words) (elements_place i) count

unfoldable pub stored : ℕ → ℕ → Element → Table → Table
stored i n x t = stored_as i n (n + 1) x t

-- an element, the count-th, in the summary s of its pool and in the notes behind it
unfoldable pub summed_up : ℕ → Element → Tally → Tally
summed_up count x s = element_noted count x (tally s (marks_of (regions x)))

unfoldable pub kept_element : Bool → ℕ → ℕ → Element → Block → Block
kept_element fills i n x w = if fills then stored i n x w or_else summed_up (n + 1) x w

-- things one after the other, from thing n on
unfoldable pub kept_all : {A : Type 0} → (ℕ → A → List ℕ → List ℕ) → ℕ → List A → List ℕ → Block
kept_all keep n [] w = w
kept_all keep n (x ∷ xs) w = kept_all keep (n + 1) xs (keep n x w)

-- the elements of pool i: marked in its summary s, or stored in the table w
unfoldable pub summed : Bool → ℕ → List Element → Tally → Tally
summed fills i els s = if fills then s or_else kept_all (kept_element fills i) 0 els s

unfoldable pub elements_placed : Bool → ℕ → List Element → Block → Block
elements_placed fills i els w = if fills then kept_all (kept_element fills i) 0 els w or_else w

-- pool i behind its elements: its number, its limit, and the count of pools, stored; or marked with its summary s
abbrev pub headed_as : ℕ → ℕ → ℕ → ℕ → Table → Table
headed_as i count number limit t = set (set (set t (pool_place i) number) (limit_place i) limit) pools_place count

unfoldable pub headed : ℕ → ℕ → ℕ → Table → Table
headed i number limit t = headed_as i (i + 1) number limit t

unfoldable pub pool_judged : ℕ → ℕ → Tally → Block → Block
pool_judged number limit s w = room_noted s (tally w (marks_of (summary_regions number limit (take summary_words s))))

unfoldable pub kept_head : Bool → ℕ → ℕ → ℕ → Tally → Block → Block
kept_head fills i number limit s w = if fills then headed i number limit w or_else pool_judged number limit s w

unfoldable pub kept_pool : Bool → ℕ → Pool → Block → Block
kept_pool fills i p w = kept_head fills i p.number p.limit (summed fills i p.elements (replicate noted_words 0)) (elements_placed fills i p.elements w)

-- WHAT A PASS PROMISES of reading g, where it ended at r and left v in the words w: where it ended; and what was kept, where it was not refused
pub record Passed {A : Type 0} (keep : A → List ℕ → List ℕ) (g : Got A) (w : List ℕ) (r : Read) (v : List ℕ) : Type 0 where
  pub ended : r ≡ g.end
  pub left : (q : ℕ) → r ≡ Ok q → v ≡ keep g.value w
