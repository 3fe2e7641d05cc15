-- THE NESTED PROFILE: "one start or startRcv, one end, no terminate, no cycle, and between them elements in sequence or blocks. A block is andSplit closed by
-- andJoin, or xorSplit or eventBased closed by xorJoin, each branch, empty or not, entering exactly its own block's join." P k is the words of element k of a
-- pool, c how many it has. (RULES: nested)
use Rattle.std.specs.Prelude.{ℕ, ◌<◌, ◌≡◌, Bool, true, ◌&&◌, ◌||◌, List, [], ◌∷◌, ◌++◌, eqb}
use Rattle.base_words.specs.Blocks.{Element}
use Rattle.base_words.specs.Each.{total, tab}
use Rattle.base_words.specs.Sum.{hit}
use Rattle.base_kinds.specs.Kinds.{start, start_rcv, end, inter_rcv, inter_snd, event_based, and_split, and_join, xor_join, xor_split, task, task_rcv, task_snd}
use Rattle.base_table.specs.Table.{kind_in, entry_count, exit_count, entry_at, exit_at}

-- "one start or startRcv"; an element of a sequence; "andSplit closed by andJoin, or xorSplit or eventBased closed by xorJoin" (RULES: nested)
unfoldable pub starts : Element → Bool
starts el = eqb (kind_in el) start || eqb (kind_in el) start_rcv

unfoldable pub passes : Element → Bool
passes el = eqb (kind_in el) inter_rcv || (eqb (kind_in el) inter_snd || (eqb (kind_in el) task || (eqb (kind_in el) task_rcv || eqb (kind_in el) task_snd)))

unfoldable pub closes_all : Element → Element → Bool
closes_all el join = eqb (kind_in el) and_split && eqb (kind_in join) and_join

unfoldable pub closes_one : Element → Element → Bool
closes_one el join = (eqb (kind_in el) xor_split || eqb (kind_in el) event_based) && eqb (kind_in join) xor_join

unfoldable pub closes : Element → Element → Bool
closes el join = closes_all el join || closes_one el join

abbrev pub exits_of : Element → List ℕ
exits_of el = tab (exit_at el) (exit_count el)

abbrev pub entries_of : Element → List ℕ
entries_of el = tab (entry_at el) (entry_count el)

-- how often a number stands in a list; the same numbers, each as often
abbrev pub occ : List ℕ → ℕ → ℕ
occ xs f = total (hit f) xs

abbrev pub Rearranged : List ℕ → List ℕ → Type 0
Rearranged xs ys = (f : ℕ) → occ xs f ≡ occ ys f

-- RUNS xs ys ks: side by side, a sequence from each of the edges xs to the edge of ys at the same place; ks are the elements on the way, all of them. A sequence
-- from a to b is nothing, where a is b; or an element with entry a, and a sequence from its exit to b; or a block: a split with entry a, a sequence from each of
-- its exits to an entry of a join that closes it, each entry reached once, and a sequence from the join's exit to b.
pub data Runs (P : ℕ → List ℕ) (c : ℕ) : List ℕ → List ℕ → List ℕ → Type 0 where
  none : Runs P c [] [] []
  stays : {a : ℕ} {xs ys ks : List ℕ} → Runs P c xs ys ks → Runs P c (a ∷ xs) (a ∷ ys) ks
  passing : {a b : ℕ} {xs ys ks : List ℕ} (k : ℕ) → k < c → passes (P k) ≡ true → entry_at (P k) 0 ≡ a
      → Runs P c (exit_at (P k) 0 ∷ xs) (b ∷ ys) ks → Runs P c (a ∷ xs) (b ∷ ys) (k ∷ ks)
  block : {a b : ℕ} {xs ys ks es is : List ℕ} (k j : ℕ) → k < c → j < c → closes (P k) (P j) ≡ true → entry_at (P k) 0 ≡ a
      → Runs P c (exits_of (P k)) es is → Rearranged es (entries_of (P j))
      → Runs P c (exit_at (P j) 0 ∷ xs) (b ∷ ys) ks → Runs P c (a ∷ xs) (b ∷ ys) (k ∷ j ∷ (is ++ ks))

-- A NESTED POOL: its start, its end, a sequence from the exit of the one to the entry of the other, and no element left over: each stands there once
pub record Nested (P : ℕ → List ℕ) (c : ℕ) : Type 0 where
  pub first : ℕ
  pub last : ℕ
  pub between : List ℕ
  pub first_there : first < c
  pub last_there : last < c
  pub first-starts : starts (P first) ≡ true
  pub last_ends : kind_in (P last) ≡ end
  pub runs : Runs P c (exit_at (P first) 0 ∷ []) (entry_at (P last) 0 ∷ []) between
  pub once : (k : ℕ) → k < c → occ (first ∷ last ∷ between) k ≡ 1
