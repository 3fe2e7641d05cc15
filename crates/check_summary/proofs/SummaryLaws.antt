-- A summary holds the counts of the checks, as far as a word of a tally counts. Assumes nothing.
use mathlib.Core.Path.{◌≡◌, refl}
use mathlib.Core.Bool.{Bool, true, false, not, ◌&&◌}
use mathlib.Core.List.{List}
use Prim.Native.Nat.{ℕ, ◌+◌, ◌≤◌, ◌<◌}
use native.Mathlib.Nat.{zero-add}
use native.Mathlib.Omega.{arith}
use lib.Dec.{eqb}
use lib.ListN.{get_or}
use Rattle.base_words.specs.Counts.{edges, tasks, names}
use Rattle.base_words.specs.Each.{total}
use Rattle.base_words.specs.Sum.{sum, hit, one_if}
use Rattle.base_words.specs.Words.{at}
use Rattle.base_words.proofs.SumLaws.{sum_ext}
use Rattle.base_kinds.specs.Kinds.{start, start_rcv}
use Rattle.base_table.specs.Table.{kind_in, task_in, entry_at, message_name}
use Rattle.check_tally.specs.Tally.{no_region, one_region, apart, capped}
use Rattle.check_tally.proofs.TallyLaws.{hit_iff}
use Rattle.check_tally.proofs.RegionLaws.{sum_one, tallied-at}
use Rattle.check_occurrences.specs.Occurrences.{as_exit, as_entry, as_first, as_task, of_kind, as_received, received_count, as_sent, sent_count, default_once, bound_once}
use Rattle.check_summary.specs.Summary.{exits_from, entries_from, firsts_from, tasks_from, starts_from, received_from, sent_from, defaults_from, binds_from, summary_words, edge_region, name_region, first_count, edge_regions, head_regions, name_regions, flag_regions, regions, summary}

regions_apart : (el : List ℕ) → apart 0 (regions el) ≡ true
unfolding apart regions edge_regions head_regions name_regions flag_regions edge_region name_region one_region
regions_apart el = refl

-- region i of a summary
module _ (i from most e : ℕ) (g : List ℕ → ℕ) where
  summary-at : ((el : List ℕ) → (get_or (regions el) i no_region).from ≡ from) → ((el : List ℕ) → (get_or (regions el) i no_region).most ≡ most) →
      0 < e → e ≤ most → from + e < summary_words →
      ((el : List ℕ) → sum (λ j. hit ((get_or (regions el) i no_region).number j) e) (get_or (regions el) i no_region).many ≡ g el) →
      (els : List (List ℕ)) → at (summary els) (from + e) ≡ capped (total g els)
  unfolding summary
  summary-at f m h l z q els = tallied-at summary_words regions i from e g regions_apart f h (λ el. rw (m el) l) z q els

-- an edge e
module _ (e : ℕ) (h : 0 < e) (l : e ≤ edges) where
  pub exits_at : (els : List (List ℕ)) → at (summary els) (exits_from + e) ≡ capped (total (as_exit e) els)
  unfolding regions edge_regions edge_region as_exit
  exits_at = summary-at 0 exits_from edges e (as_exit e) (λ el. refl) (λ el. refl) h l (omega arith) (λ el. refl)

  pub entries_at : (els : List (List ℕ)) → at (summary els) (entries_from + e) ≡ capped (total (as_entry e) els)
  unfolding regions edge_regions edge_region as_entry
  entries_at = summary-at 1 entries_from edges e (as_entry e) (λ el. refl) (λ el. refl) h l (omega arith) (λ el. refl)

  first_is : (t : Bool) (f : ℕ → ℕ) → sum (λ j. hit (f j) e) (one_if t) ≡ one_if (t && eqb (f 0) e)
  unfolding sum
  first_is true f = zero-add (hit (f 0) e)
  first_is false f = refl

  pub firsts_at : (els : List (List ℕ)) → at (summary els) (firsts_from + e) ≡ capped (total (as_first e) els)
  unfolding regions edge_regions edge_region as_first first_count
  firsts_at =
      summary-at 2 firsts_from edges e (as_first e) (λ el. refl) (λ el. refl) h l (omega arith)
      (λ el. first_is (eqb (kind_in el) start) (λ j. entry_at el j))

-- a task number n, and a kind k of `start` and `startRcv`
pub tasks-at : (n : ℕ) → 0 < n → n ≤ tasks → (els : List (List ℕ)) → at (summary els) (tasks_from + n) ≡ capped (total (as_task n) els)
unfolding regions edge_regions head_regions one_region as_task
tasks-at n h l = summary-at 3 tasks_from tasks n (as_task n) (λ el. refl) (λ el. refl) h l (omega arith) (λ el. sum_one (task_in el) n)

pub starts_at : (k : ℕ) → 0 < k → k ≤ start_rcv → (els : List (List ℕ)) → at (summary els) (starts_from + k) ≡ capped (total (of_kind k) els)
unfolding regions edge_regions head_regions one_region of_kind
starts_at k h l = summary-at 4 starts_from start_rcv k (of_kind k) (λ el. refl) (λ el. refl) h l (omega arith) (λ el. sum_one (kind_in el) k)

-- a name m
module _ (m : ℕ) (l : m < names) where
  named : (el : List ℕ) (n : ℕ) → sum (λ j. hit (message_name el j + 1) (m + 1)) n ≡ sum (λ j. hit (message_name el j) m) n
  named el n = sum_ext _ _ n (λ j q. hit_iff (message_name el j + 1) (m + 1) (message_name el j) m (λ w. omega arith) (λ w. omega arith))

  pub received_at : (els : List (List ℕ)) → at (summary els) (received_from + (m + 1)) ≡ capped (total (as_received m) els)
  unfolding regions edge_regions head_regions name_regions name_region as_received
  received_at = summary-at 5 received_from names (m + 1) (as_received m) (λ el. refl) (λ el. refl) (omega arith) (omega arith) (omega arith) (λ el. named el (received_count el))

  pub sent_at : (els : List (List ℕ)) → at (summary els) (sent_from + (m + 1)) ≡ capped (total (as_sent m) els)
  unfolding regions edge_regions head_regions name_regions name_region as_sent
  sent_at = summary-at 6 sent_from names (m + 1) (as_sent m) (λ el. refl) (λ el. refl) (omega arith) (omega arith) (omega arith) (λ el. named el (sent_count el))

-- what an element breaks by itself
flag : (t : Bool) → sum (λ j. hit (one_if (not t)) 1) 1 ≡ one_if (not t)
unfolding sum
flag true = refl
flag false = refl

pub defaults_at : (els : List (List ℕ)) → at (summary els) (defaults_from + 1) ≡ capped (total (λ el. one_if (not (default_once el))) els)
unfolding regions edge_regions head_regions name_regions flag_regions one_region
defaults_at =
    summary-at 7 defaults_from 1 1 (λ el. one_if (not (default_once el))) (λ el. refl) (λ el. refl) (omega arith) (omega arith) (omega arith)
    (λ el. flag (default_once el))

pub binds_at : (els : List (List ℕ)) → at (summary els) (binds_from + 1) ≡ capped (total (λ el. one_if (not (bound_once el))) els)
unfolding regions edge_regions head_regions name_regions flag_regions one_region
binds_at =
    summary-at 8 binds_from 1 1 (λ el. one_if (not (bound_once el))) (λ el. refl) (λ el. refl) (omega arith) (omega arith) (omega arith)
    (λ el. flag (bound_once el))
