-- Places marked one after the other. Assumes nothing.
use mathlib.Core.Path.{◌≡◌, ◌∙◌, refl, sym, ap}
use mathlib.Core.Bool.{Bool, true, false}
use mathlib.Core.List.{List, [], ◌∷◌, ◌++◌}
use Prim.Native.Nat.{ℕ, ◌+◌, ◌≤◌, ◌<◌}
use native.Mathlib.Nat.{le_antisymm}
use lib.Dec.{eqb}
use lib.ListN.{set}
use Rattle.base_words.specs.Each.{tab}
use Rattle.base_words.specs.Words.{at}
use Rattle.base_words.proofs.AllLaws.{le_leb_by, lt_leb_by}
use Rattle.base_words.proofs.EachLaws.{tab_more}
use Rattle.base_words.proofs.PickLaws.{pick_yes, pick_no, flag_is}
use Rattle.base_kinds.specs.Kinds.{kind_of}
use Rattle.base_kinds.specs.Moves.{a}
use Rattle.base_table.specs.Places.{edge_place}
use Rattle.base_table.specs.Table.{kind_in, task_in, mode_in, entry_count, exit_count, entry_at, exit_at}
use Rattle.base_state.specs.Places.{token_place, active_place, ready_place}
use Rattle.state_fits.specs.Fits.{count_places, places_of, all_marked}

pub marked_append : (w : List ℕ) (xs ys : List ℕ) → all_marked w (xs ++ ys) ≡ all_marked (all_marked w xs) ys
unfolding all_marked
marked_append w [] ys = refl
marked_append w (x ∷ xs) ys = marked_append (set w x 1) xs ys

-- THE EDGES of a list: w₀ before the loop, w in it, u after a turn
module _ (w₀ el : List ℕ) (list : ℕ) where
  abbrev pub Edged : ℕ → List ℕ
  Edged n = all_marked w₀ (tab (λ j. token_place (at el (edge_place list j))) n)

  pub edged_none : w₀ ≡ Edged 0
  unfolding all_marked tab
  edged_none = refl

  pub edged_more : (n e : ℕ) (w u : List ℕ) → w ≡ Edged n → e ≡ at el (edge_place list n) → u ≡ set w (token_place e) 1 → u ≡ Edged (n + 1)
  unfolding all_marked
  edged_more n e w u p q h =
      h ∙ rw (p, q) (sym (ap (all_marked w₀) (tab_more (λ j. token_place (at el (edge_place list j))) n) ∙ marked_append w₀ (tab (λ j. token_place (at el (edge_place list j))) n) (token_place (at el (edge_place list n)) ∷ [])))

  pub edged_done : (n i : ℕ) (w : List ℕ) → n ≤ i → i ≤ n → w ≡ Edged i → w ≡ Edged n
  edged_done n i w h k e = rw (le_antisymm h k) e

-- two cells of the table of kinds, by an element's kind
pub silent_is : (el : List ℕ) (k r s : ℕ) → k ≡ kind_in el → r ≡ (kind_of k).receives → s ≡ (kind_of k).sends → eqb (r + s) 0 ≡ eqb ((kind_of (kind_in el)).receives + (kind_of (kind_in el)).sends) 0
silent_is el k r s is e f = rw (e, f, is)

-- THE COUNTS of an element: r its mode, n its task, b whether it neither receives nor sends; v and x after a mark each
module _ (w el : List ℕ) where
  pub counts_none : (r : ℕ) → r ≡ mode_in el → r ≤ a → w ≡ all_marked w (count_places el)
  unfolding all_marked count_places
  counts_none r e h = ap (all_marked w) (pick_yes _ [] [] _ (le_leb_by r _ a e h) refl)

  module _ (r : ℕ) (e : r ≡ mode_in el) (h : a < r) (n : ℕ) (task : n ≡ task_in el) (v : List ℕ) (one : v ≡ set w (active_place n) 1) (b : Bool) (silent : b ≡ eqb ((kind_of (kind_in el)).receives + (kind_of (kind_in el)).sends) 0) where
    pub counts_active : b ≡ true → v ≡ all_marked w (count_places el)
    unfolding all_marked count_places
    counts_active s =
        one ∙ rw task (ap (all_marked w) (pick_no _ (active_place (task_in el) ∷ []) [] _ (lt_leb_by r _ a e h) (pick_yes _ _ (active_place (task_in el) ∷ []) _ (flag_is b _ true silent s) refl)))

    pub counts_both : b ≡ false → (k : ℕ) → k ≡ task_in el → (x : List ℕ) → x ≡ set v (ready_place k) 1 → x ≡ all_marked w (count_places el)
    unfolding all_marked count_places
    counts_both s k same x two =
        two ∙ rw (one, task, same)
        (ap (all_marked w)
        (pick_no _ (active_place (task_in el) ∷ ready_place (task_in el) ∷ []) [] _ (lt_leb_by r _ a e h)
        (pick_no _ _ (active_place (task_in el) ∷ []) (active_place (task_in el) ∷ ready_place (task_in el) ∷ []) (flag_is b _ false silent s) refl)))

-- AN ELEMENT: its entries, its exits, its counts
pub element_marked : (w el u v x : List ℕ) → u ≡ all_marked w (tab (λ j. token_place (entry_at el j)) (entry_count el)) → v ≡ all_marked u (tab (λ j. token_place (exit_at el j)) (exit_count el)) → x ≡ all_marked v (count_places el) → x ≡ all_marked w (places_of el)
unfolding places_of
element_marked w el u v x p q h = h ∙ rw (q, p, marked_append, marked_append)
