-- The first pass: what it keeps are the tallies that the checks are answered from, and behind them whether there is room for what endSnds become. Assumes nothing.
use Prim.Native.Nat.{ℕ, zero, suc, ◌+◌, ◌≤◌}
use mathlib.Core.Path.{◌≡◌, refl, sym, ◌∙◌, ap, subst}
use mathlib.Core.Bool.{Bool, true, false}
use mathlib.Core.List.{List, [], ◌∷◌, ◌++◌, append_assoc, append-nil}
use native.Mathlib.Omega.{arith}
use lib.Dec.{eqb}
use lib.ListN.{length, take, replicate, length-append}
use Rattle.base_words.specs.Counts.{pools, elements}
use Rattle.base_words.specs.Each.{each}
use Rattle.base_words.specs.Pick.{if◌then◌or_else◌}
use Rattle.base_words.specs.Words.{at, greatest}
use Rattle.check_model.specs.Checks.{Pool, lowest}
use Rattle.check_verdict.specs.Verdict.{model_words, lowest_in}
use Rattle.check_verdict.proofs.VerdictLaws.{lowest_by}
use Rattle.text_ends.specs.Rewriting.{has_room}
use Rattle.text_ends.specs.Room.{noted_words, room_in, judged_words}
use Rattle.text_ends.proofs.SideLaws.{Kept, kept_none, kept_more, Judged, judged_none, judged_more}
use Rattle.text_passes.proofs.FillLaws.{AtMost, none, some, Block, Fits}
use Rattle.text_passes.specs.Passes.{summed_up, kept_element, kept_all, summed, elements_placed, pool_judged, kept_head, kept_pool}

-- the elements of a pool, behind those that are done
marked_all : (i n : ℕ) (done els : List (List ℕ)) (s : List ℕ) → n ≡ length done → n + length els ≤ greatest → Kept done s → Kept (done ++ els) (kept_all (kept_element false i) n els s)
unfolding kept_all kept_element summed_up if◌then◌or_else◌
marked_all i n done [] s e few k = subst (λ (l : List (List ℕ)). Kept l s) (sym (append-nil done)) k
marked_all i n done (x ∷ els) s e few k =
    subst (λ (l : List (List ℕ)). Kept l (kept_all (kept_element false i) n (x ∷ els) s)) (append_assoc done (x ∷ []) els)
    (marked_all i (n + 1) (done ++ (x ∷ [])) els (summed_up (n + 1) x s) (ap (λ m. m + 1) e ∙ sym (length-append done (x ∷ []))) (omega arith)
    (subst (λ (m : ℕ). Kept (done ++ (x ∷ [])) (summed_up (m + 1) x s)) (sym e) (kept_more done x s k (omega arith))))

most_long : {A : Type 0} (P : A → Type 0) (m : ℕ) (xs : List A) → AtMost P m xs → length xs ≤ m
most_long P m [] none = omega arith
most_long P zero (x ∷ xs) x3 = elim x3 [ ]
most_long P (suc m) (x ∷ xs) (some e rest) = omega (arith, most_long P m xs rest)

-- the pools of a model, behind those that are done
marked_pool : (n : ℕ) (done : List Pool) (p : Pool) (w : List ℕ) → Fits p → Judged done w → Judged (done ++ (p ∷ [])) (kept_pool false n p w)
unfolding kept_pool kept_head summed elements_placed pool_judged if◌then◌or_else◌
marked_pool n done p w fits j =
    judged_more done p w _ j (marked_all n 0 [] p.elements (replicate noted_words 0) refl (omega (arith, most_long Block elements p.elements fits)) kept_none)

marked_pools : (n m : ℕ) (done ps : List Pool) (w : List ℕ) → AtMost Fits m ps → Judged done w → Judged (done ++ ps) (kept_all (kept_pool false) n ps w)
unfolding kept_all
marked_pools n m done [] w few j = subst (λ (l : List Pool). Judged l w) (sym (append-nil done)) j
marked_pools n zero done (p ∷ ps) w few j = elim few [ ]
marked_pools n (suc m) done (p ∷ ps) w (some fits rest) j =
    subst (λ (l : List Pool). Judged l (kept_all (kept_pool false) (n + 1) ps (kept_pool false n p w))) (append_assoc done (p ∷ []) ps)
    (marked_pools (n + 1) m (done ++ (p ∷ [])) ps (kept_pool false n p w) rest (marked_pool n done p w fits j))

-- the lowest check broken, and whether there is room, by what the first pass kept in words of 0
module _ (ps : List Pool) (few : AtMost Fits pools ps) (m : List ℕ) (e : m ≡ kept_all (kept_pool false) 0 ps (replicate judged_words 0)) where
  kept : Judged ps m
  kept = subst (Judged ps) (sym e) (marked_pools 0 pools [] ps (replicate judged_words 0) few judged_none)

  pub judged_by : (k : ℕ) → k ≡ lowest_in (take model_words m) → k ≡ lowest ps
  judged_by k h = h ∙ ap lowest_in kept.front ∙ lowest_by ps

  pub room_by : eqb (at m room_in) 0 ≡ each has_room ps
  room_by = kept.room
