-- The two loops of a pass, over the elements of a pool and over the pools, turn by turn. Assumes nothing.
use Prim.Native.Nat.{ℕ, suc, ◌+◌, ◌-◌, ◌≤◌, ◌<◌}
use mathlib.Core.Path.{◌≡◌, refl, sym, ◌∙◌, ap}
use mathlib.Core.Bool.{Bool}
use mathlib.Core.List.{List}
use Rattle.base_words.specs.Counts.{pools, elements}
use Rattle.std.specs.Result.{IsErrAnd}
use Rattle.std.specs.declared.result.Result.TheVariants.{Ok, Err}
use Rattle.text_readers.specs.declared.Refusal.{Refusal}
use Rattle.text_readers.specs.Reading.{Read, if_at, place_of, sign_at, end_at}
use Rattle.text_readers.proofs.ReadingLaws.{if_at_at, if_at_refused, handed}
use Rattle.text_elements.specs.Elements.{starts_element}
use Rattle.check_model.specs.Checks.{Pool}
use Rattle.text_bounds.specs.Bounds.{one_too_many}
use Rattle.text_passes.specs.Model.{Got, element_alone, elements_at, pool, starts_pool, pools_at, model}
use Rattle.text_passes.specs.Passes.{kept_element, kept_all, kept_pool, Passed}
use Rattle.text_passes.proofs.BarLaws.{Rest, out_full, out_refused, out_last, again, stopped, no_place}

-- ELEMENTS: n of pool i are kept in w
abbrev pub Elements : Bool → ℕ → List ℕ → ℕ → ℕ → List ℕ → (Read → List ℕ → Type 0) → Type 0
Elements fills i text at n w P = (r : Read) (v : List ℕ) → Rest element_alone starts_element (kept_element fills i) text (elements - n) at n w r v → P r v

pub elements_start : (fills : Bool) (i : ℕ) (text : List ℕ) (at : ℕ) (w : List ℕ) → Elements fills i text at 0 w (Passed (kept_all (kept_element fills i) 0) (elements_at text at) w)
unfolding elements_at
elements_start fills i text at w r v p = p

module _ (fills : Bool) (i : ℕ) (text : List ℕ) (at n : ℕ) (w : List ℕ) (P : Read → List ℕ → Type 0) (inv : Elements fills i text at n w P) where
  pub elements_full : elements ≤ n → (b : Bool) (r : Read) → b ≡ starts_element text at → r ≡ one_too_many b (place_of text at) → P r w
  elements_full h b r e f = out_full element_alone starts_element (kept_element fills i) text elements at n w P inv h r (f ∙ ap (λ z. one_too_many z (place_of text at)) e)

  module _ (l : n < elements) (e : Read) (x : List ℕ) (read : ◌≡◌ {A = Got (List ℕ)} (record { end = e; value = x }) (element_alone text at)) where
    ended : e ≡ (element_alone text at).end
    ended = ap (λ (g : Got (List ℕ)). g.end) read

    pub element_refused : (d : Refusal) (r : Read) → e ≡ Err d → IsErrAnd r (λ (z : Refusal). z ≡ d) → P r w
    element_refused d r h k = out_refused element_alone starts_element (kept_element fills i) text elements at n w P inv l e ended d r h k w

    module _ (q : ℕ) (h : e ≡ Ok q) (u : List ℕ) (kept : u ≡ kept_element fills i n x w) (b : Read) (bar : b ≡ sign_at 124 text q) where
      stays : u ≡ kept_element fills i n (element_alone text at).value w
      stays = kept ∙ ap (λ (g : Got (List ℕ)). kept_element fills i n g.value w) read

      pub elements_last : (d : Refusal) → b ≡ Err d → P (Ok q) u
      elements_last d g = out_last element_alone starts_element (kept_element fills i) text elements at n w P inv l e ended q h u stays b bar d g

      pub elements-again : (a : ℕ) → b ≡ Ok a → Elements fills i text a (n + 1) u P
      elements-again a g = again element_alone starts_element (kept_element fills i) text elements at n w P inv l e ended q h u stays b bar a g

-- POOLS: n are kept in w
abbrev pub Pools : Bool → List ℕ → ℕ → ℕ → List ℕ → (Read → List ℕ → Type 0) → Type 0
Pools fills text at n w P = (r : Read) (v : List ℕ) → Rest pool starts_pool (kept_pool fills) text (pools - n) at n w r v → P r v

pub pools_start : (fills : Bool) (text : List ℕ) (at : ℕ) (w : List ℕ) → Pools fills text at 0 w (Passed (kept_all (kept_pool fills) 0) (pools_at text at) w)
unfolding pools_at
pools_start fills text at w r v p = p

module _ (fills : Bool) (text : List ℕ) (at n : ℕ) (w : List ℕ) (P : Read → List ℕ → Type 0) (inv : Pools fills text at n w P) where
  pub pools_full : pools ≤ n → (b : Bool) (r : Read) → b ≡ starts_pool text at → r ≡ one_too_many b (place_of text at) → P r w
  pools_full h b r e f = out_full pool starts_pool (kept_pool fills) text pools at n w P inv h r (f ∙ ap (λ z. one_too_many z (place_of text at)) e)

  module _ (l : n < pools) (e : Read) (u : List ℕ) (read : Passed (kept_pool fills n) (pool text at) w e u) where
    pub pool_refused : (d : Refusal) (r : Read) → e ≡ Err d → IsErrAnd r (λ (z : Refusal). z ≡ d) → P r u
    pool_refused d r h k = out_refused pool starts_pool (kept_pool fills) text pools at n w P inv l e read.ended d r h k u

    module _ (q : ℕ) (h : e ≡ Ok q) (b : Read) (bar : b ≡ sign_at 124 text q) where
      pub pools_last : (d : Refusal) → b ≡ Err d → P (Ok q) u
      pools_last d g = out_last pool starts_pool (kept_pool fills) text pools at n w P inv l e read.ended q h u (read.left q h) b bar d g

      pub pools-again : (a : ℕ) → b ≡ Ok a → Pools fills text a (n + 1) u P
      pools-again a g = again pool starts_pool (kept_pool fills) text pools at n w P inv l e read.ended q h u (read.left q h) b bar a g

-- THE END of the text behind the pools
module _ (fills : Bool) (text w v : List ℕ) (r : Read) (p : Passed (kept_all (kept_pool fills) 0) (pools_at text 0) w r v) where
  pub text_refused : (d : Refusal) (z : Read) → r ≡ Err d → IsErrAnd z (λ (x : Refusal). x ≡ d) → Passed (kept_all (kept_pool fills) 0) (model text) w z v
  unfolding model
  text_refused d z e k =
      let same = handed r z d e k in
      stopped _ _ w v z d (same ∙ p.ended ∙ sym (if_at_refused (pools_at text 0).end (end_at text) (pools_at text 0).end d (sym p.ended ∙ e))) (same ∙ e)

  pub text_ended : (q : ℕ) (b : Read) → r ≡ Ok q → b ≡ end_at text q → Passed (kept_all (kept_pool fills) 0) (model text) w b v
  unfolding model
  text_ended q b e f =
      record {
        ended = f ∙ sym (if_at_at (pools_at text 0).end (end_at text) (pools_at text 0).end q (sym p.ended ∙ e));
        left = λ z g. p.left q e;
      }
