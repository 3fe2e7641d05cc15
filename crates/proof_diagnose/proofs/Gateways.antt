-- WHERE CHECK 7 IS BROKEN: a pool breaks it exactly where it has a gateway that is told for it. Assumes nothing.
use Prim.Native.Nat.{ℕ, zero, suc, ◌+◌, ◌≤◌, ◌<◌}
use mathlib.Core.Path.{◌≡◌, refl, sym, ◌∙◌, ap}
use mathlib.Core.Bool.{Bool, true, false, not, ◌&&◌, ◌||◌, false≢true}
use mathlib.Core.List.{List, [], ◌∷◌}
use native.Mathlib.Omega.{arith}
use lib.Dec.{eqb, leb, ltb}
use lib.ListN.{length, get_or-eq_default}
use borrow.Author.Tests.{eqb-true, ltb-true, ltb-false, leb-true, le-leb}
use Rattle.base_words.specs.All.{all}
use Rattle.base_words.specs.Each.{joined, each}
use Rattle.base_words.specs.Pick.{if◌then◌or_else◌}
use Rattle.base_words.specs.Sum.{sum, hit, one_if}
use Rattle.base_words.proofs.AllLaws.{all_at}
use Rattle.base_words.proofs.EachLaws.{each_append}
use Rattle.base_kinds.specs.declared.Kind.{Kind}
use Rattle.base_kinds.specs.Kinds as kinds
use Rattle.base_table.specs.Places.{default}
use Rattle.base_table.specs.Table.{kind_in, exit_count}
use Rattle.check_occurrences.specs.Occurrences.{condition_count, condition_form, is_default, defaults, default_once}
use Rattle.check_model.specs.Checks.{Pool, check7}
use Rattle.draw_things.specs.Things.{is_node, sort, within, kind, branch}
use Rattle.draw_numbers.specs.Who.{is_of_kind, is_split}
use Rattle.draw_numbers.specs.Numbers.{is_element}
use Rattle.draw_model.specs.Drawn.{element_drawn}
use Rattle.draw_model.specs.Content.{element_if, elements_of, process_of, pool_drawn}
use Rattle.draw_diagnose.specs.Seats.{has_defaults}
use Rattle.proof_map.proofs.KindLaws.{kind_drawn}

pub each-joined : {A : Type 0} (f : A → Bool) (g : ℕ → List A) (n : ℕ) → each f (joined g n) ≡ all (λ k. each f (g k)) n
unfolding joined all each
each-joined f g zero = refl
each-joined f g (suc n) = each_append f (joined g n) (g n) ∙ ap (λ (b : Bool). b && each f (g n)) (each-joined f g n)

pub all_ext : (f g : ℕ → Bool) (n : ℕ) → ((k : ℕ) → f k ≡ g k) → all f n ≡ all g n
unfolding all
all_ext f g zero e = refl
all_ext f g (suc n) e = ap (λ (b : Bool). b && f n) (all_ext f g n e) ∙ ap (λ (b : Bool). all g n && b) (e n)

-- only an exclusive split has more conditions than one
few_in : ℕ → Bool
few_in c = eqb c kinds.xor_split || leb (kinds.kind_of c).conditions 1

few_known : all few_in 16 ≡ true
unfolding all few_in kinds.kind_of
few_known = refl

few_conditions : (c : ℕ) → eqb c kinds.xor_split ≡ false → (kinds.kind_of c).conditions ≤ 1
unfolding kinds.kind_of few_in
few_conditions c e = go (ltb c (length kinds.kinds)) refl
  where
    other : (a b : Bool) → a ≡ false → a || b ≡ true → b ≡ true
    other true b e h = absurd (false≢true (sym e))
    other false b e h = h

    out : length kinds.kinds ≤ c → (kinds.kind_of c).conditions ≤ 1
    out l = let q : (kinds.kind_of c).conditions ≡ 0 = ap (λ (r : Kind). r.conditions) (get_or-eq_default kinds.kinds kinds.no_kind l) in omega (arith, q)

    go : (b : Bool) → ltb c (length kinds.kinds) ≡ b → (kinds.kind_of c).conditions ≤ 1
    go true l = leb-true _ 1 (other (eqb c kinds.xor_split) _ e (all_at few_in 16 few_known c (ltb-true c (length kinds.kinds) l)))
    go false l = out (ltb-false c (length kinds.kinds) l)

module _ (t w : List ℕ) (n : ℕ) where
  few_used : (k : ℕ) → eqb (kind w k) kinds.xor_split ≡ false → condition_count (element_drawn t w n k) ≤ 1
  unfolding condition_count kinds.used if◌then◌or_else◌
  few_used k e = go (kinds.kind_of (kind_in (element_drawn t w n k))).conditions (rw (kind_drawn t w n k) (few_conditions (kind w k) e)) refl
    where
      go : (h : ℕ) → h ≤ 1 → (kinds.kind_of (kind_in (element_drawn t w n k))).conditions ≡ h → (if eqb h kinds.many then exit_count (element_drawn t w n k) or_else h) ≤ 1
      go zero l q = omega arith
      go (suc zero) l q = omega arith
      go (suc (suc h)) l q = absurd (omega (arith, l))

  once : (k : ℕ) → eqb (kind w k) kinds.xor_split ≡ false → default_once (element_drawn t w n k) ≡ true
  unfolding default_once defaults sum is_default
  once k e = le-leb (defaults (element_drawn t w n k)) 1 (few (condition_count (element_drawn t w n k)) (few_used k e))
    where
      one : (b : Bool) → one_if b ≤ 1
      one true = omega arith
      one false = omega arith

      few : (m : ℕ) → m ≤ 1 → sum (is_default (element_drawn t w n k)) m ≤ 1
      few zero l = omega arith
      few (suc zero) l = omega (arith, one (eqb (condition_form (element_drawn t w n k) 0) default))
      few (suc (suc m)) l = absurd (omega (arith, l))

  module _ (p : ℕ) where
    at_node : (k : ℕ) → each default_once (element_if t w n p k) ≡ not (has_defaults t w n k && eqb (within w k) p)
    unfolding element_if is_element has_defaults is_split is_of_kind each if◌then◌or_else◌
    at_node k = go (is_node (sort w k)) (eqb (within w k) p) (eqb (kind w k) branch) refl (eqb (kind w k) kinds.xor_split) refl (default_once (element_drawn t w n k)) refl
      where
        none : (b : Bool) → true ≡ not (b && false)
        none true = refl
        none false = refl

        go : (a b d : Bool) → eqb (kind w k) branch ≡ d → (s : Bool) → eqb (kind w k) kinds.xor_split ≡ s → (o : Bool) → default_once (element_drawn t w n k) ≡ o
            → each default_once (if a && (b && not d) then element_drawn t w n k ∷ [] or_else []) ≡ not (((a && s) && not o) && b)
        go false b d i s j o h = refl
        go true false d i s j o h = none (s && not o)
        go true true true i true j o h = absurd (omega (arith, eqb-true (kind w k) branch i, eqb-true (kind w k) kinds.xor_split j))
        go true true true i false j o h = refl
        go true true false i true j true h = rw h refl
        go true true false i true j false h = rw h refl
        go true true false i false j o h = rw (once k j) refl

-- a pool breaks check 7 exactly where one of its gateways is told
pub gateway_told : (owned : Bool) (t w : List ℕ) (n k : ℕ) → check7 (pool_drawn owned t w n k) ≡ all (λ j. not (has_defaults t w n j && eqb (within w j) (process_of owned w k))) n
unfolding check7 pool_drawn elements_of
gateway_told owned t w n k = each-joined default_once (element_if t w n (process_of owned w k)) n ∙ all_ext _ _ n (at_node t w n (process_of owned w k))
