-- THE LINES OF THE MAP ARE THE TABLE'S ELEMENTS. Of the process p of a pool: there are as many `element` lines as the pool has elements in the table, those of its nodes and those of the ends behind its message end events;
-- the line of node k names the place of the element that the node means. t is the text, w the things of the drawing, n their count. Assumes nothing.
use Prim.Native.Nat.{ℕ, zero, suc, ◌+◌, ◌<◌}
use mathlib.Core.Path.{◌≡◌, refl, sym, ◌∙◌, ap, ap₂}
use mathlib.Core.Bool.{Bool, true, false, ◌&&◌, not}
use mathlib.Core.List.{List, [], ◌∷◌, ◌++◌}
use native.Mathlib.Omega.{arith}
use lib.Dec.{eqb}
use lib.ListN.{length, get_or}
use borrow.Author.Tests.{eqb-true}
use Rattle.base_words.specs.Each.{joined, total}
use Rattle.base_words.specs.Iter.{iter}
use Rattle.base_words.specs.Pick.{if◌then◌or_else◌}
use Rattle.base_words.specs.Sum.{sum, one_if}
use Rattle.base_words.proofs.EachLaws.{total_append}
use Rattle.base_words.proofs.SumLaws.{sum_ext}
use Rattle.base_kinds.specs.Kinds as kinds
use Rattle.base_table.specs.Table.{kind_in}
use Rattle.text_ends.specs.Rewriting.{is_end_snd, end_sends, treated, all_treated}
use Rattle.text_ends.proofs.RewriteLaws.{treated_long}
use Rattle.draw_things.specs.Things.{is_node, sort, within, kind, branch}
use Rattle.draw_numbers.specs.Who.{is_of_kind}
use Rattle.draw_numbers.specs.Numbers.{count_before, is_element, is_of, an_element}
use Rattle.draw_model.specs.Drawn.{element_drawn}
use Rattle.draw_model.specs.Content.{element_if, elements_of}
use Rattle.draw_map.specs.Map.{is_message_end}
use Rattle.proof_map.proofs.Picked.{one, picked, as_many, at_place, as_none, none_of}
use Rattle.proof_map.proofs.KindLaws.{kind_drawn}

-- the rewriting of endSnds adds an element for each
all_long : (els : List (List ℕ)) (n : ℕ) → length (iter (λ k. treated) els n) ≡ length els + n
unfolding iter
all_long els zero = (let e : length els ≡ length els + 0 = omega arith in e)
all_long els (suc n) = treated_long (iter (λ k. treated) els n) ∙ (let e : length (iter (λ k. treated) els n) + 1 ≡ length els + suc n = omega (arith, all_long els n) in e)

-- an element that is drawn is an endSnd where its node is a message end event of the process
module _ (t w : List ℕ) (n p k : ℕ) where
  is_end : is_end_snd (element_drawn t w n k) ≡ eqb (kind w k) kinds.end_snd
  unfolding is_end_snd
  is_end = ap (λ (c : ℕ). eqb c kinds.end_snd) (kind_drawn t w n k)

  -- a message end event is no branch
  at_end : (c : ℕ) (b : Bool) → eqb c kinds.end_snd ≡ b → is_end_snd (element_drawn t w n k) ≡ b → total (λ el. one_if (is_end_snd el)) (if not (eqb c branch) then element_drawn t w n k ∷ [] or_else []) ≡ one_if (b && true)
  unfolding total if◌then◌or_else◌
  at_end c b q e = go b (eqb c branch) refl q e
    where
      go : (b d : Bool) → eqb c branch ≡ d → eqb c kinds.end_snd ≡ b → is_end_snd (element_drawn t w n k) ≡ b
          → total (λ el. one_if (is_end_snd el)) (if not d then element_drawn t w n k ∷ [] or_else []) ≡ one_if (b && true)
      go true false r q e = let z = ap one_if e in omega (arith, z)
      go false false r q e = let z = ap one_if e in omega (arith, z)
      go false true r q e = refl
      go true true r q e = absurd (omega (arith, eqb-true c branch r, eqb-true c kinds.end_snd q))

  one_end : total (λ el. one_if (is_end_snd el)) (element_if t w n p k) ≡ one_if (is_message_end p w k)
  unfolding element_if is_element is_message_end is_of_kind total if◌then◌or_else◌
  one_end = go (is_node (sort w k)) (eqb (within w k) p) (kind w k) is_end
    where
      go : (a b : Bool) (c : ℕ) → is_end_snd (element_drawn t w n k) ≡ eqb c kinds.end_snd
          → total (λ el. one_if (is_end_snd el)) (if a && (b && not (eqb c branch)) then element_drawn t w n k ∷ [] or_else []) ≡ one_if ((a && eqb c kinds.end_snd) && b)
      go false b c e = refl
      go true false c e = as_none (eqb c kinds.end_snd)
      go true true c e = at_end c (eqb c kinds.end_snd) refl e

module _ (t w : List ℕ) (n p : ℕ) where
  ends_of : (m : ℕ) → total (λ el. one_if (is_end_snd el)) (joined (element_if t w n p) m) ≡ sum (λ k. one_if (is_message_end p w k)) m
  unfolding joined sum
  ends_of zero = none_of (λ el. one_if (is_end_snd el))
  ends_of (suc m) = total_append (λ el. one_if (is_end_snd el)) (joined (element_if t w n p) m) (element_if t w n p m) ∙ ap₂ ◌+◌ (ends_of m) (one_end t w n p m)

  ends_many : end_sends (elements_of t w n p) ≡ count_before (is_message_end p w) n
  unfolding end_sends elements_of count_before
  ends_many = ends_of n

  nodes_many : length (elements_of t w n p) ≡ count_before (is_of an_element p w) n
  unfolding elements_of element_if is_of if◌then◌or_else◌
  nodes_many = as_many (is_element p w) (element_drawn t w n) n

  pub element_lines : length (all_treated (elements_of t w n p)) ≡ count_before (is_of an_element p w) n + count_before (is_message_end p w) n
  unfolding all_treated
  element_lines = all_long (elements_of t w n p) (end_sends (elements_of t w n p)) ∙ ap₂ ◌+◌ nodes_many ends_many

  pub line_names_element : (k : ℕ) → k < n → is_of an_element p w k ≡ true → get_or (elements_of t w n p) (count_before (is_of an_element p w) k) [] ≡ element_drawn t w n k
  unfolding elements_of element_if is_of if◌then◌or_else◌
  line_names_element k l h = at_place (is_element p w) (element_drawn t w n) [] n k l h
