-- THE TABLE OF A DRAWING: no message of it carries values, and no task assigns. Assumes nothing.
use Prim.Native.Nat.{ℕ, ◌+◌, ◌≤◌, ◌<◌}
use mathlib.Core.Path.{◌≡◌, ◌∙◌, refl, sym, ap, subst}
use mathlib.Core.Bool.{Bool, true, false, ◌&&◌}
use mathlib.Core.List.{List, [], ◌∷◌, ◌++◌, map}
use native.Mathlib.Decide.{dec_lt}
use native.Mathlib.Omega.{arith}
use lib.Dec.{eqb, ltb}
use lib.ListN.{length, set, get_or, take, replicate, get_or-eq_default}
use lib.Seq.{get_or-set_other, get_or-take}
use borrow.Author.Tests.{eqb-true}
use Rattle.base_words.specs.Counts.{branches}
use Rattle.base_words.specs.Each.{tab, joined}
use Rattle.base_words.specs.Pick.{if◌then◌or_else◌}
use Rattle.base_words.specs.Words.{at}
use Rattle.base_words.proofs.AllLaws.{and_left, and_right}
use Rattle.base_words.proofs.IterLaws.{iter_keeps}
use Rattle.base_words.proofs.ListLaws.{length-tab, get_d_tab}
use Rattle.base_kinds.specs.Kinds.{end, inter_snd}
use Rattle.base_table.specs.Places.{kind_place, entries_place, exits_place, edge_place, length_place, assignments_place, element_words}
use Rattle.base_table.specs.Table.{pool_count, element_count, element_at, message_length, assignment_count}
use Rattle.check_model.specs.Checks.{Pool}
use Rattle.text_ends.specs.Rewriting.{with_one, sending_to, end_of, treated, all_treated, end_sends, lowest_unused, first_end}
use Rattle.text_read.specs.Notation.{ReadInto, table_of, rewritten}
use Rattle.draw_things.specs.Things.{is_node, sort, within}
use Rattle.draw_faults.specs.Amiss.{is_drawing}
use Rattle.draw_numbers.specs.Who.{has_participants, is_pool}
use Rattle.draw_numbers.specs.Numbers.{is_element}
use Rattle.draw_limits.specs.Excess.{first_beyond}
use Rattle.draw_model.specs.Drawn.{element_drawn}
use Rattle.draw_model.specs.Content.{element_if, elements_of, process_of, pool_drawn, pool_if, content}
use Rattle.draw_read.specs.Drawings.{walked_text, things_of, draw_into}
use Rattle.proof_roundtrip.proofs.EndModels.{Every, every_in, every_set, every_last, Model}
use Rattle.proof_roundtrip.proofs.Rewritten.{rewritten_fits}
use Rattle.proof_roundtrip.specs.Blocks.{words_at, block_at, blocks_of}
use Rattle.proof_roundtrip.proofs.BlankLaws.{zero_word}
use Rattle.proof_roundtrip.proofs.ReadTables.{blocks_are}
use Rattle.proof_drawings.proofs.SettledLaws.{Settled}
use Rattle.proof_drawings.proofs.Fitting.{drawing_few, whole}
use Rattle.proof_drawings.proofs.ContentModel.{every_joined, every_one}
use Rattle.proof_drawings.proofs.PlacedLaws.{things_settled}
use Rattle.proof_drawings.proofs.Answers.{drawn_clear, drawn_is}
use Rattle.proof_drawings.proofs.Transcripts.{drawn_model, accepted}
use Rattle.proof_fields.specs.Quiet.{Quiet}

-- AN ELEMENT without values or assignments
record Silent (el : List ℕ) : Type 0 where
  pub carries : (b : ℕ) → b < branches → message_length el b ≡ 0
  pub assigns : assignment_count el ≡ 0

abbrev AllSilent : Pool → Type 0
AllSilent p = Every Silent p.elements

module _ (t w : List ℕ) (n : ℕ) (drawn : is_drawing t w n ≡ true) (beyond : ltb (first_beyond t w n) n ≡ false) (settled : Settled w n) where
  element_silent : (k : ℕ) → k < n → is_element (within w k) w k ≡ true → Silent (element_drawn t w n k)
  element_silent k l is =
      let s = (whole t w n drawn beyond settled k l is).shape in
      record {
        carries = λ b h. s.named.none (length_place b) (omega arith) (omega (arith, h)) (λ c u e. omega (arith, e));
        assigns = s.tail assignments_place (omega arith);
      }

  its_process : (p k : ℕ) → is_element p w k ≡ true → is_element (within w k) w k ≡ true
  unfolding is_element
  its_process p k e =
      let q = eqb-true (within w k) p (and_left (eqb (within w k) p) _ (and_right (is_node (sort w k)) _ e)) in
      subst (λ (o : ℕ). is_element o w k ≡ true) (sym q) e

  elements_silent : (p : ℕ) → Every Silent (elements_of t w n p)
  unfolding elements_of element_if
  elements_silent p =
      every_joined Silent (λ k. if is_element p w k then element_drawn t w n k ∷ [] or_else []) n
      (λ k l. every_one Silent (is_element p w k) (element_drawn t w n k) (λ e. element_silent k l (its_process p k e)))

  content_silent : Every AllSilent (content t w n)
  unfolding content pool_if pool_drawn
  content_silent =
      every_joined AllSilent (λ k. if is_pool (has_participants w n) w k then pool_drawn (has_participants w n) t w n k ∷ [] or_else []) n
      (λ k l. every_one AllSilent (is_pool (has_participants w n) w k) (pool_drawn (has_participants w n) t w n k) (λ e. elements_silent (process_of (has_participants w n) w k)))

-- AS IT IS REWRITTEN
one_silent : (kind list f : ℕ) (x : List ℕ) → list + 1 < length_place 0 → Silent x → Silent (with_one kind list f x)
unfolding with_one
one_silent kind list f x l s =
    record {
      carries = λ b h. other (length_place b) (omega (arith, l)) (omega arith) ∙ s.carries b h;
      assigns = other assignments_place (omega (arith, l)) (omega arith) ∙ s.assigns;
    }
  where
    other : (i : ℕ) → list + 1 < i → 0 < i → at (set (set (set x kind_place kind) list 1) (edge_place list 0) f) i ≡ at x i
    other i a b =
        get_or-set_other (set (set x kind_place kind) list 1) (edge_place list 0) i f 0 (λ e. omega (arith, e, a))
        ∙ get_or-set_other (set x kind_place kind) list i 1 0 (λ e. omega (arith, e, a))
        ∙ get_or-set_other x kind_place i kind 0 (λ e. omega (arith, e, b))

at_silent : (els : List (List ℕ)) (j : ℕ) → Every Silent els → Silent (get_or els j [])
at_silent els j e = go (dec_lt j (length els))
  where
    none : Silent []
    none = record { carries = λ b h. refl; assigns = refl }

    go : Dec (j < length els) → Silent (get_or els j [])
    go (yes l) = every_in Silent els [] j e l
    go (no l) = subst Silent (sym (get_or-eq_default els [] (let z : length els ≤ j = omega (arith, l) in z))) none

end_silent : (f : ℕ) → Silent (end_of f)
unfolding end_of
end_silent f = one_silent end entries_place f (replicate element_words 0) (omega arith) (record { carries = λ b h. zero_word element_words (length_place b); assigns = zero_word element_words assignments_place })

treated_silent : (els : List (List ℕ)) → Every Silent els → Every Silent (treated els)
unfolding treated sending_to
treated_silent els e =
    every_last Silent (set els (first_end els) (sending_to (lowest_unused els) (get_or els (first_end els) []))) (end_of (lowest_unused els))
    (every_set Silent els (first_end els) (sending_to (lowest_unused els) (get_or els (first_end els) [])) e (one_silent inter_snd exits_place (lowest_unused els) (get_or els (first_end els) []) (omega arith) (at_silent els (first_end els) e)))
    (end_silent (lowest_unused els))

rewritten_silent : (p : Pool) → AllSilent p → AllSilent (rewritten p)
unfolding rewritten all_treated
rewritten_silent p e = iter_keeps (λ k. treated) p.elements (Every Silent) (end_sends p.elements) (λ k y l s. treated_silent y s) e

all_rewritten : (ps : List Pool) → Every AllSilent ps → Every AllSilent (map rewritten ps)
all_rewritten [] e = e
all_rewritten (p ∷ ps) e = (rewritten_silent p e.0, all_rewritten ps e.1)

-- IN ITS TABLE
no_pool : Pool
no_pool = record { number = 0; limit = 0; elements = [] }

module _ (t : List ℕ) (silent : Every AllSilent (blocks_of t)) where
  pool_silent : (p : ℕ) → p < pool_count t → AllSilent (block_at t p)
  unfolding blocks_of
  pool_silent p l =
      subst AllSilent (get_d_tab (block_at t) (pool_count t) p no_pool l) (every_in AllSilent (tab (block_at t) (pool_count t)) no_pool p silent (omega (arith, l, length-tab (block_at t) (pool_count t))))

  words_silent : (p e : ℕ) → p < pool_count t → e < element_count t p → Silent (words_at t p e)
  unfolding block_at
  words_silent p e l h =
      subst Silent (get_d_tab (words_at t p) (element_count t p) e [] h) (every_in Silent (tab (words_at t p) (element_count t p)) [] e (pool_silent p l) (omega (arith, h, length-tab (words_at t p) (element_count t p))))

  table_quiet : Quiet t
  table_quiet =
      record {
        carries = λ p e b l h u. sym (get_or-take element_words (element_at t p e) (length_place b) 0 (omega (arith, u))) ∙ (words_silent p e l h).carries b u;
        assigns = λ p e l h. sym (get_or-take element_words (element_at t p e) assignments_place 0 (omega arith)) ∙ (words_silent p e l h).assigns;
      }

-- THE LAW
pub drawn_quiet : (text t : List ℕ) → (draw_into text t).number ≡ 0 → Quiet (draw_into text t).table
drawn_quiet text t h =
    let c = drawn_clear text t h in
    let rs : List Pool = map rewritten (drawn_model text) in
    let m : Model rs = rewritten_fits (drawn_model text) (accepted text t h) c.room in
    let s = content_silent text (things_of text) (walked_text text).count c.drawn c.beyond (things_settled text (drawing_few text (things_of text) (walked_text text).count c.drawn)) in
    subst Quiet (sym (ap (λ (r : ReadInto). r.table) (drawn_is text t h))) (table_quiet (table_of rs) (subst (Every AllSilent) (sym (blocks_are rs m)) (all_rewritten (drawn_model text) s)))
