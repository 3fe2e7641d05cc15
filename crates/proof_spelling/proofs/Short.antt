-- WHAT IS SPELLED IS SHORT ENOUGH TO BE READ, where nothing in the drawing is amiss or beyond the limits: an element takes at most 400 bytes. Assumes nothing.
use Prim.Native.Char.{code}
use Prim.Native.Nat.{ℕ, zero, suc, ◌+◌, ◌*◌, ◌-◌, ◌≤◌, ◌<◌}
use mathlib.Core.Path.{◌≡◌, refl, sym, ◌∙◌, ap, subst}
use mathlib.Core.Bool.{Bool, true, false, not, ◌&&◌}
use mathlib.Core.List.{List, [], ◌∷◌, ◌++◌, map}
use native.Mathlib.Omega.{arith}
use lib.Dec.{eqb, ltb}
use lib.ListN.{length, get_or, length-append, length-map}
use Rattle.base_words.specs.Counts.{text_most, pools, elements, fields}
use Rattle.base_words.specs.Each.{each, joined}
use Rattle.base_words.specs.Pick.{if◌then◌or_else◌}
use Rattle.base_words.specs.Text.{bytes}
use Rattle.write_decimals.specs.Decimals.{shown}
use Rattle.write_decimals.proofs.DecimalLaws.{shown_short}
use Rattle.write_shown.specs.Shown.{enclosed_by, shown_field, shown_element}
use Rattle.check_model.specs.Checks.{Pool}
use Rattle.text_read.specs.Notation.{no_pool}
use Rattle.text_passes.proofs.FillLaws.{AtMost, Block, Fits}
use Rattle.draw_things.specs.Things.{room, sort, source, target, sequence_flow}
use Rattle.draw_kinds.specs.Counting.{of_sort}
use Rattle.draw_conditions.specs.declared.Term.{Term}
use Rattle.draw_conditions.specs.declared.Condition.{Condition}
use Rattle.draw_faults.specs.Amiss.{is_drawing}
use Rattle.draw_numbers.specs.Who.{has_participants, is_pool}
use Rattle.draw_numbers.specs.Numbers.{count_before, is_element}
use Rattle.draw_limits.specs.Excess.{first_beyond}
use Rattle.draw_model.specs.Drawn.{element_drawn}
use Rattle.draw_model.specs.Content.{elements_of, process_of, pool_drawn, pool_if, content}
use Rattle.draw_read.proofs.RoomLaws.{content_fits}
use Rattle.proof_roundtrip.proofs.EndModels.{Every, every_in}
use Rattle.proof_lengths.proofs.Pieces.{both_short, between_long, separated_short}
use Rattle.proof_map.proofs.Picked.{as_many}
use Rattle.proof_drawings.proofs.SettledLaws.{Settled}
use Rattle.proof_drawings.proofs.ContentModel.{Placed}
use Rattle.proof_spelling.specs.Spelling.{Collaboration, Node, Flow, Participant, gathered, node_at, flow_at, participant_at, collaboration_in, parted, foremost, edge, first_edge, work, received, sent, flows_into, flows_from, entries, exits, operand, comparison, condition, guard, guarded, choices, caught, catches, braced, called, element_by, element, elements_in, elements as elementsText, pool as pool_text, pools_from, spell}
use Rattle.proof_spelling.proofs.Lists.{those-gathered, separated-parted}
use Rattle.proof_spelling.proofs.Runs.{enters, leaves}
use Rattle.proof_spelling.proofs.Texts.{ins, outs}
use Rattle.proof_spelling.proofs.Elements.{element_spelled}
use Rattle.proof_spelling.proofs.ReadBack.{Pairs, pairs_joined, pairs_one, pairs_long, pairs_at}
use Rattle.proof_spelling.proofs.Contents.{most_every, most_length, pairs_with, few, goes_on, is_node_lem, fits, texts_are, elements_pair, texts}

-- LISTS
pub parted_short : (s most : ℕ) (xs : List (List ℕ)) → ((k : ℕ) → k < length xs → length (get_or xs k []) ≤ most) → length (parted s xs) ≤ length xs * (most + 1) - 1
parted_short s most xs h = subst (λ (z : List ℕ). length z ≤ length xs * (most + 1) - 1) (separated-parted s xs) (separated_short s (λ i. get_or xs i []) most (length xs) h)

mapped_short : {A : Type 0} (f : A → List ℕ) (most : ℕ) → ((x : A) → length (f x) ≤ most) → (xs : List A) (k : ℕ) → length (get_or (map f xs) k []) ≤ most
mapped_short f most h [] k = omega arith
mapped_short f most h (x ∷ xs) zero = h x
mapped_short f most h (x ∷ xs) (suc k) = mapped_short f most h xs k

list_short : {A : Type 0} (f : A → List ℕ) (most : ℕ) → ((x : A) → length (f x) ≤ most) → (xs : List A) → length (parted (code ",") (map f xs)) ≤ length xs * (most + 1) - 1
list_short f most h xs = subst (λ (v : ℕ). length (parted (code ",") (map f xs)) ≤ v * (most + 1) - 1) (length-map xs f) (parted_short (code ",") most (map f xs) (λ k l. mapped_short f most h xs k))

-- PARTS
module _ (d : Collaboration) where
  edge_short : (f : Flow) → length (edge d f) ≤ 10
  unfolding edge
  edge_short f = shown_short _

  named_short : (v : ℕ) → length (shown v ++ bytes ":<>") ≤ 13
  named_short v = omega (arith, length-append (shown v) (bytes ":<>"), shown_short v)

  received_short : (k : ℕ) → length (received d k) ≤ 13
  unfolding received
  received_short k = named_short _

  sent_short : (k : ℕ) → length (sent d k) ≤ 13
  unfolding sent
  sent_short k = named_short _

  first_short : (k : Node) → length (first_edge d k) ≤ 10
  unfolding first_edge
  first_short k = shown_short _

  work_short : (k : Node) → length (work d k) ≤ 20
  unfolding work
  work_short k = worked _
    where
      worked : (v : ℕ) → length (shown v ++ bytes ",a,true,{}") ≤ 20
      worked v = omega (arith, length-append (shown v) (bytes ",a,true,{}"), shown_short v)

  operand_short : (o : Term) → length (operand o) ≤ 11
  unfolding operand shown_field
  operand_short o =
      both_short _ _ _ 11 (both_short _ _ _ 11 (let u = shown_short o.number in omega (arith, u)) (let u = shown_short (o.number - fields) in omega (arith, u))) (let u = shown_short o.number in omega (arith, u))

  compared_short : (s : ℕ) (c : Condition) → length (comparison s c) ≤ 23
  unfolding comparison
  compared_short s c = omega (arith, length-append (operand c.left) (s ∷ operand c.right), operand_short c.left, operand_short c.right)

  guard_short : (f : Flow) → length (guard f) ≤ 23
  unfolding guard condition
  guard_short f =
      both_short _ _ _ 23 (omega arith)
      (both_short _ _ _ 23 (omega arith) (both_short _ _ _ 23 (omega arith) (both_short _ _ _ 23 (omega arith) (both_short _ _ _ 23 (compared_short _ _) (compared_short _ _)))))

  guarded_short : (f : Flow) → length (guarded d f) ≤ 36
  unfolding guarded
  guarded_short f = omega (arith, between_long (code "(") (code ")") (edge d f ++ (code "," ∷ guard f)), length-append (edge d f) (code "," ∷ guard f), edge_short f, guard_short f)

  foremost_short : (most : ℕ) (xs : List (List ℕ)) → ((k : ℕ) → length (get_or xs k []) ≤ most) → length (foremost xs) ≤ most
  unfolding foremost
  foremost_short most [] h = omega arith
  foremost_short most (x ∷ xs) h = h 0

  caught_short : (f : Flow) → length (caught d f) ≤ 26
  unfolding caught
  caught_short f =
      omega (
        arith,
        between_long (code "(") (code ")") (received d f.to ++ (code "," ∷ foremost (map (edge d) (flows_from d f.to)))),
        length-append (received d f.to) (code "," ∷ foremost (map (edge d) (flows_from d f.to))),
        received_short f.to,
        foremost_short 10 (map (edge d) (flows_from d f.to)) (mapped_short (edge d) 10 edge_short (flows_from d f.to)),
      )

  -- AN ELEMENT with at most eight flows in and out
  module _ (k : Node) (into : length (flows_into d k.name) ≤ 8) (from : length (flows_from d k.name) ≤ 8) where
    entries_short : length (entries d k) ≤ 88
    unfolding entries
    entries_short = omega (arith, list_short (edge d) 10 edge_short (flows_into d k.name), into)

    exits_short : length (exits d k) ≤ 88
    unfolding exits
    exits_short = omega (arith, list_short (edge d) 10 edge_short (flows_from d k.name), from)

    choices_short : length (choices d k) ≤ 298
    unfolding choices
    choices_short = omega (arith, between_long (code "{") (code "}") (parted (code ",") (map (guarded d) (flows_from d k.name))), list_short (guarded d) 36 guarded_short (flows_from d k.name), from)

    catches_short : length (catches d k) ≤ 216
    unfolding catches
    catches_short = omega (arith, list_short (caught d) 26 caught_short (flows_from d k.name), from)

    braced_short : (w : List ℕ) → length w ≤ 88 → length (braced w) ≤ 90
    braced_short w h = omega (arith, between_long (code "{") (code "}") w, h)

    called_1 : (v p : List ℕ) → length v ≤ 10 → length p ≤ 300 → length (v ++ enclosed_by (code "(") (code ")") (parted (code ",") (p ∷ []))) ≤ 400
    unfolding parted
    called_1 v p a h = omega (arith, length-append v (enclosed_by (code "(") (code ")") p), between_long (code "(") (code ")") p, a, h)

    called_2 : (v p q : List ℕ) → length v ≤ 10 → length p + length q ≤ 386 → length (v ++ enclosed_by (code "(") (code ")") (parted (code ",") (p ∷ q ∷ []))) ≤ 400
    unfolding parted
    called_2 v p q a h = omega (arith, length-append v (enclosed_by (code "(") (code ")") (p ++ (code "," ∷ q))), between_long (code "(") (code ")") (p ++ (code "," ∷ q)), length-append p (code "," ∷ q), a, h)

    called_3 : (v p q r : List ℕ) → length v ≤ 10 → length p + length q + length r ≤ 386 → length (v ++ enclosed_by (code "(") (code ")") (parted (code ",") (p ∷ q ∷ r ∷ []))) ≤ 400
    unfolding parted
    called_3 v p q r a h =
        omega (arith, length-append v (enclosed_by (code "(") (code ")") (p ++ (code "," ∷ (q ++ (code "," ∷ r))))), between_long (code "(") (code ")") (p ++ (code "," ∷ (q ++ (code "," ∷ r)))), length-append p (code "," ∷ (q ++ (code "," ∷ r))), length-append q (code "," ∷ r), a, h)

    called_4 : (v p q r s : List ℕ) → length v ≤ 10 → length p + length q + length r + length s ≤ 385 → length (v ++ enclosed_by (code "(") (code ")") (parted (code ",") (p ∷ q ∷ r ∷ s ∷ []))) ≤ 400
    unfolding parted
    called_4 v p q r s a h =
        omega (
          arith,
          length-append v (enclosed_by (code "(") (code ")") (p ++ (code "," ∷ (q ++ (code "," ∷ (r ++ (code "," ∷ s))))))),
          between_long (code "(") (code ")") (p ++ (code "," ∷ (q ++ (code "," ∷ (r ++ (code "," ∷ s)))))),
          length-append p (code "," ∷ (q ++ (code "," ∷ (r ++ (code "," ∷ s))))),
          length-append q (code "," ∷ (r ++ (code "," ∷ s))),
          length-append r (code "," ∷ s),
          a,
          h,
        )

    pub element_short : (c : ℕ) → length (element_by c d k) ≤ 400
    unfolding element_by
    element_short c =
        both_short _ _ _ 400 (called_2 (bytes "start") (first_edge d k) (exits d k) (omega arith) (omega (arith, first_short k, exits_short)))
        (both_short _ _ _ 400 (called_2 (bytes "startRcv") (received d k.name) (exits d k) (omega arith) (omega (arith, received_short k.name, exits_short)))
        (both_short _ _ _ 400 (called_1 (bytes "end") (entries d k) (omega arith) (omega (arith, entries_short)))
        (both_short _ _ _ 400 (called_1 (bytes "terminate") (entries d k) (omega arith) (omega (arith, entries_short)))
        (both_short _ _ _ 400 (called_2 (bytes "endSnd") (entries d k) (sent d k.name) (omega arith) (omega (arith, entries_short, sent_short k.name)))
        (both_short _ _ _ 400 (called_3 (bytes "interRcv") (entries d k) (received d k.name) (exits d k) (omega arith) (omega (arith, entries_short, received_short k.name, exits_short)))
        (both_short _ _ _ 400 (called_3 (bytes "interSnd") (entries d k) (sent d k.name) (exits d k) (omega arith) (omega (arith, entries_short, sent_short k.name, exits_short)))
        (both_short _ _ _ 400 (called_2 (bytes "eventBased") (entries d k) (catches d k) (omega arith) (omega (arith, entries_short, catches_short)))
        (both_short _ _ _ 400 (called_2 (bytes "andSplit") (entries d k) (braced (exits d k)) (omega arith) (omega (arith, entries_short, braced_short (exits d k) exits_short)))
        (both_short _ _ _ 400 (called_2 (bytes "andJoin") (braced (entries d k)) (exits d k) (omega arith) (omega (arith, braced_short (entries d k) entries_short, exits_short)))
        (both_short _ _ _ 400 (called_2 (bytes "xorJoin") (braced (entries d k)) (exits d k) (omega arith) (omega (arith, braced_short (entries d k) entries_short, exits_short)))
        (both_short _ _ _ 400 (called_2 (bytes "xorSplit") (entries d k) (choices d k) (omega arith) (omega (arith, entries_short, choices_short)))
        (both_short _ _ _ 400 (called_3 (bytes "task") (entries d k) (work d k) (exits d k) (omega arith) (omega (arith, entries_short, work_short k, exits_short)))
        (both_short _ _ _ 400 (called_4 (bytes "taskRcv") (entries d k) (work d k) (received d k.name) (exits d k) (omega arith) (omega (arith, entries_short, work_short k, received_short k.name, exits_short)))
        (called_4 (bytes "taskSnd") (entries d k) (work d k) (sent d k.name) (exits d k) (omega arith) (omega (arith, entries_short, work_short k, sent_short k.name, exits_short))))))))))))))))

-- what is gathered is as short as each
every_append : (P : List ℕ → Type 0) (xs ys : List (List ℕ)) → Every P xs → Every P ys → Every P (xs ++ ys)
every_append P [] ys d e = e
every_append P (x ∷ xs) ys d e = (d.0, every_append P xs ys d.1 e)

every_gathered : (P : List ℕ → Type 0) (test : ℕ → Bool) (make : ℕ → List ℕ) (n : ℕ) → ((k : ℕ) → k < n → test k ≡ true → P (make k)) → Every P (gathered test make n)
unfolding joined
every_gathered P test make zero h = omega arith
every_gathered P test make (suc n) h = every_append P (gathered test make n) _ (every_gathered P test make n (λ k l. h k (omega (arith, l)))) (last (test n) (h n (omega arith)))
  where
    last : (b : Bool) → (b ≡ true → P (make n)) → Every P (if b then make n ∷ [] or_else [])
    last true p = unfold if◌then◌or_else◌ in (p refl, omega arith)
    last false p = unfold if◌then◌or_else◌ in omega arith

module _ (t w : List ℕ) (n : ℕ) (drawn : is_drawing t w n ≡ true) (beyond : ltb (first_beyond t w n) n ≡ false) (settled : Settled w n) (placed : Placed w) where
  abbrev D : Collaboration
  D = collaboration_in t w n

  abbrev owned : Bool
  owned = has_participants w n

  abbrev small : n ≤ room
  small = few t w n drawn beyond settled placed

  into_few : (p k : ℕ) → k < n → is_element p w k ≡ true → length (flows_into D k) ≤ 8
  unfolding flows_into collaboration_in
  into_few p k l h =
      omega (
        arith,
        ins t w n k small (fits t w n drawn beyond settled placed p k l h),
        ap length (those-gathered (of_sort sequence_flow w) (flow_at t w n) (λ f. eqb f.to k) n),
        as_many (enters t w n k small) (flow_at t w n) n,
      )

  from_few : (p k : ℕ) → k < n → is_element p w k ≡ true → length (flows_from D k) ≤ 8
  unfolding flows_from collaboration_in
  from_few p k l h =
      omega (
        arith,
        outs t w n k small (fits t w n drawn beyond settled placed p k l h),
        ap length (those-gathered (of_sort sequence_flow w) (flow_at t w n) (λ f. eqb f.from k) n),
        as_many (leaves t w n k small) (flow_at t w n) n,
      )

  shown-few : (p k : ℕ) → k < n → is_element p w k ≡ true → length (shown_element (element_drawn t w n k)) ≤ 400
  shown-few p k l h =
      subst (λ (z : List ℕ). length z ≤ 400)
      (sym (element_spelled t w n k small l (is_node_lem t w n drawn beyond settled placed p k h) (fits t w n drawn beyond settled placed p k l h) (goes_on t w n drawn beyond settled placed)))
      (unfold element in element_short D (node_at w k) (into_few p k l h) (from_few p k l h) _)

  each_short : (p : ℕ) → Every (λ x. length x ≤ 400) (map (element D) (elements_in D p))
  each_short p =
      subst (Every (λ x. length x ≤ 400)) (sym (texts_are t w n drawn beyond settled placed p))
      (every_gathered (λ x. length x ≤ 400) (is_element p w) (λ k. shown_element (element_drawn t w n k)) n (shown-few p))

  abbrev Small : List ℕ → Pool → Type 0
  Small x p = Fits p → length x ≤ 13000

  pool_small : (i k : ℕ) → Small (pool_text D i (participant_at owned t w n k)) (pool_drawn owned t w n k)
  unfolding pool_text elementsText pool_drawn
  pool_small i k f =
      both_short _ _ _ 13000
      (omega (arith, length-append (shown i) (code "," ∷ (E ++ (code "," ∷ shown M))), length-append E (code "," ∷ shown M), between_long (code "(") (code ")") (shown i ++ (code "," ∷ (E ++ (code "," ∷ shown M)))), shown_short i, shown_short M, inside))
      (omega (arith, length-append (shown i) (code "," ∷ E), between_long (code "(") (code ")") (shown i ++ (code "," ∷ E)), shown_short i, inside))
    where
      xs : List (List ℕ)
      xs = map (element D) (elements_in D (process_of owned w k))

      E : List ℕ
      E = parted (code "|") (map (element D) (elements_in D (process_of owned w k)))

      M : ℕ
      M = (participant_at owned t w n k).maximum

      count : length (map (element D) (elements_in D (process_of owned w k))) ≤ elements
      count =
          let a = pairs_long _ (map (element D) (elements_in D (process_of owned w k))) (elements_of t w n (process_of owned w k)) (elements_pair t w n drawn beyond settled placed (process_of owned w k)) in
          let b : length (elements_of t w n (process_of owned w k)) ≤ elements = most_length Block elements (elements_of t w n (process_of owned w k)) f in
          omega (arith, a, b)

      inside : length E ≤ 12832
      inside =
          let a = parted_short (code "|") 400 (map (element D) (elements_in D (process_of owned w k))) (λ j l. every_in (λ x. length x ≤ 400) (map (element D) (elements_in D (process_of owned w k))) [] j (each_short (process_of owned w k)) l) in
          omega (arith, a, count)

  pools_small : Pairs Small (pools_from D 1 D.participants) (content t w n)
  pools_small = subst (λ (z : List (List ℕ)). Pairs Small z (content t w n)) (sym (texts t w n drawn beyond settled placed)) pairs
    where
      pairs : Pairs Small (joined (λ k. if is_pool owned w k then pool_text D (1 + count_before (is_pool owned w) k) (participant_at owned t w n k) ∷ [] or_else []) n) (content t w n)
      pairs =
          unfold content pool_if in
          pairs_joined Small (λ k. if is_pool owned w k then pool_text D (1 + count_before (is_pool owned w) k) (participant_at owned t w n k) ∷ [] or_else []) (λ k. if is_pool owned w k then pool_drawn owned t w n k ∷ [] or_else []) n
          (λ k l. pairs_one Small (is_pool owned w k) (pool_text D (1 + count_before (is_pool owned w) k) (participant_at owned t w n k)) (pool_drawn owned t w n k) (λ h. pool_small (1 + count_before (is_pool owned w) k) k))

  abbrev Few : List ℕ → Pool → Type 0
  Few x p = length x ≤ 13000

  pools_few : Pairs Few (pools_from D 1 D.participants) (content t w n)
  pools_few = pairs_with Small Few Fits (pools_from D 1 D.participants) (content t w n) (λ x p r f. r f) pools_small (most_every Fits pools (content t w n) (content_fits t w n beyond))

  -- THE LAW
  pub spelled_short : length (spell D) ≤ text_most
  unfolding spell
  spelled_short =
      let xs : List (List ℕ) = pools_from D 1 D.participants in
      let a = parted_short (code "|") 13000 xs (λ j l. pairs_at Few xs (content t w n) [] no_pool j pools_few l) in
      let b = pairs_long Few xs (content t w n) pools_few in
      omega (arith, a, b, most_length Fits pools (content t w n) (content_fits t w n beyond), length-append (parted (code "|") xs) (code "\n" ∷ []))
