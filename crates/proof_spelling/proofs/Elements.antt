-- AN ELEMENT AS IT IS SPELLED is the text of the element that is drawn, kind by kind. t is the text, w the things of a drawing, n their count, k a node whose element is within the limits. Assumes nothing.
use Prim.Native.Char.{code}
use Prim.Native.String.{String}
use Prim.Native.Nat.{ℕ, zero, suc, ◌+◌, ◌≤◌, ◌<◌}
use mathlib.Core.Path.{◌≡◌, refl, sym, ◌∙◌, ap, ap₂, subst}
use mathlib.Core.Bool.{Bool, true, false, ◌&&◌}
use mathlib.Core.List.{List, [], ◌∷◌, ◌++◌, append-nil}
use native.Mathlib.Omega.{arith}
use lib.Dec.{eqb}
use borrow.Author.Tests.{eq-eqb}
use Rattle.base_words.specs.Pick.{if◌then◌or_else◌}
use Rattle.base_words.specs.Text.{bytes}
use Rattle.base_words.specs.Words.{at}
use Rattle.base_words.proofs.PickLaws.{and_true, and_false_right}
use Rattle.base_kinds.specs.declared.Kind.{Kind}
use Rattle.base_kinds.specs.Kinds as kinds
use Rattle.base_kinds.specs.Kinds.{one, kind_of, keyword_of}
use Rattle.base_table.specs.Places.{entries_place, exits_place}
use Rattle.base_table.specs.Table.{kind_in, entry_at, exit_at}
use Rattle.check_limits.specs.Limits.{count_fits, element_fits}
use Rattle.write_decimals.specs.Decimals.{shown}
use Rattle.write_shown.specs.Shown.{enclosed_by, shown_message, shown_entries, shown_exits, shown_guarded_list, shown_receiving_list, shown_task, shown_part, shown_parts, shown_element}
use Rattle.draw_things.specs.Things.{room, sort, within, source, target, kind, is_node, sequence_flow}
use Rattle.draw_kinds.specs.Counting.{source_in, first_with, of_sort}
use Rattle.draw_numbers.specs.Who.{is_of_kind, sends, receives, is_sender, is_receiver}
use Rattle.draw_numbers.specs.Numbers.{is_start}
use Rattle.draw_model.specs.Drawn.{element_drawn}
use Rattle.proof_steps.proofs.Elements.{row_of}
use Rattle.proof_lengths.proofs.FewParts.{entries_fit, exits_fit}
use Rattle.proof_roundtrip.proofs.KindLaws.{kind_bounds}
use Rattle.proof_roundtrip.proofs.FitLaws.{fits_kind}
use Rattle.proof_map.proofs.KindLaws.{kind_drawn}
use Rattle.proof_spelling.specs.Spelling.{Collaboration, Node, node_at, collaboration_in, parted, called, element_by, element, entries, exits}
use Rattle.proof_spelling.proofs.Texts.{one_fits, one_entry, many_entries}
use Rattle.proof_spelling.proofs.Branches.{one_exit, many_exits, receives_text, sends_text, task_text_lem, start_entry, choices_text, catches_text}

-- PARTS between their signs
one_part : (p : List ℕ) → (code "(" ∷ (p ++ [])) ++ (code ")" ∷ []) ≡ enclosed_by (code "(") (code ")") (parted (code ",") (p ∷ []))
unfolding parted
one_part p = ap (λ (z : List ℕ). code "(" ∷ (z ++ (code ")" ∷ []))) (append-nil p)

two_parts : (p q : List ℕ) → (code "(" ∷ (p ++ (code "," ∷ (q ++ [])))) ++ (code ")" ∷ []) ≡ enclosed_by (code "(") (code ")") (parted (code ",") (p ∷ q ∷ []))
unfolding parted
two_parts p q = ap (λ (z : List ℕ). code "(" ∷ ((p ++ (code "," ∷ z)) ++ (code ")" ∷ []))) (append-nil q)

three_parts : (p q r : List ℕ) → (code "(" ∷ (p ++ (code "," ∷ (q ++ (code "," ∷ (r ++ [])))))) ++ (code ")" ∷ []) ≡ enclosed_by (code "(") (code ")") (parted (code ",") (p ∷ q ∷ r ∷ []))
unfolding parted
three_parts p q r = ap (λ (z : List ℕ). code "(" ∷ ((p ++ (code "," ∷ (q ++ (code "," ∷ z)))) ++ (code ")" ∷ []))) (append-nil r)

four_parts : (p q r s : List ℕ) → (code "(" ∷ (p ++ (code "," ∷ (q ++ (code "," ∷ (r ++ (code "," ∷ (s ++ [])))))))) ++ (code ")" ∷ []) ≡ enclosed_by (code "(") (code ")") (parted (code ",") (p ∷ q ∷ r ∷ s ∷ []))
unfolding parted
four_parts p q r s = ap (λ (z : List ℕ). code "(" ∷ ((p ++ (code "," ∷ (q ++ (code "," ∷ (r ++ (code "," ∷ z)))))) ++ (code ")" ∷ []))) (append-nil s)

three_same : {p q r p₁ q₁ r₁ : List ℕ} → p ≡ p₁ → q ≡ q₁ → r ≡ r₁ → ◌≡◌ {A = List (List ℕ)} (p ∷ q ∷ r ∷ []) (p₁ ∷ q₁ ∷ r₁ ∷ [])
three_same {p} {q} {r} {p₁} {q₁} {r₁} a b c = ap (λ (z : List ℕ). z ∷ q ∷ r ∷ []) a ∙ ap₂ (λ (y z : List ℕ). p₁ ∷ y ∷ z ∷ []) b c

four_same : {p q r s p₁ q₁ r₁ s₁ : List ℕ} → p ≡ p₁ → q ≡ q₁ → r ≡ r₁ → s ≡ s₁ → ◌≡◌ {A = List (List ℕ)} (p ∷ q ∷ r ∷ s ∷ []) (p₁ ∷ q₁ ∷ r₁ ∷ s₁ ∷ [])
four_same {p} {q} {r} {s} {p₁} {q₁} {r₁} {s₁} a b c e = ap₂ (λ (y z : List ℕ). y ∷ z ∷ r ∷ s ∷ []) a b ∙ ap₂ (λ (y z : List ℕ). p₁ ∷ q₁ ∷ y ∷ z ∷ []) c e

-- an element with its parts, each the same as it is spelled
one-called : (word : String) {a p : List ℕ} → a ≡ p → bytes word ++ ((code "(" ∷ (a ++ [])) ++ (code ")" ∷ [])) ≡ called word (p ∷ [])
one-called word {a} e = ap (λ (z : List ℕ). bytes word ++ z) (one_part a) ∙ ap (λ (y : List ℕ). called word (y ∷ [])) e

two_called : (word : String) {a b p q : List ℕ} → a ≡ p → b ≡ q → bytes word ++ ((code "(" ∷ (a ++ (code "," ∷ (b ++ [])))) ++ (code ")" ∷ [])) ≡ called word (p ∷ q ∷ [])
two_called word {a} {b} e f = ap (λ (z : List ℕ). bytes word ++ z) (two_parts a b) ∙ ap₂ (λ (y z : List ℕ). called word (y ∷ z ∷ [])) e f

three_called : (word : String) {a b c p q r : List ℕ} → a ≡ p → b ≡ q → c ≡ r
    → bytes word ++ ((code "(" ∷ (a ++ (code "," ∷ (b ++ (code "," ∷ (c ++ [])))))) ++ (code ")" ∷ [])) ≡ called word (p ∷ q ∷ r ∷ [])
three_called word {a} {b} {c} e f g = ap (λ (z : List ℕ). bytes word ++ z) (three_parts a b c) ∙ ap (called word) (three_same e f g)

four_called : (word : String) {a b c d p q r s : List ℕ} → a ≡ p → b ≡ q → c ≡ r → d ≡ s
    → bytes word ++ ((code "(" ∷ (a ++ (code "," ∷ (b ++ (code "," ∷ (c ++ (code "," ∷ (d ++ [])))))))) ++ (code ")" ∷ [])) ≡ called word (p ∷ q ∷ r ∷ s ∷ [])
four_called word {a} {b} {c} {d} e f g h = ap (λ (z : List ℕ). bytes word ++ z) (four_parts a b c d) ∙ ap (called word) (four_same e f g h)

module _ (t w : List ℕ) (n k : ℕ) (few : n ≤ room) (l : k < n) (node : is_node (sort w k) ≡ true) (fits : element_fits (element_drawn t w n k) ≡ true)
    (goes_on : (j : ℕ) → j < n → of_sort sequence_flow w j ≡ true → is_of_kind kinds.event_based w (source w j) ≡ true → first_with sequence_flow source_in (target w j) w n < n) where
  abbrev x : List ℕ
  x = element_drawn t w n k

  abbrev D : Collaboration
  D = collaboration_in t w n

  abbrev N : Node
  N = node_at w k

  kind_is : kind_in x ≡ kind w k
  kind_is = kind_drawn t w n k

  text_by : (c : ℕ) → kind w k ≡ c → shown_element x ≡ keyword_of c ++ (shown_parts (code "(") (kind_of c).parts x ++ (code ")" ∷ []))
  unfolding shown_element
  text_by c e = ap (λ (i : ℕ). keyword_of i ++ (shown_parts (code "(") (kind_of i).parts x ++ (code ")" ∷ []))) (kind_is ∙ e)

  row : (c : ℕ) → kind w k ≡ c → row_of x ≡ kind_of c
  row c e = ap kind_of (kind_is ∙ e)

  task_as : (c : ℕ) {v : ℕ} → kind w k ≡ c → (kind_of c).task ≡ v → (row_of x).task ≡ v
  task_as c e h = ap (λ (q : Kind). q.task) (row c e) ∙ h

  entry_one : (c : ℕ) → kind w k ≡ c → (kind_of c).entries ≡ one → at x entries_place ≡ 1
  entry_one c e r = one_fits (at x entries_place) (subst (λ (v : ℕ). count_fits v (at x entries_place) ≡ true) (ap (λ (q : Kind). q.entries) (row c e) ∙ r) (entries_fit x fits))

  exit_one : (c : ℕ) → kind w k ≡ c → (kind_of c).exits ≡ one → at x exits_place ≡ 1
  exit_one c e r = one_fits (at x exits_place) (subst (λ (v : ℕ). count_fits v (at x exits_place) ≡ true) (ap (λ (q : Kind). q.exits) (row c e) ∙ r) (exits_fit x fits))

  apart : (c i : ℕ) → kind w k ≡ c → eqb c i ≡ false → eqb (kind w k) i ≡ false
  apart c i e h = ap (λ (v : ℕ). eqb v i) e ∙ h

  receiver : (c : ℕ) → kind w k ≡ c → receives c ≡ true → is_receiver w k ≡ true
  unfolding is_receiver
  receiver c e h = and_true (is_node (sort w k)) (receives (kind w k)) node (ap receives e ∙ h)

  no_receiver : (c : ℕ) → kind w k ≡ c → receives c ≡ false → is_receiver w k ≡ false
  unfolding is_receiver
  no_receiver c e h = and_false_right (is_node (sort w k)) (receives (kind w k)) (ap receives e ∙ h)

  sender : (c : ℕ) → kind w k ≡ c → sends c ≡ true → is_sender w k ≡ true
  unfolding is_sender
  sender c e h = and_true (is_node (sort w k)) (sends (kind w k)) node (ap sends e ∙ h)

  is_start_lem : kind w k ≡ kinds.start → is_start (within w k) w k ≡ true
  unfolding is_start is_of_kind
  is_start_lem e =
      and_true (is_node (sort w k) && eqb (kind w k) kinds.start) (eqb (within w k) (within w k)) (and_true (is_node (sort w k)) (eqb (kind w k) kinds.start) node (ap (λ (v : ℕ). eqb v kinds.start) e)) (eq-eqb (within w k) (within w k) refl)

  branch_goes_on : kind w k ≡ kinds.event_based → (j : ℕ) → j < n → of_sort sequence_flow w j ≡ true → source w j ≡ k → first_with sequence_flow source_in (target w j) w n < n
  branch_goes_on e j u s q = goes_on j u s (subst (λ (i : ℕ). is_of_kind kinds.event_based w i ≡ true) (sym q) (unfold is_of_kind in and_true (is_node (sort w k)) (eqb (kind w k) kinds.event_based) node (ap (λ (v : ℕ). eqb v kinds.event_based) e)))

  -- one entry, one exit, the work of a task, by the kind
  entered : (c : ℕ) → kind w k ≡ c → eqb c kinds.start ≡ false → (kind_of c).entries ≡ one → shown (entry_at x 0) ≡ entries D N
  entered c e s r = one_entry t w n k few fits (apart c kinds.start e s) (entry_one c e r)

  left : (c : ℕ) → kind w k ≡ c → eqb c kinds.event_based ≡ false → eqb c kinds.xor_split ≡ false → (kind_of c).exits ≡ one → shown (exit_at x 0) ≡ exits D N
  left c e g s r = one_exit t w n k few fits (apart c kinds.event_based e g) (apart c kinds.xor_split e s) (exit_one c e r)

  as_start : kind w k ≡ kinds.start → shown_element x ≡ element_by kinds.start D N
  unfolding kind_of shown_parts shown_part if◌then◌or_else◌ element_by
  as_start e =
      text_by kinds.start e
      ∙ two_called "start"
      (start_entry t w n k few fits (apart kinds.start kinds.event_based e refl) (apart kinds.start kinds.xor_split e refl) (is_start_lem e) (task_as kinds.start e (unfold kind_of in refl)) (omega (arith, l)) (entry_one kinds.start e (unfold kind_of in refl)))
      (left kinds.start e refl refl (unfold kind_of in refl))

  as_start_rcv : kind w k ≡ kinds.start_rcv → shown_element x ≡ element_by kinds.start_rcv D N
  unfolding kind_of shown_parts shown_part if◌then◌or_else◌ element_by
  as_start_rcv e =
      text_by kinds.start_rcv e
      ∙ two_called "startRcv"
      (receives_text t w n k few fits (apart kinds.start_rcv kinds.event_based e refl) (apart kinds.start_rcv kinds.xor_split e refl) (receiver kinds.start_rcv e (unfold receives in refl)))
      (left kinds.start_rcv e refl refl (unfold kind_of in refl))

  as_end : kind w k ≡ kinds.end → shown_element x ≡ element_by kinds.end D N
  unfolding kind_of shown_parts shown_part if◌then◌or_else◌ element_by
  as_end e =
      text_by kinds.end e
      ∙ one-called "end" (entered kinds.end e refl (unfold kind_of in refl))

  as_terminate : kind w k ≡ kinds.terminate → shown_element x ≡ element_by kinds.terminate D N
  unfolding kind_of shown_parts shown_part if◌then◌or_else◌ element_by
  as_terminate e =
      text_by kinds.terminate e
      ∙ one-called "terminate" (entered kinds.terminate e refl (unfold kind_of in refl))

  as_end_snd : kind w k ≡ kinds.end_snd → shown_element x ≡ element_by kinds.end_snd D N
  unfolding kind_of shown_parts shown_part if◌then◌or_else◌ element_by
  as_end_snd e =
      text_by kinds.end_snd e
      ∙ two_called "endSnd"
      (entered kinds.end_snd e refl (unfold kind_of in refl))
      (sends_text t w n k few fits (apart kinds.end_snd kinds.event_based e refl) (apart kinds.end_snd kinds.xor_split e refl) (no_receiver kinds.end_snd e (unfold receives in refl)) (sender kinds.end_snd e (unfold sends in refl)))

  as_inter_rcv : kind w k ≡ kinds.inter_rcv → shown_element x ≡ element_by kinds.inter_rcv D N
  unfolding kind_of shown_parts shown_part if◌then◌or_else◌ element_by
  as_inter_rcv e =
      text_by kinds.inter_rcv e
      ∙ three_called "interRcv"
      (entered kinds.inter_rcv e refl (unfold kind_of in refl))
      (receives_text t w n k few fits (apart kinds.inter_rcv kinds.event_based e refl) (apart kinds.inter_rcv kinds.xor_split e refl) (receiver kinds.inter_rcv e (unfold receives in refl)))
      (left kinds.inter_rcv e refl refl (unfold kind_of in refl))

  as_inter_snd : kind w k ≡ kinds.inter_snd → shown_element x ≡ element_by kinds.inter_snd D N
  unfolding kind_of shown_parts shown_part if◌then◌or_else◌ element_by
  as_inter_snd e =
      text_by kinds.inter_snd e
      ∙ three_called "interSnd"
      (entered kinds.inter_snd e refl (unfold kind_of in refl))
      (sends_text t w n k few fits (apart kinds.inter_snd kinds.event_based e refl) (apart kinds.inter_snd kinds.xor_split e refl) (no_receiver kinds.inter_snd e (unfold receives in refl)) (sender kinds.inter_snd e (unfold sends in refl)))
      (left kinds.inter_snd e refl refl (unfold kind_of in refl))

  as_event_based : kind w k ≡ kinds.event_based → shown_element x ≡ element_by kinds.event_based D N
  unfolding kind_of shown_parts shown_part if◌then◌or_else◌ element_by
  as_event_based e =
      text_by kinds.event_based e
      ∙ two_called "eventBased"
      (entered kinds.event_based e refl (unfold kind_of in refl))
      (catches_text t w n k few fits (ap (λ (v : ℕ). eqb v kinds.event_based) e) (branch_goes_on e))

  as_and_split : kind w k ≡ kinds.and_split → shown_element x ≡ element_by kinds.and_split D N
  unfolding kind_of shown_parts shown_part if◌then◌or_else◌ element_by
  as_and_split e =
      text_by kinds.and_split e
      ∙ two_called "andSplit"
      (entered kinds.and_split e refl (unfold kind_of in refl))
      (many_exits t w n k few fits (apart kinds.and_split kinds.event_based e refl) (apart kinds.and_split kinds.xor_split e refl))

  as_and_join : kind w k ≡ kinds.and_join → shown_element x ≡ element_by kinds.and_join D N
  unfolding kind_of shown_parts shown_part if◌then◌or_else◌ element_by
  as_and_join e =
      text_by kinds.and_join e
      ∙ two_called "andJoin"
      (many_entries t w n k few fits (apart kinds.and_join kinds.start e refl))
      (left kinds.and_join e refl refl (unfold kind_of in refl))

  as_xor_join : kind w k ≡ kinds.xor_join → shown_element x ≡ element_by kinds.xor_join D N
  unfolding kind_of shown_parts shown_part if◌then◌or_else◌ element_by
  as_xor_join e =
      text_by kinds.xor_join e
      ∙ two_called "xorJoin"
      (many_entries t w n k few fits (apart kinds.xor_join kinds.start e refl))
      (left kinds.xor_join e refl refl (unfold kind_of in refl))

  as_xor_split : kind w k ≡ kinds.xor_split → shown_element x ≡ element_by kinds.xor_split D N
  unfolding kind_of shown_parts shown_part if◌then◌or_else◌ element_by
  as_xor_split e =
      text_by kinds.xor_split e
      ∙ two_called "xorSplit"
      (entered kinds.xor_split e refl (unfold kind_of in refl))
      (choices_text t w n k few fits (apart kinds.xor_split kinds.event_based e refl) (ap (λ (v : ℕ). eqb v kinds.xor_split) e))

  as_task : kind w k ≡ kinds.task → shown_element x ≡ element_by kinds.task D N
  unfolding kind_of shown_parts shown_part if◌then◌or_else◌ element_by
  as_task e =
      text_by kinds.task e
      ∙ three_called "task"
      (entered kinds.task e refl (unfold kind_of in refl))
      (task_text_lem t w n k few fits (apart kinds.task kinds.event_based e refl) (apart kinds.task kinds.xor_split e refl) (task_as kinds.task e (unfold kind_of in refl)) (omega (arith, l)))
      (left kinds.task e refl refl (unfold kind_of in refl))

  as_task_rcv : kind w k ≡ kinds.task_rcv → shown_element x ≡ element_by kinds.task_rcv D N
  unfolding kind_of shown_parts shown_part if◌then◌or_else◌ element_by
  as_task_rcv e =
      text_by kinds.task_rcv e
      ∙ four_called "taskRcv"
      (entered kinds.task_rcv e refl (unfold kind_of in refl))
      (task_text_lem t w n k few fits (apart kinds.task_rcv kinds.event_based e refl) (apart kinds.task_rcv kinds.xor_split e refl) (task_as kinds.task_rcv e (unfold kind_of in refl)) (omega (arith, l)))
      (receives_text t w n k few fits (apart kinds.task_rcv kinds.event_based e refl) (apart kinds.task_rcv kinds.xor_split e refl) (receiver kinds.task_rcv e (unfold receives in refl)))
      (left kinds.task_rcv e refl refl (unfold kind_of in refl))

  as_task_snd : kind w k ≡ kinds.task_snd → shown_element x ≡ element_by kinds.task_snd D N
  unfolding kind_of shown_parts shown_part if◌then◌or_else◌ element_by
  as_task_snd e =
      text_by kinds.task_snd e
      ∙ four_called "taskSnd"
      (entered kinds.task_snd e refl (unfold kind_of in refl))
      (task_text_lem t w n k few fits (apart kinds.task_snd kinds.event_based e refl) (apart kinds.task_snd kinds.xor_split e refl) (task_as kinds.task_snd e (unfold kind_of in refl)) (omega (arith, l)))
      (sends_text t w n k few fits (apart kinds.task_snd kinds.event_based e refl) (apart kinds.task_snd kinds.xor_split e refl) (no_receiver kinds.task_snd e (unfold receives in refl)) (sender kinds.task_snd e (unfold sends in refl)))
      (left kinds.task_snd e refl refl (unfold kind_of in refl))

  by_kind : (c : ℕ) → kind w k ≡ c → 0 < c → c < 16 → shown_element x ≡ element_by c D N
  by_kind zero e a b = absurd (omega (arith, a))
  by_kind (suc zero) e a b = as_start e
  by_kind (suc (suc zero)) e a b = as_start_rcv e
  by_kind (suc (suc (suc zero))) e a b = as_end e
  by_kind (suc (suc (suc (suc zero)))) e a b = as_terminate e
  by_kind (suc (suc (suc (suc (suc zero))))) e a b = as_end_snd e
  by_kind (suc (suc (suc (suc (suc (suc zero)))))) e a b = as_inter_rcv e
  by_kind (suc (suc (suc (suc (suc (suc (suc zero))))))) e a b = as_inter_snd e
  by_kind (suc (suc (suc (suc (suc (suc (suc (suc zero)))))))) e a b = as_event_based e
  by_kind (suc (suc (suc (suc (suc (suc (suc (suc (suc zero))))))))) e a b = as_and_split e
  by_kind (suc (suc (suc (suc (suc (suc (suc (suc (suc (suc zero)))))))))) e a b = as_and_join e
  by_kind (suc (suc (suc (suc (suc (suc (suc (suc (suc (suc (suc zero))))))))))) e a b = as_xor_join e
  by_kind (suc (suc (suc (suc (suc (suc (suc (suc (suc (suc (suc (suc zero)))))))))))) e a b = as_xor_split e
  by_kind (suc (suc (suc (suc (suc (suc (suc (suc (suc (suc (suc (suc (suc zero))))))))))))) e a b = as_task e
  by_kind (suc (suc (suc (suc (suc (suc (suc (suc (suc (suc (suc (suc (suc (suc zero)))))))))))))) e a b = as_task_rcv e
  by_kind (suc (suc (suc (suc (suc (suc (suc (suc (suc (suc (suc (suc (suc (suc (suc zero))))))))))))))) e a b = as_task_snd e
  by_kind (suc (suc (suc (suc (suc (suc (suc (suc (suc (suc (suc (suc (suc (suc (suc (suc c)))))))))))))))) e a b = absurd (omega (arith, b))

  -- THE LAW
  pub element_spelled : shown_element x ≡ element D N
  unfolding element
  element_spelled = let b = kind_bounds (kind_in x) (fits_kind x fits) in by_kind (kind w k) refl (omega (arith, b.0, kind_is)) (omega (arith, b.1, kind_is))
