-- THE TWO TABLES, t of a model as its text says it and t' of the model as it is rewritten: the same pools; an element stays at its place, word for word, or was an endSnd and sends to an edge of its own now. Assumes nothing.
use Prim.Native.Nat.{ℕ, zero, suc, ◌≤◌, ◌<◌}
use mathlib.Core.Path.{◌≡◌, refl, sym, ◌∙◌, ap, ap₂, subst}
use mathlib.Core.Bool.{true, not, ◌&&◌}
use mathlib.Core.List.{List, [], map}
use mathlib.Core.Logic.{◌⊎◌, inl, inr, ⊎_elim}
use native.Mathlib.Nat.{eq-or-lt_of_le}
use native.Mathlib.Omega.{arith}
use lib.Dec.{eqb}
use lib.ListN.{length, get_or}
use lib.Seq.{get_or-take}
use borrow.Author.Tests.{eqb-true, eq-eqb}
use Rattle.base_words.specs.Counts.{pools, branches, edges}
use Rattle.base_words.specs.Each.{each, total}
use Rattle.base_words.specs.Pick.{if◌then◌or_else◌}
use Rattle.base_words.specs.Seek.{seek}
use Rattle.base_words.specs.Sum.{sum, hit, one_if}
use Rattle.base_words.specs.Words.{at}
use Rattle.base_words.proofs.AllLaws.{and_left, and_right}
use Rattle.base_words.proofs.ListLaws.{each_at, length-tab, get_d_tab}
use Rattle.base_words.proofs.SeekLaws.{sought}
use Rattle.base_kinds.specs.declared.moves.Move.{Move}
use Rattle.base_kinds.specs.Kinds.{kind_of, used, end_snd, inter_snd}
use Rattle.base_kinds.specs.Moves.{every, moves, no_move, rules, mode_of, is_rule, rule_of, move_of}
use Rattle.base_table.specs.Places.{kind_place, task_place, mode_place, entries_place, exits_place, edge_place, pool_place, element_words}
use Rattle.base_table.specs.Table.{element_count, element_at, has_number, pool_of, kind_in, mode_in, entry_count, exit_count, entry_at, exit_at}
use Rattle.base_state.specs.Places.{token_place}
use Rattle.check_limits.specs.Limits.{task_fits, parts_fit, element_fits}
use Rattle.check_limits.proofs.SameLaws.{Same}
use Rattle.check_occurrences.specs.Occurrences.{as_exit, as_entry}
use Rattle.check_model.specs.Checks.{Pool}
use Rattle.text_ends.specs.Rewriting.{is_end_snd, mentioned, sending_to, all_treated, rewritten, room_for, has_room}
use Rattle.text_ends.proofs.RewriteLaws.{seek_ext}
use Rattle.text_passes.specs.Model.{no_pool}
use Rattle.text_read.specs.Notation.{table_of}
use Rattle.proof_steps.proofs.Choices.{chosen_true}
use Rattle.proof_steps.proofs.Elements.{entry_within, exit_within}
use Rattle.proof_steps.proofs.Rows.{row_kind}
use Rattle.proof_roundtrip.proofs.FitsLaws.{task_fits_lem}
use Rattle.proof_roundtrip.proofs.EndModels.{Every, every_in, Right, Fit, Model}
use Rattle.proof_roundtrip.proofs.EndSends as Sends
use Rattle.proof_roundtrip.proofs.EndCounts.{entries_few, exits_few, entry_mentioned, exit_mentioned}
use Rattle.proof_roundtrip.specs.Blocks.{words_at, block_at}
use Rattle.proof_saved.proofs.SavedStates.{counts, counts', fit as fit_of, has as has_room_lem, old as old-block, new as new-block}
use Rattle.proof_oldlogs.proofs.Elements.{Paired, Deeds}
use Rattle.proof_oldlogs.proofs.Spots.{total_at, edge_in, Ended, Spots, spots}

-- THE ROWS for endSnd and interSnd
module _ (k m p : ℕ) (there : (move_of k m p).kind ≡ 0 → ⊥) where
  row_phase : (move_of k m p).phase ≡ p
  unfolding move_of rule_of is_rule
  row_phase =
      let s = sought (is_rule k m p) rules in
      let i : ℕ = seek (is_rule k m p) rules in
      let r : Move = get_or moves i no_move in
      ⊎_elim (λ e. absurd (there (ap (λ (j : ℕ). (get_or moves j no_move).kind) e)))
      (λ h. eqb-true r.phase p (and_right (eqb r.kind k && eqb r.mode (mode_of m)) (eqb r.phase p) (s.1 h)))
      (eq-or-lt_of_le s.0)

  pub phase_none : k ≡ end_snd → p ≡ 0
  unfolding move_of each if◌then◌or_else◌
  phase_none e =
      let a = each_at (λ (r : Move). if eqb r.kind end_snd then eqb r.phase 0 or_else true) moves no_move refl refl (rule_of k m p) in
      sym row_phase ∙ eqb-true (move_of k m p).phase 0 (chosen_true (eqb (move_of k m p).kind end_snd) _ true a (eq-eqb (move_of k m p).kind end_snd (row_kind k m p there ∙ e)))

abbrev pub ending : Move
ending = move_of end_snd 0 0

abbrev pub sending : Move
sending = move_of inter_snd 0 0

pub send_deeds : Deeds ending sending
unfolding move_of rule_of is_rule mode_of seek if◌then◌or_else◌
send_deeds = record { takes = refl; asks = refl; receives = refl; assigns = refl; sends = refl; active = refl; ready = refl; alone = refl; also = refl }

pub ending_is : (ending.takes ≡ every) × (ending.puts ≡ 0) × (ending.asks ≡ 0)
unfolding move_of rule_of is_rule mode_of seek if◌then◌or_else◌
ending_is = (refl, refl, refl)

pub sending_is : (sending.takes ≡ every) × (sending.puts ≡ every) × (sending.kind ≡ inter_snd)
unfolding move_of rule_of is_rule mode_of seek if◌then◌or_else◌
sending_is = (refl, refl, refl)

-- AN EDGE THAT NO ELEMENT MENTIONS, and the place of its tokens; the other places
pub record Unmentioned (els : List (List ℕ)) (k : ℕ) : Type 0 where
  pub edge : ℕ
  pub low : 1 ≤ edge
  pub high : edge ≤ edges
  pub free : total (mentioned edge) els ≡ 0
  pub place : k ≡ token_place edge

abbrev pub Kept : List (List ℕ) → ℕ → Type 0
Kept els k = Unmentioned els k → ⊥

pub kept_high : (els : List (List ℕ)) (k : ℕ) → edges ≤ k → Kept els k
kept_high els k l u = omega (arith, l, u.low, u.high, u.place)

sum_at : (g : ℕ → ℕ) (k n : ℕ) → k < n → g k ≤ sum g n
unfolding sum
sum_at g k zero l = absurd (omega arith)
sum_at g k (suc n) l = ⊎_elim (λ e. let q : g k ≡ g n = ap g e in omega (arith, q)) (λ h. omega (arith, sum_at g k n h)) (eq-or-lt_of_le (let w : k ≤ n = omega arith in w))

-- an edge that an element has
module _ (els : List (List ℕ)) (every : Every Right els) (e : ℕ) (l : e < length els) where
  abbrev el : List ℕ
  el = get_or els e []

  r : Right el
  r = every_in Right els [] e every l

  pub entry_kept : (j : ℕ) → j < entry_count el → Kept els (token_place (entry_at el j))
  entry_kept j h u =
      let w = entry_within el r.fits j h in
      let same : entry_at el j ≡ u.edge = omega (arith, w.0, u.low, u.place) in
      let one : hit (entry_at el j) u.edge ≡ 1 = ap one_if (eq-eqb (entry_at el j) u.edge same) in
      let c : hit (entry_at el j) u.edge ≤ as_entry u.edge el = unfold as_entry in sum_at (λ i. hit (entry_at el i) u.edge) j (entry_count el) h in
      omega (arith, one, c, entry_mentioned el r u.edge, total_at (mentioned u.edge) els e l, u.free)

  pub exit_kept : (j : ℕ) → j < exit_count el → Kept els (token_place (exit_at el j))
  exit_kept j h u =
      let w = exit_within el r.fits j h in
      let same : exit_at el j ≡ u.edge = omega (arith, w.0, u.low, u.place) in
      let one : hit (exit_at el j) u.edge ≡ 1 = ap one_if (eq-eqb (exit_at el j) u.edge same) in
      let c : hit (exit_at el j) u.edge ≤ as_exit u.edge el = unfold as_exit in sum_at (λ i. hit (exit_at el i) u.edge) j (exit_count el) h in
      omega (arith, one, c, exit_mentioned el r u.edge, total_at (mentioned u.edge) els e l, u.free)

  pub few_entries : entry_count el ≤ branches
  few_entries = entries_few el r

  pub few_exits : exit_count el ≤ branches
  few_exits = exits_few el r

-- an endSnd x has no mode, one entry and no exit
module _ (x : List ℕ) (r : Right x) (is : is_end_snd x ≡ true) where
  pub end_mode : mode_in x ≡ 0
  unfolding is_end_snd element_fits kind_of task_fits if◌then◌or_else◌
  end_mode =
      let was : kind_in x ≡ end_snd = eqb-true (kind_in x) end_snd is in
      let parts : parts_fit (kind_of end_snd) x ≡ true = ap (λ k. parts_fit (kind_of k) x) (sym was) ∙ and_right (not (eqb (kind_of (kind_in x)).letters 0)) _ r.fits in
      eqb-true (mode_in x) 0 (and_right (eqb (at x task_place) 0) (eqb (mode_in x) 0) (and_left (eqb (at x task_place) 0 && eqb (mode_in x) 0) _ (task_fits_lem (kind_of end_snd) x parts)))

-- WHAT BECAME OF AN ELEMENT, x and y being the words from its place on in the two tables
pub record Sent (els : List (List ℕ)) (x y : List ℕ) : Type 0 where
  pub was : kind_in x ≡ end_snd
  pub is : kind_in y ≡ inter_snd
  pub mode : mode_in x ≡ 0
  pub words : Paired x y
  pub low : 1 ≤ exit_at y 0
  pub high : exit_at y 0 ≤ edges
  pub free : total (mentioned (exit_at y 0)) els ≡ 0

-- a pool of a model, its elements, and what they become
abbrev pub pool_in : List Pool → ℕ → Pool
pool_in ps p = get_or ps p no_pool

abbrev pub els_in : List Pool → ℕ → List (List ℕ)
els_in ps p = (pool_in ps p).elements

abbrev pub ends_in : List Pool → ℕ → List (List ℕ)
ends_in ps p = all_treated (els_in ps p)

module _ (ps : List Pool) (model : Model ps) (room : each has_room ps ≡ true) where
  abbrev t : List ℕ
  t = table_of ps

  abbrev t' : List ℕ
  t' = table_of (map rewritten ps)

  abbrev pool : ℕ → Pool
  pool p = pool_in ps p

  abbrev els : ℕ → List (List ℕ)
  els p = els_in ps p

  abbrev ends : ℕ → List (List ℕ)
  ends p = ends_in ps p

  module _ (p : ℕ) (l : p < length ps) where
    fit : Fit (pool p)
    fit = fit_of ps model room p l

    pub has : room_for (els p) ≡ true
    unfolding has_room
    has = has_room_lem ps model room p l

    old : block_at t p ≡ pool p
    old = old-block ps model room p l

    new : block_at t' p ≡ rewritten (pool p)
    new = new-block ps model room p l

    pub number_is : at t (pool_place p) ≡ (pool p).number
    unfolding block_at
    number_is = ap (λ (b : Pool). b.number) old

    pub number_same : at t' (pool_place p) ≡ at t (pool_place p)
    unfolding block_at rewritten
    number_same = ap (λ (b : Pool). b.number) new ∙ sym number_is

    pub count_old : element_count t p ≡ length (els p)
    unfolding block_at
    count_old = sym (length-tab (words_at t p) (element_count t p)) ∙ ap (λ (b : Pool). length b.elements) old

    pub count_new : element_count t' p ≡ length (ends p)
    unfolding block_at rewritten
    count_new = sym (length-tab (words_at t' p) (element_count t' p)) ∙ ap (λ (b : Pool). length b.elements) new

    pub spots_of : Spots (els p) (ends p)
    spots_of = spots (els p) fit.every has

    module _ (e : ℕ) (h : e < length (els p)) where
      pub word_old : (i : ℕ) → i < element_words → at (element_at t p e) i ≡ at (get_or (els p) e []) i
      unfolding block_at
      word_old i u =
          sym (get_or-take element_words (element_at t p e) i 0 u)
          ∙ ap (λ (w : List ℕ). at w i) (sym (get_d_tab (words_at t p) (element_count t p) e [] (omega (arith, h, count_old))))
          ∙ ap (λ (b : Pool). at (get_or b.elements e []) i) old

      pub word_new : (i : ℕ) → i < element_words → at (element_at t' p e) i ≡ at (get_or (ends p) e []) i
      unfolding block_at rewritten
      word_new i u =
          sym (get_or-take element_words (element_at t' p e) i 0 u)
          ∙ ap (λ (w : List ℕ). at w i) (sym (get_d_tab (words_at t' p) (element_count t' p) e [] (omega (arith, h, count_new, spots_of.longer))))
          ∙ ap (λ (b : Pool). at (get_or b.elements e []) i) new

      abbrev x : List ℕ
      x = element_at t p e

      abbrev y : List ℕ
      y = element_at t' p e

      right : Right (get_or (els p) e [])
      right = every_in Right (els p) [] e fit.every h

      -- its edge, in the table and in the rewritten model
      pub edge_new : exit_at y 0 ≡ edge_in (ends p) e
      edge_new = word_new (edge_place exits_place 0) (omega arith)

      stayed : get_or (ends p) e [] ≡ get_or (els p) e [] → Same element_words x y
      stayed q i u = word_new i u ∙ ap (λ (w : List ℕ). at w i) q ∙ sym (word_old i u)

      sent : Ended (els p) (ends p) e → Sent (els p) x y
      unfolding is_end_snd
      sent d =
          let f : ℕ = edge_in (ends p) e in
          let z : List ℕ = get_or (els p) e [] in
          let went : (i : ℕ) → i < element_words → at y i ≡ at (sending_to f z) i = λ i u. word_new i u ∙ ap (λ (w : List ℕ). at w i) d.goes in
          record {
            was = word_old kind_place (omega arith) ∙ eqb-true (kind_in z) end_snd d.was;
            is = went kind_place (omega arith) ∙ Sends.kind_is z right d.was f;
            mode = word_old mode_place (omega arith) ∙ end_mode z right d.was;
            words = λ i u a b c. went i u ∙ Sends.other z right d.was f i a b c ∙ sym (word_old i u);
            low = omega (arith, edge_new, d.low);
            high = omega (arith, edge_new, d.high);
            free = subst (λ (k : ℕ). total (mentioned k) (els p) ≡ 0) (sym edge_new) d.free;
          }

      pub became : Same element_words x y ⊎ Sent (els p) x y
      became = ⊎_elim (λ q. inl (stayed q)) (λ d. inr (sent d)) (spots_of.each e h)

      -- the parts of the old element are those of the model's
      pub entries_old : entry_count x ≡ entry_count (get_or (els p) e [])
      unfolding entry_count
      entries_old = ap₂ (λ k n. used (kind_of k).entries n) (word_old kind_place (omega arith)) (word_old entries_place (omega arith))

      pub exits_old : exit_count x ≡ exit_count (get_or (els p) e [])
      unfolding exit_count
      exits_old = ap₂ (λ k n. used (kind_of k).exits n) (word_old kind_place (omega arith)) (word_old exits_place (omega arith))

      pub entries_kept : (j : ℕ) → j < entry_count x → Kept (els p) (token_place (entry_at x j))
      entries_kept j u =
          let z : List ℕ = get_or (els p) e [] in
          let v : j < entry_count z = omega (arith, u, entries_old) in
          subst (λ (k : ℕ). Kept (els p) (token_place k)) (sym (word_old (edge_place entries_place j) (omega (arith, v, few_entries (els p) fit.every e h)))) (entry_kept (els p) fit.every e h j v)

      pub entries_within : (j : ℕ) → j < entry_count x → (1 ≤ entry_at x j) × (entry_at x j ≤ edges)
      entries_within j u =
          let z : List ℕ = get_or (els p) e [] in
          let v : j < entry_count z = omega (arith, u, entries_old) in
          subst (λ (k : ℕ). (1 ≤ k) × (k ≤ edges)) (sym (word_old (edge_place entries_place j) (omega (arith, v, few_entries (els p) fit.every e h)))) (entry_within z right.fits j v)

      pub exits_kept : (j : ℕ) → j < exit_count x → Kept (els p) (token_place (exit_at x j))
      exits_kept j u =
          let z : List ℕ = get_or (els p) e [] in
          let v : j < exit_count z = omega (arith, u, exits_old) in
          subst (λ (k : ℕ). Kept (els p) (token_place k)) (sym (word_old (edge_place exits_place j) (omega (arith, v, few_exits (els p) fit.every e h)))) (exit_kept (els p) fit.every e h j v)

      pub entries_most : entry_count x ≤ branches
      entries_most = omega (arith, entries_old, few_entries (els p) fit.every e h)

      pub exits_most : exit_count x ≤ branches
      exits_most = omega (arith, exits_old, few_exits (els p) fit.every e h)

  -- the pool with a number stands at the same place
  pub pools_same : (number : ℕ) → pool_of t' number ≡ pool_of t number
  unfolding pool_of has_number
  pools_same number =
      ap (seek (λ p. eqb (at t' (pool_place p)) number)) (counts' ps model room)
      ∙ seek_ext (λ p. eqb (at t' (pool_place p)) number) (λ p. eqb (at t (pool_place p)) number) (length ps) (λ p l. ap (λ k. eqb k number) (number_same p l))
      ∙ sym (ap (seek (λ p. eqb (at t (pool_place p)) number)) (counts ps model room))
