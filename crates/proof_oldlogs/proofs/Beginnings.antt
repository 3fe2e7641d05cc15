-- THE FRESH STATES of the two tables are the same word for word, and no edge that the text's pool does not mention has a token in them. Assumes nothing.
use Prim.Native.Nat.{ℕ, ◌+◌, ◌≤◌, ◌<◌}
use mathlib.Core.Path.{◌≡◌, refl, sym, ◌∙◌, ap, subst}
use mathlib.Core.Bool.{Bool, true, false, false≢true}
use mathlib.Core.List.{List, map}
use mathlib.Core.Logic.{◌⊎◌, inl, inr}
use native.Mathlib.Omega.{arith}
use lib.Dec.{eqb}
use lib.ListN.{length, set, replicate, get_or-replicate}
use lib.Seq.{get_or-set_other}
use borrow.Author.Tests.{eqb-true, ltb-true}
use Rattle.base_words.specs.Counts.{instances, edges}
use Rattle.base_words.specs.Each.{each}
use Rattle.base_words.specs.Iter.{iter}
use Rattle.base_words.specs.Pick.{if◌then◌or_else◌}
use Rattle.base_words.specs.Seek.{seek}
use Rattle.base_words.specs.Words.{at}
use Rattle.base_words.proofs.IterLaws.{iter_keeps}
use Rattle.base_words.proofs.SeekLaws.{sought, seek_found}
use Rattle.base_kinds.specs.Kinds.{kind_of, used, start}
use Rattle.base_table.specs.Places.{kind_place, entries_place, edge_place, element_words}
use Rattle.base_table.specs.Table.{pool_count, element_count, element_at, kind_in, entry_count, entry_at}
use Rattle.base_state.specs.Places.{token_place, made_place, instance_place, version_at, state_words}
use Rattle.check_limits.proofs.SameLaws.{Same}
use Rattle.check_model.specs.Checks.{Pool}
use Rattle.state_fits.specs.Fits.{is_start, start_place, has_start}
use Rattle.state_fits.specs.Fresh.{start_edge, pool_begun, fresh}
use Rattle.step_queues.proofs.SlotLaws.{by_below, by_order}
use Rattle.text_ends.specs.Rewriting.{rewritten, has_room}
use Rattle.text_read.specs.Notation.{table_of}
use Rattle.proof_steps.proofs.Choices.{by_choice}
use Rattle.proof_roundtrip.proofs.EndModels.{Model}
use Rattle.proof_saved.proofs.SavedStates.{counts, counts', start_same}
use Rattle.proof_oldlogs.proofs.Alike.{choice_both, iter_both}
use Rattle.proof_oldlogs.proofs.Pools.{Unmentioned, Kept, Sent, els_in, count_old, count_new, spots_of, became, entries_kept, entries_within}

-- where none passes before i, the first of the first i is i
none_before : (f : ℕ → Bool) (i : ℕ) → ((j : ℕ) → j < i → f j ≡ false) → seek f i ≡ i
none_before f i h =
    let s = sought f i in
    by_below (seek f i) i (λ l. absurd (false≢true (sym (h (seek f i) l) ∙ s.1 l))) (λ l. omega (arith, l, s.0))

module _ (ps : List Pool) (model : Model ps) (room : each has_room ps ≡ true) where
  abbrev t : List ℕ
  t = table_of ps

  abbrev t' : List ℕ
  t' = table_of (map rewritten ps)

  module _ (p : ℕ) (l : p < length ps) where
    -- an element is a start in both or in none
    starts_alike : (e : ℕ) → e < length (els_in ps p) → is_start t' p e ≡ is_start t p e
    unfolding is_start
    starts_alike e h = go (became ps model room p l e h)
      where
        go : Same element_words (element_at t p e) (element_at t' p e) ⊎ Sent (els_in ps p) (element_at t p e) (element_at t' p e) → eqb (kind_in (element_at t' p e)) start ≡ eqb (kind_in (element_at t p e)) start
        go (inl s) = ap (λ k. eqb k start) (s kind_place (omega arith))
        go (inr d) = ap (λ k. eqb k start) d.is ∙ sym (ap (λ k. eqb k start) d.was)

    module _ (o : has_start t p ≡ true) where
      abbrev e : ℕ
      e = start_place t p

      there : e < element_count t p
      unfolding has_start
      there = ltb-true (start_place t p) (element_count t p) o

      h : e < length (els_in ps p)
      h = omega (arith, there, count_old ps model room p l)

      is_start_lem : is_start t p e ≡ true
      unfolding start_place
      is_start_lem = (sought (is_start t p) (element_count t p)).1 there

      place_same : start_place t' p ≡ e
      unfolding start_place
      place_same =
          let none : (j : ℕ) → j < e → is_start t p j ≡ false = (sought (is_start t p) (element_count t p)).2 in
          sym (seek_found (is_start t' p) (element_count t' p) e (omega (arith, h, count_new ps model room p l, (spots_of ps model room p l).longer))
          (none_before (is_start t' p) e (λ j u. starts_alike j (omega (arith, u, h)) ∙ none j u))
          (starts_alike e h ∙ is_start_lem))

      start_kind : kind_in (element_at t p e) ≡ start
      unfolding is_start
      start_kind = eqb-true (kind_in (element_at t p e)) start (unfold is_start in is_start_lem)

      edge_same : start_edge t' p ≡ start_edge t p
      unfolding start_edge
      edge_same = ap (λ k. entry_at (element_at t' p k) 0) place_same ∙ go (became ps model room p l e h)
        where
          go : Same element_words (element_at t p e) (element_at t' p e) ⊎ Sent (els_in ps p) (element_at t p e) (element_at t' p e) → entry_at (element_at t' p e) 0 ≡ entry_at (element_at t p e) 0
          go (inl s) = s (edge_place entries_place 0) (omega arith)
          go (inr d) = d.words (edge_place entries_place 0) (omega arith) (λ z. omega arith) (λ z. omega arith) (λ z. omega arith)

      -- start's first edge is mentioned
      edge_there : 0 < entry_count (element_at t p e)
      unfolding entry_count kind_of used if◌then◌or_else◌
      edge_there = let z : used (kind_of (kind_in (element_at t p e))).entries (at (element_at t p e) entries_place) ≡ 1 = ap (λ k. used (kind_of k).entries (at (element_at t p e) entries_place)) start_kind in omega (arith, z)

      edge_kept : Kept (els_in ps p) (token_place (start_edge t p))
      unfolding start_edge
      edge_kept = entries_kept ps model room p l e h 0 edge_there

      edge_within : (1 ≤ start_edge t p) × (start_edge t p ≤ edges)
      unfolding start_edge
      edge_within = entries_within ps model room p l e h 0 edge_there

    begun_same : (z : List ℕ) → pool_begun t' p z ≡ pool_begun t p z
    unfolding pool_begun
    begun_same z =
        choice_both (λ (a d : List ℕ). d ≡ a) (has_start t p) (has_start t' p) _ _ _ _ (start_same ps model room p l)
        (λ o. ap (λ k. set (set z (made_place p) 1) (instance_place p 0 + token_place k) 1) (edge_same o)) (λ o. refl)

  pub fresh_same : (v : ℕ) → fresh t' v ≡ fresh t v
  unfolding fresh
  fresh_same v =
      ap (λ (z : List ℕ). set z version_at v)
      (ap (iter (pool_begun t') (replicate state_words 0)) (counts' ps model room)
      ∙ iter_both (λ (a d : List ℕ). d ≡ a) (pool_begun t) (pool_begun t') (length ps) (λ j l a d r. ap (pool_begun t' j) r ∙ begun_same j l a) (replicate state_words 0) (replicate state_words 0) refl
      ∙ sym (ap (iter (pool_begun t) (replicate state_words 0)) (counts ps model room)))

  -- NO TOKEN THERE
  module _ (p i k : ℕ) (l : p < length ps) (named : i < instances) (u : Unmentioned (els_in ps p) k) where
    abbrev W : ℕ
    W = instance_place p i + k

    low : k < edges
    low = omega (arith, u.low, u.high, u.place)

    blank_on : (r : ℕ) (z : List ℕ) → r < length ps → at z W ≡ 0 → at (pool_begun t r z) W ≡ 0
    unfolding pool_begun
    blank_on r z m e =
        by_choice (λ (y : List ℕ). at y W ≡ 0) (has_start t r) _ z
        (λ o.
        let F : ℕ = token_place (start_edge t r) in
        get_or-set_other (set z (made_place r) 1) (instance_place r 0 + F) W 1 0 (λ q. apart r m o q)
        ∙ get_or-set_other z (made_place r) W 1 0 (λ q. omega (arith, q, m, model.high))
        ∙ e)
        (λ o. e)
      where
        apart : (r : ℕ) (m : r < length ps) (o : has_start t r ≡ true) → W ≡ instance_place r 0 + token_place (start_edge t r) → ⊥
        apart r m o q =
            let a = edge_within r m o in
            by_order r p (λ z. omega (arith, q, z, named, low, a.0, a.1))
            (λ z.
            let same : k ≡ token_place (start_edge t r) = omega (arith, q, z, named, low, a.0, a.1) in
            edge_kept r m o (subst (Unmentioned (els_in ps r)) same (subst (λ (y : ℕ). Unmentioned (els_in ps y) k) z u)))
            (λ z. omega (arith, q, z, named, low, a.0, a.1))

    pub fresh_blank : (v : ℕ) → at (fresh t v) W ≡ 0
    unfolding fresh
    fresh_blank v =
        get_or-set_other (iter (pool_begun t) (replicate state_words 0) (pool_count t)) version_at W v 0 (λ q. omega (arith, q, l, model.high, named, low))
        ∙ iter_keeps (pool_begun t) (replicate state_words 0) (λ (z : List ℕ). at z W ≡ 0) (pool_count t) (λ r z m e. blank_on r z (omega (arith, m, counts ps model room)) e) (get_or-replicate state_words W 0 0 (omega (arith, l, model.high, named, low)))
