-- A STEP THAT IS ACCEPTED in instances s of the model as its text says it is accepted in the instances s' of the model as it is rewritten, where these follow s: alike but for the tokens on edges that no element of the text mentions, and of
-- these at most c on the edge of an endSnd. It tells the same, and what it leaves follows. Assumes nothing.
use Prim.Native.Nat.{ℕ, ◌+◌, ◌-◌, ◌≤◌, ◌<◌}
use mathlib.Core.Path.{◌≡◌, refl, sym, ◌∙◌, ap, subst}
use mathlib.Core.Bool.{Bool, true, not}
use mathlib.Core.List.{List, [], ◌++◌, map}
use mathlib.Core.Logic.{◌⊎◌, inl, inr}
use native.Mathlib.Decide.{ℕ_discrete}
use native.Mathlib.Omega.{arith}
use lib.Dec.{eqb, ltb}
use lib.ListN.{length, get_or, replicate, length-replicate, get_or-replicate}
use lib.Seq.{get_or-append-add}
use borrow.Author.Tests.{eqb-true, eq-eqb, ne_eqb, lt-ltb, ltb-true}
use Rattle.base_words.specs.Counts.{pools, instances, count_most}
use Rattle.base_words.specs.Each.{each}
use Rattle.base_words.specs.Pick.{if◌then◌or_else◌}
use Rattle.base_words.specs.Sum.{one_if}
use Rattle.base_words.specs.Words.{at}
use Rattle.base_words.proofs.ListLaws.{get_d_tab}
use Rattle.base_words.proofs.PickLaws.{and_true}
use Rattle.base_words.proofs.SeekLaws.{sought}
use Rattle.base_kinds.specs.declared.moves.Move.{Move}
use Rattle.base_kinds.specs.Kinds.{end_snd}
use Rattle.base_kinds.specs.Moves.{making}
use Rattle.base_table.specs.Places.{kind_place, pool_place, element_words}
use Rattle.base_table.specs.Table.{pool_count, element_count, element_at, has_number, pool_of, limit_of, kind_in, exit_at}
use Rattle.base_state.specs.Places.{token_place, instance_words, instance_place, store_words, shared_words, shared_place, instances_words}
use Rattle.base_state.specs.Instances.{made_count}
use Rattle.check_limits.specs.Limits.{table_fits}
use Rattle.check_limits.proofs.SameLaws.{Same}
use Rattle.check_model.specs.Checks.{Pool}
use Rattle.meaning.specs.declared.Name.{Name}
use Rattle.meaning.specs.declared.Tuple.{Tuple}
use Rattle.meaning.specs.Refusals.{first_refusal}
use Rattle.meaning.specs.Requirements.{branch_count, instance_named, below_limit}
use Rattle.meaning.specs.Step.{Site, site_of, pool_named, element_named, move_named, instance_of, shared_of, before, exists, refusals, after_taking, instance_after, made_after, instances_after, queues_after, traffic, step}
use Rattle.step_queues.proofs.SlotLaws.{by_below, by_order}
use Rattle.text_ends.specs.Rewriting.{is_end_snd, rewritten, has_room}
use Rattle.text_read.specs.Notation.{table_of}
use Rattle.engine.specs.Engine.{valid}
use Rattle.engine.specs.Calls.{a_step}
use Rattle.proof_steps.proofs.AcceptedParts.{Accepted, accepted_parts, parts_accepted}
use Rattle.proof_steps.proofs.Choices.{by_test, by_choice, chosen_true, passed_true}
use Rattle.proof_steps.proofs.Elements.{limit_few}
use Rattle.proof_steps.proofs.EveryStep.{Fitting}
use Rattle.proof_steps.proofs.Found.{Found, found}
use Rattle.proof_steps.proofs.OnlyOwn.{length_after, untouched, only_own, own_words, own_stores, own_made}
use Rattle.proof_steps.proofs.PoolFits.{pool_parts, made_few}
use Rattle.proof_steps.proofs.Seen.{seen_long, seen_own}
use Rattle.proof_steps.proofs.Traffic.{state_instances}
use Rattle.proof_valid.proofs.ChecksHold.{valid_fits}
use Rattle.proof_paper.proofs.Pools.{instance_long}
use Rattle.proof_versions.proofs.Laws.{tab_same}
use Rattle.proof_roundtrip.proofs.EndModels.{Model}
use Rattle.proof_saved.proofs.SavedStates.{counts, counts', fit, limit_same}
use Rattle.proof_oldlogs.specs.OldLogs.{is_step_of}
use Rattle.proof_oldlogs.proofs.Alike.{Alike, choice_both}
use Rattle.proof_oldlogs.proofs.Sites.{placed, taking_alike, after_alike, made_same, queues_same, traffic_same, accepted_alike}
use Rattle.proof_oldlogs.proofs.Spots.{edge_in, Ended, all_ended}
use Rattle.proof_oldlogs.proofs.Pools.{Unmentioned, Kept, kept_high, Sent, pool_in, els_in, ends_in, has, number_is, count_old, count_new, spots_of, word_old, edge_new, became, entries_kept, exits_kept, entries_most, exits_most, pools_same}
use Rattle.proof_oldlogs.proofs.Cases.{Known, Ready, ready}

-- c says of a pool's place, an instance and an element's place how many tokens there may be on the element's edge
pub record Follows (ps : List Pool) (c : ℕ → ℕ → ℕ → ℕ) (s s' : List ℕ) : Type 0 where
  pub long : length s ≡ instances_words
  pub long' : length s' ≡ instances_words
  pub outside : (w : ℕ) → (w < pools) ⊎ (shared_place ≤ w) → at s' w ≡ at s w
  pub inside : (p i k : ℕ) → p < length ps → i < instances → k < instance_words → Kept (els_in ps p) k → at s' (instance_place p i + k) ≡ at s (instance_place p i + k)
  pub few : (p i e : ℕ) → p < length ps → i < instances → e < length (els_in ps p) → is_end_snd (get_or (els_in ps p) e []) ≡ true → at s' (instance_place p i + token_place (edge_in (ends_in ps p) e)) ≤ c p i e

-- one step more
abbrev pub counting : List Pool → (ℕ → ℕ → ℕ → ℕ) → Name → ℕ → ℕ → ℕ → ℕ
counting ps c n p i e = c p i e + one_if (is_step_of (pool_in ps p).number i e (a_step n))

-- the words of another instance
elsewhere : (p i r j k : ℕ) → i < instances → j < instances → k < instance_words → (r ≡ p → j ≡ i → ⊥) → (instance_place r j + k < instance_place p i) ⊎ (instance_place p i + instance_words ≤ instance_place r j + k)
elsewhere p i r j k a b l n =
    by_order r p (λ h. inl (omega arith))
    (λ e. by_order j i (λ h. inl (omega arith)) (λ f. absurd (n (sym e) (sym f))) (λ h. inr (omega arith)))
    (λ h. inr (omega arith))

module _ (ps : List Pool) (model : Model ps) (room : each has_room ps ≡ true) (good : valid (table_of (map rewritten ps)) ≡ true) (c : ℕ → ℕ → ℕ → ℕ) (s s' q : List ℕ) (R : Follows ps c s s')
    (fit' : Fitting (table_of (map rewritten ps)) s' q) (n : Name) (accepted : first_refusal (refusals (table_of ps) s q n) ≡ 0) where
  abbrev t : List ℕ
  t = table_of ps

  abbrev t' : List ℕ
  t' = table_of (map rewritten ps)

  abbrev p : ℕ
  p = pool_named t n

  abbrev i : ℕ
  i = n.instance

  abbrev e : ℕ
  e = n.element

  abbrev b : ℕ
  b = n.branch

  abbrev g : Tuple
  g = n.given

  abbrev els : List (List ℕ)
  els = els_in ps p

  parts : (exists t s n ≡ true) × Accepted (site_of t s n) q
  parts = accepted_parts t s q n accepted

  f : Found t s n
  f = found t s n parts.0

  l : p < length ps
  l = omega (arith, f.pool, counts ps model room)

  few_pools : p < pools
  few_pools = omega (arith, l, model.high)

  h : e < length els
  h = omega (arith, f.element, count_old ps model room p l)

  pool_same : pool_named t' n ≡ p
  pool_same = pools_same ps model room n.pool

  -- THE ELEMENT in both tables
  abbrev x : List ℕ
  x = element_named t n

  abbrev y : List ℕ
  y = element_named t' n

  abbrev m : Move
  m = move_named t n

  abbrev m' : Move
  m' = move_named t' n

  element_new : y ≡ element_at t' p e
  unfolding element_named
  element_new = ap (λ r. element_at t' r e) pool_same

  turned : Same element_words x y ⊎ Sent els x y
  turned = subst (λ (w : List ℕ). Same element_words x w ⊎ Sent els x w) (sym element_new) (unfold element_named in became ps model room p l e h)

  known : Known els x n.phase b
  unfolding element_named move_named
  known = record {
    there = f.move;
    inside = f.branch;
    entries_most = entries_most ps model room p l e h;
    exits_most = exits_most ps model room p l e h;
    entries_kept = entries_kept ps model room p l e h;
    exits_kept = exits_kept ps model room p l e h;
  }

  both : Ready els x y n.phase b
  both = ready els x y n.phase b known turned

  also_same : m'.also ≡ m.also
  unfolding move_named
  also_same = both.pairing.deeds.also

  -- THE INSTANCE is one that there is
  fits' : table_fits t' ≡ true
  fits' = valid_fits t' good

  made_is : made_count s' p ≡ made_count s p
  made_is = R.outside p (inl few_pools)

  limit_is : limit_of t' p ≡ limit_of t p
  limit_is = limit_same ps model room p l

  named : i < instances
  unfolding instance_named below_limit site_of
  named =
      let making? : Bool = eqb m.also making in
      let there : p < pool_count t' = omega (arith, l, counts' ps model room) in
      by_test making?
      (λ o.
      let a = eqb-true i (made_count s p) (chosen_true making? (eqb i (made_count s p)) (ltb i (made_count s p)) f.instance o) in
      let d = ltb-true (made_count s p) (limit_of t p) (chosen_true making? (ltb (made_count s p) (limit_of t p)) true parts.1.limited o) in
      omega (arith, a, d, limit_is, limit_few t' fits' p there))
      (λ o.
      let a = ltb-true i (made_count s p) (passed_true making? (eqb i (made_count s p)) (ltb i (made_count s p)) f.instance o) in
      omega (arith, a, made_is, made_few t' fits' p (made_count s' p) (pool_parts t' s' p (state_instances t' s' q fit'.fits p few_pools)).made))

  -- THE WORDS THAT THE STEP SEES
  abbrev zeros : List ℕ
  zeros = replicate instance_words 0

  abbrev own : List ℕ → Move → List ℕ
  own z r = if eqb r.also making then zeros or_else instance_of z p i

  own_long : (z : List ℕ) (r : Move) → length (own z r) ≡ instance_words
  own_long z r = by_choice (λ (w : List ℕ). length w ≡ instance_words) (eqb r.also making) zeros (instance_of z p i) (λ o. length-replicate {A = ℕ} instance_words 0) (λ o. instance_long z p i)

  instance_at : (z : List ℕ) (k : ℕ) → k < instance_words → at (instance_of z p i) k ≡ at z (instance_place p i + k)
  unfolding instance_of
  instance_at z k u = get_d_tab (λ k. at z (instance_place p i + k)) instance_words k 0 u

  shared_same : shared_of s' ≡ shared_of s
  unfolding shared_of
  shared_same = tab_same (λ k. at s' (shared_place + k)) (λ k. at s (shared_place + k)) shared_words (λ j u. R.outside (shared_place + j) (inr (omega arith)))

  abbrev seen : List ℕ → Move → List ℕ
  seen z r = before r (instance_of z p i) (shared_of z)

  seen_alike : Alike (Kept els) (Unmentioned els) (at (seen s' m')) (seen s m) (seen s' m')
  unfolding before
  seen_alike = record {
    long = seen_long s' (own s' m') (own_long s' m') ∙ sym (seen_long s (own s m) (own_long s m));
    same = same;
    few = λ w u. omega arith;
  }
    where
      same : (w : ℕ) → Kept els w → at (own s' m' ++ shared_of s') w ≡ at (own s m ++ shared_of s) w
      same w k =
          by_below w instance_words
          (λ u.
          seen_own s' (own s' m') (own_long s' m') w u
          ∙ choice_both (λ (a d : List ℕ). at d w ≡ at a w) (eqb m.also making) (eqb m'.also making) zeros (instance_of s p i) zeros (instance_of s' p i) (ap (λ r. eqb r making) also_same) (λ o. refl)
          (λ o. instance_at s' w u ∙ R.inside p i w l named u k ∙ sym (instance_at s w u))
          ∙ sym (seen_own s (own s m) (own_long s m) w u))
          (λ u.
          let d : ℕ = w - instance_words in
          let a : length (own s m) + d ≡ w = omega (arith, u, own_long s m) in
          let a' : length (own s' m') + d ≡ w = omega (arith, u, own_long s' m') in
          ap (at (own s' m' ++ shared_of s')) (sym a') ∙ get_or-append-add (own s' m') (shared_of s') d 0 ∙ ap (λ (z : List ℕ). at z d) shared_same
          ∙ sym (ap (at (own s m ++ shared_of s)) (sym a) ∙ get_or-append-add (own s m) (shared_of s) d 0))

  -- of its own no more than stood there
  own_least : (w : ℕ) → w < instance_words → at (seen s' m') w ≤ at s' (instance_place p i + w)
  unfolding before
  own_least w u =
      let a = seen_own s' (own s' m') (own_long s' m') w u in
      let d : at (own s' m') w ≤ at s' (instance_place p i + w) =
      by_choice (λ (z : List ℕ). at z w ≤ at s' (instance_place p i + w)) (eqb m'.also making) zeros (instance_of s' p i)
      (λ o. let z : at zeros w ≡ 0 = get_or-replicate instance_words w 0 0 u in omega (arith, z)) (λ o. let z = instance_at s' w u in omega (arith, z)) in
      omega (arith, a, d)

  -- THE SITES
  abbrev X : Site
  X = placed x m b g (made_count s p) (limit_of t p) (seen s m)

  abbrev Y : Site
  Y = placed y m' b g (made_count s p) (limit_of t p) (seen s' m')

  site_old : site_of t s n ≡ X
  unfolding site_of
  site_old = refl

  made_new : made_count s' (pool_named t' n) ≡ made_count s p
  made_new = ap (made_count s') pool_same ∙ made_is

  site_new : site_of t' s' n ≡ Y
  unfolding site_of
  site_new =
      let limit-new : limit_of t' (pool_named t' n) ≡ limit_of t p = ap (limit_of t') pool_same ∙ limit_is in
      λ j. record { element = y; move = m'; branch = b; given = g; made = made_new j; limit = limit-new j; instance = before m' (instance_of s' (pool_same j) i) (shared_of s') }

  exists_new : exists t' s' n ≡ true
  unfolding exists move_named instance_named
  exists_new =
      and_true _ _
      (and_true _ _
      (and_true _ _
      (and_true _ _ (lt-ltb (pool_named t' n) (pool_count t') (omega (arith, pool_same, counts' ps model room, l)))
      (ap (λ r. ltb e (element_count t' r)) pool_same ∙ lt-ltb e (element_count t' p) (omega (arith, h, count_new ps model room p l, (spots_of ps model room p l).longer))))
      (ap not (ne_eqb m'.kind 0 both.there)))
      (lt-ltb b (branch_count y m') (subst (λ k. b < k) (sym both.ways) f.branch)))
      ((λ j. if eqb (also_same j) making then eqb i (made_new j) or_else ltb i (made_new j)) ∙ f.instance)

  -- THE EDGE of an endSnd
  was_end : Sent els x y → is_end_snd (get_or els e []) ≡ true
  unfolding is_end_snd element_named
  was_end d = eq-eqb (kind_in (get_or els e [])) end_snd (sym (word_old ps model room p l e h kind_place (omega arith)) ∙ d.was)

  edge_is : exit_at y 0 ≡ edge_in (ends_in ps p) e
  edge_is = ap (λ (w : List ℕ). exit_at w 0) element_new ∙ edge_new ps model room p l e h

  -- ACCEPTED, while there is room on it
  module _ (little : is_end_snd (get_or els e []) ≡ true → c p i e < count_most) where
    room_left : Sent els x y → at (seen s' m') (token_place (exit_at y 0)) < count_most
    room_left d =
        let is = was_end d in
        let a = own_least (token_place (exit_at y 0)) (omega (arith, d.low, d.high)) in
        let k : at s' (instance_place p i + token_place (exit_at y 0)) ≤ c p i e = subst (λ z. at s' (instance_place p i + token_place z) ≤ c p i e) (sym edge_is) (R.few p i e l named h is) in
        omega (arith, a, k, little is)

    accepted_new : Accepted Y q
    unfolding move_named
    accepted_new =
        accepted_alike (Kept els) (Unmentioned els) (at (seen s' m')) x y m m' b both.pairing g (made_count s p) (limit_of t p) (seen s m) (seen s' m') seen_alike
        (both.rooms (at (seen s' m')) room_left (after_taking X) (after_taking Y)
        (taking_alike (Kept els) (Unmentioned els) (at (seen s' m')) x y m m' b both.pairing g (made_count s p) (limit_of t p) (seen s m) (seen s' m') seen_alike))
        q (subst (λ (z : Site). Accepted z q) site_old parts.1)

    pub none_refused : first_refusal (refusals t' s' q n) ≡ 0
    none_refused = parts_accepted t' s' q n exists_new (subst (λ (z : Site). Accepted z q) (sym site_new) accepted_new)

  -- WHAT IT TELLS
  pub traffic_is : traffic (site_of t' s' n) ≡ traffic (site_of t s n)
  unfolding move_named
  traffic_is =
      ap traffic site_new
      ∙ traffic_same (Kept els) (Unmentioned els) (at (seen s' m')) x y m m' b both.pairing g (made_count s p) (limit_of t p) (seen s m) (seen s' m') seen_alike
      ∙ sym (ap traffic site_old)

  pub queues_are : queues_after (site_of t' s' n) q ≡ queues_after (site_of t s n) q
  unfolding move_named
  queues_are =
      ap (λ (z : Site). queues_after z q) site_new
      ∙ queues_same (Kept els) (Unmentioned els) (at (seen s' m')) x y m m' b both.pairing g (made_count s p) (limit_of t p) (seen s m) (seen s' m') seen_alike q
      ∙ sym (ap (λ (z : Site). queues_after z q) site_old)

  -- WHAT IT LEAVES
  abbrev a : List ℕ
  a = instance_after (site_of t s n)

  abbrev a' : List ℕ
  a' = instance_after (site_of t' s' n)

  abbrev c' : ℕ → ℕ
  c' w = at (seen s' m') w + both.extra w

  left_alike : Alike (Kept els) (Unmentioned els) c' a a'
  unfolding move_named
  left_alike =
      subst (λ (z : Site). Alike (Kept els) (Unmentioned els) c' (instance_after z) a') (sym site_old)
      (subst (λ (z : Site). Alike (Kept els) (Unmentioned els) c' (instance_after X) (instance_after z)) (sym site_new)
      (after_alike (Kept els) (Unmentioned els) (at (seen s' m')) x y m m' b both.pairing g (made_count s p) (limit_of t p) (seen s m) (seen s' m') seen_alike c' (λ w. omega arith) (both.putting (at (seen s' m')))))

  made_left : made_after (site_of t' s' n) ≡ made_after (site_of t s n)
  unfolding move_named
  made_left =
      ap made_after site_new
      ∙ made_same (Kept els) (Unmentioned els) (at (seen s' m')) x y m m' b both.pairing g (made_count s p) (limit_of t p) (seen s m) (seen s' m') seen_alike
      ∙ sym (ap made_after site_old)

  abbrev u : List ℕ
  u = instances_after t s n

  abbrev u' : List ℕ
  u' = instances_after t' s' n

  own_old : (k : ℕ) → k < instance_words → at u (instance_place p i + k) ≡ at a k
  own_old k o = own_words t s n (omega arith) (omega (arith, few_pools, named)) (omega (arith, R.long)) k o

  own_new : (k : ℕ) → k < instance_words → at u' (instance_place p i + k) ≡ at a' k
  own_new k o =
      ap (λ r. at u' (instance_place r i + k)) (sym pool_same)
      ∙ own_words t' s' n (omega arith) (omega (arith, few_pools, named, pool_same)) (omega (arith, R.long')) k o

  other_old : (r j k : ℕ) → r < pools → j < instances → k < instance_words → (r ≡ p → j ≡ i → ⊥) → at u (instance_place r j + k) ≡ at s (instance_place r j + k)
  other_old r j k a d o z = only_own t s n (instance_place r j + k) (omega arith) (elsewhere p i r j k named d o z) (λ w. omega (arith, few_pools, w))

  other_new : (r j k : ℕ) → r < pools → j < instances → k < instance_words → (r ≡ p → j ≡ i → ⊥) → at u' (instance_place r j + k) ≡ at s' (instance_place r j + k)
  other_new r j k a d o z =
      only_own t' s' n (instance_place r j + k) (omega arith) (elsewhere (pool_named t' n) i r j k named d o (λ v w. z (v ∙ pool_same) w)) (λ w. omega (arith, few_pools, pool_same, w))

  -- the counts and what is shared
  outside_left : (w : ℕ) → (w < pools) ⊎ (shared_place ≤ w) → at u' w ≡ at u w
  outside_left w (inl o) = go (ℕ_discrete w p)
    where
      go : Dec (w ≡ p) → at u' w ≡ at u w
      go (yes z) =
          ap (at u') (z ∙ sym pool_same) ∙ own_made t' s' n (omega (arith, few_pools, pool_same, R.long')) ∙ made_left ∙ sym (ap (at u) z ∙ own_made t s n (omega (arith, few_pools, R.long)))
      go (no z) =
          untouched t' s' n w (inl (omega arith)) (inl (omega arith)) (λ v. z (v ∙ pool_same)) ∙ R.outside w (inl o) ∙ sym (untouched t s n w (inl (omega arith)) (inl (omega arith)) z)
  outside_left w (inr o) =
      by_below w (shared_place + store_words)
      (λ v.
      let k : ℕ = w - shared_place in
      let z : shared_place + k ≡ w = omega (arith, o) in
      let low : k < store_words = omega (arith, o, v) in
      ap (at u') (sym z) ∙ own_stores t' s' n (omega (arith, few_pools, pool_same)) (omega (arith, R.long')) k low ∙ left_alike.same (instance_words + k) (kept_high els (instance_words + k) (omega arith))
      ∙ sym (ap (at u) (sym z) ∙ own_stores t s n (omega (arith, few_pools)) (omega (arith, R.long)) k low))
      (λ v.
      untouched t' s' n w (inr (omega (arith, o, few_pools, named, pool_same))) (inr v) (λ k. omega (arith, o, few_pools, pool_same, k))
      ∙ R.outside w (inr o)
      ∙ sym (untouched t s n w (inr (omega (arith, o, few_pools, named))) (inr v) (λ k. omega (arith, o, few_pools, k))))

  inside_left : (r j k : ℕ) → r < length ps → j < instances → k < instance_words → Kept (els_in ps r) k → at u' (instance_place r j + k) ≡ at u (instance_place r j + k)
  inside_left r j k o d v z = go (ℕ_discrete r p) (ℕ_discrete j i)
    where
      apart : (r ≡ p → j ≡ i → ⊥) → at u' (instance_place r j + k) ≡ at u (instance_place r j + k)
      apart w = let few : r < pools = omega (arith, o, model.high) in other_new r j k few d v w ∙ R.inside r j k o d v z ∙ sym (other_old r j k few d v w)

      go : Dec (r ≡ p) → Dec (j ≡ i) → at u' (instance_place r j + k) ≡ at u (instance_place r j + k)
      go (yes α) (yes β) =
          let γ : instance_place r j + k ≡ instance_place p i + k = λ ι. instance_place (α ι) (β ι) + k in
          ap (at u') γ ∙ own_new k v ∙ left_alike.same k (subst (λ w. Kept (els_in ps w) k) α z) ∙ sym (ap (at u) γ ∙ own_old k v)
      go (no α) β = apart (λ w β. α w)
      go (yes α) (no β) = apart (λ w v. β v)

  -- the tokens on the edges of endSnds
  pub number_named : n.pool ≡ (pool_in ps p).number
  unfolding pool_of has_number
  number_named =
      let w = (sought (has_number t n.pool) (pool_count t)).1 f.pool in
      sym (eqb-true (at t (pool_place p)) n.pool w) ∙ number_is ps model room p l

  extra_counted : (k : ℕ) → k < length els → is_end_snd (get_or els k []) ≡ true → both.extra (token_place (edge_in (ends_in ps p) k)) ≤ one_if (is_step_of (pool_in ps p).number i k (a_step n))
  extra_counted k o is = by_below 0 (both.extra F) counted (λ z. omega (arith, z))
    where
      F : ℕ
      F = token_place (edge_in (ends_in ps p) k)

      E : Ended els (ends_in ps p) k
      E = all_ended els (fit ps model room p l).every (has ps model room p l) k o is

      counted : 0 < both.extra F → both.extra F ≤ one_if (is_step_of (pool_in ps p).number i k (a_step n))
      counted z =
          unfold is_step_of in
          let w = both.where_it_is F z in
          let D : Ended els (ends_in ps p) e = all_ended els (fit ps model room p l).every (has ps model room p l) e h (was_end w.0) in
          let v : edge_in (ends_in ps p) k ≡ edge_in (ends_in ps p) e = omega (arith, w.1, edge_is, E.low, D.low) in
          let same : k ≡ e = (spots_of ps model room p l).apart k e o h E D v in
          let hits : is_step_of (pool_in ps p).number i k (a_step n) ≡ true =
          and_true _ _ (and_true _ _ (eq-eqb n.pool (pool_in ps p).number number_named) (eq-eqb i i refl)) (eq-eqb e k (sym same)) in
          let one : one_if (is_step_of (pool_in ps p).number i k (a_step n)) ≡ 1 = ap one_if hits in
          omega (arith, one, both.one F)

  few_left : (r j k : ℕ) → r < length ps → j < instances → k < length (els_in ps r) → is_end_snd (get_or (els_in ps r) k []) ≡ true
      → at u' (instance_place r j + token_place (edge_in (ends_in ps r) k)) ≤ counting ps c n r j k
  few_left r j k o d v is = go (ℕ_discrete r p) (ℕ_discrete j i)
    where
      F : ℕ
      F = token_place (edge_in (ends_in ps r) k)

      E : Ended (els_in ps r) (ends_in ps r) k
      E = all_ended (els_in ps r) (fit ps model room r o).every (has ps model room r o) k v is

      low : F < instance_words
      low = omega (arith, E.low, E.high)

      apart : (r ≡ p → j ≡ i → ⊥) → at u' (instance_place r j + F) ≤ counting ps c n r j k
      apart w = let few : r < pools = omega (arith, o, model.high) in omega (arith, other_new r j F few d low w, R.few r j k o d v is)

      own : (k : ℕ) → k < length els → is_end_snd (get_or els k []) ≡ true → token_place (edge_in (ends_in ps p) k) < instance_words → Unmentioned els (token_place (edge_in (ends_in ps p) k))
          → at u' (instance_place p i + token_place (edge_in (ends_in ps p) k)) ≤ counting ps c n p i k
      own k v is low w =
          let F : ℕ = token_place (edge_in (ends_in ps p) k) in
          omega (arith, own_new F low, left_alike.few F w, own_least F low, R.few p i k l named v is, extra_counted k v is)

      go : Dec (r ≡ p) → Dec (j ≡ i) → at u' (instance_place r j + F) ≤ counting ps c n r j k
      go (no α) β = apart (λ w β. α w)
      go (yes α) (no β) = apart (λ w v. β v)
      go (yes α) (yes β) =
          subst (λ z. at u' (instance_place r z + F) ≤ counting ps c n r z k) (sym β)
          (subst (λ z. (k < length (els_in ps z)) → is_end_snd (get_or (els_in ps z) k []) ≡ true → token_place (edge_in (ends_in ps z) k) < instance_words → Unmentioned (els_in ps z) (token_place (edge_in (ends_in ps z) k))
          → at u' (instance_place z i + token_place (edge_in (ends_in ps z) k)) ≤ counting ps c n z i k) (sym α) (own k) v is low
          (record { edge = edge_in (ends_in ps r) k; low = E.low; high = E.high; free = E.free; place = refl }))

  pub follows_on : Follows ps (counting ps c n) u u'
  follows_on = record {
    long = length_after t s n ∙ R.long;
    long' = length_after t' s' n ∙ R.long';
    outside = outside_left;
    inside = inside_left;
    few = few_left;
  }
