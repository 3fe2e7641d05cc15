-- THE REWRITTEN MODEL is within the limits, has no endSnd, and passes the checks that the model passes. Assumes nothing.
use Prim.Native.Nat.{ℕ, zero, suc, ◌+◌, ◌≤◌, ◌<◌}
use mathlib.Core.Path.{◌≡◌, refl, sym, ◌∙◌, ap, ap₂}
use mathlib.Core.Bool.{Bool, true, false, not, ◌&&◌}
use mathlib.Core.List.{List, [], ◌∷◌, map}
use native.Mathlib.Omega.{arith}
use lib.Dec.{eqb, leb, ltb}
use lib.ListN.{length, get_or, length-map}
use borrow.Author.Tests.{leb-true, le-leb}
use Rattle.base_words.specs.All.{all}
use Rattle.base_words.specs.Counts.{elements, edges, tasks, names}
use Rattle.base_words.specs.Each.{total, each}
use Rattle.base_words.specs.Pick.{if◌then◌or_else◌}
use Rattle.base_words.specs.Sum.{hit, one_if}
use Rattle.base_words.proofs.AllLaws.{all_at, all_of, and_left, and_right}
use Rattle.base_words.proofs.PickLaws.{and_true}
use Rattle.base_kinds.specs.Kinds.{start, start_rcv}
use Rattle.check_tally.proofs.RegionLaws.{all_ext}
use Rattle.check_model.specs.Checks.{Pool, check1, check2, check3, check4, check5, pool_receives, pool_sends, not_sent_there, check6, check7, check8, lowest}
use Rattle.text_ends.specs.Rewriting.{is_end_snd, end_sends, all_treated, rewritten, unused_count, room_for, has_room}
use Rattle.text_ends.proofs.RewriteLaws.{same_pool}
use Rattle.proof_roundtrip.proofs.EndModels.{Every, Right, Fit, Model}
use Rattle.proof_roundtrip.proofs.Turns.{Alike, Turned, all_turned}

-- A POOL
module _ (p : Pool) (every : Every Right p.elements) (room : has_room p ≡ true) where
  turned : Turned p.elements (end_sends p.elements)
  unfolding has_room room_for
  turned = all_turned p.elements every (leb-true (end_sends p.elements) (unused_count p.elements) (and_left (leb (end_sends p.elements) (unused_count p.elements)) _ room))

  pub all_right_lem : Every Right (rewritten p).elements
  unfolding rewritten all_treated
  all_right_lem = turned.every

  pub no_ends : end_sends (rewritten p).elements ≡ 0
  unfolding rewritten all_treated
  no_ends = omega (arith, turned.ends)

  pub longer : length (rewritten p).elements ≡ length p.elements + end_sends p.elements
  unfolding rewritten all_treated
  longer = turned.long

  alike : Alike p.elements (rewritten p).elements
  unfolding rewritten all_treated
  alike = turned.alike

  same_2 : check2 (rewritten p) ≡ check2 p
  unfolding check2
  same_2 = ap₂ (λ a b. eqb (a + b) 1) (alike.starts start (omega arith)) (alike.starts start_rcv (omega arith))

  same_limit : (rewritten p).limit ≡ p.limit
  unfolding rewritten
  same_limit = refl

  same_3 : check3 (rewritten p) ≡ check3 p
  unfolding check3
  same_3 = ap₂ (λ (a b : ℕ). if eqb a 0 then true or_else eqb b 0) same_limit (alike.starts start (omega arith))

  kept_4 : check4 p ≡ true → check4 (rewritten p) ≡ true
  unfolding check4
  kept_4 h = all_of _ edges (λ k l. alike.edges (k + 1) (omega arith) (all_at _ edges h k l))

  same_5 : check5 (rewritten p) ≡ check5 p
  unfolding check5
  same_5 = all_ext _ _ tasks (λ k l. ap (λ n. leb n 1) (alike.tasks (k + 1) (omega arith)))

  same_received : (m : ℕ) → pool_receives m (rewritten p) ≡ pool_receives m p
  unfolding pool_receives
  same_received m = ap (λ n. ltb 0 n) (alike.received m)

  same_sent : (m : ℕ) → pool_sends m (rewritten p) ≡ pool_sends m p
  unfolding pool_sends
  same_sent m = ap (λ n. ltb 0 n) (alike.sent m)

  same_6 : not_sent_there (rewritten p) ≡ not_sent_there p
  unfolding not_sent_there
  same_6 = all_ext _ _ names (λ m l. ap₂ (λ a b. not (a && b)) (same_received m) (same_sent m))

  same_7 : check7 (rewritten p) ≡ check7 p
  unfolding check7
  same_7 = alike.defaults

  same_8 : check8 (rewritten p) ≡ check8 p
  unfolding check8
  same_8 = alike.binds

  pub pool_fit : Fit p → Fit (rewritten p)
  unfolding has_room room_for
  pool_fit f =
      let most = leb-true (length p.elements + end_sends p.elements) elements (and_right (leb (end_sends p.elements) (unused_count p.elements)) _ room) in
      record {
        number_low = unfold rewritten in f.number_low;
        number_high = unfold rewritten in f.number_high;
        limit_high = unfold rewritten in f.limit_high;
        low = omega (arith, longer, f.low);
        high = omega (arith, longer, most);
        every = all_right_lem;
      }

-- A MODEL
module _ (f g : Pool → Bool) where
  each_same : (ps : List Pool) → Every Fit ps → each has_room ps ≡ true → ((p : Pool) → Fit p → has_room p ≡ true → g (rewritten p) ≡ f p) → each g (map rewritten ps) ≡ each f ps
  unfolding each
  each_same [] e r h = refl
  each_same (p ∷ ps) e r h = ap₂ ◌&&◌ (h p e.0 (and_left (has_room p) (each has_room ps) r)) (each_same ps e.1 (and_right (has_room p) (each has_room ps) r) h)

total_same : (f : Pool → ℕ) (ps : List Pool) → Every Fit ps → each has_room ps ≡ true → ((p : Pool) → Fit p → has_room p ≡ true → f (rewritten p) ≡ f p) → total f (map rewritten ps) ≡ total f ps
unfolding total each
total_same f [] e r h = refl
total_same f (p ∷ ps) e r h = ap₂ ◌+◌ (h p e.0 (and_left (has_room p) (each has_room ps) r)) (total_same f ps e.1 (and_right (has_room p) (each has_room ps) r) h)

each_kept : (ps : List Pool) → Every Fit ps → each has_room ps ≡ true → each check4 ps ≡ true → each check4 (map rewritten ps) ≡ true
unfolding each
each_kept [] e r h = refl
each_kept (p ∷ ps) e r h =
    and_true _ _
    (kept_4 p e.0.every (and_left (has_room p) (each has_room ps) r) (and_left (check4 p) (each check4 ps) h))
    (each_kept ps e.1 (and_right (has_room p) (each has_room ps) r) (and_right (check4 p) (each check4 ps) h))

every_fit : (ps : List Pool) → Every Fit ps → each has_room ps ≡ true → Every Fit (map rewritten ps)
unfolding each
every_fit [] e r = e
every_fit (p ∷ ps) e r = (pool_fit p e.0.every (and_left (has_room p) (each has_room ps) r) e.0, every_fit ps e.1 (and_right (has_room p) (each has_room ps) r))

-- no endSnd is left
pub record Plain (p : Pool) : Type 0 where
  pub ends : end_sends p.elements ≡ 0
  pub few : length p.elements ≤ elements

pub no_end_at : (els : List (List ℕ)) (j : ℕ) → end_sends els ≡ 0 → j < length els → is_end_snd (get_or els j []) ≡ false
unfolding end_sends total
no_end_at [] j e l = absurd (omega (arith, l))
no_end_at (x ∷ els) zero e l = by (is_end_snd x) e
  where
    by : (b : Bool) → one_if b + total (λ el. one_if (is_end_snd el)) els ≡ 0 → b ≡ false
    by true h = absurd (omega (arith, h))
    by false h = refl
no_end_at (x ∷ els) (suc j) e l = no_end_at els j (omega (arith, e)) (omega (arith, l))

every_plain : (ps : List Pool) → Every Fit ps → each has_room ps ≡ true → Every Plain (map rewritten ps)
unfolding each
every_plain [] e r = e
every_plain (p ∷ ps) e r =
    let h = and_left (has_room p) (each has_room ps) r in
    (record { ends = no_ends p e.0.every h; few = (pool_fit p e.0.every h e.0).high }, every_plain ps e.1 (and_right (has_room p) (each has_room ps) r))

-- the lowest of eight tests that fails
abbrev chain : Bool → Bool → Bool → Bool → Bool → Bool → Bool → Bool → ℕ
chain a b c d e f g h = if not a then 1 or_else if not b then 2 or_else if not c then 3 or_else if not d then 4 or_else if not e then 5 or_else if not f then 6 or_else if not g then 7 or_else if not h then 8 or_else 0

fourth : (a b c d e f g h n : Bool) → (d ≡ true → n ≡ true) → chain a b c d e f g h ≡ 0 → chain a b c n e f g h ≡ 0
unfolding if◌then◌or_else◌
fourth false b c d e f g h n w q = absurd (omega (arith, q))
fourth true false c d e f g h n w q = absurd (omega (arith, q))
fourth true true false d e f g h n w q = absurd (omega (arith, q))
fourth true true true false e f g h n w q = absurd (omega (arith, q))
fourth true true true true e f g h n w q = rw (w refl) q

module _ (ps : List Pool) (m : Model ps) (room : each has_room ps ≡ true) where
  -- IT IS WITHIN THE LIMITS
  pub rewritten_fits : Model (map rewritten ps)
  rewritten_fits = record { low = omega (arith, m.low, length-map ps rewritten); high = omega (arith, m.high, length-map ps rewritten); every = every_fit ps m.every room }

  numbers_same : check1 (map rewritten ps) ≡ check1 ps
  unfolding check1 rewritten
  numbers_same = all_ext _ _ 9 (λ k l. ap (λ n. leb n 1) (total_same (λ p. hit p.number (k + 1)) ps m.every room (λ p f r. refl)))

  names_same : check6 (map rewritten ps) ≡ check6 ps
  unfolding check6
  names_same =
      ap₂ ◌&&◌
      (all_ext _ _ names (λ k l. ap (λ n. leb n 1) (total_same (λ p. one_if (pool_receives k p)) ps m.every room (λ p f r. ap one_if (same_received p f.every r k)))))
      (each_same not_sent_there not_sent_there ps m.every room (λ p f r. same_6 p f.every r))

  -- IT PASSES THE CHECKS: "a new edge stands once as an exit and once as an entry"
  pub rewritten_sound : lowest ps ≡ 0 → lowest (map rewritten ps) ≡ 0
  unfolding lowest
  rewritten_sound h =
      rw (
        numbers_same,
        each_same check2 check2 ps m.every room (λ p f r. same_2 p f.every r),
        each_same check3 check3 ps m.every room (λ p f r. same_3 p f.every r),
        each_same check5 check5 ps m.every room (λ p f r. same_5 p f.every r),
        names_same,
        each_same check7 check7 ps m.every room (λ p f r. same_7 p f.every r),
        each_same check8 check8 ps m.every room (λ p f r. same_8 p f.every r),
      )
      (fourth (check1 ps) (each check2 ps) (each check3 ps) (each check4 ps) (each check5 ps) (check6 ps) (each check7 ps) (each check8 ps) (each check4 (map rewritten ps)) (each_kept ps m.every room) h)

  pub none_left : Every Plain (map rewritten ps)
  none_left = every_plain ps m.every room

-- A MODEL WITHOUT endSnd HAS ROOM, AND IS LEFT ALONE
pub room_without : (ps : List Pool) → Every Plain ps → each has_room ps ≡ true
unfolding each has_room room_for
room_without [] e = refl
room_without (p ∷ ps) e =
    and_true _ _
    (and_true _ _ (le-leb (end_sends p.elements) (unused_count p.elements) (omega (arith, e.0.ends))) (le-leb (length p.elements + end_sends p.elements) elements (omega (arith, e.0.ends, e.0.few))))
    (room_without ps e.1)

pub left_alone : (ps : List Pool) → Every Plain ps → map rewritten ps ≡ ps
left_alone [] e = refl
left_alone (p ∷ ps) e = ap₂ (λ (q : Pool) (qs : List Pool). q ∷ qs) (same_pool p e.0.ends) (left_alone ps e.1)
