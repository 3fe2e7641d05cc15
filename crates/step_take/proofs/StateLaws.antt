-- A step on a state of two parts. Assumes nothing.
use Prim.Native.Nat.{ℕ, ◌+◌, ◌-◌, ◌≤◌}
use mathlib.Core.Path.{◌≡◌, refl, sym, ap, ◌∙◌}
use mathlib.Core.Bool.{Bool, true, false, not, ◌&&◌}
use mathlib.Core.List.{List, ◌++◌, append-nil}
use native.Mathlib.Omega.{arith}
use lib.Dec.{eqb, ltb, leb}
use lib.ListN.{length, take, drop, length-set, length-drop, drop_of_length-le, take-append-drop}
use lib.Seq.{take_at, drop_at, length-take-le}
use borrow.Author.Tests.{eq-eqb, ne_eqb}
use Rattle.base_words.specs.Pick.{if◌then◌or_else◌}
use Rattle.base_words.specs.Counts.{names, values, messages}
use Rattle.base_words.specs.Words.{at}
use Rattle.base_words.specs.Writes.{writes}
use Rattle.base_words.proofs.BlockLaws.{tail_in}
use Rattle.base_words.proofs.WritesLaws.{length-writes}
use Rattle.base_kinds.specs.declared.moves.Move.{Move}
use Rattle.base_kinds.specs.Moves.{move_of}
use Rattle.base_table.specs.Table.{kind_in, mode_in, element_at, pool_of, pool_count, element_count, limit_of, message_name}
use Rattle.base_state.specs.Places.{instance_words, instance_place, store_words, shared_place, instances_words}
use Rattle.base_state.specs.Instances.{instances_of, queues_of, made_count}
use Rattle.meaning.specs.declared.Tuple.{Tuple}
use Rattle.meaning.specs.declared.Name.{Name}
use Rattle.meaning.specs.declared.Answer.{Answer}
use Rattle.meaning.specs.declared.Traffic.TheVariants.{Nothing}
use Rattle.meaning.specs.Tuples.{empty}
use Rattle.meaning.specs.Post.{Posted, post_refusals}
use Rattle.meaning.specs.Queues.{messages_of}
use Rattle.step_queues.specs.Changes.{extended}
use Rattle.meaning.specs.Refusals.{first_refusal}
use Rattle.meaning.specs.Requirements.{branch_count, instance_named}
use Rattle.meaning.specs.Step.{site_of, pool_named, element_named, move_named, instance_of, shared_of, before, exists, refusals, instances_after, made_after, traffic, sent}
use Rattle.step_effects.specs.Effects.{stored_in, made_by, delivered_by, answer_by}
use Rattle.step_refusals.specs.Chain.{is_in_table, offered}
use Rattle.step_plan.specs.declared.Plan.{Plan}
use Rattle.step_plan.specs.Plans.{site_at, Decided}
use Rattle.step_take.specs.Parts.{Applied, settled_at}
use Rattle.step_take.specs.Settled.{queues_changed, settled, posted, Done}

-- what comes back from the second part
pub back : (a : ℕ) (s z y : List ℕ) → z ≡ y → take a s ++ (z ++ drop (length s - a) (drop a s)) ≡ take a s ++ y
back a s z y e =
    let l : length (drop a s) ≤ length s - a = simp length-drop (omega arith) in
    rw (drop_of_length-le (drop a s) l, append-nil, e)

pub length_stored : (s : List ℕ) (p i : ℕ) (h : List ℕ) (made : ℕ) → length (stored_in s p i h made) ≡ length s
length_stored s p i h made =
    simp length-set
    (length-writes (λ k. at h (instance_words + k)) (writes (at h) s (instance_place p i) instance_words) shared_place store_words
    ∙ length-writes (at h) s (instance_place p i) instance_words)

-- the two writes of a step, y after the first and w after the second; over any place a where the parts meet
both_at : (a : ℕ) (z y w s : List ℕ) (f : List ℕ → List ℕ) → length s ≡ a
    → y ≡ s ++ drop a z
    → w ≡ take a y ++ f (drop a y)
    → w ≡ s ++ f (drop a z)
both_at a z y w s f l e d = d ∙ rw (e, take_at s (drop a z) a l, drop_at s (drop a z) a l)

pub both_parts : (z y w s : List ℕ) (f : List ℕ → List ℕ) → length s ≡ instances_words
    → y ≡ s ++ queues_of z
    → w ≡ instances_of y ++ f (queues_of y)
    → w ≡ s ++ f (queues_of z)
both_parts = both_at instances_words

-- the writes of an accepted step, and its answer
pub applied : (el h z : List ℕ) (m : Move) (p : ℕ) (n : Name) (made : ℕ) (plan : Plan) (name now : ℕ) (y w : List ℕ) (r : Answer)
    → instances_words ≤ length z
    → name ≡ message_name el n.branch
    → now ≡ made_by m made
    → y ≡ stored_in (instances_of z) p n.instance h now ++ queues_of z
    → w ≡ instances_of y ++ delivered_by m name n.given plan.sent (queues_of y)
    → r ≡ answer_by m name plan.expected plan.sent
    → Applied el h z m p n made plan r w
applied el h z m p n made plan name now y w r l e₁ e₂ e₃ e₄ e₅ =
    record {
      answer = e₅ ∙ ap (λ (k : ℕ). answer_by m k plan.expected plan.sent) e₁;
      state = both_parts z y w (stored_in (instances_of z) p n.instance h now) (delivered_by m name n.given plan.sent) (length_stored (instances_of z) p n.instance h now ∙ length-take-le instances_words z l) e₃ e₄ ∙ rw (e₁, e₂);
    }

-- a post
posted-at : (a : ℕ) (z q : List ℕ) (r name : ℕ) (g : Tuple) → a ≤ length z
    → ◌≡◌ {A = Posted} (record { number = r; queues = q }) (posted (take (length z - a) (drop a z)) name g)
    → (◌≡◌ {A = Posted} (record { number = r; queues = drop a (take a z ++ (q ++ drop (length z - a) (drop a z))) }) (posted (drop a z) name g))
    × (take a (take a z ++ (q ++ drop (length z - a) (drop a z))) ≡ take a z)
posted-at a z q r name g l e =
    let k : take a z ++ (q ++ drop (length z - a) (drop a z)) ≡ take a z ++ q = back a z q q refl in
    let long : length (take a z) ≡ a = length-take-le a z l in
    let f : ◌≡◌ {A = Posted} (record { number = r; queues = q }) (posted (drop a z) name g) = rw (tail_in z a) at e in
    (rw (k, drop_at (take a z) q a long) f, rw (k, take_at (take a z) q a long))

pub posted_back : (z q : List ℕ) (r name : ℕ) (g : Tuple) → instances_words ≤ length z
    → ◌≡◌ {A = Posted} (record { number = r; queues = q }) (posted (take (length z - instances_words) (drop instances_words z)) name g)
    → (◌≡◌ {A = Posted} (record { number = r; queues = queues_of (take instances_words z ++ (q ++ drop (length z - instances_words) (drop instances_words z))) }) (posted (queues_of z) name g))
    × (instances_of (take instances_words z ++ (q ++ drop (length z - instances_words) (drop instances_words z))) ≡ instances_of z)
posted_back = posted-at instances_words

-- refusals and outcomes at a place; h is the copy of the instance h₀
module _ (el h h₀ : List ℕ) (same : h ≡ h₀) (m : Move) (made limit p : ℕ) (n : Name) (z : List ℕ) (plan : Plan) (copy : List ℕ) (r : Answer)
    (d : Decided (site_at el h m n.branch n.given made limit) (queues_of z) plan copy) where
  pub refused_at : (plan.number ≡ 0 → ⊥) → r ≡ record { number = plan.number; traffic = Nothing; name = 0; tuple = empty }
      → Done (settled_at (site_at el h₀ m n.branch n.given made limit) p n.instance (instances_of z) (queues_of z)) r z
  unfolding settled_at if◌then◌or_else◌
  refused_at k e =
      rw (← same, ne_eqb _ _ (λ q. k (d.number ∙ q)))
      (record { answer = e ∙ rw d.number; state = sym (take-append-drop instances_words z) })

  pub accepted_at : (w : List ℕ) → plan.number ≡ 0 → Applied el copy z m p n made plan r w
      → Done (settled_at (site_at el h₀ m n.branch n.given made limit) p n.instance (instances_of z) (queues_of z)) r w
  unfolding settled_at if◌then◌or_else◌ queues_changed traffic made_after made_by delivered_by answer_by
  accepted_at w k a =
      rw (← same, eq-eqb _ _ (sym d.number ∙ k))
      (record {
        answer = a.answer ∙ rw (d.expects k, d.sends k);
        state = a.state ∙ rw (d.copy k, d.sends k);
      })

-- what a name finds
module _ (t z : List ℕ) (n : Name) (p : ℕ) (el : List ℕ) (m : Move) (made : ℕ)
    (e₁ : p ≡ pool_of t n.pool)
    (e₂ : el ≡ element_at t p n.element)
    (e₃ : m ≡ move_of (kind_in el) (mode_in el) n.phase)
    (e₄ : made ≡ made_count (instances_of z) p) where
  pub there_is : exists t (instances_of z) n ≡ is_in_table t p n.element && offered el m n.branch n.instance made
  unfolding exists is_in_table offered element_named move_named
  there_is = rw (e₄, e₃, e₂, e₁)
      (fives (ltb (pool_named t n) (pool_count t)) (ltb n.element (element_count t (pool_named t n))) (not (eqb (move_named t n).kind 0))
      (ltb n.branch (branch_count (element_named t n) (move_named t n)))
      (instance_named (move_named t n) n.instance (made_count (instances_of z) (pool_named t n))))
    where
      fives : (a b c d e : Bool) → a && b && c && d && e ≡ (a && b) && (c && d && e)
      fives true true c d e = refl
      fives true false c d e = refl
      fives false b c d e = refl

  pub refused_there : (r : Answer) → is_in_table t p n.element && offered el m n.branch n.instance made ≡ false
      → r ≡ record { number = 11; traffic = Nothing; name = 0; tuple = empty }
      → Done (settled t (instances_of z) (queues_of z) n) r z
  unfolding settled refusals first_refusal if◌then◌or_else◌
  refused_there r k e =
      rw (there_is ∙ k) (record { answer = e; state = sym (take-append-drop instances_words z) })

  pub found : (limit : ℕ) (r : Answer) (w : List ℕ) → is_in_table t p n.element && offered el m n.branch n.instance made ≡ true
      → limit ≡ limit_of t p
      → Done (settled_at (site_at el (before m (instance_of (instances_of z) p n.instance) (shared_of (instances_of z))) m n.branch n.given made limit) p n.instance (instances_of z) (queues_of z)) r w
      → Done (settled t (instances_of z) (queues_of z) n) r w
  unfolding settled settled_at refusals first_refusal if◌then◌or_else◌ site_of element_named move_named instances_after
  found limit r w k e d = rw (there_is ∙ k) (rw (e, e₄, e₃, e₂, e₁) at d)

module _ (q : List ℕ) (name : ℕ) (g : Tuple) where
  pub post_unknown : ltb name names && leb g.length values ≡ false → ◌≡◌ {A = Posted} (record { number = 19; queues = q }) (posted q name g)
  unfolding posted post_refusals first_refusal if◌then◌or_else◌
  post_unknown k = rw k

  pub post_full : ltb name names && leb g.length values ≡ true → ltb (length (messages_of q name)) messages ≡ false
      → ◌≡◌ {A = Posted} (record { number = 17; queues = q }) (posted q name g)
  unfolding posted post_refusals first_refusal if◌then◌or_else◌
  post_full k l = rw (k, l)

  pub post_done : (w : List ℕ) → ltb name names && leb g.length values ≡ true → ltb (length (messages_of q name)) messages ≡ true
      → w ≡ extended q name g → ◌≡◌ {A = Posted} (record { number = 0; queues = w }) (posted q name g)
  unfolding posted post_refusals first_refusal if◌then◌or_else◌
  post_done w k l e = rw (k, l, e)
