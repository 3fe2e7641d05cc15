-- Whether a step is accepted, by what its name finds. Assumes nothing.
use Prim.Native.Nat.{ℕ}
use mathlib.Core.Path.{◌≡◌, ◌∙◌, refl, sym, ap}
use mathlib.Core.Bool.{Bool, true, false, ◌&&◌, false≢true}
use mathlib.Core.List.{List}
use lib.Dec.{eqb}
use borrow.Author.Tests.{eqb-true}
use Rattle.base_words.specs.Each.{each}
use Rattle.base_words.specs.Pick.{if◌then◌or_else◌}
use Rattle.base_kinds.specs.declared.moves.Move.{Move}
use Rattle.base_kinds.specs.Moves.{move_of}
use Rattle.base_table.specs.Table.{kind_in, mode_in, element_at, pool_of, limit_of, message_name}
use Rattle.base_state.specs.Instances.{instances_of, queues_of, made_count}
use Rattle.meaning.specs.declared.Tuple.{Tuple}
use Rattle.meaning.specs.declared.Name.{Name}
use Rattle.meaning.specs.Refusals.{first_refusal}
use Rattle.meaning.specs.Step.{site_of, element_named, move_named, instance_of, shared_of, before, space, refusals_at, refusals}
use Rattle.step_plan.specs.declared.Plan.{Plan}
use Rattle.step_plan.specs.Plans.{site_at, Decided}
use Rattle.step_refusals.specs.Chain.{is_in_table, offered, space_for}
use Rattle.step_refusals.proofs.NumberLaws.{numbered, hold_at}
use Rattle.step_take.proofs.StateLaws.{there_is}

-- h is the copy of the instance h₀
pub number_by_lem : (el h h₀ : List ℕ) (m : Move) (b : ℕ) (g : Tuple) (made limit : ℕ) (q : List ℕ) (plan : Plan) (copy : List ℕ) → h ≡ h₀
    → Decided (site_at el h m b g made limit) q plan copy
    → plan.number ≡ first_refusal (refusals_at (site_at el h₀ m b g made limit) q)
number_by_lem el h h₀ m b g made limit q plan copy e d = d.number ∙ rw e

module _ (t z : List ℕ) (n : Name) (p : ℕ) (el : List ℕ) (m : Move) (made : ℕ)
    (e₁ : p ≡ pool_of t n.pool)
    (e₂ : el ≡ element_at t p n.element)
    (e₃ : m ≡ move_of (kind_in el) (mode_in el) n.phase)
    (e₄ : made ≡ made_count (instances_of z) p) where
  number_nowhere : is_in_table t p n.element && offered el m n.branch n.instance made ≡ false
      → 11 ≡ first_refusal (refusals t (instances_of z) (queues_of z) n)
  unfolding refusals first_refusal if◌then◌or_else◌
  number_nowhere k = rw (there_is t z n p el m made e₁ e₂ e₃ e₄ ∙ k)

  number_there : (limit r : ℕ) → is_in_table t p n.element && offered el m n.branch n.instance made ≡ true → limit ≡ limit_of t p
      → r ≡ first_refusal (refusals_at (site_at el (before m (instance_of (instances_of z) p n.instance) (shared_of (instances_of z))) m n.branch n.given made limit) (queues_of z))
      → r ≡ first_refusal (refusals t (instances_of z) (queues_of z) n)
  unfolding refusals first_refusal if◌then◌or_else◌ site_of element_named move_named
  number_there limit r k e d = rw (there_is t z n p el m made e₁ e₂ e₃ e₄ ∙ k) (rw (e, e₄, e₃, e₂, e₁) at d)

  pub accepted_nowhere : is_in_table t p n.element && offered el m n.branch n.instance made ≡ false
      → false ≡ eqb (first_refusal (refusals t (instances_of z) (queues_of z) n)) 0
  accepted_nowhere k = rw (← number_nowhere k)

  pub accepted_there : (limit : ℕ) (r : Bool) → is_in_table t p n.element && offered el m n.branch n.instance made ≡ true → limit ≡ limit_of t p
      → r ≡ eqb (first_refusal (refusals_at (site_at el (before m (instance_of (instances_of z) p n.instance) (shared_of (instances_of z))) m n.branch n.given made limit) (queues_of z))) 0
      → r ≡ eqb (first_refusal (refusals t (instances_of z) (queues_of z) n)) 0
  accepted_there limit r k e d = d ∙ ap (λ x. eqb x 0) (number_there limit _ k e refl)

-- the queue sent to is full
pub accepted_full : (el h : List ℕ) (m : Move) (b : ℕ) (g : Tuple) (made limit : ℕ) (q : List ℕ) (name : ℕ) (s : Bool) → name ≡ message_name el b → s ≡ space_for m q name
    → s ≡ false → false ≡ eqb (first_refusal (refusals_at (site_at el h m b g made limit) q)) 0
unfolding refusals_at space space_for numbered each
accepted_full el h m b g made limit q name s e d o = go (eqb (first_refusal (refusals_at (site_at el h m b g made limit) q)) 0) refl
  where
    go : (a : Bool) → eqb (first_refusal (refusals_at (site_at el h m b g made limit) q)) 0 ≡ a → false ≡ a
    go true a = absurd (false≢true (sym (rw e at (sym d ∙ o)) ∙ hold_at (refusals_at (site_at el h m b g made limit) q) refl (eqb-true (first_refusal (refusals_at (site_at el h m b g made limit) q)) 0 a) 8))
    go false a = refl
