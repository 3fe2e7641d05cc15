-- A step is accepted just where every condition of the list of refusals holds. Assumes nothing.
use Prim.Native.Nat.{ℕ}
use mathlib.Core.Path.{◌≡◌, refl}
use mathlib.Core.Bool.{Bool, true, false, ◌||◌}
use mathlib.Core.List.{List, [], ◌∷◌}
use native.Mathlib.Omega.{arith}
use Rattle.base_words.specs.Pick.{if◌then◌or_else◌}
use Rattle.meaning.specs.declared.Name.{Name}
use Rattle.meaning.specs.Requirements.{counts_permit, granted, below_limit, roomy}
use Rattle.meaning.specs.Refusals.{Refusal, ◌unless◌, first_refusal}
use Rattle.meaning.specs.Step.{Site, site_of, exists, receives, template, defined, matches, after_taking, queued, space, refusals_at, refusals}

-- one condition of a list of refusals
pub first_holds : (k : ℕ) (b : Bool) (rs : List Refusal) → (k ≡ 0 → ⊥) → first_refusal (k unless b ∷ rs) ≡ 0 → (b ≡ true) × (first_refusal rs ≡ 0)
unfolding first_refusal if◌then◌or_else◌
first_holds k true rs n e = (refl, e)
first_holds k false rs n e = absurd (n e)

first_passes : (k : ℕ) (b : Bool) (rs : List Refusal) → b ≡ true → first_refusal rs ≡ 0 → first_refusal (k unless b ∷ rs) ≡ 0
unfolding first_refusal if◌then◌or_else◌
first_passes k b rs h e = rw h e

first_none : first_refusal [] ≡ 0
unfolding first_refusal
first_none = refl

-- the conditions at a site x, q the queues
pub record Accepted (x : Site) (q : List ℕ) : Type 0 where
  pub permits : counts_permit x.element x.instance x.move x.branch ≡ true
  pub grants : granted x.element x.instance x.move x.branch ≡ true
  pub templated : (template x).defined ≡ true
  pub outright : receives x || defined x ≡ true
  pub matched : matches x ≡ true
  pub worked_out : defined x ≡ true
  pub waiting : queued x q ≡ true
  pub limited : below_limit x.move x.made x.limit ≡ true
  pub spacious : space x q ≡ true
  pub roomed : roomy x.element (after_taking x) x.move x.branch ≡ true

pub accepted_site : (x : Site) (q : List ℕ) → first_refusal (refusals_at x q) ≡ 0 → Accepted x q
unfolding refusals_at
accepted_site x q e =
    let a = first_holds 12 (counts_permit x.element x.instance x.move x.branch) _ (λ z. omega arith) e in
    let b = first_holds 13 (granted x.element x.instance x.move x.branch) _ (λ z. omega arith) a.1 in
    let c = first_holds 13 (template x).defined _ (λ z. omega arith) b.1 in
    let d = first_holds 13 (receives x || defined x) _ (λ z. omega arith) c.1 in
    let f = first_holds 14 (matches x) _ (λ z. omega arith) d.1 in
    let g = first_holds 13 (defined x) _ (λ z. omega arith) f.1 in
    let h = first_holds 15 (queued x q) _ (λ z. omega arith) g.1 in
    let i = first_holds 16 (below_limit x.move x.made x.limit) _ (λ z. omega arith) h.1 in
    let j = first_holds 17 (space x q) _ (λ z. omega arith) i.1 in
    let k = first_holds 18 (roomy x.element (after_taking x) x.move x.branch) [] (λ z. omega arith) j.1 in
    record {
      permits = a.0;
      grants = b.0;
      templated = c.0;
      outright = d.0;
      matched = f.0;
      worked_out = g.0;
      waiting = h.0;
      limited = i.0;
      spacious = j.0;
      roomed = k.0;
    }

pub site_accepted : (x : Site) (q : List ℕ) → Accepted x q → first_refusal (refusals_at x q) ≡ 0
unfolding refusals_at
site_accepted x q a =
    first_passes 12 _ _ a.permits
    (first_passes 13 _ _ a.grants
    (first_passes 13 _ _ a.templated
    (first_passes 13 _ _ a.outright
    (first_passes 14 _ _ a.matched
    (first_passes 13 _ _ a.worked_out
    (first_passes 15 _ _ a.waiting
    (first_passes 16 _ _ a.limited
    (first_passes 17 _ _ a.spacious
    (first_passes 18 _ [] a.roomed first_none)))))))))

module _ (t s q : List ℕ) (n : Name) where
  pub accepted_parts : first_refusal (refusals t s q n) ≡ 0 → (exists t s n ≡ true) × Accepted (site_of t s n) q
  unfolding refusals
  accepted_parts e =
      let a = first_holds 11 (exists t s n) (refusals_at (site_of t s n) q) (λ z. omega arith) e in
      (a.0, accepted_site (site_of t s n) q a.1)

  pub parts_accepted : exists t s n ≡ true → Accepted (site_of t s n) q → first_refusal (refusals t s q n) ≡ 0
  unfolding refusals
  parts_accepted e a = first_passes 11 (exists t s n) (refusals_at (site_of t s n) q) e (site_accepted (site_of t s n) q a)
