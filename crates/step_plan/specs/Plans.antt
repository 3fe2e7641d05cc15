-- What a plan says of the step that a name finds, and what the copy of the instance holds then.
use Rattle.std.specs.Prelude.{ℕ, ◌≡◌, List, [], eqb, take}
use Rattle.base_words.specs.Blocks.{Element, Instance}
use Rattle.base_words.specs.Pick.{if◌then◌or_else◌}
use Rattle.base_kinds.specs.declared.moves.Move.{Move}
use Rattle.meaning.specs.declared.Tuple.{Tuple}
use Rattle.meaning.specs.Tuples.{empty, same_tuple}
use Rattle.meaning.specs.Refusals.{Refusal, first_refusal}
use Rattle.meaning.specs.Step.{Site, template, sent, defined, matches, after_taking, instance_after, refusals_at}
use Rattle.step_refusals.specs.Chain.{of_fields}
use Rattle.step_plan.specs.declared.Plan.{Plan}

-- what a name finds, put together
abbrev pub site_at : Element → Instance → Move → ℕ → Tuple → ℕ → ℕ → Site
site_at el h m b g made limit = record { element = el; move = m; branch = b; given = g; made = made; limit = limit; instance = h }

-- 12 to 14, which the instance alone decides, whatever the queues hold
unfoldable pub of_instance : Site → List Refusal
of_instance x = take 6 (refusals_at x [])

-- 12, and 13 of guard, condition and template: while one of them refuses, the copy stays as it was; then it is worked on up to the taking
unfoldable pub of_guard : Site → List Refusal
of_guard x = take 3 (refusals_at x [])

unfoldable pub copy_after : Site → Instance
copy_after x = if eqb (first_refusal (of_guard x)) 0 then after_taking x or_else x.instance

abbrev pub refused_plan : ℕ → Plan
refused_plan n = record { number = n; expected = empty; sent = empty }

-- what a plan r and the copy h that it leaves hold: where nothing is refused, the tuples and the instance, after the taking or after all
pub record Matched (x : Site) (expected : Tuple) (r : Plan) (h : List ℕ) : Type 0 where
  pub number : r.number ≡ first_refusal (of_fields x.move (defined x) (same_tuple expected x.given))
  pub expects : r.expected ≡ expected
  pub sends : r.sent ≡ (sent x).tuple
  pub copy : h ≡ after_taking x

pub record Prepared (x : Site) (r : Plan) (h : List ℕ) : Type 0 where
  pub number : r.number ≡ first_refusal (of_instance x)
  pub expects : r.number ≡ 0 → r.expected ≡ (template x).tuple
  pub sends : r.number ≡ 0 → r.sent ≡ (sent x).tuple
  pub copy : r.number ≡ 0 → h ≡ after_taking x
  pub left : h ≡ copy_after x

pub record Decided (x : Site) (q : List ℕ) (r : Plan) (h : List ℕ) : Type 0 where
  pub number : r.number ≡ first_refusal (refusals_at x q)
  pub expects : r.number ≡ 0 → r.expected ≡ (template x).tuple
  pub sends : r.number ≡ 0 → r.sent ≡ (sent x).tuple
  pub copy : r.number ≡ 0 → h ≡ instance_after x
  pub refused : (r.number ≡ 0 → ⊥) → (r ≡ refused_plan r.number) × (h ≡ copy_after x)
