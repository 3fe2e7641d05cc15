-- Every refusal of a text says 2 or 3. Assumes nothing.
use Prim.Native.Nat.{ℕ}
use mathlib.Core.Path.{◌≡◌, refl}
use mathlib.Core.Bool.{Bool, true}
use mathlib.Core.List.{List, [], ◌∷◌}
use Rattle.base_words.specs.Pick.{if◌then◌or_else◌}
use Rattle.std.specs.declared.result.Result.TheVariants.{Ok, Err}
use Rattle.text_readers.specs.Reading.{Read, misplaced, excessive}
use Rattle.text_read.specs.Notation.{model}
use Rattle.proof_places.proofs.Whole.{model_ends}
use Rattle.proof_demands.specs.Demands.{is_one_of}

-- where reading ended: a place, or a refusal with 2 or 3
unfoldable pub told : Read → Bool
told (Ok q) = true
told (Err e) = is_one_of (misplaced ∷ excessive ∷ []) e.number

pub model_told : (text : List ℕ) → told (model text).end ≡ true
unfolding told is_one_of if◌then◌or_else◌
model_told = model_ends (λ r. told r ≡ true) (λ q. refl) (λ p. refl) (λ p. refl)
