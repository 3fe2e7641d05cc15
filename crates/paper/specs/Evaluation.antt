-- eval, upd and match of figure 6 and appendix B. What a value, a sum, a difference and a truth are is document 01's: "A sum above 4,294,967,295 or a
-- difference below 0 is undefined, and so is all that uses an undefined operand; such a condition holds neither true nor false." (RULES: values)
use Rattle.std.specs.Prelude.{ℕ, ◌≡◌, List, [], ◌∷◌, Some}
use Rattle.meaning.specs.declared.Truth.{Truth}
use Rattle.meaning.specs.declared.Truth.TheVariants.{True, Neither}
use Rattle.meaning.specs.Values.{Value, sum_of, difference_of, equal_of, less_of}
use Rattle.paper.specs.Syntax.{Operand, number, field, Exp, alone, sum, difference, Cond, always, default, equal, less, Item, exp, Evaluated, value, Assignments, ε, ◌:=◌, ◌&◌}
use Rattle.paper.specs.States.{put}

unfoldable pub operand : (ℕ → Value) → Operand → Value
operand σ (number v) = Some v
operand σ (field d) = σ d

unfoldable pub worth : (ℕ → Value) → Exp → Value
worth σ (alone x) = operand σ x
worth σ (sum x y) = sum_of (operand σ x) (operand σ y)
worth σ (difference x y) = difference_of (operand σ x) (operand σ y)

-- `default` by itself holds neither way; the paper has it false, which no rule makes use of
unfoldable pub truth : (ℕ → Value) → Cond → Truth
truth σ always = True
truth σ default = Neither
truth σ (equal x y) = equal_of (operand σ x) (operand σ y)
truth σ (less x y) = less_of (operand σ x) (operand σ y)

-- eval(e͠xp, σd, ṽ): every value is defined
pub data Evals (σ : ℕ → Value) : List Exp → List ℕ → Type 0 where
  none : Evals σ [] []
  more : {x : Exp} {v : ℕ} {xs : List Exp} {vs : List ℕ} → worth σ x ≡ Some v → Evals σ xs vs → Evals σ (x ∷ xs) (v ∷ vs)

-- eval(t̃, σd, ẽt): its expressions are worked out, its formal fields stay
pub data Templates (σ : ℕ → Value) : List Item → List Evaluated → Type 0 where
  none : Templates σ [] []
  worked : {x : Exp} {v : ℕ} {ts : List Item} {us : List Evaluated} → worth σ x ≡ Some v → Templates σ ts us → Templates σ (exp x ∷ ts) (value v ∷ us)
  stays : {d : ℕ} {ts : List Item} {us : List Evaluated} → Templates σ ts us → Templates σ (Item.formal d ∷ ts) (Evaluated.formal d ∷ us)

-- match(ẽt, ṽ) = A: match(v, v) = ε, match(?d, v) = (d := v), match((et', ẽt), (v', ṽ)) = match(et', v'), match(ẽt, ṽ)
pub data Matches : List Evaluated → List ℕ → Assignments → Type 0 where
  none : Matches [] [] ε
  same : {v : ℕ} {us : List Evaluated} {vs : List ℕ} {A : Assignments} → Matches us vs A → Matches (value v ∷ us) (v ∷ vs) (ε & A)
  binds : {d v : ℕ} {us : List Evaluated} {vs : List ℕ} {A : Assignments} → Matches us vs A → Matches (Evaluated.formal d ∷ us) (v ∷ vs) (d := alone (number v) & A)

-- upd(σd, A, σd'): upd(σd, ε, σd); upd(σd, d := exp, σd · [d ↦ v]) with eval(exp, σd, v); upd(σd, (A₁, A₂), σd'') with upd(σd, A₁, σd'), upd(σd', A₂, σd'')
pub data Updates : (ℕ → Value) → Assignments → (ℕ → Value) → Type 0 where
  none : {σ : ℕ → Value} → Updates σ ε σ
  one : {σ : ℕ → Value} {d v : ℕ} {x : Exp} → worth σ x ≡ Some v → Updates σ (d := x) (put σ d (Some v))
  both : {σ σ' σ'' : ℕ → Value} {A₁ A₂ : Assignments} → Updates σ A₁ σ' → Updates σ' A₂ σ'' → Updates σ (A₁ & A₂) σ''
