-- HOW FIRM THE PIECES' PROMISES ARE: any two results that the promise of a call which writes a piece allows coincide, the lent buffer included. Assumes nothing.
use Prim.Native.Nat.{ℕ}
use mathlib.Core.Path.{◌≡◌, sym, ◌∙◌, ap}
use mathlib.Core.List.{List}
use Rattle.meaning.specs.declared.Name.{Name}
use Rattle.meaning.specs.declared.Answer.{Answer}
use Rattle.meaning.specs.declared.Tuple.{Tuple}
use Rattle.log_pieces.specs.declared.Piece.{Piece}
use Rattle.log_pieces.specs.Pieces.{Pieced}
use Rattle.log_pieces.proofs.begin.Reads as begin
use Rattle.log_pieces.proofs.step.Reads as step
use Rattle.log_pieces.proofs.post.Reads as post
use Rattle.log_pieces.proofs.end.Reads as end
use Rattle.proof_demands.proofs.Promises.{MutLent, One}

-- a piece and a buffer as the promise has them together
pub pieced : (r₁ r₂ : Piece) (x₁ x₂ : List ℕ) (o : Pieced)
    → ◌≡◌ {A = Pieced} (record { number = r₁.number; length = r₁.length; buffer = x₁ }) o → ◌≡◌ {A = Pieced} (record { number = r₂.number; length = r₂.length; buffer = x₂ }) o
    → (r₁ ≡ r₂) × (x₁ ≡ x₂)
pieced r₁ r₂ x₁ x₂ o p₁ p₂ = let p = p₁ ∙ sym p₂ in (ap (λ (q : Pieced). record { number = q.number; length = q.length }) p, ap (λ (q : Pieced). q.buffer) p)

module _ (κ : One) where
  pub begin_firm : (out out₁ out₂ : MutLent) (r₁ r₂ : Piece) → begin.Post κ (out, tt) r₁ (out₁, tt) → begin.Post κ (out, tt) r₂ (out₂, tt) → (r₁ ≡ r₂) × (out₁.now ≡ out₂.now)
  begin_firm out out₁ out₂ r₁ r₂ p₁ p₂ = pieced r₁ r₂ out₁.now out₂.now _ p₁ p₂

  pub end_firm : (out out₁ out₂ : MutLent) (r₁ r₂ : Piece) → end.Post κ (out, tt) r₁ (out₁, tt) → end.Post κ (out, tt) r₂ (out₂, tt) → (r₁ ≡ r₂) × (out₁.now ≡ out₂.now)
  end_firm out out₁ out₂ r₁ r₂ p₁ p₂ = pieced r₁ r₂ out₁.now out₂.now _ p₁ p₂

  pub step_firm : (n n₁ n₂ : Name) (a a₁ a₂ : Answer) (m m₁ m₂ : ℕ) (out out₁ out₂ : MutLent) (r₁ r₂ : Piece)
      → step.Post κ (n, (a, (m, (out, tt)))) r₁ (n₁, (a₁, (m₁, (out₁, tt)))) → step.Post κ (n, (a, (m, (out, tt)))) r₂ (n₂, (a₂, (m₂, (out₂, tt))))
      → (r₁ ≡ r₂) × (out₁.now ≡ out₂.now)
  step_firm n n₁ n₂ a a₁ a₂ m m₁ m₂ out out₁ out₂ r₁ r₂ p₁ p₂ = pieced r₁ r₂ out₁.now out₂.now _ p₁ p₂

  pub post_firm : (name name₁ name₂ : ℕ) (g g₁ g₂ : Tuple) (m m₁ m₂ : ℕ) (out out₁ out₂ : MutLent) (r₁ r₂ : Piece)
      → post.Post κ (name, (g, (m, (out, tt)))) r₁ (name₁, (g₁, (m₁, (out₁, tt)))) → post.Post κ (name, (g, (m, (out, tt)))) r₂ (name₂, (g₂, (m₂, (out₂, tt))))
      → (r₁ ≡ r₂) × (out₁.now ≡ out₂.now)
  post_firm name name₁ name₂ g g₁ g₂ m m₁ m₂ out out₁ out₂ r₁ r₂ p₁ p₂ = pieced r₁ r₂ out₁.now out₂.now _ p₁ p₂
