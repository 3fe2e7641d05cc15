-- THE CALLS ON THE DESK'S LIST OF STRUCTS promise what the engine's calls on words promise, of the words of its records; and any two results that they allow coincide, the records as structs. Over every model of the logic, since
-- these four are proved by hand. Assumes nothing.
use Prim.Native.Nat.{ℕ}
use mathlib.Core.Path.{◌≡◌, refl, sym, ◌∙◌, ap}
use mathlib.Core.List.{List, [], ◌∷◌, map}
use seplogic.Ra.Ura.{Ura}
use base.Logic.{SProp}
use prog.Memory.{Memory}
use prog.Routine.{Routine}
use types.Logic.{Logic}
use contract.Monad.{Fun, fact}
use denote.Ref.{MutBor}
use Rattle.meaning.specs.declared.Name.{Name}
use Rattle.meaning.specs.declared.Answer.{Answer}
use Rattle.state_records.specs.declared.Record.{Record}
use Rattle.state_records.specs.Records.{triples, struct_of}
use Rattle.state_figures.specs.Figures.{Figured}
use Rattle.step_poll.specs.declared.Polled.{Polled}
use Rattle.engine.specs.declared.Ran.{Ran}
use Rattle.engine.specs.Desk.{AtDesk}
use Rattle.desk.specs.contracts.step as step
use Rattle.desk.specs.contracts.run as run
use Rattle.desk.specs.contracts.poll as poll
use Rattle.desk.specs.contracts.figures as figures
use Rattle.proof_demands.specs.Promises.{Steps, Runs, Polls, Figures}
use Rattle.proof_demands.proofs.Promises.{Lent, MutLent, Three, Four}

abbrev pub Structs : Type 0
Structs = MutBor (List Record)

module _ {M : Type 1} {𝓤 : Ura M} (𝓛 : Logic 𝓤) (mem : Memory → SProp 𝓤) (run_of : Routine → Fun 𝓤) where
  module _ (κ : Three) (t t₁ : Lent) (z z₁ : MutLent) (rs rs₁ : Structs) where
    pub step_promise : (n n₁ : Name) (r : Answer)
        → (step.clauses 𝓛 mem run_of κ (t, (z, (rs, (n, tt))))).ensures tt r (t₁, (z₁, (rs₁, (n₁, tt)))) ≡ fact 𝓤 (Steps t.now z.now (triples rs.now) n r z₁.now (triples rs₁.now))
    step_promise n n₁ r = refl

    pub run_promise : (limit limit₁ : ℕ) (r : Ran)
        → (run.clauses 𝓛 mem run_of κ (t, (z, (rs, (limit, tt))))).ensures tt r (t₁, (z₁, (rs₁, (limit₁, tt)))) ≡ fact 𝓤 (Runs t.now z.now (triples rs.now) limit r z₁.now (triples rs₁.now))
    run_promise limit limit₁ r = refl

  module _ (κ : Three) (t t₁ z z₁ : Lent) (rs rs₁ : Structs) where
    pub figures_promise : (r : ℕ) → (figures.clauses 𝓛 mem run_of κ (t, (z, (rs, tt)))).ensures tt r (t₁, (z₁, (rs₁, tt))) ≡ fact 𝓤 (Figures t.now z.now (triples rs.now) r (triples rs₁.now))
    figures_promise r = refl

  pub poll_promise : (κ : Four) (t t₁ : Lent) (z z₁ : MutLent) (w w₁ : Lent) (rs rs₁ : Structs) (count count₁ : ℕ) (r : Polled)
      → (poll.clauses 𝓛 mem run_of κ (t, (z, (rs, (w, (count, tt)))))).ensures tt r (t₁, (z₁, (rs₁, (w₁, (count₁, tt))))) ≡ fact 𝓤 (Polls t.now z.now (triples rs.now) w.now count r z₁.now (triples rs₁.now))
  poll_promise κ t t₁ z z₁ w w₁ rs rs₁ count count₁ r = refl

-- the words of records tell them apart
told_back : (rs : List Record) → map struct_of (triples rs) ≡ rs
unfolding triples
told_back [] = refl
told_back (r ∷ rs) = ap (λ (rest : List Record). r ∷ rest) (told_back rs)

triples_apart : (xs ys : List Record) → triples xs ≡ triples ys → xs ≡ ys
triples_apart xs ys e = sym (told_back xs) ∙ ap (λ (ws : List (List ℕ)). map struct_of ws) e ∙ told_back ys

-- HOW FIRM THEY ARE: d is what the definition of a step, a run or a poll gives, and what it returns and the state that it leaves are `done`
pub desk_firm : {A : Type 0} (d : AtDesk A) (o₁ o₂ : A) (xs₁ xs₂ : List Record) → ◌≡◌ {A = AtDesk A} (record { done = o₁; records = triples xs₁ }) d → ◌≡◌ {A = AtDesk A} (record { done = o₂; records = triples xs₂ }) d
    → (o₁ ≡ o₂) × (xs₁ ≡ xs₂)
desk_firm {A} d o₁ o₂ xs₁ xs₂ p₁ p₂ = let p = p₁ ∙ sym p₂ in (ap (λ (o : AtDesk A). o.done) p, triples_apart xs₁ xs₂ (ap (λ (o : AtDesk A). o.records) p))

pub figures_firm : (d : Figured) (r₁ r₂ : ℕ) (xs₁ xs₂ : List Record) → ◌≡◌ {A = Figured} (record { number = r₁; records = triples xs₁ }) d → ◌≡◌ {A = Figured} (record { number = r₂; records = triples xs₂ }) d
    → (r₁ ≡ r₂) × (xs₁ ≡ xs₂)
figures_firm d r₁ r₂ xs₁ xs₂ p₁ p₂ = let p = p₁ ∙ sym p₂ in (ap (λ (o : Figured). o.number) p, triples_apart xs₁ xs₂ (ap (λ (o : Figured). o.records) p))
