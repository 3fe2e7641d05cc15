-- A TEXT THAT IS READ RUNS BY THE RULES: t is the table that is left of it, x the fresh state that the public call then makes for version v in whatever block y is lent. The calls that are
-- accepted from there on are the traces of the paper's rules, for the collaboration that the text is read as, from its initial configuration. Assumes that the text is read, and the version one that there is.
use Prim.Native.Nat.{ℕ}
use mathlib.Core.Path.{◌≡◌, sym, subst}
use mathlib.Core.Bool.{true}
use mathlib.Core.List.{List, map}
use Rattle.base_state.specs.Versions.{is_version}
use Rattle.state_fits.specs.Fresh.{fresh}
use Rattle.text_read.specs.Notation.{read_into}
use Rattle.engine.specs.Engine.{asked_number, freshened}
use Rattle.engine.specs.Calls.{Act, all_accepted, after}
use Rattle.engine.proofs.CallLaws.{asked_good}
use Rattle.proof_demands.proofs.TextsAndTables.{read_valid}
use Rattle.paper.specs.States.{Configuration}
use Rattle.paper.specs.Collaborations.{Seen}
use Rattle.proof_paper.specs.Decoders.{collaboration_of, seen_as}
use Rattle.proof_paper.specs.Calls.{state_of, told, Trace}
use Rattle.proof_origins.specs.Initial.{initial}
use Rattle.proof_origins.proofs.Starts.{freshened_is, freshened-initial}
use Rattle.proof_origins.proofs.Traces.{calls_sound, calls_complete}

module _ (text t₀ y : List ℕ) (v : ℕ) (n : (read_into text t₀).number ≡ 0) (known : is_version v ≡ true) where
  abbrev t : List ℕ
  t = (read_into text t₀).table

  abbrev x : List ℕ
  x = (freshened t v y).state

  asked : asked_number t v ≡ 0
  asked = asked_good t v (read_valid text t₀ n).0 known

  fresh_is : fresh t v ≡ x
  fresh_is = sym (freshened_is t v asked y)

  pub begins_initial : state_of t x ≡ initial (collaboration_of t)
  begins_initial = freshened-initial t v asked y

  pub runs_sound : (acts : List Act) → all_accepted t acts x ≡ true
      → (ls : List Seen) × Trace v (collaboration_of t) acts (initial (collaboration_of t)) ls (state_of t (after t acts x)) × (map seen_as ls ≡ told t acts x)
  runs_sound acts =
      subst (λ (z : List ℕ). all_accepted t acts z ≡ true → (ls : List Seen) × Trace v (collaboration_of t) acts (initial (collaboration_of t)) ls (state_of t (after t acts z)) × (map seen_as ls ≡ told t acts z)) fresh_is
      (calls_sound t v asked acts)

  pub runs_complete : (acts : List Act) {ls : List Seen} {κ : Configuration} → Trace v (collaboration_of t) acts (initial (collaboration_of t)) ls κ
      → (all_accepted t acts x ≡ true) × (κ ≡ state_of t (after t acts x)) × (map seen_as ls ≡ told t acts x)
  runs_complete acts {ls} {κ} w =
      subst (λ (z : List ℕ). (all_accepted t acts z ≡ true) × (κ ≡ state_of t (after t acts z)) × (map seen_as ls ≡ told t acts z)) fresh_is (calls_complete t v asked acts w)
