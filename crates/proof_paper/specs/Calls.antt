-- The paper's transitions one after the other, beside the engine's calls: t is a table, z a state.
use Rattle.std.specs.Prelude.{ℕ, List, [], ◌∷◌}
use Rattle.base_state.specs.Instances.{instances_of, queues_of}
use Rattle.meaning.specs.declared.Name.{Name}
use Rattle.meaning.specs.declared.Tuple.{Tuple}
use Rattle.engine.specs.Engine.{stepped}
use Rattle.engine.specs.Calls.{Act, a_step, a_post, did}
use Rattle.paper.specs.Syntax.{Pool}
use Rattle.paper.specs.States.{Configuration}
use Rattle.paper.specs.Collaborations.{Seen, Steps, Posts}
use Rattle.proof_paper.specs.Decoders.{configuration_of, named_of, values_of, Told, told_of}

-- the paper's configuration that a state stands for
abbrev pub state_of : List ℕ → List ℕ → Configuration
state_of t z = configuration_of t (instances_of z) (queues_of z)

-- what is told of each step, judged in the state that the earlier calls left
unfoldable pub told : List ℕ → List Act → List ℕ → List Told
told t [] z = []
told t (a_step n ∷ rest) z = told_of (stepped t z n).answer ∷ told t rest (did t (a_step n) z).state
told t (a_post name g ∷ rest) z = told t rest (did t (a_post name g) z).state

-- a trace of the paper's rules under version v: its steps are named, its posts come from outside, ls are the labels of the steps
pub data Trace (v : ℕ) (C : List Pool) : List Act → Configuration → List Seen → Configuration → Type 0 where
  none : {κ : Configuration} → Trace v C [] κ [] κ
  step : {n : Name} {rest : List Act} {κ κ' κ'' : Configuration} {l : Seen} {ls : List Seen} → Steps v C (named_of n) κ l κ' → Trace v C rest κ' ls κ'' → Trace v C (a_step n ∷ rest) κ (l ∷ ls) κ''
  post : {name : ℕ} {g : Tuple} {rest : List Act} {κ κ' κ'' : Configuration} {ls : List Seen} → Posts κ name (values_of g) κ' → Trace v C rest κ' ls κ'' → Trace v C (a_post name g ∷ rest) κ ls κ''
