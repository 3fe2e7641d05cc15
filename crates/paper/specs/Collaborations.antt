-- FIGURES 13 AND B.25: the transitions of a collaboration. A rule for single pools and its twin for multi-instance pools are one here, a pool having
-- limit 1. (C-Int and P-Int, "if an element of a process evolves then the whole process evolves", are that pool and element stand in theirs.)
use Rattle.std.specs.Prelude.{ℕ, ◌<◌, ◌≤◌, ◌≡◌, List, [], length}
use Rattle.meaning.specs.Values.{Value}
use Rattle.paper.specs.Syntax.{Evaluated, Assignments, ◌&◌, Element, Pool, Stands}
use Rattle.paper.specs.States.{Local, blank, ◌fields:◌, Configuration, ◌beside◌, seen, upd_inst, add_inst, add, rm}
use Rattle.paper.specs.Evaluation.{Matches, Updates}
use Rattle.paper.specs.Processes.{Internal, Label, Moves}

-- l ::= τ | !m:ṽ | ?m:ṽ | new m:ṽ
pub data Seen : Type 0 where
  τ : Internal → Seen
  sends : (m : ℕ) (vs : List ℕ) → Seen
  receives : (m : ℕ) (vs : List ℕ) → Seen
  new : (m : ℕ) (vs : List ℕ) → Seen

-- document 01's name of a step: "pool number, instance, element place (from 0), phase, branch (from 0) and message values" (RULES: names)
pub record Named : Type 0 where
  pub pool : ℕ
  pub instance : ℕ
  pub element : ℕ
  pub phase : ℕ
  pub branch : ℕ
  pub values : List ℕ

-- element el stands at its place in the pool P of that name, and P in the collaboration C
pub record Runs (C : List Pool) (n : Named) (P : Pool) (el : Element) : Type 0 where
  pub place : ℕ
  pub pool_stands : Stands P place C
  pub pool_named : P.name ≡ n.pool
  pub element_stands : Stands el n.element P.process

-- Steps v C n κ l κ': under version v the collaboration C goes by the step named n from κ to κ' with the label l
pub data Steps (v : ℕ) (C : List Pool) (n : Named) (κ : Configuration) : Seen → Configuration → Type 0 where
  -- C-Create: σi(p) = ∅; C-CreateMi: |σi(p)| < n; P from ⟨σe⁰,σd⁰,σt⁰⟩ —new m:ẽt→ ⟨σe,σd,σt⟩, ṽ ∈ σm(m), match(ẽt,ṽ) = A, upd(σd,A,σd')
  -- new m:ṽ: ⟨addInst(σi,p,⟨σe,σd',σt⟩), rm(σm,m,ṽ)⟩. (Document 01: the instance named is the next unmade one. Document 02, wish 8: the stores are "seen
  -- by a startRcv's template", so that only its own fields are those of σd⁰.) (RULES: stores)
  C-Create : {P : Pool} {el : Element} {m : ℕ} {us : List Evaluated} {A : Assignments} {σ : Local} {σd' : ℕ → Value}
      → Runs C n P el → n.instance ≡ κ.made n.pool → κ.made n.pool < P.limit
      → Moves v el n.phase n.branch (blank beside κ.σds) (Label.new m us) σ
      → 0 < (κ.σm m).times n.values → Matches us n.values A → Updates σ.σd A σd'
      → Steps v C n κ (new m n.values) (rm (add_inst κ n.pool (σ fields: σd')) m n.values)
  -- C-Internal, C-InternalMi: an instance of σi(p) —τ→ ⟨σe,σd,σt⟩
  -- τ: ⟨updInst(σi,p,⟨σe,σd,σt⟩)⟩. (Document 01: no values are given.) (RULES: steps)
  C-Internal : {P : Pool} {el : Element} {l : Internal} {σ : Local}
      → Runs C n P el → n.instance < κ.made n.pool → n.values ≡ []
      → Moves v el n.phase n.branch (seen κ n.pool n.instance) (Label.τ l) σ
      → Steps v C n κ (τ l) (upd_inst κ n.pool n.instance σ)
  -- C-Receive, C-ReceiveMi: an instance of σi(p) —?m:ẽt,A→ ⟨σe,σd,σt⟩, ṽ ∈ σm(m), match(ẽt,ṽ) = A', upd(σd,(A',A),σd')
  -- ?m:ṽ: ⟨updInst(σi,p,⟨σe,σd',σt⟩), rm(σm,m,ṽ)⟩
  C-Receive : {P : Pool} {el : Element} {m : ℕ} {us : List Evaluated} {A A' : Assignments} {σ : Local} {σd' : ℕ → Value}
      → Runs C n P el → n.instance < κ.made n.pool
      → Moves v el n.phase n.branch (seen κ n.pool n.instance) (Label.receives m us A) σ
      → 0 < (κ.σm m).times n.values → Matches us n.values A' → Updates σ.σd (A' & A) σd'
      → Steps v C n κ (receives m n.values) (rm (upd_inst κ n.pool n.instance (σ fields: σd')) m n.values)
  -- C-Deliver, C-DeliverMi: an instance of σi(p) —!m:ṽ→ ⟨σe,σd,σt⟩
  -- !m:ṽ: ⟨updInst(σi,p,⟨σe,σd,σt⟩), add(σm,m,ṽ)⟩. (Document 01: no values are given, and a queue holds at most 64.) (RULES: steps)
  C-Deliver : {P : Pool} {el : Element} {m : ℕ} {vs : List ℕ} {σ : Local}
      → Runs C n P el → n.instance < κ.made n.pool → n.values ≡ []
      → Moves v el n.phase n.branch (seen κ n.pool n.instance) (Label.sends m vs) σ
      → (κ.σm m).size < 64
      → Steps v C n κ (sends m vs) (add (upd_inst κ n.pool n.instance σ) m vs)

-- document 01's delivery from outside: add(σm,m,ṽ), for a name 0 to 15 and at most 4 values, where the queue holds fewer than 64 (RULES: post)
pub data Posts (κ : Configuration) (m : ℕ) (vs : List ℕ) : Configuration → Type 0 where
  posted : m < 16 → length vs ≤ 4 → (κ.σm m).size < 64 → Posts κ m vs (add κ m vs)
