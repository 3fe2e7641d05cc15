-- THE SYNTAX of figure 3, as far as document 01 builds it. Edges, tasks, fields, message names and pools are numbers. (RULES: elements)
use Rattle.std.specs.Prelude.{ℕ, suc, List, [], ◌∷◌}

-- an operand: a number or a field
pub data Operand : Type 0 where
  number : ℕ → Operand
  field : ℕ → Operand

-- exp: an operand, or two joined by `+` or `-`
pub data Exp : Type 0 where
  alone : Operand → Exp
  sum : Operand → Operand → Exp
  difference : Operand → Operand → Exp

-- exp of a guard or of a branch of an xorSplit: `true`, `default`, or two operands joined by `=` or `<`
pub data Cond : Type 0 where
  always : Cond
  default : Cond
  equal : Operand → Operand → Cond
  less : Operand → Operand → Cond

-- t, an item of a template: exp or ?d; et, the same evaluated: a value or a formal field
pub data Item : Type 0 where
  exp : Exp → Item
  formal : ℕ → Item

pub data Evaluated : Type 0 where
  value : ℕ → Evaluated
  formal : ℕ → Evaluated

-- A ::= ε | d := exp | A, A
infix 50 ◌:=◌
infixr 40 ◌&◌
pub data Assignments : Type 0 where
  ε : Assignments
  ◌:=◌ : ℕ → Exp → Assignments
  ◌&◌ : Assignments → Assignments → Assignments

-- a, na_c, na_nc
pub data Mode : Type 0 where
  a : Mode
  na_c : Mode
  na_nc : Mode

-- (e, exp) of an xorSplit, (m:t̃, e) of an eventBased
pub record Choice : Type 0 where
  pub exit : ℕ
  pub condition : Cond

pub record Receipt : Type 0 where
  pub name : ℕ
  pub template : List Item
  pub exit : ℕ

-- the elements of a process, in the order of document 01 (RULES: elements)
pub data Element : Type 0 where
  start : (e e' : ℕ) → Element
  start_rcv : (m : ℕ) (ts : List Item) (e : ℕ) → Element
  end : (e : ℕ) → Element
  terminate : (e : ℕ) → Element
  end_snd : (e m : ℕ) (xs : List Exp) → Element
  inter_rcv : (e m : ℕ) (ts : List Item) (e' : ℕ) → Element
  inter_snd : (e m : ℕ) (xs : List Exp) (e' : ℕ) → Element
  event_based : (e : ℕ) (branches : List Receipt) → Element
  and_split : (e : ℕ) (E : List ℕ) → Element
  and_join : (E : List ℕ) (e : ℕ) → Element
  xor_join : (E : List ℕ) (e : ℕ) → Element
  xor_split : (e : ℕ) (G : List Choice) → Element
  task : (e n : ℕ) (N : Mode) (c : Cond) (A : Assignments) (e' : ℕ) → Element
  task_rcv : (e n : ℕ) (N : Mode) (c : Cond) (A : Assignments) (m : ℕ) (ts : List Item) (e' : ℕ) → Element
  task_snd : (e n : ℕ) (N : Mode) (c : Cond) (A : Assignments) (m : ℕ) (xs : List Exp) (e' : ℕ) → Element

-- pool(p, P), which is here one of limit 1, or miPool(p, P, n), of limit n; a collaboration is its pools. No rule looks at the mark
pub data Mark : Type 0 where
  pool : Mark
  mi_pool : Mark

pub record Pool : Type 0 where
  pub mark : Mark
  pub name : ℕ
  pub process : List Element
  pub limit : ℕ

-- P ∥ P: x is one of those that stand side by side, the one at place i (from 0)
pub data Stands {A : Type 0} (x : A) : ℕ → List A → Type 0 where
  here : {xs : List A} → Stands x 0 (x ∷ xs)
  there : {i : ℕ} {y : A} {xs : List A} → Stands x i xs → Stands x (suc i) (y ∷ xs)

-- ∀ x ∈ xs . P x
pub data Each {A : Type 0} (P : A → Type 0) : List A → Type 0 where
  none : Each P []
  more : {x : A} {xs : List A} → P x → Each P xs → Each P (x ∷ xs)
