-- Points of the rules at named values: where a token goes, what shuts the default and a later branch out, what na_nc and, by version, na_c ask, what a message taken leaves, that
-- a store set by one instance is seen by another. Assumes nothing.
use Prim.Native.Nat.{ℕ, ◌<◌}
use mathlib.Core.Path.{◌≡◌, refl, sym, ap, subst}
use mathlib.Core.Bool.{false≢true}
use mathlib.Core.List.{List, [], ◌∷◌}
use mathlib.Core.Logic.{inl, inr, ⊎_elim}
use native.Mathlib.Omega.{arith}
use lib.Dec.{eqb}
use Rattle.std.specs.Prelude.{None, Some}
use Rattle.base_words.specs.Pick.{if◌then◌or_else◌}
use Rattle.meaning.specs.declared.Truth.{Truth}
use Rattle.meaning.specs.declared.Truth.TheVariants.{True, False, Neither}
use Rattle.meaning.specs.Values.{sum_of, equal_of, less_of, is_true, is_false}
use Rattle.paper.specs.Syntax.{number, field, sum, equal, less, always, default, ε, ◌:=◌, Mode, a, na_c, na_nc, Choice, Element, start, xor_split, task, Mark, Pool, Stands, here, there}
use Rattle.paper.specs.States.{Local, unset, unmarked, blank, ◌edges:◌, ◌fields:◌, ◌active:◌, put, inc, dec, same, ◌without◌, Configuration, seen, upd_inst}
use Rattle.paper.specs.Evaluation.{operand, worth, truth, Updates}
use Rattle.paper.specs.Processes.{Internal, Label, waits, Moves, P-Start, P-XorSplit1, P-XorSplit2, P-Task-A, P-Task-N1}
use Rattle.paper.specs.Collaborations.{Named, Seen, Steps, C-Internal}

-- one token on edge 1; task 1 is ready once
abbrev marked : Local
marked = record { σe = λ e. if eqb e 1 then 1 or_else 0; σd = unset; active = unmarked; ready = λ n. if eqb n 1 then 1 or_else 0 }

-- start(1,2): the token is on edge 2 afterwards, and no longer on edge 1
pub start_moves : {v : ℕ} {l : Label} {σ : Local} → Moves v (start 1 2) 0 0 marked l σ → (σ.σe 2 ≡ 1) × (σ.σe 1 ≡ 0)
unfolding put if◌then◌or_else◌
start_moves (P-Start t r) = (refl, refl)

-- "xorSplit with one .. undefined and a default: no branch": d0 is undefined
abbrev choices : List Choice
choices = record { exit = 2; condition = equal (field 0) (number 1) } ∷ record { exit = 3; condition = default } ∷ []

not_false : Neither ≡ False → ⊥
unfolding is_false
not_false e = false≢true (ap is_false e)

not_true : Neither ≡ True → ⊥
unfolding is_false is_true
not_true e = false≢true (ap is_true e)

first : {g d : Choice} {ds : List Choice} → Stands g 0 (d ∷ ds) → g ≡ d
first here = refl

second : {g c d : Choice} {ds : List Choice} → Stands g 1 (c ∷ d ∷ ds) → g ≡ d
second (there s) = first s

pub default_shut : {v : ℕ} {l : Label} {σ : Local} → Moves v (xor_split 1 choices) 0 1 marked l σ → ⊥
unfolding truth operand equal_of
default_shut (P-XorSplit1 s t h o r) = not_true (subst (λ (g : Choice). truth unset g.condition ≡ True) (second s) h)
default_shut (P-XorSplit2 s d t h r) = not_false (h 0 (record { exit = 2; condition = equal (field 0) (number 1) }) here (λ z. omega arith))

-- `true, true`: not the second
abbrev both : List Choice
both = record { exit = 2; condition = always } ∷ record { exit = 3; condition = always } ∷ []

not_default : always ≡ default → ⊥
unfolding truth
not_default e = not_true (sym (ap (truth unset) e))

pub later_shut : {v : ℕ} {l : Label} {σ : Local} → Moves v (xor_split 1 both) 0 1 marked l σ → ⊥
unfolding truth is_true
later_shut (P-XorSplit1 s t h o r) = false≢true (ap is_true (sym (o 0 (record { exit = 2; condition = always }) here (omega arith) not_default)))
later_shut (P-XorSplit2 s d t h r) = not_default (subst (λ (g : Choice). g.condition ≡ default) (second s) d)

-- "na_nc needs both counts 0": task 1 is ready
pub na_nc_shut : {v : ℕ} {l : Label} {σ : Local} → Moves v (task 1 1 na_nc always ε 2) 1 0 marked l σ → ⊥
unfolding if◌then◌or_else◌
na_nc_shut (P-Task-N1 n t g i r) = let z : ◌≡◌ {A = ℕ} 1 0 = (i (inl refl)).1 in omega arith

-- "under 10 an `na_c` task waits for both counts to be 0, as `na_nc` does"
pub na_c_shut : {l : Label} {σ : Local} → Moves 10 (task 1 1 na_c always ε 2) 1 0 marked l σ → ⊥
unfolding if◌then◌or_else◌
na_c_shut (P-Task-N1 n t g i r) = let z : ◌≡◌ {A = ℕ} 1 0 = (i (inr refl)).1 in omega arith

-- the modes differ
mode_number : Mode → ℕ
mode_number a = 1
mode_number na_c = 2
mode_number na_nc = 3

not_waiting : waits 20 na_c → ⊥
unfolding mode_number
not_waiting = ⊎_elim (λ e. let z : ◌≡◌ {A = ℕ} 2 3 = ap mode_number e in omega arith) (λ e. omega arith)

not_atomic : na_c ≡ a → ⊥
unfolding mode_number
not_atomic e = let z : ◌≡◌ {A = ℕ} 2 1 = ap mode_number e in omega arith

-- under 20 it does not
pub na_c_open : Moves 20 (task 1 1 na_c always ε 2) 1 0 marked (Label.τ Internal.ε) (marked edges: dec marked.σe 1 active: inc marked.active 1)
unfolding if◌then◌or_else◌ truth
na_c_open =
    let there : 0 < 1 = omega arith in
    let few : 0 < 255 = omega arith in
    P-Task-N1 {e = 1} {n = 1} {e' = 2} {N = na_c} {c = always} {A = ε} {σ = marked} not_atomic there refl (λ w. absurd (not_waiting w)) few

-- "Two equal messages, one consumed: one stays."
pub one_stays : (record { times = λ vs. 2; size = 2 } without (7 ∷ [])).times (7 ∷ []) ≡ 1
unfolding ◌without◌ same if◌then◌or_else◌
one_stays = refl

-- "Instance 0 raises s0; instance 1's guard `s0<d0` turns false": pool 1 with task(1,1,a,true,{s0:=s0+1},2), one token in instance 0, d0 = 1 in
-- instance 1, s0 = 0
abbrev raising : Element
raising = task 1 1 a always (16 := sum (field 16) (number 1)) 2

abbrev junction : List Pool
junction = record { mark = Mark.mi_pool; name = 1; process = raising ∷ []; limit = 2 } ∷ []

abbrev held : Configuration
held = record {
  σi = λ p i. if eqb i 0 then marked or_else blank fields: (λ d. if eqb d 0 then Some 1 or_else None);
  made = λ p. 2;
  σm = λ m. record { times = λ vs. 0; size = 0 };
  σds = λ d. if eqb d 0 then Some 0 or_else None;
}

abbrev guarded : Configuration → Truth
guarded κ = truth (seen κ 1 1).σd (less (field 16) (field 0))

pub open_before : guarded held ≡ True
unfolding truth operand if◌then◌or_else◌ less_of
open_before = refl

abbrev raise : Named
raise = record { pool = 1; instance = 0; element = 0; phase = 0; branch = 0; values = [] }

abbrev raised : Configuration
raised =
    upd_inst held 1 0
    (seen held 1 0 edges: inc (dec (seen held 1 0).σe 1) 2 fields: put (seen held 1 0).σd 16 (Some 1))

pub raises : Steps 20 junction raise held (Seen.τ Internal.ε) raised
unfolding if◌then◌or_else◌ put truth worth operand sum_of
raises =
    let there : 0 < 1 = omega arith in
    let few : 0 < 2 = omega arith in
    let low : 0 < 255 = omega arith in
    C-Internal (record { place = 0; pool_stands = here; pool_named = refl; element_stands = here }) few refl
    (P-Task-A {e = 1} {n = 1} {e' = 2} {c = always} {A = 16 := sum (field 16) (number 1)} {σ = seen held 1 0} there refl (Updates.one refl) low)

pub shut_after : guarded raised ≡ False
unfolding truth operand if◌then◌or_else◌ less_of put upd_inst
shut_after = refl
