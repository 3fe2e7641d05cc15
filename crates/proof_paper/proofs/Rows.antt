-- A ROW of the table of moves, read over the paper's states: what it asks for, what it says and what it does at an element of which P are the parts.
-- G is that the guard, or the branch's condition, is granted. Assumes nothing.
use Prim.Native.Nat.{ℕ, ◌<◌}
use mathlib.Core.Path.{◌≡◌, refl, sym, ap, subst}
use mathlib.Core.Bool.{Bool, true, false}
use mathlib.Core.List.{List}
use native.Mathlib.Omega.{arith}
use lib.Dec.{eqb}
use Rattle.base_words.specs.Pick.{if◌then◌or_else◌}
use Rattle.base_kinds.specs.declared.moves.Move.{Move}
use Rattle.base_kinds.specs.Moves.{on, up, down, making, clearing}
use Rattle.meaning.specs.Values.{Value}
use Rattle.paper.specs.Syntax.{Exp, Item, Evaluated, Assignments, ε, Mode, Each}
use Rattle.paper.specs.States.{Local, unmarked, incs, decs}
use Rattle.paper.specs.Evaluation.{Evals, Templates, Updates}
use Rattle.paper.specs.Processes.{Internal, kill, Label, is_inactive, waits, room}
use Rattle.proof_paper.proofs.Changes.{changed}

pub record Parts : Type 0 where
  pub takes : List ℕ
  pub puts : List ℕ
  pub task : ℕ
  pub version : ℕ
  pub mode : Mode
  pub assigns : Assignments
  pub name : ℕ
  pub template : List Item
  pub message : List Exp

-- what it asks for
pub record Fires (m : Move) (P : Parts) (G : Type 0) (L : Local) : Type 0 where
  pub taking : Each (λ e. 0 < L.σe e) P.takes
  pub lowers_active : eqb m.active down ≡ true → 0 < L.active P.task
  pub lowers_ready : eqb m.ready down ≡ true → 0 < L.ready P.task
  pub alone : eqb m.alone on ≡ true → waits P.version P.mode → is_inactive L P.task
  pub grants : eqb m.asks on ≡ true → G
  pub putting : Each (room (decs L.σe P.takes)) P.puts
  pub raises_active : eqb m.active up ≡ true → room L.active P.task
  pub raises_ready : eqb m.ready up ≡ true → room L.ready P.task

-- what it assigns, before it sends or after it received
abbrev pub assigning : Move → Parts → Assignments
assigning m P = if eqb m.assigns on then P.assigns or_else ε

-- what it says, F being the fields that it leaves: it makes, receives, sends, or none of these
abbrev pub saying : (receives sends makes : Bool) → Parts → Assignments → Internal → (ℕ → Value) → Label → (ℕ → Value) → Type 0
saying true sends true P A quiet σ l F = (us : List Evaluated) × (l ≡ Label.new P.name us) × Templates σ P.template us × (F ≡ σ)
saying true sends false P A quiet σ l F = (us : List Evaluated) × (l ≡ Label.receives P.name us A) × Templates σ P.template us × (F ≡ σ)
saying false true makes P A quiet σ l F = (vs : List ℕ) × (l ≡ Label.sends P.name vs) × Updates σ A F × Evals F P.message vs
saying false false makes P A quiet σ l F = (l ≡ Label.τ quiet) × Updates σ A F

abbrev pub Says : Move → Parts → (ℕ → Value) → Label → (ℕ → Value) → Type 0
Says m P σ l F =
    saying (eqb m.receives on) (eqb m.sends on) (eqb m.also making) P (assigning m P) (if eqb m.also clearing then kill or_else Internal.ε) σ l F

-- what it does
abbrev pub effect : Move → Parts → Local → (ℕ → Value) → Local
effect m P L F = record {
  σe = if eqb m.also clearing then unmarked or_else incs (decs L.σe P.takes) P.puts;
  σd = F;
  active = if eqb m.also clearing then unmarked or_else changed m.active L.active P.task;
  ready = if eqb m.also clearing then unmarked or_else changed m.ready L.ready P.task;
}

pub record Goes (m : Move) (P : Parts) (G : Type 0) (L : Local) (l : Label) (σ : Local) : Type 0 where
  pub left : ℕ → Value
  pub fires : Fires m P G L
  pub says : Says m P L.σd l left
  pub gives : σ ≡ effect m P L left

-- A row's saying, from what it is and by what it says
module _ (m : Move) (P : Parts) (σ : ℕ → Value) where
  abbrev hears : Bool
  hears = eqb m.receives on

  abbrev speaks : Bool
  speaks = eqb m.sends on

  abbrev begins : Bool
  begins = eqb m.also making

  abbrev quiet : Internal
  quiet = if eqb m.also clearing then kill or_else Internal.ε

  pub says_new : {l : Label} {F : ℕ → Value} → hears ≡ true → begins ≡ true → saying true speaks true P (assigning m P) quiet σ l F → Says m P σ l F
  says_new {l} {F} h b x = subst (λ r. saying r speaks begins P (assigning m P) quiet σ l F) (sym h) (subst (λ k. saying true speaks k P (assigning m P) quiet σ l F) (sym b) x)

  pub says_receives : {l : Label} {F : ℕ → Value} → hears ≡ true → begins ≡ false → saying true speaks false P (assigning m P) quiet σ l F → Says m P σ l F
  says_receives {l} {F} h b x = subst (λ r. saying r speaks begins P (assigning m P) quiet σ l F) (sym h) (subst (λ k. saying true speaks k P (assigning m P) quiet σ l F) (sym b) x)

  pub says_sends : {l : Label} {F : ℕ → Value} → hears ≡ false → speaks ≡ true → saying false true begins P (assigning m P) quiet σ l F → Says m P σ l F
  says_sends {l} {F} h s x = subst (λ r. saying r speaks begins P (assigning m P) quiet σ l F) (sym h) (subst (λ k. saying false k begins P (assigning m P) quiet σ l F) (sym s) x)

  pub says_internal : {l : Label} {F : ℕ → Value} → hears ≡ false → speaks ≡ false → saying false false begins P (assigning m P) quiet σ l F → Says m P σ l F
  says_internal {l} {F} h s x = subst (λ r. saying r speaks begins P (assigning m P) quiet σ l F) (sym h) (subst (λ k. saying false k begins P (assigning m P) quiet σ l F) (sym s) x)

-- which of the four a label is
labelled : Label → ℕ
labelled (Label.τ i) = 0
labelled (Label.sends m vs) = 1
labelled (Label.receives m us A) = 2
labelled (Label.new m us) = 3

-- the parts of a label
abbrev its_name : ℕ → Label → ℕ
its_name d (Label.τ i) = d
its_name d (Label.sends m vs) = m
its_name d (Label.receives m us A) = m
its_name d (Label.new m us) = m

abbrev its_items : List Evaluated → Label → List Evaluated
its_items d (Label.τ i) = d
its_items d (Label.sends m vs) = d
its_items d (Label.receives m us A) = us
its_items d (Label.new m us) = us

abbrev its_assigns : Assignments → Label → Assignments
its_assigns d (Label.τ i) = d
its_assigns d (Label.sends m vs) = d
its_assigns d (Label.receives m us A) = A
its_assigns d (Label.new m us) = d

abbrev its_internal : Internal → Label → Internal
its_internal d (Label.τ i) = i
its_internal d (Label.sends m vs) = d
its_internal d (Label.receives m us A) = d
its_internal d (Label.new m us) = d

abbrev its_values : List ℕ → Label → List ℕ
its_values d (Label.τ i) = d
its_values d (Label.sends m vs) = vs
its_values d (Label.receives m us A) = d
its_values d (Label.new m us) = d

module _ (P : Parts) (A : Assignments) (quiet : Internal) (σ F : ℕ → Value) where
  read_new : (r s k : Bool) (m : ℕ) (us : List Evaluated) → saying r s k P A quiet σ (Label.new m us) F → (r ≡ true) × (k ≡ true) × (P.name ≡ m) × Templates σ P.template us × (F ≡ σ)
  unfolding labelled
  read_new true s true m us (ws, q, t, f) = (refl, refl, sym (ap (its_name m) q), subst (Templates σ P.template) (sym (ap (its_items us) q)) t, f)
  read_new true s false m us (ws, q, t, f) = let z : ◌≡◌ {A = ℕ} 3 2 = ap labelled q in absurd (omega arith)
  read_new false true k m us (vs, q, u, e) = let z : ◌≡◌ {A = ℕ} 3 1 = ap labelled q in absurd (omega arith)
  read_new false false k m us (q, u) = let z : ◌≡◌ {A = ℕ} 3 0 = ap labelled q in absurd (omega arith)

  read_receives : (r s k : Bool) (m : ℕ) (us : List Evaluated) (B : Assignments) → saying r s k P A quiet σ (Label.receives m us B) F
      → (r ≡ true) × (k ≡ false) × (P.name ≡ m) × Templates σ P.template us × (A ≡ B) × (F ≡ σ)
  unfolding labelled
  read_receives true s true m us B (ws, q, t, f) = let z : ◌≡◌ {A = ℕ} 2 3 = ap labelled q in absurd (omega arith)
  read_receives true s false m us B (ws, q, t, f) =
      (refl, refl, sym (ap (its_name m) q), subst (Templates σ P.template) (sym (ap (its_items us) q)) t, sym (ap (its_assigns B) q), f)
  read_receives false true k m us B (vs, q, u, e) = let z : ◌≡◌ {A = ℕ} 2 1 = ap labelled q in absurd (omega arith)
  read_receives false false k m us B (q, u) = let z : ◌≡◌ {A = ℕ} 2 0 = ap labelled q in absurd (omega arith)

  read_sends : (r s k : Bool) (m : ℕ) (vs : List ℕ) → saying r s k P A quiet σ (Label.sends m vs) F → (r ≡ false) × (s ≡ true) × (P.name ≡ m) × Updates σ A F × Evals F P.message vs
  unfolding labelled
  read_sends true s true m vs' (ws, q, t, f) = let z : ◌≡◌ {A = ℕ} 1 3 = ap labelled q in absurd (omega arith)
  read_sends true s false m vs' (ws, q, t, f) = let z : ◌≡◌ {A = ℕ} 1 2 = ap labelled q in absurd (omega arith)
  read_sends false true k m vs' (ws, q, u, e) = (refl, refl, sym (ap (its_name m) q), u, subst (Evals F P.message) (sym (ap (its_values vs') q)) e)
  read_sends false false k m vs' (q, u) = let z : ◌≡◌ {A = ℕ} 1 0 = ap labelled q in absurd (omega arith)

  read_internal : (r s k : Bool) (i : Internal) → saying r s k P A quiet σ (Label.τ i) F → (r ≡ false) × (s ≡ false) × Updates σ A F × (i ≡ quiet)
  unfolding labelled
  read_internal true s true i (ws, q, t, f) = let z : ◌≡◌ {A = ℕ} 0 3 = ap labelled q in absurd (omega arith)
  read_internal true s false i (ws, q, t, f) = let z : ◌≡◌ {A = ℕ} 0 2 = ap labelled q in absurd (omega arith)
  read_internal false true k i (vs, q, u, e) = let z : ◌≡◌ {A = ℕ} 0 1 = ap labelled q in absurd (omega arith)
  read_internal false false k i (q, u) = (refl, refl, u, ap (its_internal i) q)

-- what a row says, by the label
module _ (m : Move) (P : Parts) (σ F : ℕ → Value) where
  abbrev silent : Internal
  silent = if eqb m.also clearing then kill or_else Internal.ε

  pub means_new : (k : ℕ) (us : List Evaluated) → Says m P σ (Label.new k us) F → (eqb m.receives on ≡ true) × (eqb m.also making ≡ true) × (P.name ≡ k) × Templates σ P.template us × (F ≡ σ)
  means_new k us = read_new P (assigning m P) silent σ F (eqb m.receives on) (eqb m.sends on) (eqb m.also making) k us

  pub means_receives : (k : ℕ) (us : List Evaluated) (B : Assignments) → Says m P σ (Label.receives k us B) F
      → (eqb m.receives on ≡ true) × (eqb m.also making ≡ false) × (P.name ≡ k) × Templates σ P.template us × (assigning m P ≡ B) × (F ≡ σ)
  means_receives k us B = read_receives P (assigning m P) silent σ F (eqb m.receives on) (eqb m.sends on) (eqb m.also making) k us B

  pub means_sends : (k : ℕ) (vs : List ℕ) → Says m P σ (Label.sends k vs) F → (eqb m.receives on ≡ false) × (eqb m.sends on ≡ true) × (P.name ≡ k) × Updates σ (assigning m P) F × Evals F P.message vs
  means_sends k vs = read_sends P (assigning m P) silent σ F (eqb m.receives on) (eqb m.sends on) (eqb m.also making) k vs

  pub means_internal : (i : Internal) → Says m P σ (Label.τ i) F → (eqb m.receives on ≡ false) × (eqb m.sends on ≡ false) × Updates σ (assigning m P) F × (i ≡ silent)
  means_internal i = read_internal P (assigning m P) silent σ F (eqb m.receives on) (eqb m.sends on) (eqb m.also making) i
