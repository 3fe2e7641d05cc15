-- EACH RULE OF FIGURES 7 TO 9 IS ITS ROW of the table of moves, both ways, at an element whose parts are these. Assumes nothing.
use Prim.Native.Nat.{ℕ, ◌<◌}
use mathlib.Core.Path.{◌≡◌, refl, sym, ◌∙◌, ap, subst}
use mathlib.Core.Bool.{Bool, true, false, false≢true}
use mathlib.Core.List.{List, [], ◌∷◌}
use mathlib.Core.Logic.{◌⊎◌, inl, inr, ⊎_elim}
use lib.Dec.{eqb}
use lib.ListN.{get_or}
use Rattle.base_words.specs.Pick.{if◌then◌or_else◌}
use Rattle.base_kinds.specs.declared.moves.Move.{Move}
use Rattle.base_kinds.specs.Moves.{on, up, down, moves, no_move}
use Rattle.meaning.specs.declared.Truth.TheVariants.{True, False}
use Rattle.paper.specs.Syntax.{Exp, Cond, default, Item, Assignments, Mode, a, Choice, Receipt, Element, start, start_rcv, end, terminate, end_snd, inter_rcv, inter_snd, event_based, and_split, and_join, xor_join, xor_split, task, task_rcv, task_snd, Stands, here, there, Each, none, more}
use Rattle.paper.specs.States.{Local, incs, decs}
use Rattle.paper.specs.Evaluation.{truth, Evals, Updates}
use Rattle.paper.specs.Processes.{Internal, Label, room, Moves, P-Start, P-End, P-Terminate, P-StartRcv, P-EndSnd, P-InterRcv, P-InterSnd, P-AndSplit, P-XorSplit1, P-XorSplit2, P-AndJoin, P-XorJoin, P-EventG, P-Task-A, P-TaskRcv-A, P-TaskSnd-A, P-Task-N1, P-Task-N2, P-TaskRcv-N1, P-TaskRcv-N2, P-TaskRcv-N3, P-TaskSnd-N1, P-TaskSnd-N2, P-TaskSnd-N3}
use Rattle.proof_paper.proofs.Changes.{changed}
use Rattle.proof_paper.proofs.Fields.{none_only}
use Rattle.proof_paper.proofs.Rows.{Parts, Fires, effect, Goes}

abbrev pub row : ℕ → Move
row r = get_or moves r no_move

never : {A : Type 0} {b : Bool} → b ≡ false → b ≡ true → A
never e z = absurd (false≢true (sym e ∙ z))

-- a row that asks for no count and changes none
plain : {m : Move} {P : Parts} {G : Type 0} {L : Local} → eqb m.active down ≡ false → eqb m.ready down ≡ false → eqb m.alone on ≡ false → eqb m.active up ≡ false → eqb m.ready up ≡ false
    → Each (λ e. 0 < L.σe e) P.takes → (eqb m.asks on ≡ true → G) → Each (room (decs L.σe P.takes)) P.puts → Fires m P G L
plain da dr o ua ur t g r = record {
  taking = t;
  lowers_active = never da;
  lowers_ready = never dr;
  alone = never o;
  grants = g;
  putting = r;
  raises_active = never ua;
  raises_ready = never ur;
}

only : {P : ℕ → Type 0} {x : ℕ} → Each P (x ∷ []) → P x
only (more p none) = p

-- one stands at a place
one_stands : {A : Type 0} {x y : A} {i : ℕ} {xs : List A} → Stands x i xs → Stands y i xs → x ≡ y
one_stands here here = refl
one_stands (there s) (there t) = one_stands s t

arrive : {v : ℕ} {el : Element} {p b : ℕ} {L : Local} {l l₀ : Label} {σ σ₀ : Local} → l ≡ l₀ → σ ≡ σ₀ → Moves v el p b L l₀ σ₀ → Moves v el p b L l σ
arrive {v} {el} {p} {b} {L} {l} {l₀} {σ} {σ₀} q s x = subst (λ k. Moves v el p b L k σ) (sym q) (subst (Moves v el p b L l₀) (sym s) x)

-- what the rules speak of, by the paper's letters: the version, an element's entry, exit, task, guard, assignments and message, that the guard is granted, and the state
pub record Given (N : Mode) : Type 1 where
  pub v : ℕ
  pub e : ℕ
  pub e' : ℕ
  pub n : ℕ
  pub c : Cond
  pub A : Assignments
  pub m : ℕ
  pub ts : List Item
  pub xs : List Exp
  pub G : Type 0
  pub L : Local

module _ {N : Mode} (w : Given N) where
  open w use {v, e, e', n, c, A, m, ts, xs, G, L}

  abbrev pub parts : List ℕ → List ℕ → Parts
  parts takes puts = record { takes = takes; puts = puts; task = n; version = v; mode = N; assigns = A; name = m; template = ts; message = xs }

  abbrev Back : Move → ℕ → Element → List ℕ → List ℕ → Type 0
  Back r b E takes puts = (l : Label) (σ : Local) → Moves v E r.phase b L l σ → Goes r (parts takes puts) G L l σ

  -- row r and the rule of E have the same transitions of branch b
  pub record Alike (r : Move) (b : ℕ) (E : Element) (takes puts : List ℕ) : Type 0 where
    pub to : (l : Label) (σ : Local) → Goes r (parts takes puts) G L l σ → Moves v E r.phase b L l σ
    pub from : Back r b E takes puts

  -- WITHOUT A GUARD
  -- P-Start
  start_from : Back (row 0) 0 (start e e') (e ∷ []) (e' ∷ [])
  unfolding if◌then◌or_else◌ incs decs changed
  start_from l σ (P-Start t r) = record { left = L.σd; fires = plain refl refl refl refl refl (more t none) (never refl) (more r none); says = (refl, Updates.none); gives = refl }

  pub start_rule : Alike (row 0) 0 (start e e') (e ∷ []) (e' ∷ [])
  unfolding if◌then◌or_else◌ incs decs changed
  start_rule = record { to = λ l σ x. arrive x.says.0 (x.gives ∙ ap (effect (row 0) (parts (e ∷ []) (e' ∷ [])) L) (none_only x.says.1)) (P-Start (only x.fires.taking) (only x.fires.putting)); from = start_from }

  -- P-StartRcv
  start_rcv_from : Back (row 1) 0 (start_rcv m ts e') [] (e' ∷ [])
  unfolding if◌then◌or_else◌ incs decs changed
  start_rcv_from l σ (P-StartRcv {us = us} s r) = record { left = L.σd; fires = plain refl refl refl refl refl none (never refl) (more r none); says = (us, refl, s, refl); gives = refl }

  pub start_rcv_rule : Alike (row 1) 0 (start_rcv m ts e') [] (e' ∷ [])
  unfolding if◌then◌or_else◌ incs decs changed
  start_rcv_rule = record { to = λ l σ x. arrive x.says.1 (x.gives ∙ ap (effect (row 1) (parts [] (e' ∷ [])) L) x.says.3) (P-StartRcv x.says.2 (only x.fires.putting)); from = start_rcv_from }

  -- P-End
  end_from : Back (row 2) 0 (end e) (e ∷ []) []
  unfolding if◌then◌or_else◌ incs decs changed
  end_from l σ (P-End t) = record { left = L.σd; fires = plain refl refl refl refl refl (more t none) (never refl) none; says = (refl, Updates.none); gives = refl }

  pub end_rule : Alike (row 2) 0 (end e) (e ∷ []) []
  unfolding if◌then◌or_else◌ incs decs changed
  end_rule = record { to = λ l σ x. arrive x.says.0 (x.gives ∙ ap (effect (row 2) (parts (e ∷ []) []) L) (none_only x.says.1)) (P-End (only x.fires.taking)); from = end_from }

  -- P-Terminate
  terminate_from : Back (row 3) 0 (terminate e) (e ∷ []) []
  unfolding if◌then◌or_else◌ incs decs changed
  terminate_from l σ (P-Terminate t) = record { left = L.σd; fires = plain refl refl refl refl refl (more t none) (never refl) none; says = (refl, Updates.none); gives = refl }

  pub terminate_rule : Alike (row 3) 0 (terminate e) (e ∷ []) []
  unfolding if◌then◌or_else◌ incs decs changed
  terminate_rule = record { to = λ l σ x. arrive x.says.0 (x.gives ∙ ap (effect (row 3) (parts (e ∷ []) []) L) (none_only x.says.1)) (P-Terminate (only x.fires.taking)); from = terminate_from }

  -- P-EndSnd
  end_snd_from : Back (row 4) 0 (end_snd e m xs) (e ∷ []) []
  unfolding if◌then◌or_else◌ incs decs changed
  end_snd_from l σ (P-EndSnd {vs = vs} t q) = record { left = L.σd; fires = plain refl refl refl refl refl (more t none) (never refl) none; says = (vs, refl, Updates.none, q); gives = refl }

  pub end_snd_rule : Alike (row 4) 0 (end_snd e m xs) (e ∷ []) []
  unfolding if◌then◌or_else◌ incs decs changed
  end_snd_rule = record { to = λ l σ x. arrive x.says.1 (x.gives ∙ ap (effect (row 4) (parts (e ∷ []) []) L) (none_only x.says.2)) (P-EndSnd (only x.fires.taking) (subst (λ F. Evals F xs x.says.0) (none_only x.says.2) x.says.3)); from = end_snd_from }

  -- P-InterRcv
  inter_rcv_from : Back (row 5) 0 (inter_rcv e m ts e') (e ∷ []) (e' ∷ [])
  unfolding if◌then◌or_else◌ incs decs changed
  inter_rcv_from l σ (P-InterRcv {us = us} t s r) = record { left = L.σd; fires = plain refl refl refl refl refl (more t none) (never refl) (more r none); says = (us, refl, s, refl); gives = refl }

  pub inter_rcv_rule : Alike (row 5) 0 (inter_rcv e m ts e') (e ∷ []) (e' ∷ [])
  unfolding if◌then◌or_else◌ incs decs changed
  inter_rcv_rule = record { to = λ l σ x. arrive x.says.1 (x.gives ∙ ap (effect (row 5) (parts (e ∷ []) (e' ∷ [])) L) x.says.3) (P-InterRcv (only x.fires.taking) x.says.2 (only x.fires.putting)); from = inter_rcv_from }

  -- P-InterSnd
  inter_snd_from : Back (row 6) 0 (inter_snd e m xs e') (e ∷ []) (e' ∷ [])
  unfolding if◌then◌or_else◌ incs decs changed
  inter_snd_from l σ (P-InterSnd {vs = vs} t q r) = record { left = L.σd; fires = plain refl refl refl refl refl (more t none) (never refl) (more r none); says = (vs, refl, Updates.none, q); gives = refl }

  pub inter_snd_rule : Alike (row 6) 0 (inter_snd e m xs e') (e ∷ []) (e' ∷ [])
  unfolding if◌then◌or_else◌ incs decs changed
  inter_snd_rule = record { to = λ l σ x. arrive x.says.1 (x.gives ∙ ap (effect (row 6) (parts (e ∷ []) (e' ∷ [])) L) (none_only x.says.2)) (P-InterSnd (only x.fires.taking) (subst (λ F. Evals F xs x.says.0) (none_only x.says.2) x.says.3) (only x.fires.putting)); from = inter_snd_from }

  -- P-AndSplit
  and_split_from : (E : List ℕ) → Back (row 8) 0 (and_split e E) (e ∷ []) E
  unfolding if◌then◌or_else◌ incs decs changed
  and_split_from E l σ (P-AndSplit t r) = record { left = L.σd; fires = plain refl refl refl refl refl (more t none) (never refl) r; says = (refl, Updates.none); gives = refl }

  pub and_split_rule : (E : List ℕ) → Alike (row 8) 0 (and_split e E) (e ∷ []) E
  unfolding if◌then◌or_else◌ incs decs changed
  and_split_rule E = record { to = λ l σ x. arrive x.says.0 (x.gives ∙ ap (effect (row 8) (parts (e ∷ []) E) L) (none_only x.says.1)) (P-AndSplit (only x.fires.taking) x.fires.putting); from = and_split_from E }

  -- P-AndJoin
  and_join_from : (E : List ℕ) → Back (row 9) 0 (and_join E e') E (e' ∷ [])
  unfolding if◌then◌or_else◌ incs decs changed
  and_join_from E l σ (P-AndJoin t r) = record { left = L.σd; fires = plain refl refl refl refl refl t (never refl) (more r none); says = (refl, Updates.none); gives = refl }

  pub and_join_rule : (E : List ℕ) → Alike (row 9) 0 (and_join E e') E (e' ∷ [])
  unfolding if◌then◌or_else◌ incs decs changed
  and_join_rule E = record { to = λ l σ x. arrive x.says.0 (x.gives ∙ ap (effect (row 9) (parts E (e' ∷ [])) L) (none_only x.says.1)) (P-AndJoin x.fires.taking (only x.fires.putting)); from = and_join_from E }

  -- P-Task-N2
  task_n2_any : (K : Mode) (l : Label) (σ : Local) → Moves v (task e n K c A e') (row 18).phase 0 L l σ
      → Goes (row 18) (record { takes = []; puts = (e' ∷ []); task = n; version = v; mode = K; assigns = A; name = m; template = ts; message = xs }) G L l σ
  unfolding if◌then◌or_else◌ incs decs changed
  task_n2_any K l σ (P-Task-N2 {σd' = F} y d u r) = record { left = F; fires = record { taking = none; lowers_active = (λ z. d); lowers_ready = never refl; alone = never refl; grants = never refl; putting = more r none; raises_active = never refl; raises_ready = never refl }; says = (refl, u); gives = refl }

  task_n2_from : Back (row 18) 0 (task e n N c A e') [] (e' ∷ [])
  task_n2_from = task_n2_any N

  pub task_n2_rule : (N ≡ a → ⊥) → Alike (row 18) 0 (task e n N c A e') [] (e' ∷ [])
  unfolding if◌then◌or_else◌ incs decs changed
  task_n2_rule na = record { to = λ l σ x. arrive x.says.0 x.gives (P-Task-N2 na (x.fires.lowers_active refl) x.says.1 (only x.fires.putting)); from = task_n2_from }

  -- P-TaskRcv-N2
  task_rcv_n2_any : (K : Mode) (l : Label) (σ : Local) → Moves v (task_rcv e n K c A m ts e') (row 19).phase 0 L l σ
      → Goes (row 19) (record { takes = []; puts = []; task = n; version = v; mode = K; assigns = A; name = m; template = ts; message = xs }) G L l σ
  unfolding if◌then◌or_else◌ incs decs changed
  task_rcv_n2_any K l σ (P-TaskRcv-N2 {us = us} y d s r) = record { left = L.σd; fires = record { taking = none; lowers_active = (λ z. d); lowers_ready = never refl; alone = never refl; grants = never refl; putting = none; raises_active = never refl; raises_ready = (λ z. r) }; says = (us, refl, s, refl); gives = refl }

  task_rcv_n2_from : Back (row 19) 0 (task_rcv e n N c A m ts e') [] []
  task_rcv_n2_from = task_rcv_n2_any N

  pub task_rcv_n2_rule : (N ≡ a → ⊥) → Alike (row 19) 0 (task_rcv e n N c A m ts e') [] []
  unfolding if◌then◌or_else◌ incs decs changed
  task_rcv_n2_rule na = record { to = λ l σ x. arrive x.says.1 (x.gives ∙ ap (effect (row 19) (parts [] []) L) x.says.3) (P-TaskRcv-N2 na (x.fires.lowers_active refl) x.says.2 (x.fires.raises_ready refl)); from = task_rcv_n2_from }

  -- P-TaskRcv-N3
  task_rcv_n3_any : (K : Mode) (l : Label) (σ : Local) → Moves v (task_rcv e n K c A m ts e') (row 20).phase 0 L l σ
      → Goes (row 20) (record { takes = []; puts = (e' ∷ []); task = n; version = v; mode = K; assigns = A; name = m; template = ts; message = xs }) G L l σ
  unfolding if◌then◌or_else◌ incs decs changed
  task_rcv_n3_any K l σ (P-TaskRcv-N3 {σd' = F} y d u r) = record { left = F; fires = record { taking = none; lowers_active = never refl; lowers_ready = (λ z. d); alone = never refl; grants = never refl; putting = more r none; raises_active = never refl; raises_ready = never refl }; says = (refl, u); gives = refl }

  task_rcv_n3_from : Back (row 20) 0 (task_rcv e n N c A m ts e') [] (e' ∷ [])
  task_rcv_n3_from = task_rcv_n3_any N

  pub task_rcv_n3_rule : (N ≡ a → ⊥) → Alike (row 20) 0 (task_rcv e n N c A m ts e') [] (e' ∷ [])
  unfolding if◌then◌or_else◌ incs decs changed
  task_rcv_n3_rule na = record { to = λ l σ x. arrive x.says.0 x.gives (P-TaskRcv-N3 na (x.fires.lowers_ready refl) x.says.1 (only x.fires.putting)); from = task_rcv_n3_from }

  -- P-TaskSnd-N2
  task_snd_n2_any : (K : Mode) (l : Label) (σ : Local) → Moves v (task_snd e n K c A m xs e') (row 21).phase 0 L l σ
      → Goes (row 21) (record { takes = []; puts = []; task = n; version = v; mode = K; assigns = A; name = m; template = ts; message = xs }) G L l σ
  unfolding if◌then◌or_else◌ incs decs changed
  task_snd_n2_any K l σ (P-TaskSnd-N2 {σd' = F} y d u r) = record { left = F; fires = record { taking = none; lowers_active = (λ z. d); lowers_ready = never refl; alone = never refl; grants = never refl; putting = none; raises_active = never refl; raises_ready = (λ z. r) }; says = (refl, u); gives = refl }

  task_snd_n2_from : Back (row 21) 0 (task_snd e n N c A m xs e') [] []
  task_snd_n2_from = task_snd_n2_any N

  pub task_snd_n2_rule : (N ≡ a → ⊥) → Alike (row 21) 0 (task_snd e n N c A m xs e') [] []
  unfolding if◌then◌or_else◌ incs decs changed
  task_snd_n2_rule na = record { to = λ l σ x. arrive x.says.0 x.gives (P-TaskSnd-N2 na (x.fires.lowers_active refl) x.says.1 (x.fires.raises_ready refl)); from = task_snd_n2_from }

  -- P-TaskSnd-N3
  task_snd_n3_any : (K : Mode) (l : Label) (σ : Local) → Moves v (task_snd e n K c A m xs e') (row 22).phase 0 L l σ
      → Goes (row 22) (record { takes = []; puts = (e' ∷ []); task = n; version = v; mode = K; assigns = A; name = m; template = ts; message = xs }) G L l σ
  unfolding if◌then◌or_else◌ incs decs changed
  task_snd_n3_any K l σ (P-TaskSnd-N3 {vs = vs} y d q r) = record { left = L.σd; fires = record { taking = none; lowers_active = never refl; lowers_ready = (λ z. d); alone = never refl; grants = never refl; putting = more r none; raises_active = never refl; raises_ready = never refl }; says = (vs, refl, Updates.none, q); gives = refl }

  task_snd_n3_from : Back (row 22) 0 (task_snd e n N c A m xs e') [] (e' ∷ [])
  task_snd_n3_from = task_snd_n3_any N

  pub task_snd_n3_rule : (N ≡ a → ⊥) → Alike (row 22) 0 (task_snd e n N c A m xs e') [] (e' ∷ [])
  unfolding if◌then◌or_else◌ incs decs changed
  task_snd_n3_rule na = record { to = λ l σ x. arrive x.says.1 (x.gives ∙ ap (effect (row 22) (parts [] (e' ∷ [])) L) (none_only x.says.2)) (P-TaskSnd-N3 na (x.fires.lowers_ready refl) (subst (λ F. Evals F xs x.says.0) (none_only x.says.2) x.says.3) (only x.fires.putting)); from = task_snd_n3_from }

  -- WITH A GUARD
  module _ (granted : G → truth L.σd c ≡ True) (grant : truth L.σd c ≡ True → G) where
    -- P-Task-A
    task-a_from : Back (row 12) 0 (task e n a c A e') (e ∷ []) (e' ∷ [])
    unfolding if◌then◌or_else◌ incs decs changed
    task-a_from l σ (P-Task-A {σd' = F} t g u r) = record { left = F; fires = plain refl refl refl refl refl (more t none) (λ z. grant g) (more r none); says = (refl, u); gives = refl }

    pub task-a_rule : Alike (row 12) 0 (task e n a c A e') (e ∷ []) (e' ∷ [])
    unfolding if◌then◌or_else◌ incs decs changed
    task-a_rule = record { to = λ l σ x. arrive x.says.0 x.gives (P-Task-A (only x.fires.taking) (granted (x.fires.grants refl)) x.says.1 (only x.fires.putting)); from = task-a_from }

    -- P-TaskRcv-A
    task_rcv_a_from : Back (row 13) 0 (task_rcv e n a c A m ts e') (e ∷ []) (e' ∷ [])
    unfolding if◌then◌or_else◌ incs decs changed
    task_rcv_a_from l σ (P-TaskRcv-A {us = us} t g s r) = record { left = L.σd; fires = plain refl refl refl refl refl (more t none) (λ z. grant g) (more r none); says = (us, refl, s, refl); gives = refl }

    pub task_rcv_a_rule : Alike (row 13) 0 (task_rcv e n a c A m ts e') (e ∷ []) (e' ∷ [])
    unfolding if◌then◌or_else◌ incs decs changed
    task_rcv_a_rule = record { to = λ l σ x. arrive x.says.1 (x.gives ∙ ap (effect (row 13) (parts (e ∷ []) (e' ∷ [])) L) x.says.3) (P-TaskRcv-A (only x.fires.taking) (granted (x.fires.grants refl)) x.says.2 (only x.fires.putting)); from = task_rcv_a_from }

    -- P-TaskSnd-A
    task_snd_a_from : Back (row 14) 0 (task_snd e n a c A m xs e') (e ∷ []) (e' ∷ [])
    unfolding if◌then◌or_else◌ incs decs changed
    task_snd_a_from l σ (P-TaskSnd-A {vs = vs} {σd' = F} t g u q r) = record { left = F; fires = plain refl refl refl refl refl (more t none) (λ z. grant g) (more r none); says = (vs, refl, u, q); gives = refl }

    pub task_snd_a_rule : Alike (row 14) 0 (task_snd e n a c A m xs e') (e ∷ []) (e' ∷ [])
    unfolding if◌then◌or_else◌ incs decs changed
    task_snd_a_rule = record { to = λ l σ x. arrive x.says.1 x.gives (P-TaskSnd-A (only x.fires.taking) (granted (x.fires.grants refl)) x.says.2 x.says.3 (only x.fires.putting)); from = task_snd_a_from }

    -- P-Task-N1
    task_n1_any : (K : Mode) (l : Label) (σ : Local) → Moves v (task e n K c A e') (row 15).phase 0 L l σ
        → Goes (row 15) (record { takes = (e ∷ []); puts = []; task = n; version = v; mode = K; assigns = A; name = m; template = ts; message = xs }) G L l σ
    unfolding if◌then◌or_else◌ incs decs changed
    task_n1_any K l σ (P-Task-N1 y t g i r) = record { left = L.σd; fires = record { taking = more t none; lowers_active = never refl; lowers_ready = never refl; alone = (λ z. i); grants = (λ z. grant g); putting = none; raises_active = (λ z. r); raises_ready = never refl }; says = (refl, Updates.none); gives = refl }

    task_n1_from : Back (row 15) 0 (task e n N c A e') (e ∷ []) []
    task_n1_from = task_n1_any N

    pub task_n1_rule : (N ≡ a → ⊥) → Alike (row 15) 0 (task e n N c A e') (e ∷ []) []
    unfolding if◌then◌or_else◌ incs decs changed
    task_n1_rule na = record { to = λ l σ x. arrive x.says.0 (x.gives ∙ ap (effect (row 15) (parts (e ∷ []) []) L) (none_only x.says.1)) (P-Task-N1 na (only x.fires.taking) (granted (x.fires.grants refl)) (x.fires.alone refl) (x.fires.raises_active refl)); from = task_n1_from }

    -- P-TaskRcv-N1
    task_rcv_n1_any : (K : Mode) (l : Label) (σ : Local) → Moves v (task_rcv e n K c A m ts e') (row 16).phase 0 L l σ
        → Goes (row 16) (record { takes = (e ∷ []); puts = []; task = n; version = v; mode = K; assigns = A; name = m; template = ts; message = xs }) G L l σ
    unfolding if◌then◌or_else◌ incs decs changed
    task_rcv_n1_any K l σ (P-TaskRcv-N1 y t g i r) = record { left = L.σd; fires = record { taking = more t none; lowers_active = never refl; lowers_ready = never refl; alone = (λ z. i); grants = (λ z. grant g); putting = none; raises_active = (λ z. r); raises_ready = never refl }; says = (refl, Updates.none); gives = refl }

    task_rcv_n1_from : Back (row 16) 0 (task_rcv e n N c A m ts e') (e ∷ []) []
    task_rcv_n1_from = task_rcv_n1_any N

    pub task_rcv_n1_rule : (N ≡ a → ⊥) → Alike (row 16) 0 (task_rcv e n N c A m ts e') (e ∷ []) []
    unfolding if◌then◌or_else◌ incs decs changed
    task_rcv_n1_rule na = record { to = λ l σ x. arrive x.says.0 (x.gives ∙ ap (effect (row 16) (parts (e ∷ []) []) L) (none_only x.says.1)) (P-TaskRcv-N1 na (only x.fires.taking) (granted (x.fires.grants refl)) (x.fires.alone refl) (x.fires.raises_active refl)); from = task_rcv_n1_from }

    -- P-TaskSnd-N1
    task_snd_n1_any : (K : Mode) (l : Label) (σ : Local) → Moves v (task_snd e n K c A m xs e') (row 17).phase 0 L l σ
        → Goes (row 17) (record { takes = (e ∷ []); puts = []; task = n; version = v; mode = K; assigns = A; name = m; template = ts; message = xs }) G L l σ
    unfolding if◌then◌or_else◌ incs decs changed
    task_snd_n1_any K l σ (P-TaskSnd-N1 y t g i r) = record { left = L.σd; fires = record { taking = more t none; lowers_active = never refl; lowers_ready = never refl; alone = (λ z. i); grants = (λ z. grant g); putting = none; raises_active = (λ z. r); raises_ready = never refl }; says = (refl, Updates.none); gives = refl }

    task_snd_n1_from : Back (row 17) 0 (task_snd e n N c A m xs e') (e ∷ []) []
    task_snd_n1_from = task_snd_n1_any N

    pub task_snd_n1_rule : (N ≡ a → ⊥) → Alike (row 17) 0 (task_snd e n N c A m xs e') (e ∷ []) []
    unfolding if◌then◌or_else◌ incs decs changed
    task_snd_n1_rule na = record { to = λ l σ x. arrive x.says.0 (x.gives ∙ ap (effect (row 17) (parts (e ∷ []) []) L) (none_only x.says.1)) (P-TaskSnd-N1 na (only x.fires.taking) (granted (x.fires.grants refl)) (x.fires.alone refl) (x.fires.raises_active refl)); from = task_snd_n1_from }

  -- WHERE A LINE HAS A CHOICE: the branch named is the one that stands there
  module _ (b : ℕ) where
    -- P-XorJoin
    pub xor_join_rule : {E : List ℕ} (d : ℕ) → Stands d b E → Alike (row 10) b (xor_join E e') (d ∷ []) (e' ∷ [])
    unfolding if◌then◌or_else◌ incs decs changed
    xor_join_rule {E} d s = record { to = λ l σ x. arrive x.says.0 (x.gives ∙ ap (effect (row 10) (parts (d ∷ []) (e' ∷ [])) L) (none_only x.says.1)) (P-XorJoin s (only x.fires.taking) (only x.fires.putting)); from = back }
      where
        back : Back (row 10) b (xor_join E e') (d ∷ []) (e' ∷ [])
        back l σ (P-XorJoin {e = f} q t r) =
            subst (λ y. Goes (row 10) (parts (y ∷ []) (e' ∷ [])) G L l σ) (one_stands q s)
            (record { left = L.σd; fires = plain refl refl refl refl refl (more t none) (never refl) (more r none); says = (refl, Updates.none); gives = refl })

    -- P-EventG
    abbrev receiving : Receipt → Parts
    receiving g = record { takes = e ∷ []; puts = g.exit ∷ []; task = n; version = v; mode = N; assigns = A; name = g.name; template = g.template; message = xs }

    pub event_rule : {bs : List Receipt} (d : ℕ) → Stands (record { name = m; template = ts; exit = d }) b bs → Alike (row 7) b (event_based e bs) (e ∷ []) (d ∷ [])
    unfolding if◌then◌or_else◌ incs decs changed
    event_rule {bs} d s = record { to = λ l σ x. arrive x.says.1 (x.gives ∙ ap (effect (row 7) (parts (e ∷ []) (d ∷ [])) L) x.says.3) (P-EventG s (only x.fires.taking) x.says.2 (only x.fires.putting)); from = back }
      where
        back : Back (row 7) b (event_based e bs) (e ∷ []) (d ∷ [])
        back l σ (P-EventG {g = g} {us = us} q t y r) =
            subst (λ (z : Receipt). Goes (row 7) (receiving z) G L l σ) (one_stands q s)
            (record { left = L.σd; fires = plain refl refl refl refl refl (more t none) (never refl) (more r none); says = (us, refl, y, refl); gives = refl })

    -- P-XorSplit1 and P-XorSplit2: what the branch's condition grants
    abbrev pub Chosen : Choice → List Choice → Type 0
    Chosen g cs =
        ((truth L.σd g.condition ≡ True) × ((j : ℕ) (c : Choice) → Stands c j cs → j < b → (c.condition ≡ default → ⊥) → truth L.σd c.condition ≡ False))
        ⊎ ((g.condition ≡ default) × ((j : ℕ) (c : Choice) → Stands c j cs → (j ≡ b → ⊥) → truth L.σd c.condition ≡ False))

    pub xor_split_rule : {cs : List Choice} (g : Choice) → Stands g b cs → (G → Chosen g cs) → (Chosen g cs → G) → Alike (row 11) b (xor_split e cs) (e ∷ []) (g.exit ∷ [])
    unfolding if◌then◌or_else◌ incs decs changed
    xor_split_rule {cs} g s chosen grant = record {
      to = λ l σ x.
          arrive x.says.0 (x.gives ∙ ap (effect (row 11) (parts (e ∷ []) (g.exit ∷ [])) L) (none_only x.says.1))
          (⊎_elim (λ h. P-XorSplit1 s (only x.fires.taking) h.0 h.1 (only x.fires.putting)) (λ h. P-XorSplit2 s h.0 (only x.fires.taking) h.1 (only x.fires.putting)) (chosen (x.fires.grants refl)));
      from = back;
    }
      where
        gone : {f : Choice} {σ : Local} → Stands f b cs → Chosen f cs → 0 < L.σe e → room (decs L.σe (e ∷ [])) f.exit → σ ≡ effect (row 11) (parts (e ∷ []) (f.exit ∷ [])) L L.σd → Goes (row 11) (parts (e ∷ []) (g.exit ∷ [])) G L (Label.τ Internal.ε) σ
        gone {f} {σ} q h t r z =
            let p : f ≡ g = one_stands q s in
            subst (λ (y : Choice). Goes (row 11) (parts (e ∷ []) (y.exit ∷ [])) G L (Label.τ Internal.ε) σ) p
            (record { left = L.σd; fires = plain refl refl refl refl refl (more t none) (λ u. grant (subst (λ y. Chosen y cs) p h)) (more r none); says = (refl, Updates.none); gives = z })

        back : Back (row 11) b (xor_split e cs) (e ∷ []) (g.exit ∷ [])
        back l σ (P-XorSplit1 q t h o r) = gone q (inl (h, o)) t r refl
        back l σ (P-XorSplit2 q d t h r) = gone q (inr (d, h)) t r refl
