-- FIGURES 7 TO 9: the transitions of one process instance. Above each constructor stands its line of the figure.
-- Document 01 names a step's rule by its phase and branch: phase 0 but for tasks that are not atomic, branch 0 but where a line has a choice.
-- v is the version that the state was made for; no rule changes it. `room` is document 01's: no edge and no task count, after the taking, passes 255. The paper has no such bound. (RULES: steps)
use Rattle.std.specs.Prelude.{ℕ, ◌<◌, ◌≡◌, List, ◌⊎◌}
use Rattle.meaning.specs.Values.{Value}
use Rattle.meaning.specs.declared.Truth.TheVariants.{True, False}
use Rattle.paper.specs.Syntax.{Exp, Cond, default, Item, Evaluated, Assignments, Mode, a, na_nc, Choice, Receipt, Element, start, start_rcv, end, terminate, end_snd, inter_rcv, inter_snd, event_based, and_split, and_join, xor_join, xor_split, task, task_rcv, task_snd, Stands, Each}
use Rattle.paper.specs.States.{Local, unmarked, ◌edges:◌, ◌fields:◌, ◌active:◌, ◌ready:◌, inc, dec, incs, decs}
use Rattle.paper.specs.Evaluation.{truth, Evals, Templates, Updates}

-- ℓ ::= τ | !m:ṽ | ?m:ẽt, A | new m:ẽt and τ ::= ε | kill
pub data Internal : Type 0 where
  ε : Internal
  kill : Internal

pub data Label : Type 0 where
  τ : Internal → Label
  sends : (m : ℕ) (vs : List ℕ) → Label
  receives : (m : ℕ) (us : List Evaluated) (A : Assignments) → Label
  new : (m : ℕ) (us : List Evaluated) → Label

-- isInactive(σt, n)
abbrev pub is_inactive : Local → ℕ → Type 0
is_inactive σ n = (σ.active n ≡ 0) × (σ.ready n ≡ 0)

-- under version v a task of mode N waits until it is inactive. (The paper: N = na_nc. Document 02, wish 7: "under 10 an `na_c` task waits .., as `na_nc` does".) (RULES: versions)
abbrev pub waits : ℕ → Mode → Type 0
waits v N = (N ≡ na_nc) ⊎ (v ≡ 10)

-- below the greatest count of document 01 (RULES: steps)
abbrev pub room : (ℕ → ℕ) → ℕ → Type 0
room σ k = σ k < 255

-- Moves v el p b σ ℓ σ': under version v el, in phase p and by branch b, goes from σ to σ' with the label ℓ
pub data Moves (v : ℕ) : Element → ℕ → ℕ → Local → Label → Local → Type 0 where
  -- FIGURE 7
  -- start(e,e') —ε→ ⟨inc(dec(σe,e),e')⟩   σe(e) > 0
  P-Start : {e e' : ℕ} {σ : Local} → 0 < σ.σe e → room (dec σ.σe e) e'
      → Moves v (start e e') 0 0 σ (τ Internal.ε) (σ edges: inc (dec σ.σe e) e')
  -- end(e) —ε→ ⟨dec(σe,e)⟩   σe(e) > 0
  P-End : {e : ℕ} {σ : Local} → 0 < σ.σe e
      → Moves v (end e) 0 0 σ (τ Internal.ε) (σ edges: dec σ.σe e)
  -- terminate(e) —kill→ ⟨reset(σe), reset(σt)⟩   σe(e) > 0
  P-Terminate : {e : ℕ} {σ : Local} → 0 < σ.σe e
      → Moves v (terminate e) 0 0 σ (τ kill) (σ edges: unmarked active: unmarked ready: unmarked)
  -- startRcv(m:t̃,e) —new m:ẽt→ ⟨inc(σe,e)⟩   eval(t̃,σd,ẽt)
  P-StartRcv : {m e : ℕ} {ts : List Item} {us : List Evaluated} {σ : Local} → Templates σ.σd ts us → room σ.σe e
      → Moves v (start_rcv m ts e) 0 0 σ (new m us) (σ edges: inc σ.σe e)
  -- endSnd(e,m:e͠xp) —!m:ṽ→ ⟨dec(σe,e)⟩   σe(e) > 0, eval(e͠xp,σd,ṽ): the paper's rule, of no table within the limits (`no-end-snd`)
  P-EndSnd : {e m : ℕ} {xs : List Exp} {vs : List ℕ} {σ : Local} → 0 < σ.σe e → Evals σ.σd xs vs
      → Moves v (end_snd e m xs) 0 0 σ (sends m vs) (σ edges: dec σ.σe e)
  -- interRcv(e,m:t̃,e') —?m:ẽt,ε→ ⟨inc(dec(σe,e),e')⟩   σe(e) > 0, eval(t̃,σd,ẽt)
  P-InterRcv : {e m e' : ℕ} {ts : List Item} {us : List Evaluated} {σ : Local} → 0 < σ.σe e → Templates σ.σd ts us → room (dec σ.σe e) e'
      → Moves v (inter_rcv e m ts e') 0 0 σ (receives m us Assignments.ε) (σ edges: inc (dec σ.σe e) e')
  -- interSnd(e,m:e͠xp,e') —!m:ṽ→ ⟨inc(dec(σe,e),e')⟩   σe(e) > 0, eval(e͠xp,σd,ṽ)
  P-InterSnd : {e m e' : ℕ} {xs : List Exp} {vs : List ℕ} {σ : Local} → 0 < σ.σe e → Evals σ.σd xs vs → room (dec σ.σe e) e'
      → Moves v (inter_snd e m xs e') 0 0 σ (sends m vs) (σ edges: inc (dec σ.σe e) e')
  -- andSplit(e,E) —ε→ ⟨inc(dec(σe,e),E)⟩   σe(e) > 0
  P-AndSplit : {e : ℕ} {E : List ℕ} {σ : Local} → 0 < σ.σe e → Each (room (dec σ.σe e)) E
      → Moves v (and_split e E) 0 0 σ (τ Internal.ε) (σ edges: incs (dec σ.σe e) E)
  -- xorSplit(e,{(e',exp)} ∪ G) —ε→ ⟨inc(dec(σe,e),e')⟩   σe(e) > 0, eval(exp,σd,true)
  -- (document 02, wish 6: "and all earlier ones other than default are false") (RULES: branches)
  P-XorSplit1 : {e b : ℕ} {G : List Choice} {g : Choice} {σ : Local} → Stands g b G → 0 < σ.σe e → truth σ.σd g.condition ≡ True
      → ((j : ℕ) (c : Choice) → Stands c j G → j < b → (c.condition ≡ default → ⊥) → truth σ.σd c.condition ≡ False) → room (dec σ.σe e) g.exit
      → Moves v (xor_split e G) 0 b σ (τ Internal.ε) (σ edges: inc (dec σ.σe e) g.exit)
  -- xorSplit(e,{(e',default)} ∪ G) —ε→ ⟨inc(dec(σe,e),e')⟩   σe(e) > 0, ∀(ej,expj) ∈ G . eval(expj,σd,false)
  P-XorSplit2 : {e b : ℕ} {G : List Choice} {g : Choice} {σ : Local} → Stands g b G → g.condition ≡ default → 0 < σ.σe e
      → ((j : ℕ) (c : Choice) → Stands c j G → (j ≡ b → ⊥) → truth σ.σd c.condition ≡ False) → room (dec σ.σe e) g.exit
      → Moves v (xor_split e G) 0 b σ (τ Internal.ε) (σ edges: inc (dec σ.σe e) g.exit)
  -- andJoin(E,e) —ε→ ⟨inc(dec(σe,E),e)⟩   ∀e' ∈ E . σe(e') > 0
  P-AndJoin : {E : List ℕ} {e : ℕ} {σ : Local} → Each (λ e'. 0 < σ.σe e') E → room (decs σ.σe E) e
      → Moves v (and_join E e) 0 0 σ (τ Internal.ε) (σ edges: inc (decs σ.σe E) e)
  -- xorJoin({e} ∪ E,e') —ε→ ⟨inc(dec(σe,e),e')⟩   σe(e) > 0
  P-XorJoin : {E : List ℕ} {e e' b : ℕ} {σ : Local} → Stands e b E → 0 < σ.σe e → room (dec σ.σe e) e'
      → Moves v (xor_join E e') 0 b σ (τ Internal.ε) (σ edges: inc (dec σ.σe e) e')
  -- eventBased(e,(m₁:t̃₁,e₁),..,(mh:t̃h,eh)) —?mj:ẽtj,ε→ ⟨inc(dec(σe,e),ej)⟩   σe(e) > 0, 1 ≤ j ≤ h, eval(t̃j,σd,ẽtj)
  P-EventG : {e b : ℕ} {branches : List Receipt} {g : Receipt} {us : List Evaluated} {σ : Local} → Stands g b branches → 0 < σ.σe e → Templates σ.σd g.template us
      → room (dec σ.σe e) g.exit
      → Moves v (event_based e branches) 0 b σ (receives g.name us Assignments.ε) (σ edges: inc (dec σ.σe e) g.exit)
  -- FIGURE 8
  -- task(e,n,a,exp,A,e') —ε→ ⟨inc(dec(σe,e),e'),σd'⟩   σe(e) > 0, eval(exp,σd,true), upd(σd,A,σd')
  P-Task-A : {e n e' : ℕ} {c : Cond} {A : Assignments} {σ : Local} {σd' : ℕ → Value} → 0 < σ.σe e → truth σ.σd c ≡ True → Updates σ.σd A σd'
      → room (dec σ.σe e) e'
      → Moves v (task e n a c A e') 0 0 σ (τ Internal.ε) (σ edges: inc (dec σ.σe e) e' fields: σd')
  -- taskRcv(e,n,a,exp,A,m:t̃,e') —?m:ẽt,A→ ⟨inc(dec(σe,e),e')⟩   σe(e) > 0, eval(exp,σd,true), eval(t̃,σd,ẽt)
  P-TaskRcv-A : {e n m e' : ℕ} {c : Cond} {A : Assignments} {ts : List Item} {us : List Evaluated} {σ : Local} → 0 < σ.σe e → truth σ.σd c ≡ True
      → Templates σ.σd ts us → room (dec σ.σe e) e'
      → Moves v (task_rcv e n a c A m ts e') 0 0 σ (receives m us A) (σ edges: inc (dec σ.σe e) e')
  -- taskSnd(e,n,a,exp',A,m:e͠xp,e') —!m:ṽ→ ⟨inc(dec(σe,e),e'),σd'⟩   σe(e) > 0, eval(exp',σd,true), upd(σd,A,σd'), eval(e͠xp,σd,ṽ)
  -- (document 01: "taskSnd assigns, then works out its message", so it is eval(e͠xp,σd',ṽ)) (RULES: steps)
  P-TaskSnd-A : {e n m e' : ℕ} {c : Cond} {A : Assignments} {xs : List Exp} {vs : List ℕ} {σ : Local} {σd' : ℕ → Value} → 0 < σ.σe e → truth σ.σd c ≡ True
      → Updates σ.σd A σd' → Evals σd' xs vs → room (dec σ.σe e) e'
      → Moves v (task_snd e n a c A m xs e') 0 0 σ (sends m vs) (σ edges: inc (dec σ.σe e) e' fields: σd')
  -- FIGURE 9, N being na_c or na_nc
  -- task(e,n,N,exp,A,e') —ε→ ⟨dec(σe,e),inc(σt,n,a)⟩   σe(e) > 0, eval(exp,σd,true), N = na_nc ⇒ isInactive(σt,n) (under version 10 also N = na_c)
  P-Task-N1 : {e n e' : ℕ} {N : Mode} {c : Cond} {A : Assignments} {σ : Local} → (N ≡ a → ⊥) → 0 < σ.σe e → truth σ.σd c ≡ True
      → (waits v N → is_inactive σ n) → room σ.active n
      → Moves v (task e n N c A e') 1 0 σ (τ Internal.ε) (σ edges: dec σ.σe e active: inc σ.active n)
  -- task(e,n,N,exp,A,e') —ε→ ⟨inc(σe,e'),σd',dec(σt,n,a)⟩   σt(n,a) > 0, upd(σd,A,σd')
  P-Task-N2 : {e n e' : ℕ} {N : Mode} {c : Cond} {A : Assignments} {σ : Local} {σd' : ℕ → Value} → (N ≡ a → ⊥) → 0 < σ.active n → Updates σ.σd A σd'
      → room σ.σe e'
      → Moves v (task e n N c A e') 3 0 σ (τ Internal.ε) (σ edges: inc σ.σe e' fields: σd' active: dec σ.active n)
  -- taskRcv(e,n,N,exp,A,m:t̃,e') —ε→ ⟨dec(σe,e),inc(σt,n,a)⟩   σe(e) > 0, eval(exp,σd,true), N = na_nc ⇒ isInactive(σt,n) (under version 10 also N = na_c)
  P-TaskRcv-N1 : {e n m e' : ℕ} {N : Mode} {c : Cond} {A : Assignments} {ts : List Item} {σ : Local} → (N ≡ a → ⊥) → 0 < σ.σe e → truth σ.σd c ≡ True
      → (waits v N → is_inactive σ n) → room σ.active n
      → Moves v (task_rcv e n N c A m ts e') 1 0 σ (τ Internal.ε) (σ edges: dec σ.σe e active: inc σ.active n)
  -- taskRcv(e,n,N,exp,A,m:t̃,e') —?m:ẽt,ε→ ⟨inc(dec(σt,n,a),n,r)⟩   σt(n,a) > 0, eval(t̃,σd,ẽt)
  P-TaskRcv-N2 : {e n m e' : ℕ} {N : Mode} {c : Cond} {A : Assignments} {ts : List Item} {us : List Evaluated} {σ : Local} → (N ≡ a → ⊥) → 0 < σ.active n
      → Templates σ.σd ts us → room σ.ready n
      → Moves v (task_rcv e n N c A m ts e') 2 0 σ (receives m us Assignments.ε) (σ active: dec σ.active n ready: inc σ.ready n)
  -- taskRcv(e,n,N,exp,A,m:t̃,e') —ε→ ⟨inc(σe,e'),σd',dec(σt,n,r)⟩   σt(n,r) > 0, upd(σd,A,σd')
  P-TaskRcv-N3 : {e n m e' : ℕ} {N : Mode} {c : Cond} {A : Assignments} {ts : List Item} {σ : Local} {σd' : ℕ → Value} → (N ≡ a → ⊥) → 0 < σ.ready n
      → Updates σ.σd A σd' → room σ.σe e'
      → Moves v (task_rcv e n N c A m ts e') 3 0 σ (τ Internal.ε) (σ edges: inc σ.σe e' fields: σd' ready: dec σ.ready n)
  -- taskSnd(e,n,N,exp,A,m:e͠xp,e') —ε→ ⟨dec(σe,e),inc(σt,n,a)⟩   σe(e) > 0, eval(exp,σd,true), N = na_nc ⇒ isInactive(σt,n) (under version 10 also N = na_c)
  P-TaskSnd-N1 : {e n m e' : ℕ} {N : Mode} {c : Cond} {A : Assignments} {xs : List Exp} {σ : Local} → (N ≡ a → ⊥) → 0 < σ.σe e → truth σ.σd c ≡ True
      → (waits v N → is_inactive σ n) → room σ.active n
      → Moves v (task_snd e n N c A m xs e') 1 0 σ (τ Internal.ε) (σ edges: dec σ.σe e active: inc σ.active n)
  -- taskSnd(e,n,N,exp,A,m:e͠xp,e') —ε→ ⟨σd',inc(dec(σt,n,a),n,s)⟩   σt(n,a) > 0, upd(σd,A,σd')
  P-TaskSnd-N2 : {e n m e' : ℕ} {N : Mode} {c : Cond} {A : Assignments} {xs : List Exp} {σ : Local} {σd' : ℕ → Value} → (N ≡ a → ⊥) → 0 < σ.active n
      → Updates σ.σd A σd' → room σ.ready n
      → Moves v (task_snd e n N c A m xs e') 2 0 σ (τ Internal.ε) (σ fields: σd' active: dec σ.active n ready: inc σ.ready n)
  -- taskSnd(e,n,N,exp,A,m:e͠xp,e') —!m:ṽ→ ⟨inc(σe,e'),dec(σt,n,s)⟩   σt(n,s) > 0, eval(e͠xp,σd,ṽ)
  P-TaskSnd-N3 : {e n m e' : ℕ} {N : Mode} {c : Cond} {A : Assignments} {xs : List Exp} {vs : List ℕ} {σ : Local} → (N ≡ a → ⊥) → 0 < σ.ready n
      → Evals σ.σd xs vs → room σ.σe e'
      → Moves v (task_snd e n N c A m xs e') 3 0 σ (sends m vs) (σ edges: inc σ.σe e' ready: dec σ.ready n)
