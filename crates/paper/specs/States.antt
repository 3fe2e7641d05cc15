-- THE STATES of a process instance and of a collaboration, and the functions of figures 6 and 12 that update them.
use Rattle.std.specs.Prelude.{ℕ, ◌+◌, ◌-◌, Bool, true, false, ◌&&◌, List, [], ◌∷◌, eqb, ltb, None}
use Rattle.base_words.specs.Pick.{if◌then◌or_else◌}
use Rattle.meaning.specs.Values.{Value}

-- ⟨σe, σd, σt⟩: tokens of edges, data, and for tasks how often each is active and how often it is ready. (Ready is the paper's status s of a
-- taskSnd and its r of a taskRcv: no task has both.) σd is what an instance sees, "the triple (σdo, σdc, σds) representing the state of all data
-- elements": of data objects fields 0 to 15, of data stores fields 16 to 31 (document 02, wish 8: s0 to s15), no data collections. (RULES: stores)
pub record Local : Type 0 where
  pub σe : ℕ → ℕ
  pub σd : ℕ → Value
  pub active : ℕ → ℕ
  pub ready : ℕ → ℕ

-- ⟨σe⁰, σd⁰, σt⁰⟩
abbrev pub unmarked : ℕ → ℕ
unmarked k = 0

abbrev pub unset : ℕ → Value
unset d = None

abbrev pub blank : Local
blank = record { σe = unmarked; σd = unset; active = unmarked; ready = unmarked }

-- a target names the states that change, "(iii) those states from the target configuration that are not affected" stay
infixl 20 ◌edges:◌ ◌fields:◌ ◌active:◌ ◌ready:◌
abbrev pub ◌edges:◌ : Local → (ℕ → ℕ) → Local
σ edges: τ = record { σe = τ; σd = σ.σd; active = σ.active; ready = σ.ready }

abbrev pub ◌fields:◌ : Local → (ℕ → Value) → Local
σ fields: τ = record { σe = σ.σe; σd = τ; active = σ.active; ready = σ.ready }

abbrev pub ◌active:◌ : Local → (ℕ → ℕ) → Local
σ active: τ = record { σe = σ.σe; σd = σ.σd; active = τ; ready = σ.ready }

abbrev pub ◌ready:◌ : Local → (ℕ → ℕ) → Local
σ ready: τ = record { σe = σ.σe; σd = σ.σd; active = σ.active; ready = τ }

-- σ · [k ↦ v]
unfoldable pub put : {A : Type 0} → (ℕ → A) → ℕ → A → ℕ → A
put σ k v j = if eqb j k then v or_else σ j

-- inc(σe, e), dec(σe, e), and of σt the same; in figure 6 dec(σt, n, S) adds one, which is a misprint
abbrev pub inc : (ℕ → ℕ) → ℕ → ℕ → ℕ
inc σ k = put σ k (σ k + 1)

abbrev pub dec : (ℕ → ℕ) → ℕ → ℕ → ℕ
dec σ k = put σ k (σ k - 1)

-- inc(σe, ∅) = σe, inc(σe, {e} ∪ E) = inc(inc(σe, e), E); dec(σe, E) likewise
unfoldable pub incs : (ℕ → ℕ) → List ℕ → ℕ → ℕ
incs σ [] = σ
incs σ (k ∷ ks) = incs (inc σ k) ks

unfoldable pub decs : (ℕ → ℕ) → List ℕ → ℕ → ℕ
decs σ [] = σ
decs σ (k ∷ ks) = decs (dec σ k) ks

-- σm(m), a multiset of value tuples: how often each is there, and how many there are in all
pub record Multiset : Type 0 where
  pub times : List ℕ → ℕ
  pub size : ℕ

unfoldable pub same : List ℕ → List ℕ → Bool
same [] [] = true
same [] (w ∷ ws) = false
same (v ∷ vs) [] = false
same (v ∷ vs) (w ∷ ws) = eqb v w && same vs ws

-- M + {ṽ}, M - {ṽ}
infixl 30 ◌joined◌ ◌without◌
unfoldable pub ◌joined◌ : Multiset → List ℕ → Multiset
M joined vs = record { times = λ ws. if same vs ws then M.times ws + 1 or_else M.times ws; size = M.size + 1 }

unfoldable pub ◌without◌ : Multiset → List ℕ → Multiset
M without vs = record { times = λ ws. if same vs ws then M.times ws - 1 or_else M.times ws; size = M.size - 1 }

-- ⟨σi, σm, σds⟩: for each pool its instances, counted from 0 in the order they were made, and how many are made; for each name its messages; the data
-- stores, which the paper has at this level too: "permanent and shared among instances"
pub record Configuration : Type 0 where
  pub σi : ℕ → ℕ → Local
  pub made : ℕ → ℕ
  pub σm : ℕ → Multiset
  pub σds : ℕ → Value

-- σd of an instance from its own fields, 0 to 15, and the stores, which stand behind them; and both again from σd
infixl 20 ◌beside◌
abbrev pub ◌beside◌ : Local → (ℕ → Value) → Local
σ beside ds = σ fields: (λ d. if ltb d 16 then σ.σd d or_else ds (d - 16))

abbrev pub own_of : Local → Local
own_of σ = σ fields: (λ d. if ltb d 16 then σ.σd d or_else None)

abbrev pub stores_of : Local → ℕ → Value
stores_of σ d = σ.σd (16 + d)

-- instance i of pool p with what it sees
abbrev pub seen : Configuration → ℕ → ℕ → Local
seen κ p i = κ.σi p i beside κ.σds

-- updInst(σi, p, σ): instance i of pool p is σ; addInst: the next unmade one is σ, and is made. (Figures 13 and B.25 have σds' of the instance beside
-- them in each target.)
unfoldable pub upd_inst : Configuration → ℕ → ℕ → Local → Configuration
upd_inst κ p i σ = record { σi = put κ.σi p (put (κ.σi p) i (own_of σ)); made = κ.made; σm = κ.σm; σds = stores_of σ }

unfoldable pub add_inst : Configuration → ℕ → Local → Configuration
add_inst κ p σ = record { σi = put κ.σi p (put (κ.σi p) (κ.made p) (own_of σ)); made = inc κ.made p; σm = κ.σm; σds = stores_of σ }

-- add(σm, m, ṽ), rm(σm, m, ṽ)
unfoldable pub add : Configuration → ℕ → List ℕ → Configuration
add κ m vs = record { σi = κ.σi; made = κ.made; σm = put κ.σm m (κ.σm m joined vs); σds = κ.σds }

unfoldable pub rm : Configuration → ℕ → List ℕ → Configuration
rm κ m vs = record { σi = κ.σi; made = κ.made; σm = put κ.σm m (κ.σm m without vs); σds = κ.σds }
