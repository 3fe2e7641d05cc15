-- THE INITIAL CONFIGURATION of a collaboration, over the paper's own syntax and states. Section 3.2 shows one (data inputs, which are not built, left out): σi(p) = {⟨σe⁰·[e ↦ 1], σd⁰, σt⁰⟩}
-- for the pool whose start has the first edge e, and σi(p) = ∅ for the others. Document 01: "Fresh state: empty queues; a pool with `start` has instance 0, with one token on start's
-- first edge; a pool with `startRcv` has none." Document 02, wish 8: "fields `s0` to `s15`, undefined at first". (RULES: stores)
use Rattle.std.specs.Prelude.{ℕ, Bool, true, false, List, [], ◌∷◌, eqb}
use Rattle.base_words.specs.Pick.{if◌then◌or_else◌}
use Rattle.paper.specs.Syntax.{Element, start, start_rcv, end, terminate, end_snd, inter_rcv, inter_snd, event_based, and_split, and_join, xor_join, xor_split, task, task_rcv, task_snd, Pool}
use Rattle.paper.specs.States.{Local, unmarked, unset, blank, ◌edges:◌, put, Configuration}

-- what is got of the first thing of a list that passes a test
unfoldable pub of_first : {A B : Type 0} → (A → Bool) → (A → B) → B → List A → B
of_first test get none [] = none
of_first test get none (x ∷ xs) = if test x then get x or_else of_first test get none xs

-- a process begins at the first edge of its start, or waits for a message
pub data Beginning : Type 0 where
  waits : Beginning
  begins : (e : ℕ) → Beginning

unfoldable pub beginning_at : Element → Beginning
beginning_at (start e e') = begins e
beginning_at (start_rcv m ts e) = waits
beginning_at (end e) = waits
beginning_at (terminate e) = waits
beginning_at (end_snd e m xs) = waits
beginning_at (inter_rcv e m ts e') = waits
beginning_at (inter_snd e m xs e') = waits
beginning_at (event_based e branches) = waits
beginning_at (and_split e E) = waits
beginning_at (and_join E e) = waits
beginning_at (xor_join E e) = waits
beginning_at (xor_split e G) = waits
beginning_at (task e n N c A e') = waits
beginning_at (task_rcv e n N c A m ts e') = waits
beginning_at (task_snd e n N c A m xs e') = waits

unfoldable pub is_beginning : Beginning → Bool
is_beginning waits = false
is_beginning (begins e) = true

abbrev pub beginning : List Element → Beginning
beginning P = of_first (λ el. is_beginning (beginning_at el)) beginning_at waits P

-- the beginning of the pool named p; a name that no pool has waits for ever
unfoldable pub beginning_of : List Pool → ℕ → Beginning
beginning_of C p = of_first (λ (P : Pool). eqb P.name p) (λ (P : Pool). beginning P.process) waits C

-- how many instances there are of it, and the first of them
unfoldable pub instances_begun : Beginning → ℕ
instances_begun waits = 0
instances_begun (begins e) = 1

unfoldable pub opening : Beginning → Local
opening waits = blank
opening (begins e) = blank edges: put unmarked e 1

unfoldable pub initial : List Pool → Configuration
initial C = record {
  σi = λ p i. if eqb i 0 then opening (beginning_of C p) or_else blank;
  made = λ p. instances_begun (beginning_of C p);
  σm = λ m. record { times = λ vs. 0; size = 0 };
  σds = unset;
}
