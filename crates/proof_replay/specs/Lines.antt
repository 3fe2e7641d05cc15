-- WHAT THE LINES OF A LOG TELL: the calls that they name, when they are true of accepted ones, and which is the first that is not. t is a table, z a state, w a line.
use Rattle.std.specs.Prelude.{ℕ, ◌+◌, ◌≡◌, false, List, [], ◌∷◌, ◌++◌, eqb, length}
use Rattle.base_words.specs.Pick.{if◌then◌or_else◌}
use Rattle.log_lines.specs.Entries.{entry_of}
use Rattle.log_judge.specs.declared.Judged.{Judged}
use Rattle.log_judge.specs.Judge.{judgment}
use Rattle.engine.specs.Calls.{Act, a_step, a_post, did, after}
use Rattle.proof_logs.specs.Told.{line_told}

-- the step or the post that a line names
unfoldable pub act_of : List ℕ → Act
act_of w = if (entry_of w).posts then a_post (entry_of w).name.pool (entry_of w).name.given or_else a_step (entry_of w).name

unfoldable pub acts_of : List (List ℕ) → List Act
acts_of [] = []
acts_of (w ∷ ws) = act_of w ∷ acts_of ws

-- A LINE IS TRUE: its call is accepted, and a step's line is, byte for byte, the one that the run program prints of it; a post's says no more than which post it was
pub record Tells (t w z : List ℕ) : Type 0 where
  pub accepted : (did t (act_of w) z).number ≡ 0
  pub printed : (entry_of w).posts ≡ false → w ≡ line_told t (act_of w) z

-- "accepted in turn"
unfoldable pub AllTell : List ℕ → List (List ℕ) → List ℕ → Type 0
AllTell t [] z = Unit {0}
AllTell t (w ∷ ws) z = Tells t w z × AllTell t ws (did t (act_of w) z).state

-- AT FAULT: "the step's own number, or 0 where only the text is untrue"
pub record AtFault (t w z : List ℕ) (own : ℕ) : Type 0 where
  pub number_is : (did t (act_of w) z).number ≡ own
  pub untrue : own ≡ 0 → ((entry_of w).posts ≡ false) × (w ≡ line_told t (act_of w) z → ⊥)

-- the line with the ordinal k is at fault, in the state that those before it leave, and they are not
pub record FirstFault (t : List ℕ) (ws : List (List ℕ)) (z : List ℕ) (k own : ℕ) : Type 0 where
  pub before : List (List ℕ)
  pub line : List ℕ
  pub rest : List (List ℕ)
  pub are : ws ≡ before ++ (line ∷ rest)
  pub place : length before ≡ k
  pub true_before : AllTell t before z
  pub fault : AtFault t line (after t (acts_of before) z) own

-- an answer where n events are before those that were judged
unfoldable pub later : ℕ → Judged → Judged
later n j = if eqb j.number 24 then judgment 24 (n + j.beside) j.own or_else j
