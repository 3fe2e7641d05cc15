-- THE LINES OF A RUN: what a log tells of accepted calls, one after the other. t is a table, z a state.
use Rattle.std.specs.Prelude.{ℕ, ◌≤◌, List, [], ◌∷◌}
use Rattle.base_words.specs.Words.{at, greatest}
use Rattle.write_lines.specs.Lines.{step_line}
use Rattle.log_pieces.specs.Pieces.{post_line}
use Rattle.meaning.specs.declared.Tuple.{Tuple}
use Rattle.engine.specs.Engine.{stepped}
use Rattle.engine.specs.Calls.{Act, a_step, a_post, did}

-- a step's line is the one that the run program prints, a post's the one that is journaled
unfoldable pub line_told : List ℕ → Act → List ℕ → List ℕ
line_told t (a_step n) z = step_line n (stepped t z n).answer
line_told t (a_post name g) z = post_line name g

unfoldable pub told : List ℕ → List Act → List ℕ → List (List ℕ)
told t [] z = []
told t (a ∷ rest) z = line_told t a z ∷ told t rest (did t a z).state

-- WHAT IS POSTED is in words, as the type of the call says
unfoldable pub AllPosted : List Act → Type 0
AllPosted [] = Unit {0}
AllPosted (a_step n ∷ rest) = AllPosted rest
AllPosted (a_post name g ∷ rest) = ((j : ℕ) → at g.values j ≤ greatest) × AllPosted rest

-- so is all that is sent, consumed or posted, from a table in words
unfoldable pub message : List ℕ → Act → List ℕ → Tuple
message t (a_step n) z = (stepped t z n).answer.tuple
message t (a_post name g) z = g

unfoldable pub AllWords : List ℕ → List Act → List ℕ → Type 0
AllWords t [] z = Unit {0}
AllWords t (a ∷ rest) z = ((j : ℕ) → at (message t a z).values j ≤ greatest) × AllWords t rest (did t a z).state
