-- AN OLD HISTORY, and the two meanings at the bound. A small model with one endSnd, at which an instance sends twice: the table as its text says it, the table that is read, and six steps.
use Rattle.std.specs.Prelude.{ℕ, Bool, ◌&&◌, List, [], ◌∷◌, map, eqb}
use Rattle.base_words.specs.Text.{bytes}
use Rattle.check_model.specs.Checks.{Pool}
use Rattle.meaning.specs.declared.Name.{Name}
use Rattle.meaning.specs.Tuples.{empty}
use Rattle.meaning.specs.Step.{step}
use Rattle.text_read.specs.Notation.{model, table_of, rewritten}
use Rattle.base_bytes.specs.Bytes.{same_bytes}
use Rattle.engine.specs.Calls.{Act, a_step}

abbrev pub text : List ℕ
text = bytes "pool(1,start(1,2)|andSplit(2,{3,4})|xorJoin({3,4},5)|endSnd(5,3:<7>))"

abbrev pub said : List Pool
said = (model text).value

abbrev pub old : List ℕ
old = table_of said

abbrev pub new : List ℕ
new = table_of (map rewritten said)

-- a step of instance 0 at an element, by a branch
abbrev pub branch_step : ℕ → ℕ → Name
branch_step e b = record { pool = 1; instance = 0; element = e; phase = 0; branch = b; given = empty }

abbrev pub steps : List Name
steps = branch_step 0 0 ∷ branch_step 1 0 ∷ branch_step 2 0 ∷ branch_step 2 1 ∷ branch_step 3 0 ∷ branch_step 3 0 ∷ []

abbrev pub acts : List Act
acts = map a_step steps

-- AT THE BOUND: the first words of instances, one made, with a token before the endSnd and k on edge 6, which it sends to now
abbrev pub holding : ℕ → ℕ → List ℕ
holding j k = 1 ∷ 0 ∷ 0 ∷ 0 ∷ 0 ∷ 0 ∷ 0 ∷ 0 ∷ j ∷ k ∷ []

-- the step's number over a table, and what it leaves of these words
abbrev pub gives : List ℕ → List ℕ → ℕ → List ℕ → Bool
gives t s number left = eqb (step t s [] (branch_step 3 0)).answer.number number && same_bytes (step t s [] (branch_step 3 0)).instances left

abbrev pub points : List Bool
points =
    gives old (holding 1 0) 0 (holding 0 0) ∷  -- it took the token and sent
    gives new (holding 1 0) 0 (holding 0 1) ∷  -- it puts one on its own edge too
    gives new (holding 1 254) 0 (holding 0 255) ∷  -- the 255th send
    gives new (holding 1 255) 18 (holding 1 255) ∷ []  -- the 256th
