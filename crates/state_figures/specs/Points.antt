-- Figures tried on small states: one table. Words that a list leaves out are 0.
use Rattle.std.specs.Prelude.{ℕ, ◌-◌, ◌*◌, Bool, List, [], ◌∷◌, ◌++◌, eqb, replicate}
use Rattle.base_words.specs.Counts.{instances}
use Rattle.base_state.specs.Places.{instance_words}
use Rattle.base_state.specs.Instances.{with_tokens, with_active, with_ready, with_field}
use Rattle.check_limits.specs.Points.{Point, ◌holds◌, ◌fails◌}
use Rattle.state_figures.specs.Figures.{agree, followed, desk_number}

-- WORDS OF AN INSTANCE with nothing left, of one with a token on edge e
abbrev blank : List ℕ
blank = replicate instance_words 0

abbrev token : ℕ → List ℕ
token e = with_tokens blank e 1

-- WORDS OF A STATE of two pools: how many instances they have made, the first two of pool 1 and the first of pool 2
abbrev state : ℕ → ℕ → List ℕ → List ℕ → List ℕ → List ℕ
state made made₂ h i h₂ = made ∷ made₂ ∷ 0 ∷ 0 ∷ (h ++ (i ++ (replicate (instance_words * (instances - 2)) 0 ++ h₂)))

abbrev record3 : ℕ → ℕ → ℕ → List ℕ
record3 made unfinished finished = made ∷ unfinished ∷ finished ∷ []

-- one instance h of pool 1 alone, and its record
abbrev alone : List ℕ → ℕ → ℕ → ℕ → Bool
alone h made unfinished finished = agree (record3 made unfinished finished ∷ []) (1 ∷ []) (state 1 0 h blank blank)

-- the session of document 01, fresh, with its records, and after `end` of pool 1 (RULES: figures)
abbrev fresh : List ℕ
fresh = state 1 0 (token 1) blank blank

abbrev begun : List (List ℕ)
begun = record3 1 1 0 ∷ record3 0 0 0 ∷ []

abbrev ended : List ℕ
ended = state 1 0 blank blank blank

abbrev both : List (List ℕ) → List ℕ → Bool
both rs s = agree rs (2 ∷ []) s

-- THE TABLE
abbrev pub points : List Point
points =
    "the fresh session" holds both begun fresh ∷
    "after `end` of pool 1" holds both (record3 1 0 1 ∷ record3 0 0 0 ∷ []) ended ∷
    "startRcv: pool 2 has one" holds both (record3 1 0 1 ∷ record3 1 1 0 ∷ []) (state 1 1 blank blank (token 1)) ∷
    "na phase 1 took the only token: an active count is left" holds alone (with_active blank 1 1) 1 1 0 ∷
    "a ready count alone" holds alone (with_ready blank 16 1) 1 1 0 ∷
    "a ready count is no end" fails alone (with_ready blank 16 1) 1 0 1 ∷
    "two tokens, one `end`" holds alone (token 48) 1 1 0 ∷
    "terminate with others about" holds alone blank 1 0 1 ∷
    "a field is nothing left" holds alone (with_field blank 0 7) 1 0 1 ∷
    "two instances, one finished" holds agree (record3 2 1 1 ∷ []) (1 ∷ []) (state 2 0 blank (token 1) blank) ∷
    "an unmade instance does not count" holds agree (record3 0 0 0 ∷ []) (1 ∷ []) (state 0 0 blank blank blank) ∷
    "records in the other order" fails both (record3 0 0 0 ∷ record3 1 1 0 ∷ []) fresh ∷
    "one too many" fails both (record3 1 1 0 ∷ record3 0 0 0 ∷ record3 0 0 0 ∷ []) fresh ∷
    "none" fails both [] fresh ∷
    "a step that leaves nothing" holds both (followed 0 begun ended 0 0) ended ∷
    "a step that leaves something" holds both (followed 0 begun fresh 0 0) fresh ∷
    "a step that makes an instance" holds both (followed 0 begun (state 1 1 (token 1) blank (token 1)) 1 0) (state 1 1 (token 1) blank (token 1)) ∷
    "a refused step" holds both (followed 12 begun ended 0 0) fresh ∷
    "records that do not agree: 26" holds eqb (desk_number 0 [] (2 ∷ []) fresh) 26 ∷
    "with version 15: 25" holds eqb (desk_number 25 [] (2 ∷ []) fresh) 25 ∷
    "with a state that doesn't fit: 10" holds eqb (desk_number 10 [] (2 ∷ []) fresh) 10 ∷ []
