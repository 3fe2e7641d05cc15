-- THE HISTORY THAT A LOG TELLS: what its lines say is what the calls gave. w is a line, h a history.
use Rattle.std.specs.Prelude.{ℕ, ◌≡◌, true, List, [], ◌∷◌}
use Rattle.log_lines.specs.Entries.{entry_of}
use Rattle.write_lines.specs.Lines.{step_line}
use Rattle.step_history.specs.History.{Entry, step_gave, post_gave}

-- an accepted step's line is the one that is printed of it and its answer, sign, name and values; an accepted post's line names it
unfoldable pub Says : List ℕ → Entry → Type 0
Says w (step_gave n a) = (a.number ≡ 0) × (step_line n a ≡ w)
Says w (post_gave m g k) = (k ≡ 0) × ((entry_of w).posts ≡ true) × ((entry_of w).name.pool ≡ m) × ((entry_of w).name.given ≡ g)

-- line after line
unfoldable pub AllSay : List (List ℕ) → List Entry → Type 0
AllSay [] [] = Unit {0}
AllSay [] (e ∷ h) = ⊥
AllSay (w ∷ ws) [] = ⊥
AllSay (w ∷ ws) (e ∷ h) = Says w e × AllSay ws h
