-- "Each name has a queue, oldest first; equal messages stand in it as often as they were put there. Sending and posting append. Consuming removes
-- the oldest equal message and keeps the order of the others." A queue is a list of tuples. (RULES: messages)
use Rattle.std.specs.Prelude.{ℕ, ◌+◌, Bool, true, false, List, [], ◌∷◌, ◌++◌}
use Rattle.base_words.specs.Pick.{if◌then◌or_else◌}
use Rattle.base_words.specs.Sum.{one_if}
use Rattle.meaning.specs.declared.Tuple.{Tuple}
use Rattle.meaning.specs.Tuples.{same_tuple}

-- whether a message equal to g is there
unfoldable pub has : Tuple → List Tuple → Bool
has g [] = false
has g (x ∷ xs) = if same_tuple x g then true or_else has g xs

-- one message more, behind the others
abbrev pub appended : List Tuple → Tuple → List Tuple
appended ms g = ms ++ (g ∷ [])

-- the messages without the oldest one equal to g, the others in their order
unfoldable pub without : Tuple → List Tuple → List Tuple
without g [] = []
without g (x ∷ xs) = if same_tuple x g then xs or_else x ∷ without g xs

-- how often a message equal to g is there
unfoldable pub times : Tuple → List Tuple → ℕ
times g [] = 0
times g (x ∷ xs) = one_if (same_tuple x g) + times g xs
