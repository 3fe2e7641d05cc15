-- WHAT A STEP DOES TO THE RECORD w OF ITS POOL, in the words of wish 9's reading: only two changes are possible. (RULES: figures)
use Rattle.std.specs.Prelude.{ℕ, ◌+◌, ◌-◌, Bool, List, [], ◌∷◌, eqb}
use Rattle.base_words.specs.Pick.{if◌then◌or_else◌}
use Rattle.base_words.specs.Words.{at}
use Rattle.base_kinds.specs.Kinds.{start_rcv}
use Rattle.base_table.specs.Table.{kind_in}
use Rattle.base_state.specs.Instances.{instance_at}
use Rattle.meaning.specs.declared.Name.{Name}
use Rattle.meaning.specs.Step.{pool_named, element_named, instances_after}
use Rattle.state_figures.specs.Figures.{is_finished}

-- "made and unfinished one more" (RULES: figures)
abbrev pub one_made : List ℕ → List ℕ
one_made w = (at w 0 + 1) ∷ (at w 1 + 1) ∷ at w 2 ∷ []

-- "unfinished one less, finished one more" (RULES: figures)
abbrev pub one_finished : List ℕ → List ℕ
one_finished w = at w 0 ∷ (at w 1 - 1) ∷ (at w 2 + 1) ∷ []

-- the step left its instance with nothing
unfoldable pub leaves_nothing : List ℕ → List ℕ → Name → Bool
leaves_nothing t s n = is_finished (instance_at (instances_after t s n) (pool_named t n) n.instance)

unfoldable pub changed : List ℕ → List ℕ → Name → List ℕ → List ℕ
changed t s n w =
    if eqb (kind_in (element_named t n)) start_rcv then one_made w
    or_else if leaves_nothing t s n then one_finished w
    or_else w
