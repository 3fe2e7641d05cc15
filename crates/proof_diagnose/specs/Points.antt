-- A SMALL DRAWING FOR EACH RULE of things but the last, which reads a condition's text: one table. A row says what is tried, names the rule that is told and the thing, and has the things behind the root with their tags. (RULES: diagnosis)
use Rattle.std.specs.Prelude.{ℕ, ◌+◌, ◌-◌, Bool, not, ◌&&◌, List, [], ◌∷◌, ◌++◌, length}
use Prim.Native.String.{String}
use Rattle.base_words.specs.All.{all}
use Rattle.base_words.specs.Blocks.{Bytes, Drawing}
use Rattle.base_words.specs.Text.{bytes}
use Rattle.base_kinds.specs.Kinds as kinds
use Rattle.draw_things.specs.Things.{definitions, collaboration, participant, participant_multiplicity, message_flow, process, sequence_flow, condition_expression, stranger, task, send_task, receive_task, exclusive_gateway, event_based_gateway}
use Rattle.draw_diagnose.specs.Rules.{strange, repeated, second_collaboration, lost, unowned, second_multiplicity, loose, adrift, of_no_kind, wrong_default, wrong_message, unheard, untold, wrong_branch, second_condition, breaks}

-- a thing of a sort within another, with its source, which of a node is its kind, its target, and its tag
pub record Tag : Type 0 where
  pub sort : ℕ
  pub within : ℕ
  pub source : ℕ
  pub target : ℕ
  pub tag : List ℕ

infix 70 ◌inside◌from◌to◌tagged◌
abbrev ◌inside◌from◌to◌tagged◌ : ℕ → ℕ → ℕ → ℕ → String → Tag
s inside i from f to g tagged b = record { sort = s; within = i; source = f; target = g; tag = bytes b }

abbrev text_of : List Tag → List ℕ
text_of [] = []
text_of (x ∷ xs) = x.tag ++ text_of xs

abbrev things_of : ℕ → List Tag → List ℕ
things_of p [] = []
things_of p (x ∷ xs) = x.sort ∷ p ∷ x.within ∷ x.source ∷ x.target ∷ things_of (p + length x.tag) xs

pub record Point : Type 0 where
  pub says : String
  pub tried : Bool

-- thing k breaks a rule, no thing before it does, and no earlier rule is broken by any: what is told by `brokenIn`
unfoldable pub is_first : ℕ → ℕ → Bytes → Drawing → ℕ → Bool
is_first rule k t w n = breaks rule t w n k && (all (λ j. not (breaks rule t w n j)) k && all (λ r. all (λ j. not (breaks (r + 1) t w n j)) n) (rule - 1))

-- of the drawing d, behind its root
infix 70 ◌breaks◌at◌by◌
abbrev ◌breaks◌at◌by◌ : String → ℕ → ℕ → List Tag → Point
says breaks rule at k by d =
    let whole = (definitions inside 0 from 0 to 0 tagged "<a>") ∷ d in
    record { says = says; tried = is_first rule k (text_of whole) (things_of 0 whole) (length whole) }

abbrev pool : Tag
pool = process inside 0 from 0 to 0 tagged "<b>"

abbrev flow : ℕ → ℕ → Tag
flow a b = sequence_flow inside 1 from a to b tagged "<f>"

abbrev condition : Tag
condition = condition_expression inside 2 from 0 to 0 tagged "<c>"

abbrev pub points : List Point
points =
    "an element that is not run" breaks strange at 2 by (pool ∷ stranger inside 1 from 0 to 0 tagged "<c>" ∷ [])
    ∷ "the id of another" breaks repeated at 2 by (process inside 0 from 0 to 0 tagged "<b id='p'>" ∷ process inside 0 from 0 to 0 tagged "<b id='p'>" ∷ [])
    ∷ "a second collaboration" breaks second_collaboration at 2 by (collaboration inside 0 from 0 to 0 tagged "<b>" ∷ collaboration inside 0 from 0 to 0 tagged "<b>" ∷ [])
    ∷ "a processRef that names none" breaks lost at 1 by (participant inside 0 from 0 to 0 tagged "<b processRef='p'>" ∷ [])
    ∷ "a process of no participant" breaks unowned at 2 by (participant inside 0 from 0 to 0 tagged "<b>" ∷ pool ∷ [])
    ∷ "a second multiplicity" breaks second_multiplicity at 3 by
    (participant inside 0 from 0 to 0 tagged "<b>" ∷ participant_multiplicity inside 1 from 0 to 0 tagged "<c>" ∷ participant_multiplicity inside 1 from 0 to 0 tagged "<c>" ∷ [])
    ∷ "a flow from nothing to nothing" breaks loose at 2 by (pool ∷ flow 0 0 ∷ [])
    ∷ "a message flow from nothing to nothing" breaks adrift at 1 by (message_flow inside 0 from 0 to 0 tagged "<m>" ∷ [])
    ∷ "a node of no kind" breaks of_no_kind at 2 by (pool ∷ task inside 1 from 0 to 0 tagged "<t>" ∷ [])
    ∷ "a default that is no flow" breaks wrong_default at 2 by (pool ∷ exclusive_gateway inside 1 from kinds.xor_split to 0 tagged "<x default='f'>" ∷ [])
    ∷ "a message flow from a pool to itself" breaks wrong_message at 1 by (message_flow inside 0 from 2 to 2 tagged "<m>" ∷ participant inside 0 from 3 to 0 tagged "<q processRef='p'>" ∷ process inside 0 from 0 to 0 tagged "<b id='p'>" ∷ [])
    ∷ "a sender without message flow" breaks unheard at 2 by (pool ∷ send_task inside 1 from kinds.task_snd to 0 tagged "<t>" ∷ [])
    ∷ "a receiver without" breaks untold at 2 by (pool ∷ receive_task inside 1 from kinds.task_rcv to 0 tagged "<t>" ∷ [])
    ∷ "a task behind an event gateway" breaks wrong_branch at 4 by (pool ∷ event_based_gateway inside 1 from kinds.event_based to 0 tagged "<g>" ∷ task inside 1 from kinds.task to 0 tagged "<t>" ∷ flow 2 3 ∷ [])
    ∷ "a second condition" breaks second_condition at 5 by (pool ∷ flow 3 3 ∷ task inside 1 from kinds.task to 0 tagged "<t>" ∷ condition ∷ condition ∷ [])
    -- a cause before what follows from it, and the first rule before the leftmost thing
    ∷ "a node of no kind before the flow that leads to nothing" breaks loose at 3 by (pool ∷ task inside 1 from 0 to 0 tagged "<t>" ∷ flow 2 0 ∷ [])
    ∷ "an element that is not run behind one of no kind" breaks strange at 3 by (pool ∷ task inside 1 from 0 to 0 tagged "<t>" ∷ stranger inside 1 from 0 to 0 tagged "<c>" ∷ [])
    ∷ "two of no kind" breaks of_no_kind at 2 by (pool ∷ task inside 1 from 0 to 0 tagged "<t>" ∷ task inside 1 from 0 to 0 tagged "<t>" ∷ [])
    ∷ []
