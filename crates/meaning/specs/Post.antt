-- A POST of a tuple g under a name to the queues q. "For a post only 10, 19 and 17 apply, in the order 10, 19, 17." (RULES: post)
use Rattle.std.specs.Prelude.{ℕ, Bool, ◌&&◌, List, [], ◌∷◌, eqb, leb, ltb, length}
use Rattle.base_words.specs.Blocks.{Queues}
use Rattle.base_words.specs.Pick.{if◌then◌or_else◌}
use Rattle.base_words.specs.Counts.{names, values, messages}
use Rattle.meaning.specs.declared.Tuple.{Tuple}
use Rattle.meaning.specs.Queues.{messages_of, sending}
use Rattle.meaning.specs.Refusals.{Refusal, ◌unless◌, first_refusal}

unfoldable pub post_refusals : Queues → ℕ → Tuple → List Refusal
post_refusals q name g =
    19 unless (ltb name names && leb g.length values) ∷  -- name above 15 or more than 4 values
    17 unless ltb (length (messages_of q name)) messages ∷ []  -- the queue posted to holds 64

pub record Posted : Type 0 where
  pub number : ℕ
  pub queues : Queues

unfoldable pub post : Queues → ℕ → Tuple → Posted
post q name g =
    if eqb (first_refusal (post_refusals q name g)) 0 then record { number = 0; queues = sending q name g }
    or_else record { number = first_refusal (post_refusals q name g); queues = q }
