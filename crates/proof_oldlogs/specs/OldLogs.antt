-- AN OLD LOG, from the days when a table held endSnd: "An old log stays lawful while no instance does more than 255 such sends at one element, since the new ends aren't in it." ps is a model as its text says it, its
-- endSnds and all; t its table, which no public call takes any more; z a state, w a line. P-EndSnd still is a row of the table of moves, so that `step` over t is what a step meant then.
use Rattle.std.specs.Prelude.{ℕ, ◌≤◌, ◌≡◌, Bool, true, false, ◌&&◌, List, [], ◌∷◌, ◌++◌, eqb, get_or, Ok}
use Rattle.base_words.specs.Counts.{count_most}
use Rattle.base_words.specs.Each.{total}
use Rattle.base_words.specs.Sum.{one_if}
use Rattle.base_state.specs.Instances.{instances_of, queues_of}
use Rattle.meaning.specs.declared.Name.{Name}
use Rattle.meaning.specs.Step.{step}
use Rattle.meaning.specs.Post.{post}
use Rattle.check_model.specs.Checks.{Pool}
use Rattle.state_fits.specs.Fresh.{fresh}
use Rattle.text_ends.specs.Rewriting.{is_end_snd}
use Rattle.text_passes.specs.Model.{no_pool}
use Rattle.text_read.specs.Notation.{table_of}
use Rattle.write_lines.specs.Lines.{step_line}
use Rattle.log_text.specs.Logs.{scan, lines_of}
use Rattle.log_lines.specs.Entries.{entry_of}
use Rattle.engine.specs.Engine.{Left, Stepped, leaving}
use Rattle.engine.specs.Calls.{Act, a_step, a_post}
use Rattle.log_pieces.specs.Pieces.{post_line}
use Rattle.proof_logs.specs.Told.{AllPosted}
use Rattle.proof_replay.specs.Lines.{act_of, acts_of}

-- THE OLD CALLS: a step and a post by the rules alone
unfoldable pub old_stepped : List ℕ → List ℕ → Name → Stepped
old_stepped t z n = leaving (step t (instances_of z) (queues_of z) n)

unfoldable pub old_did : List ℕ → Act → List ℕ → Left
old_did t (a_step n) z = record { number = (old_stepped t z n).answer.number; state = (old_stepped t z n).state }
old_did t (a_post name g) z = record { number = (post (queues_of z) name g).number; state = instances_of z ++ (post (queues_of z) name g).queues }

unfoldable pub old_line : List ℕ → Act → List ℕ → List ℕ
old_line t (a_step n) z = step_line n (old_stepped t z n).answer
old_line t (a_post name g) z = post_line name g

-- calls one after the other: whether all were accepted, and the lines that were printed of them
unfoldable pub all_old_accepted : List ℕ → List Act → List ℕ → Bool
all_old_accepted t [] z = true
all_old_accepted t (a ∷ rest) z = eqb (old_did t a z).number 0 && all_old_accepted t rest (old_did t a z).state

unfoldable pub old_told : List ℕ → List Act → List ℕ → List (List ℕ)
old_told t [] z = []
old_told t (a ∷ rest) z = old_line t a z ∷ old_told t rest (old_did t a z).state

-- A LINE WAS TRUE: its call was accepted, and a step's line is the one that was printed of it
pub record OldTells (t w z : List ℕ) : Type 0 where
  pub accepted : (old_did t (act_of w) z).number ≡ 0
  pub printed : (entry_of w).posts ≡ false → w ≡ old_line t (act_of w) z

unfoldable pub AllOldTell : List ℕ → List (List ℕ) → List ℕ → Type 0
AllOldTell t [] z = Unit {0}
AllOldTell t (w ∷ ws) z = OldTells t w z × AllOldTell t ws (old_did t (act_of w) z).state

-- how many of the calls are steps of instance i at element e of the pool with a number
unfoldable pub is_step_of : ℕ → ℕ → ℕ → Act → Bool
is_step_of number i e (a_step n) = eqb n.pool number && eqb n.instance i && eqb n.element e
is_step_of number i e (a_post name g) = false

unfoldable pub steps_at : ℕ → ℕ → ℕ → List Act → ℕ
steps_at number i e acts = total (λ a. one_if (is_step_of number i e a)) acts

-- "no instance does more than 255 such sends at one element"
abbrev pub FewSends : List Pool → List Act → Type 0
FewSends ps acts = (p i e : ℕ) → is_end_snd (get_or (get_or ps p no_pool).elements e []) ≡ true → steps_at (get_or ps p no_pool).number i e acts ≤ count_most

-- AN OLD HISTORY of accepted steps and posts from the fresh state for version v, what is posted in words
pub record OldHistory (ps : List Pool) (v : ℕ) (acts : List Act) : Type 0 where
  pub accepted : all_old_accepted (table_of ps) acts (fresh (table_of ps) v) ≡ true
  pub posted : AllPosted acts
  pub few : FewSends ps acts

-- AN OLD LOG of accepted steps and posts, under version v
pub record OldLog (ps : List Pool) (v : ℕ) (log : List ℕ) : Type 0 where
  pub is_log : (q : ℕ) × ((scan log).end ≡ Ok q)
  pub told : AllOldTell (table_of ps) (lines_of log) (fresh (table_of ps) v)
  pub few : FewSends ps (acts_of (lines_of log))
