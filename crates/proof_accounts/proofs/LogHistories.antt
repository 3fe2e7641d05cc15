-- A LAWFUL LOG, ACCOUNTED FOR: what is told of it is the history that the public calls give for its events, in either version; its lines say what these calls answered; and the numbers that are printed of a message
-- balance. t is a table, v a version. Assumes nothing.
use Rattle.xml_skip.specs.Skipping.{Reached}
use Rattle.std.specs.Prelude.{Ok, Err}
use Prim.Native.Nat.{ℕ, zero, suc, ◌+◌, ◌≤◌}
use mathlib.Core.Path.{◌≡◌, refl, sym, ◌∙◌, ap, ap₂, subst}
use mathlib.Core.Bool.{Bool, true, false, false≢true}
use mathlib.Core.List.{List, [], ◌∷◌, map}
use native.Mathlib.Omega.{arith}
use lib.Dec.{eqb}
use lib.ListN.{length, length-map}
use lib.Seq.{take_all}
use borrow.Author.Tests.{eqb-true, eq-eqb}
use Rattle.base_words.specs.Pick.{if◌then◌or_else◌}
use Rattle.base_words.proofs.AllLaws.{and_left, and_right}
use Rattle.meaning.specs.declared.Tuple.{Tuple}
use Rattle.write_lines.specs.Lines.{step_line}
use Rattle.base_bytes.specs.Bytes.{same_bytes}
use Rattle.state_fits.specs.Fresh.{fresh}
use Rattle.proof_steps.proofs.Choices.{by_choice, chosen}
use Rattle.step_poll.specs.Items.{Act, a_step, a_post}
use Rattle.step_poll.specs.Poll.{settled_step, settled_post}
use Rattle.step_history.specs.History.{entry_by, state_by, told_by, balances}
use Rattle.step_history.proofs.HistoryLaws.{told_given, told_same}
use Rattle.log_lines.specs.Entries.{entry_of}
use Rattle.log_text.specs.declared.Cursor.{Cursor}
use Rattle.log_text.specs.declared.Move.{Move}
use Rattle.log_text.specs.declared.Move.TheVariants.{On, Done, Fault as MoveFault}
use Rattle.log_text.specs.Logs.{scan, advance, by_move, closes_event, line_of, lines_in, lines_from, lines_of, start}
use Rattle.log_judge.specs.declared.Judged.{Judged}
use Rattle.log_judge.specs.Judge.{Taking, taken_by, line_taken, judgment, lawful, judged_by, judged_end, judged_from}
use Rattle.log_accounts.specs.declared.Told.{Told}
use Rattle.log_accounts.specs.Told.{act_of, acts_of, history_in, state_in, all_told, told_in}
use Rattle.engine.specs.Engine.{asked_number, stepped, posted_to}
use Rattle.engine.specs.Calls.{Valid, judged_to}
use Rattle.engine.proofs.CallLaws.{asked_valid, asked_known}
use Rattle.engine.proofs.KeepsValid.{step-valid, post-valid, fresh-valid}
use Rattle.engine.proofs.PollLaws.{same_step, same_post}
use Rattle.proof_accounts.specs.Accounts.{FromFresh}
use Rattle.proof_accounts.specs.Logs.{Says, AllSay}
use Rattle.proof_accounts.proofs.Histories.{accounted}

same_is : (v w : List ℕ) → same_bytes v w ≡ true → v ≡ w
unfolding same_bytes
same_is [] [] e = refl
same_is [] (b ∷ w) e = absurd (false≢true e)
same_is (a ∷ v) [] e = absurd (false≢true e)
same_is (a ∷ v) (b ∷ w) e = ap₂ ◌∷◌ (eqb-true a b (and_left (eqb a b) (same_bytes v w) e)) (same_is v w (and_right (eqb a b) (same_bytes v w) e))

-- EVERY EVENT: asked for as many as the text has bytes, all are told
move_few : (f : Cursor → List (List ℕ)) (n : ℕ) → ((d : Cursor) → length (f d) ≤ n) → (m : Move) → length (by_move m f (λ d. []) (λ q. [])) ≤ n
unfolding by_move
move_few f n h (On d) = h d
move_few f n h (Done d) = omega arith
move_few f n h (MoveFault q) = omega arith

lines_in_few : (n : ℕ) (text : List ℕ) (c : Cursor) → length (lines_in n text c) ≤ n
unfolding lines_in
lines_in_few zero text c = omega arith
lines_in_few (suc n) text c =
    move_few (λ d. if closes_event c.level d.level then line_of text d ∷ lines_in n text d or_else lines_in n text d) (suc n)
    (λ d. by_choice (λ (ws : List (List ℕ)). length ws ≤ suc n) (closes_event c.level d.level) (line_of text d ∷ lines_in n text d) (lines_in n text d)
    (λ e. let l = lines_in_few n text d in omega (arith, l)) (λ e. let l = lines_in_few n text d in omega (arith, l)))
    (advance text c)

pub lines_few : (text : List ℕ) → length (lines_of text) ≤ length text
unfolding lines_of lines_from
lines_few text = move_few (λ c. lines_in (length text) text c) (length text) (λ c. lines_in_few (length text) text c) (start text)

pub all_acts : (log : List ℕ) → acts_of (lines_of log) (length log) ≡ map act_of (lines_of log)
all_acts log = take_all (length log) (map act_of (lines_of log)) (omega (arith, lines_few log, length-map (lines_of log) act_of))

-- WHAT IS LAWFUL has no fault
not_lawful : (k own : ℕ) → judgment 24 k own ≡ lawful → ⊥
not_lawful k own e = omega (arith, ap (λ (j : Judged). j.number) e)

no_fault : (s : Reached) (j : Judged) → judged_end s j ≡ lawful → j ≡ lawful
unfolding judged_end
no_fault (Ok q) j e = e
no_fault (Err q) j e = absurd (omega (arith, ap (λ (x : Judged). x.number) e))

module _ (t : List ℕ) (v : ℕ) (asked : asked_number t v ≡ 0) where
  begins : Valid t (fresh t v)
  begins = fresh-valid t v asked

  module _ (log : List ℕ) (most : ℕ) where
    -- THE PUBLIC CALLS give what is told
    pub log_given : FromFresh t v (history_in (stepped t) (posted_to t) log most (fresh t v)) (state_in (stepped t) (posted_to t) log most (fresh t v))
    unfolding history_in state_in
    log_given = record { table = asked_valid t v asked; version = asked_known t v asked; given = told_given (stepped t) (posted_to t) (acts_of (lines_of log) most) (fresh t v) }

    as_called : (history_in (settled_step t) settled_post log most (fresh t v) ≡ history_in (stepped t) (posted_to t) log most (fresh t v))
        × (state_in (settled_step t) settled_post log most (fresh t v) ≡ state_in (stepped t) (posted_to t) log most (fresh t v))
    unfolding history_in state_in
    as_called =
        told_same (settled_step t) (stepped t) settled_post (posted_to t) (Valid t) (λ z n f. same_step t z f n) (λ z m g f. same_post t z f m g)
        (λ z n f. rw (same_step t z f n) (step-valid t z f n)) (λ z m g f. rw (same_post t z f m g) (post-valid t z f m g)) (acts_of (lines_of log) most) (fresh t v) begins

    -- WHAT IS PRINTED: the code's own numbers are those of that history, and balance
    pub printed : (m : ℕ) (g : Tuple) → told_in (settled_step t) settled_post log most m g (fresh t v) ≡ told_in (stepped t) (posted_to t) log most m g (fresh t v)
    unfolding told_in
    printed m g = ap₂ (all_told m g most) as_called.0 as_called.1

    pub printed_balances : (m : ℕ) (g : Tuple) → balances (told_in (settled_step t) settled_post log most m g (fresh t v)).accounts ≡ true
    unfolding told_in all_told
    printed_balances m g =
        ap (λ (x : Told). balances x.accounts) (printed m g)
        ∙ (accounted t v (history_in (stepped t) (posted_to t) log most (fresh t v)) (state_in (stepped t) (posted_to t) log most (fresh t v)) log_given).balanced m g

  -- A LAWFUL LOG's lines say what the calls answered
  says_post : (w z : List ℕ) → (entry_of w).posts ≡ true → eqb (posted_to t z (entry_of w).name.pool (entry_of w).name.given).number 0 ≡ true
      → Says w (entry_by (stepped t) (posted_to t) (a_post (entry_of w).name.pool (entry_of w).name.given) z)
      × ((posted_to t z (entry_of w).name.pool (entry_of w).name.given).state ≡ state_by (stepped t) (posted_to t) (a_post (entry_of w).name.pool (entry_of w).name.given) z)
  unfolding Says entry_by state_by
  says_post w z p k = ((eqb-true _ 0 k, p, refl, refl), refl)

  says_step : (w z : List ℕ) → eqb (stepped t z (entry_of w).name).answer.number 0 ≡ true → same_bytes (step_line (entry_of w).name (stepped t z (entry_of w).name).answer) w ≡ true
      → Says w (entry_by (stepped t) (posted_to t) (a_step (entry_of w).name) z) × ((stepped t z (entry_of w).name).state ≡ state_by (stepped t) (posted_to t) (a_step (entry_of w).name) z)
  unfolding Says entry_by state_by
  says_step w z k r = ((eqb-true _ 0 k, same_is _ w r), refl)

  abbrev take_line : List ℕ → List ℕ → Taking
  take_line = line_taken (stepped t) (posted_to t)

  line_says : (w z : List ℕ) → eqb (take_line w z).number 0 ≡ true → (take_line w z).right ≡ true
      → Says w (entry_by (stepped t) (posted_to t) (act_of w) z) × ((take_line w z).state ≡ state_by (stepped t) (posted_to t) (act_of w) z)
  unfolding line_taken taken_by act_of if◌then◌or_else◌
  line_says w z = go (entry_of w).posts refl
    where
      o : Bool → Taking
      o b =
          if b then
          record { number = (posted_to t z (entry_of w).name.pool (entry_of w).name.given).number; right = true; state = (posted_to t z (entry_of w).name.pool (entry_of w).name.given).state }
          or_else
          record { number = (stepped t z (entry_of w).name).answer.number; right = same_bytes (step_line (entry_of w).name (stepped t z (entry_of w).name).answer) w; state = (stepped t z (entry_of w).name).state }

      a : Bool → Act
      a b = if b then a_post (entry_of w).name.pool (entry_of w).name.given or_else a_step (entry_of w).name

      go : (b : Bool) → (entry_of w).posts ≡ b → eqb (o b).number 0 ≡ true → (o b).right ≡ true → Says w (entry_by (stepped t) (posted_to t) (a b) z) × ((o b).state ≡ state_by (stepped t) (posted_to t) (a b) z)
      go true p k r = says_post w z p k
      go false p k r = says_step w z k r

  lines_say : (ws : List (List ℕ)) (k : ℕ) (z : List ℕ) → judged_by take_line ws k z ≡ lawful → AllSay ws (told_by (stepped t) (posted_to t) (map act_of ws) z)
  unfolding judged_by told_by AllSay if◌then◌or_else◌
  lines_say [] k z e = tt
  lines_say (w ∷ ws) k z e = go (eqb (take_line w z).number 0) refl (take_line w z).right refl (lines_say ws (k + 1) (take_line w z).state) e
    where
      go : (a : Bool) → eqb (take_line w z).number 0 ≡ a → (b : Bool) → (take_line w z).right ≡ b
          → (judged_by take_line ws (k + 1) (take_line w z).state ≡ lawful → AllSay ws (told_by (stepped t) (posted_to t) (map act_of ws) (take_line w z).state))
          → (if a then if b then judged_by take_line ws (k + 1) (take_line w z).state or_else judgment 24 k 0 or_else judgment 24 k (take_line w z).number) ≡ lawful
          → Says w (entry_by (stepped t) (posted_to t) (act_of w) z) × AllSay ws (told_by (stepped t) (posted_to t) (map act_of ws) (state_by (stepped t) (posted_to t) (act_of w) z))
      go true p true q later r =
          let l = line_says w z p q in
          (l.0, subst (λ (y : List ℕ). AllSay ws (told_by (stepped t) (posted_to t) (map act_of ws) y)) l.1 (later r))
      go true p false q later r = absurd (not_lawful k 0 r)
      go false p b q later r = absurd (not_lawful k (take_line w z).number r)

  module _ (log : List ℕ) (right : judged_to t v log ≡ lawful) where
    all_lawful : judged_by take_line (lines_of log) 0 (fresh t v) ≡ lawful
    unfolding judged_to judged_from
    all_lawful = no_fault (scan log).end (judged_by take_line (lines_of log) 0 (fresh t v)) (sym (chosen (eqb (asked_number t v) 0) _ _ (eq-eqb (asked_number t v) 0 asked)) ∙ right)

    pub lawful_says : AllSay (lines_of log) (history_in (stepped t) (posted_to t) log (length log) (fresh t v))
    unfolding history_in
    lawful_says = subst (λ (acts : List Act). AllSay (lines_of log) (told_by (stepped t) (posted_to t) acts (fresh t v))) (sym (all_acts log)) (lines_say (lines_of log) 0 (fresh t v) all_lawful)
