-- Laws of the judge: a line that was put, what a line comes to, and the events that are left come to the whole. Assumes nothing.
use Rattle.xml_skip.specs.Skipping.{fault_at}
use Rattle.std.specs.Prelude.{Ok}
use Prim.Native.Nat.{ℕ, ◌+◌, ◌-◌, ◌≤◌, ◌<◌}
use mathlib.Core.Path.{◌≡◌, refl, sym, ap, ap₂, ◌∙◌}
use mathlib.Core.Bool.{Bool, true, false, not}
use mathlib.Core.List.{List, [], ◌∷◌}
use native.Mathlib.Omega.{arith}
use denote.Enum.Declared.{tag_of}
use borrow.Author.Tests.{ne_eqb}
use lib.ListN.{length, take}
use Rattle.base_words.specs.Pick.{if◌then◌or_else◌}
use Rattle.base_words.specs.Words.{part}
use Rattle.base_words.proofs.PickLaws.{flag_yes, flag_no}
use Rattle.base_state.specs.Instances.{instances_of, queues_of}
use Rattle.meaning.specs.declared.Answer.{Answer}
use Rattle.meaning.specs.Post.{Posted}
use Rattle.base_bytes.specs.Bytes.{same_bytes}
use Rattle.write_buffer.specs.Buffers.{last_place, Put}
use Rattle.write_buffer.proofs.OverLaws.{put_length, put_over, over_read}
use Rattle.step_take.specs.Settled.{Done, settled, posted}
use Rattle.step_poll.specs.Poll.{Left, Stepped, settled_step, settled_post}
use Rattle.step_poll.proofs.PollLaws.{post_left, step_left}
use Rattle.write_lines.specs.Lines.{step_line}
use Rattle.log_lines.specs.declared.Entry.{Entry}
use Rattle.log_lines.specs.Entries.{entry_of}
use Rattle.log_text.specs.declared.Cursor.{Cursor}
use Rattle.log_text.specs.declared.Level.{Level}
use Rattle.log_text.specs.declared.Level.TheVariants.{Log, Trace, Event}
use Rattle.log_text.specs.declared.Scanned.{Scanned}
use Rattle.log_text.specs.declared.Move.{Move}
use Rattle.log_text.specs.declared.Move.TheVariants.{On}
use Rattle.log_text.specs.contracts.Level.{the_type as level-type}
use Rattle.log_text.specs.contracts.Move.{the_type}
use Rattle.log_text.specs.Logs.{start, scan, advance, closes_event, lines_in, lines_from, lines_of}
use Rattle.log_judge.specs.declared.Judged.{Judged}
use Rattle.log_judge.proofs.LinesLeft.{lines_end, lines_begin, lines_unbegun, lines_stop, lines_pass, lines_next}
use Rattle.log_judge.specs.Judge.{Taking, taken_by, line_taken, judgment, lawful, judged_by, left_by_lines, judged_end, judged_from}

-- a text that was put stands in its buffer, where there is room
pub put_read : {w out now : List ℕ} {most r : ℕ} → Put w most 0 out r now → most ≤ length out → length out ≤ last_place → part now 0 r ≡ w
put_read {w} {out} {now} {most} {r} h room short =
    let n : r ≡ length w = put_length h (omega (arith, room, short)) in
    let e : r - 0 ≡ r = omega arith in
    ap (λ (k : ℕ). take k now) e ∙ ap₂ take n (put_over h short).1 ∙ over_read w out (omega (arith, h.short, room))

pub same_as : (r : Bool) (v w line : List ℕ) → r ≡ same_bytes v line → v ≡ w → r ≡ same_bytes w line
same_as r v w line e h = e ∙ ap (λ (x : List ℕ). same_bytes x line) h

-- ONE LINE, w, which says e
module _ (t z w y : List ℕ) (e : Entry) (said : e ≡ entry_of w) where
  pub post_taken : (r : ℕ) → e.posts ≡ true
      → (◌≡◌ {A = Posted} (record { number = r; queues = queues_of y }) (posted (queues_of z) e.name.pool e.name.given)) × (instances_of y ≡ instances_of z)
      → ◌≡◌ {A = Taking} (record { number = r; right = true; state = y }) (line_taken (settled_step t) settled_post w z)
  unfolding line_taken taken_by if◌then◌or_else◌
  post_taken r p d =
      rw (← said, p) (ap (λ (x : Left). record { number = x.number; right = true; state = x.state }) (post_left z y e.name.pool e.name.given r d))

  pub step_taken : (a : Answer) (b : Bool) → e.posts ≡ false → Done (settled t (instances_of z) (queues_of z) e.name) a y → b ≡ same_bytes (step_line e.name a) w
      → ◌≡◌ {A = Taking} (record { number = a.number; right = b; state = y }) (line_taken (settled_step t) settled_post w z)
  unfolding line_taken taken_by if◌then◌or_else◌
  step_taken a b p d q =
      rw (← said, p, q)
      (ap (λ (x : Stepped). record { number = x.answer.number; right = same_bytes (step_line e.name x.answer) w; state = x.state }) (step_left t z y e.name a d))

-- THE FIRST OF SOME LINES: r is the number that it gives, b whether it is true, y the state that it leaves
module _ (give : List ℕ → List ℕ → Taking) (w : List ℕ) (rest : List (List ℕ)) (k : ℕ) (z : List ℕ) (r : ℕ) (b : Bool) (y : List ℕ)
    (e : ◌≡◌ {A = Taking} (record { number = r; right = b; state = y }) (give w z)) where
  first_refused : (r ≡ 0 → ⊥) → judgment 24 k r ≡ judged_by give (w ∷ rest) k z
  unfolding judged_by if◌then◌or_else◌
  first_refused h = rw (← e, ne_eqb r 0 h)

  first_untrue : r ≡ 0 → b ≡ false → judgment 24 k 0 ≡ judged_by give (w ∷ rest) k z
  unfolding judged_by if◌then◌or_else◌
  first_untrue h n = rw (← e, h, n)

  first_true : r ≡ 0 → b ≡ true → judged_by give rest (k + 1) y ≡ judged_by give (w ∷ rest) k z
  unfolding judged_by if◌then◌or_else◌
  first_true h n = rw (← e, h, n)

-- no line is left
pub none_left : (give : List ℕ → List ℕ → Taking) (t : List ℕ) (j : Judged) (c : Cursor) (left k : ℕ) (z : List ℕ) → judged_by give (lines_in left t c) k z ≡ j → left ≤ 0 → lawful ≡ j
unfolding judged_by
none_left give t j c left k z inv h = rw (lines_end t c left h) at inv

pub none_behind : (give : List ℕ → List ℕ → Taking) (t : List ℕ) (y : List ℕ) (c : Cursor) (left : ℕ) (z : List ℕ) → left_by_lines give (lines_in left t c) z ≡ y → left ≤ 0 → z ≡ y
unfolding left_by_lines
none_behind give t y c left z inv h = rw (lines_end t c left h) at inv

-- an event at fault is no lawful log
pub not_lawful : {A : Type 0} (r : Judged) (k own : ℕ) → r ≡ judgment 24 k own → r.number ≡ 0 → A
not_lawful r k own e h = let n : ◌≡◌ {A = ℕ} 24 0 = sym (ap (λ (j : Judged). j.number) e) ∙ h in absurd (omega (arith, n))

-- the lines of a log from its start on
module _ (give : List ℕ → List ℕ → Taking) (t z : List ℕ) (m : Move) (first : m ≡ start t) where
  pub judged_start : (c : Cursor) → m ≡ On c → judged_by give (lines_from t c) 0 z ≡ judged_by give (lines_of t) 0 z
  judged_start c h = ap (λ (ws : List (List ℕ)). judged_by give ws 0 z) (lines_begin t m first c h)

  pub judged_none : ((v : Cursor) → m ≡ On v → ⊥) → lawful ≡ judged_by give (lines_of t) 0 z
  unfolding judged_by
  judged_none o = ap (λ (ws : List (List ℕ)). judged_by give ws 0 z) (lines_unbegun t m first o)

  pub left_start : (c : Cursor) → m ≡ On c → left_by_lines give (lines_from t c) z ≡ left_by_lines give (lines_of t) z
  left_start c h = ap (λ (ws : List (List ℕ)). left_by_lines give ws z) (lines_begin t m first c h)

  pub left_none : ((v : Cursor) → m ≡ On v → ⊥) → z ≡ left_by_lines give (lines_of t) z
  unfolding left_by_lines
  left_none o = ap (λ (ws : List (List ℕ)). left_by_lines give ws z) (lines_unbegun t m first o)

-- the whole text
module _ (give : List ℕ → List ℕ → Taking) (t z : List ℕ) (s : Scanned) (read : s ≡ scan t) (q : ℕ) where
  pub judged_log : s.end ≡ Ok q → judged_by give (lines_of t) 0 z ≡ judged_from give t z
  unfolding judged_from judged_end
  judged_log h = rw (← read, h)

  pub judged_fault : s.end ≡ fault_at q → judgment 23 q 0 ≡ judged_from give t z
  unfolding judged_from judged_end
  judged_fault h = rw (← read, h)

-- THE LOOP: the lines that are left come to the whole, j, and m is the reader's next move
module _ (give : List ℕ → List ℕ → Taking) (t : List ℕ) (j : Judged) (c : Cursor) (left k : ℕ) (z : List ℕ) (inv : judged_by give (lines_in left t c) k z ≡ j) (some : 0 < left)
    (m : Move) (next : m ≡ advance t c) where
  as_left : (ws : List (List ℕ)) → lines_in left t c ≡ ws → judged_by give ws k z ≡ j
  as_left ws e = ap (λ (xs : List (List ℕ)). judged_by give xs k z) (sym e) ∙ inv

  pub judged_stop : ((v : Cursor) → m ≡ On v → ⊥) → lawful ≡ j
  unfolding judged_by
  judged_stop o = as_left [] (lines_stop t c left some m next o)

  pub left_stop : (y : List ℕ) → left_by_lines give (lines_in left t c) z ≡ y → ((v : Cursor) → m ≡ On v → ⊥) → z ≡ y
  unfolding left_by_lines
  left_stop y left-inv o = ap (λ (ws : List (List ℕ)). left_by_lines give ws z) (sym (lines_stop t c left some m next o)) ∙ left-inv

  module _ (d : Cursor) (on : m ≡ On d) (closed : Bool) (closes : closed ≡ closes_event c.level d.level) where
    pub judged_pass : not closed ≡ true → judged_by give (lines_in (left - 1) t d) k z ≡ j
    judged_pass h = as_left (lines_in (left - 1) t d) (lines_pass t c left some m next d on closed closes h)

    pub left_pass : (y : List ℕ) → left_by_lines give (lines_in left t c) z ≡ y → not closed ≡ true → left_by_lines give (lines_in (left - 1) t d) z ≡ y
    left_pass y left-inv h = ap (λ (ws : List (List ℕ)). left_by_lines give ws z) (sym (lines_pass t c left some m next d on closed closes h)) ∙ left-inv

    module _ (h : not closed ≡ false) (w : List ℕ) (here : w ≡ part t d.from d.to) (r : ℕ) (b : Bool) (y : List ℕ)
        (taking : ◌≡◌ {A = Taking} (record { number = r; right = b; state = y }) (give w z)) where
      line_first : judged_by give (w ∷ lines_in (left - 1) t d) k z ≡ j
      line_first = as_left (w ∷ lines_in (left - 1) t d) (lines_next t c left some m next d on closed closes h w here)

      pub left_more : (x : List ℕ) → left_by_lines give (lines_in left t c) z ≡ x → left_by_lines give (lines_in (left - 1) t d) y ≡ x
      unfolding left_by_lines
      left_more x left-inv =
          ap (λ (v : Taking). left_by_lines give (lines_in (left - 1) t d) v.state) taking
          ∙ ap (λ (ws : List (List ℕ)). left_by_lines give ws z) (sym (lines_next t c left some m next d on closed closes h w here))
          ∙ left-inv

      pub judged_refused : (r ≡ 0 → ⊥) → judgment 24 k r ≡ j
      judged_refused l = first_refused give w (lines_in (left - 1) t d) k z r b y taking l ∙ line_first

      pub judged_untrue : r ≡ 0 → not b ≡ true → judgment 24 k 0 ≡ j
      judged_untrue l n = first_untrue give w (lines_in (left - 1) t d) k z r b y taking l (flag_no b b refl n) ∙ line_first

      pub judged_more : r ≡ 0 → not b ≡ false → judged_by give (lines_in (left - 1) t d) (k + 1) y ≡ j
      judged_more l n = first_true give w (lines_in (left - 1) t d) k z r b y taking l (flag_yes b b refl n) ∙ line_first
