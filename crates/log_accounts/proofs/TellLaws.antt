-- Laws of the telling: what a line comes to, and the events that are left come to the whole. Assumes nothing.
use Prim.Native.Nat.{ℕ, suc, ◌+◌, ◌-◌, ◌≤◌, ◌<◌}
use mathlib.Core.Path.{◌≡◌, refl, sym, ap, subst, ◌∙◌}
use mathlib.Core.Bool.{Bool, true, false, not}
use mathlib.Core.List.{List, [], ◌∷◌}
use native.Mathlib.Omega.{arith}
use denote.Enum.Declared.{tag_of}
use lib.ListN.{length}
use lib.Seq.{take-nil}
use Rattle.base_words.specs.Sum.{one_if}
use Rattle.base_words.specs.Pick.{if◌then◌or_else◌}
use Rattle.base_words.specs.Words.{part}
use Rattle.base_state.specs.Instances.{instances_of, queues_of}
use Rattle.meaning.specs.declared.Answer.{Answer}
use Rattle.meaning.specs.declared.Name.{Name}
use Rattle.meaning.specs.declared.Tuple.{Tuple}
use Rattle.meaning.specs.Post.{Posted}
use Rattle.write_buffer.specs.Buffers.{last_place}
use Rattle.step_take.specs.Settled.{Done, settled, posted}
use Rattle.step_poll.specs.Items.{Act}
use Rattle.step_poll.specs.Poll.{Left, Stepped, settled_step, settled_post}
use Rattle.step_poll.proofs.PollLaws.{post_left, step_left}
use Rattle.step_history.specs.declared.Noted.{Noted}
use Rattle.step_history.specs.History.{Entry, step_gave, post_gave, entry_by, state_by, told_by, left_by, posts, sends, consumes, moved_by, entry_noted, how_many, queued, accounts_of}
use Rattle.step_history.proofs.CountLaws.{counted_none, counted_next}
use Rattle.log_lines.specs.declared.Entry.{Entry as Line}
use Rattle.log_lines.specs.Entries.{entry_of}
use Rattle.log_text.specs.declared.Cursor.{Cursor}
use Rattle.log_text.specs.declared.Move.{Move}
use Rattle.log_text.specs.declared.Move.TheVariants.{On}
use Rattle.log_text.specs.contracts.Move.{the_type}
use Rattle.log_text.specs.Logs.{start, advance, closes_event, lines_in, lines_from, lines_of}
use Rattle.log_judge.proofs.LinesLeft.{lines_end, lines_begin, lines_unbegun, lines_stop, lines_pass, lines_next}
use Rattle.log_accounts.specs.declared.Telling.{Telling}
use Rattle.log_accounts.specs.declared.Told.{Told}
use Rattle.log_accounts.specs.Told.{act_of, acts_of, history_in, state_in, last_moved, onward, nothing_told, and_noted, all_told, told_in}

-- ONE LINE, w, which says e
module _ (m : ℕ) (g : Tuple) (t z w y : List ℕ) (e : Line) (said : e ≡ entry_of w) where
  abbrev Took : Noted → Type 0
  Took r = (r ≡ entry_noted m g (entry_by (settled_step t) settled_post (act_of w) z)) × (y ≡ state_by (settled_step t) settled_post (act_of w) z)

  pub post_took : (k : ℕ) (r : Noted) → e.posts ≡ true
      → (◌≡◌ {A = Posted} (record { number = k; queues = queues_of y }) (posted (queues_of z) e.name.pool e.name.given)) × (instances_of y ≡ instances_of z)
      → r ≡ entry_noted m g (post_gave e.name.pool e.name.given k) → Took r
  unfolding act_of entry_by state_by if◌then◌or_else◌
  post_took k r p d q =
      let l : record { number = k; state = y } ≡ settled_post z e.name.pool e.name.given = post_left z y e.name.pool e.name.given k d in
      rw (← said, p)
      (q ∙ ap (λ (x : Left). entry_noted m g (post_gave e.name.pool e.name.given x.number)) l, ap (λ (x : Left). x.state) l)

  pub step_took : (a : Answer) (r : Noted) → e.posts ≡ false → Done (settled t (instances_of z) (queues_of z) e.name) a y → r ≡ entry_noted m g (step_gave e.name a) → Took r
  unfolding act_of entry_by state_by if◌then◌or_else◌
  step_took a r p d q =
      let l : record { answer = a; state = y } ≡ settled_step t z e.name = step_left t z y e.name a d in
      rw (← said, p)
      (q ∙ ap (λ (x : Stepped). entry_noted m g (step_gave e.name x.answer)) l, ap (λ (x : Stepped). x.state) l)

-- ONWARD
module _ (m : ℕ) (g : Tuple) where
  pub onward_none : (b : Telling) → onward m g b [] ≡ b
  unfolding onward last_moved
  onward_none b =
      let p : b.posted + how_many (posts m g) [] ≡ b.posted = omega (arith, counted_none (posts m g)) in
      let s : b.sent + how_many (sends m g) [] ≡ b.sent = omega (arith, counted_none (sends m g)) in
      let c : b.consumed + how_many (consumes m g) [] ≡ b.consumed = omega (arith, counted_none (consumes m g)) in
      let r : b.room - 0 ≡ b.room = omega arith in
      λ i. record { posted = p i; sent = s i; consumed = c i; room = r i; moved = b.moved }

  -- one entry more
  pub onward_next : (b : Telling) (e : Entry) (h : List Entry) → onward m g (and_noted b (entry_noted m g e)) h ≡ onward m g b (e ∷ h)
  unfolding onward last_moved and_noted entry_noted
  onward_next b e h =
      let p : b.posted + one_if (posts m g e) + how_many (posts m g) h ≡ b.posted + how_many (posts m g) (e ∷ h) = omega (arith, counted_next (posts m g) e h) in
      let s : b.sent + one_if (sends m g e) + how_many (sends m g) h ≡ b.sent + how_many (sends m g) (e ∷ h) = omega (arith, counted_next (sends m g) e h) in
      let c : b.consumed + one_if (consumes m g e) + how_many (consumes m g) h ≡ b.consumed + how_many (consumes m g) (e ∷ h) = omega (arith, counted_next (consumes m g) e h) in
      let r : b.room - 1 - length h ≡ b.room - suc (length h) = omega arith in
      λ i. record { posted = p i; sent = s i; consumed = c i; room = r i; moved = last_moved (moved_by e) h }

-- THE NUMBERS STAY LOW: with a move for each
pub record Low (b : Telling) (left all : ℕ) : Type 0 where
  pub posted : b.posted + left ≤ all
  pub sent : b.sent + left ≤ all
  pub consumed : b.consumed + left ≤ all
  pub short : all ≤ last_place

pub low_begin : (b : Telling) (most all : ℕ) → b ≡ nothing_told most → all ≤ last_place → Low b all all
low_begin b most all e l = subst (λ (a : Telling). Low a all all) (sym e) (record { posted = omega arith; sent = omega arith; consumed = omega arith; short = l })

pub low_pass : (b : Telling) (left all : ℕ) → Low b left all → Low b (left - 1) all
low_pass b left all l = record { posted = omega (arith, l.posted); sent = omega (arith, l.sent); consumed = omega (arith, l.consumed); short = l.short }

pub low_more : (b : Telling) (left all : ℕ) → Low b left all → 0 < left → (n : Noted) → n.posted ≤ 1 → n.sent ≤ 1 → n.consumed ≤ 1 → (a : Telling) → a ≡ and_noted b n → Low a (left - 1) all
unfolding and_noted
low_more b left all l some n p s c a e =
    subst (λ (d : Telling). Low d (left - 1) all) (sym e)
    (record { posted = omega (arith, l.posted, some, p); sent = omega (arith, l.sent, some, s); consumed = omega (arith, l.consumed, some, c); short = l.short })

pub low_room : (b : Telling) (left all : ℕ) → Low b left all → 0 < left → (n : Noted) → n.posted ≤ 1 → n.sent ≤ 1 → n.consumed ≤ 1 → (b.room ≡ 0 → ⊥)
    → (b.posted + n.posted ≤ last_place) × (b.sent + n.sent ≤ last_place) × (b.consumed + n.consumed ≤ last_place) × (0 < b.room)
low_room b left all l some n p s c full = (omega (arith, l.posted, some, p, l.short), omega (arith, l.sent, some, s, l.short), omega (arith, l.consumed, some, c, l.short), omega (arith, full))

-- ALL THE EVENTS of some lines from a state on: what they tell, b before them, and the state that they leave
module _ (step : List ℕ → Name → Stepped) (post : List ℕ → ℕ → Tuple → Left) (m : ℕ) (g : Tuple) where
  pub record Comes (ws : List (List ℕ)) (b : Telling) (z : List ℕ) (r : Telling) (y : List ℕ) : Type 0 where
    pub telling : onward m g b (told_by step post (acts_of ws b.room) z) ≡ r
    pub state : left_by step post (acts_of ws b.room) z ≡ y

  -- none is left, or none more is asked for
  pub comes_none : (ws : List (List ℕ)) (b : Telling) (z : List ℕ) (r : Telling) (y : List ℕ) → Comes ws b z r y → acts_of ws b.room ≡ [] → (b ≡ r) × (z ≡ y)
  unfolding told_by left_by
  comes_none ws b z r y c e = (
    sym (onward_none m g b) ∙ ap (λ (acts : List Act). onward m g b (told_by step post acts z)) (sym e) ∙ c.telling,
    ap (λ (acts : List Act). left_by step post acts z) (sym e) ∙ c.state,
  )

  pub comes_first : (w : List ℕ) (ws : List (List ℕ)) (b : Telling) (z : List ℕ) (r : Telling) (y : List ℕ) → Comes (w ∷ ws) b z r y → (b.room ≡ 0 → ⊥) → (n : Noted) (x : List ℕ)
      → n ≡ entry_noted m g (entry_by step post (act_of w) z) → x ≡ state_by step post (act_of w) z → Comes ws (and_noted b n) x r y
  unfolding told_by left_by and_noted
  comes_first w ws b z r y c d n x e s =
      let k : b.room ≡ suc (b.room - 1) = omega (arith, d) in
      let named : acts_of (w ∷ ws) b.room ≡ act_of w ∷ acts_of ws (b.room - 1) = ap (λ (j : ℕ). acts_of (w ∷ ws) j) k in
      record {
        telling =
            (λ i. onward m g (and_noted b (e i)) (told_by step post (acts_of ws (b.room - 1)) (s i)))
            ∙ onward_next m g b (entry_by step post (act_of w) z) (told_by step post (acts_of ws (b.room - 1)) (state_by step post (act_of w) z))
            ∙ ap (λ (acts : List Act). onward m g b (told_by step post acts z)) (sym named)
            ∙ c.telling;
        state = ap (left_by step post (acts_of ws (b.room - 1))) s ∙ ap (λ (acts : List Act). left_by step post acts z) (sym named) ∙ c.state;
      }

  pub tell_begin : (t : List ℕ) (c : Cursor) (most : ℕ) (z : List ℕ) (b : Telling) → b ≡ nothing_told most
      → Comes (lines_from t c) b z (onward m g (nothing_told most) (told_by step post (acts_of (lines_from t c) most) z)) (left_by step post (acts_of (lines_from t c) most) z)
  tell_begin t c most z b e =
      subst (λ (a : Telling). Comes (lines_from t c) a z (onward m g (nothing_told most) (told_by step post (acts_of (lines_from t c) most) z)) (left_by step post (acts_of (lines_from t c) most) z)) (sym e)
      (record { telling = refl; state = refl })

  -- THE LOOP: the lines that are left come to the whole, and v is the reader's next move
  module _ (t : List ℕ) (c : Cursor) (left : ℕ) (b : Telling) (z : List ℕ) (r : Telling) (y : List ℕ) (inv : Comes (lines_in left t c) b z r y) where
    abbrev Ends : Type 0
    Ends = (b ≡ r) × (z ≡ y)

    as_left : (ws : List (List ℕ)) → lines_in left t c ≡ ws → Comes ws b z r y
    as_left ws e = subst (λ (xs : List (List ℕ)). Comes xs b z r y) e inv

    none : lines_in left t c ≡ [] → Ends
    none e = comes_none [] b z r y (as_left [] e) (take-nil b.room)

    pub tell_end : left ≤ 0 → Ends
    tell_end l = none (lines_end t c left l)

    pub tell_full : b.room ≡ 0 → Ends
    tell_full e = comes_none (lines_in left t c) b z r y inv (ap (λ (k : ℕ). acts_of (lines_in left t c) k) e)

    module _ (some : 0 < left) (v : Move) (next : v ≡ advance t c) where
      pub tell_stop : ((w : Cursor) → v ≡ On w → ⊥) → Ends
      tell_stop o = none (lines_stop t c left some v next o)

      module _ (d : Cursor) (on : v ≡ On d) (closed : Bool) (closes : closed ≡ closes_event c.level d.level) where
        pub tell_pass : not closed ≡ true → Comes (lines_in (left - 1) t d) b z r y
        tell_pass h = as_left (lines_in (left - 1) t d) (lines_pass t c left some v next d on closed closes h)

        pub tell_more : not closed ≡ false → (w : List ℕ) → w ≡ part t d.from d.to → (b.room ≡ 0 → ⊥) → (n : Noted) (x : List ℕ)
            → n ≡ entry_noted m g (entry_by step post (act_of w) z) → x ≡ state_by step post (act_of w) z → (a : Telling) → a ≡ and_noted b n → Comes (lines_in (left - 1) t d) a x r y
        tell_more h w here full n x e s a f =
            subst (λ (u : Telling). Comes (lines_in (left - 1) t d) u x r y) (sym f)
            (comes_first w (lines_in (left - 1) t d) b z r y (as_left (w ∷ lines_in (left - 1) t d) (lines_next t c left some v next d on closed closes h w here)) full n x e s)

  -- from the start of a log
  module _ (t : List ℕ) (most : ℕ) (z : List ℕ) (v : Move) (first : v ≡ start t) where
    abbrev Whole : Telling → List ℕ → Type 0
    Whole r y = (r ≡ onward m g (nothing_told most) (told_by step post (acts_of (lines_of t) most) z)) × (y ≡ left_by step post (acts_of (lines_of t) most) z)

    pub tell_start : (c : Cursor) → v ≡ On c → (r : Telling) (y : List ℕ) → r ≡ onward m g (nothing_told most) (told_by step post (acts_of (lines_from t c) most) z) → y ≡ left_by step post (acts_of (lines_from t c) most) z → Whole r y
    tell_start c on r y e s = subst (λ (ws : List (List ℕ)). (r ≡ onward m g (nothing_told most) (told_by step post (acts_of ws most) z)) × (y ≡ left_by step post (acts_of ws most) z)) (lines_begin t v first c on) (e, s)

    pub tell_none : ((w : Cursor) → v ≡ On w → ⊥) → (r : Telling) → r ≡ nothing_told most → Whole r z
    unfolding told_by left_by
    tell_none o r e =
        let none : acts_of (lines_of t) most ≡ [] = ap (λ (ws : List (List ℕ)). acts_of ws most) (sym (lines_unbegun t v first o)) ∙ take-nil most in
        (e ∙ sym (onward_none m g (nothing_told most)) ∙ ap (λ (acts : List Act). onward m g (nothing_told most) (told_by step post acts z)) (sym none), ap (λ (acts : List Act). left_by step post acts z) (sym none))

  -- with what is queued
  pub tell_all : (log : List ℕ) (most : ℕ) (z : List ℕ) (r : Telling) (y : List ℕ) (q : ℕ)
      → r ≡ onward m g (nothing_told most) (told_by step post (acts_of (lines_of log) most) z) → y ≡ left_by step post (acts_of (lines_of log) most) z → q ≡ queued m g y
      → (◌≡◌ {A = Told} (record { accounts = record { posted = r.posted; sent = r.sent; consumed = r.consumed; queued = q }; room = r.room; moved = r.moved }) (told_in step post log most m g z))
      × (y ≡ state_in step post log most z)
  unfolding told_in all_told history_in state_in accounts_of onward
  tell_all log most z r y q e s d =
      let h : List Entry = told_by step post (acts_of (lines_of log) most) z in
      let u : q ≡ queued m g (left_by step post (acts_of (lines_of log) most) z) = d ∙ ap (queued m g) s in
      let n : (k : ℕ) → 0 + k ≡ k = λ k. omega arith in
      let p : r.posted ≡ how_many (posts m g) h = ap (λ (x : Telling). x.posted) e ∙ n (how_many (posts m g) h) in
      let v : r.sent ≡ how_many (sends m g) h = ap (λ (x : Telling). x.sent) e ∙ n (how_many (sends m g) h) in
      let c : r.consumed ≡ how_many (consumes m g) h = ap (λ (x : Telling). x.consumed) e ∙ n (how_many (consumes m g) h) in
      ((λ i. record { accounts = record { posted = p i; sent = v i; consumed = c i; queued = u i }; room = (e i).room; moved = (e i).moved }), s)
