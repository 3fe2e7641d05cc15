-- THE TWO CASES of an element, x and y its words in the two tables: it stayed, and a step at it is the same step; or it was an endSnd, and its step puts one token more, on an edge of its own. Assumes nothing.
use Prim.Native.Nat.{ℕ, ◌+◌, ◌≤◌, ◌<◌}
use mathlib.Core.Path.{◌≡◌, refl, sym, ◌∙◌, ap, subst}
use mathlib.Core.Bool.{true}
use mathlib.Core.List.{List}
use mathlib.Core.Logic.{◌⊎◌, inl, inr}
use native.Mathlib.Decide.{ℕ_discrete}
use native.Mathlib.Omega.{arith}
use lib.Dec.{eqb, ltb}
use lib.ListN.{length, set, length-set}
use lib.Seq.{get_or-set_same, get_or-set_other, set_out}
use borrow.Author.Tests.{eqb-true, eq-eqb, ne_eqb, lt-ltb}
use Rattle.base_words.specs.All.{all}
use Rattle.base_words.specs.Counts.{branches, count_most}
use Rattle.base_words.specs.Iter.{iter}
use Rattle.base_words.specs.Pick.{if◌then◌or_else◌}
use Rattle.base_words.specs.Sum.{hit, one_if}
use Rattle.base_words.specs.Words.{at}
use Rattle.base_kinds.specs.declared.moves.Move.{Move}
use Rattle.base_kinds.specs.Kinds.{kind_of, used, end_snd, inter_snd}
use Rattle.base_kinds.specs.Moves.{every, branch, on, move_of}
use Rattle.base_table.specs.Places.{kind_place, mode_place, entries_place, exits_place, edge_place, element_words}
use Rattle.base_table.specs.Table.{kind_in, mode_in, entry_count, exit_count, entry_at, exit_at}
use Rattle.base_state.specs.Places.{token_place}
use Rattle.base_state.specs.Instances.{tokens}
use Rattle.check_limits.proofs.SameLaws.{Same}
use Rattle.meaning.specs.Requirements.{touched, first_touched, branch_count, edge_has_room, has_rooms}
use Rattle.meaning.specs.Changes.{more, put_one, puts}
use Rattle.proof_steps.proofs.Choices.{by_test, by_choice, chosen, passed}
use Rattle.proof_steps.proofs.ChangesFit.{touched_within}
use Rattle.proof_steps.proofs.Rows.{row_branch}
use Rattle.proof_versions.proofs.Laws.{all_same}
use Rattle.step_queues.proofs.SlotLaws.{by_below}
use Rattle.proof_oldlogs.proofs.Alike.{Alike, iter_both}
use Rattle.proof_oldlogs.proofs.Elements.{Pairing, word_alike}
use Rattle.proof_oldlogs.proofs.Pools.{phase_none, ending, sending, send_deeds, ending_is, sending_is, Unmentioned, Kept, kept_high, Sent}

more_by_one : (n : ℕ) → more n ≤ n + 1
unfolding more
more_by_one n = by_choice (λ k. k ≤ n + 1) (ltb n count_most) (n + 1) n (λ e. omega arith) (λ e. omega arith)

branch_one : (el : List ℕ) (m : Move) → (m.takes ≡ branch → ⊥) → (m.puts ≡ branch → ⊥) → branch_count el m ≡ 1
unfolding branch_count
branch_one el m a b = passed (eqb m.takes branch) _ _ (ne_eqb m.takes branch a) ∙ passed (eqb m.puts branch) _ _ (ne_eqb m.puts branch b)

abbrev pub row_at : List ℕ → ℕ → Move
row_at el phase = move_of (kind_in el) (mode_in el) phase

-- what is known of the old element
pub record Known (els : List (List ℕ)) (x : List ℕ) (phase b : ℕ) : Type 0 where
  pub there : (row_at x phase).kind ≡ 0 → ⊥
  pub inside : b < branch_count x (row_at x phase)
  pub entries_most : entry_count x ≤ branches
  pub exits_most : exit_count x ≤ branches
  pub entries_kept : (j : ℕ) → j < entry_count x → Kept els (token_place (entry_at x j))
  pub exits_kept : (j : ℕ) → j < exit_count x → Kept els (token_place (exit_at x j))

-- what follows for both; extra is what is put beyond what was
pub record Ready (els : List (List ℕ)) (x y : List ℕ) (phase b : ℕ) : Type 0 where
  pub pairing : Pairing (Kept els) (Unmentioned els) x y (row_at x phase) (row_at y phase) b
  pub there : (row_at y phase).kind ≡ 0 → ⊥
  pub ways : branch_count y (row_at y phase) ≡ branch_count x (row_at x phase)
  pub extra : ℕ → ℕ
  pub one : (w : ℕ) → extra w ≤ 1
  pub where_it_is : (w : ℕ) → 0 < extra w → Sent els x y × (w ≡ token_place (exit_at y 0))
  pub putting : (c : ℕ → ℕ) (k k' : List ℕ) → Alike (Kept els) (Unmentioned els) c k k' → Alike (Kept els) (Unmentioned els) (λ w. c w + extra w) (puts x (row_at x phase) b k) (puts y (row_at y phase) b k')
  pub rooms : (c : ℕ → ℕ) → (Sent els x y → c (token_place (exit_at y 0)) < count_most) → (k k' : List ℕ) → Alike (Kept els) (Unmentioned els) c k k'
      → has_rooms x k (row_at x phase) b ≡ true → has_rooms y k' (row_at y phase) b ≡ true

module _ (els : List (List ℕ)) (x y : List ℕ) (phase b : ℕ) (known : Known els x phase b) where
  abbrev m : Move
  m = row_at x phase

  abbrev m' : Move
  m' = row_at y phase

  abbrev A : (ℕ → ℕ) → List ℕ → List ℕ → Type 0
  A c k k' = Alike (Kept els) (Unmentioned els) c k k'

  taking : m.takes ≡ branch → b < entry_count x
  unfolding branch_count
  taking e = subst (λ k. b < k) (chosen (eqb m.takes branch) (entry_count x) _ (eq-eqb m.takes branch e)) known.inside

  leaving : m.puts ≡ branch → b < exit_count x
  unfolding branch_count
  leaving e =
      let o = row_branch (kind_in x) (mode_in x) phase e in
      subst (λ k. b < k) (passed (eqb m.takes branch) (entry_count x) _ (ne_eqb m.takes branch o) ∙ chosen (eqb m.puts branch) (exit_count x) 1 (eq-eqb m.puts branch e)) known.inside

  few_ways : branch_count x m ≤ branches
  unfolding branch_count
  few_ways =
      by_choice (λ k. k ≤ branches) (eqb m.takes branch) (entry_count x) _ (λ e. known.entries_most)
      (λ e. by_choice (λ k. k ≤ branches) (eqb m.puts branch) (exit_count x) 1 (λ f. known.exits_most) (λ f. omega arith))

  few : b < branches
  few = omega (arith, known.inside, few_ways)

  -- IT STAYED
  module _ (s : Same element_words x y) where
    row : m' ≡ m
    row = λ i. move_of (s kind_place (omega arith) i) (s mode_place (omega arith) i) phase

    entries : entry_count y ≡ entry_count x
    unfolding entry_count
    entries = λ i. used (kind_of (s kind_place (omega arith) i)).entries (s entries_place (omega arith) i)

    exits : exit_count y ≡ exit_count x
    unfolding exit_count
    exits = λ i. used (kind_of (s kind_place (omega arith) i)).exits (s exits_place (omega arith) i)

    same_pairing : Pairing (Kept els) (Unmentioned els) x y m m' b
    same_pairing = record {
      high = kept_high els;
      apart = λ k n u. n u;
      words = λ i l e f g. s i l;
      deeds = record {
        takes = ap (λ (r : Move). r.takes) row;
        asks = ap (λ (r : Move). r.asks) row;
        receives = ap (λ (r : Move). r.receives) row;
        assigns = ap (λ (r : Move). r.assigns) row;
        sends = ap (λ (r : Move). r.sends) row;
        active = ap (λ (r : Move). r.active) row;
        ready = ap (λ (r : Move). r.ready) row;
        alone = ap (λ (r : Move). r.alone) row;
        also = ap (λ (r : Move). r.also) row;
      };
      few = few;
      entries = entries;
      entries_few = known.entries_most;
      kept = known.entries_kept;
      taking = taking;
      exits = λ e. exits;
      exits_few = known.exits_most;
    }

    same_ways : branch_count y m' ≡ branch_count x m
    unfolding branch_count
    same_ways = λ i. if eqb (row i).takes branch then entries i or_else if eqb (row i).puts branch then exits i or_else 1

    abbrev from : ℕ
    from = first_touched m.puts b

    within : (j : ℕ) → j < touched m.puts (exit_count x) → from + j < exit_count x
    within j l = touched_within m.puts b (exit_count x) j leaving l

    exit_same : (j : ℕ) → j < exit_count x → exit_at y j ≡ exit_at x j
    exit_same j l = s (edge_place exits_place j) (omega (arith, l, known.exits_most))

    same_putting : (c : ℕ → ℕ) (k k' : List ℕ) → A c k k' → A (λ w. c w + 0) (puts x m b k) (puts y m' b k')
    unfolding puts put_one
    same_putting c k k' r =
        let q : A c (puts x m b k) (puts y m' b k') =
        subst (A c (puts x m b k)) (λ i. iter (put_one y (first_touched (sym row i).puts b)) k' (touched (sym row i).puts (sym exits i)))
        (iter_both (A c) (put_one x from) (put_one y from) (touched m.puts (exit_count x))
        (λ j l a a' o.
        word_alike (Kept els) (Unmentioned els) c x y m m' b same_pairing more more (token_place (exit_at x (from + j))) (token_place (exit_at y (from + j))) (λ n. refl)
        (ap token_place (exit_same (from + j) (within j l))) (known.exits_kept (from + j) (within j l)) a a' o)
        k k' r) in
        record { long = q.long; same = q.same; few = λ w u. (let z = q.few w u in omega (arith, z)) }

    same_rooms : (c : ℕ → ℕ) (k k' : List ℕ) → A c k k' → has_rooms y k' m' b ≡ has_rooms x k m b
    unfolding has_rooms edge_has_room
    same_rooms c k k' r =
        (λ i. all (λ j. ltb (tokens k' (exit_at y (first_touched (row i).puts b + j))) count_most) (touched (row i).puts (exits i)))
        ∙ all_same _ _ (touched m.puts (exit_count x))
        (λ j l. ap (λ n. ltb n count_most) (ap (tokens k') (exit_same (from + j) (within j l)) ∙ r.same (token_place (exit_at x (from + j))) (known.exits_kept (from + j) (within j l))))

    pub stayed_ready : Ready els x y phase b
    stayed_ready = record {
      pairing = same_pairing;
      there = λ e. known.there (ap (λ (r : Move). r.kind) (sym row) ∙ e);
      ways = same_ways;
      extra = λ w. 0;
      one = λ w. omega arith;
      where_it_is = λ w l. absurd (omega (arith, l));
      putting = same_putting;
      rooms = λ c f k k' r e. same_rooms c k k' r ∙ e;
    }

  -- IT WAS AN endSnd
  module _ (d : Sent els x y) where
    abbrev F : ℕ
    F = token_place (exit_at y 0)

    mode_new : mode_in y ≡ 0
    mode_new = d.words mode_place (omega arith) (λ e. omega arith) (λ e. omega arith) (λ e. omega arith) ∙ d.mode

    at_once : phase ≡ 0
    at_once = phase_none (kind_in x) (mode_in x) phase known.there d.was

    old_row : m ≡ ending
    old_row = λ i. move_of (d.was i) (d.mode i) (at_once i)

    new_row : m' ≡ sending
    new_row = λ i. move_of (d.is i) (mode_new i) (at_once i)

    by_rows : (column : Move → ℕ) → column sending ≡ column ending → column m' ≡ column m
    by_rows column e = ap column new_row ∙ e ∙ sym (ap column old_row)

    puts_none : m.puts ≡ 0
    puts_none = ap (λ (r : Move). r.puts) old_row ∙ ending_is.1

    puts_one : m'.puts ≡ every
    puts_one = ap (λ (r : Move). r.puts) new_row ∙ sending_is.1

    takes_all : m.takes ≡ every
    takes_all = ap (λ (r : Move). r.takes) old_row ∙ ending_is.0

    takes_all' : m'.takes ≡ every
    takes_all' = ap (λ (r : Move). r.takes) new_row ∙ sending_is.0

    asks_none : m.asks ≡ 0
    asks_none = ap (λ (r : Move). r.asks) old_row ∙ ending_is.2

    one_entry : entry_count y ≡ entry_count x
    unfolding entry_count kind_of used if◌then◌or_else◌
    one_entry =
        ap (λ k. used (kind_of k).entries (at y entries_place)) d.is
        ∙ sym (ap (λ k. used (kind_of k).entries (at x entries_place)) d.was)

    one_exit : exit_count y ≡ 1
    unfolding exit_count kind_of used if◌then◌or_else◌
    one_exit = ap (λ k. used (kind_of k).exits (at y exits_place)) d.is

    sent_pairing : Pairing (Kept els) (Unmentioned els) x y m m' b
    sent_pairing = record {
      high = kept_high els;
      apart = λ k n u. n u;
      words = d.words;
      deeds = record {
        takes = by_rows (λ r. r.takes) send_deeds.takes;
        asks = by_rows (λ r. r.asks) send_deeds.asks;
        receives = by_rows (λ r. r.receives) send_deeds.receives;
        assigns = by_rows (λ r. r.assigns) send_deeds.assigns;
        sends = by_rows (λ r. r.sends) send_deeds.sends;
        active = by_rows (λ r. r.active) send_deeds.active;
        ready = by_rows (λ r. r.ready) send_deeds.ready;
        alone = by_rows (λ r. r.alone) send_deeds.alone;
        also = by_rows (λ r. r.also) send_deeds.also;
      };
      few = few;
      entries = one_entry;
      entries_few = known.entries_most;
      kept = known.entries_kept;
      taking = taking;
      exits = λ e. absurd (let a = eqb-true m.asks on e in omega (arith, a, asks_none));
      exits_few = known.exits_most;
    }

    unmentioned : Unmentioned els F
    unmentioned = record { edge = exit_at y 0; low = d.low; high = d.high; free = d.free; place = refl }

    abbrev extra : ℕ → ℕ
    extra w = hit w F

    -- what is put
    puts_old : (k : List ℕ) → puts x m b k ≡ k
    unfolding puts touched iter if◌then◌or_else◌
    puts_old k = ap (λ (c : ℕ). iter (put_one x (first_touched c b)) k (touched c (exit_count x))) puts_none

    puts_new : (k : List ℕ) → puts y m' b k ≡ set k F (more (at k F))
    unfolding puts put_one touched first_touched iter if◌then◌or_else◌
    puts_new k =
        ap (λ (c : ℕ). iter (put_one y (first_touched c b)) k (touched c (exit_count y))) puts_one
        ∙ ap (λ (n : ℕ). iter (put_one y (first_touched every b)) k n) one_exit

    sent_putting : (c : ℕ → ℕ) (k k' : List ℕ) → A c k k' → A (λ w. c w + extra w) (puts x m b k) (puts y m' b k')
    sent_putting c k k' r =
        subst (λ (a : List ℕ). A (λ w. c w + extra w) a (puts y m' b k')) (sym (puts_old k))
        (subst (A (λ w. c w + extra w) k) (sym (puts_new k'))
        (record {
          long = length-set k' F (more (at k' F)) ∙ r.long;
          same = λ w n. get_or-set_other k' F w (more (at k' F)) 0 (λ e. n (subst (Unmentioned els) (sym e) unmentioned)) ∙ r.same w n;
          few = λ w u. few_at w u (ℕ_discrete w F);
        }))
      where
        few_at : (w : ℕ) → Unmentioned els w → Dec (w ≡ F) → at (set k' F (more (at k' F))) w ≤ c w + extra w
        few_at w u (no e) = let z : at (set k' F (more (at k' F))) w ≡ at k' w = get_or-set_other k' F w (more (at k' F)) 0 e in omega (arith, z, r.few w u)
        few_at w u (yes e) =
            let o : extra w ≡ 1 = ap one_if (eq-eqb w F e) in
            let l : at k' F ≤ c w = subst (λ (v : ℕ). at k' v ≤ c w) e (r.few w u) in
            by_below F (length k')
            (λ i. let z : at (set k' F (more (at k' F))) w ≡ more (at k' F) = ap (at (set k' F (more (at k' F)))) e ∙ get_or-set_same k' F (more (at k' F)) 0 i in omega (arith, z, o, l, more_by_one (at k' F)))
            (λ i. let z : at (set k' F (more (at k' F))) w ≡ at k' w = ap (λ (y : List ℕ). at y w) (set_out k' F (more (at k' F)) i) in omega (arith, z, r.few w u))

    sent_rooms : (c : ℕ → ℕ) → c F < count_most → (k k' : List ℕ) → A c k k' → has_rooms y k' m' b ≡ true
    unfolding has_rooms edge_has_room touched first_touched all if◌then◌or_else◌
    sent_rooms c f k k' r =
        ap (λ (c : ℕ). all (edge_has_room y k' (first_touched c b)) (touched c (exit_count y))) puts_one
        ∙ ap (λ (n : ℕ). all (edge_has_room y k' (first_touched every b)) n) one_exit
        ∙ lt-ltb (at k' F) count_most (omega (arith, f, r.few F unmentioned))

    pub sent_ready : Ready els x y phase b
    sent_ready = record {
      pairing = sent_pairing;
      there = λ e. (let z : m'.kind ≡ inter_snd = ap (λ (r : Move). r.kind) new_row ∙ sending_is.2 in omega (arith, e, z));
      ways = branch_one y m' (λ e. omega (arith, e, takes_all')) (λ e. omega (arith, e, puts_one)) ∙ sym (branch_one x m (λ e. omega (arith, e, takes_all)) (λ e. omega (arith, e, puts_none)));
      extra = extra;
      one = λ w. by_test (eqb w F) (λ e. let z : extra w ≡ 1 = ap one_if e in omega (arith, z)) (λ e. let z : extra w ≡ 0 = ap one_if e in omega (arith, z));
      where_it_is = λ w l. by_test (eqb w F) (λ e. (d, eqb-true w F e)) (λ e. let z : extra w ≡ 0 = ap one_if e in absurd (omega (arith, z, l)));
      putting = sent_putting;
      rooms = λ c f k k' r e. sent_rooms c (f d) k k' r;
    }

  pub ready : Same element_words x y ⊎ Sent els x y → Ready els x y phase b
  ready (inl s) = stayed_ready s
  ready (inr d) = sent_ready d
