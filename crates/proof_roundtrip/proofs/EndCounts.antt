-- What the checks count of an endSnd x, of the send y that it becomes, and of the end for it. Assumes nothing.
use Prim.Native.Nat.{ℕ, zero, suc, ◌+◌, ◌-◌, ◌≤◌, ◌<◌}
use mathlib.Core.Path.{◌≡◌, refl, sym, ◌∙◌, ap, ap₂}
use mathlib.Core.Bool.{Bool, true, false, not, ◌&&◌}
use mathlib.Core.List.{List, [], ◌∷◌}
use native.Mathlib.Nat.{zero-add, add-zero}
use native.Mathlib.Omega.{arith}
use lib.Dec.{eqb, leb}
use lib.ListN.{drop}
use borrow.Author.Tests.{leb-true}
use Rattle.base_words.specs.All.{all}
use Rattle.base_words.specs.Counts.{branches, edges}
use Rattle.base_words.specs.Each.{total, each}
use Rattle.base_words.specs.Pick.{if◌then◌or_else◌}
use Rattle.base_words.specs.Sum.{sum, hit, one_if}
use Rattle.base_words.specs.Words.{at}
use Rattle.base_words.proofs.AllLaws.{and_right}
use Rattle.base_words.proofs.ListLaws.{each_at}
use Rattle.base_words.proofs.SumLaws.{sum_ext, sum-zero}
use Rattle.base_kinds.specs.declared.Kind.{Kind}
use Rattle.base_kinds.specs.Kinds.{kinds, no_kind, kind_of, used, many, start, end, end_snd, inter_snd}
use Rattle.base_table.specs.Places.{task_place, entries_place, exits_place, edge_place, message_place}
use Rattle.base_table.specs.Table.{kind_in, entry_count, exit_count, entry_at, exit_at}
use Rattle.check_limits.specs.Limits.{element_fits, parts_fit, edges_fit}
use Rattle.check_limits.proofs.SameLaws.{count_most_lem, used_most}
use Rattle.check_occurrences.specs.Occurrences.{condition_count, received_count, sent_count, of_kind, as_exit, as_entry, as_first, as_task, as_received, as_sent, defaults, default_once, bound_once}
use Rattle.check_tally.proofs.TallyLaws.{hit_no}
use Rattle.text_ends.specs.Rewriting.{is_end_snd, times_in, mentioned, with_one, sending_to, end_of}
use Rattle.proof_roundtrip.proofs.FitsLaws.{edges_count, entries_fit, exits_fit}
use Rattle.proof_roundtrip.proofs.EndModels.{Every, Right}
use Rattle.proof_roundtrip.proofs.EndSends.{was, kind_is, count_is, exit_is, other, no_exits}

first_alone : (g : ℕ → ℕ) (n : ℕ) → ((j : ℕ) → j < n → g (suc j) ≡ 0) → sum g (suc n) ≡ g 0
unfolding sum
first_alone g zero h = zero-add (g 0)
first_alone g (suc n) h = ap₂ ◌+◌ (first_alone g n (λ j l. h j (omega arith))) (h n (omega arith)) ∙ add-zero (g 0)

-- A COUNT THAT NEITHER ALTERS
pub record Unaltered (x y z : List ℕ) (g : List ℕ → ℕ) : Type 0 where
  pub send : g y ≡ g x
  pub fresh : g z ≡ 0

module _ (x : List ℕ) (r : Right x) (is : is_end_snd x ≡ true) (f : ℕ) where
  abbrev y : List ℕ
  y = sending_to f x

  abbrev z : List ℕ
  z = end_of f

  abbrev Stays : (List ℕ → ℕ) → Type 0
  Stays g = Unaltered x y z g

  -- kinds, task numbers, first edges
  pub kinds_stay : (k : ℕ) → k < end → Stays (of_kind k)
  unfolding of_kind end_of with_one
  kinds_stay k l =
      record {
        send = ap (λ n. hit n k) (kind_is x r is f) ∙ hit_no inter_snd k (λ e. omega arith) ∙ sym (ap (λ n. hit n k) (was x r is f) ∙ hit_no end_snd k (λ e. omega arith));
        fresh = hit_no end k (λ e. omega arith);
      }

  pub tasks_stay : (n : ℕ) → 0 < n → Stays (as_task n)
  unfolding as_task end_of with_one
  tasks_stay n l = record { send = ap (λ k. hit k n) (other x r is f task_place (λ e. omega arith) (λ e. omega arith) (λ e. omega arith)); fresh = hit_no 0 n (λ e. omega arith) }

  pub firsts_stay : (e : ℕ) → Stays (as_first e)
  unfolding as_first end_of with_one
  firsts_stay e =
      record {
        send = ap (λ k. one_if (eqb k start && eqb (entry_at y 0) e)) (kind_is x r is f) ∙ sym (ap (λ k. one_if (eqb k start && eqb (entry_at x 0) e)) (was x r is f));
        fresh = refl;
      }

  -- names: it receives none; it sends the one that it sent
  none_received : received_count y ≡ 0
  unfolding received_count kind_of used if◌then◌or_else◌
  none_received = ap (λ k. used (kind_of k).receives (exit_count y)) (kind_is x r is f)

  none_before : received_count x ≡ 0
  unfolding received_count kind_of used if◌then◌or_else◌
  none_before = ap (λ k. used (kind_of k).receives (exit_count x)) (was x r is f)

  pub received_stay : (m : ℕ) → Stays (as_received m)
  unfolding as_received sum received_count kind_of used if◌then◌or_else◌ end_of with_one
  received_stay m =
      record {
        send = ap (sum (λ j. hit (at y (message_place j)) m)) none_received ∙ sym (ap (sum (λ j. hit (at x (message_place j)) m)) none_before);
        fresh = refl;
      }

  one_sent : sent_count y ≡ 1
  unfolding sent_count kind_of used if◌then◌or_else◌
  one_sent = ap (λ k. used (kind_of k).sends (exit_count y)) (kind_is x r is f)

  one_before : sent_count x ≡ 1
  unfolding sent_count kind_of used if◌then◌or_else◌
  one_before = ap (λ k. used (kind_of k).sends (exit_count x)) (was x r is f)

  pub sent_stay : (m : ℕ) → Stays (as_sent m)
  unfolding as_sent sum sent_count kind_of used if◌then◌or_else◌ end_of with_one
  sent_stay m =
      record {
        send =
            ap (sum (λ j. hit (at y (message_place j)) m)) one_sent
            ∙ sum_ext _ _ 1 (λ j l. ap (λ k. hit k m) (other x r is f (message_place j) (λ e. omega arith) (λ e. omega arith) (λ e. omega arith)))
            ∙ sym (ap (sum (λ j. hit (at x (message_place j)) m)) one_before);
        fresh = refl;
      }

  -- it has no condition and no template
  pub one_default : (default_once y ≡ true) × (default_once x ≡ true) × (default_once z ≡ true)
  unfolding default_once defaults condition_count sum kind_of used if◌then◌or_else◌ end_of with_one
  one_default = (rw (kind_is x r is f), rw (was x r is f), refl)

  pub one_bind : (bound_once y ≡ true) × (bound_once x ≡ true) × (bound_once z ≡ true)
  unfolding bound_once all received_count kind_of used if◌then◌or_else◌ end_of with_one
  one_bind = (rw (kind_is x r is f), rw (was x r is f), refl)

  -- EDGES: f is an exit of the send and the entry of the end
  pub as_exit_lem : (e : ℕ) → (as_exit e y ≡ hit f e) × (as_exit e x ≡ 0) × (as_exit e z ≡ 0)
  unfolding as_exit sum exit_count kind_of used if◌then◌or_else◌ end_of with_one
  as_exit_lem e = (
    ap (λ k. sum (λ j. hit (exit_at y j) e) (used (kind_of k).exits (at y exits_place))) (kind_is x r is f) ∙ zero-add (hit (exit_at y 0) e) ∙ ap (λ k. hit k e) (exit_is x r is f),
    ap (λ k. sum (λ j. hit (exit_at x j) e) (used (kind_of k).exits (at x exits_place))) (was x r is f),
    refl,
  )

  pub as_entry_lem : (e : ℕ) → (as_entry e y ≡ as_entry e x) × (as_entry e z ≡ hit f e)
  unfolding as_entry sum entry_count kind_of used if◌then◌or_else◌ end_of with_one
  as_entry_lem e = (
    ap (λ k. sum (λ j. hit (entry_at y j) e) (used (kind_of k).entries (at y entries_place))) (kind_is x r is f)
        ∙ ap (λ k. 0 + hit k e) (other x r is f (edge_place entries_place 0) (λ q. omega arith) (λ q. omega arith) (λ q. omega arith))
        ∙ sym (ap (λ k. sum (λ j. hit (entry_at x j) e) (used (kind_of k).entries (at x entries_place))) (was x r is f)),
    zero-add (hit f e),
  )

  -- an edge that is mentioned
  entries_stay : (e : ℕ) → times_in y entries_place e ≡ times_in x entries_place e
  unfolding times_in
  entries_stay e = sum_ext _ _ branches (λ j l. ap (λ k. hit k e) (other x r is f (edge_place entries_place j) (λ q. omega arith) (λ q. omega arith) (λ q. omega arith)))

  none_behind : (e : ℕ) → 0 < e → times_in x exits_place e ≡ 0
  unfolding times_in
  none_behind e l = sum-zero _ branches (λ j h. ap (λ k. hit k e) (no_exits x r is f (edge_place exits_place j) (omega arith) (omega arith)) ∙ hit_no 0 e (λ q. omega arith))

  one_behind : (e : ℕ) → 0 < e → times_in y exits_place e ≡ hit f e
  unfolding times_in
  one_behind e l = first_alone (λ j. hit (at y (edge_place exits_place j)) e) 7 (λ j h. ap (λ k. hit k e) (other x r is f (edge_place exits_place (suc j)) (λ q. omega arith) (λ q. omega arith) (λ q. omega arith) ∙ no_exits x r is f (edge_place exits_place (suc j)) (omega arith) (omega arith)) ∙ hit_no 0 e (λ q. omega arith)) ∙ ap (λ k. hit k e) (exit_is x r is f)

  pub mentions : (e : ℕ) → 0 < e → (mentioned e y ≡ mentioned e x + hit f e) × (mentioned e z ≡ hit f e)
  unfolding mentioned
  mentions e l = (
    ap₂ ◌+◌ (entries_stay e) (one_behind e l) ∙ (let q : times_in x entries_place e + hit f e ≡ times_in x entries_place e + times_in x exits_place e + hit f e = omega (arith, none_behind e l) in q),
    end_mentions e l,
  )
    where
      end_mentions : (e : ℕ) → 0 < e → times_in z entries_place e + times_in z exits_place e ≡ hit f e
      end_mentions e l =
          unfold times_in sum end_of with_one in
          (let h : hit 0 e ≡ 0 = hit_no 0 e (λ q. omega arith) in omega (arith, h))

-- WHAT IS COUNTED IS MENTIONED
more_of : (g : ℕ → ℕ) (n d : ℕ) → sum g n ≤ sum g (n + d)
more_of g n zero = let q : sum g n ≡ sum g (n + 0) = ap (sum g) (sym (add-zero n)) in omega (arith, q)
more_of g n (suc d) =
    let q : sum g (n + suc d) ≡ sum g (n + d) + g (n + d) = ap (sum g) (let w : n + suc d ≡ suc (n + d) = omega arith in w) ∙ (unfold sum in refl) in
    omega (arith, more_of g n d, q)

grows : (g : ℕ → ℕ) (n m : ℕ) → n ≤ m → sum g n ≤ sum g m
grows g n m h = let q : sum g (n + (m - n)) ≡ sum g m = ap (sum g) (let w : n + (m - n) ≡ m = omega arith in w) in omega (arith, more_of g n (m - n), q)

low : (c : Kind → ℕ) → each (λ r. leb (c r) many) kinds ≡ true → leb (c no_kind) many ≡ true → (k : ℕ) → c (kind_of k) ≤ many
unfolding kind_of
low c e o k = leb-true (c (kind_of k)) many (each_at (λ r. leb (c r) many) kinds no_kind e o k)

both_one : (a b : Bool) → one_if (a && b) ≤ one_if b
both_one true b = omega arith
both_one false b = omega arith

module _ (el : List ℕ) (r : Right el) where
  abbrev row : Kind
  row = kind_of (kind_in el)

  parts_fit_lem : parts_fit row el ≡ true
  unfolding element_fits
  parts_fit_lem = and_right (not (eqb row.letters 0)) _ r.fits

  few : (column list : ℕ) → column ≤ many → edges_fit column (drop list el) ≡ true → used column (at el list) ≤ branches
  few column list l h = used_most column (at el list) l (count_most_lem column (at el list) l (edges_count el column list h))

  pub exits_few : exit_count el ≤ branches
  unfolding exit_count each
  exits_few = few row.exits exits_place (low (λ k. k.exits) refl refl (kind_in el)) (exits_fit row el parts_fit_lem)

  pub entries_few : entry_count el ≤ branches
  unfolding entry_count each
  entries_few = few row.entries entries_place (low (λ k. k.entries) refl refl (kind_in el)) (entries_fit row el parts_fit_lem)

  pub exit_mentioned : (e : ℕ) → as_exit e el ≤ mentioned e el
  unfolding as_exit mentioned times_in
  exit_mentioned e = omega (arith, grows (λ j. hit (exit_at el j) e) (exit_count el) branches exits_few)

  pub entry_mentioned : (e : ℕ) → as_entry e el ≤ mentioned e el
  unfolding as_entry mentioned times_in
  entry_mentioned e = omega (arith, grows (λ j. hit (entry_at el j) e) (entry_count el) branches entries_few)

  pub first_mentioned : (e : ℕ) → as_first e el ≤ mentioned e el
  unfolding as_first mentioned times_in
  first_mentioned e =
      let q : sum (λ j. hit (entry_at el j) e) 1 ≡ hit (entry_at el 0) e = unfold sum in zero-add (hit (entry_at el 0) e) in
      omega (arith, both_one (eqb (kind_in el) start) (eqb (entry_at el 0) e), grows (λ j. hit (entry_at el j) e) 1 branches (omega arith), q)
