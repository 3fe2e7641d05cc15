-- THE FLOWS OF A NODE, ONE AFTER THE OTHER: how many entries and exits its element has, what they are, and what is left alone. t is the text, w the things of a drawing, n their count, k a node. Assumes nothing.
use Prim.Native.Nat.{ℕ, zero, suc, ◌+◌, ◌*◌, ◌≤◌, ◌<◌}
use mathlib.Core.Path.{◌≡◌, refl, sym, ◌∙◌, ap, ap₂, subst}
use mathlib.Core.Bool.{Bool, true, false, ◌&&◌}
use mathlib.Core.List.{List, [], ◌∷◌, ◌++◌, append_assoc, append-nil}
use native.Mathlib.Decide.{dec_lt}
use native.Mathlib.Omega.{arith}
use lib.Dec.{eqb, ltb}
use lib.ListN.{length, get_or, set, length-set, length-append, get_or-append}
use lib.Seq.{get_or-set_same, get_or-set_other, get_or-append_seam}
use borrow.Author.Tests.{lt-ltb}
use Rattle.base_words.specs.Each.{joined}
use Rattle.base_words.specs.Iter.{iter}
use Rattle.base_words.specs.Pick.{if◌then◌or_else◌}
use Rattle.base_words.specs.Sum.{sum, one_if}
use Rattle.base_words.specs.Words.{at}
use Rattle.base_words.proofs.PickLaws.{pick_yes}
use Rattle.base_table.specs.Places.{entries_place, exits_place, edge_place, condition_place, message_place, element_words}
use Rattle.draw_things.specs.Things.{room, one_more, source, target, sequence_flow, greatest_note}
use Rattle.draw_kinds.specs.Counting.{of_sort}
use Rattle.draw_conditions.specs.declared.Term.{Term}
use Rattle.draw_conditions.specs.declared.Condition.{Condition}
use Rattle.draw_numbers.specs.Numbers.{count_before, edge_of}
use Rattle.draw_model.specs.Drawn.{with_edge, with_form, with_term, with_condition, said_or_true, guarded_by, with_guard, with_branch, exit_by, entering_by, leaving_by, by_flow, head_of}
use Rattle.proof_map.proofs.Picked.{as_many}
use Rattle.proof_spelling.specs.Spelling.{gathered}
use Rattle.proof_spelling.proofs.Lists.{fewer}

-- WORDS THAT ARE SET
pub set_here : (x : List ℕ) (i v : ℕ) → i < length x → at (set x i v) i ≡ v
set_here x i v h = get_or-set_same x i v 0 h

pub set_other : (x : List ℕ) (i j v : ℕ) → (j ≡ i → ⊥) → at (set x i v) j ≡ at x j
set_other x i j v h = get_or-set_other x i j v 0 h

pub more_is : (v : ℕ) → v ≤ room → one_more v ≡ v + 1
unfolding one_more
more_is v h = sym (pick_yes (ltb v greatest_note) (v + 1) (v + 1) greatest_note (lt-ltb v greatest_note (omega (arith, h))) refl)

pub either : {A : Type 0} (P : A → Type 0) (b : Bool) (x y : A) → P x → P y → P (if b then x or_else y)
unfolding if◌then◌or_else◌
either P true x y p q = p
either P false x y p q = q

-- x is y but for words from b on
pub record Kept (b : ℕ) (y x : List ℕ) : Type 0 where
  pub long : length x ≡ length y
  pub low : (i : ℕ) → i < b → at x i ≡ at y i

pub kept_all : (b : ℕ) (x : List ℕ) → Kept b x x
kept_all b x = record { long = refl; low = λ i h. refl }

pub keep : (b : ℕ) (y x : List ℕ) (i v : ℕ) → b ≤ i → Kept b y x → Kept b y (set x i v)
keep b y x i v h k = record { long = length-set x i v ∙ k.long; low = λ j l. set_other x i j v (λ e. omega (arith, h, l, e)) ∙ k.low j l }

pub kept_edge : (b : ℕ) (y x : List ℕ) (list e : ℕ) → b ≤ list → Kept b y x → Kept b y (with_edge list e x)
unfolding with_edge
kept_edge b y x list e h k = keep b y _ _ _ h (keep b y x _ _ (omega (arith, h)) k)

-- ONE MORE ENTRY OR EXIT
module _ (list e : ℕ) (x : List ℕ) where
  pub edge_long : length (with_edge list e x) ≡ length x
  unfolding with_edge
  edge_long = length-set (set x (edge_place list (at x list)) e) list (one_more (at x list)) ∙ length-set x (edge_place list (at x list)) e

  pub edge_count : list < length x → at x list ≤ room → at (with_edge list e x) list ≡ at x list + 1
  unfolding with_edge
  edge_count h l = set_here (set x (edge_place list (at x list)) e) list (one_more (at x list)) (omega (arith, h, length-set x (edge_place list (at x list)) e)) ∙ more_is (at x list) l

  pub edge_new : list + 1 + at x list < length x → at (with_edge list e x) (list + 1 + at x list) ≡ e
  unfolding with_edge
  edge_new h =
      set_other (set x (edge_place list (at x list)) e) list (list + 1 + at x list) (one_more (at x list)) (λ q. omega (arith, q))
      ∙ set_here x (list + 1 + at x list) e h

  pub edge_other : (i : ℕ) → (i ≡ list → ⊥) → (i ≡ list + 1 + at x list → ⊥) → at (with_edge list e x) i ≡ at x i
  unfolding with_edge
  edge_other i h l = set_other (set x (edge_place list (at x list)) e) list i (one_more (at x list)) h ∙ set_other x (edge_place list (at x list)) i e l

-- WHAT AN EXIT LEAVES ALONE: a condition changes nothing before its place, an exit nothing before the exits
module _ (t w : List ℕ) (n : ℕ) where
  kept_form : (b c : ℕ) (y x : List ℕ) (v : ℕ) → b ≤ condition_place c → Kept b y x → Kept b y (with_form c v x)
  unfolding with_form
  kept_form b c y x v h k = keep b y x _ v (omega (arith, h)) k

  kept_condition : (b c : ℕ) (y x : List ℕ) (z : Condition) → b ≤ condition_place c → Kept b y x → Kept b y (with_condition z c x)
  unfolding with_condition with_term
  kept_condition b c y x z h k =
      keep b y _ _ _ (omega (arith, h)) (keep b y _ _ _ (omega (arith, h)) (keep b y _ _ _ (omega (arith, h)) (keep b y _ _ _ (omega (arith, h)) (kept_form b c y x _ h k))))

  kept_guarded : (b j c : ℕ) (y x : List ℕ) → b ≤ condition_place c → Kept b y x → Kept b y (guarded_by t w n j c x)
  unfolding guarded_by said_or_true
  kept_guarded b j c y x h k = either (Kept b y) _ _ _ (either (Kept b y) _ _ _ (kept_form b c y x _ h k) (kept_condition b c y x _ h k)) (kept_form b c y x _ h k)

  pub kept_guard : (b k j c : ℕ) (y x : List ℕ) → b ≤ condition_place c → Kept b y x → Kept b y (with_guard t w n k j c x)
  unfolding with_guard
  kept_guard b k j c y x h l = either (Kept b y) _ _ _ (kept_form b c y x _ h l) (kept_guarded b j c y x h l)

  pub kept_exit : (k j : ℕ) (x : List ℕ) → Kept exits_place x (exit_by t w n k j x)
  unfolding exit_by with_branch
  kept_exit k j x =
      either (Kept exits_place x) _ _ _ (kept_edge exits_place x _ exits_place _ (omega arith) (keep exits_place x x _ _ (omega arith) (kept_all exits_place x)))
      (either (Kept exits_place x) _ _ _ (kept_edge exits_place x _ exits_place _ (omega arith) (kept_guard exits_place k j _ x x (omega arith) (kept_all exits_place x)))
      (kept_edge exits_place x x exits_place _ (omega arith) (kept_all exits_place x)))

  -- and it is one more
  counted_edge : (e : ℕ) (x y : List ℕ) → length x ≡ element_words → at x exits_place ≤ room → Kept (exits_place + 1) x y → at (with_edge exits_place e y) exits_place ≡ at x exits_place + 1
  counted_edge e x y l h k =
      let same : at y exits_place ≡ at x exits_place = k.low exits_place (omega arith) in
      edge_count exits_place e y (omega (arith, l, k.long)) (omega (arith, h, same)) ∙ ap (λ (v : ℕ). v + 1) same

  pub counted_exit : (k j : ℕ) (x : List ℕ) → length x ≡ element_words → at x exits_place ≤ room → at (exit_by t w n k j x) exits_place ≡ at x exits_place + 1
  unfolding exit_by with_branch
  counted_exit k j x l h =
      either (λ (z : List ℕ). at z exits_place ≡ at x exits_place + 1) _ _ _ (counted_edge _ x _ l h (keep (exits_place + 1) x x _ _ (omega arith) (kept_all (exits_place + 1) x)))
      (either (λ (z : List ℕ). at z exits_place ≡ at x exits_place + 1) _ _ _ (counted_edge _ x _ l h (kept_guard (exits_place + 1) k j _ x x (omega arith) (kept_all (exits_place + 1) x)))
      (counted_edge _ x x l h (kept_all (exits_place + 1) x)))

-- COUNTING
count_more : (f : ℕ → Bool) (n : ℕ) → count_before f (suc n) ≡ count_before f n + one_if (f n)
unfolding count_before sum
count_more f n = refl

pub count_none : (f : ℕ → Bool) → count_before f 0 ≡ 0
unfolding count_before sum
count_none f = refl

pub count_most_lem : (f : ℕ → Bool) (n : ℕ) → count_before f n ≤ n
count_most_lem f zero = omega (arith, count_none f)
count_most_lem f (suc n) = go (f n) (count_more f n) (count_most_lem f n)
  where
    go : (b : Bool) → count_before f (suc n) ≡ count_before f n + one_if b → count_before f n ≤ n → count_before f (suc n) ≤ suc n
    go true e h = omega (arith, e, h)
    go false e h = omega (arith, e, h)

pub count_mono : (f : ℕ → Bool) (p q : ℕ) → p ≤ q → count_before f p ≤ count_before f q
count_mono f p zero u = omega (arith, ap (count_before f) (let z : p ≡ 0 = omega (arith, u) in z))
count_mono f p (suc q) u = go (dec_lt p (suc q)) (count_mono f p q)
  where
    go : Dec (p < suc q) → (p ≤ q → count_before f p ≤ count_before f q) → count_before f p ≤ count_before f (suc q)
    go (yes v) before = let l = before (omega (arith, v)) in omega (arith, l, count_more f q)
    go (no v) before = omega (arith, ap (count_before f) (let z : p ≡ suc q = omega (arith, u, v) in z))

-- A NODE'S FLOWS
module _ (t w : List ℕ) (n k : ℕ) (few : n ≤ room) where
  abbrev pub enters : ℕ → Bool
  enters j = of_sort sequence_flow w j && eqb (target w j) k

  abbrev pub leaves : ℕ → Bool
  leaves j = of_sort sequence_flow w j && eqb (source w j) k

  abbrev into : ℕ → List ℕ → List ℕ
  into j x = if enters j then with_edge entries_place (edge_of w j) x or_else x

  abbrev out : ℕ → List ℕ → List ℕ
  out j x = if leaves j then exit_by t w n k j x or_else x

  flow_is : (j : ℕ) (x : List ℕ) → by_flow t w n k j x ≡ out j (into j x)
  unfolding by_flow leaving_by entering_by
  flow_is j x = go (of_sort sequence_flow w j)
    where
      go : (b : Bool)
          → (if b then (if eqb (source w j) k then exit_by t w n k j (if eqb (target w j) k then with_edge entries_place (edge_of w j) x or_else x) or_else (if eqb (target w j) k then with_edge entries_place (edge_of w j) x or_else x)) or_else x)
          ≡ (if b && eqb (source w j) k then exit_by t w n k j (if b && eqb (target w j) k then with_edge entries_place (edge_of w j) x or_else x) or_else (if b && eqb (target w j) k then with_edge entries_place (edge_of w j) x or_else x))
      go true = unfold if◌then◌or_else◌ in refl
      go false = unfold if◌then◌or_else◌ in refl

  -- after the first m
  abbrev pub after : ℕ → List ℕ
  after m = iter (by_flow t w n k) (head_of w n k) m

  after_more : (m : ℕ) → after (suc m) ≡ out m (into m (after m))
  unfolding iter
  after_more m = flow_is m (iter (by_flow t w n k) (head_of w n k) m)

  into_long : (j : ℕ) (x : List ℕ) → length (into j x) ≡ length x
  into_long j x = either (λ (z : List ℕ). length z ≡ length x) (enters j) _ _ (edge_long entries_place (edge_of w j) x) refl

  out_kept : (j : ℕ) (x : List ℕ) → Kept exits_place x (out j x)
  out_kept j x = either (Kept exits_place x) (leaves j) _ _ (kept_exit t w n k j x) (kept_all exits_place x)

  into_count : (j : ℕ) (x : List ℕ) → length x ≡ element_words → at x entries_place ≤ room → at (into j x) entries_place ≡ at x entries_place + one_if (enters j)
  into_count j x l h = go (enters j)
    where
      go : (b : Bool) → at (if b then with_edge entries_place (edge_of w j) x or_else x) entries_place ≡ at x entries_place + one_if b
      go true = unfold if◌then◌or_else◌ in edge_count entries_place (edge_of w j) x (omega (arith, l)) h
      go false = unfold if◌then◌or_else◌ in (let z : at x entries_place ≡ at x entries_place + 0 = omega arith in z)

  module _ (long : length (head_of w n k) ≡ element_words) (bare : at (head_of w n k) entries_place ≤ 1) (none : at (head_of w n k) exits_place ≡ 0) where
    abbrev a0 : ℕ
    a0 = at (head_of w n k) entries_place

    after_long : (m : ℕ) → length (after m) ≡ element_words
    after_long zero = unfold iter in long
    after_long (suc m) = ap length (after_more m) ∙ (out_kept m (into m (after m))).long ∙ into_long m (after m) ∙ after_long m

    -- its entries are counted
    pub after_entries : (m : ℕ) → m ≤ n → at (after m) entries_place ≡ a0 + count_before enters m
    after_entries zero h = unfold iter in (let z : a0 ≡ a0 + count_before enters 0 = omega (arith, count_none enters) in z)
    after_entries (suc m) h =
        let before = after_entries m (omega (arith, h)) in
        let e = into_count m (after m) (after_long m) (omega (arith, before, count_most_lem enters m, h, few, bare)) in
        ap (λ (z : List ℕ). at z entries_place) (after_more m) ∙ (out_kept m (into m (after m))).low entries_place (omega arith) ∙ e
        ∙ (let z : at (after m) entries_place + one_if (enters m) ≡ a0 + count_before enters (suc m) = omega (arith, before, count_more enters m) in z)

    module _ (ins : a0 + count_before enters n ≤ 8) where
      -- before an entry there is room for it
      entry_room : (m : ℕ) → m < n → enters m ≡ true → at (after m) entries_place < 8
      entry_room m h e = let f = fewer {A = ℕ} enters (λ j. j) n m h e in omega (arith, f, ins, after_entries m (omega (arith, h)))

      into_other : (m i : ℕ) → m < n → entries_place + 9 ≤ i → at (into m (after m)) i ≡ at (after m) i
      into_other m i h l = go (enters m) refl
        where
          go : (b : Bool) → enters m ≡ b → at (if b then with_edge entries_place (edge_of w m) (after m) or_else after m) i ≡ at (after m) i
          go true e = unfold if◌then◌or_else◌ in let r = entry_room m h e in edge_other entries_place (edge_of w m) (after m) i (λ q. omega (arith, q, l)) (λ q. omega (arith, q, l, r))
          go false e = unfold if◌then◌or_else◌ in refl

      out_count : (m : ℕ) (x : List ℕ) → length x ≡ element_words → at x exits_place ≤ room → at (out m x) exits_place ≡ at x exits_place + one_if (leaves m)
      out_count m x l h = go (leaves m)
        where
          go : (b : Bool) → at (if b then exit_by t w n k m x or_else x) exits_place ≡ at x exits_place + one_if b
          go true = unfold if◌then◌or_else◌ in counted_exit t w n k m x l h
          go false = unfold if◌then◌or_else◌ in (let z : at x exits_place ≡ at x exits_place + 0 = omega arith in z)

      -- its exits are counted
      pub after_exits : (m : ℕ) → m ≤ n → at (after m) exits_place ≡ count_before leaves m
      after_exits zero h = unfold iter in none ∙ sym (count_none leaves)
      after_exits (suc m) h =
          let before = after_exits m (omega (arith, h)) in
          let same = into_other m exits_place (omega (arith, h)) (omega arith) in
          let e = out_count m (into m (after m)) (into_long m (after m) ∙ after_long m) (omega (arith, before, same, count_most_lem leaves m, h, few)) in
          ap (λ (z : List ℕ). at z exits_place) (after_more m) ∙ e
          ∙ (let z : at (into m (after m)) exits_place + one_if (leaves m) ≡ count_before leaves (suc m) = omega (arith, before, same, count_more leaves m) in z)

      -- THE ENTRIES are those of the head, and the edges of the flows that enter
      module _ (first : List ℕ) (firsts : a0 ≡ length first) (head-is : (i : ℕ) → i < a0 → at (head_of w n k) (entries_place + 1 + i) ≡ get_or first i 0) where
        abbrev pub entered : ℕ → List ℕ
        entered m = first ++ gathered enters (edge_of w) m

        entered_long : (m : ℕ) → length (entered m) ≡ a0 + count_before enters m
        entered_long m = length-append first (gathered enters (edge_of w) m) ∙ ap₂ ◌+◌ (sym firsts) (as_many enters (edge_of w) m)

        into_is : (m i : ℕ) → m < n → i < a0 + count_before enters (suc m) → ((i : ℕ) → i < a0 + count_before enters m → at (after m) (entries_place + 1 + i) ≡ get_or (entered m) i 0)
            → at (into m (after m)) (entries_place + 1 + i) ≡ get_or (entered (suc m)) i 0
        unfolding joined
        into_is m i h l before = go (enters m) refl ∙ ap (λ (z : List ℕ). get_or z i 0) (append_assoc first (gathered enters (edge_of w) m) (if enters m then edge_of w m ∷ [] or_else []))
          where
            a : at (after m) entries_place ≡ a0 + count_before enters m
            a = after_entries m (omega (arith, h))

            go : (b : Bool) → enters m ≡ b → at (if b then with_edge entries_place (edge_of w m) (after m) or_else after m) (entries_place + 1 + i) ≡ get_or (entered m ++ (if b then edge_of w m ∷ [] or_else [])) i 0
            go false e =
                unfold if◌then◌or_else◌ in
                let u : i < a0 + count_before enters m = omega (arith, l, count_more enters m, ap one_if e) in
                before i u ∙ sym (ap (λ (z : List ℕ). get_or z i 0) (append-nil (entered m)))
            go true e = unfold if◌then◌or_else◌ in new (dec_lt i (a0 + count_before enters m))
              where
                r : at (after m) entries_place < 8
                r = entry_room m h e

                new : Dec (i < a0 + count_before enters m) → at (with_edge entries_place (edge_of w m) (after m)) (entries_place + 1 + i) ≡ get_or (entered m ++ (edge_of w m ∷ [])) i 0
                new (yes u) =
                    edge_other entries_place (edge_of w m) (after m) (entries_place + 1 + i) (λ q. omega (arith, q)) (λ q. omega (arith, q, u, a))
                    ∙ before i u
                    ∙ sym (get_or-append (entered m) (edge_of w m ∷ []) 0 i (omega (arith, u, entered_long m)))
                new (no u) =
                    let e₁ : i ≡ at (after m) entries_place = omega (arith, l, u, a, count_more enters m, ap one_if e) in
                    let e₂ : i ≡ length (entered m) = omega (arith, e₁, a, entered_long m) in
                    ap (λ (q : ℕ). at (with_edge entries_place (edge_of w m) (after m)) (entries_place + 1 + q)) e₁
                    ∙ edge_new entries_place (edge_of w m) (after m) (omega (arith, r, after_long m))
                    ∙ sym (ap (λ (q : ℕ). get_or (entered m ++ (edge_of w m ∷ [])) q 0) e₂ ∙ get_or-append_seam (entered m) (edge_of w m) [] 0)

        pub after_entered : (m : ℕ) → m ≤ n → (i : ℕ) → i < a0 + count_before enters m → at (after m) (entries_place + 1 + i) ≡ get_or (entered m) i 0
        after_entered zero h i l =
            unfold iter joined in
            head-is i (omega (arith, l, count_none enters)) ∙ sym (ap (λ (z : List ℕ). get_or z i 0) (append-nil first))
        after_entered (suc m) h i l =
            ap (λ (z : List ℕ). at z (entries_place + 1 + i)) (after_more m)
            ∙ (out_kept m (into m (after m))).low (entries_place + 1 + i) (bound (suc m) h i l)
            ∙ into_is m i (omega (arith, h)) l (after_entered m (omega (arith, h)))
          where
            bound : (p : ℕ) → p ≤ n → (i : ℕ) → i < a0 + count_before enters p → entries_place + 1 + i < exits_place
            bound p u i v = omega (arith, v, ins, count_mono enters p n u)

      -- THE EXITS: a piece of text for each flow that leaves, and what F says stays
      module _ (outs : count_before leaves n ≤ 8) (piece : List ℕ → ℕ → List ℕ) (new : ℕ → List ℕ) (F : List ℕ → Type 0)
          (in-piece : (e i : ℕ) (x : List ℕ) → length x ≡ element_words → at x entries_place < 8 → i < 8 → piece (with_edge entries_place e x) i ≡ piece x i)
          (in_frame : (e : ℕ) (x : List ℕ) → length x ≡ element_words → at x entries_place < 8 → F x → F (with_edge entries_place e x))
          (out-piece : (j i : ℕ) (x : List ℕ) → length x ≡ element_words → at x exits_place < 8 → i < at x exits_place → piece (exit_by t w n k j x) i ≡ piece x i)
          (out-new : (j : ℕ) (x : List ℕ) → j < n → length x ≡ element_words → at x exits_place < 8 → leaves j ≡ true → piece (exit_by t w n k j x) (at x exits_place) ≡ new j)
          (out_frame : (j : ℕ) (x : List ℕ) → length x ≡ element_words → at x exits_place < 8 → F x → F (exit_by t w n k j x)) where
        abbrev left : ℕ → List (List ℕ)
        left m = gathered leaves new m

        left_long : (m : ℕ) → length (left m) ≡ count_before leaves m
        left_long m = as_many leaves new m

        exit_room : (m : ℕ) → m < n → leaves m ≡ true → at (into m (after m)) exits_place < 8
        exit_room m h e = let f = fewer {A = ℕ} leaves (λ j. j) n m h e in omega (arith, f, outs, after_exits m (omega (arith, h)), into_other m exits_place h (omega arith))

        exit_few : (m : ℕ) → m < n → count_before leaves m ≤ 8
        exit_few m h = omega (arith, count_mono leaves m n (omega (arith, h)), outs)

        into_piece : (m i : ℕ) → m < n → i < 8 → piece (into m (after m)) i ≡ piece (after m) i
        into_piece m i h l = go (enters m) refl
          where
            go : (b : Bool) → enters m ≡ b → piece (if b then with_edge entries_place (edge_of w m) (after m) or_else after m) i ≡ piece (after m) i
            go true e = unfold if◌then◌or_else◌ in in-piece (edge_of w m) i (after m) (after_long m) (entry_room m h e) l
            go false e = unfold if◌then◌or_else◌ in refl

        into_frame : (m : ℕ) → m < n → F (after m) → F (into m (after m))
        into_frame m h f = go (enters m) refl
          where
            go : (b : Bool) → enters m ≡ b → F (if b then with_edge entries_place (edge_of w m) (after m) or_else after m)
            go true e = unfold if◌then◌or_else◌ in in_frame (edge_of w m) (after m) (after_long m) (entry_room m h e) f
            go false e = unfold if◌then◌or_else◌ in f

        pub after_frame : F (head_of w n k) → (m : ℕ) → m ≤ n → F (after m)
        after_frame f zero h = unfold iter in f
        after_frame f (suc m) h = subst F (sym (after_more m)) (go (leaves m) refl (into_frame m (omega (arith, h)) (after_frame f m (omega (arith, h)))))
          where
            go : (b : Bool) → leaves m ≡ b → F (into m (after m)) → F (if b then exit_by t w n k m (into m (after m)) or_else into m (after m))
            go true e here = unfold if◌then◌or_else◌ in out_frame m (into m (after m)) (into_long m (after m) ∙ after_long m) (exit_room m (omega (arith, h)) e) here
            go false e here = unfold if◌then◌or_else◌ in here

        pub after_left : (m : ℕ) → m ≤ n → (i : ℕ) → i < count_before leaves m → piece (after m) i ≡ get_or (left m) i []
        unfolding joined
        after_left zero h i l = absurd (omega (arith, l, count_none leaves))
        after_left (suc m) h i l = ap (λ (z : List ℕ). piece z i) (after_more m) ∙ go (leaves m) refl (after_left m (omega (arith, h)))
          where
            u : m < n
            u = omega (arith, h)

            c : at (into m (after m)) exits_place ≡ count_before leaves m
            c = into_other m exits_place u (omega arith) ∙ after_exits m (omega (arith, h))

            go : (b : Bool) → leaves m ≡ b → ((i : ℕ) → i < count_before leaves m → piece (after m) i ≡ get_or (left m) i [])
                → piece (if b then exit_by t w n k m (into m (after m)) or_else into m (after m)) i ≡ get_or (left m ++ (if b then new m ∷ [] or_else [])) i []
            go false e before =
                unfold if◌then◌or_else◌ in
                let v : i < count_before leaves m = omega (arith, l, count_more leaves m, ap one_if e) in
                into_piece m i u (omega (arith, v, exit_few m u)) ∙ before i v ∙ sym (ap (λ (z : List (List ℕ)). get_or z i []) (append-nil (left m)))
            go true e before = unfold if◌then◌or_else◌ in last (dec_lt i (count_before leaves m))
              where
                r : at (into m (after m)) exits_place < 8
                r = exit_room m u e

                long_here : length (into m (after m)) ≡ element_words
                long_here = into_long m (after m) ∙ after_long m

                last : Dec (i < count_before leaves m) → piece (exit_by t w n k m (into m (after m))) i ≡ get_or (left m ++ (new m ∷ [])) i []
                last (yes v) =
                    out-piece m i (into m (after m)) long_here r (omega (arith, v, c))
                    ∙ into_piece m i u (omega (arith, v, exit_few m u))
                    ∙ before i v
                    ∙ sym (get_or-append (left m) (new m ∷ []) [] i (omega (arith, v, left_long m)))
                last (no v) =
                    let e₁ : i ≡ at (into m (after m)) exits_place = omega (arith, l, v, c, count_more leaves m, ap one_if e) in
                    let e₂ : i ≡ length (left m) = omega (arith, e₁, c, left_long m) in
                    ap (piece (exit_by t w n k m (into m (after m)))) e₁
                    ∙ out-new m (into m (after m)) u long_here r e
                    ∙ sym (ap (λ (q : ℕ). get_or (left m ++ (new m ∷ [])) q []) e₂ ∙ get_or-append_seam (left m) (new m) [] [])
