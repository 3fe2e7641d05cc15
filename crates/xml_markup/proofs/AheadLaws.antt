-- A tag read ahead, byte by byte: names that are new stay out of a search, and where they are new nothing is at fault. Assumes nothing.
use Rattle.std.proofs.lemmas.Option.{none-some, same_Some}
use Rattle.std.specs.Prelude.{Some, None}
use mathlib.Core.Path.{◌≡◌, ◌∙◌, refl, sym, ap}
use mathlib.Core.Bool.{Bool, true, false, false≢true}
use mathlib.Core.List.{List, [], ◌∷◌}
use Prim.Native.Nat.{ℕ, zero, suc, ◌+◌, ◌-◌, ◌<◌, ◌≤◌}
use native.Mathlib.Numerals.{add-one}
use native.Mathlib.Omega.{arith}
use lib.Dec.{leb, eqb}
use lib.ListN.{length, take, drop, get_or, length-drop}
use lib.Seq.{drop-cons, get_or-take, take-take, take_all, length-take-le}
use borrow.Author.Tests.{eqb-true, lt-leb}
use Rattle.base_words.specs.Pick.{if◌then◌or_else◌}
use Rattle.base_words.specs.Words.{at, part}
use Rattle.base_words.proofs.AllLaws.{and_left, and_right}
use Rattle.base_bytes.specs.Bytes.{past}
use Rattle.base_bytes.proofs.PieceLaws.{by_order}
use Rattle.base_bytes.specs.Bytes.{same_bytes}
use Rattle.xml_characters.specs.Names.{is_control}
use Rattle.xml_markup.specs.declared.Cursor.{Cursor}
use Rattle.xml_markup.specs.declared.Scan.{Scan}
use Rattle.xml_markup.specs.declared.Scan.TheVariants.{On, Past, Fault}
use Rattle.xml_markup.specs.declared.Whole.{Whole}
use Rattle.xml_markup.specs.declared.Whole.TheVariants.{Nothing, Attribute, Target, Reference}
use Rattle.xml_markup.specs.Tokens.{whole, moved, if_on, if_attribute, is_named, found_from, begun, found, is_found, twice, is_faulty}
use Rattle.xml_markup.specs.Markup.{advance}
use Rattle.xml_markup.specs.Ahead.{name_number, key_of, key_at, Rising, Kept, More, With, New, ReadTo, is_faulty_else, tried, Ahead, Sure}
use Rattle.xml_markup.proofs.TokenLaws.{is_attribute, found_here, found_on, found_end}
use Rattle.xml_markup.proofs.ScanLaws.{scan_on}
use Rattle.xml_markup.proofs.CutLaws.{rest_of}

same_true : (a b : List ℕ) → same_bytes a b ≡ true → a ≡ b
unfolding same_bytes
same_true [] [] e = refl
same_true [] (y ∷ b) e = absurd (false≢true e)
same_true (x ∷ a) [] e = absurd (false≢true e)
same_true (x ∷ a) (y ∷ b) e = rw (eqb-true x y (and_left (eqb x y) (same_bytes a b) e), same_true a b (and_right (eqb x y) (same_bytes a b) e)) refl

never : (b : Bool) → (b ≡ true → ⊥) → b ≡ false
never true n = absurd (n refl)
never false n = refl

fault_not : (q : ℕ) (c : Cursor) → Fault q ≡ On c → ⊥
unfolding if_on
fault_not q c e = false≢true (ap (λ (r : Scan). if_on r (λ d. true) false) e)

none_of : (n : ℕ) (x y : List ℕ) → n ≡ 0 → take n x ≡ take n y
none_of n x y e = rw e

-- the beginning of a text up to m
module _ (t : List ℕ) (m : ℕ) (k : m ≤ length t) where
  long : length (part t 0 m) ≡ m
  long = length-take-le (m - 0) t (omega arith) ∙ (let e : m - 0 ≡ m = omega arith in e)

  part_of_lem : (mark i : ℕ) → i ≤ m → part (part t 0 m) mark i ≡ part t mark i
  part_of_lem mark i h =
      by_order mark m
      (λ l. ap (take (i - mark)) (rest_of t mark (m - 0) (omega arith) (omega arith)) ∙ take-take (i - mark) (m - 0 - mark) (drop mark t) (omega arith))
      (λ l. none_of (i - mark) _ _ (omega arith))

  module _ (name : List ℕ) (c : Cursor) (i : ℕ) (h : i < m) where
    same_byte : at (part t 0 m) i ≡ at t i
    same_byte = get_or-take (m - 0) t i 0 (omega arith)

    same_named : is_named (part t 0 m) name c i ≡ is_named t name c i
    unfolding is_named
    same_named = rw (same_byte, part_of_lem c.mark i (omega arith))

    at_here : is_named t name c i ≡ true → found_from (part t 0 m) name c (drop i (part t 0 m)) i ≡ Some i
    at_here e = found_here (part t 0 m) name c i (omega (arith, long)) (same_named ∙ e)

    at_next : is_named t name c i ≡ false → (next : Cursor) → moved c (at t i) i (i + 1) ≡ On next → found_from (part t 0 m) name c (drop i (part t 0 m)) i ≡ found_from (part t 0 m) name next (drop (i + 1) (part t 0 m)) (i + 1)
    at_next e next g = found_on (part t 0 m) name c i (omega (arith, long)) (same_named ∙ e) (at t i) (sym same_byte) (moved c (at t i) i (i + 1)) refl next g

  -- what is not found in a text is not found in a beginning of it
  cut_none : (name s : List ℕ) (c : Cursor) (i n : ℕ) → i + n ≤ m → found_from t name c s i ≡ None → found_from (part t 0 m) name c (take n s) i ≡ None
  unfolding found_from if_on if◌then◌or_else◌
  cut_none name s c i zero h e = refl
  cut_none name [] c i (suc n) h e = refl
  cut_none name (b ∷ s) c i (suc n) h e = rw (same_named name c i (omega arith), same_byte name c i (omega arith)) (go (is_named t name c i) (moved c (at t i) i (i + 1)) e (λ next. cut_none name s next (i + 1) n (omega arith)))
    where
      go : (x : Bool) (r : Scan) → (if x then Some i or_else if_on r (λ next. found_from t name next s (i + 1)) None) ≡ None → ((next : Cursor) → found_from t name next s (i + 1) ≡ None → found_from (part t 0 m) name next (take n s) (i + 1) ≡ None) → (if x then Some i or_else if_on r (λ next. found_from (part t 0 m) name next (take n s) (i + 1)) None) ≡ None
      go true r e f = e
      go false (On next) e f = f next e
      go false (Past sort q) e f = refl
      go false (Fault q) e f = refl

  cut : (name : List ℕ) (start : ℕ) → found t name start ≡ None → found (part t 0 m) name start ≡ None
  unfolding found
  cut name start e =
      by_order start m
      (λ l. rw (rest_of t start (m - 0) (omega arith) (omega arith)) (cut_none name (drop start t) (begun start) start (m - 0 - start) (omega arith) e))
      (λ l. found_end (part t 0 m) name (begun start) start (omega (arith, long)))

module _ (t : List ℕ) (start : ℕ) where
  less : (i m : ℕ) → i ≤ m → m ≤ length t → (name : List ℕ) → New t start m name → New t start i name
  less i m h k name e = rw (part_of_lem t m k 0 i h) at (cut (part t 0 m) i (omega (arith, long t m k)) name start e)

  -- a name that is new stands once
  once : (i mark : ℕ) → i ≤ length t → New t start i (part t mark i) → twice (part t 0 i) start mark ≡ false
  unfolding twice is_found
  once i mark k e =
      rw (long t i k, part_of_lem t i k mark i (omega arith))
      (by_order mark i
      (λ l. rw (cut (part t 0 i) mark (omega (arith, long t i k)) (part t mark i) start e) refl)
      (λ l. rw (take_all (mark - 0) (part t 0 i) (omega (arith, long t i k)), e) refl))

  module _ (c : Cursor) (i : ℕ) (h : i < length t) (r : ReadTo t start c i) (next : Cursor) (g : moved c (at t i) i (i + 1) ≡ On next) where
    pub reached_byte : ReadTo t start next (i + 1)
    reached_byte name m l k new = r name m (omega arith) k old ∙ at_next t m k name c i (omega arith) other next g
      where
        old : New t start i name
        old = less i (i + 1) (omega arith) (omega arith) name new

        other : is_named t name c i ≡ false
        other = never (is_named t name c i) (λ e. none-some i (sym (sym (at_here t (i + 1) (omega arith) name c i (omega arith) e) ∙ sym (r name (i + 1) (omega arith) (omega arith) old) ∙ new)))

    new_byte : (name : List ℕ) → New t start i name → is_named t name c i ≡ false → New t start (i + 1) name
    new_byte name new e =
        r name (i + 1) (omega arith) (omega arith) new
        ∙ at_next t (i + 1) (omega arith) name c i (omega arith) e next g
        ∙ found_end (part t 0 (i + 1)) name next (i + 1) (omega (arith, long t (i + 1) (omega arith)))

-- what a byte does, where a name is not judged
faulty_same : (w : Whole) (u : List ℕ) (start mark : ℕ) → (w ≡ Attribute → twice u start mark ≡ false) → is_faulty w u start mark ≡ is_faulty_else w u start mark
unfolding is_faulty is_faulty_else
faulty_same Nothing u start mark f = refl
faulty_same Attribute u start mark f = f refl
faulty_same Target u start mark f = refl
faulty_same Reference u start mark f = refl

faulty : (w : Whole) (u : List ℕ) (start mark : ℕ) → if_attribute w (twice u start mark) false ≡ true → is_faulty w u start mark ≡ true
unfolding if_attribute is_faulty
faulty Nothing u start mark f = absurd (false≢true f)
faulty Attribute u start mark f = f
faulty Target u start mark f = absurd (false≢true f)
faulty Reference u start mark f = absurd (false≢true f)

moved_on : (a b d : Bool) (i j k : ℕ) (r : Scan) (next : Cursor) → (if a then Fault i or_else if b then Fault j or_else if d then Fault k or_else r) ≡ On next → r ≡ On next
unfolding if◌then◌or_else◌
moved_on true b d i j k r next e = absurd (fault_not i next e)
moved_on false true d i j k r next e = absurd (fault_not j next e)
moved_on false false true i j k r next e = absurd (fault_not k next e)
moved_on false false false i j k r next e = e

module _ (t : List ℕ) (start : ℕ) (c : Cursor) (i : ℕ) where
  tried-moved : (next : Cursor) → tried t start c i ≡ On next → moved c (at t i) i (i + 1) ≡ On next
  unfolding tried
  tried-moved next e = moved_on (leb (length t) i) (is_faulty_else (whole c.state (at t i)) (part t 0 i) start c.mark) (is_control (at t i)) i c.mark i _ next e

  pub advance-moved : (next : Cursor) → advance t start c i ≡ On next → moved c (at t i) i (i + 1) ≡ On next
  unfolding advance
  advance-moved next e = moved_on (leb (length t) i) (is_faulty (whole c.state (at t i)) (part t 0 i) start c.mark) (is_control (at t i)) i c.mark i _ next e

  pub advance-tried : (whole c.state (at t i) ≡ Attribute → twice (part t 0 i) start c.mark ≡ false) → advance t start c i ≡ tried t start c i
  unfolding advance tried
  advance-tried f = rw (faulty_same (whole c.state (at t i)) (part t 0 i) start c.mark f)

  -- whether the name is a second one is asked first
  pub second_fault : i < length t → if_attribute (whole c.state (at t i)) (twice (part t 0 i) start c.mark) false ≡ true → Fault c.mark ≡ advance t start c i
  unfolding advance if◌then◌or_else◌
  second_fault h e = rw (lt-leb (length t) i h, faulty (whole c.state (at t i)) (part t 0 i) start c.mark e) refl

  pub second_not : if_attribute (whole c.state (at t i)) (twice (part t 0 i) start c.mark) false ≡ false → advance t start c i ≡ tried t start c i
  second_not e = advance-tried (λ w. sym (is_attribute _ _ _ w) ∙ e)

-- a name that is not this one is not named
pub other_named : (t name : List ℕ) (c : Cursor) (i : ℕ) → (part t c.mark i ≡ name → ⊥) → is_named t name c i ≡ false
unfolding is_named if_attribute
other_named t name c i out = go (whole c.state (at t i))
  where
    go : (w : Whole) → if_attribute w (same_bytes (part t c.mark i) name) false ≡ false
    go Nothing = refl
    go Attribute = never (same_bytes (part t c.mark i) name) (λ s. out (same_true (part t c.mark i) name s))
    go Target = refl
    go Reference = refl

-- a name is kept, where it is one whose number is kept
pub kept_as : (κ : ℕ → ℕ) (v : List ℕ) (n : ℕ) (w x name : List ℕ) → w ≡ x → x ≡ name → Kept κ v n (key_of name) → Kept κ v n (key_of w)
kept_as κ v n w x name b e y = rw (ap (λ (z : List ℕ). name_number z 0) (b ∙ e)) y

-- what is taken of a name
module _ (κ : ℕ → ℕ) (v : List ℕ) (n k : ℕ) (w : Whole) (m : ℕ) where
  pub takes_none : n ≤ length v → (w ≡ Attribute → ⊥) → Some n ≡ Some m → Rising κ v n → More κ v n v m × (w ≡ Attribute → With κ k v n v m)
  takes_none h o e up =
      rw (sym (same_Some _ _ e))
      (record { rising = up; fits = h; kept = λ x y. y }, λ a. absurd (o a))

  pub takes_one : (u : List ℕ) → More κ v n u (n + 1) × With κ k v n u (n + 1) → Some (n + 1) ≡ Some m → More κ v n u m × (w ≡ Attribute → With κ k v n u m)
  takes_one u (a, b) e = rw (sym (same_Some _ _ e)) (a, λ y. b)

-- what holds behind each byte of a class holds behind a run of them
module _ (t : List ℕ) (f : ℕ → Bool) (P : ℕ → Type 0) (on : (i : ℕ) → i < length t → f (at t i) ≡ true → P i → P (i + 1)) where
  run_past : (s : List ℕ) (i : ℕ) → s ≡ drop i t → P i → P (past f s i)
  unfolding past
  run_past [] i e p = p
  run_past (b ∷ s) i e p = go (f b) refl (run_past s (i + 1) rest)
    where
      inside : i < length t
      inside = omega (arith, length-drop i t, ap length e)

      split : b ∷ s ≡ at t i ∷ drop (i + 1) t
      split = e ∙ drop-cons t i 0 inside ∙ rw (add-one i)

      first : b ≡ at t i
      first = ap (λ l. get_or l 0 0) split

      rest : s ≡ drop (i + 1) t
      rest = ap (drop 1) split

      go : (x : Bool) → f b ≡ x → (P (i + 1) → P (past f s (i + 1))) → P (if x then past f s (i + 1) or_else i)
      go true ex k = unfold if◌then◌or_else◌ in k (on i inside (ap f (sym first) ∙ ex) p)
      go false ex k = unfold if◌then◌or_else◌ in p

  pub run_to : (i j : ℕ) → j ≡ past f (drop i t) i → P i → P j
  run_to i j e p = rw e (run_past (drop i t) i refl p)

module _ (t : List ℕ) (start : ℕ) where
  pub reached_begun : ReadTo t start (begun start) start
  unfolding found
  reached_begun name m l k new = refl

  module _ (c : Cursor) (p : ℕ) where
    module _ (v : List ℕ) (n : ℕ) (d : Cursor) (i : ℕ) (a : Ahead t start c p v n d i) (h : i < length t) (next : Cursor) (e : tried t start d i ≡ On next) (u : List ℕ) (m : ℕ) (more : More (key_at t) v n u m) (with : whole d.state (at t i) ≡ Attribute → With (key_at t) (key_of (part t d.mark i)) v n u m) where
      other : (name : List ℕ) → (Kept (key_at t) u m (key_of name) → ⊥) → is_named t name d i ≡ false
      unfolding is_named if_attribute
      other name out = go (whole d.state (at t i)) with
        where
          go : (w : Whole) → (w ≡ Attribute → With (key_at t) (key_of (part t d.mark i)) v n u m) → if_attribute w (same_bytes (part t d.mark i) name) false ≡ false
          go Nothing f = refl
          go Attribute f = never (same_bytes (part t d.mark i) name) (λ s. out (rw (same_true (part t d.mark i) name s) at (f refl).is))
          go Target f = refl
          go Reference f = refl

      pub ahead_byte : Ahead t start c p u m next (i + 1)
      ahead_byte =
          record {
            rising = more.rising;
            fits = more.fits;
            on = omega (arith, a.on);
            reached = reached_byte t start d i h a.reached next (tried-moved t start d i next e);
            new = λ name new out. new_byte t start d i h a.reached next (tried-moved t start d i next e) name (a.new name new (λ k. out (more.kept (key_of name) k))) (other name out);
            same = λ all. a.same (λ name k. all name (more.kept (key_of name) k)) ∙ scan_on t start d i h (advance t start d i) refl next (advance-tried t start d i (λ w. once t start i d.mark (omega arith) (a.new (part t d.mark i) (all (part t d.mark i) (with w).is) (with w).was)) ∙ e);
          }

    pub ahead_none : (v : List ℕ) → ReadTo t start c p → Ahead t start c p v 0 c p
    ahead_none v r = record { rising = λ a b h l. absurd (omega arith); fits = omega arith; on = omega arith; reached = r; new = λ name new out. new; same = λ all. refl }

    pub ahead_sure : (v : List ℕ) (n : ℕ) (d : Cursor) (i : ℕ) → Ahead t start c p v n d i → ((name : List ℕ) → Kept (key_at t) v n (key_of name) → New t start p name) → Sure t start c p d i
    ahead_sure v n d i a new = record { on = a.on; reached = a.reached; same = a.same new }

    pub sure_here : ReadTo t start c p → Sure t start c p c p
    sure_here r = record { on = omega arith; reached = r; same = refl }

    pub sure_on : (d : Cursor) (i : ℕ) (f : Cursor) (j : ℕ) → Sure t start c p d i → Sure t start d i f j → Sure t start c p f j
    sure_on d i f j a b = record { on = omega (arith, a.on, b.on); reached = b.reached; same = a.same ∙ b.same }
