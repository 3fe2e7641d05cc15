-- A markup depends on the bytes from its own place on alone, but for instructions, which are not read here: it is read at any place of a text as at the start of its bytes. Assumes nothing.
use Rattle.std.specs.Prelude.{Option, Some, None}
use mathlib.Core.Path.{◌≡◌, ◌∙◌, refl, sym, ap, subst}
use mathlib.Core.Bool.{Bool, true, false, not, false≢true}
use mathlib.Core.List.{List, [], ◌∷◌, ◌++◌, append-nil}
use Prim.Native.Nat.{ℕ, ◌+◌, ◌-◌, ◌<◌, ◌≤◌}
use native.Mathlib.Omega.{arith}
use native.Mathlib.Nat.{add-zero}
use lib.Dec.{leb}
use lib.ListN.{length, take, drop, length-drop, length-append}
use lib.Seq.{drop-drop, drop_at, take-add, take-append-le, length-take-le}
use borrow.Author.Tests.{lt-leb}
use Rattle.base_words.specs.Pick.{if◌then◌or_else◌}
use Rattle.base_words.specs.Words.{at, part}
use Rattle.xml_characters.specs.Names.{is_control}
use Rattle.xml_characters.specs.References.{character_of, is_character}
use Rattle.xml_scanner.specs.declared.Sort.{Sort}
use Rattle.xml_scanner.specs.declared.State.TheVariants.{Begin}
use Rattle.xml_scanner.specs.declared.Move.{Move}
use Rattle.xml_scanner.specs.declared.Move.TheVariants.{On as Onward, Next, Close, Here, Back}
use Rattle.xml_scanner.specs.Moves.{step}
use Rattle.xml_markup.specs.declared.Whole.{Whole}
use Rattle.xml_markup.specs.declared.Whole.TheVariants.{Nothing, Attribute, Target, Reference}
use Rattle.xml_markup.specs.declared.Cursor.{Cursor}
use Rattle.xml_markup.specs.declared.Scan.{Scan}
use Rattle.xml_markup.specs.declared.Scan.TheVariants.{On, Past, Fault}
use Rattle.xml_markup.specs.Tokens.{whole, move_to, moved, if_on, is_named, found_from, begun, found, is_found, twice, is_faulty}
use Rattle.xml_markup.specs.Markup.{advance, scan_from, scan, opens_markup, marked, placed, markup}
use Rattle.proof_local.proofs.Stands.{inside, byte, piece, within, first}

-- the same, p places further
abbrev pub shifted : ℕ → Cursor → Cursor
shifted p c = record { state = c.state; mark = p + c.mark }

abbrev pub shifted_scan : ℕ → Scan → Scan
shifted_scan p (On c) = On (shifted p c)
shifted_scan p (Past sort q) = Past sort (p + q)
shifted_scan p (Fault q) = Fault (p + q)

abbrev pub shifted_found : ℕ → Option ℕ → Option ℕ
shifted_found p (Some i) = Some (p + i)
shifted_found p None = None

move_shifted : (p mark i : ℕ) (m : Move) → move_to m (p + mark) (p + i) (p + i + 1) ≡ shifted_scan p (move_to m mark i (i + 1))
unfolding move_to
move_shifted p mark i (Onward s) = refl
move_shifted p mark i (Next s) = refl
move_shifted p mark i (Close sort) = ap (Past sort) (omega arith)
move_shifted p mark i Here = refl
move_shifted p mark i Back = refl

moved_shifted : (p b i : ℕ) (c : Cursor) → moved (shifted p c) b (p + i) (p + i + 1) ≡ shifted_scan p (moved c b i (i + 1))
unfolding moved
moved_shifted p b i c = move_shifted p c.mark i (step c.state b)

-- AN ATTRIBUTE'S NAME. In bytes that stand at p.
module _ (t w x : List ℕ) (p : ℕ) (stands : drop p t ≡ w ++ x) (name : List ℕ) where
  named_shifted : (c : Cursor) (i : ℕ) → i < length w → is_named t name (shifted p c) (p + i) ≡ is_named w name c i
  unfolding is_named
  named_shifted c i h = rw (byte t w x p stands i h, piece t w x p stands c.mark i (omega arith)) refl

  pub found_shifted : (s : List ℕ) (c : Cursor) (i : ℕ) → i + length s ≡ length w → found_from t name (shifted p c) s (p + i) ≡ shifted_found p (found_from w name c s i)
  unfolding found_from
  found_shifted [] c i h = refl
  found_shifted (b ∷ s) c i h =
      rw (named_shifted c i (omega arith), byte t w x p stands i (omega arith))
      (ap (λ (m : Scan). if is_named w name c i then Some (p + i) or_else if_on m (λ next. found_from t name next s (p + i + 1)) None) (moved_shifted p (at w i) i c)
      ∙ go (is_named w name c i) (moved c (at w i) i (i + 1)) (λ next. ap (found_from t name (shifted p next) s) (omega arith) ∙ found_shifted s next (i + 1) (omega arith)))
    where
      go : (n : Bool) (m : Scan) → ((next : Cursor) → found_from t name (shifted p next) s (p + i + 1) ≡ shifted_found p (found_from w name next s (i + 1))) → (if n then Some (p + i) or_else if_on (shifted_scan p m) (λ next. found_from t name next s (p + i + 1)) None) ≡ shifted_found p (if n then Some i or_else if_on m (λ next. found_from w name next s (i + 1)) None)
      go true m k = unfold if◌then◌or_else◌ in refl
      go false (On next) k = unfold if◌then◌or_else◌ if_on in k next
      go false (Past sort q) k = unfold if◌then◌or_else◌ if_on in refl
      go false (Fault q) k = unfold if◌then◌or_else◌ if_on in refl

nowhere : (j : ℕ) → None ≡ Some j → ⊥
unfolding is_found
nowhere j e = false≢true (ap is_found e)

-- more bytes do not undo what was found
pub found_further : (t name x : List ℕ) (j : ℕ) (s : List ℕ) (c : Cursor) (i : ℕ) → found_from t name c s i ≡ Some j → found_from t name c (s ++ x) i ≡ Some j
unfolding found_from
found_further t name x j [] c i e = absurd (nowhere j e)
found_further t name x j (b ∷ s) c i e = go (is_named t name c i) (moved c (at t i) i (i + 1)) e (λ next. found_further t name x j s next (i + 1))
  where
    go : (n : Bool) (m : Scan) → (if n then Some i or_else if_on m (λ next. found_from t name next s (i + 1)) None) ≡ Some j → ((next : Cursor) → found_from t name next s (i + 1) ≡ Some j → found_from t name next (s ++ x) (i + 1) ≡ Some j) → (if n then Some i or_else if_on m (λ next. found_from t name next (s ++ x) (i + 1)) None) ≡ Some j
    go true m q k = unfold if◌then◌or_else◌ in q
    go false (On next) q k = unfold if◌then◌or_else◌ if_on in k next q
    go false (Past sort r) q k = unfold if◌then◌or_else◌ if_on in q
    go false (Fault r) q k = unfold if◌then◌or_else◌ if_on in q

begun_at : (p : ℕ) → begun p ≡ shifted p (begun 0)
begun_at p = ap (λ (n : ℕ). record { state = Begin; mark = n }) (sym (add-zero p))

module _ (t w x : List ℕ) (p : ℕ) (stands : drop p t ≡ w ++ x) (name : List ℕ) where
  pub found_at : (j : ℕ) → found w name 0 ≡ Some j → found t name p ≡ Some (p + j)
  unfolding found
  found_at j e =
      ap (λ (s : List ℕ). found_from t name (begun p) s p) stands
      ∙ ap (λ (c : Cursor). found_from t name c (w ++ x) p) (begun_at p)
      ∙ ap (found_from t name (shifted p (begun 0)) (w ++ x)) (sym (add-zero p))
      ∙ found_further t name x (p + j) w (shifted p (begun 0)) (p + 0) (found_shifted t w x p stands name w (begun 0) 0 (omega arith) ∙ ap (shifted_found p) e)

-- the same in all bytes up to the end of the text
pub found-whole : (t v name : List ℕ) (p : ℕ) → drop p t ≡ v → found t name p ≡ shifted_found p (found v name 0)
unfolding found
found-whole t v name p e =
    ap (λ (s : List ℕ). found_from t name (begun p) s p) e
    ∙ ap (λ (c : Cursor). found_from t name c v p) (begun_at p)
    ∙ ap (found_from t name (shifted p (begun 0)) v) (sym (add-zero p))
    ∙ found_shifted t v [] p (e ∙ sym (append-nil v)) name v (begun 0) 0 (omega arith)

-- A WHOLE TOKEN. v stands at p in u, and is its end.
module _ (u v : List ℕ) (p : ℕ) (long : p ≤ length u) (ends : drop p u ≡ v) (m : ℕ) where
  beginning : drop p (part u 0 (p + m)) ≡ part v 0 m
  beginning =
      ap (λ (n : ℕ). drop p (take n u)) (let e : p + m - 0 ≡ p + m = omega arith in e)
      ∙ ap (drop p) (take-add p m u)
      ∙ drop_at (take p u) (take m (drop p u)) p (length-take-le p u long)
      ∙ ap (take m) ends
      ∙ ap (λ (n : ℕ). take n v) (let e : m ≡ m - 0 = omega arith in e)

  ending : part u (p + m) (length u) ≡ part v m (length v)
  ending =
      ap (λ (n : ℕ). take n (drop (p + m) u)) (let e : length u - (p + m) ≡ length v - m = omega (arith, length-drop p u, ap length ends) in e)
      ∙ ap (take (length v - m)) (sym (drop-drop m p u) ∙ ap (drop m) ends)

  found_is : (f : Option ℕ) → is_found (shifted_found p f) ≡ is_found f
  unfolding is_found
  found_is (Some i) = refl
  found_is None = refl

  twice_shifted : twice u p (p + m) ≡ twice v 0 m
  unfolding twice
  twice_shifted =
      rw ending
      (ap is_found (found-whole (part u 0 (p + m)) (part v 0 m) (part v m (length v)) p beginning) ∙ found_is (found (part v 0 m) (part v m (length v)) 0))

-- the target of an instruction
abbrev pub is_target : Whole → Bool
is_target Nothing = false
is_target Attribute = false
is_target Target = true
is_target Reference = false

-- A MARKUP. Bytes that stand at p.
module _ (t w x : List ℕ) (p : ℕ) (stands : drop p t ≡ w ++ x) where
  module _ (i : ℕ) (h : i < length w) where
    before : part t 0 (p + i) ≡ take p t ++ part w 0 i
    before =
        ap (λ (n : ℕ). take n t) (let e : p + i - 0 ≡ p + i = omega arith in e)
        ∙ take-add p i t
        ∙ ap (λ (l : List ℕ). take p t ++ take i l) stands
        ∙ ap (λ (l : List ℕ). take p t ++ l) (take-append-le i w x (omega arith))
        ∙ ap (λ (n : ℕ). take p t ++ take n w) (let e : i ≡ i - 0 = omega arith in e)

    reached : length (take p t) ≡ p
    reached = length-take-le p t (omega (arith, inside t w x p stands i h))

    as_long : p ≤ length (part t 0 (p + i))
    as_long = omega (arith, reached, ap length before, length-append (take p t) (part w 0 i))

    left : drop p (part t 0 (p + i)) ≡ part w 0 i
    left = ap (drop p) before ∙ drop_at (take p t) (part w 0 i) p reached

    faulty_shifted : (m : ℕ) (k : Whole) → is_target k ≡ false → is_faulty k (part t 0 (p + i)) p (p + m) ≡ is_faulty k (part w 0 i) 0 m
    unfolding is_faulty
    faulty_shifted m Nothing e = refl
    faulty_shifted m Attribute e = twice_shifted (part t 0 (p + i)) (part w 0 i) p as_long left m
    faulty_shifted m Target e = absurd (false≢true (sym e))
    faulty_shifted m Reference e = ap (λ (l : List ℕ). not (is_character (character_of l))) (ending (part t 0 (p + i)) (part w 0 i) p as_long left m)

    choice_shifted : (f c : Bool) (m : ℕ) (r s : Scan) → r ≡ shifted_scan p s → (if f then Fault (p + m) or_else if c then Fault (p + i) or_else r) ≡ shifted_scan p (if f then Fault m or_else if c then Fault i or_else s)
    unfolding if◌then◌or_else◌
    choice_shifted true c m r s e = refl
    choice_shifted false true m r s e = refl
    choice_shifted false false m r s e = e

    no_end : {r : Scan} (b : Bool) (q : ℕ) → b ≡ false → (if b then Fault q or_else r) ≡ r
    unfolding if◌then◌or_else◌
    no_end b q e = rw e refl

    pub advance_shifted : (c : Cursor) → is_target (whole c.state (at w i)) ≡ false → advance t p (shifted p c) (p + i) ≡ shifted_scan p (advance w 0 c i)
    unfolding advance
    advance_shifted c e =
        no_end (leb (length t) (p + i)) (p + i) (lt-leb (length t) (p + i) (inside t w x p stands i h))
        ∙ rw (byte t w x p stands i h, faulty_shifted c.mark (whole c.state (at w i)) e)
        (choice_shifted (is_faulty (whole c.state (at w i)) (part w 0 i) 0 c.mark) (is_control (at w i)) c.mark (moved (shifted p c) (at w i) (p + i) (p + i + 1)) (moved c (at w i) i (i + 1)) (moved_shifted p (at w i) i c))
        ∙ ap (shifted_scan p) (sym (no_end (leb (length w) i) i (lt-leb (length w) i h)))

-- bytes read from their start on: what holds behind them, or the markup that they are; an instruction is not read
unfoldable pub read_to : List ℕ → Cursor → List ℕ → ℕ → Scan
read_to w c [] i = On c
read_to w c (b ∷ s) i = if is_target (whole c.state (at w i)) then Fault i or_else if_on (advance w 0 c i) (λ next. read_to w next s (i + 1)) (advance w 0 c i)

module _ (t w x : List ℕ) (p : ℕ) (stands : drop p t ≡ w ++ x) where
  abbrev As : Scan → Scan → Type 0
  As y (On next) = y ≡ scan_from t p (shifted p next) x (p + length w)
  As y (Past sort q) = y ≡ Past sort (p + q)
  As y (Fault q) = Unit {0}

  read_as : (s : List ℕ) (c : Cursor) (i : ℕ) → i + length s ≡ length w → As (scan_from t p (shifted p c) (s ++ x) (p + i)) (read_to w c s i)
  unfolding read_to
  read_as [] c i h = ap (scan_from t p (shifted p c) x) (omega arith)
  read_as (b ∷ s) c i h = go (is_target (whole c.state (at w i))) refl (advance w 0 c i) refl (λ next. read_as s next (i + 1) (omega arith))
    where
      one : is_target (whole c.state (at w i)) ≡ false → scan_from t p (shifted p c) (b ∷ (s ++ x)) (p + i) ≡ if_on (shifted_scan p (advance w 0 c i)) (λ next. scan_from t p next (s ++ x) (p + i + 1)) (shifted_scan p (advance w 0 c i))
      one e = unfold scan_from in ap (λ (a : Scan). if_on a (λ next. scan_from t p next (s ++ x) (p + i + 1)) a) (advance_shifted t w x p stands i (omega arith) c e)

      go : (g : Bool) → is_target (whole c.state (at w i)) ≡ g → (a : Scan) → advance w 0 c i ≡ a → ((next : Cursor) → As (scan_from t p (shifted p next) (s ++ x) (p + (i + 1))) (read_to w next s (i + 1))) → As (scan_from t p (shifted p c) (b ∷ (s ++ x)) (p + i)) (if g then Fault i or_else if_on a (λ next. read_to w next s (i + 1)) a)
      go true eg a ea k = unfold if◌then◌or_else◌ in tt
      go false eg (On next) ea k =
          unfold if◌then◌or_else◌ if_on in
          subst (λ (y : Scan). As y (read_to w next s (i + 1)))
          (sym (one eg ∙ ap (λ (a : Scan). if_on (shifted_scan p a) (λ next. scan_from t p next (s ++ x) (p + i + 1)) (shifted_scan p a)) ea ∙ ap (scan_from t p (shifted p next) (s ++ x)) (omega arith)))
          (k next)
      go false eg (Past sort q) ea k = unfold if◌then◌or_else◌ if_on in one eg ∙ ap (λ (a : Scan). if_on (shifted_scan p a) (λ next. scan_from t p next (s ++ x) (p + i + 1)) (shifted_scan p a)) ea
      go false eg (Fault q) ea k = unfold if◌then◌or_else◌ if_on in tt

  started : scan t p ≡ scan_from t p (shifted p (begun 0)) (w ++ x) (p + 0)
  unfolding scan
  started =
      ap (λ (s : List ℕ). scan_from t p (begun p) s p) stands
      ∙ ap (λ (c : Cursor). scan_from t p c (w ++ x) p) (begun_at p)
      ∙ ap (scan_from t p (shifted p (begun 0)) (w ++ x)) (sym (add-zero p))

  pub scan_on : (next : Cursor) → read_to w (begun 0) w 0 ≡ On next → scan t p ≡ scan_from t p (shifted p next) x (p + length w)
  scan_on next e = started ∙ subst (As (scan_from t p (shifted p (begun 0)) (w ++ x) (p + 0))) e (read_as w (begun 0) 0 (omega arith))

  pub scan_past : (sort : Sort) (q : ℕ) → read_to w (begun 0) w 0 ≡ Past sort q → scan t p ≡ Past sort (p + q)
  scan_past sort q e = started ∙ subst (As (scan_from t p (shifted p (begun 0)) (w ++ x) (p + 0))) e (read_as w (begun 0) 0 (omega arith))

-- what opens a markup is read as one
pub markup_opened : (t s : List ℕ) (b p : ℕ) → drop p t ≡ b ∷ s → opens_markup b ≡ true → markup t p ≡ placed (scan t p)
unfolding markup if◌then◌or_else◌
markup_opened t s b p e o = rw (lt-leb (length t) p (within t s b p e), first t s b p e, o) refl

pub markup_past : (t w x : List ℕ) (b p : ℕ) (sort : Sort) (q : ℕ) → drop p t ≡ (b ∷ w) ++ x → opens_markup b ≡ true → read_to (b ∷ w) (begun 0) (b ∷ w) 0 ≡ Past sort q → markup t p ≡ marked sort (p + q)
unfolding placed
markup_past t w x b p sort q e o r = markup_opened t (w ++ x) b p e o ∙ ap placed (scan_past t (b ∷ w) x p e sort q r)
