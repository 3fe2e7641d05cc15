-- Bytes passed together: each of the steps, and what the readers of a markup make of them. Assumes nothing.
use mathlib.Core.Path.{◌≡◌, ◌∙◌, refl, sym, ap}
use mathlib.Core.Bool.{true, false, false≢true}
use mathlib.Core.List.{List}
use Prim.Native.Nat.{ℕ, ◌+◌, ◌<◌, ◌≤◌}
use native.Mathlib.Omega.{arith}
use lib.ListN.{length, drop}
use borrow.Author.Tests.{lt-leb, ne_eqb}
use Rattle.base_words.specs.Pick.{if◌then◌or_else◌}
use Rattle.base_words.specs.Words.{at}
use Rattle.base_bytes.specs.Bytes.{between, is_letter, past}
use Rattle.base_bytes.proofs.PieceLaws.{by_order}
use Rattle.xml_characters.specs.Names.{is_blank, is_control, begins_name}
use Rattle.xml_scanner.specs.declared.InOpening.TheVariants.{Less}
use Rattle.xml_scanner.specs.declared.InTag.{InTag}
use Rattle.xml_scanner.specs.declared.InTag.TheVariants.{Name, Blank, Attribute as InAttribute, Equals, Value, Behind}
use Rattle.xml_scanner.specs.declared.Move.TheVariants.{On as Onward}
use Rattle.xml_scanner.specs.declared.State.TheVariants.{Begin, Opening, Tag}
use Rattle.xml_scanner.specs.Openings.{behind_less, in_opening}
use Rattle.xml_scanner.specs.Tags.{is_quote, behind_blank, equals, in_value, in_tag}
use Rattle.xml_scanner.specs.Moves.{at_begin, step}
use Rattle.xml_markup.specs.declared.Cursor.{Cursor}
use Rattle.xml_markup.specs.declared.Scan.TheVariants.{On}
use Rattle.xml_markup.specs.declared.Whole.{Whole}
use Rattle.xml_markup.specs.declared.Whole.TheVariants.{Nothing, Attribute}
use Rattle.xml_markup.specs.Tokens.{whole_in_tag, whole, move_to, moved, if_attribute, is_named, found_from, is_faulty}
use Rattle.xml_markup.specs.Markup.{advance, scan_from}
use Rattle.xml_markup.specs.Staying.{stays}
use Rattle.xml_markup.specs.Ahead.{ReadTo, is_faulty_else, tried, Ahead}
use Rattle.xml_markup.specs.Leaps.{Leads, here, byte}
use Rattle.xml_markup.proofs.TokenLaws.{found_on}
use Rattle.xml_markup.proofs.ScanLaws.{scan_on}
use Rattle.xml_markup.proofs.StayLaws.{high_control, in_state}
use Rattle.xml_markup.proofs.AheadLaws.{run_to, reached_byte, ahead_byte}

-- a byte that begins a name is none of those that are looked for before it
low_begins : (b : ℕ) → b < 58 → begins_name b ≡ false
unfolding begins_name is_letter between
low_begins b h = rw (lt-leb 97 b (omega arith), lt-leb 65 b (omega arith), ne_eqb b 95 (λ e. omega (arith, e)), ne_eqb b 58 (λ e. omega (arith, e)), lt-leb 128 b (omega arith))

high_begins : (b : ℕ) → begins_name b ≡ true → 58 ≤ b
high_begins b e = by_order 58 b (λ h. h) (λ h. absurd (false≢true (sym (low_begins b h) ∙ e)))

begins_blank : (b : ℕ) → 58 ≤ b → is_blank b ≡ false
unfolding is_blank
begins_blank b h = rw (ne_eqb b 32 (λ e. omega (arith, e)), ne_eqb b 9 (λ e. omega (arith, e)), ne_eqb b 13 (λ e. omega (arith, e)), ne_eqb b 10 (λ e. omega (arith, e)))

begins_mark : (b : ℕ) → begins_name b ≡ true → b ≡ 63 → ⊥
unfolding begins_name is_letter between
begins_mark b e q = false≢true (ap begins_name (sym q) ∙ e)

module _ (t : List ℕ) where
  pub leads_on : {c d f : Cursor} {i j k : ℕ} → Leads t c i d j → Leads t d j f k → Leads t c i f k
  leads_on here m = m
  leads_on (byte next h w o g l) m = byte next h w o g (leads_on l m)

  -- what holds behind each such byte holds behind all of them
  pub leads_to : (P : Cursor → ℕ → Type 0) → ((c next : Cursor) (i : ℕ) → i < length t → whole c.state (at t i) ≡ Nothing → is_control (at t i) ≡ false → moved c (at t i) i (i + 1) ≡ On next → P c i → P next (i + 1)) → {c d : Cursor} {i j : ℕ} → Leads t c i d j → P c i → P d j
  leads_to P on here p = p
  leads_to P on (byte next h w o g l) p = leads_to P on l (on _ next _ h w o g p)

  pub leads_stay : (c : Cursor) (i j : ℕ) → j ≡ past (stays c.state) (drop i t) i → Leads t c i c j
  leads_stay c i j e =
      run_to t (stays c.state) (Leads t c i c)
      (λ k h s l. let x = in_state c.mark (at t k) k (k + 1) c.state s in leads_on l (byte c h x.nothing x.plain x.goes here))
      i j e here

  -- the steps
  one : (c next : Cursor) (i : ℕ) → i < length t → whole c.state (at t i) ≡ Nothing → is_control (at t i) ≡ false → moved c (at t i) i (i + 1) ≡ On next → Leads t c i next (i + 1)
  one c next i h w o g = byte next h w o g here

  module _ (mark i : ℕ) (h : i < length t) where
    pub opens_value : at t i ≡ 34 → Leads t (record { state = Tag Equals; mark = mark }) i (record { state = Tag (Value 34); mark = mark }) (i + 1)
    unfolding whole whole_in_tag is_control moved move_to step in_tag equals is_blank is_quote if◌then◌or_else◌
    opens_value e = one (record { state = Tag Equals; mark = mark }) (record { state = Tag (Value 34); mark = mark }) i h refl (rw e refl) (rw e refl)

    pub closes_value : at t i ≡ 34 → Leads t (record { state = Tag (Value 34); mark = mark }) i (record { state = Tag Behind; mark = mark }) (i + 1)
    unfolding whole whole_in_tag is_control moved move_to step in_tag in_value if◌then◌or_else◌
    closes_value e = one (record { state = Tag (Value 34); mark = mark }) (record { state = Tag Behind; mark = mark }) i h refl (rw e refl) (rw e refl)

    pub passes_blank : (s : InTag) → in_tag s 32 ≡ Onward (Tag Blank) → whole_in_tag s 32 ≡ Nothing → at t i ≡ 32 → Leads t (record { state = Tag s; mark = mark }) i (record { state = Tag Blank; mark = mark }) (i + 1)
    unfolding whole is_control is_blank moved move_to step
    passes_blank s g w e = one (record { state = Tag s; mark = mark }) (record { state = Tag Blank; mark = mark }) i h (rw e w) (rw e refl) (rw (e, g) refl)

    pub begins_attribute : begins_name (at t i) ≡ true → Leads t (record { state = Tag Blank; mark = mark }) i (record { state = Tag InAttribute; mark = i }) (i + 1)
    unfolding whole whole_in_tag moved move_to step in_tag behind_blank if◌then◌or_else◌
    begins_attribute e =
        let l = high_begins (at t i) e in
        one (record { state = Tag Blank; mark = mark }) (record { state = Tag InAttribute; mark = i }) i h refl (high_control (at t i) (omega (arith, l))) (rw (begins_blank (at t i) l, e) refl)

    pub opens_markup_lem : at t i ≡ 60 → Leads t (record { state = Begin; mark = mark }) i (record { state = Opening Less; mark = mark }) (i + 1)
    unfolding whole is_control moved move_to step at_begin if◌then◌or_else◌
    opens_markup_lem e = one (record { state = Begin; mark = mark }) (record { state = Opening Less; mark = mark }) i h refl (rw e refl) (rw e refl)

    pub begins_tag : begins_name (at t i) ≡ true → Leads t (record { state = Opening Less; mark = mark }) i (record { state = Tag Name; mark = mark }) (i + 1)
    unfolding whole moved move_to step in_opening behind_less if◌then◌or_else◌
    begins_tag e =
        let l = high_begins (at t i) e in
        one (record { state = Opening Less; mark = mark }) (record { state = Tag Name; mark = mark }) i h refl (high_control (at t i) (omega (arith, l)))
        (rw (ne_eqb (at t i) 47 (λ q. omega (arith, l, q)), ne_eqb (at t i) 33 (λ q. omega (arith, l, q)), ne_eqb (at t i) 63 (begins_mark (at t i) e), e) refl)

  -- what such a byte does to the readers
  module _ (c : Cursor) (i : ℕ) (w : whole c.state (at t i) ≡ Nothing) where
    names_none : (name : List ℕ) → is_named t name c i ≡ false
    unfolding is_named if_attribute
    names_none name = rw w refl

    no_attribute : whole c.state (at t i) ≡ Attribute → ⊥
    unfolding if_attribute
    no_attribute a = false≢true (ap (λ (x : Whole). if_attribute x true false) (sym w ∙ a))

    module _ (start : ℕ) (h : i < length t) (o : is_control (at t i) ≡ false) (next : Cursor) (g : moved c (at t i) i (i + 1) ≡ On next) where
      tried_on : tried t start c i ≡ On next
      unfolding tried is_faulty_else if◌then◌or_else◌
      tried_on = rw (lt-leb (length t) i h, w, o, g) refl

      advance_on : advance t start c i ≡ On next
      unfolding advance is_faulty if◌then◌or_else◌
      advance_on = rw (lt-leb (length t) i h, w, o, g) refl

  pub on_leap : {c d : Cursor} {i j : ℕ} → Leads t c i d j → i ≤ j
  on_leap {i = i} l = leads_to (λ (f : Cursor) (k : ℕ). i ≤ k) (λ f next k h w o g p. omega (arith, p)) l (omega arith)

  pub found_leap : (name : List ℕ) {c d : Cursor} {i j : ℕ} → Leads t c i d j → found_from t name c (drop i t) i ≡ found_from t name d (drop j t) j
  found_leap name {c = c} {i = i} l =
      leads_to (λ (f : Cursor) (k : ℕ). found_from t name c (drop i t) i ≡ found_from t name f (drop k t) k)
      (λ f next k h w o g p. p ∙ found_on t name f k h (names_none f k w name) (at t k) refl (moved f (at t k) k (k + 1)) refl next g)
      l refl

  module _ (start : ℕ) where
    pub scan_leap : {c d : Cursor} {i j : ℕ} → Leads t c i d j → scan_from t start c (drop i t) i ≡ scan_from t start d (drop j t) j
    scan_leap {c = c} {i = i} l =
        leads_to (λ (f : Cursor) (k : ℕ). scan_from t start c (drop i t) i ≡ scan_from t start f (drop k t) k)
        (λ f next k h w o g p. p ∙ scan_on t start f k h (advance t start f k) refl next (advance_on f k w start h o next g))
        l refl

    pub reached_leap : {c d : Cursor} {i j : ℕ} → Leads t c i d j → ReadTo t start c i → ReadTo t start d j
    reached_leap l = leads_to (ReadTo t start) (λ f next k h w o g r. reached_byte t start f k h r next g) l

    pub ahead_leap : (c : Cursor) (p : ℕ) (v : List ℕ) (n : ℕ) {d f : Cursor} {i j : ℕ} → Leads t d i f j → Ahead t start c p v n d i → Ahead t start c p v n f j
    ahead_leap c p v n l =
        leads_to (Ahead t start c p v n)
        (λ f next k h w o g a. ahead_byte t start c p v n f k a h next (tried_on f k w start h o next g) v n (record { rising = a.rising; fits = a.fits; kept = λ x y. y }) (λ e. absurd (no_attribute f k w e)))
        l
