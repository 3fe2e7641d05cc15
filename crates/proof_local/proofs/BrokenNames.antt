-- A TAG WHOSE NAME IS CUT OFF by the end of the text: the markup there is a fault at the end. Assumes nothing.
use mathlib.Core.Path.{◌≡◌, ◌∙◌, refl, sym, ap}
use mathlib.Core.Bool.{Bool, true, false, not, false≢true}
use mathlib.Core.List.{List, [], ◌∷◌}
use Prim.Native.Nat.{ℕ, ◌+◌, ◌<◌, ◌≤◌}
use native.Mathlib.Omega.{arith}
use lib.Dec.{leb, eqb}
use lib.ListN.{length, take, drop, length-drop}
use borrow.Author.Tests.{lt-leb, eqb-true, leb-false}
use Rattle.std.proofs.lemmas.Bool.{false_from_ne_true}
use Rattle.base_words.specs.Pick.{if◌then◌or_else◌}
use Rattle.base_words.specs.Words.{at}
use Rattle.base_bytes.specs.Bytes.{past, is_letter, between}
use Rattle.base_bytes.proofs.PastLaws.{past_more, past_within}
use Rattle.base_bytes.proofs.PieceLaws.{by_order}
use Rattle.xml_characters.specs.Names.{is_control, begins_name, is_name}
use Rattle.xml_scanner.specs.declared.InOpening.TheVariants.{Less}
use Rattle.xml_scanner.specs.declared.InTag.TheVariants.{Name}
use Rattle.xml_scanner.specs.declared.InEnd.TheVariants.{Opened, Name as EndName}
use Rattle.xml_scanner.specs.declared.State.{State}
use Rattle.xml_scanner.specs.declared.State.TheVariants.{Begin, Opening, Tag, EndTag}
use Rattle.xml_scanner.specs.declared.Move.TheVariants.{On as Onward}
use Rattle.xml_scanner.specs.Moves.{step, at_begin}
use Rattle.xml_scanner.specs.Openings.{in_opening, behind_less}
use Rattle.xml_scanner.specs.Tags.{in_end}
use Rattle.xml_markup.specs.declared.Cursor.{Cursor}
use Rattle.xml_markup.specs.declared.Scan.TheVariants.{On, Fault}
use Rattle.xml_markup.specs.declared.Whole.TheVariants.{Nothing}
use Rattle.xml_markup.specs.Tokens.{whole, move_to, moved, is_faulty}
use Rattle.xml_markup.specs.Staying.{stays, stays_in_tag, stays_in_end}
use Rattle.xml_markup.specs.declared.Class.TheVariants.{Name as NameBytes}
use Rattle.xml_markup.specs.declared.Opener.{Opener}
use Rattle.xml_markup.specs.declared.Opener.TheVariants.{Start, End, Other}
use Rattle.xml_scanner.specs.declared.Sort.TheVariants.{Fault as AFault}
use Rattle.xml_markup.specs.Spans.{is_of, run, has_second, name_from, name_at, opens_name, second, opener}
use Rattle.xml_markup.specs.Markup.{advance, scan_from, scan, opens_markup, marked, placed, markup}
use Rattle.xml_markup.proofs.ScanLaws.{scan_on, scan_end}
use Rattle.xml_markup.proofs.StayLaws.{scan_stay, in_state}
use Rattle.proof_local.proofs.Beginnings.{long, byte, next_is, next_in}
use Rattle.proof_local.proofs.Names.{from_same, cut_name}

abbrev pub here : State → ℕ → Cursor
here s m = record { state = s; mark = m }

-- one byte that is no control byte and ends no token
moves : (u : List ℕ) (start mark i : ℕ) (s : State) (v : State) → i < length u → whole s (at u i) ≡ Nothing → is_control (at u i) ≡ false → step s (at u i) ≡ Onward v → On (here v mark) ≡ advance u start (here s mark) i
unfolding advance is_faulty moved move_to if◌then◌or_else◌
moves u start mark i s v h w c m = rw (lt-leb (length u) i h, w, c, m) refl

pub goes : (u : List ℕ) (start mark i : ℕ) (s : State) (v : State) → i < length u → whole s (at u i) ≡ Nothing → is_control (at u i) ≡ false → step s (at u i) ≡ Onward v → scan_from u start (here s mark) (drop i u) i ≡ scan_from u start (here v mark) (drop (i + 1) u) (i + 1)
goes u start mark i s v h w c m = scan_on u start (here s mark) i h (On (here v mark)) (moves u start mark i s v h w c m) (here v mark) refl

-- a byte that begins a name is none of the signs, no control byte, and of a name
other_byte : (b k : ℕ) → begins_name b ≡ true → begins_name k ≡ false → eqb b k ≡ false
other_byte b k e f = false_from_ne_true (eqb b k) (λ q. false≢true (sym f ∙ ap begins_name (sym (eqb-true b k q)) ∙ e))

pub of_name : (b : ℕ) → begins_name b ≡ true → is_name b ≡ true
unfolding is_name
of_name b e = rw e refl

plain : (b : ℕ) → begins_name b ≡ true → is_control b ≡ false
plain b e = (in_state 0 b 0 0 (Tag Name) (unfold stays stays_in_tag in of_name b e)).plain

tag_step : (b : ℕ) → begins_name b ≡ true → step (Opening Less) b ≡ Onward (Tag Name)
unfolding step in_opening behind_less if◌then◌or_else◌ is_letter between begins_name
tag_step b e = rw (other_byte b 47 e refl, other_byte b 33 e refl, other_byte b 63 e refl, e) refl

end_step : (b : ℕ) → begins_name b ≡ true → step (EndTag Opened) b ≡ Onward (EndTag EndName)
unfolding step in_end if◌then◌or_else◌
end_step b e = rw e refl

alike : (f g : ℕ → Bool) → ((b : ℕ) → f b ≡ g b) → (w : List ℕ) (j : ℕ) → past f w j ≡ past g w j
unfolding past
alike f g e [] j = refl
alike f g e (b ∷ w) j = rw (e b, alike f g e w (j + 1)) refl

pub run_more : (u : List ℕ) (i : ℕ) → i < length u → is_name (at u i) ≡ true → run NameBytes u i ≡ past (is_of NameBytes) (drop (i + 1) u) (i + 1)
unfolding run is_of
run_more u i h e = past_more (is_of NameBytes) u i h e

module _ (u : List ℕ) (start mark : ℕ) where
  -- at the end; in a name that goes up to it
  pub at_end : (s : State) (i : ℕ) → i ≡ length u → scan_from u start (here s mark) (drop i u) i ≡ Fault (length u)
  at_end s i e = scan_end u start (here s mark) i (omega (arith, e)) ∙ ap Fault e

  in_name : (s : State) (i : ℕ) → ((b : ℕ) → stays s b ≡ is_name b) → i ≤ length u → length u ≤ past (is_of NameBytes) (drop i u) i → scan_from u start (here s mark) (drop i u) i ≡ Fault (length u)
  in_name s i like l k = scan_stay u start (here s mark) i (length u) ends ∙ at_end s (length u) refl
    where
      ends : length u ≡ past (stays s) (drop i u) i
      ends = omega (arith, k, l, alike (stays s) (is_of NameBytes) (λ b. unfold is_of in like b) (drop i u) i, past_within (is_of NameBytes) (drop i u) i, length-drop i u)

  -- from the first byte of the name on
  from_name : (s v : State) (i : ℕ) → ((b : ℕ) → begins_name b ≡ true → step s b ≡ Onward v) → ((b : ℕ) → whole s b ≡ Nothing) → ((b : ℕ) → stays v b ≡ is_name b) → i ≤ length u → length u ≤ run NameBytes u i → (i < length u → begins_name (at u i) ≡ true) → scan_from u start (here s mark) (drop i u) i ≡ Fault (length u)
  from_name s v i move none like l k b =
      by_order (length u) i
      (λ h. at_end s i (omega arith))
      (λ h.
      goes u start mark i s v h (none (at u i)) (plain (at u i) (b h)) (move (at u i) (b h))
      ∙ in_name v (i + 1) like (omega arith) (omega (arith, k, run_more u i h (of_name (at u i) (b h)))))

-- WHAT A TAG OPENS WITH
abbrev pub is_other : Opener → Bool
is_other Start = false
is_other End = false
is_other Other = true

abbrev is_end : Opener → Bool
is_end Start = false
is_end End = true
is_end Other = false

pub record Opens (t : List ℕ) (p : ℕ) : Type 0 where
  pub less : at t p ≡ 60
  pub ends : (name_at t p).to < length t
  pub name : begins_name (at t (name_from t p)) ≡ true

opens : (t : List ℕ) (p : ℕ) → opens_name t p ≡ true → Opens t p
unfolding opens_name name_at
opens t p e = go (eqb (at t p) 60) refl (leb (length t) (run NameBytes t (name_from t p))) refl e
  where
    go : (a : Bool) → eqb (at t p) 60 ≡ a → (b : Bool) → leb (length t) (run NameBytes t (name_from t p)) ≡ b → (if a then if b then false or_else begins_name (at t (name_from t p)) or_else false) ≡ true → Opens t p
    go true ea true eb h = absurd (false≢true (unfold if◌then◌or_else◌ in h))
    go true ea false eb h = record { less = eqb-true (at t p) 60 ea; ends = unfold name_at in leb-false (length t) (run NameBytes t (name_from t p)) eb; name = unfold if◌then◌or_else◌ in h }
    go false ea b eb h = absurd (false≢true (unfold if◌then◌or_else◌ in h))

-- a tag's: whole `<`name or `</`name, and whether there is a `/`
pub record Tagged (t : List ℕ) (p : ℕ) (slash : Bool) : Type 0 where
  pub opens : Opens t p
  pub second_is : eqb (second t p) 47 ≡ slash
  pub no_mark : eqb (second t p) 63 ≡ false

pub tagged : (t : List ℕ) (p : ℕ) → is_other (opener t p) ≡ false → Tagged t p (is_end (opener t p))
unfolding opener
tagged t p = go (opens_name t p) refl (eqb (second t p) 47) refl (eqb (second t p) 63) refl
  where
    go : (o : Bool) → opens_name t p ≡ o → (a : Bool) → eqb (second t p) 47 ≡ a → (b : Bool) → eqb (second t p) 63 ≡ b → is_other (if not o then Other or_else if a then End or_else if b then Other or_else Start) ≡ false → Tagged t p (is_end (if not o then Other or_else if a then End or_else if b then Other or_else Start))
    go false eo a ea b eb h = absurd (false≢true (sym (unfold if◌then◌or_else◌ in h)))
    go true eo true ea b eb h = unfold if◌then◌or_else◌ in record { opens = opens t p eo; second_is = ea; no_mark = rw (eqb-true (second t p) 47 ea) refl }
    go true eo false ea true eb h = absurd (false≢true (sym (unfold if◌then◌or_else◌ in h)))
    go true eo false ea false eb h = unfold if◌then◌or_else◌ in record { opens = opens t p eo; second_is = ea; no_mark = eb }

module _ (t : List ℕ) (n : ℕ) (inside : n ≤ length t) (p : ℕ) (h : p < n) (cut : n ≤ (name_at t p).to) where
  -- the bytes of the beginning
  from_plain : has_second (at (take n t) (p + 1)) ≡ false → name_from (take n t) p ≡ p + 1
  unfolding name_from if◌then◌or_else◌
  from_plain e = rw (next_in t n inside p h, e) refl

  from_slash : p + 1 < n → has_second (at (take n t) (p + 1)) ≡ true → name_from (take n t) p ≡ p + 2
  unfolding name_from if◌then◌or_else◌
  from_slash k e = rw (next_in t n inside p h, e, next_in t n inside (p + 1) k) (omega arith)

  name_ends : n ≤ run NameBytes (take n t) (name_from (take n t) p)
  name_ends = unfold name_at in cut_name t n inside p h cut

  first_step : at t p ≡ 60 → scan (take n t) p ≡ scan_from (take n t) p (here (Opening Less) p) (drop (p + 1) (take n t)) (p + 1)
  unfolding scan
  first_step e = goes (take n t) p p p Begin (Opening Less) (omega (arith, h, long t n inside)) (unfold whole in refl) (rw (byte t n inside p h, e) (unfold is_control in refl)) (rw (byte t n inside p h, e) (unfold step at_begin if◌then◌or_else◌ in refl))

  second-byte : second t p ≡ at t (p + 1)
  unfolding second
  second-byte = rw (next_is t n inside p (omega arith)) refl

  length_is : length (take n t) ≡ n
  length_is = long t n inside

  -- nothing behind the `<`
  only_less : at t p ≡ 60 → n ≤ p + 1 → scan (take n t) p ≡ Fault n
  only_less e k = first_step e ∙ at_end (take n t) p p (Opening Less) (p + 1) (omega (arith, k, h, length_is)) ∙ ap Fault length_is

  start_scan : Tagged t p false → p + 1 < n → scan (take n t) p ≡ Fault n
  start_scan g k =
      first_step g.opens.less
      ∙ from_name (take n t) p p (Opening Less) (Tag Name) (p + 1) tag_step (λ b. unfold whole in refl) (λ b. unfold stays stays_in_tag in refl) (omega (arith, k, length_is)) (omega (arith, length_is, reaches)) (λ l. ap begins_name (byte t n inside (p + 1) k ∙ ap (at t) (sym from)) ∙ g.opens.name)
      ∙ ap Fault length_is
    where
      none : has_second (at (take n t) (p + 1)) ≡ false
      none = unfold has_second in rw (byte t n inside (p + 1) k, ← second-byte, g.second_is, g.no_mark) refl

      from : name_from t p ≡ p + 1
      from = sym (from_same t n inside p h k) ∙ from_plain none

      reaches : n ≤ run NameBytes (take n t) (p + 1)
      reaches = rw (from_plain none) at name_ends

  end_scan : Tagged t p true → p + 1 < n → scan (take n t) p ≡ Fault n
  end_scan g k =
      first_step g.opens.less
      ∙ goes (take n t) p p (p + 1) (Opening Less) (EndTag Opened) (omega (arith, k, length_is)) (unfold whole in refl) (rw slash (unfold is_control in refl)) (rw slash (unfold step in_opening behind_less if◌then◌or_else◌ in refl))
      ∙ ap (λ (i : ℕ). scan_from (take n t) p (here (EndTag Opened) p) (drop i (take n t)) i) (let e : p + 1 + 1 ≡ p + 2 = omega arith in e)
      ∙ from_name (take n t) p p (EndTag Opened) (EndTag EndName) (p + 2) end_step (λ b. unfold whole in refl) (λ b. unfold stays stays_in_end in refl) (omega (arith, k, length_is)) (omega (arith, length_is, reaches)) (λ l. ap begins_name (byte t n inside (p + 2) (omega (arith, l, length_is)) ∙ ap (at t) (sym from)) ∙ g.opens.name)
      ∙ ap Fault length_is
    where
      slash : at (take n t) (p + 1) ≡ 47
      slash = byte t n inside (p + 1) k ∙ sym second-byte ∙ eqb-true (second t p) 47 g.second_is

      some : has_second (at (take n t) (p + 1)) ≡ true
      some = rw slash (unfold has_second in refl)

      from : name_from t p ≡ p + 2
      from = sym (from_same t n inside p h k) ∙ from_slash k some

      reaches : n ≤ run NameBytes (take n t) (p + 2)
      reaches = rw (from_slash k some) at name_ends

  broken_scan : (b : Bool) → Tagged t p b → scan (take n t) p ≡ Fault n
  broken_scan true g = by_order n (p + 1) (only_less g.opens.less) (end_scan g)
  broken_scan false g = by_order n (p + 1) (only_less g.opens.less) (start_scan g)

  is_scan : at t p ≡ 60 → markup (take n t) p ≡ placed (scan (take n t) p)
  unfolding markup opens_markup if◌then◌or_else◌
  is_scan e = rw (lt-leb (length (take n t)) p (omega (arith, h, length_is)), byte t n inside p h, e) refl

  -- THE LAW
  pub broken_name : is_other (opener t p) ≡ false → markup (take n t) p ≡ marked AFault n
  unfolding placed
  broken_name o = let g = tagged t p o in is_scan g.opens.less ∙ ap placed (broken_scan (is_end (opener t p)) g)

-- a start tag opens a markup
pub start_opens : (t : List ℕ) (p : ℕ) → opener t p ≡ Start → opens_markup (at t p) ≡ true
unfolding opens_markup
start_opens t p e = rw (tagged t p (rw e refl)).opens.less refl

pub end_opens : (t : List ℕ) (p : ℕ) → opener t p ≡ End → opens_markup (at t p) ≡ true
unfolding opens_markup
end_opens t p e = rw (tagged t p (rw e refl)).opens.less refl

pub tag_less : (t : List ℕ) (p : ℕ) → is_other (opener t p) ≡ false → at t p ≡ 60
tag_less t p e = (tagged t p e).opens.less
