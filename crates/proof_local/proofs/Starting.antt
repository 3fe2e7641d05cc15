-- WHERE A READER OF A LOG STARTS: in a beginning of a text as in the text, behind the same tag, or it is at fault at the end of the beginning; and behind the root's tag it stands as the law of one move asks. Assumes nothing.
use Rattle.std.specs.Prelude.{Ok, Err}
use mathlib.Core.Path.{◌≡◌, ◌∙◌, refl, sym, ap, subst}
use mathlib.Core.Bool.{Bool, true, false, false≢true}
use mathlib.Core.List.{List, [], ◌∷◌}
use Prim.Native.Nat.{ℕ, ◌-◌, ◌<◌, ◌≤◌}
use native.Mathlib.Omega.{arith}
use lib.Dec.{eqb, ltb}
use lib.ListN.{length, take, length-take}
use lib.Seq.{take_all, take-take}
use borrow.Author.Tests.{le-ltb, eqb-true, ltb-false}
use Rattle.base_words.specs.Pick.{if◌then◌or_else◌}
use Rattle.base_words.specs.Text.{bytes}
use Rattle.base_words.specs.Words.{part}
use Rattle.base_words.proofs.AllLaws.{and_left, and_right}
use Rattle.base_bytes.proofs.PieceLaws.{by_order}
use Rattle.base_bytes.specs.Bytes.{same_bytes}
use Rattle.xml_markup.specs.declared.Opener.TheVariants.{Start}
use Rattle.xml_markup.specs.Markup.{markup}
use Rattle.xml_markup.specs.Spans.{is_called, opener}
use Rattle.xml_markup.specs.Tokens.{byte_order_mark, first}
use Rattle.xml_skip.specs.declared.Tag.{Tag}
use Rattle.xml_skip.specs.declared.Tag.TheVariants.{Open, Empty, Fault as TagFault}
use Rattle.xml_skip.specs.Skipping.{tag_of, Reached, fault_at}
use Rattle.xml_skip.proofs.Laws.{Behind, tag_behind}
use Rattle.xml_document.specs.declared.Outside.{Outside}
use Rattle.xml_document.specs.declared.Outside.TheVariants.{Element, On as OutsideOn, Nothing, Fault as OutsideFault}
use Rattle.xml_document.specs.Document.{outside}
use Rattle.xml_document.specs.Around.{root_by, root_at}
use Rattle.xml_document.proofs.Laws.{outside_end}
use Rattle.log_text.specs.declared.Cursor.{Cursor}
use Rattle.log_text.specs.declared.Move.{Move}
use Rattle.log_text.specs.declared.Move.TheVariants.{On, Done, Fault}
use Rattle.log_text.specs.Cursors.{in_log}
use Rattle.log_text.specs.Logs.{log_most, begin_by, begin, start}
use Rattle.proof_local.proofs.Beginnings.{long, piece}
use Rattle.proof_local.proofs.Names.{called_same, name_after}
use Rattle.proof_local.proofs.BrokenNames.{start_opens}
use Rattle.proof_local.proofs.Parts.{EarlyTag, LateTag, CutTag, same_tag, broken_tag, tag_cut, tag_inside}
use Rattle.proof_local.proofs.Advances.{Late, Cut, same, broken}
use Rattle.proof_local.proofs.SameMoves.{early_same, well_same}
use Rattle.proof_local.proofs.Keeping.{OpenTag, Kept, opened_tag}
use Rattle.proof_local.proofs.Around.{From, CutAround, at_fault, whole_element, cut_element, cut_off, ended, around_cut, starts_there}
use Rattle.proof_local.proofs.StartNames.{some_name}
use Rattle.proof_local.proofs.Elements.{same_bytes_lem}

-- THE ROOT'S TAG
late_begin : (n : ℕ) (g : Tag) (p : ℕ) → LateTag n g → Late n (begin_by g p)
unfolding begin_by
late_begin n (Open q) p l = l
late_begin n (Empty q) p l = tt
late_begin n (TagFault q) p l = tt

begin_cut : (n : ℕ) (g k : Tag) (p : ℕ) → CutTag n g k → Cut n (begin_by g p) (begin_by k p)
unfolding begin_by
begin_cut n (Open q) k p (same_tag e l) = rw e (same refl l)
begin_cut n (Empty q) k p (same_tag e l) = rw e (same refl tt)
begin_cut n (TagFault q) k p (same_tag e l) = rw e (same refl tt)
begin_cut n g k p (broken_tag e l) = rw e (broken refl (late_begin n g p l))

late_behind : (n p : ℕ) (g : Tag) → n ≤ p → Behind p g → LateTag n g
late_behind n p (Open q) h b = omega (arith, h, b)
late_behind n p (Empty q) h b = omega (arith, h, b)
late_behind n p (TagFault q) h b = tt

module _ (t : List ℕ) (n : ℕ) (inside : n ≤ length t) where
  late_root : (r : ℕ) → LateTag n (tag_of (markup t r) r) → (b : Bool) → Late n (begin (if b then Ok r or_else fault_at r) t)
  unfolding begin if◌then◌or_else◌
  late_root r l true = late_begin n (tag_of (markup t r) r) r l
  late_root r l false = tt

  late_from : (x : Outside) → From n x → Late n (begin (root_by x (bytes "log") t) t)
  unfolding root_by
  late_from (Element r) f = late_root r (late_behind n r (tag_of (markup t r) r) f (tag_behind t r)) (is_called t r (bytes "log"))
  late_from (OutsideOn q) f = unfold begin in tt
  late_from Nothing f = unfold begin in tt
  late_from (OutsideFault q) f = unfold begin in tt

  root_by_lem : (x y : Outside) → CutAround t n x y → Cut n (begin (root_by x (bytes "log") t) t) (begin (root_by y (bytes "log") (take n t)) (take n t))
  unfolding root_by
  root_by_lem x y (at_fault q ex ey) = rw (ex, ey) (unfold begin in same refl tt)
  root_by_lem x y (whole_element r h ex ey o v) = rw (ex, ey, called_same t n inside r h v (bytes "log")) (go (is_called t r (bytes "log")))
    where
      go : (b : Bool) → Cut n (begin (if b then Ok r or_else fault_at r) t) (begin (if b then Ok r or_else fault_at r) (take n t))
      go true = unfold if◌then◌or_else◌ begin in begin_cut n (tag_of (markup t r) r) (tag_of (markup (take n t) r) r) r (tag_cut t n inside r h (start_opens t r o))
      go false = unfold if◌then◌or_else◌ begin in same refl tt
  root_by_lem x y (cut_element r h ex ey o l) = rw (ex, ey) (broken (unfold begin in refl) (late_root r l (is_called t r (bytes "log"))))
  root_by_lem x y (cut_off ey f) = rw ey (broken (unfold begin in refl) (late_from x f))
  root_by_lem x y (ended ey f) = rw ey (broken (unfold begin in ap Fault (long t n inside)) (late_from x f))

  root_cut : (f : ℕ) → first t ≡ f → first (take n t) ≡ f → f ≤ n → Cut n (begin (root_at (bytes "log") t) t) (begin (root_at (bytes "log") (take n t)) (take n t))
  unfolding root_at
  root_cut f ef eg h = rw (ef, eg) (root_by_lem (outside t f) (outside (take n t) f) (around_cut t n inside f h))

-- BEHIND IT
pub record Started (t : List ℕ) (c : Cursor) : Type 0 where
  pub root : ℕ
  pub behind : ℕ
  pub cursor : c ≡ in_log root behind
  pub opens : opener t root ≡ Start
  pub tag : tag_of (markup t root) root ≡ Open behind
  pub short : length t ≤ log_most

abbrev is_on : Move → Bool
is_on (On c) = true
is_on (Done c) = false
is_on (Fault q) = false

abbrev cursor_of : Move → Cursor
cursor_of (On c) = c
cursor_of (Done c) = c
cursor_of (Fault q) = in_log 0 0

-- it is never done there
abbrev is_done : Move → Bool
is_done (On c) = false
is_done (Done c) = true
is_done (Fault q) = false

done_tag : (c : Cursor) (g : Tag) (p : ℕ) → begin_by g p ≡ Done c → ⊥
unfolding begin_by
done_tag c (Open q) p e = false≢true (ap is_done e)
done_tag c (Empty q) p e = false≢true (ap is_done e)
done_tag c (TagFault q) p e = false≢true (ap is_done e)

done_begin : (t : List ℕ) (c : Cursor) (s : Reached) → begin s t ≡ Done c → ⊥
unfolding begin
done_begin t c (Ok p) e = done_tag c (tag_of (markup t p) p) p e
done_begin t c (Err q) e = false≢true (ap is_done e)

pub never_done : (t : List ℕ) (c : Cursor) → start t ≡ Done c → ⊥
unfolding start if◌then◌or_else◌
never_done t c e = go (ltb log_most (length t)) e
  where
    go : (b : Bool) → (if b then Fault 0 or_else begin (root_at (bytes "log") t) t) ≡ Done c → ⊥
    go true m = false≢true (ap is_done m)
    go false m = done_begin t c (root_at (bytes "log") t) m

module _ (t : List ℕ) (c : Cursor) where
  by_tag_lem : length t ≤ log_most → (r : ℕ) → opener t r ≡ Start → (g : Tag) → g ≡ tag_of (markup t r) r → begin_by g r ≡ On c → Started t c
  unfolding begin_by
  by_tag_lem h r o (Open q) e m = record { root = r; behind = q; cursor = sym (ap cursor_of m); opens = o; tag = sym e; short = h }
  by_tag_lem h r o (Empty q) e m = absurd (false≢true (ap is_on m))
  by_tag_lem h r o (TagFault q) e m = absurd (false≢true (ap is_on m))

  by_name : length t ≤ log_most → (r : ℕ) → opener t r ≡ Start → (b : Bool) → begin (if b then Ok r or_else fault_at r) t ≡ On c → Started t c
  unfolding begin if◌then◌or_else◌
  by_name h r o true m = by_tag_lem h r o (tag_of (markup t r) r) refl m
  by_name h r o false m = absurd (false≢true (ap is_on m))

  by_root : length t ≤ log_most → (x : Outside) → x ≡ outside t (first t) → begin (root_by x (bytes "log") t) t ≡ On c → Started t c
  unfolding root_by begin
  by_root h (Element r) e m = by_name h r (starts_there t (length t) (first t) r (omega arith) (sym e)) (is_called t r (bytes "log")) m
  by_root h (OutsideOn q) e m = absurd (false≢true (ap is_on m))
  by_root h Nothing e m = absurd (false≢true (ap is_on m))
  by_root h (OutsideFault q) e m = absurd (false≢true (ap is_on m))

  pub started : start t ≡ On c → Started t c
  unfolding start root_at if◌then◌or_else◌
  started m = go (ltb log_most (length t)) refl m
    where
      go : (b : Bool) → ltb log_most (length t) ≡ b → (if b then Fault 0 or_else begin (root_by (outside t (first t)) (bytes "log") t) t) ≡ On c → Started t c
      go true e m = absurd (false≢true (ap is_on m))
      go false e m = by_root (ltb-false log_most (length t) e) (outside t (first t)) refl m

  pub kept_start : Started t c → Kept t c
  kept_start s = subst (Kept t) (sym s.cursor) (let k : OpenTag t s.root s.behind = opened_tag t s.root s.behind (tag_of (markup t s.root) s.root) refl s.opens s.tag in record { few = omega (arith, k.stands); line = omega arith; tags = k })

  -- `<`, a name and `>` stand before it
  three : Started t c → 3 ≤ c.at
  three s =
      let k : OpenTag t s.root s.behind = opened_tag t s.root s.behind (tag_of (markup t s.root) s.root) refl s.opens s.tag in
      let e : c.at ≡ s.behind = ap (λ (x : Cursor). x.at) s.cursor in
      let w : s.behind ≤ length t = subst (EarlyTag (length t)) s.tag (tag_inside t s.root) in
      omega (arith, e, k.name, some_name t s.root s.opens, name_after t s.root (omega (arith, w, k.stands)))

-- THE BYTE ORDER MARK: the same in a beginning of three bytes or more; in a shorter one that has its first bytes, the end is behind it
whole_mark : (m : ℕ) → 3 ≤ m → part byte_order_mark 0 m ≡ byte_order_mark
whole_mark m h = take_all (m - 0) byte_order_mark (omega (arith, h))

first_same : (t : List ℕ) (n : ℕ) → n ≤ length t → 3 ≤ n → first (take n t) ≡ first t
unfolding first
first_same t n inside h = rw (piece t n inside 0 3 h, whole_mark (length (take n t)) (omega (arith, h, long t n inside)), whole_mark (length t) (omega (arith, h, inside))) refl

same_is : (a b : List ℕ) → same_bytes a b ≡ true → a ≡ b
unfolding same_bytes
same_is [] [] e = refl
same_is [] (y ∷ b) e = absurd (false≢true e)
same_is (x ∷ a) [] e = absurd (false≢true e)
same_is (x ∷ a) (y ∷ b) e = ap (λ (k : ℕ). k ∷ a) (eqb-true x y (and_left (eqb x y) (same_bytes a b) e)) ∙ ap (λ (l : List ℕ). y ∷ l) (same_is a b (and_right (eqb x y) (same_bytes a b) e))

first_most : (t : List ℕ) → first t ≤ 3
unfolding first
first_most t = go (same_bytes (part t 0 3) (part byte_order_mark 0 (length t)))
  where
    go : (b : Bool) → (if b then length (part t 0 3) or_else 0) ≤ 3
    go true = unfold if◌then◌or_else◌ in omega (arith, length-take 3 t)
    go false = unfold if◌then◌or_else◌ in omega arith

module _ (t : List ℕ) (n : ℕ) (inside : n ≤ length t) (few : n ≤ 3) where
  shorter : part (take n t) 0 3 ≡ take n t
  shorter = take_all 3 (take n t) (omega (arith, few, long t n inside))

  marked : part byte_order_mark 0 (length (take n t)) ≡ take n byte_order_mark
  marked = ap (λ (k : ℕ). take k byte_order_mark) (let e : length (take n t) - 0 ≡ n = omega (arith, long t n inside) in e)

  -- the text's mark gives the beginning's
  mark_cut : same_bytes (part t 0 3) (part byte_order_mark 0 (length t)) ≡ true → same_bytes (part (take n t) 0 3) (part byte_order_mark 0 (length (take n t))) ≡ true
  mark_cut e = rw (shorter, marked) (ap (λ (l : List ℕ). same_bytes l (take n byte_order_mark)) begins ∙ same_bytes_lem (take n byte_order_mark))
    where
      begins : take n t ≡ take n byte_order_mark
      begins =
          sym (take-take n 3 t few)
          ∙ ap (take n) (same_is (part t 0 3) (part byte_order_mark 0 (length t)) e ∙ ap (λ (k : ℕ). take k byte_order_mark) (let z : length t - 0 ≡ length t = omega arith in z))
          ∙ take-take n (length t) byte_order_mark inside

  first_end_lem : same_bytes (part (take n t) 0 3) (part byte_order_mark 0 (length (take n t))) ≡ true → first (take n t) ≡ n
  unfolding first if◌then◌or_else◌
  first_end_lem e = rw e (ap length shorter ∙ long t n inside)

  first_none : same_bytes (part (take n t) 0 3) (part byte_order_mark 0 (length (take n t))) ≡ false → first (take n t) ≡ 0
  unfolding first if◌then◌or_else◌
  first_none e = rw e refl

  no_first : same_bytes (part (take n t) 0 3) (part byte_order_mark 0 (length (take n t))) ≡ false → first t ≡ 0
  unfolding first
  no_first e = go (same_bytes (part t 0 3) (part byte_order_mark 0 (length t))) refl
    where
      go : (b : Bool) → same_bytes (part t 0 3) (part byte_order_mark 0 (length t)) ≡ b → (if b then length (part t 0 3) or_else 0) ≡ 0
      go true k = absurd (false≢true (sym e ∙ mark_cut k))
      go false k = unfold if◌then◌or_else◌ in refl

-- THE LAW
late_start : (t : List ℕ) (n : ℕ) → n < 3 → (m : Move) → start t ≡ m → Late n m
late_start t n h (On c) e = omega (arith, h, three t c (started t c e))
late_start t n h (Done c) e = absurd (never_done t c e)
late_start t n h (Fault q) e = tt

module _ (t : List ℕ) (n : ℕ) (inside : n ≤ length t) (short : length t ≤ log_most) where
  start_is : start t ≡ begin (root_at (bytes "log") t) t
  unfolding start if◌then◌or_else◌
  start_is = rw (le-ltb log_most (length t) short) refl

  start_in : start (take n t) ≡ begin (root_at (bytes "log") (take n t)) (take n t)
  unfolding start if◌then◌or_else◌
  start_in = rw (le-ltb log_most (length (take n t)) (omega (arith, short, inside, long t n inside))) refl

  behind_mark : first (take n t) ≡ n → begin (root_at (bytes "log") (take n t)) (take n t) ≡ Fault n
  unfolding root_at root_by begin
  behind_mark e = rw (e, outside_end (take n t) n (omega (arith, long t n inside))) (ap Fault (long t n inside))

  pub start_cut : Cut n (start t) (start (take n t))
  start_cut =
      by_order 3 n
      (λ h. rw (start_is, start_in) (root_cut t n inside (first t) refl (first_same t n inside h) (omega (arith, h, first_most t))))
      (λ h. go h (same_bytes (part (take n t) 0 3) (part byte_order_mark 0 (length (take n t)))) refl)
    where
      go : n < 3 → (b : Bool) → same_bytes (part (take n t) 0 3) (part byte_order_mark 0 (length (take n t))) ≡ b → Cut n (start t) (start (take n t))
      go h true e = broken (start_in ∙ behind_mark (first_end_lem t n inside (omega (arith, h)) e)) (late_start t n h (start t) refl)
      go h false e = rw (start_is, start_in) (root_cut t n inside 0 (no_first t n inside (omega (arith, h)) e) (first_none t n inside (omega (arith, h)) e) (omega arith))

-- and so in any text that begins alike
pub start_alike : (t u : List ℕ) (n : ℕ) → n ≤ length t → n ≤ length u → take n u ≡ take n t → length u ≤ log_most → (c : Cursor) → start t ≡ On c → c.at ≤ n → start u ≡ On c
start_alike t u n inside within alike short c e h =
    sym (well_same n (start u) (start (take n u)) (rw begun refl) (start_cut u n within short)) ∙ begun
  where
    begun : start (take n u) ≡ On c
    begun = ap start alike ∙ early_same n (start t) (start (take n t)) (rw e refl) (rw e h) (start_cut t n inside (started t c e).short) ∙ e
