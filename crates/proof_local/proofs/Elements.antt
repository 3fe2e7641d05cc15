-- What a reader of a log does at a start tag and at an end tag. Assumes nothing.
use Rattle.std.specs.Prelude.{Ok}
use mathlib.Core.Path.{◌≡◌, ◌∙◌, refl, sym, ap}
use mathlib.Core.Bool.{Bool, true, false}
use mathlib.Core.List.{List, [], ◌∷◌, ◌++◌}
use Prim.Native.Nat.{ℕ, zero, suc, ◌+◌}
use native.Mathlib.Omega.{arith}
use lib.Dec.{eqb}
use lib.ListN.{length, drop, length-drop}
use lib.Seq.{drop-length}
use borrow.Author.Tests.{lt-leb, le-leb, eq-eqb}
use Rattle.base_words.specs.Pick.{if◌then◌or_else◌}
use Rattle.base_words.specs.Text.{bytes}
use Rattle.base_words.specs.Each.{each}
use Rattle.base_words.proofs.PickLaws.{and_true}
use Rattle.base_bytes.specs.Bytes.{past}
use Rattle.base_bytes.specs.Bytes.{same_bytes}
use Rattle.xml_characters.specs.Names.{is_blank, begins_name}
use Rattle.xml_scanner.specs.declared.Sort.TheVariants.{EmptyTag, EndTag}
use Rattle.xml_markup.specs.declared.Class.TheVariants.{Blanks, Name}
use Rattle.xml_markup.specs.declared.Opener.TheVariants.{Start, End}
use Rattle.xml_markup.specs.Markup.{marked, markup}
use Rattle.xml_markup.specs.Spans.{is_of, run, name_at, bytes_of, opener, local_of, is_called, same_name}
use Rattle.xml_skip.specs.declared.Part.TheVariants.{Close as PartClose}
use Rattle.xml_skip.specs.Skipping.{part_by, part_of, part_for, part_at, tag_by, tag_of, by_tag, element_by, element_at, skipped}
use Rattle.xml_document.specs.declared.Outside.TheVariants.{Nothing}
use Rattle.xml_document.specs.Document.{tag_for, tag_at, outside_at, further, outside_in, outside}
use Rattle.xml_document.specs.Around.{last_by, last_from}
use Rattle.log_text.specs.declared.Inside.TheVariants.{Element, Close}
use Rattle.log_text.specs.declared.Level.TheVariants.{Log, Trace, Event}
use Rattle.log_text.specs.declared.Cursor.{Cursor}
use Rattle.log_text.specs.declared.Move.TheVariants.{On}
use Rattle.log_text.specs.Inside.{ends_at, closing, between, inside_at}
use Rattle.log_text.specs.Cursors.{reached, lacks_by, tag_by as openTag}
use Rattle.log_text.specs.Logs.{over, is_of_log, other_at, entered_by, left_by, by_inside, advance}
use Rattle.proof_local.proofs.Stands.{within, first}
use Rattle.proof_local.proofs.Tags.{start_named, start_called, start_opens, end_named, end_opens, end_markup, end_behind}

-- c and then these bytes are a name
pub record Names (c : ℕ) (name : List ℕ) : Type 0 where
  pub begins : begins_name c ≡ true
  pub every : each (is_of Name) (c ∷ name) ≡ true

-- a start tag of that name at p
pub record StartAt (t name : List ℕ) (p : ℕ) : Type 0 where
  pub opens : opener t p ≡ Start
  pub named : bytes_of t (name_at t p) ≡ name
  pub called : (w : List ℕ) → is_called t p w ≡ same_bytes (local_of name) w

pub start_at : (t name x : List ℕ) (p c b : ℕ) → drop p t ≡ 60 ∷ ((c ∷ name) ++ (b ∷ x)) → Names c name → is_of Name b ≡ false → StartAt t (c ∷ name) p
start_at t name x p c b s n ends =
    record {
      opens = start_opens t name x p c b s n.begins n.every ends;
      named = start_named t name x p c b s n.begins n.every ends;
      called = start_called t name x p c b s n.begins n.every ends;
    }

-- an end tag of that name at p, and x behind it
pub record EndAt (t name x : List ℕ) (p : ℕ) : Type 0 where
  pub opens : opener t p ≡ End
  pub named : bytes_of t (name_at t p) ≡ name
  pub tag : markup t p ≡ marked EndTag (p + 3 + length name)
  pub behind : drop (p + 3 + length name) t ≡ x

pub end_at_lem : (t name x : List ℕ) (p c : ℕ) → drop p t ≡ 60 ∷ (47 ∷ ((c ∷ name) ++ (62 ∷ x))) → Names c name → EndAt t (c ∷ name) x p
end_at_lem t name x p c s n =
    record {
      opens = end_opens t name x p c s n.begins n.every;
      named = end_named t name x p c s n.begins n.every;
      tag = end_markup t name x p c s n.begins n.every ∙ ap (marked EndTag) long;
      behind = ap (λ (k : ℕ). drop k t) (sym long) ∙ end_behind t name x p c s n.begins n.every;
    }
  where
    long : p + 4 + length name ≡ p + 3 + suc (length name)
    long = omega arith

-- the blanks before it: none, or a newline
pub no_blank : (t s : List ℕ) (q : ℕ) → drop q t ≡ 60 ∷ s → run Blanks t q ≡ q
unfolding run past is_of is_blank if◌then◌or_else◌
no_blank t s q e = rw e refl

pub newline : (t s : List ℕ) (q : ℕ) → drop q t ≡ 10 ∷ (60 ∷ s) → run Blanks t q ≡ q + 1
unfolding run past is_of is_blank if◌then◌or_else◌
newline t s q e = rw e refl

-- A START TAG
element_in : (t s name : List ℕ) (p outer : ℕ) (l : Bool) → drop p t ≡ 60 ∷ s → StartAt t name p → inside_at l t outer p ≡ Element p
unfolding inside_at ends_at between outside_at tag_at tag_for if◌then◌or_else◌
element_in t s name p outer l e k = rw (k.opens, lt-leb (length t) p (within t s 60 p e), first t s 60 p e) refl

pub at_element : (t s name : List ℕ) (c : Cursor) (p : ℕ) → run Blanks t c.at ≡ p → drop p t ≡ 60 ∷ s → StartAt t name p → advance t c ≡ entered_by c.level t c p
unfolding advance by_inside
at_element t s name c p b e k = rw (b, element_in t s name p (openTag c.level c) (lacks_by c.level c) e k) refl

pub skipped_empty : (t : List ℕ) (p q : ℕ) → markup t p ≡ marked EmptyTag q → skipped t p ≡ Ok q
unfolding skipped element_at element_by by_tag tag_of tag_by if◌then◌or_else◌
skipped_empty t p q e = rw e refl

-- an element that is skipped in the log, in the trace, and in an event
pub passed_in_log : (t name : List ℕ) (c : Cursor) (p q : ℕ) → StartAt t name p → same_bytes (local_of name) (bytes "log") ≡ false → same_bytes (local_of name) (bytes "trace") ≡ false → same_bytes (local_of name) (bytes "event") ≡ false → skipped t p ≡ Ok q → entered_by Log t c p ≡ On (reached c q)
unfolding entered_by other_at is_of_log over if◌then◌or_else◌
passed_in_log t name c p q k a b d e = rw (k.called (bytes "trace"), k.called (bytes "log"), k.called (bytes "event"), a, b, d, e) refl

pub passed_in_trace : (t name : List ℕ) (c : Cursor) (p q : ℕ) → StartAt t name p → same_bytes (local_of name) (bytes "log") ≡ false → same_bytes (local_of name) (bytes "trace") ≡ false → same_bytes (local_of name) (bytes "event") ≡ false → skipped t p ≡ Ok q → entered_by Trace t c p ≡ On (reached c q)
unfolding entered_by other_at is_of_log over if◌then◌or_else◌
passed_in_trace t name c p q k a b d e = rw (k.called (bytes "trace"), k.called (bytes "log"), k.called (bytes "event"), a, b, d, e) refl

pub passed_in_event : (t name : List ℕ) (c : Cursor) (p q : ℕ) → StartAt t name p → same_bytes (local_of name) (bytes "string") ≡ false → same_bytes (local_of name) (bytes "log") ≡ false → same_bytes (local_of name) (bytes "trace") ≡ false → same_bytes (local_of name) (bytes "event") ≡ false → skipped t p ≡ Ok q → entered_by Event t c p ≡ On (reached c q)
unfolding entered_by other_at is_of_log over if◌then◌or_else◌
passed_in_event t name c p q k s a b d e = rw (k.called (bytes "string"), k.called (bytes "trace"), k.called (bytes "log"), k.called (bytes "event"), s, a, b, d, e) refl

-- AN END TAG
pub same_bytes_lem : (w : List ℕ) → same_bytes w w ≡ true
unfolding same_bytes
same_bytes_lem [] = refl
same_bytes_lem (b ∷ w) = and_true (eqb b b) (same_bytes w w) (eq-eqb b b refl) (same_bytes_lem w)

pub part_in : (t name x : List ℕ) (p outer : ℕ) → EndAt t name x p → bytes_of t (name_at t outer) ≡ name → part_at t outer p ≡ PartClose (p + 3 + length name)
unfolding part_at part_for same_name part_of part_by if◌then◌or_else◌
part_in t name x p outer k n = rw (k.opens, n, k.named, same_bytes_lem name, k.tag) refl

end_in : (t name x : List ℕ) (p outer : ℕ) → EndAt t name x p → bytes_of t (name_at t outer) ≡ name → inside_at false t outer p ≡ Close (p + 3 + length name)
unfolding inside_at ends_at closing if◌then◌or_else◌
end_in t name x p outer k n = rw (part_in t name x p outer k n, k.opens) refl

pub at_end : (t name x : List ℕ) (c : Cursor) (p : ℕ) → run Blanks t c.at ≡ p → lacks_by c.level c ≡ false → EndAt t name x p → bytes_of t (name_at t (openTag c.level c)) ≡ name → advance t c ≡ left_by c.level t c (p + 3 + length name)
unfolding advance by_inside
at_end t name x c p b l k n = rw (b, l, end_in t name x p (openTag c.level c) k n) refl

-- THE END: a newline, and nothing else
module _ (t : List ℕ) (q : ℕ) (stands : drop q t ≡ 10 ∷ []) where
  long : length t ≡ q + 1
  long = omega (arith, length-drop q t, ap length stands)

  blank : run Blanks t q ≡ q + 1
  unfolding run past is_of is_blank if◌then◌or_else◌
  blank = rw stands refl

  at_last : (n : ℕ) → n ≡ q + 1 → outside_in n t q ≡ outside_in (suc q) t q
  at_last n e = ap (λ (m : ℕ). outside_in m t q) (e ∙ (let z : q + 1 ≡ suc q = omega arith in z))

  pub ends_there : last_from t q ≡ Ok (length t)
  unfolding last_from outside outside_in outside_at further last_by if◌then◌or_else◌
  ends_there = ap (λ (o : _). last_by o t) (at_last (length t) long) ∙ rw (blank, le-leb (length t) (q + 1) (omega (arith, long))) refl

-- or nothing at all
nothing_left : (t : List ℕ) (n : ℕ) → outside_in n t (length t) ≡ Nothing
unfolding outside_in outside_at further run past if◌then◌or_else◌
nothing_left t zero = refl
nothing_left t (suc n) = rw (drop-length t, le-leb (length t) (length t) (omega arith)) refl

pub ends_here : (t : List ℕ) → last_from t (length t) ≡ Ok (length t)
unfolding last_from outside last_by
ends_here t = rw (nothing_left t (length t)) refl
