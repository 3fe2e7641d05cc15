-- THE END TAGS OF WHAT IS OPEN, one straight behind the other up to the end of the text: a reader that stands before them comes to the end. Assumes nothing.
use Rattle.std.specs.Prelude.{Ok}
use mathlib.Core.Path.{◌≡◌, ◌∙◌, refl, sym, ap}
use mathlib.Core.Bool.{false}
use mathlib.Core.List.{List, [], ◌∷◌, ◌++◌}
use Prim.Native.Nat.{ℕ, ◌+◌}
use native.Mathlib.Omega.{arith}
use lib.Dec.{eqb}
use lib.ListN.{length, drop, length-drop}
use Rattle.base_words.specs.Pick.{if◌then◌or_else◌}
use Rattle.xml_markup.specs.declared.Opener.TheVariants.{Start}
use Rattle.xml_markup.specs.Spans.{name_at, bytes_of, opener}
use Rattle.xml_document.specs.Around.{last_by, last_from}
use Rattle.xml_document.proofs.Laws.{outside_end}
use Rattle.log_text.specs.declared.Level.{Level}
use Rattle.log_text.specs.declared.Level.TheVariants.{Log, Trace}
use Rattle.log_text.specs.declared.Cursor.{Cursor}
use Rattle.log_text.specs.declared.Move.TheVariants.{On, Done}
use Rattle.log_text.specs.declared.Scanned.{Scanned}
use Rattle.log_text.specs.Cursors.{reached, behind_trace, lacks_by, tag_by}
use Rattle.log_text.specs.Logs.{left_by, advance, by_move, scan_from, closes_event, lines_from}
use Rattle.log_text.proofs.Laws.{scan_on, scan_done, with_line, lines_is}
use Rattle.proof_local.proofs.Elements.{EndAt, end_at_lem, no_blank, at_end}
use Rattle.proof_local.proofs.StartNames.{NamedSo, named_so}

-- the end tag of the element whose tag is at p, and x behind it
abbrev pub end_tag_and : List ℕ → ℕ → List ℕ → List ℕ
end_tag_and u p x = 60 ∷ (47 ∷ (bytes_of u (name_at u p) ++ (62 ∷ x)))

-- ONE END TAG, with its end at `to`
record Leaves (u : List ℕ) (c : Cursor) (x : List ℕ) : Type 0 where
  to : ℕ
  left : advance u c ≡ left_by c.level u c to
  behind : drop to u ≡ x

module _ (u : List ℕ) (c : Cursor) (x : List ℕ) (lacking : lacks_by c.level c ≡ false) (o : opener u (tag_by c.level c) ≡ Start) (stands : drop c.at u ≡ end_tag_and u (tag_by c.level c) x) where
  n : NamedSo u (tag_by c.level c)
  n = named_so u (tag_by c.level c) o

  here : drop c.at u ≡ 60 ∷ (47 ∷ ((n.first ∷ n.more) ++ (62 ∷ x)))
  here = stands ∙ ap (λ (l : List ℕ). 60 ∷ (47 ∷ (l ++ (62 ∷ x)))) n.is

  ended : EndAt u (n.first ∷ n.more) x c.at
  ended = end_at_lem u n.more x c.at n.first here n.name

  leaves : Leaves u c x
  leaves =
      record {
        to = c.at + 3 + length (n.first ∷ n.more);
        left = at_end u (n.first ∷ n.more) x c c.at (no_blank u (47 ∷ ((n.first ∷ n.more) ++ (62 ∷ x))) c.at here) lacking ended n.is;
        behind = ended.behind;
      }

-- from c on: the end of the text, and no event more
pub record Closes (u : List ℕ) (c : Cursor) : Type 0 where
  pub end_is : (scan_from u c).end ≡ Ok (length u)
  pub events_are : (scan_from u c).last.events ≡ c.events
  pub no_lines : lines_from u c ≡ []

-- THE LOG'S
last_there : (u : List ℕ) (q : ℕ) → drop q u ≡ [] → last_from u q ≡ Ok (length u)
unfolding last_from last_by
last_there u q e = rw (outside_end u q (omega (arith, length-drop q u, ap length e))) refl

module _ (u : List ℕ) (c : Cursor) (level : c.level ≡ Log) (traced : eqb c.opened 0 ≡ false) (o : opener u c.log ≡ Start) (stands : drop c.at u ≡ end_tag_and u c.log []) where
  lacks_none : lacks_by c.level c ≡ false
  unfolding lacks_by
  lacks_none = rw level traced

  opens : opener u (tag_by c.level c) ≡ Start
  unfolding tag_by
  opens = rw level o

  tag_stands : drop c.at u ≡ end_tag_and u (tag_by c.level c) []
  unfolding tag_by
  tag_stands = rw level stands

  k : Leaves u c []
  k = leaves u c [] lacks_none opens tag_stands

  done : advance u c ≡ Done (reached c k.to)
  unfolding left_by
  done = k.left ∙ ap (λ (l : Level). left_by l u c k.to) level

  scanned_there : scan_from u c ≡ record { end = Ok (length u); last = reached c k.to }
  scanned_there = scan_done u c (advance u c) refl (reached c k.to) done (Ok (length u)) (sym (last_there u k.to k.behind))

  pub log_closes : Closes u c
  unfolding by_move
  log_closes = record { end_is = ap (λ (s : Scanned). s.end) scanned_there; events_are = ap (λ (s : Scanned). s.last.events) scanned_there; no_lines = lines_is u c ∙ rw done refl }

-- THE TRACE'S, and the log's
module _ (u : List ℕ) (c : Cursor) (level : c.level ≡ Trace) (traced : eqb c.opened 0 ≡ false) (ol : opener u c.log ≡ Start) (ot : opener u c.trace ≡ Start) (stands : drop c.at u ≡ end_tag_and u c.trace (end_tag_and u c.log [])) where
  trace_lacks : lacks_by c.level c ≡ false
  unfolding lacks_by
  trace_lacks = rw level refl

  trace_opens : opener u (tag_by c.level c) ≡ Start
  unfolding tag_by
  trace_opens = rw level ot

  trace_stands : drop c.at u ≡ end_tag_and u (tag_by c.level c) (end_tag_and u c.log [])
  unfolding tag_by
  trace_stands = rw level stands

  m : Leaves u c (end_tag_and u c.log [])
  m = leaves u c (end_tag_and u c.log []) trace_lacks trace_opens trace_stands

  abbrev r : ℕ
  r = m.to

  trace_left : advance u c ≡ On (behind_trace c r)
  unfolding left_by
  trace_left = m.left ∙ ap (λ (l : Level). left_by l u c r) level

  rest : Closes u (behind_trace c r)
  rest = log_closes u (behind_trace c r) refl traced ol m.behind

  goes : scan_from u c ≡ scan_from u (behind_trace c r)
  goes = scan_on u c (advance u c) refl (behind_trace c r) trace_left

  no_line : (l : Level) → l ≡ Trace → (x y : List (List ℕ)) → (if closes_event l Log then x or_else y) ≡ y
  unfolding closes_event if◌then◌or_else◌
  no_line l e x y = rw e refl

  pub trace_closes : Closes u c
  unfolding by_move with_line
  trace_closes =
      record {
        end_is = ap (λ (s : Scanned). s.end) goes ∙ rest.end_is;
        events_are = ap (λ (s : Scanned). s.last.events) goes ∙ rest.events_are;
        no_lines = lines_is u c ∙ rw trace_left (no_line c.level level _ _ ∙ rest.no_lines);
      }
