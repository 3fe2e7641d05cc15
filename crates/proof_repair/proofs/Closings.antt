-- THE REPAIRED TEXT begins as the text does, up to the mark, and then has the end tags of what is open. Assumes nothing.
use Rattle.std.specs.Prelude.{Ok}
use Prim.Native.Nat.{ℕ, ◌+◌, ◌<◌, ◌≤◌}
use mathlib.Core.Path.{◌≡◌, ◌∙◌, refl, sym, ap, subst}
use mathlib.Core.Bool.{Bool, true, false}
use mathlib.Core.List.{List, [], ◌∷◌, ◌++◌, append_assoc}
use native.Mathlib.Omega.{arith}
use lib.Dec.{eqb}
use lib.ListN.{length, take, drop, length-append}
use lib.Seq.{take-append_seam, drop-append_seam, length-take-le}
use Rattle.base_words.specs.Text.{bytes}
use Rattle.xml_markup.specs.Markup.{markup}
use Rattle.xml_markup.specs.Spans.{name_at, bytes_of}
use Rattle.xml_skip.specs.declared.Tag.{Tag}
use Rattle.xml_skip.specs.declared.Tag.TheVariants.{Open, Empty, Fault as TagFault}
use Rattle.xml_skip.specs.Skipping.{tag_of}
use Rattle.log_text.specs.declared.Cursor.{Cursor}
use Rattle.log_text.specs.Logs.{log_most, scan, lines_of}
use Rattle.log_repair.specs.Repair.{end_tag, trace_end, closing_tags, closed}
use Rattle.proof_local.proofs.Marks.{Marked}
use Rattle.proof_local.proofs.Passed.{Ended, ended_by}
use Rattle.proof_local.proofs.Closing.{end_tag_and}
use Rattle.proof_local.proofs.Closed.{end_tags, mark_within, is_log, same_events, same_lines}

tags_are : (g : Tag) (t : List ℕ) (p o : ℕ) → trace_end g t p ++ end_tag t o ≡ end_tags g t p o
unfolding trace_end end_tag
tags_are (Open q) t p o = ap (λ (l : List ℕ). 60 ∷ (47 ∷ l)) (append_assoc (bytes_of t (name_at t p)) (62 ∷ []) (end_tag_and t o []))
tags_are (Empty q) t p o = refl
tags_are (TagFault q) t p o = refl

module _ (t : List ℕ) (e : Ended t) where
  abbrev c : Cursor
  c = (scan t).last

  abbrev d : Cursor
  d = e.marks.d

  abbrev u : List ℕ
  u = closed t c

  kept_long : length (take c.kept t) ≡ d.at
  kept_long = length-take-le c.kept t (omega (arith, e.marks.place, mark_within t e)) ∙ sym e.marks.place

  u_is : u ≡ take d.at t ++ closing_tags t c
  unfolding closed
  u_is = ap (λ (n : ℕ). take n t ++ closing_tags t c) (sym e.marks.place)

  d_long : length (take d.at t) ≡ d.at
  d_long = length-take-le d.at t (mark_within t e)

  pub mark_in : d.at ≤ length u
  mark_in = omega (arith, ap length u_is, length-append (take d.at t) (closing_tags t c), d_long)

  pub mark_alike : take d.at u ≡ take d.at t
  mark_alike = ap (take d.at) u_is ∙ ap (λ (n : ℕ). take n (take d.at t ++ closing_tags t c)) (sym d_long) ∙ take-append_seam (take d.at t) (closing_tags t c)

  ends : drop d.at u ≡ end_tags (tag_of (markup t d.trace) d.trace) t d.trace d.log
  unfolding closing_tags
  ends =
      ap (drop d.at) u_is
      ∙ ap (λ (n : ℕ). drop n (take d.at t ++ closing_tags t c)) (sym d_long)
      ∙ drop-append_seam (take d.at t) (closing_tags t c)
      ∙ tags_are (tag_of (markup t c.trace) c.trace) t c.trace c.log
      ∙ ap (λ (p : ℕ). end_tags (tag_of (markup t p) p) t p c.log) (sym e.marks.trace_is)
      ∙ ap (end_tags (tag_of (markup t d.trace) d.trace) t d.trace) (sym e.marks.log_is)

  module _ (short : length u ≤ log_most) where
    pub closed_log : (scan u).end ≡ Ok (length u)
    closed_log = is_log t e u mark_in mark_alike short ends

    pub closed_events : (scan u).last.events ≡ c.events
    closed_events = same_events t e u mark_in mark_alike short ends

    pub closed_lines : lines_of u ≡ lines_of t
    closed_lines = same_lines t e u mark_in mark_alike short ends
