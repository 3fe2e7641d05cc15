-- A TEXT CUT OFF AT ITS MARK AND CLOSED is a log, and tells what the text told. The mark is the end of the last whole event, or else of the trace's start tag. Assumes nothing.
use Rattle.std.specs.Prelude.{Ok}
use mathlib.Core.Path.{◌≡◌, ◌∙◌, refl, sym, ap, subst}
use mathlib.Core.List.{List, [], ◌∷◌, ◌++◌, append-nil}
use Prim.Native.Nat.{ℕ, ◌≤◌}
use native.Mathlib.Omega.{arith}
use lib.ListN.{length, take, drop, length-append}
use lib.Seq.{take-take}
use Rattle.xml_markup.specs.declared.Opener.TheVariants.{Start}
use Rattle.xml_markup.specs.Markup.{markup}
use Rattle.xml_markup.specs.Spans.{name_at, bytes_of, opener}
use Rattle.xml_skip.specs.declared.Tag.{Tag}
use Rattle.xml_skip.specs.declared.Tag.TheVariants.{Open, Empty, Fault as TagFault}
use Rattle.xml_skip.specs.Skipping.{tag_of}
use Rattle.log_text.specs.declared.Level.{Level}
use Rattle.log_text.specs.declared.Cursor.{Cursor}
use Rattle.log_text.specs.declared.Move.TheVariants.{On}
use Rattle.log_text.specs.declared.Scanned.{Scanned}
use Rattle.log_text.specs.Logs.{log_most, by_move, scan_from, start, scan, lines_from, lines_of}
use Rattle.log_text.proofs.Laws.{advance_end, scan_end, lines_is}
use Rattle.log_text.proofs.LineLaws.{events_are_lines}
use Rattle.proof_local.proofs.Beginnings.{long}
use Rattle.proof_local.proofs.Names.{opener_same, bytes_same, Whole}
use Rattle.proof_local.proofs.SameMoves.{name_whole}
use Rattle.proof_local.proofs.Keeping.{OpenTag, OpenTags, Kept, kept_stands}
use Rattle.proof_local.proofs.Reached.{Reaches, not_back, reaches_alike, kept_reached, scan_reached}
use Rattle.proof_local.proofs.Starting.{started, kept_start, start_alike}
use Rattle.proof_local.proofs.Marks.{Closable, in_trace, in_log, Marked}
use Rattle.proof_local.proofs.Passed.{start_within, reached_within, Ended}
use Rattle.proof_local.proofs.ToldAlike.{Told, told_alike}
use Rattle.proof_local.proofs.Closing.{end_tag_and, Closes, log_closes, trace_closes}

-- the end tags of what is open: the trace's at p, unless its tag was empty, and the log's at o
abbrev pub end_tags : Tag → List ℕ → ℕ → ℕ → List ℕ
end_tags (Open q) t p o = end_tag_and t p (end_tag_and t o [])
end_tags (Empty q) t p o = end_tag_and t o []
end_tags (TagFault q) t p o = end_tag_and t o []

none_of : (l : List (List ℕ)) → length l ≡ 0 → l ≡ []
none_of [] e = refl
none_of (x ∷ l) e = absurd (omega (arith, e))

module _ (t : List ℕ) (e : Ended t) where
  abbrev w : Marked t e.first (scan t).last
  w = e.marks

  abbrev d : Cursor
  d = w.d

  kept_first : Kept t e.first
  kept_first = kept_start t e.first (started t e.first e.begins)

  kept_d : Kept t d
  kept_d = kept_reached t d w.moves e.first kept_first w.by_d

  pub mark_within : d.at ≤ length t
  mark_within = reached_within t d w.moves e.first kept_first (start_within t e.first e.begins) w.by_d

  lines_start : (u : List ℕ) → start u ≡ On e.first → lines_of u ≡ lines_from u e.first
  unfolding lines_of by_move
  lines_start u s = rw s refl

  scan-start : (u : List ℕ) → start u ≡ On e.first → scan u ≡ scan_from u e.first
  unfolding scan by_move
  scan-start u s = rw s refl

  -- ANY TEXT that begins alike up to the mark
  module _ (u : List ℕ) (within : d.at ≤ length u) (alike : take d.at u ≡ take d.at t) (short : length u ≤ log_most) where
    pub start_there : start u ≡ On e.first
    start_there = start_alike t u d.at mark_within within alike short e.first e.begins (not_back t d w.moves e.first w.by_d)

    there : Reaches u d w.moves e.first
    there = reaches_alike t u d.at mark_within within alike d (omega arith) w.moves e.first kept_first w.by_d

    told : Told t u e.first d
    told = told_alike t u d.at mark_within within alike d (omega arith) w.moves e.first kept_first w.by_d

    pub scan_there : scan u ≡ scan_from u d
    scan_there = scan-start u start_there ∙ scan_reached u d w.moves e.first there

    lines_there : lines_of u ≡ told.lines ++ lines_from u d
    lines_there = lines_start u start_there ∙ told.in_u

    lines_here : lines_of t ≡ told.lines ++ lines_from t d
    lines_here = lines_start t e.begins ∙ told.in_t

  -- the text broken off at the mark has all its events, so none is told behind the mark
  abbrev v : List ℕ
  v = take d.at t

  v_long : length v ≡ d.at
  v_long = long t d.at mark_within

  v_within : d.at ≤ length v
  v_within = omega (arith, v_long)

  v_alike : take d.at v ≡ take d.at t
  v_alike = take-take d.at d.at t (omega arith)

  v_short : length v ≤ log_most
  v_short = omega (arith, v_long, mark_within, (started t e.first e.begins).short)

  no_more : lines_from v d ≡ []
  unfolding by_move
  no_more = lines_is v d ∙ rw (advance_end v d (omega (arith, v_long))) refl

  v_events : (scan v).last.events ≡ d.events
  v_events = ap (λ (s : Scanned). s.last.events) (scan_there v v_within v_alike v_short ∙ scan_end v d (omega (arith, v_long)))

  v_lines : lines_of v ≡ (told v v_within v_alike v_short).lines
  v_lines = lines_there v v_within v_alike v_short ∙ ap (λ (l : List (List ℕ)). (told v v_within v_alike v_short).lines ++ l) no_more ∙ append-nil (told v v_within v_alike v_short).lines

  told_all : lines_from t d ≡ []
  told_all =
      none_of (lines_from t d)
      (omega (
        arith,
        events_are_lines t,
        w.events_are,
        v_events,
        events_are_lines v,
        ap length v_lines,
        ap length (lines_here v v_within v_alike v_short),
        length-append (told v v_within v_alike v_short).lines (lines_from t d),
      ))

  module _ (u : List ℕ) (within : d.at ≤ length u) (alike : take d.at u ≡ take d.at t) (short : length u ≤ log_most) where
    lines_all : lines_of t ≡ (told u within alike short).lines
    lines_all = lines_here u within alike short ∙ ap (λ (l : List (List ℕ)). (told u within alike short).lines ++ l) told_all ∙ append-nil (told u within alike short).lines

    -- its first lines are the text's
    pub lines_begin : lines_of u ≡ lines_of t ++ lines_from u d
    lines_begin = lines_there u within alike short ∙ ap (λ (l : List (List ℕ)). l ++ lines_from u d) (sym lines_all)

    name_in : (p : ℕ) → OpenTag t p d.at → Whole u d.at p
    name_in p o = name_whole t u d.at within alike d (kept_stands t d kept_d d.at mark_within (omega arith)) p o.stands o.name

    opener_there : (p : ℕ) → OpenTag t p d.at → opener u p ≡ Start
    opener_there p o =
        sym (opener_same u d.at within p o.stands (name_in p o))
        ∙ ap (λ (l : List ℕ). opener l p) alike
        ∙ opener_same t d.at mark_within p o.stands o.name
        ∙ o.opens

    name_there : (p : ℕ) → OpenTag t p d.at → bytes_of t (name_at t p) ≡ bytes_of u (name_at u p)
    name_there p o =
        sym (bytes_same t d.at mark_within p o.stands o.name)
        ∙ ap (λ (l : List ℕ). bytes_of l (name_at l p)) (sym alike)
        ∙ bytes_same u d.at within p o.stands (name_in p o)

    tag_there : (p : ℕ) → OpenTag t p d.at → (x : List ℕ) → end_tag_and t p x ≡ end_tag_and u p x
    tag_there p o x = ap (λ (l : List ℕ). 60 ∷ (47 ∷ (l ++ (62 ∷ x)))) (name_there p o)

    -- THE END TAGS behind the mark
    module _ (ends : drop d.at u ≡ end_tags (tag_of (markup t d.trace) d.trace) t d.trace d.log) where
      closes_by : Closable t d → Closes u d
      closes_by (in_trace q l g) =
          let tags : OpenTag t d.log d.at × OpenTag t d.trace d.at = subst (λ (x : Level). OpenTags t d x d.at) l kept_d.tags in
          trace_closes u d l w.open_d (opener_there d.log tags.0) (opener_there d.trace tags.1)
          (ends ∙ ap (λ (x : Tag). end_tags x t d.trace d.log) g ∙ tag_there d.trace tags.1 (end_tag_and t d.log []) ∙ ap (end_tag_and u d.trace) (tag_there d.log tags.0 []))
      closes_by (in_log q l g) =
          let tag : OpenTag t d.log d.at = subst (λ (x : Level). OpenTags t d x d.at) l kept_d.tags in
          log_closes u d l w.open_d (opener_there d.log tag) (ends ∙ ap (λ (x : Tag). end_tags x t d.trace d.log) g ∙ tag_there d.log tag [])

      closes : Closes u d
      closes = closes_by w.closable

      pub is_log : (scan u).end ≡ Ok (length u)
      is_log = ap (λ (s : Scanned). s.end) (scan_there u within alike short) ∙ closes.end_is

      pub same_events : (scan u).last.events ≡ (scan t).last.events
      same_events = ap (λ (s : Scanned). s.last.events) (scan_there u within alike short) ∙ closes.events_are ∙ w.events_are

      pub same_lines : lines_of u ≡ lines_of t
      same_lines = lines_begin ∙ ap (λ (l : List (List ℕ)). lines_of t ++ l) closes.no_lines ∙ append-nil (lines_of t)
