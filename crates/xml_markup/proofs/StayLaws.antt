-- Bytes that leave a markup where it is. Assumes nothing.
use mathlib.Core.Path.{◌≡◌, ◌∙◌, refl, sym, ap}
use mathlib.Core.Bool.{Bool, true, false, not, ◌&&◌, cond, false≢true}
use mathlib.Core.List.{List, [], ◌∷◌}
use Prim.Native.Nat.{ℕ, ◌+◌, ◌<◌, ◌≤◌}
use native.Mathlib.Nat.{add-zero}
use native.Mathlib.Numerals.{add-one}
use native.Mathlib.Omega.{arith}
use lib.Dec.{ltb, eqb}
use lib.ListN.{length, drop, get_or, length-drop}
use lib.Seq.{drop-cons}
use denote.Param.Members.{Mut}
use Rattle.std.proofs.Common.{Option, None, Some}
use Rattle.std.proofs.lemmas.Iterator.{YieldsList, IsFirst-from_position, index_from_first}
use Rattle.std.specs.Fn.{Called}
use Rattle.std.specs.Iterator.{YieldsThen}
use Rattle.std.specs.List.{FoldsTo, prefix_len}
use Rattle.std.specs.Option.{MatchOption, unwrap_or}
use borrow.Author.Tests.{lt-leb, le-ltb, ne_eqb, lt-ltb}
use Rattle.base_words.specs.Pick.{if◌then◌or_else◌}
use Rattle.base_words.specs.Words.{at}
use Rattle.base_bytes.specs.Bytes.{between, is_letter, is_digit, past}
use Rattle.base_bytes.proofs.PieceLaws.{by_order}
use Rattle.xml_characters.specs.Names.{is_blank, is_control, begins_name, is_name}
use Rattle.xml_scanner.specs.declared.InComment.{InComment}
use Rattle.xml_scanner.specs.declared.InComment.TheVariants.{Inside, Dash, Dashes}
use Rattle.xml_scanner.specs.declared.InData.{InData}
use Rattle.xml_scanner.specs.declared.InData.TheVariants.{Inside as InsideData, Bracket, Brackets}
use Rattle.xml_scanner.specs.declared.InInstruction.{InInstruction}
use Rattle.xml_scanner.specs.declared.InInstruction.TheVariants.{Opened as InstructionOpened, Target, TargetMark, Inside as InsideInstruction, Mark}
use Rattle.xml_scanner.specs.declared.InEnd.{InEnd}
use Rattle.xml_scanner.specs.declared.InEnd.TheVariants.{Opened, Name as EndName, Behind as EndBehind}
use Rattle.xml_scanner.specs.declared.InTag.{InTag}
use Rattle.xml_scanner.specs.declared.InTag.TheVariants.{Name, Blank, Attribute as InAttribute, Named, Equals, Value, Reference, Behind, Slash}
use Rattle.xml_scanner.specs.declared.State.{State}
use Rattle.xml_scanner.specs.declared.State.TheVariants.{Begin, Opening, Comment, Data, Instruction, Tag, EndTag, Reference as AtReference}
use Rattle.xml_scanner.specs.Passages.{in_comment, in_data, in_instruction}
use Rattle.xml_scanner.specs.Tags.{behind_blank, in_value, in_tag, in_end}
use Rattle.xml_scanner.specs.Moves.{step}
use Rattle.xml_markup.specs.declared.Cursor.{Cursor}
use Rattle.xml_markup.specs.declared.Scan.TheVariants.{On}
use Rattle.xml_markup.specs.declared.Whole.TheVariants.{Nothing}
use Rattle.xml_markup.specs.Tokens.{end_of, whole_in_tag, whole_in_instruction, whole, move_to, moved, if_on, is_faulty}
use Rattle.xml_markup.specs.Markup.{advance, scan_from}
use Rattle.xml_markup.specs.Staying.{is_plain, stays_in_comment, stays_in_data, stays_in_instruction, stays_in_tag, stays_in_end, stays}

-- no byte of a name is below 32
low_name : (b : ℕ) → b < 32 → is_name b ≡ false
unfolding is_name begins_name is_letter is_digit between
low_name b h =
    rw (lt-leb 97 b (omega arith), lt-leb 65 b (omega arith), ne_eqb b 95 (λ e. omega (arith, e)), ne_eqb b 58 (λ e. omega (arith, e)), lt-leb 128 b (omega arith), lt-leb 48 b (omega arith), ne_eqb b 45 (λ e. omega (arith, e)), ne_eqb b 46 (λ e. omega (arith, e)))

pub high_control : (b : ℕ) → 32 ≤ b → is_control b ≡ false
unfolding is_control
high_control b h = rw (le-ltb b 32 h)

-- a byte that is looked for before the others
name_control : (b : ℕ) → is_name b ≡ true → is_control b ≡ false
name_control b e = by_order 32 b (high_control b) (λ h. absurd (false≢true (sym (low_name b h) ∙ e)))

blank_control : (b : ℕ) → is_blank b ≡ true → is_control b ≡ false
unfolding is_control
blank_control b e = rw e (go (ltb b 32))
  where
    go : (x : Bool) → x && not true ≡ false
    go true = refl
    go false = refl

-- what is plain is not the byte that ends it, and no control
plain_not : (v b : ℕ) → is_plain v b ≡ true → (eqb b v ≡ false) × (is_control b ≡ false)
unfolding is_plain if◌then◌or_else◌
plain_not v b e = go (ltb b 32) refl (eqb b v) refl e
  where
    go : (x : Bool) → ltb b 32 ≡ x → (y : Bool) → eqb b v ≡ y → (if x then false or_else if y then false or_else if eqb b 38 then false or_else not (eqb b 60)) ≡ true → (eqb b v ≡ false) × (is_control b ≡ false)
    go true ex y ey h = absurd (false≢true h)
    go false ex true ey h = absurd (false≢true h)
    go false ex false ey h = (ey, by_order 32 b (high_control b) (λ l. absurd (false≢true (sym ex ∙ lt-ltb b 32 l))))

-- what such a byte does
pub record Stays (s : State) (m b i q : ℕ) : Type 0 where
  pub goes : moved (record { state = s; mark = m }) b i q ≡ On (record { state = s; mark = m })
  pub nothing : whole s b ≡ Nothing
  pub plain : is_control b ≡ false

module _ (m b i q : ℕ) where
  in_value_lem : (v : ℕ) → is_plain v b ≡ true → Stays (Tag (Value v)) m b i q
  unfolding is_plain moved move_to step in_tag in_value whole whole_in_tag if◌then◌or_else◌
  in_value_lem v e = go (ltb b 32) refl (eqb b v) refl (eqb b 38) refl (eqb b 60) refl e
    where
      go : (x : Bool) → ltb b 32 ≡ x → (y : Bool) → eqb b v ≡ y → (z : Bool) → eqb b 38 ≡ z → (u : Bool) → eqb b 60 ≡ u → (if x then false or_else if y then false or_else if z then false or_else not u) ≡ true → Stays (Tag (Value v)) m b i q
      go true ex y ey z ez u eu h = absurd (false≢true h)
      go false ex true ey z ez u eu h = absurd (false≢true h)
      go false ex false ey true ez u eu h = absurd (false≢true h)
      go false ex false ey false ez true eu h = absurd (false≢true h)
      go false ex false ey false ez false eu h =
          record {
            goes = rw (ey, ez, eu) refl;
            nothing = refl;
            plain = by_order 32 b (high_control b) (λ l. absurd (false≢true (sym ex ∙ lt-ltb b 32 l)));
          }

  in_comment_lem : (s : InComment) → stays_in_comment s b ≡ true → Stays (Comment s) m b i q
  unfolding stays_in_comment moved move_to step in_comment whole if◌then◌or_else◌
  in_comment_lem Inside e = let k = plain_not 45 b e in record { goes = rw k.0 refl; nothing = refl; plain = k.1 }
  in_comment_lem Dash e = absurd (false≢true e)
  in_comment_lem Dashes e = absurd (false≢true e)

  in_data_lem : (s : InData) → stays_in_data s b ≡ true → Stays (Data s) m b i q
  unfolding stays_in_data moved move_to step in_data whole if◌then◌or_else◌
  in_data_lem InsideData e = let k = plain_not 93 b e in record { goes = rw k.0 refl; nothing = refl; plain = k.1 }
  in_data_lem Bracket e = absurd (false≢true e)
  in_data_lem Brackets e = absurd (false≢true e)

  in_instruction_lem : (s : InInstruction) → stays_in_instruction s b ≡ true → Stays (Instruction s) m b i q
  unfolding stays_in_instruction moved move_to step in_instruction whole whole_in_instruction if◌then◌or_else◌
  in_instruction_lem InstructionOpened e = absurd (false≢true e)
  in_instruction_lem Target e = absurd (false≢true e)
  in_instruction_lem TargetMark e = absurd (false≢true e)
  in_instruction_lem InsideInstruction e = let k = plain_not 63 b e in record { goes = rw k.0 refl; nothing = refl; plain = k.1 }
  in_instruction_lem Mark e = absurd (false≢true e)

  in_tag_lem : (s : InTag) → stays_in_tag s b ≡ true → Stays (Tag s) m b i q
  unfolding stays_in_tag moved move_to step in_tag behind_blank whole whole_in_tag end_of if◌then◌or_else◌
  in_tag_lem Name e = record { goes = rw e refl; nothing = refl; plain = name_control b e }
  in_tag_lem Blank e = record { goes = rw e refl; nothing = refl; plain = blank_control b e }
  in_tag_lem InAttribute e = record { goes = rw e refl; nothing = rw e refl; plain = name_control b e }
  in_tag_lem Named e = absurd (false≢true e)
  in_tag_lem Equals e = absurd (false≢true e)
  in_tag_lem (Value v) e = in_value_lem v e
  in_tag_lem (Reference v) e = absurd (false≢true e)
  in_tag_lem Behind e = absurd (false≢true e)
  in_tag_lem Slash e = absurd (false≢true e)

  in_end_lem : (s : InEnd) → stays_in_end s b ≡ true → Stays (EndTag s) m b i q
  unfolding stays_in_end moved move_to step in_end whole if◌then◌or_else◌
  in_end_lem Opened e = absurd (false≢true e)
  in_end_lem EndName e = record { goes = rw e refl; nothing = refl; plain = name_control b e }
  in_end_lem EndBehind e = absurd (false≢true e)

  pub in_state : (s : State) → stays s b ≡ true → Stays s m b i q
  unfolding stays
  in_state Begin e = absurd (false≢true e)
  in_state (Opening s) e = absurd (false≢true e)
  in_state (Comment s) e = in_comment_lem s e
  in_state (Data s) e = in_data_lem s e
  in_state (Instruction s) e = in_instruction_lem s e
  in_state (Tag s) e = in_tag_lem s e
  in_state (EndTag s) e = in_end_lem s e
  in_state AtReference e = absurd (false≢true e)

-- what a run of such bytes does to a reader F of the bytes from a place on, where each of them leads F to the next
module _ {A : Type 0} (t : List ℕ) (f : ℕ → Bool) (F : List ℕ → ℕ → A) (on : (b : ℕ) (s : List ℕ) (i : ℕ) → i < length t → f (at t i) ≡ true → F (b ∷ s) i ≡ F s (i + 1)) where
  run_same : (s : List ℕ) (i : ℕ) → s ≡ drop i t → F s i ≡ F (drop (past f s i) t) (past f s i)
  unfolding past
  run_same [] i e = rw (← e) refl
  run_same (b ∷ s) i e = go (f b) refl (run_same s (i + 1) rest)
    where
      inside : i < length t
      inside = omega (arith, length-drop i t, ap length e)

      split : b ∷ s ≡ at t i ∷ drop (i + 1) t
      split = e ∙ drop-cons t i 0 inside ∙ rw (add-one i)

      first : b ≡ at t i
      first = ap (λ l. get_or l 0 0) split

      rest : s ≡ drop (i + 1) t
      rest = ap (drop 1) split

      go : (x : Bool) → f b ≡ x → F s (i + 1) ≡ F (drop (past f s (i + 1)) t) (past f s (i + 1)) → F (b ∷ s) i ≡ F (drop (if x then past f s (i + 1) or_else i) t) (if x then past f s (i + 1) or_else i)
      go true ex k = unfold if◌then◌or_else◌ in on b s i inside (ap f (sym first) ∙ ex) ∙ k
      go false ex k = unfold if◌then◌or_else◌ in rw (← e) refl

  pub run_stay : (i j : ℕ) → j ≡ past f (drop i t) i → F (drop i t) i ≡ F (drop j t) j
  run_stay i j e = rw e (run_same (drop i t) i refl)

module _ (t : List ℕ) (start : ℕ) (c : Cursor) where
  scan_step : (b : ℕ) (s : List ℕ) (i : ℕ) → i < length t → stays c.state (at t i) ≡ true → scan_from t start c (b ∷ s) i ≡ scan_from t start c s (i + 1)
  unfolding scan_from advance is_faulty if_on if◌then◌or_else◌
  scan_step b s i h e =
      let k = in_state c.mark (at t i) i (i + 1) c.state e in
      rw (lt-leb (length t) i h, k.nothing, k.plain, k.goes) refl

  pub scan_stay : (i j : ℕ) → j ≡ past (stays c.state) (drop i t) i → scan_from t start c (drop i t) i ≡ scan_from t start c (drop j t) j
  scan_stay = run_stay t (stays c.state) (scan_from t start c) scan_step

-- a run of bytes of a class ends behind as many of them as stand before the first that is not of it
run_length : (class : ℕ → Bool) (w : List ℕ) (p : ℕ) → p + prefix_len class w ≡ past class w p
unfolding past if◌then◌or_else◌
run_length class [] p = add-zero p
run_length class (b ∷ w) p = go (class b) (run_length class w (p + 1))
  where
    go : (x : Bool) → p + 1 + prefix_len class w ≡ past class w (p + 1) → p + cond x (1 + prefix_len class w) 0 ≡ (if x then past class w (p + 1) or_else p)
    go true e = omega arith
    go false e = add-zero p

-- where `position`, asked for a byte that is not of the class, finds one, or else behind the last byte, there the run ends
pub past_of_position : {S A F : Type 0} {steps : S → Option A → S → Type 0} {v : A → ℕ} {g : Mut F (A × Unit {0}) Bool} {s : S} (class : ℕ → Bool) (w : List ℕ) (p : ℕ) (u : S) (f : F) (r : Option ℕ) → (xs : List A) × (o : Option A) × (j : F) × YieldsThen steps s xs o u × FoldsTo (λ k x q. Called g k (x, tt) false q) f xs j × MatchOption o (r ≡ None) (λ x. (r ≡ Some (length xs)) × ((h : F) × Called g j (x, tt) true h)) → YieldsList steps v s w → ((x : A) (q : F) → Called g f (x, tt) true q → class (v x) ≡ false) → ((x : A) (q : F) → Called g f (x, tt) false q → (q ≡ f) × (class (v x) ≡ true)) → p + unwrap_or r (length w) ≡ past class w p
past_of_position class w p u f r ran yields out within =
    ap (λ n. p + n) (sym (index_from_first (prefix_len class) (λ b. class b ≡ false) (λ b. class b ≡ true) refl (λ b s e. rw e refl) (λ b s e. rw e (omega arith)) w r (IsFirst-from_position u f r (λ b. class b ≡ false) (λ b. class b ≡ true) ran yields out within)))
    ∙ run_length class w p

-- a state that no byte leaves where it is
pub past_none : (s : List ℕ) (i : ℕ) → i ≡ past (λ b. false) s i
unfolding past if◌then◌or_else◌
past_none [] i = refl
past_none (b ∷ s) i = refl
