-- 2 AND 3 SAY WHAT THEY SAY: what stands before a refusal goes on to a text of the notation, or a count is full there. Assumes nothing.
use Prim.Native.Nat.{ℕ, ◌+◌, ◌<◌}
use mathlib.Core.Path.{◌≡◌, ◌∙◌, refl, sym, ap, subst}
use mathlib.Core.Bool.{Bool, true, false}
use mathlib.Core.List.{List, [], ◌∷◌, map}
use native.Mathlib.Omega.{arith}
use lib.Dec.{eqb, ltb}
use lib.ListN.{length}
use Rattle.base_words.specs.Counts.{text_most}
use Rattle.base_words.specs.Each.{each}
use Rattle.base_words.specs.Pick.{if◌then◌or_else◌}
use Rattle.base_words.specs.Words.{part}
use Rattle.check_model.specs.Checks.{lowest}
use Rattle.text_lexer.specs.declared.Form.{Form}
use Rattle.text_lexer.specs.declared.Form.TheVariants.{Word, Sign, Assign, End, Other}
use Rattle.text_lexer.specs.declared.Token.{Token}
use Rattle.text_lexer.specs.Lexer.{token_at, if_end}
use Rattle.text_lexer.proofs.LocalLaws.{token_again}
use Rattle.std.specs.declared.result.Result.TheVariants.{Ok, Err}
use Rattle.text_readers.specs.Reading.{Read, Refused, misplaced, excessive, if_at, place_of, behind, letters, end_at, starts_number, starts_field, starts_sign}
use Rattle.text_elements.specs.Elements.{starts_element}
use Rattle.text_read.specs.Notation.{ReadInto, starts_pool, pools_at, model, table_of, rewritten, has_room, checked, judged, read_into}
use Rattle.proof_places.proofs.PlaceRight.{place_right}
use Rattle.proof_places.specs.Continued.{resumed, Nowhere, GoesOn, whole, too_many, Misplaced, is_numeral, starts_item, Exceeds, range, count, Excessive}
use Rattle.proof_places.proofs.Pieces.{Lexeme, lexeme, is_end, Piece, met, written, Cut, cut_resumed, cut_here, piece_lexeme}
use Rattle.proof_places.proofs.Grammar.{Turn, passes, refuses, passes_refuses, refused_alike, Grammar, turn, next, Leads, fails, same_end, Whole, more, numeral, starts_one, sample, sample_numeral, Ranged, Counted, Excess, range as ofRange, count as ofCount, goes, full, Live, live}
use Rattle.proof_places.proofs.Runs.{reads_live}
use Rattle.proof_places.proofs.Models.{pools_reads}
use Rattle.proof_places.proofs.Stops.{stop_place, stop_turn, Stop, stopped, read_whole, read_refused}

abbrev text : Grammar
text = pools_reads.runs.grammar

-- the end of a text is refused with 2, at the token that stands there
end_refused : (t : List ℕ) (q n p : ℕ) → end_at t q ≡ Refused n p → (n ≡ misplaced) × (place_of t q ≡ p)
unfolding end_at if_end
end_refused t q n p e = go (token_at t q).form e
  where
    two : Refused misplaced (place_of t q) ≡ Refused n p → (n ≡ misplaced) × (place_of t q ≡ p)
    two z = (sym (refused_alike (refuses misplaced) misplaced n refl (ap stop_turn z)), ap (stop_place t) z)

    go : (m : Form) → if_end m (Ok (behind t q)) (Refused misplaced (place_of t q)) ≡ Refused n p → (n ≡ misplaced) × (place_of t q ≡ p)
    go Word z = two z
    go (Sign b) z = two z
    go Assign z = two z
    go End z = passes_refuses passes n refl (ap stop_turn z)
    go Other z = two z

-- WHERE A TEXT WAS REFUSED: in its pools, or behind them
data Refusal (t : List ℕ) (n p : ℕ) : Type 0 where
  within : Stop is_end t text 0 p (refuses n) → Refusal t n p
  past : n ≡ misplaced → Stop is_end t text 0 p passes → Refusal t n p

refusal : (t : List ℕ) (n p : ℕ) → (model t).end ≡ Refused n p → Refusal t n p
unfolding model if_at
refusal t n p e = go (pools_at t 0).end refl (stopped is_end t (pools_at t 0).end text 0 (omega arith) (reads_live pools_reads) (pools_reads.runs.leads t 0 [])) e
  where
    moved : (k j : ℕ) (x y : Turn) → k ≡ j → x ≡ y → Stop is_end t text 0 k x → Stop is_end t text 0 j y
    moved k j x y a b s = subst (Stop is_end t text 0 j) b (subst (λ (i : ℕ). Stop is_end t text 0 i x) a s)

    go : (r : Read) → (pools_at t 0).end ≡ r → Stop is_end t text 0 (stop_place t (pools_at t 0).end) (stop_turn (pools_at t 0).end) → if_at (pools_at t 0).end (end_at t) (pools_at t 0).end ≡ Refused n p → Refusal t n p
    go (Ok q) z s h =
        let k = end_refused t q n p (sym (ap (λ (r : Read). if_at r (end_at t) (pools_at t 0).end) z) ∙ h) in
        past k.0 (moved (stop_place t (pools_at t 0).end) p (stop_turn (pools_at t 0).end) passes (ap (stop_place t) z ∙ k.1) (ap stop_turn z) s)
    go (Err e) z s h =
        let k = sym (ap (λ (r : Read). if_at r (end_at t) (pools_at t 0).end) z) ∙ h in
        within (moved (stop_place t (pools_at t 0).end) p (stop_turn (pools_at t 0).end) (refuses n) (ap (stop_place t) k) (ap stop_turn k) s)

-- FROM THERE ON in another text
module _ (t : List ℕ) (p : ℕ) {x : Turn} (s : Stop is_end t text 0 p x) where
  cut : (w : List ℕ) → Cut t (resumed t p w) p w
  cut w = cut_resumed t p w s.inside

  same_token : (w : List ℕ) → token_at (resumed t p w) s.here ≡ token_at (resumed t p w) p
  same_token w = cut_here t (resumed t p w) p w (cut w) s.here s.place

  -- as its pools end
  pools_end : (w : List ℕ) (r : Read) → Leads (resumed t p w) r s.state s.here → (pools_at (resumed t p w) 0).end ≡ r
  pools_end w r l =
      same_end (resumed t p w) (pools_at (resumed t p w) 0).end r text 0 (pools_reads.runs.leads (resumed t p w) 0 []) (s.back (resumed t p w) w (cut w) r l)

  ends_refused : (w : List ℕ) (n q : ℕ) → Leads (resumed t p w) (Refused n q) s.state s.here → (model (resumed t p w)).end ≡ Refused n q
  unfolding model if_at
  ends_refused w n q l =
      let e = pools_end w (Refused n q) l in
      ap (λ (r : Read). if_at r (end_at (resumed t p w)) (pools_at (resumed t p w) 0).end) e ∙ e

  ends_whole : (bs : List Piece) → Whole is_end s.state bs → (model (resumed t p (written bs))).end ≡ Ok (length (resumed t p (written bs)))
  unfolding model if_at
  ends_whole bs w =
      let u : List ℕ = resumed t p (written bs) in
      let r = read_whole u s.state bs s.here p (same_token (written bs)) (cut (written bs)).left w in
      ap (λ (y : Read). if_at y (end_at u) (pools_at u 0).end) (pools_end (written bs) (Ok r.to) r.leads) ∙ r.last

  nowhere : ((k : Lexeme) → (n : ℕ) × (turn s.state k ≡ refuses n)) → Nowhere t p
  nowhere none w =
      let u : List ℕ = resumed t p w in
      let k = none (lexeme u s.here) in
      (k.0, ends_refused w k.0 (place_of u p) (fails k.0 k.1 (ap (λ (j : Token). Refused k.0 j.at) (sym (same_token w)))))

  ranged_whole : (k : Lexeme) → (r : Ranged is_end s.state k) → Whole is_end s.state (sample r.better ∷ r.pieces)
  ranged_whole k r = more (sample r.better) r.taken r.whole

  -- a token with 3 is out of its range, or one item too many
  overs : (b : Piece) → turn s.state (met b) ≡ refuses excessive → Excess is_end s.state (met b) → GoesOn t p
  overs b e (ofRange r) = whole (written (sample r.better ∷ r.pieces)) (ends_whole (sample r.better ∷ r.pieces) (ranged_whole (met b) r))
  overs b e (ofCount c) =
      too_many (written (b ∷ []))
      (ends_refused (written (b ∷ [])) excessive (p + 1)
      (read_refused (resumed t p (written (b ∷ []))) s.state b excessive s.here p (same_token (written (b ∷ []))) (cut (written (b ∷ []))).left e))
      (nowhere c.none)

  lives : Live is_end s.state → GoesOn t p
  lives (live (goes bs w) excess onward) = whole (written bs) (ends_whole bs w)
  lives (live (full b e) excess onward) = overs b e (excess (met b) e)

-- "2: the token at this place (or the text's end) continues no text of the notation": what stands before it goes on; with this token nothing does.
pub goes_on : (t : List ℕ) (p : ℕ) → (model t).end ≡ Refused misplaced p → GoesOn t p
goes_on t p e = go (refusal t misplaced p e)
  where
    go : Refusal t misplaced p → GoesOn t p
    go (within s) = lives t p s s.living
    go (past n s) = lives t p s s.living

pub two_right : (t : List ℕ) (p : ℕ) → (model t).end ≡ Refused misplaced p → Misplaced t p
two_right t p e = record { before = goes_on t p e; with = λ u agree. place_right t u misplaced p e agree }

-- "3: a number is outside its range or a count above it"
module _ (t : List ℕ) (p : ℕ) {x : Turn} (s : Stop is_end t text 0 p x) where
  here_lexeme : lexeme t s.here ≡ lexeme t p
  here_lexeme =
      let e : token_at t s.here ≡ token_at t p = sym (token_again t s.here) ∙ ap (token_at t) s.place in
      ap (λ (k : Token). record { form = k.form; letters = part t k.at k.next }) e

  ranges : Ranged is_end s.state (lexeme t s.here) → Exceeds t p
  unfolding is_numeral starts_number starts_field written
  ranges r =
      let b : Piece = sample r.better in
      let bs : List Piece = b ∷ r.pieces in
      range (sym (ap numeral here_lexeme) ∙ r.spelled) (written bs)
      (ap numeral (piece_lexeme b (resumed t p (written bs)) p (written r.pieces) (cut t p s (written bs)).left) ∙ sample_numeral r.better)
      (ends_whole t p s bs (ranged_whole t p s (lexeme t s.here) r))

  counts : Counted s.state (lexeme t s.here) → Exceeds t p
  unfolding starts_item is_numeral starts_number starts_field starts_sign starts_element starts_pool
  counts c = count (sym (ap starts_one here_lexeme) ∙ c.starting) (nowhere t p s c.none)

  over : Excess is_end s.state (lexeme t s.here) → Exceeds t p
  over (ofRange r) = ranges r
  over (ofCount c) = counts c

  lives_over : turn s.state (lexeme t s.here) ≡ refuses excessive → Live is_end s.state → Exceeds t p
  lives_over e (live hope excess onward) = over (excess (lexeme t s.here) e)

pub exceeds : (t : List ℕ) (p : ℕ) → (model t).end ≡ Refused excessive p → Exceeds t p
exceeds t p e = go (refusal t excessive p e)
  where
    go : Refusal t excessive p → Exceeds t p
    go (within s) = lives_over t p s s.turned s.living
    go (past n s) = absurd (omega (arith, n))

pub three_right : (t : List ℕ) (p : ℕ) → (model t).end ≡ Refused excessive p → Excessive t p
three_right t p e = record { cause = exceeds t p e; with = λ u agree. place_right t u excessive p e agree }

-- WHAT READING INTO A TABLE ANSWERS: 2 and 3 with their place are these refusals; a text of at most 65,536 bytes that is read whole is answered 0, 4 or 28.
neither : (n : ℕ) (c : Bool) (x y : ReadInto) → (x.number ≡ n → ⊥) → (y.number ≡ n → ⊥) → (if c then x or_else y).number ≡ n → ⊥
unfolding if◌then◌or_else◌
neither n true x y f g h = f h
neither n false x y f g h = g h

module _ (t table : List ℕ) where
  refused_answer : (n : ℕ) → 1 < n → n < 4 → (read_into t table).number ≡ n → (model t).end ≡ Refused n (read_into t table).beside
  unfolding read_into judged checked if◌then◌or_else◌
  refused_answer n l u e = by_length (ltb text_most (length t)) e
    where
      by_end : (r : Read) → (judged r (model t).value table).number ≡ n → r ≡ Refused n (judged r (model t).value table).beside
      by_end (Ok q) h =
          absurd (neither n (eqb (lowest (model t).value) 0)
          (if each has_room (model t).value then record { number = 0; beside = 0; table = table_of (map rewritten (model t).value) } or_else record { number = 28; beside = 0; table = table })
          (record { number = 4; beside = lowest (model t).value; table = table })
          (neither n (each has_room (model t).value)
          (record { number = 0; beside = 0; table = table_of (map rewritten (model t).value) })
          (record { number = 28; beside = 0; table = table })
          (λ z. omega (arith, z, l)) (λ z. omega (arith, z, u)))
          (λ z. omega (arith, z, u)) h)
      by_end (Err e) h = ap (λ (k : ℕ). Refused k e.place) h

      by_length : (c : Bool) → (if◌then◌or_else◌ {A = ReadInto} c (record { number = 1; beside = 0; table = table }) (judged (model t).end (model t).value table)).number ≡ n → (model t).end ≡ Refused n (if◌then◌or_else◌ {A = ReadInto} c (record { number = 1; beside = 0; table = table }) (judged (model t).end (model t).value table)).beside
      by_length true h = absurd (omega (arith, h, l))
      by_length false h = by_end (model t).end h

  pub answer_two : (read_into t table).number ≡ misplaced → GoesOn t (read_into t table).beside
  answer_two e = goes_on t (read_into t table).beside (refused_answer misplaced (omega arith) (omega arith) e)

  pub answer_three : (read_into t table).number ≡ excessive → Exceeds t (read_into t table).beside
  answer_three e = exceeds t (read_into t table).beside (refused_answer excessive (omega arith) (omega arith) e)

  pub whole_answer : (q : ℕ) → ltb text_most (length t) ≡ false → (model t).end ≡ Ok q → read_into t table ≡ checked (lowest (model t).value) (model t).value table
  unfolding read_into judged if◌then◌or_else◌
  whole_answer q short e = rw short (ap (λ (r : Read). judged r (model t).value table) e)
