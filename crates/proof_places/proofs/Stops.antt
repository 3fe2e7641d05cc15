-- WHERE READING STOPPED, and how it goes on from there in a text that was cut at that place. Assumes nothing.
use Prim.Native.Nat.{ℕ, ◌+◌, ◌≤◌}
use mathlib.Core.Path.{◌≡◌, ◌∙◌, refl, sym, ap, subst}
use mathlib.Core.Bool.{Bool, false}
use mathlib.Core.List.{List, [], ◌∷◌}
use native.Mathlib.Omega.{arith}
use lib.ListN.{length, drop, length-drop}
use Rattle.base_words.specs.Each.{each}
use Rattle.text_lexer.specs.declared.Form.{Form}
use Rattle.text_lexer.specs.declared.Form.TheVariants.{End}
use Rattle.text_lexer.specs.declared.Token.{Token}
use Rattle.text_lexer.specs.Lexer.{is_blank, placed, token_at, if_end}
use Rattle.base_bytes.specs.Bytes.{among}
use Rattle.text_lexer.proofs.TokenLaws.{end_at_lem, token_from, token_order, token_within}
use Rattle.std.specs.declared.result.Result.TheVariants.{Ok, Err}
use Rattle.text_readers.specs.Reading.{Read, Refused, misplaced, place_of, behind, letters, end_at}
use Rattle.base_words.specs.Words.{part}
use Rattle.proof_places.proofs.Pieces.{lexeme, is_end, Piece, met, written, Cut, cut_token, cut_lexeme, piece_token, piece_lexeme, piece_left}
use Rattle.proof_places.proofs.Grammar.{Turn, passes, refuses, Grammar, turn, next, Leads, ends, fails, steps, Whole, over, more, Live, live}

abbrev pub stop_place : List ℕ → Read → ℕ
stop_place t (Ok q) = place_of t q
stop_place t (Err e) = e.place

abbrev pub stop_turn : Read → Turn
stop_turn (Ok q) = passes
stop_turn (Err e) = refuses e.number

pub record Stop (P : Form → Bool) (t : List ℕ) (g : Grammar) (from : ℕ) (p : ℕ) (x : Turn) : Type 0 where
  pub state : Grammar
  pub here : ℕ
  pub living : Live P state
  pub place : place_of t here ≡ p
  pub turned : turn state (lexeme t here) ≡ x
  pub inside : p ≤ length t
  pub beyond : from ≤ p
  pub back : (u w : List ℕ) → Cut t u p w → (r : Read) → Leads u r state here → Leads u r g from

-- here, where the grammar ends or refuses
stays : (P : Form → Bool) (t : List ℕ) (r : Read) (g : Grammar) (from : ℕ) → from ≤ length t → Live P g → turn g (lexeme t from) ≡ stop_turn r → place_of t from ≡ stop_place t r → Stop P t g from (stop_place t r) (stop_turn r)
stays P t r g from h lv e z = record {
  state = g;
  here = from;
  living = lv;
  place = z;
  turned = e;
  inside = omega (arith, z, token_order t from, token_within t from h);
  beyond = omega (arith, z, token_from t from);
  back = λ u w c s l. l;
}

pub stopped : (P : Form → Bool) (t : List ℕ) (r : Read) (g : Grammar) (from : ℕ) → from ≤ length t → Live P g → Leads t r g from → Stop P t g from (stop_place t r) (stop_turn r)
stopped P t r g from h lv (ends e z) = stays P t r g from h lv (e ∙ sym (ap stop_turn z)) (sym (ap (stop_place t) z))
stopped P t r g from h lv (fails n e z) = stays P t r g from h lv (e ∙ sym (ap stop_turn z)) (sym (ap (stop_place t) z))
stopped P t r g from h (live hope excess onward) (steps e some l) =
    let s = stopped P t r (next g (lexeme t from)) (behind t from) (token_within t from h) (onward (lexeme t from) e) l in
    record {
      state = s.state;
      here = s.here;
      living = s.living;
      place = s.place;
      turned = s.turned;
      inside = s.inside;
      beyond = omega (arith, s.beyond, token_from t from, token_order t from);
      back = λ u w c q m.
          let same = cut_lexeme t u (stop_place t r) w c from some s.beyond in
          let tok = cut_token t u (stop_place t r) w c from some s.beyond in
          steps (ap (turn g) same ∙ e) (ap (λ (k : Token). is_end k.form) tok ∙ some)
          (subst (λ (x : Grammar). Leads u q x (behind u from)) (sym (ap (next g) same))
          (subst (λ (k : ℕ). Leads u q (next g (lexeme t from)) k) (sym (ap (λ (k : Token). k.next) tok)) (s.back u w c q m)));
    }

-- pieces behind a blank are read whole, to the text's end
pub record Ended (u : List ℕ) (g : Grammar) (from : ℕ) : Type 0 where
  pub to : ℕ
  pub leads : Leads u (Ok to) g from
  pub last : end_at u to ≡ Ok (length u)

last_token : (u : List ℕ) (p : ℕ) → drop p u ≡ 32 ∷ [] → token_at u p ≡ placed End (length u) (length u)
unfolding each is_blank among
last_token u p e = end_at_lem u p (ap (each is_blank) e) (omega (arith, length-drop p u, ap length e))

end_by : (u : List ℕ) (from : ℕ) → token_at u from ≡ placed End (length u) (length u) → end_at u from ≡ Ok (length u)
unfolding end_at if_end
end_by u from e = ap (λ (k : Token). if_end k.form (Ok k.next) (Refused misplaced k.at)) e

pub read_whole : (u : List ℕ) (g : Grammar) (bs : List Piece) (from p : ℕ) → token_at u from ≡ token_at u p → drop p u ≡ 32 ∷ written bs → Whole is_end g bs → Ended u g from
unfolding written
read_whole u g bs from p e d (over f) =
    let k = e ∙ last_token u p d in
    record { to = from; leads = ends (f (lexeme u from) (ap (λ (x : Token). is_end x.form) k)) refl; last = end_by u from k }
read_whole u g bs from p e d (more {bs = cs} b z w) =
    let same : lexeme u from ≡ met b = ap (λ (k : Token). record { form = k.form; letters = part u k.at k.next }) e ∙ piece_lexeme b u p (written cs) d in
    let some : is_end (token_at u from).form ≡ false = ap (λ (k : Token). is_end k.form) (e ∙ piece_token b u p (written cs) d) ∙ b.some in
    let on : drop (behind u from) u ≡ 32 ∷ written cs = ap (λ (k : Token). drop k.next u) e ∙ piece_left b u p (written cs) d in
    let r = read_whole u (next g (met b)) cs (behind u from) (behind u from) refl on w in
    record {
      to = r.to;
      leads = steps (ap (turn g) same ∙ z) some (subst (λ (x : Grammar). Leads u (Ok r.to) x (behind u from)) (sym (ap (next g) same)) r.leads);
      last = r.last;
    }

-- a piece behind a blank is refused
pub read_refused : (u : List ℕ) (g : Grammar) (b : Piece) (n from p : ℕ) → token_at u from ≡ token_at u p → drop p u ≡ 32 ∷ written (b ∷ []) → turn g (met b) ≡ refuses n → Leads u (Refused n (p + 1)) g from
unfolding written
read_refused u g b n from p e d z =
    let k = e ∙ piece_token b u p [] d in
    let same : lexeme u from ≡ met b = ap (λ (k : Token). record { form = k.form; letters = part u k.at k.next }) e ∙ piece_lexeme b u p [] d in
    fails n (ap (turn g) same ∙ z) (ap (Refused n) (sym (ap (λ (x : Token). x.at) k)))
