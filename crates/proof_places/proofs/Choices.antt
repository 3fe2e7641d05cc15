-- READERS THAT CHOOSE by a grammar: by a sign that may stand there, by the token, and lists with a sign between their items. Assumes nothing.
use Prim.Native.Char.{code}
use Prim.Native.Nat.{ℕ, zero, suc, ◌+◌, ◌<◌, ◌≤◌}
use mathlib.Core.Path.{◌≡◌, ◌∙◌, refl, sym, ap, subst}
use mathlib.Core.Bool.{Bool, true, false}
use mathlib.Core.List.{List, [], ◌∷◌}
use native.Mathlib.Omega.{arith}
use lib.Dec.{ltb}
use lib.ListN.{set}
use borrow.Author.Tests.{ltb-true}
use Rattle.base_words.specs.Pick.{if◌then◌or_else◌}
use Rattle.text_lexer.specs.declared.Form.{Form}
use Rattle.text_lexer.specs.declared.Form.TheVariants.{Sign}
use Rattle.text_lexer.specs.Lexer.{token_at}
use Rattle.std.specs.declared.result.Result.TheVariants.{Ok}
use Rattle.text_readers.specs.Reading.{Read, Refused, Parsed, Reader, misplaced, excessive, passed_to, refused_at, if_at, onward, ◌then◌, place_of, behind, sign_at, sign}
use Rattle.text_parts.specs.Parts.{too_many, counted, items_from}
use Rattle.proof_places.proofs.Tests.{choose, by_test}
use Rattle.proof_places.proofs.Pieces.{Lexeme, lexeme, Piece, met}
use Rattle.proof_places.proofs.Grammar.{takes, refuses, takes_refuses, passes_refuses, Grammar, done, node, turn, next, Leads, ends, fails, steps, Whole, over, more, starts_one, sample, Ranged, count, full, Live, live}
use Rattle.proof_places.proofs.Runs.{any, Runs, Reads, Tries, Calm, reads_as, reads_tries, led_calm, still_runs, then_calm, signal_then}
use Rattle.proof_places.proofs.Leaves.{showing, showing_sign, two_three, Sighted, seen, unseen, sighted, sign_signal}

-- BY A SIGN that may stand there
abbrev pub look : ℕ → Reader → Reader → Reader
look s f g t from x = if_at (sign_at s t from) (λ q. f t q x) (g t from x)

abbrev looked : ℕ → Grammar → Grammar → Grammar
looked s g h = node (λ k. choose (showing s k.form) takes (turn h k)) (λ k. choose (showing s k.form) g (next h k))

module _ (s : ℕ) (g h : Grammar) where
  unseen-turn : (k : Lexeme) → showing s k.form ≡ false → turn (looked s g h) k ≡ turn h k
  unseen-turn k e = ap (λ (c : Bool). choose c takes (turn h k)) e

  unseen-next : (k : Lexeme) → showing s k.form ≡ false → next (looked s g h) k ≡ next h k
  unseen-next k e = ap (λ (c : Bool). choose c g (next h k)) e

  seen-turn : (k : Lexeme) → showing s k.form ≡ true → turn (looked s g h) k ≡ takes
  seen-turn k e = ap (λ (c : Bool). choose c takes (turn h k)) e

  seen_next : (k : Lexeme) → showing s k.form ≡ true → next (looked s g h) k ≡ g
  seen_next k e = ap (λ (c : Bool). choose c g (next h k)) e

  unseen_leads : (t : List ℕ) (r : Read) (from : ℕ) → showing s (token_at t from).form ≡ false → Leads t r h from → Leads t r (looked s g h) from
  unseen_leads t r from n (ends e z) = ends (unseen-turn (lexeme t from) n ∙ e) z
  unseen_leads t r from n (fails m e z) = fails m (unseen-turn (lexeme t from) n ∙ e) z
  unseen_leads t r from n (steps e z l) =
      steps (unseen-turn (lexeme t from) n ∙ e) z (subst (λ (x : Grammar). Leads t r x (behind t from)) (sym (unseen-next (lexeme t from) n)) l)

  look_leads : (t : List ℕ) (from : ℕ) (r : Read) (f : ℕ → Parsed) (y : Parsed) → Sighted s (token_at t from) r → ((q : ℕ) → Leads t (f q).end g q) → Leads t y.end h from → Leads t (if_at r f y).end (looked s g h) from
  unfolding if_at
  look_leads t from r f y (seen c some z) lf ly =
      steps (seen-turn (lexeme t from) c) some
      (subst (λ (x : Grammar). Leads t (if_at r f y).end x (behind t from)) (sym (seen_next (lexeme t from) c))
      (subst (λ (x : Read). Leads t (if_at x f y).end g (behind t from)) (sym z) (lf (behind t from))))
  look_leads t from r f y (unseen c z) lf ly = subst (λ (x : Read). Leads t (if_at x f y).end (looked s g h) from) (sym z) (unseen_leads t y.end from c ly)

  module _ (P : Form → Bool) (ranged : (k : Lexeme) → turn h k ≡ refuses excessive → Ranged P h k) where
    sample-unseen : (b : Bool) → showing s (sample b).form ≡ false
    sample-unseen true = refl
    sample-unseen false = refl

    look_ranged : (k : Lexeme) → turn (looked s g h) k ≡ refuses excessive → Ranged P (looked s g h) k
    look_ranged k z =
        by_test (showing s k.form)
        (λ c. takes_refuses (turn (looked s g h) k) excessive (seen-turn k c) z)
        (λ c.
        let r = ranged k (sym (unseen-turn k c) ∙ z) in
        let n = sample-unseen r.better in
        record {
          spelled = r.spelled;
          better = r.better;
          taken = unseen-turn (met (sample r.better)) n ∙ r.taken;
          pieces = r.pieces;
          whole = subst (λ (x : Grammar). Whole P x r.pieces) (sym (unseen-next (met (sample r.better)) n)) r.whole;
        })

    look_onward : Live P g → ((k : Lexeme) → turn h k ≡ takes → Live P (next h k)) → (k : Lexeme) → turn (looked s g h) k ≡ takes → Live P (next (looked s g h) k)
    look_onward lg lh k z =
        by_test (showing s k.form)
        (λ c. subst (Live P) (sym (seen_next k c)) lg)
        (λ c. subst (Live P) (sym (unseen-next k c)) (lh k (sym (unseen-turn k c) ∙ z)))

abbrev look_runs : {P : Form → Bool} {f g : Reader} (s : ℕ) → Tries P f → Runs P g → Runs P (look s f g)
look_runs {P} {f} {g} s a b = record {
  grammar = looked s a.grammar b.grammar;
  leads = λ t from x. look_leads s a.grammar b.grammar t from (sign_at s t from) (λ q. f t q x) (g t from x) (sighted s t from) (λ q. a.leads t q x) (b.leads t from x);
  ranged = look_ranged s a.grammar b.grammar P b.ranged;
  onward = look_onward s a.grammar b.grammar P b.ranged a.living b.onward;
}

-- with the sign it is read whole
pub look_reads : {P : Form → Bool} {f g : Reader} (s : ℕ) (b : Piece) → b.form ≡ Sign s → Reads P f → Reads P g → Reads P (look s f g)
look_reads {P} s b e a c =
    let G = a.runs.grammar in
    let H = c.runs.grammar in
    record {
      runs = look_runs s (reads_tries a) c.runs;
      pieces = b ∷ a.pieces;
      whole = more b (seen-turn s G H (met b) (showing_sign s b.form e)) (subst (λ (x : Grammar). Whole P x a.pieces) (sym (seen_next s G H (met b) (showing_sign s b.form e))) a.whole);
    }

-- without it nothing is
pub look_still : {P : Form → Bool} {f : Reader} (s : ℕ) (g : Reader) → ((t : List ℕ) (from : ℕ) (x : List ℕ) → (g t from x).end ≡ Ok from) → ((m : Form) → P m ≡ true → showing s m ≡ false) → Tries P f → Calm P (look s f g)
look_still {P} s g still apart a =
    let G = a.grammar in
    record {
      reads = record { runs = look_runs s a (still_runs g still); pieces = []; whole = over (λ k q. unseen-turn s G done k (apart k.form q)) };
      calm = λ k z.
          by_test (showing s k.form)
          (λ c. takes_refuses (turn (looked s G done) k) excessive (seen-turn s G done k c) z)
          (λ c. passes_refuses (turn (looked s G done) k) excessive (unseen-turn s G done k c) z);
    }

-- BY THE TOKEN
pub by_leads : (G : Lexeme → Grammar) (t : List ℕ) (r : Read) (from : ℕ) → Leads t r (G (lexeme t from)) from → Leads t r (node (λ k. turn (G k) k) (λ k. next (G k) k)) from
by_leads G t r from (ends e z) = ends e z
by_leads G t r from (fails n e z) = fails n e z
by_leads G t r from (steps e z l) = steps e z l

-- any token, and then a grammar; no token
abbrev pub lead : Grammar → Grammar
lead g = node (λ k. takes) (λ k. g)

abbrev pub never : Grammar
never = node (λ k. refuses misplaced) (λ k. done)

-- ONE ITEM TOO MANY
pub record Starting (starting : List ℕ → ℕ → Bool) : Type 0 where
  pub test : Lexeme → Bool
  pub same : (t : List ℕ) (from : ℕ) → starting t from ≡ test (lexeme t from)
  pub such : Piece
  pub passing : test (met such) ≡ true
  pub item : (k : Lexeme) → test k ≡ true → starts_one k ≡ true

abbrev surplus : Bool → ℕ
surplus c = if c then excessive or_else misplaced

surplus_three : (c : Bool) → refuses (surplus c) ≡ refuses excessive → c ≡ true
unfolding if◌then◌or_else◌
surplus_three true e = refl
surplus_three false e = two_three e

pub full_tries : {P : Form → Bool} {starting : List ℕ → ℕ → Bool} (f : Reader) → Starting starting → ((t : List ℕ) (from : ℕ) (x : List ℕ) → (f t from x).end ≡ Refused (surplus (starting t from)) (place_of t from)) → Tries P f
full_tries f st e =
    record {
      grammar = node (λ k. refuses (surplus (st.test k))) (λ k. done);
      leads = λ t from x. fails (surplus (st.test (lexeme t from))) refl (e t from x ∙ ap (λ (c : Bool). Refused (surplus c) (place_of t from)) (st.same t from));
      living = live (full st.such (ap (λ (c : Bool). refuses (surplus c)) st.passing ∙ all_three))
          (λ k z. count (record { starting = st.item k (surplus_three (st.test k) z); none = λ j. (surplus (st.test j), refl) }))
          (λ k z. takes_refuses (refuses (surplus (st.test k))) (surplus (st.test k)) z refl);
    }
  where
    all_three : refuses (surplus true) ≡ refuses excessive
    all_three = unfold if◌then◌or_else◌ in refl

-- a sign that must stand there
must_end : (s : ℕ) (f : Reader) (t : List ℕ) (from : ℕ) (x : List ℕ) → ((sign s then f) t from x).end ≡ (if_at (sign_at s t from) (λ q. f t q x) (refused_at misplaced (place_of t from) x)).end
unfolding ◌then◌ onward if_at
must_end s f t from x = go (sign_at s t from) (sighted s t from)
  where
    go : (r : Read) → Sighted s (token_at t from) r → (if_at r (λ q. f t q x) (record { end = r; words = x })).end ≡ (if_at r (λ q. f t q x) (refused_at misplaced (place_of t from) x)).end
    go r (seen c some z) = ap (λ (y : Read). (if_at y (λ q. f t q x) (record { end = r; words = x })).end) z ∙ sym (ap (λ (y : Read). (if_at y (λ q. f t q x) (refused_at misplaced (place_of t from) x)).end) z)
    go r (unseen c z) = ap (λ (y : Read). (if_at y (λ q. f t q x) (record { end = y; words = x })).end) z ∙ sym (ap (λ (y : Read). (if_at y (λ q. f t q x) (refused_at misplaced (place_of t from) x)).end) z)

-- ITEMS with commas between them
module _ (P : Form → Bool) (item : ℕ → Reader) (starting : List ℕ → ℕ → Bool) (least total : ℕ)
    (each_item : (k : ℕ) → Reads any (item k)) (st : Starting starting)
    (b : Piece) (comma : b.form ≡ Sign (code ",")) (apart : (m : Form) → P m ≡ true → showing (code ",") m ≡ false) where
  from_item : ℕ → ℕ → Reader
  from_item n k = items_from item starting least total n k

  too_many_lem : (k : ℕ) → Tries P (from_item zero k)
  unfolding from_item items_from too_many
  too_many_lem k = full_tries _ st (λ t from x. refl)

  -- behind an item
  abbrev tail : ℕ → ℕ → Reader
  tail n k = look (code ",") (from_item n (k + 1)) (counted least total (k + 1))

  tail_last : (n k : ℕ) → ltb (k + 1) least ≡ false → Tries P (from_item n (k + 1)) → Calm P (tail n k)
  unfolding counted if◌then◌or_else◌
  tail_last n k h a = look_still (code ",") _ (λ t from x. ap (λ (c : Bool). (if c then refused_at misplaced (place_of t from) x or_else passed_to from (set x total (k + 1))).end) h) apart a

  tail_short : (n k : ℕ) → ltb (k + 1) least ≡ true → Reads P (from_item n (k + 1)) → Calm P (tail n k)
  unfolding counted if◌then◌or_else◌
  tail_short n k h a =
      let c = led_calm (signal_then (sign_signal (code ",") b comma) a) in
      record {
        reads = reads_as
            (λ t from x.
            must_end (code ",") (from_item n (k + 1)) t from x
            ∙ sym (ap (λ (d : Bool). (if_at (sign_at (code ",") t from) (λ q. from_item n (k + 1) t q x) (if d then refused_at misplaced (place_of t from) x or_else passed_to from (set x total (k + 1)))).end) h))
            c.reads;
        calm = c.calm;
      }

  tail_calm : (n k : ℕ) → Tries P (from_item n (k + 1)) → (k + 1 < least → Reads P (from_item n (k + 1))) → Calm P (tail n k)
  tail_calm n k a r = by_test (ltb (k + 1) least) (λ h. tail_short n k h (r (ltb-true (k + 1) least h))) (λ h. tail_last n k h a)

  with_tail : (n k : ℕ) → Calm P (tail n k) → Reads P (from_item (suc n) k)
  unfolding from_item items_from ◌then◌
  with_tail n k c = then_calm (each_item k) c

  items_from_lem : (n k : ℕ) → least ≤ k + suc n → Reads P (from_item (suc n) k)
  items_from_lem zero k h = with_tail zero k (tail_calm zero k (too_many_lem (k + 1)) (λ l. absurd (omega (arith, h, l))))
  items_from_lem (suc n) k h =
      let r = items_from_lem n (k + 1) (omega (arith, h)) in
      with_tail (suc n) k (tail_calm (suc n) k (reads_tries r) (λ l. r))

  pub items_reads : (n k : ℕ) → least ≤ k + suc n → Reads P (items_from item starting least total (suc n) k)
  unfolding from_item
  items_reads = items_from_lem
