-- An element, a pool and the pools of a text, by a grammar. Assumes nothing.
use Prim.Native.Char.{code}
use Prim.Native.Nat.{ℕ, zero, suc, ◌<◌}
use mathlib.Core.Path.{◌≡◌, ◌∙◌, refl, sym, ap, subst}
use mathlib.Core.Bool.{Bool, true, false, not, ◌&&◌, ◌||◌, false≢true}
use mathlib.Core.List.{List, [], ◌∷◌}
use native.Mathlib.Omega.{arith}
use lib.Dec.{eqb}
use lib.ListN.{length, replicate}
use borrow.Author.Tests.{eqb-true}
use Rattle.std.proofs.lemmas.Bool.{or_left, or_right}
use Rattle.base_words.specs.Each.{each}
use Rattle.base_words.specs.Pick.{if◌then◌or_else◌}
use Rattle.base_words.specs.Seek.{seek}
use Rattle.base_words.specs.Text.{bytes}
use Rattle.base_words.specs.Counts.{pool_numbers, instances}
use Rattle.base_words.proofs.AllLaws.{and_left, and_right}
use Rattle.base_words.proofs.ListLaws.{each_at}
use Rattle.base_kinds.specs.declared.Kind.{Kind}
use Rattle.base_kinds.specs.Kinds.{kinds, no_kind, kind_of}
use Rattle.base_table.specs.Places.{element_words, limit_in}
use Rattle.check_model.specs.Checks.{Pool}
use Rattle.text_lexer.specs.declared.Form.{Form}
use Rattle.text_lexer.specs.declared.Form.TheVariants.{Word, Sign, Assign, End, Other}
use Rattle.text_lexer.specs.Lexer.{is_sign, is_word, token_at, if_word}
use Rattle.base_bytes.specs.Bytes.{among, between, is_digit, is_letter}
use Rattle.base_bytes.specs.Bytes.{same_bytes}
use Rattle.std.specs.declared.result.Result.TheVariants.{Ok, Err}
use Rattle.text_readers.specs.Reading.{Read, Refused, Parsed, Reader, misplaced, excessive, passed_to, if_at, onward, ◌then◌, nothing, place_of, behind, letters, sign_at, sign, number}
use Rattle.text_parts.specs.Parts.{part_of}
use Rattle.text_elements.specs.Elements.{is_keyword, kind_named, blank, parts_from, parts_of, element_of, element, starts_element}
use Rattle.text_elements.proofs.ElementLaws.{then_then}
use Rattle.text_read.specs.Notation.{Got, one_too_many, put_before, barred, element_alone, elements_at, plain, pool_word, opening, closing, unread, closed, inside_pool, pool_of_word, pool, starts_pool, pools_at}
use Rattle.proof_places.proofs.Tests.{either}
use Rattle.proof_places.proofs.Pieces.{Lexeme, lexeme, is_end, Piece, met, worded}
use Rattle.proof_places.proofs.Grammar.{takes, refuses, takes_refuses, Grammar, node, turn, next, Leads, fails, steps, Whole, more, of_sign, of_element, of_pool, numeral, Live}
use Rattle.proof_places.proofs.Runs.{any, Reads, Calm, reads_live, reads_as, reads_tries, once_reads, led_reads, led_calm, signal_once, signal_led, once_then, then_calm, then_led, signal_then, still_calm}
use Rattle.proof_places.proofs.Leaves.{showing, two_three, number_once}
use Rattle.proof_places.proofs.Choices.{look, look_still, by_leads, lead, never, Starting, full_tries}
use Rattle.proof_places.proofs.ContinuedReaders.{signal, comma}
use Rattle.proof_places.proofs.Lists.{part_reads, last_reads}

-- BY A KEYWORD: what is behind it goes by the number that it names, and 0 is none
module _ {A : Type 0} {P : Form → Bool} (end : A → Read) (f : Reader) (name : List ℕ → ℕ) (rest : ℕ → Reader) (good : ℕ → List ℕ → ℕ → List ℕ → A) (bad : List ℕ → ℕ → List ℕ → A)
    (same : (t : List ℕ) (from : ℕ) (x : List ℕ) → (f t from x).end ≡ end (if_word (token_at t from).form (if eqb (name (letters t from)) 0 then bad t from x or_else good (name (letters t from)) t from x) (bad t from x)))
    (refusal : (t : List ℕ) (from : ℕ) (x : List ℕ) → end (bad t from x) ≡ Refused misplaced (place_of t from))
    (words : ℕ → List ℕ → List ℕ)
    (going : (n : ℕ) (t : List ℕ) (from : ℕ) (x : List ℕ) → end (good n t from x) ≡ (rest n t (behind t from) (words n x)).end)
    (reads : (n : ℕ) → Reads P (rest n)) where
  abbrev called : Form → Bool → ℕ → Grammar
  called Word true n = never
  called Word false n = lead (reads n).runs.grammar
  called (Sign b) c n = never
  called Assign c n = never
  called End c n = never
  called Other c n = never

  abbrev by_name : Lexeme → Grammar
  by_name k = called k.form (eqb (name k.letters) 0) (name k.letters)

  called_leads : (t : List ℕ) (from : ℕ) (x : List ℕ) (m : Form) (c : Bool) (n : ℕ) → (token_at t from).form ≡ m → Leads t (end (if_word m (if c then bad t from x or_else good n t from x) (bad t from x))) (called m c n) from
  unfolding if_word if◌then◌or_else◌
  called_leads t from x Word true n e = fails misplaced refl (refusal t from x)
  called_leads t from x Word false n e =
      steps refl (ap is_end e) (subst (λ (r : Read). Leads t r (reads n).runs.grammar (behind t from)) (sym (going n t from x)) ((reads n).runs.leads t (behind t from) (words n x)))
  called_leads t from x (Sign b) c n e = fails misplaced refl (refusal t from x)
  called_leads t from x Assign c n e = fails misplaced refl (refusal t from x)
  called_leads t from x End c n e = fails misplaced refl (refusal t from x)
  called_leads t from x Other c n e = fails misplaced refl (refusal t from x)

  called_onward : (k : Lexeme) (m : Form) (c : Bool) (n : ℕ) → turn (called m c n) k ≡ takes → Live P (next (called m c n) k)
  called_onward k Word true n z = takes_refuses takes misplaced refl (sym z)
  called_onward k Word false n z = reads_live (reads n)
  called_onward k (Sign b) c n z = takes_refuses takes misplaced refl (sym z)
  called_onward k Assign c n z = takes_refuses takes misplaced refl (sym z)
  called_onward k End c n z = takes_refuses takes misplaced refl (sym z)
  called_onward k Other c n z = takes_refuses takes misplaced refl (sym z)

  called_calm : (k : Lexeme) (m : Form) (c : Bool) (n : ℕ) → turn (called m c n) k ≡ refuses excessive → ⊥
  called_calm k Word true n z = two_three z
  called_calm k Word false n z = takes_refuses takes excessive refl z
  called_calm k (Sign b) c n z = two_three z
  called_calm k Assign c n z = two_three z
  called_calm k End c n z = two_three z
  called_calm k Other c n z = two_three z

  keyword_reads : (w : List ℕ) → 0 < length w → each is_word w ≡ true → eqb (name w) 0 ≡ false → Reads P f
  keyword_reads w l h e =
      let b : Piece = worded w l h in
      let g : by_name (met b) ≡ lead (reads (name w)).runs.grammar = ap (λ (c : Bool). called Word c (name w)) e in
      record {
        runs = record {
          grammar = node (λ k. turn (by_name k) k) (λ k. next (by_name k) k);
          leads = λ t from x.
              by_leads by_name t (f t from x).end from
              (subst (λ (r : Read). Leads t r (by_name (lexeme t from)) from) (sym (same t from x))
              (called_leads t from x (token_at t from).form (eqb (name (letters t from)) 0) (name (letters t from)) refl));
          ranged = λ k z. absurd (called_calm k k.form (eqb (name k.letters) 0) (name k.letters) z);
          onward = λ k z. called_onward k k.form (eqb (name k.letters) 0) (name k.letters) z;
        };
        pieces = b ∷ (reads (name w)).pieces;
        whole = more b (ap (λ (x : Grammar). turn x (met b)) g) (subst (λ (x : Grammar). Whole P (next x (met b)) (reads (name w)).pieces) (sym g) (reads (name w)).whole);
      }

-- AN ELEMENT. In every row of the table of kinds the letters of its parts are known, and branches that receive are the last.
abbrev final : List ℕ → Bool
final [] = true
final (c ∷ cs) = eqb c (code " ")

fits_row : List ℕ → Bool
fits_row [] = true
fits_row (c ∷ cs) = (eqb c (code " ") || (among (bytes "EXFYNTSG") c || (eqb c (code "B") && final cs))) && fits_row cs

final_calm : (s : ℕ) (cs : List ℕ) → final cs ≡ true → (t : List ℕ) (from : ℕ) (x : List ℕ) → (parts_from s cs t from x).end ≡ Ok from
unfolding parts_from
final_calm s [] e t from x = refl
final_calm s (c ∷ cs) e t from x = unfold if◌then◌or_else◌ in rw e

nothing_calm : {P : Form → Bool} → Calm P nothing
nothing_calm = still_calm nothing (λ t from x. refl)

-- nothing is read behind the last part
ends_there : (f : Reader) (cs : List ℕ) → final cs ≡ true → (t : List ℕ) (from : ℕ) (x : List ℕ) → (f t from x).end ≡ ((f then parts_from (code ",") cs) t from x).end
unfolding ◌then◌ onward if_at
ends_there f cs e t from x = go (f t from x).end refl
  where
    on : Read → Read
    on r = (if_at r (λ q. parts_from (code ",") cs t q (f t from x).words) (f t from x)).end

    go : (r : Read) → (f t from x).end ≡ r → (f t from x).end ≡ (if_at (f t from x).end (λ q. parts_from (code ",") cs t q (f t from x).words) (f t from x)).end
    go (Ok q) z = sym (ap on z ∙ final_calm (code ",") cs e t q (f t from x).words ∙ sym z)
    go (Err e) z = sym (ap on z)

-- a part, and the parts behind it
row_part : (c : ℕ) (cs : List ℕ) → Calm (showing (code ")")) (parts_from (code ",") cs) → among (bytes "EXFYNTSG") c || (eqb c (code "B") && final cs) ≡ true → Reads (showing (code ")")) (part_of c then parts_from (code ",") cs)
row_part c cs rest e =
    either (among (bytes "EXFYNTSG") c) (eqb c (code "B") && final cs) e (λ k. then_calm (part_reads c k) rest)
    (λ k.
    let b : c ≡ code "B" = eqb-true c (code "B") (and_left (eqb c (code "B")) (final cs) k) in
    subst (λ (d : ℕ). Reads (showing (code ")")) (part_of d then parts_from (code ",") cs)) (sym b)
    (reads_as (ends_there (part_of (code "B")) cs (and_right (eqb c (code "B")) (final cs) k)) last_reads))

row_calm : (s : ℕ) → is_sign s ≡ true → (c : ℕ) (cs : List ℕ) (d e : Bool) → d || e ≡ true → (e ≡ true → Reads (showing (code ")")) (part_of c then parts_from (code ",") cs)) → Calm (showing (code ")")) (if d then nothing or_else sign s then part_of c then parts_from (code ",") cs)
unfolding if◌then◌or_else◌
row_calm s h c cs true e z r = nothing_calm
row_calm s h c cs false e z r = led_calm (signal_then (signal s h) (r z))

comma-sign : is_sign (code ",") ≡ true
unfolding is_sign among
comma-sign = refl

parts_calm : (s : ℕ) → is_sign s ≡ true → (cs : List ℕ) → fits_row cs ≡ true → Calm (showing (code ")")) (parts_from s cs)
unfolding parts_from fits_row
parts_calm s h [] e = nothing_calm
parts_calm s h (c ∷ cs) e =
    let known : Bool = eqb c (code " ") || (among (bytes "EXFYNTSG") c || (eqb c (code "B") && final cs)) in
    row_calm s h c cs (eqb c (code " ")) (among (bytes "EXFYNTSG") c || (eqb c (code "B") && final cs)) (and_left known (fits_row cs) e)
    (row_part c cs (parts_calm (code ",") comma-sign cs (and_right known (fits_row cs) e)))

rows_fit : each (λ (k : Kind). fits_row k.parts) kinds ≡ true
unfolding each fits_row among
rows_fit = refl

row_fits : (k : ℕ) → fits_row (kind_of k).parts ≡ true
unfolding kind_of
row_fits k = each_at (λ (k : Kind). fits_row k.parts) kinds no_kind rows_fit (unfold fits_row among in refl) k

parts_reads : (k : ℕ) → Reads any (parts_of k)
unfolding parts_of is_sign among
parts_reads k = then_led (parts_calm (code "(") refl (kind_of k).parts (row_fits k)).reads (signal_led (signal (code ")") refl)) refl

end_word : each is_word (bytes "end") ≡ true
unfolding each is_word is_letter is_digit between
end_word = refl

end_named : eqb (kind_named (bytes "end")) 0 ≡ false
unfolding kind_named is_keyword same_bytes seek kind_of if◌then◌or_else◌
end_named = refl

element_reads : Reads any element
unfolding element element_of
element_reads =
    keyword_reads (λ (r : Parsed). r.end) element kind_named parts_of
    (λ n t from x. parts_of n t (behind t from) (blank n x)) (λ t from x. record { end = Refused misplaced (place_of t from); words = blank 0 x })
    (λ t from x. refl) (λ t from x. refl) blank (λ n t from x. refl) parts_reads
    (bytes "end") (omega arith) end_word end_named

element_starting : Starting starts_element
unfolding starts_element
element_starting = record {
  test = of_element;
  same = λ t from. refl;
  such = worded (bytes "end") (omega arith) end_word;
  passing = unfold if_word in ap not end_named;
  item = λ k e. or_right (numeral k) _ (or_right (of_sign (code "?") k) _ (or_right (of_sign (code "(") k) _ (or_left _ _ e)));
}

-- THINGS WITH BARS BETWEEN THEM
abbrev pub bare : {A : Type 0} → (List ℕ → ℕ → Got A) → Reader
bare f t from x = record { end = (f t from).end; words = x }

module _ {A : Type 0} (P : Form → Bool) (thing : List ℕ → ℕ → Got A) (starting : List ℕ → ℕ → Bool) (each-thing : Reads any (bare thing)) (st : Starting starting) (apart : (m : Form) → P m ≡ true → showing (code "|") m ≡ false) where
  bar_end : (n : ℕ) (t : List ℕ) (from : ℕ) (x : List ℕ) → ((bare thing then look (code "|") (bare (barred thing starting n)) nothing) t from x).end ≡ (barred thing starting (suc n) t from).end
  unfolding barred put_before ◌then◌ onward if_at
  bar_end n t from x = go (thing t from).end
    where
      within : (q : ℕ) (r : Read) → (if_at r (λ a. bare (barred thing starting n) t a x) (passed_to q x)).end ≡ (if_at r (λ a. put_before (thing t from).value (barred thing starting n t a)) (record { end = Ok q; value = (thing t from).value ∷ [] })).end
      within q (Ok a) = refl
      within q (Err e) = refl

      go : (r : Read) → (if_at r (λ q. if_at (sign_at (code "|") t q) (λ a. bare (barred thing starting n) t a x) (passed_to q x)) (bare thing t from x)).end ≡ (if_at r (λ q. if_at (sign_at (code "|") t q) (λ a. put_before (thing t from).value (barred thing starting n t a)) (record { end = Ok q; value = (thing t from).value ∷ [] })) (record { end = (thing t from).end; value = [] })).end
      go (Ok q) = within q (sign_at (code "|") t q)
      go (Err e) = refl

  pub bars_reads : (n : ℕ) → Reads P (bare (barred thing starting (suc n)))
  unfolding barred one_too_many
  bars_reads zero =
      reads_as (bar_end zero)
      (then_calm each-thing (look_still (code "|") nothing (λ t from x. refl) apart (full_tries _ st (λ t from x. refl))))
  bars_reads (suc n) =
      reads_as (bar_end (suc n))
      (then_calm each-thing (look_still (code "|") nothing (λ t from x. refl) apart (reads_tries (bars_reads n))))

-- A POOL
abbrev shuts : Form → Bool
shuts m = showing (code ")") m || showing (code ",") m

shuts_apart : (m : Form) → shuts m ≡ true → showing (code "|") m ≡ false
shuts_apart Word e = refl
shuts_apart (Sign b) e =
    either (eqb b (code ")")) (eqb b (code ",")) e
    (λ h. ap (λ (k : ℕ). eqb k (code "|")) (eqb-true b (code ")") h))
    (λ h. ap (λ (k : ℕ). eqb k (code "|")) (eqb-true b (code ",") h))
shuts_apart Assign e = refl
shuts_apart End e = refl
shuts_apart Other e = refl

alone_reads : Reads any (bare element_alone)
unfolding element_alone
alone_reads = record {
  runs = record {
    grammar = element_reads.runs.grammar;
    leads = λ t from x. element_reads.runs.leads t from (replicate element_words 0);
    ranged = element_reads.runs.ranged;
    onward = element_reads.runs.onward;
  };
  pieces = element_reads.pieces;
  whole = element_reads.whole;
}

elements_reads : Reads shuts (bare elements_at)
unfolding elements_at
elements_reads = bars_reads shuts element_alone starts_element alone_reads element_starting shuts_apart 31

closing_reads : (c : Bool) → Reads any (bare elements_at then (if c then sign (code ")") or_else sign (code ",") then number 1 instances limit_in then sign (code ")")))
unfolding if◌then◌or_else◌ is_sign among
closing_reads true = then_led elements_reads (signal_led (signal (code ")") refl)) refl
closing_reads false = then_led elements_reads (signal_then comma (once_then (number_once 1 instances limit_in refl) (once_reads (signal_once (signal (code ")") refl))))) refl

closed_reads : (k : ℕ) → Reads any (bare elements_at then closing k)
unfolding closing
closed_reads k = closing_reads (eqb k plain)

opened_reads : (k : ℕ) → Reads any (opening then bare elements_at then closing k)
unfolding opening is_sign among
opened_reads k =
    let rest : Reader = bare elements_at then closing k in
    reads_as (λ t from x. ap (λ (r : Parsed). r.end) (sym (then_then (sign (code "(")) (number 1 pool_numbers 0 then sign (code ",")) rest t from x)))
    (led_reads (signal_then (signal (code "(") refl)
    (reads_as (λ t from x. ap (λ (r : Parsed). r.end) (sym (then_then (number 1 pool_numbers 0) (sign (code ",")) rest t from x)))
    (once_then (number_once 1 pool_numbers 0 refl) (once_then (signal_once comma) (closed_reads k))))))

inside_end : (k : ℕ) (t : List ℕ) (from : ℕ) (x : List ℕ) → (inside_pool k t (opening t from x)).end ≡ ((opening then bare elements_at then closing k) t from x).end
unfolding inside_pool closed ◌then◌ onward if_at
inside_end k t from x = go (opening t from x).end
  where
    within : (a : ℕ) (r : Read) → (if_at r (λ c. closed (closing k t c (opening t from x).words) (elements_at t a).value) (unread (elements_at t a).end)).end ≡ (if_at r (λ c. closing k t c (opening t from x).words) (bare elements_at t a (opening t from x).words)).end
    within a (Ok c) = refl
    within a (Err e) = refl

    go : (r : Read) → (if_at r (λ a. if_at (elements_at t a).end (λ c. closed (closing k t c (opening t from x).words) (elements_at t a).value) (unread (elements_at t a).end)) (unread (opening t from x).end)).end ≡ (if_at r (λ a. if_at (elements_at t a).end (λ c. closing k t c (opening t from x).words) (bare elements_at t a (opening t from x).words)) (opening t from x)).end
    go (Ok a) = within a (elements_at t a).end
    go (Err e) = refl

pool_word_lem : each is_word (bytes "pool") ≡ true
unfolding each is_word is_letter is_digit between
pool_word_lem = refl

pool_named_lem : eqb (pool_word (bytes "pool")) 0 ≡ false
unfolding pool_word same_bytes if◌then◌or_else◌
pool_named_lem = refl

pool_reads : Reads any (bare pool)
unfolding pool pool_of_word
pool_reads =
    keyword_reads (λ (r : Got Pool). r.end) (bare pool) pool_word (λ k. opening then bare elements_at then closing k)
    (λ n t from x. inside_pool n t (opening t (behind t from) (0 ∷ 0 ∷ []))) (λ t from x. unread (Refused misplaced (place_of t from)))
    (λ t from x. refl) (λ t from x. refl) (λ n x. 0 ∷ 0 ∷ []) (λ n t from x. inside_end n t (behind t from) (0 ∷ 0 ∷ [])) opened_reads
    (bytes "pool") (omega arith) pool_word_lem pool_named_lem

pool_starting : Starting starts_pool
unfolding starts_pool
pool_starting = record {
  test = of_pool;
  same = λ t from. refl;
  such = worded (bytes "pool") (omega arith) pool_word_lem;
  passing = unfold if_word in ap not pool_named_lem;
  item = λ k e. or_right (numeral k) _ (or_right (of_sign (code "?") k) _ (or_right (of_sign (code "(") k) _ (or_right (of_element k) _ e)));
}

end_apart : (m : Form) → is_end m ≡ true → showing (code "|") m ≡ false
end_apart Word e = refl
end_apart (Sign b) e = absurd (false≢true e)
end_apart Assign e = refl
end_apart End e = refl
end_apart Other e = refl

-- THE POOLS OF A TEXT, behind which its end follows
pub pools_reads : Reads is_end (bare pools_at)
unfolding pools_at
pools_reads = bars_reads is_end pool starts_pool pool_reads pool_starting end_apart 3
