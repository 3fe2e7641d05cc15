-- READERS BY A GRAMMAR: a reader ends where its grammar leads, and whatever the grammar comes to can be read whole, or has one item too many. One law for
-- each way in which readers are put together. Assumes nothing.
use Prim.Native.Nat.{ℕ}
use mathlib.Core.Path.{◌≡◌, ◌∙◌, refl, sym, ap, subst}
use mathlib.Core.Bool.{Bool, true, false}
use mathlib.Core.List.{List, [], ◌∷◌, ◌++◌}
use Rattle.text_lexer.specs.declared.Form.{Form}
use Rattle.text_lexer.specs.declared.Form.TheVariants.{Sign}
use Rattle.text_lexer.specs.declared.Token.{Token}
use Rattle.text_lexer.specs.Lexer.{token_at}
use Rattle.std.specs.declared.result.Result.TheVariants.{Ok, Err}
use Rattle.text_readers.specs.Reading.{Read, Refused, Parsed, Reader, excessive, if_at, onward, ◌then◌, behind}
use Rattle.proof_places.proofs.Pieces.{Lexeme, lexeme, is_end, Piece, met}
use Rattle.proof_places.proofs.Grammar.{Turn, takes, passes, refuses, takes_passes, takes_refuses, passes_refuses, refused_alike, by_turn, Grammar, done, node, turn, next, Leads, ends, fails, steps, Whole, over, more, numeral, sample, Ranged, Excess, range, count, Hope, goes, full, Live, live, seq, seq_takes, seq_passes, seq_refuses}

-- WHAT MAY FOLLOW: what the pieces begin with, or what may follow them
abbrev pub Fits : (Form → Bool) → (Form → Bool) → List Piece → Type 0
Fits P Q [] = (m : Form) → Q m ≡ true → P m ≡ true
Fits P Q (b ∷ bs) = P b.form ≡ true

abbrev pub any : Form → Bool
any m = true

pub fits_any : (Q : Form → Bool) (bs : List Piece) → Fits any Q bs
fits_any Q [] = λ m e. refl
fits_any Q (b ∷ bs) = refl

-- grammars of one token, and those that refuse no token with 3
pub data Simple (g : Grammar) : Type 0 where
  none : g ≡ done → Simple g
  single : ((k : Lexeme) → turn g k ≡ passes → ⊥) → ((k : Lexeme) → next g k ≡ done) → Simple g

abbrev pub Mild : Grammar → Type 0
Mild h = (k : Lexeme) → turn h k ≡ refuses excessive → ⊥

pub data Apart (g h : Grammar) : Type 0 where
  simple : Simple g → Apart g h
  mild : Mild h → Apart g h

apart_next : (g h : Grammar) → Apart g h → (k : Lexeme) → Apart (next g k) h
apart_next g h (simple (none e)) k = simple (none (ap (λ (x : Grammar). next x k) e))
apart_next g h (simple (single n d)) k = simple (none (d k))
apart_next g h (mild m) k = mild m

-- nothing is left to read
pub done-live : {P : Form → Bool} → Live P done
done-live = live (goes [] (over (λ k q. refl))) (λ k z. passes_refuses passes excessive refl z) (λ k z. takes_passes passes z refl)

-- A READER that ends where a grammar leads, and what the grammar then comes to
pub record Runs (P : Form → Bool) (f : Reader) : Type 0 where
  pub grammar : Grammar
  pub leads : (t : List ℕ) (from : ℕ) (x : List ℕ) → Leads t (f t from x).end grammar from
  pub ranged : (k : Lexeme) → turn grammar k ≡ refuses excessive → Ranged P grammar k
  pub onward : (k : Lexeme) → turn grammar k ≡ takes → Live P (next grammar k)

-- with pieces that it reads whole
pub record Reads (P : Form → Bool) (f : Reader) : Type 0 where
  pub runs : Runs P f
  pub pieces : List Piece
  pub whole : Whole P runs.grammar pieces

-- or with one item too many
pub record Tries (P : Form → Bool) (f : Reader) : Type 0 where
  pub grammar : Grammar
  pub leads : (t : List ℕ) (from : ℕ) (x : List ℕ) → Leads t (f t from x).end grammar from
  pub living : Live P grammar

-- one token
pub record Once (f : Reader) : Type 0 where
  pub runs : Runs any f
  pub alone : Simple runs.grammar
  pub pieces : List Piece
  pub whole : Whole any runs.grammar pieces

-- first a sign
pub record Led (Q : Form → Bool) (s : ℕ) (f : Reader) : Type 0 where
  pub runs : Runs Q f
  pub calm : Mild runs.grammar
  pub first : Piece
  pub sign : first.form ≡ Sign s
  pub rest : List Piece
  pub whole : Whole Q runs.grammar (first ∷ rest)

-- first no number or field
pub record Calm (Q : Form → Bool) (f : Reader) : Type 0 where
  pub reads : Reads Q f
  pub calm : Mild reads.runs.grammar

-- one sign
pub record Signal (s : ℕ) (f : Reader) : Type 0 where
  pub runs : Runs any f
  pub firm : (k : Lexeme) → turn runs.grammar k ≡ passes → ⊥
  pub alone : (k : Lexeme) → next runs.grammar k ≡ done
  pub calm : Mild runs.grammar
  pub first : Piece
  pub sign : first.form ≡ Sign s
  pub whole : Whole any runs.grammar (first ∷ [])

-- ONE AFTER THE OTHER
passes_leads : (t : List ℕ) (r : Read) (g h : Grammar) (from : ℕ) → turn g (lexeme t from) ≡ passes → Leads t r h from → Leads t r (seq g h) from
passes_leads t r g h from p (ends e z) = ends ((seq_passes g h (lexeme t from) p).0 ∙ e) z
passes_leads t r g h from p (fails n e z) = fails n ((seq_passes g h (lexeme t from) p).0 ∙ e) z
passes_leads t r g h from p (steps e s l) =
    steps ((seq_passes g h (lexeme t from) p).0 ∙ e) s (subst (λ (x : Grammar). Leads t r x (behind t from)) (sym (seq_passes g h (lexeme t from) p).1) l)

seq_leads : (t : List ℕ) (r : Read) (f : ℕ → Read) (g h : Grammar) (from : ℕ) → Leads t r g from → ((q : ℕ) → Leads t (f q) h q) → Leads t (if_at r f r) (seq g h) from
unfolding if_at
seq_leads t r f g h from (ends e z) l =
    subst (λ (x : Read). Leads t x (seq g h) from) (sym (ap (λ (x : Read). if_at x f r) z)) (passes_leads t (f from) g h from e (l from))
seq_leads t r f g h from (fails n e z) l = fails n (seq_refuses g h (lexeme t from) n e) (ap (λ (x : Read). if_at x f r) z ∙ z)
seq_leads t r f g h from (steps e s m) l =
    let w = seq_takes g h (lexeme t from) e in
    steps w.0 s (subst (λ (x : Grammar). Leads t (if_at r f r) x (behind t from)) (sym w.1) (seq_leads t r f (next g (lexeme t from)) h (behind t from) m l))

-- any grammar g, and then that of a reader
module _ (P Q : Form → Bool) (f : Reader) (second : Reads Q f) (fits : Fits P Q second.pieces) where
  abbrev h : Grammar
  h = second.runs.grammar

  abbrev cs : List Piece
  cs = second.pieces

  -- where the first has ended, what the second reads whole
  whole_behind : (g : Grammar) → ((k : Lexeme) → P k.form ≡ true → turn g k ≡ passes) → Whole Q (seq g h) cs
  whole_behind g passed = go cs second.whole fits
    where
      go : (ds : List Piece) → Whole Q h ds → Fits P Q ds → Whole Q (seq g h) ds
      go ds (over e) fit = over (λ k q. (seq_passes g h k (passed k (fit k.form q))).0 ∙ e k q)
      go ds (more {bs = es} b e w) fit =
          let s = seq_passes g h (met b) (passed (met b) fit) in
          more b (s.0 ∙ e) (subst (λ (x : Grammar). Whole Q x es) (sym s.1) w)

  pub whole_seq : (g : Grammar) (bs : List Piece) → Whole P g bs → Whole Q (seq g h) (bs ++ cs)
  whole_seq g bs (over f) = whole_behind g f
  whole_seq g bs (more {bs = ds} b e w) =
      let s = seq_takes g h (met b) e in
      more b s.0 (subst (λ (x : Grammar). Whole Q x (ds ++ cs)) (sym s.1) (whole_seq (next g (met b)) ds w))

  ranged_seq : (g : Grammar) (k : Lexeme) → Ranged P g k → Ranged Q (seq g h) k
  ranged_seq g k r =
      let b : Piece = sample r.better in
      let s = seq_takes g h (met b) r.taken in
      record {
        spelled = r.spelled;
        better = r.better;
        taken = s.0;
        pieces = r.pieces ++ cs;
        whole = subst (λ (x : Grammar). Whole Q x (r.pieces ++ cs)) (sym s.1) (whole_seq (next g (met b)) r.pieces r.whole);
      }

  excess_seq : (g : Grammar) (k : Lexeme) → Excess P g k → Excess Q (seq g h) k
  excess_seq g k (range r) = range (ranged_seq g k r)
  excess_seq g k (count c) = count (record { starting = c.starting; none = λ j. let s = c.none j in (s.0, seq_refuses g h j s.0 s.1) })

  hope_seq : (g : Grammar) → Hope P g → Hope Q (seq g h)
  hope_seq g (goes bs w) = goes (bs ++ cs) (whole_seq g bs w)
  hope_seq g (full b e) = full b (seq_refuses g h (met b) excessive e)

  -- a refusal with 3 is the first's, or the second's where the first has ended
  beyond : {E : Type 0} (g : Grammar) (k : Lexeme) → turn (seq g h) k ≡ refuses excessive → (turn g k ≡ refuses excessive → E) → (turn g k ≡ passes → turn h k ≡ refuses excessive → E) → E
  beyond g k z one other =
      by_turn (turn g k)
      (λ e. takes_refuses (turn (seq g h) k) excessive (seq_takes g h k e).0 z)
      (λ e. other e (sym (seq_passes g h k e).0 ∙ z))
      (λ n e. one (e ∙ ap refuses (refused_alike (turn (seq g h) k) n excessive (seq_refuses g h k n e) z)))

  ranged_behind : (g : Grammar) (k : Lexeme) → Apart g h → turn g k ≡ passes → turn h k ≡ refuses excessive → Ranged Q (seq g h) k
  ranged_behind g k (simple (none d)) p e = subst (λ (x : Grammar). Ranged Q (seq x h) k) (sym d) (second.runs.ranged k e)
  ranged_behind g k (simple (single n d)) p e = absurd (n k p)
  ranged_behind g k (mild m) p e = absurd (m k e)

  steps-seq : (g : Grammar) → ((k : Lexeme) → turn g k ≡ takes → Live Q (seq (next g k) h)) → (k : Lexeme) → turn (seq g h) k ≡ takes → Live Q (next (seq g h) k)
  steps-seq g first k z =
      by_turn (turn g k)
      (λ e. subst (Live Q) (sym (seq_takes g h k e).1) (first k e))
      (λ e. subst (Live Q) (sym (seq_passes g h k e).1) (second.runs.onward k (sym (seq_passes g h k e).0 ∙ z)))
      (λ n e. takes_refuses (turn (seq g h) k) n z (seq_refuses g h k n e))

  live-seq : (g : Grammar) → Live P g → Apart g h → Live Q (seq g h)
  live-seq g (live hope excess onward) a =
      live (hope_seq g hope)
      (λ k z. beyond g k z (λ e. excess_seq g k (excess k e)) (λ p e. range (ranged_behind g k a p e)))
      (steps-seq g (λ k e. live-seq (next g k) (onward k e) (apart_next g h a k)))

abbrev pub once_reads : {f : Reader} → Once f → Reads any f
once_reads o = record { runs = o.runs; pieces = o.pieces; whole = o.whole }

abbrev pub led_reads : {Q : Form → Bool} {s : ℕ} {f : Reader} → Led Q s f → Reads Q f
led_reads o = record { runs = o.runs; pieces = o.first ∷ o.rest; whole = o.whole }

abbrev pub signal_once : {s : ℕ} {f : Reader} → Signal s f → Once f
signal_once o = record { runs = o.runs; alone = single o.firm o.alone; pieces = o.first ∷ []; whole = o.whole }

abbrev pub signal_led : {s : ℕ} {f : Reader} → Signal s f → Led any s f
signal_led o = record { runs = o.runs; calm = o.calm; first = o.first; sign = o.sign; rest = []; whole = o.whole }

abbrev pub led_calm : {Q : Form → Bool} {s : ℕ} {f : Reader} → Led Q s f → Calm Q f
led_calm l = record { reads = led_reads l; calm = l.calm }

pub reads_live : {P : Form → Bool} {f : Reader} (a : Reads P f) → Live P a.runs.grammar
reads_live a = live (goes a.pieces a.whole) (λ k e. range (a.runs.ranged k e)) a.runs.onward

abbrev pub reads_tries : {P : Form → Bool} {f : Reader} → Reads P f → Tries P f
reads_tries a = record { grammar = a.runs.grammar; leads = a.runs.leads; living = reads_live a }

-- another name for the same end
abbrev pub runs_as : {P : Form → Bool} {f g : Reader} → ((t : List ℕ) (from : ℕ) (x : List ℕ) → (f t from x).end ≡ (g t from x).end) → Runs P f → Runs P g
runs_as e a = record {
  grammar = a.grammar;
  leads = λ t from x. subst (λ (r : Read). Leads t r a.grammar from) (e t from x) (a.leads t from x);
  ranged = a.ranged;
  onward = a.onward;
}

abbrev pub reads_as : {P : Form → Bool} {f g : Reader} → ((t : List ℕ) (from : ℕ) (x : List ℕ) → (f t from x).end ≡ (g t from x).end) → Reads P f → Reads P g
reads_as e a = record { runs = runs_as e a.runs; pieces = a.pieces; whole = a.whole }

then_end : (f g : Reader) (t : List ℕ) (from : ℕ) (x : List ℕ) → if_at (f t from x).end (λ q. (g t q (f t from x).words).end) (f t from x).end ≡ ((f then g) t from x).end
unfolding ◌then◌ onward if_at
then_end f g t from x = if_end_lem (f t from x).end (λ q. g t q (f t from x).words) (f t from x)
  where
    if_end_lem : (r : Read) (h : ℕ → Parsed) (y : Parsed) → if_at r (λ q. (h q).end) y.end ≡ (if_at r h y).end
    if_end_lem (Ok q) h y = refl
    if_end_lem (Err e) h y = refl

module _ (P Q : Form → Bool) (f g : Reader) (a : Reads P f) (b : Reads Q g) (fits : Fits P Q b.pieces) (apart : Apart a.runs.grammar b.runs.grammar) where
  seq-ends : (t : List ℕ) (from : ℕ) (x : List ℕ) → Leads t ((f then g) t from x).end (seq a.runs.grammar b.runs.grammar) from
  seq-ends t from x =
      subst (λ (r : Read). Leads t r (seq a.runs.grammar b.runs.grammar) from) (then_end f g t from x)
      (seq_leads t (f t from x).end (λ q. (g t q (f t from x).words).end) a.runs.grammar b.runs.grammar from (a.runs.leads t from x) (λ q. b.runs.leads t q (f t from x).words))

  abbrev seq_reads : Reads Q (f then g)
  seq_reads = record {
    runs = record {
      grammar = seq a.runs.grammar b.runs.grammar;
      leads = seq-ends;
      ranged = λ k z.
          beyond P Q g b fits a.runs.grammar k z
          (λ e. ranged_seq P Q g b fits a.runs.grammar k (a.runs.ranged k e))
          (λ p e. ranged_behind P Q g b fits a.runs.grammar k apart p e);
      onward =
          steps-seq P Q g b fits a.runs.grammar
          (λ k e. live-seq P Q g b fits (next a.runs.grammar k) (a.runs.onward k e) (apart_next a.runs.grammar b.runs.grammar apart k));
    };
    pieces = a.pieces ++ b.pieces;
    whole = whole_seq P Q g b fits a.runs.grammar a.pieces a.whole;
  }

module _ {Q : Form → Bool} {f g : Reader} where
  -- a token, and what is behind it
  pub once_then : Once f → Reads Q g → Reads Q (f then g)
  once_then o b = seq_reads any Q f g (once_reads o) b (fits_any Q b.pieces) (simple o.alone)

  -- behind it what begins with no number or field
  pub then_calm : Reads any f → Calm Q g → Reads Q (f then g)
  then_calm a c = seq_reads any Q f g a c.reads (fits_any Q c.reads.pieces) (mild c.calm)

  -- behind it what begins with a sign that may follow
  pub then_led : {P : Form → Bool} {s : ℕ} → Reads P f → Led Q s g → P (Sign s) ≡ true → Reads Q (f then g)
  then_led {P} a l e = seq_reads P Q f g a (led_reads l) (ap P l.sign ∙ e) (mild l.calm)

  -- a sign, and what is behind it
  pub signal_then : {s : ℕ} → Signal s f → Reads Q g → Led Q s (f then g)
  signal_then o b =
      let r : Reads Q (f then g) = seq_reads any Q f g (once_reads (signal_once o)) b (fits_any Q b.pieces) (simple (single o.firm o.alone)) in
      record {
        runs = r.runs;
        calm = λ k z.
            by_turn (turn o.runs.grammar k)
            (λ e. takes_refuses (turn r.runs.grammar k) excessive (seq_takes o.runs.grammar b.runs.grammar k e).0 z)
            (λ e. o.firm k e)
            (λ n e. o.calm k (e ∙ ap refuses (refused_alike (turn r.runs.grammar k) n excessive (seq_refuses o.runs.grammar b.runs.grammar k n e) z)));
        first = o.first;
        sign = o.sign;
        rest = b.pieces;
        whole = r.whole;
      }

-- NOTHING READ
module _ {P : Form → Bool} (f : Reader) (e : (t : List ℕ) (from : ℕ) (x : List ℕ) → (f t from x).end ≡ Ok from) where
  abbrev pub still_runs : Runs P f
  still_runs = record {
    grammar = done;
    leads = λ t from x. ends refl (e t from x);
    ranged = λ k z. passes_refuses passes excessive refl z;
    onward = λ k z. takes_passes passes z refl;
  }

  pub still_calm : Calm P f
  still_calm = record { reads = record { runs = still_runs; pieces = []; whole = over (λ k q. refl) }; calm = λ k z. passes_refuses passes excessive refl z }

pub still_once : (f : Reader) → ((t : List ℕ) (from : ℕ) (x : List ℕ) → (f t from x).end ≡ Ok from) → Once f
still_once f e = record { runs = still_runs f e; alone = none refl; pieces = []; whole = over (λ k q. refl) }

-- ONE TOKEN: taken, or refused at its place
pub data Judged (x : Turn) (k : Token) (r : Read) : Type 0 where
  on : x ≡ takes → is_end k.form ≡ false → r ≡ Ok k.next → Judged x k r
  off : (n : ℕ) → x ≡ refuses n → r ≡ Refused n k.at → Judged x k r

pub record Ranging (J : Lexeme → Turn) (k : Lexeme) : Type 0 where
  pub spelled : numeral k ≡ true
  pub better : Bool
  pub taken : J (met (sample better)) ≡ takes

module _ (f : Reader) (J : Lexeme → Turn) (judged : (t : List ℕ) (from : ℕ) (x : List ℕ) → Judged (J (lexeme t from)) (token_at t from) (f t from x).end) where
  token_leads : (t : List ℕ) (from : ℕ) (x : List ℕ) → Judged (J (lexeme t from)) (token_at t from) (f t from x).end → Leads t (f t from x).end (node J (λ k. done)) from
  token_leads t from x (on e s z) = steps e s (ends refl z)
  token_leads t from x (off n e z) = fails n e z

  abbrev token_runs : ((k : Lexeme) → J k ≡ refuses excessive → Ranging J k) → Runs any f
  token_runs ranging = record {
    grammar = node J (λ k. done);
    leads = λ t from x. token_leads t from x (judged t from x);
    ranged = λ k z. let r = ranging k z in record { spelled = r.spelled; better = r.better; taken = r.taken; pieces = []; whole = over (λ j q. refl) };
    onward = λ k z. done-live;
  }

  pub token_once : ((k : Lexeme) → J k ≡ passes → ⊥) → (b : Piece) → J (met b) ≡ takes → ((k : Lexeme) → J k ≡ refuses excessive → Ranging J k) → Once f
  token_once firm b good ranging = record { runs = token_runs ranging; alone = single firm (λ k. refl); pieces = b ∷ []; whole = more b good (over (λ j q. refl)) }

  pub token_signal : (s : ℕ) → ((k : Lexeme) → J k ≡ passes → ⊥) → ((k : Lexeme) → J k ≡ refuses excessive → ⊥) → (b : Piece) → b.form ≡ Sign s → J (met b) ≡ takes → Signal s f
  token_signal s firm calm b e good = record {
    runs = token_runs (λ k z. absurd (calm k z));
    firm = firm;
    alone = λ k. refl;
    calm = calm;
    first = b;
    sign = e;
    whole = more b good (over (λ j q. refl));
  }
