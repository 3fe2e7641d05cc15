-- THE COURSE OF READING. Every reader of the notation goes by the forms and the letters of the tokens, one after the other: it follows a course that no text
-- and no place stands in. What holds for every course holds for reading. Assumes nothing.
use mathlib.Core.Path.{◌≡◌, ◌∙◌, refl, ap}
use mathlib.Core.Bool.{Bool, true, false, ◌&&◌}
use mathlib.Core.List.{List}
use Prim.Native.Nat.{ℕ, ◌-◌}
use lib.Dec.{eqb, leb}
use lib.ListN.{set}
use Rattle.base_words.specs.Pick.{if◌then◌or_else◌}
use Rattle.base_words.specs.Counts.{fields_named}
use Rattle.base_table.specs.Places.{mode_place}
use Rattle.text_lexer.specs.declared.Form.{Form}
use Rattle.text_lexer.specs.declared.Form.TheVariants.{Word, Sign, Assign, End, Other}
use Rattle.text_lexer.specs.Lexer.{token_at, if_word, if_sign, if_assign, if_end}
use Rattle.text_numerals.specs.declared.Number.{Number}
use Rattle.text_numerals.specs.declared.Number.TheVariants.{Value, TooLarge, NotANumber}
use Rattle.text_numerals.specs.declared.Operand.{Operand}
use Rattle.text_numerals.specs.declared.Operand.TheVariants.{Number as OfNumber, Field, OutOfRange, NotAnOperand}
use Rattle.text_numerals.specs.Numerals.{number_of, field_of, operand_of}
use Rattle.std.specs.declared.result.Result.TheVariants.{Ok, Err}
use Rattle.text_readers.specs.Reading.{Read, Refused, Parsed, Reader, misplaced, excessive, passed_to, refused_at, if_at, onward, ◌then◌, place_of, behind, letters, sign_at, assign_at, end_at, sign, assign, keep_number, number, field, keep_operand, operand, mode_named, keep_mode, mode}
use Rattle.text_read.specs.Notation.{Got}

-- reading ends here; the token here is refused, with 3 or else with 2; it is passed; its form and its letters say how to go on
pub data Course (A : Type 0) : Type 0 where
  stop : A → Course A
  refuse : Bool → A → Course A
  pass : Course A → Course A
  look : (Form → List ℕ → Course A) → Course A

unfoldable pub follow : {A : Type 0} → Course A → List ℕ → ℕ → Got A
follow (stop v) t at = record { end = Ok at; value = v }
follow (refuse above v) t at = record { end = Refused (if above then excessive or_else misplaced) (place_of t at); value = v }
follow (pass c) t at = follow c t (behind t at)
follow (look k) t at = follow (k (token_at t at).form (letters t at)) t at

pub record Follows {A : Type 0} (f : List ℕ → ℕ → Got A) : Type 0 where
  pub course : Course A
  pub is : (t : List ℕ) (at : ℕ) → f t at ≡ follow course t at

-- a reader of words, by what they are before
abbrev pub got : Parsed → Got (List ℕ)
got r = record { end = r.end; value = r.words }

pub record Reads (f : Reader) : Type 0 where
  pub from : (x : List ℕ) → Follows (λ t at. got (f t at x))

pub by : {A : Type 0} {f g : List ℕ → ℕ → Got A} → ((t : List ℕ) (at : ℕ) → f t at ≡ g t at) → Follows g → Follows f
by e c = record { course = c.course; is = λ t at. e t at ∙ c.is t at }

-- nothing read; the token refused
pub stopped : {A : Type 0} (v : A) → Follows (λ t at. record { end = Ok at; value = v })
unfolding follow
stopped v = record { course = stop v; is = λ t at. refl }

pub refusing : {A : Type 0} (v : A) → Follows (λ t at. record { end = Refused misplaced (place_of t at); value = v })
unfolding follow if◌then◌or_else◌
refusing v = record { course = refuse false v; is = λ t at. refl }

-- ONE AFTER THE OTHER, with what the first got; what is kept of that where it is refused
module _ {A B : Type 0} (g : A → Course B) (kept : A → B) where
  onwards : Course A → Course B
  onwards (stop v) = g v
  onwards (refuse above v) = refuse above (kept v)
  onwards (pass c) = pass (onwards c)
  onwards (look k) = look (λ m w. onwards (k m w))

  onwards_is : (c : Course A) (t : List ℕ) (at : ℕ) → if_at (follow c t at).end (λ q. follow (g (follow c t at).value) t q) (record { end = (follow c t at).end; value = kept (follow c t at).value }) ≡ follow (onwards c) t at
  unfolding follow onwards if_at
  onwards_is (stop v) t at = refl
  onwards_is (refuse above v) t at = refl
  onwards_is (pass c) t at = onwards_is c t (behind t at)
  onwards_is (look k) t at = onwards_is (k (token_at t at).form (letters t at)) t at

pub after : {A B : Type 0} {f : List ℕ → ℕ → Got A} {g : A → List ℕ → ℕ → Got B} (kept : A → B) → Follows f → ((v : A) → Follows (g v)) → Follows (λ t at. if_at (f t at).end (λ q. g (f t at).value t q) (record { end = (f t at).end; value = kept (f t at).value }))
after {A} {B} {f} {g} kept pf pg =
    record {
      course = onwards (λ v. (pg v).course) kept pf.course;
      is = λ t at.
          (λ i. if_at (pf.is t at i).end (λ q. (pg (pf.is t at i).value).is t q i) (record { end = (pf.is t at i).end; value = kept (pf.is t at i).value }))
          ∙ onwards_is (λ v. (pg v).course) kept pf.course t at;
    }

-- an end that is tested beside a value, and words beside an end
pub if_end_lem : {A : Type 0} (e d : Read) (f : ℕ → Read) (v : A) → ◌≡◌ {A = Got A} (record { end = if_at e f d; value = v }) (if_at e (λ q. record { end = f q; value = v }) (record { end = d; value = v }))
unfolding if_at
if_end_lem (Ok q) d f v = refl
if_end_lem (Err e) d f v = refl

at_itself : (e : Read) → e ≡ if_at e (λ q. Ok q) e
unfolding if_at
at_itself (Ok q) = refl
at_itself (Err e) = refl

if_got : (e : Read) (f : ℕ → Parsed) (r : Parsed) → got (if_at e f r) ≡ if_at e (λ q. got (f q)) (got r)
unfolding if_at
if_got (Ok q) f r = refl
if_got (Err e) f r = refl

-- what was got, turned into something else
pub turned : {A B : Type 0} {f : List ℕ → ℕ → Got A} (h : A → B) → Follows f → Follows (λ t at. record { end = (f t at).end; value = h (f t at).value })
turned {A} {B} {f} h pf =
    by (λ t at. (λ i. record { end = at_itself (f t at).end i; value = h (f t at).value }) ∙ if_end_lem (f t at).end (f t at).end (λ q. Ok q) (h (f t at).value))
    (after h pf (λ v. stopped (h v)))

infixr 40 ◌next◌
pub ◌next◌ : {f g : Reader} → Reads f → Reads g → Reads (f then g)
unfolding ◌then◌ onward
◌next◌ {f} {g} rf rg =
    record {
      from = λ x.
          by (λ t at. if_got (f t at x).end (λ q. g t q (f t at x).words) (f t at x))
          (after {f = λ t at. got (f t at x)} {g = λ y t q. got (g t q y)} (λ y. y) (rf.from x) rg.from);
    }

-- A SIGN THAT MAY STAND THERE
pub sign_or : {A : Type 0} (s : ℕ) {g h : List ℕ → ℕ → Got A} → Follows g → Follows h → Follows (λ t at. if_at (sign_at s t at) (g t) (h t at))
unfolding follow sign_at if_sign if_at if◌then◌or_else◌
sign_or {A} s {g} {h} pg ph =
    record {
      course = look (λ m w. if_sign m (λ b. if eqb b s then pass pg.course or_else ph.course) ph.course);
      is = λ t at. by_form (token_at t at).form t at;
    }
  where
    by_test : (c : Bool) (t : List ℕ) (at : ℕ) → if_at (if c then Ok (behind t at) or_else Refused misplaced (place_of t at)) (g t) (h t at) ≡ follow (if c then pass pg.course or_else ph.course) t at
    by_test true t at = pg.is t (behind t at)
    by_test false t at = ph.is t at

    by_form : (m : Form) (t : List ℕ) (at : ℕ) → if_at (if_sign m (λ b. if eqb b s then Ok (behind t at) or_else Refused misplaced (place_of t at)) (Refused misplaced (place_of t at))) (g t) (h t at) ≡ follow (if_sign m (λ b. if eqb b s then pass pg.course or_else ph.course) ph.course) t at
    by_form Word t at = ph.is t at
    by_form (Sign b) t at = by_test (eqb b s) t at
    by_form Assign t at = ph.is t at
    by_form End t at = ph.is t at
    by_form Other t at = ph.is t at

pub sign_else : (s : ℕ) {g h : Reader} → Reads g → Reads h → Reads (λ t at x. if_at (sign_at s t at) (λ q. g t q x) (h t at x))
sign_else s {g} {h} rg rh = record { from = λ x. by (λ t at. if_got (sign_at s t at) (λ q. g t q x) (h t at x)) (sign_or s (rg.from x) (rh.from x)) }

-- BY THE TOKEN, BY A TEST
pub by_token : {A : Type 0} (D : Form → List ℕ → List ℕ → ℕ → Got A) → ((m : Form) (w : List ℕ) → Follows (D m w)) → Follows (λ t at. D (token_at t at).form (letters t at) t at)
unfolding follow
by_token D d = record { course = look (λ m w. (d m w).course); is = λ t at. (d (token_at t at).form (letters t at)).is t at }

pub token_reads : (D : Form → List ℕ → Reader) → ((m : Form) (w : List ℕ) → Reads (D m w)) → Reads (λ t at x. D (token_at t at).form (letters t at) t at x)
token_reads D d = record { from = λ x. by_token (λ m w t at. got (D m w t at x)) (λ m w. (d m w).from x) }

pub if_follows : {A : Type 0} (b : Bool) {f g : List ℕ → ℕ → Got A} → Follows f → Follows g → Follows (λ t at. if b then f t at or_else g t at)
unfolding if◌then◌or_else◌
if_follows true pf pg = pf
if_follows false pf pg = pg

pub word_follows : {A : Type 0} (m : Form) {f g : List ℕ → ℕ → Got A} → Follows f → Follows g → Follows (λ t at. if_word m (f t at) (g t at))
unfolding if_word
word_follows Word pf pg = pf
word_follows (Sign b) pf pg = pg
word_follows Assign pf pg = pg
word_follows End pf pg = pg
word_follows Other pf pg = pg

pub if_reads : (b : Bool) {f g : Reader} → Reads f → Reads g → Reads (if b then f or_else g)
unfolding if◌then◌or_else◌
if_reads true rf rg = rf
if_reads false rf rg = rg

pub if_each : (b : Bool) {f g : Reader} → Reads f → Reads g → Reads (λ t at x. if b then f t at x or_else g t at x)
unfolding if◌then◌or_else◌
if_each true rf rg = rf
if_each false rf rg = rg

pub word_reads : (m : Form) {f g : Reader} → Reads f → Reads g → Reads (λ t at x. if_word m (f t at x) (g t at x))
unfolding if_word
word_reads Word rf rg = rf
word_reads (Sign b) rf rg = rg
word_reads Assign rf rg = rg
word_reads End rf rg = rg
word_reads Other rf rg = rg

-- ONE TOKEN, at p and with q behind it: it is passed or refused, wherever it stands
data One (F : ℕ → ℕ → Parsed) : Type 0 where
  on : (y : List ℕ) → ((p q : ℕ) → F p q ≡ passed_to q y) → One F
  off : (y : List ℕ) → ((p q : ℕ) → F p q ≡ refused_at misplaced p y) → One F
  out : (y : List ℕ) → ((p q : ℕ) → F p q ≡ refused_at excessive p y) → One F

one_course : {F : ℕ → ℕ → Parsed} → One F → Course (List ℕ)
one_course (on y e) = pass (stop y)
one_course (off y e) = refuse false y
one_course (out y e) = refuse true y

one_is : {F : ℕ → ℕ → Parsed} (o : One F) (t : List ℕ) (at : ℕ) → got (F (place_of t at) (behind t at)) ≡ follow (one_course o) t at
unfolding follow one_course if◌then◌or_else◌
one_is (on y e) t at = ap got (e (place_of t at) (behind t at))
one_is (off y e) t at = ap got (e (place_of t at) (behind t at))
one_is (out y e) t at = ap got (e (place_of t at) (behind t at))

one_token : (f : Reader) (F : Form → List ℕ → List ℕ → ℕ → ℕ → Parsed) → ((t : List ℕ) (at : ℕ) (x : List ℕ) → f t at x ≡ F (token_at t at).form (letters t at) x (place_of t at) (behind t at)) → ((m : Form) (w x : List ℕ) → One (F m w x)) → Reads f
unfolding follow
one_token f F e o =
    record {
      from = λ x. record {
        course = look (λ m w. one_course (o m w x));
        is = λ t at. ap got (e t at x) ∙ one_is (o (token_at t at).form (letters t at) x) t at;
      };
    }

if_one : (b : Bool) {F G : ℕ → ℕ → Parsed} → One F → One G → One (λ p q. if b then F p q or_else G p q)
unfolding if◌then◌or_else◌
if_one true f g = f
if_one false f g = g

word_one : (m : Form) {F G : ℕ → ℕ → Parsed} → One F → One G → One (λ p q. if_word m (F p q) (G p q))
unfolding if_word
word_one Word f g = f
word_one (Sign b) f g = g
word_one Assign f g = g
word_one End f g = g
word_one Other f g = g

sign_one : (s : ℕ) (m : Form) (x : List ℕ) → One (λ p q. record { end = if_sign m (λ b. if eqb b s then Ok q or_else Refused misplaced p) (Refused misplaced p); words = x })
unfolding if_sign if◌then◌or_else◌
sign_one s Word x = off x (λ p q. refl)
sign_one s (Sign b) x = go (eqb b s)
  where
    go : (c : Bool) → One (λ p q. record { end = if c then Ok q or_else Refused misplaced p; words = x })
    go true = on x (λ p q. refl)
    go false = off x (λ p q. refl)
sign_one s Assign x = off x (λ p q. refl)
sign_one s End x = off x (λ p q. refl)
sign_one s Other x = off x (λ p q. refl)

assign_one : (m : Form) (x : List ℕ) → One (λ p q. record { end = if_assign m (Ok q) (Refused misplaced p); words = x })
unfolding if_assign
assign_one Word x = off x (λ p q. refl)
assign_one (Sign b) x = off x (λ p q. refl)
assign_one Assign x = on x (λ p q. refl)
assign_one End x = off x (λ p q. refl)
assign_one Other x = off x (λ p q. refl)

number_one : (v : Number) (least most place : ℕ) (x : List ℕ) → One (λ p q. keep_number v least most place p q x)
unfolding keep_number
number_one (Value v) least most place x =
    if_one (leb least v && leb v most) {F = λ p q. passed_to q (set x place v)} {G = λ p q. refused_at excessive p x} (on (set x place v) (λ p q. refl)) (out x (λ p q. refl))
number_one TooLarge least most place x = out x (λ p q. refl)
number_one NotANumber least most place x = off x (λ p q. refl)

operand_one : (v : Operand) (place : ℕ) (x : List ℕ) → One (λ p q. keep_operand v place p q x)
unfolding keep_operand
operand_one (OfNumber v) place x = on _ (λ p q. refl)
operand_one (Field d) place x = on _ (λ p q. refl)
operand_one OutOfRange place x = out x (λ p q. refl)
operand_one NotAnOperand place x = off x (λ p q. refl)

mode_one : (m : ℕ) (x : List ℕ) → One (λ p q. keep_mode m p q x)
unfolding keep_mode
mode_one m x = if_one (eqb m 0) {F = λ p q. refused_at misplaced p x} {G = λ p q. passed_to q (set x mode_place m)} (off x (λ p q. refl)) (on (set x mode_place m) (λ p q. refl))

no_word : (x : List ℕ) → One (λ p q. refused_at misplaced p x)
no_word x = off x (λ p q. refl)

pub sign_reads : (s : ℕ) → Reads (sign s)
unfolding sign_at
sign_reads s =
    one_token (sign s) (λ m w x p q. record { end = if_sign m (λ b. if eqb b s then Ok q or_else Refused misplaced p) (Refused misplaced p); words = x }) (λ t at x. refl)
    (λ m w x. sign_one s m x)

pub assign_reads : Reads assign
unfolding assign_at
assign_reads = one_token assign (λ m w x p q. record { end = if_assign m (Ok q) (Refused misplaced p); words = x }) (λ t at x. refl) (λ m w x. assign_one m x)

pub number_reads : (least most place : ℕ) → Reads (number least most place)
unfolding number
number_reads least most place =
    one_token (number least most place) (λ m w x p q. if_word m (keep_number (number_of w) least most place p q x) (refused_at misplaced p x)) (λ t at x. refl)
    (λ m w x. word_one m (number_one (number_of w) least most place x) (no_word x))

pub field_reads : (place : ℕ) → Reads (field place)
unfolding field
field_reads place =
    one_token (field place) (λ m w x p q. if_word m (keep_number (field_of w) 0 (fields_named - 1) place p q x) (refused_at misplaced p x)) (λ t at x. refl)
    (λ m w x. word_one m (number_one (field_of w) 0 (fields_named - 1) place x) (no_word x))

pub operand_reads : (place : ℕ) → Reads (operand place)
unfolding operand
operand_reads place =
    one_token (operand place) (λ m w x p q. if_word m (keep_operand (operand_of w) place p q x) (refused_at misplaced p x)) (λ t at x. refl)
    (λ m w x. word_one m (operand_one (operand_of w) place x) (no_word x))

pub mode_reads : Reads mode
unfolding mode
mode_reads =
    one_token mode (λ m w x p q. if_word m (keep_mode (mode_named w) p q x) (refused_at misplaced p x)) (λ t at x. refl)
    (λ m w x. word_one m (mode_one (mode_named w) x) (no_word x))

-- a refusal at the token; the token passed, whatever it is; nothing read
pub refused_reads : (change : List ℕ → List ℕ) → Reads (λ t at x. refused_at misplaced (place_of t at) (change x))
refused_reads change = record { from = λ x. refusing (change x) }

pub still_reads : (change : List ℕ → List ℕ) → Reads (λ t at x. passed_to at (change x))
still_reads change = record { from = λ x. stopped (change x) }

abbrev pub skip : (List ℕ → List ℕ) → Reader
skip change t at x = passed_to (behind t at) (change x)

pub skip_reads : (change : List ℕ → List ℕ) → Reads (skip change)
unfolding follow
skip_reads change = record { from = λ x. record { course = pass (stop (change x)); is = λ t at. refl } }

-- the text's end, beside a value
pub end_follows : {A : Type 0} (v : A) → Follows (λ t at. record { end = end_at t at; value = v })
unfolding follow end_at if_end if◌then◌or_else◌
end_follows {A} v = record { course = look (λ m w. if_end m (pass (stop v)) (refuse false v)); is = λ t at. by_form (token_at t at).form t at }
  where
    by_form : (m : Form) (t : List ℕ) (at : ℕ) → ◌≡◌ {A = Got A} (record { end = if_end m (Ok (behind t at)) (Refused misplaced (place_of t at)); value = v }) (follow (if_end m (pass (stop v)) (refuse false v)) t at)
    by_form Word t at = refl
    by_form (Sign b) t at = refl
    by_form Assign t at = refl
    by_form End t at = refl
    by_form Other t at = refl

-- WHAT CAN START AN ITEM goes by the token
pub record Told (s : List ℕ → ℕ → Bool) : Type 0 where
  pub test : Form → List ℕ → Bool
  pub is : (t : List ℕ) (at : ℕ) → s t at ≡ test (token_at t at).form (letters t at)

pub told : (F : Form → List ℕ → Bool) → Told (λ t at. F (token_at t at).form (letters t at))
told F = record { test = F; is = λ t at. refl }

-- the token at which there are too many
pub many_follows : {A : Type 0} {s : List ℕ → ℕ → Bool} (v : A) → Told s → Follows (λ t at. record { end = Refused (if s t at then excessive or_else misplaced) (place_of t at); value = v })
unfolding follow
many_follows {A} {s} v o =
    record {
      course = look (λ m w. refuse (o.test m w) v);
      is = λ t at. ap (λ (b : Bool). record { end = Refused (if b then excessive or_else misplaced) (place_of t at); value = v }) (o.is t at);
    }
