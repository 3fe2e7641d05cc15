-- The desk's list taken apart into four records, their words, and what is put back. Assumes nothing.
use Prim.Native.Nat.{ℕ, ◌≤◌, ◌<◌}
use mathlib.Core.Path.{◌≡◌, refl, sym, ◌∙◌, ap}
use mathlib.Core.Bool.{Bool, true, false, false≢true}
use mathlib.Core.List.{List, [], ◌∷◌}
use native.Mathlib.Omega.{arith}
use borrow.Author.Tests.{eqb-true, eq-eqb, ne_eqb, lt-ltb, le-ltb, ltb-true}
use lib.Dec.{eqb, ltb, lit<}
use lib.ListN.{length, get_or, length-map}
use Rattle.base_words.specs.Pick.{if◌then◌or_else◌}
use Rattle.base_words.proofs.AllLaws.{and_left}
use Rattle.base_words.proofs.ListLaws.{get_d_tab, length-tab}
use Rattle.base_words.proofs.PickLaws.{pick_yes, pick_no}
use Rattle.base_table.specs.Table.{pool_count}
use Rattle.state_figures.specs.Figures.{record_of, counted, record_at, agree, desk_number}
use Rattle.state_records.specs.declared.Record.{Record}
use Rattle.state_records.specs.declared.Four.{Four}
use Rattle.state_records.specs.Records.{triple_of, triples, four_of, put_back, words_of, lent_count, lent_words, struct_of, four_from, four_left}

-- HOW MANY are lent on
pub count_few : (f : Four) → f.count < 5 → f.count ≡ lent_count f
unfolding lent_count
count_few f h = pick_yes (ltb f.count 5) f.count f.count 5 (lt-ltb f.count 5 h) refl

pub count_many : (f : Four) → 5 ≤ f.count → 5 ≡ lent_count f
unfolding lent_count
count_many f h = pick_no (ltb f.count 5) 5 f.count 5 (le-ltb f.count 5 h) refl

-- FOUR records out of words, each read at its place
pub four_done : (ws : List (List ℕ)) (n : ℕ) (a b c d : Record) → a ≡ struct_of (record_at ws 0) → b ≡ struct_of (record_at ws 1) → c ≡ struct_of (record_at ws 2) → d ≡ struct_of (record_at ws 3)
    → record { first = a; second = b; third = c; fourth = d; count = n } ≡ four_from ws n
unfolding four_from
four_done ws n a b c d p q r s = λ i. record { first = p i; second = q i; third = r i; fourth = s i; count = n }

-- A LIST OF AT MOST FOUR is lent on whole
pub lent_short : (rs : List Record) → length rs ≤ 4 → lent_words (four_of rs) ≡ triples rs
unfolding four_of words_of lent_count triples if◌then◌or_else◌
lent_short [] h = refl
lent_short (a ∷ []) h = refl
lent_short (a ∷ b ∷ []) h = refl
lent_short (a ∷ b ∷ c ∷ []) h = refl
lent_short (a ∷ b ∷ c ∷ d ∷ []) h = refl
lent_short (a ∷ b ∷ c ∷ d ∷ e ∷ r) h = absurd (omega (arith, h))

-- of a longer one five
five_long : (f : Four) → lent_count f ≡ 5 → length (lent_words f) ≡ 5
unfolding words_of
five_long f h = rw h refl

-- WHAT IS PUT BACK: the words, where they are as many as the list's records and those at most four
pub put_left : (rs : List Record) (ws : List (List ℕ)) → length rs ≤ 4 → length ws ≡ length rs → ((i : ℕ) → i < length ws → get_or ws i [] ≡ triple_of (struct_of (get_or ws i [])))
    → triples (put_back rs (four_left (four_of rs) ws)) ≡ ws
unfolding four_of words_of lent_count triples put_back four_from if◌then◌or_else◌
put_left [] [] h e t = refl
put_left [] (v ∷ ws) h e t = absurd (omega (arith, e))
put_left (a ∷ []) [] h e t = absurd (omega (arith, e))
put_left (a ∷ []) (x ∷ []) h e t = λ i. sym (t 0 (lit< tt)) i ∷ []
put_left (a ∷ []) (x ∷ v ∷ ws) h e t = absurd (omega (arith, e))
put_left (a ∷ b ∷ []) [] h e t = absurd (omega (arith, e))
put_left (a ∷ b ∷ []) (x ∷ []) h e t = absurd (omega (arith, e))
put_left (a ∷ b ∷ []) (x ∷ y ∷ []) h e t = λ i. sym (t 0 (lit< tt)) i ∷ sym (t 1 (lit< tt)) i ∷ []
put_left (a ∷ b ∷ []) (x ∷ y ∷ v ∷ ws) h e t = absurd (omega (arith, e))
put_left (a ∷ b ∷ c ∷ []) [] h e t = absurd (omega (arith, e))
put_left (a ∷ b ∷ c ∷ []) (x ∷ []) h e t = absurd (omega (arith, e))
put_left (a ∷ b ∷ c ∷ []) (x ∷ y ∷ []) h e t = absurd (omega (arith, e))
put_left (a ∷ b ∷ c ∷ []) (x ∷ y ∷ z ∷ []) h e t = λ i. sym (t 0 (lit< tt)) i ∷ sym (t 1 (lit< tt)) i ∷ sym (t 2 (lit< tt)) i ∷ []
put_left (a ∷ b ∷ c ∷ []) (x ∷ y ∷ z ∷ v ∷ ws) h e t = absurd (omega (arith, e))
put_left (a ∷ b ∷ c ∷ d ∷ []) [] h e t = absurd (omega (arith, e))
put_left (a ∷ b ∷ c ∷ d ∷ []) (x ∷ []) h e t = absurd (omega (arith, e))
put_left (a ∷ b ∷ c ∷ d ∷ []) (x ∷ y ∷ []) h e t = absurd (omega (arith, e))
put_left (a ∷ b ∷ c ∷ d ∷ []) (x ∷ y ∷ z ∷ []) h e t = absurd (omega (arith, e))
put_left (a ∷ b ∷ c ∷ d ∷ []) (x ∷ y ∷ z ∷ u ∷ []) h e t = λ i. sym (t 0 (lit< tt)) i ∷ sym (t 1 (lit< tt)) i ∷ sym (t 2 (lit< tt)) i ∷ sym (t 3 (lit< tt)) i ∷ []
put_left (a ∷ b ∷ c ∷ d ∷ []) (x ∷ y ∷ z ∷ u ∷ v ∷ ws) h e t = absurd (omega (arith, e))
put_left (a ∷ b ∷ c ∷ d ∷ k ∷ r) ws h e t = absurd (omega (arith, h))

-- and the list itself, where the words are those lent on
four_kept : (f : Four) → lent_count f ≡ 5 → four_left f (lent_words f) ≡ f
unfolding words_of four_from
four_kept f h = rw h refl

put_all : (a b c d e : Record) (r : List Record) → put_back (a ∷ b ∷ c ∷ d ∷ e ∷ r) (four_of (a ∷ b ∷ c ∷ d ∷ e ∷ r)) ≡ a ∷ b ∷ c ∷ d ∷ e ∷ r
unfolding four_of put_back
put_all a b c d e r = refl

many : (a b c d e : Record) (r : List Record) → lent_count (four_of (a ∷ b ∷ c ∷ d ∷ e ∷ r)) ≡ 5
unfolding four_of
many a b c d e r = sym (count_many (four_of (a ∷ b ∷ c ∷ d ∷ e ∷ r)) (omega arith))

pub put_same : (rs : List Record) → put_back rs (four_left (four_of rs) (lent_words (four_of rs))) ≡ rs
unfolding four_of words_of lent_count put_back four_from if◌then◌or_else◌
put_same [] = refl
put_same (a ∷ []) = refl
put_same (a ∷ b ∷ []) = refl
put_same (a ∷ b ∷ c ∷ []) = refl
put_same (a ∷ b ∷ c ∷ d ∷ []) = refl
put_same (a ∷ b ∷ c ∷ d ∷ e ∷ r) = ap (put_back (a ∷ b ∷ c ∷ d ∷ e ∷ r)) (four_kept (four_of (a ∷ b ∷ c ∷ d ∷ e ∷ r)) (many a b c d e r)) ∙ put_all a b c d e r

-- WHAT A COUNT GIVES is put back whole
pub counted_long : (t s : List ℕ) → length (counted t s) ≡ pool_count t
unfolding counted
counted_long t s = length-tab (record_of s) (pool_count t)

counted_words : (t s : List ℕ) (i : ℕ) → i < length (counted t s) → record_at (counted t s) i ≡ triple_of (struct_of (record_at (counted t s) i))
unfolding counted record_of
counted_words t s i h = rw (get_d_tab (record_of s) (pool_count t) i [] (omega (arith, h, counted_long t s))) refl

pub put_counted : (rs : List Record) (t s : List ℕ) → pool_count t ≤ 4 → length rs ≡ pool_count t → triples (put_back rs (four_left (four_of rs) (counted t s))) ≡ counted t s
put_counted rs t s h e = put_left rs (counted t s) (omega (arith, h, e)) (counted_long t s ∙ sym e) (counted_words t s)

-- THE NUMBER of what is lent is that of what is lent on
pub triples_long : (rs : List Record) → length (triples rs) ≡ length rs
unfolding triples
triples_long rs = length-map rs triple_of

disagree : (ws : List (List ℕ)) (t s : List ℕ) → (length ws ≡ pool_count t → ⊥) → agree ws t s ≡ false
unfolding agree
disagree ws t s h = rw (ne_eqb (length ws) (pool_count t) h) refl

by_flag : (b : Bool) (x y z : ℕ) → (b ≡ true → x ≡ y) → (if b then x or_else z) ≡ (if b then y or_else z)
unfolding if◌then◌or_else◌
by_flag true x y z h = h refl
by_flag false x y z h = refl

long_number : (k : ℕ) (ws vs : List (List ℕ)) (t s : List ℕ) → (k ≡ 0 → (length ws ≡ pool_count t → ⊥) × (length vs ≡ pool_count t → ⊥)) → desk_number k ws t s ≡ desk_number k vs t s
unfolding desk_number
long_number k ws vs t s h =
    by_flag (eqb k 0) _ _ k (λ e. ap (λ (b : Bool). if b then 0 or_else 26) (disagree ws t s (h (eqb-true k 0 e)).0 ∙ sym (disagree vs t s (h (eqb-true k 0 e)).1)))

pub number_same : (k : ℕ) (rs : List Record) (t s : List ℕ) → (k ≡ 0 → pool_count t ≤ 4) → desk_number k (lent_words (four_of rs)) t s ≡ desk_number k (triples rs) t s
number_same k [] t s h = ap (λ (ws : List (List ℕ)). desk_number k ws t s) (lent_short [] (omega arith))
number_same k (a ∷ []) t s h = ap (λ (ws : List (List ℕ)). desk_number k ws t s) (lent_short (a ∷ []) (omega arith))
number_same k (a ∷ b ∷ []) t s h = ap (λ (ws : List (List ℕ)). desk_number k ws t s) (lent_short (a ∷ b ∷ []) (omega arith))
number_same k (a ∷ b ∷ c ∷ []) t s h = ap (λ (ws : List (List ℕ)). desk_number k ws t s) (lent_short (a ∷ b ∷ c ∷ []) (omega arith))
number_same k (a ∷ b ∷ c ∷ d ∷ []) t s h = ap (λ (ws : List (List ℕ)). desk_number k ws t s) (lent_short (a ∷ b ∷ c ∷ d ∷ []) (omega arith))
number_same k (a ∷ b ∷ c ∷ d ∷ e ∷ r) t s h =
    long_number k (lent_words (four_of (a ∷ b ∷ c ∷ d ∷ e ∷ r))) (triples (a ∷ b ∷ c ∷ d ∷ e ∷ r)) t s
    (λ z. (λ l. omega (arith, h z, l, five_long (four_of (a ∷ b ∷ c ∷ d ∷ e ∷ r)) (many a b c d e r)), λ l. omega (arith, h z, l, triples_long (a ∷ b ∷ c ∷ d ∷ e ∷ r))))

by_numbers : (a b : Bool) (k : ℕ) → (if a then (if b then 0 or_else 26) or_else k) ≡ 0 → (a ≡ false → k ≡ 0 → ⊥) → (a ≡ true) × (b ≡ true)
unfolding if◌then◌or_else◌
by_numbers true true k h f = (refl, refl)
by_numbers true false k h f = absurd (omega (arith, h))
by_numbers false b k h f = absurd (f refl h)

-- a number of 0 tells that nothing is refused before, and how many the records are
pub number_counts : (k : ℕ) (ws : List (List ℕ)) (t s : List ℕ) → desk_number k ws t s ≡ 0 → (k ≡ 0) × (length ws ≡ pool_count t)
unfolding desk_number agree
number_counts k ws t s h =
    let both = by_numbers (eqb k 0) (agree ws t s) k h (λ e z. false≢true (sym e ∙ eq-eqb k 0 z)) in
    (eqb-true k 0 both.0, eqb-true (length ws) (pool_count t) (and_left (eqb (length ws) (pool_count t)) _ both.1))

lent_eq : (ys : List Record) (m : ℕ) → m ≤ 4 → eqb (length (lent_words (four_of ys))) m ≡ eqb (length ys) m
lent_eq [] m h = ap (λ (ws : List (List ℕ)). eqb (length ws) m) (lent_short [] (omega arith)) ∙ ap (λ (n : ℕ). eqb n m) (triples_long [])
lent_eq (a ∷ []) m h = ap (λ (ws : List (List ℕ)). eqb (length ws) m) (lent_short (a ∷ []) (omega arith)) ∙ ap (λ (n : ℕ). eqb n m) (triples_long (a ∷ []))
lent_eq (a ∷ b ∷ []) m h = ap (λ (ws : List (List ℕ)). eqb (length ws) m) (lent_short (a ∷ b ∷ []) (omega arith)) ∙ ap (λ (n : ℕ). eqb n m) (triples_long (a ∷ b ∷ []))
lent_eq (a ∷ b ∷ c ∷ []) m h = ap (λ (ws : List (List ℕ)). eqb (length ws) m) (lent_short (a ∷ b ∷ c ∷ []) (omega arith)) ∙ ap (λ (n : ℕ). eqb n m) (triples_long (a ∷ b ∷ c ∷ []))
lent_eq (a ∷ b ∷ c ∷ d ∷ []) m h = ap (λ (ws : List (List ℕ)). eqb (length ws) m) (lent_short (a ∷ b ∷ c ∷ d ∷ []) (omega arith)) ∙ ap (λ (n : ℕ). eqb n m) (triples_long (a ∷ b ∷ c ∷ d ∷ []))
lent_eq (a ∷ b ∷ c ∷ d ∷ e ∷ r) m h =
    let l = five_long (four_of (a ∷ b ∷ c ∷ d ∷ e ∷ r)) (many a b c d e r) in
    ne_eqb (length (lent_words (four_of (a ∷ b ∷ c ∷ d ∷ e ∷ r)))) m (λ q. omega (arith, l, q, h)) ∙ sym (ne_eqb (length (a ∷ b ∷ c ∷ d ∷ e ∷ r)) m (λ q. omega (arith, q, h)))

pub count_same : (ys : List Record) (t : List ℕ) → pool_count t ≤ 4 → eqb (length (lent_words (four_of ys))) (pool_count t) ≡ eqb (length ys) (pool_count t)
count_same ys t h = lent_eq ys (pool_count t) h

pub words_long : (f : Four) → length (words_of f) ≡ 5
unfolding words_of
words_long f = refl

by_five : (b : Bool) (n : ℕ) → (b ≡ true → n < 5) → (if b then n or_else 5) ≤ 5
unfolding if◌then◌or_else◌
by_five true n h = omega (arith, h refl)
by_five false n h = omega arith

pub count_most_lem : (f : Four) → lent_count f ≤ 5
unfolding lent_count
count_most_lem f = by_five (ltb f.count 5) f.count (ltb-true f.count 5)
