-- Where no message was consumed before it was brought, each consumption has a source of its own. Assumes nothing.
use Prim.Native.Nat.{ℕ, zero, suc, ◌+◌, ◌≤◌, ◌<◌}
use mathlib.Core.Path.{◌≡◌, refl, sym, ◌∙◌, ap, subst}
use mathlib.Core.Bool.{Bool, true, false, false≢true, ◌&&◌, ◌||◌}
use mathlib.Core.List.{List, [], ◌∷◌}
use native.Mathlib.Omega.{arith}
use lib.Dec.{eqb}
use lib.ListN.{take, drop}
use borrow.Author.Tests.{eqb-true, eq-eqb}
use Rattle.base_words.specs.Sum.{one_if}
use Rattle.base_words.proofs.AllLaws.{and_left, and_right}
use Rattle.base_words.proofs.PickLaws.{and_true}
use Rattle.meaning.specs.declared.Tuple.{Tuple}
use Rattle.meaning.specs.declared.Traffic.{Traffic}
use Rattle.meaning.specs.declared.Traffic.TheVariants.{Nothing, Consumed, Sent}
use Rattle.meaning.specs.Tuples.{same_tuple}
use Rattle.step_values.proofs.TupleLaws.{same_sym, same_trans}
use Rattle.step_queues.proofs.MessageLaws.{same_both}
use Rattle.step_queues.proofs.SlotLaws.{by_order}
use Rattle.step_history.specs.History.{Entry, step_gave, post_gave, is_message, is_consumed, is_sent, is_accepted, as_posted, as_sent, as_consumed, posts, sends, consumes, how_many}
use Rattle.step_history.specs.Matching.{brings, holds_at, place_among, consumes_own, source_in, source_of, Matched}
use Rattle.step_history.proofs.CountLaws.{counted_none, counted_next, counted_more, counted_past, Place, place_at}

-- ONE MESSAGE under two names for it
module _ (m : ℕ) (g : Tuple) (m' : ℕ) (g' : Tuple) (same : is_message m g m' g' ≡ true) where
  same_message : (name : ℕ) (x : Tuple) → is_message m' g' name x ≡ is_message m g name x
  unfolding is_message
  same_message name x =
      let e : m' ≡ m = eqb-true m' m (and_left (eqb m' m) (same_tuple g' g) same) in
      let s : same_tuple x g' ≡ same_tuple x g = same_sym x g' ∙ same_both g' g x (and_right (eqb m' m) (same_tuple g' g) same) ∙ same_sym g x in
      (λ i. eqb name (e i) && s i)

  brings_at : (e : Entry) → brings m' g' e ≡ brings m g e
  unfolding brings posts sends as_posted as_sent
  brings_at (step_gave n a) = ap (λ (b : Bool). is_accepted (step_gave n a) && false || (is_accepted (step_gave n a) && (is_sent a.traffic && b))) (same_message a.name a.tuple)
  brings_at (post_gave name x k) = ap (λ (b : Bool). is_accepted (post_gave name x k) && b || (is_accepted (post_gave name x k) && false)) (same_message name x)

  consumes_at : (e : Entry) → consumes m' g' e ≡ consumes m g e
  unfolding consumes as_consumed
  consumes_at (step_gave n a) = ap (λ (b : Bool). is_accepted (step_gave n a) && (is_consumed a.traffic && b)) (same_message a.name a.tuple)
  consumes_at (post_gave name x k) = refl

  brings_same : ◌≡◌ {A = Entry → Bool} (brings m' g') (brings m g)
  brings_same = λ i e. brings_at e i

  consumes_same : ◌≡◌ {A = Entry → Bool} (consumes m' g') (consumes m g)
  consumes_same = λ i e. consumes_at e i

-- WHAT HOLDS at a place
pub holds_first : (f : Entry → Bool) (i : ℕ) (h : List Entry) → holds_at f i h ≡ holds_at f 0 (drop i h)
unfolding holds_at
holds_first f zero [] = refl
holds_first f zero (e ∷ h) = refl
holds_first f (suc i) [] = refl
holds_first f (suc i) (e ∷ h) = holds_first f i h

pub holds_both : {C : Type 0} (f f' : Entry → Bool) → ((e : Entry) → f e ≡ true → f' e ≡ true → C) → (i : ℕ) (h : List Entry) → holds_at f i h ≡ true → holds_at f' i h ≡ true → C
unfolding holds_at
holds_both f f' by zero [] p q = absurd (false≢true p)
holds_both f f' by zero (e ∷ h) p q = by e p q
holds_both f f' by (suc i) [] p q = absurd (false≢true p)
holds_both f f' by (suc i) (e ∷ h) p q = holds_both f f' by i h p q

-- an entry posts or sends, never both
pub brings_one_way : (m : ℕ) (g : Tuple) (e : Entry) → one_if (brings m g e) ≡ one_if (posts m g e) + one_if (sends m g e)
unfolding brings posts sends as_posted as_sent
brings_one_way m g (step_gave n a) = go (is_accepted (step_gave n a)) (is_sent a.traffic && is_message m g a.name a.tuple)
  where
    go : (b c : Bool) → one_if (b && false || (b && c)) ≡ one_if (b && false) + one_if (b && c)
    go true true = refl
    go true false = refl
    go false c = refl
brings_one_way m g (post_gave name x k) = go (is_accepted (post_gave name x k)) (is_message m g name x)
  where
    go : (b c : Bool) → one_if (b && c || (b && false)) ≡ one_if (b && c) + one_if (b && false)
    go true true = refl
    go true false = refl
    go false c = refl

pub counted_brings : (m : ℕ) (g : Tuple) (h : List Entry) → how_many (brings m g) h ≡ how_many (posts m g) h + how_many (sends m g) h
counted_brings m g [] = omega (arith, counted_none (brings m g), counted_none (posts m g), counted_none (sends m g))
counted_brings m g (e ∷ h) =
    omega (arith, counted_next (brings m g) e h, counted_next (posts m g) e h, counted_next (sends m g) e h, brings_one_way m g e, counted_brings m g h)

-- what an entry consumed it did not bring
not_both : (m : ℕ) (g : Tuple) (e : Entry) → consumes m g e ≡ true → brings m g e ≡ false
unfolding consumes brings posts sends as_posted as_sent as_consumed is_consumed is_sent
not_both m g (step_gave n a) p = go (is_accepted (step_gave n a)) a.traffic (is_message m g a.name a.tuple) p
  where
    go : (b : Bool) (x : Traffic) (c : Bool) → b && (is_consumed x && c) ≡ true → b && false || (b && (is_sent x && c)) ≡ false
    go false x c d = refl
    go true Nothing c d = refl
    go true Consumed c d = refl
    go true Sent c d = absurd (false≢true d)
not_both m g (post_gave name x k) p = absurd (go (is_accepted (post_gave name x k)) p)
  where
    go : (b : Bool) → b && false ≡ true → ⊥
    go false d = false≢true d
    go true d = false≢true d

-- two messages that are both a third
meet : (m : ℕ) (g : Tuple) (name : ℕ) (x : Tuple) (m' : ℕ) (g' : Tuple) → is_message m g name x ≡ true → is_message m' g' name x ≡ true → is_message m g m' g' ≡ true
unfolding is_message
meet m g name x m' g' p q =
    let a : name ≡ m = eqb-true name m (and_left (eqb name m) (same_tuple x g) p) in
    let b : name ≡ m' = eqb-true name m' (and_left (eqb name m') (same_tuple x g') q) in
    and_true (eqb m' m) (same_tuple g' g) (eq-eqb m' m (sym b ∙ a))
    (same_trans g' x g (same_sym g' x ∙ and_right (eqb name m') (same_tuple x g') q) (and_right (eqb name m) (same_tuple x g) p))

-- the message that an entry brought is one
brings_one : (m : ℕ) (g : Tuple) (e : Entry) (m' : ℕ) (g' : Tuple) → brings m g e ≡ true → brings m' g' e ≡ true → is_message m g m' g' ≡ true
unfolding brings posts sends as_posted as_sent
brings_one m g (step_gave n a) m' g' p q = meet m g a.name a.tuple m' g' (sent_of (is_accepted (step_gave n a)) (is_sent a.traffic) (is_message m g a.name a.tuple) p) (sent_of (is_accepted (step_gave n a)) (is_sent a.traffic) (is_message m' g' a.name a.tuple) q)
  where
    sent_of : (b c d : Bool) → b && false || (b && (c && d)) ≡ true → d ≡ true
    sent_of true true d e = e
    sent_of true false d e = absurd (false≢true e)
    sent_of false c d e = absurd (false≢true e)
brings_one m g (post_gave name x k) m' g' p q = meet m g name x m' g' (posted_of (is_accepted (post_gave name x k)) (is_message m g name x) p) (posted_of (is_accepted (post_gave name x k)) (is_message m' g' name x) q)
  where
    posted_of : (b d : Bool) → b && d || (b && false) ≡ true → d ≡ true
    posted_of true true e = refl
    posted_of true false e = absurd (false≢true e)
    posted_of false d e = absurd (false≢true e)

-- the message that an entry consumed is its own
own_message : (m : ℕ) (g : Tuple) (b : Bool) (x : Traffic) (name : ℕ) (y : Tuple) → b && (is_consumed x && is_message m g name y) ≡ true → is_message m g name y ≡ true
own_message m g b x name y e = and_right (is_consumed x) (is_message m g name y) (and_right b (is_consumed x && is_message m g name y) e)

pub own_at : (i : ℕ) (h : List Entry) → holds_at consumes_own i h ≡ true → (m : ℕ) × (g : Tuple) × (holds_at (consumes m g) i h ≡ true)
unfolding holds_at consumes_own
own_at zero [] e = absurd (false≢true e)
own_at (suc i) [] e = absurd (false≢true e)
own_at zero (step_gave n a ∷ h) e = (a.name, a.tuple, e)
own_at zero (post_gave m g k ∷ h) e = absurd (false≢true e)
own_at (suc i) (x ∷ h) e = own_at i h e

-- THE SOURCE
abbrev Source : ℕ → Tuple → List Entry → ℕ → ℕ
Source m g h i = place_among (brings m g) (how_many (consumes m g) (take i h)) h

source_in_lem : (m : ℕ) (g : Tuple) (h : List Entry) (i : ℕ) (rest : List Entry) → holds_at (consumes m g) 0 rest ≡ true → source_in h i rest ≡ Source m g h i
unfolding source_in holds_at consumes as_consumed
source_in_lem m g h i [] e = absurd (false≢true e)
source_in_lem m g h i (step_gave n a ∷ rest) e =
    let s : is_message m g a.name a.tuple ≡ true = own_message m g (is_accepted (step_gave n a)) a.traffic a.name a.tuple e in
    let b = brings_same m g a.name a.tuple s in
    let c = consumes_same m g a.name a.tuple s in
    λ j. place_among (b j) (how_many (c j) (take i h)) h
source_in_lem m g h i (post_gave name x k ∷ rest) e = absurd (go (is_accepted (post_gave name x k)) e)
  where
    go : (b : Bool) → b && false ≡ true → ⊥
    go false d = false≢true d
    go true d = false≢true d

source_is : (m : ℕ) (g : Tuple) (h : List Entry) (i : ℕ) → holds_at (consumes m g) i h ≡ true → source_of h i ≡ Source m g h i
unfolding source_of
source_is m g h i e = source_in_lem m g h i (drop i h) (sym (holds_first (consumes m g) i h) ∙ e)

-- WHERE NO MESSAGE IS CONSUMED BEFORE IT WAS BROUGHT, at any time
module _ (h : List Entry) (ahead : (m : ℕ) (g : Tuple) (i : ℕ) → how_many (consumes m g) (take i h) ≤ how_many (brings m g) (take i h)) where
  waiting : (m : ℕ) (g : Tuple) (i : ℕ) → holds_at (consumes m g) i h ≡ true → how_many (consumes m g) (take i h) < how_many (brings m g) (take i h)
  waiting m g i e =
      let none : holds_at (brings m g) i h ≡ false = not_brought i h e in
      let c : how_many (consumes m g) (take (suc i) h) ≡ how_many (consumes m g) (take i h) + 1 = counted_more (consumes m g) i h ∙ ap (λ (b : Bool). how_many (consumes m g) (take i h) + one_if b) e in
      let b : how_many (brings m g) (take (suc i) h) ≡ how_many (brings m g) (take i h) + 0 = counted_more (brings m g) i h ∙ ap (λ (b : Bool). how_many (brings m g) (take i h) + one_if b) none in
      omega (arith, b, c, ahead m g (suc i))
    where
      not_brought : (i : ℕ) (h : List Entry) → holds_at (consumes m g) i h ≡ true → holds_at (brings m g) i h ≡ false
      not_brought i h e = go (holds_at (brings m g) i h) refl
        where
          go : (b : Bool) → holds_at (brings m g) i h ≡ b → b ≡ false
          go false q = refl
          go true q = holds_both (consumes m g) (brings m g) (λ x p r. absurd (false≢true (sym (not_both m g x p) ∙ r))) i h e q

  there : (m : ℕ) (g : Tuple) (i : ℕ) → holds_at (consumes m g) i h ≡ true → Place (brings m g) (how_many (consumes m g) (take i h)) i (Source m g h i) h
  there m g i e = place_at (brings m g) h (how_many (consumes m g) (take i h)) i (waiting m g i e)

  found : (m : ℕ) (g : Tuple) (i : ℕ) → holds_at (consumes m g) i h ≡ true → Place (brings m g) (how_many (consumes m g) (take i h)) i (source_of h i) h
  found m g i e = subst (λ (p : ℕ). Place (brings m g) (how_many (consumes m g) (take i h)) i p h) (sym (source_is m g h i e)) (there m g i e)

  -- two that have one source are at one place
  apart : (m : ℕ) (g : Tuple) (i j : ℕ) → holds_at (consumes m g) i h ≡ true → holds_at (consumes m g) j h ≡ true → source_of h i ≡ source_of h j → i ≡ j
  apart m g i j p q e =
      let a : how_many (brings m g) (take (source_of h i) h) ≡ how_many (consumes m g) (take i h) = (found m g i p).before in
      let b : how_many (brings m g) (take (source_of h j) h) ≡ how_many (consumes m g) (take j h) = (found m g j q).before in
      let c : how_many (consumes m g) (take i h) ≡ how_many (consumes m g) (take j h) = sym a ∙ ap (λ (x : ℕ). how_many (brings m g) (take x h)) e ∙ b in
      by_order i j
      (λ l. absurd (omega (arith, c, counted_past (consumes m g) i j h l p)))
      (λ l. sym l)
      (λ l. absurd (omega (arith, c, counted_past (consumes m g) j i h l q)))

  pub all_matched : Matched h (source_of h)
  all_matched = record {
    earlier = λ m g i e. ((found m g i e).low, (found m g i e).holds);
    once = λ i j p q e.
        let x = own_at i h p in
        let y = own_at j h q in
        let s : is_message x.0 x.1 y.0 y.1 ≡ true
        = holds_both (brings x.0 x.1) (brings y.0 y.1) (λ u a b. brings_one x.0 x.1 u y.0 y.1 a b) (source_of h i) h (found x.0 x.1 i x.2).holds
        (subst (λ (k : ℕ). holds_at (brings y.0 y.1) k h ≡ true) (sym e) (found y.0 y.1 j y.2).holds) in
        apart x.0 x.1 i j x.2 (subst (λ (f : Entry → Bool). holds_at f j h ≡ true) (consumes_same x.0 x.1 y.0 y.1 s) y.2) e;
  }
