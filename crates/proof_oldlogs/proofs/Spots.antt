-- WHAT BECAME OF EACH ELEMENT of a pool, els as its text says them, b as they are when some endSnds were treated: it stayed, or it was an endSnd and goes to an edge of its own now, which no element of the text mentions.
-- Assumes nothing.
use Prim.Native.Nat.{ℕ, zero, suc, ◌≤◌, ◌<◌}
use mathlib.Core.Path.{◌≡◌, refl, sym, ◌∙◌, ap, subst}
use mathlib.Core.Bool.{true, false, false≢true}
use mathlib.Core.List.{List, [], ◌∷◌}
use mathlib.Core.Logic.{◌⊎◌, inl, inr}
use native.Mathlib.Decide.{ℕ_discrete}
use native.Mathlib.Omega.{arith}
use lib.Dec.{eqb, leb}
use lib.ListN.{length, get_or, set, length-set, get_or-append}
use lib.Seq.{get_or-set_same, get_or-set_other}
use borrow.Author.Tests.{eq-eqb, leb-true}
use Rattle.base_words.specs.Counts.{edges}
use Rattle.base_words.specs.Each.{total}
use Rattle.base_words.specs.Iter.{iter}
use Rattle.base_words.specs.Sum.{hit, one_if}
use Rattle.base_words.proofs.AllLaws.{and_left}
use Rattle.base_kinds.specs.Kinds.{end_snd}
use Rattle.base_table.specs.Table.{exit_at}
use Rattle.text_ends.specs.Rewriting.{is_end_snd, mentioned, lowest_unused, sending_to, end_of, first_end, treated, end_sends, all_treated, unused_count, room_for}
use Rattle.text_ends.proofs.RewriteLaws.{found, is_end, treated-total, treated_long}
use Rattle.proof_roundtrip.proofs.EndModels.{Every, every_in, Right}
use Rattle.proof_roundtrip.proofs.EndSends.{kind_is, exit_is}
use Rattle.proof_roundtrip.proofs.EndCounts.{mentions}
use Rattle.proof_roundtrip.proofs.Rewritten.{no_end_at}
use Rattle.proof_roundtrip.proofs.Turns.{edge_is, below, unmentioned, after, turned_by}

pub total_at : (g : List ℕ → ℕ) (xs : List (List ℕ)) (k : ℕ) → k < length xs → g (get_or xs k []) ≤ total g xs
unfolding total
total_at g [] k l = absurd (omega (arith, l))
total_at g (x ∷ xs) zero l = omega arith
total_at g (x ∷ xs) (suc k) l = omega (arith, total_at g xs k (omega (arith, l)))

abbrev pub edge_in : List (List ℕ) → ℕ → ℕ
edge_in b j = exit_at (get_or b j []) 0

pub record Ended (els b : List (List ℕ)) (j : ℕ) : Type 0 where
  pub was : is_end_snd (get_or els j []) ≡ true
  pub goes : get_or b j [] ≡ sending_to (edge_in b j) (get_or els j [])
  pub low : 1 ≤ edge_in b j
  pub high : edge_in b j ≤ edges
  pub free : total (mentioned (edge_in b j)) els ≡ 0

pub record Spots (els b : List (List ℕ)) : Type 0 where
  pub longer : length els ≤ length b
  pub each : (j : ℕ) → j < length els → (get_or b j [] ≡ get_or els j []) ⊎ Ended els b j
  pub apart : (j k : ℕ) → j < length els → k < length els → Ended els b j → Ended els b k → edge_in b j ≡ edge_in b k → j ≡ k
  pub mentions_more : (e : ℕ) → 0 < e → total (mentioned e) els ≤ total (mentioned e) b

no_end_sent : (x : List ℕ) → Right x → is_end_snd x ≡ true → (f : ℕ) → is_end_snd (sending_to f x) ≡ true → ⊥
unfolding is_end_snd
no_end_sent x r is f e = false≢true (sym (ap (λ k. eqb k end_snd) (kind_is x r is f)) ∙ e)

module _ (els : List (List ℕ)) (every : Every Right els) where
  -- ONE MORE TREATED
  module _ (b : List (List ℕ)) (right : Every Right b) (some : 0 < end_sends b) (free : 0 < unused_count b) (s : Spots els b) where
    abbrev J : ℕ
    J = first_end b

    abbrev f : ℕ
    f = lowest_unused b

    abbrev d : List (List ℕ)
    d = treated b

    J-right : Right (get_or b J [])
    J-right = every_in Right b [] J right (found b some)

    at_other : (j : ℕ) → j < length els → (j ≡ J → ⊥) → get_or d j [] ≡ get_or b j []
    unfolding treated
    at_other j l n =
        let q = length-set b J (sending_to f (get_or b J [])) in
        get_or-append (set b J (sending_to f (get_or b J []))) (end_of f ∷ []) [] j (omega (arith, l, s.longer, q)) ∙ get_or-set_other b J j (sending_to f (get_or b J [])) [] n

    at_own : get_or d J [] ≡ sending_to f (get_or b J [])
    unfolding treated
    at_own =
        let q = length-set b J (sending_to f (get_or b J [])) in
        get_or-append (set b J (sending_to f (get_or b J []))) (end_of f ∷ []) [] J (omega (arith, found b some, q)) ∙ get_or-set_same b J (sending_to f (get_or b J [])) [] (found b some)

    own_edge : edge_in d J ≡ f
    own_edge = ap (λ (x : List ℕ). exit_at x 0) at_own ∙ exit_is (get_or b J []) J-right (is_end b some) f

    unused_in : total (mentioned f) b ≡ 0
    unused_in = subst (λ (k : ℕ). total (mentioned k) b ≡ 0) (sym (edge_is b free)) (unmentioned b free)

    f_low : 1 ≤ f
    f_low = omega (arith, edge_is b free)

    f_high : f ≤ edges
    f_high = omega (arith, edge_is b free, below b free)

    -- the one that is treated stayed till now
    own_ended : J < length els → Ended els d J
    own_ended l = go (s.each J l)
      where
        go : (get_or b J [] ≡ get_or els J []) ⊎ Ended els b J → Ended els d J
        go (inl q) = record {
          was = ap is_end_snd (sym q) ∙ is_end b some;
          goes = at_own ∙ (λ i. sending_to (sym own_edge i) (q i));
          low = omega (arith, own_edge, f_low);
          high = omega (arith, own_edge, f_high);
          free = subst (λ (k : ℕ). total (mentioned k) els ≡ 0) (sym own_edge) (omega (arith, s.mentions_more f f_low, unused_in));
        }
        go (inr e) = absurd (no_end_sent (get_or els J []) (every_in Right els [] J every l) e.was (edge_in b J) (ap is_end_snd (sym e.goes) ∙ is_end b some))

    kept_ended : (u v : List (List ℕ)) (j : ℕ) → get_or v j [] ≡ get_or u j [] → Ended els u j → Ended els v j
    kept_ended u v j q e =
        let g : edge_in v j ≡ edge_in u j = ap (λ (x : List ℕ). exit_at x 0) q in
        record {
          was = e.was;
          goes = q ∙ e.goes ∙ ap (λ (k : ℕ). sending_to k (get_or els j [])) (sym g);
          low = omega (arith, g, e.low);
          high = omega (arith, g, e.high);
          free = subst (λ (k : ℕ). total (mentioned k) els ≡ 0) (sym g) e.free;
        }

    -- an edge that was given before is another
    given_before : (j : ℕ) → j < length els → (j ≡ J → ⊥) → Ended els d j → edge_in d j ≡ f → ⊥
    given_before j l n e q =
        let o = at_other j l n in
        let x = get_or els j [] in
        let m = (mentions x (every_in Right els [] j every l) e.was (edge_in d j) f f_low).0 in
        let h : hit (edge_in d j) f ≡ 1 = ap one_if (eq-eqb (edge_in d j) f q) in
        let w : mentioned f (get_or b j []) ≡ mentioned f (sending_to (edge_in d j) x) = ap (mentioned f) (sym o ∙ e.goes) in
        omega (arith, m, h, w, total_at (mentioned f) b j (omega (arith, l, s.longer)), unused_in)

    pub one_more_lem : Spots els d
    one_more_lem = record {
      longer = omega (arith, treated_long b, s.longer);
      each = λ j l. each j l (ℕ_discrete j J);
      apart = λ j k l m e g q. apart j k l m e g q (ℕ_discrete j J) (ℕ_discrete k J);
      mentions_more = λ e l.
          (let t = treated-total b some J-right.long (mentioned e) in
          let m = mentions (get_or b J []) J-right (is_end b some) f e l in
          omega (arith, t, m.0, m.1, s.mentions_more e l));
    }
      where
        each : (j : ℕ) → j < length els → Dec (j ≡ J) → (get_or d j [] ≡ get_or els j []) ⊎ Ended els d j
        each j l (yes q) = inr (subst (Ended els d) (sym q) (own_ended (omega (arith, l, q))))
        each j l (no n) = go (s.each j l)
          where
            go : (get_or b j [] ≡ get_or els j []) ⊎ Ended els b j → (get_or d j [] ≡ get_or els j []) ⊎ Ended els d j
            go (inl q) = inl (at_other j l n ∙ q)
            go (inr e) = inr (kept_ended b d j (at_other j l n) e)

        apart : (j k : ℕ) → j < length els → k < length els → Ended els d j → Ended els d k → edge_in d j ≡ edge_in d k → Dec (j ≡ J) → Dec (k ≡ J) → j ≡ k
        apart j k l m e g q (yes a) (yes c) = a ∙ sym c
        apart j k l m e g q (yes a) (no c) = absurd (given_before k m c g (sym q ∙ ap (edge_in d) a ∙ own_edge))
        apart j k l m e g q (no a) (yes c) = absurd (given_before j l a e (q ∙ ap (edge_in d) c ∙ own_edge))
        apart j k l m e g q (no a) (no c) =
            let o = at_other j l a in
            let p = at_other k m c in
            s.apart j k l m (kept_ended d b j (sym o) e) (kept_ended d b k (sym p) g) (ap (λ (x : List ℕ). exit_at x 0) (sym o) ∙ q ∙ ap (λ (x : List ℕ). exit_at x 0) p)

  -- ALL OF THEM
  module _ (room : room_for els ≡ true) where
    enough : end_sends els ≤ unused_count els
    unfolding room_for
    enough = leb-true (end_sends els) (unused_count els) (and_left (leb (end_sends els) (unused_count els)) _ room)

    spots_by : (n : ℕ) → n ≤ end_sends els → Spots els (after els n)
    unfolding iter
    spots_by zero h = record {
      longer = omega arith;
      each = λ j l. inl refl;
      apart = λ j k l m e g q. absurd (no_end_sent (get_or els j []) (every_in Right els [] j every l) e.was (edge_in els j) (ap is_end_snd (sym e.goes) ∙ e.was));
      mentions_more = λ e l. omega arith;
    }
    spots_by (suc n) h =
        let t = turned_by els every enough n (omega arith) in
        one_more_lem (after els n) t.every (omega (arith, t.ends)) (omega (arith, t.free, enough)) (spots_by n (omega arith))

    pub spots : Spots els (all_treated els)
    unfolding all_treated
    spots = spots_by (end_sends els) (omega arith)

    none_left : end_sends (all_treated els) ≡ 0
    unfolding all_treated
    none_left = let t = turned_by els every enough (end_sends els) (omega arith) in omega (arith, t.ends)

    -- every endSnd
    pub all_ended : (j : ℕ) → j < length els → is_end_snd (get_or els j []) ≡ true → Ended els (all_treated els) j
    all_ended j l is = go (spots.each j l)
      where
        go : (get_or (all_treated els) j [] ≡ get_or els j []) ⊎ Ended els (all_treated els) j → Ended els (all_treated els) j
        go (inr e) = e
        go (inl q) = absurd (false≢true (sym (no_end_at (all_treated els) j none_left (omega (arith, l, spots.longer))) ∙ ap is_end_snd q ∙ is))
