-- Things with bars between them, one turn after the other: what a loop over them learns at each way out. Assumes nothing.
use Prim.Native.Nat.{ℕ, zero, suc, ◌+◌, ◌-◌, ◌≤◌, ◌<◌}
use mathlib.Core.Path.{◌≡◌, refl, sym, ◌∙◌, ap}
use mathlib.Core.Bool.{Bool}
use mathlib.Core.List.{List, [], ◌∷◌}
use native.Mathlib.Omega.{arith}
use Rattle.std.specs.Result.{IsErrAnd}
use Rattle.std.specs.declared.result.Result.TheVariants.{Ok, Err}
use Rattle.text_readers.specs.declared.Refusal.{Refusal}
use Rattle.text_readers.proofs.ReadingLaws.{handed}
use Rattle.text_readers.specs.Reading.{Read, if_at, place_of, sign_at}
use Rattle.text_bounds.specs.Bounds.{one_too_many}
use Rattle.text_passes.specs.Model.{Got, put_before, barred}
use Rattle.text_passes.specs.Passes.{kept_all, Passed}

-- a refusal is no place
pub no_place : {P : Type 0} (r : Read) (d : Refusal) (q : ℕ) → r ≡ Err d → r ≡ Ok q → P
no_place r d q e f = let z : ◌≡◌ {A = ℕ} 0 1 = cc in absurd (omega arith)

pub stopped : {A : Type 0} (keep : A → List ℕ → List ℕ) (g : Got A) (w v : List ℕ) (r : Read) (d : Refusal) → r ≡ g.end → r ≡ Err d → Passed keep g w r v
stopped keep g w v r d e f = record { ended = e; left = λ q h. no_place r d q f h }

module _ {A : Type 0} (thing : List ℕ → ℕ → Got A) (starting : List ℕ → ℕ → Bool) (keep : ℕ → A → List ℕ → List ℕ) (text : List ℕ) where
  -- m more are allowed at the place at, and n are kept
  abbrev pub Rest : ℕ → ℕ → ℕ → List ℕ → Read → List ℕ → Type 0
  Rest m at n w r v = Passed (kept_all keep n) (barred thing starting m text at) w r v

  rest_full : (at n : ℕ) (w : List ℕ) (r : Read) → r ≡ one_too_many (starting text at) (place_of text at) → Rest 0 at n w r w
  unfolding barred kept_all
  rest_full at n w r e = record { ended = e; left = λ q h. refl }

  module _ (m at n : ℕ) (w : List ℕ) where
    rest_refused : (d : Refusal) → (thing text at).end ≡ Err d → (v : List ℕ) → Rest (suc m) at n w (Err d) v
    unfolding barred if_at
    rest_refused d e v = stopped (kept_all keep n) (barred thing starting (suc m) text at) w v (Err d) d (rw e) refl

    module _ (q : ℕ) (e : (thing text at).end ≡ Ok q) (u : List ℕ) (k : u ≡ keep n (thing text at).value w) where
      rest_last : (d : Refusal) → sign_at 124 text q ≡ Err d → Rest (suc m) at n w (Ok q) u
      unfolding barred if_at kept_all
      rest_last d b = rw (e, b) (record { ended = refl; left = λ z h. k })

      rest_more : (a : ℕ) → sign_at 124 text q ≡ Ok a → (r : Read) (v : List ℕ) → Rest m a (n + 1) u r v → Rest (suc m) at n w r v
      unfolding barred if_at put_before kept_all
      rest_more a b r v t = rw (e, b) (record { ended = t.ended; left = λ z h. t.left z h ∙ ap (kept_all keep (n + 1) (barred thing starting m text a).value) k })

  -- THE LOOP, behind n of at most `most` things, where u was before the turn: what ends the rest ends the whole, P
  module _ (most at n : ℕ) (w : List ℕ) (P : Read → List ℕ → Type 0) (inv : (r : Read) (v : List ℕ) → Rest (most - n) at n w r v → P r v) where
    pub out_full : most ≤ n → (r : Read) → r ≡ one_too_many (starting text at) (place_of text at) → P r w
    out_full h r e =
        let z : most - n ≡ 0 = omega arith in
        inv r w (rw z (rest_full at n w r e))

    module _ (l : n < most) (e : Read) (ended : e ≡ (thing text at).end) where
      one_left : most - n ≡ suc (most - (n + 1))
      one_left = omega arith

      pub out_refused : (d : Refusal) (r : Read) → e ≡ Err d → IsErrAnd r (λ (z : Refusal). z ≡ d) → (v : List ℕ) → P r v
      out_refused d r h k v = inv r v (rw (one_left, handed e r d h k ∙ h) (rest_refused (most - (n + 1)) at n w d (sym ended ∙ h) v))

      module _ (q : ℕ) (h : e ≡ Ok q) (u : List ℕ) (kept : u ≡ keep n (thing text at).value w) (b : Read) (bar : b ≡ sign_at 124 text q) where
        pub out_last : (d : Refusal) → b ≡ Err d → P (Ok q) u
        out_last d g = inv (Ok q) u (rw one_left (rest_last (most - (n + 1)) at n w q (sym ended ∙ h) u kept d (sym bar ∙ g)))

        pub again : (a : ℕ) → b ≡ Ok a → (r : Read) (v : List ℕ) → Rest (most - (n + 1)) a (n + 1) u r v → P r v
        again a g r v t = inv r v (rw one_left (rest_more (most - (n + 1)) at n w q (sym ended ∙ h) u kept a (sym bar ∙ g) r v t))

-- what holds of no thing, and of one more, holds of what is read
module _ {A : Type 0} (thing : List ℕ → ℕ → Got A) (starting : List ℕ → ℕ → Bool) (text : List ℕ) where
  module _ (Q : ℕ → List A → Type 0) (none : (m : ℕ) → Q m []) (more : (m at : ℕ) (xs : List A) → Q m xs → Q (suc m) ((thing text at).value ∷ xs)) where
    next : (m at q : ℕ) (b : Read) → ((a : ℕ) → Q m (barred thing starting m text a).value)
        → Q (suc m) (if_at b (λ a. put_before (thing text at).value (barred thing starting m text a)) (record { end = Ok q; value = (thing text at).value ∷ [] })).value
    unfolding if_at put_before
    next m at q (Ok a) h = more m at (barred thing starting m text a).value (h a)
    next m at q (Err e) h = more m at [] (none m)

    turn : (m at : ℕ) (e : Read) → ((a : ℕ) → Q m (barred thing starting m text a).value)
        → Q (suc m) (if_at e (λ q. if_at (sign_at 124 text q) (λ a. put_before (thing text at).value (barred thing starting m text a)) (record { end = Ok q; value = (thing text at).value ∷ [] })) (record { end = (thing text at).end; value = [] })).value
    unfolding if_at
    turn m at (Ok q) h = next m at q (sign_at 124 text q) h
    turn m at (Err e) h = none (suc m)

    pub barred_all : (m at : ℕ) → Q m (barred thing starting m text at).value
    unfolding barred
    barred_all zero at = none 0
    barred_all (suc m) at = turn m at (thing text at).end (barred_all m)
