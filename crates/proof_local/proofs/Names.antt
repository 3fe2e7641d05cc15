-- THE NAME OF A TAG in a beginning of a text: where it ends before the end of the beginning, it is the same, and so are what it opens and what it is called. Assumes nothing.
use mathlib.Core.Path.{◌≡◌, refl, ap}
use mathlib.Core.Bool.{Bool, true, false}
use mathlib.Core.List.{List}
use Prim.Native.Nat.{ℕ, ◌+◌, ◌<◌, ◌≤◌}
use native.Mathlib.Omega.{arith}
use lib.Dec.{eqb}
use lib.ListN.{length, take}
use borrow.Author.Tests.{le-leb, lt-leb, le-ltb, lt-ltb}
use Rattle.base_words.specs.Pick.{if◌then◌or_else◌}
use Rattle.base_words.specs.Words.{at}
use Rattle.base_bytes.proofs.PieceLaws.{by_order}
use Rattle.base_bytes.proofs.PastLaws.{past_from}
use Rattle.xml_markup.specs.declared.Class.TheVariants.{Name}
use Rattle.xml_markup.specs.declared.Opener.TheVariants.{Other}
use Rattle.xml_markup.specs.Spans.{is_of, run, after, has_second, name_from, name_at, bytes_of, opens_name, second, opener, is_called, same_name}
use Rattle.proof_local.proofs.Beginnings.{long, byte, piece, next_is, next_in, ran}

-- the name of the tag at p ends before n
abbrev pub Whole : List ℕ → ℕ → ℕ → Type 0
Whole t n p = (name_at t p).to < n

module _ (t : List ℕ) (p : ℕ) (h : p < length t) where
  after_from : p + 1 ≤ after t (p + 1)
  unfolding after if◌then◌or_else◌
  after_from = by_order (length t) (p + 1) (λ k. rw (le-ltb (p + 1) (length t) k) (omega (arith, h))) (λ k. rw (lt-ltb (p + 1) (length t) k) (omega arith))

  pub name_after : p + 1 ≤ name_from t p
  unfolding name_from
  name_after = rw (next_is t (length t) (omega arith) p h) (go (has_second (at t (p + 1))))
    where
      go : (b : Bool) → p + 1 ≤ (if b then after t (p + 1) or_else p + 1)
      go true = unfold if◌then◌or_else◌ in after_from
      go false = unfold if◌then◌or_else◌ in omega arith

pub name_behind : (t : List ℕ) (p : ℕ) → name_from t p ≤ (name_at t p).to
unfolding name_at run
name_behind t p = past_from (is_of Name) _ (name_from t p)

module _ (t : List ℕ) (n : ℕ) (inside : n ≤ length t) (p : ℕ) (h : p < n) where
  pub from_same : p + 1 < n → name_from (take n t) p ≡ name_from t p
  unfolding name_from
  from_same k =
      rw (next_in t n inside p h, next_is t n inside p (omega arith), byte t n inside (p + 1) k, next_in t n inside (p + 1) k, next_is t n inside (p + 1) (omega arith)) refl

  from_in : p + 1 < n → name_from t p ≤ n
  unfolding name_from
  from_in k = rw (next_is t n inside p (omega arith), next_is t n inside (p + 1) (omega arith)) (go (has_second (at t (p + 1))))
    where
      go : (b : Bool) → (if b then p + 1 + 1 or_else p + 1) ≤ n
      go true = unfold if◌then◌or_else◌ in omega (arith, k)
      go false = unfold if◌then◌or_else◌ in omega (arith, k)

  starts : Whole t n p → p + 1 < n
  starts w = omega (arith, w, name_behind t p, name_after t p (omega (arith, h, inside)))

  pub named : Whole t n p → name_at (take n t) p ≡ name_at t p
  unfolding name_at
  named w = rw (from_same (starts w)) (ap (λ (e : ℕ). record { from = name_from t p; to = e }) ((ran t n inside Name (name_from t p) (from_in (starts w))).same (omega (arith, w))))

  pub cut_name : n ≤ (name_at t p).to → n ≤ (name_at (take n t) p).to
  cut_name e =
      by_order n (p + 1)
      (λ k. omega (arith, k, name_behind (take n t) p, name_after (take n t) p (omega (arith, h, long t n inside))))
      (λ k. unfold name_at in rw (from_same k) (omega (arith, (ran t n inside Name (name_from t p) (from_in k)).cut (unfold name_at in e))))

  pub opener_same : Whole t n p → opener (take n t) p ≡ opener t p
  unfolding opener opens_name second
  opener_same w =
      rw (
        byte t n inside p h,
        named w,
        lt-leb (length (take n t)) (name_at t p).to (omega (arith, w, long t n inside)),
        lt-leb (length t) (name_at t p).to (omega (arith, w, inside)),
        byte t n inside (name_at t p).from starts_in,
        next_in t n inside p h,
        next_is t n inside p (omega arith),
        byte t n inside (p + 1) (starts w),
      )
      refl
    where
      starts_in : (name_at t p).from < n
      starts_in = unfold name_at in omega (arith, w, name_behind t p)

  opens_none : n ≤ (name_at t p).to → opens_name (take n t) p ≡ false
  unfolding opens_name
  opens_none e = rw (le-leb (length (take n t)) (name_at (take n t) p).to (omega (arith, cut_name e, long t n inside))) (go _ (eqb (at (take n t) p) 60))
    where
      go : (x b : Bool) → (if b then if true then false or_else x or_else false) ≡ false
      go x true = unfold if◌then◌or_else◌ in refl
      go x false = unfold if◌then◌or_else◌ in refl

  pub opener_cut : n ≤ (name_at t p).to → opener (take n t) p ≡ Other
  unfolding opener if◌then◌or_else◌
  opener_cut e = rw (opens_none e) refl

  pub bytes_same : Whole t n p → bytes_of (take n t) (name_at (take n t) p) ≡ bytes_of t (name_at t p)
  unfolding bytes_of
  bytes_same w = rw (named w) (piece t n inside (name_at t p).from (name_at t p).to (omega (arith, w)))

  pub called_same : Whole t n p → (w : List ℕ) → is_called (take n t) p w ≡ is_called t p w
  unfolding is_called
  called_same w name = rw (bytes_same w) refl

pub same_names : (t : List ℕ) (n : ℕ) (inside : n ≤ length t) (p q : ℕ) → p < n → q < n → Whole t n p → Whole t n q → same_name (take n t) p q ≡ same_name t p q
unfolding same_name
same_names t n inside p q h k v w = rw (bytes_same t n inside p h v, bytes_same t n inside q k w) refl
