-- THE VALUE OF AN ATTRIBUTE in a tag that ends well before n: its closing quote stands before n, too. Assumes nothing.
use mathlib.Core.Path.{◌≡◌, refl, sym}
use mathlib.Core.Bool.{Bool, true, false, false≢true}
use mathlib.Core.List.{List}
use Prim.Native.Nat.{ℕ, zero, suc, ◌+◌, ◌<◌, ◌≤◌}
use native.Mathlib.Omega.{arith}
use lib.Dec.{eqb}
use lib.ListN.{length}
use Rattle.base_words.specs.Pick.{if◌then◌or_else◌}
use Rattle.base_words.specs.Words.{at}
use Rattle.base_bytes.proofs.PastLaws.{past_more, past_stop}
use Rattle.xml_characters.specs.Names.{is_blank, is_name}
use Rattle.xml_scanner.specs.declared.InTag.TheVariants.{Attribute, Named, Equals, Value, Reference, Behind}
use Rattle.xml_scanner.specs.declared.State.TheVariants.{Tag}
use Rattle.xml_scanner.specs.declared.Move.{Move}
use Rattle.xml_scanner.specs.declared.Move.TheVariants.{On as Onward, Next, Here, Back}
use Rattle.xml_scanner.specs.Tags.{named, is_quote, equals, is_reference, in_value, in_value_reference, in_tag}
use Rattle.xml_scanner.specs.Moves.{step}
use Rattle.xml_markup.specs.declared.Class.TheVariants.{Blanks, Value as NotByte}
use Rattle.xml_markup.specs.Spans.{is_of, run}
use Rattle.proof_local.proofs.Courses.{Goes, After, before, goes}

module _ (t : List ℕ) (n start : ℕ) (inside : n ≤ length t) where
  blank_more : (i : ℕ) → i < n → is_blank (at t i) ≡ true → run Blanks t i ≡ run Blanks t (i + 1)
  unfolding run is_of
  blank_more i h e = past_more (is_of Blanks) t i (omega arith) e

  blank_stop : (i : ℕ) → i < n → is_blank (at t i) ≡ false → run Blanks t i ≡ i
  unfolding run is_of
  blank_stop i h e = past_stop (is_of Blanks) t i (omega arith) e

  quote_more : (q i : ℕ) → i < n → eqb (at t i) q ≡ false → run (NotByte q) t i ≡ run (NotByte q) t (i + 1)
  unfolding run is_of
  quote_more q i h e = past_more (is_of (NotByte q)) t i (omega arith) (rw e refl)

  quote_stop : (q i : ℕ) → i < n → eqb (at t i) q ≡ true → run (NotByte q) t i ≡ i
  unfolding run is_of
  quote_stop q i h e = past_stop (is_of (NotByte q)) t i (omega arith) (rw e refl)

  -- IN A VALUE whose quote is q, or in a reference there
  data InValue (q i : ℕ) : Type 0 where
    in_value_lem : Goes t n start (Tag (Value q)) i → InValue q i
    in_reference : Goes t n start (Tag (Reference q)) i → InValue q i

  inside_value : (q i : ℕ) → InValue q i → i < n
  inside_value q i (in_value_lem g) = before t n start (Tag (Value q)) i g
  inside_value q i (in_reference g) = before t n start (Tag (Reference q)) i g

  in_value_on : (q i : ℕ) → Goes t n start (Tag (Value q)) i → eqb (at t i) q ≡ false → InValue q (i + 1)
  in_value_on q i g e = go (eqb (at t i) q) e (eqb (at t i) 38) (eqb (at t i) 60) (unfold step in_tag in_value in goes t n start (Tag (Value q)) i g)
    where
      go : (a : Bool) → a ≡ false → (b c : Bool) → After t n start (if a then Onward (Tag Behind) or_else if b then Next (Tag (Reference q)) or_else if c then Here or_else Onward (Tag (Value q))) i → InValue q (i + 1)
      go true f b c k = absurd (false≢true (sym f))
      go false f true c k = in_reference (unfold if◌then◌or_else◌ in k)
      go false f false true k = absurd (unfold if◌then◌or_else◌ in k)
      go false f false false k = in_value_lem (unfold if◌then◌or_else◌ in k)

  in_reference_on : (q i : ℕ) → Goes t n start (Tag (Reference q)) i → InValue q (i + 1)
  in_reference_on q i g = go (eqb (at t i) 59) (is_reference (at t i)) (unfold step in_tag in_value_reference in goes t n start (Tag (Reference q)) i g)
    where
      go : (a b : Bool) → After t n start (if a then Onward (Tag (Value q)) or_else if b then Onward (Tag (Reference q)) or_else Back) i → InValue q (i + 1)
      go true b k = in_value_lem (unfold if◌then◌or_else◌ in k)
      go false true k = in_reference (unfold if◌then◌or_else◌ in k)
      go false false k = absurd (unfold if◌then◌or_else◌ in k)

  value_on : (q i : ℕ) → InValue q i → eqb (at t i) q ≡ false → InValue q (i + 1)
  value_on q i (in_value_lem g) e = in_value_on q i g e
  value_on q i (in_reference g) e = in_reference_on q i g

  value_ends : (k q i : ℕ) → n ≤ i + k → InValue q i → run (NotByte q) t i < n
  value_ends zero q i h g = absurd (omega (arith, h, inside_value q i g))
  value_ends (suc k) q i h g = go (eqb (at t i) q) refl (λ v. value_ends k q (i + 1) (omega (arith, h)) v)
    where
      go : (b : Bool) → eqb (at t i) q ≡ b → (InValue q (i + 1) → run (NotByte q) t (i + 1) < n) → run (NotByte q) t i < n
      go true e f = rw (quote_stop q i (inside_value q i g) e) (inside_value q i g)
      go false e f = rw (quote_more q i (inside_value q i g) e) (f (value_on q i g e))

  -- BEHIND `=`: blanks, then the quote
  pub record Quoted (i : ℕ) : Type 0 where
    pub quote_in : run Blanks t i < n
    pub value_in_lem : run (NotByte (at t (run Blanks t i))) t (run Blanks t i + 1) < n

  equals-step : (i : ℕ) (a b : Bool) → is_blank (at t i) ≡ a → After t n start (if a then Onward (Tag Equals) or_else if b then Onward (Tag (Value (at t i))) or_else Here) i → i < n → (Goes t n start (Tag Equals) (i + 1) → Quoted (i + 1)) → Quoted i
  unfolding if◌then◌or_else◌
  equals-step i true b e k h f = let z = f k in record { quote_in = rw (blank_more i h e) z.quote_in; value_in_lem = rw (blank_more i h e) z.value_in_lem }
  equals-step i false true e k h f = record { quote_in = rw (blank_stop i h e) h; value_in_lem = rw (blank_stop i h e) (value_ends n (at t i) (i + 1) (omega arith) (in_value_lem k)) }
  equals-step i false false e k h f = absurd k

  quoted : (k i : ℕ) → n ≤ i + k → Goes t n start (Tag Equals) i → Quoted i
  quoted zero i h g = absurd (omega (arith, h, before t n start (Tag Equals) i g))
  quoted (suc k) i h g =
      equals-step i (is_blank (at t i)) (is_quote (at t i)) refl (unfold step in_tag equals in goes t n start (Tag Equals) i g) (before t n start (Tag Equals) i g) (λ v. quoted k (i + 1) (omega (arith, h)) v)

  -- BEHIND A NAME: blanks, then `=`
  pub record Valued (i : ℕ) : Type 0 where
    pub equals_in : run Blanks t i < n
    pub quoted_in : Quoted (run Blanks t i + 1)

  named_step : (i : ℕ) (a b : Bool) → is_blank (at t i) ≡ a → After t n start (if a then Onward (Tag Named) or_else if b then Onward (Tag Equals) or_else Here) i → i < n → (Goes t n start (Tag Named) (i + 1) → Valued (i + 1)) → Valued i
  unfolding if◌then◌or_else◌
  named_step i true b e k h f = let z = f k in record { equals_in = rw (blank_more i h e) z.equals_in; quoted_in = rw (blank_more i h e) z.quoted_in }
  named_step i false true e k h f = record { equals_in = rw (blank_stop i h e) h; quoted_in = rw (blank_stop i h e) (quoted n (i + 1) (omega arith) k) }
  named_step i false false e k h f = absurd k

  valued : (k i : ℕ) → n ≤ i + k → Goes t n start (Tag Named) i → Valued i
  valued zero i h g = absurd (omega (arith, h, before t n start (Tag Named) i g))
  valued (suc k) i h g =
      named_step i (is_blank (at t i)) (eqb (at t i) 61) refl (unfold step in_tag named in goes t n start (Tag Named) i g) (before t n start (Tag Named) i g) (λ v. valued k (i + 1) (omega (arith, h)) v)

  -- at the byte that ends the name
  no_more : (i : ℕ) (b : Bool) (m v : Move) → b ≡ false → After t n start (if b then v or_else m) i → After t n start m i
  unfolding if◌then◌or_else◌
  no_more i true m v e k = absurd (false≢true (sym e))
  no_more i false m v e k = k

  ended : (i : ℕ) → is_name (at t i) ≡ false → Goes t n start (Tag Attribute) i → After t n start (named (at t i)) i
  unfolding step in_tag
  ended i e g = no_more i (is_name (at t i)) (named (at t i)) (Onward (Tag Attribute)) e (goes t n start (Tag Attribute) i g)

  pub attribute_valued : (i : ℕ) → is_name (at t i) ≡ false → Goes t n start (Tag Attribute) i → Valued i
  unfolding named
  attribute_valued i e g = named_step i (is_blank (at t i)) (eqb (at t i) 61) refl (ended i e g) (before t n start (Tag Attribute) i g) (λ v. valued n (i + 1) (omega arith) v)
