-- Laws of the two loops that write a number: digits are counted, then put one by one. Assumes nothing.
use mathlib.Core.Path.{◌≡◌, refl, sym, ap, subst, ◌∙◌}
use mathlib.Core.List.{List, [], ◌∷◌}
use Prim.Native.Nat.{ℕ, zero, suc, ◌+◌, ◌*◌, ◌-◌, ◌/◌, ◌%◌, ◌^◌, ◌<◌, ◌≤◌}
use native.Mathlib.Nat.{pow-suc, pow-le-pow_right, one-le-pow}
use native.Mathlib.Omega.{arith}
use lib.ListN.{length, take, get_or, length-append}
use Rattle.base_words.specs.Words.{greatest, digits}
use Rattle.write_buffer.specs.Buffers.{Put}
use Rattle.write_buffer.proofs.OverLaws.{bytes_none, bytes_more, bytes_done, put_within}
use Rattle.write_decimals.specs.Decimals.{digit, shown_from, shown}
use Rattle.write_decimals.proofs.DecimalLaws.{shown_one, shown_more, shown_short, shown_some, shown_place}

-- The loop that counts: so many digits are counted, the power has as many zeros, and those of what is left are to come.
pub record Counted (n left power : ℕ) : Type 0 where
  pub zeros : ℕ
  pub rest : ℕ
  pub all : zeros + suc rest ≡ digits
  pub reached : power ≡ 10 ^ zeros
  pub small : left < 10 ^ suc rest
  pub size : zeros + length (shown_from (suc rest) left) ≡ length (shown n)

pub counted_start : (n : ℕ) → n ≤ greatest → Counted n n 1
unfolding shown
counted_start n h = record { zeros = 0; rest = digits - 1; all = refl; reached = refl; small = omega arith; size = omega arith }

module _ {n left power : ℕ} (c : Counted n left power) where
  counted_on : 10 ≤ left → 1 ≤ c.rest
  counted_on h = go c.rest c.small
    where
      go : (k : ℕ) → left < 10 ^ suc k → 1 ≤ k
      go zero l = absurd (omega arith)
      go (suc k) l = omega arith

  pub counted_fits : 10 ≤ left → power * 10 ≤ greatest
  counted_fits h =
      let l : suc c.zeros ≤ digits - 1 = omega (arith, counted_on h, c.all) in
      let p : 10 ^ suc c.zeros ≤ 10 ^ (digits - 1) = pow-le-pow_right (omega arith) l in
      omega (arith, c.reached, pow-suc 10 c.zeros, p)

  pub counted_turn : 10 ≤ left → Counted n (left / 10) (power * 10)
  counted_turn h = go c.rest (counted_on h) c.all c.small c.size
    where
      go : (k : ℕ) → 1 ≤ k → c.zeros + suc k ≡ digits → left < 10 ^ suc k → c.zeros + length (shown_from (suc k) left) ≡ length (shown n) → Counted n (left / 10) (power * 10)
      go zero l a s z = absurd (omega arith)
      go (suc k) l a s z = record {
        zeros = suc c.zeros;
        rest = k;
        all = omega (arith, a);
        reached = omega (arith, c.reached, pow-suc 10 c.zeros);
        small = omega (arith, s, pow-suc 10 (suc k));
        size = omega (arith, z, ap length (shown_more (suc k) left h), length-append (shown_from (suc k) (left / 10)) (digit (left % 10) ∷ []));
      }

  pub counted_end : left < 10 → power ≡ 10 ^ (length (shown n) - 1)
  counted_end h =
      let e : c.zeros ≡ length (shown n) - 1 = omega (arith, c.size, ap length (shown_one c.rest left h)) in
      c.reached ∙ ap (λ m. 10 ^ m) e

-- what the first of m digits counts, and 0 where none is left
pub worth : ℕ → ℕ
worth zero = 0
worth (suc m) = 10 ^ m

worth_some : (m : ℕ) → 1 ≤ m → worth m ≡ 10 ^ (m - 1)
unfolding worth
worth_some zero h = absurd (omega arith)
worth_some (suc m) h = let e : m ≡ suc m - 1 = omega arith in ap (λ k. 10 ^ k) e

worth_next : (m : ℕ) → worth m / 10 ≡ worth (m - 1)
unfolding worth
worth_next zero = refl
worth_next (suc zero) = refl
worth_next (suc (suc m)) = let e : suc (suc m) - 1 ≡ suc m = omega arith in rw e (let d : 10 ^ suc m / 10 ≡ 10 ^ m = omega (arith, pow-suc 10 m) in d)

worth_on : (m : ℕ) → 0 < worth m → 1 ≤ m
unfolding worth
worth_on zero h = absurd (omega arith)
worth_on (suc m) h = omega arith

worth_none : (m : ℕ) → worth m ≤ 0 → m ≡ 0
unfolding worth
worth_none zero h = refl
worth_none (suc m) h = absurd (omega (arith, one-le-pow m 10 (omega arith)))

-- The loop that puts: the digits before a place stand in the buffer, and the power is what the one there counts.
pub record Placed (n from : ℕ) (old : List ℕ) (to power : ℕ) (now : List ℕ) : Type 0 where
  pub place : ℕ
  pub within : place ≤ length (shown n)
  pub reached : power ≡ worth (length (shown n) - place)
  pub text : Put (take place (shown n)) place from old to now

pub placed_start : {n from power : ℕ} {old : List ℕ} → power ≡ 10 ^ (length (shown n) - 1) → Placed n from old from power old
placed_start {n} {from} {power} {old} h =
    let all : length (shown n) - 0 ≡ length (shown n) = omega arith in
    record { place = 0; within = omega arith; reached = h ∙ sym (worth_some (length (shown n)) (shown_some n)) ∙ ap worth (sym all); text = bytes_none (shown n) old from }

module _ {n from to power : ℕ} {old o : List ℕ} (p : Placed n from old to power o) where
  left : 0 < power → p.place < length (shown n)
  left h = omega (arith, p.within, worth_on (length (shown n) - p.place) (subst (λ (m : ℕ). 0 < m) p.reached h))

  here : 0 < power → digit (n / power % 10) ≡ get_or (shown n) p.place 0
  here h =
      let e : length (shown n) - p.place - 1 ≡ length (shown n) - 1 - p.place = omega arith in
      ap (λ m. digit (n / m % 10)) (p.reached ∙ worth_some (length (shown n) - p.place) (omega (arith, left h)) ∙ ap (λ m. 10 ^ m) e) ∙ sym (shown_place n p.place (left h))

  pub placed_turn : {r : ℕ} {now : List ℕ} → 0 < power → Put (digit (n / power % 10) ∷ []) 1 to o r now → Placed n from old r (power / 10) now
  placed_turn {r} {now} h w =
      let e : length (shown n) - p.place - 1 ≡ length (shown n) - (p.place + 1) = omega arith in
      record {
        place = p.place + 1;
        within = omega (arith, left h);
        reached = ap (λ m. m / 10) p.reached ∙ worth_next (length (shown n) - p.place) ∙ ap worth e;
        text = bytes_more (shown n) p.place (left h) p.text (subst (λ (b : ℕ). Put (b ∷ []) 1 to o r now) (here h) w);
      }

  pub placed_end : power ≤ 0 → Put (shown n) digits from old to o
  placed_end h =
      let none : length (shown n) - p.place ≡ 0 = worth_none (length (shown n) - p.place) (subst (λ (m : ℕ). m ≤ 0) p.reached h) in
      put_within (bytes_done (shown n) p.place (omega (arith, none)) p.within p.text) (shown_short n)
