-- AN ENTRY IS READ AS IT WAS WRITTEN: the line of a step that was taken names that step, and the values that it consumed; the line of a post its message. Assumes nothing.
use Prim.Native.Nat.{ℕ, suc, ◌+◌, ◌-◌, ◌≤◌}
use mathlib.Core.Path.{◌≡◌, ◌∙◌, refl, sym, ap}
use mathlib.Core.Bool.{true, false}
use mathlib.Core.List.{List, [], ◌∷◌, ◌++◌, append_assoc}
use native.Mathlib.Omega.{arith}
use lib.ListN.{length, length-drop, drop}
use lib.Seq.{take_all, get_or-drop}
use borrow.Author.Tests.{lt-ltb}
use Rattle.base_words.specs.Counts.{values}
use Rattle.base_words.specs.Each.{joined}
use Rattle.base_words.specs.Pick.{if◌then◌or_else◌}
use Rattle.base_words.specs.Text.{bytes}
use Rattle.base_words.specs.Words.{at, part, greatest}
use Rattle.text_lexer.specs.Lexer.{is_word}
use Rattle.base_bytes.specs.Bytes.{is_letter, is_digit, between}
use Rattle.base_bytes.specs.Bytes.{same_bytes}
use Rattle.write_decimals.specs.Decimals.{shown}
use Rattle.write_lines.specs.Lines.{marked_off, row, values_line, message_line, signed, traffic_line, place_line, step_line}
use Rattle.meaning.specs.declared.Answer.{Answer}
use Rattle.meaning.specs.declared.Name.{Name}
use Rattle.meaning.specs.declared.Traffic.{Traffic}
use Rattle.meaning.specs.declared.Traffic.TheVariants.{Nothing, Consumed, Sent}
use Rattle.meaning.specs.declared.Tuple.{Tuple}
use Rattle.meaning.specs.Tuples.{empty}
use Rattle.meaning.specs.Queues.{tidied}
use Rattle.xml_markup.specs.Spans.{after}
use Rattle.log_lines.specs.declared.Numbered.{Numbered}
use Rattle.log_lines.specs.declared.Entry.{Entry}
use Rattle.log_lines.specs.Entries.{number_most, given, message_from, traffic_from, number_place, number_at, five_placed, all_right, step_entry}
use Rattle.proof_logs.proofs.NumberEntries.{number_read, behind_mark}
use Rattle.proof_logs.proofs.ValueEntries.{tuple_read}

-- a tuple that a message may have
pub record Sound (g : Tuple) : Type 0 where
  pub few : g.length ≤ 4
  pub small : (j : ℕ) → at g.values j ≤ greatest

colon : is_word 58 ≡ false
colon = unfold is_word is_letter is_digit between in refl

below : (v : ℕ) → v ≤ number_most → v ≤ greatest
below v h = omega (arith, h)

-- a message from p to the end
pub message_read : (w : List ℕ) (p m : ℕ) (g : Tuple) → m ≤ number_most → Sound g → drop p w ≡ shown m ++ 58 ∷ values_line g → message_from w p ≡ record { right = true; name = m; tuple = tidied g }
unfolding message_from
message_read w p m g few s e =
    let n = number_read 58 colon w p m (below m few) few (values_line g) e in
    let v = tuple_read w (p + length (shown m) + 1) g s.few s.small (behind_mark (shown m) (values_line g) w 58 p e) in
    rw (n, v) refl

-- what a step's line gives the step
unfoldable pub given_by : Traffic → Tuple → Tuple
given_by Nothing g = empty
given_by Consumed g = tidied g
given_by Sent g = empty

first_byte : (w : List ℕ) (p b : ℕ) (r : List ℕ) → drop p w ≡ b ∷ r → at w p ≡ b
first_byte w p b r e = (let d : at w p ≡ at w (p + 0) = ap (at w) (omega arith) in d) ∙ sym (get_or-drop p w 0 0) ∙ ap (λ (s : List ℕ). at s 0) e

next_byte : (w : List ℕ) (p b : ℕ) (r : List ℕ) → drop p w ≡ b ∷ r → after w p ≡ p + 1
unfolding after if◌then◌or_else◌
next_byte w p b r e = rw (lt-ltb p (length w) (omega (arith, ap length e, length-drop p w))) refl

rest : (w : List ℕ) (p b : ℕ) (r : List ℕ) → drop p w ≡ b ∷ r → drop (p + 1) w ≡ r
rest w p b r e = ap (λ (k : ℕ). drop k w) (let none : List ℕ = [] in let d : p + 1 ≡ p + length none + 1 = omega arith in d) ∙ behind_mark [] r w b p e

pub whole : (w : List ℕ) (p : ℕ) → part w p (length w) ≡ drop p w
whole w p = take_all (length w - p) (drop p w) (omega (arith, length-drop p w))

pub traffic_read : (w : List ℕ) (p m : ℕ) (x : Traffic) (g : Tuple) → m ≤ number_most → Sound g → drop p w ≡ signed x (shown m ++ 58 ∷ values_line g) → traffic_from w p ≡ given true (given_by x g)
unfolding traffic_from signed given_by same_bytes if◌then◌or_else◌
traffic_read w p m Nothing g few s e = rw (whole w p, e) refl
traffic_read w p m Consumed g few s e =
    rw (whole w p, e, first_byte w p 63 _ e, next_byte w p 63 _ e, message_read w (p + 1) m g few s (rest w p 63 _ e)) refl
traffic_read w p m Sent g few s e =
    rw (whole w p, e, first_byte w p 33 _ e, next_byte w p 33 _ e, message_read w (p + 1) m g few s (rest w p 33 _ e)) refl

blank : is_word 32 ≡ false
blank = unfold is_word is_letter is_digit between in refl

-- five numbers, each with its blank behind it, and the rest
abbrev pub spaced : ℕ → ℕ → ℕ → ℕ → ℕ → List ℕ → List ℕ
spaced a b c d e r = shown a ++ 32 ∷ (shown b ++ 32 ∷ (shown c ++ 32 ∷ (shown d ++ 32 ∷ (shown e ++ 32 ∷ r))))

pub place_spaced : (n : Name) (r : List ℕ) → place_line n ++ bytes " " ++ r ≡ spaced n.pool n.instance n.element n.phase n.branch r
unfolding place_line row joined marked_off if◌then◌or_else◌
place_spaced n r = rw append_assoc (rw append_assoc (rw append_assoc (rw append_assoc (rw append_assoc refl))))

-- THE PLACES of the numbers
module _ (w : List ℕ) (k v : ℕ) (few : v ≤ number_most) (r : List ℕ) (e : drop (number_place w k) w ≡ shown v ++ 32 ∷ r) where
  number_here : number_at w k ≡ record { right = true; value = v; next = number_place w k + length (shown v) + 1 }
  unfolding number_at
  number_here = number_read 32 blank w (number_place w k) v (below v few) few r e

  number_next : drop (number_place w (suc k)) w ≡ r
  unfolding number_place
  number_next = ap (λ (x : ℕ). drop x w) (ap (λ (x : Numbered). x.next) (number_read 32 blank w (number_place w k) v (below v few) few r e)) ∙ behind_mark (shown v) r w 32 (number_place w k) e

-- a step's name as a line can have it
pub record Small (n : Name) : Type 0 where
  pub pool : n.pool ≤ number_most
  pub instance : n.instance ≤ number_most
  pub element : n.element ≤ number_most
  pub phase : n.phase ≤ number_most
  pub branch : n.branch ≤ number_most

abbrev pub named : Name → Tuple → Name
named n g = record { pool = n.pool; instance = n.instance; element = n.element; phase = n.phase; branch = n.branch; given = g }

abbrev pub step_of : Name → Tuple → Entry
step_of n g = record { right = true; posts = false; name = named n g }

traffic_is : (a : Answer) → traffic_line a ≡ signed a.traffic (shown a.name ++ 58 ∷ values_line a.tuple)
unfolding traffic_line message_line
traffic_is a = ap (signed a.traffic) (append_assoc (shown a.name) (bytes ":") (values_line a.tuple))

pub step_from : (n : Name) (a : Answer) (w : List ℕ) → Small n → a.name ≤ number_most → Sound a.tuple → w ≡ step_line n a → step_entry w ≡ step_of n (given_by a.traffic a.tuple)
unfolding step_entry all_right five_placed if◌then◌or_else◌
step_from n a w s few t e =
    let e0 : drop (number_place w 0) w ≡ spaced n.pool n.instance n.element n.phase n.branch (traffic_line a) = unfold number_place in e ∙ (unfold step_line in place_spaced n (traffic_line a)) in
    let u0 = e0 in
    let e1 = number_next w 0 n.pool s.pool _ u0 in
    let e2 = number_next w 1 n.instance s.instance _ e1 in
    let e3 = number_next w 2 n.element s.element _ e2 in
    let e4 = number_next w 3 n.phase s.phase _ e3 in
    let e5 = number_next w 4 n.branch s.branch _ e4 in
    let last = traffic_read w (number_place w 5) a.name a.traffic a.tuple few t (e5 ∙ traffic_is a) in
    rw (
      number_here w 0 n.pool s.pool _ u0,
      number_here w 1 n.instance s.instance _ e1,
      number_here w 2 n.element s.element _ e2,
      number_here w 3 n.phase s.phase _ e3,
      number_here w 4 n.branch s.branch _ e4,
      last,
    )
    refl
