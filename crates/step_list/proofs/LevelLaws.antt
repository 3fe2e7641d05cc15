-- The levels of the listing as lists one behind the other. Assumes nothing.
use mathlib.Core.Path.{◌≡◌, ◌∙◌, refl, sym, ap, ap₂}
use mathlib.Core.Bool.{Bool, true, false, true≢false, false≢true}
use mathlib.Core.List.{List, [], ◌∷◌}
use Prim.Native.Nat.{ℕ, zero, suc, ◌+◌}
use lib.Dec.{eqb}
use borrow.Author.Tests.{eq-eqb, ne_eqb}
use Rattle.base_words.specs.Each.{joined, those}
use Rattle.base_words.specs.Pick.{if◌then◌or_else◌}
use Rattle.base_words.proofs.JoinLaws.{joined_ext, those-joined}
use Rattle.base_kinds.specs.declared.moves.Move.{Move}
use Rattle.base_kinds.specs.Moves.{on, phases}
use Rattle.base_table.specs.Table.{pool_count, element_count, element_at, message_name}
use Rattle.base_state.specs.Instances.{made_count, instance_at}
use Rattle.meaning.specs.declared.Tuple.{Tuple}
use Rattle.meaning.specs.declared.Name.{Name}
use Rattle.meaning.specs.Tuples.{empty}
use Rattle.meaning.specs.Queues.{message_count}
use Rattle.meaning.specs.Requirements.{branch_count}
use Rattle.step_list.specs.declared.Listed.{Listed}
use Rattle.step_names.specs.declared.Scan.{Scan}
use Rattle.step_names.specs.Names.{offered, step_name, named_by, accepted}
use Rattle.step_list.specs.Listing.{queue_places, values_at, move_at, by_place, by_branch, by_phase, chosen}
use Rattle.step_names.specs.Parts.{scan, with_values, by_message}
use Rattle.step_names.proofs.ScanLaws.{Passed, passed_more}
use Rattle.step_list.specs.Scanned.{stirs, still, scan_phase, scan_element, scan_instance, scan_made, scan_pool, scanned}

named_ext : (f g : Tuple → Name) (ms : List Tuple) → ((v : Tuple) → f v ≡ g v) → named_by f ms ≡ named_by g ms
unfolding named_by
named_ext f g [] h = refl
named_ext f g (m ∷ ms) h = ap₂ ◌∷◌ (h m) (named_ext f g ms h)

joined_one : (f : ℕ → List Name) → joined f 1 ≡ f 0
unfolding joined
joined_one f = refl

-- BY QUEUE PLACE: m is the move, n the name without values, x the name of the messages
module _ (t q : List ℕ) (p i e f b : ℕ) where
  values_put : (v : Tuple) → step_name t p i e f b v ≡ with_values (step_name t p i e f b empty) v
  unfolding step_name with_values
  values_put v = refl

  module _ (test : eqb (move_at t p e f).receives on ≡ true) where
    as_many : queue_places (move_at t p e f) q (message_name (element_at t p e) b) ≡ message_count q (message_name (element_at t p e) b)
    unfolding queue_places if◌then◌or_else◌
    as_many = rw test

    at_place : (k : ℕ) → by_place t q p i e f b k ≡ by_message q (step_name t p i e f b empty) (message_name (element_at t p e) b) k
    unfolding by_place by_message values_at if◌then◌or_else◌
    at_place k =
        rw test (named_ext (step_name t p i e f b) (with_values (step_name t p i e f b empty)) (offered q (message_name (element_at t p e) b) k) values_put)

    received_is : by_branch t q p i e f b ≡ joined (by_message q (step_name t p i e f b empty) (message_name (element_at t p e) b)) (message_count q (message_name (element_at t p e) b))
    unfolding by_branch
    received_is =
        rw as_many
        (joined_ext (by_place t q p i e f b) (by_message q (step_name t p i e f b empty) (message_name (element_at t p e) b)) (message_count q (message_name (element_at t p e) b)) (λ k l. at_place k))

  module _ (test : eqb (move_at t p e f).receives on ≡ false) where
    one_place : queue_places (move_at t p e f) q (message_name (element_at t p e) b) ≡ 1
    unfolding queue_places if◌then◌or_else◌
    one_place = rw test

    one_name : by_place t q p i e f b 0 ≡ step_name t p i e f b empty ∷ []
    unfolding by_place values_at named_by if◌then◌or_else◌
    one_name = rw test

    plain_is : by_branch t q p i e f b ≡ step_name t p i e f b empty ∷ []
    unfolding by_branch
    plain_is = rw one_place (joined_one (by_place t q p i e f b) ∙ one_name)

  module _ (g : Name → Bool) (m : Move) (n : Name) (k : ℕ) (r : Scan) (m-is : m ≡ move_at t p e f) (n-is : n ≡ step_name t p i e f b empty) where
    pub branch_received : (el : List ℕ) (x : ℕ) → el ≡ element_at t p e → x ≡ message_name el b → m.receives ≡ on
        → r ≡ scan (those g (joined (by_message q n x) (message_count q x))) k → r ≡ scan (those g (by_branch t q p i e f b)) k
    branch_received el x el_is x-is test w =
        rw (received_is (eq-eqb _ _ (ap (λ (y : Move). y.receives) (sym m-is) ∙ test)), ← n-is, ← el_is, ← x-is) w

    pub branch_plain : (m.receives ≡ on → ⊥) → r ≡ scan (those g (n ∷ [])) k → r ≡ scan (those g (by_branch t q p i e f b)) k
    branch_plain test w = rw (plain_is (ne_eqb _ _ (λ y. test (ap (λ (v : Move). v.receives) m-is ∙ y))), ← n-is) w

-- BY BRANCH, PHASE
module _ (t q : List ℕ) (p i e : ℕ) (g : Name → Bool) where
  phase_is : (f : ℕ) → those g (by_phase t q p i e f) ≡ joined (λ b. those g (by_branch t q p i e f b)) (branch_count (element_at t p e) (move_at t p e f))
  unfolding by_phase
  phase_is f = those-joined g (by_branch t q p i e f) (branch_count (element_at t p e) (move_at t p e f))

-- A PHASE, passed over or not; m is its move
module _ (t s q : List ℕ) (p i e f : ℕ) (m : Move) (m-is : m ≡ move_at t p e f) where
  pub phase_none : (k : ℕ) (r : Scan) → m.kind ≡ 0 → r ≡ scan [] k → r ≡ scan (scan_phase t s q p i e f) k
  unfolding scan_phase if◌then◌or_else◌
  phase_none k r o w = rw (eq-eqb _ _ (ap (λ (x : Move). x.kind) (sym m-is) ∙ o)) w

  pub phase_some : (m.kind ≡ 0 → ⊥) → scan_phase t s q p i e f ≡ joined (λ b. those (accepted t s q) (by_branch t q p i e f b)) (branch_count (element_at t p e) (move_at t p e f))
  unfolding scan_phase if◌then◌or_else◌
  phase_some o = rw (ne_eqb _ _ (λ y. o (ap (λ (x : Move). x.kind) m-is ∙ y))) (phase_is t q p i e (accepted t s q) f)

-- AN ELEMENT, passed over or not
module _ (t s q : List ℕ) (p i e k : ℕ) (r : Scan) where
  pub element_idle : stirs (element_at t p e) (instance_at s p i) i (made_count s p) ≡ false → r ≡ scan [] k → r ≡ scan (scan_element t s q p i e) k
  unfolding scan_element if◌then◌or_else◌
  element_idle test w = rw test w

  pub element_stirs : stirs (element_at t p e) (instance_at s p i) i (made_count s p) ≡ true → r ≡ scan (joined (scan_phase t s q p i e) phases) k → r ≡ scan (scan_element t s q p i e) k
  unfolding scan_element if◌then◌or_else◌
  element_stirs test w = rw test w

-- A LOOP'S NEXT ELEMENT, scanned or passed over: left is what is left of k behind it
module _ (t s q : List ℕ) (p i e k m left : ℕ) (before : Passed (scan_element t s q p i) e k m) where
  pub more_stirring : (r : Scan) → stirs (element_at t p e) (instance_at s p i) i (made_count s p) ≡ true → r ≡ scan (joined (scan_phase t s q p i e) phases) m → r.found ≡ false → left ≡ r.left → Passed (scan_element t s q p i) (e + 1) k left
  more_stirring r test w none l = rw l (passed_more (scan_element t s q p i) e k m r before (element_stirs t s q p i e m r test w) none)

  pub more_idle : stirs (element_at t p e) (instance_at s p i) i (made_count s p) ≡ false → left ≡ m → Passed (scan_element t s q p i) (e + 1) k left
  unfolding scan
  more_idle test l = rw l (passed_more (scan_element t s q p i) e k m (scan [] m) before (element_idle t s q p i e m (scan [] m) test refl) refl)

-- AN INSTANCE, passed over or not
module _ (t s q : List ℕ) (p i k : ℕ) (r : Scan) (b : Bool) (e : b ≡ still s p i) where
  pub made_still : b ≡ true → r ≡ scan [] k → r ≡ scan (scan_made t s q p i) k
  unfolding scan_made if◌then◌or_else◌
  made_still o w = rw (sym e ∙ o) w

  pub made_moves : b ≡ false → r ≡ scan (scan_instance t s q p i) k → r ≡ scan (scan_made t s q p i) k
  unfolding scan_made if◌then◌or_else◌
  made_moves o w = rw (sym e ∙ o) w

-- BY ELEMENT, INSTANCE, POOL
module _ (t s q : List ℕ) where
  pub instance_is : (p i : ℕ) → scan_instance t s q p i ≡ joined (scan_element t s q p i) (element_count t p)
  unfolding scan_instance
  instance_is p i = refl

  pub pool_is : (p : ℕ) → scan_pool t s q p ≡ joined (scan_made t s q p) (made_count s p + 1)
  unfolding scan_pool
  pool_is p = refl

  pub pools_are : scanned t s q ≡ joined (scan_pool t s q) (pool_count t)
  unfolding scanned
  pools_are = refl

-- THE ANSWER
pub chosen_found : (ns : List Name) (k : ℕ) (r : Scan) → r ≡ scan ns k → r.found ≡ true → ◌≡◌ {A = Listed} (record { number = 0; name = r.name }) (chosen ns k)
unfolding scan chosen
chosen_found [] k r e h = absurd (false≢true (sym (ap (λ (x : Scan). x.found) e) ∙ h))
chosen_found (n ∷ ns) zero r e h = ap (λ (x : Scan). record { number = 0; name = x.name }) e
chosen_found (n ∷ ns) (suc k) r e h = chosen_found ns k r e h

pub chosen_none : (ns : List Name) (k : ℕ) (r : Scan) → r ≡ scan ns k → r.found ≡ false → ◌≡◌ {A = Listed} (record { number = 6; name = r.name }) (chosen ns k)
unfolding scan chosen
chosen_none [] k r e h = ap (λ (x : Scan). record { number = 6; name = x.name }) e
chosen_none (n ∷ ns) zero r e h = absurd (true≢false (sym (ap (λ (x : Scan). x.found) e) ∙ h))
chosen_none (n ∷ ns) (suc k) r e h = chosen_none ns k r e h
