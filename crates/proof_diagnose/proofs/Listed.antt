-- The rules are the conditions of draw_faults' list: a thing breaks one exactly when something is amiss with it. Assumes nothing.
use Prim.Native.Nat.{ℕ, ◌+◌, ◌<◌}
use mathlib.Core.Path.{◌≡◌, refl}
use mathlib.Core.Bool.{Bool, true, false, ◌&&◌, ◌||◌, false≢true}
use mathlib.Core.List.{List}
use native.Mathlib.Omega.{arith}
use lib.Dec.{eqb}
use Rattle.std.proofs.lemmas.Bool.{or_left, or_right}
use Rattle.base_words.specs.Pick.{if◌then◌or_else◌}
use Rattle.base_words.proofs.AllLaws.{and_left}
use Rattle.draw_things.specs.Things.{source, target}
use Rattle.draw_faults.specs.Amiss.{is_strange, is_repeated, is_second_collaboration, is_lost, is_unowned, is_second_multiplicity, is_loose, is_of_no_kind, has_wrong_default, is_wrong_message, is_unheard, is_untold, is_wrong_branch, is_second_condition, is_wrong_condition, amiss_as_flow, amiss_as_node, amiss_as_pool, is_amiss}
use Rattle.draw_diagnose.specs.Rules.{is_adrift, breaks_pools, breaks_nodes, breaks_flows, breaks, rules_of_things}

or_elim : {P : Type 0} (a b : Bool) → (a ≡ true → P) → (b ≡ true → P) → a || b ≡ true → P
or_elim true b f g e = f refl
or_elim false b f g e = g e

-- one of four, one of five
module _ (a b c d : Bool) where
  abbrev any_of : Bool
  any_of = a || (b || (c || d))

  four_1 : a ≡ true → any_of ≡ true
  four_1 h = or_left a (b || (c || d)) h

  four_2 : b ≡ true → any_of ≡ true
  four_2 h = or_right a (b || (c || d)) (or_left b (c || d) h)

  four_3 : c ≡ true → any_of ≡ true
  four_3 h = or_right a (b || (c || d)) (or_right b (c || d) (or_left c d h))

  four_4 : d ≡ true → any_of ≡ true
  four_4 h = or_right a (b || (c || d)) (or_right b (c || d) (or_right c d h))

  four : {P : Type 0} → (a ≡ true → P) → (b ≡ true → P) → (c ≡ true → P) → (d ≡ true → P) → any_of ≡ true → P
  four f g h i = or_elim a (b || (c || d)) f (or_elim b (c || d) g (or_elim c d h i))

module _ (x a b c d : Bool) where
  five_1 : x ≡ true → x || any_of a b c d ≡ true
  five_1 h = or_left x (any_of a b c d) h

  five_on : any_of a b c d ≡ true → x || any_of a b c d ≡ true
  five_on h = or_right x (any_of a b c d) h

  five : {P : Type 0} → (x ≡ true → P) → (a ≡ true → P) → (b ≡ true → P) → (c ≡ true → P) → (d ≡ true → P) → x || any_of a b c d ≡ true → P
  five f g h i j = or_elim x (any_of a b c d) f (four a b c d g h i j)

either : (P : Bool → Type 0) (b x y : Bool) → P x → P y → P (if b then x or_else y)
unfolding if◌then◌or_else◌
either P true x y p q = p
either P false x y p q = q

module _ (t w : List ℕ) (n k : ℕ) where
  Listed : Bool → Type 0
  Listed b = b ≡ true → is_amiss t w n k ≡ true

  as_strange : is_strange w k ≡ true → is_amiss t w n k ≡ true
  unfolding is_amiss
  as_strange e = five_1 (is_strange w k) (amiss_as_flow t w k) (amiss_as_node t w n k) (amiss_as_pool t w n k) (is_repeated t w k) e

  further : any_of (amiss_as_flow t w k) (amiss_as_node t w n k) (amiss_as_pool t w n k) (is_repeated t w k) ≡ true → is_amiss t w n k ≡ true
  unfolding is_amiss
  further e = five_on (is_strange w k) (amiss_as_flow t w k) (amiss_as_node t w n k) (amiss_as_pool t w n k) (is_repeated t w k) e

  as_flow : amiss_as_flow t w k ≡ true → is_amiss t w n k ≡ true
  as_flow e = further (four_1 (amiss_as_flow t w k) (amiss_as_node t w n k) (amiss_as_pool t w n k) (is_repeated t w k) e)

  as_node : amiss_as_node t w n k ≡ true → is_amiss t w n k ≡ true
  as_node e = further (four_2 (amiss_as_flow t w k) (amiss_as_node t w n k) (amiss_as_pool t w n k) (is_repeated t w k) e)

  as_pool : amiss_as_pool t w n k ≡ true → is_amiss t w n k ≡ true
  as_pool e = further (four_3 (amiss_as_flow t w k) (amiss_as_node t w n k) (amiss_as_pool t w n k) (is_repeated t w k) e)

  as_repeated : is_repeated t w k ≡ true → is_amiss t w n k ≡ true
  as_repeated e = further (four_4 (amiss_as_flow t w k) (amiss_as_node t w n k) (amiss_as_pool t w n k) (is_repeated t w k) e)

  loose : is_loose w k ≡ true → is_amiss t w n k ≡ true
  unfolding amiss_as_flow
  loose e = as_flow (five_1 (is_loose w k) (is_wrong_branch w k) (is_second_condition w k) (is_wrong_condition t w k) (is_wrong_message t w k) e)

  of_flow : any_of (is_wrong_branch w k) (is_second_condition w k) (is_wrong_condition t w k) (is_wrong_message t w k) ≡ true → is_amiss t w n k ≡ true
  unfolding amiss_as_flow
  of_flow e = as_flow (five_on (is_loose w k) (is_wrong_branch w k) (is_second_condition w k) (is_wrong_condition t w k) (is_wrong_message t w k) e)

  of_node : any_of (is_of_no_kind w k) (has_wrong_default t w n k) (is_unheard w n k) (is_untold w n k) ≡ true → is_amiss t w n k ≡ true
  unfolding amiss_as_node
  of_node e = as_node e

  of_pool : any_of (is_second_collaboration w k) (is_lost t w k) (is_unowned w n k) (is_second_multiplicity w k) ≡ true → is_amiss t w n k ≡ true
  unfolding amiss_as_pool
  of_pool e = as_pool e

  wrong_message : is_wrong_message t w k ≡ true → is_amiss t w n k ≡ true
  wrong_message e = of_flow (four_4 (is_wrong_branch w k) (is_second_condition w k) (is_wrong_condition t w k) (is_wrong_message t w k) e)

  pools : (rule : ℕ) → Listed (breaks_pools rule t w n k)
  unfolding Listed breaks_pools
  pools rule =
      either Listed _ _ _ as_strange
      (either Listed _ _ _ as_repeated
      (either Listed _ _ _ (λ e. of_pool (four_1 (is_second_collaboration w k) (is_lost t w k) (is_unowned w n k) (is_second_multiplicity w k) e))
      (either Listed _ _ _ (λ e. of_pool (four_2 (is_second_collaboration w k) (is_lost t w k) (is_unowned w n k) (is_second_multiplicity w k) e))
      (either Listed _ _ _ (λ e. of_pool (four_3 (is_second_collaboration w k) (is_lost t w k) (is_unowned w n k) (is_second_multiplicity w k) e))
      (λ e. of_pool (four_4 (is_second_collaboration w k) (is_lost t w k) (is_unowned w n k) (is_second_multiplicity w k) e))))))

  nodes : (rule : ℕ) → Listed (breaks_nodes rule t w n k)
  unfolding Listed breaks_nodes is_adrift
  nodes rule =
      either Listed _ _ _ loose
      (either Listed _ _ _ (λ e. wrong_message (and_left (is_wrong_message t w k) (eqb (source w k) 0 || eqb (target w k) 0) e))
      (either Listed _ _ _ (λ e. of_node (four_1 (is_of_no_kind w k) (has_wrong_default t w n k) (is_unheard w n k) (is_untold w n k) e))
      (either Listed _ _ _ (λ e. of_node (four_2 (is_of_no_kind w k) (has_wrong_default t w n k) (is_unheard w n k) (is_untold w n k) e)) wrong_message)))

  flows : (rule : ℕ) → Listed (breaks_flows rule t w n k)
  unfolding Listed breaks_flows
  flows rule =
      either Listed _ _ _ (λ e. of_node (four_3 (is_of_no_kind w k) (has_wrong_default t w n k) (is_unheard w n k) (is_untold w n k) e))
      (either Listed _ _ _ (λ e. of_node (four_4 (is_of_no_kind w k) (has_wrong_default t w n k) (is_unheard w n k) (is_untold w n k) e))
      (either Listed _ _ _ (λ e. of_flow (four_1 (is_wrong_branch w k) (is_second_condition w k) (is_wrong_condition t w k) (is_wrong_message t w k) e))
      (either Listed _ _ _ (λ e. of_flow (four_2 (is_wrong_branch w k) (is_second_condition w k) (is_wrong_condition t w k) (is_wrong_message t w k) e))
      (λ e. of_flow (four_3 (is_wrong_branch w k) (is_second_condition w k) (is_wrong_condition t w k) (is_wrong_message t w k) e)))))

  -- what breaks a rule is amiss
  pub breaks_amiss : (rule : ℕ) → breaks rule t w n k ≡ true → is_amiss t w n k ≡ true
  unfolding breaks Listed
  breaks_amiss rule = either Listed _ _ _ (pools rule) (either Listed _ _ _ (nodes rule) (flows rule))

  -- what is amiss breaks a rule
  abbrev Breaks : Type 0
  Breaks = (r : ℕ) × (r < rules_of_things) × (breaks (r + 1) t w n k ≡ true)

  by_flow_lem : amiss_as_flow t w k ≡ true → Breaks
  unfolding amiss_as_flow breaks breaks_nodes breaks_flows if◌then◌or_else◌
  by_flow_lem =
      five (is_loose w k) (is_wrong_branch w k) (is_second_condition w k) (is_wrong_condition t w k) (is_wrong_message t w k)
      (λ e. (6, omega arith, e)) (λ e. (13, omega arith, e)) (λ e. (14, omega arith, e)) (λ e. (15, omega arith, e)) (λ e. (10, omega arith, e))

  by_node : amiss_as_node t w n k ≡ true → Breaks
  unfolding amiss_as_node breaks breaks_nodes breaks_flows if◌then◌or_else◌
  by_node =
      four (is_of_no_kind w k) (has_wrong_default t w n k) (is_unheard w n k) (is_untold w n k)
      (λ e. (8, omega arith, e)) (λ e. (9, omega arith, e)) (λ e. (11, omega arith, e)) (λ e. (12, omega arith, e))

  by_pool : amiss_as_pool t w n k ≡ true → Breaks
  unfolding amiss_as_pool breaks breaks_pools if◌then◌or_else◌
  by_pool =
      four (is_second_collaboration w k) (is_lost t w k) (is_unowned w n k) (is_second_multiplicity w k)
      (λ e. (2, omega arith, e)) (λ e. (3, omega arith, e)) (λ e. (4, omega arith, e)) (λ e. (5, omega arith, e))

  pub amiss_breaks : is_amiss t w n k ≡ true → (r : ℕ) × (r < rules_of_things) × (breaks (r + 1) t w n k ≡ true)
  unfolding is_amiss breaks breaks_pools if◌then◌or_else◌
  amiss_breaks =
      five (is_strange w k) (amiss_as_flow t w k) (amiss_as_node t w n k) (amiss_as_pool t w n k) (is_repeated t w k)
      (λ e. (0, omega arith, e)) by_flow_lem by_node by_pool (λ e. (1, omega arith, e))
