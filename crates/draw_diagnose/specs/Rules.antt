-- WHY 21: the conditions of draw_faults' list as rules with an ordinal, in an order in which what follows from another fault comes behind it: what is not run, ids, pools and references, kinds, who sends and receives,
-- branches, conditions, pools at all. t is the text, w the things drawn, with their flows joined and their kinds; n their count; k a thing. (RULES: drawings)
use Rattle.std.specs.Prelude.{ℕ, ◌+◌, Bool, ◌&&◌, ◌||◌, List, eqb, ltb}
use Rattle.base_words.specs.Blocks.{Bytes, Drawing}
use Rattle.base_words.specs.Pick.{if◌then◌or_else◌}
use Rattle.base_words.specs.Seek.{seek}
use Rattle.draw_things.specs.Things.{room, place, source, target}
use Rattle.draw_diagnose.specs.declared.Broken.{Broken}
use Rattle.draw_faults.specs.Amiss.{is_strange, is_repeated, is_second_collaboration, is_lost, is_unowned, is_second_multiplicity, is_loose, is_of_no_kind, has_wrong_default, is_wrong_message, is_unheard, is_untold, is_wrong_branch, is_second_condition, is_wrong_condition}
use Rattle.draw_numbers.specs.Who.{has_participants, has_pool}

-- a message flow that is wrong because one of its references names nothing: such a one is looked for before the kinds of what others join
unfoldable pub is_adrift : Bytes → Drawing → ℕ → Bool
is_adrift t w k = is_wrong_message t w k && (eqb (source w k) 0 || eqb (target w k) 0)

abbrev pub strange : ℕ
strange = 1

abbrev pub repeated : ℕ
repeated = 2

abbrev pub second_collaboration : ℕ
second_collaboration = 3

abbrev pub lost : ℕ
lost = 4

abbrev pub unowned : ℕ
unowned = 5

abbrev pub second_multiplicity : ℕ
second_multiplicity = 6

abbrev pub loose : ℕ
loose = 7

abbrev pub adrift : ℕ
adrift = 8

abbrev pub of_no_kind : ℕ
of_no_kind = 9

abbrev pub wrong_default : ℕ
wrong_default = 10

abbrev pub wrong_message : ℕ
wrong_message = 11

abbrev pub unheard : ℕ
unheard = 12

abbrev pub untold : ℕ
untold = 13

abbrev pub wrong_branch : ℕ
wrong_branch = 14

abbrev pub second_condition : ℕ
second_condition = 15

abbrev pub wrong_condition : ℕ
wrong_condition = 16

-- how many rules a thing can break; then two of the whole drawing: no pool, and more things than there is room for
abbrev pub rules_of_things : ℕ
rules_of_things = wrong_condition

abbrev pub no_pool : ℕ
no_pool = 17

abbrev pub too_many : ℕ
too_many = 18

-- THING k BREAKS A RULE
unfoldable pub breaks_pools : ℕ → Bytes → Drawing → ℕ → ℕ → Bool
breaks_pools rule t w n k =
    if eqb rule strange then is_strange w k
    or_else if eqb rule repeated then is_repeated t w k
    or_else if eqb rule second_collaboration then is_second_collaboration w k
    or_else if eqb rule lost then is_lost t w k
    or_else if eqb rule unowned then is_unowned w n k
    or_else is_second_multiplicity w k

unfoldable pub breaks_nodes : ℕ → Bytes → Drawing → ℕ → ℕ → Bool
breaks_nodes rule t w n k =
    if eqb rule loose then is_loose w k
    or_else if eqb rule adrift then is_adrift t w k
    or_else if eqb rule of_no_kind then is_of_no_kind w k
    or_else if eqb rule wrong_default then has_wrong_default t w n k
    or_else is_wrong_message t w k

unfoldable pub breaks_flows : ℕ → Bytes → Drawing → ℕ → ℕ → Bool
breaks_flows rule t w n k =
    if eqb rule unheard then is_unheard w n k
    or_else if eqb rule untold then is_untold w n k
    or_else if eqb rule wrong_branch then is_wrong_branch w k
    or_else if eqb rule second_condition then is_second_condition w k
    or_else is_wrong_condition t w k

unfoldable pub breaks : ℕ → Bytes → Drawing → ℕ → ℕ → Bool
breaks rule t w n k =
    if ltb rule loose then breaks_pools rule t w n k
    or_else if ltb rule unheard then breaks_nodes rule t w n k
    or_else breaks_flows rule t w n k

-- the first thing that breaks a rule, n where none does; the first rule that is broken
unfoldable pub first_breaking : ℕ → Bytes → Drawing → ℕ → ℕ
first_breaking rule t w n = seek (breaks rule t w n) n

unfoldable pub is_broken : Bytes → Drawing → ℕ → ℕ → Bool
is_broken t w n r = ltb (first_breaking (r + 1) t w n) n

unfoldable pub first_broken : Bytes → Drawing → ℕ → ℕ
first_broken t w n = seek (is_broken t w n) rules_of_things

-- THE RULE and the place of the `<` of the first thing that breaks it; of a whole drawing the root's; 0 and 0 where none is broken
unfoldable pub broken_by_all : Drawing → ℕ → Broken
broken_by_all w n =
    if has_pool (has_participants w n) w n then
    (if ltb room n then record { rule = too_many; place = place w 0 } or_else record { rule = 0; place = 0 })
    or_else record { rule = no_pool; place = place w 0 }

unfoldable pub broken_in : Bytes → Drawing → ℕ → Broken
broken_in t w n =
    if ltb (first_broken t w n) rules_of_things then record { rule = first_broken t w n + 1; place = place w (first_breaking (first_broken t w n + 1) t w n) }
    or_else broken_by_all w n
