use Rattle.std.proofs.Common.{rules, arith, refl}
use Rattle.std.proofs.lemmas.Bool.Decides.{nat_tests}
use Rattle.base_words.specs.Pick.{if◌then◌or_else◌}
use Rattle.base_words.specs.Seek.{seek}
use Rattle.base_kinds.specs.Moves.{move_of, rule_of, is_rule, mode_of}
use Rattle.base_kinds.proofs.RuleLaws.{row_known, row_both, no_rule, has_rule}
use Rattle.base_kinds.proofs.moves.move_of.Goals as goal

pub returns-in-0-eq0-eq1 : goal.returns-in-0-eq0-eq1
unfolding move_of rule_of seek is_rule mode_of if◌then◌or_else◌
returns-in-0-eq0-eq1 c = search (rules, row_known)

pub returns-in-0-eq0-eq2 : goal.returns-in-0-eq0-eq2
unfolding move_of rule_of seek is_rule mode_of if◌then◌or_else◌
returns-in-0-eq0-eq2 c = search (rules, row_known)

pub returns-in-0-eq0-eq3 : goal.returns-in-0-eq0-eq3
unfolding move_of rule_of seek is_rule mode_of if◌then◌or_else◌
returns-in-0-eq0-eq3 c = search (rules, row_known)

pub returns-in-0-eq0-eq4 : goal.returns-in-0-eq0-eq4
unfolding move_of rule_of seek is_rule mode_of if◌then◌or_else◌
returns-in-0-eq0-eq4 c = search (rules, row_known)

pub returns-in-0-eq0-eq5 : goal.returns-in-0-eq0-eq5
unfolding move_of rule_of seek is_rule mode_of if◌then◌or_else◌
returns-in-0-eq0-eq5 c = search (rules, row_known)

pub returns-in-0-eq0-eq6 : goal.returns-in-0-eq0-eq6
unfolding move_of rule_of seek is_rule mode_of if◌then◌or_else◌
returns-in-0-eq0-eq6 c = search (rules, row_known)

pub returns-in-0-eq0-eq7 : goal.returns-in-0-eq0-eq7
unfolding move_of rule_of seek is_rule mode_of if◌then◌or_else◌
returns-in-0-eq0-eq7 c = search (rules, row_known)

pub returns-in-0-eq0-eq8 : goal.returns-in-0-eq0-eq8
unfolding move_of rule_of seek is_rule mode_of if◌then◌or_else◌
returns-in-0-eq0-eq8 c = search (rules, row_known)

pub returns-in-0-eq0-eq9 : goal.returns-in-0-eq0-eq9
unfolding move_of rule_of seek is_rule mode_of if◌then◌or_else◌
returns-in-0-eq0-eq9 c = search (rules, row_known)

pub returns-in-0-eq0-eq10 : goal.returns-in-0-eq0-eq10
unfolding move_of rule_of seek is_rule mode_of if◌then◌or_else◌
returns-in-0-eq0-eq10 c = search (rules, row_known)

pub returns-in-0-eq0-eq11 : goal.returns-in-0-eq0-eq11
unfolding move_of rule_of seek is_rule mode_of if◌then◌or_else◌
returns-in-0-eq0-eq11 c = search (rules, row_known)

pub returns-in-0-eq0-eq12 : goal.returns-in-0-eq0-eq12
unfolding move_of rule_of seek is_rule mode_of if◌then◌or_else◌
returns-in-0-eq0-eq12 c = search (rules, row_known)

pub returns-in-1-eq0-eq13 : goal.returns-in-1-eq0-eq13
unfolding move_of rule_of seek is_rule mode_of if◌then◌or_else◌
returns-in-1-eq0-eq13 c = search (rules, row_known)

pub returns-in-1-eq0-eq14 : goal.returns-in-1-eq0-eq14
unfolding move_of rule_of seek is_rule mode_of if◌then◌or_else◌
returns-in-1-eq0-eq14 c = search (rules, row_known)

pub returns-in-1-eq0-eq15 : goal.returns-in-1-eq0-eq15
unfolding move_of rule_of seek is_rule mode_of if◌then◌or_else◌
returns-in-1-eq0-eq15 c = search (rules, row_known)

pub returns-in-2-eq1-eq13 : goal.returns-in-2-eq1-eq13
unfolding move_of rule_of seek is_rule mode_of if◌then◌or_else◌
returns-in-2-eq1-eq13 c = row_both c.args.k c.args.m c.args.p 13 1 _ (omega arith) (omega arith) c.in-2-eq1-eq13.is-2 c.in-2-eq1-eq13.is-1 refl refl

pub returns-in-2-eq1-eq14 : goal.returns-in-2-eq1-eq14
unfolding move_of rule_of seek is_rule mode_of if◌then◌or_else◌
returns-in-2-eq1-eq14 c = row_both c.args.k c.args.m c.args.p 14 1 _ (omega arith) (omega arith) c.in-2-eq1-eq14.is-2 c.in-2-eq1-eq14.is-1 refl refl

pub returns-in-2-eq1-eq15 : goal.returns-in-2-eq1-eq15
unfolding move_of rule_of seek is_rule mode_of if◌then◌or_else◌
returns-in-2-eq1-eq15 c = row_both c.args.k c.args.m c.args.p 15 1 _ (omega arith) (omega arith) c.in-2-eq1-eq15.is-2 c.in-2-eq1-eq15.is-1 refl refl

pub returns-in-2-eq3-eq13 : goal.returns-in-2-eq3-eq13
unfolding move_of rule_of seek is_rule mode_of if◌then◌or_else◌
returns-in-2-eq3-eq13 c = row_both c.args.k c.args.m c.args.p 13 3 _ (omega arith) (omega arith) c.in-2-eq3-eq13.is-2 c.in-2-eq3-eq13.is-1 refl refl

pub returns-in-2-eq3-eq14 : goal.returns-in-2-eq3-eq14
unfolding move_of rule_of seek is_rule mode_of if◌then◌or_else◌
returns-in-2-eq3-eq14 c = row_both c.args.k c.args.m c.args.p 14 3 _ (omega arith) (omega arith) c.in-2-eq3-eq14.is-2 c.in-2-eq3-eq14.is-1 refl refl

pub returns-in-2-eq3-eq15 : goal.returns-in-2-eq3-eq15
unfolding move_of rule_of seek is_rule mode_of if◌then◌or_else◌
returns-in-2-eq3-eq15 c = row_both c.args.k c.args.m c.args.p 15 3 _ (omega arith) (omega arith) c.in-2-eq3-eq15.is-2 c.in-2-eq3-eq15.is-1 refl refl

pub returns-in-2-eq2-eq14 : goal.returns-in-2-eq2-eq14
unfolding move_of rule_of seek is_rule mode_of if◌then◌or_else◌
returns-in-2-eq2-eq14 c = row_both c.args.k c.args.m c.args.p 14 2 _ (omega arith) (omega arith) c.in-2-eq2-eq14.is-2 c.in-2-eq2-eq14.is-1 refl refl

pub returns-in-2-eq2-eq15 : goal.returns-in-2-eq2-eq15
unfolding move_of rule_of seek is_rule mode_of if◌then◌or_else◌
returns-in-2-eq2-eq15 c = row_both c.args.k c.args.m c.args.p 15 2 _ (omega arith) (omega arith) c.in-2-eq2-eq15.is-2 c.in-2-eq2-eq15.is-1 refl refl

pub returns-in_default : goal.returns-in_default
unfolding has_rule mode_of if◌then◌or_else◌
returns-in_default c = no_rule c.args.k c.args.m c.args.p (grind (arith, nat_tests))

pub returns-in_default-2 : goal.returns-in_default-2
unfolding has_rule mode_of if◌then◌or_else◌
returns-in_default-2 c = no_rule c.args.k c.args.m c.args.p (grind (arith, nat_tests))

pub returns-in_default-3 : goal.returns-in_default-3
unfolding has_rule mode_of if◌then◌or_else◌
returns-in_default-3 c = no_rule c.args.k c.args.m c.args.p (grind (arith, nat_tests))

pub returns-in_default-4 : goal.returns-in_default-4
unfolding has_rule mode_of if◌then◌or_else◌
returns-in_default-4 c = no_rule c.args.k c.args.m c.args.p (grind (arith, nat_tests))

pub returns-in_default-5 : goal.returns-in_default-5
unfolding has_rule mode_of if◌then◌or_else◌
returns-in_default-5 c = no_rule c.args.k c.args.m c.args.p (grind (arith, nat_tests))

pub returns-in_default-6 : goal.returns-in_default-6
unfolding has_rule mode_of if◌then◌or_else◌
returns-in_default-6 c = no_rule c.args.k c.args.m c.args.p (grind (arith, nat_tests))

pub returns-in_default-7 : goal.returns-in_default-7
unfolding has_rule mode_of if◌then◌or_else◌
returns-in_default-7 c = no_rule c.args.k c.args.m c.args.p (grind (arith, nat_tests))

pub returns-in_default-8 : goal.returns-in_default-8
unfolding has_rule mode_of if◌then◌or_else◌
returns-in_default-8 c = no_rule c.args.k c.args.m c.args.p (grind (arith, nat_tests))

pub returns-in_default-9 : goal.returns-in_default-9
unfolding has_rule mode_of if◌then◌or_else◌
returns-in_default-9 c = no_rule c.args.k c.args.m c.args.p (grind (arith, nat_tests))
