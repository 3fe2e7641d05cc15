use Rattle.step_plan.proofs.PlanLaws.{matched}
use Rattle.step_plan.proofs.match_fields.Goals as goal

pub returns : goal.returns
returns c = matched _ c.args.expected c.work_out-worked.result _ _ _ c.work_out-worked.ensures.0 c.work_out-worked.ensures.1 c.same_tuple.ensures c.number_of_fields.ensures
