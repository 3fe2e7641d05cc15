use Rattle.draw_chart.proofs.MapLaws.{things_again}
use Rattle.draw_chart.proofs.PutLaws.{puts_as}
use Rattle.draw_chart.proofs.put_accepted.Goals as goal

pub returns : goal.returns
returns c = puts_as _ (things_again _ _ _ _ _ c.walk-met.ensures c.settle.ensures) c.put_drawn.ensures
