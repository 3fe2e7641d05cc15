use Rattle.std.proofs.lemmas.List.{take_min}
use Rattle.check_limits.proofs.BitLaws.{zeros_by}
use Rattle.check_limits.proofs.zeros.zero_words.Goals as goal

pub returns : goal.returns
returns c = zeros_by c.args.x.now c.args.n _ (rw (c.min.ensures, take_min) at c.bits_in.ensures)
