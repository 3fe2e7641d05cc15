use Rattle.log_write.specs.Xes.{opening, extension, time_extension, global, classifier, trace_opening, header}
use Rattle.write_buffer.proofs.OverLaws.{after}
use Rattle.log_write.proofs.put_header.Goals as goal

pub returns : goal.returns
unfolding header opening extension time_extension global classifier trace_opening
returns c = after (after (after (after (after c.put_bytes-opening.ensures c.put_bytes-extension.ensures) c.put_bytes-time.ensures) c.put_bytes-global.ensures) c.put_bytes-classifier.ensures) c.put_bytes.ensures
