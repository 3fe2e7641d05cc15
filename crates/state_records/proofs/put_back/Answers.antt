use Rattle.std.specs.Prelude.{set}
use mathlib.Core.Path.{◌∙◌, ap}
use mathlib.Core.List.{List}
use Rattle.state_records.specs.declared.Record.{Record}
use Rattle.state_records.specs.Records.{put_back}
use Rattle.state_records.proofs.put_back.Goals as goal

pub returns : goal.returns
unfolding put_back
returns c =
    c.put_record-4.ensures
    ∙ ap (λ (rs : List Record). set rs 3 c.args.f.fourth) (c.put_record-3.ensures ∙ ap (λ (rs : List Record). set rs 2 c.args.f.third) (c.put_record-2.ensures ∙ ap (λ (rs : List Record). set rs 1 c.args.f.second) c.put_record.ensures))
