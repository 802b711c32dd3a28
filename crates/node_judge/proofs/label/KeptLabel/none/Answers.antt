use Rattle.std.proofs.Common.{◌∙◌, ap}
use Rattle.xa_fields.specs.Reading.{whole}
use Rattle.record_parts.specs.Reading.{label_at}
use Rattle.node_judge.proofs.Kept.{no_label}
use Rattle.node_judge.proofs.label.KeptLabel.none.Goals as goal

pub returns : goal.returns
returns c = ap (whole label_at) c.new.ensures.items ∙ no_label
