use Rattle.key_spec.specs.View.{spec_view}
use Rattle.key_annotate.proofs.Documents.{keyed-laws}
use Rattle.key_annotate.proofs.annotate.keyed_laws.Goals as goal

pub returns : goal.returns
returns c = λ t e w. keyed-laws (spec_view c.args.spec.now) t e w
