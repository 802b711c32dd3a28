use Rattle.serde_json.specs.View.{items_view}
use Rattle.key_spec.specs.View.{spec_view}
use Rattle.key_rules.proofs.UserPathLemmas.{steps-rules}
use Rattle.key_rules.proofs.user_path.read_path.Goals as goal

pub returns-in-Array-clause-rules : goal.returns-in-Array-clause-rules
returns-in-Array-clause-rules c = steps-rules (spec_view c.args.spec.now) (items_view c.deref.result.now) c.read_steps.result c.read_steps.ensures.labels
