use Rattle.key_spec.specs.ContextView.{context_path, context_rules}
use Rattle.key_rules.specs.Faults.{item_place}
use Rattle.key_rules.proofs.Looks.{Looked}
use Rattle.key_rules.proofs.walk.first_among.Given as goal

abbrev pub invariant-loop-position : goal.invariant-loop-position
invariant-loop-position l = Looked (context_rules l.context) (context_path l.context) (item_place l.place) l.items l.position l.labels l.repeated
