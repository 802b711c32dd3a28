use Rattle.key_spec.proofs.ClosedLaws.{closed_list}
use Rattle.key_spec.proofs.spec.Spec.parse.Goals as goal

pub returns-clause-list : goal.returns-clause-list
returns-clause-list c rules e = closed_list c.args.text.now rules e
