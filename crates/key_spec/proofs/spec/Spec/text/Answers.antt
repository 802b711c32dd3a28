use Rattle.key_spec.specs.View.{spec_view}
use Rattle.key_spec.proofs.SpecLaws.{spec_again, canonical_short}
use Rattle.key_spec.proofs.spec.Spec.text.Goals as goal

pub returns-clause-again : goal.returns-clause-again
returns-clause-again c = spec_again c.args.self.now

pub returns-clause-short : goal.returns-clause-short
returns-clause-short c = canonical_short _ (spec_view c.args.self.now) (spec_again c.args.self.now)
