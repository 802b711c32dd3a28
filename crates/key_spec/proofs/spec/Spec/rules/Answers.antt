use Rattle.key_spec.specs.View.{spec_view}
use Rattle.key_spec.proofs.ClosedLaws.{closed_list}
use Rattle.key_spec.proofs.SpecLaws.{spec_again, spec_closed}
use Rattle.key_spec.proofs.spec.Spec.rules.Goals as goal

pub returns-clause-ascending : goal.returns-clause-ascending
returns-clause-ascending c = let h = spec_closed c.args.self.now in (closed_list h.0 (spec_view c.args.self.now) h.1).ascending

pub returns-clause-list : goal.returns-clause-list
returns-clause-list c = let h = spec_closed c.args.self.now in closed_list h.0 (spec_view c.args.self.now) h.1

pub returns-clause-closed : goal.returns-clause-closed
returns-clause-closed c = spec_again c.args.self.now

pub returns-clause-short : goal.returns-clause-short
returns-clause-short c = let h = spec_closed c.args.self.now in (closed_list h.0 (spec_view c.args.self.now) h.1).short
