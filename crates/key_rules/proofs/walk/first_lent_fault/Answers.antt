use Rattle.jsonml_tree.specs.LentView.{lent_tree_view}
use Rattle.key_spec.specs.View.{spec_view}
use Rattle.key_rules.specs.View.{fault_view}
use Rattle.key_rules.proofs.Law.{first_fault-None, none-in}
use Rattle.key_rules.proofs.PathLaw.{first_fault-path}
use Rattle.key_rules.proofs.walk.first_lent_fault.Goals as goal

pub returns-clause-none : goal.returns-clause-none
returns-clause-none c = none-in fault_view c.fault_of.result (spec_view c.args.spec.now) (lent_tree_view c.args.doc.now) c.fault_of.ensures

pub returns-clause-key_path : goal.returns-clause-key_path
returns-clause-key_path c = first_fault-path (spec_view c.args.spec.now) (lent_tree_view c.args.doc.now)

pub returns-clause-law : goal.returns-clause-law
returns-clause-law c = first_fault-None (spec_view c.args.spec.now) (lent_tree_view c.args.doc.now)
