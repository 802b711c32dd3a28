use Rattle.std.proofs.Common.{◌≡◌, IfOk, option_map, subst}
use Rattle.jsonml_tree.specs.Data.{PlainTree}
use Rattle.jsonml_tree.specs.View.{tree_view}
use Rattle.key_spec.specs.View.{spec_view}
use Rattle.key_rules.specs.Faults.{first_fault}
use Rattle.key_rules.specs.View.{fault_view}
use Rattle.key_rules.proofs.Law.{first_fault-None, none-in}
use Rattle.key_rules.proofs.PathLaw.{first_fault-path}
use Rattle.key_rules.proofs.walk.first_fault.Goals as goal

pub returns-in_err-lent-clause-key_path : goal.returns-in_err-lent-clause-key_path
returns-in_err-lent-clause-key_path c = first_fault-path (spec_view c.args.spec.now) (tree_view c.args.doc.now)

pub returns-in_err-lent-clause-law : goal.returns-in_err-lent-clause-law
returns-in_err-lent-clause-law c = first_fault-None (spec_view c.args.spec.now) (tree_view c.args.doc.now)

pub returns-clause-fault : goal.returns-clause-fault
returns-clause-fault c =
    subst (λ (t : PlainTree). IfOk c.fault_of.result (λ f. option_map fault_view f ≡ first_fault (spec_view c.args.spec.now) t)) c.in_ok-lent.ensures c.fault_of.ensures

pub returns-clause-none : goal.returns-clause-none
returns-clause-none c = none-in fault_view c.fault_of.result (spec_view c.args.spec.now) (tree_view c.args.doc.now) (returns-clause-fault c)

pub returns-clause-key_path : goal.returns-clause-key_path
returns-clause-key_path c = first_fault-path (spec_view c.args.spec.now) (tree_view c.args.doc.now)

pub returns-clause-law : goal.returns-clause-law
returns-clause-law c = first_fault-None (spec_view c.args.spec.now) (tree_view c.args.doc.now)
