use Rattle.std.proofs.Common.{◌≡◌, Some, IfOk, IfErr, IfSome, subst}
use Rattle.jsonml_tree.specs.Data.{PlainTree}
use Rattle.jsonml_tree.specs.View.{tree_view}
use Rattle.keyed_tree.specs.View.{keyed_view}
use Rattle.key_spec.specs.View.{spec_view}
use Rattle.key_rules.specs.Faults.{first_fault}
use Rattle.key_annotate.specs.Stands.{Stands}
use Rattle.key_annotate.specs.View.{key_fault}
use Rattle.key_annotate.proofs.Documents.{keyed-laws}
use Rattle.key_annotate.proofs.annotate.keyed.Goals as goal

pub returns-in_err-lent-clause-laws : goal.returns-in_err-lent-clause-laws
returns-in_err-lent-clause-laws c = keyed-laws (spec_view c.args.spec.now) (tree_view c.args.doc.now) c.requires.element c.requires.well_formed

pub returns-clause-stands : goal.returns-clause-stands
returns-clause-stands c = subst (λ (t : PlainTree). IfOk c.own_keyed.result (λ k. Stands (spec_view c.args.spec.now) t (keyed_view k))) c.in_ok-lent.ensures c.own_keyed.ensures.stands

pub returns-clause-key : goal.returns-clause-key
returns-clause-key c =
    subst (λ (t : PlainTree). IfErr c.own_keyed.result (λ e. IfSome (key_fault e) (λ f. first_fault (spec_view c.args.spec.now) t ≡ Some f))) c.in_ok-lent.ensures c.own_keyed.ensures.key

pub returns-clause-laws : goal.returns-clause-laws
returns-clause-laws c = keyed-laws (spec_view c.args.spec.now) (tree_view c.args.doc.now) c.requires.element c.requires.well_formed
