use Rattle.std.proofs.lemmas.Grind.{common_steps}
use Rattle.std.proofs.Common.{◌≡◌, [], Some, ap, ap₂, sym, ◌∙◌, arith}
use Rattle.std.specs.Option.{option_map}
use Rattle.jsonml_tree.specs.LentView.{lent_tree_view}
use Rattle.key_annotate.specs.LentView.{lent_view}
use Rattle.key_spec.specs.View.{spec_view}
use Rattle.key_annotate.specs.Ordered.{built_tree}
use Rattle.key_annotate.proofs.Documents.{keyed-laws, stands}
use Rattle.key_annotate.proofs.annotate.lent_keyed.Goals as goal

pub returns-in_err-tree-clause-laws : goal.returns-in_err-tree-clause-laws
returns-in_err-tree-clause-laws c = keyed-laws (spec_view c.args.spec.now) (lent_tree_view c.args.doc.now) c.requires.element c.requires.well_formed

pub returns-in-Some-clause-stands : goal.returns-in-Some-clause-stands
returns-in-Some-clause-stands c =
    let rules' = spec_view c.args.spec.now in
    let t = lent_tree_view c.args.doc.now in
    let built : Some (lent_view c.in-Some.tree) ≡ built_tree rules' [] t =
    ap (option_map lent_view) (sym c.in-Some.is) ∙ c.in_ok-tree.ensures ∙ ap₂ (λ r p. built_tree r p t) c.root.ensures.rules c.root.ensures.path in
    stands rules' t (lent_view c.in-Some.tree) c.requires.element c.requires.well_formed built

pub returns-in-Some-clause-laws : goal.returns-in-Some-clause-laws
returns-in-Some-clause-laws c = keyed-laws (spec_view c.args.spec.now) (lent_tree_view c.args.doc.now) c.requires.element c.requires.well_formed

pub returns-in-Some-clause-key : goal.returns-in-Some-clause-key
returns-in-Some-clause-key c = grind (arith, common_steps)

pub returns-clause-stands : goal.returns-clause-stands
returns-clause-stands c = grind (arith, common_steps)

pub returns-clause-key : goal.returns-clause-key
returns-clause-key c = grind (arith, common_steps)

pub returns-clause-laws : goal.returns-clause-laws
returns-clause-laws c = keyed-laws (spec_view c.args.spec.now) (lent_tree_view c.args.doc.now) c.requires.element c.requires.well_formed
