use Rattle.std.proofs.Common.{◌≡◌, sym, ap, ◌∙◌}
use Rattle.jsonml_tree.specs.LentView.{lent_tree_view}
use Rattle.key_spec.specs.View.{spec_view}
use Rattle.xarch_meanings.specs.Norm.{norm_from, norm_of_tree}
use Rattle.xarch_parts.specs.Outcome.{and_then}
use Rattle.xarch_parts.specs.EndLaws.{IsDefined-here}
use Rattle.xarch_parts.specs.FolderLaws.{caused-inside, caused-passed}
use Rattle.xarch_parts.specs.AllowedLaws.{MayEnd-more, MayEnd-passed, defined_refused}
use Rattle.xarch_reads.proofs.norm.write_ordered.Goals as goal

pub returns-in_err-doc-clause-caused : goal.returns-in_err-doc-clause-caused
returns-in_err-doc-clause-caused g c = λ before now later. caused-passed _ _ _ _ c.from_residual.result _ c.from_residual.ensures.1 (caused-inside _ _ _ _ later c.in_err-doc.ensures.cause)

pub returns-in_err-doc-clause-may : goal.returns-in_err-doc-clause-may
returns-in_err-doc-clause-may g c = λ files.
    let defined = norm_from files (spec_view c.args.spec.now) c.args.bytes.now in
    MayEnd-passed (λ r. r ≡ defined) c.from_residual.result c.in_err-doc.field-0.0 _ _ c.from_residual.ensures.1 (λ q e. sym (defined_refused defined _ q (IsDefined-here _ _ _ c.in_err-doc.ensures.told) e))

pub returns-clause-caused : goal.returns-clause-caused
returns-clause-caused g c = λ before now later. c.write_tree.ensures.caused before now later

pub returns-clause-may : goal.returns-clause-may
returns-clause-may g c = λ files.
    let rules = spec_view c.args.spec.now in
    let tree = lent_tree_view c.in_ok-doc.doc in
    let same = ap (λ x. and_then x (norm_of_tree files rules)) c.in_ok-doc.ensures.told in
    MayEnd-more (λ r. r ≡ norm_of_tree files rules tree) (λ r. r ≡ norm_from files rules c.args.bytes.now) (λ r e. e ∙ sym same) _ _ _ _ (c.write_tree.ensures.may files)
