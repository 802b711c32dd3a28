use Rattle.std.proofs.Common.{◌≡◌, Some, refl, sym}
use Rattle.jsonml_tree.specs.LentView.{lent_tree_view}
use Rattle.key_annotate.specs.LentView.{lent_view}
use Rattle.key_spec.specs.View.{spec_view}
use Rattle.keyed_print.specs.KeyedText.{keyed_text}
use Rattle.xarch_words.specs.View.{fault_view}
use Rattle.xarch_meanings.specs.Norm.{norm_of_tree}
use Rattle.xarch_parts.specs.EndLaws.{IsDefined-here, and_then-Ok}
use Rattle.xarch_parts.specs.FolderLaws.{caused-inside, caused-output}
use Rattle.xarch_parts.specs.AllowedLaws.{MayEnd-stopped, MayEnd-written, defined_refused, tells_same}
use Rattle.xarch_reads.proofs.norm.write_tree.Goals as goal

pub returns-in-Err-clause-caused : goal.returns-in-Err-clause-caused
returns-in-Err-clause-caused g c = λ before now later. caused-inside _ _ _ _ later c.in-Err.ensures.cause

pub returns-in-Err-clause-may : goal.returns-in-Err-clause-may
returns-in-Err-clause-may g c = λ files.
    let defined = norm_of_tree files (spec_view c.args.spec.now) (lent_tree_view c.args.doc.now) in
    MayEnd-stopped (λ r. r ≡ defined) (fault_view c.in-Err.fault) _ _ (λ q e. sym (defined_refused defined _ q (IsDefined-here _ _ _ c.in-Err.ensures.told) e))

pub returns-in-Ok-clause-caused : goal.returns-in-Ok-clause-caused
returns-in-Ok-clause-caused g c = λ before now later. caused-output before now _ _ _ later c.write_keyed.ensures.later c.write_keyed.ensures.cause

pub returns-in-Ok-clause-may : goal.returns-in-Ok-clause-may
returns-in-Ok-clause-may g c = λ files.
    let defined = norm_of_tree files (spec_view c.args.spec.now) (lent_tree_view c.args.doc.now) in
    MayEnd-written (λ r. r ≡ defined) (record { files = files; output = keyed_text (lent_view c.in-Ok.keyed) }) c.write_keyed.result (Some files) _ _ _ _ (sym (and_then-Ok _ _ _ _ c.in-Ok.ensures.told refl))
    (tells_same _ files refl) c.write_keyed.ensures.bytes c.write_keyed.ensures.cause
