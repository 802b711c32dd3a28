use Rattle.jsonml_tree.specs.View.{tree_view}
use Rattle.key_spec.specs.View.{spec_view}
use Rattle.keyed_tree.specs.View.{keyed_view}
use Rattle.archive_file.proofs.KeyedLaws.{stands-keyed}
use Rattle.test_program.proofs.merged.keyed_document.Goals as goal

pub returns : goal.returns
returns c =
    let d = c.in_ok-doc.ensures in
    stands-keyed (spec_view c.args.spec.now) (tree_view c.in_ok-doc.doc) (keyed_view c.in_ok-keyed.field-0) d.element d.well_formed d.shallow c.in_ok-keyed.ensures.stands
