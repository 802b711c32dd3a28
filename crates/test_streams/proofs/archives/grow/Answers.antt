use Rattle.jsonml_tree.specs.LentView.{lent_tree_view}
use Rattle.key_annotate.specs.LentView.{lent_view}
use Rattle.key_spec.specs.View.{spec_view}
use Rattle.archive_file.proofs.KeyedLaws.{stands-keyed}
use Rattle.key_annotate.specs.DocumentTexts.{keyed-texts}
use Rattle.test_streams.proofs.archives.grow.Goals as goal

pub stream_add-requires-clause-keyed : goal.stream_add-requires-clause-keyed
stream_add-requires-clause-keyed c =
    let doc = c.in_ok-tree.ensures in
    stands-keyed (spec_view c.in_ok-header.header.spec) (lent_tree_view c.in_ok-tree.tree) (lent_view c.in_ok-new.new) doc.element doc.well_formed doc.shallow c.in_ok-new.ensures.stands

pub stream_add-requires-clause-texts : goal.stream_add-requires-clause-texts
stream_add-requires-clause-texts c =
    let stands = c.in_ok-new.ensures.stands in
    keyed-texts (spec_view c.in_ok-header.header.spec) (lent_tree_view c.in_ok-tree.tree) (lent_view c.in_ok-new.new) c.in_ok-tree.ensures.texts stands.keyed

pub stream_append-requires-clause-keyed : goal.stream_append-requires-clause-keyed
stream_append-requires-clause-keyed c =
    let doc = c.in_ok-tree.ensures in
    stands-keyed (spec_view c.in_ok-header.header.spec) (lent_tree_view c.in_ok-tree.tree) (lent_view c.in_ok-new.new) doc.element doc.well_formed doc.shallow c.in_ok-new.ensures.stands

pub stream_append-requires-clause-texts : goal.stream_append-requires-clause-texts
stream_append-requires-clause-texts c =
    let stands = c.in_ok-new.ensures.stands in
    keyed-texts (spec_view c.in_ok-header.header.spec) (lent_tree_view c.in_ok-tree.tree) (lent_view c.in_ok-new.new) c.in_ok-tree.ensures.texts stands.keyed
