use Rattle.keyed_tree.specs.View.{keyed_view}
use Rattle.archive_tree.specs.ArchiveView.{archive_view}
use Rattle.xarch_gen.specs.Company.{company_rules}
use Rattle.xarch_writes.proofs.SampleLemmas.{room, alike, sampled_next}
use Rattle.xarch_writes.proofs.demo.with_sample.Goals as goal

pub merge-requires-clause-room : goal.merge-requires-clause-room
merge-requires-clause-room c = room c.args.seed c.args.before (keyed_view c.in_ok-keyed.keyed) c.in_ok-keyed.ensures.tree c.in_ok-keyed.ensures.keyed (archive_view c.args.archive) c.requires.documents c.requires.few

pub merge-requires-clause-element : goal.merge-requires-clause-element
merge-requires-clause-element c = c.keyed_versions_can_be_merged.ensures.elements company_rules (keyed_view c.in_ok-keyed.keyed) c.in_ok-keyed.ensures.keyed

pub merge-requires-clause-ordered : goal.merge-requires-clause-ordered
merge-requires-clause-ordered c = c.keyed_versions_can_be_merged.ensures.ordered company_rules (keyed_view c.in_ok-keyed.keyed) c.in_ok-keyed.ensures.keyed

pub merge-requires-clause-well_formed : goal.merge-requires-clause-well_formed
merge-requires-clause-well_formed c = c.keyed_versions_can_be_merged.ensures.well_formed company_rules (keyed_view c.in_ok-keyed.keyed) c.in_ok-keyed.ensures.keyed

pub merge-requires-clause-alike : goal.merge-requires-clause-alike
merge-requires-clause-alike c =
    alike c.args.seed c.args.before (keyed_view c.in_ok-keyed.keyed) c.in_ok-keyed.ensures.tree c.in_ok-keyed.ensures.keyed (archive_view c.args.archive) c.requires.documents c.archives_stand_for_one_list.ensures.one_list
    c.keyed_versions_can_be_merged.ensures.alike

pub returns-in-Ok : goal.returns-in-Ok
returns-in-Ok c =
    sampled_next c.args.seed c.args.before (keyed_view c.in_ok-keyed.keyed) c.in_ok-keyed.ensures.tree c.in_ok-keyed.ensures.keyed (archive_view c.args.archive) c.requires.documents (archive_view c.in-Ok.archive) c.in-Ok.ensures.archive
