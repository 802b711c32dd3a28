use Rattle.std.proofs.Common.{map}
use Rattle.archive_tree.specs.ArchiveView.{archive_view}
use Rattle.key_spec.specs.View.{spec_view}
use Rattle.keyed_tree.specs.Kids.{IsOrdered}
use Rattle.keyed_tree.specs.Proper.{IsElement}
use Rattle.keyed_tree.specs.View.{keyed_view}
use Rattle.keyed_tree.specs.WellFormed.{IsKeyedWellFormed}
use Rattle.archive_file.specs.KeyedBy.{IsKeyedBy}
use Rattle.xarch_run.proofs.MergedLemmas.{all_more, few_merged, fits_there, held_there, none_of_archive, of_archive, only_keyed}
use Rattle.xarch_run.proofs.merged.file_of_versions.Goals as goal

pub merge_all-requires-clause-versions : goal.merge_all-requires-clause-versions
merge_all-requires-clause-versions c =
    let law = c.keyed_versions_can_be_merged.ensures in
    let rules = spec_view c.args.spec.now in
    let vs = map keyed_view c.args.versions.now in
    record {
      ordered = all_more (IsKeyedBy rules) IsOrdered (law.ordered rules) vs c.requires.keyed;
      elements = all_more (IsKeyedBy rules) IsElement (law.elements rules) vs c.requires.keyed;
      alike = law.alike rules vs c.requires.keyed;
    }

pub merge_all-requires-clause-well_formed : goal.merge_all-requires-clause-well_formed
merge_all-requires-clause-well_formed c =
    let rules = spec_view c.args.spec.now in
    all_more (IsKeyedBy rules) IsKeyedWellFormed (c.keyed_versions_can_be_merged.ensures.well_formed rules) (map keyed_view c.args.versions.now) c.requires.keyed

pub encode_file-requires-clause-few : goal.encode_file-requires-clause-few
encode_file-requires-clause-few c = few_merged keyed_view c.args.versions.now (archive_view c.in_ok-archive.archive) c.in_ok-archive.ensures.archive c.requires.few

pub encode_file-requires-clause-keyed : goal.encode_file-requires-clause-keyed
encode_file-requires-clause-keyed c = only_keyed c.archives_stand_for_one_list.ensures.one_list (spec_view c.args.spec.now) (map keyed_view c.args.versions.now) c.requires.keyed (archive_view c.in_ok-archive.archive) c.in_ok-archive.ensures.archive

pub returns-clause-file : goal.returns-clause-file
returns-clause-file c = of_archive (spec_view c.args.spec.now) (map keyed_view c.args.versions.now) (archive_view c.in_ok-archive.archive) c.in_ok-archive.ensures.archive c.encode_file.result c.encode_file.ensures.file

pub returns-clause-too_long : goal.returns-clause-too_long
returns-clause-too_long c = none_of_archive (spec_view c.args.spec.now) (map keyed_view c.args.versions.now) (archive_view c.in_ok-archive.archive) c.in_ok-archive.ensures.archive c.encode_file.result c.encode_file.ensures.too_long

pub returns-clause-held : goal.returns-clause-held
returns-clause-held c = λ files name notes there.
    let file = of_archive (spec_view c.args.spec.now) (map keyed_view c.args.versions.now) (archive_view c.in_ok-archive.archive) c.in_ok-archive.ensures.archive c.encode_file.result c.encode_file.ensures.file in
    held_there (spec_view c.args.spec.now) (map keyed_view c.args.versions.now) files name notes there c.versions_have_one_file.ensures.one_file c.encode_file.result file

pub returns-clause-fits : goal.returns-clause-fits
returns-clause-fits c = λ files name notes there.
    let refused = none_of_archive (spec_view c.args.spec.now) (map keyed_view c.args.versions.now) (archive_view c.in_ok-archive.archive) c.in_ok-archive.ensures.archive c.encode_file.result c.encode_file.ensures.too_long in
    fits_there (spec_view c.args.spec.now) (map keyed_view c.args.versions.now) files name notes there c.encode_file.result refused
