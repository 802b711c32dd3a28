use Rattle.std.proofs.Common.{arith}
use Rattle.key_spec.specs.Canonical.{canonical}
use Rattle.key_spec.specs.View.{spec_view}
use Rattle.archive_tree.specs.ArchiveView.{archive_view}
use Rattle.archive_file.proofs.ShapedArchives.{sound-texts}
use Rattle.test_rekey.proofs.archives.under.Goals as goal

pub write_spelled-requires : goal.write_spelled-requires
write_spelled-requires c =
    let old = c.in-Ok.old in
    let e = c.in-Ok-rekey_spelled.ensures in
    let kept = c.archives_stand_for_one_list.ensures.told (archive_view old) old.stands in
    let texts = sound-texts (spec_view c.in-Ok.field-0-0) kept.versions c.args.file.now (c.in-Ok.ensures.sound kept.versions kept.is) in
    let few = c.in-Ok.ensures.few in
    let count = e.count in
    record { shaped = c.rekeyed_archives_are_shaped.ensures.shaped (spec_view c.args.spec.now) kept.versions _ (canonical (spec_view c.args.spec.now), c.rules.ensures.closed) texts (e.archive kept.versions kept.is) e.keyed (omega (arith, few, count)) }
