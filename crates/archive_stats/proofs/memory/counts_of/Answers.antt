use Rattle.std.proofs.Common.{ℕ, List, arith}
use Rattle.key_spec.specs.View.{spec_view}
use Rattle.key_spec.proofs.RoundTrip.{kept_round_trip}
use Rattle.keyed_tree.specs.Data.{PlainKeyed}
use Rattle.archive_tree.specs.ArchiveView.{archive_view}
use Rattle.archive_tree.specs.Stands.{ArchiveOf}
use Rattle.archive_tree.proofs.Told.{kept_told}
use Rattle.record_format.specs.Files.{FileOf}
use Rattle.archive_file.specs.Sound.{SoundAs}
use Rattle.archive_stats.proofs.Files.{sound-file, too-long}
use Rattle.archive_stats.proofs.memory.counts_of.Goals as goal

pub unreachable-requires : goal.unreachable-requires
unreachable-requires c =
    let rules = spec_view c.args.spec.now in
    let a = archive_view c.args.archive.now in
    let k = kept_told a c.args.archive.now.stands in
    let P : Type 0 = (vs : List PlainKeyed) (bytes : List ℕ) → ArchiveOf vs a → FileOf rules vs bytes → ⊥ in
    let none : P = too-long c.in-Err-TooLong.field-0 P c.in-Err-TooLong.field-0-is c.in-Err-TooLong.ensures.too_long in
    let file = c.requires.file k.versions k.is in
    none k.versions file.0 k.is file.1

pub returns-in-Ok : goal.returns-in-Ok
returns-in-Ok c =
    let rules = spec_view c.args.spec.now in
    let a = archive_view c.args.archive.now in
    let k = kept_told a c.args.archive.now.stands in
    let count = k.is.count in
    let sound : SoundAs rules k.versions c.in-Ok.bytes.items = record {
      specification = kept_round_trip c.args.spec.now.rules.items c.args.spec.now.closed;
      keyed = c.requires.keyed k.versions k.is;
      few = omega (arith, count, c.requires.few);
      file = c.in-Ok.ensures.file k.versions k.is;
    } in
    c.count_bytes.ensures rules a (sound-file rules k.versions a c.in-Ok.bytes.items sound k.is)
