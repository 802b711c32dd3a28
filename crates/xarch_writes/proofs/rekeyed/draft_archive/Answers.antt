use Rattle.std.proofs.Common.{None, Some, refl}
use Rattle.key_spec.specs.View.{spec_view}
use Rattle.spelled_archive.specs.ArchiveView.{spelled_archive_view}
use Rattle.xarch_words.specs.Refusal.{folder_fault, memory}
use Rattle.xarch_parts.proofs.NoteLaws.{inside-memory}
use Rattle.xarch_parts.proofs.Pushing.{no-fault, of-folder}
use Rattle.xarch_parts.specs.EndLaws.{IsOfFolder-inside}
use Rattle.xarch_parts.specs.Ends.{IsInside, IsOfFolder}
use Rattle.xarch_writes.proofs.Storing.{drafts-archive, sound-file}
use Rattle.xarch_writes.proofs.rekeyed.draft_archive.Goals as goal

pub write_spelled-requires : goal.write_spelled-requires
write_spelled-requires g c = record { shaped = c.requires.written.shaped }

pub returns-in-Ok : goal.returns-in-Ok
returns-in-Ok g c =
    let rules = spec_view c.args.spec.now in
    let a = spelled_archive_view c.args.archive.now in
    let d = c.in-Ok.ensures.drafted in
    drafts-archive rules a c.args.folder.now c.write_spelled.new.folder _ _ None c.requires.blank d (sound-file rules a d.bytes c.rules.ensures.closed c.requires.written d.is) (no-fault _ _)

pub returns-in-Err-TooLong : goal.returns-in-Err-TooLong
unfolding IsInside IsOfFolder
returns-in-Err-TooLong g c =
    let rules = spec_view c.args.spec.now in
    let a = spelled_archive_view c.args.archive.now in
    drafts-archive rules a c.args.folder.now c.write_spelled.new.folder _ _ _ c.requires.blank c.in-Err-TooLong.ensures.drafted (record { is = refl; none = rw c.in-Err-TooLong.field-0-is at c.in-Err-TooLong.ensures.too_long }) tt

pub returns-in-Err-Folder : goal.returns-in-Err-Folder
returns-in-Err-Folder g c =
    let rules = spec_view c.args.spec.now in
    let a = spelled_archive_view c.args.archive.now in
    let d = rw c.in-Err-Folder.field-0-is at c.in-Err-Folder.ensures.drafted in
    drafts-archive rules a c.args.folder.now c.write_spelled.new.folder _ _ (Some folder_fault) c.requires.blank d tt (of-folder _ _ folder_fault refl d.cause)

pub returns-in-Err-Memory : goal.returns-in-Err-Memory
returns-in-Err-Memory g c =
    let rules = spec_view c.args.spec.now in
    let a = spelled_archive_view c.args.archive.now in
    drafts-archive rules a c.args.folder.now c.write_spelled.new.folder _ _ (Some memory) c.requires.blank c.in-Err-Memory.ensures.drafted tt (IsOfFolder-inside _ _ (Some memory) inside-memory)
