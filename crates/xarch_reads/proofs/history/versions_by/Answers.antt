use Rattle.record_cursor.specs.View.{header_view}
use Rattle.version_set.specs.declared.set.VersionSet.{VersionSet}
use Rattle.xarch_words.specs.View.{fault_view}
use Rattle.xarch_parts.specs.CoreLaws.{core-sound}
use Rattle.xarch_meanings.specs.FrontLaws.{front-told, header-is}
use Rattle.xarch_reads.proofs.HistoryEnds.{shown-cause, shown-sound}
use Rattle.xarch_reads.proofs.history.versions_by.Goals as goal

pub returns-in-Ok-clause-members : goal.returns-in-Ok-clause-members
returns-in-Ok-clause-members g c = λ files held told front is.
    let before = g.F.Folder.files c.args.folder.now in
    let h = header_view c.args.search.now.header.now in
    c.in-Ok.ensures.members front.core held.rules held.versions (front-told files before c.args.search.now.archive.now h told front) (header-is files before c.args.search.now.archive.now h told front) (core-sound c.full_files_have_parts.ensures.parts files c.args.search.now.archive.now held is h.length front.core front.of)

pub returns-in-Ok-clause-few : goal.returns-in-Ok-clause-few
returns-in-Ok-clause-few g c = λ files held a told front is of.
    let before = g.F.Folder.files c.args.folder.now in
    let h = header_view c.args.search.now.header.now in
    c.in-Ok.ensures.few front.core held.rules held.versions a (front-told files before c.args.search.now.archive.now h told front) (header-is files before c.args.search.now.archive.now h told front) (core-sound c.full_files_have_parts.ensures.parts files c.args.search.now.archive.now held is h.length front.core front.of) of

pub returns-clause-reads : goal.returns-clause-reads
returns-clause-reads g c =
    let e = c.in-Err.ensures in
    record {
      same_files = e.files;
      same_draft = e.draft;
      pulls = e.pulls;
      later = e.later;
      cause = shown-cause VersionSet c.args.search.now.archive.now c.in-Err.fault (fault_view c.shown_fault.result) _ _ c.shown_fault.ensures e.cause;
    }

pub returns-clause-undamaged : goal.returns-clause-undamaged
returns-clause-undamaged g c = λ files held told front is.
    let before = g.F.Folder.files c.args.folder.now in
    let h = header_view c.args.search.now.header.now in
    shown-sound c.args.search.now.archive.now c.in-Err.fault (fault_view c.shown_fault.result) c.shown_fault.ensures
    (c.in-Err.ensures.undamaged front.core held.rules held.versions (front-told files before c.args.search.now.archive.now h told front) (header-is files before c.args.search.now.archive.now h told front) (core-sound c.full_files_have_parts.ensures.parts files c.args.search.now.archive.now held is h.length front.core front.of))

pub returns-clause-few : goal.returns-clause-few
returns-clause-few g c = λ files held a told front is of.
    let before = g.F.Folder.files c.args.folder.now in
    let h = header_view c.args.search.now.header.now in
    c.in-Err.ensures.few front.core held.rules held.versions a (front-told files before c.args.search.now.archive.now h told front) (header-is files before c.args.search.now.archive.now h told front) (core-sound c.full_files_have_parts.ensures.parts files c.args.search.now.archive.now held is h.length front.core front.of) of
