use Rattle.std.proofs.Common.{map}
use Rattle.keyed_tree.specs.View.{label_view}
use Rattle.record_cursor.specs.View.{header_view}
use Rattle.xarch_words.specs.View.{fault_view}
use Rattle.xarch_reads.specs.Written.{written_state}
use Rattle.xarch_reads.proofs.LogEnds.{logs-done, logs-failed}
use Rattle.xarch_reads.proofs.log.write_log.Goals as goal

pub returns-in-Ok : goal.returns-in-Ok
returns-in-Ok g c =
    let f = g.F.Folder in
    let k = g.O.Sink in
    let a = c.args in
    let q = a.search.now in
    let e = c.in-Ok.ensures in
    let told = c.archives_tell_their_versions.ensures.versions in
    logs-done c.full_files_have_parts.ensures.parts c.versions_have_one_file.ensures.header told.0 told.1.is q.archive.now (header_view q.header.now) (map label_view q.path.now)
    (written_state f.files f.draft f.numbers f.faults k.taken k.faults a.folder.now a.out.now) (written_state f.files f.draft f.numbers f.faults k.taken k.faults c.log.new.folder c.log.new.out) (record {
      lines = e.lines;
      undamaged = e.undamaged;
      gained = e.gained;
      same_files = e.files;
      same_draft = e.draft;
      later = e.later;
      out_later = e.out_later;
      cause = e.cause;
      pulls = e.pulls;
      few = e.few;
    })

pub returns : goal.returns
returns g c =
    let f = g.F.Folder in
    let k = g.O.Sink in
    let a = c.args in
    let q = a.search.now in
    let e = c.in-Err.ensures in
    let told = c.archives_tell_their_versions.ensures.versions in
    logs-failed c.full_files_have_parts.ensures.parts c.versions_have_one_file.ensures.header told.0 told.1.is q.archive.now (header_view q.header.now) (map label_view q.path.now)
    (written_state f.files f.draft f.numbers f.faults k.taken k.faults a.folder.now a.out.now) (written_state f.files f.draft f.numbers f.faults k.taken k.faults c.log.new.folder c.log.new.out) c.in-Err.fault
    (fault_view c.shown_fault.result) c.shown_fault.ensures (record {
      lines = e.lines;
      undamaged = e.undamaged;
      gained = e.gained;
      same_files = e.files;
      same_draft = e.draft;
      later = e.later;
      out_later = e.out_later;
      cause = e.cause;
      pulls = e.pulls;
      few = e.few;
    })
