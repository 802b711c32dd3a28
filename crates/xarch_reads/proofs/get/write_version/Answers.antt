use Rattle.xarch_words.specs.View.{fault_view}
use Rattle.xarch_reads.specs.Written.{written_state}
use Rattle.xarch_reads.proofs.GetEnds.{writes-done, writes-failed}
use Rattle.xarch_reads.proofs.get.write_version.Goals as goal

pub returns-in-Ok : goal.returns-in-Ok
returns-in-Ok g c =
    let f = g.F.Folder in
    let k = g.O.Sink in
    let a = c.args in
    let q = a.asked.now in
    let e = c.in-Ok.ensures in
    let texts = c.archives_tell_their_texts.ensures in
    writes-done c.versions_have_one_file.ensures.fixed c.full_files_have_parts.ensures.parts texts.0 texts.1 q.archive.now q.size q.version (written_state f.files f.draft f.numbers f.faults k.taken k.faults a.folder.now a.out.now)
    (written_state f.files f.draft f.numbers f.faults k.taken k.faults c.get.new.folder c.get.new.out) (record {
      judges = e.judges;
      uncounted = e.uncounted;
      nothing = e.nothing;
      text = e.text;
      undamaged = e.undamaged;
      gained = e.gained;
      same_files = e.files;
      same_draft = e.draft;
      later = e.later;
      out_later = e.out_later;
      cause = e.cause;
      pulls = e.pulls;
      few = e.few;
    })

pub returns : goal.returns
returns g c =
    let f = g.F.Folder in
    let k = g.O.Sink in
    let a = c.args in
    let q = a.asked.now in
    let e = c.in-Err.ensures in
    let texts = c.archives_tell_their_texts.ensures in
    writes-failed c.versions_have_one_file.ensures.fixed c.full_files_have_parts.ensures.parts texts.0 texts.1 q.archive.now q.size q.version (written_state f.files f.draft f.numbers f.faults k.taken k.faults a.folder.now a.out.now)
    (written_state f.files f.draft f.numbers f.faults k.taken k.faults c.get.new.folder c.get.new.out) c.in-Err.fault (fault_view c.shown_fault.result) c.shown_fault.ensures (record {
      judges = e.judges;
      uncounted = e.uncounted;
      nothing = e.nothing;
      text = e.text;
      undamaged = e.undamaged;
      gained = e.gained;
      same_files = e.files;
      same_draft = e.draft;
      later = e.later;
      out_later = e.out_later;
      cause = e.cause;
      pulls = e.pulls;
      few = e.few;
    })
