use Rattle.std.proofs.Common.{Option, Result, ap, subst, sym}
use Rattle.record_cursor.specs.View.{PlainCursor, header_view}
use Rattle.record_copy.specs.Faults.{fault_of}
use Rattle.record_copy.specs.declared.fault.CopyFault.{CopyFault}
use Rattle.archive_cut.specs.Whole.{VersionsCut}
use Rattle.archive_cut.proofs.Ending.{appended-of, too_long-of, no_room-of, undamaged-of, cause-of}
use Rattle.archive_cut.proofs.whole.cut.Goals as goal

pub cut_versions-requires : goal.cut_versions-requires
cut_versions-requires g c =
    let r = c.requires in
    record {
      within = r.header.within;
      length = ap (λ (p : PlainCursor). p.length) r.cursor;
      standing = ap (λ (p : PlainCursor). p.standing) r.cursor;
      first = ap (λ (p : PlainCursor). p.at) r.cursor;
      most = r.most;
    }

pub returns : goal.returns
returns g c =
    let f = g.F.Folder in
    let r = c.requires in
    let h = header_view c.args.header.now in
    let i = c.args.first in
    let j = c.args.last in
    let old = c.args.folder.now in
    let new = c.cut_versions.new.folder in
    let k = c.args.cursor in
    let out = c.done.result in
    let v = subst (λ (o : Option CopyFault). VersionsCut f.files f.draft f.numbers f.faults h i j old new k o) (ap (λ (z : Result (Unit {0}) CopyFault). fault_of z) (sym c.done.ensures)) c.cut_versions.ensures in
    let reads = v.reads in
    let long = ap (λ (p : PlainCursor). p.length) r.cursor in
    record {
      appended = appended-of f.files f.draft f.numbers f.faults h i j old new k out v long r.draft;
      files = reads.same_files;
      drafted = record { bytes = v.appended; is = reads.lengthens };
      too_long = too_long-of f.files f.draft f.numbers f.faults h i j old new k out v long;
      no_room = no_room-of f.files f.draft f.numbers f.faults h i j old new k out v r.draft;
      undamaged = undamaged-of f.files f.draft f.numbers f.faults h i j old new k out v long;
      later = reads.later;
      cause = cause-of f.files f.draft f.numbers f.faults h i j old new k out v;
      pulls = reads.pulls;
    }
