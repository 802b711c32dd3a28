use Rattle.std.proofs.Common.{◌≤◌, sym, refl, subst}
use Rattle.record_cursor.specs.View.{PlainCursor, header_view}
use Rattle.archive_join.specs.Faults.{fault_of}
use Rattle.archive_join.proofs.Ending.{appended-of, too_long-of, no_room-of, first_undamaged-of, second_undamaged-of, cause-of, pulls-of}
use Rattle.archive_join.proofs.whole.join.Goals as goal

pub join_archives-requires : goal.join_archives-requires
join_archives-requires g c =
    let r = c.requires in
    record {
      left = subst (λ (p : PlainCursor). p.at ≤ p.length) (sym r.left) r.one.within;
      right = subst (λ (p : PlainCursor). p.at ≤ p.length) (sym r.right) r.two.within;
      second = refl;
      few = r.few;
    }

pub returns : goal.returns
returns g c =
    let f = g.F.Folder in
    let r = c.requires in
    let h = header_view c.args.one.now in
    let i = header_view c.args.two.now in
    let old = c.args.folder.now in
    let new = c.join_archives.new.folder in
    let k = c.args.left in
    let l = c.args.right in
    let out = c.join_archives.result in
    let v = c.join_archives.ensures in
    let reads = v.reads in
    record {
      appended = appended-of f.files f.draft f.numbers f.faults h i old new k l r.left r.right out v r.few r.draft;
      files = reads.same_files;
      drafted = record { bytes = v.bytes; is = reads.lengthens };
      too_long = too_long-of f.files f.draft f.numbers f.faults h i old new k l r.left r.right out v r.few;
      no_room = no_room-of f.files f.draft f.numbers f.faults h i old new k l r.left r.right out v r.draft;
      first_undamaged = first_undamaged-of f.files f.draft f.numbers f.faults h i old new k l r.left r.right out v;
      second_undamaged = second_undamaged-of f.files f.draft f.numbers f.faults h i old new k l r.left r.right out v;
      later = reads.later;
      cause = cause-of f.files f.draft f.numbers f.faults h i old new k l r.left r.right out v;
      pulls = pulls-of f.files f.draft f.numbers f.faults h i old new k l r.left r.right (fault_of out) v;
    }
