use Rattle.std.proofs.Common.{◌+◌, Err, refl, ◌∙◌, arith}
use Rattle.record_cursor.specs.View.{header_view}
use Rattle.xa_outside.specs.NumberLaws.{PullsAtMost-more, PullsAtMost-trans}
use Rattle.xarch_parts.specs.EndLaws.{IsDefined-here, IsDefined-next, and_then-Ok}
use Rattle.xarch_parts.specs.FolderLaws.{reads-inside, reads-more, reads-then}
use Rattle.xarch_copies.proofs.Making.{asks-failed, stands-before}
use Rattle.xarch_copies.proofs.cut.find_versions.Goals as goal

-- the archive is not there
pub returns-in_err-size : goal.returns-in_err-size
returns-in_err-size g c =
    asks-failed c.args.folder.now c.length_of.new.folder c.from_residual.result c.in_err-size.field-0.0 c.from_residual.ensures.1
    (reads-more 0 _ _ _ _ (omega arith) c.in_err-size.ensures.reads) (λ files told. IsDefined-here _ _ _ (c.in_err-size.ensures.told files told))

-- the new one is
pub returns-in_err-check_free : goal.returns-in_err-check_free
returns-in_err-check_free g c =
    let r = c.from_residual-in_err-check_free in
    let l = c.in_ok-size.ensures in
    let e = c.in_err-check_free in
    asks-failed c.args.folder.now c.check_free.new.folder r.result e.field-0.0 r.ensures.1 (reads-then 0 0 _ _ _ _ _ (omega arith) l.reads e.ensures.reads)
    (λ files told. IsDefined-next _ _ c.in_ok-size.size _ (l.told files told) (IsDefined-here _ _ _ (e.ensures.told files (l.reads.same_files ∙ told))))

-- no header stands in front
pub returns-in_err-front : goal.returns-in_err-front
returns-in_err-front g c =
    let r = c.from_residual-in_err-front in
    let l = c.in_ok-size.ensures in
    let free = c.in_ok-check_free.ensures in
    let e = c.in_err-front in
    let size = l.size in
    asks-failed c.args.folder.now c.read_front.new.folder r.result e.field-0.0 r.ensures.1
    (reads-then 0 (16 + c.in_ok-size.size) _ _ _ _ _ (omega (arith, size)) (reads-then 0 0 0 _ _ _ _ (omega arith) l.reads free.reads) e.ensures.reads)
    (λ files told.
    let told1 = l.reads.same_files ∙ told in
    let told2 = free.reads.same_files ∙ told1 in
    IsDefined-next _ _ c.in_ok-size.size _ (l.told files told) (IsDefined-next _ _ tt _ (free.told files told1) (IsDefined-here _ _ _ (e.ensures.told files told2 (l.told files told)))))

-- there are no such versions
pub returns-in-Err : goal.returns-in-Err
returns-in-Err g c =
    let l = c.in_ok-size.ensures in
    let free = c.in_ok-check_free.ensures in
    let front = c.in_ok-front.ensures in
    let h = header_view c.in_ok-front.front.header in
    let size = l.size in
    let e = c.in-Err in
    asks-failed c.args.folder.now c.read_front.new.folder (Err e.fault) e.fault refl
    (reads-inside _ _ _ _ (reads-then 0 (16 + c.in_ok-size.size) _ _ _ _ _ (omega (arith, size)) (reads-then 0 0 0 _ _ _ _ (omega arith) l.reads free.reads) front.reads) e.ensures.cause)
    (λ files told.
    let told1 = l.reads.same_files ∙ told in
    let told2 = free.reads.same_files ∙ told1 in
    IsDefined-next _ _ c.in_ok-size.size _ (l.told files told) (IsDefined-next _ _ tt _ (free.told files told1) (IsDefined-next _ _ (h.rules, h.versions) _ (front.told files told2 (l.told files told)) (IsDefined-here _ _ _ e.ensures.told))))

pub returns-in-Ok : goal.returns-in-Ok
returns-in-Ok g c =
    let l = c.in_ok-size.ensures in
    let free = c.in_ok-check_free.ensures in
    let front = c.in_ok-front.ensures in
    let h = header_view c.in_ok-front.front.header in
    let size = l.size in
    let n = 16 + h.first in
    record {
      reads = reads-then 0 (16 + c.in_ok-size.size) _ _ _ _ _ (omega (arith, size)) (reads-then 0 0 0 _ _ _ _ (omega arith) l.reads free.reads) front.reads;
      told = λ files told.
          let told1 = l.reads.same_files ∙ told in
          let told2 = free.reads.same_files ∙ told1 in
          and_then-Ok _ _ c.in_ok-size.size _ (l.told files told) (and_then-Ok _ _ tt _ (free.told files told1) (and_then-Ok _ _ (h.rules, h.versions) _ (front.told files told2 (l.told files told)) (and_then-Ok _ _ tt _ c.in-Ok.ensures.told refl)));
      found = record {
        before = stands-before (g.F.Folder.files c.args.folder.now) c.args.archive.now c.in_ok-size.size c.in_ok-front.front size front.within (λ files told. front.front files (free.reads.same_files ∙ (l.reads.same_files ∙ told)) (l.told files told));
        from = c.in-Ok.ensures.within.0;
        most = c.in-Ok.ensures.within.1;
      };
      once = PullsAtMost-more (0 + 0 + n) n _ _ (omega arith) (PullsAtMost-trans (0 + 0) n _ _ _ (PullsAtMost-trans 0 0 _ _ _ l.reads.pulls free.reads.pulls) front.once);
    }
