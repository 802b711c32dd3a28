use Rattle.std.proofs.Common.{refl, ap, ◌∙◌, arith}
use Rattle.xarch_parts.specs.EndLaws.{IsDefined-here, IsDefined-next, and_then-Ok}
use Rattle.xarch_parts.specs.FolderLaws.{reads-more, reads-then}
use Rattle.xarch_parts.specs.Inputs.{size_in}
use Rattle.xarch_copies.proofs.Making.{asks-behind, asks-failed}
use Rattle.xarch_copies.proofs.join.find_archives.Goals as goal

-- the first archive is not there
pub returns-in_err-size : goal.returns-in_err-size
returns-in_err-size g c =
    asks-failed c.args.folder.now c.length_of.new.folder c.from_residual.result c.in_err-size.field-0.0 c.from_residual.ensures.1
    (reads-more 0 _ _ _ _ (omega arith) c.in_err-size.ensures.reads) (λ files told. IsDefined-here _ _ _ (c.in_err-size.ensures.told files told))

-- nor the second
pub returns-in_err-other : goal.returns-in_err-other
returns-in_err-other g c =
    let r = c.from_residual-in_err-other in
    let l = c.in_ok-size.ensures in
    let e = c.in_err-other in
    asks-failed c.args.folder.now c.length_of-2.new.folder r.result e.field-0.0 r.ensures.1 (reads-then 0 0 _ _ _ _ _ (omega arith) l.reads e.ensures.reads)
    (λ files told. IsDefined-next _ _ c.in_ok-size.size _ (l.told files told) (IsDefined-here _ _ _ (e.ensures.told files (l.reads.same_files ∙ told))))

-- the new one is
pub returns-in_err-check_free : goal.returns-in_err-check_free
returns-in_err-check_free g c =
    let r = c.from_residual-in_err-check_free in
    let l = c.in_ok-size.ensures in
    let m = c.in_ok-other.ensures in
    let e = c.in_err-check_free in
    asks-failed c.args.folder.now c.check_free.new.folder r.result e.field-0.0 r.ensures.1 (reads-then 0 0 _ _ _ _ _ (omega arith) (reads-then 0 0 0 _ _ _ _ (omega arith) l.reads m.reads) e.ensures.reads)
    (λ files told.
    let told1 = l.reads.same_files ∙ told in
    IsDefined-next _ _ c.in_ok-size.size _ (l.told files told) (IsDefined-next _ _ c.in_ok-other.other _ (m.told files told1) (IsDefined-here _ _ _ (e.ensures.told files (m.reads.same_files ∙ told1)))))

-- what stands in front is read
pub returns : goal.returns
returns g c =
    let l = c.in_ok-size.ensures in
    let m = c.in_ok-other.ensures in
    let free = c.in_ok-check_free.ensures in
    let reads = reads-then 0 0 0 _ _ _ _ (omega arith) (reads-then 0 0 0 _ _ _ _ (omega arith) l.reads m.reads) free.reads in
    let first = ap (λ f. size_in f c.args.one.now) reads.same_files in
    let second = ap (λ f. size_in f c.args.two.now) reads.same_files in
    asks-behind _ c.args.folder.now c.check_free.new.folder c.read_fronts.new.folder c.read_fronts.result (omega (arith, first, second)) reads
    (λ files told.
    let told1 = l.reads.same_files ∙ told in
    and_then-Ok _ _ c.in_ok-size.size _ (l.told files told) (and_then-Ok _ _ c.in_ok-other.other _ (m.told files told1) (and_then-Ok _ _ tt _ (free.told files (m.reads.same_files ∙ told1)) refl)))
    c.read_fronts.ensures
