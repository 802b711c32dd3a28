use Rattle.std.proofs.Common.{◌+◌, Err, refl, ◌∙◌, arith}
use Rattle.xa_outside.specs.NumberLaws.{PullsAtMost-more, PullsAtMost-trans}
use Rattle.record_cursor.specs.View.{header_view}
use Rattle.xarch_parts.specs.EndLaws.{IsDefined-here, IsDefined-next, and_then-Ok}
use Rattle.xarch_parts.specs.FolderLaws.{reads-inside, reads-more, reads-then}
use Rattle.xarch_copies.proofs.Making.{asks-failed, stands-before}
use Rattle.xarch_copies.proofs.join.read_fronts.Goals as goal

-- no header stands in front of the first
pub returns-in_err-first : goal.returns-in_err-first
returns-in_err-first g c =
    let most = c.requires.first.most in
    let e = c.in_err-first in
    asks-failed c.args.folder.now c.read_front.new.folder c.from_residual.result e.field-0.0 c.from_residual.ensures.1 (reads-more (16 + c.args.size) _ _ _ _ (omega (arith, most)) e.ensures.reads)
    (λ files told. IsDefined-here _ _ _ (e.ensures.told files told (c.requires.first.is files told)))

-- nor of the second
pub returns-in_err-second : goal.returns-in_err-second
returns-in_err-second g c =
    let most = c.requires.first.most in
    let more = c.requires.second.most in
    let r = c.from_residual-in_err-second in
    let first = c.in_ok-first.ensures in
    let h = header_view c.in_ok-first.first.header in
    let e = c.in_err-second in
    asks-failed c.args.folder.now c.read_front-2.new.folder r.result e.field-0.0 r.ensures.1 (reads-then (16 + c.args.size) (16 + c.args.other) _ _ _ _ _ (omega (arith, most, more)) first.reads e.ensures.reads)
    (λ files told.
    IsDefined-next _ _ (h.rules, h.versions) _ (first.told files told (c.requires.first.is files told)) (IsDefined-here _ _ _ (e.ensures.told files (first.reads.same_files ∙ told) (c.requires.second.is files told))))

-- they do not go together
pub returns-in-Err : goal.returns-in-Err
returns-in-Err g c =
    let most = c.requires.first.most in
    let more = c.requires.second.most in
    let first = c.in_ok-first.ensures in
    let second = c.in_ok-second.ensures in
    let h = header_view c.in_ok-first.first.header in
    let k = header_view c.in_ok-second.second.header in
    let e = c.in-Err in
    asks-failed c.args.folder.now c.read_front-2.new.folder (Err e.fault) e.fault refl
    (reads-inside _ _ _ _ (reads-then (16 + c.args.size) (16 + c.args.other) _ _ _ _ _ (omega (arith, most, more)) first.reads second.reads) e.ensures.cause)
    (λ files told.
    IsDefined-next _ _ (h.rules, h.versions) _ (first.told files told (c.requires.first.is files told))
    (IsDefined-next _ _ (k.rules, k.versions) _ (second.told files (first.reads.same_files ∙ told) (c.requires.second.is files told)) (IsDefined-here _ _ _ e.ensures.told)))

pub returns-in-Ok : goal.returns-in-Ok
returns-in-Ok g c =
    let most = c.requires.first.most in
    let more = c.requires.second.most in
    let first = c.in_ok-first.ensures in
    let second = c.in_ok-second.ensures in
    let one = c.in_ok-first.first in
    let two = c.in_ok-second.second in
    let h = header_view one.header in
    let k = header_view two.header in
    let n = 16 + h.first in
    let m = 16 + k.first in
    record {
      reads = reads-then (16 + c.args.size) (16 + c.args.other) _ _ _ _ _ (omega (arith, most, more)) first.reads second.reads;
      told = λ files told.
          and_then-Ok _ _ (h.rules, h.versions) _ (first.told files told (c.requires.first.is files told))
          (and_then-Ok _ _ (k.rules, k.versions) _ (second.told files (first.reads.same_files ∙ told) (c.requires.second.is files told)) (and_then-Ok _ _ tt _ c.in-Ok.ensures.told refl));
      found = record {
        first = stands-before (g.F.Folder.files c.args.folder.now) c.args.one.now c.args.size one most first.within (λ files told. first.front files told (c.requires.first.is files told));
        second = stands-before (g.F.Folder.files c.args.folder.now) c.args.two.now c.args.other two more second.within (λ files told. second.front files (first.reads.same_files ∙ told) (c.requires.second.is files told));
        together = c.in-Ok.ensures.together;
      };
      once = PullsAtMost-more (n + m) (32 + h.first + k.first) _ _ (omega arith) (PullsAtMost-trans n m _ _ _ first.once second.once);
    }

pub check_joinable-requires : goal.check_joinable-requires
check_joinable-requires g c = record { first = c.in_ok-first.first.heads; second = c.in_ok-second.second.heads }
