use Rattle.std.proofs.Common.{◌+◌, arith, ◌∙◌}
use Rattle.record_cursor.specs.View.{header_view}
use Rattle.xarch_parts.specs.EndLaws.{IfOk-passed, IsDefined-here, IsDefined-next, Matches-passed, and_then-Ok}
use Rattle.xarch_parts.specs.FolderLaws.{reads-more, reads-passed, reads-then}
use Rattle.xarch_writes.proofs.rekey.keys_behind.Goals as goal

-- ---- there is no header

pub returns-in_err-front-clause-reads : goal.returns-in_err-front-clause-reads
returns-in_err-front-clause-reads g c = reads-passed _ _ _ c.from_residual.result _ c.from_residual.ensures.1 (reads-more (16 + c.args.size) _ _ _ _ (omega arith) c.in_err-front.ensures.reads)

pub returns-in_err-front-clause-told : goal.returns-in_err-front-clause-told
returns-in_err-front-clause-told g c = λ files told long spec. Matches-passed _ _ c.from_residual.result _ c.from_residual.ensures.1 (IsDefined-here _ _ _ (c.in_err-front.ensures.told files told long))

pub returns-in_err-front-clause-are : goal.returns-in_err-front-clause-are
returns-in_err-front-clause-are g c = λ files told long. IfOk-passed c.from_residual.result _ _ c.from_residual.ensures.1

pub returns-in_err-front-clause-within : goal.returns-in_err-front-clause-within
returns-in_err-front-clause-within g c = IfOk-passed c.from_residual.result _ _ c.from_residual.ensures.1

-- ---- the specification is not read

pub returns-in_err-keys-clause-reads : goal.returns-in_err-keys-clause-reads
returns-in_err-keys-clause-reads g c = let short = c.requires in
    reads-passed _ _ _ c.from_residual-in_err-keys.result _ c.from_residual-in_err-keys.ensures.1 (reads-then (16 + c.args.size) c.args.length _ _ _ _ _ (omega (arith, short)) c.in_ok-front.ensures.reads c.in_err-keys.ensures.reads)

pub returns-in_err-keys-clause-told : goal.returns-in_err-keys-clause-told
returns-in_err-keys-clause-told g c = λ files told long spec.
    let h = header_view c.in_ok-front.front.header in
    Matches-passed _ _ c.from_residual-in_err-keys.result _ c.from_residual-in_err-keys.ensures.1
    (IsDefined-next _ _ (h.rules, h.versions) _ (c.in_ok-front.ensures.told files told long) (c.in_err-keys.ensures.told files (c.in_ok-front.ensures.reads.same_files ∙ told) spec))

pub returns-in_err-keys-clause-are : goal.returns-in_err-keys-clause-are
returns-in_err-keys-clause-are g c = λ files told long. IfOk-passed c.from_residual-in_err-keys.result _ _ c.from_residual-in_err-keys.ensures.1

pub returns-in_err-keys-clause-within : goal.returns-in_err-keys-clause-within
returns-in_err-keys-clause-within g c = IfOk-passed c.from_residual-in_err-keys.result _ _ c.from_residual-in_err-keys.ensures.1

-- ---- both are

pub returns-clause-reads : goal.returns-clause-reads
returns-clause-reads g c = let short = c.requires in reads-then (16 + c.args.size) c.args.length _ _ _ _ _ (omega (arith, short)) c.in_ok-front.ensures.reads c.in_ok-keys.ensures.reads

pub returns-clause-told : goal.returns-clause-told
returns-clause-told g c = λ files told long spec.
    let h = header_view c.in_ok-front.front.header in
    and_then-Ok _ _ (h.rules, h.versions) _ (c.in_ok-front.ensures.told files told long) (c.in_ok-keys.ensures.told files (c.in_ok-front.ensures.reads.same_files ∙ told) spec)

pub returns-clause-are : goal.returns-clause-are
returns-clause-are g c = λ files told long. (c.in_ok-front.ensures.front files told long).0

pub returns-clause-within : goal.returns-clause-within
returns-clause-within g c = c.in_ok-front.ensures.within
