use Rattle.std.proofs.Common.{Ok, ap, arith}
use Rattle.record_cursor.specs.View.{header_view}
use Rattle.xarch_words.specs.View.{fault_view}
use Rattle.xarch_parts.specs.EndLaws.{IfOk-passed, IsDefined-here, IsDefined-next, Matches-passed, and_then-Ok}
use Rattle.xarch_parts.specs.FolderLaws.{reads-inside, reads-passed}
use Rattle.xarch_reads.proofs.PathEnds.{beside}
use Rattle.xarch_meanings.specs.History.{labels_of}
use Rattle.xarch_reads.proofs.asked.read_asked.Goals as goal

-- ---- no header is read

pub returns-in_err-front-clause-header : goal.returns-in_err-front-clause-header
returns-in_err-front-clause-header g c = IfOk-passed c.from_residual.result _ _ c.from_residual.ensures.1

pub returns-in_err-front-clause-reads : goal.returns-in_err-front-clause-reads
returns-in_err-front-clause-reads g c = reads-passed _ _ _ c.from_residual.result _ c.from_residual.ensures.1 c.in_err-front.ensures.reads

pub returns-in_err-front-clause-told : goal.returns-in_err-front-clause-told
returns-in_err-front-clause-told g c = λ files told. Matches-passed _ _ c.from_residual.result _ c.from_residual.ensures.1 (IsDefined-here _ _ _ (c.in_err-front.ensures.told files told))

pub returns-in_err-front-clause-front : goal.returns-in_err-front-clause-front
returns-in_err-front-clause-front g c = λ files told. IfOk-passed c.from_residual.result _ _ c.from_residual.ensures.1

pub returns-in_err-front-clause-once : goal.returns-in_err-front-clause-once
returns-in_err-front-clause-once g c = IfOk-passed c.from_residual.result _ _ c.from_residual.ensures.1

pub returns-in_err-front-clause-few : goal.returns-in_err-front-clause-few
returns-in_err-front-clause-few g c = c.in_err-front.ensures.few

-- ---- the path spells no labels

pub returns-in_err-labels-clause-header : goal.returns-in_err-labels-clause-header
returns-in_err-labels-clause-header g c = IfOk-passed c.from_residual-in_err-labels.result _ _ c.from_residual-in_err-labels.ensures.1

pub returns-in_err-labels-clause-reads : goal.returns-in_err-labels-clause-reads
returns-in_err-labels-clause-reads g c = reads-passed _ _ _ c.from_residual-in_err-labels.result _ c.from_residual-in_err-labels.ensures.1 (reads-inside _ _ _ _ c.in_ok-front.ensures.reads c.in_err-labels.ensures.cause)

pub returns-in_err-labels-clause-told : goal.returns-in_err-labels-clause-told
returns-in_err-labels-clause-told g c = λ files told.
    let h = header_view c.in_ok-front.front.header in
    let v = fault_view c.in_err-labels.field-0.0 in
    Matches-passed _ _ c.from_residual-in_err-labels.result _ c.from_residual-in_err-labels.ensures.1
    (IsDefined-next _ _ (h.rules, h.versions) v (c.in_ok-front.ensures.told files told) (IsDefined-here (labels_of h.rules c.args.path.now) (λ ls. Ok ((h.rules, h.versions), ls)) v c.in_err-labels.ensures.told))

pub returns-in_err-labels-clause-front : goal.returns-in_err-labels-clause-front
returns-in_err-labels-clause-front g c = λ files told. IfOk-passed c.from_residual-in_err-labels.result _ _ c.from_residual-in_err-labels.ensures.1

pub returns-in_err-labels-clause-once : goal.returns-in_err-labels-clause-once
returns-in_err-labels-clause-once g c = IfOk-passed c.from_residual-in_err-labels.result _ _ c.from_residual-in_err-labels.ensures.1

pub returns-in_err-labels-clause-few : goal.returns-in_err-labels-clause-few
returns-in_err-labels-clause-few g c = c.in_ok-front.ensures.few

-- ---- both are read

pub returns-clause-header : goal.returns-clause-header
returns-clause-header g c = c.in_ok-front.front.heads

pub returns-clause-reads : goal.returns-clause-reads
returns-clause-reads g c = c.in_ok-front.ensures.reads

pub returns-clause-told : goal.returns-clause-told
returns-clause-told g c = λ files told.
    let h = header_view c.in_ok-front.front.header in
    and_then-Ok _ _ (h.rules, h.versions) _ (c.in_ok-front.ensures.told files told) (ap (beside (h.rules, h.versions)) c.in_ok-labels.ensures.told)

pub returns-clause-front : goal.returns-clause-front
returns-clause-front g c = λ files told. (c.in_ok-front.ensures.front files told).1

pub returns-clause-once : goal.returns-clause-once
returns-clause-once g c = let core = c.in_ok-front.front.core in let in_all = c.in_ok-front.ensures.within.within in (omega (arith, core, in_all), c.in_ok-front.ensures.once)

pub returns-clause-few : goal.returns-clause-few
returns-clause-few g c = c.in_ok-front.ensures.few
