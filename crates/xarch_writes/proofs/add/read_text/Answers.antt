use Rattle.std.proofs.Common.{Ok, ◌+◌, refl, arith, ◌∙◌}
use Rattle.record_cursor.specs.View.{header_view}
use Rattle.xa_outside.specs.NumberLaws.{PullsAtMost-more, PullsAtMost-trans}
use Rattle.xarch_words.specs.View.{fault_view}
use Rattle.xarch_parts.specs.Inputs.{file_of}
use Rattle.xarch_parts.specs.EndLaws.{IfOk-passed, IsDefined-here, IsDefined-next, Matches-passed, and_then-Ok}
use Rattle.xarch_parts.specs.FolderLaws.{reads-more, reads-passed, reads-then}
use Rattle.xarch_meanings.specs.History.{front_size}
use Rattle.xarch_writes.proofs.add.read_text.Goals as goal

pub returns-in_err-front-clause-reads : goal.returns-in_err-front-clause-reads
returns-in_err-front-clause-reads g c = reads-passed _ _ _ c.from_residual.result _ c.from_residual.ensures.1 (reads-more (16 + c.args.size) _ _ _ _ (omega arith) c.in_err-front.ensures.reads)

pub returns-in_err-front-clause-told : goal.returns-in_err-front-clause-told
returns-in_err-front-clause-told g c = λ files told long doc. Matches-passed _ _ c.from_residual.result _ c.from_residual.ensures.1 (IsDefined-here _ _ _ (c.in_err-front.ensures.told files told long))

pub returns-in_err-front-clause-front : goal.returns-in_err-front-clause-front
returns-in_err-front-clause-front g c = λ files told long. IfOk-passed c.from_residual.result _ _ c.from_residual.ensures.1

pub returns-in_err-front-clause-few : goal.returns-in_err-front-clause-few
returns-in_err-front-clause-few g c = λ files held told long is. PullsAtMost-more (16 + front_size held.rules held.versions) _ _ _ (omega arith) (c.in_err-front.ensures.few files held told long is)

pub returns-in_err-front-clause-once : goal.returns-in_err-front-clause-once
returns-in_err-front-clause-once g c = IfOk-passed c.from_residual.result _ _ c.from_residual.ensures.1

pub returns-in_err-front-clause-known : goal.returns-in_err-front-clause-known
returns-in_err-front-clause-known g c = IfOk-passed c.from_residual.result _ _ c.from_residual.ensures.1

pub returns-in_err-text-clause-reads : goal.returns-in_err-text-clause-reads
returns-in_err-text-clause-reads g c = let short = c.requires in
    reads-passed _ _ _ c.from_residual-in_err-text.result _ c.from_residual-in_err-text.ensures.1 (reads-then (16 + c.args.size) c.args.doc_size _ _ _ _ _ (omega (arith, short)) c.in_ok-front.ensures.reads c.in_err-text.ensures.reads)

pub returns-in_err-text-clause-told : goal.returns-in_err-text-clause-told
returns-in_err-text-clause-told g c = λ files told long doc.
    let h = header_view c.in_ok-front.front.header in
    Matches-passed _ _ c.from_residual-in_err-text.result _ c.from_residual-in_err-text.ensures.1
    (IsDefined-next _ _ (h.rules, h.versions) _ (c.in_ok-front.ensures.told files told long) (IsDefined-here (file_of files c.args.doc.now) (λ bytes. Ok ((h.rules, h.versions), bytes)) (fault_view c.in_err-text.field-0.0) (c.in_err-text.ensures.told files (c.in_ok-front.ensures.reads.same_files ∙ told) doc)))

pub returns-in_err-text-clause-front : goal.returns-in_err-text-clause-front
returns-in_err-text-clause-front g c = λ files told long. IfOk-passed c.from_residual-in_err-text.result _ _ c.from_residual-in_err-text.ensures.1

pub returns-in_err-text-clause-few : goal.returns-in_err-text-clause-few
returns-in_err-text-clause-few g c = λ files held told long is. PullsAtMost-trans (16 + front_size held.rules held.versions) c.args.doc_size _ _ _ (c.in_ok-front.ensures.few files held told long is) c.in_err-text.ensures.reads.pulls

pub returns-in_err-text-clause-once : goal.returns-in_err-text-clause-once
returns-in_err-text-clause-once g c = IfOk-passed c.from_residual-in_err-text.result _ _ c.from_residual-in_err-text.ensures.1

pub returns-in_err-text-clause-known : goal.returns-in_err-text-clause-known
returns-in_err-text-clause-known g c = IfOk-passed c.from_residual-in_err-text.result _ _ c.from_residual-in_err-text.ensures.1

pub returns-clause-reads : goal.returns-clause-reads
returns-clause-reads g c = let short = c.requires in reads-then (16 + c.args.size) c.args.doc_size _ _ _ _ _ (omega (arith, short)) c.in_ok-front.ensures.reads c.in_ok-text.ensures.reads

pub returns-clause-told : goal.returns-clause-told
returns-clause-told g c = λ files told long doc.
    let h = header_view c.in_ok-front.front.header in
    and_then-Ok _ _ (h.rules, h.versions) _ (c.in_ok-front.ensures.told files told long) (and_then-Ok (file_of files c.args.doc.now) (λ bytes. Ok ((h.rules, h.versions), bytes)) c.in_ok-text.text.items _ (c.in_ok-text.ensures.told files (c.in_ok-front.ensures.reads.same_files ∙ told) doc) refl)

pub returns-clause-front : goal.returns-clause-front
returns-clause-front g c = c.in_ok-front.ensures.front

pub returns-clause-few : goal.returns-clause-few
returns-clause-few g c = λ files held told long is. PullsAtMost-trans (16 + front_size held.rules held.versions) c.args.doc_size _ _ _ (c.in_ok-front.ensures.few files held told long is) c.in_ok-text.ensures.reads.pulls

pub returns-clause-once : goal.returns-clause-once
returns-clause-once g c = (c.in_ok-front.ensures.within, PullsAtMost-trans (16 + (header_view c.in_ok-front.front.header).first) c.args.doc_size _ _ _ c.in_ok-front.ensures.once c.in_ok-text.ensures.reads.pulls)

pub returns-clause-known : goal.returns-clause-known
returns-clause-known g c = (let short = c.requires in let held = c.in_ok-text.ensures.short in omega (arith, short, held))
