use Rattle.std.proofs.Common.{◌+◌, arith, ◌∙◌}
use Rattle.record_cursor.specs.View.{header_view}
use Rattle.xa_outside.specs.NumberLaws.{PullsAtMost-more, PullsAtMost-trans}
use Rattle.xarch_parts.specs.EndLaws.{IfOk-passed, IsDefined-here, IsDefined-next, Matches-next, Matches-passed}
use Rattle.xarch_parts.specs.FolderLaws.{reads-more, reads-passed, reads-then}
use Rattle.xarch_parts.specs.InputLaws.{length_in-length}
use Rattle.xarch_meanings.specs.Add.{document_size}
use Rattle.xarch_meanings.specs.History.{front_size}
use Rattle.std.proofs.lemmas.Result.{IfOk-weaker}
use Rattle.xarch_words.specs.declared.limits.TheConstants.{DOCUMENT}
use Rattle.xarch_writes.proofs.OnePassEnds.{size-of}
use Rattle.xarch_writes.proofs.add.read_added.Goals as goal

pub returns-in_err-size-clause-reads : goal.returns-in_err-size-clause-reads
returns-in_err-size-clause-reads g c = reads-passed _ _ _ c.from_residual.result _ c.from_residual.ensures.1 (reads-more 0 _ _ _ _ (omega arith) c.in_err-size.ensures.reads)

pub returns-in_err-size-clause-told : goal.returns-in_err-size-clause-told
returns-in_err-size-clause-told g c = λ files told. Matches-passed _ _ c.from_residual.result _ c.from_residual.ensures.1 (IsDefined-here _ _ _ (c.in_err-size.ensures.told files told))

pub returns-in_err-size-clause-front : goal.returns-in_err-size-clause-front
returns-in_err-size-clause-front g c = λ files told. IfOk-passed c.from_residual.result _ _ c.from_residual.ensures.1

pub returns-in_err-size-clause-few : goal.returns-in_err-size-clause-few
returns-in_err-size-clause-few g c = λ files held told is. PullsAtMost-more 0 _ _ _ (omega arith) c.in_err-size.ensures.reads.pulls

pub returns-in_err-size-clause-once : goal.returns-in_err-size-clause-once
returns-in_err-size-clause-once g c = IfOk-passed c.from_residual.result _ _ c.from_residual.ensures.1

pub returns-in_err-size-clause-known : goal.returns-in_err-size-clause-known
returns-in_err-size-clause-known g c = IfOk-passed c.from_residual.result _ _ c.from_residual.ensures.1

pub returns-in_err-doc_size-clause-reads : goal.returns-in_err-doc_size-clause-reads
returns-in_err-doc_size-clause-reads g c = reads-passed _ _ _ c.from_residual-in_err-doc_size.result _ c.from_residual-in_err-doc_size.ensures.1 (reads-then 0 0 _ _ _ _ _ (omega arith) c.in_ok-size.ensures.reads c.in_err-doc_size.ensures.reads)

pub returns-in_err-doc_size-clause-told : goal.returns-in_err-doc_size-clause-told
returns-in_err-doc_size-clause-told g c = λ files told.
    Matches-passed _ _ c.from_residual-in_err-doc_size.result _ c.from_residual-in_err-doc_size.ensures.1
    (IsDefined-next _ _ c.in_ok-size.size _ (c.in_ok-size.ensures.told files told) (IsDefined-here _ _ _ (c.in_err-doc_size.ensures.told files (c.in_ok-size.ensures.reads.same_files ∙ told))))

pub returns-in_err-doc_size-clause-front : goal.returns-in_err-doc_size-clause-front
returns-in_err-doc_size-clause-front g c = λ files told. IfOk-passed c.from_residual-in_err-doc_size.result _ _ c.from_residual-in_err-doc_size.ensures.1

pub returns-in_err-doc_size-clause-few : goal.returns-in_err-doc_size-clause-few
returns-in_err-doc_size-clause-few g c = λ files held told is. PullsAtMost-more (0 + 0) _ _ _ (omega arith) (PullsAtMost-trans 0 0 _ _ _ c.in_ok-size.ensures.reads.pulls c.in_err-doc_size.ensures.reads.pulls)

pub returns-in_err-doc_size-clause-once : goal.returns-in_err-doc_size-clause-once
returns-in_err-doc_size-clause-once g c = IfOk-passed c.from_residual-in_err-doc_size.result _ _ c.from_residual-in_err-doc_size.ensures.1

pub returns-in_err-doc_size-clause-known : goal.returns-in_err-doc_size-clause-known
returns-in_err-doc_size-clause-known g c = IfOk-passed c.from_residual-in_err-doc_size.result _ _ c.from_residual-in_err-doc_size.ensures.1

pub returns-clause-reads : goal.returns-clause-reads
returns-clause-reads g c = let size = c.in_ok-size.ensures.size in
    reads-then 0 (16 + c.in_ok-size.size + DOCUMENT) _ _ _ _ _ (omega (arith, size)) (reads-then 0 0 0 _ _ _ _ (omega arith) c.in_ok-size.ensures.reads c.in_ok-doc_size.ensures.reads) c.read_text.ensures.reads

pub returns-clause-told : goal.returns-clause-told
returns-clause-told g c = λ files told.
    let told1 = c.in_ok-size.ensures.reads.same_files ∙ told in
    let told2 = c.in_ok-doc_size.ensures.reads.same_files ∙ told1 in
    let size = c.in_ok-size.ensures.told files told in
    let doc = c.in_ok-doc_size.ensures.told files told1 in
    Matches-next _ _ _ c.in_ok-size.size c.read_text.result size (Matches-next _ _ _ c.in_ok-doc_size.doc_size c.read_text.result doc (c.read_text.ensures.told files told2 size (length_in-length _ _ _ _ _ doc)))

pub returns-clause-front : goal.returns-clause-front
returns-clause-front g c = λ files told. c.read_text.ensures.front files (c.in_ok-doc_size.ensures.reads.same_files ∙ (c.in_ok-size.ensures.reads.same_files ∙ told)) (c.in_ok-size.ensures.told files told)

pub returns-clause-few : goal.returns-clause-few
returns-clause-few g c = λ files held told is.
    let told1 = c.in_ok-size.ensures.reads.same_files ∙ told in
    let told2 = c.in_ok-doc_size.ensures.reads.same_files ∙ told1 in
    let same = size-of files c.args.doc.now c.in_ok-doc_size.doc_size (c.in_ok-doc_size.ensures.told files told1) in
    let n = 16 + front_size held.rules held.versions + c.in_ok-doc_size.doc_size in
    let all = PullsAtMost-trans (0 + 0) n _ _ _ (PullsAtMost-trans 0 0 _ _ _ c.in_ok-size.ensures.reads.pulls c.in_ok-doc_size.ensures.reads.pulls) (c.read_text.ensures.few files held told2 (c.in_ok-size.ensures.told files told) is) in
    PullsAtMost-more (0 + 0 + n) (16 + front_size held.rules held.versions + document_size files c.args.doc.now) _ _ (omega (arith, same)) all

pub returns-clause-once : goal.returns-clause-once
returns-clause-once g c =
    let size = c.in_ok-size.ensures.size in
    let short = c.in_ok-doc_size.ensures.bound in
    IfOk-weaker c.read_text.result _ _ (λ r h. (
    let fits = h.0 in
    let within = fits.within in
    let n = 16 + (header_view r.0.header).first + c.in_ok-doc_size.doc_size in (
      record { within = omega (arith, size, within); room = fits.room },
      PullsAtMost-more (0 + 0 + n) (16 + (header_view r.0.header).first + DOCUMENT) _ _ (omega (arith, short))
          (PullsAtMost-trans (0 + 0) n _ _ _ (PullsAtMost-trans 0 0 _ _ _ c.in_ok-size.ensures.reads.pulls c.in_ok-doc_size.ensures.reads.pulls) h.1),
    ))) c.read_text.ensures.once

pub returns-clause-known : goal.returns-clause-known
returns-clause-known g c = c.read_text.ensures.known
