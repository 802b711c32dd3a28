use Rattle.std.proofs.Common.{ℕ, ◌+◌, arith, ◌∙◌}
use Rattle.record_cursor.specs.View.{header_view}
use Rattle.xa_outside.specs.NumberLaws.{PullsAtMost-more, PullsAtMost-trans}
use Rattle.xa_outside.specs.Numbers.{Numbers, PullsAtMost}
use Rattle.xarch_words.specs.View.{fault_view}
use Rattle.xarch_parts.specs.EndLaws.{IfOk-passed, IsDefined-here, Matches-passed}
use Rattle.xarch_parts.specs.FolderLaws.{reads-more, reads-passed, reads-then}
use Rattle.xarch_parts.specs.InputLaws.{IsDefined-file}
use Rattle.xarch_parts.specs.Inputs.{file_of}
use Rattle.xarch_parts.specs.Readings.{front_in}
use Rattle.xarch_meanings.specs.History.{front_size}
use Rattle.std.proofs.lemmas.Result.{IfOk-weaker}
use Rattle.xarch_parts.specs.CoreLaws.{within-more}
use Rattle.xarch_reads.proofs.fronts.front_of.Goals as goal

-- a length was asked before
behind-length : (n : ℕ) (a b c : Numbers) → PullsAtMost 0 a b → PullsAtMost n b c → PullsAtMost n a c
behind-length n a b c p q = PullsAtMost-more (0 + n) n a c (omega arith) (PullsAtMost-trans 0 n a b c p q)

pub returns-in_err-size-clause-reads : goal.returns-in_err-size-clause-reads
returns-in_err-size-clause-reads g c = reads-passed _ _ _ c.from_residual.result _ c.from_residual.ensures.1 (reads-more 0 _ _ _ _ (omega arith) c.in_err-size.ensures.reads)

pub returns-in_err-size-clause-told : goal.returns-in_err-size-clause-told
returns-in_err-size-clause-told g c = λ files told.
    let name = c.args.archive.now in
    let v = fault_view c.in_err-size.field-0.0 in
    Matches-passed _ _ c.from_residual.result _ c.from_residual.ensures.1 (IsDefined-here (file_of files name) (front_in name) v (IsDefined-file (file_of files name) v (c.in_err-size.ensures.told files told)))

pub returns-in_err-size-clause-front : goal.returns-in_err-size-clause-front
returns-in_err-size-clause-front g c = λ files told. IfOk-passed c.from_residual.result _ _ c.from_residual.ensures.1

pub returns-in_err-size-clause-once : goal.returns-in_err-size-clause-once
returns-in_err-size-clause-once g c = IfOk-passed c.from_residual.result _ _ c.from_residual.ensures.1

pub returns-in_err-size-clause-few : goal.returns-in_err-size-clause-few
returns-in_err-size-clause-few g c = λ files held told is. PullsAtMost-more 0 _ _ _ (omega arith) c.in_err-size.ensures.reads.pulls

pub returns-clause-reads : goal.returns-clause-reads
returns-clause-reads g c = let size = c.in_ok-size.ensures.size in reads-then 0 (16 + c.in_ok-size.size) _ _ _ _ _ (omega (arith, size)) c.in_ok-size.ensures.reads c.read_front.ensures.reads

pub returns-clause-told : goal.returns-clause-told
returns-clause-told g c = λ files told. c.read_front.ensures.told files (c.in_ok-size.ensures.reads.same_files ∙ told) (c.in_ok-size.ensures.told files told)

pub returns-clause-front : goal.returns-clause-front
returns-clause-front g c = λ files told. c.read_front.ensures.front files (c.in_ok-size.ensures.reads.same_files ∙ told) (c.in_ok-size.ensures.told files told)

pub returns-clause-once : goal.returns-clause-once
returns-clause-once g c =
    IfOk-weaker c.read_front.result _ _ (λ f is. behind-length (16 + (header_view f.header).first) _ _ _ c.in_ok-size.ensures.reads.pulls is) c.read_front.ensures.once

pub returns-clause-few : goal.returns-clause-few
returns-clause-few g c = λ files held told is.
    behind-length (16 + front_size held.rules held.versions) _ _ _ c.in_ok-size.ensures.reads.pulls (c.read_front.ensures.few files held (c.in_ok-size.ensures.reads.same_files ∙ told) (c.in_ok-size.ensures.told files told) is)

pub returns-in_err-size-clause-within : goal.returns-in_err-size-clause-within
returns-in_err-size-clause-within g c = IfOk-passed c.from_residual.result _ _ c.from_residual.ensures.1

pub returns-clause-within : goal.returns-clause-within
returns-clause-within g c = let size = c.in_ok-size.ensures.size in IfOk-weaker c.read_front.result _ _ (λ f is. within-more _ _ f.parts size is) c.read_front.ensures.within
