use Rattle.std.proofs.Common.{ap, sym, ◌∙◌, arith}
use Rattle.xarch_words.specs.Commands.{command_of}
use Rattle.xarch_words.specs.View.{words_view}
use Rattle.xarch_meanings.specs.Ran.{status_after}
use Rattle.xarch_meanings.specs.Step.{alone}
use Rattle.xarch_run.specs.Batch.{scene}
use Rattle.xarch_run.specs.Calls.{call_of}
use Rattle.xarch_run.proofs.BatchFronts.{batch-did}
use Rattle.xarch_run.proofs.CallLemmas.{single-did}
use Rattle.xarch_run.proofs.CommandLemmas.{answer-calm, answer-folder, answer-input, answer-out, answer-words, batch-none, fails, holds, none-alone}
use Rattle.xarch_run.proofs.Running.{folder_fault-caused, out_fault-caused, status_after-input}
use Rattle.xarch_run.proofs.Statuses.{end-usage}
use Rattle.xarch_run.proofs.program.run.Goals as goal

-- ---- a batch

pub returns-then-is_batch-clause-step : goal.returns-then-is_batch-clause-step
returns-then-is_batch-clause-step g c = λ other. absurd (other (holds _ _ c.if-is_batch.true c.is_batch.ensures))

pub returns-then-is_batch-clause-input : goal.returns-then-is_batch-clause-input
returns-then-is_batch-clause-input g c = λ other. absurd (other (holds _ _ c.if-is_batch.true c.is_batch.ensures))

pub returns-then-is_batch-clause-batch : goal.returns-then-is_batch-clause-batch
returns-then-is_batch-clause-batch g c = λ bytes _ input. c.run_batch.ensures.ends bytes input

pub returns-then-is_batch-clause-batch_complete : goal.returns-then-is_batch-clause-batch_complete
returns-then-is_batch-clause-batch_complete g c = λ bytes _ input few folder in_ out.
    let read = c.run_batch.ensures.read bytes input in
    answer-calm _ _ _ _ _ _ c.run_batch.result c.run_batch.ensures.answer folder in_ out (λ past. omega (arith, few, read.past past))

pub returns-then-is_batch-clause-batch_reads : goal.returns-then-is_batch-clause-batch_reads
returns-then-is_batch-clause-batch_reads g c = λ bytes _ input. c.run_batch.ensures.read bytes input

pub returns-then-is_batch-clause-did : goal.returns-then-is_batch-clause-did
returns-then-is_batch-clause-did g c = λ before now bytes told after input.
    let many = holds _ _ c.if-is_batch.true c.is_batch.ensures in
    batch-did (scene _ _ _ _ _ _ _ _) before now (call_of (words_view c.args.words.now) bytes c.run_batch.result) _ told after many (c.run_batch.ensures.ends bytes (input many))

pub returns-then-is_batch-clause-usage : goal.returns-then-is_batch-clause-usage
returns-then-is_batch-clause-usage g c =
    (λ two. absurd (answer-words _ _ _ _ _ _ c.run_batch.result c.run_batch.ensures.answer two), λ none. absurd (batch-none _ (holds _ _ c.if-is_batch.true c.is_batch.ensures) none))

pub returns-then-is_batch-clause-folder_fault : goal.returns-then-is_batch-clause-folder_fault
returns-then-is_batch-clause-folder_fault g c = answer-folder _ _ _ _ _ _ c.run_batch.result c.run_batch.ensures.answer

pub returns-then-is_batch-clause-out_fault : goal.returns-then-is_batch-clause-out_fault
returns-then-is_batch-clause-out_fault g c = answer-out _ _ _ _ _ _ c.run_batch.result c.run_batch.ensures.answer

pub returns-then-is_batch-clause-input_fault : goal.returns-then-is_batch-clause-input_fault
returns-then-is_batch-clause-input_fault g c = λ fault.
    (holds _ _ c.if-is_batch.true c.is_batch.ensures, answer-input _ _ _ _ _ _ c.run_batch.result c.run_batch.ensures.answer fault)

pub returns-then-is_batch-clause-told : goal.returns-then-is_batch-clause-told
returns-then-is_batch-clause-told g c = c.run_batch.ensures.folder.told

pub returns-then-is_batch-clause-untold : goal.returns-then-is_batch-clause-untold
returns-then-is_batch-clause-untold g c = c.run_batch.ensures.folder.untold

pub returns-then-is_batch-clause-draft_untold : goal.returns-then-is_batch-clause-draft_untold
returns-then-is_batch-clause-draft_untold g c = c.run_batch.ensures.folder.draft_untold

pub returns-then-is_batch-clause-folder_later : goal.returns-then-is_batch-clause-folder_later
returns-then-is_batch-clause-folder_later g c = c.run_batch.ensures.folder.later

-- ---- any other command

pub returns-else-is_batch-clause-step : goal.returns-else-is_batch-clause-step
returns-else-is_batch-clause-step g c = λ _. c.take_step.ensures.step

pub returns-else-is_batch-clause-batch : goal.returns-else-is_batch-clause-batch
returns-else-is_batch-clause-batch g c = λ bytes is. absurd (fails _ _ c.if-is_batch.false c.is_batch.ensures is)

pub returns-else-is_batch-clause-batch_complete : goal.returns-else-is_batch-clause-batch_complete
returns-else-is_batch-clause-batch_complete g c = λ bytes is. absurd (fails _ _ c.if-is_batch.false c.is_batch.ensures is)

pub returns-else-is_batch-clause-batch_answer : goal.returns-else-is_batch-clause-batch_answer
returns-else-is_batch-clause-batch_answer g c = λ is. absurd (fails _ _ c.if-is_batch.false c.is_batch.ensures is)

pub returns-else-is_batch-clause-batch_reads : goal.returns-else-is_batch-clause-batch_reads
returns-else-is_batch-clause-batch_reads g c = λ bytes is. absurd (fails _ _ c.if-is_batch.false c.is_batch.ensures is)

pub returns-else-is_batch-clause-did : goal.returns-else-is_batch-clause-did
returns-else-is_batch-clause-did g c = λ before now bytes told after _.
    let k = c.take_step.ensures.step in
    single-did before now (call_of (words_view c.args.words.now) bytes c.take_step.result) _ _ _ _ _ _ _ after (fails _ _ c.if-is_batch.false c.is_batch.ensures) (k.tried before told) (λ other. k.refused other ∙ told)

pub returns-else-is_batch-clause-usage : goal.returns-else-is_batch-clause-usage
returns-else-is_batch-clause-usage g c =
    let k = c.take_step.ensures.step in
    (λ two. none-alone (command_of (words_view c.args.words.now)) (k.usage.0 (end-usage k.ended (sym k.status ∙ two))) (fails _ _ c.if-is_batch.false c.is_batch.ensures), λ none. k.status ∙ ap status_after (k.usage.1 (ap alone none)))

pub returns-else-is_batch-clause-folder_fault : goal.returns-else-is_batch-clause-folder_fault
returns-else-is_batch-clause-folder_fault g c = λ is. (let k = c.take_step.ensures.step in folder_fault-caused _ _ _ _ k.ended k.cause (sym k.status ∙ is))

pub returns-else-is_batch-clause-out_fault : goal.returns-else-is_batch-clause-out_fault
returns-else-is_batch-clause-out_fault g c = λ is. (let k = c.take_step.ensures.step in out_fault-caused _ _ _ _ k.ended k.cause (sym k.status ∙ is))

pub returns-else-is_batch-clause-input_fault : goal.returns-else-is_batch-clause-input_fault
returns-else-is_batch-clause-input_fault g c = λ is. (let k = c.take_step.ensures.step in absurd (status_after-input _ _ _ _ k.ended k.cause (sym k.status ∙ is)))

pub returns-else-is_batch-clause-told : goal.returns-else-is_batch-clause-told
returns-else-is_batch-clause-told g c = c.take_step.ensures.step.told

pub returns-else-is_batch-clause-untold : goal.returns-else-is_batch-clause-untold
returns-else-is_batch-clause-untold g c = c.take_step.ensures.step.untold

pub returns-else-is_batch-clause-draft_untold : goal.returns-else-is_batch-clause-draft_untold
returns-else-is_batch-clause-draft_untold g c = c.take_step.ensures.step.draft_untold

pub returns-else-is_batch-clause-folder_later : goal.returns-else-is_batch-clause-folder_later
returns-else-is_batch-clause-folder_later g c = c.take_step.ensures.step.folder_later

pub returns-else-is_batch-clause-out_later : goal.returns-else-is_batch-clause-out_later
returns-else-is_batch-clause-out_later g c = c.take_step.ensures.step.out_later

pub returns-else-is_batch-clause-err_later : goal.returns-else-is_batch-clause-err_later
returns-else-is_batch-clause-err_later g c = c.take_step.ensures.step.err_later
