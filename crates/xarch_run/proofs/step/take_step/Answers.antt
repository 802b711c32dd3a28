use Rattle.xarch_words.specs.View.{words_view}
use Rattle.xarch_parts.specs.Ends.{fault_of}
use Rattle.xarch_run.proofs.StepLemmas.{step-taken}
use Rattle.xarch_run.proofs.step.take_step.Goals as goal

pub returns : goal.returns
returns g c =
    let f = g.F.Folder in
    let o = g.O.Sink in
    let e = g.E.Sink in
    record {
      step =
          step-taken f.files f.draft f.numbers f.faults o.taken o.faults e.taken e.faults (words_view c.args.words.now) _ _ _ _ _ _
          c.commands_take_one_step.ensures.outcome c.commands_take_one_step.ensures.step c.what_should_succeed_is_not_refused.ensures.never c.what_should_succeed_is_not_refused.ensures.single
          (fault_of c.command_words-ended.result) c.command_words-ended.ensures.obeys c.command_words-ended.ensures.untouched c.finish.ensures.line c.finish.ensures.later c.finish.result c.finish.ensures.status;
    }
