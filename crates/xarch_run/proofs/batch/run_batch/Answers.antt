use Rattle.std.proofs.Common.{◌≡◌, inl, inr, Bool, true, false, Ok, refl, sym, ap, ◌∙◌, subst, arith, rules}
use Rattle.xarch_words.specs.Lines.{fault_status}
use Rattle.xarch_run.specs.Shown.{Shows}
use Rattle.xarch_run.specs.Taking.{TakesLine}
use Rattle.xarch_run.specs.declared.line.Line.{Line}
use Rattle.xarch_run.proofs.BatchLemmas.{answer-line, answer-next, ends-last, ends-line, ends-next, ends-unread, passed-so-far, reads-last, reads-line, reads-next, so-far-begun, so-far-line}
use Rattle.xarch_run.proofs.SayLemmas.{says-is}
use Rattle.xarch_run.proofs.StaysLemmas.{Stays-none, Stays-trans}
use Rattle.xarch_run.proofs.batch.run_batch.Goals as goal

pub returns-in-Err-clause-ends : goal.returns-in-Err-clause-ends
returns-in-Err-clause-ends g c = λ bytes input. ends-unread _ _ _ _ _ _ bytes _ c.say.result c.say.ensures.later input c.say.ensures.status c.say.ensures.line

pub loop-ended-init : goal.loop-ended-init
loop-ended-init g c =
    record {
      so_far = so-far-begun _ _ _ _ c.in-Ok.lines.feed _ c.in-Ok.ensures.empty c.in-Ok.ensures.budget;
      folder = Stays-none _ _ _ _;
      input_later = omega arith;
      out_later = omega arith;
    }

pub returns-in-Err-next-clause-ends : goal.returns-in-Err-next-clause-ends
returns-in-Err-next-clause-ends g c = λ bytes input.
    ends-next c.in-Err-next.stop _ _ _ _ _ _ _ _ _ _ bytes _ _ _ c.loop-ended.lines c.next.new.self c.say-in-Err-next.result c.loop-ended.invariant.so_far c.in-Err-next.ensures.takes
    (says-is _ _ _ _ _ _ c.fault_of.ensures c.say-in-Err-next.ensures.line) c.say-in-Err-next.ensures.later (c.say-in-Err-next.ensures.status ∙ ap fault_status c.fault_of.ensures) input

pub returns-in-Err-next-clause-read : goal.returns-in-Err-next-clause-read
returns-in-Err-next-clause-read g c = λ bytes input.
    reads-next c.in-Err-next.stop bytes _ _ c.loop-ended.lines c.next.new.self c.say-in-Err-next.result (passed-so-far _ _ _ _ _ _ _ _ _ _ _ c.loop-ended.invariant.so_far bytes input) c.in-Err-next.ensures.takes
    (c.say-in-Err-next.ensures.status ∙ ap fault_status c.fault_of.ensures)

pub returns-in-Err-run_line-clause-ends : goal.returns-in-Err-run_line-clause-ends
returns-in-Err-run_line-clause-ends g c = λ bytes input.
    ends-line c.in-Ok-next.ended _ _ _ _ _ _ _ _ _ _ _ _ bytes _ _ _ c.loop-ended.lines c.next.new.self c.in-Err-run_line.status c.loop-ended.invariant.so_far c.in-Ok-next.ensures.takes
    (λ line shows. c.in-Err-run_line.ensures.runs line (subst (λ (l : Line). Shows l line) (sym c.line.ensures) shows)) c.run_line.ensures.folder.untold c.run_line.ensures.err_later input

pub returns-in-Err-run_line-clause-read : goal.returns-in-Err-run_line-clause-read
returns-in-Err-run_line-clause-read g c = λ bytes input.
    reads-line c.in-Ok-next.ended bytes _ _ c.loop-ended.lines c.next.new.self c.in-Err-run_line.status _ _ _ _ (passed-so-far _ _ _ _ _ _ _ _ _ _ _ c.loop-ended.invariant.so_far bytes input) c.in-Ok-next.ensures.takes c.in-Err-run_line.ensures.status

pub returns-then-not-ended-clause-ends : goal.returns-then-not-ended-clause-ends
returns-then-not-ended-clause-ends g c = λ bytes input.
    let last : c.in-Ok-next.ended ≡ false = search rules in
    let takes = subst (λ (b : Bool). TakesLine c.loop-ended.lines c.next.new.self (g.S.Source.rest c.loop-ended.input) (g.S.Source.rest c.next.new.input) (Ok b)) last c.in-Ok-next.ensures.takes in
    ends-last _ _ _ _ _ _ _ _ _ _ _ _ bytes _ _ _ c.loop-ended.lines c.next.new.self c.loop-ended.invariant.so_far takes
    (λ line shows. c.in_default.ensures.runs line (subst (λ (l : Line). Shows l line) (sym c.line.ensures) shows)) c.run_line.ensures.folder.untold c.run_line.ensures.err_later input

pub returns-then-not-ended-clause-read : goal.returns-then-not-ended-clause-read
returns-then-not-ended-clause-read g c = λ bytes input.
    let last : c.in-Ok-next.ended ≡ false = search rules in
    let takes = subst (λ (b : Bool). TakesLine c.loop-ended.lines c.next.new.self (g.S.Source.rest c.loop-ended.input) (g.S.Source.rest c.next.new.input) (Ok b)) last c.in-Ok-next.ensures.takes in
    reads-last bytes _ _ c.loop-ended.lines c.next.new.self (passed-so-far _ _ _ _ _ _ _ _ _ _ _ c.loop-ended.invariant.so_far bytes input) takes

pub loop-ended-preserved : goal.loop-ended-preserved
loop-ended-preserved g c =
    let more : c.in-Ok-next.ended ≡ true = search rules in
    let takes = subst (λ (b : Bool). TakesLine c.loop-ended.lines c.next.new.self (g.S.Source.rest c.loop-ended.input) (g.S.Source.rest c.next.new.input) (Ok b)) more c.in-Ok-next.ensures.takes in
    record {
      so_far =
          so-far-line _ _ _ _ _ _ _ _ _ _ _ _ _ _ _ c.loop-ended.lines c.next.new.self c.loop-ended.invariant.so_far takes
          (λ line shows. c.in_default.ensures.runs line (subst (λ (l : Line). Shows l line) (sym c.line.ensures) shows)) c.run_line.ensures.folder.untold c.run_line.ensures.err_later;
      folder = Stays-trans _ _ _ _ _ _ c.loop-ended.invariant.folder c.run_line.ensures.folder;
      input_later = (let inputs = c.loop-ended.invariant.input_later in let next = c.next.ensures.later in omega (arith, inputs, next));
      out_later = (let outs = c.loop-ended.invariant.out_later in let next = c.run_line.ensures.out_later in omega (arith, outs, next));
    }

-- ---- the folder

pub returns-in-Err-clause-folder : goal.returns-in-Err-clause-folder
returns-in-Err-clause-folder g c = Stays-none _ _ _ _

pub returns-in-Err-next-clause-folder : goal.returns-in-Err-next-clause-folder
returns-in-Err-next-clause-folder g c = c.loop-ended.invariant.folder

pub returns-in-Err-run_line-clause-folder : goal.returns-in-Err-run_line-clause-folder
returns-in-Err-run_line-clause-folder g c = Stays-trans _ _ _ _ _ _ c.loop-ended.invariant.folder c.run_line.ensures.folder

pub returns-then-not-ended-clause-folder : goal.returns-then-not-ended-clause-folder
returns-then-not-ended-clause-folder g c = Stays-trans _ _ _ _ _ _ c.loop-ended.invariant.folder c.run_line.ensures.folder

-- ---- the answer

pub returns-in-Err-clause-answer : goal.returns-in-Err-clause-answer
returns-in-Err-clause-answer g c = inr (inr (inr (inr (inr c.say.ensures.status))))

pub returns-in-Err-next-clause-answer : goal.returns-in-Err-next-clause-answer
returns-in-Err-next-clause-answer g c =
    answer-next c.in-Err-next.stop _ _ _ _ _ _ _ c.say-in-Err-next.result (c.say-in-Err-next.ensures.status ∙ ap fault_status c.fault_of.ensures) c.loop-ended.invariant.input_later c.in-Err-next.ensures.cause

pub returns-in-Err-run_line-clause-answer : goal.returns-in-Err-run_line-clause-answer
returns-in-Err-run_line-clause-answer g c =
    answer-line _ _ _ _ _ _ _ _ c.in-Err-run_line.status c.loop-ended.invariant.folder.later c.loop-ended.invariant.out_later c.in-Err-run_line.ensures.status

pub returns-then-not-ended-clause-answer : goal.returns-then-not-ended-clause-answer
returns-then-not-ended-clause-answer g c = inl refl

-- ---- counts do not fall

pub returns-in-Err-next-clause-input_later : goal.returns-in-Err-next-clause-input_later
returns-in-Err-next-clause-input_later g c = let inputs = c.loop-ended.invariant.input_later in let next = c.next.ensures.later in omega (arith, inputs, next)

pub returns-in-Err-next-clause-out_later : goal.returns-in-Err-next-clause-out_later
returns-in-Err-next-clause-out_later g c = c.loop-ended.invariant.out_later

pub returns-in-Err-next-clause-err_later : goal.returns-in-Err-next-clause-err_later
returns-in-Err-next-clause-err_later g c = let said = c.loop-ended.invariant.so_far.later in let next = c.say-in-Err-next.ensures.later in omega (arith, said, next)

pub returns-in-Err-run_line-clause-input_later : goal.returns-in-Err-run_line-clause-input_later
returns-in-Err-run_line-clause-input_later g c = let inputs = c.loop-ended.invariant.input_later in let next = c.next.ensures.later in omega (arith, inputs, next)

pub returns-in-Err-run_line-clause-out_later : goal.returns-in-Err-run_line-clause-out_later
returns-in-Err-run_line-clause-out_later g c = let outs = c.loop-ended.invariant.out_later in let next = c.run_line.ensures.out_later in omega (arith, outs, next)

pub returns-in-Err-run_line-clause-err_later : goal.returns-in-Err-run_line-clause-err_later
returns-in-Err-run_line-clause-err_later g c = let said = c.loop-ended.invariant.so_far.later in let next = c.run_line.ensures.err_later in omega (arith, said, next)

pub returns-then-not-ended-clause-input_later : goal.returns-then-not-ended-clause-input_later
returns-then-not-ended-clause-input_later g c = let inputs = c.loop-ended.invariant.input_later in let next = c.next.ensures.later in omega (arith, inputs, next)

pub returns-then-not-ended-clause-out_later : goal.returns-then-not-ended-clause-out_later
returns-then-not-ended-clause-out_later g c = let outs = c.loop-ended.invariant.out_later in let next = c.run_line.ensures.out_later in omega (arith, outs, next)

pub returns-then-not-ended-clause-err_later : goal.returns-then-not-ended-clause-err_later
returns-then-not-ended-clause-err_later g c = let said = c.loop-ended.invariant.so_far.later in let next = c.run_line.ensures.err_later in omega (arith, said, next)
