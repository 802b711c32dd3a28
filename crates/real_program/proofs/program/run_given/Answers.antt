use Rattle.real_program.proofs.StatusLemmas.{answer-is}
use Rattle.real_program.proofs.program.run_given.Goals as goal

pub returns-clause-ran : goal.returns-clause-ran
returns-clause-ran g c =
    let e = c.run.ensures in
    record {
      batch_ends = e.batch;
      did = e.did;
      tried = λ files other. (e.step other).tried files;
      batch_answer = e.batch_answer;
      said = λ other. (let k = e.step other in record { fault = k.ended; status = k.status; line = k.line });
      gained = λ other. (e.step other).gained;
      nothing = λ other. (e.step other).nothing;
      usage_only = e.usage;
      folder_fault = e.folder_fault;
      out_fault = e.out_fault;
      input_fault = e.input_fault;
      kept = λ other. (e.step other).refused;
      untold = e.untold;
    }

pub returns-clause-status : goal.returns-clause-status
returns-clause-status g c = answer-is _ _ _ _ _ _ _ _ _ _ _ _ (λ other. (let k = c.run.ensures.step other in record { fault = k.ended; status = k.status; line = k.line })) c.run.ensures.batch_answer
