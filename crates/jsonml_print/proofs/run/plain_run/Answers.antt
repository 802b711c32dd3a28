use Rattle.jsonml_print.proofs.Runs.{run_within, run_plain, run_ends}
use Rattle.jsonml_print.proofs.run.plain_run.Goals as goal

pub returns-then-bytes-lt16-clause-within : goal.returns-then-bytes-lt16-clause-within
returns-then-bytes-lt16-clause-within c = run_within c.args.bytes.now c.run_below_16.result c.run_below_16.ensures

pub returns-then-bytes-lt16-clause-plain : goal.returns-then-bytes-lt16-clause-plain
returns-then-bytes-lt16-clause-plain c = run_plain c.args.bytes.now c.run_below_16.result c.run_below_16.ensures

pub returns-then-bytes-lt16-clause-ends : goal.returns-then-bytes-lt16-clause-ends
returns-then-bytes-lt16-clause-ends c = run_ends c.args.bytes.now c.run_below_16.result c.type_inv.bytes c.run_below_16.ensures

pub returns-else-bytes-lt16-clause-within : goal.returns-else-bytes-lt16-clause-within
returns-else-bytes-lt16-clause-within c = run_within c.args.bytes.now c.run_from_16.result c.run_from_16.ensures

pub returns-else-bytes-lt16-clause-plain : goal.returns-else-bytes-lt16-clause-plain
returns-else-bytes-lt16-clause-plain c = run_plain c.args.bytes.now c.run_from_16.result c.run_from_16.ensures

pub returns-else-bytes-lt16-clause-ends : goal.returns-else-bytes-lt16-clause-ends
returns-else-bytes-lt16-clause-ends c = run_ends c.args.bytes.now c.run_from_16.result c.type_inv.bytes c.run_from_16.ensures
