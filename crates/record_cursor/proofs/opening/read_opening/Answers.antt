use Rattle.std.proofs.Common.{drop}
use Rattle.record_cursor.proofs.Items.{opening-next}
use Rattle.record_cursor.proofs.opening.read_opening.Goals as goal

pub returns-in-Err-clause-only : goal.returns-in-Err-clause-only
returns-in-Err-clause-only g c = λ bytes rest i tells e. (let n = opening-next (drop c.args.at bytes) rest i e in c.in-Err.ensures.only bytes rest i n.0 tells n.1)

pub returns-in-Some-clause-only : goal.returns-in-Some-clause-only
returns-in-Some-clause-only g c = λ bytes rest i tells e. (let n = opening-next (drop c.args.at bytes) rest i e in c.in-Ok.ensures.only bytes rest i n.0 tells n.1)

pub returns-in-None-clause-only : goal.returns-in-None-clause-only
returns-in-None-clause-only g c = λ bytes rest i tells e. (let n = opening-next (drop c.args.at bytes) rest i e in c.in-Ok.ensures.only bytes rest i n.0 tells n.1)
