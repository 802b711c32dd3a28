use Rattle.file_get.proofs.AltHeads.{count-is}
use Rattle.file_get.proofs.body.count_within.Goals as goal

pub returns-clause-is : goal.returns-clause-is
returns-clause-is c = (let next = c.in_ok-count.ensures.next in count-is c.args.front.now c.in_ok-count.count _ c.in_ok-count.ensures.found next.0)
