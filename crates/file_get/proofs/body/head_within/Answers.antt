use Rattle.file_get.proofs.AltHeads.{alt-head-is}
use Rattle.file_get.proofs.body.head_within.Goals as goal

pub returns-clause-is : goal.returns-clause-is
returns-clause-is c =
    let kind = c.in_ok-kind.ensures.next in
    let size = c.in_ok-size.ensures.next in
    let flag = c.in_ok-flag.ensures.next in
    alt-head-is c.args.head.now c.in_ok-kind.kind c.in_ok-size.size c.in_ok-flag.flag _ _ _ c.in_ok-kind.ensures.found c.in_ok-size.ensures.found c.in_ok-flag.ensures.found
    c.if-kind-ne-ALT.false c.if-flag-gt1.false c.if-size-lt1.false kind.0 size.0 flag.0
