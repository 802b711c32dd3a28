use Rattle.std.proofs.Common.{arith, refl}
use Rattle.version_set.proofs.Ends.{shares_some, shares_none, end_positive}
use Rattle.version_set.proofs.pairs.put_common.Goals as goal

pub returns-in_ok-push : goal.returns-in_ok-push
returns-in_ok-push c =
    let some = end_positive c.args.both.now.items c.requires.canonical in
    shares_some c.args.both.now.items c.push.new.self.items c.args.our c.args.their (c.max-from.result, c.min-to.result) c.requires.canonical
    (omega (arith, c.requires.behind)) c.max-from.ensures c.min-to.ensures (omega (arith, c.requires.behind)) c.if-from-to.true c.in_ok-push.ensures.ok

pub returns-else-from-to : goal.returns-else-from-to
returns-else-from-to c = shares_none c.args.both.now.items c.args.both.now.items c.args.our c.args.their c.requires.canonical (omega (arith, c.if-from-to.false)) refl
