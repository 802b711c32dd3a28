use Rattle.std.proofs.lemmas.Grind.{common_steps}
use Rattle.std.proofs.Common.{◌<◌, arith}
use Rattle.std.proofs.lemmas.Bool.Decides.{nat_tests}
use Rattle.std.proofs.lemmas.Result.{on_ok_weaker}
use Rattle.timestamp_tree.proofs.Repeated.{copies_behind}
use Rattle.timestamp_tree.proofs.put.+put_copies.Goals as goal

pub returns-clause-ok : goal.returns-clause-ok
returns-clause-ok t c = λ set canonical is.
    let many : 1 < c.args.count = grind (arith, nat_tests) in
    on_ok_weaker c.put_copies-2.result (λ h. copies_behind set c.args.leaf.now c.args.out.now.items c.put_above.new.out.items c.put_copies.new.out.items c.put_copies-2.new.out.items c.args.count c.div_ceil-front.result canonical is many c.div_ceil-front.ensures c.in_ok-put_above.ensures.ok (c.in_ok-put_copies.ensures.ok set canonical is) h) (c.put_copies-2.ensures.ok set canonical is)

pub returns-then-count-eq1-clause-ok : goal.returns-then-count-eq1-clause-ok
returns-then-count-eq1-clause-ok t c = grind (arith, common_steps)

pub returns-then-count-eq1-clause-grows : goal.returns-then-count-eq1-clause-grows
returns-then-count-eq1-clause-grows t c = grind (arith, common_steps)

pub returns-clause-grows : goal.returns-clause-grows
returns-clause-grows t c = grind (arith, common_steps)
