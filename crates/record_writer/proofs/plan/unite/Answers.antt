use Rattle.std.proofs.Common.{◌≡◌, length, ap, arith}
use Rattle.std.proofs.lemmas.Bool.Decides.{nat_tests}
use Rattle.record_writer.specs.Places.{set_at}
use Rattle.record_writer.proofs.PlanLaws.{same-united, one-united, new-united}
use Rattle.record_writer.proofs.plan.unite.Goals as goal

pub returns-then-one-two-clause-united : goal.returns-then-one-two-clause-united
returns-then-one-two-clause-united c =
    let xs = c.args.sets.now.items in
    let same : c.args.one ≡ c.args.two = grind (arith, nat_tests, c.if-one-two.true) in
    same-united xs c.args.one c.args.two c.requires.one (ap (set_at xs) same)

pub returns-then-is_at-clause-united : goal.returns-then-is_at-clause-united
returns-then-is_at-clause-united c = one-united c.args.sets.now.items c.deref.result.now c.deref-2.result.now c.args.one c.args.two c.args.one c.in_ok-both.both c.in_ok-both.ensures c.deref.ensures.value (c.is_at.ensures c.if-is_at.true) c.deref-2.ensures.value c.requires.one

pub returns-then-is_at-2-clause-united : goal.returns-then-is_at-2-clause-united
returns-then-is_at-2-clause-united c = one-united c.args.sets.now.items c.deref.result.now c.deref-3.result.now c.args.one c.args.two c.args.two c.in_ok-both.both c.in_ok-both.ensures c.deref.ensures.value (c.is_at-2.ensures c.if-is_at-2.true) c.deref-3.ensures.value c.requires.two

pub returns-clause-united : goal.returns-clause-united
returns-clause-united c =
    let at : c.len-at.result ≡ length c.args.sets.now.items = grind (arith, c.len-at.ensures) in
    new-united c.args.sets.now.items c.deref.result.now c.push.new.self.items c.args.one c.args.two c.len-at.result c.in_ok-both.both c.in_ok-both.ensures c.deref.ensures.value c.in_ok-push.ensures.items at
