use Rattle.std.proofs.Common.{refl}
use Rattle.record_writer.proofs.PlanLaws.{leaf-planned}
use Rattle.record_writer.proofs.plan.plan_leaf.Goals as goal

pub returns : goal.returns
returns c = leaf-planned c.args.sets.now c.args.nodes.now.items c.push.new.self.items c.args.place (record { set = c.args.place; left = 0 }) (record { set = c.args.place; size = c.own_size-size.result }) c.requires.known c.requires.nodes refl refl c.in_ok-push.ensures.items refl (c.own_size-size.ensures 0)
