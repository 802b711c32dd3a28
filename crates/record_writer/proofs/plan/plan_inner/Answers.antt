use Rattle.std.proofs.Common.{◌+◌, List, length, refl, ap, ◌∙◌}
use Rattle.version_set.specs.declared.set.VersionSet.{VersionSet}
use Rattle.timestamp_tree.specs.Bytes.{stored}
use Rattle.record_writer.specs.Places.{set_at}
use Rattle.record_writer.proofs.PlanLaws.{inner-joined}
use Rattle.record_writer.proofs.plan.plan_inner.Goals as goal

pub returns-clause-joined : goal.returns-clause-joined
returns-clause-joined c =
    let left = c.args.left in
    let size = c.in_ok-size.ensures ∙ ap (λ (vs : List VersionSet). length (stored (set_at vs c.in_ok-set.set) left.size) + (left.size + c.args.right.size)) c.deref.ensures.value in
    inner-joined c.args.sets.now.items c.unite.new.sets.items c.args.nodes.now.items c.push.new.self.items left c.args.right _ (record { set = c.in_ok-set.set; left = left.size }) c.in_ok-set.ensures.united c.requires.nodes c.unite.ensures.more refl c.in_ok-push.ensures.items refl size
