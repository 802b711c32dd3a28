use Rattle.std.proofs.Common.{◌≡◌, ℕ, Some, sym, subst}
use Rattle.std.specs.Option.{option_map}
use Rattle.timestamp_tree.specs.Reading.{some_stored_at}
use Rattle.timestamp_tree.specs.Probes.{said_of}
use Rattle.timestamp_tree.proofs.Probed.{node_said, node_unsaid}
use Rattle.timestamp_tree.proofs.probe.probe_of.Goals as goal

pub returns-in_default-clause-told : goal.returns-in_default-clause-told
returns-in_default-clause-told c = λ piece e count. node_unsaid c.args.most c.args.count c.args.number c.args.node.now piece c.requires.node e count c.in_default.ensures

pub returns-clause-told : goal.returns-clause-told
returns-clause-told c = λ piece e count. (
    let a = c.args in
    let last = c.in-Some-take_u64 in
    subst (λ (k : ℕ). option_map (said_of a.number) (some_stored_at a.most piece) ≡ Some (c.in-Some.has, last.left, k)) (sym c.requires.node)
    (node_said a.most a.count a.number last.left c.in-Some.has a.node.now piece _ c.requires.some c.requires.node e count c.in-Some.ensures last.ensures.found))
