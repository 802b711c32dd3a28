use Rattle.std.proofs.Common.{ℕ, ◌≤◌, List, map, refl, subst, length, arith}
use Rattle.std.proofs.lemmas.Bool.Decides.{nat_tests}
use Rattle.timestamp_tree.specs.Tree.{tree_of}
use Rattle.record_writer.specs.Places.{set_at}
use Rattle.record_writer.specs.Plans.{Planned}
use Rattle.record_writer.proofs.EndLaws.{laid}
use Rattle.record_writer.proofs.end.plan_sets.Goals as goal

pub returns-clause-planned : goal.returns-clause-planned
returns-clause-planned c =
    let old = c.args.row.now in
    let before = c.clear.new.self.items in
    let nodes = c.plan_tree.new.nodes.items in
    let plan = c.in_ok-plan.plan in
    let some : 1 ≤ length old.places.items = grind (arith, nat_tests, c.is_empty.ensures, c.if-is_empty.false) in
    let planned = subst (λ (ps : List ℕ). Planned old.sets.items c.plan_tree.new.sets.items before nodes (tree_of (map (set_at old.sets.items) ps)) plan) c.deref.ensures.value c.in_ok-plan.ensures.planned in
    laid old _ before nodes plan refl refl refl c.clear.ensures.items some planned
