use Rattle.std.proofs.Common.{ℕ, ◌<◌, ◌≤◌, List, length, ap, sym, subst, ◌∙◌, arith}
use Rattle.std.proofs.lemmas.Bool.Decides.{nat_tests}
use Rattle.std.proofs.lemmas.List.{length-take, length-drop}
use Rattle.std.proofs.lemmas.Result.{IfOk-weaker}
use Rattle.record_writer.specs.Places.{above}
use Rattle.record_writer.proofs.PlanLaws.{above-take, above-drop, tree-planned}
use Rattle.record_writer.proofs.plan.+plan_tree.Goals as goal

pub plan_tree-requires : goal.plan_tree-requires
plan_tree-requires t c =
    let n = length c.args.sets.now.items in
    let many : 1 < length c.args.places.now = grind (arith, nat_tests) in
    let is = ap length c.split_at.ensures.back ∙ length-drop c.div_ceil.result c.args.places.now in
    let some : 1 ≤ length c.split_at.result.1.now = omega (arith, many, is, c.div_ceil.ensures) in
    let known : above c.split_at.result.1.now ≤ n = subst (λ (ps : List ℕ). above ps ≤ n) (sym c.split_at.ensures.back) (above-drop c.args.places.now c.div_ceil.result n c.requires.known) in
    (omega (arith, many, is, c.div_ceil.ensures), (some, (known, c.requires.nodes)))

pub plan_tree-requires-2 : goal.plan_tree-requires-2
plan_tree-requires-2 t c =
    let n = length c.args.sets.now.items in
    let many : 1 < length c.args.places.now = grind (arith, nat_tests) in
    let is = ap length c.split_at.ensures.front ∙ length-take c.div_ceil.result c.args.places.now in
    let few : above c.split_at.result.0.now ≤ n = subst (λ (ps : List ℕ). above ps ≤ n) (sym c.split_at.ensures.front) (above-take c.args.places.now c.div_ceil.result n c.requires.known) in
    let some : 1 ≤ length c.split_at.result.0.now = omega (arith, many, is, c.div_ceil.ensures) in
    (omega (arith, many, is, c.div_ceil.ensures), (some, (omega (arith, few, c.plan_tree.ensures.more), c.in_ok-right.ensures.planned.known)))

pub returns-clause-planned : goal.returns-clause-planned
returns-clause-planned t c =
    let many : 1 < length c.args.places.now = grind (arith, nat_tests) in
    IfOk-weaker c.plan_inner.result _ _ (λ plan h. tree-planned c.args.sets.now.items c.plan_tree.new.sets.items c.plan_tree-2.new.sets.items c.plan_inner.new.sets.items c.args.nodes.now.items c.plan_tree.new.nodes.items c.plan_tree-2.new.nodes.items c.plan_inner.new.nodes.items c.args.places.now c.split_at.result.0.now c.split_at.result.1.now c.div_ceil.result c.in_ok-left.left c.in_ok-right.right plan many c.div_ceil.ensures c.split_at.ensures.front c.split_at.ensures.back c.requires.known c.in_ok-right.ensures.planned c.in_ok-left.ensures.planned h) c.plan_inner.ensures.joined
