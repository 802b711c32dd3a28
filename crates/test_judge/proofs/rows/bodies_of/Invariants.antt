use Rattle.std.proofs.Common.{◌≡◌, map, take}
use Rattle.keyed_tree.specs.View.{key_view}
use Rattle.record_parts.specs.ShownViews.{shown_body}
use Rattle.test_judge.proofs.rows.bodies_of.Given as goal

abbrev pub invariant-loop-value : goal.invariant-loop-value
invariant-loop-value l = map shown_body l.keys.items ≡ map key_view (take l.value-index l.values)
