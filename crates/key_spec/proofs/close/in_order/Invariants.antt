use Rattle.std.proofs.Common.{◌≡◌, map}
use Rattle.key_spec.specs.View.{rule_view, placed_view}
use Rattle.key_spec.proofs.close.in_order.Given as goal

abbrev pub invariant-loop-placed : goal.invariant-loop-placed
invariant-loop-placed l = map rule_view l.rules.items ≡ map placed_view l.yielded
