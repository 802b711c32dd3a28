use Rattle.std.proofs.Common.{◌≡◌, ◌-◌, List, ℕ, drop, Some, None}
use Rattle.jsonml_tree.specs.Data.{PlainAttr}
use Rattle.record_parts.specs.Reading.{attr_at, next_attr}
use Rattle.record_parts.specs.ShownViews.{shown_body}
use Rattle.xa_fields.specs.Reading.{chain_at}
use Rattle.node_judge.proofs.BodyLaws.{AttrsLeft}
use Rattle.node_judge.proofs.body.is_attribute.Given as goal

-- what is left decides
abbrev pub invariant-loop : goal.invariant-loop
invariant-loop l = (xs : List PlainAttr) (rest : List ℕ) → chain_at attr_at next_attr None l.count (drop l.fn.at l.bytes) ≡ Some (xs, rest) → AttrsLeft l.name (shown_body l.value) xs rest (l.count - l.counter) (drop l.at l.bytes)
