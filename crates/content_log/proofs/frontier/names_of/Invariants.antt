use Rattle.std.proofs.Common.{◌≡◌, map, take}
use Rattle.key_spec.specs.View.{names_view}
use Rattle.keyed_tree.specs.View.{label_view}
use Rattle.content_log.specs.Frontier.{names}
use Rattle.content_log.proofs.frontier.names_of.Given as goal

-- the names of the labels so far
abbrev pub invariant-loop-label : goal.invariant-loop-label
invariant-loop-label l = names_view l.texts.items ≡ names (map label_view (take l.label-index l.path))
