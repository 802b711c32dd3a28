use Rattle.std.proofs.Common.{◌≡◌, ◌+◌, map, drop}
use Rattle.std.specs.List.{AllByRecursion}
use Rattle.serde_json.specs.View.{items_view}
use Rattle.keyed_tree.specs.View.{label_view}
use Rattle.keyed_tree.specs.WellFormed.{IsLabelWellFormed}
use Rattle.key_spec.specs.View.{spec_view}
use Rattle.key_rules.specs.UserPaths.{labels_from}
use Rattle.key_rules.specs.View.{here_view}
use Rattle.key_rules.proofs.UserPathLemmas.{onto}
use Rattle.key_rules.proofs.user_path.add_steps.Given as goal

-- what is left decides
abbrev pub invariant-loop-step : goal.invariant-loop-step
invariant-loop-step l =
    record {
      left : labels_from (spec_view l.spec) 1 (here_view l.initial.here) (items_view l.steps)
          ≡ onto (map label_view l.labels.items) (labels_from (spec_view l.spec) (l.number + 1) (here_view l.here) (items_view (drop l.step-index l.steps)));
      well_formed : AllByRecursion IsLabelWellFormed (map label_view l.labels.items);
    }
