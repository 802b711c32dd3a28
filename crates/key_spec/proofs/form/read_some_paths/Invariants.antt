use Rattle.std.proofs.Common.{◌≡◌, ◌++◌, map, length, option_map, IsUtf8}
use Rattle.key_spec.specs.Form.{tokens, some_paths}
use Rattle.key_spec.specs.View.{path_view}
use Rattle.key_spec.proofs.form.read_some_paths.Given as goal

-- the paths so far and those that are left are all of them
abbrev pub invariant-loop-paths : goal.invariant-loop-paths
invariant-loop-paths l = record {
  all : some_paths (tokens l.line) ≡ option_map (λ r. (map path_view l.paths.items ++ r.0, r.1)) (some_paths (tokens l.left));
  utf8 : IsUtf8 l.left;
}

abbrev pub decreases-loop-paths : goal.decreases-loop-paths
decreases-loop-paths l = length (tokens l.left)
