use Rattle.std.proofs.Common.{◌≡◌, [], map, take, drop}
use Rattle.key_spec.specs.Names.{path_text}
use Rattle.key_spec.specs.Closed.{repeats}
use Rattle.key_spec.specs.Texts.{Holds}
use Rattle.key_spec.specs.View.{path_view}
use Rattle.key_spec.proofs.given.repeats.Given as goal

-- what is left decides, and the texts are those of the paths so far
abbrev pub invariant-loop-path : goal.invariant-loop-path
invariant-loop-path l = record {
  left : repeats [] (map path_view l.paths) ≡ repeats (map path_view (take l.path-index l.paths)) (map path_view (drop l.path-index l.paths));
  texts : Holds l.texts (map path_text (map path_view (take l.path-index l.paths)));
}
