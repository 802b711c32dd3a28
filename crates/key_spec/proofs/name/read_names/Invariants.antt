use Rattle.std.proofs.Common.{◌≡◌, map, true}
use Rattle.std.specs.List.{list_all}
use Rattle.key_spec.specs.Names.{is_name}
use Rattle.key_spec.specs.View.{names_view}
use Rattle.key_spec.proofs.name.read_names.Given as goal

-- the parts so far are names
abbrev pub invariant-loop-part : goal.invariant-loop-part
invariant-loop-part l = record {
  same : names_view l.names.items ≡ map (λ part. part.now) l.yielded;
  names : list_all is_name (map (λ part. part.now) l.yielded) ≡ true;
}
