use Rattle.std.proofs.Common.{◌≡◌, map}
use Rattle.key_spec.specs.View.{names_view}
use Rattle.xarch_tables.proofs.keys.key_names.Given as goal

-- the parts so far
abbrev pub invariant-loop-part : goal.invariant-loop-part
invariant-loop-part l = names_view l.names.items ≡ map (λ part. part.now) l.yielded
