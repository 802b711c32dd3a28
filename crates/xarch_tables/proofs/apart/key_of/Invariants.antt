use Rattle.std.proofs.Common.{◌≡◌, length, map, take, vec_len, vec_capacity}
use Rattle.key_spec.specs.View.{names_view}
use Rattle.xarch_tables.specs.Rows.{key_of}
use Rattle.xarch_tables.proofs.apart.key_of.Given as goal

-- the fields so far
abbrev pub invariant-loop-name : goal.invariant-loop-name
invariant-loop-name l =
    (map (λ field. field.now) l.key.items ≡ key_of (names_view l.heading) (names_view (take l.name-index l.names)) (names_view l.row))
    × (vec_len l.key ≡ l.name-index) × (vec_capacity l.key ≡ length l.names)
