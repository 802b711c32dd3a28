use Rattle.std.proofs.Common.{◌≡◌, ◌++◌, drop}
use Rattle.std.specs.List.{flat_map}
use Rattle.xa_fields.specs.Laws.{Grows}
use Rattle.timestamp_tree.specs.Bytes.{pair_bytes}
use Rattle.timestamp_tree.proofs.encode.put_pairs.Given as goal

-- what is left makes the whole
abbrev pub invariant-loop-from : goal.invariant-loop-from
invariant-loop-from l = record {
  wrote : l.out.items ++ flat_map pair_bytes (drop l.from-index l.pairs) ≡ l.fn.out.items ++ flat_map pair_bytes l.pairs;
  grows : Grows l.fn.out.items l.out.items;
}
