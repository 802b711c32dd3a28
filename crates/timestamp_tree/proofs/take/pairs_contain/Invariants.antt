use Rattle.std.proofs.Common.{◌≡◌, ◌-◌, drop}
use Rattle.std.specs.Option.{option_map}
use Rattle.version_set.specs.Members.{members, has}
use Rattle.xa_fields.specs.Reading.{chain_at}
use Rattle.timestamp_tree.specs.Reading.{pair_at, next_pair}
use Rattle.timestamp_tree.proofs.Contained.{or_in}
use Rattle.timestamp_tree.proofs.take.pairs_contain.Given as goal

-- what was found, or the rest gives
abbrev pub invariant-loop : goal.invariant-loop
invariant-loop l = or_in l.found l.number (chain_at pair_at (next_pair l.most) l.low (l.count - l.counter) (drop l.at l.bytes)) ≡ option_map (λ p. has (members p.0) l.number) (chain_at pair_at (next_pair l.most) 1 l.count (drop l.fn.at l.bytes))
