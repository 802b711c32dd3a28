use Rattle.std.proofs.Common.{◌≡◌, not, filter, map}
use Rattle.archive_join.specs.Held.{shown}
use Rattle.archive_join.specs.Leaves.{alternatives_view}
use Rattle.archive_join.proofs.held.not_taken.Given as goal

-- those so far that are not marked
abbrev pub invariant-loop-entry : goal.invariant-loop-entry
invariant-loop-entry l = alternatives_view l.others.items ≡ map shown (filter (λ e. not e.taken) l.yielded)
