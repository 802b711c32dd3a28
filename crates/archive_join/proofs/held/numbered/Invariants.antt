use Rattle.std.proofs.Common.{◌≡◌, false, length, map, vec_len, vec_capacity}
use Rattle.std.specs.List.{AllByRecursion, enumerate_from}
use Rattle.archive_join.specs.Held.{placed}
use Rattle.archive_join.specs.Leaves.{alternatives_view}
use Rattle.archive_join.proofs.held.numbered.Given as goal

abbrev pub invariant-loop-alternative : goal.invariant-loop-alternative
invariant-loop-alternative l = record {
  placed : map placed l.entries.items ≡ enumerate_from 0 (alternatives_view l.yielded);
  free : AllByRecursion (λ e. e.taken ≡ false) l.entries.items;
  count : vec_len l.entries ≡ length l.yielded;
  room : vec_capacity l.entries ≡ length l.fn.alternatives.items;
}
