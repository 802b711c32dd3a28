use Rattle.std.proofs.Common.{◌≡◌, ◌++◌, map, length}
use Rattle.std.specs.List.{AllByRecursion}
use Rattle.std.specs.Vec.Iter.{into_iter_items}
use Rattle.spelled_archive.specs.View.{alt_view}
use Rattle.version_runs.specs.Spread.{spread_alt, IsStampWithin}
use Rattle.archive_rekey.proofs.spread.spread_alts.Given as goal

-- what is done, and what is made of those that are left, are the whole
abbrev pub invariant-loop-alt : goal.invariant-loop-alt
invariant-loop-alt l =
    let left = map alt_view (into_iter_items l.alt-iterator) in
    let f = spread_alt l.starts l.last in
    record {
      within : AllByRecursion (λ x. IsStampWithin (length l.starts) x.stamp) left;
      whole : map alt_view l.spread.items ++ map f left ≡ map f (map alt_view l.fn.alts.items);
    }
