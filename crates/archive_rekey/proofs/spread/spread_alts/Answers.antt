use Rattle.std.proofs.Common.{◌≡◌, ◌++◌, [], map, length, subst, arith}
use Rattle.std.proofs.lemmas.List.{nil_from_length}
use Rattle.std.specs.List.{AllByRecursion}
use Rattle.std.specs.Vec.Iter.{into_iter_items}
use Rattle.spelled_archive.specs.View.{alt_view}
use Rattle.version_runs.specs.Spread.{spread_alt, IsStampWithin}
use Rattle.archive_rekey.proofs.SpreadRows.{made-all, made-on}
use Rattle.archive_rekey.proofs.spread.spread_alts.Goals as goal

pub loop-alt-preserved : goal.loop-alt-preserved
loop-alt-preserved c =
    let l = c.loop-alt in
    let left = c.in-Some.ensures.steps.0 in
    let f = spread_alt c.args.starts.now c.args.last in
    record {
      within = (subst (λ z. AllByRecursion (λ x. IsStampWithin (length c.args.starts.now) x.stamp) (map alt_view z)) left l.invariant.within).1;
      whole = made-on alt_view f l.spread.items c.push.new.self.items c.in_ok-done.done (alt_view c.in-Some.alt) (map alt_view (into_iter_items c.next.new.self)) (map f (map alt_view c.args.alts.items))
          (subst (λ z. map alt_view l.spread.items ++ map f (map alt_view z) ≡ map f (map alt_view c.args.alts.items)) left l.invariant.whole) c.in_ok-push.ensures.items c.in_ok-done.ensures;
    }

pub returns : goal.returns
returns c =
    let l = c.loop-alt in
    let f = spread_alt c.args.starts.now c.args.last in
    let none : into_iter_items l.alt-iterator ≡ [] = nil_from_length (into_iter_items l.alt-iterator) (let end = c.in-None.ensures.steps.0 in omega arith) in
    made-all alt_view f l.spread.items (into_iter_items l.alt-iterator) (map f (map alt_view c.args.alts.items)) l.invariant.whole none

pub spread_alt-requires-clause-within : goal.spread_alt-requires-clause-within
spread_alt-requires-clause-within c =
    let l = c.loop-alt in
    (subst (λ z. AllByRecursion (λ x. IsStampWithin (length c.args.starts.now) x.stamp) (map alt_view z)) c.in-Some.ensures.steps.0 l.invariant.within).0
