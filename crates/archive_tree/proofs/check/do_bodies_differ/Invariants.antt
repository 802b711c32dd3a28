use Rattle.std.proofs.Common.{◌≡◌, IsTrue, map, take, Bor}
use Rattle.std.specs.BTreeSet.{contains}
use Rattle.keyed_tree.specs.View.{key_view}
use Rattle.keyed_tree.specs.declared.label.KeyVal.{KeyVal}
use Rattle.archive_tree.specs.PartsTest.{do_differ}
use Rattle.archive_tree.specs.Summary.{summary_of}
use Rattle.archive_tree.proofs.Differ.{among, pair_cmp}
use Rattle.archive_tree.proofs.check.do_bodies_differ.Given as goal

-- the bodies so far are all different, and those that were seen
abbrev pub invariant-loop-alt : goal.invariant-loop-alt
invariant-loop-alt l = record {
  differ : IsTrue (do_differ (map (λ a. key_view a.body) (take l.alt-index l.alts)));
  seen : (b : Bor KeyVal) → contains pair_cmp l.seen (summary_of (key_view b.now), b) ≡ among (key_view b.now) (map (λ a. key_view a.body) (take l.alt-index l.alts));
}
