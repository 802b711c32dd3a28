use Rattle.std.proofs.Common.{◌≡◌, drop, map}
use Rattle.keyed_tree.specs.LentView.{lent_val_view}
use Rattle.new_archive.specs.Place.{place_from}
use Rattle.new_archive.specs.AltView.{alt_view}
use Rattle.new_archive.proofs.leaf.scan.Given as goal

-- what is left decides
abbrev pub invariant-loop-alt : goal.invariant-loop-alt
invariant-loop-alt l = record {
  count : l.at ≡ l.alt-index;
  left : place_from (lent_val_view l.body) l.at (map alt_view (drop l.alt-index l.alts)) ≡ place_from (lent_val_view l.body) 0 (map alt_view l.alts);
}
