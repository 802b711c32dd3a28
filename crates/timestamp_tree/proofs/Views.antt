-- The view of each shape of a node.
use Rattle.std.proofs.Common.{◌≡◌, ℕ, rules, Box, Global}
use Rattle.version_set.specs.View.{pairs_of}
use Rattle.version_set.specs.declared.set.VersionSet.{VersionSet}
use Rattle.timestamp_tree.specs.Data.{leaf, node}
use Rattle.timestamp_tree.specs.PartView.{part_view}
use Rattle.timestamp_tree.specs.declared.part.Part.{Part, Leaf, Inner, the_lemmas}

pub part_view-Leaf : (s : VersionSet) → part_view (Leaf s) ≡ leaf (pairs_of s)
part_view-Leaf s = search (rules, the_lemmas)

pub part_view-Inner : (s : VersionSet) (n : ℕ) (l r : Box Part Global) → part_view (Inner s n l r) ≡ node (pairs_of s) n (part_view l.value) (part_view r.value)
part_view-Inner s n l r = search (rules, the_lemmas)

pub ruleset views = (part_view-Leaf, part_view-Inner)
