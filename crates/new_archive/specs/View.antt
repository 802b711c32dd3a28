-- The plain data that the nodes of a new archive stand for.
use Rattle.std.specs.Prelude.{ℕ, List, map}
use Rattle.keyed_tree.specs.View.{label_view}
use Rattle.version_set.specs.View.{pairs_of}
use Rattle.new_archive.specs.Full.{FullAlt, PlainFull, full_inner, full_leaf, fulls_from}
use Rattle.new_archive.specs.AltView.{alt_view}
use Rattle.new_archive.specs.declared.bodies.Alts.{Alts}
use Rattle.new_archive.specs.declared.node.NewNode.{NewNode, NewNode-F, fold-NewNode}

abbrev pub alts_view : Alts → List FullAlt
alts_view a = map alt_view a.items.items

abbrev pub node_step : NewNode-F PlainFull → PlainFull
node_step (NewNode-F.Inner l s ks) = full_inner (label_view l) (pairs_of s) (fulls_from ks.items)
node_step (NewNode-F.Leaf l s xs) = full_leaf (label_view l) (pairs_of s) (alts_view xs)

abbrev pub full_view : NewNode → PlainFull
full_view = fold-NewNode PlainFull node_step

-- a row, as a list
abbrev pub row_view : List NewNode → List PlainFull
row_view ks = map full_view ks

-- new nodes with their places
abbrev pub fresh_view : List (ℕ × NewNode) → List (ℕ × PlainFull)
fresh_view fs = map (λ (f : ℕ × NewNode). (f.0, full_view f.1)) fs
