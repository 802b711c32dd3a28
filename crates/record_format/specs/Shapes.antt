-- What directories and archives are apart from the fit of lengths and counts, and which lengths and counts fit.
use Rattle.std.specs.Prelude.{◌≡◌, ◌<◌, ◌≤◌, ◌^◌, length, ⊤}
use Rattle.std.specs.List.{AllByRecursion}
use Rattle.archive_tree.specs.Data.{PlainAlt, PlainNode, inner_node, leaf_node, PlainNodes, no_nodes, node, PlainArchive}
use Rattle.record_parts.specs.Bounds.{IsSet, IsStamp, most}
use Rattle.record_parts.specs.Shapes.{IsShapedLabel, IsShapedValue}
use Rattle.record_format.specs.Data.{PlainDir}
use Rattle.record_format.specs.Bounds.{IsEntry}

-- each entry has its set
pub record IsShapedDir (d : PlainDir) : Type 0 where
  pub sets : AllByRecursion IsSet d.sets
  pub paired : length d.sets ≡ length d.entries

pub record FitsDir (d : PlainDir) : Type 0 where
  pub few : length d.entries < 2 ^ 32
  pub entries : AllByRecursion IsEntry d.entries

-- ---- archives

abbrev pub IsShapedAlt : PlainAlt → Type 0
IsShapedAlt x = IsStamp x.stamp × IsShapedValue x.body

abbrev mutual
  pub IsShapedNode : PlainNode → Type 0
  IsShapedNode (inner_node l s ks) = IsShapedLabel l × IsStamp s × AreShapedNodes ks
  IsShapedNode (leaf_node l s xs) = IsShapedLabel l × IsStamp s × AllByRecursion IsShapedAlt xs

  pub AreShapedNodes : PlainNodes → Type 0
  AreShapedNodes no_nodes = ⊤
  AreShapedNodes (node k ks) = IsShapedNode k × AreShapedNodes ks

pub record IsShaped (a : PlainArchive) : Type 0 where
  pub count : a.n ≤ most
  pub kids : AreShapedNodes a.kids
