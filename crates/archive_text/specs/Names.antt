-- Nodes whose names can be told from their texts.
use Rattle.std.specs.Prelude.{◌≡◌, true, ⊤}
use Rattle.key_spec.specs.Names.{is_name}
use Rattle.keyed_tree.specs.Data.{PlainName, attr, tag}
use Rattle.archive_tree.specs.Data.{PlainNode, inner_node, leaf_node, PlainNodes, no_nodes, node}

-- a tag is a name, which has no `@`
abbrev pub IsNamed : PlainName → Type 0
IsNamed (attr s) = ⊤
IsNamed (tag s) = is_name s ≡ true

abbrev mutual
  pub HasNames : PlainNode → Type 0
  HasNames (inner_node l s ks) = IsNamed l.name × HaveNames ks
  HasNames (leaf_node l s xs) = IsNamed l.name

  pub HaveNames : PlainNodes → Type 0
  HaveNames no_nodes = ⊤
  HaveNames (node k ks) = HasNames k × HaveNames ks
