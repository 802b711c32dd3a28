-- What holds of the keyed tree of a document.
use Rattle.std.specs.Prelude.{◌≡◌, ◌≤◌, List, None}
use Rattle.jsonml_tree.specs.Data.{PlainTree, tree_depth}
use Rattle.keyed_tree.specs.Data.{PlainKeyed}
use Rattle.keyed_tree.specs.Kids.{IsOrdered}
use Rattle.keyed_tree.specs.Proper.{IsElement, IsProper}
use Rattle.keyed_tree.specs.Plain.{plain}
use Rattle.keyed_tree.specs.WellFormed.{IsKeyedWellFormed}
use Rattle.key_spec.specs.Data.{PlainRule}
use Rattle.key_rules.specs.Satisfies.{Satisfies}
use Rattle.key_rules.specs.Faults.{first_fault}
use Rattle.key_annotate.specs.KeyedOf.{IsKeyedTreeOf}
use Rattle.key_annotate.specs.Annotated.{keyed_tree}

-- The document has no key fault. The tree stands for it and is the keyed tree as a value: named by a tag, proper, in
-- order, well formed, and what it spells is no deeper than the document.
pub record Stands (rules : List PlainRule) (t : PlainTree) (k : PlainKeyed) : Type 0 where
  pub satisfies : Satisfies rules t
  pub fault : first_fault rules t ≡ None
  pub keyed : IsKeyedTreeOf rules t k
  pub tree : k ≡ keyed_tree rules t
  pub element : IsElement k
  pub proper : IsProper k
  pub ordered : IsOrdered k
  pub well_formed : IsKeyedWellFormed k
  pub depth : tree_depth (plain k) ≤ tree_depth t
