-- Which keyed trees are keyed by a specification.
use Rattle.std.specs.Prelude.{◌≤◌, List}
use Rattle.std.specs.List.{AllByRecursion}
use Rattle.jsonml_tree.specs.Data.{PlainTree, tree_depth}
use Rattle.jsonml_tree.specs.Fits.{IsElement}
use Rattle.jsonml_tree.specs.WellFormed.{IsWellFormed}
use Rattle.jsonml_tree.specs.declared.limits.TheConstants.{GREATEST_DEPTH}
use Rattle.keyed_tree.specs.Data.{PlainKeyed}
use Rattle.key_spec.specs.Data.{PlainRule}
use Rattle.key_rules.specs.Satisfies.{Satisfies}
use Rattle.key_annotate.specs.KeyedOf.{IsKeyedTreeOf}

-- The tree stands for a document that satisfies the rules, and whose elements nest at most so deep.
pub record IsKeyedBy (rules : List PlainRule) (k : PlainKeyed) : Type 0 where
  pub document : PlainTree
  pub element : IsElement document
  pub well_formed : IsWellFormed document
  pub shallow : tree_depth document ≤ GREATEST_DEPTH
  pub satisfies : Satisfies rules document
  pub stands : IsKeyedTreeOf rules document k

-- each of the trees is
abbrev pub AreKeyedBy : List PlainRule → List PlainKeyed → Type 0
AreKeyedBy rules vs = AllByRecursion (IsKeyedBy rules) vs
