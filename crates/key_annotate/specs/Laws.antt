-- What is said of all keyed trees that stand for a document.
use Rattle.std.specs.Prelude.{◌≡◌, List, None}
use Rattle.jsonml_tree.specs.Data.{PlainTree}
use Rattle.keyed_tree.specs.Alike.{Alike}
use Rattle.keyed_tree.specs.Data.{PlainKeyed}
use Rattle.keyed_tree.specs.Kids.{IsOrdered}
use Rattle.keyed_tree.specs.Proper.{IsElement, IsProper}
use Rattle.keyed_tree.specs.WellFormed.{IsKeyedWellFormed}
use Rattle.key_spec.specs.Data.{PlainRule}
use Rattle.key_rules.specs.Satisfies.{Satisfies}
use Rattle.key_rules.specs.Faults.{first_fault}
use Rattle.key_annotate.specs.KeyedOf.{IsKeyedTreeOf}
use Rattle.key_annotate.specs.Annotated.{keyed_tree}

-- exactly one tree stands for the document
pub record HasOneTree (rules : List PlainRule) (t : PlainTree) : Type 0 where
  pub stands : IsKeyedTreeOf rules t (keyed_tree rules t)
  pub alone : (k : PlainKeyed) → IsKeyedTreeOf rules t k → k ≡ keyed_tree rules t

-- every tree that stands for the document is named by a tag, proper and in order
pub record HasProperTrees (rules : List PlainRule) (t : PlainTree) : Type 0 where
  pub element : (k : PlainKeyed) → IsKeyedTreeOf rules t k → IsElement k
  pub proper : (k : PlainKeyed) → IsKeyedTreeOf rules t k → IsProper k
  pub ordered : (k : PlainKeyed) → IsKeyedTreeOf rules t k → IsOrdered k

-- every tree that stands for the document is alike with every tree that stands for some document
pub record HasAlikeTrees (rules : List PlainRule) (t : PlainTree) : Type 0 where
  pub alike : (u : PlainTree) (k j : PlainKeyed) → IsKeyedTreeOf rules t k → IsKeyedTreeOf rules u j → Alike k j

-- A document that satisfies the keys has no fault and exactly one tree, which is well formed; one without a fault satisfies
-- the keys. Every tree that stands for the document is proper and alike with the others.
pub record KeyedLaws (rules : List PlainRule) (t : PlainTree) : Type 0 where
  pub satisfied : Satisfies rules t → first_fault rules t ≡ None
  pub faultless : first_fault rules t ≡ None → Satisfies rules t
  pub one : Satisfies rules t → HasOneTree rules t
  pub well_formed : Satisfies rules t → (k : PlainKeyed) → IsKeyedTreeOf rules t k → IsKeyedWellFormed k
  pub proper : HasProperTrees rules t
  pub alike : HasAlikeTrees rules t
