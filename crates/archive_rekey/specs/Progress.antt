-- How far the versions of an archive have come under other keys.
use Rattle.std.specs.Prelude.{◌≡◌, ◌≤◌, ℕ, List, [], ◌∷◌, ◌++◌, Some, take}
use Rattle.jsonml_tree.specs.Data.{PlainTree, tree_depth}
use Rattle.jsonml_tree.specs.Fits.{IsElement, ItemsFit}
use Rattle.jsonml_tree.specs.WellFormed.{IsWellFormed}
use Rattle.jsonml_tree.specs.declared.limits.TheConstants.{GREATEST_DEPTH}
use Rattle.keyed_tree.specs.Data.{PlainKeyed}
use Rattle.key_spec.specs.Data.{PlainRule}
use Rattle.key_rules.specs.Faults.{PlainKeyFault, first_fault}
use Rattle.key_rules.specs.Satisfies.{Satisfies}
use Rattle.key_annotate.specs.Stands.{Stands}
use Rattle.archive_tree.specs.Data.{PlainArchive}
use Rattle.archive_tree.specs.Stands.{ArchiveOf}
use Rattle.archive_file.specs.KeyedBy.{AreKeyedBy, IsKeyedBy}
use Rattle.archive_rekey.specs.Rekeyed.{AreRekeyed}

-- a document as others
pub record IsDocument (t : PlainTree) : Type 0 where
  pub element : IsElement t
  pub well_formed : IsWellFormed t
  pub shallow : tree_depth t ≤ GREATEST_DEPTH
  pub items : ItemsFit t

-- the document does not satisfy the rules: the number is that of the version that spells it, and the fault its first
pub record IsFaultOf (rules : List PlainRule) (i : ℕ) (t : PlainTree) (b : ℕ × PlainKeyFault) : Type 0 where
  pub number : b.0 ≡ i
  pub bad : ¬ Satisfies rules t
  pub fault : first_fault rules t ≡ Some b.1

-- the second archive is the first with the tree of the document behind its versions
pub record IsBehind (rules : List PlainRule) (t : PlainTree) (a b : PlainArchive) : Type 0 where
  pub tree : PlainKeyed
  pub stands : Stands rules t tree
  pub keyed : IsKeyedBy rules tree
  pub archive : (us : List PlainKeyed) → ArchiveOf us a → ArchiveOf (us ++ tree ∷ []) b

-- the archive is that of the first versions, so many, under the rules
pub record Reaches (rules : List PlainRule) (vs : List PlainKeyed) (i : ℕ) (a : PlainArchive) : Type 0 where
  pub versions : List PlainKeyed
  pub are : AreRekeyed rules (take i vs) versions
  pub archive : ArchiveOf versions a
  pub keyed : AreKeyedBy rules versions
