-- The versions of an archive under other keys.
use Rattle.std.specs.Prelude.{◌≡◌, ◌≤◌, ◌<◌, ℕ, List, [], ◌∷◌, Some, ⊤}
use Rattle.std.specs.List.{AllByRecursion}
use Rattle.jsonml_tree.specs.Data.{tree_depth}
use Rattle.jsonml_tree.specs.Fits.{ItemsFit}
use Rattle.jsonml_tree.specs.declared.limits.TheConstants.{GREATEST_DEPTH}
use Rattle.keyed_tree.specs.Data.{PlainKeyed}
use Rattle.keyed_tree.specs.Plain.{plain}
use Rattle.keyed_tree.specs.Proper.{IsProper}
use Rattle.key_spec.specs.Data.{PlainRule}
use Rattle.key_rules.specs.Faults.{PlainKeyFault, first_fault}
use Rattle.key_rules.specs.Satisfies.{Satisfies}
use Rattle.key_annotate.specs.Stands.{Stands}
use Rattle.archive_tree.specs.Data.{PlainArchive}
use Rattle.archive_tree.specs.Stands.{ArchiveOf, version_of}

-- Each version is proper, and what it spells is a document as others: its elements nest at most so
-- deep, and every position of an item fits four bytes.
pub record SpellDocuments (vs : List PlainKeyed) : Type 0 where
  pub proper : AllByRecursion (λ v. IsProper v × (tree_depth (plain v) ≤ GREATEST_DEPTH)) vs
  pub items : AllByRecursion (λ v. ItemsFit (plain v)) vs

-- One tree for each version, in order: what the version spells satisfies the rules, and the tree stands for it.
abbrev pub AreRekeyed : List PlainRule → List PlainKeyed → List PlainKeyed → Type 0
AreRekeyed rules [] [] = ⊤
AreRekeyed rules [] (k ∷ ks) = ⊥
AreRekeyed rules (v ∷ vs) [] = ⊥
AreRekeyed rules (v ∷ vs) (k ∷ ks) = Stands rules (plain v) k × AreRekeyed rules vs ks

-- the archive is that of these versions under the rules
pub record IsArchiveUnder (rules : List PlainRule) (vs : List PlainKeyed) (a : PlainArchive) : Type 0 where
  pub versions : List PlainKeyed
  pub are : AreRekeyed rules vs versions
  pub archive : ArchiveOf versions a

-- what the version of this number spells does not satisfy the rules, and this is its first fault
pub record IsBad (rules : List PlainRule) (vs : List PlainKeyed) (i : ℕ) (f : PlainKeyFault) : Type 0 where
  pub version : PlainKeyed
  pub is : version_of vs i ≡ Some version
  pub bad : ¬ Satisfies rules (plain version)
  pub fault : first_fault rules (plain version) ≡ Some f

-- and what each version before it spells does
pub record IsFirstBad (rules : List PlainRule) (vs : List PlainKeyed) (i : ℕ) (f : PlainKeyFault) : Type 0 where
  pub here : IsBad rules vs i f
  pub before : (j : ℕ) (v : PlainKeyed) → j < i → version_of vs j ≡ Some v → Satisfies rules (plain v)
