-- What follows from the merge: every list of versions has its archive, and an archive keeps its versions.
use Rattle.std.specs.Prelude.{◌≡◌, List}
use Rattle.std.specs.List.{AllByRecursion}
use Rattle.keyed_tree.specs.Alike.{AllAlike}
use Rattle.keyed_tree.specs.Data.{PlainKeyed}
use Rattle.keyed_tree.specs.Kids.{IsOrdered}
use Rattle.keyed_tree.specs.Proper.{IsElement}
use Rattle.archive_tree.specs.Data.{PlainArchive}
use Rattle.archive_tree.specs.Stands.{ArchiveOf}

-- versions that an archive can have: elements, each with ascending kids at every node, any two of them alike
pub record AreVersions (vs : List PlainKeyed) : Type 0 where
  pub ordered : AllByRecursion IsOrdered vs
  pub elements : AllByRecursion IsElement vs
  pub alike : AllAlike vs

-- exactly one archive is that of these versions
pub record HasOneArchive (vs : List PlainKeyed) : Type 0 where
  pub archive : PlainArchive
  pub is : ArchiveOf vs archive
  pub only : (other : PlainArchive) → ArchiveOf vs other → other ≡ archive
