-- What contracts see of a spelled archive: what they see of an archive.
use Rattle.archive_tree.specs.Data.{PlainArchive}
use Rattle.spelled_archive.specs.View.{nodes_view}
use Rattle.spelled_archive.specs.declared.node.SpelledArchive.{SpelledArchive}

-- its number of versions, and its nodes
abbrev pub spelled_archive_view : SpelledArchive → PlainArchive
spelled_archive_view a = record { n = a.n; kids = nodes_view a.kids.items }
