-- What contracts see of an archive.
use Rattle.archive_tree.specs.Data.{PlainArchive}
use Rattle.archive_tree.specs.View.{nodes_view}
use Rattle.archive_tree.specs.declared.archive.Archive.{Archive}

-- its number of versions, and its nodes
abbrev pub archive_view : Archive → PlainArchive
archive_view a = record { n = a.n; kids = nodes_view a.kids.items }
