-- What contracts see of a new archive: the archive for which it stands.
use Rattle.version_set.specs.Members.{upto_pairs}
use Rattle.archive_tree.specs.Data.{PlainArchive}
use Rattle.new_archive.specs.Full.{fulls_from}
use Rattle.new_archive.specs.Sealed.{seal_row}
use Rattle.new_archive.specs.View.{row_view}
use Rattle.new_archive.specs.declared.node.NewArchive.{NewArchive}

-- its number of versions, and its nodes as they are sealed
abbrev pub new_archive_view : NewArchive → PlainArchive
new_archive_view a = record { n = a.n; kids = seal_row (upto_pairs a.n) (fulls_from (row_view a.kids.items)) }
