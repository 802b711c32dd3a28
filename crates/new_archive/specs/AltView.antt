-- The plain data that one body of a leaf stands for.
use Rattle.version_set.specs.View.{pairs_of}
use Rattle.spelled_archive.specs.View.{kept_view}
use Rattle.new_archive.specs.Full.{FullAlt}
use Rattle.new_archive.specs.declared.node.NewAlt.{NewAlt}

abbrev pub alt_view : NewAlt → FullAlt
alt_view a = record { numbers = pairs_of a.set; body = kept_view a.body }
