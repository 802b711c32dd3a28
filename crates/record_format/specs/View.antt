-- The plain data that a record stands for.
use Rattle.std.specs.Prelude.{map}
use Rattle.version_set.specs.View.{pairs_of}
use Rattle.keyed_tree.specs.View.{key_view, label_view}
use Rattle.archive_tree.specs.View.{stamp_view}
use Rattle.record_format.specs.Data.{PlainEntry, PlainDir, PlainRec, inner_rec, leaf_rec, alt_rec, end_rec, leaf_end}
use Rattle.record_format.specs.declared.rec.Entry.{Entry}
use Rattle.record_format.specs.declared.rec.Dir.{Dir}
use Rattle.record_format.specs.declared.rec.Rec.{Rec}
use Rattle.record_format.specs.declared.rec.Rec.TheVariants.{Inner, Leaf, Alt, End, LeafEnd}

abbrev pub entry_view : Entry → PlainEntry
entry_view e = record { start = e.start; length = e.length; dir = e.dir }

abbrev pub dir_view : Dir → PlainDir
dir_view d = record { entries = map entry_view d.entries.items; sets = map pairs_of d.sets.items }

abbrev pub rec_view : Rec → PlainRec
rec_view (Inner l s) = inner_rec (label_view l) (stamp_view s)
rec_view (Leaf l s) = leaf_rec (label_view l) (stamp_view s)
rec_view (Alt s b) = alt_rec (stamp_view s) (key_view b)
rec_view (End d) = end_rec (dir_view d)
rec_view LeafEnd = leaf_end
