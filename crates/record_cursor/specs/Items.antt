-- What a file gives, record by record.
use Rattle.std.specs.Prelude.{ℕ, List, [], ◌∷◌, ◌++◌, length, map}
use Rattle.keyed_tree.specs.Data.{PlainKey, PlainLabel}
use Rattle.archive_tree.specs.Data.{Stamp, PlainArchive}
use Rattle.record_format.specs.Data.{PlainRec, inner_rec, leaf_rec, alt_rec, end_rec, leaf_end}
use Rattle.record_format.specs.Spelling.{dir_bytes}
use Rattle.record_format.specs.Files.{file_records}

-- A record, an END by the length of its body alone; or, behind the last record, that the file ends as it should.
pub data PlainItem : Type 0 where
  inner_item : PlainLabel → Stamp → PlainItem
  leaf_item : PlainLabel → Stamp → PlainItem
  alt_item : Stamp → PlainKey → PlainItem
  leaf_end_item : PlainItem
  end_item : ℕ → PlainItem
  finish : PlainItem

abbrev pub item_of : PlainRec → PlainItem
item_of (inner_rec l s) = inner_item l s
item_of (leaf_rec l s) = leaf_item l s
item_of (alt_rec s b) = alt_item s b
item_of (end_rec d) = end_item (length (dir_bytes d))
item_of leaf_end = leaf_end_item

-- what the file of an archive gives, from its first record on
abbrev pub items_of : PlainArchive → List PlainItem
items_of a = map item_of (file_records a) ++ finish ∷ []
