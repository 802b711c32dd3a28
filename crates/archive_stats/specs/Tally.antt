-- The counts of records, one after another.
use Rattle.std.specs.Prelude.{ℕ, ◌+◌, ◌*◌, ◌≤◌, max, List, fold, if◌then◌else◌}
use Rattle.std.specs.Option.{is_some}
use Rattle.archive_tree.specs.Data.{Stamp}
use Rattle.record_format.specs.Data.{PlainRec}
use Rattle.record_cursor.specs.Items.{PlainItem, inner_item, leaf_item, alt_item, leaf_end_item, end_item, finish, item_of}
use Rattle.record_cursor.specs.Next.{read_for}
use Rattle.record_cursor.specs.Places.{finished}
use Rattle.archive_stats.specs.Counts.{PlainCounts}

abbrev pub is_stored : Stamp → ℕ
is_stored s = if is_some s then 1 else 0

-- what an item adds to each number
abbrev pub inner_in : PlainItem → ℕ
inner_in (inner_item l s) = 1
inner_in (leaf_item l s) = 0
inner_in (alt_item s b) = 0
inner_in leaf_end_item = 0
inner_in (end_item n) = 0
inner_in finish = 0

abbrev pub leaves_in : PlainItem → ℕ
leaves_in (inner_item l s) = 0
leaves_in (leaf_item l s) = 1
leaves_in (alt_item s b) = 0
leaves_in leaf_end_item = 0
leaves_in (end_item n) = 0
leaves_in finish = 0

abbrev pub alternatives_in : PlainItem → ℕ
alternatives_in (inner_item l s) = 0
alternatives_in (leaf_item l s) = 0
alternatives_in (alt_item s b) = 1
alternatives_in leaf_end_item = 0
alternatives_in (end_item n) = 0
alternatives_in finish = 0

abbrev pub stamps_in : PlainItem → ℕ
stamps_in (inner_item l s) = is_stored s
stamps_in (leaf_item l s) = is_stored s
stamps_in (alt_item s b) = is_stored s
stamps_in leaf_end_item = 0
stamps_in (end_item n) = 0
stamps_in finish = 0

-- the bytes that are read for a record, wherever it comes
abbrev pub read_in : PlainItem → ℕ
read_in i = read_for finished i

-- the counts with one more item, without its bytes
abbrev pub with_parts : PlainCounts → PlainItem → PlainCounts
with_parts c i =
    record {
      versions = c.versions;
      inner = c.inner + inner_in i;
      leaves = c.leaves + leaves_in i;
      alternatives = c.alternatives + alternatives_in i;
      stamps = c.stamps + stamps_in i;
      largest = c.largest;
      bytes = c.bytes;
    }

-- the counts with a record of so many bytes
abbrev pub with_size : PlainCounts → ℕ → PlainCounts
with_size c size =
    record {
      versions = c.versions;
      inner = c.inner;
      leaves = c.leaves;
      alternatives = c.alternatives;
      stamps = c.stamps;
      largest = max c.largest size;
      bytes = c.bytes;
    }

-- the counts with one more item
abbrev pub counted : PlainCounts → PlainItem → PlainCounts
counted c i = with_size (with_parts c i) (read_in i)

-- the counts with more records
abbrev pub tallied : PlainCounts → List PlainRec → PlainCounts
tallied c rs = fold (λ d r. counted d (item_of r)) c rs

-- the counts of a file of that length, before its records were counted
abbrev pub before_records : ℕ → ℕ → ℕ → PlainCounts
before_records versions header bytes =
    record { versions = versions; inner = 0; leaves = 0; alternatives = 0; stamps = 0; largest = header; bytes = bytes }

-- so many bytes have room for as many records of nine bytes as are counted
pub record FitIn (n : ℕ) (c : PlainCounts) : Type 0 where
  pub inner : 9 * c.inner ≤ n
  pub leaves : 9 * c.leaves ≤ n
  pub alternatives : 9 * c.alternatives ≤ n
  pub stamps : 9 * c.stamps ≤ n
