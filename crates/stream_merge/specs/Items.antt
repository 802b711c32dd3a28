-- How many bytes a cursor reads for an item.
use Rattle.std.specs.Prelude.{ℕ, ◌≤◌}
use Rattle.record_cursor.specs.Items.{PlainItem}
use Rattle.record_cursor.specs.Next.{read_for}
use Rattle.record_cursor.specs.Places.{Standing}

-- at most so many bytes are read for the item
abbrev pub IsWithin : ℕ → PlainItem → Type 0
IsWithin w i = (s : Standing) → read_for s i ≤ w
