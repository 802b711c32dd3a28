-- The lines of counts.
use Rattle.std.specs.Prelude.{ℕ, List, ◌++◌, codes, decimal}
use Rattle.archive_stats.specs.Counts.{PlainCounts}

-- a number behind its name, and a line feed
abbrev pub count_line : List ℕ → ℕ → List ℕ
count_line name n = name ++ decimal n ++ codes "\n"

-- what was counted of the versions and nodes
unfoldable pub nodes_text : PlainCounts → List ℕ
nodes_text c = count_line (codes "versions ") c.versions ++ count_line (codes "inner ") c.inner ++ count_line (codes "leaves ") c.leaves ++ count_line (codes "alternatives ") c.alternatives

-- and of their timestamps and bytes
unfoldable pub sizes_text : PlainCounts → List ℕ
sizes_text c = count_line (codes "stamps ") c.stamps ++ count_line (codes "largest ") c.largest ++ count_line (codes "bytes ") c.bytes

-- the seven lines
unfoldable pub counts_text : PlainCounts → List ℕ
counts_text c = nodes_text c ++ sizes_text c
