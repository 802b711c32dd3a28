-- What a writer holds where the walk stands, with so many sets on its stack: those of all versions and of each inner node.
use Rattle.std.specs.Prelude.{◌≡◌, ◌≢◌, ℕ, suc, [], length, None}
use Rattle.record_writer.specs.Data.{PlainWriter}
use Rattle.test_cursor.specs.declared.stand.Stand.{Stand}
use Rattle.test_cursor.specs.declared.stand.Stand.TheVariants.{Nodes, Leaf, Closed}

abbrev pub Agrees : PlainWriter → ℕ → Stand → Type 0
Agrees w n Nodes = (w.leaf ≡ None) × (n ≡ suc (length w.inners))
Agrees w n Leaf = (w.leaf ≢ None) × (n ≡ suc (length w.inners))
Agrees w n Closed = (w.leaf ≡ None) × (w.inners ≡ [])
