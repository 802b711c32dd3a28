-- A version that goes with the versions before it.
use Rattle.std.specs.Prelude.{List}
use Rattle.keyed_tree.specs.Alike.{Alike}
use Rattle.keyed_tree.specs.Data.{PlainKeyed}
use Rattle.keyed_tree.specs.Lists.{Has}

-- the tree is alike with each of the versions
abbrev pub AlikeAll : List PlainKeyed → PlainKeyed → Type 0
AlikeAll vs k = (v : PlainKeyed) → Has v vs → Alike v k
