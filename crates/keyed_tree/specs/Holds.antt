-- Which paths of labels a tree holds.
use Rattle.std.specs.Prelude.{◌≡◌, List, [], ◌∷◌, Any, ⊤}
use Rattle.keyed_tree.specs.Data.{PlainLabel, PlainKeyed, label_of, kids_of}

-- Every tree holds the empty path. It holds a longer one where it has the first label, and the rest is empty or held by some kid.
abbrev pub Holds : List PlainLabel → PlainKeyed → Type 0
Holds [] k = ⊤
Holds (l ∷ []) k = label_of k ≡ l
Holds (l ∷ m ∷ ls) k = (label_of k ≡ l) × Any (Holds (m ∷ ls)) (kids_of k)
