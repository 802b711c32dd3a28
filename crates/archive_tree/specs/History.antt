-- Which versions hold a path of labels.
use Rattle.std.specs.Prelude.{ℕ, Bool, true, ◌&&◌, List, [], ◌∷◌}
use Rattle.std.specs.List.{list_any}
use Rattle.std.specs.Ordering.{is_eq}
use Rattle.keyed_tree.specs.Data.{PlainLabel, PlainKeyed, label_of, kids_of}
use Rattle.keyed_tree.specs.Order.{label_cmp}
use Rattle.archive_tree.specs.Stands.{nums, those, passed, numbered}

-- Whether the tree holds the path. Every tree holds the empty path. It holds a longer one where it has the first label,
-- and the rest is empty or held by some kid.
abbrev pub held : List PlainLabel → PlainKeyed → Bool
held [] k = true
held (l ∷ []) k = is_eq (label_cmp (label_of k) l)
held (l ∷ m ∷ ls) k = is_eq (label_cmp (label_of k) l) && list_any (held (m ∷ ls)) (kids_of k)

-- the ascending numbers of the versions that hold the path
abbrev pub hist : List PlainKeyed → List PlainLabel → List ℕ
hist vs path = nums (those (passed (held path)) (numbered vs))
