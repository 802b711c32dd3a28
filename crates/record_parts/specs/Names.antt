-- Which names may follow one another.
use Rattle.std.proofs.Common.{◌≡◌, ℕ, Bool, false, true, List, Option, Some, None, refl}
use Rattle.jsonml_tree.specs.Data.{PlainAttr}
use Rattle.jsonml_tree.specs.WellFormed.{ascends, is_ascending}
use Rattle.record_parts.specs.Reading.{is_above, next_attr}

pub may_not : (last : Option (List ℕ)) (a : PlainAttr) → is_above last a.name ≡ false → next_attr last a ≡ None
may_not last a e = rw e refl

pub may : (last : Option (List ℕ)) (a : PlainAttr) → is_above last a.name ≡ true → next_attr last a ≡ Some (Some a.name)
may last a e = rw e refl

-- the names ascend, the first above the last one of those before
abbrev pub ascend_behind : Option (List ℕ) → List PlainAttr → Bool
ascend_behind None xs = is_ascending xs
ascend_behind (Some last) xs = ascends last xs
