-- Key values that are the same, seen from the other one.
use Rattle.std.proofs.Common.{◌≡◌, refl, ap, ◌∙◌}
use Rattle.std.specs.Ordering.{is_eq, ordering_reverse}
use Rattle.std.specs.declared.cmp.Ordering.{Ordering}
use Rattle.std.specs.declared.cmp.Ordering.TheVariants.{Less, Equal, Greater}
use Rattle.keyed_tree.specs.Data.{PlainKey}
use Rattle.keyed_tree.specs.Laws.{key_cmp_total}
use Rattle.keyed_tree.specs.Order.{key_cmp}

is_eq-reverse : (o : Ordering) → is_eq (ordering_reverse o) ≡ is_eq o
is_eq-reverse Less = refl
is_eq-reverse Equal = refl
is_eq-reverse Greater = refl

pub is_eq-turned : (x y : PlainKey) → is_eq (key_cmp x y) ≡ is_eq (key_cmp y x)
is_eq-turned x y = ap is_eq (key_cmp_total.antisymm x y) ∙ is_eq-reverse (key_cmp y x)
