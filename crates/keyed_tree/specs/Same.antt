-- Whether two keyed trees are the same, node by node.
use Rattle.std.specs.Prelude.{Bool, true, false, ◌&&◌}
use Rattle.std.specs.Ordering.{is_eq}
use Rattle.keyed_tree.specs.Data.{PlainKeyed, inner, leaf, PlainKids, no_kids, kid}
use Rattle.keyed_tree.specs.Order.{key_cmp, label_cmp}

abbrev mutual
  pub is_same : PlainKeyed → PlainKeyed → Bool
  is_same (inner l ks) (inner m js) = is_eq (label_cmp l m) && are_same ks js
  is_same (inner l ks) (leaf m b) = false
  is_same (leaf l b) (inner m js) = false
  is_same (leaf l b) (leaf m c) = is_eq (label_cmp l m) && is_eq (key_cmp b c)

  pub are_same : PlainKids → PlainKids → Bool
  are_same no_kids no_kids = true
  are_same no_kids (kid j js) = false
  are_same (kid k ks) no_kids = false
  are_same (kid k ks) (kid j js) = is_same k j && are_same ks js
