-- How much there is of keyed trees.
use Rattle.std.proofs.Common.{ℕ, ◌+◌, List}
use Rattle.keyed_tree.specs.Data.{PlainKeyed, inner, leaf, PlainKids, no_kids, kid, kids_from}

abbrev mutual
  pub tree_size : PlainKeyed → ℕ
  tree_size (inner l ks) = 1 + kids_size ks
  tree_size (leaf l b) = 1

  pub kids_size : PlainKids → ℕ
  kids_size no_kids = 0
  kids_size (kid k ks) = 4 + tree_size k + kids_size ks

abbrev pub list_size : List PlainKeyed → ℕ
list_size cs = kids_size (kids_from cs)
