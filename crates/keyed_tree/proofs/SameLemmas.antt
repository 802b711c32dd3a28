-- Trees that are the same node by node are equal, and only those.
use Rattle.std.proofs.Common.{◌≡◌, ◌↔◌, IsTrue, refl, sym, subst, true≢false}
use Rattle.std.specs.Ordering.{is_eq}
use Rattle.keyed_tree.specs.Data.{PlainKeyed, inner, leaf, PlainKids, no_kids, kid}
use Rattle.keyed_tree.specs.Order.{key_cmp, label_cmp}
use Rattle.keyed_tree.specs.Same.{is_same, are_same}
use Rattle.keyed_tree.specs.Laws.{key_cmp-is_eq, label_cmp-is_eq}
use Rattle.keyed_tree.proofs.Kids.{both}

mutual
  same_equal : (k j : PlainKeyed) → IsTrue (is_same k j) → k ≡ j
  same_equal (inner l ks) (inner m js) h =
      let two = both (is_eq (label_cmp l m)) (are_same ks js) h in
      let labels : l ≡ m = (label_cmp-is_eq l m).0 two.0 in
      let kids : ks ≡ js = all_equal ks js two.1 in
      cc
  same_equal (inner l ks) (leaf m b) h = absurd (true≢false (sym h))
  same_equal (leaf l b) (inner m js) h = absurd (true≢false (sym h))
  same_equal (leaf l b) (leaf m c) h =
      let two = both (is_eq (label_cmp l m)) (is_eq (key_cmp b c)) h in
      let labels : l ≡ m = (label_cmp-is_eq l m).0 two.0 in
      let bodies : b ≡ c = (key_cmp-is_eq b c).0 two.1 in
      cc

  all_equal : (ks js : PlainKids) → IsTrue (are_same ks js) → ks ≡ js
  all_equal no_kids no_kids h = refl
  all_equal no_kids (kid j js) h = absurd (true≢false (sym h))
  all_equal (kid k ks) no_kids h = absurd (true≢false (sym h))
  all_equal (kid k ks) (kid j js) h =
      let two = both (is_same k j) (are_same ks js) h in
      let first : k ≡ j = same_equal k j two.0 in
      let rest : ks ≡ js = all_equal ks js two.1 in
      cc

mutual
  same_itself : (k : PlainKeyed) → IsTrue (is_same k k)
  same_itself (inner l ks) = (let e = (label_cmp-is_eq l l).1 refl in rw e (all_themselves ks))
  same_itself (leaf l b) = (let e = (label_cmp-is_eq l l).1 refl in rw e ((key_cmp-is_eq b b).1 refl))

  all_themselves : (ks : PlainKids) → IsTrue (are_same ks ks)
  all_themselves no_kids = refl
  all_themselves (kid k ks) = (let e = same_itself k in rw e (all_themselves ks))

pub is_same-exact : (k j : PlainKeyed) → IsTrue (is_same k j) ↔ (k ≡ j)
is_same-exact k j = (same_equal k j, λ e. subst (λ z. IsTrue (is_same k z)) e (same_itself k))

pub ruleset same = (is_same-exact)
