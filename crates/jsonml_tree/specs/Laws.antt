-- The laws of the order of trees.
use Rattle.std.proofs.Common.{◌≡◌, ℕ, List, [], ◌∷◌, refl, ap, sym, subst, arith, Bool, true, false, ℤ, pos}
use Rattle.std.proofs.lemmas.Cmp.{nat_cmp_total, int_cmp_total, nat_list_cmp_total, lists_total, on_total, then_total, alike_right, tied_itself}
use Rattle.std.proofs.lemmas.Map.Lookups.{CmpEqualImpliesEq, exact_signed, exact_bytes}
use Rattle.std.specs.Prelude.{IsTrue, ◌↔◌}
use Rattle.std.specs.Cmp.{IsTotalOrder, Equal-is}
use Rattle.std.specs.Cmp.Lexicographic.{slice_cmp}
use Rattle.std.specs.Ordering.{ordering_then, ordering_reverse, is_eq, bool_cmp, nat_cmp, int_cmp, on, then_cmp}
use Rattle.std.specs.declared.cmp.Ordering.{Ordering}
use Rattle.std.specs.declared.cmp.Ordering.TheVariants.{Less, Equal, Greater}
use Rattle.jsonml_tree.specs.Data.{PlainScalar, null, boolean, whole, string, PlainAttr, PlainTree, text, element, PlainContent, content, PlainTrees, no_trees, tree}
use Rattle.jsonml_tree.specs.Order.{text_cmp, scalar_cmp, attr_cmp, tree_cmp, content_cmp, trees_cmp}

-- what the answers at x y, y z and x z say of one another
pub record Ordered3 (a b c : Ordering) : Type 0 where
  pub chain : a ≡ Less → b ≡ Less → c ≡ Less
  pub left : a ≡ Equal → c ≡ b
  pub right : b ≡ Equal → c ≡ a

then3 : (a b c p q r : Ordering) → Ordered3 a b c → Ordered3 p q r → Ordered3 (ordering_then a p) (ordering_then b q) (ordering_then c r)
then3 a b c p q r s t = grind arith

then_back : (o p q r : Ordering) → o ≡ ordering_reverse q → p ≡ ordering_reverse r → ordering_then o p ≡ ordering_reverse (ordering_then q r)
then_back o p q r e f = grind arith

of_total : {K : Type 0} {R : K → K → Ordering} → IsTotalOrder R → (x y z : K) → Ordered3 (R x y) (R y z) (R x z)
of_total {K} {R} o x y z = record {
  chain = λ h k. o.trans x y z h k;
  left = λ h. o.congr x y z h;
  right = λ h. sym (alike_right o y z x h);
}

-- ---- scalars, by their kind and then by what they hold

abbrev rank : PlainScalar → ℕ
rank null = 0
rank (boolean false) = 1
rank (boolean true) = 2
rank (whole n) = 3
rank (string s) = 4

abbrev bytes : PlainScalar → List ℕ
bytes (string s) = s
bytes _ = []

abbrev number : PlainScalar → ℤ
number (whole n) = n
number _ = pos 0

abbrev by_parts : PlainScalar → PlainScalar → Ordering
by_parts = then_cmp (on rank nat_cmp) (then_cmp (on number int_cmp) (on bytes text_cmp))

pub then-Equal : (o : Ordering) → ordering_then o Equal ≡ o
then-Equal o = grind arith

as_parts : (x y : PlainScalar) → by_parts x y ≡ scalar_cmp x y
as_parts null null = refl
as_parts null (boolean true) = refl
as_parts null (boolean false) = refl
as_parts null (whole n) = refl
as_parts null (string s) = refl
as_parts (boolean true) null = refl
as_parts (boolean false) null = refl
as_parts (boolean true) (boolean true) = refl
as_parts (boolean true) (boolean false) = refl
as_parts (boolean false) (boolean true) = refl
as_parts (boolean false) (boolean false) = refl
as_parts (boolean true) (whole n) = refl
as_parts (boolean false) (whole n) = refl
as_parts (boolean true) (string s) = refl
as_parts (boolean false) (string s) = refl
as_parts (whole m) null = refl
as_parts (whole m) (boolean true) = refl
as_parts (whole m) (boolean false) = refl
as_parts (whole m) (whole n) = then-Equal (int_cmp m n)
as_parts (whole m) (string s) = refl
as_parts (string r) null = refl
as_parts (string r) (boolean true) = refl
as_parts (string r) (boolean false) = refl
as_parts (string r) (whole n) = refl
as_parts (string r) (string s) = refl

pub scalar_cmp_total : IsTotalOrder scalar_cmp
scalar_cmp_total =
    let parts : IsTotalOrder by_parts = then_total (on_total rank nat_cmp_total) (then_total (on_total number int_cmp_total) (on_total bytes nat_list_cmp_total)) in
    subst IsTotalOrder (λ i x y. as_parts x y i) parts

bool_exact : (a b : Bool) → bool_cmp a b ≡ Equal → a ≡ b
bool_exact true true e = refl
bool_exact false false e = refl
bool_exact true false e = cc
bool_exact false true e = cc

pub scalar_cmp_exact : CmpEqualImpliesEq scalar_cmp
scalar_cmp_exact null null e = refl
scalar_cmp_exact null (boolean b) e = cc
scalar_cmp_exact null (whole n) e = cc
scalar_cmp_exact null (string s) e = cc
scalar_cmp_exact (boolean a) null e = cc
scalar_cmp_exact (boolean a) (boolean b) e = ap (λ c. boolean c) (bool_exact a b e)
scalar_cmp_exact (boolean a) (whole n) e = cc
scalar_cmp_exact (boolean a) (string s) e = cc
scalar_cmp_exact (whole m) null e = cc
scalar_cmp_exact (whole m) (boolean b) e = cc
scalar_cmp_exact (whole m) (whole n) e = ap (λ k. whole k) (exact_signed m n e)
scalar_cmp_exact (whole m) (string s) e = cc
scalar_cmp_exact (string r) null e = cc
scalar_cmp_exact (string r) (boolean b) e = cc
scalar_cmp_exact (string r) (whole n) e = cc
scalar_cmp_exact (string r) (string s) e = ap (λ k. string k) (exact_bytes r s e)

-- ---- attributes

pub attr_cmp_total : IsTotalOrder attr_cmp
attr_cmp_total = then_total (on_total (λ (a : PlainAttr). a.name) nat_list_cmp_total) (on_total (λ (a : PlainAttr). a.value) scalar_cmp_total)

pub both_equal : (o p : Ordering) → ordering_then o p ≡ Equal → (o ≡ Equal) × (p ≡ Equal)
both_equal Less p e = cc
both_equal Equal p e = (refl, e)
both_equal Greater p e = cc

pub attr_cmp_exact : CmpEqualImpliesEq attr_cmp
attr_cmp_exact a b e =
    let both = both_equal (text_cmp a.name b.name) (scalar_cmp a.value b.value) e in
    let names : a.name ≡ b.name = exact_bytes a.name b.name both.0 in
    let values : a.value ≡ b.value = scalar_cmp_exact a.value b.value both.1 in
    λ i. record { name = names i; value = values i }

pub lists_exact : {K : Type 0} {R : K → K → Ordering} → CmpEqualImpliesEq R → CmpEqualImpliesEq (slice_cmp R)
lists_exact x [] [] e = refl
lists_exact x [] (b ∷ bs) e = cc
lists_exact x (a ∷ as') [] e = cc
lists_exact {K} {R} x (a ∷ as') (b ∷ bs) e =
    let both = both_equal (R a b) (slice_cmp R as' bs) e in
    let first : a ≡ b = x a b both.0 in
    let rest : as' ≡ bs = lists_exact x as' bs both.1 in
    cc

-- ---- trees

mutual
  tree_back : (x y : PlainTree) → tree_cmp x y ≡ ordering_reverse (tree_cmp y x)
  tree_back (text r) (text s) = nat_list_cmp_total.antisymm r s
  tree_back (text r) (element u d) = refl
  tree_back (element t c) (text s) = refl
  tree_back (element t c) (element u d) = then_back _ _ _ _ (nat_list_cmp_total.antisymm t u) (content_back c d)

  content_back : (x y : PlainContent) → content_cmp x y ≡ ordering_reverse (content_cmp y x)
  content_back (content xs ts) (content ys us) = then_back _ _ _ _ ((lists_total attr_cmp_total).antisymm xs ys) (trees_back ts us)

  trees_back : (x y : PlainTrees) → trees_cmp x y ≡ ordering_reverse (trees_cmp y x)
  trees_back no_trees no_trees = refl
  trees_back no_trees (tree u us) = refl
  trees_back (tree t ts) no_trees = refl
  trees_back (tree t ts) (tree u us) = then_back _ _ _ _ (tree_back t u) (trees_back ts us)

mutual
  tree_3 : (x y z : PlainTree) → Ordered3 (tree_cmp x y) (tree_cmp y z) (tree_cmp x z)
  tree_3 (text r) (text s) (text t) = of_total nat_list_cmp_total r s t
  tree_3 (text r) (text s) (element v e) = record { chain = λ h k. cc; left = λ h. cc; right = λ h. cc }
  tree_3 (text r) (element u d) (text t) = record { chain = λ h k. cc; left = λ h. cc; right = λ h. cc }
  tree_3 (text r) (element u d) (element v e) = record { chain = λ h k. cc; left = λ h. cc; right = λ h. cc }
  tree_3 (element t c) (text s) (text v) = record { chain = λ h k. cc; left = λ h. cc; right = λ h. cc }
  tree_3 (element t c) (text s) (element v e) = record { chain = λ h k. cc; left = λ h. cc; right = λ h. cc }
  tree_3 (element t c) (element u d) (text s) = record { chain = λ h k. cc; left = λ h. cc; right = λ h. cc }
  tree_3 (element t c) (element u d) (element v e) = then3 _ _ _ _ _ _ (of_total nat_list_cmp_total t u v) (content_3 c d e)

  content_3 : (x y z : PlainContent) → Ordered3 (content_cmp x y) (content_cmp y z) (content_cmp x z)
  content_3 (content xs ts) (content ys us) (content zs vs) = then3 _ _ _ _ _ _ (of_total (lists_total attr_cmp_total) xs ys zs) (trees_3 ts us vs)

  trees_3 : (x y z : PlainTrees) → Ordered3 (trees_cmp x y) (trees_cmp y z) (trees_cmp x z)
  trees_3 no_trees no_trees no_trees = record { chain = λ h k. cc; left = λ h. cc; right = λ h. cc }
  trees_3 no_trees no_trees (tree v vs) = record { chain = λ h k. cc; left = λ h. cc; right = λ h. cc }
  trees_3 no_trees (tree u us) no_trees = record { chain = λ h k. cc; left = λ h. cc; right = λ h. cc }
  trees_3 no_trees (tree u us) (tree v vs) = record { chain = λ h k. cc; left = λ h. cc; right = λ h. cc }
  trees_3 (tree t ts) no_trees no_trees = record { chain = λ h k. cc; left = λ h. cc; right = λ h. cc }
  trees_3 (tree t ts) no_trees (tree v vs) = record { chain = λ h k. cc; left = λ h. cc; right = λ h. cc }
  trees_3 (tree t ts) (tree u us) no_trees = record { chain = λ h k. cc; left = λ h. cc; right = λ h. cc }
  trees_3 (tree t ts) (tree u us) (tree v vs) = then3 _ _ _ _ _ _ (tree_3 t u v) (trees_3 ts us vs)

mutual
  pub tree_cmp_exact : (x y : PlainTree) → tree_cmp x y ≡ Equal → x ≡ y
  tree_cmp_exact (text r) (text s) e = ap (λ k. text k) (exact_bytes r s e)
  tree_cmp_exact (text r) (element u d) e = cc
  tree_cmp_exact (element t c) (text s) e = cc
  tree_cmp_exact (element t c) (element u d) e =
      let both = both_equal (text_cmp t u) (content_cmp c d) e in
      let tags : t ≡ u = exact_bytes t u both.0 in
      let inside : c ≡ d = content_cmp_exact c d both.1 in
      cc

  pub content_cmp_exact : (x y : PlainContent) → content_cmp x y ≡ Equal → x ≡ y
  content_cmp_exact (content xs ts) (content ys us) e =
      let both = both_equal (slice_cmp attr_cmp xs ys) (trees_cmp ts us) e in
      let attrs : xs ≡ ys = lists_exact attr_cmp_exact xs ys both.0 in
      let items : ts ≡ us = trees_cmp_exact ts us both.1 in
      cc

  pub trees_cmp_exact : (x y : PlainTrees) → trees_cmp x y ≡ Equal → x ≡ y
  trees_cmp_exact no_trees no_trees e = refl
  trees_cmp_exact no_trees (tree u us) e = cc
  trees_cmp_exact (tree t ts) no_trees e = cc
  trees_cmp_exact (tree t ts) (tree u us) e =
      let both = both_equal (tree_cmp t u) (trees_cmp ts us) e in
      let first : t ≡ u = tree_cmp_exact t u both.0 in
      let rest : ts ≡ us = trees_cmp_exact ts us both.1 in
      cc

pub tree_cmp_total : IsTotalOrder tree_cmp
tree_cmp_total = record { antisymm = tree_back; trans = λ x y z. (tree_3 x y z).chain; congr = λ x y z. (tree_3 x y z).left }

pub content_cmp_total : IsTotalOrder content_cmp
content_cmp_total = record { antisymm = content_back; trans = λ x y z. (content_3 x y z).chain; congr = λ x y z. (content_3 x y z).left }

pub is_eq_exact : {K : Type 0} {R : K → K → Ordering} → IsTotalOrder R → CmpEqualImpliesEq R → (x y : K) → IsTrue (is_eq (R x y)) ↔ (x ≡ y)
is_eq_exact {K} {R} o exact x y = (λ h. exact x y ((Equal-is (R x y)).0 h), λ e. subst (λ z. IsTrue (is_eq (R x z))) e ((Equal-is (R x x)).1 (tied_itself o x)))

-- equal in the order is equal
pub scalar_cmp-is_eq : (x y : PlainScalar) → IsTrue (is_eq (scalar_cmp x y)) ↔ (x ≡ y)
scalar_cmp-is_eq = is_eq_exact scalar_cmp_total scalar_cmp_exact

pub tree_cmp-is_eq : (x y : PlainTree) → IsTrue (is_eq (tree_cmp x y)) ↔ (x ≡ y)
tree_cmp-is_eq = is_eq_exact tree_cmp_total tree_cmp_exact

pub content_cmp-is_eq : (x y : PlainContent) → IsTrue (is_eq (content_cmp x y)) ↔ (x ≡ y)
content_cmp-is_eq = is_eq_exact content_cmp_total content_cmp_exact

-- the same, of the answer itself
pub equal_exact : {K : Type 0} {R : K → K → Ordering} → IsTotalOrder R → CmpEqualImpliesEq R → (x y : K) → (R x y ≡ Equal) ↔ (x ≡ y)
equal_exact {K} {R} o exact x y = (λ h. exact x y h, λ e. subst (λ z. R x z ≡ Equal) e (tied_itself o x))

pub scalar_cmp-Equal : (x y : PlainScalar) → (scalar_cmp x y ≡ Equal) ↔ (x ≡ y)
scalar_cmp-Equal = equal_exact scalar_cmp_total scalar_cmp_exact

pub tree_cmp-Equal : (x y : PlainTree) → (tree_cmp x y ≡ Equal) ↔ (x ≡ y)
tree_cmp-Equal = equal_exact tree_cmp_total tree_cmp_exact

pub content_cmp-Equal : (x y : PlainContent) → (content_cmp x y ≡ Equal) ↔ (x ≡ y)
content_cmp-Equal = equal_exact content_cmp_total content_cmp_exact

pub ruleset equal = (scalar_cmp-is_eq, tree_cmp-is_eq, content_cmp-is_eq, scalar_cmp-Equal, tree_cmp-Equal, content_cmp-Equal)
