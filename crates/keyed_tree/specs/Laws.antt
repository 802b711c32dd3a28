-- The laws of the order of labels.
use Rattle.std.proofs.Common.{◌≡◌, ℕ, [], IsTrue, ◌↔◌, refl, ap, subst}
use Rattle.std.proofs.lemmas.Cmp.{nat_cmp_total, nat_list_cmp_total, lists_total, on_total, then_total}
use Rattle.std.proofs.lemmas.Map.Lookups.{CmpEqualImpliesEq, exact_bytes}
use Rattle.std.specs.Cmp.{IsTotalOrder}
use Rattle.std.specs.Cmp.Lexicographic.{slice_cmp}
use Rattle.std.specs.Ordering.{is_eq, nat_cmp, on, then_cmp}
use Rattle.std.specs.declared.cmp.Ordering.{Ordering}
use Rattle.std.specs.declared.cmp.Ordering.TheVariants.{Equal}
use Rattle.jsonml_tree.specs.Data.{PlainScalar, null, PlainContent, content, no_trees}
use Rattle.jsonml_tree.specs.Order.{text_cmp, scalar_cmp, content_cmp}
use Rattle.jsonml_tree.specs.Laws.{scalar_cmp_total, scalar_cmp_exact, content_cmp_total, content_cmp_exact, lists_exact, both_equal, is_eq_exact, equal_exact, then-Equal}
use Rattle.keyed_tree.specs.Data.{PlainName, attr, tag, name_bytes, PlainKey, scalar, inside, PlainLabel}
use Rattle.keyed_tree.specs.Order.{name_cmp, key_cmp, label_cmp}

abbrev name_rank : PlainName → ℕ
name_rank (attr s) = 0
name_rank (tag s) = 1

abbrev name_parts : PlainName → PlainName → Ordering
name_parts = then_cmp (on name_rank nat_cmp) (on name_bytes text_cmp)

name_as_parts : (x y : PlainName) → name_parts x y ≡ name_cmp x y
name_as_parts (attr r) (attr s) = refl
name_as_parts (attr r) (tag s) = refl
name_as_parts (tag r) (attr s) = refl
name_as_parts (tag r) (tag s) = refl

pub name_cmp_total : IsTotalOrder name_cmp
name_cmp_total =
    let parts : IsTotalOrder name_parts = then_total (on_total name_rank nat_cmp_total) (on_total name_bytes nat_list_cmp_total) in
    subst IsTotalOrder (λ i x y. name_as_parts x y i) parts

abbrev key_rank : PlainKey → ℕ
key_rank (scalar s) = 0
key_rank (inside c) = 1

abbrev key_scalar : PlainKey → PlainScalar
key_scalar (scalar s) = s
key_scalar (inside c) = null

abbrev key_content : PlainKey → PlainContent
key_content (scalar s) = content [] no_trees
key_content (inside c) = c

abbrev key_parts : PlainKey → PlainKey → Ordering
key_parts = then_cmp (on key_rank nat_cmp) (then_cmp (on key_scalar scalar_cmp) (on key_content content_cmp))

key_as_parts : (x y : PlainKey) → key_parts x y ≡ key_cmp x y
key_as_parts (scalar r) (scalar s) = then-Equal (scalar_cmp r s)
key_as_parts (scalar r) (inside s) = refl
key_as_parts (inside r) (scalar s) = refl
key_as_parts (inside r) (inside s) = refl

pub key_cmp_total : IsTotalOrder key_cmp
key_cmp_total =
    let parts : IsTotalOrder key_parts = then_total (on_total key_rank nat_cmp_total) (then_total (on_total key_scalar scalar_cmp_total) (on_total key_content content_cmp_total)) in
    subst IsTotalOrder (λ i x y. key_as_parts x y i) parts

pub label_cmp_total : IsTotalOrder label_cmp
label_cmp_total = then_total (on_total (λ (l : PlainLabel). l.name) name_cmp_total) (on_total (λ (l : PlainLabel). l.keys) (lists_total key_cmp_total))

-- ---- equal in the order is equal

pub name_cmp_exact : CmpEqualImpliesEq name_cmp
name_cmp_exact (attr r) (attr s) e = ap (λ z. attr z) (exact_bytes r s e)
name_cmp_exact (attr r) (tag s) e = cc
name_cmp_exact (tag r) (attr s) e = cc
name_cmp_exact (tag r) (tag s) e = ap (λ z. tag z) (exact_bytes r s e)

pub key_cmp_exact : CmpEqualImpliesEq key_cmp
key_cmp_exact (scalar r) (scalar s) e = ap (λ z. scalar z) (scalar_cmp_exact r s e)
key_cmp_exact (scalar r) (inside d) e = cc
key_cmp_exact (inside c) (scalar s) e = cc
key_cmp_exact (inside c) (inside d) e = ap (λ z. inside z) (content_cmp_exact c d e)

pub label_cmp_exact : CmpEqualImpliesEq label_cmp
label_cmp_exact a b e =
    let both = both_equal (name_cmp a.name b.name) (slice_cmp key_cmp a.keys b.keys) e in
    let names : a.name ≡ b.name = name_cmp_exact a.name b.name both.0 in
    let keys : a.keys ≡ b.keys = lists_exact key_cmp_exact a.keys b.keys both.1 in
    λ i. record { name = names i; keys = keys i }

pub key_cmp-is_eq : (x y : PlainKey) → IsTrue (is_eq (key_cmp x y)) ↔ (x ≡ y)
key_cmp-is_eq = is_eq_exact key_cmp_total key_cmp_exact

pub label_cmp-is_eq : (x y : PlainLabel) → IsTrue (is_eq (label_cmp x y)) ↔ (x ≡ y)
label_cmp-is_eq = is_eq_exact label_cmp_total label_cmp_exact

pub key_cmp-Equal : (x y : PlainKey) → (key_cmp x y ≡ Equal) ↔ (x ≡ y)
key_cmp-Equal = equal_exact key_cmp_total key_cmp_exact

pub label_cmp-Equal : (x y : PlainLabel) → (label_cmp x y ≡ Equal) ↔ (x ≡ y)
label_cmp-Equal = equal_exact label_cmp_total label_cmp_exact

pub ruleset equal = (key_cmp-is_eq, label_cmp-is_eq, key_cmp-Equal, label_cmp-Equal)
