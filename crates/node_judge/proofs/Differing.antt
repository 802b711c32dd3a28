-- Bytes are all different exactly where neighbours are, once they are in order.
use Rattle.std.proofs.Common.{◌≡◌, ◌≢◌, ◌+◌, ◌<◌, ◌∙◌, ℕ, suc, Bool, true, false, not, IsTrue, List, [], ◌∷◌, map, length, get_or, refl, ap, sym, subst, subst₂, bytes_eq, true≢false, arith}
use Rattle.std.proofs.lemmas.Bool.{and_parts, and_from}
use Rattle.std.proofs.lemmas.Cmp.{nat_list_cmp_total}
use Rattle.std.proofs.lemmas.List.{get_or-map, length-map}
use Rattle.std.proofs.lemmas.List.Sorted.{IsPermutation-sym}
use Rattle.std.proofs.lemmas.Slice.Eq.{bytes_eq-Decides}
use Rattle.std.specs.Cmp.Lexicographic.{slice_cmp}
use Rattle.std.specs.List.{AllByRecursion}
use Rattle.std.specs.List.Sorted.{IsPermutation, IsSortedBy}
use Rattle.std.specs.Ordering.{is_eq, is_lt, nat_cmp, ordering_reverse}
use Rattle.std.specs.declared.cmp.Ordering.{Ordering}
use Rattle.std.specs.declared.cmp.Ordering.TheVariants.{Less, Equal, Greater}
use Rattle.keyed_tree.specs.Data.{PlainKey}
use Rattle.jsonml_tree.specs.Lists.{Ascends}
use Rattle.jsonml_tree.proofs.Lists.{differ_permuted}
use Rattle.archive_tree.specs.PartsTest.{is_same, do_differ}
use Rattle.archive_tree.specs.Stands.{AllDiffer}
use Rattle.archive_tree.proofs.Tells.{bools, differ_tell, is_same-exact}
use Rattle.record_parts.specs.Bounds.{IsValue}
use Rattle.record_parts.specs.ShownParts.{same_values}
use Rattle.record_parts.specs.Spelling.{value_bytes}
use Rattle.node_judge.specs.Neighbours.{differ_from, neighbours_differ}

-- elements in the order of their keys, and the keys in order
pub keys-sorted : {X K : Type 0} (f : X → K) (lt : K → K → Bool) (xs : List X) → IsSortedBy (λ a b. lt (f a) (f b)) xs → IsSortedBy lt (map f xs)
keys-sorted f lt [] h k d low high = absurd (omega arith)
keys-sorted f lt (x ∷ xs) h k d low high =
    let within : k + 1 < length (x ∷ xs) = simp length-map at high in
    subst₂ (λ a b. lt a b ≡ false) (sym (get_or-map f (x ∷ xs) (k + 1) x d within)) (sym (get_or-map f (x ∷ xs) k x d (omega arith))) (h k x low within)

abbrev order : List ℕ → List ℕ → Ordering
order = slice_cmp nat_cmp

abbrev InOrder : List (List ℕ) → Type 0
InOrder = IsSortedBy (λ a b. is_lt (order a b))

-- what does not stand behind other bytes, and differs from them, stands before them
before : (x y : List ℕ) → is_lt (order y x) ≡ false → bytes_eq x y ≡ false → order x y ≡ Less
before x y h n = elim (order x y) as (λ o. order x y ≡ o → o ≡ Less) [
  | Less ↦ λ e. refl
  | Equal ↦ λ e. absurd (true≢false (sym ((bytes_eq-Decides x y).1 ((is_same-exact x y).0 (ap is_eq e))) ∙ n))
  | Greater ↦ λ e. absurd (true≢false (sym (ap is_lt (nat_list_cmp_total.antisymm y x ∙ ap ordering_reverse e)) ∙ h))
] refl

less-apart : (x y : List ℕ) → order x y ≡ Less → x ≢ y
less-apart x y h e = true≢false (sym ((is_same-exact x y).1 e) ∙ ap is_eq h)

lower : (x y : List ℕ) (zs : List (List ℕ)) → order x y ≡ Less → AllByRecursion (λ z. order y z ≡ Less) zs → AllByRecursion (λ z. order x z ≡ Less) zs
lower x y [] e h = tt
lower x y (z ∷ zs) e h = (nat_list_cmp_total.trans x y z e h.0, lower x y zs e h.1)

not_false : (b : Bool) → IsTrue (not b) → b ≡ false
not_false true h = absurd (true≢false (sym h))
not_false false h = refl

strict : (x : List ℕ) (xs : List (List ℕ)) → InOrder (x ∷ xs) → IsTrue (differ_from x xs) → AllByRecursion (λ y. order x y ≡ Less) xs × Ascends order xs
strict x [] s h = (tt, tt)
strict x (y ∷ ys) s h =
    let two = and_parts (not (bytes_eq x y)) (differ_from y ys) h in
    let less = before x y (s 0 x (omega arith) (omega arith)) (not_false (bytes_eq x y) two.0) in
    let rest = strict y ys (λ k d low high. subst (λ n. is_lt (order (get_or (x ∷ y ∷ ys) n d) (get_or (y ∷ ys) k d)) ≡ false) (next k) (s (suc k) d (omega arith) (omega arith))) two.1 in
    ((less, lower x y ys less rest.0), rest)
  where
    next : (k : ℕ) → suc k + 1 ≡ suc (k + 1)
    next k = omega arith

ascend-differ : (xs : List (List ℕ)) → Ascends order xs → AllDiffer xs
ascend-differ [] h = tt
ascend-differ (x ∷ xs) h = (apart xs h.0, ascend-differ xs h.1)
  where
    apart : (ys : List (List ℕ)) → AllByRecursion (λ y. order x y ≡ Less) ys → AllByRecursion (λ y. x ≢ y) ys
    apart [] h = tt
    apart (y ∷ ys) h = (less-apart x y h.0, apart ys h.1)

-- neighbours differ, and so all do
neighbours-all : (xs : List (List ℕ)) → InOrder xs → IsTrue (neighbours_differ xs) → AllDiffer xs
neighbours-all [] s h = tt
neighbours-all (x ∷ xs) s h = ascend-differ (x ∷ xs) (strict x xs s h)

all-neighbours : (xs : List (List ℕ)) → AllDiffer xs → IsTrue (neighbours_differ xs)
all-neighbours [] h = refl
all-neighbours (x ∷ xs) h = from x xs h
  where
    from : (x : List ℕ) (xs : List (List ℕ)) → AllDiffer (x ∷ xs) → IsTrue (differ_from x xs)
    from x [] h = refl
    from x (y ∷ ys) h = and_from (not (bytes_eq x y)) (differ_from y ys) (other (bytes_eq x y) (λ e. h.0.0 ((bytes_eq-Decides x y).0 e))) (from y ys h.1)
      where
        other : (b : Bool) → (b ≡ true → ⊥) → IsTrue (not b)
        other true n = absurd (n refl)
        other false n = refl

-- ---- bodies and their bytes

module _ (k : PlainKey) (is : IsValue k) where
  bytes-apart : (ks : List PlainKey) → AllByRecursion IsValue ks → AllByRecursion (λ j. k ≢ j) ks → AllByRecursion (λ x. value_bytes k ≢ x) (map value_bytes ks)
  bytes-apart [] v h = tt
  bytes-apart (j ∷ ks) v h = (λ e. h.0 (same_values k j is v.0 e), bytes-apart ks v.1 h.1)

  keys-apart : (ks : List PlainKey) → AllByRecursion (λ x. value_bytes k ≢ x) (map value_bytes ks) → AllByRecursion (λ j. k ≢ j) ks
  keys-apart [] h = tt
  keys-apart (j ∷ ks) h = (λ e. h.0 (ap value_bytes e), keys-apart ks h.1)

bytes-differ : (ks : List PlainKey) → AllByRecursion IsValue ks → AllDiffer ks → AllDiffer (map value_bytes ks)
bytes-differ [] v h = tt
bytes-differ (k ∷ ks) v h = (bytes-apart k v.0 ks v.1 h.0, bytes-differ ks v.1 h.1)

keys-differ : (ks : List PlainKey) → AllByRecursion IsValue ks → AllDiffer (map value_bytes ks) → AllDiffer ks
keys-differ [] v h = tt
keys-differ (k ∷ ks) v h = (keys-apart k v.0 ks h.0, keys-differ ks v.1 h.1)

pub differ-is : (ks : List PlainKey) → AllByRecursion IsValue ks → (all sorted : List (List ℕ)) → all ≡ map value_bytes ks → IsPermutation all sorted → InOrder sorted → neighbours_differ sorted ≡ do_differ ks
differ-is ks v all sorted e p up =
    bools (neighbours_differ sorted) (do_differ ks)
    (λ h. (differ_tell ks).1 (keys-differ ks v (subst AllDiffer e (differ_permuted is_same is_same-exact sorted all (IsPermutation-sym all sorted p) (neighbours-all sorted up h)))))
    (λ h. all-neighbours sorted (differ_permuted is_same is_same-exact all sorted p (subst AllDiffer (sym e) (bytes-differ ks v ((differ_tell ks).0 h)))))
