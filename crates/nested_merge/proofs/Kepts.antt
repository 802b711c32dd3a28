-- The archive of some versions, of which no more is known, with one more version.
use Rattle.std.proofs.Common.{◌≡◌, ℕ, ◌+◌, ◌≤◌, ◌<◌, true, IsTrue, List, [], ◌∷◌, ◌++◌, map, length, get_or, take, Some, ap, sym, subst, ◌∙◌, inl, inr, zero, suc}
use Rattle.std.proofs.lemmas.List.{take_more, map-append}
use Rattle.std.proofs.Math.Bool.{Bool-set}
use Rattle.std.proofs.Math.Logic.{∥∥₁_elim, ∥∥₁_map}
use Rattle.std.specs.List.{AllByRecursion}
use Rattle.version_set.specs.Members.{upto_pairs}
use Rattle.keyed_tree.specs.Alike.{AllAlike}
use Rattle.keyed_tree.specs.Data.{PlainKeyed}
use Rattle.keyed_tree.specs.Kids.{IsOrdered}
use Rattle.keyed_tree.specs.Lists.{Has}
use Rattle.keyed_tree.specs.Proper.{IsElement}
use Rattle.jsonml_tree.proofs.Lists.{all_has, at_has, has_map}
use Rattle.archive_tree.specs.Data.{PlainNodes, PlainArchive}
use Rattle.archive_tree.specs.Stands.{ArchiveOf, Kept}
use Rattle.archive_tree.proofs.Readings.{one_list}
use Rattle.nested_merge.specs.Alike.{AlikeAll}
use Rattle.nested_merge.specs.Below.{are_nodes_below}
use Rattle.archive_tree.specs.Read.{version_at}
use Rattle.nested_merge.specs.Merged.{merged_row, with_version}
use Rattle.nested_merge.proofs.ArchiveGrows.{archive_grows}
use Rattle.nested_merge.proofs.Bounds.{archive_below}
use Rattle.nested_merge.proofs.VersionsStay.{stays, added, read_alike}

pub kept_below : (a : PlainArchive) → ∥ Kept a ∥₁ → IsTrue (are_nodes_below (a.n + 1) a.kids)
kept_below a kept = ∥∥₁_elim {P = IsTrue (are_nodes_below (a.n + 1) a.kids)} kept (Bool-set (are_nodes_below (a.n + 1) a.kids) true) (λ k. archive_below k.versions a k.is)

-- the parts that a merge makes are those of the archive with the version
pub made_version : (a : PlainArchive) (k : PlainKeyed) (n : ℕ) (ks js : PlainNodes) → ◌≡◌ {A = PlainArchive} (record { n = n; kids = ks }) a → js ≡ merged_row (n + 1) (upto_pairs n) ks (k ∷ [])
    → ◌≡◌ {A = PlainArchive} (record { n = n + 1; kids = js }) (with_version a k)
made_version a k n ks js parts grown = (λ i. record { n = n + 1; kids = grown i }) ∙ ap (λ (z : PlainArchive). with_version z k) parts

module _ (a : PlainArchive) (k : PlainKeyed) (kept : ∥ Kept a ∥₁) (alike : (vs : List PlainKeyed) → ArchiveOf vs a → AlikeAll vs k) (ordered : IsOrdered k) (element : IsElement k) where
  grows : (v : Kept a) → ArchiveOf (v.versions ++ k ∷ []) (with_version a k)
  grows v = archive_grows v.versions a k v.is (alike v.versions v.is) ordered element

  pub kept_grows : ∥ Kept (with_version a k) ∥₁
  kept_grows = ∥∥₁_map kept (λ (v : Kept a). record { versions = v.versions ++ k ∷ []; is = grows v })

  pub kept_stays : (i : ℕ) → 1 ≤ i → i ≤ a.n → version_at i (with_version a k) ≡ version_at i a
  kept_stays i from to = read_alike a _ _ kept (λ v. stays v.versions k a (with_version a k) v.is (grows v) i from to)

  pub kept_added : version_at (a.n + 1) (with_version a k) ≡ Some k
  kept_added = read_alike a _ _ kept (λ v. added v.versions k a (with_version a k) v.is (grows v))

-- ---- versions one after another

module _ {X : Type 0} (view : X → PlainKeyed) (xs : List X) (i : ℕ) (x : X) (h : i < length xs) (e : x ≡ get_or xs i x) where
  here : Has (view x) (map view xs)
  here = has_map view x xs (at_has xs i x h (sym e))

  pub all_at : (P : PlainKeyed → Type 0) → AllByRecursion P (map view xs) → P (view x)
  all_at P all = all_has P (map view xs) (view x) all here

  map_take : (n : ℕ) (v : PlainKeyed) → Has v (map view (take n xs)) → Has v (map view xs)
  map_take n v m = mapped xs n v m
    where
      mapped : (ys : List X) (n : ℕ) (v : PlainKeyed) → Has v (map view (take n ys)) → Has v (map view ys)
      mapped [] zero v m = m
      mapped [] (suc n) v m = m
      mapped (y ∷ ys) zero v m = absurd m
      mapped (y ∷ ys) (suc n) v m = elim m [ inl e ↦ inl e | inr i ↦ inr (mapped ys n v i) ]

  pub alike_at : (a : PlainArchive) → AllAlike (map view xs) → ArchiveOf (map view (take i xs)) a → (vs : List PlainKeyed) → ArchiveOf vs a → AlikeAll vs (view x)
  alike_at a all is vs also v m =
      let same : vs ≡ map view (take i xs) = one_list vs (map view (take i xs)) a also is in
      all v (view x) (map_take i v (subst (λ z. Has v z) same m)) here

  pub one_more : map view (take i xs) ++ view x ∷ [] ≡ map view (take (i + 1) xs)
  one_more = sym (ap (map view) (take_more xs i x h ∙ ap (λ z. take i xs ++ z ∷ []) (sym e)) ∙ map-append view (take i xs) (x ∷ []))
