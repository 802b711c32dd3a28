-- A fresh node stands for its one version.
use Rattle.std.proofs.Common.{◌≡◌, ◌≢◌, ℕ, true, false, cond, IsTrue, List, [], ◌∷◌, map, Some, None, refl, ap, sym, subst, ◌∙◌, inl, inr}
use Rattle.std.specs.Ordering.{is_eq}
use Rattle.keyed_tree.specs.Data.{PlainKey, PlainLabel, PlainKeyed, inner, leaf, label_of, PlainKids, no_kids, kid, kids_list}
use Rattle.keyed_tree.specs.Kids.{ascend, is_ordered, are_ordered, IsOrdered, kid_at}
use Rattle.keyed_tree.specs.Laws.{key_cmp-is_eq}
use Rattle.keyed_tree.specs.Lists.{Ascends, Has}
use Rattle.keyed_tree.specs.Order.{key_cmp, label_cmp}
use Rattle.jsonml_tree.proofs.Lists.{has_map}
use Rattle.keyed_tree.proofs.Kids.{both, ascend-all, found_at, has_found}
use Rattle.archive_tree.specs.Data.{Stamp, node_label}
use Rattle.archive_tree.specs.Stands.{Stamped, nums, nums_with, under, labels, StandsFor, EachStands}
use Rattle.nested_merge.specs.Merged.{fresh, fresh_row}
use Rattle.archive_tree.proofs.Those.{onto}
use Rattle.nested_merge.proofs.Stamps.{inherits}

pub fresh_label : (s : Stamp) (k : PlainKeyed) → node_label (fresh s k) ≡ label_of k
fresh_label s (inner l ks) = refl
fresh_label s (leaf l b) = refl

labels_fresh : (ks : PlainKids) → labels (fresh_row ks) ≡ map label_of (kids_list ks)
labels_fresh no_kids = refl
labels_fresh (kid k ks) = λ i. fresh_label None k i ∷ labels_fresh ks i

-- a kid that is found has its label among the kids
pub found_label : (l : PlainLabel) (ks : List PlainKeyed) (n : ℕ) → onto n (kid_at l ks) [] ≢ [] → Has l (map label_of ks)
found_label l ks n h =
    elim (kid_at l ks) as (λ o. kid_at l ks ≡ o → onto n o [] ≢ [] → Has l (map label_of ks)) [
      | None ↦ λ e g. absurd (g refl)
      | Some c ↦ λ e g. (let found = has_found l c ks e in subst (λ z. Has z (map label_of ks)) found.1 (has_map label_of c ks found.0))
    ] refl h

with_one : (l : PlainLabel) (b c : PlainKey) (n : ℕ) → nums_with ((n, leaf l b) ∷ []) c ≢ [] → b ≡ c
with_one l b c n h =
    elim (is_eq (key_cmp b c)) as (λ t. is_eq (key_cmp b c) ≡ t → nums (onto n (cond t (Some (leaf l b)) None) []) ≢ [] → b ≡ c) [
      | true ↦ λ e g. (key_cmp-is_eq b c).0 e
      | false ↦ λ e g. absurd (g refl)
    ] refl h

own : (l : PlainLabel) (b : PlainKey) (n : ℕ) → nums_with ((n, leaf l b) ∷ []) b ≡ n ∷ []
own l b n = (let e = (key_cmp-is_eq b b).1 refl in rw e)

mutual
  pub fresh_stands : (k : PlainKeyed) (s : Stamp) (n : ℕ) (ps : List ℕ) → IsOrdered k → Stamped s (n ∷ []) ps → StandsFor (fresh s k) ((n, k) ∷ []) ps
  fresh_stands (inner l ks) s n ps h g =
      let two = both (ascend ks) (are_ordered ks) h in
      let up = ascend-all ks two.0 in
      record {
        common = record { some = λ e. cc; labelled = (refl, tt); stamped = g };
        inners = (tt, tt);
        row = record {
          ascending = subst (λ z. Ascends label_cmp z) (sym (labels_fresh ks)) up;
          kids = fresh_each ks (under ((n, inner l ks) ∷ [])) n two.1 (λ k m. ap (λ o. onto n o []) (found_at k (kids_list ks) up m));
          covered = λ m e. subst (λ z. Has m z) (sym (labels_fresh ks)) (found_label m (kids_list ks) n e);
        };
      }
  fresh_stands (leaf l b) s n ps h g =
      record {
        common = record { some = λ e. cc; labelled = (refl, tt); stamped = g };
        leaves = (tt, tt);
        different = (tt, tt);
        in_order = (tt, tt);
        alts = (record { some = λ e. (let d = own l b n in cc); stamped = subst (λ z. Stamped None z (n ∷ [])) (sym (own l b n)) (inherits (n ∷ [])) }, tt);
        covered = λ c e. inl (with_one l b c n e);
      }

  fresh_each : (ks : PlainKids) (u : PlainLabel → List (ℕ × PlainKeyed)) (n : ℕ) → IsTrue (are_ordered ks) → ((k : PlainKeyed) → Has k (kids_list ks) → u (label_of k) ≡ (n, k) ∷ []) → EachStands (fresh_row ks) u (n ∷ [])
  fresh_each no_kids u n h e = tt
  fresh_each (kid k ks) u n h e =
      let two = both (is_ordered k) (are_ordered ks) h in
      let here = fresh_stands k None n (n ∷ []) two.0 (inherits (n ∷ [])) in
      let list : u (node_label (fresh None k)) ≡ (n, k) ∷ [] = ap u (fresh_label None k) ∙ e k (inl refl) in
      (subst (λ z. StandsFor (fresh None k) z (n ∷ [])) (sym list) here, fresh_each ks u n two.1 (λ j m. e j (inr m)))
