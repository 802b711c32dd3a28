-- The steps of a walk along the kids of a version.
use Rattle.std.proofs.Common.{◌≡◌, ℕ, ◌+◌, ◌≤◌, IsTrue, List, [], ◌∷◌, ◌++◌, length, map, take, drop, ap, sym, subst, ◌∙◌}
use Rattle.std.specs.List.{AllByRecursion}
use Rattle.keyed_tree.specs.Data.{PlainLabel, PlainKeyed, inner, kids_from}
use Rattle.keyed_tree.specs.Kids.{ascend, is_ordered, are_ordered, IsOrdered}
use Rattle.keyed_tree.proofs.Kids.{both}
use Rattle.jsonml_tree.specs.Lists.{AllDiffer, Ascends}
use Rattle.keyed_tree.specs.Order.{label_cmp}
use Rattle.nested_merge.proofs.Rows.{ascend_tail, ordered_tail}
use Rattle.new_archive.specs.Full.{FullAlt, PlainFull, PlainFulls, full_inner, full_leaf, fulls_from, full_label, full_bodies}
use Rattle.new_archive.specs.Place.{added_list, IsPut}
use Rattle.new_archive.specs.Ready.{IsBelow, IsReady, AreReady}
use Rattle.new_archive.proofs.Rows.{fulls_list-fulls_from, step_end}
use Rattle.new_archive.specs.Woven.{ArePlaced, woven}
use Rattle.new_archive.proofs.Puts.{all_woven}
use Rattle.new_archive.proofs.Sizes.{tree_size, list_size}

-- ---- the kids that are left

pub record Next (left : List PlainKeyed) (c : PlainKeyed) (behind : List PlainKeyed) : Type 0 where
  pub ordered : IsOrdered c
  pub ascending : IsTrue (ascend (kids_from behind))
  pub later : IsTrue (are_ordered (kids_from behind))
  pub size : list_size left ≡ 4 + tree_size c + list_size behind

pub next : (left : List PlainKeyed) (c : PlainKeyed) (behind : List PlainKeyed) → left ≡ c ∷ behind → IsTrue (ascend (kids_from left)) → IsTrue (are_ordered (kids_from left)) → Next left c behind
next left c behind e a o =
    let up : IsTrue (ascend (kids_from (c ∷ behind))) = subst (λ z. IsTrue (ascend (kids_from z))) e a in
    let all : IsTrue (are_ordered (kids_from (c ∷ behind))) = subst (λ z. IsTrue (are_ordered (kids_from z))) e o in
    record {
      ordered = (both (is_ordered c) (are_ordered (kids_from behind)) all).0;
      ascending = ascend_tail c behind up;
      later = ordered_tail c behind all;
      size = ap list_size e;
    }

module _ (n : ℕ) (old row : List PlainFull) (fs : List (ℕ × PlainFull)) (from : ℕ) (all left : List PlainKeyed) (whole : woven 0 (take from row) fs ++ added_list n (drop from row) left ≡ added_list n old all) where
  -- one kid more is done
  pub put_on : (c : PlainKeyed) (behind : List PlainKeyed) (to : ℕ) (js : List PlainFull) (gs : List (ℕ × PlainFull)) → left ≡ c ∷ behind → IsTrue (ascend (kids_from left)) → IsPut n row fs from c to js gs
      → woven 0 (take to js) gs ++ added_list n (drop to js) behind ≡ added_list n old all
  put_on c behind to js gs e a p =
      p.whole behind (subst (λ z. IsTrue (ascend (kids_from z))) e a) ∙ ap (λ z. woven 0 (take from row) fs ++ added_list n (drop from row) z) (sym e) ∙ whole

  -- all are done
  pub row_done : from ≤ length row → ArePlaced 0 from fs → left ≡ [] → woven 0 row fs ≡ added_list n old all
  row_done begins placed e = sym (all_woven row fs from begins placed) ∙ ap (λ z. woven 0 (take from row) fs ++ z) (sym (step_end n (drop from row))) ∙ ap (λ z. woven 0 (take from row) fs ++ added_list n (drop from row) z) (sym e) ∙ whole

-- ---- a node

pub record InnerReady (n : ℕ) (s : List (ℕ × ℕ)) (ks : List PlainFull) : Type 0 where
  pub set : IsBelow n s
  pub rising : Ascends label_cmp (map full_label ks)
  pub ready : AreReady n (fulls_from ks)

pub inner_ready : (n : ℕ) (k : PlainFull) (l : PlainLabel) (s : List (ℕ × ℕ)) (ks : List PlainFull) → k ≡ full_inner l s (fulls_from ks) → IsReady n k → InnerReady n s ks
inner_ready n k l s ks e h =
    let here : IsReady n (full_inner l s (fulls_from ks)) = subst (λ z. IsReady n z) e h in
    record {
      set = here.0;
      rising = subst (λ z. Ascends label_cmp (map full_label z)) (fulls_list-fulls_from ks) here.1;
      ready = here.2;
    }

pub record LeafReady (n : ℕ) (s : List (ℕ × ℕ)) (xs : List FullAlt) : Type 0 where
  pub set : IsBelow n s
  pub below : AllByRecursion (λ (x : FullAlt). IsBelow n x.numbers) xs
  pub differ : AllDiffer (full_bodies xs)

pub leaf_ready : (n : ℕ) (k : PlainFull) (l : PlainLabel) (s : List (ℕ × ℕ)) (xs : List FullAlt) → k ≡ full_leaf l s xs → IsReady n k → LeafReady n s xs
leaf_ready n k l s xs e h =
    let here : IsReady n (full_leaf l s xs) = subst (λ z. IsReady n z) e h in
    record { set = here.0; below = here.1; differ = here.2 }

pub record InnerKids (k : PlainKeyed) (cs : List PlainKeyed) : Type 0 where
  pub ascending : IsTrue (ascend (kids_from cs))
  pub ordered : IsTrue (are_ordered (kids_from cs))
  pub size : tree_size k ≡ 1 + list_size cs

pub inner_kids : (k : PlainKeyed) (l : PlainLabel) (cs : List PlainKeyed) → k ≡ inner l (kids_from cs) → IsOrdered k → InnerKids k cs
inner_kids k l cs e h =
    let two = both (ascend (kids_from cs)) (are_ordered (kids_from cs)) (subst (λ z. IsOrdered z) e h) in
    record { ascending = two.0; ordered = two.1; size = ap tree_size e }

-- nodes of the same parts
pub same_inner : (l m : PlainLabel) (s t : List (ℕ × ℕ)) (ks js : PlainFulls) → l ≡ m → s ≡ t → ks ≡ js → full_inner l s ks ≡ full_inner m t js
same_inner l m s t ks js e f g i = full_inner (e i) (f i) (g i)

pub same_leaf : (l m : PlainLabel) (s t : List (ℕ × ℕ)) (xs ys : List FullAlt) → l ≡ m → s ≡ t → xs ≡ ys → full_leaf l s xs ≡ full_leaf m t ys
same_leaf l m s t xs ys e f g i = full_leaf (e i) (f i) (g i)
