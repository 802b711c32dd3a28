-- The steps of a walk along a row of a new archive and the kids of a version.
use Rattle.std.proofs.Common.{◌≡◌, ℕ, zero, suc, ◌+◌, ◌<◌, ◌≤◌, IsTrue, List, [], ◌∷◌, ◌++◌, map, length, take, drop, get_or, refl, ap, sym, subst, ◌∙◌, arith}
use Rattle.std.specs.List.{AllByRecursion}
use Rattle.std.specs.declared.cmp.Ordering.TheVariants.{Less, Equal, Greater}
use Rattle.keyed_tree.specs.Data.{PlainLabel, PlainKeyed, kids_from, label_of}
use Rattle.keyed_tree.specs.Kids.{ascend}
use Rattle.keyed_tree.specs.Laws.{label_cmp_total, label_cmp-Equal}
use Rattle.keyed_tree.specs.Lists.{Ascends}
use Rattle.keyed_tree.specs.Order.{label_cmp}
use Rattle.nested_merge.proofs.Rows.{above_all, kid_at-Greater}
use Rattle.new_archive.specs.Full.{PlainFull, PlainFulls, no_fulls, full, fulls_from, fulls_list, full_label}
use Rattle.new_archive.specs.Place.{added_list}
use Rattle.new_archive.specs.Added.{new_full, new_fulls, added}

pub fulls_list-fulls_from : (ks : List PlainFull) → fulls_list (fulls_from ks) ≡ ks
fulls_list-fulls_from [] = refl
fulls_list-fulls_from (k ∷ ks) = ap (λ z. k ∷ z) (fulls_list-fulls_from ks)

pub fulls_from-fulls_list : (ks : PlainFulls) → fulls_from (fulls_list ks) ≡ ks
fulls_from-fulls_list no_fulls = refl
fulls_from-fulls_list (full k ks) = ap (λ z. full k z) (fulls_from-fulls_list ks)

pub new_fulls-kids_from : (n : ℕ) (ks : List PlainKeyed) → new_fulls n (kids_from ks) ≡ fulls_from (map (new_full n) ks)
new_fulls-kids_from n [] = refl
new_fulls-kids_from n (k ∷ ks) = ap (λ z. full (new_full n k) z) (new_fulls-kids_from n ks)

-- ---- the steps

back : (x y : PlainLabel) → label_cmp x y ≡ Less → label_cmp y x ≡ Greater
back x y e = (let other = label_cmp_total.antisymm y x in rw e at other)

module _ (n : ℕ) where
  -- the node has the first kid's label
  pub step_met : (k : PlainFull) (ks : List PlainFull) (c : PlainKeyed) (cs : List PlainKeyed) → full_label k ≡ label_of c → IsTrue (ascend (kids_from (c ∷ cs))) → added_list n (k ∷ ks) (c ∷ cs) ≡ added n k c ∷ added_list n ks cs
  step_met k ks c cs e h =
      let same : label_cmp (label_of c) (full_label k) ≡ Equal = (label_cmp-Equal (label_of c) (full_label k)).1 (sym e) in
      rw same (ap (λ z. added n k c ∷ added_list n ks z) (above_all (full_label k) c cs same h))

  -- the node is below the first kid
  pub step_passed : (k : PlainFull) (ks : List PlainFull) (c : PlainKeyed) (cs : List PlainKeyed) → label_cmp (full_label k) (label_of c) ≡ Less → IsTrue (ascend (kids_from (c ∷ cs))) → added_list n (k ∷ ks) (c ∷ cs) ≡ k ∷ added_list n ks (c ∷ cs)
  step_passed k ks c cs e h =
      let high = back (full_label k) (label_of c) e in
      let none = kid_at-Greater (full_label k) c cs high h in
      rw none (rw high refl)

  -- the first kid is below the node
  pub step_new : (k : PlainFull) (ks : List PlainFull) (c : PlainKeyed) (cs : List PlainKeyed) → label_cmp (label_of c) (full_label k) ≡ Less → added_list n (k ∷ ks) (c ∷ cs) ≡ new_full n c ∷ added_list n (k ∷ ks) cs
  step_new k ks c cs e = rw e refl

  -- the kids are all done
  pub step_end : (ks : List PlainFull) → added_list n ks [] ≡ ks
  step_end [] = refl
  step_end (k ∷ ks) = ap (λ z. k ∷ z) (step_end ks)

-- ---- a kid at its place

below_at : (P : PlainLabel → Type 0) (ks : List PlainFull) (i : ℕ) (d : PlainFull) → AllByRecursion P (map full_label ks) → i < length ks → P (full_label (get_or ks i d))
below_at P [] i d h low = absurd (omega arith)
below_at P (k ∷ ks) zero d h low = h.0
below_at P (k ∷ ks) (suc i) d h low = below_at P ks i d h.1 (omega arith)

module _ (n : ℕ) (c : PlainKeyed) where
  -- it has the label of the node there
  pub row_met : (ks : List PlainFull) (i : ℕ) (d : PlainFull) (cs : List PlainKeyed) → Ascends label_cmp (map full_label ks) → i < length ks → full_label (get_or ks i d) ≡ label_of c → IsTrue (ascend (kids_from (c ∷ cs)))
      → added_list n ks (c ∷ cs) ≡ take i ks ++ added n (get_or ks i d) c ∷ added_list n (drop (i + 1) ks) cs
  row_met [] i d cs up low e h = absurd (omega arith)
  row_met (k ∷ ks) zero d cs up low e h = step_met n k ks c cs e h
  row_met (k ∷ ks) (suc i) d cs up low e h =
      let less : label_cmp (full_label k) (label_of c) ≡ Less = subst (λ m. label_cmp (full_label k) m ≡ Less) e (below_at (λ m. label_cmp (full_label k) m ≡ Less) ks i d up.0 (omega arith)) in
      let place : suc i + 1 ≡ suc (i + 1) = omega arith in
      rw place (step_passed n k ks c cs less h ∙ ap (λ z. k ∷ z) (row_met ks i d cs up.1 (omega arith) e h))

  -- no node has its label: those before the place are below it, and those from there on above
  pub row_new : (ks : List PlainFull) (i : ℕ) (cs : List PlainKeyed) → i ≤ length ks
      → ((j : ℕ) (d : PlainFull) → j < i → label_cmp (full_label (get_or ks j d)) (label_of c) ≡ Less)
      → ((j : ℕ) (d : PlainFull) → i ≤ j → j < length ks → label_cmp (full_label (get_or ks j d)) (label_of c) ≡ Greater)
      → IsTrue (ascend (kids_from (c ∷ cs))) → added_list n ks (c ∷ cs) ≡ take i ks ++ new_full n c ∷ added_list n (drop i ks) cs
  row_new [] zero cs in_range low high h = refl
  row_new [] (suc i) cs in_range low high h = absurd (omega arith)
  row_new (k ∷ ks) zero cs in_range low high h =
      let great = high 0 k (omega arith) (omega arith) in
      let less : label_cmp (label_of c) (full_label k) ≡ Less = (let other = label_cmp_total.antisymm (label_of c) (full_label k) in rw great at other) in
      step_new n k ks c cs less
  row_new (k ∷ ks) (suc i) cs in_range low high h =
      step_passed n k ks c cs (low 0 k (omega arith)) h
      ∙ ap (λ z. k ∷ z) (row_new ks i cs (omega arith) (λ j d g. low (suc j) d (omega arith)) (λ j d f g. high (suc j) d (omega arith) (omega arith)) h)
