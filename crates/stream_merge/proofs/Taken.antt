-- The first of the kids that are left, beside a label.
use Rattle.std.proofs.Common.{◌≡◌, List, [], ◌∷◌, map, Option, Some, None, IsTrue, refl, subst}
use Rattle.std.specs.List.{AllByRecursion}
use Rattle.std.specs.declared.cmp.Ordering.TheVariants.{Less, Equal, Greater}
use Rattle.keyed_tree.specs.Data.{PlainLabel, PlainKeyed, kids_from, label_of}
use Rattle.keyed_tree.specs.Kids.{ascend, kid_at}
use Rattle.keyed_tree.specs.Laws.{label_cmp_total, label_cmp_exact}
use Rattle.keyed_tree.specs.Order.{label_cmp}
use Rattle.keyed_tree.proofs.Kids.{labels_ascend}
use Rattle.jsonml_tree.proofs.Lists.{all_has, has_all}
use Rattle.nested_merge.specs.Merged.{below, above}

-- each kid is above the label
abbrev pub AreAbove : PlainLabel → List PlainKeyed → Type 0
AreAbove l cs = AllByRecursion (λ x. label_cmp l x ≡ Less) (map label_of cs)

turned_over : (l m : PlainLabel) → label_cmp l m ≡ Less → label_cmp m l ≡ Greater
turned_over l m h = (let back = label_cmp_total.antisymm m l in rw h at back)

turned_back : (l m : PlainLabel) → label_cmp l m ≡ Greater → label_cmp m l ≡ Less
turned_back l m h = (let back = label_cmp_total.antisymm m l in rw h at back)

turned_even : (l m : PlainLabel) → label_cmp l m ≡ Equal → label_cmp m l ≡ Equal
turned_even l m h = (let back = label_cmp_total.antisymm m l in rw h at back)

pub all_left : (l : PlainLabel) (cs : List PlainKeyed) → AreAbove l cs → above l cs ≡ cs
all_left l [] h = refl
all_left l (c ∷ cs) h = (let e = turned_over l (label_of c) h.0 in rw e refl)

no_kid : (l : PlainLabel) (cs : List PlainKeyed) → AreAbove l cs → kid_at l cs ≡ None
no_kid l [] h = refl
no_kid l (c ∷ cs) h = (let e = turned_over l (label_of c) h.0 in rw e (no_kid l cs h.1))

-- what is below the label, what has it, and what is above it
pub record Splits (l : PlainLabel) (cs low : List PlainKeyed) (kid : Option PlainKeyed) (high : List PlainKeyed) : Type 0 where
  pub is_below : below l cs ≡ low
  pub is_kid : kid_at l cs ≡ kid
  pub is_above : above l cs ≡ high

pub splits_none : (l : PlainLabel) → Splits l [] [] None []
splits_none l = record { is_below = refl; is_kid = refl; is_above = refl }

-- the first is below the label
pub splits_on : (l : PlainLabel) (c : PlainKeyed) (cs : List PlainKeyed) → label_cmp l (label_of c) ≡ Greater → Splits l (c ∷ cs) (c ∷ below l cs) (kid_at l cs) (above l cs)
splits_on l c cs h = (let e = turned_back l (label_of c) h in record { is_below = rw e refl; is_kid = rw e refl; is_above = rw e refl })

-- the first has the label
pub splits_at : (l : PlainLabel) (c : PlainKeyed) (cs : List PlainKeyed) → label_cmp l (label_of c) ≡ Equal → IsTrue (ascend (kids_from (c ∷ cs))) → Splits l (c ∷ cs) [] (Some c) cs
splits_at l c cs h up =
    let e = turned_even l (label_of c) h in
    let same : label_of c ≡ l = label_cmp_exact (label_of c) l e in
    let ascends = labels_ascend (c ∷ cs) up in
    let high : AreAbove l cs = subst (λ (m : PlainLabel). AreAbove m cs) same ascends.0 in
    let all = all_left l cs high in
    record { is_below = rw e refl; is_kid = rw e refl; is_above = rw e all }

-- the first is above the label, and so are all
pub splits_before : (l : PlainLabel) (c : PlainKeyed) (cs : List PlainKeyed) → label_cmp l (label_of c) ≡ Less → IsTrue (ascend (kids_from (c ∷ cs))) → Splits l (c ∷ cs) [] None (c ∷ cs)
splits_before l c cs h up =
    let e = turned_over l (label_of c) h in
    let ascends = labels_ascend (c ∷ cs) up in
    let high : AreAbove l cs = has_all (λ x. label_cmp l x ≡ Less) (map label_of cs) (λ x i. label_cmp_total.trans l (label_of c) x h (all_has (λ y. label_cmp (label_of c) y ≡ Less) (map label_of cs) x ascends.0 i)) in
    let none = no_kid l cs high in
    record { is_below = rw e refl; is_kid = rw e none; is_above = rw e refl }
