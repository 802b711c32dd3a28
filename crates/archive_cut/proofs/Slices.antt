-- The archive of some of the versions.
use Rattle.std.proofs.Common.{◌≡◌, ℕ, zero, suc, ◌+◌, ◌-◌, ◌<◌, ◌≤◌, List, [], ◌∷◌, take, drop, length, refl, ap, sym, subst, ◌∙◌, arith, inl, inr, length-take, length-drop}
use Rattle.std.specs.List.{AllByRecursion, range_with_len}
use Rattle.version_set.specs.Members.{members, upto_pairs}
use Rattle.std.proofs.lemmas.Bool.{cases_lt}
use Rattle.version_set.proofs.MembersLemmas.{members-injective}
use Rattle.version_set.proofs.Sets.{members-upto_pairs, IsCanonical-upto_pairs}
use Rattle.keyed_tree.specs.Data.{PlainKeyed}
use Rattle.keyed_tree.specs.Kids.{IsOrdered}
use Rattle.keyed_tree.specs.Lists.{Has}
use Rattle.keyed_tree.specs.Proper.{IsElement}
use Rattle.archive_tree.specs.Data.{PlainArchive}
use Rattle.archive_tree.specs.Stands.{nums, passed, rooted, numbered, RowStands, EachStands, ArchiveOf}
use Rattle.archive_tree.proofs.Those.{labelled, nums-enumerate, orderly_numbered, those_ascend}
use Rattle.archive_cut.specs.Sliced.{clipped, cut_set, sliced_row, sliced, items}
use Rattle.archive_cut.specs.Walked.{AreApart}
use Rattle.archive_cut.proofs.Clips.{members-cut, IsCanonical-cut, is_in, is_below, is_above}
use Rattle.archive_cut.proofs.Windows.{window, those-window, window-numbered}
use Rattle.archive_cut.proofs.LeftAlts.{left_numbers}
use Rattle.archive_cut.proofs.Nodes.{row_cut, nodes_cut, row-apart}

-- ---- parts of a list

all_take : {X : Type 0} (P : X → Type 0) (k : ℕ) (xs : List X) → AllByRecursion P xs → AllByRecursion P (take k xs)
all_take P zero xs h = tt
all_take P (suc k) [] h = tt
all_take P (suc k) (x ∷ xs) h = (h.0, all_take P k xs h.1)

all_drop : {X : Type 0} (P : X → Type 0) (k : ℕ) (xs : List X) → AllByRecursion P xs → AllByRecursion P (drop k xs)
all_drop P zero xs h = h
all_drop P (suc k) [] h = tt
all_drop P (suc k) (x ∷ xs) h = all_drop P k xs h.1

take_has : {X : Type 0} (k : ℕ) (x : X) (xs : List X) → Has x (take k xs) → Has x xs
take_has zero x xs m = absurd m
take_has (suc k) x [] m = m
take_has (suc k) x (y ∷ ys) m = elim m [ inl e ↦ inl e | inr n ↦ inr (take_has k x ys n) ]

drop_has : {X : Type 0} (k : ℕ) (x : X) (xs : List X) → Has x (drop k xs) → Has x xs
drop_has zero x xs m = m
drop_has (suc k) x [] m = m
drop_has (suc k) x (y ∷ ys) m = inr (drop_has k x ys m)

pub item_has : (i j : ℕ) (x : PlainKeyed) (vs : List PlainKeyed) → Has x (items i j vs) → Has x vs
item_has i j x vs m = drop_has (i - 1) x vs (take_has (j + 1 - i) x (drop (i - 1) vs) m)

pub all_items : (P : PlainKeyed → Type 0) (i j : ℕ) (vs : List PlainKeyed) → AllByRecursion P vs → AllByRecursion P (items i j vs)
all_items P i j vs h = all_take P (j + 1 - i) (drop (i - 1) vs) (all_drop P (i - 1) vs h)

pub length-items : (i j : ℕ) (vs : List PlainKeyed) → 1 ≤ i → i ≤ j → j ≤ length vs → length (items i j vs) ≡ j + 1 - i
length-items i j vs h g k = omega (arith, length-take (j + 1 - i) (drop (i - 1) vs), length-drop (i - 1) vs)

-- the archive of some of the versions
pub archive_cut : (vs : List PlainKeyed) (a : PlainArchive) (i j : ℕ) → ArchiveOf vs a → 1 ≤ i → i ≤ j → j ≤ a.n → ArchiveOf (items i j vs) (sliced i j a)
archive_cut vs a i j h from order most =
    let q = upto_pairs a.n in
    let set : members q ≡ nums (numbered vs) = members-upto_pairs a.n ∙ sym (nums-enumerate 1 vs ∙ ap (range_with_len 1) h.count) in
    let canonical = IsCanonical-upto_pairs a.n in
    let up = (orderly_numbered vs h.ordered).ascending in
    let row = row_cut i j q (rooted (numbered vs)) canonical (λ l. those_ascend (passed (labelled l)) (numbered vs) up) a.kids (nodes_cut i j a.kids)
    (subst (λ z. RowStands a.kids (rooted (numbered vs)) (EachStands a.kids (rooted (numbered vs)) z)) (sym set) h.row) in
    let same = window-numbered i j vs from in
    let lists : (λ l. window i j (rooted (numbered vs) l)) ≡ rooted (numbered (items i j vs)) = λ x l. (sym (those-window i j (passed (labelled l)) (numbered vs)) ∙ ap (λ z. rooted z l) same) x in
    let numbers : members (cut_set i j q) ≡ nums (numbered (items i j vs)) = left_numbers i j q (numbered vs) set canonical ∙ ap nums same in
    let new = sliced_row i j q a.kids in
    record {
      count = length-items i j vs from order (let c = h.count in omega arith);
      ordered = all_items IsOrdered i j vs h.ordered;
      elements = all_items IsElement i j vs h.elements;
      alike = λ k x m n. h.alike k x (item_has i j k vs m) (item_has i j x vs n);
      row = subst (λ z. RowStands new (rooted (numbered (items i j vs))) (EachStands new (rooted (numbered (items i j vs))) z)) numbers
          (subst (λ u. RowStands new u (EachStands new u (members (cut_set i j q)))) lists row);
    }

-- the leaves of an archive of some versions
pub archive-apart : (vs : List PlainKeyed) (a : PlainArchive) (i j : ℕ) → ArchiveOf vs a → AreApart i j (upto_pairs a.n) a.kids
archive-apart vs a i j h =
    let q = upto_pairs a.n in
    let set : members q ≡ nums (numbered vs) = members-upto_pairs a.n ∙ sym (nums-enumerate 1 vs ∙ ap (range_with_len 1) h.count) in
    let up = (orderly_numbered vs h.ordered).ascending in
    row-apart i j q (rooted (numbered vs)) (IsCanonical-upto_pairs a.n) (λ l. those_ascend (passed (labelled l)) (numbered vs) up) a.kids (subst (λ z. EachStands a.kids (rooted (numbered vs)) z) (sym set) h.row.kids)

-- ---- the numbers of the virtual root

module _ (i j : ℕ) where
  past : (m k : ℕ) → i ≤ m → j < m + k → clipped i j (range_with_len m k) ≡ range_with_len (m + 1 - i) (j + 1 - m)
  past m zero h g = (let none : j + 1 - m ≡ 0 = omega arith in rw none refl)
  past m (suc k) h g = elim (cases_lt j m) [
    | inl lt ↦
        let none : j + 1 - m ≡ 0 = omega arith in
        let none' : j + 1 - (m + 1) ≡ 0 = omega arith in
        let e = is_above i j m lt in
        let rest = past (m + 1) k (omega arith) (omega arith) in
        rw (e, none) (rest ∙ ap (range_with_len (m + 1 + 1 - i)) none')
    | inr le ↦
        let some : j + 1 - m ≡ suc (j + 1 - (m + 1)) = omega arith in
        let next : m + 1 + 1 - i ≡ m + 1 - i + 1 = omega arith in
        let e = is_in i j m h le in
        let rest = past (m + 1) k (omega arith) (omega arith) in
        rw (e, some) (ap (λ z. (m + 1 - i) ∷ z) (rest ∙ ap (λ n. range_with_len n (j + 1 - (m + 1))) next))
  ]

  over : (m d k : ℕ) → m + d ≡ i → i ≤ j → j < m + k → clipped i j (range_with_len m k) ≡ range_with_len 1 (j + 1 - i)
  over m zero k h o g =
      let same : m ≡ i = omega arith in
      let one : m + 1 - i ≡ 1 = omega arith in
      past m k (omega arith) g ∙ ap (λ n. range_with_len n (j + 1 - m)) one ∙ ap (λ n. range_with_len 1 (j + 1 - n)) same
  over m (suc d) zero h o g = absurd (omega arith)
  over m (suc d) (suc k) h o g = (let e = is_below i j m (omega arith) in rw e (over (m + 1) d k (omega arith) o (omega arith)))

  -- what is left of all versions
  pub root-left : (n : ℕ) → 1 ≤ i → i ≤ j → j ≤ n → cut_set i j (upto_pairs n) ≡ upto_pairs (j + 1 - i)
  root-left n from order most =
      members-injective (cut_set i j (upto_pairs n)) (upto_pairs (j + 1 - i)) (IsCanonical-cut i j (upto_pairs n) (IsCanonical-upto_pairs n)) (IsCanonical-upto_pairs (j + 1 - i))
      (members-cut i j (upto_pairs n) (IsCanonical-upto_pairs n) ∙ ap (clipped i j) (members-upto_pairs n) ∙ over 1 (i - 1) n (omega arith) order (omega arith) ∙ sym (members-upto_pairs (j + 1 - i)))
