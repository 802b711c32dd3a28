-- The archive of the versions of two archives.
use Rattle.std.proofs.Common.{◌≡◌, ℕ, zero, suc, ◌+◌, ◌<◌, ◌≤◌, List, [], ◌∷◌, ◌++◌, length, refl, ap, sym, subst, ◌∙◌, arith, inl, inr, length-append}
use Rattle.std.specs.List.{enumerate_from, range_with_len}
use Rattle.version_set.specs.Members.{members, upto_pairs}
use Rattle.version_set.proofs.Sets.{members-upto_pairs, IsCanonical-upto_pairs}
use Rattle.keyed_tree.specs.Alike.{AllAlike}
use Rattle.keyed_tree.specs.Data.{PlainLabel, PlainKeyed}
use Rattle.keyed_tree.specs.Kids.{IsOrdered}
use Rattle.keyed_tree.specs.Lists.{Has}
use Rattle.keyed_tree.specs.Proper.{IsElement}
use Rattle.jsonml_tree.proofs.Lists.{source}
use Rattle.archive_tree.specs.Data.{nodes_list, PlainArchive}
use Rattle.archive_tree.specs.Stands.{nums, passed, rooted, numbered, RowStands, EachStands, ArchiveOf}
use Rattle.archive_tree.proofs.Those.{all_those, labelled, rooted_has, nums-enumerate}
use Rattle.nested_merge.proofs.Alikes.{AlikeBelow, alike_below}
use Rattle.nested_merge.proofs.Picked.{all_append}
use Rattle.nested_merge.proofs.Stamps.{Below, range_below}
use Rattle.nested_merge.proofs.Weave.{has_left, has_right}
use Rattle.archive_join.specs.Joined.{joined_row, joined}
use Rattle.record_copy.specs.Raised.{raised, raised_nodes}
use Rattle.archive_join.proofs.BothSets.{Above, later, later_above, members-raised, IsCanonical-raised}
use Rattle.archive_join.proofs.Alts.{those_both, nums_both}
use Rattle.archive_join.proofs.Later.{up, nums-up, those-up, row_raised}
use Rattle.archive_join.proofs.Nodes.{Apart, AlikeLists, row_joins, nodes_join}

-- ---- numbered versions

enumerate-both : (n : ℕ) (vs us : List PlainKeyed) → enumerate_from n (vs ++ us) ≡ enumerate_from n vs ++ enumerate_from (n + length vs) us
enumerate-both n [] us = (let e : n + 0 ≡ n = omega arith in rw e)
enumerate-both n (v ∷ vs) us = (let e : n + suc (length vs) ≡ (n + 1) + length vs = omega arith in rw e (ap (λ z. (n, v) ∷ z) (enumerate-both (n + 1) vs us)))

enumerate-up : (n k : ℕ) (us : List PlainKeyed) → enumerate_from (k + n) us ≡ up n (enumerate_from k us)
enumerate-up n k [] = refl
enumerate-up n k (u ∷ us) = (let e : k + n + 1 ≡ k + 1 + n = omega arith in rw e (ap (λ z. (k + n, u) ∷ z) (enumerate-up n (k + 1) us)))

numbered-both : (vs us : List PlainKeyed) (n : ℕ) → length vs ≡ n → numbered (vs ++ us) ≡ numbered vs ++ up n (numbered us)
numbered-both vs us n e = enumerate-both 1 vs us ∙ ap (λ z. numbered vs ++ enumerate_from (1 + z) us) e ∙ ap (λ z. numbered vs ++ z) (enumerate-up n 1 us)

numbered_has : (n i : ℕ) (t : PlainKeyed) (vs : List PlainKeyed) → Has (i, t) (enumerate_from n vs) → Has t vs
numbered_has n i t [] m = absurd m
numbered_has n i t (v ∷ vs) m = elim m [ inl e ↦ inl (ap (λ (z : ℕ × PlainKeyed). z.1) e) | inr x ↦ inr (numbered_has (n + 1) i t vs x) ]

range_above : (a k : ℕ) → Above a (range_with_len a k)
range_above a k = from a a k (omega arith)
  where
    from : (low a k : ℕ) → low ≤ a → Above low (range_with_len a k)
    from low a zero h = tt
    from low a (suc k) h = (h, from low (a + 1) k (omega arith))

module _ (vs us : List PlainKeyed) (a b : PlainArchive) (h : ArchiveOf vs a) (g : ArchiveOf us b) (alike : AllAlike (vs ++ us)) where
  abbrev n : ℕ
  n = a.n

  abbrev ours : PlainLabel → List (ℕ × PlainKeyed)
  ours = rooted (numbered vs)

  abbrev theirs : PlainLabel → List (ℕ × PlainKeyed)
  theirs l = up n (rooted (numbered us) l)

  set : members (upto_pairs n) ≡ nums (numbered vs)
  set = members-upto_pairs n ∙ sym (nums-enumerate 1 vs ∙ ap (range_with_len 1) h.count)

  their_set : members (raised n (upto_pairs b.n)) ≡ later n (nums (numbered us))
  their_set = members-raised n (upto_pairs b.n) ∙ ap (later n) (members-upto_pairs b.n ∙ sym (nums-enumerate 1 us ∙ ap (range_with_len 1) g.count))

  low : Below (n + 1) (nums (numbered vs))
  low = subst (λ z. Below (n + 1) z) (sym (nums-enumerate 1 vs)) (range_below (n + 1) 1 (length vs) (let c = h.count in omega arith))

  high : Above (n + 1) (nums (up n (numbered us)))
  high = subst (Above (n + 1)) (sym (nums-up n (numbered us))) (subst (λ z. Above z (later n (nums (numbered us)))) (let e : 1 + n ≡ n + 1 = omega arith in e) (later_above n 1 (nums (numbered us)) (subst (Above 1) (sym (nums-enumerate 1 us)) (range_above 1 (length us)))))

  apart : Apart (n + 1) (upto_pairs n) (raised n (upto_pairs b.n))
  apart = record {
    left = IsCanonical-upto_pairs n;
    right = IsCanonical-raised n (upto_pairs b.n) (IsCanonical-upto_pairs b.n);
    low = subst (Below (n + 1)) (sym set) low;
    high = subst (Above (n + 1)) (sym (their_set ∙ sym (nums-up n (numbered us)))) high;
  }

  those_theirs : (l : PlainLabel) → theirs l ≡ rooted (up n (numbered us)) l
  those_theirs l = sym (those-up (passed (labelled l)) n (numbered us))

  both : (l : PlainLabel) → rooted (numbered (vs ++ us)) l ≡ ours l ++ theirs l
  both l = ap (λ z. rooted z l) (numbered-both vs us n h.count) ∙ those_both (passed (labelled l)) (numbered vs) (up n (numbered us)) ∙ ap (λ z. ours l ++ z) (sym (those_theirs l))

  pub alike_roots : (l : PlainLabel) → AlikeLists (ours l) (theirs l)
  alike_roots l w z i j =
      let our = rooted_has w.0 w.1 l (numbered vs) i in
      let at = source (λ (x : ℕ × PlainKeyed). (x.0 + n, x.1)) z (rooted (numbered us) l) j in
      let their = rooted_has at.item.0 at.item.1 l (numbered us) at.has in
      let same : at.item.1 ≡ z.1 = ap (λ (x : ℕ × PlainKeyed). x.1) at.is in
      subst (λ x. AlikeBelow w.1 x) same (alike_below w.1 at.item.1
      (alike w.1 at.item.1 (has_left w.1 vs us (numbered_has 1 w.0 w.1 vs our.0)) (has_right at.item.1 vs us (numbered_has 1 at.item.0 at.item.1 us their.0)))
      (our.1 ∙ sym their.1))

  pub archives_join : ArchiveOf (vs ++ us) (joined a b)
  archives_join =
      let p = upto_pairs n in
      let q = raised n (upto_pairs b.n) in
      let js = raised_nodes n b.kids in
      let w = rooted (numbered (vs ++ us)) in
      let left : RowStands a.kids ours (EachStands a.kids ours (members p)) = subst (λ z. RowStands a.kids ours (EachStands a.kids ours z)) (sym set) h.row in
      let right : RowStands js theirs (EachStands js theirs (members q)) = subst (λ z. RowStands js theirs (EachStands js theirs z)) (sym their_set) (row_raised n b.kids (rooted (numbered us)) (nums (numbered us)) g.row) in
      let row = row_joins (n + 1) (omega arith) p q apart ours theirs w both (λ l. all_those (λ k. k < n + 1) (passed (labelled l)) (numbered vs) low)
      (λ l. subst (λ z. Above (n + 1) (nums z)) (sym (those_theirs l)) (all_those (λ k. n + 1 ≤ k) (passed (labelled l)) (up n (numbered us)) high)) alike_roots a.kids js (nodes_join (n + 1) (omega arith) a.kids) left right in
      let new = joined_row p q a.kids (nodes_list js) in
      let numbers : members p ++ members q ≡ nums (numbered (vs ++ us)) = (λ i. set i ++ their_set i) ∙ ap (λ z. nums (numbered vs) ++ z) (sym (nums-up n (numbered us))) ∙ sym (nums_both (numbered vs) (up n (numbered us))) ∙ ap nums (sym (numbered-both vs us n h.count)) in
      record {
        count = length-append vs us ∙ (let c = h.count in let d = g.count in omega arith);
        ordered = all_append IsOrdered vs us h.ordered g.ordered;
        elements = all_append IsElement vs us h.elements g.elements;
        alike = alike;
        row = subst (λ z. RowStands new w (EachStands new w z)) numbers row;
      }
