-- A new archive with one more version.
use Rattle.std.proofs.Common.{◌≡◌, ℕ, zero, suc, ◌+◌, ◌<◌, ◌==◌, false, List, [], ◌∷◌, ◌++◌, refl, ap, sym, subst, ◌∙◌, arith}
use Rattle.std.proofs.lemmas.Bool.{ne_eqb}
use Rattle.std.specs.List.{range_with_len}
use Rattle.version_set.specs.Pairs.{last_of}
use Rattle.version_set.specs.Members.{members, upto_pairs, with_last}
use Rattle.version_set.proofs.MembersLemmas.{members-injective, members-with_last, IsCanonical-with_last}
use Rattle.version_set.proofs.Sets.{members-upto_pairs, IsCanonical-upto_pairs}
use Rattle.keyed_tree.specs.Data.{PlainKeyed}
use Rattle.keyed_tree.specs.Lists.{Ascends}
use Rattle.keyed_tree.specs.Order.{label_cmp}
use Rattle.archive_tree.specs.Data.{PlainArchive}
use Rattle.archive_tree.specs.Stands.{nums, rooted, numbered, Kept}
use Rattle.archive_tree.proofs.Those.{all_those, nums-enumerate}
use Rattle.nested_merge.specs.Alike.{AlikeAll}
use Rattle.nested_merge.specs.Merged.{merged_row, with_version}
use Rattle.nested_merge.proofs.ArchiveGrows.{root_fits}
use Rattle.nested_merge.proofs.Bounds.{numbers_below}
use Rattle.new_archive.specs.Full.{PlainFull, PlainFulls, fulls_from, full_labels}
use Rattle.new_archive.specs.Place.{added_list}
use Rattle.new_archive.specs.Added.{added_row}
use Rattle.new_archive.specs.Ready.{AreReady}
use Rattle.new_archive.specs.Sealed.{seal_row}
use Rattle.new_archive.proofs.Sealing.{seal_labels, seal_added_row}
use Rattle.new_archive.proofs.Readies.{are_ready}
use Rattle.new_archive.proofs.Rows.{fulls_from-fulls_list}

-- ---- the numbers of all versions

last_upto : (n : ℕ) → last_of (upto_pairs n) < n + 1
last_upto zero = omega arith
last_upto (suc n) = (let e : (suc n == 0) ≡ false = ne_eqb (suc n) 0 (λ d. cc) in rw e (omega arith))

range_end : (a n : ℕ) → range_with_len a n ++ (a + n) ∷ [] ≡ range_with_len a (suc n)
range_end a zero = (let e : a + 0 ≡ a = omega arith in rw e refl)
range_end a (suc n) = (let e : a + suc n ≡ (a + 1) + n = omega arith in rw e (ap (λ z. a ∷ z) (range_end (a + 1) n)))

pub upto_more : (n : ℕ) → with_last (upto_pairs n) (n + 1) ≡ upto_pairs (n + 1)
upto_more n =
    let right = IsCanonical-upto_pairs n in
    let low = last_upto n in
    let one : n + 1 ≡ 1 + n = omega arith in
    let next : suc n ≡ n + 1 = omega arith in
    let same : members (with_last (upto_pairs n) (n + 1)) ≡ members (upto_pairs (n + 1)) =
    members-with_last (upto_pairs n) (n + 1) right low ∙ (λ i. members-upto_pairs n i ++ one i ∷ []) ∙ range_end 1 n ∙ ap (range_with_len 1) next ∙ sym (members-upto_pairs (n + 1)) in
    members-injective (with_last (upto_pairs n) (n + 1)) (upto_pairs (n + 1)) (IsCanonical-with_last (upto_pairs n) (n + 1) right low) (IsCanonical-upto_pairs (n + 1)) same

-- ---- the archive

abbrev pub sealed : ℕ → PlainFulls → PlainArchive
sealed n ks = record { n = n; kids = seal_row (upto_pairs n) ks }

module _ (n : ℕ) (ks : PlainFulls) (v : Kept (sealed n ks)) where
  set : members (upto_pairs n) ≡ nums (numbered v.versions)
  set = members-upto_pairs n ∙ sym (nums-enumerate 1 v.versions ∙ ap (range_with_len 1) v.is.count)

  pub kids_ready : AreReady (n + 1) ks
  kids_ready = are_ready (n + 1) (omega arith) ks (upto_pairs n) (rooted (numbered v.versions)) (nums (numbered v.versions)) (IsCanonical-upto_pairs n) set
      (λ l. all_those _ _ (numbered v.versions) (numbers_below v.versions (sealed n ks) v.is)) v.is.row.kids

  pub kids_ascend : Ascends label_cmp (full_labels ks)
  kids_ascend = subst (λ xs. Ascends label_cmp xs) (seal_labels (upto_pairs n) ks) v.is.row.ascending

  -- adding a version is merging it into the archive for which it stands
  pub version_added : (k : PlainKeyed) → AlikeAll v.versions k → sealed (n + 1) (added_row (n + 1) ks (k ∷ [])) ≡ with_version (sealed n ks) k
  version_added k alike =
      let fit = root_fits v.versions (sealed n ks) k v.is alike (seal_row (upto_pairs n) ks) v.is.row.kids in
      let row = seal_added_row (n + 1) ks (upto_pairs n) (k ∷ []) (IsCanonical-upto_pairs n) (last_upto n) kids_ascend kids_ready fit in
      let made : seal_row (upto_pairs (n + 1)) (added_row (n + 1) ks (k ∷ [])) ≡ merged_row (n + 1) (upto_pairs n) (seal_row (upto_pairs n) ks) (k ∷ []) = ap (λ q. seal_row q (added_row (n + 1) ks (k ∷ []))) (sym (upto_more n)) ∙ row in
      λ i. record { n = n + 1; kids = made i }

-- a row to which the only kid of a version was added
pub version_made : (n : ℕ) (row : List PlainFull) (v : Kept (sealed n (fulls_from row))) (a : PlainArchive) (k : PlainKeyed) (cs : List PlainKeyed) (new : List PlainFull) → sealed n (fulls_from row) ≡ a → AlikeAll v.versions k → cs ≡ k ∷ [] → new ≡ added_list (n + 1) row cs
    → sealed (n + 1) (fulls_from new) ≡ with_version a k
version_made n row v a k cs new parts alike only grown =
    let whole : fulls_from new ≡ added_row (n + 1) (fulls_from row) (k ∷ []) = ap fulls_from grown ∙ fulls_from-fulls_list (added_row (n + 1) (fulls_from row) cs) ∙ ap (added_row (n + 1) (fulls_from row)) only in
    ap (sealed (n + 1)) whole ∙ version_added n (fulls_from row) v k alike ∙ ap (λ (z : PlainArchive). with_version z k) parts
