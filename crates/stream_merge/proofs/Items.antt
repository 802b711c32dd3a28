-- How many bytes are read for what the file of an archive gives.
use Rattle.std.proofs.Common.{◌≡◌, ℕ, ◌+◌, ◌≤◌, max, List, [], ◌∷◌, ◌++◌, map, length, refl, subst, arith}
use Rattle.std.specs.List.{fold, AllByRecursion}
use Rattle.std.proofs.lemmas.List.{length-append}
use Rattle.key_spec.specs.Canonical.{canonical}
use Rattle.key_spec.specs.Data.{PlainRule}
use Rattle.archive_tree.specs.Data.{PlainArchive}
use Rattle.xa_fields.specs.Spelling.{u32_bytes, text_bytes}
use Rattle.record_format.specs.Data.{PlainRec, inner_rec, leaf_rec, alt_rec, end_rec, leaf_end}
use Rattle.record_format.specs.Files.{magic, header_bytes, file_records, weight, largest}
use Rattle.record_cursor.specs.Items.{finish, item_of}
use Rattle.record_cursor.specs.Next.{read_for}
use Rattle.record_cursor.specs.NodeItems.{archive_items}
use Rattle.record_cursor.specs.Places.{Standing, among_nodes, in_leaf, behind_root, finished}
use Rattle.record_cursor.proofs.NodeItems.{nodes-are}
use Rattle.stream_merge.specs.Items.{IsWithin}

abbrev greatest : ℕ → List PlainRec → ℕ
greatest n rs = fold (λ most r. max most (weight r)) n rs

least : (n : ℕ) (rs : List PlainRec) → n ≤ greatest n rs
least n [] = omega arith
least n (r ∷ rs) = omega (arith, least (max n (weight r)) rs)

read-for : (s : Standing) (r : PlainRec) → read_for s (item_of r) ≡ weight r
read-for s (inner_rec l t) = refl
read-for s (leaf_rec l t) = refl
read-for s (alt_rec t b) = refl
read-for s (end_rec d) = refl
read-for s leaf_end = refl

within : (n : ℕ) (rs : List PlainRec) → AllByRecursion (IsWithin (greatest n rs)) (map item_of rs)
within n [] = tt
within n (r ∷ rs) = ((λ s. omega (arith, read-for s r, least (max n (weight r)) rs)), within (max n (weight r)) rs)

-- no more is read for an item than the longest record has
pub all-within : (rules : List PlainRule) (a : PlainArchive) → AllByRecursion (IsWithin (largest rules a)) (archive_items a)
all-within rules a = subst (AllByRecursion (IsWithin (largest rules a))) (nodes-are a) (within (length (header_bytes rules a.n)) (file_records a))

-- nor for the end of the file
pub finish-reads : (s : Standing) → read_for s finish ≤ 8
finish-reads (among_nodes d) = omega arith
finish-reads (in_leaf d) = omega arith
finish-reads (behind_root n) = omega arith
finish-reads finished = omega arith

pub header-length : (rules : List PlainRule) (n : ℕ) → length (header_bytes rules n) ≡ 14 + length (canonical rules)
header-length rules n =
    let text = canonical rules in
    omega (arith, length-append magic (text_bytes text ++ u32_bytes n), length-append (text_bytes text) (u32_bytes n), length-append (u32_bytes (length text)) text)

pub finish-within : (rules : List PlainRule) (a : PlainArchive) → IsWithin (largest rules a) finish
finish-within rules a s = omega (arith, finish-reads s, header-length rules a.n, least (length (header_bytes rules a.n)) (file_records a))
