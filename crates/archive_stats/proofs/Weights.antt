-- The bytes of records, and those that are read for them.
use Rattle.std.proofs.Common.{◌≡◌, ◌+◌, ◌-◌, List, [], ◌∷◌, ◌++◌, length, refl, arith}
use Rattle.std.specs.Prelude.{sum_by}
use Rattle.std.specs.List.{flat_map}
use Rattle.std.proofs.lemmas.List.{length-append}
use Rattle.std.proofs.lemmas.List.Sums.{sum_by-cons}
use Rattle.key_spec.specs.Data.{PlainRule}
use Rattle.archive_tree.specs.Data.{PlainArchive}
use Rattle.record_format.specs.Data.{PlainRec, inner_rec, leaf_rec, alt_rec, end_rec, leaf_end}
use Rattle.record_format.specs.Files.{header_bytes, file_records, tail_bytes, file_bytes, weight}
use Rattle.record_format.specs.Spelling.{rec_bytes}
use Rattle.record_cursor.specs.Items.{item_of}
use Rattle.archive_stats.specs.Counted.{read_by}
use Rattle.archive_stats.specs.Counts.{end_body, end_bodies}
use Rattle.archive_stats.specs.Tally.{read_in}

pub read-weight : (r : PlainRec) → read_in (item_of r) ≡ weight r
read-weight (inner_rec l s) = refl
read-weight (leaf_rec l s) = refl
read-weight (alt_rec s b) = refl
read-weight (end_rec d) = refl
read-weight leaf_end = refl

record-bytes : (r : PlainRec) → length (rec_bytes r) ≡ weight r + end_body r
record-bytes (inner_rec l s) = omega arith
record-bytes (leaf_rec l s) = omega arith
record-bytes (alt_rec s b) = omega arith
record-bytes (end_rec d) = omega arith
record-bytes leaf_end = omega arith

records-bytes : (rs : List PlainRec) → length (flat_map rec_bytes rs) ≡ sum_by weight rs + sum_by end_body rs
records-bytes [] = refl
records-bytes (r ∷ rs) =
    omega (arith, length-append (rec_bytes r) (flat_map rec_bytes rs), record-bytes r, records-bytes rs, sum_by-cons weight r rs, sum_by-cons end_body r rs)

-- the header of a file, its records without the bodies of END, and its end
pub file-read : (rules : List PlainRule) (a : PlainArchive) → length (header_bytes rules a.n) + read_by (file_records a) ≡ length (file_bytes rules a) - end_bodies a
file-read rules a =
    let records = flat_map rec_bytes (file_records a) in
    omega (arith, records-bytes (file_records a), length-append (header_bytes rules a.n) (records ++ tail_bytes a), length-append records (tail_bytes a))
