-- What a file ends in.
use Rattle.std.proofs.Common.{◌≡◌, ◌≢◌, ℕ, ◌-◌, ◌<◌, List, ◌++◌, length, drop, refl, sym, ap, ◌∙◌, append_assoc, arith}
use Rattle.std.specs.Prelude.{replicate}
use Rattle.std.specs.Int.{w64, from_be_bytes}
use Rattle.std.specs.List.{flat_map}
use Rattle.std.proofs.Math.Seq.{drop-append_seam}
use Rattle.std.proofs.lemmas.List.{length-append}
use Rattle.std.proofs.lemmas.Nat.{from_be_bytes-to_be_bytes_8}
use Rattle.key_spec.specs.Data.{PlainRule}
use Rattle.keyed_tree.specs.Data.{PlainKeyed}
use Rattle.xa_fields.specs.Spelling.{u64_bytes}
use Rattle.record_format.specs.Data.{end_rec}
use Rattle.record_format.specs.Files.{header_bytes, root_pieces, file_records, tail_bytes, FileOf}
use Rattle.record_format.specs.Nodes.{piece_bytes, dir_of}
use Rattle.record_format.specs.Spelling.{rec_bytes, dir_bytes}
use Rattle.record_format.proofs.Pieces.{closed-bytes, rec-length}
use Rattle.archive_file.specs.Sound.{SoundAs}

-- the last eight bytes
ends_in : (bytes front : List ℕ) (n : ℕ) → bytes ≡ front ++ u64_bytes n → drop (length bytes - 8) bytes ≡ u64_bytes n
ends_in bytes front n e =
    (λ i. drop (length (e i) - 8) (e i))
    ∙ ap (λ (k : ℕ). drop k (front ++ u64_bytes n)) (omega (arith, length-append front (u64_bytes n)))
    ∙ drop-append_seam front (u64_bytes n)

not_all_ones : (n : ℕ) → n < 18446744073709551615 → u64_bytes n ≢ replicate 8 255
not_all_ones n lt e =
    let same : n ≡ from_be_bytes w64 (replicate 8 255) = sym (from_be_bytes-to_be_bytes_8 n (omega arith)) ∙ ap (from_be_bytes w64) e in
    let most : from_be_bytes w64 (replicate 8 255) ≡ 18446744073709551615 = refl in
    omega arith

-- the length of a directory that the file has, so not that of the longest file that can be
pub file-unmarked : (rules : List PlainRule) (vs : List PlainKeyed) (bytes : List ℕ) → FileOf rules vs bytes → drop (length bytes - 8) bytes ≢ replicate 8 255
file-unmarked rules vs bytes f e =
    let a = f.archive in
    let ps = root_pieces a in
    let records = flat_map rec_bytes (file_records a) in
    let size = length (dir_bytes (dir_of ps)) in
    let spelled : bytes ≡ (header_bytes rules a.n ++ records) ++ u64_bytes size = f.spelled ∙ sym (append_assoc (header_bytes rules a.n) records (tail_bytes a)) in
    let whole = length-append (header_bytes rules a.n) (records ++ tail_bytes a) in
    let body = length-append records (tail_bytes a) in
    let row = ap length (closed-bytes ps) ∙ length-append (flat_map piece_bytes ps) (rec_bytes (end_rec (dir_of ps))) in
    let last = rec-length (end_rec (dir_of ps)) in
    let short = f.has.short in
    not_all_ones size (omega (arith, whole, body, row, last, short)) (sym (ends_in bytes (header_bytes rules a.n ++ records) size spelled) ∙ e)

pub sound-unmarked : (rules : List PlainRule) (vs : List PlainKeyed) (bytes : List ℕ) → SoundAs rules vs bytes → drop (length bytes - 8) bytes ≢ replicate 8 255
sound-unmarked rules vs bytes s = file-unmarked rules vs bytes s.file
