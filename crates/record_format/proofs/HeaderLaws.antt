-- The front of an archive file is its header.
use Rattle.std.proofs.Common.{◌≡◌, ℕ, ◌<◌, ◌≤◌, ◌^◌, false, ltb, leb, List, ◌++◌, length, take, drop, Some, Ok, refl, sym, ap, ◌∙◌, append_assoc, arith}
use Rattle.std.specs.Option.{option_map}
use Rattle.std.specs.List.{flat_map}
use Rattle.std.specs.Int.{w32}
use Rattle.std.proofs.lemmas.Bool.{le-ltb, le-leb}
use Rattle.std.proofs.lemmas.List.{take_at, drop_at, length-append}
use Rattle.key_spec.specs.Data.{PlainRule}
use Rattle.key_spec.specs.Canonical.{canonical, spelled_by}
use Rattle.key_spec.specs.Closed.{closed}
use Rattle.keyed_tree.specs.Data.{PlainKeyed}
use Rattle.archive_tree.proofs.OneArchive.{one_archive}
use Rattle.xa_fields.specs.Spelling.{u32_bytes, text_bytes}
use Rattle.xa_fields.specs.Reading.{number_at, both_at, only_at}
use Rattle.xa_fields.proofs.Fields.{u32_reads}
use Rattle.record_parts.specs.Bounds.{most}
use Rattle.record_format.specs.Spelling.{rec_bytes}
use Rattle.record_format.specs.Files.{header_bytes, file_records, tail_bytes, file_bytes, FileOf}
use Rattle.record_format.specs.Fronts.{bytes_at, front_at, fixed, header_at, header}
use Rattle.record_format.proofs.WholeDirectories.{same_bytes}

-- ---- headers

bytes_again : (text rest : List ℕ) → length text < 2 ^ 32 → bytes_at (text_bytes text ++ rest) ≡ Some (text, rest)
unfolding bytes_at
bytes_again text rest short =
    let long : ltb (length (text ++ rest)) (length text) ≡ false = le-ltb _ _ (omega (arith, length-append text rest)) in
    let front : take (length text) (text ++ rest) ≡ text = take_at text rest (length text) refl in
    let behind : drop (length text) (text ++ rest) ≡ rest = drop_at text rest (length text) refl in
    ap bytes_at (append_assoc (u32_bytes (length text)) text rest) ∙ rw (u32_reads.again (length text) (text ++ rest) short) (rw (long, front, behind) refl)

count_again : (n : ℕ) (rest : List ℕ) → n ≤ most → only_at (λ n. leb n most) (number_at w32) (u32_bytes n ++ rest) ≡ Some (n, rest)
unfolding only_at
count_again n rest le =
    let small : n < 2 ^ 32 = omega arith in
    let within = le-leb n most le in
    rw (u32_reads.again n rest small) (rw within refl)

pub front_again : (rules : List PlainRule) (n : ℕ) (rest : List ℕ) → length (canonical rules) < 2 ^ 32 → n ≤ most → front_at (header_bytes rules n ++ rest) ≡ Some ((canonical rules, n), rest)
unfolding front_at both_at
front_again rules n rest short le =
    let text : bytes_at ((text_bytes (canonical rules) ++ u32_bytes n) ++ rest) ≡ Some (canonical rules, u32_bytes n ++ rest) = ap bytes_at (append_assoc (text_bytes (canonical rules)) (u32_bytes n) rest) ∙ bytes_again (canonical rules) (u32_bytes n ++ rest) short in
    let count = count_again n rest le in
    rw (text, count) refl

-- a header is read again
pub header_again : (rules : List PlainRule) (n : ℕ) (rest : List ℕ) → closed (canonical rules) ≡ Ok rules → length (canonical rules) < 2 ^ 32 → n ≤ most → header_at (header_bytes rules n ++ rest) ≡ Some ((rules, n), rest)
unfolding header_at
header_again rules n rest again short le =
    let front = front_again rules n rest short le in
    let same = same_bytes (canonical rules) in
    let spelled : spelled_by (canonical rules) (closed (canonical rules)) ≡ Some rules = ap (spelled_by (canonical rules)) again ∙ rw same refl in
    rw front (rw spelled refl)

-- ---- files

pub one_file : (rules : List PlainRule) (versions : List PlainKeyed) (a b : List ℕ) → FileOf rules versions a → FileOf rules versions b → a ≡ b
one_file rules versions a b f g = f.spelled ∙ ap (file_bytes rules) (one_archive versions f.archive g.archive f.is g.is) ∙ sym g.spelled

pub file_header : (rules : List PlainRule) (versions : List PlainKeyed) (bytes : List ℕ) → closed (canonical rules) ≡ Ok rules → FileOf rules versions bytes → header bytes ≡ Some (rules, length versions)
file_header rules versions bytes again f =
    let read = header_again rules f.archive.n (flat_map rec_bytes (file_records f.archive) ++ tail_bytes f.archive) again f.has.text f.has.count in
    ap header f.spelled ∙ ap (option_map (λ (x : (List PlainRule × ℕ) × List ℕ). x.0)) read ∙ ap (λ (n : ℕ). Some (rules, n)) (sym f.is.count)

pub file_fixed : (rules : List PlainRule) (versions : List PlainKeyed) (bytes : List ℕ) → FileOf rules versions bytes → fixed bytes ≡ Some (length versions)
file_fixed rules versions bytes f =
    let read = front_again rules f.archive.n (flat_map rec_bytes (file_records f.archive) ++ tail_bytes f.archive) f.has.text f.has.count in
    ap fixed f.spelled ∙ ap (option_map (λ (x : (List ℕ × ℕ) × List ℕ). x.0.1)) read ∙ ap (λ (n : ℕ). Some n) (sym f.is.count)
