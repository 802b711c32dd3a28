-- The archive file of a specification and a list of versions.
use Rattle.std.specs.Prelude.{◌≡◌, ℕ, ◌≤◌, ◌<◌, ◌^◌, max, List, [], ◌∷◌, ◌++◌, length, fold, codes}
use Rattle.std.specs.List.{flat_map, AllByRecursion}
use Rattle.key_spec.specs.Data.{PlainRule}
use Rattle.key_spec.specs.Canonical.{canonical}
use Rattle.version_set.specs.Members.{upto_pairs}
use Rattle.keyed_tree.specs.Data.{PlainKeyed}
use Rattle.archive_tree.specs.Data.{PlainArchive}
use Rattle.archive_tree.specs.Stands.{ArchiveOf}
use Rattle.xa_fields.specs.Spelling.{u32_bytes, u64_bytes, text_bytes}
use Rattle.record_format.specs.Data.{PlainRec, inner_rec, leaf_rec, alt_rec, end_rec, leaf_end}
use Rattle.record_format.specs.Spelling.{dir_bytes, rec_bytes}
use Rattle.record_format.specs.Bounds.{IsRec}
use Rattle.record_parts.specs.Bounds.{most}
use Rattle.record_format.specs.Nodes.{Piece, dir_of, closed_by_end, node_pieces}
use Rattle.record_format.specs.declared.limits.TheConstants.{LONGEST}

-- `XARC1` and a line feed
abbrev pub magic : List ℕ
magic = codes "XARC1" ++ 10 ∷ []

-- the magic, the canonical text of the specification, and the number of versions
abbrev pub header_bytes : List PlainRule → ℕ → List ℕ
header_bytes rules n = magic ++ (text_bytes (canonical rules) ++ u32_bytes n)

-- the children of the virtual root, which has all versions
abbrev pub root_pieces : PlainArchive → List Piece
root_pieces a = node_pieces (upto_pairs a.n) a.kids

-- the records of the nodes in preorder, and the END of the virtual root
abbrev pub file_records : PlainArchive → List PlainRec
file_records a = closed_by_end (root_pieces a)

-- the length of the body of the root's END
abbrev pub tail_bytes : PlainArchive → List ℕ
tail_bytes a = u64_bytes (length (dir_bytes (dir_of (root_pieces a))))

abbrev pub file_bytes : List PlainRule → PlainArchive → List ℕ
file_bytes rules a = header_bytes rules a.n ++ (flat_map rec_bytes (file_records a) ++ tail_bytes a)

-- the bytes of a record, without the body of an END
abbrev pub weight : PlainRec → ℕ
weight (inner_rec l s) = length (rec_bytes (inner_rec l s))
weight (leaf_rec l s) = length (rec_bytes (leaf_rec l s))
weight (alt_rec s b) = length (rec_bytes (alt_rec s b))
weight (end_rec d) = 9
weight leaf_end = length (rec_bytes leaf_end)

-- the greatest of the header's bytes and each record's, the body of an END not counted
abbrev pub largest : List PlainRule → PlainArchive → ℕ
largest rules a = fold (λ most r. max most (weight r)) (length (header_bytes rules a.n)) (file_records a)

-- how many bytes an archive file may have
abbrev pub longest : ℕ
longest = LONGEST

-- every length and count fits its field, each record has an encoding, and the whole is not too long
pub record HasFile (rules : List PlainRule) (a : PlainArchive) : Type 0 where
  pub text : length (canonical rules) < 2 ^ 32
  pub count : a.n ≤ most
  pub records : AllByRecursion IsRec (file_records a)
  pub short : length (file_bytes rules a) ≤ longest

-- the bytes are the archive file of the versions under the specification
pub record FileOf (rules : List PlainRule) (versions : List PlainKeyed) (bytes : List ℕ) : Type 0 where
  pub archive : PlainArchive
  pub is : ArchiveOf versions archive
  pub has : HasFile rules archive
  pub spelled : bytes ≡ file_bytes rules archive
