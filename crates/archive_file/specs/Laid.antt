-- How nodes lie in the bytes of a file.
use Rattle.std.specs.Prelude.{◌≡◌, ℕ, List, [], ◌∷◌, ◌++◌, ◌<◌, ◌^◌, length, map, Result, Ok, Err, ⊤, IsTrue}
use Rattle.std.specs.List.{flat_map, AllByRecursion}
use Rattle.key_spec.specs.Canonical.{canonical}
use Rattle.key_spec.specs.Closed.{closed}
use Rattle.key_spec.specs.Data.{PlainRule}
use Rattle.archive_tree.specs.Data.{PlainAlt, PlainNode, PlainNodes}
use Rattle.record_format.specs.Data.{PlainEntry, PlainDir, leaf_end}
use Rattle.record_format.specs.Spelling.{rec_bytes}
use Rattle.record_format.specs.Bounds.{IsRec}
use Rattle.record_format.specs.Files.{header_bytes}
pub use Rattle.record_format.specs.Nested.{is_nested, are_nested}
use Rattle.record_format.specs.Nodes.{Piece, piece_bytes, closed_by_end, alt_of, node_piece, node_pieces}
use Rattle.archive_file.specs.declared.fault.FileFault.{FileFault}
use Rattle.archive_file.specs.declared.fault.FileFault.TheVariants.{Damage}

-- the effective sets of nodes under a parent that has the set
abbrev pub sets_in : List (ℕ × ℕ) → PlainNodes → List (List (ℕ × ℕ))
sets_in parent ks = map (λ (p : Piece). p.set) (node_pieces parent ks)

-- the directory of nodes with these entries under a parent that has the set
abbrev pub dir_with : List PlainEntry → List (ℕ × ℕ) → PlainNodes → PlainDir
dir_with entries parent ks = record { entries = entries; sets = sets_in parent ks }

-- the bytes begin with the alternatives of a leaf and the record that closes it, and then are the rest
pub record AltsAt (xs : List PlainAlt) (rest now : List ℕ) : Type 0 where
  pub records : AllByRecursion IsRec (map alt_of xs ++ leaf_end ∷ [])
  pub bytes : now ≡ flat_map rec_bytes (map alt_of xs ++ leaf_end ∷ []) ++ rest

-- the bytes begin with a node under a parent that has the set, and then are the rest
pub record NodeAt (parent : List (ℕ × ℕ)) (k : PlainNode) (rest : List ℕ) (depth : ℕ) (now : List ℕ) : Type 0 where
  pub records : AllByRecursion IsRec ((node_piece parent k).records)
  pub nested : IsTrue (is_nested depth k)
  pub bytes : now ≡ piece_bytes (node_piece parent k) ++ rest

-- the bytes begin with the kids of a node that has the set and the END behind them, and then are the rest
pub record RowAt (set : List (ℕ × ℕ)) (ks : PlainNodes) (rest : List ℕ) (depth : ℕ) (now : List ℕ) : Type 0 where
  pub records : AllByRecursion IsRec (closed_by_end (node_pieces set ks))
  pub nested : IsTrue (are_nested depth ks)
  pub bytes : now ≡ flat_map rec_bytes (closed_by_end (node_pieces set ks)) ++ rest

-- the bytes begin with a header, whose specification is that of its text, and then are the rest
pub record IsFront (rules : List PlainRule) (n : ℕ) (rest now : List ℕ) : Type 0 where
  pub specification : closed (canonical rules) ≡ Ok rules
  pub text : length (canonical rules) < 2 ^ 32
  pub bytes : now ≡ header_bytes rules n ++ rest

-- what was found, if memory sufficed: bytes of which this is said are not damaged
abbrev pub Finds : {X : Type 0} → Result X FileFault → (X → Type 0) → Type 0
Finds (Ok x) P = P x
Finds (Err Damage) P = ⊥
Finds (Err other) P = ⊤
