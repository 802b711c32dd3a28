-- The finished kids of an open node, and its directory.
use Rattle.std.specs.Prelude.{◌≡◌, ℕ, ◌+◌, List, [], ◌∷◌, ◌++◌, length, map, replicate, Some, None}
use Rattle.archive_tree.specs.Data.{Stamp}
use Rattle.record_format.specs.Data.{PlainEntry, PlainDir}
use Rattle.record_format.specs.Nodes.{Piece, piece_bytes, set_in}

-- the kids, from the first to the last: the length of each with that of the body of its END, or 0 for a leaf, and the stamp of each
pub record PlainKids : Type 0 where
  pub sizes : List (ℕ × ℕ)
  pub stamps : List Stamp

abbrev pub no_kids : PlainKids
no_kids = record { sizes = []; stamps = [] }

-- one more is finished
abbrev pub with_kid : PlainKids → ℕ → ℕ → Stamp → PlainKids
with_kid k n dir s = record { sizes = k.sizes ++ (n, dir) ∷ []; stamps = k.stamps ++ s ∷ [] }

-- how many bytes kids of these sizes have together
abbrev pub row_length : List (ℕ × ℕ) → ℕ
row_length [] = 0
row_length (s ∷ ss) = s.0 + row_length ss

-- the entries of kids of these sizes, the first of which stands at this offset
abbrev pub entries_in : ℕ → List (ℕ × ℕ) → List PlainEntry
entries_in at [] = []
entries_in at (s ∷ ss) = record { start = at; length = s.0; dir = s.1 } ∷ entries_in (at + s.0) ss

-- the effective sets of kids with these stamps, in a row whose parent has this set
abbrev pub sets_in : List (ℕ × ℕ) → List Stamp → List (List (ℕ × ℕ))
sets_in set stamps = map (λ s. set_in s set) stamps

-- the directory of a node that has this set and these kids
abbrev pub dir_in : List (ℕ × ℕ) → PlainKids → PlainDir
dir_in set k = record { entries = entries_in 0 k.sizes; sets = sets_in set k.stamps }

-- the kids are these pieces, where their parent has this set
pub record AreKids (set : List (ℕ × ℕ)) (ps : List Piece) (k : PlainKids) : Type 0 where
  pub sizes : map (λ (p : Piece). (length (piece_bytes p), p.dir)) ps ≡ k.sizes
  pub sets : map (λ (p : Piece). p.set) ps ≡ sets_in set k.stamps

-- The stamps, where the kids that store a set are listed, each behind so many that inherit, and so many inherit at the end.
abbrev pub stamps_in : List (ℕ × List (ℕ × ℕ)) → ℕ → List Stamp
stamps_in [] n = replicate n None
stamps_in (s ∷ ss) n = replicate s.0 None ++ Some s.1 ∷ stamps_in ss n
