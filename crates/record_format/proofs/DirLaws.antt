-- The parts of a directory in its bytes.
use Rattle.std.proofs.Common.{◌≡◌, ℕ, zero, suc, ◌+◌, ◌*◌, List, [], ◌∷◌, ◌++◌, length, take, drop, Some, ◌≤◌, refl, sym, ap, subst, ◌∙◌, append_assoc, arith}
use Rattle.std.specs.List.{flat_map, slice_get, AllByRecursion}
use Rattle.std.proofs.lemmas.List.{take_at, drop_at, drop-drop, length-append}
use Rattle.xa_fields.specs.Spelling.{u32_bytes}
use Rattle.xa_fields.proofs.Fields.{some_is}
use Rattle.timestamp_tree.specs.Data.{top}
use Rattle.timestamp_tree.specs.Tree.{tree_of}
use Rattle.timestamp_tree.proofs.Trees.{leaves-tree_of, IsTree-tree_of}
use Rattle.record_parts.specs.Bounds.{IsSet}
use Rattle.record_format.specs.Data.{PlainEntry, PlainDir}
use Rattle.record_format.specs.DirParts.{DirParts, entry_of}
use Rattle.record_format.specs.Nodes.{Piece, piece_bytes, entries_from, dir_of}
use Rattle.record_format.specs.Spelling.{entry_bytes, sets_bytes, dir_bytes}
use Rattle.record_format.proofs.TreeNodes.{IsSet-top}
use Rattle.record_format.proofs.WholeDirectories.{canonical_sets}

-- ---- entries

entry-at : (es : List PlainEntry) (rest : List ℕ) (i : ℕ) (e : PlainEntry) → slice_get es i ≡ Some e → take 24 (drop (24 * i) (flat_map entry_bytes es ++ rest)) ≡ entry_bytes e
entry-at [] rest i e h = absurd cc
entry-at (x ∷ es) rest zero e h =
    ap (take 24) (append_assoc (entry_bytes x) (flat_map entry_bytes es) rest) ∙ take_at (entry_bytes x) (flat_map entry_bytes es ++ rest) 24 refl ∙ ap entry_bytes (some_is x e h)
entry-at (x ∷ es) rest (suc i) e h =
    let at : 24 * suc i ≡ 24 + 24 * i = omega arith in
    let all : List ℕ = flat_map entry_bytes (x ∷ es) ++ rest in
    let behind : drop 24 all ≡ flat_map entry_bytes es ++ rest = ap (drop 24) (append_assoc (entry_bytes x) (flat_map entry_bytes es) rest) ∙ drop_at (entry_bytes x) (flat_map entry_bytes es ++ rest) 24 refl in
    ap (λ (n : ℕ). take 24 (drop n all)) at ∙ ap (take 24) (sym (drop-drop (24 * i) 24 all)) ∙ ap (λ (bs : List ℕ). take 24 (drop (24 * i) bs)) behind ∙ entry-at es rest i e h

entries-size : (es : List PlainEntry) → length (flat_map entry_bytes es) ≡ 24 * length es
entries-size [] = refl
entries-size (e ∷ es) = omega (arith, length-append (entry_bytes e) (flat_map entry_bytes es), entries-size es)

pub dir_parts : (d : PlainDir) → DirParts d
dir_parts d =
    let es = d.entries in
    let count = u32_bytes (length es) in
    let sets = sets_bytes d.sets in
    let whole : dir_bytes d ≡ count ++ (flat_map entry_bytes es ++ sets) = append_assoc count (flat_map entry_bytes es) sets in
    let behind : drop 4 (dir_bytes d) ≡ flat_map entry_bytes es ++ sets = ap (drop 4) whole ∙ drop_at count (flat_map entry_bytes es ++ sets) 4 refl in
    record {
      count = ap (take 4) whole ∙ take_at count (flat_map entry_bytes es ++ sets) 4 refl;
      entry = λ i e h. ap (take 24) (sym (drop-drop (24 * i) 4 (dir_bytes d))) ∙ ap (λ (bs : List ℕ). take 24 (drop (24 * i) bs)) behind ∙ entry-at es sets i e h;
      sets = sym (drop-drop (24 * length es) 4 (dir_bytes d)) ∙ ap (drop (24 * length es)) behind ∙ drop_at (flat_map entry_bytes es) sets (24 * length es) (entries-size es);
    }

-- ---- the entries of pieces

entry-from : (at : ℕ) (ps : List Piece) (i : ℕ) (p : Piece) → slice_get ps i ≡ Some p → slice_get (entries_from at ps) i ≡ Some (record { start = at + length (flat_map piece_bytes (take i ps)); length = length (piece_bytes p); dir = p.dir })
entry-from at [] i p h = absurd cc
entry-from at (q ∷ ps) zero p h =
    let here : at ≡ at + 0 = omega arith in
    let same = some_is q p h in
    (λ j. Some (record { start = here j; length = length (piece_bytes (same j)); dir = (same j).dir }))
entry-from at (q ∷ ps) (suc i) p h =
    let place : at + length (piece_bytes q) + length (flat_map piece_bytes (take i ps)) ≡ at + length (flat_map piece_bytes (q ∷ take i ps)) = omega (arith, length-append (piece_bytes q) (flat_map piece_bytes (take i ps))) in
    entry-from (at + length (piece_bytes q)) ps i p h ∙ ap (λ (n : ℕ). Some (record { start = n; length = length (piece_bytes p); dir = p.dir })) place

pub piece_entry : (ps : List Piece) (i : ℕ) (p : Piece) → slice_get ps i ≡ Some p → slice_get (dir_of ps).entries i ≡ Some (entry_of ps i p)
piece_entry ps i p h = entry-from 0 ps i p h ∙ ap (λ (n : ℕ). Some (record { start = n; length = length (piece_bytes p); dir = p.dir })) (omega arith)

-- ---- trees

-- the set of the tree over some sets
pub top_set : (sets : List (List (ℕ × ℕ))) → 1 ≤ length sets → AllByRecursion IsSet sets → IsSet (top (tree_of sets))
top_set sets some h =
    let own = leaves-tree_of sets some in
    IsSet-top (tree_of sets) (IsTree-tree_of sets some (canonical_sets sets h)) (subst (λ (xs : List (List (ℕ × ℕ))). AllByRecursion IsSet xs) (sym own) h)
