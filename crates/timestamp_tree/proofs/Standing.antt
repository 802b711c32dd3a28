-- The parts of a tree in its bytes.
use Rattle.std.proofs.Common.{◌≡◌, ℕ, ◌+◌, ◌*◌, List, ◌++◌, length, take, drop, refl, sym, ap, ◌∙◌}
use Rattle.std.proofs.lemmas.List.{take_at, drop_at, drop-drop}
use Rattle.timestamp_tree.specs.Data.{PlainTs}
use Rattle.timestamp_tree.specs.Bytes.{stored, tree_bytes}
use Rattle.timestamp_tree.specs.Parts.{StandParts}
use Rattle.timestamp_tree.proofs.Stored.{size_is}

pub stand_parts : (s : List (ℕ × ℕ)) (n : ℕ) (l r : PlainTs) → StandParts s n l r
stand_parts s n l r =
    let size : ℕ = 12 + 8 * length s in
    let both : List ℕ = tree_bytes l ++ tree_bytes r in
    let own : length (stored s n) ≡ size = sym (size_is s n) in
    let behind : drop size (stored s n ++ both) ≡ both = drop_at (stored s n) both size own in
    record {
      own = take_at (stored s n) both size own;
      left = ap (take (length (tree_bytes l))) behind ∙ take_at (tree_bytes l) (tree_bytes r) (length (tree_bytes l)) refl;
      right = sym (drop-drop (length (tree_bytes l)) size (stored s n ++ both)) ∙ ap (drop (length (tree_bytes l))) behind ∙ drop_at (tree_bytes l) (tree_bytes r) (length (tree_bytes l)) refl;
    }
