-- How many bytes a directory has at least.
use Rattle.std.proofs.Common.{◌≡◌, ◌≤◌, ℕ, ◌*◌, Bool, true, false, ◌&&◌, List, [], ◌∷◌, length, refl, sym, ap, subst, ◌∙◌, arith, leb, true≢false}
use Rattle.std.specs.Prelude.{bytes_eq}
use Rattle.std.proofs.lemmas.Bool.{false_from_ne_true, le-leb}
use Rattle.std.proofs.lemmas.List.{length-append}
use Rattle.std.proofs.lemmas.List.Sums.{sum_by-append}
use Rattle.std.proofs.lemmas.Slice.Eq.{bytes_eq-Decides}
use Rattle.timestamp_tree.specs.Bytes.{tree_bytes}
use Rattle.timestamp_tree.specs.Data.{PlainTs, leaf, node, leaves}
use Rattle.timestamp_tree.specs.Tree.{tree_of}
use Rattle.timestamp_tree.proofs.Trees.{length-set_bytes, length-leaf, length-node, leaves-tree_of}
use Rattle.xa_fields.specs.Spelling.{list_bytes}
use Rattle.record_format.specs.Data.{PlainDir}
use Rattle.record_format.specs.Spelling.{entry_bytes, sets_bytes, dir_bytes}
use Rattle.archive_file.specs.Sizes.{pairs_size}

-- a tree spells the sets of its leaves
tree-least : (t : PlainTs) → pairs_size (leaves t) ≤ length (tree_bytes t)
tree-least (leaf s) = omega (arith, length-leaf s, length-set_bytes s)
tree-least (node s n l r) = omega (arith, sum_by-append (λ (ps : List (ℕ × ℕ)). 8 * length ps) (leaves l) (leaves r), tree-least l, tree-least r, length-node s n l r)

sets-least : (sets : List (List (ℕ × ℕ))) → pairs_size sets ≤ length (sets_bytes sets)
sets-least [] = omega arith
sets-least (s ∷ ss) = subst (λ (z : List (List (ℕ × ℕ))). pairs_size z ≤ length (tree_bytes (tree_of (s ∷ ss)))) (leaves-tree_of (s ∷ ss) (omega arith)) (tree-least (tree_of (s ∷ ss)))

dir-least : (d : PlainDir) → pairs_size d.sets ≤ length (dir_bytes d)
dir-least d = omega (arith, length-append (list_bytes entry_bytes d.entries) (sets_bytes d.sets), sets-least d.sets)

none_of_both : (a b : Bool) → b ≡ false → false ≡ (a && b)
none_of_both true b e = sym e
none_of_both false b e = refl

-- bytes with no room for the intervals of its sets are not a directory
pub no_room : (few : Bool) (d : PlainDir) (sets : List (List (ℕ × ℕ))) (body : List ℕ) → sets ≡ d.sets → leb (pairs_size sets) (length body) ≡ false → false ≡ (few && bytes_eq (dir_bytes d) body)
no_room few d sets body e f =
    none_of_both few (bytes_eq (dir_bytes d) body) (false_from_ne_true (bytes_eq (dir_bytes d) body) (λ g. (
    let same : length (dir_bytes d) ≡ length body = ap length ((bytes_eq-Decides (dir_bytes d) body).0 g) in
    let least : pairs_size sets ≤ length body = omega (arith, dir-least d, same, ap pairs_size e) in
    true≢false (sym (le-leb _ _ least) ∙ f))))
