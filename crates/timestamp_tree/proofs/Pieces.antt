-- Pieces of a file, and how much of one is read.
use Rattle.std.proofs.Common.{◌≡◌, ℕ, ◌+◌, ◌-◌, ◌*◌, ◌≤◌, ◌<◌, List, length, take, drop, Some, None, Result, Ok, Err, IfOk, sym, ap, ◌∙◌, arith}
use Rattle.std.specs.Int.{w32}
use Rattle.std.proofs.lemmas.List.{drop-drop, length-drop, length-take}
use Rattle.xa_fields.specs.Reading.{number_at}
use Rattle.xa_fields.proofs.Fields.{some_is}
use Rattle.xa_outside.specs.Numbers.{Numbers, PullsAtMost, after_pull}
use Rattle.version_set.specs.View.{pairs_of}
use Rattle.timestamp_tree.specs.Reading.{stored_at}
use Rattle.timestamp_tree.specs.Nodes.{IfDamage, TellsNode, TellsParts, parts_at}
use Rattle.timestamp_tree.specs.declared.node.Node.{Node}
use Rattle.timestamp_tree.specs.declared.fault.NodeFault.{NodeFault}
use Rattle.timestamp_tree.specs.declared.fault.NodeFault.TheVariants.{Damage, Folder, Memory}
use Rattle.timestamp_tree.proofs.Stored.{stored_is, stored_sizes, too_few, too_few_parts}
use Rattle.xa_outside.specs.NumberLaws.{PullsAtMost-of, PullsAtMost-more, PullsAtMost-trans}

-- ---- the bytes of a piece

-- a piece ends at its limit
pub piece_within : (file : List ℕ) (at limit : ℕ) → length (drop at (take limit file)) ≤ limit - at
piece_within file at limit = omega (arith, length-drop at (take limit file), length-take limit file)

-- ---- how much of it is read

-- four bytes, and then the rest of a node of so many intervals
pub pulled_both : (limit n : ℕ) (a b d : Numbers) → 12 + 8 * n ≤ limit → b ≡ after_pull a 4 → PullsAtMost (8 * n + 8) b d → PullsAtMost limit a d
pulled_both limit n a b d fits first second =
    PullsAtMost-more (4 + (8 * n + 8)) limit a d (omega arith) (PullsAtMost-trans 4 (8 * n + 8) a b d (PullsAtMost-of 4 4 a b (omega arith) first) second)

-- ---- what the parts of a node say of it

pub damage_map : (e : NodeFault) (P Q : Type 0) → (P → Q) → IfDamage e P → IfDamage e Q
damage_map Damage P Q f h = f h
damage_map Folder P Q f h = tt
damage_map Memory P Q f h = tt

-- too few bytes for a node
pub no_count : (piece : List ℕ) (e : NodeFault) → IfDamage e (length piece < 4) → IfDamage e ((most : ℕ) → stored_at most piece ≡ None)
no_count piece e = damage_map e _ _ (λ few most. too_few most piece (omega (arith, few)))

-- too few for its intervals
pub no_rest : (most n : ℕ) (piece : List ℕ) (e : NodeFault) → IfDamage e (length piece < 8 * n + 8) → IfDamage e (parts_at most n piece ≡ None)
no_rest most n piece e = damage_map e _ _ (too_few_parts most n piece)

-- the number of intervals was read, and then the rest of the node
pub node_told : (most n at : ℕ) (bytes : List ℕ) (result : Result Node NodeFault) → number_at w32 (drop at bytes) ≡ Some (n, drop 4 (drop at bytes)) → IfOk result (λ node. node.size ≡ 12 + 8 * n) → TellsParts most n (drop (at + 4) bytes) result → TellsNode most (drop at bytes) result
node_told most n at bytes (Ok node) count size parts =
    let behind : drop (8 * n + 8) (drop (at + 4) bytes) ≡ drop node.size (drop at bytes) = drop-drop (8 * n + 8) (at + 4) bytes ∙ ap (λ (k : ℕ). drop k bytes) (omega (arith, size)) ∙ sym (drop-drop node.size at bytes) in
    stored_is most n (drop at bytes) count ∙ ap (parts_at most n) (drop-drop 4 at bytes) ∙ parts ∙ ap (λ (rest : List ℕ). Some ((pairs_of node.set, node.left), rest)) behind
node_told most n at bytes (Err e) count size parts = damage_map e _ _ (λ none. stored_is most n (drop at bytes) count ∙ ap (parts_at most n) (drop-drop 4 at bytes) ∙ none) parts

-- so many intervals has the node that stands there
pub count_stands : (most n : ℕ) (piece rest : List ℕ) (s : List (ℕ × ℕ)) (left : ℕ) → number_at w32 piece ≡ Some (n, drop 4 piece) → stored_at most piece ≡ Some ((s, left), rest) → n ≡ length s
count_stands most n piece rest s left count stands =
    ap (λ (y : ℕ × List ℕ). y.0) (some_is (n, drop 4 piece) (length s, drop 4 piece) (sym count ∙ (stored_sizes most piece ((s, left), rest) stands).count))
