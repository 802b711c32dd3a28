-- Reading the nodes of a tree for the sets of its leaves.
use Rattle.std.proofs.Common.{◌≡◌, ℕ, suc, ◌+◌, ◌-◌, ◌<◌, ◌≤◌, ◌==◌, true, false, cond, List, [], ◌∷◌, ◌++◌, length, drop, Option, Some, None, refl, sym, ap, ◌∙◌, append_assoc, arith}
use Rattle.std.proofs.lemmas.List.{append-nil, length-map}
use Rattle.xa_fields.specs.Reading.{◌>>=◌, many_at}
use Rattle.xa_fields.specs.Laws.{IsBytes}
use Rattle.xa_fields.proofs.Loops.{with_front}
use Rattle.xa_fields.proofs.Combinators.{many_reads}
use Rattle.record_parts.specs.Bounds.{most}
use Rattle.record_format.specs.Data.{PlainEntry}
use Rattle.record_format.specs.Spelling.{entry_bytes}
use Rattle.record_format.specs.Bounds.{IsEntry}
use Rattle.record_parts.specs.Reading.{Fails}
use Rattle.record_format.specs.Reading.{entry_at, leaf_sets, with_leaf_sets}
use Rattle.timestamp_tree.specs.Reading.{stored_at}
use Rattle.record_parts.specs.declared.fault.RecFault.{RecFault}
use Rattle.record_parts.specs.declared.fault.RecFault.TheVariants.{Damage, Memory}
use Rattle.record_format.proofs.Entries.{entry_reads}

leaf_sets-one : (n : List (ℕ × ℕ) × ℕ) (ns : List (List (ℕ × ℕ) × ℕ)) → leaf_sets (n ∷ ns) ≡ leaf_sets (n ∷ []) ++ leaf_sets ns
leaf_sets-one n ns = elim (n.1 == 0) as (λ b. cond b (n.0 ∷ leaf_sets ns) (leaf_sets ns) ≡ cond b (n.0 ∷ []) [] ++ leaf_sets ns) [ true ↦ refl | false ↦ refl ]

regroup : (front : List (List (ℕ × ℕ))) (n : List (ℕ × ℕ) × ℕ) (read : Option (List (List (ℕ × ℕ) × ℕ) × List ℕ))
    → with_front front (with_leaf_sets (read >>= λ x. Some (n ∷ x.0, x.1))) ≡ with_front (front ++ leaf_sets (n ∷ [])) (with_leaf_sets read)
regroup front n (Some x) = ap (λ (ss : List (List (ℕ × ℕ))). Some (ss, x.1)) (ap (λ (ss : List (List (ℕ × ℕ))). front ++ ss) (leaf_sets-one n x.0) ∙ sym (append_assoc front (leaf_sets (n ∷ [])) (leaf_sets x.0)))
regroup front n None = refl

-- one more node
pub node_on : (front : List (List (ℕ × ℕ))) (count i : ℕ) (bytes : List ℕ) (n : List (ℕ × ℕ) × ℕ) (after : List ℕ) (total : Option (List (List (ℕ × ℕ)) × List ℕ)) → i < count → stored_at most bytes ≡ Some (n, after)
    → with_front front (with_leaf_sets (many_at (stored_at most) (count - i) bytes)) ≡ total → with_front (front ++ leaf_sets (n ∷ [])) (with_leaf_sets (many_at (stored_at most) (count - (i + 1)) after)) ≡ total
unfolding many_at
node_on front count i bytes n after total lt h so_far =
    let k : count - i ≡ suc (count - (i + 1)) = omega arith in
    let step : with_front front (with_leaf_sets (many_at (stored_at most) (count - i) bytes)) ≡ with_front (front ++ leaf_sets (n ∷ [])) (with_leaf_sets (many_at (stored_at most) (count - (i + 1)) after)) =
    rw (k, h) (regroup front n (many_at (stored_at most) (count - (i + 1)) after)) in
    sym step ∙ so_far

node_breaks : (front : List (List (ℕ × ℕ))) (count i : ℕ) (bytes : List ℕ) (total : Option (List (List (ℕ × ℕ)) × List ℕ)) → i < count → stored_at most bytes ≡ None
    → with_front front (with_leaf_sets (many_at (stored_at most) (count - i) bytes)) ≡ total → total ≡ None
unfolding many_at
node_breaks front count i bytes total lt h so_far =
    let k : count - i ≡ suc (count - (i + 1)) = omega arith in
    let step : with_front front (with_leaf_sets (many_at (stored_at most) (count - i) bytes)) ≡ None = rw (k, h) refl in
    sym so_far ∙ step

-- no node where one is wanted
pub node_fails : (e : RecFault) (front : List (List (ℕ × ℕ))) (count i : ℕ) (bytes : List ℕ) (total : Option (List (List (ℕ × ℕ)) × List ℕ)) → i < count → Fails e (stored_at most bytes)
    → with_front front (with_leaf_sets (many_at (stored_at most) (count - i) bytes)) ≡ total → Fails e total
node_fails Damage front count i bytes total lt h so_far = node_breaks front count i bytes total lt h so_far
node_fails Memory front count i bytes total lt h so_far = tt

-- all nodes
pub nodes_done : (front : List (List (ℕ × ℕ))) (count i : ℕ) (bytes : List ℕ) (total : Option (List (List (ℕ × ℕ)) × List ℕ)) → count ≤ i → with_front front (with_leaf_sets (many_at (stored_at most) (count - i) bytes)) ≡ total → total ≡ Some (front, bytes)
unfolding many_at
nodes_done front count i bytes total le so_far =
    let k : count - i ≡ 0 = omega arith in
    let step : with_front front (with_leaf_sets (many_at (stored_at most) (count - i) bytes)) ≡ Some (front, bytes) = rw k (ap (λ (ss : List (List (ℕ × ℕ))). Some (ss, bytes)) (append-nil front)) in
    sym so_far ∙ step

-- so many entries were read as were wanted
pub entries_read : (count at : ℕ) (bytes : List ℕ) (es : List PlainEntry) (rest : List ℕ) → IsBytes (drop at bytes) → many_at entry_at count (drop at bytes) ≡ Some (es, rest) → length es ≡ count
entries_read count at bytes es rest fits e = ((many_reads entry_at entry_bytes IsEntry count entry_reads).takes (drop at bytes) (es, rest) fits e).fits.1

pub ruleset lengths = (length-map)
