-- The directory that some bytes are is spelled so, and what is spelled so is that directory.
use Rattle.std.proofs.Common.{◌≡◌, ℕ, ◌<◌, ◌^◌, ◌==◌, ◌&&◌, Bool, true, false, cond, List, [], ◌∷◌, ◌++◌, length, Option, Some, None, refl, sym, ap, subst, ◌∙◌, arith}
use Rattle.std.specs.Prelude.{bytes_eq}
use Rattle.std.specs.List.{flat_map, AllByRecursion}
use Rattle.std.proofs.lemmas.Bool.{eqb-true}
use Rattle.std.proofs.lemmas.Bool.Decides.{nat_tests}
use Rattle.std.proofs.lemmas.List.{append-nil, length-append}
use Rattle.std.proofs.lemmas.Slice.Eq.{bytes_eq-Decides}
use Rattle.version_set.specs.Pairs.{IsCanonical}
use Rattle.xa_fields.specs.Spelling.{u64_bytes, list_bytes}
use Rattle.xa_fields.specs.Reading.{◌>>=◌, number_at, many_at, list_at, whole}
use Rattle.std.specs.Int.{w64}
use Rattle.xa_fields.specs.Laws.{IsBytes, Reads}
use Rattle.xa_fields.proofs.Fields.{bind_some, some_is, u64_reads}
use Rattle.xa_fields.proofs.Combinators.{many_reads, list_reads, both_reads}
use Rattle.timestamp_tree.specs.Bytes.{set_bytes, tree_bytes}
use Rattle.timestamp_tree.specs.Data.{PlainTs, leaves}
use Rattle.timestamp_tree.specs.Tree.{IsTree, tree_of}
use Rattle.timestamp_tree.proofs.Trees.{leaves-tree_of, IsTree-tree_of}
use Rattle.record_format.specs.Data.{PlainDir}
use Rattle.record_format.specs.Spelling.{entry_bytes, sets_bytes, dir_bytes}
use Rattle.record_parts.specs.Bounds.{IsSet, most}
use Rattle.record_format.specs.Bounds.{IsEntry, IsDir}
use Rattle.record_format.specs.Reading.{entry_at, leaf_sets, with_leaf_sets, node_count, entries_and_leaves, spells_dir, whole_dir}
use Rattle.timestamp_tree.specs.Reading.{set_at, stored_at}
use Rattle.xa_fields.specs.FieldLaws.{passed_some}
use Rattle.record_format.proofs.Entries.{entry_reads}
use Rattle.record_parts.specs.Parts.{set_reads}
use Rattle.record_format.proofs.TreeNodes.{Node, nodes_of, node_bytes, IsNode, tree_bytes-is, length-nodes_of, leaf_sets-nodes_of, each_node, each_leaf_set}

pub node_reads : Reads (stored_at most) node_bytes IsNode
node_reads = both_reads (set_at most) (number_at w64) set_bytes u64_bytes IsSet (λ n. n < 2 ^ 64) set_reads u64_reads

-- ---- what is read

-- what is known of the entries and leaves that were read
record IsCandidate (d : PlainDir) : Type 0 where
  few : length d.entries < 2 ^ 32
  entries : AllByRecursion IsEntry d.entries
  sets : AllByRecursion IsSet d.sets

gathered : (r : Option (List Node × List ℕ)) (y : List (List (ℕ × ℕ)) × List ℕ) → with_leaf_sets r ≡ Some y → (x : List Node × List ℕ) × (r ≡ Some x) × ((leaf_sets x.0, x.1) ≡ y)
gathered (Some x) y e = (x, refl, some_is (leaf_sets x.0, x.1) y e)
gathered None y e = absurd cc

candidate : (bytes : List ℕ) (x : PlainDir × List ℕ) → IsBytes bytes → entries_and_leaves bytes ≡ Some x → IsCandidate x.0
unfolding entries_and_leaves
candidate bytes x fits e =
    let a = bind_some (list_at entry_at bytes) (λ entries. with_leaf_sets (many_at (stored_at most) (node_count (length entries.0)) entries.1) >>= λ sets. Some (record { entries = entries.0; sets = sets.0 }, sets.1)) x e in
    let b = bind_some (with_leaf_sets (many_at (stored_at most) (node_count (length a.0.0)) a.0.1)) (λ sets. Some (record { entries = a.0.0; sets = sets.0 }, sets.1)) x a.2 in
    let g = gathered (many_at (stored_at most) (node_count (length a.0.0)) a.0.1) b.0 b.1 in
    let s = (list_reads entry_at entry_bytes IsEntry entry_reads).takes bytes a.0 fits a.1 in
    let t = (many_reads (stored_at most) node_bytes IsNode (node_count (length a.0.0)) node_reads).takes a.0.1 g.0 s.takes.rest_fits g.1 in
    let made : PlainDir × List ℕ = (record { entries = a.0.0; sets = b.0.0 }, b.0.1) in
    let sets : AllByRecursion IsSet b.0.0 = subst (λ (y : List (List (ℕ × ℕ)) × List ℕ). AllByRecursion IsSet y.0) g.2 (each_leaf_set g.0.0 t.fits.0) in
    subst (λ (y : PlainDir × List ℕ). IsCandidate y.0) (some_is made x b.2) (record { few = s.fits.few; entries = s.fits.each; sets = sets })

both_true : (a b : Bool) → (a && b) ≡ true → (a ≡ true) × (b ≡ true)
both_true true true e = (refl, refl)
both_true true false e = absurd cc
both_true false b e = absurd cc

decided : (xs ys : List ℕ) → bytes_eq xs ys ≡ true → xs ≡ ys
decided xs ys e = grind (arith, bytes_eq-Decides)

pub whole_dir_found : (bytes : List ℕ) (d : PlainDir) → IsBytes bytes → whole_dir bytes ≡ Some d → IsDir d × (bytes ≡ dir_bytes d)
unfolding whole_dir whole
whole_dir_found bytes d fits e =
    let a = bind_some (whole entries_and_leaves bytes) (λ d. cond (spells_dir bytes d) (Some d) None) d e in
    let p = passed_some (spells_dir bytes a.0) a.0 d a.2 in
    let two = both_true (length a.0.sets == length a.0.entries) (bytes_eq (dir_bytes a.0) bytes) p.0 in
    let b = bind_some (entries_and_leaves bytes) (λ x. cond (length x.1 == 0) (Some x.0) None) a.0 a.1 in
    let q = passed_some (length b.0.1 == 0) b.0.0 a.0 b.2 in
    let c = candidate bytes b.0 fits b.1 in
    let known : IsCandidate a.0 = subst IsCandidate q.1 c in
    let is : IsDir a.0 × (bytes ≡ dir_bytes a.0) = (record { few = known.few; entries = known.entries; sets = known.sets; paired = eqb-true _ _ two.0 }, sym (decided (dir_bytes a.0) bytes two.1)) in
    subst (λ (y : PlainDir). IsDir y × (bytes ≡ dir_bytes y)) p.1 is

-- ---- what is spelled

pub canonical_sets : (sets : List (List (ℕ × ℕ))) → AllByRecursion IsSet sets → AllByRecursion IsCanonical sets
canonical_sets [] h = tt
canonical_sets (s ∷ sets) h = (h.0.canonical, canonical_sets sets h.1)

sets_again : (sets : List (List (ℕ × ℕ))) → AllByRecursion IsSet sets → length (sets_bytes sets) < 2 ^ 64 → with_leaf_sets (many_at (stored_at most) (node_count (length sets)) (sets_bytes sets)) ≡ Some (sets, [])
unfolding many_at
sets_again [] h short = refl
sets_again (s ∷ ss) h short =
    let sets : List (List (ℕ × ℕ)) = s ∷ ss in
    let t : PlainTs = tree_of sets in
    let is : IsTree t = IsTree-tree_of sets (omega arith) (canonical_sets sets h) in
    let own : leaves t ≡ sets = leaves-tree_of sets (omega arith) in
    let fits : AllByRecursion IsNode (nodes_of t) = each_node t is (subst (λ (xs : List (List (ℕ × ℕ))). AllByRecursion IsSet xs) (sym own) h) short in
    let count : length (nodes_of t) ≡ node_count (length sets) = omega (arith, length-nodes_of t, ap length own) in
    let spelled : tree_bytes t ≡ flat_map node_bytes (nodes_of t) ++ [] = tree_bytes-is t ∙ sym (append-nil (flat_map node_bytes (nodes_of t))) in
    let read : many_at (stored_at most) (node_count (length sets)) (flat_map node_bytes (nodes_of t) ++ []) ≡ Some (nodes_of t, []) = (many_reads (stored_at most) node_bytes IsNode (node_count (length sets)) node_reads).again (nodes_of t) [] (fits, count) in
    ap (λ (b : List ℕ). with_leaf_sets (many_at (stored_at most) (node_count (length sets)) b)) spelled ∙ ap with_leaf_sets read ∙ ap (λ (xs : List (List (ℕ × ℕ))). Some (xs, [])) (leaf_sets-nodes_of t is ∙ own)

pub same_bytes : (xs : List ℕ) → bytes_eq xs xs ≡ true
same_bytes xs = grind (arith, bytes_eq-Decides)

same_count : (m n : ℕ) → m ≡ n → (m == n) ≡ true
same_count m n e = grind (arith, nat_tests)

candidate_again : (d : PlainDir) → IsDir d → length (dir_bytes d) < 2 ^ 64 → entries_and_leaves (dir_bytes d) ≡ Some (d, [])
unfolding entries_and_leaves
candidate_again d h short =
    let few : length (sets_bytes d.sets) < 2 ^ 64 = omega (arith, length-append (list_bytes entry_bytes d.entries) (sets_bytes d.sets)) in
    let entries = (list_reads entry_at entry_bytes IsEntry entry_reads).again d.entries (sets_bytes d.sets) (record { few = h.few; each = h.entries }) in
    let sets : with_leaf_sets (many_at (stored_at most) (node_count (length d.entries)) (sets_bytes d.sets)) ≡ Some (d.sets, []) =
    ap (λ (k : ℕ). with_leaf_sets (many_at (stored_at most) (node_count k) (sets_bytes d.sets))) (sym h.paired) ∙ sets_again d.sets h.sets few in
    rw entries (rw sets refl)

pub whole_dir_only : (d : PlainDir) → IsDir d → length (dir_bytes d) < 2 ^ 64 → whole_dir (dir_bytes d) ≡ Some d
unfolding whole_dir whole
whole_dir_only d h short =
    let read = candidate_again d h short in
    let sizes = same_count (length d.sets) (length d.entries) h.paired in
    let same = same_bytes (dir_bytes d) in
    rw read (rw (sizes, same) refl)
