-- The row of the virtual root, and whether the sets of its nodes divide the versions.
use Rattle.std.proofs.Common.{◌≡◌, ℕ, Bool, true, false, ◌&&◌, IsTrue, List, ◌∷◌, map, Some, None, Ok, Err, refl, sym, ap, subst, ◌∙◌, true≢false}
use Rattle.std.specs.List.{AllByRecursion, flat_map}
use Rattle.std.proofs.lemmas.Bool.{and_parts}
use Rattle.jsonml_tree.specs.declared.limits.TheConstants.{GREATEST_DEPTH}
use Rattle.key_spec.specs.Data.{PlainRule}
use Rattle.keyed_tree.specs.Data.{PlainLabel}
use Rattle.version_set.specs.Members.{members}
use Rattle.version_set.specs.Pairs.{IsCanonical}
use Rattle.archive_tree.specs.Data.{Stamp, eff, PlainNode, inner_node, leaf_node, PlainNodes, no_nodes, node, node_label, node_stamp}
use Rattle.archive_tree.specs.Parts.{node_sets}
use Rattle.archive_tree.specs.PartsTest.{is_stamp_well, are_parts}
use Rattle.archive_tree.proofs.Tells.{stamp_tells}
use Rattle.record_parts.specs.Bounds.{IsSet}
use Rattle.record_format.specs.Nodes.{Piece, set_in, node_piece, node_pieces}
use Rattle.record_cursor.specs.declared.fault.CursorFault.{CursorFault}
use Rattle.record_cursor.specs.declared.fault.CursorFault.TheVariants.{Damage}
use Rattle.node_judge.specs.Rows.{PlainFrame, root_frame, may_open, is_above, row_below, leaf_of, are_alts_of, behind_kid, is_next, goes_on}
use Rattle.node_judge.specs.InPlace.{is_opening_sound}
use Rattle.row_ends.specs.Kids.{PlainKids, sets_in}
use Rattle.node_walk.specs.Seen.{Seen, Told}
use Rattle.node_walk.specs.Walked.{RowJudged, RootJudged}
use Rattle.node_walk.proofs.Steps.{reads-stop}

abbrev Set : Type 0
Set = List (ℕ × ℕ)

-- ---- the sets of nodes that are right

first-part : (a b c : Bool) → IsTrue (a && b && c) → IsTrue a
first-part true b c h = refl
first-part false b c h = h

-- the stamp of what may come next is well
opening-stamp : (f : PlainFrame) (is_leaf : Bool) (l : PlainLabel) (s : Stamp) → IsTrue (may_open f is_leaf l s) → IsTrue (is_stamp_well s (members f.set))
opening-stamp f is_leaf l s h =
    let two = and_parts (is_above f.last l) (is_opening_sound f.rules f.path (members f.set) f.left f.waits is_leaf l s) h in
    first-part (is_stamp_well s (members f.set)) _ _ two.1

next-stamp : (f : PlainFrame) (k : PlainNode) → IsTrue (is_next f k) → IsTrue (is_stamp_well (node_stamp k) (members f.set))
next-stamp f (leaf_node l s xs) h = opening-stamp f true l s (and_parts (may_open f true l s) (are_alts_of (leaf_of f l s) xs) h).0
next-stamp f (inner_node l s ks) h = opening-stamp f false l s (and_parts (may_open f false l s) (goes_on (row_below f l s) ks) h).0

set-canonical : (s : Stamp) (set : Set) → IsCanonical set → IsTrue (is_stamp_well s (members set)) → IsCanonical (set_in s set)
set-canonical None set canonical h = canonical
set-canonical (Some t) set canonical h = ((stamp_tells (Some t) (members set)).0 h).canonical t refl

abbrev set_of_piece : Piece → Set
set_of_piece p = p.set

piece-set : (set : Set) (k : PlainNode) → (node_piece set k).set ≡ set_in (node_stamp k) set
piece-set set (inner_node l s ks) = refl
piece-set set (leaf_node l s xs) = refl

sets-canonical : (f : PlainFrame) (ks : PlainNodes) → IsCanonical f.set → IsTrue (goes_on f ks) → AllByRecursion IsCanonical (map set_of_piece (node_pieces f.set ks))
sets-canonical f no_nodes canonical h = tt
sets-canonical f (node k ks) canonical h =
    let two = and_parts (is_next f k) (goes_on (behind_kid f (node_label k)) ks) h in (
      subst IsCanonical (sym (piece-set f.set k)) (set-canonical (node_stamp k) f.set canonical (next-stamp f k two.0)),
      sets-canonical (behind_kid f (node_label k)) ks canonical two.1,
    )

-- their numbers are those of the nodes
set-numbers : (s : Stamp) (set : Set) → members (set_in s set) ≡ eff s (members set)
set-numbers None set = refl
set-numbers (Some t) set = refl

sets-are : (set : Set) (ks : PlainNodes) → map members (map set_of_piece (node_pieces set ks)) ≡ node_sets (members set) ks
sets-are set no_nodes = refl
sets-are set (node k ks) = (λ i. (ap members (piece-set set k) ∙ set-numbers (node_stamp k) set) i ∷ sets-are set ks i)

-- ---- the root

module _ (rules : List PlainRule) (set : Set) (is_set : IsSet set) (s t : Seen) where
  abbrev root : PlainFrame
  root = root_frame rules set GREATEST_DEPTH

  pub root-failed : (kids : PlainKids) (e : CursorFault) → RowJudged root kids s t (Err e) → RootJudged rules set s t (Err e)
  root-failed kids e j = record { reads = j.reads; behind = tt; lies = λ bytes told. tt; found = λ bytes told ks rest lies right. j.found bytes told ks rest lies right.0 }

  module _ (kids : PlainKids) (n : ℕ) (j : RowJudged root kids s t (Ok n)) where
    module _ (pairs : Set) (all : pairs ≡ flat_map (λ x. x) (sets_in set kids.stamps)) (b : Bool) (answer : (ss : List Set) → AllByRecursion IsCanonical ss → pairs ≡ flat_map (λ x. x) ss → b ≡ are_parts (members set) (map members ss)) where
      -- whether the nodes that lie there divide the versions
      answered : (bytes : List ℕ) (told : Told s bytes) → b ≡ are_parts (members set) (node_sets (members set) (j.lies bytes told).nodes)
      answered bytes told =
          let x = j.lies bytes told in
          let ss = map set_of_piece (node_pieces set x.nodes) in
          let are = x.are in
          answer ss (sets-canonical root x.nodes is_set.canonical x.right) (all ∙ ap (flat_map (λ (y : Set). y)) (sym are.sets)) ∙ ap (are_parts (members set)) (sets-are set x.nodes)

      pub root-judged : b ≡ true → RootJudged rules set s t (Ok n)
      root-judged is = record {
        reads = j.reads;
        behind = j.behind;
        lies = λ bytes told. (kids, j.lies bytes told, sym (answered bytes told) ∙ is);
        found = λ bytes told ks rest lies right. tt;
      }

      pub root-refused : b ≡ false → RootJudged rules set s t (Err Damage)
      root-refused is = record {
        reads = reads-stop s t Damage tt j.reads;
        behind = tt;
        lies = λ bytes told. tt;
        found = λ bytes told ks rest lies right. (
            let x = j.lies bytes told in
            let same = (x.only ks rest lies).0 in
            true≢false (sym right.1 ∙ ap (λ (z : PlainNodes). are_parts (members set) (node_sets (members set) z)) (sym same) ∙ sym (answered bytes told) ∙ is));
      }
