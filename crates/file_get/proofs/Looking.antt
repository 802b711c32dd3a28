-- What one node of a stored tree says.
use Rattle.std.proofs.Common.{◌≡◌, ℕ, suc, ◌+◌, ◌-◌, ◌≤◌, ◌<◌, ◌^◌, Bool, true, false, List, [], ◌∷◌, ◌++◌, length, map, take, drop, Option, refl, sym, ap, subst, ◌∙◌, arith, append-nil}
use Rattle.std.specs.Prelude.{not}
use Rattle.std.specs.List.{AllByRecursion}
use Rattle.std.proofs.lemmas.List.{length-append, length-take, length-drop}
use Rattle.archive_tree.specs.Data.{PlainNode}
use Rattle.timestamp_tree.specs.Bytes.{stored, tree_bytes}
use Rattle.timestamp_tree.specs.Data.{PlainTs, leaf, node, top}
use Rattle.timestamp_tree.specs.Tree.{half, joined, IsTree}
use Rattle.timestamp_tree.proofs.Trees.{leaves-tree_of, IsTree-tree_of, length-leaf, length-node, length-set_bytes}
use Rattle.xa_outside.specs.Folder.{Files}
use Rattle.record_parts.specs.Bounds.{IsSet}
use Rattle.record_format.proofs.TreeNodes.{IsSet-top}
use Rattle.file_rows.specs.StandsAt.{StandsAt}
use Rattle.file_rows.specs.View.{PlainRow}
use Rattle.file_rows.proofs.Parts.{stands-front, stands-part, stands-back}
use Rattle.file_get.specs.Kids.{set_of}
use Rattle.file_get.specs.Stands.{SpanIs}
use Rattle.file_get.specs.Looked.{own_bytes, own_read, left_bytes, left_of, right_of, NodeOf, tree_over, LookTold, PartsAre}
use Rattle.file_get.specs.Searched.{inner_read}
use Rattle.file_get.specs.Nodes.{NodeTold, probe_view, says}
use Rattle.file_get.specs.declared.node.Probe.{Probe}
use Rattle.file_get.specs.declared.span.Span.{Span}
use Rattle.file_get.proofs.Spans.{nodes-split, canonical-of, top-filled}

-- ---- two parts

some-bytes : (t : PlainTs) → 0 < length (tree_bytes t)
some-bytes (leaf s) = omega (arith, length-leaf s, length-set_bytes s)
some-bytes (node s n l r) = omega (arith, length-node s n l r, length-set_bytes s)

-- the bytes of both parts stand behind the node, one behind the other
pub record Split (t l r : PlainTs) : Type 0 where
  pub own : List ℕ
  pub bytes : tree_bytes t ≡ own ++ (tree_bytes l ++ tree_bytes r)
  pub size : own_bytes t ≡ length own
  pub left : left_bytes t ≡ length (tree_bytes l)
  pub some : 0 < length (tree_bytes l)
  pub more : 0 < length (tree_bytes r)

split-joined : (l r : PlainTs) → Split (joined l r) l r
split-joined l r = record { own = stored (top (joined l r)) (length (tree_bytes l)); bytes = refl; size = refl; left = refl; some = some-bytes l; more = some-bytes r }

pub split-of : (parent : List (ℕ × ℕ)) (ks : List PlainNode) → 1 < length ks → AllByRecursion IsSet (map (set_of parent) ks) → Split (tree_over parent ks) (tree_over parent (take (half (length ks)) ks)) (tree_over parent (drop (half (length ks)) ks))
split-of parent ks many sets =
    let l = tree_over parent (take (half (length ks)) ks) in
    let r = tree_over parent (drop (half (length ks)) ks) in
    subst (λ (t : PlainTs). Split t l r) (sym (nodes-split parent ks many sets)) (split-joined l r)

-- a node of two children or more fits
pub parts-fit : (bytes : List ℕ) (row : PlainRow) (span : Span) (parent : List (ℕ × ℕ)) (front ks behind : List PlainNode) (i : ℕ) (n : Probe) → SpanIs bytes row span parent front ks behind → AllByRecursion IsSet (map (set_of parent) ks) → NodeOf i (tree_over parent ks) n → 1 < length ks
    → (0 < n.left) × (n.left < span.limit - (span.at + n.size))
parts-fit bytes row span parent front ks behind i n is sets of many =
    let s = split-of parent ks many sets in
    let limit = is.limit in
    let whole = ap length s.bytes in
    let l = tree_bytes (tree_over parent (take (half (length ks)) ks)) in
    let r = tree_bytes (tree_over parent (drop (half (length ks)) ks)) in
    let size = of.size in
    let left = of.left in
    let own = s.size in
    let first = s.left in
    let some = s.some in
    let more = s.more in
    (omega (arith, left, first, some), omega (arith, limit, whole, length-append s.own (l ++ r), length-append l r, size, left, own, first, more))

-- both parts stand there
pub parts-are : (bytes : List ℕ) (row : PlainRow) (span : Span) (parent : List (ℕ × ℕ)) (front ks behind : List PlainNode) (i : ℕ) (n : Probe) → SpanIs bytes row span parent front ks behind → AllByRecursion IsSet (map (set_of parent) ks) → NodeOf i (tree_over parent ks) n → 1 < length ks
    → PartsAre bytes row (left_of span (span.at + n.size) (span.at + n.size + n.left)) (right_of span (span.at + n.size + n.left)) parent front ks behind
parts-are bytes row span parent front ks behind i n is sets of many =
    let s = split-of parent ks many sets in
    let k = half (length ks) in
    let limit = is.limit in
    let count = is.count in
    let position = is.position in
    let inside = is.inside in
    let whole = ap length s.bytes in
    let l = tree_bytes (tree_over parent (take k ks)) in
    let r = tree_bytes (tree_over parent (drop k ks)) in
    let size = of.size in
    let left = of.left in
    let own = s.size in
    let first = s.left in
    let counts : half span.count ≡ k = ap half count in
    let all : StandsAt bytes span.at (s.own ++ (l ++ r)) = subst (StandsAt bytes span.at) s.bytes is.tree in
    let at-left : span.at + length s.own ≡ span.at + n.size = omega (arith, size, own) in
    let at-right : span.at + length s.own + length l ≡ span.at + n.size + n.left = omega (arith, size, own, left, first) in
    let lengths = length-append s.own (l ++ r) in
    let inner = length-append l r in
    let front-length = length-take k ks in
    let back-length = length-drop k ks in
    let joined-length = length-append front (take k ks) in
    record {
      front_half = record {
        position = position;
        count = counts ∙ (let e : k ≡ length (take k ks) = omega (arith, front-length, many) in e);
        tree = subst (λ (at : ℕ). StandsAt bytes at l) at-left (stands-part bytes span.at s.own l r all);
        limit = omega (arith, left, first);
        inside = omega (arith, limit, whole, lengths, inner, inside, size, own, left, first);
      };
      back_half = record {
        position = omega (arith, position, counts, joined-length, front-length, many);
        count = omega (arith, count, counts, back-length);
        tree = subst (λ (at : ℕ). StandsAt bytes at r) at-right (stands-back bytes (span.at + length s.own) l r (stands-back bytes span.at s.own (l ++ r) all));
        limit = omega (arith, limit, whole, lengths, inner, size, own, left, first);
        inside = inside;
      };
    }

-- ---- what is read

-- the node at the front of a tree
pub record TreeFront (t : PlainTs) : Type 0 where
  pub more : List ℕ
  pub bytes : tree_bytes t ≡ stored (top t) (left_bytes t) ++ more
  pub size : own_bytes t ≡ length (stored (top t) (left_bytes t))

tree-front : (t : PlainTs) → TreeFront t
tree-front (leaf s) = record { more = []; bytes = sym (append-nil (stored s 0)); size = refl }
tree-front (node s n l r) = record { more = tree_bytes l ++ tree_bytes r; bytes = refl; size = refl }

left-short : (t : PlainTs) → IsTree t → left_bytes t ≤ length (tree_bytes t)
left-short (leaf s) h = omega arith
left-short (node s n l r) h = (let e = h.1 in omega (arith, e, length-node s n l r))

length-map-is : {X Y : Type 0} (f : X → Y) (xs : List X) → length (map f xs) ≡ length xs
length-map-is f [] = refl
length-map-is f (x ∷ xs) = ap (λ n. suc n) (length-map-is f xs)

pub own-size : (parent : List (ℕ × ℕ)) (ks : List PlainNode) → own_bytes (tree_over parent ks) ≡ length (stored (top (tree_over parent ks)) (left_bytes (tree_over parent ks)))
own-size parent ks = (tree-front (tree_over parent ks)).size

-- what is read of the node of two children or more
pub own-inner : (parent : List (ℕ × ℕ)) (ks : List PlainNode) → 1 < length ks → AllByRecursion IsSet (map (set_of parent) ks) → own_read (tree_over parent ks) ≡ inner_read (length (top (tree_over parent ks)))
own-inner parent ks many sets = subst (λ (t : PlainTs). own_read t ≡ inner_read (length (top t))) (sym (nodes-split parent ks many sets)) refl

-- the node that stands at the front of the tree of a part of a row
pub node-told : (files : Option Files) (name bytes : List ℕ) (end : ℕ) (row : PlainRow) (span : Span) (parent : List (ℕ × ℕ)) (front ks behind : List PlainNode) → span.limit < 2 ^ 64 → LookTold files name bytes end row span parent front ks behind
    → NodeTold files name bytes end span.at span.limit (top (tree_over parent ks)) (left_bytes (tree_over parent ks))
node-told files name bytes end row span parent front ks behind short x =
    let t = tree_over parent ks in
    let part = x.part in
    let limit = part.limit in
    let inside = part.inside in
    let within = x.within in
    let sets = map (set_of parent) ks in
    let some : 1 ≤ length sets = (let s = x.some in omega (arith, s, length-map-is (set_of parent) ks)) in
    let tree : IsTree t = IsTree-tree_of sets some (canonical-of sets x.sets) in
    let left : left_bytes t < 2 ^ 64 = (let l = left-short t tree in omega (arith, l, limit, short)) in
    let f = tree-front t in
    let own = stored (top t) (left_bytes t) in
    let whole = ap length f.bytes in
    record {
      tells = x.tells;
      within = omega (arith, inside, within);
      stands = stands-front bytes span.at own f.more (subst (StandsAt bytes span.at) f.bytes part.tree);
      fits = omega (arith, limit, whole, length-append own f.more);
      set = IsSet-top t tree (subst (λ (ss : List (List (ℕ × ℕ))). AllByRecursion IsSet ss) (sym (leaves-tree_of sets some)) x.sets);
      some = top-filled sets some (canonical-of sets x.sets) x.filled;
      short = left;
    }

-- what was read is that node
pub node-of : (i : ℕ) (parent : List (ℕ × ℕ)) (ks : List PlainNode) (probe : Probe) → probe_view probe ≡ says i (top (tree_over parent ks)) (left_bytes (tree_over parent ks)) → NodeOf i (tree_over parent ks) probe
node-of i parent ks probe e =
    record {
      has = ap (λ (x : Bool × ℕ × ℕ). x.0) e;
      left = ap (λ (x : Bool × ℕ × ℕ). x.1) e;
      size = ap (λ (x : Bool × ℕ × ℕ). x.2) e ∙ sym (own-size parent ks);
    }

pub not-false : (b : Bool) → not b ≡ false → b ≡ true
not-false true e = refl
not-false false e = absurd cc
