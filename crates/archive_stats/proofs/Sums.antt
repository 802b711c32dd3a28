-- What is added up over the records of nodes is added up over the nodes.
use Rattle.std.proofs.Common.{◌≡◌, ℕ, ◌+◌, cond, List, [], ◌∷◌, ◌++◌, map, length, refl, ◌∙◌, arith}
use Rattle.std.specs.Prelude.{sum_by, count_by}
use Rattle.std.specs.List.{flat_map}
use Rattle.std.proofs.lemmas.List.Sums.{sum_by-cons, sum_by-append, sum_by_push}
use Rattle.archive_tree.specs.Data.{PlainNode, inner_node, leaf_node, PlainNodes, no_nodes, node}
use Rattle.record_format.specs.Data.{PlainDir, PlainRec, inner_rec, leaf_rec, end_rec, leaf_end}
use Rattle.record_format.specs.Nodes.{Piece, dir_of, closed_by_end, alt_of, set_in, node_piece, node_pieces}
use Rattle.archive_stats.specs.Counts.{nodes_from, nodes_among, is_inner, is_leaf, alts_of, stamps_of}
use Rattle.record_cursor.specs.Items.{PlainItem, item_of}
use Rattle.archive_stats.specs.Tally.{inner_in, leaves_in, alternatives_in, stamps_in}

-- ---- sums

pub sum-same : {X : Type 0} (f g : X → ℕ) → ((x : X) → f x ≡ g x) → (xs : List X) → sum_by f xs ≡ sum_by g xs
sum-same f g same [] = refl
sum-same f g same (x ∷ xs) = omega (arith, sum_by-cons f x xs, sum_by-cons g x xs, same x, sum-same f g same xs)

sum-none : {X : Type 0} (xs : List X) → sum_by (λ (x : X). 0) xs ≡ 0
sum-none [] = refl
sum-none {X} (x ∷ xs) = omega (arith, sum_by-cons (λ (x : X). 0) x xs, sum-none xs)

sum-ones : {X : Type 0} (xs : List X) → sum_by (λ (x : X). 1) xs ≡ length xs
sum-ones [] = refl
sum-ones {X} (x ∷ xs) = omega (arith, sum_by-cons (λ (x : X). 1) x xs, sum-ones xs)

sum-map : {X Y : Type 0} (f : Y → ℕ) (g : X → Y) (xs : List X) → sum_by f (map g xs) ≡ sum_by (λ x. f (g x)) xs
sum-map f g [] = refl
sum-map f g (x ∷ xs) = omega (arith, sum_by-cons f (g x) (map g xs), sum_by-cons (λ x. f (g x)) x xs, sum-map f g xs)

-- ---- records

-- nothing is added for the records that close nodes
pub record SkipsEnds (f : PlainRec → ℕ) : Type 0 where
  pub inner : (d : PlainDir) → f (end_rec d) ≡ 0
  pub leaf : f leaf_end ≡ 0

-- what is added for the records of a node itself
abbrev pub own_sum : (PlainRec → ℕ) → PlainNode → ℕ
own_sum f (inner_node l s ks) = f (inner_rec l s)
own_sum f (leaf_node l s xs) = f (leaf_rec l s) + sum_by (λ x. f (alt_of x)) xs

abbrev records_in : List Piece → List PlainRec
records_in ps = flat_map (λ (p : Piece). p.records) ps

closed-sum : (f : PlainRec → ℕ) → SkipsEnds f → (ps : List Piece) → sum_by f (closed_by_end ps) ≡ sum_by f (records_in ps)
closed-sum f skips ps = omega (arith, sum_by_push f (records_in ps) (end_rec (dir_of ps)), skips.inner (dir_of ps))

mutual
  node-sum : (f : PlainRec → ℕ) → SkipsEnds f → (parent : List (ℕ × ℕ)) (k : PlainNode) → sum_by f ((node_piece parent k).records) ≡ sum_by (own_sum f) (nodes_from k)
  node-sum f skips parent (inner_node l s ks) =
      let ps = node_pieces (set_in s parent) ks in
      omega (arith, sum_by-cons f (inner_rec l s) (closed_by_end ps), closed-sum f skips ps, row-sum f skips (set_in s parent) ks, sum_by-cons (own_sum f) (inner_node l s ks) (nodes_among ks))
  node-sum f skips parent (leaf_node l s xs) =
      omega (arith, sum_by-cons f (leaf_rec l s) (map alt_of xs ++ leaf_end ∷ []), sum_by_push f (map alt_of xs) leaf_end, skips.leaf, sum-map f alt_of xs, sum_by-cons (own_sum f) (leaf_node l s xs) [])

  row-sum : (f : PlainRec → ℕ) → SkipsEnds f → (set : List (ℕ × ℕ)) (ks : PlainNodes) → sum_by f (records_in (node_pieces set ks)) ≡ sum_by (own_sum f) (nodes_among ks)
  row-sum f skips set no_nodes = refl
  row-sum f skips set (node k ks) =
      omega (arith, sum_by-append f (node_piece set k).records (records_in (node_pieces set ks)), node-sum f skips set k, row-sum f skips set ks, sum_by-append (own_sum f) (nodes_from k) (nodes_among ks))

pub file-sum : (f : PlainRec → ℕ) → SkipsEnds f → (set : List (ℕ × ℕ)) (ks : PlainNodes) → sum_by f (closed_by_end (node_pieces set ks)) ≡ sum_by (own_sum f) (nodes_among ks)
file-sum f skips set ks = closed-sum f skips (node_pieces set ks) ∙ row-sum f skips set ks

-- ---- the four numbers

-- what is added for the item of a record
abbrev pub of_item : (PlainItem → ℕ) → PlainRec → ℕ
of_item f r = f (item_of r)

inner-own : (k : PlainNode) → own_sum (of_item inner_in) k ≡ cond (is_inner k) 1 0
inner-own (inner_node l s ks) = refl
inner-own (leaf_node l s xs) = omega (arith, sum-none xs)

leaves-own : (k : PlainNode) → own_sum (of_item leaves_in) k ≡ cond (is_leaf k) 1 0
leaves-own (inner_node l s ks) = refl
leaves-own (leaf_node l s xs) = omega (arith, sum-none xs)

alternatives-own : (k : PlainNode) → own_sum (of_item alternatives_in) k ≡ length (alts_of k)
alternatives-own (inner_node l s ks) = refl
alternatives-own (leaf_node l s xs) = omega (arith, sum-ones xs)

stamps-own : (k : PlainNode) → own_sum (of_item stamps_in) k ≡ stamps_of k
stamps-own (inner_node l s ks) = omega arith
stamps-own (leaf_node l s xs) = refl

pub inner-sum : (set : List (ℕ × ℕ)) (ks : PlainNodes) → sum_by (of_item inner_in) (closed_by_end (node_pieces set ks)) ≡ count_by is_inner (nodes_among ks)
inner-sum set ks = file-sum (of_item inner_in) (record { inner = λ d. refl; leaf = refl }) set ks ∙ sum-same (own_sum (of_item inner_in)) (λ k. cond (is_inner k) 1 0) inner-own (nodes_among ks)

pub leaves-sum : (set : List (ℕ × ℕ)) (ks : PlainNodes) → sum_by (of_item leaves_in) (closed_by_end (node_pieces set ks)) ≡ count_by is_leaf (nodes_among ks)
leaves-sum set ks = file-sum (of_item leaves_in) (record { inner = λ d. refl; leaf = refl }) set ks ∙ sum-same (own_sum (of_item leaves_in)) (λ k. cond (is_leaf k) 1 0) leaves-own (nodes_among ks)

pub alternatives-sum : (set : List (ℕ × ℕ)) (ks : PlainNodes) → sum_by (of_item alternatives_in) (closed_by_end (node_pieces set ks)) ≡ sum_by (λ k. length (alts_of k)) (nodes_among ks)
alternatives-sum set ks = file-sum (of_item alternatives_in) (record { inner = λ d. refl; leaf = refl }) set ks ∙ sum-same (own_sum (of_item alternatives_in)) (λ k. length (alts_of k)) alternatives-own (nodes_among ks)

pub stamps-sum : (set : List (ℕ × ℕ)) (ks : PlainNodes) → sum_by (of_item stamps_in) (closed_by_end (node_pieces set ks)) ≡ sum_by stamps_of (nodes_among ks)
stamps-sum set ks = file-sum (of_item stamps_in) (record { inner = λ d. refl; leaf = refl }) set ks ∙ sum-same (own_sum (of_item stamps_in)) stamps_of stamps-own (nodes_among ks)
