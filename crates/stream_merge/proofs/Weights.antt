-- A measure of keyed trees, by which what is inside them is smaller.
use Rattle.std.proofs.Common.{◌≡◌, ℕ, suc, ◌+◌, ◌*◌, ◌<◌, ◌≤◌, List, ◌∷◌, sym, subst, arith}
use Rattle.keyed_tree.specs.Data.{PlainLabel, PlainKeyed, inner, leaf, PlainKids, no_kids, kid, kids_from}

abbrev mutual
  pub weight : PlainKeyed → ℕ
  weight (inner l ks) = suc (weights ks)
  weight (leaf l b) = 0

  pub weights : PlainKids → ℕ
  weights no_kids = 0
  weights (kid k ks) = weight k + weights ks

-- of some kids, and of a node: a node is below a row that has it, and its row is below the node
abbrev pub row_weight : List PlainKeyed → ℕ
row_weight cs = 2 * weights (kids_from cs) + 1

abbrev pub node_weight : PlainKeyed → ℕ
node_weight k = 2 * weight k

pub row-smaller : (k : PlainKeyed) (l : PlainLabel) (cs : List PlainKeyed) → k ≡ inner l (kids_from cs) → row_weight cs < node_weight k
row-smaller k l cs is = subst (λ (z : PlainKeyed). row_weight cs < node_weight z) (sym is) (omega arith)

pub first-smaller : (k : PlainKeyed) (cs rest : List PlainKeyed) → cs ≡ k ∷ rest → node_weight k < row_weight cs
first-smaller k cs rest is = subst (λ (z : List PlainKeyed). node_weight k < row_weight z) (sym is) (omega arith)

pub rest-smaller : (k : PlainKeyed) (cs rest : List PlainKeyed) → cs ≡ k ∷ rest → weights (kids_from rest) ≤ weights (kids_from cs)
rest-smaller k cs rest is = subst (λ (z : List PlainKeyed). weights (kids_from rest) ≤ weights (kids_from z)) (sym is) (omega arith)
