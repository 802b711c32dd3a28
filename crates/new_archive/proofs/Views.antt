-- The view of each shape of a node.
use Rattle.std.proofs.Common.{◌≡◌, ℕ, map, Vec, Global, List, [], ◌∷◌, refl, ap, rules}
use Rattle.version_set.specs.declared.set.VersionSet.{VersionSet}
use Rattle.version_set.specs.View.{pairs_of}
use Rattle.keyed_tree.specs.View.{label_view}
use Rattle.keyed_tree.specs.declared.label.Label.{Label}
use Rattle.archive_tree.specs.Data.{node, nodes_from}
use Rattle.new_archive.specs.Full.{PlainFull, full_inner, full_leaf, fulls_from}
use Rattle.new_archive.specs.Sealed.{seal, seal_row}
use Rattle.new_archive.specs.View.{alts_view, full_view, row_view}
use Rattle.new_archive.specs.declared.bodies.Alts.{Alts}
use Rattle.new_archive.specs.declared.node.NewNode.{NewNode, Inner, Leaf, the_lemmas}
use Rattle.new_archive.proofs.Rows.{fulls_list-fulls_from, fulls_from-fulls_list, new_fulls-kids_from}

pub full_view-Inner : (l : Label) (s : VersionSet) (ks : Vec NewNode Global) → full_view (Inner l s ks) ≡ full_inner (label_view l) (pairs_of s) (fulls_from (row_view ks.items))
full_view-Inner l s ks = search (rules, the_lemmas)

pub full_view-Leaf : (l : Label) (s : VersionSet) (xs : Alts) → full_view (Leaf l s xs) ≡ full_leaf (label_view l) (pairs_of s) (alts_view xs)
full_view-Leaf l s xs = search (rules, the_lemmas)

pub seal_row-fulls_from : (q : List (ℕ × ℕ)) (ks : List PlainFull) → seal_row q (fulls_from ks) ≡ nodes_from (map (seal q) ks)
seal_row-fulls_from q [] = refl
seal_row-fulls_from q (k ∷ ks) = ap (λ z. node (seal q k) z) (seal_row-fulls_from q ks)

pub ruleset fulls = (full_view-Inner, full_view-Leaf, fulls_list-fulls_from, fulls_from-fulls_list, new_fulls-kids_from, seal_row-fulls_from)
