-- What a new archive is while it grows: plain data in which each node has all its numbers.
use Rattle.std.specs.Prelude.{ℕ, List, [], ◌∷◌, map}
use Rattle.keyed_tree.specs.Data.{PlainKey, PlainLabel}

-- one of the bodies that a leaf has had, with the numbers that have it
pub record FullAlt : Type 0 where
  pub numbers : List (ℕ × ℕ)
  pub body : PlainKey

mutual
  pub data PlainFull : Type 0 where
    full_inner : PlainLabel → List (ℕ × ℕ) → PlainFulls → PlainFull
    full_leaf : PlainLabel → List (ℕ × ℕ) → List FullAlt → PlainFull

  pub data PlainFulls : Type 0 where
    no_fulls : PlainFulls
    full : PlainFull → PlainFulls → PlainFulls

-- the nodes of a list, one after another
abbrev pub fulls_from : List PlainFull → PlainFulls
fulls_from [] = no_fulls
fulls_from (k ∷ ks) = full k (fulls_from ks)

-- the nodes of a row, as a list
abbrev pub fulls_list : PlainFulls → List PlainFull
fulls_list no_fulls = []
fulls_list (full k ks) = k ∷ fulls_list ks

abbrev pub full_label : PlainFull → PlainLabel
full_label (full_inner l s ks) = l
full_label (full_leaf l s xs) = l

abbrev pub full_labels : PlainFulls → List PlainLabel
full_labels ks = map full_label (fulls_list ks)

abbrev pub full_bodies : List FullAlt → List PlainKey
full_bodies xs = map (λ (x : FullAlt). x.body) xs
