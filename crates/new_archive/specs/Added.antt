-- What the nodes of a new archive become with one more version.
use Rattle.std.specs.Prelude.{ℕ, List, [], ◌∷◌, Option, Some, None, if◌then◌else◌}
use Rattle.std.specs.Ordering.{is_eq}
use Rattle.version_set.specs.Members.{with_last}
use Rattle.keyed_tree.specs.Data.{PlainKey, PlainKeyed, inner, leaf, PlainKids, no_kids, kid, kids_list}
use Rattle.keyed_tree.specs.Kids.{kid_at}
use Rattle.keyed_tree.specs.Order.{key_cmp}
use Rattle.nested_merge.specs.Merged.{below, above}
use Rattle.new_archive.specs.Full.{FullAlt, PlainFull, full_inner, full_leaf, PlainFulls, no_fulls, full, full_label}

-- the set of one number
abbrev pub alone : ℕ → List (ℕ × ℕ)
alone n = (n, n) ∷ []

-- a node that version n alone has
abbrev mutual
  pub new_full : ℕ → PlainKeyed → PlainFull
  new_full n (inner l ks) = full_inner l (alone n) (new_fulls n ks)
  new_full n (leaf l b) = full_leaf l (alone n) (record { numbers = alone n; body = b } ∷ [])

  pub new_fulls : ℕ → PlainKids → PlainFulls
  new_fulls n no_kids = no_fulls
  new_fulls n (kid k ks) = full (new_full n k) (new_fulls n ks)

-- new nodes before a row
abbrev pub new_onto : ℕ → List PlainKeyed → PlainFulls → PlainFulls
new_onto n [] r = r
new_onto n (c ∷ cs) r = full (new_full n c) (new_onto n cs r)

-- the alternatives of a leaf with the body b of version n: what has it gets the number, and where nothing has it it stands behind them
abbrev pub added_alts : ℕ → PlainKey → List FullAlt → List FullAlt
added_alts n b [] = record { numbers = alone n; body = b } ∷ []
added_alts n b (a ∷ xs) = if is_eq (key_cmp a.body b) then record { numbers = with_last a.numbers n; body = a.body } ∷ xs else a ∷ added_alts n b xs

-- the node as it is, or with its tree in the version, if there is one
abbrev pub met : PlainFull → (PlainKeyed → PlainFull) → Option PlainKeyed → PlainFull
met k f None = k
met k f (Some c) = f c

abbrev mutual
  -- a node with its tree in version n
  pub added : ℕ → PlainFull → PlainKeyed → PlainFull
  added n (full_inner l s ks) (inner m cs) = full_inner l (with_last s n) (added_row n ks (kids_list cs))
  added n (full_inner l s ks) (leaf m b) = full_inner l s ks
  added n (full_leaf l s xs) (inner m cs) = full_leaf l s xs
  added n (full_leaf l s xs) (leaf m b) = full_leaf l (with_last s n) (added_alts n b xs)

  -- a row of kids with those of version n, in the order of their labels: what the version does not have stays as it is
  pub added_row : ℕ → PlainFulls → List PlainKeyed → PlainFulls
  added_row n no_fulls cs = new_onto n cs no_fulls
  added_row n (full k ks) cs = new_onto n (below (full_label k) cs)
      (full (met k (λ c. added n k c) (kid_at (full_label k) cs)) (added_row n ks (above (full_label k) cs)))
