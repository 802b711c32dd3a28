-- None, one or several: what a search for one value tells of a list.
use Rattle.std.specs.Prelude.{ℕ, ◌+◌, List, [], ◌∷◌, drop, get_or}
use Rattle.jsonml_tree.specs.Data.{PlainTrees, PlainContent}
use Rattle.keyed_tree.specs.Data.{PlainKey}
use Rattle.keyed_tree.specs.LentView.{lent_val_view}
use Rattle.std.specs.List.{flat_map}
use Rattle.key_spec.specs.Data.{PlainPath}
use Rattle.key_rules.specs.Reach.{children, found, values_at}
use Rattle.key_rules.specs.declared.node.Reached.{Reached}
use Rattle.key_rules.specs.declared.node.Reached.TheVariants.{Nothing, One, Several}

pub data Few : Type 0 where
  no_key : Few
  one_key : PlainKey → Few
  several_keys : Few

abbrev pub few : List PlainKey → Few
few [] = no_key
few (k ∷ []) = one_key k
few (k ∷ j ∷ ks) = several_keys

-- of two lists, one after the other
abbrev pub join : Few → Few → Few
join no_key f = f
join (one_key k) no_key = one_key k
join (one_key k) (one_key j) = several_keys
join (one_key k) several_keys = several_keys
join several_keys f = several_keys

abbrev pub reached_view : Reached → Few
reached_view Nothing = no_key
reached_view (One n) = one_key (lent_val_view n)
reached_view Several = several_keys

-- the values behind the tags of a path from a level on, at an element with this content
unfoldable pub values_from : PlainPath → ℕ → PlainContent → List PlainKey
values_from p level c = values_at p.attr (found (drop level p.tags) c)

-- the values behind the items of a row that have the tag of a level
unfoldable pub values_among : PlainPath → ℕ → PlainTrees → List PlainKey
values_among p level items = values_at p.attr (flat_map (found (drop (level + 1) p.tags)) (children (get_or p.tags level []) items))
