-- What an open node waits for: the key values of it and of its ancestors that are found below it.
use Rattle.std.specs.Prelude.{ℕ, Bool, true, false, ◌&&◌, List, [], ◌∷◌, ◌++◌, Option, Some, None, is_some, is_none, if◌then◌else◌}
use Rattle.std.specs.List.{list_any, filter_map}
use Rattle.std.specs.Option.{option_map, option_and_then, unwrap_or}
use Rattle.std.specs.Ordering.{is_eq}
use Rattle.keyed_tree.specs.Data.{PlainKey, PlainLabel}
use Rattle.keyed_tree.specs.Order.{key_cmp, label_cmp}
use Rattle.keyed_tree.specs.Plain.{name_bytes}
use Rattle.keyed_tree.specs.Proper.{is_tag}
use Rattle.key_spec.specs.Data.{PlainPath, PlainRule}
use Rattle.key_spec.specs.Rules.{rule_of}
use Rattle.archive_tree.specs.Data.{PlainNode, node_label, node_stamp}
use Rattle.archive_file.specs.NodeFits.{attr_label, bare_label, ends_in, bodies_are, node_leads}

-- A key value that is awaited: at the end of tags that lead down from the node, and of an attribute where one is named; or as
-- each body of the node itself.
pub data Awaited : Type 0 where
  leads : List (List ℕ) → Option (List ℕ) → PlainKey → Awaited
  equals : PlainKey → Awaited

-- ---- what the kids of a node are handed of it

-- what a kid with this label is handed: what is left to lead down from there, where the next step is its label
abbrev pub handed : PlainLabel → Awaited → Option Awaited
handed l (leads (t ∷ ts) at v) = if is_eq (label_cmp l (bare_label t)) then Some (leads ts at v) else None
handed l (leads [] (Some name) v) = if is_eq (label_cmp l (attr_label name)) then Some (equals v) else None
handed l (leads [] None v) = None
handed l (equals v) = None

abbrev pub all_handed : PlainLabel → List Awaited → List Awaited
all_handed l ws = filter_map (handed l) ws

-- one of the labels is the next step
abbrev pub is_met : List PlainLabel → Awaited → Bool
is_met ls w = list_any (λ l. is_some (handed l w)) ls

-- ---- what holds of a node

-- the body of a leaf has the value: tags that are left lead nowhere in it
abbrev pub body_meets : PlainKey → Awaited → Bool
body_meets b (leads [] at v) = ends_in at v b
body_meets b (leads (t ∷ ts) at v) = false
body_meets b (equals v) = is_eq (key_cmp b v)

-- the node has the value, in all versions that have the node
abbrev pub holds_at : Awaited → PlainNode → Bool
holds_at (leads ts at v) k = node_leads ts at v k
holds_at (equals v) k = bodies_are v k

-- what a kid is handed is there in all versions of its parent, and has the value
abbrev pub lasts_with : PlainNode → Option Awaited → Bool
lasts_with k None = true
lasts_with k (Some w) = is_none (node_stamp k) && holds_at w k

-- where the kid is handed something of what its parent waits for
abbrev pub keeps : PlainNode → Awaited → Bool
keeps k w = lasts_with k (handed (node_label k) w)

-- ---- what a node waits for

-- one key value for each key path, and none where their numbers differ
abbrev pub awaited_by : List PlainPath → List PlainKey → Option (List Awaited)
awaited_by [] [] = Some []
awaited_by [] (v ∷ vs) = None
awaited_by (p ∷ ps) [] = None
awaited_by (p ∷ ps) (v ∷ vs) = option_map (λ ws. leads p.tags p.attr v ∷ ws) (awaited_by ps vs)

-- its own key values, by the rule of its tag under the path of its parent
abbrev pub own : List PlainRule → List (List ℕ) → PlainLabel → Option (List Awaited)
own rules path l = option_and_then (λ (r : PlainRule). awaited_by r.paths l.keys) (rule_of rules path (name_bytes l.name))

-- an element's own, and what it is handed; an attribute has none of its own
abbrev pub awaits : List PlainRule → List (List ℕ) → List Awaited → PlainLabel → List Awaited
awaits rules path ws l = (if is_tag l.name then unwrap_or (own rules path l) [] else []) ++ all_handed l ws
