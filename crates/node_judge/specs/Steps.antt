-- The steps by which a node is opened.
use Rattle.std.specs.Prelude.{ℕ, Bool, Vec, ◌&&◌, ◌||◌, nat_lt, List, [], ◌++◌, Option, Some, None, is_some, is_none, map, if◌then◌else◌}
use Rattle.std.specs.List.{list_all}
use Rattle.std.specs.Option.{unwrap_or}
use Rattle.std.specs.declared.alloc.Global.{Global}
use Rattle.keyed_tree.specs.Data.{PlainLabel}
use Rattle.keyed_tree.specs.Plain.{name_bytes}
use Rattle.keyed_tree.specs.Proper.{has_no_keys}
use Rattle.key_spec.specs.ContextView.{context_rules, context_path}
use Rattle.key_spec.specs.Data.{PlainRule}
use Rattle.key_spec.specs.Rules.{is_frontier, below}
use Rattle.key_spec.specs.declared.context.Context.{Context}
use Rattle.version_set.specs.Members.{members}
use Rattle.archive_tree.specs.Data.{Stamp}
use Rattle.archive_tree.specs.PartsTest.{is_stamp_well}
use Rattle.node_judge.specs.Awaited.{Awaited, handed, all_handed, own}
use Rattle.node_judge.specs.InPlace.{is_below_root, is_kind_right}
use Rattle.node_judge.specs.Rows.{PlainFrame, is_above}
use Rattle.node_judge.specs.View.{wait_view}
use Rattle.node_judge.specs.declared.wait.Wait.{Wait}

-- the label and the timestamp are right for the node that comes next
abbrev pub comes : PlainFrame → PlainLabel → Stamp → Bool
comes f l s = is_above f.last l && (is_stamp_well s (members f.set) && (is_none s || list_all (λ w. is_none (handed l w)) f.waits))

-- its kind and its key values are
abbrev pub is_element_right : PlainFrame → Bool → PlainLabel → Bool
is_element_right f is_leaf l =
    nat_lt 0 f.left && is_some (own f.rules f.path l) && is_kind_right is_leaf (is_frontier f.rules (below f.path (name_bytes l.name)))

abbrev pub is_attribute_right : PlainFrame → PlainLabel → Bool
is_attribute_right f l = has_no_keys l.keys && is_below_root f.path

-- where an element's kids are, and what it waits for
abbrev pub element_opened : PlainFrame → Bool → PlainLabel → Option (List PlainRule × (List (List ℕ) × List Awaited))
element_opened f is_leaf l =
    if is_element_right f is_leaf l
    then Some (f.rules, (below f.path (name_bytes l.name), unwrap_or (own f.rules f.path l) [] ++ all_handed l f.waits))
    else None

abbrev pub element_view : Context × Vec Wait Global → List PlainRule × (List (List ℕ) × List Awaited)
element_view e = (context_rules e.0, (context_path e.0, map wait_view e.1.items))
