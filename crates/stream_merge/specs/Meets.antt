-- A node of the archive beside a row of the new version.
use Rattle.std.specs.Prelude.{◌≡◌, ◌≢◌, ℕ, Bool, List, [], ◌∷◌, ◌++◌, Option, Some, None, if◌then◌else◌}
use Rattle.std.specs.Option.{is_some, unwrap_or}
use Rattle.keyed_tree.specs.Data.{PlainKey, PlainLabel, PlainKeyed, inner, leaf, kids_list}
use Rattle.keyed_tree.specs.Kids.{kid_at}
use Rattle.archive_tree.specs.Data.{Stamp, PlainAlt, PlainNode, PlainNodes, no_nodes, node, node_label}
use Rattle.nested_merge.specs.Merged.{grown, kept, started, vanished, fresh_onto, below, merged, merged_row, merged_alts, turn}
use Rattle.record_format.specs.Data.{PlainRec, inner_rec, leaf_rec}
use Rattle.record_format.specs.Nodes.{set_in}
use Rattle.record_writer.specs.Data.{PlainWriter, WriterCall, call_inner, call_leaf}
use Rattle.record_writer.specs.Walks.{row_calls}
use Rattle.stream_merge.specs.Passes.{Opens}
use Rattle.stream_merge.specs.View.{PlainInherited}
use Rattle.stream_merge.specs.declared.begin.Kind.{Kind}
use Rattle.stream_merge.specs.declared.begin.Kind.TheVariants.{Inner, Leaf}

-- the call that begins a node
abbrev pub call_of : Kind → PlainLabel → Stamp → List (ℕ × ℕ) → WriterCall
call_of Inner l s set = call_inner l s set
call_of Leaf l s set = call_leaf l s set

-- the record that begins a node
abbrev pub opening_of : Kind → PlainLabel → Stamp → PlainRec
opening_of Inner l s = inner_rec l s
opening_of Leaf l s = leaf_rec l s

-- the stamp of what the new version has, or has not, under a parent that has it and had the set q before
abbrev pub turned : ℕ → List (ℕ × ℕ) → Bool → Stamp → Stamp
turned n q has s = if has then grown n s else kept q s

-- the kids of an inner node that had q, with its tree in version n, or without one
abbrev pub kids_with : ℕ → List (ℕ × ℕ) → PlainNodes → Option PlainKeyed → PlainNodes
kids_with n q ks None = ks
kids_with n q ks (Some (inner m cs)) = merged_row n q ks (kids_list cs)
kids_with n q ks (Some (leaf m b)) = ks

-- the alternatives of a leaf that had q, with its tree in version n, or without one
abbrev pub alts_with : ℕ → List (ℕ × ℕ) → List PlainAlt → Option PlainKeyed → List PlainAlt
alts_with n q xs None = xs
alts_with n q xs (Some (inner m cs)) = xs
alts_with n q xs (Some (leaf m b)) = merged_alts n q b xs

-- the alternative that begins with version n, where none had its body
abbrev pub new_alts : ℕ → PlainKey → Bool → List PlainAlt
new_alts n b found = if found then [] else record { stamp = Some ((n, n) ∷ []); body = b } ∷ []

-- the kids of the version that come before the node, and what the node becomes
abbrev pub met : ℕ → List (ℕ × ℕ) → PlainNode → List PlainKeyed → PlainNodes
met n q k cs = fresh_onto (started n q) (below (node_label k) cs)
    (node (turn (vanished q k) (λ c. merged n q k c) (kid_at (node_label k) cs)) no_nodes)

-- the kids of the version that begin with it, where the archive's row has ended
abbrev pub rest_of : ℕ → List (ℕ × ℕ) → List PlainKeyed → PlainNodes
rest_of n q cs = fresh_onto (started n q) cs no_nodes

-- the stamp that a node with this label gets beside a row of the version
abbrev pub stamp_beside : PlainInherited → PlainLabel → Stamp → List PlainKeyed → Stamp
stamp_beside h l s cs = turned h.number h.before (is_some (kid_at l cs)) s

-- what the kids of such a node inherit
abbrev pub inherited_beside : PlainInherited → PlainLabel → Stamp → List PlainKeyed → PlainInherited
inherited_beside h l s cs = record { number = h.number; before = unwrap_or s h.before; now = set_in (stamp_beside h l s cs) h.now }

-- the calls that write the kids before such a node, and begin it
abbrev pub calls_beside : Kind → PlainInherited → PlainLabel → Stamp → List PlainKeyed → List WriterCall
calls_beside kind h l s cs = row_calls h.now (rest_of h.number h.before (below l cs)) ++ call_of kind l (stamp_beside h l s cs) (set_in (stamp_beside h l s cs) h.now) ∷ []

-- a leaf stands begun, and the inner nodes that do are those of before
pub record HasLeaf (v w : PlainWriter) : Type 0 where
  pub leaf : w.leaf ≢ None
  pub inners : w.inners ≡ v.inners

-- a node of this kind was begun
abbrev pub Begins : Kind → PlainWriter → PlainWriter → Type 0
Begins Inner v w = Opens v w
Begins Leaf v w = HasLeaf v w

-- A node of this kind stands begun.
abbrev pub IsOpen : Kind → PlainWriter → Type 0
IsOpen Inner w = (w.leaf ≡ None) × (w.inners ≢ [])
IsOpen Leaf w = w.leaf ≢ None
