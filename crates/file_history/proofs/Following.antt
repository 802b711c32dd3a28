-- What following a path comes to.
use Rattle.std.proofs.Common.{◌≡◌, ℕ, ◌+◌, ◌≤◌, ◌<◌, List, [], ◌∷◌, map, length, drop, get_or, Option, Some, None, Ok, refl, sym, ap, subst, ◌∙◌, arith}
use Rattle.std.proofs.lemmas.List.{drop_more, drop_all}
use Rattle.std.specs.Prelude.{◌≢◌, IsSomeAnd}
use Rattle.std.specs.List.{AllByRecursion}
use Rattle.version_set.specs.Members.{members}
use Rattle.version_set.specs.View.{pairs_of}
use Rattle.keyed_tree.specs.Data.{PlainLabel}
use Rattle.archive_tree.specs.Data.{eff, PlainNode, inner_node, leaf_node, PlainNodes, no_nodes, node_stamp, node_kids, nodes_list}
use Rattle.archive_tree.specs.Seek.{node_with, enter, seek}
use Rattle.archive_tree.specs.View.{stamp_view}
use Rattle.xa_outside.specs.Folder.{Files}
use Rattle.xa_outside.specs.Numbers.{Numbers, IsMeter, PullsAtMost}
use Rattle.record_parts.specs.Bounds.{deepest}
use Rattle.record_format.specs.Bounds.{IsRec}
use Rattle.record_format.specs.Nodes.{set_in, node_piece}
use Rattle.record_format.specs.Probed.{most_probes, row_probed, onward, path_probed, path_steps}
use Rattle.file_rows.specs.StandsAt.{ChildLaid}
use Rattle.file_rows.specs.View.{row_view, child_view}
use Rattle.file_rows.specs.declared.places.Child.{Child}
use Rattle.file_rows.specs.declared.places.Row.{Row}
use Rattle.file_history.specs.Halving.{probes, path_probes}
use Rattle.file_history.specs.Leads.{PlainSpot, lead, onto_node, LeafLaid, StandsThere, LastStands, IsFollowed, IsLeafThere, IsLeafOf, leaf_with, leaf_of}
use Rattle.file_history.specs.Opened.{IsFound}
use Rattle.file_history.specs.Parts.{IsFoundIn}
use Rattle.file_history.specs.Pulled.{PullsBut}
use Rattle.file_history.specs.Rows.{RowIs, InRow, Reached}
use Rattle.file_history.specs.View.{span_in, left_found, OnFound}
use Rattle.file_history.specs.declared.follow.Spot.{Spot}
use Rattle.file_history.specs.declared.leaf.LeafAt.{LeafAt}
use Rattle.file_history.specs.declared.open.Found.{Found}
use Rattle.file_history.proofs.InRows.{found-row, found-records, stored-set}
use Rattle.file_history.proofs.Pulls.{but-none, but-all, but-on}

-- ---- paths

pub rest-is : {X : Type 0} (view : X → PlainLabel) (path : List X) (i : ℕ) (x : X) → i < length path → x ≡ get_or path i x → map view (drop i path) ≡ view x ∷ map view (drop (i + 1) path)
rest-is view path i x low e = ap (map view) (drop_more path i x low ∙ ap (λ y. y ∷ drop (i + 1) path) (sym e))

pub rest-none : {X : Type 0} (view : X → PlainLabel) (path : List X) (i : ℕ) → length path ≤ i → map view (drop i path) ≡ []
rest-none view path i h = ap (map view) (drop_all i path h)

-- ---- a node that is found, or not

pub record Onto (w : PlainLabel) (ks : PlainNodes) (bytes : List ℕ) (parent : List (ℕ × ℕ)) (f : Found) : Type 0 where
  pub k : PlainNode
  pub is : node_with w (nodes_list ks) ≡ Some k
  pub found : IsFound bytes parent k f

pub onto-of : (w : PlainLabel) (ks : PlainNodes) (bytes : List ℕ) (parent : List (ℕ × ℕ)) (f : Found) (o : Option PlainNode) → node_with w (nodes_list ks) ≡ o → IsFoundIn bytes parent o (Some f) → Onto w ks bytes parent f
onto-of w ks bytes parent f (Some k) e h = record { k = k; is = e; found = h }
onto-of w ks bytes parent f None e h = absurd h

pub none-of : (bytes : List ℕ) (parent : List (ℕ × ℕ)) (o : Option PlainNode) → IsFoundIn bytes parent o None → o ≡ None
none-of bytes parent (Some k) h = absurd h
none-of bytes parent None h = refl

pub found-left : (room : ℕ) (o : Option Found) (f : Found) (a b : Numbers) → o ≡ Some f → PullsBut room (left_found (Ok o)) a b → PullsBut room (span_in f.row) a b
found-left room o f a b e p = subst (λ (x : Option Found). PullsBut room (left_found (Ok x)) a b) e p

-- where the node that is found stands, if it is a leaf
last-stands : (bytes : List ℕ) (parent set : List (ℕ × ℕ)) (k : PlainNode) (f : Found) → set ≡ set_in (node_stamp k) parent → IsFound bytes parent k f → AllByRecursion IsRec (node_piece parent k).records → StandsThere bytes f.leaf set parent k
last-stands bytes parent set (inner_node l s ks) f has found records = found.2
last-stands bytes parent set (leaf_node l s xs) f has found records = laid f.leaf found.2
  where
    laid : (o : Option Child) → IsSomeAnd o (λ (c : Child). ChildLaid bytes (child_view c) (node_piece parent (leaf_node l s xs))) → IsSomeAnd o (λ (c : Child). LeafLaid bytes (child_view c) set parent (leaf_node l s xs))
    laid (Some c) g = record { stands = g; records = records; has = has }
    laid None g = absurd g

-- the set of what a path led to, and none
pub followed-some : (bytes : List ℕ) (path : List PlainLabel) (first : List (ℕ × ℕ)) (from : PlainNodes) (o : Option Spot) (s : Spot) → o ≡ Some s → IsFollowed bytes path first from o → members (pairs_of s.set) ≡ seek path (members first) from
followed-some bytes path first from o s e h = (subst (IsFollowed bytes path first from) e h).0

pub followed-none : (bytes : List ℕ) (path : List PlainLabel) (first : List (ℕ × ℕ)) (from : PlainNodes) (o : Option Spot) → o ≡ None → IsFollowed bytes path first from o → [] ≡ seek path (members first) from
followed-none bytes path first from o e h = (subst (IsFollowed bytes path first from) e h).0

-- what holds where a path led to a node
pub counted-along : (bytes : List ℕ) (path : List PlainLabel) (first : List (ℕ × ℕ)) (from : PlainNodes) (o : Option Spot) (P : Type 0) → IsFollowed bytes path first from o → OnFound (Ok o) P → lead path None first from ≢ None → P
counted-along bytes path first from None P h p some = absurd (some h.1)
counted-along bytes path first from (Some s) P h p some = p

-- the leaf that was found, where a path was followed to its end
pub leaf-followed : (bytes : List ℕ) (path : List PlainLabel) (first : List (ℕ × ℕ)) (from : PlainNodes) (o : Option Spot) (r : Option LeafAt) → r ≡ leaf_of o → IsFollowed bytes path first from o → IsLeafOf bytes (lead path None first from) r
leaf-followed bytes path first from None r e h = subst (λ (s : Option PlainSpot). IsLeafOf bytes s r) (sym h.1) e
leaf-followed bytes path first from (Some s) r e h = there s.leaf refl (lead path None first from) h.1
  where
    at-node : (leaf : Option Child) → s.leaf ≡ leaf → (parent : List (ℕ × ℕ)) (k : PlainNode) → StandsThere bytes leaf (pairs_of s.set) parent k → IsLeafThere bytes parent k r
    at-node leaf is parent (inner_node l t ks) g = e ∙ ap (λ (c : Option Child). leaf_with s.set c) (is ∙ g)
    at-node (Some c) is parent (leaf_node l t xs) g = subst (λ (x : Option LeafAt). IsLeafThere bytes parent (leaf_node l t xs) x) (sym (e ∙ ap (λ (c : Option Child). leaf_with s.set c) is)) g
    at-node None is parent (leaf_node l t xs) g = absurd g

    there : (leaf : Option Child) → s.leaf ≡ leaf → (p : Option PlainSpot) → LastStands bytes leaf (pairs_of s.set) p → IsLeafOf bytes p r
    there leaf is None g = e ∙ ap (λ (c : Option Child). leaf_with s.set c) (is ∙ g)
    there leaf is (Some p) g = at-node leaf is p.parent p.node g

module _ (told : Option Files) (name bytes : List ℕ) (path : List PlainLabel) (first : List (ℕ × ℕ)) (from : PlainNodes) where
  pub starts : (row : Row) (a : Numbers) (n : ℕ) → IsMeter a → RowIs told name bytes 0 (row_view row) first from → Reached told name bytes path first from path 0 (Some row) None first a a n n
  starts row a n is h = record { ks = from; there = h; leads = refl; last = None; stands = refl; way = refl; less = but-none (path_probed path from) a is; exact = refl; fewer = omega arith }

  -- behind the last label
  pub ends : (depth : ℕ) (row : Option Row) (leaf : Option Child) (set : List (ℕ × ℕ)) (rest : List PlainLabel) (a b : Numbers) (m n : ℕ) → rest ≡ [] → Reached told name bytes path first from rest depth row leaf set a b m n → (members set ≡ seek path (members first) from) × LastStands bytes leaf set (lead path None first from)
  ends depth row leaf set rest a b m n none r = (
    sym (r.leads ∙ ap (λ (ls : List PlainLabel). seek ls (members set) r.ks) none),
    subst (LastStands bytes leaf set) (sym (r.way ∙ ap (λ (ls : List PlainLabel). lead ls r.last set r.ks) none)) r.stands,
  )

  -- in a leaf there is no kid
  pub ends-leaf : (depth : ℕ) (row : Option Row) (leaf : Option Child) (set : List (ℕ × ℕ)) (w : PlainLabel) (rest more : List PlainLabel) (a b : Numbers) (m n : ℕ) → rest ≡ w ∷ more → row ≡ None → Reached told name bytes path first from rest depth row leaf set a b m n → IsFollowed bytes path first from None
  ends-leaf depth row leaf set w rest more a b m n e no_row r =
      let none : r.ks ≡ no_nodes = subst (λ (o : Option Row). InRow told name bytes depth o set r.ks) no_row r.there in
      (sym (r.leads ∙ (λ i. seek (e i) (members set) (none i))), r.way ∙ (λ i. lead (e i) r.last set (none i)))

  -- the row that was reached
  pub reached-row : (depth : ℕ) (row : Option Row) (leaf : Option Child) (inside : Row) (set : List (ℕ × ℕ)) (rest : List PlainLabel) (a b : Numbers) (m n : ℕ) → row ≡ Some inside → (r : Reached told name bytes path first from rest depth row leaf set a b m n)
      → RowIs told name bytes depth (row_view inside) set r.ks
  reached-row depth row leaf inside set rest a b m n is r = subst (λ (o : Option Row). InRow told name bytes depth o set r.ks) is r.there

  -- there is no such kid
  pub ends-none : (depth : ℕ) (row : Option Row) (leaf : Option Child) (set : List (ℕ × ℕ)) (w : PlainLabel) (rest more : List PlainLabel) (a b : Numbers) (m n : ℕ) → rest ≡ w ∷ more → (r : Reached told name bytes path first from rest depth row leaf set a b m n)
      → node_with w (nodes_list r.ks) ≡ None → IsFollowed bytes path first from None
  ends-none depth row leaf set w rest more a b m n e r none = (
    sym (r.leads ∙ ap (λ (ls : List PlainLabel). seek ls (members set) r.ks) e ∙ ap (enter (seek more) (members set)) none),
    r.way ∙ ap (λ (ls : List PlainLabel). lead ls r.last set r.ks) e ∙ ap (onto_node (lead more) set) none,
  )

  -- what was read so far, and then for the row
  pub few-all : (depth : ℕ) (row : Option Row) (leaf : Option Child) (set : List (ℕ × ℕ)) (rest : List PlainLabel) (a b : Numbers) (m n : ℕ) → Reached told name bytes path first from rest depth row leaf set a b m n → PullsAtMost (path_probed path from) a b
  few-all depth row leaf set rest a b m n r = but-all (path_probed path from) (path_probed rest r.ks) a b r.less

  pub steps-all : (depth : ℕ) (row : Option Row) (leaf : Option Child) (set : List (ℕ × ℕ)) (rest : List PlainLabel) (a b : Numbers) (m n : ℕ) → Reached told name bytes path first from rest depth row leaf set a b m n → n ≤ m + path_steps path from
  steps-all depth row leaf set rest a b m n r = (let fewer = r.fewer in omega (arith, fewer))

  pub few-row : (depth : ℕ) (row : Option Row) (leaf : Option Child) (set : List (ℕ × ℕ)) (w : PlainLabel) (rest more : List PlainLabel) (a b c : Numbers) (m n : ℕ) → rest ≡ w ∷ more → (r : Reached told name bytes path first from rest depth row leaf set a b m n)
      → PullsAtMost (row_probed (nodes_list r.ks)) b c → PullsAtMost (path_probed path from) a c
  few-row depth row leaf set w rest more a b c m n e r p =
      let x = onward (path_probed more) (node_with w (nodes_list r.ks)) in
      let less = subst (λ (ls : List PlainLabel). PullsBut (path_probed path from) (path_probed ls r.ks) a b) e r.less in
      but-all (path_probed path from) x a c (but-on (path_probed path from) (row_probed (nodes_list r.ks)) x a b c less p)

  pub steps-row : (depth : ℕ) (row : Option Row) (leaf : Option Child) (set : List (ℕ × ℕ)) (w : PlainLabel) (rest more : List PlainLabel) (a b : Numbers) (m n o : ℕ) → rest ≡ w ∷ more → (r : Reached told name bytes path first from rest depth row leaf set a b m n)
      → o ≤ n + most_probes (length (nodes_list r.ks)) → o ≤ m + path_steps path from
  steps-row depth row leaf set w rest more a b m n o e r h =
      let fewer = subst (λ (ls : List PlainLabel). n + path_steps ls r.ks ≤ m + path_steps path from) e r.fewer in
      omega (arith, fewer, h)

  -- all steps that are taken, where there is no row
  pub exact-leaf : (depth : ℕ) (row : Option Row) (leaf : Option Child) (set : List (ℕ × ℕ)) (w : PlainLabel) (rest more : List PlainLabel) (a b : Numbers) (m n : ℕ) → rest ≡ w ∷ more → row ≡ None → Reached told name bytes path first from rest depth row leaf set a b m n → n ≡ m + path_probes path from
  exact-leaf depth row leaf set w rest more a b m n e no_row r =
      let none : r.ks ≡ no_nodes = subst (λ (o : Option Row). InRow told name bytes depth o set r.ks) no_row r.there in
      let left : path_probes rest r.ks ≡ 0 = (λ i. path_probes (e i) (none i)) in
      let exact = r.exact in
      omega (arith, exact, left)

  -- where a row has no such kid
  pub exact-none : (depth : ℕ) (row : Option Row) (leaf : Option Child) (set : List (ℕ × ℕ)) (w : PlainLabel) (rest more : List PlainLabel) (a b : Numbers) (m n o : ℕ) → rest ≡ w ∷ more → (r : Reached told name bytes path first from rest depth row leaf set a b m n)
      → node_with w (nodes_list r.ks) ≡ None → o ≡ n + probes w (nodes_list r.ks) → o ≡ m + path_probes path from
  exact-none depth row leaf set w rest more a b m n o e r none h =
      let exact = subst (λ (ls : List PlainLabel). n + path_probes ls r.ks ≡ m + path_probes path from) e r.exact in
      let left : onward (path_probes more) (node_with w (nodes_list r.ks)) ≡ 0 = ap (onward (path_probes more)) none in
      omega (arith, exact, left, h)

  -- and behind the last label
  pub exact-end : (depth : ℕ) (row : Option Row) (leaf : Option Child) (set : List (ℕ × ℕ)) (rest : List PlainLabel) (a b : Numbers) (m n : ℕ) → rest ≡ [] → Reached told name bytes path first from rest depth row leaf set a b m n → n ≡ m + path_probes path from
  exact-end depth row leaf set rest a b m n none r =
      let exact = subst (λ (ls : List PlainLabel). n + path_probes ls r.ks ≡ m + path_probes path from) none r.exact in
      omega (arith, exact)

  -- on to the kids of a node that is found
  pub goes-on : (depth deeper : ℕ) (row : Option Row) (leaf : Option Child) (inside : Row) (set later : List (ℕ × ℕ)) (w : PlainLabel) (rest more : List PlainLabel) (a b c : Numbers) (m n o : ℕ) (f : Found) → (depth < deepest → deeper ≡ depth + 1) → rest ≡ w ∷ more → row ≡ Some inside
      → (r : Reached told name bytes path first from rest depth row leaf set a b m n) → Onto w r.ks bytes set f → later ≡ set_in (stamp_view f.stamp) set → PullsAtMost (row_probed (nodes_list r.ks)) b c → o ≤ n + most_probes (length (nodes_list r.ks)) → o ≡ n + probes w (nodes_list r.ks)
      → Reached told name bytes path first from more deeper f.row f.leaf later a c m o
  goes-on depth deeper row leaf inside set later w rest more a b c m n o f step e here r t is p h x =
      let there = found-row told name bytes depth deeper (row_view inside) set r.ks w t.k f step (reached-row depth row leaf inside set rest a b m n here r) t.is t.found in
      let kids = node_kids t.k in
      let less = subst (λ (ls : List PlainLabel). PullsBut (path_probed path from) (path_probed ls r.ks) a b) e r.less in
      let fewer = subst (λ (ls : List PlainLabel). n + path_steps ls r.ks ≤ m + path_steps path from) e r.fewer in
      let probed_on : onward (path_probed more) (node_with w (nodes_list r.ks)) ≡ path_probed more kids = ap (onward (path_probed more)) t.is in
      let exact = subst (λ (ls : List PlainLabel). n + path_probes ls r.ks ≡ m + path_probes path from) e r.exact in
      let probes_on : onward (path_probes more) (node_with w (nodes_list r.ks)) ≡ path_probes more kids = ap (onward (path_probes more)) t.is in
      let steps_on : onward (path_steps more) (node_with w (nodes_list r.ks)) ≡ path_steps more kids = ap (onward (path_steps more)) t.is in
      let stamp : members later ≡ eff (node_stamp t.k) (members set) = ap members is ∙ stored-set (stamp_view f.stamp) set ∙ ap (λ s. eff s (members set)) (found-stamp t.k t.found) in
      record {
        ks = kids;
        there = subst (λ (s : List (ℕ × ℕ)). InRow told name bytes deeper f.row s kids) (sym is) there;
        last = Some (record { parent = set; node = t.k });
        stands = last-stands bytes set later t.k f (is ∙ ap (λ s. set_in s set) (found-stamp t.k t.found)) t.found (found-records told name bytes depth (row_view inside) set r.ks w t.k (reached-row depth row leaf inside set rest a b m n here r) t.is);
        way = r.way ∙ ap (λ (ls : List PlainLabel). lead ls r.last set r.ks) e ∙ ap (onto_node (lead more) set) t.is ∙ ap (λ (s : List (ℕ × ℕ)). lead more (Some (record { parent = set; node = t.k })) s kids) (sym (is ∙ ap (λ s. set_in s set) (found-stamp t.k t.found)));
        leads = r.leads ∙ ap (λ (ls : List PlainLabel). seek ls (members set) r.ks) e ∙ ap (enter (seek more) (members set)) t.is ∙ ap (λ (ns : List ℕ). seek more ns kids) (sym stamp);
        less = but-on (path_probed path from) (row_probed (nodes_list r.ks)) (path_probed more kids) a b c (subst (λ (x : ℕ). PullsBut (path_probed path from) (row_probed (nodes_list r.ks) + x) a b) probed_on less) p;
        exact = omega (arith, exact, probes_on, x);
        fewer = omega (arith, fewer, steps_on, h);
      }
    where
      found-stamp : (k : PlainNode) → IsFound bytes set k f → stamp_view f.stamp ≡ node_stamp k
      found-stamp (inner_node l s ks) g = g.0
      found-stamp (leaf_node l s xs) g = g.0
