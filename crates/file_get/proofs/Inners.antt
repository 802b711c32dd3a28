-- Printing inner nodes.
use Rattle.std.proofs.Common.{◌≡◌, ℕ, zero, suc, ◌+◌, ◌-◌, ◌*◌, ◌≤◌, ◌&&◌, ◌||◌, Bool, true, false, not, nat_lt, List, length, map, IsTrue, Option, Some, Result, Ok, Err, refl, sym, ap, subst, ◌∙◌, arith}
use Rattle.std.specs.Result.{IfOk}
use Rattle.std.specs.List.{AllByRecursion}
use Rattle.std.proofs.lemmas.Bool.Decides.{nat_tests}
use Rattle.xa_outside.specs.Folder.{Files}
use Rattle.xa_outside.specs.Numbers.{IsMeter}
use Rattle.version_set.specs.Members.{members}
use Rattle.timestamp_tree.specs.Search.{answers}
use Rattle.jsonml_print.specs.Calls.{content_calls}
use Rattle.key_annotate.specs.Inside.{inside_of}
use Rattle.keyed_tree.specs.Data.{PlainLabel, PlainKeyed, inner}
use Rattle.keyed_tree.specs.Proper.{is_tag}
use Rattle.archive_tree.specs.Data.{Stamp, eff, PlainNode, inner_node, leaf_node, PlainNodes, nodes_list}
use Rattle.archive_tree.specs.Read.{read, read_row}
use Rattle.record_format.specs.Bounds.{IsRec}
use Rattle.record_format.specs.Data.{inner_rec}
use Rattle.record_format.specs.Nested.{are_nested}
use Rattle.record_format.specs.Nodes.{Piece, closed_by_end, inner_piece, set_in, node_pieces}
use Rattle.record_format.specs.Seen.{piece_sets, sets_visits, node_steps}
use Rattle.record_format.specs.Spelling.{rec_bytes}
use Rattle.record_parts.specs.Bounds.{deepest}
use Rattle.record_parts.specs.declared.limits.TheConstants.{DEEPEST}
use Rattle.file_rows.specs.StandsAt.{RowLaid, ChildLaid}
use Rattle.file_rows.specs.View.{PlainRow, PlainChild}
use Rattle.file_get.specs.Told.{fault_of, Unless}
use Rattle.file_get.specs.State.{State}
use Rattle.file_get.proofs.Spans.{has-filled}
use Rattle.file_get.specs.Kids.{set_of, finds_each, kids_in, kids_calls, row_fits, kids_fit, nodes_seen, nodes_steps, sets_seen, sets_steps}
use Rattle.file_get.specs.Walks.{Walks, Shows, StandsIn}
use Rattle.file_get.specs.Printed.{RowTold, RowPrinted}
use Rattle.file_get.specs.Inside.{InsidePrinted, NodeOpened, inside_seen}
use Rattle.file_get.specs.declared.read.Opening.{Opening}
use Rattle.file_get.specs.declared.fault.GetFault.{GetFault}
use Rattle.file_get.specs.declared.fault.GetFault.TheVariants.{Damage}
use Rattle.file_get.proofs.Opened.{eff-members}
use Rattle.file_get.proofs.RowLists.{from-list, row-sets, row-kids, row-fits, row-calls, row-seen, row-steps}
use Rattle.file_get.proofs.States.{walks-none, walks-damage, shows-as}
use Rattle.file_get.specs.Searched.{dir_read, row_read}

-- an inner node whose opening record was read
pub record InnerNode (k : PlainNode) : Type 0 where
  pub label : PlainLabel
  pub stamp : Stamp
  pub kids : PlainNodes
  pub is : k ≡ inner_node label stamp kids

pub inner-node : (i : ℕ) (files : Option Files) (name bytes : List ℕ) (end : ℕ) (child : PlainChild) (o : Opening) (depth : ℕ) (h : Bool) (parent : List (ℕ × ℕ)) (k : PlainNode) → NodeOpened i files name bytes end child o depth h parent k → o.is_inner ≡ true → InnerNode k
inner-node i files name bytes end child o depth h parent (inner_node l s ks) x e = record { label = l; stamp = s; kids = ks; is = refl }
inner-node i files name bytes end child o depth h parent (leaf_node l s xs) x e = (let opens = x.opens in absurd (clash (sym opens.inner ∙ e)))
  where
    clash : false ≡ true → ⊥
    clash e = cc

-- what row_of says of a row behind an opening record
abbrev pub RowBehind : PlainChild → ℕ → PlainRow → Type 0
RowBehind child behind row =
    (bytes : List ℕ) (l : PlainLabel) (s : Stamp) (set : List (ℕ × ℕ)) (ps : List Piece) → ChildLaid bytes child (inner_piece l s set ps) → behind ≡ child.first + length (rec_bytes (inner_rec l s)) → RowLaid bytes row ps

and-first : (a b : Bool) → IsTrue (a && b) → IsTrue a
and-first true b e = refl
and-first false b e = absurd cc

and-last : (a b : Bool) → IsTrue (a && b) → IsTrue b
and-last true b e = e
and-last false b e = absurd cc

module _ (i : ℕ) (name : List ℕ) (child : PlainChild) (o : Opening) (depth : ℕ) where
  -- the row inside a node that is told
  pub row-told : (files : Option Files) (bytes : List ℕ) (end : ℕ) (h : Bool) (parent : List (ℕ × ℕ)) (l : PlainLabel) (s : Stamp) (ks : PlainNodes) (row : PlainRow)
      → RowBehind child o.behind row → row.end + (9 + row.dir) ≡ child.end → NodeOpened i files name bytes end child o depth h parent (inner_node l s ks)
      → RowTold i files name bytes end (depth + 1) row (set_in s parent) (nodes_list ks)
  row-told files bytes end h parent l s ks row behind ends x =
      let n = x.node in
      let opens = x.opens in
      let is = n.is in
      let within = is.within in
      let records = is.records in
      let set = set_in s parent in
      let pieces = node_pieces set in
      let stands : RowLaid bytes row (pieces ks) = behind bytes l s set (pieces ks) is.stands opens.behind in
      let nested : IsTrue (are_nested (deepest - depth - 1) ks) = and-last (nat_lt 0 (deepest - depth)) (are_nested (deepest - depth - 1) ks) is.nested in
      let less : deepest - depth - 1 ≡ deepest - (depth + 1) = omega arith in
      let inside : IsTrue (row_fits true false (read_row i (eff s (members parent)) ks)) = and-last ((nat_lt 0 depth || not h) && is_tag l.name) (row_fits true false (read_row i (eff s (members parent)) ks)) n.fits in
      let same : row_fits true false (read_row i (eff s (members parent)) ks) ≡ kids_fit (nat_lt 0 (depth + 1)) false (kids_in i set (nodes_list ks)) =
      ap (λ (ns : List ℕ). row_fits true false (read_row i ns ks)) (eff-members s parent) ∙ row-fits true false (read_row i (members set) ks) ∙ ap (λ (js : List PlainKeyed). kids_fit true false js) (row-kids i set ks)
      ∙ ap (λ (b : Bool). kids_fit b false (kids_in i set (nodes_list ks))) (sym (some depth)) in
      record {
        tells = n.tells;
        nodes = record {
          stands = subst (λ (js : PlainNodes). RowLaid bytes row (pieces js)) (sym (from-list ks)) stands;
          within = omega (arith, ends, within);
          records = subst (λ (js : PlainNodes). AllByRecursion IsRec (closed_by_end (pieces js))) (sym (from-list ks)) records.1;
          nested = subst (λ (js : PlainNodes). IsTrue (are_nested (deepest - (depth + 1)) js)) (sym (from-list ks)) (subst (λ (d : ℕ). IsTrue (are_nested d ks)) less nested);
          filled = has-filled i (set_in s parent) n.has;
        };
        bodies = ap (λ (js : PlainNodes). finds_each i set js) (from-list ks) ∙ n.bodies;
        fits = subst IsTrue same inside;
      }
    where
      some : (d : ℕ) → nat_lt 0 (d + 1) ≡ true
      some d = grind (arith, nat_tests)

  stands-by : (r : Result Bool GetFault) (s t : State) → IfOk r (λ h. StandsIn (depth + 1) h t.pen) → Unless (fault_of r) (depth + 1 ≤ t.pen.depth)
  stands-by (Ok h) s t x = x.count
  stands-by (Err e) s t x = tt

  -- the row inside was printed
  pub inner-printed : (s t : State) (row : PlainRow) (r : Result Bool GetFault) → o.is_inner ≡ true → row.first ≡ o.behind → row.end + (9 + row.dir) ≡ child.end → RowBehind child o.behind row
      → RowPrinted i name row (depth + 1) s t r → InsidePrinted i name child o depth s t (fault_of r)
  inner-printed s t row r isin first ends behind h = record {
    walks = subst (λ (m : ℕ). Walks m s t (fault_of r)) ((λ j. ends j - first j)) h.walks;
    stands = stands-by r s t h.stands;
    shows = λ bytes end has_item parent k x is. (
        let q = inner-node i s.files name bytes end child o depth has_item parent k x isin in
        let set = set_in q.stamp parent in
        let ks = q.kids in
        let js = nodes_list ks in
        let kids = kids_in i set js in
        let x' = subst (NodeOpened i s.files name bytes end child o depth has_item parent) q.is x in
        let told = row-told s.files bytes end has_item parent q.label q.stamp ks row behind ends x' in
        let got = (h.shows bytes end set js told).0 in
        let fit : IsTrue (row_fits true false (read_row i (members set) ks)) = subst IsTrue (sym (row-fits true false (read_row i (members set) ks) ∙ ap (λ (cs : List PlainKeyed). kids_fit true false cs) (row-kids i set ks) ∙ ap (λ (b : Bool). kids_fit b false kids) (sym (some depth)))) told.fits in
        let calls : kids_calls kids ≡ content_calls (inside_of (read i (members parent) (inner_node q.label q.stamp ks))) =
        ap kids_calls (sym (row-kids i set ks)) ∙ sym (row-calls true false (read_row i (members set) ks) fit) ∙ ap (λ (ns : List ℕ). content_calls (inside_of (inner q.label (read_row i ns ks)))) (sym (eff-members q.stamp parent)) in
        let sets : map (set_of set) js ≡ piece_sets (node_pieces set ks) = sym (row-sets set ks) in
        let seen : 13 + (sets_seen i set js + nodes_seen i set js) ≡ inside_seen i parent (inner_node q.label q.stamp ks) =
        sum (sets_seen i set js) (nodes_seen i set js) (24 * length (answers (map (set_of set) js) i)) (row_read i set ks) (row-seen i set ks) ∙ ap (λ (ss : List (List (ℕ × ℕ))). dir_read i ss + row_read i set ks) sets in
        let steps : sets_steps i set js + nodes_steps i set js ≡ node_steps i parent (inner_node q.label q.stamp ks) = (λ j. sets_visits (sets j) i + row-steps i set ks j) in
        subst (λ (m : PlainNode). Shows (content_calls (inside_of (read i (members parent) m))) (inside_seen i parent m) (node_steps i parent m) s t (fault_of r)) (sym q.is)
        (shows-as s t (fault_of r) (kids_calls kids) (content_calls (inside_of (read i (members parent) (inner_node q.label q.stamp ks)))) (13 + (sets_seen i set js + nodes_seen i set js)) (inside_seen i parent (inner_node q.label q.stamp ks))
        (sets_steps i set js + nodes_steps i set js) (node_steps i parent (inner_node q.label q.stamp ks)) calls (omega (arith, seen)) (omega (arith, steps)) got));
  }
    where
      some : (d : ℕ) → nat_lt 0 (d + 1) ≡ true
      some d = grind (arith, nat_tests)

      sum : (a b c d : ℕ) → b ≡ c + d → 13 + (a + b) ≡ 13 + (a + c) + d
      sum a b c d e = omega (arith, e)

  -- no node of a sound archive is found so
  pub inner-refused : (s : State) → IsMeter s.numbers → ((bytes : List ℕ) (end : ℕ) (h : Bool) (parent : List (ℕ × ℕ)) (k : PlainNode) → NodeOpened i s.files name bytes end child o depth h parent k → ⊥) → InsidePrinted i name child o depth s s (Some Damage)
  inner-refused s meter never = record {
    walks = walks-damage s s 0 (child.end - o.behind) (omega arith) (walks-none s 0 meter);
    stands = tt;
    shows = λ bytes end has_item parent k x is. absurd (never bytes end has_item parent k x);
  }

  -- inner nodes nest no deeper
  pub never-deep : (files : Option Files) → o.is_inner ≡ true → DEEPEST ≤ depth → (bytes : List ℕ) (end : ℕ) (h : Bool) (parent : List (ℕ × ℕ)) (k : PlainNode) → NodeOpened i files name bytes end child o depth h parent k → ⊥
  never-deep files isin deep bytes end h parent k x =
      let q = inner-node i files name bytes end child o depth h parent k x isin in
      let x' = subst (NodeOpened i files name bytes end child o depth h parent) q.is x in
      let n = x'.node in
      let is = n.is in
      none (deepest - depth) (omega (arith, deep)) (and-first (nat_lt 0 (deepest - depth)) (are_nested (deepest - depth - 1) q.kids) is.nested)
    where
      none : (d : ℕ) → d ≡ 0 → IsTrue (nat_lt 0 d) → ⊥
      none zero e f = absurd cc
      none (suc d) e f = absurd (omega (arith, e))

  -- the row of an inner node is found
  pub never-lost : (files : Option Files) → o.is_inner ≡ true
      → ((bytes : List ℕ) (l : PlainLabel) (s : Stamp) (set : List (ℕ × ℕ)) (ps : List Piece) → ChildLaid bytes child (inner_piece l s set ps) → o.behind ≡ child.first + length (rec_bytes (inner_rec l s)) → ⊥)
      → (bytes : List ℕ) (end : ℕ) (h : Bool) (parent : List (ℕ × ℕ)) (k : PlainNode) → NodeOpened i files name bytes end child o depth h parent k → ⊥
  never-lost files isin lost bytes end h parent k x =
      let q = inner-node i files name bytes end child o depth h parent k x isin in
      let x' = subst (NodeOpened i files name bytes end child o depth h parent) q.is x in
      let n = x'.node in
      let opens = x'.opens in
      let is = n.is in
      lost bytes q.label q.stamp (set_in q.stamp parent) (node_pieces (set_in q.stamp parent) q.kids) is.stands opens.behind
