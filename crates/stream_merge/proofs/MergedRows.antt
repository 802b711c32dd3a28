-- What merging a row goes along.
use Rattle.std.proofs.Common.{◌≡◌, ℕ, ◌≤◌, List, [], ◌∷◌, ◌++◌, Option, Some, None, Result, Ok, Err, IsTrue, refl, sym, ap, subst, ◌∙◌, append_assoc, arith}
use Rattle.std.specs.List.{AllByRecursion}
use Rattle.std.specs.Option.{option_map}
use Rattle.std.specs.Result.{IfOk}
use Rattle.xa_fields.proofs.Fields.{some_is}
use Rattle.keyed_tree.specs.Data.{PlainKeyed, kids_from}
use Rattle.keyed_tree.specs.Kids.{ascend, are_ordered}
use Rattle.keyed_tree.proofs.Kids.{both}
use Rattle.keyed_parts.specs.View.{kids_view}
use Rattle.keyed_parts.specs.declared.kids.Kids.{Kids}
use Rattle.archive_tree.specs.Data.{PlainNode, PlainNodes, no_nodes, node, node_label}
use Rattle.nested_merge.specs.Below.{is_node_below, are_nodes_below}
use Rattle.nested_merge.specs.Fits.{all_fit}
use Rattle.nested_merge.specs.Merged.{above, merged_row}
use Rattle.nested_merge.proofs.Rows.{ascend_tail, ordered_tail}
use Rattle.record_cursor.specs.Items.{PlainItem, end_item}
use Rattle.record_cursor.specs.Moves.{Comes}
use Rattle.record_writer.specs.Data.{WriterCall}
use Rattle.record_writer.specs.Walks.{row_calls}
use Rattle.stream_merge.specs.Does.{Does}
use Rattle.stream_merge.specs.Items.{IsWithin}
use Rattle.stream_merge.specs.Meets.{met}
use Rattle.stream_merge.specs.Passes.{fault_of, unpaid}
use Rattle.stream_merge.specs.RowMerged.{RowMerged, ChildMerged}
use Rattle.record_copy.specs.State.{State}
use Rattle.stream_merge.specs.View.{PlainInherited}
use Rattle.stream_merge.specs.declared.fault.MergeFault.{MergeFault}
use Rattle.stream_merge.proofs.States.{passes-then, passes-fault, does-then, does-fault}
use Rattle.stream_merge.proofs.Copies.{all-front, all-back, no-more, rests-behind}
use Rattle.stream_merge.proofs.Rooms.{went-then, above-short}
use Rattle.stream_merge.proofs.Weaving.{AreShapedKids, above_keeps, row_step, fit_step}
use Rattle.record_cursor.specs.NodeItems.{node_items, row_items}

no-some : (cs : List PlainKeyed) → ¬ (option_map kids_view None ≡ Some cs)
no-some cs e = cc

-- ---- the next child, and then the rest of the row

module _ (h : PlainInherited) (cs : List PlainKeyed) (up : IsTrue (ascend (kids_from cs))) (s t : State) where
  -- the node that comes next
  meets : (left : Result (Option Kids) MergeFault) (child : ChildMerged h cs s t left) (w : ℕ) (k : PlainNode) (ks : PlainNodes) (m : ℕ) (next : List PlainItem) → AllByRecursion (IsWithin w) (row_items h.before (node k ks) ++ end_item m ∷ [])
      → Comes s.files s.cursor (row_items h.before (node k ks) ++ end_item m ∷ next) → IsTrue (are_nodes_below h.number (node k ks)) → IsTrue (all_fit (node k ks) cs)
      → IfOk left (λ r. option_map kids_view r ≡ Some (above (node_label k) cs)) × Does child.appended w (row_calls h.now (met h.number h.before k cs)) (row_items h.before ks ++ end_item m ∷ next) s t (fault_of left)
  meets left child w k ks m next small comes below fit =
      child.node_merged w k (row_items h.before ks ++ end_item m ∷ next) (all-front w (node_items h.before k) (row_items h.before ks) (all-front w (node_items h.before k ++ row_items h.before ks) (end_item m ∷ []) small))
      (subst (λ (xs : List PlainItem). Comes s.files s.cursor xs) (append_assoc (node_items h.before k) (row_items h.before ks) (end_item m ∷ next)) comes)
      (both (is_node_below h.number k) (are_nodes_below h.number ks) below).0 (fit_step k ks cs up fit).0

  row-ended : ChildMerged h cs s t (Ok None) → RowMerged h cs s t None
  row-ended child = record { appended = child.appended; passes = child.passes; rests = child.rests; went = child.went; row = row }
    where
      row : (w : ℕ) (ks : PlainNodes) (m : ℕ) (next : List PlainItem) → AllByRecursion (IsWithin w) (row_items h.before ks ++ end_item m ∷ []) → Comes s.files s.cursor (row_items h.before ks ++ end_item m ∷ next) → IsTrue (are_nodes_below h.number ks)
          → IsTrue (all_fit ks cs) → Does child.appended w (row_calls h.now (merged_row h.number h.before ks cs)) next s t None
      row w no_nodes m next small comes below fit = (child.end_taken w m next small.0 comes).1
      row w (node k ks) m next small comes below fit = absurd (no-some (above (node_label k) cs) (meets (Ok None) child w k ks m next small comes below fit).0)

  row-failed : (f : MergeFault) → ChildMerged h cs s t (Err f) → RowMerged h cs s t (Some f)
  row-failed f child = record { appended = child.appended; passes = passes-fault child.appended s t f 0 unpaid child.passes; rests = tt; went = child.went; row = row }
    where
      row : (w : ℕ) (ks : PlainNodes) (m : ℕ) (next : List PlainItem) → AllByRecursion (IsWithin w) (row_items h.before ks ++ end_item m ∷ []) → Comes s.files s.cursor (row_items h.before ks ++ end_item m ∷ next) → IsTrue (are_nodes_below h.number ks)
          → IsTrue (all_fit ks cs) → Does child.appended w (row_calls h.now (merged_row h.number h.before ks cs)) next s t (Some f)
      row w no_nodes m next small comes below fit = (child.end_taken w m next small.0 comes).1
      row w (node k ks) m next small comes below fit =
          let c = meets (Err f) child w k ks m next small comes below fit in
          let calls = row_calls h.now (met h.number h.before k cs) in
          let others = row_calls h.now (merged_row h.number h.before ks (above (node_label k) cs)) in
          let step = row_step h.number h.before h.now k ks cs in
          subst (λ (z : List WriterCall). Does child.appended w z next s t (Some f)) (sym step)
          (does-fault child.appended child.appended s t f w calls others (row_items h.before ks ++ end_item m ∷ next) next c.1)

  row-more : (ks : Kids) (left : List PlainKeyed) (u : State) (e : Option MergeFault) → kids_view ks ≡ left → ChildMerged h cs s t (Ok (Some ks)) → RowMerged h left t u e → RowMerged h cs s u e
  row-more more left u e same child rest = record {
    appended = child.appended ++ rest.appended;
    passes = passes-then child.appended rest.appended s t u e 0 unpaid unpaid (omega arith) child.passes rest.passes;
    rests = (let rests = child.rests in rests-behind s.writer t.writer u.writer e rests.inners rest.rests);
    went = λ b file sets kids. (
        let passes = child.passes in
        let long = passes.same_length in
        let behind = child.behind in
        went-then b h.number child.appended rest.appended s.writer t.writer u.writer e (child.went b file sets kids) (rest.went b (omega (arith, long, file)) sets (above-short b behind.label cs left (sym same ∙ behind.are) kids)));
    row = row;
  }
    where
      row : (w : ℕ) (ks : PlainNodes) (m : ℕ) (next : List PlainItem) → AllByRecursion (IsWithin w) (row_items h.before ks ++ end_item m ∷ []) → Comes s.files s.cursor (row_items h.before ks ++ end_item m ∷ next) → IsTrue (are_nodes_below h.number ks)
          → IsTrue (all_fit ks cs) → Does (child.appended ++ rest.appended) w (row_calls h.now (merged_row h.number h.before ks cs)) next s u e
      row w no_nodes m next small comes below fit = (let c = child.end_taken w m next small.0 comes in let same = c.0 in absurd cc)
      row w (node k ks) m next small comes below fit =
          let c = meets (Ok (Some more)) child w k ks m next small comes below fit in
          let does = c.1 in
          let are : above (node_label k) cs ≡ left = sym (some_is (kids_view more) (above (node_label k) cs) c.0) ∙ same in
          let items = row_items h.before ks ++ end_item m ∷ next in
          let behind = rest.row w ks m next (all-back w (node_items h.before k) (row_items h.before ks ++ end_item m ∷ []) (subst (λ (xs : List PlainItem). AllByRecursion (IsWithin w) xs) (append_assoc (node_items h.before k) (row_items h.before ks) (end_item m ∷ [])) small))
          does.follows (both (is_node_below h.number k) (are_nodes_below h.number ks) below).1 (subst (λ (z : List PlainKeyed). IsTrue (all_fit ks z)) are (fit_step k ks cs up fit).1) in
          let calls = row_calls h.now (met h.number h.before k cs) in
          subst (λ (z : List WriterCall). Does (child.appended ++ rest.appended) w z next s u e) (sym (row_step h.number h.before h.now k ks cs ∙ ap (λ (z : List PlainKeyed). calls ++ row_calls h.now (merged_row h.number h.before ks z)) are))
          (does-then child.appended rest.appended s t u e w calls (row_calls h.now (merged_row h.number h.before ks left)) items next (no-more child.passes) does behind)

-- ---- the loop

-- Some nodes were merged, with these kids left, and what is made of the rest is made of the row.
pub record MergeOn (h : PlainInherited) (cs left : List PlainKeyed) (s t : State) : Type 0 where
  pub ascending : IsTrue (ascend (kids_from left))
  pub ordered : IsTrue (are_ordered (kids_from left))
  pub shaped : AreShapedKids left
  pub same_length : t.cursor.length ≡ s.cursor.length
  pub onward : s.cursor.at ≤ t.cursor.at
  pub within : t.cursor.at ≤ t.cursor.length
  pub no_leaf : t.writer.leaf ≡ None
  pub rest : (u : State) (e : Option MergeFault) → RowMerged h left t u e → RowMerged h cs s u e

pub merge-start : (h : PlainInherited) (cs : List PlainKeyed) (s : State) → IsTrue (ascend (kids_from cs)) → IsTrue (are_ordered (kids_from cs)) → AreShapedKids cs → s.cursor.at ≤ s.cursor.length → s.writer.leaf ≡ None → MergeOn h cs cs s s
merge-start h cs s up ordered shaped within leaf = record { ascending = up; ordered = ordered; shaped = shaped; same_length = refl; onward = omega arith; within = within; no_leaf = leaf; rest = λ u e row. row }

-- The answer may be known by another name.
module _ (h : PlainInherited) (cs left : List PlainKeyed) (s t u : State) (on : MergeOn h cs left s t) where
  child-of : (r answer : Result (Option Kids) MergeFault) → r ≡ answer → ChildMerged h left t u r → ChildMerged h left t u answer
  child-of r answer is child = subst (λ (x : Result (Option Kids) MergeFault). ChildMerged h left t u x) is child

  pub merge-more : (r : Option Kids) (rest : Kids) → r ≡ Some rest → ChildMerged h left t u (Ok r) → MergeOn h cs (kids_view rest) s u
  merge-more r rest is child =
      let c = child-of (Ok r) (Ok (Some rest)) (ap Ok is) child in
      let passes = c.passes in
      let rests = c.rests in
      let onward = passes.onward in
      let before = on.onward in
      let behind = c.behind in
      let l = behind.label in
      let are = sym behind.are in
      record {
        ascending = subst (λ (xs : List PlainKeyed). IsTrue (ascend (kids_from xs))) are (above_keeps (λ (xs : List PlainKeyed). IsTrue (ascend (kids_from xs))) ascend_tail l left on.ascending);
        ordered = subst (λ (xs : List PlainKeyed). IsTrue (are_ordered (kids_from xs))) are (above_keeps (λ (xs : List PlainKeyed). IsTrue (are_ordered (kids_from xs))) ordered_tail l left on.ordered);
        shaped = subst AreShapedKids are (above_keeps AreShapedKids (λ c cs h. h.1) l left on.shaped);
        same_length = passes.same_length ∙ on.same_length;
        onward = omega (arith, onward, before);
        within = passes.within;
        no_leaf = rests.no_leaf;
        rest = λ v e row. on.rest v e (row-more h left on.ascending t u rest (kids_view rest) v e refl c row);
      }

  pub merge-done : (r : Option Kids) → r ≡ None → ChildMerged h left t u (Ok r) → RowMerged h cs s u None
  merge-done r is child = on.rest u None (row-ended h left on.ascending t u (child-of (Ok r) (Ok None) (ap Ok is) child))

  pub merge-fault : (f : MergeFault) → ChildMerged h left t u (Err f) → RowMerged h cs s u (Some f)
  merge-fault f child = on.rest u (Some f) (row-failed h left on.ascending t u f child)
