-- What merging a node goes along.
use Rattle.std.proofs.Common.{◌≡◌, ◌≢◌, ℕ, ◌+◌, ◌≤◌, true≢false, List, [], ◌∷◌, ◌++◌, length, Option, Some, None, IfSome, Result, Ok, Err, IsTrue, refl, sym, ap, subst, ◌∙◌, append_assoc, arith}
use Rattle.std.specs.List.{AllByRecursion}
use Rattle.std.specs.Option.{unwrap_or, is_some}
use Rattle.keyed_tree.specs.Data.{PlainKey, PlainLabel, PlainKeyed, inner, leaf, kids_from}
use Rattle.keyed_tree.specs.Kids.{kid_at, are_ordered, IsOrdered}
use Rattle.keyed_tree.proofs.Kids.{both, kids_list-kids_from}
use Rattle.keyed_parts.specs.View.{kids_view}
use Rattle.keyed_parts.specs.declared.kids.Kids.{Kids}
use Rattle.archive_tree.specs.Data.{Stamp, PlainAlt, PlainNode, inner_node, leaf_node, PlainNodes, node_label}
use Rattle.nested_merge.specs.Below.{is_stamp_below, are_alts_below, is_node_below, are_nodes_below}
use Rattle.nested_merge.specs.Fits.{if_there, fits, all_fit}
use Rattle.nested_merge.specs.Merged.{fresh, fresh_row, above, merged_row}
use Rattle.record_format.specs.Nodes.{set_in}
use Rattle.record_format.specs.Shapes.{IsShapedNode, AreShapedNodes}
use Rattle.record_format.specs.Spelling.{rec_bytes}
use Rattle.record_cursor.specs.Items.{PlainItem, leaf_end_item, end_item}
use Rattle.record_cursor.specs.Moves.{Comes}
use Rattle.record_cursor.specs.Next.{read_for, size_of}
use Rattle.record_cursor.specs.View.{PlainCursor, shown_item}
use Rattle.record_cursor.specs.declared.fault.CursorFault.{CursorFault}
use Rattle.record_cursor.specs.declared.item.Item.{Item}
use Rattle.record_cursor.specs.declared.item.Item.TheVariants as item
use Rattle.record_parts.specs.declared.views.LabelView.{LabelView}
use Rattle.record_parts.specs.declared.views.StampView.{StampView}
use Rattle.record_writer.specs.Data.{PlainWriter, WriterCall, call_end_leaf, call_end_inner}
use Rattle.record_writer.specs.Walks.{alt_calls, row_calls}
use Rattle.xa_outside.specs.Numbers.{IsMeter}
use Rattle.stream_merge.specs.Beside.{BeganBeside, IsBegun}
use Rattle.stream_merge.specs.Copied.{InsideCopied}
use Rattle.stream_merge.specs.Does.{Sends, Sent, Does}
use Rattle.stream_merge.specs.Items.{IsWithin}
use Rattle.stream_merge.specs.LeafMerged.{LeafMerged}
use Rattle.stream_merge.specs.Meets.{opening_of, met, rest_of, kids_with, alts_with, inherited_beside, calls_beside, Begins}
use Rattle.stream_merge.specs.Passes.{Passes, Rests, Unless, fault_of, of_cursor, unpaid}
use Rattle.stream_merge.specs.Room.{WentIf}
use Rattle.stream_merge.specs.RowMerged.{RowMerged, ChildMerged, InsideMerged, BegunMerged}
use Rattle.stream_merge.specs.Short.{AreShortSets, IsShortTree}
use Rattle.record_copy.specs.State.{State}
use Rattle.stream_merge.specs.View.{PlainInherited}
use Rattle.stream_merge.specs.declared.begin.Kind.{Kind}
use Rattle.stream_merge.specs.declared.begin.Kind.TheVariants.{Inner, Leaf}
use Rattle.stream_merge.specs.declared.fault.MergeFault.{MergeFault}
use Rattle.stream_merge.specs.declared.fault.MergeFault.TheVariants.{Damage}
use Rattle.stream_merge.proofs.States.{passes-then, passes-none, passes-fault, passes-paid, gave, gave-stop, failed, does-then, does-sends, does-fault, takes-sends, Nexts, Stays, gave-takes, failed-does}
use Rattle.stream_merge.proofs.Copies.{no-more, rests-behind}
use Rattle.stream_merge.proofs.CopiedRows.{end-long, closes}
use Rattle.stream_merge.proofs.ChildCopies.{node-front, end-front, opening, behind, behind-small, node-taken, not-ended, opening-read, opening-size, opening-long, unless-closed, not-inner, not-leaf, not-closing}
use Rattle.stream_merge.proofs.Puts.{row-sent}
use Rattle.stream_merge.proofs.Rooms.{went-read, went-from, went-then, went-sent, opening-stamp, own-short, rest-calls, kid-short, kids-short}
use Rattle.stream_merge.proofs.Weaving.{inner_met, leaf_met, own_alone, kid_known}
use Rattle.record_cursor.specs.NodeItems.{alt_items, end_of, node_items, row_items}
use Rattle.record_copy.proofs.ItemKinds.{first, not-first}

-- ---- before anything is written

pub child-failed : (h : PlainInherited) (cs : List PlainKeyed) (s t : State) (e : CursorFault) → s.cursor.at ≤ s.cursor.length → Stays s t e → ChildMerged h cs s t (Err (of_cursor e))
child-failed h cs s t e within stays = record {
  appended = [];
  passes = failed 0 s t e within stays;
  rests = tt;
  onward = tt;
  behind = tt;
  went = λ b file sets kids. went-read b h.number [] s.writer t.writer e;
  node_merged = λ w k next small comes below fit. (tt, failed-does [] w (node_items h.before k ++ next) s t e (row_calls h.now (met h.number h.before k cs)) next stays (node-front h.before w k next small) comes);
  end_taken = λ w m next small comes. (tt, failed-does [] w (end_item m ∷ next) s t e (row_calls h.now (rest_of h.number h.before cs)) next stays (end-front w m next small) comes);
}

-- neither a node nor an END was given
pub child-damage : (h : PlainInherited) (cs : List PlainKeyed) (s t : State) (i : Item) → ((l : LabelView) (z : StampView) → i ≢ item.Inner l z) → ((l : LabelView) (z : StampView) → i ≢ item.Leaf l z) → ((n : ℕ) → i ≢ item.End n) → Nexts s t i
    → ChildMerged h cs s t (Err Damage)
child-damage h cs s t i no-inner no-leaf no-end read = record {
  appended = [];
  passes = gave-stop 0 s t i Damage (λ e. absurd cc) read;
  rests = tt;
  onward = tt;
  behind = tt;
  went = λ b file sets kids. tt;
  node_merged = λ w k next small comes below fit. (let taken = node-taken h.before w k next s t i read small comes in absurd (no-first k taken.given));
  end_taken = λ w m next small comes. (let taken = gave-takes w (end_item m) next s t i read small comes in absurd (not-closing i no-end m taken.given));
}
  where
    no-first : (k : PlainNode) → shown_item i ≢ first k
    no-first (inner_node l z ks) = not-inner i no-inner l z
    no-first (leaf_node l z xs) = not-leaf i no-leaf l z

gave-fails : (x : List ℕ) (s t u : State) (item : Item) (f : MergeFault) → Nexts s t item → Passes x 0 t u (Some f) → Passes x 0 s u (Some f)
gave-fails x s t u item f read h = (let n = read_for s.cursor.standing (shown_item item) in passes-fault x s u f n 0 (passes-then [] x s t u (Some f) n 0 n (omega arith) (gave s t item read) h))

-- ---- an END

module _ (h : PlainInherited) (cs : List PlainKeyed) (s t u : State) (item : Item) (n : ℕ) (read : Nexts s t item) (shown : shown_item item ≡ end_item n) where
  abbrev rest : List WriterCall
  rest = row_calls h.now (rest_of h.number h.before cs)

  no-node : (w : ℕ) (k : PlainNode) (next : List PlainItem) → AllByRecursion (IsWithin w) (node_items h.before k) → Comes s.files s.cursor (node_items h.before k ++ next) → ⊥
  no-node w k next small comes = (let taken = node-taken h.before w k next s t item read small comes in not-first k n (sym shown ∙ taken.given))

  rest-went : (b : ℕ) (e : Option MergeFault) → s.cursor.length + 12 ≤ b → AreShortSets b h → AllByRecursion (IsShortTree b) cs → (sent : Sent rest t u e) → WentIf b h.number sent.appended s.writer u.writer e
  rest-went b e file sets kids sent =
      went-from b h.number sent.appended s.writer t.writer u.writer e read.writer (went-sent b h.number rest t u e (rest-calls b h cs (omega (arith, file)) sets kids) sent)

  end-sent : (e : Option MergeFault) (sent : Sent rest t u e) (w m : ℕ) (next : List PlainItem) → IsWithin w (end_item m) → Comes s.files s.cursor (end_item m ∷ next) → Does sent.appended w rest next s u e
  end-sent e sent w m next small comes = takes-sends sent.appended w (end_item m) next s t u (shown_item item) rest e (gave-takes w (end_item m) next s t item read small comes) sent.sends

  -- the kids that are left could not be written
  pub child-unended : (f : MergeFault) → Sent rest t u (Some f) → ChildMerged h cs s u (Err f)
  child-unended f sent = record {
    appended = sent.appended;
    passes = (let sends = sent.sends in gave-fails sent.appended s t u item f read sends.passes);
    rests = tt;
    onward = tt;
    behind = tt;
    went = λ b file sets kids. rest-went b (Some f) file sets kids sent;
    node_merged = λ w k next small comes below fit. absurd (no-node w k next small comes);
    end_taken = λ w m next small comes. (tt, end-sent (Some f) sent w m next small comes);
  }

  -- the kids that are left were written
  pub child-ended : s.writer.leaf ≡ None → Sent rest t u None → ChildMerged h cs s u (Ok None)
  child-ended none sent =
      let size = ap (read_for s.cursor.standing) shown in
      let long = ap (size_of s.cursor.standing) shown in
      let goes = read.goes in
      let moved = goes.moved in
      let sends = sent.sends in
      let at = ap (λ (c : PlainCursor). c.at) sends.same_cursor in
      record {
        appended = sent.appended;
        passes = passes-then [] sent.appended s t u None (read_for s.cursor.standing (shown_item item)) 0 unpaid (omega (arith, size)) (gave s t item read) sends.passes;
        rests = subst (λ (x : PlainWriter). Rests x u.writer) read.writer (row-sent t u h.now (rest_of h.number h.before cs) (ap (λ (x : PlainWriter). x.leaf) read.writer ∙ none) sent);
        onward = omega (arith, moved, long, at);
        behind = tt;
        went = λ b file sets kids. rest-went b None file sets kids sent;
        node_merged = λ w k next small comes below fit. absurd (no-node w k next small comes);
        end_taken = λ w m next small comes. (refl, end-sent None sent w m next small comes);
      }

-- ---- nodes

set-is : (st : Stamp) (q : List (ℕ × ℕ)) → set_in st q ≡ unwrap_or st q
set-is None q = refl
set-is (Some s) q = refl

-- the calls are made for what is inside, where it comes, which appends these bytes
abbrev IsInside : Kind → List ℕ → PlainInherited → Option PlainKeyed → State → State → Option MergeFault → Type 0
IsInside Inner x own o s t e =
    (w : ℕ) (l : PlainLabel) (st : Stamp) (ks : PlainNodes) (m : ℕ) (next : List PlainItem) → AllByRecursion (IsWithin w) (row_items own.before ks ++ end_item m ∷ []) → Comes s.files s.cursor (row_items own.before ks ++ end_item m ∷ next)
    → IsTrue (are_nodes_below own.number ks) → IsTrue (if_there o (λ c. fits (inner_node l st ks) c)) → Does x w (row_calls own.now (kids_with own.number own.before ks o) ++ call_end_inner ∷ []) next s t e
IsInside Leaf x own o s t e =
    (w : ℕ) (l : PlainLabel) (st : Stamp) (xs : List PlainAlt) (next : List PlainItem) → AllByRecursion (IsWithin w) (alt_items xs ++ leaf_end_item ∷ []) → Comes s.files s.cursor (alt_items xs ++ leaf_end_item ∷ next)
    → IsTrue (are_alts_below own.number xs) → IsTrue (if_there o (λ c. fits (leaf_node l st xs) c)) → Does x w (alt_calls (alts_with own.number own.before xs o) ++ call_end_leaf ∷ []) next s t e

module _ (h : PlainInherited) (cs : List PlainKeyed) (l : PlainLabel) (st : Stamp) where
  abbrev own : PlainInherited
  own = inherited_beside h l st cs

  abbrev its_kid : Option PlainKeyed
  its_kid = kid_at l cs

  -- the calls for what is inside a node that was begun
  abbrev inside : PlainNode → List WriterCall
  inside (inner_node m z ks) = row_calls own.now (kids_with h.number own.before ks its_kid) ++ call_end_inner ∷ []
  inside (leaf_node m z xs) = alt_calls (alts_with h.number own.before xs its_kid) ++ call_end_leaf ∷ []

  -- it fits the kid with its label, where there is one
  abbrev HasPlace : PlainNode → Type 0
  HasPlace k = IsTrue (if_there (kid_at (node_label k) cs) (λ c. fits k c))

  same-label : (kind : Kind) (k : PlainNode) → opening kind l st ≡ first k → node_label k ≡ l
  same-label Inner (inner_node m z ks) same = cc
  same-label Inner (leaf_node m z xs) same = absurd cc
  same-label Leaf (inner_node m z ks) same = absurd cc
  same-label Leaf (leaf_node m z xs) same = cc

  stamp-below : (kind : Kind) (k : PlainNode) → opening kind l st ≡ first k → IsTrue (is_node_below h.number k) → IsTrue (is_stamp_below h.number st)
  stamp-below Inner (inner_node m z ks) same below = (let stamps : z ≡ st = cc in subst (λ (x : Stamp). IsTrue (is_stamp_below h.number x)) stamps (both (is_stamp_below h.number z) (are_nodes_below h.number ks) below).0)
  stamp-below Inner (leaf_node m z xs) same below = absurd cc
  stamp-below Leaf (inner_node m z ks) same below = absurd cc
  stamp-below Leaf (leaf_node m z xs) same below = (let stamps : z ≡ st = cc in subst (λ (x : Stamp). IsTrue (is_stamp_below h.number x)) stamps (both (is_stamp_below h.number z) (are_alts_below h.number xs) below).0)

  -- all calls for a node that was opened so
  node-called : (kind : Kind) (k : PlainNode) → opening kind l st ≡ first k → HasPlace k → row_calls h.now (met h.number h.before k cs) ≡ calls_beside kind h l st cs ++ inside k
  node-called Inner (inner_node m z ks) same =
      let labels : l ≡ m = cc in
      let stamps : st ≡ z = cc in
      subst (λ (j : PlainNode). HasPlace j → row_calls h.now (met h.number h.before j cs) ≡ calls_beside Inner h l st cs ++ inside j) (λ i. inner_node (labels i) (stamps i) ks) (inner_met h l st cs ks)
  node-called Inner (leaf_node m z xs) same = absurd cc
  node-called Leaf (inner_node m z ks) same = absurd cc
  node-called Leaf (leaf_node m z xs) same =
      let labels : l ≡ m = cc in
      let stamps : st ≡ z = cc in
      subst (λ (j : PlainNode). HasPlace j → row_calls h.now (met h.number h.before j cs) ≡ calls_beside Leaf h l st cs ++ inside j) (λ i. leaf_node (labels i) (stamps i) xs) (leaf_met h l st cs xs)

  -- ---- what is merged behind an opening

  -- what is done inside a node that is opened so, where it comes
  abbrev IsDone : Kind → List ℕ → State → State → Option MergeFault → Type 0
  IsDone kind x s t e =
      (w : ℕ) (k : PlainNode) (next : List PlainItem) → opening kind l st ≡ first k → AllByRecursion (IsWithin w) (behind h.before k) → Comes s.files s.cursor (behind h.before k ++ next) → IsTrue (is_node_below h.number k) → HasPlace k
      → Does x w (inside k) next s t e

  record Part (kind : Kind) (s t : State) (e : Option MergeFault) : Type 0 where
    appended : List ℕ
    passes : Passes appended 0 s t e
    rests : (v : PlainWriter) → Begins kind v s.writer → Unless e (Rests v t.writer)
    went : (b : ℕ) → s.cursor.length + 12 ≤ b → AreShortSets b own → IfSome its_kid (λ k. IsShortTree b k) → WentIf b h.number appended s.writer t.writer e
    done : IsDone kind appended s t e

  module _ (o : Option PlainKeyed) (left : List PlainKeyed) (inherits : PlainInherited) (begun : IsBegun h l st cs o left inherits) (s t : State) (e : Option MergeFault) where
    inside-part : InsideMerged inherits o s t e → Part Inner s t e
    inside-part merged = record { appended = merged.appended; passes = merged.passes; rests = λ v opens. unless-closed v s.writer t.writer e opens merged.closed; went = went; done = done }
      where
        here : IsInside Inner merged.appended own its_kid s t e
        here = subst (λ (z : PlainInherited). IsInside Inner merged.appended z its_kid s t e) begun.inherits (subst (λ (z : Option PlainKeyed). IsInside Inner merged.appended inherits z s t e) begun.same_kid merged.inside)

        went : (b : ℕ) → s.cursor.length + 12 ≤ b → AreShortSets b own → IfSome its_kid (λ k. IsShortTree b k) → WentIf b h.number merged.appended s.writer t.writer e
        went = subst (λ (z : PlainInherited). (b : ℕ) → s.cursor.length + 12 ≤ b → AreShortSets b z → IfSome its_kid (λ k. IsShortTree b k) → WentIf b z.number merged.appended s.writer t.writer e) begun.inherits
            (subst (λ (z : Option PlainKeyed). (b : ℕ) → s.cursor.length + 12 ≤ b → AreShortSets b inherits → IfSome z (λ k. IsShortTree b k) → WentIf b inherits.number merged.appended s.writer t.writer e) begun.same_kid merged.went)

        done : IsDone Inner merged.appended s t e
        done w (inner_node m z ks) next same =
            let labels : l ≡ m = cc in
            let stamps : st ≡ z = cc in
            let set = set_in st h.before in
            subst (λ (j : PlainNode). AllByRecursion (IsWithin w) (behind h.before j) → Comes s.files s.cursor (behind h.before j ++ next) → IsTrue (is_node_below h.number j) → HasPlace j → Does merged.appended w (inside j) next s t e) (λ i. inner_node (labels i) (stamps i) ks)
            (λ small comes below fit. here w l st ks _ next (subst (λ (q : List (ℕ × ℕ)). AllByRecursion (IsWithin w) (row_items q ks ++ end_of set ks ∷ [])) (set-is st h.before) small)
            (subst (λ (is : List PlainItem). Comes s.files s.cursor is) (append_assoc (row_items set ks) (end_of set ks ∷ []) next ∙ ap (λ (q : List (ℕ × ℕ)). row_items q ks ++ end_of set ks ∷ next) (set-is st h.before)) comes)
            (both (is_stamp_below h.number st) (are_nodes_below h.number ks) below).1 fit)
        done w (leaf_node m z xs) next same = absurd cc

    leaf-part : LeafMerged inherits o s t e → Part Leaf s t e
    leaf-part merged = record { appended = merged.appended; passes = merged.passes; rests = λ v begins. rests-behind v s.writer t.writer e begins.inners merged.rests; went = went; done = done }
      where
        here : IsInside Leaf merged.appended own its_kid s t e
        here = subst (λ (z : PlainInherited). IsInside Leaf merged.appended z its_kid s t e) begun.inherits (subst (λ (z : Option PlainKeyed). IsInside Leaf merged.appended inherits z s t e) begun.same_kid merged.inside)

        went : (b : ℕ) → s.cursor.length + 12 ≤ b → AreShortSets b own → IfSome its_kid (λ k. IsShortTree b k) → WentIf b h.number merged.appended s.writer t.writer e
        went = subst (λ (z : PlainInherited). (b : ℕ) → s.cursor.length + 12 ≤ b → AreShortSets b z → IfSome its_kid (λ k. IsShortTree b k) → WentIf b z.number merged.appended s.writer t.writer e) begun.inherits
            (subst (λ (z : Option PlainKeyed). (b : ℕ) → s.cursor.length + 12 ≤ b → AreShortSets b inherits → IfSome z (λ k. IsShortTree b k) → WentIf b inherits.number merged.appended s.writer t.writer e) begun.same_kid merged.went)

        done : IsDone Leaf merged.appended s t e
        done w (leaf_node m z xs) next same small comes below fit =
            let labels : m ≡ l = cc in
            here w m z xs next small (subst (λ (is : List PlainItem). Comes s.files s.cursor is) (append_assoc (alt_items xs) (leaf_end_item ∷ []) next) comes) (both (is_stamp_below h.number z) (are_alts_below h.number xs) below).1
            (subst (λ (j : PlainLabel). IsTrue (if_there (kid_at j cs) (λ c. fits (leaf_node m z xs) c))) labels fit)
        done w (inner_node m z ks) next same small comes below fit = absurd cc

    part : (kind : Kind) → BegunMerged kind inherits o s t e → Part kind s t e
    part Inner merged = inside-part merged
    part Leaf merged = leaf-part merged

  -- ---- a node is begun, and what is behind its opening merged

  module _ (kind : Kind) (s t u : State) (item : Item) (read : Nexts s t item) (shown : shown_item item ≡ opening kind l st) where
    -- such a node comes
    opened : (w : ℕ) (k : PlainNode) (next : List PlainItem) → AllByRecursion (IsWithin w) (node_items h.before k) → Comes s.files s.cursor (node_items h.before k ++ next) → opening kind l st ≡ first k
    opened w k next small comes = (let taken = node-taken h.before w k next s t item read small comes in sym shown ∙ taken.given)

    -- calls were made for it
    begun-does : (x : List ℕ) (w : ℕ) (k : PlainNode) (next : List PlainItem) (e : Option MergeFault) (calls : List WriterCall) → (IsTrue (is_stamp_below h.number st) → Sends x calls t u e) → AllByRecursion (IsWithin w) (node_items h.before k)
        → Comes s.files s.cursor (node_items h.before k ++ next) → IsTrue (is_node_below h.number k) → Does x w calls (behind h.before k ++ next) s u e
    begun-does x w k next e calls sends small comes below =
        let taken = node-taken h.before w k next s t item read small comes in
        takes-sends x w (first k) (behind h.before k ++ next) s t u (shown_item item) calls e taken (sends (stamp-below kind k (opened w k next small comes) below))

    no-end : (w m : ℕ) (next : List PlainItem) → IsWithin w (end_item m) → Comes s.files s.cursor (end_item m ∷ next) → ⊥
    no-end w m next small comes = (let taken = gave-takes w (end_item m) next s t item read small comes in not-ended kind l st m (sym shown ∙ taken.given))

    -- the record that was read is short
    opening-short : (b : ℕ) → s.cursor.length + 12 ≤ b → length (rec_bytes (opening_of kind l st)) ≤ b
    opening-short b file =
        let goes = read.goes in
        let size = ap (size_of s.cursor.standing) shown in
        let same = opening-size kind s.cursor.standing l st in
        let moved = goes.moved in
        let within = goes.within in
        let long = goes.same_length in
        omega (arith, size, same, moved, within, long, file)

    began-went : {B : Type 0} (b : ℕ) (r : Result B MergeFault) → s.cursor.length + 12 ≤ b → AreShortSets b h → AllByRecursion (IsShortTree b) cs → (began : BeganBeside kind h l st cs t u r) → WentIf b h.number began.appended s.writer u.writer (fault_of r)
    began-went b r file sets kids began =
        went-from b h.number began.appended s.writer t.writer u.writer (fault_of r) read.writer (began.went b (omega (arith, file)) sets kids (opening-short b file))

    -- it was not begun
    pub child-unbegun : {B : Type 0} (f : MergeFault) → BeganBeside {T = B} kind h l st cs t u (Err f) → ChildMerged h cs s u (Err f)
    child-unbegun {B = B} f began = record {
      appended = began.appended;
      passes = gave-fails began.appended s t u item f read began.passes;
      rests = tt;
      onward = tt;
      behind = tt;
      went = λ b file sets kids. began-went {B = B} b (Err f) file sets kids began;
      node_merged = λ w k next small comes below fit. (
        tt,
        let begins = calls_beside kind h l st cs in
            subst (λ (z : List WriterCall). Does began.appended w z next s u (Some f)) (sym (node-called kind k (opened w k next small comes) fit))
            (does-fault began.appended began.appended s u f w begins (inside k) (behind h.before k ++ next) next
            (begun-does began.appended w k next (Some f) begins began.sends small comes below)),
      );
      end_taken = λ w m next small comes. absurd (no-end w m next small comes);
    }

    module _ {B : Type 0} (b : B) (v : State) (began : BeganBeside kind h l st cs t u (Ok b)) (o : Option PlainKeyed) (rest : Kids) (inherits : PlainInherited) (begun : IsBegun h l st cs o (kids_view rest) inherits) where
      -- what was read for the item is written again
      begun-passes : Passes began.appended 0 s u None
      begun-passes =
          let few = ap (read_for s.cursor.standing) shown in
          let size = opening-read kind s.cursor.standing l st in
          let n = read_for s.cursor.standing (shown_item item) in
          let after : Passes began.appended n s u None = passes-then [] began.appended s t u None n 0 n (omega arith) (gave s t item read) began.passes in
          record {
            same_files = after.same_files;
            lengthens = after.lengthens;
            later = after.later;
            cause = after.cause;
            same_name = after.same_name;
            same_length = after.same_length;
            onward = after.onward;
            within = after.within;
            pulls = after.pulls;
            ahead = (let read = gave s t item read in let ahead = read.ahead in let less = began.paid in omega (arith, few, size, ahead, less));
          }

      part-passes : (e : Option MergeFault) (part : Part kind u v e) → Passes (began.appended ++ part.appended) 0 s v e
      part-passes e part = passes-then began.appended part.appended s u v e 0 0 0 (omega arith) begun-passes part.passes

      part-went : (e : Option MergeFault) (part : Part kind u v e) (c : ℕ) → s.cursor.length + 12 ≤ c → AreShortSets c h → AllByRecursion (IsShortTree c) cs → WentIf c h.number (began.appended ++ part.appended) s.writer v.writer e
      part-went e part c file sets kids =
          let passes = begun-passes in
          let long = passes.same_length in
          went-then c h.number began.appended part.appended s.writer u.writer v.writer e (began-went {B = B} c (Ok b) file sets kids began)
          (part.went c (omega (arith, long, file)) (own-short c h (is_some its_kid) st (opening-stamp c kind l st (opening-short c file)) sets) (kid-short c l cs kids))

      part-does : (e : Option MergeFault) (part : Part kind u v e) (w : ℕ) (k : PlainNode) (next : List PlainItem) → AllByRecursion (IsWithin w) (node_items h.before k) → Comes s.files s.cursor (node_items h.before k ++ next)
          → IsTrue (is_node_below h.number k) → HasPlace k → Does (began.appended ++ part.appended) w (row_calls h.now (met h.number h.before k cs)) next s v e
      part-does e part w k next small comes below fit =
          let same = opened w k next small comes in
          let d = begun-does began.appended w k next None (calls_beside kind h l st cs) began.sends small comes below in
          let x = began.appended ++ part.appended in
          subst (λ (z : List WriterCall). Does x w z next s v e) (sym (node-called kind k same fit))
          (does-then began.appended part.appended s u v e w (calls_beside kind h l st cs) (inside k) (behind h.before k ++ next) next (no-more begun-passes) d (part.done w k next same (behind-small h.before w k small) d.follows below fit))

      -- what is inside it could not be merged
      pub child-unmerged : (f : MergeFault) → BegunMerged kind inherits o u v (Some f) → ChildMerged h cs s v (Err f)
      child-unmerged f merged =
          let inner = part o (kids_view rest) inherits begun u v (Some f) kind merged in
          let x = began.appended ++ inner.appended in
          record {
            appended = x;
            passes = part-passes (Some f) inner;
            rests = tt;
            onward = tt;
            behind = tt;
            went = part-went (Some f) inner;
            node_merged = λ w k next small comes below fit. (tt, part-does (Some f) inner w k next small comes below fit);
            end_taken = λ w m next small comes. absurd (no-end w m next small comes);
          }

      pub child-merged : BegunMerged kind inherits o u v None → ChildMerged h cs s v (Ok (Some rest))
      child-merged merged =
          let inner = part o (kids_view rest) inherits begun u v None kind merged in
          let goes = read.goes in
          let moved = goes.moved in
          let size = ap (size_of s.cursor.standing) shown in
          let more = opening-long kind s.cursor.standing l st in
          let passes = began.passes in
          let second = passes.onward in
          let inner_passes = inner.passes in
          let third = inner_passes.onward in
          let left = begun.left in
          record {
            appended = began.appended ++ inner.appended;
            passes = part-passes None inner;
            rests = subst (λ (x : PlainWriter). Rests x v.writer) read.writer (inner.rests t.writer began.begins);
            onward = omega (arith, moved, size, more, second, third);
            behind = record { label = l; are = left };
            went = part-went None inner;
            node_merged = λ w k next small comes below fit. (
              ap Some (left ∙ ap (λ (j : PlainLabel). above j cs) (sym (same-label kind k (opened w k next small comes)))),
              part-does None inner w k next small comes below fit,
            );
            end_taken = λ w m next small comes. absurd (no-end w m next small comes);
          }

-- ---- what is known where a node was begun

-- less is left behind its opening
module _ (h : PlainInherited) (l : PlainLabel) (st : Stamp) (cs : List PlainKeyed) (kid : Option PlainKeyed) (left : List PlainKeyed) (inherits : PlainInherited) (begun : IsBegun h l st cs kid left inherits) where
  pub begun-number : 1 ≤ h.number → 1 ≤ inherits.number
  begun-number le = subst (λ (z : PlainInherited). 1 ≤ z.number) (sym begun.inherits) le

  pub begun-kid : IsTrue (are_ordered (kids_from cs)) → AreShapedNodes (fresh_row (kids_from cs)) → IfSome kid (λ k. IsOrdered k × IsShapedNode (fresh None k))
  begun-kid ordered shaped = subst (λ (z : Option PlainKeyed). IfSome z (λ k. IsOrdered k × IsShapedNode (fresh None k))) (sym begun.same_kid) (kid_known l cs ordered shaped)

  pub begun-alone : kid ≡ None → inherits.now ≡ inherits.before
  begun-alone none = subst (λ (z : PlainInherited). z.now ≡ z.before) (sym begun.inherits) (own_alone h l st cs (sym begun.same_kid ∙ none))

pub kid-shaped : (o : Option PlainKeyed) → IfSome o (λ k. IsOrdered k × IsShapedNode (fresh None k)) → IfSome o (λ k. IsShapedNode (fresh None k))
kid-shaped None h = h
kid-shaped (Some k) h = h.1

-- ---- the inside of an inner node

module _ (own : PlainInherited) (kid : Option PlainKeyed) (m : PlainLabel) (cs : List PlainKeyed) (s t : State) (is : kid ≡ Some (inner m (kids_from cs))) where
  -- the calls for its kids, and where they fit
  kids-called : (x : List ℕ) (w : ℕ) (ks : PlainNodes) (next : List PlainItem) (u : State) (e : Option MergeFault) → Does x w (row_calls own.now (merged_row own.number own.before ks cs) ++ call_end_inner ∷ []) next s u e
      → Does x w (row_calls own.now (kids_with own.number own.before ks kid) ++ call_end_inner ∷ []) next s u e
  kids-called x w ks next u e does =
      subst (λ (o : Option PlainKeyed). Does x w (row_calls own.now (kids_with own.number own.before ks o) ++ call_end_inner ∷ []) next s u e) (sym is)
      (subst (λ (js : List PlainKeyed). Does x w (row_calls own.now (merged_row own.number own.before ks js) ++ call_end_inner ∷ []) next s u e) (sym (kids_list-kids_from cs)) does)

  kids-fit : (l : PlainLabel) (st : Stamp) (ks : PlainNodes) → IsTrue (if_there kid (λ c. fits (inner_node l st ks) c)) → IsTrue (all_fit ks cs)
  kids-fit l st ks fit = subst (λ (js : List PlainKeyed). IsTrue (all_fit ks js)) (kids_list-kids_from cs) (subst (λ (o : Option PlainKeyed). IsTrue (if_there o (λ c. fits (inner_node l st ks) c))) is fit)

  its-kids : (b : ℕ) → IfSome kid (λ k. IsShortTree b k) → AllByRecursion (IsShortTree b) cs
  its-kids b short = kids-short b cs (subst (λ (o : Option PlainKeyed). IfSome o (λ k. IsShortTree b k)) is short).1

  pub inside-row-fails : (f : MergeFault) → RowMerged own cs s t (Some f) → InsideMerged own kid s t (Some f)
  inside-row-fails f row = record {
    appended = row.appended;
    passes = passes-fault row.appended s t f unpaid 0 row.passes;
    closed = tt;
    went = λ b file sets short. row.went b file sets (its-kids b short);
    inside = λ w l st ks n next small comes below fit. kids-called row.appended w ks next t (Some f)
        (does-fault row.appended row.appended s t f w (row_calls own.now (merged_row own.number own.before ks cs)) (call_end_inner ∷ []) next next (row.row w ks n next small comes below (kids-fit l st ks fit)));
  }

  pub inside-row-closed : (u : State) (e : Option MergeFault) → s.writer.inners ≢ [] → RowMerged own cs s t None → Sent (call_end_inner ∷ []) t u e → InsideMerged own kid s u e
  inside-row-closed u e some row sent =
      let x = row.appended ++ sent.appended in
      let sends = sent.sends in
      record {
        appended = x;
        passes = passes-paid row.appended sent.appended unpaid s t u (call_end_inner ∷ []) e (end-long t.writer) row.passes sends;
        closed = closes sent.appended s t u e some row.rests sends.made;
        went = λ b file sets short. went-then b own.number row.appended sent.appended s.writer t.writer u.writer e (row.went b file sets (its-kids b short)) (went-sent b own.number (call_end_inner ∷ []) t u e (tt, tt) sent);
        inside = λ w l st ks n next small comes below fit. kids-called x w ks next u e
            (does-sends row.appended sent.appended s t u e w (row_calls own.now (merged_row own.number own.before ks cs)) (call_end_inner ∷ []) next (row.row w ks n next small comes below (kids-fit l st ks fit)) sends);
      }

-- a leaf cannot stand where the archive has an inner node
pub inside-misfit : (own : PlainInherited) (kid : Option PlainKeyed) (m : PlainLabel) (b : PlainKey) (s : State) → kid ≡ Some (leaf m b) → IsMeter s.numbers → s.cursor.at ≤ s.cursor.length → InsideMerged own kid s s (Some Damage)
inside-misfit own kid m b s is meter within = record {
  appended = [];
  passes = passes-none s (Some Damage) meter within (λ e. absurd cc);
  closed = tt;
  went = λ b file sets short. tt;
  inside = λ w l st ks n next small comes below fit. absurd (true≢false (sym (subst (λ (o : Option PlainKeyed). IsTrue (if_there o (λ c. fits (inner_node l st ks) c))) is fit)));
}

pub inside-alone : (own : PlainInherited) (kid : Option PlainKeyed) (s u : State) (e : Option MergeFault) → kid ≡ None → own.now ≡ own.before → InsideCopied own.now s u e → InsideMerged own kid s u e
inside-alone own kid s u e none same copied = record {
  appended = copied.appended;
  passes = copied.passes;
  closed = copied.closed;
  went = λ b file sets short. copied.went b own.number file sets.now;
  inside = λ w l st ks n next small comes below fit.
      subst (λ (o : Option PlainKeyed). Does copied.appended w (row_calls own.now (kids_with own.number own.before ks o) ++ call_end_inner ∷ []) next s u e) (sym none)
      (copied.inside w ks n next (subst (λ (q : List (ℕ × ℕ)). AllByRecursion (IsWithin w) (row_items q ks ++ end_item n ∷ [])) (sym same) small)
      (subst (λ (q : List (ℕ × ℕ)). Comes s.files s.cursor (row_items q ks ++ end_item n ∷ next)) (sym same) comes));
}
