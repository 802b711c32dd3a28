-- What copying nodes goes along.
use Rattle.std.proofs.Common.{IfOk, IsTrue, ◌≡◌, ◌≢◌, ℕ, ◌+◌, ◌-◌, ◌*◌, ◌≤◌, ◌<◌, List, [], ◌∷◌, ◌++◌, length, Option, Some, None, Result, Ok, Err, Bool, true, false, true≢false, refl, sym, ap, subst, ◌∙◌, append_assoc, arith}
use Rattle.std.specs.Option.{option_map, unwrap_or}
use Rattle.xa_fields.proofs.Fields.{some_is}
use Rattle.keyed_tree.specs.Data.{PlainLabel}
use Rattle.archive_tree.specs.Data.{Stamp, PlainNode, inner_node, leaf_node, PlainNodes, no_nodes, node}
use Rattle.archive_tree.specs.View.{stamp_view}
use Rattle.record_format.specs.Nodes.{set_in}
use Rattle.record_cursor.specs.Items.{PlainItem, leaf_end_item, end_item}
use Rattle.record_writer.specs.Data.{PlainWriter, OpenInner, WriterCall, call_end_inner, call_finish}
use Rattle.record_writer.specs.Calls.{appended, after, after_all, inner_ended}
use Rattle.record_writer.specs.Walks.{node_calls, row_calls}
use Rattle.record_copy.specs.Copied.{inside_calls, RowCopied, InsideCopied, AlternativesCopied, BegunCopied, NodeCopied, ChildCopied}
use Rattle.record_copy.specs.Faults.{Unless, fault_of}
use Rattle.record_copy.specs.Parts.{PlainHead, head_of, head_view, opening}
use Rattle.record_copy.specs.Passes.{Rests, Closes, IsOpen, EndsKind, call_of}
use Rattle.record_copy.specs.Reads.{HeadRead}
use Rattle.record_copy.specs.Runs.{Run, Matches, Sent}
use Rattle.record_copy.specs.Seen.{Coming, node_items, row_items, inside_items}
use Rattle.record_copy.specs.Short.{IfStored, IsRaisedOf, IsShortCall, IsShortLabel, AreShort}
use Rattle.record_copy.specs.State.{State}
use Rattle.record_copy.specs.declared.kind.Kind.{Kind}
use Rattle.record_copy.specs.declared.kind.Kind.TheVariants.{Inner, Leaf}
use Rattle.record_copy.specs.declared.fault.CopyFault.{CopyFault}
use Rattle.record_copy.specs.declared.parts.Head.{Head}
use Rattle.record_copy.proofs.Alternating.{read-run, read-short, read-stops, whole-part, rests-behind}
use Rattle.record_copy.proofs.Passing.{coming-as, coming-same}
use Rattle.record_copy.proofs.Running.{run-then, matches-then, matches-fault, matches-part, short-part, short-then}
use Rattle.record_cursor.specs.NodeItems.{alt_items}

-- ---- the calls of a node

pub call-short : (S : List (ℕ × ℕ) → Type 0) (b : ℕ) (kind : Kind) (l : PlainLabel) (s : Stamp) (set : List (ℕ × ℕ)) → IsShortLabel b l → IfStored S s → S set → IsShortCall S b (call_of kind l s set)
call-short S b Inner l s set h g f = (h, g, f)
call-short S b Leaf l s set h g f = (h, g, f)

calls-of : (k : PlainNode) (set : List (ℕ × ℕ)) → (let h = head_of k in call_of h.kind h.label h.stamp (set_in h.stamp set) ∷ inside_calls (set_in h.stamp set) k) ≡ node_calls set k
calls-of (inner_node l s ks) set = refl
calls-of (leaf_node l s xs) set = refl

items-of : (k : PlainNode) (behind : List PlainItem) → node_items k ++ behind ≡ opening (head_of k) ∷ (inside_items k ++ behind)
items-of (inner_node l s ks) behind = refl
items-of (leaf_node l s xs) behind = refl

-- the set of a node
pub own-is : (s : Stamp) (parent own : List (ℕ × ℕ)) → own ≡ unwrap_or s parent → own ≡ set_in s parent
own-is None parent own h = h
own-is (Some t) parent own h = h

own-raised : (b n : ℕ) (s : Stamp) (parent own : List (ℕ × ℕ)) → own ≡ set_in s parent → IfStored (IsRaisedOf b n) s → IsRaisedOf b n parent → IsRaisedOf b n own
own-raised b n None parent own is h g = subst (IsRaisedOf b n) (sym is) g
own-raised b n (Some t) parent own is h g = subst (IsRaisedOf b n) (sym is) h

-- ---- the writer

pub some-opened : (o : OpenInner) (is js : List OpenInner) → is ≡ o ∷ js → is ≢ []
some-opened o is js e d = (let x = sym d ∙ e in absurd cc)

pub open-stands : (kind : Kind) (l : PlainLabel) (s : Stamp) (set : List (ℕ × ℕ)) (v w : PlainWriter) → v.leaf ≡ None → w ≡ after v (call_of kind l s set) → IsOpen kind w
open-stands Inner l s set v w none is = (ap (λ (x : PlainWriter). x.leaf) is ∙ none, some-opened _ w.inners v.inners (ap (λ (x : PlainWriter). x.inners) is))
open-stands Leaf l s set v w none is = λ e. (let x = sym (ap (λ (y : PlainWriter). y.leaf) is) ∙ e in absurd cc)

pub tails : (i j : OpenInner) (is js : List OpenInner) → i ∷ is ≡ j ∷ js → js ≡ is
tails i j is js e = cc

pub ends-rest : (kind : Kind) (l : PlainLabel) (s : Stamp) (set : List (ℕ × ℕ)) (v w x : PlainWriter) (e : Option CopyFault) → w ≡ after v (call_of kind l s set) → Unless e (EndsKind kind w x) → Unless e (Rests v x)
ends-rest Inner l s set v w x None is h = record { no_leaf = h.no_leaf; inners = tails _ h.closed v.inners x.inners (sym (ap (λ (y : PlainWriter). y.inners) is) ∙ h.inners) }
ends-rest Leaf l s set v w x None is h = record { no_leaf = h.no_leaf; inners = h.inners ∙ ap (λ (y : PlainWriter). y.inners) is }
ends-rest kind l s set v w x (Some f) is h = tt

-- ---- what is inside a node that was begun

record Part (kind : Kind) (n : ℕ) (set : List (ℕ × ℕ)) (s t : State) (ended : Option CopyFault) : Type 0 where
  pub made : List WriterCall
  pub next : WriterCall
  pub run : Run made next s t ended
  pub ends : Unless ended (EndsKind kind s.writer t.writer)
  pub short : (b : ℕ) → s.cursor.length + 12 ≤ b → IsRaisedOf b n set → AreShort (IsRaisedOf b n) b made next ended
  pub inside : (k : PlainNode) (behind : List PlainItem) → kind ≡ (head_of k).kind → Coming n s.files s.cursor (inside_items k ++ behind) → Matches n (inside_calls set k) made next behind t ended

inside-part : (n : ℕ) (set : List (ℕ × ℕ)) (s t : State) (e : Option CopyFault) → InsideCopied n set s t e → Part Inner n set s t e
inside-part n set s t e h = record { made = h.made; next = h.next; run = h.run; ends = h.closed; short = h.short; inside = kids }
  where
    kids : (k : PlainNode) (behind : List PlainItem) → Inner ≡ (head_of k).kind → Coming n s.files s.cursor (inside_items k ++ behind) → Matches n (inside_calls set k) h.made h.next behind t e
    kids (inner_node l z ks) behind same coming = h.inside ks behind (coming-as n s.files s.cursor _ _ (append_assoc (row_items ks) (end_item 0 ∷ []) behind) coming)
    kids (leaf_node l z xs) behind same coming = absurd cc

leaf-part : (n : ℕ) (set : List (ℕ × ℕ)) (s t : State) (e : Option CopyFault) → AlternativesCopied n s t e → Part Leaf n set s t e
leaf-part n set s t e h = record { made = h.made; next = h.next; run = h.run; ends = h.rests; short = λ b file few. h.short b file; inside = alternatives }
  where
    alternatives : (k : PlainNode) (behind : List PlainItem) → Leaf ≡ (head_of k).kind → Coming n s.files s.cursor (inside_items k ++ behind) → Matches n (inside_calls set k) h.made h.next behind t e
    alternatives (leaf_node l z xs) behind same coming = h.alternatives xs behind (coming-as n s.files s.cursor _ _ (append_assoc (alt_items xs) (leaf_end_item ∷ []) behind) coming)
    alternatives (inner_node l z ks) behind same coming = absurd cc

begun-part : (kind : Kind) (n : ℕ) (set : List (ℕ × ℕ)) (s t : State) (e : Option CopyFault) → BegunCopied kind n set s t e → Part kind n set s t e
begun-part Inner n set s t e h = inside-part n set s t e h
begun-part Leaf n set s t e h = leaf-part n set s t e h

-- ---- a node whose head was read

module _ (n : ℕ) (h : PlainHead) (stamp : Stamp) (set : List (ℕ × ℕ)) (s t : State) where
  abbrev call : WriterCall
  call = call_of h.kind h.label stamp set

  -- it was not begun
  pub node-fault : (f : CopyFault) → Sent (call ∷ []) s t (Some f) → NodeCopied n h stamp set s t (Some f)
  node-fault f sent =
      let did = sent.run in
      let passes = did.passes in
      record {
        made = sent.made;
        next = sent.next;
        run = did;
        rests = tt;
        short = λ b file label stored own. short-part (IsRaisedOf b n) b (call ∷ []) sent.made sent.next (Some f) (call-short (IsRaisedOf b n) b h.kind h.label stamp set label stored own, tt) sent.part;
        inside = λ k behind is coming. (
            let next = inside_items k ++ behind in
            matches-fault n (call ∷ []) (inside_calls set k) sent.made sent.next next behind t f (matches-part n (call ∷ []) sent.made sent.next next s t (Some f) sent.part passes.same_files sent.same_cursor coming));
      }

  begun-writer : Sent (call ∷ []) s t None → t.writer ≡ after s.writer call
  begun-writer sent = (let did = sent.run in did.writer ∙ ap (after_all s.writer) sent.part)

  pub node-open : Sent (call ∷ []) s t None → s.writer.leaf ≡ None → IsOpen h.kind t.writer
  node-open sent none = open-stands h.kind h.label stamp set s.writer t.writer none (begun-writer sent)

  node-part : (u : State) (e : Option CopyFault) → Sent (call ∷ []) s t None → Part h.kind n set t u e → NodeCopied n h stamp set s u e
  node-part u e sent g =
      let did = sent.run in
      let passes = did.passes in
      record {
        made = sent.made ++ g.made;
        next = g.next;
        run = run-then sent.made g.made sent.next g.next s t u e did g.run;
        rests = ends-rest h.kind h.label stamp set s.writer t.writer u.writer e (begun-writer sent) g.ends;
        short = λ b file label stored own. short-then (IsRaisedOf b n) b sent.made g.made sent.next g.next e
            (short-part (IsRaisedOf b n) b (call ∷ []) sent.made sent.next None (call-short (IsRaisedOf b n) b h.kind h.label stamp set label stored own, tt) sent.part)
            (g.short b (let long = passes.same_length in omega (arith, long, file)) own);
        inside = λ k behind is coming. (
            let next = inside_items k ++ behind in
            matches-then n (call ∷ []) (inside_calls set k) sent.made g.made g.next behind u e sent.part (g.inside k behind (ap (λ (z : PlainHead). z.kind) is) (coming-same n next s t passes.same_files sent.same_cursor coming)));
      }

  -- it was begun, and what is inside was copied
  pub node-copied : (u : State) (e : Option CopyFault) → Sent (call ∷ []) s t None → BegunCopied h.kind n set t u e → NodeCopied n h stamp set s u e
  node-copied u e sent g = node-part u e sent (begun-part h.kind n set t u e g)

-- ---- the next node of a row

abbrev pub moreover : Option CopyFault → Result Bool CopyFault
moreover None = Ok true
moreover (Some f) = Err f

module _ (n : ℕ) (set : List (ℕ × ℕ)) (s t : State) (same : t.writer ≡ s.writer) where
  pub child-failed : (f : CopyFault) → HeadRead n s t (Err f) → ChildCopied n set s t (Err f)
  child-failed f h = record {
    made = [];
    next = call_finish;
    run = read-run s t (Some f) h.not_long same h.passes;
    rests = tt;
    onward = tt;
    short = λ b file few. read-short (IsRaisedOf b n) b (Some f) h.not_long;
    node = λ k behind coming. (
        let next = inside_items k ++ behind in
        (tt, read-stops n (option_map head_view) (Some (head_of k)) next behind (node_calls set k) t f h.not_long (h.node (head_of k) next (coming-as n s.files s.cursor _ _ (items-of k behind) coming))));
    end_taken = λ behind coming. (tt, read-stops n (option_map head_view) None behind behind [] t f h.not_long (h.ended behind coming));
  }

  pub child-ended : s.writer.leaf ≡ None → HeadRead n s t (Ok None) → ChildCopied n set s t (Ok false)
  child-ended leaf h = record {
    made = [];
    next = call_finish;
    run = read-run s t None tt same h.passes;
    rests = record { no_leaf = ap (λ (w : PlainWriter). w.leaf) same ∙ leaf; inners = ap (λ (w : PlainWriter). w.inners) same };
    onward = h.onward;
    short = λ b file few. read-short (IsRaisedOf b n) b None tt;
    node = λ k behind coming. (
        let none : ◌≡◌ {A = Option PlainHead} None (Some (head_of k)) = (h.node (head_of k) (inside_items k ++ behind) (coming-as n s.files s.cursor _ _ (items-of k behind) coming)).0 in
        absurd cc);
    end_taken = λ behind coming. (refl, (refl, (h.ended behind coming).1));
  }

  module _ (head : Head) (h : HeadRead n s t (Ok (Some head))) (own : List (ℕ × ℕ)) (is : own ≡ set_in (stamp_view head.stamp) set) (u : State) where
    no-end : (behind : List PlainItem) → ¬ (Coming n s.files s.cursor (end_item 0 ∷ behind))
    no-end behind coming = (let none : ◌≡◌ {A = Option PlainHead} (Some (head_view head)) None = (h.ended behind coming).0 in absurd cc)

    child-run : (e : Option CopyFault) (g : NodeCopied n (head_view head) (stamp_view head.stamp) own t u e) → Run g.made g.next s u e
    child-run e g = run-then [] g.made call_finish g.next s t u e (read-run s t None tt same h.passes) g.run

    child-short : (e : Option CopyFault) (g : NodeCopied n (head_view head) (stamp_view head.stamp) own t u e) (b : ℕ) → s.cursor.length + 12 ≤ b → IsRaisedOf b n set → AreShort (IsRaisedOf b n) b g.made g.next e
    child-short e g b file few =
        let short = h.short b file in
        let read = h.passes in
        g.short b (let long = read.same_length in omega (arith, long, file)) short.label short.stamp (own-raised b n (stamp_view head.stamp) set own is short.stamp few)

    child-node : (e : Option CopyFault) (g : NodeCopied n (head_view head) (stamp_view head.stamp) own t u e) (k : PlainNode) (behind : List PlainItem) → Coming n s.files s.cursor (node_items k ++ behind) → Matches n (node_calls set k) g.made g.next behind u e
    child-node e g k behind coming =
        let shown = h.node (head_of k) (inside_items k ++ behind) (coming-as n s.files s.cursor _ _ (items-of k behind) coming) in
        let the : head_view head ≡ head_of k = some_is (head_view head) (head_of k) shown.0 in
        let calls : call_of head.kind (head_view head).label (stamp_view head.stamp) own ∷ inside_calls own k ≡ node_calls set k =
        ap (λ z. call_of head.kind (head_view head).label (stamp_view head.stamp) z ∷ inside_calls z k) is
        ∙ ap (λ (z : PlainHead). call_of z.kind z.label z.stamp (set_in z.stamp set) ∷ inside_calls (set_in z.stamp set) k) the
        ∙ calls-of k set in
        subst (λ z. Matches n z g.made g.next behind u e) calls (g.inside k behind the shown.1)

    pub child-copied : (e : Option CopyFault) → NodeCopied n (head_view head) (stamp_view head.stamp) own t u e → ChildCopied n set s u (moreover e)
    child-copied None g = record {
      made = g.made;
      next = g.next;
      run = child-run None g;
      rests = rests-behind s.writer t.writer u.writer None (ap (λ (w : PlainWriter). w.inners) same) g.rests;
      onward = (let here = h.onward in let more = g.run in let passes = more.passes in let there = passes.onward in omega (arith, here, there));
      short = child-short None g;
      node = λ k behind coming. (refl, child-node None g k behind coming);
      end_taken = λ behind coming. absurd (no-end behind coming);
    }
    child-copied (Some f) g = record {
      made = g.made;
      next = g.next;
      run = child-run (Some f) g;
      rests = tt;
      onward = tt;
      short = child-short (Some f) g;
      node = λ k behind coming. (tt, child-node (Some f) g k behind coming);
      end_taken = λ behind coming. absurd (no-end behind coming);
    }

-- what is left gets less behind a head
pub smaller : (n : ℕ) (s t : State) (head : Head) → HeadRead n s t (Ok (Some head)) → 5 * (t.cursor.length - t.cursor.at) + 4 < 5 * (s.cursor.length - s.cursor.at)
smaller n s t head h =
    let passes = h.passes in
    let within = passes.within in
    let long = passes.same_length in
    let onward = h.onward in
    omega (arith, within, long, onward)

-- ---- a row

module _ (n : ℕ) (set : List (ℕ × ℕ)) (s t : State) where
  first-copied : (more : Result Bool CopyFault) (h : ChildCopied n set s t more) (k : PlainNode) (ks : PlainNodes) (behind : List PlainItem) → Coming n s.files s.cursor (row_items (node k ks) ++ end_item 0 ∷ behind)
      → IfOk more (λ z. IsTrue z) × Matches n (node_calls set k) h.made h.next (row_items ks ++ end_item 0 ∷ behind) t (fault_of more)
  first-copied more h k ks behind coming = h.node k (row_items ks ++ end_item 0 ∷ behind) (coming-as n s.files s.cursor _ _ (append_assoc (node_items k) (row_items ks) (end_item 0 ∷ behind)) coming)

  pub row-then : (u : State) (e : Option CopyFault) → ChildCopied n set s t (Ok true) → RowCopied n set t u e → RowCopied n set s u e
  row-then u e h g =
      let did = h.run in
      let passes = did.passes in
      record {
        made = h.made ++ g.made;
        next = g.next;
        run = run-then h.made g.made h.next g.next s t u e h.run g.run;
        rests = (let r = h.rests in rests-behind s.writer t.writer u.writer e r.inners g.rests);
        short = λ b file few. short-then (IsRaisedOf b n) b h.made g.made h.next g.next e (h.short b file few) (g.short b (let long = passes.same_length in omega (arith, long, file)) few);
        row = nodes;
      }
    where
      nodes : (ks : PlainNodes) (behind : List PlainItem) → Coming n s.files s.cursor (row_items ks ++ end_item 0 ∷ behind) → Matches n (row_calls set ks) (h.made ++ g.made) g.next behind u e
      nodes no_nodes behind coming = absurd (true≢false (h.end_taken behind coming).0)
      nodes (node k ks) behind coming =
          let c = first-copied (Ok true) h k ks behind coming in
          matches-then n (node_calls set k) (row_calls set ks) h.made g.made g.next behind u e c.1.0 (g.row ks behind c.1.1)

  pub row-done : ChildCopied n set s t (Ok false) → RowCopied n set s t None
  row-done h = record { made = h.made; next = h.next; run = h.run; rests = h.rests; short = h.short; row = none }
    where
      none : (ks : PlainNodes) (behind : List PlainItem) → Coming n s.files s.cursor (row_items ks ++ end_item 0 ∷ behind) → Matches n (row_calls set ks) h.made h.next behind t None
      none no_nodes behind coming = (h.end_taken behind coming).1
      none (node k ks) behind coming = absurd (true≢false (sym (first-copied (Ok false) h k ks behind coming).0))

  pub row-fault : (f : CopyFault) → ChildCopied n set s t (Err f) → RowCopied n set s t (Some f)
  row-fault f h = record { made = h.made; next = h.next; run = h.run; rests = tt; short = h.short; row = stops }
    where
      stops : (ks : PlainNodes) (behind : List PlainItem) → Coming n s.files s.cursor (row_items ks ++ end_item 0 ∷ behind) → Matches n (row_calls set ks) h.made h.next behind t (Some f)
      stops no_nodes behind coming = (h.end_taken behind coming).1
      stops (node k ks) behind coming = matches-fault n (node_calls set k) (row_calls set ks) h.made h.next (row_items ks ++ end_item 0 ∷ behind) behind t f (first-copied (Err f) h k ks behind coming).1

-- what is copied from here on is copied from the first node on
pub record RowOn (n : ℕ) (set : List (ℕ × ℕ)) (s t : State) : Type 0 where
  pub same_length : t.cursor.length ≡ s.cursor.length
  pub onward : s.cursor.at ≤ t.cursor.at
  pub within : t.cursor.at ≤ t.cursor.length
  pub no_leaf : t.writer.leaf ≡ None
  pub rest : (u : State) (e : Option CopyFault) → RowCopied n set t u e → RowCopied n set s u e

pub row-start : (n : ℕ) (set : List (ℕ × ℕ)) (s : State) → s.cursor.at ≤ s.cursor.length → s.writer.leaf ≡ None → RowOn n set s s
row-start n set s within leaf = record { same_length = refl; onward = omega arith; within = within; no_leaf = leaf; rest = λ u e h. h }

pub row-on : (n : ℕ) (set : List (ℕ × ℕ)) (s t u : State) → RowOn n set s t → ChildCopied n set t u (Ok true) → RowOn n set s u
row-on n set s t u on h =
    let did = h.run in
    let passes = did.passes in
    let rests = h.rests in
    record {
      same_length = passes.same_length ∙ on.same_length;
      onward = (let a = on.onward in let b = passes.onward in omega (arith, a, b));
      within = passes.within;
      no_leaf = rests.no_leaf;
      rest = λ v e g. on.rest v e (row-then n set t u v e h g);
    }

-- ---- the node that a row is in

pub inside-fault : (n : ℕ) (set : List (ℕ × ℕ)) (s t : State) (f : CopyFault) → RowCopied n set s t (Some f) → InsideCopied n set s t (Some f)
inside-fault n set s t f h = record {
  made = h.made;
  next = h.next;
  run = h.run;
  closed = tt;
  short = h.short;
  inside = λ ks behind coming. matches-fault n (row_calls set ks) (call_end_inner ∷ []) h.made h.next behind behind t f (h.row ks behind coming);
}

pub ended-closes : (v w : PlainWriter) (is : List OpenInner) (at : ℕ) → is ≢ [] → v.leaf ≡ None → w ≡ inner_ended v is at → (w.leaf ≡ None) × (i : OpenInner) × (is ≡ i ∷ w.inners)
ended-closes v w [] at some leaf e = absurd (some refl)
ended-closes v w (i ∷ is) at some leaf e = (ap (λ (x : PlainWriter). x.leaf) e ∙ leaf, i, ap (λ (x : PlainWriter). i ∷ x.inners) (sym e))

pub closes : (s t u : State) (e : Option CopyFault) → s.writer.inners ≢ [] → Rests s.writer t.writer → (made : List WriterCall) → Unless e (u.writer ≡ after_all t.writer made) → Unless e (made ≡ call_end_inner ∷ []) → Unless e (Closes s.writer u.writer)
closes s t u None some h made is same =
    let v = t.writer in
    let parts = ended-closes v u.writer v.inners (v.written + length (appended v call_end_inner)) (λ none. some (sym h.inners ∙ none)) h.no_leaf (is ∙ ap (after_all v) same) in
    record { no_leaf = parts.0; closed = parts.1; inners = sym h.inners ∙ parts.2 }
closes s t u (Some f) some h made is same = tt

-- the row has ended, and the node is closed
pub inside-close : (n : ℕ) (set : List (ℕ × ℕ)) (s t u : State) (e : Option CopyFault) → s.writer.inners ≢ [] → RowCopied n set s t None → Sent (call_end_inner ∷ []) t u e → InsideCopied n set s u e
inside-close n set s t u e some h sent =
    let did = sent.run in
    let passes = did.passes in
    record {
      made = h.made ++ sent.made;
      next = sent.next;
      run = run-then h.made sent.made h.next sent.next s t u e h.run did;
      closed = closes s t u e some h.rests sent.made did.writer (whole-part (call_end_inner ∷ []) sent.made sent.next e sent.part);
      short = λ b file few. short-then (IsRaisedOf b n) b h.made sent.made h.next sent.next e (h.short b file few) (short-part (IsRaisedOf b n) b (call_end_inner ∷ []) sent.made sent.next e (tt, tt) sent.part);
      inside = λ ks behind coming. (
          let row = h.row ks behind coming in
          matches-then n (row_calls set ks) (call_end_inner ∷ []) h.made sent.made sent.next behind u e row.0
          (matches-part n (call_end_inner ∷ []) sent.made sent.next behind t u e sent.part passes.same_files sent.same_cursor row.1));
    }
