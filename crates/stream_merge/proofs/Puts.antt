-- The calls that write what one version alone has.
use Rattle.std.proofs.Common.{map, ◌≡◌, ◌≢◌, ℕ, ◌≤◌, List, [], ◌∷◌, ◌++◌, Option, Some, None, Result, refl, sym, ap, subst, ◌∙◌, arith}
use Rattle.std.specs.Option.{unwrap_or}
use Rattle.std.specs.Result.{OnOk, IsErrAnd}
use Rattle.std.proofs.lemmas.List.{append-nil}
use Rattle.xa_outside.specs.Folder.{Files}
use Rattle.xa_outside.specs.Numbers.{Numbers, IsMeter}
use Rattle.keyed_tree.specs.Data.{PlainKey, PlainLabel, PlainKeyed, inner, leaf, kids_from}
use Rattle.archive_tree.specs.Data.{Stamp, PlainNode, PlainNodes, no_nodes, node}
use Rattle.nested_merge.specs.Merged.{fresh, fresh_row, fresh_onto}
use Rattle.record_format.specs.Nodes.{set_in}
use Rattle.keyed_tree.specs.LentView.{lent_val_view, shown_name}
use Rattle.keyed_tree.specs.declared.lent.LentVal.{LentVal}
use Rattle.keyed_tree.specs.declared.lent.NameView.{NameView}
use Rattle.record_parts.specs.Shown.{named}
use Rattle.record_format.specs.Shapes.{IsShapedNode, AreShapedNodes}
use Rattle.record_parts.specs.Shapes.{IsShapedValue}
use Rattle.record_cursor.specs.Places.{finished}
use Rattle.record_cursor.specs.View.{PlainCursor}
use Rattle.record_writer.specs.Calls.{appended, after, after_all, Fits}
use Rattle.record_writer.specs.Data.{PlainWriter, WriterCall, call_inner, call_leaf, call_alt, call_end_inner, call_end_leaf}
use Rattle.record_writer.specs.Faults.{TooLongUnless, Appends}
use Rattle.record_writer.specs.View.{writer_view}
use Rattle.record_writer.specs.Walks.{node_calls, row_calls}
use Rattle.record_writer.specs.declared.fault.WriteFault.{WriteFault}
use Rattle.record_writer.specs.declared.writer.Writer.{Writer}
use Rattle.record_writer.proofs.WalkLaws.{row-walked, node-walked, between}
use Rattle.stream_merge.specs.Does.{Sent}
use Rattle.stream_merge.specs.Passes.{Rests, Opens, fault_of}
use Rattle.record_copy.specs.State.{State, state}
use Rattle.stream_merge.specs.declared.begin.Kind.{Kind}
use Rattle.stream_merge.specs.declared.fault.MergeFault.{MergeFault}
use Rattle.stream_merge.proofs.Handed.{sent-handed}
use Rattle.stream_merge.proofs.States.{walks-none, passes-none, sent-then, sent-fault, call-sends, written}
use Rattle.record_copy.proofs.ItemKinds.{set-is}
use Rattle.stream_merge.specs.Meets.{call_of}

-- the calls that write these, each with the stamp, under a node that has the set
abbrev pub fresh_calls : List (ℕ × ℕ) → Stamp → List PlainKeyed → List WriterCall
fresh_calls set s cs = row_calls set (fresh_onto s cs no_nodes)

onto : (cs : List PlainKeyed) → fresh_row (kids_from cs) ≡ fresh_onto None cs no_nodes
onto [] = refl
onto (c ∷ cs) = ap (λ (z : PlainNodes). node (fresh None c) z) (onto cs)

-- the set that a node with this stamp has
pub set-of : (stored s : Stamp) (parent set : List (ℕ × ℕ)) → stored ≡ s → set ≡ unwrap_or stored parent → set ≡ set_in s parent
set-of stored s parent set same is = is ∙ sym (set-is stored parent) ∙ ap (λ (z : Stamp). set_in z parent) same

-- the call that begins it
pub stored-call : (kind : Kind) (l : PlainLabel) (stored s : Stamp) (parent set : List (ℕ × ℕ)) → stored ≡ s → set ≡ unwrap_or stored parent → call_of kind l s (set_in s parent) ∷ [] ≡ call_of kind l stored set ∷ []
stored-call kind l stored s parent set same is = ap (λ (z : Stamp). call_of kind l z (set_in s parent) ∷ []) (sym same) ∙ ap (λ (z : List (ℕ × ℕ)). call_of kind l stored z ∷ []) (sym (set-of stored s parent set same is))

-- the call that begins a node of this kind
pub call-is : (kind k : Kind) (l : PlainLabel) (s : Stamp) (set : List (ℕ × ℕ)) → kind ≡ k → call_of kind l s set ∷ [] ≡ call_of k l s set ∷ []
call-is kind k l s set is = ap (λ (z : Kind). call_of z l s set ∷ []) is

inner-calls : (parent set : List (ℕ × ℕ)) (s : Stamp) (k : PlainKeyed) (l : PlainLabel) (cs : List PlainKeyed) → k ≡ inner l (kids_from cs) → set ≡ unwrap_or s parent
    → node_calls parent (fresh s k) ≡ call_inner l s set ∷ (fresh_calls set None cs ++ call_end_inner ∷ [])
inner-calls parent set s k l cs e is =
    let same : set_in s parent ≡ set = set-is s parent ∙ sym is in
    ap (λ (z : PlainKeyed). node_calls parent (fresh s z)) e
    ∙ ap (λ (z : PlainNodes). call_inner l s (set_in s parent) ∷ (row_calls (set_in s parent) z ++ call_end_inner ∷ [])) (onto cs)
    ∙ ap (λ (z : List (ℕ × ℕ)). call_inner l s z ∷ (fresh_calls z None cs ++ call_end_inner ∷ [])) same

leaf-calls : (parent set : List (ℕ × ℕ)) (s : Stamp) (k : PlainKeyed) (l : PlainLabel) (b : PlainKey) → k ≡ leaf l b → set ≡ unwrap_or s parent
    → node_calls parent (fresh s k) ≡ call_leaf l s set ∷ (call_alt None b ∷ (call_end_leaf ∷ []))
leaf-calls parent set s k l b e is =
    let same : set_in s parent ≡ set = set-is s parent ∙ sym is in
    ap (λ (z : PlainKeyed). node_calls parent (fresh s z)) e
    ∙ ap (λ (z : List (ℕ × ℕ)). call_leaf l s z ∷ (call_alt None b ∷ (call_end_leaf ∷ []))) same

-- ---- what the calls need of a node

pub shaped-kids : (k : PlainKeyed) (l : PlainLabel) (cs : List PlainKeyed) → k ≡ inner l (kids_from cs) → IsShapedNode (fresh None k) → AreShapedNodes (fresh_row (kids_from cs))
shaped-kids k l cs is h = (let parts = subst (λ (z : PlainKeyed). IsShapedNode (fresh None z)) is h in parts.2)

pub shaped-value : (k : PlainKeyed) (l : PlainLabel) (b : PlainKey) → k ≡ leaf l b → IsShapedNode (fresh None k) → IsShapedValue b
shaped-value k l b is h = (let parts = subst (λ (z : PlainKeyed). IsShapedNode (fresh None z)) is h in parts.2.0.1)

-- ---- a row, kid by kid

-- the next kid and those behind it
pub calls-left : (set : List (ℕ × ℕ)) (s : Stamp) (cs rest : List PlainKeyed) (k : PlainKeyed) → cs ≡ k ∷ rest → fresh_calls set s cs ≡ node_calls set (fresh s k) ++ fresh_calls set s rest
calls-left set s cs rest k is = ap (fresh_calls set s) is

-- one kid alone
pub calls-alone : (set : List (ℕ × ℕ)) (s : Stamp) (k : PlainKeyed) → fresh_calls set s (k ∷ []) ≡ node_calls set (fresh s k)
calls-alone set s k = append-nil (node_calls set (fresh s k))

-- ---- what stands begun behind a row

row-rests : (w : PlainWriter) (set : List (ℕ × ℕ)) (ks : PlainNodes) → w.leaf ≡ None → Rests w (after_all w (row_calls set ks))
row-rests w set ks h =
    let e : w ≡ between w.written w.row w.inners = λ i. record { written = w.written; row = w.row; inners = w.inners; leaf = h i } in
    let walked = row-walked w.written w.row w.inners set ks in
    let is : after_all w (row_calls set ks) ≡ _ = ap (λ (v : PlainWriter). after_all v (row_calls set ks)) e ∙ walked.leaves in
    record { no_leaf = ap (λ (v : PlainWriter). v.leaf) is; inners = ap (λ (v : PlainWriter). v.inners) is }

node-rests : (w : PlainWriter) (set : List (ℕ × ℕ)) (k : PlainNode) → w.leaf ≡ None → Rests w (after_all w (node_calls set k))
node-rests w set k h =
    let e : w ≡ between w.written w.row w.inners = λ i. record { written = w.written; row = w.row; inners = w.inners; leaf = h i } in
    let walked = node-walked w.written w.row w.inners set k in
    let is : after_all w (node_calls set k) ≡ _ = ap (λ (v : PlainWriter). after_all v (node_calls set k)) e ∙ walked.leaves in
    record { no_leaf = ap (λ (v : PlainWriter). v.leaf) is; inners = ap (λ (v : PlainWriter). v.inners) is }

-- ---- one part behind another

pub sent-as : (s t : State) (e : Option MergeFault) (cs ds : List WriterCall) → ds ≡ cs → Sent cs s t e → Sent ds s t e
sent-as s t e cs ds is h = subst (λ (z : List WriterCall). Sent z s t e) (sym is) h

pub sent-nothing : (s : State) → IsMeter s.numbers → s.cursor.at ≤ s.cursor.length → Sent [] s s None
sent-nothing s meter within = record {
  appended = [];
  sends = record { passes = passes-none s None meter within (λ e. absurd cc); made = walks-none s; same_cursor = refl; same_gap = refl; paid = omega arith };
  stops = tt;
}

-- the label of a kid, given by its name and its key values
pub label-given : (n : NameView) (ks : List LentVal) (l : PlainLabel) → shown_name n ≡ l.name → map lent_val_view ks ≡ l.keys → named n ks ≡ l
label-given n ks l e f = λ i. record { name = e i; keys = f i }

-- one call of the writer
pub call-sent : {S : Type 0} (files : S → Option Files) (draft : S → Option (List ℕ)) (numbers : S → Numbers) (faults : S → ℕ) → ((x : S) → IsMeter (numbers x)) → (c : PlainCursor) → c.at ≤ c.length
    → (old new : S) (v w : Writer) (call : WriterCall) (r : Result (Unit {0}) WriteFault)
    → Appends files draft numbers faults old new (appended (writer_view v) call) r → OnOk r (writer_view w ≡ after (writer_view v) call) → TooLongUnless (Fits (writer_view v) call) r
    → Sent (call ∷ []) (state files draft numbers faults old c v) (state files draft numbers faults new c w) (written r)
call-sent files draft numbers faults metered c within old new v w call r = call-sends files draft numbers faults old new c v w call r (metered old) within

-- an inner node is begun, its kids are put, and it is closed
module _ (parent set : List (ℕ × ℕ)) (s : Stamp) (k : PlainKeyed) (l : PlainLabel) (cs : List PlainKeyed) (is : k ≡ inner l (kids_from cs)) (same : set ≡ unwrap_or s parent) (t u : State) where
  abbrev inner_begun : List WriterCall
  inner_begun = call_inner l s set ∷ []

  abbrev inner_kids : List WriterCall
  inner_kids = fresh_calls set None cs

  abbrev inner_whole : List WriterCall
  inner_whole = node_calls parent (fresh s k)

  inner-is : inner_whole ≡ inner_begun ++ (inner_kids ++ call_end_inner ∷ [])
  inner-is = inner-calls parent set s k l cs is same

  inner-sent : (v : State) (e : Option MergeFault) → Sent (inner_begun ++ (inner_kids ++ call_end_inner ∷ [])) t v e → Sent inner_whole t v e
  inner-sent v e a = sent-as t v e (inner_begun ++ (inner_kids ++ call_end_inner ∷ [])) inner_whole inner-is a

  pub inner-fails : {T : Type 0} (r : Result T MergeFault) (e : MergeFault) → IsErrAnd r (λ d. d ≡ e) → Sent inner_begun t u (Some e) → Sent inner_whole t u (fault_of r)
  inner-fails r e is a = sent-handed r e is inner_whole t u (inner-sent u (Some e) (sent-fault t u e inner_begun (inner_kids ++ call_end_inner ∷ []) a))

  pub inner-kids-fail : {T : Type 0} (r : Result T MergeFault) (e : MergeFault) → IsErrAnd r (λ d. d ≡ e) → (v : State) → Sent inner_begun t u None → Sent inner_kids u v (Some e) → Sent inner_whole t v (fault_of r)
  inner-kids-fail r e is v a b =
      sent-handed r e is inner_whole t v (inner-sent v (Some e) (sent-then t u v (Some e) inner_begun (inner_kids ++ call_end_inner ∷ []) a (sent-fault u v e inner_kids (call_end_inner ∷ []) b)))

  pub inner-put : (v w : State) (e : Option MergeFault) → Sent inner_begun t u None → Sent inner_kids u v None → Sent (call_end_inner ∷ []) v w e → Sent inner_whole t w e
  inner-put v w e a b c = inner-sent w e (sent-then t u w e inner_begun (inner_kids ++ call_end_inner ∷ []) a (sent-then u v w e inner_kids (call_end_inner ∷ []) b c))

-- a leaf is begun, its alternative is written, and it is closed
module _ (parent set : List (ℕ × ℕ)) (s : Stamp) (k : PlainKeyed) (l : PlainLabel) (body : PlainKey) (is : k ≡ leaf l body) (same : set ≡ unwrap_or s parent) (t u : State) where
  abbrev leaf_begun : List WriterCall
  leaf_begun = call_leaf l s set ∷ []

  abbrev leaf_alt : List WriterCall
  leaf_alt = call_alt None body ∷ []

  abbrev leaf_whole : List WriterCall
  leaf_whole = node_calls parent (fresh s k)

  leaf-is : leaf_whole ≡ leaf_begun ++ (leaf_alt ++ call_end_leaf ∷ [])
  leaf-is = leaf-calls parent set s k l body is same

  leaf-sent : (v : State) (e : Option MergeFault) → Sent (leaf_begun ++ (leaf_alt ++ call_end_leaf ∷ [])) t v e → Sent leaf_whole t v e
  leaf-sent v e a = sent-as t v e (leaf_begun ++ (leaf_alt ++ call_end_leaf ∷ [])) leaf_whole leaf-is a

  pub leaf-fails : {T : Type 0} (r : Result T MergeFault) (e : MergeFault) → IsErrAnd r (λ d. d ≡ e) → Sent leaf_begun t u (Some e) → Sent leaf_whole t u (fault_of r)
  leaf-fails r e is a = sent-handed r e is leaf_whole t u (leaf-sent u (Some e) (sent-fault t u e leaf_begun (leaf_alt ++ call_end_leaf ∷ []) a))

  pub leaf-alt-fails : {T : Type 0} (r : Result T MergeFault) (e : MergeFault) → IsErrAnd r (λ d. d ≡ e) → (v : State) → Sent leaf_begun t u None → Sent leaf_alt u v (Some e) → Sent leaf_whole t v (fault_of r)
  leaf-alt-fails r e is v a b =
      sent-handed r e is leaf_whole t v (leaf-sent v (Some e) (sent-then t u v (Some e) leaf_begun (leaf_alt ++ call_end_leaf ∷ []) a (sent-fault u v e leaf_alt (call_end_leaf ∷ []) b)))

  pub leaf-put : (v w : State) (e : Option MergeFault) → Sent leaf_begun t u None → Sent leaf_alt u v None → Sent (call_end_leaf ∷ []) v w e → Sent leaf_whole t w e
  leaf-put v w e a b c = leaf-sent w e (sent-then t u w e leaf_begun (leaf_alt ++ call_end_leaf ∷ []) a (sent-then u v w e leaf_alt (call_end_leaf ∷ []) b c))

-- ---- writers behind what was sent

-- a cursor before nothing
abbrev pub nowhere : PlainCursor
nowhere = record { name = []; length = 0; standing = finished; at = 0 }

pub row-sent : (s t : State) (set : List (ℕ × ℕ)) (ks : PlainNodes) → s.writer.leaf ≡ None → Sent (row_calls set ks) s t None → Rests s.writer t.writer
row-sent s t set ks none h = (let sends = h.sends in let made = sends.made in subst (λ (w : PlainWriter). Rests s.writer w) (sym made.writer) (row-rests s.writer set ks none))

pub node-sent : (s t : State) (set : List (ℕ × ℕ)) (k : PlainNode) → s.writer.leaf ≡ None → Sent (node_calls set k) s t None → Rests s.writer t.writer
node-sent s t set k none h = (let sends = h.sends in let made = sends.made in subst (λ (w : PlainWriter). Rests s.writer w) (sym made.writer) (node-rests s.writer set k none))

begun-inner : (v : PlainWriter) (l : PlainLabel) (s : Stamp) (set : List (ℕ × ℕ)) → v.leaf ≡ None → Opens v (after v (call_inner l s set))
begun-inner v l s set none = record { no_leaf = none; opened = record { begin = v.written; set = set; row = v.row }; inners = refl }

still-open : (v w u : PlainWriter) → Opens v w → Rests w u → Opens v u
still-open v w u h g = record { no_leaf = g.no_leaf; opened = h.opened; inners = g.inners ∙ h.inners }

-- where one call was sent, it was made
pub one-sent : (s t : State) (call : WriterCall) → Sent (call ∷ []) s t None → t.writer ≡ after s.writer call
one-sent s t call h = (let sends = h.sends in let made = sends.made in made.writer)

pub opened : (s t : State) (l : PlainLabel) (stamp : Stamp) (set : List (ℕ × ℕ)) → s.writer.leaf ≡ None → Sent (call_inner l stamp set ∷ []) s t None → Opens s.writer t.writer
opened s t l stamp set none h = subst (λ (w : PlainWriter). Opens s.writer w) (sym (one-sent s t (call_inner l stamp set) h)) (begun-inner s.writer l stamp set none)

-- an inner node stands begun behind its kids
pub inside-open : (r s t : State) (l : PlainLabel) (stamp : Stamp) (set : List (ℕ × ℕ)) (cs : List PlainKeyed) → r.writer.leaf ≡ None → Sent (call_inner l stamp set ∷ []) r s None → Sent (fresh_calls set None cs) s t None → Opens r.writer t.writer
inside-open r s t l stamp set cs none first h =
    let begun = opened r s l stamp set none first in
    still-open r.writer s.writer t.writer begun (row-sent s t set (fresh_onto None cs no_nodes) begun.no_leaf h)

pub is-open : (v w : PlainWriter) → Opens v w → w.inners ≢ []
is-open v w h e = (let d = sym e ∙ h.inners in absurd cc)

-- a leaf stands begun, and does behind an alternative
pub leaf-stands : (s t : State) (l : PlainLabel) (stamp : Stamp) (set : List (ℕ × ℕ)) → Sent (call_leaf l stamp set ∷ []) s t None → t.writer.leaf ≢ None
leaf-stands s t l stamp set h none = (let d = sym none ∙ ap (λ (x : PlainWriter). x.leaf) (one-sent s t (call_leaf l stamp set) h) in absurd cc)

pub leaf-stays : (s t : State) (stamp : Stamp) (b : PlainKey) → Sent (call_alt stamp b ∷ []) s t None → s.writer.leaf ≢ None → t.writer.leaf ≢ None
leaf-stays s t stamp b h stands none = stands (sym (ap (λ (x : PlainWriter). x.leaf) (one-sent s t (call_alt stamp b) h)) ∙ none)
