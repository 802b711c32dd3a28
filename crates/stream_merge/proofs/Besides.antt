-- Beginning a node of the archive behind the kids of the version that come before it.
use Rattle.std.proofs.Common.{◌≡◌, ◌≢◌, ℕ, ◌-◌, ◌≤◌, Bool, List, [], ◌∷◌, ◌++◌, length, Option, Some, None, Result, Ok, Err, IsTrue, refl, sym, ap, subst, ◌∙◌, arith}
use Rattle.std.specs.Option.{option_map, is_some}
use Rattle.std.specs.Result.{OnOk, IsErrAnd}
use Rattle.std.proofs.lemmas.List.{append-nil}
use Rattle.keyed_tree.specs.Data.{PlainLabel, PlainKeyed}
use Rattle.keyed_tree.specs.Kids.{kid_at}
use Rattle.archive_tree.specs.Data.{Stamp}
use Rattle.nested_merge.specs.Below.{is_stamp_below}
use Rattle.nested_merge.specs.Merged.{below, above}
use Rattle.record_format.specs.Nodes.{set_in}
use Rattle.record_format.specs.Spelling.{rec_bytes}
use Rattle.record_parts.specs.Shapes.{FitsLabel}
use Rattle.record_writer.specs.Calls.{after, all_appended}
use Rattle.record_writer.specs.Data.{PlainWriter, OpenInner, WriterCall}
use Rattle.record_writer.specs.Walks.{row_calls}
use Rattle.xa_outside.specs.Numbers.{IsMeter, lead}
use Rattle.stream_merge.specs.Beside.{BelowPut, BeganBeside, IsBegun, inherited_with}
use Rattle.stream_merge.specs.Does.{Made, Sends, Sent}
use Rattle.stream_merge.specs.Meets.{call_of, opening_of, turned, rest_of, stamp_beside, calls_beside, Begins}
use Rattle.stream_merge.specs.Passes.{Rests, fault_of}
use Rattle.stream_merge.specs.Short.{IsShortSet, IsShortStamp}
use Rattle.record_copy.specs.State.{State}
use Rattle.stream_merge.specs.View.{PlainInherited}
use Rattle.stream_merge.specs.declared.begin.Kind.{Kind}
use Rattle.stream_merge.specs.declared.begin.Kind.TheVariants.{Inner, Leaf}
use Rattle.stream_merge.specs.declared.fault.MergeFault.{MergeFault}
use Rattle.stream_merge.specs.declared.fault.MergeFault.TheVariants.{Damage, Folder, TooLong, Memory}
use Rattle.stream_merge.proofs.Handed.{at-err}
use Rattle.stream_merge.proofs.Lengths.{Longer, opening_longer}
use Rattle.stream_merge.proofs.Puts.{row-sent}
use Rattle.stream_merge.proofs.Rooms.{went-stop, went-then, went-sent, opening-label, opening-stamp, own-short, turned-short, call-short}
use Rattle.stream_merge.proofs.States.{passes-then, passes-stop, sends-then, sends-fault}

-- ---- a fault between two calls that is neither of the folder nor of the writer

stop-made : (x : List ℕ) (cs : List WriterCall) (s t : State) (e : MergeFault) → e ≢ TooLong → e ≢ Damage → Made x cs s t (Some e)
stop-made x cs s t Damage long damage = absurd (damage refl)
stop-made x cs s t TooLong long damage = absurd (long refl)
stop-made x cs s t Folder long damage = tt
stop-made x cs s t Memory long damage = tt

-- ---- the node is begun

pub call-bytes : (w : PlainWriter) (kind : Kind) (l : PlainLabel) (t : Stamp) (set : List (ℕ × ℕ)) → all_appended w (call_of kind l t set ∷ []) ≡ rec_bytes (opening_of kind l t)
call-bytes w Inner l t set = append-nil (rec_bytes (opening_of Inner l t))
call-bytes w Leaf l t set = append-nil (rec_bytes (opening_of Leaf l t))

-- the stamp that was read takes no more than what is written
opening-paid : {T : Type 0} (r : Result T MergeFault) (s t u : State) (x y : List ℕ) (cs : List WriterCall) (kind : Kind) (l : PlainLabel) (old new : Stamp) (set : List (ℕ × ℕ)) → Longer old new → Sends x cs s t None
    → Sends y (call_of kind l new set ∷ []) t u (fault_of r) → OnOk r (lead u.numbers ≤ lead s.numbers - length (rec_bytes (opening_of kind l old)))
opening-paid (Ok v) s t u x y cs kind l old new set le first second =
    let same = ap length (call-bytes t.writer kind l new set) in
    let more = opening_longer kind l old new le in
    let a = first.paid in
    let b = second.paid in
    omega (arith, same, more, a, b)
opening-paid (Err e) s t u x y cs kind l old new set le first second = tt

pub begins : (kind : Kind) (v w : PlainWriter) (l : PlainLabel) (t : Stamp) (set : List (ℕ × ℕ)) → Rests v w → Begins kind v (after w (call_of kind l t set))
begins Inner v w l t set h = (let i : OpenInner = record { begin = w.written; set = set; row = w.row } in record { no_leaf = h.no_leaf; opened = i; inners = ap (λ (is : List OpenInner). i ∷ is) h.inners })
begins Leaf v w l t set h = record { leaf = λ e. absurd cc; inners = h.inners }

begins-sent : {T : Type 0} (r : Result T MergeFault) (v : PlainWriter) (t u : State) (y : List ℕ) (kind : Kind) (l : PlainLabel) (stamp : Stamp) (set : List (ℕ × ℕ)) → Rests v t.writer → Sends y (call_of kind l stamp set ∷ []) t u (fault_of r)
    → OnOk r (Begins kind v u.writer)
begins-sent (Ok x) v t u y kind l stamp set rests second = (let b = second.made in subst (λ (w : PlainWriter). Begins kind v w) (sym b.writer) (begins kind v t.writer l stamp set rests))
begins-sent (Err e) v t u y kind l stamp set rests second = tt

-- ---- how it ends, behind the kids that come before the node

-- whether there is a kid with the label
pub has-kid : {X : Type 0} (view : X → PlainKeyed) (o : Option X) (k : Option PlainKeyed) (has : Bool) → option_map view o ≡ k → has ≡ is_some o → has ≡ is_some k
has-kid view None k has e there = there ∙ ap (λ (z : Option PlainKeyed). is_some z) e
has-kid view (Some x) k has e there = there ∙ ap (λ (z : Option PlainKeyed). is_some z) e

-- what is known of the node
pub begun-is : (h : PlainInherited) (l : PlainLabel) (st : Stamp) (cs : List PlainKeyed) (kid : Option PlainKeyed) (rest : List PlainKeyed) (own : PlainInherited) (has : Bool)
    → kid ≡ kid_at l cs → rest ≡ above l cs → has ≡ is_some (kid_at l cs) → own ≡ inherited_with h has st → IsBegun h l st cs kid rest own
begun-is h l st cs kid rest own has same left there is = record { same_kid = same; left = left; inherits = is ∙ ap (λ (z : Bool). inherited_with h z st) there }

module _ (kind : Kind) (h : PlainInherited) (l : PlainLabel) (st : Stamp) (cs : List PlainKeyed) (s t : State) where
  -- the calls that write those kids
  abbrev kids_before : List WriterCall
  kids_before = row_calls h.now (rest_of h.number h.before (below l cs))

  -- the call that begins the node
  abbrev node_begun : List WriterCall
  node_begun = (let stamp = stamp_beside h l st cs in call_of kind l stamp (set_in stamp h.now) ∷ [])

  -- the kids were not all written
  pub kids-fail : {T : Type 0} (r : Result T MergeFault) (e : MergeFault) → IsErrAnd r (λ d. d ≡ e) → BelowPut h l cs s t (Some e) → BeganBeside kind h l st cs s t r
  kids-fail r e is put =
      at-err r e is (λ z. BeganBeside kind h l st cs s t z) (record {
        appended = put.appended;
        passes = put.passes;
        same_gap = put.same_gap;
        paid = tt;
        begins = tt;
        went = λ b room sets kids opens. put.went b room sets kids;
        sends = λ small. sends-fault put.appended s t e kids_before node_begun put.sends;
      })

  -- the stamp was not made
  pub stamp-fails : {T : Type 0} (r : Result T MergeFault) (e : MergeFault) → IsErrAnd r (λ d. d ≡ e) → IsMeter t.numbers → (e ≢ Folder) × (e ≢ TooLong) → (IsTrue (is_stamp_below h.number st) → e ≢ Damage) → BelowPut h l cs s t None
      → BeganBeside kind h l st cs s t r
  stamp-fails r e is meter inside damage put =
      let first = put.sends in
      let passes = (let p = put.passes in passes-stop put.appended 0 0 s t e meter inside.0 p.within p) in
      at-err r e is (λ z. BeganBeside kind h l st cs s t z) (record {
        appended = put.appended;
        passes = passes;
        same_gap = put.same_gap;
        paid = tt;
        begins = tt;
        went = λ b room sets kids opens. went-stop b h.number put.appended s.writer t.writer e inside.1;
        sends = λ small. record { passes = passes; made = stop-made put.appended (calls_beside kind h l st cs) s t e inside.1 (damage small); same_cursor = first.same_cursor; same_gap = put.same_gap; paid = tt };
      })

  -- the node was begun, or was not
  pub node-sent-beside : {T : Type 0} (r : Result T MergeFault) (u : State) (has : Bool) (stamp : Stamp) (own given : PlainInherited) → has ≡ is_some (kid_at l cs) → stamp ≡ turned h.number h.before has st → own ≡ inherited_with h has st → given ≡ own → Longer st stamp
      → FitsLabel l → s.writer.leaf ≡ None → BelowPut h l cs s t None → Sent (call_of kind l stamp given.now ∷ []) t u (fault_of r) → BeganBeside kind h l st cs s u r
  node-sent-beside r u has stamp own given there is owns gives longer fits none put second =
      let first = put.sends in
      let b = second.sends in
      let rests = row-sent s t h.now (rest_of h.number h.before (below l cs)) none (record { appended = put.appended; sends = first; stops = tt }) in
      let turns : turned h.number h.before has st ≡ stamp_beside h l st cs = ap (λ (z : Bool). turned h.number h.before z st) there in
      let sets : given.now ≡ set_in (turned h.number h.before has st) h.now = ap (λ (z : PlainInherited). z.now) (gives ∙ owns) in
      let called : call_of kind l stamp given.now ∷ [] ≡ node_begun = (λ i. call_of kind l (is i) (sets i) ∷ []) ∙ (λ i. call_of kind l (turns i) (set_in (turns i) h.now) ∷ []) in
      let x = put.appended ++ second.appended in
      record {
        appended = x;
        passes = passes-then put.appended second.appended s t u (fault_of r) 0 0 0 (omega arith) first.passes b.passes;
        same_gap = b.same_gap ∙ first.same_gap;
        paid = opening-paid r s t u put.appended second.appended kids_before kind l st stamp given.now longer first b;
        begins = begins-sent r s.writer t u second.appended kind l stamp given.now rests b;
        went = λ c room sets kids opens. (
            let stored = opening-stamp c kind l st opens in
            let mine = own-short c h has st stored sets in
            let set : IsShortSet c h.number given.now = subst (λ (z : PlainInherited). IsShortSet c h.number z.now) (sym (gives ∙ owns)) mine.now in
            let new : IsShortStamp c h.number stamp = subst (λ (z : Stamp). IsShortStamp c h.number z) (sym is) (turned-short c h.number h.before has st stored sets.before) in
            went-then c h.number put.appended second.appended s.writer t.writer u.writer (fault_of r) (put.went c room sets kids)
            (went-sent c h.number (call_of kind l stamp given.now ∷ []) t u (fault_of r) (call-short c h.number kind l stamp given.now (opening-label c kind l st fits opens) new set, tt) second));
        sends = λ small. subst (λ (z : List WriterCall). Sends x (kids_before ++ z) s u (fault_of r)) called (sends-then put.appended second.appended s t u (fault_of r) kids_before (call_of kind l stamp given.now ∷ []) first b);
      }
