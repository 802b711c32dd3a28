-- Writing the kids that come before a label, one after the other.
use Rattle.std.proofs.Common.{◌≡◌, ◌<◌, ◌≤◌, List, [], ◌∷◌, ◌++◌, length, Option, Some, None, Result, IsTrue, refl, sym, ap, subst, ◌∙◌, arith}
use Rattle.std.specs.Result.{IsErrAnd}
use Rattle.std.specs.declared.cmp.Ordering.TheVariants.{Less, Equal, Greater}
use Rattle.std.proofs.lemmas.List.{append-nil}
use Rattle.xa_outside.specs.Numbers.{IsMeter}
use Rattle.keyed_tree.specs.Data.{PlainLabel, PlainKeyed, kids_from, label_of}
use Rattle.keyed_tree.specs.Kids.{ascend, kid_at}
use Rattle.keyed_tree.specs.Order.{label_cmp}
use Rattle.nested_merge.specs.Merged.{fresh, below, above}
use Rattle.nested_merge.proofs.Rows.{ascend_tail}
use Rattle.record_cursor.specs.View.{PlainCursor}
use Rattle.record_format.specs.Shapes.{IsShapedNode}
use Rattle.record_writer.specs.Data.{WriterCall}
use Rattle.record_writer.specs.Walks.{row_calls}
use Rattle.stream_merge.specs.Beside.{BelowPut}
use Rattle.stream_merge.specs.Does.{Sends, Sent}
use Rattle.stream_merge.specs.Meets.{rest_of}
use Rattle.stream_merge.specs.Passes.{fault_of}
use Rattle.record_copy.specs.State.{State}
use Rattle.stream_merge.specs.View.{PlainInherited}
use Rattle.stream_merge.specs.declared.fault.MergeFault.{MergeFault}
use Rattle.stream_merge.proofs.Handed.{at-err}
use Rattle.stream_merge.proofs.Rooms.{went-none, went-then, went-sent, rest-calls}
use Rattle.stream_merge.proofs.States.{passes-none, passes-then, sends-fault, sends-then, walks-none}
use Rattle.stream_merge.proofs.Taken.{Splits, splits_none, splits_on, splits_at, splits_before}
use Rattle.stream_merge.proofs.Weaving.{AreShapedKids}

-- ---- the kids that are left

module _ (h : PlainInherited) (l : PlainLabel) where
  abbrev low_calls : List PlainKeyed → List WriterCall
  low_calls cs = row_calls h.now (rest_of h.number h.before (below l cs))

  abbrev kid_calls : PlainKeyed → List WriterCall
  kid_calls c = row_calls h.now (rest_of h.number h.before (c ∷ []))

  calls-on : (c : PlainKeyed) (cs : List PlainKeyed) → label_cmp l (label_of c) ≡ Greater → low_calls (c ∷ cs) ≡ kid_calls c ++ low_calls cs
  calls-on c cs low =
      let splits = splits_on l c cs low in
      ap (λ (z : List PlainKeyed). row_calls h.now (rest_of h.number h.before z)) splits.is_below
      ∙ ap (λ (z : List WriterCall). z ++ low_calls cs) (sym (append-nil _))

  -- the next kid is written, and then those that are left
  put-on : (c : PlainKeyed) (cs : List PlainKeyed) (s t u : State) (e : Option MergeFault) → label_cmp l (label_of c) ≡ Greater → Sent (kid_calls c) s t None → BelowPut h l cs t u e → BelowPut h l (c ∷ cs) s u e
  put-on c cs s t u e low first rest =
      let a = first.sends in
      let x = first.appended in
      record {
        appended = x ++ rest.appended;
        passes = passes-then x rest.appended s t u e 0 0 0 (omega arith) a.passes rest.passes;
        same_gap = rest.same_gap ∙ a.same_gap;
        went = λ b room sets kids. went-then b h.number x rest.appended s.writer t.writer u.writer e (went-sent b h.number (kid_calls c) s t None (rest-calls b h (c ∷ []) room sets (kids.0, tt)) first) (rest.went b room sets kids.1);
        sends = subst (λ (z : List WriterCall). Sends (x ++ rest.appended) z s u e) (sym (calls-on c cs low)) (sends-then x rest.appended s t u e (kid_calls c) (low_calls cs) a rest.sends);
      }

  -- the next kid could not be written
  put-fails : (c : PlainKeyed) (cs : List PlainKeyed) (s t : State) (f : MergeFault) → label_cmp l (label_of c) ≡ Greater → Sent (kid_calls c) s t (Some f) → BelowPut h l (c ∷ cs) s t (Some f)
  put-fails c cs s t f low sent =
      let a = sent.sends in
      let x = sent.appended in
      record {
        appended = x;
        passes = a.passes;
        same_gap = a.same_gap;
        went = λ b room sets kids. went-sent b h.number (kid_calls c) s t (Some f) (rest-calls b h (c ∷ []) room sets (kids.0, tt)) sent;
        sends = subst (λ (z : List WriterCall). Sends x z s t (Some f)) (sym (calls-on c cs low)) (sends-fault x s t f (kid_calls c) (low_calls cs) a);
      }

  -- no kid comes before the label
  put-none : (cs : List PlainKeyed) (s : State) → below l cs ≡ [] → IsMeter s.numbers → s.cursor.at ≤ s.cursor.length → BelowPut h l cs s s None
  put-none cs s none meter within =
      let passes = passes-none s None meter within (λ e. absurd cc) in
      record {
        appended = [];
        passes = passes;
        same_gap = refl;
        went = λ b room sets kids. went-none b h.number s.writer s.writer refl;
        sends = subst (λ (z : List PlainKeyed). Sends [] (row_calls h.now (rest_of h.number h.before z)) s s None) (sym none) (record { passes = passes; made = walks-none s; same_cursor = refl; same_gap = refl; paid = omega arith });
      }

  -- Some kids were written: what is made of those that are left is made of all.
  pub record PutOn (cs left : List PlainKeyed) (old now : PlainCursor → State) : Type 0 where
    pub ascending : IsTrue (ascend (kids_from left))
    pub shaped : AreShapedKids left
    pub same_kid : kid_at l cs ≡ kid_at l left
    pub same_above : above l cs ≡ above l left
    pub rest : (c : PlainCursor) → c.at ≤ c.length → (u : State) (e : Option MergeFault) → BelowPut h l left (now c) u e → BelowPut h l cs (old c) u e

  pub puts-start : (cs : List PlainKeyed) (old : PlainCursor → State) → IsTrue (ascend (kids_from cs)) → AreShapedKids cs → PutOn cs cs old old
  puts-start cs old up shaped = record { ascending = up; shaped = shaped; same_kid = refl; same_above = refl; rest = λ c within u e b. b }

  module _ {cs left : List PlainKeyed} {old now : PlainCursor → State} (c : PlainKeyed) (rest : List PlainKeyed) (is : left ≡ c ∷ rest) (on : PutOn cs left old now) where
    here : PutOn cs (c ∷ rest) old now
    here = subst (λ (xs : List PlainKeyed). PutOn cs xs old now) is on

    pub puts-more : (next : PlainCursor → State) → label_cmp l (label_of c) ≡ Greater → ((p : PlainCursor) → p.at ≤ p.length → Sent (kid_calls c) (now p) (next p) None) → PutOn cs rest old next
    puts-more next low sent =
        let splits = splits_on l c rest low in
        let shaped = here.shaped in
        record {
          ascending = ascend_tail c rest here.ascending;
          shaped = shaped.1;
          same_kid = here.same_kid ∙ splits.is_kid;
          same_above = here.same_above ∙ splits.is_above;
          rest = λ p within u e b. here.rest p within u e (put-on c rest (now p) (next p) u e low (sent p within) b);
        }

    pub puts-fail : {T : Type 0} (r : Result T MergeFault) (f : MergeFault) → IsErrAnd r (λ d. d ≡ f) → (p : PlainCursor) → p.at ≤ p.length → (u : State) → label_cmp l (label_of c) ≡ Greater → Sent (kid_calls c) (now p) u (Some f) → BelowPut h l cs (old p) u (fault_of r)
    puts-fail r f is p within u low sent = at-err r f is (λ z. BelowPut h l cs (old p) u (fault_of z)) (here.rest p within u (Some f) (put-fails c rest (now p) u f low sent))

    -- the next kid is within the bounds of the format
    pub puts-shaped : IsShapedNode (fresh None c)
    puts-shaped = (let shaped = here.shaped in shaped.0)

    pub puts-fewer : length rest < length left
    puts-fewer = (let fewer = ap length is in omega (arith, fewer))

    pub puts-at : label_cmp l (label_of c) ≡ Equal → Splits l left [] (Some c) rest
    puts-at even = subst (λ (xs : List PlainKeyed). Splits l xs [] (Some c) rest) (sym is) (splits_at l c rest even here.ascending)

    pub puts-before : label_cmp l (label_of c) ≡ Less → Splits l left [] None left
    puts-before high = subst (λ (xs : List PlainKeyed). Splits l xs [] None xs) (sym is) (splits_before l c rest high here.ascending)

  pub puts-end : (left : List PlainKeyed) → left ≡ [] → Splits l left [] None left
  puts-end left is = subst (λ (xs : List PlainKeyed). Splits l xs [] None xs) (sym is) (splits_none l)

  module _ {cs left high : List PlainKeyed} {kid : Option PlainKeyed} {old now : PlainCursor → State} (on : PutOn cs left old now) (splits : Splits l left [] kid high) where
    pub puts-done : (p : PlainCursor) → p.at ≤ p.length → IsMeter (now p).numbers → (now p).cursor ≡ p → BelowPut h l cs (old p) (now p) None
    puts-done p within meter same = on.rest p within (now p) None (put-none left (now p) splits.is_below meter (subst (λ (z : PlainCursor). z.at ≤ z.length) (sym same) within))

    pub puts-kid : kid ≡ kid_at l cs
    puts-kid = sym (on.same_kid ∙ splits.is_kid)

    pub puts-above : high ≡ above l cs
    puts-above = sym (on.same_above ∙ splits.is_above)
