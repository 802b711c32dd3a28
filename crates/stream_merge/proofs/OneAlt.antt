-- Merging one alternative of a leaf.
use Rattle.std.proofs.Common.{◌≡◌, ◌≢◌, ℕ, ◌≤◌, ◌<◌, ◌↔◌, Bool, true, false, IsTrue, ◌+◌, List, [], ◌∷◌, ◌++◌, length, Option, Some, None, Result, Ok, Err, IfOk, refl, sym, ap, subst, ◌∙◌, arith}
use Rattle.std.specs.Ordering.{is_eq}
use Rattle.std.specs.Result.{IsErrAnd}
use Rattle.std.proofs.lemmas.List.{append-nil}
use Rattle.xa_outside.specs.Folder.{Files}
use Rattle.xa_fields.specs.Spelling.{u64_bytes}
use Rattle.keyed_tree.specs.Data.{PlainKey}
use Rattle.keyed_tree.specs.Laws.{key_cmp-is_eq}
use Rattle.keyed_tree.specs.Order.{key_cmp}
use Rattle.archive_tree.specs.Data.{Stamp, PlainAlt}
use Rattle.nested_merge.specs.Below.{is_stamp_below}
use Rattle.nested_merge.specs.Merged.{merged_alt}
use Rattle.record_format.specs.Data.{alt_rec}
use Rattle.record_format.specs.Spelling.{rec_bytes, body_bytes}
use Rattle.record_cursor.specs.Items.{PlainItem, alt_item, leaf_end_item}
use Rattle.record_cursor.specs.Moves.{Goes, Comes}
use Rattle.record_cursor.specs.Next.{read_for, size_of}
use Rattle.record_cursor.specs.Places.{Standing}
use Rattle.record_cursor.specs.View.{PlainCursor, shown_item}
use Rattle.record_cursor.specs.declared.fault.CursorFault.{CursorFault}
use Rattle.record_cursor.specs.declared.item.Item.{Item}
use Rattle.record_cursor.specs.declared.item.Item.TheVariants.{Alt, LeafEnd}
use Rattle.record_parts.specs.Shapes.{FitsValue}
use Rattle.record_parts.specs.declared.views.BodyView.{BodyView}
use Rattle.record_parts.specs.declared.views.StampView.{StampView}
use Rattle.record_writer.specs.Calls.{after}
use Rattle.record_writer.specs.Data.{PlainWriter, WriterCall, call_alt}
use Rattle.record_writer.specs.Walks.{alt_calls}
use Rattle.stream_merge.specs.Does.{Sends, Sent, Does}
use Rattle.stream_merge.specs.Items.{IsWithin}
use Rattle.stream_merge.specs.LeafMerged.{AltMerged}
use Rattle.stream_merge.specs.Meets.{HasLeaf, turned}
use Rattle.stream_merge.specs.Passes.{Passes, fault_of, of_cursor}
use Rattle.stream_merge.specs.Short.{IsShortStamp, AreShortSets, IsShortCall}
use Rattle.record_copy.specs.State.{State}
use Rattle.stream_merge.specs.View.{PlainInherited}
use Rattle.stream_merge.specs.declared.fault.MergeFault.{MergeFault}
use Rattle.stream_merge.specs.declared.fault.MergeFault.TheVariants.{Damage, Folder, TooLong, Memory}
use Rattle.stream_merge.proofs.Copies.{not-end}
use Rattle.stream_merge.proofs.Handed.{at-err}
use Rattle.stream_merge.proofs.Lengths.{Longer, alt_longer}
use Rattle.stream_merge.proofs.Rooms.{went-none, went-read, went-stop, went-call, alt-parts, turned-short}
use Rattle.stream_merge.proofs.States.{Takes, Nexts, Stays, gave, gave-takes, gave-stop, gave-sent, failed, failed-does, takes-sends, takes-only}
use Rattle.record_copy.proofs.ItemKinds.{not-alt}

same-parts : (s t : Stamp) (a b : PlainKey) → alt_item s a ≡ alt_item t b → (s ≡ t) × (a ≡ b)
same-parts s t a b e = (cc, cc)

no-end : (s : Stamp) (a : PlainKey) → ¬ (alt_item s a ≡ leaf_end_item)
no-end s a e = cc

iff-eq : (x y : Bool) → (IsTrue x ↔ IsTrue y) → x ≡ y
iff-eq true true h = refl
iff-eq true false h = sym (h.0 refl)
iff-eq false true h = h.1 refl
iff-eq false false h = refl

-- a fault behind an item that was given
stop-does : (w : ℕ) (i : PlainItem) (is next : List PlainItem) (s t : State) (item : PlainItem) (cs : List WriterCall) (f : MergeFault) → f ≢ Folder → f ≢ TooLong → f ≢ Damage → Takes w i is s t item → Does [] w cs next s t (Some f)
stop-does w i is next s t item cs Damage folder long damage h = absurd (damage refl)
stop-does w i is next s t item cs Folder folder long damage h = absurd (folder refl)
stop-does w i is next s t item cs TooLong folder long damage h = absurd (long refl)
stop-does w i is next s t item cs Memory folder long damage h = record { made = tt; follows = tt; gap = h.gap }

-- ---- the cursor goes on

record-some : (n : ℕ) (body : List ℕ) → 1 ≤ length (n ∷ (u64_bytes (length body) ++ body))
record-some n body = omega arith

onward-alt : (told : Option Files) (a b : PlainCursor) (item : Item) (s : Stamp) (k : PlainKey) → shown_item item ≡ alt_item s k → Goes told a item b → a.at < b.at
onward-alt told a b item s k e h =
    let moved = h.moved in
    let size = ap (size_of a.standing) e in
    let some = record-some 3 (body_bytes (alt_rec s k)) in
    omega (arith, moved, size, some)

onward-end : (told : Option Files) (a b : PlainCursor) (item : Item) → shown_item item ≡ leaf_end_item → Goes told a item b → a.at < b.at
onward-end told a b item e h =
    let moved = h.moved in
    let size = ap (size_of a.standing) e in
    let nine = end-size a.standing in
    omega (arith, moved, size, nine)
  where
    end-size : (s : Standing) → size_of s leaf_end_item ≡ 9
    end-size s = refl

end-passes : (s t : State) (item : Item) → shown_item item ≡ leaf_end_item → Nexts s t item → Passes [] 9 s t None
end-passes s t item e h = subst (λ (i : PlainItem). Passes [] (read_for s.cursor.standing i) s t None) e (gave s t item h)

-- the alternative that was read takes no more than the one that is written
sent-passes : (x : List ℕ) (s t u : State) (item : Item) (old new : Stamp) (b : PlainKey) (e : Option MergeFault) → shown_item item ≡ alt_item old b → Longer old new → Nexts s t item → Sends x (call_alt new b ∷ []) t u e → Passes x 0 s u e
sent-passes x s t u item old new b e shown le read sent =
    let size = ap (read_for s.cursor.standing) shown in
    let more = alt_longer old new b le in
    let all = ap length (append-nil (rec_bytes (alt_rec new b))) in
    gave-sent x s t u item (call_alt new b ∷ []) e (omega (arith, size, more, all)) read sent

-- a leaf stays begun behind an alternative
alt-begun : (v w u : PlainWriter) (s : Stamp) (b : PlainKey) → v.leaf ≢ None → w ≡ v → u ≡ after w (call_alt s b) → HasLeaf v u
alt-begun v w u s b h same e = subst (λ (x : PlainWriter). HasLeaf v x) (sym (e ∙ ap (λ (x : PlainWriter). after x (call_alt s b)) same)) (record { leaf = h; inners = refl })

module _ (own : PlainInherited) (b : PlainKey) where
  abbrev merged_call : PlainAlt → List WriterCall
  merged_call x = alt_calls (merged_alt own.number own.before b x ∷ [])

  pub alt-handed : {s t : State} {r : Result (Option Bool) MergeFault} {f : MergeFault} → IsErrAnd r (λ d. d ≡ f) → AltMerged own b s t (Err f) → AltMerged own b s t r
  alt-handed {s = s} {t = t} {r = r} {f = f} is h = at-err r f is (λ z. AltMerged own b s t z) h

  -- the cursor fails
  pub alt-failed : {s t : State} {e : CursorFault} → s.cursor.at ≤ s.cursor.length → Stays s t e → AltMerged own b s t (Err (of_cursor e))
  alt-failed {s = s} {t = t} {e = e} within h = record {
    appended = [];
    passes = failed 0 s t e within h;
    begun = tt;
    onward = tt;
    went = λ m file sets. went-read m own.number [] s.writer t.writer e;
    alternative = λ w x next small comes below. (tt, failed-does [] w (alt_item x.stamp x.body ∷ next) s t e (merged_call x) next h (record { item = alt_item x.stamp x.body; behind = next; stand = refl; small = small }) comes);
    end_taken = λ w next small comes. (tt, failed-does [] w (leaf_end_item ∷ next) s t e [] next h (record { item = leaf_end_item; behind = next; stand = refl; small = small }) comes);
  }

  -- an item is given where another comes
  no-alt : (z : List ℕ) (s t u : State) (item : Item) (r : Result (Option Bool) MergeFault) → ((st : Stamp) (k : PlainKey) → shown_item item ≢ alt_item st k) → Nexts s t item
      → (w : ℕ) (x : PlainAlt) (next : List PlainItem) → IsWithin w (alt_item x.stamp x.body) → Comes s.files s.cursor (alt_item x.stamp x.body ∷ next)
      → IfOk r (λ (o : Option Bool). o ≡ Some (is_eq (key_cmp x.body b))) × Does z w (merged_call x) next s u (fault_of r)
  no-alt z s t u item r not read w x next small comes =
      let k = gave-takes w (alt_item x.stamp x.body) next s t item read small comes in
      absurd (not x.stamp x.body k.given)

  no-leaf-end : (z : List ℕ) (s t u : State) (item : Item) (r : Result (Option Bool) MergeFault) → shown_item item ≢ leaf_end_item → Nexts s t item
      → (w : ℕ) (next : List PlainItem) → IsWithin w leaf_end_item → Comes s.files s.cursor (leaf_end_item ∷ next) → IfOk r (λ (o : Option Bool). o ≡ None) × Does z w [] next s u (fault_of r)
  no-leaf-end z s t u item r not read w next small comes =
      let k = gave-takes w leaf_end_item next s t item read small comes in
      absurd (not k.given)

  alt-no-end : (item : Item) (st : Stamp) (k : PlainKey) → shown_item item ≡ alt_item st k → shown_item item ≢ leaf_end_item
  alt-no-end item st k shown e = no-end st k (sym shown ∙ e)

  -- neither an alternative nor the end is given
  pub alt-other : {s t : State} {item : Item} → ((st : StampView) (k : BodyView) → item ≢ Alt st k) → item ≢ LeafEnd → Nexts s t item → AltMerged own b s t (Err Damage)
  alt-other {s = s} {t = t} {item = item} alt end read = record {
    appended = [];
    passes = gave-stop 0 s t item Damage (λ e. absurd cc) read;
    begun = tt;
    onward = tt;
    went = λ m file sets. tt;
    alternative = λ w x next small comes below. no-alt [] s t t item (Err Damage) (not-alt item alt) read w x next small comes;
    end_taken = no-leaf-end [] s t t item (Err Damage) (not-end item end) read;
  }

  -- the end is given
  pub alt-end : {s t : State} {item : Item} → s.writer.leaf ≢ None → shown_item item ≡ leaf_end_item → Nexts s t item → AltMerged own b s t (Ok None)
  alt-end {s = s} {t = t} {item = item} leaf shown read = record {
    appended = [];
    passes = end-passes s t item shown read;
    begun = subst (λ (v : PlainWriter). HasLeaf s.writer v) (sym read.writer) (record { leaf = leaf; inners = refl });
    onward = onward-end s.files s.cursor t.cursor item shown read.goes;
    went = λ m file sets. went-none m own.number s.writer t.writer read.writer;
    alternative = λ w x next small comes below. no-alt [] s t t item (Ok None) (λ st k e. no-end st k (sym e ∙ shown)) read w x next small comes;
    end_taken = λ w next small comes. (refl, takes-only w leaf_end_item next s t (shown_item item) (gave-takes w leaf_end_item next s t item read small comes));
  }

  -- an alternative is given, and its stamp is not made
  pub alt-stopped : {s t : State} {item : Item} {st : Stamp} {k : PlainKey} {f : MergeFault} → shown_item item ≡ alt_item st k → Nexts s t item → (f ≢ Folder) × (f ≢ TooLong) → (IsTrue (is_stamp_below own.number st) → f ≢ Damage) → AltMerged own b s t (Err f)
  alt-stopped {s = s} {t = t} {item = item} {st = st} {k = k} {f = f} shown read inside damage = record {
    appended = [];
    passes = gave-stop 0 s t item f inside.0 read;
    begun = tt;
    onward = tt;
    went = λ m file sets. went-stop m own.number [] s.writer t.writer f inside.1;
    alternative = λ w x next small comes below. (
        let taken = gave-takes w (alt_item x.stamp x.body) next s t item read small comes in
        let parts = same-parts st x.stamp k x.body (sym shown ∙ taken.given) in
        let low = subst (λ (z : Stamp). IsTrue (is_stamp_below own.number z)) (sym parts.0) below in
        (tt, stop-does w (alt_item x.stamp x.body) next next s t (shown_item item) (merged_call x) f inside.0 inside.1 (damage low) taken));
    end_taken = no-leaf-end [] s t t item (Err f) (alt-no-end item st k shown) read;
  }

  -- what the alternative is written with is short
  turned-call : (m : ℕ) (s t : State) (item : Item) (st new : Stamp) (k : PlainKey) (same : Bool) → shown_item item ≡ alt_item st k → FitsValue k → Goes s.files s.cursor item t.cursor → new ≡ turned own.number own.before same st → s.cursor.length + 12 ≤ m → AreShortSets m own
      → IsShortCall m own.number (call_alt new k)
  turned-call m s t item st new k same shown fits goes is file sets =
      let size = ap (size_of s.cursor.standing) shown in
      let moved = goes.moved in
      let within = goes.within in
      let long = goes.same_length in
      let parts = alt-parts m st k fits (omega (arith, size, moved, within, long, file)) in
      (subst (λ (z : Stamp). IsShortStamp m own.number z) (sym is) (turned-short m own.number own.before same st parts.0 sets.before), parts.1)

  merged-as : (x : PlainAlt) (t : Bool) → is_eq (key_cmp x.body b) ≡ t → call_alt (turned own.number own.before t x.stamp) x.body ≡ call_alt (merged_alt own.number own.before b x).stamp (merged_alt own.number own.before b x).body
  merged-as x true e = rw e refl
  merged-as x false e = rw e refl

  -- an alternative is given, and written with its new stamp
  alt-does : (z : List ℕ) (s t u : State) (item : Item) (st new : Stamp) (k : PlainKey) (same : Bool) (e : Option MergeFault) → shown_item item ≡ alt_item st k → Nexts s t item → (IsTrue same ↔ (k ≡ b)) → new ≡ turned own.number own.before same st → Sends z (call_alt new k ∷ []) t u e
      → (w : ℕ) (x : PlainAlt) (next : List PlainItem) → IsWithin w (alt_item x.stamp x.body) → Comes s.files s.cursor (alt_item x.stamp x.body ∷ next) → (same ≡ is_eq (key_cmp x.body b)) × Does z w (merged_call x) next s u e
  alt-does z s t u item st new k same e shown read tells is sent w x next small comes =
      let taken = gave-takes w (alt_item x.stamp x.body) next s t item read small comes in
      let parts = same-parts st x.stamp k x.body (sym shown ∙ taken.given) in
      let equal = key_cmp-is_eq x.body b in
      let yes : same ≡ is_eq (key_cmp x.body b) = iff-eq same (is_eq (key_cmp x.body b)) (λ h. equal.1 (sym parts.1 ∙ tells.0 h), λ h. tells.1 (parts.1 ∙ equal.0 h)) in
      let call : call_alt new k ≡ call_alt (merged_alt own.number own.before b x).stamp (merged_alt own.number own.before b x).body =
      (λ i. call_alt (is i) (parts.1 i)) ∙ (λ i. call_alt (turned own.number own.before same (parts.0 i)) x.body) ∙ merged-as x same (sym yes) in
      (yes, takes-sends z w (alt_item x.stamp x.body) next s t u (shown_item item) (merged_call x) e taken (subst (λ (c : WriterCall). Sends z (c ∷ []) t u e) call sent))

  pub alt-sent : {s t u : State} {item : Item} {st new : Stamp} {k : PlainKey} {same : Bool} → s.writer.leaf ≢ None → shown_item item ≡ alt_item st k → FitsValue k → Nexts s t item → (IsTrue same ↔ (k ≡ b)) → new ≡ turned own.number own.before same st → Longer st new
      → Sent (call_alt new k ∷ []) t u None → AltMerged own b s u (Ok (Some same))
  alt-sent {s = s} {t = t} {u = u} {item = item} {st = st} {new = new} {k = k} {same = same} leaf shown fits read tells is longer sent = record {
    appended = sent.appended;
    passes = sent-passes sent.appended s t u item st new k None shown longer read sent.sends;
    begun = (let sends = sent.sends in let made = sends.made in alt-begun s.writer t.writer u.writer new k leaf read.writer made.writer);
    onward = subst (λ (c : PlainCursor). s.cursor.at < c.at) (let sends = sent.sends in sym sends.same_cursor) (onward-alt s.files s.cursor t.cursor item st k shown read.goes);
    went = λ m file sets. went-call m own.number (call_alt new k) s t u None read.writer (turned-call m s t item st new k same shown fits read.goes is file sets) sent;
    alternative = λ w x next small comes below. (
        let did = alt-does sent.appended s t u item st new k same None shown read tells is sent.sends w x next small comes in
        (ap (λ (z : Bool). Some z) did.0, did.1));
    end_taken = no-leaf-end sent.appended s t u item (Ok (Some same)) (alt-no-end item st k shown) read;
  }

  -- and the call fails
  pub alt-unsent : {s t u : State} {item : Item} {st new : Stamp} {k : PlainKey} (same : Bool) {f : MergeFault} → shown_item item ≡ alt_item st k → FitsValue k → Nexts s t item → (IsTrue same ↔ (k ≡ b)) → new ≡ turned own.number own.before same st → Longer st new
      → Sent (call_alt new k ∷ []) t u (Some f) → AltMerged own b s u (Err f)
  alt-unsent {s = s} {t = t} {u = u} {item = item} {st = st} {new = new} {k = k} same {f = f} shown fits read tells is longer sent = record {
    appended = sent.appended;
    passes = sent-passes sent.appended s t u item st new k (Some f) shown longer read sent.sends;
    begun = tt;
    onward = tt;
    went = λ m file sets. went-call m own.number (call_alt new k) s t u (Some f) read.writer (turned-call m s t item st new k same shown fits read.goes is file sets) sent;
    alternative = λ w x next small comes below. (tt, (alt-does sent.appended s t u item st new k same (Some f) shown read tells is sent.sends w x next small comes).1);
    end_taken = no-leaf-end sent.appended s t u item (Err f) (alt-no-end item st k shown) read;
  }
