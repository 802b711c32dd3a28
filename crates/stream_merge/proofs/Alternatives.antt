-- Merging the alternatives of a leaf, one after the other.
use Rattle.std.proofs.Common.{◌≡◌, ◌≢◌, ℕ, ◌+◌, ◌-◌, ◌<◌, ◌≤◌, ◌||◌, Bool, true, false, IsTrue, List, [], ◌∷◌, ◌++◌, length, map, Option, Some, None, IfSome, Result, Ok, Err, refl, sym, ap, subst, ◌∙◌, append_assoc, arith}
use Rattle.std.specs.List.{AllByRecursion}
use Rattle.std.specs.Ordering.{is_eq}
use Rattle.std.specs.Result.{IsErrAnd}
use Rattle.std.proofs.lemmas.List.{map-append, length-append}
use Rattle.xa_outside.specs.Numbers.{IsMeter}
use Rattle.keyed_tree.specs.Data.{PlainKey, PlainLabel, PlainKeyed, PlainKids, inner, leaf}
use Rattle.keyed_tree.specs.Order.{key_cmp}
use Rattle.keyed_tree.proofs.Kids.{both}
use Rattle.archive_tree.specs.Data.{Stamp, PlainAlt, leaf_node}
use Rattle.nested_merge.specs.Below.{is_stamp_below, are_alts_below}
use Rattle.nested_merge.specs.Fits.{if_there, fits}
use Rattle.nested_merge.specs.Merged.{merged_alt, has_alt, merged_alts}
use Rattle.record_format.specs.Data.{alt_rec, leaf_end}
use Rattle.record_format.specs.Spelling.{rec_bytes}
use Rattle.record_cursor.specs.Items.{PlainItem, leaf_end_item}
use Rattle.record_cursor.specs.Moves.{Comes}
use Rattle.record_writer.specs.Calls.{appended, after, after_all, all_appended}
use Rattle.record_writer.specs.Data.{PlainWriter, WriterCall, call_alt, call_end_leaf}
use Rattle.record_writer.specs.Walks.{alt_calls}
use Rattle.stream_merge.specs.Copied.{AltsCopied}
use Rattle.stream_merge.specs.Does.{Sends, Sent, Does}
use Rattle.stream_merge.specs.Items.{IsWithin}
use Rattle.stream_merge.specs.LeafMerged.{LeafMerged, AltsMerged, AltMerged}
use Rattle.stream_merge.specs.Meets.{new_alts, alts_with, HasLeaf}
use Rattle.stream_merge.specs.Passes.{Passes, Rests, Unless, fault_of}
use Rattle.stream_merge.specs.Room.{WentIf}
use Rattle.stream_merge.specs.Short.{AreShortSets, IsShortBody, IsShortTree, IsShortCall}
use Rattle.record_copy.specs.State.{State}
use Rattle.stream_merge.specs.View.{PlainInherited}
use Rattle.stream_merge.specs.declared.fault.MergeFault.{MergeFault}
use Rattle.stream_merge.specs.declared.fault.MergeFault.TheVariants.{Damage}
use Rattle.stream_merge.proofs.Copies.{no-more, rests-behind, ended-rests}
use Rattle.stream_merge.proofs.Handed.{at-err}
use Rattle.stream_merge.proofs.Rooms.{went-then, went-sent, set-alone}
use Rattle.stream_merge.proofs.States.{passes-then, passes-none, passes-paid, does-then, does-fault, does-sends, sent-then, sent-fault}
use Rattle.record_cursor.specs.NodeItems.{alt_items}

-- ---- a leaf ends

leaf-rests : (v w : PlainWriter) → w.inners ≡ v.inners → Rests v (after w call_end_leaf)
leaf-rests v w same = rests-behind v w (after w call_end_leaf) None same (ended-rests w w.leaf (w.written + length (appended w call_end_leaf)) refl)

some-same : (x y : Bool) → ◌≡◌ {A = Option Bool} (Some x) (Some y) → x ≡ y
some-same x y e = cc

no-some : (x : Bool) → ¬ (◌≡◌ {A = Option Bool} (Some x) None)
no-some x e = cc

or-more : (x y z now : Bool) → y ≡ z → ((x || y) || now) ≡ (x || (z || now))
or-more true y z now e = refl
or-more false y z now e = ap (λ (t : Bool). t || now) e

or-false : (x : Bool) → x ≡ (x || false)
or-false true = refl
or-false false = refl

module _ (own : PlainInherited) (b : PlainKey) where
  abbrev calls_of : List PlainAlt → List WriterCall
  calls_of xs = alt_calls (map (merged_alt own.number own.before b) xs)

  -- the calls that close the leaf
  abbrev closing : Bool → List WriterCall
  closing found = alt_calls (new_alts own.number b found) ++ call_end_leaf ∷ []

  -- the alternatives that are left are merged, where found says whether one of those before them has the body, and the leaf is closed
  pub record LeftMerged (found : Bool) (s t : State) (ended : Option MergeFault) : Type 0 where
    pub appended : List ℕ
    pub passes : Passes appended 0 s t ended
    pub rests : Unless ended (Rests s.writer t.writer)
    pub went : (m : ℕ) → s.cursor.length + 12 ≤ m → AreShortSets m own → IsShortBody m b → WentIf m own.number appended s.writer t.writer ended
    pub alternatives : (w : ℕ) (xs : List PlainAlt) (next : List PlainItem) → AllByRecursion (IsWithin w) (alt_items xs ++ leaf_end_item ∷ []) → Comes s.files s.cursor (alt_items xs ++ leaf_end_item ∷ next)
        → IsTrue (are_alts_below own.number xs) → Does appended w (calls_of xs ++ closing (found || has_alt b xs)) next s t ended

  -- So far it was done: what is done with those that are left makes the whole.
  pub record Merging (found : Bool) (s t : State) : Type 0 where
    pub begun : t.writer.leaf ≢ None
    pub within : t.cursor.at ≤ t.cursor.length
    pub rest : (u : State) (e : Option MergeFault) → LeftMerged found t u e → AltsMerged own b s u e

  -- ---- the loop

  all-left : (xs : List PlainAlt) → alt_calls (merged_alts own.number own.before b xs) ++ call_end_leaf ∷ [] ≡ calls_of xs ++ closing (has_alt b xs)
  all-left xs =
      let new = new_alts own.number b (has_alt b xs) in
      ap (λ (z : List WriterCall). z ++ call_end_leaf ∷ []) (map-append (λ (x : PlainAlt). call_alt x.stamp x.body) (map (merged_alt own.number own.before b) xs) new)
      ∙ append_assoc (calls_of xs) (alt_calls new) (call_end_leaf ∷ [])

  pub merging-none : {s : State} → s.writer.leaf ≢ None → s.cursor.at ≤ s.cursor.length → Merging false s s
  merging-none {s = s} begun within = record {
    begun = begun;
    within = within;
    rest = λ u e h. record {
      appended = h.appended;
      passes = h.passes;
      rests = h.rests;
      went = h.went;
      alternatives = λ w xs next small comes below. subst (λ (cs : List WriterCall). Does h.appended w cs next s u e) (sym (all-left xs)) (h.alternatives w xs next small comes below);
    };
  }

  -- one more
  more : (found same : Bool) (s t u : State) (e : Option MergeFault) (m : AltMerged own b s t (Ok (Some same))) (h : LeftMerged (found || same) t u e) (w : ℕ) (xs : List PlainAlt) (next : List PlainItem) → AllByRecursion (IsWithin w) (alt_items xs ++ leaf_end_item ∷ [])
      → Comes s.files s.cursor (alt_items xs ++ leaf_end_item ∷ next) → IsTrue (are_alts_below own.number xs) → Does (m.appended ++ h.appended) w (calls_of xs ++ closing (found || has_alt b xs)) next s u e
  more found same s t u e m h w [] next small comes below = absurd (no-some same (m.end_taken w next small.0 comes).0)
  more found same s t u e m h w (x ∷ xs) next small comes below =
      let two = both (is_stamp_below own.number x.stamp) (are_alts_below own.number xs) below in
      let did = m.alternative w x (alt_items xs ++ leaf_end_item ∷ next) small.0 comes two.0 in
      let one = did.1 in
      let is : same ≡ is_eq (key_cmp x.body b) = some-same _ _ did.0 in
      subst (λ (z : Bool). Does (m.appended ++ h.appended) w (calls_of (x ∷ xs) ++ closing z) next s u e) (or-more found same (is_eq (key_cmp x.body b)) (has_alt b xs) is)
      (does-then m.appended h.appended s t u e w (calls_of (x ∷ [])) (calls_of xs ++ closing ((found || same) || has_alt b xs)) (alt_items xs ++ leaf_end_item ∷ next) next (no-more m.passes) one (h.alternatives w xs next small.1 one.follows two.1))

  left-more : (found same : Bool) (s t u : State) (e : Option MergeFault) → AltMerged own b s t (Ok (Some same)) → LeftMerged (found || same) t u e → LeftMerged found s u e
  left-more found same s t u e m h = record {
    appended = m.appended ++ h.appended;
    passes = passes-then m.appended h.appended s t u e 0 0 0 (omega arith) m.passes h.passes;
    rests = (let begun = m.begun in rests-behind s.writer t.writer u.writer e begun.inners h.rests);
    went = λ z file sets body. went-then z own.number m.appended h.appended s.writer t.writer u.writer e (m.went z file sets) (h.went z (let passes = m.passes in let long = passes.same_length in omega (arith, long, file)) sets body);
    alternatives = more found same s t u e m h;
  }

  pub merging-more : {found same now : Bool} {s t u : State} {r : Option Bool} → (found || same) ≡ now → r ≡ Some same → Merging found s t → AltMerged own b t u (Ok r) → Merging now s u
  merging-more {found = found} {same = same} {now = now} {s = s} {t = t} {u = u} {r = r} is some h m =
      let one : AltMerged own b t u (Ok (Some same)) = subst (λ (z : Option Bool). AltMerged own b t u (Ok z)) some m in
      let begun = one.begun in
      let passes = one.passes in
      record {
        begun = begun.leaf;
        within = passes.within;
        rest = λ v e g. h.rest v e (left-more found same t u v e one (subst (λ (z : Bool). LeftMerged z u v e) (sym is) g));
      }

  -- less is left to read
  pub merging-nearer : {t u : State} {r : Option Bool} → AltMerged own b t u (Ok r) → u.cursor.length - u.cursor.at < t.cursor.length - t.cursor.at
  merging-nearer {t = t} {u = u} m =
      let p = m.passes in
      let on : t.cursor.at < u.cursor.at = m.onward in
      let length = p.same_length in
      let within = p.within in
      omega (arith, on, length, within)

  -- ---- behind the loop

  fault : (found : Bool) (s t : State) (f : MergeFault) (m : AltMerged own b s t (Err f)) (w : ℕ) (xs : List PlainAlt) (next : List PlainItem) → AllByRecursion (IsWithin w) (alt_items xs ++ leaf_end_item ∷ []) → Comes s.files s.cursor (alt_items xs ++ leaf_end_item ∷ next)
      → IsTrue (are_alts_below own.number xs) → Does m.appended w (calls_of xs ++ closing (found || has_alt b xs)) next s t (Some f)
  fault found s t f m w [] next small comes below = does-fault m.appended m.appended s t f w [] (closing (found || false)) next next (m.end_taken w next small.0 comes).1
  fault found s t f m w (x ∷ xs) next small comes below =
      let two = both (is_stamp_below own.number x.stamp) (are_alts_below own.number xs) below in
      let rest = alt_items xs ++ leaf_end_item ∷ next in
      does-fault m.appended m.appended s t f w (calls_of (x ∷ [])) (calls_of xs ++ closing (found || has_alt b (x ∷ xs))) rest next (m.alternative w x rest small.0 comes two.0).1

  -- the next one fails
  pub alts-failed : {T : Type 0} {found : Bool} {s t u : State} {f : MergeFault} (r : Result T MergeFault) → IsErrAnd r (λ d. d ≡ f) → Merging found s t → AltMerged own b t u (Err f) → AltsMerged own b s u (fault_of r)
  alts-failed {found = found} {s = s} {t = t} {u = u} {f = f} r is h m = at-err r f is (λ z. AltsMerged own b s u (fault_of z))
      (h.rest u (Some f) (record { appended = m.appended; passes = m.passes; rests = tt; went = λ z file sets body. m.went z file sets; alternatives = fault found t u f m }))

  -- the end of the leaf takes no less than what was read for it
  closing-long : (w : PlainWriter) (found : Bool) → 9 ≤ length (all_appended w (closing found))
  closing-long w true = omega arith
  closing-long w false = (let e = length-append (rec_bytes (alt_rec (Some ((own.number, own.number) ∷ [])) b)) (rec_bytes leaf_end ++ []) in omega (arith, e))

  closing-short : (m : ℕ) (found : Bool) → 12 ≤ m → IsShortBody m b → AllByRecursion (IsShortCall m own.number) (closing found)
  closing-short m true room body = (tt, tt)
  closing-short m false room body = ((set-alone m own.number own.number room, body), (tt, tt))

  closed-rests : (v u : PlainWriter) (found : Bool) → u.inners ≡ v.inners → Rests v (after_all u (closing found))
  closed-rests v u true same = leaf-rests v u same
  closed-rests v u false same = leaf-rests v (after u (call_alt (Some ((own.number, own.number) ∷ [])) b)) same

  sent-rests : (v : PlainWriter) (u z : State) (found : Bool) (x : List ℕ) (e : Option MergeFault) → HasLeaf v u.writer → Sends x (closing found) u z e → Unless e (Rests v z.writer)
  sent-rests v u z found x None h sent = (let made = sent.made in subst (λ (w : PlainWriter). Rests v w) (sym made.writer) (closed-rests v u.writer found h.inners))
  sent-rests v u z found x (Some f) h sent = tt

  closed : (found : Bool) (s t u : State) (e : Option MergeFault) (m : AltMerged own b s t (Ok None)) (x : List ℕ) → Sends x (closing found) t u e → (w : ℕ) (xs : List PlainAlt) (next : List PlainItem) → AllByRecursion (IsWithin w) (alt_items xs ++ leaf_end_item ∷ [])
      → Comes s.files s.cursor (alt_items xs ++ leaf_end_item ∷ next) → IsTrue (are_alts_below own.number xs) → Does (m.appended ++ x) w (calls_of xs ++ closing (found || has_alt b xs)) next s u e
  closed found s t u e m x sends w [] next small comes below =
      subst (λ (z : Bool). Does (m.appended ++ x) w (closing z) next s u e) (or-false found) (does-sends m.appended x s t u e w [] (closing found) next (m.end_taken w next small.0 comes).1 sends)
  closed found s t u e m x sends w (y ∷ xs) next small comes below =
      let two = both (is_stamp_below own.number y.stamp) (are_alts_below own.number xs) below in
      absurd (no-some (is_eq (key_cmp y.body b)) (sym (m.alternative w y (alt_items xs ++ leaf_end_item ∷ next) small.0 comes two.0).0))

  -- the leaf has ended, and is closed
  pub alts-closed : {found : Bool} {s t u v : State} {r : Option Bool} {e : Option MergeFault} → r ≡ None → Merging found s t → AltMerged own b t u (Ok r) → Sent (closing found) u v e → AltsMerged own b s v e
  alts-closed {found = found} {s = s} {t = t} {u = u} {v = v} {r = r} {e = e} none h m sent =
      let end : AltMerged own b t u (Ok None) = subst (λ (z : Option Bool). AltMerged own b t u (Ok z)) none m in
      h.rest v e (record {
        appended = end.appended ++ sent.appended;
        passes = passes-paid end.appended sent.appended 9 t u v (closing found) e (closing-long u.writer found) end.passes sent.sends;
        rests = sent-rests t.writer u v found sent.appended e end.begun sent.sends;
        went = λ z file sets body. went-then z own.number end.appended sent.appended t.writer u.writer v.writer e (end.went z file sets) (went-sent z own.number (closing found) u v e (closing-short z found (omega (arith, file)) body) sent);
        alternatives = closed found t u v e end sent.appended sent.sends;
      })

-- ---- closing a leaf

module _ (n : ℕ) (b : PlainKey) {found : Bool} where
  -- one of the alternatives has the body
  pub closes-found : {s t : State} {e : Option MergeFault} → found ≡ true → Sent (call_end_leaf ∷ []) s t e → Sent (alt_calls (new_alts n b found) ++ call_end_leaf ∷ []) s t e
  closes-found {s = s} {t = t} {e = e} is h = subst (λ (z : Bool). Sent (alt_calls (new_alts n b z) ++ call_end_leaf ∷ []) s t e) (sym is) h

  -- none has it, and the one that begins is not written
  pub closes-unsent : {s t : State} {f : MergeFault} {ps : List (ℕ × ℕ)} → found ≡ false → ps ≡ (n, n) ∷ [] → Sent (call_alt (Some ps) b ∷ []) s t (Some f) → Sent (alt_calls (new_alts n b found) ++ call_end_leaf ∷ []) s t (Some f)
  closes-unsent {s = s} {t = t} {f = f} is new h =
      subst (λ (z : Bool). Sent (alt_calls (new_alts n b z) ++ call_end_leaf ∷ []) s t (Some f)) (sym is)
      (sent-fault s t f (call_alt (Some ((n, n) ∷ [])) b ∷ []) (call_end_leaf ∷ []) (subst (λ (z : List (ℕ × ℕ)). Sent (call_alt (Some z) b ∷ []) s t (Some f)) new h))

  -- none has it, and the one that begins is written
  pub closes-new : {s t u : State} {e : Option MergeFault} {ps : List (ℕ × ℕ)} → found ≡ false → ps ≡ (n, n) ∷ [] → Sent (call_alt (Some ps) b ∷ []) s t None → Sent (call_end_leaf ∷ []) t u e → Sent (alt_calls (new_alts n b found) ++ call_end_leaf ∷ []) s u e
  closes-new {s = s} {t = t} {u = u} {e = e} is new h g =
      subst (λ (z : Bool). Sent (alt_calls (new_alts n b z) ++ call_end_leaf ∷ []) s u e) (sym is)
      (sent-then s t u e (call_alt (Some ((n, n) ∷ [])) b ∷ []) (call_end_leaf ∷ []) (subst (λ (z : List (ℕ × ℕ)). Sent (call_alt (Some z) b ∷ []) s t None) new h) g)

-- ---- a leaf, with what the version has of it

-- a leaf too
pub leaf-merged : {own : PlainInherited} {kid : Option PlainKeyed} {l : PlainLabel} {b : PlainKey} {s t : State} {e : Option MergeFault} → kid ≡ Some (leaf l b) → AltsMerged own b s t e → LeafMerged own kid s t e
leaf-merged {own = own} {kid = kid} {l = l} {b = b} {s = s} {t = t} {e = e} is h = record {
  appended = h.appended;
  passes = h.passes;
  rests = h.rests;
  went = λ m file sets short. h.went m file sets (subst (λ (o : Option PlainKeyed). IfSome o (λ k. IsShortTree m k)) is short).1;
  inside = λ w m st xs next small comes below fit. (
      subst (λ (o : Option PlainKeyed). Does h.appended w (alt_calls (alts_with own.number own.before xs o) ++ call_end_leaf ∷ []) next s t e) (sym is) (h.alternatives w xs next small comes below));
}

-- nothing
pub leaf-copied : {own : PlainInherited} {kid : Option PlainKeyed} {s t : State} {e : Option MergeFault} → kid ≡ None → AltsCopied s t e → LeafMerged own kid s t e
leaf-copied {own = own} {kid = kid} {s = s} {t = t} {e = e} is h = record {
  appended = h.appended;
  passes = h.passes;
  rests = h.rests;
  went = λ m file sets short. h.went m own.number file;
  inside = λ w m st xs next small comes below fit. (
      subst (λ (o : Option PlainKeyed). Does h.appended w (alt_calls (alts_with own.number own.before xs o) ++ call_end_leaf ∷ []) next s t e) (sym is) (h.alternatives w xs next small comes));
}

-- an inner node
pub leaf-damaged : {own : PlainInherited} {kid : Option PlainKeyed} {l : PlainLabel} {ks : PlainKids} {s : State} → kid ≡ Some (inner l ks) → IsMeter s.numbers → s.cursor.at ≤ s.cursor.length → LeafMerged own kid s s (Some Damage)
leaf-damaged {own = own} {kid = kid} {l = l} {ks = ks} {s = s} is meter within = record {
  appended = [];
  passes = passes-none s (Some Damage) meter within (λ e. absurd cc);
  rests = tt;
  went = λ m file sets short. tt;
  inside = λ w m st xs next small comes below fit. absurd (no-fit m st xs (subst (λ (o : Option PlainKeyed). IsTrue (if_there o (λ c. fits (leaf_node m st xs) c))) is fit));
}
  where
    no-fit : (m : PlainLabel) (st : Stamp) (xs : List PlainAlt) → ¬ IsTrue (fits (leaf_node m st xs) (inner l ks))
    no-fit m st xs h = absurd cc
