-- What copying the alternatives of a leaf goes along.
use Rattle.std.proofs.Common.{◌≡◌, ◌≢◌, ℕ, ◌+◌, ◌≤◌, List, [], ◌∷◌, ◌++◌, length, Option, Some, None, refl, sym, ap, subst, ◌∙◌, arith}
use Rattle.std.specs.List.{AllByRecursion}
use Rattle.std.proofs.lemmas.List.{append-nil}
use Rattle.keyed_tree.specs.Data.{PlainKey}
use Rattle.archive_tree.specs.Data.{Stamp, PlainAlt}
use Rattle.record_format.specs.Data.{leaf_end}
use Rattle.record_format.specs.Spelling.{rec_bytes}
use Rattle.record_cursor.specs.Items.{PlainItem, alt_item, leaf_end_item}
use Rattle.record_cursor.specs.Moves.{Comes}
use Rattle.record_cursor.specs.Next.{read_for, size_of}
use Rattle.record_cursor.specs.View.{shown_item}
use Rattle.record_cursor.specs.declared.fault.CursorFault.{CursorFault}
use Rattle.record_cursor.specs.declared.item.Item.{Item}
use Rattle.record_cursor.specs.declared.item.Item.TheVariants.{Inner, Leaf, Alt, LeafEnd, End, Finish}
use Rattle.record_parts.specs.Shapes.{FitsValue}
use Rattle.record_parts.specs.declared.views.BodyView.{BodyView}
use Rattle.record_parts.specs.declared.views.StampView.{StampView}
use Rattle.record_writer.specs.Data.{PlainWriter, OpenLeaf, WriterCall, call_alt, call_end_leaf}
use Rattle.record_writer.specs.Calls.{appended, all_appended, leaf_ended}
use Rattle.record_writer.specs.Walks.{alt_calls}
use Rattle.stream_merge.specs.Copied.{AltsCopied}
use Rattle.stream_merge.specs.Does.{Made, Sends, Sent, Does}
use Rattle.stream_merge.specs.Items.{IsWithin}
use Rattle.stream_merge.specs.Passes.{Passes, Rests, Unless, of_cursor}
use Rattle.stream_merge.specs.Short.{IsShortCall}
use Rattle.record_copy.specs.State.{State}
use Rattle.stream_merge.specs.declared.fault.MergeFault.{MergeFault}
use Rattle.stream_merge.specs.declared.fault.MergeFault.TheVariants.{Damage, Memory}
use Rattle.stream_merge.proofs.States.{passes-then, does-then, does-fault, takes-sends, Nexts, Stays, front-of, gave-stop, gave-takes, gave-sent, gave-memory, failed, failed-does}
use Rattle.stream_merge.proofs.Rooms.{went-read, went-call, went-then, alt-parts, stamp-plain}
use Rattle.xa_outside.specs.Numbers.{lead}
use Rattle.record_cursor.specs.NodeItems.{alt_items}
use Rattle.record_copy.proofs.ItemKinds.{not-alt}

-- ---- items that all are small

pub all-front : (w : ℕ) (xs ys : List PlainItem) → AllByRecursion (IsWithin w) (xs ++ ys) → AllByRecursion (IsWithin w) xs
all-front w [] ys h = tt
all-front w (x ∷ xs) ys h = (h.0, all-front w xs ys h.1)

pub all-back : (w : ℕ) (xs ys : List PlainItem) → AllByRecursion (IsWithin w) (xs ++ ys) → AllByRecursion (IsWithin w) ys
all-back w [] ys h = h
all-back w (x ∷ xs) ys h = all-back w xs ys h.1

-- ---- one part behind another

pub no-more : {x : List ℕ} {s t : State} → Passes x 0 s t None → lead t.numbers ≤ lead s.numbers
no-more p = (let a = p.ahead in omega (arith, a))

pub rests-behind : (v w x : PlainWriter) (e : Option MergeFault) → w.inners ≡ v.inners → Unless e (Rests w x) → Unless e (Rests v x)
rests-behind v w x None same h = record { no_leaf = h.no_leaf; inners = h.inners ∙ same }
rests-behind v w x (Some f) same h = tt

-- ---- nothing is written

pub alts-failed : (s t : State) (e : CursorFault) → s.cursor.at ≤ s.cursor.length → Stays s t e → AltsCopied s t (Some (of_cursor e))
alts-failed s t e within stays = record {
  appended = [];
  passes = failed 0 s t e within stays;
  rests = tt;
  went = λ b n file. went-read b n [] s.writer t.writer e;
  alternatives = λ w xs next small comes. failed-does [] w (alt_items xs ++ leaf_end_item ∷ next) s t e (alt_calls xs ++ call_end_leaf ∷ []) next stays (front-of w (alt_items xs) leaf_end_item next small) comes;
}

pub alts-memory : (s t : State) (item : Item) → Nexts s t item → AltsCopied s t (Some Memory)
alts-memory s t item read = record {
  appended = [];
  passes = gave-stop 0 s t item Memory (λ e. absurd cc) read;
  rests = tt;
  went = λ b n file. tt;
  alternatives = λ w xs next small comes. gave-memory [] w (alt_items xs ++ leaf_end_item ∷ next) s t item (alt_calls xs ++ call_end_leaf ∷ []) next read (front-of w (alt_items xs) leaf_end_item next small) comes;
}

pub not-end : (item : Item) → item ≢ LeafEnd → shown_item item ≢ leaf_end_item
not-end (Alt s b) h = λ e. absurd cc
not-end (Inner l s) h = λ e. absurd cc
not-end (Leaf l s) h = λ e. absurd cc
not-end LeafEnd h = absurd (h refl)
not-end (End n) h = λ e. absurd cc
not-end Finish h = λ e. absurd cc

pub alts-damage : (s t : State) (item : Item) → ((st : StampView) (b : BodyView) → item ≢ Alt st b) → item ≢ LeafEnd → Nexts s t item → AltsCopied s t (Some Damage)
alts-damage s t item no-alt no-end read = record {
  appended = [];
  passes = gave-stop 0 s t item Damage (λ e. absurd cc) read;
  rests = tt;
  went = λ b n file. tt;
  alternatives = neither;
}
  where
    neither : (w : ℕ) (xs : List PlainAlt) (next : List PlainItem) → AllByRecursion (IsWithin w) (alt_items xs ++ leaf_end_item ∷ []) → Comes s.files s.cursor (alt_items xs ++ leaf_end_item ∷ next)
        → Does [] w (alt_calls xs ++ call_end_leaf ∷ []) next s t (Some Damage)
    neither w [] next small comes =
        let k = gave-takes w leaf_end_item next s t item read small.0 comes in
        absurd (not-end item no-end k.given)
    neither w (x ∷ ys) next small comes =
        let k = gave-takes w (alt_item x.stamp x.body) (alt_items ys ++ leaf_end_item ∷ next) s t item read small.0 comes in
        absurd (not-alt item no-alt x.stamp x.body k.given)

-- ---- the end of the leaf is read, and written

pub ended-rests : (v : PlainWriter) (o : Option OpenLeaf) (at : ℕ) → v.leaf ≡ o → Rests v (leaf_ended v o at)
ended-rests v None at e = record { no_leaf = e; inners = refl }
ended-rests v (Some l) at e = record { no_leaf = refl; inners = refl }

end-rests : (x : List ℕ) (s t u : State) (e : Option MergeFault) → t.writer ≡ s.writer → Made x (call_end_leaf ∷ []) t u e → Unless e (Rests s.writer u.writer)
end-rests x s t u None same made =
    let v = t.writer in
    subst (λ (w : PlainWriter). Rests w u.writer) same
    (subst (λ (w : PlainWriter). Rests v w) (sym made.writer) (ended-rests v v.leaf (v.written + length (appended v call_end_leaf)) refl))
end-rests x s t u (Some f) same made = tt

pub alts-close : (s t u : State) (item : Item) (e : Option MergeFault) → shown_item item ≡ leaf_end_item → Nexts s t item → Sent (call_end_leaf ∷ []) t u e → AltsCopied s u e
alts-close s t u item e shown read sent = record {
  appended = sent.appended;
  passes = (
      let few = ap (read_for s.cursor.standing) shown in
      let long : length (all_appended t.writer (call_end_leaf ∷ [])) ≡ length (rec_bytes leaf_end) = ap length (append-nil (rec_bytes leaf_end)) in
      gave-sent sent.appended s t u item (call_end_leaf ∷ []) e (omega (arith, few, long)) read sent.sends);
  rests = (let sends = sent.sends in end-rests sent.appended s t u e read.writer sends.made);
  went = λ b n file. went-call b n call_end_leaf s t u e read.writer tt sent;
  alternatives = closes;
}
  where
    closes : (w : ℕ) (xs : List PlainAlt) (next : List PlainItem) → AllByRecursion (IsWithin w) (alt_items xs ++ leaf_end_item ∷ []) → Comes s.files s.cursor (alt_items xs ++ leaf_end_item ∷ next)
        → Does sent.appended w (alt_calls xs ++ call_end_leaf ∷ []) next s u e
    closes w [] next small comes =
        let k = gave-takes w leaf_end_item next s t item read small.0 comes in
        takes-sends sent.appended w leaf_end_item next s t u (shown_item item) (call_end_leaf ∷ []) e k sent.sends
    closes w (x ∷ ys) next small comes =
        let k = gave-takes w (alt_item x.stamp x.body) (alt_items ys ++ leaf_end_item ∷ next) s t item read small.0 comes in
        let same : leaf_end_item ≡ alt_item x.stamp x.body = sym shown ∙ k.given in
        absurd cc

-- ---- an alternative is read, and written

-- what is copied from here on is copied from the first alternative on
pub record AltsOn (s t : State) : Type 0 where
  pub within : t.cursor.at ≤ t.cursor.length
  pub leaf : t.writer.leaf ≢ None
  pub rest : (u : State) (e : Option MergeFault) → AltsCopied t u e → AltsCopied s u e

pub alts-start : (s : State) → s.cursor.at ≤ s.cursor.length → s.writer.leaf ≢ None → AltsOn s s
alts-start s within leaf = record { within = within; leaf = leaf; rest = λ u e h. h }

module _ (s t u : State) (item : Item) (st : Stamp) (b : PlainKey) (shown : shown_item item ≡ alt_item st b) (read : Nexts s t item) (fits : FitsValue b) where
  abbrev call : WriterCall
  call = call_alt st b

  call-is-short : (b n : ℕ) → s.cursor.length + 12 ≤ b → IsShortCall b n call
  call-is-short c n file =
      let goes = read.goes in
      let size = ap (size_of s.cursor.standing) shown in
      let moved = goes.moved in
      let within = goes.within in
      let long = goes.same_length in
      let parts = alt-parts c st b fits (omega (arith, size, moved, within, long, file)) in
      (stamp-plain c n st parts.0, parts.1)

  alt-passes : (x : List ℕ) (e : Option MergeFault) → Sends x (call ∷ []) t u e → Passes x 0 s u e
  alt-passes x e sends =
      let few = ap (read_for s.cursor.standing) shown in
      let long : length (all_appended t.writer (call ∷ [])) ≡ length (appended t.writer call) = ap length (append-nil (appended t.writer call)) in
      gave-sent x s t u item (call ∷ []) e (omega (arith, few, long)) read sends

  alt-sent : (x : List ℕ) (e : Option MergeFault) → Sends x (call ∷ []) t u e → (w : ℕ) (xs : List PlainAlt) (next : List PlainItem) → AllByRecursion (IsWithin w) (alt_items xs ++ leaf_end_item ∷ [])
      → Comes s.files s.cursor (alt_items xs ++ leaf_end_item ∷ next) → (y : PlainAlt) × (ys : List PlainAlt) × (xs ≡ y ∷ ys) × Does x w (call_alt y.stamp y.body ∷ []) (alt_items ys ++ leaf_end_item ∷ next) s u e
  alt-sent x e sends w [] next small comes =
      let k = gave-takes w leaf_end_item next s t item read small.0 comes in
      let same : alt_item st b ≡ leaf_end_item = sym shown ∙ k.given in
      absurd cc
  alt-sent x e sends w (y ∷ ys) next small comes =
      let k = gave-takes w (alt_item y.stamp y.body) (alt_items ys ++ leaf_end_item ∷ next) s t item read small.0 comes in
      let same : alt_item st b ≡ alt_item y.stamp y.body = sym shown ∙ k.given in
      let stamps : st ≡ y.stamp = cc in
      let bodies : b ≡ y.body = cc in
      let calls : call ≡ call_alt y.stamp y.body = (λ j. call_alt (stamps j) (bodies j)) in
      let does = takes-sends x w (alt_item y.stamp y.body) (alt_items ys ++ leaf_end_item ∷ next) s t u (shown_item item) (call ∷ []) e k sends in
      (y, ys, refl, subst (λ (c : WriterCall). Does x w (c ∷ []) (alt_items ys ++ leaf_end_item ∷ next) s u e) calls does)

  pub alts-fail : (f : MergeFault) → Sent (call ∷ []) t u (Some f) → AltsCopied s u (Some f)
  alts-fail f sent = record {
    appended = sent.appended;
    passes = alt-passes sent.appended (Some f) sent.sends;
    rests = tt;
    went = λ c n file. went-call c n call s t u (Some f) read.writer (call-is-short c n file) sent;
    alternatives = λ w xs next small comes. (
        let k = alt-sent sent.appended (Some f) sent.sends w xs next small comes in
        let y = k.0 in
        subst (λ (zs : List PlainAlt). Does sent.appended w (alt_calls zs ++ call_end_leaf ∷ []) next s u (Some f)) (sym k.2)
        (does-fault sent.appended sent.appended s u f w (call_alt y.stamp y.body ∷ []) (alt_calls k.1 ++ call_end_leaf ∷ []) (alt_items k.1 ++ leaf_end_item ∷ next) next k.3));
  }

  -- and the rest behind it
  alts-then : (v : State) (e : Option MergeFault) → Sent (call ∷ []) t u None → AltsCopied u v e → AltsCopied s v e
  alts-then v e sent h =
      let passes = alt-passes sent.appended None sent.sends in
      let sends = sent.sends in
      let made = sends.made in
      record {
        appended = sent.appended ++ h.appended;
        passes = passes-then sent.appended h.appended s u v e 0 0 0 (omega arith) passes h.passes;
        rests = rests-behind s.writer u.writer v.writer e (ap (λ (z : PlainWriter). z.inners) made.writer ∙ ap (λ (z : PlainWriter). z.inners) read.writer) h.rests;
        went = λ c n file. went-then c n sent.appended h.appended s.writer u.writer v.writer e (went-call c n call s t u None read.writer (call-is-short c n file) sent) (h.went c n (let long = passes.same_length in omega (arith, long, file)));
        alternatives = λ w xs next small comes. (
            let k = alt-sent sent.appended None sent.sends w xs next small comes in
            let y = k.0 in
            let ys = k.1 in
            let d = k.3 in
            let left = subst (λ (zs : List PlainAlt). AllByRecursion (IsWithin w) (alt_items zs ++ leaf_end_item ∷ [])) k.2 small in
            subst (λ (zs : List PlainAlt). Does (sent.appended ++ h.appended) w (alt_calls zs ++ call_end_leaf ∷ []) next s v e) (sym k.2)
            (does-then sent.appended h.appended s u v e w (call_alt y.stamp y.body ∷ []) (alt_calls ys ++ call_end_leaf ∷ []) (alt_items ys ++ leaf_end_item ∷ next) next (no-more passes) d
            (h.alternatives w ys next left.1 d.follows)));
      }

  pub alts-on : (r : State) → AltsOn r s → Sent (call ∷ []) t u None → AltsOn r u
  alts-on r on sent =
      let passes = alt-passes sent.appended None sent.sends in
      let sends = sent.sends in
      let made = sends.made in
      record {
        within = passes.within;
        leaf = λ none. on.leaf (sym (ap (λ (z : PlainWriter). z.leaf) read.writer) ∙ sym (ap (λ (z : PlainWriter). z.leaf) made.writer) ∙ none);
        rest = λ v e h. on.rest v e (alts-then v e sent h);
      }
