-- What reading the next nodes of rows goes along, and writing a node that one archive has alone.
use Rattle.std.proofs.Common.{◌≡◌, ◌≢◌, ℕ, ◌+◌, ◌≤◌, List, [], ◌∷◌, ◌++◌, Option, Some, None, Result, Ok, Err, Bool, true, false, IfSome, refl, sym, ap, subst, ◌∙◌, append_assoc, arith}
use Rattle.std.proofs.lemmas.List.{append-nil}
use Rattle.std.specs.Option.{option_map, unwrap_or}
use Rattle.std.specs.Result.{result_map_both}
use Rattle.xa_fields.proofs.Fields.{some_is}
use Rattle.xa_outside.specs.Folder.{Files}
use Rattle.xa_outside.specs.Numbers.{IsMeter}
use Rattle.archive_tree.specs.Data.{Stamp, PlainNode, inner_node, leaf_node, PlainNodes, no_nodes, node}
use Rattle.record_format.specs.Nodes.{set_in}
use Rattle.record_cursor.specs.Items.{PlainItem, end_item}
use Rattle.record_cursor.specs.View.{PlainCursor}
use Rattle.record_writer.specs.Data.{PlainWriter, WriterCall, call_end_leaf, call_end_inner, call_finish}
use Rattle.record_writer.specs.Walks.{alt_calls, node_calls, row_calls}
use Rattle.record_copy.specs.Copied.{inside_calls, NodeCopied}
use Rattle.record_copy.specs.Faults.{IfLong}
use Rattle.record_copy.specs.Parts.{PlainHead, head_of, head_view, opening}
use Rattle.record_copy.specs.Passes as passing
use Rattle.record_copy.specs.Passes.{Rests, call_of}
use Rattle.record_copy.specs.Reads.{HeadRead, IsShortHead, Shows}
use Rattle.record_copy.specs.Runs.{Run, Matches}
use Rattle.record_copy.specs.Seen.{Coming, node_items, row_items, inside_items}
use Rattle.record_copy.specs.Short.{AreShort, IfStored, IsRaisedOf}
use Rattle.record_copy.specs.State as copy
use Rattle.record_copy.specs.declared.fault.CopyFault.{CopyFault}
use Rattle.record_copy.specs.declared.fault.CopyFault.TheVariants.{Damage, TooLong, Folder, Memory}
use Rattle.record_copy.specs.declared.kind.Kind.TheVariants.{Inner, Leaf}
use Rattle.record_copy.specs.declared.parts.Head.{Head}
use Rattle.record_copy.proofs.Passing.{passes-none, coming-as, coming-same}
use Rattle.record_copy.proofs.Running.{run-then, run-none, short-none, short-then}
use Rattle.archive_join.specs.Faults.{of_side}
use Rattle.archive_join.specs.Heads.{Left, HeadsRead, LeavesOne, PassedAlone}
use Rattle.archive_join.specs.Joined.{alone, alone_node}
use Rattle.archive_join.specs.Passes.{Passes}
use Rattle.archive_join.specs.Runs.{AreCalls}
use Rattle.archive_join.specs.State.{State, with_first, with_second}
use Rattle.archive_join.specs.declared.fault.JoinFault.{JoinFault}
use Rattle.archive_join.proofs.Passing.{passes-then, first-passes, second-passes}
use Rattle.archive_join.proofs.Running.{any-side, spares-first, spares-second, spares-own-first, spares-own-second}
use Rattle.record_copy.proofs.Alternating.{not-long, read-short}

-- ---- the fault of a call that reads one of the archives

-- the call failed that was handed on
pub side-err : {T : Type 0} (second : Bool) (call : Result T CopyFault) (r : Result T JoinFault) (e : JoinFault) → r ≡ result_map_both (λ x. x) (of_side second) call → r ≡ Err e → (f : CopyFault) × (call ≡ Err f) × (e ≡ of_side second f)
side-err second (Ok x) r e is failed = absurd cc
side-err second (Err f) r e is failed = (f, refl, cc)

-- it did not
pub side-ok : {T : Type 0} (second : Bool) (call : Result T CopyFault) (r : Result T JoinFault) (x : T) → r ≡ result_map_both (λ x. x) (of_side second) call → r ≡ Ok x → call ≡ Ok x
side-ok second (Ok y) r x is went = cc
side-ok second (Err f) r x is went = absurd cc

-- what was read, by other names
pub read-as : (m n : ℕ) (s t : copy.State) (r z : Result (Option Head) CopyFault) → m ≡ n → r ≡ z → HeadRead m s t r → HeadRead n s t z
read-as m n s t r z same is h = subst (λ x. HeadRead n s t x) is (subst (λ x. HeadRead x s t r) same h)

-- ---- one head

items-of : (k : PlainNode) (ks : PlainNodes) (behind : List PlainItem) → row_items (node k ks) ++ end_item 0 ∷ behind ≡ opening (head_of k) ∷ (inside_items k ++ (row_items ks ++ end_item 0 ∷ behind))
items-of (inner_node l s js) ks behind = append_assoc (node_items (inner_node l s js)) (row_items ks) (end_item 0 ∷ behind)
items-of (leaf_node l s xs) ks behind = append_assoc (node_items (leaf_node l s xs)) (row_items ks) (end_item 0 ∷ behind)

short-shown : (P : PlainHead → Type 0) (o : Option Head) → IfSome o (λ h. P (head_view h)) → IfSome (option_map head_view o) P
short-shown P None h = tt
short-shown P (Some x) h = h

undamaged : {T U : Type 0} (n : ℕ) (view : T → U) (u : U) (next : List PlainItem) (t : copy.State) (f : CopyFault) → Shows n view u next t (Err f) → f ≢ Damage
undamaged n view u next t Damage h d = h
undamaged n view u next t TooLong h d = absurd cc
undamaged n view u next t Folder h d = absurd cc
undamaged n view u next t Memory h d = absurd cc

module _ (n : ℕ) (s t : copy.State) where
  -- what it leaves of the row
  pub head-left : (o : Option Head) → HeadRead n s t (Ok o) → (ks : PlainNodes) (behind : List PlainItem) → Coming n s.files s.cursor (row_items ks ++ end_item 0 ∷ behind) → Left n t.files t.cursor (option_map head_view o) ks behind
  head-left o h no_nodes behind coming = h.ended behind coming
  head-left o h (node k ks) behind coming =
      let next = inside_items k ++ (row_items ks ++ end_item 0 ∷ behind) in
      h.node (head_of k) next (coming-as n s.files s.cursor _ _ (items-of k ks behind) coming)

  -- where a row comes there is no damage
  pub head-undamaged : (f : CopyFault) → HeadRead n s t (Err f) → (ks : PlainNodes) (behind : List PlainItem) → Coming n s.files s.cursor (row_items ks ++ end_item 0 ∷ behind) → f ≢ Damage
  head-undamaged f h no_nodes behind coming = undamaged n (option_map head_view) None behind t f (h.ended behind coming)
  head-undamaged f h (node k ks) behind coming =
      let next = inside_items k ++ (row_items ks ++ end_item 0 ∷ behind) in
      undamaged n (option_map head_view) (Some (head_of k)) next t f (h.node (head_of k) next (coming-as n s.files s.cursor _ _ (items-of k ks behind) coming))

left-same : (n : ℕ) (told now : Option Files) (c d : PlainCursor) (h : Option PlainHead) (ks : PlainNodes) (behind : List PlainItem) → now ≡ told → d ≡ c → Left n told c h ks behind → Left n now d h ks behind
left-same n told now c d h ks behind files same left = subst (λ f. Left n f d h ks behind) (sym files) (subst (λ k. Left n told k h ks behind) (sym same) left)

-- ---- a head of each archive

module _ (n : ℕ) (s m : State) (same : m.second ≡ s.second) (within : s.second.at ≤ s.second.length) where
  -- that of the first was not read
  pub heads-first : (f : CopyFault) → HeadRead 0 (with_first s) (with_first m) (Err f) → HeadsRead n s m (Err (of_side false f))
  heads-first f h = record {
    passes = subst (λ e. Passes [] s m (Some e)) (sym (any-side false f)) (first-passes [] s m (Some f) within same h.passes);
    not_long = subst (λ e. IfLong (Some e) ⊥) (sym (any-side false f)) h.not_long;
    onward = tt;
    short = λ b one two. tt;
    first = λ ks behind coming. spares-own-first f (head-undamaged 0 (with_first s) (with_first m) f h ks behind coming);
    second = λ js behind coming. spares-second (Some f);
  }

  module _ (t : State) (still : t.first ≡ m.first) (o : Option Head) (h : HeadRead 0 (with_first s) (with_first m) (Ok o)) where
    went : Passes [] s m None
    went = first-passes [] s m None within same h.passes

    there : m.first.at ≤ m.first.length
    there = (let passes = h.passes in passes.within)

    files : m.files ≡ s.files
    files = (let passes = h.passes in passes.same_files)

    -- what comes in the second
    still-comes : (xs : List PlainItem) → Coming n s.files s.second xs → Coming n m.files m.second xs
    still-comes xs coming = coming-same n xs (with_second s) (with_second m) files same coming

    -- that of the second was not read
    pub heads-second : (f : CopyFault) → HeadRead n (with_second m) (with_second t) (Err f) → HeadsRead n s t (Err (of_side true f))
    heads-second f g = record {
      passes = subst (λ e. Passes [] s t (Some e)) (sym (any-side true f)) (passes-then [] [] s m t (Some f) went (second-passes [] m t (Some f) there still g.passes));
      not_long = subst (λ e. IfLong (Some e) ⊥) (sym (any-side true f)) g.not_long;
      onward = tt;
      short = λ b one two. tt;
      first = λ ks behind coming. spares-first (Some f);
      second = λ js behind coming. spares-own-second f (head-undamaged n (with_second m) (with_second t) f g js behind (still-comes (row_items js ++ end_item 0 ∷ behind) coming));
    }

    -- both were read
    pub heads-read : (r : Option Head) → HeadRead n (with_second m) (with_second t) (Ok r) → HeadsRead n s t (Ok (record { one = o; two = r }))
    heads-read r g =
        let more = g.passes in
        record {
          passes = passes-then [] [] s m t None went (second-passes [] m t None there still g.passes);
          not_long = tt;
          onward = (
              let a = h.onward in
              let b = g.onward in
              let x = ap (λ (c : PlainCursor). c.at) still in
              let y = ap (λ (c : PlainCursor). c.at) same in
              omega (arith, a, b, x, y));
          short = λ b one two. (
            short-shown (IsShortHead (IsRaisedOf b 0) b) o (h.short b one),
            short-shown (IsShortHead (IsRaisedOf b n) b) r (g.short b (let long = ap (λ (c : PlainCursor). c.length) same in omega (arith, long, two))),
          );
          first = λ ks behind coming. left-same 0 m.files t.files m.first t.first (option_map head_view o) ks behind more.same_files still (head-left 0 (with_first s) (with_first m) o h ks behind coming);
          second = λ js behind coming. head-left n (with_second m) (with_second t) r g js behind (still-comes (row_items js ++ end_item 0 ∷ behind) coming);
        }

-- ---- a node that one archive has alone

alone-set : (p q both : List (ℕ × ℕ)) (s : Stamp) → (q ≡ [] → both ≡ p) → unwrap_or s p ≡ set_in (alone p q s) both
alone-set p [] both None same = sym (same refl)
alone-set p [] both (Some t) same = refl
alone-set p (r ∷ rs) both s same = refl

alone-stored : (S : List (ℕ × ℕ) → Type 0) (p q : List (ℕ × ℕ)) (s : Stamp) → S p → IfStored S s → IfStored S (alone p q s)
alone-stored S p [] s h g = g
alone-stored S p (r ∷ rs) None h g = h
alone-stored S p (r ∷ rs) (Some t) h g = g

own-passes : (S : List (ℕ × ℕ) → Type 0) (p : List (ℕ × ℕ)) (s : Stamp) → S p → IfStored S s → S (unwrap_or s p)
own-passes S p None h g = h
own-passes S p (Some t) h g = g

-- the calls, with the set that the node has
alone-opened : (p q both : List (ℕ × ℕ)) (k : PlainNode) → (q ≡ [] → both ≡ p)
    → (let h = head_of k in call_of h.kind h.label (alone p q h.stamp) (unwrap_or h.stamp p) ∷ inside_calls (unwrap_or h.stamp p) k) ≡ node_calls both (alone_node p q k)
alone-opened p q both (inner_node l s ks) same = ap (λ set. call_of Inner l (alone p q s) set ∷ (row_calls set ks ++ call_end_inner ∷ [])) (alone-set p q both s same)
alone-opened p q both (leaf_node l s xs) same = ap (λ set. call_of Leaf l (alone p q s) set ∷ (alt_calls xs ++ call_end_leaf ∷ [])) (alone-set p q both s same)

alone-calls : (p q both : List (ℕ × ℕ)) (k : PlainNode) (h : PlainHead) (stamp : Stamp) (set : List (ℕ × ℕ)) → (q ≡ [] → both ≡ p) → h ≡ head_of k → stamp ≡ alone p q h.stamp → set ≡ unwrap_or h.stamp p
    → call_of h.kind h.label stamp set ∷ inside_calls set k ≡ node_calls both (alone_node p q k)
alone-calls p q both k h stamp set same the stored own =
    (λ i. call_of h.kind h.label (stored i) (own i) ∷ inside_calls (own i) k)
    ∙ ap (λ (z : PlainHead). call_of z.kind z.label (alone p q z.stamp) (unwrap_or z.stamp p) ∷ inside_calls (unwrap_or z.stamp p) k) the
    ∙ alone-opened p q both k same

copy-stops : (n : ℕ) (cs made : List WriterCall) (next : WriterCall) (mid behind : List PlainItem) (ks : PlainNodes) (t : copy.State) (now : Option PlainHead) (f : CopyFault) → Matches n cs made next mid t (Some f) → AreCalls cs made next (Some f) × LeavesOne n ks behind t now (Some f)
copy-stops n cs made next mid behind ks t now Damage h = absurd h
copy-stops n cs made next mid behind ks t now TooLong h = (h, tt)
copy-stops n cs made next mid behind ks t now Folder h = (tt, tt)
copy-stops n cs made next mid behind ks t now Memory h = (tt, tt)

read-stops : (n : ℕ) (cs made : List WriterCall) (next : WriterCall) (behind : List PlainItem) (ks : PlainNodes) (t : copy.State) (now : Option PlainHead) (f : CopyFault) → IfLong (Some f) ⊥ → f ≢ Damage → AreCalls cs made next (Some f) × LeavesOne n ks behind t now (Some f)
read-stops n cs made next behind ks t now Damage long not = absurd (not refl)
read-stops n cs made next behind ks t now TooLong long not = absurd long
read-stops n cs made next behind ks t now Folder long not = (tt, tt)
read-stops n cs made next behind ks t now Memory long not = (tt, tt)

read-run : (s t : copy.State) (e : Option CopyFault) → IfLong e ⊥ → t.writer ≡ s.writer → passing.Passes [] s t e → Run [] call_finish s t e
read-run s t e not same h = run-none call_finish s t e (not-long e not) same h

module _ (n : ℕ) (p q : List (ℕ × ℕ)) (h : PlainHead) where
  -- memory failed before the node was begun
  pub alone-memory : (now : Option PlainHead) (s : copy.State) → IsMeter s.numbers → s.cursor.at ≤ s.cursor.length → PassedAlone n p q (Some h) now s s (Some Memory)
  alone-memory now s meter within = record {
    made = [];
    next = call_finish;
    run = run-none call_finish s s (Some Memory) (λ e. absurd cc) refl (passes-none s (Some Memory) meter within (λ e. absurd cc));
    rests = tt;
    onward = tt;
    short = λ b file own old. (short-none (IsRaisedOf b n) b call_finish (Some Memory) (λ e. absurd cc), tt);
    node = λ both k ks behind same left. (tt, tt);
  }

  module _ (stamp : Stamp) (set : List (ℕ × ℕ)) (stored : stamp ≡ alone p q h.stamp) (own : set ≡ unwrap_or h.stamp p) (s t : copy.State) where
    alone-short : (e : Option CopyFault) (g : NodeCopied n h stamp set s t e) (b : ℕ) → s.cursor.length + 12 ≤ b → IsRaisedOf b n p → IsShortHead (IsRaisedOf b n) b h → AreShort (IsRaisedOf b n) b g.made g.next e
    alone-short e g b file parent short =
        g.short b file short.label (subst (IfStored (IsRaisedOf b n)) (sym stored) (alone-stored (IsRaisedOf b n) p q h.stamp parent short.stamp))
        (subst (IsRaisedOf b n) (sym own) (own-passes (IsRaisedOf b n) p h.stamp parent short.stamp))

    alone-matches : (e : Option CopyFault) (g : NodeCopied n h stamp set s t e) (both : List (ℕ × ℕ)) (k : PlainNode) (ks : PlainNodes) (behind : List PlainItem) → (q ≡ [] → both ≡ p) → Left n s.files s.cursor (Some h) (node k ks) behind
        → Matches n (node_calls both (alone_node p q k)) g.made g.next (row_items ks ++ end_item 0 ∷ behind) t e
    alone-matches e g both k ks behind same left =
        let the : h ≡ head_of k = some_is h (head_of k) left.0 in
        let next = row_items ks ++ end_item 0 ∷ behind in
        subst (λ cs. Matches n cs g.made g.next next t e) (alone-calls p q both k h stamp set same the stored own) (g.inside k next the left.1)

    -- the node was not written
    pub alone-fault : (now : Option PlainHead) (f : CopyFault) → NodeCopied n h stamp set s t (Some f) → PassedAlone n p q (Some h) now s t (Some f)
    alone-fault now f g = record {
      made = g.made;
      next = g.next;
      run = g.run;
      rests = tt;
      onward = tt;
      short = λ b file parent old. (alone-short (Some f) g b file parent old, tt);
      node = λ both k ks behind same left. copy-stops n (node_calls both (alone_node p q k)) g.made g.next (row_items ks ++ end_item 0 ∷ behind) behind ks t now f (alone-matches (Some f) g both k ks behind same left);
    }

    module _ (g : NodeCopied n h stamp set s t None) (u : copy.State) (same-writer : u.writer ≡ t.writer) where
      long-there : (b : ℕ) → s.cursor.length + 12 ≤ b → t.cursor.length + 12 ≤ b
      long-there b file = (let run = g.run in let passes = run.passes in let long = passes.same_length in omega (arith, long, file))

      -- the next head was not read
      pub alone-unread : (now : Option PlainHead) (f : CopyFault) → HeadRead n t u (Err f) → PassedAlone n p q (Some h) now s u (Some f)
      alone-unread now f r = record {
        made = g.made ++ [];
        next = call_finish;
        run = run-then g.made [] g.next call_finish s t u (Some f) g.run (read-run t u (Some f) r.not_long same-writer r.passes);
        rests = tt;
        onward = tt;
        short = λ b file parent old. (short-then (IsRaisedOf b n) b g.made [] g.next call_finish (Some f) (alone-short None g b file parent old) (read-short (IsRaisedOf b n) b (Some f) r.not_long), tt);
        node = λ both k ks behind same left. (
            let written = alone-matches None g both k ks behind same left in
            read-stops n (node_calls both (alone_node p q k)) (g.made ++ []) call_finish behind ks u now f r.not_long (head-undamaged n t u f r ks behind written.1));
      }

      -- it was
      pub alone-passed : (o : Option Head) → HeadRead n t u (Ok o) → PassedAlone n p q (Some h) (option_map head_view o) s u None
      alone-passed o r = record {
        made = g.made ++ [];
        next = call_finish;
        run = run-then g.made [] g.next call_finish s t u None g.run (read-run t u None tt same-writer r.passes);
        rests = subst (λ (w : PlainWriter). Rests s.writer w) (sym same-writer) g.rests;
        onward = (let run = g.run in let passes = run.passes in let a = passes.onward in let b = r.onward in omega (arith, a, b));
        short = λ b file parent old. (
          short-then (IsRaisedOf b n) b g.made [] g.next call_finish None (alone-short None g b file parent old) (read-short (IsRaisedOf b n) b None tt),
          short-shown (IsShortHead (IsRaisedOf b n) b) o (r.short b (long-there b file)),
        );
        node = λ both k ks behind same left. (
            let written = alone-matches None g both k ks behind same left in
            (append-nil g.made ∙ written.0, head-left n t u o r ks behind written.1));
      }
