-- What copying a row goes along.
use Rattle.std.proofs.Common.{◌≡◌, ◌≢◌, ℕ, ◌+◌, ◌≤◌, List, [], ◌∷◌, ◌++◌, length, true≢false, Option, Some, None, Result, Ok, Err, Bool, true, false, IsTrue, refl, sym, ap, subst, ◌∙◌, append_assoc, arith}
use Rattle.std.specs.List.{AllByRecursion}
use Rattle.std.specs.Result.{IfOk}
use Rattle.std.proofs.lemmas.List.{append-nil, length-append}
use Rattle.archive_tree.specs.Data.{PlainNode, PlainNodes, no_nodes, node}
use Rattle.xa_fields.specs.Spelling.{u64_bytes}
use Rattle.record_format.specs.Spelling.{dir_bytes}
use Rattle.record_cursor.specs.Items.{PlainItem, end_item}
use Rattle.record_cursor.specs.Moves.{Comes}
use Rattle.record_writer.specs.Data.{PlainWriter, call_end_inner}
use Rattle.record_writer.specs.Calls.{appended, all_appended}
use Rattle.record_writer.specs.Walks.{node_calls, row_calls}
use Rattle.stream_merge.specs.Copied.{RowCopied, InsideCopied, ChildCopied}
use Rattle.stream_merge.specs.Does.{Made, Sent, Does}
use Rattle.stream_merge.specs.Items.{IsWithin}
use Rattle.stream_merge.specs.Passes.{Rests, Closes, Unless, fault_of, unpaid}
use Rattle.record_copy.specs.State.{State}
use Rattle.stream_merge.specs.declared.fault.MergeFault.{MergeFault}
use Rattle.stream_merge.proofs.States.{passes-then, passes-fault, passes-paid, does-then, does-sends, does-fault}
use Rattle.stream_merge.proofs.Copies.{all-front, all-back, no-more, rests-behind}
use Rattle.stream_merge.proofs.Rooms.{went-then, went-sent}
use Rattle.record_cursor.specs.NodeItems.{node_items, row_items}
use Rattle.record_copy.proofs.Copying.{ended-closes}

-- ---- the node that comes next, or the END

module _ (q : List (ℕ × ℕ)) (s t : State) where
  first-copied : (r : Result Bool MergeFault) (h : ChildCopied q s t r) (w : ℕ) (k : PlainNode) (ks : PlainNodes) (n : ℕ) (next : List PlainItem) → AllByRecursion (IsWithin w) (row_items q (node k ks) ++ end_item n ∷ [])
      → Comes s.files s.cursor (row_items q (node k ks) ++ end_item n ∷ next) → IfOk r (λ m. IsTrue m) × Does h.appended w (node_calls q k) (row_items q ks ++ end_item n ∷ next) s t (fault_of r)
  first-copied r h w k ks n next small comes =
      h.node_copied w k (row_items q ks ++ end_item n ∷ next) (all-front w (node_items q k) (row_items q ks) (all-front w (node_items q k ++ row_items q ks) (end_item n ∷ []) small))
      (subst (λ (xs : List PlainItem). Comes s.files s.cursor xs) (append_assoc (node_items q k) (row_items q ks) (end_item n ∷ next)) comes)

  -- a node, and the rest of the row
  pub row-then : (u : State) (e : Option MergeFault) → ChildCopied q s t (Ok true) → RowCopied q t u e → RowCopied q s u e
  row-then u e h g = record {
    appended = h.appended ++ g.appended;
    passes = passes-then h.appended g.appended s t u e 0 unpaid unpaid (omega arith) h.passes g.passes;
    rests = (let rests = h.rests in rests-behind s.writer t.writer u.writer e rests.inners g.rests);
    went = λ b n file set. went-then b n h.appended g.appended s.writer t.writer u.writer e (h.went b n file set) (g.went b n (let passes = h.passes in let long = passes.same_length in omega (arith, long, file)) set);
    row = nodes;
  }
    where
      nodes : (w : ℕ) (ks : PlainNodes) (n : ℕ) (next : List PlainItem) → AllByRecursion (IsWithin w) (row_items q ks ++ end_item n ∷ []) → Comes s.files s.cursor (row_items q ks ++ end_item n ∷ next)
          → Does (h.appended ++ g.appended) w (row_calls q ks) next s u e
      nodes w no_nodes n next small comes = absurd (true≢false (h.end_taken w n next small.0 comes).0)
      nodes w (node k ks) n next small comes =
          let c = first-copied (Ok true) h w k ks n next small comes in
          let d = c.1 in
          let left = all-back w (node_items q k) (row_items q ks ++ end_item n ∷ []) (subst (λ (xs : List PlainItem). AllByRecursion (IsWithin w) xs) (append_assoc (node_items q k) (row_items q ks) (end_item n ∷ [])) small) in
          does-then h.appended g.appended s t u e w (node_calls q k) (row_calls q ks) (row_items q ks ++ end_item n ∷ next) next (no-more h.passes) d (g.row w ks n next left d.follows)

  pub row-done : ChildCopied q s t (Ok false) → RowCopied q s t None
  row-done h = record { appended = h.appended; passes = h.passes; rests = h.rests; went = h.went; row = none }
    where
      none : (w : ℕ) (ks : PlainNodes) (n : ℕ) (next : List PlainItem) → AllByRecursion (IsWithin w) (row_items q ks ++ end_item n ∷ []) → Comes s.files s.cursor (row_items q ks ++ end_item n ∷ next)
          → Does h.appended w (row_calls q ks) next s t None
      none w no_nodes n next small comes = (h.end_taken w n next small.0 comes).1
      none w (node k ks) n next small comes = absurd (true≢false (sym (first-copied (Ok false) h w k ks n next small comes).0))

  pub row-fault : (f : MergeFault) → ChildCopied q s t (Err f) → RowCopied q s t (Some f)
  row-fault f h = record { appended = h.appended; passes = passes-fault h.appended s t f 0 unpaid h.passes; rests = tt; went = h.went; row = stops }
    where
      stops : (w : ℕ) (ks : PlainNodes) (n : ℕ) (next : List PlainItem) → AllByRecursion (IsWithin w) (row_items q ks ++ end_item n ∷ []) → Comes s.files s.cursor (row_items q ks ++ end_item n ∷ next)
          → Does h.appended w (row_calls q ks) next s t (Some f)
      stops w no_nodes n next small comes = (h.end_taken w n next small.0 comes).1
      stops w (node k ks) n next small comes =
          does-fault h.appended h.appended s t f w (node_calls q k) (row_calls q ks) (row_items q ks ++ end_item n ∷ next) next (first-copied (Err f) h w k ks n next small comes).1

-- ---- the loop

-- what is copied from here on is copied from the first node on
pub record RowOn (q : List (ℕ × ℕ)) (s t : State) : Type 0 where
  pub same_length : t.cursor.length ≡ s.cursor.length
  pub onward : s.cursor.at ≤ t.cursor.at
  pub within : t.cursor.at ≤ t.cursor.length
  pub no_leaf : t.writer.leaf ≡ None
  pub rest : (u : State) (e : Option MergeFault) → RowCopied q t u e → RowCopied q s u e

pub row-start : (q : List (ℕ × ℕ)) (s : State) → s.cursor.at ≤ s.cursor.length → s.writer.leaf ≡ None → RowOn q s s
row-start q s within leaf = record { same_length = refl; onward = omega arith; within = within; no_leaf = leaf; rest = λ u e h. h }

-- one more node
pub row-on : (q : List (ℕ × ℕ)) (s t u : State) → RowOn q s t → ChildCopied q t u (Ok true) → RowOn q s u
row-on q s t u on h =
    let passes = h.passes in
    let rests = h.rests in
    record {
      same_length = passes.same_length ∙ on.same_length;
      onward = (let a = on.onward in let b = passes.onward in omega (arith, a, b));
      within = passes.within;
      no_leaf = rests.no_leaf;
      rest = λ v e g. on.rest v e (row-then q t u v e h g);
    }

-- ---- the node that a row is in

pub inside-fault : (q : List (ℕ × ℕ)) (s t : State) (f : MergeFault) → RowCopied q s t (Some f) → InsideCopied q s t (Some f)
inside-fault q s t f h = record {
  appended = h.appended;
  passes = passes-fault h.appended s t f unpaid 0 h.passes;
  closed = tt;
  went = h.went;
  inside = λ w ks n next small comes. does-fault h.appended h.appended s t f w (row_calls q ks) (call_end_inner ∷ []) next next (h.row w ks n next small comes);
}

pub end-long : (w : PlainWriter) → unpaid ≤ length (all_appended w (call_end_inner ∷ []))
end-long w =
    let long : length (all_appended w (call_end_inner ∷ [])) ≡ length (appended w call_end_inner) = ap length (append-nil (appended w call_end_inner)) in
    omega (arith, long, length-append (u64_bytes (length (dir_bytes w.row.dir))) (dir_bytes w.row.dir))

pub closes : (x : List ℕ) (s t u : State) (e : Option MergeFault) → s.writer.inners ≢ [] → Rests s.writer t.writer → Made x (call_end_inner ∷ []) t u e → Unless e (Closes s.writer u.writer)
closes x s t u None some h made =
    let v = t.writer in
    let parts = ended-closes v u.writer v.inners (v.written + length (appended v call_end_inner)) (λ none. some (sym h.inners ∙ none)) h.no_leaf made.writer in
    record { no_leaf = parts.0; closed = parts.1; inners = sym h.inners ∙ parts.2 }
closes x s t u (Some f) some h made = tt

-- the row has ended, and the node is closed
pub inside-close : (q : List (ℕ × ℕ)) (s t u : State) (e : Option MergeFault) → s.writer.inners ≢ [] → RowCopied q s t None → Sent (call_end_inner ∷ []) t u e → InsideCopied q s u e
inside-close q s t u e some h sent =
    let sends = sent.sends in
    record {
      appended = h.appended ++ sent.appended;
      passes = passes-paid h.appended sent.appended unpaid s t u (call_end_inner ∷ []) e (end-long t.writer) h.passes sends;
      closed = closes sent.appended s t u e some h.rests sends.made;
      went = λ b n file set. went-then b n h.appended sent.appended s.writer t.writer u.writer e (h.went b n file set) (went-sent b n (call_end_inner ∷ []) t u e (tt, tt) sent);
      inside = λ w ks n next small comes. does-sends h.appended sent.appended s t u e w (row_calls q ks) (call_end_inner ∷ []) next (h.row w ks n next small comes) sends;
    }
