-- What joining a node that both have goes along.
use Rattle.std.proofs.Common.{◌≡◌, ◌≢◌, ℕ, ◌+◌, ◌≤◌, ◌<◌, List, [], ◌∷◌, ◌++◌, length, Option, Some, None, Ok, Err, false, IfSome, refl, sym, ap, subst, ◌∙◌, append_assoc, append-nil, arith}
use Rattle.std.specs.Option.{option_map, unwrap_or}
use Rattle.version_set.specs.Members.{united}
use Rattle.xa_fields.proofs.Fields.{some_is}
use Rattle.xa_outside.specs.Folder.{Files}
use Rattle.xa_outside.specs.Numbers.{IsMeter}
use Rattle.keyed_tree.specs.Data.{PlainLabel}
use Rattle.archive_tree.specs.Data.{Stamp, PlainAlt, PlainNode, inner_node, leaf_node, PlainNodes, node, nodes_list}
use Rattle.record_format.specs.Nodes.{set_in}
use Rattle.record_cursor.specs.Items.{PlainItem, leaf_end_item, end_item}
use Rattle.record_cursor.specs.View.{PlainCursor}
use Rattle.record_writer.specs.Data.{PlainWriter, WriterCall, call_end_leaf, call_end_inner, call_finish}
use Rattle.record_writer.specs.Calls.{appended, after, after_all}
use Rattle.record_writer.specs.Walks.{alt_calls, node_calls, row_calls}
use Rattle.record_copy.specs.Faults.{Unless}
use Rattle.record_copy.specs.Parts.{PlainHead, head_of}
use Rattle.record_copy.specs.Passes.{Rests, Closes, IsOpen, EndsKind, call_of}
use Rattle.record_copy.specs.Reads.{IsShortHead}
use Rattle.record_copy.specs.Runs as copy
use Rattle.record_copy.specs.Seen.{Coming, row_items, inside_items}
use Rattle.record_copy.specs.Short.{AreShort, IfStored, IsRaisedOf, IsShortCall, IsShortLabel}
use Rattle.record_copy.specs.declared.kind.Kind.{Kind}
use Rattle.record_copy.specs.declared.kind.Kind.TheVariants.{Inner, Leaf}
use Rattle.record_copy.specs.declared.fault.CopyFault.{CopyFault}
use Rattle.record_copy.specs.declared.fault.CopyFault.TheVariants.{Damage, Folder, TooLong, Memory}
use Rattle.record_copy.proofs.Alternating.{not-long}
use Rattle.record_copy.proofs.Running.{short-part, short-then, short-none}
use Rattle.archive_join.specs.Faults.{of_any, of_side, plain}
use Rattle.archive_join.specs.Heads.{AreShortHeads, HeadsRead, Left, one_of, two_of}
use Rattle.archive_join.specs.Joined.{joined_alts, joined_node, joined_row, paired}
use Rattle.archive_join.specs.Leaves.{LeafJoined}
use Rattle.archive_join.specs.Meets.{Meet}
use Rattle.archive_join.specs.Passes.{Passes}
use Rattle.archive_join.specs.Runs.{Run, AreCalls, KeepsFirst, KeepsSecond}
use Rattle.archive_join.specs.Short.{IsMadeOf}
use Rattle.archive_join.specs.State.{State, with_first}
use Rattle.archive_join.specs.Walked.{RowsFit, RowJoined, NodeJoined, InnerJoined, InsideJoined, PairJoined}
use Rattle.archive_join.specs.declared.fault.JoinFault.{JoinFault}
use Rattle.archive_join.specs.declared.fault.JoinFault.TheVariants as fault
use Rattle.archive_join.specs.declared.heads.Heads.{Heads}
use Rattle.archive_join.proofs.Passing.{passes-none}
use Rattle.archive_join.proofs.Running.{run-then, run-none, first-run, run-as, calls-then, calls-fault, calls-as, calls-part, spares-second, spares-own-first, comes-still}
use Rattle.archive_join.proofs.SetLaws.{paired_made}
use Rattle.archive_join.proofs.JoinWalking.{calls-stopped, never-long, same-side}
use Rattle.record_cursor.specs.NodeItems.{alt_items}
use Rattle.record_copy.proofs.Copying.{ends-rest, open-stands, ended-closes}

-- ---- writers

closes : (v w x : PlainWriter) (e : Option CopyFault) → v.inners ≢ [] → Rests v w → (made : List WriterCall) → Unless e (x ≡ after_all w made) → Unless e (made ≡ call_end_inner ∷ []) → Unless e (Closes v x)
closes v w x None some h made is same =
    let parts = ended-closes w x w.inners (w.written + length (appended w call_end_inner)) (λ none. some (sym h.inners ∙ none)) h.no_leaf (is ∙ ap (after_all w) same) in
    record { no_leaf = parts.0; closed = parts.1; inners = sym h.inners ∙ parts.2 }
closes v w x (Some f) some h made is same = tt

part-undamaged : (cs made : List WriterCall) (next : WriterCall) (f : CopyFault) → copy.IsPart cs made next (Some f) → f ≢ Damage
part-undamaged cs made next Damage h d = absurd h
part-undamaged cs made next TooLong h d = absurd cc
part-undamaged cs made next Folder h d = absurd cc
part-undamaged cs made next Memory h d = absurd cc

-- ---- the node that both have next, and the heads behind it

module _ (n : ℕ) (p q both : List (ℕ × ℕ)) (one two : Option PlainHead) (h j : PlainHead) (is : one ≡ Some h) (are : two ≡ Some j) (s t : State) where
  short-heads : (b : ℕ) → AreShortHeads b n one two → IsShortHead (IsRaisedOf b 0) b h × IsShortHead (IsRaisedOf b n) b j
  short-heads b heads = (subst (λ (z : Option PlainHead). IfSome z (IsShortHead (IsRaisedOf b 0) b)) is heads.0, subst (λ (z : Option PlainHead). IfSome z (IsShortHead (IsRaisedOf b n) b)) are heads.1)

  first-is : (k : PlainNode) → one ≡ Some (head_of k) → h ≡ head_of k
  first-is k e = some_is h (head_of k) (sym is ∙ e)

  second-is : (k : PlainNode) → two ≡ Some (head_of k) → j ≡ head_of k
  second-is k e = some_is j (head_of k) (sym are ∙ e)

  -- the node was not written
  pub pair-fault : (f : JoinFault) → NodeJoined n p q both h j s t (Some f) → PairJoined n p q both one two one two s t (Some f)
  pair-fault f g = record {
    made = g.made;
    next = g.next;
    run = g.run;
    rests = tt;
    onward = tt;
    short = λ b x y few some heads. (let each = short-heads b heads in (g.short b x y few some each.0 each.1, tt));
    first = λ k ks behind l. (let keeps = g.first k (row_items ks ++ end_item 0 ∷ behind) (first-is k l.0) l.1 in keeps.undamaged);
    second = λ k ks behind l. (let keeps = g.second k (row_items ks ++ end_item 0 ∷ behind) (second-is k l.0) l.1 in keeps.undamaged);
    nodes = λ k i ks js others more l r meet. g.nodes k i (row_items ks ++ end_item 0 ∷ others) (row_items js ++ end_item 0 ∷ more) (first-is k l.0) (second-is i r.0) l.1 r.1 meet;
  }

  module _ (u : State) (same : u.writer ≡ t.writer) (g : NodeJoined n p q both h j s t None) where
    comes-first : (k : PlainNode) (ks : PlainNodes) (behind : List PlainItem) → Left 0 s.files s.first one (node k ks) behind → Coming 0 t.files t.first (row_items ks ++ end_item 0 ∷ behind)
    comes-first k ks behind l = (let keeps = g.first k (row_items ks ++ end_item 0 ∷ behind) (first-is k l.0) l.1 in keeps.comes)

    comes-second : (k : PlainNode) (ks : PlainNodes) (behind : List PlainItem) → Left n s.files s.second two (node k ks) behind → Coming n t.files t.second (row_items ks ++ end_item 0 ∷ behind)
    comes-second k ks behind l = (let keeps = g.second k (row_items ks ++ end_item 0 ∷ behind) (second-is k l.0) l.1 in keeps.comes)

    pair-run : (e : Option CopyFault) → e ≢ Some TooLong → Passes [] t u e → Run (g.made ++ []) call_finish s u e
    pair-run e not passes = run-then g.made [] g.next call_finish s t u e g.run (run-none call_finish t u e not same passes)

    pair-short : (e : Option CopyFault) → e ≢ Some TooLong → (b : ℕ) → s.first.length + 12 ≤ b → s.second.length + 12 ≤ b → IsRaisedOf b 0 p → IsRaisedOf b n q → AreShortHeads b n one two → AreShort (IsMadeOf b n) b (g.made ++ []) call_finish e
    pair-short e not b x y few some heads =
        let each = short-heads b heads in
        short-then (IsMadeOf b n) b g.made [] g.next call_finish e (g.short b x y few some each.0 each.1) (short-none (IsMadeOf b n) b call_finish e not)

    -- the heads behind it were not read
    pair-stopped : (f : JoinFault) → HeadsRead n t u (Err f) → PairJoined n p q both one two one two s u (Some f)
    pair-stopped f read =
        let not = not-long (plain (Some f)) read.not_long in
        record {
          made = g.made ++ [];
          next = call_finish;
          run = pair-run (plain (Some f)) not read.passes;
          rests = tt;
          onward = tt;
          short = λ b x y few some heads. (pair-short (plain (Some f)) not b x y few some heads, tt);
          first = λ k ks behind l. read.first ks behind (comes-first k ks behind l);
          second = λ k ks behind l. read.second ks behind (comes-second k ks behind l);
          nodes = λ k i ks js others more l r meet. calls-stopped (node_calls both (joined_node p q k i)) (g.made ++ []) call_finish (of_any f) (never-long (of_any f) read.not_long);
        }

    pair-joined : (heads : Heads) → HeadsRead n t u (Ok heads) → PairJoined n p q both one two (one_of heads) (two_of heads) s u None
    pair-joined heads read =
        let did = g.run in
        let passes = did.passes in
        let left = passes.first in
        let right = passes.second in
        let long = left.same_length in
        let wide = right.same_length in
        record {
          made = g.made ++ [];
          next = call_finish;
          run = pair-run None (λ d. absurd cc) read.passes;
          rests = subst (λ (w : PlainWriter). Rests s.writer w) (sym same) g.rests;
          onward = (let x = left.onward in let y = right.onward in let z : t.first.at + t.second.at < u.first.at + u.second.at = read.onward in omega (arith, x, y, z));
          short = λ b x y few some old. (pair-short None (λ d. absurd cc) b x y few some old, read.short b (omega (arith, long, x)) (omega (arith, wide, y)));
          first = λ k ks behind l. read.first ks behind (comes-first k ks behind l);
          second = λ k ks behind l. read.second ks behind (comes-second k ks behind l);
          nodes = λ k i ks js others more l r meet. append-nil g.made ∙ g.nodes k i (row_items ks ++ end_item 0 ∷ others) (row_items js ++ end_item 0 ∷ more) (first-is k l.0) (second-is i r.0) l.1 r.1 meet;
        }

-- the node was written, of which these are the heads
pub record PairPut (n : ℕ) (p q both : List (ℕ × ℕ)) (one two : Option PlainHead) (s t : State) : Type 0 where
  pub left : PlainHead
  pub right : PlainHead
  pub is : one ≡ Some left
  pub are : two ≡ Some right
  pub put : NodeJoined n p q both left right s t None

pub pair-put : (n : ℕ) (p q both : List (ℕ × ℕ)) (one two : Option PlainHead) (left right : PlainHead) (s t u : State) → one ≡ Some left → two ≡ Some right → u ≡ t → NodeJoined n p q both left right s t None → PairPut n p q both one two s u
pair-put n p q both one two left right s t u is are same h = record { left = left; right = right; is = is; are = are; put = subst (λ (z : State). NodeJoined n p q both left right s z None) (sym same) h }

module _ (n : ℕ) (p q both : List (ℕ × ℕ)) (one two : Option PlainHead) (s t u : State) (same : u.writer ≡ t.writer) (h : PairPut n p q both one two s t) where
  pub put-stopped : (one' two' : Option PlainHead) (f : JoinFault) → one' ≡ one → two' ≡ two → HeadsRead n t u (Err f) → PairJoined n p q both one two one' two' s u (Some f)
  put-stopped one' two' f is are read =
      subst (λ (z : Option PlainHead). PairJoined n p q both one two z two' s u (Some f)) (sym is) (subst (λ (z : Option PlainHead). PairJoined n p q both one two one z s u (Some f)) (sym are)
      (pair-stopped n p q both one two h.left h.right h.is h.are s t u same h.put f read))

  pub put-joined : (heads : Heads) → HeadsRead n t u (Ok heads) → PairJoined n p q both one two (one_of heads) (two_of heads) s u None
  put-joined heads read = pair-joined n p q both one two h.left h.right h.is h.are s t u same h.put heads read

-- ---- sets of a node

set-own : (s : Stamp) (parent own : List (ℕ × ℕ)) → own ≡ unwrap_or s parent → own ≡ set_in s parent
set-own None parent own h = h
set-own (Some t) parent own h = h

own-passes : (S : List (ℕ × ℕ) → Type 0) (s : Stamp) (parent own : List (ℕ × ℕ)) → own ≡ unwrap_or s parent → IfStored S s → S parent → S own
own-passes S None parent own is h g = subst S (sym is) g
own-passes S (Some t) parent own is h g = subst S (sym is) h

short-call : (S : List (ℕ × ℕ) → Type 0) (b : ℕ) (kind : Kind) (l : PlainLabel) (s : Stamp) (set : List (ℕ × ℕ)) → IsShortLabel b l → IfStored S s → S set → IsShortCall S b (call_of kind l s set)
short-call S b Inner l s set h g f = (h, g, f)
short-call S b Leaf l s set h g f = (h, g, f)

-- ---- the calls of a node that both have

-- what writes the inside, with these sets, and closes the node
abbrev inside_calls : List (ℕ × ℕ) → List (ℕ × ℕ) → List (ℕ × ℕ) → PlainNode → PlainNode → List WriterCall
inside_calls p q both (inner_node l s ks) (inner_node m t js) = row_calls both (joined_row p q ks (nodes_list js)) ++ call_end_inner ∷ []
inside_calls p q both (inner_node l s ks) (leaf_node m t ys) = []
inside_calls p q both (leaf_node l s xs) (inner_node m t js) = []
inside_calls p q both (leaf_node l s xs) (leaf_node m t ys) = alt_calls (joined_alts p q xs ys) ++ call_end_leaf ∷ []

abbrev whole_calls : List (ℕ × ℕ) → List (ℕ × ℕ) → List (ℕ × ℕ) → PlainHead → PlainHead → PlainNode → PlainNode → List WriterCall
whole_calls p q both h g k j =
    let stamp = paired p q h.stamp g.stamp in
    call_of h.kind h.label stamp (set_in stamp both) ∷ inside_calls (unwrap_or h.stamp p) (unwrap_or g.stamp q) (set_in stamp both) k j

calls-whole : (p q both : List (ℕ × ℕ)) (k j : PlainNode) → Meet k j → whole_calls p q both (head_of k) (head_of j) k j ≡ node_calls both (joined_node p q k j)
calls-whole p q both (inner_node l s ks) (inner_node m t js) h = refl
calls-whole p q both (inner_node l s ks) (leaf_node m t ys) h = absurd h
calls-whole p q both (leaf_node l s xs) (inner_node m t js) h = absurd h
calls-whole p q both (leaf_node l s xs) (leaf_node m t ys) h = refl

-- ---- what is inside of it

row-coming : (m : ℕ) (told : Option Files) (c : PlainCursor) (ks : PlainNodes) (behind : List PlainItem) → Coming m told c ((row_items ks ++ end_item 0 ∷ []) ++ behind) → Coming m told c (row_items ks ++ end_item 0 ∷ behind)
row-coming m told c ks behind h = subst (λ (xs : List PlainItem). Coming m told c xs) (append_assoc (row_items ks) (end_item 0 ∷ []) behind) h

alternatives-coming : (m : ℕ) (told : Option Files) (c : PlainCursor) (xs : List PlainAlt) (behind : List PlainItem) → Coming m told c ((alt_items xs ++ leaf_end_item ∷ []) ++ behind) → Coming m told c (alt_items xs ++ leaf_end_item ∷ behind)
alternatives-coming m told c xs behind h = subst (λ (zs : List PlainItem). Coming m told c zs) (append_assoc (alt_items xs) (leaf_end_item ∷ []) behind) h

record Part (kind : Kind) (n : ℕ) (p q both : List (ℕ × ℕ)) (s t : State) (ended : Option JoinFault) : Type 0 where
  pub made : List WriterCall
  pub next : WriterCall
  pub run : Run made next s t (plain ended)
  pub ends : Unless (plain ended) (EndsKind kind s.writer t.writer)
  pub short : (b : ℕ) → s.first.length + 12 ≤ b → s.second.length + 12 ≤ b → IsRaisedOf b 0 p → IsRaisedOf b n q → AreShort (IsMadeOf b n) b made next (plain ended)
  pub first : (k : PlainNode) (behind : List PlainItem) → kind ≡ (head_of k).kind → Coming 0 s.files s.first (inside_items k ++ behind) → KeepsFirst behind t ended
  pub second : (j : PlainNode) (behind : List PlainItem) → kind ≡ (head_of j).kind → Coming n s.files s.second (inside_items j ++ behind) → KeepsSecond n behind t ended
  pub nodes : (k j : PlainNode) (others more : List PlainItem) → kind ≡ (head_of k).kind → kind ≡ (head_of j).kind → Coming 0 s.files s.first (inside_items k ++ others) → Coming n s.files s.second (inside_items j ++ more) → Meet k j
      → AreCalls (inside_calls p q both k j) made next (plain ended)

inner-part : (n : ℕ) (p q both : List (ℕ × ℕ)) (s t : State) (e : Option JoinFault) → InnerJoined n p q both s t e → Part Inner n p q both s t e
inner-part n p q both s t e h = record { made = h.made; next = h.next; run = h.run; ends = h.closed; short = h.short; first = kids; second = others_kids; nodes = both_kids }
  where
    kids : (k : PlainNode) (behind : List PlainItem) → Inner ≡ (head_of k).kind → Coming 0 s.files s.first (inside_items k ++ behind) → KeepsFirst behind t e
    kids (inner_node l z ks) behind same coming = h.first ks behind (row-coming 0 s.files s.first ks behind coming)
    kids (leaf_node l z xs) behind same coming = absurd cc

    others_kids : (j : PlainNode) (behind : List PlainItem) → Inner ≡ (head_of j).kind → Coming n s.files s.second (inside_items j ++ behind) → KeepsSecond n behind t e
    others_kids (inner_node l z js) behind same coming = h.second js behind (row-coming n s.files s.second js behind coming)
    others_kids (leaf_node l z ys) behind same coming = absurd cc

    both_kids : (k j : PlainNode) (others more : List PlainItem) → Inner ≡ (head_of k).kind → Inner ≡ (head_of j).kind → Coming 0 s.files s.first (inside_items k ++ others) → Coming n s.files s.second (inside_items j ++ more) → Meet k j
        → AreCalls (inside_calls p q both k j) h.made h.next (plain e)
    both_kids (inner_node l z ks) (inner_node m w js) others more same alike left right meet =
        h.rows ks js others more (row-coming 0 s.files s.first ks others left) (row-coming n s.files s.second js more right) (record { first = meet.0; second = meet.1; meet = meet.2 })
    both_kids (inner_node l z ks) (leaf_node m w ys) others more same alike left right meet = absurd meet
    both_kids (leaf_node l z xs) j others more same alike left right meet = absurd cc

leaf-part : (n : ℕ) (p q both : List (ℕ × ℕ)) (s t : State) (e : Option JoinFault) → LeafJoined n p q s t e → Part Leaf n p q both s t e
leaf-part n p q both s t e h = record { made = h.made; next = h.next; run = h.run; ends = h.rests; short = h.short; first = alternatives; second = others_alternatives; nodes = both_alternatives }
  where
    alternatives : (k : PlainNode) (behind : List PlainItem) → Leaf ≡ (head_of k).kind → Coming 0 s.files s.first (inside_items k ++ behind) → KeepsFirst behind t e
    alternatives (leaf_node l z xs) behind same coming = h.first xs behind (alternatives-coming 0 s.files s.first xs behind coming)
    alternatives (inner_node l z ks) behind same coming = absurd cc

    others_alternatives : (j : PlainNode) (behind : List PlainItem) → Leaf ≡ (head_of j).kind → Coming n s.files s.second (inside_items j ++ behind) → KeepsSecond n behind t e
    others_alternatives (leaf_node l z ys) behind same coming = h.second ys behind (alternatives-coming n s.files s.second ys behind coming)
    others_alternatives (inner_node l z js) behind same coming = absurd cc

    both_alternatives : (k j : PlainNode) (others more : List PlainItem) → Leaf ≡ (head_of k).kind → Leaf ≡ (head_of j).kind → Coming 0 s.files s.first (inside_items k ++ others) → Coming n s.files s.second (inside_items j ++ more) → Meet k j
        → AreCalls (inside_calls p q both k j) h.made h.next (plain e)
    both_alternatives (leaf_node l z xs) (leaf_node m w ys) others more same alike left right meet =
        h.both xs ys others more (alternatives-coming 0 s.files s.first xs others left) (alternatives-coming n s.files s.second ys more right) meet
    both_alternatives (leaf_node l z xs) (inner_node m w js) others more same alike left right meet = absurd meet
    both_alternatives (inner_node l z ks) j others more same alike left right meet = absurd cc

begun-part : (kind : Kind) (n : ℕ) (p q both : List (ℕ × ℕ)) (s t : State) (e : Option JoinFault) → InsideJoined kind n p q both s t e → Part kind n p q both s t e
begun-part Inner n p q both s t e h = inner-part n p q both s t e h
begun-part Leaf n p q both s t e h = leaf-part n p q both s t e h

-- ---- a node that both have, whose heads were read

-- memory fails before it is begun
pub node-memory : (n : ℕ) (p q both : List (ℕ × ℕ)) (one two : PlainHead) (s : State) → IsMeter s.numbers → s.first.at ≤ s.first.length → s.second.at ≤ s.second.length → NodeJoined n p q both one two s s (Some fault.Memory)
node-memory n p q both one two s meter left right = record {
  made = [];
  next = call_finish;
  run = run-none call_finish s s (Some Memory) (λ d. absurd cc) refl (passes-none s (Some Memory) meter left right (λ d. absurd cc));
  rests = tt;
  short = λ b x y few some f g. short-none (IsMadeOf b n) b call_finish (Some Memory) (λ d. absurd cc);
  first = λ k behind is coming. record { undamaged = tt; comes = tt };
  second = λ j behind is coming. record { undamaged = tt; comes = tt };
  nodes = λ k j others more is are l r meet. tt;
}

module _ (n : ℕ) (p q both : List (ℕ × ℕ)) (one two : PlainHead) (whole : both ≡ united p q) (kinds : one.kind ≡ two.kind)
    (stamp : Stamp) (own their set : List (ℕ × ℕ)) (stamped : stamp ≡ paired p q one.stamp two.stamp) (of_one : own ≡ unwrap_or one.stamp p) (of_two : their ≡ unwrap_or two.stamp q) (of_both : set ≡ unwrap_or stamp both)
    (s t : State) (within : s.second.at ≤ s.second.length) (same : t.second ≡ s.second) where
  abbrev call : WriterCall
  call = call_of one.kind one.label stamp set

  calls-are : (k j : PlainNode) → one ≡ head_of k → two ≡ head_of j → Meet k j → call ∷ inside_calls own their set k j ≡ node_calls both (joined_node p q k j)
  calls-are k j is are meet =
      let sets : set ≡ set_in (paired p q one.stamp two.stamp) both = set-own stamp both set of_both ∙ ap (λ z. set_in z both) stamped in
      let begun : call ∷ inside_calls own their set k j ≡ whole_calls p q both one two k j = λ i. call_of one.kind one.label (stamped i) (sets i) ∷ inside_calls (of_one i) (of_two i) (sets i) k j in
      let read : whole_calls p q both one two k j ≡ whole_calls p q both (head_of k) (head_of j) k j = λ i. whole_calls p q both (is i) (are i) k j in
      begun ∙ read ∙ calls-whole p q both k j meet

  call-short : (b : ℕ) → IsRaisedOf b 0 p → IsRaisedOf b n q → IsShortHead (IsRaisedOf b 0) b one → IsShortHead (IsRaisedOf b n) b two → IsShortCall (IsMadeOf b n) b call
  call-short b few some f g =
      let stored = subst (λ (z : Stamp). IfStored (IsMadeOf b n) z) (sym stamped) (paired_made b n p q one.stamp two.stamp few some f.stamp g.stamp) in
      short-call (IsMadeOf b n) b one.kind one.label stamp set f.label stored (own-passes (IsMadeOf b n) stamp both set of_both stored (subst (IsMadeOf b n) (sym whole) (paired_made b n p q None (Some q) few some tt some)))

  -- it was not begun
  pub node-fault : (f : CopyFault) → copy.Sent (call ∷ []) (with_first s) (with_first t) (Some f) → NodeJoined n p q both one two s t (Some (of_side false f))
  node-fault f sent =
      let is = same-side false f in
      record {
        made = sent.made;
        next = sent.next;
        run = run-as sent.made sent.next s t (Some f) _ is (first-run sent.made sent.next s t (Some f) within same sent.run);
        rests = tt;
        short = λ b x y few some h g. subst (λ (e : Option CopyFault). AreShort (IsMadeOf b n) b sent.made sent.next e) is (short-part (IsMadeOf b n) b (call ∷ []) sent.made sent.next (Some f) (call-short b few some h g, tt) sent.part);
        first = λ k behind the coming. record { undamaged = spares-own-first f (part-undamaged (call ∷ []) sent.made sent.next f sent.part); comes = tt };
        second = λ j behind the coming. record { undamaged = spares-second (Some f); comes = tt };
        nodes = λ k j others more the those left right meet. subst (λ (e : Option CopyFault). AreCalls (node_calls both (joined_node p q k j)) sent.made sent.next e) is
            (calls-as (call ∷ inside_calls own their set k j) _ sent.made sent.next (Some f) (calls-are k j the those meet)
            (calls-fault (call ∷ []) (inside_calls own their set k j) sent.made sent.next f (calls-part (call ∷ []) sent.made sent.next (Some f) sent.part)));
      }

  pub node-stopped : (e : Option CopyFault) (f : JoinFault) → ◌≡◌ {A = Option JoinFault} (Some f) (option_map (of_side false) e) → copy.Sent (call ∷ []) (with_first s) (with_first t) e → NodeJoined n p q both one two s t (Some f)
  node-stopped None f is sent = absurd cc
  node-stopped (Some g) f is sent = subst (λ (o : Option JoinFault). NodeJoined n p q both one two s t o) (sym is) (node-fault g sent)

  module _ (e : Option CopyFault) (none : e ≡ None) (did_send : copy.Sent (call ∷ []) (with_first s) (with_first t) e) where
    sent : copy.Sent (call ∷ []) (with_first s) (with_first t) None
    sent = subst (λ (o : Option CopyFault). copy.Sent (call ∷ []) (with_first s) (with_first t) o) none did_send

    begun-writer : t.writer ≡ after s.writer call
    begun-writer = (let did = sent.run in did.writer ∙ ap (after_all s.writer) sent.part)

    pub node-open : s.writer.leaf ≡ None → IsOpen one.kind t.writer
    node-open none = open-stands one.kind one.label stamp set s.writer t.writer none begun-writer

    begun-files : t.files ≡ s.files
    begun-files = (let did = sent.run in let passes = did.passes in passes.same_files)

    node-part : (u : State) (f : Option JoinFault) → Part one.kind n own their set t u f → NodeJoined n p q both one two s u f
    node-part u f g =
        let did = sent.run in
        let passes = did.passes in
        let long = passes.same_length in
        let wide = ap (λ (c : PlainCursor). c.length) same in
        record {
          made = sent.made ++ g.made;
          next = g.next;
          run = run-then sent.made g.made sent.next g.next s t u (plain f) (first-run sent.made sent.next s t None within same did) g.run;
          rests = ends-rest one.kind one.label stamp set s.writer t.writer u.writer (plain f) begun-writer g.ends;
          short = λ b x y few some h i. short-then (IsMadeOf b n) b sent.made g.made sent.next g.next (plain f)
              (short-part (IsMadeOf b n) b (call ∷ []) sent.made sent.next None (call-short b few some h i, tt) sent.part)
              (g.short b (omega (arith, long, x)) (omega (arith, wide, y)) (own-passes (IsRaisedOf b 0) one.stamp p own of_one h.stamp few) (own-passes (IsRaisedOf b n) two.stamp q their of_two i.stamp some));
          first = λ k behind is coming. g.first k behind (ap (λ (z : PlainHead). z.kind) is) (comes-still 0 s.files t.files s.first t.first (inside_items k ++ behind) begun-files sent.same_cursor coming);
          second = λ j behind is coming. g.second j behind (kinds ∙ ap (λ (z : PlainHead). z.kind) is) (comes-still n s.files t.files s.second t.second (inside_items j ++ behind) begun-files same coming);
          nodes = λ k j others more is are left right meet. calls-as (call ∷ inside_calls own their set k j) _ (sent.made ++ g.made) g.next (plain f) (calls-are k j is are meet)
              (calls-then (call ∷ []) (inside_calls own their set k j) sent.made g.made g.next (plain f) sent.part
              (g.nodes k j others more (ap (λ (z : PlainHead). z.kind) is) (kinds ∙ ap (λ (z : PlainHead). z.kind) are) (comes-still 0 s.files t.files s.first t.first (inside_items k ++ others) begun-files sent.same_cursor left)
              (comes-still n s.files t.files s.second t.second (inside_items j ++ more) begun-files same right) meet));
        }

    -- it was begun, and what is inside was joined
    pub node-joined : (u : State) (f : Option JoinFault) → InsideJoined one.kind n own their set t u f → NodeJoined n p q both one two s u f
    node-joined u f g = node-part u f (begun-part one.kind n own their set t u f g)

-- ---- the inner node that rows are in

pub inner-fault : (n : ℕ) (p q both : List (ℕ × ℕ)) (s t : State) (f : JoinFault) → RowJoined n p q both s t (Some f) → InnerJoined n p q both s t (Some f)
inner-fault n p q both s t f h = record {
  made = h.made;
  next = h.next;
  run = h.run;
  closed = tt;
  short = h.short;
  first = h.first;
  second = h.second;
  rows = λ ks js others more l r fits. calls-fault (row_calls both (joined_row p q ks (nodes_list js))) (call_end_inner ∷ []) h.made h.next (of_any f) (h.rows ks js others more l r fits);
}

-- the rows have ended, and the node is closed
module _ (n : ℕ) (p q both : List (ℕ × ℕ)) (s t u : State) (some : s.writer.inners ≢ []) (h : RowJoined n p q both s t None) (within : t.second.at ≤ t.second.length) (same : u.second ≡ t.second) where
  closed-run : (e : Option CopyFault) (sent : copy.Sent (call_end_inner ∷ []) (with_first t) (with_first u) e) → Run (h.made ++ sent.made) sent.next s u e
  closed-run e sent = run-then h.made sent.made h.next sent.next s t u e h.run (first-run sent.made sent.next t u e within same sent.run)

  closed-short : (e : Option CopyFault) (sent : copy.Sent (call_end_inner ∷ []) (with_first t) (with_first u) e) (b : ℕ) → s.first.length + 12 ≤ b → s.second.length + 12 ≤ b → IsRaisedOf b 0 p → IsRaisedOf b n q → AreShort (IsMadeOf b n) b (h.made ++ sent.made) sent.next e
  closed-short e sent b x y few many =
      short-then (IsMadeOf b n) b h.made sent.made h.next sent.next e (h.short b x y few many) (short-part (IsMadeOf b n) b (call_end_inner ∷ []) sent.made sent.next e (tt, tt) sent.part)

  closed-calls : (e : Option CopyFault) (sent : copy.Sent (call_end_inner ∷ []) (with_first t) (with_first u) e) (ks js : PlainNodes) (others more : List PlainItem) → Coming 0 s.files s.first (row_items ks ++ end_item 0 ∷ others) → Coming n s.files s.second (row_items js ++ end_item 0 ∷ more) → RowsFit ks js
      → AreCalls (row_calls both (joined_row p q ks (nodes_list js)) ++ call_end_inner ∷ []) (h.made ++ sent.made) sent.next e
  closed-calls e sent ks js others more l r fits =
      calls-then (row_calls both (joined_row p q ks (nodes_list js))) (call_end_inner ∷ []) h.made sent.made sent.next e (h.rows ks js others more l r fits) (calls-part (call_end_inner ∷ []) sent.made sent.next e sent.part)

  pub inner-closed : (e : Option CopyFault) → copy.Sent (call_end_inner ∷ []) (with_first t) (with_first u) e → InnerJoined n p q both s u (option_map (of_side false) e)
  inner-closed None sent =
      let did = sent.run in
      let passes = did.passes in
      record {
        made = h.made ++ sent.made;
        next = sent.next;
        run = closed-run None sent;
        closed = closes s.writer t.writer u.writer None some h.rests sent.made did.writer sent.part;
        short = closed-short None sent;
        first = λ ks behind coming. (let keeps = h.first ks behind coming in record { undamaged = tt; comes = comes-still 0 t.files u.files t.first u.first behind passes.same_files sent.same_cursor keeps.comes });
        second = λ js behind coming. (let keeps = h.second js behind coming in record { undamaged = tt; comes = comes-still n t.files u.files t.second u.second behind passes.same_files same keeps.comes });
        rows = closed-calls None sent;
      }
  inner-closed (Some f) sent =
      let is = same-side false f in
      record {
        made = h.made ++ sent.made;
        next = sent.next;
        run = run-as (h.made ++ sent.made) sent.next s u (Some f) _ is (closed-run (Some f) sent);
        closed = tt;
        short = λ b x y few many. subst (λ (e : Option CopyFault). AreShort (IsMadeOf b n) b (h.made ++ sent.made) sent.next e) is (closed-short (Some f) sent b x y few many);
        first = λ ks behind coming. record { undamaged = spares-own-first f (part-undamaged (call_end_inner ∷ []) sent.made sent.next f sent.part); comes = tt };
        second = λ js behind coming. record { undamaged = spares-second (Some f); comes = tt };
        rows = λ ks js others more l r fits. subst (λ (e : Option CopyFault). AreCalls (row_calls both (joined_row p q ks (nodes_list js)) ++ call_end_inner ∷ []) (h.made ++ sent.made) sent.next e) is (closed-calls (Some f) sent ks js others more l r fits);
      }
