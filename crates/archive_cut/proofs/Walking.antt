-- What cutting the nodes of a row goes along.
use Rattle.std.proofs.Common.{IfOk, IsTrue, ◌≡◌, ◌≢◌, ℕ, ◌+◌, ◌-◌, ◌*◌, ◌≤◌, ◌<◌, List, [], ◌∷◌, ◌++◌, length, Option, Some, None, Result, Ok, Err, Bool, true, false, cond, true≢false, refl, sym, ap, subst, ◌∙◌, append_assoc, arith}
use Rattle.std.proofs.lemmas.List.{append-nil}
use Rattle.std.specs.Option.{option_map}
use Rattle.std.specs.List.{AllByRecursion}
use Rattle.timestamp_tree.specs.Bytes.{set_bytes}
use Rattle.version_set.specs.Pairs.{IsCanonical}
use Rattle.version_set.specs.Members.{members}
use Rattle.version_set.specs.View.{pairs_of}
use Rattle.version_set.specs.declared.set.VersionSet.{VersionSet}
use Rattle.version_set.proofs.MembersLemmas.{members-injective}
use Rattle.keyed_tree.specs.Data.{PlainLabel}
use Rattle.archive_tree.specs.Data.{Stamp, PlainNode, inner_node, leaf_node, PlainNodes, no_nodes, node, node_stamp}
use Rattle.archive_tree.specs.PartsTest.{is_none, is_same}
use Rattle.archive_tree.specs.View.{stamp_view}
use Rattle.archive_tree.proofs.Tells.{is_same-exact}
use Rattle.record_format.specs.Nodes.{set_in}
use Rattle.record_parts.specs.Spelling.{label_bytes}
use Rattle.record_parts.specs.declared.views.LabelView.{LabelView}
use Rattle.record_parts.specs.declared.views.StampView.{StampView}
use Rattle.record_cursor.specs.Items.{PlainItem, inner_item, leaf_item, leaf_end_item, end_item}
use Rattle.record_cursor.specs.Moves.{Comes}
use Rattle.record_cursor.specs.Next.{size_of}
use Rattle.record_cursor.specs.Faults as cursor
use Rattle.record_cursor.specs.View.{shown_item}
use Rattle.record_cursor.specs.declared.fault.CursorFault.{CursorFault}
use Rattle.record_cursor.specs.declared.fault.CursorFault.TheVariants as read
use Rattle.record_cursor.specs.declared.item.Item.{Item}
use Rattle.record_cursor.specs.declared.item.Item.TheVariants as the_item
use Rattle.record_writer.specs.Data.{PlainWriter, WriterCall, call_end_leaf, call_end_inner, call_finish}
use Rattle.record_writer.specs.Calls.{after, after_all}
use Rattle.record_writer.specs.Walks.{alt_calls, node_calls, row_calls}
use Rattle.record_copy.specs.Faults.{Unless, fault_of, of_cursor}
use Rattle.record_copy.specs.Parts.{opening_of}
use Rattle.record_copy.specs.Passes.{Passes, Rests, IsOpen, EndsKind, call_of}
use Rattle.record_copy.specs.Runs.{Run, Sent}
use Rattle.record_copy.specs.Short.{IfStored, IsShortCall, AreShort}
use Rattle.record_copy.specs.State.{State}
use Rattle.record_copy.specs.declared.kind.Kind.{Kind}
use Rattle.record_copy.specs.declared.kind.Kind.TheVariants.{Inner, Leaf}
use Rattle.record_copy.specs.declared.fault.CopyFault.{CopyFault}
use Rattle.record_copy.specs.declared.fault.CopyFault.TheVariants.{Damage, TooLong, Folder, Memory}
use Rattle.record_copy.proofs.Alternating.{not-long, rests-behind, whole-part}
use Rattle.record_copy.proofs.Copying.{call-short, closes, ends-rest, moreover, open-stands}
use Rattle.record_copy.proofs.FewBytes.{IsFewStamp, opening-long, opening-parts}
use Rattle.record_copy.proofs.Passing.{Nexts, Stays, gave, gave-stop, failed, given}
use Rattle.record_copy.proofs.Reading.{Opener, not-long-cursor, within-file}
use Rattle.record_copy.proofs.Running.{run-then, run-none, short-none, short-part, short-then}
use Rattle.record_cursor.specs.NodeItems.{alt_items, node_items, row_items, end_of}
use Rattle.archive_cut.specs.Opened.{opening_calls}
use Rattle.archive_cut.specs.Runs.{Matches}
use Rattle.archive_cut.specs.Short.{IsLeftOf}
use Rattle.archive_cut.specs.Skipped.{Follows, BegunSkipped}
use Rattle.archive_cut.specs.Sliced.{cut_set, is_gone, stamp_under, cut_stamp, sliced_alts, sliced_node, sliced_row}
use Rattle.archive_cut.specs.Walked.{AreAltsApart, AreApart, IsApart, calls_left, RowCut, InsideCut, LeafCut, BegunCut, OpenedCut, Gone, IsOpenIf, IsOwnLeft, ChildCut}
use Rattle.archive_cut.specs.Windows.{set_left, stamp_left}
use Rattle.archive_cut.proofs.Clips.{IsCanonical-cut}
use Rattle.archive_cut.proofs.Leaving.{left-set, left-stamp}
use Rattle.archive_cut.proofs.Matching.{matches-then, matches-fault, matches-part}
use Rattle.archive_cut.proofs.Skips.{behind_first, opens, node-given, no-node, not-end, moves-on, Behind, row-behind, alts-behind}
use Rattle.record_parts.specs.Shapes.{FitsLabel}
use Rattle.record_copy.proofs.ItemKinds.{first, not-first}

-- ---- sets

-- the set under a parent of a stamp that is stored where they differ
under-set : (parent s : List (ℕ × ℕ)) → IsCanonical parent → IsCanonical s → set_in (stamp_under parent s) parent ≡ s
under-set parent s p c = elim (is_same (members s) (members parent)) as (λ b. is_same (members s) (members parent) ≡ b → set_in (cond {A = Stamp} b None (Some s)) parent ≡ s) [
  | true ↦ λ e. sym (members-injective s parent c p ((is_same-exact (members s) (members parent)).0 e))
  | false ↦ λ e. refl
] refl

-- the stamp that is left
pub stamp-of : (i j : ℕ) (q now : List (ℕ × ℕ)) (st s : Stamp) → now ≡ cut_set i j q → stamp_left i j now st ≡ Some s → s ≡ cut_stamp i j q st
stamp-of i j q now st s is h =
    elim (is_none (members (set_left i j now st))) as (λ b. cond {A = Option Stamp} b None (Some (stamp_under now (set_left i j now st))) ≡ Some s → s ≡ cut_stamp i j q st) [
      | true ↦ λ e. absurd cc
      | false ↦ λ e. (let same : stamp_under now (set_left i j now st) ≡ s = some_is _ _ e in sym same ∙ (λ z. stamp_under (is z) (set_left i j (is z) st)) ∙ ap (stamp_under (cut_set i j q)) (left-set i j q st))
    ] h
  where
    some_is : (a b : Stamp) → ◌≡◌ {A = Option Stamp} (Some a) (Some b) → a ≡ b
    some_is a b e = cc

pub not-gone : (i j : ℕ) (q now : List (ℕ × ℕ)) (st s : Stamp) → now ≡ cut_set i j q → stamp_left i j now st ≡ Some s → is_gone i j (set_in st q) ≡ false
not-gone i j q now st s is h =
    elim (is_gone i j (set_in st q)) as (λ b. is_gone i j (set_in st q) ≡ b → b ≡ false) [
      | true ↦ λ e. (
          let none : is_none (members (set_left i j now st)) ≡ true = ap (λ z. is_none (members (set_left i j z st))) is ∙ ap (λ z. is_none (members z)) (left-set i j q st) ∙ e in
          let gone : stamp_left i j now st ≡ None = (rw none refl) in
          let d : ◌≡◌ {A = Option Stamp} (Some s) None = sym h ∙ gone in
          absurd cc)
      | false ↦ λ e. refl
    ] refl

pub is-gone : (i j : ℕ) (q now : List (ℕ × ℕ)) (st : Stamp) → now ≡ cut_set i j q → stamp_left i j now st ≡ None → is_gone i j (set_in st q) ≡ true
is-gone i j q now st is h =
    elim (is_gone i j (set_in st q)) as (λ b. is_gone i j (set_in st q) ≡ b → b ≡ true) [
      | true ↦ λ e. refl
      | false ↦ λ e. (
          let some : is_none (members (set_left i j now st)) ≡ false = ap (λ z. is_none (members (set_left i j z st))) is ∙ ap (λ z. is_none (members z)) (left-set i j q st) ∙ e in
          let left : stamp_left i j now st ≡ Some (stamp_under now (set_left i j now st)) = (rw some refl) in
          let d : ◌≡◌ {A = Option Stamp} (Some (stamp_under now (set_left i j now st))) None = sym left ∙ h in
          absurd cc)
    ] refl

-- the set that is left of the node's
pub own-left : (i j : ℕ) (q : List (ℕ × ℕ)) (st : Stamp) → IsCanonical q → IsCanonical (set_in st q) → set_in (cut_stamp i j q st) (cut_set i j q) ≡ cut_set i j (set_in st q)
own-left i j q st c o = under-set (cut_set i j q) (cut_set i j (set_in st q)) (IsCanonical-cut i j q c) (IsCanonical-cut i j (set_in st q) o)

-- ---- the calls of a node

abbrev inside_calls : ℕ → ℕ → List (ℕ × ℕ) → PlainNode → List WriterCall
inside_calls i j q (inner_node l st ks) = row_calls (cut_set i j (set_in st q)) (sliced_row i j (set_in st q) ks) ++ call_end_inner ∷ []
inside_calls i j q (leaf_node l st xs) = alt_calls (sliced_alts i j (set_in st q) xs) ++ call_end_leaf ∷ []

abbrev opening_call : ℕ → ℕ → List (ℕ × ℕ) → Kind → PlainLabel → Stamp → WriterCall
opening_call i j q kind l st = call_of kind l (cut_stamp i j q st) (set_in (cut_stamp i j q st) (cut_set i j q))

stamp-same : (kind : Kind) (l : PlainLabel) (st : Stamp) (k : PlainNode) → opening_of kind l st ≡ first k → st ≡ node_stamp k
stamp-same Inner l st (inner_node m z ks) same = cc
stamp-same Leaf l st (leaf_node m z xs) same = cc
stamp-same Inner l st (leaf_node m z xs) same = absurd cc
stamp-same Leaf l st (inner_node m z ks) same = absurd cc

called : (i j : ℕ) (q : List (ℕ × ℕ)) (kind : Kind) (l : PlainLabel) (st : Stamp) (k : PlainNode) → opening_of kind l st ≡ first k → set_in (cut_stamp i j q (node_stamp k)) (cut_set i j q) ≡ cut_set i j (set_in (node_stamp k) q)
    → opening_call i j q kind l st ∷ inside_calls i j q k ≡ node_calls (cut_set i j q) (sliced_node i j q k)
called i j q Inner l st (inner_node m z ks) same set =
    let labels : l ≡ m = cc in
    let stamps : st ≡ z = cc in
    (λ x. opening_call i j q Inner (labels x) (stamps x) ∷ inside_calls i j q (inner_node m z ks))
    ∙ ap (λ p. opening_call i j q Inner m z ∷ (row_calls p (sliced_row i j (set_in z q) ks) ++ call_end_inner ∷ [])) (sym set)
called i j q Leaf l st (leaf_node m z xs) same set =
    let labels : l ≡ m = cc in
    let stamps : st ≡ z = cc in
    (λ x. opening_call i j q Leaf (labels x) (stamps x) ∷ inside_calls i j q (leaf_node m z xs))
called i j q Inner l st (leaf_node m z xs) same set = absurd cc
called i j q Leaf l st (inner_node m z ks) same set = absurd cc

left-called : (i j : ℕ) (q : List (ℕ × ℕ)) (kind : Kind) (l : PlainLabel) (st : Stamp) (k : PlainNode) → opening_of kind l st ≡ first k → is_gone i j (set_in st q) ≡ false → set_in (cut_stamp i j q st) (cut_set i j q) ≡ cut_set i j (set_in st q)
    → opening_call i j q kind l st ∷ inside_calls i j q k ≡ calls_left i j q k
left-called i j q kind l st k same gone set =
    let stamps = stamp-same kind l st k same in
    let left : is_gone i j (set_in (node_stamp k) q) ≡ false = subst (λ z. is_gone i j (set_in z q) ≡ false) stamps gone in
    called i j q kind l st k same (subst (λ z. set_in (cut_stamp i j q z) (cut_set i j q) ≡ cut_set i j (set_in z q)) stamps set)
    ∙ sym (ap (λ b. cond b [] (node_calls (cut_set i j q) (sliced_node i j q k))) left)

gone-called : (i j : ℕ) (q : List (ℕ × ℕ)) (kind : Kind) (l : PlainLabel) (st : Stamp) (k : PlainNode) → opening_of kind l st ≡ first k → is_gone i j (set_in st q) ≡ true → calls_left i j q k ≡ []
gone-called i j q kind l st k same gone =
    let stamps = stamp-same kind l st k same in
    ap (λ b. cond b [] (node_calls (cut_set i j q) (sliced_node i j q k))) (subst (λ z. is_gone i j (set_in z q) ≡ true) stamps gone)

not-ended : (kind : Kind) (l : PlainLabel) (st : Stamp) (n : ℕ) → opening_of kind l st ≢ end_item n
not-ended Inner l st n = λ e. absurd cc
not-ended Leaf l st n = λ e. absurd cc

-- ---- few bytes

own-few : (b : ℕ) (st : Stamp) (q : List (ℕ × ℕ)) → IsFewStamp b st → length (set_bytes q) ≤ b → length (set_bytes (set_in st q)) ≤ b
own-few b None q h g = g
own-few b (Some s) q h g = h

-- ---- what is inside a node that was begun

pub record Part (i j : ℕ) (q : List (ℕ × ℕ)) (kind : Kind) (l : PlainLabel) (st : Stamp) (s t : State) (ended : Option CopyFault) : Type 0 where
  pub made : List WriterCall
  pub next : WriterCall
  pub run : Run made next s t ended
  pub ends : Unless ended (EndsKind kind s.writer t.writer)
  pub short : (b : ℕ) → s.cursor.length + 12 ≤ b → length (set_bytes (set_in st q)) ≤ b → AreShort (IsLeftOf b i j) b made next ended
  pub cut : (k : PlainNode) (behind : List PlainItem) → opening_of kind l st ≡ first k → Comes s.files s.cursor (behind_first q k ++ behind) → IsApart i j q k → Matches (inside_calls i j q k) made next behind t ended

inside-part : (i j : ℕ) (q own : List (ℕ × ℕ)) (l : PlainLabel) (st : Stamp) (s t : State) (e : Option CopyFault) → own ≡ set_in st q → InsideCut i j own s t e → Part i j q Inner l st s t e
inside-part i j q own l st s t e set h = record {
  made = h.made;
  next = h.next;
  run = h.run;
  ends = h.closed;
  short = λ b file few. h.short b file (subst (λ z. length (set_bytes z) ≤ b) (sym set) few);
  cut = kids;
}
  where
    kids : (k : PlainNode) (behind : List PlainItem) → inner_item l st ≡ first k → Comes s.files s.cursor (behind_first q k ++ behind) → IsApart i j q k → Matches (inside_calls i j q k) h.made h.next behind t e
    kids (inner_node m z ks) behind same =
        let stamps : st ≡ z = cc in
        let is : own ≡ set_in z q = set ∙ ap (λ x. set_in x q) stamps in
        subst (λ p. Comes s.files s.cursor ((row_items p ks ++ end_of p ks ∷ []) ++ behind) → AreApart i j p ks → Matches (row_calls (cut_set i j p) (sliced_row i j p ks) ++ call_end_inner ∷ []) h.made h.next behind t e) is
        (λ comes apart. h.inside ks _ behind (subst (λ is. Comes s.files s.cursor is) (append_assoc (row_items own ks) (end_of own ks ∷ []) behind) comes) apart)
    kids (leaf_node m z xs) behind same = absurd cc

leaf-part : (i j : ℕ) (q own : List (ℕ × ℕ)) (l : PlainLabel) (st : Stamp) (s t : State) (e : Option CopyFault) → own ≡ set_in st q → LeafCut i j own s t e → Part i j q Leaf l st s t e
leaf-part i j q own l st s t e set h = record {
  made = h.made;
  next = h.next;
  run = h.run;
  ends = h.rests;
  short = λ b file few. h.short b file (subst (λ z. length (set_bytes z) ≤ b) (sym set) few);
  cut = alternatives;
}
  where
    alternatives : (k : PlainNode) (behind : List PlainItem) → leaf_item l st ≡ first k → Comes s.files s.cursor (behind_first q k ++ behind) → IsApart i j q k → Matches (inside_calls i j q k) h.made h.next behind t e
    alternatives (leaf_node m z xs) behind same comes apart =
        let stamps : st ≡ z = cc in
        let is : own ≡ set_in z q = set ∙ ap (λ x. set_in x q) stamps in
        subst (λ p. Matches (alt_calls (sliced_alts i j p xs) ++ call_end_leaf ∷ []) h.made h.next behind t e) is
        (h.alternatives xs behind (subst (λ is. Comes s.files s.cursor is) (append_assoc (alt_items xs) (leaf_end_item ∷ []) behind) comes) (subst (λ p. AreAltsApart i j p xs) (sym is) apart))
    alternatives (inner_node m z ks) behind same comes apart = absurd cc

pub begun-part : (i j : ℕ) (q own : List (ℕ × ℕ)) (kind : Kind) (l : PlainLabel) (st : Stamp) (s t : State) (e : Option CopyFault) → own ≡ set_in st q → BegunCut kind i j own s t e → Part i j q kind l st s t e
begun-part i j q own Inner l st s t e set h = inside-part i j q own l st s t e set h
begun-part i j q own Leaf l st s t e set h = leaf-part i j q own l st s t e set h

-- ---- a node, from its opening on

abbrev Truly : Option CopyFault → Type 0
Truly e = IfOk (moreover e) (λ m. IsTrue m)

truly : (e : Option CopyFault) → Truly e
truly None = refl
truly (Some f) = tt

pub child-failed : (i j : ℕ) (q : List (ℕ × ℕ)) (s t : State) (e : CursorFault) → s.cursor.at ≤ s.cursor.length → t.writer ≡ s.writer → Stays s t e → ChildCut i j q s t (Err (of_cursor e))
child-failed i j q s t e within same stays = record {
  made = [];
  next = call_finish;
  run = run-none call_finish s t (Some (of_cursor e)) (not-long (Some (of_cursor e)) (not-long-cursor e)) same (failed s t e within stays);
  rests = tt;
  onward = tt;
  short = λ b file few. short-none (IsLeftOf b i j) b call_finish (Some (of_cursor e)) (not-long (Some (of_cursor e)) (not-long-cursor e));
  node_cut = λ k behind comes apart. (tt, stops e (calls_left i j q k) behind (λ d. stays.undamaged (first k) (behind_first q k ++ behind) (subst (λ is. Comes s.files s.cursor is) (opens q k behind) comes)));
  end_taken = λ m behind comes. (tt, stops e [] behind (λ d. stays.undamaged (end_item m) behind comes));
}
  where
    stops : (e : CursorFault) (cs : List WriterCall) (behind : List PlainItem) → (Unit {0} → cursor.IfDamage e ⊥) → Matches cs [] call_finish behind t (Some (of_cursor e))
    stops read.Damage cs behind h = h tt
    stops read.Folder cs behind h = tt
    stops read.Memory cs behind h = tt

pub child-ended : (i j : ℕ) (q : List (ℕ × ℕ)) (s t : State) (item : Item) (m : ℕ) → shown_item item ≡ end_item m → s.writer.leaf ≡ None → Nexts s t item → ChildCut i j q s t (Ok false)
child-ended i j q s t item m shown leaf read = record {
  made = [];
  next = call_finish;
  run = run-none call_finish s t None (λ e. absurd cc) read.writer (gave s t item read);
  rests = record { no_leaf = ap (λ (w : PlainWriter). w.leaf) read.writer ∙ leaf; inners = ap (λ (w : PlainWriter). w.inners) read.writer };
  onward = moves-on s t item read (let e = ap (size_of s.cursor.standing) shown in omega (arith, e));
  short = λ b file few. short-none (IsLeftOf b i j) b call_finish None (λ e. absurd cc);
  node_cut = λ k behind comes apart. absurd (not-first k m (sym shown ∙ (node-given q k behind s t item read comes).0));
  end_taken = λ n behind comes. (refl, (refl, (given (end_item n) behind s t item read comes).1));
}

pub child-damage : (i j : ℕ) (q : List (ℕ × ℕ)) (s t : State) (item : Item) → ((l : LabelView) (st : StampView) → item ≢ the_item.Inner l st) → ((l : LabelView) (st : StampView) → item ≢ the_item.Leaf l st) → ((n : ℕ) → item ≢ the_item.End n) → Nexts s t item → ChildCut i j q s t (Err Damage)
child-damage i j q s t item inner leaf end read = record {
  made = [];
  next = call_finish;
  run = run-none call_finish s t (Some Damage) (λ e. absurd cc) read.writer (gave-stop s t item Damage (λ e. absurd cc) read);
  rests = tt;
  onward = tt;
  short = λ b file few. short-none (IsLeftOf b i j) b call_finish (Some Damage) (λ e. absurd cc);
  node_cut = λ k behind comes apart. absurd (no-node item inner leaf k (node-given q k behind s t item read comes).0);
  end_taken = λ n behind comes. absurd (not-end item end n (given (end_item n) behind s t item read comes).0);
}

skips : (kind : Kind) (l : PlainLabel) (st : Stamp) (u v : State) (e : Option CursorFault) → BegunSkipped kind u v e → Passes [] u v (option_map of_cursor e) × Behind u v e (opening_of kind l st)
skips Inner l st u v e h = (h.passes, row-behind u v e l st h)
skips Leaf l st u v e h = (h.passes, alts-behind u v e l st h)

module _ (i j : ℕ) (q : List (ℕ × ℕ)) (kind : Kind) (s t u : State) (o : Opener kind s t) where
  no-end : (m : ℕ) (behind : List PlainItem) → ¬ (Comes s.files s.cursor (end_item m ∷ behind))
  no-end m behind comes = not-ended kind o.label o.stamp m (sym o.shown ∙ (given (end_item m) behind s t o.item o.read comes).0)

  -- memory fails behind the opening
  pub child-memory : ChildCut i j q s t (Err Memory)
  child-memory =
      let read = o.read in
      record {
        made = [];
        next = call_finish;
        run = run-none call_finish s t (Some Memory) (λ e. absurd cc) read.writer (gave-stop s t o.item Memory (λ e. absurd cc) read);
        rests = tt;
        onward = tt;
        short = λ b file few. short-none (IsLeftOf b i j) b call_finish (Some Memory) (λ e. absurd cc);
        node_cut = λ k behind comes apart. (tt, tt);
        end_taken = λ m behind comes. absurd (no-end m behind comes);
      }

  begun : Run [] call_finish s t None
  begun = (let read = o.read in run-none call_finish s t None (λ e. absurd cc) read.writer (gave s t o.item read))

  passed-on : s.cursor.at < t.cursor.at
  passed-on = moves-on s t o.item o.read (let e = ap (size_of s.cursor.standing) o.shown in let long = opening-long kind s.cursor.standing o.label o.stamp in omega (arith, e, long))

  few-parts : (b : ℕ) → s.cursor.length + 12 ≤ b → (length (label_bytes o.label) ≤ b) × IsFewStamp b o.stamp
  few-parts b file = opening-parts b kind s.cursor.standing o.label o.stamp (subst (λ (i : PlainItem). size_of s.cursor.standing i ≤ b) o.shown (within-file s t o.item b o.read file))

  module _ (canonical : IsCanonical q) (own : IsCanonical (set_in o.stamp q)) (fits : FitsLabel o.label) where
    call : WriterCall
    call = opening_call i j q kind o.label o.stamp

    opening-short : (b : ℕ) → s.cursor.length + 12 ≤ b → length (set_bytes q) ≤ b → IsShortCall (IsLeftOf b i j) b call
    unfolding call
    opening-short b file few =
        let p = few-parts b file in
        let stamp : IfStored (IsLeftOf b i j) (cut_stamp i j q o.stamp) = subst (λ z. IfStored (IsLeftOf b i j) (stamp_under (cut_set i j q) z)) (left-set i j q o.stamp) (left-stamp b i j (cut_set i j q) o.stamp p.1) in
        call-short (IsLeftOf b i j) b kind o.label (cut_stamp i j q o.stamp) (set_in (cut_stamp i j q o.stamp) (cut_set i j q)) (fits, p.0) stamp (set_in o.stamp q, own-few b o.stamp q p.1 few, own-left i j q o.stamp canonical own)

    module _ (now : List (ℕ × ℕ)) (left : now ≡ cut_set i j q) where
      opened : (s' : Stamp) → stamp_left i j now o.stamp ≡ Some s' → opening_calls kind o.label now (stamp_left i j now o.stamp) ≡ call ∷ []
      unfolding call
      opened s' h =
          let is = stamp-of i j q now o.stamp s' left h in
          ap (opening_calls kind o.label now) h ∙ (λ x. call_of kind o.label (is x) (set_in (is x) (left x)) ∷ [])

      calls-of : (s' : Stamp) → stamp_left i j now o.stamp ≡ Some s' → (k : PlainNode) → opening_of kind o.label o.stamp ≡ first k → (call ∷ []) ++ inside_calls i j q k ≡ calls_left i j q k
      unfolding call
      calls-of s' h k same = left-called i j q kind o.label o.stamp k same (not-gone i j q now o.stamp s' left h) (own-left i j q o.stamp canonical own)

      opening-all : (b : ℕ) → s.cursor.length + 12 ≤ b → length (set_bytes q) ≤ b → AllByRecursion (IsShortCall (IsLeftOf b i j) b) (opening_calls kind o.label now (stamp_left i j now o.stamp))
      opening-all b file few =
          elim (stamp_left i j now o.stamp) as (λ z. stamp_left i j now o.stamp ≡ z → AllByRecursion (IsShortCall (IsLeftOf b i j) b) (opening_calls kind o.label now (stamp_left i j now o.stamp))) [
            | None ↦ λ e. subst (λ z. AllByRecursion (IsShortCall (IsLeftOf b i j) b) (opening_calls kind o.label now z)) (sym e) tt
            | Some s' ↦ λ e. subst (AllByRecursion (IsShortCall (IsLeftOf b i j) b)) (sym (opened s' e)) (opening-short b file few, tt)
          ] refl

      -- the node was not begun
      pub child-open_fault : (f : CopyFault) → Sent (opening_calls kind o.label now (stamp_left i j now o.stamp)) t u (Some f) → ChildCut i j q s u (Err f)
      child-open_fault f sent =
          let cs = opening_calls kind o.label now (stamp_left i j now o.stamp) in
          let did = sent.run in
          let passes = did.passes in
          record {
            made = sent.made;
            next = sent.next;
            run = run-then [] sent.made call_finish sent.next s t u (Some f) begun did;
            rests = tt;
            onward = tt;
            short = λ b file few. short-part (IsLeftOf b i j) b cs sent.made sent.next (Some f) (opening-all b file few) sent.part;
            node_cut = λ k behind comes apart. (
                let n = node-given q k behind s t o.item o.read comes in
                let same : opening_of kind o.label o.stamp ≡ first k = sym o.shown ∙ n.0 in
                let part = matches-part cs sent.made sent.next (behind_first q k ++ behind) t u (Some f) sent.part passes.same_files sent.same_cursor n.1 in (
                  tt,
                  elim (stamp_left i j now o.stamp) as (λ z. stamp_left i j now o.stamp ≡ z → Matches (calls_left i j q k) sent.made sent.next behind u (Some f)) [
                    | None ↦ λ e. (
                        let none : cs ++ [] ≡ calls_left i j q k = ap (λ z. opening_calls kind o.label now z ++ []) e ∙ sym (gone-called i j q kind o.label o.stamp k same (is-gone i j q now o.stamp left e)) in
                        subst (λ z. Matches z sent.made sent.next behind u (Some f)) none (matches-fault cs [] sent.made sent.next (behind_first q k ++ behind) behind u f part))
                    | Some s' ↦ λ e. (
                        let some : cs ++ inside_calls i j q k ≡ calls_left i j q k = ap (λ z. z ++ inside_calls i j q k) (opened s' e) ∙ calls-of s' e k same in
                        subst (λ z. Matches z sent.made sent.next behind u (Some f)) some (matches-fault cs (inside_calls i j q k) sent.made sent.next (behind_first q k ++ behind) behind u f part))
                  ] refl,
                ));
            end_taken = λ m behind comes. absurd (no-end m behind comes);
          }

      module _ (s' : Stamp) (some : stamp_left i j now o.stamp ≡ Some s') (sent : Sent (opening_calls kind o.label now (stamp_left i j now o.stamp)) t u None) where
        made-is : sent.made ≡ call ∷ []
        made-is = sent.part ∙ opened s' some

        -- the node was begun
        begun-writer : u.writer ≡ after t.writer call
        begun-writer = (let did = sent.run in did.writer ∙ ap (after_all t.writer) made-is)

        pub begun-open : t.writer.leaf ≡ None → IsOpen kind u.writer
        unfolding call
        begun-open none = open-stands kind o.label (cut_stamp i j q o.stamp) (set_in (cut_stamp i j q o.stamp) (cut_set i j q)) t.writer u.writer none begun-writer

        part-rests : (v : State) (e : Option CopyFault) → Part i j q kind o.label o.stamp u v e → Unless e (Rests s.writer v.writer)
        unfolding call
        part-rests v e h =
            let read = o.read in
            subst (λ w. Unless e (Rests w v.writer)) read.writer (ends-rest kind o.label (cut_stamp i j q o.stamp) (set_in (cut_stamp i j q o.stamp) (cut_set i j q)) t.writer u.writer v.writer e begun-writer h.ends)

        part-run : (v : State) (e : Option CopyFault) (h : Part i j q kind o.label o.stamp u v e) → Run (sent.made ++ h.made) h.next s v e
        part-run v e h = run-then [] (sent.made ++ h.made) call_finish h.next s t v e begun (run-then sent.made h.made sent.next h.next t u v e sent.run h.run)

        same-long : u.cursor.length ≡ s.cursor.length
        same-long = (let did = sent.run in let passes = did.passes in let read = o.read in let goes = read.goes in passes.same_length ∙ goes.same_length)

        part-short : (v : State) (e : Option CopyFault) (h : Part i j q kind o.label o.stamp u v e) (b : ℕ) → s.cursor.length + 12 ≤ b → length (set_bytes q) ≤ b → AreShort (IsLeftOf b i j) b (sent.made ++ h.made) h.next e
        part-short v e h b file few =
            short-then (IsLeftOf b i j) b sent.made h.made sent.next h.next e (short-part (IsLeftOf b i j) b (opening_calls kind o.label now (stamp_left i j now o.stamp)) sent.made sent.next None (opening-all b file few) sent.part)
            (h.short b (omega (arith, same-long, file)) (own-few b o.stamp q (few-parts b file).1 few))

        part-cut : (v : State) (e : Option CopyFault) (h : Part i j q kind o.label o.stamp u v e) (k : PlainNode) (behind : List PlainItem) → Comes s.files s.cursor (node_items q k ++ behind) → IsApart i j q k → Matches (calls_left i j q k) (sent.made ++ h.made) h.next behind v e
        part-cut v e h k behind comes apart =
            let n = node-given q k behind s t o.item o.read comes in
            let same : opening_of kind o.label o.stamp ≡ first k = sym o.shown ∙ n.0 in
            let did = sent.run in
            let passes = did.passes in
            let there = (matches-part (opening_calls kind o.label now (stamp_left i j now o.stamp)) sent.made sent.next (behind_first q k ++ behind) t u None sent.part passes.same_files sent.same_cursor n.1).1 in
            subst (λ z. Matches z (sent.made ++ h.made) h.next behind v e) (calls-of s' some k same)
            (matches-then (call ∷ []) (inside_calls i j q k) sent.made h.made h.next behind v e made-is (h.cut k behind same there apart))

        -- what is inside of it was cut
        pub child-cut : (v : State) (e : Option CopyFault) → Part i j q kind o.label o.stamp u v e → ChildCut i j q s v (moreover e)
        child-cut v None h = record {
          made = sent.made ++ h.made;
          next = h.next;
          run = part-run v None h;
          rests = part-rests v None h;
          onward = (let here = passed-on in let did = sent.run in let one = did.passes in let a = one.onward in let more = h.run in let two = more.passes in let b = two.onward in omega (arith, here, a, b));
          short = part-short v None h;
          node_cut = λ k behind comes apart. (refl, part-cut v None h k behind comes apart);
          end_taken = λ m behind comes. absurd (no-end m behind comes);
        }
        child-cut v (Some f) h = record {
          made = sent.made ++ h.made;
          next = h.next;
          run = part-run v (Some f) h;
          rests = tt;
          onward = tt;
          short = part-short v (Some f) h;
          node_cut = λ k behind comes apart. (tt, part-cut v (Some f) h k behind comes apart);
          end_taken = λ m behind comes. absurd (no-end m behind comes);
        }

      -- the node was passed over
      passed : (u v : State) (e : Option CursorFault) → BegunSkipped kind u v e → Passes [] u v (option_map of_cursor e) × Behind u v e (opening_of kind o.label o.stamp)
      passed u v e h = skips kind o.label o.stamp u v e h

      module _ (none : stamp_left i j now o.stamp ≡ None) (sent : Sent (opening_calls kind o.label now (stamp_left i j now o.stamp)) t u None) (leaf : s.writer.leaf ≡ None) where
        nothing : sent.made ≡ []
        nothing = sent.part ∙ ap (opening_calls kind o.label now) none

        gone-run : (v : State) (e : Option CopyFault) → e ≢ Some TooLong → v.writer ≡ u.writer → Passes [] u v e → Run (sent.made ++ []) call_finish s v e
        gone-run v e not same h = run-then [] (sent.made ++ []) call_finish call_finish s t v e begun (run-then sent.made [] sent.next call_finish t u v e sent.run (run-none call_finish u v e not same h))

        gone-short : (e : Option CopyFault) → e ≢ Some TooLong → (b : ℕ) → AreShort (IsLeftOf b i j) b (sent.made ++ []) call_finish e
        gone-short e not b = subst (λ z. AreShort (IsLeftOf b i j) b (z ++ []) call_finish e) (sym nothing) (short-none (IsLeftOf b i j) b call_finish e not)

        gone-writer : (v : State) → v.writer ≡ u.writer → v.writer ≡ s.writer
        gone-writer v same = (let did = sent.run in let read = o.read in same ∙ did.writer ∙ ap (after_all t.writer) nothing ∙ read.writer)

        gone-comes : (v : State) (e : Option CursorFault) → BegunSkipped kind u v e → (k : PlainNode) (behind : List PlainItem) → Comes s.files s.cursor (node_items q k ++ behind) → Follows behind v e × (calls_left i j q k ≡ [])
        gone-comes v e h k behind comes =
            let n = node-given q k behind s t o.item o.read comes in
            let same : opening_of kind o.label o.stamp ≡ first k = sym o.shown ∙ n.0 in
            let did = sent.run in
            let passes = did.passes in
            let there = (matches-part (opening_calls kind o.label now (stamp_left i j now o.stamp)) sent.made sent.next (behind_first q k ++ behind) t u None sent.part passes.same_files sent.same_cursor n.1).1 in
            ((passed u v e h).1 q k behind same there, gone-called i j q kind o.label o.stamp k same (is-gone i j q now o.stamp left none))

        gone-fault : (v : State) (e : CursorFault) (f : CopyFault) → f ≡ of_cursor e → Some f ≢ Some TooLong → v.writer ≡ u.writer → BegunSkipped kind u v (Some e) → ((cs : List WriterCall) (behind : List PlainItem) → Follows behind v (Some e) → Matches cs (sent.made ++ []) call_finish behind v (Some f)) → ChildCut i j q s v (Err f)
        gone-fault v e f is not same h stops = record {
          made = sent.made ++ [];
          next = call_finish;
          run = gone-run v (Some f) not same (subst (λ z. Passes [] u v (Some z)) (sym is) (passed u v (Some e) h).0);
          rests = tt;
          onward = tt;
          short = λ b file few. gone-short (Some f) not b;
          node_cut = λ k behind comes apart. (tt, stops (calls_left i j q k) behind (gone-comes v (Some e) h k behind comes).0);
          end_taken = λ m behind comes. absurd (no-end m behind comes);
        }

        gone-ended : (v : State) → v.writer ≡ u.writer → BegunSkipped kind u v None → ChildCut i j q s v (Ok true)
        gone-ended v same h = record {
          made = sent.made ++ [];
          next = call_finish;
          run = gone-run v None (λ d. absurd cc) same (passed u v None h).0;
          rests = (let w = gone-writer v same in record { no_leaf = ap (λ (z : PlainWriter). z.leaf) w ∙ leaf; inners = ap (λ (z : PlainWriter). z.inners) w });
          onward = (let here = passed-on in let did = sent.run in let one = did.passes in let a = one.onward in let two = (passed u v None h).0 in let b = two.onward in omega (arith, here, a, b));
          short = λ b file few. gone-short None (λ d. absurd cc) b;
          node_cut = λ k behind comes apart. (let c = gone-comes v None h k behind comes in (refl, (append-nil sent.made ∙ nothing ∙ sym c.1, c.0)));
          end_taken = λ m behind comes. absurd (no-end m behind comes);
        }

        gone-by : (v : State) (e : Option CursorFault) → v.writer ≡ u.writer → BegunSkipped kind u v e → ChildCut i j q s v (moreover (option_map of_cursor e))
        gone-by v None same h = gone-ended v same h
        gone-by v (Some read.Damage) same h = gone-fault v read.Damage Damage refl (λ d. absurd cc) same h (λ cs behind f. f)
        gone-by v (Some read.Folder) same h = gone-fault v read.Folder Folder refl (λ d. absurd cc) same h (λ cs behind f. tt)
        gone-by v (Some read.Memory) same h = gone-fault v read.Memory Memory refl (λ d. absurd cc) same h (λ cs behind f. tt)

        child-gone : (v : State) (e : Option CopyFault) → Gone kind u v e → ChildCut i j q s v (moreover e)
        child-gone v e h = subst (λ z. ChildCut i j q s v (moreover z)) (sym h.is) (gone-by v h.fault h.same_writer h.skipped)

      -- what is inside of it was cut or passed over
      pub child-opened : (o' : Option Stamp) → stamp_left i j now o.stamp ≡ o' → Sent (opening_calls kind o.label now (stamp_left i j now o.stamp)) t u None → s.writer.leaf ≡ None → (v : State) (e : Option CopyFault) → OpenedCut kind i j q o.stamp o' u v e → ChildCut i j q s v (moreover e)
      child-opened (Some s') eq sent leaf v e h = child-cut s' eq sent v e (begun-part i j q (set_in o.stamp q) kind o.label o.stamp u v e refl h)
      child-opened None eq sent leaf v e h = child-gone eq sent leaf v e h

      pub opened-stands : (o' : Option Stamp) → stamp_left i j now o.stamp ≡ o' → Sent (opening_calls kind o.label now (stamp_left i j now o.stamp)) t u None → t.writer.leaf ≡ None → IsOpenIf kind o' u.writer
      opened-stands (Some s') eq sent leaf = begun-open s' eq sent leaf
      opened-stands None eq sent leaf = tt

      pub opened-left : (o' : Option Stamp) → stamp_left i j now o.stamp ≡ o' → IsOwnLeft i j q now o.stamp o'
      opened-left (Some s') eq = (let is = stamp-of i j q now o.stamp s' left eq in (λ x. set_in (is x) (left x)) ∙ own-left i j q o.stamp canonical own)
      opened-left None eq = tt

-- ---- a row

row-calls : (i j : ℕ) (q : List (ℕ × ℕ)) (k : PlainNode) (ks : PlainNodes) → calls_left i j q k ++ row_calls (cut_set i j q) (sliced_row i j q ks) ≡ row_calls (cut_set i j q) (sliced_row i j q (node k ks))
row-calls i j q k ks = elim (is_gone i j (set_in (node_stamp k) q)) as (λ b.
    cond b [] (node_calls (cut_set i j q) (sliced_node i j q k)) ++ row_calls (cut_set i j q) (sliced_row i j q ks)
    ≡ row_calls (cut_set i j q) (cond b (sliced_row i j q ks) (node (sliced_node i j q k) (sliced_row i j q ks)))) [ true ↦ refl | false ↦ refl ]

module _ (i j : ℕ) (q : List (ℕ × ℕ)) (s t : State) where
  first-cut : (more : Result Bool CopyFault) (h : ChildCut i j q s t more) (k : PlainNode) (ks : PlainNodes) (m : ℕ) (behind : List PlainItem) → Comes s.files s.cursor (row_items q (node k ks) ++ end_item m ∷ behind) → IsApart i j q k
      → IfOk more (λ z. IsTrue z) × Matches (calls_left i j q k) h.made h.next (row_items q ks ++ end_item m ∷ behind) t (fault_of more)
  first-cut more h k ks m behind comes apart = h.node_cut k (row_items q ks ++ end_item m ∷ behind) (subst (λ is. Comes s.files s.cursor is) (append_assoc (node_items q k) (row_items q ks) (end_item m ∷ behind)) comes) apart

  pub row-then : (u : State) (e : Option CopyFault) → ChildCut i j q s t (Ok true) → RowCut i j q t u e → RowCut i j q s u e
  row-then u e h g =
      let did = h.run in
      let passes = did.passes in
      record {
        made = h.made ++ g.made;
        next = g.next;
        run = run-then h.made g.made h.next g.next s t u e h.run g.run;
        rests = (let r = h.rests in rests-behind s.writer t.writer u.writer e r.inners g.rests);
        short = λ b file few. short-then (IsLeftOf b i j) b h.made g.made h.next g.next e (h.short b file few) (g.short b (let long = passes.same_length in omega (arith, long, file)) few);
        row = nodes;
      }
    where
      nodes : (ks : PlainNodes) (m : ℕ) (behind : List PlainItem) → Comes s.files s.cursor (row_items q ks ++ end_item m ∷ behind) → AreApart i j q ks → Matches (row_calls (cut_set i j q) (sliced_row i j q ks)) (h.made ++ g.made) g.next behind u e
      nodes no_nodes m behind comes apart = absurd (true≢false (h.end_taken m behind comes).0)
      nodes (node k ks) m behind comes apart =
          let c = first-cut (Ok true) h k ks m behind comes apart.0 in
          subst (λ z. Matches z (h.made ++ g.made) g.next behind u e) (row-calls i j q k ks)
          (matches-then (calls_left i j q k) (row_calls (cut_set i j q) (sliced_row i j q ks)) h.made g.made g.next behind u e c.1.0 (g.row ks m behind c.1.1 apart.1))

  pub row-done : ChildCut i j q s t (Ok false) → RowCut i j q s t None
  row-done h = record { made = h.made; next = h.next; run = h.run; rests = h.rests; short = h.short; row = none }
    where
      none : (ks : PlainNodes) (m : ℕ) (behind : List PlainItem) → Comes s.files s.cursor (row_items q ks ++ end_item m ∷ behind) → AreApart i j q ks → Matches (row_calls (cut_set i j q) (sliced_row i j q ks)) h.made h.next behind t None
      none no_nodes m behind comes apart = (h.end_taken m behind comes).1
      none (node k ks) m behind comes apart = absurd (true≢false (sym (first-cut (Ok false) h k ks m behind comes apart.0).0))

  pub row-fault : (f : CopyFault) → ChildCut i j q s t (Err f) → RowCut i j q s t (Some f)
  row-fault f h = record { made = h.made; next = h.next; run = h.run; rests = tt; short = h.short; row = stops }
    where
      stops : (ks : PlainNodes) (m : ℕ) (behind : List PlainItem) → Comes s.files s.cursor (row_items q ks ++ end_item m ∷ behind) → AreApart i j q ks → Matches (row_calls (cut_set i j q) (sliced_row i j q ks)) h.made h.next behind t (Some f)
      stops no_nodes m behind comes apart = (h.end_taken m behind comes).1
      stops (node k ks) m behind comes apart =
          subst (λ z. Matches z h.made h.next behind t (Some f)) (row-calls i j q k ks)
          (matches-fault (calls_left i j q k) (row_calls (cut_set i j q) (sliced_row i j q ks)) h.made h.next (row_items q ks ++ end_item m ∷ behind) behind t f (first-cut (Err f) h k ks m behind comes apart.0).1)

-- what is cut from here on is cut from the first node on
pub record RowOn (i j : ℕ) (q : List (ℕ × ℕ)) (s t : State) : Type 0 where
  pub same_length : t.cursor.length ≡ s.cursor.length
  pub onward : s.cursor.at ≤ t.cursor.at
  pub within : t.cursor.at ≤ t.cursor.length
  pub no_leaf : t.writer.leaf ≡ None
  pub rest : (u : State) (e : Option CopyFault) → RowCut i j q t u e → RowCut i j q s u e

pub row-start : (i j : ℕ) (q : List (ℕ × ℕ)) (s : State) → s.cursor.at ≤ s.cursor.length → s.writer.leaf ≡ None → RowOn i j q s s
row-start i j q s within leaf = record { same_length = refl; onward = omega arith; within = within; no_leaf = leaf; rest = λ u e h. h }

pub row-on : (i j : ℕ) (q : List (ℕ × ℕ)) (s t u : State) → RowOn i j q s t → ChildCut i j q t u (Ok true) → RowOn i j q s u
row-on i j q s t u on h =
    let did = h.run in
    let passes = did.passes in
    let rests = h.rests in
    record {
      same_length = passes.same_length ∙ on.same_length;
      onward = (let a = on.onward in let b = passes.onward in omega (arith, a, b));
      within = passes.within;
      no_leaf = rests.no_leaf;
      rest = λ v e g. on.rest v e (row-then i j q t u v e h g);
    }

-- ---- the node that a row is in

pub inside-fault : (i j : ℕ) (q : List (ℕ × ℕ)) (s t : State) (f : CopyFault) → RowCut i j q s t (Some f) → InsideCut i j q s t (Some f)
inside-fault i j q s t f h = record {
  made = h.made;
  next = h.next;
  run = h.run;
  closed = tt;
  short = h.short;
  inside = λ ks m behind comes apart. matches-fault (row_calls (cut_set i j q) (sliced_row i j q ks)) (call_end_inner ∷ []) h.made h.next behind behind t f (h.row ks m behind comes apart);
}

-- the row has ended, and the node is closed
pub inside-close : (i j : ℕ) (q : List (ℕ × ℕ)) (s t u : State) (e : Option CopyFault) → s.writer.inners ≢ [] → RowCut i j q s t None → Sent (call_end_inner ∷ []) t u e → InsideCut i j q s u e
inside-close i j q s t u e some h sent =
    let did = sent.run in
    let passes = did.passes in
    record {
      made = h.made ++ sent.made;
      next = sent.next;
      run = run-then h.made sent.made h.next sent.next s t u e h.run did;
      closed = closes s t u e some h.rests sent.made did.writer (whole-part (call_end_inner ∷ []) sent.made sent.next e sent.part);
      short = λ b file few. short-then (IsLeftOf b i j) b h.made sent.made h.next sent.next e (h.short b file few) (short-part (IsLeftOf b i j) b (call_end_inner ∷ []) sent.made sent.next e (tt, tt) sent.part);
      inside = λ ks m behind comes apart. (
          let row = h.row ks m behind comes apart in
          matches-then (row_calls (cut_set i j q) (sliced_row i j q ks)) (call_end_inner ∷ []) h.made sent.made sent.next behind u e row.0
          (matches-part (call_end_inner ∷ []) sent.made sent.next behind t u e sent.part passes.same_files sent.same_cursor row.1));
    }

-- a set of the code
pub canonical-own : (old : Option VersionSet) (before : VersionSet) → IsCanonical (set_in (stamp_view old) (pairs_of before))
canonical-own None before = before.canonical
canonical-own (Some v) before = v.canonical

-- what is left gets less behind an opening
pub smaller : (kind : Kind) (s t : State) → Opener kind s t → 4 * (t.cursor.length - t.cursor.at) + 4 < 4 * (s.cursor.length - s.cursor.at)
smaller kind s t o =
    let read = o.read in
    let goes = read.goes in
    let moved = goes.moved in
    let within = goes.within in
    let long = goes.same_length in
    let e = ap (size_of s.cursor.standing) o.shown in
    let more = opening-long kind s.cursor.standing o.label o.stamp in
    omega (arith, moved, within, long, e, more)
