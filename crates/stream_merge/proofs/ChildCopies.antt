-- What copying a node goes along.
use Rattle.std.proofs.Common.{◌≡◌, ◌≢◌, ℕ, ◌+◌, ◌-◌, ◌*◌, ◌≤◌, ◌<◌, List, [], ◌∷◌, ◌++◌, length, Option, Some, None, Ok, Err, true, false, refl, sym, ap, subst, ◌∙◌, append_assoc, arith}
use Rattle.std.specs.List.{AllByRecursion}
use Rattle.keyed_tree.specs.Data.{PlainLabel}
use Rattle.archive_tree.specs.Data.{Stamp, PlainNode, inner_node, leaf_node}
use Rattle.record_format.specs.Nodes.{set_in}
use Rattle.record_format.specs.Spelling.{rec_bytes}
use Rattle.record_cursor.specs.Items.{PlainItem, inner_item, leaf_item, leaf_end_item, end_item}
use Rattle.record_cursor.specs.Moves.{Comes, Goes}
use Rattle.record_cursor.specs.Next.{read_for, size_of}
use Rattle.record_cursor.specs.Places.{Standing}
use Rattle.record_cursor.specs.View.{PlainCursor, shown_item}
use Rattle.record_cursor.specs.declared.fault.CursorFault.{CursorFault}
use Rattle.record_cursor.specs.declared.item.Item.{Item}
use Rattle.record_cursor.specs.declared.item.Item.TheVariants as item
use Rattle.record_parts.specs.Shapes.{FitsLabel}
use Rattle.record_parts.specs.declared.views.LabelView.{LabelView}
use Rattle.record_parts.specs.declared.views.StampView.{StampView}
use Rattle.record_writer.specs.Data.{PlainWriter, WriterCall, call_end_leaf, call_end_inner}
use Rattle.record_writer.specs.Walks.{alt_calls, node_calls, row_calls}
use Rattle.xa_outside.specs.Folder.{Files}
use Rattle.stream_merge.specs.Copied.{InsideCopied, BegunCopied, ChildCopied, AltsCopied}
use Rattle.stream_merge.specs.Does.{Sends, Sent, Does}
use Rattle.stream_merge.specs.Items.{IsWithin}
use Rattle.stream_merge.specs.Meets.{opening_of, Begins, call_of, IsOpen}
use Rattle.stream_merge.specs.Passes.{Passes, Rests, Opens, Closes, Unless, of_cursor, unpaid}
use Rattle.stream_merge.specs.Room.{WentIf}
use Rattle.stream_merge.specs.Short.{IsShortSet, IsShortCall}
use Rattle.record_copy.specs.State.{State}
use Rattle.stream_merge.specs.declared.begin.Kind.{Kind}
use Rattle.stream_merge.specs.declared.begin.Kind.TheVariants.{Inner, Leaf}
use Rattle.stream_merge.specs.declared.fault.MergeFault.{MergeFault}
use Rattle.stream_merge.specs.declared.fault.MergeFault.TheVariants.{Damage}
use Rattle.stream_merge.proofs.States.{passes-then, passes-more, does-then, does-fault, takes-only, takes-sends, Takes, Nexts, Stays, Front, gave, gave-stop, gave-takes, gave-sent, failed, failed-does}
use Rattle.stream_merge.proofs.Besides.{call-bytes, begins}
use Rattle.stream_merge.proofs.Copies.{no-more, rests-behind}
use Rattle.stream_merge.proofs.Rooms.{went-none, went-read, went-then, went-call, opening-label, opening-stamp, stamp-plain, set-in, call-short}
use Rattle.record_cursor.specs.NodeItems.{alt_items, end_of, node_items, row_items}
use Rattle.record_copy.proofs.ItemKinds.{first, not-first}
use Rattle.record_copy.proofs.Copying.{tails}

-- ---- nothing is written

pub node-front : (q : List (ℕ × ℕ)) (w : ℕ) (k : PlainNode) (next : List PlainItem) → AllByRecursion (IsWithin w) (node_items q k) → Front w (node_items q k ++ next)
node-front q w (inner_node l s ks) next small = record { item = inner_item l s; behind = (row_items (set_in s q) ks ++ end_of (set_in s q) ks ∷ []) ++ next; stand = refl; small = small.0 }
node-front q w (leaf_node l s xs) next small = record { item = leaf_item l s; behind = (alt_items xs ++ leaf_end_item ∷ []) ++ next; stand = refl; small = small.0 }

pub end-front : (w n : ℕ) (next : List PlainItem) → IsWithin w (end_item n) → Front w (end_item n ∷ next)
end-front w n next small = record { item = end_item n; behind = next; stand = refl; small = small }

pub child-failed : (q : List (ℕ × ℕ)) (s t : State) (e : CursorFault) → s.cursor.at ≤ s.cursor.length → Stays s t e → ChildCopied q s t (Err (of_cursor e))
child-failed q s t e within stays = record {
  appended = [];
  passes = failed 0 s t e within stays;
  rests = tt;
  onward = tt;
  went = λ b n file set. went-read b n [] s.writer t.writer e;
  node_copied = λ w k next small comes. (tt, failed-does [] w (node_items q k ++ next) s t e (node_calls q k) next stays (node-front q w k next small) comes);
  end_taken = λ w n next small comes. (tt, failed-does [] w (end_item n ∷ next) s t e [] next stays (end-front w n next small) comes);
}

-- ---- what a node begins with, and what is behind it

abbrev pub opening : Kind → PlainLabel → Stamp → PlainItem
opening Inner l st = inner_item l st
opening Leaf l st = leaf_item l st

abbrev pub behind : List (ℕ × ℕ) → PlainNode → List PlainItem
behind q (inner_node l st ks) = row_items (set_in st q) ks ++ end_of (set_in st q) ks ∷ []
behind q (leaf_node l st xs) = alt_items xs ++ leaf_end_item ∷ []

abbrev inside : List (ℕ × ℕ) → PlainNode → List WriterCall
inside q (inner_node l st ks) = row_calls (set_in st q) ks ++ call_end_inner ∷ []
inside q (leaf_node l st xs) = alt_calls xs ++ call_end_leaf ∷ []

pub behind-small : (q : List (ℕ × ℕ)) (w : ℕ) (k : PlainNode) → AllByRecursion (IsWithin w) (node_items q k) → AllByRecursion (IsWithin w) (behind q k)
behind-small q w (inner_node l st ks) small = small.1
behind-small q w (leaf_node l st xs) small = small.1

pub node-taken : (q : List (ℕ × ℕ)) (w : ℕ) (k : PlainNode) (next : List PlainItem) (s t : State) (item : Item) → Nexts s t item → AllByRecursion (IsWithin w) (node_items q k) → Comes s.files s.cursor (node_items q k ++ next)
    → Takes w (first k) (behind q k ++ next) s t (shown_item item)
node-taken q w (inner_node l st ks) next s t item read small comes = gave-takes w (inner_item l st) (behind q (inner_node l st ks) ++ next) s t item read small.0 comes
node-taken q w (leaf_node l st xs) next s t item read small comes = gave-takes w (leaf_item l st) (behind q (leaf_node l st xs) ++ next) s t item read small.0 comes

node-called : (kind : Kind) (l : PlainLabel) (st : Stamp) (q : List (ℕ × ℕ)) (k : PlainNode) → opening kind l st ≡ first k → call_of kind l st (set_in st q) ∷ inside q k ≡ node_calls q k
node-called Inner l st q (inner_node m z ks) same =
    let labels : l ≡ m = cc in
    let stamps : st ≡ z = cc in
    (λ j. call_of Inner (labels j) (stamps j) (set_in (stamps j) q) ∷ inside q (inner_node m z ks))
node-called Leaf l st q (leaf_node m z xs) same =
    let labels : l ≡ m = cc in
    let stamps : st ≡ z = cc in
    (λ j. call_of Leaf (labels j) (stamps j) (set_in (stamps j) q) ∷ inside q (leaf_node m z xs))
node-called Inner l st q (leaf_node m z xs) same = absurd cc
node-called Leaf l st q (inner_node m z ks) same = absurd cc

pub not-ended : (kind : Kind) (l : PlainLabel) (st : Stamp) (n : ℕ) → opening kind l st ≢ end_item n
not-ended Inner l st n = λ e. absurd cc
not-ended Leaf l st n = λ e. absurd cc

pub opening-read : (kind : Kind) (c : Standing) (l : PlainLabel) (st : Stamp) → read_for c (opening kind l st) ≡ length (rec_bytes (opening_of kind l st))
opening-read Inner c l st = refl
opening-read Leaf c l st = refl

pub opening-size : (kind : Kind) (c : Standing) (l : PlainLabel) (st : Stamp) → size_of c (opening kind l st) ≡ length (rec_bytes (opening_of kind l st))
opening-size Inner c l st = refl
opening-size Leaf c l st = refl

pub opening-long : (kind : Kind) (c : Standing) (l : PlainLabel) (st : Stamp) → 0 < size_of c (opening kind l st)
opening-long Inner c l st = omega arith
opening-long Leaf c l st = omega arith

-- ---- the writer

pub opened-some : (v w : PlainWriter) → Opens v w → w.inners ≢ []
opened-some v w h e = (let d = sym e ∙ h.inners in absurd cc)

pub begun-open : (kind : Kind) (v w : PlainWriter) → Begins kind v w → IsOpen kind w
begun-open Inner v w h = (h.no_leaf, opened-some v w h)
begun-open Leaf v w h = h.leaf

-- what was opened is closed
pub opened-closed : (v w x : PlainWriter) → Opens v w → Closes w x → Rests v x
opened-closed v w x h g = record { no_leaf = g.no_leaf; inners = tails h.opened g.closed v.inners x.inners (sym h.inners ∙ g.inners) }

pub unless-closed : (v w x : PlainWriter) (e : Option MergeFault) → Opens v w → Unless e (Closes w x) → Unless e (Rests v x)
unless-closed v w x None h g = opened-closed v w x h g
unless-closed v w x (Some f) h g = tt

-- ---- what is copied behind an opening

pub record Part (kind : Kind) (q : List (ℕ × ℕ)) (l : PlainLabel) (st : Stamp) (s t : State) (ended : Option MergeFault) : Type 0 where
  pub appended : List ℕ
  pub passes : Passes appended 0 s t ended
  pub rests : (v : PlainWriter) → Begins kind v s.writer → Unless ended (Rests v t.writer)
  pub went : (b n : ℕ) → s.cursor.length + 12 ≤ b → IsShortSet b n (set_in st q) → WentIf b n appended s.writer t.writer ended
  pub copied : (w : ℕ) (k : PlainNode) (next : List PlainItem) → opening kind l st ≡ first k → AllByRecursion (IsWithin w) (behind q k) → Comes s.files s.cursor (behind q k ++ next) → Does appended w (inside q k) next s t ended

inside-part : (q own : List (ℕ × ℕ)) (l : PlainLabel) (st : Stamp) (s t : State) (e : Option MergeFault) → own ≡ set_in st q → InsideCopied own s t e → Part Inner q l st s t e
inside-part q own l st s t e set h = record {
  appended = h.appended;
  passes = h.passes;
  rests = λ v opens. unless-closed v s.writer t.writer e opens h.closed;
  went = λ b n file short. h.went b n file (subst (λ (z : List (ℕ × ℕ)). IsShortSet b n z) (sym set) short);
  copied = kids;
}
  where
    kids : (w : ℕ) (k : PlainNode) (next : List PlainItem) → inner_item l st ≡ first k → AllByRecursion (IsWithin w) (behind q k) → Comes s.files s.cursor (behind q k ++ next) → Does h.appended w (inside q k) next s t e
    kids w (inner_node m z ks) next same =
        let stamps : st ≡ z = cc in
        let is : own ≡ set_in z q = set ∙ ap (λ (x : Stamp). set_in x q) stamps in
        subst (λ (p : List (ℕ × ℕ)). AllByRecursion (IsWithin w) (row_items p ks ++ end_of p ks ∷ []) → Comes s.files s.cursor ((row_items p ks ++ end_of p ks ∷ []) ++ next) → Does h.appended w (row_calls p ks ++ call_end_inner ∷ []) next s t e) is
        (λ small comes. h.inside w ks _ next small (subst (λ (xs : List PlainItem). Comes s.files s.cursor xs) (append_assoc (row_items own ks) (end_of own ks ∷ []) next) comes))
    kids w (leaf_node m z xs) next same = absurd cc

alts-part : (q : List (ℕ × ℕ)) (l : PlainLabel) (st : Stamp) (s t : State) (e : Option MergeFault) → AltsCopied s t e → Part Leaf q l st s t e
alts-part q l st s t e h = record {
  appended = h.appended;
  passes = h.passes;
  rests = λ v begun. rests-behind v s.writer t.writer e begun.inners h.rests;
  went = λ b n file short. h.went b n file;
  copied = alternatives;
}
  where
    alternatives : (w : ℕ) (k : PlainNode) (next : List PlainItem) → leaf_item l st ≡ first k → AllByRecursion (IsWithin w) (behind q k) → Comes s.files s.cursor (behind q k ++ next) → Does h.appended w (inside q k) next s t e
    alternatives w (leaf_node m z xs) next same small comes = h.alternatives w xs next small (subst (λ (is : List PlainItem). Comes s.files s.cursor is) (append_assoc (alt_items xs) (leaf_end_item ∷ []) next) comes)
    alternatives w (inner_node m z ks) next same small comes = absurd cc

pub begun-part : (kind : Kind) (q own : List (ℕ × ℕ)) (l : PlainLabel) (st : Stamp) (s t : State) (e : Option MergeFault) → own ≡ set_in st q → BegunCopied kind own s t e → Part kind q l st s t e
begun-part Inner q own l st s t e set h = inside-part q own l st s t e set h
begun-part Leaf q own l st s t e set h = alts-part q l st s t e h

-- ---- a node is begun, and what is behind its opening copied

-- an item that opens a node was given
pub record Opener (kind : Kind) (s t : State) : Type 0 where
  pub item : Item
  pub label : PlainLabel
  pub stamp : Stamp
  pub shown : shown_item item ≡ opening kind label stamp
  pub fits : FitsLabel label
  pub read : Nexts s t item

-- what is left gets less behind it
pub opening-smaller : (kind : Kind) (told : Option Files) (a b : PlainCursor) (item : Item) (l : PlainLabel) (st : Stamp) → shown_item item ≡ opening kind l st → Goes told a item b → 4 * (b.length - b.at) + 3 < 4 * (a.length - a.at)
opening-smaller kind told a b item l st e goes =
    let moved = goes.moved in
    let within = goes.within in
    let long = goes.same_length in
    let size = ap (size_of a.standing) e in
    let more = opening-long kind a.standing l st in
    omega (arith, moved, within, long, size, more)

module _ (kind : Kind) (q : List (ℕ × ℕ)) (s t u : State) (o : Opener kind s t) where
  abbrev call : WriterCall
  call = call_of kind o.label o.stamp (set_in o.stamp q)

  -- what is known of the set that it has, and of the call
  own-set : (b n : ℕ) → s.cursor.length + 12 ≤ b → IsShortSet b n q → IsShortSet b n (set_in o.stamp q) × IsShortCall b n call
  own-set b n file set =
      let read = o.read in
      let goes = read.goes in
      let size = ap (size_of s.cursor.standing) o.shown in
      let same = opening-size kind s.cursor.standing o.label o.stamp in
      let moved = goes.moved in
      let within = goes.within in
      let long = goes.same_length in
      let le : length (rec_bytes (opening_of kind o.label o.stamp)) ≤ b = omega (arith, size, same, moved, within, long, file) in
      let stamp = stamp-plain b n o.stamp (opening-stamp b kind o.label o.stamp le) in
      let own = set-in b n o.stamp q stamp set in
      (own, call-short b n kind o.label o.stamp (set_in o.stamp q) (opening-label b kind o.label o.stamp o.fits le) stamp own)

  begun-went : (b n : ℕ) (e : Option MergeFault) → s.cursor.length + 12 ≤ b → IsShortSet b n q → (sent : Sent (call ∷ []) t u e) → WentIf b n sent.appended s.writer u.writer e
  begun-went b n e file set sent = (let read = o.read in went-call b n call s t u e read.writer (own-set b n file set).1 sent)

  begun-passes : (x : List ℕ) (e : Option MergeFault) → Sends x (call ∷ []) t u e → Passes x 0 s u e
  begun-passes x e sends =
      let few = ap (read_for s.cursor.standing) o.shown in
      let size = opening-read kind s.cursor.standing o.label o.stamp in
      let long = ap length (call-bytes t.writer kind o.label o.stamp (set_in o.stamp q)) in
      gave-sent x s t u o.item (call ∷ []) e (omega (arith, few, size, long)) o.read sends

  begun-does : (x : List ℕ) (e : Option MergeFault) → Sends x (call ∷ []) t u e → (w : ℕ) (k : PlainNode) (next : List PlainItem) → AllByRecursion (IsWithin w) (node_items q k) → Comes s.files s.cursor (node_items q k ++ next)
      → (opening kind o.label o.stamp ≡ first k) × Does x w (call ∷ []) (behind q k ++ next) s u e
  begun-does x e sends w k next small comes =
      let taken = node-taken q w k next s t o.item o.read small comes in
      (sym o.shown ∙ taken.given, takes-sends x w (first k) (behind q k ++ next) s t u (shown_item o.item) (call ∷ []) e taken sends)

  no-end : (w n : ℕ) (next : List PlainItem) → IsWithin w (end_item n) → Comes s.files s.cursor (end_item n ∷ next) → ⊥
  no-end w n next small comes =
      let taken = gave-takes w (end_item n) next s t o.item o.read small comes in
      not-ended kind o.label o.stamp n (sym o.shown ∙ taken.given)

  pub begun-writer : s.writer.leaf ≡ None → Sent (call ∷ []) t u None → Begins kind s.writer u.writer
  begun-writer none sent =
      let sends = sent.sends in
      let made = sends.made in
      let read = o.read in
      let rests : Rests s.writer t.writer = record { no_leaf = ap (λ (w : PlainWriter). w.leaf) read.writer ∙ none; inners = ap (λ (w : PlainWriter). w.inners) read.writer } in
      subst (λ (w : PlainWriter). Begins kind s.writer w) (sym made.writer) (begins kind s.writer t.writer o.label o.stamp (set_in o.stamp q) rests)

  pub child-fails : (f : MergeFault) → Sent (call ∷ []) t u (Some f) → ChildCopied q s u (Err f)
  child-fails f sent = record {
    appended = sent.appended;
    passes = begun-passes sent.appended (Some f) sent.sends;
    rests = tt;
    onward = tt;
    went = λ b n file set. begun-went b n (Some f) file set sent;
    node_copied = λ w k next small comes. (
        let b = begun-does sent.appended (Some f) sent.sends w k next small comes in
        (tt, subst (λ (cs : List WriterCall). Does sent.appended w cs next s u (Some f)) (node-called kind o.label o.stamp q k b.0) (does-fault sent.appended sent.appended s u f w (call ∷ []) (inside q k) (behind q k ++ next) next b.1)));
    end_taken = λ w n next small comes. absurd (no-end w n next small comes);
  }

  module _ (v : State) (sent : Sent (call ∷ []) t u None) where
    part-passes : (e : Option MergeFault) (h : Part kind q o.label o.stamp u v e) → Passes (sent.appended ++ h.appended) 0 s v e
    part-passes e h = passes-then sent.appended h.appended s u v e 0 0 0 (omega arith) (begun-passes sent.appended None sent.sends) h.passes

    part-went : (e : Option MergeFault) (h : Part kind q o.label o.stamp u v e) (b n : ℕ) → s.cursor.length + 12 ≤ b → IsShortSet b n q → WentIf b n (sent.appended ++ h.appended) s.writer v.writer e
    part-went e h b n file set =
        let passes = begun-passes sent.appended None sent.sends in
        let long = passes.same_length in
        went-then b n sent.appended h.appended s.writer u.writer v.writer e (begun-went b n None file set sent) (h.went b n (omega (arith, long, file)) (own-set b n file set).0)

    part-does : (e : Option MergeFault) (h : Part kind q o.label o.stamp u v e) (w : ℕ) (k : PlainNode) (next : List PlainItem) → AllByRecursion (IsWithin w) (node_items q k) → Comes s.files s.cursor (node_items q k ++ next)
        → Does (sent.appended ++ h.appended) w (node_calls q k) next s v e
    part-does e h w k next small comes =
        let b = begun-does sent.appended None sent.sends w k next small comes in
        let d = b.1 in
        subst (λ (cs : List WriterCall). Does (sent.appended ++ h.appended) w cs next s v e) (node-called kind o.label o.stamp q k b.0)
        (does-then sent.appended h.appended s u v e w (call ∷ []) (inside q k) (behind q k ++ next) next (no-more (begun-passes sent.appended None sent.sends)) d (h.copied w k next b.0 (behind-small q w k small) d.follows))

    pub child-part-fails : (f : MergeFault) → Part kind q o.label o.stamp u v (Some f) → ChildCopied q s v (Err f)
    child-part-fails f h = record {
      appended = sent.appended ++ h.appended;
      passes = part-passes (Some f) h;
      rests = tt;
      onward = tt;
      went = part-went (Some f) h;
      node_copied = λ w k next small comes. (tt, part-does (Some f) h w k next small comes);
      end_taken = λ w n next small comes. absurd (no-end w n next small comes);
    }

    pub child-copied : s.writer.leaf ≡ None → Part kind q o.label o.stamp u v None → ChildCopied q s v (Ok true)
    child-copied none h = record {
      appended = sent.appended ++ h.appended;
      passes = part-passes None h;
      rests = h.rests s.writer (begun-writer none sent);
      onward = (
          let read = o.read in
          let goes = read.goes in
          let moved = goes.moved in
          let size = ap (size_of s.cursor.standing) o.shown in
          let more = opening-long kind s.cursor.standing o.label o.stamp in
          let sends = sent.sends in
          let stands = ap (λ (c : PlainCursor). c.at) sends.same_cursor in
          let passes = h.passes in
          let on = passes.onward in
          omega (arith, moved, size, more, stands, on));
      went = part-went None h;
      node_copied = λ w k next small comes. (refl, part-does None h w k next small comes);
      end_taken = λ w n next small comes. absurd (no-end w n next small comes);
    }

-- ---- another item

pub child-ended : (q : List (ℕ × ℕ)) (s t : State) (item : Item) (n : ℕ) → s.writer.leaf ≡ None → shown_item item ≡ end_item n → Nexts s t item → ChildCopied q s t (Ok false)
child-ended q s t item n none shown read =
    let few = ap (read_for s.cursor.standing) shown in
    let size = ap (size_of s.cursor.standing) shown in
    let goes = read.goes in
    let moved = goes.moved in
    record {
      appended = [];
      passes = passes-more [] s t None (read_for s.cursor.standing (shown_item item)) unpaid (omega (arith, few)) (gave s t item read);
      rests = record { no_leaf = ap (λ (w : PlainWriter). w.leaf) read.writer ∙ none; inners = ap (λ (w : PlainWriter). w.inners) read.writer };
      onward = omega (arith, moved, size);
      went = λ b n file set. went-none b n s.writer t.writer read.writer;
      node_copied = λ w k next small comes. (let taken = node-taken q w k next s t item read small comes in absurd (not-first k n (sym shown ∙ taken.given)));
      end_taken = λ w m next small comes. (refl, takes-only w (end_item m) next s t (shown_item item) (gave-takes w (end_item m) next s t item read small comes));
    }

-- an item that opens no node, and no END
pub not-inner : (i : Item) → ((l : LabelView) (s : StampView) → i ≢ item.Inner l s) → (l : PlainLabel) (st : Stamp) → shown_item i ≢ inner_item l st
not-inner (item.Inner l s) h m st = absurd (h l s refl)
not-inner (item.Leaf l s) h m st = λ e. absurd cc
not-inner (item.Alt s b) h m st = λ e. absurd cc
not-inner item.LeafEnd h m st = λ e. absurd cc
not-inner (item.End n) h m st = λ e. absurd cc
not-inner item.Finish h m st = λ e. absurd cc

pub not-leaf : (i : Item) → ((l : LabelView) (s : StampView) → i ≢ item.Leaf l s) → (l : PlainLabel) (st : Stamp) → shown_item i ≢ leaf_item l st
not-leaf (item.Leaf l s) h m st = absurd (h l s refl)
not-leaf (item.Inner l s) h m st = λ e. absurd cc
not-leaf (item.Alt s b) h m st = λ e. absurd cc
not-leaf item.LeafEnd h m st = λ e. absurd cc
not-leaf (item.End n) h m st = λ e. absurd cc
not-leaf item.Finish h m st = λ e. absurd cc

pub not-closing : (i : Item) → ((n : ℕ) → i ≢ item.End n) → (n : ℕ) → shown_item i ≢ end_item n
not-closing (item.End n) h m = absurd (h n refl)
not-closing (item.Inner l s) h m = λ e. absurd cc
not-closing (item.Leaf l s) h m = λ e. absurd cc
not-closing (item.Alt s b) h m = λ e. absurd cc
not-closing item.LeafEnd h m = λ e. absurd cc
not-closing item.Finish h m = λ e. absurd cc

pub child-damage : (q : List (ℕ × ℕ)) (s t : State) (i : Item) → ((l : LabelView) (z : StampView) → i ≢ item.Inner l z) → ((l : LabelView) (z : StampView) → i ≢ item.Leaf l z) → ((n : ℕ) → i ≢ item.End n) → Nexts s t i
    → ChildCopied q s t (Err Damage)
child-damage q s t i no-inner no-leaf no-end read = record {
  appended = [];
  passes = gave-stop 0 s t i Damage (λ e. absurd cc) read;
  rests = tt;
  onward = tt;
  went = λ b n file set. tt;
  node_copied = λ w k next small comes. (let taken = node-taken q w k next s t i read small comes in absurd (no-first k taken.given));
  end_taken = λ w n next small comes. (let taken = gave-takes w (end_item n) next s t i read small comes in absurd (not-closing i no-end n taken.given));
}
  where
    no-first : (k : PlainNode) → shown_item i ≢ first k
    no-first (inner_node l z ks) = not-inner i no-inner l z
    no-first (leaf_node l z xs) = not-leaf i no-leaf l z
