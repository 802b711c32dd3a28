-- Calls of the writer up to one that does not fit, one part after the other.
use Rattle.std.proofs.Common.{◌≡◌, ◌≢◌, ℕ, ◌≤◌, ◌==◌, Bool, true, false, cond, List, [], ◌∷◌, ◌++◌, length, Option, Some, None, IfSome, refl, sym, ap, subst, ◌∙◌, inl, inr, arith}
use Rattle.std.specs.List.{AllByRecursion}
use Rattle.std.specs.Ordering.{is_eq, is_lt}
use Rattle.std.specs.Option.{unwrap_or}
use Rattle.std.proofs.lemmas.List.{length-append}
use Rattle.version_set.specs.Members.{upto_pairs}
use Rattle.timestamp_tree.specs.Bytes.{set_bytes}
use Rattle.timestamp_tree.proofs.Trees.{length-set_bytes}
use Rattle.keyed_tree.specs.Data.{PlainKey, PlainLabel, PlainKeyed, inner, leaf, PlainKids, no_kids, kid, kids_from, label_of}
use Rattle.keyed_tree.specs.Kids.{kid_at}
use Rattle.keyed_tree.specs.Order.{label_cmp}
use Rattle.archive_tree.specs.Data.{Stamp, no_nodes}
use Rattle.nested_merge.specs.Merged.{started, fresh, fresh_row, fresh_onto, above, below}
use Rattle.record_parts.specs.Shapes.{FitsLabel, FitsValue}
use Rattle.record_parts.specs.Spelling.{label_bytes, value_bytes, stamp_bytes}
use Rattle.record_format.specs.Data.{alt_rec}
use Rattle.record_format.specs.Nodes.{set_in}
use Rattle.record_format.specs.Spelling.{rec_bytes}
use Rattle.record_format.proofs.Pieces.{all-append, all-front, all-back, rec-length}
use Rattle.record_cursor.specs.declared.fault.CursorFault.{CursorFault}
use Rattle.record_cursor.specs.declared.fault.CursorFault.TheVariants as read
use Rattle.record_writer.specs.Calls.{all_appended, after_all, Fits, AllFit}
use Rattle.record_writer.specs.Data.{PlainWriter, WriterCall, call_end_inner}
use Rattle.record_writer.specs.Walks.{node_calls, row_calls}
use Rattle.stream_merge.specs.Beside.{inherited_with}
use Rattle.stream_merge.specs.Does.{Sent}
use Rattle.stream_merge.specs.Meets.{call_of, opening_of, turned, rest_of}
use Rattle.stream_merge.specs.Passes.{of_cursor}
use Rattle.stream_merge.specs.Room.{WentIf, NoRoomIf}
use Rattle.stream_merge.specs.Short.{IsStampWithin, IsShortSet, IsShortStamp, AreShortSets, IsShortLabel, IsShortBody, IsShortTree, AreShortKids, IsShortCall}
use Rattle.record_copy.specs.State.{State}
use Rattle.stream_merge.specs.View.{PlainInherited}
use Rattle.stream_merge.specs.declared.begin.Kind.{Kind}
use Rattle.stream_merge.specs.declared.begin.Kind.TheVariants.{Inner, Leaf}
use Rattle.stream_merge.specs.declared.fault.MergeFault.{MergeFault}
use Rattle.stream_merge.specs.declared.fault.MergeFault.TheVariants.{Damage, Folder, TooLong, Memory}
use Rattle.stream_merge.proofs.States.{fit-append}
use Rattle.stream_merge.proofs.Weaving.{above_keeps}
use Rattle.record_writer.proofs.WalkLaws.{appended-append, after-append}

-- ---- one part behind another

pub went-none : (b n : ℕ) (v w : PlainWriter) → w ≡ v → WentIf b n [] v w None
went-none b n v w is = record { made = []; short = tt; same = refl; fit = tt; writer = is }

-- a fault that is no want of room
pub went-stop : (b n : ℕ) (x : List ℕ) (v w : PlainWriter) (f : MergeFault) → f ≢ TooLong → WentIf b n x v w (Some f)
went-stop b n x v w TooLong not = absurd (not refl)
went-stop b n x v w Damage not = tt
went-stop b n x v w Folder not = tt
went-stop b n x v w Memory not = tt

pub went-read : (b n : ℕ) (x : List ℕ) (v w : PlainWriter) (e : CursorFault) → WentIf b n x v w (Some (of_cursor e))
went-read b n x v w read.Damage = tt
went-read b n x v w read.Folder = tt
went-read b n x v w read.Memory = tt

-- the same, where the writer of before is known by another name
pub went-from : (b n : ℕ) (x : List ℕ) (v u w : PlainWriter) (e : Option MergeFault) → u ≡ v → WentIf b n x u w e → WentIf b n x v w e
went-from b n x v u w e is h = subst (λ (z : PlainWriter). WentIf b n x z w e) is h

pub went-then : (b n : ℕ) (x y : List ℕ) (u v w : PlainWriter) (e : Option MergeFault) → WentIf b n x u v None → WentIf b n y v w e → WentIf b n (x ++ y) u w e
went-then b n x y u v w None h g = record {
  made = h.made ++ g.made;
  short = all-append (IsShortCall b n) h.made g.made h.short g.short;
  same = (λ i. h.same i ++ g.same i) ∙ ap (λ (z : PlainWriter). all_appended u h.made ++ all_appended z g.made) h.writer ∙ sym (appended-append u h.made g.made);
  fit = fit-append u h.made g.made h.fit (subst (λ (z : PlainWriter). AllFit z g.made) h.writer g.fit);
  writer = g.writer ∙ ap (λ (z : PlainWriter). after_all z g.made) h.writer ∙ sym (after-append u h.made g.made);
}
went-then b n x y u v w (Some TooLong) h g = record {
  made = h.made ++ g.made;
  next = g.next;
  short = all-append (IsShortCall b n) h.made g.made h.short g.short;
  next_short = g.next_short;
  same = (λ i. h.same i ++ g.same i) ∙ ap (λ (z : PlainWriter). all_appended u h.made ++ all_appended z g.made) h.writer ∙ sym (appended-append u h.made g.made);
  fit = fit-append u h.made g.made h.fit (subst (λ (z : PlainWriter). AllFit z g.made) h.writer g.fit);
  over = subst (λ (z : PlainWriter). ¬ (Fits z g.next)) (ap (λ (z : PlainWriter). after_all z g.made) h.writer ∙ sym (after-append u h.made g.made)) g.over;
}
went-then b n x y u v w (Some Damage) h g = tt
went-then b n x y u v w (Some Folder) h g = tt
went-then b n x y u v w (Some Memory) h g = tt

-- calls that are given short parts
pub went-sent : (b n : ℕ) (cs : List WriterCall) (s t : State) (e : Option MergeFault) → AllByRecursion (IsShortCall b n) cs → (h : Sent cs s t e) → WentIf b n h.appended s.writer t.writer e
went-sent b n cs s t None short h = (let sends = h.sends in let did = sends.made in record { made = cs; short = short; same = did.same; fit = did.fit; writer = did.writer })
went-sent b n cs s t (Some TooLong) short h =
    let stops = h.stops in
    let all = subst (λ (z : List WriterCall). AllByRecursion (IsShortCall b n) z) stops.walk short in
    let back = all-back (IsShortCall b n) stops.made (stops.next ∷ stops.others) all in
    record { made = stops.made; next = stops.next; short = all-front (IsShortCall b n) stops.made (stops.next ∷ stops.others) all; next_short = back.0; same = stops.same; fit = stops.fit; over = stops.over }
went-sent b n cs s t (Some Damage) short h = tt
went-sent b n cs s t (Some Folder) short h = tt
went-sent b n cs s t (Some Memory) short h = tt

-- a call for an item that was given
pub went-call : (b n : ℕ) (call : WriterCall) (s t u : State) (e : Option MergeFault) → t.writer ≡ s.writer → IsShortCall b n call → (h : Sent (call ∷ []) t u e) → WentIf b n h.appended s.writer u.writer e
went-call b n call s t u e is short h = went-from b n h.appended s.writer t.writer u.writer e is (went-sent b n (call ∷ []) t u e (short, tt) h)

pub room-of : (b n : ℕ) (x : List ℕ) (v w : PlainWriter) (e : Option MergeFault) → WentIf b n x v w e → NoRoomIf b n x v e
room-of b n x v w None h = tt
room-of b n x v w (Some TooLong) h = h
room-of b n x v w (Some Damage) h = tt
room-of b n x v w (Some Folder) h = tt
room-of b n x v w (Some Memory) h = tt

-- ---- what is short

pub set-plain : (b n : ℕ) (q : List (ℕ × ℕ)) → length (set_bytes q) ≤ b → IsShortSet b n q
set-plain b n q le = (q, le, inl refl)

pub set-alone : (b n m : ℕ) → 12 ≤ b → IsShortSet b n ((m, m) ∷ [])
set-alone b n m room = set-plain b n ((m, m) ∷ []) (let size = length-set_bytes ((m, m) ∷ []) in omega (arith, room, size))

pub stamp-plain : (b n : ℕ) (s : Stamp) → IsStampWithin b s → IsShortStamp b n s
stamp-plain b n None h = tt
stamp-plain b n (Some s) h = set-plain b n s h

-- what the root hands on
pub upto-within : (b n : ℕ) → 12 ≤ b → length (set_bytes (upto_pairs n)) ≤ b
upto-within b n room = (let size = length-set_bytes (upto_pairs n) in let few = upto-few n in omega (arith, room, size, few))
  where
    upto-few : (n : ℕ) → length (upto_pairs n) ≤ 1
    upto-few n = elim (n == 0) as (λ t. length (cond {A = List (ℕ × ℕ)} t [] ((1, n) ∷ [])) ≤ 1) [
      | true ↦ omega arith
      | false ↦ omega arith
    ]

pub set-in : (b n : ℕ) (s : Stamp) (q : List (ℕ × ℕ)) → IsShortStamp b n s → IsShortSet b n q → IsShortSet b n (set_in s q)
set-in b n None q h g = g
set-in b n (Some s) q h g = h

before-within : (b : ℕ) (s : Stamp) (q : List (ℕ × ℕ)) → IsStampWithin b s → length (set_bytes q) ≤ b → length (set_bytes (unwrap_or s q)) ≤ b
before-within b None q h g = g
before-within b (Some s) q h g = h

pub turned-short : (b n : ℕ) (q : List (ℕ × ℕ)) (has : Bool) (s : Stamp) → IsStampWithin b s → length (set_bytes q) ≤ b → IsShortStamp b n (turned n q has s)
turned-short b n q true None h g = tt
turned-short b n q true (Some s) h g = (s, h, inr refl)
turned-short b n q false s h g = set-plain b n (unwrap_or s q) (before-within b s q h g)

-- what the kids of a node inherit
pub own-short : (b : ℕ) (h : PlainInherited) (has : Bool) (s : Stamp) → IsStampWithin b s → AreShortSets b h → AreShortSets b (inherited_with h has s)
own-short b h has s stamp sets = record {
  before = before-within b s h.before stamp sets.before;
  now = set-in b h.number (turned h.number h.before has s) h.now (turned-short b h.number h.before has s stamp sets.before) sets.now;
}

-- ---- records that were read

label-part : (b : ℕ) (kind : Kind) (l : PlainLabel) (s : Stamp) → length (rec_bytes (opening_of kind l s)) ≤ b → length (label_bytes l) ≤ b
label-part b Inner l s le = (let e = rec-length (opening_of Inner l s) in let f = length-append (label_bytes l) (stamp_bytes s) in omega (arith, e, f, le))
label-part b Leaf l s le = (let e = rec-length (opening_of Leaf l s) in let f = length-append (label_bytes l) (stamp_bytes s) in omega (arith, e, f, le))

stamp-part : (b : ℕ) (kind : Kind) (l : PlainLabel) (s : List (ℕ × ℕ)) → length (rec_bytes (opening_of kind l (Some s))) ≤ b → length (set_bytes s) ≤ b
stamp-part b Inner l s le = (let e = rec-length (opening_of Inner l (Some s)) in let f = length-append (label_bytes l) (1 ∷ set_bytes s) in omega (arith, e, f, le))
stamp-part b Leaf l s le = (let e = rec-length (opening_of Leaf l (Some s)) in let f = length-append (label_bytes l) (1 ∷ set_bytes s) in omega (arith, e, f, le))

pub opening-label : (b : ℕ) (kind : Kind) (l : PlainLabel) (s : Stamp) → FitsLabel l → length (rec_bytes (opening_of kind l s)) ≤ b → IsShortLabel b l
opening-label b kind l s fits le = record { fits = fits; short = label-part b kind l s le }

pub opening-stamp : (b : ℕ) (kind : Kind) (l : PlainLabel) (s : Stamp) → length (rec_bytes (opening_of kind l s)) ≤ b → IsStampWithin b s
opening-stamp b kind l None le = tt
opening-stamp b kind l (Some s) le = stamp-part b kind l s le

alt-body : (b : ℕ) (s : Stamp) (v : PlainKey) → length (rec_bytes (alt_rec s v)) ≤ b → length (value_bytes v) ≤ b
alt-body b None v le = (let e = rec-length (alt_rec None v) in let f = length-append (0 ∷ []) (value_bytes v) in omega (arith, e, f, le))
alt-body b (Some s) v le = (let e = rec-length (alt_rec (Some s) v) in let f = length-append (1 ∷ set_bytes s) (value_bytes v) in omega (arith, e, f, le))

alt-stamp : (b : ℕ) (s : Stamp) (v : PlainKey) → length (rec_bytes (alt_rec s v)) ≤ b → IsStampWithin b s
alt-stamp b None v le = tt
alt-stamp b (Some s) v le = (let e = rec-length (alt_rec (Some s) v) in let f = length-append (1 ∷ set_bytes s) (value_bytes v) in omega (arith, e, f, le))

pub alt-parts : (b : ℕ) (s : Stamp) (v : PlainKey) → FitsValue v → length (rec_bytes (alt_rec s v)) ≤ b → IsStampWithin b s × IsShortBody b v
alt-parts b s v fits le = (alt-stamp b s v le, record { fits = fits; short = alt-body b s v le })

pub call-short : (b n : ℕ) (kind : Kind) (l : PlainLabel) (s : Stamp) (set : List (ℕ × ℕ)) → IsShortLabel b l → IsShortStamp b n s → IsShortSet b n set → IsShortCall b n (call_of kind l s set)
call-short b n Inner l s set h g f = (h, g, f)
call-short b n Leaf l s set h g f = (h, g, f)

-- ---- the new version

pub kids-short : (b : ℕ) (cs : List PlainKeyed) → AreShortKids b (kids_from cs) → AllByRecursion (IsShortTree b) cs
kids-short b [] h = tt
kids-short b (c ∷ cs) h = (h.0, kids-short b cs h.1)

pub kid-short : (b : ℕ) (l : PlainLabel) (cs : List PlainKeyed) → AllByRecursion (IsShortTree b) cs → IfSome (kid_at l cs) (λ k. IsShortTree b k)
kid-short b l [] h = tt
kid-short b l (c ∷ cs) h =
    let rest = kid-short b l cs h.1 in
    let here : IsShortTree b c = h.0 in
    elim (is_eq (label_cmp (label_of c) l)) as (λ t. is_eq (label_cmp (label_of c) l) ≡ t → IfSome (kid_at l (c ∷ cs)) (λ k. IsShortTree b k)) [
      | true ↦ λ e. rw e here
      | false ↦ λ e. rw e rest
    ] refl

pub below-short : (b : ℕ) (l : PlainLabel) (cs : List PlainKeyed) → AllByRecursion (IsShortTree b) cs → AllByRecursion (IsShortTree b) (below l cs)
below-short b l [] h = tt
below-short b l (c ∷ cs) h = elim (is_lt (label_cmp (label_of c) l)) as (λ t. AllByRecursion (IsShortTree b) (cond t (c ∷ below l cs) [])) [
  | true ↦ (h.0, below-short b l cs h.1)
  | false ↦ tt
]

-- the calls that write trees of the version alone, under a parent that has a short set
mutual
  fresh-calls : (b n : ℕ) (set : List (ℕ × ℕ)) (s : Stamp) (k : PlainKeyed) → IsShortSet b n set → IsShortStamp b n s → IsShortTree b k → AllByRecursion (IsShortCall b n) (node_calls set (fresh s k))
  fresh-calls b n set s (inner l ks) h g f =
      let own = set-in b n s set g h in
      ((f.0, g, own), all-append (IsShortCall b n) (row_calls (set_in s set) (fresh_row ks)) (call_end_inner ∷ []) (fresh-row-calls b n (set_in s set) ks own f.1) (tt, tt))
  fresh-calls b n set s (leaf l v) h g f =
      ((f.0, g, set-in b n s set g h), ((tt, f.1), (tt, tt)))

  fresh-row-calls : (b n : ℕ) (set : List (ℕ × ℕ)) (ks : PlainKids) → IsShortSet b n set → AreShortKids b ks → AllByRecursion (IsShortCall b n) (row_calls set (fresh_row ks))
  fresh-row-calls b n set no_kids h f = tt
  fresh-row-calls b n set (kid k ks) h f =
      all-append (IsShortCall b n) (node_calls set (fresh None k)) (row_calls set (fresh_row ks)) (fresh-calls b n set None k h tt f.0) (fresh-row-calls b n set ks h f.1)

onto-calls : (b n : ℕ) (set : List (ℕ × ℕ)) (s : Stamp) (cs : List PlainKeyed) → IsShortSet b n set → IsShortStamp b n s → AllByRecursion (IsShortTree b) cs → AllByRecursion (IsShortCall b n) (row_calls set (fresh_onto s cs no_nodes))
onto-calls b n set s [] h g f = tt
onto-calls b n set s (c ∷ cs) h g f = all-append (IsShortCall b n) (node_calls set (fresh s c)) (row_calls set (fresh_onto s cs no_nodes)) (fresh-calls b n set s c h g f.0) (onto-calls b n set s cs h g f.1)

started-short : (b n m : ℕ) (q : List (ℕ × ℕ)) → 12 ≤ b → IsShortStamp b n (started m q)
started-short b n m [] room = tt
started-short b n m (p ∷ ps) room = set-alone b n m room

-- the kids that begin beside a row
pub rest-calls : (b : ℕ) (h : PlainInherited) (cs : List PlainKeyed) → 12 ≤ b → AreShortSets b h → AllByRecursion (IsShortTree b) cs → AllByRecursion (IsShortCall b h.number) (row_calls h.now (rest_of h.number h.before cs))
rest-calls b h cs room sets kids = onto-calls b h.number h.now (started h.number h.before) cs sets.now (started-short b h.number h.number h.before room) kids

pub above-short : (b : ℕ) (l : PlainLabel) (cs left : List PlainKeyed) → left ≡ above l cs → AllByRecursion (IsShortTree b) cs → AllByRecursion (IsShortTree b) left
above-short b l cs left is h = subst (λ (z : List PlainKeyed). AllByRecursion (IsShortTree b) z) (sym is) (above_keeps (λ (z : List PlainKeyed). AllByRecursion (IsShortTree b) z) (λ c cs h. h.1) l cs h)
