-- What comes next in a row.
use Rattle.std.proofs.Common.{◌≡◌, ◌≢◌, ℕ, suc, ◌+◌, ◌-◌, ◌<◌, ◌≤◌, true, false, ltb, IsTrue, List, [], ◌∷◌, ◌++◌, map, length, Option, Some, None, Ok, Err, refl, sym, ap, subst, ◌∙◌, append_assoc, arith}
use Rattle.std.specs.Prelude.{IsSome}
use Rattle.std.specs.List.{flat_map}
use Rattle.std.proofs.lemmas.Bool.{and_from}
use Rattle.version_set.specs.declared.set.VersionSet.{VersionSet}
use Rattle.keyed_tree.specs.Data.{PlainLabel}
use Rattle.keyed_tree.proofs.Kids.{both}
use Rattle.archive_tree.specs.Data.{Stamp, PlainAlt, PlainNode, inner_node, leaf_node, PlainNodes}
use Rattle.archive_tree.specs.View.{stamp_view}
use Rattle.xa_fields.specs.FieldLaws.{passed_some}
use Rattle.xa_fields.proofs.Fields.{some_is}
use Rattle.record_parts.specs.Bounds.{deepest}
use Rattle.record_parts.specs.ShownViews.{label_in}
use Rattle.record_format.specs.Bounds.{IsRec}
use Rattle.record_format.specs.Data.{PlainRec, PlainDir, inner_rec, leaf_rec, end_rec, leaf_end}
use Rattle.record_format.specs.Nodes.{alt_of, closed_by_end, set_in, node_pieces}
use Rattle.record_format.specs.Spelling.{dir_bytes, rec_bytes}
use Rattle.archive_file.specs.Laid.{are_nested, NodeAt, RowAt}
use Rattle.archive_file.proofs.GoesLaws.{lt-of, of-lt}
use Rattle.archive_file.proofs.LaidLaws.{node-inner, node-leaf}
use Rattle.archive_file.proofs.PutLaws.{set_in-is}
use Rattle.archive_file.proofs.ReadLaws.{leaf-lies, inner-lies}
use Rattle.record_cursor.specs.Faults.{IfDamage}
use Rattle.record_cursor.specs.Items.{PlainItem, inner_item, leaf_item, end_item, finish, item_of}
use Rattle.record_cursor.specs.Next.{next_of}
use Rattle.record_cursor.specs.Places.{Standing, among_nodes, in_leaf, closed_by, after_item}
use Rattle.record_cursor.specs.declared.fault.CursorFault.{CursorFault}
use Rattle.record_cursor.proofs.Items.{next-record}
use Rattle.record_cursor.proofs.Pulled.{size-least}
use Rattle.node_judge.specs.Rows.{PlainFrame, may_open, row_below, leaf_of, are_alts_of, is_next, goes_on}
use Rattle.row_ends.specs.Kids.{PlainKids}
use Rattle.node_walk.specs.Places.{depth_of, IsAmongNodes, left_of}
use Rattle.node_walk.specs.Seen.{Seen, Told, at_hand, Reads}
use Rattle.node_walk.specs.Walked.{Given, NextRead, LeafJudged, InnerJudged, InRowJudged, RowHere, AltsHere, KidHere, end_length}
use Rattle.node_walk.specs.declared.rows.InRow.TheVariants.{Kid, End}
use Rattle.node_walk.proofs.Leaves.{leads-to}
use Rattle.node_walk.proofs.Records.{record-is, read-there}
use Rattle.node_walk.proofs.Steps.{among-is, reads-then, told-on, damage-map, comes-at}

abbrev Coming : Type 0
Coming = PlainItem × (Standing × List ℕ)

-- ---- what opens a node comes

abbrev opening_item : PlainNode → PlainItem
opening_item (inner_node l s ks) = inner_item l s
opening_item (leaf_node l s xs) = leaf_item l s

deeper : (d : ℕ) → 0 < deepest - d → ltb d deepest ≡ true
deeper d h = of-lt d deepest (omega (arith, h))

comes-first : (d : ℕ) (t : Standing) (r : PlainRec) (rs : List PlainRec) (rest now : List ℕ) → IsRec r → after_item (among_nodes d) (item_of r) ≡ Some t → now ≡ flat_map rec_bytes (r ∷ rs) ++ rest → next_of (among_nodes d) now ≡ Some (item_of r, (t, flat_map rec_bytes rs ++ rest))
comes-first d t r rs rest now h may e =
    ap (next_of (among_nodes d)) (e ∙ append_assoc (rec_bytes r) (flat_map rec_bytes rs) rest) ∙ next-record (among_nodes d) t r (flat_map rec_bytes rs ++ rest) h may

opens : (set : List (ℕ × ℕ)) (k : PlainNode) (rest : List ℕ) (d : ℕ) (now : List ℕ) → NodeAt set k rest (deepest - d) now → (t : Standing) × (after : List ℕ) × (next_of (among_nodes d) now ≡ Some (opening_item k, (t, after)))
opens set (leaf_node l s xs) rest d now h = (in_leaf d, _, comes-first d (in_leaf d) (leaf_rec l s) (map alt_of xs ++ leaf_end ∷ []) rest now h.records.0 refl h.bytes)
opens set (inner_node l s ks) rest d now h =
    let two = both (ltb 0 (deepest - d)) (are_nested ((deepest - d) - 1) ks) h.nested in
    let some = deeper d (lt-of 0 (deepest - d) two.0) in
    let may : after_item (among_nodes d) (inner_item l s) ≡ Some (among_nodes (suc d)) = rw some refl in
    (among_nodes (suc d), _, comes-first d (among_nodes (suc d)) (inner_rec l s) (closed_by_end (node_pieces (set_in s set) ks)) rest now h.records.0 may h.bytes)

end-comes : (d : ℕ) (dir : PlainDir) (rest now : List ℕ) → IsRec (end_rec dir) → now ≡ rec_bytes (end_rec dir) ++ rest → next_of (among_nodes d) now ≡ Some (end_item (length (dir_bytes dir)), (closed_by (length (dir_bytes dir)) d, rest))
end-comes d dir rest now h e = ap (next_of (among_nodes d)) e ∙ next-record (among_nodes d) (closed_by (length (dir_bytes dir)) d) (end_rec dir) rest h refl

not-none : (o : Option Coming) (x : Coming) → o ≡ Some x → o ≡ None → ⊥
not-none (Some y) x e f = cc
not-none None x e f = cc

same-item : (o : Option Coming) (x y : Coming) → o ≡ Some x → o ≡ Some y → x ≡ y
same-item o x y e f = some_is x y (sym e ∙ f)

ends-as : (a b : ℕ) → end_item a ≡ end_item b → a ≡ b
ends-as a b e = cc

no-end : (k : PlainNode) (n : ℕ) → opening_item k ≡ end_item n → ⊥
no-end (inner_node l s ks) n e = cc
no-end (leaf_node l s xs) n e = cc

-- ---- the record was not read

module _ (f : PlainFrame) (l : Option PlainLabel) (s : Seen) (among : IsAmongNodes s.cursor.standing) where
  abbrev d : ℕ
  d = depth_of s.cursor.standing

  stands : s.cursor.standing ≡ among_nodes d
  stands = among-is s.cursor.standing among

  pub in-row-failed : (t : Seen) (e : CursorFault) → NextRead l s t (Err e) → InRowJudged f l s t (Err e)
  in-row-failed t e h = record {
    reads = h.reads;
    behind = tt;
    lies = λ bytes told. tt;
    node = λ bytes told k rest lies right. (let o = opens f.set k rest d (at_hand s bytes) lies in unread bytes told (opening_item k, (o.0, o.1)) o.2);
    ended = λ bytes told dir rest is are. unread bytes told (end_item (length (dir_bytes dir)), (closed_by (length (dir_bytes dir)) d, rest)) (end-comes d dir rest (at_hand s bytes) is are);
  }
    where
      unread : (bytes : List ℕ) → Told s bytes → (x : Coming) → next_of (among_nodes d) (at_hand s bytes) ≡ Some x → IfDamage e ⊥
      unread bytes told x is = damage-map e (next_of s.cursor.standing (at_hand s bytes) ≡ None) ⊥
          (λ none. not-none (next_of (among_nodes d) (at_hand s bytes)) x is (subst (λ (p : Standing). next_of p (at_hand s bytes) ≡ None) stands none)) (h.damage bytes told)

  -- ---- the END

  pub in-row-end : (t : Seen) (n : ℕ) → Reads s t None → Given s t (end_item n) → InRowJudged f l s t (Ok (End n))
  in-row-end t n reads g = record {
    reads = reads;
    behind = g;
    lies = λ bytes told. g.spelled bytes told;
    node = λ bytes told k rest lies. (
        let o = opens f.set k rest d (at_hand s bytes) lies in
        let same = same-item (next_of (among_nodes d) (at_hand s bytes)) (opening_item k, (o.0, o.1)) (end_item n, (t.cursor.standing, at_hand t bytes)) o.2 (comes bytes told) in
        no-end k n (ap (λ (x : Coming). x.0) same));
    ended = λ bytes told dir rest is are. (
        let m = length (dir_bytes dir) in
        let same = same-item (next_of (among_nodes d) (at_hand s bytes)) (end_item n, (t.cursor.standing, at_hand t bytes)) (end_item m, (closed_by m d, rest)) (comes bytes told) (end-comes d dir rest (at_hand s bytes) is are) in
        (ends-as n m (ap (λ (x : Coming). x.0) same), ap (λ (x : Coming). x.1.1) same));
  }
    where
      comes : (bytes : List ℕ) → Told s bytes → next_of (among_nodes d) (at_hand s bytes) ≡ Some (end_item n, (t.cursor.standing, at_hand t bytes))
      comes bytes told = comes-at s t (end_item n) bytes (among_nodes d) stands g told

  -- ---- a node

  module _ (m : Seen) (reads : Reads s m None) where
    pub moved-on : (i : PlainItem) → i ≢ finish → Given s m i → s.cursor.at + 9 ≤ m.cursor.at
    moved-on i some g = (let moved = g.moved in let least = size-least s.cursor.standing i some in omega (arith, moved, least))

    there : (bytes : List ℕ) → Told s bytes → Told m bytes
    there bytes told = told-on s m None bytes reads told

    -- no END was read
    no-end-here : (i : PlainItem) → ((n : ℕ) → i ≢ end_item n) → Given s m i → (bytes : List ℕ) → Told s bytes → (dir : PlainDir) (rest : List ℕ) → IsRec (end_rec dir) → at_hand s bytes ≡ rec_bytes (end_rec dir) ++ rest → ⊥
    no-end-here i other g bytes told dir rest is are =
        let n = length (dir_bytes dir) in
        let same = same-item (next_of (among_nodes d) (at_hand s bytes)) (i, (m.cursor.standing, at_hand m bytes)) (end_item n, (closed_by n d, rest)) (comes-at s m i bytes (among_nodes d) stands g told) (end-comes d dir rest (at_hand s bytes) is are) in
        other n (ap (λ (x : Coming). x.0) same)

    -- ---- a leaf

    module _ (kept : IsSome l) (v : Option VersionSet) (g : Given s m (leaf_item (label_in l) (stamp_view v))) where
      abbrev leaf_label : PlainLabel
      leaf_label = label_in l

      abbrev leaf_stamp : Stamp
      leaf_stamp = stamp_view v

      some-leaf : leaf_item leaf_label leaf_stamp ≢ finish
      some-leaf e = cc

      no-leaf-end : (n : ℕ) → leaf_item leaf_label leaf_stamp ≢ end_item n
      no-leaf-end n e = cc

      leaf-spelled : (bytes : List ℕ) → Told s bytes → IsRec (leaf_rec leaf_label leaf_stamp) × (at_hand s bytes ≡ rec_bytes (leaf_rec leaf_label leaf_stamp) ++ at_hand m bytes)
      leaf-spelled bytes told = record-is (leaf_rec leaf_label leaf_stamp) (at_hand s bytes) (at_hand m bytes) (λ r. refl) (g.spelled bytes told)

      pub leaf-inside : m.cursor.standing ≡ in_leaf d
      leaf-inside = leads-to s m (leaf_item leaf_label leaf_stamp) (among_nodes d) (in_leaf d) stands refl g

      leaf-here : (t : Seen) (bytes : List ℕ) → Told s bytes → IsTrue (may_open f true leaf_label leaf_stamp) → AltsHere (leaf_of f leaf_label leaf_stamp) (at_hand m bytes) (at_hand t bytes) → KidHere f leaf_label leaf_stamp 0 (left_of s) (at_hand s bytes) (at_hand t bytes)
      leaf-here t bytes told may y =
          let e = leaf-spelled bytes told in
          record {
            kid = leaf_node leaf_label leaf_stamp y.alts;
            label = refl;
            stamp = refl;
            lies = leaf-lies f.set leaf_label leaf_stamp y.alts (at_hand t bytes) (at_hand m bytes) (at_hand s bytes) (left_of s) e.0 e.1 y.lies;
            only = λ k rest lies. (
                let z = node-leaf f.set k rest (left_of s) (at_hand s bytes) lies leaf_label leaf_stamp (at_hand m bytes) (read-there (leaf_rec leaf_label leaf_stamp) (at_hand s bytes) (at_hand m bytes) e.0 e.1) in
                let w = y.only z.alts rest z.lies in
                (ap (λ (xs : List PlainAlt). leaf_node leaf_label leaf_stamp xs) w.0 ∙ z.is, w.1));
            long = refl;
            right = and_from (may_open f true leaf_label leaf_stamp) (are_alts_of (leaf_of f leaf_label leaf_stamp) y.alts) may y.right;
          }

      pub in-row-leaf : (t : Seen) → LeafJudged f leaf_label leaf_stamp m t (Ok tt) → InRowJudged f l s t (Ok (Kid v 0))
      in-row-leaf t h = record {
        reads = reads-then s m t None reads h.reads;
        behind = (
          kept,
          h.behind ∙ ap (λ (p : Standing). among_nodes (depth_of p)) leaf-inside ∙ sym stands,
          (let first = moved-on (leaf_item leaf_label leaf_stamp) some-leaf g in let reads_on = h.reads in let onward = reads_on.onward in omega (arith, first, onward)),
        );
        lies = λ bytes told. leaf-here t bytes told h.opened (h.lies bytes (there bytes told));
        node = λ bytes told k rest lies. tt;
        ended = λ bytes told dir rest dir_is are. absurd (no-end-here (leaf_item leaf_label leaf_stamp) no-leaf-end g bytes told dir rest dir_is are);
      }

      pub in-row-no-leaf : (t : Seen) (e : CursorFault) → LeafJudged f leaf_label leaf_stamp m t (Err e) → InRowJudged f l s t (Err e)
      in-row-no-leaf t fault h = record {
        reads = reads-then s m t (Some fault) reads h.reads;
        behind = tt;
        lies = λ bytes told. tt;
        node = λ bytes told k rest lies right. (
            let e = leaf-spelled bytes told in
            let x = node-leaf f.set k rest (left_of s) (at_hand s bytes) lies leaf_label leaf_stamp (at_hand m bytes) (read-there (leaf_rec leaf_label leaf_stamp) (at_hand s bytes) (at_hand m bytes) e.0 e.1) in
            h.found bytes (there bytes told) x.alts rest x.lies (subst (λ (z : PlainNode). IsTrue (is_next f z)) (sym x.is) right));
        ended = λ bytes told dir rest dir_is are. absurd (no-end-here (leaf_item leaf_label leaf_stamp) no-leaf-end g bytes told dir rest dir_is are);
      }

    -- ---- an inner node

    module _ (kept : IsSome l) (v : Option VersionSet) (g : Given s m (inner_item (label_in l) (stamp_view v))) where
      abbrev own_label : PlainLabel
      own_label = label_in l

      abbrev own_stamp : Stamp
      own_stamp = stamp_view v

      some-inner : inner_item own_label own_stamp ≢ finish
      some-inner e = cc

      no-inner-end : (n : ℕ) → inner_item own_label own_stamp ≢ end_item n
      no-inner-end n e = cc

      inner-spelled : (bytes : List ℕ) → Told s bytes → IsRec (inner_rec own_label own_stamp) × (at_hand s bytes ≡ rec_bytes (inner_rec own_label own_stamp) ++ at_hand m bytes)
      inner-spelled bytes told = record-is (inner_rec own_label own_stamp) (at_hand s bytes) (at_hand m bytes) (λ r. refl) (g.spelled bytes told)

      -- it may be so deep, and the cursor is below it
      goes-below : (ltb d deepest ≡ true) × (among_nodes (suc d) ≡ m.cursor.standing)
      goes-below = passed_some (ltb d deepest) (among_nodes (suc d)) m.cursor.standing (ap (λ (p : Standing). after_item p (inner_item own_label own_stamp)) (sym stands) ∙ g.may_come)

      pub inner-inside : m.cursor.standing ≡ among_nodes (suc d)
      inner-inside = sym goes-below.1

      some-left : 0 < left_of s
      some-left = (let less = lt-of d deepest goes-below.0 in omega (arith, less))

      left-below : left_of m ≡ left_of s - 1
      left-below = (let less = lt-of d deepest goes-below.0 in ap (λ (p : Standing). deepest - depth_of p) inner-inside ∙ omega (arith, less))

      closes : (n : ℕ) → closed_by n (depth_of m.cursor.standing) ≡ s.cursor.standing
      closes n = ap (λ (p : Standing). closed_by n (depth_of p)) inner-inside ∙ sym stands

      -- the set of the row below
      abbrev below : List (ℕ × ℕ)
      below = set_in own_stamp f.set

      own-set : (row_below f own_label own_stamp).set ≡ below
      own-set = set_in-is own_stamp f.set

      row-there : (bytes rest : List ℕ) (ks : PlainNodes) → RowAt below ks rest (left_of s - 1) (at_hand m bytes) → RowAt below ks rest (left_of m) (at_hand m bytes)
      row-there bytes rest ks h = subst (λ (n : ℕ). RowAt below ks rest n (at_hand m bytes)) (sym left-below) h

      inner-here : (t : Seen) (n : ℕ) (kids : PlainKids) (bytes : List ℕ) → Told s bytes → IsTrue (may_open f false own_label own_stamp) → RowHere (row_below f own_label own_stamp) kids n (left_of m) (at_hand m bytes) (at_hand t bytes) → KidHere f own_label own_stamp n (left_of s) (at_hand s bytes) (at_hand t bytes)
      inner-here t n kids bytes told may y =
          let e = inner-spelled bytes told in
          let row : RowAt below y.nodes (at_hand t bytes) (left_of m) (at_hand m bytes) = subst (λ (set : List (ℕ × ℕ)). RowAt set y.nodes (at_hand t bytes) (left_of m) (at_hand m bytes)) own-set y.lies in
          record {
            kid = inner_node own_label own_stamp y.nodes;
            label = refl;
            stamp = refl;
            lies = inner-lies f.set own_label own_stamp y.nodes (at_hand t bytes) (at_hand m bytes) (at_hand s bytes) (left_of s) e.0 some-left e.1
                (subst (λ (depth : ℕ). RowAt below y.nodes (at_hand t bytes) depth (at_hand m bytes)) left-below row);
            only = λ k rest lies. (
                let z = node-inner f.set k rest (left_of s) (at_hand s bytes) lies own_label own_stamp (at_hand m bytes) (read-there (inner_rec own_label own_stamp) (at_hand s bytes) (at_hand m bytes) e.0 e.1) in
                let w = y.only z.kids rest (subst (λ (set : List (ℕ × ℕ)). RowAt set z.kids rest (left_of m) (at_hand m bytes)) (sym own-set) (row-there bytes rest z.kids z.row)) in
                (ap (λ (ks : PlainNodes). inner_node own_label own_stamp ks) w.0 ∙ z.is, w.1));
            long = y.long ∙ ap (λ (set : List (ℕ × ℕ)). end_length set y.nodes) own-set;
            right = and_from (may_open f false own_label own_stamp) (goes_on (row_below f own_label own_stamp) y.nodes) may y.right;
          }

      pub in-row-inner : (t : Seen) (n : ℕ) → InnerJudged f own_label own_stamp m t (Ok n) → InRowJudged f l s t (Ok (Kid v n))
      in-row-inner t n h = record {
        reads = reads-then s m t None reads h.reads;
        behind = (
          kept,
          h.behind ∙ closes n,
          (let first = moved-on (inner_item own_label own_stamp) some-inner g in let reads_on = h.reads in let onward = reads_on.onward in omega (arith, first, onward)),
        );
        lies = λ bytes told. (let y = h.lies bytes (there bytes told) in inner-here t n y.0 bytes told h.opened y.1);
        node = λ bytes told k rest lies. tt;
        ended = λ bytes told e rest dir_is are. absurd (no-end-here (inner_item own_label own_stamp) no-inner-end g bytes told e rest dir_is are);
      }

      pub in-row-no-inner : (t : Seen) (e : CursorFault) → InnerJudged f own_label own_stamp m t (Err e) → InRowJudged f l s t (Err e)
      in-row-no-inner t fault h = record {
        reads = reads-then s m t (Some fault) reads h.reads;
        behind = tt;
        lies = λ bytes told. tt;
        node = λ bytes told k rest lies right. (
            let e = inner-spelled bytes told in
            let x = node-inner f.set k rest (left_of s) (at_hand s bytes) lies own_label own_stamp (at_hand m bytes) (read-there (inner_rec own_label own_stamp) (at_hand s bytes) (at_hand m bytes) e.0 e.1) in
            h.found bytes (there bytes told) x.kids rest (row-there bytes rest x.kids x.row) (subst (λ (z : PlainNode). IsTrue (is_next f z)) (sym x.is) right));
        ended = λ bytes told dir rest dir_is are. absurd (no-end-here (inner_item own_label own_stamp) no-inner-end g bytes told dir rest dir_is are);
      }
