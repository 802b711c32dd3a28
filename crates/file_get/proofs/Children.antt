-- Printing children.
use Rattle.std.proofs.Common.{◌≡◌, ℕ, ◌+◌, ◌-◌, ◌≤◌, Bool, false, List, [], ◌∷◌, ◌++◌, length, map, Option, Some, None, Result, Err, refl, sym, ap, subst, ◌∙◌, arith}
use Rattle.std.specs.List.{flat_map, AllByRecursion}
use Rattle.xa_outside.specs.Folder.{Files}
use Rattle.xa_outside.specs.Numbers.{Numbers, PullsAtMost, after_pull}
use Rattle.xa_outside.specs.NumberLaws.{PullsAtMost-of}
use Rattle.xa_outside.specs.Taken.{Taken}
use Rattle.version_set.specs.Members.{members}
use Rattle.jsonml_print.specs.Pen.{Pen}
use Rattle.archive_tree.specs.Data.{PlainNode, inner_node, leaf_node}
use Rattle.archive_tree.specs.Read.{read}
use Rattle.record_format.specs.Bounds.{IsRec}
use Rattle.record_format.specs.Data.{leaf_end}
use Rattle.record_format.specs.Nodes.{piece_bytes, alt_of, closed_by_end, set_in, node_piece, node_pieces}
use Rattle.record_format.specs.Seen.{node_steps}
use Rattle.record_format.specs.Spelling.{rec_bytes}
use Rattle.record_cursor.specs.Faults.{IfDamage}
use Rattle.record_cursor.specs.Moves.{TellsFront}
use Rattle.record_cursor.specs.Steps as cursor
use Rattle.record_cursor.specs.declared.fault.CursorFault.{CursorFault}
use Rattle.file_rows.specs.StandsAt.{StandsAt}
use Rattle.file_rows.specs.View.{PlainChild}
use Rattle.file_get.specs.Told.{of_cursor, fault_of}
use Rattle.file_get.specs.State.{State}
use Rattle.file_get.specs.Kids.{kid_calls}
use Rattle.file_get.specs.Stands.{NodeIs}
use Rattle.file_get.specs.Printed.{NodePrinted}
use Rattle.file_get.specs.Inside.{OpenedPrinted, OpeningIs, opening_rec, is_inner, inside_seen}
use Rattle.file_get.specs.declared.read.Opening.{Opening}
use Rattle.file_get.specs.declared.fault.GetFault.{GetFault}
use Rattle.file_get.proofs.States.{walks-then, shows-then}
use Rattle.file_get.proofs.States as states
use Rattle.file_get.specs.Searched.{node_read}

-- ---- opening records

-- what stands behind the opening record of a node
abbrev behind_bytes : List (ℕ × ℕ) → PlainNode → List ℕ
behind_bytes parent (inner_node l s ks) = flat_map rec_bytes (closed_by_end (node_pieces (set_in s parent) ks))
behind_bytes parent (leaf_node l s xs) = flat_map rec_bytes (map alt_of xs ++ leaf_end ∷ [])

apart : (parent : List (ℕ × ℕ)) (k : PlainNode) → piece_bytes (node_piece parent k) ≡ rec_bytes (opening_rec k) ++ behind_bytes parent k
apart parent (inner_node l s ks) = refl
apart parent (leaf_node l s xs) = refl

opens-first : (parent : List (ℕ × ℕ)) (k : PlainNode) → AllByRecursion IsRec (node_piece parent k).records → IsRec (opening_rec k)
opens-first parent (inner_node l s ks) h = h.0
opens-first parent (leaf_node l s xs) h = h.0

-- no END closes a leaf
leaf-closed : (parent : List (ℕ × ℕ)) (k : PlainNode) (dir : ℕ) → dir ≡ (node_piece parent k).dir → is_inner k ≡ false → dir ≡ 0
leaf-closed parent (inner_node l s ks) dir h e = absurd cc
leaf-closed parent (leaf_node l s xs) dir h e = h

-- the bytes of a node that are looked at
seen-apart : (i : ℕ) (parent : List (ℕ × ℕ)) (k : PlainNode) → length (rec_bytes (opening_rec k)) + inside_seen i parent k ≡ node_read i parent k
seen-apart i parent (inner_node l s ks) = omega arith
seen-apart i parent (leaf_node l s xs) = omega arith

module _ {S K : Type 0} (files : S → Option Files) (draft : S → Option (List ℕ)) (numbers : S → Numbers) (faults : S → ℕ) (taken : K → Taken) (out_faults : K → ℕ) (i : ℕ) (name : List ℕ) (child : PlainChild) (depth : ℕ) (has_item : Bool) where
  abbrev pub at : S → K → Pen → ℕ → State
  at = states.at files draft numbers faults taken out_faults

  -- what reading an opening record says where a node is told
  abbrev pub Tells : S → S → (PlainNode → Type 0) → Type 0
  Tells old new P = (end : ℕ) (bytes more : List ℕ) (k : PlainNode) → TellsFront (files old) name end bytes → child.end ≤ end → StandsAt bytes child.first (rec_bytes (opening_rec k) ++ more) → child.end ≡ child.first + length (rec_bytes (opening_rec k) ++ more)
      → IsRec (opening_rec k) → (is_inner k ≡ false → child.dir ≡ 0) → P k × PullsAtMost (length (rec_bytes (opening_rec k))) (numbers old) (numbers new)

  found : (old new : S) (P : PlainNode → Type 0) (bytes : List ℕ) (end : ℕ) (parent : List (ℕ × ℕ)) (k : PlainNode) → Tells old new P → NodeIs i (files old) name bytes end child depth has_item parent k → P k × PullsAtMost (length (rec_bytes (opening_rec k))) (numbers old) (numbers new)
  found old new P bytes end parent k told x =
      let is = x.is in
      let stands = is.stands in
      told end bytes (behind_bytes parent k) k x.tells is.within (subst (StandsAt bytes child.first) (apart parent k) stands.stands) (stands.end ∙ ap (λ (bs : List ℕ). child.first + length bs) (apart parent k)) (opens-first parent k is.records) (leaf-closed parent k child.dir stands.dir)

  -- the opening record was not read
  pub node-unopened : (old new : S) (k : K) (p : Pen) (n : ℕ) (e : CursorFault) → cursor.OnlyReads files draft faults old new (Some e) → PullsAtMost (child.end - child.first) (numbers old) (numbers new) → Tells old new (λ j. IfDamage e ⊥)
      → NodePrinted i name child depth has_item (at old k p n) (at new k p n) (Err (of_cursor e))
  node-unopened old new k p n e h pulls told = record {
    walks = states.reads files draft numbers faults taken out_faults old new k p n n (Some e) (child.end - child.first) h pulls;
    stands = tt;
    shows = λ bytes end parent j x. (
        let y = found old new (λ j. IfDamage e ⊥) bytes end parent j told x in (
          states.shows-unread files draft numbers faults taken out_faults old new k p n n (node_read i parent j) (node_steps i parent j) e (kid_calls (read i (members parent) j)) y.0 (omega arith) (more (length (rec_bytes (opening_rec j))) (node_read i parent j) (le parent j) y.1),
          tt,
        ));
  }
    where
      more : {a b : Numbers} (m l : ℕ) → m ≤ l → PullsAtMost m a b → PullsAtMost l a b
      more m l le h = (let w = h.within in record { count = h.count; within = omega (arith, le, w); pulled = h.pulled })

      le : (parent : List (ℕ × ℕ)) (j : PlainNode) → length (rec_bytes (opening_rec j)) ≤ node_read i parent j
      le parent j = (let e = seen-apart i parent j in omega (arith, e))

  -- the opening record was read, and what is behind it printed
  pub node-printed : (old new : S) (k : K) (p : Pen) (n : ℕ) (o : Opening) (u : State) (r : Result Bool GetFault) → child.first ≤ o.behind → o.behind ≤ child.end → cursor.OnlyReads files draft faults old new None
      → numbers new ≡ after_pull (numbers old) (o.behind - child.first) → Tells old new (λ j. OpeningIs j child.first o) → OpenedPrinted i name child o depth has_item (at new k p n) u r
      → NodePrinted i name child depth has_item (at old k p n) u r
  node-printed old new k p n o u r low high h pulled told opened = (
      let s = at old k p n in
      let t = at new k p n in
      let got = states.reads files draft numbers faults taken out_faults old new k p n n None (o.behind - child.first) h (PullsAtMost-of (o.behind - child.first) (o.behind - child.first) (numbers old) (numbers new) (omega arith) pulled) in
      record {
        walks = walks-then s t u (fault_of r) (o.behind - child.first) (child.end - o.behind) (child.end - child.first) (omega (arith, low, high)) got opened.walks;
        stands = opened.stands;
        shows = λ bytes end parent j x. (
            let y = found old new (λ j. OpeningIs j child.first o) bytes end parent j told x in
            let x' : NodeIs i (files new) name bytes end child depth has_item parent j = subst (λ (f : Option Files). NodeIs i f name bytes end child depth has_item parent j) (sym h.same_files) x in
            let inner = opened.shows bytes end parent j (record { node = x'; opens = y.0 }) in
            let m = length (rec_bytes (opening_rec j)) in
            let known = states.shows-read files draft numbers faults taken out_faults old new k p n n m 0 (omega arith) y.1 in
            let seen = seen-apart i parent j in (
              shows-then s t u (fault_of r) [] (kid_calls (read i (members parent) j)) m (inside_seen i parent j) (node_read i parent j) 0 (node_steps i parent j) (node_steps i parent j) (omega (arith, seen)) (omega arith) known inner.0,
              inner.1,
            ));
      })
