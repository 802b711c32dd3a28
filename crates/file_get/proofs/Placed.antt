-- Printing the only child of a part of a row.
use Rattle.std.proofs.Common.{◌≡◌, ℕ, ◌+◌, ◌-◌, ◌≤◌, ◌||◌, Bool, true, nat_lt, List, [], ◌∷◌, ◌++◌, length, take, Option, Some, None, Result, Ok, Err, refl, sym, ap, subst, ◌∙◌, arith, append-nil, if◌then◌else◌}
use Rattle.std.specs.Result.{IfOk}
use Rattle.std.specs.List.{flat_map, slice_get}
use Rattle.std.proofs.lemmas.List.{length-append}
use Rattle.xa_outside.specs.Folder.{Files}
use Rattle.xa_outside.specs.Numbers.{Numbers, PullsAtMost}
use Rattle.xa_outside.specs.Taken.{Taken}
use Rattle.version_set.specs.Members.{members}
use Rattle.jsonml_print.specs.Pen.{Pen}
use Rattle.keyed_tree.specs.Data.{PlainLabel, PlainKeyed}
use Rattle.keyed_tree.specs.Proper.{is_tag}
use Rattle.archive_tree.specs.Data.{PlainNode, nodes_from, node_label}
use Rattle.archive_tree.specs.Read.{read}
use Rattle.archive_tree.proofs.Readings.{read_label}
use Rattle.record_format.specs.Bounds.{IsRec, IsDir}
use Rattle.record_format.specs.Data.{end_rec}
use Rattle.record_format.specs.Nodes.{Piece, piece_bytes, dir_of, node_piece, node_pieces}
use Rattle.record_format.specs.Seen.{node_steps}
use Rattle.record_format.proofs.Pieces.{all-front}
use Rattle.record_cursor.specs.Faults.{IfDamage}
use Rattle.record_cursor.specs.Moves.{TellsFront}
use Rattle.record_cursor.specs.Steps as cursor
use Rattle.record_cursor.specs.declared.fault.CursorFault.{CursorFault}
use Rattle.file_rows.specs.StandsAt.{RowLaid, ChildLaid, start_in}
use Rattle.file_rows.specs.View.{PlainRow, PlainChild}
use Rattle.file_rows.proofs.Children.{ChildAt, child-at}
use Rattle.file_get.specs.Told.{of_cursor, fault_of}
use Rattle.file_get.specs.State.{State}
use Rattle.file_get.specs.Kids.{has_at, kids_in, kid_calls, kids_calls, item_behind, nodes_seen, nodes_steps}
use Rattle.file_get.specs.Walks.{Walks, Shows, StandsIn}
use Rattle.file_get.specs.Stands.{NodeIs, VisitIs}
use Rattle.file_get.specs.Visits.{reach, Reaches, EndsAt}
use Rattle.file_get.specs.Printed.{NodePrinted, ChildPrinted}
use Rattle.file_get.specs.declared.span.Span.{Span}
use Rattle.file_get.specs.declared.span.Place.{Place}
use Rattle.file_get.specs.declared.fault.GetFault.{GetFault}
use Rattle.file_get.proofs.Spans.{piece-at, piece-records, nested-at, dir-is, find-one, kids-one, fit-one}
use Rattle.file_get.proofs.States.{walks-then, walks-more, shows-then, shows-as}
use Rattle.file_get.proofs.States as states
use Rattle.file_get.specs.Searched.{node_read}

-- the place behind a child
abbrev pub placed : Place → ℕ → Result Bool GetFault → Result Place GetFault
placed place end (Ok h) = Ok (record { depth = place.depth; after = end; has_item = h })
placed place end (Err e) = Err e

pub placed-fault : (place : Place) (end : ℕ) (r : Result Bool GetFault) → fault_of r ≡ fault_of (placed place end r)
placed-fault place end (Ok h) = refl
placed-fault place end (Err e) = refl

module _ {S K : Type 0} (files : S → Option Files) (draft : S → Option (List ℕ)) (numbers : S → Numbers) (faults : S → ℕ) (taken : K → Taken) (out_faults : K → ℕ) (i : ℕ) (name : List ℕ) (row : PlainRow) (span : Span) (place : Place) where
  abbrev pub at : S → K → Pen → ℕ → State
  at = states.at files draft numbers faults taken out_faults

  -- what reading a child's entry says where the row is told
  abbrev pub Tells : S → (ℕ → List ℕ → Piece → Type 0) → Type 0
  Tells old P = (last : ℕ) (bytes : List ℕ) (ps : List Piece) (p : Piece) → TellsFront (files old) name last bytes → row.end + (9 + row.dir) ≤ last → RowLaid bytes row ps → IsDir (dir_of ps) → slice_get ps span.position ≡ Some p
      → place.after ≤ start_in row.first ps span.position → start_in row.first ps (span.position + 1) ≤ row.end → P (start_in row.first ps span.position) bytes p

  -- the child of a part of a row that has only one
  record One (bytes : List ℕ) (parent : List (ℕ × ℕ)) (front : List PlainNode) (k : PlainNode) (behind : List PlainNode) : Type 0 where
    pub next : start_in row.first (node_pieces parent (nodes_from (front ++ (k ∷ behind)))) (length front + 1) ≡ start_in row.first (node_pieces parent (nodes_from (front ++ (k ∷ behind)))) (length front) + length (piece_bytes (node_piece parent k))
    pub fits : start_in row.first (node_pieces parent (nodes_from (front ++ (k ∷ behind)))) (length front + 1) ≤ row.end

  one : (files : Option Files) (bytes : List ℕ) (end : ℕ) (parent : List (ℕ × ℕ)) (front behind : List PlainNode) (k : PlainNode) → VisitIs i files name bytes end row span place parent front (k ∷ []) behind → One bytes parent front k behind
  one files bytes end parent front behind k x =
      let ps = node_pieces parent (nodes_from (front ++ (k ∷ behind))) in
      let c : ChildAt row.first ps (length front) (node_piece parent k) = child-at row.first ps (length front) (node_piece parent k) (piece-at parent front k behind) in
      let nodes = x.nodes in
      let stands = nodes.stands in
      let ends = stands.end in
      let all = ap length c.piece ∙ length-append (flat_map piece_bytes (take (length front) ps)) (piece_bytes (node_piece parent k) ++ c.more) in
      let rest = length-append (piece_bytes (node_piece parent k)) c.more in
      let next = c.next in
      record { next = next; fits = omega (arith, next, all, rest, ends) }

  found : (old : S) (P : ℕ → List ℕ → Piece → Type 0) (bytes : List ℕ) (end : ℕ) (parent : List (ℕ × ℕ)) (front behind : List PlainNode) (k : PlainNode) → Tells old P → VisitIs i (files old) name bytes end row span place parent front (k ∷ []) behind
      → P (start_in row.first (node_pieces parent (nodes_from (front ++ (k ∷ behind)))) (length front)) bytes (node_piece parent k)
  found old P bytes end parent front behind k told x =
      let ps = node_pieces parent (nodes_from (front ++ (k ∷ behind))) in
      let nodes = x.nodes in
      let part = x.part in
      let o = one (files old) bytes end parent front behind k x in
      let pos : length front ≡ span.position = sym part.position in
      subst (λ (n : ℕ). P (start_in row.first ps n) bytes (node_piece parent k)) (sym pos)
      (told end bytes ps (node_piece parent k) x.tells nodes.within nodes.stands (dir-is ps nodes.records) (subst (λ (n : ℕ). slice_get ps n ≡ Some (node_piece parent k)) pos (piece-at parent front k behind))
      (subst (λ (n : ℕ). place.after ≤ start_in row.first ps n) pos x.after) (subst (λ (n : ℕ). start_in row.first ps (n + 1) ≤ row.end) pos o.fits))

  seen-one : (parent : List (ℕ × ℕ)) (k : PlainNode) → has_at i parent k ≡ true → nodes_seen i parent (k ∷ []) ≡ 24 + node_read i parent k
  seen-one parent k e = ap (λ (b : Bool). (if b then 24 + node_read i parent k else 0) + 0) e ∙ plus (24 + node_read i parent k)
    where
      plus : (n : ℕ) → n + 0 ≡ n
      plus n = omega arith

  steps-one : (parent : List (ℕ × ℕ)) (k : PlainNode) → has_at i parent k ≡ true → nodes_steps i parent (k ∷ []) ≡ node_steps i parent k
  steps-one parent k e = ap (λ (b : Bool). (if b then node_steps i parent k else 0) + 0) e ∙ plus (node_steps i parent k)
    where
      plus : (n : ℕ) → n + 0 ≡ n
      plus n = omega arith

  more : {a b : Numbers} (m l : ℕ) → m ≤ l → PullsAtMost m a b → PullsAtMost l a b
  more m l le h = (let w = h.within in record { count = h.count; within = omega (arith, le, w); pulled = h.pulled })

  -- the entry was not read
  pub child-unread : (old new : S) (k : K) (p : Pen) (n : ℕ) (e : CursorFault) → cursor.OnlyReads files draft faults old new (Some e) → PullsAtMost 24 (numbers old) (numbers new) → Tells old (λ from bytes q. IfDamage e ⊥)
      → ChildPrinted i name row span place (at old k p n) (at new k p n) (Err (of_cursor e))
  child-unread old new k p n e h pulls told = record {
    walks = walks-more (at old k p n) (at new k p n) (Some (of_cursor e)) 24 (24 + (row.end - place.after)) (omega arith) (states.reads files draft numbers faults taken out_faults old new k p n n (Some e) 24 h pulls);
    reaches = tt;
    shows = λ bytes end parent front behind j x has. (
        let y = found old (λ from bytes q. IfDamage e ⊥) bytes end parent front behind j told x in
        let seen = seen-one parent j has in (
          states.shows-unread files draft numbers faults taken out_faults old new k p n n (nodes_seen i parent (j ∷ [])) (nodes_steps i parent (j ∷ [])) e (kids_calls (kids_in i parent (j ∷ []))) y (omega arith) (more 24 (nodes_seen i parent (j ∷ [])) (omega (arith, seen)) pulls),
          tt,
        ));
  }

  walk-most : (child : PlainChild) (r : Result Bool GetFault) → place.after ≤ child.first → child.first ≤ child.end → child.end ≤ row.end → 24 + (child.end - child.first) ≤ 24 + (reach row.end (placed place child.end r) - place.after)
  walk-most child (Ok h) low mid high = omega (arith, low, mid, high)
  walk-most child (Err e) low mid high = omega (arith, low, mid, high)

  reaches-by : (child : PlainChild) (r : Result Bool GetFault) (p : Pen) → place.after ≤ child.first → child.first ≤ child.end → child.end ≤ row.end → IfOk r (λ h. StandsIn place.depth h p) → IfOk (placed place child.end r) (λ q. Reaches row.end place q p)
  reaches-by child (Ok h) p low mid high stands = record { depth = refl; onward = omega (arith, low, mid); within = high; stands = stands }
  reaches-by child (Err e) p low mid high stands = tt

  ends-by : (child : PlainChild) (r : Result Bool GetFault) (parent : List (ℕ × ℕ)) (front behind : List PlainNode) (k : PlainNode) → has_at i parent k ≡ true
      → child.end ≤ start_in row.first (node_pieces parent (nodes_from (front ++ (k ∷ behind)))) (length front + 1) → IfOk r (λ h. h ≡ (place.has_item || is_tag (node_label k).name)) → IfOk (placed place child.end r) (λ q. EndsAt i row parent front (k ∷ []) behind place q)
  ends-by child (Ok h) parent front behind k has far e = record {
    item = e ∙ ap (λ (l : PlainLabel). place.has_item || is_tag l.name) (sym (read_label i (members parent) k)) ∙ ap (λ (ks : List PlainKeyed). item_behind place.has_item ks) (sym (kids-one i parent k has));
    after = far;
  }
  ends-by child (Err x) parent front behind k has far e = tt

  -- the child was printed
  pub child-printed : (old new : S) (k : K) (p : Pen) (n : ℕ) (child : PlainChild) (u : State) (r : Result Bool GetFault) → place.after ≤ child.first → child.first ≤ child.end → child.end ≤ row.end → cursor.OnlyReads files draft faults old new None
      → PullsAtMost 24 (numbers old) (numbers new) → Tells old (λ from bytes q. ChildLaid bytes child q × (child.first ≡ from)) → NodePrinted i name child place.depth place.has_item (at new k p n) u r
      → ChildPrinted i name row span place (at old k p n) u (placed place child.end r)
  child-printed old new k p n child u r low mid high h pulls told printed = (
      let s = at old k p n in
      let t = at new k p n in
      let e = fault_of (placed place child.end r) in
      let got = states.reads files draft numbers faults taken out_faults old new k p n n None 24 h pulls in
      let walk = subst (Walks (child.end - child.first) t u) (placed-fault place child.end r) printed.walks in
      record {
        walks = walks-then s t u e 24 (child.end - child.first) (24 + (reach row.end (placed place child.end r) - place.after)) (walk-most child r low mid high) got walk;
        reaches = reaches-by child r u.pen low mid high printed.stands;
        shows = λ bytes end parent front behind j x has. (
            let y = found old (λ from bytes q. ChildLaid bytes child q × (child.first ≡ from)) bytes end parent front behind j told x in
            let nodes = x.nodes in
            let within = nodes.within in
            let o = one (files old) bytes end parent front behind j x in
            let stands = y.0 in
            let ends = stands.end in
            let next = o.next in
            let x' : NodeIs i (files new) name bytes end child place.depth place.has_item parent j = record {
              tells = subst (λ (f : Option Files). TellsFront f name end bytes) (sym h.same_files) x.tells;
              is = record {
                stands = stands;
                within = omega (arith, high, within);
                records = piece-records parent front j behind (all-front IsRec (flat_map (λ (q : Piece). q.records) (node_pieces parent (nodes_from (front ++ (j ∷ behind))))) (end_rec (dir_of (node_pieces parent (nodes_from (front ++ (j ∷ behind))))) ∷ []) nodes.records);
                nested = nested-at _ front j behind nodes.nested;
              };
              has = has;
              bodies = find-one i parent j has x.bodies;
              fits = fit-one i parent (nat_lt 0 place.depth) place.has_item j has x.fits;
            } in
            let inner = printed.shows bytes end parent j x' in
            let show = subst (Shows (kid_calls (read i (members parent) j)) (node_read i parent j) (node_steps i parent j) t u) (placed-fault place child.end r) inner.0 in
            let known = states.shows-read files draft numbers faults taken out_faults old new k p n n 24 0 (omega arith) pulls in
            let seen = seen-one parent j has in
            let steps = steps-one parent j has in
            let calls : kid_calls (read i (members parent) j) ≡ kids_calls (kids_in i parent (j ∷ [])) = sym (ap kids_calls (kids-one i parent j has) ∙ append-nil (kid_calls (read i (members parent) j))) in
            let both = shows-then s t u e [] (kid_calls (read i (members parent) j)) 24 (node_read i parent j) (24 + node_read i parent j) 0 (node_steps i parent j) (node_steps i parent j) (omega arith) (omega arith) known show in (
              shows-as s u e (kid_calls (read i (members parent) j)) (kids_calls (kids_in i parent (j ∷ []))) (24 + node_read i parent j) (nodes_seen i parent (j ∷ [])) (node_steps i parent j) (nodes_steps i parent (j ∷ [])) calls (omega (arith, seen)) (omega (arith, steps)) both,
              ends-by child r parent front behind j has (omega (arith, next, ends, y.1)) inner.1,
            ));
      })
