-- Printing rows.
use Rattle.std.proofs.Common.{◌≡◌, ℕ, suc, ◌+◌, ◌-◌, ◌*◌, ◌≤◌, Bool, false, List, [], ◌∷◌, ◌++◌, length, map, Option, Some, None, Result, Ok, Err, refl, sym, ap, subst, ◌∙◌, arith, append-nil, append_assoc}
use Rattle.std.specs.Result.{IfOk}
use Rattle.std.specs.List.{flat_map}
use Rattle.std.proofs.lemmas.List.{length-append}
use Rattle.xa_outside.specs.Folder.{Files}
use Rattle.xa_outside.specs.Numbers.{Numbers, PullsAtMost}
use Rattle.xa_outside.specs.Taken.{Taken}
use Rattle.xa_fields.specs.Spelling.{u32_bytes}
use Rattle.jsonml_print.specs.Pen.{Pen}
use Rattle.archive_tree.specs.Data.{PlainNode, nodes_from}
use Rattle.timestamp_tree.specs.Bytes.{tree_bytes}
use Rattle.timestamp_tree.specs.Tree.{tree_of}
use Rattle.timestamp_tree.specs.Search.{visits}
use Rattle.record_format.specs.Bounds.{IsDir}
use Rattle.record_format.specs.Nodes.{Piece, piece_bytes, dir_of, closed_by_end, node_pieces}
use Rattle.record_format.specs.Seen.{sets_visits}
use Rattle.record_format.specs.Spelling.{entry_bytes, sets_bytes, dir_bytes, rec_bytes}
use Rattle.record_format.proofs.Pieces.{closed-bytes, entries-length}
use Rattle.record_cursor.specs.Faults.{IfDamage}
use Rattle.record_cursor.specs.Moves.{TellsFront}
use Rattle.record_cursor.specs.Steps as cursor
use Rattle.record_cursor.specs.declared.fault.CursorFault.{CursorFault}
use Rattle.file_rows.specs.StandsAt.{StandsAt, RowLaid, head_bytes}
use Rattle.file_rows.specs.View.{PlainRow}
use Rattle.file_rows.proofs.Parts.{stands-back}
use Rattle.file_rows.proofs.Children.{end-parts, entries-size}
use Rattle.file_get.specs.Told.{of_cursor, fault_of}
use Rattle.file_get.specs.State.{State}
use Rattle.file_get.specs.Kids.{set_of, kids_in, kids_calls, item_behind, nodes_seen, nodes_steps, sets_seen, sets_steps}
use Rattle.file_get.specs.Walks.{Walks, Shows, StandsIn}
use Rattle.file_get.specs.Stands.{whole_of, RowIs, VisitIs}
use Rattle.file_get.specs.Visits.{may_pull, Reaches, EndsAt, Visited}
use Rattle.file_get.specs.Printed.{RowTold, RowPrinted}
use Rattle.file_get.specs.declared.span.Place.{Place}
use Rattle.file_get.specs.declared.fault.GetFault.{GetFault}
use Rattle.file_get.proofs.Spans.{dir-is, rows-sets}
use Rattle.file_get.proofs.States.{walks-then, walks-more, shows-then}
use Rattle.file_get.proofs.States as states
use Rattle.file_get.specs.Searched.{sets_read, tree_read}

pieces-count : (parent : List (ℕ × ℕ)) (ks : List PlainNode) → length (node_pieces parent (nodes_from ks)) ≡ length ks
pieces-count parent [] = refl
pieces-count parent (k ∷ ks) = ap (λ n. suc n) (pieces-count parent ks)

-- whether an element was printed, by the place that was reached
abbrev pub has_item_of : Result Place GetFault → Result Bool GetFault
has_item_of (Ok p) = Ok p.has_item
has_item_of (Err e) = Err e

pub has_item-fault : (r : Result Place GetFault) → fault_of r ≡ fault_of (has_item_of r)
has_item-fault (Ok p) = refl
has_item-fault (Err e) = refl

abbrev pub first_place : PlainRow → ℕ → Place
first_place row depth = record { depth = depth; after = row.first; has_item = false }

-- where the tree stands
record TreeStands (bytes : List ℕ) (row : PlainRow) (ps : List Piece) : Type 0 where
  pub stands : StandsAt bytes (row.end + (13 + 24 * length ps)) (sets_bytes (dir_of ps).sets)
  pub limit : row.end + (9 + row.dir) ≡ row.end + (13 + 24 * length ps) + length (sets_bytes (dir_of ps).sets)

tree-stands : (bytes : List ℕ) (row : PlainRow) (ps : List Piece) → RowLaid bytes row ps → TreeStands bytes row ps
tree-stands bytes row ps h =
    let d = dir_of ps in
    let pieces = flat_map piece_bytes ps in
    let head = head_bytes (length (dir_bytes d)) (length d.entries) in
    let entries = flat_map entry_bytes d.entries in
    let sets = sets_bytes d.sets in
    let whole : flat_map rec_bytes (closed_by_end ps) ≡ pieces ++ ((head ++ entries) ++ sets) = closed-bytes ps ∙ ap (λ (bs : List ℕ). pieces ++ bs) (end-parts d ∙ sym (append_assoc head entries sets)) in
    let end-at : StandsAt bytes (row.first + length pieces) ((head ++ entries) ++ sets) = stands-back bytes row.first pieces ((head ++ entries) ++ sets) (subst (StandsAt bytes row.first) whole h.stands) in
    let tree-at : StandsAt bytes (row.first + length pieces + length (head ++ entries)) sets = stands-back bytes (row.first + length pieces) (head ++ entries) sets end-at in
    let ends = h.end in
    let dir = h.dir in
    let n = entries-length 0 ps in
    let es = entries-size d.entries in
    let count = length-append (u32_bytes (length d.entries) ++ entries) sets in
    let heads = length-append head entries in
    let place : row.first + length pieces + length (head ++ entries) ≡ row.end + (13 + 24 * length ps) = omega (arith, ends, n, es, heads) in
    record {
      stands = subst (λ (at : ℕ). StandsAt bytes at sets) place tree-at;
      limit = omega (arith, dir, n, es, count);
    }

some-tree : (sets : List (List (ℕ × ℕ))) → 1 ≤ length sets → sets_bytes sets ≡ tree_bytes (tree_of sets)
some-tree [] e = absurd (omega (arith, e))
some-tree (s ∷ sets) e = refl

some-visited : (sets : List (List (ℕ × ℕ))) (i : ℕ) → 1 ≤ length sets → (sets_read sets i ≡ tree_read (tree_of sets) i) × (sets_visits sets i ≡ visits (tree_of sets) i)
some-visited [] i e = absurd (omega (arith, e))
some-visited (s ∷ sets) i e = (refl, refl)

length-map-is : {X Y : Type 0} (f : X → Y) (xs : List X) → length (map f xs) ≡ length xs
length-map-is f [] = refl
length-map-is f (x ∷ xs) = ap (λ n. suc n) (length-map-is f xs)

none-is : {X : Type 0} (xs : List X) → length xs ≡ 0 → xs ≡ []
none-is [] e = refl
none-is (x ∷ xs) e = absurd (omega (arith, e))

module _ {S K : Type 0} (files : S → Option Files) (draft : S → Option (List ℕ)) (numbers : S → Numbers) (faults : S → ℕ) (taken : K → Taken) (out_faults : K → ℕ) (i : ℕ) (name : List ℕ) (row : PlainRow) (depth : ℕ) where
  abbrev pub at : S → K → Pen → ℕ → State
  at = states.at files draft numbers faults taken out_faults

  -- what counting the children says where the row is told
  abbrev pub Tells : S → (ℕ → Type 0) → Type 0
  Tells old P = (last : ℕ) (bytes : List ℕ) (ps : List Piece) → TellsFront (files old) name last bytes → row.end + (9 + row.dir) ≤ last → RowLaid bytes row ps → IsDir (dir_of ps) → P (length ps)

  counted : (old : S) (P : ℕ → Type 0) (bytes : List ℕ) (end : ℕ) (parent : List (ℕ × ℕ)) (ks : List PlainNode) → Tells old P → RowTold i (files old) name bytes end depth row parent ks → P (length ks)
  counted old P bytes end parent ks told x =
      let nodes = x.nodes in
      subst P (pieces-count parent ks) (told end bytes (node_pieces parent (nodes_from ks)) x.tells nodes.within nodes.stands (dir-is (node_pieces parent (nodes_from ks)) nodes.records))

  more : {a b : Numbers} (m l : ℕ) → m ≤ l → PullsAtMost m a b → PullsAtMost l a b
  more m l le h = (let w = h.within in record { count = h.count; within = omega (arith, le, w); pulled = h.pulled })

  -- the children were not counted
  pub row-uncounted : (old new : S) (k : K) (p : Pen) (n : ℕ) (e : CursorFault) → row.first ≤ row.end → cursor.OnlyReads files draft faults old new (Some e) → PullsAtMost 13 (numbers old) (numbers new) → PullsAtMost (9 + row.dir) (numbers old) (numbers new)
      → Tells old (λ m. IfDamage e ⊥) → RowPrinted i name row depth (at old k p n) (at new k p n) (Err (of_cursor e))
  row-uncounted old new k p n e ordered h pulls inside told = record {
    walks = walks-more (at old k p n) (at new k p n) (Some (of_cursor e)) (9 + row.dir) (row.end + (9 + row.dir) - row.first) (omega (arith, ordered)) (states.reads files draft numbers faults taken out_faults old new k p n n (Some e) (9 + row.dir) h inside);
    stands = tt;
    shows = λ bytes end parent ks x. ((
      states.shows-unread files draft numbers faults taken out_faults old new k p n n (13 + (sets_seen i parent ks + nodes_seen i parent ks)) (sets_steps i parent ks + nodes_steps i parent ks) e (kids_calls (kids_in i parent ks)) (counted old (λ m. IfDamage e ⊥) bytes end parent ks told x) (omega arith)
          (more 13 (13 + (sets_seen i parent ks + nodes_seen i parent ks)) (omega arith) pulls),
      tt,
    ));
  }

  -- a row without children
  pub row-empty : (old new : S) (k : K) (p : Pen) (n : ℕ) (count : ℕ) → row.first ≤ row.end → count ≡ 0 → StandsIn depth false p → cursor.OnlyReads files draft faults old new None → PullsAtMost 13 (numbers old) (numbers new) → PullsAtMost (9 + row.dir) (numbers old) (numbers new)
      → Tells old (λ m. count ≡ m) → RowPrinted i name row depth (at old k p n) (at new k p n) (Ok false)
  row-empty old new k p n count ordered none stood h pulls inside told = record {
    walks = walks-more (at old k p n) (at new k p n) None (9 + row.dir) (row.end + (9 + row.dir) - row.first) (omega (arith, ordered)) (states.reads files draft numbers faults taken out_faults old new k p n n None (9 + row.dir) h inside);
    stands = stood;
    shows = λ bytes end parent ks x. (
        let e : ks ≡ [] = none-is ks (sym (counted old (λ m. count ≡ m) bytes end parent ks told x) ∙ none) in (
          subst (λ (js : List PlainNode). Shows (kids_calls (kids_in i parent js)) (13 + (sets_seen i parent js + nodes_seen i parent js)) (sets_steps i parent js + nodes_steps i parent js) (at old k p n) (at new k p n) None) (sym e)
              (states.shows-read files draft numbers faults taken out_faults old new k p n n 13 0 (omega arith) pulls),
          ap (λ (js : List PlainNode). item_behind false (kids_in i parent js)) (sym e),
        ));
  }

  -- the row as a part of itself
  visit-told : (files : Option Files) (bytes : List ℕ) (end : ℕ) (parent : List (ℕ × ℕ)) (ks : List PlainNode) (count : ℕ) → count ≡ length ks → 1 ≤ count → RowTold i files name bytes end depth row parent ks
      → VisitIs i files name bytes end row (whole_of row count) (first_place row depth) parent [] ks []
  visit-told files bytes end parent ks count is some x =
      let nodes = x.nodes in
      let ps = node_pieces parent (nodes_from ks) in
      let t = tree-stands bytes row ps nodes.stands in
      let sets : (dir_of ps).sets ≡ map (set_of parent) ks = rows-sets parent ks in
      let n : length ps ≡ count = pieces-count parent ks ∙ sym is in
      let same : sets_bytes (dir_of ps).sets ≡ tree_bytes (tree_of (map (set_of parent) ks)) = ap sets_bytes sets ∙ some-tree (map (set_of parent) ks) (omega (arith, some, is, length-map-is (set_of parent) ks)) in
      record {
        tells = x.tells;
        nodes = subst (λ (js : List PlainNode). RowIs bytes end depth row parent js) (sym (append-nil ks)) nodes;
        part = record {
          position = refl;
          count = is;
          tree = subst (StandsAt bytes (row.end + (13 + 24 * count))) same (subst (λ (m : ℕ). StandsAt bytes (row.end + (13 + 24 * m)) (sets_bytes (dir_of ps).sets)) n t.stands);
          limit = t.limit ∙ (λ j. row.end + (13 + 24 * n j) + length (same j));
          inside = omega arith;
        };
        after = omega arith;
        bodies = x.bodies;
        fits = x.fits;
      }

  walk-most : (count : ℕ) (r : Result Place GetFault) → row.first ≤ row.end → 4 + 24 * count ≤ row.dir → IfOk r (λ p. p.after ≤ row.end) → 13 + may_pull row.end (whole_of row count) (first_place row depth) r ≤ row.end + (9 + row.dir) - row.first
  walk-most count (Ok p) ordered room inside = omega (arith, ordered, room, inside)
  walk-most count (Err e) ordered room inside = omega (arith, ordered, room)

  within-of : (r : Result Place GetFault) (p : Pen) → IfOk r (λ q. Reaches row.end (first_place row depth) q p) → IfOk r (λ q. q.after ≤ row.end)
  within-of (Ok q) p h = h.within
  within-of (Err e) p h = tt

  stands-of : (r : Result Place GetFault) (p : Pen) → IfOk r (λ q. Reaches row.end (first_place row depth) q p) → IfOk (has_item_of r) (λ h. StandsIn depth h p)
  stands-of (Ok q) p h = subst (λ (d : ℕ). StandsIn d q.has_item p) h.depth h.stands
  stands-of (Err e) p h = tt

  item-of : (r : Result Place GetFault) (parent : List (ℕ × ℕ)) (ks : List PlainNode) → IfOk r (λ q. EndsAt i row parent [] ks [] (first_place row depth) q) → IfOk (has_item_of r) (λ h. h ≡ item_behind false (kids_in i parent ks))
  item-of (Ok q) parent ks h = h.item
  item-of (Err e) parent ks h = tt

  -- the row was searched
  pub row-printed : (old new : S) (k : K) (p : Pen) (n : ℕ) (count : ℕ) (u : State) (r : Result Place GetFault) → row.first ≤ row.end → 1 ≤ count → 4 + 24 * count ≤ row.dir → cursor.OnlyReads files draft faults old new None → PullsAtMost 13 (numbers old) (numbers new)
      → Tells old (λ m. count ≡ m) → Visited i name row (whole_of row count) (first_place row depth) (at new k p n) u r → RowPrinted i name row depth (at old k p n) u (has_item_of r)
  row-printed old new k p n count u r ordered some room h pulls told visited = (
      let s = at old k p n in
      let t = at new k p n in
      let e = fault_of (has_item_of r) in
      let got = states.reads files draft numbers faults taken out_faults old new k p n n None 13 h pulls in
      let m = may_pull row.end (whole_of row count) (first_place row depth) r in
      record {
        walks = walks-then s t u e 13 m (row.end + (9 + row.dir) - row.first) (walk-most count r ordered room (within-of r u.pen visited.reaches)) got (subst (Walks m t u) (has_item-fault r) visited.walks);
        stands = stands-of r u.pen visited.reaches;
        shows = λ bytes end parent ks x. (
            let is = counted old (λ m. count ≡ m) bytes end parent ks told x in
            let x1 = subst (λ (f : Option Files). VisitIs i f name bytes end row (whole_of row count) (first_place row depth) parent [] ks []) (sym h.same_files) (visit-told (files old) bytes end parent ks count is some x) in
            let inner = visited.shows bytes end parent [] ks [] x1 in
            let v = some-visited (map (set_of parent) ks) i (omega (arith, some, is, length-map-is (set_of parent) ks)) in
            let a = tree_read (tree_of (map (set_of parent) ks)) i + nodes_seen i parent ks in
            let b = visits (tree_of (map (set_of parent) ks)) i + nodes_steps i parent ks in
            let show = subst (Shows (kids_calls (kids_in i parent ks)) a b t u) (has_item-fault r) inner.0 in
            let known = states.shows-read files draft numbers faults taken out_faults old new k p n n 13 0 (omega arith) pulls in
            let seen = v.0 in
            let walked = v.1 in (
              shows-then s t u e [] (kids_calls (kids_in i parent ks)) 13 a (13 + (sets_seen i parent ks + nodes_seen i parent ks)) 0 b (sets_steps i parent ks + nodes_steps i parent ks) (omega (arith, seen)) (omega (arith, walked)) known show,
              item-of r parent ks inner.1,
            ));
      })
