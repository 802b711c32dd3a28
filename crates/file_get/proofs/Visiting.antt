-- Searching parts of rows.
use Rattle.std.proofs.Common.{◌≡◌, ℕ, zero, suc, ◌+◌, ◌-◌, ◌*◌, ◌≤◌, ◌<◌, Bool, true, false, nat_lt, List, [], ◌∷◌, ◌++◌, length, map, take, drop, IsTrue, Option, Some, None, Result, Ok, Err, refl, sym, ap, subst, ◌∙◌, arith, append_assoc}
use Rattle.std.specs.Result.{IfOk}
use Rattle.std.specs.List.{flat_map, AllByRecursion}
use Rattle.std.proofs.lemmas.List.{length-append, take-append-drop}
use Rattle.std.proofs.lemmas.Grind.{flat_map-append}
use Rattle.xa_outside.specs.Folder.{Files}
use Rattle.xa_outside.specs.Numbers.{Numbers, PullsAtMost}
use Rattle.xa_outside.specs.Taken.{Taken}
use Rattle.version_set.specs.Members.{members, has}
use Rattle.jsonml_print.specs.Calls.{Call}
use Rattle.jsonml_print.specs.Pen.{Pen}
use Rattle.keyed_tree.specs.Data.{PlainKeyed}
use Rattle.archive_tree.specs.Data.{PlainNode, nodes_from}
use Rattle.timestamp_tree.specs.Data.{PlainTs, top}
use Rattle.timestamp_tree.specs.Search.{visits}
use Rattle.timestamp_tree.specs.Tree.{half, joined}
use Rattle.record_parts.specs.Bounds.{IsSet}
use Rattle.record_format.specs.Nodes.{Piece, piece_bytes, node_pieces}
use Rattle.record_cursor.specs.Faults.{IfDamage}
use Rattle.record_cursor.specs.Steps as cursor
use Rattle.record_cursor.specs.declared.fault.CursorFault.{CursorFault}
use Rattle.file_rows.specs.StandsAt.{start_in}
use Rattle.file_rows.specs.View.{PlainRow}
use Rattle.file_get.specs.Told.{of_cursor, fault_of}
use Rattle.file_get.specs.State.{State}
use Rattle.file_get.specs.Kids.{IsFilled, set_of, has_at, kids_in, kids_calls, kid_calls, item_behind, kids_fit, all_find, nodes_seen, nodes_steps}
use Rattle.file_get.specs.Looked.{Halves, LookTold, LookIs, PartsAre, own_read, tree_over}
use Rattle.file_get.specs.Walks.{Shows, StandsIn}
use Rattle.file_get.specs.Stands.{RowIs, VisitIs}
use Rattle.file_get.specs.Visits.{reach, may_pull, Reaches, EndsAt, Visited}
use Rattle.file_get.specs.Printed.{ChildPrinted}
use Rattle.file_get.specs.declared.span.Span.{Span}
use Rattle.file_get.specs.declared.span.Place.{Place}
use Rattle.file_get.specs.declared.look.Sight.TheVariants.{Parts}
use Rattle.file_get.specs.declared.fault.GetFault.{GetFault}
use Rattle.file_get.proofs.Spans.{dir-is, rows-filled, rows-sets, part-sets, kids-append, item-append, fit-front, fit-back, find-front, find-back, seen-append, steps-append, nodes-split, lacks-none, lacks-idle, lacks-visits, own-visited, some-visits, joined-visited, joined-visits}
use Rattle.file_get.proofs.States.{walks-then, walks-more, shows-then, shows-fault}
use Rattle.file_get.proofs.States as states
use Rattle.file_get.specs.Searched.{tree_read}

-- ---- offsets

shift : (a b : ℕ) → suc a + b ≡ suc (a + b)
shift a b = omega arith

take-none : {X : Type 0} (b : ℕ) (xs : List X) → xs ≡ [] → take b xs ≡ []
take-none zero xs e = refl
take-none (suc b) [] e = refl
take-none (suc b) (x ∷ xs) e = absurd cc

take-more : {X : Type 0} (a b : ℕ) (xs : List X) → take (a + b) xs ≡ take a xs ++ take b (drop a xs)
take-more zero b xs = let e : 0 + b ≡ b = omega arith in ap (λ (n : ℕ). take n xs) e
take-more (suc a) b [] = take-none (suc a + b) [] refl ∙ sym (take-none b [] refl)
take-more (suc a) b (x ∷ xs) = ap (λ (n : ℕ). take n (x ∷ xs)) (shift a b) ∙ ap (λ ys. x ∷ ys) (take-more a b xs)

-- a later child begins no earlier
pub start-later : (first a b : ℕ) (ps : List Piece) → start_in first ps a ≤ start_in first ps (a + b)
start-later first a b ps =
    let e = ap (λ (qs : List Piece). length (flat_map piece_bytes qs)) (take-more a b ps) ∙ ap length (flat_map-append piece_bytes (take a ps) (take b (drop a ps))) in
    omega (arith, e, length-append (flat_map piece_bytes (take a ps)) (flat_map piece_bytes (take b (drop a ps))))

-- ---- both halves

pub both-halves : (ks : List PlainNode) → take (half (length ks)) ks ++ drop (half (length ks)) ks ≡ ks
both-halves ks = take-append-drop (half (length ks)) ks

module _ {S K : Type 0} (files : S → Option Files) (draft : S → Option (List ℕ)) (numbers : S → Numbers) (faults : S → ℕ) (taken : K → Taken) (out_faults : K → ℕ) (i : ℕ) (name : List ℕ) (row : PlainRow) (span : Span) (place : Place) where
  abbrev pub at : S → K → Pen → ℕ → State
  at = states.at files draft numbers faults taken out_faults

  -- what looking at a node of the tree says where the part is told
  abbrev pub Tells : S → S → (List ℕ → List (ℕ × ℕ) → List PlainNode → List PlainNode → List PlainNode → Type 0) → Type 0
  Tells old new P = (bytes : List ℕ) (end : ℕ) (parent : List (ℕ × ℕ)) (front ks behind : List PlainNode) → LookTold (files old) name bytes end row span parent front ks behind
      → P bytes parent front ks behind × PullsAtMost (own_read (tree_over parent ks)) (numbers old) (numbers new)

  look-told : (files : Option Files) (bytes : List ℕ) (end : ℕ) (parent : List (ℕ × ℕ)) (front ks behind : List PlainNode) → 1 ≤ span.count → VisitIs i files name bytes end row span place parent front ks behind → LookTold files name bytes end row span parent front ks behind
  look-told files bytes end parent front ks behind some x =
      let nodes = x.nodes in
      let part = x.part in
      let d = dir-is (node_pieces parent (nodes_from (front ++ (ks ++ behind)))) nodes.records in
      let count = part.count in
      record {
        tells = x.tells;
        within = nodes.within;
        part = part;
        filled = part-sets IsFilled parent front ks behind (rows-filled parent (front ++ (ks ++ behind)) nodes.records nodes.filled);
        sets = part-sets IsSet parent front ks behind (subst (AllByRecursion IsSet) (rows-sets parent (front ++ (ks ++ behind))) d.sets);
        some = omega (arith, some, count);
      }

  more : {a b : Numbers} (m l : ℕ) → m ≤ l → PullsAtMost m a b → PullsAtMost l a b
  more m l le h = (let w = h.within in record { count = h.count; within = omega (arith, le, w); pulled = h.pulled })

  -- the tree was not looked at
  pub visit-unlooked : (old new : S) (k : K) (p : Pen) (m n : ℕ) (e : CursorFault) → 1 ≤ span.count → n ≡ m + 1 → cursor.OnlyReads files draft faults old new (Some e) → PullsAtMost (span.limit - span.at) (numbers old) (numbers new)
      → ((bytes : List ℕ) (end : ℕ) (r : PlainRow) (parent : List (ℕ × ℕ)) (front ks behind : List PlainNode) → LookTold (files old) name bytes end r span parent front ks behind → IfDamage e ⊥ × PullsAtMost (own_read (tree_over parent ks)) (numbers old) (numbers new))
      → Visited i name row span place (at old k p m) (at new k p n) (Err (of_cursor e))
  visit-unlooked old new k p m n e some step h pulls told = record {
    walks = walks-more (at old k p m) (at new k p n) (Some (of_cursor e)) (span.limit - span.at) (may_pull row.end span place (Err (of_cursor e))) (omega arith) (states.reads files draft numbers faults taken out_faults old new k p m n (Some e) (span.limit - span.at) h pulls);
    reaches = tt;
    shows = λ bytes end parent front ks behind x. (
        let y = told bytes end row parent front ks behind (look-told (files old) bytes end parent front ks behind some x) in
        let t = tree_over parent ks in
        let own = own-visited t i in
        let one = some-visits t i in (
          states.shows-unread files draft numbers faults taken out_faults old new k p m n (tree_read t i + nodes_seen i parent ks) (visits t i + nodes_steps i parent ks) e (kids_calls (kids_in i parent ks)) y.0 (omega (arith, one, step))
              (more (own_read t) (tree_read t i + nodes_seen i parent ks) (omega (arith, own)) y.1),
          tt,
        ));
  }

  -- no child of the part has i
  pub visit-lacks : (old new : S) (k : K) (p : Pen) (m n : ℕ) → 1 ≤ span.count → place.after ≤ row.end → StandsIn place.depth place.has_item p → n ≡ m + 1 → cursor.OnlyReads files draft faults old new None → PullsAtMost (span.limit - span.at) (numbers old) (numbers new)
      → Tells old new (λ bytes parent front ks behind. has (members (top (tree_over parent ks))) i ≡ false) → Visited i name row span place (at old k p m) (at new k p n) (Ok place)
  visit-lacks old new k p m n some inside stood step h pulls told = record {
    walks = walks-more (at old k p m) (at new k p n) None (span.limit - span.at) (may_pull row.end span place (Ok place)) (omega arith) (states.reads files draft numbers faults taken out_faults old new k p m n None (span.limit - span.at) h pulls);
    reaches = record { depth = refl; onward = omega arith; within = inside; stands = stood };
    shows = λ bytes end parent front ks behind x. (
        let l = look-told (files old) bytes end parent front ks behind some x in
        let y = told bytes end parent front ks behind l in
        let t = tree_over parent ks in
        let own = own-visited t i in
        let none = lacks-none i parent ks l.some l.sets y.0 in
        let alone = lacks-visits t i y.0 in
        let idle = lacks-idle i parent ks l.some l.sets y.0 in
        let start = start-later row.first (length front) (length ks) (node_pieces parent (nodes_from (front ++ (ks ++ behind)))) in
        let after = x.after in (
          subst (λ (cs : List PlainKeyed). Shows (kids_calls cs) (tree_read t i + nodes_seen i parent ks) (visits t i + nodes_steps i parent ks) (at old k p m) (at new k p n) None) (sym none)
              (states.shows-read files draft numbers faults taken out_faults old new k p m n (tree_read t i + nodes_seen i parent ks) (visits t i + nodes_steps i parent ks) (omega (arith, alone, idle, step)) (more (own_read t) (tree_read t i + nodes_seen i parent ks) (omega (arith, own)) y.1)),
          record { item = ap (λ (cs : List PlainKeyed). item_behind place.has_item cs) (sym none); after = omega (arith, after, start) },
        ));
  }

  one-most : (count : ℕ) (r : Result Place GetFault) → count ≡ 1 → (span.limit - span.at) + (24 + (reach row.end r - place.after)) ≤ (span.limit - span.at) + 24 * count + (reach row.end r - place.after)
  one-most count r e = omega (arith, e)

  -- the only child was printed
  pub visit-child : (old new : S) (k : K) (p : Pen) (m n : ℕ) (u : State) (r : Result Place GetFault) → span.count ≡ 1 → n ≡ m + 1 → cursor.OnlyReads files draft faults old new None → PullsAtMost (span.limit - span.at) (numbers old) (numbers new)
      → Tells old new (λ bytes parent front ks behind. (j : PlainNode) × (ks ≡ j ∷ []) × (has_at i parent j ≡ true)) → ChildPrinted i name row span place (at new k p n) u r → Visited i name row span place (at old k p m) u r
  visit-child old new k p m n u r single step h pulls told printed = (
      let s = at old k p m in
      let t = at new k p n in
      let e = fault_of r in
      let got = states.reads files draft numbers faults taken out_faults old new k p m n None (span.limit - span.at) h pulls in
      record {
        walks = walks-then s t u e (span.limit - span.at) (24 + (reach row.end r - place.after)) (may_pull row.end span place r) (one-most span.count r single) got printed.walks;
        reaches = printed.reaches;
        shows = λ bytes end parent front ks behind x. (
            let y = told bytes end parent front ks behind (look-told (files old) bytes end parent front ks behind (omega (arith, single)) x) in
            let j = y.0.0 in
            let is = y.0.1 in
            let x1 : VisitIs i (files old) name bytes end row span place parent front (j ∷ []) behind = subst (λ (js : List PlainNode). VisitIs i (files old) name bytes end row span place parent front js behind) is x in
            let x2 = subst (λ (f : Option Files). VisitIs i f name bytes end row span place parent front (j ∷ []) behind) (sym h.same_files) x1 in
            let inner = printed.shows bytes end parent front behind j x2 y.0.2 in
            let own = own-visited (tree_over parent (j ∷ [])) i in
            let one : visits (tree_over parent (j ∷ [])) i ≡ 1 = refl in
            let w = tree_read (tree_over parent (j ∷ [])) i in
            let v = visits (tree_over parent (j ∷ [])) i in
            let pulled = subst (λ (js : List PlainNode). PullsAtMost (own_read (tree_over parent js)) (numbers old) (numbers new)) is y.1 in
            let known = states.shows-read files draft numbers faults taken out_faults old new k p m n w v (omega (arith, one, step)) (more (own_read (tree_over parent (j ∷ []))) w own pulled) in
            let both = shows-then s t u e [] (kids_calls (kids_in i parent (j ∷ []))) w (nodes_seen i parent (j ∷ [])) (w + nodes_seen i parent (j ∷ [])) v (nodes_steps i parent (j ∷ [])) (v + nodes_steps i parent (j ∷ [])) (omega arith) (omega arith) known inner.0 in (
              subst (λ (js : List PlainNode). Shows (kids_calls (kids_in i parent js)) (tree_read (tree_over parent js) i + nodes_seen i parent js) (visits (tree_over parent js) i + nodes_steps i parent js) s u e) (sym is) both,
              subst (λ (js : List PlainNode). IfOk r (λ q. EndsAt i row parent front js behind place q)) (sym is) inner.1,
            ));
      })

  -- ---- both parts

  -- the nodes of both parts, in their row
  rejoined : (front ks behind : List PlainNode) → front ++ (take (half (length ks)) ks ++ (drop (half (length ks)) ks ++ behind)) ≡ front ++ (ks ++ behind)
  rejoined front ks behind = ap (λ (xs : List PlainNode). front ++ xs) (sym (append_assoc (take (half (length ks)) ks) (drop (half (length ks)) ks) behind) ∙ ap (λ (xs : List PlainNode). xs ++ behind) (both-halves ks))

  pub left-told : (files : Option Files) (bytes : List ℕ) (end : ℕ) (parent : List (ℕ × ℕ)) (front ks behind : List PlainNode) (left right : Span) → PartsAre bytes row left right parent front ks behind → VisitIs i files name bytes end row span place parent front ks behind
      → VisitIs i files name bytes end row left place parent front (take (half (length ks)) ks) (drop (half (length ks)) ks ++ behind)
  left-told files bytes end parent front ks behind left right p x =
      let xs = take (half (length ks)) ks in
      let ys = drop (half (length ks)) ks in
      let all = sym (rejoined front ks behind) in
      record {
        tells = x.tells;
        nodes = subst (λ (js : List PlainNode). RowIs bytes end place.depth row parent js) all x.nodes;
        part = p.front_half;
        after = subst (λ (js : List PlainNode). place.after ≤ start_in row.first (node_pieces parent (nodes_from js)) (length front)) all x.after;
        bodies = find-front i parent xs ys (ap (all_find i parent) (both-halves ks) ∙ x.bodies);
        fits = fit-front (nat_lt 0 place.depth) place.has_item (kids_in i parent xs) (kids_in i parent ys)
            (subst (λ (cs : List PlainKeyed). IsTrue (kids_fit (nat_lt 0 place.depth) place.has_item cs)) (ap (kids_in i parent) (sym (both-halves ks)) ∙ kids-append i parent xs ys) x.fits);
      }

  pub right-told : (files : Option Files) (bytes : List ℕ) (end : ℕ) (parent : List (ℕ × ℕ)) (front ks behind : List PlainNode) (left right : Span) (q : Place) → PartsAre bytes row left right parent front ks behind → VisitIs i files name bytes end row span place parent front ks behind
      → q.depth ≡ place.depth → EndsAt i row parent front (take (half (length ks)) ks) (drop (half (length ks)) ks ++ behind) place q
      → VisitIs i files name bytes end row right q parent (front ++ take (half (length ks)) ks) (drop (half (length ks)) ks) behind
  right-told files bytes end parent front ks behind left right q p x same ends =
      let xs = take (half (length ks)) ks in
      let ys = drop (half (length ks)) ks in
      let all = sym (rejoined front ks behind) ∙ sym (append_assoc front xs (ys ++ behind)) in
      record {
        tells = x.tells;
        nodes = subst (λ (d : ℕ). RowIs bytes end d row parent ((front ++ xs) ++ (ys ++ behind))) (sym same) (subst (λ (js : List PlainNode). RowIs bytes end place.depth row parent js) all x.nodes);
        part = p.back_half;
        after = subst (λ (n : ℕ). q.after ≤ start_in row.first (node_pieces parent (nodes_from ((front ++ xs) ++ (ys ++ behind)))) n) (sym (length-append front xs))
            (subst (λ (js : List PlainNode). q.after ≤ start_in row.first (node_pieces parent (nodes_from js)) (length front + length xs)) (sym (append_assoc front xs (ys ++ behind))) ends.after);
        bodies = find-back i parent xs ys (ap (all_find i parent) (both-halves ks) ∙ x.bodies);
        fits = subst (λ (d : ℕ). IsTrue (kids_fit (nat_lt 0 d) q.has_item (kids_in i parent ys))) (sym same)
            (subst (λ (h : Bool). IsTrue (kids_fit (nat_lt 0 place.depth) h (kids_in i parent ys))) (sym ends.item)
            (fit-back (nat_lt 0 place.depth) place.has_item (kids_in i parent xs) (kids_in i parent ys)
            (subst (λ (cs : List PlainKeyed). IsTrue (kids_fit (nat_lt 0 place.depth) place.has_item cs)) (ap (kids_in i parent) (sym (both-halves ks)) ∙ kids-append i parent xs ys) x.fits)));
      }

  -- where the search of the right part ends, that of both does
  ends-both : (parent : List (ℕ × ℕ)) (front ks behind : List PlainNode) (q v : Place) → EndsAt i row parent front (take (half (length ks)) ks) (drop (half (length ks)) ks ++ behind) place q
      → EndsAt i row parent (front ++ take (half (length ks)) ks) (drop (half (length ks)) ks) behind q v → EndsAt i row parent front ks behind place v
  ends-both parent front ks behind q v h g =
      let xs = take (half (length ks)) ks in
      let ys = drop (half (length ks)) ks in
      let all = append_assoc front xs (ys ++ behind) ∙ rejoined front ks behind in
      let lengths : length (front ++ xs) + length ys ≡ length front + length ks = omega (arith, length-append front xs, length-append xs ys, ap length (both-halves ks)) in
      record {
        item = g.item ∙ ap (λ (b : Bool). item_behind b (kids_in i parent ys)) h.item ∙ sym (item-append place.has_item (kids_in i parent xs) (kids_in i parent ys)) ∙ ap (item_behind place.has_item) (sym (kids-append i parent xs ys) ∙ ap (kids_in i parent) (both-halves ks));
        after = subst (λ (n : ℕ). v.after ≤ start_in row.first (node_pieces parent (nodes_from (front ++ (ks ++ behind)))) n) lengths
            (subst (λ (js : List PlainNode). v.after ≤ start_in row.first (node_pieces parent (nodes_from js)) (length (front ++ xs) + length ys)) all g.after);
      }

  -- what both parts take
  record Both (parent : List (ℕ × ℕ)) (ks : List PlainNode) : Type 0 where
    calls : kids_calls (kids_in i parent (take (half (length ks)) ks)) ++ kids_calls (kids_in i parent (drop (half (length ks)) ks)) ≡ kids_calls (kids_in i parent ks)
    read : own_read (tree_over parent ks) + ((tree_read (tree_over parent (take (half (length ks)) ks)) i + nodes_seen i parent (take (half (length ks)) ks)) + (tree_read (tree_over parent (drop (half (length ks)) ks)) i + nodes_seen i parent (drop (half (length ks)) ks))) ≡ tree_read (tree_over parent ks) i + nodes_seen i parent ks
    steps : 1 + ((visits (tree_over parent (take (half (length ks)) ks)) i + nodes_steps i parent (take (half (length ks)) ks)) + (visits (tree_over parent (drop (half (length ks)) ks)) i + nodes_steps i parent (drop (half (length ks)) ks))) ≡ visits (tree_over parent ks) i + nodes_steps i parent ks

  both : (parent : List (ℕ × ℕ)) (ks : List PlainNode) → 1 < length ks → AllByRecursion IsSet (map (set_of parent) ks) → has (members (top (tree_over parent ks))) i ≡ true → Both parent ks
  both parent ks many sets is =
      let xs = take (half (length ks)) ks in
      let ys = drop (half (length ks)) ks in
      let l = tree_over parent xs in
      let r = tree_over parent ys in
      let split = nodes-split parent ks many sets in
      let has' : has (members (top (joined l r))) i ≡ true = subst (λ (t : PlainTs). has (members (top t)) i ≡ true) split is in
      let own = ap own_read split in
      let seen = ap (λ (t : PlainTs). tree_read t i) split in
      let walked = ap (λ (t : PlainTs). visits t i) split in
      let nodes = sym (seen-append i parent xs ys) ∙ ap (nodes_seen i parent) (both-halves ks) in
      let steps = sym (steps-append i parent xs ys) ∙ ap (nodes_steps i parent) (both-halves ks) in
      let v = joined-visited l r i has' in
      let w = joined-visits l r i has' in
      record {
        calls = sym (flat_map-append kid_calls (kids_in i parent xs) (kids_in i parent ys)) ∙ ap kids_calls (sym (kids-append i parent xs ys) ∙ ap (kids_in i parent) (both-halves ks));
        read = omega (arith, own, seen, nodes, v);
        steps = omega (arith, walked, steps, w);
      }

  left-most : (left right : Span) (e : ℕ) → Halves span left right → (left.at - span.at) + ((left.limit - left.at) + 24 * left.count + (e - place.after)) ≤ (span.limit - span.at) + 24 * span.count + (e - place.after)
  left-most left right e h = (let a = h.behind in let b = h.left_ordered in let c = h.next in let d = h.right_ordered in let f = h.limit in let n = h.count in omega (arith, a, b, c, d, f, n))

  -- the left part was not searched to its end
  pub visit-left : (old new : S) (k : K) (p : Pen) (m n : ℕ) (left right : Span) (u : State) (e : GetFault) → 1 ≤ span.count → Halves span left right → n ≡ m + 1 → cursor.OnlyReads files draft faults old new None → PullsAtMost (left.at - span.at) (numbers old) (numbers new)
      → Tells old new (λ bytes parent front ks behind. LookIs i bytes row parent front ks behind (Parts left right)) → Visited i name row left place (at new k p n) u (Err e) → Visited i name row span place (at old k p m) u (Err e)
  visit-left old new k p m n left right u e some halves step h pulls told visited = (
      let s = at old k p m in
      let t = at new k p n in
      let got = states.reads files draft numbers faults taken out_faults old new k p m n None (left.at - span.at) h pulls in
      record {
        walks = walks-then s t u (Some e) (left.at - span.at) ((left.limit - left.at) + 24 * left.count + (row.end - place.after)) (may_pull row.end span place (Err e)) (left-most left right row.end halves) got visited.walks;
        reaches = tt;
        shows = λ bytes end parent front ks behind x. (
            let l = look-told (files old) bytes end parent front ks behind some x in
            let y = told bytes end parent front ks behind l in
            let both' = both parent ks y.0.0 l.sets y.0.1 in
            let xs = take (half (length ks)) ks in
            let ys = drop (half (length ks)) ks in
            let x1 = subst (λ (f : Option Files). VisitIs i f name bytes end row left place parent front xs (ys ++ behind)) (sym h.same_files) (left-told (files old) bytes end parent front ks behind left right y.0.2 x) in
            let inner = visited.shows bytes end parent front xs (ys ++ behind) x1 in
            let own = own_read (tree_over parent ks) in
            let a = tree_read (tree_over parent xs) i + nodes_seen i parent xs in
            let b = visits (tree_over parent xs) i + nodes_steps i parent xs in
            let known = states.shows-read files draft numbers faults taken out_faults old new k p m n own 1 (omega (arith, step)) y.1 in
            let two = shows-then s t u (Some e) [] (kids_calls (kids_in i parent xs)) own a (own + a) 1 b (1 + b) (omega arith) (omega arith) known inner.0 in
            let read = both'.read in
            let steps = both'.steps in (
              subst (λ (cs : List Call). Shows cs (tree_read (tree_over parent ks) i + nodes_seen i parent ks) (visits (tree_over parent ks) i + nodes_steps i parent ks) s u (Some e)) both'.calls
                  (shows-fault s u e (kids_calls (kids_in i parent xs)) (kids_calls (kids_in i parent ys)) (own + a) (tree_read (tree_over parent ks) i + nodes_seen i parent ks) (1 + b) (visits (tree_over parent ks) i + nodes_steps i parent ks) (omega (arith, read)) (omega (arith, steps)) two),
              tt,
            ));
      })

  reach-on : (q : Place) (r : Result Place GetFault) (p : Pen) → IfOk r (λ v. Reaches row.end q v p) → q.after ≤ row.end → q.after ≤ reach row.end r
  reach-on q (Ok v) p h inside = h.onward
  reach-on q (Err e) p h inside = inside

  right-most : (left right : Span) (b e : ℕ) → Halves span left right → place.after ≤ b → b ≤ e → ((left.at - span.at) + ((left.limit - left.at) + 24 * left.count + (b - place.after))) + ((right.limit - right.at) + 24 * right.count + (e - b)) ≤ (span.limit - span.at) + 24 * span.count + (e - place.after)
  right-most left right b e h low high = (let a = h.behind in let b' = h.left_ordered in let c = h.next in let d = h.right_ordered in let f = h.limit in let n = h.count in omega (arith, a, b', c, d, f, n, low, high))

  reaches-both : (q : Place) (r : Result Place GetFault) (p : Pen) → q.depth ≡ place.depth → place.after ≤ q.after → IfOk r (λ v. Reaches row.end q v p) → IfOk r (λ v. Reaches row.end place v p)
  reaches-both q (Ok v) p same low h = (let o = h.onward in record { depth = h.depth ∙ same; onward = omega (arith, low, o); within = h.within; stands = h.stands })
  reaches-both q (Err e) p same low h = tt

  ends-then : (parent : List (ℕ × ℕ)) (front ks behind : List PlainNode) (q : Place) (r : Result Place GetFault) → EndsAt i row parent front (take (half (length ks)) ks) (drop (half (length ks)) ks ++ behind) place q
      → IfOk r (λ v. EndsAt i row parent (front ++ take (half (length ks)) ks) (drop (half (length ks)) ks) behind q v) → IfOk r (λ v. EndsAt i row parent front ks behind place v)
  ends-then parent front ks behind q (Ok v) h g = ends-both parent front ks behind q v h g
  ends-then parent front ks behind q (Err e) h g = tt

  -- both parts were searched
  pub visit-both : (old new : S) (k : K) (p : Pen) (m n : ℕ) (left right : Span) (u v : State) (q : Place) (r : Result Place GetFault) → 1 ≤ span.count → Halves span left right → n ≡ m + 1 → cursor.OnlyReads files draft faults old new None → PullsAtMost (left.at - span.at) (numbers old) (numbers new)
      → Tells old new (λ bytes parent front ks behind. LookIs i bytes row parent front ks behind (Parts left right)) → Visited i name row left place (at new k p n) u (Ok q) → Visited i name row right q u v r → Visited i name row span place (at old k p m) v r
  visit-both old new k p m n left right u v q r some halves step h pulls told first second = (
      let s = at old k p m in
      let t = at new k p n in
      let e = fault_of r in
      let got = states.reads files draft numbers faults taken out_faults old new k p m n None (left.at - span.at) h pulls in
      let fr = first.reaches in
      let fw = first.walks in
      let ma = (left.at - span.at) + ((left.limit - left.at) + 24 * left.count + (q.after - place.after)) in
      let high = reach-on q r v.pen second.reaches fr.within in
      let low = fr.onward in
      record {
        walks = walks-then s u v e ma ((right.limit - right.at) + 24 * right.count + (reach row.end r - q.after)) (may_pull row.end span place r) (right-most left right q.after (reach row.end r) halves low high)
            (walks-then s t u None (left.at - span.at) ((left.limit - left.at) + 24 * left.count + (q.after - place.after)) ma (omega arith) got fw) second.walks;
        reaches = reaches-both q r v.pen fr.depth low second.reaches;
        shows = λ bytes end parent front ks behind x. (
            let l = look-told (files old) bytes end parent front ks behind some x in
            let y = told bytes end parent front ks behind l in
            let both' = both parent ks y.0.0 l.sets y.0.1 in
            let xs = take (half (length ks)) ks in
            let ys = drop (half (length ks)) ks in
            let x1 = subst (λ (f : Option Files). VisitIs i f name bytes end row left place parent front xs (ys ++ behind)) (sym h.same_files) (left-told (files old) bytes end parent front ks behind left right y.0.2 x) in
            let inner = first.shows bytes end parent front xs (ys ++ behind) x1 in
            let x2 = subst (λ (f : Option Files). VisitIs i f name bytes end row right q parent (front ++ xs) ys behind) (sym (fw.same_files ∙ h.same_files)) (right-told (files old) bytes end parent front ks behind left right q y.0.2 x fr.depth inner.1) in
            let outer = second.shows bytes end parent (front ++ xs) ys behind x2 in
            let own = own_read (tree_over parent ks) in
            let a = tree_read (tree_over parent xs) i + nodes_seen i parent xs in
            let b = visits (tree_over parent xs) i + nodes_steps i parent xs in
            let a' = tree_read (tree_over parent ys) i + nodes_seen i parent ys in
            let b' = visits (tree_over parent ys) i + nodes_steps i parent ys in
            let known = states.shows-read files draft numbers faults taken out_faults old new k p m n own 1 (omega (arith, step)) y.1 in
            let two = shows-then s t u None [] (kids_calls (kids_in i parent xs)) own a (own + a) 1 b (1 + b) (omega arith) (omega arith) known inner.0 in
            let read = both'.read in
            let steps = both'.steps in (
              subst (λ (cs : List Call). Shows cs (tree_read (tree_over parent ks) i + nodes_seen i parent ks) (visits (tree_over parent ks) i + nodes_steps i parent ks) s v e) both'.calls
                  (shows-then s u v e (kids_calls (kids_in i parent xs)) (kids_calls (kids_in i parent ys)) (own + a) a' (tree_read (tree_over parent ks) i + nodes_seen i parent ks) (1 + b) b' (visits (tree_over parent ks) i + nodes_steps i parent ks) (omega (arith, read)) (omega (arith, steps)) two outer.0),
              ends-then parent front ks behind q r inner.1 outer.1,
            ));
      })
