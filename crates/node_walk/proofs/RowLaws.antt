-- The nodes of a row, one after another.
use Rattle.std.proofs.Common.{◌≡◌, ℕ, ◌+◌, ◌-◌, ◌^◌, ◌<◌, ◌≤◌, Bool, ◌&&◌, IsTrue, List, [], ◌∷◌, ◌++◌, map, drop, length, Option, Some, None, Result, Ok, Err, refl, sym, ap, subst, ◌∙◌, append_assoc, arith}
use Rattle.std.specs.List.{flat_map}
use Rattle.std.proofs.lemmas.Bool.{and_parts}
use Rattle.std.proofs.lemmas.List.{append-nil, length-append, length-drop}
use Rattle.version_set.specs.declared.set.VersionSet.{VersionSet}
use Rattle.keyed_tree.specs.Data.{PlainLabel}
use Rattle.archive_tree.specs.Data.{Stamp, PlainNode, PlainNodes, no_nodes, node, nodes_list, nodes_from, node_label}
use Rattle.archive_tree.specs.View.{stamp_view}
use Rattle.archive_tree.proofs.Parts.{nodes_list-nodes_from, nodes_from-nodes_list}
use Rattle.xa_outside.specs.Numbers.{PullsAtMost}
use Rattle.xa_outside.specs.NumberLaws.{PullsAtMost-of, PullsAtMost-more, PullsAtMost-trans}
use Rattle.record_parts.specs.Bounds.{deepest, IsSet}
use Rattle.record_parts.specs.ShownViews.{label_in}
use Rattle.record_format.specs.Bounds.{IsRec}
use Rattle.record_format.specs.Nodes.{Piece, piece_bytes, entries_from, dir_of, closed_by_end, node_piece, node_pieces}
use Rattle.record_format.specs.Spelling.{dir_bytes, framed, rec_bytes}
use Rattle.record_format.proofs.Pieces.{one-record}
use Rattle.archive_file.specs.Laid.{dir_with, NodeAt, RowAt}
use Rattle.archive_file.proofs.FileLaws.{few-from}
use Rattle.archive_file.proofs.GoesLaws.{lt-of}
use Rattle.archive_file.proofs.LaidLaws.{RowLeft, NodesAt, then-node, row-start, end_of}
use Rattle.archive_file.proofs.ReadLaws.{RowDone, row-none, row-more, dir-is, row-shut}
use Rattle.record_cursor.specs.Faults.{IfDamage, IfFolder}
use Rattle.record_cursor.specs.Items.{end_item}
use Rattle.record_cursor.specs.Places.{Standing, among_nodes, closed_by}
use Rattle.record_cursor.specs.Steps.{fault_of}
use Rattle.record_cursor.specs.declared.fault.CursorFault.{CursorFault}
use Rattle.record_cursor.specs.declared.fault.CursorFault.TheVariants.{Damage, Folder, Memory}
use Rattle.record_cursor.proofs.Fills.{front-length}
use Rattle.node_judge.specs.Rows.{PlainFrame, behind_kid, is_met_all, is_next, goes_on}
use Rattle.row_ends.specs.Kids.{PlainKids, AreKids, no_kids, with_kid, row_length, dir_in}
use Rattle.node_walk.specs.Places.{depth_of, IsAmongNodes, left_of}
use Rattle.node_walk.specs.Seen.{Seen, Told, at_hand, may_pull, Reads}
use Rattle.node_walk.specs.Walked.{EndJudged, InRowJudged, KidHere, RowHere, RowJudged}
use Rattle.node_walk.specs.declared.rows.InRow.TheVariants.{Kid, End}
use Rattle.node_walk.proofs.Kids.{pieces-of, no-kids-are, kid-more, row-longer, one-more, node-size, end-body-is, kids-dir}
use Rattle.node_walk.proofs.Leaves.{On, on-start, on-then, leads-to}
use Rattle.node_walk.proofs.Steps.{among-is, cause-later, reads-stop, told-on}

-- The END behind nodes that lie there is theirs, so they are a row.
row-over : (set : List (ℕ × ℕ)) (depth : ℕ) (first : List ℕ) (so_far : List PlainNode) (now : List ℕ) → RowDone set depth first so_far now → (body after : List ℕ) → IsSet set → now ≡ framed 4 body ++ after
    → dir_bytes (dir_with (entries_from 0 (map (node_piece set) so_far)) set (nodes_from so_far)) ≡ body → length so_far < 2 ^ 32 → length (flat_map piece_bytes (map (node_piece set) so_far) ++ (framed 4 body ++ [])) < 2 ^ 64
    → RowAt set (nodes_from so_far) after depth first
row-over set depth first so_far now h body after is e same few short =
    let ps = map (node_piece set) so_far in
    let front = flat_map piece_bytes ps in
    let own : RowDone set depth (front ++ (framed 4 body ++ [])) so_far (framed 4 body ++ []) = record { records = h.records; nested = h.nested; bytes = refl } in
    let row = row-shut set depth (front ++ (framed 4 body ++ [])) so_far (framed 4 body ++ []) own (entries_from 0 ps) [] body is refl few refl same short in
    let all = flat_map rec_bytes (closed_by_end (node_pieces set (nodes_from so_far))) in
    let closed : front ++ framed 4 body ≡ all = ap (λ (z : List ℕ). front ++ z) (sym (append-nil (framed 4 body))) ∙ row.bytes ∙ append-nil all in
    record {
      records = row.records;
      nested = row.nested;
      bytes = h.bytes ∙ ap (λ (z : List ℕ). front ++ z) e ∙ sym (append_assoc front (framed 4 body) after) ∙ ap (λ (z : List ℕ). z ++ after) closed;
    }

-- The nodes so far lie there, and the kids are what is kept of them. What is left of any nodes that lie there comes now, and they
-- are right where that is right for what is kept of the row.
pub record RowSoFar (f g : PlainFrame) (kids : PlainKids) (left : ℕ) (first now : List ℕ) : Type 0 where
  pub done : List PlainNode
  pub count : length kids.sizes ≡ length done
  pub lie : RowDone f.set left first done now
  pub are : AreKids f.set (map (node_piece f.set) done) kids
  pub rest : (ks : PlainNodes) (after : List ℕ) → RowAt f.set ks after left first → RowLeft f.set ks after left done now
  pub goes : (ks : PlainNodes) → goes_on f (nodes_from (done ++ nodes_list ks)) ≡ goes_on g ks

pub record RowOn (f g : PlainFrame) (s0 s : Seen) (kids : PlainKids) : Type 0 where
  pub on : On s0 s
  pub stands : s.cursor.standing ≡ among_nodes (depth_of s0.cursor.standing)
  pub same : g.set ≡ f.set
  pub size : row_length kids.sizes + s0.cursor.at ≡ s.cursor.at
  pub few : length kids.sizes < 2 ^ 32
  pub so_far : (bytes : List ℕ) → Told s0 bytes → RowSoFar f g kids (left_of s0) (at_hand s0 bytes) (at_hand s bytes)

pub row-begins : (f : PlainFrame) (s : Seen) (kids : PlainKids) → kids ≡ no_kids → s.cursor.at ≤ s.cursor.length → IsAmongNodes s.cursor.standing → RowOn f f s s kids
row-begins f s kids none within among = subst (RowOn f f s s) (sym none) (record {
  on = on-start s within;
  stands = among-is s.cursor.standing among;
  same = refl;
  size = omega arith;
  few = omega arith;
  so_far = λ bytes told. record {
    done = [];
    count = refl;
    lie = row-none f.set (left_of s) (at_hand s bytes);
    are = no-kids-are f.set;
    rest = λ ks after row. row-start f.set ks after (left_of s) (at_hand s bytes) row;
    goes = λ ks. ap (goes_on f) (nodes_from-nodes_list ks);
  };
})

-- ---- what stands first of those that are left

-- the END stands first, where no nodes are left
pub end-first : (set : List (ℕ × ℕ)) (ks : PlainNodes) (rest : List ℕ) (depth : ℕ) (now : List ℕ) → NodesAt set (end_of set ks) no_nodes rest depth now → IsRec (end_of set ks) × (now ≡ rec_bytes (end_of set ks) ++ rest)
end-first set ks rest depth now h = (h.records.0, h.bytes ∙ ap (λ (z : List ℕ). z ++ rest) (one-record (end_of set ks)))

module _ (f g : PlainFrame) (s0 s t : Seen) (kids : PlainKids) (k : RowOn f g s0 s kids) where
  abbrev d : ℕ
  d = depth_of s0.cursor.standing

  same-left : left_of s ≡ left_of s0
  same-left = ap (λ (p : Standing). deepest - depth_of p) k.stands

  -- a node that lies there, for what is kept now
  at-start : (bytes after : List ℕ) (i : PlainNode) → NodeAt f.set i after (left_of s0) (at_hand s bytes) → NodeAt g.set i after (left_of s) (at_hand s bytes)
  at-start bytes after i h =
      subst (λ (set : List (ℕ × ℕ)). NodeAt set i after (left_of s) (at_hand s bytes)) (sym k.same)
      (subst (λ (n : ℕ). NodeAt f.set i after n (at_hand s bytes)) (sym same-left) h)

  -- ---- a node

  module _ (l : Option PlainLabel) (v : Option VersionSet) (n : ℕ) (h : InRowJudged g l s t (Ok (Kid v n))) where
    there : (bytes : List ℕ) → Told s0 bytes → Told s bytes
    there bytes told = k.on.told bytes told

    kid-here : (bytes : List ℕ) → Told s0 bytes → KidHere g (label_in l) (stamp_view v) n (left_of s) (at_hand s bytes) (at_hand t bytes)
    kid-here bytes told = h.lies bytes (there bytes told)

    lies-here : (bytes : List ℕ) (told : Told s0 bytes) → NodeAt f.set (kid-here bytes told).kid (at_hand t bytes) (left_of s0) (at_hand s bytes)
    lies-here bytes told =
        let x = kid-here bytes told in
        subst (λ (depth : ℕ). NodeAt f.set x.kid (at_hand t bytes) depth (at_hand s bytes)) same-left
        (subst (λ (set : List (ℕ × ℕ)). NodeAt set x.kid (at_hand t bytes) (left_of s) (at_hand s bytes)) k.same x.lies)

    -- it is the first of those that are left
    left-on : (bytes : List ℕ) (told : Told s0 bytes) (ks : PlainNodes) (after : List ℕ) (done : List PlainNode) (left : PlainNodes) → ks ≡ nodes_from (done ++ nodes_list left) → NodesAt f.set (end_of f.set ks) left after (left_of s0) (at_hand s bytes)
        → RowLeft f.set ks after (left_of s0) (done ++ (kid-here bytes told).kid ∷ []) (at_hand t bytes)
    left-on bytes told ks after done no_nodes split lies =
        let e = end-first f.set ks after (left_of s0) (at_hand s bytes) lies in
        absurd (h.ended bytes (there bytes told) (dir_of (node_pieces f.set ks)) after e.0 e.1).0
    left-on bytes told ks after done (node i left) split lies =
        let x = then-node f.set (end_of f.set ks) i left after (left_of s0) (at_hand s bytes) lies in
        let kid = (kid-here bytes told).kid in
        let same = (kid-here bytes told).only i x.behind (at-start bytes x.behind i x.lies) in
        record {
          left = left;
          split = split ∙ ap (λ (y : PlainNode). nodes_from (done ++ y ∷ nodes_list left)) (sym same.0) ∙ ap nodes_from (sym (append_assoc done (kid ∷ []) (nodes_list left)));
          lies = subst (λ (y : List ℕ). NodesAt f.set (end_of f.set ks) left after (left_of s0) y) (sym same.1) x.others;
        }

    left-here : (bytes : List ℕ) (told : Told s0 bytes) (ks : PlainNodes) (after : List ℕ) → RowAt f.set ks after (left_of s0) (at_hand s0 bytes)
        → RowLeft f.set ks after (left_of s0) ((k.so_far bytes told).done ++ (kid-here bytes told).kid ∷ []) (at_hand t bytes)
    left-here bytes told ks after row = (let x = k.so_far bytes told in let left = x.rest ks after row in left-on bytes told ks after x.done left.left left.split left.lies)

    -- the row is right behind it where it was before it
    goes-here : (bytes : List ℕ) (told : Told s0 bytes) (ks : PlainNodes) → goes_on f (nodes_from (((k.so_far bytes told).done ++ (kid-here bytes told).kid ∷ []) ++ nodes_list ks)) ≡ goes_on (behind_kid g (label_in l)) ks
    goes-here bytes told ks =
        let x = k.so_far bytes told in
        let y = kid-here bytes told in
        ap (λ (js : List PlainNode). goes_on f (nodes_from js)) (append_assoc x.done (y.kid ∷ []) (nodes_list ks))
        ∙ x.goes (node y.kid ks)
        ∙ ap (λ (b : Bool). b && goes_on (behind_kid g (node_label y.kid)) ks) y.right
        ∙ ap (λ (m : PlainLabel). goes_on (behind_kid g m) ks) y.label

    pub row-kept : (more : PlainKids) → more ≡ with_kid kids (t.cursor.at - s.cursor.at) n (stamp_view v) → length more.sizes < 2 ^ 32 → RowOn f (behind_kid g (label_in l)) s0 t more
    row-kept more is few =
        let reads = h.reads in
        let onward = reads.onward in
        let within = reads.within in
        let size = k.size in
        let m = t.cursor.at - s.cursor.at in
        record {
          on = on-then s0 s t k.on reads;
          stands = h.behind.1 ∙ k.stands;
          same = k.same;
          size = omega (arith, ap (λ (x : PlainKids). row_length x.sizes) is, row-longer kids m n (stamp_view v), size, onward);
          few = few;
          so_far = λ bytes told. (
              let x = k.so_far bytes told in
              let y = kid-here bytes told in
              let count = x.count in
              let size_is = node-size s t bytes f.set y.kid (left_of s0) (told-on s t None bytes reads (there bytes told)) onward within (lies-here bytes told) in
              let kept = kid-more f.set x.done kids y.kid m n x.are size_is (y.long ∙ ap (λ (set : List (ℕ × ℕ)). (node_piece set y.kid).dir) k.same) in
              record {
                done = x.done ++ y.kid ∷ [];
                count = omega (arith, ap (λ (z : PlainKids). length z.sizes) is, one-more kids m n (stamp_view v), length-append x.done (y.kid ∷ []), count);
                lie = row-more f.set (left_of s0) (at_hand s0 bytes) x.done (at_hand s bytes) x.lie y.kid (at_hand t bytes) (lies-here bytes told);
                are = subst (AreKids f.set (map (node_piece f.set) (x.done ++ y.kid ∷ []))) (ap (λ (a : Stamp). with_kid kids m n a) y.stamp ∙ sym is) kept;
                rest = λ ks after row. left-here bytes told ks after row;
                goes = goes-here bytes told;
              });
        }

    -- as many as an END can count are too many with this one
    too-many : (bytes : List ℕ) → Told s0 bytes → 2 ^ 32 ≤ length kids.sizes + 1 → (ks : PlainNodes) (after : List ℕ) → RowAt f.set ks after (left_of s0) (at_hand s0 bytes) → ⊥
    too-many bytes told many ks after row =
        let x = k.so_far bytes told in
        let kid = (kid-here bytes told).kid in
        let left = left-here bytes told ks after row in
        let few = lt-of (length (nodes_list ks)) (2 ^ 32) (few-from f.set ks row.records) in
        let all = ap (λ (z : PlainNodes). length (nodes_list z)) left.split ∙ ap length (nodes_list-nodes_from ((x.done ++ kid ∷ []) ++ nodes_list left.left)) in
        let count = x.count in
        omega (arith, many, few, all, length-append (x.done ++ kid ∷ []) (nodes_list left.left), length-append x.done (kid ∷ []), count)

    -- the node was not kept
    pub row-not-kept : (more : PlainKids) (e : CursorFault) → IfFolder e ⊥ → IfDamage e (2 ^ 32 ≤ length kids.sizes + 1) → RowJudged f more s0 t (Err e)
    row-not-kept more e inside full = record {
      reads = k.on.then t (Some e) (reads-stop s t e inside h.reads);
      behind = tt;
      lies = λ bytes told. tt;
      found = λ bytes told ks after row right. undamaged e full (λ many. too-many bytes told many ks after row);
    }
      where
        undamaged : (e : CursorFault) → IfDamage e (2 ^ 32 ≤ length kids.sizes + 1) → ((2 ^ 32 ≤ length kids.sizes + 1) → ⊥) → IfDamage e ⊥
        undamaged Damage h never = never h
        undamaged Folder h never = tt
        undamaged Memory h never = tt

  -- ---- a fault

  -- the next node of those that are left is not right, or there is none and no END comes
  failed-here : (l : Option PlainLabel) (e : CursorFault) → InRowJudged g l s t (Err e) → (bytes : List ℕ) → Told s bytes → (ks : PlainNodes) (after : List ℕ) (left : PlainNodes) → NodesAt f.set (end_of f.set ks) left after (left_of s0) (at_hand s bytes) → IsTrue (goes_on g left) → IfDamage e ⊥
  failed-here l e h bytes told ks after no_nodes lies right = (let x = end-first f.set ks after (left_of s0) (at_hand s bytes) lies in h.ended bytes told (dir_of (node_pieces f.set ks)) after x.0 x.1)
  failed-here l e h bytes told ks after (node i left) lies right =
      let x = then-node f.set (end_of f.set ks) i left after (left_of s0) (at_hand s bytes) lies in
      h.node bytes told i x.behind (at-start bytes x.behind i x.lies) (and_parts (is_next g i) (goes_on (behind_kid g (node_label i)) left) right).0

  pub row-failed : (l : Option PlainLabel) (more : PlainKids) (e : CursorFault) → InRowJudged g l s t (Err e) → RowJudged f more s0 t (Err e)
  row-failed l more e h = record {
    reads = k.on.then t (Some e) h.reads;
    behind = tt;
    lies = λ bytes told. tt;
    found = λ bytes told ks after row right. (
        let x = k.so_far bytes told in
        let left = x.rest ks after row in
        failed-here l e h bytes (k.on.told bytes told) ks after left.left left.lies (sym (x.goes left.left) ∙ ap (goes_on f) (sym left.split) ∙ right));
  }

  -- ---- the END

  module _ (l : Option PlainLabel) (n : ℕ) (h : InRowJudged g l s t (Ok (End n))) (u : Seen) (same : u.cursor ≡ t.cursor) where
    -- what was read for the END and its body
    all-read : PullsAtMost n t.numbers u.numbers → PullsAtMost (t.cursor.at - s.cursor.at) s.numbers u.numbers
    all-read pulls =
        let g = h.behind in
        let moved = g.moved in
        PullsAtMost-more (9 + n) (t.cursor.at - s.cursor.at) s.numbers u.numbers (omega (arith, moved)) (PullsAtMost-trans 9 n s.numbers t.numbers u.numbers (PullsAtMost-of 9 9 s.numbers t.numbers (omega arith) g.pulled) pulls)

    judged-reads : (r : Result (Unit {0}) CursorFault) → EndJudged g kids n t u r → Reads s u (fault_of r)
    judged-reads r e =
        let reads = h.reads in
        let at = ap (λ c. c.at) same in
        let end = ap (λ c. c.length) same in
        let onward = reads.onward in
        let within = reads.within in
        record {
          same_files = e.same_files ∙ reads.same_files;
          same_draft = e.same_draft ∙ reads.same_draft;
          later = (let x = reads.later in let y = e.later in omega (arith, x, y));
          cause = cause-later s.faults t.faults u.faults (fault_of r) reads.later e.cause;
          same_name = ap (λ c. c.name) same ∙ reads.same_name;
          same_length = end ∙ reads.same_length;
          onward = omega (arith, at, onward);
          within = omega (arith, at, end, within);
          pulls = pulled r (all-read e.pulls);
        }
      where
        pulled : (q : Result (Unit {0}) CursorFault) → PullsAtMost (t.cursor.at - s.cursor.at) s.numbers u.numbers → PullsAtMost (may_pull s u (fault_of q)) s.numbers u.numbers
        pulled (Ok x) p = (let at = ap (λ c. c.at) same in PullsAtMost-more (t.cursor.at - s.cursor.at) (u.cursor.at - s.cursor.at) s.numbers u.numbers (omega (arith, at)) p)
        pulled (Err f) p = (let reads = h.reads in let within = reads.within in let long = reads.same_length in PullsAtMost-more (t.cursor.at - s.cursor.at) (s.cursor.length - s.cursor.at) s.numbers u.numbers (omega (arith, within, long)) p)

    told-behind : (bytes : List ℕ) → Told s0 bytes → Told t bytes
    told-behind bytes told = told-on s t None bytes h.reads (k.on.told bytes told)

    -- no nodes are left
    left-none : (bytes : List ℕ) → Told s bytes → (ks : PlainNodes) (after : List ℕ) (done : List PlainNode) (left : PlainNodes) → ks ≡ nodes_from (done ++ nodes_list left) → NodesAt f.set (end_of f.set ks) left after (left_of s0) (at_hand s bytes)
        → (nodes_from done ≡ ks) × (at_hand t bytes ≡ after) × (at_hand s bytes ≡ rec_bytes (end_of f.set ks) ++ after) × (n ≡ length (dir_bytes (dir_of (node_pieces f.set ks))))
    left-none bytes told ks after done no_nodes split lies =
        let e = end-first f.set ks after (left_of s0) (at_hand s bytes) lies in
        let x = h.ended bytes told (dir_of (node_pieces f.set ks)) after e.0 e.1 in
        (sym (split ∙ ap nodes_from (append-nil done)), x.1, e.1, x.0)
    left-none bytes told ks after done (node i left) split lies =
        let x = then-node f.set (end_of f.set ks) i left after (left_of s0) (at_hand s bytes) lies in
        absurd (h.node bytes told i x.behind (at-start bytes x.behind i x.lies))

    -- the END of nodes that lie there is the one that was passed over
    ends-there : (bytes : List ℕ) (told : Told s0 bytes) (ks : PlainNodes) (after : List ℕ) → RowAt f.set ks after (left_of s0) (at_hand s0 bytes)
        → (nodes_from (k.so_far bytes told).done ≡ ks) × (at_hand t bytes ≡ after) × (at_hand s bytes ≡ rec_bytes (end_of f.set ks) ++ after) × (n ≡ length (dir_bytes (dir_of (node_pieces f.set ks))))
    ends-there bytes told ks after row = (let x = k.so_far bytes told in let left = x.rest ks after row in left-none bytes (k.on.told bytes told) ks after x.done left.left left.split left.lies)

    after-end : (bytes : List ℕ) → at_hand u bytes ≡ at_hand t bytes
    after-end bytes = ap (λ c. drop c.at bytes) same

    -- the nodes so far are right where nothing is waited for any more
    goes-end : (bytes : List ℕ) (told : Told s0 bytes) → goes_on f (nodes_from (k.so_far bytes told).done) ≡ is_met_all g
    goes-end bytes told = (let x = k.so_far bytes told in ap (λ (js : List PlainNode). goes_on f (nodes_from js)) (sym (append-nil x.done)) ∙ x.goes no_nodes)

    own-dir : (bytes : List ℕ) (told : Told s0 bytes) → dir_bytes (dir_in g.set kids) ≡ dir_bytes (dir_of (node_pieces f.set (nodes_from (k.so_far bytes told).done)))
    own-dir bytes told = (let x = k.so_far bytes told in ap (λ (set : List (ℕ × ℕ)). dir_bytes (dir_in set kids)) k.same ∙ ap dir_bytes (kids-dir f.set x.done kids x.are))

    short : (bytes : List ℕ) (told : Told s0 bytes) → EndJudged g kids n t u (Ok tt) → (body : List ℕ) → at_hand s bytes ≡ framed 4 body ++ at_hand t bytes
        → length (flat_map piece_bytes (map (node_piece f.set) (k.so_far bytes told).done) ++ (framed 4 body ++ [])) < 2 ^ 64
    short bytes told e body e_is =
        let x = k.so_far bytes told in
        let ps = map (node_piece f.set) x.done in
        let lie = x.lie in
        let long = front-length t.files t.cursor.name bytes t.cursor.length (told-behind bytes told) in
        let reads = h.reads in
        let within = reads.within in
        let small = e.short in
        let whole = ap length lie.bytes ∙ length-append (flat_map piece_bytes ps) (at_hand s bytes) in
        let now = ap length e_is ∙ length-append (framed 4 body) (at_hand t bytes) in
        let own = length-append (flat_map piece_bytes ps) (framed 4 body ++ []) in
        let end = length-append (framed 4 body) [] in
        omega (arith, long, within, small, whole, now, own, end, length-drop s0.cursor.at bytes, length-drop t.cursor.at bytes)

    row-here : (bytes : List ℕ) → Told s0 bytes → IsSet f.set → EndJudged g kids n t u (Ok tt) → RowHere f kids n (left_of s0) (at_hand s0 bytes) (at_hand u bytes)
    row-here bytes told set_is e =
        let y = h.lies bytes (k.on.told bytes told) in
        let body : List ℕ = y.0 in
        let x = k.so_far bytes told in
        let count = x.count in
        let few = k.few in
        let ps = map (node_piece f.set) x.done in
        let es = entries_from 0 ps in
        let own : dir_bytes (dir_of (node_pieces f.set (nodes_from x.done))) ≡ body = sym (own-dir bytes told) ∙ e.lies bytes (told-behind bytes told) ∙ end-body-is s t bytes body (at_hand t bytes) n h.behind y.2 y.1 in
        let with : dir_bytes (dir_with es f.set (nodes_from x.done)) ≡ body = ap dir_bytes (dir-is f.set (left_of s0) (at_hand s0 bytes) x.done (at_hand s bytes) x.lie es refl) ∙ own in
        let row = row-over f.set (left_of s0) (at_hand s0 bytes) x.done (at_hand s bytes) x.lie body (at_hand t bytes) set_is y.2 with (omega (arith, count, few)) (short bytes told e body y.2) in
        record {
          nodes = nodes_from x.done;
          lies = subst (λ (z : List ℕ). RowAt f.set (nodes_from x.done) z (left_of s0) (at_hand s0 bytes)) (sym (after-end bytes)) row;
          only = λ ks after lies. (let z = ends-there bytes told ks after lies in (z.0, after-end bytes ∙ z.1));
          long = sym y.1 ∙ ap length (sym own);
          right = goes-end bytes told ∙ e.met;
          are = subst (λ (qs : List Piece). AreKids f.set qs kids) (sym (pieces-of f.set x.done)) x.are;
        }

    -- the END is that of the nodes
    pub row-ended : IsSet f.set → EndJudged g kids n t u (Ok tt) → RowJudged f kids s0 u (Ok n)
    row-ended set_is e = record {
      reads = k.on.then u None (judged-reads (Ok tt) e);
      behind = ap (λ c. c.standing) same ∙ leads-to s t (end_item n) (among_nodes d) (closed_by n d) k.stands refl h.behind;
      lies = λ bytes told. row-here bytes told set_is e;
      found = λ bytes told ks after row right. tt;
    }

    -- it is not, so no nodes lie there that it closes
    pub row-not-ended : (e : CursorFault) → EndJudged g kids n t u (Err e) → RowJudged f kids s0 u (Err e)
    row-not-ended fault e = record {
      reads = k.on.then u (Some fault) (judged-reads (Err fault) e);
      behind = tt;
      lies = λ bytes told. tt;
      found = λ bytes told ks after row right. (
          let x = ends-there bytes told ks after row in
          let body = dir_bytes (dir_of (node_pieces f.set ks)) in
          let own : dir_bytes (dir_in g.set kids) ≡ body = own-dir bytes told ∙ ap (λ (z : PlainNodes). dir_bytes (dir_of (node_pieces f.set z))) x.0 in
          e.undamaged bytes (told-behind bytes told) (sym (goes-end bytes told) ∙ ap (goes_on f) x.0 ∙ right) (own ∙ sym (end-body-is s t bytes body after n h.behind x.2 (sym x.3))));
    }
