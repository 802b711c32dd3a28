-- Printing what a version has at the virtual root.
use Rattle.std.proofs.Common.{◌≡◌, ℕ, ◌+◌, ◌-◌, ◌*◌, ◌≤◌, ◌&&◌, Bool, true, false, nat_lt, List, [], ◌∷◌, length, map, IsTrue, Option, Some, None, Result, Ok, Err, refl, sym, ap, subst, ◌∙◌, arith, append-nil}
use Rattle.std.specs.List.{AllByRecursion}
use Rattle.std.specs.Result.{IfOk}
use Rattle.xa_fields.specs.Spelling.{u64_bytes}
use Rattle.xa_outside.specs.Folder.{Files, front_of}
use Rattle.xa_outside.specs.Numbers.{Numbers, PullsAtMost}
use Rattle.xa_outside.specs.Taken.{Taken}
use Rattle.version_set.specs.Members.{upto_pairs}
use Rattle.timestamp_tree.specs.Search.{answers}
use Rattle.jsonml_print.specs.Calls.{Call, calls_of}
use Rattle.jsonml_print.specs.Pen.{Pen, fresh}
use Rattle.keyed_tree.specs.Data.{PlainKeyed, inner, leaf, label_of}
use Rattle.keyed_tree.specs.Plain.{plain}
use Rattle.keyed_tree.specs.Proper.{IsElement, is_tag}
use Rattle.archive_tree.specs.Data.{PlainArchive, PlainNodes, nodes_list}
use Rattle.record_format.specs.Bounds.{IsRec}
use Rattle.record_format.specs.Files.{root_pieces}
use Rattle.record_format.specs.Nested.{are_nested}
use Rattle.record_format.specs.Nodes.{Piece, closed_by_end, node_pieces}
use Rattle.record_format.specs.Seen.{steps_for, piece_sets, sets_visits}
use Rattle.record_parts.specs.Bounds.{deepest}
use Rattle.record_cursor.specs.Faults.{IfDamage}
use Rattle.record_cursor.specs.Moves.{TellsFront}
use Rattle.record_cursor.specs.Steps as cursor
use Rattle.record_cursor.specs.declared.fault.CursorFault.{CursorFault}
use Rattle.file_rows.specs.StandsAt.{StandsAt, RowLaid}
use Rattle.file_rows.specs.View.{PlainRow}
use Rattle.file_get.specs.Told.{of_cursor, fault_of}
use Rattle.file_get.specs.State.{State}
use Rattle.file_get.proofs.Spans.{upto-filled}
use Rattle.file_get.specs.Kids.{set_of, kids_in, kid_fits, kids_fit, kid_calls, kids_calls, item_behind, nodes_seen, nodes_steps, sets_seen, sets_steps}
use Rattle.file_get.specs.Walks.{Walks, Shows, StandsIn}
use Rattle.file_get.specs.Printed.{RowTold, RowPrinted}
use Rattle.file_get.specs.Roots.{RootTold, RootPrinted}
use Rattle.file_get.specs.declared.fault.GetFault.{GetFault}
use Rattle.file_get.specs.declared.fault.GetFault.TheVariants.{Damage}
use Rattle.file_get.proofs.Elements.{tag-calls}
use Rattle.file_get.proofs.RowLists.{from-list, row-sets, row-seen, row-steps}
use Rattle.file_get.proofs.States.{refused-unread, walks-then, walks-damage, shows-then}
use Rattle.file_get.proofs.States as states
use Rattle.file_get.specs.Searched.{bytes_read, dir_read, row_read}

tag-of : (k : PlainKeyed) → IsElement k → is_tag (label_of k).name ≡ true
tag-of (inner l ks) e = e
tag-of (leaf l b) e = e

-- an element was printed, or none was where one is wanted
abbrev pub rooted : Result Bool GetFault → Option GetFault
rooted (Ok true) = None
rooted (Ok false) = Some Damage
rooted (Err e) = Some e

-- a printer that has printed nothing
pub fresh_stands : (p : Pen) → p ≡ fresh → StandsIn 0 false p
fresh_stands p e = subst (λ (q : Pen). StandsIn 0 false q) (sym e) (record { count = omega arith; item = λ a. refl; attribute = λ a b. absurd cc })

module _ {S K : Type 0} (files : S → Option Files) (draft : S → Option (List ℕ)) (numbers : S → Numbers) (faults : S → ℕ) (taken : K → Taken) (out_faults : K → ℕ) (i : ℕ) (name : List ℕ) (size first : ℕ) where
  abbrev pub at : S → K → Pen → ℕ → State
  at = states.at files draft numbers faults taken out_faults

  -- what reading the tail says
  abbrev pub Tells : S → (List ℕ → List Piece → Type 0) → Type 0
  Tells old P = (bytes : List ℕ) (row : PlainRow) (ps : List Piece) → TellsFront (files old) name size bytes → RowLaid bytes row ps → row.first ≡ first → row.end + (9 + row.dir) + 8 ≡ size → StandsAt bytes (size - 8) (u64_bytes row.dir) → P bytes ps

  -- a file that is told has so many bytes
  abbrev pub IsLong : S → Type 0
  IsLong a = (fs : Files) → files a ≡ Some fs → front_of fs name size ≡ None → ⊥

  more : {a b : Numbers} (m l : ℕ) → m ≤ l → PullsAtMost m a b → PullsAtMost l a b
  more m l le h = (let w = h.within in record { count = h.count; within = omega (arith, le, w); pulled = h.pulled })

  -- the tail was not read
  pub root-unread : (old new : S) (k : K) (p : Pen) (n : ℕ) (e : CursorFault) → cursor.OnlyReads files draft faults old new (Some e) → PullsAtMost 8 (numbers old) (numbers new) → PullsAtMost (size - first) (numbers old) (numbers new) → Tells old (λ bytes ps. IfDamage e ⊥)
      → RootPrinted i name size first (at old k p n) (at new k p n) (Some (of_cursor e))
  root-unread old new k p n e h pulls inside told = record {
    walks = states.reads files draft numbers faults taken out_faults old new k p n n (Some e) (size - first) h inside;
    short = λ fs there none. refused-unread e;
    shows = λ bytes row a v x. states.shows-unread files draft numbers faults taken out_faults old new k p n n (8 + bytes_read a i) (steps_for a i) e (calls_of (plain v)) (told bytes row (root_pieces a) x.tells x.stands x.begins x.ends x.tail) (omega arith) (more 8 (8 + bytes_read a i) (omega arith) pulls);
  }

  row-told : (files : Option Files) (bytes : List ℕ) (row r : PlainRow) (a : PlainArchive) (v : PlainKeyed) → RowLaid bytes r (root_pieces a) → r.end + (9 + r.dir) + 8 ≡ size → RootTold i files name bytes size first row a v → RowTold i files name bytes size 0 r (upto_pairs a.n) (nodes_list a.kids)
  row-told files bytes row r a v stands ends x =
      let pieces = node_pieces (upto_pairs a.n) in
      record {
        tells = x.tells;
        nodes = record {
          stands = subst (λ (js : PlainNodes). RowLaid bytes r (pieces js)) (sym (from-list a.kids)) stands;
          within = omega (arith, ends);
          records = subst (λ (js : PlainNodes). AllByRecursion IsRec (closed_by_end (pieces js))) (sym (from-list a.kids)) x.records;
          nested = subst (λ (js : PlainNodes). IsTrue (are_nested (deepest - 0) js)) (sym (from-list a.kids)) x.nested;
          filled = upto-filled a.n x.some;
        };
        bodies = x.bodies;
        fits = subst (λ (cs : List PlainKeyed). IsTrue (kids_fit (nat_lt 0 0) false cs)) (sym x.one) (both (kid_fits false false v) x.fits);
      }
    where
      both : (b : Bool) → IsTrue b → IsTrue (b && true)
      both true e = refl
      both false e = e

  walk-of : (s t u : State) (m : ℕ) (r : Result Bool GetFault) → Walks 8 s t None → (8 + m ≤ size - first) → Walks m t u (fault_of r) → Walks (size - first) s u (rooted r)
  walk-of s t u m (Ok true) h le g = walks-then s t u None 8 m (size - first) le h g
  walk-of s t u m (Ok false) h le g = walks-damage s u (size - first) (size - first) (omega arith) (walks-then s t u None 8 m (size - first) le h g)
  walk-of s t u m (Err e) h le g = walks-then s t u (Some e) 8 m (size - first) le h g

  show-of : (t u : State) (calls : List Call) (a b : ℕ) (r : Result Bool GetFault) → IfOk r (λ h. h ≡ true) → Shows calls a b t u (fault_of r) → Shows calls a b t u (rooted r)
  show-of t u calls a b (Ok true) e h = h
  show-of t u calls a b (Ok false) e h = absurd cc
  show-of t u calls a b (Err x) e h = h

  item-true : (r : Result Bool GetFault) (v : PlainKeyed) (ks : List PlainKeyed) → ks ≡ v ∷ [] → is_tag (label_of v).name ≡ true → IfOk r (λ h. h ≡ item_behind false ks) → IfOk r (λ h. h ≡ true)
  item-true (Ok h) v ks one tags e = e ∙ ap (item_behind false) one ∙ tags
  item-true (Err x) v ks one tags e = tt

  -- the row of the root was printed
  pub root-printed : (old new : S) (k : K) (p : Pen) (n : ℕ) (row : PlainRow) (u : State) (r : Result Bool GetFault) → row.first ≡ first → row.end + (9 + row.dir) + 8 ≡ size → first ≤ row.end → cursor.OnlyReads files draft faults old new None
      → IsLong old → PullsAtMost 8 (numbers old) (numbers new) → Tells old (λ bytes ps. RowLaid bytes row ps) → RowPrinted i name row (0) (at new k p n) u r → RootPrinted i name size first (at old k p n) u (rooted r)
  root-printed old new k p n row u r begins ends ordered h long pulls told printed = (
      let s = at old k p n in
      let t = at new k p n in
      let m = row.end + (9 + row.dir) - row.first in
      let got = states.reads files draft numbers faults taken out_faults old new k p n n None 8 h pulls in
      record {
        walks = walk-of s t u m r got (omega (arith, begins, ends, ordered)) printed.walks;
        short = λ fs there none. absurd (long fs there none);
        shows = λ bytes w a v x. (
            let stands = told bytes w (root_pieces a) x.tells x.stands x.begins x.ends x.tail in
            let parent = upto_pairs a.n in
            let js = nodes_list a.kids in
            let rt = row-told (files old) bytes w row a v stands ends x in
            let rt' = subst (λ (f : Option Files). RowTold i f name bytes size 0 row parent js) (sym h.same_files) rt in
            let inner = printed.shows bytes size parent js rt' in
            let tags = tag-of v x.element in
            let item = item-true r v (kids_in i parent js) x.one tags inner.1 in
            let calls : kids_calls (kids_in i parent js) ≡ calls_of (plain v) = ap kids_calls x.one ∙ append-nil (kid_calls v) ∙ tag-calls v tags in
            let sets : map (set_of parent) js ≡ piece_sets (root_pieces a) = sym (row-sets parent a.kids) in
            let read : 13 + (sets_seen i parent js + nodes_seen i parent js) ≡ bytes_read a i =
            sum (sets_seen i parent js) (nodes_seen i parent js) (24 * length (answers (map (set_of parent) js) i)) (row_read i parent a.kids) (row-seen i parent a.kids) ∙ ap (λ (ss : List (List (ℕ × ℕ))). dir_read i ss + row_read i parent a.kids) sets in
            let walked : sets_steps i parent js + nodes_steps i parent js ≡ steps_for a i = (λ j. sets_visits (sets j) i + row-steps i parent a.kids j) in
            let show = show-of t u (kids_calls (kids_in i parent js)) (13 + (sets_seen i parent js + nodes_seen i parent js)) (sets_steps i parent js + nodes_steps i parent js) r item inner.0 in
            let known = states.shows-read files draft numbers faults taken out_faults old new k p n n 8 0 (omega arith) pulls in
            let both = shows-then s t u (rooted r) [] (kids_calls (kids_in i parent js)) 8 (13 + (sets_seen i parent js + nodes_seen i parent js)) (8 + bytes_read a i) 0 (sets_steps i parent js + nodes_steps i parent js) (steps_for a i) (omega (arith, read)) (omega (arith, walked)) known show in
            subst (λ (cs : List Call). Shows cs (8 + bytes_read a i) (steps_for a i) s u (rooted r)) calls both);
      })
    where
      sum : (a b c d : ℕ) → b ≡ c + d → 13 + (a + b) ≡ 13 + (a + c) + d
      sum a b c d e = omega (arith, e)
