-- Printing leaves.
use Rattle.std.proofs.Common.{◌≡◌, ℕ, ◌+◌, ◌-◌, ◌≤◌, true, false, List, [], Option, Some, None, Result, Ok, Err, sym, ap, subst, ◌∙◌, arith}
use Rattle.std.specs.Result.{OnOk}
use Rattle.xa_outside.specs.Folder.{Files}
use Rattle.xa_outside.specs.Numbers.{Numbers, IsMeter, PullsAtMost}
use Rattle.xa_outside.specs.Taken.{Taken}
use Rattle.version_set.specs.Members.{members}
use Rattle.xa_fields.proofs.Fields.{some_is}
use Rattle.jsonml_tree.specs.Data.{PlainScalar}
use Rattle.jsonml_print.specs.Calls.{Call, content_calls}
use Rattle.jsonml_print.specs.Pen.{Pen}
use Rattle.record_parts.specs.declared.limits.TheConstants.{DEEPEST}
use Rattle.key_annotate.specs.Inside.{inside_of}
use Rattle.keyed_tree.specs.Data.{PlainKey, scalar}
use Rattle.keyed_tree.specs.Plain.{content_of}
use Rattle.keyed_tree.specs.Proper.{is_content}
use Rattle.archive_tree.specs.Data.{PlainAlt, PlainNode, leaf_node}
use Rattle.archive_tree.specs.Read.{read, body_at}
use Rattle.record_format.specs.Seen.{node_steps}
use Rattle.record_format.specs.Data.{leaf_end}
use Rattle.record_format.specs.Nodes.{set_in}
use Rattle.record_format.specs.Spelling.{rec_bytes}
use Rattle.record_cursor.specs.Faults.{IfDamage}
use Rattle.record_cursor.specs.Steps as cursor
use Rattle.record_cursor.specs.declared.fault.CursorFault.{CursorFault}
use Rattle.file_rows.specs.View.{PlainChild}
use Rattle.file_get.specs.Told.{of_cursor, fault_of, Unless}
use Rattle.file_get.specs.LeafBodies.{whole_inside}
use Rattle.content_print.specs.LentPrinted.{output, whole_calls}
use Rattle.file_get.specs.Contents.{ContentPrinted}
use Rattle.file_get.specs.declared.fault.GetFault.{GetFault}
use Rattle.file_get.specs.State.{State}
use Rattle.file_get.specs.Walks.{Shows, IsBegun}
use Rattle.file_get.specs.Inside.{InsidePrinted, NodeOpened, AltsTold, inside_seen}
use Rattle.file_get.specs.declared.read.Opening.{Opening}
use Rattle.file_get.specs.declared.fault.GetFault.TheVariants.{Damage}
use Rattle.file_get.proofs.Opened.{eff-members, alts-told, tag-leaf}
use Rattle.file_get.proofs.Pens.{begun-stands}
use Rattle.file_get.proofs.LentContents.{content-read, lent-walks, lent-shows}
use Rattle.file_get.proofs.States.{walks-then, walks-damage, shows-then}
use Rattle.file_get.proofs.States as states
use Rattle.file_get.specs.Searched.{alts_read}

-- a scalar is no content
pub scalar-body : (body : Option PlainKey) (s : PlainScalar) → body ≡ Some (scalar s) → (b : PlainKey) → body ≡ Some b → is_content b ≡ false
scalar-body body s e b h = ap is_content (sym (some_is (scalar s) b (sym e ∙ h)))

module _ {S K : Type 0} (files : S → Option Files) (draft : S → Option (List ℕ)) (numbers : S → Numbers) (faults : S → ℕ) (taken : K → Taken) (out_faults : K → ℕ) (i : ℕ) (name : List ℕ) (child : PlainChild) (o : Opening) (depth : ℕ) where
  abbrev pub at : S → K → Pen → ℕ → State
  at = states.at files draft numbers faults taken out_faults

  -- what a read says where alternatives stand
  abbrev pub Tells : S → S → (List (ℕ × ℕ) → List PlainAlt → Type 0) → Type 0
  Tells old new P = (last : ℕ) (bytes more : List ℕ) (set : List (ℕ × ℕ)) (xs : List PlainAlt) → AltsTold i (files old) name bytes last o.behind child.end set xs more → P set xs × PullsAtMost (alts_read i set xs) (numbers old) (numbers new)

  -- the body was not read
  pub leaf-unread : (old new : S) (k : K) (p : Pen) (n : ℕ) (e : CursorFault) → o.is_inner ≡ false → cursor.OnlyReads files draft faults old new (Some e) → PullsAtMost (child.end - o.behind) (numbers old) (numbers new) → Tells old new (λ set xs. IfDamage e ⊥)
      → InsidePrinted i name child o depth (at old k p n) (at new k p n) (Some (of_cursor e))
  leaf-unread old new k p n e leaf h pulls told = record {
    walks = states.reads files draft numbers faults taken out_faults old new k p n n (Some e) (child.end - o.behind) h pulls;
    stands = tt;
    shows = λ bytes end has_item parent j x is. (
        let t = tag-leaf i (files old) name bytes end child o depth has_item parent j x is leaf in
        subst (λ (m : PlainNode). Shows (content_calls (inside_of (read i (members parent) m))) (inside_seen i parent m) (node_steps i parent m) (at old k p n) (at new k p n) (Some (of_cursor e))) (sym t.is)
        (let x' = subst (NodeOpened i (files old) name bytes end child o depth has_item parent) t.is x in
        let y = told end bytes (rec_bytes leaf_end) (set_in t.stamp parent) t.alts (alts-told i (files old) name bytes end child o depth has_item parent t.label t.stamp t.alts x') in
        states.shows-unread files draft numbers faults taken out_faults old new k p n n (alts_read i (set_in t.stamp parent) t.alts) 0 e
        (content_calls (inside_of (read i (members parent) (leaf_node t.label t.stamp t.alts)))) y.0 (omega arith) y.1));
  }

  no-content : (b : PlainKey) → is_content b ≡ false → is_content b ≡ true → ⊥
  no-content b lacks is = let f : false ≡ true = sym lacks ∙ is in cc

  -- a scalar stands where a content is wanted
  pub leaf-scalar : (old new : S) (k : K) (p : Pen) (n : ℕ) (body : Option PlainKey) → o.is_inner ≡ false → ((b : PlainKey) → body ≡ Some b → is_content b ≡ false) → cursor.OnlyReads files draft faults old new None → PullsAtMost (child.end - o.behind) (numbers old) (numbers new)
      → Tells old new (λ set xs. body ≡ Some (body_at i (members set) xs)) → InsidePrinted i name child o depth (at old k p n) (at new k p n) (Some Damage)
  leaf-scalar old new k p n body leaf lacks h pulls told = record {
    walks = walks-damage (at old k p n) (at new k p n) (child.end - o.behind) (child.end - o.behind) (omega arith) (states.reads files draft numbers faults taken out_faults old new k p n n None (child.end - o.behind) h pulls);
    stands = tt;
    shows = λ bytes end has_item parent j x is. (
        let t = tag-leaf i (files old) name bytes end child o depth has_item parent j x is leaf in
        let x' = subst (NodeOpened i (files old) name bytes end child o depth has_item parent) t.is x in
        let y = told end bytes (rec_bytes leaf_end) (set_in t.stamp parent) t.alts (alts-told i (files old) name bytes end child o depth has_item parent t.label t.stamp t.alts x') in
        absurd (no-content (body_at i (members (set_in t.stamp parent)) t.alts) (lacks (body_at i (members (set_in t.stamp parent)) t.alts) y.0) t.body));
  }

  stands-by : {T : Type 0} (p q : Pen) (r : Result T GetFault) → depth ≤ DEEPEST → IsBegun depth p → OnOk r (p.depth ≤ q.depth) → Unless (fault_of r) (depth + 1 ≤ q.depth)
  stands-by p q (Ok u) few begun deeper = (let w = begun-stands depth p few begun in let count = w.count in omega (arith, count, deeper))
  stands-by p q (Err e) few begun deeper = tt

  -- the body was printed out of its bytes
  pub leaf-printed : {T : Type 0} (old new : S) (a b : K) (p q : Pen) (n : ℕ) (bytes : List ℕ) (body : Option PlainKey) (r : Result T GetFault) → body ≡ whole_inside bytes → o.is_inner ≡ false → depth ≤ DEEPEST → IsBegun depth p → IsMeter (numbers new)
      → cursor.OnlyReads files draft faults old new None → PullsAtMost (child.end - o.behind) (numbers old) (numbers new) → Tells old new (λ set xs. body ≡ Some (body_at i (members set) xs))
      → ContentPrinted (output taken out_faults a p) (output taken out_faults b q) (whole_calls bytes) r → OnOk r (p.depth ≤ q.depth)
      → InsidePrinted i name child o depth (at old a p n) (at new b q n) (fault_of r)
  leaf-printed old new a b p q n bytes body r is-body leaf few begun meter h pulls told prints deeper = (
      let got = states.reads files draft numbers faults taken out_faults old new a p n n None (child.end - o.behind) h pulls in
      record {
        walks = walks-then (at old a p n) (at new a p n) (at new b q n) (fault_of r) (child.end - o.behind) 0 (child.end - o.behind) (omega arith) got (lent-walks files draft numbers faults taken out_faults new a b p q n (whole_calls bytes) r meter prints);
        stands = stands-by p q r few begun deeper;
        shows = λ front end has_item parent j x is. (
            let t = tag-leaf i (files old) name front end child o depth has_item parent j x is leaf in
            let x' = subst (NodeOpened i (files old) name front end child o depth has_item parent) t.is x in
            let y = told end front (rec_bytes leaf_end) (set_in t.stamp parent) t.alts (alts-told i (files old) name front end child o depth has_item parent t.label t.stamp t.alts x') in
            let c = content-read bytes (body_at i (members (set_in t.stamp parent)) t.alts) (sym is-body ∙ y.0) in
            let known = states.shows-read files draft numbers faults taken out_faults old new a p n n (alts_read i (set_in t.stamp parent) t.alts) 0 (omega arith) y.1 in
            let sent = lent-shows files draft numbers faults taken out_faults new a b p q n (whole_calls bytes) (content_calls c.0) r meter prints c.1 in
            let both = shows-then (at old a p n) (at new a p n) (at new b q n) (fault_of r) [] (content_calls c.0) (alts_read i (set_in t.stamp parent) t.alts) 0 (alts_read i (set_in t.stamp parent) t.alts) 0 0 0 (omega arith) (omega arith) known sent in
            let same : content_calls c.0 ≡ content_calls (inside_of (read i (members parent) (leaf_node t.label t.stamp t.alts))) = ap (λ (b : PlainKey). content_calls (content_of b)) (c.2 ∙ ap (λ (ns : List ℕ). body_at i ns t.alts) (sym (eff-members t.stamp parent))) in
            subst (λ (m : PlainNode). Shows (content_calls (inside_of (read i (members parent) m))) (inside_seen i parent m) (node_steps i parent m) (at old a p n) (at new b q n) (fault_of r)) (sym t.is)
            (subst (λ (cs : List Call). Shows cs (alts_read i (set_in t.stamp parent) t.alts) 0 (at old a p n) (at new b q n) (fault_of r)) same both));
      })
