-- Printing leaves that are named by attributes.
use Rattle.std.proofs.Common.{◌≡◌, ℕ, ◌-◌, ◌||◌, Bool, true, false, nat_lt, List, [], ◌∷◌, Option, Some, None, Result, Ok, Err, refl, sym, ap, subst, ◌∙◌, arith}
use Rattle.std.specs.Result.{IfOk}
use Rattle.xa_outside.specs.Causes.{HasCause}
use Rattle.xa_outside.specs.Folder.{Files}
use Rattle.xa_outside.specs.Numbers.{Numbers, IsMeter, PullsAtMost}
use Rattle.xa_outside.specs.Taken.{Taken}
use Rattle.xa_outside.specs.declared.Failed.{Failed}
use Rattle.version_set.specs.Members.{members}
use Rattle.xa_fields.proofs.Fields.{some_is}
use Rattle.jsonml_tree.specs.Data.{PlainScalar}
use Rattle.jsonml_print.specs.Calls.{Call, attribute, calls_of, Prints}
use Rattle.jsonml_print.specs.Pen.{Pen}
use Rattle.keyed_tree.specs.Data.{PlainName, attr, PlainKey, scalar, PlainLabel, leaf}
use Rattle.keyed_tree.specs.Plain.{plain}
use Rattle.record_parts.specs.Shown.{shown_name}
use Rattle.keyed_tree.specs.Proper.{is_tag, is_scalar}
use Rattle.archive_tree.specs.Data.{PlainAlt, PlainNode, leaf_node, node_label, eff}
use Rattle.archive_tree.specs.Read.{read, body_at}
use Rattle.record_format.specs.Seen.{node_steps}
use Rattle.record_format.specs.Data.{leaf_end}
use Rattle.record_format.specs.Nodes.{set_in}
use Rattle.record_format.specs.Spelling.{rec_bytes}
use Rattle.record_cursor.specs.Faults.{IfDamage}
use Rattle.record_cursor.specs.Steps as cursor
use Rattle.record_cursor.specs.declared.fault.CursorFault.{CursorFault}
use Rattle.file_rows.specs.View.{PlainChild}
use Rattle.file_get.specs.Told.{of_cursor, fault_of}
use Rattle.file_get.specs.LeafBodies.{whole_inside}
use Rattle.file_get.specs.State.{State}
use Rattle.file_get.specs.Kids.{leaf_calls, kid_calls}
use Rattle.file_get.specs.Walks.{Walks, Shows, StandsIn}
use Rattle.file_get.specs.Inside.{OpenedPrinted, NodeOpened, AltsTold, inside_seen}
use Rattle.file_get.specs.declared.read.Opening.{Opening}
use Rattle.file_get.specs.declared.fault.GetFault.{GetFault}
use Rattle.file_get.specs.declared.fault.GetFault.TheVariants.{Damage, Out}
use Rattle.file_get.proofs.Opened.{eff-members, alts-told, attr-leaf}
use Rattle.file_get.proofs.LentContents.{content-read}
use Rattle.file_get.proofs.Pens.{stands-attribute}
use Rattle.file_get.proofs.States.{walks-none, walks-then, walks-damage, shows-then}
use Rattle.file_get.proofs.States as states
use Rattle.file_get.specs.Searched.{alts_read}

-- what is answered after an output, of a node that is no element
abbrev pub printed_by : {T : Type 0} → Result T Failed → Result Bool GetFault
printed_by (Ok x) = Ok false
printed_by (Err e) = Err Out

pub printed-fault : {T : Type 0} (r : Result T Failed) → states.out_fault r ≡ fault_of (printed_by r)
printed-fault (Ok x) = refl
printed-fault (Err e) = refl

-- a content is no scalar
pub content-body : (body : Option PlainKey) (bytes : List ℕ) → body ≡ whole_inside bytes → (b : PlainKey) → body ≡ Some b → is_scalar b ≡ false
content-body body bytes e b h = (let c = content-read bytes b (sym e ∙ h) in ap is_scalar (sym c.2))

module _ {S K : Type 0} (files : S → Option Files) (draft : S → Option (List ℕ)) (numbers : S → Numbers) (faults : S → ℕ) (taken : K → Taken) (out_faults : K → ℕ) (i : ℕ) (name : List ℕ) (child : PlainChild) (o : Opening) (depth : ℕ) (text : List ℕ) where
  abbrev pub at : S → K → Pen → ℕ → State
  at = states.at files draft numbers faults taken out_faults

  abbrev pub Tells : S → S → (List (ℕ × ℕ) → List PlainAlt → Type 0) → Type 0
  Tells old new P = (last : ℕ) (bytes more : List ℕ) (set : List (ℕ × ℕ)) (xs : List PlainAlt) → AltsTold i (files old) name bytes last o.behind child.end set xs more → P set xs × PullsAtMost (alts_read i set xs) (numbers old) (numbers new)

  -- where an attribute may not come, the node is none in a sound file
  pub attr-refused : (f : S) (k : K) (p : Pen) (n : ℕ) (has_item : Bool) → IsMeter (numbers f) → shown_name o.name ≡ attr text → (o.is_inner ≡ false → nat_lt 0 depth ≡ true → has_item ≡ false → ⊥)
      → OpenedPrinted i name child o depth has_item (at f k p n) (at f k p n) (Err Damage)
  attr-refused f k p n has_item meter named never = record {
    walks = walks-damage (at f k p n) (at f k p n) 0 (child.end - o.behind) (omega arith) (walks-none (at f k p n) 0 meter);
    stands = tt;
    shows = λ bytes end parent j x. (
        let a = attr-leaf i (files f) name bytes end child o depth has_item parent j text x named in
        let l = a.0 in
        absurd (never a.1 l.inside l.first));
  }

  -- the body was not read
  pub attr-unread : (old new : S) (k : K) (p : Pen) (n : ℕ) (has_item : Bool) (e : CursorFault) → shown_name o.name ≡ attr text → cursor.OnlyReads files draft faults old new (Some e) → PullsAtMost (child.end - o.behind) (numbers old) (numbers new)
      → Tells old new (λ set xs. IfDamage e ⊥) → OpenedPrinted i name child o depth has_item (at old k p n) (at new k p n) (Err (of_cursor e))
  attr-unread old new k p n has_item e named h pulls told = record {
    walks = states.reads files draft numbers faults taken out_faults old new k p n n (Some e) (child.end - o.behind) h pulls;
    stands = tt;
    shows = λ bytes end parent j x. (
        let a = attr-leaf i (files old) name bytes end child o depth has_item parent j text x named in
        let l = a.0 in
        let x' = subst (NodeOpened i (files old) name bytes end child o depth has_item parent) l.is x in
        let y = told end bytes (rec_bytes leaf_end) (set_in l.stamp parent) l.alts (alts-told i (files old) name bytes end child o depth has_item parent (record { name = attr text; keys = l.keys }) l.stamp l.alts x') in (
          subst (λ (m : PlainNode). Shows (kid_calls (read i (members parent) m)) (inside_seen i parent m) (node_steps i parent m) (at old k p n) (at new k p n) (Some (of_cursor e))) (sym l.is)
              (states.shows-unread files draft numbers faults taken out_faults old new k p n n (alts_read i (set_in l.stamp parent) l.alts) 0 e (kid_calls (read i (members parent) (leaf_node (record { name = attr text; keys = l.keys }) l.stamp l.alts))) y.0 (omega arith) y.1),
          tt,
        ));
  }

  no-scalar : (b : PlainKey) → is_scalar b ≡ false → is_scalar b ≡ true → ⊥
  no-scalar b lacks is = let f : false ≡ true = sym lacks ∙ is in cc

  -- a content stands where a scalar is wanted
  pub attr-content : (old new : S) (k : K) (p : Pen) (n : ℕ) (has_item : Bool) (body : Option PlainKey) → shown_name o.name ≡ attr text → ((b : PlainKey) → body ≡ Some b → is_scalar b ≡ false) → cursor.OnlyReads files draft faults old new None → PullsAtMost (child.end - o.behind) (numbers old) (numbers new)
      → Tells old new (λ set xs. body ≡ Some (body_at i (members set) xs)) → OpenedPrinted i name child o depth has_item (at old k p n) (at new k p n) (Err Damage)
  attr-content old new k p n has_item body named lacks h pulls told = record {
    walks = walks-damage (at old k p n) (at new k p n) (child.end - o.behind) (child.end - o.behind) (omega arith) (states.reads files draft numbers faults taken out_faults old new k p n n None (child.end - o.behind) h pulls);
    stands = tt;
    shows = λ bytes end parent j x. (
        let a = attr-leaf i (files old) name bytes end child o depth has_item parent j text x named in
        let l = a.0 in
        let x' = subst (NodeOpened i (files old) name bytes end child o depth has_item parent) l.is x in
        let y = told end bytes (rec_bytes leaf_end) (set_in l.stamp parent) l.alts (alts-told i (files old) name bytes end child o depth has_item parent (record { name = attr text; keys = l.keys }) l.stamp l.alts x') in
        absurd (no-scalar (body_at i (members (set_in l.stamp parent)) l.alts) (lacks (body_at i (members (set_in l.stamp parent)) l.alts) y.0) l.body));
  }

  stands-by : {T : Type 0} (p q : Pen) (v : PlainScalar) (r : Result T Failed) → StandsIn depth false p → (x y : Taken) → Prints x y p q (attribute (record { name = text; value = v }) ∷ []) r → IfOk (printed_by r) (λ h. StandsIn depth h q)
  stands-by p q v (Ok u) h x y prints = stands-attribute depth p q (record { name = text; value = v }) h prints.pen
  stands-by p q v (Err e) h x y prints = tt

  one : (m : PlainName) {T : Type 0} (r : Result T Failed) → is_tag m ≡ false → IfOk (printed_by r) (λ h. h ≡ (false || is_tag m))
  one m (Ok u) e = sym e
  one m (Err u) e = tt

  -- the attribute was printed
  pub attr-printed : {T : Type 0} (old new : S) (a b : K) (p q : Pen) (n : ℕ) (v : PlainScalar) (body : Option PlainKey) (r : Result T Failed) → body ≡ Some (scalar v) → shown_name o.name ≡ attr text → StandsIn depth false p → IsMeter (numbers new)
      → cursor.OnlyReads files draft faults old new None → PullsAtMost (child.end - o.behind) (numbers old) (numbers new) → Tells old new (λ set xs. body ≡ Some (body_at i (members set) xs))
      → Prints (taken a) (taken b) p q (attribute (record { name = text; value = v }) ∷ []) r → HasCause (out_faults a) (out_faults b) r
      → OpenedPrinted i name child o depth false (at old a p n) (at new b q n) (printed_by r)
  attr-printed old new a b p q n v body r is-body named stood meter h pulls told prints cause = (
      let calls = attribute (record { name = text; value = v }) ∷ [] in
      let s = at old a p n in
      let t = at new a p n in
      let u = at new b q n in
      let e = fault_of (printed_by r) in
      let sent = states.sends files draft numbers faults taken out_faults new a b p q n calls r meter prints cause in
      let walk = subst (Walks 0 t u) (printed-fault r) sent.walks in
      let show = subst (Shows calls 0 0 t u) (printed-fault r) sent.shows in
      let got = states.reads files draft numbers faults taken out_faults old new a p n n None (child.end - o.behind) h pulls in
      record {
        walks = walks-then s t u e (child.end - o.behind) 0 (child.end - o.behind) (omega arith) got walk;
        stands = stands-by p q v r stood (taken a) (taken b) prints;
        shows = λ bytes end parent j x. (
            let k = attr-leaf i (files old) name bytes end child o depth false parent j text x named in
            let l = k.0 in
            let lab : PlainLabel = record { name = attr text; keys = l.keys } in
            let x' = subst (NodeOpened i (files old) name bytes end child o depth false parent) l.is x in
            let y = told end bytes (rec_bytes leaf_end) (set_in l.stamp parent) l.alts (alts-told i (files old) name bytes end child o depth false parent lab l.stamp l.alts x') in
            let m = alts_read i (set_in l.stamp parent) l.alts in
            let known = states.shows-read files draft numbers faults taken out_faults old new a p n n m 0 (omega arith) y.1 in
            let both = shows-then s t u e [] calls m 0 m 0 0 0 (omega arith) (omega arith) known show in
            let same-body : scalar v ≡ body_at i (eff l.stamp (members parent)) l.alts = some_is (scalar v) (body_at i (members (set_in l.stamp parent)) l.alts) (sym is-body ∙ y.0) ∙ ap (λ (ns : List ℕ). body_at i ns l.alts) (sym (eff-members l.stamp parent)) in
            let same : calls ≡ kid_calls (read i (members parent) (leaf_node lab l.stamp l.alts)) = ap (λ (d : PlainKey). leaf_calls (attr text) d (calls_of (plain (leaf lab d)))) same-body in (
              subst (λ (w : PlainNode). Shows (kid_calls (read i (members parent) w)) (inside_seen i parent w) (node_steps i parent w) s u e) (sym l.is) (subst (λ (cs : List Call). Shows cs m 0 s u e) same both),
              one (node_label j).name r (ap (λ (w : PlainNode). is_tag (node_label w).name) l.is),
            ));
      })

  pub attr-printed-at : {T : Type 0} (old new : S) (a b : K) (p q : Pen) (n : ℕ) (has_item : Bool) → has_item ≡ false → (v : PlainScalar) (body : Option PlainKey) (r : Result T Failed) → body ≡ Some (scalar v) → shown_name o.name ≡ attr text → StandsIn depth has_item p → IsMeter (numbers new)
      → cursor.OnlyReads files draft faults old new None → PullsAtMost (child.end - o.behind) (numbers old) (numbers new) → Tells old new (λ set xs. body ≡ Some (body_at i (members set) xs))
      → Prints (taken a) (taken b) p q (attribute (record { name = text; value = v }) ∷ []) r → HasCause (out_faults a) (out_faults b) r
      → OpenedPrinted i name child o depth has_item (at old a p n) (at new b q n) (printed_by r)
  attr-printed-at old new a b p q n has_item first v body r is-body named stood meter h pulls told prints cause =
      subst (λ (f : Bool). OpenedPrinted i name child o depth f (at old a p n) (at new b q n) (printed_by r)) (sym first)
      (attr-printed old new a b p q n v body r is-body named (subst (λ (f : Bool). StandsIn depth f p) first stood) meter h pulls told prints cause)
