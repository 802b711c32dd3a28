-- What the records say of the nodes that lie in some bytes.
use Rattle.std.proofs.Common.{◌≡◌, ℕ, ◌-◌, ◌<◌, ◌≤◌, ◌⊎◌, inl, inr, ltb, IsTrue, List, [], ◌∷◌, ◌++◌, map, length, drop, Option, Some, None, Result, Ok, Err, refl, sym, ap, subst, ◌∙◌, append_assoc, arith}
use Rattle.std.specs.List.{flat_map, AllByRecursion}
use Rattle.std.proofs.lemmas.List.{append-nil, length-append, length-drop}
use Rattle.std.specs.Result.{IsErrAnd}
use Rattle.std.proofs.lemmas.Grind.{flat_map-append}
use Rattle.keyed_tree.specs.Data.{PlainLabel}
use Rattle.keyed_tree.proofs.Kids.{both}
use Rattle.archive_tree.specs.Data.{Stamp, PlainAlt, PlainNode, inner_node, leaf_node, PlainNodes, no_nodes, node, nodes_list, nodes_from}
use Rattle.archive_tree.proofs.Parts.{nodes_from-nodes_list}
use Rattle.xa_fields.specs.Laws.{IsBytes}
use Rattle.xa_fields.proofs.Fields.{some_is, IsBytes-drop}
use Rattle.record_format.specs.Data.{PlainRec, inner_rec, leaf_rec, alt_rec, end_rec, leaf_end}
use Rattle.record_format.specs.Spelling.{kind_of, body_bytes, framed, rec_bytes}
use Rattle.record_format.specs.Bounds.{IsRec}
use Rattle.record_format.specs.Nodes.{piece_bytes, dir_of, closed_by_end, alt_of, set_in, node_piece, node_pieces}
use Rattle.record_format.specs.Reading.{frame_at, record_at}
use Rattle.record_format.proofs.Records.{record_reads, frame_found, frame_only}
use Rattle.archive_file.specs.Laid.{is_nested, are_nested, AltsAt, NodeAt, RowAt, Finds}
use Rattle.archive_file.specs.Faults.{IfDamage}
use Rattle.archive_file.specs.declared.fault.FileFault.{FileFault}
use Rattle.archive_file.specs.declared.fault.FileFault.TheVariants.{Damage, Memory}
use Rattle.archive_file.proofs.FileLaws.{all-front, all-back, records_of, rec-length}
use Rattle.archive_file.proofs.GoesLaws.{lt-of}

-- ---- the first record

pub first-record : (r : PlainRec) (rs : List PlainRec) (rest now : List ℕ) → IsRec r → now ≡ flat_map rec_bytes (r ∷ rs) ++ rest → record_at now ≡ Some (r, flat_map rec_bytes rs ++ rest)
first-record r rs rest now h e = ap record_at (e ∙ append_assoc (rec_bytes r) (flat_map rec_bytes rs) rest) ∙ record_reads.again r (flat_map rec_bytes rs ++ rest) h

pub first-frame : (r : PlainRec) (rs : List PlainRec) (rest now : List ℕ) → IsRec r → now ≡ flat_map rec_bytes (r ∷ rs) ++ rest → frame_at now ≡ Some ((kind_of r, body_bytes r), flat_map rec_bytes rs ++ rest)
first-frame r rs rest now h e = ap frame_at (e ∙ append_assoc (rec_bytes r) (flat_map rec_bytes rs) rest) ∙ frame_only (kind_of r) (body_bytes r) (flat_map rec_bytes rs ++ rest) h.short

same-read : {A : Type 0} (o : Option A) (x y : A) → o ≡ Some x → o ≡ Some y → x ≡ y
same-read o x y e f = some_is x y (sym e ∙ f)

none-read : {A : Type 0} (o : Option A) (x : A) → o ≡ Some x → o ≡ None → ⊥
none-read (Some y) x e f = absurd cc
none-read None x e f = absurd cc

-- a record that is read has an encoding, and takes some bytes
pub record-is : (bytes : List ℕ) (at next : ℕ) (r : PlainRec) → IsBytes bytes → record_at (drop at bytes) ≡ Some (r, drop next bytes) → IsRec r
record-is bytes at next r h e = (record_reads.takes (drop at bytes) (r, drop next bytes) (IsBytes-drop at bytes h) e).fits

-- and spells it
pub record-spelled : (bytes : List ℕ) (at next : ℕ) (r : PlainRec) → IsBytes bytes → record_at (drop at bytes) ≡ Some (r, drop next bytes) → drop at bytes ≡ rec_bytes r ++ drop next bytes
record-spelled bytes at next r h e = (record_reads.takes (drop at bytes) (r, drop next bytes) (IsBytes-drop at bytes h) e).takes.parts

pub frame-spelled : (bytes : List ℕ) (at next kind : ℕ) (body : List ℕ) → IsBytes bytes → frame_at (drop at bytes) ≡ Some ((kind, body), drop next bytes) → drop at bytes ≡ framed kind body ++ drop next bytes
frame-spelled bytes at next kind body h e = (frame_found (drop at bytes) ((kind, body), drop next bytes) (IsBytes-drop at bytes h) e).takes.parts

pub record-on : (bytes : List ℕ) (at next : ℕ) (r : PlainRec) → IsBytes bytes → record_at (drop at bytes) ≡ Some (r, drop next bytes) → next ≤ length bytes → at < next
record-on bytes at next r h e le =
    let read = record_reads.takes (drop at bytes) (r, drop next bytes) (IsBytes-drop at bytes h) e in
    omega (arith, ap length read.takes.parts, length-append (rec_bytes r) (drop next bytes), rec-length r, length-drop at bytes, length-drop next bytes)

pub frame-on : (bytes : List ℕ) (at next kind : ℕ) (body : List ℕ) → IsBytes bytes → frame_at (drop at bytes) ≡ Some ((kind, body), drop next bytes) → next ≤ length bytes → at < next
frame-on bytes at next kind body h e le =
    let read = frame_found (drop at bytes) ((kind, body), drop next bytes) (IsBytes-drop at bytes h) e in
    omega (arith, ap length read.takes.parts, length-append (framed kind body) (drop next bytes), length-drop at bytes, length-drop next bytes)

-- ---- alternatives

-- the alternatives that are left
pub record AltsLeft (xs : List PlainAlt) (rest : List ℕ) (done : List PlainAlt) (now : List ℕ) : Type 0 where
  pub left : List PlainAlt
  pub split : xs ≡ done ++ left
  pub lies : AltsAt left rest now

pub alts-start : (xs : List PlainAlt) (rest now : List ℕ) → AltsAt xs rest now → AltsLeft xs rest [] now
alts-start xs rest now h = record { left = xs; split = refl; lies = h }

alts-first : (xs : List PlainAlt) (rest now : List ℕ) → AltsAt xs rest now → (r : PlainRec) × (after : List ℕ) × (record_at now ≡ Some (r, after)) × ((kind_of r ≡ 3) ⊎ (kind_of r ≡ 5))
alts-first [] rest now h = (leaf_end, _, first-record leaf_end [] rest now h.records.0 h.bytes, inr refl)
alts-first (x ∷ xs) rest now h = (alt_of x, _, first-record (alt_of x) (map alt_of xs ++ leaf_end ∷ []) rest now h.records.0 h.bytes, inl refl)

pub alts-none : (xs : List PlainAlt) (rest : List ℕ) (done : List PlainAlt) (now : List ℕ) → AltsLeft xs rest done now → record_at now ≡ None → ⊥
alts-none xs rest done now h e = (let f = alts-first h.left rest now h.lies in none-read (record_at now) (f.0, f.1) f.2 e)

pub alts-kind : (xs : List PlainAlt) (rest : List ℕ) (done : List PlainAlt) (now : List ℕ) → AltsLeft xs rest done now → (r : PlainRec) (after : List ℕ) → record_at now ≡ Some (r, after) → (kind_of r ≡ 3) ⊎ (kind_of r ≡ 5)
alts-kind xs rest done now h r after e =
    let f = alts-first h.left rest now h.lies in
    let same : f.0 ≡ r = ap (λ (p : PlainRec × List ℕ). p.0) (same-read (record_at now) (f.0, f.1) (r, after) f.2 e) in
    subst (λ (x : PlainRec). (kind_of x ≡ 3) ⊎ (kind_of x ≡ 5)) same f.3

alts-step : (xs : List PlainAlt) (rest : List ℕ) (done left : List PlainAlt) (now : List ℕ) → xs ≡ done ++ left → AltsAt left rest now → (a : PlainAlt) (after : List ℕ) → record_at now ≡ Some (alt_of a, after) → AltsLeft xs rest (done ++ a ∷ []) after
alts-step xs rest done [] now split h a after e =
    let p = same-read (record_at now) (leaf_end, _) (alt_of a, after) (first-record leaf_end [] rest now h.records.0 h.bytes) e in
    let q : leaf_end ≡ alt_of a = ap (λ (z : PlainRec × List ℕ). z.0) p in
    absurd cc
alts-step xs rest done (x ∷ left) now split h a after e =
    let p = same-read (record_at now) (alt_of x, _) (alt_of a, after) (first-record (alt_of x) (map alt_of left ++ leaf_end ∷ []) rest now h.records.0 h.bytes) e in
    let q : alt_rec x.stamp x.body ≡ alt_rec a.stamp a.body = ap (λ (z : PlainRec × List ℕ). z.0) p in
    let s : x.stamp ≡ a.stamp = cc in
    let b : x.body ≡ a.body = cc in
    let same : x ≡ a = (λ i. record { stamp = s i; body = b i }) in
    record {
      left = left;
      split = split ∙ ap (λ (z : PlainAlt). done ++ z ∷ left) same ∙ sym (append_assoc done (a ∷ []) left);
      lies = record { records = h.records.1; bytes = ap (λ (z : PlainRec × List ℕ). z.1) (sym p) };
    }

pub alts-next : (xs : List PlainAlt) (rest : List ℕ) (done : List PlainAlt) (now : List ℕ) → AltsLeft xs rest done now → (a : PlainAlt) (after : List ℕ) → record_at now ≡ Some (alt_of a, after) → AltsLeft xs rest (done ++ a ∷ []) after
alts-next xs rest done now h a after e = alts-step xs rest done h.left now h.split h.lies a after e

alts-stop : (xs : List PlainAlt) (rest : List ℕ) (done left : List PlainAlt) (now : List ℕ) → xs ≡ done ++ left → AltsAt left rest now → (after : List ℕ) → record_at now ≡ Some (leaf_end, after) → (done ≡ xs) × (after ≡ rest)
alts-stop xs rest done [] now split h after e =
    let p = same-read (record_at now) (leaf_end, _) (leaf_end, after) (first-record leaf_end [] rest now h.records.0 h.bytes) e in
    (sym (split ∙ append-nil done), ap (λ (z : PlainRec × List ℕ). z.1) (sym p))
alts-stop xs rest done (x ∷ left) now split h after e =
    let p = same-read (record_at now) (alt_of x, _) (leaf_end, after) (first-record (alt_of x) (map alt_of left ++ leaf_end ∷ []) rest now h.records.0 h.bytes) e in
    let q : alt_rec x.stamp x.body ≡ leaf_end = ap (λ (z : PlainRec × List ℕ). z.0) p in
    absurd cc

pub alts-end : (xs : List PlainAlt) (rest : List ℕ) (done : List PlainAlt) (now : List ℕ) → AltsLeft xs rest done now → (after : List ℕ) → record_at now ≡ Some (leaf_end, after) → (done ≡ xs) × (after ≡ rest)
alts-end xs rest done now h after e = alts-stop xs rest done h.left now h.split h.lies after e

-- ---- nodes

node-first : (parent : List (ℕ × ℕ)) (k : PlainNode) (rest : List ℕ) (depth : ℕ) (now : List ℕ) → NodeAt parent k rest depth now → (r : PlainRec) × (after : List ℕ) × (record_at now ≡ Some (r, after)) × ((kind_of r ≡ 1) ⊎ (kind_of r ≡ 2))
node-first parent (inner_node l s ks) rest depth now h = (inner_rec l s, _, first-record (inner_rec l s) (closed_by_end (node_pieces (set_in s parent) ks)) rest now h.records.0 h.bytes, inl refl)
node-first parent (leaf_node l s xs) rest depth now h = (leaf_rec l s, _, first-record (leaf_rec l s) (map alt_of xs ++ leaf_end ∷ []) rest now h.records.0 h.bytes, inr refl)

pub node-none : (parent : List (ℕ × ℕ)) (k : PlainNode) (rest : List ℕ) (depth : ℕ) (now : List ℕ) → NodeAt parent k rest depth now → record_at now ≡ None → ⊥
node-none parent k rest depth now h e = (let f = node-first parent k rest depth now h in none-read (record_at now) (f.0, f.1) f.2 e)

pub node-kind : (parent : List (ℕ × ℕ)) (k : PlainNode) (rest : List ℕ) (depth : ℕ) (now : List ℕ) → NodeAt parent k rest depth now → (r : PlainRec) (after : List ℕ) → record_at now ≡ Some (r, after) → (kind_of r ≡ 1) ⊎ (kind_of r ≡ 2)
node-kind parent k rest depth now h r after e =
    let f = node-first parent k rest depth now h in
    let same : f.0 ≡ r = ap (λ (p : PlainRec × List ℕ). p.0) (same-read (record_at now) (f.0, f.1) (r, after) f.2 e) in
    subst (λ (x : PlainRec). (kind_of x ≡ 1) ⊎ (kind_of x ≡ 2)) same f.3

-- the node is an inner one, and its kids lie behind the record that opens it
pub record InnerAt (parent : List (ℕ × ℕ)) (k : PlainNode) (rest : List ℕ) (depth : ℕ) (l : PlainLabel) (s : Stamp) (after : List ℕ) : Type 0 where
  pub kids : PlainNodes
  pub is : inner_node l s kids ≡ k
  pub some : 0 < depth
  pub row : RowAt (set_in s parent) kids rest (depth - 1) after

pub node-inner : (parent : List (ℕ × ℕ)) (k : PlainNode) (rest : List ℕ) (depth : ℕ) (now : List ℕ) → NodeAt parent k rest depth now → (l : PlainLabel) (s : Stamp) (after : List ℕ) → record_at now ≡ Some (inner_rec l s, after)
    → InnerAt parent k rest depth l s after
node-inner parent (leaf_node m t xs) rest depth now h l s after e =
    let p = same-read (record_at now) (leaf_rec m t, _) (inner_rec l s, after) (first-record (leaf_rec m t) (map alt_of xs ++ leaf_end ∷ []) rest now h.records.0 h.bytes) e in
    let q : leaf_rec m t ≡ inner_rec l s = ap (λ (z : PlainRec × List ℕ). z.0) p in
    absurd cc
node-inner parent (inner_node m t ks) rest depth now h l s after e =
    let p = same-read (record_at now) (inner_rec m t, _) (inner_rec l s, after) (first-record (inner_rec m t) (closed_by_end (node_pieces (set_in t parent) ks)) rest now h.records.0 h.bytes) e in
    let q : inner_rec m t ≡ inner_rec l s = ap (λ (z : PlainRec × List ℕ). z.0) p in
    let label : m ≡ l = cc in
    let stamp : t ≡ s = cc in
    let two = both (ltb 0 depth) (are_nested (depth - 1) ks) h.nested in
    let row : RowAt (set_in t parent) ks rest (depth - 1) after = record { records = h.records.1; nested = two.1; bytes = ap (λ (z : PlainRec × List ℕ). z.1) (sym p) } in
    record {
      kids = ks;
      is = (λ i. inner_node (sym label i) (sym stamp i) ks);
      some = lt-of 0 depth two.0;
      row = subst (λ (z : Stamp). RowAt (set_in z parent) ks rest (depth - 1) after) stamp row;
    }

-- the node is a leaf, and its alternatives lie behind the record that opens it
pub record LeafAt (k : PlainNode) (rest : List ℕ) (l : PlainLabel) (s : Stamp) (after : List ℕ) : Type 0 where
  pub alts : List PlainAlt
  pub is : leaf_node l s alts ≡ k
  pub lies : AltsAt alts rest after

pub node-leaf : (parent : List (ℕ × ℕ)) (k : PlainNode) (rest : List ℕ) (depth : ℕ) (now : List ℕ) → NodeAt parent k rest depth now → (l : PlainLabel) (s : Stamp) (after : List ℕ) → record_at now ≡ Some (leaf_rec l s, after)
    → LeafAt k rest l s after
node-leaf parent (inner_node m t ks) rest depth now h l s after e =
    let p = same-read (record_at now) (inner_rec m t, _) (leaf_rec l s, after) (first-record (inner_rec m t) (closed_by_end (node_pieces (set_in t parent) ks)) rest now h.records.0 h.bytes) e in
    let q : inner_rec m t ≡ leaf_rec l s = ap (λ (z : PlainRec × List ℕ). z.0) p in
    absurd cc
node-leaf parent (leaf_node m t xs) rest depth now h l s after e =
    let p = same-read (record_at now) (leaf_rec m t, _) (leaf_rec l s, after) (first-record (leaf_rec m t) (map alt_of xs ++ leaf_end ∷ []) rest now h.records.0 h.bytes) e in
    let q : leaf_rec m t ≡ leaf_rec l s = ap (λ (z : PlainRec × List ℕ). z.0) p in
    let label : m ≡ l = cc in
    let stamp : t ≡ s = cc in
    record { alts = xs; is = (λ i. leaf_node (sym label i) (sym stamp i) xs); lies = record { records = h.records.1; bytes = ap (λ (z : PlainRec × List ℕ). z.1) (sym p) } }

-- ---- rows

-- these nodes and this END lie there
pub record NodesAt (set : List (ℕ × ℕ)) (end : PlainRec) (ks : PlainNodes) (rest : List ℕ) (depth : ℕ) (now : List ℕ) : Type 0 where
  pub records : AllByRecursion IsRec (records_of (node_pieces set ks) ++ end ∷ [])
  pub nested : IsTrue (are_nested depth ks)
  pub bytes : now ≡ flat_map rec_bytes (records_of (node_pieces set ks) ++ end ∷ []) ++ rest

abbrev pub end_of : List (ℕ × ℕ) → PlainNodes → PlainRec
end_of set ks = end_rec (dir_of (node_pieces set ks))

-- the nodes that are left
pub record RowLeft (set : List (ℕ × ℕ)) (ks : PlainNodes) (rest : List ℕ) (depth : ℕ) (done : List PlainNode) (now : List ℕ) : Type 0 where
  pub left : PlainNodes
  pub split : ks ≡ nodes_from (done ++ nodes_list left)
  pub lies : NodesAt set (end_of set ks) left rest depth now

pub row-start : (set : List (ℕ × ℕ)) (ks : PlainNodes) (rest : List ℕ) (depth : ℕ) (now : List ℕ) → RowAt set ks rest depth now → RowLeft set ks rest depth [] now
row-start set ks rest depth now h = record { left = ks; split = sym (nodes_from-nodes_list ks); lies = record { records = h.records; nested = h.nested; bytes = h.bytes } }

-- what opens a node
abbrev opening : PlainNode → PlainRec
opening (inner_node l s ks) = inner_rec l s
opening (leaf_node l s xs) = leaf_rec l s

-- what stands behind it
abbrev behind : List (ℕ × ℕ) → PlainNode → List PlainRec
behind parent (inner_node l s ks) = closed_by_end (node_pieces (set_in s parent) ks)
behind parent (leaf_node l s xs) = map alt_of xs ++ leaf_end ∷ []

piece-opens : (parent : List (ℕ × ℕ)) (k : PlainNode) → (node_piece parent k).records ≡ opening k ∷ behind parent k
piece-opens parent (inner_node l s ks) = refl
piece-opens parent (leaf_node l s xs) = refl

opens : (k : PlainNode) → (kind_of (opening k) ≡ 1) ⊎ (kind_of (opening k) ≡ 2)
opens (inner_node l s ks) = inl refl
opens (leaf_node l s xs) = inr refl

-- the node that lies first, and what follows
first-bytes : (parent : List (ℕ × ℕ)) (k : PlainNode) (rs : List PlainRec) (rest : List ℕ) → flat_map rec_bytes ((node_piece parent k).records ++ rs) ++ rest ≡ piece_bytes (node_piece parent k) ++ (flat_map rec_bytes rs ++ rest)
first-bytes parent k rs rest =
    let p = (node_piece parent k).records in
    ap (λ (z : List ℕ). z ++ rest) (flat_map-append rec_bytes p rs) ∙ append_assoc (flat_map rec_bytes p) (flat_map rec_bytes rs) rest

-- a node that lies first, with the others behind it
pub record NodeThen (set : List (ℕ × ℕ)) (end : PlainRec) (k : PlainNode) (ks : PlainNodes) (rest : List ℕ) (depth : ℕ) (now : List ℕ) : Type 0 where
  pub kind : ℕ
  pub body : List ℕ
  pub after : List ℕ
  pub is : frame_at now ≡ Some ((kind, body), after)
  pub opens : ¬ (kind ≡ 4)
  pub behind : List ℕ
  pub lies : NodeAt set k behind depth now
  pub others : NodesAt set end ks rest depth behind

pub then-node : (set : List (ℕ × ℕ)) (end : PlainRec) (k : PlainNode) (ks : PlainNodes) (rest : List ℕ) (depth : ℕ) (now : List ℕ) → NodesAt set end (node k ks) rest depth now → NodeThen set end k ks rest depth now
then-node set end k ks rest depth now h =
    let p = (node_piece set k).records in
    let more = records_of (node_pieces set ks) ++ end ∷ [] in
    let joined : records_of (node_pieces set (node k ks)) ++ end ∷ [] ≡ p ++ more = append_assoc p (records_of (node_pieces set ks)) (end ∷ []) in
    let all : AllByRecursion IsRec (p ++ more) = subst (AllByRecursion IsRec) joined h.records in
    let opened = piece-opens set k in
    let mine = all-front IsRec p more all in
    let first : AllByRecursion IsRec (opening k ∷ behind set k) = subst (AllByRecursion IsRec) opened mine in
    let whole : now ≡ flat_map rec_bytes (p ++ more) ++ rest = h.bytes ∙ ap (λ (z : List PlainRec). flat_map rec_bytes z ++ rest) joined in
    let bytes : now ≡ flat_map rec_bytes (opening k ∷ (behind set k ++ more)) ++ rest = whole ∙ ap (λ (z : List PlainRec). flat_map rec_bytes (z ++ more) ++ rest) opened in
    let two = both (is_nested depth k) (are_nested depth ks) h.nested in
    record {
      kind = kind_of (opening k);
      body = body_bytes (opening k);
      after = flat_map rec_bytes (behind set k ++ more) ++ rest;
      is = first-frame (opening k) (behind set k ++ more) rest now first.0 bytes;
      opens = λ four. elim (opens k) [ inl one ↦ omega (arith, one, four) | inr two ↦ omega (arith, two, four) ];
      behind = flat_map rec_bytes more ++ rest;
      lies = record { records = mine; nested = two.0; bytes = whole ∙ first-bytes set k more rest };
      others = record { records = all-back IsRec p more all; nested = two.1; bytes = refl };
    }

row-first : (set : List (ℕ × ℕ)) (end : PlainRec) (ks : PlainNodes) (rest : List ℕ) (depth : ℕ) (now : List ℕ) → NodesAt set end ks rest depth now → (f : (ℕ × List ℕ) × List ℕ) × (frame_at now ≡ Some f)
row-first set end no_nodes rest depth now h = (_, first-frame end [] rest now h.records.0 h.bytes)
row-first set end (node k ks) rest depth now h = (let t = then-node set end k ks rest depth now h in (((t.kind, t.body), t.after), t.is))

pub row-frame : (set : List (ℕ × ℕ)) (ks : PlainNodes) (rest : List ℕ) (depth : ℕ) (done : List PlainNode) (now : List ℕ) → RowLeft set ks rest depth done now → frame_at now ≡ None → ⊥
row-frame set ks rest depth done now h e = (let f = row-first set (end_of set ks) h.left rest depth now h.lies in none-read (frame_at now) f.0 f.1 e)

-- a node lies first, and the others behind it
pub record NodeFirst (set : List (ℕ × ℕ)) (ks : PlainNodes) (rest : List ℕ) (depth : ℕ) (done : List PlainNode) (now : List ℕ) : Type 0 where
  pub first : PlainNode
  pub behind : List ℕ
  pub lies : NodeAt set first behind depth now
  pub on : (k : PlainNode) (after : List ℕ) → k ≡ first → after ≡ behind → RowLeft set ks rest depth (done ++ k ∷ []) after

row-cases : (set : List (ℕ × ℕ)) (ks : PlainNodes) (rest : List ℕ) (depth : ℕ) (done : List PlainNode) (left : PlainNodes) (now : List ℕ) → ks ≡ nodes_from (done ++ nodes_list left) → NodesAt set (end_of set ks) left rest depth now
    → (f : (ℕ × List ℕ) × List ℕ) → frame_at now ≡ Some f → ((f.0.0 ≡ 4) × (nodes_from done ≡ ks) × (f.1 ≡ rest) × (f.0.1 ≡ body_bytes (end_of set ks))) ⊎ ((¬ (f.0.0 ≡ 4)) × NodeFirst set ks rest depth done now)
row-cases set ks rest depth done no_nodes now split h f e =
    let p = same-read (frame_at now) _ f (first-frame (end_of set ks) [] rest now h.records.0 h.bytes) e in
    inl (ap (λ (z : (ℕ × List ℕ) × List ℕ). z.0.0) (sym p), sym (split ∙ ap nodes_from (append-nil done)), ap (λ (z : (ℕ × List ℕ) × List ℕ). z.1) (sym p), ap (λ (z : (ℕ × List ℕ) × List ℕ). z.0.1) (sym p))
row-cases set ks rest depth done (node k left) now split h f e =
    let end = end_of set ks in
    let t = then-node set end k left rest depth now h in
    let read = same-read (frame_at now) ((t.kind, t.body), t.after) f t.is e in
    let kind : t.kind ≡ f.0.0 = ap (λ (z : (ℕ × List ℕ) × List ℕ). z.0.0) read in
    inr (
      (λ four. t.opens (kind ∙ four)),
      record {
        first = k;
        behind = t.behind;
        lies = t.lies;
        on = λ j z same rests. record {
          left = left;
          split = split ∙ ap (λ (y : PlainNode). nodes_from (done ++ y ∷ nodes_list left)) (sym same) ∙ ap nodes_from (sym (append_assoc done (j ∷ []) (nodes_list left)));
          lies = subst (λ (y : List ℕ). NodesAt set end left rest depth y) (sym rests) t.others;
        };
      },
    )

pub row-end : (set : List (ℕ × ℕ)) (ks : PlainNodes) (rest : List ℕ) (depth : ℕ) (done : List PlainNode) (now : List ℕ) → RowLeft set ks rest depth done now
    → (kind : ℕ) (body after : List ℕ) → frame_at now ≡ Some ((kind, body), after) → kind ≡ 4 → (nodes_from done ≡ ks) × (after ≡ rest) × (body ≡ body_bytes (end_of set ks))
row-end set ks rest depth done now h kind body after e four =
    elim (row-cases set ks rest depth done h.left now h.split h.lies ((kind, body), after) e) [ inl x ↦ (x.1, x.2, x.3) | inr y ↦ absurd (y.0 four) ]

pub row-node : (set : List (ℕ × ℕ)) (ks : PlainNodes) (rest : List ℕ) (depth : ℕ) (done : List PlainNode) (now : List ℕ) → RowLeft set ks rest depth done now
    → (kind : ℕ) (body after : List ℕ) → frame_at now ≡ Some ((kind, body), after) → ¬ (kind ≡ 4) → NodeFirst set ks rest depth done now
row-node set ks rest depth done now h kind body after e other =
    elim (row-cases set ks rest depth done h.left now h.split h.lies ((kind, body), after) e) [ inl x ↦ absurd (other x.0) | inr y ↦ y.1 ]

-- ---- answers of calls

-- a call that failed, where damage cannot be
pub finds-none : {X Q : Type 0} (P : X → Type 0) (e : FileFault) → IfDamage e Q → ¬ Q → Finds {X = X} (Err e) P
finds-none P Damage h no_way = absurd (no_way h)
finds-none P Memory h no_way = tt

-- likewise where a fault is handed on
pub finds-handed : {X Q : Type 0} (P : X → Type 0) (r : Result X FileFault) (e : FileFault) → IsErrAnd r (λ d. d ≡ e) → IfDamage e Q → ¬ Q → Finds r P
finds-handed P (Ok x) e h g no_way = absurd h
finds-handed {X} P (Err d) e h g no_way = subst (λ (z : FileFault). Finds {X = X} (Err z) P) (sym h) (finds-none P e g no_way)

-- what a fault says that is handed on
pub fails-handed : {X Y : Type 0} (P : X → Type 0) (Q : Y → Type 0) (r : Result X FileFault) (e : FileFault) → IsErrAnd r (λ d. d ≡ e) → Finds {X = Y} (Err e) Q → Finds r P
fails-handed P Q (Ok x) e h g = absurd h
fails-handed P Q (Err Damage) Damage h g = g
fails-handed P Q (Err Damage) Memory h g = absurd cc
fails-handed P Q (Err Memory) e h g = tt
