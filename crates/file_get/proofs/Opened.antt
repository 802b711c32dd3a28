-- Nodes whose opening record was read.
use Rattle.std.proofs.Common.{◌≡◌, ℕ, ◌+◌, ◌&&◌, ◌||◌, Bool, true, false, not, nat_lt, List, [], ◌∷◌, ◌++◌, length, map, IsTrue, Option, Some, None, refl, sym, ap, subst, ◌∙◌, arith}
use Rattle.std.specs.List.{flat_map}
use Rattle.std.proofs.lemmas.Grind.{flat_map-append}
use Rattle.std.proofs.lemmas.List.{length-append, append-nil}
use Rattle.version_set.specs.Members.{members}
use Rattle.keyed_tree.specs.Data.{PlainName, attr, tag, PlainLabel, PlainKey}
use Rattle.keyed_tree.specs.Proper.{is_tag, is_scalar, is_content}
use Rattle.record_parts.specs.Shown.{shown_name}
use Rattle.archive_tree.specs.Data.{Stamp, eff, PlainAlt, PlainNode, inner_node, leaf_node, node_label}
use Rattle.archive_tree.specs.Read.{read_row, body_at}
use Rattle.record_format.specs.Bounds.{IsRec}
use Rattle.record_format.specs.Data.{PlainRec, leaf_rec, leaf_end}
use Rattle.record_format.specs.Nodes.{alt_of, set_in}
use Rattle.record_format.specs.Spelling.{rec_bytes}
use Rattle.record_format.proofs.Pieces.{all-front}
use Rattle.xa_outside.specs.Folder.{Files}
use Rattle.file_rows.specs.StandsAt.{StandsAt}
use Rattle.file_rows.specs.View.{PlainChild}
use Rattle.file_rows.proofs.Parts.{stands-back}
use Rattle.file_get.specs.Kids.{leaf_fits, row_fits}
use Rattle.file_get.specs.Inside.{AltsTold, NodeOpened}
use Rattle.file_get.specs.declared.read.Opening.{Opening}

-- the effective set as numbers
pub eff-members : (s : Stamp) (parent : List (ℕ × ℕ)) → eff s (members parent) ≡ members (set_in s parent)
eff-members None parent = refl
eff-members (Some t) parent = refl

-- the alternatives of a leaf stand behind its opening record
pub alts-told : (i : ℕ) (files : Option Files) (name bytes : List ℕ) (end : ℕ) (child : PlainChild) (o : Opening) (depth : ℕ) (h : Bool) (parent : List (ℕ × ℕ)) (l : PlainLabel) (s : Stamp) (xs : List PlainAlt)
    → NodeOpened i files name bytes end child o depth h parent (leaf_node l s xs) → AltsTold i files name bytes end o.behind child.end (set_in s parent) xs (rec_bytes leaf_end)
alts-told i files name bytes end child o depth h parent l s xs x =
    let n = x.node in
    let is = n.is in
    let opens = x.opens in
    let stands = is.stands in
    let body : List PlainRec = map alt_of xs ++ leaf_end ∷ [] in
    let apart : flat_map rec_bytes body ≡ flat_map rec_bytes (map alt_of xs) ++ rec_bytes leaf_end = flat_map-append rec_bytes (map alt_of xs) (leaf_end ∷ []) ∙ ap (λ (bs : List ℕ). flat_map rec_bytes (map alt_of xs) ++ bs) (append-nil (rec_bytes leaf_end)) in
    let here : StandsAt bytes (child.first + length (rec_bytes (leaf_rec l s))) (flat_map rec_bytes body) = stands-back bytes child.first (rec_bytes (leaf_rec l s)) (flat_map rec_bytes body) stands.stands in
    let place : child.first + length (rec_bytes (leaf_rec l s)) ≡ o.behind = sym opens.behind in
    let length-is = length-append (rec_bytes (leaf_rec l s)) (flat_map rec_bytes body) in
    let ends = stands.end in
    let far : child.end ≡ o.behind + length (flat_map rec_bytes body) = omega (arith, length-is, ends, place) in
    record {
      tells = n.tells;
      within = is.within;
      stands = subst (StandsAt bytes o.behind) apart (subst (λ (a : ℕ). StandsAt bytes a (flat_map rec_bytes body)) place here);
      ends = far ∙ ap (λ (bs : List ℕ). o.behind + length bs) apart;
      records = all-front IsRec (map alt_of xs) (leaf_end ∷ []) (let r = is.records in r.1);
      has = n.has;
      some = n.bodies;
    }

-- a leaf that is named by an attribute
pub record AttrLeaf (i : ℕ) (depth : ℕ) (has_item : Bool) (parent : List (ℕ × ℕ)) (name : List ℕ) (k : PlainNode) : Type 0 where
  pub keys : List PlainKey
  pub stamp : Stamp
  pub alts : List PlainAlt
  pub is : k ≡ leaf_node (record { name = attr name; keys = keys }) stamp alts
  pub body : is_scalar (body_at i (members (set_in stamp parent)) alts) ≡ true
  pub inside : nat_lt 0 depth ≡ true
  pub first : has_item ≡ false

three : (a b c : Bool) → IsTrue (a && b && c) → (a ≡ true) × (b ≡ true) × (c ≡ true)
three true true true e = (refl, refl, refl)
three true true false e = absurd cc
three true false c e = absurd cc
three false true c e = absurd cc
three false false c e = absurd cc

negated : (b : Bool) → not b ≡ true → b ≡ false
negated true e = absurd cc
negated false e = refl

-- ---- leaves that are named by a tag

pub record TagLeaf (i : ℕ) (parent : List (ℕ × ℕ)) (k : PlainNode) : Type 0 where
  pub label : PlainLabel
  pub stamp : Stamp
  pub alts : List PlainAlt
  pub is : k ≡ leaf_node label stamp alts
  pub body : is_content (body_at i (members (set_in stamp parent)) alts) ≡ true

last-of : (a b : Bool) → IsTrue (a && b) → b ≡ true
last-of true true e = refl
last-of true false e = absurd cc
last-of false b e = absurd cc

content-of : (within h : Bool) (n : PlainName) (b : PlainKey) → is_tag n ≡ true → IsTrue (leaf_fits within h n b) → is_content b ≡ true
content-of within h (attr s) b e f = absurd cc
content-of within h (tag s) b e f = last-of (within || not h) (is_content b) f

pub tag-leaf : (i : ℕ) (files : Option Files) (name bytes : List ℕ) (end : ℕ) (child : PlainChild) (o : Opening) (depth : ℕ) (h : Bool) (parent : List (ℕ × ℕ)) (k : PlainNode)
    → NodeOpened i files name bytes end child o depth h parent k → is_tag (node_label k).name ≡ true → o.is_inner ≡ false → TagLeaf i parent k
tag-leaf i files name bytes end child o depth h parent (inner_node l s ks) x e f = (let opens = x.opens in absurd (clash (sym opens.inner ∙ f)))
  where
    clash : true ≡ false → ⊥
    clash e = cc
tag-leaf i files name bytes end child o depth h parent (leaf_node l s xs) x e f =
    let n = x.node in
    let fits : IsTrue (leaf_fits (nat_lt 0 depth) h l.name (body_at i (eff s (members parent)) xs)) = n.fits in
    record {
      label = l;
      stamp = s;
      alts = xs;
      is = refl;
      body = ap (λ (ns : List ℕ). is_content (body_at i ns xs)) (sym (eff-members s parent)) ∙ content-of (nat_lt 0 depth) h l.name (body_at i (eff s (members parent)) xs) e fits;
    }

-- ---- leaves that are named by an attribute

attr-parts : (within h : Bool) (s : List ℕ) (b : PlainKey) → IsTrue (leaf_fits within h (attr s) b) → (within ≡ true) × (h ≡ false) × (is_scalar b ≡ true)
attr-parts within h s b e = (let t = three within (not h) (is_scalar b) e in (t.0, negated h t.1, t.2))

named-leaf : (within h : Bool) (n : PlainName) (s : List ℕ) (b : PlainKey) → n ≡ attr s → IsTrue (leaf_fits within h n b) → (within ≡ true) × (h ≡ false) × (is_scalar b ≡ true)
named-leaf within h n s b e f = attr-parts within h s b (subst (λ (m : PlainName). IsTrue (leaf_fits within h m b)) e f)

tagged : (a b c : Bool) → IsTrue (a && b && c) → b ≡ true
tagged a b c e = (let t = three a b c e in t.1)

pub attr-leaf : (i : ℕ) (files : Option Files) (name bytes : List ℕ) (end : ℕ) (child : PlainChild) (o : Opening) (depth : ℕ) (h : Bool) (parent : List (ℕ × ℕ)) (k : PlainNode) (text : List ℕ)
    → NodeOpened i files name bytes end child o depth h parent k → shown_name o.name ≡ attr text → AttrLeaf i depth h parent text k × (o.is_inner ≡ false)
attr-leaf i files name bytes end child o depth h parent (inner_node l s ks) text x e =
    let n = x.node in
    let opens = x.opens in
    let named : l.name ≡ attr text = sym opens.name ∙ e in
    let tags : is_tag l.name ≡ true = tagged (nat_lt 0 depth || not h) (is_tag l.name) (row_fits true false (read_row i (eff s (members parent)) ks)) n.fits in
    absurd (clash (sym (ap is_tag named) ∙ tags))
  where
    clash : false ≡ true → ⊥
    clash e = cc
attr-leaf i files name bytes end child o depth h parent (leaf_node l s xs) text x e =
    let n = x.node in
    let opens = x.opens in
    let named : l.name ≡ attr text = sym opens.name ∙ e in
    let parts = named-leaf (nat_lt 0 depth) h l.name text (body_at i (eff s (members parent)) xs) named n.fits in (
      record {
        keys = l.keys;
        stamp = s;
        alts = xs;
        is = ap (λ (m : PlainName). leaf_node (record { name = m; keys = l.keys }) s xs) named;
        body = ap (λ (ns : List ℕ). is_scalar (body_at i ns xs)) (sym (eff-members s parent)) ∙ parts.2;
        inside = parts.0;
        first = parts.1;
      },
      opens.inner,
    )
