-- Rows of nodes as lists: their sets, what a version has among them, and what a search takes.
use Rattle.std.proofs.Common.{◌≡◌, ℕ, ◌+◌, ◌*◌, ◌&&◌, ◌||◌, Bool, true, false, not, List, [], ◌∷◌, ◌++◌, length, map, IsTrue, refl, sym, ap, subst, ◌∙◌, arith, append_assoc, if◌then◌else◌}
use Rattle.version_set.specs.Members.{members, has}
use Rattle.jsonml_tree.specs.Data.{PlainAttr, PlainTrees}
use Rattle.jsonml_print.specs.Calls.{Call, attribute, calls_of, items_calls}
use Rattle.keyed_tree.specs.Data.{PlainName, attr, tag, PlainKey, scalar, inside, PlainKeyed, inner, leaf, PlainKids, no_kids, kid, kids_list, label_of}
use Rattle.keyed_tree.specs.Plain.{plain, attrs_among, attr_before, attr_onto, items_among, item_onto}
use Rattle.keyed_tree.specs.Proper.{is_tag}
use Rattle.archive_tree.specs.Data.{PlainNode, inner_node, leaf_node, PlainNodes, no_nodes, node, nodes_from, nodes_list, node_stamp}
use Rattle.archive_tree.specs.Read.{read, read_row}
use Rattle.timestamp_tree.specs.Search.{answers, answers_from}
use Rattle.record_format.specs.Nodes.{node_piece, node_pieces}
use Rattle.record_format.specs.Seen.{piece_sets, row_steps, node_steps}
use Rattle.file_get.specs.Kids.{set_of, has_at, kids_in, leaf_calls, kid_calls, kids_calls, leaf_fits, kid_fits, row_fits, kids_fit, nodes_seen, nodes_steps}
use Rattle.file_get.proofs.Opened.{eff-members}
use Rattle.file_get.specs.Searched.{node_read, row_read}

pub from-list : (ks : PlainNodes) → nodes_from (nodes_list ks) ≡ ks
from-list no_nodes = refl
from-list (node k ks) = ap (λ (js : PlainNodes). node k js) (from-list ks)

-- ---- sets

pub piece-set : (parent : List (ℕ × ℕ)) (k : PlainNode) → (node_piece parent k).set ≡ set_of parent k
piece-set parent (inner_node l s ks) = refl
piece-set parent (leaf_node l s xs) = refl

pub row-sets : (parent : List (ℕ × ℕ)) (ks : PlainNodes) → piece_sets (node_pieces parent ks) ≡ map (set_of parent) (nodes_list ks)
row-sets parent no_nodes = refl
row-sets parent (node k ks) = (λ j. piece-set parent k j ∷ row-sets parent ks j)

-- ---- what a version has

if-same : (b : Bool) (k : PlainKeyed) (ks : PlainKids) (js : List PlainKeyed) → kids_list ks ≡ js → kids_list (if b then kid k ks else ks) ≡ (if b then k ∷ js else js)
if-same true k ks js e = ap (λ (xs : List PlainKeyed). k ∷ xs) e
if-same false k ks js e = e

pub row-kids : (i : ℕ) (parent : List (ℕ × ℕ)) (ks : PlainNodes) → kids_list (read_row i (members parent) ks) ≡ kids_in i parent (nodes_list ks)
row-kids i parent no_nodes = refl
row-kids i parent (node k ks) =
    ap (λ (ns : List ℕ). kids_list (if has ns i then kid (read i (members parent) k) (read_row i (members parent) ks) else read_row i (members parent) ks)) (eff-members (node_stamp k) parent)
    ∙ if-same (has_at i parent k) (read i (members parent) k) (read_row i (members parent) ks) (kids_in i parent (nodes_list ks)) (row-kids i parent ks)

pub row-fits : (within h : Bool) (ks : PlainKids) → row_fits within h ks ≡ kids_fit within h (kids_list ks)
row-fits within h no_kids = refl
row-fits within h (kid k ks) = ap (λ (b : Bool). kid_fits within h k && b) (row-fits within (h || is_tag (label_of k).name) ks)

-- ---- the calls of a row

-- behind an element there is no attribute
and-first : (a b : Bool) → IsTrue (a && b) → IsTrue a
and-first true b e = refl
and-first false b e = absurd cc

and-last : (a b : Bool) → IsTrue (a && b) → IsTrue b
and-last true b e = e
and-last false b e = absurd cc

no-attr : (within : Bool) (n : PlainName) (b : PlainKey) → IsTrue (leaf_fits within true n b) → is_tag n ≡ true
no-attr true (attr s) b e = absurd cc
no-attr false (attr s) b e = absurd cc
no-attr within (tag s) b e = refl

or-tag : (a b : Bool) → (true || b) ≡ true
or-tag a b = refl

tag-kid : (within : Bool) (k : PlainKeyed) → IsTrue (kid_fits within true k) → is_tag (label_of k).name ≡ true
tag-kid within (inner l ks) e = and-last (within || not true) (is_tag l.name) (and-first ((within || not true) && is_tag l.name) (row_fits true false ks) e)
tag-kid within (leaf l b) e = no-attr within l.name b e

onto-tag : (k : PlainKeyed) (xs : List PlainAttr) → is_tag (label_of k).name ≡ true → attr_onto k xs ≡ xs
onto-tag (inner l ks) xs e = refl
onto-tag (leaf l b) xs e = named l.name e
  where
    named : (n : PlainName) → is_tag n ≡ true → attr_before n b xs ≡ xs
    named (attr s) e = absurd cc
    named (tag s) e = refl

attrs-none : (within : Bool) (ks : PlainKids) → IsTrue (row_fits within true ks) → attrs_among ks ≡ []
attrs-none within no_kids e = refl
attrs-none within (kid k ks) e =
    onto-tag k (attrs_among ks) (tag-kid within k (and-first (kid_fits within true k) (row_fits within true ks) e)) ∙ attrs-none within ks (and-last (kid_fits within true k) (row_fits within true ks) e)

-- one kid before the others
abbrev pub calls_with : List PlainAttr → PlainTrees → List Call
calls_with xs ts = map attribute xs ++ items_calls ts

element-first : (k : PlainKeyed) (ks : PlainKids) → is_tag (label_of k).name ≡ true → attrs_among ks ≡ [] → calls_with (attrs_among (kid k ks)) (items_among (kid k ks)) ≡ kid_calls k ++ calls_with (attrs_among ks) (items_among ks)
element-first k ks e none =
    ap (λ (xs : List PlainAttr). map attribute xs ++ items_calls (items_among (kid k ks))) (onto-tag k (attrs_among ks) e ∙ none)
    ∙ items (label_of k).name e
    ∙ ap (λ (cs : List Call). cs ++ items_calls (items_among ks)) (sym (own k e))
    ∙ ap (λ (xs : List PlainAttr). kid_calls k ++ calls_with xs (items_among ks)) (sym none)
  where
    items : (n : PlainName) → is_tag n ≡ true → items_calls (item_onto n (plain k) (items_among ks)) ≡ calls_of (plain k) ++ items_calls (items_among ks)
    items (attr s) e = absurd cc
    items (tag s) e = refl

    leaf-own : (n : PlainName) (b : PlainKey) (cs : List Call) → is_tag n ≡ true → leaf_calls n b cs ≡ cs
    leaf-own (attr s) b cs e = absurd cc
    leaf-own (tag s) b cs e = refl

    own : (k : PlainKeyed) → is_tag (label_of k).name ≡ true → kid_calls k ≡ calls_of (plain k)
    own (inner l ks) e = refl
    own (leaf l b) e = leaf-own l.name b (calls_of (plain (leaf l b))) e

not-true : (b : Bool) → IsTrue (not b) → b ≡ false
not-true true e = absurd cc
not-true false e = refl

leaf-first : (within h : Bool) (n : PlainName) (b : PlainKey) (cs : List Call) (t : PlainTrees → PlainTrees) (xs : List PlainAttr) (ts : PlainTrees) → is_tag n ≡ false → IsTrue (leaf_fits within h n b)
    → (map attribute (attr_before n b xs) ≡ leaf_calls n b cs ++ map attribute xs) × (h ≡ false)
leaf-first within h (tag s) b cs t xs ts e f = absurd cc
leaf-first within h (attr s) (inside c) cs t xs ts e f = absurd (let z : IsTrue false = and-last (within && not h) false f in cc)
leaf-first within h (attr s) (scalar v) cs t xs ts e f = (refl, not-true h (and-last within (not h) (and-first (within && not h) true f)))

same-items : (n : PlainName) (k : PlainKeyed) (ts : PlainTrees) → is_tag n ≡ false → item_onto n (plain k) ts ≡ ts
same-items (attr s) k ts e = refl
same-items (tag s) k ts e = absurd cc

attr-first : (within h : Bool) (k : PlainKeyed) (ks : PlainKids) → is_tag (label_of k).name ≡ false → IsTrue (kid_fits within h k) → (calls_with (attrs_among (kid k ks)) (items_among (kid k ks)) ≡ kid_calls k ++ calls_with (attrs_among ks) (items_among ks)) × (h ≡ false)
attr-first within h (inner l js) ks e f = absurd (let z : IsTrue (is_tag l.name) = and-last (within || not h) (is_tag l.name) (and-first ((within || not h) && is_tag l.name) (row_fits true false js) f) in clash (sym e ∙ z))
  where
    clash : false ≡ true → ⊥
    clash e = cc
attr-first within h (leaf l b) ks e f =
    let k = leaf l b in
    let own = leaf-first within h l.name b (calls_of (plain k)) (λ ts. ts) (attrs_among ks) (items_among ks) e f in (
      (λ j. own.0 j ++ items_calls (same-items l.name k (items_among ks) e j)) ∙ append_assoc (kid_calls k) (map attribute (attrs_among ks)) (items_calls (items_among ks)),
      own.1,
    )

or-right : (a : Bool) → (a || true) ≡ true
or-right true = refl
or-right false = refl

row-step : (within h b : Bool) (k : PlainKeyed) (ks : PlainKids) → is_tag (label_of k).name ≡ b → IsTrue (kid_fits within h k) → IsTrue (row_fits within (h || is_tag (label_of k).name) ks)
    → ((f : Bool) → IsTrue (row_fits within f ks) → calls_with (attrs_among ks) (items_among ks) ≡ kids_calls (kids_list ks)) → calls_with (attrs_among (kid k ks)) (items_among (kid k ks)) ≡ kids_calls (k ∷ kids_list ks)
row-step within h true k ks e f g rest =
    let tags : IsTrue (row_fits within true ks) = subst (λ (c : Bool). IsTrue (row_fits within c ks)) (ap (λ (c : Bool). h || c) e ∙ or-right h) g in
    element-first k ks e (attrs-none within ks tags) ∙ ap (λ (cs : List Call). kid_calls k ++ cs) (rest true tags)
row-step within h false k ks e f g rest =
    let own = attr-first within h k ks e f in
    own.0 ∙ ap (λ (cs : List Call). kid_calls k ++ cs) (rest (h || is_tag (label_of k).name) g)

-- attributes come before elements, so the calls of the content are those of the kids, one after another
pub row-calls : (within h : Bool) (ks : PlainKids) → IsTrue (row_fits within h ks) → calls_with (attrs_among ks) (items_among ks) ≡ kids_calls (kids_list ks)
row-calls within h no_kids e = refl
row-calls within h (kid k ks) e =
    row-step within h (is_tag (label_of k).name) k ks refl (and-first (kid_fits within h k) (row_fits within (h || is_tag (label_of k).name) ks) e) (and-last (kid_fits within h k) (row_fits within (h || is_tag (label_of k).name) ks) e)
    (λ f g. row-calls within f ks g)

-- ---- what a search takes

seen-more : (b : Bool) (n at : ℕ) (more : List ℕ) (m r : ℕ) → m ≡ 24 * length more + r → (if b then 24 + n else 0) + m ≡ 24 * length (if b then at ∷ more else more) + ((if b then n else 0) + r)
seen-more true n at more m r e = omega (arith, e)
seen-more false n at more m r e = omega (arith, e)

seen-from : (i at : ℕ) (parent : List (ℕ × ℕ)) (ks : PlainNodes) → nodes_seen i parent (nodes_list ks) ≡ 24 * length (answers_from i at (map (set_of parent) (nodes_list ks))) + row_read i parent ks
seen-from i at parent no_nodes = refl
seen-from i at parent (node k ks) = seen-more (has_at i parent k) (node_read i parent k) at (answers_from i (at + 1) (map (set_of parent) (nodes_list ks))) (nodes_seen i parent (nodes_list ks)) (row_read i parent ks) (seen-from i (at + 1) parent ks)

pub row-seen : (i : ℕ) (parent : List (ℕ × ℕ)) (ks : PlainNodes) → nodes_seen i parent (nodes_list ks) ≡ 24 * length (answers (map (set_of parent) (nodes_list ks)) i) + row_read i parent ks
row-seen i parent ks = seen-from i 0 parent ks

pub row-steps : (i : ℕ) (parent : List (ℕ × ℕ)) (ks : PlainNodes) → nodes_steps i parent (nodes_list ks) ≡ row_steps i parent ks
row-steps i parent no_nodes = refl
row-steps i parent (node k ks) = ap (λ (n : ℕ). (if has_at i parent k then node_steps i parent k else 0) + n) (row-steps i parent ks)
