-- What the writing of nodes and files needs.
use Rattle.std.proofs.Common.{◌≡◌, ℕ, suc, ◌+◌, ◌-◌, ◌^◌, ◌<◌, ◌≤◌, false, List, [], ◌∷◌, ◌++◌, map, take, drop, length, get_or, drop-cons, Some, None, Result, Ok, Err, IfOk, unwrap_or, refl, sym, ap, subst, ◌∙◌, append_assoc, arith}
use Rattle.std.specs.List.{flat_map, AllByRecursion}
use Rattle.std.specs.Result.{OnOk}
use Rattle.std.proofs.lemmas.Bool.{true≢false}
use Rattle.std.proofs.lemmas.List.{length-append, take_all, append-nil, map-append}
use Rattle.std.proofs.lemmas.Grind.{flat_map-append}
use Rattle.key_spec.specs.Data.{PlainRule}
use Rattle.key_spec.proofs.Steps.{map-take}
use Rattle.keyed_tree.specs.Data.{PlainLabel, PlainKeyed}
use Rattle.archive_tree.specs.Data.{Stamp, PlainAlt, PlainNode, inner_node, leaf_node, PlainNodes, nodes_list, PlainArchive}
use Rattle.archive_tree.specs.Stands.{ArchiveOf}
use Rattle.archive_tree.specs.View.{node_view, nodes_view}
use Rattle.archive_tree.specs.declared.node.ANode.{ANode}
use Rattle.archive_tree.proofs.OneArchive.{one_archive}
use Rattle.record_format.specs.Data.{PlainEntry, PlainDir, inner_rec, leaf_rec, end_rec, leaf_end}
use Rattle.record_format.specs.Spelling.{dir_bytes, rec_bytes}
use Rattle.record_format.specs.Nodes.{Piece, piece_bytes, entries_from, dir_of, closed_by_end, alt_of, set_in, node_piece, node_pieces}
use Rattle.record_format.specs.Files.{file_bytes, longest, HasFile, FileOf}
use Rattle.record_parts.specs.Bounds.{IsLabel}
use Rattle.archive_file.specs.Goes.{row_goes, HasBody, HasParts, HaveParts}
use Rattle.archive_file.proofs.FileLaws.{closed-bytes, one-record, entries-more, pieces-map, file-goes}

pub on-ok : {X E P Q : Type 0} (r : Result X E) → (P → Q) → OnOk r P → OnOk r Q
on-ok (Ok x) f h = f h
on-ok (Err e) f h = tt

pub if-ok : {X E : Type 0} {P Q : X → Type 0} (r : Result X E) → ((x : X) → P x → Q x) → IfOk r P → IfOk r Q
if-ok (Ok x) f h = f x h
if-ok (Err e) f h = tt

pub view-length : (xs : List ANode) → length (nodes_list (nodes_view xs)) ≡ length xs
view-length [] = refl
view-length (x ∷ xs) = ap suc (view-length xs)

pub inner-parts : (n : PlainNode) (l : PlainLabel) (s : Stamp) (xs : List ANode) → n ≡ inner_node l s (nodes_view xs) → HasParts n → (length xs < 2 ^ 32) × HaveParts (nodes_view xs)
inner-parts n l s xs e h =
    let parts : HasParts (inner_node l s (nodes_view xs)) = subst HasParts e h in
    let same = view-length xs in
    let few = parts.1 in
    (omega arith, parts.2)

pub inner-label : (n : PlainNode) (l : PlainLabel) (s : Stamp) (ks : PlainNodes) → n ≡ inner_node l s ks → HasParts n → IsLabel l
inner-label n l s ks e h =
    let parts : HasParts (inner_node l s ks) = subst HasParts e h in
    parts.0

pub leaf-parts : (n : PlainNode) (l : PlainLabel) (s : Stamp) (xs : List PlainAlt) → n ≡ leaf_node l s xs → HasParts n → IsLabel l × AllByRecursion HasBody xs
leaf-parts n l s xs e h = subst HasParts e h

pub set_in-is : (s : Stamp) (parent : List (ℕ × ℕ)) → unwrap_or s parent ≡ set_in s parent
set_in-is None parent = refl
set_in-is (Some s) parent = refl

pub inner-bytes : (old one two : List ℕ) (parent set : List (ℕ × ℕ)) (n : PlainNode) (l : PlainLabel) (s : Stamp) (ks : PlainNodes) → n ≡ inner_node l s ks → set ≡ unwrap_or s parent → one ≡ old ++ rec_bytes (inner_rec l s)
    → two ≡ one ++ flat_map rec_bytes (closed_by_end (node_pieces set ks)) → two ≡ old ++ piece_bytes (node_piece parent n)
inner-bytes old one two parent set n l s ks e f g h =
    let row = λ (z : List (ℕ × ℕ)). flat_map rec_bytes (closed_by_end (node_pieces z ks)) in
    h ∙ ap (λ (z : List (ℕ × ℕ)). one ++ row z) (f ∙ set_in-is s parent) ∙ ap (λ (z : List ℕ). z ++ row (set_in s parent)) g
    ∙ append_assoc old (rec_bytes (inner_rec l s)) (row (set_in s parent)) ∙ ap (λ (k : PlainNode). old ++ piece_bytes (node_piece parent k)) (sym e)

pub inner-dir : (d : ℕ) (parent set : List (ℕ × ℕ)) (n : PlainNode) (l : PlainLabel) (s : Stamp) (ks : PlainNodes) → n ≡ inner_node l s ks → set ≡ unwrap_or s parent
    → d ≡ length (dir_bytes (dir_of (node_pieces set ks))) → d ≡ (node_piece parent n).dir
inner-dir d parent set n l s ks e f g =
    g ∙ ap (λ (z : List (ℕ × ℕ)). length (dir_bytes (dir_of (node_pieces z ks)))) (f ∙ set_in-is s parent) ∙ ap (λ (k : PlainNode). (node_piece parent k).dir) (sym e)

pub leaf-bytes : (old one two three : List ℕ) (parent : List (ℕ × ℕ)) (n : PlainNode) (l : PlainLabel) (s : Stamp) (xs : List PlainAlt) → n ≡ leaf_node l s xs → one ≡ old ++ rec_bytes (leaf_rec l s) → two ≡ one ++ flat_map rec_bytes (map alt_of xs)
    → three ≡ two ++ rec_bytes leaf_end → three ≡ old ++ piece_bytes (node_piece parent n)
leaf-bytes old one two three parent n l s xs e f g h =
    let alts = flat_map rec_bytes (map alt_of xs) in
    let end = rec_bytes leaf_end in
    let both = alts ++ end in
    let tail : flat_map rec_bytes (map alt_of xs ++ leaf_end ∷ []) ≡ both = flat_map-append rec_bytes (map alt_of xs) (leaf_end ∷ []) ∙ ap (λ (z : List ℕ). alts ++ z) (one-record leaf_end) in
    h ∙ ap (λ (z : List ℕ). z ++ end) g ∙ append_assoc one alts end ∙ ap (λ (z : List ℕ). z ++ both) f ∙ append_assoc old (rec_bytes (leaf_rec l s)) both
    ∙ ap (λ (z : List ℕ). old ++ (rec_bytes (leaf_rec l s) ++ z)) (sym tail) ∙ ap (λ (k : PlainNode). old ++ piece_bytes (node_piece parent k)) (sym e)

pub leaf-dir : (parent : List (ℕ × ℕ)) (n : PlainNode) (l : PlainLabel) (s : Stamp) (xs : List PlainAlt) → n ≡ leaf_node l s xs → 0 ≡ (node_piece parent n).dir
leaf-dir parent n l s xs e = ap (λ (k : PlainNode). (node_piece parent k).dir) (sym e)

pub row-dir : (one two : List ℕ) (m n : ℕ) (ps : List Piece) (d : PlainDir) → d ≡ dir_of ps → two ≡ one ++ rec_bytes (end_rec d) → m ≡ length two → n ≡ length one → m - n - 9 ≡ length (dir_bytes (dir_of ps))
row-dir one two m n ps d f g long short =
    let size : m - n - 9 ≡ length (dir_bytes d) = omega (arith, ap length g, length-append one (rec_bytes (end_rec d))) in
    size ∙ ap (λ (z : PlainDir). length (dir_bytes z)) f

pub row-bytes : (old one two : List ℕ) (ps : List Piece) (d : PlainDir) → one ≡ old ++ flat_map piece_bytes ps → d ≡ dir_of ps → two ≡ one ++ rec_bytes (end_rec d) → two ≡ old ++ flat_map rec_bytes (closed_by_end ps)
row-bytes old one two ps d e f g =
    let end = rec_bytes (end_rec (dir_of ps)) in
    g ∙ ap (λ (z : PlainDir). one ++ rec_bytes (end_rec z)) f ∙ ap (λ (z : List ℕ). z ++ end) e ∙ append_assoc old (flat_map piece_bytes ps) end ∙ ap (λ (z : List ℕ). old ++ z) (sym (closed-bytes ps))

-- ---- one more node

module _ {X : Type 0} (f : X → Piece) (xs : List X) (i : ℕ) (x : X) (here : i < length xs) (is : x ≡ get_or xs i x) where
  pub more-wrote : (old cur new : List ℕ) → cur ≡ old ++ flat_map piece_bytes (map f (take i xs)) → new ≡ cur ++ piece_bytes (f x) → new ≡ old ++ flat_map piece_bytes (map f (take (i + 1) xs))
  more-wrote old cur new e g =
      let ps = map f (take i xs) in
      let one : flat_map piece_bytes (f x ∷ []) ≡ piece_bytes (f x) = append-nil (piece_bytes (f x)) in
      g ∙ ap (λ (z : List ℕ). z ++ piece_bytes (f x)) e ∙ append_assoc old (flat_map piece_bytes ps) (piece_bytes (f x))
      ∙ ap (λ (z : List ℕ). old ++ (flat_map piece_bytes ps ++ z)) (sym one) ∙ ap (λ (z : List ℕ). old ++ z) (sym (flat_map-append piece_bytes ps (f x ∷ [])))
      ∙ ap (λ (qs : List Piece). old ++ flat_map piece_bytes qs) (sym (map-take f xs i x here is))

  pub more-entries : (old cur new : List ℕ) (base dir : ℕ) (es : List PlainEntry) (entry : PlainEntry) → cur ≡ old ++ flat_map piece_bytes (map f (take i xs)) → new ≡ cur ++ piece_bytes (f x) → base ≡ length old → dir ≡ (f x).dir
      → es ≡ entries_from 0 (map f (take i xs)) → entry ≡ record { start = length cur - base; length = length new - length cur; dir = dir } → es ++ entry ∷ [] ≡ entries_from 0 (map f (take (i + 1) xs))
  more-entries old cur new base dir es entry e g b d h k =
      let ps = map f (take i xs) in
      let at : length cur - base ≡ 0 + length (flat_map piece_bytes ps) = omega (arith, ap length e, length-append old (flat_map piece_bytes ps)) in
      let long : length new - length cur ≡ length (piece_bytes (f x)) = omega (arith, ap length g, length-append cur (piece_bytes (f x))) in
      let same : entry ≡ record { start = 0 + length (flat_map piece_bytes ps); length = length (piece_bytes (f x)); dir = (f x).dir } = k ∙ (λ i. record { start = at i; length = long i; dir = d i }) in
      ap (λ (z : List PlainEntry). z ++ entry ∷ []) h ∙ ap (λ (z : PlainEntry). entries_from 0 ps ++ z ∷ []) same ∙ sym (entries-more 0 ps (f x)) ∙ ap (entries_from 0) (sym (map-take f xs i x here is))

  pub more-sets : (ss : List (List (ℕ × ℕ))) (set : List (ℕ × ℕ)) → ss ≡ map (λ (p : Piece). p.set) (map f (take i xs)) → set ≡ (f x).set → ss ++ set ∷ [] ≡ map (λ (p : Piece). p.set) (map f (take (i + 1) xs))
  more-sets ss set e g =
      let ps = map f (take i xs) in
      ap (λ (z : List (List (ℕ × ℕ))). z ++ set ∷ []) e ∙ ap (λ (z : List (ℕ × ℕ)). map (λ (p : Piece). p.set) ps ++ z ∷ []) g ∙ sym (map-append (λ (p : Piece). p.set) ps (f x ∷ []))
      ∙ ap (map (λ (p : Piece). p.set)) (sym (map-take f xs i x here is))

pub parts-on : (xs : List ANode) (i : ℕ) (x : ANode) → i < length xs → HaveParts (nodes_view (drop i xs)) → HaveParts (nodes_view (drop (i + 1) xs))
parts-on xs i x here h =
    let next : suc i ≡ i + 1 = omega arith in
    let cons : drop i xs ≡ get_or xs i x ∷ drop (i + 1) xs = drop-cons xs i x here ∙ ap (λ (k : ℕ). get_or xs i x ∷ drop k xs) next in
    let both : HaveParts (nodes_view (get_or xs i x ∷ drop (i + 1) xs)) = subst (λ (ys : List ANode). HaveParts (nodes_view ys)) cons h in
    both.1

pub count-on : {X : Type 0} (xs ys : List X) (x : X) (i : ℕ) → ys ≡ xs ++ x ∷ [] → length xs ≡ i → length ys ≡ i + 1
count-on xs ys x i e h = omega (arith, ap length e, length-append xs (x ∷ []))

-- the pieces of all nodes
pub all-pieces : (set : List (ℕ × ℕ)) (xs : List ANode) (i : ℕ) → length xs ≤ i → map (λ (k : ANode). node_piece set (node_view k)) (take i xs) ≡ node_pieces set (nodes_view xs)
all-pieces set xs i h = ap (map (λ (k : ANode). node_piece set (node_view k))) (take_all i xs h) ∙ sym (pieces-map set xs)

-- ---- files

-- the file of the versions is that of their archive
pub the-file : (rules : List PlainRule) (a : PlainArchive) (vs : List PlainKeyed) (bytes : List ℕ) → ArchiveOf vs a → FileOf rules vs bytes → HasFile rules a × (bytes ≡ file_bytes rules a)
the-file rules a vs bytes at f =
    let same : f.archive ≡ a = one_archive vs f.archive a f.is at in
    (subst (HasFile rules) same f.has, f.spelled ∙ ap (file_bytes rules) same)

pub none-goes : (rules : List PlainRule) (a : PlainArchive) (vs : List PlainKeyed) (bytes : List ℕ) → ArchiveOf vs a → row_goes a.kids ≡ false → ¬ (FileOf rules vs bytes)
none-goes rules a vs bytes at e f = true≢false (sym (file-goes rules a (the-file rules a vs bytes at f).0) ∙ e)

pub none-short : (rules : List PlainRule) (a : PlainArchive) (vs : List PlainKeyed) (bytes out : List ℕ) → ArchiveOf vs a → out ≡ file_bytes rules a → longest < length out → ¬ (FileOf rules vs bytes)
none-short rules a vs bytes out at e long f = (let short = (the-file rules a vs bytes at f).0.short in omega (arith, ap length e))
