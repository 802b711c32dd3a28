-- Parts of rows: their nodes, and the trees over their sets.
use Rattle.std.proofs.Common.{◌≡◌, ℕ, zero, suc, ◌+◌, ◌≤◌, ◌<◌, ◌&&◌, ◌||◌, Bool, true, false, not, List, [], ◌∷◌, ◌++◌, length, map, take, drop, IsTrue, Some, None, ◌==◌, refl, sym, ap, subst, ◌∙◌, arith, if◌then◌else◌}
use Rattle.std.specs.List.{flat_map, slice_get, AllByRecursion}
use Rattle.std.proofs.lemmas.List.{map-append, length-take, length-drop}
use Rattle.std.proofs.lemmas.Bool.Decides.{nat_tests}
use Rattle.version_set.specs.Members.{members, has, upto_pairs}
use Rattle.version_set.proofs.Moves.{ends_in}
use Rattle.version_set.specs.Pairs.{IsCanonical}
use Rattle.keyed_tree.specs.Data.{PlainKeyed, label_of}
use Rattle.keyed_tree.specs.Proper.{is_tag}
use Rattle.archive_tree.specs.Data.{Stamp, PlainNode, inner_node, leaf_node, nodes_from}
use Rattle.archive_tree.specs.Read.{read}
use Rattle.timestamp_tree.specs.Data.{PlainTs, leaf, node, top}
use Rattle.timestamp_tree.specs.Search.{visits}
use Rattle.timestamp_tree.specs.Tree.{half, joined, tree_of}
use Rattle.timestamp_tree.proofs.Trees.{some_has, top_has, tree_is, joined_tree, leaves-tree_of, IsTree-tree_of}
use Rattle.record_parts.specs.Bounds.{IsSet, IsStamp}
use Rattle.record_format.specs.Bounds.{IsRec, IsDir}
use Rattle.record_format.specs.Data.{end_rec}
use Rattle.record_format.specs.Nested.{are_nested, is_nested}
use Rattle.record_format.specs.Nodes.{Piece, dir_of, closed_by_end, node_piece, node_pieces, set_in}
use Rattle.record_format.specs.Seen.{node_steps}
use Rattle.record_format.proofs.Pieces.{all-front, all-back}
use Rattle.file_get.specs.Kids.{IsFilled, set_of, has_at, finds, all_find, kids_in, item_behind, kid_fits, kids_fit, nodes_seen, nodes_steps}
use Rattle.file_get.specs.Looked.{tree_over, own_read}
use Rattle.file_get.proofs.RowLists.{piece-set}
use Rattle.file_get.specs.Searched.{inner_read, tree_read}

-- ---- pieces

pub pieces-map : (parent : List (ℕ × ℕ)) (ks : List PlainNode) → node_pieces parent (nodes_from ks) ≡ map (node_piece parent) ks
pieces-map parent [] = refl
pieces-map parent (k ∷ ks) = ap (λ (ps : List Piece). node_piece parent k ∷ ps) (pieces-map parent ks)

pub piece-at : (parent : List (ℕ × ℕ)) (front : List PlainNode) (k : PlainNode) (behind : List PlainNode) → slice_get (node_pieces parent (nodes_from (front ++ (k ∷ behind)))) (length front) ≡ Some (node_piece parent k)
piece-at parent [] k behind = refl
piece-at parent (j ∷ front) k behind = piece-at parent front k behind

pub piece-records : (parent : List (ℕ × ℕ)) (front : List PlainNode) (k : PlainNode) (behind : List PlainNode) → AllByRecursion IsRec (flat_map (λ (p : Piece). p.records) (node_pieces parent (nodes_from (front ++ (k ∷ behind))))) → AllByRecursion IsRec (node_piece parent k).records
piece-records parent [] k behind h = all-front IsRec (node_piece parent k).records (flat_map (λ (p : Piece). p.records) (node_pieces parent (nodes_from behind))) h
piece-records parent (j ∷ front) k behind h = piece-records parent front k behind (all-back IsRec (node_piece parent j).records (flat_map (λ (p : Piece). p.records) (node_pieces parent (nodes_from (front ++ (k ∷ behind))))) h)

and-first : (a b : Bool) → IsTrue (a && b) → IsTrue a
and-first true b e = refl
and-first false b e = absurd cc

and-last : (a b : Bool) → IsTrue (a && b) → IsTrue b
and-last true b e = e
and-last false b e = absurd cc

pub nested-at : (d : ℕ) (front : List PlainNode) (k : PlainNode) (behind : List PlainNode) → IsTrue (are_nested d (nodes_from (front ++ (k ∷ behind)))) → IsTrue (is_nested d k)
nested-at d [] k behind h = and-first (is_nested d k) (are_nested d (nodes_from behind)) h
nested-at d (j ∷ front) k behind h = nested-at d front k behind (and-last (is_nested d j) (are_nested d (nodes_from (front ++ (k ∷ behind)))) h)

-- the directory of a row
pub dir-is : (ps : List Piece) → AllByRecursion IsRec (closed_by_end ps) → IsDir (dir_of ps)
dir-is ps h = (let last = all-back IsRec (flat_map (λ (p : Piece). p.records) ps) (end_rec (dir_of ps) ∷ []) h in let r = last.0 in r.body)

pub rows-sets : (parent : List (ℕ × ℕ)) (ks : List PlainNode) → map (λ (p : Piece). p.set) (node_pieces parent (nodes_from ks)) ≡ map (set_of parent) ks
rows-sets parent [] = refl
rows-sets parent (k ∷ ks) = (λ j. piece-set parent k j ∷ rows-sets parent ks j)

pub part-sets : (P : List (ℕ × ℕ) → Type 0) (parent : List (ℕ × ℕ)) (front ks behind : List PlainNode) → AllByRecursion P (map (set_of parent) (front ++ (ks ++ behind))) → AllByRecursion P (map (set_of parent) ks)
part-sets P parent front ks behind h =
    all-front P (map (set_of parent) ks) (map (set_of parent) behind)
    (subst (AllByRecursion P) (map-append (set_of parent) ks behind) (all-back P (map (set_of parent) front) (map (set_of parent) (ks ++ behind)) (subst (AllByRecursion P) (map-append (set_of parent) front (ks ++ behind)) h)))

-- ---- sets that are not empty

pub has-filled : (i : ℕ) (s : List (ℕ × ℕ)) → has (members s) i ≡ true → IsFilled s
has-filled i [] e = absurd cc
has-filled i (p ∷ ps) e = omega arith

pub upto-filled : (n : ℕ) → 1 ≤ n → IsFilled (upto_pairs n)
upto-filled n some = (let no : (n == 0) ≡ false = grind (arith, nat_tests) in subst (λ (b : Bool). IsFilled (if b then [] else (1, n) ∷ [])) (sym no) (omega arith))

stamp-filled : (s : Stamp) (parent : List (ℕ × ℕ)) → IsStamp s → IsFilled parent → IsFilled (set_in s parent)
stamp-filled None parent is filled = filled
stamp-filled (Some []) parent is filled = absurd (is.1 refl)
stamp-filled (Some (p ∷ ps)) parent is filled = omega arith

node-filled : (parent : List (ℕ × ℕ)) (k : PlainNode) → AllByRecursion IsRec (node_piece parent k).records → IsFilled parent → IsFilled (set_of parent k)
node-filled parent (inner_node l s ks) h filled = (let r = h.0 in let b = r.body in stamp-filled s parent b.1 filled)
node-filled parent (leaf_node l s xs) h filled = (let r = h.0 in let b = r.body in stamp-filled s parent b.1 filled)

nodes-filled : (parent : List (ℕ × ℕ)) (ks : List PlainNode) → AllByRecursion IsRec (flat_map (λ (p : Piece). p.records) (node_pieces parent (nodes_from ks))) → IsFilled parent → AllByRecursion IsFilled (map (set_of parent) ks)
nodes-filled parent [] h filled = tt
nodes-filled parent (k ∷ ks) h filled =
    let rest = flat_map (λ (p : Piece). p.records) (node_pieces parent (nodes_from ks)) in
    (node-filled parent k (all-front IsRec (node_piece parent k).records rest h) filled, nodes-filled parent ks (all-back IsRec (node_piece parent k).records rest h) filled)

-- no node of a row has an empty set
pub rows-filled : (parent : List (ℕ × ℕ)) (ks : List PlainNode) → AllByRecursion IsRec (closed_by_end (node_pieces parent (nodes_from ks))) → IsFilled parent → AllByRecursion IsFilled (map (set_of parent) ks)
rows-filled parent ks h filled =
    let ps = node_pieces parent (nodes_from ks) in
    nodes-filled parent ks (all-front IsRec (flat_map (λ (p : Piece). p.records) ps) (end_rec (dir_of ps) ∷ []) h) filled

first-has : (s : List (ℕ × ℕ)) → IsCanonical s → IsFilled s → (i : ℕ) × (has (members s) i ≡ true)
first-has [] is filled = absurd (omega (arith, filled))
first-has (p ∷ ps) is filled = (p.0, (ends_in 1 (p ∷ ps) 0 p is (omega arith)).0)

-- the set of a tree over such sets is not empty
pub top-filled : (sets : List (List (ℕ × ℕ))) → 1 ≤ length sets → AllByRecursion IsCanonical sets → AllByRecursion IsFilled sets → IsFilled (top (tree_of sets))
top-filled [] some is filled = absurd (omega (arith, some))
top-filled (s ∷ sets) some is filled =
    let first = first-has s is.0 filled.0 in
    let found : some_has (s ∷ sets) first.0 ≡ true = ap (λ (b : Bool). b || some_has sets first.0) first.1 in
    has-filled first.0 (top (tree_of (s ∷ sets)))
    (top_has (tree_of (s ∷ sets)) first.0 (IsTree-tree_of (s ∷ sets) some is) ∙ ap (λ (ss : List (List (ℕ × ℕ))). some_has ss first.0) (leaves-tree_of (s ∷ sets) some) ∙ found)

-- ---- what a version has in two parts

if-append : (b : Bool) (k : PlainKeyed) (xs ys : List PlainKeyed) → (if b then k ∷ (xs ++ ys) else (xs ++ ys)) ≡ (if b then k ∷ xs else xs) ++ ys
if-append true k xs ys = refl
if-append false k xs ys = refl

pub kids-append : (i : ℕ) (parent : List (ℕ × ℕ)) (xs ys : List PlainNode) → kids_in i parent (xs ++ ys) ≡ kids_in i parent xs ++ kids_in i parent ys
kids-append i parent [] ys = refl
kids-append i parent (k ∷ xs) ys =
    ap (λ (js : List PlainKeyed). if has_at i parent k then read i (members parent) k ∷ js else js) (kids-append i parent xs ys) ∙ if-append (has_at i parent k) (read i (members parent) k) (kids_in i parent xs) (kids_in i parent ys)

pub item-append : (h : Bool) (xs ys : List PlainKeyed) → item_behind h (xs ++ ys) ≡ item_behind (item_behind h xs) ys
item-append h [] ys = refl
item-append h (k ∷ xs) ys = item-append (h || is_tag (label_of k).name) xs ys

pub fit-front : (within h : Bool) (xs ys : List PlainKeyed) → IsTrue (kids_fit within h (xs ++ ys)) → IsTrue (kids_fit within h xs)
fit-front within h [] ys e = refl
fit-front within h (k ∷ xs) ys e =
    both (kid_fits within h k) (kids_fit within (h || is_tag (label_of k).name) xs) (and-first (kid_fits within h k) (kids_fit within (h || is_tag (label_of k).name) (xs ++ ys)) e)
    (fit-front within (h || is_tag (label_of k).name) xs ys (and-last (kid_fits within h k) (kids_fit within (h || is_tag (label_of k).name) (xs ++ ys)) e))
  where
    both : (a b : Bool) → IsTrue a → IsTrue b → IsTrue (a && b)
    both true b e f = f
    both false b e f = absurd cc

pub fit-back : (within h : Bool) (xs ys : List PlainKeyed) → IsTrue (kids_fit within h (xs ++ ys)) → IsTrue (kids_fit within (item_behind h xs) ys)
fit-back within h [] ys e = e
fit-back within h (k ∷ xs) ys e = fit-back within (h || is_tag (label_of k).name) xs ys (and-last (kid_fits within h k) (kids_fit within (h || is_tag (label_of k).name) (xs ++ ys)) e)

and-true : (a b : Bool) → (a && b) ≡ true → (a ≡ true) × (b ≡ true)
and-true true b e = (refl, e)
and-true false b e = absurd cc

pub find-front : (i : ℕ) (parent : List (ℕ × ℕ)) (xs ys : List PlainNode) → all_find i parent (xs ++ ys) ≡ true → all_find i parent xs ≡ true
find-front i parent [] ys e = refl
find-front i parent (k ∷ xs) ys e = (
    let both = and-true (not (has_at i parent k) || finds i parent k) (all_find i parent (xs ++ ys)) e in
    (λ j. both.0 j && find-front i parent xs ys both.1 j))

pub find-back : (i : ℕ) (parent : List (ℕ × ℕ)) (xs ys : List PlainNode) → all_find i parent (xs ++ ys) ≡ true → all_find i parent ys ≡ true
find-back i parent [] ys e = e
find-back i parent (k ∷ xs) ys e = find-back i parent xs ys (and-true (not (has_at i parent k) || finds i parent k) (all_find i parent (xs ++ ys)) e).1

pub seen-append : (i : ℕ) (parent : List (ℕ × ℕ)) (xs ys : List PlainNode) → nodes_seen i parent (xs ++ ys) ≡ nodes_seen i parent xs + nodes_seen i parent ys
seen-append i parent [] ys = omega arith
seen-append i parent (k ∷ xs) ys = omega (arith, seen-append i parent xs ys)

pub steps-append : (i : ℕ) (parent : List (ℕ × ℕ)) (xs ys : List PlainNode) → nodes_steps i parent (xs ++ ys) ≡ nodes_steps i parent xs + nodes_steps i parent ys
steps-append i parent [] ys = omega arith
steps-append i parent (k ∷ xs) ys = omega (arith, steps-append i parent xs ys)

-- ---- one child

pub find-one : (i : ℕ) (parent : List (ℕ × ℕ)) (k : PlainNode) → has_at i parent k ≡ true → all_find i parent (k ∷ []) ≡ true → finds i parent k ≡ true
find-one i parent k e f = clear (has_at i parent k) (finds i parent k) e (and-true (not (has_at i parent k) || finds i parent k) true f).0
  where
    clear : (a b : Bool) → a ≡ true → (not a || b) ≡ true → b ≡ true
    clear true b e f = f
    clear false b e f = absurd cc

pub kids-one : (i : ℕ) (parent : List (ℕ × ℕ)) (k : PlainNode) → has_at i parent k ≡ true → kids_in i parent (k ∷ []) ≡ read i (members parent) k ∷ []
kids-one i parent k e = ap (λ (b : Bool). if b then read i (members parent) k ∷ [] else []) e

pub fit-one : (i : ℕ) (parent : List (ℕ × ℕ)) (within h : Bool) (k : PlainNode) → has_at i parent k ≡ true → IsTrue (kids_fit within h (kids_in i parent (k ∷ []))) → IsTrue (kid_fits within h (read i (members parent) k))
fit-one i parent within h k e f = and-first (kid_fits within h (read i (members parent) k)) true (subst (λ (ks : List PlainKeyed). IsTrue (kids_fit within h ks)) (kids-one i parent k e) f)

-- ---- halves

all-front-n : {X : Type 0} (P : X → Type 0) (n : ℕ) (xs : List X) → AllByRecursion P xs → AllByRecursion P (take n xs)
all-front-n P zero xs h = tt
all-front-n P (suc n) [] h = tt
all-front-n P (suc n) (x ∷ xs) h = (h.0, all-front-n P n xs h.1)

all-back-n : {X : Type 0} (P : X → Type 0) (n : ℕ) (xs : List X) → AllByRecursion P xs → AllByRecursion P (drop n xs)
all-back-n P zero xs h = h
all-back-n P (suc n) [] h = h
all-back-n P (suc n) (x ∷ xs) h = all-back-n P n xs h.1

pub canonical-of : (sets : List (List (ℕ × ℕ))) → AllByRecursion IsSet sets → AllByRecursion IsCanonical sets
canonical-of [] h = tt
canonical-of (s ∷ sets) h = (let first = h.0 in (first.canonical, canonical-of sets h.1))

map-take : {X Y : Type 0} (f : X → Y) (n : ℕ) (xs : List X) → map f (take n xs) ≡ take n (map f xs)
map-take f zero xs = refl
map-take f (suc n) [] = refl
map-take f (suc n) (x ∷ xs) = ap (λ ys. f x ∷ ys) (map-take f n xs)

map-drop : {X Y : Type 0} (f : X → Y) (n : ℕ) (xs : List X) → map f (drop n xs) ≡ drop n (map f xs)
map-drop f zero xs = refl
map-drop f (suc n) [] = refl
map-drop f (suc n) (x ∷ xs) = map-drop f n xs

length-map-is : {X Y : Type 0} (f : X → Y) (xs : List X) → length (map f xs) ≡ length xs
length-map-is f [] = refl
length-map-is f (x ∷ xs) = ap (λ n. suc n) (length-map-is f xs)

-- the tree over two sets or more has the trees over both halves as its parts
pub tree-split : (sets : List (List (ℕ × ℕ))) → 1 < length sets → AllByRecursion IsCanonical sets → tree_of sets ≡ joined (tree_of (take (half (length sets)) sets)) (tree_of (drop (half (length sets)) sets))
tree-split sets many h =
    let k = half (length sets) in
    let front = length-take k sets in
    let back = length-drop k sets in
    let left = take k sets in
    let right = drop k sets in
    let l = IsTree-tree_of left (omega (arith, many, front)) (all-front-n IsCanonical k sets h) in
    let r = IsTree-tree_of right (omega (arith, many, back)) (all-back-n IsCanonical k sets h) in
    let both = joined_tree (tree_of left) (tree_of right) sets many l r (leaves-tree_of left (omega (arith, many, front))) (leaves-tree_of right (omega (arith, many, back))) in
    sym (tree_is (joined (tree_of left) (tree_of right)) both.0 ∙ ap tree_of both.1)

-- the same of nodes
pub nodes-split : (parent : List (ℕ × ℕ)) (ks : List PlainNode) → 1 < length ks → AllByRecursion IsSet (map (set_of parent) ks) → tree_over parent ks ≡ joined (tree_over parent (take (half (length ks)) ks)) (tree_over parent (drop (half (length ks)) ks))
nodes-split parent ks many h =
    let sets = map (set_of parent) ks in
    let same : length sets ≡ length ks = length-map-is (set_of parent) ks in
    tree-split sets (omega (arith, many, same)) (canonical-of sets h)
    ∙ ap (λ (n : ℕ). joined (tree_of (take (half n) sets)) (tree_of (drop (half n) sets))) same
    ∙ (λ j. joined (tree_of (sym (map-take (set_of parent) (half (length ks)) ks) j)) (tree_of (sym (map-drop (set_of parent) (half (length ks)) ks) j)))

neither : (a b : Bool) → (a || b) ≡ false → (a ≡ false) × (b ≡ false)
neither true b e = absurd cc
neither false b e = (refl, e)

-- no node of a part has i where the top of their tree lacks it
lacks-each : (i : ℕ) (parent : List (ℕ × ℕ)) (ks : List PlainNode) → some_has (map (set_of parent) ks) i ≡ false → kids_in i parent ks ≡ []
lacks-each i parent [] e = refl
lacks-each i parent (k ∷ ks) e =
    let both = neither (has_at i parent k) (some_has (map (set_of parent) ks) i) e in
    ap (λ (b : Bool). if b then read i (members parent) k ∷ kids_in i parent ks else kids_in i parent ks) both.0 ∙ lacks-each i parent ks both.1

-- and so none is stepped into
idle-each : (i : ℕ) (parent : List (ℕ × ℕ)) (ks : List PlainNode) → some_has (map (set_of parent) ks) i ≡ false → nodes_steps i parent ks ≡ 0
idle-each i parent [] e = refl
idle-each i parent (k ∷ ks) e =
    let both = neither (has_at i parent k) (some_has (map (set_of parent) ks) i) e in
    let one : (if has_at i parent k then node_steps i parent k else 0) ≡ 0 = ap (λ (b : Bool). if b then node_steps i parent k else 0) both.0 in
    let rest = idle-each i parent ks both.1 in
    omega (arith, one, rest)

pub top-leaves : (i : ℕ) (parent : List (ℕ × ℕ)) (ks : List PlainNode) → 1 ≤ length ks → AllByRecursion IsSet (map (set_of parent) ks) → has (members (top (tree_over parent ks))) i ≡ some_has (map (set_of parent) ks) i
top-leaves i parent ks some h =
    let sets = map (set_of parent) ks in
    let same : length sets ≡ length ks = length-map-is (set_of parent) ks in
    top_has (tree_of sets) i (IsTree-tree_of sets (omega (arith, some, same)) (canonical-of sets h)) ∙ ap (λ (ss : List (List (ℕ × ℕ))). some_has ss i) (leaves-tree_of sets (omega (arith, some, same)))

pub lacks-none : (i : ℕ) (parent : List (ℕ × ℕ)) (ks : List PlainNode) → 1 ≤ length ks → AllByRecursion IsSet (map (set_of parent) ks) → has (members (top (tree_over parent ks))) i ≡ false → kids_in i parent ks ≡ []
lacks-none i parent ks some h e = lacks-each i parent ks (sym (top-leaves i parent ks some h) ∙ e)

pub lacks-idle : (i : ℕ) (parent : List (ℕ × ℕ)) (ks : List PlainNode) → 1 ≤ length ks → AllByRecursion IsSet (map (set_of parent) ks) → has (members (top (tree_over parent ks))) i ≡ false → nodes_steps i parent ks ≡ 0
lacks-idle i parent ks some h e = idle-each i parent ks (sym (top-leaves i parent ks some h) ∙ e)

-- ---- what a node of a tree takes

-- of a node that lacks i, no part is visited
pub lacks-visits : (t : PlainTs) (i : ℕ) → has (members (top t)) i ≡ false → visits t i ≡ 1
lacks-visits (leaf s) i e = refl
lacks-visits (node s n l r) i e = ap (λ (b : Bool). if b then 1 + visits l i + visits r i else 1) e

pub own-visited : (t : PlainTs) (i : ℕ) → own_read t ≤ tree_read t i
own-visited (leaf s) i = omega arith
own-visited (node s n l r) i = both (has (members s) i) (inner_read (length s)) (tree_read l i) (tree_read r i)
  where
    both : (b : Bool) (x y z : ℕ) → x ≤ (if b then x + y + z else x)
    both true x y z = omega arith
    both false x y z = omega arith

pub some-visits : (t : PlainTs) (i : ℕ) → 1 ≤ visits t i
some-visits (leaf s) i = omega arith
some-visits (node s n l r) i = both (has (members s) i) (visits l i) (visits r i)
  where
    both : (b : Bool) (y z : ℕ) → 1 ≤ (if b then 1 + y + z else 1)
    both true y z = omega arith
    both false y z = omega arith

-- of a node that has i, both parts are visited
pub joined-visited : (l r : PlainTs) (i : ℕ) → has (members (top (joined l r))) i ≡ true → own_read (joined l r) + (tree_read l i + tree_read r i) ≡ tree_read (joined l r) i
joined-visited l r i e = rw e (omega arith)

pub joined-visits : (l r : PlainTs) (i : ℕ) → has (members (top (joined l r))) i ≡ true → 1 + (visits l i + visits r i) ≡ visits (joined l r) i
joined-visits l r i e = rw e (omega arith)
