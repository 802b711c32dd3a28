-- Indexes of rows, and the places that they tell.
use Rattle.std.proofs.Common.{◌≡◌, ◌∙◌, ◌≤◌, ◌<◌, ◌+◌, ℕ, zero, suc, true, false, cond, IsTrue, List, [], ◌∷◌, ◌++◌, length, map, drop, slice_get, get_or, Option, None, Some, IfSome, Bor, refl, ap, sym, subst, append_assoc, length-append, drop-cons, add-one, rules, arith}
use Rattle.std.proofs.lemmas.List.{map-append}
use Rattle.std.specs.List.{AllByRecursion, range_with_len}
use Rattle.std.specs.Option.{option_copied, option_map, option_to_list, unwrap_or}
use Rattle.version_set.specs.Members.{has, members}
use Rattle.version_set.specs.declared.limits.TheConstants.{GREATEST_NUMBER}
use Rattle.jsonml_tree.specs.Data.{PlainTree, null}
use Rattle.keyed_tree.specs.Data.{PlainLabel, kid, scalar}
use Rattle.keyed_tree.specs.Plain.{plain}
use Rattle.timestamp_tree.specs.Data.{PlainTs, leaves}
use Rattle.timestamp_tree.specs.Search.{answers, answers_from}
use Rattle.timestamp_tree.specs.View.{ts_view}
use Rattle.timestamp_tree.specs.declared.tree.TsTree.{TsTree}
use Rattle.archive_tree.specs.Data.{Stamp, PlainAlt, PlainNode, PlainNodes, inner_node, leaf_node, node_stamp, nodes_from, nodes_list}
use Rattle.archive_tree.specs.Read.{body_at, read, read_root, read_row}
use Rattle.archive_tree.specs.View.{node_view, nodes_view}
use Rattle.archive_tree.specs.declared.node.ANode.{ANode}
use Rattle.archive_tree.proofs.Parts.{nodes_list-nodes_from}
use Rattle.archive_tree.proofs.Numbers.{Has-has, has_range}
use Rattle.archive_rekey.specs.Index.{PlainIndex, index, IsBelow, IsFull, IsIndex, IsLeafIndex, IsNodeIndex, IsOver, IsRowIndex, below_from, below_view, body_of, index_view, is_in, places, places_from}
use Rattle.archive_rekey.specs.declared.index.Index.{Index, out-Index, the_lemmas}
use Rattle.archive_rekey.proofs.Below.{has_itself}

-- ---- what a tree answers

same-set : (n : ℕ) (all : List (ℕ × ℕ)) (s : Stamp) → has (members all) n ≡ true → has (members (unwrap_or s all)) n ≡ is_in n s
same-set n all None h = h ∙ sym (has_itself n)
same-set n all (Some s) h = refl

answers-places : (n at : ℕ) (all : List (ℕ × ℕ)) (ss : List Stamp) → has (members all) n ≡ true → answers_from n at (map (λ s. unwrap_or s all) ss) ≡ places_from n at ss
answers-places n at all [] h = refl
answers-places n at all (s ∷ ss) h = (let rest = answers-places n (at + 1) all ss h in λ i. cond (same-set n all s h i) (at ∷ rest i) (rest i))

pub over-places : (t : PlainTs) (n : ℕ) (ss : List Stamp) → IsOver t ss → 1 ≤ n → n ≤ GREATEST_NUMBER → answers (leaves t) n ≡ places n ss
over-places t n ss o low high = ap (λ z. answers z n) o.is ∙ answers-places n 0 o.all ss (o.full n low high)

pub full-range : (m : ℕ) (ps : List (ℕ × ℕ)) → m ≡ GREATEST_NUMBER → members ps ≡ range_with_len 1 m → IsFull ps
full-range m ps e is = λ n low high. ap (λ ns. has ns n) is ∙ Has-has (range_with_len 1 m) n (has_range 1 m n low (omega (arith, high, e)))

-- ---- what stands at a place

view-is : (x : Index) → index_view x ≡ index (option_map ts_view (out-Index x).sets) (below_view (out-Index x).below.items)
view-is x = search (rules, the_lemmas)

pub below-of : (x : Index) (ss : List Stamp) (ks : List PlainNode) → IsIndex (index_view x) ss ks → IsBelow (below_view (out-Index x).below.items) ks
below-of x ss ks h = (let both : IsIndex (index (option_map ts_view (out-Index x).sets) (below_view (out-Index x).below.items)) ss ks = subst (λ z. IsIndex z ss ks) (view-is x) h in both.1)

-- the tree over the sets, where there is one
pub over-sets : (o : Option TsTree) (sets : List (List (ℕ × ℕ))) (all : List (ℕ × ℕ)) (ss : List Stamp) → IsFull all → sets ≡ map (λ s. unwrap_or s all) ss → IfSome o (λ t. leaves (ts_view t) ≡ sets) → IfSome o (λ t. IsOver (ts_view t) ss)
over-sets None sets all ss full e h = tt
over-sets (Some t) sets all ss full e h = record { all = all; full = full; is = h ∙ e }

-- the kids of an inner node
pub inner-index : (o : Option PlainIndex) (k : PlainNode) (l : PlainLabel) (s : Stamp) (ks : List PlainNode) → k ≡ inner_node l s (nodes_from ks) → IsRowIndex o ks → IsNodeIndex o k
inner-index o k l s ks e h = subst (IsNodeIndex o) (sym e) (subst (IsRowIndex o) (sym (nodes_list-nodes_from ks)) h)

pub inner-row : (o : Option PlainIndex) (k : PlainNode) (l : PlainLabel) (s : Stamp) (ks : List PlainNode) → k ≡ inner_node l s (nodes_from ks) → IsNodeIndex o k → IsRowIndex o ks
inner-row o k l s ks e h = (let inside : IsNodeIndex o (inner_node l s (nodes_from ks)) = subst (IsNodeIndex o) e h in subst (IsRowIndex o) (nodes_list-nodes_from ks) inside)

-- the kids of the virtual root
pub kids-index : (o : Option PlainIndex) (ks : List PlainNode) (kids : PlainNodes) → nodes_from ks ≡ kids → IsRowIndex o (nodes_list kids) → IsRowIndex o ks
kids-index o ks kids e h = subst (IsRowIndex o) (ap nodes_list (sym e) ∙ nodes_list-nodes_from ks) h

index-kids : (o : Option PlainIndex) (ks : List PlainNode) (kids : PlainNodes) → nodes_from ks ≡ kids → IsRowIndex o ks → IsRowIndex o (nodes_list kids)
index-kids o ks kids e h = subst (IsRowIndex o) (sym (nodes_list-nodes_from ks) ∙ ap nodes_list e) h

lent-is : (o : Option (Bor Index)) → option_map (λ x. index_view x.now) o ≡ option_map index_view (option_copied o)
lent-is None = refl
lent-is (Some x) = refl

-- one that is lent
pub lent-index : (o : Option (Bor Index)) (x : Option Index) (ks : List PlainNode) (kids : PlainNodes) → option_copied o ≡ x → nodes_from ks ≡ kids → IsRowIndex (option_map index_view x) ks → IsRowIndex (option_map (λ x. index_view x.now) o) (nodes_list kids)
lent-index o x ks kids e is h = (let view = lent-is o ∙ ap (option_map index_view) e in subst (λ z. IsRowIndex z (nodes_list kids)) (sym view) (index-kids (option_map index_view x) ks kids is h))

pub leaf-row : (o : Option PlainIndex) (k : PlainNode) (l : PlainLabel) (s : Stamp) (xs : List PlainAlt) → k ≡ leaf_node l s xs → IsNodeIndex o k → IsLeafIndex o xs
leaf-row o k l s xs e h = subst (IsNodeIndex o) e h

pub item-at : (ks : List ANode) (i j : ℕ) (k : ANode) → i ≡ j → j < length ks → k ≡ get_or ks j k → slice_get (map node_view ks) i ≡ Some (node_view k)
item-at [] i j k e lt is = absurd (omega (arith, lt))
item-at (x ∷ ks) zero zero k e lt is = (let same : x ≡ k = cc in ap (λ z. Some (node_view z)) same)
item-at (x ∷ ks) zero (suc j) k e lt is = absurd (omega (arith, e))
item-at (x ∷ ks) (suc i) zero k e lt is = absurd (omega (arith, e))
item-at (x ∷ ks) (suc i) (suc j) k e lt is = item-at ks i j k (omega (arith, e)) (omega (arith, lt)) is

pub below-get : (below : List (ℕ × Index)) (at place : ℕ) (d : ℕ × Index) (ks : List PlainNode) → at < length below → (get_or below at d).0 ≡ place → IsBelow (below_view below) ks → IfSome (slice_get ks place) (IsNodeIndex (Some (index_view (get_or below at d).1)))
below-get [] at place d ks lt e h = absurd (omega (arith, lt))
below-get (x ∷ xs) zero place d ks lt e h = subst (λ i. IfSome (slice_get ks i) (IsNodeIndex (Some (index_view x.1)))) e h.0
below-get (x ∷ xs) (suc at) place d ks lt e h = below-get xs at place d ks (omega (arith, lt)) e h.1

pub below-pushed : (xs : List (ℕ × PlainIndex)) (i : ℕ) (x : PlainIndex) (ks : List PlainNode) → IsBelow (below_from xs) ks → IfSome (slice_get ks i) (IsNodeIndex (Some x)) → IsBelow (below_from (xs ++ (i, x) ∷ [])) ks
below-pushed [] i x ks h g = (g, tt)
below-pushed (y ∷ ys) i x ks h g = (h.0, below-pushed ys i x ks h.1 g)

pub one-more : (xs ys : List (ℕ × Index)) (i : ℕ) (x : Index) (ks : List PlainNode) (k : PlainNode) → ys ≡ xs ++ (i, x) ∷ [] → IsBelow (below_view xs) ks → slice_get ks i ≡ Some k → IsNodeIndex (Some (index_view x)) k → IsBelow (below_view ys) ks
one-more xs ys i x ks k e h at is =
    let whole : below_view ys ≡ below_from (map (λ (y : ℕ × Index). (y.0, index_view y.1)) xs ++ (i, index_view x) ∷ []) = ap below_view e ∙ ap below_from (map-append (λ (y : ℕ × Index). (y.0, index_view y.1)) xs ((i, x) ∷ [])) in
    subst (λ z. IsBelow z ks) (sym whole) (below-pushed (map (λ (y : ℕ × Index). (y.0, index_view y.1)) xs) i (index_view x) ks h (subst (λ o. IfSome o (IsNodeIndex (Some (index_view x)))) (sym at) is))

pub none-beside : (o : Option PlainNode) → IfSome o (IsNodeIndex None)
none-beside None = tt
none-beside (Some k) = tt

-- what is beside a node is told by what is beside its row
pub beside-at : (o : Option PlainNode) (k : PlainNode) (x : Option PlainIndex) → o ≡ Some k → IfSome o (IsNodeIndex x) → IsNodeIndex x k
beside-at o k x e h = subst (λ z. IfSome z (IsNodeIndex x)) e h

-- ---- what stands at the places

-- the items at these places
abbrev pub picked : {X : Type 0} → List X → List ℕ → List X
picked xs [] = []
picked xs (i ∷ is) = option_to_list (slice_get xs i) ++ picked xs is

-- the place of a node that the version has
pub record IsPlace (n : ℕ) (ks : List PlainNode) (i : ℕ) : Type 0 where
  pub within : i < length ks
  pub there : IfSome (slice_get ks i) (λ k. IsTrue (is_in n (node_stamp k)))

behind : {X : Type 0} (fs xs : List X) (x : X) → slice_get (fs ++ x ∷ xs) (length fs) ≡ Some x
behind [] xs x = refl
behind (f ∷ fs) xs x = behind fs xs x

next-at : {X : Type 0} (fs : List X) (x : X) (at : ℕ) → at ≡ length fs → at + 1 ≡ length (fs ++ x ∷ [])
next-at fs x at e = (let size = length-append fs (x ∷ []) in omega (arith, size, e))

within-front : {X : Type 0} (fs xs : List X) (x : X) (at : ℕ) → at ≡ length fs → at < length (fs ++ x ∷ xs)
within-front fs xs x at e = (let size = length-append fs (x ∷ xs) in omega (arith, size, e))

places-are : (n at : ℕ) (fs ks : List PlainNode) → at ≡ length fs → AllByRecursion (IsPlace n (fs ++ ks)) (places_from n at (map node_stamp ks))
places-are n at fs [] e = tt
places-are n at fs (k ∷ ks) e =
    let rest : AllByRecursion (IsPlace n (fs ++ k ∷ ks)) (places_from n (at + 1) (map node_stamp ks)) =
    subst (λ z. AllByRecursion (IsPlace n z) (places_from n (at + 1) (map node_stamp ks))) (append_assoc fs (k ∷ []) ks) (places-are n (at + 1) (fs ++ k ∷ []) ks (next-at fs k at e)) in
    let here : slice_get (fs ++ k ∷ ks) at ≡ Some k = ap (slice_get (fs ++ k ∷ ks)) e ∙ behind fs ks k in
    elim (is_in n (node_stamp k)) as (λ b. is_in n (node_stamp k) ≡ b → AllByRecursion (IsPlace n (fs ++ k ∷ ks)) (cond b (at ∷ places_from n (at + 1) (map node_stamp ks)) (places_from n (at + 1) (map node_stamp ks)))) [
      | true ↦ λ there. (record { within = within-front fs ks k at e; there = subst (λ z. IfSome z (λ k. IsTrue (is_in n (node_stamp k)))) (sym here) there }, rest)
      | false ↦ λ there. rest
    ] refl

pub all-places : (n : ℕ) (ks : List PlainNode) (is : List ℕ) → is ≡ places n (map node_stamp ks) → AllByRecursion (IsPlace n ks) is
all-places n ks is e = subst (AllByRecursion (IsPlace n ks)) (sym e) (places-are n 0 [] ks refl)

row-picked-from : (n at : ℕ) (fs ks : List PlainNode) → at ≡ length fs → read_row n (n ∷ []) (nodes_from (picked (fs ++ ks) (places_from n at (map node_stamp ks)))) ≡ read_row n (n ∷ []) (nodes_from ks)
row-picked-from n at fs [] e = refl
row-picked-from n at fs (k ∷ ks) e =
    let rest : read_row n (n ∷ []) (nodes_from (picked (fs ++ k ∷ ks) (places_from n (at + 1) (map node_stamp ks)))) ≡ read_row n (n ∷ []) (nodes_from ks) =
    subst (λ z. read_row n (n ∷ []) (nodes_from (picked z (places_from n (at + 1) (map node_stamp ks)))) ≡ read_row n (n ∷ []) (nodes_from ks)) (append_assoc fs (k ∷ []) ks) (row-picked-from n (at + 1) (fs ++ k ∷ []) ks (next-at fs k at e)) in
    let here : slice_get (fs ++ k ∷ ks) at ≡ Some k = ap (slice_get (fs ++ k ∷ ks)) e ∙ behind fs ks k in
    elim (is_in n (node_stamp k)) as (λ b. is_in n (node_stamp k) ≡ b
    → read_row n (n ∷ []) (nodes_from (picked (fs ++ k ∷ ks) (cond b (at ∷ places_from n (at + 1) (map node_stamp ks)) (places_from n (at + 1) (map node_stamp ks)))))
    ≡ cond b (kid (read n (n ∷ []) k) (read_row n (n ∷ []) (nodes_from ks))) (read_row n (n ∷ []) (nodes_from ks))) [
      | true ↦ λ there. ap (λ (o : Option PlainNode). read_row n (n ∷ []) (nodes_from (option_to_list o ++ picked (fs ++ k ∷ ks) (places_from n (at + 1) (map node_stamp ks))))) here
          ∙ (λ i. cond (there i) (kid (read n (n ∷ []) k) (rest i)) (rest i))
      | false ↦ λ there. rest
    ] refl

-- the row is that of the nodes at the places
pub row-picked : (n : ℕ) (ks : List PlainNode) (is : List ℕ) → is ≡ places n (map node_stamp ks) → read_row n (n ∷ []) (nodes_from ks) ≡ read_row n (n ∷ []) (nodes_from (picked ks is))
row-picked n ks is e = sym (ap (λ z. read_row n (n ∷ []) (nodes_from (picked ks z))) e ∙ row-picked-from n 0 [] ks refl)

-- a node at a place of the version, before others
pub row-at : (n : ℕ) (ks : List PlainNode) (i : ℕ) (k : PlainNode) (is : List ℕ) → slice_get ks i ≡ Some k → IsTrue (is_in n (node_stamp k)) → read_row n (n ∷ []) (nodes_from (picked ks (i ∷ is))) ≡ kid (read n (n ∷ []) k) (read_row n (n ∷ []) (nodes_from (picked ks is)))
row-at n ks i k is e there =
    ap (λ (o : Option PlainNode). read_row n (n ∷ []) (nodes_from (option_to_list o ++ picked ks is))) e
    ∙ ap (λ b. cond b (kid (read n (n ∷ []) k) (read_row n (n ∷ []) (nodes_from (picked ks is)))) (read_row n (n ∷ []) (nodes_from (picked ks is)))) there

pub place-there : (n : ℕ) (ks : List PlainNode) (i : ℕ) (k : PlainNode) → slice_get ks i ≡ Some k → IsPlace n ks i → IsTrue (is_in n (node_stamp k))
place-there n ks i k e h = subst (λ z. IfSome z (λ k. IsTrue (is_in n (node_stamp k)))) e h.there

-- ---- the first place

root-from : (n at : ℕ) (fs ks : List PlainNode) → at ≡ length fs → option_map (read n (n ∷ [])) (slice_get (picked (fs ++ ks) (places_from n at (map node_stamp ks))) 0) ≡ read_root n (n ∷ []) (nodes_from ks)
root-from n at fs [] e = refl
root-from n at fs (k ∷ ks) e =
    let rest : option_map (read n (n ∷ [])) (slice_get (picked (fs ++ k ∷ ks) (places_from n (at + 1) (map node_stamp ks))) 0) ≡ read_root n (n ∷ []) (nodes_from ks) =
    subst (λ z. option_map (read n (n ∷ [])) (slice_get (picked z (places_from n (at + 1) (map node_stamp ks))) 0) ≡ read_root n (n ∷ []) (nodes_from ks)) (append_assoc fs (k ∷ []) ks) (root-from n (at + 1) (fs ++ k ∷ []) ks (next-at fs k at e)) in
    let here : slice_get (fs ++ k ∷ ks) at ≡ Some k = ap (slice_get (fs ++ k ∷ ks)) e ∙ behind fs ks k in
    elim (is_in n (node_stamp k)) as (λ b. option_map (read n (n ∷ [])) (slice_get (picked (fs ++ k ∷ ks) (cond b (at ∷ places_from n (at + 1) (map node_stamp ks)) (places_from n (at + 1) (map node_stamp ks)))) 0)
    ≡ cond b (Some (read n (n ∷ []) k)) (read_root n (n ∷ []) (nodes_from ks))) [
      | true ↦ ap (λ (o : Option PlainNode). option_map (read n (n ∷ [])) (slice_get (option_to_list o ++ picked (fs ++ k ∷ ks) (places_from n (at + 1) (map node_stamp ks))) 0)) here
      | false ↦ rest
    ]

pub root-none : (n : ℕ) (ks : List PlainNode) (is : List ℕ) → is ≡ places n (map node_stamp ks) → is ≡ [] → read_root n (n ∷ []) (nodes_from ks) ≡ None
root-none n ks is e none = sym (root-from n 0 [] ks refl) ∙ ap (λ z. option_map (read n (n ∷ [])) (slice_get (picked ks z) 0)) (sym e ∙ none)

pub root-first : (n : ℕ) (ks : List PlainNode) (i : ℕ) (is : List ℕ) (k : PlainNode) → i ∷ is ≡ places n (map node_stamp ks) → slice_get ks i ≡ Some k → read_root n (n ∷ []) (nodes_from ks) ≡ Some (read n (n ∷ []) k)
root-first n ks i is k e at = sym (root-from n 0 [] ks refl) ∙ ap (λ z. option_map (read n (n ∷ [])) (slice_get (picked ks z) 0)) (sym e) ∙ ap (λ (o : Option PlainNode). option_map (read n (n ∷ [])) (slice_get (option_to_list o ++ picked ks is) 0)) at

body-from : (n at : ℕ) (fs xs : List PlainAlt) → at ≡ length fs → body_of (fs ++ xs) (places_from n at (map (λ (x : PlainAlt). x.stamp) xs)) ≡ body_at n (n ∷ []) xs
body-from n at fs [] e = refl
body-from n at fs (x ∷ xs) e =
    let rest : body_of (fs ++ x ∷ xs) (places_from n (at + 1) (map (λ (y : PlainAlt). y.stamp) xs)) ≡ body_at n (n ∷ []) xs =
    subst (λ z. body_of z (places_from n (at + 1) (map (λ (y : PlainAlt). y.stamp) xs)) ≡ body_at n (n ∷ []) xs) (append_assoc fs (x ∷ []) xs) (body-from n (at + 1) (fs ++ x ∷ []) xs (next-at fs x at e)) in
    let here : slice_get (fs ++ x ∷ xs) at ≡ Some x = ap (slice_get (fs ++ x ∷ xs)) e ∙ behind fs xs x in
    elim (is_in n x.stamp) as (λ b. body_of (fs ++ x ∷ xs) (cond b (at ∷ places_from n (at + 1) (map (λ (y : PlainAlt). y.stamp) xs)) (places_from n (at + 1) (map (λ (y : PlainAlt). y.stamp) xs)))
    ≡ cond b x.body (body_at n (n ∷ []) xs)) [
      | true ↦ ap (λ (o : Option PlainAlt). unwrap_or (option_map (λ (y : PlainAlt). y.body) o) (scalar null)) here
      | false ↦ rest
    ]

pub body-first : (n : ℕ) (xs : List PlainAlt) (is : List ℕ) → is ≡ places n (map (λ (x : PlainAlt). x.stamp) xs) → body_of xs is ≡ body_at n (n ∷ []) xs
body-first n xs is e = ap (body_of xs) e ∙ body-from n 0 [] xs refl

root-at : (n : ℕ) (ks : List PlainNode) (is : List ℕ) (p : ℕ) (k : PlainNode) → is ≡ places n (map node_stamp ks) → 0 < length is → p ≡ get_or is 0 p → slice_get ks p ≡ Some k → read_root n (n ∷ []) (nodes_from ks) ≡ Some (read n (n ∷ []) k)
root-at n ks [] p k e some is at = absurd (omega (arith, some))
root-at n ks (i ∷ is) p k e some same at = root-first n ks i is k e (ap (slice_get ks) (sym same) ∙ at)

-- the document of the first node
pub root-document : (n : ℕ) (ks : List PlainNode) (is : List ℕ) (p : ℕ) (k : PlainNode) (t : PlainTree) → is ≡ places n (map node_stamp ks) → 0 < length is → p ≡ get_or is 0 p → slice_get ks p ≡ Some k → t ≡ plain (read n (n ∷ []) k)
    → Some t ≡ option_map plain (read_root n (n ∷ []) (nodes_from ks))
root-document n ks is p k t e some same at spelled = ap (λ z. Some z) spelled ∙ ap (option_map plain) (sym (root-at n ks is p k e some same at))

pub none-of : (is : List ℕ) → length is ≡ 0 → is ≡ []
none-of [] e = refl
none-of (i ∷ is) e = absurd (omega (arith, e))

pub first-place : (n : ℕ) (ks : List PlainNode) (is : List ℕ) (p : ℕ) → 0 < length is → p ≡ get_or is 0 p → AllByRecursion (IsPlace n ks) is → IsPlace n ks p
first-place n ks [] p some same h = absurd (omega (arith, some))
first-place n ks (i ∷ is) p some same h = subst (IsPlace n ks) (sym same) h.0

-- ---- the places that are left

next-left : (is : List ℕ) (i d : ℕ) → i < length is → drop i is ≡ get_or is i d ∷ drop (i + 1) is
next-left is i d lt = drop-cons is i d lt ∙ ap (λ k. get_or is i d ∷ drop k is) (sym (add-one i))

pub left-first : (n : ℕ) (ks : List PlainNode) (is : List ℕ) (i d : ℕ) → i < length is → AllByRecursion (IsPlace n ks) (drop i is) → IsPlace n ks (get_or is i d)
left-first n ks is i d lt h = (let both : AllByRecursion (IsPlace n ks) (get_or is i d ∷ drop (i + 1) is) = subst (AllByRecursion (IsPlace n ks)) (next-left is i d lt) h in both.0)

pub left-rest : (n : ℕ) (ks : List PlainNode) (is : List ℕ) (i d : ℕ) → i < length is → AllByRecursion (IsPlace n ks) (drop i is) → AllByRecursion (IsPlace n ks) (drop (i + 1) is)
left-rest n ks is i d lt h = (let both : AllByRecursion (IsPlace n ks) (get_or is i d ∷ drop (i + 1) is) = subst (AllByRecursion (IsPlace n ks)) (next-left is i d lt) h in both.1)

pub node-at : (n : ℕ) (nodes : List ANode) (p : ℕ) (k : ANode) → k ≡ get_or nodes p k → IsPlace n (map node_view nodes) p → slice_get (map node_view nodes) p ≡ Some (node_view k)
node-at n nodes p k is h = go nodes p is h.within
  where
    go : (nodes : List ANode) (p : ℕ) → k ≡ get_or nodes p k → p < length (map node_view nodes) → slice_get (map node_view nodes) p ≡ Some (node_view k)
    go [] p is lt = absurd (omega (arith, lt))
    go (x ∷ xs) zero is lt = ap (λ z. Some (node_view z)) (sym is)
    go (x ∷ xs) (suc p) is lt = go xs p is (omega (arith, lt))

-- the row of the places that are left begins with the node at the first of them
pub row-left : (n : ℕ) (ks : List PlainNode) (is : List ℕ) (i d : ℕ) (k : PlainNode) → i < length is → slice_get ks (get_or is i d) ≡ Some k → IsTrue (is_in n (node_stamp k))
    → read_row n (n ∷ []) (nodes_from (picked ks (drop i is))) ≡ kid (read n (n ∷ []) k) (read_row n (n ∷ []) (nodes_from (picked ks (drop (i + 1) is))))
row-left n ks is i d k lt at there = ap (λ z. read_row n (n ∷ []) (nodes_from (picked ks z))) (next-left is i d lt) ∙ row-at n ks (get_or is i d) k (drop (i + 1) is) at there

pub within-nodes : (n : ℕ) (nodes : List ANode) (p : ℕ) → IsPlace n (map node_view nodes) p → p < length nodes
within-nodes n nodes p h = go nodes p h.within
  where
    go : (nodes : List ANode) (p : ℕ) → p < length (map node_view nodes) → p < length nodes
    go [] p lt = absurd (omega (arith, lt))
    go (x ∷ xs) zero lt = omega arith
    go (x ∷ xs) (suc p) lt = (let rest = go xs p (omega (arith, lt)) in omega (arith, rest))

-- ---- the nodes that are left

-- the row of the nodes that are left begins with the first of them, if the version has it
pub row-next : (n : ℕ) (nodes : List ANode) (i : ℕ) (k : ANode) → i < length nodes → k ≡ get_or nodes i k
    → read_row n (n ∷ []) (nodes_view (drop i nodes)) ≡ cond (is_in n (node_stamp (node_view k))) (kid (read n (n ∷ []) (node_view k)) (read_row n (n ∷ []) (nodes_view (drop (i + 1) nodes)))) (read_row n (n ∷ []) (nodes_view (drop (i + 1) nodes)))
row-next n nodes i k lt is = ap (λ z. read_row n (n ∷ []) (nodes_view z)) (drop-cons nodes i k lt ∙ ap (λ z. z ∷ drop (suc i) nodes) (sym is) ∙ ap (λ m. k ∷ drop m nodes) (sym (add-one i)))
