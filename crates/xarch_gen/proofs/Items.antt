-- Items of an element without attributes.
use Rattle.std.proofs.Common.{◌≡◌, ◌≢◌, ℕ, zero, suc, ◌+◌, ◌≤◌, ◌<◌, ◌^◌, true, List, [], ◌∷◌, map, Option, Some, None, Result, Ok, Err, refl, sym, ap, subst, ◌∙◌, arith, true≢false}
use Rattle.std.specs.Prelude.{⊤, IsTrue, not, bytes_eq}
use Rattle.std.specs.List.{AllByRecursion}
use Rattle.std.specs.Result.{IsOk}
use Rattle.std.proofs.lemmas.Bool.{OnFalse_from}
use Rattle.std.proofs.lemmas.Slice.Eq.{bytes_eq-Decides}
use Rattle.jsonml_tree.specs.Data.{PlainTree, text, element, PlainContent, content, trees_of, list_of, tree_depth, trees_depth}
use Rattle.jsonml_tree.specs.Fits.{ItemsFit, all_items_fit}
use Rattle.jsonml_tree.specs.WellFormed.{IsWellFormed, are_well_formed}
use Rattle.jsonml_tree.proofs.Trees.{list_of-trees_of}
use Rattle.keyed_tree.specs.Data.{PlainKey, PlainLabel, tag}
use Rattle.key_spec.specs.Data.{PlainRule}
use Rattle.key_spec.specs.Rules.{is_frontier, rule_of}
use Rattle.key_rules.specs.Labels.{PlainLabelFault, and_then, keys_from, label_by, label_in}
use Rattle.key_rules.specs.Satisfies.{ItemIsGood, ok_of, item_label, label_at, AreApart, ItemsSatisfy, ContentSatisfies, TreeSatisfies, EachSatisfies}
use Rattle.xarch_gen.proofs.Rising.{Rises}

-- ---- labels

some-is : {X : Type 0} (x y : X) → Some x ≡ Some y → x ≡ y
some-is x y e = cc

-- none of the items has the label
abbrev pub Lack : List PlainRule → List (List ℕ) → PlainLabel → List PlainTree → Type 0
Lack rules path l ts = AllByRecursion (λ t. item_label rules path t ≢ Some l) ts

-- the label of each item is that of no item behind it
abbrev pub AllDiffer : List PlainRule → List (List ℕ) → List PlainTree → Type 0
AllDiffer rules path [] = ⊤
AllDiffer rules path (t ∷ ts) = ((l : PlainLabel) → item_label rules path t ≡ Some l → Lack rules path l ts) × AllDiffer rules path ts

lacks-at : (rules : List PlainRule) (path : List (List ℕ)) (l : PlainLabel) (ts : List PlainTree) → Lack rules path l ts → (j : ℕ) (k : PlainLabel) → label_at rules path ts j ≡ Some k → l ≢ k
lacks-at rules path l [] h j k e p = absurd cc
lacks-at rules path l (t ∷ ts) h zero k e p = h.0 (e ∙ ap (λ (x : PlainLabel). Some x) (sym p))
lacks-at rules path l (t ∷ ts) h (suc j) k e p = lacks-at rules path l ts h.1 j k e p

pub apart : (rules : List PlainRule) (path : List (List ℕ)) (ts : List PlainTree) → AllDiffer rules path ts → AreApart rules path ts
apart rules path [] d i j k l other e f p = absurd cc
apart rules path (t ∷ ts) d zero zero k l other e f p = other refl
apart rules path (t ∷ ts) d zero (suc j) k l other e f p = lacks-at rules path k ts (d.0 k e) j l f p
apart rules path (t ∷ ts) d (suc i) zero k l other e f p = lacks-at rules path l ts (d.0 l f) i k e (sym p)
apart rules path (t ∷ ts) d (suc i) (suc j) k l other e f p = apart rules path ts d.1 i j k l (λ q. other (ap suc q)) e f p

ok-of : (r : Result PlainLabel PlainLabelFault) (l : PlainLabel) → ok_of r ≡ Some l → IsOk r
ok-of (Ok k) l e = refl
ok-of (Err f) l e = absurd cc

-- an item that has a label is good
pub good : (rules : List PlainRule) (path : List (List ℕ)) (t : PlainTree) (l : PlainLabel) → item_label rules path t ≡ Some l → ItemIsGood rules path t
good rules path (text s) l e = absurd cc
good rules path (element t c) l e = ok-of (label_in rules path t c) l e

-- an item that has a label lacks each other
lacks : (rules : List PlainRule) (path : List (List ℕ)) (t : PlainTree) (l k : PlainLabel) → item_label rules path t ≡ Some k → k ≢ l → item_label rules path t ≢ Some l
lacks rules path t l k e ne f = ne (some-is k l (sym e ∙ f))

-- ---- items of different tags

named : (t : List ℕ) (r : Result (List PlainKey) PlainLabelFault) (l : PlainLabel) → ok_of (and_then r (λ ks. Ok (record { name = tag t; keys = ks }))) ≡ Some l → l.name ≡ tag t
named t (Ok ks) l e = ap (λ (k : PlainLabel). k.name) (sym (some-is (record { name = tag t; keys = ks }) l e))
named t (Err f) l e = absurd cc

label-name : (o : Option PlainRule) (t : List ℕ) (c : PlainContent) (l : PlainLabel) → ok_of (label_by o t c) ≡ Some l → l.name ≡ tag t
label-name None t c l e = absurd cc
label-name (Some r) t c l e = named t (keys_from 1 r.paths c) l e

-- the item has another tag, or none
abbrev pub HasOtherTag : List ℕ → PlainTree → Type 0
HasOtherTag t (text s) = ⊤
HasOtherTag t (element u c) = IsTrue (not (bytes_eq u t))

lack-tag : (rules : List PlainRule) (path : List (List ℕ)) (t : List ℕ) (l : PlainLabel) (u : PlainTree) → l.name ≡ tag t → HasOtherTag t u → item_label rules path u ≢ Some l
lack-tag rules path t l (text s) n h e = absurd cc
lack-tag rules path t l (element u c) n h e =
    let m : tag u ≡ tag t = sym (label-name (rule_of rules path u) u c l e) ∙ n in
    let same : u ≡ t = cc in
    let yes : bytes_eq u t ≡ true = grind (arith, bytes_eq-Decides) in
    absurd (true≢false (sym h ∙ ap not yes))

lack-tags : (rules : List PlainRule) (path : List (List ℕ)) (t : List ℕ) (l : PlainLabel) (us : List PlainTree) → l.name ≡ tag t → AllByRecursion (HasOtherTag t) us → Lack rules path l us
lack-tags rules path t l [] n h = tt
lack-tags rules path t l (u ∷ us) n h = (lack-tag rules path t l u n h.0, lack-tags rules path t l us n h.1)

-- an item before others, which have other tags
pub differ-tag : (rules : List PlainRule) (path : List (List ℕ)) (t : List ℕ) (c : PlainContent) (us : List PlainTree)
    → AllByRecursion (HasOtherTag t) us → AllDiffer rules path us → AllDiffer rules path (element t c ∷ us)
differ-tag rules path t c us h d = (λ l e. lack-tags rules path t l us (label-name (rule_of rules path t) t c l e) h, d)

-- ---- items that are made of rising numbers

lack-made : (rules : List PlainRule) (path : List (List ℕ)) (make : ℕ → PlainTree) (label : ℕ → PlainLabel)
    → ((e : ℕ) → item_label rules path (make e) ≡ Some (label e))
    → ((d e : ℕ) → d < 2 ^ 64 → e < 2 ^ 64 → label d ≡ label e → d ≡ e)
    → (d low : ℕ) (es : List ℕ) → d < 2 ^ 64 → d < low → Rises low es → Lack rules path (label d) (map make es)
lack-made rules path make label is one d low [] small lt h = tt
lack-made rules path make label is one d low (e ∷ es) small lt h =
    let first : low ≤ e = h.0 in
    let below : d < e + 1 = omega arith in
    let other : label e ≢ label d = λ p. (let same : e ≡ d = one e d h.1 small p in absurd (omega arith)) in
    (lacks rules path (make e) (label d) (label e) (is e) other, lack-made rules path make label is one d (e + 1) es small below h.2)

pub differ-made : (rules : List PlainRule) (path : List (List ℕ)) (make : ℕ → PlainTree) (label : ℕ → PlainLabel)
    → ((e : ℕ) → item_label rules path (make e) ≡ Some (label e))
    → ((d e : ℕ) → d < 2 ^ 64 → e < 2 ^ 64 → label d ≡ label e → d ≡ e)
    → (low : ℕ) (es : List ℕ) → Rises low es → AllDiffer rules path (map make es)
differ-made rules path make label is one low [] h = tt
differ-made rules path make label is one low (e ∷ es) h =
    let rest = lack-made rules path make label is one e (e + 1) es h.1 (omega arith) h.2 in
    let own = λ (l : PlainLabel) (p : item_label rules path (make e) ≡ Some l). subst (λ (k : PlainLabel). Lack rules path k (map make es)) (some-is (label e) l (sym (is e) ∙ p)) rest in
    (own, differ-made rules path make label is one (e + 1) es h.2)

-- ---- what holds of each item

pub each-made : (P : PlainTree → Type 0) (make : ℕ → PlainTree) → ((e : ℕ) → P (make e)) → (es : List ℕ) → AllByRecursion P (map make es)
each-made P make h [] = tt
each-made P make h (e ∷ es) = (h e, each-made P make h es)

pub each-satisfies : (rules : List PlainRule) (path : List (List ℕ)) (ts : List PlainTree) → AllByRecursion (TreeSatisfies rules path) ts → EachSatisfies rules path (trees_of ts)
each-satisfies rules path [] h = tt
each-satisfies rules path (t ∷ ts) h = (h.0, each-satisfies rules path ts h.1)

-- what is to be shown of an element with these items
pub satisfied : (rules : List PlainRule) (path : List (List ℕ)) (ts : List PlainTree)
    → AllByRecursion (ItemIsGood rules path) ts → AllDiffer rules path ts → AllByRecursion (TreeSatisfies rules path) ts → ContentSatisfies rules path (content [] (trees_of ts))
satisfied rules path ts each differ inside =
    let P : List PlainTree → Type 0 = λ us. ItemsSatisfy rules path us (EachSatisfies rules path (trees_of ts)) in
    let all : P ts = record { good = each; apart = apart rules path ts differ; inside = each-satisfies rules path ts inside } in
    OnFalse_from (is_frontier rules path) (P (list_of (trees_of ts))) (λ _. subst P (sym (list_of-trees_of ts)) all)

pub each-well_formed : (ts : List PlainTree) → AllByRecursion IsWellFormed ts → IsTrue (are_well_formed (trees_of ts))
each-well_formed [] h = refl
each-well_formed (t ∷ ts) h = grind (arith, h.0, each-well_formed ts h.1)

pub each-fits : (ts : List PlainTree) → AllByRecursion ItemsFit ts → IsTrue (all_items_fit (trees_of ts))
each-fits [] h = refl
each-fits (t ∷ ts) h = grind (arith, h.0, each-fits ts h.1)

pub each-shallow : (n : ℕ) (ts : List PlainTree) → AllByRecursion (λ t. tree_depth t ≤ n) ts → trees_depth (trees_of ts) ≤ n
each-shallow n [] h = omega arith
each-shallow n (t ∷ ts) h = (let first : tree_depth t ≤ n = h.0 in let rest = each-shallow n ts h.1 in omega arith)
