-- The content of an element, by the attributes that stand in front.
use Rattle.std.proofs.Common.{◌≡◌, ℕ, ◌≤◌, List, [], Result, Ok, Err, Some, None, refl, ap, ◌∙◌, arith}
use Rattle.serde_json.specs.Data.{Data, null, boolean, number, string, array, object, Items, no_items, item, Members, items_depth}
use Rattle.serde_json.specs.Find.{as_object}
use Rattle.jsonml_tree.specs.Data.{PlainAttr, PlainTree, PlainTrees, PlainContent, content, tree}
use Rattle.jsonml_text.specs.Front.{front_at}
use Rattle.jsonml_text.specs.Spelled.{ShapeFault, and_then, mapped, attrs_at, item_at, content_at, items_at}

one_after : (r : Result PlainTree ShapeFault) (s : Result PlainTrees ShapeFault) → and_then r (λ t. mapped (λ ts. content [] (tree t ts)) s) ≡ mapped (content []) (and_then r (λ t. mapped (tree t) s))
one_after (Ok t) (Ok ts) = refl
one_after (Ok t) (Err e) = refl
one_after (Err e) s = refl

attrs_first : (r : Result (List PlainAttr) ShapeFault) (ds : Items) (f : List PlainAttr → Items → Result PlainContent ShapeFault) → and_then r (λ xs. f xs ds) ≡ and_then (mapped (λ xs. (xs, ds)) r) (λ (p : List PlainAttr × Items). f p.0 p.1)
attrs_first (Ok xs) ds f = refl
attrs_first (Err e) ds f = refl

front_first : (place : List ℕ) (ds : Items) → content_at place ds ≡ and_then (front_at place ds) (λ p. mapped (content p.0) (items_at place 1 p.1))
front_first place no_items = refl
front_first place (item null ds) = refl
front_first place (item (boolean b) ds) = refl
front_first place (item (number n) ds) = refl
front_first place (item (string s) ds) = one_after (item_at place (string s)) (items_at place 2 ds)
front_first place (item (array es) ds) = one_after _ (items_at place 2 ds)
front_first place (item (object ms) ds) = attrs_first (attrs_at place ms) ds (λ xs es. mapped (content xs) (items_at place 1 es))

pub front_object : (place : List ℕ) (d : Data) (ds : Items) (ms : Members) → as_object d ≡ Some ms → front_at place (item d ds) ≡ mapped (λ xs. (xs, ds)) (attrs_at place ms)
front_object place null ds ms e = absurd (cc)
front_object place (boolean b) ds ms e = absurd (cc)
front_object place (number n) ds ms e = absurd (cc)
front_object place (string s) ds ms e = absurd (cc)
front_object place (array es) ds ms e = absurd (cc)
front_object place (object ns) ds ms e = let same : ns ≡ ms = cc in ap (λ ns. mapped (λ xs. (xs, ds)) (attrs_at place ns)) same

pub front_other : (place : List ℕ) (d : Data) (ds : Items) → as_object d ≡ None → front_at place (item d ds) ≡ Ok ([], item d ds)
front_other place null ds e = refl
front_other place (boolean b) ds e = refl
front_other place (number n) ds e = refl
front_other place (string s) ds e = refl
front_other place (array es) ds e = refl
front_other place (object ns) ds e = absurd (cc)

pub ruleset fronts = (front_object, front_other)

pub front_fault : (place : List ℕ) (ds : Items) (fault : ShapeFault) → front_at place ds ≡ Err fault → content_at place ds ≡ Err fault
front_fault place ds fault e = front_first place ds ∙ ap (λ r. and_then r (λ (p : List PlainAttr × Items). mapped (content p.0) (items_at place 1 p.1))) e

pub front_items : (place : List ℕ) (ds es : Items) (xs : List PlainAttr) → front_at place ds ≡ Ok (xs, es) → content_at place ds ≡ mapped (content xs) (items_at place 1 es)
front_items place ds es xs e = front_first place ds ∙ ap (λ r. and_then r (λ (p : List PlainAttr × Items). mapped (content p.0) (items_at place 1 p.1))) e

-- what stands behind them nests no deeper
abbrev pair : List PlainAttr → Items → Result (List PlainAttr × Items) ShapeFault
pair xs ds = Ok (xs, ds)

same_behind : (ds es : Items) (xs ys : List PlainAttr) → pair ys ds ≡ pair xs es → items_depth es ≤ items_depth ds
same_behind ds es xs ys e = let both : (ys, ds) ≡ (xs, es) = cc in let same : ds ≡ es = ap (λ (p : List PlainAttr × Items). p.1) both in omega (arith, ap items_depth same)

behind_object : (r : Result (List PlainAttr) ShapeFault) (ds es : Items) (xs : List PlainAttr) → mapped (λ xs. (xs, ds)) r ≡ pair xs es → items_depth es ≤ items_depth ds
behind_object (Ok ys) ds es xs e = same_behind ds es xs ys e
behind_object (Err f) ds es xs e = absurd (cc)

pub behind_depth : (place : List ℕ) (ds es : Items) (xs : List PlainAttr) → front_at place ds ≡ Ok (xs, es) → items_depth es ≤ items_depth ds
behind_depth place no_items es xs e = same_behind _ es xs [] e
behind_depth place (item null ds) es xs e = same_behind _ es xs [] e
behind_depth place (item (boolean b) ds) es xs e = same_behind _ es xs [] e
behind_depth place (item (number n) ds) es xs e = same_behind _ es xs [] e
behind_depth place (item (string s) ds) es xs e = same_behind _ es xs [] e
behind_depth place (item (array fs) ds) es xs e = same_behind _ es xs [] e
behind_depth place (item (object ms) ds) es xs e = omega (arith, behind_object (attrs_at place ms) ds es xs e)
