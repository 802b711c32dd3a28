-- The calls that walk a tree print its text.
use Rattle.std.proofs.Common.{◌≡◌, ℕ, ◌<◌, ◌≤◌, ◌==◌, ◌&&◌, Bool, true, false, List, [], ◌∷◌, ◌++◌, map, refl, sym, ap, ◌∙◌, subst, arith, append_assoc, append-nil, le_refl}
use Rattle.std.proofs.lemmas.Bool.Decides.{nat_tests}
use Rattle.std.specs.List.{flat_map, join_with_byte}
use Rattle.json.specs.Print.{quoted}
use Rattle.jsonml_tree.specs.Data.{PlainAttr, PlainTree, element, content, PlainTrees, no_trees, tree}
use Rattle.jsonml_tree.specs.Data as plain
use Rattle.jsonml_tree.specs.Fits.{IsElement}
use Rattle.jsonml_print.specs.Printed.{attr_text, attrs_text, tree_text, content_text, items_text}
use Rattle.jsonml_print.specs.Pen.{Pen, fresh, one_more, one_less, has_ended, is_item, IsOpen}
use Rattle.jsonml_print.specs.Calls.{begin, attribute, end, after, piece, brace, item_lead, printed, reached, AllMayCome, calls_of, items_calls}
use Rattle.jsonml_print.specs.declared.last.Last.{Last}
use Rattle.jsonml_print.specs.declared.last.Last.TheVariants.{Nothing, Opened, Begun, Attribute, Item}
use Rattle.jsonml_print.proofs.Walks.{printed-append, reached-append, AllMayCome-append}

-- ---- how many elements are open

pub open_more : (n : ℕ) → 0 < one_more n
open_more n = grind (arith, nat_tests)

-- what is begun and then ended leaves at least as many open as before
pub open_again : (n m : ℕ) → one_more n ≤ m → n ≤ one_less m
open_again n m e = grind (arith, nat_tests)

-- inside an element, the outermost has not ended
not_ended : (p : Pen) → IsOpen p → has_ended p ≡ false
not_ended p inside = let some : (p.depth == 0) ≡ false = grind (arith, nat_tests) in ap (λ b. b && is_item p.last) some

-- ---- the attributes of an element

abbrev at : ℕ → Last → Pen
at n l = record { depth = n; last = l }

pub joined : (x : PlainAttr) (xs : List PlainAttr) → join_with_byte 44 (map attr_text (x ∷ xs)) ≡ attr_text x ++ flat_map (λ y. 44 ∷ attr_text y) xs
joined x [] = sym (append-nil (attr_text x))
joined x (y ∷ ys) = ap (λ l. attr_text x ++ (44 ∷ l)) (joined y ys)

abbrev attrs_last : List PlainAttr → Last
attrs_last [] = Begun
attrs_last (x ∷ xs) = Attribute

more_attrs : (n : ℕ) (xs : List PlainAttr) → printed (at n Attribute) (map attribute xs) ≡ flat_map (λ y. 44 ∷ attr_text y) xs
more_attrs n [] = refl
more_attrs n (x ∷ xs) = ap (λ l. (44 ∷ attr_text x) ++ l) (more_attrs n xs)

more_reached : (n : ℕ) (xs : List PlainAttr) → reached (at n Attribute) (map attribute xs) ≡ at n Attribute
more_reached n [] = refl
more_reached n (x ∷ xs) = more_reached n xs

more_may : (n : ℕ) (xs : List PlainAttr) → AllMayCome (at n Attribute) (map attribute xs)
more_may n [] = tt
more_may n (x ∷ xs) = (refl, more_may n xs)

attrs_printed : (n : ℕ) (xs : List PlainAttr) → printed (at n Begun) (map attribute xs) ++ brace (attrs_last xs) ≡ attrs_text xs
attrs_printed n [] = refl
attrs_printed n (x ∷ xs) = ap (λ l. 44 ∷ 123 ∷ (l ++ 125 ∷ [])) (ap (λ l. attr_text x ++ l) (more_attrs n xs) ∙ sym (joined x xs))

attrs_reached : (n : ℕ) (xs : List PlainAttr) → reached (at n Begun) (map attribute xs) ≡ at n (attrs_last xs)
attrs_reached n [] = refl
attrs_reached n (x ∷ xs) = more_reached n xs

attrs_may : (n : ℕ) (xs : List PlainAttr) → AllMayCome (at n Begun) (map attribute xs)
attrs_may n [] = tt
attrs_may n (x ∷ xs) = (refl, more_may n xs)

-- ---- trees, and the items of an element

-- something has been printed
abbrev has_begun : Last → Bool
has_begun Nothing = false
has_begun Opened = false
has_begun Begun = true
has_begun Attribute = true
has_begun Item = true

attrs_begun : (xs : List PlainAttr) → has_begun (attrs_last xs) ≡ true
attrs_begun [] = refl
attrs_begun (x ∷ xs) = refl

lead_is : (l : Last) → has_begun l ≡ true → item_lead l ≡ brace l ++ 44 ∷ []
lead_is Nothing e = absurd (cc)
lead_is Opened e = absurd (cc)
lead_is Begun e = refl
lead_is Attribute e = refl
lead_is Item e = refl

-- a text may come inside an element, an element unless the outermost has ended
abbrev pub MayPrint : Pen → PlainTree → Type 0
MayPrint p (plain.text s) = IsOpen p
MayPrint p (element tag c) = has_ended p ≡ false

may_inside : (p : Pen) (t : PlainTree) → IsOpen p → MayPrint p t
may_inside p (plain.text s) inside = inside
may_inside p (element tag c) inside = not_ended p inside

pub record Walks (p : Pen) (t : PlainTree) : Type 0 where
  pub text : printed p (calls_of t) ≡ item_lead p.last ++ tree_text t
  pub last : (reached p (calls_of t)).last ≡ Item
  pub inside : p.depth ≤ (reached p (calls_of t)).depth
  pub may : AllMayCome p (calls_of t)

record WalksItems (p : Pen) (ts : PlainTrees) : Type 0 where
  text : printed p (items_calls ts) ++ brace (reached p (items_calls ts)).last ≡ brace p.last ++ items_text ts
  inside : p.depth ≤ (reached p (items_calls ts)).depth
  may : AllMayCome p (items_calls ts)

-- the pieces of an element, put together

regroup : (a i b e : List ℕ) → (a ++ i) ++ (b ++ e) ≡ a ++ ((i ++ b) ++ e)
regroup a i b e = simp append_assoc

regroup_back : (a b i e : List ℕ) → a ++ ((b ++ i) ++ e) ≡ ((a ++ b) ++ i) ++ e
regroup_back a b i e = simp append_assoc

item_pieces : (l : Last) (t is : List ℕ) → has_begun l ≡ true → (item_lead l ++ t) ++ is ≡ brace l ++ (44 ∷ (t ++ is))
item_pieces l t is e = ap (λ x. (x ++ t) ++ is) (lead_is l e) ∙ append_assoc (brace l ++ 44 ∷ []) t is ∙ append_assoc (brace l) (44 ∷ []) (t ++ is)

mutual
  pub walk_tree : (t : PlainTree) (p : Pen) → MayPrint p t → Walks p t
  walk_tree (plain.text s) p inside = record { text = append-nil (item_lead p.last ++ quoted s); last = refl; inside = le_refl p.depth; may = (inside, tt) }
  walk_tree (element tag (content xs ts)) p ok =
      let n = one_more p.depth in
      let p1 = at n Begun in
      let p2 = at n (attrs_last xs) in
      let attrs = map attribute xs in
      let items = items_calls ts in
      let w : WalksItems p2 ts = walk_items ts p2 (open_more p.depth) (attrs_begun xs) in
      let p3 = reached p2 items in
      let there : reached p1 (attrs ++ items) ≡ p3 = reached-append p1 attrs items ∙ ap (λ q. reached q items) (attrs_reached n xs) in
      let ended : reached p1 ((attrs ++ items) ++ end ∷ []) ≡ after p3 end = reached-append p1 (attrs ++ items) (end ∷ []) ∙ ap (λ q. after q end) there in
      let body : printed p1 ((attrs ++ items) ++ end ∷ []) ≡ content_text (content xs ts) ++ 93 ∷ [] =
      printed-append p1 (attrs ++ items) (end ∷ []) ∙ ap (λ q. printed p1 (attrs ++ items) ++ printed q (end ∷ [])) there ∙ ap (λ l. printed p1 (attrs ++ items) ++ l) (append-nil (brace p3.last ++ 93 ∷ []))
      ∙ ap (λ l. l ++ (brace p3.last ++ 93 ∷ [])) (printed-append p1 attrs items ∙ ap (λ q. printed p1 attrs ++ printed q items) (attrs_reached n xs))
      ∙ regroup (printed p1 attrs) (printed p2 items) (brace p3.last) (93 ∷ [])
      ∙ ap (λ l. printed p1 attrs ++ (l ++ 93 ∷ [])) w.text
      ∙ regroup_back (printed p1 attrs) (brace p2.last) (items_text ts) (93 ∷ [])
      ∙ ap (λ l. (l ++ items_text ts) ++ 93 ∷ []) (attrs_printed n xs) in
      let inside : IsOpen p3 = omega (arith, open_more p.depth, w.inside) in
      record {
        text = ap (λ l. piece p (begin tag) ++ l) body ∙ append_assoc (item_lead p.last) (91 ∷ quoted tag) (content_text (content xs ts) ++ 93 ∷ []);
        last = ap (λ (q : Pen). q.last) ended;
        inside = subst (λ (q : Pen). p.depth ≤ q.depth) (sym ended) (open_again p.depth p3.depth w.inside);
        may = (
          ok,
          AllMayCome-append p1 (attrs ++ items) (end ∷ []) (AllMayCome-append p1 attrs items (attrs_may n xs) (subst (λ (q : Pen). AllMayCome q items) (sym (attrs_reached n xs)) w.may))
              (subst (λ (q : Pen). AllMayCome q (end ∷ [])) (sym there) (inside, tt)),
        );
      }

  walk_items : (ts : PlainTrees) (p : Pen) → IsOpen p → has_begun p.last ≡ true → WalksItems p ts
  walk_items no_trees p inside begun = record { text = sym (append-nil (brace p.last)); inside = le_refl p.depth; may = tt }
  walk_items (tree t ts) p inside begun =
      let w : Walks p t = walk_tree t p (may_inside p t inside) in
      let q = reached p (calls_of t) in
      let ws : WalksItems q ts = walk_items ts q (omega (arith, w.inside, inside)) (ap has_begun w.last) in
      let items = items_calls ts in
      let there : reached p (calls_of t ++ items) ≡ reached q items = reached-append p (calls_of t) items in
      record {
        text = ap (λ r. printed p (calls_of t ++ items) ++ brace r.last) there
            ∙ ap (λ l. l ++ brace (reached q items).last) (printed-append p (calls_of t) items)
            ∙ append_assoc (printed p (calls_of t)) (printed q items) (brace (reached q items).last)
            ∙ ap (λ l. printed p (calls_of t) ++ l) (ws.text ∙ ap (λ l. brace l ++ items_text ts) w.last)
            ∙ ap (λ l. l ++ items_text ts) w.text
            ∙ item_pieces p.last (tree_text t) (items_text ts) begun;
        inside = subst (λ (r : Pen). p.depth ≤ r.depth) (sym there) (omega (arith, w.inside, ws.inside));
        may = AllMayCome-append p (calls_of t) items w.may ws.may;
      }

-- ---- a whole element, by a fresh printer

may_begin : (t : PlainTree) → IsElement t → MayPrint fresh t
may_begin (plain.text s) e = absurd (cc)
may_begin (element tag c) e = refl

pub calls_may_come : (t : PlainTree) → IsElement t → AllMayCome fresh (calls_of t)
calls_may_come t e = (walk_tree t fresh (may_begin t e)).may

pub calls_print : (t : PlainTree) → IsElement t → printed fresh (calls_of t) ≡ tree_text t
calls_print t e = (walk_tree t fresh (may_begin t e)).text
