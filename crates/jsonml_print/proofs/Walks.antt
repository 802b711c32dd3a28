-- Calls of a printer, one list after another.
use Rattle.std.proofs.Common.{◌≡◌, ℕ, ◌+◌, ◌<◌, suc, List, [], ◌∷◌, ◌++◌, length, map, arith, ◌≤◌, take, drop, get_or, Result, Ok, Err, refl, sym, ap, ◌∙◌, subst, append_assoc, append-nil, add-one, drop-cons, take-append-drop}
use Rattle.std.specs.List.{flat_map}
use Rattle.std.proofs.lemmas.List.{take_more}
use Rattle.std.proofs.lemmas.Grind.{flat_map-append}
use Rattle.std.specs.Result.{IsErr}
use Rattle.xa_outside.specs.Taken.{Taken, Takes}
use Rattle.xa_outside.proofs.Output.{Takes-trans}
use Rattle.xa_outside.specs.Taken.{TakesPrefix}
use Rattle.xa_outside.proofs.Output.{TakesPrefix-after, TakesPrefix-more}
use Rattle.jsonml_tree.specs.Data.{PlainAttr, PlainTree, PlainContent, content, trees_of, tree_depth, content_depth, trees_depth}
use Rattle.jsonml_print.specs.Pen.{Pen}
use Rattle.jsonml_print.specs.Calls.{Call, attribute, after, piece, printed, reached, AllMayCome, Prints, calls_of, content_calls, items_calls}

pub printed-append : (p : Pen) (cs ds : List Call) → printed p (cs ++ ds) ≡ printed p cs ++ printed (reached p cs) ds
printed-append p [] ds = refl
printed-append p (c ∷ cs) ds = ap (λ l. piece p c ++ l) (printed-append (after p c) cs ds) ∙ sym (append_assoc (piece p c) (printed (after p c) cs) _)

pub reached-append : (p : Pen) (cs ds : List Call) → reached p (cs ++ ds) ≡ reached (reached p cs) ds
reached-append p [] ds = refl
reached-append p (c ∷ cs) ds = reached-append (after p c) cs ds

pub AllMayCome-append : (p : Pen) (cs ds : List Call) → AllMayCome p cs → AllMayCome (reached p cs) ds → AllMayCome p (cs ++ ds)
AllMayCome-append p [] ds x y = y
AllMayCome-append p (c ∷ cs) ds x y = (x.0, AllMayCome-append (after p c) cs ds x.1 y)

-- the first of several may come, and the others where the printer then stands
pub AllMayCome-front : (p : Pen) (cs ds : List Call) → AllMayCome p (cs ++ ds) → AllMayCome p cs
AllMayCome-front p [] ds x = tt
AllMayCome-front p (c ∷ cs) ds x = (x.0, AllMayCome-front (after p c) cs ds x.1)

pub AllMayCome-back : (p q : Pen) (cs ds : List Call) → q ≡ reached p cs → AllMayCome p (cs ++ ds) → AllMayCome q ds
AllMayCome-back p q [] ds e x = subst (λ (r : Pen). AllMayCome r ds) (sym e) x
AllMayCome-back p q (c ∷ cs) ds e x = AllMayCome-back (after p c) q cs ds e x.1

-- ---- what was written

module _ {T E : Type 0} where
  -- calls behind others that have been made
  pub Prints-after : (a b d : Taken) (p q r : Pen) (cs ds : List Call) (result : Result T E) → Takes a b (printed p cs) → q ≡ reached p cs → Prints b d q r ds result → Prints a d p r (cs ++ ds) result
  Prints-after a b d p q r cs ds (Ok x) w e z =
      record {
        bytes = subst (Takes a d) (sym (printed-append p cs ds ∙ ap (λ s. printed p cs ++ printed s ds) (sym e))) (Takes-trans a b d (printed p cs) (printed q ds) w z.bytes);
        pen = z.pen ∙ ap (λ s. reached s ds) e ∙ sym (reached-append p cs ds);
      }
  Prints-after a b d p q r cs ds (Err x) w e z =
      record {
        bytes = subst (TakesPrefix a d) (sym (printed-append p cs ds ∙ ap (λ s. printed p cs ++ printed s ds) (sym e))) (TakesPrefix-after a b d (printed p cs) (printed q ds) w z.bytes);
        pen = tt;
      }

  -- a call failed, and the others were not made
  pub Prints-failed : (a b : Taken) (p r : Pen) (cs ds : List Call) (result : Result T E) → IsErr result → TakesPrefix a b (printed p cs) → Prints a b p r (cs ++ ds) result
  Prints-failed a b p r cs ds (Ok x) e w = absurd (cc)
  Prints-failed a b p r cs ds (Err x) e w =
      record { bytes = subst (TakesPrefix a b) (sym (printed-append p cs ds)) (TakesPrefix-more a b (printed p cs) (printed (reached p cs) ds) w); pen = tt }

  -- the same, behind others that have been made
  pub Prints-in : (a b d : Taken) (p q r : Pen) (whole cs ds es : List Call) (result : Result T E) → whole ≡ cs ++ (ds ++ es) → IsErr result → Takes a b (printed p cs) → q ≡ reached p cs → TakesPrefix b d (printed q ds)
      → Prints a d p r whole result
  Prints-in a b d p q r whole cs ds es result is e w at z =
      subst (λ (l : List Call). Prints a d p r l result) (sym is) (Prints-after a b d p q r cs (ds ++ es) result w at (Prints-failed b d q r ds es result e z))

-- ---- the calls of one element of a list after another

module _ {X : Type 0} (f : X → List Call) where
  flat_map-more : (xs : List X) (i : ℕ) (d : X) → i < length xs → flat_map f (take (i + 1) xs) ≡ flat_map f (take i xs) ++ f (get_or xs i d)
  flat_map-more xs i d within = ap (flat_map f) (take_more xs i d within) ∙ flat_map-append f (take i xs) (get_or xs i d ∷ []) ∙ ap (λ l. flat_map f (take i xs) ++ l) (append-nil (f (get_or xs i d)))

  flat_map-at : (xs : List X) (i : ℕ) (d : X) → i < length xs → flat_map f xs ≡ flat_map f (take i xs) ++ (f (get_or xs i d) ++ flat_map f (drop (suc i) xs))
  flat_map-at xs i d within = ap (flat_map f) (sym (take-append-drop i xs)) ∙ flat_map-append f (take i xs) (drop i xs) ∙ ap (λ l. flat_map f (take i xs) ++ flat_map f l) (drop-cons xs i d within)

  pub walk_stop : {T E : Type 0} (a b d : Taken) (p q r : Pen) (xs : List X) (i : ℕ) (x : X) (result : Result T E) → i < length xs → Takes a b (printed p (flat_map f (take i xs))) → q ≡ reached p (flat_map f (take i xs))
      → IsErr result → TakesPrefix b d (printed q (f (get_or xs i x))) → Prints a d p r (flat_map f xs) result
  walk_stop a b d p q r xs i x result within w e err z =
      Prints-in a b d p q r (flat_map f xs) (flat_map f (take i xs)) (f (get_or xs i x)) (flat_map f (drop (suc i) xs)) result (flat_map-at xs i x within) err w e z

  pub walk_bytes : (a b d : Taken) (p q : Pen) (xs : List X) (i : ℕ) (x : X) → i < length xs → Takes a b (printed p (flat_map f (take i xs))) → q ≡ reached p (flat_map f (take i xs)) → Takes b d (printed q (f (get_or xs i x)))
      → Takes a d (printed p (flat_map f (take (i + 1) xs)))
  walk_bytes a b d p q xs i x within w e z =
      subst (Takes a d) (sym (ap (printed p) (flat_map-more xs i x within) ∙ printed-append p (flat_map f (take i xs)) (f (get_or xs i x)) ∙ ap (λ s. printed p (flat_map f (take i xs)) ++ printed s (f (get_or xs i x))) (sym e)))
      (Takes-trans a b d _ _ w z)

  pub walk_pen : (p q r : Pen) (xs : List X) (i : ℕ) (x : X) → i < length xs → q ≡ reached p (flat_map f (take i xs)) → r ≡ reached q (f (get_or xs i x)) → r ≡ reached p (flat_map f (take (i + 1) xs))
  walk_pen p q r xs i x within e z =
      z ∙ ap (λ s. reached s (f (get_or xs i x))) e ∙ sym (ap (reached p) (flat_map-more xs i x within) ∙ reached-append p (flat_map f (take i xs)) (f (get_or xs i x)))

  turn : (xs : List X) (i : ℕ) (x : X) → i < length xs → flat_map f (drop i xs) ≡ f (get_or xs i x) ++ flat_map f (drop (i + 1) xs)
  turn xs i x within = ap (flat_map f) (drop-cons xs i x within) ∙ ap (λ n. f (get_or xs i x) ++ flat_map f (drop n xs)) (sym (add-one i))

  -- what may come next, and after it
  pub walk_now : (q : Pen) (xs : List X) (i : ℕ) (x : X) → i < length xs → AllMayCome q (flat_map f (drop i xs)) → AllMayCome q (f (get_or xs i x))
  walk_now q xs i x within may = AllMayCome-front q (f (get_or xs i x)) (flat_map f (drop (i + 1) xs)) (subst (AllMayCome q) (turn xs i x within) may)

  pub walk_rest : (q r : Pen) (xs : List X) (i : ℕ) (x : X) → i < length xs → r ≡ reached q (f (get_or xs i x)) → AllMayCome q (flat_map f (drop i xs)) → AllMayCome r (flat_map f (drop (i + 1) xs))
  walk_rest q r xs i x within e may = AllMayCome-back q r (f (get_or xs i x)) (flat_map f (drop (i + 1) xs)) e (subst (AllMayCome q) (turn xs i x within) may)

-- the calls of attributes and of items, one after another
attrs_calls-is : {Y : Type 0} (named : Y → PlainAttr) (xs : List Y) → flat_map (λ x. attribute (named x) ∷ []) xs ≡ map attribute (map named xs)
attrs_calls-is named [] = refl
attrs_calls-is named (x ∷ xs) = ap (λ l. attribute (named x) ∷ l) (attrs_calls-is named xs)

-- the same of trees of either kind, which are seen through a view
module _ {X : Type 0} (view : X → PlainTree) where
  items_calls-is : (ts : List X) → flat_map (λ t. calls_of (view t)) ts ≡ items_calls (trees_of (map view ts))
  items_calls-is [] = refl
  items_calls-is (t ∷ ts) = ap (λ l. calls_of (view t) ++ l) (items_calls-is ts)

  pub content_calls-is : {Y : Type 0} (named : Y → PlainAttr) (c : PlainContent) (xs ys : List Y) (ts us : List X) → c ≡ content (map named ys) (trees_of (map view us)) → xs ≡ ys → ts ≡ us
      → content_calls c ≡ flat_map (λ x. attribute (named x) ∷ []) xs ++ flat_map (λ t. calls_of (view t)) ts
  content_calls-is named c xs ys ts us is e f =
      ap content_calls is
      ∙ ap (λ l. l ++ items_calls (trees_of (map view us))) (sym (attrs_calls-is named ys) ∙ ap (flat_map (λ x. attribute (named x) ∷ [])) (sym e))
      ∙ ap (λ l. flat_map (λ x. attribute (named x) ∷ []) xs ++ l) (sym (items_calls-is us) ∙ ap (flat_map (λ t. calls_of (view t))) (sym f))

  pub content_depth-is : (c : PlainContent) (xs : List PlainAttr) (ts us : List X) → c ≡ content xs (trees_of (map view us)) → ts ≡ us → content_depth c ≡ trees_depth (trees_of (map view ts))
  content_depth-is c xs ts us is e = ap content_depth is ∙ ap (λ l. trees_depth (trees_of (map view l))) (sym e)

  -- an item nests no deeper than all that are left, and these no deeper than before
  pub rest_depth-le : (ts : List X) (i : ℕ) (d : X) → i < length ts → trees_depth (trees_of (map view (drop (i + 1) ts))) ≤ trees_depth (trees_of (map view (drop i ts)))
  rest_depth-le ts i d within = omega (arith, ap (λ l. trees_depth (trees_of (map view l))) (drop-cons ts i d within), ap (λ n. trees_depth (trees_of (map view (drop n ts)))) (add-one i))

  pub item_depth-le : (ts : List X) (i : ℕ) (t : X) → i < length ts → t ≡ get_or ts i t → trees_depth (trees_of (map view (drop i ts))) ≤ trees_depth (trees_of (map view ts)) → tree_depth (view t) ≤ trees_depth (trees_of (map view ts))
  item_depth-le ts i t within is shallow = omega (arith, ap (λ u. tree_depth (view u)) is, ap (λ l. trees_depth (trees_of (map view l))) (drop-cons ts i t within), shallow)

-- for callers: several calls, one list after another
pub ruleset walks = (printed-append, reached-append, AllMayCome-append, AllMayCome-front, AllMayCome-back, Prints-after, Prints-failed)
