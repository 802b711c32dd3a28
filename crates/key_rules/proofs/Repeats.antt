-- The first item whose label an earlier item has: there is none exactly where the labels are pairwise different.
use Rattle.std.proofs.Common.{◌≡◌, ◌≢◌, ◌↔◌, ℕ, zero, suc, ◌+◌, ◌-◌, ◌<◌, ◌≤◌, Bool, true, false, cond, ◌||◌, IsTrue, List, [], ◌∷◌, map, take, get_or, length, Option, Some, None, refl, sym, ap, ◌∙◌, inl, inr, arith, true≢false}
use Rattle.std.proofs.lemmas.Bool.{cases_lt}
use Rattle.std.specs.Option.{option_and_then}
use Rattle.std.specs.List.{find, list_any, range_with_len, slice_get}
use Rattle.std.specs.Ordering.{is_eq}
use Rattle.jsonml_tree.specs.Data.{PlainTree}
use Rattle.jsonml_tree.specs.LentView.{lent_tree_view}
use Rattle.jsonml_tree.specs.declared.lent.LentTree.{LentTree}
use Rattle.keyed_tree.specs.Data.{PlainLabel}
use Rattle.keyed_tree.specs.Order.{label_cmp}
use Rattle.keyed_tree.specs.Laws.{label_cmp-is_eq}
use Rattle.key_rules.specs.Faults.{is_label, is_among, repeats, first_repeat}

or_false : (a b : Bool) → (a || b) ≡ false → (a ≡ false) × (b ≡ false)
or_false true b e = absurd (true≢false e)
or_false false b e = (refl, e)

not_true : (b : Bool) → ¬ IsTrue b → b ≡ false
not_true true h = absurd (h refl)
not_true false h = refl

-- ---- tests of every item of a list

any_get : {X : Type 0} (p : X → Bool) (xs : List X) → list_any p xs ≡ false → (i : ℕ) (x : X) → slice_get xs i ≡ Some x → p x ≡ false
any_get p [] h i x e = cc
any_get p (y ∷ ys) h zero x e = let two = or_false (p y) (list_any p ys) h in let same : y ≡ x = cc in let this = two.0 in cc
any_get p (y ∷ ys) h (suc i) x e = any_get p ys (or_false (p y) (list_any p ys) h).1 i x e

get_any : {X : Type 0} (p : X → Bool) (xs : List X) → ((i : ℕ) (x : X) → slice_get xs i ≡ Some x → p x ≡ false) → list_any p xs ≡ false
get_any p [] h = refl
get_any p (y ∷ ys) h = let this : p y ≡ false = h 0 y refl in rw this (get_any p ys (λ i x e. h (suc i) x e))

get_take : {X : Type 0} (n : ℕ) (xs : List X) (i : ℕ) (x : X) → slice_get (take n xs) i ≡ Some x → (i < n) × (slice_get xs i ≡ Some x)
get_take zero xs i x e = cc
get_take (suc n) [] i x e = cc
get_take (suc n) (y ∷ ys) zero x e = (omega arith, e)
get_take (suc n) (y ∷ ys) (suc i) x e = let rest = get_take n ys i x e in (omega arith, rest.1)

take_get : {X : Type 0} (n : ℕ) (xs : List X) (i : ℕ) → i < n → slice_get (take n xs) i ≡ slice_get xs i
take_get zero xs i h = absurd (omega arith)
take_get (suc n) [] i h = refl
take_get (suc n) (y ∷ ys) zero h = refl
take_get (suc n) (y ∷ ys) (suc i) h = take_get n ys i (omega arith)

get_below : {X : Type 0} (xs : List X) (i : ℕ) (x : X) → slice_get xs i ≡ Some x → i < length xs
get_below [] i x e = cc
get_below (y ∷ ys) zero x e = omega arith
get_below (y ∷ ys) (suc i) x e = let rest = get_below ys i x e in omega arith

-- ---- the least number that passes

find_none : (p : ℕ → Bool) (a n : ℕ) → find p (range_with_len a n) ≡ None → (i : ℕ) → a ≤ i → i < a + n → p i ≡ false
find_none p a zero e i low high = absurd (omega arith)
find_none p a (suc n) e i low high =
    elim (p a) as (λ b. p a ≡ b → cond b (Some a) (find p (range_with_len (a + 1) n)) ≡ None → p i ≡ false) [
      | true ↦ λ t f. cc
      | false ↦ λ t f. elim (cases_lt a i) [
        | inl h ↦ find_none p (a + 1) n f i (omega arith) (omega arith)
        | inr h ↦ (let same : i ≡ a = omega arith in cc)
      ]
    ] refl e

none_find : (p : ℕ → Bool) (a n : ℕ) → ((i : ℕ) → a ≤ i → i < a + n → p i ≡ false) → find p (range_with_len a n) ≡ None
none_find p a zero h = refl
none_find p a (suc n) h = let this : p a ≡ false = h a (omega arith) (omega arith) in rw this (none_find p (a + 1) n (λ i low high. h i (omega arith) (omega arith)))

-- ---- labels in a row, none of them twice

abbrev pub Differ : List (Option PlainLabel) → Type 0
Differ ls = (i j : ℕ) (k l : PlainLabel) → i < j → slice_get ls i ≡ Some (Some k) → slice_get ls j ≡ Some (Some l) → k ≢ l

other_label : (k l : PlainLabel) → is_eq (label_cmp k l) ≡ false → k ≢ l
other_label k l h e = true≢false (sym ((label_cmp-is_eq k l).1 e) ∙ h)

label_apart : (k l : PlainLabel) → k ≢ l → is_eq (label_cmp k l) ≡ false
label_apart k l h = not_true _ (λ t. h ((label_cmp-is_eq k l).0 t))

repeats_at : (ls : List (Option PlainLabel)) (j : ℕ) (l : PlainLabel) → slice_get ls j ≡ Some (Some l) → repeats ls j ≡ list_any (is_label l) (take j ls)
repeats_at ls j l e = rw e

apart_from_none : (ls : List (Option PlainLabel)) → first_repeat ls ≡ None → Differ ls
apart_from_none ls e i j k l low at_i at_j =
    let none : repeats ls j ≡ false = find_none (repeats ls) 0 (length ls) e j (omega arith) (let h = get_below ls j (Some l) at_j in omega arith) in
    let any : list_any (is_label l) (take j ls) ≡ false = sym (repeats_at ls j l at_j) ∙ none in
    other_label k l (any_get (is_label l) (take j ls) any i (Some k) (take_get j ls i low ∙ at_i))

no_repeat : (ls : List (Option PlainLabel)) → Differ ls → (j : ℕ) → repeats ls j ≡ false
no_repeat ls d j =
    elim (slice_get ls j) as (λ o. slice_get ls j ≡ o → is_among (take j ls) (option_and_then (λ l. l) o) ≡ false) [
      | None ↦ λ e. refl
      | Some o ↦ elim o as (λ o. slice_get ls j ≡ Some o → is_among (take j ls) o ≡ false) [
        | None ↦ λ e. refl
        | Some l ↦ λ e. get_any (is_label l) (take j ls) (λ i x at. elim x as (λ x. slice_get (take j ls) i ≡ Some x → is_label l x ≡ false) [
          | None ↦ λ at. refl
          | Some k ↦ λ at. (let two = get_take j ls i (Some k) at in label_apart k l (d i j k l two.0 two.1 e))
        ] at)
      ]
    ] refl

pub first_repeat-None : (ls : List (Option PlainLabel)) → (first_repeat ls ≡ None) ↔ Differ ls
first_repeat-None ls = (apart_from_none ls, λ d. none_find (repeats ls) 0 (length ls) (λ j low high. no_repeat ls d j))

-- ---- one item on

-- the least position from this one on whose label an earlier item has
abbrev pub repeat_from : List (Option PlainLabel) → ℕ → Option ℕ
repeat_from ls i = find (repeats ls) (range_with_len i (length ls - i))

pub repeat_from-start : (ls : List (Option PlainLabel)) → first_repeat ls ≡ repeat_from ls 0
repeat_from-start ls = let e : length ls - 0 ≡ length ls = omega arith in rw e refl

pub repeat_from-end : (ls : List (Option PlainLabel)) (i : ℕ) → length ls ≤ i → repeat_from ls i ≡ None
repeat_from-end ls i h = let e : length ls - i ≡ 0 = omega arith in rw e refl

pub repeat_from-more : (ls : List (Option PlainLabel)) (i : ℕ) → i < length ls → repeat_from ls i ≡ cond (repeats ls i) (Some i) (repeat_from ls (i + 1))
repeat_from-more ls i h = let e : length ls - i ≡ suc (length ls - (i + 1)) = omega arith in rw e refl

get_cond : {A : Type 0} (b : Bool) (x y : A) → b ≡ false → cond b x y ≡ y
get_cond b x y e = rw e refl

-- an item without a label repeats nothing
pub repeat_from-none : (ls : List (Option PlainLabel)) (i : ℕ) → slice_get ls i ≡ Some None → repeat_from ls i ≡ repeat_from ls (i + 1)
repeat_from-none ls i at =
    let low : i < length ls = get_below ls i None at in
    let none : repeats ls i ≡ false = rw at refl in
    repeat_from-more ls i low ∙ get_cond (repeats ls i) (Some i) (repeat_from ls (i + 1)) none

pub repeat_from-some : (ls : List (Option PlainLabel)) (i : ℕ) (l : PlainLabel) → slice_get ls i ≡ Some (Some l)
    → repeat_from ls i ≡ cond (is_among (take i ls) (Some l)) (Some i) (repeat_from ls (i + 1))
repeat_from-some ls i l at =
    let low : i < length ls = get_below ls i (Some l) at in
    let this : repeats ls i ≡ is_among (take i ls) (Some l) = repeats_at ls i l at in
    repeat_from-more ls i low ∙ ap (λ b. cond b (Some i) (repeat_from ls (i + 1))) this

or_assoc : (a b c : Bool) → (a || (b || c)) ≡ ((a || b) || c)
or_assoc true b c = refl
or_assoc false b c = refl

-- what is among one more item
pub any_take-more : {X : Type 0} (p : X → Bool) (xs : List X) (i : ℕ) (x : X) → slice_get xs i ≡ Some x → list_any p (take (i + 1) xs) ≡ (list_any p (take i xs) || p x)
any_take-more p [] i x e = cc
any_take-more p (y ∷ ys) zero x e = let same : y ≡ x = cc in rw same (or_false_right (p x))
  where
    or_false_right : (b : Bool) → (b || false) ≡ b
    or_false_right true = refl
    or_false_right false = refl
any_take-more p (y ∷ ys) (suc i) x e =
    let next : suc i + 1 ≡ suc (i + 1) = omega arith in
    rw next (ap (λ b. p y || b) (any_take-more p ys i x e) ∙ or_assoc (p y) (list_any p (take i ys)) (p x))

-- the label of the item at a position
pub labels_at : (f : PlainTree → Option PlainLabel) (items : List LentTree) (i : ℕ) (x : LentTree) → i < length items → x ≡ get_or items i x → slice_get (map f (map lent_tree_view items)) i ≡ Some (f (lent_tree_view x))
labels_at f [] i x h e = absurd (omega arith)
labels_at f (t ∷ ts) zero x h e = ap (λ y. Some (f (lent_tree_view y))) (sym e)
labels_at f (t ∷ ts) (suc i) x h e = labels_at f ts i x (omega arith) e
