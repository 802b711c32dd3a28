-- What a look at the items of an inner element knows, one after the other.
use Rattle.std.proofs.Common.{◌≡◌, ℕ, ◌+◌, ◌<◌, Bool, true, false, cond, not, ◌||◌, List, map, take, drop, get_or, length, Option, Some, None, IfSome, refl, sym, ap, ◌∙◌, arith}
use Rattle.std.specs.BTreeSet.{BTreeSet, contains}
use Rattle.std.specs.Option.{option_or}
use Rattle.std.specs.List.{slice_get, list_any}
use Rattle.std.specs.Ordering.{on, is_eq}
use Rattle.jsonml_tree.specs.LentView.{lent_tree_view}
use Rattle.jsonml_tree.specs.declared.lent.LentTree.{LentTree}
use Rattle.keyed_tree.specs.Data.{PlainLabel}
use Rattle.keyed_tree.specs.Order.{label_cmp}
use Rattle.key_spec.specs.Data.{PlainRule}
use Rattle.key_rules.specs.LentView.{lent_label_view}
use Rattle.key_rules.specs.Satisfies.{item_label}
use Rattle.key_rules.specs.declared.lent.LentLabel.{LentLabel}
use Rattle.key_rules.specs.Faults.{item_fault, first_bad_item, is_label, is_among, first_repeat}
use Rattle.key_rules.proofs.Repeats.{repeat_from, repeat_from-none, repeat_from-some, any_take-more, labels_at}
use Rattle.key_rules.proofs.Rows.{map-more}

abbrev pub labels_of : List PlainRule → List (List ℕ) → List LentTree → List (Option PlainLabel)
labels_of rules path items = map (item_label rules path) (map lent_tree_view items)

abbrev pub has_label : BTreeSet LentLabel → LentLabel → Bool
has_label = contains (on lent_label_view label_cmp)

-- before the item at i: none so far is bad, the set has their labels, and `repeated` is the first of them that repeats one
pub record Looked (rules : List PlainRule) (path : List (List ℕ)) (at : ℕ → List ℕ) (items : List LentTree) (i : ℕ) (labels : BTreeSet LentLabel) (repeated : Option ℕ) : Type 0 where
  pub bad : first_bad_item rules path at 1 (map lent_tree_view items) ≡ first_bad_item rules path at (i + 1) (map lent_tree_view (drop i items))
  pub seen : (q : LentLabel) → has_label labels q ≡ is_among (take i (labels_of rules path items)) (Some (lent_label_view q))
  pub repeat : first_repeat (labels_of rules path items) ≡ option_or repeated (repeat_from (labels_of rules path items) i)
  pub before : IfSome repeated (λ n. n < i)

IfSome-later : (r : Option ℕ) (i : ℕ) → IfSome r (λ n. n < i) → IfSome r (λ n. n < i + 1)
IfSome-later None i h = tt
IfSome-later (Some n) i h = omega arith

IfSome-or : (r : Option ℕ) (i : ℕ) → IfSome r (λ n. n < i) → IfSome (option_or r (Some i)) (λ n. n < i + 1)
IfSome-or None i h = omega arith
IfSome-or (Some n) i h = omega arith

option_or_assoc : (r : Option ℕ) (i : ℕ) (o : Option ℕ) → option_or (option_or r (Some i)) o ≡ option_or r (Some i)
option_or_assoc None i o = refl
option_or_assoc (Some n) i o = refl

or_comm : (a b : Bool) → (a || b) ≡ cond b true a
or_comm true true = refl
or_comm true false = refl
or_comm false true = refl
or_comm false false = refl

module _ (rules : List PlainRule) (path : List (List ℕ)) (at : ℕ → List ℕ) (items : List LentTree) (i : ℕ) (x : LentTree) where
  bad-more : i < length items → x ≡ get_or items i x → item_fault rules path (at (i + 1)) (lent_tree_view x) ≡ None
      → first_bad_item rules path at (i + 1) (map lent_tree_view (drop i items)) ≡ first_bad_item rules path at (i + 1 + 1) (map lent_tree_view (drop (i + 1) items))
  bad-more low is good =
      let rest = first_bad_item rules path at (i + 1 + 1) (map lent_tree_view (drop (i + 1) items)) in
      ap (first_bad_item rules path at (i + 1)) (map-more lent_tree_view items i x low is) ∙ ap (λ o. option_or o rest) good

  -- an item that is dropped
  pub looked-dropped : (s : BTreeSet LentLabel) (r : Option ℕ) → i < length items → x ≡ get_or items i x
      → item_fault rules path (at (i + 1)) (lent_tree_view x) ≡ None → item_label rules path (lent_tree_view x) ≡ None → Looked rules path at items i s r → Looked rules path at items (i + 1) s r
  looked-dropped s r low is good label h =
      let ls = labels_of rules path items in
      let here : slice_get ls i ≡ Some None = labels_at (item_label rules path) items i x low is ∙ ap (λ o. Some o) label in
      record {
        bad = h.bad ∙ bad-more low is good;
        seen = λ q. h.seen q ∙ sym (any_take-more (is_label (lent_label_view q)) ls i None here ∙ or_comm (list_any (is_label (lent_label_view q)) (take i ls)) false);
        repeat = h.repeat ∙ ap (option_or r) (repeat_from-none ls i here);
        before = IfSome-later r i h.before;
      }

  seen-more : (s n : BTreeSet LentLabel) (l : LentLabel) (r : Option ℕ) → i < length items → x ≡ get_or items i x → item_label rules path (lent_tree_view x) ≡ Some (lent_label_view l)
      → ((q : LentLabel) → has_label n q ≡ cond (is_eq (label_cmp (lent_label_view l) (lent_label_view q))) true (has_label s q)) → Looked rules path at items i s r
      → (q : LentLabel) → has_label n q ≡ is_among (take (i + 1) (labels_of rules path items)) (Some (lent_label_view q))
  seen-more s n l r low is label added h q =
      let ls = labels_of rules path items in
      let here : slice_get ls i ≡ Some (Some (lent_label_view l)) = labels_at (item_label rules path) items i x low is ∙ ap (λ o. Some o) label in
      let more = any_take-more (is_label (lent_label_view q)) ls i (Some (lent_label_view l)) here in
      let swap = or_comm (list_any (is_label (lent_label_view q)) (take i ls)) (is_eq (label_cmp (lent_label_view l) (lent_label_view q))) in
      added q ∙ ap (cond (is_eq (label_cmp (lent_label_view l) (lent_label_view q))) true) (h.seen q) ∙ sym (more ∙ swap)

  -- an element whose label is new
  pub looked-new : (s n : BTreeSet LentLabel) (l : LentLabel) (r : Option ℕ) → i < length items → x ≡ get_or items i x
      → item_fault rules path (at (i + 1)) (lent_tree_view x) ≡ None → item_label rules path (lent_tree_view x) ≡ Some (lent_label_view l)
      → ((q : LentLabel) → has_label n q ≡ cond (is_eq (label_cmp (lent_label_view l) (lent_label_view q))) true (has_label s q)) → has_label s l ≡ false
      → Looked rules path at items i s r → Looked rules path at items (i + 1) n r
  looked-new s n l r low is good label added new h =
      let ls = labels_of rules path items in
      let here : slice_get ls i ≡ Some (Some (lent_label_view l)) = labels_at (item_label rules path) items i x low is ∙ ap (λ o. Some o) label in
      record {
        bad = h.bad ∙ bad-more low is good;
        seen = seen-more s n l r low is label added h;
        repeat = h.repeat ∙ ap (option_or r) (repeat_from-some ls i (lent_label_view l) here ∙ ap (λ b. cond b (Some i) (repeat_from ls (i + 1))) (sym (h.seen l) ∙ new));
        before = IfSome-later r i h.before;
      }

  -- an element whose label an earlier one has
  pub looked-repeated : (s n : BTreeSet LentLabel) (l : LentLabel) (r : Option ℕ) → i < length items → x ≡ get_or items i x
      → item_fault rules path (at (i + 1)) (lent_tree_view x) ≡ None → item_label rules path (lent_tree_view x) ≡ Some (lent_label_view l)
      → ((q : LentLabel) → has_label n q ≡ cond (is_eq (label_cmp (lent_label_view l) (lent_label_view q))) true (has_label s q)) → has_label s l ≡ true
      → Looked rules path at items i s r → Looked rules path at items (i + 1) n (option_or r (Some i))
  looked-repeated s n l r low is good label added old h =
      let ls = labels_of rules path items in
      let here : slice_get ls i ≡ Some (Some (lent_label_view l)) = labels_at (item_label rules path) items i x low is ∙ ap (λ o. Some o) label in
      let this = ap (option_or r) (repeat_from-some ls i (lent_label_view l) here ∙ ap (λ b. cond b (Some i) (repeat_from ls (i + 1))) (sym (h.seen l) ∙ old)) in
      record {
        bad = h.bad ∙ bad-more low is good;
        seen = seen-more s n l r low is label added h;
        repeat = h.repeat ∙ this ∙ sym (option_or_assoc r i (repeat_from ls (i + 1)));
        before = IfSome-or r i h.before;
      }

-- what an insert into a set tells: whether the key was new
pub was_there : (a b : Bool) → a ≡ not b → a ≡ false → b ≡ true
was_there a true e f = refl
was_there a false e f = cc

pub was_new : (a b : Bool) → a ≡ not b → a ≡ true → b ≡ false
was_new a true e f = cc
was_new a false e f = refl
