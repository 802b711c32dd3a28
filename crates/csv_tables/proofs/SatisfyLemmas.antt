-- The document of a table satisfies its keys exactly where no two rows agree.
use Rattle.std.proofs.Common.{◌≡◌, ◌≢◌, ℕ, zero, suc, ◌+◌, ◌<◌, ◌==◌, Bool, true, false, List, [], ◌∷◌, map, length, get_or, codes, Option, Some, Ok, IsOk, refl, ap, ap₂, sym, ◌∙◌, subst, arith, bytes_eq}
use Rattle.std.proofs.lemmas.Bool.{and_parts, and_from, eqb-true, false_from_ne_true, OnFalse_at, OnFalse_from, not-true}
use Rattle.std.specs.List.{list_all, AllByRecursion}
use Rattle.jsonml_tree.specs.Data.{PlainTree, PlainContent, content, no_trees, trees_of, list_of, string}
use Rattle.jsonml_tree.proofs.Trees.{list_of-trees_of}
use Rattle.keyed_tree.specs.Data.{PlainKey, scalar, PlainLabel, tag as tag_name}
use Rattle.key_spec.specs.Data.{PlainRule}
use Rattle.key_spec.specs.Rules.{rule_of, is_frontier}
use Rattle.key_rules.specs.Labels.{label_in, label_by, keys_from, and_then, one_of}
use Rattle.key_rules.specs.Reach.{reach}
use Rattle.key_rules.specs.Satisfies.{Satisfies, ItemsSatisfy, ItemIsGood, EachSatisfies, AreApart as ItemsApart, label_at, ok_of}
use Rattle.csv_tables.specs.Data.{PlainTable}
use Rattle.csv_tables.specs.Documents.{row_attrs, row_tree, table_tree}
use Rattle.csv_tables.specs.Keys.{attribute_path, table_rules, cell, agree, AreApart, SatisfiesItsKeys}
use Rattle.csv_tables.specs.Records.{has_field, repeats}
use Rattle.csv_tables.proofs.CellLemmas.{Different, all-different, row-named}
use Rattle.csv_tables.proofs.KeyLemmas.{root, row, three, same-tag}
use Rattle.csv_tables.proofs.TextLemmas.{bytes-same, same-bytes}

-- ---- rules and the frontier

module _ (tag : List ℕ) (keys : List (List ℕ)) where
  abbrev rules : List PlainRule
  rules = three tag keys

  root-rule : rule_of rules [] tag ≡ Some (root tag keys)
  root-rule = rw (same-tag tag keys) refl

  row-rule : rule_of rules (tag ∷ []) (codes "row") ≡ Some (row tag keys)
  row-rule = rw (same-tag tag keys) refl

  in-root : is_frontier rules (tag ∷ []) ≡ false
  in-root = rw (same-tag tag keys) refl

  in-row : is_frontier rules (tag ∷ codes "row" ∷ []) ≡ false
  in-row = rw (same-tag tag keys) refl

-- ---- the label of a row

abbrev key_of : List (List ℕ) → List (List ℕ) → List ℕ → PlainKey
key_of names cells name = scalar (string (cell names cells name))

abbrev row_label : List (List ℕ) → List (List ℕ) → List (List ℕ) → PlainLabel
row_label names keys cells = record { name = tag_name (codes "row"); keys = map (key_of names cells) keys }

abbrev row_content : List (List ℕ) → List (List ℕ) → PlainContent
row_content names cells = content (row_attrs names cells) no_trees

reach-one : (names cells : List (List ℕ)) (name : List ℕ) → Different names → length cells ≡ length names → has_field names name ≡ true
    → reach (row_content names cells) (attribute_path name) ≡ key_of names cells name ∷ []
reach-one names cells name d len e = rw (row-named names cells name d len e) refl

keys-of : (names cells keys : List (List ℕ)) (n : ℕ) → Different names → length cells ≡ length names → list_all (has_field names) keys ≡ true
    → keys_from n (map attribute_path keys) (row_content names cells) ≡ Ok (map (key_of names cells) keys)
keys-of names cells [] n d len e = refl
keys-of names cells (k ∷ keys) n d len e =
    let p = and_parts (has_field names k) (list_all (has_field names) keys) e in
    let one = reach-one names cells k d len p.0 in
    let more = keys-of names cells keys (n + 1) d len p.1 in
    ap (λ ks. and_then (one_of n ks) (λ x. and_then (keys_from (n + 1) (map attribute_path keys) (row_content names cells)) (λ xs. Ok (x ∷ xs)))) one
    ∙ ap (λ r. and_then r (λ xs. Ok (key_of names cells k ∷ xs))) more

row-labelled : (tag : List ℕ) (names cells keys : List (List ℕ)) → Different names → length cells ≡ length names → list_all (has_field names) keys ≡ true
    → label_in (three tag keys) (tag ∷ []) (codes "row") (row_content names cells) ≡ Ok (row_label names keys cells)
row-labelled tag names cells keys d len e =
    ap (λ r. label_by r (codes "row") (row_content names cells)) (row-rule tag keys)
    ∙ ap (λ r. and_then r (λ ks. Ok (record { name = tag_name (codes "row"); keys = ks }))) (keys-of names cells keys 1 d len e)

root-labelled : (tag : List ℕ) (keys : List (List ℕ)) (c : PlainContent) → label_in (three tag keys) [] tag c ≡ Ok (record { name = tag_name tag; keys = [] })
root-labelled tag keys c = ap (λ r. label_by r tag c) (root-rule tag keys)

-- ---- the labels of all rows

module _ (tag : List ℕ) (names keys : List (List ℕ)) (d : Different names) (has : list_all (has_field names) keys ≡ true) where
  abbrev IsEven : List (List (List ℕ)) → Type 0
  IsEven rows = list_all (λ (cells : List (List ℕ)). length cells == length names) rows ≡ true

  abbrev path : List (List ℕ)
  path = tag ∷ []

  at-row : (rows : List (List (List ℕ))) (i : ℕ) → IsEven rows → i < length rows → label_at (three tag keys) path (map (row_tree names) rows) i ≡ Some (row_label names keys (get_or rows i []))
  at-row [] i even low = absurd (omega arith)
  at-row (cells ∷ rows) zero even low =
      ap ok_of (row-labelled tag names cells keys d (eqb-true (length cells) (length names) (and_parts _ _ even).0) has)
  at-row (cells ∷ rows) (suc i) even low = at-row rows i (and_parts (length cells == length names) _ even).1 (omega arith)

  at-some : (rows : List (List (List ℕ))) (i : ℕ) (l : PlainLabel) → label_at (three tag keys) path (map (row_tree names) rows) i ≡ Some l → i < length rows
  at-some [] i l e = cc
  at-some (cells ∷ rows) zero l e = omega arith
  at-some (cells ∷ rows) (suc i) l e = let more = at-some rows i l e in omega (arith, more)

  all-good : (rows : List (List (List ℕ))) → IsEven rows → AllByRecursion (ItemIsGood (three tag keys) path) (map (row_tree names) rows)
  all-good [] even = tt
  all-good (cells ∷ rows) even =
      let p = and_parts (length cells == length names) _ even in
      (subst IsOk (sym (row-labelled tag names cells keys d (eqb-true (length cells) (length names) p.0) has)) refl, all-good rows p.1)

  none-inside : ItemsSatisfy (three tag keys) (tag ∷ codes "row" ∷ []) [] (Unit {0})
  none-inside = record { good = tt; apart = λ i j k l other e f. cc; inside = tt }

  all-inside : (rows : List (List (List ℕ))) → EachSatisfies (three tag keys) path (trees_of (map (row_tree names) rows))
  all-inside [] = tt
  all-inside (cells ∷ rows) = (OnFalse_from (is_frontier (three tag keys) (tag ∷ codes "row" ∷ [])) _ (λ _. none-inside), all-inside rows)

  -- ---- agreement is equality of labels

  same-key : (a b : List ℕ) → scalar (string a) ≡ scalar (string b) → a ≡ b
  same-key a b e = cc

  first-key : (a b : PlainKey) (xs ys : List PlainKey) → a ∷ xs ≡ b ∷ ys → (a ≡ b) × (xs ≡ ys)
  first-key a b xs ys e = (cc, cc)

  keys-agree : (some : List (List ℕ)) (r s : List (List ℕ)) → map (key_of names r) some ≡ map (key_of names s) some → list_all (λ name. bytes_eq (cell names r name) (cell names s name)) some ≡ true
  keys-agree [] r s e = refl
  keys-agree (k ∷ some) r s e =
      let p = first-key (key_of names r k) (key_of names s k) (map (key_of names r) some) (map (key_of names s) some) e in
      and_from (bytes_eq (cell names r k) (cell names s k)) _ (same-bytes (cell names r k) (cell names s k) (same-key (cell names r k) (cell names s k) p.0)) (keys-agree some r s p.1)

  agree-keys : (some : List (List ℕ)) (r s : List (List ℕ)) → list_all (λ name. bytes_eq (cell names r name) (cell names s name)) some ≡ true → map (key_of names r) some ≡ map (key_of names s) some
  agree-keys [] r s e = refl
  agree-keys (k ∷ some) r s e =
      let p = and_parts (bytes_eq (cell names r k) (cell names s k)) _ e in
      ap₂ (λ (x : PlainKey) (xs : List PlainKey). x ∷ xs) (ap (λ (t : List ℕ). scalar (string t)) (bytes-same (cell names r k) (cell names s k) p.0)) (agree-keys some r s p.1)

  no_both : (b : Bool) → b ≡ true → b ≡ false → ⊥
  no_both true e f = cc
  no_both false e f = cc

  some_label : (o : Option PlainLabel) (k l : PlainLabel) → o ≡ Some k → o ≡ Some l → k ≡ l
  some_label o k l e f = cc

  module _ (rows : List (List (List ℕ))) (even : IsEven rows) where
    abbrev table : PlainTable
    table = record { heading = names; rows = rows }

    abbrev items : List PlainTree
    items = map (row_tree names) rows

    apart-items : AreApart table keys → ItemsApart (three tag keys) path items
    apart-items h = λ i j k l other e f same. (
        let low = at-some rows i k e in
        let high = at-some rows j l f in
        let a = some_label (label_at (three tag keys) path items i) k (row_label names keys (get_or rows i [])) e (at-row rows i even low) in
        let b = some_label (label_at (three tag keys) path items j) l (row_label names keys (get_or rows j [])) f (at-row rows j even high) in
        let labels : row_label names keys (get_or rows i []) ≡ row_label names keys (get_or rows j []) = sym a ∙ same ∙ b in
        no_both (agree names keys (get_or rows i []) (get_or rows j [])) (keys-agree keys (get_or rows i []) (get_or rows j []) (ap (λ (m : PlainLabel). m.keys) labels)) (h i j low high other))

    items-apart : ItemsApart (three tag keys) path items → AreApart table keys
    items-apart h = λ i j low high other.
        false_from_ne_true (agree names keys (get_or rows i []) (get_or rows j []))
        (λ e. h i j (row_label names keys (get_or rows i [])) (row_label names keys (get_or rows j [])) other (at-row rows i even low) (at-row rows j even high)
        (ap (λ (ks : List PlainKey). record { name = tag_name (codes "row"); keys = ks }) (agree-keys keys (get_or rows i []) (get_or rows j []) e)))

    abbrev Below : List PlainTree → Type 0
    Below is = ItemsSatisfy (three tag keys) path is (EachSatisfies (three tag keys) path (trees_of items))

    below-from : AreApart table keys → Below (list_of (trees_of items))
    below-from h = subst Below (sym (list_of-trees_of items)) (record { good = all-good rows even; apart = apart-items h; inside = all-inside rows })

    one-item : ItemsApart (three tag keys) [] (table_tree table tag ∷ [])
    one-item = λ i j k l other e f. alone i j k l other e f
      where
        alone : (i j : ℕ) (k l : PlainLabel) → i ≢ j → label_at (three tag keys) [] (table_tree table tag ∷ []) i ≡ Some k → label_at (three tag keys) [] (table_tree table tag ∷ []) j ≡ Some l → k ≢ l
        alone zero zero k l other e f = λ same. other refl
        alone zero (suc j) k l other e f = cc
        alone (suc i) j k l other e f = cc

    satisfied : AreApart table keys → Satisfies (three tag keys) (table_tree table tag)
    satisfied h =
        record {
          good = (subst IsOk (sym (root-labelled tag keys (content [] (trees_of items)))) refl, tt);
          apart = one-item;
          inside = OnFalse_from (is_frontier (three tag keys) path) (Below (list_of (trees_of items))) (λ _. below-from h);
        }

    apart-from : Satisfies (three tag keys) (table_tree table tag) → AreApart table keys
    apart-from s =
        let inside : Below (list_of (trees_of items)) = OnFalse_at (in-root tag keys) s.inside in
        let same = subst Below (list_of-trees_of items) inside in
        items-apart same.apart

pub satisfies : (table : PlainTable) (tag : List ℕ) (keys : List (List ℕ)) → SatisfiesItsKeys table tag keys
unfolding table_rules
satisfies table tag keys = λ regular has. (
    let p = and_parts _ _ regular in
    let different = all-different table.heading (not-true (repeats [] table.heading) p.0) in
    (apart-from tag table.heading keys different has table.rows p.1, satisfied tag table.heading keys different has table.rows p.1))
