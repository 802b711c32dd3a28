-- The specification of a table is a closed list of rules, and its canonical text is three lines.
use Rattle.std.proofs.Common.{Bool, ◌≡◌, ℕ, ◌≤◌, true, false, ◌&&◌, ◌||◌, ◌⊎◌, inl, inr, List, [], ◌∷◌, ◌++◌, map, flat_map, length, codes, None, Result, Ok, Err, IsUtf8, String, Global, refl, ap, ap₂, sym, ◌∙◌, subst, append_assoc, arith, bytes_eq, not, IsTrue, ◌↔◌}
use Rattle.std.proofs.lemmas.Bool.{or_from, and_right, le-ltb, not-false, false≢true}
use Rattle.std.proofs.lemmas.Cmp.{tied_itself, nat_list_cmp_total}
use Rattle.std.proofs.lemmas.List.{length-map, append-nil}
use Rattle.std.specs.List.{list_all, list_any, AllByRecursion, Contains}
use Rattle.std.specs.List.Sorted.{IsStrictlySortedBy}
use Rattle.std.specs.declared.cmp.Ordering.TheVariants.{Less, Equal}
use Rattle.std.specs.Prelude.{nat_lt}
use Rattle.key_spec.specs.Data.{PlainPath, PlainRule, PlainSpecFault}
use Rattle.key_spec.specs.View.{IsRefusal, names_view}
use Rattle.key_spec.specs.declared.fault.SpecFault.{SpecFault}
use Rattle.key_spec.specs.declared.fault.SpecFault.TheVariants.{Bad}
use Rattle.std.proofs.lemmas.Str.{IsUtf8-string_bytes}
use Rattle.key_spec.specs.Names.{is_name, is_named, is_named_path}
use Rattle.key_spec.specs.Rules.{rule_cmp, name_cmp}
use Rattle.key_spec.specs.Canonical.{canonical, paths_text, rule_text}
use Rattle.key_spec.specs.Closed as closed
use Rattle.key_spec.specs.Closed.{paths_why, clashes, exceeds, is_dot, is_same_path, target_of, implied_by, implied_along, frontier_ends, end_at}
use Rattle.key_spec.specs.ClosedList.{IsClosedList}
use Rattle.key_spec.proofs.CanonicalLines.{IsTextPath, IsText}
use Rattle.key_spec.proofs.Members.{In, from-Contains, to-Contains}
use Rattle.key_spec.proofs.RoundTrip.{closed-canonical}
use Rattle.csv_tables.specs.Keys.{attribute_path, rule_at, table_rules, AreKeys}
use Rattle.csv_tables.specs.Records.{has_field, repeats}

-- ---- the key paths

named-paths : (keys : List (List ℕ)) → list_all is_named_path (map attribute_path keys) ≡ list_all is_name keys
named-paths [] = refl
named-paths (k ∷ keys) = ap (λ b. is_name k && b) (named-paths keys)

any-same : (k : List ℕ) (earlier : List (List ℕ)) → list_any (is_same_path (attribute_path k)) (map attribute_path earlier) ≡ has_field earlier k
any-same k [] = refl
any-same k (x ∷ earlier) = ap (λ b. bytes_eq k x || b) (any-same k earlier)

map-last : (earlier : List (List ℕ)) (k : List ℕ) → map attribute_path (earlier ++ k ∷ []) ≡ map attribute_path earlier ++ attribute_path k ∷ []
map-last [] k = refl
map-last (x ∷ earlier) k = ap (λ (ps : List PlainPath). attribute_path x ∷ ps) (map-last earlier k)

same-repeats : (earlier keys : List (List ℕ)) → closed.repeats (map attribute_path earlier) (map attribute_path keys) ≡ repeats earlier keys
same-repeats earlier [] = refl
same-repeats earlier (k ∷ keys) =
    ap₂ (λ a b. a || b) (any-same k earlier) (ap (λ ps. closed.repeats ps (map attribute_path keys)) (sym (map-last earlier k)) ∙ same-repeats (earlier ++ k ∷ []) keys)

no-dot : (keys : List (List ℕ)) → list_any is_dot (map attribute_path keys) ≡ false
no-dot [] = refl
no-dot (k ∷ keys) = no-dot keys

no-tags : (keys : List (List ℕ)) → list_any (λ (path : PlainPath). nat_lt 8 (length path.tags)) (map attribute_path keys) ≡ false
no-tags [] = refl
no-tags (k ∷ keys) = no-tags keys

keys-clash : (keys : List (List ℕ)) → repeats [] keys ≡ false → clashes (map attribute_path keys) ≡ false
keys-clash keys e =
    or_from (closed.repeats [] (map attribute_path keys)) _ (same-repeats [] keys ∙ e) (and_right (nat_lt 1 (length (map attribute_path keys))) (list_any is_dot (map attribute_path keys)) (no-dot keys))

keys-exceed : (keys : List (List ℕ)) → length keys ≤ 16 → exceeds (map attribute_path keys) ≡ false
keys-exceed keys few =
    let len = length-map keys attribute_path in
    or_from (nat_lt 16 (length (map attribute_path keys))) _ (le-ltb 16 (length (map attribute_path keys)) (omega (arith, len, few))) (no-tags keys)

keys-why : (keys : List (List ℕ)) → AreKeys keys → paths_why (map attribute_path keys) ≡ None
keys-why keys h = rw (keys-clash keys h.different) (rw (keys-exceed keys h.few) refl)

none-implied : (target : List (List ℕ)) (keys : List (List ℕ)) → flat_map (λ (path : PlainPath). implied_along target path.tags) (map attribute_path keys) ≡ []
none-implied target [] = refl
none-implied target (k ∷ keys) = none-implied target keys

no-ends : (target : List (List ℕ)) (keys : List (List ℕ)) → flat_map (end_at target) (map attribute_path keys) ≡ []
no-ends target [] = refl
no-ends target (k ∷ keys) = no-ends target keys

pub row_utf8 : IsUtf8 (codes "row")
unfolding lib.Utf8.encode
row_utf8 = (codes "row", (refl, refl))

cell_utf8 : IsUtf8 (codes "cell")
unfolding lib.Utf8.encode
cell_utf8 = (codes "cell", (refl, refl))

-- ---- the rules

module _ (tag : List ℕ) (keys : List (List ℕ)) where
  abbrev pub root : PlainRule
  root = rule_at [] tag []

  abbrev pub row : PlainRule
  row = rule_at (tag ∷ []) (codes "row") (map attribute_path keys)

  abbrev pub fields : PlainRule
  fields = rule_at (tag ∷ codes "row" ∷ []) (codes "cell") []

  abbrev pub three : List PlainRule
  three = root ∷ row ∷ fields ∷ []

  each : (P : PlainRule → Type 0) → P root → P row → P fields → (r : PlainRule) → In r three → P r
  each P a b c r (inl e) = subst P (sym e) a
  each P a b c r (inr (inl e)) = subst P (sym e) b
  each P a b c r (inr (inr (inl e))) = subst P (sym e) c
  each P a b c r (inr (inr (inr h))) = absurd h

  pub same-tag : name_cmp tag tag ≡ Equal
  same-tag = tied_itself nat_list_cmp_total tag

  row-fields : rule_cmp row fields ≡ Less
  row-fields = rw same-tag refl

  ascends : IsStrictlySortedBy rule_cmp three
  unfolding IsStrictlySortedBy
  ascends = ((refl, (refl, tt)), ((row-fields, tt), (tt, tt)))

  module _ (named : is_name tag ≡ true) (good : AreKeys keys) where
    names : (r : PlainRule) → In r three → is_named r ≡ true
    names = each (λ r. is_named r ≡ true) (rw named refl) (rw (named, named-paths keys, good.named) refl) (rw named refl)

    whys : (r : PlainRule) → In r three → paths_why r.paths ≡ None
    whys = each (λ r. paths_why r.paths ≡ None) refl (keys-why keys good) refl

    contexts : (r : PlainRule) → In r three → (r.context ≡ []) ⊎ Contains (map target_of three) r.context
    contexts = each (λ r. (r.context ≡ []) ⊎ Contains (map target_of three) r.context) (inl refl) (inr (to-Contains (map target_of three) (tag ∷ []) (inl refl))) (inr (to-Contains (map target_of three) (tag ∷ codes "row" ∷ []) (inr (inl refl))))

    none : (r : PlainRule) → In r three → implied_by r ≡ []
    none = each (λ r. implied_by r ≡ []) refl (none-implied (tag ∷ codes "row" ∷ []) keys) refl

    ends : frontier_ends three ≡ []
    ends = rw (no-ends (tag ∷ codes "row" ∷ []) keys) refl

    nothing : {X : Type 0} (xs : List X) (x : X) → xs ≡ [] → Contains xs x → ⊥
    nothing xs x e h = from-Contains [] x (subst (λ ys. Contains ys x) e h)

    three-closed : length (canonical three) ≤ 1048576 → IsClosedList three
    three-closed short =
        record {
          ascending = ascends;
          named = λ r h. names r (from-Contains three r h);
          keys = λ r h. whys r (from-Contains three r h);
          contexts = λ r h. contexts r (from-Contains three r h);
          implied = λ r i h g. absurd (nothing (implied_by r) i (none r (from-Contains three r h)) g);
          ends = λ path h. absurd (nothing (frontier_ends three) path ends h);
          few = omega arith;
          short = short;
        }

    module _ (tag_utf8 : IsUtf8 tag) (keys_utf8 : AllByRecursion IsUtf8 keys) where
      paths_utf8 : (ks : List (List ℕ)) → AllByRecursion IsUtf8 ks → AllByRecursion IsTextPath (map attribute_path ks)
      paths_utf8 [] h = tt
      paths_utf8 (k ∷ ks) h = (record { tags = tt; attr = h.0 }, paths_utf8 ks h.1)

      texts : (r : PlainRule) → In r three → IsText r
      texts =
          each IsText (record { context = tt; tag = tag_utf8; paths = tt }) (record { context = (tag_utf8, tt); tag = row_utf8; paths = paths_utf8 keys keys_utf8 })
          (record { context = (tag_utf8, (row_utf8, tt)); tag = cell_utf8; paths = tt })

      three-read : length (canonical three) ≤ 1048576 → closed.closed (canonical three) ≡ Ok three
      three-read short = closed-canonical three (three-closed short) texts

pub rules-read : (tag : List ℕ) (keys : List (List ℕ)) → is_name tag ≡ true → AreKeys keys → IsUtf8 tag → AllByRecursion IsUtf8 keys → length (canonical (table_rules tag keys)) ≤ 1048576
    → closed.closed (canonical (table_rules tag keys)) ≡ Ok (table_rules tag keys)
unfolding table_rules
rules-read tag keys named good t k short = three-read tag keys named good t k short

-- ---- the lines

root-line : (tag : List ℕ) → rule_text (rule_at [] tag []) ++ 10 ∷ [] ≡ codes "(/, (" ++ (tag ++ codes ", {}))\n")
root-line tag = ap (λ (zs : List ℕ). codes "(/, (" ++ zs) (append_assoc tag (codes ", {}))") (10 ∷ []))

rows-line : (tag : List ℕ) (paths : List PlainPath) → rule_text (rule_at (tag ∷ []) (codes "row") paths) ++ 10 ∷ [] ≡ codes "(/" ++ (tag ++ (codes ", (row, {" ++ (paths_text paths ++ codes "}))\n")))
rows-line tag paths =
    let rest : List ℕ = codes ", (row, {" ++ (paths_text paths ++ codes "}))") in
    ap (λ (zs : List ℕ). codes "(/" ++ zs)
    (ap (λ (zs : List ℕ). (zs ++ rest) ++ 10 ∷ []) (append-nil tag)
    ∙ append_assoc tag rest (10 ∷ [])
    ∙ ap (λ (zs : List ℕ). tag ++ (codes ", (row, {" ++ zs)) (append_assoc (paths_text paths) (codes "}))") (10 ∷ [])))

fields-line : (tag : List ℕ) → rule_text (rule_at (tag ∷ codes "row" ∷ []) (codes "cell") []) ++ 10 ∷ [] ≡ codes "(/" ++ (tag ++ codes "/row, (cell, {}))\n")
fields-line tag =
    ap (λ (zs : List ℕ). codes "(/" ++ zs)
    (append_assoc (tag ++ codes "/row") (codes ", (cell, {}))") (10 ∷ []) ∙ append_assoc tag (codes "/row") (codes ", (cell, {}))\n"))

join : (t1 t2 t3 l1 l2 l3 : List ℕ) → t1 ≡ l1 → t2 ≡ t1 ++ l2 → t3 ≡ t2 ++ l3 → t3 ≡ l1 ++ (l2 ++ (l3 ++ []))
join t1 t2 t3 l1 l2 l3 a b c =
    c ∙ ap (λ (t : List ℕ). t ++ l3) b ∙ ap (λ (t : List ℕ). (t ++ l2) ++ l3) a ∙ append_assoc l1 l2 l3 ∙ ap (λ (t : List ℕ). l1 ++ (l2 ++ t)) (sym (append-nil l3))

pub lines-are : (tag : List ℕ) (keys : List (List ℕ)) (t0 t1 t2 t3 : List ℕ) → t0 ≡ [] → t1 ≡ t0 ++ (codes "(/, (" ++ (tag ++ codes ", {}))\n"))
    → t2 ≡ t1 ++ (codes "(/" ++ (tag ++ (codes ", (row, {" ++ (paths_text (map attribute_path keys) ++ codes "}))\n"))))
    → t3 ≡ t2 ++ (codes "(/" ++ (tag ++ codes "/row, (cell, {}))\n")) → t3 ≡ canonical (table_rules tag keys)
unfolding canonical table_rules
lines-are tag keys t0 t1 t2 t3 z a b c =
    join t1 t2 t3 _ _ _ (a ∙ ap (λ (t : List ℕ). t ++ (codes "(/, (" ++ (tag ++ codes ", {}))\n"))) z) b c
    ∙ sym (ap₂ (λ (x y : List ℕ). x ++ y) (root-line tag) (ap₂ (λ (x y : List ℕ). x ++ y) (rows-line tag (map attribute_path keys)) (ap (λ (x : List ℕ). x ++ []) (fields-line tag))))

-- ---- what the code reads back

pub names-utf8 : (names : List (String Global)) → AllByRecursion IsUtf8 (names_view names)
names-utf8 [] = tt
names-utf8 (name ∷ names) = (IsUtf8-string_bytes name, names-utf8 names)

abbrev Answer : Type 0
Answer = Result (List PlainRule) PlainSpecFault

same_ok : (found rules : List PlainRule) (a : Answer) → a ≡ Ok found → a ≡ Ok rules → found ≡ rules
same_ok found rules a e f = cc

never_both : {P : Type 0} (rules : List PlainRule) (fault : PlainSpecFault) (a : Answer) → a ≡ Ok rules → a ≡ Err fault → P
never_both rules fault a e f = cc

pub same-rules : (rules found : List PlainRule) (text : List ℕ) → closed.closed (canonical rules) ≡ Ok rules → text ≡ canonical rules → closed.closed text ≡ Ok found → found ≡ rules
same-rules rules found text read is e = same_ok found rules (closed.closed text) e (ap closed.closed is ∙ read)

refused : (answer : Answer) (fault : SpecFault) (line why : ℕ) → fault ≡ Bad line why → IsRefusal fault answer → answer ≡ Err (record { line = line; why = why })
refused answer fault line why e h = subst (λ (f : SpecFault). IsRefusal f answer) e h

pub never-refused : (rules : List PlainRule) (text : List ℕ) (fault : SpecFault) (line why : ℕ) → closed.closed (canonical rules) ≡ Ok rules → text ≡ canonical rules → fault ≡ Bad line why
    → IsRefusal fault (closed.closed text) → ⊥
never-refused rules text fault line why read is e h =
    never_both rules (record { line = line; why = why }) (closed.closed text) (ap closed.closed is ∙ read) (refused (closed.closed text) fault line why e h)

-- ---- what may be key columns

pub keys-good : (keys : List (List ℕ)) (b : Bool) → 1 ≤ length keys → length keys ≤ 16 → list_all is_name keys ≡ true → repeats [] keys ≡ not b → IsTrue b ↔ AreKeys keys
keys-good keys b some few named e =
    ((λ t. record { some = some; few = few; named = named; different = e ∙ ap not t }), (λ k. not-false b (sym e ∙ k.different)))

pub keys-bad : (keys : List (List ℕ)) → (AreKeys keys → ⊥) → IsTrue false ↔ AreKeys keys
keys-bad keys h = ((λ t. absurd (false≢true t)), (λ k. absurd (h k)))
