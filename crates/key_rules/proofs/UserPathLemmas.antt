-- How the steps of a user's path are read one after the other, and what the labels that are read are.
use Rattle.std.proofs.Common.{◌≡◌, ◌≢◌, ℕ, suc, ◌+◌, ◌<◌, ◌≤◌, ◌||◌, ◌==◌, Bool, true, false, cond, List, [], ◌∷◌, ◌++◌, map, drop, get_or, length, Option, Some, None, Result, Ok, Err, IfOk, IsTrue, Vec, Global, MatchOption, Bor, refl, sym, ap, ◌∙◌, subst, true≢false, eqb, eqb-true, append_assoc, append-nil}
use Rattle.std.proofs.lemmas.List.{drop_more, drop_all}
use Rattle.std.specs.List.{AllByRecursion}
use Rattle.std.specs.Option.{option_map, option_and_then}
use Rattle.serde_json.specs.Data.{Data, null, boolean, number, string, array, object, Items, no_items, item}
use Rattle.serde_json.specs.View.{view as data_of, items_view}
use Rattle.serde_json.specs.declared.value.Value.{Value}
use Rattle.keyed_tree.specs.Data.{PlainName, attr, tag, PlainKey, PlainLabel}
use Rattle.keyed_tree.specs.View.{label_view}
use Rattle.keyed_tree.specs.WellFormed.{is_key_well_formed, are_keys_well_formed, IsKeyWellFormed}
use Rattle.keyed_tree.specs.declared.label.Label.{Label}
use Rattle.key_spec.specs.Data.{PlainPath, PlainRule}
use Rattle.key_spec.specs.Rules.{rule_of, is_frontier, below}
use Rattle.key_rules.specs.declared.fault.PathFault.{PathFault}
use Rattle.key_rules.proofs.Labelled.{both_true}
use Rattle.key_rules.specs.UserPaths.{value_by, values_by, has_sign, behind_sign, element_step, attr_step, tagged_step, step_label, onward, led_by, step_then, labels_from, HasRule, NameHasRule, path_behind, HaveRules}

-- ---- the sign of an attribute

no_sign : (e : Bool) (b : ℕ) (bs : List ℕ) → eqb b 64 ≡ e → ((rest : List ℕ) → b ∷ bs ≢ 64 ∷ rest) → None ≡ cond e (Some bs) None
no_sign true b bs e h = absurd (h bs (ap (λ c. c ∷ bs) (eqb-true b 64 e)))
no_sign false b bs e h = refl

pub stripped : (bs : List ℕ) (r : Option (Bor (List ℕ))) → MatchOption r ((rest : List ℕ) → bs ≢ 64 ∷ rest) (λ x. bs ≡ 64 ∷ x.now)
    → option_map (λ x. x.now) r ≡ cond (has_sign bs) (Some (behind_sign bs)) None
stripped [] None h = refl
stripped (b ∷ bs) None h = no_sign (eqb b 64) b bs refl h
stripped bs (Some x) h = rw h refl

-- ---- one value or step on

pub values-more : (vs : List Value) (i : ℕ) (x : Value) → i < length vs → x ≡ get_or vs i x → items_view (drop i vs) ≡ item (data_of x) (items_view (drop (i + 1) vs))
values-more vs i x h e = ap items_view (drop_more vs i x h) ∙ ap (λ y. item (data_of y) (items_view (drop (i + 1) vs))) (sym e)

pub values-end : (vs : List Value) (i : ℕ) → length vs ≤ i → items_view (drop i vs) ≡ no_items
values-end vs i h = ap items_view (drop_all i vs h)

-- the labels so far, and then those of what is left
abbrev pub onto : List PlainLabel → Result (List PlainLabel) ℕ → Result (List PlainLabel) ℕ
onto done (Ok ls) = Ok (done ++ ls)
onto done (Err n) = Err n

onto-led : (done : List PlainLabel) (l : PlainLabel) (r : Result (List PlainLabel) ℕ) → onto done (led_by l r) ≡ onto (done ++ l ∷ []) r
onto-led done l (Ok ls) = ap (λ x. Ok x) (sym (append_assoc done (l ∷ []) ls))
onto-led done l (Err n) = refl

pub labels-more : (rules : List PlainRule) (n : ℕ) (here : Option (List (List ℕ))) (done : List PlainLabel) (d : Data) (ds : Items) (l : PlainLabel)
    → option_and_then (λ path. step_label rules path d) here ≡ Some l
    → onto done (labels_from rules n here (item d ds)) ≡ onto (done ++ l ∷ []) (labels_from rules (n + 1) (onward here l.name) ds)
labels-more rules n here done d ds l e =
    ap (λ o. onto done (step_then n o (λ k. labels_from rules (n + 1) (onward here k.name) ds))) e ∙ onto-led done l (labels_from rules (n + 1) (onward here l.name) ds)

pub labels-bad : (rules : List PlainRule) (n : ℕ) (here : Option (List (List ℕ))) (done : List PlainLabel) (d : Data) (ds : Items)
    → option_and_then (λ path. step_label rules path d) here ≡ None
    → onto done (labels_from rules n here (item d ds)) ≡ Err n
labels-bad rules n here done d ds e = ap (λ o. onto done (step_then n o (λ k. labels_from rules (n + 1) (onward here k.name) ds))) e

pub labels-end : (rules : List PlainRule) (n : ℕ) (here : Option (List (List ℕ))) (done : List PlainLabel) → onto done (labels_from rules n here no_items) ≡ Ok done
labels-end rules n here done = ap (λ x. Ok x) (append-nil done)

-- ---- key values

pub keys-more : (done : List PlainKey) (p : PlainPath) (ps : List PlainPath) (d : Data) (ds : Items) (k : PlainKey) → value_by p.attr d ≡ Some k
    → option_map (λ ks. done ++ ks) (values_by (p ∷ ps) (item d ds)) ≡ option_map (λ ks. (done ++ k ∷ []) ++ ks) (values_by ps ds)
keys-more done p ps d ds k e = ap (λ o. option_map (λ ks. done ++ ks) (option_and_then (λ k. option_map (λ ks. k ∷ ks) (values_by ps ds)) o)) e ∙ led (values_by ps ds)
  where
    led : (o : Option (List PlainKey)) → option_map (λ ks. done ++ ks) (option_map (λ ks. k ∷ ks) o) ≡ option_map (λ ks. (done ++ k ∷ []) ++ ks) o
    led None = refl
    led (Some ks) = ap (λ x. Some x) (sym (append_assoc done (k ∷ []) ks))

pub keys-bad : (done : List PlainKey) (p : PlainPath) (ps : List PlainPath) (d : Data) (ds : Items) → value_by p.attr d ≡ None
    → option_map (λ ks. done ++ ks) (values_by (p ∷ ps) (item d ds)) ≡ None
keys-bad done p ps d ds e = ap (λ o. option_map (λ ks. done ++ ks) (option_and_then (λ k. option_map (λ ks. k ∷ ks) (values_by ps ds)) o)) e

pub keys-end : (done : List PlainKey) → option_map (λ ks. done ++ ks) (values_by [] no_items) ≡ Some done
keys-end done = ap (λ x. Some x) (append-nil done)

-- other values than key paths
pub values-apart : (ps : List PlainPath) (vs : List Value) → length vs ≢ length ps → None ≡ values_by ps (items_view vs)
values-apart [] [] h = absurd (h refl)
values-apart [] (v ∷ vs) h = refl
values-apart (p ∷ ps) [] h = refl
values-apart (p ∷ ps) (v ∷ vs) h = behind (value_by p.attr (data_of v)) (values_by ps (items_view vs)) (values-apart ps vs (λ e. h (ap suc e)))
  where
    behind : (o : Option PlainKey) (q : Option (List PlainKey)) → None ≡ q → None ≡ option_and_then (λ k. option_map (λ ks. k ∷ ks) q) o
    behind None q e = refl
    behind (Some k) q e = ap (option_map (λ ks. k ∷ ks)) e

-- ---- what every path that is read is

or_none : (a b : Bool) → (a || b) ≡ false → (a ≡ false) × (b ≡ false)
or_none true b e = absurd (true≢false e)
or_none false b e = (refl, e)

count_of : Option (List PlainKey) → ℕ
count_of None = 0
count_of (Some ks) = length ks

count-more : (o : Option PlainKey) (q : Option (List PlainKey)) (ps : List PlainPath) (ks : List PlainKey) → ((more : List PlainKey) → q ≡ Some more → length more ≡ length ps)
    → option_and_then (λ k. option_map (λ ks. k ∷ ks) q) o ≡ Some ks → length ks ≡ suc (length ps)
unfolding count_of
count-more None q ps ks h e = cc
count-more (Some k) None ps ks h e = cc
count-more (Some k) (Some more) ps ks h e = sym (ap count_of e) ∙ ap suc (h more refl)

values-count : (ps : List PlainPath) (ds : Items) (ks : List PlainKey) → values_by ps ds ≡ Some ks → length ks ≡ length ps
unfolding count_of
values-count [] no_items ks e = sym (ap count_of e)
values-count [] (item d ds) ks e = cc
values-count (p ∷ ps) no_items ks e = cc
values-count (p ∷ ps) (item d ds) ks e = count-more (value_by p.attr d) (values_by ps ds) ps ks (values-count ps ds) e

-- what the labels behind a step are, if it is an attribute
abbrev EndsAt : PlainName → List PlainLabel → Type 0
EndsAt name ls = (n : List ℕ) → name ≡ attr n → ls ≡ []

module _ (rules : List PlainRule) (path : List (List ℕ)) (l : PlainLabel) (ls : List PlainLabel) (More : Type 0) where
  attr-rules : (name : List ℕ) (e : Bool) → (length path == 0 || is_frontier rules path) ≡ e → cond e None (Some (record { name = attr name; keys = [] })) ≡ Some l → EndsAt l.name ls
      → NameHasRule rules path l.name l.keys ls More
  attr-rules name true e f last = cc
  attr-rules name false e f last =
      let both = or_none (length path == 0) (is_frontier rules path) e in
      let behind : path ≢ [] = λ h. true≢false (sym (ap (λ p. length p == 0) h) ∙ both.0) in
      let own : PlainLabel = record { name = attr name; keys = [] } in
      let same : own ≡ l = cc in
      subst (λ (k : PlainLabel). EndsAt k.name ls → NameHasRule rules path k.name k.keys ls More) same (λ last. record { behind = behind; above = both.1; unkeyed = refl; last = last name refl }) last

  values-rules : (r : PlainRule) (t : List ℕ) (values : Items) (q : Option (List PlainKey)) → rule_of rules path t ≡ Some r → values_by r.paths values ≡ q
      → option_map (λ ks. record { name = tag t; keys = ks }) q ≡ Some l → More → NameHasRule rules path l.name l.keys ls More
  values-rules r t values None is e f more = cc
  values-rules r t values (Some ks) is e f more =
      let own : PlainLabel = record { name = tag t; keys = ks } in
      let same : own ≡ l = cc in
      subst (λ (k : PlainLabel). NameHasRule rules path k.name k.keys ls More) same (record { rule = r; is = is; count = values-count r.paths values ks e; others = more })

  element-rules : (t : List ℕ) (values : Items) (o : Option PlainRule) → rule_of rules path t ≡ o
      → option_and_then (λ r. option_map (λ ks. record { name = tag t; keys = ks }) (values_by r.paths values)) o ≡ Some l → More → NameHasRule rules path l.name l.keys ls More
  element-rules t values None is f more = cc
  element-rules t values (Some r) is f more = values-rules r t values (values_by r.paths values) is refl f more

  word-rules : (s : List ℕ) (e : Bool) → cond e (attr_step rules path (behind_sign s)) (element_step rules path s no_items) ≡ Some l → EndsAt l.name ls → More
      → NameHasRule rules path l.name l.keys ls More
  word-rules s true f last more = attr-rules (behind_sign s) (length path == 0 || is_frontier rules path) refl f last
  word-rules s false f last more = element-rules s no_items (rule_of rules path s) refl f more

  tagged-rules : (s : List ℕ) (ds : Items) (e : Bool) → cond e None (element_step rules path s ds) ≡ Some l → More → NameHasRule rules path l.name l.keys ls More
  tagged-rules s ds true f more = cc
  tagged-rules s ds false f more = element-rules s ds (rule_of rules path s) refl f more

  list-rules : (d : Data) (ds : Items) → tagged_step rules path d ds ≡ Some l → More → NameHasRule rules path l.name l.keys ls More
  list-rules null ds f more = cc
  list-rules (boolean b) ds f more = cc
  list-rules (number n) ds f more = cc
  list-rules (string s) ds f more = tagged-rules s ds (has_sign s) f more
  list-rules (array es) ds f more = cc
  list-rules (object ms) ds f more = cc

  step-rules : (d : Data) → step_label rules path d ≡ Some l → EndsAt l.name ls → More → NameHasRule rules path l.name l.keys ls More
  step-rules null f last more = cc
  step-rules (boolean b) f last more = cc
  step-rules (number n) f last more = cc
  step-rules (string s) f last more = word-rules s (has_sign s) f last more
  step-rules (array no_items) f last more = cc
  step-rules (array (item d ds)) f last more = list-rules d ds f more
  step-rules (object ms) f last more = cc

none-more : (rules : List PlainRule) (n : ℕ) (ds : Items) (ls : List PlainLabel) → labels_from rules n None ds ≡ Ok ls → ls ≡ []
none-more rules n no_items [] e = refl
none-more rules n no_items (l ∷ ls) e = cc
none-more rules n (item d ds) ls e = cc

behind-name : (rules : List PlainRule) (n : ℕ) (path : List (List ℕ)) (ds : Items) (ls : List PlainLabel) (name : PlainName)
    → ((p : List (List ℕ)) → labels_from rules n (Some p) ds ≡ Ok ls → HaveRules rules p ls)
    → labels_from rules n (onward (Some path) name) ds ≡ Ok ls → HaveRules rules (path_behind path name) ls
behind-name rules n path ds ls (attr a) further e = subst (HaveRules rules path) (sym (none-more rules n ds ls e)) tt
behind-name rules n path ds ls (tag t) further e = further (below path t) e

module _ (rules : List PlainRule) (n : ℕ) (path : List (List ℕ)) (d : Data) (ds : Items) (further : (p : List (List ℕ)) (ls : List PlainLabel) → labels_from rules (n + 1) (Some p) ds ≡ Ok ls → HaveRules rules p ls) where
  led-rules : (ls : List PlainLabel) (l : PlainLabel) (r : Result (List PlainLabel) ℕ) → step_label rules path d ≡ Some l → labels_from rules (n + 1) (onward (Some path) l.name) ds ≡ r
      → led_by l r ≡ Ok ls → HaveRules rules path ls
  led-rules ls l (Err m) is e f = cc
  led-rules ls l (Ok more) is e f =
      let same : l ∷ more ≡ ls = cc in
      let last : EndsAt l.name more = λ a h. none-more rules (n + 1) ds more (ap (λ name. labels_from rules (n + 1) (onward (Some path) name) ds) (sym h) ∙ e) in
      let others = behind-name rules (n + 1) path ds more l.name (λ p. further p more) e in
      subst (HaveRules rules path) same (step-rules rules path l more (HaveRules rules (path_behind path l.name) more) d is last others)

  then-rules : (ls : List PlainLabel) (o : Option PlainLabel) → step_label rules path d ≡ o → step_then n o (λ l. labels_from rules (n + 1) (onward (Some path) l.name) ds) ≡ Ok ls → HaveRules rules path ls
  then-rules ls None is f = cc
  then-rules ls (Some l) is f = led-rules ls l (labels_from rules (n + 1) (onward (Some path) l.name) ds) is refl f

labels-rules : (rules : List PlainRule) (n : ℕ) (path : List (List ℕ)) (ds : Items) (ls : List PlainLabel) → labels_from rules n (Some path) ds ≡ Ok ls → HaveRules rules path ls
labels-rules rules n path no_items [] e = tt
labels-rules rules n path no_items (l ∷ ls) e = cc
labels-rules rules n path (item d ds) ls e = then-rules rules n path d ds (λ p more g. labels-rules rules (n + 1) p ds more g) ls (step_label rules path d) refl e

-- the same of the code's answer
pub steps-rules : (rules : List PlainRule) (ds : Items) (r : Result (Vec Label Global) PathFault) → IfOk r (λ ls. labels_from rules 1 (Some []) ds ≡ Ok (map label_view ls.items))
    → IfOk r (λ ls. HaveRules rules [] (map label_view ls.items))
steps-rules rules ds (Ok ls) e = labels-rules rules 1 [] ds (map label_view ls.items) e
steps-rules rules ds (Err f) e = tt

-- key values that are well formed, one by one
pub keys-well : (ks : List PlainKey) → AllByRecursion IsKeyWellFormed ks → IsTrue (are_keys_well_formed ks)
keys-well [] h = refl
keys-well (k ∷ ks) h = both_true (is_key_well_formed k) (are_keys_well_formed ks) h.0 (keys-well ks h.1)

pub ruleset one_on = (values-more, values-end, labels-more, labels-bad, labels-end, keys-more, keys-bad, keys-end)
