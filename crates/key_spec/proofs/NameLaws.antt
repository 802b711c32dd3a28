-- What is read is made of names, and what is made of names is read from its text.
use Rattle.std.proofs.Common.{◌≡◌, ℕ, ◌+◌, ◌-◌, ◌<◌, Bool, true, false, cond, not, ◌&&◌, List, [], ◌∷◌, ◌++◌, length, refl, ap, sym, ◌∙◌, subst, arith, eqb, ltb, Option, Some, None, option_map, eqb-true, eq-eqb, take, drop, get_or, ne_eqb, length-append, append_assoc, append-nil, codes, bytes_eq, suc, one-add, ap₂}
use Rattle.std.proofs.Math.Seq.{take-append_seam, drop-append_seam, get_or-append_seam}
use Rattle.std.proofs.lemmas.Bool.{cond-false, cond-true, and_parts, and_from, not_from_false, not-true, lt-ltb, le-ltb, false_from_ne_true}
use Rattle.std.proofs.lemmas.List.Folds.{list_all-append}
use Rattle.std.proofs.lemmas.List.Sums.{AllPass-from_list_all}
use Rattle.std.proofs.lemmas.List.Splits.{slice_split_at, slice_split_none}
use Rattle.std.proofs.lemmas.Slice.Eq.{bytes_eq-Decides}
use Rattle.std.specs.List.{list_all, slice_split, prefix_len, position_or_len, before_first, after_first}
use Rattle.key_spec.specs.Data.{PlainPath}
use Rattle.key_spec.specs.Names.{is_name, is_name_byte, names_of, slashed, context_text, context_of, ends_text, path_text, tags_before, attr_path, path_of, is_optional_name, is_named_path}
use Rattle.key_spec.proofs.TokenLemmas.{by_test}
use Rattle.key_spec.proofs.FormLemmas.{some_same}

-- ---- the parts of a test on names

-- the three parts of the test whether bytes are a name
pub name-some : (bytes : List ℕ) → is_name bytes ≡ true → 0 < length bytes
name-some [] e = cc
name-some (b ∷ bs) e = omega arith

pub name-bytes : (bytes : List ℕ) → is_name bytes ≡ true → list_all is_name_byte bytes ≡ true
name-bytes bytes e = (and_parts _ _ (and_parts (ltb 0 (length bytes) && list_all is_name_byte bytes) _ e).0).1

name-other : (bytes : List ℕ) → is_name bytes ≡ true → bytes ≡ codes "." → ⊥
name-other bytes e same =
    let no = not-true _ (and_parts (ltb 0 (length bytes) && list_all is_name_byte bytes) (not (bytes_eq bytes (codes "."))) e).1 in
    let yes = (bytes_eq-Decides bytes (codes ".")).1 same in
    cc

-- a byte that stands in no name is not one that does
apart_bytes : (b c : ℕ) → is_name_byte b ≡ true → is_name_byte c ≡ false → eqb b c ≡ false
apart_bytes b c may never = false_from_ne_true (eqb b c) (λ same. let e : is_name_byte b ≡ is_name_byte c = ap is_name_byte (eqb-true b c same) in cc)

-- ---- names joined by slashes

abbrev at_slash : ℕ → Bool
at_slash b = eqb b 47

-- names joined by slashes fall into the names
pub split-slashed : (name : List ℕ) (names : List (List ℕ)) → is_name name ≡ true → list_all is_name names ≡ true → slice_split at_slash (name ++ slashed names) ≡ name ∷ names
split-slashed name [] one all =
    ap (slice_split at_slash) (append-nil name) ∙ slice_split_none at_slash name (λ k d l. apart_bytes _ 47 (AllPass-from_list_all is_name_byte name (name-bytes name one) k d l) refl)
split-slashed name (next ∷ names) one all =
    let both = and_parts (is_name next) (list_all is_name names) all in
    slice_split_at at_slash name 47 (next ++ slashed names) (λ k d l. apart_bytes _ 47 (AllPass-from_list_all is_name_byte name (name-bytes name one) k d l) refl) refl
    ∙ ap (λ parts. name ∷ parts) (split-slashed next names both.0 both.1)

pub names_of-slashed : (name : List ℕ) (names : List (List ℕ)) → is_name name ≡ true → list_all is_name names ≡ true → names_of (name ++ slashed names) ≡ Some (name ∷ names)
names_of-slashed name names one all =
    ap (λ parts. cond (list_all is_name parts) (Some parts) None) (split-slashed name names one all)
    ∙ cond-true (list_all is_name (name ∷ names)) (Some (name ∷ names)) None (and_from _ _ one all)

pub names_of-named : (bytes : List ℕ) (names : List (List ℕ)) → names_of bytes ≡ Some names → list_all is_name names ≡ true
names_of-named bytes names e =
    let parts = slice_split at_slash bytes in
    by_test (list_all is_name parts)
    (λ yes. subst (λ ns. list_all is_name ns ≡ true) (some_same parts names (sym (cond-true _ (Some parts) None yes) ∙ e)) yes)
    (λ no. let none : None ≡ Some names = sym (cond-false _ (Some parts) None no) ∙ e in cc)

-- ---- contexts

pub context_of-text : (context : List (List ℕ)) → list_all is_name context ≡ true → context_of (context_text context) ≡ Some context
context_of-text [] all = refl
context_of-text (name ∷ names) all =
    let both = and_parts (is_name name) (list_all is_name names) all in
    let some : 0 < length (name ++ slashed names) = let n = name-some name both.0 in omega (arith, length-append name (slashed names), n) in
    cond-false (eqb (length (name ++ slashed names)) 0) (Some []) (names_of (name ++ slashed names)) (ne_eqb _ 0 (λ e. omega (arith, some, e))) ∙ names_of-slashed name names both.0 both.1

pub context_of-named : (bytes : List ℕ) (context : List (List ℕ)) → context_of bytes ≡ Some context → list_all is_name context ≡ true
context_of-named [] context e = cc
context_of-named (b ∷ bytes) context e =
    by_test (eqb b 47)
    (λ slash. let inner : cond (eqb (length bytes) 0) (Some []) (names_of bytes) ≡ Some context = sym (cond-true (eqb b 47) _ None slash) ∙ e in
    by_test (eqb (length bytes) 0)
    (λ none. let empty : List (List ℕ) = [] in subst (λ ns. list_all is_name ns ≡ true) (some_same empty context (sym (cond-true _ (Some empty) (names_of bytes) none) ∙ inner)) refl)
    (λ some. names_of-named bytes context (sym (cond-false _ (Some []) (names_of bytes) some) ∙ inner)))
    (λ other. let none : None ≡ Some context = sym (cond-false (eqb b 47) (cond (eqb (length bytes) 0) (Some []) (names_of bytes)) None other) ∙ e in cc)

-- ---- key paths

-- what is read in front of an attribute is made of names
tags_before-named : (front : List ℕ) (tags : List (List ℕ)) → tags_before front ≡ Some tags → list_all is_name tags ≡ true
tags_before-named front tags e =
    by_test (eqb (length front) 0)
    (λ none. let empty : List (List ℕ) = [] in subst (λ ns. list_all is_name ns ≡ true) (some_same empty tags (sym (cond-true (eqb (length front) 0) (Some empty) _ none) ∙ e)) refl)
    (λ some. let inner : cond (eqb (get_or front (length front - 1) 0) 47) (names_of (take (length front - 1) front)) None ≡ Some tags = sym (cond-false (eqb (length front) 0) (Some []) _ some) ∙ e in
    by_test (eqb (get_or front (length front - 1) 0) 47)
    (λ slash. names_of-named (take (length front - 1) front) tags (sym (cond-true _ _ None slash) ∙ inner))
    (λ other. let none : None ≡ Some tags = sym (cond-false _ (names_of (take (length front - 1) front)) None other) ∙ inner in cc))

-- some tags, and a path of them
attr_path-named : (tags : Option (List (List ℕ))) (name : List ℕ) (path : PlainPath) → ((ts : List (List ℕ)) → tags ≡ Some ts → list_all is_name ts ≡ true) → attr_path tags name ≡ Some path → is_named_path path ≡ true
attr_path-named None name path all e =
    let none : attr_path None name ≡ None = by_test (is_name name) (λ f. cond-true (is_name name) None None f) (λ f. cond-false (is_name name) None None f) in
    let no : None ≡ Some path = sym none ∙ e in cc
attr_path-named (Some ts) name path all e =
    let made : PlainPath = record { tags = ts; attr = Some name } in
    by_test (is_name name)
    (λ yes. subst (λ p. is_named_path p ≡ true) (some_same made path (sym (cond-true (is_name name) (Some made) None yes) ∙ e)) (and_from _ _ (all ts refl) yes))
    (λ no. let none : None ≡ Some path = sym (cond-false (is_name name) (Some made) None no) ∙ e in cc)

tags_path-named : (tags : Option (List (List ℕ))) (path : PlainPath) → ((ts : List (List ℕ)) → tags ≡ Some ts → list_all is_name ts ≡ true) → option_map (λ ts. record { tags = ts; attr = None }) tags ≡ Some path → is_named_path path ≡ true
tags_path-named None path all e = cc
tags_path-named (Some ts) path all e =
    let made : PlainPath = record { tags = ts; attr = None } in
    subst (λ p. is_named_path p ≡ true) (some_same made path e) (and_from _ _ (all ts refl) refl)

abbrev at_sign : ℕ → Bool
at_sign b = eqb b 64

abbrev self_path : PlainPath
self_path = record { tags = []; attr = None }

-- the three ways in which a key path is read
abbrev later_ways : List ℕ → Option PlainPath
later_ways bytes =
    cond (ltb (position_or_len at_sign bytes) (length bytes)) (attr_path (tags_before (before_first at_sign bytes)) (after_first at_sign bytes))
    (option_map (λ ts. record { tags = ts; attr = None }) (names_of bytes))

pub path_of-named : (bytes : List ℕ) (path : PlainPath) → path_of bytes ≡ Some path → is_named_path path ≡ true
path_of-named bytes path e =
    by_test (bytes_eq bytes (codes "."))
    (λ dot. subst (λ p. is_named_path p ≡ true) (some_same self_path path (sym (cond-true (bytes_eq bytes (codes ".")) (Some self_path) (later_ways bytes) dot) ∙ e)) refl)
    (λ other. let later : later_ways bytes ≡ Some path = sym (cond-false (bytes_eq bytes (codes ".")) (Some self_path) (later_ways bytes) other) ∙ e in
    by_test (ltb (position_or_len at_sign bytes) (length bytes))
    (λ f. attr_path-named (tags_before (before_first at_sign bytes)) (after_first at_sign bytes) path (tags_before-named (before_first at_sign bytes)) (sym (cond-true _ _ _ f) ∙ later))
    (λ f. tags_path-named (names_of bytes) path (names_of-named bytes) (sym (cond-false _ _ _ f) ∙ later)))

-- ---- key paths from their texts

abbrev no_sign : ℕ → Bool
no_sign b = not (eqb b 64)

prefix_len-all : (p : ℕ → Bool) (xs : List ℕ) → list_all p xs ≡ true → prefix_len p xs ≡ length xs
prefix_len-all p [] e = refl
prefix_len-all p (x ∷ xs) e =
    let both = and_parts (p x) (list_all p xs) e in
    cond-true (p x) _ _ both.0 ∙ ap (λ n. 1 + n) (prefix_len-all p xs both.1) ∙ one-add (length xs)

prefix_len-stop : (p : ℕ → Bool) (xs : List ℕ) (y : ℕ) (ys : List ℕ) → list_all p xs ≡ true → p y ≡ false → prefix_len p (xs ++ y ∷ ys) ≡ length xs
prefix_len-stop p [] y ys e f = cond-false (p y) _ _ f
prefix_len-stop p (x ∷ xs) y ys e f =
    let both = and_parts (p x) (list_all p xs) e in
    cond-true (p x) _ _ both.0 ∙ ap (λ n. 1 + n) (prefix_len-stop p xs y ys both.1 f) ∙ one-add (length xs)

-- names hold no `@`
no_sign-bytes : (bytes : List ℕ) → list_all is_name_byte bytes ≡ true → list_all no_sign bytes ≡ true
no_sign-bytes [] e = refl
no_sign-bytes (b ∷ bs) e =
    let both = and_parts (is_name_byte b) (list_all is_name_byte bs) e in
    and_from _ _ (not_from_false _ (apart_bytes b 64 both.0 refl)) (no_sign-bytes bs both.1)

no_sign-slashed : (names : List (List ℕ)) → list_all is_name names ≡ true → list_all no_sign (slashed names) ≡ true
no_sign-slashed [] e = refl
no_sign-slashed (name ∷ names) e =
    let both = and_parts (is_name name) (list_all is_name names) e in
    list_all-append no_sign name (slashed names) ∙ and_from _ _ (no_sign-bytes name (name-bytes name both.0)) (no_sign-slashed names both.1)

no_sign-joined : (name : List ℕ) (names : List (List ℕ)) → is_name name ≡ true → list_all is_name names ≡ true → list_all no_sign (name ++ slashed names) ≡ true
no_sign-joined name names one all = list_all-append no_sign name (slashed names) ∙ and_from _ _ (no_sign-bytes name (name-bytes name one)) (no_sign-slashed names all)

-- what is longer than `.` is not `.`
no_dot : (bytes : List ℕ) → 1 < length bytes → bytes_eq bytes (codes ".") ≡ false
no_dot bytes long = false_from_ne_true (bytes_eq bytes (codes ".")) (λ same. let e = ap length ((bytes_eq-Decides bytes (codes ".")).0 same) in omega (arith, e, long))

joined_is_no_dot : (name : List ℕ) (names : List (List ℕ)) → is_name name ≡ true → list_all is_name names ≡ true → bytes_eq (name ++ slashed names) (codes ".") ≡ false
joined_is_no_dot name [] one all = ap (λ bs. bytes_eq bs (codes ".")) (append-nil name) ∙ false_from_ne_true (bytes_eq name (codes ".")) (λ same. name-other name one ((bytes_eq-Decides name (codes ".")).0 same))
joined_is_no_dot name (next ∷ names) one all =
    let some = name-some name one in
    let long : 1 < length (name ++ slashed (next ∷ names)) = omega (arith, length-append name (slashed (next ∷ names)), some) in
    no_dot (name ++ slashed (next ∷ names)) long

-- what no `@` stands in is read as names
path_of-tags : (name : List ℕ) (names : List (List ℕ)) → is_name name ≡ true → list_all is_name names ≡ true → path_of (name ++ slashed names) ≡ Some (record { tags = name ∷ names; attr = None })
path_of-tags name names one all =
    let bytes = name ++ slashed names in
    let none : position_or_len at_sign bytes ≡ length bytes = prefix_len-all no_sign bytes (no_sign-joined name names one all) in
    cond-false (bytes_eq bytes (codes ".")) (Some self_path) (later_ways bytes) (joined_is_no_dot name names one all)
    ∙ cond-false (ltb (position_or_len at_sign bytes) (length bytes)) _ _ (le-ltb _ _ (omega (arith, none)))
    ∙ ap (option_map (λ ts. record { tags = ts; attr = None })) (names_of-slashed name names one all)

-- what an `@` stands in is read as an attribute behind what stands in front of it
path_of-attr : (front name : List ℕ) → list_all no_sign front ≡ true → 0 < length name → path_of (front ++ 64 ∷ name) ≡ attr_path (tags_before front) name
path_of-attr front name none some =
    let bytes = front ++ 64 ∷ name in
    let place : position_or_len at_sign bytes ≡ length front = prefix_len-stop no_sign front 64 name none refl in
    let long : length bytes ≡ length front + suc (length name) = length-append front (64 ∷ name) in
    let before : before_first at_sign bytes ≡ front = ap (λ n. take n bytes) place ∙ take-append_seam front (64 ∷ name) in
    let after : after_first at_sign bytes ≡ name =
    ap (λ n. drop (n + 1) bytes) place
    ∙ ap₂ drop (sym (length-append front (64 ∷ []))) (sym (append_assoc front (64 ∷ []) name))
    ∙ drop-append_seam (front ++ 64 ∷ []) name in
    cond-false (bytes_eq bytes (codes ".")) (Some self_path) (later_ways bytes) (no_dot bytes (omega (arith, long, some)))
    ∙ cond-true (ltb (position_or_len at_sign bytes) (length bytes)) _ _ (lt-ltb _ _ (omega (arith, place, long)))
    ∙ ap₂ (λ f n. attr_path (tags_before f) n) before after

tags_before-slash : (front : List ℕ) → tags_before (front ++ 47 ∷ []) ≡ names_of front
tags_before-slash front =
    let whole = front ++ 47 ∷ [] in
    let long : length whole ≡ length front + 1 = length-append front (47 ∷ []) in
    let less : length whole - 1 ≡ length front = omega (arith, long) in
    let last : get_or whole (length whole - 1) 0 ≡ 47 = ap (λ n. get_or whole n 0) less ∙ get_or-append_seam front 47 [] 0 in
    let rest : take (length whole - 1) whole ≡ front = ap (λ n. take n whole) less ∙ take-append_seam front (47 ∷ []) in
    cond-false (eqb (length whole) 0) _ _ (ne_eqb _ 0 (λ e. omega (arith, long, e)))
    ∙ cond-true (eqb (get_or whole (length whole - 1) 0) 47) _ _ (eq-eqb _ 47 last)
    ∙ ap names_of rest

attr_path-named_some : (tags : Option (List (List ℕ))) (ts : List (List ℕ)) (name : List ℕ) → tags ≡ Some ts → is_name name ≡ true → attr_path tags name ≡ Some (record { tags = ts; attr = Some name })
attr_path-named_some tags ts name e one =
    ap (λ t. attr_path t name) e ∙ cond-true (is_name name) _ _ one

-- a key path is read from its text
pub path_of-ends : (tags : List (List ℕ)) (attr : Option (List ℕ)) → list_all is_name tags ≡ true → is_optional_name attr ≡ true → path_of (ends_text tags attr) ≡ Some (record { tags = tags; attr = attr })
path_of-ends [] None all one = refl
path_of-ends (tag ∷ tags) None all one = let both = and_parts (is_name tag) (list_all is_name tags) all in path_of-tags tag tags both.0 both.1
path_of-ends [] (Some name) all one =
    path_of-attr [] name refl (name-some name one) ∙ attr_path-named_some (tags_before []) [] name refl one
path_of-ends (tag ∷ tags) (Some name) all one =
    let both = and_parts (is_name tag) (list_all is_name tags) all in
    let joined = tag ++ slashed tags in
    let front = joined ++ 47 ∷ [] in
    let clean : list_all no_sign front ≡ true = list_all-append no_sign joined (47 ∷ []) ∙ and_from _ _ (no_sign-joined tag tags both.0 both.1) refl in
    let regrouped : tag ++ (slashed tags ++ (47 ∷ 64 ∷ name)) ≡ front ++ 64 ∷ name = sym (append_assoc tag (slashed tags) (47 ∷ 64 ∷ name)) ∙ sym (append_assoc joined (47 ∷ []) (64 ∷ name)) in
    ap path_of regrouped ∙ path_of-attr front name clean (name-some name one)
    ∙ attr_path-named_some (tags_before front) (tag ∷ tags) name (tags_before-slash joined ∙ names_of-slashed tag tags both.0 both.1) one

pub path_of-text : (path : PlainPath) → is_named_path path ≡ true → path_of (path_text path) ≡ Some path
path_of-text path named = let both = and_parts (list_all is_name path.tags) (is_optional_name path.attr) named in path_of-ends path.tags path.attr both.0 both.1
