-- A line gives a rule of names.
use Rattle.std.proofs.Common.{◌≡◌, ℕ, true, cond, ◌&&◌, List, [], ◌∷◌, refl, ap, sym, ◌∙◌, subst, eqb, Option, Some, None, option_map}
use Rattle.std.proofs.lemmas.Bool.{cond-true, cond-false, and_parts, and_from}
use Rattle.std.specs.List.{list_all}
use Rattle.std.specs.Str.{is_utf8}
use Rattle.key_spec.specs.Data.{PlainPath, PlainRule}
use Rattle.key_spec.specs.Names.{is_name, is_named_path, is_named, context_of, path_of}
use Rattle.key_spec.specs.Form.{Token, sign, word, tokens, behind, first_as, name_of, path_with, some_paths, paths_of, head_of, is_end, spelled, line_rule, ◌>>=◌}
use Rattle.key_spec.proofs.FormLemmas.{some_same}
use Rattle.key_spec.proofs.NameLaws.{context_of-named, path_of-named}
use Rattle.key_spec.proofs.TokenLemmas.{by_test}

-- what a step that succeeds gave
pub step_of : {X Y : Type 0} (o : Option X) (f : X → Option Y) (y : Y) → (o >>= f) ≡ Some y → (x : X) × (o ≡ Some x) × (f x ≡ Some y)
step_of None f y e = cc
step_of (Some x) f y e = (x, refl, e)

pub map_of : {X Y : Type 0} (o : Option X) (g : X → Y) (y : Y) → option_map g o ≡ Some y → (x : X) × (o ≡ Some x) × (g x ≡ y)
map_of None g y e = cc
map_of (Some x) g y e = (x, refl, some_same (g x) y e)

-- the word from which f made what it found
pub first_as-given : {X : Type 0} (f : List ℕ → Option X) (ts : List Token) (found : X × List Token) → first_as f ts ≡ Some found → (bytes : List ℕ) × (f bytes ≡ Some found.0)
first_as-given f [] found e = cc
first_as-given f (sign b ∷ ts) found e = cc
first_as-given {X} f (word bytes ∷ ts) found e =
    let pair : X → X × List Token = λ x. (x, ts) in
    let of = map_of (f bytes) pair found e in
    (bytes, of.1 ∙ ap (λ (p : X × List Token). Some p.0) of.2)

-- ---- key paths

path_with-named : (f : Option (PlainPath × List Token)) (others : Option (List PlainPath × List Token)) (all : List PlainPath × List Token)
    → ((found : PlainPath × List Token) → f ≡ Some found → is_named_path found.0 ≡ true)
    → ((rest : List PlainPath × List Token) → others ≡ Some rest → list_all is_named_path rest.0 ≡ true)
    → path_with f others ≡ Some all → list_all is_named_path all.0 ≡ true
path_with-named None others all one more e = cc
path_with-named (Some (path, [])) others all one more e = cc
path_with-named (Some (path, word bytes ∷ us)) others all one more e = cc
path_with-named (Some (path, sign b ∷ us)) others all one more e =
    let last : List PlainPath × List Token = (path ∷ [], us) in
    let longer : List PlainPath × List Token → List PlainPath × List Token = λ o. (path ∷ o.0, o.1) in
    let first = one (path, sign b ∷ us) refl in
    by_test (eqb b 125)
    (λ f. subst (λ (o : List PlainPath × List Token). list_all is_named_path o.0 ≡ true) (some_same last all (sym (cond-true (eqb b 125) (Some last) _ f) ∙ e)) (and_from _ _ first refl))
    (λ f. let inner : cond (eqb b 44) (option_map longer others) None ≡ Some all = sym (cond-false (eqb b 125) (Some last) _ f) ∙ e in
    by_test (eqb b 44)
    (λ g. let rest = map_of others longer all (sym (cond-true (eqb b 44) _ None g) ∙ inner) in
    subst (λ (o : List PlainPath × List Token). list_all is_named_path o.0 ≡ true) rest.2 (and_from _ _ first (more rest.0 rest.1)))
    (λ g. let none : None ≡ Some all = sym (cond-false (eqb b 44) (option_map longer others) None g) ∙ inner in cc))

first_path-named : (ts : List Token) (found : PlainPath × List Token) → first_as path_of ts ≡ Some found → is_named_path found.0 ≡ true
first_path-named ts found e = let given = first_as-given path_of ts found e in path_of-named given.0 found.0 given.1

some_paths-named : (ts : List Token) (all : List PlainPath × List Token) → some_paths ts ≡ Some all → list_all is_named_path all.0 ≡ true
some_paths-named [] all e = cc
some_paths-named (sign b ∷ ts) all e = cc
some_paths-named (word bytes ∷ []) all e = cc
some_paths-named (word bytes ∷ word next ∷ ts) all e = cc
some_paths-named (word bytes ∷ sign b ∷ ts) all e =
    path_with-named (first_as path_of (word bytes ∷ sign b ∷ ts)) (some_paths ts) all (first_path-named (word bytes ∷ sign b ∷ ts)) (some_paths-named ts) e

paths_of-named : (ts : List Token) (all : List PlainPath × List Token) → paths_of ts ≡ Some all → list_all is_named_path all.0 ≡ true
paths_of-named [] all e = cc
paths_of-named (word bytes ∷ ts) all e = some_paths-named (word bytes ∷ ts) all e
paths_of-named (sign b ∷ ts) all e =
    let none : List PlainPath × List Token = ([], ts) in
    by_test (eqb b 125)
    (λ f. subst (λ (o : List PlainPath × List Token). list_all is_named_path o.0 ≡ true) (some_same none all (sym (cond-true (eqb b 125) (Some none) None f) ∙ e)) refl)
    (λ f. let no : None ≡ Some all = sym (cond-false (eqb b 125) (Some none) None f) ∙ e in cc)

-- ---- the rule

abbrev place : Type 0
place = (List (List ℕ) × List ℕ) × List Token

head_of-named : (ts : List Token) (found : place) → head_of ts ≡ Some found → (list_all is_name found.0.0 ≡ true) × (is_name found.0.1 ≡ true)
head_of-named ts found e =
    let a = step_of (behind 40 ts) _ found e in
    let context = step_of (first_as context_of a.0) _ found a.2 in
    let b = step_of (behind 44 context.0.1) _ found context.2 in
    let c = step_of (behind 40 b.0) _ found b.2 in
    let tag = step_of (first_as name_of c.0) _ found c.2 in
    let d = step_of (behind 44 tag.0.1) _ found tag.2 in
    let rest = step_of (behind 123 d.0) _ found d.2 in
    let whole : place = ((context.0.0, tag.0.0), rest.0) in
    let same = some_same whole found rest.2 in
    let words = first_as-given context_of a.0 context.0 context.1 in
    let one = first_as-given name_of c.0 tag.0 tag.1 in
    let named = context_of-named words.0 context.0.0 words.1 in
    (subst (λ (p : place). list_all is_name p.0.0 ≡ true) same named, subst (λ (p : place). is_name p.0.1 ≡ true) same (name_of-named one.0 tag.0.0 one.1))
  where
    name_of-named : (bytes name : List ℕ) → name_of bytes ≡ Some name → is_name name ≡ true
    name_of-named bytes name f =
        by_test (is_name bytes)
        (λ g. subst (λ n. is_name n ≡ true) (some_same bytes name (sym (cond-true (is_name bytes) (Some bytes) None g) ∙ f)) g)
        (λ g. let none : None ≡ Some name = sym (cond-false (is_name bytes) (Some bytes) None g) ∙ f in cc)

pub spelled-named : (ts : List Token) (rule : PlainRule) → spelled ts ≡ Some rule → is_named rule ≡ true
spelled-named ts rule e =
    let at = step_of (head_of ts) _ rule e in
    let paths = step_of (paths_of at.0.1) _ rule at.2 in
    let made : PlainRule = record { context = at.0.0.0; tag = at.0.0.1; paths = paths.0.0 } in
    let both = head_of-named ts at.0 at.1 in
    let named : is_named made ≡ true = and_from _ _ (and_from _ _ both.0 both.1) (paths_of-named at.0.1 paths.0 paths.1) in
    by_test (is_end paths.0.1)
    (λ f. subst (λ r. is_named r ≡ true) (some_same made rule (sym (cond-true (is_end paths.0.1) (Some made) None f) ∙ paths.2)) named)
    (λ f. let none : None ≡ Some rule = sym (cond-false (is_end paths.0.1) (Some made) None f) ∙ paths.2 in cc)

pub line_rule-named : (line : List ℕ) (rule : PlainRule) → line_rule line ≡ Some rule → is_named rule ≡ true
unfolding line_rule
line_rule-named line rule e =
    by_test (is_utf8 line)
    (λ f. spelled-named (tokens line) rule (sym (cond-true (is_utf8 line) (spelled (tokens line)) None f) ∙ e))
    (λ f. let none : None ≡ Some rule = sym (cond-false (is_utf8 line) (spelled (tokens line)) None f) ∙ e in cc)

pub line_rule-paths : (line : List ℕ) (rule : PlainRule) → line_rule line ≡ Some rule → list_all is_named_path rule.paths ≡ true
line_rule-paths line rule e = (and_parts (list_all is_name rule.context && is_name rule.tag) (list_all is_named_path rule.paths) (line_rule-named line rule e)).1
