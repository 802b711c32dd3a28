-- The second pass on texts is the second pass on paths.
use Rattle.std.proofs.Common.{◌≡◌, ℕ, Bool, true, false, cond, not, ◌&&◌, ◌||◌, List, [], ◌∷◌, ◌++◌, length, ltb, map, refl, ap, ap₂, sym, ◌∙◌, Some, None, is_some, bytes_eq, Decides, append-nil, flat_map, codes}
use Rattle.std.proofs.lemmas.Bool.{and_parts, and_from}
use Rattle.std.proofs.lemmas.Bool.Decides.{same_from_decides}
use Rattle.std.proofs.lemmas.List.{map-append}
use Rattle.std.proofs.lemmas.List.Folds.{list_any-append, list_all-append}
use Rattle.std.proofs.lemmas.Grind.{flat_map-append}
use Rattle.std.proofs.lemmas.Slice.Eq.{bytes_eq-Decides}
use Rattle.std.specs.BTreeSet.{contains_text}
use Rattle.std.specs.List.{list_any, list_all}
use Rattle.std.specs.Option.{option_or, option_map}
use Rattle.key_spec.specs.Data.{PlainPath, PlainRule, GivenRule}
use Rattle.key_spec.specs.Names.{is_name, slashed, context_of, is_named_path, is_named}
use Rattle.key_spec.specs.Rules.{below}
use Rattle.key_spec.specs.Closed.{target_of, implied_along, implied_by, implied_rules, end_at, frontier_ends, has_path, has_place, lacks_context, is_keyed_twice, passes_end, closing_why, closing_fault}
use Rattle.key_spec.specs.Texts.{has_text, TextSet, Holds, step_text, target_text, texts_along, contexts_along, implied_texts, end_text, end_texts, text_lacks_context, text_passes_end, text_why}
use Rattle.key_spec.proofs.FormLemmas.{some_same}
use Rattle.key_spec.proofs.NameLaws.{context_of-text}
use Rattle.key_spec.proofs.OrderLaws.{path_cmp-Decides}

abbrev path : Type 0
path = List (List ℕ)

-- ---- the texts of paths

-- paths of names are one where their texts are
pub slashed-injective : (p q : path) → list_all is_name p ≡ true → list_all is_name q ≡ true → slashed p ≡ slashed q → p ≡ q
slashed-injective [] [] a b e = refl
slashed-injective [] (m ∷ ms) a b e = cc
slashed-injective (n ∷ ns) [] a b e = cc
slashed-injective (n ∷ ns) (m ∷ ms) a b e = some_same _ _ (sym (context_of-text (n ∷ ns) a) ∙ ap context_of e ∙ context_of-text (m ∷ ms) b)

pub slashed-below : (context : path) (tag : List ℕ) → slashed (below context tag) ≡ step_text (slashed context) tag
slashed-below context tag = flat_map-append (λ name. codes "/" ++ name) context (tag ∷ []) ∙ ap (λ t. slashed context ++ (codes "/" ++ t)) (append-nil tag)

abbrev are_named : List path → Bool
are_named = list_all (list_all is_name)

-- so a set of texts tells whether a path is among some
pub has_text-slashed : (paths : List path) (p : path) → are_named paths ≡ true → list_all is_name p ≡ true → has_text (map slashed paths) (slashed p) ≡ has_path paths p
has_text-slashed [] p all one = refl
has_text-slashed (q ∷ paths) p all one =
    let both = and_parts (list_all is_name q) (are_named paths) all in
    let texts = bytes_eq-Decides (slashed p) (slashed q) in
    let by_text : Decides (bytes_eq (slashed p) (slashed q)) (q ≡ p) = (λ e. sym (slashed-injective p q one both.0 (texts.0 e)), λ e. texts.1 (ap slashed (sym e))) in
    let first = same_from_decides _ _ by_text (path_cmp-Decides q p) in
    λ i. first i || has_text-slashed paths p both.1 one i

-- ---- targets, implied rules and ends by their texts

pub target_texts : (rules : List PlainRule) → map target_text rules ≡ map slashed (map target_of rules)
target_texts [] = refl
target_texts (r ∷ rules) = ap₂ (λ t ts. t ∷ ts) (sym (slashed-below r.context r.tag)) (target_texts rules)

along_texts : (p : path) (tags : path) → texts_along (slashed p) tags ≡ map slashed (map target_of (implied_along p tags))
along_texts p [] = refl
along_texts p (tag ∷ tags) =
    let down = sym (slashed-below p tag) in
    ap (λ t. t ∷ texts_along t tags) down ∙ ap (λ ts. slashed (below p tag) ∷ ts) (along_texts (below p tag) tags)

-- texts of lists that are joined
texts-flat_map : {X : Type 0} (f : X → List (List ℕ)) (g : X → List path) (xs : List X) → ((x : X) → f x ≡ map slashed (g x)) → flat_map f xs ≡ map slashed (flat_map g xs)
texts-flat_map f g [] same = refl
texts-flat_map f g (x ∷ xs) same = ap₂ (λ a b. a ++ b) (same x) (texts-flat_map f g xs same) ∙ sym (map-append slashed (g x) (flat_map g xs))

map-flat_map : {X Y Z : Type 0} (h : Y → Z) (f : X → List Y) (xs : List X) → map h (flat_map f xs) ≡ flat_map (λ x. map h (f x)) xs
map-flat_map h f [] = refl
map-flat_map h f (x ∷ xs) = map-append h (f x) (flat_map f xs) ∙ ap (λ ys. map h (f x) ++ ys) (map-flat_map h f xs)

implied_by-texts : (rule : PlainRule) → implied_texts rule ≡ map slashed (map target_of (implied_by rule))
implied_by-texts rule =
    texts-flat_map (λ (p : PlainPath). texts_along (target_text rule) p.tags) (λ (p : PlainPath). map target_of (implied_along (target_of rule) p.tags)) rule.paths
    (λ p. ap (λ t. texts_along t p.tags) (sym (slashed-below rule.context rule.tag)) ∙ along_texts (target_of rule) p.tags)
    ∙ ap (map slashed) (sym (map-flat_map target_of (λ (p : PlainPath). implied_along (target_of rule) p.tags) rule.paths))

pub implied_rules-texts : (rules : List PlainRule) → flat_map implied_texts rules ≡ map slashed (map target_of (implied_rules rules))
implied_rules-texts rules =
    texts-flat_map implied_texts (λ r. map target_of (implied_by r)) rules implied_by-texts ∙ ap (map slashed) (sym (map-flat_map target_of implied_by rules))

slashed-append : (p q : path) → slashed (p ++ q) ≡ slashed p ++ slashed q
slashed-append p q = flat_map-append (λ name. codes "/" ++ name) p q

end_at-text : (rule : PlainRule) (p : PlainPath) → end_text (target_text rule) p ≡ map slashed (end_at (target_of rule) p)
end_at-text rule p =
    let same : target_text rule ++ slashed p.tags ≡ slashed (target_of rule ++ p.tags) =
    ap (λ t. t ++ slashed p.tags) (sym (slashed-below rule.context rule.tag)) ∙ sym (slashed-append (target_of rule) p.tags) in
    by_attr (target_text rule ++ slashed p.tags) (target_of rule ++ p.tags) (is_some p.attr) same
  where
    by_attr : (t : List ℕ) (q : path) (b : Bool) → t ≡ slashed q → cond b [] (t ∷ []) ≡ map slashed (cond b [] (q ∷ []))
    by_attr t q true e = refl
    by_attr t q false e = ap (λ x. x ∷ []) e

pub frontier_ends-texts : (rules : List PlainRule) → flat_map end_texts rules ≡ map slashed (frontier_ends rules)
frontier_ends-texts rules =
    texts-flat_map end_texts (λ (r : PlainRule). flat_map (end_at (target_of r)) r.paths) rules (λ r. texts-flat_map (end_text (target_text r)) (end_at (target_of r)) r.paths (end_at-text r))

-- ---- all of it is made of names

named-context : (rule : PlainRule) → is_named rule ≡ true → list_all is_name rule.context ≡ true
named-context rule e = (and_parts _ _ (and_parts (list_all is_name rule.context && is_name rule.tag) _ e).0).0

named-paths : (rule : PlainRule) → is_named rule ≡ true → list_all is_named_path rule.paths ≡ true
named-paths rule e = (and_parts (list_all is_name rule.context && is_name rule.tag) _ e).1

below-named : (p : path) (tag : List ℕ) → list_all is_name p ≡ true → is_name tag ≡ true → list_all is_name (below p tag) ≡ true
below-named p tag a b = list_all-append is_name p (tag ∷ []) ∙ and_from _ _ a (and_from _ _ b refl)

pub target-named : (rule : PlainRule) → is_named rule ≡ true → list_all is_name (target_of rule) ≡ true
target-named rule e = let both = and_parts (list_all is_name rule.context) (is_name rule.tag) (and_parts (list_all is_name rule.context && is_name rule.tag) _ e).0 in below-named rule.context rule.tag both.0 both.1

along-named : (p tags : path) → list_all is_name p ≡ true → list_all is_name tags ≡ true → list_all is_named (implied_along p tags) ≡ true
along-named p [] a b = refl
along-named p (tag ∷ tags) a b =
    let both = and_parts (is_name tag) (list_all is_name tags) b in
    and_from _ _ (and_from _ _ (and_from _ _ a both.0) refl) (along-named (below p tag) tags (below-named p tag a both.0) both.1)

all-flat_map : {X Y : Type 0} (test : X → Bool) (check : Y → Bool) (f : X → List Y) (xs : List X) → ((x : X) → test x ≡ true → list_all check (f x) ≡ true) → list_all test xs ≡ true → list_all check (flat_map f xs) ≡ true
all-flat_map test check f [] each all = refl
all-flat_map test check f (x ∷ xs) each all =
    let both = and_parts (test x) (list_all test xs) all in
    list_all-append check (f x) (flat_map f xs) ∙ and_from _ _ (each x both.0) (all-flat_map test check f xs each both.1)

pub implied_by-named : (rule : PlainRule) → is_named rule ≡ true → list_all is_named (implied_by rule) ≡ true
implied_by-named rule e =
    all-flat_map is_named_path is_named (λ (p : PlainPath). implied_along (target_of rule) p.tags) rule.paths
    (λ p f. along-named (target_of rule) p.tags (target-named rule e) (and_parts (list_all is_name p.tags) _ f).0) (named-paths rule e)

pub implied_rules-named : (rules : List PlainRule) → list_all is_named rules ≡ true → list_all is_named (implied_rules rules) ≡ true
implied_rules-named rules all = all-flat_map is_named is_named implied_by rules implied_by-named all

targets-named : (rules : List PlainRule) → list_all is_named rules ≡ true → are_named (map target_of rules) ≡ true
targets-named [] all = refl
targets-named (r ∷ rules) all = let both = and_parts (is_named r) (list_all is_named rules) all in and_from _ _ (target-named r both.0) (targets-named rules both.1)

ends-named : (rules : List PlainRule) → list_all is_named rules ≡ true → are_named (frontier_ends rules) ≡ true
ends-named rules all =
    all-flat_map is_named (list_all is_name) (λ (r : PlainRule). flat_map (end_at (target_of r)) r.paths) rules
    (λ r e. all-flat_map is_named_path (list_all is_name) (end_at (target_of r)) r.paths
    (λ p f. by_attr (target_of r ++ p.tags) (is_some p.attr) (list_all-append is_name (target_of r) p.tags ∙ and_from _ _ (target-named r e) (and_parts (list_all is_name p.tags) _ f).0)) (named-paths r e)) all
  where
    by_attr : (q : path) (b : Bool) → list_all is_name q ≡ true → are_named (cond b [] (q ∷ [])) ≡ true
    by_attr q true e = refl
    by_attr q false e = and_from _ _ e refl

-- ---- the tests on texts are those on paths

-- what a set of the texts of some paths answers
set_has : (set : TextSet) (texts : List (List ℕ)) (paths : List path) (p : path) → Holds set texts → texts ≡ map slashed paths → are_named paths ≡ true → list_all is_name p ≡ true → contains_text set (slashed p) ≡ has_path paths p
set_has set texts paths p holds same all one = holds (slashed p) ∙ ap (λ ts. has_text ts (slashed p)) same ∙ has_text-slashed paths p all one

contexts : (ends : TextSet) (found : List path) (p tags : path) → ((q : path) → list_all is_name q ≡ true → contains_text ends (slashed q) ≡ has_path found q) → list_all is_name p ≡ true → list_all is_name tags ≡ true
    → list_any (contains_text ends) (contexts_along (slashed p) tags) ≡ list_any (λ (r : PlainRule). has_path found r.context) (implied_along p tags)
contexts ends found p [] holds a b = refl
contexts ends found p (tag ∷ tags) holds a b =
    let both = and_parts (is_name tag) (list_all is_name tags) b in
    ap₂ (λ x y. x || y) (holds p a) (ap (λ t. list_any (contains_text ends) (contexts_along t tags)) (sym (slashed-below p tag)) ∙ contexts ends found (below p tag) tags holds (below-named p tag a both.0) both.1)

any-flat_map : {X Y : Type 0} (test : X → Bool) (g : X → Bool) (check : Y → Bool) (f : X → List Y) (xs : List X) → ((x : X) → test x ≡ true → g x ≡ list_any check (f x)) → list_all test xs ≡ true → list_any g xs ≡ list_any check (flat_map f xs)
any-flat_map test g check f [] same all = refl
any-flat_map test g check f (x ∷ xs) same all =
    let both = and_parts (test x) (list_all test xs) all in
    ap₂ (λ a b. a || b) (same x both.0) (any-flat_map test g check f xs same both.1) ∙ sym (list_any-append check (f x) (flat_map f xs))

-- a line with a fault, and one without
pub closing_fault-found : (rules before : List PlainRule) (given : GivenRule) (more : List GivenRule) (why : ℕ) → closing_why rules before given.rule ≡ Some why
    → closing_fault rules before (given ∷ more) ≡ Some (record { line = given.line; why = why })
closing_fault-found rules before given more why e = ap (λ w. option_or (option_map (λ n. record { line = given.line; why = n }) w) (closing_fault rules (before ++ given.rule ∷ []) more)) e

pub closing_fault-none : (rules before : List PlainRule) (given : GivenRule) (more : List GivenRule) → closing_why rules before given.rule ≡ None
    → closing_fault rules before (given ∷ more) ≡ closing_fault rules (before ++ given.rule ∷ []) more
closing_fault-none rules before given more e = ap (λ w. option_or (option_map (λ n. record { line = given.line; why = n }) w) (closing_fault rules (before ++ given.rule ∷ []) more)) e

-- a rule in the middle of named ones, and those before it
pub named_rules : (whole before more : List PlainRule) (rule : PlainRule) → whole ≡ before ++ rule ∷ more → list_all is_named whole ≡ true → (list_all is_named before ≡ true) × (is_named rule ≡ true)
named_rules whole before more rule e all =
    let both = and_parts (list_all is_named before) (list_all is_named (rule ∷ more)) (sym (list_all-append is_named before (rule ∷ more)) ∙ ap (list_all is_named) (sym e) ∙ all) in
    (both.0, (and_parts (is_named rule) (list_all is_named more) both.1).0)

-- the second pass on texts gives what that on paths gives
pub text_why-is : (given implied ends earlier : TextSet) (rules before : List PlainRule) (rule : PlainRule)
    → Holds given (map target_text rules) → Holds implied (flat_map implied_texts rules) → Holds ends (flat_map end_texts rules) → Holds earlier (map target_text before)
    → list_all is_named rules ≡ true → list_all is_named before ≡ true → is_named rule ≡ true
    → text_why given implied ends earlier rule ≡ closing_why rules before rule
text_why-is given implied ends earlier rules before rule g i e b all old one =
    let context = named-context rule one in
    let target = target-named rule one in
    let at_target : target_text rule ≡ slashed (target_of rule) = sym (slashed-below rule.context rule.tag) in
    let implied_named = targets-named (implied_rules rules) (implied_rules-named rules all) in
    let in_given : contains_text given (slashed rule.context) ≡ has_path (map target_of rules) rule.context = set_has given _ (map target_of rules) rule.context g (target_texts rules) (targets-named rules all) context in
    let in_implied : contains_text implied (slashed rule.context) ≡ has_path (map target_of (implied_rules rules)) rule.context = set_has implied _ (map target_of (implied_rules rules)) rule.context i (implied_rules-texts rules) implied_named context in
    let known : (contains_text given (slashed rule.context) || contains_text implied (slashed rule.context)) ≡ has_path (map target_of (rules ++ implied_rules rules)) rule.context =
    ap₂ (λ x y. x || y) in_given in_implied ∙ sym (list_any-append _ (map target_of rules) (map target_of (implied_rules rules))) ∙ ap (λ ps. has_path ps rule.context) (sym (map-append target_of rules (implied_rules rules))) in
    let two : text_lacks_context given implied rule ≡ lacks_context rules rule = ap (λ k. ltb 0 (length rule.context) && not k) known in
    let three : contains_text earlier (target_text rule) ≡ has_place before rule = ap (contains_text earlier) at_target ∙ set_has earlier _ (map target_of before) (target_of rule) b (target_texts before) (targets-named before old) target in
    let five : (ltb 0 (length rule.paths) && contains_text implied (target_text rule)) ≡ is_keyed_twice rules rule =
    ap (λ k. ltb 0 (length rule.paths) && k) (ap (contains_text implied) at_target ∙ set_has implied _ (map target_of (implied_rules rules)) (target_of rule) i (implied_rules-texts rules) implied_named target) in
    let in_ends : (q : path) → list_all is_name q ≡ true → contains_text ends (slashed q) ≡ has_path (frontier_ends rules) q = λ q f. set_has ends _ (frontier_ends rules) q e (frontier_ends-texts rules) (ends-named rules all) f in
    let beyond : list_any (λ (p : PlainPath). list_any (contains_text ends) (contexts_along (target_text rule) p.tags)) rule.paths ≡ list_any (λ (r : PlainRule). has_path (frontier_ends rules) r.context) (implied_by rule) =
    any-flat_map is_named_path (λ (p : PlainPath). list_any (contains_text ends) (contexts_along (target_text rule) p.tags)) (λ (r : PlainRule). has_path (frontier_ends rules) r.context) (λ (p : PlainPath). implied_along (target_of rule) p.tags) rule.paths
    (λ p f. ap (λ t. list_any (contains_text ends) (contexts_along t p.tags)) at_target ∙ contexts ends (frontier_ends rules) (target_of rule) p.tags in_ends target (and_parts (list_all is_name p.tags) _ f).0) (named-paths rule one) in
    let six : text_passes_end ends rule ≡ passes_end rules rule = ap₂ (λ x y. x || y) (in_ends rule.context context) beyond in
    λ j. cond (two j) (Some 2) (cond (three j) (Some 3) (cond (five j) (Some 5) (cond (six j) (Some 6) None)))
