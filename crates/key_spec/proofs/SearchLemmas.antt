-- What halving finds in rules that ascend.
use Rattle.std.proofs.Common.{◌≡◌, ℕ, ◌+◌, ◌<◌, ◌≤◌, Bool, true, false, not, ◌||◌, List, [], ◌∷◌, length, map, get_or, ltb, refl, ap, sym, ◌∙◌, subst, arith, Option, Some, None, Result, Ok, Err, find, suc, zero, is_err, ⊎_elim, ◌++◌, ◌⊎◌, inl, inr, subst₂}
use Rattle.std.proofs.lemmas.Bool.{cond-true, cond-false, or_from, or_parts, or_left, or_right, false_from_ne_true, ltb-false, cases_lt}
use Rattle.std.proofs.lemmas.Cmp.{tied_back}
use Rattle.std.proofs.lemmas.List.{get_or-map, length-map}
use Rattle.std.proofs.lemmas.List.Elements.{All-from_recursion}
use Rattle.std.proofs.lemmas.List.Sorted.{searchable_from_sorted}
use Rattle.std.proofs.Math.Logic.{∥∥₁_elim}
use Rattle.std.proofs.lemmas.Map.Keys.{IsStrictlySortedBy-prop, sorted_head, sorted_tail}
use Rattle.std.specs.Cmp.{Equal-is, IsTotalOrder}
use Rattle.std.specs.List.{list_any}
use Rattle.std.specs.List.Sorted.{IsStrictlySortedBy, IsNonDecreasingBy, IsSearchInRange, IsBinarySearchResult}
use Rattle.std.specs.Ordering.{is_eq, is_lt, ordering_index, ordering_then}
use Rattle.std.specs.declared.cmp.Ordering.{Ordering}
use Rattle.std.specs.declared.cmp.Ordering.TheVariants.{Less, Equal, Greater}
use Rattle.key_spec.specs.Data.{PlainRule, PlainSpecFault}
use Rattle.key_spec.specs.Rules.{path_cmp, rule_cmp, name_cmp}
use Rattle.key_spec.specs.Laws.{path_cmp_total, rule_cmp_total}
use Rattle.key_spec.specs.Closed.{closed, IsClosed, closed_rules, implied_rules, closing_fault, within_limits, unless, first_of_all, line_fault, given_rules}
use Rattle.key_spec.proofs.ParseLemmas.{lines_of, rules_of, past_limit}
use Rattle.key_spec.proofs.SortLemmas.{sorted-put_all, sorted-nil, not_less}
use Rattle.key_spec.proofs.TokenLemmas.{by_test}
use Rattle.key_spec.specs.Canonical.{canonical}

-- ---- closed rules ascend

-- an answer that is no refusal
pub unless-ok : {X : Type 0} (o : Option _) (r : Result X _) (x : X) → unless o r ≡ Ok x → (o ≡ None) × (r ≡ Ok x)
unless-ok None r x e = (refl, e)
unless-ok (Some f) r x e = cc

pub closed_rules-sorted : (rules : List PlainRule) → IsStrictlySortedBy rule_cmp (closed_rules rules)
closed_rules-sorted rules = sorted-put_all rule_cmp_total [] (implied_rules rules ++ rules) (sorted-nil rule_cmp)

-- what stands within the limits is what was put there
pub limits-ok : (rules found : List PlainRule) → within_limits rules ≡ Ok found → (rules ≡ found) × (length rules ≤ 4096) × (length (canonical rules) ≤ 1048576)
limits-ok rules found e =
    by_test (ltb 4096 (length rules) || ltb 1048576 (length (canonical rules)))
    (λ f. let no : past_limit ≡ Ok found = sym (cond-true _ past_limit (Ok rules) f) ∙ e in cc)
    (λ f. let yes : Ok rules ≡ Ok found = sym (cond-false _ past_limit (Ok rules) f) ∙ e in
    let parts = or_parts (ltb 4096 (length rules)) (ltb 1048576 (length (canonical rules))) f in
    (ok_same rules found yes, ltb-false _ _ parts.0, ltb-false _ _ parts.1))
  where
    ok_same : (xs ys : List PlainRule) → ◌≡◌ {A = Result (List PlainRule) PlainSpecFault} (Ok xs) (Ok ys) → xs ≡ ys
    ok_same xs ys f = cc

-- what the passes found where a text has closed rules
pub closed-parts : (text : List ℕ) (rules : List PlainRule) → closed text ≡ Ok rules
    → (first_of_all line_fault (lines_of text) ≡ None) × (closing_fault (rules_of text) [] (given_rules (lines_of text)) ≡ None) × (within_limits (closed_rules (rules_of text)) ≡ Ok rules)
unfolding closed
closed-parts text rules e =
    let first = unless-ok (first_of_all line_fault (lines_of text)) _ rules e in
    let second = unless-ok (closing_fault (rules_of text) [] (given_rules (lines_of text))) _ rules first.1 in
    (first.0, second.0, second.1)

pub closed-sorted : (rules : List PlainRule) → IsClosed rules → IsStrictlySortedBy rule_cmp rules
closed-sorted rules h =
    let parts = closed-parts h.0 rules h.1 in
    subst (IsStrictlySortedBy rule_cmp) (limits-ok (closed_rules (rules_of h.0)) rules parts.2).0 (closed_rules-sorted (rules_of h.0))

pub kept-sorted : (rules : List PlainRule) → ∥ IsClosed rules ∥₁ → IsStrictlySortedBy rule_cmp rules
kept-sorted rules h = ∥∥₁_elim h (IsStrictlySortedBy-prop rule_cmp rules) (closed-sorted rules)

-- ---- the rule at a place

-- where a list ascends, what compares equal to a key is the one that is found
find-one : {R : PlainRule → PlainRule → Ordering} (o : IsTotalOrder R) (rules : List PlainRule) (key rule : PlainRule) (i : ℕ) → IsStrictlySortedBy R rules → i < length rules → get_or rules i rule ≡ rule
    → R rule key ≡ Equal → find (λ r. is_eq (R r key)) rules ≡ Some rule
find-one o [] key rule i s h here e = absurd (omega arith)
find-one {R} o (r ∷ rules) key rule zero s h here e = cond-true (is_eq (R r key)) (Some r) _ ((Equal-is (R r key)).1 (ap (λ x. R x key) here ∙ e)) ∙ ap (λ x. Some x) here
find-one {R} o (r ∷ rules) key rule (suc i) s h here e =
    let less : R r rule ≡ Less = subst (λ x. R r x ≡ Less) here (All-from_recursion (λ y. R r y ≡ Less) rules (sorted_head R r rules s) i rule (omega arith)) in
    let apart : is_eq (R r key) ≡ false = false_from_ne_true (is_eq (R r key)) (λ f.
    let same : R r key ≡ Equal = (Equal-is (R r key)).0 f in
    let no : Less ≡ Equal = sym less ∙ o.congr r key rule same ∙ tied_back o rule key e in cc) in
    cond-false (is_eq (R r key)) (Some r) _ apart ∙ find-one o rules key rule i (sorted_tail R r rules s) (omega arith) here e

-- where nothing compares equal, nothing is found
pub find-none : {X : Type 0} (f : X → PlainRule) (p : PlainRule → Bool) (xs : List X) → ((i : ℕ) (d : X) → i < length xs → p (f (get_or xs i d)) ≡ false) → find p (map f xs) ≡ None
find-none f p [] fails = refl
find-none f p (x ∷ xs) fails = cond-false (p (f x)) (Some (f x)) _ (fails 0 x (omega arith)) ∙ find-none f p xs (λ i d h. fails (suc i) d (omega arith))

pub any-none : {X : Type 0} (f : X → PlainRule) (p : PlainRule → Bool) (xs : List X) → ((i : ℕ) (d : X) → i < length xs → p (f (get_or xs i d)) ≡ false) → list_any p (map f xs) ≡ false
any-none f p [] fails = refl
any-none f p (x ∷ xs) fails = or_from (p (f x)) (list_any p (map f xs)) (fails 0 x (omega arith)) (any-none f p xs (λ i d h. fails (suc i) d (omega arith)))

-- rules that ascend can be searched by an order, and by their contexts
by_order : {R : PlainRule → PlainRule → Ordering} (o : IsTotalOrder R) {X : Type 0} (f : X → PlainRule) (xs : List X) (key : PlainRule) → IsStrictlySortedBy R (map f xs)
    → IsNonDecreasingBy (λ y. ordering_index (R (f y) key)) xs
by_order {R} o f xs key s =
    searchable_from_sorted o f xs key (λ k d l h. subst₂ (λ a b. is_lt (R a b) ≡ false) (get_or-map f xs (k + 1) d (f d) (omega arith)) (get_or-map f xs k d (f d) (omega arith))
    (not_less o (map f xs) s k (f d) (simp length-map h)))

context_not_less : (r s : PlainRule) → is_lt (rule_cmp r s) ≡ false → is_lt (path_cmp r.context s.context) ≡ false
context_not_less r s e = by_context (path_cmp r.context s.context) e
  where
    by_context : (o : Ordering) → is_lt (ordering_then o (name_cmp r.tag s.tag)) ≡ false → is_lt o ≡ false
    by_context Less f = f
    by_context Equal f = refl
    by_context Greater f = refl

pub by_context : {X : Type 0} (f : X → PlainRule) (xs : List X) (path : List (List ℕ)) → IsStrictlySortedBy rule_cmp (map f xs) → IsNonDecreasingBy (λ y. ordering_index (path_cmp (f y).context path)) xs
by_context f xs path s =
    searchable_from_sorted path_cmp_total (λ y. (f y).context) xs path (λ k d l h. subst₂ (λ a b. is_lt (path_cmp a.context b.context) ≡ false) (get_or-map f xs (k + 1) d (f d) (omega arith)) (get_or-map f xs k d (f d) (omega arith))
    (context_not_less (get_or (map f xs) (k + 1) (f d)) (get_or (map f xs) k (f d)) (not_less rule_cmp_total (map f xs) s k (f d) (simp length-map h))))

-- what stands before and behind the place of a key does not compare equal
pub not_equal : (o : Ordering) → (o ≡ Less) ⊎ (o ≡ Greater) → is_eq o ≡ false
not_equal o (inl e) = ap is_eq e
not_equal o (inr e) = ap is_eq e

-- ---- what a search answers

module _ {R : PlainRule → PlainRule → Ordering} (o : IsTotalOrder R) {X : Type 0} (f : X → PlainRule) (items lent : List X) (same : lent ≡ items) (s : IsStrictlySortedBy R (map f items)) where
  sorted : IsStrictlySortedBy R (map f lent)
  sorted = subst (λ xs. IsStrictlySortedBy R (map f xs)) (sym same) s

  pub search-found : (key : PlainRule) (at : ℕ) (x : X) → at < length lent → x ≡ get_or lent at x → ((d : X) → R (f (get_or lent at d)) key ≡ Equal)
      → Some (f x) ≡ find (λ r. is_eq (R r key)) (map f items)
  search-found key at x h here e =
      let place : get_or (map f lent) at (f x) ≡ f x = get_or-map f lent at x (f x) h ∙ ap f (sym here) in
      sym (find-one o (map f lent) key (f x) at sorted (simp length-map h) place (ap (λ y. R (f y) key) here ∙ e x)) ∙ ap (λ xs. find (λ r. is_eq (R r key)) (map f xs)) same

  pub search-none : (key : PlainRule) (at : ℕ)
      → (IsNonDecreasingBy (λ y. ordering_index (R (f y) key)) lent → ((k : ℕ) (d : X) → 0 ≤ k → k < at → R (f (get_or lent k d)) key ≡ Less) × ((k : ℕ) (d : X) → at ≤ k → k < length lent → R (f (get_or lent k d)) key ≡ Greater))
      → None ≡ find (λ r. is_eq (R r key)) (map f items)
  search-none key at parts =
      let both = parts (by_order o f lent key sorted) in
      sym (find-none f (λ r. is_eq (R r key)) lent (λ k d h. not_equal _ (⊎_elim (λ l. inl (both.0 k d (omega arith) l)) (λ g. inr (both.1 k d g h)) (cases_lt k at))))
      ∙ ap (λ xs. find (λ r. is_eq (R r key)) (map f xs)) same

module _ {X : Type 0} (f : X → PlainRule) (items lent : List X) (same : lent ≡ items) (s : IsStrictlySortedBy rule_cmp (map f items)) where
  ascends : IsStrictlySortedBy rule_cmp (map f lent)
  ascends = subst (λ xs. IsStrictlySortedBy rule_cmp (map f xs)) (sym same) s

  context-found : (path : List (List ℕ)) (at : ℕ) → at < length lent → ((d : X) → path_cmp (f (get_or lent at d)).context path ≡ Equal)
      → list_any (λ (r : PlainRule). is_eq (path_cmp r.context path)) (map f items) ≡ true
  context-found path at h e = ap (λ xs. list_any (λ (r : PlainRule). is_eq (path_cmp r.context path)) (map f xs)) (sym same) ∙ found lent at h e
    where
      found : (xs : List X) (i : ℕ) → i < length xs → ((d : X) → path_cmp (f (get_or xs i d)).context path ≡ Equal) → list_any (λ (r : PlainRule). is_eq (path_cmp r.context path)) (map f xs) ≡ true
      found [] i l g = absurd (omega arith)
      found (x ∷ xs) zero l g = or_left _ _ (ap is_eq (g x))
      found (x ∷ xs) (suc i) l g = or_right _ _ (found xs i (omega arith) g)

  context-none : (path : List (List ℕ)) (at : ℕ)
      → (IsNonDecreasingBy (λ y. ordering_index (path_cmp (f y).context path)) lent → ((k : ℕ) (d : X) → 0 ≤ k → k < at → path_cmp (f (get_or lent k d)).context path ≡ Less) × ((k : ℕ) (d : X) → at ≤ k → k < length lent → path_cmp (f (get_or lent k d)).context path ≡ Greater))
      → list_any (λ (r : PlainRule). is_eq (path_cmp r.context path)) (map f items) ≡ false
  context-none path at parts =
      let both = parts (by_context f lent path ascends) in
      ap (λ xs. list_any (λ (r : PlainRule). is_eq (path_cmp r.context path)) (map f xs)) (sym same)
      ∙ any-none f (λ (r : PlainRule). is_eq (path_cmp r.context path)) lent (λ k d h. not_equal _ (⊎_elim (λ l. inl (both.0 k d (omega arith) l)) (λ g. inr (both.1 k d g h)) (cases_lt k at)))

  -- a search by contexts fails where no rule has the context
  pub context-search : (path : List (List ℕ)) (r : Result ℕ ℕ) → IsSearchInRange r (length lent) → IsBinarySearchResult (λ y. path_cmp (f y).context path) lent r
      → is_err r ≡ not (list_any (λ (t : PlainRule). is_eq (path_cmp t.context path)) (map f items))
  context-search path (Ok at) bound e = sym (ap not (context-found path at bound e))
  context-search path (Err at) bound e = sym (ap not (context-none path at e))
