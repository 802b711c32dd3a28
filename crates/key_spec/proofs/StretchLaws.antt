-- Where the rules of a context stand in a list that ascends, and what their targets are.
use Rattle.std.proofs.Common.{◌≡◌, ℕ, ◌+◌, ◌-◌, ◌<◌, ◌≤◌, Bool, true, false, not, cond, eqb, ◌&&◌, ◌||◌, inl, inr, ⊎_elim, List, [], ◌∷◌, length, map, take, drop, get_or, Some, None, option_map, refl, ap, sym, subst, ◌∙◌, arith, suc, zero}
use Rattle.std.proofs.lemmas.Bool.{cond-true, cond-false, eq-eqb, false_from_ne_true, ne_eqb, not_from_false}
use Rattle.std.proofs.lemmas.List.{get_or-drop, get_or-map, get_or-take, length-drop, length-map, length-take, map-id}
use Rattle.std.proofs.lemmas.List.Kept.{IsStrictlySortedBy-filter}
use Rattle.std.proofs.lemmas.Slice.Eq.{bytes_eq-Decides}
use Rattle.std.proofs.lemmas.Option.{slice_get-get_or, slice_get-map}
use Rattle.std.specs.List.{filter, list_any, slice_get}
use Rattle.std.specs.List.Sorted.{IsStrictlySortedBy, IsPartitionedBy}
use Rattle.std.specs.Ordering.{is_eq, is_lt, is_le}
use Rattle.std.specs.Str.{bytes_eq}
use Rattle.std.specs.declared.cmp.Ordering.{Ordering}
use Rattle.std.specs.declared.cmp.Ordering.TheVariants.{Less, Equal, Greater}
use Rattle.key_spec.specs.Closed.{target_of, IsClosed}
use Rattle.key_spec.specs.Data.{PlainRule}
use Rattle.key_spec.specs.Rules.{path_cmp, place_cmp, rule_cmp, tagged, rule_of, is_frontier, below, has_context, is_before, is_up_to}
use Rattle.key_spec.specs.Stretches.{places, path_at, count_before, count_up_to}
use Rattle.key_spec.proofs.AtContext.{parted-before, parted-up_to, stretch}
use Rattle.key_spec.proofs.ClosedLaws.{has_context as context_known}
use Rattle.key_spec.proofs.Members.{In, from_any}
use Rattle.key_spec.proofs.OrderLaws.{path_cmp-Decides}
use Rattle.key_spec.proofs.SameNames.{same-place}
use Rattle.key_spec.proofs.Steps.{map-drop}

-- ---- what a test keeps of a list that it parts is a front of it, and what it leaves out is the rest

module _ (p : PlainRule → Bool) where
  later : (x : PlainRule) (xs : List PlainRule) → IsPartitionedBy p (x ∷ xs) → IsPartitionedBy p xs
  later x xs h = λ i j d le l e. h (suc i) (suc j) d (omega (arith, le)) (omega (arith, l)) e

  none-kept : (xs : List PlainRule) → ((i : ℕ) (d : PlainRule) → i < length xs → p (get_or xs i d) ≡ false) → filter p xs ≡ []
  none-kept [] each = refl
  none-kept (x ∷ xs) each = cond-false (p x) _ _ (each 0 x (omega arith)) ∙ none-kept xs (λ i d l. each (suc i) d (omega (arith, l)))

  none-behind : (x : PlainRule) (xs : List PlainRule) → IsPartitionedBy p (x ∷ xs) → p x ≡ false → filter p xs ≡ []
  none-behind x xs h e =
      none-kept xs (λ i d l. false_from_ne_true (p (get_or xs i d)) (λ f. let no : true ≡ false = sym (h 0 (suc i) d (omega arith) (omega (arith, l)) f) ∙ e in cc))

  pub kept : (xs : List PlainRule) → IsPartitionedBy p xs → take (length (filter p xs)) xs ≡ filter p xs
  kept [] h = refl
  kept (x ∷ xs) h = one (p x) refl (kept xs (later x xs h))
    where
      one : (b : Bool) → p x ≡ b → take (length (filter p xs)) xs ≡ filter p xs → take (length (cond b (x ∷ filter p xs) (filter p xs))) (x ∷ xs) ≡ cond b (x ∷ filter p xs) (filter p xs)
      one true e more = ap (λ ys. x ∷ ys) more
      one false e more = let none : filter p xs ≡ [] = none-behind x xs h e in rw none refl

  pub left : (xs : List PlainRule) → IsPartitionedBy p xs → drop (length (filter p xs)) xs ≡ filter (λ r. not (p r)) xs
  left [] h = refl
  left (x ∷ xs) h = one (p x) refl (left xs (later x xs h))
    where
      one : (b : Bool) → p x ≡ b → drop (length (filter p xs)) xs ≡ filter (λ r. not (p r)) xs
          → drop (length (cond b (x ∷ filter p xs) (filter p xs))) (x ∷ xs) ≡ cond (not b) (x ∷ filter (λ r. not (p r)) xs) (filter (λ r. not (p r)) xs)
      one true e more = more
      one false e more =
          let none : filter p xs ≡ [] = none-behind x xs h e in
          let rest : xs ≡ filter (λ r. not (p r)) xs = sym (ap (λ ys. drop (length ys) xs) none) ∙ more in
          ap (λ ys. drop (length ys) (x ∷ xs)) none ∙ ap (λ ys. x ∷ ys) rest

-- ---- the rules of a context stand between two counts

pub counts : (path : List (List ℕ)) (rules : List PlainRule) → count_up_to rules path ≡ count_before rules path + length (filter (has_context path) rules)
counts path [] = refl
counts path (r ∷ rs) = one (path_cmp r.context path) (counts path rs)
  where
    one : (o : Ordering) → count_up_to rs path ≡ count_before rs path + length (filter (has_context path) rs)
        → length (cond (is_le o) (r ∷ filter (is_up_to path) rs) (filter (is_up_to path) rs))
        ≡ length (cond (is_lt o) (r ∷ filter (is_before path) rs) (filter (is_before path) rs)) + length (cond (is_eq o) (r ∷ filter (has_context path) rs) (filter (has_context path) rs))
    one Less h = omega (arith, h)
    one Equal h = omega (arith, h)
    one Greater h = h

module _ (path : List (List ℕ)) (rules : List PlainRule) (s : IsStrictlySortedBy rule_cmp rules) where
  itself : (xs : List PlainRule) → IsStrictlySortedBy rule_cmp xs → IsStrictlySortedBy rule_cmp (map (λ r. r) xs)
  itself xs = subst (IsStrictlySortedBy rule_cmp) (sym (map-id xs))

  pub between : take (count_up_to rules path - count_before rules path) (drop (count_before rules path) rules) ≡ filter (has_context path) rules
  between =
      let rest : List PlainRule = filter (λ r. not (is_before path r)) rules in
      let at : drop (count_before rules path) rules ≡ rest = left (is_before path) rules (parted-before (λ r. r) rules path (itself rules s)) in
      let front = kept (is_up_to path) rest (parted-up_to (λ r. r) rest path (itself rest (IsStrictlySortedBy-filter rule_cmp (λ r. not (is_before path r)) rules s))) in
      let same : filter (is_up_to path) rest ≡ filter (has_context path) rules = stretch path rules in
      let many : count_up_to rules path - count_before rules path ≡ length (filter (is_up_to path) rest) = omega (arith, counts path rules, ap length same) in
      ap (λ n. take n (drop (count_before rules path) rules)) many ∙ ap (take (length (filter (is_up_to path) rest))) at ∙ front ∙ same

-- the counts ascend, and are within the list
pub counts-ascend : (path : List (List ℕ)) (rules : List PlainRule) → count_before rules path ≤ count_up_to rules path
counts-ascend path rules = omega (arith, counts path rules)

fewer : (p : PlainRule → Bool) (xs : List PlainRule) → length (filter p xs) ≤ length xs
fewer p [] = omega arith
fewer p (x ∷ xs) = one (p x) (fewer p xs)
  where
    one : (b : Bool) → length (filter p xs) ≤ length xs → length (cond b (x ∷ filter p xs) (filter p xs)) ≤ suc (length xs)
    one true h = omega (arith, h)
    one false h = omega (arith, h)

pub counts-within : (path : List (List ℕ)) (rules : List PlainRule) → count_up_to rules path ≤ length rules
counts-within path rules = fewer (is_up_to path) rules

-- so the frontier is where the counts are equal
any-some : (p : PlainRule → Bool) (xs : List PlainRule) → list_any p xs ≡ true → 0 < length (filter p xs)
any-some p [] e = cc
any-some p (x ∷ xs) e = one (p x) e (any-some p xs)
  where
    one : (b : Bool) → (b || list_any p xs) ≡ true → (list_any p xs ≡ true → 0 < length (filter p xs)) → 0 < length (cond b (x ∷ filter p xs) (filter p xs))
    one true f more = omega arith
    one false f more = more f

any-none : (p : PlainRule → Bool) (xs : List PlainRule) → list_any p xs ≡ false → length (filter p xs) ≡ 0
any-none p [] e = refl
any-none p (x ∷ xs) e = one (p x) e (any-none p xs)
  where
    one : (b : Bool) → (b || list_any p xs) ≡ false → (list_any p xs ≡ false → length (filter p xs) ≡ 0) → length (cond b (x ∷ filter p xs) (filter p xs)) ≡ 0
    one true f more = cc
    one false f more = more f

pub frontier-counts : (path : List (List ℕ)) (rules : List PlainRule) → eqb (count_before rules path) (count_up_to rules path) ≡ is_frontier rules path
frontier-counts path rules = tells (list_any (has_context path) rules) refl
  where
    tells : (b : Bool) → list_any (has_context path) rules ≡ b → eqb (count_before rules path) (count_up_to rules path) ≡ not b
    tells true e = ne_eqb _ _ (λ same. omega (arith, same, counts path rules, any-some (has_context path) rules e))
    tells false e = eq-eqb _ _ (omega (arith, counts path rules, any-none (has_context path) rules e))

-- ---- among the rules of a context one is found by its tag

module _ (path : List (List ℕ)) where
  and-true : (b : Bool) → b && true ≡ b
  and-true true = refl
  and-true false = refl

  and-false : (b : Bool) → b && false ≡ false
  and-false true = refl
  and-false false = refl

  pub by-tag : (rules : List PlainRule) (t : List ℕ) → tagged (filter (has_context path) rules) t ≡ rule_of rules path t
  by-tag [] t = refl
  by-tag (r ∷ rs) t = one (has_context path r) (by-tag rs t) ∙ sym (ap (λ b. cond b (Some r) (rule_of rs path t)) (same-place r.context r.tag path t))
    where
      one : (b : Bool) → tagged (filter (has_context path) rs) t ≡ rule_of rs path t
          → tagged (cond b (r ∷ filter (has_context path) rs) (filter (has_context path) rs)) t ≡ cond (bytes_eq r.tag t && b) (Some r) (rule_of rs path t)
      one true more = ap (λ o. cond (bytes_eq r.tag t) (Some r) o) more ∙ sym (ap (λ b. cond b (Some r) (rule_of rs path t)) (and-true (bytes_eq r.tag t)))
      one false more = more ∙ sym (cond-false (bytes_eq r.tag t && false) (Some r) (rule_of rs path t) (and-false (bytes_eq r.tag t)))

-- ---- the rule that was found stands at the place

pub found-place : (rules : List PlainRule) (path : List (List ℕ)) (t : List ℕ) (r : PlainRule) → rule_of rules path t ≡ Some r → (r.context ≡ path) × (r.tag ≡ t)
found-place [] path t r e = cc
found-place (x ∷ xs) path t r e =
    elim (bytes_eq x.tag t) as (λ c. bytes_eq x.tag t ≡ c → cond (c && has_context path x) (Some x) (rule_of xs path t) ≡ Some r → (r.context ≡ path) × (r.tag ≡ t)) [
      | false ↦ λ d f. found-place xs path t r f
      | true ↦ λ d f. elim (has_context path x) as (λ b. has_context path x ≡ b → cond b (Some x) (rule_of xs path t) ≡ Some r → (r.context ≡ path) × (r.tag ≡ t)) [
        | false ↦ λ c g. found-place xs path t r g
        | true ↦ λ c g. (let same : x ≡ r = some_same x r g in subst (λ (y : PlainRule). (y.context ≡ path) × (y.tag ≡ t)) same ((path_cmp-Decides x.context path).0 c, (bytes_eq-Decides x.tag t).0 d))
      ] refl f
    ] refl (sym (ap (λ b. cond b (Some x) (rule_of xs path t)) (same-place x.context x.tag path t)) ∙ e)
  where
    some_same : (x y : PlainRule) → Some x ≡ Some y → x ≡ y
    some_same x y f = cc

-- so its target is right below the path
pub found-target : (rules : List PlainRule) (path : List (List ℕ)) (t : List ℕ) (r : PlainRule) → rule_of rules path t ≡ Some r → target_of r ≡ below path t
found-target rules path t r e =
    let at = found-place rules path t r e in
    ap (λ c. below c r.tag) at.0 ∙ ap (below path) at.1

-- ---- where a tag has no rule there is none below its elements

-- a rule at a place is found
is-found : (rules : List PlainRule) (path : List (List ℕ)) (t : List ℕ) (r : PlainRule) → In r rules → r.context ≡ path → r.tag ≡ t → ¬ (rule_of rules path t ≡ None)
is-found [] path t r h c d e = absurd h
is-found (x ∷ xs) path t r (inl same) c d e =
    let here : (bytes_eq x.tag t && has_context path x) ≡ true =
    subst (λ (y : PlainRule). (bytes_eq y.tag t && has_context path y) ≡ true) same
    (ap (λ b. b && has_context path r) ((bytes_eq-Decides r.tag t).1 d) ∙ (path_cmp-Decides r.context path).1 c) in
    let yes : Some x ≡ None = sym (cond-true _ (Some x) (rule_of xs path t) (same-place x.context x.tag path t ∙ here)) ∙ e in cc
is-found (x ∷ xs) path t r (inr h) c d e = by_test (is_eq (place_cmp x.context x.tag path t)) e (is-found xs path t r h c d)
  where
    by_test : (b : Bool) → cond b (Some x) (rule_of xs path t) ≡ None → ¬ (rule_of xs path t ≡ None) → ⊥
    by_test true g more = cc
    by_test false g more = more g

last-same : (path other : List (List ℕ)) (t u : List ℕ) → below path t ≡ below other u → (path ≡ other) × (t ≡ u)
last-same [] [] t u e = (refl, cc)
last-same [] (o ∷ []) t u e = cc
last-same [] (o ∷ p ∷ other) t u e = cc
last-same (n ∷ []) [] t u e = cc
last-same (n ∷ m ∷ path) [] t u e = cc
last-same (n ∷ path) (o ∷ other) t u e =
    let first : n ≡ o = cc in
    let rest : below path t ≡ below other u = cc in
    let more = last-same path other t u rest in
    (λ i. first i ∷ more.0 i, more.1)

no-path : (path : List (List ℕ)) (t : List ℕ) → ¬ (below path t ≡ [])
no-path [] t e = cc
no-path (n ∷ path) t e = cc

pub none-below : (rules : List PlainRule) → IsClosed rules → (path : List (List ℕ)) (t : List ℕ) → rule_of rules path t ≡ None → is_frontier rules (below path t) ≡ true
none-below rules closes path t none =
    not_from_false _ (false_from_ne_true (list_any (has_context (below path t)) rules) (λ h.
    let found = from_any (has_context (below path t)) rules h in
    let at : found.0.context ≡ below path t = (path_cmp-Decides found.0.context (below path t)).0 found.2 in
    ⊎_elim
    (λ l. no-path path t (sym at ∙ l))
    (λ (l : (e : PlainRule) × In e rules × (target_of e ≡ found.0.context)).
    let parts = last-same l.0.context path l.0.tag t (l.2 ∙ at) in
    is-found rules path t l.0 l.1 parts.0 parts.1 none)
    (context_known closes.0 rules closes.1 found.0 found.1)))

-- ---- what stands at the numbers

-- of each place
pub at-number : {X : Type 0} (f : X → ℕ) (g : List (List ℕ) → ℕ) (xs : List X) (rules : List PlainRule) (n : ℕ) (x : X) → map f xs ≡ map g (places rules) → n ≤ length rules → x ≡ get_or xs n x → f x ≡ g (path_at rules n)
at-number f g xs rules n x e h is =
    let same : length xs ≡ length (places rules) = sym (length-map xs f) ∙ ap length e ∙ length-map (places rules) g in
    let many : length (places rules) ≡ suc (length rules) = ap suc (length-map rules target_of) in
    let low : n < length xs = omega (arith, same, many, h) in
    let there : n < length (places rules) = omega (arith, many, h) in
    ap f is ∙ sym (get_or-map f xs n x (f x) low) ∙ ap (λ ys. get_or ys n (f x)) e ∙ get_or-map g (places rules) n [] (f x) there

pub some-at : {X : Type 0} (xs : List X) (i : ℕ) → i < length xs → (x : X) × (x ≡ get_or xs i x)
some-at [] i h = absurd (omega (arith, h))
some-at (x ∷ xs) zero h = (x, refl)
some-at (x ∷ xs) (suc i) h = some-at xs i (omega (arith, h))

module _ {X : Type 0} (f : X → PlainRule) where
  front-map : (xs : List X) (n : ℕ) → map f (take n xs) ≡ take n (map f xs)
  front-map [] zero = refl
  front-map [] (suc n) = refl
  front-map (x ∷ xs) zero = refl
  front-map (x ∷ xs) (suc n) = ap (λ ys. f x ∷ ys) (front-map xs n)

  back-map : (xs : List X) (n : ℕ) → map f (drop n xs) ≡ drop n (map f xs)
  back-map [] zero = refl
  back-map [] (suc n) = refl
  back-map (x ∷ xs) zero = refl
  back-map (x ∷ xs) (suc n) = back-map xs n

  -- the rules of a context
  pub cut : (xs : List X) (rules : List PlainRule) (path : List (List ℕ)) (a b : ℕ) → map f xs ≡ rules → IsStrictlySortedBy rule_cmp rules → a ≡ count_before rules path → b ≡ count_up_to rules path → map f (take (b - a) (drop a xs)) ≡ filter (has_context path) rules
  cut xs rules path a b e s from to =
      front-map (drop a xs) (b - a) ∙ ap (take (b - a)) (back-map xs a ∙ ap (drop a) e)
      ∙ rw (from, to) (between path rules s)

  pub place-at : (xs : List X) (i : ℕ) (x : X) → i < length xs → x ≡ get_or xs i x → slice_get (map f xs) i ≡ Some (f x)
  place-at xs i x h is = slice_get-map f xs i ∙ ap (option_map f) (slice_get-get_or xs i x h ∙ ap (λ y. Some y) (sym is))

  -- one of them, read out of the whole list
  pub cut-at : (xs : List X) (a b i : ℕ) (x : X) → i < length (take (b - a) (drop a xs)) → x ≡ get_or xs (a + i) x → slice_get (map f (take (b - a) (drop a xs))) i ≡ Some (f x)
  cut-at xs a b i x h is =
      let low : i < b - a = omega (arith, h, length-take (b - a) (drop a xs)) in
      place-at (take (b - a) (drop a xs)) i x h (is ∙ sym (get_or-take (b - a) (drop a xs) i x low ∙ get_or-drop a xs i x))

  pub cut-within : (xs : List X) (a b i : ℕ) → i < length (take (b - a) (drop a xs)) → a + i < length xs
  cut-within xs a b i h = omega (arith, h, length-take (b - a) (drop a xs), length-drop a xs)

  -- its target is the path of the number behind its own
  pub path-behind : (xs : List X) (rules : List PlainRule) (i : ℕ) (x : X) → map f xs ≡ rules → i < length xs → x ≡ get_or xs i x → path_at rules (i + 1) ≡ target_of (f x)
  path-behind xs rules i x e h is =
      let on : i + 1 ≡ suc i = omega arith in
      let low : i < length rules = omega (arith, h, length-map xs f, ap length e) in
      ap (λ n. get_or (places rules) n []) on ∙ get_or-map target_of rules i (f x) [] low
      ∙ ap target_of (ap (λ ys. get_or ys i (f x)) (sym e) ∙ get_or-map f xs i x (f x) h ∙ ap f (sym is))

  -- the first with the tag, where those before it have others
  pub first-tagged : (xs : List X) (i : ℕ) (x : X) (t : List ℕ) → i < length xs → x ≡ get_or xs i x → bytes_eq (f x).tag t ≡ true → tagged (map f xs) t ≡ tagged (map f (drop i xs)) t → slice_get (map f xs) i ≡ tagged (map f xs) t
  first-tagged xs i x t h is same before =
      let here : tagged (map f (drop i xs)) t ≡ Some (f x) = ap (λ rs. tagged rs t) (map-drop f xs i x h is) ∙ cond-true (bytes_eq (f x).tag t) _ _ same in
      place-at xs i x h is ∙ sym here ∙ sym before
