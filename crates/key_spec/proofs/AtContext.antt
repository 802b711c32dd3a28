-- Rules of one context, and rules whose contexts go on behind it, in a list that ascends.
use Rattle.std.proofs.Common.{◌≡◌, ℕ, ◌≤◌, Bool, true, false, not, cond, ◌||◌, ◌⊎◌, inl, inr, ⊎_elim, List, [], ◌∷◌, length, map, take, drop, refl, ap, sym, ◌∙◌, subst, arith, suc, zero}
use Rattle.std.proofs.lemmas.Bool.{cond-true, cond-false, and_parts, and_from, false_from_ne_true, not_from_false}
use Rattle.std.proofs.lemmas.Cmp.{tied_itself, nat_list_cmp_total}
use Rattle.std.proofs.lemmas.List.Kept.{IsStrictlySortedBy-filter}
use Rattle.std.proofs.lemmas.Map.Lookups.{exact_bytes}
use Rattle.std.proofs.lemmas.Map.Text.{is_eq-slice_cmp}
use Rattle.std.proofs.lemmas.Slice.Eq.{bytes_eq-Decides}
use Rattle.std.specs.List.{AllByRecursion, filter, find, list_any}
use Rattle.std.specs.List.Sorted.{IsStrictlySortedBy, IsPartitionedBy, IsPartitionPoint}
use Rattle.std.specs.Ordering.{is_eq, is_lt, is_le, ordering_index, ordering_then}
use Rattle.std.specs.Str.{bytes_eq}
use Rattle.std.specs.declared.cmp.Ordering.{Ordering}
use Rattle.std.specs.declared.cmp.Ordering.TheVariants.{Less, Equal, Greater}
use Rattle.key_spec.specs.Data.{PlainRule}
use Rattle.key_spec.specs.Laws.{path_cmp_total, rule_cmp_total}
use Rattle.key_spec.specs.Rules.{name_cmp, path_cmp, rule_cmp, tag_cmp, tagged, below, has_context, is_before, is_up_to, goes_behind, ends_below, EndsBelow}
use Rattle.key_spec.proofs.Members.{from_any, to_any, head_less}
use Rattle.key_spec.proofs.OrderLaws.{path_cmp_exact, path_cmp-Decides}
use Rattle.key_spec.proofs.SearchLemmas.{by_context}

-- ---- where two tests part the rules: those before a path, and those up to it

module _ {X : Type 0} (f : X → PlainRule) (xs : List X) (path : List (List ℕ)) (s : IsStrictlySortedBy rule_cmp (map f xs)) where
  lt_down : (o p : Ordering) → ordering_index o ≤ ordering_index p → is_lt p ≡ true → is_lt o ≡ true
  lt_down Less p l e = refl
  lt_down Equal Less l e = absurd (omega arith)
  lt_down Equal Equal l e = cc
  lt_down Equal Greater l e = cc
  lt_down Greater Less l e = absurd (omega arith)
  lt_down Greater Equal l e = cc
  lt_down Greater Greater l e = cc

  le_down : (o p : Ordering) → ordering_index o ≤ ordering_index p → is_le p ≡ true → is_le o ≡ true
  le_down Less p l e = refl
  le_down Equal p l e = refl
  le_down Greater Less l e = absurd (omega arith)
  le_down Greater Equal l e = absurd (omega arith)
  le_down Greater Greater l e = cc

  pub parted-before : IsPartitionedBy (λ y. is_lt (path_cmp (f y).context path)) xs
  parted-before i j d le h e = lt_down _ _ (by_context f xs path s i j d le h) e

  pub parted-up_to : IsPartitionedBy (λ y. is_le (path_cmp (f y).context path)) xs
  parted-up_to i j d le h e = le_down _ _ (by_context f xs path s i j d le h) e

-- ---- what a test keeps of a list that it parts

module _ {X : Type 0} (f : X → PlainRule) (p : PlainRule → Bool) where
  -- the front passes it, and the rest does not
  abbrev pub Parts : List X → ℕ → Type 0
  Parts = IsPartitionPoint (λ y. p (f y) ≡ true) (λ y. p (f y) ≡ false)

  later : (x : X) (xs : List X) (n : ℕ) → Parts (x ∷ xs) (suc n) → Parts xs n
  later x xs n h = (λ k d l m. h.0 (suc k) d (omega arith) (omega arith), λ k d l m. h.1 (suc k) d (omega arith) (omega arith))

  none : (x : X) (xs : List X) → Parts (x ∷ xs) zero → Parts xs zero
  none x xs h = (λ k d l m. absurd (omega (arith, m)), λ k d l m. h.1 (suc k) d (omega arith) (omega arith))

  pub kept-front : (xs : List X) (n : ℕ) → Parts xs n → map f (take n xs) ≡ filter p (map f xs)
  kept-front [] zero h = refl
  kept-front [] (suc n) h = refl
  kept-front (x ∷ xs) zero h = kept-front xs zero (none x xs h) ∙ sym (cond-false (p (f x)) _ _ (h.1 0 x (omega arith) (omega arith)))
  kept-front (x ∷ xs) (suc n) h = ap (λ ys. f x ∷ ys) (kept-front xs n (later x xs n h)) ∙ sym (cond-true (p (f x)) _ _ (h.0 0 x (omega arith) (omega arith)))

  -- so it has as many as pass
  pub front-length : (xs : List X) (n : ℕ) → n ≤ length xs → Parts xs n → n ≡ length (filter p (map f xs))
  front-length [] zero l h = refl
  front-length [] (suc n) l h = absurd (omega (arith, l))
  front-length (x ∷ xs) zero l h = front-length xs zero (omega arith) (none x xs h) ∙ sym (ap length (cond-false (p (f x)) _ _ (h.1 0 x (omega arith) (omega arith))))
  front-length (x ∷ xs) (suc n) l h = ap suc (front-length xs n (omega (arith, l)) (later x xs n h)) ∙ sym (ap length (cond-true (p (f x)) _ _ (h.0 0 x (omega arith) (omega arith))))

  pub kept-back : (xs : List X) (n : ℕ) → Parts xs n → map f (drop n xs) ≡ filter (λ r. not (p r)) (map f xs)
  kept-back [] zero h = refl
  kept-back [] (suc n) h = refl
  kept-back (x ∷ xs) zero h = ap (λ ys. f x ∷ ys) (kept-back xs zero (none x xs h)) ∙ sym (cond-true (not (p (f x))) _ _ (ap not (h.1 0 x (omega arith) (omega arith))))
  kept-back (x ∷ xs) (suc n) h = kept-back xs n (later x xs n h) ∙ sym (cond-false (not (p (f x))) _ _ (ap not (h.0 0 x (omega arith) (omega arith))))

-- ---- the rules of a context

between : (o : Ordering) → not (is_lt o) ≡ true → is_le o ≡ is_eq o
between Less e = cc
between Equal e = refl
between Greater e = refl

before-not : (o : Ordering) → not (is_lt o) ≡ false → is_eq o ≡ false
before-not Less e = refl
before-not Equal e = cc
before-not Greater e = cc

-- they are those up to the path among those that are not before it
pub stretch : (path : List (List ℕ)) (rules : List PlainRule) → filter (is_up_to path) (filter (λ r. not (is_before path r)) rules) ≡ filter (has_context path) rules
stretch path [] = refl
stretch path (r ∷ rs) = by_test (not (is_before path r)) refl (stretch path rs)
  where
    by_test : (b : Bool) → not (is_before path r) ≡ b → filter (is_up_to path) (filter (λ q. not (is_before path q)) rs) ≡ filter (has_context path) rs
        → filter (is_up_to path) (cond b (r ∷ filter (λ q. not (is_before path q)) rs) (filter (λ q. not (is_before path q)) rs)) ≡ filter (has_context path) (r ∷ rs)
    by_test true e more =
        ap (λ b. cond b (r ∷ filter (is_up_to path) (filter (λ q. not (is_before path q)) rs)) (filter (is_up_to path) (filter (λ q. not (is_before path q)) rs))) (between (path_cmp r.context path) e)
        ∙ ap (λ ys. cond (has_context path r) (r ∷ ys) ys) more
    by_test false e more = more ∙ sym (cond-false (has_context path r) _ _ (before-not (path_cmp r.context path) e))

-- what is kept passes
all-kept : (p : PlainRule → Bool) (rs : List PlainRule) → AllByRecursion (λ r. p r ≡ true) (filter p rs)
all-kept p [] = tt
all-kept p (r ∷ rs) = one (p r) refl (all-kept p rs)
  where
    one : (b : Bool) → p r ≡ b → AllByRecursion (λ q. p q ≡ true) (filter p rs) → AllByRecursion (λ q. p q ≡ true) (cond b (r ∷ filter p rs) (filter p rs))
    one true e more = (e, more)
    one false e more = more

-- rules of one context ascend by their tags
pub tags-ascend : (path : List (List ℕ)) (rules : List PlainRule) → IsStrictlySortedBy rule_cmp rules → IsStrictlySortedBy tag_cmp (filter (has_context path) rules)
unfolding IsStrictlySortedBy
tags-ascend path rules s = of_one (filter (has_context path) rules) (all-kept (has_context path) rules) (IsStrictlySortedBy-filter rule_cmp (has_context path) rules s)
  where
    has_it : PlainRule → Type 0
    has_it r = has_context path r ≡ true

    tag-less : (x y : PlainRule) → has_it x → has_it y → rule_cmp x y ≡ Less → tag_cmp x y ≡ Less
    tag-less x y a b e =
        let same : x.context ≡ y.context = (path_cmp-Decides x.context path).0 a ∙ sym ((path_cmp-Decides y.context path).0 b) in
        let equal : path_cmp x.context y.context ≡ Equal = ap (λ p. path_cmp p y.context) same ∙ tied_itself path_cmp_total y.context in
        sym (ap (λ o. ordering_then o (name_cmp x.tag y.tag)) equal) ∙ e

    heads : (x : PlainRule) (rs : List PlainRule) → has_it x → AllByRecursion has_it rs → AllByRecursion (λ y. rule_cmp x y ≡ Less) rs → AllByRecursion (λ y. tag_cmp x y ≡ Less) rs
    heads x [] a all less = tt
    heads x (y ∷ rs) a all less = (tag-less x y a all.0 less.0, heads x rs a all.1 less.1)

    of_one : (rs : List PlainRule) → AllByRecursion has_it rs → IsStrictlySortedBy rule_cmp rs → IsStrictlySortedBy tag_cmp rs
    of_one [] all t = tt
    of_one (r ∷ rs) all t = (heads r rs all.0 all.1 t.0, of_one rs all.1 t.1)

-- the first with a tag is the first that compares equal
pub tagged-find : (rules : List PlainRule) (t : List ℕ) → tagged rules t ≡ find (λ r. is_eq (name_cmp r.tag t)) rules
tagged-find rules t i = find (λ r. sym (is_eq-slice_cmp r.tag t) i) rules

-- ---- contexts that go on behind a path

-- they stand behind it
behind-greater : (path names : List (List ℕ)) → goes_behind path names ≡ true → is_le (path_cmp names path) ≡ false
behind-greater [] [] e = cc
behind-greater [] (n ∷ names) e = refl
behind-greater (p ∷ path) [] e = cc
behind-greater (p ∷ path) (n ∷ names) e =
    let both = and_parts (bytes_eq p n) (goes_behind path names) e in
    let same : p ≡ n = (bytes_eq-Decides p n).0 both.0 in
    ap (λ o. is_le (ordering_then o (path_cmp names path))) (ap (name_cmp n) same ∙ tied_itself nat_list_cmp_total n) ∙ behind-greater path names both.1

-- and what stands between the path and one of them goes on behind it too
between-behind : (path c d : List (List ℕ)) → is_le (path_cmp c path) ≡ false → path_cmp c d ≡ Less → goes_behind path d ≡ true → goes_behind path c ≡ true
between-behind [] [] d g l e = cc
between-behind [] (c ∷ cs) d g l e = refl
between-behind (p ∷ path) [] d g l e = cc
between-behind (p ∷ path) (c ∷ cs) [] g l e = cc
between-behind (p ∷ path) (c ∷ cs) (d ∷ ds) g l e =
    let both = and_parts (bytes_eq p d) (goes_behind path ds) e in
    let same : p ≡ d = (bytes_eq-Decides p d).0 both.0 in
    let less : ordering_then (name_cmp c p) (path_cmp cs ds) ≡ Less = ap (λ n. ordering_then (name_cmp c n) (path_cmp cs ds)) same ∙ l in
    by_first (name_cmp c p) refl g less (λ h m. between-behind path cs ds h m both.1)
  where
    by_first : (o : Ordering) → name_cmp c p ≡ o → is_le (ordering_then o (path_cmp cs path)) ≡ false → ordering_then o (path_cmp cs ds) ≡ Less
        → (is_le (path_cmp cs path) ≡ false → path_cmp cs ds ≡ Less → goes_behind path cs ≡ true) → goes_behind (p ∷ path) (c ∷ cs) ≡ true
    by_first Less f h m more = cc
    by_first Greater f h m more = cc
    by_first Equal f h m more = and_from (bytes_eq p c) (goes_behind path cs) ((bytes_eq-Decides p c).1 (sym (exact_bytes c p f))) (more h m)

-- so the first rule behind the path tells of all behind it
pub first-tells : (path : List (List ℕ)) (x : PlainRule) (xs : List PlainRule) → IsStrictlySortedBy rule_cmp (x ∷ xs) → is_le (path_cmp x.context path) ≡ false
    → list_any (λ (r : PlainRule). goes_behind path r.context) (x ∷ xs) ≡ goes_behind path x.context
first-tells path x xs s g = by_answer (goes_behind path x.context) refl
  where
    less-or-same : (y : PlainRule) → rule_cmp x y ≡ Less → (path_cmp x.context y.context ≡ Less) ⊎ (x.context ≡ y.context)
    less-or-same y e = by_order (path_cmp x.context y.context) refl e
      where
        by_order : (o : Ordering) → path_cmp x.context y.context ≡ o → ordering_then o (name_cmp x.tag y.tag) ≡ Less → (path_cmp x.context y.context ≡ Less) ⊎ (x.context ≡ y.context)
        by_order Less f h = inl f
        by_order Equal f h = inr (path_cmp_exact x.context y.context f)
        by_order Greater f h = cc

    by_answer : (b : Bool) → goes_behind path x.context ≡ b → (b || list_any (λ (r : PlainRule). goes_behind path r.context) xs) ≡ b
    by_answer true e = refl
    by_answer false e =
        false_from_ne_true (list_any (λ (r : PlainRule). goes_behind path r.context) xs) (λ h.
        let found = from_any (λ (r : PlainRule). goes_behind path r.context) xs h in
        let less = head_less rule_cmp_total x xs found.0 s found.1 in
        let yes : goes_behind path x.context ≡ true = ⊎_elim (λ l. between-behind path x.context found.0.context g l found.2) (λ l. ap (goes_behind path) l ∙ found.2) (less-or-same found.0 less) in
        let no : true ≡ false = sym yes ∙ e in cc)

-- nothing before it or at the path does
only-behind : (path : List (List ℕ)) (rules : List PlainRule) → list_any (λ (r : PlainRule). goes_behind path r.context) rules ≡ list_any (λ (r : PlainRule). goes_behind path r.context) (filter (λ r. not (is_up_to path r)) rules)
only-behind path [] = refl
only-behind path (r ∷ rs) = by_test (not (is_up_to path r)) refl (only-behind path rs)
  where
    g : PlainRule → Bool
    g q = goes_behind path q.context

    by_test : (b : Bool) → not (is_up_to path r) ≡ b → list_any g rs ≡ list_any g (filter (λ q. not (is_up_to path q)) rs)
        → (g r || list_any g rs) ≡ list_any g (cond b (r ∷ filter (λ q. not (is_up_to path q)) rs) (filter (λ q. not (is_up_to path q)) rs))
    by_test true e more = ap (λ b. g r || b) more
    by_test false e more =
        let no : g r ≡ false = false_from_ne_true (g r) (λ h. let bad : true ≡ false = sym (ap not (behind-greater path r.context h)) ∙ e in cc) in
        ap (λ b. b || list_any g rs) no ∙ more

pub nothing : {X : Type 0} (xs : List X) → length xs ≡ 0 → xs ≡ []
nothing [] e = refl
nothing (x ∷ xs) e = absurd (omega arith)

-- so the first of those behind the path tells
module _ (path : List (List ℕ)) (rules : List PlainRule) (s : IsStrictlySortedBy rule_cmp rules) where
  pub behind-none : [] ≡ filter (λ r. not (is_up_to path r)) rules → ends_below rules path ≡ true
  behind-none e = ap not (only-behind path rules ∙ sym (ap (list_any (λ (r : PlainRule). goes_behind path r.context)) e))

  pub behind-first : (x : PlainRule) (xs : List PlainRule) → x ∷ xs ≡ filter (λ r. not (is_up_to path r)) rules → ends_below rules path ≡ not (goes_behind path x.context)
  behind-first x xs e =
      let sorted = subst (IsStrictlySortedBy rule_cmp) (sym e) (IsStrictlySortedBy-filter rule_cmp (λ r. not (is_up_to path r)) rules s) in
      let pass = subst (AllByRecursion (λ r. not (is_up_to path r) ≡ true)) (sym e) (all-kept (λ r. not (is_up_to path r)) rules) in
      ap not (only-behind path rules ∙ sym (ap (list_any (λ (r : PlainRule). goes_behind path r.context)) e) ∙ first-tells path x xs sorted (fails (is_up_to path x) pass.0))
    where
      fails : (b : Bool) → not b ≡ true → b ≡ false
      fails true f = cc
      fails false f = refl

-- the element right below a path is behind it
below-behind : (path : List (List ℕ)) (t : List ℕ) → goes_behind path (below path t) ≡ true
below-behind [] t = refl
below-behind (p ∷ path) t = and_from (bytes_eq p p) _ ((bytes_eq-Decides p p).1 refl) (below-behind path t)

-- where no context goes on behind the path, what is right below it is at the frontier
pub frontier-below : (rules : List PlainRule) (path : List (List ℕ)) → ends_below rules path ≡ true → EndsBelow rules path
frontier-below rules path e t =
    not_from_false _ (false_from_ne_true (list_any (λ (r : PlainRule). is_eq (path_cmp r.context (below path t))) rules) (λ h.
    let found = from_any (λ (r : PlainRule). is_eq (path_cmp r.context (below path t))) rules h in
    let same = (path_cmp-Decides found.0.context (below path t)).0 found.2 in
    let behind : goes_behind path found.0.context ≡ true = ap (goes_behind path) same ∙ below-behind path t in
    let some = to_any (λ (r : PlainRule). goes_behind path r.context) rules found.0 found.1 behind in
    let no : false ≡ true = ap not (sym some) ∙ e in cc))
