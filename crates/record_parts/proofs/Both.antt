-- Comparing values where both stand in bytes.
use Rattle.std.proofs.Common.{◌≡◌, ℕ, suc, ◌-◌, ◌+◌, ◌<◌, ◌≤◌, List, [], ◌∷◌, min, drop, Option, Some, None, true, false, refl, sym, ap, subst, ◌∙◌, arith}
use Rattle.std.specs.Ordering.{is_ne, nat_cmp}
use Rattle.std.specs.declared.cmp.Ordering.{Ordering}
use Rattle.std.specs.declared.cmp.Ordering.TheVariants.{Less, Equal, Greater}
use Rattle.std.specs.Cmp.Lexicographic.{slice_cmp}
use Rattle.std.proofs.lemmas.Bool.Decides.{nat_tests}
use Rattle.xa_fields.proofs.Fields.{bind_some, some_is}
use Rattle.xa_fields.specs.Reading.{Reader, ◌>>=◌, many_at}
use Rattle.record_parts.specs.Compares.{Compares, ComparesBoth, IsBehind, ours}
use Rattle.record_parts.proofs.Compared.{Part, Splits, first_fails, first_decides, second_decides, wrapped, held, always, weaker}
use Rattle.record_parts.proofs.Leads.{Leads, not_equal, is_equal, starts, longer, ends, goes_on, decided, failed}

no_value : {A : Type 0} (s : Option A) (y : A) → s ≡ None → s ≡ Some y → ⊥
no_value (Some z) y e f = absurd cc
no_value None y e f = absurd cc

-- nothing is read of the first
pub no_ours : {A : Type 0} (order : A → A → Ordering) (r s : Option (A × List ℕ)) (xs ys : List ℕ) → r ≡ None → ComparesBoth order r s xs ys None
no_ours order r s xs ys e = λ y f. (λ x g. no_value r x e g, tt)

-- nothing is read of the other
pub no_theirs : {A : Type 0} (order : A → A → Ordering) (r s : Option (A × List ℕ)) (xs ys : List ℕ) (q : Option (Ordering × ℕ × ℕ)) → s ≡ None → ComparesBoth order r s xs ys q
no_theirs order r s xs ys q e = λ y f. absurd (no_value s y e f)

-- where readers give what others give
pub both_weaker : {A : Type 0} (order : A → A → Ordering) (r s r' s' : Option (A × List ℕ)) (xs ys : List ℕ) (q : Option (Ordering × ℕ × ℕ))
    → ((x : A × List ℕ) → r ≡ Some x → r' ≡ Some x) → ((x : A × List ℕ) → s ≡ Some x → s' ≡ Some x) → ComparesBoth order r' s' xs ys q → ComparesBoth order r s xs ys q
both_weaker {A} order r s r' s' xs ys q f g c = λ y e. (let h = c y (g y e) in (weaker (λ (x : A). order x y.0) r r' xs (ours q) f h.0, h.1))

pub both_read_as : {A : Type 0} (order : A → A → Ordering) (r s r' s' : Option (A × List ℕ)) (xs ys : List ℕ) (q : Option (Ordering × ℕ × ℕ)) → r ≡ r' → s ≡ s' → ComparesBoth order r' s' xs ys q → ComparesBoth order r s xs ys q
both_read_as order r s r' s' xs ys q e f c = both_weaker order r s r' s' xs ys q (λ x g. sym e ∙ g) (λ x g. sym f ∙ g) c

-- the answer of a comparison with a value that was read of the other
pub both_lent : {A : Type 0} (order : A → A → Ordering) (r s : Option (A × List ℕ)) (xs ys : List ℕ) (a : A) (m : ℕ) (o : Ordering) (n : ℕ) → Some (a, drop m ys) ≡ s → Compares (λ x. order x a) r xs (Some (o, n)) → ComparesBoth order r s xs ys (Some (o, n, m))
both_lent {A} order r s xs ys a m o n e c = λ y f.
    let same : (a, drop m ys) ≡ y = some_is (a, drop m ys) y (e ∙ f) in
    subst (λ (z : A × List ℕ). Compares (λ x. order x z.0) r xs (Some (o, n)) × (o ≡ Equal → drop m ys ≡ z.1)) same (c, λ t. refl)

pub both_lent_none : {A : Type 0} (order : A → A → Ordering) (r s : Option (A × List ℕ)) (xs ys : List ℕ) (a : A) (rest : List ℕ) → Some (a, rest) ≡ s → Compares (λ x. order x a) r xs None → ComparesBoth order r s xs ys None
both_lent_none {A} order r s xs ys a rest e c = λ y f.
    subst (λ (z : A × List ℕ). Compares (λ x. order x z.0) r xs None × Unit {0}) (some_is (a, rest) y (e ∙ f)) (c, tt)

-- ---- two parts

-- what is read of each is made of a first part and of a second one behind it, and the first ones decide unless they are equal
pub record Halves {A B C : Type 0} (r s : Option (C × List ℕ)) (fr fs : Option (A × List ℕ)) (second : Reader B) (make : A → B → C) (order : C → C → Ordering) (oa : A → A → Ordering) (ob : B → B → Ordering) : Type 0 where
  pub mine : (a : A) (b : B) → Splits r fr second make (λ c. order c (make a b)) (λ x. oa x a) (λ x. ob x b)
  pub theirs : (y : C × List ℕ) → s ≡ Some y → Part fs second make y

pub both_first_fails : {A B C : Type 0} (r s : Option (C × List ℕ)) (fr fs : Option (A × List ℕ)) (second : Reader B) (make : A → B → C) (order : C → C → Ordering) (oa : A → A → Ordering) (ob : B → B → Ordering) (xs ys : List ℕ)
    → Halves r s fr fs second make order oa ob → ComparesBoth oa fr fs xs ys None → ComparesBoth order r s xs ys None
both_first_fails {A} {B} {C} r s fr fs second make order oa ob xs ys h c = λ y e.
    let p = h.theirs y e in
    subst (λ (z : C × List ℕ). Compares (λ x. order x z.0) r xs None × Unit {0}) p.x_is
    (first_fails r fr second make (λ x. order x (make p.a.0 p.b.0)) (λ x. oa x p.a.0) (λ x. ob x p.b.0) xs (h.mine p.a.0 p.b.0) (c p.a p.a_is).0, tt)

pub both_first_decides : {A B C : Type 0} (r s : Option (C × List ℕ)) (fr fs : Option (A × List ℕ)) (second : Reader B) (make : A → B → C) (order : C → C → Ordering) (oa : A → A → Ordering) (ob : B → B → Ordering) (xs ys : List ℕ) (o : Ordering) (n m : ℕ)
    → Halves r s fr fs second make order oa ob → is_ne o ≡ true → ComparesBoth oa fr fs xs ys (Some (o, n, m)) → ComparesBoth order r s xs ys (Some (o, n, m))
both_first_decides {A} {B} {C} r s fr fs second make order oa ob xs ys o n m h ne c = λ y e.
    let p = h.theirs y e in
    let nq = not_equal o ne in (
      subst (λ (z : C × List ℕ). Compares (λ x. order x z.0) r xs (Some (o, n))) p.x_is
          (first_decides r fr second make (λ x. order x (make p.a.0 p.b.0)) (λ x. oa x p.a.0) (λ x. ob x p.b.0) xs o n n (h.mine p.a.0 p.b.0) (c p.a p.a_is).0 nq),
      λ t. absurd (nq t),
    )

pub both_second_decides : {A B C : Type 0} (r s : Option (C × List ℕ)) (fr fs : Option (A × List ℕ)) (second : Reader B) (make : A → B → C) (order : C → C → Ordering) (oa : A → A → Ordering) (ob : B → B → Ordering) (xs ys : List ℕ) (o : Ordering) (n m : ℕ) (q : Option (Ordering × ℕ × ℕ))
    → Halves r s fr fs second make order oa ob → is_ne o ≡ false → ComparesBoth oa fr fs xs ys (Some (o, n, m)) → ComparesBoth ob (second (drop n xs)) (second (drop m ys)) xs ys q → ComparesBoth order r s xs ys q
both_second_decides {A} {B} {C} r s fr fs second make order oa ob xs ys o n m q h eq c d = λ y e.
    let p = h.theirs y e in
    let same = is_equal o eq in
    let a = c p.a p.a_is in
    let b = d p.b (ap second (a.1 same) ∙ p.b_is) in
    subst (λ (z : C × List ℕ). Compares (λ x. order x z.0) r xs (ours q) × IsBehind ys z.1 q) p.x_is
    (second_decides r fr second make (λ x. order x (make p.a.0 p.b.0)) (λ x. oa x p.a.0) (λ x. ob x p.b.0) xs o n (ours q) (h.mine p.a.0 p.b.0) a.0 same b.0, b.1)

-- ---- one part

-- what is read of each is made of one value that is read, which decides
pub both_wrapped : {A C : Type 0} (r s : Option (A × List ℕ)) (make : A → C) (order : C → C → Ordering) (oa : A → A → Ordering) (xs ys : List ℕ) (q : Option (Ordering × ℕ × ℕ)) → ((a b : A) → oa a b ≡ order (make a) (make b))
    → ComparesBoth oa r s xs ys q → ComparesBoth order (r >>= λ x. Some (make x.0, x.1)) (s >>= λ x. Some (make x.0, x.1)) xs ys q
both_wrapped {A} {C} r s make order oa xs ys q same c = λ y e.
    let b = bind_some s (λ x. Some (make x.0, x.1)) y e in
    let h = c b.0 b.1 in
    subst (λ (z : C × List ℕ). Compares (λ x. order x z.0) (r >>= λ x. Some (make x.0, x.1)) xs (ours q) × IsBehind ys z.1 q) (some_is (make b.0.0, b.0.1) y b.2)
    (wrapped (r >>= λ x. Some (make x.0, x.1)) r (λ x. order x (make b.0.0)) (λ a. oa a b.0.0) xs (ours q) (λ x f. held r make (λ d. order d (make b.0.0)) (λ a. oa a b.0.0) x (λ a. same a b.0.0) f) h.0, h.1)

-- whatever values are read, their order is one that is not equal
pub both_always : {A B C : Type 0} (r : Option (A × List ℕ)) (s : Option (B × List ℕ)) (make : A → C) (other : B → C) (order : C → C → Ordering) (o : Ordering) (xs ys : List ℕ) (n m : ℕ) → ((a : A) (b : B) → order (make a) (other b) ≡ o) → (o ≡ Equal → ⊥)
    → ComparesBoth order (r >>= λ x. Some (make x.0, x.1)) (s >>= λ x. Some (other x.0, x.1)) xs ys (Some (o, n, m))
both_always {A} {B} {C} r s make other order o xs ys n m is ne = λ y e.
    let b = bind_some s (λ x. Some (other x.0, x.1)) y e in (
      subst (λ (z : C × List ℕ). Compares (λ x. order x z.0) (r >>= λ x. Some (make x.0, x.1)) xs (Some (o, n))) (some_is (other b.0.0, b.0.1) y b.2)
          (always r make (λ x. order x (other b.0.0)) o xs n (λ a. is a b.0.0) ne),
      λ t. absurd (ne t),
    )

-- ---- many, one after another

-- where the whole of the other is read, so is what is left of it, and what is left of both decides
pub record BothRest {A : Type 0} (cmp : A → A → Ordering) (total : Option (List A × List ℕ)) (y : List A × List ℕ) (read other : Option (List A × List ℕ)) : Type 0 where
  pub z : List A × List ℕ
  pub other_is : other ≡ Some z
  pub behind : z.1 ≡ y.1
  pub leads : Leads cmp total y.0 read z.0

abbrev pub BothLead : {A : Type 0} → (A → A → Ordering) → Option (List A × List ℕ) → Option (List A × List ℕ) → Option (List A × List ℕ) → Option (List A × List ℕ) → Type 0
BothLead {A} cmp total others read other = (y : List A × List ℕ) → others ≡ Some y → BothRest cmp total y read other

pub both_start : {A : Type 0} (cmp : A → A → Ordering) (total others : Option (List A × List ℕ)) → BothLead cmp total others total others
both_start cmp total others = λ y e. record { z = y; other_is = e; behind = refl; leads = starts cmp total y.0 }

-- the first of what is left of the other, and those behind it
record Next {A : Type 0} (one : Reader A) (k : ℕ) (bytes : List ℕ) (z : List A × List ℕ) : Type 0 where
  a : A × List ℕ
  rest : List A × List ℕ
  one_is : one bytes ≡ Some a
  rest_is : many_at one k a.1 ≡ Some rest
  z_is : (a.0 ∷ rest.0, rest.1) ≡ z

next : {A : Type 0} (one : Reader A) (count i : ℕ) (bytes : List ℕ) (z : List A × List ℕ) → i < count → many_at one (count - i) bytes ≡ Some z → Next one (count - (i + 1)) bytes z
unfolding many_at
next {A} one count i bytes z lt e =
    let k : count - i ≡ suc (count - (i + 1)) = omega arith in
    let here : many_at one (suc (count - (i + 1))) bytes ≡ Some z = ap (λ (n : ℕ). many_at one n bytes) (sym k) ∙ e in
    let b = bind_some (one bytes) (λ first. many_at one (count - (i + 1)) first.1 >>= λ others. Some (first.0 ∷ others.0, others.1)) z here in
    let d = bind_some (many_at one (count - (i + 1)) b.0.1) (λ others. Some (b.0.0 ∷ others.0, others.1)) z b.2 in
    record { a = b.0; rest = d.0; one_is = b.1; rest_is = d.1; z_is = some_is (b.0.0 ∷ d.0.0, d.0.1) z d.2 }

none_left : {A : Type 0} (one : Reader A) (count i : ℕ) (bytes : List ℕ) (z : List A × List ℕ) → count ≤ i → many_at one (count - i) bytes ≡ Some z → ([], bytes) ≡ z
unfolding many_at
none_left {A} one count i bytes z le e =
    let k : count - i ≡ 0 = omega arith in
    let made : List A × List ℕ = ([], bytes) in
    some_is made z (ap (λ (n : ℕ). many_at one n bytes) (sym k) ∙ e)

pub both_failed : {A : Type 0} (cmp : A → A → Ordering) (one : Reader A) (count many i : ℕ) (mine theirs xs ys : List ℕ) (total others : Option (List A × List ℕ)) → i < count → i < many
    → ComparesBoth cmp (one mine) (one theirs) xs ys None → BothLead cmp total others (many_at one (count - i) mine) (many_at one (many - i) theirs) → ComparesBoth (slice_cmp cmp) total others xs ys None
both_failed {A} cmp one count many i mine theirs xs ys total others lt less c leads = λ y e.
    let l = leads y e in
    let f = next one many i theirs l.z less l.other_is in
    let left = subst (λ (z : List A × List ℕ). Leads cmp total y.0 (many_at one (count - i) mine) z.0) (sym f.z_is) l.leads in
    (failed cmp one count i mine xs total y.0 f.rest.0 f.a.0 lt (c f.a f.one_is).0 left, tt)

pub both_decided : {A : Type 0} (cmp : A → A → Ordering) (one : Reader A) (count many i n m : ℕ) (mine theirs xs ys : List ℕ) (total others : Option (List A × List ℕ)) (o : Ordering) → i < count → i < many → is_ne o ≡ true
    → ComparesBoth cmp (one mine) (one theirs) xs ys (Some (o, n, m)) → BothLead cmp total others (many_at one (count - i) mine) (many_at one (many - i) theirs) → ComparesBoth (slice_cmp cmp) total others xs ys (Some (o, n, m))
both_decided {A} cmp one count many i n m mine theirs xs ys total others o lt less ne c leads = λ y e.
    let l = leads y e in
    let f = next one many i theirs l.z less l.other_is in
    let left = subst (λ (z : List A × List ℕ). Leads cmp total y.0 (many_at one (count - i) mine) z.0) (sym f.z_is) l.leads in
    let nq = not_equal o ne in
    (decided cmp one count i n n mine xs total y.0 f.rest.0 f.a.0 o lt nq (c f.a f.one_is).0 left, λ t. absurd (nq t))

pub both_go_on : {A : Type 0} (cmp : A → A → Ordering) (one : Reader A) (count many i n m : ℕ) (mine theirs xs ys : List ℕ) (total others : Option (List A × List ℕ)) (o : Ordering) → i < count → i < many → is_ne o ≡ false
    → ComparesBoth cmp (one mine) (one theirs) xs ys (Some (o, n, m)) → BothLead cmp total others (many_at one (count - i) mine) (many_at one (many - i) theirs)
    → BothLead cmp total others (many_at one (count - (i + 1)) (drop n xs)) (many_at one (many - (i + 1)) (drop m ys))
both_go_on {A} cmp one count many i n m mine theirs xs ys total others o lt less eq c leads = λ y e.
    let l = leads y e in
    let f = next one many i theirs l.z less l.other_is in
    let left = subst (λ (z : List A × List ℕ). Leads cmp total y.0 (many_at one (count - i) mine) z.0) (sym f.z_is) l.leads in
    let same = is_equal o eq in
    let here = c f.a f.one_is in
    record {
      z = f.rest;
      other_is = ap (many_at one (many - (i + 1))) (here.1 same) ∙ f.rest_is;
      behind = ap (λ (z : List A × List ℕ). z.1) f.z_is ∙ l.behind;
      leads = goes_on cmp one count i n mine xs total y.0 f.rest.0 f.a.0 o lt same here.0 left;
    }

-- what was left of one of them is passed: the counts decide
pub both_end : {A : Type 0} (cmp : A → A → Ordering) (one : Reader A) (count many i n m : ℕ) (xs ys : List ℕ) (total others : Option (List A × List ℕ)) (o : Ordering) → count ≤ i → many ≤ i → o ≡ Equal
    → BothLead cmp total others (many_at one (count - i) (drop n xs)) (many_at one (many - i) (drop m ys)) → ComparesBoth (slice_cmp cmp) total others xs ys (Some (o, n, m))
both_end {A} cmp one count many i n m xs ys total others o le less is leads = λ y e.
    let l = leads y e in
    let z_is = none_left one many i (drop m ys) l.z less l.other_is in
    let left = subst (λ (z : List A × List ℕ). Leads cmp total y.0 (many_at one (count - i) (drop n xs)) z.0) (sym z_is) l.leads in
    (ends cmp one count i n xs total y.0 [] o le is left, λ t. ap (λ (z : List A × List ℕ). z.1) z_is ∙ l.behind)

pub both_less : {A : Type 0} (cmp : A → A → Ordering) (one : Reader A) (count many i n m : ℕ) (xs ys : List ℕ) (total others : Option (List A × List ℕ)) (o : Ordering) → count ≤ i → i < many → o ≡ Less
    → BothLead cmp total others (many_at one (count - i) (drop n xs)) (many_at one (many - i) (drop m ys)) → ComparesBoth (slice_cmp cmp) total others xs ys (Some (o, n, m))
both_less {A} cmp one count many i n m xs ys total others o le less is leads = λ y e.
    let l = leads y e in
    let f = next one many i (drop m ys) l.z less l.other_is in
    let left = subst (λ (z : List A × List ℕ). Leads cmp total y.0 (many_at one (count - i) (drop n xs)) z.0) (sym f.z_is) l.leads in
    (ends cmp one count i n xs total y.0 (f.a.0 ∷ f.rest.0) o le is left, λ t. absurd (differ o is t))
  where
    differ : (p : Ordering) → p ≡ Less → p ≡ Equal → ⊥
    differ p a b = absurd cc

pub both_greater : {A : Type 0} (cmp : A → A → Ordering) (one : Reader A) (count many i n m : ℕ) (xs ys : List ℕ) (total others : Option (List A × List ℕ)) (o : Ordering) → i < count → many ≤ i → o ≡ Greater
    → BothLead cmp total others (many_at one (count - i) (drop n xs)) (many_at one (many - i) (drop m ys)) → ComparesBoth (slice_cmp cmp) total others xs ys (Some (o, n, m))
both_greater {A} cmp one count many i n m xs ys total others o lt less is leads = λ y e.
    let l = leads y e in
    let z_is = none_left one many i (drop m ys) l.z less l.other_is in
    let left = subst (λ (z : List A × List ℕ). Leads cmp total y.0 (many_at one (count - i) (drop n xs)) z.0) (sym z_is) l.leads in
    (subst (λ (p : Ordering). Compares (λ x. slice_cmp cmp x y.0) total xs (Some (p, n))) (sym is) (longer cmp one count i n (drop n xs) xs total y.0 lt left), λ t. absurd (differ o is t))
  where
    differ : (p : Ordering) → p ≡ Greater → p ≡ Equal → ⊥
    differ p a b = absurd cc

-- ---- counts

least_both : (n m : ℕ) → (min n m ≤ n) × (min n m ≤ m)
least_both n m = (grind (arith, nat_tests), grind (arith, nat_tests))

least_one : (n m : ℕ) → n < m → min n m ≡ n
least_one n m lt = grind (arith, nat_tests)

least_other : (n m : ℕ) → m < n → min n m ≡ m
least_other n m lt = grind (arith, nat_tests)

least_same : (n m : ℕ) → n ≡ m → min n m ≡ n
least_same n m e = grind (arith, nat_tests)

cmp_less : (n m : ℕ) → nat_cmp n m ≡ Less → n < m
cmp_less n m e = grind (arith, nat_tests)

cmp_equal : (n m : ℕ) → nat_cmp n m ≡ Equal → n ≡ m
cmp_equal n m e = grind (arith, nat_tests)

cmp_greater : (n m : ℕ) → nat_cmp n m ≡ Greater → m < n
cmp_greater n m e = grind (arith, nat_tests)

-- a counter below the lesser of two counts is below both
pub below : (n m k i : ℕ) → k ≡ min n m → i < k → (i < n) × (i < m)
below n m k i is lt = (let le = least_both n m in (omega (arith, is, lt, le.0), omega (arith, is, lt, le.1)))

-- the lesser of both counts is reached
pub both_ended : {A : Type 0} (cmp : A → A → Ordering) (one : Reader A) (count many k i n m : ℕ) (xs ys : List ℕ) (total others : Option (List A × List ℕ)) (o : Ordering) → k ≡ min count many → k ≤ i → i ≤ k → o ≡ nat_cmp count many
    → BothLead cmp total others (many_at one (count - i) (drop n xs)) (many_at one (many - i) (drop m ys)) → ComparesBoth (slice_cmp cmp) total others xs ys (Some (o, n, m))
both_ended {A} cmp one count many k i n m xs ys total others o least le ge is lead = decided (nat_cmp count many) refl
  where
    decided : (p : Ordering) → nat_cmp count many ≡ p → ComparesBoth (slice_cmp cmp) total others xs ys (Some (o, n, m))
    decided Less e =
        let lt = cmp_less count many e in
        let k_is : k ≡ count = least ∙ least_one count many lt in
        both_less cmp one count many i n m xs ys total others o (omega (arith, k_is, le)) (omega (arith, k_is, ge, lt)) (is ∙ e) lead
    decided Equal e =
        let same = cmp_equal count many e in
        let k_is : k ≡ count = least ∙ least_same count many same in
        both_end cmp one count many i n m xs ys total others o (omega (arith, k_is, le)) (omega (arith, k_is, le, same)) (is ∙ e) lead
    decided Greater e =
        let gt = cmp_greater count many e in
        let k_is : k ≡ many = least ∙ least_other count many gt in
        both_greater cmp one count many i n m xs ys total others o (omega (arith, k_is, ge, gt)) (omega (arith, k_is, le)) (is ∙ e) lead
