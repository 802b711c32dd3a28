-- Kids in the order of their labels: what they have, and that they ascend exactly where no two have one label.
use Rattle.std.proofs.Common.{◌≡◌, ◌≢◌, Bool, true, false, cond, IsTrue, true≢false, List, [], ◌∷◌, map, refl, ap, sym, subst, ◌∙◌, inl, inr}
use Rattle.std.specs.Prelude.{⊤}
use Rattle.std.specs.List.{AllByRecursion}
use Rattle.std.specs.Ordering.{is_lt, ordering_reverse}
use Rattle.std.specs.declared.cmp.Ordering.TheVariants.{Less, Equal, Greater}
use Rattle.keyed_tree.specs.Data.{PlainLabel, PlainKeyed, label_of, kids_from}
use Rattle.keyed_tree.specs.Kids.{ascend}
use Rattle.keyed_tree.specs.Lists.{Ascends, Has}
use Rattle.keyed_tree.specs.Order.{label_cmp}
use Rattle.keyed_tree.specs.Laws.{label_cmp_total, label_cmp_exact}
use Rattle.jsonml_tree.proofs.Lists.{all_has, has_all, not_itself}
use Rattle.keyed_tree.proofs.Kids.{kids_list-kids_from, ascend-all, all-ascend}
use Rattle.key_annotate.specs.Annotated.{put_kid, in_order}

-- no two have one label
abbrev pub Apart : List PlainKeyed → Type 0
Apart [] = ⊤
Apart (k ∷ ks) = AllByRecursion (λ j. label_of k ≢ label_of j) ks × Apart ks

-- the labels ascend
abbrev pub Rise : List PlainKeyed → Type 0
Rise ks = Ascends label_cmp (map label_of ks)

-- ---- what the list in order has

cond-has : {A : Type 0} (b : Bool) (P : A → Type 0) (x y : A) → P x → P y → P (cond b x y)
cond-has true P x y h g = h
cond-has false P x y h g = g

pub has-put : (z k : PlainKeyed) (ks : List PlainKeyed) → Has z (k ∷ ks) → Has z (put_kid k ks)
has-put z k [] m = m
has-put z k (x ∷ xs) m = cond-has (is_lt (label_cmp (label_of x) (label_of k))) (λ l. Has z l) (x ∷ put_kid k xs) (k ∷ x ∷ xs)
    (elim m [ inl e ↦ inr (has-put z k xs (inl e)) | inr n ↦ elim n [ inl e ↦ inl e | inr r ↦ inr (has-put z k xs (inr r)) ] ]) m

pub put-has : (z k : PlainKeyed) (ks : List PlainKeyed) → Has z (put_kid k ks) → Has z (k ∷ ks)
put-has z k [] m = m
put-has z k (x ∷ xs) m =
    elim (is_lt (label_cmp (label_of x) (label_of k))) as (λ b. Has z (cond b (x ∷ put_kid k xs) (k ∷ x ∷ xs)) → Has z (k ∷ x ∷ xs)) [
      | true ↦ λ n. elim n [ inl e ↦ inr (inl e) | inr r ↦ elim (put-has z k xs r) [ inl e ↦ inl e | inr s ↦ inr (inr s) ] ]
      | false ↦ λ n. n
    ] m

pub has-order : (z : PlainKeyed) (ks : List PlainKeyed) → Has z ks → Has z (in_order ks)
has-order z [] m = m
has-order z (k ∷ ks) m = has-put z k (in_order ks) (elim m [ inl e ↦ inl e | inr n ↦ inr (has-order z ks n) ])

pub order-has : (z : PlainKeyed) (ks : List PlainKeyed) → Has z (in_order ks) → Has z ks
order-has z [] m = m
order-has z (k ∷ ks) m = elim (put-has z k (in_order ks) m) [ inl e ↦ inl e | inr n ↦ inr (order-has z ks n) ]

-- ---- it ascends where no two have one label

not_less : (l m : PlainLabel) → l ≢ m → is_lt (label_cmp l m) ≡ false → label_cmp m l ≡ Less
not_less l m other e =
    elim (label_cmp l m) as (λ o. label_cmp l m ≡ o → is_lt o ≡ false → label_cmp m l ≡ Less) [
      | Less ↦ λ d f. absurd (true≢false f)
      | Equal ↦ λ d f. absurd (other (label_cmp_exact l m d))
      | Greater ↦ λ d f. label_cmp_total.antisymm m l ∙ ap ordering_reverse d
    ] refl e

is_less : (l m : PlainLabel) → is_lt (label_cmp l m) ≡ true → label_cmp l m ≡ Less
is_less l m e =
    elim (label_cmp l m) as (λ o. is_lt o ≡ true → o ≡ Less) [
      | Less ↦ λ f. refl
      | Equal ↦ λ f. absurd (true≢false (sym f))
      | Greater ↦ λ f. absurd (true≢false (sym f))
    ] e

abbrev pub Below : PlainLabel → List PlainKeyed → Type 0
Below l ks = AllByRecursion (λ m. label_cmp l m ≡ Less) (map label_of ks)

below-trans : (l m : PlainLabel) (ks : List PlainKeyed) → label_cmp l m ≡ Less → Below m ks → Below l ks
below-trans l m [] e h = tt
below-trans l m (k ∷ ks) e h = (label_cmp_total.trans l m (label_of k) e h.0, below-trans l m ks e h.1)

below-put : (l : PlainLabel) (k : PlainKeyed) (ks : List PlainKeyed) → label_cmp l (label_of k) ≡ Less → Below l ks → Below l (put_kid k ks)
below-put l k [] e h = (e, tt)
below-put l k (x ∷ xs) e h = cond-has (is_lt (label_cmp (label_of x) (label_of k))) (Below l) (x ∷ put_kid k xs) (k ∷ x ∷ xs) (h.0, below-put l k xs e h.1) (e, h)

rise-put : (k : PlainKeyed) (ks : List PlainKeyed) → AllByRecursion (λ j. label_of k ≢ label_of j) ks → Rise ks → Rise (put_kid k ks)
rise-put k [] other up = (tt, tt)
rise-put k (x ∷ xs) other up =
    elim (is_lt (label_cmp (label_of x) (label_of k))) as (λ b. is_lt (label_cmp (label_of x) (label_of k)) ≡ b → Rise (cond b (x ∷ put_kid k xs) (k ∷ x ∷ xs))) [
      | true ↦ λ e. (below-put (label_of x) k xs (is_less (label_of x) (label_of k) e) up.0, rise-put k xs other.1 up.1)
      | false ↦ λ e. (let less = not_less (label_of x) (label_of k) (λ d. other.0 (sym d)) e in ((less, below-trans (label_of k) (label_of x) xs less up.0), up))
    ] refl

pub all-order : (P : PlainKeyed → Type 0) (ks : List PlainKeyed) → AllByRecursion P ks → AllByRecursion P (in_order ks)
all-order P ks h = has_all P (in_order ks) (λ z m. all_has P ks z h (order-has z ks m))

pub rise-order : (ks : List PlainKeyed) → Apart ks → Rise (in_order ks)
rise-order [] a = tt
rise-order (k ∷ ks) a = rise-put k (in_order ks) (all-order (λ j. label_of k ≢ label_of j) ks a.0) (rise-order ks a.1)

-- ---- and only there

below-other : (l : PlainLabel) (ks : List PlainKeyed) → Below l ks → AllByRecursion (λ j. l ≢ label_of j) ks
below-other l [] h = tt
below-other l (k ∷ ks) h = (λ e. not_itself label_cmp_total l (subst (λ m. label_cmp l m ≡ Less) (sym e) h.0), below-other l ks h.1)

pub apart-rise : (ks : List PlainKeyed) → Rise ks → Apart ks
apart-rise [] h = tt
apart-rise (k ∷ ks) h = (below-other (label_of k) ks h.0, apart-rise ks h.1)

-- a kid put among others that ascend afterwards: they ascended, and its label was none of theirs
put-rise : (k : PlainKeyed) (ks : List PlainKeyed) → Rise (put_kid k ks) → AllByRecursion (λ j. label_of k ≢ label_of j) ks × Rise ks
put-rise k [] h = (tt, tt)
put-rise k (x ∷ xs) h =
    elim (is_lt (label_cmp (label_of x) (label_of k))) as (λ b. is_lt (label_cmp (label_of x) (label_of k)) ≡ b → Rise (cond b (x ∷ put_kid k xs) (k ∷ x ∷ xs)) → AllByRecursion (λ j. label_of k ≢ label_of j) (x ∷ xs) × Rise (x ∷ xs)) [
      | true ↦ λ e up. (
          let rest = put-rise k xs up.1 in
          let less = is_less (label_of x) (label_of k) e in
          let other : label_of k ≢ label_of x = λ d. not_itself label_cmp_total (label_of k) (subst (λ m. label_cmp m (label_of k) ≡ Less) (sym d) less) in
          ((other, rest.0), (below-put-back (label_of x) k xs up.0, rest.1)))
      | false ↦ λ e up. (below-other (label_of k) (x ∷ xs) up.0, up.1)
    ] refl h
  where
    below-put-back : (l : PlainLabel) (k : PlainKeyed) (ks : List PlainKeyed) → Below l (put_kid k ks) → Below l ks
    below-put-back l k [] h = tt
    below-put-back l k (x ∷ xs) h =
        elim (is_lt (label_cmp (label_of x) (label_of k))) as (λ b. Below l (cond b (x ∷ put_kid k xs) (k ∷ x ∷ xs)) → Below l (x ∷ xs)) [
          | true ↦ λ g. (g.0, below-put-back l k xs g.1)
          | false ↦ λ g. g.1
        ] h

order-all : (P : PlainKeyed → Type 0) (ks : List PlainKeyed) → AllByRecursion P (in_order ks) → AllByRecursion P ks
order-all P ks h = has_all P ks (λ z m. all_has P (in_order ks) z h (has-order z ks m))

pub order-apart : (ks : List PlainKeyed) → Rise (in_order ks) → Apart ks
order-apart [] h = tt
order-apart (k ∷ ks) h = (let two = put-rise k (in_order ks) h in (order-all (λ j. label_of k ≢ label_of j) ks two.0, order-apart ks two.1))

-- ---- the same of the test

pub ascend-rise : (ks : List PlainKeyed) → IsTrue (ascend (kids_from ks)) → Rise ks
ascend-rise ks h = subst Rise (kids_list-kids_from ks) (ascend-all (kids_from ks) h)

pub rise-ascend : (ks : List PlainKeyed) → Rise ks → IsTrue (ascend (kids_from ks))
rise-ascend ks h = all-ascend (kids_from ks) (subst Rise (sym (kids_list-kids_from ks)) h)
