-- The alternatives of a leaf with one more version.
use Rattle.std.proofs.Common.{◌≡◌, ◌≢◌, ℕ, ◌<◌, ◌≤◌, Bool, true, false, cond, ◌||◌, List, [], ◌∷◌, ◌++◌, map, Some, refl, ap, sym, subst, ◌∙◌, arith, inl, inr, true≢false}
use Rattle.std.proofs.lemmas.List.{append-nil, map-append}
use Rattle.std.proofs.lemmas.Bool.Decides.{nat_tests}
use Rattle.std.specs.List.{AllByRecursion}
use Rattle.std.specs.Ordering.{is_eq, nat_cmp}
use Rattle.std.specs.declared.cmp.Ordering.TheVariants.{Less}
use Rattle.version_set.specs.Pairs.{IsCanonical}
use Rattle.version_set.specs.Members.{members}
use Rattle.keyed_tree.specs.Data.{PlainKey, PlainLabel, PlainKeyed, leaf}
use Rattle.keyed_tree.specs.Laws.{key_cmp-is_eq}
use Rattle.keyed_tree.specs.Lists.{Ascends, Has}
use Rattle.keyed_tree.specs.Order.{key_cmp}
use Rattle.archive_tree.specs.Data.{PlainAlt}
use Rattle.archive_tree.specs.Stands.{AllDiffer, Stamped, nums, those, nums_with, has_body, passed, first_num, head_or, bodies, AltStands}
use Rattle.nested_merge.specs.Merged.{grown, kept, merged_alt, merged_alts, has_alt}
use Rattle.archive_tree.proofs.Those.{all_those}
use Rattle.nested_merge.proofs.Picked.{those-append, nums-append, all_append, no_items}
use Rattle.nested_merge.proofs.Weave.{has_left, has_right}
use Rattle.nested_merge.proofs.Stamps.{alone, Below, one, grown_stamped, kept_stamped}

same_body : (b c : PlainKey) → b ≡ c → is_eq (key_cmp c b) ≡ true
same_body b c e = (key_cmp-is_eq c b).1 (sym e)

other_body : (b c : PlainKey) → is_eq (key_cmp b c) ≡ false → is_eq (key_cmp c b) ≡ false
other_body b c e =
    elim (is_eq (key_cmp c b)) as (λ t. is_eq (key_cmp c b) ≡ t → t ≡ false) [
      | true ↦ λ d. absurd (true≢false (sym (same_body c b ((key_cmp-is_eq c b).0 d)) ∙ e))
      | false ↦ λ d. refl
    ] refl

-- the numbers of a body, with a version that has it, and with one that has another
module _ (ws : List (ℕ × PlainKeyed)) (n : ℕ) (l : PlainLabel) (b : PlainKey) where
  pub with_same : (c : PlainKey) → is_eq (key_cmp c b) ≡ true → nums_with (ws ++ (n, leaf l b) ∷ []) c ≡ nums_with ws c ++ n ∷ []
  with_same c e =
      let d : is_eq (key_cmp b c) ≡ true = same_body c b ((key_cmp-is_eq c b).0 e) in
      ap nums (those-append (passed (has_body c)) ws n (leaf l b)) ∙ rw d (map-append _ (those (passed (has_body c)) ws) ((n, leaf l b) ∷ []))

  pub with_other : (c : PlainKey) → is_eq (key_cmp c b) ≡ false → nums_with (ws ++ (n, leaf l b) ∷ []) c ≡ nums_with ws c
  with_other c e =
      let d : is_eq (key_cmp b c) ≡ false = other_body c b e in
      ap nums (those-append (passed (has_body c)) ws n (leaf l b)) ∙ rw d (ap nums (append-nil (those (passed (has_body c)) ws)))

not_empty : (xs : List ℕ) (n : ℕ) → xs ++ n ∷ [] ≢ []
not_empty [] n e = cc
not_empty (x ∷ xs) n e = cc

head_append : (xs ys : List ℕ) → xs ≢ [] → head_or 0 (xs ++ ys) ≡ head_or 0 xs
head_append [] ys h = absurd (h refl)
head_append (x ∷ xs) ys h = refl

head_below : (n : ℕ) (xs : List ℕ) → xs ≢ [] → Below n xs → head_or 0 xs < n
head_below n [] h g = absurd (h refl)
head_below n (x ∷ xs) h g = g.0

or_false : (x y : Bool) → (x || y) ≡ false → (x ≡ false) × (y ≡ false)
or_false true y e = absurd (true≢false e)
or_false false y e = (refl, e)

not_has : (b : PlainKey) (xs : List PlainAlt) → has_alt b xs ≡ false → ¬ (Has b (map (λ a. a.body) xs))
not_has b [] d k = k
not_has b (x ∷ xs) d k =
    let two = or_false (is_eq (key_cmp x.body b)) (has_alt b xs) d in
    elim k [ inl e ↦ absurd (true≢false (sym (same_body b x.body (sym e)) ∙ two.0)) | inr m ↦ not_has b xs two.1 m ]

has_true : (b : PlainKey) (xs : List PlainAlt) → has_alt b xs ≡ true → Has b (map (λ a. a.body) xs)
has_true b [] d = absurd (true≢false (sym d))
has_true b (x ∷ xs) d =
    elim (is_eq (key_cmp x.body b)) as (λ t. is_eq (key_cmp x.body b) ≡ t → (t || has_alt b xs) ≡ true → Has b (map (λ a. a.body) (x ∷ xs))) [
      | true ↦ λ e f. inl ((key_cmp-is_eq x.body b).0 e)
      | false ↦ λ e f. inr (has_true b xs f)
    ] refl d

-- another item behind those that differ
differ_push : (b : PlainKey) (ys : List PlainKey) → AllDiffer ys → ¬ (Has b ys) → AllDiffer (ys ++ b ∷ [])
differ_push b [] h g = (tt, tt)
differ_push b (y ∷ ys) h g = (all_append (λ z. y ≢ z) ys (b ∷ []) h.0 ((λ e. g (inl e)), tt), differ_push b ys h.1 (λ m. g (inr m)))

nat_less : (m n : ℕ) → m < n → nat_cmp m n ≡ Less
nat_less m n h = grind (arith, nat_tests)

ascends_push : (n : ℕ) (xs : List ℕ) → Ascends nat_cmp xs → Below n xs → Ascends nat_cmp (xs ++ n ∷ [])
ascends_push n [] a h = (tt, tt)
ascends_push n (x ∷ xs) a h = (all_append (λ y. nat_cmp x y ≡ Less) xs (n ∷ []) a.0 (nat_less x n h.0, tt), ascends_push n xs a.1 h.1)

module _ (n : ℕ) (q : List (ℕ × ℕ)) (l : PlainLabel) (b : PlainKey) (ws : List (ℕ × PlainKeyed))
    (from : 1 ≤ n) (m : members q ≡ nums ws) (canonical : IsCanonical q) (under : Below n (nums ws)) where
  abbrev now : List (ℕ × PlainKeyed)
  now = ws ++ (n, leaf l b) ∷ []

  alt_stands : (a : PlainAlt) → AltStands a ws → AltStands (merged_alt n q b a) now
  alt_stands a h =
      let low : Below n (nums_with ws a.body) = all_those _ _ ws under in
      elim (is_eq (key_cmp a.body b)) as (λ t. is_eq (key_cmp a.body b) ≡ t → AltStands (cond {A = PlainAlt} t (record { stamp = grown n a.stamp; body = a.body }) (record { stamp = kept q a.stamp; body = a.body })) now) [
        | true ↦ λ e. (let list = with_same ws n l b a.body e in record {
          some = λ d. not_empty (nums_with ws a.body) n (sym list ∙ d);
          stamped = subst (λ z. Stamped (grown n a.stamp) z (nums now)) (sym list) (subst (λ z. Stamped (grown n a.stamp) (nums_with ws a.body ++ n ∷ []) z) (sym (nums-append ws n (leaf l b))) (grown_stamped n (nums_with ws a.body) (nums ws) from low a.stamp h.stamped));
        })
        | false ↦ λ e. (let list = with_other ws n l b a.body e in record {
          some = λ d. h.some (sym list ∙ d);
          stamped = subst (λ z. Stamped (kept q a.stamp) z (nums now)) (sym list) (subst (λ z. Stamped (kept q a.stamp) (nums_with ws a.body) z) (sym (nums-append ws n (leaf l b))) (kept_stamped n (nums_with ws a.body) (nums ws) from low q a.stamp m canonical h.stamped));
        })
      ] refl

  body_kept : (a : PlainAlt) → (merged_alt n q b a).body ≡ a.body
  body_kept a = elim (is_eq (key_cmp a.body b)) as (λ t. (cond {A = PlainAlt} t (record { stamp = grown n a.stamp; body = a.body }) (record { stamp = kept q a.stamp; body = a.body })).body ≡ a.body) [ true ↦ refl | false ↦ refl ]

  bodies_kept : (xs : List PlainAlt) → map (λ a. a.body) (map (merged_alt n q b) xs) ≡ map (λ a. a.body) xs
  bodies_kept [] = refl
  bodies_kept (x ∷ xs) = λ i. body_kept x i ∷ bodies_kept xs i

  with_head : (c : PlainKey) → nums_with ws c ≢ [] → head_or 0 (nums_with now c) ≡ head_or 0 (nums_with ws c)
  with_head c h =
      elim (is_eq (key_cmp c b)) as (λ t. is_eq (key_cmp c b) ≡ t → head_or 0 (nums_with now c) ≡ head_or 0 (nums_with ws c)) [
        | true ↦ λ e. ap (head_or 0) (with_same ws n l b c e) ∙ head_append (nums_with ws c) (n ∷ []) h
        | false ↦ λ e. ap (head_or 0) (with_other ws n l b c e)
      ] refl

  first_same : (a : PlainAlt) → AltStands a ws → first_num (nums now) (merged_alt n q b a) ≡ first_num (nums ws) a
  first_same a h =
      ap (head_or 0) ((alt_stands a h).stamped.effective)
      ∙ ap (λ z. head_or 0 (nums_with now z)) (body_kept a)
      ∙ with_head a.body h.some
      ∙ ap (head_or 0) (sym h.stamped.effective)

  firsts_same : (xs : List PlainAlt) → AllByRecursion (λ a. AltStands a ws) xs → map (first_num (nums now)) (map (merged_alt n q b) xs) ≡ map (first_num (nums ws)) xs
  firsts_same [] h = refl
  firsts_same (x ∷ xs) h = λ i. first_same x h.0 i ∷ firsts_same xs h.1 i

  each_stands : (xs : List PlainAlt) → AllByRecursion (λ a. AltStands a ws) xs → AllByRecursion (λ a. AltStands a now) (map (merged_alt n q b) xs)
  each_stands [] h = tt
  each_stands (x ∷ xs) h = (alt_stands x h.0, each_stands xs h.1)

  firsts_below : (xs : List PlainAlt) → AllByRecursion (λ a. AltStands a ws) xs → Below n (map (first_num (nums ws)) xs)
  firsts_below [] h = tt
  firsts_below (x ∷ xs) h =
      let low : Below n (nums_with ws x.body) = all_those _ _ ws under in
      (subst (λ z. head_or 0 z < n) (sym h.0.stamped.effective) (head_below n (nums_with ws x.body) h.0.some low), firsts_below xs h.1)

  abbrev new_alt : List PlainAlt
  new_alt = record { stamp = Some ((n, n) ∷ []); body = b } ∷ []

  -- no version had the body before
  no_alt : (xs : List PlainAlt) → has_alt b xs ≡ false → ((c : PlainKey) → nums_with ws c ≢ [] → Has c (map (λ a. a.body) xs)) → nums_with ws b ≡ []
  no_alt xs e covered = no_items (nums_with ws b) (λ h. not_has b xs e (covered b h))

  abbrev done : List PlainAlt → List PlainAlt
  done xs = map (merged_alt n q b) xs

  -- the new alternative stands for the new version alone
  new_stands : nums ws ≢ [] → nums_with ws b ≡ [] → AltStands (record { stamp = Some ((n, n) ∷ []); body = b }) now
  new_stands some e =
      let list : nums_with now b ≡ n ∷ [] = with_same ws n l b b ((key_cmp-is_eq b b).1 refl) ∙ ap (λ z. z ++ n ∷ []) e in
      record {
        some = λ d. (let x : n ∷ [] ≡ [] = sym list ∙ d in cc);
        stamped = subst (λ z. Stamped (Some ((n, n) ∷ [])) z (nums now)) (sym list) (subst (λ z. Stamped (Some ((n, n) ∷ [])) (n ∷ []) z) (sym (nums-append ws n (leaf l b))) (alone n (nums ws) from some));
      }

  pub alts_stand : (xs : List PlainAlt) → nums ws ≢ [] → AllByRecursion (λ a. AltStands a ws) xs → ((c : PlainKey) → nums_with ws c ≢ [] → Has c (map (λ a. a.body) xs)) → AllByRecursion (λ a. AltStands a now) (merged_alts n q b xs)
  alts_stand xs some h covered =
      elim (has_alt b xs) as (λ t. has_alt b xs ≡ t → AllByRecursion (λ a. AltStands a now) (done xs ++ cond t [] new_alt)) [
        | true ↦ λ e. all_append _ (done xs) [] (each_stands xs h) tt
        | false ↦ λ e. all_append _ (done xs) new_alt (each_stands xs h) (new_stands some (no_alt xs e covered), tt)
      ] refl

  pub firsts_ascend : (xs : List PlainAlt) → AllByRecursion (λ a. AltStands a ws) xs → Ascends nat_cmp (map (first_num (nums ws)) xs) → Ascends nat_cmp (map (first_num (nums now)) (merged_alts n q b xs))
  firsts_ascend xs h up =
      elim (has_alt b xs) as (λ t. Ascends nat_cmp (map (first_num (nums now)) (done xs ++ cond t [] new_alt))) [
        | true ↦ subst (λ z. Ascends nat_cmp z) (sym (ap (map (first_num (nums now))) (append-nil (done xs)) ∙ firsts_same xs h)) up
        | false ↦ subst (λ z. Ascends nat_cmp z) (sym (map-append (first_num (nums now)) (done xs) new_alt ∙ (λ i. firsts_same xs h i ++ head_or 0 (one n i) ∷ []))) (ascends_push n (map (first_num (nums ws)) xs) up (firsts_below xs h))
      ]

  bodies_all : (xs ts : List PlainAlt) → map (λ a. a.body) (done xs ++ ts) ≡ map (λ a. a.body) xs ++ map (λ a. a.body) ts
  bodies_all xs ts = map-append _ (done xs) ts ∙ ap (λ z. z ++ map (λ a. a.body) ts) (bodies_kept xs)

  old_body : (xs : List PlainAlt) (c : PlainKey) → Has c (map (λ a. a.body) xs) → Has c (map (λ a. a.body) (merged_alts n q b xs))
  old_body xs c k = subst (λ z. Has c z) (sym (bodies_all xs (cond (has_alt b xs) [] new_alt))) (has_left c (map (λ a. a.body) xs) _ k)

  new_body : (xs : List PlainAlt) → Has b (map (λ a. a.body) (merged_alts n q b xs))
  new_body xs =
      elim (has_alt b xs) as (λ t. has_alt b xs ≡ t → Has b (map (λ a. a.body) (done xs ++ cond t [] new_alt))) [
        | true ↦ λ e. subst (λ z. Has b z) (sym (bodies_all xs [])) (has_left b (map (λ a. a.body) xs) [] (has_true b xs e))
        | false ↦ λ e. subst (λ z. Has b z) (sym (bodies_all xs new_alt)) (has_right b (map (λ a. a.body) xs) (b ∷ []) (inl refl))
      ] refl

  pub bodies_covered : (xs : List PlainAlt) → ((c : PlainKey) → nums_with ws c ≢ [] → Has c (map (λ a. a.body) xs)) → (c : PlainKey) → nums_with now c ≢ [] → Has c (map (λ a. a.body) (merged_alts n q b xs))
  bodies_covered xs covered c h =
      elim (is_eq (key_cmp c b)) as (λ t. is_eq (key_cmp c b) ≡ t → Has c (map (λ a. a.body) (merged_alts n q b xs))) [
        | true ↦ λ e. subst (λ z. Has z (map (λ a. a.body) (merged_alts n q b xs))) (sym ((key_cmp-is_eq c b).0 e)) (new_body xs)
        | false ↦ λ e. old_body xs c (covered c (λ d. h (with_other ws n l b c e ∙ d)))
      ] refl

  pub bodies_differ : (xs : List PlainAlt) → AllDiffer (bodies xs) → AllDiffer (bodies (merged_alts n q b xs))
  bodies_differ xs h =
      elim (has_alt b xs) as (λ t. has_alt b xs ≡ t → AllDiffer (bodies (done xs ++ cond t [] new_alt))) [
        | true ↦ λ e. subst AllDiffer (sym (bodies_all xs [] ∙ append-nil (bodies xs))) h
        | false ↦ λ e. subst AllDiffer (sym (bodies_all xs new_alt)) (differ_push b (bodies xs) h (not_has b xs e))
      ] refl
