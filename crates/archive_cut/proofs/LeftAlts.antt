-- What is left of the alternatives of a leaf.
use Rattle.std.proofs.Common.{◌≡◌, ◌≢◌, ℕ, true, false, cond, List, [], ◌∷◌, map, refl, ap, sym, subst, ◌∙◌, arith, ltb, inl, inr}
use Rattle.std.proofs.lemmas.Bool.Decides.{nat_tests}
use Rattle.std.specs.List.{AllByRecursion}
use Rattle.std.specs.Ordering.{nat_cmp}
use Rattle.std.specs.declared.cmp.Ordering.TheVariants.{Less}
use Rattle.version_set.specs.Pairs.{IsCanonical}
use Rattle.version_set.specs.Members.{members}
use Rattle.keyed_tree.specs.Data.{PlainKey, PlainKeyed}
use Rattle.keyed_tree.specs.Lists.{Ascends, Has}
use Rattle.jsonml_tree.proofs.Lists.{all_has, has_map, source}
use Rattle.archive_tree.specs.Data.{PlainAlt, eff}
use Rattle.archive_tree.specs.Stands.{AllDiffer, Stamped, has_body, nums, nums_with, first_num, head_or, bodies, AltStands}
use Rattle.archive_tree.proofs.Those.{one_tree}
use Rattle.archive_tree.proofs.Necessary.{body_there, one_body}
use Rattle.record_format.specs.Nodes.{set_in}
use Rattle.archive_cut.specs.Sliced.{clipped, cut_set, is_gone, cut_alt, left_alts, put_alt, by_first, sliced_alts}
use Rattle.archive_cut.proofs.Clips.{members-cut, not_none, some_not_none, gone-clipped}
use Rattle.archive_cut.proofs.Stamps.{members-set_in, IsCanonical-set_in, cut_stamped}
use Rattle.archive_cut.proofs.Windows.{window, nums-window, nums_with-window, window_rises}

-- ---- the order of the first numbers

-- an alternative is put among others
pub has_put : (ns : List ℕ) (a x : PlainAlt) (xs : List PlainAlt) → Has x (a ∷ xs) → Has x (put_alt ns a xs)
has_put ns a x [] m = m
has_put ns a x (b ∷ bs) m =
    elim (ltb (first_num ns b) (first_num ns a)) as (λ t. Has x (cond t (b ∷ put_alt ns a bs) (a ∷ b ∷ bs))) [
      | true ↦ elim m [
        | inl e ↦ inr (has_put ns a x bs (inl e))
        | inr k ↦ elim k [ inl e ↦ inl e | inr n ↦ inr (has_put ns a x bs (inr n)) ]
      ]
      | false ↦ m
    ]

pub put_has : (ns : List ℕ) (a x : PlainAlt) (xs : List PlainAlt) → Has x (put_alt ns a xs) → Has x (a ∷ xs)
put_has ns a x [] m = m
put_has ns a x (b ∷ bs) m =
    elim (ltb (first_num ns b) (first_num ns a)) as (λ t. Has x (cond t (b ∷ put_alt ns a bs) (a ∷ b ∷ bs)) → Has x (a ∷ b ∷ bs)) [
      | true ↦ λ m. elim m [
        | inl e ↦ inr (inl e)
        | inr k ↦ elim (put_has ns a x bs k) [ inl e ↦ inl e | inr n ↦ inr (inr n) ]
      ]
      | false ↦ λ m. m
    ] m

pub has_by_first : (ns : List ℕ) (x : PlainAlt) (xs : List PlainAlt) → Has x xs → Has x (by_first ns xs)
has_by_first ns x [] m = m
has_by_first ns x (a ∷ xs) m = has_put ns a x (by_first ns xs) (elim m [ inl e ↦ inl e | inr k ↦ inr (has_by_first ns x xs k) ])

pub by_first_has : (ns : List ℕ) (x : PlainAlt) (xs : List PlainAlt) → Has x (by_first ns xs) → Has x xs
by_first_has ns x [] m = m
by_first_has ns x (a ∷ xs) m = elim (put_has ns a x (by_first ns xs) m) [ inl e ↦ inl e | inr k ↦ inr (by_first_has ns x xs k) ]

all_put : (P : PlainAlt → Type 0) (ns : List ℕ) (a : PlainAlt) (xs : List PlainAlt) → P a → AllByRecursion P xs → AllByRecursion P (put_alt ns a xs)
all_put P ns a [] h g = (h, g)
all_put P ns a (b ∷ bs) h g =
    let rest = all_put P ns a bs h g.1 in
    elim (ltb (first_num ns b) (first_num ns a)) as (λ t. AllByRecursion P (cond t (b ∷ put_alt ns a bs) (a ∷ b ∷ bs))) [ true ↦ (g.0, rest) | false ↦ (h, g) ]

pub all_by_first : (P : PlainAlt → Type 0) (ns : List ℕ) (xs : List PlainAlt) → AllByRecursion P xs → AllByRecursion P (by_first ns xs)
all_by_first P ns [] h = tt
all_by_first P ns (x ∷ xs) h = all_put P ns x (by_first ns xs) h.0 (all_by_first P ns xs h.1)

-- a fact of the images is one of the items
to_images : {K : Type 0} (f : PlainAlt → K) (P : K → Type 0) (xs : List PlainAlt) → AllByRecursion (λ a. P (f a)) xs → AllByRecursion P (map f xs)
to_images f P [] h = tt
to_images f P (x ∷ xs) h = (h.0, to_images f P xs h.1)

from_images : {K : Type 0} (f : PlainAlt → K) (P : K → Type 0) (xs : List PlainAlt) → AllByRecursion P (map f xs) → AllByRecursion (λ a. P (f a)) xs
from_images f P [] h = tt
from_images f P (x ∷ xs) h = (h.0, from_images f P xs h.1)

-- images that differ still do
put_differ : {K : Type 0} (f : PlainAlt → K) (ns : List ℕ) (a : PlainAlt) (xs : List PlainAlt) → AllDiffer (map f (a ∷ xs)) → AllDiffer (map f (put_alt ns a xs))
put_differ f ns a [] h = h
put_differ f ns a (b ∷ bs) h =
    let rest = put_differ f ns a bs (h.0.1, h.1.1) in
    let apart = to_images f (λ y. f b ≢ y) (put_alt ns a bs) (all_put (λ x. f b ≢ f x) ns a bs (λ e. h.0.0 (sym e)) (from_images f (λ y. f b ≢ y) bs h.1.0)) in
    elim (ltb (first_num ns b) (first_num ns a)) as (λ t. AllDiffer (map f (cond t (b ∷ put_alt ns a bs) (a ∷ b ∷ bs)))) [ true ↦ (apart, rest) | false ↦ h ]

pub by_first_differ : {K : Type 0} (f : PlainAlt → K) (ns : List ℕ) (xs : List PlainAlt) → AllDiffer (map f xs) → AllDiffer (map f (by_first ns xs))
by_first_differ f ns [] h = tt
by_first_differ f ns (x ∷ xs) h =
    let rest = by_first_differ f ns xs h.1 in
    put_differ f ns x (by_first ns xs) (to_images f (λ y. f x ≢ y) (by_first ns xs) (all_by_first (λ a. f x ≢ f a) ns xs (from_images f (λ y. f x ≢ y) xs h.0)), rest)

less : (m n : ℕ) → ltb m n ≡ true → nat_cmp m n ≡ Less
less m n e = grind (arith, nat_tests)

more : (m n : ℕ) → ltb m n ≡ false → n ≢ m → nat_cmp n m ≡ Less
more m n e d = grind (arith, nat_tests)

lower : (m n k : ℕ) → nat_cmp m n ≡ Less → nat_cmp n k ≡ Less → nat_cmp m k ≡ Less
lower m n k h g = grind (arith, nat_tests)

all_lower : (m n : ℕ) (ks : List ℕ) → nat_cmp m n ≡ Less → AllByRecursion (λ k. nat_cmp n k ≡ Less) ks → AllByRecursion (λ k. nat_cmp m k ≡ Less) ks
all_lower m n [] h g = tt
all_lower m n (k ∷ ks) h g = (lower m n k h g.0, all_lower m n ks h g.1)

put_ascends : (ns : List ℕ) (a : PlainAlt) (xs : List PlainAlt) → Ascends nat_cmp (map (first_num ns) xs) → AllByRecursion (λ b. first_num ns a ≢ first_num ns b) xs → Ascends nat_cmp (map (first_num ns) (put_alt ns a xs))
put_ascends ns a [] h g = (tt, tt)
put_ascends ns a (b ∷ bs) h g =
    elim (ltb (first_num ns b) (first_num ns a)) as (λ t. ltb (first_num ns b) (first_num ns a) ≡ t → Ascends nat_cmp (map (first_num ns) (cond t (b ∷ put_alt ns a bs) (a ∷ b ∷ bs)))) [
      | true ↦ λ e. (
        to_images (first_num ns) (λ y. nat_cmp (first_num ns b) y ≡ Less) (put_alt ns a bs)
            (all_put (λ x. nat_cmp (first_num ns b) (first_num ns x) ≡ Less) ns a bs (less (first_num ns b) (first_num ns a) e) (from_images (first_num ns) (λ y. nat_cmp (first_num ns b) y ≡ Less) bs h.0)),
        put_ascends ns a bs h.1 g.1,
      )
      | false ↦ λ e. (let low = more (first_num ns b) (first_num ns a) e g.0 in ((low, all_lower (first_num ns a) (first_num ns b) (map (first_num ns) bs) low h.0), h))
    ] refl

-- first numbers that differ come to ascend
pub by_first_ascends : (ns : List ℕ) (xs : List PlainAlt) → AllDiffer (map (first_num ns) xs) → Ascends nat_cmp (map (first_num ns) (by_first ns xs))
by_first_ascends ns [] h = tt
by_first_ascends ns (x ∷ xs) h =
    put_ascends ns x (by_first ns xs) (by_first_ascends ns xs h.1) (all_by_first (λ b. first_num ns x ≢ first_num ns b) ns xs (from_images (first_num ns) (λ y. first_num ns x ≢ y) xs h.0))

-- ---- alternatives of which a number is left

head_has : (ns : List ℕ) → ns ≢ [] → Has (head_or 0 ns) ns
head_has [] h = absurd (h refl)
head_has (n ∷ ns) h = inl refl

module _ (i j : ℕ) (q : List (ℕ × ℕ)) (ws : List (ℕ × PlainKeyed)) (same : members q ≡ nums ws) (canonical : IsCanonical q) where
  abbrev left : List PlainAlt → List PlainAlt
  left xs = left_alts i j q xs

  abbrev ns : List ℕ
  ns = members (cut_set i j q)

  abbrev vs : List (ℕ × PlainKeyed)
  vs = window i j ws

  pub left_numbers : members (cut_set i j q) ≡ nums (window i j ws)
  left_numbers = members-cut i j q canonical ∙ ap (clipped i j) same ∙ sym (nums-window i j ws)

  numbers_of : (a : PlainAlt) → AltStands a ws → members (set_in a.stamp q) ≡ nums_with ws a.body
  numbers_of a h = members-set_in a.stamp q ∙ ap (eff a.stamp) same ∙ h.stamped.effective

  alt_stands : (a : PlainAlt) → AltStands a ws → is_gone i j (set_in a.stamp q) ≡ false → AltStands (cut_alt i j q a) vs
  alt_stands a h e =
      let list = nums_with-window i j ws a.body in
      let own = IsCanonical-set_in a.stamp q (nums_with ws a.body) (nums ws) h.stamped canonical in
      let some = not_none (clipped i j (members (set_in a.stamp q))) (sym (gone-clipped i j (set_in a.stamp q) own) ∙ e) in
      record {
        some = λ d. some (ap (clipped i j) (numbers_of a h) ∙ sym list ∙ d);
        stamped = subst (λ z. Stamped (cut_alt i j q a).stamp (nums_with vs a.body) z) left_numbers (subst (λ z. Stamped (cut_alt i j q a).stamp z ns) (sym list) (cut_stamped i j a.stamp q (nums_with ws a.body) canonical (subst (λ z. Stamped a.stamp (nums_with ws a.body) z) (sym same) h.stamped)));
      }

  left_stand : (xs : List PlainAlt) → AllByRecursion (λ a. AltStands a ws) xs → AllByRecursion (λ a. AltStands a vs) (left xs)
  left_stand [] h = tt
  left_stand (x ∷ xs) h =
      let rest = left_stand xs h.1 in
      elim (is_gone i j (set_in x.stamp q)) as (λ b. is_gone i j (set_in x.stamp q) ≡ b → AllByRecursion (λ a. AltStands a vs) (cond b (left xs) (cut_alt i j q x ∷ left xs))) [
        | true ↦ λ e. rest
        | false ↦ λ e. (alt_stands x h.0 e, rest)
      ] refl

  all_left : (P : PlainKey → Type 0) (xs : List PlainAlt) → AllByRecursion P (bodies xs) → AllByRecursion P (bodies (left xs))
  all_left P [] h = tt
  all_left P (x ∷ xs) h =
      let rest = all_left P xs h.1 in
      elim (is_gone i j (set_in x.stamp q)) as (λ b. AllByRecursion P (bodies (cond b (left xs) (cut_alt i j q x ∷ left xs)))) [ true ↦ rest | false ↦ (h.0, rest) ]

  left_differ : (xs : List PlainAlt) → AllDiffer (bodies xs) → AllDiffer (bodies (left xs))
  left_differ [] h = tt
  left_differ (x ∷ xs) h =
      let rest = left_differ xs h.1 in
      let apart = all_left (λ y. x.body ≢ y) xs h.0 in
      elim (is_gone i j (set_in x.stamp q)) as (λ b. AllDiffer (bodies (cond b (left xs) (cut_alt i j q x ∷ left xs)))) [ true ↦ rest | false ↦ (apart, rest) ]

  has_left : (a : PlainAlt) (xs : List PlainAlt) → Has a xs → is_gone i j (set_in a.stamp q) ≡ false → Has (cut_alt i j q a) (left xs)
  has_left a [] m e = m
  has_left a (x ∷ xs) m e = elim m [
    | inl d ↦ (let e' = subst (λ (z : PlainAlt). is_gone i j (set_in z.stamp q) ≡ false) (sym d) e in rw e' (inl (ap (cut_alt i j q) d)))
    | inr k ↦ (let rest = has_left a xs k e in elim (is_gone i j (set_in x.stamp q)) as (λ b. Has (cut_alt i j q a) (cond b (left xs) (cut_alt i j q x ∷ left xs))) [ true ↦ rest | false ↦ inr rest ])
  ]

  module _ (rising : Ascends nat_cmp (nums ws)) where
    -- two bodies that differ begin with different numbers
    firsts_apart : (x y : PlainAlt) → x.body ≢ y.body → AltStands x vs → AltStands y vs → first_num (nums vs) x ≢ first_num (nums vs) y
    firsts_apart x y differ h g e =
        let n = first_num (nums vs) x in
        let mine = body_there x.body n vs (subst (λ z. Has (head_or 0 z) (nums_with vs x.body)) (sym h.stamped.effective) (head_has (nums_with vs x.body) h.some)) in
        let theirs = body_there y.body n vs (subst (λ z. Has z (nums_with vs y.body)) (sym e) (subst (λ z. Has (head_or 0 z) (nums_with vs y.body)) (sym g.stamped.effective) (head_has (nums_with vs y.body) g.some))) in
        let tree : mine.tree ≡ theirs.tree = one_tree n mine.tree theirs.tree vs (window_rises i j ws rising) mine.has theirs.has in
        differ (one_body x.body y.body theirs.tree (subst (λ z. has_body x.body z ≡ true) tree mine.is) theirs.is)

    first_differs : (x : PlainAlt) (ys : List PlainAlt) → AltStands x vs → AllByRecursion (λ b. x.body ≢ b) (bodies ys) → AllByRecursion (λ a. AltStands a vs) ys → AllByRecursion (λ m. first_num (nums vs) x ≢ m) (map (first_num (nums vs)) ys)
    first_differs x [] h d g = tt
    first_differs x (y ∷ ys) h d g = (firsts_apart x y d.0 h g.0, first_differs x ys h d.1 g.1)

    firsts_differ : (ys : List PlainAlt) → AllDiffer (bodies ys) → AllByRecursion (λ a. AltStands a vs) ys → AllDiffer (map (first_num (nums vs)) ys)
    firsts_differ [] d h = tt
    firsts_differ (y ∷ ys) d h = (first_differs y ys h.0 d.0 h.1, firsts_differ ys d.1 h.1)

    -- the first numbers of what is left differ
    pub left_firsts : (xs : List PlainAlt) → AllDiffer (bodies xs) → AllByRecursion (λ a. AltStands a ws) xs → AllDiffer (map (first_num (members (cut_set i j q))) (left_alts i j q xs))
    left_firsts xs d h = subst (λ z. AllDiffer (map (first_num z) (left xs))) (sym left_numbers) (firsts_differ (left xs) (left_differ xs d) (left_stand xs h))

    pub sliced_in_order : (xs : List PlainAlt) → AllDiffer (bodies xs) → AllByRecursion (λ a. AltStands a ws) xs → Ascends nat_cmp (map (first_num (nums (window i j ws))) (sliced_alts i j q xs))
    sliced_in_order xs d h = subst (λ z. Ascends nat_cmp (map (first_num z) (sliced_alts i j q xs))) left_numbers (by_first_ascends ns (left xs) (left_firsts xs d h))

  pub sliced_stand : (xs : List PlainAlt) → AllByRecursion (λ a. AltStands a ws) xs → AllByRecursion (λ a. AltStands a (window i j ws)) (sliced_alts i j q xs)
  sliced_stand xs h = all_by_first (λ a. AltStands a vs) ns (left xs) (left_stand xs h)

  pub sliced_differ : (xs : List PlainAlt) → AllDiffer (bodies xs) → AllDiffer (bodies (sliced_alts i j q xs))
  sliced_differ xs h = by_first_differ (λ a. a.body) ns (left xs) (left_differ xs h)

  pub sliced_covered : (xs : List PlainAlt) → AllByRecursion (λ a. AltStands a ws) xs → ((b : PlainKey) → nums_with ws b ≢ [] → Has b (bodies xs)) → (b : PlainKey) → nums_with (window i j ws) b ≢ [] → Has b (bodies (sliced_alts i j q xs))
  sliced_covered xs h covered b some =
      let list = nums_with-window i j ws b in
      let before : nums_with ws b ≢ [] = λ e. some (list ∙ ap (clipped i j) e) in
      let from = source (λ (a : PlainAlt). a.body) b xs (covered b before) in
      let stands = all_has (λ a. AltStands a ws) xs from.item h from.has in
      let numbers : members (set_in from.item.stamp q) ≡ nums_with ws b = numbers_of from.item stands ∙ ap (nums_with ws) from.is in
      let own = IsCanonical-set_in from.item.stamp q (nums_with ws from.item.body) (nums ws) stands.stamped canonical in
      let stays = gone-clipped i j (set_in from.item.stamp q) own ∙ some_not_none (clipped i j (members (set_in from.item.stamp q))) (λ e. some (list ∙ ap (clipped i j) (sym numbers) ∙ e)) in
      let there = has_by_first ns (cut_alt i j q from.item) (left xs) (has_left from.item xs from.has stays) in
      subst (λ z. Has z (bodies (sliced_alts i j q xs))) from.is (has_map (λ (a : PlainAlt). a.body) (cut_alt i j q from.item) (sliced_alts i j q xs) there)
