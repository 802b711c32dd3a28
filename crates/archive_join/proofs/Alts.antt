-- The alternatives of a leaf that two archives have.
use Rattle.std.proofs.Common.{◌≡◌, ◌≢◌, ℕ, ◌<◌, ◌≤◌, Bool, true, false, not, cond, ◌||◌, List, [], ◌∷◌, ◌++◌, map, Option, Some, None, refl, ap, sym, subst, ◌∙◌, ◌⊎◌, arith, inl, inr, true≢false}
use Rattle.std.proofs.lemmas.List.{append-nil, map-append}
use Rattle.std.specs.List.{AllByRecursion}
use Rattle.std.specs.Ordering.{is_eq, nat_cmp}
use Rattle.std.specs.declared.cmp.Ordering.TheVariants.{Less}
use Rattle.version_set.specs.Pairs.{IsCanonical}
use Rattle.version_set.specs.Members.{members}
use Rattle.keyed_tree.specs.Data.{PlainKey, PlainKeyed}
use Rattle.keyed_tree.specs.Laws.{key_cmp-is_eq}
use Rattle.keyed_tree.specs.Lists.{Ascends, Has}
use Rattle.keyed_tree.specs.Order.{key_cmp}
use Rattle.jsonml_tree.proofs.Lists.{all_has}
use Rattle.archive_tree.specs.Data.{Stamp, PlainAlt}
use Rattle.archive_tree.specs.Stands.{AllDiffer, Stamped, nums, those, nums_with, has_body, passed, first_num, head_or, bodies, AltStands}
use Rattle.archive_tree.proofs.Those.{onto, all_those}
use Rattle.nested_merge.proofs.Picked.{all_append, no_items}
use Rattle.nested_merge.proofs.Weave.{has_left, has_right}
use Rattle.nested_merge.proofs.Stamps.{Below}
use Rattle.archive_join.specs.Joined.{alone, paired, alt_of, stamp_with, joined_alt, alone_alt, others, joined_alts}
use Rattle.archive_join.proofs.BothSets.{Above, nat_less, paired_stamped, left_stamped, right_stamped}
use Rattle.nested_merge.specs.Merged.{has_alt}

-- ---- two lists of numbered trees

pub those_both : (f : PlainKeyed → Option PlainKeyed) (ws zs : List (ℕ × PlainKeyed)) → those f (ws ++ zs) ≡ those f ws ++ those f zs
those_both f [] zs = refl
those_both f (w ∷ ws) zs =
    let rest = those_both f ws zs in
    elim (f w.1) as (λ o. onto w.0 o (those f (ws ++ zs)) ≡ onto w.0 o (those f ws) ++ those f zs) [
      | None ↦ rest
      | Some j ↦ ap (λ z. (w.0, j) ∷ z) rest
    ]

pub nums_both : (ws zs : List (ℕ × PlainKeyed)) → nums (ws ++ zs) ≡ nums ws ++ nums zs
nums_both ws zs = map-append _ ws zs

with_both : (ws zs : List (ℕ × PlainKeyed)) (b : PlainKey) → nums_with (ws ++ zs) b ≡ nums_with ws b ++ nums_with zs b
with_both ws zs b = ap nums (those_both (passed (has_body b)) ws zs) ∙ nums_both (those (passed (has_body b)) ws) (those (passed (has_body b)) zs)

-- ---- the alternative with a body

some_is : (a b : PlainAlt) → Some a ≡ Some b → a ≡ b
some_is a b e = cc

none_is : (b : PlainAlt) → ¬ (None ≡ Some b)
none_is b e = cc

alt_found : (b : PlainKey) (y : PlainAlt) (ys : List PlainAlt) → alt_of b ys ≡ Some y → Has y ys × (y.body ≡ b)
alt_found b y [] e = absurd (none_is y e)
alt_found b y (x ∷ xs) e =
    elim (is_eq (key_cmp x.body b)) as (λ t. is_eq (key_cmp x.body b) ≡ t → cond t (Some x) (alt_of b xs) ≡ Some y → Has y (x ∷ xs) × (y.body ≡ b)) [
      | true ↦ λ d f. (inl (some_is x y f), ap (λ (z : PlainAlt). z.body) (sym (some_is x y f)) ∙ (key_cmp-is_eq x.body b).0 d)
      | false ↦ λ d f. (let rest = alt_found b y xs f in (inr rest.0, rest.1))
    ] refl e

alt_missing : (b : PlainKey) (ys : List PlainAlt) → alt_of b ys ≡ None → ¬ (Has b (bodies ys))
alt_missing b [] e m = m
alt_missing b (x ∷ xs) e m =
    elim (is_eq (key_cmp x.body b)) as (λ t. is_eq (key_cmp x.body b) ≡ t → cond t (Some x) (alt_of b xs) ≡ None → ⊥) [
      | true ↦ λ d f. none_is x (sym f)
      | false ↦ λ d f. elim m [ inl g ↦ (let t = (key_cmp-is_eq x.body b).1 g in absurd (true≢false (sym t ∙ d))) | inr n ↦ alt_missing b xs f n ]
    ] refl e

or_false : (x y : Bool) → (x || y) ≡ false → (x ≡ false) × (y ≡ false)
or_false true y e = absurd (true≢false e)
or_false false y e = (refl, e)

pub not_has : (b : PlainKey) (xs : List PlainAlt) → has_alt b xs ≡ false → ¬ (Has b (bodies xs))
not_has b [] d k = k
not_has b (x ∷ xs) d k =
    let two = or_false (is_eq (key_cmp x.body b)) (has_alt b xs) d in
    elim k [ inl e ↦ absurd (true≢false (sym ((key_cmp-is_eq x.body b).1 e) ∙ two.0)) | inr m ↦ not_has b xs two.1 m ]

pub has_true : (b : PlainKey) (xs : List PlainAlt) → has_alt b xs ≡ true → Has b (bodies xs)
has_true b [] d = absurd (true≢false (sym d))
has_true b (x ∷ xs) d =
    elim (is_eq (key_cmp x.body b)) as (λ t. is_eq (key_cmp x.body b) ≡ t → (t || has_alt b xs) ≡ true → Has b (bodies (x ∷ xs))) [
      | true ↦ λ e f. inl ((key_cmp-is_eq x.body b).0 e)
      | false ↦ λ e f. inr (has_true b xs f)
    ] refl d

-- ---- those whose bodies others have not

-- what holds of each, and of each that others have not
others_all : (P Q : PlainAlt → Type 0) (xs ys : List PlainAlt) → ((y : PlainAlt) → has_alt y.body xs ≡ false → P y → Q y) → AllByRecursion P ys → AllByRecursion Q (others xs ys)
others_all P Q xs [] f h = tt
others_all P Q xs (y ∷ ys) f h =
    let rest = others_all P Q xs ys f h.1 in
    elim (has_alt y.body xs) as (λ b. has_alt y.body xs ≡ b → AllByRecursion Q (cond (not b) (y ∷ others xs ys) (others xs ys))) [
      | true ↦ λ e. rest
      | false ↦ λ e. (f y e h.0, rest)
    ] refl

others_bodies : (P : PlainKey → Type 0) (xs ys : List PlainAlt) → AllByRecursion P (bodies ys) → AllByRecursion P (bodies (others xs ys))
others_bodies P xs [] h = tt
others_bodies P xs (y ∷ ys) h =
    let rest = others_bodies P xs ys h.1 in
    elim (has_alt y.body xs) as (λ b. AllByRecursion P (bodies (cond (not b) (y ∷ others xs ys) (others xs ys)))) [ true ↦ rest | false ↦ (h.0, rest) ]

others_differ : (xs ys : List PlainAlt) → AllDiffer (bodies ys) → AllDiffer (bodies (others xs ys))
others_differ xs [] h = tt
others_differ xs (y ∷ ys) h =
    let rest = others_differ xs ys h.1 in
    let apart = others_bodies (λ z. y.body ≢ z) xs ys h.0 in
    elim (has_alt y.body xs) as (λ b. AllDiffer (bodies (cond (not b) (y ∷ others xs ys) (others xs ys)))) [ true ↦ rest | false ↦ (apart, rest) ]

others_have : (b : PlainKey) (xs ys : List PlainAlt) → has_alt b xs ≡ false → Has b (bodies ys) → Has b (bodies (others xs ys))
others_have b xs [] e m = m
others_have b xs (y ∷ ys) e m =
    elim (has_alt y.body xs) as (λ t. has_alt y.body xs ≡ t → Has b (bodies (cond (not t) (y ∷ others xs ys) (others xs ys)))) [
      | true ↦ λ d. elim m [
        | inl g ↦ absurd (true≢false (sym (subst (λ z. has_alt z xs ≡ true) g d) ∙ e))
        | inr n ↦ others_have b xs ys e n
      ]
      | false ↦ λ d. elim m [ inl g ↦ inl g | inr n ↦ inr (others_have b xs ys e n) ]
    ] refl

-- ---- lists one after another

all_map : {X Y : Type 0} (f : X → Y) (P : X → Type 0) (Q : Y → Type 0) (xs : List X) → ((x : X) → P x → Q (f x)) → AllByRecursion P xs → AllByRecursion Q (map f xs)
all_map f P Q [] g h = tt
all_map f P Q (x ∷ xs) g h = (g x h.0, all_map f P Q xs g h.1)

differ_both : (cs bs : List PlainKey) → AllDiffer cs → AllDiffer bs → ((a : PlainKey) → Has a cs → AllByRecursion (λ b. a ≢ b) bs) → AllDiffer (cs ++ bs)
differ_both [] bs h g f = g
differ_both (a ∷ cs) bs h g f = (all_append (λ z. a ≢ z) cs bs h.0 (f a (inl refl)), differ_both cs bs h.1 g (λ x m. f x (inr m)))

all_less : (m x : ℕ) (ys : List ℕ) → x < m → Above m ys → AllByRecursion (λ y. nat_cmp x y ≡ Less) ys
all_less m x [] h g = tt
all_less m x (y ∷ ys) h g = (let first = g.0 in nat_less x y (omega arith), all_less m x ys h g.1)

ascends_both : (m : ℕ) (xs ys : List ℕ) → Ascends nat_cmp xs → Below m xs → Ascends nat_cmp ys → Above m ys → Ascends nat_cmp (xs ++ ys)
ascends_both m [] ys a b c d = c
ascends_both m (x ∷ xs) ys a b c d = (all_append (λ y. nat_cmp x y ≡ Less) xs ys a.0 (all_less m x ys b.0 d), ascends_both m xs ys a.1 b.1 c d)

head_append : (xs ys : List ℕ) → xs ≢ [] → head_or 0 (xs ++ ys) ≡ head_or 0 xs
head_append [] ys h = absurd (h refl)
head_append (x ∷ xs) ys h = refl

head_has : (P : ℕ → Type 0) (xs : List ℕ) → xs ≢ [] → AllByRecursion P xs → P (head_or 0 xs)
head_has P [] h g = absurd (h refl)
head_has P (x ∷ xs) h g = g.0

not_empty_left : (xs ys : List ℕ) → xs ≢ [] → xs ++ ys ≢ []
not_empty_left [] ys h e = h refl
not_empty_left (x ∷ xs) ys h e = cc

split : (xs ys : List ℕ) → xs ++ ys ≢ [] → (xs ≢ []) ⊎ (ys ≢ [])
split [] ys g = inr g
split (x ∷ xs) ys g = inl (λ d. cc)

-- ---- a leaf of which the first archive has the versions ws with the alternatives xs, and the second zs with ys

abbrev pub Covers : List PlainAlt → List (ℕ × PlainKeyed) → Type 0
Covers xs ws = (b : PlainKey) → nums_with ws b ≢ [] → Has b (bodies xs)

module _ (m : ℕ) (from : 1 ≤ m) (p q : List (ℕ × ℕ)) (c : IsCanonical p) (d : IsCanonical q) (ws zs : List (ℕ × PlainKeyed))
    (first : members p ≡ nums ws) (second : members q ≡ nums zs) (low : Below m (nums ws)) (high : Above m (nums zs)) where
  lower : Below m (members p)
  lower = subst (Below m) (sym first) low

  higher : Above m (members q)
  higher = subst (Above m) (sym second) high

  all : members p ++ members q ≡ nums (ws ++ zs)
  all = (λ i. first i ++ second i) ∙ sym (nums_both ws zs)

  low_with : (b : PlainKey) → Below m (nums_with ws b)
  low_with b = all_those (λ n. n < m) (passed (has_body b)) ws low

  high_with : (b : PlainKey) → Above m (nums_with zs b)
  high_with b = all_those (λ n. m ≤ n) (passed (has_body b)) zs high

  at_left : (s : Stamp) (b : PlainKey) → Stamped s (nums_with ws b) (nums ws) → Stamped s (nums_with ws b) (members p)
  at_left s b h = subst (λ z. Stamped s (nums_with ws b) z) (sym first) h

  at_right : (s : Stamp) (b : PlainKey) → Stamped s (nums_with zs b) (nums zs) → Stamped s (nums_with zs b) (members q)
  at_right s b h = subst (λ z. Stamped s (nums_with zs b) z) (sym second) h

  with_stamp : (s : Stamp) (b : PlainKey) (ns : List ℕ) → ns ≡ nums_with (ws ++ zs) b → Stamped s ns (members p ++ members q) → Stamped s (nums_with (ws ++ zs) b) (nums (ws ++ zs))
  with_stamp s b ns e h = subst (λ z. Stamped s (nums_with (ws ++ zs) b) z) all (subst (λ z. Stamped s z (members p ++ members q)) e h)

  module _ (xs ys : List PlainAlt) (ours : AllByRecursion (λ a. AltStands a ws) xs) (theirs : AllByRecursion (λ a. AltStands a zs) ys) (our_bodies : Covers xs ws) (their_bodies : Covers ys zs) where
    paired_stands : (x : PlainAlt) → AltStands x ws → AltStands (joined_alt p q ys x) (ws ++ zs)
    paired_stands x h = record {
      some = λ e. not_empty_left (nums_with ws x.body) (nums_with zs x.body) h.some (sym (with_both ws zs x.body) ∙ e);
      stamped = elim (alt_of x.body ys) as (λ o. alt_of x.body ys ≡ o → Stamped (stamp_with p q x.stamp o) (nums_with (ws ++ zs) x.body) (nums (ws ++ zs))) [
        | None ↦ λ e. with_stamp (alone p q x.stamp) x.body (nums_with ws x.body)
            (sym (with_both ws zs x.body ∙ ap (λ z. nums_with ws x.body ++ z) (no_items (nums_with zs x.body) (λ f. alt_missing x.body ys e (their_bodies x.body f))) ∙ append-nil (nums_with ws x.body)))
            (left_stamped m p q c d lower higher x.stamp (nums_with ws x.body) (low_with x.body) (at_left x.stamp x.body h.stamped))
        | Some y ↦ λ e. (let found = alt_found x.body y ys e in
            let also : Stamped y.stamp (nums_with zs x.body) (nums zs) = subst (λ z. Stamped y.stamp (nums_with zs z) (nums zs)) found.1 (all_has (λ a. AltStands a zs) ys y theirs found.0).stamped in
            with_stamp (paired p q x.stamp y.stamp) x.body (nums_with ws x.body ++ nums_with zs x.body) (sym (with_both ws zs x.body))
            (paired_stamped m from p q c d lower higher x.stamp y.stamp (nums_with ws x.body) (nums_with zs x.body) (low_with x.body) (high_with x.body) (at_left x.stamp x.body h.stamped) (at_right y.stamp x.body also)))
      ] refl;
    }

    -- where the first has not the body
    none_left : (b : PlainKey) → has_alt b xs ≡ false → nums_with (ws ++ zs) b ≡ nums_with zs b
    none_left b e = with_both ws zs b ∙ ap (λ z. z ++ nums_with zs b) (no_items (nums_with ws b) (λ f. not_has b xs e (our_bodies b f)))

    alone_stands : (y : PlainAlt) → has_alt y.body xs ≡ false → AltStands y zs → AltStands (alone_alt q p y) (ws ++ zs)
    alone_stands y e h = record {
      some = λ f. h.some (sym (none_left y.body e) ∙ f);
      stamped = with_stamp (alone q p y.stamp) y.body (nums_with zs y.body) (sym (none_left y.body e))
          (right_stamped m p q c d lower higher y.stamp (nums_with zs y.body) (high_with y.body) (at_right y.stamp y.body h.stamped));
    }

    abbrev ours_now : List PlainAlt
    ours_now = map (joined_alt p q ys) xs

    abbrev theirs_now : List PlainAlt
    theirs_now = map (alone_alt q p) (others xs ys)

    pub alts_join : AllByRecursion (λ a. AltStands a (ws ++ zs)) (joined_alts p q xs ys)
    alts_join = all_append _ ours_now theirs_now
        (all_map (joined_alt p q ys) (λ a. AltStands a ws) (λ a. AltStands a (ws ++ zs)) xs paired_stands ours)
        (all_map (alone_alt q p) (λ a. AltStands (alone_alt q p a) (ws ++ zs)) (λ a. AltStands a (ws ++ zs)) (others xs ys) (λ y h. h)
        (others_all (λ a. AltStands a zs) (λ a. AltStands (alone_alt q p a) (ws ++ zs)) xs ys alone_stands theirs))

    bodies_left : (cs : List PlainAlt) → bodies (map (joined_alt p q ys) cs) ≡ bodies cs
    bodies_left [] = refl
    bodies_left (a ∷ cs) = ap (λ z. a.body ∷ z) (bodies_left cs)

    bodies_right : (cs : List PlainAlt) → bodies (map (alone_alt q p) cs) ≡ bodies cs
    bodies_right [] = refl
    bodies_right (a ∷ cs) = ap (λ z. a.body ∷ z) (bodies_right cs)

    bodies_both : bodies (joined_alts p q xs ys) ≡ bodies xs ++ bodies (others xs ys)
    bodies_both = map-append _ ours_now theirs_now ∙ (λ i. bodies_left xs i ++ bodies_right (others xs ys) i)

    pub bodies_differ : AllDiffer (bodies xs) → AllDiffer (bodies ys) → AllDiffer (bodies (joined_alts p q xs ys))
    bodies_differ h g = subst AllDiffer (sym bodies_both) (differ_both (bodies xs) (bodies (others xs ys)) h (others_differ xs ys g) apart)
      where
        apart : (b : PlainKey) → Has b (bodies xs) → AllByRecursion (λ z. b ≢ z) (bodies (others xs ys))
        apart b k = all_map (λ (a : PlainAlt). a.body) (λ a. b ≢ a.body) (λ z. b ≢ z) (others xs ys) (λ y h. h)
            (others_all (λ a. AltStands a zs) (λ a. b ≢ a.body) xs ys (λ y e h f. not_has y.body xs e (subst (λ z. Has z (bodies xs)) f k)) theirs)

    pub bodies_covered : Covers (joined_alts p q xs ys) (ws ++ zs)
    bodies_covered b h = subst (λ z. Has b z) (sym bodies_both) (elim (has_alt b xs) as (λ t. has_alt b xs ≡ t → Has b (bodies xs ++ bodies (others xs ys))) [
      | true ↦ λ e. has_left b (bodies xs) _ (has_true b xs e)
      | false ↦ λ e. has_right b (bodies xs) _ (others_have b xs ys e (their_bodies b (λ f. h (none_left b e ∙ f))))
    ] refl)

    -- the first number of each
    first_left : (x : PlainAlt) → AltStands x ws → first_num (nums (ws ++ zs)) (joined_alt p q ys x) ≡ first_num (nums ws) x
    first_left x h = ap (head_or 0) (paired_stands x h).stamped.effective ∙ ap (head_or 0) (with_both ws zs x.body) ∙ head_append (nums_with ws x.body) (nums_with zs x.body) h.some ∙ ap (head_or 0) (sym h.stamped.effective)

    firsts_left : (cs : List PlainAlt) → AllByRecursion (λ a. AltStands a ws) cs → map (first_num (nums (ws ++ zs))) (map (joined_alt p q ys) cs) ≡ map (first_num (nums ws)) cs
    firsts_left [] h = refl
    firsts_left (a ∷ cs) h = λ i. first_left a h.0 i ∷ firsts_left cs h.1 i

    firsts_below : (cs : List PlainAlt) → AllByRecursion (λ a. AltStands a ws) cs → Below m (map (first_num (nums ws)) cs)
    firsts_below [] h = tt
    firsts_below (a ∷ cs) h = (subst (λ z. head_or 0 z < m) (sym h.0.stamped.effective) (head_has (λ n. n < m) (nums_with ws a.body) h.0.some (low_with a.body)), firsts_below cs h.1)

    firsts_above : (cs : List PlainAlt) → AllByRecursion (λ a. AltStands a zs) cs → Above m (map (first_num (nums zs)) cs)
    firsts_above [] h = tt
    firsts_above (a ∷ cs) h = (subst (λ z. m ≤ head_or 0 z) (sym h.0.stamped.effective) (head_has (λ n. m ≤ n) (nums_with zs a.body) h.0.some (high_with a.body)), firsts_above cs h.1)

    others_firsts : (P : ℕ → Type 0) (cs : List PlainAlt) → AllByRecursion P (map (first_num (nums zs)) cs) → AllByRecursion P (map (first_num (nums zs)) (others xs cs))
    others_firsts P [] h = tt
    others_firsts P (a ∷ cs) h =
        let rest = others_firsts P cs h.1 in
        elim (has_alt a.body xs) as (λ b. AllByRecursion P (map (first_num (nums zs)) (cond (not b) (a ∷ others xs cs) (others xs cs)))) [ true ↦ rest | false ↦ (h.0, rest) ]

    others_ascend : (cs : List PlainAlt) → Ascends nat_cmp (map (first_num (nums zs)) cs) → Ascends nat_cmp (map (first_num (nums zs)) (others xs cs))
    others_ascend [] h = tt
    others_ascend (a ∷ cs) h =
        let rest = others_ascend cs h.1 in
        let apart = others_firsts (λ y. nat_cmp (first_num (nums zs) a) y ≡ Less) cs h.0 in
        elim (has_alt a.body xs) as (λ b. Ascends nat_cmp (map (first_num (nums zs)) (cond (not b) (a ∷ others xs cs) (others xs cs)))) [ true ↦ rest | false ↦ (apart, rest) ]

    first_right : (y : PlainAlt) → has_alt y.body xs ≡ false → AltStands y zs → first_num (nums (ws ++ zs)) (alone_alt q p y) ≡ first_num (nums zs) y
    first_right y e h = ap (head_or 0) (alone_stands y e h).stamped.effective ∙ ap (head_or 0) (none_left y.body e) ∙ ap (head_or 0) (sym h.stamped.effective)

    firsts_right : (cs : List PlainAlt) → AllByRecursion (λ a. first_num (nums (ws ++ zs)) (alone_alt q p a) ≡ first_num (nums zs) a) cs → map (first_num (nums (ws ++ zs))) (map (alone_alt q p) cs) ≡ map (first_num (nums zs)) cs
    firsts_right [] h = refl
    firsts_right (a ∷ cs) h = λ i. h.0 i ∷ firsts_right cs h.1 i

    pub firsts_ascend : Ascends nat_cmp (map (first_num (nums ws)) xs) → Ascends nat_cmp (map (first_num (nums zs)) ys) → Ascends nat_cmp (map (first_num (nums (ws ++ zs))) (joined_alts p q xs ys))
    firsts_ascend a b =
        let right = firsts_right (others xs ys) (others_all (λ a. AltStands a zs) (λ a. first_num (nums (ws ++ zs)) (alone_alt q p a) ≡ first_num (nums zs) a) xs ys first_right theirs) in
        subst (λ z. Ascends nat_cmp z) (sym (map-append (first_num (nums (ws ++ zs))) ours_now theirs_now ∙ (λ i. firsts_left xs ours i ++ right i)))
        (ascends_both m (map (first_num (nums ws)) xs) (map (first_num (nums zs)) (others xs ys)) a (firsts_below xs ours) (others_ascend ys b) (others_firsts (λ n. m ≤ n) ys (firsts_above ys theirs)))
