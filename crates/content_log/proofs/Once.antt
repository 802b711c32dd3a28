-- The bodies of some leaves, each once, and their numbers.
use Rattle.std.proofs.Common.{◌≡◌, ◌≢◌, ℕ, Bool, true, false, not, cond, List, [], ◌∷◌, map, filter, refl, ap, sym, subst, ◌∙◌, inl, inr, true≢false}
use Rattle.std.specs.List.{AllByRecursion}
use Rattle.std.specs.Ordering.{is_eq, nat_cmp}
use Rattle.std.specs.declared.cmp.Ordering.TheVariants.{Less}
use Rattle.std.proofs.lemmas.Cmp.{nat_cmp_total}
use Rattle.keyed_tree.specs.Data.{PlainKey, PlainLabel, PlainKeyed, inner, leaf}
use Rattle.keyed_tree.specs.Laws.{key_cmp-is_eq}
use Rattle.keyed_tree.specs.Lists.{Ascends, Has}
use Rattle.keyed_tree.specs.Order.{key_cmp}
use Rattle.jsonml_tree.proofs.Lists.{all_has, has_map, source, same_items}
use Rattle.archive_tree.specs.Data.{Stamp, eff, PlainAlt}
use Rattle.archive_tree.specs.Stands.{nums, passed, has_body, nums_with, head_or, first_num, bodies, AltStands, LeafStands}
use Rattle.archive_tree.proofs.Those.{all_those}
use Rattle.content_log.specs.Log.{Entry, bodies_in, each_once, entries_of}

-- ---- each once

abbrev other : PlainKey → PlainKey → Bool
other b c = not (is_eq (key_cmp c b))

filter_has : (p : PlainKey → Bool) (c : PlainKey) (bs : List PlainKey) → Has c (filter p bs) → Has c bs × (p c ≡ true)
filter_has p c [] m = absurd m
filter_has p c (b ∷ bs) m =
    elim (p b) as (λ t. p b ≡ t → Has c (cond t (b ∷ filter p bs) (filter p bs)) → Has c (b ∷ bs) × (p c ≡ true)) [
      | true ↦ λ e n. elim n [
        | inl g ↦ (inl g, subst (λ z. p z ≡ true) g e)
        | inr k ↦ (let r = filter_has p c bs k in (inr r.0, r.1))
      ]
      | false ↦ λ e n. (let r = filter_has p c bs n in (inr r.0, r.1))
    ] refl m

has_filter : (p : PlainKey → Bool) (c : PlainKey) (bs : List PlainKey) → Has c bs → p c ≡ true → Has c (filter p bs)
has_filter p c [] m e = absurd m
has_filter p c (b ∷ bs) m e =
    elim (p b) as (λ t. p b ≡ t → Has c (cond t (b ∷ filter p bs) (filter p bs))) [
      | true ↦ λ d. elim m [ inl g ↦ inl g | inr k ↦ inr (has_filter p c bs k e) ]
      | false ↦ λ d. elim m [
        | inl g ↦ absurd (true≢false (sym e ∙ ap p (sym g) ∙ d))
        | inr k ↦ has_filter p c bs k e
      ]
    ] refl

pub once_has : (c : PlainKey) (bs : List PlainKey) → Has c (each_once bs) → Has c bs
once_has c [] m = absurd m
once_has c (b ∷ bs) m = elim m [ inl e ↦ inl e | inr n ↦ inr (once_has c bs (filter_has (other b) c (each_once bs) n).0) ]

pub has_once : (c : PlainKey) (bs : List PlainKey) → Has c bs → Has c (each_once bs)
has_once c [] m = absurd m
has_once c (b ∷ bs) m = elim m [
  | inl e ↦ inl e
  | inr n ↦ elim (is_eq (key_cmp c b)) as (λ t. is_eq (key_cmp c b) ≡ t → Has c (b ∷ filter (other b) (each_once bs))) [
    | true ↦ λ e. inl (sym ((key_cmp-is_eq c b).0 e))
    | false ↦ λ e. inr (has_filter (other b) c (each_once bs) (has_once c bs n) (ap not e))
  ] refl
]

-- ---- the numbers that have a body

abbrev pub first_of : List (ℕ × PlainKeyed) → PlainKey → ℕ
first_of ws b = head_or 0 (nums_with ws b)

same_key : (b : PlainKey) → is_eq (key_cmp b b) ≡ true
same_key b = (key_cmp-is_eq b b).1 refl

-- another body does not count a leaf
passes_over : (n : ℕ) (l : PlainLabel) (b c : PlainKey) (ws : List (ℕ × PlainKeyed)) → is_eq (key_cmp b c) ≡ false → nums_with ((n, leaf l b) ∷ ws) c ≡ nums_with ws c
passes_over n l b c ws e = rw e refl

counts : (n : ℕ) (l : PlainLabel) (b c : PlainKey) (ws : List (ℕ × PlainKeyed)) → is_eq (key_cmp b c) ≡ true → nums_with ((n, leaf l b) ∷ ws) c ≡ n ∷ nums_with ws c
counts n l b c ws e = rw e refl

differs : (b c : PlainKey) → other b c ≡ true → is_eq (key_cmp b c) ≡ false
differs b c h = elim (is_eq (key_cmp b c)) as (λ t. is_eq (key_cmp b c) ≡ t → t ≡ false) [
  | true ↦ λ e. absurd (true≢false (sym h ∙ ap (λ z. not (is_eq (key_cmp c z))) ((key_cmp-is_eq b c).0 e) ∙ ap not (same_key c)))
  | false ↦ λ e. refl
] refl

cons_some : (n : ℕ) (ns ms : List ℕ) → ms ≡ n ∷ ns → ms ≢ []
cons_some n ns ms e f = absurd (let g : n ∷ ns ≡ [] = sym e ∙ f in cc)

some_step : (c : PlainKey) (n : ℕ) (k : PlainKeyed) (ws : List (ℕ × PlainKeyed)) → (Has c (bodies_in ws) → nums_with ws c ≢ []) → Has c (bodies_in ((n, k) ∷ ws)) → nums_with ((n, k) ∷ ws) c ≢ []
some_step c n (inner l ks) ws on m = on m
some_step c n (leaf l b) ws on m =
    elim (is_eq (key_cmp b c)) as (λ t. is_eq (key_cmp b c) ≡ t → nums_with ((n, leaf l b) ∷ ws) c ≢ []) [
      | true ↦ λ e. cons_some n (nums_with ws c) _ (counts n l b c ws e)
      | false ↦ λ e. elim m [
        | inl g ↦ absurd (true≢false (sym ((key_cmp-is_eq b c).1 g) ∙ e))
        | inr k ↦ subst (λ (ns : List ℕ). ns ≢ []) (sym (passes_over n l b c ws e)) (on k)
      ]
    ] refl

pub some_nums : (c : PlainKey) (ws : List (ℕ × PlainKeyed)) → Has c (bodies_in ws) → nums_with ws c ≢ []
some_nums c [] m = absurd m
some_nums c (w ∷ ws) m = some_step c w.0 w.1 ws (some_nums c ws) m

nums_step : (c : PlainKey) (n : ℕ) (k : PlainKeyed) (ws : List (ℕ × PlainKeyed)) → (nums_with ws c ≢ [] → Has c (bodies_in ws)) → nums_with ((n, k) ∷ ws) c ≢ [] → Has c (bodies_in ((n, k) ∷ ws))
nums_step c n (inner l ks) ws on h = on h
nums_step c n (leaf l b) ws on h =
    elim (is_eq (key_cmp b c)) as (λ t. is_eq (key_cmp b c) ≡ t → Has c (b ∷ bodies_in ws)) [
      | true ↦ λ e. inl ((key_cmp-is_eq b c).0 e)
      | false ↦ λ e. inr (on (subst (λ (ns : List ℕ). ns ≢ []) (passes_over n l b c ws e) h))
    ] refl

pub nums_some : (c : PlainKey) (ws : List (ℕ × PlainKeyed)) → nums_with ws c ≢ [] → Has c (bodies_in ws)
nums_some c [] h = absurd (h refl)
nums_some c (w ∷ ws) h = nums_step c w.0 w.1 ws (nums_some c ws) h

-- ---- in the order of the first numbers

all_map : (P : ℕ → Type 0) (f : PlainKey → ℕ) (cs : List PlainKey) → ((c : PlainKey) → Has c cs → P (f c)) → AllByRecursion P (map f cs)
all_map P f [] h = tt
all_map P f (c ∷ cs) h = (h c (inl refl), all_map P f cs (λ d m. h d (inr m)))

map_same : (f g : PlainKey → ℕ) (cs : List PlainKey) → ((c : PlainKey) → Has c cs → f c ≡ g c) → map f cs ≡ map g cs
map_same f g [] h = refl
map_same f g (c ∷ cs) h = (let e = h c (inl refl) in let r = map_same f g cs (λ d m. h d (inr m)) in λ i. e i ∷ r i)

ascends_filter : (p : PlainKey → Bool) (f : PlainKey → ℕ) (cs : List PlainKey) → Ascends nat_cmp (map f cs) → Ascends nat_cmp (map f (filter p cs))
ascends_filter p f [] h = tt
ascends_filter p f (c ∷ cs) h =
    elim (p c) as (λ t. Ascends nat_cmp (map f (cond t (c ∷ filter p cs) (filter p cs)))) [
      | true ↦ (
        all_map (λ n. nat_cmp (f c) n ≡ Less) f (filter p cs) (λ d m. all_has (λ n. nat_cmp (f c) n ≡ Less) (map f cs) (f d) h.0 (has_map f d cs (filter_has p d cs m).0)),
        ascends_filter p f cs h.1,
      )
      | false ↦ ascends_filter p f cs h.1
    ]

head_all : (P : ℕ → Type 0) (ns : List ℕ) → ns ≢ [] → AllByRecursion P ns → P (head_or 0 ns)
head_all P [] s h = absurd (s refl)
head_all P (n ∷ ns) s h = h.0

first_in : (P : ℕ → Type 0) (c : PlainKey) (ws : List (ℕ × PlainKeyed)) → AllByRecursion P (nums ws) → Has c (bodies_in ws) → P (first_of ws c)
first_in P c ws h m = head_all P (nums_with ws c) (some_nums c ws m) (all_those P (passed (has_body c)) ws h)

abbrev OnceAscend : List (ℕ × PlainKeyed) → Type 0
OnceAscend ws = Ascends nat_cmp (map (first_of ws) (each_once (bodies_in ws)))

once_step : (n : ℕ) (k : PlainKeyed) (ws : List (ℕ × PlainKeyed)) → AllByRecursion (λ m. nat_cmp n m ≡ Less) (nums ws) → OnceAscend ws → OnceAscend ((n, k) ∷ ws)
once_step n (inner l ks) ws above on = on
once_step n (leaf l b) ws above on =
    let others = filter (other b) (each_once (bodies_in ws)) in
    let first : first_of ((n, leaf l b) ∷ ws) b ≡ n = ap (head_or 0) (counts n l b b ws (same_key b)) in
    let same : (c : PlainKey) → Has c others → first_of ((n, leaf l b) ∷ ws) c ≡ first_of ws c =
    (λ c m. ap (head_or 0) (passes_over n l b c ws (differs b c (filter_has (other b) c (each_once (bodies_in ws)) m).1))) in (
      all_map (λ m. nat_cmp (first_of ((n, leaf l b) ∷ ws) b) m ≡ Less) (first_of ((n, leaf l b) ∷ ws)) others (λ c m. (
          let below : nat_cmp n (first_of ws c) ≡ Less = first_in (λ m. nat_cmp n m ≡ Less) c ws above (once_has c (bodies_in ws) (filter_has (other b) c (each_once (bodies_in ws)) m).0) in
          (λ i. nat_cmp (first i) (same c m i)) ∙ below)),
      subst (Ascends nat_cmp) (sym (map_same (first_of ((n, leaf l b) ∷ ws)) (first_of ws) others same)) (ascends_filter (other b) (first_of ws) (each_once (bodies_in ws)) on),
    )

pub once_ascend : (ws : List (ℕ × PlainKeyed)) → Ascends nat_cmp (nums ws) → OnceAscend ws
once_ascend [] h = tt
once_ascend (w ∷ ws) h = once_step w.0 w.1 ws h.0 (once_ascend ws h.1)

-- ---- the alternatives of a leaf

abbrev pub alt_entry : List ℕ → PlainAlt → Entry
alt_entry ns x = record { numbers = eff x.stamp ns; body = x.body }

module _ (ws : List (ℕ × PlainKeyed)) where
  abbrev Alts : List PlainAlt → Type 0
  Alts xs = AllByRecursion (λ a. AltStands a ws) xs

  alt_firsts : (xs : List PlainAlt) → Alts xs → map (first_of ws) (bodies xs) ≡ map (first_num (nums ws)) xs
  alt_firsts [] h = refl
  alt_firsts (x ∷ xs) h = (let e = ap (head_or 0) h.0.stamped.effective in let r = alt_firsts xs h.1 in λ i. sym e i ∷ r i)

  alt_entries : (xs : List PlainAlt) → Alts xs → map (λ b. record { numbers = nums_with ws b; body = b }) (bodies xs) ≡ map (alt_entry (nums ws)) xs
  alt_entries [] h = refl
  alt_entries (x ∷ xs) h = (let e = h.0.stamped.effective in let r = alt_entries xs h.1 in λ i. record { numbers = sym e i; body = x.body } ∷ r i)

  some_alt : (xs : List PlainAlt) (b : PlainKey) → Alts xs → Has b (bodies xs) → nums_with ws b ≢ []
  some_alt xs b h m =
      let found = source (λ (a : PlainAlt). a.body) b xs m in
      subst (λ c. nums_with ws c ≢ []) found.is (all_has (λ a. AltStands a ws) xs found.item h found.has).some

  pub leaf_entries : (l : PlainLabel) (s : Stamp) (xs : List PlainAlt) (ps : List ℕ) → Ascends nat_cmp (nums ws) → LeafStands l s xs ws ps → entries_of ws ≡ map (alt_entry (nums ws)) xs
  leaf_entries l s xs ps up h =
      let same : each_once (bodies_in ws) ≡ bodies xs = same_items (first_of ws) nat_cmp_total (each_once (bodies_in ws)) (bodies xs)
      (once_ascend ws up) (subst (Ascends nat_cmp) (sym (alt_firsts xs h.alts)) h.in_order)
      (λ b m. h.covered b (some_nums b ws (once_has b (bodies_in ws) m)))
      (λ b m. has_once b (bodies_in ws) (nums_some b ws (some_alt xs b h.alts m))) in
      ap (map (λ b. record { numbers = nums_with ws b; body = b })) same ∙ alt_entries xs h.alts
