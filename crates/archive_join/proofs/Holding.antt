-- Alternatives that are held.
use Rattle.std.proofs.Common.{◌≡◌, ◌≢◌, ℕ, zero, suc, ◌+◌, ◌≤◌, ◌<◌, ◌||◌, Bool, true, false, not, cond, List, [], ◌∷◌, ◌++◌, map, filter, length, get_or, set, Option, Some, None, Result, Ok, Err, IfOk, OnOk, Vec, Global, refl, ap, sym, subst, subst₂, ◌∙◌, inl, inr, arith}
use Rattle.std.proofs.Math.Seq.{map-set_same}
use Rattle.std.proofs.lemmas.Bool.{cases_lt, false_from_ne_true}
use Rattle.std.proofs.lemmas.Cmp.{nat_list_cmp_total, tied_itself}
use Rattle.std.proofs.lemmas.List.{append-nil, length-map, map-append}
use Rattle.std.proofs.lemmas.List.Sorted.{IsPermutation-sym, IsPermutation-map, IsPermutation-trans, searchable_from_sorted}
use Rattle.std.specs.Cmp.Lexicographic.{slice_cmp}
use Rattle.std.specs.List.{AllByRecursion, enumerate_from}
use Rattle.std.specs.List.Sorted.{IsPermutation, IsNonDecreasingBy, IsSorted}
use Rattle.std.specs.Ordering.{is_eq, is_lt, nat_cmp, ordering_index}
use Rattle.std.specs.declared.cmp.Ordering.TheVariants.{Less, Equal, Greater}
use Rattle.version_set.specs.declared.set.VersionSet.{VersionSet}
use Rattle.keyed_tree.specs.Data.{PlainKey}
use Rattle.keyed_tree.specs.Laws.{key_cmp-is_eq}
use Rattle.keyed_tree.specs.Lists.{Has}
use Rattle.keyed_tree.specs.Order.{key_cmp}
use Rattle.jsonml_tree.proofs.Lists.{all_has, all_permuted, differ_permuted, has_map, has_permuted}
use Rattle.archive_tree.specs.Data.{Stamp, PlainAlt}
use Rattle.archive_tree.specs.Stands.{AllDiffer, bodies}
use Rattle.archive_tree.specs.View.{stamp_view}
use Rattle.record_parts.specs.Spelling.{value_bytes}
use Rattle.record_copy.specs.Parts.{alternative_view}
use Rattle.record_copy.specs.Short.{IfStored}
use Rattle.record_copy.specs.declared.parts.Alternative.{Alternative}
use Rattle.archive_join.specs.Held.{Ascend, Holds, IsMarked, is_among, left_over, placed, shown, spelled}
use Rattle.archive_join.specs.Joined.{alone, alt_of, paired, stamp_with}
use Rattle.archive_join.specs.Leaves.{alternatives_view}
use Rattle.archive_join.specs.Short.{IsMadeOf}
use Rattle.archive_join.specs.declared.held.Entry.{Entry}
use Rattle.archive_join.specs.declared.held.Held.{Held}
use Rattle.archive_join.proofs.Permuted.{get_has, in_place, items_placed, map-map, sorted_keys}
use Rattle.record_copy.proofs.Permuted.{all_at}

-- ---- the alternative with a body

others_not : (b c : PlainKey) → c ≢ b → is_eq (key_cmp c b) ≡ false
others_not b c other = false_from_ne_true (is_eq (key_cmp c b)) (λ f. other ((key_cmp-is_eq c b).0 f))

find_one : (b : PlainKey) (y : PlainAlt) (ys : List PlainAlt) → AllDiffer (bodies ys) → Has y ys → y.body ≡ b → alt_of b ys ≡ Some y
find_one b y [] d m e = absurd m
find_one b y (x ∷ xs) d m e = elim m [
  | inl s ↦ (let t : is_eq (key_cmp x.body b) ≡ true = (key_cmp-is_eq x.body b).1 (ap (λ (z : PlainAlt). z.body) s ∙ e) in rw t (ap (λ z. Some z) s))
  | inr n ↦ (
      let apart : x.body ≢ y.body = all_has (λ z. x.body ≢ z) (bodies xs) y.body d.0 (has_map (λ (z : PlainAlt). z.body) y xs n) in
      let t : is_eq (key_cmp x.body b) ≡ false = others_not b x.body (λ f. apart (f ∙ sym e)) in
      rw t (find_one b y xs d.1 n e))
]

find_none : (b : PlainKey) (ys : List PlainAlt) → AllByRecursion (λ y. y.body ≢ b) ys → alt_of b ys ≡ None
find_none b [] h = refl
find_none b (x ∷ xs) h = (let t = others_not b x.body h.0 in rw t (find_none b xs h.1))

-- ---- what the entries show

shown_all : (ys : List PlainAlt) (es : List Entry) → IsPermutation (enumerate_from 0 ys) (map placed es) → IsPermutation ys (map shown es)
shown_all ys es p = subst₂ IsPermutation (items_placed 0 ys) (map-map (λ (w : ℕ × PlainAlt). w.1) placed es) (IsPermutation-map (λ (w : ℕ × PlainAlt). w.1) (enumerate_from 0 ys) (map placed es) p)

shown_differ : (ys : List PlainAlt) (es : List Entry) → IsPermutation (enumerate_from 0 ys) (map placed es) → AllDiffer (bodies ys) → AllDiffer (bodies (map shown es))
shown_differ ys es p d = differ_permuted (λ c b. is_eq (key_cmp c b)) key_cmp-is_eq (bodies ys) (bodies (map shown es)) (IsPermutation-map (λ (z : PlainAlt). z.body) ys (map shown es) (shown_all ys es p)) d

pub all_shown : (P : PlainAlt → Type 0) (es : List Entry) → AllByRecursion (λ e. P (shown e)) es → AllByRecursion P (map shown es)
all_shown P [] h = tt
all_shown P (e ∷ es) h = (h.0, all_shown P es h.1)

-- ---- marks

or_true : (x : Bool) → (x || true) ≡ true
or_true true = refl
or_true false = refl

among_last : (b : PlainKey) (bs : List PlainKey) → is_among b (bs ++ b ∷ []) ≡ true
among_last b [] = (let t : is_eq (key_cmp b b) ≡ true = (key_cmp-is_eq b b).1 refl in rw t refl)
among_last b (c ∷ cs) = ap (λ z. is_eq (key_cmp c b) || z) (among_last b cs) ∙ or_true (is_eq (key_cmp c b))

among_more : (b c : PlainKey) (bs : List PlainKey) → c ≢ b → is_among c (bs ++ b ∷ []) ≡ is_among c bs
among_more b c [] h = (let t = others_not c b (λ e. h (sym e)) in rw t refl)
among_more b c (d ∷ ds) h = ap (λ z. is_eq (key_cmp d c) || z) (among_more b c ds h)

mark_none : (taken : List PlainKey) (b : PlainKey) (es : List Entry) → AllByRecursion (λ e. (shown e).body ≢ b) es → AllByRecursion (IsMarked taken) es → AllByRecursion (IsMarked (taken ++ b ∷ [])) es
mark_none taken b [] h m = tt
mark_none taken b (e ∷ es) h m = (m.0 ∙ sym (among_more b (shown e).body taken h.0), mark_none taken b es h.1 m.1)

apart_from : (b c : PlainKey) (es : List Entry) → c ≡ b → AllByRecursion (λ z. c ≢ z) (bodies (map shown es)) → AllByRecursion (λ e. (shown e).body ≢ b) es
apart_from b c [] s h = tt
apart_from b c (e ∷ es) s h = (λ f. h.0 (s ∙ sym f), apart_from b c es s h.1)

mark_one : (taken : List PlainKey) (b : PlainKey) (new : Entry) (es : List Entry) (at : ℕ) (d : Entry) → at < length es → AllDiffer (bodies (map shown es)) → (shown (get_or es at d)).body ≡ b → (shown new).body ≡ b → new.taken ≡ true
    → AllByRecursion (IsMarked taken) es → AllByRecursion (IsMarked (taken ++ b ∷ [])) (set es at new)
mark_one taken b new [] at d low differ was is t m = absurd (omega arith)
mark_one taken b new (e ∷ es) zero d low differ was is t m = (
  t ∙ sym (ap (λ z. is_among z (taken ++ b ∷ [])) is ∙ among_last b taken),
  mark_none taken b es (apart_from b (shown e).body es was differ.0) m.1,
)
mark_one taken b new (e ∷ es) (suc at) d low differ was is t m =
    let there = get_has es at d (omega arith) in
    let body : PlainKey = (shown (get_or es at d)).body in
    let other : (shown e).body ≢ body = all_has (λ z. (shown e).body ≢ z) (bodies (map shown es)) body differ.0 (has_map (λ (z : PlainAlt). z.body) (shown (get_or es at d)) (map shown es) (has_map shown (get_or es at d) es there)) in
    (m.0 ∙ sym (among_more b (shown e).body taken (λ f. other (f ∙ sym was))), mark_one taken b new es at d (omega arith) differ.1 was is t m.1)

-- ---- one is taken

module _ (ys : List PlainAlt) (taken : List PlainKey) (h : Held) (holds : Holds ys taken h) (differ : AllDiffer (bodies ys)) (b : PlainKey) where
  abbrev held : List Entry
  held = h.entries.items

  pub stamp_found : (p q : List (ℕ × ℕ)) (s : Stamp) (at : ℕ) (d : Entry) → at < length held → (shown (get_or held at d)).body ≡ b → stamp_with p q s (alt_of b ys) ≡ paired p q s (shown (get_or held at d)).stamp
  stamp_found p q s at d low is =
      let y = shown (get_or held at d) in
      let there : Has y ys = has_permuted (map shown held) ys (IsPermutation-sym ys (map shown held) (shown_all ys held holds.all)) y (has_map shown (get_or held at d) held (get_has held at d low)) in
      ap (stamp_with p q s) (find_one b y ys differ there is)

  pub stamp_missing : (p q : List (ℕ × ℕ)) (s : Stamp) → AllByRecursion (λ e. (shown e).body ≢ b) held → stamp_with p q s (alt_of b ys) ≡ alone p q s
  stamp_missing p q s none =
      let all = all_permuted (λ (z : PlainAlt). z.body ≢ b) (map shown held) ys (IsPermutation-sym ys (map shown held) (shown_all ys held holds.all)) (all_shown (λ (z : PlainAlt). z.body ≢ b) held none) in
      ap (stamp_with p q s) (find_none b ys all)

  pub holds_found : (new : Held) (e : Entry) (at : ℕ) (d : Entry) → at < length held → (shown (get_or held at d)).body ≡ b → new.entries.items ≡ set held at e → placed e ≡ placed (get_or held at d) → e.taken ≡ true → Holds ys (taken ++ b ∷ []) new
  holds_found new e at d low is now same t =
      let places : map placed new.entries.items ≡ map placed held = ap (map placed) now ∙ map-set_same placed held at e d same in
      let bytes : map spelled new.entries.items ≡ map spelled held = ap (map spelled) now ∙ map-set_same spelled held at e d (ap (λ (w : ℕ × PlainAlt). value_bytes w.1.body) same) in
      record {
        all = subst (λ z. IsPermutation (enumerate_from 0 ys) z) (sym places) holds.all;
        marked = subst (AllByRecursion (IsMarked (taken ++ b ∷ []))) (sym now) (mark_one taken b e held at d low (shown_differ ys held holds.all differ) is (ap (λ (w : ℕ × PlainAlt). w.1.body) same ∙ is) t holds.marked);
        in_order = subst (IsSorted (slice_cmp nat_cmp)) (sym bytes) holds.in_order;
      }

  pub holds_missing : AllByRecursion (λ e. (shown e).body ≢ b) held → Holds ys (taken ++ b ∷ []) h
  holds_missing none = record { all = holds.all; marked = mark_none taken b held none holds.marked; in_order = holds.in_order }

-- what holds of each still does
pub all_kept : (P : PlainAlt → Type 0) (es now : List Entry) (e : Entry) (at : ℕ) (d : Entry) → now ≡ set es at e → placed e ≡ placed (get_or es at d) → AllByRecursion P (map shown es) → AllByRecursion P (map shown now)
all_kept P es now e at d is same h = subst (AllByRecursion P) (sym (ap (map shown) is ∙ map-set_same shown es at e d (ap (λ (w : ℕ × PlainAlt). w.1) same))) h

pub held_at : (P : PlainAlt → Type 0) (es : List Entry) (at : ℕ) (d : Entry) → at < length es → AllByRecursion P (map shown es) → P (shown (get_or es at d))
held_at P es at d low h = all_has P (map shown es) (shown (get_or es at d)) h (has_map shown (get_or es at d) es (get_has es at d low))

-- ---- in order, and back in their places

pub all_sorted : (P : PlainAlt → Type 0) (es js : List Entry) → IsPermutation es js → AllByRecursion P (map shown es) → AllByRecursion P (map shown js)
all_sorted P es js p h = all_permuted P (map shown es) (map shown js) (IsPermutation-map shown es js p) h

pub shown_placed : (ys : List PlainAlt) (es : List Entry) → map placed es ≡ enumerate_from 0 ys → map shown es ≡ ys
shown_placed ys es e = sym (map-map (λ (w : ℕ × PlainAlt). w.1) placed es) ∙ ap (map (λ (w : ℕ × PlainAlt). w.1)) e ∙ items_placed 0 ys

pub holds_first : (ys : List PlainAlt) (es : List Entry) (h : Held) → map placed es ≡ enumerate_from 0 ys → AllByRecursion (λ e. e.taken ≡ false) es → IsPermutation es h.entries.items → Ascend h.entries.items → Holds ys [] h
holds_first ys es h e free p up = record {
  all = subst (λ z. IsPermutation z (map placed h.entries.items)) e (IsPermutation-map placed es h.entries.items p);
  marked = all_permuted (IsMarked []) es h.entries.items p free;
  in_order = up;
}

keep : (b c : Bool) (e : Entry) (rest : List Entry) (more : List PlainAlt) → b ≡ c → map shown rest ≡ more → map shown (cond (not b) (e ∷ rest) rest) ≡ cond (not c) (shown e ∷ more) more
keep true c e rest more s r = subst (λ z. map shown rest ≡ cond (not z) (shown e ∷ more) more) s r
keep false c e rest more s r = subst (λ z. shown e ∷ map shown rest ≡ cond (not z) (shown e ∷ more) more) s (ap (λ z. shown e ∷ z) r)

left_shown : (taken : List PlainKey) (js : List Entry) → AllByRecursion (IsMarked taken) js → map shown (filter (λ e. not e.taken) js) ≡ left_over taken (map shown js)
left_shown taken [] m = refl
left_shown taken (e ∷ js) m = keep e.taken (is_among (shown e).body taken) e (filter (λ e. not e.taken) js) (left_over taken (map shown js)) m.0 (left_shown taken js m.1)

pub others_left : (ys : List PlainAlt) (taken : List PlainKey) (h : Held) → Holds ys taken h → (es : List Entry) → IsPermutation h.entries.items es → IsNonDecreasingBy (λ e. e.at) es → map shown (filter (λ e. not e.taken) es) ≡ left_over taken ys
others_left ys taken h holds es p up =
    let old = h.entries.items in
    let moved = IsPermutation-trans (enumerate_from 0 ys) (map placed old) (map placed es) holds.all (IsPermutation-map placed old es p) in
    left_shown taken es (all_permuted (IsMarked taken) old es p holds.marked) ∙ ap (left_over taken) (shown_placed ys es (in_place placed ys es moved up))

pub all_left : (P : PlainAlt → Type 0) (t : Entry → Bool) (es : List Entry) → AllByRecursion P (map shown es) → AllByRecursion P (map shown (filter t es))
all_left P t [] h = tt
all_left P t (e ∷ es) h =
    let rest = all_left P t es h.1 in
    elim (t e) as (λ b. AllByRecursion P (map shown (cond b (e ∷ filter t es) (filter t es)))) [ true ↦ (h.0, rest) | false ↦ rest ]

-- ---- what the loops leave

pub placed_more : {X : Type 0} (n : ℕ) (xs : List X) (x : X) → enumerate_from n (xs ++ x ∷ []) ≡ enumerate_from n xs ++ (n + length xs, x) ∷ []
placed_more n [] x = (let e : n + 0 ≡ n = omega arith in rw e refl)
placed_more n (y ∷ ys) x = (let e : n + suc (length ys) ≡ n + 1 + length ys = omega arith in rw e (ap (λ z. (n, y) ∷ z) (placed_more (n + 1) ys x)))

pub numbered_more : (es : List Entry) (xs : List Alternative) (e : Entry) → map placed es ≡ enumerate_from 0 (alternatives_view xs) → e.at ≡ length xs → map placed (es ++ e ∷ []) ≡ enumerate_from 0 (alternatives_view (xs ++ e.alternative ∷ []))
numbered_more es xs e p at =
    let n : length (alternatives_view xs) ≡ length xs = simp length-map in
    let here : e.at ≡ 0 + length (alternatives_view xs) = omega arith in
    map-append placed es (e ∷ [])
    ∙ (λ i. p i ++ (here i, shown e) ∷ [])
    ∙ sym (placed_more 0 (alternatives_view xs) (shown e))
    ∙ ap (enumerate_from 0) (sym (map-append alternative_view xs (e.alternative ∷ [])))

more_left : (b : Bool) (x : Entry) (xs ys : List Entry) (t : List PlainAlt) → map shown xs ≡ map shown ys ++ t → map shown (cond (not b) (x ∷ xs) xs) ≡ map shown (cond (not b) (x ∷ ys) ys) ++ t
more_left true x xs ys t h = h
more_left false x xs ys t h = ap (λ z. shown x ∷ z) h

left_more : (xs : List Entry) (e : Entry) (t : List PlainAlt) → map shown (cond (not e.taken) (e ∷ []) []) ≡ t → map shown (filter (λ e. not e.taken) (xs ++ e ∷ [])) ≡ map shown (filter (λ e. not e.taken) xs) ++ t
left_more [] e t h = h
left_more (x ∷ xs) e t h = more_left x.taken x (filter (λ e. not e.taken) (xs ++ e ∷ [])) (filter (λ e. not e.taken) xs) t (left_more xs e t h)

one_left : (b : Bool) (e : Entry) → not b ≡ true → map shown (cond (not b) (e ∷ []) []) ≡ shown e ∷ []
one_left true e h = cc
one_left false e h = refl

none_left : (b : Bool) (e : Entry) → not b ≡ false → map shown (cond (not b) (e ∷ []) []) ≡ []
none_left true e h = refl
none_left false e h = cc

pub left_one : (xs : List Entry) (e : Entry) → not e.taken ≡ true → map shown (filter (λ e. not e.taken) (xs ++ e ∷ [])) ≡ map shown (filter (λ e. not e.taken) xs) ++ shown e ∷ []
left_one xs e h = left_more xs e (shown e ∷ []) (one_left e.taken e h)

pub left_none : (xs : List Entry) (e : Entry) → not e.taken ≡ false → map shown (filter (λ e. not e.taken) (xs ++ e ∷ [])) ≡ map shown (filter (λ e. not e.taken) xs)
left_none xs e h = left_more xs e [] (none_left e.taken e h) ∙ append-nil (map shown (filter (λ e. not e.taken) xs))

-- ---- what halving misses

pub not_there : (xs : List Entry) (x : List ℕ) (b : PlainKey) (at : ℕ) → x ≡ value_bytes b → Ascend xs
    → (IsNonDecreasingBy (λ e. ordering_index (slice_cmp nat_cmp (spelled e) x)) xs → ((k : ℕ) (d : Entry) → 0 ≤ k → k < at → slice_cmp nat_cmp (spelled (get_or xs k d)) x ≡ Less) × ((k : ℕ) (d : Entry) → at ≤ k → k < length xs → slice_cmp nat_cmp (spelled (get_or xs k d)) x ≡ Greater))
    → AllByRecursion (λ e. (shown e).body ≢ b) xs
not_there xs x b at is up parts =
    let both = parts (searchable_from_sorted nat_list_cmp_total spelled xs x (sorted_keys spelled (λ k j. is_lt (slice_cmp nat_cmp k j)) xs up)) in
    all_at (λ e. (shown e).body ≢ b) xs (λ k d low f. (
    let same : slice_cmp nat_cmp (spelled (get_or xs k d)) x ≡ Equal = ap (λ z. slice_cmp nat_cmp z x) (ap value_bytes f ∙ sym is) ∙ tied_itself nat_list_cmp_total x in
    elim (cases_lt k at) [
      | inl l ↦ (let other : slice_cmp nat_cmp (spelled (get_or xs k d)) x ≡ Less = both.0 k d (omega arith) l in cc)
      | inr g ↦ (let other : slice_cmp nat_cmp (spelled (get_or xs k d)) x ≡ Greater = both.1 k d g low in cc)
    ]))

-- ---- answers

pub if_made : {E : Type 0} (b n : ℕ) (r : Result (Option VersionSet) E) (s : Stamp) → IfOk r (λ v. stamp_view v ≡ s) → IfStored (IsMadeOf b n) s → IfOk r (λ v. IfStored (IsMadeOf b n) (stamp_view v))
if_made b n (Ok v) s h m = subst (IfStored (IsMadeOf b n)) (sym h) m
if_made b n (Err e) s h m = tt

pub if_all : {E : Type 0} (P : PlainAlt → Type 0) (r : Result (Vec Alternative Global) E) (xs : List PlainAlt) → IfOk r (λ v. alternatives_view v.items ≡ xs) → AllByRecursion P xs → IfOk r (λ v. AllByRecursion P (alternatives_view v.items))
if_all P (Ok v) xs h m = subst (AllByRecursion P) (sym h) m
if_all P (Err e) xs h m = tt

pub on_ok : {T E : Type 0} (r : Result T E) (P : Type 0) → P → OnOk r P
on_ok (Ok x) P p = p
on_ok (Err e) P p = tt
