-- A map from the encodings of bodies to their places, as bodies come behind others.
use Rattle.std.proofs.Common.{◌≡◌, ◌≢◌, ℕ, zero, suc, ◌<◌, ◌≤◌, ◌+◌, ◌&&◌, ◌↔◌, Bool, true, false, true≢false, IsTrue, cond, List, [], ◌∷◌, ◌++◌, map, length, take, get_or, set, Option, Some, None, Vec, Global, refl, ap, sym, subst, ◌∙◌, ◌⊎◌, inl, inr, arith}
use Rattle.std.proofs.lemmas.List.{length-map, map-append, take_all}
use Rattle.std.proofs.lemmas.Map.Lookups.{exact_bytes}
use Rattle.std.specs.Option.{ForSome, IfSome, IsSome, is_some}
use Rattle.std.specs.List.{AllByRecursion}
use Rattle.std.specs.Ordering.{is_eq, nat_cmp, match_ordering}
use Rattle.std.specs.declared.cmp.Ordering.{Ordering}
use Rattle.std.specs.declared.cmp.Ordering.TheVariants.{Less, Equal, Greater}
use Rattle.std.specs.Cmp.Lexicographic.{slice_cmp, nat_list_cmp_total}
use Rattle.std.specs.BTreeMap.{insert_entry}
use Rattle.jsonml_tree.specs.Laws.{is_eq_exact}
use Rattle.jsonml_tree.specs.Lists.{Has}
use Rattle.keyed_tree.specs.Data.{PlainKey}
use Rattle.keyed_tree.proofs.Kids.{both}
use Rattle.record_parts.specs.Checks.{value_fits}
use Rattle.record_parts.specs.Encodable.{value_there}
use Rattle.record_parts.specs.ShownParts.{same_values}
use Rattle.record_parts.specs.Spelling.{value_bytes}
use Rattle.spelled_archive.specs.View.{kept_view}
use Rattle.new_archive.specs.AltView.{alt_view}
use Rattle.new_archive.specs.Covered.{Places, AreCovered, IsAdded, IsEncoding, IsSpelledAt, kept_bodies, place_at}
use Rattle.new_archive.specs.Full.{FullAlt}
use Rattle.new_archive.specs.Place.{IsAltOf}
use Rattle.new_archive.specs.declared.node.NewAlt.{NewAlt}

abbrev Key : Type 0
Key = Vec ℕ Global

-- the order of the keys
abbrev key_order : Key → Key → Ordering
key_order j k = slice_cmp nat_cmp j.items k.items

-- whether a key has these bytes
abbrev has_bytes : List ℕ → Key → Bool
has_bytes bytes k = is_eq (slice_cmp nat_cmp bytes k.items)

-- bytes compare as equal exactly where they are the same
same_bytes : (j k : List ℕ) → IsTrue (is_eq (slice_cmp nat_cmp j k)) ↔ (j ≡ k)
same_bytes = is_eq_exact nat_list_cmp_total exact_bytes

-- ---- what stands at some bytes after an entry was put

-- of two tests the one that is put in front does not meet the other
passed : {X : Type 0} (put here : Bool) (x y : X) (o p : Option X) → (put ≡ true → here ≡ false) → p ≡ cond put (Some x) o → cond here (Some y) p ≡ cond put (Some x) (cond here (Some y) o)
passed true true x y o p apart e = absurd (true≢false (apart refl))
passed true false x y o p apart e = e
passed false here x y o p apart e = ap (cond here (Some y)) e

replaced : {X : Type 0} (put here : Bool) (x y : X) (o : Option X) → here ≡ put → cond here (Some x) o ≡ cond put (Some x) (cond here (Some y) o)
replaced true here x y o e = ap (λ b. cond b (Some x) o) e
replaced false here x y o e = rw e refl

after_insert : (bytes : List ℕ) (k : Key) (v : ℕ) (es : Places) → place_at bytes (insert_entry key_order es k v) ≡ cond (has_bytes bytes k) (Some v) (place_at bytes es)
after_insert bytes k v [] = refl
after_insert bytes k v (e ∷ es) = elim (key_order k e.0) as (λ r. key_order k e.0 ≡ r → place_at bytes (match_ordering r ((k, v) ∷ e ∷ es) ((e.0, v) ∷ es) (e ∷ insert_entry key_order es k v)) ≡ cond (has_bytes bytes k) (Some v) (place_at bytes (e ∷ es))) [
  | Less ↦ λ x. refl
  | Equal ↦ λ x. replaced (has_bytes bytes k) (has_bytes bytes e.0) v e.1 (place_at bytes es) (ap (λ z. is_eq (slice_cmp nat_cmp bytes z)) (sym (exact_bytes k.items e.0.items x)))
  | Greater ↦ λ x. passed (has_bytes bytes k) (has_bytes bytes e.0) v e.1 (place_at bytes es) _ (λ h. ap (λ z. is_eq (slice_cmp nat_cmp z e.0.items)) ((same_bytes bytes k.items).0 h) ∙ ap is_eq x) (after_insert bytes k v es)
] refl

pub added_some : (b : PlainKey) (k : Key) (i : ℕ) (es fs : Places) → IsEncoding b k.items → fs ≡ insert_entry key_order es k i → IsAdded b i es fs
added_some b k i es fs h e = λ bytes. (let fits = h.0 in rw fits (ap (place_at bytes) e ∙ after_insert bytes k i es ∙ ap (λ z. cond (is_eq (slice_cmp nat_cmp bytes z)) (Some i) (place_at bytes es)) h.1))

pub added_none : (b : PlainKey) (i : ℕ) (es : Places) → value_fits b ≡ false → IsAdded b i es es
added_none b i es none = λ bytes. rw none refl

-- ---- bodies that are found

pub none_covered : (es : Places) → es ≡ [] → AreCovered [] es
none_covered es none = subst (AreCovered []) (sym none) record { found = λ b at fits. absurd at; placed = λ bytes i e. absurd (true≢false (sym (ap is_some e))) }

has_more : (bs : List PlainKey) (b c : PlainKey) → Has b (bs ++ c ∷ []) → Has b bs ⊎ (c ≡ b)
has_more [] b c (inl e) = inr e
has_more [] b c (inr none) = absurd none
has_more (x ∷ bs) b c (inl e) = inl (inl e)
has_more (x ∷ bs) b c (inr at) = elim (has_more bs b c at) [ inl there ↦ inl (inr there) | inr e ↦ inr e ]

some_first : {X : Type 0} (b : Bool) (x : X) (o : Option X) → IsSome o → IsSome (cond b (Some x) o)
some_first true x o h = refl
some_first false x o h = h

-- what stands at a place stands there still, and the last behind all
there_still : (bytes : List ℕ) (bs : List PlainKey) (c : PlainKey) (i : ℕ) → IsSpelledAt bs bytes i → IsSpelledAt (bs ++ c ∷ []) bytes i
there_still bytes [] c i h = absurd (let low = h.0 in omega (arith, low))
there_still bytes (b ∷ bs) c zero h = (omega arith, λ d. h.1 d)
there_still bytes (b ∷ bs) c (suc i) h =
    let low = h.0 in
    let rest = there_still bytes bs c i (omega (arith, low), λ d. h.1 d) in
    let next = rest.0 in
    (omega (arith, next), λ d. rest.1 d)

there_last : (bytes : List ℕ) (bs : List PlainKey) (c : PlainKey) → IsEncoding c bytes → IsSpelledAt (bs ++ c ∷ []) bytes (length bs)
there_last bytes [] c h = (omega arith, λ d. h)
there_last bytes (b ∷ bs) c h = (let rest = there_last bytes bs c h in let low = rest.0 in (omega (arith, low), λ d. rest.1 d))

some_is : {X : Type 0} (x y : X) → Some x ≡ Some y → x ≡ y
some_is x y e = cc

module _ (bs : List PlainKey) (c : PlainKey) (es fs : Places) (h : AreCovered bs es) (g : IsAdded c (length bs) es fs) where
  abbrev is_it : List ℕ → Bool
  is_it bytes = value_fits c && is_eq (slice_cmp nat_cmp bytes (value_bytes c))

  found_more : (b : PlainKey) → Has b (bs ++ c ∷ []) → value_fits b ≡ true → IsSome (place_at (value_bytes b) fs)
  found_more b at fits = elim (has_more bs b c at) [
    | inl there ↦ subst IsSome (sym (g (value_bytes b))) (some_first (is_it (value_bytes b)) (length bs) _ (h.found b there fits))
    | inr e ↦ (
        let one : value_fits c ≡ true = ap value_fits e ∙ fits in
        let two : is_eq (slice_cmp nat_cmp (value_bytes b) (value_bytes c)) ≡ true = (same_bytes (value_bytes b) (value_bytes c)).1 (ap value_bytes (sym e)) in
        subst IsSome (sym (g (value_bytes b))) (rw one (rw two refl)))
  ]

  placed_more : (bytes : List ℕ) (i : ℕ) → place_at bytes fs ≡ Some i → IsSpelledAt (bs ++ c ∷ []) bytes i
  placed_more bytes i e = elim (is_it bytes) as (λ t. is_it bytes ≡ t → cond t (Some (length bs)) (place_at bytes es) ≡ Some i → IsSpelledAt (bs ++ c ∷ []) bytes i) [
    | true ↦ λ t f. (
        let told = both (value_fits c) (is_eq (slice_cmp nat_cmp bytes (value_bytes c))) t in
        subst (λ k. IsSpelledAt (bs ++ c ∷ []) bytes k) (some_is (length bs) i f) (there_last bytes bs c (told.0, (same_bytes bytes (value_bytes c)).0 told.1)))
    | false ↦ λ t f. there_still bytes bs c i (h.placed bytes i f)
  ] refl (sym (g bytes) ∙ e)

  pub covered_more : AreCovered (bs ++ c ∷ []) fs
  covered_more = record { found = found_more; placed = placed_more }

-- a body that has an encoding at which nothing stands is none of them
pub none_has : (b : PlainKey) (xs : List NewAlt) (es : Places) → AreCovered (kept_bodies xs) es → value_fits b ≡ true → place_at (value_bytes b) es ≡ None → AllByRecursion (λ (x : FullAlt). x.body ≢ b) (map alt_view xs)
none_has b xs es h fits none = go xs (λ c at f. h.found c at f)
  where
    go : (ys : List NewAlt) → ((c : PlainKey) → Has c (kept_bodies ys) → value_fits c ≡ true → IsSome (place_at (value_bytes c) es)) → AllByRecursion (λ (x : FullAlt). x.body ≢ b) (map alt_view ys)
    go [] f = tt
    go (y ∷ ys) f = ((λ e. true≢false (sym (f b (inl e) fits) ∙ ap is_some none)), go ys (λ c at. f c (inr at)))

-- what stands at the encoding of a body is the place of that body
pub found_there : (b : PlainKey) (xs : List NewAlt) (es : Places) (i : ℕ) → AreCovered (kept_bodies xs) es → value_fits b ≡ true → place_at (value_bytes b) es ≡ Some i → IsAltOf b (map alt_view xs) (Some i)
found_there b xs es i h fits e = go xs i (h.placed (value_bytes b) i e)
  where
    go : (ys : List NewAlt) (j : ℕ) → IsSpelledAt (kept_bodies ys) (value_bytes b) j → IsAltOf b (map alt_view ys) (Some j)
    go [] j at = absurd (let low = at.0 in omega (arith, low))
    go (y ∷ ys) zero at = (omega arith, λ d. sym (same_values b (kept_view y.body) (value_there b fits) (value_there (kept_view y.body) (at.1 b).0) (at.1 b).1))
    go (y ∷ ys) (suc j) at =
        let low = at.0 in
        let rest = go ys j (omega (arith, low), λ d. at.1 d) in
        let next = rest.0 in
        (omega (arith, next), λ d. rest.1 d)

-- a body that is kept at a place stays where the set beside it changes
pub same_kept : (xs : List NewAlt) (i : ℕ) (y d : NewAlt) → i < length xs → kept_view y.body ≡ kept_view (get_or xs i d).body → kept_bodies (set xs i y) ≡ kept_bodies xs
same_kept [] i y d low e = absurd (omega arith)
same_kept (x ∷ xs) zero y d low e = ap (λ z. z ∷ kept_bodies xs) e
same_kept (x ∷ xs) (suc i) y d low e = ap (λ z. kept_view x.body ∷ z) (same_kept xs i y d (omega arith) e)

-- ---- a walk over them

pub kept_taken : (xs : List NewAlt) (i : ℕ) (x : NewAlt) → i < length xs → x ≡ get_or xs i x → kept_bodies (take (i + 1) xs) ≡ kept_bodies (take i xs) ++ kept_view x.body ∷ []
kept_taken [] i x low is = absurd (omega arith)
kept_taken (y ∷ xs) zero x low is = ap (λ (z : NewAlt). kept_view z.body ∷ []) (sym is)
kept_taken (y ∷ xs) (suc i) x low is = (let place : suc i + 1 ≡ suc (i + 1) = omega arith in rw place (ap (λ z. kept_view y.body ∷ z) (kept_taken xs i x (omega arith) is)))

pub kept_all : (xs : List NewAlt) (i : ℕ) (es : Places) → length xs ≤ i → AreCovered (kept_bodies (take i xs)) es → AreCovered (kept_bodies xs) es
kept_all xs i es over h = subst (λ z. AreCovered (kept_bodies z) es) (take_all i xs over) h

pub kept_long : (xs : List NewAlt) (i : ℕ) → i < length xs → length (kept_bodies (take i xs)) ≡ i
kept_long [] i low = absurd (omega arith)
kept_long (x ∷ xs) zero low = refl
kept_long (x ∷ xs) (suc i) low = ap suc (kept_long xs i (omega arith))

pub kept_behind : (xs : List NewAlt) (x : NewAlt) → kept_bodies (xs ++ x ∷ []) ≡ kept_bodies xs ++ kept_view x.body ∷ []
kept_behind xs x = map-append (λ (a : NewAlt). kept_view a.body) xs (x ∷ [])

-- the place of one behind them is how many they are
pub covered_behind : (xs : List NewAlt) (c : PlainKey) (es fs : Places) → AreCovered (kept_bodies xs) es → IsAdded c (length xs) es fs → AreCovered (kept_bodies xs ++ c ∷ []) fs
covered_behind xs c es fs h g = covered_more (kept_bodies xs) c es fs h (subst (λ n. IsAdded c n es fs) (sym (length-map xs (λ (a : NewAlt). kept_view a.body))) g)

-- ---- what is in an option

pub if_some : {X : Type 0} (P : X → Type 0) (o : Option X) → ForSome o P → IfSome o P
if_some P None h = tt
if_some P (Some x) h = h x refl

pub for_some : {X : Type 0} (P : X → Type 0) (o : Option X) → IfSome o P → ForSome o P
for_some P o h = λ x e. subst (λ z. IfSome z P) e h
