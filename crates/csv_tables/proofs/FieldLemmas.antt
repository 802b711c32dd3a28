-- The fields of a record, one after the other.
use Rattle.std.proofs.Common.{◌≡◌, ℕ, zero, suc, ◌+◌, Bool, true, false, ◌&&◌, List, [], ◌∷◌, ◌++◌, take, Some, None, IsUtf8, String, Global, string_bytes, refl, ap, ap₂, sym, ◌∙◌, subst, arith, Vec}
use Rattle.std.proofs.lemmas.Bool.{false_from_ne_true}
use Rattle.std.proofs.lemmas.List.{map-append}
use Rattle.std.proofs.lemmas.Str.{IsUtf8-from_is_utf8, is_utf8-from_IsUtf8}
use Rattle.std.specs.List.{list_all}
use Rattle.std.specs.Str.{is_utf8}
use Rattle.csv.specs.Records.{field_at}
use Rattle.key_spec.specs.View.{names_view}
use Rattle.csv_tables.specs.View.{rows_view}

pub take-field : (fields : List (List ℕ)) (i : ℕ) (f : List ℕ) → field_at fields i ≡ Some f → take (i + 1) fields ≡ take i fields ++ f ∷ []
unfolding field_at
take-field [] i f e = cc
take-field (x ∷ fields) zero f e = let same : x ≡ f = cc in ap (λ (y : List ℕ). y ∷ []) same
take-field (x ∷ fields) (suc i) f e =
    let n : suc i + 1 ≡ suc (i + 1) = omega arith in
    ap (λ (k : ℕ). take k (x ∷ fields)) n ∙ ap (λ (ys : List (List ℕ)). x ∷ ys) (take-field fields i f e)

pub take-all : (fields : List (List ℕ)) (i : ℕ) → field_at fields i ≡ None → take i fields ≡ fields
unfolding field_at
take-all [] zero e = refl
take-all [] (suc i) e = refl
take-all (x ∷ fields) zero e = cc
take-all (x ∷ fields) (suc i) e = ap (λ (ys : List (List ℕ)). x ∷ ys) (take-all fields i e)

and-last : (b c : Bool) → b ≡ false → (c && b) ≡ false
and-last b true e = e
and-last b false e = refl

all-append : (xs : List (List ℕ)) (f : List ℕ) → list_all is_utf8 xs ≡ true → is_utf8 f ≡ true → list_all is_utf8 (xs ++ f ∷ []) ≡ true
all-append [] f e h = rw h refl
all-append (x ∷ xs) f e h = by (is_utf8 x) e (all-append xs f)
  where
    by : (b : Bool) → (b && list_all is_utf8 xs) ≡ true → (list_all is_utf8 xs ≡ true → is_utf8 f ≡ true → list_all is_utf8 (xs ++ f ∷ []) ≡ true) → (b && list_all is_utf8 (xs ++ f ∷ [])) ≡ true
    by true g more = more g h
    by false g more = g

pub utf8-more : (fields : List (List ℕ)) (i : ℕ) (f : List ℕ) → field_at fields i ≡ Some f → list_all is_utf8 (take i fields) ≡ true → IsUtf8 f → list_all is_utf8 (take (i + 1) fields) ≡ true
utf8-more fields i f e all h = ap (list_all is_utf8) (take-field fields i f e) ∙ all-append (take i fields) f all (is_utf8-from_IsUtf8 f h)

pub not-utf8 : (fields : List (List ℕ)) (i : ℕ) (f : List ℕ) → field_at fields i ≡ Some f → (IsUtf8 f → ⊥) → list_all is_utf8 fields ≡ false
unfolding field_at
not-utf8 [] i f e other = cc
not-utf8 (x ∷ fields) zero f e other =
    let same : x ≡ f = cc in
    let bad : is_utf8 x ≡ false = false_from_ne_true (is_utf8 x) (λ g. other (subst IsUtf8 same (IsUtf8-from_is_utf8 x g))) in
    rw bad refl
not-utf8 (x ∷ fields) (suc i) f e other = and-last (list_all is_utf8 fields) (is_utf8 x) (not-utf8 fields i f e other)

-- one text more
pub push-text : (fields : List (List ℕ)) (i j : ℕ) (f : List ℕ) (old new : List (String Global)) (x : String Global) → field_at fields i ≡ Some f → j ≡ i + 1
    → names_view old ≡ take i fields → new ≡ old ++ x ∷ [] → string_bytes x ≡ f → names_view new ≡ take j fields
push-text fields i j f old new x e at done items is =
    ap names_view items ∙ map-append string_bytes old (x ∷ []) ∙ ap₂ (λ (a : List (List ℕ)) (b : List ℕ). a ++ b ∷ []) done is ∙ sym (take-field fields i f e) ∙ ap (λ (k : ℕ). take k fields) (sym at)

-- one row more
pub push-row : (done : List (List (List ℕ))) (old new : List (Vec (String Global) Global)) (x : Vec (String Global) Global) (fields : List (List ℕ)) → rows_view old ≡ done → new ≡ old ++ x ∷ []
    → names_view x.items ≡ fields → rows_view new ≡ done ++ fields ∷ []
push-row done old new x fields are items is =
    ap rows_view items ∙ map-append (λ (row : Vec (String Global) Global). names_view row.items) old (x ∷ []) ∙ ap₂ (λ (a : List (List (List ℕ))) (b : List (List ℕ)). a ++ b ∷ []) are is
