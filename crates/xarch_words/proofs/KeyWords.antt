-- The names between the commas of a word, one after the other.
use Rattle.std.proofs.Common.{◌≡◌, ℕ, zero, suc, ◌+◌, ◌<◌, ◌≤◌, ◌&&◌, ◌||◌, nat_le, not, Bool, true, false, List, [], ◌∷◌, ◌++◌, length, take, get_or, refl, sym, ap, ◌∙◌, arith}
use Rattle.std.proofs.lemmas.Bool.{le-leb, leb-true}
use Rattle.std.proofs.lemmas.List.{append-nil, append_assoc}
use Rattle.std.specs.List.{list_all}
use Rattle.csv_tables.specs.Records.{has_field, repeats}
use Rattle.key_spec.specs.Names.{is_name}
use Rattle.xarch_words.specs.Commands.{are_keys, key_names}

or-right : (b c : Bool) → c ≡ true → (b || c) ≡ true
or-right true c e = refl
or-right false c e = e

or-left : (b c : Bool) → b ≡ true → (b || c) ≡ true
or-left true c e = refl
or-left false c e = absurd cc

-- a field that stands among those before it
pub repeats-at : (e parts : List (List ℕ)) (n : ℕ) (d : List ℕ) → n < length parts → has_field (e ++ take n parts) (get_or parts n d) ≡ true → repeats e parts ≡ true
repeats-at e [] n d within h = absurd (omega (arith, within))
repeats-at e (x ∷ xs) zero d within h = or-left (has_field e x) (repeats (e ++ x ∷ []) xs) (ap (λ (ys : List (List ℕ)). has_field ys x) (sym (append-nil e)) ∙ h)
repeats-at e (x ∷ xs) (suc n) d within h =
    or-right (has_field e x) (repeats (e ++ x ∷ []) xs)
    (repeats-at (e ++ x ∷ []) xs n d (omega (arith, within)) (ap (λ (ys : List (List ℕ)). has_field ys (get_or xs n d)) (append_assoc e (x ∷ []) (take n xs)) ∙ h))

or-both : (b c : Bool) → b ≡ false → c ≡ false → (b || c) ≡ false
or-both false c e f = f
or-both true c e f = absurd cc

or-first : (b c : Bool) → (b || c) ≡ false → b ≡ false
or-first false c e = refl
or-first true c e = absurd cc

or-second : (b c : Bool) → (b || c) ≡ false → c ≡ false
or-second false c e = e
or-second true c e = absurd cc

-- one more that is new
pub repeats-more : (e ys : List (List ℕ)) (y : List ℕ) → repeats e ys ≡ false → has_field (e ++ ys) y ≡ false → repeats e (ys ++ y ∷ []) ≡ false
repeats-more e [] y h new = or-both (has_field e y) false (ap (λ (zs : List (List ℕ)). has_field zs y) (sym (append-nil e)) ∙ new) refl
repeats-more e (x ∷ xs) y h new =
    or-both (has_field e x) (repeats (e ++ x ∷ []) (xs ++ y ∷ [])) (or-first (has_field e x) (repeats (e ++ x ∷ []) xs) h)
    (repeats-more (e ++ x ∷ []) xs y (or-second (has_field e x) (repeats (e ++ x ∷ []) xs) h) (ap (λ (zs : List (List ℕ)). has_field zs y) (append_assoc e (x ∷ []) xs) ∙ new))

pub all-more : (ys : List (List ℕ)) (y : List ℕ) → list_all is_name ys ≡ true → is_name y ≡ true → list_all is_name (ys ++ y ∷ []) ≡ true
all-more [] y h e = rw e refl
all-more (x ∷ xs) y h e = by (is_name x) h (all-more xs y)
  where
    by : (b : Bool) → (b && list_all is_name xs) ≡ true → (list_all is_name xs ≡ true → is_name y ≡ true → list_all is_name (xs ++ y ∷ []) ≡ true) → (b && list_all is_name (xs ++ y ∷ [])) ≡ true
    by true g more = more g e
    by false g more = absurd cc

module _ (word : List ℕ) where
  and-false : (a b c : Bool) → a ≡ false → (a && (b && not c)) ≡ false
  and-false false b c e = refl
  and-false true b c e = absurd cc

  and-middle : (a b c : Bool) → b ≡ false → (a && (b && not c)) ≡ false
  and-middle false b c e = refl
  and-middle true false c e = refl
  and-middle true true c e = absurd cc

  and-last : (a b c : Bool) → c ≡ true → (a && (b && not c)) ≡ false
  and-last false b c e = refl
  and-last true false c e = refl
  and-last true true true e = refl
  and-last true true false e = absurd cc

  and-all : (a b c : Bool) → a ≡ true → b ≡ true → c ≡ false → (a && (b && not c)) ≡ true
  and-all true true false e f g = refl
  and-all false b c e f g = absurd cc
  and-all true false c e f g = absurd cc
  and-all true true true e f g = absurd cc

  too_many : (n : ℕ) → 16 < n → nat_le n 16 ≡ false
  too_many n more = by (nat_le n 16) refl
    where
      by : (b : Bool) → nat_le n 16 ≡ b → b ≡ false
      by true e = (let few = leb-true n 16 e in absurd (omega (arith, few, more)))
      by false e = refl

  pub keys-many : 16 < length (key_names word) → false ≡ are_keys word
  unfolding are_keys
  keys-many more = sym (and-false (nat_le (length (key_names word)) 16) (list_all is_name (key_names word)) (repeats [] (key_names word)) (too_many (length (key_names word)) more))

  pub keys-unnamed : list_all is_name (key_names word) ≡ false → false ≡ are_keys word
  unfolding are_keys
  keys-unnamed e = sym (and-middle (nat_le (length (key_names word)) 16) (list_all is_name (key_names word)) (repeats [] (key_names word)) e)

  pub keys-twice : repeats [] (key_names word) ≡ true → false ≡ are_keys word
  unfolding are_keys
  keys-twice e = sym (and-last (nat_le (length (key_names word)) 16) (list_all is_name (key_names word)) (repeats [] (key_names word)) e)

  pub keys-are : length (key_names word) ≤ 16 → list_all is_name (key_names word) ≡ true → repeats [] (key_names word) ≡ false → true ≡ are_keys word
  unfolding are_keys
  keys-are few named apart = sym (and-all (nat_le (length (key_names word)) 16) (list_all is_name (key_names word)) (repeats [] (key_names word)) (le-leb (length (key_names word)) 16 few) named apart)
