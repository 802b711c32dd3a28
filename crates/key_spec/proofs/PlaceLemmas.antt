-- The bytes of places compare as the places do, and each byte of a text can be moved up by two.
use Rattle.std.proofs.Common.{◌≡◌, ℕ, zero, suc, ◌+◌, ◌/◌, ◌%◌, ◌<◌, Bool, true, false, cond, ltb, ⊎_elim, List, [], ◌∷◌, ◌++◌, get_or, refl, ap, ap₂, sym, ◌∙◌, subst, arith, append_assoc, append-nil}
use Rattle.std.proofs.lemmas.Bool.Decides.{nat_tests}
use Rattle.std.specs.Cmp.{nat_cmp_is}
use Rattle.std.specs.Ordering.{nat_cmp, ordering_then}
use Rattle.std.specs.List.{AllByRecursion}
use Rattle.std.specs.Char.{encode_utf8}
use Rattle.std.specs.Str.{encode_utf8_all, IsUtf8}
use Rattle.std.proofs.Math.Utf8.{scalar, scalars, scalar_cases}
use Rattle.std.proofs.lemmas.Bool.{ltb-true, and_parts}
use Rattle.std.specs.declared.cmp.Ordering.{Ordering}
use Rattle.std.specs.declared.cmp.Ordering.TheVariants.{Less, Equal, Greater}
use Rattle.key_spec.specs.Data.{PlainRule}
use Rattle.key_spec.specs.Place.{lifted, context_bytes, place_bytes}
use Rattle.key_spec.specs.Rules.{name_cmp, path_cmp, rule_cmp}

then-Equal : (o : Ordering) → ordering_then o Equal ≡ o
then-Equal Less = refl
then-Equal Equal = refl
then-Equal Greater = refl

then_assoc : (o p q : Ordering) → ordering_then o (ordering_then p q) ≡ ordering_then (ordering_then o p) q
then_assoc Less p q = refl
then_assoc Equal p q = refl
then_assoc Greater p q = refl

nat_cmp-lifted : (a b : ℕ) → nat_cmp (a + 2) (b + 2) ≡ nat_cmp a b
nat_cmp-lifted a b = grind (arith, nat_tests)

-- what begins below every byte that was moved up, or is empty
abbrev StartsLow : List ℕ → Type 0
StartsLow [] = Unit {0}
StartsLow (x ∷ xs) = x < 2

lower : (x b : ℕ) → x < 2 → nat_cmp x (b + 2) ≡ Less
lower x b h = sym (nat_cmp_is x (b + 2) Less (omega arith))

higher : (x b : ℕ) → x < 2 → nat_cmp (b + 2) x ≡ Greater
higher x b h = sym (nat_cmp_is (b + 2) x Greater (omega arith))

lifted-cmp : (a b xs ys : List ℕ) → StartsLow xs → StartsLow ys → name_cmp (lifted a ++ xs) (lifted b ++ ys) ≡ ordering_then (name_cmp a b) (name_cmp xs ys)
lifted-cmp [] [] xs ys p q = refl
lifted-cmp [] (b ∷ bs) [] ys p q = refl
lifted-cmp [] (b ∷ bs) (x ∷ xs) ys p q = ap (λ o. ordering_then o (name_cmp xs (lifted bs ++ ys))) (lower x b p)
lifted-cmp (a ∷ as') [] xs [] p q = refl
lifted-cmp (a ∷ as') [] xs (y ∷ ys) p q = ap (λ o. ordering_then o (name_cmp (lifted as' ++ xs) ys)) (higher y a q)
lifted-cmp (a ∷ as') (b ∷ bs) xs ys p q =
    ap₂ ordering_then (nat_cmp-lifted a b) (lifted-cmp as' bs xs ys p q) ∙ then_assoc (nat_cmp a b) (name_cmp as' bs) (name_cmp xs ys)

starts_low : (names : List (List ℕ)) (tag : List ℕ) → StartsLow (context_bytes names ++ 0 ∷ tag)
starts_low [] tag = omega arith
starts_low (n ∷ ns) tag = omega arith

context-cmp : (c d : List (List ℕ)) (xs ys : List ℕ) → name_cmp (context_bytes c ++ 0 ∷ xs) (context_bytes d ++ 0 ∷ ys) ≡ ordering_then (path_cmp c d) (name_cmp xs ys)
context-cmp [] [] xs ys = refl
context-cmp [] (m ∷ ms) xs ys = refl
context-cmp (n ∷ ns) [] xs ys = refl
context-cmp (n ∷ ns) (m ∷ ms) xs ys =
    ap₂ name_cmp (append_assoc (lifted n) (context_bytes ns) (0 ∷ xs)) (append_assoc (lifted m) (context_bytes ms) (0 ∷ ys))
    ∙ lifted-cmp n m (context_bytes ns ++ 0 ∷ xs) (context_bytes ms ++ 0 ∷ ys) (starts_low ns xs) (starts_low ms ys)
    ∙ ap (ordering_then (name_cmp n m)) (context-cmp ns ms xs ys)
    ∙ then_assoc (name_cmp n m) (path_cmp ns ms) (name_cmp xs ys)

tag-cmp : (a b : List ℕ) → name_cmp (lifted a) (lifted b) ≡ name_cmp a b
tag-cmp a b = ap₂ name_cmp (sym (append-nil (lifted a))) (sym (append-nil (lifted b))) ∙ lifted-cmp a b [] [] tt tt ∙ then-Equal (name_cmp a b)

-- the bytes of places compare as rules do
pub place_bytes-cmp : (r s : PlainRule) → name_cmp (place_bytes r) (place_bytes s) ≡ rule_cmp r s
place_bytes-cmp r s = context-cmp r.context s.context (lifted r.tag) (lifted s.tag) ∙ ap (ordering_then (path_cmp r.context s.context)) (tag-cmp r.tag s.tag)

-- ---- the bytes of a text

all-append : (xs ys : List ℕ) → AllByRecursion (λ b. b < 254) xs → AllByRecursion (λ b. b < 254) ys → AllByRecursion (λ b. b < 254) (xs ++ ys)
all-append [] ys p q = q
all-append (x ∷ xs) ys p q = (p.0, all-append xs ys p.1 q)

small_encode : (c : ℕ) → c < 1114112 → AllByRecursion (λ b. b < 254) (encode_utf8 c)
unfolding encode_utf8
small_encode c h = at (ltb c 128) refl (ltb c 2048) refl (ltb c 65536) refl
  where
    at : (x : Bool) → ltb c 128 ≡ x → (y : Bool) → ltb c 2048 ≡ y → (z : Bool) → ltb c 65536 ≡ z
        → AllByRecursion (λ b. b < 254)
        (cond x (c ∷ []) (cond y ((192 + c / 64) ∷ (128 + c % 64) ∷ []) (cond z ((224 + c / 4096) ∷ (128 + c / 64 % 64) ∷ (128 + c % 64) ∷ [])
        ((240 + c / 262144) ∷ (128 + c / 4096 % 64) ∷ (128 + c / 64 % 64) ∷ (128 + c % 64) ∷ []))))
    at true e y f z g = let low : c < 128 = ltb-true c 128 e in (omega arith, tt)
    at false e true f z g = let low : c < 2048 = ltb-true c 2048 f in (omega arith, (omega arith, tt))
    at false e false f true g = let low : c < 65536 = ltb-true c 65536 g in (omega arith, (omega arith, (omega arith, tt)))
    at false e false f false g = (omega arith, (omega arith, (omega arith, (omega arith, tt))))

scalar_small : (c : ℕ) → scalar c ≡ true → c < 1114112
scalar_small c e = ⊎_elim (λ low. omega arith) (λ high. high.1) (scalar_cases c e)

small_encodes : (cs : List ℕ) → scalars cs ≡ true → AllByRecursion (λ b. b < 254) (encode_utf8_all cs)
small_encodes [] e = tt
small_encodes (c ∷ cs) e =
    let both = and_parts (scalar c) (scalars cs) e in
    all-append (encode_utf8 c) (encode_utf8_all cs) (small_encode c (scalar_small c both.0)) (small_encodes cs both.1)

small_at : (bs : List ℕ) (i : ℕ) → AllByRecursion (λ b. b < 254) bs → get_or bs i 0 < 254
small_at [] i all = omega arith
small_at (b ∷ bs) zero all = all.0
small_at (b ∷ bs) (suc i) all = small_at bs i all.1

-- no byte of a text is among the last two
pub byte_small : (bs : List ℕ) (i : ℕ) → IsUtf8 bs → get_or bs i 0 < 254
byte_small bs i u = small_at bs i (subst (AllByRecursion (λ b. b < 254)) u.1.1 (small_encodes u.0 u.1.0))
