-- Numbers that the first bytes of texts spell compare as the texts do, where they differ.
use Rattle.std.proofs.Common.{◌≡◌, ◌≢◌, ℕ, zero, suc, ◌+◌, ◌*◌, ◌<◌, ◌≤◌, List, [], ◌∷◌, drop, get_or, refl, ap, sym, subst, ◌∙◌, arith}
use Rattle.std.proofs.lemmas.Cmp.{nat_list_cmp_total}
use Rattle.std.specs.Cmp.{ranks}
use Rattle.std.specs.Cmp.Lexicographic.{slice_cmp}
use Rattle.std.specs.Ordering.{nat_cmp, ordering_then, ordering_reverse, MatchOrdering}
use Rattle.std.specs.declared.cmp.Ordering.{Ordering}
use Rattle.std.specs.declared.cmp.Ordering.TheVariants.{Less, Equal, Greater}
use Rattle.key_annotate.specs.Front.{AreBytes, spelled}

-- ---- one byte on

pub step : (k a at : ℕ) (s : List ℕ) → spelled (suc k) a (drop at s) ≡ spelled k (a * 256 + get_or s at 0) (drop (suc at) s)
step k a zero [] = ap (λ b. spelled k b []) (omega arith)
step k a (suc at) [] = ap (λ b. spelled k b []) (omega arith)
step k a zero (x ∷ xs) = refl
step k a (suc at) (x ∷ xs) = step k a at xs

-- what so many bytes count to
abbrev pub power : ℕ → ℕ
power zero = 1
power (suc n) = 256 * power n

pub power-small : (k : ℕ) → k < 8 → power k ≤ 72057594037927936
power-small zero h = omega arith
power-small (suc zero) h = omega arith
power-small (suc (suc zero)) h = omega arith
power-small (suc (suc (suc zero))) h = omega arith
power-small (suc (suc (suc (suc zero)))) h = omega arith
power-small (suc (suc (suc (suc (suc zero))))) h = omega arith
power-small (suc (suc (suc (suc (suc (suc zero)))))) h = omega arith
power-small (suc (suc (suc (suc (suc (suc (suc zero))))))) h = omega arith
power-small (suc (suc (suc (suc (suc (suc (suc (suc k)))))))) h = absurd (omega arith)

-- ---- what differs first decides

least : (n a b : ℕ) (s : List ℕ) → a ≤ b → spelled n a [] ≤ spelled n b s
least zero a b s h = h
least (suc n) a b [] h = least n (a * 256) (b * 256) [] (omega arith)
least (suc n) a b (x ∷ xs) h = least n (a * 256) (b * 256 + x) xs (omega arith)

rises : (n a b : ℕ) (s t : List ℕ) → AreBytes s → a < b → spelled n a s < spelled n b t
rises zero a b s t h l = l
rises (suc n) a b [] [] h l = rises n (a * 256) (b * 256) [] [] h (omega arith)
rises (suc n) a b [] (v ∷ vs) h l = rises n (a * 256) (b * 256 + v) [] vs h (omega arith)
rises (suc n) a b (u ∷ us) [] h l = let small : u < 256 = h 0 in rises n (a * 256 + u) (b * 256) us [] (λ i. h (suc i)) (omega arith)
rises (suc n) a b (u ∷ us) (v ∷ vs) h l = let small : u < 256 = h 0 in rises n (a * 256 + u) (b * 256 + v) us vs (λ i. h (suc i)) (omega arith)

-- by the first bytes of two texts, and by what is left of them
by_heads : (u v : ℕ) (us vs : List ℕ) → (u ≡ v → slice_cmp nat_cmp us vs ≡ Less) → (v < u → Less ≡ slice_cmp nat_cmp (u ∷ us) (v ∷ vs)) → slice_cmp nat_cmp (u ∷ us) (v ∷ vs) ≡ Less
by_heads u v us vs same over = cases (nat_cmp u v) refl (ranks u v)
  where
    cases : (r : Ordering) → nat_cmp u v ≡ r → MatchOrdering r (u < v) (u ≡ v) (v < u) → slice_cmp nat_cmp (u ∷ us) (v ∷ vs) ≡ Less
    cases Less e m = ap (λ r. ordering_then r (slice_cmp nat_cmp us vs)) e
    cases Equal e m = ap (λ r. ordering_then r (slice_cmp nat_cmp us vs)) e ∙ same m
    cases Greater e m = sym (over m)

pub less : (n a : ℕ) (s t : List ℕ) → AreBytes t → spelled n a s < spelled n a t → slice_cmp nat_cmp s t ≡ Less
less zero a s t h l = absurd (omega arith)
less (suc n) a [] [] h l = absurd (omega arith)
less (suc n) a [] (v ∷ vs) h l = refl
less (suc n) a (u ∷ us) [] h l = let low = least n (a * 256) (a * 256 + u) us (omega arith) in absurd (omega arith)
less (suc n) a (u ∷ us) (v ∷ vs) h l =
    by_heads u v us vs (λ e. less n (a * 256 + v) us vs (λ i. h (suc i)) (subst (λ w. spelled n (a * 256 + w) us < spelled n (a * 256 + v) vs) e l))
    (λ g. let up = rises n (a * 256 + v) (a * 256 + u) vs us (λ i. h (suc i)) (omega arith) in absurd (omega arith))

-- the same of the bytes behind those that spell the same
pub less-behind : (n m a : ℕ) (s t : List ℕ) → AreBytes t → spelled n a s ≡ spelled n a t → spelled m 0 (drop n s) < spelled m 0 (drop n t) → slice_cmp nat_cmp s t ≡ Less
less-behind zero m a s t h e l = less m 0 s t h l
less-behind (suc n) m a [] [] h e l = absurd (omega arith)
less-behind (suc n) m a [] (v ∷ vs) h e l = refl
less-behind (suc n) m a (u ∷ us) [] h e l = let low = least m 0 0 (drop n us) (omega arith) in absurd (omega arith)
less-behind (suc n) m a (u ∷ us) (v ∷ vs) h e l =
    by_heads u v us vs (λ d. less-behind n m (a * 256 + v) us vs (λ i. h (suc i)) (subst (λ w. spelled n (a * 256 + w) us ≡ spelled n (a * 256 + v) vs) d e) l)
    (λ g. let up = rises n (a * 256 + v) (a * 256 + u) vs us (λ i. h (suc i)) (omega arith) in absurd (omega arith))

-- numbers that differ compare as the texts do, where the lesser is that of the text before
pub settles : (x y : ℕ) (s t : List ℕ) → x ≢ y → (x < y → slice_cmp nat_cmp s t ≡ Less) → (y < x → slice_cmp nat_cmp t s ≡ Less) → nat_cmp x y ≡ slice_cmp nat_cmp s t
settles x y s t other up down = cases (nat_cmp x y) refl (ranks x y)
  where
    cases : (r : Ordering) → nat_cmp x y ≡ r → MatchOrdering r (x < y) (x ≡ y) (y < x) → nat_cmp x y ≡ slice_cmp nat_cmp s t
    cases Less e m = e ∙ sym (up m)
    cases Equal e m = absurd (other m)
    cases Greater e m = e ∙ sym (nat_list_cmp_total.antisymm s t ∙ ap ordering_reverse (down m))
