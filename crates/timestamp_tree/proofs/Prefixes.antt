-- Appending a prefix, step by step.
use Rattle.std.proofs.Common.{◌≡◌, ℕ, zero, suc, ◌+◌, List, [], ◌∷◌, ◌++◌, length, take, refl, sym, ap, ◌∙◌, append_assoc, arith}
use Rattle.std.proofs.lemmas.List.{append-nil}
use Rattle.timestamp_tree.specs.Prefix.{AppendsPrefix}

take_front : (n : ℕ) (a b : List ℕ) → take (length (take n a)) (a ++ b) ≡ take n a
take_front zero a b = refl
take_front (suc n) [] b = refl
take_front (suc n) (x ∷ a) b = ap (λ (r : List ℕ). x ∷ r) (take_front n a b)

take_past : (a b : List ℕ) (n m : ℕ) → m ≡ length a + n → take m (a ++ b) ≡ a ++ take n b
take_past [] b n m e = let f : m ≡ n = omega arith in ap (λ (k : ℕ). take k b) f
take_past (x ∷ a) b n zero e = absurd (omega arith)
take_past (x ∷ a) b n (suc m) e = let f : m ≡ length a + n = omega arith in ap (λ (r : List ℕ). x ∷ r) (take_past a b n m f)

pub prefix_none : (old all : List ℕ) → AppendsPrefix old old all
prefix_none old all = record { count = 0; is = sym (append-nil old) }

-- a prefix of the first part
pub prefix_left : (old new a b all : List ℕ) → all ≡ a ++ b → AppendsPrefix old new a → AppendsPrefix old new all
prefix_left old new a b all e h = record {
  count = length (take h.count a);
  is = h.is ∙ ap (λ (x : List ℕ). old ++ x) (sym (take_front h.count a b) ∙ ap (take (length (take h.count a))) (sym e));
}

-- the first part whole, and a prefix of the second
pub prefix_right : (old mid new a b all : List ℕ) → all ≡ a ++ b → mid ≡ old ++ a → AppendsPrefix mid new b → AppendsPrefix old new all
prefix_right old mid new a b all f e h = record {
  count = length a + h.count;
  is = h.is ∙ ap (λ (x : List ℕ). x ++ take h.count b) e ∙ append_assoc old a (take h.count b) ∙ ap (λ (x : List ℕ). old ++ x) (sym (take_past a b h.count (length a + h.count) refl) ∙ ap (take (length a + h.count)) (sym f));
}
