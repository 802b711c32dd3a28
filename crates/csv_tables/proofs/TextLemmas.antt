-- Texts that are the same, by their bytes and by their order.
use Rattle.std.proofs.Common.{◌≡◌, ℕ, Bool, true, false, List, refl, ap, sym, ◌∙◌, bytes_eq}
use Rattle.std.proofs.lemmas.Bool.{false_from_ne_true}
use Rattle.std.proofs.lemmas.Map.Text.{is_eq-slice_cmp}
use Rattle.std.proofs.lemmas.Slice.Eq.{bytes_eq-Decides}
use Rattle.std.specs.Ordering.{is_eq}
use Rattle.std.specs.declared.cmp.Ordering.TheVariants.{Equal}
use Rattle.jsonml_tree.specs.Order.{text_cmp}

pub bytes-same : (a b : List ℕ) → bytes_eq a b ≡ true → a ≡ b
bytes-same a b e = (bytes_eq-Decides a b).0 e

pub same-bytes : (a b : List ℕ) → a ≡ b → bytes_eq a b ≡ true
same-bytes a b e = (bytes_eq-Decides a b).1 e

pub cmp-same : (a b : List ℕ) → text_cmp a b ≡ Equal → a ≡ b
cmp-same a b e = bytes-same a b (sym (is_eq-slice_cmp a b) ∙ ap is_eq e)

no : false ≡ true → ⊥
no h = cc

pub bytes-turn : (a b : List ℕ) → bytes_eq a b ≡ bytes_eq b a
bytes-turn a b = at (bytes_eq a b) (bytes_eq b a) refl refl
  where
    at : (p q : Bool) → bytes_eq a b ≡ p → bytes_eq b a ≡ q → p ≡ q
    at true q e f = sym (same-bytes b a (sym (bytes-same a b e))) ∙ f
    at false q e f = sym (false_from_ne_true q (λ g. no (sym e ∙ same-bytes a b (sym (bytes-same b a (f ∙ g))))))
