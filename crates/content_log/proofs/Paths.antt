-- The last label of a path.
use Rattle.std.proofs.Common.{◌≡◌, ℕ, suc, ◌-◌, Bool, List, [], ◌∷◌, map, length, Some, None, Result, refl, ap, subst, ◌∙◌, arith}
use Rattle.std.specs.Prelude.{IfOk, slice_get}
use Rattle.key_spec.specs.Data.{PlainRule}
use Rattle.keyed_tree.specs.Data.{name_bytes}
use Rattle.keyed_tree.specs.View.{label_view, name_view}
use Rattle.keyed_tree.specs.declared.label.Label.{Label}
use Rattle.content_log.specs.Frontier.{ends, ends_by}
use Rattle.content_log.specs.Text.{last_name}

-- the last of a list is the last behind its first
behind : (l m x : Label) (ls : List Label) → Some x ≡ slice_get (l ∷ m ∷ ls) (length (l ∷ m ∷ ls) - 1) → Some x ≡ slice_get (m ∷ ls) (length (m ∷ ls) - 1)
behind l m x ls e = (let k : length (l ∷ m ∷ ls) - 1 ≡ suc (length (m ∷ ls) - 1) = omega arith in e ∙ ap (slice_get (l ∷ m ∷ ls)) k)

last-is : (x l : Label) → Some x ≡ Some l → x ≡ l
last-is x l e = cc

pub last-named : (path : List Label) (x : Label) → Some x ≡ slice_get path (length path - 1) → name_bytes (name_view x.name) ≡ last_name (map label_view path)
last-named [] x e = absurd cc
last-named (l ∷ []) x e = ap (λ (y : Label). name_bytes (name_view y.name)) (last-is x l e)
last-named (l ∷ m ∷ ls) x e = last-named (m ∷ ls) x (behind l m x ls e)

pub last-ends : (rules : List PlainRule) (context : List (List ℕ)) (path : List Label) (x : Label) → Some x ≡ slice_get path (length path - 1) → ends_by rules context (name_view x.name) ≡ ends rules context (map label_view path)
last-ends rules context [] x e = absurd cc
last-ends rules context (l ∷ []) x e = ap (λ (y : Label). ends_by rules context (name_view y.name)) (last-is x l e)
last-ends rules context (l ∷ m ∷ ls) x e = last-ends rules context (m ∷ ls) x (behind l m x ls e)

pub none-last : (path : List Label) → None ≡ slice_get path (length path - 1) → path ≡ []
none-last [] e = refl
none-last (l ∷ []) e = absurd cc
none-last (l ∷ m ∷ ls) e = absurd (some-rest m ls (let k : length (l ∷ m ∷ ls) - 1 ≡ suc (length (m ∷ ls) - 1) = omega arith in e ∙ ap (slice_get (l ∷ m ∷ ls)) k))
  where
    some-rest : (m : Label) (ls : List Label) → ¬ (None ≡ slice_get (m ∷ ls) (length (m ∷ ls) - 1))
    some-rest m [] f = cc
    some-rest m (n ∷ ls) f = some-rest n ls (let k : length (m ∷ n ∷ ls) - 1 ≡ suc (length (n ∷ ls) - 1) = omega arith in f ∙ ap (slice_get (m ∷ n ∷ ls)) k)

pub answer-as : {E : Type 0} (r : Result Bool E) (a b : Bool) → a ≡ b → IfOk r (λ x. x ≡ a) → IfOk r (λ x. x ≡ b)
answer-as r a b e h = subst (λ (z : Bool). IfOk r (λ x. x ≡ z)) e h
