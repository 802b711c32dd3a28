-- Lists of versions with one more behind.
use Rattle.std.proofs.Common.{inl, inr, List, [], ◌∷◌, ◌++◌, refl}
use Rattle.std.specs.List.{AllByRecursion}
use Rattle.keyed_tree.specs.Data.{PlainKeyed}
use Rattle.keyed_tree.specs.Lists.{Has}

pub has_front : (xs : List PlainKeyed) (x v : PlainKeyed) → Has v xs → Has v (xs ++ x ∷ [])
has_front [] x v m = absurd m
has_front (y ∷ ys) x v m = elim m [ inl e ↦ inl e | inr i ↦ inr (has_front ys x v i) ]

pub has_last : (xs : List PlainKeyed) (x : PlainKeyed) → Has x (xs ++ x ∷ [])
has_last [] x = inl refl
has_last (y ∷ ys) x = inr (has_last ys x)

-- what holds of all of them and of one more
pub all_behind : (P : PlainKeyed → Type 0) (xs : List PlainKeyed) (x : PlainKeyed) → AllByRecursion P xs → P x → AllByRecursion P (xs ++ x ∷ [])
all_behind P [] x h p = (p, tt)
all_behind P (y ∷ ys) x h p = (h.0, all_behind P ys x h.1 p)
