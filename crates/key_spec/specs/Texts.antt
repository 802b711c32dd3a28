-- The texts of paths, and sets of them, as the second pass over a specification keeps them.
use Rattle.std.specs.Prelude.{◌≡◌, ℕ, Bool, not, ◌&&◌, ◌||◌, List, [], ◌∷◌, ◌++◌, length, Option, Some, None, is_some, if◌then◌else◌, nat_lt, flat_map, codes, bytes_eq, String}
use Rattle.std.specs.List.{list_any}
use Rattle.std.specs.BTreeSet.{BTreeSet, contains_text}
use Rattle.std.specs.declared.alloc.Global.{Global}
use Rattle.key_spec.specs.Data.{PlainPath, PlainRule}
use Rattle.key_spec.specs.Names.{slashed}

-- ---- sets of texts

-- some text of the list is this one
abbrev pub has_text : List (List ℕ) → List ℕ → Bool
has_text texts text = list_any (bytes_eq text) texts

abbrev pub TextSet : Type 0
TextSet = BTreeSet (String Global)

-- the set has these texts and no other
abbrev pub Holds : TextSet → List (List ℕ) → Type 0
Holds set texts = (q : List ℕ) → contains_text set q ≡ has_text texts q

-- the new set has these texts besides those of the old one
abbrev pub Adds : TextSet → TextSet → List (List ℕ) → Type 0
Adds old new texts = (q : List ℕ) → contains_text new q ≡ (contains_text old q || has_text texts q)

-- ---- the texts of paths

-- a step further down
abbrev pub step_text : List ℕ → List ℕ → List ℕ
step_text text tag = text ++ (codes "/" ++ tag)

abbrev pub target_text : PlainRule → List ℕ
target_text rule = step_text (slashed rule.context) rule.tag

-- the elements on the way through the tags, without the one at which the way begins
abbrev pub texts_along : List ℕ → List (List ℕ) → List (List ℕ)
texts_along text [] = []
texts_along text (tag ∷ tags) = step_text text tag ∷ texts_along (step_text text tag) tags

-- the contexts on the way through the tags: where it begins, and each element but the last
abbrev pub contexts_along : List ℕ → List (List ℕ) → List (List ℕ)
contexts_along text [] = []
contexts_along text (tag ∷ tags) = text ∷ contexts_along (step_text text tag) tags

-- the targets of the implied rules
abbrev pub implied_texts : PlainRule → List (List ℕ)
implied_texts rule = flat_map (λ (path : PlainPath). texts_along (target_text rule) path.tags) rule.paths

-- the element at the end of a key path without an attribute
abbrev pub end_text : List ℕ → PlainPath → List (List ℕ)
end_text target path = if is_some path.attr then [] else (target ++ slashed path.tags) ∷ []

abbrev pub end_texts : PlainRule → List (List ℕ)
end_texts rule = flat_map (end_text (target_text rule)) rule.paths

-- ---- the second pass on texts

abbrev pub text_lacks_context : TextSet → TextSet → PlainRule → Bool
text_lacks_context given implied rule =
    nat_lt 0 (length rule.context) && not (contains_text given (slashed rule.context) || contains_text implied (slashed rule.context))

abbrev pub text_passes_end : TextSet → PlainRule → Bool
text_passes_end ends rule =
    contains_text ends (slashed rule.context) || list_any (λ (path : PlainPath). list_any (contains_text ends) (contexts_along (target_text rule) path.tags)) rule.paths

abbrev pub text_why : TextSet → TextSet → TextSet → TextSet → PlainRule → Option ℕ
text_why given implied ends earlier rule =
    if text_lacks_context given implied rule then Some 2 else
    (if contains_text earlier (target_text rule) then Some 3 else
    (if nat_lt 0 (length rule.paths) && contains_text implied (target_text rule) then Some 5 else
    (if text_passes_end ends rule then Some 6 else None)))
