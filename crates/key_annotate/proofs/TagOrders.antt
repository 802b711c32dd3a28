-- Tags without key values, in the order of labels.
use Rattle.std.proofs.Common.{◌≡◌, ◌≢◌, ℕ, ◌==◌, Bool, true, false, eqb-true, List, [], ◌∷◌, length, map, refl, sym, ap, ap₂, ◌∙◌}
use Rattle.std.specs.Cmp.Lexicographic.{slice_cmp}
use Rattle.std.specs.Ordering.{nat_cmp, ordering_then, ordering_reverse}
use Rattle.std.specs.declared.cmp.Ordering.{Ordering}
use Rattle.std.specs.declared.cmp.Ordering.TheVariants.{Less, Equal, Greater}
use Rattle.jsonml_tree.specs.Laws.{then-Equal}
use Rattle.keyed_tree.specs.Data.{PlainKey, PlainLabel, PlainName, attr, name_bytes, tag}
use Rattle.keyed_tree.specs.Laws.{label_cmp_total}
use Rattle.keyed_tree.specs.Order.{key_cmp, label_cmp, name_cmp}
use Rattle.keyed_tree.specs.Proper.{is_tag}
use Rattle.key_annotate.specs.LabelView.{label_of_tag}

name-tag : (n : PlainName) (s t : List ℕ) → is_tag n ≡ true → s ≡ name_bytes n → slice_cmp nat_cmp s t ≡ name_cmp n (tag t)
name-tag (attr r) s t h e = cc
name-tag (tag r) s t h e = ap (λ s. slice_cmp nat_cmp s t) e

-- key values stand above none, where there are some
pub above-none : {X : Type 0} (view : X → PlainKey) (xs : List X) (b : Bool) → b ≡ (length xs == 0) → b ≡ false → Greater ≡ slice_cmp key_cmp (map view xs) []
above-none view [] b e f = cc
above-none view (x ∷ xs) b e f = refl

pub no-values : {X : Type 0} (view : X → PlainKey) (xs : List X) (ks : List PlainKey) (b : Bool) → b ≡ (length xs == 0) → b ≡ true → map view xs ≡ ks → ks ≡ []
no-values view [] ks b e f is = sym is
no-values view (x ∷ xs) ks b e f is = let some : length (x ∷ xs) ≡ 0 = eqb-true (length (x ∷ xs)) 0 (sym e ∙ f) in cc

-- a label that is named by a tag is compared by its bytes first
pub tag-first : (l : PlainLabel) (s t : List ℕ) → is_tag l.name ≡ true → s ≡ name_bytes l.name → ordering_then (slice_cmp nat_cmp s t) (slice_cmp key_cmp l.keys []) ≡ label_cmp l (label_of_tag t)
tag-first l s t h e = ap (λ o. ordering_then o (slice_cmp key_cmp l.keys [])) (name-tag l.name s t h e)

then-other : (o p : Ordering) → o ≢ Equal → o ≡ ordering_then o p
then-other Less p h = refl
then-other Equal p h = absurd (h refl)
then-other Greater p h = refl

pub tag-equal : (l : PlainLabel) (s t : List ℕ) (behind : Ordering) → is_tag l.name ≡ true → s ≡ name_bytes l.name → slice_cmp nat_cmp s t ≡ Equal → behind ≡ slice_cmp key_cmp l.keys []
    → behind ≡ label_cmp l (label_of_tag t)
tag-equal l s t behind h e same is = is ∙ sym (ap (λ o. ordering_then o (slice_cmp key_cmp l.keys [])) same) ∙ tag-first l s t h e

pub tag-other : (l : PlainLabel) (s t : List ℕ) (o : Ordering) → is_tag l.name ≡ true → s ≡ name_bytes l.name → o ≡ slice_cmp nat_cmp s t → o ≢ Equal → o ≡ label_cmp l (label_of_tag t)
tag-other l s t o h e is other = then-other o (slice_cmp key_cmp l.keys []) other ∙ ap (λ o. ordering_then o (slice_cmp key_cmp l.keys [])) is ∙ tag-first l s t h e

-- a label without key values that is named by a tag is that tag's
pub bare-label : (l : PlainLabel) (t : List ℕ) → is_tag l.name ≡ true → t ≡ name_bytes l.name → l.keys ≡ [] → label_of_tag t ≡ l
bare-label l t h e none = ap₂ label-with (bare-name l.name h e) (sym none)
  where
    label-with : PlainName → List PlainKey → PlainLabel
    label-with n ks = record { name = n; keys = ks }

    bare-name : (n : PlainName) → is_tag n ≡ true → t ≡ name_bytes n → tag t ≡ n
    bare-name (attr r) h e = cc
    bare-name (tag r) h e = ap tag e

-- two of these by their bytes, and one against a label the other way round
pub tags-first : (s t : List ℕ) → slice_cmp nat_cmp s t ≡ label_cmp (label_of_tag s) (label_of_tag t)
tags-first s t = sym (then-Equal (slice_cmp nat_cmp s t))

pub label-back : (k l : PlainLabel) → ordering_reverse (label_cmp k l) ≡ label_cmp l k
label-back k l = sym (label_cmp_total.antisymm l k)
