-- Marks that grow.
use Rattle.std.proofs.Common.{◌≡◌, ℕ, ◌+◌, ◌<◌, Bool, true, false, cond, true≢false, Option, Some, None, is_some, option_map, List, [], ◌∷◌, ◌++◌, map, flat_map, length, take, get_or, refl, ap, sym, subst, ◌∙◌, String, Global, string_bytes}
use Rattle.std.proofs.lemmas.List.{map-append, append-nil}
use Rattle.std.proofs.lemmas.Grind.{flat_map-append}
use Rattle.key_spec.specs.Data.{PlainRule}
use Rattle.key_spec.specs.Marks.{HoldMarks, AddMarks}
use Rattle.key_spec.specs.Texts.{TextSet, Holds, Adds, target_text, implied_texts, end_texts}
use Rattle.key_spec.specs.declared.closing.Marks.{Marks}
use Rattle.key_spec.proofs.Steps.{flat_map-take}
use Rattle.key_spec.proofs.TextLemmas.{Holds-Adds, Adds-append}

-- a set that takes in the texts of one element after the other
pub Adds-more : {X Y : Type 0} (g : Y → List (List ℕ)) (f : X → Y) (xs : List X) (i : ℕ) (x : X) (old mid new : TextSet) → i < length xs → x ≡ get_or xs i x
    → Adds old mid (flat_map g (map f (take i xs))) → Adds mid new (g (f x)) → Adds old new (flat_map g (map f (take (i + 1) xs)))
Adds-more g f xs i x old mid new here is all one =
    subst (λ ts. Adds old new ts) (sym (flat_map-take g f xs i x here is)) (Adds-append old mid new (flat_map g (map f (take i xs))) (g (f x)) all one)

-- a key path with an attribute has no end, and another one has
pub no-end : (attr : Option (String Global)) (some : Bool) (end : List (List ℕ)) → some ≡ is_some attr → some ≡ true → cond (is_some (option_map string_bytes attr)) [] end ≡ []
no-end None some end e h = absurd (true≢false (sym h ∙ e))
no-end (Some name) some end e h = refl

pub one-end : (attr : Option (String Global)) (some : Bool) (end : List (List ℕ)) → some ≡ is_some attr → some ≡ false → cond (is_some (option_map string_bytes attr)) [] end ≡ end
one-end None some end e h = refl
one-end (Some name) some end e h = absurd (true≢false (sym e ∙ h))

joined : (g : PlainRule → List (List ℕ)) (rules : List PlainRule) (r : PlainRule) → flat_map g rules ++ g r ≡ flat_map g (rules ++ r ∷ [])
joined g rules r = ap (λ ts. flat_map g rules ++ ts) (sym (append-nil (g r))) ∙ sym (flat_map-append g rules (r ∷ []))

-- one rule more
pub HoldMarks-more : (old new : Marks) (rules : List PlainRule) (r : PlainRule) → HoldMarks old rules → AddMarks old new (target_text r ∷ []) (implied_texts r) (end_texts r) → HoldMarks new (rules ++ r ∷ [])
HoldMarks-more old new rules r h a = record {
  given = subst (λ ts. Holds new.given ts) (sym (map-append target_text rules (r ∷ []))) (Holds-Adds old.given new.given _ _ h.given a.given);
  implied = subst (λ ts. Holds new.implied ts) (joined implied_texts rules r) (Holds-Adds old.implied new.implied _ _ h.implied a.implied);
  ends = subst (λ ts. Holds new.ends ts) (joined end_texts rules r) (Holds-Adds old.ends new.ends _ _ h.ends a.ends);
}
