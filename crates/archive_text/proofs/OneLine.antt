-- Lines with the same text are the same.
use Rattle.std.proofs.Common.{◌≡◌, ℕ, List, [], ◌∷◌, ◌++◌, Some, option_and_then, refl, sym, ap, ap₂, ◌∙◌, append_assoc}
use Rattle.std.specs.List.{AllByRecursion}
use Rattle.serde_json.specs.Read.{read}
use Rattle.jsonml_lines.specs.Lines.{PlainLine, front_text, line_text}
use Rattle.jsonml_lines.specs.Read.{line_in}
use Rattle.jsonml_lines.specs.RoundTrip.{IsLine, ReadsBack}
use Rattle.archive_text.specs.Export.{lines_text}
use Rattle.archive_text.proofs.Cuts.{cut}

-- what is known of printed lines
abbrev pub LinesReadBack : Type 0
LinesReadBack = (l : PlainLine) → IsLine l → ReadsBack l

line_is : (l m : PlainLine) → Some l ≡ Some m → l ≡ m
line_is l m e = cc

feed_on : (l : PlainLine) (rest : List ℕ) → line_text l ++ rest ≡ front_text l ++ 10 ∷ rest
feed_on l rest = append_assoc (front_text l) (10 ∷ []) rest

one_line : LinesReadBack → (l m : PlainLine) (r s : List ℕ) → IsLine l → IsLine m → line_text l ++ r ≡ line_text m ++ s → (l ≡ m) × (r ≡ s)
one_line back l m r s h k e =
    let own = back l h in
    let other = back m k in
    let parts = cut 10 (front_text l) (front_text m) r s (record { is = own.unbroken }) (record { is = other.unbroken }) (sym (feed_on l r) ∙ e ∙ feed_on m s) in
    (line_is l m (sym own.value ∙ ap (λ t. option_and_then line_in (read t)) parts.0 ∙ other.value), parts.1)

pub same_lines : LinesReadBack → (ls ms : List PlainLine) → AllByRecursion IsLine ls → AllByRecursion IsLine ms → lines_text ls ≡ lines_text ms → ls ≡ ms
same_lines back [] [] h k e = refl
same_lines back [] (m ∷ ms) h k e = absurd (cc)
same_lines back (l ∷ ls) [] h k e = absurd (cc)
same_lines back (l ∷ ls) (m ∷ ms) h k e =
    let parts = one_line back l m (lines_text ls) (lines_text ms) h.0 k.0 e in
    ap₂ (λ a b. a ∷ b) parts.0 (same_lines back ls ms h.1 k.1 parts.1)
