-- How a text is cut into lines.
use Rattle.std.proofs.Common.{◌≡◌, ℕ, ◌<◌, ◌≤◌, Bool, true, false, cond, List, [], ◌∷◌, length, map, refl, ap, ◌∙◌, arith, eqb}
use Rattle.std.proofs.lemmas.Bool.{cond-false, ne_eqb}
use Rattle.std.proofs.lemmas.List.Splits.{slice_split_first, slice_split_none}
use Rattle.std.proofs.lemmas.List.Sums.{fails_before_first}
use Rattle.std.specs.List.{slice_split, onto_first, position_or_len, before_first, after_first}
use Rattle.std.specs.Str.Lines.{strip_carriage_return}
use Rattle.key_spec.specs.Lines.{lines, filled}

-- a list is cut into one part at least
pub slice_split-cons : {X : Type 0} (p : X → Bool) (xs : List X) → (part : List X) × (parts : List (List X)) × (slice_split p xs ≡ part ∷ parts)
slice_split-cons p [] = ([], [], refl)
slice_split-cons {X} p (x ∷ xs) = elim (p x) as (λ b. (part : List X) × (parts : List (List X)) × (cond b ([] ∷ slice_split p xs) (onto_first x (slice_split p xs)) ≡ part ∷ parts)) [
  | true ↦ ([], slice_split p xs, refl)
  | false ↦ let rest = slice_split-cons p xs in (x ∷ rest.0, rest.1, ap (onto_first x) rest.2)
]

pub filled-cons : (part : List ℕ) (parts : List (List ℕ)) (first : List ℕ) (more : List (List ℕ)) → parts ≡ first ∷ more → filled (part ∷ parts) ≡ part ∷ filled parts
filled-cons part [] first more e = cc
filled-cons part (x ∷ xs) first more e = refl

abbrev at_feed : ℕ → Bool
at_feed b = eqb b 10

-- the first line ends at the first line feed
pub lines-first : (text : List ℕ) → position_or_len at_feed text < length text → lines text ≡ strip_carriage_return (before_first at_feed text) ∷ lines (after_first at_feed text)
lines-first text h =
    let cut = slice_split_first at_feed text 0 h in
    let some = slice_split-cons at_feed (after_first at_feed text) in
    ap (λ parts. map strip_carriage_return (filled parts)) cut ∙ ap (map strip_carriage_return) (filled-cons (before_first at_feed text) (slice_split at_feed (after_first at_feed text)) some.0 some.1 some.2)

-- without a line feed all is one line
pub lines-last : (text : List ℕ) → 0 < length text → length text ≤ position_or_len at_feed text → lines text ≡ strip_carriage_return text ∷ []
lines-last text some h =
    let whole = slice_split_none at_feed text (λ k d l. fails_before_first at_feed text k d (omega arith)) in
    ap (λ parts. map strip_carriage_return (filled parts)) whole ∙ ap (map strip_carriage_return) (cond-false (eqb (length text) 0) [] (text ∷ []) (ne_eqb (length text) 0 (λ e. omega arith)))
