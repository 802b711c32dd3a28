-- What the end of some bytes says of their parts.
use Rattle.std.proofs.Common.{◌≡◌, ℕ, ◌+◌, ◌-◌, ◌<◌, ◌≤◌, true, false, leb, List, [], ◌++◌, length, take, drop, Option, Some, None, Result, refl, sym, ap, subst, ◌∙◌, arith, length-take-le, take_all}
use Rattle.std.specs.Prelude.{min}
use Rattle.std.specs.FinMap as map
use Rattle.std.specs.Int.{w64}
use Rattle.std.specs.Str.{bytes_eq}
use Rattle.std.proofs.lemmas.Bool.{le-leb, lt-leb}
use Rattle.std.proofs.lemmas.List.{append-nil, drop-drop, drop-take, length-append, length-drop, length-take, nil_from_length, take-append-drop}
use Rattle.std.proofs.lemmas.Slice.Eq.{bytes_eq-Decides}
use Rattle.xa_fields.specs.Spelling.{u64_bytes}
use Rattle.xa_fields.specs.Reading.{number_at}
use Rattle.xa_fields.specs.Laws.{IsBytes}
use Rattle.xa_fields.proofs.Fields.{IsBytes-take, u64_reads}
use Rattle.xa_outside.specs.Folder.{Files, bytes_or_none, front, FillsFrom}
use Rattle.version_notes.specs.Notes.{mark, ending}
use Rattle.version_notes.specs.Parts.{last, all_but, is_marked, no_notes, with_notes, parts_in, parts_of_front, TellsParts}
use Rattle.version_notes.specs.declared.parts.Parts.{Parts}
use Rattle.version_notes.specs.declared.fault.PartsFault.{PartsFault}

-- a number and the mark are what such bytes are
pub ending_spelled : (end rest : List ℕ) (n : ℕ) → IsBytes end → length end ≤ 16 → bytes_eq mark (drop (length end - 8) end) ≡ true → number_at w64 (take (length end - 8) end) ≡ Some (n, rest) → end ≡ ending n
ending_spelled end rest n fits few marked number =
    let front = take (length end - 8) end in
    let parts = (u64_reads.takes front (n, rest) (IsBytes-take (length end - 8) end fits) number).takes.parts in
    let none : rest ≡ [] = nil_from_length rest (omega (arith, few, ap length parts, length-append (u64_bytes n) rest, length-take (length end - 8) end)) in
    let first : front ≡ u64_bytes n = parts ∙ ap (λ (l : List ℕ). u64_bytes n ++ l) none ∙ append-nil (u64_bytes n) in
    let last_is : drop (length end - 8) end ≡ mark = sym ((bytes_eq-Decides mark (drop (length end - 8) end)).0 marked) in
    sym (take-append-drop (length end - 8) end) ∙ (λ i. first i ++ last_is i)

module _ (bytes end : List ℕ) (is : end ≡ last 16 bytes) where
  size : length end ≡ length bytes - (length bytes - 16)
  size = ap length is ∙ length-drop (length bytes - 16) bytes

  -- the last eight bytes
  pub last_eight : drop (length end - 8) end ≡ last 8 bytes
  last_eight = ap (drop (length end - 8)) is ∙ drop-drop (length end - 8) (length bytes - 16) bytes ∙ ap (λ (k : ℕ). drop k bytes) (omega (arith, size))

  -- the eight before them
  pub eight_before : last 8 (all_but 8 bytes) ≡ take (length end - 8) end
  eight_before =
      let n = length end - 8 in
      let upto : length bytes - 8 ≡ (length bytes - 16) + n = omega (arith, size) in
      let from : length (all_but 8 bytes) - 8 ≡ length bytes - 16 = omega (arith, length-take (length bytes - 8) bytes) in
      (λ i. drop (from i) (take (upto i) bytes)) ∙ drop-take (length bytes - 16) n bytes ∙ ap (take n) (sym is)

  marked : bytes_eq mark (drop (length end - 8) end) ≡ true → is_marked bytes ≡ true
  marked e = ap (bytes_eq mark) (sym last_eight) ∙ e

  pub parts_unmarked : bytes_eq mark (drop (length end - 8) end) ≡ false → parts_in bytes ≡ Some (no_notes (length bytes))
  parts_unmarked e =
      let none : is_marked bytes ≡ false = ap (bytes_eq mark) (sym last_eight) ∙ e in
      rw none refl

  -- no number, or one that is too great
  pub parts_none : bytes_eq mark (drop (length end - 8) end) ≡ true → number_at w64 (take (length end - 8) end) ≡ None → parts_in bytes ≡ None
  parts_none e none =
      let is_there = marked e in
      let number : number_at w64 (last 8 (all_but 8 bytes)) ≡ None = ap (number_at w64) eight_before ∙ none in
      rw (is_there, number) refl

  pub parts_over : (n : ℕ) (rest : List ℕ) → bytes_eq mark (drop (length end - 8) end) ≡ true → number_at w64 (take (length end - 8) end) ≡ Some (n, rest) → length bytes - 16 < n → parts_in bytes ≡ None
  parts_over n rest e some lt =
      let is_there = marked e in
      let number : number_at w64 (last 8 (all_but 8 bytes)) ≡ Some (n, rest) = ap (number_at w64) eight_before ∙ some in
      let over : leb n (length bytes - 16) ≡ false = lt-leb _ _ lt in
      rw (is_there, number, over) refl

  -- a number that fits
  pub parts_some : (n : ℕ) (rest : List ℕ) → bytes_eq mark (drop (length end - 8) end) ≡ true → number_at w64 (take (length end - 8) end) ≡ Some (n, rest) → end ≡ ending n → n ≤ length bytes - 16 → parts_in bytes ≡ Some (with_notes (length bytes) n)
  parts_some n rest e some spelled le =
      let is_there = marked e in
      let number : number_at w64 (last 8 (all_but 8 bytes)) ≡ Some (n, rest) = ap (number_at w64) eight_before ∙ some in
      let fits : leb n (length bytes - 16) ≡ true = le-leb _ _ le in
      let so : bytes_eq (ending n) (last 16 bytes) ≡ true = (bytes_eq-Decides (ending n) (last 16 bytes)).1 (sym spelled ∙ is) in
      rw (is_there, number, fits, so) refl

-- ---- the end of the front of a file

-- so many bytes were read at the end of that front, so the file has it
pub front_told : (file end : List ℕ) (total : ℕ) (r : Result Parts PartsFault) → length end ≡ min 16 total → end ≡ take (length end) (drop (total - min 16 total) file) → ((bytes : List ℕ) → length bytes ≡ total → end ≡ last 16 bytes → TellsParts r (parts_in bytes)) → TellsParts r (parts_of_front total (front total file))
front_told file end total r size is told =
    let fits : total ≤ length file = omega (arith, ap length is, length-take (length end) (drop (total - min 16 total) file), length-drop (total - min 16 total) file, size) in
    let whole : front total file ≡ Some (take total file) = (let enough : leb total (length file) ≡ true = le-leb _ _ fits in rw enough refl) in
    let len : length (take total file) ≡ total = length-take-le total file fits in
    let at = total - 16 in
    let from : total - min 16 total ≡ at = omega arith in
    let rest : total ≡ at + length end = omega (arith, size) in
    let last_is : last 16 (take total file) ≡ end = (λ i. drop (len i - 16) (take (rest i) file)) ∙ drop-take at (length end) file ∙ ap (λ (k : ℕ). take (length end) (drop k file)) (sym from) ∙ sym is in
    subst (λ (o : Option (List ℕ)). TellsParts r (parts_of_front total o)) (sym whole) (told (take total file) len (sym last_is))

-- a buffer that was filled from a file
pub filled_from : (told : Option Files) (files : Files) (name buf : List ℕ) (at count : ℕ) → told ≡ Some files → length buf ≤ count → FillsFrom told name at (take count buf) (length buf) → buf ≡ take (length buf) (drop at (bytes_or_none (map.get files name)))
filled_from told files name buf at count e le fills =
    sym (take_all count buf le) ∙ subst (λ (o : Option Files). FillsFrom o name at (take count buf) (length buf)) e fills
