-- What is read of an archive before its first record.
use Rattle.std.proofs.Common.{◌≡◌, ℕ, ◌≤◌, List, ◌++◌, length, drop, Option, Some, None, Ok, Err, refl, sym, ap, ◌∙◌, subst, arith}
use Rattle.std.specs.FinMap as map
use Rattle.std.specs.List.{flat_map}
use Rattle.std.specs.Option.{option_map}
use Rattle.std.proofs.lemmas.List.{length-append}
use Rattle.key_spec.specs.Canonical.{canonical}
use Rattle.key_spec.specs.Closed.{closed}
use Rattle.key_spec.specs.Data.{PlainRule}
use Rattle.keyed_tree.specs.Data.{PlainKeyed}
use Rattle.archive_tree.specs.Data.{PlainArchive}
use Rattle.xa_outside.specs.Folder.{Files, bytes_or_none, front, front_of}
use Rattle.xa_outside.specs.Numbers.{Numbers, PullsAtMost}
use Rattle.record_cursor.specs.Moves.{TellsFront}
use Rattle.record_format.specs.Files.{HasFile, header_bytes, file_bytes, file_records, tail_bytes}
use Rattle.record_format.specs.Spelling.{rec_bytes}
use Rattle.record_format.specs.Fronts.{header_at}
use Rattle.archive_file.specs.Sound.{SoundAs}
use Rattle.version_notes.specs.Parts.{parts_of_front}
use Rattle.version_notes.specs.declared.parts.Parts.{Parts}
use Rattle.xarch_words.specs.Refusal.{Refusal, no_file, damaged, PlainFault, refused, folder_fault, out_fault, in_fault, memory}
use Rattle.xarch_parts.specs.Archives.{CoreIs, IsRefusal}
use Rattle.xarch_parts.specs.Ends.{IsDefined}
use Rattle.xarch_parts.specs.InputLaws.{front-all}
use Rattle.xarch_parts.specs.Inputs.{file_length, read_in}
use Rattle.xarch_parts.specs.Outcome.{and_then, or_refuse}
use Rattle.xarch_parts.specs.Readings.{parts_of, front_of_core}
use Rattle.xarch_parts.specs.CoreLaws.{core-length, core-told}

-- From what is known of all archive files: their header stands in front.
module _ (stands : (rules : List PlainRule) (a : PlainArchive) → closed (canonical rules) ≡ Ok rules → HasFile rules a → header_at (file_bytes rules a) ≡ Some ((rules, a.n), drop (length (header_bytes rules a.n)) (file_bytes rules a)))
    (told : Option Files) (files : Files) (name : List ℕ) (size : ℕ) (rules : List PlainRule) (vs : List PlainKeyed) (x y : Numbers) where
  pub few-over : (core : List ℕ) → told ≡ Some files → CoreIs files name size core → SoundAs rules vs core
      → ((bytes : List ℕ) (rules : List PlainRule) (n first : ℕ) → TellsFront told name size bytes → header_at bytes ≡ Some ((rules, n), drop first bytes) → first ≤ size → PullsAtMost first x y)
      → PullsAtMost (length (header_bytes rules (length vs))) x y
  few-over core tells is sound only =
      let f = sound.file in
      let size-is = core-length files name size core is in
      let count : length vs ≡ f.archive.n = f.is.count in
      let head = length (header_bytes rules f.archive.n) in
      let at : header_at core ≡ Some ((rules, f.archive.n), drop head core) = ap header_at f.spelled ∙ stands rules f.archive sound.specification f.has ∙ ap (λ z. Some ((rules, f.archive.n), drop head z)) (sym f.spelled) in
      let within : head ≤ size = (let s = ap length f.spelled in let b = length-append (header_bytes rules f.archive.n) (flat_map rec_bytes (file_records f.archive) ++ tail_bytes f.archive) in omega (arith, size-is, s, b)) in
      subst (λ n. PullsAtMost (length (header_bytes rules n)) x y) (sym count) (only core rules f.archive.n head (core-told files told name size core tells is) at within)

-- bytes that have no parts are refused
parts-none : (o : Option (List ℕ)) (name : List ℕ) (size : ℕ) → and_then (or_refuse o (no_file name)) (λ b. Ok (length b)) ≡ Ok size → parts_of_front size (front size (bytes_or_none o)) ≡ None → and_then (or_refuse o (no_file name)) (parts_of name) ≡ Err (damaged name)
parts-none None name size long none = absurd cc
parts-none (Some bytes) name size long none =
    let same : length bytes ≡ size = cc in
    let whole : front size bytes ≡ Some bytes = ap (λ n. front n bytes) (sym same) ∙ front-all bytes in
    ap (λ (o : Option Parts). or_refuse o (damaged name)) (sym (ap (parts_of_front size) whole) ∙ none)

pub parts-refused : (files : Files) (name : List ℕ) (size : ℕ) (v : PlainFault) → file_length files name ≡ Ok size → parts_of_front size (front_of files name size) ≡ None → IsRefusal (damaged name) v → IsDefined (read_in files name (parts_of name)) v
unfolding IsDefined
parts-refused files name size (refused q) long none only = parts-none (map.get files name) name size long none ∙ ap (λ (r : Refusal). Err r) (sym (only q refl))
parts-refused files name size folder_fault long none only = tt
parts-refused files name size out_fault long none only = tt
parts-refused files name size in_fault long none only = tt
parts-refused files name size memory long none only = tt

-- nor has a core without a header a front
pub header-refused : (name core : List ℕ) (v : PlainFault) → header_at core ≡ None → IsRefusal (damaged name) v → IsDefined (front_of_core name core) v
unfolding IsDefined
header-refused name core (refused q) none only =
    ap (λ (o : Option ((List PlainRule × ℕ) × List ℕ)). or_refuse (option_map {U = List PlainRule × ℕ} (λ (x : (List PlainRule × ℕ) × List ℕ). x.0) o) (damaged name)) none ∙ ap (λ (r : Refusal). Err r) (sym (only q refl))
header-refused name core folder_fault none only = tt
header-refused name core out_fault none only = tt
header-refused name core in_fault none only = tt
header-refused name core memory none only = tt

-- and one with a header has it
pub header-given : (name core : List ℕ) (x : (List PlainRule × ℕ) × List ℕ) → header_at core ≡ Some x → front_of_core name core ≡ Ok x.0
header-given name core x there = ap (λ (o : Option ((List PlainRule × ℕ) × List ℕ)). or_refuse (option_map {U = List PlainRule × ℕ} (λ (x : (List PlainRule × ℕ) × List ℕ). x.0) o) (damaged name)) there
