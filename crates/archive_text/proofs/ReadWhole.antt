-- What is judged of the parts of a text, and what follows for the whole.
use Rattle.std.proofs.Common.{◌≡◌, ℕ, ◌≤◌, true, List, [], ◌∷◌, ◌++◌, length, map, Result, Ok, Err, IfOk, IfErr, Option, Some, None, IfSome, IfNone, String, Global, string_bytes, refl, sym, ◌∙◌, subst, arith}
use Rattle.std.specs.List.{AllByRecursion, list_all}
use Rattle.std.proofs.lemmas.Bool.{and_parts, and_from, leb-true}
use Rattle.std.proofs.lemmas.Str.{IsUtf8-string_bytes}
use Rattle.key_spec.specs.Data.{PlainRule}
use Rattle.keyed_tree.specs.Data.{PlainKeyed}
use Rattle.archive_tree.specs.Data.{PlainArchive}
use Rattle.archive_tree.specs.Stands.{ArchiveOf}
use Rattle.record_parts.specs.Bounds.{most}
use Rattle.archive_file.specs.Sound.{SoundAs}
use Rattle.version_notes.specs.Notes.{IsNote, is_note, is_printed, notes_part}
use Rattle.noted_file.specs.Contents.{Contents}
use Rattle.noted_file.specs.Full.{FullAs}
use Rattle.archive_text.specs.Export.{export_text, ExportOf}
use Rattle.archive_text.specs.Faults.{IfBad}
use Rattle.archive_text.specs.Reading.{AreKeptAs, ArePartsOf, Finds}
use Rattle.archive_text.proofs.OneText.{text_is}
use Rattle.archive_text.specs.declared.fault.ReadFault.{ReadFault}
use Rattle.archive_text.specs.declared.fault.ReadFault.TheVariants.{Bad, Memory}

-- ---- results

pub if_ok : {X E : Type 0} (P Q : X → Type 0) (r : Result X E) → ((x : X) → P x → Q x) → IfOk r P → IfOk r Q
if_ok P Q (Ok x) f h = f x h
if_ok P Q (Err e) f h = tt

pub finds_ok : {X : Type 0} (P Q : X → Type 0) (r : Result X ReadFault) → ((x : X) → P x → Q x) → Finds r P → IfOk r Q
finds_ok P Q (Ok x) f h = f x h
finds_ok P Q (Err e) f h = tt

pub text_bad : {X : Type 0} (bytes : List ℕ) (r : Result X ReadFault) (Q : List PlainRule → PlainArchive → List (List ℕ) → X → Type 0)
    → ((c : Contents) (file : List ℕ) → FullAs c file → (e : ExportOf c bytes) → Finds r (Q c.rules e.archive c.notes))
    → IfErr r (λ d. IfBad d ((c : Contents) (file : List ℕ) → FullAs c file → ¬ (ExportOf c bytes)))
text_bad bytes (Ok x) Q h = tt
text_bad bytes (Err Bad) Q h = λ c file full e. h c file full e
text_bad bytes (Err Memory) Q h = tt

-- ---- what there may be

pub if_some : {X E : Type 0} (P Q : X → Type 0) (r : Result (Option X) E) → ((x : X) → P x → Q x) → IfOk r (λ o. IfSome o P) → IfOk r (λ o. IfSome o Q)
if_some P Q (Ok (Some x)) f h = f x h
if_some P Q (Ok None) f h = tt
if_some P Q (Err e) f h = tt

pub any_some : {X E : Type 0} (Q : X → Type 0) (r : Result (Option X) E) → ((x : X) → Q x) → IfOk r (λ o. IfSome o Q)
any_some Q (Ok (Some x)) f = f x
any_some Q (Ok None) f = tt
any_some Q (Err e) f = tt

pub if_none : {X E : Type 0} (P Q : Type 0) (r : Result (Option X) E) → (P → Q) → IfOk r (λ o. IfNone o P) → IfOk r (λ o. IfNone o Q)
if_none P Q (Ok (Some x)) f h = tt
if_none P Q (Ok None) f h = f h
if_none P Q (Err e) f h = tt

-- ---- notes

note_of : (s : String Global) → is_note (string_bytes s) ≡ true → IsNote (string_bytes s)
note_of s h =
    let both = and_parts _ (is_printed (string_bytes s)) h in
    let short : length (string_bytes s) ≤ 1024 = leb-true _ _ both.0 in
    (record { short = omega arith; utf8 = IsUtf8-string_bytes s }, h)

pub notes_of : (notes : List (String Global)) → list_all is_note (map string_bytes notes) ≡ true → AllByRecursion IsNote (map string_bytes notes)
notes_of [] h = tt
notes_of (s ∷ notes) h = let both = and_parts (is_note (string_bytes s)) (list_all is_note (map string_bytes notes)) h in (note_of s both.0, notes_of notes both.1)

pub all_notes : (notes : List (List ℕ)) → AllByRecursion IsNote notes → list_all is_note notes ≡ true
all_notes [] h = refl
all_notes (note ∷ notes) h = and_from (is_note note) (list_all is_note notes) h.0.1 (all_notes notes h.1)

-- ---- what can be kept

pub kept_of : (rules : List PlainRule) (a : PlainArchive) (notes : List (List ℕ)) (core : List ℕ) → a.n ≤ most → length notes ≡ a.n → AllByRecursion IsNote notes → ((vs : List PlainKeyed) → ArchiveOf vs a → SoundAs rules vs core) → AreKeptAs rules a notes core
kept_of rules a notes core few many each sound =
    record {
      kept = record {
        few = few;
        as_many = many;
        each = each;
        keyed = λ vs is. (sound vs is).keyed;
        file = λ vs is. record { file = core ++ notes_part notes; is = record { core = core; is = sound vs is; as_many = many ∙ sym is.count; each = each; spelled = refl } };
      };
      sound = sound;
    }

-- ---- what is known of the parts that were read

pub record Known (vs : List PlainKeyed) (file bytes : List ℕ) (rules : List PlainRule) (a : PlainArchive) (notes : List (List ℕ)) : Type 0 where
  pub is : ArchiveOf vs a
  pub full : FullAs (record { rules = rules; versions = vs; notes = notes }) file
  pub text : bytes ≡ export_text rules a notes

pub known : (c : Contents) (a : PlainArchive) (file bytes : List ℕ) → ArchiveOf c.versions a → FullAs c file → ArePartsOf c.rules a c.notes bytes
    → (r : List PlainRule) (b : PlainArchive) (n : List (List ℕ)) → r ≡ c.rules → b ≡ a → n ≡ c.notes → Known c.versions file bytes r b n
known c a file bytes is full p r b n e f g =
    let first : Known c.versions file bytes c.rules a c.notes = record { is = is; full = full; text = p.lines.spelled ∙ sym (text_is c.rules a c.notes) } in
    subst (λ (x : List PlainRule). Known c.versions file bytes x b n) (sym e) (subst (λ (x : PlainArchive). Known c.versions file bytes c.rules x n) (sym f) (subst (λ (x : List (List ℕ)). Known c.versions file bytes c.rules a x) (sym g) first))
