-- How the parts of `import` lead to its end.
use Rattle.std.proofs.Common.{◌≡◌, ◌≤◌, inl, inr, ℕ, false, List, [], ◌++◌, length, map as map_list, String, Global, string_bytes, Result, Ok, Err, refl, sym, subst, arith}
use Rattle.std.specs.FinMap as map
use Rattle.std.specs.List.{AllByRecursion}
use Rattle.std.proofs.lemmas.List.{length-map}
use Rattle.xa_outside.specs.Folder.{Files}
use Rattle.version_notes.specs.Notes.{AreNotes, IsNote, notes_part}
use Rattle.xarch_words.specs.Commands.{import}
use Rattle.xarch_words.specs.Refusal.{Refusal}
use Rattle.xarch_parts.specs.Archives.{GoesOn}
use Rattle.xarch_parts.specs.Noted.{CanFollow}
use Rattle.xarch_parts.specs.Outcome.{Outcome}
use Rattle.xarch_meanings.specs.Import.{ImportIs, ImportsFrom, IsNoText, import_text}
use Rattle.xarch_meanings.specs.Meanings.{MayBe}
use Rattle.xarch_texts.specs.Spelled.{IsFileOf}
use Rattle.record_parts.specs.declared.limits.TheConstants.{MOST_VERSIONS}

-- ---- the notes of what a text spells

pub are-notes : (notes : List (String Global)) (n : ℕ) → n ≤ MOST_VERSIONS → length notes ≡ n → AllByRecursion IsNote (map_list string_bytes notes) → AreNotes (map_list string_bytes notes)
are-notes notes n few many each = (let same = length-map notes string_bytes in record { each = each; few = omega (arith, few, many, same) })

-- they can be appended, the empty ones at the front only when another comes
pub can-follow : (notes : List (List ℕ)) → AreNotes notes → CanFollow false notes
can-follow notes are = record { few = are.few; each = are.each; some = λ e. absurd cc }

-- ---- the whole command

module _ (files : Files) (text new : List ℕ) where
  -- the text is not read
  pub import-refused_early : (q : Refusal) → import_text files text new ≡ Err q → MayBe files (import text new) (Err q)
  import-refused_early q e = subst (λ (x : Result (List ℕ) Refusal). GoesOn x (ImportsFrom files new) (Err q)) (sym e) refl

  module _ (bytes : List ℕ) (read : import_text files text new ≡ Ok bytes) where
    goes : (r : Result Outcome Refusal) → ImportsFrom files new bytes r → ImportIs files text new r
    goes r p = subst (λ (x : Result (List ℕ) Refusal). GoesOn x (ImportsFrom files new) r) (sym read) p

    -- it is none
    pub import-refused : (q : Refusal) → IsNoText bytes (Err q) → MayBe files (import text new) (Err q)
    import-refused q none = goes (Err q) (inr none)

    -- its archive is stored
    pub import-stored : (core : List ℕ) (notes : List (List ℕ)) → IsFileOf bytes core notes → MayBe files (import text new) (Ok (record { files = map.insert files new (core ++ notes_part notes); output = [] }))
    import-stored core notes f = goes _ (inl (record {
      contents = record { rules = f.rules; versions = f.versions; notes = notes };
      spelled = f.spelled;
      stored = record { bytes = core ++ notes_part notes; full = f.full; is = refl };
    }))
