-- The text of an archive with notes that has a file can be read.
use Rattle.std.proofs.Common.{ℕ, List, [], ◌∷◌, ◌++◌, map, ◌∙◌, IsTrue, arith}
use Rattle.std.specs.List.{AllByRecursion}
use Rattle.key_spec.specs.Data.{PlainRule}
use Rattle.key_spec.specs.Canonical.{canonical}
use Rattle.key_spec.proofs.ClosedLaws.{closed_list}
use Rattle.keyed_tree.specs.Data.{PlainKeyed}
use Rattle.archive_tree.specs.Data.{PlainArchive}
use Rattle.archive_tree.specs.Stands.{ArchiveOf}
use Rattle.record_parts.specs.Bounds.{deepest}
use Rattle.record_format.specs.Nested.{are_nested}
use Rattle.archive_file.specs.Sound.{SoundAs}
use Rattle.noted_file.specs.Contents.{Contents}
use Rattle.noted_file.specs.Full.{FullAs}
use Rattle.jsonml_lines.specs.RoundTrip.{IsLine, AreLineTexts}
use Rattle.archive_text.specs.Texts.{text_lines}
use Rattle.archive_text.specs.Export.{key_line, note_lines, end_line, nodes_lines, ExportOf}
use Rattle.archive_text.specs.Reading.{all_lines, ArePartsOf}
use Rattle.jsonml_tree.proofs.Lists.{all-append}
use Rattle.archive_text.proofs.KeyTexts.{key_texts}
use Rattle.archive_text.proofs.LineTexts.{end_texts, nodes_texts, keys_texts, notes_texts, count_texts}
use Rattle.archive_text.proofs.OneExport.{OneArchive, SoundTexts, KeyedShaped, readable}
use Rattle.archive_text.proofs.OneText.{text_is}

-- what is known of the nodes of sound files
abbrev pub SoundNested : Type 0
SoundNested = (rules : List PlainRule) (vs : List PlainKeyed) (bytes : List ℕ) (a : PlainArchive) → SoundAs rules vs bytes → ArchiveOf vs a → IsTrue (are_nested deepest a.kids)

both_all : {X : Type 0} (P Q : X → Type 0) (xs : List X) → AllByRecursion P xs → AllByRecursion Q xs → AllByRecursion (λ x. P x × Q x) xs
both_all P Q [] h k = tt
both_all P Q (x ∷ xs) h k = ((h.0, k.0), both_all P Q xs h.1 k.1)

pub parts_of_text : OneArchive → SoundTexts → KeyedShaped → SoundNested
    → (c : Contents) (file text : List ℕ) → FullAs c file → (e : ExportOf c text) → ArePartsOf c.rules e.archive c.notes text
parts_of_text one texts shapes nested c file text full e =
    let a = e.archive in
    let r = readable one texts shapes c file a full e.is in
    let sound : SoundAs c.rules c.versions full.core = full.is in
    let keys = text_lines (canonical c.rules) in
    let last = all-append AreLineTexts (nodes_lines a.kids) (end_line ∷ []) (nodes_texts a.kids r.shaped) end_texts in
    let noted = all-append AreLineTexts (note_lines 1 c.notes) (nodes_lines a.kids ++ end_line ∷ []) (notes_texts 1 c.notes full.each) last in
    let keyed = all-append AreLineTexts (map key_line keys) (note_lines 1 c.notes ++ (nodes_lines a.kids ++ end_line ∷ [])) (keys_texts keys (key_texts c.rules sound.specification)) noted in
    record {
      specification = sound.specification;
      short = (closed_list (canonical c.rules) c.rules sound.specification).short;
      few = omega (arith, e.is.count, sound.few);
      as_many = r.as_many;
      kids = record { shaped = r.shaped; named = r.names; nested = nested c.rules c.versions full.core a sound e.is };
      lines = record { good = both_all IsLine AreLineTexts (all_lines c.rules a c.notes) r.lines (count_texts a.n, keyed); spelled = e.spelled ∙ text_is c.rules a c.notes };
    }
