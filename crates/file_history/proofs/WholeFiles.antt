-- The row of the virtual root in an archive's file.
use Rattle.std.proofs.Common.{◌≡◌, ◌≢◌, ℕ, ◌+◌, ◌-◌, List, ◌++◌, length, drop, Option, Some, Err, refl, sym, ap, subst, ◌∙◌, arith}
use Rattle.std.specs.List.{flat_map}
use Rattle.std.proofs.lemmas.List.{length-append, length-drop}
use Rattle.version_set.specs.Members.{members, upto_pairs}
use Rattle.key_spec.specs.Data.{PlainRule}
use Rattle.keyed_tree.specs.Data.{PlainLabel, PlainKeyed}
use Rattle.archive_tree.specs.Data.{PlainArchive}
use Rattle.archive_tree.specs.History.{hist}
use Rattle.archive_tree.specs.Seek.{seek}
use Rattle.archive_tree.specs.Stands.{ArchiveOf}
use Rattle.archive_tree.proofs.Histories.{archive_sorted, seek_hist}
use Rattle.archive_tree.proofs.OneArchive.{one_archive}
use Rattle.archive_tree.proofs.Readings.{all_numbers}
use Rattle.archive_file.specs.Sound.{SoundAs}
use Rattle.archive_file.proofs.SoundLaws.{versions-nested}
use Rattle.xa_fields.proofs.Fields.{some_is}
use Rattle.xa_outside.specs.Folder.{Files}
use Rattle.record_format.specs.Files.{header_bytes, root_pieces, file_records, tail_bytes}
use Rattle.record_format.specs.Fronts.{header_at}
use Rattle.record_format.specs.Spelling.{rec_bytes}
use Rattle.record_format.proofs.HeaderLaws.{header_again}
use Rattle.record_cursor.specs.Faults.{IfDamage, IfFolder}
use Rattle.record_cursor.specs.Moves.{TellsFront, IsHeaderOf}
use Rattle.record_cursor.specs.View.{PlainHeader, IsHeader}
use Rattle.record_cursor.specs.declared.fault.CursorFault.{CursorFault}
use Rattle.record_cursor.specs.declared.fault.CursorFault.TheVariants as cursor
use Rattle.record_cursor.proofs.Fills.{front-length}
use Rattle.file_rows.specs.StandsAt.{RowLaid}
use Rattle.file_rows.specs.View.{PlainRow}
use Rattle.file_rows.proofs.RootRows.{RootRow, root-row-of}
use Rattle.file_history.specs.Rows.{RowIs, FileIs}
use Rattle.file_history.specs.Told.{of_cursor, IfFailed}
use Rattle.file_history.specs.declared.fault.HistFault.{HistFault}
use Rattle.file_history.specs.declared.fault.HistFault.TheVariants.{Damage}

-- ---- the row of the virtual root

pub root-row : (told : Option Files) (name bytes : List ℕ) (h : PlainHeader) (a : PlainArchive) → FileIs told name bytes h a → RootRow bytes h.length h.first (root_pieces a)
root-row told name bytes h a f =
    root-row-of (header_bytes f.rules a.n) (flat_map rec_bytes (file_records a)) (tail_bytes a) bytes (root_pieces a) h.length h.first f.spelled refl refl f.first (front-length told name bytes h.length f.tells)

-- the nodes of the archive stand in it
pub root-is : (told later : Option Files) (name bytes : List ℕ) (h : PlainHeader) (a : PlainArchive) (row : PlainRow) (set : List (ℕ × ℕ)) → FileIs told name bytes h a → later ≡ told → set ≡ upto_pairs a.n → RowLaid bytes row (root_pieces a)
    → RowIs later name bytes 0 row set a.kids
root-is told later name bytes h a row set f same is stands =
    subst (λ (s : List (ℕ × ℕ)). RowIs later name bytes 0 row s a.kids) (sym is)
    (record { size = h.length; tells = subst (λ (t : Option Files). TellsFront t name h.length bytes) (sym same) f.tells; stands = stands; sorted = f.sorted; records = f.has.records; nested = f.nested })

-- ---- sound archives

pub record SoundFile (told : Option Files) (name bytes : List ℕ) (h : PlainHeader) (vs : List PlainKeyed) : Type 0 where
  pub archive : PlainArchive
  pub is : ArchiveOf vs archive
  pub file : FileIs told name bytes h archive
  pub versions : h.versions ≡ archive.n

pub sound-file : (told : Option Files) (name bytes : List ℕ) (h : PlainHeader) (rules : List PlainRule) (vs : List PlainKeyed) → IsHeader h → TellsFront told name h.length bytes → IsHeaderOf h bytes → SoundAs rules vs bytes
    → SoundFile told name bytes h vs
sound-file told name bytes h rules vs header tells stands sound =
    let a = sound.file.archive in
    let has = sound.file.has in
    let head = header_bytes rules a.n in
    let rest = flat_map rec_bytes (file_records a) ++ tail_bytes a in
    let read : header_at bytes ≡ Some ((rules, a.n), rest) = ap header_at sound.file.spelled ∙ header_again rules a.n rest sound.specification has.text has.count in
    let same = some_is ((h.rules, h.versions), drop h.first bytes) ((rules, a.n), rest) (sym stands ∙ read) in
    let len = front-length told name bytes h.length tells in
    let all : length bytes ≡ length head + length rest = ap length sound.file.spelled ∙ length-append head rest in
    let left : length (drop h.first bytes) ≡ length rest = ap (λ (x : (List PlainRule × ℕ) × List ℕ). length x.1) same in
    let within = header.within in
    record {
      archive = a;
      is = sound.file.is;
      file = record { tells = tells; rules = rules; has = has; spelled = sound.file.spelled; first = omega (arith, all, left, len, within, length-drop h.first bytes); sorted = archive_sorted vs a sound.file.is; nested = versions-nested rules vs bytes a sound sound.file.is };
      versions = ap (λ (x : (List PlainRule × ℕ) × List ℕ). x.0.1) same;
    }

-- the archive of the versions is the one in the file
pub sound-archive : (told : Option Files) (name bytes : List ℕ) (h : PlainHeader) (vs : List PlainKeyed) (a : PlainArchive) → ArchiveOf vs a → (s : SoundFile told name bytes h vs) → FileIs told name bytes h a × (h.versions ≡ a.n)
sound-archive told name bytes h vs a is s =
    let same = one_archive vs s.archive a s.is is in
    (subst (FileIs told name bytes h) same s.file, s.versions ∙ ap (λ (b : PlainArchive). b.n) same)

pub sound-set : (told : Option Files) (name bytes : List ℕ) (h : PlainHeader) (vs : List PlainKeyed) (path : List PlainLabel) (set all : List (ℕ × ℕ)) (s : SoundFile told name bytes h vs) → members all ≡ all_numbers s.archive
    → members set ≡ seek path (members all) s.archive.kids → members set ≡ hist vs path
sound-set told name bytes h vs path set all s every is = is ∙ ap (λ (ns : List ℕ). seek path ns s.archive.kids) every ∙ seek_hist vs s.archive path s.is

-- ---- faults

pub no-damage-of : (e : CursorFault) → IfDamage e ⊥ → of_cursor e ≢ Damage
no-damage-of cursor.Damage h f = h
no-damage-of cursor.Folder h f = cc
no-damage-of cursor.Memory h f = cc

pub failed-of : (T : Type 0) (e : CursorFault) (g : HistFault) (P : Type 0) → g ≡ of_cursor e → IfFolder e P → IfFailed {T = T} (Err g) P
failed-of T cursor.Damage g P is h = subst (λ (x : HistFault). IfFailed {T = T} (Err x) P) (sym is) tt
failed-of T cursor.Folder g P is h = subst (λ (x : HistFault). IfFailed {T = T} (Err x) P) (sym is) h
failed-of T cursor.Memory g P is h = subst (λ (x : HistFault). IfFailed {T = T} (Err x) P) (sym is) tt
