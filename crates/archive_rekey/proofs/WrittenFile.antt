-- The file of an archive, behind its header.
use Rattle.std.proofs.Common.{◌≡◌, ◌≢◌, ◌↔◌, ℕ, ◌≤◌, ◌++◌, List, length, Option, Result, Ok, Err, IfErr, refl, subst, ◌∙◌, arith}
use Rattle.std.specs.Prelude.{⊤}
use Rattle.std.specs.Result.{OnOk}
use Rattle.xa_outside.specs.Folder.{Files}
use Rattle.xa_outside.specs.Numbers.{Numbers, IsMeter}
use Rattle.key_spec.specs.Canonical.{canonical}
use Rattle.key_spec.specs.Data.{PlainRule}
use Rattle.keyed_tree.specs.Data.{PlainKeyed}
use Rattle.archive_tree.specs.Data.{PlainArchive}
use Rattle.archive_tree.specs.Stands.{ArchiveOf}
use Rattle.archive_tree.proofs.OneArchive.{one_archive}
use Rattle.record_format.specs.Files.{FileOf, HasFile, header_bytes}
use Rattle.record_format.specs.Shapes.{IsShaped}
use Rattle.record_writer.specs.Calls.{AllFit, all_appended, started}
use Rattle.record_writer.specs.Data.{PlainWriter}
use Rattle.record_writer.specs.Faults.{Appends}
use Rattle.record_writer.specs.Walks.{walk_of}
use Rattle.record_writer.specs.declared.fault.WriteFault.{WriteFault}
use Rattle.record_writer.specs.declared.fault.WriteFault.TheVariants.{TooLong, Folder, Memory}
use Rattle.record_writer.proofs.FitLaws.{walk-fits-exactly}
use Rattle.record_writer.proofs.WalkLaws.{walk-spells}
use Rattle.archive_rekey.specs.Drafted.{Called, Drafted, IfTooLong, OnlyIf}
use Rattle.archive_rekey.proofs.Calling.{drafted-fault, drafted-piece, drafted-then}

-- bytes that are a file of the versions of an archive, whatever these are
abbrev pub IsFileOf : List PlainRule → PlainArchive → List ℕ → Type 0
IsFileOf rules a bytes = (vs : List PlainKeyed) → ArchiveOf vs a → FileOf rules vs bytes

-- there is none
abbrev pub HasNone : List PlainRule → PlainArchive → Type 0
HasNone rules a = (vs : List PlainKeyed) (bytes : List ℕ) → ArchiveOf vs a → ¬ (FileOf rules vs bytes)

-- with what an end tells that calls fit, so much holds of their bytes
fitting : {T : Type 0} (r : Result T WriteFault) (P Q : Type 0) → OnOk r P → OnlyIf Q r → OnOk r (P × Q)
fitting (Ok x) P Q p q = (p, q)
fitting (Err e) P Q p q = tt

module _ (rules : List PlainRule) (a : PlainArchive) (text : length (canonical rules) ≤ 1048576) (shaped : IsShaped a) where
  exactly : HasFile rules a ↔ AllFit (started rules a.n) (walk_of a)
  exactly = walk-fits-exactly rules a (omega (arith, text)) shaped

  file-of : (m n : List ℕ) → m ≡ header_bytes rules a.n → (n ≡ all_appended (started rules a.n) (walk_of a)) × AllFit (started rules a.n) (walk_of a) → IsFileOf rules a (m ++ n)
  file-of m n head rest = λ vs at. record { archive = a; is = at; has = exactly.1 rest.1; spelled = (λ i. head i ++ rest.0 i) ∙ walk-spells rules a }

  pub none-by : {T : Type 0} (r : Result T WriteFault) → OnlyIf (AllFit (started rules a.n) (walk_of a)) r → IfErr r (λ e. IfTooLong e (HasNone rules a))
  none-by (Ok x) fit = tt
  none-by (Err TooLong) fit = λ vs bytes at file. fit (exactly.0 (subst (HasFile rules) (one_archive vs file.archive a file.is at) file.has))
  none-by (Err Folder) fit = tt
  none-by (Err Memory) fit = tt

  module _ {S : Type 0} {files : S → Option Files} {draft : S → Option (List ℕ)} {numbers : S → Numbers} {faults : S → ℕ} where
    pub file-drafted : {T U : Type 0} (old mid new : S) (w : PlainWriter) (x : T) (r : Result U WriteFault) → IsMeter (numbers old) → Appends files draft numbers faults old mid (header_bytes rules a.n) (Ok x)
        → Called files draft numbers faults (walk_of a) mid new (started rules a.n) w r → Drafted files draft numbers faults old new (IsFileOf rules a) r
    file-drafted {T = T} {U = U} old mid new w x r meter head h =
        let d = h.drafted in
        let rest : Drafted files draft numbers faults mid new (λ n. (n ≡ all_appended (started rules a.n) (walk_of a)) × AllFit (started rules a.n) (walk_of a)) r = record {
          same_files = d.same_files;
          bytes = d.bytes;
          drafts = d.drafts;
          is = fitting r _ _ d.is h.fit;
          later = d.later;
          cause = d.cause;
        } in
        drafted-then old mid new (λ m. m ≡ header_bytes rules a.n) _ (IsFileOf rules a) x r file-of (drafted-piece old mid (header_bytes rules a.n) (λ m. m ≡ header_bytes rules a.n) (Ok x) meter head refl) rest

-- ---- the header was not appended

module _ {S : Type 0} {files : S → Option Files} {draft : S → Option (List ℕ)} {numbers : S → Numbers} {faults : S → ℕ} where
  pub header-failed : {T U : Type 0} (old new : S) (piece : List ℕ) (P : List ℕ → Type 0) (e : WriteFault) → IsMeter (numbers old) → Appends {T = T} files draft numbers faults old new piece (Err e) → Drafted {T = U} files draft numbers faults old new P (Err e)
  header-failed {T = T} {U = U} old new piece P e meter did = drafted-fault {T = T} {U = U} old new (λ m. ⊤) P e (drafted-piece {T = T} old new piece (λ m. ⊤) (Err e) meter did tt)

-- it is never too long
pub never-long : {T : Type 0} (e : WriteFault) (P : Type 0) → ◌≢◌ {A = Result T WriteFault} (Err e) (Err TooLong) → IfTooLong e P
never-long TooLong P never = absurd (never refl)
never-long Folder P never = tt
never-long Memory P never = tt
