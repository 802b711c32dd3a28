-- What `import` leaves.
use Rattle.std.proofs.Common.{◌≡◌, ℕ, ◌≤◌, List, length, Option, Some, None, Ok, Err, Result, refl, sym, ap, ◌∙◌, subst}
use Rattle.std.specs.FinMap as finite
use Rattle.std.proofs.lemmas.Bool.{le-leb}
use Rattle.xa_outside.specs.Folder.{Files}
use Rattle.noted_file.specs.Contents.{Contents}
use Rattle.noted_file.specs.Full.{FullAs, FullOf}
use Rattle.archive_text.specs.Export.{ExportOf}
use Rattle.xarch_words.specs.Commands.{PlainCommand, export, import}
use Rattle.xarch_words.specs.Refusal.{Refusal}
use Rattle.xarch_words.specs.declared.limits.TheConstants.{TEXT}
use Rattle.xarch_meanings.specs.Import.{CanImport, import_text, IsTextOf}
use Rattle.xarch_meanings.specs.Meanings.{MayBe, ShouldSucceed}
use Rattle.xarch_meanings.specs.PlausibleLaws.{no-late, plain-step}
use Rattle.xarch_parts.specs.Outcome.{Outcome, Step, step_from}
use Rattle.xarch_run.specs.Calls.{CommandMay}
use Rattle.xarch_run.specs.Held.{Held, Holds, ImportsOrTells}
use Rattle.xarch_run.proofs.HeldLemmas.{AreNoted, OneReading, OneText, exporting, should-succeed, step-archive, step-begins}

-- the step is what comes of the text
pub importing : (files : Files) (text new : List ℕ) (s : Step) → CommandMay files (Some (import text new)) s → ImportsOrTells files text new s
importing files text new s m = record { outcome = m.outcome; comes = m.may; is = plain-step files (Some (import text new)) s m (no-late files (Some (import text new)) m.outcome (λ q late. late)) }

-- what is taken is the text of an archive
pub text-taken : (noted : AreNoted) (files : Files) (text new : List ℕ) (s : Step) → CommandMay files (Some (import text new)) s → s.status ≡ 0 → (h : Held) × IsTextOf files text h
text-taken noted files text new s m success = let begun = step-begins noted files new (Some (import text new)) s m success refl tt in (begun.held, begun.begins.1)

-- two files of the same bytes
same-file : (x y : Option (List ℕ)) (a b : List ℕ) → x ≡ Some a → a ≡ b → y ≡ Some b → x ≡ y
same-file x y a b e f g = cc

module _ (reading : OneReading) (texts : OneText) (noted : AreNoted) where
  -- and gives that archive
  pub imported : (files : Files) (text new : List ℕ) (h : Held) (s : Step) → IsTextOf files text h → CommandMay files (Some (import text new)) s → s.status ≡ 0 → Holds s.files new h
  imported files text new h s of m success = step-archive reading texts noted files new (Some (import text new)) s h m success (refl, of)

  -- a short text that is there under a free name
  text-read : (files : Files) (text new bytes : List ℕ) → finite.get files text ≡ Some bytes → length bytes ≤ TEXT → finite.get files new ≡ None → import_text files text new ≡ Ok bytes
  text-read files text new bytes there short none = rw there (rw none (rw (le-leb (length bytes) TEXT short) refl))

  -- what an export wrote gives the file again
  pub restoring : ((c : Contents) (a b : List ℕ) → FullOf c a → FullOf c b → a ≡ b)
      → ((c : Contents) (bytes : List ℕ) → FullAs c bytes → FullOf c bytes)
      → ((files : Files) (command : PlainCommand) (q : Refusal) → ShouldSucceed files command → MayBe files command (Err q) → ⊥)
      → (files later : Files) (name text new : List ℕ) (h : Held) (s t : Step) → Holds files name h → CommandMay files (Some (export name)) s → finite.get later text ≡ Some s.output → length s.output ≤ TEXT → finite.get later new ≡ None
      → CommandMay later (Some (import text new)) t → (t.status ≡ 0) × (finite.get t.files new ≡ finite.get files name)
  restoring one defined never files later name text new h s t a e there short free m =
      let wrote = exporting files name h s a e in
      let output : s.output ≡ wrote.text.text = ap (λ (z : Step). z.output) wrote.is ∙ ap (λ (r : Result Outcome Refusal). (step_from files r).output) wrote.text.is in
      let spelled : ExportOf h s.output = subst (ExportOf h) (sym output) wrote.text.of in
      let can : CanImport later text new = record { bytes = s.output; contents = h; file = a.bytes; there = text-read later text new s.output there short free; full = a.full; spelled = spelled } in
      let zero = should-succeed never later (import text new) t m can in
      let holds = imported later text new h t (record { bytes = s.output; there = there; spelled = spelled; file = a.bytes; full = a.full }) m zero in
      let same : holds.bytes ≡ a.bytes = one h holds.bytes a.bytes (defined h holds.bytes holds.full) (defined h a.bytes a.full) in
      (zero, same-file (finite.get t.files new) (finite.get files name) holds.bytes a.bytes holds.there same a.there)
