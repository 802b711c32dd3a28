use Rattle.std.proofs.Common.{inl, ◌++◌, refl, sym, ap, ◌∙◌, List, ℕ, subst}
use Rattle.std.proofs.Common as std
use Rattle.std.specs.Prelude.{string_bytes}
use Rattle.std.specs.FinMap as map
use Rattle.version_notes.specs.Notes.{AreNotes, notes_part}
use Rattle.xarch_words.specs.Commands.{import}
use Rattle.xarch_meanings.specs.Meanings.{MayBe}
use Rattle.xarch_parts.specs.AllowedLaws.{MayEnd-folder, MayEnd-passed, MayEnd-stored, defined_refused, gained-none}
use Rattle.xarch_parts.specs.FolderLaws.{caused-begin, caused-begun, caused-passed, caused-then, keeps-begun, keeps-made, keeps-not_begun, reads-inside}
use Rattle.xarch_meanings.specs.Import.{import_text}
use Rattle.xarch_texts.specs.Spelled.{IsFileOf}
use Rattle.xarch_texts.proofs.ImportEnds.{can-follow, import-refused, import-refused_early, import-stored}
use Rattle.xarch_texts.proofs.import.run_import.Goals as goal

pub returns-in_err-begin : goal.returns-in_err-begin
returns-in_err-begin g c t n = record {
  keeps = keeps-not_begun _ _ _ _ _ _ refl c.in_err-begin.ensures.begins;
  caused = caused-passed _ _ _ _ c.from_residual.result _ c.from_residual.ensures.1 (caused-begin _ _ _ _ c.in_err-begin.ensures.begins);
  may = λ files told. inl (MayEnd-folder (MayBe files (import c.args.text.now c.args.new.now)) c.from_residual.result c.in_err-begin.field-0.0 _ t c.from_residual.ensures.1 c.in_err-begin.ensures.fault);
  by_words = tt;
  one_pass = tt;
  little = tt;
  gained = inl (gained-none _ _);
}

pub returns-in_err-bytes : goal.returns-in_err-bytes
returns-in_err-bytes g c t n = record {
  keeps = keeps-begun _ _ _ _ _ _ _ c.in_ok-begin.ensures.begins c.in_err-bytes.ensures.reads;
  caused = caused-passed _ _ _ _ c.from_residual-in_err-bytes.result _ c.from_residual-in_err-bytes.ensures.1 (caused-begun _ _ _ _ _ _ c.in_ok-begin.ensures.begins c.in_err-bytes.ensures.reads);
  may = λ files told.
      inl (let read = c.in_err-bytes.ensures.told files (c.in_ok-begin.ensures.begins.same_files ∙ told) in
      MayEnd-passed (MayBe files (import c.args.text.now c.args.new.now)) c.from_residual-in_err-bytes.result c.in_err-bytes.field-0.0 _ t c.from_residual-in_err-bytes.ensures.1
      (λ q e. import-refused_early files c.args.text.now c.args.new.now q (defined_refused (import_text files c.args.text.now c.args.new.now) _ q read e)));
  by_words = tt;
  one_pass = tt;
  little = tt;
  gained = inl (gained-none _ _);
}

pub returns-in_err-core : goal.returns-in_err-core
returns-in_err-core g c t n = record {
  keeps = keeps-begun _ _ _ _ _ _ _ c.in_ok-begin.ensures.begins c.in_ok-bytes.ensures.reads;
  caused = caused-passed _ _ _ _ c.from_residual-in_err-core.result _ c.from_residual-in_err-core.ensures.1 (caused-begun _ _ _ _ _ _ c.in_ok-begin.ensures.begins (reads-inside _ _ _ _ c.in_ok-bytes.ensures.reads c.in_err-core.ensures.cause));
  may = λ files told.
      inl (let read = c.in_ok-bytes.ensures.told files (c.in_ok-begin.ensures.begins.same_files ∙ told) in
      MayEnd-passed (MayBe files (import c.args.text.now c.args.new.now)) c.from_residual-in_err-core.result c.in_err-core.field-0.0 _ t c.from_residual-in_err-core.ensures.1
      (λ q e. import-refused files c.args.text.now c.args.new.now c.deref.result.now (read ∙ ap (λ (b : List ℕ). std.Ok b) (sym c.deref.ensures.value)) q (c.in_err-core.ensures.refused q e)));
  by_words = tt;
  one_pass = tt;
  little = tt;
  gained = inl (gained-none _ _);
}

pub returns : goal.returns
returns g c t n = record {
  keeps = keeps-made _ _ _ _ _ _ _ c.in_ok-begin.ensures.begins c.in_ok-bytes.ensures.reads c.store_noted.ensures.writes;
  caused = caused-then _ _ _ _ _ _ _ (caused-begun _ _ _ _ _ _ c.in_ok-begin.ensures.begins c.in_ok-bytes.ensures.reads) (c.store_noted.ensures.caused n);
  may = λ files told.
      inl (let text = c.args.text.now in
      let new = c.args.new.now in
      let told1 = c.in_ok-begin.ensures.begins.same_files ∙ told in
      let told2 = c.in_ok-bytes.ensures.reads.same_files ∙ told1 in
      let read = c.in_ok-bytes.ensures.told files told1 ∙ ap (λ (b : List ℕ). std.Ok b) (sym c.deref.ensures.value) in
      let core = c.deref-2.result.now in
      let notes = std.map string_bytes c.deref-3.result.now in
      MayEnd-stored (MayBe files (import text new)) (map.insert files new (core ++ notes_part notes)) c.store_noted.result _ t
      (import-stored files text new c.deref.result.now read core notes (subst (λ b. IsFileOf c.deref.result.now b notes) (sym c.deref-2.ensures.value) (subst (λ l. IsFileOf c.deref.result.now c.in_ok-core.core.items (std.map string_bytes l)) (sym c.deref-3.ensures.value) c.in_ok-core.ensures.file)))
      (c.store_noted.ensures.stored files told2) c.store_noted.ensures.fault);
  by_words = tt;
  one_pass = tt;
  little = tt;
  gained = inl (gained-none _ _);
}

pub store_noted-requires : goal.store_noted-requires
store_noted-requires g c = record {
  blank = λ b e. c.in_ok-begin.ensures.begins.blank refl b (sym c.in_ok-bytes.ensures.reads.same_draft ∙ e);
  follow = can-follow _ (subst (λ l. AreNotes (std.map string_bytes l)) (sym c.deref-3.ensures.value) c.in_ok-core.ensures.notes);
}
