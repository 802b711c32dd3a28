use Rattle.std.proofs.Common.{inl, map, refl, sym, ◌∙◌}
use Rattle.std.specs.Prelude.{string_bytes}
use Rattle.key_spec.specs.View.{spec_view}
use Rattle.spelled_archive.specs.ArchiveView.{spelled_archive_view}
use Rattle.xarch_words.specs.Commands.{rekey}
use Rattle.xarch_meanings.specs.Meanings.{MayBe}
use Rattle.xarch_parts.specs.FolderLaws.{caused-begin, caused-begun, caused-passed, caused-then, keeps-begun, keeps-made, keeps-not_begun}
use Rattle.xarch_parts.specs.AllowedLaws.{MayEnd-passed, MayEnd-folder, gained-none}
use Rattle.xarch_writes.proofs.RekeyEnds.{reads-sized, stored-may}
use Rattle.xarch_writes.proofs.rekey.run_rekey.Goals as goal

pub returns-in_err-begin : goal.returns-in_err-begin
returns-in_err-begin g c t n = record {
  keeps = keeps-not_begun _ _ _ _ _ _ refl c.in_err-begin.ensures.begins;
  caused = caused-passed _ _ _ _ c.from_residual.result _ c.from_residual.ensures.1 (caused-begin _ _ _ _ c.in_err-begin.ensures.begins);
  may = λ files told. inl (MayEnd-folder (MayBe files (rekey c.args.archive.now c.args.spec.now)) c.from_residual.result c.in_err-begin.field-0.0 _ t c.from_residual.ensures.1 c.in_err-begin.ensures.fault);
  by_words = tt;
  one_pass = tt;
  little = tt;
  gained = inl (gained-none _ _);
}

pub returns-in_err-new : goal.returns-in_err-new
returns-in_err-new g c t n = record {
  keeps = keeps-begun _ _ _ _ _ _ _ c.in_ok-begin.ensures.begins (reads-sized _ _ _ _ _ c.in_ok-begin.ensures.begins.same_files c.in_err-new.ensures.reads);
  caused = caused-passed _ _ _ _ c.from_residual-in_err-new.result _ c.from_residual-in_err-new.ensures.1 (caused-begun _ _ _ _ _ _ c.in_ok-begin.ensures.begins c.in_err-new.ensures.reads);
  may = λ files told.
      inl (MayEnd-passed (MayBe files (rekey c.args.archive.now c.args.spec.now)) c.from_residual-in_err-new.result c.in_err-new.field-0.0 _ t c.from_residual-in_err-new.ensures.1
      (λ q e. c.in_err-new.ensures.refused files q (c.in_ok-begin.ensures.begins.same_files ∙ told) e));
  by_words = tt;
  one_pass = tt;
  little = tt;
  gained = inl (gained-none _ _);
}

pub returns : goal.returns
returns g c t n = record {
  keeps = keeps-made _ _ _ _ _ _ _ c.in_ok-begin.ensures.begins (reads-sized _ _ _ _ _ c.in_ok-begin.ensures.begins.same_files c.in_ok-new.ensures.reads) c.store_rekeyed.ensures.writes;
  caused = caused-then _ _ _ _ _ _ _ (caused-begun _ _ _ _ _ _ c.in_ok-begin.ensures.begins c.in_ok-new.ensures.reads) (c.store_rekeyed.ensures.caused n);
  may = λ files told.
      inl (let told1 = c.in_ok-begin.ensures.begins.same_files ∙ told in
      let told2 = c.in_ok-new.ensures.reads.same_files ∙ told1 in
      let new = c.in_ok-new.new in
      stored-may files c.args.archive.now c.args.spec.now (spec_view new.spec) (spelled_archive_view new.archive) (map string_bytes new.notes.items) (c.in_ok-new.ensures.stored files told1)
      _ t _ (c.store_rekeyed.ensures.ends files told2));
  by_words = tt;
  one_pass = tt;
  little = tt;
  gained = inl (gained-none _ _);
}

pub store_rekeyed-requires : goal.store_rekeyed-requires
store_rekeyed-requires g c = record { blank = λ b e. c.in_ok-begin.ensures.begins.blank refl b (sym c.in_ok-new.ensures.reads.same_draft ∙ e); follow = c.in_ok-new.ensures.follow; written = c.in_ok-new.ensures.written }
