use Rattle.std.proofs.Common.{inl, ◌∙◌}
use Rattle.xarch_words.specs.Commands.{check}
use Rattle.xarch_meanings.specs.Meanings.{MayBe}
use Rattle.xarch_meanings.specs.Check.{check_text}
use Rattle.xarch_parts.specs.FolderLaws.{caused-passed, caused-read, caused-written, keeps-read}
use Rattle.xarch_parts.specs.AllowedLaws.{MayEnd-passed, MayEnd-written, gained-none, gained-written, tells_same}
use Rattle.xarch_reads.proofs.check.run_check.Goals as goal

pub returns-in_err-versions : goal.returns-in_err-versions
returns-in_err-versions g c = record {
  keeps = keeps-read _ _ _ _ _ c.in_err-versions.ensures.reads;
  caused = caused-passed _ _ _ _ c.from_residual.result _ c.from_residual.ensures.1 (caused-read _ _ _ _ _ c.in_err-versions.ensures.reads);
  may = λ files told. inl (MayEnd-passed (MayBe files (check c.args.archive.now)) c.from_residual.result c.in_err-versions.field-0.0 _ _ c.from_residual.ensures.1 (λ q e. c.in_err-versions.ensures.refused files q told e));
  by_words = tt;
  one_pass = tt;
  little = tt;
  gained = inl (gained-none _ _);
}

pub returns : goal.returns
returns g c = record {
  keeps = keeps-read _ _ _ _ _ c.in_ok-versions.ensures.reads;
  caused = caused-written _ _ _ _ _ _ c.in_ok-versions.ensures.reads c.write_count.ensures.later c.write_count.ensures.cause;
  may = λ files told.
      inl (MayEnd-written (MayBe files (check c.args.archive.now)) (record { files = files; output = check_text c.in_ok-versions.versions }) c.write_count.result _ _ _ _ _
      (c.in_ok-versions.ensures.versions files told) (tells_same _ files (c.in_ok-versions.ensures.reads.same_files ∙ told)) c.write_count.ensures.bytes c.write_count.ensures.cause);
  by_words = tt;
  one_pass = tt;
  little = tt;
  gained = inl (gained-written c.write_count.result _ _ _ _ _ c.write_count.ensures.bytes c.write_count.ensures.cause);
}
