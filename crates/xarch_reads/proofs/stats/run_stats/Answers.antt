use Rattle.std.proofs.Common.{inl, ◌∙◌}
use Rattle.archive_stats.specs.View.{counts_view}
use Rattle.xarch_words.specs.Commands.{stats}
use Rattle.xarch_meanings.specs.Meanings.{MayBe}
use Rattle.xarch_parts.specs.Counts.{counts_text}
use Rattle.xarch_parts.specs.FolderLaws.{caused-passed, caused-read, caused-written, keeps-read}
use Rattle.xarch_parts.specs.AllowedLaws.{MayEnd-passed, MayEnd-written, gained-none, gained-written, tells_same}
use Rattle.xarch_reads.proofs.stats.run_stats.Goals as goal

pub returns-in_err-counts : goal.returns-in_err-counts
returns-in_err-counts g c = record {
  keeps = keeps-read _ _ _ _ _ c.in_err-counts.ensures.reads;
  caused = caused-passed _ _ _ _ c.from_residual.result _ c.from_residual.ensures.1 (caused-read _ _ _ _ _ c.in_err-counts.ensures.reads);
  may = λ files told. inl (MayEnd-passed (MayBe files (stats c.args.archive.now)) c.from_residual.result c.in_err-counts.field-0.0 _ _ c.from_residual.ensures.1 (λ q e. c.in_err-counts.ensures.refused files q told e));
  by_words = tt;
  one_pass = tt;
  little = tt;
  gained = inl (gained-none _ _);
}

pub returns : goal.returns
returns g c = record {
  keeps = keeps-read _ _ _ _ _ c.in_ok-counts.ensures.reads;
  caused = caused-written _ _ _ _ _ _ c.in_ok-counts.ensures.reads c.write_counts.ensures.later c.write_counts.ensures.cause;
  may = λ files told.
      inl (MayEnd-written (MayBe files (stats c.args.archive.now)) (record { files = files; output = counts_text (counts_view c.in_ok-counts.counts) }) c.write_counts.result _ _ _ _ _
      (c.in_ok-counts.ensures.counts files told) (tells_same _ files (c.in_ok-counts.ensures.reads.same_files ∙ told)) c.write_counts.ensures.bytes c.write_counts.ensures.cause);
  by_words = tt;
  one_pass = tt;
  little = tt;
  gained = inl (gained-written c.write_counts.result _ _ _ _ _ c.write_counts.ensures.bytes c.write_counts.ensures.cause);
}
