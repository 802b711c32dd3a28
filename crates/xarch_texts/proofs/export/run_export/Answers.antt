use Rattle.std.proofs.Common.{inl, ◌≡◌, [], arith, sym, subst, ◌∙◌}
use Rattle.std.specs.FinMap as map
use Rattle.xarch_words.specs.Commands.{export}
use Rattle.xarch_meanings.specs.Meanings.{MayBe}
use Rattle.xarch_parts.specs.AllowedLaws.{MayEnd-more, MayEnd-passed, MayEnd-told, gained-may, gained-none}
use Rattle.xarch_parts.specs.FolderLaws.{caused-passed, caused-read, caused-then, keeps-read}
use Rattle.xarch_texts.specs.Kept.{exported}
use Rattle.xarch_texts.proofs.export.run_export.Goals as goal

pub returns-in_err-kept : goal.returns-in_err-kept
returns-in_err-kept g c = let k = c.in_err-kept.ensures in record {
  keeps = keeps-read _ _ _ _ _ k.reads;
  caused = caused-passed _ _ _ _ c.from_residual.result _ c.from_residual.ensures.1 (caused-read _ _ _ _ _ k.reads);
  may = λ files told. inl (MayEnd-passed (MayBe files (export c.args.archive.now)) c.from_residual.result c.in_err-kept.field-0.0 _ _ c.from_residual.ensures.1 (λ q e. k.refuses files q told e));
  by_words = tt;
  one_pass = tt;
  little = tt;
  gained = inl (gained-none _ _);
}

pub returns : goal.returns
returns g c = let k = c.in_ok-kept.ensures in let kept = c.in_ok-kept.kept in let w = c.write_kept.ensures in record {
  keeps = keeps-read _ _ _ _ _ k.reads;
  caused = caused-then _ _ _ _ _ _ _ (caused-read _ _ _ _ _ k.reads) (w.caused _ _ (omega arith));
  may = λ files told.
      inl (MayEnd-told _ files _ _ _ _ (k.reads.same_files ∙ told)
      (MayEnd-more (λ r. r ≡ exported files kept) (MayBe files (export c.args.archive.now)) (λ r e. subst (MayBe files (export c.args.archive.now)) (sym e) (k.given files told)) _ _ _ _ (w.may files)));
  by_words = tt;
  one_pass = tt;
  little = tt;
  gained = inl (gained-may _ _ _ _ _ (w.may (map.from_entries [])));
}
