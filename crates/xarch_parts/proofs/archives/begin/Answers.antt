use Rattle.std.proofs.Common.{inl, inr, ◌∙◌}
use Rattle.xarch_parts.specs.Ends.{IsInside, IsOfFolder}
use Rattle.xarch_parts.specs.FolderLaws.{begun_told, emptied_blank, emptied_untold}
use Rattle.xarch_parts.proofs.archives.begin.Goals as goal

pub returns-in-Ok-clause-begins : goal.returns-in-Ok-clause-begins
unfolding IsInside IsOfFolder
returns-in-Ok-clause-begins g c = record {
  same_files = c.begin.ensures.files;
  blank = λ _. emptied_blank _ _ c.in-Ok.ensures.draft;
  draft_untold = emptied_untold _ _ c.in-Ok.ensures.draft;
  draft_told = begun_told _ _ (inl c.in-Ok.ensures.draft);
  begun = λ _. c.in-Ok.ensures.numbers;
  failed = λ some. cc;
  later = c.begin.ensures.cause.later;
  cause = tt;
}

pub returns-in-Err-clause-begins : goal.returns-in-Err-clause-begins
unfolding IsInside IsOfFolder
returns-in-Err-clause-begins g c = record {
  same_files = c.begin.ensures.files;
  blank = λ none. cc;
  draft_untold = λ e. c.in-Err.ensures.draft_err ∙ e;
  draft_told = begun_told _ _ (inr c.in-Err.ensures.draft_err);
  begun = λ none. cc;
  failed = λ _. c.in-Err.ensures.numbers_err;
  later = c.begin.ensures.cause.later;
  cause = c.in-Err.ensures.cause.failed;
}
