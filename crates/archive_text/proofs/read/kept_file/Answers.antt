use Rattle.std.proofs.Common.{true≢false, sym, ◌∙◌}
use Rattle.archive_text.proofs.ReadWhole.{any_some}
use Rattle.archive_text.proofs.read.kept_file.Goals as goal

pub returns-then-not-branch-clause-complete : goal.returns-then-not-branch-clause-complete
returns-then-not-branch-clause-complete c = λ vs file is full text. absurd (true≢false (sym (c.in_ok-is_text.ensures.1 text) ∙ c.if-not-branch.true))

pub returns-clause-text : goal.returns-clause-text
returns-clause-text c = any_some _ c.file_with_notes.result (λ v. c.in_ok-is_text.ensures.0 c.if-not-branch.false)

pub returns-clause-complete : goal.returns-clause-complete
returns-clause-complete c = λ vs file is full text. c.file_with_notes.ensures.complete vs file is full
