use Rattle.std.proofs.Common.{◌∙◌, arith}
use Rattle.archive_stats.specs.View.{counts_view}
use Rattle.xarch_words.specs.View.{fault_view}
use Rattle.xarch_parts.specs.Ends.{IsInside, IsOfFolder}
use Rattle.xarch_parts.specs.Inputs.{file_of}
use Rattle.xarch_parts.specs.InputLaws.{IsDefined-file}
use Rattle.xarch_parts.specs.Readings.{parts_of}
use Rattle.xarch_parts.specs.EndLaws.{IfOk-passed, IsDefined-here, IsOfFolder-inside}
use Rattle.xarch_parts.specs.FolderLaws.{reads-more, reads-passed, reads-then}
use Rattle.xarch_parts.specs.AllowedLaws.{IfErr-passed, defined_refused}
use Rattle.xarch_meanings.specs.Stats.{stats_input}
use Rattle.xarch_reads.proofs.PartEnds.{behind}
use Rattle.xarch_reads.proofs.StatsEnds.{may_refuse_early, may_count, may_refuse, refuses_only}
use Rattle.xarch_reads.proofs.stats.counts_in.Goals as goal

pub returns-in_err-size-clause-reads : goal.returns-in_err-size-clause-reads
returns-in_err-size-clause-reads g c = reads-passed _ _ _ c.from_residual.result _ c.from_residual.ensures.1 (reads-more 0 _ _ _ _ (omega arith) c.in_err-size.ensures.reads)

pub returns-in_err-size-clause-counts : goal.returns-in_err-size-clause-counts
returns-in_err-size-clause-counts g c = λ files told. IfOk-passed c.from_residual.result _ _ c.from_residual.ensures.1

pub returns-in_err-size-clause-refused : goal.returns-in_err-size-clause-refused
returns-in_err-size-clause-refused g c = λ files q told.
    let name = c.args.archive.now in
    let v = fault_view c.in_err-size.field-0.0 in
    IfErr-passed c.from_residual.result c.in_err-size.field-0.0 _ c.from_residual.ensures.1
    (λ e. may_refuse_early c.full_files_have_parts.ensures.parts files name q (defined_refused (stats_input files name) v q (IsDefined-here (file_of files name) (parts_of name) v (IsDefined-file (file_of files name) v (c.in_err-size.ensures.told files told))) e))

pub returns-in_err-parts-clause-reads : goal.returns-in_err-parts-clause-reads
returns-in_err-parts-clause-reads g c = reads-passed _ _ _ c.from_residual-in_err-parts.result _ c.from_residual-in_err-parts.ensures.1 (reads-then 0 16 _ _ _ _ _ (omega arith) c.in_ok-size.ensures.reads c.in_err-parts.ensures.reads)

pub returns-in_err-parts-clause-counts : goal.returns-in_err-parts-clause-counts
returns-in_err-parts-clause-counts g c = λ files told. IfOk-passed c.from_residual-in_err-parts.result _ _ c.from_residual-in_err-parts.ensures.1

pub returns-in_err-parts-clause-refused : goal.returns-in_err-parts-clause-refused
returns-in_err-parts-clause-refused g c = λ files q told.
    let name = c.args.archive.now in
    IfErr-passed c.from_residual-in_err-parts.result c.in_err-parts.field-0.0 _ c.from_residual-in_err-parts.ensures.1
    (λ e. may_refuse_early c.full_files_have_parts.ensures.parts files name q
    (defined_refused (stats_input files name) _ q (c.in_err-parts.ensures.told files (c.in_ok-size.ensures.reads.same_files ∙ told) (c.in_ok-size.ensures.told files told)) e))

pub returns-in-Ok-clause-counts : goal.returns-in-Ok-clause-counts
returns-in-Ok-clause-counts g c = λ files told.
    let told1 = c.in_ok-size.ensures.reads.same_files ∙ told in
    let told2 = c.in_ok-parts.ensures.reads.same_files ∙ told1 in
    let long = c.in_ok-size.ensures.told files told in
    may_count c.full_files_have_parts.ensures.parts files c.args.archive.now c.in_ok-parts.parts (c.in_ok-parts.ensures.are files told1 long) c.in_ok-size.size (counts_view c.in-Ok.counts) long
    (λ bytes rules vs a front sound of. c.in-Ok.ensures.counts files bytes rules vs a told2 front sound of)

pub returns-in-Err-Damage-clause-refused : goal.returns-in-Err-Damage-clause-refused
returns-in-Err-Damage-clause-refused g c = λ files q told e.
    let unsound = rw c.in-Err-Damage.field-0-is at c.in-Err-Damage.ensures.damage in
    let told1 = c.in_ok-size.ensures.reads.same_files ∙ told in
    let told2 = c.in_ok-parts.ensures.reads.same_files ∙ told1 in
    let long = c.in_ok-size.ensures.told files told in
    refuses_only files c.args.archive.now q (c.damaged.ensures.only q e)
    (may_refuse c.full_files_have_parts.ensures.parts files c.args.archive.now c.in_ok-parts.parts (c.in_ok-parts.ensures.are files told1 long) (λ bytes rules vs front sound. unsound files bytes told2 front rules vs sound))

pub returns-in-Ok-clause-reads : goal.returns-in-Ok-clause-reads
unfolding IsOfFolder IsInside
returns-in-Ok-clause-reads g c = behind c.in_ok-size.size c.in_ok-parts.parts _ _ _ _ _ _ c.in_ok-size.ensures.size c.in_ok-parts.ensures.within c.in_ok-size.ensures.reads c.in_ok-parts.ensures.reads
    (record { same_files = c.stats.ensures.files; same_draft = c.stats.ensures.draft; pulls = c.stats.ensures.numbers; later = c.stats.ensures.later; cause = tt })

pub returns-in-Err-Damage-clause-reads : goal.returns-in-Err-Damage-clause-reads
returns-in-Err-Damage-clause-reads g c = behind c.in_ok-size.size c.in_ok-parts.parts _ _ _ _ _ _ c.in_ok-size.ensures.size c.in_ok-parts.ensures.within c.in_ok-size.ensures.reads c.in_ok-parts.ensures.reads
    (record { same_files = c.stats.ensures.files; same_draft = c.stats.ensures.draft; pulls = c.stats.ensures.numbers; later = c.stats.ensures.later; cause = IsOfFolder-inside _ _ _ c.damaged.ensures.inside })

pub returns-in-Err-Folder-clause-reads : goal.returns-in-Err-Folder-clause-reads
unfolding IsOfFolder
returns-in-Err-Folder-clause-reads g c = behind c.in_ok-size.size c.in_ok-parts.parts _ _ _ _ _ _ c.in_ok-size.ensures.size c.in_ok-parts.ensures.within c.in_ok-size.ensures.reads c.in_ok-parts.ensures.reads
    (record { same_files = c.stats.ensures.files; same_draft = c.stats.ensures.draft; pulls = c.stats.ensures.numbers; later = c.stats.ensures.later; cause = rw c.in-Err-Folder.field-0-is at c.in-Err-Folder.ensures.cause })

pub returns-in-Err-Memory-clause-reads : goal.returns-in-Err-Memory-clause-reads
unfolding IsOfFolder IsInside
returns-in-Err-Memory-clause-reads g c = behind c.in_ok-size.size c.in_ok-parts.parts _ _ _ _ _ _ c.in_ok-size.ensures.size c.in_ok-parts.ensures.within c.in_ok-size.ensures.reads c.in_ok-parts.ensures.reads
    (record { same_files = c.stats.ensures.files; same_draft = c.stats.ensures.draft; pulls = c.stats.ensures.numbers; later = c.stats.ensures.later; cause = tt })
