use Rattle.std.proofs.Common.{◌≡◌, Ok, refl, arith, ◌∙◌}
use Rattle.archive_stats.specs.View.{counts_view}
use Rattle.xarch_meanings.specs.Demo.{told_and_stored}
use Rattle.xarch_parts.specs.FolderLaws.{caused-output, caused-passed, caused-then, writes-kept, writes-passed, writes-then}
use Rattle.xarch_parts.specs.AllowedLaws.{MayEnd-committed, MayEnd-folder, MayEnd-put_failed, commit-tells, gained-committed, gained-none, gained-put_failed}
use Rattle.xarch_writes.proofs.demo.tell_then_store.Goals as goal

pub returns-in_err-draft-clause-writes : goal.returns-in_err-draft-clause-writes
returns-in_err-draft-clause-writes g c = writes-passed _ _ c.from_residual.result _ c.from_residual.ensures.1 c.in_err-draft.ensures.writes

pub returns-in_err-draft-clause-caused : goal.returns-in_err-draft-clause-caused
returns-in_err-draft-clause-caused g c = caused-passed _ _ _ _ c.from_residual.result _ c.from_residual.ensures.1 (c.in_err-draft.ensures.caused _)

pub returns-in_err-draft-clause-may : goal.returns-in_err-draft-clause-may
returns-in_err-draft-clause-may g c = λ files told.
    MayEnd-folder (λ r. r ≡ Ok (told_and_stored files c.args.name.now c.args.bytes.now (counts_view c.args.counts.now))) c.from_residual.result c.in_err-draft.field-0.0 _ _ c.from_residual.ensures.1 c.in_err-draft.ensures.fault

pub returns-in_err-write_counts-clause-writes : goal.returns-in_err-write_counts-clause-writes
returns-in_err-write_counts-clause-writes g c = writes-kept _ _ _ _ c.in_ok-draft.ensures.writes c.in_ok-draft.ensures.files

pub returns-in_err-write_counts-clause-caused : goal.returns-in_err-write_counts-clause-caused
returns-in_err-write_counts-clause-caused g c = caused-passed _ _ _ _ c.from_residual-in_err-write_counts.result _ c.from_residual-in_err-write_counts.ensures.1 (caused-then _ _ _ _ _ _ _ (c.in_ok-draft.ensures.caused _) (caused-output _ _ _ _ _ (omega arith) c.in_err-write_counts.ensures.later c.in_err-write_counts.ensures.cause))

pub returns-in_err-write_counts-clause-may : goal.returns-in_err-write_counts-clause-may
returns-in_err-write_counts-clause-may g c = λ files told.
    let outcome = told_and_stored files c.args.name.now c.args.bytes.now (counts_view c.args.counts.now) in
    MayEnd-put_failed (λ r. r ≡ Ok outcome) outcome c.from_residual-in_err-write_counts.result c.in_err-write_counts.field-0.0 _ _ _ _ _ c.from_residual-in_err-write_counts.ensures.1 refl c.in_err-write_counts.ensures.bytes
    c.in_err-write_counts.ensures.cause

pub returns-clause-writes : goal.returns-clause-writes
returns-clause-writes g c = writes-then _ _ _ _ c.in_ok-draft.ensures.writes c.in_ok-draft.ensures.files c.commit.ensures.writes

pub returns-clause-caused : goal.returns-clause-caused
returns-clause-caused g c = caused-then _ _ _ _ _ _ _ (caused-then _ _ _ _ _ _ _ (c.in_ok-draft.ensures.caused _) (caused-output _ _ _ _ _ (omega arith) c.in_ok-write_counts.ensures.later c.in_ok-write_counts.ensures.cause)) (c.commit.ensures.caused _)

pub returns-clause-may : goal.returns-clause-may
returns-clause-may g c = λ files told.
    let outcome = told_and_stored files c.args.name.now c.args.bytes.now (counts_view c.args.counts.now) in
    MayEnd-committed (λ r. r ≡ Ok outcome) outcome c.commit.result _ _ _ refl c.in_ok-write_counts.ensures.bytes
    (commit-tells c.commit.result files _ _ _ c.args.name.now c.args.bytes.now c.commit.ensures.committed (c.in_ok-draft.ensures.files ∙ told) c.in_ok-draft.ensures.drafted) c.commit.ensures.fault

pub returns-in_err-draft-clause-gained : goal.returns-in_err-draft-clause-gained
returns-in_err-draft-clause-gained g c = gained-none _ _

pub returns-in_err-write_counts-clause-gained : goal.returns-in_err-write_counts-clause-gained
returns-in_err-write_counts-clause-gained g c = gained-put_failed c.from_residual-in_err-write_counts.result _ _ _ _ _ _ c.from_residual-in_err-write_counts.ensures.1 c.in_err-write_counts.ensures.bytes c.in_err-write_counts.ensures.cause

pub returns-clause-gained : goal.returns-clause-gained
returns-clause-gained g c = gained-committed c.commit.result _ _ _ c.in_ok-write_counts.ensures.bytes c.commit.ensures.fault
