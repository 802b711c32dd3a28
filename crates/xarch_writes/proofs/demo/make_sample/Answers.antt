use Rattle.std.proofs.Common.{◌≡◌, inl, inr, List, ℕ, Ok, Err, sym, ap, subst, arith}
use Rattle.archive_stats.specs.View.{counts_view}
use Rattle.xarch_meanings.specs.Demo.{IsSampleFile, MakesOrNone, told_and_stored}
use Rattle.xarch_parts.specs.FolderLaws.{caused-inside, caused-passed, writes-none}
use Rattle.xarch_parts.specs.AllowedLaws.{MayEnd-more, MayEnd-passed, gained-none}
use Rattle.xarch_writes.proofs.demo.make_sample.Goals as goal

pub returns-in_err-bytes-clause-writes : goal.returns-in_err-bytes-clause-writes
returns-in_err-bytes-clause-writes g c = writes-none _ _ (g.met.F.Folder.metered c.args.folder.now)

pub returns-in_err-bytes-clause-caused : goal.returns-in_err-bytes-clause-caused
returns-in_err-bytes-clause-caused g c = caused-passed _ _ _ _ c.from_residual.result _ c.from_residual.ensures.1 (caused-inside _ _ _ _ (omega arith) c.in_err-bytes.ensures.cause)

pub returns-in_err-bytes-clause-may : goal.returns-in_err-bytes-clause-may
returns-in_err-bytes-clause-may g c = λ files told.
    MayEnd-passed (MakesOrNone files c.args.archive.now c.args.seed c.args.count) c.from_residual.result c.in_err-bytes.field-0.0 _ _ c.from_residual.ensures.1
    (λ q e. inr (record { none = λ b. c.in_err-bytes.ensures.too_long q b e; is = ap (λ s. Err s) (c.in_err-bytes.ensures.limit q e) }))

pub returns-clause-may : goal.returns-clause-may
returns-clause-may g c = λ files told.
    let counts = counts_view c.in_ok-bytes.counts in
    let bytes = c.deref.result.now in
    let file : IsSampleFile c.args.seed c.args.count bytes counts = subst (λ (b : List ℕ). IsSampleFile c.args.seed c.args.count b counts) (sym c.deref.ensures.value) c.in_ok-bytes.ensures.made in
    MayEnd-more (λ r. r ≡ Ok (told_and_stored files c.args.archive.now bytes counts)) (MakesOrNone files c.args.archive.now c.args.seed c.args.count) (λ r e. inl (record { bytes = bytes; tally = counts; made = file; is = e })) _ _ _ _
    (c.tell_then_store.ensures.may files told)

pub returns-in_err-bytes-clause-gained : goal.returns-in_err-bytes-clause-gained
returns-in_err-bytes-clause-gained g c = gained-none _ _

pub returns-clause-gained : goal.returns-clause-gained
returns-clause-gained g c = c.tell_then_store.ensures.gained
