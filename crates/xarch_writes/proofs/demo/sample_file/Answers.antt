use Rattle.std.proofs.Common.{subst, sym}
use Rattle.key_spec.specs.View.{spec_view}
use Rattle.archive_tree.specs.ArchiveView.{archive_view}
use Rattle.record_format.specs.Files.{FileOf}
use Rattle.xarch_meanings.specs.Demo.{samples}
use Rattle.xarch_parts.specs.EndLaws.{IfOk-passed, inside-passed}
use Rattle.xarch_parts.specs.AllowedLaws.{IfErr-passed}
use Rattle.xarch_writes.proofs.SampleLemmas.{few_versions, only_keyed}
use Rattle.xarch_writes.proofs.demo.sample_file.Goals as goal

pub file_from-requires-clause-few : goal.file_from-requires-clause-few
file_from-requires-clause-few c = few_versions c.args.seed c.args.count (archive_view c.in_ok-archive.archive) c.in_ok-archive.ensures c.requires

pub file_from-requires-clause-keyed : goal.file_from-requires-clause-keyed
file_from-requires-clause-keyed c = only_keyed c.archives_stand_for_one_list.ensures.one_list (spec_view c.in_ok-spec.spec) c.args.seed c.args.count (archive_view c.in_ok-archive.archive) c.in_ok-spec.ensures.rules c.in_ok-archive.ensures

pub counts_of-requires-clause-keyed : goal.counts_of-requires-clause-keyed
counts_of-requires-clause-keyed c = only_keyed c.archives_stand_for_one_list.ensures.one_list (spec_view c.in_ok-spec.spec) c.args.seed c.args.count (archive_view c.in_ok-archive.archive) c.in_ok-spec.ensures.rules c.in_ok-archive.ensures

pub returns-in_err-bytes-clause-cause : goal.returns-in_err-bytes-clause-cause
returns-in_err-bytes-clause-cause c = inside-passed c.from_residual-in_err-bytes.result _ c.from_residual-in_err-bytes.ensures.1 c.in_err-bytes.ensures.cause

pub returns-in_err-bytes-clause-made : goal.returns-in_err-bytes-clause-made
returns-in_err-bytes-clause-made c = IfOk-passed c.from_residual-in_err-bytes.result _ _ c.from_residual-in_err-bytes.ensures.1

pub returns-in_err-bytes-clause-limit : goal.returns-in_err-bytes-clause-limit
returns-in_err-bytes-clause-limit c = IfErr-passed c.from_residual-in_err-bytes.result _ _ c.from_residual-in_err-bytes.ensures.1 c.in_err-bytes.ensures.limit

pub returns-in_err-bytes-clause-too_long : goal.returns-in_err-bytes-clause-too_long
returns-in_err-bytes-clause-too_long c = λ q bytes. IfErr-passed c.from_residual-in_err-bytes.result _ _ c.from_residual-in_err-bytes.ensures.1
    (λ e file. c.in_err-bytes.ensures.too_long (samples c.args.seed c.args.count) bytes c.in_ok-archive.ensures.archive (subst (λ r. FileOf r (samples c.args.seed c.args.count) bytes) (sym c.in_ok-spec.ensures.rules) file) q e)
