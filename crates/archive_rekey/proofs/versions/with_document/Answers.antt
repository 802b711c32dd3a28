use Rattle.key_spec.specs.View.{spec_view}
use Rattle.key_annotate.specs.LentView.{lent_view}
use Rattle.archive_rekey.proofs.Rekeyings.{alike}
use Rattle.archive_rekey.proofs.versions.with_document.Goals as goal

pub merge_lent-requires-clause-alike : goal.merge_lent-requires-clause-alike
merge_lent-requires-clause-alike c = λ us is.
    alike c.keyed_versions_can_be_merged.ensures.alike (spec_view c.args.spec.now) us (lent_view c.in_ok-version.version) (c.requires.keyed us is) c.in_ok-version.ensures.keyed
