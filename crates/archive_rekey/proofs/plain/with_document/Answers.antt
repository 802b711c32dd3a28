use Rattle.std.proofs.Common.{[], ◌∷◌, ◌++◌, subst, sym}
use Rattle.keyed_tree.specs.Data.{PlainKeyed}
use Rattle.key_spec.specs.View.{spec_view}
use Rattle.key_annotate.specs.LentView.{lent_view}
use Rattle.archive_tree.specs.ArchiveView.{archive_view}
use Rattle.archive_tree.specs.Stands.{ArchiveOf}
use Rattle.nested_merge.specs.Alike.{AlikeAll}
use Rattle.archive_rekey.proofs.Rekeyings.{alike}
use Rattle.archive_rekey.proofs.plain.with_document.Goals as goal

pub merge-requires-clause-alike : goal.merge-requires-clause-alike
merge-requires-clause-alike c = λ us is.
    subst (AlikeAll us) (sym c.in_ok-version.ensures)
    (alike c.keyed_versions_can_be_merged.ensures.alike (spec_view c.args.spec.now) us (lent_view c.in_ok-lent.lent) (c.requires.keyed us is) c.in_ok-lent.ensures.keyed)

pub returns-in-Ok-clause-next : goal.returns-in-Ok-clause-next
returns-in-Ok-clause-next c =
    record {
      tree = lent_view c.in_ok-lent.lent;
      stands = c.in_ok-lent.ensures.version;
      keyed = c.in_ok-lent.ensures.keyed;
      archive = λ us is. subst (λ (k : PlainKeyed). ArchiveOf (us ++ k ∷ []) (archive_view c.in-Ok.archive)) c.in_ok-version.ensures (c.in-Ok.ensures.archive us is);
    }
