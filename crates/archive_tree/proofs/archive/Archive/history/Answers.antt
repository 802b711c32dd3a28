use Rattle.std.proofs.Common.{◌∙◌, ◌↔◌, IsTrue, map, sym, subst}
use Rattle.std.proofs.lemmas.Result.{IfOk-weaker}
use Rattle.version_set.specs.Members.{has}
use Rattle.keyed_tree.specs.Holds.{Holds}
use Rattle.keyed_tree.specs.View.{label_view}
use Rattle.archive_tree.specs.ArchiveView.{archive_view}
use Rattle.archive_tree.proofs.Histories.{seek_hist}
use Rattle.archive_tree.proofs.Versions.{hist_holds}
use Rattle.archive_tree.proofs.archive.Archive.history.Goals as goal

pub returns-clause-members : goal.returns-clause-members
returns-clause-members c = λ vs h.
    IfOk-weaker c.set_at.result _ _ (λ s e. e ∙ seek_hist vs (archive_view c.args.self.now) (map label_view c.args.path.now) h) c.set_at.ensures

pub returns-clause-holds : goal.returns-clause-holds
returns-clause-holds c = λ vs h.
    IfOk-weaker c.set_at.result _ _ (λ s e i k v. (
    let path = map label_view c.args.path.now in
    let same = e ∙ seek_hist vs (archive_view c.args.self.now) path h in
    subst (λ ns. IsTrue (has ns i) ↔ Holds path k) (sym same) (hist_holds vs (archive_view c.args.self.now) h path i k v))) c.set_at.ensures
