use Rattle.std.proofs.Common.{sym, subst}
use Rattle.archive_tree.specs.ArchiveView.{archive_view}
use Rattle.archive_tree.specs.Seek.{AreRowsSorted}
use Rattle.archive_tree.specs.View.{nodes_view}
use Rattle.archive_tree.proofs.Versions.{kept_sorted}
use Rattle.archive_tree.proofs.archive.Archive.set_at.Goals as goal

pub follow-requires : goal.follow-requires
follow-requires c = subst (λ ks. AreRowsSorted (nodes_view ks)) (sym c.deref.ensures.value) (kept_sorted (archive_view c.args.self.now) c.args.self.now.stands)
