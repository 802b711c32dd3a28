use Rattle.std.proofs.Common.{IsTrue, sym, subst}
use Rattle.std.proofs.lemmas.Bool.{and_parts}
use Rattle.archive_tree.specs.ArchiveView.{archive_view}
use Rattle.archive_tree.specs.Seek.{rise, are_sorted}
use Rattle.archive_tree.specs.Stands.{labels}
use Rattle.archive_tree.proofs.Versions.{kept_sorted}
use Rattle.archive_file.proofs.keyedness.are_nodes_keyed.Goals as goal

pub nodes_fit-requires : goal.nodes_fit-requires
nodes_fit-requires c =
    let a = archive_view c.args.archive.now in
    let sorted = and_parts (rise (labels a.kids)) (are_sorted a.kids) (kept_sorted a c.args.archive.now.stands) in
    subst (λ ks. IsTrue (are_sorted ks)) (sym c.kids-then-are_shallow.ensures.nodes) sorted.1
