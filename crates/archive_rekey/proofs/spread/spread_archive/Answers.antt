use Rattle.std.proofs.Common.{◌≡◌, ◌∙◌, map, length, ap, sym, subst}
use Rattle.archive_tree.specs.Data.{PlainArchive}
use Rattle.archive_tree.specs.Stands.{Kept}
use Rattle.spelled_archive.specs.ArchiveView.{spelled_archive_view}
use Rattle.spelled_archive.specs.View.{node_view, nodes_view}
use Rattle.version_runs.specs.Spread.{AreNodesWithin}
use Rattle.archive_rekey.proofs.SpreadRows.{kept-spread, kept-within, spread-archive-is, within-from}
use Rattle.archive_rekey.proofs.spread.spread_archive.Goals as goal

pub spread_nodes-requires-clause-within : goal.spread_nodes-requires-clause-within
spread_nodes-requires-clause-within c =
    let a = spelled_archive_view c.args.archive in
    let kept = c.archives_stand_for_one_list.ensures.told a c.args.archive.stands in
    let nodes : nodes_view c.into_parts-nodes.result.1.items ≡ a.kids = ap (λ (z : PlainArchive). z.kids) c.into_parts-nodes.ensures.parts in
    within-from (length c.args.starts.now) (map node_view c.into_parts-nodes.result.1.items)
    (subst (λ z. AreNodesWithin (length c.args.starts.now) z) (sym nodes) (kept-within (length c.args.starts.now) a c.requires.count kept))

pub new-requires : goal.new-requires
new-requires c =
    let a = spelled_archive_view c.args.archive in
    let kept = c.archives_stand_for_one_list.ensures.told a c.args.archive.stands in
    let is = spread-archive-is c.args.starts.now c.args.last a _ _ _ c.into_parts-nodes.ensures.parts c.in_ok-nodes.ensures in
    subst (λ (z : PlainArchive). ∥ Kept z ∥₁) (sym is) ∣ kept-spread c.args.starts.now c.args.last a c.requires.starts c.requires.count kept ∣₁

pub returns : goal.returns
returns c = c.new.ensures ∙ spread-archive-is c.args.starts.now c.args.last (spelled_archive_view c.args.archive) _ _ _ c.into_parts-nodes.ensures.parts c.in_ok-nodes.ensures
