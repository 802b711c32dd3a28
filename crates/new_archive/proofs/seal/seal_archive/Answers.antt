use Rattle.std.proofs.Common.{◌≡◌, ◌∙◌, map, ap, sym, subst}
use Rattle.version_set.specs.Members.{upto_pairs}
use Rattle.archive_tree.specs.Data.{PlainNodes, nodes_from}
use Rattle.archive_tree.specs.Stands.{Kept}
use Rattle.spelled_archive.specs.View.{nodes_view}
use Rattle.new_archive.specs.Full.{fulls_from}
use Rattle.new_archive.specs.Sealed.{seal, seal_row}
use Rattle.new_archive.specs.View.{row_view}
use Rattle.new_archive.proofs.Views.{seal_row-fulls_from}
use Rattle.new_archive.proofs.seal.seal_archive.Goals as goal

pub new-requires : goal.new-requires
new-requires c =
    let row = row_view c.into_parts-n.result.1.items in
    let made : nodes_view c.in_ok-nodes.nodes.items ≡ seal_row (upto_pairs c.into_parts-n.result.0) (fulls_from row) = ap nodes_from (c.in_ok-nodes.ensures ∙ ap (λ q. map (seal q) row) c.upto-all.ensures.pairs) ∙ sym (seal_row-fulls_from (upto_pairs c.into_parts-n.result.0) row) in
    subst (λ (z : PlainNodes). ∥ Kept (record { n = c.into_parts-n.result.0; kids = z }) ∥₁) (sym made) c.into_parts-n.ensures.stands

pub returns : goal.returns
returns c =
    let row = row_view c.into_parts-n.result.1.items in
    let made : nodes_view c.in_ok-nodes.nodes.items ≡ seal_row (upto_pairs c.into_parts-n.result.0) (fulls_from row) = ap nodes_from (c.in_ok-nodes.ensures ∙ ap (λ q. map (seal q) row) c.upto-all.ensures.pairs) ∙ sym (seal_row-fulls_from (upto_pairs c.into_parts-n.result.0) row) in
    c.new.ensures ∙ (λ i. record { n = c.into_parts-n.result.0; kids = made i }) ∙ c.into_parts-n.ensures.parts
