use Rattle.std.proofs.Common.{◌≡◌, length, arith, refl, subst}
use Rattle.jsonml_tree.specs.LentView.{lent_tree_view}
use Rattle.jsonml_text.specs.Straight.{HasTree}
use Rattle.jsonml_text.proofs.Straightness.{document_read}
use Rattle.jsonml_text.proofs.straight.read_straight.Goals as goal

pub returns-then-is_whole-clause-kept : goal.returns-then-is_whole-clause-kept
returns-then-is_whole-clause-kept c =
    let h = c.in_ok-tree.ensures in
    record { element = (c.if-is_whole.ensures refl).0; well_formed = h.kept.well_formed; shallow = h.shallow; items_fit = h.kept.fits; texts = h.texts }

pub returns-then-is_whole-clause-tree : goal.returns-then-is_whole-clause-tree
returns-then-is_whole-clause-tree c =
    let d = c.args.text.now in
    let h = c.in_ok-tree.ensures in
    let t = lent_tree_view c.in_ok-tree.tree in
    let begun = c.skip_blanks-begun in
    let whole : c.in_ok-tree.end ≡ length d = omega (arith, h.reads.within, (c.if-is_whole.ensures refl).1) in
    let read : HasTree 127 d begun.result t (length d) = subst (HasTree 127 d begun.result t) whole h.reads in
    document_read d begun.result t begun.ensures.same read (c.if-is_whole.ensures refl).0 h.shallow
