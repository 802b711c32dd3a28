use Rattle.std.proofs.Common.{◌≡◌, [], Bool, None, arith, subst, sym, ap, ◌∙◌}
use Rattle.jsonml_tree.specs.View.{tree_view}
use Rattle.jsonml_text.specs.Document.{too_deep_at}
use Rattle.jsonml_text.specs.Stops.{Finds}
use Rattle.jsonml_text.proofs.Levels.{depth_at}
use Rattle.jsonml_text.proofs.OwnTexts.{tree_texts}
use Rattle.jsonml_text.proofs.document.document_of.Goals as goal

pub returns-else-branch-clause-kept : goal.returns-else-branch-clause-kept
returns-else-branch-clause-kept c =
    let t = tree_view c.in-Ok.tree in
    let place = c.read_root.new.place.items in
    let searched = subst (λ (b : Bool). Finds (too_deep_at place t) place c.finds_too_deep.new.place.items b) c.if-branch.false c.in_ok-finds_too_deep-in-Ok.ensures in
    let none : too_deep_at [] t ≡ None = ap (λ p. too_deep_at p t) (sym c.in-Ok.ensures.tree.1) ∙ searched.0 in
    record {
      element = c.in-Ok.ensures.element;
      well_formed = c.in-Ok.ensures.kept.well_formed;
      shallow = omega (arith, depth_at [] t (omega arith) none);
      items_fit = c.in-Ok.ensures.kept.fits;
      texts = tree_texts c.in-Ok.tree;
    }
