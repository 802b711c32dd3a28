use Rattle.std.proofs.Common.{◌≤◌, Ok, sym, ap, ◌∙◌, subst}
use Rattle.jsonml_tree.specs.Data.{PlainTree, tree_depth}
use Rattle.jsonml_tree.specs.Fits.{IsElement, ItemsFit}
use Rattle.jsonml_tree.specs.WellFormed.{IsWellFormed}
use Rattle.jsonml_tree.specs.declared.limits.TheConstants.{GREATEST_DEPTH}
use Rattle.jsonml_text.specs.Texts.{AreTexts}
use Rattle.jsonml_text.proofs.document.read_document.Goals as goal

pub returns : goal.returns
returns c =
    let lent = c.in_ok-lend_document.ensures in
    let same = sym c.in_ok-copy.ensures in
    record {
      document = lent.document ∙ ap (λ t. Ok t) same;
      refused = tt;
      element = subst IsElement same lent.element;
      well_formed = subst IsWellFormed same lent.well_formed;
      shallow = subst (λ (t : PlainTree). tree_depth t ≤ GREATEST_DEPTH) same lent.shallow;
      items_fit = subst ItemsFit same lent.items_fit;
      texts = subst AreTexts same lent.texts;
    }
