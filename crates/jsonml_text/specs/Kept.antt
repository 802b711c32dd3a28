-- For private clauses: what a reader keeps true of the parts that it has made, and what every document is.
use Rattle.std.specs.Prelude.{◌≤◌, List, length, IsTrue}
use Rattle.jsonml_tree.specs.Data.{PlainAttr, PlainTree, PlainContent, trees_of, tree_depth}
use Rattle.jsonml_tree.specs.WellFormed.{is_ascending, are_in_range, is_well_formed, is_content_well_formed, are_well_formed, IsWellFormed}
use Rattle.jsonml_tree.specs.Fits.{IsElement, ItemsFit, items_fit, content_items_fit, all_items_fit}
use Rattle.jsonml_tree.specs.declared.limits.TheConstants.{GREATEST_DEPTH}
use Rattle.jsonml_text.specs.Texts.{AreTexts, AreAttrTexts}

pub record AreAttrsKept (xs : List PlainAttr) : Type 0 where
  pub ascending : IsTrue (is_ascending xs)
  pub in_range : IsTrue (are_in_range xs)
  pub texts : AreAttrTexts xs

pub record IsKept (t : PlainTree) : Type 0 where
  pub well_formed : IsTrue (is_well_formed t)
  pub fits : IsTrue (items_fit t)

pub record IsContentKept (c : PlainContent) : Type 0 where
  pub well_formed : IsTrue (is_content_well_formed c)
  pub fits : IsTrue (content_items_fit c)

pub record AreKept (ts : List PlainTree) : Type 0 where
  pub well_formed : IsTrue (are_well_formed (trees_of ts))
  pub fit : IsTrue (all_items_fit (trees_of ts))
  pub few : length ts ≤ 4294967295

pub record IsDocument (t : PlainTree) : Type 0 where
  pub element : IsElement t
  pub well_formed : IsWellFormed t
  pub shallow : tree_depth t ≤ GREATEST_DEPTH
  pub items_fit : ItemsFit t
  pub texts : AreTexts t
