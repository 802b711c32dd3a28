-- For private clauses: what a reader that goes straight through a text has read.
use Rattle.std.specs.Prelude.{◌≡◌, ℕ, ◌+◌, ◌<◌, ◌≤◌, List, length, map}
use Rattle.json.specs.Lex.{after_value}
use Rattle.jsonml_tree.specs.Data.{PlainTree, PlainContent, trees_of, tree_depth, content_depth, trees_depth}
use Rattle.jsonml_tree.specs.LentView.{lent_tree_view}
use Rattle.jsonml_tree.specs.declared.lent.LentTree.{LentTree}
use Rattle.jsonml_text.specs.Kept.{IsKept, IsContentKept, AreKept}
use Rattle.jsonml_text.specs.Straight.{tokens_from, HasTree, HasContent, HasItems}
use Rattle.jsonml_text.specs.Texts.{AreTexts, AreContentTexts, AreItemTexts}

-- Elements nest so many levels deep at most, and JSON seven more.
abbrev pub depth_of : ℕ → ℕ
depth_of levels = levels + 7

-- this tree stands from an offset to the next; the trees that wait are the same
pub record ReadsTree (levels : ℕ) (text : List ℕ) (at : ℕ) (old new : List LentTree) (t : PlainTree) (next : ℕ) : Type 0 where
  pub same : new ≡ old
  pub reads : HasTree (depth_of levels) text at t next
  pub kept : IsKept t
  pub texts : AreTexts t
  pub shallow : tree_depth t ≤ levels

-- this content stands behind a tag; the trees that wait are the same
pub record ReadsContent (levels : ℕ) (text : List ℕ) (at : ℕ) (old new : List LentTree) (c : PlainContent) (next : ℕ) : Type 0 where
  pub same : new ≡ old
  pub reads : HasContent (depth_of levels) text at c (tokens_from after_value text next)
  pub kept : IsContentKept c
  pub texts : AreContentTexts c
  pub shallow : content_depth c ≤ levels
  pub later : at < next
  pub within : next ≤ length text

-- these items stand up to the end of their element
pub record ReadsItems (levels : ℕ) (text : List ℕ) (at : ℕ) (old new items : List LentTree) (next : ℕ) : Type 0 where
  pub same : new ≡ old
  pub reads : HasItems (depth_of levels) text at (trees_of (map lent_tree_view items)) (tokens_from after_value text next)
  pub kept : AreKept (map lent_tree_view items)
  pub texts : AreItemTexts (trees_of (map lent_tree_view items))
  pub shallow : trees_depth (trees_of (map lent_tree_view items)) ≤ levels
  pub later : at < next
  pub within : next ≤ length text
