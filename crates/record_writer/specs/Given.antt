-- The labels and bodies that a writer is given, lent from a record, new, or lent by a document.
use Rattle.std.specs.Prelude.{⊤}
use Rattle.keyed_tree.specs.Data.{PlainKey, PlainLabel}
use Rattle.keyed_tree.specs.LentView.{lent_val_view}
use Rattle.keyed_tree.specs.View.{key_view, label_view}
use Rattle.record_parts.specs.Shapes.{IsShapedLabel, IsShapedValue}
use Rattle.record_parts.specs.Shown.{named}
use Rattle.record_parts.specs.ShownViews.{shown_label, shown_body}
use Rattle.record_writer.specs.declared.given.LabelFrom.{LabelFrom}
use Rattle.record_writer.specs.declared.given.LabelFrom.TheVariants as label
use Rattle.record_writer.specs.declared.given.BodyFrom.{BodyFrom}
use Rattle.record_writer.specs.declared.given.BodyFrom.TheVariants as body

abbrev pub given_label : LabelFrom → PlainLabel
given_label (label.Old v) = shown_label v
given_label (label.New l) = label_view l.now
given_label (label.Lent n ks) = named n ks.now

abbrev pub given_body : BodyFrom → PlainKey
given_body (body.Old v) = shown_body v
given_body (body.New b) = key_view b.now
given_body (body.Lent v) = lent_val_view v

-- within the bounds of the format, but for the fit of lengths and counts; what a record lends always is
abbrev pub IsShapedLabelFrom : LabelFrom → Type 0
IsShapedLabelFrom (label.Old v) = ⊤
IsShapedLabelFrom (label.New l) = IsShapedLabel (label_view l.now)
IsShapedLabelFrom (label.Lent n ks) = IsShapedLabel (named n ks.now)

abbrev pub IsShapedBodyFrom : BodyFrom → Type 0
IsShapedBodyFrom (body.Old v) = ⊤
IsShapedBodyFrom (body.New b) = IsShapedValue (key_view b.now)
IsShapedBodyFrom (body.Lent v) = IsShapedValue (lent_val_view v)
