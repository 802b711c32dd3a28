-- What the views of labels, timestamps and bodies show.
use Rattle.std.specs.Prelude.{[], Option, Some, None}
use Rattle.jsonml_tree.specs.Data.{null}
use Rattle.keyed_tree.specs.Data.{tag, PlainKey, scalar, PlainLabel}
use Rattle.archive_tree.specs.Data.{Stamp}
use Rattle.xa_fields.specs.Reading.{whole}
use Rattle.record_parts.specs.Reading.{label_at, stamp_at, value_at}
use Rattle.record_parts.specs.declared.views.LabelView.{LabelView}
use Rattle.record_parts.specs.declared.views.StampView.{StampView}
use Rattle.record_parts.specs.declared.views.BodyView.{BodyView}

-- every view has a value; what stands here for none is never met
abbrev pub label_in : Option PlainLabel → PlainLabel
label_in None = record { name = tag []; keys = [] }
label_in (Some l) = l

abbrev pub stamp_in : Option Stamp → Stamp
stamp_in None = None
stamp_in (Some s) = s

abbrev pub value_in : Option PlainKey → PlainKey
value_in None = scalar null
value_in (Some b) = b

-- the label whose encoding is lent
abbrev pub shown_label : LabelView → PlainLabel
shown_label v = label_in (whole label_at v.bytes.now)

-- the timestamp whose encoding is lent
abbrev pub shown_stamp : StampView → Stamp
shown_stamp v = stamp_in (whole stamp_at v.bytes.now)

-- the body whose encoding is lent
abbrev pub shown_body : BodyView → PlainKey
shown_body v = value_in (whole value_at v.bytes.now)
