-- What the lent parts of a record show.
use Rattle.record_parts.specs.ShownViews.{shown_label, shown_stamp, shown_body}
use Rattle.record_format.specs.Data.{PlainRec, inner_rec, leaf_rec, alt_rec}
use Rattle.record_format.specs.declared.views.View.{View}
use Rattle.record_format.specs.declared.views.View.TheVariants.{Inner, Leaf, Alt}

abbrev pub shown : View → PlainRec
shown (Inner l s) = inner_rec (shown_label l) (shown_stamp s)
shown (Leaf l s) = leaf_rec (shown_label l) (shown_stamp s)
shown (Alt s b) = alt_rec (shown_stamp s) (shown_body b)
