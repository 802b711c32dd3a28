-- What contracts see of the kids of an open node.
use Rattle.row_ends.specs.Kids.{PlainKids}
use Rattle.row_ends.specs.KidViews.{kept}
use Rattle.row_ends.specs.declared.kids.Kids.{Kids}

abbrev pub kids_view : Kids → PlainKids
kids_view k = kept k.sizes.items k.stored.items k.inheriting
