use Rattle.std.proofs.Common.{sym}
use Rattle.keyed_tree.specs.Data.{label_of}
use Rattle.keyed_parts.specs.View.{kid_view}
use Rattle.new_archive.specs.View.{full_view}
use Rattle.new_archive.proofs.Places.{first_above, first_place, none_place}
use Rattle.new_archive.proofs.find.place_of.Goals as goal

pub returns-in_default : goal.returns-in_default
returns-in_default c = none_place full_view (label_of (kid_view c.args.kid)) c.args.row.now (sym c.in_default.ensures.value)

pub returns-in-Equal : goal.returns-in-Equal
returns-in-Equal c =
    let item = c.in-Some.ensures.item in
    first_place full_view (label_of (kid_view c.args.kid)) c.args.row.now c.in-Some.node.now item.3.0 item.1 (sym c.in-Equal.ensures)

pub returns-in-Greater : goal.returns-in-Greater
returns-in-Greater c =
    let item = c.in-Some.ensures.item in
    first_above full_view (label_of (kid_view c.args.kid)) c.args.row.now c.in-Some.node.now item.3.0 item.1 c.requires (sym c.in-Greater.ensures)
