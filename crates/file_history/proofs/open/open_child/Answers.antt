use Rattle.std.proofs.Common.{◌≡◌, None, ◌∙◌, []}
use Rattle.keyed_tree.specs.Order.{label_cmp}
use Rattle.keyed_tree.specs.View.{label_view}
use Rattle.archive_tree.specs.Data.{node_label}
use Rattle.record_cursor.specs.Items.{item_of}
use Rattle.record_cursor.specs.View.{shown_item}
use Rattle.record_cursor.proofs.Fills.{damage-map}
use Rattle.record_format.specs.Probed.{opening}
use Rattle.file_rows.specs.View.{child_view}
use Rattle.file_history.specs.Opened.{met_of}
use Rattle.file_history.specs.View.{met_view}
use Rattle.file_history.proofs.Opening.{next-opens, given-opens, opened-few, met-is, met-some}
use Rattle.file_history.proofs.open.open_child.Goals as goal

pub returns-in-Ok-meet-clause-told : goal.returns-in-Ok-meet-clause-told
returns-in-Ok-meet-clause-told g c = λ bytes parent k h. (
    let name = c.args.cursor.now.name in
    let child = child_view c.args.child in
    let w = label_view c.args.wanted.now in
    let given = given-opens (g.F.Folder.files c.args.folder.now) name bytes c.args.depth child parent k c.seek.new.self c.next.follows.lender-at-none c.next.result c.in-Ok.item c.seek.ensures c.in-Ok.is c.next.follows.holds-at-none h in
    c.enter.ensures.told bytes parent k (label_cmp (node_label k) w) h.stands (c.at.ensures ∙ given.behind)
    (met-is child.dir w parent k c.in-Ok.item (met_view c.in-Ok-meet.met) h.stands.dir given.item_is c.in-Ok-meet.ensures.found))

pub returns-in-Ok-meet-clause-few : goal.returns-in-Ok-meet-clause-few
returns-in-Ok-meet-clause-few g c = λ bytes parent k h. (
    opened-few (g.F.Folder.files c.args.folder.now) c.args.cursor.now.name bytes c.args.depth (child_view c.args.child) parent k c.seek.new.self (g.F.Folder.numbers c.args.folder.now) (g.F.Folder.numbers c.next.new.folder) c.seek.ensures
    c.in-Ok.ensures.reads h)

pub returns-in-Err-meet-clause-told : goal.returns-in-Err-meet-clause-told
returns-in-Err-meet-clause-told g c = λ bytes parent k h. (
    let name = c.args.cursor.now.name in
    let child = child_view c.args.child in
    let w = label_view c.args.wanted.now in
    let given = given-opens (g.F.Folder.files c.args.folder.now) name bytes c.args.depth child parent k c.seek.new.self c.next.follows.lender-at-none c.next.result c.in-Ok.item c.seek.ensures c.in-Ok.is c.next.follows.holds-at-none h in
    damage-map c.in-Err-meet.fault (met_of child.dir w (shown_item c.in-Ok.item) ≡ None) ⊥ (met-some child.dir w parent k c.in-Ok.item h.stands.dir given.item_is) c.in-Err-meet.ensures.found)

pub returns-in-Err-meet-clause-few : goal.returns-in-Err-meet-clause-few
returns-in-Err-meet-clause-few g c = λ bytes parent k h. (
    opened-few (g.F.Folder.files c.args.folder.now) c.args.cursor.now.name bytes c.args.depth (child_view c.args.child) parent k c.seek.new.self (g.F.Folder.numbers c.args.folder.now) (g.F.Folder.numbers c.next.new.folder) c.seek.ensures
    c.in-Ok.ensures.reads h)

pub returns-in-Err-clause-told : goal.returns-in-Err-clause-told
returns-in-Err-clause-told g c = λ bytes parent k h. (
    c.in-Err.ensures.undamaged (item_of (opening k)) []
    (next-opens (g.F.Folder.files c.args.folder.now) c.args.cursor.now.name bytes c.args.depth (child_view c.args.child) parent k c.seek.new.self c.seek.ensures h))

pub returns-in-Err-clause-few : goal.returns-in-Err-clause-few
returns-in-Err-clause-few g c = λ bytes parent k h. (
    opened-few (g.F.Folder.files c.args.folder.now) c.args.cursor.now.name bytes c.args.depth (child_view c.args.child) parent k c.seek.new.self (g.F.Folder.numbers c.args.folder.now) (g.F.Folder.numbers c.next.new.folder) c.seek.ensures
    c.in-Err.ensures.reads h)
