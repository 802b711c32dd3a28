use Rattle.std.proofs.Common.{◌+◌, ◌-◌, map, refl, arith}
use Rattle.version_set.specs.View.{pairs_of}
use Rattle.keyed_tree.specs.View.{label_view}
use Rattle.record_cursor.specs.View.{header_view}
use Rattle.record_format.specs.Files.{root_pieces}
use Rattle.record_format.specs.Probed.{probed}
use Rattle.file_rows.specs.View.{row_view}
use Rattle.file_rows.proofs.Children.{row_in}
use Rattle.file_history.specs.View.{span_of}
use Rattle.file_history.proofs.Pulls.{most-both}
use Rattle.file_history.proofs.WholeFiles.{root-row, root-is}
use Rattle.file_history.proofs.follow.search.Goals as goal

pub returns-in-Err-clause-told : goal.returns-in-Err-clause-told
returns-in-Err-clause-told g c = λ bytes a f is. (
    let h = header_view c.args.header.now in
    let r = root-row (g.F.Folder.files c.args.folder.now) c.args.name.now bytes h a f in
    c.in-Err.ensures.told bytes (row_in h.first (root_pieces a)) (root_pieces a) f.tells r.stands refl r.ends r.tail)

pub returns-in-Ok-clause-told : goal.returns-in-Ok-clause-told
returns-in-Ok-clause-told g c = λ bytes a f is. (
    let h = header_view c.args.header.now in
    let told = g.F.Folder.files c.args.folder.now in
    let name = c.args.name.now in
    let r = root-row told name bytes h a f in
    let stands = c.in-Ok.ensures.told bytes (row_in h.first (root_pieces a)) (root_pieces a) f.tells r.stands refl r.ends r.tail in
    c.follow.ensures.told bytes a.kids (root-is told (g.F.Folder.files c.root_row.new.folder) name bytes h a (row_view c.in-Ok.row) (pairs_of c.args.all) f c.in-Ok.ensures.reads.same_files is stands))

pub returns-in-Ok-clause-few : goal.returns-in-Ok-clause-few
returns-in-Ok-clause-few g c = λ bytes a f is. (
    let h = header_view c.args.header.now in
    let told = g.F.Folder.files c.args.folder.now in
    let name = c.args.name.now in
    let r = root-row told name bytes h a f in
    let stands = c.in-Ok.ensures.told bytes (row_in h.first (root_pieces a)) (root_pieces a) f.tells r.stands refl r.ends r.tail in
    let path = map label_view c.args.path.now in
    most-both 8 (probed a path) (8 + probed a path) (g.F.Folder.numbers c.args.folder.now) (g.F.Folder.numbers c.root_row.new.folder) (g.F.Folder.numbers c.follow.new.folder) (omega arith) c.in-Ok.ensures.pulls
    (c.follow.ensures.few bytes a.kids (root-is told (g.F.Folder.files c.root_row.new.folder) name bytes h a (row_view c.in-Ok.row) (pairs_of c.args.all) f c.in-Ok.ensures.reads.same_files is stands)))

pub returns-in-Ok-clause-steps : goal.returns-in-Ok-clause-steps
returns-in-Ok-clause-steps g c = λ bytes a f is. (
    let h = header_view c.args.header.now in
    let told = g.F.Folder.files c.args.folder.now in
    let name = c.args.name.now in
    let r = root-row told name bytes h a f in
    let stands = c.in-Ok.ensures.told bytes (row_in h.first (root_pieces a)) (root_pieces a) f.tells r.stands refl r.ends r.tail in
    c.follow.ensures.steps bytes a.kids (root-is told (g.F.Folder.files c.root_row.new.folder) name bytes h a (row_view c.in-Ok.row) (pairs_of c.args.all) f c.in-Ok.ensures.reads.same_files is stands))

pub returns-in-Ok-clause-pulls : goal.returns-in-Ok-clause-pulls
returns-in-Ok-clause-pulls g c =
    let h = header_view c.args.header.now in
    most-both 8 (span_of c.in-Ok.row) (h.length - h.first) (g.F.Folder.numbers c.args.folder.now) (g.F.Folder.numbers c.root_row.new.folder) (g.F.Folder.numbers c.follow.new.folder)
    (omega (arith, c.in-Ok.row.ordered, c.in-Ok.ensures.within.0, c.in-Ok.ensures.within.1)) c.in-Ok.ensures.pulls c.follow.ensures.pulls

pub returns-in-Ok-clause-exactly : goal.returns-in-Ok-clause-exactly
returns-in-Ok-clause-exactly g c = λ bytes a f is. (
    let h = header_view c.args.header.now in
    let told = g.F.Folder.files c.args.folder.now in
    let name = c.args.name.now in
    let r = root-row told name bytes h a f in
    let stands = c.in-Ok.ensures.told bytes (row_in h.first (root_pieces a)) (root_pieces a) f.tells r.stands refl r.ends r.tail in
    c.follow.ensures.exactly bytes a.kids (root-is told (g.F.Folder.files c.root_row.new.folder) name bytes h a (row_view c.in-Ok.row) (pairs_of c.args.all) f c.in-Ok.ensures.reads.same_files is stands))
