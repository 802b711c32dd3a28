use Rattle.std.proofs.Common.{◌+◌, ◌*◌, ◌-◌, [], arith}
use Rattle.archive_tree.specs.Data.{nodes_list}
use Rattle.record_format.specs.Nodes.{node_pieces}
use Rattle.record_format.specs.Probed.{row_probed}
use Rattle.file_rows.specs.View.{row_view}
use Rattle.file_history.specs.Parts.{cost}
use Rattle.file_history.specs.View.{span_of, left_found}
use Rattle.file_history.proofs.Halves.{part-later, row-within}
use Rattle.file_history.proofs.InRows.{end-dir, row-part}
use Rattle.file_history.proofs.Pulls.{but-behind, but-most, most-both}
use Rattle.file_history.proofs.search.find.Goals as goal

pub returns-in-Err-clause-pulls : goal.returns-in-Err-clause-pulls
returns-in-Err-clause-pulls g c =
    but-most (span_of c.args.row) 0 (9 + c.args.row.dir) (g.F.Folder.numbers c.args.folder.now) (g.F.Folder.numbers c.count_children.new.folder) (omega (arith, c.args.row.ordered)) c.in-Err.ensures.inside

pub returns-in-Err-clause-told : goal.returns-in-Err-clause-told
returns-in-Err-clause-told g c = λ bytes parent ks h. (
    let ps = node_pieces parent ks in
    c.in-Err.ensures.told h.size bytes ps h.tells (row-within (g.F.Folder.files c.args.folder.now) c.args.name.now bytes h.size (row_view c.args.row) ps h.tells h.stands) h.stands (end-dir ps h.records))

pub returns-clause-pulls : goal.returns-clause-pulls
returns-clause-pulls g c =
    let count = c.in-Ok.count in
    but-behind 13 (24 * (count - 0) + (c.args.row.end - c.args.row.first)) (left_found c.find_in.result) (span_of c.args.row) (left_found c.find_in.result)
    (g.F.Folder.numbers c.args.folder.now) (g.F.Folder.numbers c.count_children.new.folder) (g.F.Folder.numbers c.find_in.new.folder)
    (omega (arith, c.args.row.ordered, c.in-Ok.ensures.within)) c.in-Ok.ensures.pulls c.find_in.ensures.pulls

pub returns-clause-told : goal.returns-clause-told
returns-clause-told g c = λ bytes parent ks h. (
    let told = g.F.Folder.files c.args.folder.now in
    let name = c.args.name.now in
    let row = row_view c.args.row in
    let ps = node_pieces parent ks in
    let count = c.in-Ok.ensures.told h.size bytes ps h.tells (row-within told name bytes h.size row ps h.tells h.stands) h.stands (end-dir ps h.records) in
    let part = row-part told name bytes c.args.depth row parent ks c.in-Ok.count h count in
    c.find_in.ensures.told bytes parent [] (nodes_list ks) []
    (part-later told (g.F.Folder.files c.count_children.new.folder) name bytes row parent (record { depth = c.args.depth; low = 0; high = c.in-Ok.count; low_at = row.first; high_at = row.end }) [] (nodes_list ks) [] c.in-Ok.ensures.reads.same_files part))

pub returns-clause-few : goal.returns-clause-few
returns-clause-few g c = λ bytes parent ks h. (
    let told = g.F.Folder.files c.args.folder.now in
    let name = c.args.name.now in
    let row = row_view c.args.row in
    let ps = node_pieces parent ks in
    let count = c.in-Ok.ensures.told h.size bytes ps h.tells (row-within told name bytes h.size row ps h.tells h.stands) h.stands (end-dir ps h.records) in
    let part = row-part told name bytes c.args.depth row parent ks c.in-Ok.count h count in
    most-both 13 (cost (nodes_list ks)) (row_probed (nodes_list ks)) (g.F.Folder.numbers c.args.folder.now) (g.F.Folder.numbers c.count_children.new.folder) (g.F.Folder.numbers c.find_in.new.folder) (omega arith) c.in-Ok.ensures.pulls
    (c.find_in.ensures.few bytes parent [] (nodes_list ks) []
    (part-later told (g.F.Folder.files c.count_children.new.folder) name bytes row parent (record { depth = c.args.depth; low = 0; high = c.in-Ok.count; low_at = row.first; high_at = row.end }) [] (nodes_list ks) [] c.in-Ok.ensures.reads.same_files part)))

pub returns-clause-steps : goal.returns-clause-steps
returns-clause-steps g c = λ bytes parent ks h. (
    let told = g.F.Folder.files c.args.folder.now in
    let name = c.args.name.now in
    let row = row_view c.args.row in
    let ps = node_pieces parent ks in
    let count = c.in-Ok.ensures.told h.size bytes ps h.tells (row-within told name bytes h.size row ps h.tells h.stands) h.stands (end-dir ps h.records) in
    let part = row-part told name bytes c.args.depth row parent ks c.in-Ok.count h count in
    c.find_in.ensures.steps bytes parent [] (nodes_list ks) []
    (part-later told (g.F.Folder.files c.count_children.new.folder) name bytes row parent (record { depth = c.args.depth; low = 0; high = c.in-Ok.count; low_at = row.first; high_at = row.end }) [] (nodes_list ks) [] c.in-Ok.ensures.reads.same_files part))

pub returns-clause-exactly : goal.returns-clause-exactly
returns-clause-exactly g c = λ bytes parent ks h. (
    let told = g.F.Folder.files c.args.folder.now in
    let name = c.args.name.now in
    let row = row_view c.args.row in
    let ps = node_pieces parent ks in
    let count = c.in-Ok.ensures.told h.size bytes ps h.tells (row-within told name bytes h.size row ps h.tells h.stands) h.stands (end-dir ps h.records) in
    let part = row-part told name bytes c.args.depth row parent ks c.in-Ok.count h count in
    c.find_in.ensures.exactly bytes parent [] (nodes_list ks) []
    (part-later told (g.F.Folder.files c.count_children.new.folder) name bytes row parent (record { depth = c.args.depth; low = 0; high = c.in-Ok.count; low_at = row.first; high_at = row.end }) [] (nodes_list ks) [] c.in-Ok.ensures.reads.same_files part))
