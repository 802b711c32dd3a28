use Rattle.record_cursor.specs.declared.fault.CursorFault.TheVariants.{Damage, Folder, Memory}
use Rattle.node_walk.specs.Nodes.{FolderSeen, folder_seen}
use Rattle.archive_check.proofs.Verdicts.{file-failed, file-judged}
use Rattle.archive_check.proofs.file.judge_file.Given.{Over}
use Rattle.archive_check.proofs.file.judge_file.Goals as goal

abbrev of : (g : Over) → g.row.F.Denot → FolderSeen
of g = (let f = g.F.Folder in folder_seen f.files f.draft f.numbers f.faults)

pub returns-in-Ok : goal.returns-in-Ok
returns-in-Ok g c =
    let law = c.nodes_are_sound_in_their_place.ensures in
    file-judged c.args.name.now c.args.length (of g c.args.folder.now) (of g c.judge_parts.new.folder) law.versions law.kept law.one c.in-Ok.versions c.in-Ok.ensures

pub returns-in-Err-Damage : goal.returns-in-Err-Damage
returns-in-Err-Damage g c = file-failed c.args.name.now c.args.length (of g c.args.folder.now) (of g c.judge_parts.new.folder) c.in-Err-Damage.field-0 Damage c.in-Err-Damage.field-0-is c.in-Err-Damage.ensures

pub returns-in-Err-Folder : goal.returns-in-Err-Folder
returns-in-Err-Folder g c = file-failed c.args.name.now c.args.length (of g c.args.folder.now) (of g c.judge_parts.new.folder) c.in-Err-Folder.field-0 Folder c.in-Err-Folder.field-0-is c.in-Err-Folder.ensures

pub returns-in-Err-Memory : goal.returns-in-Err-Memory
returns-in-Err-Memory g c = file-failed c.args.name.now c.args.length (of g c.args.folder.now) (of g c.judge_parts.new.folder) c.in-Err-Memory.field-0 Memory c.in-Err-Memory.field-0-is c.in-Err-Memory.ensures
