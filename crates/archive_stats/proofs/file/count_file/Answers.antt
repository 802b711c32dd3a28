use Rattle.archive_stats.specs.Counted.{Seen, seen}
use Rattle.archive_stats.specs.View.{counts_view}
use Rattle.archive_stats.proofs.Files.{Headed, file-counted, no-cursor, no-header}
use Rattle.archive_stats.proofs.file.count_file.Given.{Over}
use Rattle.archive_stats.proofs.file.count_file.Goals.{In-Ok}
use Rattle.archive_stats.proofs.file.count_file.Goals as goal

abbrev at : (g : Over) → g.row.F.Denot → Seen
at g = (let f = g.F.Folder in seen f.files f.draft f.numbers f.faults)

-- the header that was read
head : (g : Over) (c : In-Ok g) → Headed c.args.name.now c.args.length c.in-Ok.header (at g c.args.folder.now) (at g c.read_header_in.new.folder)
head g c =
    let e = c.in-Ok.ensures in
    let is = e.header in
    record { files = e.reads.same_files; draft = e.reads.same_draft; numbers = e.numbers; later = e.reads.later; within = is.within; long = e.length; told = e.told }

pub returns-in-Ok-start : goal.returns-in-Ok-start
returns-in-Ok-start g c =
    file-counted c.args.name.now c.args.length c.in-Ok.header (at g c.args.folder.now) (at g c.read_header_in.new.folder) (head g (goal.at.returns-in-Ok-start g c).In-Ok) c.in-Ok-start.cursor c.in-Ok-start.ensures
    (at g c.count_records.new.folder) c.count_records.result (counts_view c.none_counted.result) c.none_counted.ensures c.count_records.ensures

pub returns-in-Ok : goal.returns-in-Ok
returns-in-Ok g c = no-cursor c.args.name.now c.args.length c.in-Ok.header (at g c.args.folder.now) (at g c.read_header_in.new.folder) (head g (goal.at.returns-in-Ok g c).In-Ok)

pub returns : goal.returns
returns g c =
    let e = c.in-Err.ensures in
    no-header c.args.name.now c.args.length (at g c.args.folder.now) (at g c.read_header_in.new.folder) c.in-Err.fault e.reads.same_files e.reads.same_draft e.pulls e.reads.later e.reads.cause e.told e.only
