use Rattle.std.proofs.Common.{List}
use Rattle.xa_outside.specs.Causes.{Rose}
use Rattle.key_spec.specs.Data.{PlainRule}
use Rattle.keyed_tree.specs.Data.{PlainKeyed}
use Rattle.archive_file.specs.Sound.{SoundAs}
use Rattle.archive_stats.specs.Counted.{Seen, seen}
use Rattle.archive_stats.proofs.Files.{sound-file, damage-of, folder-of, unsound}
use Rattle.archive_stats.proofs.file.stats.Given.{Over}
use Rattle.archive_stats.proofs.file.stats.Goals as goal

abbrev at : (g : Over) → g.row.F.Denot → Seen
at g = (let f = g.F.Folder in seen f.files f.draft f.numbers f.faults)

pub returns-in-Ok-clause-counts : goal.returns-in-Ok-clause-counts
returns-in-Ok-clause-counts g c = λ files bytes rules vs a told front sound is. c.in-Ok.ensures.counts bytes rules a (files, told, front) (sound-file rules vs a bytes sound is)

pub returns-in-Ok-clause-few : goal.returns-in-Ok-clause-few
returns-in-Ok-clause-few g c = λ files bytes rules vs a told front sound is. c.in-Ok.ensures.few bytes rules a (files, told, front) (sound-file rules vs a bytes sound is)

pub returns-in-Err-clause-few : goal.returns-in-Err-clause-few
returns-in-Err-clause-few g c = λ files bytes rules vs a told front sound is. c.in-Err.ensures.few bytes rules a (files, told, front) (sound-file rules vs a bytes sound is)

pub returns-in-Err-clause-damage : goal.returns-in-Err-clause-damage
returns-in-Err-clause-damage g c = λ files bytes told front.
    damage-of c.in-Err.fault c.from.result ((rules : List PlainRule) (vs : List PlainKeyed) → ¬ SoundAs rules vs bytes) c.from.ensures
    (unsound c.args.name.now bytes c.args.length (at g c.args.folder.now) (at g c.count_file.new.folder) c.in-Err.fault (files, told, front) c.in-Err.ensures)

pub returns-in-Err-clause-cause : goal.returns-in-Err-clause-cause
returns-in-Err-clause-cause g c =
    let reads = c.in-Err.ensures.reads in
    folder-of c.in-Err.fault c.from.result (Rose (g.F.Folder.faults c.args.folder.now) (g.F.Folder.faults c.count_file.new.folder)) c.from.ensures reads.cause

pub returns-in-Err-clause-short : goal.returns-in-Err-clause-short
returns-in-Err-clause-short g c = λ files told none. tt
