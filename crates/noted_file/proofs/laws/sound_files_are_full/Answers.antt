use Rattle.std.proofs.Common.{length}
use Rattle.archive_file.specs.Sound.{SoundAs}
use Rattle.record_format.specs.Files.{FileOf}
use Rattle.noted_file.proofs.Parts.{core-noted, noted-core}
use Rattle.noted_file.proofs.laws.sound_files_are_full.Goals as goal

pub returns-clause-sound : goal.returns-clause-sound
returns-clause-sound c = λ rules vs bytes s. core-noted (SoundAs rules vs) (length vs) bytes s

pub returns-clause-file : goal.returns-clause-file
returns-clause-file c = λ rules vs bytes f. core-noted (FileOf rules vs) (length vs) bytes f

pub returns-clause-sound_core : goal.returns-clause-sound_core
returns-clause-sound_core c = λ held bytes e f. noted-core (SoundAs held.rules held.versions) (length held.versions) held.notes bytes e f

pub returns-clause-file_core : goal.returns-clause-file_core
returns-clause-file_core c = λ held bytes e f. noted-core (FileOf held.rules held.versions) (length held.versions) held.notes bytes e f
