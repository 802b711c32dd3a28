use Rattle.archive_file.proofs.FrontLaws.{sound-header, sound-fixed}
use Rattle.archive_file.proofs.OneReading.{sound-one}
use Rattle.archive_file.proofs.ShapedArchives.{sound-texts}
use Rattle.archive_file.proofs.SoundLaws.{versions-nested}
use Rattle.archive_file.proofs.laws.sound_archives_have_one_reading.Goals as goal

pub returns-clause-one : goal.returns-clause-one
returns-clause-one c = λ rules others vs us bytes s z. sound-one rules vs others us bytes s z

pub returns-clause-header : goal.returns-clause-header
returns-clause-header c = sound-header

pub returns-clause-fixed : goal.returns-clause-fixed
returns-clause-fixed c = sound-fixed

pub returns-clause-texts : goal.returns-clause-texts
returns-clause-texts c = sound-texts

pub returns-clause-nested : goal.returns-clause-nested
returns-clause-nested c = versions-nested
