use Rattle.archive_rekey.proofs.Rekeyings.{under-shaped}
use Rattle.archive_rekey.proofs.laws.rekeyed_archives_are_shaped.Goals as goal

pub returns : goal.returns
returns c = record { shaped = under-shaped }
