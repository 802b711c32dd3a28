use Rattle.archive_cut.proofs.Slices.{archive_cut}
use Rattle.archive_cut.proofs.laws.slices_have_their_archives.Goals as goal

pub returns : goal.returns
returns c = record { sliced = archive_cut }
