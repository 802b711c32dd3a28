use Rattle.archive_join.proofs.Archives.{archives_join}
use Rattle.archive_join.proofs.laws.joined_archives_have_the_versions_of_both.Goals as goal

pub returns : goal.returns
returns c = record { joins = λ vs us a b h g alike. archives_join vs us a b h g alike }
