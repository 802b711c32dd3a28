use Rattle.std.proofs.Common.{refl}
use Rattle.version_set.specs.View.{pairs_of}
use Rattle.version_set.specs.declared.limits.TheConstants.{GREATEST_NUMBER}
use Rattle.archive_rekey.proofs.IndexLemmas.{full-range}
use Rattle.archive_rekey.proofs.index.all_numbers.Goals as goal

pub returns : goal.returns
returns c = full-range GREATEST_NUMBER (pairs_of c.upto.result) refl c.upto.ensures.members
