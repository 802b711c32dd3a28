use Rattle.std.proofs.Common.{◌≡◌, map}
use Rattle.version_set.specs.View.{pairs_of}
use Rattle.spelled_archive.specs.View as spelled
use Rattle.new_archive.specs.Sealed.{seal_alt}
use Rattle.new_archive.specs.AltView.{alt_view}
use Rattle.new_archive.proofs.seal.seal_alts.Given as goal

abbrev pub invariant-loop-alt : goal.invariant-loop-alt
invariant-loop-alt l = map spelled.alt_view l.sealed.items ≡ map (seal_alt (pairs_of l.parent)) (map alt_view l.yielded)
