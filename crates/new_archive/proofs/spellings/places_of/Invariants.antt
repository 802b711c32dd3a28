use Rattle.std.proofs.Common.{◌≡◌, take}
use Rattle.new_archive.specs.Covered.{AreCovered, kept_bodies}
use Rattle.new_archive.proofs.spellings.places_of.Given as goal

-- those that were passed are found
abbrev pub invariant-loop-alt : goal.invariant-loop-alt
invariant-loop-alt l = record {
  at : l.place ≡ l.alt-index;
  covered : AreCovered (kept_bodies (take l.alt-index l.alts)) l.places.entries;
}
