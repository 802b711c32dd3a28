-- What contracts see of a version set.
use Rattle.std.specs.Prelude.{ℕ, ◌-◌, List, length}
use Rattle.version_set.specs.declared.set.VersionSet.{VersionSet}

-- its intervals
abbrev pub pairs_of : VersionSet → List (ℕ × ℕ)
pairs_of s = s.pairs.items

-- for how many further intervals there is room
abbrev pub spare_of : VersionSet → ℕ
spare_of s = s.pairs.capacity - length s.pairs.items
