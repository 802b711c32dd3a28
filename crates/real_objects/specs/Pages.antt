-- What a page holds.
use Rattle.std.specs.Prelude.{◌-◌, ℕ, List, take, drop}

-- what stands from the offset on in a page of this start, with so many bytes in front of its room
abbrev pub held_from : ℕ → ℕ → List ℕ → ℕ → List ℕ
held_from start size room at = drop (at - start) (take size room)
