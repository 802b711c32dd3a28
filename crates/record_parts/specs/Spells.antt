-- When a value that is lent is not spelled.
use Rattle.std.specs.Prelude.{◌≡◌, ℕ, Bool, true, false, List, ◌++◌, Result, Ok, Err, ⊤}
use Rattle.record_parts.specs.declared.fault.SpellFault.{SpellFault}
use Rattle.record_parts.specs.declared.fault.SpellFault.TheVariants.{TooLong, Memory}

-- Where the test passes, the bytes stand behind what was there; TooLong comes exactly where it does not.
abbrev pub Spells : {T : Type 0} → Bool → List ℕ → List ℕ → List ℕ → Result T SpellFault → Type 0
Spells fits old new bytes (Ok v) = (fits ≡ true) × (new ≡ old ++ bytes)
Spells fits old new bytes (Err TooLong) = fits ≡ false
Spells fits old new bytes (Err Memory) = ⊤
