-- What a fault tells.
use Rattle.std.specs.Prelude.{ℕ, Option, Some, None}
use Rattle.key_rules.specs.Faults.{PlainKeyFault}
use Rattle.key_rules.specs.View.{fault_view}
use Rattle.archive_rekey.specs.declared.fault.RekeyFault.{RekeyFault}
use Rattle.archive_rekey.specs.declared.fault.RekeyFault.TheVariants.{Key, Memory}

-- the number of the version and its fault, and nothing for want of memory
abbrev pub bad_version : RekeyFault → Option (ℕ × PlainKeyFault)
bad_version (Key i f) = Some (i, fault_view f)
bad_version Memory = None
