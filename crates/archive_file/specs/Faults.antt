-- What is said of a fault that is not want of memory.
use Rattle.std.specs.Prelude.{⊤}
use Rattle.archive_file.specs.declared.fault.EncodeFault.{EncodeFault}
use Rattle.archive_file.specs.declared.fault.EncodeFault.TheVariants.{TooLong}
use Rattle.archive_file.specs.declared.fault.FileFault.{FileFault}
use Rattle.archive_file.specs.declared.fault.FileFault.TheVariants.{Damage}

-- want of memory says nothing
abbrev pub IfTooLong : EncodeFault → Type 0 → Type 0
IfTooLong TooLong P = P
IfTooLong other P = ⊤

-- want of memory says nothing
abbrev pub IfDamage : FileFault → Type 0 → Type 0
IfDamage Damage P = P
IfDamage other P = ⊤
