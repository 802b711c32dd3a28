-- What faults say.
use Rattle.record_copy.specs.declared.fault.CopyFault.{CopyFault}
use Rattle.record_copy.specs.declared.fault.CopyFault.TheVariants as copy
use Rattle.archive_cut.specs.declared.fault.CutFault.{CutFault}
use Rattle.archive_cut.specs.declared.fault.CutFault.TheVariants.{Damage, TooLong, Folder, Memory}

-- the same fault of what was read and written
abbrev pub of_cut : CutFault → CopyFault
of_cut Damage = copy.Damage
of_cut TooLong = copy.TooLong
of_cut Folder = copy.Folder
of_cut Memory = copy.Memory
