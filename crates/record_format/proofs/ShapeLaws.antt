-- A directory that has an encoding is in shape and fits, and one that is in shape and fits has one.
use Rattle.std.proofs.Common.{◌↔◌}
use Rattle.record_format.specs.Data.{PlainDir}
use Rattle.record_format.specs.Bounds.{IsDir}
use Rattle.record_format.specs.Shapes.{IsShapedDir, FitsDir}

pub dir_parts : (d : PlainDir) → IsDir d ↔ (IsShapedDir d × FitsDir d)
dir_parts d = (
  λ h. (record { sets = h.sets; paired = h.paired }, record { few = h.few; entries = h.entries }),
  λ h. record { few = h.1.few; entries = h.1.entries; sets = h.0.sets; paired = h.0.paired },
)
