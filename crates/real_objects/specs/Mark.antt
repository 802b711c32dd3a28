-- When two marks are of one file in one state.
use Rattle.std.specs.Prelude.{◌≡◌}
use Rattle.real_objects.specs.declared.system.Mark.{Mark}

pub record IsSame (a b : Mark) : Type 0 where
  pub device : a.device ≡ b.device
  pub inode : a.inode ≡ b.inode
  pub length : a.length ≡ b.length
  pub modified_seconds : a.modified.seconds ≡ b.modified.seconds
  pub modified_nanoseconds : a.modified.nanoseconds ≡ b.modified.nanoseconds
  pub changed_seconds : a.changed.seconds ≡ b.changed.seconds
  pub changed_nanoseconds : a.changed.nanoseconds ≡ b.changed.nanoseconds
