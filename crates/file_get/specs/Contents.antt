-- What the printing of a content shows.
use Rattle.std.specs.Prelude.{[], Some, Result, Ok, Err}
use Rattle.content_print.specs.LentPrinted.{Output, Reading, Made, Stopped, Damaged}
use Rattle.file_get.specs.declared.fault.GetFault.{GetFault}
use Rattle.file_get.specs.declared.fault.GetFault.TheVariants.{Damage, Out}

-- All that is read was printed, or the output failed, or nothing can be read.
abbrev pub ContentPrinted : {T : Type 0} → Output → Output → Reading → Result T GetFault → Type 0
ContentPrinted s t whole (Ok x) = Made s t (Some ([], [])) whole
ContentPrinted s t whole (Err Damage) = Damaged s t whole
ContentPrinted s t whole (Err Out) = Stopped s t whole
ContentPrinted s t whole (Err other) = ⊥
