-- Why bytes of a file were not read.
use Rattle.std.specs.Prelude.{⊤}
use Rattle.xa_outside.specs.declared.front.ReadFault.{ReadFault}
use Rattle.xa_outside.specs.declared.front.ReadFault.TheVariants.{Folder, Memory}

-- this holds where the folder failed
abbrev pub IfFolder : ReadFault → Type 0 → Type 0
IfFolder Folder P = P
IfFolder other P = ⊤

-- this holds where there is no memory
abbrev pub IfMemory : ReadFault → Type 0 → Type 0
IfMemory Memory P = P
IfMemory other P = ⊤
