-- The key fault that an answer tells.
use Rattle.std.specs.Prelude.{Option, Some, None}
use Rattle.key_rules.specs.Faults.{PlainKeyFault}
use Rattle.key_rules.specs.View.{fault_view}
use Rattle.key_annotate.specs.declared.fault.AnnotateFault.{AnnotateFault}
use Rattle.key_annotate.specs.declared.fault.AnnotateFault.TheVariants.{Key, Memory}

-- the key fault, and nothing for want of memory
abbrev pub key_fault : AnnotateFault → Option PlainKeyFault
key_fault (Key f) = Some (fault_view f)
key_fault Memory = None
