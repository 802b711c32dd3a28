-- The fault with which a batch ends where no further line comes.
use Rattle.xarch_words.specs.Refusal.{batch, limit, PlainFault, refused, in_fault, memory}
use Rattle.xarch_words.specs.declared.limits.TheConstants.{BATCH}
use Rattle.xarch_run.specs.declared.stop.Stop.{Stop}
use Rattle.xarch_run.specs.declared.stop.Stop.TheVariants.{Failed, PastLimit, Memory}

abbrev pub stop_fault : Stop → PlainFault
stop_fault Failed = in_fault
stop_fault PastLimit = refused (limit batch BATCH)
stop_fault Memory = memory
