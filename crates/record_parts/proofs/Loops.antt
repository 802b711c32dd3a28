-- Steps of loops that read many, and that end with a fault.
use Rattle.std.proofs.Common.{◌≡◌, ℕ, ◌-◌, ◌<◌, List, Option}
use Rattle.xa_fields.specs.Reading.{Reader, many_at}
use Rattle.xa_fields.proofs.Loops.{with_front, breaks_off}
use Rattle.record_parts.specs.Reading.{Fails}
use Rattle.record_parts.specs.declared.fault.RecFault.{RecFault}
use Rattle.record_parts.specs.declared.fault.RecFault.TheVariants.{Damage, Memory}

pub fails_in : {A : Type 0} (one : Reader A) (e : RecFault) (front : List A) (count i : ℕ) (bytes : List ℕ) (total : Option (List A × List ℕ)) → i < count → Fails e (one bytes) → with_front front (many_at one (count - i) bytes) ≡ total → Fails e total
fails_in one Damage front count i bytes total lt h so_far = breaks_off one front count i bytes total lt h so_far
fails_in one Memory front count i bytes total lt h so_far = tt
