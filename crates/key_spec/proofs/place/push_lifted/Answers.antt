use Rattle.std.proofs.lemmas.Grind.{common_steps}
use Rattle.std.proofs.Common.{arith}
use Rattle.key_spec.proofs.PlaceLemmas.{byte_small}
use Rattle.key_spec.proofs.place.push_lifted.Goals as goal

pub overflow_add-byte : goal.overflow_add-byte
overflow_add-byte c = rw c.as_bytes-byte-items.ensures.value (omega (arith, byte_small c.args.name.now c.loop-byte.byte-index c.utf8.name))

pub loop-byte-preserved : goal.loop-byte-preserved
loop-byte-preserved c = grind (arith, common_steps)

pub loop-byte-init : goal.loop-byte-init
loop-byte-init c = grind (arith, common_steps)

pub returns : goal.returns
returns c = grind (arith, common_steps)
