use Rattle.std.proofs.Common.{arith}
use Rattle.std.specs.Prelude.{codes}
use Rattle.xa_outside.specs.InMemory.{sure_state}
use Rattle.archive_stats.proofs.Files.{alone-tells}
use Rattle.archive_stats.proofs.memory.count_bytes.Goals as goal

pub returns-in-Ok : goal.returns-in-Ok
returns-in-Ok c = λ rules a f.
    c.in-Ok.ensures.counts c.args.bytes.items rules a
    (alone-tells (sure_state c.new-folder.result) (sure_state c.put.new.self) (codes "archive") c.args.bytes.items c.len-length.result c.new-folder.ensures c.in_ok-put.ensures.ok (omega (arith, c.len-length.ensures, c.args.bytes.ok))) f
