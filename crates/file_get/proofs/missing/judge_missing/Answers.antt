use Rattle.std.proofs.Common.{◌≤◌, ◌<◌, length, arith}
use Rattle.std.specs.Prelude.{⊤}
use Rattle.std.specs.FinMap as map
use Rattle.xa_outside.specs.Folder.{bytes_or_none}
use Rattle.record_cursor.proofs.Fills.{filled-by, front-within}
use Rattle.file_get.proofs.Gets.{none-long}
use Rattle.file_get.proofs.missing.judge_missing.Goals as goal

pub returns-then-first-size-clause-short : goal.returns-then-first-size-clause-short
returns-then-first-size-clause-short g c = λ files told none. none-long c.ask_length.result (bytes_or_none (map.get files c.args.name.now)) c.args.size (c.ask_length.ensures.told files told) none

pub returns-then-first-size-clause-whole : goal.returns-then-first-size-clause-whole
returns-then-first-size-clause-whole g c = λ bytes tells. (
    let file = bytes_or_none (map.get tells.0 c.args.name.now) in
    let within = front-within (g.F.Folder.files c.args.folder.now) c.args.name.now bytes c.args.size tells in
    filled-by c.ask_length.result (c.args.size ≤ length file) ⊤ (length file < c.args.size) (λ long. tt) (λ few. omega (arith, few, within))
    (c.ask_length.ensures.told tells.0 tells.1) (c.ask_length.ensures.damage tells.0 tells.1))
