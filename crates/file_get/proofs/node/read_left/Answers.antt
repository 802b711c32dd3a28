use Rattle.std.proofs.Common.{ap, ◌∙◌}
use Rattle.std.specs.Int.{w64, from_be_bytes}
use Rattle.std.proofs.lemmas.Nat.{from_be_bytes-to_be_bytes_8}
use Rattle.record_cursor.proofs.Fills.{filled-from}
use Rattle.file_get.proofs.node.read_left.Goals as goal

pub returns-in-Ok-clause-told : goal.returns-in-Ok-clause-told
returns-in-Ok-clause-told g c = λ last left bytes tells fits stands short. (
    let read = filled-from (g.F.Folder.files c.args.folder.now) c.args.ask.now.name.now bytes last c.args.at 8 c.fill_part.new.out tells fits (c.in-Ok.ensures.told tells.0 tells.1) in
    c.from_be_bytes.ensures ∙ ap (from_be_bytes w64) (read ∙ stands) ∙ from_be_bytes-to_be_bytes_8 left short)
