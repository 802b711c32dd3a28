use Rattle.std.proofs.Common.{rules}
use Rattle.version_notes.proofs.Zeros.{gains_after}
use Rattle.version_notes.proofs.writer.append_notes.Goals as goal

pub returns-in-Ok : goal.returns-in-Ok
returns-in-Ok g c =
    let draft = g.F.Folder.draft in
    let numbers = g.F.Folder.numbers in
    record {
      same_files = search rules;
      gains = gains_after (draft c.args.folder.now) (draft c.append_empty.new.folder) (draft c.append_text-in-Ok.new.folder) (numbers c.args.folder.now) (numbers c.append_empty.new.folder) (numbers c.append_text-in-Ok.new.folder)
          _ _ c.append_text-in-Ok.result c.in-Ok.ensures.gains c.append_text-in-Ok.ensures.gains;
      cause = search rules;
    }
