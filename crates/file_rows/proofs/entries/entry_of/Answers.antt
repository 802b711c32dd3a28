use Rattle.file_rows.proofs.Fields.{entry-is}
use Rattle.file_rows.proofs.entries.entry_of.Goals as goal

pub returns-clause-is : goal.returns-clause-is
returns-clause-is c = λ piece long e. (
    entry-is piece c.args.bytes.now c.in_ok-start.start c.in_ok-length.length c.in_ok-dir.dir _ _ _ long e c.in_ok-start.ensures.found c.in_ok-length.ensures.found c.in_ok-dir.ensures.found)
