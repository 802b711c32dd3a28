use Rattle.jsonml_lines.proofs.Feeds.{split_some, split_none}
use Rattle.jsonml_lines.proofs.split.split_line.Goals as goal

pub returns-in-Some-clause-split : goal.returns-in-Some-clause-split
returns-in-Some-clause-split c = split_some c.args.bytes.now c.args.at c.in-Some.size c.in-Some.ensures.place

pub returns-in-None-clause-split : goal.returns-in-None-clause-split
returns-in-None-clause-split c = split_none c.args.bytes.now c.args.at c.in-None.ensures.place
