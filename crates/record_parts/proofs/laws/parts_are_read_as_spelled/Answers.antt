use Rattle.record_parts.specs.Parts.{label_reads, set_reads, stamp_reads}
use Rattle.record_parts.specs.Values.{content_reads, value_reads}
use Rattle.record_parts.proofs.laws.parts_are_read_as_spelled.Goals as goal

pub returns-clause-labels : goal.returns-clause-labels
returns-clause-labels c = label_reads

pub returns-clause-values : goal.returns-clause-values
returns-clause-values c = value_reads

pub returns-clause-stamps : goal.returns-clause-stamps
returns-clause-stamps c = stamp_reads

pub returns-clause-sets : goal.returns-clause-sets
returns-clause-sets c = set_reads

pub returns-clause-contents : goal.returns-clause-contents
returns-clause-contents c = content_reads
