use Rattle.record_format.proofs.Records.{record_reads, frame_reads}
use Rattle.record_format.proofs.laws.records_are_read_as_spelled.Goals as goal

pub returns-clause-records : goal.returns-clause-records
returns-clause-records c = record_reads

pub returns-clause-frames : goal.returns-clause-frames
returns-clause-frames c = frame_reads
