use Rattle.record_format.proofs.Apart.{one_value, no_front}
use Rattle.record_format.proofs.laws.encodings_tell_records_apart.Goals as goal

pub returns-clause-one_value : goal.returns-clause-one_value
returns-clause-one_value c = one_value

pub returns-clause-no_front : goal.returns-clause-no_front
returns-clause-no_front c = no_front
