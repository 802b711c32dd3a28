use Rattle.std.proofs.Common.{rules}
use Rattle.record_format.proofs.Frames.{length_set}
use Rattle.record_format.proofs.put_records.close.Goals as goal

pub returns : goal.returns
returns c = λ front body kind e at. length_set c.args.out.now.items c.set_u64.new.out.items front body kind c.args.at _ (search rules) e at c.set_u64.ensures
