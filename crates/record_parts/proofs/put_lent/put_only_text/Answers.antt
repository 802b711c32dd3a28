use Rattle.std.proofs.Common.{rules}
use Rattle.record_parts.proofs.Rows.{only_spells}
use Rattle.record_parts.proofs.put_lent.put_only_text.Goals as goal

pub returns : goal.returns
returns c = only_spells c.args.text.now _ _ _ c.put_short.result (search rules) c.put_short.ensures
