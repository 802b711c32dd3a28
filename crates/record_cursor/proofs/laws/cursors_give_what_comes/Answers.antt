use Rattle.record_cursor.proofs.ItemLaws.{comes-on, comes-first}
use Rattle.record_cursor.proofs.laws.cursors_give_what_comes.Goals as goal

pub returns-clause-next : goal.returns-clause-next
returns-clause-next c = comes-on

pub returns-clause-starts : goal.returns-clause-starts
returns-clause-starts c = comes-first
