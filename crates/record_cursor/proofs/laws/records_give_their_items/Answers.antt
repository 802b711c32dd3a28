use Rattle.record_cursor.proofs.Items.{next-record, give-records}
use Rattle.record_cursor.proofs.ItemLaws.{record-of}
use Rattle.record_cursor.proofs.Pulled.{read-within, size-least}
use Rattle.record_cursor.proofs.laws.records_give_their_items.Goals as goal

pub returns-clause-next : goal.returns-clause-next
returns-clause-next c = next-record

pub returns-clause-all : goal.returns-clause-all
returns-clause-all c = give-records

pub returns-clause-only : goal.returns-clause-only
returns-clause-only c = record-of

pub returns-clause-within : goal.returns-clause-within
returns-clause-within c = read-within

pub returns-clause-least : goal.returns-clause-least
returns-clause-least c = size-least
