use Rattle.std.proofs.Common.{rules}
use Rattle.std.proofs.lemmas.List.{take_rest}
use Rattle.xa_fields.proofs.Fields.{number_stands}
use Rattle.xa_fields.proofs.take.take_u64.Goals as goal

pub returns-clause-found : goal.returns-clause-found
returns-clause-found c =
    number_stands c.args.bytes.now c.in_ok-get.field-0.now c.in_ok-front.front.now c.args.at c.from_be_bytes.result (search (rules, take_rest)) c.in_ok-front.ensures.cases c.from_be_bytes.ensures
