use Rattle.std.proofs.Common.{arith}
use Rattle.record_cursor.proofs.Headers.{text-of, no-header-long, no-header-text}
use Rattle.record_cursor.proofs.front.header_length.Goals as goal

pub returns-then-end-first-clause-told : goal.returns-then-end-first-clause-told
returns-then-end-first-clause-told c = λ bytes len is. (
    no-header-long bytes c.in-Some.text (text-of bytes c.args.front.now _ c.in-Some.text is c.requires c.in-Some.ensures.found) (omega (arith, len, c.if-end-first.true)))

pub returns-then-not-may_be_canonical-clause-told : goal.returns-then-not-may_be_canonical-clause-told
returns-then-not-may_be_canonical-clause-told c = λ bytes len is. (
    no-header-text bytes c.in-Some.text (text-of bytes c.args.front.now _ c.in-Some.text is c.requires c.in-Some.ensures.found) (omega (arith, len, c.if-end-first.false)) c.if-not-may_be_canonical.ensures.many)
