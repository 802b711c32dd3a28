use Rattle.std.proofs.Common.{◌<◌, length, drop, ap, take}
use Rattle.std.proofs.lemmas.List.{take_rest}
use Rattle.record_parts.proofs.TextOrders.{text_none, text_cut, text_sliced}
use Rattle.record_parts.proofs.order_scalars.text_slice.Goals as goal

pub returns-in_default : goal.returns-in_default
returns-in_default c = λ x f. absurd (text_none (drop c.args.at c.args.bytes.now) x c.in_default.ensures.found f)

pub returns-then-rest-len : goal.returns-then-rest-len
returns-then-rest-len c = λ x f.
    let short : length (drop c.in-Some.start c.args.bytes.now) < c.in-Some.len = simp take_rest at c.if-rest-len.true in
    absurd (text_cut c.in-Some.len (drop c.args.at c.args.bytes.now) (drop c.in-Some.start c.args.bytes.now) x c.in-Some.ensures.found short f)

pub returns : goal.returns
returns c = λ x f. text_sliced c.in-Some.len c.in-Some.start (drop c.args.at c.args.bytes.now) c.args.bytes.now _ x c.in-Some.ensures.found (ap (take c.in-Some.len) (take_rest c.args.bytes.now c.in-Some.start)) f
