use Rattle.std.proofs.Common.{rules, Some, sym, ◌∙◌, arith}
use Rattle.record_parts.specs.Bounds.{IsLabel}
use Rattle.record_parts.specs.Spelling.{label_bytes}
use Rattle.record_parts.specs.Reading.{label_at, stamp_at}
use Rattle.record_parts.specs.ShownViews.{label_in, stamp_in}
use Rattle.record_parts.proofs.Local.{both_whole, no_first, no_second, too_long, is_some_of}
use Rattle.record_parts.specs.Parts.{label_reads}
use Rattle.record_parts.proofs.lend_parts.lend_opening.Goals as goal

pub returns-in_err-middle : goal.returns-in_err-middle
returns-in_err-middle c = (let e = no_first label_at stamp_at c.args.body.now c.in_err-middle.ensures.found in rw e (search rules))

pub returns-in_err-end : goal.returns-in_err-end
returns-in_err-end c = (let e = no_second label_at stamp_at c.args.body.now c.in_ok-middle.middle c.in_ok-middle.ensures.found c.in_err-end.ensures.found in rw e (search rules))

pub returns-then-end-body : goal.returns-then-end-body
returns-then-end-body c = sym (too_long label_at stamp_at c.args.body.now c.in_ok-middle.middle c.in_ok-end.end c.in_ok-middle.ensures.found c.in_ok-end.ensures.found c.if-end-body.true)

pub invariant_of-result : goal.invariant_of-result
invariant_of-result c =
    let b = both_whole label_at stamp_at label_bytes IsLabel label_reads c.args.body.now c.split_at.result.0.now c.split_at.result.1.now c.in_ok-middle.middle c.in_ok-end.end (λ i. omega (arith, c.type_inv.body i)) c.split_at.ensures.front c.split_at.ensures.back c.in_ok-middle.ensures.found c.in_ok-end.ensures.found c.if-end-body.false in
    record { valid = is_some_of _ b.a b.a_is }

pub invariant_of-result-2 : goal.invariant_of-result-2
invariant_of-result-2 c =
    let b = both_whole label_at stamp_at label_bytes IsLabel label_reads c.args.body.now c.split_at.result.0.now c.split_at.result.1.now c.in_ok-middle.middle c.in_ok-end.end (λ i. omega (arith, c.type_inv.body i)) c.split_at.ensures.front c.split_at.ensures.back c.in_ok-middle.ensures.found c.in_ok-end.ensures.found c.if-end-body.false in
    record { valid = is_some_of _ b.b b.b_is }

pub returns : goal.returns
returns c =
    let b = both_whole label_at stamp_at label_bytes IsLabel label_reads c.args.body.now c.split_at.result.0.now c.split_at.result.1.now c.in_ok-middle.middle c.in_ok-end.end (λ i. omega (arith, c.type_inv.body i)) c.split_at.ensures.front c.split_at.ensures.back c.in_ok-middle.ensures.found c.in_ok-end.ensures.found c.if-end-body.false in
    (λ i. Some (label_in (b.a_is i), stamp_in (b.b_is i))) ∙ sym b.both_is
