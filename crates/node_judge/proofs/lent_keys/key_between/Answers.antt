use Rattle.std.proofs.Common.{Some, sym, ap, ◌∙◌, drop, arith}
use Rattle.xa_fields.proofs.Fields.{some_is}
use Rattle.record_parts.proofs.Local.{is_some_of}
use Rattle.node_judge.proofs.Values.{value-between}
use Rattle.node_judge.proofs.lent_keys.key_between.Goals as goal

pub lend_body-requires : goal.lend_body-requires
lend_body-requires c =
    let v = value-between c.args.bytes.now c.args.at (λ i. omega (arith, c.type_inv.bytes i)) c.args.end c.requires.order c.requires.ends in
    is_some_of _ v.0 v.2

pub returns : goal.returns
returns c =
    let b = c.args.bytes.now in
    let v = value-between b c.args.at (λ i. omega (arith, c.type_inv.bytes i)) c.args.end c.requires.order c.requires.ends in
    v.1 ∙ ap (λ k. Some (k, drop c.args.end b)) (sym (some_is _ v.0 (c.lend_body.ensures ∙ v.2)))
