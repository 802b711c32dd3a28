use Rattle.std.proofs.Common.{arith, leb-true, le-leb}
use Rattle.version_set.proofs.Ends.{may_stand}
use Rattle.version_set.proofs.pairs.may_follow.Goals as goal

pub returns-then-next_low-from : goal.returns-then-next_low-from
returns-then-next_low-from c =
    let stands = may_stand c.args.pairs.now c.args.pair c.requires in
    (λ t. stands.0 (omega (arith, c.next_low.ensures, c.from.ensures, c.if-next_low-from.true), leb-true _ _ t), λ h. le-leb _ _ (stands.1 h).1)

pub returns-else-next_low-from : goal.returns-else-next_low-from
returns-else-next_low-from c =
    let stands = may_stand c.args.pairs.now c.args.pair c.requires in
    (λ t. absurd (omega (arith, leb-true _ _ t, c.if-next_low-from.false)), λ h. le-leb _ _ (omega (arith, (stands.1 h).0, c.next_low.ensures, c.from.ensures)))
