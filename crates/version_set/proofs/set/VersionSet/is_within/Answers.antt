use Rattle.std.proofs.Common.{true, sym, ◌∙◌, true≢false}
use Rattle.version_set.specs.View.{pairs_of}
use Rattle.version_set.proofs.Inside.{order_of, within_kept, within_not, within_all}
use Rattle.version_set.proofs.set.VersionSet.is_within.Goals as goal

pub spans-requires-clause-order : goal.spans-requires-clause-order
spans-requires-clause-order c = order_of c.pairs-from-items.result.now (pairs_of c.args.self.now) c.loop-from.from-index c.pairs-from-items.ensures c.args.self.now.canonical c.loop-from-test.true

pub returns-then-not-spans : goal.returns-then-not-spans
returns-then-not-spans c = (
  λ h. absurd (true≢false (sym h)),
  λ h. absurd (within_not c.pairs-from-items.result.now (pairs_of c.args.self.now) c.pairs.result.now (pairs_of c.args.other.now) c.loop-from.from-index c.pairs-from-items.ensures c.pairs.ensures c.loop-from-test.true
      (λ g. true≢false (sym (c.spans.ensures.1 g) ∙ c.if-not-spans.true)) c.loop-from.invariant h),
)

pub loop-from-preserved : goal.loop-from-preserved
loop-from-preserved c = within_kept c.pairs-from-items.result.now (pairs_of c.args.self.now) c.pairs.result.now (pairs_of c.args.other.now) c.loop-from.from-index c.pairs-from-items.ensures c.pairs.ensures c.loop-from-test.true
    (c.spans.ensures.0 c.if-not-spans.false) c.loop-from.invariant

pub returns : goal.returns
returns c = (
  λ h. within_all c.pairs-from-items.result.now (pairs_of c.args.self.now) (pairs_of c.args.other.now) (pairs_of c.args.other.now) c.loop-from.from-index c.pairs-from-items.ensures (λ i. pairs_of c.args.other.now) c.loop-from-test.false c.loop-from.invariant,
  λ h i. true,
)
