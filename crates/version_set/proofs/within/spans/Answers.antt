use Rattle.std.proofs.Common.{ℕ, ltb, ltb-true, ltb-false, sym, arith, rules, true≢false}
use Rattle.std.proofs.lemmas.List.Sorted.{IsPartitionPoint-from_clause, IsPartitionedBy-ltb}
use Rattle.version_set.proofs.Walks.{ends_rise}
use Rattle.version_set.proofs.Inside.{spans_begun, spans_later, spans_past}
use Rattle.version_set.proofs.within.spans.Goals as goal

pub returns-then-at-pairs : goal.returns-then-at-pairs
returns-then-at-pairs c =
    let parted = IsPartitionedBy-ltb (λ (p : ℕ × ℕ). p.1) c.args.pairs.now c.args.from (ends_rise c.args.pairs.now c.requires.canonical) in
    let point = IsPartitionPoint-from_clause (λ (p : ℕ × ℕ). ltb p.1 c.args.from) _ _ c.partition_point-at.ensures.partitioned parted (λ a r q k. search rules) in
    (λ h. absurd (true≢false (sym h)), λ h. absurd (spans_past c.args.pairs.now c.args.from c.args.to (0, 0) c.requires.order (λ i lt. ltb-true _ _ (point.0 i (0, 0) (omega arith) (omega (arith, c.if-at-pairs.true)))) h))

pub returns-then-first-from : goal.returns-then-first-from
returns-then-first-from c =
    let k = c.partition_point-at.result in
    let parted = IsPartitionedBy-ltb (λ (p : ℕ × ℕ). p.1) c.args.pairs.now c.args.from (ends_rise c.args.pairs.now c.requires.canonical) in
    let point = IsPartitionPoint-from_clause (λ (p : ℕ × ℕ). ltb p.1 c.args.from) _ _ c.partition_point-at.ensures.partitioned parted (λ a r q k. search rules) in
    spans_begun c.args.pairs.now c.args.from c.args.to k (0, 0) c.requires.canonical c.requires.order (omega arith)
    (λ i lt. ltb-true _ _ (point.0 i (0, 0) (omega arith) lt)) (ltb-false _ _ (point.1 k (0, 0) (omega arith) (omega arith))) c.if-first-from.true

pub returns-else-first-from : goal.returns-else-first-from
returns-else-first-from c =
    let k = c.partition_point-at.result in
    let parted = IsPartitionedBy-ltb (λ (p : ℕ × ℕ). p.1) c.args.pairs.now c.args.from (ends_rise c.args.pairs.now c.requires.canonical) in
    let point = IsPartitionPoint-from_clause (λ (p : ℕ × ℕ). ltb p.1 c.args.from) _ _ c.partition_point-at.ensures.partitioned parted (λ a r q k. search rules) in
    spans_later c.args.pairs.now c.args.from c.args.to k (0, 0) c.requires.canonical c.requires.order (omega arith)
    (λ i lt. ltb-true _ _ (point.0 i (0, 0) (omega arith) lt)) (ltb-false _ _ (point.1 k (0, 0) (omega arith) (omega arith))) c.if-first-from.false
