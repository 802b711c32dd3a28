use Rattle.std.proofs.Common.{ℕ, ltb, ltb-true, ltb-false, sym, ◌∙◌, arith, rules}
use Rattle.std.proofs.lemmas.List.Sorted.{IsPartitionPoint-from_clause, IsPartitionedBy-ltb}
use Rattle.std.proofs.lemmas.Bool.{le-ltb}
use Rattle.version_set.proofs.MembersLemmas.{has-members}
use Rattle.version_set.proofs.Walks.{ends_rise, covers_at, covers_past}
use Rattle.version_set.proofs.pairs.holds.Goals as goal

pub returns-then-at-pairs : goal.returns-then-at-pairs
returns-then-at-pairs c =
    let parted = IsPartitionedBy-ltb (λ (p : ℕ × ℕ). p.1) c.args.pairs.now c.args.n (ends_rise c.args.pairs.now c.requires) in
    let point = IsPartitionPoint-from_clause (λ (p : ℕ × ℕ). ltb p.1 c.args.n) _ _ c.partition_point-at.ensures.partitioned parted (λ a r q k. search rules) in
    sym (has-members c.args.pairs.now c.args.n ∙ covers_at 1 c.args.pairs.now c.args.n c.partition_point-at.result (0, 0) c.requires c.if-at-pairs.true
    (λ i lt. ltb-true _ _ (point.0 i (0, 0) (omega arith) lt)) (ltb-false _ _ (point.1 c.partition_point-at.result (0, 0) (omega arith) c.if-at-pairs.true)))

pub returns-else-at-pairs : goal.returns-else-at-pairs
returns-else-at-pairs c =
    let parted = IsPartitionedBy-ltb (λ (p : ℕ × ℕ). p.1) c.args.pairs.now c.args.n (ends_rise c.args.pairs.now c.requires) in
    let point = IsPartitionPoint-from_clause (λ (p : ℕ × ℕ). ltb p.1 c.args.n) _ _ c.partition_point-at.ensures.partitioned parted (λ a r q k. search rules) in
    le-ltb _ _ c.if-at-pairs.false ∙ sym (has-members c.args.pairs.now c.args.n ∙ covers_past c.args.pairs.now c.args.n (0, 0) (λ i lt. ltb-true _ _ (point.0 i (0, 0) (omega arith) (omega (arith, c.if-at-pairs.false)))))
