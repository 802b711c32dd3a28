use Rattle.std.proofs.lemmas.Grind.{common_steps}
use Rattle.std.proofs.Common.{ℕ, List, subst, sym, arith}
use Rattle.version_set.proofs.Walks.{Meets, Meets-starts, Meets-swap, Shares-swap, meet_step, meet_behind, drop_at}
use Rattle.version_set.proofs.pairs.intersect.Goals as goal

pub loop-i-init : goal.loop-i-init
loop-i-init c = subst (λ (ps : List (ℕ × ℕ)). Meets c.args.ours.now c.args.theirs.now c.args.ours.now c.args.theirs.now ps) (sym c.new-both.ensures.items) (Meets-starts _ _ c.requires.ours c.requires.theirs)

pub put_common-requires-clause-behind : goal.put_common-requires-clause-behind
put_common-requires-clause-behind c =
    let our = drop_at c.args.ours.now c.loop-i.i (0, 0) c.loop-i-test.true in
    let their = drop_at c.args.theirs.now c.loop-i.j (0, 0) c.if-j-theirs.true in
    meet_behind _ _ c.loop-i.both.items _ _ _ _ c.loop-i.invariant our their

pub loop-i-preserved-then-ours-i : goal.loop-i-preserved-then-ours-i
loop-i-preserved-then-ours-i c =
    let our = drop_at c.args.ours.now c.loop-i.i (0, 0) c.loop-i-test.true in
    let their = drop_at c.args.theirs.now c.loop-i.j (0, 0) c.if-j-theirs.true in
    meet_step _ _ c.loop-i.both.items _ _ _ _ _ c.loop-i.invariant our their (omega (arith, c.if-ours-i.true)) c.in_ok-put_common.ensures

pub loop-i-preserved : goal.loop-i-preserved
loop-i-preserved c =
    let our = drop_at c.args.ours.now c.loop-i.i (0, 0) c.loop-i-test.true in
    let their = drop_at c.args.theirs.now c.loop-i.j (0, 0) c.if-j-theirs.true in
    Meets-swap _ _ _ _ _ (meet_step _ _ c.loop-i.both.items _ _ _ _ _ (Meets-swap _ _ _ _ _ c.loop-i.invariant) their our c.if-ours-i.false (Shares-swap _ _ _ _ c.in_ok-put_common.ensures))

pub returns-clause-canonical : goal.returns-clause-canonical
returns-clause-canonical c = grind (arith, common_steps)

pub returns-clause-numbers : goal.returns-clause-numbers
returns-clause-numbers c = grind (arith, common_steps)
