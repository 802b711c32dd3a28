use Rattle.std.proofs.lemmas.Grind.{common_steps}
use Rattle.std.proofs.Common.{ℕ, List, sym, subst, arith}
use Rattle.version_set.proofs.Walks.{Unites, Unites-starts, Unites-swap, unite_both, unite_one}
use Rattle.version_set.proofs.pairs.put_union.Goals as goal

pub loop-our-init : goal.loop-our-init
loop-our-init c = subst (λ (ps : List (ℕ × ℕ)). Unites c.args.ours.now c.args.theirs.now c.args.ours.now c.args.theirs.now ps) (sym c.requires.empty) (Unites-starts _ _ c.requires.ours c.requires.theirs)

pub loop-our-preserved-then-our-their : goal.loop-our-preserved-then-our-their
loop-our-preserved-then-our-their c =
    let our = c.in-Some-Some.ensures.lookup in
    let their = c.in-Some-Some.ensures'.lookup in
    unite_both _ _ c.loop-our.all.items _ _ _ _ c.in-Some-Some.their.now c.loop-our.invariant our.3.0 our.1 their.3.0 their.1 c.if-our-their.true c.in_ok-put_last-in-Some-Some.ensures.joins

pub loop-our-preserved-else-our-their : goal.loop-our-preserved-else-our-their
loop-our-preserved-else-our-their c =
    let our = c.in-Some-Some.ensures.lookup in
    let their = c.in-Some-Some.ensures'.lookup in
    Unites-swap _ _ _ _ _ (unite_both _ _ c.loop-our.all.items _ _ _ _ c.in-Some-Some.our.now (Unites-swap _ _ _ _ _ c.loop-our.invariant) their.3.0 their.1 our.3.0 our.1 (omega (arith, c.if-our-their.false)) c.in_ok-put_last-in-Some-Some-2.ensures.joins)

pub loop-our-preserved-in-Some-None : goal.loop-our-preserved-in-Some-None
loop-our-preserved-in-Some-None c =
    let our = c.in-Some-None.ensures.lookup in
    let their = c.in-Some-None.ensures'.lookup in
    unite_one _ _ c.loop-our.all.items _ _ _ _ c.loop-our.invariant our.3.0 our.1 their.3 c.in_ok-put_last-in-Some-None.ensures.joins

pub loop-our-preserved : goal.loop-our-preserved
loop-our-preserved c =
    let our = c.in-None-Some.ensures.lookup in
    let their = c.in-None-Some.ensures'.lookup in
    Unites-swap _ _ _ _ _ (unite_one _ _ c.loop-our.all.items _ _ _ _ (Unites-swap _ _ _ _ _ c.loop-our.invariant) their.3.0 their.1 our.3 c.in_ok-put_last-in-None-Some.ensures.joins)

pub returns-in-None-None-clause-canonical : goal.returns-in-None-None-clause-canonical
returns-in-None-None-clause-canonical c = grind (arith, common_steps)

pub returns-in-None-None-clause-numbers : goal.returns-in-None-None-clause-numbers
returns-in-None-None-clause-numbers c = grind (arith, common_steps)
