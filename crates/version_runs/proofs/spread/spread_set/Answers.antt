use Rattle.std.proofs.Common.{◌≡◌, ◌∙◌, ◌++◌, [], ◌∷◌, true, cond, get_or, take, ap, sym, subst, arith}
use Rattle.version_set.specs.Pairs.{IsCanonical, last_of}
use Rattle.version_set.specs.View.{pairs_of}
use Rattle.version_runs.specs.Spread.{spread_pair, spread_pairs}
use Rattle.version_runs.proofs.Sets.{pair_at, spread_next}
use Rattle.version_runs.proofs.spread.spread_set.Goals as goal

pub spread_pair-requires-clause-some : goal.spread_pair-requires-clause-some
spread_pair-requires-clause-some c =
    let e = c.pairs-pair-items.ensures in
    (pair_at 1 c.pairs-pair-items.result.now c.loop-pair.pair-index (subst IsCanonical (sym e) c.args.set.now.canonical) c.loop-pair-test.true).0

pub spread_pair-requires-clause-order : goal.spread_pair-requires-clause-order
spread_pair-requires-clause-order c =
    let e = c.pairs-pair-items.ensures in
    (pair_at 1 c.pairs-pair-items.result.now c.loop-pair.pair-index (subst IsCanonical (sym e) c.args.set.now.canonical) c.loop-pair-test.true).1

pub spread_pair-requires-clause-within : goal.spread_pair-requires-clause-within
spread_pair-requires-clause-within c =
    let e = c.pairs-pair-items.ensures in
    let at = (pair_at 1 c.pairs-pair-items.result.now c.loop-pair.pair-index (subst IsCanonical (sym e) c.args.set.now.canonical) c.loop-pair-test.true).2 in
    let last : last_of c.pairs-pair-items.result.now ≡ last_of (pairs_of c.args.set.now) = ap last_of e in
    let most = c.requires.within in
    omega (arith, at, last, most)

pub loop-pair-preserved : goal.loop-pair-preserved
loop-pair-preserved c =
    let items = c.pairs-pair-items.result.now in
    let next = spread_next c.args.starts.now c.args.last c.requires.starts items (pairs_of c.args.set.now) c.loop-pair.pair-index c.pairs-pair-items.ensures c.args.set.now.canonical c.requires.within c.loop-pair-test.true in
    let pair = spread_pair c.args.starts.now c.args.last (get_or items c.loop-pair.pair-index (0, 0)) in
    let same : pairs_of c.loop-pair.numbers ++ c.spread_pair.result ∷ [] ≡ spread_pairs c.args.starts.now c.args.last (take c.loop-pair.pair-index items) ++ pair ∷ [] = (λ i. c.loop-pair.invariant i ++ c.spread_pair.ensures i ∷ []) in
    let may : c.in_ok-push_pair.field-0 ≡ true = c.in_ok-push_pair.ensures.exact.1 (subst IsCanonical (sym same) next.1) in
    c.in_ok-push_pair.ensures.pairs ∙ ap (λ b. cond b (pairs_of c.loop-pair.numbers ++ c.spread_pair.result ∷ []) (pairs_of c.loop-pair.numbers)) may ∙ same ∙ sym next.0
