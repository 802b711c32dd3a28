use Rattle.std.proofs.Common.{◌<◌, sym, subst, ◌∙◌, arith, length}
use Rattle.file_get.specs.Looked.{LookIs}
use Rattle.file_get.proofs.Looking.{not-false, parts-fit, parts-are}
use Rattle.file_get.proofs.look.judge.Goals.{then-probe-eq0-via-then-probe-eq0, then-probe-eq0-via-else-probe-eq0+then-span-at}
use Rattle.file_get.proofs.look.judge.Goals as goal

pub returns-then-probe-eq0-clause-told : goal.returns-then-probe-eq0-clause-told
returns-then-probe-eq0-clause-told c = λ i bytes row parent front ks behind is sets of. (
    let count = is.count in
    let many : 1 < length ks = omega (arith, count, c.requires.many) in
    let fits = parts-fit bytes row c.args.span parent front ks behind i c.args.probe is sets of many in
    elim c.then-probe-eq0.branch [
      | then-probe-eq0-via-then-probe-eq0 w ↦ omega (arith, fits.0, w.if-probe-eq0.true)
      | then-probe-eq0-via-else-probe-eq0+then-span-at w ↦ omega (arith, fits.1, w.if-span-at.true)
    ])

pub returns-then-probe-eq0-clause-inner : goal.returns-then-probe-eq0-clause-inner
returns-then-probe-eq0-clause-inner c = λ fits. (
    let low = fits.0 in
    let high = fits.1 in
    elim c.then-probe-eq0.branch [
      | then-probe-eq0-via-then-probe-eq0 w ↦ omega (arith, low, w.if-probe-eq0.true)
      | then-probe-eq0-via-else-probe-eq0+then-span-at w ↦ omega (arith, high, w.if-span-at.true)
    ])

pub returns-clause-told : goal.returns-clause-told
returns-clause-told c = λ i bytes row parent front ks behind is sets of. (
    let count = is.count in
    let within = of.has in
    let many : 1 < length ks = omega (arith, count, c.requires.many) in
    subst (LookIs i bytes row parent front ks behind) (sym c.halves.ensures)
    (many, sym within ∙ not-false c.args.probe.has c.if-not-probe.false, parts-are bytes row c.args.span parent front ks behind i c.args.probe is sets of many))
