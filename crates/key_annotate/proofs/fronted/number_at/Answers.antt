use Rattle.std.proofs.lemmas.Grind.{common_steps}
use Rattle.std.proofs.Common.{◌≡◌, suc, ◌+◌, ◌-◌, ◌*◌, ◌<◌, drop, subst, sym, ap, ◌∙◌, arith}
use Rattle.key_annotate.specs.Front.{spelled}
use Rattle.key_annotate.proofs.Fronts.{power, power-small, step}
use Rattle.key_annotate.proofs.fronted.number_at.Goals as goal

pub overflow_mul-number : goal.overflow_mul-number
overflow_mul-number c =
    let bound = power-small (c.loop-at.at - c.args.from) (omega (arith, c.loop-at.auto.at, c.loop-at-test.true)) in
    record { fits = omega (arith, bound, c.loop-at.invariant.small) }

pub overflow_add-number : goal.overflow_add-number
overflow_add-number c =
    let bound = power-small (c.loop-at.at - c.args.from) (omega (arith, c.loop-at.auto.at, c.loop-at-test.true)) in
    record { fits = omega (arith, bound, c.loop-at.invariant.small, c.byte_at.ensures.bound) }

pub loop-at-preserved : goal.loop-at-preserved
loop-at-preserved c =
    let s = c.args.bytes.now in
    let n = c.loop-at.number in
    let at = c.loop-at.at in
    let k = c.args.from + 8 - (at + 1) in
    let left : c.args.from + 8 - at ≡ suc k = omega (arith, c.loop-at-test.true) in
    let done : at + 1 - c.args.from ≡ suc (at - c.args.from) = omega (arith, c.loop-at.auto.at) in
    let next : suc at ≡ at + 1 = omega arith in
    let now : spelled (suc k) n (drop at s) ≡ spelled 8 0 (drop c.args.from s) = subst (λ m. spelled m n (drop at s) ≡ spelled 8 0 (drop c.args.from s)) left c.loop-at.invariant.rest in
    let more : spelled (suc k) n (drop at s) ≡ spelled k (n * 256 + c.byte_at.result) (drop (at + 1) s) =
    step k n at s ∙ ap (λ b. spelled k (n * 256 + b) (drop (suc at) s)) (sym c.byte_at.ensures.byte) ∙ ap (λ m. spelled k (n * 256 + c.byte_at.result) (drop m s)) next in
    let small : n * 256 + c.byte_at.result < power (suc (at - c.args.from)) = omega (arith, c.loop-at.invariant.small, c.byte_at.ensures.bound) in
    record { rest = sym more ∙ now; small = subst (λ m. n * 256 + c.byte_at.result < power m) (sym done) small }

pub loop-at-init : goal.loop-at-init
loop-at-init c = grind (arith, common_steps)

pub returns-clause-number : goal.returns-clause-number
returns-clause-number c = grind (arith, common_steps)

pub returns-clause-bytes : goal.returns-clause-bytes
returns-clause-bytes c = grind (arith, common_steps)
