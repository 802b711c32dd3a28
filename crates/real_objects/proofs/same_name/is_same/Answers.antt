use Rattle.std.proofs.Common.{◌≡◌, ℕ, ◌-◌, List, ap, arith, length, take, drop}
use Rattle.real_objects.proofs.NameLemmas.{all}
use Rattle.real_objects.proofs.same_name.is_same.Goals as goal

pub returns : goal.returns
returns c =
    let a = c.args.a.now in
    let b = c.args.b.now in
    let as_long : length a ≡ length b = omega (arith, c.if-a-b.false) in
    let last = length a - 8 in (
      λ t. all a b c.loop-at.at last 8 (omega (arith, c.requires)) (omega (arith, c.requires, as_long)) (omega (arith, c.loop-at-test.false)) c.loop-at.invariant.1 (c.has_word-2.ensures.0 t),
      λ q. c.has_word-2.ensures.1 (ap (λ (l : List ℕ). take 8 (drop last l)) q),
    )
