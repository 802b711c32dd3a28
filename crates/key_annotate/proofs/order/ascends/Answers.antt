use Rattle.std.proofs.Common.{◌≤◌, ◌-◌, length, drop, length-drop, sym, ◌∙◌, arith}
use Rattle.key_annotate.specs.LentView.{lent_view}
use Rattle.key_annotate.proofs.Sorted.{few-ascend}
use Rattle.key_annotate.proofs.order.ascends.Goals as goal

pub returns : goal.returns
returns c =
    let rest = drop (c.loop-i.i - 1) c.args.kids.now in
    let few : length rest ≤ 1 = omega (arith, length-drop (c.loop-i.i - 1) c.args.kids.now) in
    sym (c.loop-i.invariant ∙ few-ascend lent_view rest few)
