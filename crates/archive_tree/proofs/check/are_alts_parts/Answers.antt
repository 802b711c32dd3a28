use Rattle.std.proofs.Common.{sym, subst, IsTrue, arith}
use Rattle.std.proofs.lemmas.Grind.{common_steps}
use Rattle.version_set.specs.Members.{members}
use Rattle.version_set.specs.View.{pairs_of}
use Rattle.archive_tree.specs.PartsTest.{are_parts}
use Rattle.archive_tree.proofs.Counts.{whole_alone}
use Rattle.archive_tree.proofs.check.are_alts_parts.Goals as goal

pub returns-then-is_whole : goal.returns-then-is_whole
returns-then-is_whole c =
    let ns = members (pairs_of c.args.set.now) in
    sym (subst (λ ss. IsTrue (are_parts ns ss)) (sym (c.is_whole.ensures c.if-is_whole.true ns)) (whole_alone ns))

pub loop-alt-init : goal.loop-alt-init
loop-alt-init c = grind (arith, common_steps)

pub loop-alt-preserved : goal.loop-alt-preserved
loop-alt-preserved c = grind (arith, common_steps)

pub returns : goal.returns
returns c = grind (arith, common_steps)
