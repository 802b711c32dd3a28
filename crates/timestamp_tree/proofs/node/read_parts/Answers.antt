use Rattle.std.proofs.lemmas.Grind.{common_steps}
use Rattle.std.proofs.Common.{◌≡◌, ℕ, ◌+◌, ◌*◌, ◌<◌, rules, length, subst, arith}
use Rattle.timestamp_tree.specs.Nodes.{IfDamage, piece_of}
use Rattle.timestamp_tree.proofs.Pieces.{no_rest}
use Rattle.version_set.specs.declared.limits.TheConstants.{GREATEST_NUMBER}
use Rattle.timestamp_tree.proofs.node.read_parts.Goals as goal

pub returns-clause-told : goal.returns-clause-told
returns-clause-told g c = λ files limit told fits. (
    let piece = piece_of files c.args.name.now c.args.at limit in
    let size : length c.deref_mut.result.now ≡ 8 * c.args.count + 8 = search rules in
    let few = c.in-Err.ensures.told files limit told (omega (arith, size, fits)) in
    no_rest GREATEST_NUMBER c.args.count piece c.in-Err.fault (subst (λ (n : ℕ). IfDamage c.in-Err.fault (length piece < n)) size few))

pub returns-then-is_err-clause-reads : goal.returns-then-is_err-clause-reads
returns-then-is_err-clause-reads g c = grind (arith, common_steps)

pub returns-then-is_err-clause-size : goal.returns-then-is_err-clause-size
returns-then-is_err-clause-size g c = grind (arith, common_steps)

pub returns-then-is_err-clause-count : goal.returns-then-is_err-clause-count
returns-then-is_err-clause-count g c = grind (arith, common_steps)

pub returns-then-is_err-clause-numbers : goal.returns-then-is_err-clause-numbers
returns-then-is_err-clause-numbers g c = grind (arith, common_steps)

pub returns-then-is_err-clause-pulls : goal.returns-then-is_err-clause-pulls
returns-then-is_err-clause-pulls g c = grind (arith, common_steps)

pub returns-then-is_err-clause-told : goal.returns-then-is_err-clause-told
returns-then-is_err-clause-told g c = grind (arith, common_steps)

pub returns-in-Ok-clause-reads : goal.returns-in-Ok-clause-reads
returns-in-Ok-clause-reads g c = grind (arith, common_steps)

pub returns-in-Ok-clause-size : goal.returns-in-Ok-clause-size
returns-in-Ok-clause-size g c = grind (arith, common_steps)

pub returns-in-Ok-clause-count : goal.returns-in-Ok-clause-count
returns-in-Ok-clause-count g c = grind (arith, common_steps)

pub returns-in-Ok-clause-numbers : goal.returns-in-Ok-clause-numbers
returns-in-Ok-clause-numbers g c = grind (arith, common_steps)

pub returns-in-Ok-clause-pulls : goal.returns-in-Ok-clause-pulls
returns-in-Ok-clause-pulls g c = grind (arith, common_steps)

pub returns-in-Ok-clause-told : goal.returns-in-Ok-clause-told
returns-in-Ok-clause-told g c = grind (arith, common_steps)

pub returns-clause-reads : goal.returns-clause-reads
returns-clause-reads g c = grind (arith, common_steps)

pub returns-clause-size : goal.returns-clause-size
returns-clause-size g c = grind (arith, common_steps)

pub returns-clause-count : goal.returns-clause-count
returns-clause-count g c = grind (arith, common_steps)

pub returns-clause-numbers : goal.returns-clause-numbers
returns-clause-numbers g c = grind (arith, common_steps)

pub returns-clause-pulls : goal.returns-clause-pulls
returns-clause-pulls g c = grind (arith, common_steps)
