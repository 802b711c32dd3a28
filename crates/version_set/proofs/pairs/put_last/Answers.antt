use Rattle.std.proofs.lemmas.Grind.{common_steps}
use Rattle.std.proofs.Common.{ℕ, ◌++◌, ◌∷◌, [], List, arith, ap, ◌∙◌}
use Rattle.version_set.proofs.Ends.{joins_touching, joins_apart, start_positive}
use Rattle.version_set.proofs.pairs.put_last.Goals as goal

pub returns-in-Some-clause-joins : goal.returns-in-Some-clause-joins
returns-in-Some-clause-joins c =
    let front = c.pop.new.self.items in
    joins_touching c.args.pairs.now.items front _ (c.in-Some.from, c.in-Some.to) c.args.pair c.requires.canonical c.requires.behind c.in-Some.ensures.items (omega (arith, start_positive 1 c.args.pairs.now.items (omega arith) c.requires.canonical))
    (c.push_reserved.ensures.items ∙ ap (λ (n : ℕ). front ++ (c.in-Some.from, n) ∷ []) c.max.ensures)

pub returns-in_ok-push-in-Some-2-clause-joins : goal.returns-in_ok-push-in-Some-2-clause-joins
returns-in_ok-push-in-Some-2-clause-joins c =
    joins_apart c.args.pairs.now.items c.pop.new.self.items _ (c.in-Some.from, c.in-Some.to) c.args.pair c.requires.canonical c.in-Some.ensures.items (omega arith) c.requires.order
    (c.in_ok-push-in-Some-2.ensures.ok ∙ ap (λ (ps : List (ℕ × ℕ)). ps ++ c.args.pair ∷ []) c.push_reserved-in-Some-2.ensures.items)

pub overflow_sub-pair : goal.overflow_sub-pair
overflow_sub-pair c = omega (arith, start_positive 1 c.args.pairs.now.items (omega arith) c.requires.canonical, c.requires.behind)

pub returns-in-Some-clause-len : goal.returns-in-Some-clause-len
returns-in-Some-clause-len c = grind (arith, common_steps)

pub returns-in-Some-clause-succeeds : goal.returns-in-Some-clause-succeeds
returns-in-Some-clause-succeeds c = grind (arith, common_steps)

pub returns-in-Some-clause-capacity : goal.returns-in-Some-clause-capacity
returns-in-Some-clause-capacity c = grind (arith, common_steps)

pub returns-in-Some-clause-err : goal.returns-in-Some-clause-err
returns-in-Some-clause-err c = grind (arith, common_steps)

pub returns-in_ok-push-in-Some-2-clause-len : goal.returns-in_ok-push-in-Some-2-clause-len
returns-in_ok-push-in-Some-2-clause-len c = grind (arith, common_steps)

pub returns-in_ok-push-in-Some-2-clause-err : goal.returns-in_ok-push-in-Some-2-clause-err
returns-in_ok-push-in-Some-2-clause-err c = grind (arith, common_steps)

pub returns-in_ok-push-in-None-clause-joins : goal.returns-in_ok-push-in-None-clause-joins
returns-in_ok-push-in-None-clause-joins c = grind (arith, common_steps)

pub returns-in_ok-push-in-None-clause-len : goal.returns-in_ok-push-in-None-clause-len
returns-in_ok-push-in-None-clause-len c = grind (arith, common_steps)

pub returns-in_ok-push-in-None-clause-succeeds : goal.returns-in_ok-push-in-None-clause-succeeds
returns-in_ok-push-in-None-clause-succeeds c = grind (arith, common_steps)

pub returns-in_ok-push-in-None-clause-capacity : goal.returns-in_ok-push-in-None-clause-capacity
returns-in_ok-push-in-None-clause-capacity c = grind (arith, common_steps)

pub returns-in_ok-push-in-None-clause-err : goal.returns-in_ok-push-in-None-clause-err
returns-in_ok-push-in-None-clause-err c = grind (arith, common_steps)
