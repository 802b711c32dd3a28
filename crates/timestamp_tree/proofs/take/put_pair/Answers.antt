use Rattle.std.proofs.Common.{Result, Ok, Err, IfOk, arith}
use Rattle.version_set.specs.View.{pairs_of}
use Rattle.timestamp_tree.proofs.Intervals.{next_stands}
use Rattle.timestamp_tree.proofs.take.put_pair.Goals as goal

both : {T E : Type 0} (r : Result T E) (P Q S : T → Type 0) → ((x : T) → P x → Q x → S x) → IfOk r P → IfOk r Q → IfOk r S
both (Ok x) P Q S f p q = f x p q
both (Err e) P Q S f p q = tt

pub returns-clause-next : goal.returns-clause-next
returns-clause-next c =
    both c.push_pair.result _ _ _ (λ may exact pairs. next_stands c.args.most (pairs_of c.args.set.now) (pairs_of c.push_pair.new.self) c.args.pair may c.args.set.now.canonical (omega (arith, c.if-pair-most.false)) exact pairs) c.push_pair.ensures.exact c.push_pair.ensures.pairs
