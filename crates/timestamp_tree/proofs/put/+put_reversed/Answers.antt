use Rattle.std.proofs.lemmas.Grind.{common_steps}
use Rattle.std.proofs.Common.{◌≡◌, ◌<◌, ◌-◌, ◌++◌, List, Bor, length, map, reverse, sym, ap, ◌∙◌, arith}
use Rattle.std.proofs.lemmas.Bool.Decides.{nat_tests}
use Rattle.std.proofs.lemmas.Result.{IfOk-weaker}
use Rattle.version_set.specs.View.{pairs_of}
use Rattle.version_set.specs.Members.{united}
use Rattle.version_set.specs.declared.set.VersionSet.{VersionSet}
use Rattle.timestamp_tree.specs.Data.{PlainTs, top}
use Rattle.timestamp_tree.specs.Bytes.{tree_bytes}
use Rattle.timestamp_tree.specs.Tree.{tree_of}
use Rattle.timestamp_tree.proofs.Reversed.{tree_of_slice, node_behind}
use Rattle.timestamp_tree.proofs.put.+put_reversed.Goals as goal

-- the tree over sets that are lent
abbrev over : List (Bor VersionSet) → PlainTs
over sets = tree_of (map (λ (s : Bor VersionSet). pairs_of s.now) sets)

pub returns-clause-set : goal.returns-clause-set
returns-clause-set t c =
    let many : 1 < length c.args.sets.now = grind (arith, nat_tests) in
    let halves = tree_of_slice (λ (s : Bor VersionSet). pairs_of s.now) c.args.sets.now c.split_at.result.0.now c.split_at.result.1.now c.div_ceil.result many c.div_ceil.ensures c.split_at.ensures.front c.split_at.ensures.back in
    IfOk-weaker c.put_inner.result _ _ (λ set h. h ∙ (λ i. united (c.in_ok-left.ensures.set i) (c.in_ok-right.ensures.set i)) ∙ ap top (sym halves)) c.put_inner.ensures.set

pub returns-clause-ok : goal.returns-clause-ok
returns-clause-ok t c =
    let many : 1 < length c.args.sets.now = grind (arith, nat_tests) in
    let halves = tree_of_slice (λ (s : Bor VersionSet). pairs_of s.now) c.args.sets.now c.split_at.result.0.now c.split_at.result.1.now c.div_ceil.result many c.div_ceil.ensures c.split_at.ensures.front c.split_at.ensures.back in
    let size : c.len.result - c.len-before.result ≡ length c.put_reversed-2.new.out.items - length c.put_reversed.new.out.items = grind (arith, c.len.ensures, c.len-before.ensures) in
    IfOk-weaker c.put_inner.result _ _ (λ set h. node_behind (over c.split_at.result.0.now) (over c.split_at.result.1.now) c.args.out.now.items c.put_reversed.new.out.items c.put_reversed-2.new.out.items c.put_inner.new.out.items (pairs_of c.in_ok-left.left) (pairs_of c.in_ok-right.right) (c.len.result - c.len-before.result) c.in_ok-right.ensures.ok c.in_ok-left.ensures.ok c.in_ok-left.ensures.set c.in_ok-right.ensures.set size h ∙ ap (λ (t : PlainTs). c.args.out.now.items ++ reverse (tree_bytes t)) (sym halves)) c.put_inner.ensures.ok

pub returns-then-sets-eq1-clause-set : goal.returns-then-sets-eq1-clause-set
returns-then-sets-eq1-clause-set t c = grind (arith, common_steps)

pub returns-then-sets-eq1-clause-ok : goal.returns-then-sets-eq1-clause-ok
returns-then-sets-eq1-clause-ok t c = grind (arith, common_steps)

pub returns-then-sets-eq1-clause-grows : goal.returns-then-sets-eq1-clause-grows
returns-then-sets-eq1-clause-grows t c = grind (arith, common_steps)

pub returns-clause-grows : goal.returns-clause-grows
returns-clause-grows t c = grind (arith, common_steps)
