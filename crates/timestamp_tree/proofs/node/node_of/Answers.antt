use Rattle.std.proofs.Common.{◌≡◌, rules, drop, Some, arith}
use Rattle.std.proofs.lemmas.List.{length-drop}
use Rattle.version_set.specs.View.{pairs_of}
use Rattle.xa_fields.specs.Reading.{chain_at}
use Rattle.timestamp_tree.specs.Reading.{pair_at, next_pair}
use Rattle.timestamp_tree.proofs.Stored.{no_parts, parts_are, eight_behind}
use Rattle.version_set.specs.declared.limits.TheConstants.{GREATEST_NUMBER}
use Rattle.timestamp_tree.proofs.node.node_of.Goals as goal

pub returns-in_default-clause-told : goal.returns-in_default-clause-told
returns-in_default-clause-told c = λ piece e. no_parts GREATEST_NUMBER c.args.count c.args.bytes.now piece c.requires e (search rules)

pub returns-in_default-take_u64-clause-told : goal.returns-in_default-take_u64-clause-told
returns-in_default-take_u64-clause-told c = λ piece e. (
    let pairs : Some (pairs_of c.in-Some.set, drop c.in-Some.at c.args.bytes.now) ≡ chain_at pair_at (next_pair GREATEST_NUMBER) 1 c.args.count c.args.bytes.now = search rules in
    let eight = eight_behind GREATEST_NUMBER c.args.count c.in-Some.at c.args.bytes.now (pairs_of c.in-Some.set) c.requires pairs in
    absurd (omega (arith, eight.0, length-drop c.in-Some.at c.args.bytes.now, c.in_default-take_u64.ensures.none.0 (search rules))))

pub returns-clause-count : goal.returns-clause-count
returns-clause-count c =
    let pairs : Some (pairs_of c.in-Some.set, drop c.in-Some.at c.args.bytes.now) ≡ chain_at pair_at (next_pair GREATEST_NUMBER) 1 c.args.count c.args.bytes.now = search rules in
    (eight_behind GREATEST_NUMBER c.args.count c.in-Some.at c.args.bytes.now (pairs_of c.in-Some.set) c.requires pairs).1

pub returns-clause-told : goal.returns-clause-told
returns-clause-told c = λ piece e. (
    let pairs : Some (pairs_of c.in-Some.set, drop c.in-Some.at c.args.bytes.now) ≡ chain_at pair_at (next_pair GREATEST_NUMBER) 1 c.args.count c.args.bytes.now = search rules in
    parts_are GREATEST_NUMBER c.args.count c.in-Some-take_u64.left c.in-Some.at c.args.bytes.now piece _ (pairs_of c.in-Some.set) c.requires e pairs c.in-Some-take_u64.ensures.found)
