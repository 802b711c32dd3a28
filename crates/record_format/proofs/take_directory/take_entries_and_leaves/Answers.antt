use Rattle.std.proofs.Common.{◌≡◌, ◌<◌, ◌^◌, length, drop, map, sym, arith}
use Rattle.std.proofs.lemmas.List.{length-map}
use Rattle.xa_fields.proofs.Fields.{IsBytes-drop, u32_reads}
use Rattle.record_format.specs.View.{entry_view}
use Rattle.record_format.proofs.Directories.{entries_read}
use Rattle.record_format.proofs.take_directory.take_entries_and_leaves.Goals as goal

pub node_count-nodes-requires : goal.node_count-nodes-requires
node_count-nodes-requires c =
    let read : length (map entry_view c.in_ok-entries.entries.items) ≡ c.in-Some.count = entries_read c.in-Some.count c.in-Some.at c.args.bytes.now (map entry_view c.in_ok-entries.entries.items) (drop c.in_ok-entries.at c.args.bytes.now) (IsBytes-drop c.in-Some.at c.args.bytes.now (λ i. omega (arith, c.type_inv.bytes i))) c.in_ok-entries.ensures.found in
    let same = length-map c.in_ok-entries.entries.items entry_view in
    let small : c.in-Some.count < 2 ^ 32 = (u32_reads.takes (drop 0 c.args.bytes.now) (c.in-Some.count, drop c.in-Some.at c.args.bytes.now) (λ i. omega (arith, c.type_inv.bytes i)) (sym c.in-Some.ensures.found)).fits in
    omega (arith, read, same, small)

pub returns-clause-few : goal.returns-clause-few
returns-clause-few c =
    let read : length (map entry_view c.in_ok-entries.entries.items) ≡ c.in-Some.count = entries_read c.in-Some.count c.in-Some.at c.args.bytes.now (map entry_view c.in_ok-entries.entries.items) (drop c.in_ok-entries.at c.args.bytes.now) (IsBytes-drop c.in-Some.at c.args.bytes.now (λ i. omega (arith, c.type_inv.bytes i))) c.in_ok-entries.ensures.found in
    let same = length-map c.in_ok-entries.entries.items entry_view in
    let small : c.in-Some.count < 2 ^ 32 = (u32_reads.takes (drop 0 c.args.bytes.now) (c.in-Some.count, drop c.in-Some.at c.args.bytes.now) (λ i. omega (arith, c.type_inv.bytes i)) (sym c.in-Some.ensures.found)).fits in
    omega (arith, read, same, small)
