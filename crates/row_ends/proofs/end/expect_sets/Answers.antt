use Rattle.std.proofs.Common.{◌≡◌, ◌<◌, ◌-◌, ◌∙◌, [], length, drop, ap, sym, arith}
use Rattle.std.proofs.lemmas.List.{length-map}
use Rattle.std.proofs.lemmas.Bool.Decides.{nat_tests}
use Rattle.version_set.specs.View.{pairs_of}
use Rattle.timestamp_tree.specs.Bytes.{tree_bytes}
use Rattle.timestamp_tree.specs.Tree.{tree_of}
use Rattle.record_format.specs.Spelling.{sets_bytes}
use Rattle.record_format.specs.Nodes.{set_in}
use Rattle.row_ends.specs.Expected.{so_far}
use Rattle.row_ends.specs.Kids.{sets_in}
use Rattle.row_ends.specs.KidsView.{kids_view}
use Rattle.row_ends.specs.SetsView.{sets_view}
use Rattle.row_ends.proofs.Stamps.{all-sets}
use Rattle.row_ends.proofs.Steps.{rewritten, given, passes}
use Rattle.row_ends.proofs.end.expect_sets.Goals as goal

pub returns-in_err-expect_tree : goal.returns-in_err-expect_tree
returns-in_err-expect_tree g c =
    let f = g.F.Folder in
    let all = sets_view c.sets-sets.result in
    let k = c.count-2.result in
    let is : k ≡ length all = c.count-2.ensures.stamps ∙ sym (length-map (kids_view c.args.kids.now).stamps (λ s. set_in s (pairs_of c.args.set.now))) ∙ sym (ap length c.sets-sets.ensures) in
    let some : 0 < k = grind (arith, nat_tests) in
    let e = c.in_err-expect_tree in
    let q = c.from_residual in
    let tree = tree_bytes (tree_of (drop (length all - k) all)) in
    rewritten f.files f.draft f.numbers f.faults c.args.name.now tree (sets_bytes (sets_in (pairs_of c.args.set.now) (kids_view c.args.kids.now).stamps)) c.args.folder.now c.expect_tree.new.folder c.args.room.now c.expect_tree.new.room q.result (all-sets all k is some ∙ ap sets_bytes c.sets-sets.ensures)
    (passes f.files f.draft f.numbers f.faults c.args.name.now tree [] c.args.folder.now c.expect_tree.new.folder c.args.room.now c.expect_tree.new.room e.field-0.0 q.result q.ensures.1 e.ensures.expected)

pub returns : goal.returns
returns g c =
    let f = g.F.Folder in
    let all = sets_view c.sets-sets.result in
    let k = c.count-2.result in
    let is : k ≡ length all = c.count-2.ensures.stamps ∙ sym (length-map (kids_view c.args.kids.now).stamps (λ s. set_in s (pairs_of c.args.set.now))) ∙ sym (ap length c.sets-sets.ensures) in
    let some : 0 < k = grind (arith, nat_tests) in
    let o = c.in_ok-expect_tree in
    let tree = tree_bytes (tree_of (drop (length all - k) all)) in
    rewritten f.files f.draft f.numbers f.faults c.args.name.now tree (sets_bytes (sets_in (pairs_of c.args.set.now) (kids_view c.args.kids.now).stamps)) c.args.folder.now c.expect_tree.new.folder c.args.room.now c.expect_tree.new.room so_far (all-sets all k is some ∙ ap sets_bytes c.sets-sets.ensures)
    (given f.files f.draft f.numbers f.faults c.args.name.now tree c.args.folder.now c.expect_tree.new.folder c.args.room.now c.expect_tree.new.room o.field-0 tt o.ensures.expected)
