use Rattle.std.proofs.Common.{◌≡◌, ◌<◌, ◌≤◌, ◌-◌, ◌++◌, ◌∙◌, ℕ, List, [], Ok, Err, length, drop, append_assoc, refl, ap, arith}
use Rattle.std.proofs.lemmas.Bool.Decides.{nat_tests}
use Rattle.version_set.specs.Members.{united}
use Rattle.version_set.specs.View.{pairs_of}
use Rattle.timestamp_tree.specs.Bytes.{stored, tree_bytes}
use Rattle.timestamp_tree.specs.Data.{PlainTs, top}
use Rattle.timestamp_tree.specs.Tree.{tree_of}
use Rattle.row_ends.specs.SetsView.{sets_view}
use Rattle.row_ends.proofs.Stamps.{Set, one-bytes, left, right, parted-top, parted-bytes}
use Rattle.row_ends.proofs.Steps.{rewritten, then, given, passes, out-of-memory}
use Rattle.row_ends.proofs.tree.+expect_tree.Goals as goal

-- the tree over the last sets
abbrev over : ℕ → List Set → PlainTs
over n ss = tree_of (drop (length ss - n) ss)

pub returns-in_err-expect_stored-clause-expected : goal.returns-in_err-expect_stored-clause-expected
returns-in_err-expect_stored-clause-expected g t c =
    let f = g.F.Folder in
    let set = pairs_of c.in_ok-set.set in
    let all = sets_view c.args.sets.now in
    let e = c.in_err-expect_stored in
    let r = c.from_residual-in_err-expect_stored in
    rewritten f.files f.draft f.numbers f.faults c.args.name.now (stored set 0) (tree_bytes (over c.args.count all)) c.args.folder.now c.expect_stored.new.folder c.args.room.now c.expect_stored.new.room r.result (one-bytes all _ set c.args.count c.if-count-eq1.true c.in_ok-set.ensures)
    (passes f.files f.draft f.numbers f.faults c.args.name.now (stored set 0) [] c.args.folder.now c.expect_stored.new.folder c.args.room.now c.expect_stored.new.room e.field-0.0 r.result r.ensures.1 e.ensures)

pub returns-then-count-eq1-clause-expected : goal.returns-then-count-eq1-clause-expected
returns-then-count-eq1-clause-expected g t c =
    let f = g.F.Folder in
    let set = pairs_of c.in_ok-set.set in
    let all = sets_view c.args.sets.now in
    let o = c.in_ok-expect_stored in
    rewritten f.files f.draft f.numbers f.faults c.args.name.now (stored set 0) (tree_bytes (over c.args.count all)) c.args.folder.now c.expect_stored.new.folder c.args.room.now c.expect_stored.new.room (Ok c.in_ok-set.set) (one-bytes all _ set c.args.count c.if-count-eq1.true c.in_ok-set.ensures)
    (given f.files f.draft f.numbers f.faults c.args.name.now (stored set 0) c.args.folder.now c.expect_stored.new.folder c.args.room.now c.expect_stored.new.room o.field-0 c.in_ok-set.set o.ensures)

pub returns-in_err-right-clause-expected : goal.returns-in_err-right-clause-expected
returns-in_err-right-clause-expected g t c =
    let f = g.F.Folder in
    let all = sets_view c.args.sets.now in
    let k = c.args.count in
    let front = c.div_ceil-half.result in
    let many : 1 < k = grind (arith, nat_tests) in
    let fits : k ≤ length all = grind (arith, nat_tests) in
    let l = left all k front many fits c.div_ceil-half.ensures in
    let r = right all k front many fits c.div_ceil-half.ensures in
    let own = stored (united (top l) (top r)) (length (tree_bytes l)) in
    let e = c.in_err-right in
    let q = c.from_residual-in_err-right in
    rewritten f.files f.draft f.numbers f.faults c.args.name.now ((own ++ tree_bytes l) ++ tree_bytes r) (tree_bytes (over k all)) c.args.folder.now c.expect_tree.new.folder c.args.room.now c.expect_tree.new.room q.result (append_assoc own (tree_bytes l) (tree_bytes r) ∙ parted-bytes all k front many fits c.div_ceil-half.ensures (length (tree_bytes l)) refl)
    (passes f.files f.draft f.numbers f.faults c.args.name.now (tree_bytes r) (own ++ tree_bytes l) c.args.folder.now c.expect_tree.new.folder c.args.room.now c.expect_tree.new.room e.field-0.0 q.result q.ensures.1 e.ensures.expected)

pub returns-in_err-left-clause-expected : goal.returns-in_err-left-clause-expected
returns-in_err-left-clause-expected g t c =
    let f = g.F.Folder in
    let all = sets_view c.args.sets.now in
    let k = c.args.count in
    let front = c.div_ceil-half.result in
    let many : 1 < k = grind (arith, nat_tests) in
    let fits : k ≤ length all = grind (arith, nat_tests) in
    let l = left all k front many fits c.div_ceil-half.ensures in
    let r = right all k front many fits c.div_ceil-half.ensures in
    let own = stored (united (top l) (top r)) (length (tree_bytes l)) in
    let o = c.in_ok-right in
    let e = c.in_err-left in
    let q = c.from_residual-in_err-left in
    let same = ap (λ (ss : List Set). tree_bytes (over front ss)) o.ensures.left in
    let second = rewritten f.files f.draft f.numbers f.faults c.args.name.now (tree_bytes (over front (sets_view c.expect_tree.new.sets))) (tree_bytes l) c.expect_tree.new.folder c.expect_tree-2.new.folder c.expect_tree.new.room c.expect_tree-2.new.room (Err e.field-0.0) same e.ensures.expected in
    let both = then f.files f.draft f.numbers f.faults c.args.name.now (tree_bytes r) (tree_bytes l) c.args.folder.now c.expect_tree.new.folder c.expect_tree-2.new.folder c.args.room.now c.expect_tree.new.room o.right o.ensures.expected c.expect_tree-2.new.room (Err e.field-0.0) second in
    rewritten f.files f.draft f.numbers f.faults c.args.name.now (own ++ (tree_bytes l ++ tree_bytes r)) (tree_bytes (over k all)) c.args.folder.now c.expect_tree-2.new.folder c.args.room.now c.expect_tree-2.new.room q.result (parted-bytes all k front many fits c.div_ceil-half.ensures (length (tree_bytes l)) refl)
    (passes f.files f.draft f.numbers f.faults c.args.name.now (tree_bytes l ++ tree_bytes r) own c.args.folder.now c.expect_tree-2.new.folder c.args.room.now c.expect_tree-2.new.room e.field-0.0 q.result q.ensures.1 both)

pub returns-in_err-set-2-clause-expected : goal.returns-in_err-set-2-clause-expected
returns-in_err-set-2-clause-expected g t c =
    let f = g.F.Folder in
    let all = sets_view c.args.sets.now in
    let k = c.args.count in
    let front = c.div_ceil-half.result in
    let many : 1 < k = grind (arith, nat_tests) in
    let fits : k ≤ length all = grind (arith, nat_tests) in
    let l = left all k front many fits c.div_ceil-half.ensures in
    let r = right all k front many fits c.div_ceil-half.ensures in
    let o = c.in_ok-right in
    let p = c.in_ok-left in
    let q = c.from_residual-in_err-set-2 in
    let same = ap (λ (ss : List Set). tree_bytes (over front ss)) o.ensures.left in
    let second = rewritten f.files f.draft f.numbers f.faults c.args.name.now (tree_bytes (over front (sets_view c.expect_tree.new.sets))) (tree_bytes l) c.expect_tree.new.folder c.expect_tree-2.new.folder c.expect_tree.new.room c.expect_tree-2.new.room (Ok p.left) same p.ensures.expected in
    let both = then f.files f.draft f.numbers f.faults c.args.name.now (tree_bytes r) (tree_bytes l) c.args.folder.now c.expect_tree.new.folder c.expect_tree-2.new.folder c.args.room.now c.expect_tree.new.room o.right o.ensures.expected c.expect_tree-2.new.room (Ok p.left) second in
    out-of-memory f.files f.draft f.numbers f.faults c.args.name.now (tree_bytes l ++ tree_bytes r) (tree_bytes (over k all)) c.args.folder.now c.expect_tree-2.new.folder c.args.room.now c.expect_tree-2.new.room p.left q.result q.ensures.1 both

pub returns-in_err-expect_stored-2-clause-expected : goal.returns-in_err-expect_stored-2-clause-expected
returns-in_err-expect_stored-2-clause-expected g t c =
    let f = g.F.Folder in
    let all = sets_view c.args.sets.now in
    let k = c.args.count in
    let front = c.div_ceil-half.result in
    let many : 1 < k = grind (arith, nat_tests) in
    let fits : k ≤ length all = grind (arith, nat_tests) in
    let l = left all k front many fits c.div_ceil-half.ensures in
    let r = right all k front many fits c.div_ceil-half.ensures in
    let o = c.in_ok-right in
    let p = c.in_ok-left in
    let e = c.in_err-expect_stored-2 in
    let q = c.from_residual-in_err-expect_stored-2 in
    let same = ap (λ (ss : List Set). tree_bytes (over front ss)) o.ensures.left in
    let second = rewritten f.files f.draft f.numbers f.faults c.args.name.now (tree_bytes (over front (sets_view c.expect_tree.new.sets))) (tree_bytes l) c.expect_tree.new.folder c.expect_tree-2.new.folder c.expect_tree.new.room c.expect_tree-2.new.room (Ok p.left) same p.ensures.expected in
    let both = then f.files f.draft f.numbers f.faults c.args.name.now (tree_bytes r) (tree_bytes l) c.args.folder.now c.expect_tree.new.folder c.expect_tree-2.new.folder c.args.room.now c.expect_tree.new.room o.right o.ensures.expected c.expect_tree-2.new.room (Ok p.left) second in
    let size = c.place-middle.result - c.place.result in
    let moved = second.moved in
    let long : size ≡ length (tree_bytes l) = omega (arith, moved, c.place-middle.ensures.is, c.place.ensures.is) in
    let set : pairs_of c.in_ok-set-2.set ≡ united (top l) (top r) = c.in_ok-set-2.ensures ∙ (λ i. united ((p.ensures.set ∙ ap (λ (ss : List Set). top (over front ss)) o.ensures.left) i) (o.ensures.set i)) in
    let third = then f.files f.draft f.numbers f.faults c.args.name.now (tree_bytes l ++ tree_bytes r) (stored (pairs_of c.in_ok-set-2.set) size) c.args.folder.now c.expect_tree-2.new.folder c.expect_stored-2.new.folder c.args.room.now c.expect_tree-2.new.room p.left both c.expect_stored-2.new.room (Err e.field-0.0) e.ensures in
    rewritten f.files f.draft f.numbers f.faults c.args.name.now (stored (pairs_of c.in_ok-set-2.set) size ++ (tree_bytes l ++ tree_bytes r)) (tree_bytes (over k all)) c.args.folder.now c.expect_stored-2.new.folder c.args.room.now c.expect_stored-2.new.room q.result (ap (λ (s : Set). stored s size ++ (tree_bytes l ++ tree_bytes r)) set ∙ parted-bytes all k front many fits c.div_ceil-half.ensures size long)
    (passes f.files f.draft f.numbers f.faults c.args.name.now (stored (pairs_of c.in_ok-set-2.set) size ++ (tree_bytes l ++ tree_bytes r)) [] c.args.folder.now c.expect_stored-2.new.folder c.args.room.now c.expect_stored-2.new.room e.field-0.0 q.result q.ensures.1 third)

pub returns-clause-set : goal.returns-clause-set
returns-clause-set g t c =
    let all = sets_view c.args.sets.now in
    let k = c.args.count in
    let front = c.div_ceil-half.result in
    let many : 1 < k = grind (arith, nat_tests) in
    let fits : k ≤ length all = grind (arith, nat_tests) in
    let o = c.in_ok-right in
    let p = c.in_ok-left in
    c.in_ok-set-2.ensures ∙ (λ i. united ((p.ensures.set ∙ ap (λ (ss : List Set). top (over front ss)) o.ensures.left) i) (o.ensures.set i)) ∙ parted-top all k front many fits c.div_ceil-half.ensures

pub returns-clause-expected : goal.returns-clause-expected
returns-clause-expected g t c =
    let f = g.F.Folder in
    let all = sets_view c.args.sets.now in
    let k = c.args.count in
    let front = c.div_ceil-half.result in
    let many : 1 < k = grind (arith, nat_tests) in
    let fits : k ≤ length all = grind (arith, nat_tests) in
    let l = left all k front many fits c.div_ceil-half.ensures in
    let r = right all k front many fits c.div_ceil-half.ensures in
    let o = c.in_ok-right in
    let p = c.in_ok-left in
    let w = c.in_ok-expect_stored-2 in
    let same = ap (λ (ss : List Set). tree_bytes (over front ss)) o.ensures.left in
    let second = rewritten f.files f.draft f.numbers f.faults c.args.name.now (tree_bytes (over front (sets_view c.expect_tree.new.sets))) (tree_bytes l) c.expect_tree.new.folder c.expect_tree-2.new.folder c.expect_tree.new.room c.expect_tree-2.new.room (Ok p.left) same p.ensures.expected in
    let both = then f.files f.draft f.numbers f.faults c.args.name.now (tree_bytes r) (tree_bytes l) c.args.folder.now c.expect_tree.new.folder c.expect_tree-2.new.folder c.args.room.now c.expect_tree.new.room o.right o.ensures.expected c.expect_tree-2.new.room (Ok p.left) second in
    let size = c.place-middle.result - c.place.result in
    let moved = second.moved in
    let long : size ≡ length (tree_bytes l) = omega (arith, moved, c.place-middle.ensures.is, c.place.ensures.is) in
    let set : pairs_of c.in_ok-set-2.set ≡ united (top l) (top r) = c.in_ok-set-2.ensures ∙ (λ i. united ((p.ensures.set ∙ ap (λ (ss : List Set). top (over front ss)) o.ensures.left) i) (o.ensures.set i)) in
    let third = then f.files f.draft f.numbers f.faults c.args.name.now (tree_bytes l ++ tree_bytes r) (stored (pairs_of c.in_ok-set-2.set) size) c.args.folder.now c.expect_tree-2.new.folder c.expect_stored-2.new.folder c.args.room.now c.expect_tree-2.new.room p.left both c.expect_stored-2.new.room (Ok w.field-0) w.ensures in
    rewritten f.files f.draft f.numbers f.faults c.args.name.now (stored (pairs_of c.in_ok-set-2.set) size ++ (tree_bytes l ++ tree_bytes r)) (tree_bytes (over k all)) c.args.folder.now c.expect_stored-2.new.folder c.args.room.now c.expect_stored-2.new.room (Ok c.in_ok-set-2.set) (ap (λ (s : Set). stored s size ++ (tree_bytes l ++ tree_bytes r)) set ∙ parted-bytes all k front many fits c.div_ceil-half.ensures size long)
    (given f.files f.draft f.numbers f.faults c.args.name.now (stored (pairs_of c.in_ok-set-2.set) size ++ (tree_bytes l ++ tree_bytes r)) c.args.folder.now c.expect_stored-2.new.folder c.args.room.now c.expect_stored-2.new.room w.field-0 c.in_ok-set-2.set third)
