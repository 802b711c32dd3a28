use Rattle.std.proofs.Common.{◌+◌, ℕ, List, ap, subst}
use Rattle.record_copy.proofs.Passing.{at-err}
use Rattle.record_cursor.specs.View.{header_view}
use Rattle.record_writer.specs.Data.{PlainWriter}
use Rattle.archive_join.specs.Faults.{fault_of}
use Rattle.archive_join.specs.Whole.{NodesJoined, ArchivesJoined}
use Rattle.archive_join.specs.declared.fault.JoinFault.TheVariants.{Memory}
use Rattle.archive_join.proofs.Starting.{began, archives-then, archives-unbegun, archives-unset}
use Rattle.archive_join.proofs.whole.join_archives.Goals as goal

pub returns-in_err-writer : goal.returns-in_err-writer
returns-in_err-writer g c =
    let f = g.F.Folder in
    let h = header_view c.args.one.now in
    let m = c.args.two.now.versions in
    let now = c.start.new.folder in
    let e = c.in_err-writer in
    at-err c.from_residual.result e.field-0.0 c.from_residual.ensures.1 (λ z. ArchivesJoined f.files f.draft f.numbers f.faults h m c.args.folder.now now c.args.left c.args.right (fault_of z))
    (archives-unbegun f.files f.draft f.numbers f.faults h m c.args.folder.now now c.args.left c.args.right c.start.result c.of_side.result e.field-0.0 c.start.ensures c.of_side.ensures e.was)

pub returns-in_err-sets : goal.returns-in_err-sets
returns-in_err-sets g c =
    let f = g.F.Folder in
    let h = header_view c.args.one.now in
    let m = c.args.two.now.versions in
    let now = c.start.new.folder in
    let i = c.in_ok-writer in
    let r = c.from_residual-in_err-sets in
    at-err r.result Memory r.ensures.1 (λ z. ArchivesJoined f.files f.draft f.numbers f.faults h m c.args.folder.now now c.args.left c.args.right (fault_of z))
    (archives-unset f.files f.draft f.numbers f.faults h m c.args.folder.now now c.args.left c.args.right i.writer (began f.files f.draft f.numbers f.faults h (h.versions + m) c.args.folder.now now c.start.result c.of_side.result i.writer c.start.ensures c.of_side.ensures i.was))

pub join_nodes-requires : goal.join_nodes-requires
join_nodes-requires g c =
    let f = g.F.Folder in
    let h = header_view c.args.one.now in
    let i = c.in_ok-writer in
    let begun = began f.files f.draft f.numbers f.faults h (h.versions + c.args.two.now.versions) c.args.folder.now c.start.new.folder c.start.result c.of_side.result i.writer c.start.ensures c.of_side.ensures i.was in
    record {
      left = c.requires.left;
      right = c.requires.right;
      no_leaf = ap (λ (v : PlainWriter). v.leaf) begun.begins.1;
      no_inner = ap (λ (v : PlainWriter). v.inners) begun.begins.1;
    }

pub returns : goal.returns
returns g c =
    let f = g.F.Folder in
    let h = header_view c.args.one.now in
    let m = c.args.two.now.versions in
    let mid = c.start.new.folder in
    let new = c.join_nodes.new.folder in
    let i = c.in_ok-writer in
    let s = c.in_ok-sets.ensures in
    let ended = fault_of c.join_nodes.result in
    let second = c.requires.second in
    let begun = began f.files f.draft f.numbers f.faults h (h.versions + m) c.args.folder.now mid c.start.result c.of_side.result i.writer c.start.ensures c.of_side.ensures i.was in
    let nodes = subst (λ (z : ℕ × List (ℕ × ℕ) × List (ℕ × ℕ) × List (ℕ × ℕ)). NodesJoined f.files f.draft f.numbers f.faults z.0 z.1 z.2 z.3 mid new c.args.left c.args.right i.writer ended) (λ x. (second x, s.one x, s.two x, s.both x)) c.join_nodes.ensures in
    archives-then f.files f.draft f.numbers f.faults h m c.args.folder.now mid new c.args.left c.args.right i.writer ended begun nodes
