use Rattle.std.proofs.Common.{◌≡◌, ◌≤◌, ◌+◌, ◌-◌, ℕ, Ok, sym, ap, subst, ◌∙◌, arith}
use Rattle.version_set.specs.Members.{upto_pairs}
use Rattle.record_cursor.specs.View.{header_view}
use Rattle.record_format.specs.Files.{header_bytes}
use Rattle.record_writer.specs.Data.{PlainWriter}
use Rattle.record_writer.specs.Calls.{started}
use Rattle.record_writer.specs.Faults.{Appends}
use Rattle.record_copy.specs.Faults.{fault_of, of_writer}
use Rattle.record_copy.proofs.Passing.{at-err}
use Rattle.archive_cut.specs.Sliced.{cut_set}
use Rattle.archive_cut.specs.Whole.{NodesCut, VersionsCut}
use Rattle.archive_cut.proofs.Slices.{root-left}
use Rattle.archive_cut.proofs.Slicing.{versions-then, versions-unbegun}
use Rattle.archive_cut.proofs.whole.cut_versions.Goals as goal

counted : (i j : ℕ) → i ≤ j → j - i + 1 ≡ j + 1 - i
counted i j h = omega (arith, h)

pub cut_nodes-requires : goal.cut_nodes-requires
cut_nodes-requires g c =
    let r = c.requires in
    let w = c.args.window.now in
    let s = c.in_ok-writer.ensures.started in
    let h = header_view c.args.header.now in
    record {
      within = omega (arith, r.within, r.length, r.first);
      no_leaf = ap (λ (v : PlainWriter). v.leaf) s;
      no_inner = ap (λ (v : PlainWriter). v.inners) s;
      left = c.upto-now.ensures.pairs ∙ ap upto_pairs (counted w.first w.last w.order) ∙ sym (root-left w.first w.last h.versions w.from w.order r.most) ∙ sym (ap (cut_set w.first w.last) c.upto-before.ensures.pairs);
    }

pub returns-in_err-writer : goal.returns-in_err-writer
returns-in_err-writer g c =
    let f = g.F.Folder in
    let w = c.args.window.now in
    let h = header_view c.args.header.now in
    let e = c.in_err-writer in
    at-err c.from_residual.result (of_writer e.field-0.0) c.from_residual.ensures.1 (λ r. VersionsCut f.files f.draft f.numbers f.faults h w.first w.last c.args.folder.now c.start.new.folder c.args.cursor (fault_of r))
    (versions-unbegun f.files f.draft f.numbers f.faults h w.first w.last c.args.folder.now c.start.new.folder c.args.cursor (header_bytes h.rules (w.last - w.first + 1)) e.field-0.0 (g.met.F.Folder.metered c.args.folder.now) e.ensures.folder e.ensures.never_too_long)

pub returns : goal.returns
returns g c =
    let f = g.F.Folder in
    let w = c.args.window.now in
    let h = header_view c.args.header.now in
    let i = c.in_ok-writer in
    let r = c.requires in
    let n = counted w.first w.last w.order in
    let q = c.upto-before.ensures.pairs in
    let nodes = subst (λ z. NodesCut f.files f.draft f.numbers f.faults w.first w.last z c.start.new.folder c.cut_nodes.new.folder c.args.cursor i.writer (fault_of c.cut_nodes.result)) q c.cut_nodes.ensures in
    versions-then f.files f.draft f.numbers f.faults h w.first w.last w.from w.order r.most c.args.folder.now c.start.new.folder c.cut_nodes.new.folder c.args.cursor i.writer i.writer (fault_of c.cut_nodes.result)
    (g.met.F.Folder.metered c.args.folder.now) (subst (λ z. Appends f.files f.draft f.numbers f.faults c.args.folder.now c.start.new.folder (header_bytes h.rules z) (Ok i.writer)) n i.ensures.folder) (i.ensures.started ∙ ap (started h.rules) n) r.length r.standing r.first nodes
