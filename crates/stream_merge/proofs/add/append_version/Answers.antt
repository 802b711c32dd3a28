use Rattle.std.proofs.Common.{◌≡◌, ◌+◌, ap, arith}
use Rattle.key_spec.proofs.SpecLaws.{spec_closed}
use Rattle.key_annotate.specs.LentView.{lent_view}
use Rattle.version_set.specs.View.{pairs_of}
use Rattle.archive_file.proofs.KeyedLaws.{keyed-is_ordered}
use Rattle.record_cursor.specs.View.{header_view}
use Rattle.record_format.specs.Files.{header_bytes}
use Rattle.record_writer.specs.Data.{PlainWriter}
use Rattle.stream_merge.specs.Appended.{VersionAppended}
use Rattle.stream_merge.specs.Passes.{fault_of, of_writer}
use Rattle.stream_merge.specs.View.{PlainInherited}
use Rattle.stream_merge.proofs.Handed.{at-err}
use Rattle.stream_merge.proofs.Whole.{fresh-shaped}
use Rattle.stream_merge.proofs.Appending.{version-unbegun}
use Rattle.stream_merge.proofs.Growing.{root_inherited, version-then}
use Rattle.stream_merge.proofs.add.append_version.Goals as goal

pub append_nodes-requires-clause-within : goal.append_nodes-requires-clause-within
append_nodes-requires-clause-within g c =
    (let r = c.requires in omega (arith, r.within, r.length, r.first))

pub append_nodes-requires-clause-no_leaf : goal.append_nodes-requires-clause-no_leaf
append_nodes-requires-clause-no_leaf g c =
    ap (λ (w : PlainWriter). w.leaf) c.in_ok-writer.ensures.started

pub append_nodes-requires-clause-no_inner : goal.append_nodes-requires-clause-no_inner
append_nodes-requires-clause-no_inner g c =
    ap (λ (w : PlainWriter). w.inners) c.in_ok-writer.ensures.started

pub append_nodes-requires-clause-ordered : goal.append_nodes-requires-clause-ordered
append_nodes-requires-clause-ordered g c =
    (let h = header_view c.args.header.now in keyed-is_ordered h.rules (lent_view c.args.new.now) c.requires.keyed)

pub append_nodes-requires-clause-shaped : goal.append_nodes-requires-clause-shaped
append_nodes-requires-clause-shaped g c =
    (let h = header_view c.args.header.now in fresh-shaped h.rules (lent_view c.args.new.now) (spec_closed c.args.header.now.spec) c.requires.keyed c.requires.texts)

pub returns-in_err-writer : goal.returns-in_err-writer
returns-in_err-writer g c =
    let f = g.F.Folder in
    let h = header_view c.args.header.now in
    let k = lent_view c.args.new.now in
    let e = c.in_err-writer in
    at-err c.from_residual.result (of_writer e.field-0.0) c.from_residual.ensures.1 (λ r. VersionAppended f.files f.draft f.numbers f.faults h k c.args.folder.now c.start.new.folder c.args.cursor (fault_of r))
    (version-unbegun f.files f.draft f.numbers f.faults h k c.args.folder.now c.start.new.folder c.args.cursor (header_bytes h.rules (h.versions + 1)) e.field-0.0 (g.met.F.Folder.metered c.args.folder.now) e.ensures.folder e.ensures.never_too_long)

pub returns : goal.returns
returns g c =
    let f = g.F.Folder in
    let h = header_view c.args.header.now in
    let i = c.in_ok-writer in
    let from : PlainInherited = record { number = h.versions + 1; before = pairs_of c.upto.result; now = pairs_of c.upto-2.result } in
    let root : from ≡ root_inherited h.versions = (λ j. record { number = h.versions + 1; before = c.upto.ensures.pairs j; now = c.upto-2.ensures.pairs j }) in
    let r = c.requires in
    version-then f.files f.draft f.numbers f.faults h (lent_view c.args.new.now) c.args.folder.now c.start.new.folder c.append_nodes.new.folder c.args.cursor i.writer from i.writer (fault_of c.append_nodes.result)
    (g.met.F.Folder.metered c.args.folder.now) i.ensures.folder i.ensures.started root r.room r.keyed r.texts r.length r.standing r.first c.append_nodes.ensures
