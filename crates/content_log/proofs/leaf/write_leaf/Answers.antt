use Rattle.std.proofs.Common.{rules, Ok}
use Rattle.record_cursor.specs.View.{header_view}
use Rattle.content_log.specs.Written.{seen}
use Rattle.content_log.proofs.LeafWrites.{leaf-long, unflushed-on, flushed-on, flushed-put}
use Rattle.content_log.proofs.leaf.write_leaf.Goals as goal

pub returns-in_err-put_leaf : goal.returns-in_err-put_leaf
returns-in_err-put_leaf g c =
    let f = g.F.Folder in
    let k = g.O.Sink in
    let a = c.args in
    let e = c.in_err-put_leaf in
    unflushed-on f.files f.draft f.numbers f.faults k.taken k.faults a.name.now a.tag.now (header_view a.header.now).length a.leaf.now c.from_residual.result e.field-0.0 c.from_residual.ensures.1 a.folder.now c.put_leaf.new.folder c.new-buffered.result c.put_leaf.new.sink a.out.now _
    c.new-buffered.ensures.same c.new-buffered.ensures.empty (search rules) e.ensures

pub returns-in_err-flush : goal.returns-in_err-flush
returns-in_err-flush g c =
    let f = g.F.Folder in
    let k = g.O.Sink in
    let a = c.args in
    let e = c.in_err-flush in
    let out = e.ensures in
    let r = c.from_residual-in_err-flush in
    flushed-on f.files f.draft f.numbers f.faults k.taken k.faults a.name.now a.tag.now (header_view a.header.now).length a.leaf.now r.result e.field-0.0 r.ensures.1 a.folder.now c.put_leaf.new.folder c.new-buffered.result c.put_leaf.new.sink c.flush.new.self a.out.now _
    c.new-buffered.ensures.same c.new-buffered.ensures.empty (search rules) c.in_ok-put_leaf.ensures out.bytes out.cause

pub returns : goal.returns
returns g c =
    let f = g.F.Folder in
    let k = g.O.Sink in
    let a = c.args in
    let e = c.in_ok-flush in
    let out = e.ensures in
    flushed-put f.files f.draft f.numbers f.faults k.taken k.faults a.name.now a.tag.now (header_view a.header.now).length a.leaf.now a.folder.now c.put_leaf.new.folder c.new-buffered.result c.put_leaf.new.sink c.flush.new.self a.out.now _ (Ok e.field-0)
    c.new-buffered.ensures.same c.new-buffered.ensures.empty (search rules) c.in_ok-put_leaf.ensures out.bytes out.empty out.cause

pub returns-then-leaf-header : goal.returns-then-leaf-header
returns-then-leaf-header g c =
    let f = g.F.Folder in
    let k = g.O.Sink in
    let a = c.args in
    leaf-long a.name.now a.tag.now (header_view a.header.now).length a.leaf.now (seen f.files f.draft f.numbers f.faults k.taken k.faults a.folder.now a.out.now) (g.met.F.Folder.metered a.folder.now) c.if-leaf-header.true
