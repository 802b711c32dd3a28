use Rattle.std.proofs.Common.{rules, Ok}
use Rattle.file_get.proofs.Buffers.{unflushed-on, flushed-on, flushed-put}
use Rattle.file_get.proofs.root.put_version.Goals as goal

pub returns-in_err-put_text : goal.returns-in_err-put_text
returns-in_err-put_text g c =
    let f = g.F.Folder in
    let k = g.O.Sink in
    let a = c.args in
    let e = c.in_err-put_text in
    unflushed-on f.files f.draft f.numbers f.faults k.taken k.faults a.ask.now.version a.ask.now.name.now a.size a.first c.from_residual.result e.field-0.0 c.from_residual.ensures.1 a.folder.now c.put_text.new.folder c.new-buffered.result c.put_text.new.sink a.out.now _ a.steps.now c.put_text.new.steps
    c.new-buffered.ensures.same c.new-buffered.ensures.empty (search rules) e.ensures

pub returns-in_err-flush : goal.returns-in_err-flush
returns-in_err-flush g c =
    let f = g.F.Folder in
    let k = g.O.Sink in
    let a = c.args in
    let e = c.in_err-flush in
    let out = e.ensures in
    let r = c.from_residual-in_err-flush in
    flushed-on f.files f.draft f.numbers f.faults k.taken k.faults a.ask.now.version a.ask.now.name.now a.size a.first r.result e.field-0.0 r.ensures.1 a.folder.now c.put_text.new.folder c.new-buffered.result c.put_text.new.sink c.flush.new.self a.out.now _ a.steps.now c.put_text.new.steps
    c.new-buffered.ensures.same c.new-buffered.ensures.empty (search rules) c.in_ok-put_text.ensures out.bytes out.cause

pub returns : goal.returns
returns g c =
    let f = g.F.Folder in
    let k = g.O.Sink in
    let a = c.args in
    let e = c.in_ok-flush in
    let out = e.ensures in
    flushed-put f.files f.draft f.numbers f.faults k.taken k.faults a.ask.now.version a.ask.now.name.now a.size a.first a.folder.now c.put_text.new.folder c.new-buffered.result c.put_text.new.sink c.flush.new.self a.out.now _ a.steps.now c.put_text.new.steps (Ok e.field-0)
    c.new-buffered.ensures.same c.new-buffered.ensures.empty (search rules) c.in_ok-put_text.ensures out.bytes out.empty out.cause
