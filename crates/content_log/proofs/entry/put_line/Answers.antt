use Rattle.std.proofs.Common.{ℕ, List, [], ◌∷◌, ◌++◌, Some, None}
use Rattle.record_parts.specs.ShownViews.{shown_body}
use Rattle.content_log.specs.Entries.{EntryPut}
use Rattle.content_log.specs.Text.{body_text}
use Rattle.content_log.specs.declared.fault.LogFault.TheVariants.{Out}
use Rattle.content_log.proofs.Entering.{at-err, put-done, put-failed, put-then, put-cut}
use Rattle.content_log.proofs.entry.put_line.Goals as goal

pub returns-in_err-put_all : goal.returns-in_err-put_all
returns-in_err-put_all g c =
    let t = g.K.Sink.taken in
    let f = g.K.Sink.faults in
    let x = c.args.sink.now in
    let y = c.put_all.new.sink in
    let front = c.args.front.now in
    let rest : List ℕ = body_text c.args.tag.now (shown_body c.args.body) ++ 10 ∷ [] in
    let out = c.in_err-put_all.ensures in
    at-err c.from_residual.result Out c.from_residual.ensures.1 (λ e. EntryPut (t x) (t y) (f x) (f y) (front ++ rest) e)
    (put-cut (t x) (t y) (f x) (f y) front rest Out (put-failed (t x) (t y) (f x) (f y) c.in_err-put_all.field-0.0 front out.bytes out.cause))

pub returns-in_err-put_body : goal.returns-in_err-put_body
returns-in_err-put_body g c =
    let t = g.K.Sink.taken in
    let f = g.K.Sink.faults in
    let x = c.args.sink.now in
    let y = c.put_all.new.sink in
    let z = c.put_body.new.sink in
    let front = c.args.front.now in
    let body = body_text c.args.tag.now (shown_body c.args.body) in
    let out = c.in_ok-put_all.ensures in
    let e = c.in_err-put_body.field-0.0 in
    let r = c.from_residual-in_err-put_body in
    at-err r.result e r.ensures.1 (λ e. EntryPut (t x) (t z) (f x) (f z) (front ++ (body ++ 10 ∷ [])) e)
    (put-then (t x) (t y) (t z) (f x) (f y) (f z) front (body ++ 10 ∷ []) (Some e) (put-done (t x) (t y) (f x) (f y) c.in_ok-put_all.field-0 front out.bytes out.cause)
    (put-cut (t y) (t z) (f y) (f z) body (10 ∷ []) e c.in_err-put_body.ensures))

pub returns-in_err-put_all-2 : goal.returns-in_err-put_all-2
returns-in_err-put_all-2 g c =
    let t = g.K.Sink.taken in
    let f = g.K.Sink.faults in
    let x = c.args.sink.now in
    let y = c.put_all.new.sink in
    let z = c.put_body.new.sink in
    let u = c.put_all-2.new.sink in
    let front = c.args.front.now in
    let body = body_text c.args.tag.now (shown_body c.args.body) in
    let out = c.in_ok-put_all.ensures in
    let last = c.in_err-put_all-2.ensures in
    let r = c.from_residual-in_err-put_all-2 in
    at-err r.result Out r.ensures.1 (λ e. EntryPut (t x) (t u) (f x) (f u) (front ++ (body ++ 10 ∷ [])) e)
    (put-then (t x) (t y) (t u) (f x) (f y) (f u) front (body ++ 10 ∷ []) (Some Out) (put-done (t x) (t y) (f x) (f y) c.in_ok-put_all.field-0 front out.bytes out.cause)
    (put-then (t y) (t z) (t u) (f y) (f z) (f u) body (10 ∷ []) (Some Out) c.in_ok-put_body.ensures
    (put-failed (t z) (t u) (f z) (f u) c.in_err-put_all-2.field-0.0 (10 ∷ []) last.bytes last.cause)))

pub returns : goal.returns
returns g c =
    let t = g.K.Sink.taken in
    let f = g.K.Sink.faults in
    let x = c.args.sink.now in
    let y = c.put_all.new.sink in
    let z = c.put_body.new.sink in
    let u = c.put_all-2.new.sink in
    let front = c.args.front.now in
    let body = body_text c.args.tag.now (shown_body c.args.body) in
    let out = c.in_ok-put_all.ensures in
    let last = c.in_ok-put_all-2.ensures in
    put-then (t x) (t y) (t u) (f x) (f y) (f u) front (body ++ 10 ∷ []) None (put-done (t x) (t y) (f x) (f y) c.in_ok-put_all.field-0 front out.bytes out.cause)
    (put-then (t y) (t z) (t u) (f y) (f z) (f u) body (10 ∷ []) None c.in_ok-put_body.ensures
    (put-done (t z) (t u) (f z) (f u) c.in_ok-put_all-2.field-0 (10 ∷ []) last.bytes last.cause))
