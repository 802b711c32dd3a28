use Rattle.std.proofs.Common.{ℕ, ◌+◌, Bool, length, ap, ◌∙◌, arith}
use Rattle.std.specs.Prelude.{is_some}
use Rattle.record_format.specs.Nodes.{alt_of}
use Rattle.record_format.specs.Spelling.{body_bytes}
use Rattle.record_format.proofs.Pieces.{rec-length}
use Rattle.record_cursor.proofs.Fills.{filled-from, never-short}
use Rattle.xa_fields.proofs.Fields.{some_is}
use Rattle.file_get.proofs.Bodies.{alt-size, clash, head-stands}
use Rattle.file_get.proofs.body.read_head.Goals as goal

pub returns-in-Some-clause-told : goal.returns-in-Some-clause-told
returns-in-Some-clause-told g c = λ last bytes more x tells within stands ends is. (
    let a = c.args in
    let size = alt-size x more a.at a.end ends in
    let n = length (body_bytes (alt_of x)) in
    let ten = filled-from (g.F.Folder.files a.folder.now) a.ask.now.name.now bytes last a.at 10 c.fill_part.new.out tells (omega (arith, size.0, size.1, within, c.requires)) (c.in-Ok.ensures.told tells.0 tells.1) in
    let found = c.in-Some.ensures.told n x.stamp is.short size.0 size.1 (ten ∙ head-stands bytes a.at x more stands) in
    let e = some_is (c.in-Some.size, c.in-Some.is_stored) (9 + n, is_some x.stamp) found in
    (omega (arith, ap (λ (p : ℕ × Bool). p.0) e, rec-length (alt_of x)), ap (λ (p : ℕ × Bool). p.1) e))

pub returns-in-None-clause-told : goal.returns-in-None-clause-told
returns-in-None-clause-told g c = λ last bytes more x tells within stands ends is. (
    let a = c.args in
    let size = alt-size x more a.at a.end ends in
    let ten = filled-from (g.F.Folder.files a.folder.now) a.ask.now.name.now bytes last a.at 10 c.fill_part.new.out tells (omega (arith, size.0, size.1, within, c.requires)) (c.in-Ok.ensures.told tells.0 tells.1) in
    clash (c.in-None.ensures.told (length (body_bytes (alt_of x))) x.stamp is.short size.0 size.1 (ten ∙ head-stands bytes a.at x more stands)))

pub returns-in-Err-clause-told : goal.returns-in-Err-clause-told
returns-in-Err-clause-told g c = λ last bytes more x tells within stands ends is. (
    let size = alt-size x more c.args.at c.args.end ends in
    never-short (g.F.Folder.files c.args.folder.now) c.args.ask.now.name.now bytes last c.args.at 10 c.in-Err.fault tells (omega (arith, size.0, size.1, within, c.requires)) (c.in-Err.ensures.damage tells.0 tells.1))
