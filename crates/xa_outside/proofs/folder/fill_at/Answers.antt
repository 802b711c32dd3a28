use Rattle.std.proofs.Common.{rules, length}
use Rattle.xa_outside.proofs.Fronts.{FillsFrom-put, Pulls-rest}
use Rattle.xa_outside.proofs.folder.fill_at.Goals as goal

pub returns-in_err-more-clause-numbers : goal.returns-in_err-more-clause-numbers
returns-in_err-more-clause-numbers g c =
    let before = g.F.Folder.numbers c.args.folder.now in
    let read = g.F.Folder.numbers c.read_at.new.self in
    let after = g.F.Folder.numbers c.fill_rest.new.folder in
    Pulls-rest before read after c.in_ok-count.count (length c.args.buf.now) c.read_at.new.buf c.from_residual-in_err-more.result (search rules) (search rules) c.in_ok-count.ensures.bound.0 c.in_ok-count.ensures.numbers c.in_err-more.ensures.numbers

pub returns-clause-bytes : goal.returns-clause-bytes
returns-clause-bytes g c =
    let before = g.F.Folder.files c.args.folder.now in
    let read = g.F.Folder.files c.read_at.new.self in
    FillsFrom-put before read c.args.name.now c.args.at c.in_ok-count.count c.in_ok-more.more c.read_at.new.buf c.fill_rest.new.buf c.in_ok-count.ensures.files c.in_ok-count.ensures.bound.0 c.in_ok-more.ensures.bound.0 (search rules) c.in_ok-count.ensures.bytes c.in_ok-more.ensures.bytes
