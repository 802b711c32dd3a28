use Rattle.std.proofs.Common.{◌∷◌, [], refl, sym, ◌∙◌, arith}
use Rattle.keyed_parts.specs.View.{kid_view, kids_view}
use Rattle.record_cursor.specs.View.{PlainCursor}
use Rattle.record_parts.specs.ShownViews.{shown_label}
use Rattle.record_writer.specs.declared.writer.Writer.{Writer}
use Rattle.stream_merge.specs.Meets.{rest_of}
use Rattle.record_copy.specs.State.{State, state}
use Rattle.stream_merge.specs.View.{inherited_view}
use Rattle.stream_merge.proofs.Belows.{puts-start, puts-more, puts-fail, puts-shaped, puts-fewer, puts-at, puts-before, puts-end, puts-done, puts-kid, puts-above}
use Rattle.stream_merge.proofs.Puts.{nowhere, row-sent}
use Rattle.stream_merge.proofs.beside.put_below.Given.{Over}
use Rattle.stream_merge.proofs.beside.put_below.Goals as goal

abbrev at : (g : Over) → g.row.F.Denot → Writer → PlainCursor → State
at g folder writer c = (let f = g.F.Folder in state f.files f.draft f.numbers f.faults folder c writer)

pub loop-kid-init : goal.loop-kid-init
loop-kid-init g c = record { no_leaf = c.requires.no_leaf; puts = puts-start (inherited_view c.args.from.now) (shown_label c.args.label.now) (kids_view c.args.kids) (at g c.args.folder.now c.args.writer.now) c.requires.ascending c.requires.shaped }

pub put_kid-requires-clause-shaped : goal.put_kid-requires-clause-shaped
put_kid-requires-clause-shaped g c = (let i = c.in-Some in puts-shaped _ _ (kid_view i.kid) (kids_view i.rest) i.ensures.some c.loop-kid.invariant.puts)

pub returns-in_err-put_kid-in-Greater-clause-puts : goal.returns-in_err-put_kid-in-Greater-clause-puts
returns-in_err-put_kid-in-Greater-clause-puts g c = λ p within. (
    let i = c.in-Some in
    let e = c.in_err-put_kid-in-Greater in
    let r = c.from_residual in
    let low = sym c.place.ensures ∙ c.in-Greater.is in
    puts-fail _ _ (kid_view i.kid) (kids_view i.rest) i.ensures.some c.loop-kid.invariant.puts r.result e.field-0.0 r.ensures.1 p within (at g c.put_kid.new.folder c.put_kid.new.writer p) low (e.ensures.sends p within))

pub returns-in-Equal-clause-puts : goal.returns-in-Equal-clause-puts
returns-in-Equal-clause-puts g c = λ p within. (
    let i = c.in-Some in
    let on = c.loop-kid.invariant.puts in
    let splits = puts-at _ _ (kid_view i.kid) (kids_view i.rest) i.ensures.some on (sym c.place.ensures ∙ c.in-Equal.is) in
    puts-done _ _ on splits p within (g.met.F.Folder.metered c.loop-kid.folder) refl)

pub returns-in-Equal-clause-kid : goal.returns-in-Equal-clause-kid
returns-in-Equal-clause-kid g c =
    let i = c.in-Some in
    let on = c.loop-kid.invariant.puts in
    puts-kid _ _ on (puts-at _ _ (kid_view i.kid) (kids_view i.rest) i.ensures.some on (sym c.place.ensures ∙ c.in-Equal.is))

pub returns-in-Equal-clause-rest : goal.returns-in-Equal-clause-rest
returns-in-Equal-clause-rest g c =
    let i = c.in-Some in
    let on = c.loop-kid.invariant.puts in
    puts-above _ _ on (puts-at _ _ (kid_view i.kid) (kids_view i.rest) i.ensures.some on (sym c.place.ensures ∙ c.in-Equal.is))

pub returns-in-Less-clause-puts : goal.returns-in-Less-clause-puts
returns-in-Less-clause-puts g c = λ p within. (
    let i = c.in-Some in
    let on = c.loop-kid.invariant.puts in
    let splits = puts-before _ _ (kid_view i.kid) (kids_view i.rest) i.ensures.some on (sym c.place.ensures ∙ c.in-Less.is) in
    puts-done _ _ on splits p within (g.met.F.Folder.metered c.loop-kid.folder) refl)

pub returns-in-Less-clause-kid : goal.returns-in-Less-clause-kid
returns-in-Less-clause-kid g c =
    let i = c.in-Some in
    let on = c.loop-kid.invariant.puts in
    puts-kid _ _ on (puts-before _ _ (kid_view i.kid) (kids_view i.rest) i.ensures.some on (sym c.place.ensures ∙ c.in-Less.is))

pub returns-in-Less-clause-rest : goal.returns-in-Less-clause-rest
returns-in-Less-clause-rest g c =
    let i = c.in-Some in
    let on = c.loop-kid.invariant.puts in
    puts-above _ _ on (puts-before _ _ (kid_view i.kid) (kids_view i.rest) i.ensures.some on (sym c.place.ensures ∙ c.in-Less.is))

pub loop-kid-smaller : goal.loop-kid-smaller
loop-kid-smaller g c = (let i = c.in-Some in puts-fewer _ _ (kid_view i.kid) (kids_view i.rest) i.ensures.some c.loop-kid.invariant.puts)

pub loop-kid-preserved : goal.loop-kid-preserved
loop-kid-preserved g c =
    let i = c.in-Some in
    let l = c.loop-kid in
    let sent = c.in_ok-put_kid-in-Greater.ensures.sends in
    let h = inherited_view c.args.from.now in
    let rests = row-sent (at g l.folder l.writer nowhere) (at g c.put_kid.new.folder c.put_kid.new.writer nowhere) h.now (rest_of h.number h.before (kid_view i.kid ∷ [])) l.invariant.no_leaf (sent nowhere (omega arith)) in
    record {
      no_leaf = rests.no_leaf;
      puts = puts-more _ _ (kid_view i.kid) (kids_view i.rest) i.ensures.some l.invariant.puts (at g c.put_kid.new.folder c.put_kid.new.writer) (sym c.place.ensures ∙ c.in-Greater.is) sent;
    }

pub returns-clause-puts : goal.returns-clause-puts
returns-clause-puts g c = λ p within. puts-done _ _ c.loop-kid.invariant.puts (puts-end (inherited_view c.args.from.now) _ (kids_view c.loop-kid.left) (c.split_first.ensures.none c.in_default.is)) p within (g.met.F.Folder.metered c.loop-kid.folder) refl

pub returns-clause-kid : goal.returns-clause-kid
returns-clause-kid g c = puts-kid _ _ c.loop-kid.invariant.puts (puts-end (inherited_view c.args.from.now) _ (kids_view c.loop-kid.left) (c.split_first.ensures.none c.in_default.is))

pub returns-clause-rest : goal.returns-clause-rest
returns-clause-rest g c = puts-above _ _ c.loop-kid.invariant.puts (puts-end (inherited_view c.args.from.now) _ (kids_view c.loop-kid.left) (c.split_first.ensures.none c.in_default.is))
