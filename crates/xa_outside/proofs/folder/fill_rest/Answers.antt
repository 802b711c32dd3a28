use Rattle.std.proofs.Common.{◌-◌, ◌≡◌, ◌+◌, Option, [], sym, subst, ap, arith, length, take, rules, le_refl, length-take-le}
use Rattle.std.proofs.lemmas.Slice.{take-put_mid_below}
use Rattle.xa_outside.specs.Folder.{Files, Gives}
use Rattle.xa_outside.proofs.Fronts.{StandsAt, take-put_mid_front, StandsAt-more, FillsFrom-full, FillsFrom-end}
use Rattle.xa_outside.proofs.folder.fill_rest.Goals as goal

pub loop-done-preserved : goal.loop-done-preserved
loop-done-preserved g c =
    let old = c.loop-done.invariant in
    let files = g.F.Folder.files c.args.folder.now in
    let front = take-put_mid_front c.loop-done.done (length c.loop-done.buf - c.loop-done.done) c.in_ok-count.count c.loop-done.buf c.read_at.new.buf old.within c.in_ok-count.ensures.bound.0 in
    let len : length (take c.loop-done.done c.loop-done.buf) ≡ c.loop-done.done = length-take-le _ _ old.within in
    let next = subst (λ (f : Option Files). Gives f c.args.name.now (c.args.at + c.loop-done.done) (take c.in_ok-count.count c.read_at.new.buf) (length c.read_at.new.buf)) old.files c.in_ok-count.ensures.bytes in
    record {
      within = search rules;
      stands = subst (StandsAt files c.args.name.now c.args.at) (sym front) (StandsAt-more files c.args.name.now c.args.at _ _ _ _ len old.stands next);
      files = search rules;
      draft = search rules;
      numbers = search rules;
      later = search rules;
    }

pub returns-after-loop-done-clause-bytes : goal.returns-after-loop-done-clause-bytes
returns-after-loop-done-clause-bytes g c =
    let old = c.loop-done.invariant in
    let len : length (take c.loop-done.done c.loop-done.buf) ≡ c.loop-done.done = length-take-le _ _ old.within in
    FillsFrom-full (g.F.Folder.files c.args.folder.now) c.args.name.now c.args.at _ _ (omega arith) old.stands

pub returns-then-count-eq0-clause-bytes : goal.returns-then-count-eq0-clause-bytes
returns-then-count-eq0-clause-bytes g c =
    let old = c.loop-done.invariant in
    let files = g.F.Folder.files c.args.folder.now in
    let front = take-put_mid_below c.loop-done.done (length c.loop-done.buf - c.loop-done.done) c.loop-done.buf c.read_at.new.buf c.loop-done.done (le_refl _) old.within in
    let len : length (take c.loop-done.done c.loop-done.buf) ≡ c.loop-done.done = length-take-le _ _ old.within in
    let next = subst (λ (f : Option Files). Gives f c.args.name.now (c.args.at + c.loop-done.done) (take c.in_ok-count.count c.read_at.new.buf) (length c.read_at.new.buf)) old.files c.in_ok-count.ensures.bytes in
    let none : take c.in_ok-count.count c.read_at.new.buf ≡ [] = ap (λ n. take n c.read_at.new.buf) c.if-count-eq0.true in
    rw front (FillsFrom-end files c.args.name.now c.args.at c.loop-done.done _ (length c.read_at.new.buf) _ _ len none (search rules) (search rules) old.stands next)
