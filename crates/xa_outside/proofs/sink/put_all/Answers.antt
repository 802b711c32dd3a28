use Rattle.std.proofs.Common.{◌-◌, drop, take, length, subst, sym, ap, ◌∙◌, ◌++◌, eqb-true, arith, take_all, length-drop, take-append-drop}
use Rattle.std.proofs.lemmas.List.{nil_from_length}
use Rattle.xa_outside.specs.Taken.{Takes, Puts}
use Rattle.xa_outside.specs.TakenLaws.{Takes-nil, Puts-after}
use Rattle.xa_outside.proofs.sink.put_all.Goals as goal

pub returns-then-is_empty-clause-bytes : goal.returns-then-is_empty-clause-bytes
returns-then-is_empty-clause-bytes g c =
    let a = g.K.Sink.taken c.args.sink.now in
    subst (Takes a a) (sym (nil_from_length c.args.piece.now (eqb-true _ 0 (sym c.is_empty.ensures ∙ c.if-is_empty.true)))) (Takes-nil a)

pub returns-then-done-piece-clause-bytes : goal.returns-then-done-piece-clause-bytes
returns-then-done-piece-clause-bytes g c =
    let a = g.K.Sink.taken c.args.sink.now in
    let b = g.K.Sink.taken c.write.new.self in
    let d = g.K.Sink.taken c.put_rest.new.sink in
    let n = c.in_ok-done.done in
    let piece = c.args.piece.now in
    let rest = take_all (length piece - n) (drop n piece) (omega (arith, length-drop n piece)) in
    subst (Puts a d c.put_rest.result) (ap (λ l. take n piece ++ l) rest ∙ take-append-drop n piece) (Puts-after a b d c.put_rest.result (take n piece) _ c.in_ok-done.ensures.bytes c.put_rest.ensures.bytes)
