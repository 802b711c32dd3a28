use Rattle.std.proofs.Common.{List, [], ◌∷◌, ◌++◌, append_assoc, sym, ap, ◌∙◌, map, drop, subst, arith}
use Rattle.std.proofs.lemmas.List.{map-append, append-nil}
use Rattle.archive_tree.specs.Data.{PlainAlt}
use Rattle.archive_tree.specs.View.{alt_view}
use Rattle.archive_tree.specs.declared.node.Alt.{Alt}
use Rattle.record_format.specs.View.{rec_view}
use Rattle.record_format.specs.declared.rec.Rec.{Rec}
use Rattle.archive_file.specs.Laid.{AltsAt}
use Rattle.archive_file.proofs.LaidLaws.{AltsLeft, alts-start, alts-none, alts-kind, alts-next, alts-end, finds-handed}
use Rattle.archive_file.proofs.ReadLaws.{alts-closed, alts-over}
use Rattle.archive_file.proofs.reading.read_alts.Goals as goal

pub returns-in_err-rec-clause-found : goal.returns-in_err-rec-clause-found
returns-in_err-rec-clause-found c = λ xs rest h. (
    let l = c.loop-alts in
    finds-handed _ c.from_residual-in_err-rec.result c.in_err-rec.field-0.0 c.from_residual-in_err-rec.ensures.1 c.in_err-rec.ensures.damage (alts-none xs rest (map alt_view l.alts.items) (drop l.at c.args.bytes.now) (l.invariant.left xs rest h)))

pub returns-in-LeafEnd-clause-found : goal.returns-in-LeafEnd-clause-found
returns-in-LeafEnd-clause-found c = λ xs rest h. (
    let l = c.loop-alts in
    let read = ap (λ (r : Rec). rec_view r) c.in-LeafEnd.is in
    alts-end xs rest (map alt_view l.alts.items) (drop l.at c.args.bytes.now) (l.invariant.left xs rest h) (drop c.in_ok-rec.next c.args.bytes.now) (rw c.in-LeafEnd.is at c.in_ok-rec.ensures.found))

pub returns-in-Inner-clause-found : goal.returns-in-Inner-clause-found
returns-in-Inner-clause-found c = λ xs rest h. (
    let l = c.loop-alts in
    let kind = alts-kind xs rest (map alt_view l.alts.items) (drop l.at c.args.bytes.now) (l.invariant.left xs rest h) _ (drop c.in_ok-rec.next c.args.bytes.now) (rw c.in-Inner.is at c.in_ok-rec.ensures.found) in
    omega (arith, kind))

pub returns-in-Leaf-clause-found : goal.returns-in-Leaf-clause-found
returns-in-Leaf-clause-found c = λ xs rest h. (
    let l = c.loop-alts in
    let kind = alts-kind xs rest (map alt_view l.alts.items) (drop l.at c.args.bytes.now) (l.invariant.left xs rest h) _ (drop c.in_ok-rec.next c.args.bytes.now) (rw c.in-Leaf.is at c.in_ok-rec.ensures.found) in
    omega (arith, kind))

pub returns-in-End-clause-found : goal.returns-in-End-clause-found
returns-in-End-clause-found c = λ xs rest h. (
    let l = c.loop-alts in
    let kind = alts-kind xs rest (map alt_view l.alts.items) (drop l.at c.args.bytes.now) (l.invariant.left xs rest h) _ (drop c.in_ok-rec.next c.args.bytes.now) (rw c.in-End.is at c.in_ok-rec.ensures.found) in
    omega (arith, kind))

pub returns-in-LeafEnd-clause-lie : goal.returns-in-LeafEnd-clause-lie
returns-in-LeafEnd-clause-lie c =
    let l = c.loop-alts in
    let rest = drop c.in_ok-rec.next c.args.bytes.now in
    let closed = alts-closed rest (drop l.at c.args.bytes.now) (rw c.in-LeafEnd.is at c.in_ok-rec.ensures.is) (rw c.in-LeafEnd.is at c.in_ok-rec.ensures.spelled) in
    subst (λ (xs : List PlainAlt). AltsAt xs rest (drop c.args.start c.args.bytes.now)) (append-nil (map alt_view l.alts.items)) (l.invariant.done [] rest closed)

pub loop-alts-init : goal.loop-alts-init
loop-alts-init c =
    record {
      left = λ xs rest h. rw c.in_ok-alts.ensures.items (alts-start xs rest (drop c.args.start c.args.bytes.now) h);
      done = λ xs rest h. rw c.in_ok-alts.ensures.items h;
      further = omega arith;
    }

pub loop-alts-preserved : goal.loop-alts-preserved
loop-alts-preserved c =
    let l = c.loop-alts in
    let alt : Alt = record { stamp = c.in-Alt.stamp; body = c.in-Alt.body } in
    let found = rw c.in-Alt.is at c.in_ok-rec.ensures.found in
    let is = rw c.in-Alt.is at c.in_ok-rec.ensures.is in
    let spelled = rw c.in-Alt.is at c.in_ok-rec.ensures.spelled in
    let pushed = ap (map alt_view) c.in_ok-push-in-Alt.ensures.items ∙ map-append alt_view l.alts.items (alt ∷ []) in
    record {
      left = λ xs rest h. subst (λ (done : List PlainAlt). AltsLeft xs rest done (drop c.in_ok-rec.next c.args.bytes.now)) (sym pushed)
          (alts-next xs rest (map alt_view l.alts.items) (drop l.at c.args.bytes.now) (l.invariant.left xs rest h) (alt_view alt) (drop c.in_ok-rec.next c.args.bytes.now) found);
      done = λ xs rest h. subst (λ (done : List PlainAlt). AltsAt (done ++ xs) rest (drop c.args.start c.args.bytes.now)) (sym pushed)
          (subst (λ (ys : List PlainAlt). AltsAt ys rest (drop c.args.start c.args.bytes.now)) (sym (append_assoc (map alt_view l.alts.items) (alt_view alt ∷ []) xs))
          (l.invariant.done (alt_view alt ∷ xs) rest (alts-over (alt_view alt) xs rest (drop c.in_ok-rec.next c.args.bytes.now) (drop l.at c.args.bytes.now) is spelled h)));
      further = omega (arith, c.in_ok-rec.ensures.further);
    }
