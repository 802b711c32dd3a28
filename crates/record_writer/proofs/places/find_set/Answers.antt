use Rattle.std.proofs.Common.{◌≡◌, ◌-◌, ◌<◌, true, false, length, sym, ◌∙◌, arith}
use Rattle.std.proofs.lemmas.Bool.Decides.{nat_tests}
use Rattle.version_set.specs.View.{pairs_of}
use Rattle.record_writer.proofs.PlaceLaws.{not-at-end, set_at-is}
use Rattle.record_writer.proofs.places.find_set.Goals as goal

pub returns-then-same-2-clause-at : goal.returns-then-same-2-clause-at
returns-then-same-2-clause-at c =
    let last : length c.args.sets.now - 1 < length c.args.sets.now = grind (arith, nat_tests, c.is_empty.ensures, c.if-is_empty.false) in
    set_at-is c.args.sets.now (length c.args.sets.now - 1) c.index-sets-last.result last c.index-sets-last.is ∙ c.same-2.ensures.pairs.0 c.if-same-2.true

pub returns-clause-found : goal.returns-clause-found
returns-clause-found c = λ end. absurd (
    let sets = c.args.sets.now in
    let set = pairs_of c.args.set.now in
    let last : length sets - 1 < length sets = (let some = end.0 in omega (arith, some)) in
    not-at-end sets set
    (λ is. (let clash : true ≡ false = sym (c.same.ensures.pairs.1 (sym (set_at-is sets 0 c.index-sets-0.result end.0 c.index-sets-0.is) ∙ is)) ∙ c.if-same.false in cc))
    (λ is. (let clash : true ≡ false = sym (c.same-2.ensures.pairs.1 (sym (set_at-is sets (length sets - 1) c.index-sets-last.result last c.index-sets-last.is) ∙ is)) ∙ c.if-same-2.false in cc))
    end)
