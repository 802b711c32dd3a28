use Rattle.std.proofs.Common.{◌≡◌, ◌<◌, drop, sym, subst, ◌∙◌}
use Rattle.key_annotate.specs.Front.{spelled}
use Rattle.key_annotate.proofs.Fronts.{less, less-behind, settles}
use Rattle.key_annotate.proofs.fronted.Fronted.order.Goals as goal

pub returns-then-self-other : goal.returns-then-self-other
returns-then-self-other c =
    let f = c.args.self.now in
    let g = c.args.other.now in
    let s = f.text.now in
    let t = g.text.now in
    c.cmp.ensures ∙ settles f.front g.front s t c.if-self-other.true
    (λ l. less 8 0 s t g.bytes (subst (λ x. x < spelled 8 0 t) f.first (subst (λ y. f.front < y) g.first l)))
    (λ l. less 8 0 t s f.bytes (subst (λ x. x < spelled 8 0 s) g.first (subst (λ y. g.front < y) f.first l)))

pub returns-then-self-other-2 : goal.returns-then-self-other-2
returns-then-self-other-2 c =
    let f = c.args.self.now in
    let g = c.args.other.now in
    let s = f.text.now in
    let t = g.text.now in
    let same : spelled 8 0 s ≡ spelled 8 0 t = sym f.first ∙ c.if-self-other.false ∙ g.first in
    c.cmp-then-self-other-2.ensures ∙ settles f.next g.next s t c.if-self-other-2.true
    (λ l. less-behind 8 8 0 s t g.bytes same (subst (λ x. x < spelled 8 0 (drop 8 t)) f.second (subst (λ y. f.next < y) g.second l)))
    (λ l. less-behind 8 8 0 t s f.bytes (sym same) (subst (λ x. x < spelled 8 0 (drop 8 s)) g.second (subst (λ y. g.next < y) f.second l)))
