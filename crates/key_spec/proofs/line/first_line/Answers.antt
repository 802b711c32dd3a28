use Rattle.std.proofs.Common.{◌≡◌, ◌+◌, ◌-◌, [], ◌∷◌, length, take, drop, arith, ap, ◌∙◌, sym, length-drop}
use Rattle.std.proofs.lemmas.List.{take_all}
use Rattle.key_spec.proofs.LineLemmas.{lines-first, lines-last}
use Rattle.key_spec.proofs.line.first_line.Goals as goal

pub returns-then-end-text-clause-cut : goal.returns-then-end-text-clause-cut
returns-then-end-text-clause-cut c =
    let text = c.args.text.now in
    let end = c.line_feed-end.result in
    let rest : take (length text - (end + 1)) (drop (end + 1) text) ≡ drop (end + 1) text = take_all _ (drop (end + 1) text) (simp length-drop (omega arith)) in
    let cut = lines-first text (omega arith) in
    let place = c.line_feed-end.ensures.place in
    let line = c.without_return.ensures in
    rw rest (cc)

pub returns-else-end-text-clause-cut : goal.returns-else-end-text-clause-cut
returns-else-end-text-clause-cut c =
    lines-last c.args.text.now (omega arith) (omega arith) ∙ ap (λ line. line ∷ []) (sym c.without_return-else-end-text.ensures)
