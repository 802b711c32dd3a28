use Rattle.std.proofs.Common.{◌≡◌, ◌++◌, ◌∷◌, ◌+◌, [], List, drop, get_or, length, map, replicate, sym, ap, ◌∙◌, arith}
use Rattle.std.proofs.lemmas.List.{drop_all}
use Rattle.version_set.specs.View.{pairs_of}
use Rattle.row_ends.specs.KidViews.{stored_view}
use Rattle.row_ends.specs.declared.parts.Stored.{Stored}
use Rattle.row_ends.proofs.Stamps.{Set}
use Rattle.row_ends.proofs.Times.{intervals, left_of, left-last, one-done, first-left}
use Rattle.row_ends.proofs.kids.Kids.pairs.Goals as goal

pub loop-kid-preserved : goal.loop-kid-preserved
loop-kid-preserved c =
    let k = c.args.self.now in
    let items = k.stored.items in
    let n = k.inheriting in
    let row = pairs_of c.args.set.now in
    let l = c.loop-kid in
    let i = l.kid-index in
    let kid = c.kid-item.result in
    let value = c.deref-kid-items.ensures.value in
    let here : kid ≡ get_or items i kid = c.kid-item.is ∙ ap (λ (xs : List Stored). get_or xs i kid) value in
    let within = c.loop-kid-test.true in
    let split : drop i items ≡ kid ∷ drop (i + 1) items = first-left items i kid (omega (arith, within, ap length value)) here in
    let times : c.add_times.new.pairs.items ≡ l.pairs.items ++ intervals (replicate kid.inheriting row) = c.in_ok-add_times.ensures ∙ ap (λ (x : Set). l.pairs.items ++ intervals (replicate kid.inheriting x)) c.pairs.ensures in
    let pushed : c.extend_from_slice.new.self.items ≡ (l.pairs.items ++ intervals (replicate kid.inheriting row)) ++ pairs_of kid.set =
    c.in_ok-extend_from_slice.ensures.items ∙ (λ j. times j ++ c.pairs-in-loop-kid.ensures j) in
    one-done row l.pairs.items c.extend_from_slice.new.self.items (stored_view kid) (map stored_view (drop (i + 1) items)) n pushed
    ∙ ap (λ (xs : List Stored). l.pairs.items ++ left_of row (map stored_view xs) n) (sym split)
    ∙ l.invariant

pub returns : goal.returns
returns c =
    let k = c.args.self.now in
    let items = k.stored.items in
    let n = k.inheriting in
    let row = pairs_of c.args.set.now in
    let l = c.loop-kid in
    let past = c.loop-kid-test.false in
    let none : drop l.kid-index items ≡ [] = drop_all l.kid-index items (omega (arith, past, ap length c.deref-kid-items.ensures.value)) in
    c.in_ok-add_times-2.ensures
    ∙ ap (λ (x : Set). l.pairs.items ++ intervals (replicate n x)) c.pairs-2.ensures
    ∙ ap (λ (x : Set). l.pairs.items ++ x) (sym (left-last row n))
    ∙ ap (λ (xs : List Stored). l.pairs.items ++ left_of row (map stored_view xs) n) (sym none)
    ∙ l.invariant
