use Rattle.std.proofs.Common.{◌≡◌, ◌-◌, ◌++◌, ◌∷◌, ◌∙◌, suc, [], map, sym, ap, arith}
use Rattle.std.proofs.lemmas.List.{map-append}
use Rattle.std.proofs.lemmas.Result.{IfOk-weaker}
use Rattle.version_set.specs.View.{pairs_of}
use Rattle.row_ends.specs.Kids.{stamps_in, sets_in}
use Rattle.row_ends.specs.KidViews.{stored_view}
use Rattle.row_ends.proofs.Stamps.{Set, last-inherits, last-stored}
use Rattle.row_ends.proofs.sets.Sets.take_last.Goals as goal

pub returns-then-self-gt0 : goal.returns-then-self-gt0
returns-then-self-gt0 c =
    let s = c.args.self.now in
    let row = pairs_of s.row.now in
    let all = map stored_view s.stored.now in
    let next : s.inheriting ≡ suc (s.inheriting - 1) = omega (arith, c.if-self-gt0.true) in
    IfOk-weaker c.copy.result _ _ (λ set e. last-inherits row all s.inheriting (s.inheriting - 1) next ∙ ap (λ (p : Set). sets_in row (stamps_in all (s.inheriting - 1)) ++ p ∷ []) (sym e)) c.copy.ensures

pub returns : goal.returns
returns c =
    let s = c.args.self.now in
    let row = pairs_of s.row.now in
    let last = c.in-Some.last.now in
    let front = c.in-Some.front.now in
    let none : s.inheriting ≡ 0 = omega (arith, c.if-self-gt0.false) in
    let parts = ap (map stored_view) c.in-Some.ensures.cases.0 ∙ map-append stored_view front (last ∷ []) in
    IfOk-weaker c.copy-2.result _ _ (λ set e. last-stored row (map stored_view s.stored.now) (map stored_view front) s.inheriting last.inheriting (pairs_of last.set) parts none ∙ ap (λ (p : Set). sets_in row (stamps_in (map stored_view front) last.inheriting) ++ p ∷ []) (sym e)) c.copy-2.ensures
