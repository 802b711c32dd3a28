use Rattle.std.proofs.Common.{◌≡◌, ◌++◌, ◌∷◌, ◌∙◌, ◌+◌, ℕ, suc, [], List, map, ap, sym, arith}
use Rattle.std.proofs.lemmas.List.{map-append}
use Rattle.archive_tree.specs.View.{stamp_view}
use Rattle.version_set.specs.View.{pairs_of}
use Rattle.row_ends.specs.Kids.{stamps_in}
use Rattle.row_ends.specs.KidViews.{stored_view}
use Rattle.row_ends.specs.declared.parts.Stored.{Stored}
use Rattle.row_ends.proofs.Stamps.{Set, stamps-more, stamps-stored}
use Rattle.row_ends.proofs.kids.keep_stamp.Goals as goal

pub returns-in_ok-push-in-Some-clause-ok : goal.returns-in_ok-push-in-Some-clause-ok
returns-in_ok-push-in-Some-clause-ok c =
    let old = c.args.stored.now.items in
    let n = c.args.inheriting in
    let set = c.in-Some.set in
    ap (λ (xs : List Stored). stamps_in (map stored_view xs) 0) c.in_ok-push-in-Some.ensures.items
    ∙ ap (λ (ys : List (ℕ × Set)). stamps_in ys 0) (map-append stored_view old _)
    ∙ stamps-stored (map stored_view old) n (pairs_of set)
    ∙ (λ k. stamps_in (map stored_view old) n ++ stamp_view (sym c.in-Some.is k) ∷ [])

pub returns-in-None-clause-ok : goal.returns-in-None-clause-ok
returns-in-None-clause-ok c =
    let old = map stored_view c.args.stored.now.items in
    let n = c.args.inheriting in
    let next : n + 1 ≡ suc n = omega arith in
    ap (stamps_in old) next ∙ stamps-more old n ∙ (λ k. stamps_in old n ++ stamp_view (sym c.in-None.is k) ∷ [])
