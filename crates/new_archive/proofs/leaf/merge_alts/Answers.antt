use Rattle.std.proofs.Common.{◌≡◌, ◌≢◌, ◌∙◌, [], ◌∷◌, ◌++◌, ◌+◌, Some, get_or, length, map, take, drop, ap, sym, subst, rules}
use Rattle.std.proofs.lemmas.List.{take_at}
use Rattle.std.proofs.lemmas.Result.{on_ok_weaker}
use Rattle.std.specs.List.{AllByRecursion}
use Rattle.keyed_tree.specs.LentView.{lent_val_view}
use Rattle.new_archive.specs.AltView.{alt_view}
use Rattle.new_archive.specs.Covered.{AreCovered, kept_bodies}
use Rattle.new_archive.specs.Full.{FullAlt}
use Rattle.new_archive.specs.Place.{IsAltOf, changed}
use Rattle.new_archive.proofs.AltRows.{alt_met, alt_new}
use Rattle.new_archive.proofs.leaf.merge_alts.Goals as goal

pub invariant_of-alts : goal.invariant_of-alts
invariant_of-alts c =
    let items = c.args.alts.now.items in
    let new = c.add_at.new.alts in
    let size : length new ≡ items.len = search rules in
    let same : kept_bodies (take items.len (new ++ drop (length new) items.items)) ≡ kept_bodies items.items = ap kept_bodies (take_at new (drop (length new) items.items) items.len size) ∙ c.add_at.ensures.bodies ∙ ap kept_bodies c.deref_mut.ensures.value in
    record { covered = λ m is. subst (λ bs. AreCovered bs m.value.entries) (sym same) (c.args.alts.now.covered m is) }

pub returns-in-Some : goal.returns-in-Some
returns-in-Some c =
    let items = c.args.alts.now.items in
    let xs = map alt_view items.items in
    let n = c.args.n in
    let b = lent_val_view c.args.body in
    let d : FullAlt = record { numbers = []; body = b } in
    let at = c.in-Some.at in
    let new = c.add_at.new.alts in
    let found : IsAltOf b xs (Some at) = subst (λ o. IsAltOf b xs o) c.in-Some.is c.in_ok-at.ensures in
    let size : length new ≡ items.len = search rules in
    on_ok_weaker c.add_at.result (λ g. ap (map alt_view) (take_at new (drop (length new) items.items) items.len size) ∙ g d ∙ ap (λ z. take at (map alt_view z) ++ changed n (get_or (map alt_view z) at d) ∷ drop (at + 1) (map alt_view z)) c.deref_mut.ensures.value ∙ sym (alt_met n b xs at d c.requires.differ found.0 (found.1 d))) c.add_at.ensures.is

pub returns-in-None : goal.returns-in-None
returns-in-None c =
    let xs = map alt_view c.args.alts.now.items.items in
    let b = lent_val_view c.args.body in
    let none : AllByRecursion (λ (x : FullAlt). x.body ≢ b) xs = subst (λ o. IsAltOf b xs o) c.in-None.is c.in_ok-at.ensures in
    on_ok_weaker c.push_new.result (λ g. g ∙ sym (alt_new c.args.n b xs none)) c.push_new.ensures
