use Rattle.std.proofs.Common.{◌≡◌, false, true, List, [], ◌∷◌, map, length, sym, ap, subst, ◌∙◌, arith}
use Rattle.version_set.specs.View.{pairs_of}
use Rattle.version_set.specs.declared.set.VersionSet.{VersionSet}
use Rattle.record_format.specs.View.{entry_view}
use Rattle.record_writer.specs.Places.{IsAtEnd, set_at}
use Rattle.record_writer.proofs.PlaceLaws.{set_at-behind, sets-grown}
use Rattle.record_writer.proofs.rows.Row.place.Goals as goal

pub returns-clause-at : goal.returns-clause-at
returns-clause-at c =
    let at : c.len-at.result ≡ length c.args.self.now.sets.items = grind (arith, c.len-at.ensures) in
    (λ i. set_at (c.in_ok-push.ensures.items i) (at i)) ∙ set_at-behind c.args.self.now.sets.items c.in_ok-set.set ∙ c.in_ok-set.ensures

pub returns-clause-row : goal.returns-clause-row
returns-clause-row c =
    let old = c.args.self.now in
    let sets : map (set_at c.push.new.self.items) old.places.items ≡ map (set_at old.sets.items) old.places.items =
    ap (λ (xs : List VersionSet). map (set_at xs) old.places.items) c.in_ok-push.ensures.items ∙ sets-grown old.sets.items (c.in_ok-set.set ∷ []) old.places.items old.known in
    λ i. record { start = old.start; dir = record { entries = map entry_view old.entries.items; sets = sets i } }

pub returns-clause-kept : goal.returns-clause-kept
returns-clause-kept c = λ end. absurd (
    let clash : false ≡ true = c.in_default.ensures.found (subst (λ (xs : List VersionSet). IsAtEnd xs (pairs_of c.args.set.now)) (sym c.deref.ensures.value) end) in
    cc)
