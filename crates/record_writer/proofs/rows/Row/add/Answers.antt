use Rattle.std.proofs.Common.{ℕ, ◌≤◌, List, [], ◌∷◌, ◌++◌, length, ap, sym, subst, ◌∙◌}
use Rattle.record_writer.specs.Places.{above}
use Rattle.record_writer.proofs.PlaceLaws.{above-behind}
use Rattle.record_writer.proofs.rows.Row.add.Goals as goal

pub invariant_of-self-2-clause-known : goal.invariant_of-self-2-clause-known
invariant_of-self-2-clause-known c =
    let old = c.args.self.now in
    let is = c.push_reserved-2.ensures.items ∙ ap (λ (ps : List ℕ). ps ++ c.args.place ∷ []) c.reserve-2.ensures.items in
    subst (λ (ps : List ℕ). above ps ≤ length old.sets.items) (sym is) (above-behind old.places.items c.args.place (length old.sets.items) old.known c.requires.known)
