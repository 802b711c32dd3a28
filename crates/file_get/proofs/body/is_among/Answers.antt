use Rattle.std.proofs.Common.{◌≡◌, ℕ, List, refl, ap, ◌∙◌}
use Rattle.std.specs.Option.{option_map}
use Rattle.version_set.specs.Members.{members, has}
use Rattle.file_get.proofs.Bodies.{pairs-read}
use Rattle.file_get.proofs.Openings.{filled-some}
use Rattle.file_get.proofs.body.is_among.Goals as goal

pub returns-clause-told : goal.returns-clause-told
returns-clause-told c = λ s same long is. (
    let a = c.args in
    let read = c.pairs_contain.ensures ∙ ap (option_map (λ (p : List (ℕ × ℕ) × List ℕ). has (members p.0) a.version)) (pairs-read s a.pairs.now a.count same long is c.ranges.count.fits) in
    filled-some c.pairs_contain.result _ c.ok_or.result (has (members s) a.version) (λ h. h ≡ has (members s) a.version) c.ok_or.ensures.value read refl)
