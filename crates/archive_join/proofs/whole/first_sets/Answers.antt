use Rattle.std.proofs.Common.{rules, ◌≡◌, ℕ, ℤ, pos, to_z, of_z, w64, sym, ap, ◌∙◌}
use Rattle.std.proofs.lemmas.Int.{to_z-of_z}
use mir.Val.{SFits}
use Rattle.version_set.specs.Members.{united}
use Rattle.record_copy.specs.Raised.{raised}
use Rattle.archive_join.proofs.SetLaws.{may_rise, raised_is, upto_both}
use Rattle.archive_join.proofs.whole.first_sets.Goals as goal

by_is : (z : ℤ) (n : ℕ) → SFits w64 z → z ≡ pos n → to_z w64 (of_z w64 z) ≡ pos n
by_is z n fits e = to_z-of_z w64 z fits ∙ e

pub shift-requires : goal.shift-requires
shift-requires c =
    let fits : SFits w64 c.from.result = search rules in
    may_rise _ c.args.one c.args.two _ c.upto-2.ensures.members c.requires (by_is c.from.result c.args.one fits c.from.ensures)

pub invariant_of-result : goal.invariant_of-result
invariant_of-result c =
    let n = c.args.one in
    let fits : SFits w64 c.from.result = search rules in
    let later = c.in_ok-shift.ensures.pairs ∙ raised_is n _ _ (by_is c.from.result n fits c.from.ensures) ∙ ap (raised n) c.upto-2.ensures.pairs in
    record { whole = c.upto-3.ensures.pairs ∙ sym (upto_both n c.args.two) ∙ (λ i. united (sym c.upto.ensures.pairs i) (sym later i)) }
