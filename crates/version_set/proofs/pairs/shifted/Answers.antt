use Rattle.std.proofs.lemmas.Grind.{common_steps}
use Rattle.std.proofs.Common.{ℕ, ℤ, pos, ◌+ℤ◌, arith, List, ◌≡◌, get_or, map, take, take_all, subst, sym, ap, ◌∙◌}
use Rattle.version_set.specs.Pairs.{IsCanonical}
use Rattle.version_set.specs.Members.{members, moved_pair, IsVersion}
use Rattle.std.proofs.lemmas.Int.{to_z-of_z}
use mir.Val.{SFits, to_z, of_z}
use mir.Syntax.{w64}
use Rattle.version_set.proofs.Moves.{ends_in, members-moved, IsCanonical-moved}
use Rattle.version_set.proofs.pairs.shifted.Goals as goal

same_by : (P : ℤ → Type 0) (by : ℤ) → SFits w64 by → P by → P (to_z w64 (of_z w64 by))
same_by P by fits h = subst P (sym (to_z-of_z w64 by fits)) h

pub move_number-requires : goal.move_number-requires
move_number-requires c =
    same_by (λ (by : ℤ). IsVersion (pos (get_or c.args.pairs.now c.loop-from.from-index (0, 0)).0 +ℤ by)) c.args.by c.ranges.by
    (c.requires.fits _ (ends_in 1 c.args.pairs.now c.loop-from.from-index (0, 0) c.requires.canonical (omega arith)).0)

pub move_number-requires-in-loop-from : goal.move_number-requires-in-loop-from
move_number-requires-in-loop-from c =
    same_by (λ (by : ℤ). IsVersion (pos (get_or c.args.pairs.now c.loop-from.from-index (0, 0)).1 +ℤ by)) c.args.by c.ranges.by
    (c.requires.fits _ (ends_in 1 c.args.pairs.now c.loop-from.from-index (0, 0) c.requires.canonical (omega arith)).1)

pub returns-clause-canonical : goal.returns-clause-canonical
returns-clause-canonical c =
    let all : c.loop-from.shifted.items ≡ map (moved_pair c.args.by) c.args.pairs.now = c.loop-from.invariant ∙ ap (λ (by : ℤ). map (moved_pair by) (take c.loop-from.from-index c.args.pairs.now)) (to_z-of_z w64 c.args.by c.ranges.by) ∙ ap (map (moved_pair c.args.by)) (take_all c.loop-from.from-index c.args.pairs.now (omega arith)) in
    subst (λ (ps : List (ℕ × ℕ)). IsCanonical ps) (sym all) (IsCanonical-moved c.args.by c.args.pairs.now c.requires.canonical c.requires.fits)

pub returns-clause-pairs : goal.returns-clause-pairs
returns-clause-pairs c =
    let all : c.loop-from.shifted.items ≡ map (moved_pair c.args.by) c.args.pairs.now = c.loop-from.invariant ∙ ap (λ (by : ℤ). map (moved_pair by) (take c.loop-from.from-index c.args.pairs.now)) (to_z-of_z w64 c.args.by c.ranges.by) ∙ ap (map (moved_pair c.args.by)) (take_all c.loop-from.from-index c.args.pairs.now (omega arith)) in
    all

pub returns-clause-members : goal.returns-clause-members
returns-clause-members c =
    let all : c.loop-from.shifted.items ≡ map (moved_pair c.args.by) c.args.pairs.now = c.loop-from.invariant ∙ ap (λ (by : ℤ). map (moved_pair by) (take c.loop-from.from-index c.args.pairs.now)) (to_z-of_z w64 c.args.by c.ranges.by) ∙ ap (map (moved_pair c.args.by)) (take_all c.loop-from.from-index c.args.pairs.now (omega arith)) in
    ap members all ∙ members-moved c.args.by 1 c.args.pairs.now c.requires.canonical c.requires.fits

pub loop-from-init : goal.loop-from-init
loop-from-init c = grind (arith, common_steps)

pub loop-from-preserved : goal.loop-from-preserved
loop-from-preserved c = grind (arith, common_steps)
