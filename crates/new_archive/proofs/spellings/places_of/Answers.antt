use Rattle.std.proofs.Common.{rules, ◌≡◌, ◌+◌, length, take, refl, ap, sym, subst, ◌∙◌}
use Rattle.spelled_archive.specs.View.{kept_view}
use Rattle.new_archive.specs.Covered.{AreCovered, IsAdded, kept_bodies}
use Rattle.new_archive.proofs.Covers.{covered_more, kept_all, kept_long, kept_taken, none_covered}
use Rattle.new_archive.proofs.spellings.places_of.Goals as goal

pub loop-alt-init : goal.loop-alt-init
loop-alt-init c = record { at = refl; covered = none_covered c.new-places.result.entries (search rules) }

pub loop-alt-preserved : goal.loop-alt-preserved
loop-alt-preserved c =
    let xs = c.args.alts.now in
    let i = c.loop-alt.alt-index in
    let x = c.alt-item.result in
    let old = c.loop-alt.places.entries in
    let new = c.put_place.new.places.entries in
    let at : c.loop-alt.place ≡ length (kept_bodies (take i xs)) = c.loop-alt.invariant.at ∙ sym (kept_long xs i c.loop-alt-test.true) in
    record {
      at = ap (λ k. k + 1) c.loop-alt.invariant.at;
      covered = subst (λ z. AreCovered z new) (sym (kept_taken xs i x c.loop-alt-test.true c.alt-item.is))
          (covered_more (kept_bodies (take i xs)) (kept_view x.body) old new c.loop-alt.invariant.covered (subst (λ k. IsAdded (kept_view x.body) k old new) at c.in_ok-put_place.ensures));
    }

pub returns : goal.returns
returns c = kept_all c.args.alts.now c.loop-alt.alt-index c.loop-alt.places.entries c.loop-alt-test.false c.loop-alt.invariant.covered
