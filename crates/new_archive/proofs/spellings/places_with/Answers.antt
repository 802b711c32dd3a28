use Rattle.std.proofs.Common.{subst, sym}
use Rattle.std.specs.Option.{IfSome}
use Rattle.spelled_archive.specs.View.{kept_view}
use Rattle.new_archive.specs.Covered.{AreCovered, kept_bodies}
use Rattle.new_archive.proofs.Covers.{covered_behind}
use Rattle.new_archive.proofs.spellings.places_with.Goals as goal

pub returns-in-Some : goal.returns-in-Some
returns-in-Some c = covered_behind c.args.alts.now (kept_view c.args.body.now) _ _ (subst (λ o. IfSome o (λ b. AreCovered (kept_bodies c.args.alts.now) b.value.entries)) c.in-Some.is c.requires) c.in_ok-more.ensures

pub returns : goal.returns
returns c = covered_behind c.args.alts.now (kept_view c.args.body.now) _ _ (subst (λ m. AreCovered (kept_bodies c.args.alts.now) m.entries) (sym c.in_ok-places.ensures.ok) c.in_ok-places_of.ensures) c.in_ok-more-2.ensures
