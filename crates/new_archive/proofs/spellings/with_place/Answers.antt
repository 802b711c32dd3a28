use Rattle.std.proofs.Common.{ℕ, Vec, Global, subst}
use Rattle.std.specs.declared.collections.BTreeMap.{BTreeMap}
use Rattle.spelled_archive.specs.View.{kept_view}
use Rattle.new_archive.specs.Covered.{IsAdded}
use Rattle.new_archive.proofs.spellings.with_place.Goals as goal

pub returns : goal.returns
returns c = subst (λ (z : BTreeMap (Vec ℕ Global) ℕ Global). IsAdded (kept_view c.args.body.now) c.args.place z.entries c.put_place.new.places.entries) c.deref_mut.ensures.value c.in_ok-put_place.ensures
