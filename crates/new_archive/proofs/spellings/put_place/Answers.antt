use Rattle.std.proofs.Common.{subst}
use Rattle.spelled_archive.specs.View.{kept_view}
use Rattle.new_archive.specs.Covered.{IsSpelling}
use Rattle.new_archive.proofs.Covers.{added_none, added_some}
use Rattle.new_archive.proofs.spellings.put_place.Goals as goal

pub returns-in_ok-insert-in-Some : goal.returns-in_ok-insert-in-Some
returns-in_ok-insert-in-Some c = added_some (kept_view c.args.body.now) c.in-Some.bytes c.args.place c.args.places.now.entries _ (subst (IsSpelling (kept_view c.args.body.now)) c.in-Some.is c.in_ok-bytes.ensures) c.in_ok-insert-in-Some.ensures.entries

pub returns-in-None : goal.returns-in-None
returns-in-None c = added_none (kept_view c.args.body.now) c.args.place c.args.places.now.entries (subst (IsSpelling (kept_view c.args.body.now)) c.in-None.is c.in_ok-bytes.ensures)
