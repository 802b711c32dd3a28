use Rattle.std.proofs.Common.{subst, sym, ◌∙◌}
use Rattle.archive_tree.specs.Stands.{ArchiveOf}
use Rattle.archive_text.proofs.Found.{hands_on, same_archive}
use Rattle.archive_text.proofs.read.read_archive.Goals as goal

pub returns-in_err-kids : goal.returns-in_err-kids
returns-in_err-kids c = λ vs a rest count is good h.
    hands_on _ _ c.from_residual.result c.in_err-kids.field-0.0 c.from_residual.ensures.1 (c.in_err-kids.ensures.found a.kids rest good h)

pub returns-in-Some : goal.returns-in-Some
returns-in-Some c = λ vs a rest count is good h. (
    let kids = (c.in_ok-kids.ensures.found a.kids rest good h).0 in
    rw c.in-Some.is at c.in_ok-archive.ensures.parts ∙ same_archive a _ _ (sym count) kids)

pub returns-in-None : goal.returns-in-None
returns-in-None c = λ vs a rest count is good h. (
    let kids = (c.in_ok-kids.ensures.found a.kids rest good h).0 in
    (rw c.in-None.is at c.in_ok-archive.ensures.none) vs (subst (ArchiveOf vs) (sym (same_archive a _ _ (sym count) kids)) is))
