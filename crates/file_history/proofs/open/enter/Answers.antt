use Rattle.std.proofs.Common.{◌∙◌, refl, ap, sym}
use Rattle.archive_tree.specs.View.{stamp_view}
use Rattle.file_rows.specs.View.{child_view}
use Rattle.file_history.specs.View.{met_view}
use Rattle.file_history.proofs.Opening.{enter-some, enter-none}
use Rattle.file_history.proofs.open.enter.Goals as goal

pub returns-in-Some-clause-told : goal.returns-in-Some-clause-told
returns-in-Some-clause-told c = λ bytes parent k order stands at met. (
    enter-some bytes parent k order (child_view c.args.child) c.args.behind c.in-Inner.stamp c.in-Some.row
    (λ l s set ps h e. (c.in-Some.ensures.told bytes l s set ps h e).0) stands at (sym (ap met_view c.in-Inner.is) ∙ met))

pub returns-in-None-clause-told : goal.returns-in-None-clause-told
returns-in-None-clause-told c = λ bytes parent k order stands at met. (
    enter-none bytes parent k order (child_view c.args.child) c.args.behind (stamp_view c.in-Inner.stamp)
    (λ l s set ps h e. (c.in-None.ensures.told bytes l s set ps h e).1 refl) stands at (sym (ap met_view c.in-Inner.is) ∙ met))
