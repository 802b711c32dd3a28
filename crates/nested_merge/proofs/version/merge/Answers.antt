use Rattle.std.proofs.lemmas.Grind.{common_steps}
use Rattle.std.proofs.Common.{◌≡◌, ◌+◌, ◌++◌, [], ◌∷◌, sym, ap, subst, ◌∙◌, arith}
use Rattle.keyed_tree.specs.View.{keyed_view}
use Rattle.archive_tree.specs.ArchiveView.{archive_view}
use Rattle.archive_tree.specs.Data.{PlainArchive}
use Rattle.archive_tree.specs.Stands.{ArchiveOf, Kept}
use Rattle.archive_tree.specs.View.{nodes_view}
use Rattle.archive_tree.specs.WellFormed.{AreNodesWellFormed}
use Rattle.archive_tree.specs.Read.{version_at}
use Rattle.nested_merge.proofs.ArchiveGrows.{archive_grows}
use Rattle.nested_merge.proofs.Kepts.{kept_below, made_version, kept_grows, kept_stays, kept_added}
use Rattle.nested_merge.proofs.WellFormedGrows.{version_well}
use Rattle.nested_merge.proofs.version.merge.Goals as goal

pub grown_kids-requires-clause-below : goal.grown_kids-requires-clause-below
grown_kids-requires-clause-below c = kept_below (record { n = c.into_parts-n.result.0; kids = nodes_view c.into_parts-n.result.1.items }) c.into_parts-n.ensures.stands

pub new-requires-clause-stands : goal.new-requires-clause-stands
new-requires-clause-stands c =
    let a = archive_view c.args.old in
    let k = keyed_view c.args.new.now in
    let made = made_version a k _ _ _ c.into_parts-n.ensures.parts c.in-Ok.ensures.grown in
    subst (λ (z : PlainArchive). ∥ Kept z ∥₁) (sym made) (kept_grows a k c.args.old.stands c.requires.alike c.requires.ordered c.requires.element)

pub new-requires-clause-well_formed : goal.new-requires-clause-well_formed
new-requires-clause-well_formed c =
    let a = archive_view c.args.old in
    let k = keyed_view c.args.new.now in
    let made = made_version a k _ _ _ c.into_parts-n.ensures.parts c.in-Ok.ensures.grown in
    subst (λ (z : PlainArchive). AreNodesWellFormed z.kids) (sym made) (version_well a k c.args.old.well_formed c.requires.well_formed)

pub returns-in-Ok-clause-archive : goal.returns-in-Ok-clause-archive
returns-in-Ok-clause-archive c = λ vs h.
    let a = archive_view c.args.old in
    let k = keyed_view c.args.new.now in
    let made = c.new.ensures.parts ∙ made_version a k _ _ _ c.into_parts-n.ensures.parts c.in-Ok.ensures.grown in
    subst (λ (z : PlainArchive). ArchiveOf (vs ++ k ∷ []) z) (sym made) (archive_grows vs a k h (c.requires.alike vs h) c.requires.ordered c.requires.element)

pub returns-in-Ok-clause-merged : goal.returns-in-Ok-clause-merged
returns-in-Ok-clause-merged c = c.new.ensures.parts ∙ made_version (archive_view c.args.old) (keyed_view c.args.new.now) _ _ _ c.into_parts-n.ensures.parts c.in-Ok.ensures.grown

pub returns-in-Ok-clause-earlier : goal.returns-in-Ok-clause-earlier
returns-in-Ok-clause-earlier c = λ i from to.
    let a = archive_view c.args.old in
    let k = keyed_view c.args.new.now in
    let made = c.new.ensures.parts ∙ made_version a k _ _ _ c.into_parts-n.ensures.parts c.in-Ok.ensures.grown in
    subst (λ (z : PlainArchive). version_at i z ≡ version_at i a) (sym made) (kept_stays a k c.args.old.stands c.requires.alike c.requires.ordered c.requires.element i from to)

pub returns-in-Ok-clause-newest : goal.returns-in-Ok-clause-newest
returns-in-Ok-clause-newest c =
    let a = archive_view c.args.old in
    let k = keyed_view c.args.new.now in
    let made = c.new.ensures.parts ∙ made_version a k _ _ _ c.into_parts-n.ensures.parts c.in-Ok.ensures.grown in
    ap (version_at (a.n + 1)) made ∙ kept_added a k c.args.old.stands c.requires.alike c.requires.ordered c.requires.element

pub returns-in-Err-clause-archive : goal.returns-in-Err-clause-archive
returns-in-Err-clause-archive c = grind (arith, common_steps)

pub returns-in-Err-clause-count : goal.returns-in-Err-clause-count
returns-in-Err-clause-count c = grind (arith, common_steps)

pub returns-in-Err-clause-earlier : goal.returns-in-Err-clause-earlier
returns-in-Err-clause-earlier c = grind (arith, common_steps)

pub returns-in-Err-clause-merged : goal.returns-in-Err-clause-merged
returns-in-Err-clause-merged c = grind (arith, common_steps)

pub returns-in-Err-clause-newest : goal.returns-in-Err-clause-newest
returns-in-Err-clause-newest c = grind (arith, common_steps)

pub returns-in-Err-clause-refused : goal.returns-in-Err-clause-refused
returns-in-Err-clause-refused c = grind (arith, common_steps)

pub returns-in-Ok-clause-count : goal.returns-in-Ok-clause-count
returns-in-Ok-clause-count c = grind (arith, common_steps)

pub returns-in-Ok-clause-refused : goal.returns-in-Ok-clause-refused
returns-in-Ok-clause-refused c = grind (arith, common_steps)
