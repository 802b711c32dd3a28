use Rattle.std.proofs.Common.{◌≡◌, ◌↔◌, ◌≤◌, ◌∙◌, IsTrue, Option, None, Some, IfSome, sym, subst}
use Rattle.std.proofs.lemmas.Result.{IfOk-weaker}
use Rattle.std.specs.Option.{option_map}
use Rattle.keyed_tree.specs.Data.{PlainKeyed}
use Rattle.keyed_tree.specs.WellFormed.{IsKeyedWellFormed}
use Rattle.keyed_tree.specs.View.{keyed_view}
use Rattle.keyed_tree.proofs.KidsKeep.{is_some-seen}
use Rattle.archive_tree.specs.ArchiveView.{archive_view}
use Rattle.archive_tree.proofs.Readings.{all_numbers}
use Rattle.archive_tree.proofs.Versions.{kept_is_some, version_item, root_well}
use Rattle.archive_tree.proofs.archive.Archive.version.Goals as goal

-- what is said of a value by its view
seen : {X : Type 0} (view : X → PlainKeyed) (P : PlainKeyed → Type 0) (o : Option X) (q : Option PlainKeyed) → option_map view o ≡ q → IfSome q P → IfSome o (λ k. P (view k))
seen view P None q e h = tt
seen view P (Some k) q e h = let Q : Option PlainKeyed → Type 0 = λ z. IfSome z P in subst Q (sym e) h

pub returns-clause-found : goal.returns-clause-found
returns-clause-found c =
    let a = archive_view c.args.self.now in
    let law = kept_is_some a c.args.self.now.stands c.args.i in
    IfOk-weaker c.tree_at.result _ _ (λ o e. subst (λ b. IsTrue b ↔ ((1 ≤ c.args.i) × (c.args.i ≤ a.n))) (sym (is_some-seen keyed_view o _ e)) law) c.tree_at.ensures

pub returns-clause-item : goal.returns-clause-item
returns-clause-item c = λ vs h.
    IfOk-weaker c.tree_at.result _ _ (λ o e. e ∙ version_item vs (archive_view c.args.self.now) h c.args.i) c.tree_at.ensures

pub returns-clause-well_formed : goal.returns-clause-well_formed
returns-clause-well_formed c =
    let a = archive_view c.args.self.now in
    IfOk-weaker c.tree_at.result _ _ (λ o e. seen keyed_view IsKeyedWellFormed o _ e (root_well c.args.i (all_numbers a) a.kids c.args.self.now.well_formed)) c.tree_at.ensures
