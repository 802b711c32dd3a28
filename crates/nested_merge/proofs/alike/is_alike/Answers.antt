use Rattle.std.proofs.Common.{◌↔◌, ◌≡◌, List, [], ◌∷◌, IsTrue, ap, sym, subst, ◌∙◌}
use Rattle.keyed_tree.specs.Data.{PlainKeyed}
use Rattle.keyed_tree.specs.View.{keyed_view}
use Rattle.archive_tree.specs.ArchiveView.{archive_view}
use Rattle.archive_tree.specs.Stands.{ArchiveOf}
use Rattle.nested_merge.specs.Alike.{AlikeAll}
use Rattle.nested_merge.specs.Fits.{all_fit}
use Rattle.nested_merge.proofs.FitsLemmas.{fits_alike}
use Rattle.nested_merge.proofs.alike.is_alike.Goals as goal

pub returns : goal.returns
returns c =
    let a = archive_view c.args.old.now in
    let k = keyed_view c.args.new.now in
    let is : c.root_fits.result ≡ all_fit a.kids (k ∷ []) = c.root_fits.ensures ∙ ap (λ z. all_fit z (k ∷ [])) c.kids.ensures.nodes in
    subst (λ z. IsTrue z ↔ ((vs : List PlainKeyed) → ArchiveOf vs a → AlikeAll vs k)) (sym is) (fits_alike a k c.args.old.now.stands)
