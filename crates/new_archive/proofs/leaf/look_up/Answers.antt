use Rattle.std.proofs.Common.{◌≡◌, ◌∙◌, ◌++◌, Some, None, ap, subst, sym}
use Rattle.keyed_tree.specs.LentView.{lent_val_view}
use Rattle.record_parts.specs.Spelling.{value_bytes}
use Rattle.new_archive.specs.Covered.{place_at}
use Rattle.new_archive.proofs.Covers.{found_there, none_has}
use Rattle.new_archive.proofs.leaf.look_up.Goals as goal

pub returns-in-Some : goal.returns-in-Some
returns-in-Some c =
    let b = lent_val_view c.args.body in
    let es = c.args.places.now.entries in
    let bytes : c.as_slice.result.now ≡ value_bytes b = c.as_slice.ensures.value ∙ c.in-Ok.ensures.1 ∙ ap (λ z. z ++ value_bytes b) c.new-bytes.ensures.items in
    found_there b c.args.alts.now es c.in-Some.place.now c.requires c.in-Ok.ensures.0 (subst (λ z. place_at z es ≡ Some c.in-Some.place.now) bytes (sym c.in-Some.ensures.value))

pub returns-in-Ok : goal.returns-in-Ok
returns-in-Ok c =
    let b = lent_val_view c.args.body in
    let es = c.args.places.now.entries in
    let bytes : c.as_slice.result.now ≡ value_bytes b = c.as_slice.ensures.value ∙ c.in-Ok.ensures.1 ∙ ap (λ z. z ++ value_bytes b) c.new-bytes.ensures.items in
    none_has b c.args.alts.now es c.requires c.in-Ok.ensures.0 (subst (λ z. place_at z es ≡ None) bytes (sym c.in-None.ensures.value))
