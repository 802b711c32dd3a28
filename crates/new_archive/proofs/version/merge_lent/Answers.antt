use Rattle.std.proofs.Common.{◌≡◌, ◌∙◌, ◌+◌, [], ◌∷◌, ◌++◌, map, sym, subst}
use Rattle.key_annotate.specs.LentView.{lent_view}
use Rattle.keyed_tree.specs.Lists.{Ascends}
use Rattle.keyed_tree.specs.Order.{label_cmp}
use Rattle.archive_tree.specs.Data.{PlainArchive}
use Rattle.archive_tree.specs.Stands.{ArchiveOf, Kept}
use Rattle.nested_merge.specs.Alike.{AlikeAll}
use Rattle.nested_merge.specs.Merged.{with_version}
use Rattle.nested_merge.proofs.ArchiveGrows.{archive_grows}
use Rattle.nested_merge.proofs.Kepts.{kept_grows}
use Rattle.new_archive.specs.ArchiveView.{new_archive_view}
use Rattle.new_archive.specs.Full.{fulls_from, full_label}
use Rattle.new_archive.specs.View.{row_view}
use Rattle.new_archive.proofs.Archives.{sealed, kids_ready, kids_ascend, version_made}
use Rattle.new_archive.proofs.Rows.{fulls_list-fulls_from}
use Rattle.new_archive.proofs.version.merge_lent.Goals as goal

pub merge_kids-requires-clause-ready : goal.merge_kids-requires-clause-ready
merge_kids-requires-clause-ready c =
    let v = c.archives_stand_for_one_list.ensures.told (sealed c.into_parts-n.result.0 (fulls_from (row_view c.into_parts-n.result.1.items))) c.into_parts-n.ensures.stands in
    kids_ready c.into_parts-n.result.0 (fulls_from (row_view c.into_parts-n.result.1.items)) v

pub merge_kids-requires-clause-rising : goal.merge_kids-requires-clause-rising
merge_kids-requires-clause-rising c =
    let v = c.archives_stand_for_one_list.ensures.told (sealed c.into_parts-n.result.0 (fulls_from (row_view c.into_parts-n.result.1.items))) c.into_parts-n.ensures.stands in
    subst (λ ks. Ascends label_cmp (map full_label ks)) (fulls_list-fulls_from (row_view c.into_parts-n.result.1.items)) (kids_ascend c.into_parts-n.result.0 (fulls_from (row_view c.into_parts-n.result.1.items)) v)

pub new-requires : goal.new-requires
new-requires c =
    let old = new_archive_view c.args.old in
    let k = lent_view c.args.new.now in
    let parts = c.into_parts-n.ensures.parts in
    let v = c.archives_stand_for_one_list.ensures.told (sealed c.into_parts-n.result.0 (fulls_from (row_view c.into_parts-n.result.1.items))) c.into_parts-n.ensures.stands in
    let alike : AlikeAll v.versions k = c.requires.alike v.versions (subst (λ (z : PlainArchive). ArchiveOf v.versions z) parts v.is) in
    let made : sealed (c.into_parts-n.result.0 + 1) (fulls_from (row_view c.merge_kids.new.row.items)) ≡ with_version old k = version_made c.into_parts-n.result.0 (row_view c.into_parts-n.result.1.items) v old k _ (row_view c.merge_kids.new.row.items) parts alike c.only.ensures c.in_ok-merge_kids.ensures in
    subst (λ (z : PlainArchive). ∥ Kept z ∥₁) (sym made) (kept_grows old k c.args.old.stands c.requires.alike c.requires.ordered c.requires.element)

pub returns-clause-archive : goal.returns-clause-archive
returns-clause-archive c = λ vs h. (
    let old = new_archive_view c.args.old in
    let k = lent_view c.args.new.now in
    let parts = c.into_parts-n.ensures.parts in
    let v = c.archives_stand_for_one_list.ensures.told (sealed c.into_parts-n.result.0 (fulls_from (row_view c.into_parts-n.result.1.items))) c.into_parts-n.ensures.stands in
    let alike : AlikeAll v.versions k = c.requires.alike v.versions (subst (λ (z : PlainArchive). ArchiveOf v.versions z) parts v.is) in
    let made : sealed (c.into_parts-n.result.0 + 1) (fulls_from (row_view c.merge_kids.new.row.items)) ≡ with_version old k = version_made c.into_parts-n.result.0 (row_view c.into_parts-n.result.1.items) v old k _ (row_view c.merge_kids.new.row.items) parts alike c.only.ensures c.in_ok-merge_kids.ensures in
    subst (λ (z : PlainArchive). ArchiveOf (vs ++ k ∷ []) z) (sym (c.new.ensures ∙ made)) (archive_grows vs old k h (c.requires.alike vs h) c.requires.ordered c.requires.element))

pub returns-clause-merged : goal.returns-clause-merged
returns-clause-merged c =
    let old = new_archive_view c.args.old in
    let k = lent_view c.args.new.now in
    let parts = c.into_parts-n.ensures.parts in
    let v = c.archives_stand_for_one_list.ensures.told (sealed c.into_parts-n.result.0 (fulls_from (row_view c.into_parts-n.result.1.items))) c.into_parts-n.ensures.stands in
    let alike : AlikeAll v.versions k = c.requires.alike v.versions (subst (λ (z : PlainArchive). ArchiveOf v.versions z) parts v.is) in
    let made : sealed (c.into_parts-n.result.0 + 1) (fulls_from (row_view c.merge_kids.new.row.items)) ≡ with_version old k = version_made c.into_parts-n.result.0 (row_view c.into_parts-n.result.1.items) v old k _ (row_view c.merge_kids.new.row.items) parts alike c.only.ensures c.in_ok-merge_kids.ensures in
    c.new.ensures ∙ made
