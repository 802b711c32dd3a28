use Rattle.std.proofs.Common.{◌∙◌, [], ◌∷◌, map, ap, sym}
use Rattle.std.specs.Option.{option_map}
use Rattle.jsonml_tree.specs.LentView.{lent_tree_view}
use Rattle.keyed_tree.specs.Plain.{plain}
use Rattle.archive_tree.specs.ArchiveView.{archive_view}
use Rattle.archive_tree.specs.Read.{read_root}
use Rattle.archive_tree.specs.View.{node_view}
use Rattle.archive_rekey.specs.Index.{index_view}
use Rattle.archive_rekey.proofs.IndexLemmas.{kids-index}
use Rattle.archive_rekey.proofs.Documents.{document_below, some_below, version_below}
use Rattle.archive_rekey.proofs.lend.lend_document.Goals as goal

pub lend_root-requires-clause-index : goal.lend_root-requires-clause-index
lend_root-requires-clause-index c = kids-index (option_map (λ x. index_view x.now) c.args.index) (map node_view c.kids.result.now) (archive_view c.args.old.now).kids c.kids.ensures.nodes c.requires.index

pub unreachable-requires : goal.unreachable-requires
unreachable-requires c =
    let old = archive_view c.args.old.now in
    let i = c.args.number in
    let kept = c.archives_stand_for_one_list.ensures.told old c.args.old.now.stands in
    let read = c.in_ok-document.ensures ∙ ap (λ ks. option_map plain (read_root i (i ∷ []) ks)) c.kids.ensures.nodes in
    some_below kept.versions old i kept.is c.requires.first c.requires.last (ap (option_map lent_tree_view) (sym c.in-None.is) ∙ read)

pub returns-clause-spelled : goal.returns-clause-spelled
returns-clause-spelled c = λ vs is. (
    let old = archive_view c.args.old.now in
    let i = c.args.number in
    let read = c.in_ok-document.ensures ∙ ap (λ ks. option_map plain (read_root i (i ∷ []) ks)) c.kids.ensures.nodes in
    ap (option_map plain) (sym (version_below vs old i is c.requires.first c.requires.last)) ∙ sym read ∙ ap (option_map lent_tree_view) c.in-Some.is)

pub returns-clause-document : goal.returns-clause-document
returns-clause-document c =
    let old = archive_view c.args.old.now in
    let i = c.args.number in
    let kept = c.archives_stand_for_one_list.ensures.told old c.args.old.now.stands in
    let read = c.in_ok-document.ensures ∙ ap (λ ks. option_map plain (read_root i (i ∷ []) ks)) c.kids.ensures.nodes in
    document_below kept.versions old i _ kept.is (c.requires.documents kept.versions kept.is) c.args.old.now.well_formed c.requires.first c.requires.last (ap (option_map lent_tree_view) (sym c.in-Some.is) ∙ read)
