use Rattle.jsonml_text.proofs.document.lend_document.Goals as goal

pub returns-in-Some : goal.returns-in-Some
returns-in-Some c =
    let read = c.in-Some.ensures in
    let kept = read.kept in
    record { document = read.document; refused = tt; element = kept.element; well_formed = kept.well_formed; shallow = kept.shallow; items_fit = kept.items_fit; texts = kept.texts }
