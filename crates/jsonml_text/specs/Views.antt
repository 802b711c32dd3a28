-- What contracts see of the faults of documents.
use Rattle.std.specs.Prelude.{Option, Some, None}
use Rattle.jsonml_tree.specs.View.{place_view}
use Rattle.jsonml_text.specs.Document.{DocRefusal, bad_json, bad_shape, too_deep}
use Rattle.jsonml_text.specs.declared.fault.DocFault.{DocFault}
use Rattle.jsonml_text.specs.declared.fault.DocFault.TheVariants.{BadJson, BadShape, TooDeep, Memory}

-- the refusal, and none for want of memory
abbrev pub refusal_of : DocFault → Option DocRefusal
refusal_of BadJson = Some bad_json
refusal_of (BadShape place why) = Some (bad_shape (place_view place) why)
refusal_of (TooDeep place) = Some (too_deep (place_view place))
refusal_of Memory = None
