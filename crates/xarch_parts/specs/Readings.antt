-- What the bytes of input files are read as.
use Rattle.std.specs.Prelude.{ℕ, List, take, Option, Some, None, Result, Ok, Err}
use Rattle.jsonml_tree.specs.Data.{PlainTree}
use Rattle.jsonml_tree.specs.declared.limits.TheConstants.{GREATEST_DEPTH}
use Rattle.jsonml_text.specs.Document as document
use Rattle.keyed_tree.specs.Data.{PlainKeyed}
use Rattle.key_spec.specs.Closed.{closed}
use Rattle.key_spec.specs.Data.{PlainRule, PlainSpecFault}
use Rattle.key_rules.specs.Faults.{PlainKeyFault, first_fault}
use Rattle.key_annotate.specs.Annotated.{keyed_tree}
use Rattle.record_format.specs.Fronts.{header}
use Rattle.version_notes.specs.Parts.{parts_in}
use Rattle.version_notes.specs.declared.parts.Parts.{Parts}
use Rattle.xarch_words.specs.Refusal.{depth, Refusal, bad_spec, bad_json, bad_shape, key_fault, damaged, limit}
use Rattle.xarch_parts.specs.Outcome.{and_then, or_refuse}

-- the value, or what its fault is refused as
abbrev pub refused_as : {A E : Type 0} → (E → Refusal) → Result A E → Result A Refusal
refused_as f (Ok x) = Ok x
refused_as f (Err e) = Err (f e)

abbrev pub spec_refusal : PlainSpecFault → Refusal
spec_refusal f = bad_spec f.line f.why

-- the closed rules of a specification
unfoldable pub rules_of : List ℕ → Result (List PlainRule) Refusal
rules_of bytes = refused_as spec_refusal (closed bytes)

-- An element on a level above the greatest is refused by the limit alone, without its place.
abbrev pub doc_refusal : document.DocRefusal → Refusal
doc_refusal document.bad_json = bad_json
doc_refusal (document.bad_shape place why) = bad_shape place why
doc_refusal (document.too_deep place) = limit depth GREATEST_DEPTH

-- the tree of a document
unfoldable pub document_of : List ℕ → Result PlainTree Refusal
document_of bytes = refused_as doc_refusal (document.doc bytes)

abbrev pub unless_faulty : Option PlainKeyFault → PlainKeyed → Result PlainKeyed Refusal
unless_faulty None k = Ok k
unless_faulty (Some f) k = Err (key_fault f)

-- the keyed tree of a document that satisfies the keys
unfoldable pub keyed_of : List PlainRule → PlainTree → Result PlainKeyed Refusal
keyed_of rules t = unless_faulty (first_fault rules t) (keyed_tree rules t)

-- how many bytes of the archive of this name stand before its notes, and how many its notes have
abbrev pub parts_of : List ℕ → List ℕ → Result Parts Refusal
parts_of name bytes = or_refuse (parts_in bytes) (damaged name)

-- the bytes before the notes
abbrev pub core_in : List ℕ → List ℕ → Result (List ℕ) Refusal
core_in name bytes = and_then (parts_of name bytes) (λ parts. Ok (take parts.core bytes))

-- the rules and the number of versions that stand in front of such bytes
abbrev pub front_of_core : List ℕ → List ℕ → Result (List PlainRule × ℕ) Refusal
front_of_core name core = or_refuse (header core) (damaged name)

-- those that stand in front of the archive of this name
abbrev pub front_in : List ℕ → List ℕ → Result (List PlainRule × ℕ) Refusal
front_in name bytes = and_then (core_in name bytes) (front_of_core name)
