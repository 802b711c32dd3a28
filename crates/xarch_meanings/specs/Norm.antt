-- What `norm` does: it writes a document in key order.
use Rattle.std.specs.Prelude.{ℕ, List, Result, Ok, ◌+◌}
use Rattle.xa_outside.specs.Folder.{Files}
use Rattle.jsonml_tree.specs.Data.{PlainTree}
use Rattle.key_spec.specs.Data.{PlainRule}
use Rattle.xarch_words.specs.Refusal.{document, specification, Refusal}
use Rattle.xarch_words.specs.declared.limits.TheConstants.{DOCUMENT, SPECIFICATION}
use Rattle.xarch_parts.specs.Inputs.{file_of, length_in, read_in}
use Rattle.keyed_print.specs.KeyedText.{keyed_text}
use Rattle.xarch_parts.specs.Outcome.{Outcome, and_then}
use Rattle.xarch_parts.specs.Readings.{rules_of, document_of, keyed_of}
use Rattle.xarch_meanings.specs.Meaning.{Meaning, computed, only_reads}

-- The refusals stand in the order in which they are tried: the lengths of both files, then the specification, the
-- document, and the keys.
abbrev pub norm_of : Files → List ℕ → List ℕ → Result Outcome Refusal
norm_of files spec doc =
    and_then (length_in files spec specification SPECIFICATION) (λ _.
    and_then (length_in files doc document DOCUMENT) (λ _.
    and_then (read_in files spec rules_of) (λ rules.
    and_then (read_in files doc document_of) (λ t.
    and_then (keyed_of rules t) (λ k.
    Ok (record { files = files; output = keyed_text k }))))))

-- the specification that closes and the bytes of the document, or the first refusal before these are looked at
abbrev pub norm_input : Files → List ℕ → List ℕ → Result (List PlainRule × List ℕ) Refusal
norm_input files spec doc =
    and_then (length_in files spec specification SPECIFICATION) (λ _.
    and_then (length_in files doc document DOCUMENT) (λ _.
    and_then (read_in files spec rules_of) (λ rules.
    and_then (file_of files doc) (λ bytes.
    Ok (rules, bytes)))))

-- what comes of the tree of the document under these rules, and of its bytes
abbrev pub norm_of_tree : Files → List PlainRule → PlainTree → Result Outcome Refusal
norm_of_tree files rules t = and_then (keyed_of rules t) (λ k. Ok (record { files = files; output = keyed_text k }))

abbrev pub norm_from : Files → List PlainRule → List ℕ → Result Outcome Refusal
norm_from files rules bytes = and_then (document_of bytes) (λ t. norm_of_tree files rules t)

-- ---- all that is said of it

abbrev pub norm_meaning : List ℕ → List ℕ → Meaning
norm_meaning spec doc = record (computed only_reads (λ files. norm_of files spec doc)) { most = λ told. SPECIFICATION + DOCUMENT }
