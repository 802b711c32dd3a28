-- How the parts of `table` and of `tablekeys` lead to their end.
use Rattle.std.proofs.Common.{◌≡◌, ◌⊎◌, inl, inr, ℕ, List, Option, Some, Result, Ok, Err, refl, sym, ap, ◌∙◌}
use Rattle.std.specs.Result.{IsErrAnd}
use Rattle.xa_outside.specs.Folder.{Files}
use Rattle.jsonml_print.specs.Printed.{document_text}
use Rattle.jsonml_tree.specs.Data.{PlainTree}
use Rattle.key_spec.specs.Canonical.{canonical}
use Rattle.csv_tables.specs.Data.{PlainTable}
use Rattle.csv_tables.specs.Keys.{table_rules}
use Rattle.xarch_words.specs.Commands.{key_names}
use Rattle.xarch_words.specs.Refusal.{Refusal, PlainFault}
use Rattle.xarch_words.specs.View.{fault_view}
use Rattle.xarch_words.specs.declared.fault.Fault.{Fault}
use Rattle.xarch_parts.specs.AllowedLaws.{passed-fault}
use Rattle.xarch_parts.specs.Archives.{free_in}
use Rattle.xarch_parts.specs.Ends.{IsDefined, fault_of}
use Rattle.xarch_parts.specs.EndLaws.{IsDefined-here, IsDefined-next, IsDefined-whatever, and_then-Ok}
use Rattle.xarch_parts.specs.Outcome.{Outcome, and_then}
use Rattle.xarch_meanings.specs.Table.{document_for, kept_as, keys_tabled, short_rules, table_input, tabled}

-- the text of a document is what is kept
kept : (x : Result PlainTree Refusal) (keep : List ℕ → Outcome) (text : List ℕ) → and_then x (λ d. Ok (document_text d)) ≡ Ok text → and_then x (λ d. Ok (keep (document_text d))) ≡ Ok (keep text)
kept (Ok d) keep text e = let same : document_text d ≡ text = cc in ap (λ (b : List ℕ). Ok (keep b)) same
kept (Err q) keep text e = absurd cc

module _ (files : Files) (csv tag keys doc : List ℕ) where
  -- a refusal before the table is judged by its keys
  pub table-refused_early : (v : PlainFault) → IsDefined (table_input files csv doc) v → IsDefined (tabled files csv tag keys doc) v
  table-refused_early v p = IsDefined-here (table_input files csv doc) (λ t. and_then (document_for tag (key_names keys) t) (λ d. Ok (kept_as files doc (document_text d)))) v p

  module _ (table : PlainTable) (input : table_input files csv doc ≡ Ok table) where
    -- it is judged by them
    pub table-refused : (v : PlainFault) → IsDefined (and_then (document_for tag (key_names keys) table) (λ d. Ok (document_text d))) v → IsDefined (tabled files csv tag keys doc) v
    table-refused v p =
        IsDefined-next (table_input files csv doc) (λ t. and_then (document_for tag (key_names keys) t) (λ d. Ok (kept_as files doc (document_text d)))) table v input
        (IsDefined-whatever (document_for tag (key_names keys) table) document_text (λ d. Ok (kept_as files doc (document_text d))) v p)

    -- its document comes
    pub table-stored : (text : List ℕ) → and_then (document_for tag (key_names keys) table) (λ d. Ok (document_text d)) ≡ Ok text → Ok (kept_as files doc text) ≡ tabled files csv tag keys doc
    table-stored text e =
        sym (and_then-Ok (table_input files csv doc) (λ t. and_then (document_for tag (key_names keys) t) (λ d. Ok (kept_as files doc (document_text d)))) table _ input
        (kept (document_for tag (key_names keys) table) (kept_as files doc) text e))

module _ (files : Files) (tag keys spec : List ℕ) where
  -- the rules are too long
  pub keys-refused : (v : PlainFault) → IsDefined (short_rules tag (key_names keys)) v → IsDefined (keys_tabled files tag keys spec) v
  keys-refused v p = IsDefined-here (short_rules tag (key_names keys)) (λ rules. and_then (free_in files spec) (λ _. Ok (kept_as files spec (canonical rules)))) v p

  module _ (short : short_rules tag (key_names keys) ≡ Ok (table_rules tag (key_names keys))) where
    -- the name has a file
    pub keys-taken : (v : PlainFault) → IsDefined (free_in files spec) v → IsDefined (keys_tabled files tag keys spec) v
    keys-taken v p =
        IsDefined-next (short_rules tag (key_names keys)) (λ rules. and_then (free_in files spec) (λ _. Ok (kept_as files spec (canonical rules)))) (table_rules tag (key_names keys)) v short
        (IsDefined-here (free_in files spec) (λ _. Ok (kept_as files spec (canonical (table_rules tag (key_names keys))))) v p)

    -- their text comes
    pub keys-stored : (text : List ℕ) → text ≡ canonical (table_rules tag (key_names keys)) → free_in files spec ≡ Ok tt → Ok (kept_as files spec text) ≡ keys_tabled files tag keys spec
    keys-stored text e free =
        ap (λ (b : List ℕ). Ok (kept_as files spec b)) e
        ∙ sym (and_then-Ok (short_rules tag (key_names keys)) (λ rules. and_then (free_in files spec) (λ _. Ok (kept_as files spec (canonical rules)))) (table_rules tag (key_names keys)) _ short
        (and_then-Ok (free_in files spec) (λ _. Ok (kept_as files spec (canonical (table_rules tag (key_names keys))))) tt _ free refl))

-- a fault that was handed on, which is one of two
pub either-passed : (r : Result Unit Fault) (f : Fault) (v w : PlainFault) → IsErrAnd r (λ g. g ≡ f) → (fault_view f ≡ v) ⊎ (fault_view f ≡ w) → (fault_of r ≡ Some v) ⊎ (fault_of r ≡ Some w)
either-passed r f v w is (inl e) = inl (passed-fault r f v is e)
either-passed r f v w is (inr e) = inr (passed-fault r f w is e)
