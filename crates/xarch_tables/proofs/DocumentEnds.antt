-- How the parts of a document's making lead to its end.
use Rattle.std.proofs.Common.{◌≡◌, ℕ, ◌<◌, ◌≤◌, Bool, true, false, nat_le, List, length, Some, None, Result, Ok, Err, if◌then◌else◌, refl, sym, ap, ◌∙◌, subst, arith}
use Rattle.std.specs.List.{list_all}
use Rattle.std.proofs.lemmas.Bool.{cond-false, cond-true, le-leb, lt-leb}
use Rattle.jsonml_print.specs.Printed.{document_text}
use Rattle.jsonml_tree.specs.Data.{PlainTree}
use Rattle.key_annotate.specs.Annotated.{keyed_tree}
use Rattle.key_rules.specs.Faults.{PlainKeyFault, first_fault}
use Rattle.key_spec.specs.Canonical.{canonical}
use Rattle.key_spec.specs.Data.{PlainRule}
use Rattle.csv_tables.specs.Data.{PlainTable}
use Rattle.csv_tables.specs.Documents.{table_tree}
use Rattle.csv_tables.specs.Keys.{table_rules, AreApart, IsFaultlessByItsKeys, SatisfiesItsKeys}
use Rattle.csv_tables.specs.Lengths.{at_most as capped}
use Rattle.csv_tables.specs.Records.{has_field, IsRegular}
use Rattle.xarch_words.specs.Refusal.{Refusal, document, specification, key_fault, limit, PlainFault}
use Rattle.xarch_words.specs.declared.limits.TheConstants.{DOCUMENT, SPECIFICATION}
use Rattle.xarch_parts.specs.Ends.{IsDefined}
use Rattle.xarch_parts.specs.EndLaws.{IsDefined-here, IsDefined-next, and_then-Ok}
use Rattle.xarch_parts.specs.Inputs.{at_most}
use Rattle.xarch_parts.specs.Outcome.{and_then}
use Rattle.xarch_parts.specs.Readings.{keyed_of, unless_faulty}
use Rattle.xarch_meanings.specs.Table.{document_for, having, short_document, short_rules}
use Rattle.xarch_tables.specs.Rows.{keyed_doc}

-- ---- the judgements one by one

-- what is short enough, by its length up to the greatest number
pub short-document : (tag : List ℕ) (table : PlainTable) (n : ℕ) → n ≡ capped (length (document_text (table_tree table tag))) → n ≤ DOCUMENT → short_document tag table ≡ Ok (table_tree table tag)
short-document tag table n e fits = let l = length (document_text (table_tree table tag)) in cond-true (nat_le l DOCUMENT) _ _ (le-leb l DOCUMENT (omega (arith, e, fits)))

pub long-document : (tag : List ℕ) (table : PlainTable) (n : ℕ) → n ≡ capped (length (document_text (table_tree table tag))) → DOCUMENT < n → short_document tag table ≡ Err (limit document DOCUMENT)
long-document tag table n e over = let l = length (document_text (table_tree table tag)) in cond-false (nat_le l DOCUMENT) _ _ (lt-leb l DOCUMENT (omega (arith, e, over)))

by_length : {A : Type 0} (b : Bool) (n : ℕ) (x : A) (q : Refusal) → (if b then Ok x else Err q) ≡ and_then (if b then Ok n else Err q) (λ _. Ok x)
by_length true n x q = refl
by_length false n x q = refl

-- the rules, by the length of their text
module _ (tag : List ℕ) (keys : List (List ℕ)) where
  by_text : short_rules tag keys ≡ and_then (at_most specification SPECIFICATION (length (canonical (table_rules tag keys)))) (λ _. Ok (table_rules tag keys))
  by_text = let n = length (canonical (table_rules tag keys)) in by_length (nat_le n SPECIFICATION) n (table_rules tag keys) (limit specification SPECIFICATION)

  pub rules-long : (n : ℕ) → n ≡ length (canonical (table_rules tag keys)) → (v : PlainFault) → IsDefined (at_most specification SPECIFICATION n) v → IsDefined (short_rules tag keys) v
  rules-long n e v p = subst (λ x. IsDefined x v) (sym by_text) (IsDefined-here _ (λ _. Ok (table_rules tag keys)) v (subst (λ m. IsDefined (at_most specification SPECIFICATION m) v) e p))

  pub rules-short : (n m : ℕ) → n ≡ length (canonical (table_rules tag keys)) → at_most specification SPECIFICATION n ≡ Ok m → short_rules tag keys ≡ Ok (table_rules tag keys)
  rules-short n m e p = by_text ∙ ap (λ x. and_then x (λ _. Ok (table_rules tag keys))) (ap (at_most specification SPECIFICATION) (sym e) ∙ p)

-- no fault is found
pub keyed-good : (rules : List PlainRule) (t : PlainTree) → first_fault rules t ≡ None → keyed_doc rules t ≡ Ok t
unfolding keyed_of
keyed-good rules t e = ap (λ f. and_then (unless_faulty f (keyed_tree rules t)) (λ _. Ok t)) e

pub keyed-bad : (rules : List PlainRule) (t : PlainTree) (f : PlainKeyFault) → first_fault rules t ≡ Some f → keyed_doc rules t ≡ Err (key_fault f)
unfolding keyed_of
keyed-bad rules t f e = ap (λ g. and_then (unless_faulty g (keyed_tree rules t)) (λ _. Ok t)) e

-- rows that are told apart make a document that satisfies its keys
pub keyed-apart : (table : PlainTable) (tag : List ℕ) (keys : List (List ℕ)) (rules : List PlainRule) → SatisfiesItsKeys table tag keys → IsFaultlessByItsKeys table tag keys → rules ≡ table_rules tag keys → IsRegular table
    → list_all (has_field table.heading) keys ≡ true → AreApart table keys → keyed_doc rules (table_tree table tag) ≡ Ok (table_tree table tag)
keyed-apart table tag keys rules satisfies faultless e regular columns apart =
    keyed-good rules (table_tree table tag) (ap (λ rs. first_fault rs (table_tree table tag)) e ∙ faultless.1 ((satisfies regular columns).1 apart))

-- ---- one after the other

module _ (tag : List ℕ) (keys : List (List ℕ)) (table : PlainTable) where
  abbrev rest : PlainTree → Result PlainTree Refusal
  rest doc = and_then (short_rules tag keys) (λ rules. keyed_doc rules doc)

  abbrev text : Result PlainTree Refusal → Result (List ℕ) Refusal
  text x = and_then x (λ doc. Ok (document_text doc))

  -- a key is no column
  pub no-column : (v : PlainFault) → IsDefined (having keys table) v → IsDefined (text (document_for tag keys table)) v
  unfolding document_for
  no-column v p = IsDefined-here _ _ v (IsDefined-here (having keys table) (λ _. and_then (short_document tag table) rest) v p)

  module _ (columns : having keys table ≡ Ok table) where
    -- the document is too long
    pub too-long : (v : PlainFault) → IsDefined (short_document tag table) v → IsDefined (text (document_for tag keys table)) v
    unfolding document_for
    too-long v p =
        IsDefined-here _ _ v (IsDefined-next (having keys table) (λ _. and_then (short_document tag table) rest) table v columns (IsDefined-here (short_document tag table) rest v p))

    module _ (short : short_document tag table ≡ Ok (table_tree table tag)) where
      so_far : (v : PlainFault) → IsDefined (rest (table_tree table tag)) v → IsDefined (text (document_for tag keys table)) v
      unfolding document_for
      so_far v p =
          IsDefined-here _ _ v (IsDefined-next (having keys table) (λ _. and_then (short_document tag table) rest) table v columns (IsDefined-next (short_document tag table) rest (table_tree table tag) v short p))

      -- the rules are too long
      pub long-rules : (v : PlainFault) → IsDefined (short_rules tag keys) v → IsDefined (text (document_for tag keys table)) v
      long-rules v p = so_far v (IsDefined-here (short_rules tag keys) (λ rules. keyed_doc rules (table_tree table tag)) v p)

      module _ (rules : List PlainRule) (given : short_rules tag keys ≡ Ok rules) where
        -- the document does not satisfy them, or memory ran out when this was judged
        pub badly-keyed : (v : PlainFault) → IsDefined (keyed_doc rules (table_tree table tag)) v → IsDefined (text (document_for tag keys table)) v
        badly-keyed v p = so_far v (IsDefined-next (short_rules tag keys) (λ rs. keyed_doc rs (table_tree table tag)) rules v given p)

        -- it does
        pub well-keyed : keyed_doc rules (table_tree table tag) ≡ Ok (table_tree table tag) → text (document_for tag keys table) ≡ Ok (document_text (table_tree table tag))
        unfolding document_for
        well-keyed keyed =
            ap text (and_then-Ok (having keys table) (λ _. and_then (short_document tag table) rest) table _ columns (and_then-Ok (short_document tag table) rest (table_tree table tag) _ short
            (and_then-Ok (short_rules tag keys) (λ rs. keyed_doc rs (table_tree table tag)) rules _ given keyed)))
