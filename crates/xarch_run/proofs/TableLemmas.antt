-- What `table` and `tablekeys` leave.
use Rattle.std.proofs.Common.{◌≡◌, ◌↔◌, ℕ, Bool, true, false, if◌then◌else◌, List, length, nat_le, Option, Some, None, Result, Ok, Err, IsUtf8, refl, sym, ap, ◌∙◌, subst}
use Rattle.std.specs.FinMap as finite
use Rattle.std.specs.List.{AllByRecursion, list_all}
use Rattle.std.proofs.lemmas.Bool.{leb-true}
use Rattle.xa_outside.specs.Folder.{Files}
use Rattle.jsonml_print.specs.Printed.{document_text}
use Rattle.jsonml_text.specs.Document.{doc}
use Rattle.jsonml_tree.specs.Data.{PlainTree}
use Rattle.key_annotate.specs.Annotated.{keyed_tree}
use Rattle.key_rules.specs.Faults.{PlainKeyFault, first_fault}
use Rattle.key_rules.specs.Satisfies.{Satisfies}
use Rattle.key_spec.specs.Canonical.{canonical}
use Rattle.key_spec.specs.Data.{PlainRule}
use Rattle.keyed_tree.specs.Data.{PlainKeyed}
use Rattle.csv_tables.specs.Data.{PlainTable}
use Rattle.csv_tables.specs.Documents.{table_tree}
use Rattle.csv_tables.specs.Keys.{AreApart, IsFaultlessByItsKeys, SatisfiesItsKeys, table_rules}
use Rattle.csv_tables.specs.Laws.{KeysReadBack, ReadsRegular, TableReadsBack}
use Rattle.csv_tables.specs.Records.{IsRegular, has_field, table_of}
use Rattle.xarch_words.specs.Commands.{AreForTable, key_names, table, tablekeys}
use Rattle.xarch_words.specs.Refusal.{Refusal, bad_csv, document, key_fault, limit, specification}
use Rattle.xarch_words.specs.declared.limits.TheConstants.{DOCUMENT, SPECIFICATION}
use Rattle.xarch_parts.specs.Archives.{free_in}
use Rattle.xarch_parts.specs.Inputs.{file_of, length_in, read_in}
use Rattle.xarch_parts.specs.Outcome.{Outcome, Step, and_then, step_from}
use Rattle.xarch_parts.specs.Readings.{document_of, doc_refusal, keyed_of, refused_as, rules_of, spec_refusal, unless_faulty}
use Rattle.xarch_meanings.specs.KeyLaws.{spelled-keys}
use Rattle.xarch_meanings.specs.PlausibleLaws.{no-late, plain-step}
use Rattle.xarch_meanings.specs.Table.{document_for, having, kept_as, keys_tabled, rows_of, short_document, short_rules, table_input, table_refusal, tabled}
use Rattle.xarch_run.specs.Calls.{CommandMay}
use Rattle.xarch_run.specs.Tabled.{HasDocument, HasKeys, IsForKeys}
use Rattle.xarch_run.proofs.OneFile.{chained, new-there}
use Rattle.xarch_run.proofs.Statuses.{status-other}

-- ---- the steps are defined

pub table-step : (files : Files) (csv tag keys doc : List ℕ) (s : Step) → CommandMay files (Some (table csv tag keys doc)) s → s ≡ step_from files (tabled files csv tag keys doc)
table-step files csv tag keys doc s m = plain-step files (Some (table csv tag keys doc)) s m (no-late files (Some (table csv tag keys doc)) m.outcome (λ q late. late)) ∙ ap (step_from files) m.may

pub keys-step : (files : Files) (tag keys spec : List ℕ) (s : Step) → CommandMay files (Some (tablekeys tag keys spec)) s → s ≡ step_from files (keys_tabled files tag keys spec)
keys-step files tag keys spec s m = plain-step files (Some (tablekeys tag keys spec)) s m (no-late files (Some (tablekeys tag keys spec)) m.outcome (λ q late. late)) ∙ ap (step_from files) m.may

-- a step that answers 0 is that of an outcome that is not refused
succeeded : {X : Type 0} (files : Files) (s : Step) (r : Result Outcome Refusal) → s ≡ step_from files r → s.status ≡ 0 → ((o : Outcome) → r ≡ Ok o → s.files ≡ o.files → X) → X
succeeded files s (Ok o) is zero f = f o refl (ap (λ (z : Step). z.files) is)
succeeded files s (Err q) is zero f = absurd (status-other q (sym (ap (λ (z : Step). z.status) is) ∙ zero))

-- ---- what stands against a document

when : {A : Type 0} (b : Bool) (x y : A) (q : Refusal) → ◌≡◌ {A = Result A Refusal} (if b then Ok x else Err q) (Ok y) → (b ≡ true) × (x ≡ y)
when true x y q e = (refl, cc)
when false x y q e = absurd cc

unfaulted : (f : Option PlainKeyFault) (k j : PlainKeyed) → unless_faulty f k ≡ Ok j → f ≡ None
unfaulted None k j e = refl
unfaulted (Some f) k j e = absurd cc

-- the document of a table, and what is known of it where nothing stands against it
record Documented (tag : List ℕ) (keys : List (List ℕ)) (t : PlainTable) (d : PlainTree) : Type 0 where
  is : d ≡ table_tree t tag
  columns : list_all (has_field t.heading) keys ≡ true
  faultless : first_fault (table_rules tag keys) (table_tree t tag) ≡ None

documented : (tag : List ℕ) (keys : List (List ℕ)) (t : PlainTable) (d : PlainTree) → document_for tag keys t ≡ Ok d → Documented tag keys t d
unfolding document_for keyed_of
documented tag keys t d e =
    chained (having keys t) _ d e (λ h e1 f1.
    chained (short_document tag t) _ d f1 (λ doc e2 f2.
    chained (short_rules tag keys) _ d f2 (λ rules e3 f3.
    chained (keyed_of rules doc) _ d f3 (λ k e4 f4.
    let doc_is : table_tree t tag ≡ doc = (when (nat_le (length (document_text (table_tree t tag))) DOCUMENT) (table_tree t tag) doc (limit document DOCUMENT) e2).1 in
    let rules_are : table_rules tag keys ≡ rules = (when (nat_le (length (canonical (table_rules tag keys))) SPECIFICATION) (table_rules tag keys) rules (limit specification SPECIFICATION) e3).1 in
    let same : doc ≡ d = ok-same doc d f4 in
    record {
      is = sym same ∙ sym doc_is;
      columns = (when (list_all (has_field t.heading) keys) t h (bad_csv 1 5) e1).0;
      faultless = subst (λ (r : List PlainRule). first_fault r (table_tree t tag) ≡ None) (sym rules_are) (subst (λ (u : PlainTree). first_fault rules u ≡ None) (sym doc_is) (unfaulted (first_fault rules doc) (keyed_tree rules doc) k e4));
    }))))
  where
    ok-same : (x y : PlainTree) → ◌≡◌ {A = Result PlainTree Refusal} (Ok x) (Ok y) → x ≡ y
    ok-same x y e = cc

refused-ok : {A E : Type 0} (f : E → Refusal) (x : Result A E) (a : A) → refused_as f x ≡ Ok a → x ≡ Ok a
refused-ok f (Ok b) a e = (let same : b ≡ a = cc in ap (λ c. Ok c) same)
refused-ok f (Err q) a e = absurd cc

-- the table of the bytes of a file
rows-read : (files : Files) (csv : List ℕ) (t : PlainTable) → read_in files csv rows_of ≡ Ok t → (bytes : List ℕ) × (table_of bytes ≡ Ok t)
unfolding rows_of
rows-read files csv t e = chained (file_of files csv) rows_of t e (λ bytes _ f. (bytes, refused-ok table_refusal (table_of bytes) t f))

input-read : (files : Files) (csv doc : List ℕ) (t : PlainTable) → table_input files csv doc ≡ Ok t → read_in files csv rows_of ≡ Ok t
input-read files csv doc t e = chained (length_in files csv document DOCUMENT) _ t e (λ _ _ f. chained (free_in files doc) _ t f (λ _ _ g. g))

module _ (regular : (bytes : List ℕ) (t : PlainTable) → ReadsRegular bytes t)
    (reads : (bytes : List ℕ) (t : PlainTable) (tag : List ℕ) → TableReadsBack bytes t tag)
    (specifies : (tag : List ℕ) (keys : List (List ℕ)) → KeysReadBack tag keys)
    (satisfies : (t : PlainTable) (tag : List ℕ) (keys : List (List ℕ)) → SatisfiesItsKeys t tag keys)
    (faultless : (t : PlainTable) (tag : List ℕ) (keys : List (List ℕ)) → IsFaultlessByItsKeys t tag keys) where
  document-reads : (bytes tag : List ℕ) (t : PlainTable) → table_of bytes ≡ Ok t → IsUtf8 tag → document_of (document_text (table_tree t tag)) ≡ Ok (table_tree t tag)
  unfolding document_of
  document-reads bytes tag t e utf8 = ap (refused_as doc_refusal) (reads bytes t tag e utf8)

  pub table-made : (files : Files) (csv tag keys doc : List ℕ) (s : Step) → CommandMay files (Some (table csv tag keys doc)) s → s.status ≡ 0 → IsUtf8 tag → HasDocument files csv tag keys doc s.files
  table-made files csv tag keys doc s m zero utf8 =
      succeeded files s (tabled files csv tag keys doc) (table-step files csv tag keys doc s m) zero (λ o e left.
      chained (table_input files csv doc) _ o e (λ t input e1.
      chained (document_for tag (key_names keys) t) _ o e1 (λ d for e2.
      let known = documented tag (key_names keys) t d for in
      let read = input-read files csv doc t input in
      let rows = rows-read files csv t read in
      let kept : kept_as files doc (document_text d) ≡ o = ok-kept (kept_as files doc (document_text d)) o e2 in
      record {
        table = t;
        read = read;
        there = ap (λ (x : Files). finite.get x doc) (left ∙ sym (ap (λ (p : Outcome). p.files) kept)) ∙ new-there files doc (document_text d) ∙ ap (λ (u : PlainTree). Some (document_text u)) known.is;
        reads = document-reads rows.0 tag t rows.1 utf8;
        satisfies = (faultless t tag (key_names keys)).0 known.faultless;
      })))
    where
      ok-kept : (x y : Outcome) → ◌≡◌ {A = Result Outcome Refusal} (Ok x) (Ok y) → x ≡ y
      ok-kept x y e = cc

  -- ---- exactly where rows are apart

  regular-table : (files : Files) (csv : List ℕ) (t : PlainTable) → read_in files csv rows_of ≡ Ok t → IsRegular t
  regular-table files csv t e = (let rows = rows-read files csv t e in regular rows.0 t rows.1)

  -- the outcome where nothing stands against the document but that rows may agree
  pub tabled-by : (files : Files) (csv tag keys doc : List ℕ) (t : PlainTable) (f : Option PlainKeyFault) → IsForKeys files csv tag keys doc t → first_fault (table_rules tag (key_names keys)) (table_tree t tag) ≡ f
      → tabled files csv tag keys doc ≡ and_then (unless_faulty f (keyed_tree (table_rules tag (key_names keys)) (table_tree t tag))) (λ _. Ok (kept_as files doc (document_text (table_tree t tag))))
  unfolding document_for keyed_of
  tabled-by files csv tag keys doc t f for fault =
      ap (λ x. and_then x (λ u. and_then (document_for tag (key_names keys) u) (λ d. Ok (kept_as files doc (document_text d))))) for.read
      ∙ ap (λ x. and_then (and_then x (λ _. and_then (short_document tag t) (λ d. and_then (short_rules tag (key_names keys)) (λ rules. and_then (keyed_of rules d) (λ _. Ok d))))) (λ d. Ok (kept_as files doc (document_text d)))) for.columns
      ∙ ap (λ x. and_then (and_then x (λ d. and_then (short_rules tag (key_names keys)) (λ rules. and_then (keyed_of rules d) (λ _. Ok d)))) (λ d. Ok (kept_as files doc (document_text d)))) for.short
      ∙ ap (λ x. and_then (and_then x (λ rules. and_then (keyed_of rules (table_tree t tag)) (λ _. Ok (table_tree t tag)))) (λ d. Ok (kept_as files doc (document_text d)))) for.specified
      ∙ ap (λ o. and_then (and_then (unless_faulty o (keyed_tree (table_rules tag (key_names keys)) (table_tree t tag))) (λ _. Ok (table_tree t tag))) (λ d. Ok (kept_as files doc (document_text d)))) fault
      ∙ by_fault f
    where
      by_fault : (g : Option PlainKeyFault) → and_then (and_then (unless_faulty g (keyed_tree (table_rules tag (key_names keys)) (table_tree t tag))) (λ _. Ok (table_tree t tag))) (λ d. Ok (kept_as files doc (document_text d)))
          ≡ and_then (unless_faulty g (keyed_tree (table_rules tag (key_names keys)) (table_tree t tag))) (λ _. Ok (kept_as files doc (document_text (table_tree t tag))))
      by_fault None = refl
      by_fault (Some g) = refl

  pub table-apart : (files : Files) (csv tag keys doc : List ℕ) (t : PlainTable) (s : Step) → CommandMay files (Some (table csv tag keys doc)) s → IsForKeys files csv tag keys doc t → (s.status ≡ 0) ↔ AreApart t (key_names keys)
  table-apart files csv tag keys doc t s m for = by_fault (first_fault (table_rules tag (key_names keys)) (table_tree t tag)) refl
    where
      fault-none : (f : PlainKeyFault) → ◌≡◌ {A = Option PlainKeyFault} (Some f) None → ⊥
      fault-none f e = cc

      has : list_all (has_field t.heading) (key_names keys) ≡ true
      has = (when (list_all (has_field t.heading) (key_names keys)) t t (bad_csv 1 5) for.columns).0

      apart : Satisfies (table_rules tag (key_names keys)) (table_tree t tag) ↔ AreApart t (key_names keys)
      apart = satisfies t tag (key_names keys) (regular-table files csv t (input-read files csv doc t for.read)) has

      by_fault : (f : Option PlainKeyFault) → first_fault (table_rules tag (key_names keys)) (table_tree t tag) ≡ f → (s.status ≡ 0) ↔ AreApart t (key_names keys)
      by_fault None e =
          let is = table-step files csv tag keys doc s m ∙ ap (step_from files) (tabled-by files csv tag keys doc t None for e) in
          (λ _. apart.0 ((faultless t tag (key_names keys)).0 e), λ _. ap (λ (z : Step). z.status) is)
      by_fault (Some f) e =
          let is = table-step files csv tag keys doc s m ∙ ap (step_from files) (tabled-by files csv tag keys doc t (Some f) for e) in (
            λ zero. absurd (status-other (key_fault f) (sym (ap (λ (z : Step). z.status) is) ∙ zero)),
            λ all. absurd (fault-none f (sym e ∙ (faultless t tag (key_names keys)).1 (apart.1 all))),
          )

  -- ---- the specification

  pub keys-made : (files : Files) (tag keys spec : List ℕ) (s : Step) → CommandMay files (Some (tablekeys tag keys spec)) s → s.status ≡ 0 → AreForTable tag keys → IsUtf8 tag → AllByRecursion IsUtf8 (key_names keys) → HasKeys tag keys spec s.files
  unfolding rules_of
  keys-made files tag keys spec s m zero for utf8 each =
      succeeded files s (keys_tabled files tag keys spec) (keys-step files tag keys spec s m) zero (λ o e left.
      chained (short_rules tag (key_names keys)) _ o e (λ rules short e1.
      chained (free_in files spec) _ o e1 (λ _ _ e2.
      let known = when (nat_le (length (canonical (table_rules tag (key_names keys)))) SPECIFICATION) (table_rules tag (key_names keys)) rules (limit specification SPECIFICATION) short in
      let kept : kept_as files spec (canonical rules) ≡ o = ok-kept (kept_as files spec (canonical rules)) o e2 in
      record {
        there = ap (λ (x : Files). finite.get x spec) (left ∙ sym (ap (λ (p : Outcome). p.files) kept)) ∙ new-there files spec (canonical rules) ∙ ap (λ (r : List PlainRule). Some (canonical r)) (sym known.1);
        reads = ap (refused_as spec_refusal) (specifies tag (key_names keys) for.named (spelled-keys keys for.keyed) utf8 each (leb-true (length (canonical (table_rules tag (key_names keys)))) SPECIFICATION known.0));
      })))
    where
      ok-kept : (x y : Outcome) → ◌≡◌ {A = Result Outcome Refusal} (Ok x) (Ok y) → x ≡ y
      ok-kept x y e = cc
