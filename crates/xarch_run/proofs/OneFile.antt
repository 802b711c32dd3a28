-- A command changes at most the file that it names.
use Rattle.std.proofs.Common.{◌≡◌, ◌≢◌, inl, inr, ℕ, Bool, true, false, cond, List, [], length, Some, None, Result, Ok, Err, refl, sym, ap, ◌∙◌}
use Rattle.std.specs.FinMap as finite
use Rattle.std.specs.Option.{option_map_or}
use Rattle.std.specs.Str.{bytes_eq}
use Rattle.std.proofs.lemmas.Cmp.{nat_list_cmp_total}
use Rattle.std.proofs.lemmas.Map.Text.{is_eq-slice_cmp}
use Rattle.std.proofs.lemmas.Slice.Eq.{bytes_eq-Decides}
use Rattle.xa_outside.specs.Folder.{Files}
use Rattle.key_spec.specs.Data.{PlainRule}
use Rattle.jsonml_print.specs.Printed.{document_text}
use Rattle.key_spec.specs.Canonical.{canonical}
use Rattle.csv_tables.specs.Data.{PlainTable}
use Rattle.keyed_tree.specs.Data.{PlainKeyed}
use Rattle.record_format.specs.declared.limits.TheConstants.{LONGEST}
use Rattle.xarch_gen.specs.Company.{company_rules}
use Rattle.xarch_words.specs.Commands.{PlainCommand, norm, init, add, rekey, get, history, log, check, stats, versions, export, import, cut, join, table, tablekeys, batch, demo, key_names}
use Rattle.xarch_words.specs.Refusal.{document, specification, Refusal, usage, no_file, exists, bad_text, key_fault_in, damaged, limit}
use Rattle.xarch_words.specs.Refusal as refusal
use Rattle.xarch_words.specs.declared.limits.TheConstants.{DOCUMENT, SPECIFICATION, TEXT}
use Rattle.archive_file.specs.Sound.{SoundAs}
use Rattle.noted_file.specs.Contents.{Contents, unnoted, with_keys}
use Rattle.noted_file.specs.Full.{FullAs}
use Rattle.xarch_parts.specs.Archives.{ArchiveIs, GoesOn, Stores, free_in, short_note}
use Rattle.xarch_meanings.specs.Add.{add_input, AddsTo, MayAdd}
use Rattle.xarch_meanings.specs.Check.{IsFound, check_text}
use Rattle.xarch_meanings.specs.Table.{document_for, kept_as, keys_tabled, rows_of, short_rules, table_input, tabled}
use Rattle.xarch_meanings.specs.Export.{ExportsFrom}
use Rattle.xarch_meanings.specs.Demo.{MakesOrNone, demo_input, samples}
use Rattle.xarch_meanings.specs.Import.{ImportsFrom, import_text}
use Rattle.xarch_meanings.specs.Init.{init_rules}
use Rattle.xarch_parts.specs.Inputs.{file_length, file_of, length_in, read_in}
use Rattle.xarch_meanings.specs.Cut.{are_versions, cut_input}
use Rattle.xarch_meanings.specs.Norm.{norm_of}
use Rattle.xarch_parts.specs.Outcome.{Outcome, and_then, or_refuse}
use Rattle.xarch_meanings.specs.Rekey.{RekeysFrom, RekeysTo, rekey_rules}
use Rattle.xarch_meanings.specs.Over.{DamagedOrSound, MayMake, MayOver, MayWrite}
use Rattle.xarch_meanings.specs.Meanings.{made_name, MayBe}
use Rattle.xarch_meanings.specs.Join.{join_input, MayJoin}
use Rattle.xarch_meanings.specs.Get.{get_input}
use Rattle.xarch_meanings.specs.History.{history_input}
use Rattle.xarch_meanings.specs.Log.{log_input}
use Rattle.xarch_meanings.specs.Stats.{stats_input}
use Rattle.xarch_meanings.specs.Versions.{versions_input}
use Rattle.xarch_parts.specs.Readings.{document_of, front_in, keyed_of, rules_of}

-- ---- files by name

-- a new file is there
pub new-there : (files : Files) (name bytes : List ℕ) → finite.get (finite.insert files name bytes) name ≡ Some bytes
new-there files name bytes =
    finite.get-insert nat_list_cmp_total files name bytes name ∙ ap (λ b. cond b (Some bytes) (finite.get files name)) (is_eq-slice_cmp name name ∙ (bytes_eq-Decides name name).1 refl)

-- and every other name is as it was
elsewhere : (files : Files) (other name bytes : List ℕ) → bytes_eq name other ≡ false → finite.get (finite.insert files other bytes) name ≡ finite.get files name
elsewhere files other name bytes e =
    finite.get-insert nat_list_cmp_total files other bytes name ∙ ap (λ b. cond b (Some bytes) (finite.get files name)) (is_eq-slice_cmp name other ∙ e)

pub same-name : (xs ys : List ℕ) → bytes_eq xs ys ≡ true → xs ≡ ys
same-name xs ys e = (bytes_eq-Decides xs ys).0 e

pub other-name : (xs ys : List ℕ) → bytes_eq xs ys ≡ false → xs ≢ ys
other-name xs ys e = λ same. (let yes : bytes_eq xs ys ≡ true = (bytes_eq-Decides xs ys).1 same in cc)

-- ---- outcomes

given : (o p : Outcome) (r : Result Outcome Refusal) → r ≡ Ok o → r ≡ Ok p → o ≡ p
given o p r e f = cc

pub never : {X : Type 0} (o : Outcome) (q : Refusal) (r : Result Outcome Refusal) → r ≡ Ok o → r ≡ Err q → X
never o q r e f = absurd cc

-- a chain that goes on has every value
pub goes : {X A : Type 0} (o : Outcome) (x : Result A Refusal) (P : A → Result Outcome Refusal → Type 0) (r : Result Outcome Refusal) → r ≡ Ok o → GoesOn x P r → ((a : A) → x ≡ Ok a → P a r → X) → X
goes o (Ok a) P r e h f = f a refl h
goes o (Err q) P r e h f = never o q r e h

-- ---- a command changes at most the file that it names

-- the command makes or adds to the archive of this name
abbrev pub is_for : List ℕ → PlainCommand → Bool
is_for name command = option_map_or (bytes_eq name) (made_name command) false

kept-by : (files : Files) (o : Outcome) (r : Result Outcome Refusal) (out : List ℕ) → r ≡ Ok o → r ≡ Ok (record { files = files; output = out }) → o.files ≡ files
kept-by files o r out e f = ap (λ (p : Outcome). p.files) (given o (record { files = files; output = out }) r e f)

chain-keeps : {A : Type 0} (files : Files) (o : Outcome) (x : Result A Refusal) (f : A → Result Outcome Refusal) → and_then x f ≡ Ok o → ((a : A) → f a ≡ Ok o → o.files ≡ files) → o.files ≡ files
chain-keeps files o (Ok a) f e h = h a e
chain-keeps files o (Err q) f e h = absurd cc

norm-keeps : (files : Files) (spec doc : List ℕ) (o : Outcome) → norm_of files spec doc ≡ Ok o → o.files ≡ files
norm-keeps files spec doc o e =
    chain-keeps files o (length_in files spec specification SPECIFICATION) _ e (λ _ e1.
    chain-keeps files o (length_in files doc document DOCUMENT) _ e1 (λ _ e2.
    chain-keeps files o (read_in files spec rules_of) _ e2 (λ rules e3.
    chain-keeps files o (read_in files doc document_of) _ e3 (λ t e4.
    chain-keeps files o (keyed_of rules t) _ e4 (λ k e5. kept-by files o (Ok o) _ refl (sym e5))))))

module _ (files : Files) (name : List ℕ) (o : Outcome) where
  abbrev Keeps : Type 0
  Keeps = finite.get o.files name ≡ finite.get files name

  same-files : o.files ≡ files → Keeps
  same-files e = ap (λ (f : Files). finite.get f name) e

  module _ (r : Result Outcome Refusal) (is : r ≡ Ok o) where
    stored-elsewhere : (other bytes out : List ℕ) → bytes_eq name other ≡ false → r ≡ Ok (record { files = finite.insert files other bytes; output = out }) → Keeps
    stored-elsewhere other bytes out e f = ap (λ (x : Files). finite.get x name) (kept-by (finite.insert files other bytes) o r out is f) ∙ elsewhere files other name bytes e

    write-keeps : (other : List ℕ) → MayWrite files other r → Keeps
    write-keeps other (inl q) = never o (damaged other) r is q
    write-keeps other (inr w) = same-files (kept-by files o r w.output is w.is)

    -- over a sound archive its text is written
    export-keeps : (other : List ℕ) → ((c : Contents) → ArchiveIs files other c → ExportsFrom files c r) → DamagedOrSound files other r → Keeps
    export-keeps other sound (inl q) = never o (damaged other) r is q
    export-keeps other sound (inr a) = let w = sound a.contents a.archive in same-files (kept-by files o r w.text is w.is)

    judge-keeps : (other bytes : List ℕ) → IsFound files other bytes r → Keeps
    judge-keeps other bytes (inl p) = same-files (kept-by files o r (check_text (length p.full.contents.versions)) is p.is)
    judge-keeps other bytes (inr p) = never o (damaged other) r is p.is

    make-elsewhere : (other new : List ℕ) → bytes_eq name new ≡ false → MayMake files other new r → Keeps
    make-elsewhere other new e (inl q) = never o (damaged other) r is q
    make-elsewhere other new e (inr (inl q)) = never o (limit refusal.archive LONGEST) r is q
    make-elsewhere other new e (inr (inr w)) = stored-elsewhere new w.bytes [] e w.is

    join-elsewhere : (one two new : List ℕ) → bytes_eq name new ≡ false → MayJoin files one two new r → Keeps
    join-elsewhere one two new e (inl q) = never o (damaged one) r is q
    join-elsewhere one two new e (inr m) = make-elsewhere two new e m

    -- a file that comes of a table
    kept-elsewhere : {A : Type 0} (other : List ℕ) (x : Result A Refusal) (f : A → List ℕ) → bytes_eq name other ≡ false → r ≡ and_then x (λ a. Ok (kept_as files other (f a))) → Keeps
    kept-elsewhere other (Ok a) f e h = stored-elsewhere other (f a) [] e h
    kept-elsewhere other (Err q) f e h = never o q r is h

    table-elsewhere : (csv tag keys doc : List ℕ) → bytes_eq name doc ≡ false → r ≡ tabled files csv tag keys doc → Keeps
    table-elsewhere csv tag keys doc e h = by_table (table_input files csv doc) h
      where
        by_table : (x : Result PlainTable Refusal) → r ≡ and_then x (λ t. and_then (document_for tag (key_names keys) t) (λ d. Ok (kept_as files doc (document_text d)))) → Keeps
        by_table (Ok t) g = kept-elsewhere doc (document_for tag (key_names keys) t) document_text e g
        by_table (Err q) g = never o q r is g

    keys-elsewhere : (tag keys spec : List ℕ) → bytes_eq name spec ≡ false → r ≡ keys_tabled files tag keys spec → Keeps
    keys-elsewhere tag keys spec e h = by_rules (short_rules tag (key_names keys)) h
      where
        by_rules : (x : Result (List PlainRule) Refusal) → r ≡ and_then x (λ rules. and_then (free_in files spec) (λ _. Ok (kept_as files spec (canonical rules)))) → Keeps
        by_rules (Ok rules) g = kept-elsewhere spec (free_in files spec) (λ _. canonical rules) e g
        by_rules (Err q) g = never o q r is g

    stores-elsewhere : (other : List ℕ) (c : Contents) → bytes_eq name other ≡ false → Stores files other c r → Keeps
    stores-elsewhere other c e (inl s) = stored-elsewhere other s.bytes [] e s.is
    stores-elsewhere other c e (inr t) = never o (limit refusal.archive LONGEST) r is t.is

    -- over a sound archive its versions under other keys are stored
    rekeys-elsewhere : (other : List ℕ) (c : Contents) (rules : List PlainRule) → bytes_eq name other ≡ false → RekeysTo files other c rules r → Keeps
    rekeys-elsewhere other c rules e (inl s) = stores-elsewhere other (with_keys c rules s.versions) e s.rest
    rekeys-elsewhere other c rules e (inr b) = never o (key_fault_in b.number b.fault) r is b.is

    rekey-elsewhere : (other spec : List ℕ) → bytes_eq name other ≡ false → ((c : Contents) → ArchiveIs files other c → RekeysFrom files other spec c r) → DamagedOrSound files other r → Keeps
    rekey-elsewhere other spec e sound (inl q) = never o (damaged other) r is q
    rekey-elsewhere other spec e sound (inr a) =
        goes o (rekey_rules files other spec) (RekeysTo files other a.contents) r is (sound a.contents a.archive) (λ rules _ m. rekeys-elsewhere other a.contents rules e m)

    makes-elsewhere : (other : List ℕ) (seed count : ℕ) → bytes_eq name other ≡ false → MakesOrNone files other seed count r → Keeps
    makes-elsewhere other seed count e (inl s) = stored-elsewhere other s.bytes _ e s.is
    makes-elsewhere other seed count e (inr t) = never o (limit refusal.archive LONGEST) r is t.is

    imports-elsewhere : (new bytes : List ℕ) → bytes_eq name new ≡ false → ImportsFrom files new bytes r → Keeps
    imports-elsewhere new bytes e (inl p) = stored-elsewhere new p.stored.bytes [] e p.stored.is
    imports-elsewhere new bytes e (inr n) = never o bad_text r is n.is

    pub others-kept : (command : PlainCommand) → is_for name command ≡ false → MayBe files command r → Keeps
    others-kept (norm spec doc) e h = same-files (norm-keeps files spec doc o (sym h ∙ is))
    others-kept (init other spec) e h = goes o (init_rules files other spec) (λ rules. Stores files other (unnoted rules [])) r is h (λ rules _ s. stores-elsewhere other (unnoted rules []) e s)
    others-kept (add other doc note) e h =
        goes o (short_note note) (λ _. MayOver files other (GoesOn (add_input files other doc) (λ _. MayAdd files other)) (AddsTo files other doc note)) r is h
        (λ _ _ over. goes o (add_input files other doc) (λ _. MayAdd files other) r is over.whatever (λ _ _ m. make-elsewhere other other e m))
    others-kept (rekey other spec) e h = goes o (rekey_rules files other spec) (λ _. DamagedOrSound files other) r is h.whatever (λ _ _ m. rekey-elsewhere other spec e h.sound m)
    others-kept (get other i) e h = goes o (get_input files other i) (λ _. MayWrite files other) r is h.whatever (λ _ _ m. write-keeps other m)
    others-kept (history other path) e h = goes o (history_input files other path) (λ _. MayWrite files other) r is h.whatever (λ _ _ m. write-keeps other m)
    others-kept (log other path) e h = goes o (log_input files other path) (λ _. MayWrite files other) r is h.whatever (λ _ _ m. write-keeps other m)
    others-kept (check other) e h = goes o (file_of files other) (IsFound files other) r is h (λ bytes _ m. judge-keeps other bytes m)
    others-kept (stats other) e h = goes o (stats_input files other) (λ _. MayWrite files other) r is h.whatever (λ _ _ m. write-keeps other m)
    others-kept (versions other) e h = goes o (versions_input files other) (λ _. MayWrite files other) r is h.whatever (λ _ _ m. write-keeps other m)
    others-kept (export other) e h = goes o (stats_input files other) (λ _. DamagedOrSound files other) r is h.whatever (λ _ _ m. export-keeps other h.sound m)
    others-kept (import text new) e h = goes o (import_text files text new) (ImportsFrom files new) r is h (λ bytes _ m. imports-elsewhere new bytes e m)
    others-kept (cut other new i j) e h = goes o (cut_input files other new i j) (λ _. MayMake files other new) r is h.whatever (λ _ _ m. make-elsewhere other new e m)
    others-kept (join one two new) e h = goes o (join_input files one two new) (λ _. MayJoin files one two new) r is h.whatever (λ _ _ m. join-elsewhere one two new e m)
    others-kept (table csv tag keys doc) e h = table-elsewhere csv tag keys doc e h
    others-kept (tablekeys tag keys spec) e h = keys-elsewhere tag keys spec e h
    others-kept batch e h = never o usage r is h
    others-kept (demo seed count other) e h = goes o (demo_input files count other) (λ _. MakesOrNone files other seed count) r is h (λ _ _ m. makes-elsewhere other seed count e m)

-- what begins with a file that is not there is refused
pub absent : {A : Type 0} (files : Files) (name : List ℕ) (f : List ℕ → Result A Refusal) → finite.get files name ≡ None → and_then (file_of files name) f ≡ Err (no_file name)
absent files name f e = ap (λ o. and_then (or_refuse o (no_file name)) f) e

-- ---- a command on the archive of this name

pub taken : (files : Files) (name bytes : List ℕ) → finite.get files name ≡ Some bytes → free_in files name ≡ Err (exists name)
taken files name bytes e = rw e refl

-- where the name is taken, neither goes on
pub init-taken : {X : Type 0} (files : Files) (name spec bytes : List ℕ) (rules : List PlainRule) → finite.get files name ≡ Some bytes → init_rules files name spec ≡ Ok rules → X
init-taken files name spec bytes rules e f =
    let refused : init_rules files name spec ≡ Err (exists name) = ap (λ x. and_then x (λ _. and_then (length_in files spec specification SPECIFICATION) (λ _. read_in files spec rules_of))) (taken files name bytes e) in
    absurd cc

pub ends-refused : {X A B : Type 0} (x : Result A Refusal) (y : Result B Refusal) (q : Refusal) (b : B) → and_then x (λ _. y) ≡ Ok b → y ≡ Err q → X
ends-refused (Ok a) y q b e f = absurd cc
ends-refused (Err r) y q b e f = absurd cc

pub cut-taken : {X : Type 0} (files : Files) (other new bytes : List ℕ) (i j : ℕ) (h : List PlainRule × ℕ) → finite.get files new ≡ Some bytes → cut_input files other new i j ≡ Ok h → X
cut-taken files other new bytes i j h e f =
    ends-refused (file_length files other) (and_then (free_in files new) (λ _. and_then (read_in files other (front_in other)) (λ g. and_then (are_versions i j g.1) (λ _. Ok g)))) (exists new) h f
    (ap (λ x. and_then x (λ _. and_then (read_in files other (front_in other)) (λ g. and_then (are_versions i j g.1) (λ _. Ok g)))) (taken files new bytes e))

pub import-taken : {X : Type 0} (files : Files) (text new bytes read : List ℕ) → finite.get files new ≡ Some bytes → import_text files text new ≡ Ok read → X
import-taken files text new bytes read e f =
    ends-refused (length_in files text refusal.text TEXT) (and_then (free_in files new) (λ _. file_of files text)) (exists new) read f (ap (λ x. and_then x (λ _. file_of files text)) (taken files new bytes e))

pub table-taken : {X : Type 0} (files : Files) (csv doc bytes : List ℕ) (t : PlainTable) → finite.get files doc ≡ Some bytes → table_input files csv doc ≡ Ok t → X
table-taken files csv doc bytes t e f =
    ends-refused (length_in files csv document DOCUMENT) (and_then (free_in files doc) (λ _. read_in files csv rows_of)) (exists doc) t f (ap (λ x. and_then x (λ _. read_in files csv rows_of)) (taken files doc bytes e))

-- a chain that has a value goes on from one
pub chained : {X A B : Type 0} (x : Result A Refusal) (f : A → Result B Refusal) (b : B) → and_then x f ≡ Ok b → ((a : A) → x ≡ Ok a → f a ≡ Ok b → X) → X
chained (Ok a) f b e g = g a refl e
chained (Err q) f b e g = absurd cc

pub join-taken : {X : Type 0} (files : Files) (one two new bytes : List ℕ) (h : (List PlainRule × ℕ) × (List PlainRule × ℕ)) → finite.get files new ≡ Some bytes → join_input files one two new ≡ Ok h → X
join-taken files one two new bytes h e f =
    chained (file_length files one) _ h f (λ _ _ g.
    chained (file_length files two) _ h g (λ _ _ k.
    chained (free_in files new) _ h k (λ u is _. let no : ◌≡◌ {A = Result Unit Refusal} (Err (exists new)) (Ok u) = sym (taken files new bytes e) ∙ is in absurd cc)))

-- the rules of a new archive are those of its specification
pub init-spelled : (x : Result Unit Refusal) (y : Result ℕ Refusal) (z : Result (List PlainRule) Refusal) (rules : List PlainRule) → and_then x (λ _. and_then y (λ _. z)) ≡ Ok rules → z ≡ Ok rules
init-spelled (Err q) y z rules e = absurd cc
init-spelled (Ok u) (Err q) z rules e = absurd cc
init-spelled (Ok u) (Ok n) z rules e = e

pub archive-moves : (files now : Files) (name : List ℕ) (c : Contents) → ArchiveIs files name c → finite.get now name ≡ finite.get files name → ArchiveIs now name c
archive-moves files now name c a e = record { bytes = a.bytes; there = e ∙ a.there; full = a.full }

-- the file of a stored archive
pub stored-is : (files : Files) (o : Outcome) (name : List ℕ) (c : Contents) → Stores files name c (Ok o) → ArchiveIs o.files name c
stored-is files o name c (inl s) =
    record { bytes = s.bytes; there = ap (λ (x : Files). finite.get x name) (kept-by (finite.insert files name s.bytes) o (Ok o) [] refl s.is) ∙ new-there files name s.bytes; full = s.full }
stored-is files o name c (inr t) = absurd (never o (limit refusal.archive LONGEST) (Ok o) refl t.is)

pub made-is : (noted : (rules : List PlainRule) (vs : List PlainKeyed) (bytes : List ℕ) → SoundAs rules vs bytes → FullAs (unnoted rules vs) bytes) → (files : Files) (o : Outcome) (name : List ℕ) (seed count : ℕ) → MakesOrNone files name seed count (Ok o)
    → ArchiveIs o.files name (unnoted company_rules (samples seed count))
made-is noted files o name seed count (inl s) =
    record { bytes = s.bytes; there = ap (λ (x : Files). finite.get x name) (kept-by (finite.insert files name s.bytes) o (Ok o) _ refl s.is) ∙ new-there files name s.bytes; full = noted company_rules (samples seed count) s.bytes s.made.sound }
made-is noted files o name seed count (inr t) = absurd (never o (limit refusal.archive LONGEST) (Ok o) refl t.is)
