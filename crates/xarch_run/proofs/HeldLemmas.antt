-- What was handed in to an archive is what its file holds.
use Rattle.std.proofs.Common.{◌≡◌, ◌≢◌, inl, inr, ℕ, zero, suc, Bool, true, false, List, [], ◌∷◌, length, Option, Some, None, Result, Ok, Err, refl, sym, ap, ◌∙◌, subst}
use Rattle.std.specs.FinMap as finite
use Rattle.std.specs.List.{AllByRecursion}
use Rattle.std.specs.Str.{bytes_eq}
use Rattle.xa_outside.specs.Folder.{Files}
use Rattle.key_spec.specs.Data.{PlainRule}
use Rattle.keyed_tree.specs.Data.{PlainKeyed}
use Rattle.keyed_tree.specs.Kids.{IsOrdered}
use Rattle.archive_tree.specs.Stands.{version_of}
use Rattle.archive_file.specs.KeyedBy.{IsKeyedBy}
use Rattle.archive_file.specs.Sound.{SoundAs}
use Rattle.archive_rekey.specs.Rekeyed.{AreRekeyed, IsFirstBad}
use Rattle.archive_text.specs.Export.{ExportOf}
use Rattle.key_rules.specs.Faults.{PlainKeyFault}
use Rattle.xarch_gen.specs.Company.{company_rules}
use Rattle.xarch_words.specs.Commands.{PlainCommand, norm, init, add, rekey, get, history, log, check, stats, versions, export, import, cut, join, table, tablekeys, batch, demo, key_names}
use Rattle.xarch_words.specs.Refusal.{specification, Refusal, bad_text, exists, no_file}
use Rattle.xarch_words.specs.Refusal as refusal
use Rattle.xarch_words.specs.declared.limits.TheConstants.{DEMO, SPECIFICATION, TEXT}
use Rattle.xarch_meanings.specs.Add.{add_input, added, AddsDoc, AddsTo, IsHandedIn, MayAdd}
use Rattle.noted_file.specs.Contents.{Contents, header_of, unnoted, with_keys, with_version}
use Rattle.noted_file.specs.Full.{FullAs, FullOf}
use Rattle.noted_file.proofs.Readings.{same-contents}
use Rattle.xarch_parts.specs.Archives.{ArchiveIs, GoesOn, Stores, free_in, short_note}
use Rattle.xarch_meanings.specs.Cut.{cut_checked, cut_input, CutsFrom, slice}
use Rattle.xarch_meanings.specs.Demo.{MakesOrNone, demo_input, samples}
use Rattle.xarch_meanings.specs.Get.{version_text}
use Rattle.xarch_meanings.specs.History.{history_text}
use Rattle.xarch_meanings.specs.Import.{ImportsFrom, import_text}
use Rattle.xarch_meanings.specs.Init.{init_rules}
use Rattle.xarch_meanings.specs.Join.{join_checked, join_input, joined, JoinsFrom, MayJoin}
use Rattle.xarch_meanings.specs.Log.{logged}
use Rattle.xarch_parts.specs.Inputs.{at_most, length_in, read_in}
use Rattle.xarch_parts.specs.Outcome.{Outcome, Step, or_refuse, step_from}
use Rattle.xarch_meanings.specs.Plausible.{step_behind}
use Rattle.xarch_meanings.specs.Over.{DamagedOrSound, HasArchive, MayMake, MayOver}
use Rattle.xarch_meanings.specs.Meanings.{MayBe, ShouldSucceed}
use Rattle.xarch_meanings.specs.Rekey.{ChangesKeys, IsRekeyed, rekey_rules, RekeysTo}
use Rattle.xarch_meanings.specs.PlausibleLaws.{late-unlisted, late-unlogged, late-unsound, no-late, plain-step}
use Rattle.xarch_parts.specs.Readings.{rules_of}
use Rattle.xarch_meanings.specs.Table.{short_rules, table_input}
use Rattle.xarch_meanings.specs.Versions.{listed}
use Rattle.xarch_run.specs.Calls.{CommandMay, CommandsDid}
use Rattle.xarch_run.specs.Held.{Accepted, BeginsWith, Begun, ChangesOrTells, CutsOrTells, GoesOver, HandedIn, Held, HeldAfter, HeldBy, Holds, HoldsBehind, HoldsExactly, JoinsOrTells, MakesArchive, MakesFile, NoneMakes, RefusalsKeep, TakesKeys, WritesCounts, WritesText}
use Rattle.xarch_run.specs.Steps.{files_after}
use Rattle.xarch_run.proofs.OneFile.{archive-moves, chained, cut-taken, ends-refused, goes, import-taken, init-spelled, init-taken, is_for, join-taken, made-is, never, other-name, others-kept, same-name, stored-is, table-taken, taken}
use Rattle.xarch_run.proofs.Statuses.{status-other}

by-name : (b : Bool) {P : Type 0} → (b ≡ true → P) → (b ≡ false → P) → P
by-name true h g = h refl
by-name false h g = g refl

-- what is no command changes no file
none-kept : (files : Files) (s : Step) → CommandMay files None s → s.files ≡ files
none-kept files s (inl is) = ap (λ (z : Step). z.files) is
none-kept files s (inr is) = ap (λ (z : Step). z.files) is

-- ---- one command over an archive

-- versions are one list under other rules, or one of them is the first bad one
pub record OneRekeying : Type 0 where
  pub one_list : (rules : List PlainRule) (vs us ws : List PlainKeyed) → AreRekeyed rules vs us → AreRekeyed rules vs ws → us ≡ ws
  pub apart : (rules : List PlainRule) (vs us : List PlainKeyed) (i : ℕ) (f : PlainKeyFault) → AreRekeyed rules vs us → ¬ IsFirstBad rules vs i f

-- what the archive holds behind a command
record Goes (files : Files) (name : List ℕ) (h : Held) (command : Option PlainCommand) (now : Files) : Type 0 where
  held : Held
  first : HeldBy files name command h held
  archive : Holds now name held

module _ (files : Files) (name : List ℕ) (h : Held) (a : Holds files name h) where
  -- a document that is handed in is not refused
  not-refused : (doc note : List ℕ) (k : PlainKeyed) (q : Refusal) → IsHandedIn files doc note h k → MayBe files (add name doc note) (Err q) → ⊥
  not-refused doc note k q handed m =
      let over = subst (λ (x : Result Unit Refusal). GoesOn x (λ _. MayOver files name (GoesOn (add_input files name doc) (λ _. MayAdd files name)) (AddsTo files name doc note)) (Err q)) handed.short m in
      let adds = over.sound h a in
      stored (subst (λ x. GoesOn x (λ j. Stores files name (with_version h j note)) (Err q)) handed.satisfies adds)
    where
      stored : Stores files name (with_version h k note) (Err q) → ⊥
      stored (inl st) = (let no : ◌≡◌ {A = Result Outcome Refusal} (Err q) (Ok _) = st.is in cc)
      stored (inr long) = long.none handed.bytes handed.file

  -- one that is not refused was handed in
  was-handed : (doc note : List ℕ) (o : Outcome) → MayBe files (add name doc note) (Ok o) → Accepted files name doc note h o.files
  was-handed doc note o m =
      goes o (short_note note) (λ _. MayOver files name (GoesOn (add_input files name doc) (λ _. MayAdd files name)) (AddsTo files name doc note)) (Ok o) refl m (λ u short over.
      goes o (added files doc h.rules (length h.versions)) (λ k. Stores files name (with_version h k note)) (Ok o) refl (over.sound h a) (λ k is s.
      let archive = stored-is files o name (with_version h k note) s in
      record { tree = k; handed = record { short = short; satisfies = is; bytes = archive.full.core; file = archive.full.is.file }; archive = archive }))

  -- a specification that is handed in is not refused
  not-rekeyed : (one : OneRekeying) (spec : List ℕ) (i : Held) (q : Refusal) → IsRekeyed files name spec h i → MayBe files (rekey name spec) (Err q) → ⊥
  not-rekeyed one spec i q keyed m =
      comes (subst (λ x. GoesOn x (RekeysTo files name h) (Err q)) keyed.specified (m.sound h a))
    where
      stored : Stores files name (with_keys h i.rules i.versions) (Err q) → ⊥
      stored (inl st) = (let no : ◌≡◌ {A = Result Outcome Refusal} (Err q) (Ok _) = st.is in cc)
      stored (inr long) = long.none keyed.bytes keyed.file

      comes : RekeysTo files name h i.rules (Err q) → ⊥
      comes (inl s) = stored (subst (λ (us : List PlainKeyed). Stores files name (with_keys h i.rules us) (Err q)) (one.one_list i.rules h.versions s.versions i.versions s.are keyed.satisfied) s.rest)
      comes (inr b) = one.apart i.rules h.versions i.versions b.number b.fault keyed.satisfied b.first

  -- one that is not refused was handed in
  was-rekeyed : (spec : List ℕ) (o : Outcome) → MayBe files (rekey name spec) (Ok o) → TakesKeys files name spec h o.files
  was-rekeyed spec o m =
      goes o (rekey_rules files name spec) (RekeysTo files name h) (Ok o) refl (m.sound h a) (λ rules is s. comes rules is s)
    where
      comes : (rules : List PlainRule) → rekey_rules files name spec ≡ Ok rules → RekeysTo files name h rules (Ok o) → TakesKeys files name spec h o.files
      comes rules is (inl s) =
          let archive = stored-is files o name (with_keys h rules s.versions) s.rest in
          record {
            under = with_keys h rules s.versions;
            keys = record { specified = is; satisfied = s.are; noted = refl; bytes = archive.full.core; file = archive.full.is.file };
            archive = archive;
          }
      comes rules is (inr b) = (let no : ◌≡◌ {A = Result Outcome Refusal} (Ok o) (Err _) = b.is in absurd cc)

  -- where its file is as it was
  same-held : (o : Outcome) → finite.get o.files name ≡ finite.get files name → Holds o.files name h
  same-held o e = archive-moves files o.files name h a e

  unchanged : (o : Outcome) (command : PlainCommand) → is_for name command ≡ false → MayBe files command (Ok o) → Holds o.files name h
  unchanged o command e m = same-held o (others-kept files name o (Ok o) refl command e m)

  add-goes : (o : Outcome) (other doc note : List ℕ) → MayBe files (add other doc note) (Ok o) → Goes files name h (Some (add other doc note)) o.files
  add-goes o other doc note m = by-name (bytes_eq name other)
      (λ e.
      let same = same-name name other e in
      let k = was-handed doc note o (subst (λ n. MayBe files (add n doc note) (Ok o)) (sym same) m) in
      record { held = with_version h k.tree note; first = inl (same, inl (record { tree = k.tree; handed = k.handed; is = refl })); archive = k.archive })
      (λ e. record { held = h; first = inr (other-name name other e, refl); archive = unchanged o (add other doc note) e m })

  rekey-goes : (o : Outcome) (other spec : List ℕ) → MayBe files (rekey other spec) (Ok o) → Goes files name h (Some (rekey other spec)) o.files
  rekey-goes o other spec m = by-name (bytes_eq name other)
      (λ e.
      let same = same-name name other e in
      let k = was-rekeyed spec o (subst (λ n. MayBe files (rekey n spec) (Ok o)) (sym same) m) in
      record { held = k.under; first = inl (same, inl (subst (λ n. IsRekeyed files n spec h k.under) same k.keys)); archive = k.archive })
      (λ e. record { held = h; first = inr (other-name name other e, refl); archive = unchanged o (rekey other spec) e m })

  init-here : (o : Outcome) (other spec : List ℕ) → bytes_eq name other ≡ true → MayBe files (init other spec) (Ok o) → Holds o.files name h
  init-here o other spec e m =
      let taken-here = subst (λ n. finite.get files n ≡ Some a.bytes) (same-name name other e) a.there in
      goes o (init_rules files other spec) (λ rules. Stores files other (unnoted rules [])) (Ok o) refl m (λ new is _. init-taken files other spec a.bytes new taken-here is)

  demo-here : (o : Outcome) (seed count : ℕ) (other : List ℕ) → bytes_eq name other ≡ true → MayBe files (demo seed count other) (Ok o) → Holds o.files name h
  demo-here o seed count other e m =
      let taken-here = subst (λ n. finite.get files n ≡ Some a.bytes) (same-name name other e) a.there in
      goes o (demo_input files count other) (λ _. MakesOrNone files other seed count) (Ok o) refl m (λ u is _. ends-refused (at_most refusal.demo DEMO count) (free_in files other) (exists other) u is (taken files other a.bytes taken-here))

  cut-here : (o : Outcome) (other new : List ℕ) (i j : ℕ) → bytes_eq name new ≡ true → MayBe files (cut other new i j) (Ok o) → Holds o.files name h
  cut-here o other new i j e m =
      let taken-here = subst (λ n. finite.get files n ≡ Some a.bytes) (same-name name new e) a.there in
      goes o (cut_input files other new i j) (λ _. MayMake files other new) (Ok o) refl m.whatever (λ p is _. cut-taken files other new a.bytes i j p taken-here is)

  join-here : (o : Outcome) (one two new : List ℕ) → bytes_eq name new ≡ true → MayBe files (join one two new) (Ok o) → Holds o.files name h
  join-here o one two new e m =
      let taken-here = subst (λ n. finite.get files n ≡ Some a.bytes) (same-name name new e) a.there in
      goes o (join_input files one two new) (λ _. MayJoin files one two new) (Ok o) refl m.whatever (λ p is _. join-taken files one two new a.bytes p taken-here is)

  import-here : (o : Outcome) (text new : List ℕ) → bytes_eq name new ≡ true → MayBe files (import text new) (Ok o) → Holds o.files name h
  import-here o text new e m =
      let taken-here = subst (λ n. finite.get files n ≡ Some a.bytes) (same-name name new e) a.there in
      goes o (import_text files text new) (ImportsFrom files new) (Ok o) refl m (λ read is _. import-taken files text new a.bytes read taken-here is)

  table-here : (o : Outcome) (csv tag keys doc : List ℕ) → bytes_eq name doc ≡ true → MayBe files (table csv tag keys doc) (Ok o) → Holds o.files name h
  table-here o csv tag keys doc e m =
      let taken-here = subst (λ n. finite.get files n ≡ Some a.bytes) (same-name name doc e) a.there in
      chained (table_input files csv doc) _ o (sym m) (λ t is _. table-taken files csv doc a.bytes t taken-here is)

  keys-here : (o : Outcome) (tag keys spec : List ℕ) → bytes_eq name spec ≡ true → MayBe files (tablekeys tag keys spec) (Ok o) → Holds o.files name h
  keys-here o tag keys spec e m =
      let taken-here = subst (λ n. finite.get files n ≡ Some a.bytes) (same-name name spec e) a.there in
      chained (short_rules tag (key_names keys)) _ o (sym m) (λ rules _ rest. chained (free_in files spec) _ o rest (λ u is _. free-not u (taken files spec a.bytes taken-here) is))
    where
      free-not : (u : Unit) → free_in files spec ≡ Err (exists spec) → free_in files spec ≡ Ok u → Holds o.files name h
      free-not u refused free = (let no : ◌≡◌ {A = Result Unit Refusal} (Err (exists spec)) (Ok u) = sym refused ∙ free in absurd cc)

  done-goes : (o : Outcome) (command : PlainCommand) → MayBe files command (Ok o) → Goes files name h (Some command) o.files
  done-goes o (norm spec doc) m = record { held = h; first = refl; archive = unchanged o (norm spec doc) refl m }
  done-goes o (init other spec) m =
      record { held = h; first = refl; archive = by-name (bytes_eq name other) (λ e. init-here o other spec e m) (λ e. unchanged o (init other spec) e m) }
  done-goes o (add other doc note) m = add-goes o other doc note m
  done-goes o (rekey other spec) m = rekey-goes o other spec m
  done-goes o (get other i) m = record { held = h; first = refl; archive = unchanged o (get other i) refl m }
  done-goes o (history other path) m = record { held = h; first = refl; archive = unchanged o (history other path) refl m }
  done-goes o (log other path) m = record { held = h; first = refl; archive = unchanged o (log other path) refl m }
  done-goes o (check other) m = record { held = h; first = refl; archive = unchanged o (check other) refl m }
  done-goes o (stats other) m = record { held = h; first = refl; archive = unchanged o (stats other) refl m }
  done-goes o (versions other) m = record { held = h; first = refl; archive = unchanged o (versions other) refl m }
  done-goes o (export other) m = record { held = h; first = refl; archive = unchanged o (export other) refl m }
  done-goes o (import text new) m =
      record { held = h; first = refl; archive = by-name (bytes_eq name new) (λ e. import-here o text new e m) (λ e. unchanged o (import text new) e m) }
  done-goes o (cut other new i j) m =
      record { held = h; first = refl; archive = by-name (bytes_eq name new) (λ e. cut-here o other new i j e m) (λ e. unchanged o (cut other new i j) e m) }
  done-goes o (join first two new) m =
      record { held = h; first = refl; archive = by-name (bytes_eq name new) (λ e. join-here o first two new e m) (λ e. unchanged o (join first two new) e m) }
  done-goes o (table csv tag keys doc) m =
      record { held = h; first = refl; archive = by-name (bytes_eq name doc) (λ e. table-here o csv tag keys doc e m) (λ e. unchanged o (table csv tag keys doc) e m) }
  done-goes o (tablekeys tag keys spec) m =
      record { held = h; first = refl; archive = by-name (bytes_eq name spec) (λ e. keys-here o tag keys spec e m) (λ e. unchanged o (tablekeys tag keys spec) e m) }
  done-goes o batch m = record { held = h; first = refl; archive = unchanged o batch refl m }
  done-goes o (demo seed count other) m =
      record { held = h; first = refl; archive = by-name (bytes_eq name other) (λ e. demo-here o seed count other e m) (λ e. unchanged o (demo seed count other) e m) }

  refused-goes : (one : OneRekeying) (q : Refusal) (command : PlainCommand) → MayBe files command (Err q) → Goes files name h (Some command) files
  refused-goes one q (norm spec doc) m = record { held = h; first = refl; archive = a }
  refused-goes one q (init other spec) m = record { held = h; first = refl; archive = a }
  refused-goes one q (add other doc note) m = by-name (bytes_eq name other)
      (λ e.
      let same = same-name name other e in
      record { held = h; first = inl (same, inr (record { none = λ k handed. not-refused doc note k q handed (subst (λ n. MayBe files (add n doc note) (Err q)) (sym same) m); is = refl })); archive = a })
      (λ e. record { held = h; first = inr (other-name name other e, refl); archive = a })
  refused-goes one q (rekey other spec) m = by-name (bytes_eq name other)
      (λ e.
      let same = same-name name other e in
      record { held = h; first = inl (same, inr (record { none = λ i keyed. not-rekeyed one spec i q (subst (λ n. IsRekeyed files n spec h i) (sym same) keyed) (subst (λ n. MayBe files (rekey n spec) (Err q)) (sym same) m); is = refl })); archive = a })
      (λ e. record { held = h; first = inr (other-name name other e, refl); archive = a })
  refused-goes one q (get other i) m = record { held = h; first = refl; archive = a }
  refused-goes one q (history other path) m = record { held = h; first = refl; archive = a }
  refused-goes one q (log other path) m = record { held = h; first = refl; archive = a }
  refused-goes one q (check other) m = record { held = h; first = refl; archive = a }
  refused-goes one q (stats other) m = record { held = h; first = refl; archive = a }
  refused-goes one q (versions other) m = record { held = h; first = refl; archive = a }
  refused-goes one q (export other) m = record { held = h; first = refl; archive = a }
  refused-goes one q (import text new) m = record { held = h; first = refl; archive = a }
  refused-goes one q (cut other new i j) m = record { held = h; first = refl; archive = a }
  refused-goes one q (join first two new) m = record { held = h; first = refl; archive = a }
  refused-goes one q (table csv tag keys doc) m = record { held = h; first = refl; archive = a }
  refused-goes one q (tablekeys tag keys spec) m = record { held = h; first = refl; archive = a }
  refused-goes one q batch m = record { held = h; first = refl; archive = a }
  refused-goes one q (demo seed count other) m = record { held = h; first = refl; archive = a }

  outcome-goes : (one : OneRekeying) (command : PlainCommand) (written : List ℕ) (r : Result Outcome Refusal) → MayBe files command r → Goes files name h (Some command) (step_behind files written r).files
  outcome-goes one command written (Ok o) m = done-goes o command m
  outcome-goes one command written (Err q) m = refused-goes one q command m

  step-goes : (one : OneRekeying) (command : Option PlainCommand) (s : Step) → CommandMay files command s → Goes files name h command s.files
  step-goes one None s m = record { held = h; first = refl; archive = subst (λ (u : Files). Holds u name h) (sym (none-kept files s m)) a }
  step-goes one (Some command) s m = subst (λ (z : Step). Goes files name h (Some command) z.files) (sym m.is) (outcome-goes one command m.written m.outcome m.may)

-- ---- what steps leave

pub all-hold : (one : OneRekeying) (files : Files) (name : List ℕ) (cs : List (Option PlainCommand)) (ss : List Step) (h : Held) → Holds files name h → CommandsDid files cs ss → HoldsBehind files name cs ss h
all-hold one files name [] [] h a did = record { held = h; after = refl; archive = a }
all-hold one files name [] (s ∷ ss) h a did = absurd did
all-hold one files name (c ∷ cs) [] h a did = absurd did
all-hold one files name (c ∷ cs) (s ∷ ss) h a did =
    let step = step-goes files name h a one c s did.0 in
    let rest = all-hold one s.files name cs ss step.held step.archive did.1 in
    record { held = rest.held; after = record { between = step.held; first = step.first; rest = rest.after }; archive = rest.archive }

-- what is held is one thing
one-tree : (files : Files) (doc note : List ℕ) (h : Held) (k j : PlainKeyed) → IsHandedIn files doc note h k → IsHandedIn files doc note h j → k ≡ j
one-tree files doc note h k j p q = same (added files doc h.rules (length h.versions)) p.satisfies q.satisfies
  where
    same : (x : Result PlainKeyed Refusal) → x ≡ Ok k → x ≡ Ok j → k ≡ j
    same x e f = cc

one-added : (files : Files) (doc note : List ℕ) (h i j : Held) → AddsDoc files doc note h i → AddsDoc files doc note h j → i ≡ j
one-added files doc note h i j (inl p) (inl q) = p.is ∙ ap (λ (k : PlainKeyed). with_version h k note) (one-tree files doc note h p.tree q.tree p.handed q.handed) ∙ sym q.is
one-added files doc note h i j (inl p) (inr q) = absurd (q.none p.tree p.handed)
one-added files doc note h i j (inr p) (inl q) = absurd (p.none q.tree q.handed)
one-added files doc note h i j (inr p) (inr q) = p.is ∙ sym q.is

same-rules : (x : Result (List PlainRule) Refusal) (r s : List PlainRule) → x ≡ Ok r → x ≡ Ok s → r ≡ s
same-rules x r s e f = cc

one-keys : (one : OneRekeying) (files : Files) (name spec : List ℕ) (h i j : Held) → IsRekeyed files name spec h i → IsRekeyed files name spec h j → i ≡ j
one-keys one files name spec h i j p q =
    let rules = same-rules (rekey_rules files name spec) i.rules j.rules p.specified q.specified in
    same-contents i j rules (one.one_list j.rules h.versions i.versions j.versions (subst (λ r. AreRekeyed r h.versions i.versions) rules p.satisfied) q.satisfied) (p.noted ∙ sym q.noted)

one-changed : (one : OneRekeying) (files : Files) (name spec : List ℕ) (h i j : Held) → ChangesKeys files name spec h i → ChangesKeys files name spec h j → i ≡ j
one-changed one files name spec h i j (inl p) (inl q) = one-keys one files name spec h i j p q
one-changed one files name spec h i j (inl p) (inr q) = absurd (q.none i p)
one-changed one files name spec h i j (inr p) (inl q) = absurd (p.none j q)
one-changed one files name spec h i j (inr p) (inr q) = p.is ∙ sym q.is

one-by : (one : OneRekeying) (files : Files) (name : List ℕ) (command : Option PlainCommand) (h i j : Held) → HeldBy files name command h i → HeldBy files name command h j → i ≡ j
one-by one files name None h i j p q = p ∙ sym q
one-by one files name (Some (norm spec doc)) h i j p q = p ∙ sym q
one-by one files name (Some (init other spec)) h i j p q = p ∙ sym q
one-by one files name (Some (add other doc note)) h i j (inl p) (inl q) = one-added files doc note h i j p.1 q.1
one-by one files name (Some (add other doc note)) h i j (inl p) (inr q) = absurd (q.0 p.0)
one-by one files name (Some (add other doc note)) h i j (inr p) (inl q) = absurd (p.0 q.0)
one-by one files name (Some (add other doc note)) h i j (inr p) (inr q) = p.1 ∙ sym q.1
one-by one files name (Some (rekey other spec)) h i j (inl p) (inl q) = one-changed one files other spec h i j p.1 q.1
one-by one files name (Some (rekey other spec)) h i j (inl p) (inr q) = absurd (q.0 p.0)
one-by one files name (Some (rekey other spec)) h i j (inr p) (inl q) = absurd (p.0 q.0)
one-by one files name (Some (rekey other spec)) h i j (inr p) (inr q) = p.1 ∙ sym q.1
one-by one files name (Some (get other i)) h j k p q = p ∙ sym q
one-by one files name (Some (history other path)) h i j p q = p ∙ sym q
one-by one files name (Some (log other path)) h i j p q = p ∙ sym q
one-by one files name (Some (check other)) h i j p q = p ∙ sym q
one-by one files name (Some (stats other)) h i j p q = p ∙ sym q
one-by one files name (Some (versions other)) h i j p q = p ∙ sym q
one-by one files name (Some (export other)) h i j p q = p ∙ sym q
one-by one files name (Some (import text new)) h i j p q = p ∙ sym q
one-by one files name (Some (cut other new first last)) h i j p q = p ∙ sym q
one-by one files name (Some (join first two new)) h i j p q = p ∙ sym q
one-by one files name (Some (table csv tag keys doc)) h i j p q = p ∙ sym q
one-by one files name (Some (tablekeys tag keys spec)) h i j p q = p ∙ sym q
one-by one files name (Some batch) h i j p q = p ∙ sym q
one-by one files name (Some (demo seed count other)) h i j p q = p ∙ sym q

one-after : (one : OneRekeying) (files : Files) (name : List ℕ) (cs : List (Option PlainCommand)) (ss : List Step) (h i j : Held) → HeldAfter files name cs ss h i → HeldAfter files name cs ss h j → i ≡ j
one-after one files name [] ss h i j p q = p ∙ sym q
one-after one files name (c ∷ cs) [] h i j p q = absurd p
one-after one files name (c ∷ cs) (s ∷ ss) h i j p q =
    let same = one-by one files name c h p.between q.between p.first q.first in
    one-after one s.files name cs ss q.between i j (subst (λ (m : Held). HeldAfter s.files name cs ss m i) same p.rest) q.rest

-- ---- refusals

outcome-refused : (files : Files) (s : Step) (written : List ℕ) (r : Result Outcome Refusal) → s ≡ step_behind files written r → s.status ≢ 0 → s.files ≡ files
outcome-refused files s written r is = subst (λ (z : Step). z.status ≢ 0 → z.files ≡ files) (sym is) (kept r)
  where
    kept : (r : Result Outcome Refusal) → (step_behind files written r).status ≢ 0 → (step_behind files written r).files ≡ files
    kept (Ok o) other = absurd (other refl)
    kept (Err q) other = refl

step-refused : (files : Files) (command : Option PlainCommand) (s : Step) → CommandMay files command s → s.status ≢ 0 → s.files ≡ files
step-refused files None s m other = none-kept files s m
step-refused files (Some command) s m other = outcome-refused files s m.written m.outcome m.is other

pub all-refused : (files : Files) (cs : List (Option PlainCommand)) (ss : List Step) → CommandsDid files cs ss → RefusalsKeep files ss
all-refused files [] [] did = tt
all-refused files [] (s ∷ ss) did = absurd did
all-refused files (c ∷ cs) [] did = tt
all-refused files (c ∷ cs) (s ∷ ss) did = (step-refused files c s did.0, all-refused s.files cs ss did.1)

refused-status : {X : Type 0} (files : Files) (s : Step) (written : List ℕ) (q : Refusal) → s ≡ step_behind files written (Err q) → s.status ≡ 0 → X
refused-status files s written q is success =
    absurd (status-other q (sym (ap (λ (z : Step). z.status) is) ∙ success))

-- a file has one reading
abbrev pub OneReading : Type 0
OneReading = (c d : Contents) (bytes : List ℕ) → FullAs c bytes → FullAs d bytes → c ≡ d

one-some : (x y : List ℕ) (o : Option (List ℕ)) → o ≡ Some x → o ≡ Some y → x ≡ y
one-some x y o e f = cc

-- a file holds one thing
pub one-held : OneReading → (files : Files) (name : List ℕ) (h i : Held) → Holds files name h → Holds files name i → h ≡ i
one-held one files name h i a b =
    one h i b.bytes (subst (FullAs h) (one-some a.bytes b.bytes (finite.get files name) a.there b.there) a.full) b.full

-- ---- how an archive begins

-- an archive's file is one whose notes are all empty
abbrev pub AreNoted : Type 0
AreNoted = (rules : List PlainRule) (vs : List PlainKeyed) (bytes : List ℕ) → SoundAs rules vs bytes → FullAs (unnoted rules vs) bytes

init-begins : (files : Files) (name other spec : List ℕ) (o : Outcome) → name ≡ other → MayBe files (init other spec) (Ok o) → Begun files name (Some (init other spec)) o.files
init-begins files name other spec o same m = goes o (init_rules files other spec) (λ rules. Stores files other (unnoted rules [])) (Ok o) refl m (λ rules is s. record {
  held = unnoted rules [];
  begins = (same, (init-spelled (free_in files other) (length_in files spec refusal.specification SPECIFICATION) (read_in files spec rules_of) rules is, refl, refl));
  archive = subst (λ n. ArchiveIs o.files n (unnoted rules [])) (sym same) (stored-is files o other (unnoted rules []) s);
})

demo-begins : (noted : AreNoted) (files : Files) (name other : List ℕ) (seed count : ℕ) (o : Outcome) → name ≡ other → MayBe files (demo seed count other) (Ok o) → Begun files name (Some (demo seed count other)) o.files
demo-begins noted files name other seed count o same m = goes o (demo_input files count other) (λ _. MakesOrNone files other seed count) (Ok o) refl m (λ _ _ s. record {
  held = unnoted company_rules (samples seed count);
  begins = (same, refl);
  archive = subst (λ n. ArchiveIs o.files n (unnoted company_rules (samples seed count))) (sym same) (made-is noted files o other seed count s);
})

-- some versions of a sound archive, with their notes
cut-begins : (files : Files) (name other new : List ℕ) (i j : ℕ) (o : Outcome) → name ≡ new → HasArchive files other → MayBe files (cut other new i j) (Ok o) → Begun files name (Some (cut other new i j)) o.files
cut-begins files name other new i j o same has m =
    let whole = has.contents in
    let comes : CutsFrom files new i j whole (Ok o) = m.sound whole has.archive in
    goes o (cut_checked files new i j (length whole.versions)) (λ _. Stores files new (slice i j whole)) (Ok o) refl comes (λ _ _ s. record {
      held = slice i j whole;
      begins = (same, record { whole = whole; from = has.archive; is = refl });
      archive = subst (λ n. ArchiveIs o.files n (slice i j whole)) (sym same) (stored-is files o new (slice i j whole) s);
    })

-- the versions of two sound archives, with their notes
join-begins : (files : Files) (name one two new : List ℕ) (o : Outcome) → name ≡ new → HasArchive files one × HasArchive files two → MayBe files (join one two new) (Ok o) → Begun files name (Some (join one two new)) o.files
join-begins files name one two new o same has m =
    let h : HasArchive files one = has.0 in
    let g : HasArchive files two = has.1 in
    let first = h.contents in
    let second = g.contents in
    let comes : JoinsFrom files one two new first second (Ok o) = m.sound first second h.archive g.archive in
    goes o (join_checked files one two new (header_of first) (header_of second)) (λ _. Stores files new (joined first second)) (Ok o) refl comes (λ _ _ s. record {
      held = joined first second;
      begins = (same, record { first = first; second = second; from = h.archive; behind = g.archive; is = refl });
      archive = subst (λ n. ArchiveIs o.files n (joined first second)) (sym same) (stored-is files o new (joined first second) s);
    })

-- the bytes of the text
text-there : (o : Option (List ℕ)) (q : Refusal) (bytes : List ℕ) → or_refuse o q ≡ Ok bytes → o ≡ Some bytes
text-there (Some x) q bytes e = cc
text-there None q bytes e = absurd cc

import-there : (files : Files) (text new bytes : List ℕ) → import_text files text new ≡ Ok bytes → finite.get files text ≡ Some bytes
import-there files text new bytes e =
    chained (length_in files text refusal.text TEXT) _ bytes e (λ _ _ rest. chained (free_in files new) _ bytes rest (λ _ _ read. text-there (finite.get files text) (no_file text) bytes read))

-- what its text is that of
import-begins : (files : Files) (name text new : List ℕ) (o : Outcome) → name ≡ new → MayBe files (import text new) (Ok o) → Begun files name (Some (import text new)) o.files
import-begins files name text new o same m = goes o (import_text files text new) (ImportsFrom files new) (Ok o) refl m begun
  where
    begun : (bytes : List ℕ) → import_text files text new ≡ Ok bytes → ImportsFrom files new bytes (Ok o) → Begun files name (Some (import text new)) o.files
    begun bytes is (inl p) = record {
      held = p.contents;
      begins = (same, record { bytes = bytes; there = import-there files text new bytes is; spelled = p.spelled; file = p.stored.bytes; full = p.stored.full });
      archive = subst (λ n. ArchiveIs o.files n p.contents) (sym same) (stored-is files o new p.contents (inl p.stored));
    }
    begun bytes is (inr n) = never o bad_text (Ok o) refl n.is

command-begins : (noted : AreNoted) (files : Files) (name : List ℕ) (command : PlainCommand) (o : Outcome) → MakesArchive name (Some command) → GoesOver files (Some command) → MayBe files command (Ok o) → Begun files name (Some command) o.files
command-begins noted files name (norm spec doc) o makes over m = absurd makes
command-begins noted files name (init other spec) o makes over m = init-begins files name other spec o makes m
command-begins noted files name (add other doc note) o makes over m = absurd makes
command-begins noted files name (rekey other spec) o makes over m = absurd makes
command-begins noted files name (get other i) o makes over m = absurd makes
command-begins noted files name (history other path) o makes over m = absurd makes
command-begins noted files name (log other path) o makes over m = absurd makes
command-begins noted files name (check other) o makes over m = absurd makes
command-begins noted files name (stats other) o makes over m = absurd makes
command-begins noted files name (versions other) o makes over m = absurd makes
command-begins noted files name (export other) o makes over m = absurd makes
command-begins noted files name (import text new) o makes over m = import-begins files name text new o makes m
command-begins noted files name (cut other new i j) o makes over m = cut-begins files name other new i j o makes over m
command-begins noted files name (join one two new) o makes over m = join-begins files name one two new o makes over m
command-begins noted files name (table csv tag keys doc) o makes over m = absurd makes
command-begins noted files name (tablekeys tag keys spec) o makes over m = absurd makes
command-begins noted files name batch o makes over m = absurd makes
command-begins noted files name (demo seed count other) o makes over m = demo-begins noted files name other seed count o makes m

outcome-begins : (noted : AreNoted) (files : Files) (name : List ℕ) (command : PlainCommand) (s : Step) (written : List ℕ) (r : Result Outcome Refusal) → MayBe files command r → s ≡ step_behind files written r → s.status ≡ 0 → MakesArchive name (Some command) → GoesOver files (Some command)
    → Begun files name (Some command) s.files
outcome-begins noted files name command s written (Err q) m is success makes over = refused-status files s written q is success
outcome-begins noted files name command s written (Ok o) m is success makes over = subst (λ (z : Step). Begun files name (Some command) z.files) (sym is) (command-begins noted files name command o makes over m)

pub step-begins : (noted : AreNoted) (files : Files) (name : List ℕ) (command : Option PlainCommand) (s : Step) → CommandMay files command s → s.status ≡ 0 → MakesArchive name command → GoesOver files command → Begun files name command s.files
step-begins noted files name None s m success makes over = absurd makes
step-begins noted files name (Some command) s m success makes over = outcome-begins noted files name command s m.written m.outcome m.may m.is success makes over

-- what begins an archive goes over a sound one, if over any
begins-over : (files : Files) (name : List ℕ) (command : Option PlainCommand) (h : Held) → BeginsWith files name command h → GoesOver files command
begins-over files name None h b = tt
begins-over files name (Some (norm spec doc)) h b = tt
begins-over files name (Some (init other spec)) h b = tt
begins-over files name (Some (add other doc note)) h b = tt
begins-over files name (Some (rekey other spec)) h b = tt
begins-over files name (Some (get other i)) h b = tt
begins-over files name (Some (history other path)) h b = tt
begins-over files name (Some (log other path)) h b = tt
begins-over files name (Some (check other)) h b = tt
begins-over files name (Some (stats other)) h b = tt
begins-over files name (Some (versions other)) h b = tt
begins-over files name (Some (export other)) h b = tt
begins-over files name (Some (import text new)) h b = tt
begins-over files name (Some (cut other new i j)) h b = record { contents = b.1.whole; archive = b.1.from; is = tt }
begins-over files name (Some (join one two new)) h b = (record { contents = b.1.first; archive = b.1.from; is = tt }, record { contents = b.1.second; archive = b.1.behind; is = tt })
begins-over files name (Some (table csv tag keys doc)) h b = tt
begins-over files name (Some (tablekeys tag keys spec)) h b = tt
begins-over files name (Some batch) h b = tt
begins-over files name (Some (demo seed count other)) h b = tt

-- a text has one reading
abbrev pub OneText : Type 0
OneText = (c d : Contents) (file other text : List ℕ) → FullAs c file → FullAs d other → ExportOf c text → ExportOf d text → c ≡ d

-- it begins with one thing to hold
same-beginning : (reading : OneReading) (texts : OneText) (files : Files) (name : List ℕ) (command : Option PlainCommand) (h g : Held) → BeginsWith files name command h → BeginsWith files name command g → h ≡ g
same-beginning reading texts files name None h g b c = absurd b.0
same-beginning reading texts files name (Some (norm spec doc)) h g b c = absurd b.0
same-beginning reading texts files name (Some (init other spec)) h g b c = same-contents h g (one-reading (read_in files spec rules_of) b.1.0 c.1.0) (b.1.1 ∙ sym c.1.1) (b.1.2 ∙ sym c.1.2)
  where
    one-reading : (x : Result (List PlainRule) Refusal) → x ≡ Ok h.rules → x ≡ Ok g.rules → h.rules ≡ g.rules
    one-reading x e f = cc
same-beginning reading texts files name (Some (add other doc note)) h g b c = absurd b.0
same-beginning reading texts files name (Some (rekey other spec)) h g b c = absurd b.0
same-beginning reading texts files name (Some (get other i)) h g b c = absurd b.0
same-beginning reading texts files name (Some (history other path)) h g b c = absurd b.0
same-beginning reading texts files name (Some (log other path)) h g b c = absurd b.0
same-beginning reading texts files name (Some (check other)) h g b c = absurd b.0
same-beginning reading texts files name (Some (stats other)) h g b c = absurd b.0
same-beginning reading texts files name (Some (versions other)) h g b c = absurd b.0
same-beginning reading texts files name (Some (export other)) h g b c = absurd b.0
same-beginning reading texts files name (Some (import text new)) h g b c =
    let bytes : b.1.bytes ≡ c.1.bytes = one-some b.1.bytes c.1.bytes (finite.get files text) b.1.there c.1.there in
    texts h g b.1.file c.1.file c.1.bytes b.1.full c.1.full (subst (ExportOf h) bytes b.1.spelled) c.1.spelled
same-beginning reading texts files name (Some (cut other new i j)) h g b c =
    let whole : b.1.whole ≡ c.1.whole = one-held reading files other b.1.whole c.1.whole b.1.from c.1.from in
    b.1.is ∙ ap (slice i j) whole ∙ sym c.1.is
same-beginning reading texts files name (Some (join one two new)) h g b c =
    let first : b.1.first ≡ c.1.first = one-held reading files one b.1.first c.1.first b.1.from c.1.from in
    let second : b.1.second ≡ c.1.second = one-held reading files two b.1.second c.1.second b.1.behind c.1.behind in
    b.1.is ∙ ap (λ (z : Held). joined z b.1.second) first ∙ ap (joined c.1.first) second ∙ sym c.1.is
same-beginning reading texts files name (Some (table csv tag keys doc)) h g b c = absurd b.0
same-beginning reading texts files name (Some (tablekeys tag keys spec)) h g b c = absurd b.0
same-beginning reading texts files name (Some batch) h g b c = absurd b.0
same-beginning reading texts files name (Some (demo seed count other)) h g b c = b.1 ∙ sym c.1

pub step-archive : (reading : OneReading) (texts : OneText) (noted : AreNoted) (files : Files) (name : List ℕ) (command : Option PlainCommand) (s : Step) (h : Held) → CommandMay files command s → s.status ≡ 0 → BeginsWith files name command h → Holds s.files name h
step-archive reading texts noted files name command s h m success b =
    let begun = step-begins noted files name command s m success b.0 (begins-over files name command h b) in
    subst (Holds s.files name) (same-beginning reading texts files name command begun.held h begun.begins b) begun.archive

-- ---- an archive from its beginning on

pub handed-holds : (one : OneRekeying) (reading : OneReading) (texts : OneText) (noted : AreNoted) (files : Files) (name : List ℕ) (cs : List (Option PlainCommand)) (ss : List Step) (h : Held) → CommandsDid files cs ss → HandedIn files name cs ss h → Holds (files_after files ss) name h
handed-holds one reading texts noted files name [] ss h did made = absurd made
handed-holds one reading texts noted files name (c ∷ cs) [] h did made = absurd made
handed-holds one reading texts noted files name (c ∷ cs) (s ∷ ss) h did (inl made) =
    let behind = all-hold one s.files name cs ss made.first (step-archive reading texts noted files name c s made.first did.0 made.answered made.begins) did.1 in
    subst (Holds (files_after s.files ss) name) (one-after one s.files name cs ss made.first behind.held h behind.after made.after) behind.archive
handed-holds one reading texts noted files name (c ∷ cs) (s ∷ ss) h did (inr later) = handed-holds one reading texts noted s.files name cs ss h did.1 later

-- no other bytes are the encoding
pub exact : ((c : Contents) (a b : List ℕ) → FullOf c a → FullOf c b → a ≡ b)
    → ((c : Contents) (bytes : List ℕ) → FullAs c bytes → FullOf c bytes)
    → (files : Files) (name : List ℕ) (h : Held) → Holds files name h → HoldsExactly files name h
exact one defined files name h a = record {
  archive = a;
  exactly = λ bytes. (
    λ e. subst (FullOf h) (some-same a.bytes bytes (sym a.there ∙ e)) (defined h a.bytes a.full),
    λ file. a.there ∙ ap (λ b. Some b) (one h a.bytes bytes (defined h a.bytes a.full) file),
  );
}
  where
    some-same : (x y : List ℕ) → Some x ≡ Some y → x ≡ y
    some-same x y e = cc

-- ---- a name that has no file

module _ (files : Files) (name : List ℕ) (none : finite.get files name ≡ None) (o : Outcome) where
  abbrev StaysAbsent : Type 0
  StaysAbsent = finite.get o.files name ≡ None

  stays : finite.get o.files name ≡ finite.get files name → StaysAbsent
  stays e = e ∙ none

  -- there is nothing to add to
  add-absent : (other doc note : List ℕ) → bytes_eq name other ≡ true → MayBe files (add other doc note) (Ok o) → StaysAbsent
  add-absent other doc note e m =
      let none-here = subst (λ n. finite.get files n ≡ None) (same-name name other e) none in
      let refused : add_input files other doc ≡ Err (no_file other) = rw none-here refl in
      goes o (short_note note) (λ _. MayOver files other (GoesOn (add_input files other doc) (λ _. MayAdd files other)) (AddsTo files other doc note)) (Ok o) refl m
      (λ _ _ over. goes o (add_input files other doc) (λ _. MayAdd files other) (Ok o) refl over.whatever (λ p is _. absurd cc))

  rekey-absent : (other spec : List ℕ) → bytes_eq name other ≡ true → MayBe files (rekey other spec) (Ok o) → StaysAbsent
  rekey-absent other spec e m =
      let none-here = subst (λ n. finite.get files n ≡ None) (same-name name other e) none in
      let refused : rekey_rules files other spec ≡ Err (no_file other) = rw none-here refl in
      goes o (rekey_rules files other spec) (λ _. DamagedOrSound files other) (Ok o) refl m.whatever (λ p is _. absurd cc)

  one-absent : (command : PlainCommand) → ¬ MakesFile name (Some command) → MayBe files command (Ok o) → StaysAbsent
  one-absent (norm spec doc) refused m = stays (others-kept files name o (Ok o) refl (norm spec doc) refl m)
  one-absent (init other spec) refused m = by-name (bytes_eq name other) (λ e. absurd (refused (same-name name other e))) (λ e. stays (others-kept files name o (Ok o) refl (init other spec) e m))
  one-absent (add other doc note) refused m = by-name (bytes_eq name other) (λ e. add-absent other doc note e m) (λ e. stays (others-kept files name o (Ok o) refl (add other doc note) e m))
  one-absent (rekey other spec) refused m = by-name (bytes_eq name other) (λ e. rekey-absent other spec e m) (λ e. stays (others-kept files name o (Ok o) refl (rekey other spec) e m))
  one-absent (get other i) refused m = stays (others-kept files name o (Ok o) refl (get other i) refl m)
  one-absent (history other path) refused m = stays (others-kept files name o (Ok o) refl (history other path) refl m)
  one-absent (log other path) refused m = stays (others-kept files name o (Ok o) refl (log other path) refl m)
  one-absent (check other) refused m = stays (others-kept files name o (Ok o) refl (check other) refl m)
  one-absent (stats other) refused m = stays (others-kept files name o (Ok o) refl (stats other) refl m)
  one-absent (versions other) refused m = stays (others-kept files name o (Ok o) refl (versions other) refl m)
  one-absent (export other) refused m = stays (others-kept files name o (Ok o) refl (export other) refl m)
  one-absent (import text new) refused m = by-name (bytes_eq name new) (λ e. absurd (refused (same-name name new e))) (λ e. stays (others-kept files name o (Ok o) refl (import text new) e m))
  one-absent (cut other new i j) refused m = by-name (bytes_eq name new) (λ e. absurd (refused (same-name name new e))) (λ e. stays (others-kept files name o (Ok o) refl (cut other new i j) e m))
  one-absent (join one two new) refused m = by-name (bytes_eq name new) (λ e. absurd (refused (same-name name new e))) (λ e. stays (others-kept files name o (Ok o) refl (join one two new) e m))
  one-absent (table csv tag keys doc) refused m = by-name (bytes_eq name doc) (λ e. absurd (refused (same-name name doc e))) (λ e. stays (others-kept files name o (Ok o) refl (table csv tag keys doc) e m))
  one-absent (tablekeys tag keys spec) refused m = by-name (bytes_eq name spec) (λ e. absurd (refused (same-name name spec e))) (λ e. stays (others-kept files name o (Ok o) refl (tablekeys tag keys spec) e m))
  one-absent batch refused m = stays (others-kept files name o (Ok o) refl batch refl m)
  one-absent (demo seed count other) refused m = by-name (bytes_eq name other) (λ e. absurd (refused (same-name name other e))) (λ e. stays (others-kept files name o (Ok o) refl (demo seed count other) e m))

outcome-absent : (files : Files) (name : List ℕ) (command : PlainCommand) (s : Step) (written : List ℕ) (r : Result Outcome Refusal) → finite.get files name ≡ None → MayBe files command r → s ≡ step_behind files written r
    → (MakesFile name (Some command) → s.status ≢ 0) → finite.get s.files name ≡ None
outcome-absent files name command s written (Err q) none m is refused = subst (λ (z : Step). finite.get z.files name ≡ None) (sym is) none
outcome-absent files name command s written (Ok o) none m is refused =
    subst (λ (z : Step). finite.get z.files name ≡ None) (sym is) (one-absent files name none o command (λ makes. refused makes (ap (λ (z : Step). z.status) is)) m)

step-absent : (files : Files) (name : List ℕ) (command : Option PlainCommand) (s : Step) → finite.get files name ≡ None → CommandMay files command s → (MakesFile name command → s.status ≢ 0) → finite.get s.files name ≡ None
step-absent files name None s none m refused = subst (λ (u : Files). finite.get u name ≡ None) (sym (none-kept files s m)) none
step-absent files name (Some command) s none m refused = outcome-absent files name command s m.written m.outcome none m.may m.is refused

pub all-absent : (files : Files) (name : List ℕ) (cs : List (Option PlainCommand)) (ss : List Step) → finite.get files name ≡ None → CommandsDid files cs ss → NoneMakes name cs ss → finite.get (files_after files ss) name ≡ None
all-absent files name [] [] none did refused = none
all-absent files name [] (s ∷ ss) none did refused = absurd did
all-absent files name (c ∷ cs) [] none did refused = none
all-absent files name (c ∷ cs) (s ∷ ss) none did refused = all-absent s.files name cs ss (step-absent files name c s none did.0 refused.0) did.1 refused.1

-- ---- commands over an archive

module _ (files : Files) (name : List ℕ) (h : Held) (s : Step) (a : Holds files name h) where
  pub satisfying : (doc note : List ℕ) (k : PlainKeyed) → CommandMay files (Some (add name doc note)) s → IsHandedIn files doc note h k → s.status ≡ 0
  satisfying doc note k m handed = by_outcome m.outcome m.may m.is
    where
      by_outcome : (r : Result Outcome Refusal) → MayBe files (add name doc note) r → s ≡ step_behind files m.written r → s.status ≡ 0
      by_outcome (Ok o) may is = ap (λ (z : Step). z.status) is
      by_outcome (Err q) may is = absurd (not-refused files name h a doc note k q handed may)

  pub accepted : (doc note : List ℕ) → CommandMay files (Some (add name doc note)) s → s.status ≡ 0 → Accepted files name doc note h s.files
  accepted doc note m success = by_outcome m.outcome m.may m.is
    where
      by_outcome : (r : Result Outcome Refusal) → MayBe files (add name doc note) r → s ≡ step_behind files m.written r → Accepted files name doc note h s.files
      by_outcome (Ok o) may is = subst (λ (z : Step). Accepted files name doc note h z.files) (sym is) (was-handed files name h a doc note o may)
      by_outcome (Err q) may is = refused-status files s m.written q is success

  pub rekeying : (one : OneRekeying) (spec : List ℕ) (i : Held) → CommandMay files (Some (rekey name spec)) s → IsRekeyed files name spec h i → s.status ≡ 0
  rekeying one spec i m keyed = by_outcome m.outcome m.may m.is
    where
      by_outcome : (r : Result Outcome Refusal) → MayBe files (rekey name spec) r → s ≡ step_behind files m.written r → s.status ≡ 0
      by_outcome (Ok o) may is = ap (λ (z : Step). z.status) is
      by_outcome (Err q) may is = absurd (not-rekeyed files name h a one spec i q keyed may)

  pub keys-taken : (spec : List ℕ) → CommandMay files (Some (rekey name spec)) s → s.status ≡ 0 → TakesKeys files name spec h s.files
  keys-taken spec m success = by_outcome m.outcome m.may m.is
    where
      by_outcome : (r : Result Outcome Refusal) → MayBe files (rekey name spec) r → s ≡ step_behind files m.written r → TakesKeys files name spec h s.files
      by_outcome (Ok o) may is = subst (λ (z : Step). TakesKeys files name spec h z.files) (sym is) (was-rekeyed files name h a spec o may)
      by_outcome (Err q) may is = refused-status files s m.written q is success

  pub keys-told : (spec : List ℕ) → CommandMay files (Some (rekey name spec)) s → ChangesOrTells files name spec h s
  keys-told spec m = record { outcome = m.outcome; comes = m.may.sound h a; is = plain-step files (Some (rekey name spec)) s m (no-late files (Some (rekey name spec)) m.outcome (λ q late. late)) }

  pub getting : (i : ℕ) → CommandMay files (Some (get name i)) s → s ≡ step_from files (version_text files h.versions i)
  getting i m = plain-step files (Some (get name i)) s m (late-unsound files name i h m.outcome a m.may) ∙ ap (step_from files) (m.may.sound h a)

  pub telling : (path : List ℕ) → CommandMay files (Some (history name path)) s → s ≡ step_from files (history_text files h.rules h.versions path)
  telling path m = plain-step files (Some (history name path)) s m (no-late files (Some (history name path)) m.outcome (λ q late. late)) ∙ ap (step_from files) (m.may.sound h a)

  pub logging : (path : List ℕ) → CommandMay files (Some (log name path)) s → s ≡ step_from files (logged files h.rules h.versions path)
  logging path m = plain-step files (Some (log name path)) s m (late-unlogged files name path h m.outcome a m.may) ∙ ap (step_from files) (m.may.sound h a)

  pub exporting : CommandMay files (Some (export name)) s → WritesText files h s
  exporting m = record { outcome = m.outcome; text = m.may.sound h a; is = plain-step files (Some (export name)) s m (no-late files (Some (export name)) m.outcome (λ q late. late)) }

  pub cutting : (new : List ℕ) (i j : ℕ) → CommandMay files (Some (cut name new i j)) s → CutsOrTells files new i j h s
  cutting new i j m = record { outcome = m.outcome; comes = m.may.sound h a; is = plain-step files (Some (cut name new i j)) s m (no-late files (Some (cut name new i j)) m.outcome (λ q late. late)) }

  pub joining : (two new : List ℕ) (g : Held) → Holds files two g → CommandMay files (Some (join name two new)) s → JoinsOrTells files name two new h g s
  joining two new g b m = record { outcome = m.outcome; comes = m.may.sound h g a b; is = plain-step files (Some (join name two new)) s m (no-late files (Some (join name two new)) m.outcome (λ q late. late)) }

  pub counting : CommandMay files (Some (stats name)) s → WritesCounts files h s
  counting m = record { outcome = m.outcome; counts = m.may.sound h a; is = plain-step files (Some (stats name)) s m (no-late files (Some (stats name)) m.outcome (λ q late. late)) }

  pub listing : CommandMay files (Some (versions name)) s → s ≡ step_from files (listed files h.notes)
  listing m = plain-step files (Some (versions name)) s m (late-unlisted files name h m.outcome a m.may) ∙ ap (step_from files) (m.may.sound h a)

-- ---- what is held

-- what holds of all versions holds of each
at-version : (P : PlainKeyed → Type 0) (vs : List PlainKeyed) (i : ℕ) (k : PlainKeyed) → AllByRecursion P vs → version_of vs i ≡ Some k → P k
at-version P vs zero k all is = absurd cc
at-version P [] (suc i) k all is = absurd cc
at-version P (v ∷ vs) (suc zero) k all is = (let same : v ≡ k = cc in subst P same all.0)
at-version P (v ∷ vs) (suc (suc i)) k all is = at-version P vs (suc i) k all.1 is

pub in-order : (files : Files) (name : List ℕ) (h : Held) (i : ℕ) (k : PlainKeyed) → Holds files name h → version_of h.versions i ≡ Some k → IsOrdered k × IsKeyedBy h.rules k
in-order files name h i k a is = (at-version IsOrdered h.versions i k a.full.is.file.is.ordered is, at-version (IsKeyedBy h.rules) h.versions i k a.full.is.keyed is)

-- ---- what should succeed

pub should-succeed : ((files : Files) (command : PlainCommand) (q : Refusal) → ShouldSucceed files command → MayBe files command (Err q) → ⊥)
    → (files : Files) (command : PlainCommand) (s : Step) → CommandMay files (Some command) s → ShouldSucceed files command → s.status ≡ 0
should-succeed never files command s m should = by_outcome m.outcome m.may m.is
  where
    by_outcome : (r : Result Outcome Refusal) → MayBe files command r → s ≡ step_behind files m.written r → s.status ≡ 0
    by_outcome (Ok o) may is = ap (λ (z : Step). z.status) is
    by_outcome (Err q) may is = absurd (never files command q should may)
