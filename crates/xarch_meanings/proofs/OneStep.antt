-- What a command may do is what is defined, where that is. It is so since versions have one archive and one file, at whose
-- front their number stands.
use Rattle.std.proofs.Common.{◌≡◌, inl, inr, ℕ, List, [], length, Option, Some, None, Result, Ok, Err, sym, ap, ◌∙◌, subst, refl}
use Rattle.std.specs.FinMap as map
use Rattle.xa_outside.specs.Folder.{Files}
use Rattle.key_spec.specs.Data.{PlainRule}
use Rattle.keyed_tree.specs.Data.{PlainKeyed}
use Rattle.archive_tree.specs.Data.{PlainArchive}
use Rattle.archive_tree.specs.Stands.{ArchiveOf}
use Rattle.record_format.specs.Files.{FileOf}
use Rattle.noted_file.specs.Contents.{Contents, header_of, unnoted, with_keys, with_version}
use Rattle.noted_file.specs.Full.{Full, FullAs, FullOf}
use Rattle.archive_stats.specs.Counts.{PlainCounts, counts}
use Rattle.key_rules.specs.Faults.{PlainKeyFault}
use Rattle.archive_rekey.specs.Rekeyed.{AreRekeyed, IsFirstBad}
use Rattle.archive_text.specs.Export.{ExportOf, export_text}
use Rattle.xarch_gen.specs.Company.{company_rules}
use Rattle.xarch_words.specs.Commands.{PlainCommand, norm, init, add, rekey, get, history, log, check, stats, versions, export, import, cut, join, table, tablekeys, batch, demo}
use Rattle.xarch_words.specs.Refusal.{Refusal, no_file, key_fault_in, damaged}
use Rattle.xarch_meanings.specs.Add.{add_input, added, AddsTo, MayAdd}
use Rattle.xarch_meanings.specs.Check.{IsFound, check_text}
use Rattle.xarch_meanings.specs.Cut.{cut_checked, cut_input, CutsFrom, slice}
use Rattle.xarch_meanings.specs.Export.{ExportsFrom}
use Rattle.xarch_parts.specs.Archives.{ArchiveIs, GoesOn, Opens, Stores, short_note}
use Rattle.xarch_meanings.specs.Demo.{MakesOrNone, demo_input, samples}
use Rattle.xarch_meanings.specs.Import.{ImportsFrom, import_text}
use Rattle.xarch_meanings.specs.Init.{init_rules}
use Rattle.xarch_meanings.specs.Join.{join_checked, join_input, joined, JoinsFrom, MayJoin, MayOverBoth}
use Rattle.xarch_parts.specs.Inputs.{file_of}
use Rattle.xarch_parts.specs.Outcome.{Outcome, Step, step_from}
use Rattle.xarch_meanings.specs.Plausible.{IsLate, Plausible}
use Rattle.xarch_meanings.specs.Over.{DamagedOrSound, MayMake, MayOver, MayWrite}
use Rattle.xarch_meanings.specs.Meanings.{DoesOrRefuses, MayBe, MayComeLate, MayDo, OutcomeIs}
use Rattle.xarch_meanings.specs.Get.{GetsFrom, get_input}
use Rattle.xarch_meanings.specs.History.{TellsFrom, history_input}
use Rattle.xarch_meanings.specs.Log.{LogsFrom, log_input}
use Rattle.xarch_meanings.specs.Versions.{ListsFrom, versions_input}
use Rattle.xarch_meanings.specs.PlausibleLaws.{late-unlisted, late-unlogged, late-unsound, plain-step}
use Rattle.xarch_meanings.specs.Rekey.{RekeysFrom, RekeysTo, rekey_rules}
use Rattle.xarch_meanings.specs.Stats.{CountsFrom, noted_counts, stats_input}
use Rattle.xarch_parts.specs.Counts.{counts_text}
use Rattle.xarch_meanings.specs.Step.{Defines, StepIs, single_of}

module _ (one_archive : (vs : List PlainKeyed) (a b : PlainArchive) → ArchiveOf vs a → ArchiveOf vs b → a ≡ b)
    (one_file : (rules : List PlainRule) (vs : List PlainKeyed) (b c : List ℕ) → FileOf rules vs b → FileOf rules vs c → b ≡ c)
    (one_full : (held : Contents) (b c : List ℕ) → FullOf held b → FullOf held c → b ≡ c)
    (defined : (c : Contents) (b : List ℕ) → FullAs c b → FullOf c b)
    (one_reading : (c d : Contents) (b : List ℕ) → FullAs c b → FullAs d b → c ≡ d)
    (one_text : (c d : Contents) (file other text : List ℕ) → FullAs c file → FullAs d other → ExportOf c text → ExportOf d text → c ≡ d)
    (one_list : (rules : List PlainRule) (vs us ws : List PlainKeyed) → AreRekeyed rules vs us → AreRekeyed rules vs ws → us ≡ ws)
    (one_fault : (rules : List PlainRule) (vs : List PlainKeyed) (i j : ℕ) (f g : PlainKeyFault) → IsFirstBad rules vs i f → IsFirstBad rules vs j g → (i ≡ j) × (f ≡ g))
    (apart : (rules : List PlainRule) (vs us : List PlainKeyed) (i : ℕ) (f : PlainKeyFault) → AreRekeyed rules vs us → ¬ IsFirstBad rules vs i f) where
  one_stored : (files : Files) (name : List ℕ) (c : Contents) (r s : Result Outcome Refusal) → Stores files name c r → Stores files name c s → s ≡ r
  one_stored files name c r s (inl p) (inl q) =
      let same = one_full c q.bytes p.bytes (defined c q.bytes q.full) (defined c p.bytes p.full) in
      q.is ∙ ap (λ b. Ok (record { files = map.insert files name b; output = [] })) same ∙ sym p.is
  one_stored files name c r s (inl p) (inr q) = absurd (q.none p.full.core p.full.is.file)
  one_stored files name c r s (inr p) (inl q) = absurd (p.none q.full.core q.full.is.file)
  one_stored files name c r s (inr p) (inr q) = q.is ∙ sym p.is

  one_way : {A : Type 0} (x : Result A Refusal) (P : A → Result Outcome Refusal → Type 0) → ((a : A) (r s : Result Outcome Refusal) → P a r → P a s → s ≡ r) → (r s : Result Outcome Refusal) → GoesOn x P r → GoesOn x P s → s ≡ r
  one_way (Ok a) P h r s p q = h a r s p q
  one_way (Err e) P h r s p q = q ∙ sym p

  -- what begins with a file that is not there is refused
  get_absent : (files : Files) (name : List ℕ) (i : ℕ) → map.get files name ≡ None → get_input files name i ≡ Err (no_file name)
  get_absent files name i e = rw e refl

  add_absent : (files : Files) (name doc : List ℕ) → map.get files name ≡ None → add_input files name doc ≡ Err (no_file name)
  add_absent files name doc e = rw e refl

  history_absent : (files : Files) (name path : List ℕ) → map.get files name ≡ None → history_input files name path ≡ Err (no_file name)
  history_absent files name path e = rw e refl

  log_absent : (files : Files) (name path : List ℕ) → map.get files name ≡ None → log_input files name path ≡ Err (no_file name)
  log_absent files name path e = rw e refl

  cut_absent : (files : Files) (name new : List ℕ) (i j : ℕ) → map.get files name ≡ None → cut_input files name new i j ≡ Err (no_file name)
  cut_absent files name new i j e = rw e refl

  join_absent : (files : Files) (one two new : List ℕ) → map.get files one ≡ None → join_input files one two new ≡ Err (no_file one)
  join_absent files one two new e = rw e refl

  -- so it is where the first file is there, but not the second
  second_absent : (files : Files) (one two new bytes : List ℕ) → map.get files one ≡ Some bytes → map.get files two ≡ None → join_input files one two new ≡ Err (no_file two)
  second_absent files one two new bytes h e = rw (h, e) refl

  stats_absent : (files : Files) (name : List ℕ) → map.get files name ≡ None → stats_input files name ≡ Err (no_file name)
  stats_absent files name e = rw e refl

  versions_absent : (files : Files) (name : List ℕ) → map.get files name ≡ None → versions_input files name ≡ Err (no_file name)
  versions_absent files name e = rw e refl

  -- versions have one archive, and it has one count
  one_counted : (files : Files) (c : Contents) (r s : Result Outcome Refusal) → CountsFrom files c r → CountsFrom files c s → s ≡ r
  one_counted files c r s p q =
      q.is ∙ ap (λ (a : PlainArchive). Ok (record { files = files; output = counts_text (noted_counts c.rules a c.notes) })) (one_archive c.versions q.archive p.archive q.of p.of) ∙ sym p.is

  -- and one text
  one_exported : (files : Files) (c : Contents) (r s : Result Outcome Refusal) → ExportsFrom files c r → ExportsFrom files c s → s ≡ r
  one_exported files c r s p q =
      let same : q.text ≡ p.text = q.of.spelled ∙ ap (λ (a : PlainArchive). export_text c.rules a c.notes) (one_archive c.versions q.of.archive p.of.archive q.of.is p.of.is) ∙ sym p.of.spelled in
      q.is ∙ ap (λ (t : List ℕ). Ok (record { files = files; output = t })) same ∙ sym p.is

  -- some of its versions have one file with their notes
  one_cut : (files : Files) (new : List ℕ) (i j : ℕ) (c : Contents) (r s : Result Outcome Refusal) → CutsFrom files new i j c r → CutsFrom files new i j c s → s ≡ r
  one_cut files new i j c r s p q =
      one_way (cut_checked files new i j (length c.versions)) (λ _. Stores files new (slice i j c)) (λ _. one_stored files new (slice i j c)) r s p q

  -- the versions of two archives have one file with their notes
  one_joined : (files : Files) (one two new : List ℕ) (c d : Contents) (r s : Result Outcome Refusal)
      → JoinsFrom files one two new c d r → JoinsFrom files one two new c d s → s ≡ r
  one_joined files one two new c d r s p q =
      one_way (join_checked files one two new (header_of c) (header_of d)) (λ _. Stores files new (joined c d)) (λ _. one_stored files new (joined c d)) r s p q

  -- and what a `join` comes to, whether the second archive is there or not, where the first is
  one_behind : (files : Files) (one two new : List ℕ) (c : Contents) (r s : Result Outcome Refusal) → ArchiveIs files one c
      → Opens files two (JoinsFrom files one two new c) r → MayOverBoth files one two (GoesOn (join_input files one two new) (λ _. MayJoin files one two new)) (JoinsFrom files one two new) s → s ≡ r
  one_behind files one two new c r s a (inl p) q = subst (λ x. GoesOn x (λ _. MayJoin files one two new) s) (second_absent files one two new a.bytes a.there p.absent) q.whatever ∙ sym p.is
  one_behind files one two new c r s a (inr p) q =
      one_joined files one two new c p.contents r s p.rest (q.sound c p.contents a p.archive)

  -- what is one archive with notes has one file
  same_file : (c d : Contents) (a b : List ℕ) → c ≡ d → FullAs c a → FullAs d b → a ≡ b
  same_file c d a b same p q = one_full d a b (defined d a (subst (λ (x : Contents). FullAs x a) same p)) (defined d b q)

  -- a text is that of one archive with notes, or of none
  one_imported : (files : Files) (new bytes : List ℕ) (r s : Result Outcome Refusal) → ImportsFrom files new bytes r → ImportsFrom files new bytes s → s ≡ r
  one_imported files new bytes r s (inl p) (inl q) =
      let same = one_text q.contents p.contents q.stored.bytes p.stored.bytes bytes q.stored.full p.stored.full q.spelled p.spelled in
      let one = same_file q.contents p.contents q.stored.bytes p.stored.bytes same q.stored.full p.stored.full in
      q.stored.is ∙ ap (λ (b : List ℕ). Ok (record { files = map.insert files new b; output = [] })) one ∙ sym p.stored.is
  one_imported files new bytes r s (inl p) (inr q) = absurd (q.none p.contents p.stored.bytes p.stored.full p.spelled)
  one_imported files new bytes r s (inr p) (inl q) = absurd (p.none q.contents q.stored.bytes q.stored.full q.spelled)
  one_imported files new bytes r s (inr p) (inr q) = q.is ∙ sym p.is

  -- a file has one number of versions, and is not sound and damaged
  same_count : (bytes : List ℕ) (p q : Full bytes) → length q.contents.versions ≡ length p.contents.versions
  same_count bytes p q = ap (λ (c : Contents). length c.versions) (one_reading q.contents p.contents bytes q.is p.is)

  one_found : (files : Files) (name bytes : List ℕ) (r s : Result Outcome Refusal) → IsFound files name bytes r → IsFound files name bytes s → s ≡ r
  one_found files name bytes r s (inl p) (inl q) = q.is ∙ ap (λ (n : ℕ). Ok (record { files = files; output = check_text n })) (same_count bytes p.full q.full) ∙ sym p.is
  one_found files name bytes r s (inl p) (inr q) = absurd (q.unsound p.full)
  one_found files name bytes r s (inr p) (inl q) = absurd (p.unsound q.full)
  one_found files name bytes r s (inr p) (inr q) = q.is ∙ sym p.is

  one_made : (files : Files) (name : List ℕ) (seed count : ℕ) (r s : Result Outcome Refusal) → MakesOrNone files name seed count r → MakesOrNone files name seed count s → s ≡ r
  one_made files name seed count r s (inl p) (inl q) =
      let same = one_file company_rules (samples seed count) q.bytes p.bytes q.made.sound.file p.made.sound.file in
      let archives = one_archive (samples seed count) q.made.archive p.made.archive q.made.of p.made.of in
      let tallies : q.tally ≡ p.tally = q.made.tells ∙ ap (counts company_rules) archives ∙ sym p.made.tells in
      q.is
      ∙ ap (λ b. Ok (record { files = map.insert files name b; output = counts_text q.tally })) same
      ∙ ap (λ (c : PlainCounts). Ok (record { files = map.insert files name p.bytes; output = counts_text c })) tallies
      ∙ sym p.is
  one_made files name seed count r s (inl p) (inr q) = absurd (q.none p.bytes p.made.sound.file)
  one_made files name seed count r s (inr p) (inl q) = absurd (p.none q.bytes q.made.sound.file)
  one_made files name seed count r s (inr p) (inr q) = q.is ∙ sym p.is

  -- versions are one list under other rules, or one of them is the first bad one
  one_told : (i j : ℕ) (f g : PlainKeyFault) → i ≡ j → f ≡ g → ◌≡◌ {A = Result Outcome Refusal} (Err (key_fault_in j g)) (Err (key_fault_in i f))
  one_told i j f g e h = cc

  one_rekeyed : (files : Files) (name : List ℕ) (c : Contents) (rules : List PlainRule) (r s : Result Outcome Refusal) → RekeysTo files name c rules r → RekeysTo files name c rules s → s ≡ r
  one_rekeyed files name c rules r s (inl p) (inl q) =
      one_stored files name (with_keys c rules p.versions) r s p.rest (subst (λ (us : List PlainKeyed). Stores files name (with_keys c rules us) s) (one_list rules c.versions q.versions p.versions q.are p.are) q.rest)
  one_rekeyed files name c rules r s (inl p) (inr q) = absurd (apart rules c.versions p.versions q.number q.fault p.are q.first)
  one_rekeyed files name c rules r s (inr p) (inl q) = absurd (apart rules c.versions q.versions p.number p.fault q.are p.first)
  one_rekeyed files name c rules r s (inr p) (inr q) =
      let same = one_fault rules c.versions p.number q.number p.fault q.fault p.first q.first in
      q.is ∙ one_told p.number q.number p.fault q.fault same.0 same.1 ∙ sym p.is

  rekey_absent : (files : Files) (name spec : List ℕ) → map.get files name ≡ None → rekey_rules files name spec ≡ Err (no_file name)
  rekey_absent files name spec e = rw e refl

  -- what an archive comes to that is absent or sound
  one_over : {A : Type 0} (files : Files) (name : List ℕ) (x : Result A Refusal) (P : A → Result Outcome Refusal → Type 0) (Q : Contents → Result Outcome Refusal → Type 0) → (map.get files name ≡ None → x ≡ Err (no_file name))
      → ((c : Contents) (r s : Result Outcome Refusal) → Q c r → Q c s → s ≡ r) → (r s : Result Outcome Refusal) → Opens files name Q r → MayOver files name (GoesOn x P) Q s → s ≡ r
  one_over files name x P Q none one r s (inl p) q = subst (λ y. GoesOn y P s) (none p.absent) q.whatever ∙ sym p.is
  one_over files name x P Q none one r s (inr p) q = one p.contents r s p.rest (q.sound p.contents p.archive)

  -- what an `add` that is short enough comes to
  one_added : (files : Files) (name doc note : List ℕ) (r s : Result Outcome Refusal) → Opens files name (AddsTo files name doc note) r
      → MayOver files name (GoesOn (add_input files name doc) (λ _. MayAdd files name)) (AddsTo files name doc note) s → s ≡ r
  one_added files name doc note = one_over files name (add_input files name doc) (λ _. MayAdd files name) (AddsTo files name doc note) (add_absent files name doc)
      (λ c. one_way (added files doc c.rules (length c.versions)) (λ k. Stores files name (with_version c k note)) (λ k. one_stored files name (with_version c k note)))

  one_either : {A : Type 0} (x : Result A Refusal) (P Q : A → Result Outcome Refusal → Type 0) → ((a : A) (r s : Result Outcome Refusal) → P a r → Q a s → s ≡ r) → (r s : Result Outcome Refusal) → GoesOn x P r → GoesOn x Q s → s ≡ r
  one_either (Ok a) P Q h r s p q = h a r s p q
  one_either (Err e) P Q h r s p q = q ∙ sym p

  one : (files : Files) (command : PlainCommand) (r s : Result Outcome Refusal) → OutcomeIs files command r → MayBe files command s → s ≡ r
  one files (norm spec doc) r s p q = q ∙ sym p
  one files (init name spec) r s p q = one_way (init_rules files name spec) (λ rules. Stores files name (unnoted rules [])) (λ rules. one_stored files name (unnoted rules [])) r s p q
  one files (add name doc note) r s p q =
      one_either (short_note note) (λ _. Opens files name (AddsTo files name doc note)) (λ _. MayOver files name (GoesOn (add_input files name doc) (λ _. MayAdd files name)) (AddsTo files name doc note)) (λ _. one_added files name doc note) r s p q
  one files (rekey name spec) r s p q = one_over files name (rekey_rules files name spec) (λ _. DamagedOrSound files name) (RekeysFrom files name spec) (rekey_absent files name spec)
      (λ c. one_way (rekey_rules files name spec) (RekeysTo files name c) (one_rekeyed files name c)) r s p q
  one files (get name i) r s p q = one_over files name (get_input files name i) (λ _. MayWrite files name) (GetsFrom files i) (get_absent files name i) (λ c a b e f. f ∙ sym e) r s p q
  one files (history name path) r s p q = one_over files name (history_input files name path) (λ _. MayWrite files name) (TellsFrom files path) (history_absent files name path) (λ c a b e f. f ∙ sym e) r s p q
  one files (log name path) r s p q = one_over files name (log_input files name path) (λ _. MayWrite files name) (LogsFrom files path) (log_absent files name path) (λ c a b e f. f ∙ sym e) r s p q
  one files (check name) r s p q = one_way (file_of files name) (IsFound files name) (one_found files name) r s p q
  one files (stats name) r s p q = one_over files name (stats_input files name) (λ _. MayWrite files name) (CountsFrom files) (stats_absent files name) (one_counted files) r s p q
  one files (versions name) r s p q = one_over files name (versions_input files name) (λ _. MayWrite files name) (ListsFrom files) (versions_absent files name) (λ c a b e f. f ∙ sym e) r s p q
  one files (export name) r s p q = one_over files name (stats_input files name) (λ _. DamagedOrSound files name) (ExportsFrom files) (stats_absent files name) (one_exported files) r s p q
  one files (import text new) r s p q = one_way (import_text files text new) (ImportsFrom files new) (one_imported files new) r s p q
  one files (cut name new i j) r s p q = one_over files name (cut_input files name new i j) (λ _. MayMake files name new) (CutsFrom files new i j) (cut_absent files name new i j) (one_cut files new i j) r s p q
  one files (join first two new) r s (inl p) q = subst (λ x. GoesOn x (λ _. MayJoin files first two new) s) (join_absent files first two new p.absent) q.whatever ∙ sym p.is
  one files (join first two new) r s (inr p) q = one_behind files first two new p.contents r s p.archive p.rest q
  one files (table csv tag keys doc) r s p q = q ∙ sym p
  one files (tablekeys tag keys spec) r s p q = q ∙ sym p
  one files batch r s p q = q ∙ sym p
  one files (demo seed count name) r s p q = one_way (demo_input files count name) (λ _. MakesOrNone files name seed count) (λ _. one_made files name seed count) r s p q

  one_does : (files : Files) (command : Option PlainCommand) (r s : Result Outcome Refusal) → DoesOrRefuses files command r → MayDo files command s → s ≡ r
  one_does files None r s p q = q ∙ sym p
  one_does files (Some command) r s p q = one files command r s p q

  -- the words may have no other outcome than the defined one
  pub one_outcome : (files : Files) (words : List (List ℕ)) (r s : Result Outcome Refusal) → Defines files words r → MayDo files (single_of words) s → s ≡ r
  one_outcome files words r s p q = one_does files (single_of words) r s p q

  -- where the outcome is defined, no refusal comes late: an archive that is not there is not damaged
  late_absent : (name : List ℕ) (e : Refusal) (r : Result Outcome Refusal) → e ≡ damaged name → Err e ≡ r → r ≡ Err (no_file name) → ⊥
  late_absent name e r damage same missing = (let wrong : ◌≡◌ {A = Result Outcome Refusal} (Err (damaged name)) (Err (no_file name)) = ap (λ q. Err q) (sym damage) ∙ same ∙ missing in cc)

  none_late : (files : Files) (command : PlainCommand) (r : Result Outcome Refusal) (e : Refusal) → OutcomeIs files command r → MayBe files command (Err e) → ¬ MayComeLate files (Some command) e
  none_late files (norm spec doc) r e p q late = late
  none_late files (init name spec) r e p q late = late
  none_late files (add name doc note) r e p q late = late
  none_late files (rekey name spec) r e p q late = late
  none_late files (get name i) r e (inl p) q late = late_absent name e r late.0 (one files (get name i) r (Err e) (inl p) q) p.is
  none_late files (get name i) r e (inr p) q late = late-unsound files name i p.contents (Err e) p.archive q late
  none_late files (history name path) r e p q late = late
  none_late files (log name path) r e (inl p) q late = late_absent name e r late.0 (one files (log name path) r (Err e) (inl p) q) p.is
  none_late files (log name path) r e (inr p) q late = late-unlogged files name path p.contents (Err e) p.archive q late
  none_late files (check name) r e p q late = late
  none_late files (stats name) r e p q late = late
  none_late files (versions name) r e (inl p) q late = late_absent name e r late.0 (one files (versions name) r (Err e) (inl p) q) p.is
  none_late files (versions name) r e (inr p) q late = late-unlisted files name p.contents (Err e) p.archive q late
  none_late files (export name) r e p q late = late
  none_late files (import text new) r e p q late = late
  none_late files (cut name new i j) r e p q late = late
  none_late files (join first two new) r e p q late = late
  none_late files (table csv tag keys doc) r e p q late = late
  none_late files (tablekeys tag keys spec) r e p q late = late
  none_late files batch r e p q late = late
  none_late files (demo seed count name) r e p q late = late

  none_does : (files : Files) (command : Option PlainCommand) (r s : Result Outcome Refusal) → DoesOrRefuses files command r → MayDo files command s → ¬ IsLate files command s
  none_does files c r (Ok o) p q late = late
  none_does files None r (Err e) p q late = late
  none_does files (Some command) r (Err e) p q late = none_late files command r e p q late

  -- no other step than the defined one
  pub one_step : (files : Files) (words : List (List ℕ)) (s t : Step) → StepIs files words s → Plausible files words t → s ≡ t
  one_step files words s t p q =
      p.is ∙ sym (ap (step_from files) (one_outcome files words p.outcome q.outcome p.defined q.may))
      ∙ sym (plain-step files (single_of words) t q (none_does files (single_of words) p.outcome q.outcome p.defined q.may))
