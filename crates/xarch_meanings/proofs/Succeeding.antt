-- A command that should succeed is not refused.
use Rattle.std.proofs.Common.{◌≡◌, inl, inr, ℕ, List, [], length, Option, Some, Result, Ok, Err, ap, ◌∙◌, subst}
use Rattle.xa_outside.specs.Folder.{Files}
use Rattle.key_spec.specs.Data.{PlainRule}
use Rattle.keyed_tree.specs.Data.{PlainKeyed}
use Rattle.archive_tree.specs.History.{hist}
use Rattle.record_format.specs.Files.{FileOf}
use Rattle.noted_file.specs.Contents.{Contents, header_of, unnoted, with_keys, with_version}
use Rattle.noted_file.specs.Full.{Full, FullAs}
use Rattle.archive_text.specs.Export.{ExportOf}
use Rattle.content_log.specs.Text.{log_text}
use Rattle.archive_rekey.specs.Rekeyed.{AreRekeyed, IsFirstBad}
use Rattle.key_rules.specs.Faults.{PlainKeyFault}
use Rattle.xarch_gen.specs.Company.{company_rules}
use Rattle.xarch_words.specs.Commands.{PlainCommand, norm, init, add, rekey, get, history, log, check, stats, versions, export, import, cut, join, table, tablekeys, batch, demo}
use Rattle.xarch_words.specs.Refusal.{Refusal, no_file, no_version}
use Rattle.xarch_parts.specs.Archives.{GoesOn, Stores}
use Rattle.xarch_meanings.specs.Check.{IsFound}
use Rattle.xarch_meanings.specs.Cut.{slice}
use Rattle.xarch_meanings.specs.Demo.{MakesOrNone, samples}
use Rattle.xarch_meanings.specs.History.{numbers_text}
use Rattle.xarch_meanings.specs.Import.{ImportsFrom}
use Rattle.xarch_meanings.specs.Join.{join_checked, joined}
use Rattle.xarch_meanings.specs.Rekey.{IsRekeyed, RekeysTo}
use Rattle.keyed_print.specs.KeyedText.{keyed_text}
use Rattle.xarch_parts.specs.Outcome.{and_then, or_refuse}
use Rattle.xarch_meanings.specs.Add.{IsHandedIn, add_input, AddsTo, MayAdd}
use Rattle.xarch_meanings.specs.Meanings.{MayBe, ShouldSucceed}
use Rattle.xarch_meanings.specs.Over.{HasArchiveWith, HasFile, MayOver}
use Rattle.xarch_meanings.specs.CommandLaws.{single-alone}
use Rattle.xarch_meanings.specs.Step.{alone}

-- a refusal is no value
clash : {A X : Type 0} (q : Refusal) (x : A) → ◌≡◌ {A = Result A Refusal} (Err q) (Ok x) → X
clash q x e = cc

-- versions that have a file are stored
not_stored : (files : Files) (name : List ℕ) (c : Contents) (bytes : List ℕ) (q : Refusal) → FileOf c.rules c.versions bytes → Stores files name c (Err q) → ⊥
not_stored files name c bytes q file s = elim s [ inl p ↦ clash q _ p.is | inr p ↦ p.none bytes file ]

not_made : (files : Files) (name : List ℕ) (seed count : ℕ) (bytes : List ℕ) (q : Refusal) → FileOf company_rules (samples seed count) bytes → MakesOrNone files name seed count (Err q) → ⊥
not_made files name seed count bytes q file s = elim s [ inl p ↦ clash q _ p.is | inr p ↦ p.none bytes file ]

-- a sound archive is found sound
not_found : (files : Files) (name bytes : List ℕ) (q : Refusal) → IsFound files name bytes (Err q) → Full bytes → ⊥
not_found files name bytes q s sound = elim s [ inl p ↦ clash q _ p.is | inr p ↦ p.unsound sound ]

-- the text of an archive with notes that has a file gives it
not_imported : (files : Files) (new bytes : List ℕ) (c : Contents) (file : List ℕ) (q : Refusal) → FullAs c file → ExportOf c bytes → ImportsFrom files new bytes (Err q) → ⊥
not_imported files new bytes c file q full of s = elim s [ inl p ↦ clash q _ p.stored.is | inr p ↦ p.none c file full of ]

module _ (one_list : (rules : List PlainRule) (vs us ws : List PlainKeyed) → AreRekeyed rules vs us → AreRekeyed rules vs ws → us ≡ ws)
    (apart : (rules : List PlainRule) (vs us : List PlainKeyed) (i : ℕ) (f : PlainKeyFault) → AreRekeyed rules vs us → ¬ IsFirstBad rules vs i f) where
  -- versions that satisfy other rules, and have a file under them, are stored
  not_rekeyed : (files : Files) (name : List ℕ) (c : Contents) (rules : List PlainRule) (us : List PlainKeyed) (bytes : List ℕ) (q : Refusal) → AreRekeyed rules c.versions us → FileOf rules us bytes
      → RekeysTo files name c rules (Err q) → ⊥
  not_rekeyed files name c rules us bytes q are file (inl p) =
      not_stored files name (with_keys c rules us) bytes q file (subst (λ (ws : List PlainKeyed). Stores files name (with_keys c rules ws) (Err q)) (one_list rules c.versions p.versions us p.are are) p.rest)
  not_rekeyed files name c rules us bytes q are file (inr p) = apart rules c.versions us p.number p.fault are p.first

  pub never_refused : (files : Files) (command : PlainCommand) (q : Refusal) → ShouldSucceed files command → MayBe files command (Err q) → ⊥
  never_refused files (norm spec doc) q h m = clash q h.value (m ∙ h.is)
  never_refused files (init name spec) q h m =
      not_stored files name (unnoted h.0 []) h.2.0 q h.2.1 (subst (λ (x : Result (List PlainRule) Refusal). GoesOn x (λ rules. Stores files name (unnoted rules [])) (Err q)) h.1 m)
  never_refused files (add name doc note) q h m =
      let handed : IsHandedIn files doc note h.contents h.is.0 = h.is.1 in
      let over = subst (λ (x : Result Unit Refusal). GoesOn x (λ _. MayOver files name (GoesOn (add_input files name doc) (λ _. MayAdd files name)) (AddsTo files name doc note)) (Err q)) handed.short m in
      not_stored files name (with_version h.contents h.is.0 note) handed.bytes q handed.file
      (subst (λ (x : Result PlainKeyed Refusal). GoesOn x (λ k. Stores files name (with_version h.contents k note)) (Err q)) handed.satisfies (over.sound h.contents h.archive))
  never_refused files (rekey name spec) q h m =
      let keys : IsRekeyed files name spec h.contents h.is.0 = h.is.1 in
      not_rekeyed files name h.contents h.is.0.rules h.is.0.versions keys.bytes q keys.satisfied keys.file
      (subst (λ (x : Result (List PlainRule) Refusal). GoesOn x (RekeysTo files name h.contents) (Err q)) keys.specified (m.sound h.contents h.archive))
  never_refused files (get name i) q h m =
      clash q _ (m.sound h.contents h.archive ∙ ap (λ (o : Option PlainKeyed). and_then (or_refuse o (no_version i (length h.contents.versions))) (λ k. Ok (record { files = files; output = keyed_text k }))) h.is.1)
  never_refused files (history name path) q h m =
      clash q _ (m.sound h.contents h.archive ∙ ap (λ x. and_then x (λ labels. Ok (record { files = files; output = numbers_text (hist h.contents.versions labels) }))) h.is.is)
  never_refused files (log name path) q h m =
      clash q _ (m.sound h.contents h.archive ∙ ap (λ x. and_then x (λ labels. Ok (record { files = files; output = log_text h.contents.versions labels }))) h.is.is)
  never_refused files (check name) q h m = not_found files name h.archive.bytes q (subst (λ o. GoesOn (or_refuse o (no_file name)) (IsFound files name) (Err q)) h.archive.there m) (record { contents = h.contents; is = h.archive.full })
  never_refused files (stats name) q h m = clash q _ (m.sound h.contents h.archive).is
  never_refused files (versions name) q h m = clash q _ (m.sound h.contents h.archive)
  never_refused files (export name) q h m = clash q _ (m.sound h.contents h.archive).is
  never_refused files (import text new) q h m =
      not_imported files new h.bytes h.contents h.file q h.full h.spelled (subst (λ (x : Result (List ℕ) Refusal). GoesOn x (ImportsFrom files new) (Err q)) h.there m)
  never_refused files (cut name new i j) q h m =
      not_stored files new (slice i j h.contents) h.is.1.0 q h.is.1.1
      (subst (λ (x : Result Unit Refusal). GoesOn x (λ _. Stores files new (slice i j h.contents)) (Err q)) h.is.0 (m.sound h.contents h.archive))
  never_refused files (join one two new) q h m =
      let g : HasArchiveWith files two (λ d. (join_checked files one two new (header_of h.contents) (header_of d) ≡ Ok tt) × HasFile (joined h.contents d)) = h.is in
      not_stored files new (joined h.contents g.contents) g.is.1.0 q g.is.1.1
      (subst (λ (x : Result Unit Refusal). GoesOn x (λ _. Stores files new (joined h.contents g.contents)) (Err q)) g.is.0 (m.sound h.contents g.contents h.archive g.archive))
  never_refused files (table csv tag keys doc) q h m = clash q h.value (m ∙ h.is)
  never_refused files (tablekeys tag keys spec) q h m = clash q h.value (m ∙ h.is)
  never_refused files batch q h m = h
  never_refused files (demo seed count name) q h m =
      not_made files name seed count h.1.0 q h.1.1 (subst (λ (x : Result Unit Refusal). GoesOn x (λ _. MakesOrNone files name seed count) (Err q)) h.0 m)

-- and it is one by itself
pub one_alone : (files : Files) (command : PlainCommand) → ShouldSucceed files command → alone (Some command) ≡ Some command
one_alone files command h = single-alone command (λ is. subst (ShouldSucceed files) is h)
