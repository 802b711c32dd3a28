-- How the parts of `history` lead to its end.
use Rattle.std.proofs.Common.{◌≡◌, ◌≢◌, inl, inr, ℕ, ◌+◌, ◌-◌, ◌≤◌, List, length, Option, Some, None, Ok, Err, refl, sym, ◌∙◌, subst, arith}
use Rattle.xa_outside.specs.Causes.{Rose}
use Rattle.xa_outside.specs.Folder.{Files}
use Rattle.xa_outside.specs.NumberLaws.{PullsAtMost-more, PullsAtMost-trans}
use Rattle.xa_outside.specs.Numbers.{Numbers, PullsAtMost}
use Rattle.key_spec.specs.Data.{PlainRule}
use Rattle.keyed_tree.specs.Data.{PlainLabel, PlainKeyed}
use Rattle.archive_tree.specs.Data.{PlainArchive}
use Rattle.archive_tree.specs.History.{hist}
use Rattle.key_spec.specs.Canonical.{canonical}
use Rattle.key_spec.specs.Closed.{closed}
use Rattle.record_format.specs.Files.{FileOf}
use Rattle.record_format.specs.Fronts.{header}
use Rattle.record_format.specs.Probed.{probed}
use Rattle.file_history.specs.Told.{IfFailed}
use Rattle.file_history.specs.declared.fault.HistFault.{HistFault}
use Rattle.file_history.specs.declared.fault.HistFault.TheVariants.{Damage, Folder, Memory}
use Rattle.record_cursor.specs.View.{PlainHeader, IsHeader}
use Rattle.version_notes.specs.Parts.{parts_behind, parts_in}
use Rattle.noted_file.specs.Contents.{Contents}
use Rattle.noted_file.specs.Full.{FullAs}
use Rattle.xarch_words.specs.Commands.{history}
use Rattle.xarch_words.specs.Refusal.{Refusal, damaged, PlainFault, refused, folder_fault, memory}
use Rattle.xarch_parts.specs.Archives.{ArchiveIs, IsRefusal, NoRefusal}
use Rattle.xarch_parts.specs.Ends.{IsInside, IsOfFolder}
use Rattle.xarch_parts.specs.FolderLaws.{reads-then}
use Rattle.xarch_parts.specs.Folders.{ReadsOnly}
use Rattle.xarch_meanings.specs.ReadLaws.{reads-once}
use Rattle.xarch_meanings.specs.History.{front_size, history_input, labels_of, numbers_text, path_bytes}
use Rattle.xarch_meanings.specs.Meanings.{MayBe}
use Rattle.xarch_reads.specs.Searched.{IsShownAs}
use Rattle.xarch_reads.proofs.PathEnds.{path-damaged, path-given, path-refused, path-written}

-- ---- the fault of the search

pub shown-cause : (T : Type 0) (name : List ℕ) (e : HistFault) (v : PlainFault) (a b : ℕ) → IsShownAs name e v → IfFailed {T = T} (Err e) (Rose a b) → IsOfFolder a b (Some v)
unfolding IsInside IsOfFolder
shown-cause T name Damage v a b (inl is) h = subst (λ (z : PlainFault). IsOfFolder a b (Some z)) (sym is) tt
shown-cause T name Damage v a b (inr is) h = subst (λ (z : PlainFault). IsOfFolder a b (Some z)) (sym is) tt
shown-cause T name Folder v a b is h = subst (λ (z : PlainFault). IsOfFolder a b (Some z)) (sym is) h
shown-cause T name Memory v a b is h = subst (λ (z : PlainFault). IsOfFolder a b (Some z)) (sym is) tt

-- it is no refusal but damage
pub shown-refusal : (name : List ℕ) (e : HistFault) (v : PlainFault) → IsShownAs name e v → IsRefusal (damaged name) v
shown-refusal name Damage v (inl is) q r = let same : refused q ≡ refused (damaged name) = sym r ∙ is in cc
shown-refusal name Damage v (inr is) q r = let wrong : memory ≡ refused q = sym is ∙ r in absurd cc
shown-refusal name Folder v is q r = let wrong : folder_fault ≡ refused q = sym is ∙ r in absurd cc
shown-refusal name Memory v is q r = let wrong : memory ≡ refused q = sym is ∙ r in absurd cc

pub shown-sound : (name : List ℕ) (e : HistFault) (v : PlainFault) → IsShownAs name e v → e ≢ Damage → NoRefusal v
shown-sound name Damage v is not q r = not refl
shown-sound name Folder v is not q r = let wrong : folder_fault ≡ refused q = sym is ∙ r in absurd cc
shown-sound name Memory v is not q r = let wrong : memory ≡ refused q = sym is ∙ r in absurd cc

-- ---- how much is read

-- the header was read, and then the search read at most what stands behind it
pub searched-read : {S : Type 0} {files : S → Option Files} {draft : S → Option (List ℕ)} {numbers : S → Numbers} {faults : S → ℕ} {h : PlainHeader} {n most : ℕ} → IsHeader h → (a b c : S) (v : Option PlainFault)
    → ReadsOnly files draft numbers faults n a b None → (h.length ≤ most) × PullsAtMost (16 + h.first) (numbers a) (numbers b) → ReadsOnly files draft numbers faults (h.length - h.first) b c v → ReadsOnly files draft numbers faults (most + 16) a c v
searched-read {h = h} {n = n} {most = most} is a b c v p once q =
    let within = is.within in
    let long = once.0 in
    reads-then (16 + h.first) (h.length - h.first) (most + 16) a b c v (omega (arith, within, long)) (reads-once n (16 + h.first) a b None p once.1) q

-- ---- what may come

-- what is written of the labels
abbrev pub told_text : List PlainKeyed → List PlainLabel → List ℕ
told_text vs labels = numbers_text (hist vs labels)

-- From what is known of all archive files: their header stands in front; and of all with notes: where their parts stand.
module _ (has_parts : (c : Contents) (bytes : List ℕ) (full : FullAs c bytes) → parts_in bytes ≡ Some (parts_behind full.core c.notes))
    (fronted : (rules : List PlainRule) (vs : List PlainKeyed) (bytes : List ℕ) → closed (canonical rules) ≡ Ok rules → FileOf rules vs bytes → header bytes ≡ Some (rules, length vs))
    (files : Files) (name path : List ℕ) where
  -- a refusal before the records are looked at
  pub may_refuse_early : (q : Refusal) → history_input files name path ≡ Err q → MayBe files (history name path) (Err q)
  may_refuse_early q e = path-refused files name (λ rules. labels_of rules path) told_text has_parts fronted q e

  module _ (h : List PlainRule × ℕ) (labels : List PlainLabel) (input : history_input files name path ≡ Ok (h, labels)) where
    -- the numbers are written
    pub may_write : (output : List ℕ) → ((c : Contents) → ArchiveIs files name c → output ≡ numbers_text (hist c.versions labels))
        → MayBe files (history name path) (Ok (record { files = files; output = output }))
    may_write output told = path-written files name (λ rules. labels_of rules path) told_text has_parts fronted h labels input output told

    -- the archive is damaged
    pub may_refuse : (q : Refusal) → q ≡ damaged name → ((c : Contents) → ¬ ArchiveIs files name c) → MayBe files (history name path) (Err q)
    may_refuse q e none = path-damaged files name (λ rules. labels_of rules path) told_text has_parts fronted h labels input q e none

    -- the labels that the path spells under the rules of a sound archive
    pub history-given : (c : Contents) → ArchiveIs files name c → labels_of c.rules path ≡ Ok labels
    history-given c a = path-given files name (λ rules. labels_of rules path) told_text has_parts fronted h labels input c a

    -- the header was read, and then the path was followed
    pub little-read : (c : Contents) (a : PlainArchive) (x y z : Numbers) → ArchiveIs files name c → PullsAtMost (16 + front_size c.rules c.versions) x y → PullsAtMost (8 + probed a labels) y z
        → PullsAtMost (front_size c.rules c.versions + (24 + path_bytes a (labels_of c.rules path))) x z
    little-read c a x y z is p q =
        let all = PullsAtMost-trans (16 + front_size c.rules c.versions) (8 + probed a labels) x y z p q in
        let most = PullsAtMost-more (16 + front_size c.rules c.versions + (8 + probed a labels)) (front_size c.rules c.versions + (24 + probed a labels)) x z (omega arith) all in
        subst (λ r. PullsAtMost (front_size c.rules c.versions + (24 + path_bytes a r)) x z) (sym (history-given c is)) most
