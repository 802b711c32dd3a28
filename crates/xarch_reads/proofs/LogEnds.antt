-- How the parts of `log` lead to its end.
use Rattle.std.proofs.Common.{◌≡◌, ◌≢◌, inl, inr, ℕ, ◌+◌, ◌-◌, ◌≤◌, List, length, Option, Some, None, Result, Ok, Err, IfErr, refl, sym, ap, ◌∙◌, subst, arith}
use Rattle.std.specs.Result.{is_ok}
use Rattle.xa_outside.specs.Folder.{Files}
use Rattle.xa_outside.specs.NumberLaws.{PullsAtMost-more, PullsAtMost-trans}
use Rattle.xa_outside.specs.Numbers.{Numbers, PullsAtMost}
use Rattle.xa_outside.specs.Taken.{Taken, Takes, TakesPrefix, Puts}
use Rattle.key_spec.specs.Canonical.{canonical}
use Rattle.key_spec.specs.Closed.{closed}
use Rattle.key_spec.specs.Data.{PlainRule}
use Rattle.keyed_tree.specs.Data.{PlainLabel, PlainKeyed}
use Rattle.archive_tree.specs.Data.{PlainArchive}
use Rattle.archive_tree.specs.Stands.{ArchiveOf}
use Rattle.archive_file.specs.Sound.{SoundAs}
use Rattle.record_cursor.specs.Moves.{TellsFront, IsHeaderOf}
use Rattle.record_cursor.specs.View.{PlainHeader, IsHeader}
use Rattle.record_format.specs.Files.{FileOf}
use Rattle.record_format.specs.Fronts.{header}
use Rattle.record_format.specs.Probed.{probed}
use Rattle.file_history.specs.Leads.{node_along}
use Rattle.content_log.specs.Text.{log_text}
use Rattle.content_log.specs.Told as told
use Rattle.content_log.specs.Told.{IsCaused}
use Rattle.content_log.specs.Written.{leaf_bytes}
use Rattle.content_log.specs.declared.fault.LogFault.{LogFault}
use Rattle.content_log.specs.declared.fault.LogFault.TheVariants.{Damage, Folder, Out, Memory}
use Rattle.version_notes.specs.Parts.{parts_behind, parts_in}
use Rattle.noted_file.specs.Contents.{Contents}
use Rattle.noted_file.specs.Full.{FullAs}
use Rattle.xarch_words.specs.Commands.{log}
use Rattle.xarch_words.specs.Refusal.{Refusal, damaged, PlainFault, refused, folder_fault, out_fault, memory}
use Rattle.xarch_parts.specs.Allowed.{MayEndLate}
use Rattle.xarch_parts.specs.AllowedLaws.{MayEnd-did, MayEnd-outside, tells_same}
use Rattle.xarch_parts.specs.Archives.{ArchiveIs, IsFrontOf, NoRefusal}
use Rattle.xarch_parts.specs.CoreLaws.{core-sound}
use Rattle.xarch_parts.specs.Ends.{EndsGained, Gained, IsInside, IsOfCommand, IsOfFolder}
use Rattle.xarch_parts.specs.Ends as ends
use Rattle.xarch_parts.specs.FolderLaws.{caused-read, caused-then, keeps-read, reads-then}
use Rattle.xarch_parts.specs.Folders.{Counts, Keeps, ReadsOnly}
use Rattle.xarch_parts.specs.Outcome.{Outcome, and_then}
use Rattle.xarch_meanings.specs.FrontLaws.{front-told, header-is}
use Rattle.xarch_meanings.specs.History.{front_size, history_input, labels_of}
use Rattle.xarch_meanings.specs.Log.{ending_at_frontier, frontier_of, leaf_path_bytes, log_input}
use Rattle.xarch_meanings.specs.Meanings.{GainsBy, MayBe, MayComeLate}
use Rattle.xarch_meanings.specs.ReadLaws.{reads-once}
use Rattle.xarch_reads.specs.Logged.{IsLoggedAs, Logs}
use Rattle.xarch_reads.specs.Written.{WrittenState, written_state}
use Rattle.xarch_reads.proofs.LateEnds.{all-of, front-of, no_folder, no_memory, no_out, outside}
use Rattle.xarch_reads.proofs.PathEnds.{path-damaged, path-given, path-refused, path-written}

-- ---- the labels of the path, and whether they end at the frontier

-- the labels again, where they end there
abbrev if_ending : (List PlainRule × ℕ) × List PlainLabel → Result ((List PlainRule × ℕ) × List PlainLabel) Refusal
if_ending p = and_then (ending_at_frontier p.0.0 p.1) (λ ls. Ok (p.0, ls))

by-labels : (h : List PlainRule × ℕ) (x : Result (List PlainLabel) Refusal) → and_then (and_then x (ending_at_frontier h.0)) (λ ls. Ok (h, ls)) ≡ and_then (and_then x (λ ls. Ok (h, ls))) if_ending
by-labels h (Ok ls) = refl
by-labels h (Err q) = refl

by-front : (path : List ℕ) (x : Result (List PlainRule × ℕ) Refusal)
    → and_then x (λ h. and_then (frontier_of h.0 path) (λ ls. Ok (h, ls))) ≡ and_then (and_then x (λ h. and_then (labels_of h.0 path) (λ ls. Ok (h, ls)))) if_ending
unfolding frontier_of
by-front path (Ok h) = by-labels h (labels_of h.0 path)
by-front path (Err q) = refl

module _ (files : Files) (name path : List ℕ) where
  -- first it is read as for a history
  input-is : log_input files name path ≡ and_then (history_input files name path) if_ending
  input-is = by-front path _

  pub refused-before : (q : Refusal) → history_input files name path ≡ Err q → log_input files name path ≡ Err q
  refused-before q e = input-is ∙ ap (λ x. and_then x if_ending) e

  module _ (h : List PlainRule × ℕ) (labels : List PlainLabel) (input : history_input files name path ≡ Ok (h, labels)) where
    pub refused-there : (q : Refusal) → ending_at_frontier h.0 labels ≡ Err q → log_input files name path ≡ Err q
    refused-there q e = input-is ∙ ap (λ x. and_then x if_ending) input ∙ ap (λ x. and_then x (λ ls. Ok (h, ls))) e

    pub given-there : ending_at_frontier h.0 labels ≡ Ok labels → log_input files name path ≡ Ok (h, labels)
    given-there e = input-is ∙ ap (λ x. and_then x if_ending) input ∙ ap (λ x. and_then x (λ ls. Ok (h, ls))) e

-- ---- the fault of the writing

module _ (name : List ℕ) where
  cause-of : (e : LogFault) (v : PlainFault) (a b c d : ℕ) → IsLoggedAs name e v → IsCaused a b c d (Some e) → IsOfCommand a b c d (Some v)
  unfolding IsInside IsOfFolder IsOfCommand
  cause-of Damage v a b c d (inl is) h = subst (λ (z : PlainFault). IsOfCommand a b c d (Some z)) (sym is) tt
  cause-of Damage v a b c d (inr is) h = subst (λ (z : PlainFault). IsOfCommand a b c d (Some z)) (sym is) tt
  cause-of Folder v a b c d is h = subst (λ (z : PlainFault). IsOfCommand a b c d (Some z)) (sym is) h
  cause-of Out v a b c d is h = subst (λ (z : PlainFault). IsOfCommand a b c d (Some z)) (sym is) h
  cause-of Memory v a b c d is h = subst (λ (z : PlainFault). IsOfCommand a b c d (Some z)) (sym is) tt

  gained-as : (path : List ℕ) (e : LogFault) (v : PlainFault) (old new : Taken) → IsLoggedAs name e v → Gained old new → GainsBy (Some (log name path)) (Some v) old new
  unfolding EndsGained
  gained-as path Damage v old new (inl is) g = inr (ap (λ (z : PlainFault). Some z) is, g)
  gained-as path Damage v old new (inr is) g = inl (subst (λ (z : PlainFault). EndsGained (Some z) old new) (sym is) g)
  gained-as path Folder v old new is g = inl (subst (λ (z : PlainFault). EndsGained (Some z) old new) (sym is) g)
  gained-as path Out v old new is g = inl (subst (λ (z : PlainFault). EndsGained (Some z) old new) (sym is) g)
  gained-as path Memory v old new is g = inl (subst (λ (z : PlainFault). EndsGained (Some z) old new) (sym is) g)

-- ---- from what is said of the writing

-- what is said of it
pub record LoggedSo (name : List ℕ) (h : PlainHeader) (labels : List PlainLabel) (s t : WrittenState) (r : Result Unit LogFault) : Type 0 where
  pub lines : (bytes : List ℕ) (rules : List PlainRule) (vs : List PlainKeyed) → TellsFront s.files name h.length bytes → IsHeaderOf h bytes → SoundAs rules vs bytes → Puts s.taken t.taken r (log_text vs labels)
  pub undamaged : (bytes : List ℕ) (rules : List PlainRule) (vs : List PlainKeyed) → TellsFront s.files name h.length bytes → IsHeaderOf h bytes → SoundAs rules vs bytes → IfErr r (λ e. e ≢ Damage)
  pub gained : (bytes : List ℕ) × Takes s.taken t.taken bytes
  pub same_files : t.files ≡ s.files
  pub same_draft : t.draft ≡ s.draft
  pub later : s.faults ≤ t.faults
  pub out_later : s.out_faults ≤ t.out_faults
  pub cause : IsCaused s.faults t.faults s.out_faults t.out_faults (told.fault_of r)
  pub pulls : PullsAtMost (h.length - h.first + h.length) s.numbers t.numbers
  pub few : (bytes : List ℕ) (rules : List PlainRule) (vs : List PlainKeyed) (a : PlainArchive) → TellsFront s.files name h.length bytes → IsHeaderOf h bytes → SoundAs rules vs bytes → ArchiveOf vs a
      → PullsAtMost (8 + probed a labels + leaf_bytes (node_along a labels)) s.numbers t.numbers

-- From what is known of all archive files: their header stands in front; and of all with notes: where their parts stand.
module _ (has_parts : (c : Contents) (bytes : List ℕ) (full : FullAs c bytes) → parts_in bytes ≡ Some (parts_behind full.core c.notes))
    (fronted : (rules : List PlainRule) (vs : List PlainKeyed) (bytes : List ℕ) → closed (canonical rules) ≡ Ok rules → FileOf rules vs bytes → header bytes ≡ Some (rules, length vs)) where
  -- a refusal before the records are looked at
  pub log-refused : (files : Files) (name path : List ℕ) (q : Refusal) → log_input files name path ≡ Err q → MayBe files (log name path) (Err q)
  log-refused files name path q e = path-refused files name (λ rules. frontier_of rules path) log_text has_parts fronted q e

  -- the labels are those that the path spells under the rules of the archive
  pub log-given : (files : Files) (name path : List ℕ) (h : List PlainRule × ℕ) (labels : List PlainLabel) → log_input files name path ≡ Ok (h, labels)
      → (c : Contents) → ArchiveIs files name c → frontier_of c.rules path ≡ Ok labels
  log-given files name path h labels input c a = path-given files name (λ rules. frontier_of rules path) log_text has_parts fronted h labels input c a

  -- And from what the bytes of a sound archive tell: its versions.
  module _ (versions : List ℕ → List PlainKeyed) (tells : (bytes : List ℕ) (rules : List PlainRule) (vs : List PlainKeyed) → SoundAs rules vs bytes → versions bytes ≡ vs)
      (name : List ℕ) (h : PlainHeader) (labels : List PlainLabel) (s t : WrittenState) where
    little-in : (r : Result Unit LogFault) → LoggedSo name h labels s t r → (files : Files) (c : Contents) (a : PlainArchive) → s.files ≡ Some files → IsFrontOf files name h
        → ArchiveIs files name c → ArchiveOf c.versions a → PullsAtMost (8 + probed a labels + leaf_bytes (node_along a labels)) s.numbers t.numbers
    little-in r w files c a is_told front is of =
        w.few front.core c.rules c.versions a (front-told files s.files name h is_told front) (header-is files s.files name h is_told front) (core-sound has_parts files name c is h.length front.core front.of) of

    -- the files are told, this header stands in front, and the path spells the labels
    module _ (files : Files) (path : List ℕ) (is_told : s.files ≡ Some files) (front : IsFrontOf files name h) (input : log_input files name path ≡ Ok ((h.rules, h.versions), labels)) where
      abbrev Allowed : Result Outcome Refusal → Type 0
      Allowed r = MayBe files (log name path) r

      abbrev Ends : Option PlainFault → Type 0
      Ends ended = MayEndLate (MayComeLate files (Some (log name path))) Allowed ended t.files s.taken t.taken

      at : TellsFront s.files name h.length front.core
      at = front-told files s.files name h is_told front

      of : IsHeaderOf h front.core
      of = header-is files s.files name h is_told front

      -- the text that the bytes tell
      abbrev text : List ℕ
      text = log_text (versions front.core) labels

      own-text : (rules : List PlainRule) (vs : List PlainKeyed) → SoundAs rules vs front.core → text ≡ log_text vs labels
      own-text rules vs sound = ap (λ us. log_text us labels) (tells front.core rules vs sound)

      -- something is written, which is the log of a sound archive
      may-write : (output : List ℕ) → ((rules : List PlainRule) (vs : List PlainKeyed) → SoundAs rules vs front.core → output ≡ log_text vs labels) → Allowed (Ok (record { files = files; output = output }))
      may-write output is =
          path-written files name (λ rules. frontier_of rules path) log_text has_parts fronted (h.rules, h.versions) labels input output
          (λ c a. is c.rules c.versions (core-sound has_parts files name c a h.length front.core front.of))

      -- the archive is damaged
      may-refuse : ((rules : List PlainRule) (vs : List PlainKeyed) → ¬ SoundAs rules vs front.core) → Allowed (Err (damaged name))
      may-refuse none =
          path-damaged files name (λ rules. frontier_of rules path) log_text has_parts fronted (h.rules, h.versions) labels input (damaged name) refl
          (λ c a. none c.rules c.versions (core-sound has_parts files name c a h.length front.core front.of))

      -- a front of the log was written before the outside failed
      stopped : (e : LogFault) (v : PlainFault) → NoRefusal v → LoggedSo name h labels s t (Err e) → Ends (Some v)
      stopped e v other w =
          let p = front-of s.taken t.taken text w.gained.0 w.gained.1 in
          inl (MayEnd-outside Allowed v t.files s.taken t.taken other (inr (record {
            outcome = Ok (record { files = files; output = p.output });
            may = may-write p.output (λ rules vs sound. (let is = own-text rules vs sound in p.own (subst (TakesPrefix s.taken t.taken) (sym is) (w.lines front.core rules vs at of sound)) ∙ is));
            output = p.has;
          })))

      -- damage was met
      met : LoggedSo name h labels s t (Err Damage) → Ends (Some (refused (damaged name)))
      met w = inr (record {
        refusal = damaged name;
        is = refl;
        late = (refl, ap is_ok input);
        may = may-refuse (λ rules vs sound. w.undamaged front.core rules vs at of sound refl);
        output = record { bytes = w.gained.0; takes = w.gained.1 };
      })

      ends-as : (e : LogFault) (v : PlainFault) → IsLoggedAs name e v → LoggedSo name h labels s t (Err e) → Ends (Some v)
      ends-as Damage v (inl is) w = subst (λ (z : PlainFault). Ends (Some z)) (sym is) (met w)
      ends-as Damage v (inr is) w = stopped Damage v (outside v memory is no_memory) w
      ends-as Folder v is w = stopped Folder v (outside v folder_fault is no_folder) w
      ends-as Out v is w = stopped Out v (outside v out_fault is no_out) w
      ends-as Memory v is w = stopped Memory v (outside v memory is no_memory) w

      -- the log was written
      finished : LoggedSo name h labels s t (Ok tt) → Ends None
      finished w =
          let p = all-of s.taken t.taken text w.gained.0 w.gained.1 in
          inl (MayEnd-did Allowed (record { files = files; output = p.output }) t.files s.taken t.taken
          (may-write p.output (λ rules vs sound. (let is = own-text rules vs sound in p.own (subst (Takes s.taken t.taken) (sym is) (w.lines front.core rules vs at of sound)) ∙ is)))
          (tells_same t.files files (w.same_files ∙ is_told)) p.has)

    pub logs-failed : (e : LogFault) (v : PlainFault) → IsLoggedAs name e v → LoggedSo name h labels s t (Err e) → Logs name h labels s t (Some v)
    logs-failed e v is w = record {
      same_files = w.same_files;
      same_draft = w.same_draft;
      pulls = w.pulls;
      later = w.later;
      out_later = w.out_later;
      cause = cause-of name e v s.faults t.faults s.out_faults t.out_faults is w.cause;
      gained = λ path. gained-as name path e v s.taken t.taken is (record { bytes = w.gained.0; takes = w.gained.1 });
      may = λ files path is_told front input. ends-as files path is_told front input e v is w;
      little = little-in (Err e) w;
    }

    pub logs-done : LoggedSo name h labels s t (Ok tt) → Logs name h labels s t None
    unfolding EndsGained IsInside IsOfFolder IsOfCommand
    logs-done w = record {
      same_files = w.same_files;
      same_draft = w.same_draft;
      pulls = w.pulls;
      later = w.later;
      out_later = w.out_later;
      cause = tt;
      gained = λ path. inl (record { bytes = w.gained.0; takes = w.gained.1 });
      may = λ files path is_told front input. finished files path is_told front input w;
      little = little-in (Ok tt) w;
    }

-- ---- behind the header and the path

module _ {S K : Type 0} (files : S → Option Files) (draft : S → Option (List ℕ)) (numbers : S → Numbers) (faults : S → ℕ) (taken : K → Taken) (out_faults : K → ℕ) (name : List ℕ) (h : PlainHeader) (labels : List PlainLabel) (n most : ℕ) (a b c : S) (k l : K)
    (v : Option PlainFault) (is : IsHeader h) (asked : ReadsOnly files draft numbers faults n a b None) (once : (h.length ≤ most) × PullsAtMost (16 + h.first) (numbers a) (numbers b))
    (w : Logs name h labels (written_state files draft numbers faults taken out_faults b k) (written_state files draft numbers faults taken out_faults c l) v) where
  pub log-keeps : Keeps files draft numbers None (Counts None (most + (16 + most))) a c v
  unfolding IsInside IsOfFolder
  log-keeps =
      let within = is.within in
      let long = once.0 in
      keeps-read (most + (16 + most)) a c None v
      (reads-then (16 + h.first) (h.length - h.first + h.length) (most + (16 + most)) a b c None (omega (arith, within, long)) (reads-once n (16 + h.first) a b None asked once.1)
      (record { same_files = w.same_files; same_draft = w.same_draft; pulls = w.pulls; later = w.later; cause = tt }))

  pub log-caused : ends.IsCaused (faults a) (faults c) (out_faults k) (out_faults l) v
  log-caused = caused-then (faults a) (faults b) (faults c) (out_faults k) (out_faults k) (out_faults l) v (caused-read n a b None (out_faults k) asked) (record { folder_later = w.later; out_later = w.out_later; cause = w.cause })

-- the header was read, the path was followed, and the leaf was read
pub little-logged : (rules : List PlainRule) (vs : List PlainKeyed) (a : PlainArchive) (path : List ℕ) (labels : List PlainLabel) (x y z : Numbers) → frontier_of rules path ≡ Ok labels → PullsAtMost (16 + front_size rules vs) x y
    → PullsAtMost (8 + probed a labels + leaf_bytes (node_along a labels)) y z → PullsAtMost (front_size rules vs + (24 + leaf_path_bytes a (frontier_of rules path))) x z
little-logged rules vs a path labels x y z given p q =
    let leaf = leaf_bytes (node_along a labels) in
    let all = PullsAtMost-trans (16 + front_size rules vs) (8 + probed a labels + leaf) x y z p q in
    let most = PullsAtMost-more (16 + front_size rules vs + (8 + probed a labels + leaf)) (front_size rules vs + (24 + (probed a labels + leaf))) x z (omega arith) all in
    subst (λ r. PullsAtMost (front_size rules vs + (24 + leaf_path_bytes a r)) x z) (sym given) most
