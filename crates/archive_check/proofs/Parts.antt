-- The header of a file and its nodes, one after the other.
use Rattle.std.proofs.Common.{◌≡◌, ℕ, ◌+◌, ◌-◌, ◌≤◌, true, leb, IsTrue, List, length, take, drop, Option, Some, None, Ok, Err, refl, sym, subst, ◌∙◌, arith}
use Rattle.std.specs.FinMap as map
use Rattle.std.specs.Prelude.{◌↔◌}
use Rattle.std.proofs.lemmas.Bool.Decides.{nat_tests}
use Rattle.key_spec.specs.Data.{PlainRule}
use Rattle.key_spec.proofs.SpecLaws.{spec_again}
use Rattle.keyed_tree.specs.Data.{PlainKeyed}
use Rattle.version_set.specs.Members.{upto_pairs}
use Rattle.archive_tree.specs.Data.{PlainArchive}
use Rattle.archive_tree.specs.Stands.{ArchiveOf}
use Rattle.archive_tree.proofs.OneArchive.{one_archive}
use Rattle.xa_fields.specs.Spelling.{u64_bytes}
use Rattle.xa_outside.specs.Folder.{Files, bytes_or_none, front}
use Rattle.xa_outside.specs.Numbers.{PullsAtMost, after_pull}
use Rattle.xa_outside.specs.NumberLaws.{PullsAtMost-of, PullsAtMost-more, PullsAtMost-trans}
use Rattle.record_parts.specs.Bounds.{deepest}
use Rattle.record_format.specs.Files.{longest}
use Rattle.record_format.specs.Fronts.{header_at}
use Rattle.archive_file.specs.Laid.{RowAt}
use Rattle.archive_file.specs.Sound.{SoundAs}
use Rattle.archive_file.proofs.SoundLaws.{sound-has-header, sound-reads, sound-row}
use Rattle.archive_file.proofs.SoundLaws as laws
use Rattle.record_cursor.specs.Moves.{TellsFront, TellsHeader}
use Rattle.record_cursor.specs.Spelled.{IsHeaderAt}
use Rattle.record_cursor.specs.Steps.{IsCause}
use Rattle.record_cursor.specs.View.{PlainHeader, header_view, IsHeader}
use Rattle.record_cursor.specs.declared.fault.CursorFault.{CursorFault}
use Rattle.record_cursor.specs.declared.header.Header.{Header}
use Rattle.record_cursor.proofs.Fills.{front-length}
use Rattle.node_judge.specs.InPlace.{is_sound_archive, LiesSound}
use Rattle.node_walk.specs.Nodes.{FolderSeen, NodesLie, NodesJudged, archive_with}
use Rattle.node_walk.specs.Walked.{end_length}
use Rattle.node_walk.proofs.Steps.{cause-later, damage-map}
use Rattle.archive_check.specs.Judged.{PartsJudged}

-- ---- the header

-- The header was read, and no byte behind it.
pub record HeaderRead (name : List ℕ) (size : ℕ) (s t : FolderSeen) (h : Header) : Type 0 where
  pub same_files : t.files ≡ s.files
  pub same_draft : t.draft ≡ s.draft
  pub later : s.faults ≤ t.faults
  pub numbers : t.numbers ≡ after_pull s.numbers (header_view h).first
  pub is : IsHeader (header_view h)
  pub long : (header_view h).length ≡ size
  pub told : (bytes : List ℕ) → TellsFront s.files name size bytes → TellsHeader (Ok h) (Some bytes)
  pub spelled : (bytes : List ℕ) → TellsFront s.files name size bytes → IsHeaderAt (header_view h) bytes

-- a sound archive's versions, and where its nodes lie
abbrev pub SoundLaw : Type 0
SoundLaw = (rules : List PlainRule) (vs : List PlainKeyed) (bytes : List ℕ) → SoundAs rules vs bytes ↔ ((a : PlainArchive) × (ArchiveOf vs a × LiesSound rules a bytes))

module _ (name : List ℕ) (size : ℕ) (s : FolderSeen) where
  -- no header was read
  pub header-failed : (t : FolderSeen) (e : CursorFault) → t.files ≡ s.files → t.draft ≡ s.draft → s.faults ≤ t.faults → IsCause s.faults t.faults (Some e) → PullsAtMost size s.numbers t.numbers
      → ((bytes : List ℕ) → TellsFront s.files name size bytes → TellsHeader (Err e) (Some bytes)) → PartsJudged name size s t (Err e)
  header-failed t e files draft later cause pulls told = record {
    same_files = files;
    same_draft = draft;
    later = later;
    cause = cause;
    pulls = pulls;
    lies = λ bytes tells. tt;
    found = λ bytes tells sound. damage-map e (header_at bytes ≡ None) ⊥ (sound-has-header sound.rules sound.versions bytes sound.is) (told bytes tells);
    short = λ fs tells none. tt;
  }

  -- ---- the nodes behind it

  module _ (t : FolderSeen) (h : Header) (read : HeaderRead name size s t h) where
    abbrev v : PlainHeader
    v = header_view h

    told-on : (bytes : List ℕ) → TellsFront s.files name size bytes → TellsFront t.files name v.length bytes
    told-on bytes tells = subst (λ (n : ℕ). TellsFront t.files name n bytes) (sym read.long) (subst (λ (f : Option Files). TellsFront f name size bytes) (sym read.same_files) tells)

    all-pulled : (u : FolderSeen) → PullsAtMost (v.length - v.first) t.numbers u.numbers → PullsAtMost size s.numbers u.numbers
    all-pulled u pulls =
        let within = read.is.within in
        let long = read.long in
        PullsAtMost-more (v.first + (v.length - v.first)) size s.numbers u.numbers (omega (arith, within, long))
        (PullsAtMost-trans v.first (v.length - v.first) s.numbers t.numbers u.numbers (PullsAtMost-of v.first v.first s.numbers t.numbers (omega arith) read.numbers) pulls)

    -- it is the header of a sound archive
    sound-here : (bytes : List ℕ) → TellsFront s.files name size bytes → (rules : List PlainRule) (vs : List PlainKeyed) (is : SoundAs rules vs bytes) → laws.Header rules vs bytes is v.rules v.versions (drop v.first bytes)
    sound-here bytes tells rules vs is = sound-reads rules vs bytes is v.rules v.versions (drop v.first bytes) (read.told bytes tells)

    -- whose nodes lie behind it
    nodes-lie : (bytes : List ℕ) → TellsFront s.files name size bytes → (rules : List PlainRule) (vs : List PlainKeyed) (is : SoundAs rules vs bytes) → NodesLie v is.file.archive.kids bytes
    nodes-lie bytes tells rules vs is =
        let a = is.file.archive in
        let here = sound-here bytes tells rules vs is in
        subst (λ (n : ℕ). RowAt (upto_pairs n) a.kids (u64_bytes (end_length (upto_pairs n) a.kids)) deepest (drop v.first bytes)) (sym here.count) (sound-row rules vs bytes is (drop v.first bytes) here.now_is)

    -- and are those of a sound archive
    archive-sound : SoundLaw → (bytes : List ℕ) → TellsFront s.files name size bytes → (rules : List PlainRule) (vs : List PlainKeyed) (is : SoundAs rules vs bytes) → IsTrue (is_sound_archive v.rules (archive_with v is.file.archive.kids))
    archive-sound law bytes tells rules vs is =
        let here = sound-here bytes tells rules vs is in
        let a = is.file.archive in
        let b = (law rules vs bytes).0 is in
        let same : b.0 ≡ a = one_archive vs b.0 a b.1.0 is.file.is in
        let count = here.count in
        let with : archive_with v a.kids ≡ a = (λ i. record { n = count i; kids = a.kids }) in
        let lies = b.1.1 in
        subst (λ (z : List PlainRule). IsTrue (is_sound_archive z (archive_with v a.kids))) (sym here.specification)
        (subst (λ (x : PlainArchive). IsTrue (is_sound_archive rules x)) (same ∙ sym with) lies.sound)

    no-front : (file : List ℕ) → v.length ≤ length file → front size file ≡ None → ⊥
    no-front file long none =
        let is = read.long in
        let all : leb size (length file) ≡ true = grind (arith, nat_tests) in
        let there : front size file ≡ Some (take size file) = rw all refl in
        absurd cc

    pub nodes-failed : SoundLaw → (u : FolderSeen) (e : CursorFault) → NodesJudged name v t u (Err e) → PartsJudged name size s u (Err e)
    nodes-failed law u e n = record {
      same_files = n.same_files ∙ read.same_files;
      same_draft = n.same_draft ∙ read.same_draft;
      later = (let x = read.later in let y = n.later in omega (arith, x, y));
      cause = cause-later s.faults t.faults u.faults (Some e) read.later n.cause;
      pulls = all-pulled u n.pulls;
      lies = λ bytes tells. tt;
      found = λ bytes tells sound. n.found bytes (told-on bytes tells) sound.is.file.archive.kids (nodes-lie bytes tells sound.rules sound.versions sound.is) (archive-sound law bytes tells sound.rules sound.versions sound.is);
      short = λ files tells none. tt;
    }

    pub parts-judged : size ≤ longest → (u : FolderSeen) → NodesJudged name v t u (Ok tt) → PartsJudged name size s u (Ok v.versions)
    parts-judged short u n = record {
      same_files = n.same_files ∙ read.same_files;
      same_draft = n.same_draft ∙ read.same_draft;
      later = (let x = read.later in let y = n.later in omega (arith, x, y));
      cause = tt;
      pulls = all-pulled u n.pulls;
      lies = λ bytes tells. (
          let header = read.spelled bytes tells in
          let y = n.lies bytes (told-on bytes tells) in
          let long = front-length s.files name bytes size tells in
          record {
            rules = v.rules;
            archive = archive_with v y.0;
            count = refl;
            lies = record {
              behind = drop v.first bytes;
              front = record { specification = spec_again h.spec; text = header.1; bytes = header.0 };
              few = read.is.few;
              row = y.1;
              short = omega (arith, long, short);
              sound = y.2;
            };
          });
      found = λ bytes tells sound. tt;
      short = λ files tells none. no-front (bytes_or_none (map.get files name)) (n.whole files (read.same_files ∙ tells)) none;
    }
