-- A file is sound exactly where nodes lie in it that are right in their place.
use Rattle.std.proofs.Common.{◌≡◌, ◌↔◌, ◌≤◌, IsTrue, ℕ, List, refl, sym, subst, ◌∙◌}
use Rattle.std.proofs.lemmas.Bool.{and_parts, and_from}
use Rattle.jsonml_tree.specs.declared.limits.TheConstants.{GREATEST_DEPTH}
use Rattle.key_spec.specs.Data.{PlainRule}
use Rattle.key_spec.specs.Canonical.{canonical}
use Rattle.keyed_tree.specs.Data.{PlainKeyed}
use Rattle.version_set.specs.Members.{upto_pairs}
use Rattle.archive_tree.specs.Data.{PlainArchive}
use Rattle.archive_tree.specs.PartsTest.{is_archive}
use Rattle.archive_tree.specs.Stands.{ArchiveOf, Kept}
use Rattle.archive_tree.proofs.Necessary.{necessary}
use Rattle.archive_tree.proofs.OneArchive.{one_archive}
use Rattle.archive_tree.proofs.Rebuilt.{sufficient}
use Rattle.archive_tree.proofs.Tells.{archive_tells}
use Rattle.record_parts.specs.Bounds.{most}
use Rattle.record_format.specs.Files.{tail_bytes}
use Rattle.archive_file.specs.NodeFits.{is_archive_keyed}
use Rattle.archive_file.specs.Sound.{Sound, SoundAs}
use Rattle.archive_file.proofs.ArchiveKeyed.{archive-keyed}
use Rattle.archive_file.proofs.ClosedWays.{closed-lead}
use Rattle.archive_file.proofs.FrontLaws.{behind_header}
use Rattle.archive_file.proofs.OneReading.{sound-one}
use Rattle.archive_file.proofs.SoundLaws.{row-well, sound-row, sound-short, read-file}
use Rattle.node_judge.specs.InPlace.{LiesSound}
use Rattle.node_judge.proofs.InPlaceLaws.{archive-law}

module _ (rules : List PlainRule) (bytes : List ℕ) where
  sound-lies : (vs : List PlainKeyed) → SoundAs rules vs bytes → (a : PlainArchive) × (ArchiveOf vs a × LiesSound rules a bytes)
  sound-lies vs s =
      let a = s.file.archive in
      let formed = row-well (upto_pairs a.n) a.kids s.file.has.records in
      let keyed = (archive-keyed vs a s.file.is rules (closed-lead rules (canonical rules, s.specification)) formed).1 s.keyed in
      let lies : LiesSound rules a bytes = record {
        behind = behind_header a;
        front = record { specification = s.specification; text = s.file.has.text; bytes = s.file.spelled };
        few = s.file.has.count;
        row = sound-row rules vs bytes s (behind_header a) refl;
        short = sound-short rules vs bytes s;
        sound = archive-law rules a ∙ and_from (is_archive a) (is_archive_keyed rules a) ((archive_tells a).1 (necessary vs a s.file.is)) keyed;
      } in
      (a, (s.file.is, lies))

  module _ (a : PlainArchive) (h : LiesSound rules a bytes) where
    tells : IsTrue (is_archive a) × IsTrue (is_archive_keyed rules a)
    tells = and_parts (is_archive a) (is_archive_keyed rules a) (sym (archive-law rules a) ∙ h.sound)

    -- it stands for versions
    pub lies-kept : Kept a
    lies-kept = sufficient a ((archive_tells a).0 tells.0)

    lies-sound : (vs : List PlainKeyed) → ArchiveOf vs a → SoundAs rules vs bytes
    lies-sound vs at =
        let formed = row-well (upto_pairs a.n) a.kids h.row.records in
        record {
          specification = h.front.specification;
          keyed = (archive-keyed vs a at rules (closed-lead rules (canonical rules, h.front.specification)) formed).0 tells.1;
          few = subst (λ n. n ≤ most) (sym at.count) h.few;
          file = read-file rules a.n a.kids (tail_bytes a) h.behind bytes _ GREATEST_DEPTH h.front h.few h.row refl refl h.short a refl vs at;
        }

  -- the file of versions is that of their archive's nodes
  pub file-law : (vs : List PlainKeyed) → SoundAs rules vs bytes ↔ ((a : PlainArchive) × (ArchiveOf vs a × LiesSound rules a bytes))
  file-law vs = (sound-lies vs, λ h. lies-sound h.0 h.1.1 vs h.1.0)

pub sound-law : (bytes : List ℕ) → Sound bytes ↔ ((rules : List PlainRule) × (a : PlainArchive) × LiesSound rules a bytes)
sound-law bytes = (
  λ h. (let s = sound-lies h.rules bytes h.versions h.is in (h.rules, s.0, s.1.1)),
  λ h. (
      let kept = lies-kept h.0 bytes h.1 h.2 in
      record { rules = h.0; versions = kept.versions; is = lies-sound h.0 bytes h.1 h.2 kept.versions kept.is }),
)

-- bytes are those of one archive
pub lies-one : (rules others : List PlainRule) (a b : PlainArchive) (bytes : List ℕ) → LiesSound rules a bytes → LiesSound others b bytes → (rules ≡ others) × (a ≡ b)
lies-one rules others a b bytes h g =
    let mine = lies-kept rules bytes a h in
    let theirs = lies-kept others bytes b g in
    let same = sound-one rules mine.versions others theirs.versions bytes (lies-sound rules bytes a h mine.versions mine.is) (lies-sound others bytes b g theirs.versions theirs.is) in
    (same.0, one_archive theirs.versions a b (subst (λ vs. ArchiveOf vs a) same.1 mine.is) theirs.is)
