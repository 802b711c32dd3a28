-- What stands in a sound file, and what becomes of it with one more version.
use Rattle.std.proofs.Common.{◌≡◌, ◌↔◌, ℕ, ◌+◌, ◌<◌, IsTrue, List, [], ◌∷◌, ◌++◌, length, drop, None, refl, ap, subst, ◌∙◌, inl, arith, length-drop}
use Rattle.std.specs.List.{flat_map}
use Rattle.std.proofs.lemmas.List.{length-append}
use Rattle.jsonml_text.specs.Texts.{AreTexts}
use Rattle.key_spec.specs.Canonical.{canonical}
use Rattle.key_spec.specs.Closed.{IsClosed}
use Rattle.key_spec.specs.Data.{PlainRule}
use Rattle.keyed_tree.specs.Data.{PlainKeyed}
use Rattle.keyed_tree.specs.Plain.{plain}
use Rattle.archive_tree.specs.Data.{no_nodes, PlainArchive}
use Rattle.archive_tree.specs.Stands.{ArchiveOf}
use Rattle.archive_tree.proofs.Readings.{one_list}
use Rattle.archive_tree.proofs.OneArchive.{one_archive}
use Rattle.nested_merge.specs.Alike.{AlikeAll}
use Rattle.nested_merge.specs.Below.{are_nodes_below}
use Rattle.nested_merge.specs.Fits.{all_fit}
use Rattle.nested_merge.specs.Merged.{fresh, with_version}
use Rattle.nested_merge.proofs.ArchiveGrows.{archive_grows}
use Rattle.nested_merge.proofs.Bounds.{archive_below}
use Rattle.nested_merge.proofs.FitsLemmas.{fits_alike}
use Rattle.nested_merge.proofs.VersionsStay.{empty_archive}
use Rattle.nested_merge.proofs.Weave.{has_left, has_right}
use Rattle.record_parts.specs.Bounds.{most}
use Rattle.record_format.specs.Files.{header_bytes, file_records, tail_bytes, file_bytes, HasFile, FileOf}
use Rattle.record_format.specs.Shapes.{IsShapedNode, IsShaped}
use Rattle.record_format.specs.Spelling.{rec_bytes}
use Rattle.record_format.proofs.Pieces.{all-append}
use Rattle.archive_file.specs.KeyedBy.{IsKeyedBy, AreKeyedBy}
use Rattle.archive_file.specs.Sound.{SoundAs}
use Rattle.archive_file.proofs.AlikeLaws.{keyed-alike}
use Rattle.archive_file.proofs.FrontLaws.{behind_header}
use Rattle.archive_file.proofs.KeyedLaws.{keyed-is_element, keyed-is_ordered}
use Rattle.archive_file.proofs.SoundLaws.{sound-reads}
use Rattle.record_cursor.specs.Moves.{IsHeaderOf}
use Rattle.record_cursor.specs.View.{PlainHeader}
use Rattle.record_writer.specs.Calls.{started, all_appended, AllFit}
use Rattle.record_writer.specs.Walks.{walk_of}
use Rattle.record_writer.proofs.FitLaws.{walk-fits-exactly}
use Rattle.record_writer.proofs.WalkLaws.{walk-spells}
use Rattle.archive_file.proofs.ShapedArchives.{archive-shaped, sound-texts}

-- ---- the header

-- the header is that of the archive
pub record Heads (h : PlainHeader) (rules : List PlainRule) (a : PlainArchive) : Type 0 where
  pub rules_are : h.rules ≡ rules
  pub count : h.versions ≡ a.n
  pub first : h.first ≡ length (header_bytes rules a.n)

pub sound-heads : (h : PlainHeader) (rules : List PlainRule) (vs : List PlainKeyed) (bytes : List ℕ) (s : SoundAs rules vs bytes) → IsHeaderOf h bytes → Heads h rules s.file.archive
sound-heads h rules vs bytes s is =
    let a = s.file.archive in
    let r = sound-reads rules vs bytes s h.rules h.versions (drop h.first bytes) is in
    let spelled = ap length s.file.spelled ∙ length-append (header_bytes rules a.n) (behind_header a) in
    let tail = length-append (flat_map rec_bytes (file_records a)) (tail_bytes a) in
    record {
      rules_are = r.specification;
      count = r.count;
      first = omega (arith, ap length r.now_is, length-drop h.first bytes, spelled, tail);
    }

-- ---- a version that begins alone

abbrev none-yet : PlainArchive
none-yet = record { n = 0; kids = no_nodes }

alone : (rules : List PlainRule) (k : PlainKeyed) → IsKeyedBy rules k → ArchiveOf (k ∷ []) (with_version none-yet k)
alone rules k keyed = archive_grows [] none-yet k empty_archive (λ v m. absurd m) (keyed-is_ordered rules k keyed) (keyed-is_element rules k keyed)

pub fresh-shaped : (rules : List PlainRule) (k : PlainKeyed) → IsClosed rules → IsKeyedBy rules k → AreTexts (plain k) → IsShapedNode (fresh None k)
fresh-shaped rules k closed keyed texts =
    let shaped : IsShaped (with_version none-yet k) = archive-shaped rules (k ∷ []) (with_version none-yet k) closed (keyed, tt) (texts, tt) (alone rules k keyed) (omega arith) in
    shaped.kids.0

-- ---- one more version

module _ (rules : List PlainRule) (vs : List PlainKeyed) (bytes : List ℕ) (k : PlainKeyed) (s : SoundAs rules vs bytes) (keyed : IsKeyedBy rules k) (texts : AreTexts (plain k)) where
  abbrev pub old : PlainArchive
  old = s.file.archive

  abbrev pub grown : PlainArchive
  grown = with_version old k

  all-keyed : AreKeyedBy rules (vs ++ k ∷ [])
  all-keyed = all-append (IsKeyedBy rules) vs (k ∷ []) s.keyed (keyed, tt)

  alike : AlikeAll vs k
  alike v m = keyed-alike rules (vs ++ k ∷ []) all-keyed v k (has_left v vs (k ∷ []) m) (has_right k vs (k ∷ []) (inl refl))

  grows : ArchiveOf (vs ++ k ∷ []) grown
  grows = archive_grows vs old k s.file.is alike (keyed-is_ordered rules k keyed) (keyed-is_element rules k keyed)

  pub old-below : IsTrue (are_nodes_below (old.n + 1) old.kids)
  old-below = archive_below vs old s.file.is

  pub old-fits : IsTrue (all_fit old.kids (k ∷ []))
  old-fits = (fits_alike old k ∣ record { versions = vs; is = s.file.is } ∣₁).1 (λ us h. subst (λ z. AlikeAll z k) (one_list vs us old s.file.is h) alike)

  grown-shaped : old.n < most → IsShaped grown
  grown-shaped room =
      archive-shaped rules (vs ++ k ∷ []) grown (canonical rules, s.specification) all-keyed (all-append (λ v. AreTexts (plain v)) vs (k ∷ []) (sound-texts rules vs bytes s) (texts, tt)) grows (omega (arith, room))

  -- what is appended by way of the calls that walk it
  pub walk-spelled : header_bytes rules (old.n + 1) ++ all_appended (started rules (old.n + 1)) (walk_of grown) ≡ file_bytes rules grown
  walk-spelled = walk-spells rules grown

  exactly : old.n < most → HasFile rules grown ↔ AllFit (started rules (old.n + 1)) (walk_of grown)
  exactly room = walk-fits-exactly rules grown s.file.has.text (grown-shaped room)

  -- is the sound archive of all versions
  pub grown-sound : old.n < most → AllFit (started rules (old.n + 1)) (walk_of grown) → SoundAs rules (vs ++ k ∷ []) (file_bytes rules grown)
  grown-sound room fit =
      let has = (exactly room).1 fit in
      let count = grows.count in
      record {
        specification = s.specification;
        keyed = all-keyed;
        few = omega (arith, room, count);
        file = record { archive = grown; is = grows; has = has; spelled = refl };
      }

  -- and where they do not all fit there is none
  pub grown-none : old.n < most → ¬ AllFit (started rules (old.n + 1)) (walk_of grown) → (file : List ℕ) → ¬ FileOf rules (vs ++ k ∷ []) file
  grown-none room over file f = over ((exactly room).0 (subst (HasFile rules) (one_archive (vs ++ k ∷ []) f.archive grown f.is grows) f.has))
