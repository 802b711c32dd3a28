-- What the file of an archive gives, and which header stands in front of it.
use Rattle.std.proofs.Common.{◌≡◌, ℕ, List, [], length, drop, Option, sym, ap, subst, ◌∙◌, arith, length-drop}
use Rattle.std.specs.List.{flat_map}
use Rattle.std.proofs.lemmas.List.{length-append}
use Rattle.key_spec.specs.Data.{PlainRule}
use Rattle.keyed_tree.specs.Data.{PlainKeyed}
use Rattle.archive_tree.specs.Data.{PlainArchive}
use Rattle.xa_outside.specs.Folder.{Files}
use Rattle.record_format.specs.Files.{header_bytes, file_records, tail_bytes}
use Rattle.record_format.specs.Spelling.{rec_bytes}
use Rattle.record_cursor.specs.Items.{items_of}
use Rattle.record_cursor.specs.Moves.{TellsFront, Comes, IsHeaderOf}
use Rattle.record_cursor.specs.Next.{Gives}
use Rattle.record_cursor.specs.Places.{Standing, among_nodes, finished}
use Rattle.record_cursor.specs.View.{PlainHeader, PlainCursor}
use Rattle.record_cursor.proofs.Items.{file-gives}
use Rattle.archive_file.specs.Sound.{SoundAs}
use Rattle.archive_file.proofs.FrontLaws.{behind_header}
use Rattle.archive_file.proofs.SoundLaws.{sound-reads, versions-nested}

-- the header is that of the archive
pub record Heads (h : PlainHeader) (rules : List PlainRule) (a : PlainArchive) : Type 0 where
  pub rules_are : h.rules ≡ rules
  pub count : h.versions ≡ a.n
  pub first : h.first ≡ length (header_bytes rules a.n)

pub sound-heads : (h : PlainHeader) (rules : List PlainRule) (vs : List PlainKeyed) (bytes : List ℕ) (s : SoundAs rules vs bytes) → IsHeaderOf h bytes → Heads h rules s.file.archive
sound-heads h rules vs bytes s is =
    let a = s.file.archive in
    let r = sound-reads rules vs bytes s h.rules h.versions (drop h.first bytes) is in
    let spelled = ap length s.file.spelled ∙ length-append (header_bytes rules a.n) (behind_header a) in
    let tail = length-append (flat_map rec_bytes (file_records a)) (tail_bytes a) in
    record {
      rules_are = r.specification;
      count = r.count;
      first = omega (arith, ap length r.now_is, length-drop h.first bytes, spelled, tail);
    }

-- the items that come at the first record
pub comes-all : (h : PlainHeader) (rules : List PlainRule) (vs : List PlainKeyed) (bytes : List ℕ) → IsHeaderOf h bytes → (s : SoundAs rules vs bytes) → (told : Option Files) (c : PlainCursor) → TellsFront told c.name c.length bytes → c.standing ≡ among_nodes 0 → c.at ≡ h.first
    → Comes told c (items_of s.file.archive)
comes-all h rules vs bytes is s told c tells standing at =
    let old = s.file.archive in
    let heads = sound-heads h rules vs bytes s is in
    let place : c.at ≡ length (header_bytes rules old.n) = at ∙ heads.first in
    let gives = file-gives rules old s.file.has (versions-nested rules vs bytes old s s.file.is) in
    record {
      bytes = bytes;
      tells = tells;
      standing = finished;
      rest = [];
      gives = subst (λ (p : Standing × List ℕ). Gives p.0 p.1 (items_of old) finished []) (λ i. (sym standing i, drop (sym place i) (sym s.file.spelled i))) gives;
    }
