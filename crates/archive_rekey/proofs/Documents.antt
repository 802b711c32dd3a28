-- The versions of an archive as documents.
use Rattle.std.proofs.Common.{◌≡◌, ◌∙◌, ◌≤◌, ℕ, zero, suc, true, List, [], ◌∷◌, Option, None, Some, IsSome, IfSome, true≢false, refl, ap, sym, subst, arith}
use Rattle.std.specs.List.{AllByRecursion, range_with_len}
use Rattle.std.specs.Option.{option_map}
use Rattle.version_set.specs.Members.{has}
use Rattle.jsonml_tree.specs.Data.{PlainTree}
use Rattle.jsonml_tree.specs.Fits.{IsElement}
use Rattle.keyed_tree.specs.Data.{PlainKeyed, inner, leaf}
use Rattle.keyed_tree.specs.Plain.{plain}
use Rattle.keyed_tree.specs.WellFormed.{IsKeyedWellFormed}
use Rattle.keyed_tree.proofs.PlainLemmas.{plain_well_formed}
use Rattle.archive_tree.specs.Data.{PlainArchive}
use Rattle.archive_tree.specs.Read.{read_root}
use Rattle.archive_tree.specs.Stands.{ArchiveOf, version_of}
use Rattle.archive_tree.specs.WellFormed.{AreNodesWellFormed}
use Rattle.archive_tree.proofs.Numbers.{Has-has, has_range}
use Rattle.archive_tree.proofs.Versions.{read_is_some, root_well, version_item}
use Rattle.archive_rekey.specs.Progress.{IsDocument}
use Rattle.archive_rekey.specs.Rekeyed.{SpellDocuments}
use Rattle.archive_rekey.proofs.Below.{root_below}

-- what is read at the root, below a parent that has the version
pub version_below : (vs : List PlainKeyed) (a : PlainArchive) (i : ℕ) → ArchiveOf vs a → 1 ≤ i → i ≤ a.n → read_root i (i ∷ []) a.kids ≡ version_of vs i
version_below vs a i h low high =
    let there : has (range_with_len 1 a.n) i ≡ true = Has-has (range_with_len 1 a.n) i (has_range 1 a.n i low (omega (arith, high))) in
    sym (root_below i (range_with_len 1 a.n) a.kids there) ∙ version_item vs a h i

-- there is one
pub some_below : (vs : List PlainKeyed) (a : PlainArchive) (i : ℕ) → ArchiveOf vs a → 1 ≤ i → i ≤ a.n → ¬ (None ≡ option_map plain (read_root i (i ∷ []) a.kids))
some_below vs a i h low high = go (version_of vs i) (subst IsSome (version_item vs a h i) ((read_is_some vs a h i).1 (low, high))) (version_below vs a i h low high)
  where
    go : (o : Option PlainKeyed) → IsSome o → read_root i (i ∷ []) a.kids ≡ o → ¬ (None ≡ option_map plain (read_root i (i ∷ []) a.kids))
    go None some e f = absurd (true≢false (sym some))
    go (Some v) some e f = (let none : None ≡ option_map plain (Some v) = f ∙ ap (option_map plain) e in cc)

spells_element : (v : PlainKeyed) → IsElement (plain v)
spells_element (inner l ks) = refl
spells_element (leaf l b) = refl

all_at : (P : PlainKeyed → Type 0) (vs : List PlainKeyed) (i : ℕ) (v : PlainKeyed) → AllByRecursion P vs → version_of vs i ≡ Some v → P v
all_at P vs zero v h e = cc
all_at P [] (suc i) v h e = cc
all_at P (x ∷ xs) (suc zero) v h e = (let same : x ≡ v = cc in subst P same h.0)
all_at P (x ∷ xs) (suc (suc i)) v h e = all_at P xs (suc i) v h.1 e

version_document : (vs : List PlainKeyed) (i : ℕ) (v : PlainKeyed) → SpellDocuments vs → version_of vs i ≡ Some v → IsKeyedWellFormed v → IsDocument (plain v)
version_document vs i v documents e well =
    let proper = all_at _ vs i v documents.proper e in
    record {
      element = spells_element v;
      well_formed = plain_well_formed v proper.0 well;
      shallow = proper.1;
      items = all_at _ vs i v documents.items e;
    }

-- the document of a version that is read at the root
pub document_below : (vs : List PlainKeyed) (a : PlainArchive) (i : ℕ) (t : PlainTree) → ArchiveOf vs a → SpellDocuments vs → AreNodesWellFormed a.kids → 1 ≤ i → i ≤ a.n
    → Some t ≡ option_map plain (read_root i (i ∷ []) a.kids) → IsDocument t
document_below vs a i t h documents well low high = go (read_root i (i ∷ []) a.kids) (version_below vs a i h low high) (root_well i (i ∷ []) a.kids well)
  where
    go : (o : Option PlainKeyed) → o ≡ version_of vs i → IfSome o IsKeyedWellFormed → Some t ≡ option_map plain o → IsDocument t
    go None e w f = cc
    go (Some v) e w f = (let same : plain v ≡ t = cc in subst IsDocument same (version_document vs i v documents (sym e) w))
