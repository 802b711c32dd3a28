-- Files that are kept by name.
use Rattle.std.proofs.Common.{◌≡◌, ℕ, List, [], ◌∷◌, Bool, true, false, cond, Option, Some, String, Vec, Global, refl, sym, ap, ◌∙◌}
use Rattle.std.specs.Prelude.{string_bytes, option_map}
use Rattle.std.specs.Ordering.{nat_cmp, eq_by_cmp, is_eq}
use Rattle.std.specs.Cmp.{eq_by_cmp_equiv}
use Rattle.std.specs.Cmp.Lexicographic.{slice_cmp, nat_list_cmp_total}
use Rattle.std.specs.Str.{bytes_eq}
use Rattle.std.specs.String.{string_cmp}
use Rattle.std.specs.Map.{lookup}
use Rattle.std.specs.BTreeMap as tree
use Rattle.std.specs.BTreeMap.{BTreeMap}
use Rattle.std.specs.FinMap as fin
use Rattle.std.proofs.lemmas.Map.Text.{is_eq-slice_cmp, btree_map_updates_text}
use Rattle.xa_outside.specs.Folder.{Files}
use Rattle.xa_outside.specs.NamedFiles.{named_bytes}

abbrev pub Kept : Type 0
Kept = BTreeMap (String Global) (Vec ℕ Global)

abbrev pub items_of : Vec ℕ Global → List ℕ
items_of v = v.items

abbrev pub kept_files : Kept → Files
kept_files m = fin.from_entries (named_bytes m.entries)

find-named : (name : List ℕ) (es : List (String Global × Vec ℕ Global))
    → fin.find (slice_cmp nat_cmp) name (named_bytes es) ≡ option_map items_of (lookup (tree.is_at (λ k. slice_cmp nat_cmp name (string_bytes k))) es)
find-named name [] = refl
find-named name (e ∷ es) =
    elim (is_eq (slice_cmp nat_cmp name (string_bytes e.0))) as (λ b. cond b (Some e.1.items) (fin.find (slice_cmp nat_cmp) name (named_bytes es)) ≡ option_map items_of (cond b (Some e.1) (lookup (tree.is_at (λ k. slice_cmp nat_cmp name (string_bytes k))) es))) [
      | true ↦ refl
      | false ↦ find-named name es
    ]

-- what is kept under a name
pub get-kept_files : (m : Kept) (name : List ℕ) → fin.get (kept_files m) name ≡ option_map items_of (tree.get_by_text m name)
get-kept_files m name = fin.get-from_entries nat_list_cmp_total (named_bytes m.entries) name ∙ find-named name m.entries

same_names : (name q : List ℕ) → eq_by_cmp (slice_cmp nat_cmp) q name ≡ bytes_eq name q
same_names name q = (eq_by_cmp_equiv nat_list_cmp_total).symm q name ∙ is_eq-slice_cmp name q

at_names : (b : Bool) (v : Vec ℕ Global) (o : Option (Vec ℕ Global)) → option_map items_of (cond b (Some v) o) ≡ cond b (Some v.items) (option_map items_of o)
at_names true v o = refl
at_names false v o = refl

-- a name got new bytes
pub kept_files-insert : (m n : Kept) (name : String Global) (v : Vec ℕ Global) → tree.Updates string_cmp m n name (Some v) → kept_files n ≡ fin.insert (kept_files m) (string_bytes name) v.items
kept_files-insert m n name v updates =
    let bs = string_bytes name in
    fin.same_map nat_list_cmp_total (fin.slice_cmp-IsAntisymmetric fin.nat_cmp-IsAntisymmetric) _ _ (λ q.
    get-kept_files n q ∙ ap (option_map items_of) (btree_map_updates_text bs m n (Some v) updates q) ∙ at_names (bytes_eq bs q) v (tree.get_by_text m q)
    ∙ ap (λ o. cond (bytes_eq bs q) (Some v.items) o) (sym (get-kept_files m q))
    ∙ sym (fin.get-insert nat_list_cmp_total (kept_files m) bs v.items q ∙ ap (λ b. cond b (Some v.items) (fin.get (kept_files m) q)) (same_names bs q)))
