-- A version of a sound archive at the virtual root of its file.
use Rattle.std.proofs.Common.{◌≡◌, ℕ, ◌≤◌, zero, suc, ◌&&◌, ◌||◌, Bool, true, false, cond, not, IsTrue, true≢false, List, [], ◌∷◌, length, map, Option, Some, slice_get, refl, sym, ap, subst, ◌∙◌, inl, inr, arith}
use Rattle.std.specs.List.{flat_map, AllByRecursion}
use Rattle.std.specs.declared.cmp.Ordering.{Ordering}
use Rattle.std.specs.declared.cmp.Ordering.TheVariants.{Less}
use Rattle.std.specs.Ordering.{ordering_then}
use Rattle.xa_fields.proofs.Fields.{some_is}
use Rattle.xa_outside.specs.Folder.{Files}
use Rattle.version_set.specs.Members.{members, has, upto_pairs}
use Rattle.version_set.proofs.Sets.{members-upto_pairs}
use Rattle.key_spec.specs.Data.{PlainRule}
use Rattle.keyed_tree.specs.Alike.{IsLeaf}
use Rattle.keyed_tree.specs.Data.{PlainName, attr, tag, PlainKey, PlainLabel, PlainKeyed, inner, leaf, PlainKids, no_kids, kid, kids_list, label_of}
use Rattle.keyed_tree.specs.Kids.{ascend}
use Rattle.keyed_tree.specs.Laws.{label_cmp_total}
use Rattle.keyed_tree.specs.Lists.{Ascends, Has}
use Rattle.keyed_tree.specs.Order.{name_cmp, label_cmp}
use Rattle.keyed_tree.specs.Proper.{IsElement, IsProper, is_tag, has_no_keys, is_scalar, is_leaf_proper, is_proper, are_proper}
use Rattle.keyed_tree.proofs.Kids.{both, ascend-all}
use Rattle.jsonml_tree.proofs.Lists.{all_has, not_itself, source}
use Rattle.archive_tree.specs.Data.{eff, Stamp, PlainAlt, PlainNode, inner_node, leaf_node, PlainNodes, no_nodes, node, node_label, node_stamp, nodes_list, PlainArchive}
use Rattle.archive_tree.specs.Read.{read, read_root}
use Rattle.archive_tree.specs.Stands.{nums, those, passed, has_body, nums_with, under, rooted, numbered, labels, AltStands, LeafStands, StandsFor, EachStands, version_of, ArchiveOf}
use Rattle.archive_tree.proofs.Numbers.{has-Has, Has-has}
use Rattle.archive_tree.proofs.OneArchive.{one_archive}
use Rattle.archive_tree.proofs.Parts.{stands_nums}
use Rattle.archive_tree.proofs.Readings.{all_numbers, numbers, root_stands, version_read, own_body}
use Rattle.archive_tree.proofs.Readings.{some_has as not_empty}
use Rattle.archive_tree.proofs.Those.{has_those, nums_has, has_nums, one_tree, passes, orderly_numbered, rooted_has}
use Rattle.archive_tree.proofs.Versions.{version_has}
use Rattle.record_format.specs.Bounds.{IsRec}
use Rattle.record_format.specs.Files.{header_bytes, root_pieces, file_records, tail_bytes, file_bytes}
use Rattle.record_format.specs.Nodes.{closed_by_end, set_in}
use Rattle.record_format.specs.Spelling.{rec_bytes}
use Rattle.record_cursor.specs.Moves.{TellsFront}
use Rattle.record_cursor.proofs.Fills.{front-length}
use Rattle.archive_file.specs.Sound.{SoundAs}
use Rattle.archive_file.proofs.GoesLaws.{both-hold}
use Rattle.archive_file.proofs.KeyedLaws.{sound-plain}
use Rattle.archive_file.proofs.SoundLaws.{versions-nested}
use Rattle.file_rows.proofs.Children.{row_in}
use Rattle.file_rows.proofs.RootRows.{root-row-of}
use Rattle.file_get.specs.Kids.{set_of, has_at, kids_in, leaf_fits, kid_fits, row_fits, some_has, finds, finds_each, all_find}
use Rattle.file_get.specs.Roots.{RootTold}
use Rattle.file_get.proofs.Opened.{eff-members}
use Rattle.file_get.proofs.RowLists.{from-list}

-- ---- what is proper can be printed

abbrev IsTagged : PlainLabel → Type 0
IsTagged l = IsTrue (is_tag l.name)

-- elements come behind attributes
behind-tag : (p q : PlainName) (o : Ordering) → ordering_then (name_cmp p q) o ≡ Less → IsTrue (is_tag p) → IsTrue (is_tag q)
behind-tag (attr r) q o e t = absurd (true≢false (sym t))
behind-tag (tag r) (attr s) o e t = cc
behind-tag (tag r) (tag s) o e t = refl

all-behind : (l : PlainLabel) (ls : List PlainLabel) → IsTagged l → AllByRecursion (λ m. label_cmp l m ≡ Less) ls → AllByRecursion IsTagged ls
all-behind l [] t up = tt
all-behind l (m ∷ ls) t up = (behind-tag l.name m.name _ up.0 t, all-behind l ls t up.1)

behind-item : (h : Bool) (l : PlainLabel) (ls : List PlainLabel) → AllByRecursion (λ m. label_cmp l m ≡ Less) ls → (h ≡ true → AllByRecursion IsTagged ls) → (h || is_tag l.name) ≡ true → AllByRecursion IsTagged ls
behind-item true l ls up t e = t refl
behind-item false l ls up t e = all-behind l ls e up

leaf-in : (h : Bool) (n : PlainName) (keys : List PlainKey) (b : PlainKey) → IsTrue (is_leaf_proper n keys b) → (h ≡ true → IsTrue (is_tag n)) → IsTrue (leaf_fits true h n b)
leaf-in true (attr s) keys b p t = absurd (true≢false (sym (t refl)))
leaf-in false (attr s) keys b p t = (both (has_no_keys keys) (is_scalar b) p).1
leaf-in h (tag s) keys b p t = p

inner-parts : (l : PlainLabel) (ks : PlainKids) → IsProper (inner l ks) → IsTrue (is_tag l.name) × IsTrue (are_proper ks) × Ascends label_cmp (map label_of (kids_list ks))
inner-parts l ks p =
    let two = both (is_tag l.name && ascend ks) (are_proper ks) p in
    let front = both (is_tag l.name) (ascend ks) two.0 in
    (front.0, two.1, ascend-all ks front.1)

-- inside an element
mutual
  kid-in : (h : Bool) (k : PlainKeyed) → IsProper k → (h ≡ true → IsTagged (label_of k)) → IsTrue (kid_fits true h k)
  kid-in h (inner l ks) p t =
      let parts = inner-parts l ks p in
      both-hold (is_tag l.name) (row_fits true false ks) parts.0 (row-in false ks parts.1 parts.2 (λ e. absurd (true≢false (sym e))))
  kid-in h (leaf l b) p t = leaf-in h l.name l.keys b p t

  row-in : (h : Bool) (ks : PlainKids) → IsTrue (are_proper ks) → Ascends label_cmp (map label_of (kids_list ks)) → (h ≡ true → AllByRecursion IsTagged (map label_of (kids_list ks))) → IsTrue (row_fits true h ks)
  row-in h no_kids p up t = refl
  row-in h (kid k ks) p up t =
      let two = both (is_proper k) (are_proper ks) p in
      both-hold (kid_fits true h k) (row_fits true (h || is_tag (label_of k).name) ks) (kid-in h k two.0 (λ e. (t e).0))
      (row-in (h || is_tag (label_of k).name) ks two.1 up.1 (behind-item h (label_of k) (map label_of (kids_list ks)) up.0 (λ e. (t e).1)))

leaf-alone : (n : PlainName) (keys : List PlainKey) (b : PlainKey) → IsTrue (is_leaf_proper n keys b) → IsTrue (is_tag n) → IsTrue (leaf_fits false false n b)
leaf-alone (attr s) keys b p t = absurd (true≢false (sym t))
leaf-alone (tag s) keys b p t = p

pub proper-fits : (k : PlainKeyed) → IsProper k → IsElement k → IsTrue (kid_fits false false k)
proper-fits (inner l ks) p e = kid-in false (inner l ks) p (λ d. e)
proper-fits (leaf l b) p e = leaf-alone l.name l.keys b p e

-- ---- a leaf that has i has an alternative with i

some-of : (i : ℕ) (set : List (ℕ × ℕ)) (xs : List PlainAlt) (x : PlainAlt) → Has x xs → has (members (set_in x.stamp set)) i ≡ true → some_has i set xs ≡ true
some-of i set [] x m e = absurd m
some-of i set (y ∷ ys) x m e = elim m [
  | inl g ↦ (let d = subst (λ (z : PlainAlt). has (members (set_in z.stamp set)) i ≡ true) (sym g) e in rw d refl)
  | inr n ↦ (let rest = some-of i set ys x n e in elim (has (members (set_in y.stamp set)) i) as (λ b. (b || some_has i set ys) ≡ true) [ true ↦ refl | false ↦ rest ])
]

leaf-finds : (i : ℕ) (l : PlainLabel) (s : Stamp) (xs : List PlainAlt) (ws : List (ℕ × PlainKeyed)) (parent : List (ℕ × ℕ)) → LeafStands l s xs ws (members parent) → has (members (set_in s parent)) i ≡ true
    → some_has i (set_in s parent) xs ≡ true
leaf-finds i l s xs ws parent h e =
    let set = set_in s parent in
    let same : members set ≡ nums ws = sym (eff-members s parent) ∙ h.common.stamped.effective in
    let found = nums_has i ws (subst (λ ns. Has i ns) same (has-Has (members set) i e)) in
    let own = own_body found.tree (all_has (λ (w : ℕ × PlainKeyed). IsLeaf w.1) ws (i, found.tree) h.leaves found.has) in
    let f = passed (has_body own.body) in
    let pair : Has (i, found.tree) (those f ws) = has_those f i found.tree found.tree ws found.has (passes (has_body own.body) found.tree own.is) in
    let mine : Has i (nums_with ws own.body) = has_nums i found.tree (those f ws) pair in
    let alt = source (λ (x : PlainAlt). x.body) own.body xs (h.covered own.body (not_empty (nums_with ws own.body) i mine)) in
    let a = all_has (λ x. AltStands x ws) xs alt.item h.alts alt.has in
    let stored : members (set_in alt.item.stamp set) ≡ nums_with ws own.body = sym (eff-members alt.item.stamp set) ∙ ap (eff alt.item.stamp) same ∙ a.stamped.effective ∙ ap (nums_with ws) alt.is in
    some-of i set xs alt.item alt.has (subst (λ ns. has ns i ≡ true) (sym stored) (Has-has (nums_with ws own.body) i mine))

where-had : (a b : Bool) → (a ≡ true → b ≡ true) → (not a || b) ≡ true
where-had true b f = f refl
where-had false b f = refl

mutual
  node-finds : (i : ℕ) (k : PlainNode) (ws : List (ℕ × PlainKeyed)) (parent : List (ℕ × ℕ)) → StandsFor k ws (members parent) → has (members (set_in (node_stamp k) parent)) i ≡ true → finds i parent k ≡ true
  node-finds i (inner_node l s ks) ws parent h e = row-finds i ks (under ws) (set_in s parent) (subst (EachStands ks (under ws)) (sym h.common.stamped.effective ∙ eff-members s parent) h.row.kids)
  node-finds i (leaf_node l s xs) ws parent h e = leaf-finds i l s xs ws parent h e

  row-finds : (i : ℕ) (ks : PlainNodes) (u : PlainLabel → List (ℕ × PlainKeyed)) (parent : List (ℕ × ℕ)) → EachStands ks u (members parent) → finds_each i parent ks ≡ true
  row-finds i no_nodes u parent h = refl
  row-finds i (node k ks) u parent h =
      both-hold (not (has (members (set_in (node_stamp k) parent)) i) || finds i parent k) (finds_each i parent ks)
      (where-had (has (members (set_in (node_stamp k) parent)) i) (finds i parent k) (node-finds i k (u (node_label k)) parent h.0)) (row-finds i ks u parent h.1)

-- ---- one kid of the root has i

-- where all nodes that have i have one label, none behind it has i
none-behind : (i : ℕ) (parent : List (ℕ × ℕ)) (l : PlainLabel) (js : List PlainNode) → AllByRecursion (λ m. label_cmp l m ≡ Less) (map node_label js) → ((j : PlainNode) → Has j js → has_at i parent j ≡ true → node_label j ≡ l)
    → kids_in i parent js ≡ []
none-behind i parent l [] up own = refl
none-behind i parent l (j ∷ js) up own =
    elim (has_at i parent j) as (λ b. has_at i parent j ≡ b → cond b (read i (members parent) j ∷ kids_in i parent js) (kids_in i parent js) ≡ []) [
      | true ↦ λ e. absurd (not_itself label_cmp_total l (subst (λ m. label_cmp l m ≡ Less) (own j (inl refl) e) up.0))
      | false ↦ λ e. none-behind i parent l js up.1 (λ z m. own z (inr m))
    ] refl

root-kid : (j t : PlainKeyed) (js : List PlainKeyed) → Some j ≡ Some t → js ≡ [] → (j ∷ js) ≡ t ∷ []
root-kid j t js e f = cc

one-in : (i : ℕ) (parent : List (ℕ × ℕ)) (t : PlainKeyed) (ks : PlainNodes) → Ascends label_cmp (labels ks) → ((j : PlainNode) → Has j (nodes_list ks) → has_at i parent j ≡ true → node_label j ≡ label_of t)
    → read_root i (members parent) ks ≡ Some t → kids_in i parent (nodes_list ks) ≡ t ∷ []
one-in i parent t no_nodes up own e = cc
one-in i parent t (node j ks) up own e =
    let js = nodes_list ks in
    let first : cond (has_at i parent j) (Some (read i (members parent) j)) (read_root i (members parent) ks) ≡ Some t = ap (λ (ns : List ℕ). cond (has ns i) (Some (read i (members parent) j)) (read_root i (members parent) ks)) (sym (eff-members (node_stamp j) parent)) ∙ e in
    elim (has_at i parent j) as (λ b. has_at i parent j ≡ b → cond b (Some (read i (members parent) j)) (read_root i (members parent) ks) ≡ Some t → cond b (read i (members parent) j ∷ kids_in i parent js) (kids_in i parent js) ≡ t ∷ []) [
      | true ↦ λ d g. root-kid (read i (members parent) j) t (kids_in i parent js) g (none-behind i parent (label_of t) js (subst (λ l. AllByRecursion (λ m. label_cmp l m ≡ Less) (labels ks)) (own j (inl refl) d) up.0) (λ z m. own z (inr m)))
      | false ↦ λ d g. one-in i parent t ks up.1 (λ z m. own z (inr m)) g
    ] refl first

-- ---- the nodes of an archive

module _ (vs : List PlainKeyed) (a : PlainArchive) (is : ArchiveOf vs a) where
  pub root-finds : (i : ℕ) → all_find i (upto_pairs a.n) (nodes_list a.kids) ≡ true
  root-finds i =
      ap (finds_each i (upto_pairs a.n)) (from-list a.kids)
      ∙ row-finds i a.kids (rooted (numbered vs)) (upto_pairs a.n) (subst (EachStands a.kids (rooted (numbered vs))) (numbers vs a is ∙ sym (members-upto_pairs a.n)) is.row.kids)

  root-label : (i : ℕ) (t : PlainKeyed) → version_of vs i ≡ Some t → (j : PlainNode) → Has j (nodes_list a.kids) → has_at i (upto_pairs a.n) j ≡ true → node_label j ≡ label_of t
  root-label i t v j m e =
      let ws = rooted (numbered vs) (node_label j) in
      let set : members (set_of (upto_pairs a.n) j) ≡ nums ws = sym (eff-members (node_stamp j) (upto_pairs a.n)) ∙ ap (eff (node_stamp j)) (members-upto_pairs a.n) ∙ stands_nums j ws (all_numbers a) (root_stands vs a is j m) in
      let found = nums_has i ws (subst (λ ns. Has i ns) set (has-Has (members (set_of (upto_pairs a.n) j)) i e)) in
      let at = rooted_has i found.tree (node_label j) (numbered vs) found.has in
      let same : found.tree ≡ t = one_tree i found.tree t (numbered vs) (orderly_numbered vs is.ordered).ascending at.0 (version_has vs i t v) in
      sym at.1 ∙ ap label_of same

  pub root-one : (i : ℕ) (t : PlainKeyed) → version_of vs i ≡ Some t → kids_in i (upto_pairs a.n) (nodes_list a.kids) ≡ t ∷ []
  root-one i t v =
      one-in i (upto_pairs a.n) t a.kids is.row.ascending (root-label i t v)
      (ap (λ ns. read_root i ns a.kids) (members-upto_pairs a.n) ∙ version_read vs a is i t (version_has vs i t v))

-- ---- the versions

get-all : (P : PlainKeyed → Type 0) (vs : List PlainKeyed) (i : ℕ) (k : PlainKeyed) → AllByRecursion P vs → slice_get vs i ≡ Some k → P k
get-all P [] i k h e = cc
get-all P (v ∷ vs) zero k h e = subst P (some_is v k e) h.0
get-all P (v ∷ vs) (suc i) k h e = get-all P vs i k h.1 e

version-all : (P : PlainKeyed → Type 0) (vs : List PlainKeyed) (i : ℕ) (k : PlainKeyed) → AllByRecursion P vs → version_of vs i ≡ Some k → P k
version-all P vs zero k h e = cc
version-all P vs (suc i) k h e = get-all P vs i k h e

-- an archive that has a version has some
version-some : (vs : List PlainKeyed) (a : PlainArchive) (i : ℕ) (k : PlainKeyed) → ArchiveOf vs a → version_of vs i ≡ Some k → 1 ≤ a.n
version-some [] a zero k is e = cc
version-some [] a (suc i) k is e = cc
version-some (v ∷ vs) a i k is e = (let count = is.count in omega (arith, count))

-- Version i of a sound archive stands alone among the kids of the root that have i, and can be printed.
pub root_told : (i : ℕ) (files : Option Files) (name bytes : List ℕ) (size first : ℕ) (rules : List PlainRule) (vs : List PlainKeyed) (a : PlainArchive) (k : PlainKeyed)
    → TellsFront files name size bytes → SoundAs rules vs bytes → ArchiveOf vs a → version_of vs i ≡ Some k → first ≡ length (header_bytes rules a.n)
    → RootTold i files name bytes size first (row_in first (root_pieces a)) a k
root_told i files name bytes size first rules vs a k tells sound is version begins =
    let same = one_archive vs sound.file.archive a sound.file.is is in
    let spelled : bytes ≡ file_bytes rules a = sound.file.spelled ∙ ap (file_bytes rules) same in
    let whole = root-row-of (header_bytes rules a.n) (flat_map rec_bytes (file_records a)) (tail_bytes a) bytes (root_pieces a) size first spelled refl refl begins (front-length files name bytes size tells) in
    let element = version-all IsElement vs i k is.elements version in
    let proper = version-all _ vs i k (sound-plain rules vs bytes sound) version in
    record {
      tells = tells;
      stands = whole.stands;
      begins = refl;
      ends = whole.ends;
      tail = whole.tail;
      records = subst (λ (b : PlainArchive). AllByRecursion IsRec (closed_by_end (root_pieces b))) same sound.file.has.records;
      nested = versions-nested rules vs bytes a sound is;
      bodies = root-finds vs a is i;
      one = root-one vs a is i k version;
      fits = proper-fits k proper.0 element;
      element = element;
      some = version-some vs a i k is version;
    }
