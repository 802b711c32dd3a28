-- What a sound archive says of its bytes.
use Rattle.std.proofs.Common.{◌≡◌, ℕ, ◌-◌, ◌≤◌, Bool, true, false, cond, ltb, not, ◌&&◌, IsTrue, List, [], ◌∷◌, ◌++◌, map, length, Option, Some, None, refl, sym, ap, subst, ◌∙◌, true≢false, arith}
use Rattle.std.specs.List.{flat_map, AllByRecursion}
use Rattle.jsonml_tree.specs.declared.limits.TheConstants.{GREATEST_DEPTH}
use Rattle.key_spec.specs.Data.{PlainRule}
use Rattle.key_spec.specs.Canonical.{canonical}
use Rattle.key_spec.specs.Rules.{rule_of, is_frontier, below}
use Rattle.keyed_tree.specs.Data.{PlainKeyed}
use Rattle.keyed_tree.specs.Plain.{name_bytes}
use Rattle.keyed_tree.specs.Proper.{is_tag}
use Rattle.keyed_tree.specs.WellFormed.{is_label_well_formed, is_key_well_formed}
use Rattle.keyed_tree.proofs.Kids.{both}
use Rattle.archive_tree.specs.Data.{PlainAlt, PlainNode, inner_node, leaf_node, PlainNodes, no_nodes, node, node_label, PlainArchive}
use Rattle.archive_tree.specs.Stands.{ArchiveOf}
use Rattle.archive_tree.proofs.OneArchive.{one_archive}
use Rattle.archive_tree.specs.WellFormed.{are_alts_well_formed, is_node_well_formed, are_nodes_well_formed, IsNodeWellFormed, AreNodesWellFormed}
use Rattle.xa_fields.proofs.Fields.{some_is}
use Rattle.version_set.specs.Members.{upto_pairs}
use Rattle.xa_fields.specs.Spelling.{u64_bytes}
use Rattle.record_format.specs.Data.{end_rec, leaf_end}
use Rattle.record_format.specs.Spelling.{dir_bytes, rec_bytes}
use Rattle.record_format.specs.Bounds.{IsRec}
use Rattle.record_parts.specs.Bounds.{deepest, most}
use Rattle.record_format.specs.Nodes.{dir_of, alt_of, set_in, node_piece, node_pieces, closed_by_end}
use Rattle.record_format.specs.Files.{header_bytes, file_records, tail_bytes, file_bytes, longest, FileOf}
use Rattle.record_format.specs.Fronts.{header_at}
use Rattle.archive_file.specs.Laid.{is_nested, are_nested, IsFront, RowAt}
use Rattle.archive_file.specs.NodeFits.{node_has_keys, is_attr_node, node_fits, nodes_fit, is_shallow, are_shallow}
use Rattle.archive_file.specs.Sound.{SoundAs}
use Rattle.archive_file.proofs.ArchiveKeyed.{archive-keyed}
use Rattle.archive_file.proofs.ClosedWays.{closed-lead}
use Rattle.archive_file.proofs.FileLaws.{all-front, all-back, records_of}
use Rattle.archive_file.proofs.FrontLaws.{behind_header, sound-header_at}
use Rattle.archive_file.proofs.GoesLaws.{both-hold}
use Rattle.archive_file.proofs.WellLaws.{value-well, label-well}

-- ---- the nodes of a file are well formed

alts-well : (xs : List PlainAlt) → AllByRecursion IsRec (map alt_of xs ++ leaf_end ∷ []) → IsTrue (are_alts_well_formed xs)
alts-well [] h = refl
alts-well (x ∷ xs) h = both-hold (is_key_well_formed x.body) (are_alts_well_formed xs) (value-well x.body h.0.body.1) (alts-well xs h.1)

mutual
  node-well : (parent : List (ℕ × ℕ)) (k : PlainNode) → AllByRecursion IsRec ((node_piece parent k).records) → IsNodeWellFormed k
  node-well parent (inner_node l s ks) h =
      let ps = node_pieces (set_in s parent) ks in
      both-hold (is_label_well_formed l) (are_nodes_well_formed ks) (label-well l h.0.body.0) (nodes-well (set_in s parent) ks (all-front IsRec (records_of ps) (end_rec (dir_of ps) ∷ []) h.1))
  node-well parent (leaf_node l s xs) h = both-hold (is_label_well_formed l) (are_alts_well_formed xs) (label-well l h.0.body.0) (alts-well xs h.1)

  nodes-well : (parent : List (ℕ × ℕ)) (ks : PlainNodes) → AllByRecursion IsRec (records_of (node_pieces parent ks)) → AreNodesWellFormed ks
  nodes-well parent no_nodes h = refl
  nodes-well parent (node k ks) h =
      let p = node_piece parent k in
      let more = records_of (node_pieces parent ks) in
      both-hold (is_node_well_formed k) (are_nodes_well_formed ks) (node-well parent k (all-front IsRec p.records more h)) (nodes-well parent ks (all-back IsRec p.records more h))

pub row-well : (set : List (ℕ × ℕ)) (ks : PlainNodes) → AllByRecursion IsRec (closed_by_end (node_pieces set ks)) → AreNodesWellFormed ks
row-well set ks h = (let ps = node_pieces set ks in nodes-well set ks (all-front IsRec (records_of ps) (end_rec (dir_of ps) ∷ []) h))

-- ---- inner nodes stand for elements, so they nest no deeper

kid-nests : (rules : List PlainRule) (path : List (List ℕ)) (d : ℕ) (k : PlainNode) (b : Bool) → (IsTrue (is_shallow d k) → IsTrue (node_fits rules path k) → IsTrue (is_nested d k))
    → IsTrue (cond b (is_shallow d k) true) → IsTrue (cond b (node_fits rules path k) (is_attr_node k)) → IsTrue (is_nested d k)
kid-nests rules path d k true element h g = element h g
kid-nests rules path d (leaf_node l s xs) false element h g = refl
kid-nests rules path d (inner_node l s ks) false element h g = absurd (true≢false (sym g))

mutual
  node-nests : (rules : List PlainRule) (context : List (List ℕ)) (d : ℕ) (k : PlainNode) → IsTrue (is_shallow d k) → IsTrue (node_fits rules context k) → IsTrue (is_nested d k)
  node-nests rules context d (leaf_node l s xs) h g = refl
  node-nests rules context d (inner_node l s ks) h g =
      let path = below context (name_bytes l.name) in
      let keys = node_has_keys (rule_of rules context (name_bytes l.name)) l.keys (inner_node l s ks) in
      let deep = both (ltb 0 d) (are_shallow (d - 1) ks) h in
      let one = both (is_tag l.name) (keys && (not (is_frontier rules path) && nodes_fit rules path ks)) g in
      let two = both keys (not (is_frontier rules path) && nodes_fit rules path ks) one.1 in
      let three = both (not (is_frontier rules path)) (nodes_fit rules path ks) two.1 in
      both-hold (ltb 0 d) (are_nested (d - 1) ks) deep.0 (nodes-nest rules path (d - 1) ks deep.1 three.1)

  nodes-nest : (rules : List PlainRule) (path : List (List ℕ)) (d : ℕ) (ks : PlainNodes) → IsTrue (are_shallow d ks) → IsTrue (nodes_fit rules path ks) → IsTrue (are_nested d ks)
  nodes-nest rules path d no_nodes h g = refl
  nodes-nest rules path d (node k ks) h g =
      let deep = both (cond (is_tag (node_label k).name) (is_shallow d k) true) (are_shallow d ks) h in
      let fit = both (cond (is_tag (node_label k).name) (node_fits rules path k) (is_attr_node k)) (nodes_fit rules path ks) g in
      both-hold (is_nested d k) (are_nested d ks) (kid-nests rules path d k (is_tag (node_label k).name) (λ x y. node-nests rules path d k x y) deep.0 fit.0) (nodes-nest rules path d ks deep.1 fit.1)

sound-nested : (rules : List PlainRule) (vs : List PlainKeyed) (bytes : List ℕ) (s : SoundAs rules vs bytes) → IsTrue (are_nested GREATEST_DEPTH s.file.archive.kids)
sound-nested rules vs bytes s =
    let a = s.file.archive in
    let formed = row-well (upto_pairs a.n) a.kids s.file.has.records in
    let told = (archive-keyed vs a s.file.is rules (closed-lead rules (canonical rules, s.specification)) formed).1 s.keyed in
    let two = both (are_shallow GREATEST_DEPTH a.kids) (nodes_fit rules [] a.kids) told in
    nodes-nest rules [] GREATEST_DEPTH a.kids two.0 two.1

-- the same of the archive of its versions
pub versions-nested : (rules : List PlainRule) (vs : List PlainKeyed) (bytes : List ℕ) (a : PlainArchive) → SoundAs rules vs bytes → ArchiveOf vs a → IsTrue (are_nested deepest a.kids)
versions-nested rules vs bytes a s at = subst (λ (b : PlainArchive). IsTrue (are_nested deepest b.kids)) (one_archive vs s.file.archive a s.file.is at) (sound-nested rules vs bytes s)

-- ---- what a reader of its bytes finds

pub sound-row : (rules : List PlainRule) (vs : List PlainKeyed) (bytes : List ℕ) (s : SoundAs rules vs bytes) (now : List ℕ) → now ≡ behind_header s.file.archive
    → RowAt (upto_pairs s.file.archive.n) s.file.archive.kids (tail_bytes s.file.archive) GREATEST_DEPTH now
sound-row rules vs bytes s now e = record { records = s.file.has.records; nested = sound-nested rules vs bytes s; bytes = e }

-- the header that was read is that of the sound archive
pub record Header (rules : List PlainRule) (vs : List PlainKeyed) (bytes : List ℕ) (s : SoundAs rules vs bytes) (found : List PlainRule) (n : ℕ) (now : List ℕ) : Type 0 where
  pub specification : found ≡ rules
  pub count : n ≡ s.file.archive.n
  pub now_is : now ≡ behind_header s.file.archive

pub sound-reads : (rules : List PlainRule) (vs : List PlainKeyed) (bytes : List ℕ) (s : SoundAs rules vs bytes) (found : List PlainRule) (n : ℕ) (now : List ℕ) → header_at bytes ≡ Some ((found, n), now) → Header rules vs bytes s found n now
sound-reads rules vs bytes s found n now e =
    let a = s.file.archive in
    let same = some_is ((found, n), now) ((rules, length vs), behind_header a) (sym e ∙ sound-header_at rules vs bytes s) in
    record {
      specification = ap (λ (z : (List PlainRule × ℕ) × List ℕ). z.0.0) same;
      count = ap (λ (z : (List PlainRule × ℕ) × List ℕ). z.0.1) same ∙ s.file.is.count;
      now_is = ap (λ (z : (List PlainRule × ℕ) × List ℕ). z.1) same;
    }

none-some : {A : Type 0} (o : Option A) (x : A) → o ≡ None → o ≡ Some x → ⊥
none-some (Some y) x e f = absurd cc
none-some None x e f = absurd cc

pub sound-has-header : (rules : List PlainRule) (vs : List PlainKeyed) (bytes : List ℕ) → SoundAs rules vs bytes → header_at bytes ≡ None → ⊥
sound-has-header rules vs bytes s e = none-some (header_at bytes) ((rules, length vs), behind_header s.file.archive) e (sound-header_at rules vs bytes s)

-- the archive that was read is that of the sound archive's versions
pub sound-archive : (rules : List PlainRule) (vs : List PlainKeyed) (bytes : List ℕ) (s : SoundAs rules vs bytes) (n : ℕ) (ks : PlainNodes) → n ≡ s.file.archive.n → ks ≡ s.file.archive.kids → ArchiveOf vs (record { n = n; kids = ks })
sound-archive rules vs bytes s n ks e f =
    let same : s.file.archive ≡ record { n = n; kids = ks } = (λ i. record { n = sym e i; kids = sym f i }) in
    subst (ArchiveOf vs) same s.file.is

-- what stands behind its nodes
pub sound-tail : (rules : List PlainRule) (vs : List PlainKeyed) (bytes : List ℕ) (s : SoundAs rules vs bytes) (n : ℕ) (ks : PlainNodes) (rest : List ℕ) (dir : ℕ) → n ≡ s.file.archive.n → ks ≡ s.file.archive.kids
    → rest ≡ tail_bytes s.file.archive → dir ≡ length (dir_bytes (dir_of (node_pieces (upto_pairs n) ks))) → rest ≡ u64_bytes dir
sound-tail rules vs bytes s n ks rest dir count kids e d =
    e ∙ ap u64_bytes (λ i. length (dir_bytes (dir_of (node_pieces (upto_pairs (sym count i)) (sym kids i))))) ∙ ap u64_bytes (sym d)

pub sound-short : (rules : List PlainRule) (vs : List PlainKeyed) (bytes : List ℕ) (s : SoundAs rules vs bytes) → length bytes ≤ longest
sound-short rules vs bytes s = (let short = s.file.has.short in omega (arith, ap length s.file.spelled))

-- ---- what was read makes a file

pub read-file : (rules : List PlainRule) (n : ℕ) (ks : PlainNodes) (rest now bytes : List ℕ) (dir depth : ℕ) → IsFront rules n now bytes → n ≤ most → RowAt (upto_pairs n) ks rest depth now → rest ≡ u64_bytes dir
    → dir ≡ length (dir_bytes (dir_of (node_pieces (upto_pairs n) ks))) → length bytes ≤ longest → (a : PlainArchive) → a ≡ record { n = n; kids = ks } → (vs : List PlainKeyed) → ArchiveOf vs a → FileOf rules vs bytes
read-file rules n ks rest now bytes dir depth front few row tail d short a same vs at =
    let own : PlainArchive = record { n = n; kids = ks } in
    let spelled : bytes ≡ file_bytes rules own = front.bytes ∙ ap (λ (z : List ℕ). header_bytes rules n ++ z) (row.bytes ∙ ap (λ (z : List ℕ). flat_map rec_bytes (file_records own) ++ z) (tail ∙ ap u64_bytes d)) in
    record {
      archive = own;
      is = subst (ArchiveOf vs) same at;
      has = record { text = front.text; count = few; records = row.records; short = omega (arith, ap length spelled) };
      spelled = spelled;
    }
