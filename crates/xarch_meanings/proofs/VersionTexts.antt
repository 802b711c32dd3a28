-- An archive, its versions and their texts are functions of the bytes of its file.
use Rattle.std.proofs.Common.{◌≡◌, ℕ, zero, suc, ◌+◌, ◌≤◌, List, [], ◌∷◌, ◌++◌, map, length, drop, Option, Some, None, Ok, refl, sym, ap, ◌∙◌, arith, append_assoc, append-nil}
use Rattle.std.specs.List.{AllByRecursion, filter_map, flat_map, range_with_len, slice_get}
use Rattle.std.specs.Option.{option_map_or}
use Rattle.std.proofs.lemmas.List.{drop-append-le, drop_all, length-append}
use Rattle.version_set.specs.Members.{upto_pairs}
use Rattle.key_spec.specs.Canonical.{canonical}
use Rattle.key_spec.specs.Closed.{closed}
use Rattle.key_spec.specs.Data.{PlainRule}
use Rattle.keyed_tree.specs.Data.{PlainLabel, PlainKeyed}
use Rattle.keyed_print.specs.KeyedText.{keyed_text}
use Rattle.archive_tree.specs.Data.{Stamp, PlainAlt, PlainNode, inner_node, leaf_node, PlainNodes, no_nodes, node, PlainArchive}
use Rattle.archive_tree.specs.Read.{version_at}
use Rattle.archive_tree.specs.Stands.{version_of, ArchiveOf}
use Rattle.record_format.specs.Bounds.{IsRec}
use Rattle.record_format.specs.Data.{PlainRec, inner_rec, leaf_rec, alt_rec, end_rec, leaf_end}
use Rattle.record_format.specs.Files.{HasFile, header_bytes, file_bytes, file_records, root_pieces, tail_bytes}
use Rattle.record_format.specs.Fronts.{header_at}
use Rattle.record_format.specs.Nodes.{Piece, alt_of, dir_of, node_piece, node_pieces, set_in}
use Rattle.record_format.specs.Reading.{record_at}
use Rattle.record_format.specs.Spelling.{rec_bytes}
use Rattle.xarch_meanings.specs.Texts.{TellsArchives, TellsTexts, TellsVersions}

-- ---- records

-- at most so many records that stand one after another
abbrev records_at : ℕ → List ℕ → List PlainRec
records_at zero bytes = []
records_at (suc n) bytes = option_map_or (λ (x : PlainRec × List ℕ). x.0 ∷ records_at n x.1) (record_at bytes) []

-- records that begin with these
abbrev BeginsWith : List PlainRec → List PlainRec → Type 0
BeginsWith rs all = (more : List PlainRec) × (all ≡ rs ++ more)

some-bytes : (r : PlainRec) → 1 ≤ length (rec_bytes r)
some-bytes r = omega arith

count-within : (rs : List PlainRec) → length rs ≤ length (flat_map rec_bytes rs)
count-within [] = omega arith
count-within (r ∷ rs) =
    let one = some-bytes r in
    let rest = count-within rs in
    omega (arith, one, rest, length-append (rec_bytes r) (flat_map rec_bytes rs))

-- ---- nodes

-- an inner node that is not closed yet, and the nodes before it, the last of them first
record Open : Type 0 where
  label : PlainLabel
  stamp : Stamp
  before : List PlainNode

-- nodes in front of others, the last of them first
abbrev onto : List PlainNode → PlainNodes → PlainNodes
onto [] ks = ks
onto (k ∷ now) ks = onto now (node k ks)

-- the last node with an alternative more
abbrev with_alt : PlainAlt → List PlainNode → List PlainNode
with_alt x [] = []
with_alt x (leaf_node l s xs ∷ now) = leaf_node l s (xs ++ x ∷ []) ∷ now
with_alt x (inner_node l s ks ∷ now) = inner_node l s ks ∷ now

-- the nodes of records, up to the END of the virtual root
abbrev nodes_of : List PlainRec → List PlainNode → List Open → PlainNodes
nodes_of [] now opens = no_nodes
nodes_of (inner_rec l s ∷ rs) now opens = nodes_of rs [] (record { label = l; stamp = s; before = now } ∷ opens)
nodes_of (leaf_rec l s ∷ rs) now opens = nodes_of rs (leaf_node l s [] ∷ now) opens
nodes_of (alt_rec s b ∷ rs) now opens = nodes_of rs (with_alt (record { stamp = s; body = b }) now) opens
nodes_of (leaf_end ∷ rs) now opens = nodes_of rs now opens
nodes_of (end_rec d ∷ rs) now [] = onto now no_nodes
nodes_of (end_rec d ∷ rs) now (o ∷ opens) = nodes_of rs (inner_node o.label o.stamp (onto now no_nodes) ∷ o.before) opens

-- the nodes behind those that came before, the last of them first
abbrev behind : PlainNodes → List PlainNode → List PlainNode
behind no_nodes now = now
behind (node k ks) now = behind ks (k ∷ now)

abbrev joined : PlainNodes → PlainNodes → PlainNodes
joined no_nodes ks = ks
joined (node j js) ks = node j (joined js ks)

joined-none : (ks : PlainNodes) → joined ks no_nodes ≡ ks
joined-none no_nodes = refl
joined-none (node k ks) = ap (node k) (joined-none ks)

onto-behind : (js : PlainNodes) (now : List PlainNode) (ks : PlainNodes) → onto (behind js now) ks ≡ onto now (joined js ks)
onto-behind no_nodes now ks = refl
onto-behind (node j js) now ks = onto-behind js (j ∷ now) ks

row-again : (ks : PlainNodes) → onto (behind ks []) no_nodes ≡ ks
row-again ks = onto-behind ks [] no_nodes ∙ joined-none ks

alts-come : (l : PlainLabel) (s : Stamp) (ys xs : List PlainAlt) (rs : List PlainRec) (now : List PlainNode) (opens : List Open)
    → nodes_of (map alt_of xs ++ rs) (leaf_node l s ys ∷ now) opens ≡ nodes_of rs (leaf_node l s (ys ++ xs) ∷ now) opens
alts-come l s ys [] rs now opens = ap (λ zs. nodes_of rs (leaf_node l s zs ∷ now) opens) (sym (append-nil ys))
alts-come l s ys (x ∷ xs) rs now opens = alts-come l s (ys ++ x ∷ []) xs rs now opens ∙ ap (λ zs. nodes_of rs (leaf_node l s zs ∷ now) opens) (append_assoc ys (x ∷ []) xs)

abbrev records_in : List (ℕ × ℕ) → PlainNodes → List PlainRec
records_in set ks = flat_map (λ (p : Piece). p.records) (node_pieces set ks)

mutual
  node-comes : (parent : List (ℕ × ℕ)) (k : PlainNode) (rs : List PlainRec) (now : List PlainNode) (opens : List Open) → nodes_of ((node_piece parent k).records ++ rs) now opens ≡ nodes_of rs (k ∷ now) opens
  node-comes parent (inner_node l s ks) rs now opens =
      let set = set_in s parent in
      let end = end_rec (dir_of (node_pieces set ks)) in
      let o : Open = record { label = l; stamp = s; before = now } in
      ap (λ zs. nodes_of zs [] (o ∷ opens)) (append_assoc (records_in set ks) (end ∷ []) rs)
      ∙ row-comes set ks (end ∷ rs) [] (o ∷ opens)
      ∙ ap (λ js. nodes_of rs (inner_node l s js ∷ now) opens) (row-again ks)
  node-comes parent (leaf_node l s xs) rs now opens =
      ap (λ zs. nodes_of zs (leaf_node l s [] ∷ now) opens) (append_assoc (map alt_of xs) (leaf_end ∷ []) rs) ∙ alts-come l s [] xs (leaf_end ∷ rs) now opens

  row-comes : (set : List (ℕ × ℕ)) (ks : PlainNodes) (rs : List PlainRec) (now : List PlainNode) (opens : List Open) → nodes_of (records_in set ks ++ rs) now opens ≡ nodes_of rs (behind ks now) opens
  row-comes set no_nodes rs now opens = refl
  row-comes set (node k ks) rs now opens =
      ap (λ zs. nodes_of zs now opens) (append_assoc ((node_piece set k).records) (records_in set ks) rs)
      ∙ node-comes set k (records_in set ks ++ rs) now opens
      ∙ row-comes set ks rs (k ∷ now) opens

-- ---- archives

abbrev archive_behind : Option ((List PlainRule × ℕ) × List ℕ) → PlainArchive
archive_behind None = record { n = 0; kids = no_nodes }
archive_behind (Some (h, rest)) = record { n = h.1; kids = nodes_of (records_at (length rest) rest) [] [] }

abbrev pub archive_in : List ℕ → PlainArchive
archive_in bytes = archive_behind (header_at bytes)

-- ---- versions

abbrev versions_of : PlainArchive → List PlainKeyed
versions_of a = filter_map (λ i. version_at i a) (range_with_len 1 a.n)

abbrev pub versions_in : List ℕ → List PlainKeyed
versions_in bytes = versions_of (archive_in bytes)

-- those of a function that gives each element at its place, from m on
each-again : (f : ℕ → Option PlainKeyed) (vs : List PlainKeyed) (m : ℕ) → ((i : ℕ) → f (m + i) ≡ slice_get vs i) → filter_map f (range_with_len m (length vs)) ≡ vs
each-again f [] m h = refl
each-again f (v ∷ vs) m h =
    let none : m ≡ m + 0 = omega arith in
    let first : f m ≡ Some v = ap f none ∙ h 0 in
    let rest = each-again f vs (m + 1) (λ i. (let on : m + 1 + i ≡ m + suc i = omega arith in ap f on ∙ h (suc i))) in
    rw first (ap (λ us. v ∷ us) rest)

abbrev text_of : Option PlainKeyed → List ℕ
text_of None = []
text_of (Some k) = keyed_text k

abbrev pub text_in : List ℕ → ℕ → List ℕ
text_in bytes i = text_of (version_at i (archive_in bytes))

-- From what is known of all records, of all archive files and of all archives: records are read as they are spelled, a header stands in front, and
-- what is read at a number is that version.
module _ (again : (r : PlainRec) (rest : List ℕ) → IsRec r → record_at (rec_bytes r ++ rest) ≡ Some (r, rest))
    (stands : (rules : List PlainRule) (a : PlainArchive) → closed (canonical rules) ≡ Ok rules → HasFile rules a → header_at (file_bytes rules a) ≡ Some ((rules, a.n), drop (length (header_bytes rules a.n)) (file_bytes rules a)))
    (versions : (vs : List PlainKeyed) (a : PlainArchive) (i : ℕ) → ArchiveOf vs a → version_at i a ≡ version_of vs i) where
  read-again : (rs : List PlainRec) (n : ℕ) (rest : List ℕ) → AllByRecursion IsRec rs → length rs ≤ n → BeginsWith rs (records_at n (flat_map rec_bytes rs ++ rest))
  read-again [] n rest fit few = (records_at n rest, refl)
  read-again (r ∷ rs) zero rest fit few = absurd (omega (arith, few))
  read-again (r ∷ rs) (suc n) rest fit few =
      let tail = flat_map rec_bytes rs ++ rest in
      let later = read-again rs n rest fit.1 (omega (arith, few)) in
      let at : record_at (flat_map rec_bytes (r ∷ rs) ++ rest) ≡ Some (r, tail) = ap record_at (append_assoc (rec_bytes r) (flat_map rec_bytes rs) rest) ∙ again r tail fit.0 in
      (later.0, ap (λ (x : Option (PlainRec × List ℕ)). option_map_or (λ (y : PlainRec × List ℕ). y.0 ∷ records_at n y.1) x []) at ∙ ap (λ zs. r ∷ zs) later.1)

  kids-again : (a : PlainArchive) (rest : List ℕ) → AllByRecursion IsRec (file_records a) → nodes_of (records_at (length (flat_map rec_bytes (file_records a) ++ rest)) (flat_map rec_bytes (file_records a) ++ rest)) [] [] ≡ a.kids
  kids-again a rest fit =
      let bytes = flat_map rec_bytes (file_records a) in
      let end = end_rec (dir_of (root_pieces a)) in
      let b = read-again (file_records a) (length (bytes ++ rest)) rest fit (let few = count-within (file_records a) in omega (arith, few, length-append bytes rest)) in
      ap (λ zs. nodes_of zs [] []) (b.1 ∙ append_assoc (records_in (upto_pairs a.n) a.kids) (end ∷ []) b.0)
      ∙ row-comes (upto_pairs a.n) a.kids (end ∷ b.0) [] []
      ∙ row-again a.kids

  behind-header : (rules : List PlainRule) (a : PlainArchive) → drop (length (header_bytes rules a.n)) (file_bytes rules a) ≡ flat_map rec_bytes (file_records a) ++ tail_bytes a
  behind-header rules a =
      let head = header_bytes rules a.n in
      let rest = flat_map rec_bytes (file_records a) ++ tail_bytes a in
      drop-append-le (length head) head rest (omega arith) ∙ ap (λ l. l ++ rest) (drop_all (length head) head (omega arith))

  pub archives : TellsArchives archive_in
  archives = record {
    is = λ bytes rules vs sound. (
        let f = sound.file in
        let a = f.archive in
        let rest = flat_map rec_bytes (file_records a) ++ tail_bytes a in
        let at : header_at bytes ≡ Some ((rules, a.n), rest) = ap header_at f.spelled ∙ stands rules a sound.specification f.has ∙ ap (λ (z : List ℕ). Some ((rules, a.n), z)) (behind-header rules a) in
        ap archive_behind at ∙ ap (λ ks. record { n = a.n; kids = ks }) (kids-again a (tail_bytes a) f.has.records)
        );
  }

  pub texts : TellsTexts text_in
  texts = record {
    is = λ bytes rules vs i k sound version. (
        let f = sound.file in
        ap (λ a. text_of (version_at i a)) (archives.is bytes rules vs sound) ∙ ap text_of (versions vs f.archive i f.is ∙ version)
        );
  }

  pub all-versions : TellsVersions versions_in
  all-versions = record {
    is = λ bytes rules vs sound. (
        let f = sound.file in
        ap versions_of (archives.is bytes rules vs sound)
        ∙ ap (λ n. filter_map (λ i. version_at i f.archive) (range_with_len 1 n)) (sym f.is.count)
        ∙ each-again (λ i. version_at i f.archive) vs 1 (λ i. (let on : 1 + i ≡ suc i = omega arith in ap (λ j. version_at j f.archive) on ∙ versions vs f.archive (suc i) f.is))
        );
  }
