-- Bytes are the file of one archive.
use Rattle.std.proofs.Common.{◌≡◌, ℕ, ◌-◌, ltb, List, [], ◌∷◌, ◌++◌, map, length, refl, sym, ap, subst, ◌∙◌, append_assoc}
use Rattle.std.specs.List.{flat_map}
use Rattle.std.proofs.lemmas.List.{append-nil}
use Rattle.jsonml_tree.specs.declared.limits.TheConstants.{GREATEST_DEPTH}
use Rattle.key_spec.specs.Data.{PlainRule}
use Rattle.keyed_tree.specs.Data.{PlainKeyed}
use Rattle.keyed_tree.proofs.Kids.{both}
use Rattle.archive_tree.specs.Data.{PlainAlt, PlainNode, inner_node, leaf_node, PlainNodes, no_nodes, node, nodes_list, nodes_from}
use Rattle.archive_tree.specs.Stands.{ArchiveOf}
use Rattle.archive_tree.proofs.Parts.{nodes_from-nodes_list}
use Rattle.archive_tree.proofs.Readings.{one_list}
use Rattle.version_set.specs.Members.{upto_pairs}
use Rattle.record_format.specs.Data.{PlainRec, inner_rec, leaf_rec, leaf_end}
use Rattle.record_format.specs.Spelling.{kind_of, body_bytes, rec_bytes}
use Rattle.record_format.specs.Nodes.{closed_by_end, alt_of, set_in, node_pieces}
use Rattle.record_format.specs.Files.{tail_bytes}
use Rattle.archive_file.specs.Laid.{are_nested, AltsAt, NodeAt, RowAt}
use Rattle.archive_file.specs.Sound.{SoundAs}
use Rattle.archive_file.proofs.FrontLaws.{behind_header, sound-header_at}
use Rattle.archive_file.proofs.LaidLaws.{first-record, first-frame, AltsLeft, alts-start, alts-next, alts-end, node-inner, node-leaf, NodesAt, then-node, RowLeft, row-start, row-end, row-node, end_of}
use Rattle.archive_file.proofs.SoundLaws.{sound-row, sound-reads}

alts-one : (xs : List PlainAlt) (r now : List ℕ) → AltsAt xs r now → (ys : List PlainAlt) (t : List ℕ) (done : List PlainAlt) → AltsLeft ys t done now → (done ++ xs ≡ ys) × (r ≡ t)
alts-one [] r now h ys t done left =
    let two = alts-end ys t done now left r (first-record leaf_end [] r now h.records.0 h.bytes) in
    (append-nil done ∙ two.0, two.1)
alts-one (x ∷ xs) r now h ys t done left =
    let more = map alt_of xs ++ leaf_end ∷ [] in
    let after = flat_map rec_bytes more ++ r in
    let on = alts-next ys t done now left x after (first-record (alt_of x) more r now h.records.0 h.bytes) in
    let two = alts-one xs r after (record { records = h.records.1; bytes = refl }) ys t (done ++ x ∷ []) on in
    (sym (append_assoc done (x ∷ []) xs) ∙ two.0, two.1)

mutual
  node-one : (p q : List (ℕ × ℕ)) (k j : PlainNode) (r t : List ℕ) (d e : ℕ) (now : List ℕ) → NodeAt p k r d now → NodeAt q j t e now → (k ≡ j) × (r ≡ t)
  node-one p q (leaf_node l s xs) j r t d e now h g =
      let more = map alt_of xs ++ leaf_end ∷ [] in
      let after = flat_map rec_bytes more ++ r in
      let other = node-leaf q j t e now g l s after (first-record (leaf_rec l s) more r now h.records.0 h.bytes) in
      let two = alts-one xs r after (record { records = h.records.1; bytes = refl }) other.alts t [] (alts-start other.alts t after other.lies) in
      (ap (λ (ys : List PlainAlt). leaf_node l s ys) two.0 ∙ other.is, two.1)
  node-one p q (inner_node l s ks) j r t d e now h g =
      let set = set_in s p in
      let more = closed_by_end (node_pieces set ks) in
      let after = flat_map rec_bytes more ++ r in
      let other = node-inner q j t e now g l s after (first-record (inner_rec l s) more r now h.records.0 h.bytes) in
      let nested = both (ltb 0 d) (are_nested (d - 1) ks) h.nested in
      let mine : NodesAt set (end_of set ks) ks r (d - 1) after = record { records = h.records.1; nested = nested.1; bytes = refl } in
      let two = nodes-one ks set (end_of set ks) r (d - 1) after refl mine (set_in s q) other.kids t (e - 1) [] (row-start (set_in s q) other.kids t (e - 1) after other.row) in
      (ap (λ (js : PlainNodes). inner_node l s js) (sym (nodes_from-nodes_list ks) ∙ two.0) ∙ other.is, two.1)

  nodes-one : (ks : PlainNodes) (set : List (ℕ × ℕ)) (end : PlainRec) (r : List ℕ) (d : ℕ) (now : List ℕ) → kind_of end ≡ 4 → NodesAt set end ks r d now → (q : List (ℕ × ℕ)) (js : PlainNodes) (t : List ℕ) (e : ℕ) (done : List PlainNode)
      → RowLeft q js t e done now → (nodes_from (done ++ nodes_list ks) ≡ js) × (r ≡ t)
  nodes-one no_nodes set end r d now four h q js t e done left =
      let two = row-end q js t e done now left (kind_of end) (body_bytes end) r (first-frame end [] r now h.records.0 h.bytes) four in
      (ap nodes_from (append-nil done) ∙ two.0, two.1)
  nodes-one (node k ks) set end r d now four h q js t e done left =
      let mine = then-node set end k ks r d now h in
      let other = row-node q js t e done now left mine.kind mine.body mine.after mine.is mine.opens in
      let first = node-one set q k other.first mine.behind other.behind d e now mine.lies other.lies in
      let on = other.on k mine.behind first.0 first.1 in
      let two = nodes-one ks set end r d mine.behind four mine.others q js t e (done ++ k ∷ []) on in
      (ap nodes_from (sym (append_assoc done (k ∷ []) (nodes_list ks))) ∙ two.0, two.1)

row-one : (p q : List (ℕ × ℕ)) (ks js : PlainNodes) (r t : List ℕ) (d e : ℕ) (now : List ℕ) → RowAt p ks r d now → RowAt q js t e now → ks ≡ js
row-one p q ks js r t d e now h g =
    let mine : NodesAt p (end_of p ks) ks r d now = record { records = h.records; nested = h.nested; bytes = h.bytes } in
    sym (nodes_from-nodes_list ks) ∙ (nodes-one ks p (end_of p ks) r d now refl mine q js t e [] (row-start q js t e now g)).0

-- two sound archives of the same bytes have the same rules and the same versions
pub sound-one : (rules : List PlainRule) (vs : List PlainKeyed) (others : List PlainRule) (us : List PlainKeyed) (bytes : List ℕ) → SoundAs rules vs bytes → SoundAs others us bytes → (rules ≡ others) × (vs ≡ us)
sound-one rules vs others us bytes s z =
    let a = s.file.archive in
    let b = z.file.archive in
    let h = sound-reads rules vs bytes s others (length us) (behind_header b) (sound-header_at others us bytes z) in
    let kids = row-one (upto_pairs a.n) (upto_pairs b.n) a.kids b.kids (tail_bytes a) (tail_bytes b) GREATEST_DEPTH GREATEST_DEPTH (behind_header b) (sound-row rules vs bytes s (behind_header b) h.now_is) (sound-row others us bytes z (behind_header b) refl) in
    let count : a.n ≡ b.n = sym h.count ∙ z.file.is.count in
    let same : a ≡ b = (λ i. record { n = count i; kids = kids i }) in
    (sym h.specification, one_list vs us b (subst (ArchiveOf vs) same s.file.is) z.file.is)
