-- An archive is within the bounds of the format where its versions are, and its versions where it has a file.
use Rattle.std.proofs.Common.{◌≡◌, ◌≢◌, ℕ, ◌+◌, ◌-◌, ◌<◌, ◌≤◌, cond, true, false, true≢false, List, [], ◌∷◌, ◌++◌, map, length, Option, Some, None, refl, ap, sym, subst, ◌∙◌, inl, inr, arith}
use Rattle.std.specs.List.{AllByRecursion, enumerate_from}
use Rattle.jsonml_text.specs.Texts.{AreTexts}
use Rattle.keyed_tree.specs.Data.{PlainKey, PlainLabel, PlainKeyed, inner, leaf, PlainKids, no_kids, kid, kids_list, kids_of, label_of}
use Rattle.keyed_tree.specs.Kids.{kid_at}
use Rattle.keyed_tree.specs.Laws.{key_cmp-is_eq}
use Rattle.keyed_tree.specs.Lists.{Has}
use Rattle.keyed_tree.specs.Plain.{plain}
use Rattle.keyed_tree.proofs.Kids.{has_found}
use Rattle.jsonml_tree.proofs.Lists.{all_has, has_all}
use Rattle.key_spec.specs.Closed.{IsClosed}
use Rattle.key_spec.specs.Data.{PlainRule}
use Rattle.version_set.specs.Members.{has, members, numbers, upto_pairs}
use Rattle.version_set.specs.Pairs.{IsFrom}
use Rattle.archive_tree.specs.Data.{Stamp, eff, PlainAlt, PlainNode, inner_node, leaf_node, PlainNodes, no_nodes, node, node_label, node_stamp, nodes_list, PlainArchive}
use Rattle.archive_tree.specs.Read.{body_at, read, read_row}
use Rattle.archive_tree.specs.Stands.{nums, those, passed, under, rooted, has_body, nums_with, Stamped, AltStands, StandsFor, EachStands, numbered, ArchiveOf}
use Rattle.archive_tree.proofs.Necessary.{body_there}
use Rattle.archive_tree.proofs.Numbers.{has_range}
use Rattle.archive_tree.proofs.Readings.{all_numbers}
use Rattle.archive_tree.proofs.Those.{all_those, those_has, passed_is, labelled}
use Rattle.record_parts.specs.Bounds.{IsStamp, most}
use Rattle.record_parts.specs.Shapes.{IsShapedValue, IsShapedLabel}
use Rattle.record_parts.specs.ShapeLaws.{value_parts, label_parts}
use Rattle.record_format.specs.Bounds.{IsRec}
use Rattle.record_format.specs.Data.{end_rec, leaf_end}
use Rattle.record_format.specs.Nodes.{dir_of, alt_of, set_in, node_piece, node_pieces, closed_by_end}
use Rattle.record_format.specs.Shapes.{IsShapedAlt, IsShapedNode, AreShapedNodes, IsShaped}
use Rattle.archive_file.specs.KeyedBy.{AreKeyedBy}
use Rattle.archive_file.specs.Sound.{SoundAs}
use Rattle.archive_file.proofs.ArchiveKeyed.{read-of}
use Rattle.archive_file.proofs.FileLaws.{all-front, all-back, records_of}
use Rattle.archive_file.proofs.ShapedVersions.{IsShapedKeyed, AreShapedKids, versions-shaped, shaped-texts}

-- ---- numbered versions

-- a version within the bounds, and its number
abbrev IsShapedAt : ℕ × PlainKeyed → Type 0
IsShapedAt w = (w.0 ≤ most) × IsShapedKeyed w.1

label-shaped : (k : PlainKeyed) → IsShapedKeyed k → IsShapedLabel (label_of k)
label-shaped (inner l ks) h = h.0
label-shaped (leaf l b) h = h.0

kids-have : (ks : PlainKids) (c : PlainKeyed) → AreShapedKids ks → Has c (kids_list ks) → IsShapedKeyed c
kids-have no_kids c h m = absurd m
kids-have (kid k ks) c h m = elim m [ inl e ↦ subst IsShapedKeyed e h.0 | inr n ↦ kids-have ks c h.1 n ]

found-shaped : (l : PlainLabel) (k c : PlainKeyed) → IsShapedKeyed k → kid_at l (kids_of k) ≡ Some c → IsShapedKeyed c
found-shaped l (inner m ks) c h e = kids-have ks c h.1 (has_found l c (kids_list ks) e).0
found-shaped l (leaf m b) c h e = cc

those-shaped : (f : PlainKeyed → Option PlainKeyed) → ((k c : PlainKeyed) → IsShapedKeyed k → f k ≡ Some c → IsShapedKeyed c) → (ws : List (ℕ × PlainKeyed)) → AllByRecursion IsShapedAt ws → AllByRecursion IsShapedAt (those f ws)
those-shaped f keeps ws h = has_all IsShapedAt (those f ws) (λ w m.
    let from = those_has f w.0 w.1 ws m in
    let own = all_has IsShapedAt ws (w.0, from.tree) h from.has in
    (own.0, keeps from.tree w.1 own.1 from.gives))

under-shaped : (l : PlainLabel) (ws : List (ℕ × PlainKeyed)) → AllByRecursion IsShapedAt ws → AllByRecursion IsShapedAt (under ws l)
under-shaped l ws h = those-shaped (λ k. kid_at l (kids_of k)) (found-shaped l) ws h

rooted-shaped : (l : PlainLabel) (ws : List (ℕ × PlainKeyed)) → AllByRecursion IsShapedAt ws → AllByRecursion IsShapedAt (rooted ws l)
rooted-shaped l ws h = those-shaped (passed (labelled l)) (λ k c g e. subst IsShapedKeyed (passed_is (labelled l) k c e) g) ws h

numbered-shaped : (n : ℕ) (vs : List PlainKeyed) → n + length vs ≤ most + 1 → AllByRecursion IsShapedKeyed vs → AllByRecursion IsShapedAt (enumerate_from n vs)
numbered-shaped n [] few h = tt
numbered-shaped n (v ∷ vs) few h = ((omega arith, h.0), numbered-shaped (n + 1) vs (omega arith) h.1)

nums-below : (ws : List (ℕ × PlainKeyed)) → AllByRecursion IsShapedAt ws → AllByRecursion (λ n. n ≤ most) (nums ws)
nums-below [] h = tt
nums-below (w ∷ ws) h = (h.0.0, nums-below ws h.1)

nums-some : (ws : List (ℕ × PlainKeyed)) → ws ≢ [] → nums ws ≢ []
nums-some [] h e = h refl
nums-some (w ∷ ws) h e = cc

-- ---- stamps

ends-below : (low : ℕ) (s : List (ℕ × ℕ)) → IsFrom low s → AllByRecursion (λ n. n ≤ most) (members s) → AllByRecursion (λ (p : ℕ × ℕ). p.1 ≤ most) s
ends-below low [] h g = tt
ends-below low (p ∷ ps) h g =
    let up : p.0 ≤ p.1 = h.1 in
    let last : p.1 < p.0 + (p.1 + 1 - p.0) = omega arith in
    let own = all-front (λ (n : ℕ). n ≤ most) (numbers p) (members ps) g in
    (all_has (λ (n : ℕ). n ≤ most) (numbers p) p.1 own (has_range p.0 (p.1 + 1 - p.0) p.1 up last), ends-below (p.1 + 2) ps h.2 (all-back (λ (n : ℕ). n ≤ most) (numbers p) (members ps) g))

stamp-shaped : (s : Stamp) (ns ps : List ℕ) → Stamped s ns ps → ns ≢ [] → AllByRecursion (λ n. n ≤ most) ns → IsStamp s
stamp-shaped None ns ps h some below = tt
stamp-shaped (Some t) ns ps h some below =
    let canonical = h.canonical t refl in
    let same : members t ≡ ns = h.effective in (
      record { canonical = canonical; within = ends-below 1 t canonical (subst (AllByRecursion (λ (n : ℕ). n ≤ most)) (sym same) below) },
      λ e. some (sym same ∙ ap members e),
    )

-- ---- nodes

first-label : (l : PlainLabel) (ws : List (ℕ × PlainKeyed)) → ws ≢ [] → AllByRecursion (λ (w : ℕ × PlainKeyed). label_of w.1 ≡ l) ws → AllByRecursion IsShapedAt ws → IsShapedLabel l
first-label l [] some e h = absurd (some refl)
first-label l (w ∷ ws) some e h = subst IsShapedLabel e.0 (label-shaped w.1 h.0.1)

own-body : (b : PlainKey) (k : PlainKeyed) → IsShapedKeyed k → has_body b k ≡ true → IsShapedValue b
own-body b (inner l ks) h e = absurd (true≢false (sym e))
own-body b (leaf l c) h e = subst IsShapedValue ((key_cmp-is_eq c b).0 e) h.1

some-number : (ns : List ℕ) → ns ≢ [] → (n : ℕ) × Has n ns
some-number [] some = absurd (some refl)
some-number (n ∷ ns) some = (n, inl refl)

alt-shaped : (ws : List (ℕ × PlainKeyed)) (x : PlainAlt) → AllByRecursion IsShapedAt ws → AltStands x ws → IsShapedAlt x
alt-shaped ws x h g =
    let first = some-number (nums_with ws x.body) g.some in
    let there = body_there x.body first.0 ws first.1 in
    let own = all_has IsShapedAt ws (first.0, there.tree) h there.has in
    let below = all_those (λ n. n ≤ most) (passed (has_body x.body)) ws (nums-below ws h) in
    (stamp-shaped x.stamp (nums_with ws x.body) (nums ws) g.stamped g.some below, own-body x.body there.tree own.1 there.is)

alts-shaped : (ws : List (ℕ × PlainKeyed)) (xs : List PlainAlt) → AllByRecursion IsShapedAt ws → AllByRecursion (λ a. AltStands a ws) xs → AllByRecursion IsShapedAlt xs
alts-shaped ws [] h g = tt
alts-shaped ws (x ∷ xs) h g = (alt-shaped ws x h g.0, alts-shaped ws xs h g.1)

mutual
  node-shaped : (k : PlainNode) (ws : List (ℕ × PlainKeyed)) (ps : List ℕ) → AllByRecursion IsShapedAt ws → StandsFor k ws ps → IsShapedNode k
  node-shaped (inner_node l s ks) ws ps h g = (
    first-label l ws g.common.some g.common.labelled h,
    stamp-shaped s (nums ws) ps g.common.stamped (nums-some ws g.common.some) (nums-below ws h),
    nodes-shaped ks (under ws) (nums ws) (λ m. under-shaped m ws h) g.row.kids,
  )
  node-shaped (leaf_node l s xs) ws ps h g = (
    first-label l ws g.common.some g.common.labelled h,
    stamp-shaped s (nums ws) ps g.common.stamped (nums-some ws g.common.some) (nums-below ws h),
    alts-shaped ws xs h g.alts,
  )

  nodes-shaped : (ks : PlainNodes) (u : PlainLabel → List (ℕ × PlainKeyed)) (ns : List ℕ) → ((l : PlainLabel) → AllByRecursion IsShapedAt (u l)) → EachStands ks u ns → AreShapedNodes ks
  nodes-shaped no_nodes u ns h g = tt
  nodes-shaped (node k ks) u ns h g = (node-shaped k (u (node_label k)) ns (h (node_label k)) g.0, nodes-shaped ks u ns h g.1)

pub archive-shaped : (rules : List PlainRule) (vs : List PlainKeyed) (a : PlainArchive) → IsClosed rules → AreKeyedBy rules vs → AllByRecursion (λ v. AreTexts (plain v)) vs → ArchiveOf vs a → a.n ≤ most → IsShaped a
archive-shaped rules vs a closed keyed texts at few =
    let count = at.count in
    let all = numbered-shaped 1 vs (omega arith) (versions-shaped rules closed vs keyed texts) in
    record { count = few; kids = nodes-shaped a.kids (rooted (numbered vs)) (nums (numbered vs)) (λ l. rooted-shaped l (numbered vs) all) at.row.kids }

-- ---- what has a file is within the bounds

alts-made : (xs : List PlainAlt) → AllByRecursion IsRec (map alt_of xs ++ leaf_end ∷ []) → AllByRecursion IsShapedAlt xs
alts-made [] h = tt
alts-made (x ∷ xs) h = (let body = h.0.body in ((body.0, ((value_parts x.body).0 body.1).0), alts-made xs h.1))

mutual
  node-made : (parent : List (ℕ × ℕ)) (k : PlainNode) → AllByRecursion IsRec ((node_piece parent k).records) → IsShapedNode k
  node-made parent (inner_node l s ks) h =
      let ps = node_pieces (set_in s parent) ks in
      let body = h.0.body in
      (((label_parts l).0 body.0).0, body.1, nodes-made (set_in s parent) ks (all-front IsRec (records_of ps) (end_rec (dir_of ps) ∷ []) h.1))
  node-made parent (leaf_node l s xs) h = (let body = h.0.body in (((label_parts l).0 body.0).0, body.1, alts-made xs h.1))

  nodes-made : (parent : List (ℕ × ℕ)) (ks : PlainNodes) → AllByRecursion IsRec (records_of (node_pieces parent ks)) → AreShapedNodes ks
  nodes-made parent no_nodes h = tt
  nodes-made parent (node k ks) h =
      let p = node_piece parent k in
      let more = records_of (node_pieces parent ks) in
      (node-made parent k (all-front IsRec p.records more h), nodes-made parent ks (all-back IsRec p.records more h))

row-made : (set : List (ℕ × ℕ)) (ks : PlainNodes) → AllByRecursion IsRec (closed_by_end (node_pieces set ks)) → AreShapedNodes ks
row-made set ks h = (let ps = node_pieces set ks in nodes-made set ks (all-front IsRec (records_of ps) (end_rec (dir_of ps) ∷ []) h))

-- ---- and so is each version that is read of it

body-read : (n : ℕ) (ns : List ℕ) (xs : List PlainAlt) → AllByRecursion IsShapedAlt xs → IsShapedValue (body_at n ns xs)
body-read n ns [] h = tt
body-read n ns (x ∷ xs) h = elim (has (eff x.stamp ns) n) as (λ b. IsShapedValue (cond b x.body (body_at n ns xs))) [ true ↦ h.0.1 | false ↦ body-read n ns xs h.1 ]

mutual
  node-read : (n : ℕ) (ps : List ℕ) (k : PlainNode) → IsShapedNode k → IsShapedKeyed (read n ps k)
  node-read n ps (inner_node l s ks) h = (h.0, row-read n (eff s ps) ks h.2)
  node-read n ps (leaf_node l s xs) h = (h.0, body-read n (eff s ps) xs h.2)

  row-read : (n : ℕ) (ns : List ℕ) (ks : PlainNodes) → AreShapedNodes ks → AreShapedKids (read_row n ns ks)
  row-read n ns no_nodes h = tt
  row-read n ns (node k ks) h =
      let rest = row-read n ns ks h.1 in
      elim (has (eff (node_stamp k) ns) n) as (λ b. AreShapedKids (cond b (kid (read n ns k) (read_row n ns ks)) (read_row n ns ks))) [ true ↦ (node-read n ns k h.0, rest) | false ↦ rest ]

nodes-have : (ks : PlainNodes) (k : PlainNode) → AreShapedNodes ks → Has k (nodes_list ks) → IsShapedNode k
nodes-have no_nodes k h m = absurd m
nodes-have (node j ks) k h m = elim m [ inl e ↦ subst IsShapedNode e h.0 | inr n ↦ nodes-have ks k h.1 n ]

pub sound-texts : (rules : List PlainRule) (vs : List PlainKeyed) (bytes : List ℕ) → SoundAs rules vs bytes → AllByRecursion (λ v. AreTexts (plain v)) vs
sound-texts rules vs bytes s =
    let a = s.file.archive in
    let made = row-made (upto_pairs a.n) a.kids s.file.has.records in
    has_all (λ v. AreTexts (plain v)) vs (λ v m.
    let r = read-of vs a s.file.is v m in
    let shaped = node-read r.number (all_numbers a) r.root (nodes-have a.kids r.root made r.among) in
    shaped-texts v (subst IsShapedKeyed r.gives shaped))
