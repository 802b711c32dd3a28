-- What comes in the file of a sound archive, seen with its numbers raised, and which header stands in front of it.
use Rattle.std.proofs.Common.{◌≡◌, ℕ, List, [], ◌∷◌, ◌++◌, map, length, drop, Option, Some, None, refl, sym, ap, subst, ◌∙◌, append_assoc, arith, length-drop}
use Rattle.std.specs.List.{flat_map}
use Rattle.std.proofs.lemmas.List.{map-append, length-append}
use Rattle.key_spec.specs.Data.{PlainRule}
use Rattle.keyed_tree.specs.Data.{PlainKeyed}
use Rattle.version_set.specs.Members.{upto_pairs}
use Rattle.archive_tree.specs.Data.{Stamp, PlainAlt, PlainNode, inner_node, leaf_node, PlainNodes, no_nodes, node, PlainArchive}
use Rattle.xa_outside.specs.Folder.{Files}
use Rattle.record_format.specs.Data.{PlainRec, end_rec, leaf_end}
use Rattle.record_format.specs.Files.{header_bytes, file_records, tail_bytes}
use Rattle.record_format.specs.Nodes.{dir_of, closed_by_end, alt_of, set_in, node_piece, node_pieces}
use Rattle.record_format.specs.Spelling.{rec_bytes}
use Rattle.record_format.proofs.Pieces.{records_of}
use Rattle.record_copy.specs.Raised.{raised_stamp, raised_alt, raised_node, raised_nodes}
use Rattle.record_copy.specs.Seen.{seen, Coming, node_items, row_items}
use Rattle.record_cursor.specs.Items.{PlainItem, inner_item, leaf_item, alt_item, leaf_end_item, end_item, finish, item_of, items_of}
use Rattle.record_cursor.specs.Moves.{TellsFront, IsHeaderOf}
use Rattle.record_cursor.specs.Next.{Gives}
use Rattle.record_cursor.specs.Places.{Standing, among_nodes, finished}
use Rattle.record_cursor.specs.View.{PlainHeader, PlainCursor}
use Rattle.record_cursor.proofs.Items.{file-gives}
use Rattle.archive_file.specs.Sound.{SoundAs}
use Rattle.archive_file.proofs.FrontLaws.{behind_header}
use Rattle.archive_file.proofs.SoundLaws.{sound-reads, versions-nested}
use Rattle.archive_join.specs.Join.{IsArchive}
use Rattle.archive_join.proofs.Running.{raised-none}
use Rattle.record_cursor.specs.NodeItems.{alt_items}

-- ---- node by node

-- what is seen of records
abbrev shown : ℕ → List PlainRec → List PlainItem
shown n rs = map (seen n) (map item_of rs)

shown-both : (n : ℕ) (rs qs : List PlainRec) → shown n (rs ++ qs) ≡ shown n rs ++ shown n qs
shown-both n rs qs = ap (map (seen n)) (map-append item_of rs qs) ∙ map-append (seen n) (map item_of rs) (map item_of qs)

shown-alts : (n : ℕ) (xs : List PlainAlt) → shown n (map alt_of xs) ≡ alt_items (map (raised_alt n) xs)
shown-alts n [] = refl
shown-alts n (x ∷ xs) = ap (λ (is : List PlainItem). alt_item (raised_stamp n x.stamp) x.body ∷ is) (shown-alts n xs)

closed : (n : ℕ) (set : List (ℕ × ℕ)) (ks : PlainNodes) → shown n (records_of (node_pieces set ks)) ≡ row_items (raised_nodes n ks) → shown n (closed_by_end (node_pieces set ks)) ≡ row_items (raised_nodes n ks) ++ end_item 0 ∷ []
closed n set ks h =
    shown-both n (records_of (node_pieces set ks)) (end_rec (dir_of (node_pieces set ks)) ∷ []) ∙ ap (λ (is : List PlainItem). is ++ end_item 0 ∷ []) h

mutual
  shown-node : (n : ℕ) (parent : List (ℕ × ℕ)) (k : PlainNode) → shown n ((node_piece parent k).records) ≡ node_items (raised_node n k)
  shown-node n parent (inner_node l s ks) = ap (λ (is : List PlainItem). inner_item l (raised_stamp n s) ∷ is) (closed n (set_in s parent) ks (shown-row n (set_in s parent) ks))
  shown-node n parent (leaf_node l s xs) =
      ap (λ (is : List PlainItem). leaf_item l (raised_stamp n s) ∷ is) (shown-both n (map alt_of xs) (leaf_end ∷ []) ∙ ap (λ (is : List PlainItem). is ++ leaf_end_item ∷ []) (shown-alts n xs))

  shown-row : (n : ℕ) (set : List (ℕ × ℕ)) (ks : PlainNodes) → shown n (records_of (node_pieces set ks)) ≡ row_items (raised_nodes n ks)
  shown-row n set no_nodes = refl
  shown-row n set (node k ks) = shown-both n ((node_piece set k).records) (records_of (node_pieces set ks)) ∙ (λ i. shown-node n set k i ++ shown-row n set ks i)

-- the nodes of an archive, the END behind them, and the end of the file
abbrev pub nodes_of : ℕ → PlainArchive → List PlainItem
nodes_of n a = row_items (raised_nodes n a.kids) ++ end_item 0 ∷ finish ∷ []

items-seen : (n : ℕ) (a : PlainArchive) → map (seen n) (items_of a) ≡ nodes_of n a
items-seen n a =
    map-append (seen n) (map item_of (file_records a)) (finish ∷ [])
    ∙ ap (λ (is : List PlainItem). is ++ finish ∷ []) (closed n (upto_pairs a.n) a.kids (shown-row n (upto_pairs a.n) a.kids))
    ∙ append_assoc (row_items (raised_nodes n a.kids)) (end_item 0 ∷ []) (finish ∷ [])

-- ---- raised by none

stamp-still : (s : Stamp) → raised_stamp 0 s ≡ s
stamp-still None = refl
stamp-still (Some s) = ap Some (raised-none s)

alts-still : (xs : List PlainAlt) → map (raised_alt 0) xs ≡ xs
alts-still [] = refl
alts-still (x ∷ xs) = λ i. record { stamp = stamp-still x.stamp i; body = x.body } ∷ alts-still xs i

mutual
  node-still : (k : PlainNode) → raised_node 0 k ≡ k
  node-still (inner_node l s ks) = λ i. inner_node l (stamp-still s i) (nodes-still ks i)
  node-still (leaf_node l s xs) = λ i. leaf_node l (stamp-still s i) (alts-still xs i)

  pub nodes-still : (ks : PlainNodes) → raised_nodes 0 ks ≡ ks
  nodes-still no_nodes = refl
  nodes-still (node k ks) = λ i. node (node-still k i) (nodes-still ks i)

-- ---- the header

-- the header is that of the archive
pub record Heads (h : PlainHeader) (rules : List PlainRule) (a : PlainArchive) : Type 0 where
  pub rules_are : h.rules ≡ rules
  pub count : h.versions ≡ a.n
  pub first : h.first ≡ length (header_bytes rules a.n)

pub sound-heads : (h : PlainHeader) (rules : List PlainRule) (vs : List PlainKeyed) (bytes : List ℕ) (s : SoundAs rules vs bytes) → IsHeaderOf h bytes → Heads h rules s.file.archive
sound-heads h rules vs bytes s is =
    let a = s.file.archive in
    let r = sound-reads rules vs bytes s h.rules h.versions (drop h.first bytes) is in
    let spelled = ap length s.file.spelled ∙ length-append (header_bytes rules a.n) (behind_header a) in
    let tail = length-append (flat_map rec_bytes (file_records a)) (tail_bytes a) in
    record {
      rules_are = r.specification;
      count = r.count;
      first = omega (arith, ap length r.now_is, length-drop h.first bytes, spelled, tail);
    }

-- the nodes come at the first record
pub nodes-come : (n : ℕ) (told : Option Files) (c : PlainCursor) (h : PlainHeader) (rules : List PlainRule) (vs : List PlainKeyed) (i : IsArchive told c.name h rules vs) → c.length ≡ h.length → c.standing ≡ among_nodes 0 → c.at ≡ h.first
    → Coming n told c (nodes_of n i.sound.file.archive)
nodes-come n told c h rules vs i long standing at =
    let s = i.sound in
    let a = s.file.archive in
    let heads = sound-heads h rules vs i.bytes s i.header in
    let place : c.at ≡ length (header_bytes rules a.n) = at ∙ heads.first in
    let gives = file-gives rules a s.file.has (versions-nested rules vs i.bytes a s s.file.is) in
    record {
      items = items_of a;
      comes = record {
        bytes = i.bytes;
        tells = subst (λ (k : ℕ). TellsFront told c.name k i.bytes) (sym long) i.tells;
        standing = finished;
        rest = [];
        gives = subst (λ (p : Standing × List ℕ). Gives p.0 p.1 (items_of a) finished []) (λ j. (sym standing j, drop (sym place j) (sym s.file.spelled j))) gives;
      };
      are = items-seen n a;
    }
