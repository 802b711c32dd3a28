-- What stands where a child begins.
use Rattle.std.proofs.Common.{◌≡◌, ℕ, suc, ◌+◌, ◌-◌, ◌≤◌, Bool, true, cond, leb, nat_lt, IsTrue, List, [], ◌∷◌, ◌++◌, length, take, drop, Option, Some, None, Ok, Result, refl, sym, ap, subst, ◌∙◌, arith}
use Rattle.std.specs.FinMap as map
use Rattle.std.specs.List.{flat_map}
use Rattle.std.specs.declared.cmp.Ordering.{Ordering}
use Rattle.std.specs.declared.cmp.Ordering.TheVariants.{Less, Equal, Greater}
use Rattle.std.proofs.lemmas.Bool.Decides.{nat_tests}
use Rattle.std.proofs.lemmas.List.{drop-take, length-append, length-drop}
use Rattle.keyed_tree.specs.Data.{PlainLabel}
use Rattle.keyed_tree.specs.Order.{label_cmp}
use Rattle.keyed_tree.proofs.Kids.{both}
use Rattle.archive_tree.specs.Data.{Stamp, PlainNode, inner_node, leaf_node, node_label}
use Rattle.archive_tree.specs.View.{stamp_view}
use Rattle.version_set.specs.declared.set.VersionSet.{VersionSet}
use Rattle.xa_fields.proofs.Fields.{some_is}
use Rattle.xa_outside.specs.Folder.{Files, bytes_or_none}
use Rattle.xa_outside.specs.Numbers.{Numbers, PullsAtMost}
use Rattle.record_parts.specs.Bounds.{deepest}
use Rattle.xa_fields.specs.FieldLaws.{passed_some}
use Rattle.record_format.specs.Data.{inner_rec}
use Rattle.record_format.specs.Nested.{is_nested, are_nested}
use Rattle.record_format.specs.Nodes.{Piece, piece_bytes, set_in, node_piece, node_pieces, inner_piece, closed_by_end}
use Rattle.record_format.specs.Probed.{opening}
use Rattle.record_format.specs.Spelling.{rec_bytes}
use Rattle.record_cursor.specs.Items.{PlainItem, leaf_item, item_of}
use Rattle.record_cursor.specs.Moves.{TellsFront, Comes, Moves, Goes}
use Rattle.record_cursor.specs.MoveLaws.{front-less}
use Rattle.record_cursor.specs.Next.{next_of, read_for, size_of}
use Rattle.record_cursor.specs.Places.{Standing, among_nodes, after_item}
use Rattle.record_cursor.specs.View.{PlainCursor, shown_item}
use Rattle.record_cursor.specs.declared.fault.CursorFault.{CursorFault}
use Rattle.record_cursor.specs.declared.item.Item.{Item}
use Rattle.record_cursor.proofs.Fills.{front-length}
use Rattle.record_cursor.proofs.Items.{next-record}
use Rattle.file_rows.specs.StandsAt.{RowLaid, ChildLaid}
use Rattle.file_rows.specs.View.{PlainChild, row_view}
use Rattle.file_rows.specs.declared.places.Row.{Row}
use Rattle.file_rows.proofs.Parts.{stands-within}
use Rattle.file_history.specs.Opened.{met_by, met_of, met_node, IsFound, ChildIs}
use Rattle.file_history.specs.View.{PlainMet, met_inner, met_leaf, stands_before, stands_behind}

-- ---- the record that opens a node

pub record Opens (depth : ℕ) (parent : List (ℕ × ℕ)) (k : PlainNode) : Type 0 where
  pub rest : List ℕ
  pub piece : piece_bytes (node_piece parent k) ≡ rec_bytes (opening k) ++ rest
  pub behind : Standing
  pub may : after_item (among_nodes depth) (item_of (opening k)) ≡ Some behind

may-open : (d depth : ℕ) → IsTrue (nat_lt 0 (d - depth)) → nat_lt depth d ≡ true
may-open d depth h = grind (arith, nat_tests)

pub opens : (depth : ℕ) (parent : List (ℕ × ℕ)) (k : PlainNode) → IsTrue (is_nested (deepest - depth) k) → Opens depth parent k
opens depth parent (inner_node l s ks) h =
    let low = may-open deepest depth (both (nat_lt 0 (deepest - depth)) (are_nested (deepest - depth - 1) ks) h).0 in
    record {
      rest = flat_map rec_bytes (closed_by_end (node_pieces (set_in s parent) ks));
      piece = refl;
      behind = among_nodes (suc depth);
      may = ap (λ (b : Bool). cond b (Some (among_nodes (suc depth))) None) low;
    }
opens depth parent (leaf_node l s xs) h = record { rest = _; piece = refl; behind = _; may = refl }

pub opening-read : (s : Standing) (k : PlainNode) → read_for s (item_of (opening k)) ≡ length (rec_bytes (opening k))
opening-read s (inner_node l t ks) = refl
opening-read s (leaf_node l t xs) = refl

pub opening-size : (s : Standing) (k : PlainNode) → size_of s (item_of (opening k)) ≡ length (rec_bytes (opening k))
opening-size s (inner_node l t ks) = refl
opening-size s (leaf_node l t xs) = refl

opening-met : (dir : ℕ) (w : PlainLabel) (parent : List (ℕ × ℕ)) (k : PlainNode) → dir ≡ (node_piece parent k).dir → met_of dir w (item_of (opening k)) ≡ Some (met_by (label_cmp (node_label k) w) (met_node k))
opening-met dir w parent (inner_node l s ks) h = refl
opening-met dir w parent (leaf_node l s xs) h = ap (λ (n : ℕ). met_of n w (leaf_item l s)) h

-- the cursor before a child
abbrev pub before_child : List ℕ → ℕ → PlainChild → PlainCursor
before_child name depth child = record { name = name; length = child.end; standing = among_nodes depth; at = child.first }

-- the record that opens it comes next
pub opens-next : (told : Option Files) (name bytes : List ℕ) (depth : ℕ) (child : PlainChild) (parent : List (ℕ × ℕ)) (k : PlainNode) → ChildIs told name bytes depth child parent k
    → Comes told (before_child name depth child) (item_of (opening k) ∷ [])
opens-next told name bytes depth child parent k h =
    let p = node_piece parent k in
    let o = opens depth parent k h.nested in
    let len = front-length told name bytes h.size h.tells in
    let within = stands-within bytes child.first (piece_bytes p) h.stands.stands in
    let some : 9 ≤ length (piece_bytes p) = omega (arith, ap length o.piece, length-append (rec_bytes (opening k)) o.rest) in
    let fits : child.end ≤ h.size = omega (arith, len, within, some, length-drop child.first bytes, h.stands.end) in
    let here : drop child.first (take child.end bytes) ≡ rec_bytes (opening k) ++ o.rest =
    ap (λ (n : ℕ). drop child.first (take n bytes)) h.stands.end ∙ drop-take child.first (length (piece_bytes p)) bytes ∙ h.stands.stands ∙ o.piece in
    record {
      bytes = take child.end bytes;
      tells = front-less told name bytes h.size child.end h.tells fits;
      standing = o.behind;
      rest = o.rest;
      gives = (o.behind, o.rest, ap (next_of (among_nodes depth)) here ∙ next-record (among_nodes depth) o.behind (opening k) o.rest h.opens o.may, (refl, refl));
    }

pub next-opens : (told : Option Files) (name bytes : List ℕ) (depth : ℕ) (child : PlainChild) (parent : List (ℕ × ℕ)) (k : PlainNode) (old : PlainCursor) → old ≡ before_child name depth child → ChildIs told name bytes depth child parent k
    → Comes told old (item_of (opening k) ∷ [])
next-opens told name bytes depth child parent k old is h = subst (λ (c : PlainCursor). Comes told c (item_of (opening k) ∷ [])) (sym is) (opens-next told name bytes depth child parent k h)

-- ---- what was given

pub record Given (child : PlainChild) (k : PlainNode) (item : Item) (new : PlainCursor) : Type 0 where
  pub item_is : shown_item item ≡ item_of (opening k)
  pub behind : new.at ≡ child.first + length (rec_bytes (opening k))

goes-of : (told : Option Files) (old new : PlainCursor) (r : Result Item CursorFault) (item : Item) → r ≡ Ok item → Moves told old r new → Goes told old item new
goes-of told old new r item e m = subst (λ (s : Result Item CursorFault). Moves told old s new) e m

pub given-opens : (told : Option Files) (name bytes : List ℕ) (depth : ℕ) (child : PlainChild) (parent : List (ℕ × ℕ)) (k : PlainNode) (old new : PlainCursor) (r : Result Item CursorFault) (item : Item)
    → old ≡ before_child name depth child → r ≡ Ok item → Moves told old r new → ChildIs told name bytes depth child parent k → Given child k item new
given-opens told name bytes depth child parent k old new r item is e m h =
    let comes = next-opens told name bytes depth child parent k old is h in
    let goes = goes-of told old new r item e m in
    let both = sym (goes.comes comes.bytes comes.tells) ∙ comes.gives.2 in
    let same : shown_item item ≡ item_of (opening k) = ap (λ (x : PlainItem × (Standing × List ℕ)). x.0) (some_is _ _ both) in
    let at : old.at ≡ child.first = ap (λ (c : PlainCursor). c.at) is in
    record {
      item_is = same;
      behind = goes.moved ∙ (λ i. at i + size_of old.standing (same i)) ∙ ap (λ (n : ℕ). child.first + n) (opening-size old.standing k);
    }

-- what it is to the label that is wanted
pub met-is : (dir : ℕ) (w : PlainLabel) (parent : List (ℕ × ℕ)) (k : PlainNode) (item : Item) (m : PlainMet) → dir ≡ (node_piece parent k).dir → shown_item item ≡ item_of (opening k) → met_of dir w (shown_item item) ≡ Some m → m ≡ met_by (label_cmp (node_label k) w) (met_node k)
met-is dir w parent k item m h is e = some_is _ _ (sym e ∙ ap (met_of dir w) is ∙ opening-met dir w parent k h)

pub met-some : (dir : ℕ) (w : PlainLabel) (parent : List (ℕ × ℕ)) (k : PlainNode) (item : Item) → dir ≡ (node_piece parent k).dir → shown_item item ≡ item_of (opening k) → met_of dir w (shown_item item) ≡ None → ⊥
met-some dir w parent k item h is e = (let f : Some (met_by (label_cmp (node_label k) w) (met_node k)) ≡ None = sym (ap (met_of dir w) is ∙ opening-met dir w parent k h) ∙ e in absurd cc)

-- ---- what is inside

stamp-is : (s t : Stamp) → met_inner s ≡ met_inner t → s ≡ t
stamp-is s t e = ap stamp_in e
  where
    stamp_in : PlainMet → Stamp
    stamp_in stands_before = None
    stamp_in stands_behind = None
    stamp_in (met_inner r) = r
    stamp_in (met_leaf r) = None

pub enter-some : (bytes : List ℕ) (parent : List (ℕ × ℕ)) (k : PlainNode) (order : Ordering) (child : PlainChild) (behind : ℕ) (stamp : Option VersionSet) (row : Row)
    → ((l : PlainLabel) (s : Stamp) (set : List (ℕ × ℕ)) (ps : List Piece) → ChildLaid bytes child (inner_piece l s set ps) → behind ≡ child.first + length (rec_bytes (inner_rec l s)) → RowLaid bytes (row_view row) ps)
    → ChildLaid bytes child (node_piece parent k) → behind ≡ child.first + length (rec_bytes (opening k)) → met_inner (stamp_view stamp) ≡ met_by order (met_node k)
    → (order ≡ Equal) × IsFound bytes parent k (record { stamp = stamp; row = Some row; leaf = None })
enter-some bytes parent k Less child behind stamp row told stands at e = absurd cc
enter-some bytes parent k Greater child behind stamp row told stands at e = absurd cc
enter-some bytes parent (inner_node l s ks) Equal child behind stamp row told stands at e =
    (refl, (stamp-is (stamp_view stamp) s e, told l s (set_in s parent) (node_pieces (set_in s parent) ks) stands at, refl))
enter-some bytes parent (leaf_node l s xs) Equal child behind stamp row told stands at e = absurd cc

pub enter-none : (bytes : List ℕ) (parent : List (ℕ × ℕ)) (k : PlainNode) (order : Ordering) (child : PlainChild) (behind : ℕ) (stamp : Stamp)
    → ((l : PlainLabel) (s : Stamp) (set : List (ℕ × ℕ)) (ps : List Piece) → ChildLaid bytes child (inner_piece l s set ps) → behind ≡ child.first + length (rec_bytes (inner_rec l s)) → ⊥)
    → ChildLaid bytes child (node_piece parent k) → behind ≡ child.first + length (rec_bytes (opening k)) → met_inner stamp ≡ met_by order (met_node k) → ⊥
enter-none bytes parent k Less child behind stamp told stands at e = cc
enter-none bytes parent k Greater child behind stamp told stands at e = cc
enter-none bytes parent (inner_node l s ks) Equal child behind stamp told stands at e = told l s (set_in s parent) (node_pieces (set_in s parent) ks) stands at
enter-none bytes parent (leaf_node l s xs) Equal child behind stamp told stands at e = cc

-- ---- what is read

pub opened-few : (told : Option Files) (name bytes : List ℕ) (depth : ℕ) (child : PlainChild) (parent : List (ℕ × ℕ)) (k : PlainNode) (old : PlainCursor) (a b : Numbers) → old ≡ before_child name depth child
    → ((i : PlainItem) (is : List PlainItem) → Comes told old (i ∷ is) → PullsAtMost (read_for old.standing i) a b) → ChildIs told name bytes depth child parent k → PullsAtMost (length (rec_bytes (opening k))) a b
opened-few told name bytes depth child parent k old a b is reads h =
    subst (λ (n : ℕ). PullsAtMost n a b) (opening-read old.standing k) (reads (item_of (opening k)) [] (next-opens told name bytes depth child parent k old is h))
