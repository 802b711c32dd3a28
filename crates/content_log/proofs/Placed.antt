-- A leaf that stands in a file is what comes where a cursor stands before it.
use Rattle.std.proofs.Common.{◌≡◌, ℕ, ◌+◌, ◌≤◌, List, [], ◌∷◌, ◌++◌, length, map, take, drop, Option, Some, refl, sym, ap, subst, ◌∙◌, arith, length-append, append-nil}
use Rattle.std.specs.List.{flat_map}
use Rattle.std.proofs.lemmas.List.{drop-take, length-drop}
use Rattle.archive_tree.specs.Data.{Stamp, PlainAlt, leaf_node}
use Rattle.keyed_tree.specs.Data.{PlainLabel}
use Rattle.xa_outside.specs.Folder.{Files}
use Rattle.record_format.specs.Data.{PlainRec, leaf_rec, leaf_end}
use Rattle.record_format.specs.Nodes.{alt_of, piece_bytes, node_piece}
use Rattle.record_format.specs.Spelling.{rec_bytes}
use Rattle.record_cursor.specs.Items.{PlainItem, leaf_item, leaf_end_item, item_of}
use Rattle.record_cursor.specs.Moves.{TellsFront, Comes}
use Rattle.record_cursor.specs.Next.{Gives}
use Rattle.record_cursor.specs.Places.{among_nodes, in_leaf, after_items}
use Rattle.record_cursor.specs.View.{PlainCursor}
use Rattle.record_cursor.proofs.Fills.{front-length}
use Rattle.record_cursor.proofs.Items.{give-records}
use Rattle.file_rows.specs.View.{PlainChild}
use Rattle.file_rows.proofs.Parts.{stands-within}
use Rattle.file_history.specs.Leads.{LeafLaid}
use Rattle.record_cursor.specs.MoveLaws.{front-less}
use Rattle.file_history.proofs.Opening.{before_child}
use Rattle.content_log.specs.Written.{alts_size, leaf_size}

abbrev alt_items : List PlainAlt → List PlainItem
alt_items xs = map (λ x. item_of (alt_of x)) xs ++ leaf_end_item ∷ []

abbrev alt_records : List PlainAlt → List PlainRec
alt_records xs = map alt_of xs ++ leaf_end ∷ []

items-are : (xs : List PlainAlt) → map item_of (alt_records xs) ≡ alt_items xs
items-are [] = refl
items-are (x ∷ xs) = ap (λ (is : List PlainItem). item_of (alt_of x) ∷ is) (items-are xs)

may-come : (xs : List PlainAlt) → after_items (in_leaf 0) (map item_of (alt_records xs)) ≡ Some (among_nodes 0)
may-come [] = refl
may-come (x ∷ xs) = may-come xs

records-bytes : (xs : List PlainAlt) → length (flat_map rec_bytes (alt_records xs)) ≡ alts_size xs
records-bytes [] = refl
records-bytes (x ∷ xs) = (
    let rest = records-bytes xs in
    let one = length-append (rec_bytes (alt_of x)) (flat_map rec_bytes (alt_records xs)) in
    let other = length-append (rec_bytes (alt_of x)) (flat_map rec_bytes (map alt_of xs)) in
    omega (arith, rest, one, other))

-- its bytes are those of the record that opens it, of the alternatives, and of its end
pub size-is : (parent : List (ℕ × ℕ)) (l : PlainLabel) (s : Stamp) (xs : List PlainAlt) → leaf_size parent (leaf_node l s xs) ≡ length (rec_bytes (leaf_rec l s)) + alts_size xs
size-is parent l s xs = length-append (rec_bytes (leaf_rec l s)) (flat_map rec_bytes (alt_records xs)) ∙ ap (λ (n : ℕ). length (rec_bytes (leaf_rec l s)) + n) (records-bytes xs)

module _ (told : Option Files) (name bytes : List ℕ) (size : ℕ) (child : PlainChild) (set parent : List (ℕ × ℕ)) (l : PlainLabel) (s : Stamp) (xs : List PlainAlt) where
  -- it ends within the file
  pub leaf-fits : TellsFront told name size bytes → LeafLaid bytes child set parent (leaf_node l s xs) → child.end ≤ size
  leaf-fits tells laid =
      let part = piece_bytes (node_piece parent (leaf_node l s xs)) in
      let len = front-length told name bytes size tells in
      let within = stands-within bytes child.first part laid.stands.stands in
      let some : 9 ≤ length part = omega (arith, length-append (rec_bytes (leaf_rec l s)) (flat_map rec_bytes (alt_records xs))) in
      omega (arith, len, within, some, length-drop child.first bytes, laid.stands.end)

  pub leaf-comes : (c : PlainCursor) → c ≡ before_child name 0 child → TellsFront told name size bytes → LeafLaid bytes child set parent (leaf_node l s xs) → Comes told c (leaf_item l s ∷ alt_items xs)
  leaf-comes c is tells laid =
      let part = piece_bytes (node_piece parent (leaf_node l s xs)) in
      let fits = leaf-fits tells laid in
      let here : drop child.first (take child.end bytes) ≡ part ++ [] =
      ap (λ (n : ℕ). drop child.first (take n bytes)) laid.stands.end ∙ drop-take child.first (length part) bytes ∙ laid.stands.stands ∙ sym (append-nil part) in
      let gives : Gives (among_nodes 0) (part ++ []) (leaf_item l s ∷ map item_of (alt_records xs)) (among_nodes 0) [] =
      give-records (among_nodes 0) (among_nodes 0) (leaf_rec l s ∷ alt_records xs) [] laid.records (may-come xs) in
      subst (λ (d : PlainCursor). Comes told d (leaf_item l s ∷ alt_items xs)) (sym is)
      (record {
        bytes = take child.end bytes;
        tells = front-less told name bytes size child.end tells fits;
        standing = among_nodes 0;
        rest = [];
        gives = subst (λ (is : List PlainItem). Gives (among_nodes 0) (drop child.first (take child.end bytes)) (leaf_item l s ∷ is) (among_nodes 0) []) (items-are xs)
            (subst (λ (bs : List ℕ). Gives (among_nodes 0) bs (leaf_item l s ∷ map item_of (alt_records xs)) (among_nodes 0) []) (sym here) gives);
      })
