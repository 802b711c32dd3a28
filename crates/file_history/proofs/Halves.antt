-- The middle of a part of a row, and what is before and behind it.
use Rattle.std.proofs.Common.{◌≡◌, ℕ, zero, suc, ◌+◌, ◌-◌, ◌<◌, ◌≤◌, IsTrue, List, [], ◌∷◌, ◌++◌, map, length, take, Option, Some, refl, sym, ap, subst, ◌∙◌, append_assoc, arith}
use Rattle.std.specs.List.{flat_map, slice_get, AllByRecursion}
use Rattle.std.proofs.lemmas.List.{length-append, length-drop, map-append, take_at}
use Rattle.std.proofs.lemmas.Grind.{flat_map-append}
use Rattle.keyed_tree.specs.Lists.{Ascends}
use Rattle.keyed_tree.specs.Order.{label_cmp}
use Rattle.archive_tree.specs.Data.{PlainNode, node_label}
use Rattle.xa_outside.specs.Folder.{Files}
use Rattle.record_parts.specs.Bounds.{deepest}
use Rattle.record_format.specs.Bounds.{IsRec, IsDir}
use Rattle.record_format.specs.Data.{end_rec}
use Rattle.record_format.specs.Nested.{is_nested}
use Rattle.record_format.specs.Nodes.{Piece, piece_bytes, node_piece, dir_of, closed_by_end}
use Rattle.record_format.specs.Probed.{opening}
use Rattle.record_format.specs.Spelling.{rec_bytes}
use Rattle.record_format.proofs.Pieces.{closed-bytes, all-front, all-back}
use Rattle.record_cursor.specs.Moves.{TellsFront}
use Rattle.record_cursor.proofs.Fills.{front-length}
use Rattle.file_rows.specs.StandsAt.{RowLaid, start_in}
use Rattle.file_rows.specs.View.{PlainRow}
use Rattle.file_rows.proofs.Parts.{stands-within}
use Rattle.file_history.specs.Parts.{pieces_of, bytes_of, PartIs}
use Rattle.file_history.specs.View.{PlainPart}
use Rattle.file_history.proofs.Searching.{ascends-front, ascends-back}

-- ---- lists

pub record Cut (mid : List PlainNode) (i : ℕ) : Type 0 where
  pub left : List PlainNode
  pub k : PlainNode
  pub right : List PlainNode
  pub is : mid ≡ left ++ k ∷ right
  pub place : length left ≡ i

pub cut : (mid : List PlainNode) (i : ℕ) → i < length mid → Cut mid i
cut [] i h = absurd (omega (arith, h))
cut (x ∷ mid) zero h = record { left = []; k = x; right = mid; is = refl; place = refl }
cut (x ∷ mid) (suc i) h =
    let c = cut mid i (omega (arith, h)) in
    record { left = x ∷ c.left; k = c.k; right = c.right; is = ap (λ (xs : List PlainNode). x ∷ xs) c.is; place = ap suc c.place }

pub get-at : {X : Type 0} (xs ys : List X) (p : X) → slice_get (xs ++ p ∷ ys) (length xs) ≡ Some p
get-at [] ys p = refl
get-at (x ∷ xs) ys p = get-at xs ys p

pieces-append : (parent : List (ℕ × ℕ)) (xs ys : List PlainNode) → pieces_of parent (xs ++ ys) ≡ pieces_of parent xs ++ pieces_of parent ys
pieces-append parent xs ys = map-append (node_piece parent) xs ys

pieces-length : (parent : List (ℕ × ℕ)) (xs : List PlainNode) → length (pieces_of parent xs) ≡ length xs
pieces-length parent [] = refl
pieces-length parent (x ∷ xs) = ap suc (pieces-length parent xs)

bytes-append : (parent : List (ℕ × ℕ)) (xs ys : List PlainNode) → bytes_of parent (xs ++ ys) ≡ bytes_of parent xs + bytes_of parent ys
bytes-append parent xs ys =
    ap (λ (ps : List Piece). length (flat_map piece_bytes ps)) (pieces-append parent xs ys)
    ∙ ap length (flat_map-append piece_bytes (pieces_of parent xs) (pieces_of parent ys))
    ∙ length-append (flat_map piece_bytes (pieces_of parent xs)) (flat_map piece_bytes (pieces_of parent ys))

-- where the nodes behind these begin
start-at : (parent : List (ℕ × ℕ)) (first : ℕ) (xs ys : List PlainNode) (i : ℕ) → length xs ≡ i → start_in first (pieces_of parent (xs ++ ys)) i ≡ first + bytes_of parent xs
start-at parent first xs ys i e =
    let front : take i (pieces_of parent (xs ++ ys)) ≡ pieces_of parent xs =
    ap (take i) (pieces-append parent xs ys) ∙ take_at (pieces_of parent xs) (pieces_of parent ys) i (pieces-length parent xs ∙ e) in
    ap (λ (ps : List Piece). first + length (flat_map piece_bytes ps)) front

-- ---- the row

pub row-within : (told : Option Files) (name bytes : List ℕ) (size : ℕ) (row : PlainRow) (ps : List Piece) → TellsFront told name size bytes → RowLaid bytes row ps → row.end + (9 + row.dir) ≤ size
row-within told name bytes size row ps tells h =
    let len = front-length told name bytes size tells in
    let whole = ap length (closed-bytes ps) ∙ length-append (flat_map piece_bytes ps) (rec_bytes (end_rec (dir_of ps))) in
    let within = stands-within bytes row.first (flat_map rec_bytes (closed_by_end ps)) h.stands in
    omega (arith, len, whole, within, length-drop row.first bytes, h.end, h.dir)

-- ---- the middle

-- where the node in the middle stands
pub record Middle (row : PlainRow) (parent : List (ℕ × ℕ)) (part : PlainPart) (ns : List PlainNode) (k : PlainNode) (place : ℕ) : Type 0 where
  pub get : slice_get (pieces_of parent ns) place ≡ Some (node_piece parent k)
  pub low : part.low_at ≤ start_in row.first (pieces_of parent ns) place
  pub high : start_in row.first (pieces_of parent ns) (place + 1) ≤ part.high_at

module _ (told : Option Files) (name bytes : List ℕ) (row : PlainRow) (parent : List (ℕ × ℕ)) (part : PlainPart) (front mid back left right : List PlainNode) (k : PlainNode) (h : PartIs told name bytes row parent part front mid back) (is : mid ≡ left ++ k ∷ right) where
  whole-left : front ++ (mid ++ back) ≡ (front ++ left) ++ (k ∷ (right ++ back))
  whole-left = ap (λ (xs : List PlainNode). front ++ (xs ++ back)) is ∙ simp append_assoc

  whole-right : front ++ (mid ++ back) ≡ (front ++ (left ++ k ∷ [])) ++ (right ++ back)
  whole-right = ap (λ (xs : List PlainNode). front ++ (xs ++ back)) is ∙ simp append_assoc

  mid-bytes : bytes_of parent mid ≡ bytes_of parent left + (bytes_of parent (k ∷ []) + bytes_of parent right)
  mid-bytes = ap (bytes_of parent) is ∙ bytes-append parent left (k ∷ right) ∙ ap (λ (n : ℕ). bytes_of parent left + n) (bytes-append parent (k ∷ []) right)

  mid-length : length mid ≡ length left + suc (length right)
  mid-length = ap length is ∙ length-append left (k ∷ right)

  left-bytes : bytes_of parent (front ++ left) ≡ bytes_of parent front + bytes_of parent left
  left-bytes = bytes-append parent front left

  right-bytes : bytes_of parent (front ++ (left ++ k ∷ [])) ≡ bytes_of parent front + (bytes_of parent left + bytes_of parent (k ∷ []))
  right-bytes = bytes-append parent front (left ++ k ∷ []) ∙ ap (λ (n : ℕ). bytes_of parent front + n) (bytes-append parent left (k ∷ []))

  pub child-start : (place : ℕ) → place ≡ part.low + length left → start_in row.first (pieces_of parent (front ++ (mid ++ back))) place ≡ part.low_at + bytes_of parent left
  child-start place at =
      let here : length (front ++ left) ≡ place = omega (arith, length-append front left, at, h.low) in
      ap (λ (ns : List PlainNode). start_in row.first (pieces_of parent ns) place) whole-left ∙ start-at parent row.first (front ++ left) (k ∷ (right ++ back)) place here
      ∙ omega (arith, left-bytes, h.low_at)

  child-next : (place : ℕ) → place ≡ part.low + length left → start_in row.first (pieces_of parent (front ++ (mid ++ back))) (place + 1) ≡ part.low_at + bytes_of parent left + bytes_of parent (k ∷ [])
  child-next place at =
      let here : length (front ++ (left ++ k ∷ [])) ≡ place + 1 = omega (arith, length-append front (left ++ k ∷ []), length-append left (k ∷ []), at, h.low) in
      ap (λ (ns : List PlainNode). start_in row.first (pieces_of parent ns) (place + 1)) whole-right ∙ start-at parent row.first (front ++ (left ++ k ∷ [])) (right ++ back) (place + 1) here
      ∙ omega (arith, right-bytes, h.low_at)

  pub middle : (place : ℕ) → place ≡ part.low + length left → Middle row parent part (front ++ (mid ++ back)) k place
  middle place at =
      let here : length (pieces_of parent (front ++ left)) ≡ place = omega (arith, pieces-length parent (front ++ left), length-append front left, at, h.low) in
      let pieces : pieces_of parent (front ++ (mid ++ back)) ≡ pieces_of parent (front ++ left) ++ node_piece parent k ∷ pieces_of parent (right ++ back) =
      ap (pieces_of parent) whole-left ∙ pieces-append parent (front ++ left) (k ∷ (right ++ back)) in
      record {
        get = ap (λ (ps : List Piece). slice_get ps place) pieces
            ∙ ap (slice_get (pieces_of parent (front ++ left) ++ node_piece parent k ∷ pieces_of parent (right ++ back))) (sym here)
            ∙ get-at (pieces_of parent (front ++ left)) (pieces_of parent (right ++ back)) (node_piece parent k);
        low = omega (arith, child-start place at);
        high = omega (arith, child-next place at, h.high_at, mid-bytes);
      }

  -- the opening record of the middle has an encoding
  pub middle-opens : IsRec (opening k)
  middle-opens = (all-back (λ j. IsRec (opening j)) left (k ∷ right) (subst (AllByRecursion (λ j. IsRec (opening j))) is h.opens)).0

  -- and it nests no deeper than it may
  pub middle-nested : IsTrue (is_nested (deepest - part.depth) k)
  middle-nested = (all-back (λ j. IsTrue (is_nested (deepest - part.depth) j)) left (k ∷ right) (subst (AllByRecursion (λ j. IsTrue (is_nested (deepest - part.depth) j))) is h.nested)).0

  pub middle-sorted : Ascends label_cmp (map node_label (left ++ k ∷ right))
  middle-sorted = subst (λ (ns : List PlainNode). Ascends label_cmp (map node_label ns)) is h.sorted

  -- what is behind the middle
  pub part-behind : (place at : ℕ) → place ≡ part.low + length left → at ≡ part.low_at + bytes_of parent left + bytes_of parent (k ∷ [])
      → PartIs told name bytes row parent (record { depth = part.depth; low = place + 1; high = part.high; low_at = at; high_at = part.high_at }) (front ++ (left ++ k ∷ [])) right back
  part-behind place at here there = record {
    size = h.size;
    tells = h.tells;
    stands = subst (λ (ns : List PlainNode). RowLaid bytes row (pieces_of parent ns)) whole-right h.stands;
    dir = subst (λ (ns : List PlainNode). IsDir (dir_of (pieces_of parent ns))) whole-right h.dir;
    sorted = (ascends-back (k ∷ []) right (ascends-back left (k ∷ right) middle-sorted));
    opens = (all-back (λ j. IsRec (opening j)) left (k ∷ right) (subst (AllByRecursion (λ j. IsRec (opening j))) is h.opens)).1;
    nested = (all-back (λ j. IsTrue (is_nested (deepest - part.depth) j)) left (k ∷ right) (subst (AllByRecursion (λ j. IsTrue (is_nested (deepest - part.depth) j))) is h.nested)).1;
    low = omega (arith, length-append front (left ++ k ∷ []), length-append left (k ∷ []), here, h.low);
    high = omega (arith, length-append front (left ++ k ∷ []), length-append left (k ∷ []), h.high, mid-length);
    low_at = omega (arith, right-bytes, there, h.low_at);
    high_at = omega (arith, there, h.high_at, mid-bytes);
  }

  -- what is before the middle
  pub part-before : (place at : ℕ) → place ≡ part.low + length left → at ≡ part.low_at + bytes_of parent left
      → PartIs told name bytes row parent (record { depth = part.depth; low = part.low; high = place; low_at = part.low_at; high_at = at }) front left (k ∷ (right ++ back))
  part-before place at here there = record {
    size = h.size;
    tells = h.tells;
    stands = subst (λ (ns : List PlainNode). RowLaid bytes row (pieces_of parent ns)) (whole-left ∙ append_assoc front left (k ∷ (right ++ back))) h.stands;
    dir = subst (λ (ns : List PlainNode). IsDir (dir_of (pieces_of parent ns))) (whole-left ∙ append_assoc front left (k ∷ (right ++ back))) h.dir;
    sorted = ascends-front left (k ∷ right) middle-sorted;
    opens = all-front (λ j. IsRec (opening j)) left (k ∷ right) (subst (AllByRecursion (λ j. IsRec (opening j))) is h.opens);
    nested = all-front (λ j. IsTrue (is_nested (deepest - part.depth) j)) left (k ∷ right) (subst (AllByRecursion (λ j. IsTrue (is_nested (deepest - part.depth) j))) is h.nested);
    low = h.low;
    high = omega (arith, here, h.low);
    low_at = h.low_at;
    high_at = there;
  }

-- ---- at a later time

pub part-later : (told later : Option Files) (name bytes : List ℕ) (row : PlainRow) (parent : List (ℕ × ℕ)) (part : PlainPart) (front mid back : List PlainNode) → later ≡ told → PartIs told name bytes row parent part front mid back
    → PartIs later name bytes row parent part front mid back
part-later told later name bytes row parent part front mid back e h = subst (λ (t : Option Files). PartIs t name bytes row parent part front mid back) (sym e) h
