-- Where the parts of a row stand.
use Rattle.std.proofs.Common.{◌≡◌, ◌≢◌, ℕ, zero, suc, ◌+◌, ◌*◌, ◌≤◌, List, [], ◌∷◌, ◌++◌, length, take, Option, Some, None, refl, sym, ap, subst, ◌∙◌, append_assoc, arith}
use Rattle.std.specs.Prelude.{Result, ok_or, IfSome}
use Rattle.std.specs.Option.{option_map}
use Rattle.std.specs.List.{flat_map, slice_get, AllByRecursion}
use Rattle.std.proofs.lemmas.List.{length-append}
use Rattle.xa_fields.proofs.Fields.{some_is}
use Rattle.archive_tree.specs.Data.{Stamp}
use Rattle.keyed_tree.specs.Data.{PlainLabel}
use Rattle.record_format.specs.Data.{PlainEntry, PlainDir, end_rec, inner_rec}
use Rattle.record_format.specs.Bounds.{IsEntry}
use Rattle.record_format.specs.Spelling.{entry_bytes, sets_bytes, dir_bytes, rec_bytes}
use Rattle.record_format.specs.Nodes.{Piece, piece_bytes, entries_from, dir_of, closed_by_end, inner_piece}
use Rattle.record_format.proofs.Pieces.{closed-bytes, entries-length}
use Rattle.record_cursor.specs.Steps.{Filled}
use Rattle.record_cursor.specs.declared.fault.CursorFault.{CursorFault}
use Rattle.file_rows.specs.StandsAt.{StandsAt, head_bytes, RowLaid, ChildLaid, start_in}
use Rattle.file_rows.specs.View.{PlainRow, PlainChild}
use Rattle.file_rows.proofs.Parts.{stands-part, stands-front, stands-back}

-- ---- directories

pub end-parts : (d : PlainDir) → rec_bytes (end_rec d) ≡ head_bytes (length (dir_bytes d)) (length d.entries) ++ (flat_map entry_bytes d.entries ++ sets_bytes d.sets)
end-parts d = simp append_assoc

pub entries-size : (es : List PlainEntry) → length (flat_map entry_bytes es) ≡ 24 * length es
entries-size [] = refl
entries-size (e ∷ es) = omega (arith, length-append (entry_bytes e) (flat_map entry_bytes es), entries-size es)

-- ---- a child at a position

abbrev pub entry_in : ℕ → List Piece → ℕ → Piece → PlainEntry
entry_in at ps i p = record { start = start_in at ps i; length = length (piece_bytes p); dir = p.dir }

-- its entry stands among the entries, and its bytes among those of the row
pub record ChildAt (at : ℕ) (ps : List Piece) (i : ℕ) (p : Piece) : Type 0 where
  pub front : List ℕ
  pub back : List ℕ
  pub entry : flat_map entry_bytes (entries_from at ps) ≡ front ++ (entry_bytes (entry_in at ps i p) ++ back)
  pub place : length front ≡ 24 * i
  pub more : List ℕ
  pub piece : flat_map piece_bytes ps ≡ flat_map piece_bytes (take i ps) ++ (piece_bytes p ++ more)
  pub next : start_in at ps (i + 1) ≡ start_in at ps i + length (piece_bytes p)
  pub fits : AllByRecursion IsEntry (entries_from at ps) → IsEntry (entry_in at ps i p)

child-first : (at : ℕ) (p : Piece) (ps : List Piece) → ChildAt at (p ∷ ps) zero p
child-first at p ps =
    let same : at + 0 ≡ at = omega arith in
    record {
      front = [];
      back = flat_map entry_bytes (entries_from (at + length (piece_bytes p)) ps);
      entry = ap (λ (n : ℕ). entry_bytes (record { start = n; length = length (piece_bytes p); dir = p.dir }) ++ flat_map entry_bytes (entries_from (at + length (piece_bytes p)) ps)) (sym same);
      place = refl;
      more = flat_map piece_bytes ps;
      piece = refl;
      next = omega (arith, length-append (piece_bytes p) []);
      fits = λ h. subst (λ (n : ℕ). IsEntry (record { start = n; length = length (piece_bytes p); dir = p.dir })) (sym same) h.0;
    }

child-later : (at : ℕ) (q : Piece) (ps : List Piece) (i : ℕ) (p : Piece) → ChildAt (at + length (piece_bytes q)) ps i p → ChildAt at (q ∷ ps) (suc i) p
child-later at q ps i p h =
    let start : start_in (at + length (piece_bytes q)) ps i ≡ start_in at (q ∷ ps) (suc i) = omega (arith, length-append (piece_bytes q) (flat_map piece_bytes (take i ps))) in
    let more : suc i + 1 ≡ suc (i + 1) = omega arith in
    let one = entry_bytes (record { start = at; length = length (piece_bytes q); dir = q.dir }) in
    record {
      front = one ++ h.front;
      back = h.back;
      entry = ap (λ (bs : List ℕ). one ++ bs) h.entry ∙ sym (append_assoc one h.front (entry_bytes (entry_in (at + length (piece_bytes q)) ps i p) ++ h.back))
          ∙ ap (λ (n : ℕ). (one ++ h.front) ++ (entry_bytes (record { start = n; length = length (piece_bytes p); dir = p.dir }) ++ h.back)) start;
      place = omega (arith, length-append one h.front, h.place);
      more = h.more;
      piece = ap (λ (bs : List ℕ). piece_bytes q ++ bs) h.piece ∙ sym (append_assoc (piece_bytes q) (flat_map piece_bytes (take i ps)) (piece_bytes p ++ h.more));
      next = ap (start_in at (q ∷ ps)) more ∙ omega (arith, h.next, length-append (piece_bytes q) (flat_map piece_bytes (take i ps)), length-append (piece_bytes q) (flat_map piece_bytes (take (i + 1) ps)));
      fits = λ g. subst (λ (n : ℕ). IsEntry (record { start = n; length = length (piece_bytes p); dir = p.dir })) start (h.fits g.1);
    }

pub child-at : (at : ℕ) (ps : List Piece) (i : ℕ) (p : Piece) → slice_get ps i ≡ Some p → ChildAt at ps i p
child-at at [] i p e = absurd cc
child-at at (q ∷ ps) zero p e = subst (λ (r : Piece). ChildAt at (q ∷ ps) zero r) (some_is q p e) (child-first at q ps)
child-at at (q ∷ ps) (suc i) p e = child-later at q ps i p (child-at (at + length (piece_bytes q)) ps i p e)

-- ---- rows

-- the END behind the children
pub end-stands : (bytes : List ℕ) (row : PlainRow) (ps : List Piece) → RowLaid bytes row ps → StandsAt bytes row.end (rec_bytes (end_rec (dir_of ps)))
end-stands bytes row ps h =
    let whole = subst (StandsAt bytes row.first) (closed-bytes ps) h.stands in
    subst (λ (at : ℕ). StandsAt bytes at (rec_bytes (end_rec (dir_of ps)))) (sym h.end) (stands-back bytes row.first (flat_map piece_bytes ps) (rec_bytes (end_rec (dir_of ps))) whole)

-- its kind, its length and the number of children
pub head-stands : (bytes : List ℕ) (row : PlainRow) (ps : List Piece) → RowLaid bytes row ps → StandsAt bytes row.end (head_bytes row.dir (length ps))
head-stands bytes row ps h =
    let d = dir_of ps in
    let more = flat_map entry_bytes d.entries ++ sets_bytes d.sets in
    let whole = subst (StandsAt bytes row.end) (end-parts d) (end-stands bytes row ps h) in
    let front = stands-front bytes row.end (head_bytes (length (dir_bytes d)) (length d.entries)) more whole in
    subst (λ (n : ℕ). StandsAt bytes row.end (head_bytes n (length ps))) (sym h.dir)
    (subst (λ (n : ℕ). StandsAt bytes row.end (head_bytes (length (dir_bytes d)) n)) (entries-length 0 ps) front)

-- the entry of a child
pub entry-stands : (bytes : List ℕ) (row : PlainRow) (ps : List Piece) (i : ℕ) (p : Piece) → RowLaid bytes row ps → ChildAt 0 ps i p → StandsAt bytes (row.end + 13 + 24 * i) (entry_bytes (entry_in 0 ps i p))
entry-stands bytes row ps i p h c =
    let d = dir_of ps in
    let head = head_bytes (length (dir_bytes d)) (length d.entries) in
    let entry = entry_bytes (entry_in 0 ps i p) in
    let sets = sets_bytes d.sets in
    let whole : rec_bytes (end_rec d) ≡ (head ++ c.front) ++ (entry ++ (c.back ++ sets)) =
    end-parts d ∙ ap (λ (bs : List ℕ). head ++ (bs ++ sets)) c.entry ∙ simp append_assoc in
    let stands = stands-part bytes row.end (head ++ c.front) entry (c.back ++ sets) (subst (StandsAt bytes row.end) whole (end-stands bytes row ps h)) in
    let place : row.end + length (head ++ c.front) ≡ row.end + 13 + 24 * i = omega (arith, length-append head c.front, c.place) in
    subst (λ (at : ℕ). StandsAt bytes at entry) place stands

-- the child itself
pub child-stands : (bytes : List ℕ) (row : PlainRow) (ps : List Piece) (i : ℕ) (p : Piece) → RowLaid bytes row ps → ChildAt 0 ps i p
    → ChildLaid bytes (record { first = row.first + start_in 0 ps i; end = row.first + start_in 0 ps i + length (piece_bytes p); dir = p.dir }) p
child-stands bytes row ps i p h c =
    let before = flat_map piece_bytes (take i ps) in
    let end = rec_bytes (end_rec (dir_of ps)) in
    let whole : flat_map rec_bytes (closed_by_end ps) ≡ before ++ (piece_bytes p ++ (c.more ++ end)) =
    closed-bytes ps ∙ ap (λ (bs : List ℕ). bs ++ end) c.piece ∙ simp append_assoc in
    let stands = stands-part bytes row.first before (piece_bytes p) (c.more ++ end) (subst (StandsAt bytes row.first) whole h.stands) in
    let place : row.first + length before ≡ row.first + start_in 0 ps i = omega arith in
    record { stands = subst (λ (at : ℕ). StandsAt bytes at (piece_bytes p)) place stands; end = refl; dir = refl }

-- ---- the row inside a child

pub record InnerRow (bytes : List ℕ) (child : PlainChild) (row : PlainRow) (ps : List Piece) : Type 0 where
  pub stands : RowLaid bytes row ps
  pub ordered : row.first ≤ row.end
  pub ends : row.end + (9 + row.dir) ≡ child.end
  pub dir : row.dir ≡ child.dir

abbrev pub row_in : ℕ → List Piece → PlainRow
row_in first ps = record { first = first; end = first + length (flat_map piece_bytes ps); dir = length (dir_bytes (dir_of ps)) }

pub inner-row : (bytes : List ℕ) (child : PlainChild) (l : PlainLabel) (s : Stamp) (set : List (ℕ × ℕ)) (ps : List Piece) (behind : ℕ)
    → ChildLaid bytes child (inner_piece l s set ps) → behind ≡ child.first + length (rec_bytes (inner_rec l s)) → InnerRow bytes child (row_in behind ps) ps
inner-row bytes child l s set ps behind h e =
    let opens = rec_bytes (inner_rec l s) in
    let closed = flat_map rec_bytes (closed_by_end ps) in
    let stands = stands-back bytes child.first opens closed h.stands in
    let size = length-append opens closed in
    let inside = ap length (closed-bytes ps) ∙ length-append (flat_map piece_bytes ps) (rec_bytes (end_rec (dir_of ps))) in
    record {
      stands = record { stands = subst (λ (at : ℕ). StandsAt bytes at closed) (sym e) stands; end = refl; dir = refl };
      ordered = omega arith;
      ends = omega (arith, size, inside, h.end, e);
      dir = sym h.dir;
    }

-- ---- what was read

pub filled-of : {T X : Type 0} (view : T → X) (o : Option T) (e : CursorFault) (r : Result T CursorFault) (x : X) (P : X → Type 0) → r ≡ ok_or o e → option_map view o ≡ Some x → P x → Filled r (λ (t : T). P (view t))
filled-of {T} view (Some t) e r x P is same h = subst (λ (s : Result T CursorFault). Filled s (λ (t : T). P (view t))) (sym is) (subst P (sym (some_is (view t) x same)) h)
filled-of view None e r x P is same h = absurd cc

pub shown-of : {T X : Type 0} (view : T → X) (o : Option T) (x : X) (P : X → Type 0) → option_map view o ≡ Some x → P x → IfSome o (λ (t : T). P (view t)) × (o ≢ None)
shown-of view (Some t) x P same h = (subst P (sym (some_is (view t) x same)) h, λ e. cc)
shown-of view None x P same h = absurd cc

pub row-ordered : (bytes : List ℕ) (row : PlainRow) (ps : List Piece) → RowLaid bytes row ps → row.first ≤ row.end
row-ordered bytes row ps h = omega (arith, h.end)
