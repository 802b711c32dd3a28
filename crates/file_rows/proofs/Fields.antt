-- What the bytes of a directory say, of which some were read.
use Rattle.std.proofs.Common.{◌≡◌, if◌then◌else◌, ℕ, zero, suc, ◌+◌, ◌-◌, ◌*◌, ◌≤◌, Bool, false, eqb, leb, true, IsTrue, List, [], ◌∷◌, ◌++◌, length, map, take, drop, Option, Some, None, Result, refl, sym, ap, subst, ◌∙◌, arith, length-take-le, length-drop, drop-drop}
use Rattle.std.specs.Int.{Width, w64, byte_len, from_be_bytes}
use Rattle.std.specs.Prelude.{ok_or, IfOk, IfSome}
use Rattle.std.proofs.lemmas.Bool.Decides.{nat_tests}
use Rattle.std.proofs.lemmas.List.{drop-take, drop_all, take-take, length-append}
use Rattle.xa_fields.specs.Reading.{number_at}
use Rattle.xa_outside.specs.Folder.{front}
use Rattle.xa_fields.specs.FieldLaws.{number-there, some_is}
use Rattle.timestamp_tree.specs.Data.{PlainTs, leaf, node, leaves}
use Rattle.timestamp_tree.specs.Bytes.{tree_bytes}
use Rattle.timestamp_tree.specs.Tree.{tree_of}
use Rattle.timestamp_tree.proofs.Trees.{length-leaf, length-node, length-set_bytes, leaves-tree_of}
use Rattle.record_format.specs.Nodes.{Piece, dir_of}
use Rattle.record_format.specs.Spelling.{dir_bytes, entry_bytes}
use Rattle.record_format.proofs.Pieces.{entries-length}
use Rattle.record_cursor.specs.declared.fault.CursorFault.{CursorFault}
use Rattle.xa_fields.specs.Spelling.{u32_bytes}
use Rattle.std.specs.List.{flat_map}
use Rattle.file_rows.specs.StandsAt.{IsEntered, has_room}
use Rattle.file_rows.proofs.Children.{entries-size}

-- ---- lengths

le-leb : (n m : ℕ) → n ≤ m → leb n m ≡ true
le-leb n m h = grind (arith, nat_tests)

-- a file that has so many bytes has a front of so many
pub has-front : (file : List ℕ) (n : ℕ) → n ≤ length file → front n file ≡ None → ⊥
has-front file n h none = (
    let there : front n file ≡ Some (take n file) = ap (λ (b : Bool). if b then Some (take n file) else None) (le-leb n (length file) h) in
    let clash : None ≡ Some (take n file) = sym none ∙ there in
    cc)

-- ---- numbers

-- a number that was read of the first bytes stands there
number-front : (w : Width) (at n : ℕ) (bytes out : List ℕ) (x : ℕ) (rest : List ℕ) → out ≡ take n bytes → at + byte_len w ≤ n → n ≤ length bytes → Some (x, rest) ≡ number_at w (drop at out)
    → number_at w (drop at bytes) ≡ Some (x, drop (byte_len w) (drop at bytes))
number-front w at n bytes out x rest e fits long read =
    let k = byte_len w in
    let whole : at + (n - at) ≡ n = omega (arith, fits) in
    let piece : drop at out ≡ take (n - at) (drop at bytes) = ap (drop at) e ∙ ap (λ (m : ℕ). drop at (take m bytes)) (sym whole) ∙ drop-take at (n - at) bytes in
    let same : take k (drop at out) ≡ take k (drop at bytes) = ap (take k) piece ∙ take-take k (n - at) (drop at bytes) (omega (arith, fits)) in
    let here = number-there w (drop at out) (omega (arith, ap length e, length-take-le n bytes long, length-drop at out, fits)) in
    let there = number-there w (drop at bytes) (omega (arith, length-drop at bytes, fits, long)) in
    let is : x ≡ from_be_bytes w (take k (drop at out)) = ap (λ (y : ℕ × List ℕ). y.0) (some_is (x, rest) (from_be_bytes w (take k (drop at out)), drop k (drop at out)) (read ∙ here)) in
    there ∙ ap (λ (y : ℕ). Some (y, drop k (drop at bytes))) (sym (is ∙ ap (from_be_bytes w) same))

-- ---- an entry

pub entry-is : (bytes out : List ℕ) (start size dir : ℕ) (a b c : List ℕ) → 24 ≤ length bytes → out ≡ take 24 bytes → Some (start, a) ≡ number_at w64 out → Some (size, b) ≡ number_at w64 (drop 8 out) → Some (dir, c) ≡ number_at w64 (drop 16 out)
    → IsEntered bytes 0 (record { first = start; end = start + size; dir = dir })
entry-is bytes out start size dir a b c long e n m k = record {
  start = start;
  length = size;
  begins = number-front w64 0 24 bytes out start a e (omega arith) long n;
  has = number-front w64 8 24 bytes out size b e (omega arith) long m ∙ ap (λ (bs : List ℕ). Some (size, bs)) (drop-drop 8 8 bytes);
  dir = number-front w64 16 24 bytes out dir c e (omega arith) long k ∙ ap (λ (bs : List ℕ). Some (dir, bs)) (drop-drop 8 16 bytes);
  first_is = omega arith;
  end_is = omega arith;
}

-- ---- a tail

pub tail-is : (bytes out : List ℕ) (dir : ℕ) (rest : List ℕ) → length bytes ≡ 8 → out ≡ take 8 bytes → Some (dir, rest) ≡ number_at w64 out
    → number_at w64 bytes ≡ Some (dir, [])
tail-is bytes out dir rest long e n =
    number-front w64 0 8 bytes out dir rest e (omega arith) (omega (arith, long)) n ∙ ap (λ (bs : List ℕ). Some (dir, bs)) (drop_all 8 bytes (omega (arith, long)))

pub said-of : {T : Type 0} (o : Option T) (dir : T → ℕ) (n : ℕ) (P : ℕ → Type 0) → IfSome o (λ t. dir t ≡ n) → P n → IfSome o (λ t. P (dir t))
said-of (Some t) dir n P e h = subst P (sym e) h
said-of None dir n P e h = tt

-- ---- how long a directory is

-- each node of a tree has twelve bytes or more
tree-least : (t : PlainTs) → 24 * length (leaves t) ≤ length (tree_bytes t) + 12
tree-least (leaf s) = omega (arith, length-leaf s, length-set_bytes s)
tree-least (node s n l r) = omega (arith, tree-least l, tree-least r, length-node s n l r, length-set_bytes s, length-append (leaves l) (leaves r))

room-of : (n d : ℕ) → 4 + 24 * suc n + 12 * (2 * suc n - 1) ≤ d → IsTrue (has_room (suc n) d)
room-of n d h =
    let some : eqb (suc n) 0 ≡ false = grind (arith, nat_tests) in
    let enough : leb (4 + 24 * suc n + 12 * (2 * suc n - 1)) d ≡ true = grind (arith, nat_tests) in
    rw (some, enough) refl

pub dir-may : (ps : List Piece) → IsTrue (has_room (length ps) (length (dir_bytes (dir_of ps))))
dir-may [] = refl
dir-may (p ∷ ps) =
    let d = dir_of (p ∷ ps) in
    let es = d.entries in
    let t = tree_of d.sets in
    let many : length (leaves t) ≡ length d.sets = ap length (leaves-tree_of d.sets (omega arith)) in
    let same : length d.sets ≡ length (p ∷ ps) = sets-length (p ∷ ps) in
    room-of (length ps) (length (dir_bytes d)) (omega (arith, tree-least t, many, same, entries-size es, entries-length 0 (p ∷ ps), length-append (u32_bytes (length es) ++ flat_map entry_bytes es) (tree_bytes t)))
  where
    sets-length : (qs : List Piece) → length (map (λ (q : Piece). q.set) qs) ≡ length qs
    sets-length [] = refl
    sets-length (q ∷ qs) = ap suc (sets-length qs)

-- the entries have room in it
pub room-entries : (n d : ℕ) → IsTrue (has_room n d) → 4 + 24 * n ≤ d
room-entries zero d h = grind (arith, nat_tests)
room-entries (suc n) d h = grind (arith, nat_tests)

-- ---- what was answered

pub answered : {T : Type 0} (P : T → Type 0) (o : Option T) (e : CursorFault) (r : Result T CursorFault) → r ≡ ok_or o e → IfSome o P → IfOk r P
answered P (Some x) e r is h = subst (λ s. IfOk s P) (sym is) h
answered P None e r is h = subst (λ s. IfOk s P) (sym is) tt
