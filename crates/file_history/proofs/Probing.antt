-- What looking at the middle of a part of a row gives.
use Rattle.std.proofs.Common.{◌≡◌, ℕ, suc, ◌+◌, ◌-◌, ◌/◌, ◌<◌, ◌≤◌, List, [], ◌∷◌, ◌++◌, length, Option, Some, Ok, sym, ap, subst, ◌∙◌, arith}
use Rattle.std.specs.List.{slice_get}
use Rattle.std.proofs.lemmas.List.{length-append}
use Rattle.keyed_tree.specs.Data.{PlainLabel}
use Rattle.keyed_tree.specs.Order.{label_cmp}
use Rattle.archive_tree.specs.Data.{PlainNode, node_label}
use Rattle.archive_tree.specs.Seek.{node_with}
use Rattle.xa_outside.specs.Folder.{Files}
use Rattle.xa_outside.specs.Numbers.{Numbers, PullsAtMost}
use Rattle.record_format.specs.Bounds.{IsDir}
use Rattle.record_format.specs.Nodes.{Piece, piece_bytes, node_piece, dir_of}
use Rattle.record_cursor.specs.Moves.{TellsFront}
use Rattle.file_rows.specs.StandsAt.{RowLaid, ChildLaid, start_in}
use Rattle.file_rows.specs.View.{PlainRow, PlainChild}
use Rattle.file_history.specs.Opened.{IsFound, OpenedIs, ChildIs}
use Rattle.file_history.specs.Parts.{pieces_of, bytes_of, opening_size, cost, PartIs, IsFoundIn, ProbedIs, IsTurned}
use Rattle.file_history.specs.Pulled.{PullsBut}
use Rattle.file_history.specs.View.{PlainPart, part_view, room_of, left_opened, left_probed}
use Rattle.file_history.specs.declared.open.Opened.{Opened}
use Rattle.file_history.specs.declared.open.Opened.TheVariants as opened
use Rattle.file_history.specs.declared.search.Part.{Part}
use Rattle.file_history.specs.declared.search.Probed.{Probed}
use Rattle.file_history.specs.declared.search.Probed.TheVariants.{Here, Beside}
use Rattle.file_history.proofs.Budgets.{Costs, cost-left, cost-right}
use Rattle.file_history.proofs.Searching.{with-less, with-greater, with-equal}
use Rattle.file_history.proofs.Probes.{halved-less, halved-greater, halved-equal}
use Rattle.file_history.proofs.Pulls.{but-most, most-both}
use Rattle.file_history.proofs.Halves.{cut, row-within, Middle, middle, middle-opens, middle-nested, middle-sorted, child-start, part-before, part-behind}

-- ---- any file

-- what is left to read beside the middle
pub turned-room : (part : Part) (place : ℕ) (child : PlainChild) (o : Opened) (p : Probed) → IsTurned (part_view part) place child o p → part.low_at ≤ child.first → child.first ≤ child.end → child.end ≤ part.high_at
    → part.low ≤ place → place < part.high → 24 + (child.end - child.first) + left_probed (Ok p) ≤ room_of part + left_opened (Ok o)
turned-room part place child (opened.Here f) (Here g) is a b c d e =
    let same = ap (λ x. left_opened (Ok (opened.Here x))) is in
    omega (arith, same, a, b, c, d, e)
turned-room part place child (opened.Here f) (Beside next) is a b c d e = absurd is
turned-room part place child opened.Before (Here g) is a b c d e = absurd is
turned-room part place child opened.Before (Beside next) is a b c d e =
    let low = ap (λ (x : PlainPart). x.low) is in
    let high = ap (λ (x : PlainPart). x.high) is in
    let low_at = ap (λ (x : PlainPart). x.low_at) is in
    let high_at = ap (λ (x : PlainPart). x.high_at) is in
    omega (arith, low, high, low_at, high_at, a, b, c, d, e)
turned-room part place child opened.Behind (Here g) is a b c d e = absurd is
turned-room part place child opened.Behind (Beside next) is a b c d e =
    let low = ap (λ (x : PlainPart). x.low) is in
    let high = ap (λ (x : PlainPart). x.high) is in
    let low_at = ap (λ (x : PlainPart). x.low_at) is in
    let high_at = ap (λ (x : PlainPart). x.high_at) is in
    omega (arith, low, high, low_at, high_at, a, b, c, d, e)

-- ---- an archive's file

-- the node in the middle
pub record Look (row : PlainRow) (parent : List (ℕ × ℕ)) (part : PlainPart) (front mid back : List PlainNode) (place : ℕ) : Type 0 where
  pub left : List PlainNode
  pub k : PlainNode
  pub right : List PlainNode
  pub is : mid ≡ left ++ k ∷ right
  pub here : place ≡ part.low + length left
  pub some : 0 < length mid
  pub half : length left ≡ length mid / 2
  pub left_half : length left ≤ length mid / 2
  pub right_half : length right ≤ length mid / 2
  pub stands : Middle row parent part (front ++ (mid ++ back)) k place

cut-length : (mid left right : List PlainNode) (k : PlainNode) → mid ≡ left ++ k ∷ right → length mid ≡ length left + suc (length right)
cut-length mid left right k is = ap length is ∙ length-append left (k ∷ right)

pub look : (told : Option Files) (name bytes : List ℕ) (row : PlainRow) (parent : List (ℕ × ℕ)) (part : PlainPart) (front mid back : List PlainNode) (place : ℕ) → PartIs told name bytes row parent part front mid back → part.low < part.high
    → place ≡ part.low + (part.high - part.low) / 2 → Look row parent part front mid back place
look told name bytes row parent part front mid back place h some is =
    let size : part.high - part.low ≡ length mid = omega (arith, h.low, h.high) in
    let many : 0 < length mid = omega (arith, size, some) in
    let c = cut mid (length mid / 2) (omega (arith, many)) in
    let at : place ≡ part.low + length c.left = omega (arith, is, size, c.place) in
    let stands : Middle row parent part (front ++ (mid ++ back)) c.k place = middle told name bytes row parent part front mid back c.left c.right c.k h c.is place at in
    let len = cut-length mid c.left c.right c.k c.is in
    record {
      left = c.left;
      k = c.k;
      right = c.right;
      is = c.is;
      here = at;
      some = many;
      half = c.place;
      left_half = omega (arith, c.place);
      right_half = omega (arith, c.place, len);
      stands = stands;
    }

module _ (told : Option Files) (name bytes : List ℕ) (row : PlainRow) (parent : List (ℕ × ℕ)) (part : PlainPart) (front mid back : List PlainNode) (place : ℕ) (h : PartIs told name bytes row parent part front mid back) (l : Look row parent part front mid back place) where
  pub costs-left : Costs l.left mid l.k
  costs-left = cost-left l.left l.right l.k mid l.is l.left_half l.some

  pub costs-right : Costs l.right mid l.k
  costs-right = cost-right l.left l.right l.k mid l.is l.right_half l.some

  pub looked-child : (later : Option Files) (called : List ℕ) (child : PlainChild) → later ≡ told → called ≡ name → ChildLaid bytes child (node_piece parent l.k) → ChildIs later called bytes part.depth child parent l.k
  looked-child later called child same named stands = record {
    size = h.size;
    tells = subst (λ (t : Option Files). TellsFront t called h.size bytes) (sym same) (subst (λ (n : List ℕ). TellsFront told n h.size bytes) (sym named) h.tells);
    stands = stands;
    opens = middle-opens told name bytes row parent part front mid back l.left l.right l.k h l.is;
    nested = middle-nested told name bytes row parent part front mid back l.left l.right l.k h l.is;
  }

  pub looked-few : (a b c : Numbers) → PullsAtMost 24 a b → PullsAtMost (opening_size l.k) b c → PullsAtMost (cost mid) a c
  looked-few a b c p q = (let w = costs-left.less in most-both 24 (opening_size l.k) (cost mid) a b c (omega (arith, w)) p q)

  pub read-few : (a b : Numbers) → PullsAtMost 24 a b → PullsAtMost (cost mid) a b
  read-few a b p = (let w = costs-left.less in let v = p.within in record { count = p.count; within = omega (arith, v, w); pulled = p.pulled })

  looked-but : (ns : List PlainNode) (a b c : Numbers) → Costs ns mid l.k → PullsAtMost 24 a b → PullsAtMost (opening_size l.k) b c → PullsBut (cost mid) (cost ns) a c
  looked-but ns a b c w p q = but-most (cost mid) (cost ns) (24 + opening_size l.k) a c w.less (most-both 24 (opening_size l.k) (24 + opening_size l.k) a b c (omega arith) p q)

  pub looked : (w : PlainLabel) (child : PlainChild) (a b c : Numbers) (o : Opened) (p : Probed) → IsTurned part place child o p → ChildLaid bytes child (node_piece parent l.k)
      → child.first ≡ start_in row.first (pieces_of parent (front ++ (mid ++ back))) place → OpenedIs bytes parent l.k (label_cmp (node_label l.k) w) o → PullsAtMost 24 a b → PullsAtMost (opening_size l.k) b c
      → ProbedIs told name bytes row parent w mid a c p
  looked w child a b c (opened.Here f) (Here g) is stands start found m n =
      let there : node_with w mid ≡ Some l.k = ap (node_with w) l.is ∙ with-equal w l.k l.left l.right (middle-sorted told name bytes row parent part front mid back l.left l.right l.k h l.is) found.0 in
      (subst (λ (k : Option PlainNode). IsFoundIn bytes parent k (Some g)) (sym there) (subst (λ x. IsFound bytes parent l.k x) is found.1), halved-equal w mid l.left l.right l.k l.is l.half found.0)
  looked w child a b c (opened.Here f) (Beside next) is stands start found m n = absurd is
  looked w child a b c opened.Before (Here g) is stands start found m n = absurd is
  looked w child a b c opened.Before (Beside next) is stands start found m n =
      let begins = start ∙ child-start told name bytes row parent part front mid back l.left l.right l.k h l.is place l.here in
      let size : bytes_of parent (l.k ∷ []) ≡ length (piece_bytes (node_piece parent l.k)) = omega (arith, length-append (piece_bytes (node_piece parent l.k)) []) in
      let ends : child.end ≡ part.low_at + bytes_of parent l.left + bytes_of parent (l.k ∷ []) = omega (arith, begins, size, stands.end) in
      record {
        front = front ++ (l.left ++ l.k ∷ []);
        mid = l.right;
        back = back;
        is = subst (λ (x : PlainPart). PartIs told name bytes row parent x (front ++ (l.left ++ l.k ∷ [])) l.right back) (sym is) (part-behind told name bytes row parent part front mid back l.left l.right l.k h l.is place child.end l.here ends);
        same = ap (node_with w) l.is ∙ with-less w l.k l.left l.right (middle-sorted told name bytes row parent part front mid back l.left l.right l.k h l.is) found;
        steps = halved-less w mid l.left l.right l.k l.is l.half found;
        fewer = costs-right.fewer;
        less = looked-but l.right a b c costs-right m n;
      }
  looked w child a b c opened.Behind (Here g) is stands start found m n = absurd is
  looked w child a b c opened.Behind (Beside next) is stands start found m n =
      let begins = start ∙ child-start told name bytes row parent part front mid back l.left l.right l.k h l.is place l.here in
      record {
        front = front;
        mid = l.left;
        back = l.k ∷ (l.right ++ back);
        is = subst (λ (x : PlainPart). PartIs told name bytes row parent x front l.left (l.k ∷ (l.right ++ back))) (sym is) (part-before told name bytes row parent part front mid back l.left l.right l.k h l.is place child.first l.here begins);
        same = ap (node_with w) l.is ∙ with-greater w l.k l.left l.right (middle-sorted told name bytes row parent part front mid back l.left l.right l.k h l.is) found;
        steps = halved-greater w mid l.left l.right l.k l.is l.half found;
        fewer = costs-left.fewer;
        less = looked-but l.left a b c costs-left m n;
      }

-- ---- what was read

-- the child in the middle
pub record Known (later : Option Files) (called bytes : List ℕ) (row : PlainRow) (parent : List (ℕ × ℕ)) (part : PlainPart) (front mid back : List PlainNode) (place : ℕ) (child : PlainChild) : Type 0 where
  pub looks : Look row parent part front mid back place
  pub stands : ChildLaid bytes child (node_piece parent looks.k)
  pub start : child.first ≡ start_in row.first (pieces_of parent (front ++ (mid ++ back))) place
  pub there : ChildIs later called bytes part.depth child parent looks.k

-- what reading a child tells
abbrev pub ReadTells : Option Files → List ℕ → PlainRow → PlainPart → ℕ → (List ℕ → Piece → ℕ → Type 0) → Type 0
ReadTells told name row part place Q = (end : ℕ) (bytes : List ℕ) (ps : List Piece) (p : Piece) → TellsFront told name end bytes → row.end + (9 + row.dir) ≤ end → RowLaid bytes row ps → IsDir (dir_of ps)
    → slice_get ps place ≡ Some p → part.low_at ≤ start_in row.first ps place → start_in row.first ps (place + 1) ≤ part.high_at → Q bytes p (start_in row.first ps place)

pub told-child : (told : Option Files) (name bytes : List ℕ) (row : PlainRow) (parent : List (ℕ × ℕ)) (part : PlainPart) (front mid back : List PlainNode) (place : ℕ) (Q : List ℕ → Piece → ℕ → Type 0) → (h : PartIs told name bytes row parent part front mid back)
    → (l : Look row parent part front mid back place) → ReadTells told name row part place Q → Q bytes (node_piece parent l.k) (start_in row.first (pieces_of parent (front ++ (mid ++ back))) place)
told-child told name bytes row parent part front mid back place Q h l read =
    let ps = pieces_of parent (front ++ (mid ++ back)) in
    read h.size bytes ps (node_piece parent l.k) h.tells (row-within told name bytes h.size row ps h.tells h.stands) h.stands h.dir l.stands.get l.stands.low l.stands.high

pub known : (told later : Option Files) (name called bytes : List ℕ) (row : PlainRow) (parent : List (ℕ × ℕ)) (part : PlainPart) (front mid back : List PlainNode) (place : ℕ) (child : PlainChild) → PartIs told name bytes row parent part front mid back
    → part.low < part.high → place ≡ part.low + (part.high - part.low) / 2 → later ≡ told → called ≡ name → ReadTells told name row part place (λ bs p n. ChildLaid bs child p × (child.first ≡ n))
    → Known later called bytes row parent part front mid back place child
known told later name called bytes row parent part front mid back place child h some is same named read =
    let l = look told name bytes row parent part front mid back place h some is in
    let r = told-child told name bytes row parent part front mid back place (λ bs p n. ChildLaid bs child p × (child.first ≡ n)) h l read in
    record { looks = l; stands = r.0; start = r.1; there = looked-child told name bytes row parent part front mid back place h l later called child same named r.0 }
