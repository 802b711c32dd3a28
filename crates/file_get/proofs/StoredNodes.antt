-- What the bytes of a node of a stored tree say of a version.
use Rattle.std.proofs.Common.{◌≡◌, ℕ, ◌+◌, ◌-◌, ◌*◌, ◌/◌, ◌%◌, ◌<◌, ◌≤◌, ◌^◌, Bool, true, false, leb, ◌==◌, ◌&&◌, List, [], ◌∷◌, ◌++◌, length, take, drop, Option, Some, None, Result, Ok, Err, IfOk, refl, sym, ap, subst, ◌∙◌, arith, append-nil, take-append-drop}
use Rattle.std.specs.Prelude.{if◌then◌else◌, nat_le, ok_or}
use Rattle.std.specs.Int.{w32, w64}
use Rattle.std.specs.Option.{option_map}
use Rattle.std.proofs.lemmas.Bool.Decides.{nat_tests}
use Rattle.std.proofs.Math.Seq.{take-length}
use Rattle.std.proofs.lemmas.List.{drop-drop, drop-take, length-append, length-drop, take-take}
use Rattle.xa_fields.specs.Reading.{number_at, chain_at, whole}
use Rattle.xa_fields.specs.FieldLaws.{bind_some, none_unless, passed_some, some_is}
use Rattle.xa_fields.specs.Spelling.{u32_bytes, u64_bytes}
use Rattle.xa_outside.specs.Folder.{Files}
use Rattle.xa_outside.specs.Numbers.{Numbers, PullsAtMost}
use Rattle.xa_outside.specs.NumberLaws.{PullsAtMost-more, PullsAtMost-trans}
use Rattle.timestamp_tree.specs.Bytes.{set_bytes, stored}
use Rattle.timestamp_tree.specs.Reading.{pair_at, next_pair, stored_at, some_stored_at}
use Rattle.timestamp_tree.specs.Probes.{said_of}
use Rattle.timestamp_tree.proofs.Stored.{parts_sizes, stored_is, stored_sizes}
use Rattle.timestamp_tree.proofs.Trees.{length-set_bytes}
use Rattle.timestamp_tree.proofs.Probed.{among, node_said, node_unsaid, some_is_stored, some_stands}
use Rattle.record_parts.specs.Bounds.{IsSet, most}
use Rattle.record_format.proofs.WholeDirectories.{node_reads}
use Rattle.record_cursor.specs.Steps.{Filled}
use Rattle.record_cursor.specs.declared.fault.CursorFault.{CursorFault}
use Rattle.file_rows.specs.StandsAt.{StandsAt}
use Rattle.file_get.specs.Searched.{inner_read, searched}
use Rattle.file_rows.proofs.Parts.{stands-front, stands-back}
use Rattle.file_get.proofs.Bodies.{count-stands}
use Rattle.file_get.proofs.SetSearch.{searched-few, searched-half}
use Rattle.file_get.specs.Nodes.{NodeTold, probe_view, says, says_of}
use Rattle.file_get.specs.declared.node.Probe.{Probe}

-- ---- the node that all of the bytes are

-- the number of its intervals stands in front, and the bytes are as many as that makes
pub record IsNode (bytes : List ℕ) (node : List (ℕ × ℕ) × ℕ) : Type 0 where
  pub count : number_at w32 bytes ≡ Some (length node.0, drop 4 bytes)
  pub some : 1 ≤ length node.0
  pub size : length bytes ≡ 12 + 8 * length node.0

-- how many bytes are behind a node
behind-node : (bytes : List ℕ) (x : (List (ℕ × ℕ) × ℕ) × List ℕ) → stored_at most bytes ≡ Some x → length x.1 ≡ length bytes - (12 + 8 * length x.0.0)
behind-node bytes x e =
    let n = length x.0.0 in
    let parts = parts_sizes most n (drop 4 bytes) x (sym (stored_is most n bytes (stored_sizes most bytes x e).count) ∙ e) in
    let rest = ap length parts.rest in
    omega (arith, rest, length-drop (8 * n + 8) (drop 4 bytes), length-drop 4 bytes)

node-is : (bytes : List ℕ) (node : List (ℕ × ℕ) × ℕ) → whole (some_stored_at most) bytes ≡ Some node → IsNode bytes node
unfolding whole
node-is bytes node e =
    let a = bind_some (some_stored_at most bytes) (λ a. if length a.1 == 0 then Some a.0 else None) node e in
    let x = a.0 in
    let p = passed_some (length x.1 == 0) x.0 node a.2 in
    let test : (length x.1 == 0) ≡ true = p.0 in
    let none : length x.1 ≡ 0 = grind (arith, nat_tests) in
    let stands = some_stands most bytes x a.1 in
    let some = stands.1 in
    let sizes = stored_sizes most bytes x stands.0 in
    let long = sizes.long in
    let behind = behind-node bytes x stands.0 in
    subst (IsNode bytes) p.1 (record { count = sizes.count; some = some; size = omega (arith, long, behind, none) })

node-only : (bytes : List ℕ) (x : (List (ℕ × ℕ) × ℕ) × List ℕ) → some_stored_at most bytes ≡ Some x → length x.1 ≡ 0 → whole (some_stored_at most) bytes ≡ Some x.0
unfolding whole
node-only bytes x e none =
    let test : (length x.1 == 0) ≡ true = grind (arith, nat_tests) in
    rw (e, test) refl

-- ---- no node

pub no-count : (bytes : List ℕ) → length bytes < 4 → whole (some_stored_at most) bytes ≡ None
no-count bytes few = none_unless (whole (some_stored_at most) bytes) (λ node e. (let size = (node-is bytes node e).size in omega (arith, few, size)))

same-count : (bytes : List ℕ) (n : ℕ) (node : List (ℕ × ℕ) × ℕ) → number_at w32 bytes ≡ Some (n, drop 4 bytes) → IsNode bytes node → n ≡ length node.0
same-count bytes n node count is = ap (λ (y : ℕ × List ℕ). y.0) (some_is (n, drop 4 bytes) (length node.0, drop 4 bytes) (sym count ∙ is.count))

pub no-interval : (bytes : List ℕ) (n : ℕ) → number_at w32 bytes ≡ Some (n, drop 4 bytes) → n < 1 → whole (some_stored_at most) bytes ≡ None
no-interval bytes n count few = none_unless (whole (some_stored_at most) bytes) (λ node e. (
    let is = node-is bytes node e in
    let some = is.some in
    let same = same-count bytes n node count is in
    omega (arith, few, some, same)))

pub not-whole : (bytes : List ℕ) (n : ℕ) → number_at w32 bytes ≡ Some (n, drop 4 bytes) → (12 + 8 * n ≡ length bytes → ⊥) → whole (some_stored_at most) bytes ≡ None
not-whole bytes n count other = none_unless (whole (some_stored_at most) bytes) (λ node e. (
    let is = node-is bytes node e in
    let size = is.size in
    let same = same-count bytes n node count is in
    other (omega (arith, size, same))))

none-stands : (bytes : List ℕ) → some_stored_at most bytes ≡ None → whole (some_stored_at most) bytes ≡ None
unfolding whole
none-stands bytes e = rw e refl

pub no-pairs : (bytes : List ℕ) (n i : ℕ) → length bytes ≡ 12 + 8 * n → number_at w32 bytes ≡ Some (n, drop 4 bytes) → ◌≡◌ {A = Option Bool} None (option_map (among i) (chain_at pair_at (next_pair most) 1 n (drop 4 bytes)))
    → whole (some_stored_at most) bytes ≡ None
no-pairs bytes n i size count none =
    let all : bytes ≡ take (12 + 8 * n) bytes = sym (take-length bytes) ∙ ap (λ (k : ℕ). take k bytes) size in
    none-stands bytes (node_unsaid most n i bytes bytes size all count none)

-- ---- a node

mapped : {A B : Type 0} (f : A → B) (o : Option A) (y : B) → option_map f o ≡ Some y → (x : A) × (o ≡ Some x) × (f x ≡ y)
mapped f (Some x) y e = (x, refl, some_is (f x) y e)
mapped f None y e = absurd cc

pub node-says : (bytes behind : List ℕ) (n i left : ℕ) (h : Bool) → 1 ≤ n → length bytes ≡ 12 + 8 * n → number_at w32 bytes ≡ Some (n, drop 4 bytes) → Some h ≡ option_map (among i) (chain_at pair_at (next_pair most) 1 n (drop 4 bytes))
    → Some (left, behind) ≡ number_at w64 (drop (4 + 8 * n) bytes) → option_map (says_of i) (whole (some_stored_at most) bytes) ≡ Some (h, left, length bytes)
node-says bytes behind n i left h some size count pairs last =
    let all : bytes ≡ take (12 + 8 * n) bytes = sym (take-length bytes) ∙ ap (λ (k : ℕ). take k bytes) size in
    let said = mapped (said_of i) (some_stored_at most bytes) (h, left, 12 + 8 * n) (node_said most n i left h bytes bytes behind some size all count pairs last) in
    let x = said.0 in
    let stands = some_stands most bytes x said.1 in
    let rest = behind-node bytes x stands.0 in
    let same : n ≡ length x.0.0 = ap (λ (y : ℕ × List ℕ). y.0) (some_is (n, drop 4 bytes) (length x.0.0, drop 4 bytes) (sym count ∙ (stored_sizes most bytes x stands.0).count)) in
    ap (option_map (says_of i)) (node-only bytes x said.1 (omega (arith, rest, same, size))) ∙ ap Some said.2 ∙ ap (λ (k : ℕ). Some (h, left, k)) (sym size)

-- ---- a node that stands there

pub node-stored : (i left : ℕ) (bytes : List ℕ) (s : List (ℕ × ℕ)) → bytes ≡ stored s left → IsSet s → 1 ≤ length s → left < 2 ^ 64 → option_map (says_of i) (whole (some_stored_at most) bytes) ≡ Some (says i s left)
node-stored i left bytes s is set some short =
    let read : stored_at most (stored s left) ≡ Some ((s, left), []) = ap (stored_at most) (sym (append-nil (stored s left))) ∙ node_reads.again (s, left) [] (set, short) in
    let stands = some_is_stored most left (stored s left) [] s read some in
    ap (λ (bs : List ℕ). option_map (says_of i) (whole (some_stored_at most) bs)) is ∙ ap (option_map (says_of i)) (node-only (stored s left) ((s, left), []) stands refl)

-- an option that was handed on as a fault, where its view is this
pub filled-view : {T Y : Type 0} (o : Option T) (e : CursorFault) (r : Result T CursorFault) (f : T → Y) (y : Y) → r ≡ ok_or o e → option_map f o ≡ Some y → Filled r (λ x. f x ≡ y)
filled-view (Some t) e r f y is same = subst (λ (s : Result _ CursorFault). Filled s (λ x. f x ≡ y)) (sym is) (some_is (f t) y same)
filled-view None e r f y is same = absurd cc

-- ---- bytes that were read of it

pub length-stored : (s : List (ℕ × ℕ)) (left : ℕ) → length (stored s left) ≡ 12 + 8 * length s
length-stored s left = (let size = length-append (set_bytes s) (u64_bytes left) in let set = length-set_bytes s in omega (arith, size, set))

-- so many as it has
pub node-taken : (bytes lent : List ℕ) (at n : ℕ) (s : List (ℕ × ℕ)) (left : ℕ) → lent ≡ take n (drop at bytes) → n ≡ length (stored s left) → StandsAt bytes at (stored s left) → lent ≡ stored s left
node-taken bytes lent at n s left read size h = read ∙ ap (λ m. take m (drop at bytes)) size ∙ h

-- no more than its intervals are read of a leaf of few
pub short-pulls : (size : ℕ) (a b : Numbers) → 20 ≤ size → size ≤ 76 → 8 * ((size - 12) / 8) ≡ size - 12 → PullsAtMost size a b → PullsAtMost (12 + 8 * searched ((size - 12) / 8)) a b
short-pulls size a b room few whole pulls =
    let n = (size - 12) / 8 in
    let all = searched-few n (omega (arith, few, whole)) in
    PullsAtMost-more size (12 + 8 * searched n) a b (omega (arith, room, whole, all)) pulls

-- no more than two intervals less than there are is read of a node of many
pub many-pulls : (n : ℕ) (a b : Numbers) → 8 < n → PullsAtMost (8 + 8 * searched n) a b → PullsAtMost (8 * n - 8) a b
many-pulls n a b many pulls =
    let half = searched-half n many in
    PullsAtMost-more (8 + 8 * searched n) (8 * n - 8) a b (omega (arith, many, half)) pulls

-- and of a node of few they are all read
pub few-pulls : (n : ℕ) (a b : Numbers) → n ≤ 8 → PullsAtMost (8 * n - 8) a b → PullsAtMost (8 + 8 * searched n) a b
few-pulls n a b few pulls = (let all = searched-few n few in PullsAtMost-more (8 * n - 8) (8 + 8 * searched n) a b (omega (arith, all)) pulls)

-- what is read of either behind its first twenty bytes
pub rest-pulls : (n : ℕ) (a b : Numbers) → PullsAtMost (8 * n - 8) a b → PullsAtMost (8 + 8 * searched n) a b → PullsAtMost (inner_read n - 20) a b
rest-pulls n a b all some = by (nat_le n 8)
  where
    by : (t : Bool) → PullsAtMost ((if t then 12 + 8 * n else 28 + 8 * searched n) - 20) a b
    by true = PullsAtMost-more (8 * n - 8) (12 + 8 * n - 20) a b (omega arith) all
    by false = PullsAtMost-more (8 + 8 * searched n) (28 + 8 * searched n - 20) a b (omega arith) some

-- these are read in any case
pub twenty-read : (n : ℕ) → 1 ≤ n → 20 ≤ inner_read n
twenty-read n some = by (nat_le n 8)
  where
    by : (t : Bool) → 20 ≤ (if t then 12 + 8 * n else 28 + 8 * searched n)
    by true = omega (arith, some)
    by false = omega arith

-- the front of a node, and the bytes behind it
take-both : (n m : ℕ) (xs : List ℕ) → take n xs ++ take m (drop n xs) ≡ take (n + m) xs
take-both n m xs = (λ i. sym (take-take n (n + m) xs (omega arith)) i ++ sym (drop-take n m xs) i) ∙ take-append-drop n (take (n + m) xs)

no-bytes : (xs : List ℕ) → length xs ≡ 0 → xs ≡ []
no-bytes [] e = refl
no-bytes (x ∷ xs) e = absurd (omega (arith, e))

pub node-joined : (old out post bytes : List ℕ) (at n m : ℕ) → take 20 old ≡ take 20 (drop at bytes) → out ≡ take m (drop (at + 20) bytes) → 20 + m ≡ n → length post ≡ 0 → take 20 old ++ (out ++ post) ≡ take n (drop at bytes)
node-joined old out post bytes at n m front read size none =
    let all : out ++ post ≡ take m (drop 20 (drop at bytes)) = ap (λ (xs : List ℕ). out ++ xs) (no-bytes post none) ∙ append-nil out ∙ read ∙ ap (take m) (sym (drop-drop 20 at bytes)) in
    (λ i. front i ++ all i) ∙ take-both 20 m (drop at bytes) ∙ ap (λ (k : ℕ). take k (drop at bytes)) size

-- the number of intervals at the front of it
pub front-count : (node bytes : List ℕ) (at left : ℕ) (s : List (ℕ × ℕ)) → take 20 node ≡ take 20 (drop at bytes) → StandsAt bytes at (stored s left) → take 4 node ≡ u32_bytes (length s)
front-count node bytes at left s front stands =
    sym (take-take 4 20 node (omega arith)) ∙ ap (take 4) front ∙ take-take 4 20 (drop at bytes) (omega arith) ∙ count-stands bytes at s (stands-front bytes at (set_bytes s) (u64_bytes left) stands)

-- the size of its left part behind it
pub left-stands : (bytes : List ℕ) (at behind left : ℕ) (s : List (ℕ × ℕ)) → behind ≡ at + 4 + 8 * length s → StandsAt bytes at (stored s left) → StandsAt bytes behind (u64_bytes left)
left-stands bytes at behind left s place stands =
    let set = length-set_bytes s in
    let here : at + length (set_bytes s) ≡ behind = omega (arith, place, set) in
    subst (λ (n : ℕ). StandsAt bytes n (u64_bytes left)) here (stands-back bytes at (set_bytes s) (u64_bytes left) stands)

-- its intervals behind their number
pub set-stands : (bytes : List ℕ) (at left : ℕ) (s : List (ℕ × ℕ)) → StandsAt bytes at (stored s left) → StandsAt bytes at (set_bytes s)
set-stands bytes at left s stands = stands-front bytes at (set_bytes s) (u64_bytes left) stands

-- ---- what is known of it

-- the file stays the same
pub told-later : (before after : Option Files) (name bytes : List ℕ) (last at limit : ℕ) (s : List (ℕ × ℕ)) (left : ℕ) → after ≡ before → NodeTold before name bytes last at limit s left → NodeTold after name bytes last at limit s left
told-later before after name bytes last at limit s left same x = subst (λ (f : Option Files). NodeTold f name bytes last at limit s left) (sym same) x

-- nothing behind it matters
pub told-whole : (files : Option Files) (name bytes : List ℕ) (last at limit n : ℕ) (s : List (ℕ × ℕ)) (left : ℕ) → n ≡ length s → NodeTold files name bytes last at limit s left → NodeTold files name bytes last at (at + (12 + 8 * n)) s left
told-whole files name bytes last at limit n s left count x =
    let size = length-stored s left in
    let fits = x.fits in
    let within = x.within in
    record { tells = x.tells; within = omega (arith, size, fits, within, count); stands = x.stands; fits = omega (arith, size, count); set = x.set; some = x.some; short = x.short }

-- what its bytes say
pub node-read : (i left : ℕ) (files : Option Files) (name bytes lent : List ℕ) (last at limit n : ℕ) (s : List (ℕ × ℕ)) (o : Option Probe) → NodeTold files name bytes last at limit s left → lent ≡ take n (drop at bytes) → n ≡ length (stored s left)
    → option_map probe_view o ≡ option_map (says_of i) (whole (some_stored_at most) lent) → option_map probe_view o ≡ Some (says i s left)
node-read i left files name bytes lent last at limit n s o x read size exact = exact ∙ node-stored i left lent s (node-taken bytes lent at n s left read size x.stands) x.set x.some x.short

-- ---- tests

both : (a b : Bool) → (a && b) ≡ true → (a ≡ true) × (b ≡ true)
both true true e = (refl, refl)
both true false e = absurd cc
both false b e = absurd cc

all-true : (a b : Bool) → a ≡ true → b ≡ true → (a && b) ≡ true
all-true true true e f = refl
all-true true false e f = absurd cc
all-true false b e f = absurd cc

never : true ≡ false → ⊥
never e = cc

pub leaf-is : (left n size : ℕ) → (left == 0 && 12 + 8 * n == size) ≡ true → 12 + 8 * n ≡ size
leaf-is left n size e = (let t : (12 + 8 * n == size) ≡ true = (both (left == 0) (12 + 8 * n == size) e).1 in grind (arith, nat_tests))

pub leaf-not : (left n size : ℕ) → (left == 0 && 12 + 8 * n == size) ≡ false → left ≡ 0 → 12 + 8 * n ≡ size → ⊥
leaf-not left n size e none is =
    let t : (left == 0) ≡ true = grind (arith, nat_tests) in
    let u : (12 + 8 * n == size) ≡ true = grind (arith, nat_tests) in
    never (sym (all-true (left == 0) (12 + 8 * n == size) t u) ∙ e)

pub size-is : (size : ℕ) → (leb 20 size && size % 8 == 4) ≡ true → (20 ≤ size) × (size % 8 ≡ 4)
size-is size e =
    let t : leb 20 size ≡ true = (both (leb 20 size) (size % 8 == 4) e).0 in
    let u : (size % 8 == 4) ≡ true = (both (leb 20 size) (size % 8 == 4) e).1 in
    (grind (arith, nat_tests), grind (arith, nat_tests))

pub size-not : (size : ℕ) → (leb 20 size && size % 8 == 4) ≡ false → 20 ≤ size → size % 8 ≡ 4 → ⊥
size-not size e some is =
    let t : leb 20 size ≡ true = grind (arith, nat_tests) in
    let u : (size % 8 == 4) ≡ true = grind (arith, nat_tests) in
    never (sym (all-true (leb 20 size) (size % 8 == 4) t u) ∙ e)

-- ---- twenty bytes, and the rest

module _ (a b c : Numbers) (first : PullsAtMost 20 a b) where
  pub begun-most : (at limit : ℕ) (r : Result Probe CursorFault) → IfOk r (λ p. (20 ≤ p.size) × (at + p.size ≤ limit)) → IfOk r (λ p. PullsAtMost (p.size - 20) b c) → IfOk r (λ p. PullsAtMost p.size a c)
  begun-most at limit (Ok p) within rest = (let some = within.0 in PullsAtMost-more (20 + (p.size - 20)) p.size a c (omega (arith, some)) (PullsAtMost-trans 20 (p.size - 20) a b c first rest))
  begun-most at limit (Err e) within rest = tt

  pub begun-few : (r : Result Probe CursorFault) → IfOk r (λ p. PullsAtMost (8 + 8 * searched ((p.size - 12) / 8)) b c) → IfOk r (λ p. PullsAtMost (28 + 8 * searched ((p.size - 12) / 8)) a c)
  begun-few (Ok p) rest =
      let n = searched ((p.size - 12) / 8) in
      PullsAtMost-more (20 + (8 + 8 * n)) (28 + 8 * n) a c (omega arith) (PullsAtMost-trans 20 (8 + 8 * n) a b c first rest)
  begun-few (Err e) rest = tt

-- the number in front of the bytes
pub count-is : (bytes : List ℕ) (n behind : ℕ) → ◌≡◌ {A = Option (ℕ × List ℕ)} (Some (n, drop behind bytes)) (number_at w32 bytes) → (behind ≡ 4) × (behind ≤ length bytes) → number_at w32 bytes ≡ Some (n, drop 4 bytes)
count-is bytes n behind read next = sym read ∙ ap (λ (k : ℕ). Some (n, drop k bytes)) next.0
