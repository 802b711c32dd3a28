-- What the bytes of a node say of a number.
use Rattle.std.proofs.Common.{◌≡◌, ℕ, ◌+◌, ◌*◌, ◌<◌, ◌≤◌, Bool, true, ltb, List, [], ◌∷◌, ◌++◌, length, take, take_all, drop, Option, Some, None, Result, Ok, Err, refl, sym, ap, ◌∙◌, arith}
use Rattle.std.specs.Prelude.{if◌then◌else◌, nat_lt}
use Rattle.std.specs.Int.{w32, w64}
use Rattle.std.specs.Option.{option_map}
use Rattle.std.proofs.lemmas.Bool.Decides.{nat_tests}
use Rattle.std.proofs.lemmas.List.{append-nil, drop-drop, drop-take, length-drop, take-append-drop, take-append-le, take-take}
use Rattle.version_set.specs.Members.{members, has}
use Rattle.xa_fields.specs.Reading.{number_at, chain_at, only_at}
use Rattle.xa_fields.specs.FieldLaws.{bind_some, none_unless, passed_some, some_is}
use Rattle.timestamp_tree.specs.Reading.{pair_at, next_pair, stored_at, some_stored_at}
use Rattle.timestamp_tree.specs.Bytes.{stored}
use Rattle.timestamp_tree.specs.Nodes.{IfDamage, TellsBytes}
use Rattle.timestamp_tree.specs.Probes.{said_of}
use Rattle.timestamp_tree.specs.declared.fault.NodeFault.{NodeFault}
use Rattle.timestamp_tree.proofs.Pieces.{count_stands, damage_map}
use Rattle.timestamp_tree.proofs.Stored.{chain_sizes, stored_is, stored_sizes, no_parts, parts_are, size_is, too_short}

-- ---- nodes of sets that are not empty

pub some_stands : (most : ℕ) (piece : List ℕ) (x : (List (ℕ × ℕ) × ℕ) × List ℕ) → some_stored_at most piece ≡ Some x → (stored_at most piece ≡ Some x) × (1 ≤ length x.0.0)
unfolding only_at
some_stands most piece x e =
    let a = bind_some (stored_at most piece) (λ a. if nat_lt 0 (length a.0.0) then Some a else None) x e in
    let b = passed_some (nat_lt 0 (length a.0.0.0)) a.0 x a.2 in
    let test : ltb 0 (length a.0.0.0) ≡ true = b.0 in
    let some : 0 < length a.0.0.0 = grind (arith, nat_tests) in
    let same : length a.0.0.0 ≡ length x.0.0 = ap (λ (y : (List (ℕ × ℕ) × ℕ) × List ℕ). length y.0.0) b.1 in
    (a.1 ∙ ap (λ (y : (List (ℕ × ℕ) × ℕ) × List ℕ). Some y) b.1, omega (arith, some, same))

pub none_stands : (most : ℕ) (piece : List ℕ) → stored_at most piece ≡ None → some_stored_at most piece ≡ None
unfolding only_at
none_stands most piece e = rw e refl

-- a node of no interval
pub empty_stands : (most : ℕ) (piece : List ℕ) → number_at w32 piece ≡ Some (0, drop 4 piece) → some_stored_at most piece ≡ None
empty_stands most piece count = none_unless (some_stored_at most piece) (λ x e. (
    let stands = some_stands most piece x e in
    let same = count_stands most 0 piece x.1 x.0.0 x.0.1 count stands.0 in
    let some = stands.1 in
    omega arith))

-- so many intervals has the node that stands there
pub some_count : (most n : ℕ) (piece rest : List ℕ) (s : List (ℕ × ℕ)) (left : ℕ) → number_at w32 piece ≡ Some (n, drop 4 piece) → some_stored_at most piece ≡ Some ((s, left), rest) → n ≡ length s
some_count most n piece rest s left count stands = count_stands most n piece rest s left count (some_stands most piece ((s, left), rest) stands).0

pub some_long : (most : ℕ) (piece rest : List ℕ) (s : List (ℕ × ℕ)) (left : ℕ) → some_stored_at most piece ≡ Some ((s, left), rest) → 1 ≤ length s
some_long most piece rest s left stands = (some_stands most piece ((s, left), rest) stands).1

-- where no node stands, none of such a set does
pub damage_some : (most : ℕ) (piece : List ℕ) (e : NodeFault) → IfDamage e ((most : ℕ) → stored_at most piece ≡ None) → IfDamage e (some_stored_at most piece ≡ None)
damage_some most piece e = damage_map e _ _ (λ none. none_stands most piece (none most))

-- ---- the bytes of a node

-- the first four of twenty bytes
pub first_four : (front piece : List ℕ) → front ≡ take 20 piece → take 4 front ≡ take 4 piece
first_four front piece e = ap (take 4) e ∙ take-take 4 20 piece (omega arith)

-- behind the number of intervals
body_of : (n : ℕ) (node piece : List ℕ) → node ≡ take (12 + 8 * n) piece → drop 4 node ≡ take (8 * n + 8) (drop 4 piece)
body_of n node piece e =
    let size : 12 + 8 * n ≡ 4 + (8 * n + 8) = omega arith in
    ap (drop 4) e ∙ ap (λ (k : ℕ). drop 4 (take k piece)) size ∙ drop-take 4 (8 * n + 8) piece

-- ---- what they say

mapped : {A B : Type 0} (f : A → B) (o : Option A) (y : B) → Some y ≡ option_map f o → (x : A) × (o ≡ Some x) × (y ≡ f x)
mapped f (Some x) y e = (x, refl, some_is y (f x) e)
mapped f None y e = absurd cc

unmapped : {A B : Type 0} (f : A → B) (o : Option A) → ◌≡◌ {A = Option B} None (option_map f o) → ◌≡◌ {A = Option A} None o
unmapped f (Some x) e = absurd cc
unmapped f None e = refl

abbrev pub among : ℕ → List (ℕ × ℕ) × List ℕ → Bool
among i x = has (members x.0) i

pub node_unsaid : (most n i : ℕ) (node piece : List ℕ) → length node ≡ 12 + 8 * n → node ≡ take (12 + 8 * n) piece → number_at w32 piece ≡ Some (n, drop 4 piece) → ◌≡◌ {A = Option Bool} None (option_map (among i) (chain_at pair_at (next_pair most) 1 n (drop 4 node)))
    → some_stored_at most piece ≡ None
node_unsaid most n i node piece size e count none =
    let long : length (drop 4 node) ≡ 8 * n + 8 = omega (arith, length-drop 4 node, size) in
    none_stands most piece (stored_is most n piece count ∙ no_parts most n (drop 4 node) (drop 4 piece) long (body_of n node piece e) (unmapped (among i) (chain_at pair_at (next_pair most) 1 n (drop 4 node)) none))

-- where a node of a set that is not empty stands
pub some_is_stored : (most left : ℕ) (piece rest : List ℕ) (s : List (ℕ × ℕ)) → stored_at most piece ≡ Some ((s, left), rest) → 1 ≤ length s → some_stored_at most piece ≡ Some ((s, left), rest)
unfolding only_at
some_is_stored most left piece rest s stands some =
    let test : ltb 0 (length s) ≡ true = grind (arith, nat_tests) in
    rw (stands, test) refl

pub node_said : (most n i left : ℕ) (h : Bool) (node piece behind : List ℕ) → 1 ≤ n → length node ≡ 12 + 8 * n → node ≡ take (12 + 8 * n) piece → number_at w32 piece ≡ Some (n, drop 4 piece)
    → Some h ≡ option_map (among i) (chain_at pair_at (next_pair most) 1 n (drop 4 node)) → Some (left, behind) ≡ number_at w64 (drop (4 + 8 * n) node)
    → option_map (said_of i) (some_stored_at most piece) ≡ Some (h, left, 12 + 8 * n)
node_said most n i left h node piece behind some size e count within left_is =
    let long : length (drop 4 node) ≡ 8 * n + 8 = omega (arith, length-drop 4 node, size) in
    let read = mapped (among i) (chain_at pair_at (next_pair most) 1 n (drop 4 node)) h within in
    let s : List (ℕ × ℕ) = read.0.0 in
    let sizes = chain_sizes (next_pair most) 1 n (drop 4 node) read.0 read.1 in
    let pairs : Some (s, drop (8 * n) (drop 4 node)) ≡ chain_at pair_at (next_pair most) 1 n (drop 4 node) = ap (λ (bs : List ℕ). Some (s, bs)) (sym sizes.rest) ∙ sym read.1 in
    let last : Some (left, behind) ≡ number_at w64 (drop (8 * n) (drop 4 node)) = left_is ∙ ap (number_at w64) (sym (drop-drop (8 * n) 4 node)) in
    let parts = parts_are most n left (8 * n) (drop 4 node) (drop 4 piece) behind s long (body_of n node piece e) pairs last in
    let rest : drop (8 * n + 8) (drop 4 piece) ≡ drop (12 + 8 * n) piece = drop-drop (8 * n + 8) 4 piece ∙ ap (λ (k : ℕ). drop k piece) (omega arith) in
    let stands : stored_at most piece ≡ Some ((s, left), drop (12 + 8 * n) piece) = stored_is most n piece count ∙ parts ∙ ap (λ (bs : List ℕ). Some ((s, left), bs)) rest in
    let many : length s ≡ n = sizes.count in
    let own : length (stored s left) ≡ 12 + 8 * n = sym (size_is s left) ∙ omega (arith, many) in
    ap (option_map (said_of i)) (some_is_stored most left piece (drop (12 + 8 * n) piece) s stands (omega (arith, many, some))) ∙ (λ j. Some (sym read.2 j, left, own j))

-- ---- too few bytes

pub too_few_some : (most : ℕ) (piece : List ℕ) → length piece < 20 → some_stored_at most piece ≡ None
too_few_some most piece lt = none_unless (some_stored_at most piece) (λ x e. (
    let stands = some_stands most piece x e in
    let some = stands.1 in
    let long = (stored_sizes most piece x stands.0).long in
    omega arith))

pub damage_short : (most n : ℕ) (piece : List ℕ) (e : NodeFault) → number_at w32 piece ≡ Some (n, drop 4 piece) → IfDamage e (length piece < 12 + 8 * n) → IfDamage e (some_stored_at most piece ≡ None)
damage_short most n piece e count = damage_map e _ _ (λ lt. none_stands most piece (too_short most n piece count lt))

no_bytes : (xs : List ℕ) → length xs ≡ 0 → xs ≡ []
no_bytes [] e = refl
no_bytes (x ∷ xs) e = absurd (omega (arith, e))

take_both : (n m : ℕ) (xs : List ℕ) → take n xs ++ take m (drop n xs) ≡ take (n + m) xs
take_both n m xs = (λ i. sym (take-take n (n + m) xs (omega arith)) i ++ sym (drop-take n m xs) i) ∙ take-append-drop n (take (n + m) xs)

-- the front of a node and the bytes behind it
joined_bytes : (f d out post piece : List ℕ) (m : ℕ) → length f ≡ 20 → f ≡ take 20 piece → length post ≡ 0 → out ≡ take m (drop 20 piece) → take 20 (f ++ d) ++ (out ++ post) ≡ take (20 + m) piece
joined_bytes f d out post piece m size e none read =
    let front : take 20 (f ++ d) ≡ f = take-append-le 20 f d (omega (arith, size)) ∙ take_all 20 f (omega (arith, size)) in
    let last : out ++ post ≡ out = ap (λ (xs : List ℕ). out ++ xs) (no_bytes post none) ∙ append-nil out in
    (λ i. front i ++ last i) ∙ (λ i. e i ++ read i) ∙ take_both 20 m piece

pub whole_told : {T : Type 0} (n m at limit : ℕ) (file f d out post : List ℕ) (r : Result T NodeFault) → 20 + m ≡ n → length f ≡ 20 → f ≡ take 20 (drop at (take limit file)) → length post ≡ 0
    → TellsBytes m (drop (at + 20) (take limit file)) out r → TellsBytes n (drop at (take limit file)) (take 20 (f ++ d) ++ (out ++ post)) r
whole_told n m at limit file f d out post (Ok x) sum size e none read =
    joined_bytes f d out post (drop at (take limit file)) m size e none (read ∙ ap (take m) (sym (drop-drop 20 at (take limit file)))) ∙ ap (λ (k : ℕ). take k (drop at (take limit file))) sum
whole_told n m at limit file f d out post (Err e) sum size front none read =
    damage_map e _ _ (λ lt. omega (arith, lt, sum, length-drop at (take limit file), length-drop (at + 20) (take limit file))) read
