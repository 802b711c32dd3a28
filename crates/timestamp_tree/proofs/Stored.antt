-- The bytes of a stored node, of which some stand before others.
use Rattle.std.proofs.Common.{◌≡◌, ℕ, zero, suc, ◌+◌, ◌*◌, ◌<◌, ◌≤◌, false, ltb, List, [], ◌∷◌, ◌++◌, length, take, drop, Option, Some, None, refl, sym, ap, subst, ◌∙◌, arith}
use Rattle.std.specs.Int.{Width, w32, w64, byte_len, from_be_bytes}
use Rattle.std.proofs.lemmas.Bool.{le-ltb}
use Rattle.std.proofs.lemmas.List.{take-append-le, drop-append-le, take-append-drop, drop-drop, length-drop, length-append, length-take, take-take}
use Rattle.xa_fields.specs.Reading.{◌>>=◌, number_at, both_at, chain_at, chained_at}
use Rattle.xa_fields.specs.FieldLaws.{bind_some, none_unless, number_sizes, some_is}
use Rattle.timestamp_tree.specs.Bytes.{stored}
use Rattle.timestamp_tree.specs.Reading.{pair_at, next_pair, set_at, stored_at}
use Rattle.timestamp_tree.specs.Nodes.{parts_at}
use Rattle.timestamp_tree.proofs.Trees.{length-set_bytes, length-stored}

-- ---- how many bytes are read

pair_sizes : (bytes : List ℕ) (x : (ℕ × ℕ) × List ℕ) → pair_at bytes ≡ Some x → (8 ≤ length bytes) × (x.1 ≡ drop 8 bytes)
unfolding both_at
pair_sizes bytes x e =
    let a = bind_some (number_at w32 bytes) (λ a. number_at w32 a.1 >>= λ b. Some ((a.0, b.0), b.1)) x e in
    let b = bind_some (number_at w32 a.0.1) (λ b. Some ((a.0.0, b.0), b.1)) x a.2 in
    let first = number_sizes w32 bytes a.0 a.1 in
    let second = number_sizes w32 a.0.1 b.0 b.1 in
    let long = first.0 in
    let more = second.0 in
    let left = ap length first.1 ∙ length-drop 4 bytes in
    let same : b.0.1 ≡ x.1 = ap (λ (y : (ℕ × ℕ) × List ℕ). y.1) (some_is ((a.0.0, b.0.0), b.0.1) x b.2) in
    (omega arith, sym same ∙ second.1 ∙ ap (drop 4) first.1 ∙ drop-drop 4 4 bytes)

-- so many intervals of eight bytes
pub record Sized (n : ℕ) (bytes : List ℕ) (x : List (ℕ × ℕ) × List ℕ) : Type 0 where
  pub count : length x.0 ≡ n
  pub long : 8 * n ≤ length bytes
  pub rest : x.1 ≡ drop (8 * n) bytes

pub chain_sizes : (next : ℕ → ℕ × ℕ → Option ℕ) (low n : ℕ) (bytes : List ℕ) (x : List (ℕ × ℕ) × List ℕ) → chain_at pair_at next low n bytes ≡ Some x → Sized n bytes x
unfolding chain_at
chain_sizes next low zero bytes x e = subst (λ (y : List (ℕ × ℕ) × List ℕ). Sized 0 bytes y) (some_is ([], bytes) x e) (record { count = refl; long = omega arith; rest = refl })
chain_sizes next low (suc n) bytes x e =
    let a = bind_some (pair_at bytes) (λ first. next low first.0 >>= λ t. chain_at pair_at next t n first.1 >>= λ others. Some (first.0 ∷ others.0, others.1)) x e in
    let t = bind_some (next low a.0.0) (λ t. chain_at pair_at next t n a.0.1 >>= λ others. Some (a.0.0 ∷ others.0, others.1)) x a.2 in
    let b = bind_some (chain_at pair_at next t.0 n a.0.1) (λ others. Some (a.0.0 ∷ others.0, others.1)) x t.2 in
    let first = pair_sizes bytes a.0 a.1 in
    let others = chain_sizes next t.0 n a.0.1 b.0 b.1 in
    let enough = first.0 in
    let more = others.long in
    let left = ap length first.1 ∙ length-drop 8 bytes in
    let all : 8 * n + 8 ≡ 8 * suc n = omega arith in
    subst (λ (y : List (ℕ × ℕ) × List ℕ). Sized (suc n) bytes y) (some_is (a.0.0 ∷ b.0.0, b.0.1) x b.2) (record {
      count = ap suc others.count;
      long = omega (arith, enough, more, left);
      rest = others.rest ∙ ap (drop (8 * n)) first.1 ∙ drop-drop (8 * n) 8 bytes ∙ ap (λ (k : ℕ). drop k bytes) (omega arith);
    })

-- the intervals, and eight bytes
pub record Whole (n : ℕ) (bytes : List ℕ) (x : (List (ℕ × ℕ) × ℕ) × List ℕ) : Type 0 where
  pub count : length x.0.0 ≡ n
  pub long : 8 * n + 8 ≤ length bytes
  pub rest : x.1 ≡ drop (8 * n + 8) bytes

pub parts_sizes : (most n : ℕ) (bytes : List ℕ) (x : (List (ℕ × ℕ) × ℕ) × List ℕ) → parts_at most n bytes ≡ Some x → Whole n bytes x
unfolding both_at
parts_sizes most n bytes x e =
    let a = bind_some (chain_at pair_at (next_pair most) 1 n bytes) (λ a. number_at w64 a.1 >>= λ b. Some ((a.0, b.0), b.1)) x e in
    let b = bind_some (number_at w64 a.0.1) (λ b. Some ((a.0.0, b.0), b.1)) x a.2 in
    let pairs = chain_sizes (next_pair most) 1 n bytes a.0 a.1 in
    let left = number_sizes w64 a.0.1 b.0 b.1 in
    let enough = pairs.long in
    let more = left.0 in
    let size = ap length pairs.rest ∙ length-drop (8 * n) bytes in
    subst (λ (y : (List (ℕ × ℕ) × ℕ) × List ℕ). Whole n bytes y) (some_is ((a.0.0, b.0.0), b.0.1) x b.2) (record {
      count = pairs.count;
      long = omega (arith, enough, more, size);
      rest = left.1 ∙ ap (drop 8) pairs.rest ∙ drop-drop 8 (8 * n) bytes;
    })

-- too few bytes for so many intervals and eight bytes
pub too_few_parts : (most n : ℕ) (bytes : List ℕ) → length bytes < 8 * n + 8 → parts_at most n bytes ≡ None
too_few_parts most n bytes lt = none_unless (parts_at most n bytes) (λ x e. (let long = (parts_sizes most n bytes x e).long in omega arith))

-- ---- a node and the number of its intervals

-- the rest of a node, whose number of intervals was read
pub stored_is : (most n : ℕ) (piece : List ℕ) → number_at w32 piece ≡ Some (n, drop 4 piece) → stored_at most piece ≡ parts_at most n (drop 4 piece)
unfolding both_at chained_at
stored_is most n piece e = rw e refl

-- how long the node is that stands at the front of the piece
pub record Standing (piece : List ℕ) (x : (List (ℕ × ℕ) × ℕ) × List ℕ) : Type 0 where
  pub count : number_at w32 piece ≡ Some (length x.0.0, drop 4 piece)
  pub long : 12 + 8 * length x.0.0 ≤ length piece

pub stored_sizes : (most : ℕ) (piece : List ℕ) (x : (List (ℕ × ℕ) × ℕ) × List ℕ) → stored_at most piece ≡ Some x → Standing piece x
unfolding both_at chained_at
stored_sizes most piece x e =
    let a = bind_some (set_at most piece) (λ a. number_at w64 a.1 >>= λ b. Some ((a.0, b.0), b.1)) x e in
    let n = bind_some (number_at w32 piece) (λ n. chain_at pair_at (next_pair most) 1 n.0 n.1) a.0 a.1 in
    let four = number_sizes w32 piece n.0 n.1 in
    let is : number_at w32 piece ≡ Some (n.0.0, drop 4 piece) = n.1 ∙ ap (λ (rest : List ℕ). Some (n.0.0, rest)) four.1 in
    let parts = parts_sizes most n.0.0 (drop 4 piece) x (sym (stored_is most n.0.0 piece is) ∙ e) in
    let enough = four.0 in
    let long = parts.long in
    let count = parts.count in
    let left = length-drop 4 piece in
    record { count = is ∙ ap (λ (k : ℕ). Some (k, drop 4 piece)) (sym count); long = omega arith }

pub too_few : (most : ℕ) (piece : List ℕ) → length piece < 12 → stored_at most piece ≡ None
too_few most piece lt = none_unless (stored_at most piece) (λ x e. (let long = (stored_sizes most piece x e).long in omega arith))

pub too_short : (most n : ℕ) (piece : List ℕ) → number_at w32 piece ≡ Some (n, drop 4 piece) → length piece < 12 + 8 * n → stored_at most piece ≡ None
too_short most n piece e lt = none_unless (stored_at most piece) (λ x h. (
    let s = stored_sizes most piece x h in
    let long = s.long in
    let same : n ≡ length x.0.0 = ap (λ (y : ℕ × List ℕ). y.0) (some_is (n, drop 4 piece) (length x.0.0, drop 4 piece) (sym e ∙ s.count)) in
    omega arith))

-- ---- bytes behind what is read

abbrev with_rest : {A : Type 0} → List ℕ → Option (A × List ℕ) → Option (A × List ℕ)
with_rest rest (Some x) = Some (x.0, x.1 ++ rest)
with_rest rest None = None

number_is : (w : Width) (body : List ℕ) → byte_len w ≤ length body → number_at w body ≡ Some (from_be_bytes w (take (byte_len w) body), drop (byte_len w) body)
number_is w body le = (let long : ltb (length body) (byte_len w) ≡ false = le-ltb _ _ le in rw long refl)

number_past : (w : Width) (body rest : List ℕ) → byte_len w ≤ length body → number_at w (body ++ rest) ≡ Some (from_be_bytes w (take (byte_len w) body), drop (byte_len w) body ++ rest)
number_past w body rest le =
    number_is w (body ++ rest) (omega (arith, length-append body rest)) ∙ (λ i. Some (from_be_bytes w (take-append-le (byte_len w) body rest le i), drop-append-le (byte_len w) body rest le i))

abbrev pair_of : List ℕ → ℕ × ℕ
pair_of body = (from_be_bytes w32 (take 4 body), from_be_bytes w32 (take 4 (drop 4 body)))

pair_past : (body rest : List ℕ) → 8 ≤ length body → pair_at (body ++ rest) ≡ Some (pair_of body, drop 8 body ++ rest)
unfolding both_at
pair_past body rest le =
    let more : 4 ≤ length (drop 4 body) = omega (arith, length-drop 4 body) in
    let first = number_past w32 body rest (omega arith) in
    let second = number_past w32 (drop 4 body) rest more in
    rw (first, second) (ap (λ (bs : List ℕ). Some (pair_of body, bs ++ rest)) (drop-drop 4 4 body))

pair_is : (body : List ℕ) → 8 ≤ length body → pair_at body ≡ Some (pair_of body, drop 8 body)
unfolding both_at
pair_is body le =
    let more : 4 ≤ length (drop 4 body) = omega (arith, length-drop 4 body) in
    let first = number_is w32 body (omega arith) in
    let second = number_is w32 (drop 4 body) more in
    rw (first, second) (ap (λ (bs : List ℕ). Some (pair_of body, bs)) (drop-drop 4 4 body))

one_more : (p : ℕ × ℕ) (rest : List ℕ) (read : Option (List (ℕ × ℕ) × List ℕ)) → (with_rest rest read >>= λ others. Some (p ∷ others.0, others.1)) ≡ with_rest rest (read >>= λ others. Some (p ∷ others.0, others.1))
one_more p rest (Some x) = refl
one_more p rest None = refl

follow : (p : ℕ × ℕ) (rest : List ℕ) (o : Option ℕ) (long short : ℕ → Option (List (ℕ × ℕ) × List ℕ)) → ((t : ℕ) → long t ≡ with_rest rest (short t))
    → (o >>= λ t. long t >>= λ others. Some (p ∷ others.0, others.1)) ≡ with_rest rest (o >>= λ t. short t >>= λ others. Some (p ∷ others.0, others.1))
follow p rest (Some t) long short h = ap (λ (r : Option (List (ℕ × ℕ) × List ℕ)). r >>= λ others. Some (p ∷ others.0, others.1)) (h t) ∙ one_more p rest (short t)
follow p rest None long short h = refl

chain_past : (next : ℕ → ℕ × ℕ → Option ℕ) (low n : ℕ) (body rest : List ℕ) → 8 * n ≤ length body → chain_at pair_at next low n (body ++ rest) ≡ with_rest rest (chain_at pair_at next low n body)
unfolding chain_at
chain_past next low zero body rest le = refl
chain_past next low (suc n) body rest le =
    let here = pair_is body (omega arith) in
    let past = pair_past body rest (omega arith) in
    rw (here, past) (follow (pair_of body) rest (next low (pair_of body)) (λ t. chain_at pair_at next t n (drop 8 body ++ rest)) (λ t. chain_at pair_at next t n (drop 8 body)) (λ t. chain_past next t n (drop 8 body) rest (omega (arith, length-drop 8 body))))

-- ---- what a buffer has of a piece

-- the number of intervals
pub count_is : (piece front rest : List ℕ) (n : ℕ) → 4 ≤ length piece → front ≡ take 4 piece → Some (n, rest) ≡ number_at w32 front → number_at w32 piece ≡ Some (n, drop 4 piece)
count_is piece front rest n le e h =
    let size : length (take 4 piece) ≡ 4 = omega (arith, length-take 4 piece) in
    let short = number_is w32 (take 4 piece) (omega arith) in
    let same : n ≡ from_be_bytes w32 (take 4 (take 4 piece)) = ap (λ (y : ℕ × List ℕ). y.0) (some_is (n, rest) (from_be_bytes w32 (take 4 (take 4 piece)), drop 4 (take 4 piece)) (h ∙ ap (number_at w32) e ∙ short)) in
    number_is w32 piece le ∙ ap (λ (k : ℕ). Some (k, drop 4 piece)) (sym (same ∙ ap (from_be_bytes w32) (take-take 4 4 piece (omega arith))))

whole_piece : (k : ℕ) (body piece : List ℕ) → body ≡ take k piece → piece ≡ body ++ drop k piece
whole_piece k body piece e = sym (take-append-drop k piece) ∙ ap (λ (bs : List ℕ). bs ++ drop k piece) (sym e)

-- no intervals of a set
no_pairs : (most n : ℕ) (body rest : List ℕ) → length body ≡ 8 * n + 8 → None ≡ chain_at pair_at (next_pair most) 1 n body → parts_at most n (body ++ rest) ≡ None
unfolding both_at
no_pairs most n body rest size e =
    let none : chain_at pair_at (next_pair most) 1 n (body ++ rest) ≡ None = chain_past (next_pair most) 1 n body rest (omega arith) ∙ ap (with_rest rest) (sym e) in
    rw none refl

-- the intervals, and the byte size of the left part behind them
pairs_then : (most n left at : ℕ) (body rest behind : List ℕ) (s : List (ℕ × ℕ)) → length body ≡ 8 * n + 8 → Some (s, drop at body) ≡ chain_at pair_at (next_pair most) 1 n body → Some (left, behind) ≡ number_at w64 (drop at body)
    → parts_at most n (body ++ rest) ≡ Some ((s, left), rest)
unfolding both_at
pairs_then most n left at body rest behind s size e h =
    let pairs : chain_at pair_at (next_pair most) 1 n (body ++ rest) ≡ Some (s, drop at body ++ rest) = chain_past (next_pair most) 1 n body rest (omega arith) ∙ ap (with_rest rest) (sym e) in
    let sizes = chain_sizes (next_pair most) 1 n body (s, drop at body) (sym e) in
    let eight : length (drop at body) ≡ 8 = ap length sizes.rest ∙ length-drop (8 * n) body ∙ omega arith in
    let here = number_is w64 (drop at body) (omega (arith, eight)) in
    let past = number_past w64 (drop at body) rest (omega (arith, eight)) in
    let same : left ≡ from_be_bytes w64 (take 8 (drop at body)) = ap (λ (y : ℕ × List ℕ). y.0) (some_is (left, behind) (from_be_bytes w64 (take 8 (drop at body)), drop 8 (drop at body)) (h ∙ here)) in
    let none : drop 8 (drop at body) ≡ [] = nothing (drop 8 (drop at body)) (omega (arith, length-drop 8 (drop at body), eight)) in
    rw (pairs, past) (λ i. Some ((s, sym same i), none i ++ rest))
  where
    nothing : (xs : List ℕ) → length xs ≡ 0 → xs ≡ []
    nothing [] f = refl
    nothing (x ∷ xs) f = absurd (omega (arith, f))

pub no_parts : (most n : ℕ) (body piece : List ℕ) → length body ≡ 8 * n + 8 → body ≡ take (8 * n + 8) piece → None ≡ chain_at pair_at (next_pair most) 1 n body → parts_at most n piece ≡ None
no_parts most n body piece size e h = ap (parts_at most n) (whole_piece (8 * n + 8) body piece e) ∙ no_pairs most n body (drop (8 * n + 8) piece) size h

pub parts_are : (most n left at : ℕ) (body piece behind : List ℕ) (s : List (ℕ × ℕ)) → length body ≡ 8 * n + 8 → body ≡ take (8 * n + 8) piece → Some (s, drop at body) ≡ chain_at pair_at (next_pair most) 1 n body → Some (left, behind) ≡ number_at w64 (drop at body)
    → parts_at most n piece ≡ Some ((s, left), drop (8 * n + 8) piece)
parts_are most n left at body piece behind s size e h k = ap (parts_at most n) (whole_piece (8 * n + 8) body piece e) ∙ pairs_then most n left at body (drop (8 * n + 8) piece) behind s size h k

-- eight bytes stand behind the intervals
pub eight_behind : (most n at : ℕ) (body : List ℕ) (s : List (ℕ × ℕ)) → length body ≡ 8 * n + 8 → Some (s, drop at body) ≡ chain_at pair_at (next_pair most) 1 n body → (length (drop at body) ≡ 8) × (length s ≡ n)
eight_behind most n at body s size e =
    let sizes = chain_sizes (next_pair most) 1 n body (s, drop at body) (sym e) in
    (ap length sizes.rest ∙ length-drop (8 * n) body ∙ omega arith, sizes.count)

pub size_is : (s : List (ℕ × ℕ)) (left : ℕ) → 12 + 8 * length s ≡ length (stored s left)
size_is s left = omega (arith, length-set_bytes s, length-stored s left)
