-- The sets of kids, from the last to the first.
use Rattle.std.proofs.Common.{◌≡◌, ℕ, zero, suc, ◌+◌, ◌-◌, ◌<◌, ◌≤◌, List, [], ◌∷◌, ◌++◌, length, take, drop, replicate, Some, None, refl, sym, ap, ◌∙◌, append_assoc, length-drop, drop-drop, arith}
use Rattle.std.specs.Int.{div_ceil}
use Rattle.std.proofs.lemmas.List.{length-append, length-map, length-replicate, length-take-le, map-append, take_at, drop_at, drop-take, take-take}
use Rattle.version_set.specs.Members.{united}
use Rattle.archive_tree.specs.Data.{Stamp}
use Rattle.timestamp_tree.specs.Bytes.{stored, tree_bytes}
use Rattle.timestamp_tree.specs.Data.{PlainTs, top}
use Rattle.timestamp_tree.specs.Tree.{half, joined, tree_of}
use Rattle.timestamp_tree.proofs.Reversed.{tree_of_halves}
use Rattle.record_format.specs.Nodes.{set_in}
use Rattle.record_format.specs.Spelling.{sets_bytes}
use Rattle.row_ends.specs.Kids.{stamps_in, sets_in}

abbrev pub Set : Type 0
Set = List (ℕ × ℕ)

-- ---- stamps

none-more : (n : ℕ) → ◌≡◌ {A = List Stamp} (replicate (suc n) None) (replicate n None ++ None ∷ [])
none-more zero = refl
none-more (suc n) = ap (λ (ss : List Stamp). None ∷ ss) (none-more n)

-- one more inherits
pub stamps-more : (ss : List (ℕ × Set)) (n : ℕ) → stamps_in ss (suc n) ≡ stamps_in ss n ++ None ∷ []
stamps-more [] n = none-more n
stamps-more (s ∷ ss) n =
    ap (λ (us : List Stamp). replicate s.0 None ++ Some s.1 ∷ us) (stamps-more ss n) ∙ sym (append_assoc (replicate s.0 None) (Some s.1 ∷ stamps_in ss n) (None ∷ []))

-- one more stores its set
pub stamps-stored : (ss : List (ℕ × Set)) (n : ℕ) (set : Set) → stamps_in (ss ++ (n, set) ∷ []) 0 ≡ stamps_in ss n ++ Some set ∷ []
stamps-stored [] n set = refl
stamps-stored (s ∷ ss) n set =
    ap (λ (us : List Stamp). replicate s.0 None ++ Some s.1 ∷ us) (stamps-stored ss n set) ∙ sym (append_assoc (replicate s.0 None) (Some s.1 ∷ stamps_in ss n) (Some set ∷ []))

-- no more inherit at the end than there are
pub inheriting-within : (ss : List (ℕ × Set)) (n : ℕ) → n ≤ length (stamps_in ss n)
inheriting-within [] n = omega (arith, length-replicate {A = Stamp} n None)
inheriting-within (s ∷ ss) n = omega (arith, inheriting-within ss n, length-append (replicate {A = Stamp} s.0 None) (Some s.1 ∷ stamps_in ss n))

pub no-stamps : (ss : List (ℕ × Set)) (n : ℕ) (row : Set) → length ss ≡ 0 → n ≤ 0 → length (sets_in row (stamps_in ss n)) ≡ 0
no-stamps [] n row none e = omega (arith, e, length-map (replicate {A = Stamp} n None) (λ s. set_in s row), length-replicate {A = Stamp} n None)
no-stamps (s ∷ ss) n row none e = absurd (omega (arith, none))

-- ---- the last set

pub last-inherits : (row : Set) (ss : List (ℕ × Set)) (n m : ℕ) → n ≡ suc m → sets_in row (stamps_in ss n) ≡ sets_in row (stamps_in ss m) ++ row ∷ []
last-inherits row ss n m is = ap (λ (k : ℕ). sets_in row (stamps_in ss k)) is ∙ ap (sets_in row) (stamps-more ss m) ∙ map-append _ (stamps_in ss m) (None ∷ [])

pub last-stored : (row : Set) (all ss : List (ℕ × Set)) (n m : ℕ) (set : Set) → all ≡ ss ++ (m, set) ∷ [] → n ≡ 0 → sets_in row (stamps_in all n) ≡ sets_in row (stamps_in ss m) ++ set ∷ []
last-stored row all ss n m set is none =
    (λ i. sets_in row (stamps_in (is i) (none i))) ∙ ap (sets_in row) (stamps-stored ss m set) ∙ map-append _ (stamps_in ss m) (Some set ∷ [])

-- ---- trees over the last sets

pub one-left : (all front : List Set) (set : Set) → all ≡ front ++ set ∷ [] → take (length all - 1) all ≡ front
one-left all front set is =
    let size : length all - 1 ≡ length front = omega (arith, ap length is, length-append front (set ∷ [])) in
    ap (take (length all - 1)) is ∙ take_at front (set ∷ []) (length all - 1) (sym size)

pub one-last : (all front : List Set) (set : Set) → all ≡ front ++ set ∷ [] → drop (length all - 1) all ≡ set ∷ []
one-last all front set is =
    let size : length all - 1 ≡ length front = omega (arith, ap length is, length-append front (set ∷ [])) in
    ap (drop (length all - 1)) is ∙ drop_at front (set ∷ []) (length all - 1) (sym size)

pub one-bytes : (all front : List Set) (set : Set) (k : ℕ) → k ≡ 1 → all ≡ front ++ set ∷ [] → stored set 0 ≡ tree_bytes (tree_of (drop (length all - k) all))
one-bytes all front set k one is = sym (ap (λ (n : ℕ). tree_bytes (tree_of (drop (length all - n) all))) one ∙ ap (λ (ss : List Set). tree_bytes (tree_of ss)) (one-last all front set is))

pub one-top : (all front : List Set) (set : Set) (k : ℕ) → k ≡ 1 → all ≡ front ++ set ∷ [] → set ≡ top (tree_of (drop (length all - k) all))
one-top all front set k one is = sym (ap (λ (n : ℕ). top (tree_of (drop (length all - n) all))) one ∙ ap (λ (ss : List Set). top (tree_of ss)) (one-last all front set is))

-- the tree over all sets
pub all-sets : (all : List Set) (k : ℕ) → k ≡ length all → 0 < k → tree_bytes (tree_of (drop (length all - k) all)) ≡ sets_bytes all
all-sets [] k is some = absurd (omega (arith, is, some))
all-sets (s ∷ ss) k is some =
    let none : length (s ∷ ss) - k ≡ 0 = omega (arith, is) in
    ap (λ (n : ℕ). tree_bytes (tree_of (drop n (s ∷ ss)))) none

pub no-sets : (all : List Set) → length all ≡ 0 → [] ≡ sets_bytes all
no-sets [] e = refl
no-sets (s ∷ ss) e = absurd (omega (arith, e))

-- of the last k sets, those of the right part are taken first, and then those of the left part
module _ (all : List Set) (k front : ℕ) (many : 1 < k) (fits : k ≤ length all) (is : front ≡ div_ceil k 2) where
  abbrev pub behind : ℕ
  behind = k - front

  abbrev pub rest : List Set
  rest = take (length all - behind) all

  abbrev pub sets : List Set
  sets = drop (length all - k) all

  pub rest-size : length rest ≡ length all - behind
  rest-size = length-take-le (length all - behind) all (omega arith)

  count : length sets ≡ k
  count = length-drop (length all - k) all ∙ omega (arith, fits)

  pub left-sets : drop (length rest - front) rest ≡ take front sets
  left-sets =
      let from : length rest - front ≡ length all - k = omega (arith, rest-size, is, many, fits) in
      let sum : length all - behind ≡ (length all - k) + front = omega (arith, is, many, fits) in
      ap (λ (n : ℕ). drop n rest) from ∙ ap (λ (n : ℕ). drop (length all - k) (take n all)) sum ∙ drop-take (length all - k) front all

  pub right-sets : drop (length all - behind) all ≡ drop front sets
  right-sets =
      let sum : length all - behind ≡ (length all - k) + front = omega (arith, is, many, fits) in
      ap (λ (n : ℕ). drop n all) sum ∙ sym (drop-drop front (length all - k) all)

  pub both-left : take (length rest - front) rest ≡ take (length all - k) all
  both-left =
      let from : length rest - front ≡ length all - k = omega (arith, rest-size, is, many, fits) in
      ap (λ (n : ℕ). take n rest) from ∙ take-take (length all - k) (length all - behind) all (omega (arith, is, many, fits))

  abbrev pub left : PlainTs
  left = tree_of (drop (length rest - front) rest)

  abbrev pub right : PlainTs
  right = tree_of (drop (length all - behind) all)

  pub parted : tree_of sets ≡ joined left right
  parted =
      let at : half (length sets) ≡ front = ap half count ∙ omega (arith, is) in
      tree_of_halves sets (omega (arith, count, many))
      ∙ (λ i. joined (tree_of (take (at i) sets)) (tree_of (drop (at i) sets)))
      ∙ (λ i. joined (tree_of (sym left-sets i)) (tree_of (sym right-sets i)))

  pub parted-top : united (top left) (top right) ≡ top (tree_of sets)
  parted-top = sym (ap top parted)

  pub parted-bytes : (size : ℕ) → size ≡ length (tree_bytes left) → stored (united (top left) (top right)) size ++ (tree_bytes left ++ tree_bytes right) ≡ tree_bytes (tree_of sets)
  parted-bytes size e = ap (λ (n : ℕ). stored (united (top left) (top right)) n ++ (tree_bytes left ++ tree_bytes right)) e ∙ sym (ap tree_bytes parted)
