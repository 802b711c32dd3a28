-- Whether bytes are the same as others, compared part by part.
use Rattle.std.proofs.Common.{◌≡◌, ◌≢◌, ℕ, ◌+◌, ◌-◌, ◌<◌, ◌≤◌, true, false, List, [], ◌++◌, length, take, drop, bytes_eq, refl, sym, ap, ◌∙◌, length-drop, drop-drop, arith}
use Rattle.std.proofs.lemmas.Bool.{false_from_ne_true}
use Rattle.std.proofs.lemmas.List.{length-append, length-take, length-take-le, append_cancel_right, append-nil, drop_at}
use Rattle.std.proofs.lemmas.Slice.Eq.{bytes_eq-Decides}
use Rattle.std.proofs.Math.Seq.{take-add}
use Rattle.archive_tree.proofs.Tells.{bools}
use Rattle.row_ends.specs.Rooms.{PlainRoom, matches}

same : (xs ys : List ℕ) → xs ≡ ys → bytes_eq xs ys ≡ true
same xs ys e = (bytes_eq-Decides xs ys).1 e

are : (xs ys : List ℕ) → bytes_eq xs ys ≡ true → xs ≡ ys
are xs ys e = (bytes_eq-Decides xs ys).0 e

not-same : (xs ys : List ℕ) → xs ≢ ys → bytes_eq xs ys ≡ false
not-same xs ys h = false_from_ne_true (bytes_eq xs ys) (λ e. h (are xs ys e))

-- the parts behind are as long as one another
behind : (a b c d : List ℕ) → length b ≡ length d → a ++ b ≡ c ++ d → b ≡ d
behind a b c d long e =
    let sum : length a + length b ≡ length c + length d = sym (length-append a b) ∙ ap length e ∙ length-append c d in
    let front : length c ≡ length a = omega (arith, sum, long) in
    sym (drop_at a b (length a) refl) ∙ ap (drop (length a)) e ∙ drop_at c d (length a) front

differ-behind : (a b c d : List ℕ) → length b ≡ length d → b ≢ d → bytes_eq (a ++ b) (c ++ d) ≡ false
differ-behind a b c d long h = not-same (a ++ b) (c ++ d) (λ e. h (behind a b c d long e))

same-behind : (a c b : List ℕ) → bytes_eq (a ++ b) (c ++ b) ≡ bytes_eq a c
same-behind a c b = bools (bytes_eq (a ++ b) (c ++ b)) (bytes_eq a c) (λ e. same a c (append_cancel_right a c b (are (a ++ b) (c ++ b) e))) (λ e. same (a ++ b) (c ++ b) (ap (λ (x : List ℕ). x ++ b) (are a c e)))

-- ---- the last bytes of a piece

-- the bytes from `low` on, of which the last m are told
parted : (bytes : List ℕ) (low n m : ℕ) → take (n + m) (drop low bytes) ≡ take n (drop low bytes) ++ take m (drop (low + n) bytes)
parted bytes low n m =
    take-add n m (drop low bytes) ∙ ap (λ (x : List ℕ). take n (drop low bytes) ++ take m x) (drop-drop n low bytes)

some-left : (bytes : List ℕ) (at m : ℕ) → at + m ≤ length bytes → length (take m (drop at bytes)) ≡ m
some-left bytes at m fits = length-take-le m (drop at bytes) (omega (arith, fits, length-drop at bytes))

module _ (bytes pending : List ℕ) (low at : ℕ) (within : low + length pending ≤ at) (fits : at ≤ length bytes) where
  abbrev pub last : List ℕ
  last = take (length pending) (drop (at - length pending) bytes)

  abbrev pub rest : List ℕ
  rest = take ((at - length pending) - low) (drop low bytes)

  whole : take (at - low) (drop low bytes) ≡ rest ++ last
  whole =
      let m : ℕ = length pending in
      let sum : at - low ≡ ((at - m) - low) + m = omega (arith, within) in
      let place : low + ((at - m) - low) ≡ at - m = omega (arith, within) in
      ap (λ (n : ℕ). take n (drop low bytes)) sum ∙ parted bytes low ((at - m) - low) m ∙ ap (λ (n : ℕ). take ((at - m) - low) (drop low bytes) ++ take m (drop n bytes)) place

  long : length pending ≡ length last
  long = sym (some-left bytes (at - length pending) (length pending) (omega (arith, within, fits)))

  -- they were compared, and are the same
  pub passed : pending ≡ last → (front : List ℕ) → bytes_eq ((front ++ []) ++ pending) (take (at - low) (drop low bytes)) ≡ bytes_eq (front ++ []) rest
  passed is front =
      ap (bytes_eq ((front ++ []) ++ pending)) whole ∙ ap (λ (x : List ℕ). bytes_eq ((front ++ []) ++ x) (rest ++ last)) is ∙ same-behind (front ++ []) rest last

  -- they were compared, and are not
  pub failed : pending ≢ last → (front : List ℕ) → bytes_eq ((front ++ []) ++ pending) (take (at - low) (drop low bytes)) ≡ false
  failed h front = ap (bytes_eq ((front ++ []) ++ pending)) whole ∙ differ-behind (front ++ []) pending rest last long h

-- there is no room for so many
pub too-long : (r : PlainRoom) (bytes front text : List ℕ) → r.at - r.low < length text + length r.pending → matches r bytes (front ++ text) ≡ false
too-long r bytes front text more =
    let all = (front ++ text) ++ r.pending in
    let piece = take (r.at - r.low) (drop r.low bytes) in
    not-same all piece (λ e. omega (arith, more, ap length e, length-append (front ++ text) r.pending, length-append front text, length-take (r.at - r.low) (drop r.low bytes)))

-- others are left
pub too-short : (r : PlainRoom) (bytes : List ℕ) → r.at ≤ length bytes → length r.pending < r.at - r.low → matches r bytes [] ≡ false
too-short r bytes fits more =
    let piece = take (r.at - r.low) (drop r.low bytes) in
    let long : length piece ≡ r.at - r.low = length-take-le (r.at - r.low) (drop r.low bytes) (omega (arith, fits, more, length-drop r.low bytes)) in
    not-same r.pending piece (λ e. omega (arith, more, ap length e, long))

-- none are left and none are expected
pub none-left : (r : PlainRoom) (bytes : List ℕ) → r.pending ≡ [] → r.at ≤ r.low → matches r bytes [] ≡ true
none-left r bytes e at =
    let nothing : r.at - r.low ≡ 0 = omega (arith, at) in
    let none : take (r.at - r.low) (drop r.low bytes) ≡ [] = ap (λ (n : ℕ). take n (drop r.low bytes)) nothing in
    (λ i. bytes_eq (e i) (none i))

-- nothing was compared yet
pub whole-piece : (r : PlainRoom) (low n : ℕ) (bytes text : List ℕ) → r ≡ record { low = low; at = low + n; pending = [] } → matches r bytes text ≡ bytes_eq text (take n (drop low bytes))
whole-piece r low n bytes text is =
    let size : (low + n) - low ≡ n = omega arith in
    ap (λ (q : PlainRoom). matches q bytes text) is ∙ (λ k. bytes_eq (append-nil text k) (take (size k) (drop low bytes)))
