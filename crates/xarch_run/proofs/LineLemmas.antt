-- What is kept of a line as it grows.
use Rattle.std.proofs.Common.{◌≡◌, ℕ, zero, suc, ◌+◌, ◌-◌, ◌<◌, ◌≤◌, min, ◌&&◌, ◌||◌, ◌==◌, List, [], ◌∷◌, ◌++◌, length, take, drop, Bool, true, false, cond, not, nat_lt, Some, None, refl, sym, ap, ◌∙◌, subst, arith, append_assoc, append-nil, length-append, length-drop, length-take-le, add-one, take-append-drop, take_all, drop-cons, get_or}
use Rattle.std.proofs.lemmas.List.Folds.{list_all-append, list_any-append}
use Rattle.std.proofs.lemmas.List.Sums.{prefix_len_stops}
use Rattle.std.proofs.lemmas.Bool.{eqb-true, lt-ltb, ltb-true, ltb-false, not-false}
use Rattle.std.specs.List.{position, position_or_len}
use Rattle.xarch_words.specs.declared.limits.TheConstants.{LINE}
use Rattle.xarch_run.specs.Shown.{Shows}
use Rattle.xarch_run.specs.declared.line.Line.{Line}
use Rattle.xarch_run.specs.Lines.{is_blank_byte, is_blank, is_line_feed, has_line_feed}

pub is_blank-append : (a b : List ℕ) → is_blank (a ++ b) ≡ (is_blank a && is_blank b)
is_blank-append a b = list_all-append is_blank_byte a b

-- The kept front of a line, and what was left out, behind which a piece comes: where some was left out, no more is kept.
pub grown : (front more piece : List ℕ) (k : ℕ) → (0 < length more → k ≡ 0) → (front ++ more) ++ piece ≡ (front ++ take k piece) ++ (more ++ drop k piece)
grown front [] piece k none =
    ap (λ l. l ++ piece) (append-nil front) ∙ ap (λ l. front ++ l) (sym (take-append-drop k piece)) ∙ sym (append_assoc front (take k piece) (drop k piece))
grown front (b ∷ bs) piece k none =
    let zero : k ≡ 0 = none (omega arith) in
    append_assoc front (b ∷ bs) piece ∙ ap (λ l. l ++ ((b ∷ bs) ++ piece)) (sym (append-nil front)) ∙ ap (λ n. (front ++ take n piece) ++ ((b ∷ bs) ++ drop n piece)) (sym zero)

grow_full : (more piece k old new : ℕ) → old ≤ LINE + 1 → (0 < more → old ≡ LINE + 1) → k ≡ min piece (LINE + 1 - old) → new ≡ old + k → 0 < more + (piece - k) → new ≡ LINE + 1
grow_full zero piece k old new short full room sum some = omega arith
grow_full (suc n) piece k old new short full room sum some = let whole : old ≡ LINE + 1 = full (omega arith) in omega arith

long_by : (more kept whole : ℕ) → (0 < more → kept ≡ LINE + 1) → whole ≡ kept + more → nat_lt LINE kept ≡ nat_lt LINE whole
long_by zero kept whole full sum = ap (nat_lt LINE) (omega (arith, sum))
long_by (suc n) kept whole full sum =
    let most : kept ≡ LINE + 1 = full (omega arith) in
    lt-ltb LINE kept (omega arith) ∙ sym (lt-ltb LINE whole (omega arith))

-- a piece came behind what a line shows
pub shows-more : (before now : Line) (bytes piece : List ℕ) (k : ℕ) → Shows before bytes → before.bytes.len ≤ LINE + 1 → k ≡ min (length piece) (LINE + 1 - before.bytes.len)
    → now.bytes.items ≡ before.bytes.items ++ take k piece → now.blank ≡ (before.blank && is_blank piece) → Shows now (bytes ++ piece)
shows-more before now bytes piece k s short room grows blank =
    let full = s.full in
    let zero : 0 < length s.more → k ≡ 0 = λ some. omega (arith, full some) in
    let more = s.more ++ drop k piece in
    let old_len : before.bytes.len ≡ length before.bytes.items = before.bytes.ok.0 in
    let new_len : now.bytes.len ≡ length before.bytes.items + length (take k piece) = now.bytes.ok.0 ∙ ap length grows ∙ length-append before.bytes.items (take k piece) in
    let kept : length (take k piece) ≡ k = length-take-le k piece (omega arith) in
    let left : length more ≡ length s.more + (length piece - k) = length-append s.more (drop k piece) ∙ ap (λ n. length s.more + n) (length-drop k piece) in
    record {
      more = more;
      is = ap (λ l. l ++ piece) s.is ∙ grown before.bytes.items s.more piece k zero ∙ ap (λ l. l ++ more) (sym grows);
      full = λ some. grow_full (length s.more) (length piece) k before.bytes.len now.bytes.len short full room (omega arith) (omega arith);
      blank = blank ∙ ap (λ b. b && is_blank piece) s.blank ∙ sym (is_blank-append bytes piece);
    }

-- whether a line is longer than it may be shows in what is kept
pub shows-long : (l : Line) (bytes : List ℕ) → Shows l bytes → nat_lt LINE l.bytes.len ≡ nat_lt LINE (length bytes)
shows-long l bytes s =
    let full = s.full in
    let len : l.bytes.len ≡ length l.bytes.items = l.bytes.ok.0 in
    let whole : length bytes ≡ length l.bytes.items + length s.more = ap length s.is ∙ length-append l.bytes.items s.more in
    long_by (length s.more) l.bytes.len (length bytes) full (omega arith)

nothing : (more : List ℕ) → length more ≡ 0 → more ≡ []
nothing [] h = refl
nothing (b ∷ bs) h = absurd (omega (arith, h))

none_left : (more kept whole : ℕ) → (0 < more → kept ≡ LINE + 1) → whole ≡ kept + more → whole ≤ LINE → more ≡ 0
none_left zero kept whole full sum few = refl
none_left (suc n) kept whole full sum few = let most : kept ≡ LINE + 1 = full (omega arith) in absurd (omega arith)

-- what is not too long is kept whole
pub shows-whole : (l : Line) (bytes : List ℕ) → Shows l bytes → nat_lt LINE (length bytes) ≡ false → l.bytes.items ≡ bytes
shows-whole l bytes s short =
    let full = s.full in
    let few : length bytes ≤ LINE = ltb-false LINE (length bytes) short in
    let len : l.bytes.len ≡ length l.bytes.items = l.bytes.ok.0 in
    let whole : length bytes ≡ length l.bytes.items + length s.more = ap length s.is ∙ length-append l.bytes.items s.more in
    let none : length s.more ≡ 0 = none_left (length s.more) l.bytes.len (length bytes) full (omega arith) few in
    sym (s.is ∙ ap (λ m. l.bytes.items ++ m) (nothing s.more none) ∙ append-nil l.bytes.items)

-- ---- the first LF

before_next : (x : ℕ) (xs : List ℕ) (t : Bool) (n : ℕ) → (x == 10) ≡ t → has_line_feed (take n xs) ≡ false → has_line_feed (take (cond (not t) (1 + n) 0) (x ∷ xs)) ≡ false
before_next x xs true n e h = refl
before_next x xs false n e h =
    let next : 1 + n ≡ suc n = omega arith in
    ap (λ m. has_line_feed (take m (x ∷ xs))) next ∙ ap (λ b. b || has_line_feed (take n xs)) e ∙ h

-- no LF stands before the first one
before_first_feed : (xs : List ℕ) → has_line_feed (take (position_or_len is_line_feed xs) xs) ≡ false
before_first_feed [] = refl
before_first_feed (x ∷ xs) = before_next x xs (x == 10) (position_or_len is_line_feed xs) refl (before_first_feed xs)

-- there is an LF at this place, and none before it
pub record IsFirstLineFeed (bytes : List ℕ) (at : ℕ) : Type 0 where
  pub in_range : at < length bytes
  pub none : has_line_feed (take at bytes) ≡ false
  pub one : drop at bytes ≡ 10 ∷ drop (at + 1) bytes

at_first_feed : (xs : List ℕ) → position_or_len is_line_feed xs < length xs → IsFirstLineFeed xs (position_or_len is_line_feed xs)
at_first_feed xs h =
    let at = position_or_len is_line_feed xs in
    let byte : get_or xs at 0 ≡ 10 = eqb-true (get_or xs at 0) 10 (not-false _ (prefix_len_stops (λ x. not (is_line_feed x)) xs 0 h)) in
    record {
      in_range = h;
      none = before_first_feed xs;
      one = drop-cons xs at 0 h ∙ ap (λ b. b ∷ drop (suc at) xs) byte ∙ ap (λ n. 10 ∷ drop n xs) (sym (add-one at));
    }

first_feed_by : (xs : List ℕ) (b : Bool) (at : ℕ) → nat_lt (position_or_len is_line_feed xs) (length xs) ≡ b → cond b (Some (position_or_len is_line_feed xs)) None ≡ Some at → IsFirstLineFeed xs at
first_feed_by xs true at inside e = let same : position_or_len is_line_feed xs ≡ at = cc in subst (IsFirstLineFeed xs) same (at_first_feed xs (ltb-true _ _ inside))
first_feed_by xs false at inside e = cc

pub first_feed : (xs : List ℕ) (at : ℕ) → position is_line_feed xs ≡ Some at → IsFirstLineFeed xs at
first_feed xs at e = first_feed_by xs _ at refl e

no_feed_by : (xs : List ℕ) (b : Bool) → nat_lt (position_or_len is_line_feed xs) (length xs) ≡ b → cond b (Some (position_or_len is_line_feed xs)) None ≡ None → has_line_feed xs ≡ false
no_feed_by xs true inside e = cc
no_feed_by xs false inside e =
    let past : length xs ≤ position_or_len is_line_feed xs = ltb-false _ _ inside in
    ap has_line_feed (sym (take_all (position_or_len is_line_feed xs) xs past)) ∙ before_first_feed xs

pub no_feed : (xs : List ℕ) → position is_line_feed xs ≡ None → has_line_feed xs ≡ false
no_feed xs e = no_feed_by xs _ refl e

pub has_line_feed-append : (a b : List ℕ) → has_line_feed a ≡ false → has_line_feed b ≡ false → has_line_feed (a ++ b) ≡ false
has_line_feed-append a b p q = list_any-append is_line_feed a b ∙ ap (λ t. t || has_line_feed b) p ∙ q

pub ruleset feeds = (first_feed, no_feed)
