-- Bytes that come or go piece by piece.
use Rattle.std.proofs.Common.{◌≡◌, true, leb, le-leb, inl, inr, subst, ℕ, ◌+◌, ◌-◌, ◌<◌, ◌≤◌, List, [], ◌++◌, Option, None, Some, Result, Ok, Err, IsErr, le_refl, sym, ap, ◌∙◌, arith, length, take, drop, length-append, length-take-le, drop-drop, take_all, length-drop}
use Rattle.std.proofs.Math.Seq.{take-append-add}
use Rattle.std.proofs.lemmas.Bool.{cases_lt}
use Rattle.std.proofs.lemmas.List.{take-append-le}
use lib.Seq.{take-add}
use borrow.Rule.Slice.PartMut.{mid_of, put_mid, post_of, same_len_mid}
use Rattle.std.specs.FinMap as map
use Rattle.xa_outside.specs.Folder.{Files, bytes_or_none, front, front_of, Gives, FillsFrom}
use Rattle.xa_outside.specs.Numbers.{Numbers, after_pull, Pulls, PullsAtMost}
use Rattle.xa_outside.specs.NumberLaws.{PullsAtMost-of, PullsAtMost-more, PullsAtMost-trans}

-- these bytes stand in the file at the offset
abbrev pub StandsAt : Option Files → List ℕ → ℕ → List ℕ → Type 0
StandsAt None name at bytes = Unit {0}
StandsAt (Some fs) name at bytes = take (length bytes) (drop at (bytes_or_none (map.get fs name))) ≡ bytes

-- the front of a buffer after n bytes were put at a
pub take-put_mid_front : (a k n : ℕ) (xs ys : List ℕ) → a ≤ length xs → n ≤ length ys → take (a + n) (put_mid a k xs ys) ≡ take a xs ++ take n ys
take-put_mid_front a k n xs ys within fits =
    let len : length (take a xs) ≡ a = length-take-le a xs within in
    ap (λ m. take (m + n) (put_mid a k xs ys)) (sym len) ∙ take-append-add (take a xs) (ys ++ post_of a k xs) n
    ∙ ap (λ l. take a xs ++ l) (take-append-le n ys (post_of a k xs) fits)

pub StandsAt-more : (f : Option Files) (name : List ℕ) (at done : ℕ) (a b : List ℕ) (room : ℕ) → length a ≡ done → StandsAt f name at a → Gives f name (at + done) b room → StandsAt f name at (a ++ b)
StandsAt-more None name at done a b room len p q = tt
StandsAt-more (Some fs) name at done a b room len p q =
    let file = bytes_or_none (map.get fs name) in
    let there : take (length a) (drop at file) ≡ a = p in
    let next : take (length b) (drop (length a) (drop at file)) ≡ b = ap (take (length b)) (drop-drop (length a) at file ∙ ap (λ m. drop m file) (ap (λ m. at + m) len)) ∙ q.0 in
    ap (λ m. take m (drop at file)) (length-append a b) ∙ take-add (length a) (length b) (drop at file) ∙ ap (λ l. l ++ take (length b) (drop (length a) (drop at file))) there ∙ ap (λ l. a ++ l) next

pub FillsFrom-full : (f : Option Files) (name : List ℕ) (at room : ℕ) (a : List ℕ) → length a ≡ room → StandsAt f name at a → FillsFrom f name at a room
FillsFrom-full None name at room a len p = tt
FillsFrom-full (Some fs) name at room a len p = sym p ∙ ap (λ m. take m (drop at (bytes_or_none (map.get fs name)))) len

pub FillsFrom-end : (f : Option Files) (name : List ℕ) (at done room left : ℕ) (a b : List ℕ) → length a ≡ done → b ≡ [] → done ≤ room → 0 < left → StandsAt f name at a → Gives f name (at + done) b left → FillsFrom f name at a room
FillsFrom-end None name at done room left a b len none fits some p q = tt
FillsFrom-end (Some fs) name at done room left a b len none fits some p q =
    let file = bytes_or_none (map.get fs name) in
    let short : length file ≤ at + done = q.1 none some in
    let within : length (drop at file) ≤ done = omega (arith, length-drop at file) in
    sym p ∙ take_all (length a) (drop at file) (omega arith) ∙ sym (take_all room (drop at file) (omega arith))

-- one read, and what fills the rest
pub FillsFrom-rest : (f : Option Files) (name : List ℕ) (at n room more : ℕ) (a b : List ℕ) → length a ≡ n → n ≤ room → Gives f name at a more → FillsFrom f name (at + n) b (room - n) → FillsFrom f name at (a ++ b) room
FillsFrom-rest None name at n room more a b len fits q r = tt
FillsFrom-rest (Some fs) name at n room more a b len fits q r =
    let file = bytes_or_none (map.get fs name) in
    let here : a ≡ take n (drop at file) = sym q.0 ∙ ap (λ m. take m (drop at file)) len in
    let behind : b ≡ take (room - n) (drop n (drop at file)) = r ∙ ap (take (room - n)) (sym (drop-drop n at file)) in
    let whole : n + (room - n) ≡ room = omega arith in
    ap (λ l. l ++ b) here ∙ ap (λ l. take n (drop at file) ++ l) behind ∙ sym (take-add n (room - n) (drop at file)) ∙ ap (λ m. take m (drop at file)) whole

-- the rest of a buffer behind n bytes, lent
rest_length : (n : ℕ) (xs : List ℕ) → n ≤ length xs → length (mid_of n (length xs - n) xs) ≡ length xs - n
rest_length n xs within = ap (λ (l : List ℕ). length l) (take_all (length xs - n) (drop n xs) (omega (arith, length-drop n xs))) ∙ length-drop n xs

-- the buffer whose rest was filled behind one read
pub FillsFrom-put : (f g : Option Files) (name : List ℕ) (at n m : ℕ) (xs ys : List ℕ) → g ≡ f → n ≤ length xs → m ≤ length ys → length ys ≡ length (mid_of n (length xs - n) xs)
    → Gives f name at (take n xs) (length xs) → FillsFrom g name (at + n) (take m ys) (length ys) → FillsFrom f name at (take (n + m) (put_mid n (length xs - n) xs ys)) (length (put_mid n (length xs - n) xs ys))
FillsFrom-put f g name at n m xs ys same within fits left gives fills =
    let front = take-put_mid_front n (length xs - n) m xs ys within fits in
    let size = same_len_mid n (length xs - n) xs ys left in
    let told = subst (λ (h : Option Files). FillsFrom h name (at + n) (take m ys) (length ys)) same fills in
    let behind = subst (λ (k : ℕ). FillsFrom f name (at + n) (take m ys) k) (left ∙ rest_length n xs within) told in
    let whole = FillsFrom-rest f name at n (length xs) (length xs) (take n xs) (take m ys) (length-take-le n xs within) within gives behind in
    subst (λ (l : List ℕ). FillsFrom f name at l (length (put_mid n (length xs - n) xs ys))) (sym front) (subst (λ (k : ℕ). FillsFrom f name at (take n xs ++ take m ys) k) (sym size) whole)

-- one read, and a failure behind it
pub Pulls-rest : {E : Type 0} (a b c : Numbers) (n room : ℕ) (xs : List ℕ) (r : Result ℕ E) → IsErr r → length xs ≡ room → n ≤ length xs → b ≡ after_pull a n → PullsAtMost (length (mid_of n (length xs - n) xs)) b c → Pulls a c r room
Pulls-rest a b c n room xs (Ok v) failed len within first rest = cc
Pulls-rest a b c n room xs (Err e) failed len within first rest =
    let left = rest_length n xs within in
    let fits : n + length (mid_of n (length xs - n) xs) ≤ room = omega (arith, left) in
    PullsAtMost-more (n + length (mid_of n (length xs - n) xs)) room a c fits (PullsAtMost-trans n (length (mid_of n (length xs - n) xs)) a b c (PullsAtMost-of n n a b (le_refl n) first) rest)

-- the rest of a slice, as `&piece[at..]` gives it
pub take-rest : (at n : ℕ) (xs : List ℕ) → at ≤ length xs → take at xs ++ take n (take (length xs - at) (drop at xs)) ≡ take (at + n) xs
take-rest at n xs within =
    ap (λ l. take at xs ++ take n l) (take_all (length xs - at) (drop at xs) (omega (arith, length-drop at xs))) ∙ sym (take-add at n xs)

-- ---- the front of a file

front-take : (n : ℕ) (xs : List ℕ) → front n (take n xs) ≡ front n xs
front-take n xs =
    elim (cases_lt (length xs) n) [
      | inl short ↦ ap (front n) (take_all n xs (omega arith))
      | inr le ↦
          let len : length (take n xs) ≡ n = length-take-le n xs le in
          let here : leb n (length (take n xs)) ≡ true = le-leb _ _ (omega (arith, len)) in
          let there : leb n (length xs) ≡ true = le-leb _ _ le in
          rw (here, there) (ap Some (take_all n (take n xs) (omega (arith, len))))
    ]

-- what was read from the beginning of a file, where files are told
pub read_is : (f : Option Files) (fs : Files) (name bytes : List ℕ) (n : ℕ) → f ≡ Some fs → FillsFrom f name 0 bytes n → bytes ≡ take n (bytes_or_none (map.get fs name))
read_is f fs name bytes n e p = subst (λ (g : Option Files). FillsFrom g name 0 bytes n) e p

pub front_is : (f : Option Files) (fs : Files) (name bytes : List ℕ) (n : ℕ) → f ≡ Some fs → FillsFrom f name 0 bytes n → front n bytes ≡ front_of fs name n
front_is f fs name bytes n e p = ap (front n) (read_is f fs name bytes n e p) ∙ front-take n (bytes_or_none (map.get fs name))

pub ruleset fronts = (read_is, front_is)
