-- The entries of kids, from the last to the first.
use Rattle.std.proofs.Common.{◌≡◌, ℕ, zero, suc, ◌+◌, ◌-◌, ◌<◌, ◌≤◌, List, [], ◌∷◌, ◌++◌, length, map, take, drop, get_or, refl, sym, ap, ◌∙◌, arith}
use Rattle.std.specs.List.{flat_map}
use Rattle.std.proofs.lemmas.Grind.{flat_map-append}
use Rattle.std.proofs.lemmas.List.{drop_more, drop-map, take-append-drop}
use Rattle.record_format.specs.Data.{PlainEntry}
use Rattle.record_format.specs.Nodes.{Piece, piece_bytes, entries_from, dir_of}
use Rattle.record_format.specs.Spelling.{entry_bytes}
use Rattle.row_ends.specs.Kids.{PlainKids, AreKids, row_length, entries_in, dir_in}

pub row_length-drop : (i : ℕ) (ss : List (ℕ × ℕ)) → row_length (drop i ss) ≤ row_length ss
row_length-drop zero ss = omega arith
row_length-drop (suc i) [] = omega arith
row_length-drop (suc i) (s ∷ ss) = omega (arith, row_length-drop i ss)

pub row_length-append : (ss us : List (ℕ × ℕ)) → row_length (ss ++ us) ≡ row_length ss + row_length us
row_length-append [] us = omega arith
row_length-append (s ∷ ss) us = omega (arith, row_length-append ss us)

pub entries-count : (at : ℕ) (ss : List (ℕ × ℕ)) → length (entries_in at ss) ≡ length ss
entries-count at [] = refl
entries-count at (s ∷ ss) = omega (arith, entries-count (at + s.0) ss)

-- one entry more in front
pub entry-before : (start behind : ℕ) (s : ℕ × ℕ) (all ss : List (ℕ × ℕ)) → all ≡ s ∷ ss → behind ≡ start + s.0
    → flat_map entry_bytes (entries_in start all) ≡ entry_bytes (record { start = start; length = s.0; dir = s.1 }) ++ flat_map entry_bytes (entries_in behind ss)
entry-before start behind s all ss is at =
    ap (λ (us : List (ℕ × ℕ)). flat_map entry_bytes (entries_in start us)) is
    ∙ ap (λ (n : ℕ). entry_bytes (record { start = start; length = s.0; dir = s.1 }) ++ flat_map entry_bytes (entries_in n ss)) (sym at)

-- ---- pieces

entries-same : (at : ℕ) (ps : List Piece) → entries_in at (map (λ (p : Piece). (length (piece_bytes p), p.dir)) ps) ≡ entries_from at ps
entries-same at [] = refl
entries-same at (p ∷ ps) = ap (λ (es : List PlainEntry). record { start = at; length = length (piece_bytes p); dir = p.dir } ∷ es) (entries-same (at + length (piece_bytes p)) ps)

pub kids-pieces : (set : List (ℕ × ℕ)) (ps : List Piece) (k : PlainKids) → AreKids set ps k → dir_in set k ≡ dir_of ps
kids-pieces set ps k h =
    let entries : entries_in 0 k.sizes ≡ entries_from 0 ps = ap (entries_in 0) (sym h.sizes) ∙ entries-same 0 ps in
    λ i. record { entries = entries i; sets = sym h.sets i }

-- ---- one element before those that are done

module _ {X : Type 0} (xs : List X) (i j : ℕ) (d : X) (at : j ≡ i - 1) (some : 0 < i) (within : i ≤ length xs) where
  pub one-before : drop j xs ≡ get_or xs j d ∷ drop i xs
  one-before =
      let next : j + 1 ≡ i = omega (arith, at, some) in
      drop_more xs j d (omega (arith, at, some, within)) ∙ ap (λ (n : ℕ). get_or xs j d ∷ drop n xs) next

  -- the same, seen by a view
  pub one-seen : {Y : Type 0} (f : X → Y) → drop j (map f xs) ≡ f (get_or xs j d) ∷ drop i (map f xs)
  one-seen {Y = Y} f = drop-map f j xs ∙ ap (map f) one-before ∙ ap (λ (ys : List Y). f (get_or xs j d) ∷ ys) (sym (drop-map f i xs))

-- all are those in front and those from here on
pub flat-parts : {X : Type 0} (f : X → List ℕ) (xs : List X) (j : ℕ) → flat_map f (take j xs) ++ flat_map f (drop j xs) ≡ flat_map f xs
flat-parts f xs j = sym (flat_map-append f (take j xs) (drop j xs)) ∙ ap (flat_map f) (take-append-drop j xs)

entries-append : (at : ℕ) (ss us : List (ℕ × ℕ)) → entries_in at (ss ++ us) ≡ entries_in at ss ++ entries_in (at + row_length ss) us
entries-append at [] us = ap (λ (n : ℕ). entries_in n us) (omega arith)
entries-append at (s ∷ ss) us =
    let sum : (at + s.0) + row_length ss ≡ at + (s.0 + row_length ss) = omega arith in
    ap (λ (es : List PlainEntry). record { start = at; length = s.0; dir = s.1 } ∷ es) (entries-append (at + s.0) ss us ∙ ap (λ (n : ℕ). entries_in (at + s.0) ss ++ entries_in n us) sum)

pub entry-parts : (all : List (ℕ × ℕ)) (j start : ℕ) → start + row_length (drop j all) ≡ row_length all
    → flat_map entry_bytes (entries_in 0 (take j all)) ++ flat_map entry_bytes (entries_in start (drop j all)) ≡ flat_map entry_bytes (entries_in 0 all)
entry-parts all j start sum =
    let whole = take-append-drop j all in
    let both = row_length-append (take j all) (drop j all) in
    let same = ap row_length whole in
    let at : start ≡ 0 + row_length (take j all) = omega (arith, sum, both, same) in
    ap (λ (n : ℕ). flat_map entry_bytes (entries_in 0 (take j all)) ++ flat_map entry_bytes (entries_in n (drop j all))) at
    ∙ sym (flat_map-append entry_bytes (entries_in 0 (take j all)) (entries_in (0 + row_length (take j all)) (drop j all)))
    ∙ ap (flat_map entry_bytes) (sym (entries-append 0 (take j all) (drop j all)) ∙ ap (entries_in 0) whole)
