-- Where a kid of a version stands in a row, and what becomes of the row there.
use Rattle.std.specs.Prelude.{◌≡◌, ◌≢◌, ℕ, ◌+◌, ◌≤◌, ◌<◌, List, [], ◌∷◌, if◌then◌else◌, ◌++◌, IsTrue, Option, Some, None, Result, Ok, Err, length, map, take, drop, get_or}
use Rattle.std.specs.List.{AllByRecursion}
use Rattle.std.specs.Ordering.{is_eq}
use Rattle.std.specs.declared.cmp.Ordering.TheVariants.{Less, Greater}
use Rattle.version_set.specs.Members.{with_last}
use Rattle.keyed_tree.specs.Data.{PlainKey, PlainLabel, PlainKeyed, kids_from}
use Rattle.keyed_tree.specs.Kids.{ascend}
use Rattle.keyed_tree.specs.Lists.{Ascends}
use Rattle.keyed_tree.specs.Order.{key_cmp, label_cmp}
use Rattle.new_archive.specs.Full.{FullAlt, PlainFull, fulls_from, fulls_list, full_label}
use Rattle.new_archive.specs.Added.{added_row}
use Rattle.new_archive.specs.Ready.{AreReady}
use Rattle.new_archive.specs.Woven.{ArePlaced, woven}

-- the place of the node with the label, or that of the first node above it, where there is none
abbrev pub IsPlaceOf : PlainLabel → List PlainFull → Result ℕ ℕ → Type 0
IsPlaceOf l ks (Ok i) = (i < length ks) × ((d : PlainFull) → full_label (get_or ks i d) ≡ l)
IsPlaceOf l ks (Err i) = (i ≤ length ks)
    × ((j : ℕ) (d : PlainFull) → j < i → label_cmp (full_label (get_or ks j d)) l ≡ Less)
    × ((j : ℕ) (d : PlainFull) → i ≤ j → j < length ks → label_cmp (full_label (get_or ks j d)) l ≡ Greater)

-- an alternative that version n has too
abbrev pub changed : ℕ → FullAlt → FullAlt
changed n a = record { numbers = with_last a.numbers n; body = a.body }

-- the alternatives, where the one at the place is that of version n too
abbrev pub IsChangedAt : ℕ → ℕ → List FullAlt → List FullAlt → Type 0
IsChangedAt n at xs ys = (d : FullAlt) → ys ≡ take at xs ++ changed n (get_or xs at d) ∷ drop (at + 1) xs

-- the place of the alternative with the body, or that none has it
abbrev pub IsAltOf : PlainKey → List FullAlt → Option ℕ → Type 0
IsAltOf b xs (Some i) = (i < length xs) × ((d : FullAlt) → (get_or xs i d).body ≡ b)
IsAltOf b xs None = AllByRecursion (λ (x : FullAlt). x.body ≢ b) xs

-- the place of the first alternative with the body, counted from this number
abbrev pub place_from : PlainKey → ℕ → List FullAlt → Option ℕ
place_from b i [] = None
place_from b i (x ∷ xs) = if is_eq (key_cmp x.body b) then Some i else place_from b (i + 1) xs

-- a row of nodes with the kids of version n
abbrev pub added_list : ℕ → List PlainFull → List PlainKeyed → List PlainFull
added_list n ks cs = fulls_list (added_row n (fulls_from ks) cs)

-- The nodes up to a place are done, and new ones stand at places up to there. With those from there on and others than the kid they are what they were with the kid and these
-- others, where nodes up to the first place were done.
pub record IsPut (n : ℕ) (ks : List PlainFull) (fs : List (ℕ × PlainFull)) (from : ℕ) (c : PlainKeyed) (to : ℕ) (js : List PlainFull) (gs : List (ℕ × PlainFull)) : Type 0 where
  pub within : to ≤ length js
  pub placed : ArePlaced 0 to gs
  pub whole : (cs : List PlainKeyed) → IsTrue (ascend (kids_from (c ∷ cs))) → woven 0 (take to js) gs ++ added_list n (drop to js) cs ≡ woven 0 (take from ks) fs ++ added_list n (drop from ks) (c ∷ cs)
  pub ready : AreReady n (fulls_from (drop to js))
  pub ascending : Ascends label_cmp (map full_label (drop to js))
