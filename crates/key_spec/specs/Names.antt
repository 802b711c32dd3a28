-- Names, contexts and key paths as they are written.
use Rattle.std.specs.Prelude.{ℕ, Bool, true, not, ◌&&◌, List, [], ◌∷◌, ◌++◌, length, Option, Some, None, option_map, if◌then◌else◌, ◌==◌, nat_lt, codes, flat_map, bytes_eq, take, ◌-◌, slice_index}
use Rattle.std.specs.List.{list_any, list_all, slice_split, position_or_len, before_first, after_first}
use Rattle.key_spec.specs.Data.{PlainPath, PlainRule}

-- ---- names

-- no slash, parenthesis, brace, comma, `@` or `#`, no space, tab, carriage return or line feed
abbrev pub is_name_byte : ℕ → Bool
is_name_byte b = not (list_any (λ c. c == b) (47 ∷ 40 ∷ 41 ∷ 123 ∷ 125 ∷ 44 ∷ 64 ∷ 35 ∷ 32 ∷ 9 ∷ 13 ∷ 10 ∷ []))

-- one byte or more, each of which may stand in a name, and not a single `.`
abbrev pub is_name : List ℕ → Bool
is_name bytes = nat_lt 0 (length bytes) && list_all is_name_byte bytes && not (bytes_eq bytes (codes "."))

-- the names between the slashes, where each is one
abbrev pub names_of : List ℕ → Option (List (List ℕ))
names_of bytes = let parts = slice_split (λ b. b == 47) bytes in if list_all is_name parts then Some parts else None

-- ---- contexts

-- a slash before each name
abbrev pub slashed : List (List ℕ) → List ℕ
slashed names = flat_map (λ name. codes "/" ++ name) names

-- `/` for no names, and else a slash before each
abbrev pub context_text : List (List ℕ) → List ℕ
context_text [] = codes "/"
context_text (name ∷ names) = slashed (name ∷ names)

-- the context that is written so
abbrev pub context_of : List ℕ → Option (List (List ℕ))
context_of [] = None
context_of (b ∷ bytes) = if b == 47 then (if length bytes == 0 then Some [] else names_of bytes) else None

-- ---- key paths

-- tags joined by slashes, and `.` for none
abbrev pub tags_text : List (List ℕ) → List ℕ
tags_text [] = codes "."
tags_text (tag ∷ tags) = tag ++ slashed tags

-- an attribute, behind a slash where tags stand before it
abbrev pub attr_text : List (List ℕ) → List ℕ → List ℕ
attr_text [] name = codes "@" ++ name
attr_text (tag ∷ tags) name = tag ++ (slashed tags ++ (codes "/@" ++ name))

abbrev pub ends_text : List (List ℕ) → Option (List ℕ) → List ℕ
ends_text tags None = tags_text tags
ends_text tags (Some name) = attr_text tags name

abbrev pub path_text : PlainPath → List ℕ
path_text path = ends_text path.tags path.attr

-- the tags before an attribute: none, or names joined by slashes and one more slash
abbrev pub tags_before : List ℕ → Option (List (List ℕ))
tags_before front = if length front == 0 then Some [] else (if slice_index front (length front - 1) == 47 then names_of (take (length front - 1) front) else None)

abbrev pub attr_path : Option (List (List ℕ)) → List ℕ → Option PlainPath
attr_path tags name = if is_name name then option_map (λ ts. record { tags = ts; attr = Some name }) tags else None

-- the key path that is written so: `.`, or names joined by slashes, or an `@` and a name behind nothing or behind such names and a slash
abbrev pub path_of : List ℕ → Option PlainPath
path_of bytes =
    if bytes_eq bytes (codes ".") then Some (record { tags = []; attr = None }) else
    (if nat_lt (position_or_len (λ b. b == 64) bytes) (length bytes) then attr_path (tags_before (before_first (λ b. b == 64) bytes)) (after_first (λ b. b == 64) bytes) else
    option_map (λ ts. record { tags = ts; attr = None }) (names_of bytes))

-- ---- what is made of names

abbrev pub is_optional_name : Option (List ℕ) → Bool
is_optional_name None = true
is_optional_name (Some name) = is_name name

abbrev pub is_named_path : PlainPath → Bool
is_named_path path = list_all is_name path.tags && is_optional_name path.attr

-- each name of the rule is one
abbrev pub is_named : PlainRule → Bool
is_named rule = list_all is_name rule.context && is_name rule.tag && list_all is_named_path rule.paths
