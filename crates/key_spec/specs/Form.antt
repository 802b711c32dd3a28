-- The rule that a line gives: its tokens, and what they spell.
use Rattle.std.specs.Prelude.{ℕ, Bool, true, false, not, ◌&&◌, ◌||◌, List, [], ◌∷◌, Option, Some, None, option_map, option_and_then, if◌then◌else◌, ◌==◌}
use Rattle.std.specs.Str.{is_utf8}
use Rattle.key_spec.specs.Data.{PlainPath, PlainRule}
use Rattle.key_spec.specs.Lines.{is_blank}
use Rattle.key_spec.specs.Names.{is_name, context_of, path_of}

-- ---- tokens

-- one of the signs `(`, `)`, `{`, `}` and `,`, or a longest run of bytes that are no sign and no blank
pub data Token : Type 0 where
  sign : ℕ → Token
  word : List ℕ → Token

abbrev pub is_sign : ℕ → Bool
is_sign b = b == 40 || b == 41 || b == 123 || b == 125 || b == 44

abbrev pub is_word_byte : ℕ → Bool
is_word_byte b = not (is_blank b) && not (is_sign b)

abbrev pub begins_word : List ℕ → Bool
begins_word [] = false
begins_word (b ∷ bs) = is_word_byte b

-- a byte in front of what follows: it joins the word that follows it directly
abbrev pub word_with : ℕ → Bool → List Token → List Token
word_with b true (word bytes ∷ tokens) = word (b ∷ bytes) ∷ tokens
word_with b _ tokens = word (b ∷ []) ∷ tokens

abbrev pub token_with : ℕ → List ℕ → List Token → List Token
token_with b bs tokens = if is_blank b then tokens else (if is_sign b then sign b ∷ tokens else word_with b (begins_word bs) tokens)

-- the tokens of a line, whose blanks only keep them apart
abbrev pub tokens : List ℕ → List Token
tokens [] = []
tokens (b ∷ bs) = token_with b bs (tokens bs)

-- ---- what tokens spell

-- the tokens behind this sign, which comes first
abbrev pub behind : ℕ → List Token → Option (List Token)
behind b (sign c ∷ ts) = if c == b then Some ts else None
behind b _ = None

-- a word that comes first, and the tokens behind it
abbrev pub first_word : List Token → Option (List ℕ × List Token)
first_word (word bytes ∷ ts) = Some (bytes, ts)
first_word _ = None

-- what f makes of a word that comes first, and the tokens behind it
abbrev pub first_as : {X : Type 0} → (List ℕ → Option X) → List Token → Option (X × List Token)
first_as f ts = option_and_then (λ w. option_map (λ x. (x, w.1)) (f w.0)) (first_word ts)

abbrev pub name_of : List ℕ → Option (List ℕ)
name_of bytes = if is_name bytes then Some bytes else None

-- a key path, the tokens behind it, and the key paths that follow a comma there
abbrev pub path_with : Option (PlainPath × List Token) → Option (List PlainPath × List Token) → Option (List PlainPath × List Token)
path_with None others = None
path_with (Some (path, sign b ∷ ts)) others = if b == 125 then Some (path ∷ [], ts) else (if b == 44 then option_map (λ o. (path ∷ o.0, o.1)) others else None)
path_with (Some (path, ts)) others = None

-- one key path or more with commas between them, up to the closing brace, and the tokens behind it
abbrev pub some_paths : List Token → Option (List PlainPath × List Token)
some_paths (word bytes ∷ sign b ∷ ts) = path_with (first_as path_of (word bytes ∷ sign b ∷ ts)) (some_paths ts)
some_paths _ = None

-- key paths up to the closing brace, none or more, and the tokens behind it
abbrev pub paths_of : List Token → Option (List PlainPath × List Token)
paths_of (sign b ∷ ts) = if b == 125 then Some ([], ts) else None
paths_of ts = some_paths ts

infixl 10 ◌>>=◌
abbrev pub ◌>>=◌ : {X Y : Type 0} → Option X → (X → Option Y) → Option Y
o >>= f = option_and_then f o

-- `( context , ( tag , {` and what follows it
abbrev pub head_of : List Token → Option ((List (List ℕ) × List ℕ) × List Token)
head_of ts = do
  a ← behind 40 ts
  context ← first_as context_of a
  b ← behind 44 context.1
  c ← behind 40 b
  tag ← first_as name_of c
  d ← behind 44 tag.1
  e ← behind 123 d
  Some ((context.0, tag.0), e)

-- `) )` and nothing more
abbrev pub is_end : List Token → Bool
is_end (sign b ∷ sign c ∷ []) = b == 41 && c == 41
is_end _ = false

-- the rule whose tokens these are
abbrev pub spelled : List Token → Option PlainRule
spelled ts = do
  place ← head_of ts
  paths ← paths_of place.1
  if is_end paths.1 then Some (record { context = place.0.0; tag = place.0.1; paths = paths.0 }) else None

-- the rule that a line gives, where it is UTF-8 and of the form `( context , ( tag , { paths } ) )`
unfoldable pub line_rule : List ℕ → Option PlainRule
line_rule line = if is_utf8 line then spelled (tokens line) else None
