-- What stands at the front of some bytes: a value, and the bytes behind it.
use Rattle.std.specs.Prelude.{◌≡◌, ℕ, zero, suc, ◌^◌, pos, negsuc, Bool, true, false, ◌==◌, List, length, Option, Some, None, Result, Ok, Err, ⊤, nat_lt, if◌then◌else◌}
use Rattle.std.specs.Int.{w64}
use Rattle.std.specs.Ordering.{is_lt}
use Rattle.jsonml_tree.specs.Data.{PlainScalar, null, boolean, whole, string, PlainAttr, PlainTree, text, element, PlainContent, content, trees_of}
use Rattle.jsonml_tree.specs.Order.{text_cmp}
use Rattle.keyed_tree.specs.Data.{PlainName, attr, tag, PlainKey, scalar, inside, PlainLabel}
use Rattle.archive_tree.specs.Data.{Stamp}
use Rattle.xa_fields.specs.Reading.{Reader, ◌>>=◌, byte_at, number_at, text_at, list_at, chained_at}
use Rattle.timestamp_tree.specs.Reading.{set_at}
use Rattle.record_parts.specs.Bounds.{deepest, most}
use Rattle.record_parts.specs.declared.fault.RecFault.{RecFault}
use Rattle.record_parts.specs.declared.fault.RecFault.TheVariants.{Damage, Memory}

-- ---- values

-- a scalar behind the byte of its kind
unfoldable pub scalar_of : ℕ → Reader PlainScalar
scalar_of zero rest = Some (null, rest)
scalar_of (suc zero) rest = Some (boolean false, rest)
scalar_of (suc (suc zero)) rest = Some (boolean true, rest)
scalar_of (suc (suc (suc zero))) rest = do
  n ← number_at w64 rest
  Some (whole (pos n.0), n.1)
scalar_of (suc (suc (suc (suc zero)))) rest = do
  n ← number_at w64 rest
  if nat_lt n.0 (2 ^ 63) then Some (whole (negsuc n.0), n.1) else None
scalar_of (suc (suc (suc (suc (suc zero))))) rest = do
  s ← text_at rest
  Some (string s.0, s.1)
scalar_of (suc (suc (suc (suc (suc (suc k)))))) rest = None

unfoldable pub scalar_at : Reader PlainScalar
scalar_at bytes = byte_at bytes >>= λ k. scalar_of k.0 k.1

unfoldable pub attr_at : Reader PlainAttr
attr_at bytes = do
  name ← text_at bytes
  value ← scalar_at name.1
  Some (record { name = name.0; value = value.0 }, value.1)

-- whether the name is above the last one, if there is one
abbrev pub is_above : Option (List ℕ) → List ℕ → Bool
is_above None name = true
is_above (Some last) name = is_lt (text_cmp last name)

-- a name may follow a lesser one
abbrev pub next_attr : Option (List ℕ) → PlainAttr → Option (Option (List ℕ))
next_attr last a = if is_above last a.name then Some (Some a.name) else None

abbrev pub attrs_at : Reader (List PlainAttr)
attrs_at = chained_at attr_at next_attr None

unfoldable pub content_by : Reader PlainTree → Reader PlainContent
content_by one bytes = do
  attrs ← attrs_at bytes
  items ← list_at one attrs.1
  Some (content attrs.0 (trees_of items.0), items.1)

unfoldable pub item_of : Reader PlainContent → ℕ → Reader PlainTree
item_of inner zero rest = do
  s ← text_at rest
  Some (text s.0, s.1)
item_of inner (suc zero) rest = do
  t ← text_at rest
  c ← inner t.1
  Some (element t.0 c.0, c.1)
item_of inner (suc (suc k)) rest = None

abbrev pub item_by : Reader PlainContent → Reader PlainTree
item_by inner bytes = byte_at bytes >>= λ k. item_of inner k.0 k.1

-- the content of an element, where so many elements may nest
unfoldable pub content_below : ℕ → Reader PlainContent
content_below zero bytes = None
content_below (suc depth) bytes = content_by (item_by (content_below depth)) bytes

-- an item whose elements nest at most so deep
abbrev pub item_at : ℕ → Reader PlainTree
item_at depth = item_by (content_below depth)

-- a content whose elements nest at most so deep
abbrev pub content_at : ℕ → Reader PlainContent
content_at depth = content_by (item_at depth)

unfoldable pub value_of : ℕ → Reader PlainKey
value_of zero rest = do
  s ← scalar_at rest
  Some (scalar s.0, s.1)
value_of (suc zero) rest = do
  c ← content_at deepest rest
  Some (inside c.0, c.1)
value_of (suc (suc k)) rest = None

unfoldable pub value_at : Reader PlainKey
value_at bytes = byte_at bytes >>= λ k. value_of k.0 k.1

-- ---- labels and timestamps

unfoldable pub name_of : ℕ → Reader PlainName
name_of zero rest = do
  s ← text_at rest
  Some (attr s.0, s.1)
name_of (suc zero) rest = do
  s ← text_at rest
  Some (tag s.0, s.1)
name_of (suc (suc k)) rest = None

unfoldable pub name_at : Reader PlainName
name_at bytes = byte_at bytes >>= λ k. name_of k.0 k.1

unfoldable pub label_at : Reader PlainLabel
label_at bytes = do
  name ← name_at bytes
  keys ← list_at value_at name.1
  Some (record { name = name.0; keys = keys.0 }, keys.1)

unfoldable pub stamp_of : ℕ → Reader Stamp
stamp_of zero rest = Some (None, rest)
stamp_of (suc zero) rest = do
  s ← set_at most rest
  if length s.0 == 0 then None else Some (Some s.0, s.1)
stamp_of (suc (suc k)) rest = None

unfoldable pub stamp_at : Reader Stamp
stamp_at bytes = byte_at bytes >>= λ k. stamp_of k.0 k.1

-- ---- what a call returned

-- damage is for bytes that give nothing; want of memory says nothing
abbrev pub Fails : {Y : Type 0} → RecFault → Option Y → Type 0
Fails Damage read = read ≡ None
Fails Memory read = ⊤

-- what a call returned, seen by view, is what reading gives, unless memory ran out
abbrev pub Gives : {X Y : Type 0} → (X → Y) → Result X RecFault → Option Y → Type 0
Gives view (Ok x) read = read ≡ Some (view x)
Gives view (Err e) read = Fails e read
