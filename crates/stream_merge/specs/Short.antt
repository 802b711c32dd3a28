-- Sets, labels, bodies and calls of the writer that take few bytes.
use Rattle.std.specs.Prelude.{◌≡◌, ◌⊎◌, ℕ, ◌≤◌, List, length, Some, None, ⊤}
use Rattle.version_set.specs.Members.{with_last}
use Rattle.timestamp_tree.specs.Bytes.{set_bytes}
use Rattle.keyed_tree.specs.Data.{PlainKey, PlainLabel, PlainKeyed, inner, leaf, PlainKids, no_kids, kid}
use Rattle.archive_tree.specs.Data.{Stamp}
use Rattle.record_parts.specs.Shapes.{FitsLabel, FitsValue}
use Rattle.record_parts.specs.Spelling.{label_bytes, value_bytes}
use Rattle.record_writer.specs.Data.{WriterCall, call_inner, call_leaf, call_alt, call_end_leaf, call_end_inner, call_finish}
use Rattle.stream_merge.specs.View.{PlainInherited}

-- ---- of the archive, and with the new version

abbrev pub IsStampWithin : ℕ → Stamp → Type 0
IsStampWithin b None = ⊤
IsStampWithin b (Some s) = length (set_bytes s) ≤ b

-- a set of at most so many bytes, or one and the version n with it
abbrev pub IsShortSet : ℕ → ℕ → List (ℕ × ℕ) → Type 0
IsShortSet b n q = (p : List (ℕ × ℕ)) × (length (set_bytes p) ≤ b) × ((q ≡ p) ⊎ (q ≡ with_last p n))

abbrev pub IsShortStamp : ℕ → ℕ → Stamp → Type 0
IsShortStamp b n None = ⊤
IsShortStamp b n (Some s) = IsShortSet b n s

pub record AreShortSets (b : ℕ) (h : PlainInherited) : Type 0 where
  pub before : length (set_bytes h.before) ≤ b
  pub now : IsShortSet b h.number h.now

-- ---- of the new version

-- its lengths and counts fit, and it takes at most so many bytes
pub record IsShortLabel (b : ℕ) (l : PlainLabel) : Type 0 where
  pub fits : FitsLabel l
  pub short : length (label_bytes l) ≤ b

pub record IsShortBody (b : ℕ) (v : PlainKey) : Type 0 where
  pub fits : FitsValue v
  pub short : length (value_bytes v) ≤ b

-- each label and each body is so
abbrev mutual
  pub IsShortTree : ℕ → PlainKeyed → Type 0
  IsShortTree b (inner l ks) = IsShortLabel b l × AreShortKids b ks
  IsShortTree b (leaf l v) = IsShortLabel b l × IsShortBody b v

  pub AreShortKids : ℕ → PlainKids → Type 0
  AreShortKids b no_kids = ⊤
  AreShortKids b (kid k ks) = IsShortTree b k × AreShortKids b ks

-- ---- calls

-- each label and body that it is given is short, and each set takes at most so many bytes, maybe with the version n
abbrev pub IsShortCall : ℕ → ℕ → WriterCall → Type 0
IsShortCall b n (call_inner l s set) = IsShortLabel b l × IsShortStamp b n s × IsShortSet b n set
IsShortCall b n (call_leaf l s set) = IsShortLabel b l × IsShortStamp b n s × IsShortSet b n set
IsShortCall b n (call_alt s v) = IsShortStamp b n s × IsShortBody b v
IsShortCall b n call_end_leaf = ⊤
IsShortCall b n call_end_inner = ⊤
IsShortCall b n call_finish = ⊤
