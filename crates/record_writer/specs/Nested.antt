-- How what a writer holds lies in the file.
use Rattle.std.specs.Prelude.{ℕ, ◌≤◌, List, [], ◌∷◌, Option, Some, None, ⊤}
use Rattle.std.specs.Coded.{Unit-prop, le_prop}
use Rattle.record_writer.specs.Data.{OpenInner, OpenLeaf, PlainWriter}

-- each node begins at the offset or before it, and the row that it stands in at the node or before it
abbrev pub AreBefore : ℕ → List OpenInner → Type 0
AreBefore at [] = ⊤
AreBefore at (i ∷ is) = (i.begin ≤ at) × (i.row.start ≤ i.begin) × AreBefore i.row.start is

-- the leaf, if there is one, begins between the offsets
abbrev pub IsBetween : ℕ → ℕ → Option OpenLeaf → Type 0
IsBetween low high None = ⊤
IsBetween low high (Some l) = (low ≤ l.begin) × (l.begin ≤ high)

-- the row begins behind the nodes that stand begun, and the leaf in the row
abbrev pub IsNested : PlainWriter → Type 0
IsNested w = (w.row.start ≤ w.written) × AreBefore w.row.start w.inners × IsBetween w.row.start w.written w.leaf

AreBefore-prop : (at : ℕ) (is : List OpenInner) → IsProp (AreBefore at is)
AreBefore-prop at [] = Unit-prop
AreBefore-prop at (i ∷ is) = hlevel (le_prop, AreBefore-prop i.row.start is)

IsBetween-prop : (low high : ℕ) (l : Option OpenLeaf) → IsProp (IsBetween low high l)
IsBetween-prop low high None = Unit-prop
IsBetween-prop low high (Some l) = hlevel le_prop

pub IsNested-prop : (w : PlainWriter) → IsProp (IsNested w)
IsNested-prop w = hlevel (le_prop, AreBefore-prop w.row.start w.inners, IsBetween-prop w.row.start w.written w.leaf)
