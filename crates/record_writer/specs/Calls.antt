-- What each call of a writer appends, which calls it can follow, and what the writer holds afterwards.
use Rattle.std.specs.Prelude.{ℕ, ◌+◌, ◌-◌, ◌^◌, ◌<◌, ◌≤◌, List, [], ◌∷◌, ◌++◌, length, Option, Some, None, ⊤}
use Rattle.key_spec.specs.Data.{PlainRule}
use Rattle.xa_fields.specs.Spelling.{u64_bytes}
use Rattle.record_parts.specs.Shapes.{FitsLabel, FitsValue}
use Rattle.record_format.specs.Data.{inner_rec, leaf_rec, alt_rec, end_rec, leaf_end}
use Rattle.record_format.specs.Spelling.{dir_bytes, rec_bytes}
use Rattle.record_format.specs.Files.{header_bytes, longest}
use Rattle.record_writer.specs.Data.{OpenRow, OpenInner, OpenLeaf, PlainWriter, WriterCall, call_inner, call_leaf, call_alt, call_end_leaf, call_end_inner, call_finish}

-- ---- what is appended

-- a record each; at the end that of the virtual root, and the length of its body
abbrev pub appended : PlainWriter → WriterCall → List ℕ
appended w (call_inner l s set) = rec_bytes (inner_rec l s)
appended w (call_leaf l s set) = rec_bytes (leaf_rec l s)
appended w (call_alt s b) = rec_bytes (alt_rec s b)
appended w call_end_leaf = rec_bytes leaf_end
appended w call_end_inner = rec_bytes (end_rec w.row.dir)
appended w call_finish = rec_bytes (end_rec w.row.dir) ++ u64_bytes (length (dir_bytes w.row.dir))

-- ---- what fits

-- Which lengths and counts fit. Of a directory it is the number of children: the offsets and lengths in it are at most that
-- of the whole.
abbrev pub FitsParts : PlainWriter → WriterCall → Type 0
FitsParts w (call_inner l s set) = FitsLabel l
FitsParts w (call_leaf l s set) = FitsLabel l
FitsParts w (call_alt s b) = FitsValue b
FitsParts w call_end_leaf = ⊤
FitsParts w call_end_inner = length w.row.dir.entries < 2 ^ 32
FitsParts w call_finish = length w.row.dir.entries < 2 ^ 32

-- And all bytes up to the call's last are not too many; then the length of the record's body fits its field too.
pub record Fits (w : PlainWriter) (c : WriterCall) : Type 0 where
  pub parts : FitsParts w c
  pub short : w.written + length (appended w c) ≤ longest

-- ---- what is held afterwards

-- a row without children, the first of which will begin at the offset
abbrev pub row_from : ℕ → OpenRow
row_from at = record { start = at; dir = record { entries = []; sets = [] } }

-- the row with one more child: where it begins and ends, the length of the body of its END or 0, and its effective set
abbrev pub with_child : OpenRow → ℕ → ℕ → ℕ → List (ℕ × ℕ) → OpenRow
with_child row begin end dir set =
    record {
      start = row.start;
      dir = record {
        entries = row.dir.entries ++ record { start = begin - row.start; length = end - begin; dir = dir } ∷ [];
        sets = row.dir.sets ++ set ∷ [];
      };
    }

-- behind the header nothing stands begun
abbrev pub started : List PlainRule → ℕ → PlainWriter
started rules n =
    let at = length (header_bytes rules n) in
    record { written = at; row = row_from at; inners = []; leaf = None }

abbrev pub inner_begun : PlainWriter → List (ℕ × ℕ) → ℕ → PlainWriter
inner_begun w set end =
    record { written = end; row = row_from end; inners = record { begin = w.written; set = set; row = w.row } ∷ w.inners; leaf = w.leaf }

abbrev pub leaf_begun : PlainWriter → List (ℕ × ℕ) → ℕ → PlainWriter
leaf_begun w set end = record { written = end; row = w.row; inners = w.inners; leaf = Some (record { begin = w.written; set = set }) }

-- only more bytes
abbrev pub moved_on : PlainWriter → ℕ → PlainWriter
moved_on w end = record { written = end; row = w.row; inners = w.inners; leaf = w.leaf }

-- the leaf that stands begun becomes a child of its row
abbrev pub leaf_ended : PlainWriter → Option OpenLeaf → ℕ → PlainWriter
leaf_ended w None end = moved_on w end
leaf_ended w (Some l) end = record { written = end; row = with_child w.row l.begin end 0 l.set; inners = w.inners; leaf = None }

-- the inner node that was begun last becomes a child of its row
abbrev pub inner_ended : PlainWriter → List OpenInner → ℕ → PlainWriter
inner_ended w [] end = moved_on w end
inner_ended w (i ∷ is) end =
    record { written = end; row = with_child i.row i.begin end (length (dir_bytes w.row.dir)) i.set; inners = is; leaf = w.leaf }

abbrev pub after_to : PlainWriter → WriterCall → ℕ → PlainWriter
after_to w (call_inner l s set) end = inner_begun w set end
after_to w (call_leaf l s set) end = leaf_begun w set end
after_to w (call_alt s b) end = moved_on w end
after_to w call_end_leaf end = leaf_ended w w.leaf end
after_to w call_end_inner end = inner_ended w w.inners end
after_to w call_finish end = moved_on w end

-- what the writer holds after a call that appended
abbrev pub after : PlainWriter → WriterCall → PlainWriter
after w c = after_to w c (w.written + length (appended w c))

-- ---- several calls

-- what calls append, one after the other
abbrev pub all_appended : PlainWriter → List WriterCall → List ℕ
all_appended w [] = []
all_appended w (c ∷ cs) = appended w c ++ all_appended (after w c) cs

abbrev pub after_all : PlainWriter → List WriterCall → PlainWriter
after_all w [] = w
after_all w (c ∷ cs) = after_all (after w c) cs

-- each of the calls fits, made one after the other
abbrev pub AllFit : PlainWriter → List WriterCall → Type 0
AllFit w [] = ⊤
AllFit w (c ∷ cs) = Fits w c × AllFit (after w c) cs
