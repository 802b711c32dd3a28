-- What the item that was given says of the bytes that stand there.
use Rattle.std.proofs.Common.{◌≡◌, ℕ, List, [], ◌∷◌, ◌++◌, map, Option, Some, None, refl, sym, ap, subst, ◌∙◌, append_assoc, arith}
use Rattle.std.specs.List.{flat_map}
use Rattle.archive_tree.specs.Data.{PlainAlt}
use Rattle.record_format.specs.Bounds.{IsRec}
use Rattle.record_format.specs.Data.{PlainRec, inner_rec, leaf_rec, alt_rec, end_rec, leaf_end}
use Rattle.record_format.specs.Nodes.{alt_of}
use Rattle.record_format.specs.Reading.{record_at}
use Rattle.record_format.specs.Spelling.{rec_bytes}
use Rattle.record_format.proofs.Records.{record_reads}
use Rattle.record_format.proofs.Pieces.{one-record}
use Rattle.archive_file.specs.Laid.{AltsAt}
use Rattle.record_cursor.specs.Items.{PlainItem, inner_item, leaf_item, alt_item, leaf_end_item, end_item, finish, item_of}
use Rattle.record_cursor.specs.Places.{Standing, among_nodes, in_leaf, after_item}
use Rattle.record_cursor.specs.Next.{next_of}
use Rattle.record_cursor.proofs.Items.{next-record}

-- ---- what was read is what is spelled

-- the record of an item other than an END
abbrev record_like : PlainItem → PlainRec → PlainRec
record_like (inner_item l s) r = inner_rec l s
record_like (leaf_item l s) r = leaf_rec l s
record_like (alt_item s b) r = alt_rec s b
record_like leaf_end_item r = leaf_end
record_like (end_item n) r = r
record_like finish r = r

like-itself : (r : PlainRec) → record_like (item_of r) r ≡ r
like-itself (inner_rec l s) = refl
like-itself (leaf_rec l s) = refl
like-itself (alt_rec s b) = refl
like-itself (end_rec d) = refl
like-itself leaf_end = refl

-- the record that stands there is the one of which the item is
pub record-is : (r : PlainRec) (now rest : List ℕ) → ((other : PlainRec) → record_like (item_of r) other ≡ r) → (q : PlainRec) × IsRec q × (item_of q ≡ item_of r) × (now ≡ rec_bytes q ++ rest) → IsRec r × (now ≡ rec_bytes r ++ rest)
record-is r now rest only (q, is, same, bytes) =
    let one : q ≡ r = sym (like-itself q) ∙ ap (λ (i : PlainItem). record_like i q) same ∙ only q in
    (subst IsRec one is, bytes ∙ ap (λ (z : PlainRec). rec_bytes z ++ rest) one)

pub leaf-end-is : IsRec leaf_end
leaf-end-is = record { body = tt; short = omega arith }

-- ---- what is spelled is what comes

-- a record that lies there is read
pub read-there : (r : PlainRec) (now rest : List ℕ) → IsRec r → now ≡ rec_bytes r ++ rest → record_at now ≡ Some (r, rest)
read-there r now rest h e = ap record_at e ∙ record_reads.again r rest h

none-next : (s t : Standing) (r : PlainRec) (rest : List ℕ) → (o : Option (PlainItem × (Standing × List ℕ))) → o ≡ Some (item_of r, (t, rest)) → o ≡ None → ⊥
none-next s t r rest (Some x) e f = cc
none-next s t r rest None e f = cc

-- and comes, where it may
pub comes-there : (s t : Standing) (r : PlainRec) (now rest : List ℕ) → IsRec r → after_item s (item_of r) ≡ Some t → now ≡ rec_bytes r ++ rest → next_of s now ≡ None → ⊥
comes-there s t r now rest h may e none = none-next s t r rest (next_of s now) (ap (next_of s) e ∙ next-record s t r rest h may) none

-- the alternatives of a leaf, or its end, come
pub alternatives-come : (xs : List PlainAlt) (rest now : List ℕ) (d : ℕ) → AltsAt xs rest now → next_of (in_leaf d) now ≡ None → ⊥
alternatives-come [] rest now d h e = comes-there (in_leaf d) (among_nodes d) leaf_end now rest h.records.0 refl (h.bytes ∙ ap (λ (z : List ℕ). z ++ rest) (one-record leaf_end)) e
alternatives-come (x ∷ xs) rest now d h e =
    let more = map alt_of xs ++ leaf_end ∷ [] in
    comes-there (in_leaf d) (in_leaf d) (alt_of x) now (flat_map rec_bytes more ++ rest) h.records.0 refl (h.bytes ∙ append_assoc (rec_bytes (alt_of x)) (flat_map rec_bytes more) rest) e
