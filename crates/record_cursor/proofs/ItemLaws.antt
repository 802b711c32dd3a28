-- Items that come one after another, and the records that they are of.
use Rattle.std.proofs.Common.{◌≡◌, ℕ, ◌==◌, Bool, true, false, cond, IsTrue, List, [], ◌∷◌, ◌++◌, length, drop, Option, Some, None, refl, sym, ap, subst, ◌∙◌}
use Rattle.std.specs.Option.{option_map}
use Rattle.key_spec.specs.Data.{PlainRule}
use Rattle.archive_tree.specs.Data.{PlainArchive}
use Rattle.xa_fields.specs.Reading.{◌>>=◌}
use Rattle.xa_fields.specs.Laws.{IsBytes}
use Rattle.xa_fields.proofs.Fields.{bind_some, some_is}
use Rattle.xa_outside.specs.Folder.{Files, front_of}
use Rattle.xa_outside.specs.Numbers.{Numbers, PullsAtMost}
use Rattle.record_parts.specs.Bounds.{deepest}
use Rattle.record_format.specs.Bounds.{IsRec}
use Rattle.record_format.specs.Data.{PlainRec, inner_rec, leaf_rec, alt_rec, end_rec, leaf_end}
use Rattle.record_format.specs.Files.{HasFile, header_bytes, file_bytes}
use Rattle.record_format.specs.Nested.{are_nested}
use Rattle.record_format.specs.Reading.{record_of, frame_at, record_at}
use Rattle.record_format.specs.Spelling.{rec_bytes}
use Rattle.record_format.specs.Whole.{has_parts}
use Rattle.record_format.proofs.Records.{record_reads}
use Rattle.record_cursor.specs.Items.{PlainItem, inner_item, leaf_item, alt_item, leaf_end_item, end_item, finish, item_of, items_of}
use Rattle.record_cursor.specs.Places.{Standing, among_nodes, in_leaf, behind_root, finished, after_item}
use Rattle.record_cursor.specs.Next.{item_in, record_item_at, item_at, next_of, Gives, read_for}
use Rattle.record_cursor.specs.Moves.{TellsFront, Comes, Goes}
use Rattle.record_cursor.specs.Steps.{IsRead, read_item}
use Rattle.record_cursor.specs.View.{PlainCursor, shown_item}
use Rattle.record_cursor.specs.declared.item.Read.{Read}
use Rattle.record_cursor.specs.declared.item.Read.TheVariants as read
use Rattle.record_cursor.specs.declared.item.Item.{Item}
use Rattle.record_cursor.proofs.Items.{file-gives}

-- ---- a cursor that moves

abbrev Found : Type 0
Found = PlainItem × (Standing × List ℕ)

-- the item that is given is the one that comes, and those behind it come next
pub comes-on : (told : Option Files) (old new : PlainCursor) (item : Item) (i : PlainItem) (is : List PlainItem) → Comes told old (i ∷ is) → Goes told old item new → (shown_item item ≡ i) × Comes told new is
comes-on told old new item i is h g =
    let given = h.gives in
    let same : ◌≡◌ {A = Found} (shown_item item, (new.standing, drop new.at h.bytes)) (i, (given.0, given.1)) =
    some_is (shown_item item, (new.standing, drop new.at h.bytes)) (i, (given.0, given.1)) (sym (g.comes h.bytes h.tells) ∙ given.2) in
    let stands : given.0 ≡ new.standing = ap (λ (x : Found). x.1.0) (sym same) in
    let left : given.1 ≡ drop new.at h.bytes = ap (λ (x : Found). x.1.1) (sym same) in (
      ap (λ (x : Found). x.0) same,
      record {
        bytes = h.bytes;
        tells = subst (λ (n : List ℕ). TellsFront told n new.length h.bytes) (sym g.same_name) (subst (λ (n : ℕ). TellsFront told old.name n h.bytes) (sym g.same_length) h.tells);
        standing = h.standing;
        rest = h.rest;
        gives = subst (λ (s : Standing). Gives s (drop new.at h.bytes) is h.standing h.rest) stands (subst (λ (bs : List ℕ). Gives given.0 bs is h.standing h.rest) left given.3);
      },
    )

no-some : (o : Option Found) (x : Found) → o ≡ Some x → o ≡ None → ⊥
no-some (Some y) x e f = cc
no-some None x e f = cc

-- where an item comes, something stands
pub comes-some : (told : Option Files) (c : PlainCursor) (i : PlainItem) (is : List PlainItem) (h : Comes told c (i ∷ is)) → next_of c.standing (drop c.at h.bytes) ≡ None → ⊥
comes-some told c i is h none = (let given = h.gives in no-some (next_of c.standing (drop c.at h.bytes)) (i, (given.0, given.1)) given.2 none)

-- no more is pulled than is read for the item that comes
abbrev pub PullsComing : Option Files → Numbers → Numbers → PlainCursor → Type 0
PullsComing told before now c = (i : PlainItem) (is : List PlainItem) → Comes told c (i ∷ is) → PullsAtMost (read_for c.standing i) before now

pub pulls-coming : (told : Option Files) (name : List ℕ) (c : PlainCursor) (before now : Numbers) → name ≡ c.name
    → ((bytes rest : List ℕ) (i : PlainItem) (t : Standing) → TellsFront told name c.length bytes → next_of c.standing (drop c.at bytes) ≡ Some (i, (t, rest)) → PullsAtMost (read_for c.standing i) before now)
    → PullsComing told before now c
pulls-coming told name c before now named only i is h =
    let given = h.gives in
    only h.bytes given.1 i given.0 (subst (λ (n : List ℕ). TellsFront told n c.length h.bytes) (sym named) h.tells) given.2

-- the end of the file is always lent
pub no-end : (step : Read) (buffer : List ℕ) → step ≡ read.Finish → read_item step buffer ≡ None → ⊥
no-end step buffer is none = no-item (ap (λ (r : Read). read_item r buffer) (sym is) ∙ none)
  where
    no-item : ◌≡◌ {A = Option PlainItem} (Some finish) None → ⊥
    no-item e = cc

-- the items of an archive come at the first record of its file
pub comes-first : (files : Files) (name : List ℕ) (rules : List PlainRule) (a : PlainArchive) (c : PlainCursor) → HasFile rules a → IsTrue (are_nested deepest a.kids) → front_of files name c.length ≡ Some (file_bytes rules a)
    → c.name ≡ name → c.standing ≡ among_nodes 0 → c.at ≡ length (header_bytes rules a.n) → Comes (Some files) c (items_of a)
comes-first files name rules a c has nested front named stands at = record {
  bytes = file_bytes rules a;
  tells = (files, refl, ap (λ (n : List ℕ). front_of files n c.length) named ∙ front);
  standing = finished;
  rest = [];
  gives = subst (λ (s : Standing). Gives s (drop c.at (file_bytes rules a)) (items_of a) finished []) (sym stands)
      (subst (λ (n : ℕ). Gives (among_nodes 0) (drop n (file_bytes rules a)) (items_of a) finished []) (sym at) (file-gives rules a has nested));
}

-- ---- the record of an item

-- the record that an item with parts is of
abbrev rec_of : PlainItem → PlainRec → PlainRec
rec_of (inner_item l s) r = inner_rec l s
rec_of (leaf_item l s) r = leaf_rec l s
rec_of (alt_item s b) r = alt_rec s b
rec_of leaf_end_item r = r
rec_of (end_item n) r = r
rec_of finish r = r

rec-again : (r : PlainRec) → rec_of (item_of r) r ≡ r
rec-again (inner_rec l s) = refl
rec-again (leaf_rec l s) = refl
rec-again (alt_rec s b) = refl
rec-again (end_rec d) = refl
rec-again leaf_end = refl

rec-parts : (r other : PlainRec) → IsTrue (has_parts r) → rec_of (item_of r) other ≡ r
rec-parts (inner_rec l s) other h = refl
rec-parts (leaf_rec l s) other h = refl
rec-parts (alt_rec s b) other h = refl
rec-parts (end_rec d) other h = absurd cc
rec-parts leaf_end other h = absurd cc

same-rec : (o : Option PlainRec) (r : PlainRec) → IsTrue (has_parts r) → option_map item_of o ≡ Some (item_of r) → o ≡ Some r
same-rec (Some x) r h e = ap Some (sym (rec-again x) ∙ ap (λ (i : PlainItem). rec_of i x) (some_is (item_of x) (item_of r) e) ∙ rec-parts r x h)
same-rec None r h e = absurd cc

not-end : (n : ℕ) (r : PlainRec) → IsTrue (has_parts r) → end_item n ≡ item_of r → ⊥
not-end n (inner_rec l s) h e = cc
not-end n (leaf_rec l s) h e = cc
not-end n (alt_rec s b) h e = cc
not-end n (end_rec d) h e = cc
not-end n leaf_end h e = cc

not-finish : (r : PlainRec) → finish ≡ item_of r → ⊥
not-finish (inner_rec l s) e = cc
not-finish (leaf_rec l s) e = cc
not-finish (alt_rec s b) e = cc
not-finish (end_rec d) e = cc
not-finish leaf_end e = cc

-- the end is lent of nothing else
pub read-finish : (step : Read) (held : ℕ) (i : PlainItem) → IsRead step held i → i ≡ finish → step ≡ read.Finish
read-finish (read.Parts kind) held i (r, of, parts, kind_is, size) e = absurd (not-finish r (sym (of ∙ e)))
read-finish read.LeafEnd held i is e = absurd (clash (sym is ∙ e))
  where
    clash : leaf_end_item ≡ finish → ⊥
    clash e = cc
read-finish (read.End n) held i is e = absurd (clash (sym is ∙ e))
  where
    clash : end_item n ≡ finish → ⊥
    clash e = cc
read-finish read.Finish held i is e = refl

body-of : (b : Bool) (n : ℕ) (o : Option PlainRec) (r : PlainRec) → IsTrue (has_parts r) → cond b (Some (end_item n)) (option_map item_of o) ≡ Some (item_of r) → o ≡ Some r
body-of true n o r h e = absurd (not-end n r h (some_is (end_item n) (item_of r) e))
body-of false n o r h e = same-rec o r h e

record-there : (bytes rest : List ℕ) (r : PlainRec) → IsTrue (has_parts r) → record_item_at bytes ≡ Some (item_of r, rest) → record_at bytes ≡ Some (r, rest)
unfolding record_item_at record_at
record-there bytes rest r h e =
    let f = bind_some (frame_at bytes) (λ f. item_in f.0.0 f.0.1 >>= λ i. Some (i, f.1)) (item_of r, rest) e in
    let i = bind_some (item_in f.0.0.0 f.0.0.1) (λ i. Some (i, f.0.1)) (item_of r, rest) f.2 in
    let same = some_is (i.0, f.0.1) (item_of r, rest) i.2 in
    let is : item_in f.0.0.0 f.0.0.1 ≡ Some (item_of r) = i.1 ∙ ap (λ (x : PlainItem × List ℕ). Some x.0) same in
    let read : record_of f.0.0.0 f.0.0.1 ≡ Some r = body-of (f.0.0.0 == 4) (length f.0.0.1) (record_of f.0.0.0 f.0.0.1) r h is in
    let frame = f.1 in
    rw frame (rw read (ap (λ (x : PlainItem × List ℕ). Some (r, x.1)) same))

tail-not : (b : Bool) (r : PlainRec) (rest : List ℕ) → cond {A = Option (PlainItem × List ℕ)} b (Some (finish, [])) None ≡ Some (item_of r, rest) → ⊥
tail-not true r rest e = not-finish r (ap (λ (x : PlainItem × List ℕ). x.0) (some_is (finish, []) (item_of r, rest) e))
tail-not false r rest e = cc

-- only a record gives the item of one
item-there : (s : Standing) (bytes rest : List ℕ) (r : PlainRec) → item_at s bytes ≡ Some (item_of r, rest) → record_item_at bytes ≡ Some (item_of r, rest)
item-there (among_nodes depth) bytes rest r e = e
item-there (in_leaf depth) bytes rest r e = e
item-there (behind_root n) bytes rest r e = absurd (tail-not _ r rest e)
item-there finished bytes rest r e = absurd (not-finish r (ap (λ (x : PlainItem × List ℕ). x.0) (some_is (finish, bytes) (item_of r, rest) e)))

-- where the item of a record with parts comes, its bytes stand
pub record-of : (s t : Standing) (r : PlainRec) (bytes rest : List ℕ) → IsBytes bytes → IsTrue (has_parts r) → next_of s bytes ≡ Some (item_of r, (t, rest)) → IsRec r × (bytes ≡ rec_bytes r ++ rest)
unfolding next_of
record-of s t r bytes rest fits h e =
    let x = bind_some (item_at s bytes) (λ x. after_item s x.0 >>= λ u. Some (x.0, (u, x.1))) (item_of r, (t, rest)) e in
    let u = bind_some (after_item s x.0.0) (λ u. Some (x.0.0, (u, x.0.1))) (item_of r, (t, rest)) x.2 in
    let same = some_is (x.0.0, (u.0, x.0.1)) (item_of r, (t, rest)) u.2 in
    let item : item_at s bytes ≡ Some (item_of r, rest) = x.1 ∙ ap (λ (y : Found). Some (y.0, y.1.1)) same in
    let read = record_reads.takes bytes (r, rest) fits (record-there bytes rest r h (item-there s bytes rest r item)) in
    (read.fits, read.takes.parts)
