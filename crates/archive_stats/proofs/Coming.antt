-- Counting the records that come, one after another.
use Rattle.std.proofs.Common.{◌≡◌, ◌≢◌, ℕ, zero, suc, nat_lt, ◌+◌, ◌-◌, ◌*◌, ◌<◌, ◌≤◌, List, [], ◌∷◌, ◌++◌, length, map, Option, Some, None, Result, Ok, Err, refl, sym, ap, subst, ◌∙◌, arith}
use Rattle.std.proofs.lemmas.List.Sums.{sum_by-cons}
use Rattle.std.specs.Prelude.{IfOk}
use Rattle.std.specs.FinMap as finite
use Rattle.xa_fields.specs.FieldLaws.{some_is, passed_some}
use Rattle.record_parts.specs.Bounds.{deepest}
use Rattle.xa_outside.specs.Causes.{Rose}
use Rattle.xa_outside.specs.Folder.{Files, bytes_or_none}
use Rattle.xa_outside.specs.Numbers.{PullsAtMost, after_pull}
use Rattle.xa_outside.specs.NumberLaws.{PullsAtMost-of, PullsAtMost-more, PullsAtMost-trans}
use Rattle.record_format.specs.Data.{PlainRec, inner_rec, leaf_rec, alt_rec, end_rec, leaf_end}
use Rattle.record_format.specs.Files.{weight}
use Rattle.record_cursor.specs.Faults.{IfDamage, IfFolder}
use Rattle.record_cursor.specs.Items.{PlainItem, inner_item, leaf_item, alt_item, leaf_end_item, end_item, finish, item_of}
use Rattle.record_cursor.specs.Moves.{Comes, Goes, Moves}
use Rattle.record_cursor.specs.Next.{read_for, size_of}
use Rattle.record_cursor.specs.Places.{Standing, among_nodes, in_leaf, behind_root, finished, after_item}
use Rattle.record_cursor.specs.Steps.{fault_of, IsCause, Filled}
use Rattle.record_cursor.specs.View.{PlainCursor, shown_item}
use Rattle.record_cursor.specs.declared.fault.CursorFault.{CursorFault}
use Rattle.record_cursor.specs.declared.fault.CursorFault.TheVariants as fault
use Rattle.record_cursor.specs.declared.item.Item.{Item}
use Rattle.record_cursor.specs.declared.item.Item.TheVariants as item
use Rattle.record_cursor.proofs.ItemLaws.{comes-on}
use Rattle.record_cursor.proofs.Pulled.{read-within, size-least}
use Rattle.archive_stats.specs.Counted.{Seen, RecordsCome, read_by, RecordsCounted}
use Rattle.archive_stats.specs.Counts.{PlainCounts}
use Rattle.archive_tree.specs.Data.{Stamp}
use Rattle.archive_stats.specs.Tally.{is_stored, with_parts, with_size, counted, tallied, read_in, FitIn}
use Rattle.archive_stats.specs.View.{counts_view}
use Rattle.archive_stats.specs.declared.counts.Counts.{Counts}
use Rattle.archive_stats.proofs.Tallies.{same-counts}
use Rattle.archive_stats.proofs.Weights.{read-weight}

-- ---- what the cursor answered

-- the cursor gave the item
pub record Given (c d : PlainCursor) (s t : Seen) (i : Item) : Type 0 where
  pub files : t.files ≡ s.files
  pub draft : t.draft ≡ s.draft
  pub numbers : t.numbers ≡ after_pull s.numbers (read_for c.standing (shown_item i))
  pub later : s.faults ≤ t.faults
  pub goes : Goes s.files c i d
  pub whole : (files : Files) → s.files ≡ Some files → c.standing ≢ finished → shown_item i ≡ finish → c.length ≤ length (bytes_or_none (finite.get files c.name))

pub given : (c d : PlainCursor) (s t : Seen) (r : Result Item CursorFault) (i : Item) → r ≡ Ok i → t.files ≡ s.files → t.draft ≡ s.draft → t.numbers ≡ after_pull s.numbers (read_for c.standing (shown_item i)) → s.faults ≤ t.faults
    → Moves s.files c r d → ((files : Files) → s.files ≡ Some files → c.standing ≢ finished → IfOk r (λ i. shown_item i ≡ finish → c.length ≤ length (bytes_or_none (finite.get files c.name)))) → Given c d s t i
given c d s t r i is files draft numbers later moves whole = record {
  files = files;
  draft = draft;
  numbers = numbers;
  later = later;
  goes = subst (λ (x : Result Item CursorFault). Moves s.files c x d) is moves;
  whole = λ fs told going. subst (λ (x : Result Item CursorFault). IfOk x (λ i. shown_item i ≡ finish → c.length ≤ length (bytes_or_none (finite.get fs c.name)))) is (whole fs told going);
}

-- behind a record a cursor is not behind the end
not-behind : (s t : Standing) (i : PlainItem) → i ≢ finish → after_item s i ≡ Some t → t ≢ finished
not-behind (among_nodes depth) t (inner_item l x) h e = λ f. (let p = passed_some (nat_lt depth deepest) (among_nodes (suc depth)) t e in clash (p.1 ∙ f))
  where
    clash : among_nodes (suc depth) ≡ finished → ⊥
    clash g = cc
not-behind (among_nodes depth) t (leaf_item l x) h e = λ f. clash (some_is (in_leaf depth) t e ∙ f)
  where
    clash : in_leaf depth ≡ finished → ⊥
    clash g = cc
not-behind (among_nodes depth) t (alt_item x b) h e = λ f. absurd cc
not-behind (among_nodes depth) t leaf_end_item h e = λ f. absurd cc
not-behind (among_nodes zero) t (end_item n) h e = λ f. clash (some_is (behind_root n) t e ∙ f)
  where
    clash : behind_root n ≡ finished → ⊥
    clash g = cc
not-behind (among_nodes (suc depth)) t (end_item n) h e = λ f. clash (some_is (among_nodes depth) t e ∙ f)
  where
    clash : among_nodes depth ≡ finished → ⊥
    clash g = cc
not-behind (among_nodes depth) t finish h e = λ f. absurd cc
not-behind (in_leaf depth) t (inner_item l x) h e = λ f. absurd cc
not-behind (in_leaf depth) t (leaf_item l x) h e = λ f. absurd cc
not-behind (in_leaf depth) t (alt_item x b) h e = λ f. clash (some_is (in_leaf depth) t e ∙ f)
  where
    clash : in_leaf depth ≡ finished → ⊥
    clash g = cc
not-behind (in_leaf depth) t leaf_end_item h e = λ f. clash (some_is (among_nodes depth) t e ∙ f)
  where
    clash : among_nodes depth ≡ finished → ⊥
    clash g = cc
not-behind (in_leaf depth) t (end_item n) h e = λ f. absurd cc
not-behind (in_leaf depth) t finish h e = λ f. absurd cc
not-behind (behind_root n) t i h e = λ f. absurd (last i h e)
  where
    last : (i : PlainItem) → i ≢ finish → after_item (behind_root n) i ≡ Some t → ⊥
    last (inner_item l x) h e = cc
    last (leaf_item l x) h e = cc
    last (alt_item x b) h e = cc
    last leaf_end_item h e = cc
    last (end_item n) h e = cc
    last finish h e = h refl
not-behind finished t i h e = λ f. absurd (last i h e)
  where
    last : (i : PlainItem) → i ≢ finish → after_item finished i ≡ Some t → ⊥
    last (inner_item l x) h e = cc
    last (leaf_item l x) h e = cc
    last (alt_item x b) h e = cc
    last leaf_end_item h e = cc
    last (end_item n) h e = cc
    last finish h e = h refl

-- the items that are records
pub no-finish : (i : Item) → i ≢ item.Finish → shown_item i ≢ finish
no-finish (item.Inner l s) h = λ e. absurd cc
no-finish (item.Leaf l s) h = λ e. absurd cc
no-finish (item.Alt s b) h = λ e. absurd cc
no-finish item.LeafEnd h = λ e. absurd cc
no-finish (item.End n) h = λ e. absurd cc
no-finish item.Finish h = λ e. h refl

record-not-finish : (r : PlainRec) → finish ≡ item_of r → ⊥
record-not-finish (inner_rec l s) e = cc
record-not-finish (leaf_rec l s) e = cc
record-not-finish (alt_rec s b) e = cc
record-not-finish (end_rec d) e = cc
record-not-finish leaf_end e = cc

-- what is read for a record is the same wherever it comes
read-same : (s : Standing) (i : PlainItem) → i ≢ finish → read_for s i ≡ read_in i
read-same s (inner_item l t) h = refl
read-same s (leaf_item l t) h = refl
read-same s (alt_item t b) h = refl
read-same s leaf_end_item h = refl
read-same s (end_item n) h = refl
read-same s finish h = absurd (h refl)

read-finish : (s : Standing) → read_for s finish ≤ 8
read-finish (among_nodes depth) = omega arith
read-finish (in_leaf depth) = omega arith
read-finish (behind_root n) = omega arith
read-finish finished = omega arith

-- the bytes by which the cursor moves over a record with parts are those that are read
pub size-read : (s : Standing) (i : Item) → i ≢ item.Finish → ((n : ℕ) → i ≢ item.End n) → size_of s (shown_item i) ≡ read_in (shown_item i)
size-read s (item.Inner l t) f e = refl
size-read s (item.Leaf l t) f e = refl
size-read s (item.Alt t b) f e = refl
size-read s item.LeafEnd f e = refl
size-read s (item.End n) f e = absurd (e n refl)
size-read s item.Finish f e = absurd (f refl)

-- ---- one record more

pub cause-later : (a b c : ℕ) (e : Option CursorFault) → a ≤ b → IsCause b c e → IsCause a c e
cause-later a b c None le h = tt
cause-later a b c (Some fault.Damage) le h = tt
cause-later a b c (Some fault.Folder) le h = omega (arith, le, h)
cause-later a b c (Some fault.Memory) le h = tt

sums : (r : PlainRec) (rs : List PlainRec) → read_by (r ∷ rs) ≡ weight r + read_by rs
sums r rs = omega (arith, sum_by-cons weight r rs)

module _ (k : PlainCounts) (c d : PlainCursor) (s t : Seen) (i : Item) (g : Given c d s t i) where
  -- the first of the records is the one that was given
  record Taken (rs : List PlainRec) : Type 0 where
    first : PlainRec
    others : List PlainRec
    all : rs ≡ first ∷ others
    is : shown_item i ≡ item_of first
    next : RecordsCome t.files d others

  taken : shown_item i ≢ finish → (rs : List PlainRec) → RecordsCome s.files c rs → Taken rs
  taken some [] h = absurd (some (comes-on s.files c d i finish [] h g.goes).0)
  taken some (r ∷ rs) h =
      let on = comes-on s.files c d i (item_of r) (map item_of rs ++ finish ∷ []) h g.goes in
      record { first = r; others = rs; all = refl; is = on.0; next = subst (λ (f : Option Files). RecordsCome f d rs) (sym g.files) on.1 }

  module _ (u : Seen) (r : Result Counts CursorFault) (some : shown_item i ≢ finish) (h : RecordsCounted (counted k (shown_item i)) d t u r) where
    filled-on : (q : Result Counts CursorFault) (rs : List PlainRec) → (x : Taken rs) → Filled q (λ e. counts_view e ≡ tallied (counted k (shown_item i)) x.others) → Filled q (λ e. counts_view e ≡ tallied k rs)
    filled-on (Ok e) rs x f = f ∙ ap (λ (j : PlainItem). tallied (counted k j) x.others) x.is ∙ ap (tallied k) (sym x.all)
    filled-on (Err e) rs x f = f

    few-on : (rs : List PlainRec) → Taken rs → PullsAtMost (read_by rs) s.numbers u.numbers
    few-on rs x =
        let one : read_for c.standing (shown_item i) ≡ weight x.first = read-same c.standing (shown_item i) some ∙ ap read_in x.is ∙ read-weight x.first in
        let pulled = PullsAtMost-of (weight x.first) (read_for c.standing (shown_item i)) s.numbers t.numbers (omega (arith, one)) g.numbers in
        subst (λ (n : ℕ). PullsAtMost n s.numbers u.numbers) (sym (ap read_by x.all ∙ sums x.first x.others)) (PullsAtMost-trans (weight x.first) (read_by x.others) s.numbers t.numbers u.numbers pulled (h.few x.others x.next))

    whole-on : (q : Result Counts CursorFault) (fs : Files) → IfOk q (λ e. d.length ≤ length (bytes_or_none (finite.get fs d.name))) → IfOk q (λ e. c.length ≤ length (bytes_or_none (finite.get fs c.name)))
    whole-on (Ok e) fs le = (let goes = g.goes in subst (λ (n : List ℕ). c.length ≤ length (bytes_or_none (finite.get fs n))) goes.same_name (subst (λ (n : ℕ). n ≤ length (bytes_or_none (finite.get fs d.name))) goes.same_length le))
    whole-on (Err e) fs le = tt

    pub counted-on : RecordsCounted k c s u r
    counted-on =
        let goes = g.goes in
        let least = read-within c.standing (shown_item i) in
        let pulled = PullsAtMost-of (size_of c.standing (shown_item i)) (read_for c.standing (shown_item i)) s.numbers t.numbers least g.numbers in
        let rest = h.reads in
        let room : size_of c.standing (shown_item i) + (d.length - d.at) ≤ c.length - c.at = omega (arith, goes.moved, goes.within, goes.same_length) in
        record {
          reads = record {
            same_files = rest.same_files ∙ g.files;
            same_draft = rest.same_draft ∙ g.draft;
            later = (let a = g.later in let b = rest.later in omega (arith, a, b));
            cause = cause-later s.faults t.faults u.faults (fault_of r) g.later rest.cause;
            pulls = PullsAtMost-more (size_of c.standing (shown_item i) + (d.length - d.at)) (c.length - c.at) s.numbers u.numbers room
                (PullsAtMost-trans (size_of c.standing (shown_item i)) (d.length - d.at) s.numbers t.numbers u.numbers pulled rest.pulls);
          };
          counts = λ rs comes. (let x = taken some rs comes in filled-on r rs x (h.counts x.others x.next));
          few = λ rs comes. few-on rs (taken some rs comes);
          whole = λ fs told going. whole-on r fs (h.whole fs (g.files ∙ told) (not-behind c.standing d.standing (shown_item i) some goes.may_come));
        }

  -- the file ends
  pub counted-all : (e : Counts) → counts_view e ≡ k → shown_item i ≡ finish → c.at ≤ c.length → RecordsCounted k c s t (Ok e)
  counted-all e is ends within =
      let goes = g.goes in
      record {
        reads = record {
          same_files = g.files;
          same_draft = g.draft;
          later = g.later;
          cause = tt;
          pulls = PullsAtMost-of (c.length - c.at) (read_for c.standing (shown_item i)) s.numbers t.numbers (let least = read-within c.standing (shown_item i) in omega (arith, least, goes.moved, goes.within, goes.same_length)) g.numbers;
        };
        counts = all;
        few = λ rs comes. PullsAtMost-of (read_by rs) (read_for c.standing (shown_item i)) s.numbers t.numbers
            (let least = read-finish c.standing in let same = ap (read_for c.standing) ends in omega (arith, least, same)) g.numbers;
        whole = λ fs told going. g.whole fs told going ends;
      }
    where
      all : (rs : List PlainRec) → RecordsCome s.files c rs → counts_view e ≡ tallied k rs
      all [] comes = is
      all (r ∷ rs) comes =
          let on = comes-on s.files c d i (item_of r) (map item_of rs ++ finish ∷ []) comes g.goes in
          absurd (record-not-finish r (sym ends ∙ on.0))

-- ---- a fault

-- what comes first of records and the end of the file
record Head (told : Option Files) (c : PlainCursor) (rs : List PlainRec) : Type 0 where
  item : PlainItem
  others : List PlainItem
  comes : Comes told c (item ∷ others)
  read : read_for c.standing item ≤ read_by rs

head : (told : Option Files) (c : PlainCursor) (rs : List PlainRec) → RecordsCome told c rs → Head told c rs
head told c [] h = record { item = finish; others = []; comes = h; read = (let least = read-finish c.standing in omega (arith, least)) }
head told c (r ∷ rs) h = record {
  item = item_of r;
  others = map item_of rs ++ finish ∷ [];
  comes = h;
  read = (let same = read-same c.standing (item_of r) (λ e. record-not-finish r (sym e)) ∙ read-weight r in omega (arith, same, sums r rs));
}

pub counted-fault : (k : PlainCounts) (c : PlainCursor) (s t : Seen) (e : CursorFault) → t.files ≡ s.files → t.draft ≡ s.draft → PullsAtMost (c.length - c.at) s.numbers t.numbers → s.faults ≤ t.faults → IfFolder e (Rose s.faults t.faults)
    → ((i : PlainItem) (is : List PlainItem) → Comes s.files c (i ∷ is) → IfDamage e ⊥) → ((i : PlainItem) (is : List PlainItem) → Comes s.files c (i ∷ is) → PullsAtMost (read_for c.standing i) s.numbers t.numbers)
    → RecordsCounted k c s t (Err e)
counted-fault k c s t e files draft pulls later cause undamaged reads = record {
  reads = record { same_files = files; same_draft = draft; later = later; cause = cause; pulls = pulls };
  counts = λ rs comes. (let h = head s.files c rs comes in undamaged h.item h.others h.comes);
  few = λ rs comes. (let h = head s.files c rs comes in PullsAtMost-more (read_for c.standing h.item) (read_by rs) s.numbers t.numbers h.read (reads h.item h.others h.comes));
  whole = λ fs told going. tt;
}

-- ---- on the way

-- What is left makes the whole.
pub record On (k0 : PlainCounts) (c0 : PlainCursor) (s0 : Seen) (k : PlainCounts) (c : PlainCursor) (s : Seen) : Type 0 where
  pub within : c.at ≤ c.length
  pub few : FitIn c.at k
  pub rest : (u : Seen) (r : Result Counts CursorFault) → RecordsCounted k c s u r → RecordsCounted k0 c0 s0 u r

pub on-start : (k : PlainCounts) (c : PlainCursor) (s : Seen) → c.at ≤ c.length → FitIn c.at k → On k c s k c s
on-start k c s within few = record { within = within; few = few; rest = λ u r h. h }

-- each item adds one to a number at most
one : (n at : ℕ) (m : ℕ) → m ≤ 1 → 9 * n ≤ at → 9 * (n + m) ≤ at + 9
one n at m le h = omega (arith, le, h)

is-one : (s : Stamp) → is_stored s ≤ 1
is-one None = omega arith
is-one (Some x) = omega arith

fit-parts : (k : PlainCounts) (i : PlainItem) (n : ℕ) → FitIn n k → FitIn (n + 9) (with_parts k i)
fit-parts k (inner_item l s) n h = record { inner = one k.inner n 1 (omega arith) h.inner; leaves = one k.leaves n 0 (omega arith) h.leaves; alternatives = one k.alternatives n 0 (omega arith) h.alternatives; stamps = one k.stamps n (is_stored s) (is-one s) h.stamps }
fit-parts k (leaf_item l s) n h = record { inner = one k.inner n 0 (omega arith) h.inner; leaves = one k.leaves n 1 (omega arith) h.leaves; alternatives = one k.alternatives n 0 (omega arith) h.alternatives; stamps = one k.stamps n (is_stored s) (is-one s) h.stamps }
fit-parts k (alt_item s b) n h = record { inner = one k.inner n 0 (omega arith) h.inner; leaves = one k.leaves n 0 (omega arith) h.leaves; alternatives = one k.alternatives n 1 (omega arith) h.alternatives; stamps = one k.stamps n (is_stored s) (is-one s) h.stamps }
fit-parts k leaf_end_item n h = record { inner = one k.inner n 0 (omega arith) h.inner; leaves = one k.leaves n 0 (omega arith) h.leaves; alternatives = one k.alternatives n 0 (omega arith) h.alternatives; stamps = one k.stamps n 0 (omega arith) h.stamps }
fit-parts k (end_item m) n h = record { inner = one k.inner n 0 (omega arith) h.inner; leaves = one k.leaves n 0 (omega arith) h.leaves; alternatives = one k.alternatives n 0 (omega arith) h.alternatives; stamps = one k.stamps n 0 (omega arith) h.stamps }
fit-parts k finish n h = record { inner = one k.inner n 0 (omega arith) h.inner; leaves = one k.leaves n 0 (omega arith) h.leaves; alternatives = one k.alternatives n 0 (omega arith) h.alternatives; stamps = one k.stamps n 0 (omega arith) h.stamps }

pub fit-more : (k : PlainCounts) (n m : ℕ) → n ≤ m → FitIn n k → FitIn m k
fit-more k n m le h =
    record { inner = (let a = h.inner in omega (arith, le, a)); leaves = (let a = h.leaves in omega (arith, le, a)); alternatives = (let a = h.alternatives in omega (arith, le, a)); stamps = (let a = h.stamps in omega (arith, le, a)) }

-- the numbers are those before, but for the bytes
fit-size : (k : PlainCounts) (n size : ℕ) → FitIn n k → FitIn n (with_size k size)
fit-size k n size h = record { inner = h.inner; leaves = h.leaves; alternatives = h.alternatives; stamps = h.stamps }

module _ (k0 : PlainCounts) (c0 : PlainCursor) (s0 : Seen) (k : PlainCounts) (c d : PlainCursor) (s t : Seen) (i : Item) (on : On k0 c0 s0 k c s) (g : Given c d s t i) where
  on-counted : shown_item i ≢ finish → On k0 c0 s0 (counted k (shown_item i)) d t
  on-counted some =
      let goes = g.goes in
      let least = size-least c.standing (shown_item i) some in
      let fits = fit-size (with_parts k (shown_item i)) (c.at + 9) (read_in (shown_item i)) (fit-parts k (shown_item i) c.at on.few) in
      record {
        within = goes.within;
        few = fit-more (counted k (shown_item i)) (c.at + 9) d.at (omega (arith, least, goes.moved)) fits;
        rest = λ u r h. on.rest u r (counted-on k c d s t i g u r some h);
      }

  -- a record that closes no inner node
  pub on-record : i ≢ item.Finish → ((n : ℕ) → i ≢ item.End n) → (more now : PlainCounts) → more ≡ with_parts k (shown_item i) → now ≡ with_size more (d.at - c.at) → On k0 c0 s0 now d t
  on-record some no-end more now parted sized =
      let goes = g.goes in
      let moved : d.at - c.at ≡ read_in (shown_item i) = omega (arith, goes.moved, size-read c.standing i some no-end) in
      let is : counted k (shown_item i) ≡ now = sym (sized ∙ (λ j. with_size (parted j) (moved j))) in
      subst (λ (x : PlainCounts). On k0 c0 s0 x d t) is (on-counted (no-finish i some))

  -- an END, of which the kind and the length are counted
  pub on-end : (n : ℕ) → i ≡ item.End n → (now : PlainCounts) → now ≡ with_size k 9 → On k0 c0 s0 now d t
  on-end n end now sized =
      let shown : shown_item i ≡ end_item n = ap shown_item end in
      let same : with_size k 9 ≡ counted k (end_item n) = same-counts (with_size k 9) (counted k (end_item n)) refl (omega arith) (omega arith) (omega arith) (omega arith) refl refl in
      let is : counted k (shown_item i) ≡ now = sym (sized ∙ same ∙ ap (counted k) (sym shown)) in
      subst (λ (x : PlainCounts). On k0 c0 s0 x d t) is (on-counted (λ e. (let no : end_item n ≡ finish = sym shown ∙ e in absurd cc)))

  -- there is more left than the item
  pub on-smaller : i ≢ item.Finish → d.length - d.at < c.length - c.at
  on-smaller some =
      let goes = g.goes in
      omega (arith, size-least c.standing (shown_item i) (no-finish i some), goes.moved, goes.within, goes.same_length)

  pub on-finish : (e : Counts) → counts_view e ≡ k → i ≡ item.Finish → RecordsCounted k0 c0 s0 t (Ok e)
  on-finish e is end = on.rest t (Ok e) (counted-all k c d s t i g e is (ap shown_item end) on.within)
