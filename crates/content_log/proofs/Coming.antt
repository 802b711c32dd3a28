-- Writing the alternatives that come, one after another.
use Rattle.std.proofs.Common.{◌≡◌, ◌≢◌, ℕ, ◌+◌, ◌-◌, ◌<◌, ◌≤◌, List, [], ◌∷◌, ◌++◌, Bool, true, false, length, map, Option, Some, None, IsSome, is_some, Result, Ok, refl, sym, ap, subst, ◌∙◌, true≢false, arith, length-append}
use Rattle.std.specs.List.{flat_map, AllByRecursion}
use Rattle.archive_tree.specs.Data.{Stamp, PlainAlt}
use Rattle.keyed_tree.specs.Data.{PlainKey, PlainLabel}
use Rattle.xa_outside.specs.Causes.{Rose}
use Rattle.xa_outside.specs.Folder.{Files}
use Rattle.xa_outside.specs.Numbers.{PullsAtMost, after_pull}
use Rattle.xa_outside.specs.NumberLaws.{PullsAtMost-of, PullsAtMost-more, PullsAtMost-trans}
use Rattle.xa_outside.specs.Taken.{Taken, Takes, TakesPrefix}
use Rattle.xa_outside.specs.TakenLaws.{Takes-nil, Takes-trans, TakesPrefix-none, TakesPrefix-after, TakesPrefix-more}
use Rattle.record_format.specs.Data.{leaf_rec}
use Rattle.record_format.specs.Nodes.{alt_of}
use Rattle.record_format.specs.Spelling.{rec_bytes}
use Rattle.record_cursor.specs.Faults.{IfDamage, IfFolder}
use Rattle.record_cursor.specs.Items.{PlainItem, leaf_item, alt_item, leaf_end_item, finish, item_of}
use Rattle.record_cursor.specs.Moves.{Comes, Goes, Moves}
use Rattle.record_cursor.specs.Next.{read_for, size_of}
use Rattle.record_cursor.specs.View.{PlainCursor, shown_item}
use Rattle.record_cursor.specs.declared.fault.CursorFault.{CursorFault}
use Rattle.record_cursor.specs.declared.fault.CursorFault.TheVariants as fault
use Rattle.record_cursor.specs.declared.item.Item.{Item}
use Rattle.record_cursor.specs.declared.item.Item.TheVariants as item
use Rattle.record_parts.specs.declared.views.BodyView.{BodyView}
use Rattle.record_parts.specs.declared.views.LabelView.{LabelView}
use Rattle.record_parts.specs.declared.views.StampView.{StampView}
use Rattle.record_cursor.proofs.ItemLaws.{comes-on}
use Rattle.record_cursor.proofs.Pulled.{read-within, size-least}
use Rattle.content_log.specs.Entries.{EntryPut, IsOutCause}
use Rattle.content_log.specs.Told.{IsCaused, IsSound, of_cursor}
use Rattle.content_log.specs.Written.{Seen, Walks, Prefixed, Shows, IsStored, MayCome, may_come, alt_text, alts_text, AltsCome, alts_size, Lines, AltsWritten, RecordsWritten}
use Rattle.content_log.specs.declared.fault.LogFault.{LogFault}
use Rattle.content_log.specs.declared.fault.LogFault.TheVariants.{Damage, Folder, Out, Memory}

-- ---- one part after another

cause-later : (a b c x y z : ℕ) (e : Option LogFault) → a ≤ b → x ≤ y → IsCaused b c y z e → IsCaused a c x z e
cause-later a b c x y z None le out h = tt
cause-later a b c x y z (Some Damage) le out h = tt
cause-later a b c x y z (Some Folder) le out h = omega (arith, le, h)
cause-later a b c x y z (Some Out) le out h = omega (arith, out, h)
cause-later a b c x y z (Some Memory) le out h = tt

pub walks-more : (a b : ℕ) (s t : Seen) (e : Option LogFault) → a ≤ b → Walks a s t e → Walks b s t e
walks-more a b s t e le h = record {
  same_files = h.same_files;
  same_draft = h.same_draft;
  later = h.later;
  out_later = h.out_later;
  cause = h.cause;
  pulls = PullsAtMost-more a b s.numbers t.numbers le h.pulls;
  gained = h.gained;
}

pub walks-then : (a b n : ℕ) (s t u : Seen) (e : Option LogFault) → a + b ≤ n → Walks a s t None → Walks b t u e → Walks n s u e
walks-then n m most s t u e le h g = record {
  same_files = g.same_files ∙ h.same_files;
  same_draft = g.same_draft ∙ h.same_draft;
  later = (let a = h.later in let b = g.later in omega (arith, a, b));
  out_later = (let a = h.out_later in let b = g.out_later in omega (arith, a, b));
  cause = cause-later s.faults t.faults u.faults s.out_faults t.out_faults u.out_faults e h.later h.out_later g.cause;
  pulls = PullsAtMost-more (n + m) most s.numbers u.numbers le (PullsAtMost-trans n m s.numbers t.numbers u.numbers h.pulls g.pulls);
  gained = (let a = h.gained in let b = g.gained in (a.0 ++ b.0, Takes-trans s.taken t.taken u.taken a.0 b.0 a.1 b.1));
}

pub prefixed-then : (a b c : Taken) (x y : List ℕ) (e : Option LogFault) → Takes a b x → Prefixed b c e y → Prefixed a c e (x ++ y)
prefixed-then a b c x y None h g = Takes-trans a b c x y h g
prefixed-then a b c x y (Some e) h g = TakesPrefix-after a b c x y h g

pub prefix-of : (a : Taken) (text : List ℕ) (e : LogFault) → Prefixed a a (Some e) text
prefix-of a text e = TakesPrefix-none a text

-- ---- what the cursor answered

-- the cursor gave the item, and nothing was written yet
pub record Given (c d : PlainCursor) (s t : Seen) (i : Item) : Type 0 where
  pub files : t.files ≡ s.files
  pub draft : t.draft ≡ s.draft
  pub numbers : t.numbers ≡ after_pull s.numbers (read_for c.standing (shown_item i))
  pub later : s.faults ≤ t.faults
  pub goes : Goes s.files c i d
  pub taken : t.taken ≡ s.taken
  pub out_faults : t.out_faults ≡ s.out_faults

pub given : (c d : PlainCursor) (s t : Seen) (r : Result Item CursorFault) (i : Item) → r ≡ Ok i → t.files ≡ s.files → t.draft ≡ s.draft → t.numbers ≡ after_pull s.numbers (read_for c.standing (shown_item i)) → s.faults ≤ t.faults
    → Moves s.files c r d → t.taken ≡ s.taken → t.out_faults ≡ s.out_faults → Given c d s t i
given c d s t r i is files draft numbers later moves taken out =
    record { files = files; draft = draft; numbers = numbers; later = later; goes = subst (λ (x : Result Item CursorFault). Moves s.files c x d) is moves; taken = taken; out_faults = out }

-- an item that is read takes nothing from the output
pub given-walks : (c d : PlainCursor) (s t : Seen) (i : Item) (e : Option LogFault) → Given c d s t i → IsCaused s.faults t.faults s.out_faults t.out_faults e → Walks (size_of c.standing (shown_item i)) s t e
given-walks c d s t i e g cause = record {
  same_files = g.files;
  same_draft = g.draft;
  later = g.later;
  out_later = (let same = g.out_faults in omega (arith, same));
  cause = cause;
  pulls = PullsAtMost-of (size_of c.standing (shown_item i)) (read_for c.standing (shown_item i)) s.numbers t.numbers (read-within c.standing (shown_item i)) g.numbers;
  gained = ([], subst (λ x. Takes s.taken x []) (sym g.taken) (Takes-nil s.taken));
}

-- an item is within what is left
item-room : (told : Option Files) (c d : PlainCursor) (i : Item) → Goes told c i d → size_of c.standing (shown_item i) + (d.length - d.at) ≤ c.length - c.at
item-room told c d i goes = omega (arith, goes.moved, goes.within, goes.same_length)

item-within : (told : Option Files) (c d : PlainCursor) (i : Item) → Goes told c i d → size_of c.standing (shown_item i) ≤ c.length - c.at
item-within told c d i goes = (let room = item-room told c d i goes in omega (arith, room))

-- the cursor failed
pub record Missed (c : PlainCursor) (s t : Seen) (f : CursorFault) : Type 0 where
  pub files : t.files ≡ s.files
  pub draft : t.draft ≡ s.draft
  pub later : s.faults ≤ t.faults
  pub cause : IfFolder f (Rose s.faults t.faults)
  pub taken : t.taken ≡ s.taken
  pub out_faults : t.out_faults ≡ s.out_faults
  pub pulls : PullsAtMost (c.length - c.at) s.numbers t.numbers
  pub undamaged : (i : PlainItem) (is : List PlainItem) → Comes s.files c (i ∷ is) → IfDamage f ⊥
  pub reads : (i : PlainItem) (is : List PlainItem) → Comes s.files c (i ∷ is) → PullsAtMost (read_for c.standing i) s.numbers t.numbers

missed-cause : (a b x y : ℕ) (f : CursorFault) → IfFolder f (Rose a b) → IsCaused a b x y (Some (of_cursor f))
missed-cause a b x y fault.Damage h = tt
missed-cause a b x y fault.Folder h = h
missed-cause a b x y fault.Memory h = tt

missed-sound : (f : CursorFault) → IfDamage f ⊥ → IsSound (Some (of_cursor f))
missed-sound fault.Damage h = h
missed-sound fault.Folder h = tt
missed-sound fault.Memory h = tt

pub missed-walks : (c : PlainCursor) (s t : Seen) (f : CursorFault) → Missed c s t f → Walks (c.length - c.at) s t (Some (of_cursor f))
missed-walks c s t f m = record {
  same_files = m.files;
  same_draft = m.draft;
  later = m.later;
  out_later = (let same = m.out_faults in omega (arith, same));
  cause = missed-cause s.faults t.faults s.out_faults t.out_faults f m.cause;
  pulls = m.pulls;
  gained = ([], subst (λ x. Takes s.taken x []) (sym m.taken) (Takes-nil s.taken));
}

-- where an item comes that has no more bytes than these
pub missed-shows : (c : PlainCursor) (s t : Seen) (f : CursorFault) (text : List ℕ) (most : ℕ) (i : PlainItem) (is : List PlainItem) → Missed c s t f → Comes s.files c (i ∷ is) → read_for c.standing i ≤ most → Shows text most s t (Some (of_cursor f))
missed-shows c s t f text most i is m comes le = record {
  sound = missed-sound f (m.undamaged i is comes);
  bytes = subst (λ x. TakesPrefix s.taken x text) (sym m.taken) (TakesPrefix-none s.taken text);
  pulls = PullsAtMost-more (read_for c.standing i) most s.numbers t.numbers le (m.reads i is comes);
}

-- ---- sizes

alts-more : (x : PlainAlt) (xs : List PlainAlt) → alts_size (x ∷ xs) ≡ length (rec_bytes (alt_of x)) + alts_size xs
alts-more x xs = (let l = length-append (rec_bytes (alt_of x)) (flat_map rec_bytes (map alt_of xs)) in omega (arith, l))

-- what comes first of alternatives and their end
record Head (told : Option Files) (c : PlainCursor) (xs : List PlainAlt) : Type 0 where
  first : PlainItem
  others : List PlainItem
  comes : Comes told c (first ∷ others)
  read : read_for c.standing first ≤ alts_size xs

head : (told : Option Files) (c : PlainCursor) (xs : List PlainAlt) → AltsCome told c xs → Head told c xs
head told c [] h = record { first = leaf_end_item; others = []; comes = h; read = omega arith }
head told c (x ∷ xs) h = record {
  first = item_of (alt_of x);
  others = map (λ y. item_of (alt_of y)) xs ++ leaf_end_item ∷ [];
  comes = h;
  read = (let more = alts-more x xs in omega (arith, more));
}

-- ---- which may come

none-may : (came : Option Bool) → MayCome came []
none-may None = tt
none-may (Some true) = tt
none-may (Some false) = refl

-- whether it may come, as it was answered
pub may-as : (came : Option Bool) (x : PlainAlt) (stored r b : Bool) → stored ≡ is_some x.stamp → r ≡ may_come came stored → r ≡ b → may_come came (is_some x.stamp) ≡ b
may-as came x stored r b told answer is = ap (may_come came) (sym told) ∙ sym answer ∙ is

-- one that is the first of those that may come may come
first-may : (came : Option Bool) (x : PlainAlt) (ys : List PlainAlt) → MayCome came (x ∷ ys) → may_come came (is_some x.stamp) ≡ true
first-may None x ys h = refl
first-may (Some true) x ys h = h.0
first-may (Some false) x ys h = absurd cc

-- and behind it the others
rest-may : (came : Option Bool) (x : PlainAlt) (ys : List PlainAlt) → MayCome came (x ∷ ys) → MayCome (Some (is_some x.stamp)) ys
rest-may None x [] h = none-may (Some (is_some x.stamp))
rest-may None x (y ∷ ys) h = subst (λ (b : Bool). MayCome (Some b) (y ∷ ys)) (sym h.0) h.1
rest-may (Some true) x ys h = subst (λ (b : Bool). MayCome (Some b) ys) (sym h.0) h.1
rest-may (Some false) x ys h = absurd cc

-- those behind one that may come may come with it
both-may : (came : Option Bool) (x : PlainAlt) (ys : List PlainAlt) → may_come came (is_some x.stamp) ≡ true → MayCome (Some (is_some x.stamp)) ys → MayCome came (x ∷ ys)
both-may None x [] e h = tt
both-may None x (y ∷ ys) e h = by-stamp x.stamp h
  where
    by-stamp : (s : Stamp) → MayCome (Some (is_some s)) (y ∷ ys) → IsSome s × AllByRecursion IsStored (y ∷ ys)
    by-stamp None g = absurd cc
    by-stamp (Some set) g = (refl, g)
both-may (Some true) x ys e h = (e, subst (λ (b : Bool). MayCome (Some b) ys) e h)
both-may (Some false) x ys e h = absurd cc

-- nothing was written
pub no-lines : (came : Option Bool) (tag : List ℕ) (set : List (ℕ × ℕ)) (most : ℕ) (a b : Taken) → b ≡ a → Lines (MayCome came) tag set most a b
no-lines came tag set most a b same = record { alts = []; are = none-may came; fit = omega arith; takes = subst (λ (x : Taken). TakesPrefix a x []) (sym same) (TakesPrefix-none a []) }

pub lines-more : (may : List PlainAlt → Type 0) (tag : List ℕ) (set : List (ℕ × ℕ)) (n m : ℕ) (a b : Taken) → n ≤ m → Lines may tag set n a b → Lines may tag set m a b
lines-more may tag set n m a b le h = record { alts = h.alts; are = h.are; fit = (let fit = h.fit in omega (arith, le, fit)); takes = h.takes }

pub alts-missed : (came : Option Bool) (tag : List ℕ) (set : List (ℕ × ℕ)) (c : PlainCursor) (s t : Seen) (f : CursorFault) → Missed c s t f → AltsWritten came tag set c s t (Some (of_cursor f))
alts-missed came tag set c s t f m = record {
  walks = missed-walks c s t f m;
  told = no-lines came tag set (c.length - c.at) s.taken t.taken m.taken;
  shows = λ xs may comes. (let h = head s.files c xs comes in missed-shows c s t f (alts_text tag set xs) (alts_size xs) h.first h.others m h.comes h.read);
}

-- ---- an item

alt-not-end : (s : Stamp) (b : PlainKey) → alt_item s b ≢ leaf_end_item
alt-not-end s b e = cc

alt-same : (s r : Stamp) (b d : PlainKey) → alt_item s b ≡ alt_item r d → (s ≡ r) × (b ≡ d)
alt-same s r b d e = (ap stamp e, ap body e)
  where
    stamp : PlainItem → Stamp
    stamp (alt_item t k) = t
    stamp other = s

    body : PlainItem → PlainKey
    body (alt_item t k) = k
    body other = b

module _ (came : Option Bool) (tag : List ℕ) (set : List (ℕ × ℕ)) (c d : PlainCursor) (s m : Seen) (i : Item) (g : Given c d s m i) where
  -- nothing of it is written
  untold : Lines (MayCome came) tag set (c.length - c.at) s.taken m.taken
  untold = no-lines came tag set (c.length - c.at) s.taken m.taken g.taken

  read-only : (e : Option LogFault) → IsCaused s.faults m.faults s.out_faults m.out_faults e → Walks (c.length - c.at) s m e
  read-only e cause = walks-more (size_of c.standing (shown_item i)) (c.length - c.at) s m e (item-within s.files c d i g.goes) (given-walks c d s m i e g cause)

  -- their end
  pub alts-end : shown_item i ≡ leaf_end_item → AltsWritten came tag set c s m None
  alts-end is = record { walks = read-only None tt; told = untold; shows = ends }
    where
      ends : (xs : List PlainAlt) → MayCome came xs → AltsCome s.files c xs → Shows (alts_text tag set xs) (alts_size xs) s m None
      ends [] may comes = record {
        sound = tt;
        bytes = subst (λ x. Takes s.taken x []) (sym g.taken) (Takes-nil s.taken);
        pulls = PullsAtMost-of 9 (read_for c.standing (shown_item i)) s.numbers m.numbers (let same = ap (read_for c.standing) is in omega (arith, same)) g.numbers;
      }
      ends (y ∷ ys) may comes = absurd (let on = comes-on s.files c d i (item_of (alt_of y)) _ comes g.goes in alt-not-end y.stamp y.body (sym on.0 ∙ is))

  -- another item
  pub alts-damage : ((t : Stamp) (b : PlainKey) → shown_item i ≢ alt_item t b) → shown_item i ≢ leaf_end_item → AltsWritten came tag set c s m (Some Damage)
  alts-damage no-alt no-end = record { walks = read-only (Some Damage) tt; told = untold; shows = none }
    where
      none : (xs : List PlainAlt) → MayCome came xs → AltsCome s.files c xs → Shows (alts_text tag set xs) (alts_size xs) s m (Some Damage)
      none [] may comes = absurd (no-end (comes-on s.files c d i leaf_end_item [] comes g.goes).0)
      none (y ∷ ys) may comes = absurd (no-alt y.stamp y.body (comes-on s.files c d i (item_of (alt_of y)) _ comes g.goes).0)

  -- an alternative
  module _ (x : PlainAlt) (is : shown_item i ≡ alt_item x.stamp x.body) where
    -- the first of those that come is this one
    record First (ys : List PlainAlt) : Type 0 where
      others : List PlainAlt
      all : ys ≡ x ∷ others
      next : AltsCome m.files d others

    first : (ys : List PlainAlt) → AltsCome s.files c ys → First ys
    first [] comes = absurd (alt-not-end x.stamp x.body (sym is ∙ (comes-on s.files c d i leaf_end_item [] comes g.goes).0))
    first (y ∷ ys) comes =
        let on = comes-on s.files c d i (item_of (alt_of y)) _ comes g.goes in
        let same = alt-same y.stamp x.stamp y.body x.body (sym on.0 ∙ is) in
        record {
          others = ys;
          all = λ j. record { stamp = same.0 j; body = same.1 j } ∷ ys;
          next = subst (λ (f : Option Files). AltsCome f d ys) (sym g.files) on.1;
        }

    -- it may not come
    pub alts-astray : may_come came (is_some x.stamp) ≡ false → AltsWritten came tag set c s m (Some Damage)
    alts-astray not = record {
      walks = read-only (Some Damage) tt;
      told = untold;
      shows = λ ys may comes. (
          let f = first ys comes in
          let e = first-may came x f.others (subst (MayCome came) f.all may) in
          absurd (true≢false (sym e ∙ not)));
    }

  -- an alternative, which was written
  module _ (x : PlainAlt) (is : shown_item i ≡ alt_item x.stamp x.body) (may : may_come came (is_some x.stamp) ≡ true) (t : Seen) (files : t.files ≡ m.files) (draft : t.draft ≡ m.draft) (numbers : t.numbers ≡ m.numbers) (faults : t.faults ≡ m.faults) where
    entry-walks : (e : Option LogFault) → EntryPut s.taken t.taken s.out_faults t.out_faults (alt_text tag set x) e → Walks (size_of c.standing (shown_item i)) s t e
    entry-walks e p = record {
      same_files = files ∙ g.files;
      same_draft = draft ∙ g.draft;
      later = (let l = g.later in omega (arith, l, faults));
      out_later = p.later;
      cause = out-cause e p.cause;
      pulls = PullsAtMost-of (size_of c.standing (shown_item i)) (read_for c.standing (shown_item i)) s.numbers t.numbers (read-within c.standing (shown_item i)) (numbers ∙ g.numbers);
      gained = gained e p.bytes;
    }
      where
        out-cause : (e : Option LogFault) → IsOutCause s.out_faults t.out_faults e → IsCaused s.faults t.faults s.out_faults t.out_faults e
        out-cause None h = tt
        out-cause (Some Damage) h = tt
        out-cause (Some Folder) h = absurd h
        out-cause (Some Out) h = h
        out-cause (Some Memory) h = tt

        gained : (e : Option LogFault) → Prefixed s.taken t.taken e (alt_text tag set x) → (bytes : List ℕ) × Takes s.taken t.taken bytes
        gained None h = (alt_text tag set x, h)
        gained (Some f) h = (_, h.takes)

    read-one : PullsAtMost (length (rec_bytes (alt_of x))) s.numbers t.numbers
    read-one = PullsAtMost-of (length (rec_bytes (alt_of x))) (read_for c.standing (shown_item i)) s.numbers t.numbers (let same = ap (read_for c.standing) is in omega (arith, same)) (numbers ∙ g.numbers)

    -- not to its end
    pub alts-cut : (e : LogFault) → EntryPut s.taken t.taken s.out_faults t.out_faults (alt_text tag set x) (Some e) → AltsWritten came tag set c s t (Some e)
    alts-cut e p = record { walks = walks-more (size_of c.standing (shown_item i)) (c.length - c.at) s t (Some e) (item-within s.files c d i g.goes) (entry-walks (Some e) p); told = one-line; shows = cut }
      where
        sound : (e : LogFault) → IsOutCause s.out_faults t.out_faults (Some e) → IsSound (Some e)
        sound Damage h = h
        sound Folder h = tt
        sound Out h = tt
        sound Memory h = tt

        one-line : Lines (MayCome came) tag set (c.length - c.at) s.taken t.taken
        one-line = record {
          alts = x ∷ [];
          are = both-may came x [] may (none-may (Some (is_some x.stamp)));
          fit = (let more = alts-more x [] in let within = item-within s.files c d i g.goes in let size = ap (size_of c.standing) is in omega (arith, more, within, size));
          takes = TakesPrefix-more s.taken t.taken (alt_text tag set x) [] p.bytes;
        }

        cut-first : (ys : List PlainAlt) → Shows (alts_text tag set (x ∷ ys)) (alts_size (x ∷ ys)) s t (Some e)
        cut-first ys = record {
          sound = sound e p.cause;
          bytes = TakesPrefix-more s.taken t.taken (alt_text tag set x) (alts_text tag set ys) p.bytes;
          pulls = PullsAtMost-more (length (rec_bytes (alt_of x))) (alts_size (x ∷ ys)) s.numbers t.numbers (let more = alts-more x ys in omega (arith, more)) read-one;
        }

        cut : (ys : List PlainAlt) → MayCome came ys → AltsCome s.files c ys → Shows (alts_text tag set ys) (alts_size ys) s t (Some e)
        cut ys those comes = (let f = first x is ys comes in subst (λ (zs : List PlainAlt). Shows (alts_text tag set zs) (alts_size zs) s t (Some e)) (sym f.all) (cut-first f.others))

    -- and the others behind it
    pub alts-then : (u : Seen) (e : Option LogFault) → EntryPut s.taken t.taken s.out_faults t.out_faults (alt_text tag set x) None → AltsWritten (Some (is_some x.stamp)) tag set d t u e → AltsWritten came tag set c s u e
    alts-then u e p h = record { walks = walks-then (size_of c.standing (shown_item i)) (d.length - d.at) (c.length - c.at) s t u e (item-room s.files c d i g.goes) (entry-walks None p) h.walks; told = both-told; shows = both }
      where
        both-told : Lines (MayCome came) tag set (c.length - c.at) s.taken u.taken
        both-told = record {
          alts = x ∷ h.told.alts;
          are = both-may came x h.told.alts may h.told.are;
          fit = (let more = alts-more x h.told.alts in let room = item-room s.files c d i g.goes in let size = ap (size_of c.standing) is in let fit = h.told.fit in omega (arith, more, room, size, fit));
          takes = TakesPrefix-after s.taken t.taken u.taken (alt_text tag set x) (alts_text tag set h.told.alts) p.bytes h.told.takes;
        }

        both-first : (ys : List PlainAlt) → MayCome came (x ∷ ys) → AltsCome m.files d ys → Shows (alts_text tag set (x ∷ ys)) (alts_size (x ∷ ys)) s u e
        both-first ys those next =
            let rest = h.shows ys (rest-may came x ys those) (subst (λ (f : Option Files). AltsCome f d ys) (sym files) next) in
            record {
              sound = rest.sound;
              bytes = prefixed-then s.taken t.taken u.taken (alt_text tag set x) (alts_text tag set ys) e p.bytes rest.bytes;
              pulls = PullsAtMost-more (length (rec_bytes (alt_of x)) + alts_size ys) (alts_size (x ∷ ys)) s.numbers u.numbers (let more = alts-more x ys in omega (arith, more))
                  (PullsAtMost-trans (length (rec_bytes (alt_of x))) (alts_size ys) s.numbers t.numbers u.numbers read-one rest.pulls);
            }

        both : (ys : List PlainAlt) → MayCome came ys → AltsCome s.files c ys → Shows (alts_text tag set ys) (alts_size ys) s u e
        both ys those comes = (let f = first x is ys comes in subst (λ (zs : List PlainAlt). Shows (alts_text tag set zs) (alts_size zs) s u e) (sym f.all) (both-first f.others (subst (MayCome came) f.all those) f.next))

-- ---- the way through the loop

-- what is done with the rest is done with the whole
pub record On (tag : List ℕ) (set : List (ℕ × ℕ)) (c0 : PlainCursor) (s0 : Seen) (came : Option Bool) (c : PlainCursor) (s : Seen) : Type 0 where
  pub rest : (u : Seen) (e : Option LogFault) → AltsWritten came tag set c s u e → AltsWritten None tag set c0 s0 u e

pub on-start : (tag : List ℕ) (set : List (ℕ × ℕ)) (c : PlainCursor) (s : Seen) → On tag set c s None c s
on-start tag set c s = record { rest = λ u e h. h }

-- there is more left than the item
pub smaller : (told : Option Files) (c d : PlainCursor) (i : Item) → Goes told c i d → shown_item i ≢ finish → d.length - d.at < c.length - c.at
smaller told c d i goes some = omega (arith, size-least c.standing (shown_item i) some, goes.moved, goes.within, goes.same_length)

pub alt-goes-on : (i : Item) (s : Stamp) (b : PlainKey) → shown_item i ≡ alt_item s b → shown_item i ≢ finish
alt-goes-on i s b is e = (let f : alt_item s b ≡ finish = sym is ∙ e in absurd cc)

-- ---- items of other kinds

pub no-alt : (i : Item) → ((s : StampView) (b : BodyView) → i ≢ item.Alt s b) → (t : Stamp) (k : PlainKey) → shown_item i ≢ alt_item t k
no-alt (item.Inner l s) h t k e = absurd cc
no-alt (item.Leaf l s) h t k e = absurd cc
no-alt (item.Alt s b) h t k e = h s b refl
no-alt item.LeafEnd h t k e = absurd cc
no-alt (item.End n) h t k e = absurd cc
no-alt item.Finish h t k e = absurd cc

pub no-end : (i : Item) → i ≢ item.LeafEnd → shown_item i ≢ leaf_end_item
no-end (item.Inner l s) h e = absurd cc
no-end (item.Leaf l s) h e = absurd cc
no-end (item.Alt s b) h e = absurd cc
no-end item.LeafEnd h e = h refl
no-end (item.End n) h e = absurd cc
no-end item.Finish h e = absurd cc

pub no-leaf : (i : Item) → ((l : LabelView) (s : StampView) → i ≢ item.Leaf l s) → (m : PlainLabel) (t : Stamp) → shown_item i ≢ leaf_item m t
no-leaf (item.Inner l s) h m t e = absurd cc
no-leaf (item.Leaf l s) h m t e = h l s refl
no-leaf (item.Alt s b) h m t e = absurd cc
no-leaf item.LeafEnd h m t e = absurd cc
no-leaf (item.End n) h m t e = absurd cc
no-leaf item.Finish h m t e = absurd cc

-- ---- the leaf that comes

pub records-missed : (tag : List ℕ) (set : List (ℕ × ℕ)) (c : PlainCursor) (s t : Seen) (f : CursorFault) → Missed c s t f → RecordsWritten tag set c s t (Some (of_cursor f))
records-missed tag set c s t f m = record {
  walks = missed-walks c s t f m;
  told = no-lines None tag set (c.length - c.at) s.taken t.taken m.taken;
  shows = λ l stamp xs may comes. missed-shows c s t f (alts_text tag set xs) (length (rec_bytes (leaf_rec l stamp)) + alts_size xs) (leaf_item l stamp) _ m comes (omega arith);
}

module _ (tag : List ℕ) (set : List (ℕ × ℕ)) (c d : PlainCursor) (s m : Seen) (i : Item) (g : Given c d s m i) where
  -- another item
  pub records-damage : ((l : PlainLabel) (t : Stamp) → shown_item i ≢ leaf_item l t) → RecordsWritten tag set c s m (Some Damage)
  records-damage other = record {
    walks = walks-more (size_of c.standing (shown_item i)) (c.length - c.at) s m (Some Damage) (item-within s.files c d i g.goes) (given-walks c d s m i (Some Damage) g tt);
    told = no-lines None tag set (c.length - c.at) s.taken m.taken g.taken;
    shows = λ l stamp xs may comes. absurd (other l stamp (comes-on s.files c d i (leaf_item l stamp) _ comes g.goes).0);
  }

  given-none : Walks (size_of c.standing (shown_item i)) s m None
  given-none = given-walks c d s m i None g tt

  -- the record that opens it, and the alternatives behind it
  pub records-then : (u : Seen) (e : Option LogFault) → AltsWritten None tag set d m u e → RecordsWritten tag set c s u e
  records-then u e h = record { walks = walks-then (size_of c.standing (shown_item i)) (d.length - d.at) (c.length - c.at) s m u e (item-room s.files c d i g.goes) given-none h.walks; told = lines; shows = opened }
    where
      lines : Lines (MayCome None) tag set (c.length - c.at) s.taken u.taken
      lines = subst (λ (x : Taken). Lines (MayCome None) tag set (c.length - c.at) x u.taken) g.taken
          (lines-more (MayCome None) tag set (d.length - d.at) (c.length - c.at) m.taken u.taken (let room = item-room s.files c d i g.goes in omega (arith, room)) h.told)

      taken-as : (e : Option LogFault) (text : List ℕ) → Prefixed m.taken u.taken e text → Prefixed s.taken u.taken e text
      taken-as e text p = subst (λ x. Prefixed x u.taken e text) g.taken p

      opened : (l : PlainLabel) (stamp : Stamp) (xs : List PlainAlt) → MayCome None xs → Comes s.files c (leaf_item l stamp ∷ (map (λ x. item_of (alt_of x)) xs ++ leaf_end_item ∷ [])) → Shows (alts_text tag set xs) (length (rec_bytes (leaf_rec l stamp)) + alts_size xs) s u e
      opened l stamp xs may comes =
          let on = comes-on s.files c d i (leaf_item l stamp) _ comes g.goes in
          let rest = h.shows xs may (subst (λ (f : Option Files). AltsCome f d xs) (sym g.files) on.1) in
          let size = length (rec_bytes (leaf_rec l stamp)) in
          record {
            sound = rest.sound;
            bytes = taken-as e (alts_text tag set xs) rest.bytes;
            pulls = PullsAtMost-trans size (alts_size xs) s.numbers m.numbers u.numbers
                (PullsAtMost-of size (read_for c.standing (shown_item i)) s.numbers m.numbers (let same = ap (read_for c.standing) on.0 in omega (arith, same)) g.numbers) rest.pulls;
          }
