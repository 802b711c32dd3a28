-- What parts of the copying do, one after the other, whatever the archive is.
use Rattle.std.proofs.Common.{◌≡◌, ◌≢◌, ℕ, ◌+◌, ◌-◌, ◌≤◌, List, [], ◌∷◌, ◌++◌, map, drop, Option, Some, None, Result, Ok, Err, refl, sym, ap, subst, ◌∙◌, append_assoc, arith}
use Rattle.std.specs.Option.{option_map}
use Rattle.std.specs.Result.{IsErrAnd}
use Rattle.std.proofs.lemmas.List.{append-nil}
use Rattle.xa_outside.specs.Causes.{Rose}
use Rattle.xa_outside.specs.Folder.{Files, IsBlank}
use Rattle.xa_outside.specs.Numbers.{IsMeter, PullsAtMost, PullsAndDrafts, after_pull}
use Rattle.xa_outside.specs.NumberLaws.{PullsAtMost-of, PullsAndDrafts-none, PullsAndDrafts-of_pulls, PullsAndDrafts-more, PullsAndDrafts-trans}
use Rattle.xa_fields.proofs.Fields.{some_is}
use Rattle.record_cursor.specs.Faults as cursor
use Rattle.record_cursor.specs.Items.{PlainItem, inner_item, leaf_item, alt_item, leaf_end_item, end_item, finish}
use Rattle.record_cursor.specs.Moves.{TellsFront, Goes, Moves, Comes}
use Rattle.record_cursor.specs.Next.{Gives, size_of, read_for}
use Rattle.record_cursor.specs.Places.{Standing}
use Rattle.record_cursor.specs.View.{PlainCursor, shown_item}
use Rattle.record_cursor.specs.declared.fault.CursorFault.{CursorFault}
use Rattle.record_cursor.specs.declared.fault.CursorFault.TheVariants as read
use Rattle.record_cursor.specs.declared.item.Item.{Item}
use Rattle.record_writer.specs.Calls.{row_from}
use Rattle.record_writer.specs.Data.{PlainWriter}
use Rattle.record_copy.specs.Faults.{IfFolder, of_cursor}
use Rattle.record_copy.specs.Passes.{may_pull, Passes}
use Rattle.record_copy.specs.Seen.{Coming, seen}
use Rattle.record_copy.specs.State.{State}
use Rattle.record_copy.specs.declared.fault.CopyFault.{CopyFault}
use Rattle.record_copy.specs.declared.fault.CopyFault.TheVariants.{Damage, Folder, TooLong, Memory}

within-then : (s t u : State) (e : Option CopyFault) → t.cursor.length ≡ s.cursor.length → s.cursor.at ≤ t.cursor.at → t.cursor.at ≤ u.cursor.at → t.cursor.at ≤ t.cursor.length → (t.cursor.at - s.cursor.at) + may_pull t u e ≤ may_pull s u e
within-then s t u None same first second within = omega (arith, first, second)
within-then s t u (Some e) same first second within = omega (arith, same, first, within)

pulls-then : (s t u : State) (e : Option CopyFault) → (t.cursor.at - s.cursor.at) + may_pull t u e ≤ may_pull s u e → PullsAndDrafts (may_pull s t None) s.numbers t.numbers → PullsAndDrafts (may_pull t u e) t.numbers u.numbers
    → PullsAndDrafts (may_pull s u e) s.numbers u.numbers
pulls-then s t u e fits h g = PullsAndDrafts-more ((t.cursor.at - s.cursor.at) + may_pull t u e) (may_pull s u e) s.numbers u.numbers fits (PullsAndDrafts-trans (t.cursor.at - s.cursor.at) (may_pull t u e) s.numbers t.numbers u.numbers h g)

pub both-drafted : (o : Option (List ℕ)) (a b : List ℕ) → option_map (λ (d : List ℕ). d ++ b) (option_map (λ (d : List ℕ). d ++ a) o) ≡ option_map (λ (d : List ℕ). d ++ (a ++ b)) o
both-drafted None a b = refl
both-drafted (Some d) a b = ap Some (append_assoc d a b)

pub none-drafted : (o : Option (List ℕ)) → o ≡ option_map (λ (d : List ℕ). d ++ []) o
none-drafted None = refl
none-drafted (Some d) = ap Some (sym (append-nil d))

pub lengthens-then : (a b c : Option (List ℕ)) (x y : List ℕ) → b ≡ option_map (λ (d : List ℕ). d ++ x) a → c ≡ option_map (λ (d : List ℕ). d ++ y) b → c ≡ option_map (λ (d : List ℕ). d ++ (x ++ y)) a
lengthens-then a b c x y h g = g ∙ ap (option_map (λ (d : List ℕ). d ++ y)) h ∙ both-drafted a x y

pub lengthens-none : (a b : Option (List ℕ)) → b ≡ a → b ≡ option_map (λ (d : List ℕ). d ++ []) a
lengthens-none a b e = e ∙ none-drafted a

pub cause-then : (a b c : ℕ) (e : Option CopyFault) → a ≤ b → b ≤ c → IfFolder e (Rose b c) → IfFolder e (Rose a c)
cause-then a b c None first second h = tt
cause-then a b c (Some Folder) first second h = omega (arith, first, second, h)
cause-then a b c (Some Damage) first second h = tt
cause-then a b c (Some TooLong) first second h = tt
cause-then a b c (Some Memory) first second h = tt

pub passes-then : (x y : List ℕ) (s t u : State) (e : Option CopyFault) → Passes x s t None → Passes y t u e → Passes (x ++ y) s u e
passes-then x y s t u e h g = record {
  same_files = g.same_files ∙ h.same_files;
  lengthens = lengthens-then s.draft t.draft u.draft x y h.lengthens g.lengthens;
  later = (let x = h.later in let y = g.later in omega (arith, x, y));
  cause = cause-then s.faults t.faults u.faults e h.later g.later g.cause;
  same_name = g.same_name ∙ h.same_name;
  same_length = g.same_length ∙ h.same_length;
  onward = (let x = h.onward in let y = g.onward in omega (arith, x, y));
  within = g.within;
  pulls = pulls-then s t u e (within-then s t u e h.same_length h.onward g.onward h.within) h.pulls g.pulls;
}

-- the same bytes, written in another way
pub passes-as : (x y : List ℕ) (s t : State) (e : Option CopyFault) → x ≡ y → Passes x s t e → Passes y s t e
passes-as x y s t e is h = subst (λ (z : List ℕ). Passes z s t e) is h

pub passes-none : (s : State) (e : Option CopyFault) → IsMeter s.numbers → s.cursor.at ≤ s.cursor.length → e ≢ Some Folder → Passes [] s s e
passes-none s e meter h n = record {
  same_files = refl;
  lengthens = lengthens-none s.draft s.draft refl;
  later = omega arith;
  cause = no-cause e n;
  same_name = refl;
  same_length = refl;
  onward = omega arith;
  within = h;
  pulls = PullsAndDrafts-none (may_pull s s e) s.numbers meter;
}
  where
    no-cause : (e : Option CopyFault) → e ≢ Some Folder → IfFolder e (Rose s.faults s.faults)
    no-cause None n = tt
    no-cause (Some Folder) n = absurd (n refl)
    no-cause (Some Damage) n = tt
    no-cause (Some TooLong) n = tt
    no-cause (Some Memory) n = tt

-- behind a part without a fault it stops
pub passes-stop : (x : List ℕ) (s t : State) (f : CopyFault) → IsMeter t.numbers → f ≢ Folder → Passes x s t None → Passes x s t (Some f)
passes-stop x s t f meter not h =
    passes-as (x ++ []) x s t (Some f) (append-nil x) (passes-then x [] s t t (Some f) h (passes-none t (Some f) meter h.within (λ e. not (some_is f Folder e))))

-- nothing is read or written, but the state is another
pub passes-only : (x : List ℕ) (s t : State) (e : Option CopyFault) → s.cursor.at ≤ s.cursor.length → t.cursor ≡ s.cursor → t.files ≡ s.files → t.draft ≡ option_map (λ (d : List ℕ). d ++ x) s.draft → s.faults ≤ t.faults → IfFolder e (Rose s.faults t.faults)
    → PullsAndDrafts 0 s.numbers t.numbers → Passes x s t e
passes-only x s t e within same files longer later cause counts = record {
  same_files = files;
  lengthens = longer;
  later = later;
  cause = cause;
  same_name = ap (λ (c : PlainCursor). c.name) same;
  same_length = ap (λ (c : PlainCursor). c.length) same;
  onward = (let at = ap (λ (c : PlainCursor). c.at) same in omega (arith, at));
  within = subst (λ (c : PlainCursor). c.at ≤ c.length) (sym same) within;
  pulls = PullsAndDrafts-more 0 (may_pull s t e) s.numbers t.numbers (omega arith) counts;
}

-- ---- one call of the cursor

pub read-size : (c : Standing) (i : PlainItem) → read_for c i ≤ size_of c i
read-size c (inner_item l s) = omega arith
read-size c (leaf_item l s) = omega arith
read-size c (alt_item t b) = omega arith
read-size c leaf_end_item = omega arith
read-size c (end_item n) = omega arith
read-size c finish = omega arith

-- it gave the item
pub record Nexts (s t : State) (item : Item) : Type 0 where
  pub files : t.files ≡ s.files
  pub draft : t.draft ≡ s.draft
  pub writer : t.writer ≡ s.writer
  pub numbers : t.numbers ≡ after_pull s.numbers (read_for s.cursor.standing (shown_item item))
  pub later : s.faults ≤ t.faults
  pub goes : Goes s.files s.cursor item t.cursor
  pub meter : IsMeter t.numbers

-- it failed
pub record Stays (s t : State) (e : CursorFault) : Type 0 where
  pub files : t.files ≡ s.files
  pub draft : t.draft ≡ s.draft
  pub pulls : PullsAtMost (s.cursor.length - s.cursor.at) s.numbers t.numbers
  pub later : s.faults ≤ t.faults
  pub cause : cursor.IfFolder e (Rose s.faults t.faults)
  pub same : t.cursor ≡ s.cursor
  pub undamaged : (i : PlainItem) (is : List PlainItem) → Comes s.files s.cursor (i ∷ is) → cursor.IfDamage e ⊥

pub gave : (s t : State) (item : Item) → Nexts s t item → Passes [] s t None
gave s t item h =
    let goes = h.goes in
    let size = read-size s.cursor.standing (shown_item item) in
    let moved = goes.moved in
    record {
      same_files = h.files;
      lengthens = lengthens-none s.draft t.draft h.draft;
      later = h.later;
      cause = tt;
      same_name = goes.same_name;
      same_length = goes.same_length;
      onward = omega (arith, moved);
      within = goes.within;
      pulls = PullsAndDrafts-of_pulls (t.cursor.at - s.cursor.at) s.numbers t.numbers (PullsAtMost-of (t.cursor.at - s.cursor.at) (read_for s.cursor.standing (shown_item item)) s.numbers t.numbers (omega (arith, moved, size)) h.numbers);
    }

-- the item was given, and then it stops
pub gave-stop : (s t : State) (item : Item) (f : CopyFault) → f ≢ Folder → Nexts s t item → Passes [] s t (Some f)
gave-stop s t item f not h = passes-stop [] s t f h.meter not (gave s t item h)

cause-read : (e : CursorFault) (P : Type 0) → cursor.IfFolder e P → IfFolder (Some (of_cursor e)) P
cause-read read.Damage P h = tt
cause-read read.Folder P h = h
cause-read read.Memory P h = tt

pub failed : (s t : State) (e : CursorFault) → s.cursor.at ≤ s.cursor.length → Stays s t e → Passes [] s t (Some (of_cursor e))
failed s t e within h =
    let at = ap (λ (c : PlainCursor). c.at) h.same in
    record {
      same_files = h.files;
      lengthens = lengthens-none s.draft t.draft h.draft;
      later = h.later;
      cause = cause-read e (Rose s.faults t.faults) h.cause;
      same_name = ap (λ (c : PlainCursor). c.name) h.same;
      same_length = ap (λ (c : PlainCursor). c.length) h.same;
      onward = omega (arith, at);
      within = subst (λ (c : PlainCursor). c.at ≤ c.length) (sym h.same) within;
      pulls = PullsAndDrafts-of_pulls (s.cursor.length - s.cursor.at) s.numbers t.numbers h.pulls;
    }

pub comes-next : (told : Option Files) (a b : PlainCursor) (item : Item) (i : PlainItem) (is : List PlainItem) → Goes told a item b → Comes told a (i ∷ is) → (shown_item item ≡ i) × Comes told b is
comes-next told a b item i is goes h =
    let u = h.gives.0 in
    let more = h.gives.1 in
    let both = some_is (shown_item item, (b.standing, drop b.at h.bytes)) (i, (u, more)) (sym (goes.comes h.bytes h.tells) ∙ h.gives.2) in
    let rest = ap (λ (p : PlainItem × (Standing × List ℕ)). p.1) both in (
      ap (λ (p : PlainItem × (Standing × List ℕ)). p.0) both,
      record {
        bytes = h.bytes;
        tells = subst (λ (n : List ℕ). TellsFront told n b.length h.bytes) (sym goes.same_name) (subst (λ (n : ℕ). TellsFront told a.name n h.bytes) (sym goes.same_length) h.tells);
        standing = h.standing;
        rest = h.rest;
        gives = subst (λ (p : Standing × List ℕ). Gives p.0 p.1 is h.standing h.rest) (sym rest) h.gives.3;
      },
    )

-- the item that comes was given, and the others come next
pub given : (i : PlainItem) (is : List PlainItem) (s t : State) (item : Item) → Nexts s t item → Comes s.files s.cursor (i ∷ is) → (shown_item item ≡ i) × Comes t.files t.cursor is
given i is s t item h comes =
    let both = comes-next s.files s.cursor t.cursor item i is h.goes comes in
    (both.0, subst (λ (x : Option Files). Comes x t.cursor is) (sym h.files) both.1)

-- ---- what comes, seen with n more in each number

module _ (n : ℕ) where
  pub coming-as : (told : Option Files) (c : PlainCursor) (xs ys : List PlainItem) → xs ≡ ys → Coming n told c xs → Coming n told c ys
  coming-as told c xs ys is h = subst (λ (zs : List PlainItem). Coming n told c zs) is h

  -- nothing was read
  pub coming-same : (xs : List PlainItem) (s t : State) → t.files ≡ s.files → t.cursor ≡ s.cursor → Coming n s.files s.cursor xs → Coming n t.files t.cursor xs
  coming-same xs s t files same h = subst (λ (f : Option Files). Coming n f t.cursor xs) (sym files) (subst (λ (c : PlainCursor). Coming n s.files c xs) (sym same) h)

  first-seen : (i x : PlainItem) (is xs : List PlainItem) → map (seen n) (i ∷ is) ≡ x ∷ xs → (seen n i ≡ x) × (map (seen n) is ≡ xs)
  first-seen i x is xs e = (let one : seen n i ≡ x = cc in let others : map (seen n) is ≡ xs = cc in (one, others))

  given-of : (items : List PlainItem) (x : PlainItem) (xs : List PlainItem) (s t : State) (item : Item) → Nexts s t item → Comes s.files s.cursor items → map (seen n) items ≡ x ∷ xs → (seen n (shown_item item) ≡ x) × Coming n t.files t.cursor xs
  given-of [] x xs s t item h comes are = absurd cc
  given-of (i ∷ is) x xs s t item h comes are =
      let gave = given i is s t item h comes in
      let parts = first-seen i x is xs are in
      (ap (seen n) gave.0 ∙ parts.0, record { items = is; comes = gave.1; are = parts.1 })

  -- the item that was given is the first of those that come, and the others come next
  pub arrived : (x : PlainItem) (xs : List PlainItem) (s t : State) (item : Item) → Nexts s t item → Coming n s.files s.cursor (x ∷ xs) → (seen n (shown_item item) ≡ x) × Coming n t.files t.cursor xs
  arrived x xs s t item h coming = given-of coming.items x xs s t item h coming.comes coming.are

  undamaged-of : (items : List PlainItem) (x : PlainItem) (xs : List PlainItem) (s t : State) (e : CursorFault) → Stays s t e → Comes s.files s.cursor items → map (seen n) items ≡ x ∷ xs → cursor.IfDamage e ⊥
  undamaged-of [] x xs s t e h comes are = absurd cc
  undamaged-of (i ∷ is) x xs s t e h comes are = h.undamaged i is comes

  -- where an item comes there is no damage
  pub undamaged : (x : PlainItem) (xs : List PlainItem) (s t : State) (e : CursorFault) → Stays s t e → Coming n s.files s.cursor (x ∷ xs) → cursor.IfDamage e ⊥
  undamaged x xs s t e h coming = undamaged-of coming.items x xs s t e h coming.comes coming.are

-- ---- what the code hands on

pub went : (told : Option Files) (old new : PlainCursor) (r : Result Item CursorFault) (item : Item) → r ≡ Ok item → Moves told old r new → Goes told old item new
went told old new r item is h = subst (λ (x : Result Item CursorFault). Moves told old x new) is h

pub stayed : (told : Option Files) (old new : PlainCursor) (r : Result Item CursorFault) (e : CursorFault) → r ≡ Err e → Moves told old r new → new ≡ old
stayed told old new r e is h = subst (λ (x : Result Item CursorFault). Moves told old x new) is h

-- the call of the cursor gave the item, by its clauses
pub nexts : (s t : State) (r : Result Item CursorFault) (item : Item) → IsMeter t.numbers → r ≡ Ok item → t.files ≡ s.files → t.draft ≡ s.draft → t.writer ≡ s.writer → t.numbers ≡ after_pull s.numbers (read_for s.cursor.standing (shown_item item)) → s.faults ≤ t.faults
    → Moves s.files s.cursor r t.cursor → Nexts s t item
nexts s t r item meter is files draft same numbers later moves = record { meter = meter; files = files; draft = draft; writer = same; numbers = numbers; later = later; goes = went s.files s.cursor t.cursor r item is moves }

-- the call of the cursor failed, by its clauses
pub stays-by : (s t : State) (r : Result Item CursorFault) (e : CursorFault) → r ≡ Err e → t.files ≡ s.files → t.draft ≡ s.draft → PullsAtMost (s.cursor.length - s.cursor.at) s.numbers t.numbers → s.faults ≤ t.faults → cursor.IfFolder e (Rose s.faults t.faults)
    → ((i : PlainItem) (is : List PlainItem) → Comes s.files s.cursor (i ∷ is) → cursor.IfDamage e ⊥) → Moves s.files s.cursor r t.cursor → Stays s t e
stays-by s t r e is files draft pulls later cause undamaged moves = record { files = files; draft = draft; pulls = pulls; later = later; cause = cause; same = stayed s.files s.cursor t.cursor r e is moves; undamaged = undamaged }

-- what is shown of the fault holds of the answer
pub at-err : {T E : Type 0} (r : Result T E) (f : E) → IsErrAnd r (λ d. d ≡ f) → (P : Result T E → Type 0) → P (Err f) → P r
at-err (Ok x) f h P p = absurd h
at-err {T = T} (Err d) f h P p = subst (λ z. P (Err z)) (sym h) p

-- a writer of which nothing is asked
abbrev pub nobody : PlainWriter
nobody = record { written = 0; row = row_from 0; inners = []; leaf = None }

-- ---- a draft that was empty

-- it is what was appended
pub blank-is : (o : Option (List ℕ)) (bytes x : List ℕ) → IsBlank o → Some bytes ≡ option_map (λ (d : List ℕ). d ++ x) o → bytes ≡ x
blank-is None bytes x blank is = absurd cc
blank-is (Some d) bytes x blank is = some_is bytes (d ++ x) is ∙ ap (λ (z : List ℕ). z ++ x) (blank d refl)

pub blank-one : (o : Option (List ℕ)) (file : List ℕ) → IsBlank o → option_map (λ (d : List ℕ). d ++ file) o ≡ option_map (λ (d : List ℕ). file) o
blank-one None file h = refl
blank-one (Some d) file h = ap (λ (b : List ℕ). Some (b ++ file)) (h d refl)
